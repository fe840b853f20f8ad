use Rattle.pg_config.specs.Config.{get_alignment_horizontal}
use Rattle.pg_picture.specs.Pieces.{style_at}
use Rattle.pg_picture.specs.Inside.{style_of}
use Rattle.pg_picture.proofs.PlacesOfTexts.{draws-across}
use Rattle.pg_picture.proofs.pen.Pen.push_placed_line.Goals as goal

-- where all lines have one left share, no alignment is asked for
pub push_line_in_style-requires : goal.push_line_in_style-requires
push_line_in_style-requires g c =
    let sheet = c.args.self.sheet.now in
    let pos = c.args.line.pos in
    rw (← c.args.self.is) (draws-across (style_of c.in-Some.style) (style_at sheet.config.now pos) (get_alignment_horizontal sheet.config.now pos) c.args.line.place.left _ c.in-Some-left.is (sheet.is_of_all c.in-Some.style c.in-Some.is pos))

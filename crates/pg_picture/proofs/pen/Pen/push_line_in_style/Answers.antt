use Rattle.std.proofs.Common.{refl, ap, ap₂, ◌∙◌}
use Rattle.pg_picture.specs.Pieces.{written, style_at}
use Rattle.pg_picture.specs.Inside.{style_of, placed_line}
use Rattle.pg_picture.proofs.Appending.{Appends-text}
use Rattle.pg_picture.proofs.PlacesOfTexts.{draws, room}
use Rattle.pg_picture.proofs.pen.Pen.push_line_in_style.Goals as goal

pub push_block_line_of-requires : goal.push_block_line_of-requires
push_block_line_of-requires g c =
    let line = c.args.line in
    λ below above. room (style_of c.args.style.now) (style_at g.T.TableMarker.table.config line.pos) line.place.left c.requires line.width line.text.now (line.has_room below above)

pub returns : goal.returns
returns g c =
    let line = c.args.line in
    let own = style_at g.T.TableMarker.table.config line.pos in
    Appends-text
    (ap written (draws (style_of c.args.style.now) own line.place.left c.requires _ line.place line.width line.number line.text.now refl
    ∙ ap (λ k. placed_line own k line.place line.width line.number line.text.now) c.color_of-color.ensures))
    c.push_block_line_of.ensures

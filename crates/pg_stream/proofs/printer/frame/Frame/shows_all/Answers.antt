use Rattle.std.proofs.Common.{sym, ap, ◌∙◌}
use Rattle.pg_picture.specs.Pieces.{style_at}
use Rattle.pg_picture.specs.Shown.{cell_shows_all}
use Rattle.pg_picture.specs.Sizes.{height_of_rect}
use Rattle.pg_picture.proofs.FittingTables.{some_is, none_is}
use Rattle.pg_picture.specs.Grids.{bare_table}
use Rattle.pg_stream.proofs.draw.OpenLists.{height-some}
use Rattle.pg_stream.proofs.printer.frame.Frame.shows_all.Goals as goal

pub returns-in-Some : goal.returns-in-Some
returns-in-Some g c =
    let t = bare_table g.D.Dimension.width g.D.Dimension.height g.C.Colors.color c.args.self.now.sheet in
    let told = height-some t c.args.pos c.height_of_rows.result c.requires.room.end c.requires.room.height c.height_of_rows.ensures in
    let high = some_is c.in-Some.height (height_of_rect t.config t.height c.args.pos) (sym c.in-Some.is ∙ told) in
    c.cell_shows_all.ensures ∙ ap (λ h. cell_shows_all (style_at t.config c.args.pos) c.args.text.now h) high

pub returns-in-None : goal.returns-in-None
returns-in-None g c =
    let t = bare_table g.D.Dimension.width g.D.Dimension.height g.C.Colors.color c.args.self.now.sheet in
    let told = height-some t c.args.pos c.height_of_rows.result c.requires.room.end c.requires.room.height c.height_of_rows.ensures in
    absurd (none_is (height_of_rect t.config t.height c.args.pos) (sym c.in-None.is ∙ told))

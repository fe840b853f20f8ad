use Rattle.std.proofs.Common.{sym, ◌∙◌}
use Rattle.pg_picture.specs.Grids.{bare_table}
use Rattle.pg_stream.proofs.printer.MakingPrinters.{room-from, room-fits, room-wide, room-high}
use Rattle.pg_stream.proofs.printer.frame.Frame.has_room.Goals as goal

pub returns-in-Some-Some : goal.returns-in-Some-Some
returns-in-Some-Some g c =
    let t = bare_table g.D.Dimension.width g.D.Dimension.height g.C.Colors.color c.args.self.now.sheet in (
      λ fits. room-from t c.args.pos c.args.text.now c.width_of_columns-width.result c.height_of_rows-height.result (c.width_of_columns-width.ensures 0) c.height_of_rows-height.ensures c.in-Some-Some.width c.in-Some-Some.height c.in-Some-Some.is-0 c.in-Some-Some.is-1 (sym c.kind_if_cell_fits.ensures.room ∙ sym c.is_some.ensures ∙ fits),
      λ room. c.is_some.ensures ∙ c.kind_if_cell_fits.ensures.room ∙ room-fits t c.args.pos c.args.text.now c.width_of_columns-width.result c.height_of_rows-height.result (c.width_of_columns-width.ensures 0) c.height_of_rows-height.ensures c.in-Some-Some.width c.in-Some-Some.height c.in-Some-Some.is-0 c.in-Some-Some.is-1 room,
    )

pub returns-in_default : goal.returns-in_default
returns-in_default g c =
    let t = bare_table g.D.Dimension.width g.D.Dimension.height g.C.Colors.color c.args.self.now.sheet in
    (λ no. cc, λ room. absurd (room-high t c.args.pos c.args.text.now c.width_of_columns-width.result c.height_of_rows-height.result (c.width_of_columns-width.ensures 0) c.height_of_rows-height.ensures room c.in_default.is-1))

pub returns-in_default-2 : goal.returns-in_default-2
returns-in_default-2 g c =
    let t = bare_table g.D.Dimension.width g.D.Dimension.height g.C.Colors.color c.args.self.now.sheet in
    (λ no. cc, λ room. absurd (room-wide t c.args.pos c.args.text.now c.width_of_columns-width.result c.height_of_rows-height.result (c.width_of_columns-width.ensures 0) c.height_of_rows-height.ensures room c.in_default.is-0))

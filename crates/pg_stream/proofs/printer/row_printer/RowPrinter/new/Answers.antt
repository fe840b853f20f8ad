use Rattle.std.proofs.Common.{◌∙◌, sym, subst, refl, arith, IsSome}
use Rattle.pg_picture.specs.Table.{full_width}
use Rattle.pg_picture.proofs.FittingTables.{some_is}
use Rattle.pg_stream.specs.Printing.{Printing, printer}
use Rattle.pg_stream.proofs.printer.Ending.{width-some, heights-fit, first-is, sound-first}
use Rattle.pg_stream.proofs.printer.row_printer.RowPrinter.new.Goals as goal

pub full_width-requires : goal.full_width-requires
unfolding printer
full_width-requires g c = omega (arith, c.requires.few)

pub unwrap-width-requires : goal.unwrap-width-requires
unfolding printer
unwrap-width-requires g c =
    let s : Printing = printer c.args.config.now c.args.columns (g.D.Dimension.width c.args.dimension.now) (g.D.Dimension.height c.args.dimension.now) (g.C.Colors.color c.args.colors.now) c.args.hint in
    subst IsSome (sym (width-some s c.full_width.result c.requires.width c.full_width.ensures)) refl

pub height_of_body-height-requires : goal.height_of_body-height-requires
unfolding printer
height_of_body-height-requires g c =
    let s : Printing = printer c.args.config.now c.args.columns (g.D.Dimension.width c.args.dimension.now) (g.D.Dimension.height c.args.dimension.now) (g.C.Colors.color c.args.colors.now) c.args.hint in
    heights-fit s c.requires

pub invariant_of-result : goal.invariant_of-result
unfolding printer
invariant_of-result g c =
    let s : Printing = printer c.args.config.now c.args.columns (g.D.Dimension.width c.args.dimension.now) (g.D.Dimension.height c.args.dimension.now) (g.C.Colors.color c.args.colors.now) c.args.hint in
    let sheet = c.new-sheet.ensures in
    record {
      printer =
          rw (sheet.config, sheet.dimension, sheet.colors, sheet.columns, sheet.width, sheet.height)
          (sound-first c.args.config.now c.args.columns (g.D.Dimension.width c.args.dimension.now) (g.D.Dimension.height c.args.dimension.now) (g.C.Colors.color c.args.colors.now) c.args.hint c.in_ok-cells.cells c.requires c.in_ok-cells.ensures c.unwrap-width.result c.height_of_body-height.result
          (some_is c.unwrap-width.result (full_width s.table) (sym c.unwrap-width.ensures ∙ width-some s c.full_width.result c.requires.width c.full_width.ensures)) c.height_of_body-height.ensures);
      kept = rw c.new-2.ensures.text tt;
    }

pub returns-clause-made : goal.returns-clause-made
returns-clause-made g c =
    let sheet = c.new-sheet.ensures in
    rw (sheet.config, sheet.dimension, sheet.colors, sheet.columns) (first-is c.args.config.now c.args.columns (g.D.Dimension.width c.args.dimension.now) (g.D.Dimension.height c.args.dimension.now) (g.C.Colors.color c.args.colors.now) c.args.hint c.in_ok-cells.cells c.requires c.in_ok-cells.ensures)

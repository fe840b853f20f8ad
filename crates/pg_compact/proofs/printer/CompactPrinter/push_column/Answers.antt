use Rattle.std.proofs.Common.{[], refl}
use Rattle.pg_picture.specs.CompactLines.{part_if, main_part}
use Rattle.pg_picture.specs.Inside.{open_parts, open_color}
use Rattle.pg_picture.proofs.Appending.{Appends-text, ◌then◌, stopped}
use Rattle.pg_picture.proofs.Separators.{IfOk-same}
use Rattle.pg_compact.specs.Inside.{printed_table, line_colors}
use Rattle.pg_compact.proofs.CompactRows.{open_parts-two, open_color-two, column-parts}
use Rattle.pg_compact.proofs.printer.CompactPrinter.push_column.Goals as goal

pub returns-in_err-run-clause-appends : goal.returns-in_err-run-clause-appends
returns-in_err-run-clause-appends g c =
    let t = printed_table g.D.Dimension.width g.C.Colors.color c.args.self.now [] in
    let colors = line_colors c.args.colors in
    let crossing = part_if c.crossing_before-crossing.result colors.intersection in
    let main = main_part c.args.glyphs.main colors.main c.get_width-width.result in
    let is = column-parts t c.args.glyphs colors c.args.column c.get_width-width.result c.crossing_before-crossing.ensures c.get_width-width.ensures in
    Appends-text (open_parts-two c.args.run crossing main is refl) (stopped (open_parts (open_color c.args.run crossing) main) c.from_residual.ensures.0 c.in_err-run.ensures.appends)

pub returns-clause-appends : goal.returns-clause-appends
returns-clause-appends g c =
    let t = printed_table g.D.Dimension.width g.C.Colors.color c.args.self.now [] in
    let colors = line_colors c.args.colors in
    let crossing = part_if c.crossing_before-crossing.result colors.intersection in
    let main = main_part c.args.glyphs.main colors.main c.get_width-width.result in
    let is = column-parts t c.args.glyphs colors c.args.column c.get_width-width.result c.crossing_before-crossing.ensures c.get_width-width.ensures in
    Appends-text (open_parts-two c.args.run crossing main is c.in_ok-run.ensures.color) (c.in_ok-run.ensures.appends then c.main.ensures.appends)

pub returns-clause-color : goal.returns-clause-color
returns-clause-color g c =
    let t = printed_table g.D.Dimension.width g.C.Colors.color c.args.self.now [] in
    let colors = line_colors c.args.colors in
    let crossing = part_if c.crossing_before-crossing.result colors.intersection in
    let main = main_part c.args.glyphs.main colors.main c.get_width-width.result in
    let is = column-parts t c.args.glyphs colors c.args.column c.get_width-width.result c.crossing_before-crossing.ensures c.get_width-width.ensures in
    IfOk-same (open_color-two c.args.run crossing main is c.in_ok-run.ensures.color) c.main.result c.main.ensures.color

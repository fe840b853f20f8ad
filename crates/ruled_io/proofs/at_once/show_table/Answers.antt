use Rattle.std.proofs.Common.{◌≡◌, ◌∙◌, [], List, None, Option, map, subst, sym, ap}
use Rattle.csv.specs.Records.{fields_of}
use Rattle.pg_layout.specs.Text.{Text}
use Rattle.pg_layout.specs.Colors.{Color}
use Rattle.pg_layout.specs.declared.position.Position.{Position}
use Rattle.ruled_table.specs.RowLines.{HasAppended}
use Rattle.ruled_table.specs.Layouts.{plan_in, with_colors, colored, layout_of, start_fault}
use Rattle.ruled_table.specs.View.{whole_table}
use Rattle.ruled_io.proofs.Shows.{view-draws, whole-draws}
use Rattle.ruled_io.proofs.at_once.show_table.Goals as goal

pub returns-in_err-table-clause-draws : goal.returns-in_err-table-clause-draws
returns-in_err-table-clause-draws g c = λ laid.
    let rows : List (List Text) = map fields_of c.args.rows.now in
    let options = c.args.options.now in
    view-draws (whole_table options rows) (start_fault (layout_of options rows)) (g.W.Write.contents c.args.out.now.writer) c.in_err-table.field-0.0 c.from_residual.result
    (λ kept. ap start_fault (sym laid) ∙ c.in_err-table.ensures.fault kept)
    c.from_residual.ensures.1

pub returns-clause-draws : goal.returns-clause-draws
returns-clause-draws g c = λ laid.
    let rows : List (List Text) = map fields_of c.args.rows.now in
    let options = c.args.options.now in
    let fine : start_fault (layout_of options rows) ≡ None = ap start_fault (sym laid) ∙ c.in_ok-table.ensures.fault in
    whole-draws options (plan_in c.args.layout.now) rows (start_fault (layout_of options rows)) (g.W.Write.contents c.args.out.now.writer) (g.W.Write.contents c.write_whole.new.out.writer) c.write_whole.result
    laid fine (c.write_whole.ensures.draws options (colored options rows (plan_in c.args.layout.now))
    (subst (λ (color : Position → Option Color). HasAppended options (with_colors color (plan_in c.args.layout.now)) [] c.in_ok-table.table) c.new-colors.ensures c.in_ok-table.ensures.begun))

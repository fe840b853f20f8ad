use Rattle.std.proofs.Common.{◌≡◌, ◌∙◌, ◌++◌, List, Option, map, sym, ap, subst}
use Rattle.std.specs.Option.{option_or}
use Rattle.std.specs.Io.KnownBytes.{Appends}
use Rattle.csv.specs.Records.{fields_of}
use Rattle.pg_layout.specs.Text.{Text}
use Rattle.ruled_table.specs.Arranged.{chosen_rows, count_text}
use Rattle.ruled_table.specs.View.{all_excess, all_fault, all_text, table_excess, table_fault, table_text}
use Rattle.ruled_table.specs.declared.view.ViewFault.{ViewFault}
use Rattle.ruled_io.proofs.Shows.{chosen-named, draws-behind, draws-handed, draws-with, returned-with, same-draws, told-with, view-draws, wrong-shown}
use Rattle.ruled_io.proofs.at_once.show_rows.Goals as goal

pub returns-in_err-chosen-clause-draws : goal.returns-in_err-chosen-clause-draws
returns-in_err-chosen-clause-draws g c =
    let all : List (List Text) = map fields_of c.args.rows.items in
    let options = c.args.options.now in
    view-draws (table_text options all) (table_fault options all) (g.W.Write.contents c.args.out.now.writer) c.in_err-chosen.field-0.0 c.from_residual.result
    (λ kept. ap (λ (w : Option ViewFault). option_or w (all_fault options (chosen_rows options all))) (c.in_err-chosen.ensures.fault kept)) c.from_residual.ensures.1

pub returns-in_err-wide-clause-draws : goal.returns-in_err-wide-clause-draws
returns-in_err-wide-clause-draws g c =
    let all : List (List Text) = map fields_of c.args.rows.items in
    let rows : List (List Text) = map fields_of c.in_ok-chosen.chosen.rows.items in
    let options = c.args.options.now in
    let old = g.W.Write.contents c.args.out.now.writer in
    let mid = g.W.Write.contents c.show_chosen.new.out.writer in
    let are : rows ≡ chosen_rows options all = c.in_ok-chosen.ensures.rows in
    let named = c.in_ok-chosen.ensures.fault in
    let count : Text = count_text options all in
    let drawn = draws-handed (all_text options rows) count (all_fault options rows) old mid c.in_err-wide.field-0.0 c.from_residual-in_err-wide.result
    (c.in_err-wide.ensures.draws (chosen-named options all rows are named)) c.from_residual-in_err-wide.ensures.1 in
    same-draws (all_text options rows ++ count) (table_text options all) (all_fault options rows) (table_fault options all) old mid c.from_residual-in_err-wide.result
    (ap (λ (t : Text). t ++ count) (ap (all_text options) are)) (wrong-shown options all rows are named) drawn

pub returns-clause-draws : goal.returns-clause-draws
returns-clause-draws g c =
    let all : List (List Text) = map fields_of c.args.rows.items in
    let rows : List (List Text) = map fields_of c.in_ok-chosen.chosen.rows.items in
    let options = c.args.options.now in
    let old = g.W.Write.contents c.args.out.now.writer in
    let mid = g.W.Write.contents c.show_chosen.new.out.writer in
    let new = g.W.Write.contents c.write.new.self.writer in
    let are : rows ≡ chosen_rows options all = c.in_ok-chosen.ensures.rows in
    let named = c.in_ok-chosen.ensures.fault in
    let (fine, drawn) = c.in_ok-wide.ensures.draws (chosen-named options all rows are named) in
    let count : c.as_bytes.result.now ≡ count_text options all = c.as_bytes.ensures.value ∙ c.in_ok-chosen.ensures.count in
    draws-with (table_text options all) (table_fault options all) old new c.write.result c.in_ok-wide.wide c.and.result c.and.ensures
    (draws-behind (all_text options (chosen_rows options all)) (count_text options all) c.as_bytes.result.now (table_fault options all) old mid new c.write.result
    (sym (wrong-shown options all rows are named) ∙ fine) (subst (Appends old mid) (ap (all_text options) are) drawn) count c.write.ensures.written c.write.ensures.begun c.write.ensures.failed)

pub returns-clause-told : goal.returns-clause-told
returns-clause-told g c = told-with _ _ c.write.result c.in_ok-wide.wide c.and.result c.and.ensures (λ none. c.write.ensures.told (c.in_ok-wide.ensures.told none))

pub returns-clause-wide : goal.returns-clause-wide
returns-clause-wide g c =
    let all : List (List Text) = map fields_of c.args.rows.items in
    let options = c.args.options.now in
    returned-with c.write.result c.in_ok-wide.wide (table_excess options all) c.and.result c.and.ensures (c.in_ok-wide.ensures.wide ∙ ap (all_excess options) c.in_ok-chosen.ensures.rows)

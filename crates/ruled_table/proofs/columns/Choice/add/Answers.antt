use Rattle.std.proofs.Common.{◌≡◌, ◌∙◌, ◌++◌, ◌==◌, List, ℕ, ap, arith, length, not, rules, vec_len}
use Rattle.std.proofs.lemmas.Grind.{common_steps}
use Rattle.csv.specs.Records.{fields_of}
use Rattle.ruled_table.specs.Columns.{meant}
use Rattle.ruled_table.proofs.WordsOfColumns.{asked_plainly, meant_plainly}
use Rattle.ruled_table.proofs.columns.Choice.add.Goals as goal

pub returns-in_ok-extend_from_slice-in-None-clause-asked : goal.returns-in_ok-extend_from_slice-in-None-clause-asked
returns-in_ok-extend_from_slice-in-None-clause-asked c =
    c.in_ok-extend_from_slice-in-None.ensures.items
    ∙ ap (λ (columns : List ℕ). c.args.self.now.asked.items ++ columns)
    (c.as_slice-in-None.ensures.value ∙ c.in_ok-columns-in-None.ensures ∙ asked_plainly (fields_of c.args.header.now) c.args.word.now c.in-None.ensures)

pub returns-in_ok-extend_from_slice-in-None-clause-some : goal.returns-in_ok-extend_from_slice-in-None-clause-some
returns-in_ok-extend_from_slice-in-None-clause-some c =
    let columns : c.in_ok-columns-in-None.columns.items ≡ meant (fields_of c.args.header.now) c.args.word.now =
    c.in_ok-columns-in-None.ensures ∙ meant_plainly (fields_of c.args.header.now) c.args.word.now c.in-None.ensures in
    let count : vec_len c.in_ok-columns-in-None.columns ≡ length c.in_ok-columns-in-None.columns.items = first_of (omega arith, search rules, grind (arith, common_steps)) in
    ap not (c.is_empty-in-None.ensures ∙ ap (λ (n : ℕ). n == 0) (count ∙ ap length columns))

use Rattle.std.proofs.Common.{◌≡◌, ◌∙◌, ◌-◌, ◌==◌, List, ℕ, Some, ap, arith, length, map, nat_eq, not, rules, subst, sym, true}
use Rattle.std.specs.Prelude.{IfOk}
use Rattle.std.specs.HashSet.{contains}
use Rattle.std.specs.List.{filter, range_with_len}
use Rattle.std.proofs.lemmas.Bool.{cond-true}
use Rattle.std.proofs.lemmas.Bool.Decides.{nat_tests}
use Rattle.ruled_table.specs.Columns.{asked_or_all}
use Rattle.ruled_table.proofs.columns.Choice.shown.Goals as goal

pub returns : goal.returns
returns c =
    let columns : ℕ = c.args.columns in
    let asked : List ℕ = c.args.self.now.asked.items in
    let none : (length asked == 0) ≡ true = first_of (search rules, grind (arith, nat_tests)) in
    let same : columns - 0 ≡ columns = omega arith in
    let all : c.as_slice-2.result.now ≡ asked_or_all columns asked =
    c.as_slice-2.ensures.value ∙ c.in_ok-all.ensures ∙ ap (range_with_len 0) same ∙ sym (cond-true (length asked == 0) (range_with_len 0 columns) asked none) in
    subst (λ (places : List ℕ). IfOk c.staying-2.result (λ shown. shown.items ≡ map Some (filter (λ column. not (contains nat_eq c.args.self.now.left_out column)) places))) all c.staying-2.ensures

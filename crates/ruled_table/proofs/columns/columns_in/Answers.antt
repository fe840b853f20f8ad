use Rattle.std.proofs.Common.{◌≡◌, length, nat_eq, arith, rules}
use Rattle.std.proofs.lemmas.Bool.Decides.{nat_tests}
use Rattle.std.specs.HashSet.{contains}
use Rattle.csv.specs.Records.{fields_of}
use Rattle.ruled_table.proofs.WordsOfColumns.{all_shown, none_missing, shown_columns}
use Rattle.ruled_table.proofs.columns.columns_in.Goals as goal

pub returns-then-is_empty-clause-places : goal.returns-then-is_empty-clause-places
returns-then-is_empty-clause-places c =
    let none : length c.args.words.now ≡ 0 = first_of (search rules, grind (arith, nat_tests)) in
    all_shown c.args.words.now (fields_of c.args.header.now) _ _ c.in_ok-all_columns.ensures (omega arith) none

pub returns-then-is_empty-clause-found : goal.returns-then-is_empty-clause-found
returns-then-is_empty-clause-found c =
    let none : length c.args.words.now ≡ 0 = first_of (search rules, grind (arith, nat_tests)) in
    none_missing c.args.words.now (fields_of c.args.header.now) none

pub returns-clause-places : goal.returns-clause-places
returns-clause-places c =
    shown_columns c.args.words.now (fields_of c.args.header.now) _ _ (contains nat_eq c.in_ok-choice.choice.left_out) _ c.in_ok-shown.ensures (omega arith) c.in_ok-choice.ensures.asked c.in_ok-choice.ensures.left_out

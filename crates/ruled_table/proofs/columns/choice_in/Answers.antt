use Rattle.std.proofs.Common.{◌≡◌, ◌==◌, ap, false, length, option_map, string_bytes, true, arith, rules}
use Rattle.std.proofs.lemmas.Grind.{common_steps}
use Rattle.std.proofs.lemmas.Iterator.Adapters.{position_from-zero}
use Rattle.csv.specs.Records.{fields_of}
use Rattle.ruled_table.specs.Columns.{meant}
use Rattle.ruled_table.specs.declared.view.ViewFault.TheVariants.{Column}
use Rattle.ruled_table.proofs.WordsOfColumns.{asked_next, left_out_next, missing_here, missing_next}
use Rattle.ruled_table.proofs.columns.choice_in.Goals as goal

pub loop-at-init : goal.loop-at-init
loop-at-init c = record {
  asked = first_of (search rules, grind (arith, common_steps));
  left_out = λ column. first_of (search rules, grind (arith, common_steps));
  missing = position_from-zero (λ word. length (meant (fields_of c.args.header.now) (string_bytes word)) == 0) c.args.words.now;
}

pub loop-at-preserved : goal.loop-at-preserved
loop-at-preserved c =
    let words = c.args.words.now in
    let header = fields_of c.args.header.now in
    let i = c.loop-at.at in
    let word = c.index-words-at.result in
    let read : c.as_str.result.now ≡ string_bytes word = search rules in
    let some : c.in_ok-add.field-0 ≡ true = search rules in
    record {
      asked = asked_next words header i word c.as_str.result.now (omega arith) c.index-words-at.is read _ _ c.loop-at.invariant.asked c.in_ok-add.ensures.asked;
      left_out = λ column. left_out_next words header i word c.as_str.result.now (omega arith) c.index-words-at.is read column _ _ (c.loop-at.invariant.left_out column) (c.in_ok-add.ensures.left_out column);
      missing = missing_next words header i word c.as_str.result.now (omega arith) c.index-words-at.is read c.in_ok-add.field-0 c.in_ok-add.ensures.some some c.loop-at.invariant.missing;
    }

pub returns-then-not-branch-clause-fault : goal.returns-then-not-branch-clause-fault
returns-then-not-branch-clause-fault c =
    let words = c.args.words.now in
    let header = fields_of c.args.header.now in
    let i = c.loop-at.at in
    let word = c.index-words-at.result in
    let read : c.as_str.result.now ≡ string_bytes word = search rules in
    let some : c.in_ok-add.field-0 ≡ false = search rules in
    λ counts. ap (option_map Column) (missing_here words header i word c.as_str.result.now (omega arith) c.index-words-at.is read c.in_ok-add.field-0 c.in_ok-add.ensures.some some c.loop-at.invariant.missing)

use Rattle.std.proofs.Common.{◌≡◌, ◌==◌, ℕ, nat_eq, length, take, drop, string_bytes}
use Rattle.std.specs.HashSet.{contains}
use Rattle.std.specs.List.{position_from}
use Rattle.csv.specs.Records.{fields_of}
use Rattle.ruled_table.specs.Columns.{asked, is_left_out, meant, missing_word}
use Rattle.ruled_table.proofs.columns.choice_in.Given as goal

abbrev pub invariant-loop-at : goal.invariant-loop-at
invariant-loop-at l = record {
  asked : l.choice.asked.items ≡ asked (take l.at l.words) (fields_of l.header);
  left_out : (column : ℕ) → contains nat_eq l.choice.left_out column ≡ is_left_out (take l.at l.words) (fields_of l.header) column;
  missing : missing_word l.words (fields_of l.header) ≡ position_from (λ word. length (meant (fields_of l.header) (string_bytes word)) == 0) l.at (drop l.at l.words);
}

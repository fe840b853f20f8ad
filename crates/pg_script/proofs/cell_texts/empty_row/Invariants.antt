use Rattle.std.proofs.Common.{◌≡◌, [], length, map, replicate, string_bytes}
use Rattle.pg_script.proofs.cell_texts.empty_row.Given as goal

abbrev pub invariant-loop : goal.invariant-loop
invariant-loop g l = record {
  counted : length l.row.items ≡ l.counter;
  texts : map string_bytes l.row.items ≡ replicate l.counter [];
}

use Rattle.std.proofs.Common.{◌≡◌, [], length, map, replicate, string_bytes, All}
use Rattle.pg_script.proofs.cell_texts.CellTexts.empty.Given as goal

abbrev pub invariant-loop : goal.invariant-loop
invariant-loop g l = record {
  counted : length l.rows.items ≡ l.counter;
  even : All (λ row. length row.items ≡ l.size.columns) l.rows.items;
  texts : map (λ row. map string_bytes row.items) l.rows.items ≡ replicate l.counter (replicate l.size.columns []);
}

use Rattle.std.proofs.Common.{◌≡◌, ◌+◌, ◌++◌, ℕ, List, map, length, Ok}
use Rattle.std.specs.Prelude.{All}
use Rattle.csv.specs.Records.{fields_of}
use Rattle.ruled_database.specs.Listings.{rows_to_come}
use Rattle.ruled_database.specs.Trees.{page_count, Gives, Stored}
use Rattle.ruled_database.specs.Tables.{HasWrongText, shown_rows_of, tree_rows}
use Rattle.ruled_database.proofs.table.push_rows.Given as goal

-- the rows that were taken are those before the ones to come
abbrev pub invariant-loop-reader : goal.invariant-loop-reader
invariant-loop-reader l = record {
  file : l.reader.overflow.file ≡ l.fn.file;
  taken : List Stored;
  walked : tree_rows l.fn.limit l.fn.file.bytes.now l.definition.tree l.root ≡ (taken ++ (rows_to_come l.stored).0, (rows_to_come l.stored).1);
  texts : All (λ row. ¬ HasWrongText l.fn.file.bytes.now l.definition row) taken;
  counted : length l.rows.items ≡ l.above + length taken;
  rows : Gives {U = ℕ} (shown_rows_of l.fn.file.bytes.now l.definition taken) (page_count l.fn.file.bytes.now) l.reader.overflow.left (map fields_of l.fn.rows.items) (map fields_of l.rows.items) (Ok 0);
}

abbrev pub decreases-loop-reader : goal.decreases-loop-reader
decreases-loop-reader l = length (rows_to_come l.stored).0

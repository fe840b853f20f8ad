use Rattle.std.proofs.Common.{◌≡◌, ◌∷◌, drop, map, string_bytes, take}
use Rattle.csv.specs.Records.{fields_of}
use Rattle.ruled_sql.specs.Filled.{table_of}
use Rattle.ruled_io.specs.Input.{further_table, tables_fault}
use Rattle.ruled_io.proofs.database.tables_of.Given as goal

abbrev pub invariant-loop-number : goal.invariant-loop-number
invariant-loop-number l = record {
  tables : map table_of l.tables.items ≡ (string_bytes l.query.table, map fields_of l.fn.rows.items) ∷ map (further_table l.query) (take l.number l.query.tables.items);
  fault : tables_fault l.query 0 l.query.tables.items ≡ tables_fault l.query l.number (drop l.number l.query.tables.items);
}

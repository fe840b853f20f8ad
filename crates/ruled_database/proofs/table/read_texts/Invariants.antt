use Rattle.std.proofs.Common.{◌≡◌, [], map, take}
use Rattle.csv.specs.Records.{fields_of, partial_of}
use Rattle.ruled_database.specs.Tables.{shown_text, value_in}
use Rattle.ruled_database.specs.declared.definition.Column.{Column}
use Rattle.ruled_database.proofs.table.read_texts.Given as goal

abbrev pub invariant-loop-column : goal.invariant-loop-column
invariant-loop-column l = record {
  fields : fields_of l.texts ≡ map (λ (it : Column). shown_text l.definition.null (value_in l.definition l.key l.values it)) (take l.column-index l.column-items);
  partial : partial_of l.texts ≡ [];
}

use Rattle.std.proofs.Common.{◌≡◌, Bor, ℕ, List, refl}
use Rattle.csv.specs.Records.{fields_of}
use Rattle.pg_layout.proofs.Given.{yields-all}
use Rattle.ruled_table.specs.Columns.{fields_at, texts_of}
use Rattle.ruled_table.specs.declared.lent_rows.LentColumns.{LentColumns}
use Rattle.ruled_table.specs.declared.lent_rows.LentRowsIter.{LentRowsIter}
use Rattle.ruled_table.proofs.lent_rows.LentRowsRecords.iter_rows.Goals as goal

pub returns : goal.returns
returns c = record {
  can_next = tt;
  ends = tt;
  gives = yields-all {S = LentRowsIter} {A = LentColumns} _ (λ row. fields_at row.places.now (fields_of row.fields.now)) (λ s. texts_of s.rows)
      (λ row. record { can_next = tt; ends = tt; gives = yields-all {S = LentColumns} {A = Bor (List ℕ)} (λ x y. x.now ≡ y) (λ x. x.now) (λ s. fields_at s.places.now (fields_of s.fields.now)) (λ x. refl) row (fields_at row.places.now (fields_of row.fields.now)) refl }) _ _ refl;
}

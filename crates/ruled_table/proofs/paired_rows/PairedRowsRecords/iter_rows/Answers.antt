use Rattle.std.proofs.Common.{◌≡◌, Bor, ℕ, List, refl}
use Rattle.pg_layout.proofs.Given.{yields-all}
use Rattle.ruled_table.specs.Columns.{pairs_in, texts_left}
use Rattle.ruled_table.specs.declared.paired_rows.PairTexts.{PairTexts}
use Rattle.ruled_table.specs.declared.paired_rows.PairedRowsIter.{PairedRowsIter}
use Rattle.ruled_table.proofs.paired_rows.PairedRowsRecords.iter_rows.Goals as goal

pub returns : goal.returns
returns c = record {
  can_next = tt;
  ends = tt;
  gives = yields-all {S = PairedRowsIter} {A = PairTexts} _ texts_left (λ s. pairs_in s.rows)
      (λ row. record { can_next = tt; ends = tt; gives = yields-all {S = PairTexts} {A = Bor (List ℕ)} (λ x y. x.now ≡ y) (λ x. x.now) texts_left (λ x. refl) row (texts_left row) refl }) _ _ refl;
}

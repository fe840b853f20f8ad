use Rattle.std.proofs.Common.{◌≡◌, refl, Vec, vec_len}
use Rattle.std.specs.Iterator.{at_most}
use Rattle.std.specs.Vec.Iter.{into_iter_items, into_iter_len, into_iter_steps}
use Rattle.pg_layout.specs.Records.{Gives}
use Rattle.pg_layout.specs.declared.vec_records.OwnedColumns.{OwnedColumns}
use Rattle.pg_layout.specs.declared.vec_records.OwnedRows.{OwnedRows}
use Rattle.pg_layout.proofs.Given.{made-of-items, vectors-given}
use Rattle.pg_layout.proofs.vec_records.VecRecordsRecords.iter_rows.Goals as goal

pub returns : goal.returns
returns g c =
    let rows = c.into_iter.result in
    let becomes : Vec g.row.T.Denot g.row.A.Denot → OwnedColumns g.row.T.Denot g.row.A.Denot → Type 0 = λ row s. (into_iter_items s.cells ≡ row.items) × (into_iter_len s.cells ≡ vec_len row) in
    made-of-items {W = OwnedRows g.row.T.Denot g.row.A.Denot} (λ s. s.rows) into_iter_steps becomes (Gives (λ x y. g.T.AsStr.text x ≡ y) (λ _. Unit {0}) (λ s r t. into_iter_steps s.cells r t.cells) (λ s. at_most (into_iter_len s.cells))) _ _ (record { rows = rows }) rows _ refl
    (vectors-given g.T.AsStr.text (λ s. s.cells) becomes (λ row cells is. is) rows c.self.inside.rows c.args.self c.into_iter.ensures.rest c.into_iter.ensures.len c.self.view_is)

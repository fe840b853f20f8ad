use Rattle.std.proofs.Common.{◌≡◌, ◌∙◌, sym, ap, None, map}
use Rattle.pg_layout.specs.Records.{columns_of, ragged_row}
use Rattle.pg_layout.proofs.Given.{even-texts}
use Rattle.pg_layout.proofs.vec_records.RefVecRecordsRecords.count_columns.Goals as goal

pub returns-clause-even : goal.returns-clause-even
returns-clause-even g c =
    let even : ragged_row c.args.self.now.now ≡ None = sym (ap (λ r. ragged_row r.now) c.self.view_is) ∙ c.self.invariant in
    let is : c.first_length.result ≡ columns_of c.args.self.now.now = c.first_length.ensures ∙ ap (λ rows. columns_of (map (λ row. row.items) rows)) c.deref.ensures.value ∙ ap (λ r. columns_of r.now) c.self.view_is in
    λ readable k d h. even-texts g.T.AsStr.text c.args.self.now.now even k d h ∙ sym is

use Rattle.std.proofs.Common.{◌≡◌, refl, sym, map, ap, ◌∙◌, Bor, List, ℕ}
use Rattle.std.proofs.lemmas.Simd.{map-map}
use Rattle.pg_layout.proofs.Given.{yields-all}
use Rattle.pg_layout.proofs.vec_records.RefVecRecordsRecords.iter_rows.Goals as goal

pub returns : goal.returns
returns g c = record {
  can_next = tt;
  ends = tt;
  gives = yields-all _ _ _
      (λ row. record { can_next = tt; ends = tt; gives = yields-all {A = Bor (List ℕ)} (λ x y. x.now ≡ y) (λ x. x.now) (λ s. map g.T.AsStr.text s.cells.now) (λ x. refl) row (map g.T.AsStr.text row.cells.now) refl }) _ _
      (ap (λ rows. map (λ row. map g.T.AsStr.text row.items) rows) c.as_slice.ensures.value
      ∙ sym (map-map (λ row. map g.T.AsStr.text row) (λ row. row.items) c.self.inside.rows.items)
      ∙ ap (λ rows. map (λ row. map g.T.AsStr.text row) rows) c.self.view_is);
}

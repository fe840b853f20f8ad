use Rattle.std.proofs.Common.{ap, refl, sym, ◌∙◌, length, map}
use Rattle.std.specs.Vec.Iter.{into_iter_items}
use Rattle.std.proofs.lemmas.List.{nil_from_length}
use Rattle.pg_layout.proofs.GivenArrays.{arrays-readable}
use Rattle.pg_bench.proofs.values.records.rows_of_arrays_are_read.Goals as goal

pub iter_rows-requires : goal.iter_rows-requires
iter_rows-requires c =
    let shown = c.into_iter.ensures.rest ∙ c.in_ok-rows.ensures.items in
    arrays-readable (λ cell. cell.now) _ (λ row s is. is.0) _ (λ s. tt) _ (λ s. tt) _ _ (λ s. tt) into_iter_items
    (λ s t step. nil_from_length (into_iter_items s) (sym s.rest.ok.0 ∙ step.0)) (λ s row t step. step.0)
    c.new-records.result c.into_iter.result _ 2 _ c.new-records.ensures shown (refl, (refl, tt)) (ap (λ rows. length (map (λ row. map (λ cell. cell.now) row) rows)) (sym shown))

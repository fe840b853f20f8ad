use Rattle.std.proofs.Common.{◌≡◌, ℕ, List, [], ◌∷◌, None, map, replicate, slice_index_or, refl, sym, ap, ap₂, ◌∙◌, subst}
use Rattle.std.specs.Borrow.{Bor}
use Rattle.pg_layout.specs.Records.{Given, columns_of}
use Rattle.pg_layout.specs.Text.{Text}
use Rattle.pg_layout.proofs.GivenArrays.{arrays-readable}
use Rattle.pg_picture.specs.Fits.{misfit_of}
use Rattle.pg_picture.specs.Sizes.{table_of}
use Rattle.pg_testing.specs.declared.unhinted.Repeated.{Repeated}
use Rattle.pg_picture.proofs.FittingTables.{misfit-parts, none-of-ok}
use Rattle.pg_bench.proofs.Alike.{left_of, none-left, one-left, alike-fit, texts-alike, columns-texts, even-alike, exact-alike}
use Rattle.pg_bench.proofs.streams.given.draw_given.Goals as goal

pub build-requires-clause-readable : goal.build-requires-clause-readable
build-requires-clause-readable g c =
    let cell = c.args.alike.cell in
    let row : List (Bor Text) = cell ∷ cell ∷ cell ∷ [] in
    rw (ap (λ p. p.0) c.new-grid.ensures) (arrays-readable (λ cell. cell.now) _ (λ row s is. is.0) _ (λ s. tt) _ (λ s. tt) _ _ (λ s. tt) left_of (λ s t step. none-left s step) (λ s x t step. one-left s x t step)
    c.new-records.result c.new.result (left_of c.new.result) 3 c.args.alike.hint c.new-records.ensures refl (rw c.new.ensures.item (even-alike row c.new.result.left)) (exact-alike (λ cell. cell.now) c.new.result c.args.alike.count c.args.alike.hint c.new.ensures.left c.requires.hint))

pub build-requires-clause-fits : goal.build-requires-clause-fits
build-requires-clause-fits g c =
    let cell = c.args.alike.cell in
    let row : List (Bor Text) = cell ∷ cell ∷ cell ∷ [] in
    let config = c.args.config.now in
    let width : ℕ → ℕ = λ i. slice_index_or c.args.dimension.now.0.items i 0 in
    let height : ℕ → ℕ = λ i. slice_index_or c.args.dimension.now.1.items i 0 in
    let texts : List (List (Bor Text)) → List (List Text) = λ rows. map (λ row. map (λ x. x.now) row) rows in
    let rows = c.args.rows.now in
    let held = ap (λ n. misfit_of (table_of config width height (texts rows) n)) (sym (columns-texts (λ (x : Bor Text). x.now) rows)) ∙ none-of-ok _ (sym c.table_fits.ensures ∙ c.in_ok-table_fits.was) in
    let fit = alike-fit config width height (map (λ x. x.now) row) c.args.alike.count (subst (λ (ts : List (List Text)). misfit_of (table_of config width height ts (columns_of ts)) ≡ None) c.requires.rows held) in
    let given : texts (left_of c.new.result) ≡ replicate c.args.alike.count (map (λ x. x.now) row) =
    ap₂ (λ (n : ℕ) (x : List (Bor Text)). texts (replicate n x)) c.new.ensures.left c.new.ensures.item ∙ texts-alike (λ x. x.now) row c.args.alike.count in
    misfit-parts (λ (r : Given (Repeated (List (Bor Text)))). r.texts) (λ r. r.columns) (λ d i. slice_index_or d.now.0.items i 0) (λ d i. slice_index_or d.now.1.items i 0) (λ colors pos. None)
    c.new-grid.ensures
    (ap (λ (r : Given (Repeated (List (Bor Text)))). misfit_of (table_of config width height r.texts r.columns)) c.new-records.ensures ∙ ap (λ ts. misfit_of (table_of config width height ts 3)) given ∙ fit)

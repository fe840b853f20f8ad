use Rattle.std.proofs.Common.{◌≡◌, ℕ, List, [], ◌∷◌, map, replicate, ap, ◌∙◌, arith}
use Rattle.std.specs.Borrow.{Bor}
use Rattle.std.proofs.lemmas.Simd.{map-map}
use Rattle.pg_layout.specs.Text.{Text}
use Rattle.pg_bench.proofs.streams.given.rows_of.Goals as goal

pub returns : goal.returns
returns c =
    let texts : List (Bor Text) → List Text = λ row. map (λ x. x.now) row in
    let cell = c.args.cell.now in
    let done : c.loop-done._done ≡ c.args.count = omega (arith, c.loop-done-test.false, c.loop-done.auto._done-end) in
    ap (λ rows. map texts rows) c.in_ok-new.ensures.rows ∙ map-map texts (λ row. row.items) c.loop-done.rows.items ∙ c.loop-done.invariant ∙ ap (λ n. replicate n (cell ∷ cell ∷ cell ∷ [])) done

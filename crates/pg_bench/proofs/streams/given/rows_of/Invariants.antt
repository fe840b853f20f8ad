use Rattle.std.proofs.Common.{◌≡◌, [], ◌∷◌, map, replicate}
use Rattle.pg_bench.proofs.streams.given.rows_of.Given as goal

abbrev pub invariant-loop-done : goal.invariant-loop-done
invariant-loop-done l = map (λ row. map (λ x. x.now) row.items) l.rows.items ≡ replicate l._done (l.cell ∷ l.cell ∷ l.cell ∷ [])

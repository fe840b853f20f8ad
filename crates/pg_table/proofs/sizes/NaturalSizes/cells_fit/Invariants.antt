use Rattle.std.proofs.Common.{◌≡◌, ℕ, ◌<◌, ◌||◌, not, true}
use Rattle.std.specs.List.{range_with_len, list_all}
use Rattle.pg_layout.specs.Position.{at}
use Rattle.pg_layout.specs.Records.{text_at}
use Rattle.pg_config.specs.Spans.{is_visible}
use Rattle.pg_table.specs.Natural.{is_sized}
use Rattle.pg_table.proofs.sizes.NaturalSizes.cells_fit.Given as goal

-- those so far fit
abbrev pub invariant-loop-row : goal.invariant-loop-row
invariant-loop-row g l = (r : ℕ) → r < l.row
    → list_all (λ c. not (is_visible l.self.config.now.spans (at r c)) || is_sized l.self.config.now (text_at (g.R.Records.texts l.self.records)) (at r c)) (range_with_len 0 (g.R.Records.columns l.self.records)) ≡ true

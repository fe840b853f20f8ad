use Rattle.std.proofs.Common.{◌≡◌, ℕ, ◌<◌, ◌||◌, not, true}
use Rattle.pg_layout.specs.Position.{at}
use Rattle.pg_layout.specs.Records.{text_at}
use Rattle.pg_config.specs.Spans.{is_visible}
use Rattle.pg_table.specs.Natural.{is_sized}
use Rattle.pg_table.proofs.sizes.NaturalSizes.row_fits.Given as goal

-- those so far fit
abbrev pub invariant-loop-col : goal.invariant-loop-col
invariant-loop-col g l = (k : ℕ) → k < l.col → (not (is_visible l.self.config.now.spans (at l.fn.row k)) || is_sized l.self.config.now (text_at (g.R.Records.texts l.self.records)) (at l.fn.row k)) ≡ true

use Rattle.std.proofs.Common.{◌≡◌, ◌≤◌, count_by}
use Rattle.std.specs.List.{range_with_len}
use Rattle.pg_config.specs.Config.{has_horizontal}
use Rattle.pg_config.proofs.spanned.SpannedConfig.count_horizontals.Given as goal

-- how many of the steps so far are there
abbrev pub invariant-loop-step : goal.invariant-loop-step
invariant-loop-step g l = (l.found ≤ l.step) × (l.found ≡ count_by (λ r. has_horizontal l.self r l.rows) (range_with_len l.first l.step))

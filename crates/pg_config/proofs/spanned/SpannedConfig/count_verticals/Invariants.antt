use Rattle.std.proofs.Common.{◌≡◌, ◌≤◌, count_by}
use Rattle.std.specs.List.{range_with_len}
use Rattle.pg_config.specs.Config.{has_vertical}
use Rattle.pg_config.proofs.spanned.SpannedConfig.count_verticals.Given as goal

-- how many of the steps so far are there
abbrev pub invariant-loop-step : goal.invariant-loop-step
invariant-loop-step g l = (l.found ≤ l.step) × (l.found ≡ count_by (λ c. has_vertical l.self c l.columns) (range_with_len l.first l.step))

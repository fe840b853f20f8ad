use Rattle.std.proofs.Common.{◌≡◌, Some}
use Rattle.pg_config.specs.Inside.{with_line}
use Rattle.pg_config.proofs.crossings.mark_line.Given as goal

abbrev pub invariant-loop-step : goal.invariant-loop-step
invariant-loop-step g l = l.marks ≡ with_line l.side (Some l.at) l.first l.step l.initial.marks

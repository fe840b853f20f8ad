use Rattle.std.proofs.Common.{◌≡◌, ◌++◌, drop}
use Rattle.pg_fit.specs.Narrowing.{handed_out}
use Rattle.pg_fit.proofs.narrowing.narrow.Given as goal

abbrev pub invariant-loop-column : goal.invariant-loop-column
invariant-loop-column g l = l.widths.items ++ handed_out l.left l.level (drop l.column-index l.columns) ≡ handed_out l.initial.left l.level l.columns

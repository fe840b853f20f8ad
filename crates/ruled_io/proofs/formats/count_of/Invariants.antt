use Rattle.std.proofs.Common.{◌≡◌, ◌≤◌, ◌+◌, drop}
use Rattle.std.specs.Prelude.{◌==◌}
use Rattle.std.specs.List.{count_by}
use Rattle.ruled_io.specs.Formats.{count_of, outside}
use Rattle.ruled_io.proofs.formats.count_of.Given as goal

abbrev pub invariant-loop-other : goal.invariant-loop-other
invariant-loop-other l =
    (l.count ≤ l.other-index)
    × (l.count + count_by (λ other. other == l.byte) (outside l.rules l.is_quoted (drop l.other-index l.line)) ≡ count_of l.rules l.line l.byte)

use Rattle.std.proofs.Common.{◌≡◌, ◌+◌, length, None}
use Rattle.std.specs.Str.Lines.{lines}
use Rattle.pg_script.specs.Script.{read_lines}
use Rattle.pg_script.proofs.reading.read_size.Given as goal

-- the lines that are left tell what all lines tell
abbrev pub invariant-loop-line : goal.invariant-loop-line
invariant-loop-line l = record {
  counted : l.number + length (lines l.rest.rest.now) ≡ l.fn.number + length (lines l.fn.rest.rest.now);
  read : read_lines l.number None (lines l.rest.rest.now) ≡ read_lines l.fn.number None (lines l.fn.rest.rest.now);
}

abbrev pub decreases-loop-line : goal.decreases-loop-line
decreases-loop-line l = length (lines l.rest.rest.now)

use Rattle.std.proofs.Common.{◌≡◌, ◌++◌, length, map}
use Rattle.ruled_json.specs.Rows.{lines_of}
use Rattle.ruled_json.proofs.lines.lines_of.Given as goal

abbrev pub invariant-loop-line : goal.invariant-loop-line
invariant-loop-line l = lines_of l.bytes ≡ map (λ line. line.now) l.lines.items ++ lines_of l.rest

abbrev pub decreases-loop-line : goal.decreases-loop-line
decreases-loop-line l = length l.rest

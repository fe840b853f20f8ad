use Rattle.std.proofs.Common.{◌≡◌, ◌++◌, map}
use Rattle.std.specs.String.{string_bytes}
use Rattle.std.specs.List.{join_with_byte}
use Rattle.pg_layout.specs.Text.{lines_of}
use Rattle.pg_fit.specs.Cutting.{cut_away_line}
use Rattle.pg_fit.proofs.FilledLines.{fed}
use Rattle.pg_fit.proofs.cutting_away.cut_away.Given as goal

abbrev pub invariant-loop-line : goal.invariant-loop-line
invariant-loop-line g l = string_bytes l.out ++ fed (map (cut_away_line l.kept l.width l.tail) l.line-iterator) ≡ join_with_byte 10 (map (cut_away_line l.kept l.width l.tail) (lines_of l.text))

use Rattle.std.proofs.Common.{◌≡◌, ◌++◌}
use Rattle.std.specs.List.{flat_map}
use Rattle.std.specs.String.{string_bytes}
use Rattle.pg_layout.specs.Text.{lines_of}
use Rattle.std.specs.List.{join_with_byte}
use Rattle.pg_fit.proofs.FilledLines.{fed}
use Rattle.pg_fit.specs.Wrapping.{wrapped_line}
use Rattle.pg_fit.proofs.wrapping.wrap.Given as goal

abbrev pub invariant-loop-line : goal.invariant-loop-line
invariant-loop-line g l = string_bytes l.out ++ fed (flat_map (wrapped_line l.breaking l.width) l.line-iterator) ≡ join_with_byte 10 (flat_map (wrapped_line l.breaking l.width) (lines_of l.text))

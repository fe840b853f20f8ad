use Rattle.std.proofs.Common.{◌≡◌, []}
use Rattle.pg_config.specs.Inside.{with_spans}
use Rattle.pg_config.proofs.crossings.marks_of.Given as goal

-- what is left is told by the spans that are left
abbrev pub invariant-loop-place : goal.invariant-loop-place
invariant-loop-place g l = record {
  marks : with_spans l.size.0 l.size.1 l.place-iterator l.marks ≡ with_spans l.size.0 l.size.1 l.spans [];
  nothing : l.spans ≡ [] → l.place-iterator ≡ [];
}

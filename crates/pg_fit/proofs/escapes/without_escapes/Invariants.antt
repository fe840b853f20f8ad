use Rattle.std.proofs.Common.{◌≡◌, ◌++◌, ℕ, List, string_bytes}
use Rattle.std.specs.Str.{encode_utf8_all}
use Rattle.pg_fit.specs.Escapes.{shown_behind}
use Rattle.pg_fit.proofs.LawsOfEscapes.{shown_in}
use Rattle.pg_fit.proofs.escapes.without_escapes.Given as goal

-- whatever is still to come
abbrev pub invariant-loop-c : goal.invariant-loop-c
invariant-loop-c g l = (rest : List ℕ) → string_bytes l.out ++ encode_utf8_all (shown_in l.reading rest) ≡ encode_utf8_all (shown_behind 0 (l.yielded ++ rest))

use Rattle.std.proofs.Common.{◌≡◌, ◌++◌}
use Rattle.pg_picture.specs.Pieces.{repeated}
use Rattle.pg_compact.proofs.short_text.ShortText.push_repeated.Given as goal

-- the characters so far
abbrev pub invariant-loop : goal.invariant-loop
invariant-loop l = l.self ≡ l.fn.self ++ repeated l.fn.c l.counter

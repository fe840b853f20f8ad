use Rattle.std.specs.Prelude.{ℕ, ◌+◌, ◌-◌, ◌^◌, min, Bool, false, not, ◌||◌, ◌==◌, nat_lt}
use Rattle.pg_testing.specs.declared.ledger.Rule.{Rule}
use Rattle.pg_testing.specs.declared.ledger.Rule.TheVariants.{Never, FromOn, Only}
use Rattle.pg_testing.specs.declared.ledger.Ledger.{Ledger}

-- whether the call of this number fails, the first being number 0
abbrev pub fails_at : Rule → ℕ → Bool
fails_at Never number = false
fails_at (FromOn first) number = not (nat_lt number first)
fails_at (Only one) number = number == one

-- whether the next call fails
abbrev pub fails_next : Ledger → Bool
fails_next ledger = fails_at ledger.rule ledger.calls

-- the ledger of a rule before the first call
abbrev pub before_calls : Rule → Ledger
before_calls rule = record { rule = rule; calls = 0; has_failed = false }

-- the ledger once one more call came; the count stops at the largest `u64`
abbrev pub after_call : Ledger → Ledger
after_call ledger = record { rule = ledger.rule; calls = min (ledger.calls + 1) (2 ^ 64 - 1); has_failed = ledger.has_failed || fails_next ledger }

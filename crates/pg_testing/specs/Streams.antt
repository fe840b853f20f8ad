use Rattle.std.specs.Prelude.{ℕ, List}
use Rattle.pg_testing.specs.declared.ledger.Ledger.{Ledger}

-- a failing reader: the bytes that it has left, and its reads so far
pub record Reading : Type 0 where
  pub left : List ℕ
  pub reads : Ledger

-- a failing writer: the bytes that its `Vec` holds, and its writes so far
pub record Writing : Type 0 where
  pub held : List ℕ
  pub writes : Ledger

use Rattle.std.proofs.Common.{◌≡◌, ◌∙◌, true, sym, ap}
use Rattle.pg_table.specs.Numbers.{is_number}
use Rattle.pg_table.proofs.numbers.is_number.Goals as goal

pub returns-then-is_simple : goal.returns-then-is_simple
returns-then-is_simple c = c.if-is_simple.true ∙ sym (ap is_number (sym c.as_bytes.ensures.value) ∙ c.is_simple.ensures c.if-is_simple.true)

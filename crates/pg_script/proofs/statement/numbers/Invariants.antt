use Rattle.std.proofs.Common.{◌≡◌, ◌-◌, length}
use Rattle.pg_script.specs.Words.{words_of, first_numbers}
use Rattle.pg_script.proofs.LineWords.{onto_numbers}
use Rattle.pg_script.proofs.statement.numbers.Given as goal

-- the numbers so far, and those that are left to read, are all numbers
abbrev pub invariant-loop : goal.invariant-loop
invariant-loop g l = record {
  counted : length l.numbers.items ≡ l.counter;
  read : onto_numbers l.numbers.items (first_numbers (l.count - l.counter) (words_of l.words.rest.now)) ≡ first_numbers l.count (words_of l.fn.words.rest.now);
}

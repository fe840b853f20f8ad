use Rattle.std.proofs.Common.{◌≡◌, ◌∙◌, ◌-◌, ◌+◌, ℕ, List, Option, option_map, sym, ap, arith}
use Rattle.pg_script.specs.Words.{Word, words_of, first_numbers, read_on, end_of}
use Rattle.pg_script.proofs.LineWords.{onto_numbers, first_numbers-bad, first_numbers-step, first_numbers-all}
use Rattle.pg_script.proofs.statement.numbers.Goals as goal

-- the numbers, if no word is left behind them
abbrev up_to_end : Option (List ℕ × List Word) → Option (List ℕ)
up_to_end read = read_on read (λ numbers rest. option_map (λ _. numbers) (end_of rest))

pub returns-in_default-clause-read : goal.returns-in_default-clause-read
returns-in_default-clause-read g c =
    ap up_to_end (first_numbers-bad c.loop.numbers.items c.args.count c.loop.counter (words_of c.loop.words.rest.now) (words_of c.args.words.rest.now) c.loop-test.true c.in_default.ensures.words c.loop.invariant.read)

pub loop-preserved : goal.loop-preserved
loop-preserved g c =
    let step = first_numbers-step c.loop.numbers.items c.args.count c.loop.counter c.in-Some.number (words_of c.loop.words.rest.now) (words_of c.number.new.self.rest.now) (words_of c.args.words.rest.now) c.loop-test.true c.in-Some.ensures.words c.loop.invariant.read in
    record {
      counted = omega (arith, c.in_ok-push.ensures.len, c.loop.invariant.counted);
      read = ap (λ numbers. onto_numbers numbers (first_numbers (c.args.count - (c.loop.counter + 1)) (words_of c.number.new.self.rest.now))) c.in_ok-push.ensures.items ∙ step;
    }

pub returns-in-Some-end-clause-read : goal.returns-in-Some-end-clause-read
returns-in-Some-end-clause-read g c =
    let counted : c.loop.counter ≡ c.args.count = omega (arith, c.loop-test.false) in
    let all = first_numbers-all c.loop.numbers.items c.args.count c.loop.counter (words_of c.loop.words.rest.now) (words_of c.args.words.rest.now) counted c.loop.invariant.read in
    ap (λ left. option_map (λ _. c.loop.numbers.items) left) c.in-Some-end.ensures ∙ sym (ap up_to_end all)

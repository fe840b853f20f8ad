use Rattle.std.proofs.Common.{◌∙◌, ◌<◌, length, sym, arith, lit<}
use Rattle.std.proofs.lemmas.Bool.Decides.{nat_tests}
use Rattle.pg_script.proofs.LineWords.{words_of-word, words_of-last}
use Rattle.pg_script.proofs.words.Words.next_word.Goals as goal

pub returns-then-not-is_empty-clause-words : goal.returns-then-not-is_empty-clause-words
returns-then-not-is_empty-clause-words c =
    let cut = c.in-Some.ensures.byte (lit< tt) (λ _ _ found. found) in
    let some : 0 < length c.in-Some.word.now = grind (arith, nat_tests) in
    sym c.loop-word.invariant.words ∙ (words_of-word c.loop-word.self.rest.now c.in-Some.word.now c.in-Some.rest.now cut.0 cut.1 cut.2 some).0

pub returns-else-is_empty-clause-words : goal.returns-else-is_empty-clause-words
returns-else-is_empty-clause-words c =
    let uncut = c.in_default.ensures.byte (lit< tt) (λ _ _ found. found) in
    let some : 0 < length c.loop-word.self.rest.now = grind (arith, nat_tests) in
    sym c.loop-word.invariant.words ∙ (words_of-last c.loop-word.self.rest.now uncut some).0

pub returns-else-is_empty-clause-behind : goal.returns-else-is_empty-clause-behind
returns-else-is_empty-clause-behind c =
    let uncut = c.in_default.ensures.byte (lit< tt) (λ _ _ found. found) in
    let some : 0 < length c.loop-word.self.rest.now = grind (arith, nat_tests) in
    sym (sym c.loop-word.invariant.behind ∙ (words_of-last c.loop-word.self.rest.now uncut some).1)

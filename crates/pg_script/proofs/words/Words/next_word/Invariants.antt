use Rattle.std.proofs.Common.{◌≡◌, length}
use Rattle.pg_script.specs.Words.{words_of, behind_word}
use Rattle.pg_script.proofs.words.Words.next_word.Given as goal

-- what is left has the words of the line, and the same stands behind its first one
abbrev pub invariant-loop-word : goal.invariant-loop-word
invariant-loop-word l = record {
  words : words_of l.self.rest.now ≡ words_of l.fn.self.rest.now;
  behind : behind_word l.self.rest.now ≡ behind_word l.fn.self.rest.now;
}

abbrev pub decreases-loop-word : goal.decreases-loop-word
decreases-loop-word l = length l.self.rest.now

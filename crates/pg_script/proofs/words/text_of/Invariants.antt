use Rattle.std.proofs.Common.{◌≡◌, ◌++◌, length, string_bytes, option_map}
use denote.Text.{Utf8}
use denote.Shadow.{shadow}
use Rattle.pg_script.specs.Words.{text_of}
use Rattle.pg_script.proofs.words.text_of.Given as goal

-- the text so far and the one that is written in the rest are the whole one
abbrev pub invariant-loop-before : goal.invariant-loop-before
invariant-loop-before g l = shadow (Utf8 l.rest) × (option_map (λ behind. string_bytes l.text ++ behind) (text_of l.rest) ≡ text_of l.written)

abbrev pub decreases-loop-before : goal.decreases-loop-before
decreases-loop-before g l = length l.rest

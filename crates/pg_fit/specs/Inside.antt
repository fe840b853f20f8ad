-- What only bodies and their proofs need: no contract of a call from outside stands on it.
use Rattle.std.specs.Prelude.{◌≡◌, ℕ, ◌==◌, ◌||◌, ◌<◌, ◌≤◌, Bool, List, ◌∷◌, drop, slice_range, if◌then◌else◌}
use Rattle.std.specs.Int.{is_in_range}
use Rattle.std.specs.Str.{IsCharBoundary}
use Rattle.pg_layout.specs.Text.{Text}
use Rattle.pg_fit.specs.Wrapping.{Piece, words, indented}

-- the words from a byte on: all of the text, of which the first begins with the text, or those behind a word
abbrev pub words_from : Text → ℕ → List Piece
words_from text at = if at == 0 then indented (words text) else words (drop at text)

-- the next word from a byte on
pub record IsNextWord (text : Text) (at begin end : ℕ) : Type 0 where
  pub behind : at ≤ begin
  pub some : begin < end
  pub begin_boundary : IsCharBoundary text begin
  pub end_boundary : IsCharBoundary text end
  pub is : words_from text at ≡ record { gap = slice_range text at begin; text = slice_range text begin end } ∷ words_from text end

-- a character of scripts whose characters join none before them, so that it adds its own width: printable ASCII, Latin to Hebrew but for an overlay and lamed,
-- scripts of India to Mongolian, symbols below U+231A, CJK, Hangul, and wide forms. Others, emoji and Arabic letters among them, may join
abbrev pub adds_up : ℕ → Bool
adds_up c =
    is_in_range 0x20 0x7E c || is_in_range 0xA1 0x337 c || is_in_range 0x339 0x5DB c || is_in_range 0x883 0x177F c || is_in_range 0x1A11 0x2319 c
    || is_in_range 0x2E80 0xA4CF c || is_in_range 0xAC00 0xD7A3 c || is_in_range 0xF900 0xFAFF c || is_in_range 0xFF00 0xFFEF c

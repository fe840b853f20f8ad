-- Lines that are too wide, broken: each line takes as many pieces as fit.
use Rattle.std.specs.Prelude.{ℕ, ◌==◌, ◌||◌, Bool, true, nat_le, List, [], ◌∷◌, ◌++◌, map, length, flat_map, if◌then◌else◌}
use Rattle.unicode_segmentation.specs.Grapheme.{graphemes}
use Rattle.pg_layout.specs.Text.{Text, lines_of, width_of, greatest}
use Rattle.std.specs.List.{join_with_byte}
use Rattle.pg_fit.specs.declared.wrapping.Breaking.{Breaking}
use Rattle.pg_fit.specs.declared.wrapping.Breaking.TheVariants.{Anywhere, BetweenWords}

-- ---- filling lines

-- a piece of a line that is not parted, and the spaces before it, which are left out where it begins a line
pub record Piece : Type 0 where
  pub gap : Text
  pub text : Text

-- a text takes at most so many columns
abbrev pub fits : ℕ → Text → Bool
fits width text = nat_le (width_of text) width

-- a line takes the next piece, with the spaces before it, where nothing stands before the piece, or where the line then still fits
abbrev pub takes : ℕ → Text → Piece → Bool
takes width line p = (length (line ++ p.gap) == 0) || fits width (line ++ (p.gap ++ p.text))

-- the lines of pieces, of which the first is begun
abbrev pub filled : ℕ → Text → List Piece → List Text
filled width line [] = line ∷ []
filled width line (p ∷ ps) = if takes width line p then filled width (line ++ (p.gap ++ p.text)) ps else line ∷ filled width p.text ps

-- ---- pieces

-- characters as pieces, with spaces before the first
abbrev pub characters : Text → List Text → List Piece
characters gap [] = []
characters gap (c ∷ cs) = record { gap = gap; text = c } ∷ characters [] cs

-- a byte before the words behind it: a space stands before the next word, or is left out where there is none; any other byte belongs to the next word
-- where no space is between, and else is one
abbrev pub before_words : ℕ → List Piece → List Piece
before_words b [] = if b == 32 then [] else record { gap = []; text = b ∷ [] } ∷ []
before_words b (p ∷ ps) =
    if b == 32 then record { gap = b ∷ p.gap; text = p.text } ∷ ps
    else if length p.gap == 0 then record { gap = []; text = b ∷ p.text } ∷ ps
    else record { gap = []; text = b ∷ [] } ∷ p ∷ ps

-- the words of a line, each with the spaces before it
abbrev pub words : Text → List Piece
words [] = []
words (b ∷ bs) = before_words b (words bs)

-- spaces before the first word belong to it
abbrev pub indented : List Piece → List Piece
indented [] = []
indented (p ∷ ps) = record { gap = []; text = p.gap ++ p.text } ∷ ps

-- a word that fits is one piece, and any other one is its characters
abbrev pub parted : ℕ → Piece → List Piece
parted width p = if fits width p.text then p ∷ [] else characters p.gap (graphemes true p.text)

-- the pieces of a line: its characters, as a reader counts them (extended grapheme clusters), or its words
abbrev pub pieces : Breaking → ℕ → Text → List Piece
pieces Anywhere width line = characters [] (graphemes true line)
pieces BetweenWords width line = flat_map (parted width) (indented (words line))

-- ---- wrapped texts

-- a line that fits stays, and any other is broken
unfoldable pub wrapped_line : Breaking → ℕ → Text → List Text
wrapped_line breaking width line = if fits width line then line ∷ [] else filled width [] (pieces breaking width line)

-- a text of lines that are broken where they are too wide
unfoldable pub wrapped : Breaking → ℕ → Text → Text
wrapped breaking width text = join_with_byte 10 (flat_map (wrapped_line breaking width) (lines_of text))

-- ---- least widths

-- the width of the widest character
abbrev pub widest_character : Text → ℕ
widest_character text = greatest (map width_of (graphemes true text))

-- the least width at which the lines of a line can be so wide: that of its widest character
abbrev pub least_line_width : Breaking → Text → ℕ
least_line_width Anywhere line = widest_character line
least_line_width BetweenWords line = greatest (map (λ p. widest_character p.text) (indented (words line)))

-- the least width at which the lines of a text can be so wide
unfoldable pub least_width : Breaking → Text → ℕ
least_width breaking text = greatest (map (least_line_width breaking) (lines_of text))

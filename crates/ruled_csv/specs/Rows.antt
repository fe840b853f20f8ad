-- The rows that bytes hold: of separated values, or of words.
use Rattle.std.specs.Prelude.{ℕ, zero, suc, ◌-◌, ◌==◌, List, [], ◌∷◌, ◌++◌, fold, length, take, drop, Option, Some, None, unwrap_or, if◌then◌else◌}
use Rattle.std.specs.Char.{is_ascii_whitespace}
use Rattle.std.specs.List.{cons_option, position, prefix_len, suffix_len}
use Rattle.csv.specs.Reading.{records}
use Rattle.ruled_csv.specs.Quotes.{are_words, config_of}
use Rattle.ruled_csv.specs.Kept.{kept_text, lines_of}
use Rattle.ruled_csv.specs.declared.dialect.Dialect.{Dialect}

-- ---- rows of words: white space is between the words of a line, spaces, tabs and form feeds; its end is white space, too

-- a text without the white space at its front, and without that at either side
abbrev pub from_word : List ℕ → List ℕ
from_word text = drop (prefix_len is_ascii_whitespace text) text

abbrev pub trimmed : List ℕ → List ℕ
trimmed text = take (length (from_word text) - suffix_len is_ascii_whitespace (from_word text)) (from_word text)

-- how many bytes the first of so many words has: the last one has all that follows, with the white space in it
abbrev pub word_len : ℕ → List ℕ → ℕ
word_len count text = if count == 1 then length text else unwrap_or (position is_ascii_whitespace text) (length text)

-- the words of a text that begins with one, at most so many
unfoldable pub words_of : ℕ → List ℕ → List (List ℕ)
words_of zero text = []
words_of (suc count) [] = []
words_of (suc count) (byte ∷ rest) =
    let text = byte ∷ rest in
    let n = word_len (suc count) text in
    take n text ∷ words_of count (from_word (drop n text))

-- the words of a line, if it has any: at most as many as there are columns, if there are rows above that have some
abbrev pub words_in : Option ℕ → List ℕ → Option (List (List ℕ))
words_in columns line =
    let text = trimmed line in
    if length text == 0 then None else Some (words_of (unwrap_or columns (length text)) text)

-- how many columns these rows have, if there is one
abbrev pub columns_known : List (List (List ℕ)) → Option ℕ
columns_known [] = None
columns_known (row ∷ rows) = Some (length row)

-- the rows of lines: each line with a word is one; row 0 has all its words, and a row below it at most as many
abbrev pub rows_of_lines : List (List ℕ) → List (List (List ℕ))
rows_of_lines lines = fold (λ above line. above ++ cons_option (words_in (columns_known above) line) []) [] lines

-- ---- the rows of bytes

-- the rows of a text: each is the list of its fields
abbrev pub rows_in : Dialect → List ℕ → List (List (List ℕ))
rows_in dialect text = if are_words dialect.rows.fields then rows_of_lines (lines_of text) else records (config_of dialect) text

-- the rows that end in a text, whatever follows it: with a letter behind the text, all but the one that has the letter
abbrev pub ended_in : Dialect → List ℕ → List (List (List ℕ))
ended_in dialect text =
    let rows = rows_in dialect (text ++ 120 ∷ []) in
    take (length rows - 1) rows

-- the rows of bytes
abbrev pub rows_of : Dialect → List ℕ → List (List (List ℕ))
rows_of dialect bytes = rows_in dialect (kept_text dialect bytes)

-- and those that end in them
abbrev pub ended_rows : Dialect → List ℕ → List (List (List ℕ))
ended_rows dialect bytes = ended_in dialect (kept_text dialect bytes)

-- how many columns rows have: as many as row 0 has fields
abbrev pub columns_of : List (List (List ℕ)) → ℕ
columns_of [] = 0
columns_of (row ∷ rows) = length row

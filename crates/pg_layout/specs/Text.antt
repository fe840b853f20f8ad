-- The lines of a text, their widths, and the blank ones. A text is the list of its bytes.
use Rattle.std.specs.Prelude.{ℕ, ◌+◌, ◌-◌, Bool, false, not, ◌&&◌, ◌==◌, nat_lt, List, [], ◌∷◌, map, length, take, drop, max, chars, if◌then◌else◌, Option, Some, None}
use Rattle.std.specs.List.{slice_split, prefix_len, suffix_len}
use Rattle.std.specs.Str.{trim}
use Rattle.unicode_width.specs.Width.{str_width}

abbrev pub Text : Type 0
Text = List ℕ

-- a text is cut at every line feed
unfoldable pub lines_of : Text → List Text
lines_of text = slice_split (λ b. b == 10) text

-- the lines that are left: those of a text, or none after the last
abbrev pub lines_left : Option Text → List Text
lines_left None = []
lines_left (Some text) = lines_of text

-- how many terminal columns a text takes
unfoldable pub width_of : Text → ℕ
width_of text = str_width false (chars text)

-- ASCII and no line feed: such a byte takes one column
abbrev pub is_plain_byte : ℕ → Bool
is_plain_byte b = nat_lt b 128 && not (b == 10)

abbrev pub greatest : List ℕ → ℕ
greatest [] = 0
greatest (n ∷ ns) = max n (greatest ns)

unfoldable pub text_width_of : Text → ℕ
text_width_of text = greatest (map width_of (lines_of text))

unfoldable pub is_blank : Text → Bool
is_blank line = length (trim line) == 0

-- the blank lines at the front
unfoldable pub blank_top : List Text → ℕ
blank_top lines = prefix_len is_blank lines

-- the blank lines at the end, after the last line that is not blank
unfoldable pub blank_bottom : List Text → ℕ
blank_bottom lines = suffix_len is_blank (drop (blank_top lines) lines)

-- the lines from the first to the last one that is not blank
unfoldable pub without_blank_ends : List Text → List Text
without_blank_ends lines = take (length lines - (blank_top lines + blank_bottom lines)) (drop (blank_top lines) lines)

-- the text before the first line feed, less one carriage return directly before that line feed
abbrev pub without_return : Text → Text
without_return [] = []
without_return (b ∷ []) = if b == 13 then [] else b ∷ []
without_return (b ∷ c ∷ bs) = b ∷ without_return (c ∷ bs)

abbrev pub first_of_lines : List Text → Text
first_of_lines [] = []
first_of_lines (line ∷ []) = line
first_of_lines (line ∷ next ∷ lines) = without_return line

unfoldable pub first_line_of : Text → Text
first_line_of text = first_of_lines (lines_of text)

-- What wrapped, cut and visible texts are like.
use Rattle.std.specs.Prelude.{◌≡◌, ℕ, ◌≤◌, ◌==◌, ◌||◌, Bool, false, true, not, filter, List, [], ◌∷◌, map, chars, count_by}
use Rattle.std.specs.Int.{is_in_range}
use Rattle.std.specs.List.{concat, flat_map, list_all}
use Rattle.std.specs.Str.{IsUtf8}
use Rattle.unicode_width.specs.Width.{str_width}
use Rattle.pg_layout.specs.Text.{Text, lines_of, width_of, text_width_of}
use Rattle.pg_fit.specs.declared.wrapping.Breaking.{Breaking}
use Rattle.pg_fit.specs.declared.wrapping.Breaking.TheVariants.{Anywhere, BetweenWords}
use Rattle.pg_fit.specs.Wrapping.{least_line_width, least_width, wrapped_line, wrapped}
use Rattle.pg_fit.specs.Cutting.{cut_line, cut_text, cut_away_line, cut_away_text}
use Rattle.pg_fit.specs.Controls.{is_control, sign_of, visible_text}
use Rattle.pg_fit.specs.declared.cutting_away.Kept.{Kept}
use Rattle.pg_fit.specs.declared.cutting_away.Kept.TheVariants.{End}
use Rattle.pg_fit.specs.Escapes.{without_escapes}

-- ---- wrapped texts

abbrev pub EachFits : ℕ → List Text → Type 0
EachFits width [] = Unit {0}
EachFits width (line ∷ lines) = (width_of line ≤ width) × EachFits width lines

-- Each line is at most so wide, where each character is.
abbrev pub LinesFit : Type 0
LinesFit = (breaking : Breaking) (width : ℕ) (line : Text) → least_line_width breaking line ≤ width → EachFits width (wrapped_line breaking width line)

-- Broken between characters, the lines together are the line.
abbrev pub NothingIsLost : Type 0
NothingIsLost = (width : ℕ) (line : Text) → IsUtf8 line → concat (wrapped_line Anywhere width line) ≡ line

-- Broken between words, nothing but spaces is left out, and nothing is added.
abbrev pub OnlySpacesAreLost : Type 0
OnlySpacesAreLost =
    (width : ℕ) (line : Text) → IsUtf8 line
    → filter (λ b. not (b == 32)) (concat (wrapped_line BetweenWords width line)) ≡ filter (λ b. not (b == 32)) line

-- A text that fits stays as it is.
abbrev pub FittingTextsStay : Type 0
FittingTextsStay = (breaking : Breaking) (width : ℕ) (text : Text) → text_width_of text ≤ width → wrapped breaking width text ≡ text

-- The lines of a wrapped text are those of its lines.
abbrev pub LinesStand : Type 0
LinesStand = (breaking : Breaking) (width : ℕ) (text : Text) → IsUtf8 text → lines_of (wrapped breaking width text) ≡ flat_map (wrapped_line breaking width) (lines_of text)

-- So a wrapped text is at most so wide, where each character is.
abbrev pub WrappedTextsFit : Type 0
WrappedTextsFit = (breaking : Breaking) (width : ℕ) (text : Text) → IsUtf8 text → least_width breaking text ≤ width → text_width_of (wrapped breaking width text) ≤ width

-- ---- cut texts

-- printable ASCII, or an ellipsis: such a character joins nothing before it
abbrev pub is_tail_character : ℕ → Bool
is_tail_character c = is_in_range 0x20 0x7E c || (c == 0x2026)

-- A line that is cut is at most so wide, where the tail is of such characters.
abbrev pub CutLinesFit : Type 0
CutLinesFit =
    (width : ℕ) (tail line : Text) → IsUtf8 line → list_all is_tail_character (chars tail) ≡ true → width_of (cut_line width tail line) ≤ width

-- A text that fits stays as it is.
abbrev pub CutTextsStay : Type 0
CutTextsStay = (width : ℕ) (tail text : Text) → text_width_of text ≤ width → cut_text width tail text ≡ text

-- The lines of a text that is cut are its lines, each cut, where the tail is one line.
abbrev pub CutLinesStand : Type 0
CutLinesStand =
    (width : ℕ) (tail text : Text) → IsUtf8 text → IsUtf8 tail → lines_of tail ≡ tail ∷ []
    → lines_of (cut_text width tail text) ≡ map (cut_line width tail) (lines_of text)

-- So a text that is cut is at most so wide, where the tail is of printable ASCII and ellipses.
abbrev pub CutTextsFit : Type 0
CutTextsFit =
    (width : ℕ) (tail text : Text) → IsUtf8 text → IsUtf8 tail → list_all is_tail_character (chars tail) ≡ true
    → text_width_of (cut_text width tail text) ≤ width

-- ---- visible texts

abbrev pub has_no_controls : Text → Bool
has_no_controls text = list_all (λ c. not (is_control c)) (chars text)

-- In a visible text there is no control character.
abbrev pub NoControlsAreLeft : Type 0
NoControlsAreLeft = (text : Text) → IsUtf8 text → has_no_controls (visible_text text) ≡ true

-- A text without control characters stays as it is.
abbrev pub VisibleTextsStay : Type 0
VisibleTextsStay = (text : Text) → IsUtf8 text → has_no_controls text ≡ true → visible_text text ≡ text

-- What stands for a control character takes one column.
abbrev pub SignsTakeOneColumn : Type 0
SignsTakeOneColumn = (c : ℕ) → is_control c ≡ true → str_width false (sign_of c ∷ []) ≡ 1

-- ---- texts that are cut in front or in the middle

-- A line that is cut in front is at most so wide, whatever the tail.
abbrev pub FrontCutsFit : Type 0
FrontCutsFit = (width : ℕ) (tail line : Text) → width_of (cut_away_line End width tail line) ≤ width

-- Any line that is cut is at most so wide, where the tail is of printable ASCII and ellipses.
abbrev pub CutAwayLinesFit : Type 0
CutAwayLinesFit =
    (kept : Kept) (width : ℕ) (tail line : Text) → IsUtf8 line → list_all is_tail_character (chars tail) ≡ true
    → width_of (cut_away_line kept width tail line) ≤ width

-- A text that fits stays as it is.
abbrev pub CutAwayTextsStay : Type 0
CutAwayTextsStay = (kept : Kept) (width : ℕ) (tail text : Text) → text_width_of text ≤ width → cut_away_text kept width tail text ≡ text

-- The lines of a text that is cut are its lines, each cut, where the tail is one line.
abbrev pub CutAwayLinesStand : Type 0
CutAwayLinesStand =
    (kept : Kept) (width : ℕ) (tail text : Text) → IsUtf8 text → IsUtf8 tail → lines_of tail ≡ tail ∷ []
    → lines_of (cut_away_text kept width tail text) ≡ map (cut_away_line kept width tail) (lines_of text)

-- So a text that is cut is at most so wide, where the tail is of printable ASCII and ellipses.
abbrev pub CutAwayTextsFit : Type 0
CutAwayTextsFit =
    (kept : Kept) (width : ℕ) (tail text : Text) → IsUtf8 text → IsUtf8 tail → list_all is_tail_character (chars tail) ≡ true
    → text_width_of (cut_away_text kept width tail text) ≤ width

-- ---- texts without escape sequences

-- No escape is left.
abbrev pub NoEscapesAreLeft : Type 0
NoEscapesAreLeft = (text : Text) → IsUtf8 text → list_all (λ c. not (c == 27)) (chars (without_escapes text)) ≡ true

-- A text without an escape stays as it is.
abbrev pub TextsWithoutEscapesStay : Type 0
TextsWithoutEscapesStay = (text : Text) → IsUtf8 text → list_all (λ c. not (c == 27)) (chars text) ≡ true → without_escapes text ≡ text

-- Each line feed stays.
abbrev pub LineFeedsStay : Type 0
LineFeedsStay = (text : Text) → IsUtf8 text → count_by (λ c. c == 10) (chars (without_escapes text)) ≡ count_by (λ c. c == 10) (chars text)

-- The columns that are shown, and rows in them.
use Rattle.std.specs.Prelude.{◌≡◌, ℕ, ◌+◌, ◌-◌, ◌^◌, ◌==◌, ◌&&◌, not, nat_le, nat_lt, Bool, List, [], ◌∷◌, drop, length, map, position, reverse, slice_get, slice_index_or, nat_eq, String}
use Rattle.std.specs.Prelude.{string_bytes, Option, Some, None, is_none, option_map, unwrap_or, if◌then◌else◌, ◌++◌}
use Rattle.std.specs.List.{after_first, before_first, ends_with, filter, flat_map, list_any, range_with_len, starts_with, zip}
use Rattle.std.specs.Option.{option_and_then, option_map_or, option_or, option_to_list}
use Rattle.std.specs.Str.Parse.{digits_value}
use Rattle.std.specs.HashMap.{HashMap, get_by}
use Rattle.std.specs.Borrow.{Bor}
use Rattle.std.specs.Str.{bytes_eq}
use Rattle.pg_layout.specs.Text.{Text}
use Rattle.pg_table.specs.Numbers.{are_digits}
use Rattle.ruled_table.specs.declared.view.ViewFault.{ViewFault}
use Rattle.ruled_table.specs.declared.view.ViewFault.TheVariants.{Column}
use Rattle.csv.specs.Records.{Row, fields_of}
use Rattle.ruled_table.specs.declared.lent_rows.LentRows.{LentRows}
use Rattle.ruled_table.specs.declared.paired_rows.PairTexts.{PairTexts}
use Rattle.ruled_table.specs.declared.paired_rows.PairedRows.{PairedRows}

-- ---- the columns

-- what is said of a column: one word alone is for all
abbrev pub told_of : {X : Type 0} → List (Option X) → ℕ → Option X
told_of [] column = None
told_of (word ∷ []) column = word
told_of (word ∷ next ∷ words) column = slice_index_or (word ∷ next ∷ words) column None

-- ---- the columns of a word

-- the first column of this name
abbrev pub column_of : List Text → Text → Option ℕ
column_of header name = position (λ field. bytes_eq field name) header

-- a map has the first column of each name
abbrev pub HasFirst : {S : Type 0} → List Text → HashMap (Bor Text) ℕ S → Type 0
HasFirst header first = (name : Text) → get_by (λ known. bytes_eq name known.now) first ≡ column_of header name

-- the number that digits write, or else 0, which is no column's: the first column is 1
abbrev pub number_in : Text → ℕ
number_in word = if are_digits word && nat_lt (digits_value 10 word) (2 ^ 64) then digits_value 10 word else 0

-- of so many columns those from one number to another, if there are these
abbrev pub numbered : ℕ → ℕ → ℕ → List ℕ
numbered columns first last =
    if nat_lt 0 first && (nat_le first last && nat_le last columns) then range_with_len (first - 1) (last - (first - 1)) else []

abbrev pub is_dash : ℕ → Bool
is_dash byte = byte == 45

-- those of a number, or of two with a dash between them
abbrev pub numbered_columns : ℕ → Text → List ℕ
numbered_columns columns word =
    if list_any is_dash word then numbered columns (number_in (before_first is_dash word)) (number_in (after_first is_dash word))
    else numbered columns (number_in word) (number_in word)

-- ---- patterns

-- the text behind this byte, if a text begins with it
abbrev pub behind : ℕ → Text → Option Text
behind byte [] = None
behind byte (first ∷ text) = if first == byte then Some text else None

-- the text before this byte, if a text ends with it
abbrev pub before : ℕ → Text → Option Text
before byte text = option_map reverse (behind byte (reverse text))

-- the pattern between two slashes
abbrev pub pattern_of : Text → Option Text
pattern_of word = option_and_then (before 47) (behind 47 word)

-- whether a text has another one as a part
abbrev pub has_part : Text → Text → Bool
has_part part text = list_any (λ place. starts_with nat_eq (drop place text) part) (range_with_len 0 (length text + 1))

-- whether a name fits a pattern: it has the text, behind a `^` at its front, and before a `$` at its end
abbrev pub fits : Text → Text → Bool
fits pattern name =
    option_map_or (λ text. option_map_or (bytes_eq name) (before 36 text) (starts_with nat_eq name text)) (behind 94 pattern)
    (option_map_or (ends_with nat_eq name) (before 36 pattern) (has_part pattern name))

abbrev pub fitting : List Text → Text → List ℕ
fitting header pattern = filter (λ column. fits pattern (slice_index_or header column [])) (range_with_len 0 (length header))

-- ---- what a word means

-- the columns of a word that is no name: those that fit its pattern, or those of its numbers
abbrev pub unnamed_columns : List Text → Text → List ℕ
unnamed_columns header word = option_map_or (fitting header) (pattern_of word) (numbered_columns (length header) word)

-- the first column of this name, or else those that the word describes
abbrev pub columns_of : List Text → Text → List ℕ
columns_of header word = option_map_or (λ column. column ∷ []) (column_of header word) (unnamed_columns header word)

-- the first one of them
abbrev pub first_meant : List Text → Text → Option ℕ
first_meant header word = slice_get (columns_of header word) 0

-- the word after a `!`, unless a column has the name with the `!`
abbrev pub excluded : List Text → Text → Option Text
excluded header word = if is_none (column_of header word) then behind 33 word else None

-- the columns that a word asks for or leaves out
abbrev pub meant : List Text → Text → List ℕ
meant header word = columns_of header (unwrap_or (excluded header word) word)

-- those that it asks for
abbrev pub asked_by : List Text → Text → List ℕ
asked_by header word = if is_none (excluded header word) then meant header word else []

-- those that it leaves out
abbrev pub left_out_by : List Text → Text → List ℕ
left_out_by header word = if is_none (excluded header word) then [] else meant header word

-- ---- all words

-- the columns that are asked for, or else all
abbrev pub asked_or_all : ℕ → List ℕ → List ℕ
asked_or_all columns asked = if length asked == 0 then range_with_len 0 columns else asked

module _ {A : Type 0} (words : List (String A)) (header : List Text) where
  -- the columns that words ask for, in their order
  abbrev pub asked : List ℕ
  asked = flat_map (λ word. asked_by header (string_bytes word)) words

  -- whether a word leaves this column out
  abbrev pub is_left_out : ℕ → Bool
  is_left_out column = list_any (λ word. list_any (λ other. other == column) (left_out_by header (string_bytes word))) words

  -- The columns that are shown: those that the words ask for, or all where none asks for any, without those that a word leaves out.
  abbrev pub columns_in : List ℕ
  columns_in = filter (λ column. not (is_left_out column)) (asked_or_all (length header) asked)

  -- the first word that means no column
  abbrev pub missing_word : Option ℕ
  missing_word = position (λ word. length (meant header (string_bytes word)) == 0) words

  -- the last word, if there are words, but no columns
  abbrev pub last_word : Option ℕ
  last_word = if (length columns_in == 0) && not (length words == 0) then Some (length words - 1) else None

-- the columns that are shown of rows, whose header is the first one, by their places in a row
abbrev pub places_of : {A : Type 0} → List (String A) → List (List Text) → List (Option ℕ)
places_of names [] = []
places_of names (header ∷ rows) = map Some (columns_in names header)

-- a `…`
abbrev pub ellipsis : Text
ellipsis = 226 ∷ 128 ∷ 166 ∷ []

-- the text of a row in a column: its field at the column's place, and a `…` in the column that has none
abbrev pub drawn_at : List Text → Option ℕ → Text
drawn_at row (Some place) = slice_index_or row place []
drawn_at row None = ellipsis

-- the first word that means no column is wrong, or else the last one, if no column stays; where there are no rows, none is
abbrev pub column_fault : {A : Type 0} → List (String A) → List (List Text) → Option ViewFault
column_fault names [] = None
column_fault names (header ∷ rows) = option_map Column (option_or (missing_word names header) (last_word names header))

-- ---- rows whose texts are fields of records

-- the texts of a row in columns with these places
abbrev pub fields_at : List (Option ℕ) → List Text → List Text
fields_at places row = map (drawn_at row) places

-- the texts of rows
abbrev pub texts_at : List (Option ℕ) → List Row → List (List Text)
texts_at places records = map (λ fields. fields_at places (fields_of fields)) records

abbrev pub texts_of : LentRows → List (List Text)
texts_of rows = texts_at rows.places.now rows.records.now

-- ---- rows of a name and the text beside it

-- each name, and the text beside it
abbrev pub pairs_of : List Text → List Text → List (List Text)
pairs_of names texts = map (λ pair. pair.0 ∷ pair.1 ∷ []) (zip names texts)

-- those of a record's fields
abbrev pub pairs_in : PairedRows → List (List Text)
pairs_in rows = pairs_of (fields_at rows.places.now (fields_of rows.names.now)) (fields_at rows.places.now (fields_of rows.fields.now))

-- what is left of a row
abbrev pub texts_left : PairTexts → List Text
texts_left row = map (λ text. text.now) (option_to_list row.name ++ option_to_list row.text)

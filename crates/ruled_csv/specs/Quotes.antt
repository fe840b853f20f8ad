-- The lines of bytes, and where quotes may stand in them.
use Rattle.std.specs.Prelude.{ℕ, ◌+◌, ◌-◌, ◌^◌, min, ◌==◌, ◌&&◌, ◌||◌, not, Bool, List, ◌∷◌, false, [], Option, Some, None, zero, suc, true, fold, length, take, option_map, if◌then◌else◌}
use Rattle.std.specs.List.{count_by, zip, find, range_with_len}
use Rattle.std.specs.Option.{option_or}
use Rattle.csv.specs.Machine.{step}
use Rattle.csv.specs.declared.parser.State.{State}
use Rattle.csv.specs.declared.parser.State.TheVariants as st
use Rattle.ruled_csv.specs.declared.fault.RowsFault.{RowsFault}
use Rattle.ruled_csv.specs.declared.fault.RowsFault.TheVariants.{OpenQuote, BehindQuote}
use Rattle.ruled_csv.specs.declared.dialect.Dialect.{Dialect}
use Rattle.ruled_csv.specs.declared.dialect.Fields.{Fields}
use Rattle.ruled_csv.specs.declared.dialect.Fields.TheVariants.{Quoted, Plain, Words}
use Rattle.csv.specs.declared.parser.Config.{Config}
use Rattle.csv.specs.Reading.{default_config}

-- ---- the lines of bytes

-- whether a byte, here with the one in front of it, ends a line: a carriage return, or a line feed behind none
abbrev pub ends_line : ℕ × ℕ → Bool
ends_line bytes = (bytes.1 == 13) || ((bytes.1 == 10) && not (bytes.0 == 13))

-- the line of the byte behind these, up to the largest that a counter holds
abbrev pub line_behind : List ℕ → ℕ
line_behind bytes = min (1 + count_by ends_line (zip (0 ∷ bytes) bytes)) (2 ^ 64 - 1)

-- a line begins with the byte that begins comments
abbrev pub is_comment : Option ℕ → List ℕ → Bool
is_comment None line = false
is_comment (Some sign) [] = false
is_comment (Some sign) (byte ∷ line) = byte == sign

-- ---- quotes

-- fields may be in quotes
abbrev pub has_quotes : Fields → Bool
has_quotes Quoted = true
has_quotes Plain = false
has_quotes Words = false

-- fields are words
abbrev pub are_words : Fields → Bool
are_words Quoted = false
are_words Plain = false
are_words Words = true

-- a byte may open or close a quote
abbrev pub is_quote : Fields → ℕ → Bool
is_quote fields byte = has_quotes fields && (byte == 34)

-- the byte between the fields that `csv` reads; a line of words is cut at its tabs there, and then anew
abbrev pub separator : Dialect → ℕ
separator dialect = if are_words dialect.rows.fields then 9 else dialect.delimiter

-- the fields are parted by this byte, and quoted as in CSV, unless a quote is a byte like any other
abbrev pub config_of : Dialect → Config
config_of dialect = record default_config { delimiter = separator dialect; quoting = has_quotes dialect.rows.fields }

-- where the reading of `csv` stands behind these bytes, from a state on
abbrev pub state_from : Dialect → State → List ℕ → State
state_from dialect state bytes = fold (λ s byte. (step (config_of dialect) s byte).0) state bytes

abbrev pub state_behind : Dialect → List ℕ → State
state_behind dialect bytes = state_from dialect st.StartRecord bytes

-- a quote is open
abbrev pub is_quoted : State → Bool
is_quoted st.StartRecord = false
is_quoted st.StartField = false
is_quoted st.InField = false
is_quoted st.InQuoted = true
is_quoted st.AfterQuote = false
is_quoted st.InEscape = false
is_quoted st.InComment = false
is_quoted st.AfterCr = false

-- a quote stands in front that closes the field, or is the first of two that stand for one
abbrev pub is_closing : State → Bool
is_closing st.StartRecord = false
is_closing st.StartField = false
is_closing st.InField = false
is_closing st.InQuoted = false
is_closing st.AfterQuote = true
is_closing st.InEscape = false
is_closing st.InComment = false
is_closing st.AfterCr = false

-- text of a field stands in front that is in no quotes
abbrev pub is_plain : State → Bool
is_plain st.StartRecord = false
is_plain st.StartField = false
is_plain st.InField = true
is_plain st.InQuoted = false
is_plain st.AfterQuote = false
is_plain st.InEscape = false
is_plain st.InComment = false
is_plain st.AfterCr = false

module _ (dialect : Dialect) (text : List ℕ) where
  -- the byte at this place is text behind a closing quote
  abbrev pub is_behind_quote : ℕ → Bool
  is_behind_quote n = is_closing (state_behind dialect (take n text)) && is_plain (state_behind dialect (take (n + 1) text))

  -- the first such place
  abbrev pub first_behind_quote : Option ℕ
  first_behind_quote = find is_behind_quote (range_with_len 0 (length text))

  -- the place of the quote that the field at this place begins with: the last one, up to it, in front of which there is none
  abbrev pub quote_at : ℕ → ℕ
  quote_at zero = zero
  quote_at (suc n) =
      let state = state_behind dialect (take (suc n) text) in
      if is_quoted state || is_closing state then quote_at n else suc n

  -- the last quote is open at the end
  abbrev pub open_fault : Option RowsFault
  open_fault =
      if is_quoted (state_behind dialect text) then Some (OpenQuote (line_behind (take (quote_at (length text)) text)))
      else None

  -- what is wrong with the quotes: text behind one, or else one that is open at the end
  abbrev pub quote_fault : Option RowsFault
  quote_fault = option_or (option_map (λ n. BehindQuote (line_behind (take n text))) first_behind_quote) open_fault

-- Why rows can't be read.
use Rattle.std.specs.Prelude.{◌≡◌, ◌≢◌, ℕ, ◌+◌, ◌-◌, ◌^◌, min, ◌==◌, ◌||◌, not, Bool, List, [], ◌∷◌, length, take, Option, Some, None, Result, Ok, Err, is_none, if◌then◌else◌, ◌++◌, codes, decimal}
use Rattle.std.specs.List.{list_all, take_while}
use Rattle.std.specs.Option.{option_or}
use Rattle.std.specs.Str.{is_utf8}
use Rattle.ruled_csv.specs.Kept.{kept_text}
use Rattle.ruled_csv.specs.Quotes.{first_behind_quote, quote_fault}
use Rattle.ruled_csv.specs.Rows.{columns_of, ended_in, rows_in}
use Rattle.ruled_csv.specs.declared.fault.RowsFault.{RowsFault}
use Rattle.ruled_csv.specs.declared.fault.RowsFault.TheVariants.{OpenQuote, BehindQuote, Length, Encoding, Memory}
use Rattle.ruled_csv.specs.declared.dialect.Dialect.{Dialect}

-- a fault, but for the line on which its row begins
abbrev pub but_line : RowsFault → RowsFault
but_line (OpenQuote line) = OpenQuote line
but_line (BehindQuote line) = BehindQuote line
but_line (Length row line fields columns) = Length row 0 fields columns
but_line (Encoding row line) = Encoding row 0
but_line Memory = Memory

-- a result tells the right fault, or that memory was refused; where it is an `Ok` there is none
abbrev pub Tells : {X : Type 0} → Option RowsFault → Result X RowsFault → Type 0
Tells right (Ok x) = right ≡ None
Tells right (Err fault) = fault ≢ Memory → right ≡ Some (but_line fault)

-- a row's number, up to the largest that a counter holds
abbrev pub number_of : ℕ → ℕ
number_of row = min row (2 ^ 64 - 1)

-- a row may have so many fields: as many as row 0, or any number
abbrev pub has_length : Dialect → ℕ → ℕ → Bool
has_length dialect columns fields = dialect.rows.is_ragged || (fields == columns)

-- what is wrong with a row: another number of fields than row 0 has, where that counts, or a field that is no UTF-8
abbrev pub row_fault : Dialect → ℕ → ℕ → List (List ℕ) → Option RowsFault
row_fault dialect columns row fields =
    if not (has_length dialect columns (length fields)) then Some (Length (number_of row) 0 (length fields) columns)
    else if not (list_all is_utf8 fields) then Some (Encoding (number_of row) 0)
    else None

-- nothing is wrong with a row, of so many columns
abbrev pub is_sound : Dialect → ℕ → List (List ℕ) → Bool
is_sound dialect columns fields = is_none (row_fault dialect columns 0 fields)

-- what is wrong with the first bad one of these rows, which are those from this row on
abbrev pub first_fault : Dialect → ℕ → ℕ → List (List (List ℕ)) → Option RowsFault
first_fault dialect columns row [] = None
first_fault dialect columns row (fields ∷ rows) = option_or (row_fault dialect columns row fields) (first_fault dialect columns (row + 1) rows)

-- a text up to this place
abbrev pub up_to : Option ℕ → List ℕ → List ℕ
up_to None text = text
up_to (Some n) text = take n text

module _ (dialect : Dialect) (text : List ℕ) where
  -- the rows whose quotes stand where they may: all, or those that end above the quote that doesn't
  abbrev pub quoted_rows : List (List (List ℕ))
  quoted_rows =
      if is_none (quote_fault dialect text) then rows_in dialect text
      else ended_in dialect (up_to (first_behind_quote dialect text) text)

  -- what is wrong with a text: the first bad row of these, or else the quote
  abbrev pub text_fault : Option RowsFault
  text_fault = option_or (first_fault dialect (columns_of quoted_rows) 0 quoted_rows) (quote_fault dialect text)

  -- those rows above the first bad one
  abbrev pub sound_rows_in : List (List (List ℕ))
  sound_rows_in = take_while (is_sound dialect (columns_of quoted_rows)) quoted_rows

-- what is wrong with bytes
unfoldable pub rows_fault : Dialect → List ℕ → Option RowsFault
rows_fault dialect bytes = text_fault dialect (kept_text dialect bytes)

-- the rows of bytes above the first bad one: all, where nothing is wrong
unfoldable pub sound_rows : Dialect → List ℕ → List (List (List ℕ))
sound_rows dialect bytes = sound_rows_in dialect (kept_text dialect bytes)

-- ---- the words for them

-- what is said of a line
abbrev pub of_line : ℕ → List ℕ → List ℕ
of_line line words = codes "line " ++ (decimal line ++ (codes ": " ++ words))

abbrev pub fields_word : ℕ → List ℕ
fields_word fields = if fields == 1 then codes "field" else codes "fields"

abbrev pub rows_fault_text : RowsFault → List ℕ
rows_fault_text (OpenQuote line) = of_line line (codes "a quote isn't closed")
rows_fault_text (BehindQuote line) = of_line line (codes "text after a closing quote")
rows_fault_text (Length row line fields columns) =
    of_line line (decimal fields ++ (codes " " ++ (fields_word fields ++ (codes ", but row 0 has " ++ (decimal columns ++ codes "; see --ragged")))))
rows_fault_text (Encoding row line) = of_line line (codes "not UTF-8")
rows_fault_text Memory = codes "out of memory"

-- A stream of rows: it holds the latest row until the next one is there, and appends the others.
use Rattle.std.specs.Prelude.{◌≡◌, ℕ, ◌++◌, true, false, nat_lt, List, [], ◌∷◌, Option, Some, None, option_map, unwrap_or, IfSome, Result, Ok, Err, IsErr, Bool, String}
use Rattle.std.specs.Prelude.{string_bytes, ⊤, ◌⊎◌, if◌then◌else◌}
use Rattle.std.specs.Iterator.{Yields, YieldsThen}
use Rattle.pg_layout.specs.declared.position.Position.{Position}
use Rattle.pg_layout.specs.Colors.{Color}
use Rattle.pg_layout.specs.Text.{Text}
use Rattle.pg_picture.specs.Appending.{Appends}
use Rattle.pg_stream.specs.Conditions.{RowFits, RowsFit}
use Rattle.pg_stream.specs.Printers.{Printer, printing}
use Rattle.pg_stream.specs.Printing.{Printing, row_text, rows_text, after_row}
use Rattle.pg_stream.specs.declared.fault.RowsFault.{RowsFault}
use Rattle.pg_stream.specs.declared.fault.RowsFault.TheVariants.{Stream as InStream, Source}
use Rattle.pg_stream.specs.declared.fault.StreamFault.{StreamFault}
use Rattle.pg_stream.specs.declared.fault.StreamFault.TheVariants.{Misfit, Row, Open, Memory}

-- ---- a stream

-- what a stream of rows stands for: the printer of the rows above the held one, and the held row's texts
pub record Streaming : Type 0 where
  pub before : Printing
  pub held : Option (List Text)

-- the same of its printer's parts
pub record Stream (D C : Type 0) : Type 0 where
  pub printer : Printer D C
  pub held : Option (List Text)

abbrev pub streaming : {D C : Type 0} → (D → ℕ → ℕ) → (D → ℕ → ℕ) → (C → Position → Option Color) → Stream D C → Streaming
streaming width height color s = record { before = printing width height color s.printer; held = s.held }

-- ---- what a stream appends when the next row is there

-- the held row, which isn't the last then
abbrev pub held_text : Streaming → Text
held_text s = unwrap_or (option_map (λ row. row_text s.before row false) s.held) []

abbrev pub HeldFits : Streaming → Type 0
HeldFits s = IfSome s.held (λ row. RowFits s.before row false)

-- and the stream after that, which holds the next row
abbrev pub after_push : Streaming → List Text → Streaming
after_push s next = record { before = unwrap_or (option_map (λ row. after_row s.before row false) s.held) s.before; held = Some next }

-- the held row and the rows behind it
abbrev pub rows_left : Streaming → List (List Text) → List (List Text)
rows_left s rows = unwrap_or (option_map (λ row. row ∷ rows) s.held) rows

-- ---- rows that may not fit

-- row n of the table is the first of these that doesn't fit, of which the last one is the table's last
abbrev pub IsMisfit : Printing → List (List Text) → ℕ → Type 0
IsMisfit s [] n = ⊥
IsMisfit s (cells ∷ []) n = (n ≡ s.rows) × ¬ (RowFits s cells true)
IsMisfit s (cells ∷ next ∷ rows) n = ((n ≡ s.rows) × ¬ (RowFits s cells false)) ⊎ (RowFits s cells false × IsMisfit (after_row s cells false) (next ∷ rows) n)

-- the text of the rows above row n of the table, of which none is the last
unfoldable pub text_above : Printing → List (List Text) → ℕ → Text
text_above s [] n = []
text_above s (cells ∷ rows) n = if nat_lt s.rows n then row_text s cells false ++ text_above (after_row s cells false) rows n else []

-- ---- what calls answer

-- memory was refused, or nothing
abbrev pub OnlyMemory : {U : Type 0} → Result U StreamFault → Type 0
OnlyMemory (Ok value) = ⊤
OnlyMemory (Err (Misfit misfit)) = ⊥
OnlyMemory (Err (Row row)) = ⊥
OnlyMemory (Err Open) = ⊥
OnlyMemory (Err Memory) = ⊤

-- the answer says whether the row fits
abbrev pub TellsRow : {U : Type 0} → Type 0 → ℕ → Result U StreamFault → Type 0
TellsRow Fits row (Ok value) = Fits
TellsRow Fits row (Err (Misfit misfit)) = ⊥
TellsRow Fits row (Err (Row n)) = (n ≡ row) × ¬ Fits
TellsRow Fits row (Err Open) = ⊥
TellsRow Fits row (Err Memory) = Fits

-- A call appends this text, if a row fits that has this number. Else it names the row, and appends nothing.
pub record AppendsIf {Z U : Type 0} (Fits : Type 0) (row : ℕ) (text : Text) (old new : String Z) (result : Result U StreamFault) : Type 0 where
  pub whole : Fits → Appends old new result text × OnlyMemory result
  pub misfit : ¬ Fits → (result ≡ Err (Row row)) × (new ≡ old)
  pub tells : TellsRow Fits row result

-- This row doesn't fit, and this is the text of the rows above it: the row is named behind that text, or memory was refused
-- for that text. Nothing of the row itself is appended. Where the text is empty, no buffer has too little room for it.
abbrev pub StopsAt : {Z U : Type 0} → ℕ → Text → String Z → String Z → Result U StreamFault → Type 0
StopsAt row above old new (Ok value) = ⊥
StopsAt row above old new (Err (Misfit misfit)) = ⊥
StopsAt row above old new (Err (Row n)) = (n ≡ row) × (string_bytes new ≡ string_bytes old ++ above)
StopsAt row above old new (Err Open) = ⊥
StopsAt {U} row above old new (Err Memory) = Appends {U = U} old new (Err Memory) above

-- the answer says whether all rows fit, or names the first that doesn't, and then those above it are appended
abbrev pub TellsRows : {Z U : Type 0} → Type 0 → (ℕ → Type 0) → Text → (ℕ → Text) → String Z → String Z → Result U StreamFault → Type 0
TellsRows Fit IsFirst text above old new (Ok value) = Fit
TellsRows Fit IsFirst text above old new (Err (Misfit misfit)) = ⊥
TellsRows Fit IsFirst text above old new (Err (Row n)) = IsFirst n × (string_bytes new ≡ string_bytes old ++ above n)
TellsRows Fit IsFirst text above old new (Err Open) = ⊥
TellsRows {U} Fit IsFirst text above old new (Err Memory) = Appends {U = U} old new (Err Memory) text

-- A call appends rows, if they fit. Else it stops at the first that doesn't. The rows alone say which: `Fit`, that they fit;
-- `IsFirst n`, that row n is the first that doesn't; `text`, what they append together; `above n`, what those above row n do.
pub record AppendsRows {Z U : Type 0} (Fit : Type 0) (IsFirst : ℕ → Type 0) (text : Text) (above : ℕ → Text) (old new : String Z) (result : Result U StreamFault) : Type 0 where
  -- rows that fit are appended, and refused for want of memory alone
  pub whole : Fit → Appends old new result text × OnlyMemory result
  -- at the first row that doesn't fit it stops
  pub misfit : (n : ℕ) → IsFirst n → StopsAt n (above n) old new result
  -- and what the answer tells of the rows
  pub tells : TellsRows Fit IsFirst text above old new result

-- A call appends the text of these rows and ends the table, if they fit. Else it names the first row that doesn't.
abbrev pub PrintsRows : {Z U : Type 0} → Printing → List (List Text) → String Z → String Z → Result U StreamFault → Type 0
PrintsRows s rows old new result = AppendsRows (RowsFit s rows) (IsMisfit s rows) (rows_text s rows) (text_above s rows) old new result

-- ---- rows that may be errors

-- the rows before the first error, and that error
abbrev pub rows_before : {A E : Type 0} → List (Result A E) → List A
rows_before [] = []
rows_before (Ok row ∷ items) = row ∷ rows_before items
rows_before (Err error ∷ items) = []

abbrev pub first_error : {A E : Type 0} → List (Result A E) → Option E
first_error [] = None
first_error (Ok row ∷ items) = first_error items
first_error (Err error ∷ items) = Some error

-- Where an error comes behind these rows, the latest is held and never printed: it isn't known whether it is the last. So it
-- needn't fit, and the others are printed as rows that aren't the last.
abbrev pub FitButLatest : Printing → List (List Text) → Type 0
FitButLatest s [] = ⊤
FitButLatest s (cells ∷ []) = ⊤
FitButLatest s (cells ∷ next ∷ rows) = RowFits s cells false × FitButLatest (after_row s cells false) (next ∷ rows)

-- row n of the table is the first of these but the latest that doesn't fit
abbrev pub IsMisfitButLatest : Printing → List (List Text) → ℕ → Type 0
IsMisfitButLatest s [] n = ⊥
IsMisfitButLatest s (cells ∷ []) n = ⊥
IsMisfitButLatest s (cells ∷ next ∷ rows) n = ((n ≡ s.rows) × ¬ (RowFits s cells false)) ⊎ (RowFits s cells false × IsMisfitButLatest (after_row s cells false) (next ∷ rows) n)

-- the text of these rows but for the latest
unfoldable pub text_but_latest : Printing → List (List Text) → Text
text_but_latest s [] = []
text_but_latest s (cells ∷ []) = []
text_but_latest s (cells ∷ next ∷ rows) = row_text s cells false ++ text_but_latest (after_row s cells false) (next ∷ rows)

-- A call appends the text of these rows but for the latest, if they fit. Else it names the first that doesn't.
abbrev pub PrintsButLatest : {Z U : Type 0} → Printing → List (List Text) → String Z → String Z → Result U StreamFault → Type 0
PrintsButLatest s rows old new result = AppendsRows (FitButLatest s rows) (IsMisfitButLatest s rows) (text_but_latest s rows) (text_above s rows) old new result

-- A call prints the rows before the first error, where there is one, and else all of them and the table's end.
abbrev pub PrintsUntil : {Z U E : Type 0} → Option E → Printing → List (List Text) → String Z → String Z → Result U StreamFault → Type 0
PrintsUntil None s rows old new result = PrintsRows s rows old new result
PrintsUntil (Some error) s rows old new result = PrintsButLatest s rows old new result

-- A call prints the rows before the first error. It answers `Ok` where there is none, and the error where one comes and the
-- rows were printed; any other answer says why these weren't.
abbrev pub PrintsResults : {Z U E : Type 0} → Streaming → List (Result (List Text) E) → String Z → String Z → Result U (RowsFault E) → Type 0
PrintsResults s items old new (Ok value) = (first_error items ≡ None) × PrintsRows s.before (rows_left s (rows_before items)) old new (Ok value)
PrintsResults {U} s items old new (Err (InStream fault)) = PrintsUntil {U = U} (first_error items) s.before (rows_left s (rows_before items)) old new (Err fault)
PrintsResults s items old new (Err (Source error)) = (first_error items ≡ Some error) × PrintsButLatest {U = Unit {0}} s.before (rows_left s (rows_before items)) old new (Ok tt)

-- ---- rows that a run of an iterator gave

-- An iterator gave these rows, one after the other, and `whole` says that no other came behind them. Then a call prints all of
-- them and the table's end. Else it stopped when the latest was there, for a fault of those before it.
abbrev pub PrintsRun : {Z U : Type 0} → Bool → Printing → List (List Text) → String Z → String Z → Result U StreamFault → Type 0
PrintsRun true s rows old new result = PrintsRows s rows old new result
PrintsRun false s rows old new result = IsErr result × PrintsButLatest s rows old new result

-- the last of these items is this error, and the others are none
abbrev pub EndsInError : {A E : Type 0} → E → List (Result A E) → Type 0
EndsInError error [] = ⊥
EndsInError error (Ok row ∷ items) = EndsInError error items
EndsInError error (Err other ∷ items) = (other ≡ error) × (items ≡ [])

-- An iterator gave these items, which may be errors. A call stopped at the first error, which is the latest item: it asks for none
-- behind it. Or it stopped for a fault of the rows before the latest, or printed all rows of an iterator that gave no error.
abbrev pub PrintsResultsRun : {Z U E : Type 0} → Bool → Streaming → List (Result (List Text) E) → String Z → String Z → Result U (RowsFault E) → Type 0
PrintsResultsRun true s items old new (Ok value) = PrintsResults s items old new (Ok value)
PrintsResultsRun {U} true s items old new (Err (InStream fault)) = (first_error items ≡ None) × PrintsRows {U = U} s.before (rows_left s (rows_before items)) old new (Err fault)
PrintsResultsRun true s items old new (Err (Source error)) = ⊥
PrintsResultsRun false s items old new (Ok value) = ⊥
PrintsResultsRun {U} false s items old new (Err (InStream fault)) = (first_error items ≡ None) × PrintsButLatest {U = U} s.before (rows_left s (rows_before items)) old new (Err fault)
PrintsResultsRun false s items old new (Err (Source error)) = EndsInError error items × PrintsButLatest {U = Unit {0}} s.before (rows_left s (rows_before items)) old new (Ok tt)

-- calls of `next` gave these items, and left the iterator at this state: behind the last item, or behind the `None` that ended a whole run
abbrev pub IsLeftAt : {I A : Type 0} → (I → Option A → I → Type 0) → I → List A → Bool → I → Type 0
IsLeftAt steps from items true at = YieldsThen steps from items None at
IsLeftAt steps from items false at = Yields steps from items at

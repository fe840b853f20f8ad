-- A stream whose rows are printed when they are pushed, and whose end is told behind the last one.
use Rattle.std.specs.Prelude.{◌≡◌, ℕ, ◌++◌, Bool, true, false, List, [], ◌∷◌, Option, IfSome, Result, Ok, Err, String, ◌⊎◌}
use Rattle.pg_layout.specs.declared.position.Position.{Position}
use Rattle.pg_layout.specs.Colors.{Color}
use Rattle.pg_layout.specs.Text.{Text}
use Rattle.pg_picture.specs.Appending.{Appends}
use Rattle.pg_picture.specs.Fits.{spans_fit}
use Rattle.pg_stream.specs.Conditions.{RowFits}
use Rattle.pg_stream.specs.Printers.{Printer, printing}
use Rattle.pg_stream.specs.Printing.{Printing, row_text, finish_text, after_row}
use Rattle.pg_stream.specs.Streams.{OnlyMemory}
use Rattle.pg_stream.specs.declared.fault.StreamFault.{StreamFault}
use Rattle.pg_stream.specs.declared.fault.StreamFault.TheVariants.{Misfit, Row, Open, Memory}

-- ---- a live stream

-- what it stands for: the printer of the rows so far, and whether memory was refused, so that it is over
pub record Living : Type 0 where
  pub printed : Printing
  pub is_lost : Bool

-- the same of its printer's parts
pub record Live (D C : Type 0) : Type 0 where
  pub printer : Printer D C
  pub is_lost : Bool

abbrev pub living : {D C : Type 0} → (D → ℕ → ℕ) → (D → ℕ → ℕ) → (C → Position → Option Color) → Live D C → Living
living width height color s = record { printed = printing width height color s.printer; is_lost = s.is_lost }

-- A row may be lent where it fits, no cell spans others, and it has one line: then no cell of it goes on.
abbrev pub LentFits : Printing → List Text → Type 0
LentFits s cells = RowFits s cells false × (s.table.config.spans ≡ []) × (s.table.height s.rows ≡ 1)

-- ---- its end

-- No row was printed, or each rectangle ends with the rows so far, which are as many as are known.
abbrev pub MayEnd : Printing → Type 0
MayEnd s = (s.rows ≡ 0) ⊎ (IfSome s.hint (λ rows. s.rows ≡ rows) × (spans_fit s.table.config.spans s.rows s.table.columns ≡ true))

-- the answer says whether the table may end
abbrev pub TellsEnd : {U : Type 0} → Type 0 → Result U StreamFault → Type 0
TellsEnd May (Ok value) = May
TellsEnd May (Err (Misfit misfit)) = ⊥
TellsEnd May (Err (Row row)) = ⊥
TellsEnd May (Err Open) = ¬ May
TellsEnd May (Err Memory) = May

-- A call appends the end of a table, if it may end behind the rows so far. Else it says that it is open, and appends
-- nothing.
pub record AppendsEnd {Z U : Type 0} (s : Printing) (old new : String Z) (result : Result U StreamFault) : Type 0 where
  pub whole : MayEnd s → Appends old new result (finish_text s) × OnlyMemory result
  pub misfit : ¬ (MayEnd s) → (result ≡ Err Open) × (new ≡ old)
  pub tells : TellsEnd (MayEnd s) result

-- ---- all rows

-- the text of rows that are printed one after another, none of them as the last, and of the end below them
unfoldable pub live_text : Printing → List (List Text) → Text
live_text s [] = finish_text s
live_text s (cells ∷ rows) = row_text s cells false ++ live_text (after_row s cells false) rows

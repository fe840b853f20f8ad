-- The lines of a table's rows, which are appended one row after another.
use Rattle.std.specs.Prelude.{◌≡◌, ℕ, ⊤, ◌==◌, nat_lt, Bool, false, List, [], ◌∷◌, ◌++◌, slice_index_or, Result, Ok, Err, if◌then◌else◌, true, None, ◌<◌, length, All}
use Rattle.arrayvec.specs.ArrayString.{ArrayString}
use Rattle.pg_layout.specs.Text.{Text}
use Rattle.pg_layout.specs.declared.dimension.ConstantDimension.{ConstantDimension}
use Rattle.pg_fit.specs.Rows.{fitted_text, row_height}
use Rattle.pg_fit.specs.declared.row.Fitted.{Fitted}
use Rattle.pg_stream.specs.Conditions.{RowFits}
use Rattle.pg_stream.specs.LiveStreams.{Live, Living, living}
use Rattle.pg_stream.specs.Printing.{Printing, after_row, row_text}
use Rattle.ruled_table.specs.Tables.{is_memory}
use Rattle.ruled_table.specs.Layouts.{cells_of, heights_of, start_of, Plan, plan_in, with_colors}
use Rattle.ruled_table.specs.Sides.{pointed_row}
use Rattle.ruled_table.specs.Shown.{color_in, shown_row}
use Rattle.ruled_table.specs.Widths.{row_within}
use Rattle.ruled_table.specs.declared.colors.TextColors.{TextColors}
use Rattle.ruled_table.specs.declared.view.ViewFault.{ViewFault}
use Rattle.ruled_table.specs.declared.view.ViewFault.TheVariants.{Totals}
use Rattle.ruled_table.specs.declared.options.Options.{Options}
use Rattle.ruled_table.specs.declared.table_rows.TableRows.{TableRows}
use Rattle.ruled_table.specs.declared.row_lines.RowLines.{RowLines}

-- ---- the lines of rows

-- lines with the line feed behind them that stands in front of them, where they aren't a table's first ones
abbrev pub ended : Text → Text
ended [] = []
ended (byte ∷ bytes) = if byte == 10 then bytes ++ 10 ∷ [] else (byte ∷ bytes) ++ 10 ∷ []

-- without a line feed in front
abbrev pub unfed : Text → Text
unfed [] = []
unfed (byte ∷ bytes) = if byte == 10 then bytes else byte ∷ bytes

abbrev pub but_feed : Bool → Text → Text
but_feed is_begun lines = if is_begun then unfed lines else lines

abbrev pub ended_by : Bool → Text → Text
ended_by is_begun text = if is_begun then ended text else text ++ 10 ∷ []

-- the line below a table: without rows nothing
abbrev pub note_below : Bool → Text → Text
note_below is_begun note = if is_begun then note else []

-- the lines of the next row
abbrev pub next_lines : Printing → List Text → Text
next_lines s cells = ended_by (nat_lt 0 s.rows) (row_text s cells false)

-- the printer behind these rows
unfoldable pub after_rows : Printing → List (List Text) → Printing
after_rows s [] = s
after_rows s (cells ∷ rows) = after_rows (after_row s cells false) rows

-- the lines of these rows
unfoldable pub lines_of : Printing → List (List Text) → Text
lines_of s [] = []
lines_of s (cells ∷ rows) = next_lines s cells ++ lines_of (after_row s cells false) rows

-- each of these rows is as high as its highest text
unfoldable pub AreHeights : Printing → List (List Text) → Type 0
AreHeights s [] = ⊤
AreHeights s (cells ∷ rows) = (s.table.height s.rows ≡ row_height cells) × AreHeights (after_row s cells false) rows

-- the lines of a table of these cells, without its end
abbrev pub begun_of : Plan → List (List Text) → Text
begun_of plan cells = lines_of (start_of plan (heights_of cells)) cells

-- the lines of these rows, each with a line feed behind it, without the table's end
abbrev pub begun_text : Options → Plan → List (List Text) → Text
begun_text options plan rows = begun_of plan (cells_of options plan rows)

-- ---- rows without room

-- these cells have no room below those: their lines can't be counted
abbrev pub HasNoRoomBelow : Plan → List (List Text) → List Text → Type 0
HasNoRoomBelow plan above cells = ¬ (RowFits (after_rows (start_of plan (heights_of (above ++ cells ∷ []))) above) cells false)

-- this row has no room below those above it
abbrev pub HasNoRoom : Options → Plan → List (List Text) → List Text → Type 0
HasNoRoom options plan above row = HasNoRoomBelow plan (cells_of options plan above) (row_within options.bounds.overflow plan.width (shown_row options plan.places (pointed_row plan.extents row)))

-- ---- as contracts see it

-- what is appended makes the whole of what is begun
pub record GrowsTo (begun whole old new : Text) : Type 0 where
  pub more : Text
  pub makes : begun ++ more ≡ whole
  pub bytes : new ≡ old ++ more

-- a fault, but that memory was refused, says that there is no room
abbrev pub TellsRoom : {X : Type 0} → Type 0 → Result X ViewFault → Type 0
TellsRoom NoRoom (Ok x) = ⊤
TellsRoom NoRoom (Err fault) = is_memory fault ≡ false → (fault ≡ Totals) × NoRoom

-- a text that a row of several lines holds
abbrev pub held_text : {A : Type 0} → Fitted ArrayString A → Text
held_text cell = fitted_text (λ text. text.bytes) cell

-- what a stream of rows stands for, by the heights of all of them
abbrev pub state_of : {A : Type 0} → (ℕ → ℕ) → Live (ConstantDimension A) TextColors → Living
state_of heights s = living (λ sizes column. slice_index_or sizes.0.items column 0) (λ _. heights) color_in s

-- the printer of a table of these cells, whatever heights are said of the rows behind them
abbrev pub HasPrinted : Plan → List (List Text) → ((ℕ → ℕ) → Living) → Type 0
HasPrinted plan cells state =
    (heights : ℕ → ℕ) → AreHeights (start_of plan heights) cells → state heights ≡ record { printed = after_rows (start_of plan heights) cells; is_lost = false }

-- ---- rows that are drawn so far

-- the rows of these cells are drawn, by this plan
pub record HasDrawn (plan : Plan) (cells : List (List Text)) (rows : RowLines) : Type 0 where
  pub some : 0 < length plan.places
  pub plain : plan.config.spans ≡ []
  pub noted : rows.note.now ≡ plan.note
  pub begun : rows.is_begun ≡ nat_lt 0 (length cells)
  pub prints : HasPrinted plan cells (λ heights. state_of heights rows.sheet)

-- each row has a cell for each column
abbrev pub AreEven : Plan → List (List Text) → Type 0
AreEven plan cells = All (λ row. length row ≡ length plan.places) cells

-- ---- rows whose lines are appended

-- these rows are, by these options and this plan
pub record HasAppended (options : Options) (plan : Plan) (rows : List (List Text)) (table : TableRows) : Type 0 where
  pub asked : table.options.now ≡ options
  pub laid : plan_in table.layout.now ≡ with_colors (λ place. None) plan
  pub drawn : HasDrawn plan (cells_of options plan rows) table.rows

-- a call has failed
abbrev pub IsOver : TableRows → Type 0
IsOver table = table.is_over ≡ true

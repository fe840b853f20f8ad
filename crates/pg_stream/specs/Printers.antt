-- What contracts see of the fields of a printer, and what is true of each printer between its calls.
use Rattle.std.specs.Prelude.{◌≡◌, ℕ, ◌-◌, ◌^◌, ◌<◌, ◌≤◌, Bool, true, List, [], length, IfSome, Option, option_map}
use Rattle.pg_layout.specs.declared.position.Position.{Position}
use Rattle.pg_layout.specs.Colors.{Color}
use Rattle.pg_config.specs.Config.{Config}
use Rattle.pg_picture.specs.Fits.{spans_fit}
use Rattle.pg_picture.specs.Marks.{marks_above}
use Rattle.pg_picture.specs.Table.{Table, full_width, table_body}
use Rattle.pg_stream.specs.Conditions.{PrinterFits}
use Rattle.pg_stream.specs.Open.{Slot, open_before}
use Rattle.pg_stream.specs.Placed.{Placed, slots_of, AllOpen, IsPlaced}
use Rattle.pg_stream.specs.Printing.{Printing, table_known}
use Rattle.pg_stream.specs.declared.printer.frame.Frame.{Frame}
use Rattle.pg_stream.specs.declared.printer.progress.Progress.{Progress}

-- a printer over a dimension and colours
pub record Printer (D C : Type 0) : Type 0 where
  pub config : Config
  pub columns : ℕ
  pub dimension : D
  pub colors : C
  pub hint : Option ℕ
  pub rows : ℕ
  pub lines : ℕ
  pub is_ended : Bool
  pub slots : List (Option Slot)

-- a printer that was told this, and has printed so much
abbrev pub printer_of : {D C B S A : Type 0} → Frame D C B → Progress S A → Printer D C
printer_of frame progress = record {
  config = frame.sheet.config.now;
  columns = frame.sheet.columns;
  dimension = frame.sheet.dimension.now;
  colors = frame.sheet.colors.now;
  hint = frame.hint;
  rows = progress.rows;
  lines = progress.lines;
  is_ended = progress.is_ended;
  slots = slots_of progress.cells;
}

-- what it stands for, by what its dimension and its colours stand for
abbrev pub printing : {D C : Type 0} → (D → ℕ → ℕ) → (D → ℕ → ℕ) → (C → Position → Option Color) → Printer D C → Printing
printing width height color p = record {
  table = record { config = p.config; rows = 0; columns = p.columns; width = width p.dimension; height = height p.dimension; text = λ x. []; color = color p.colors };
  hint = p.hint;
  rows = p.rows;
  lines = p.lines;
  is_ended = p.is_ended;
  slots = p.slots;
}

-- Between its calls: its conditions hold; the total width and, where the number of rows is known, the number of the
-- body's lines are those of its table; the open cells are those of the table whose texts they have themselves, and
-- stand where they are drawn; the lines are counted; and a last row is the last one.
pub record IsSound (s : Printing) (t : Table) (width : ℕ) (height : Option ℕ) (cells : List (Option Placed)) : Type 0 where
  pub fits : PrinterFits s
  pub full : width ≡ full_width t
  pub high : height ≡ option_map (λ rows. length (table_body (record t { rows = rows }))) s.hint
  pub whole : s.table.columns ≡ length cells
  pub slots : slots_of cells ≡ open_before (table_known s s.rows []) s.rows
  pub lines : s.lines ≡ length (marks_above s.table.config s.table.height s.rows)
  pub placed : AllOpen (IsPlaced t) cells
  pub few : s.rows < 2 ^ 64 - 1
  pub hinted : IfSome s.hint (λ rows. (s.rows ≤ rows) × (s.is_ended ≡ true → s.rows ≡ rows))
  pub ended : s.is_ended ≡ true → spans_fit s.table.config.spans s.rows s.table.columns ≡ true

-- what a printer of this table stands for that has printed so much
abbrev pub now_of : {S A : Type 0} → Table → Option ℕ → Progress S A → Printing
now_of t hint progress = record { table = t; hint = hint; rows = progress.rows; lines = progress.lines; is_ended = progress.is_ended; slots = slots_of progress.cells }

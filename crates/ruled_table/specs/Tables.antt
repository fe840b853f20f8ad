-- Tables of rows, their texts, and why there are none.
use Rattle.std.specs.Prelude.{◌≡◌, Bool, true, false, Option, Some, None, Result, Ok, Err, is_none, if◌then◌else◌, ℕ, ◌==◌, List, [], ◌∷◌, ◌++◌, length}
use Rattle.pg_stream.specs.declared.fault.StreamFault.{StreamFault}
use Rattle.pg_stream.specs.declared.fault.StreamFault.TheVariants as stream
use Rattle.pg_table.specs.declared.fault.TableFault.{TableFault}
use Rattle.ruled_table.specs.declared.view.ViewFault.{ViewFault}
use Rattle.ruled_table.specs.declared.view.ViewFault.TheVariants.{Column, Sort, Totals, Memory}
use Rattle.pg_layout.specs.Colors.{Color}
use Rattle.pg_layout.specs.Text.{Text}
use Rattle.pg_layout.specs.declared.borders.HorizontalLine.{HorizontalLine}
use Rattle.pg_layout.specs.declared.position.Position.{Position}
use Rattle.pg_config.specs.Config.{Config}
use Rattle.pg_picture.specs.Picture.{picture}
use Rattle.pg_picture.specs.Table.{Known}
use Rattle.pg_table.specs.Printing.{with_header_line}
use Rattle.ruled_table.specs.Bounds.{bounded_fault, bounded_table}
use Rattle.ruled_table.specs.declared.bounds.Bounds.{Bounds}

-- ---- why rows have no table

-- whether a fault says that memory was refused, and not that the options or the sizes are wrong
abbrev pub is_memory : ViewFault → Bool
is_memory (Column name) = false
is_memory Sort = false
is_memory Totals = false
is_memory Memory = true

-- what is wrong where a table isn't drawn
abbrev pub totals_of : Option TableFault → Option ViewFault
totals_of fault = if is_none fault then None else Some Totals

-- what is wrong where a row isn't drawn, or no table is begun
abbrev pub fault_of_stream : StreamFault → ViewFault
fault_of_stream (stream.Misfit misfit) = Totals
fault_of_stream (stream.Row row) = Totals
fault_of_stream stream.Open = Totals
fault_of_stream stream.Memory = Memory

-- a result tells the right fault, or that memory was refused; where it is an `Ok` there is none
abbrev pub Tells : {X : Type 0} → Option ViewFault → Result X ViewFault → Type 0
Tells right (Ok x) = right ≡ None
Tells right (Err fault) = is_memory fault ≡ false → right ≡ Some fault

-- ---- tables of rows, and their texts

-- the configuration with a line below a header, in a table of so many rows and columns
abbrev pub with_line : Option (HorizontalLine ℕ) → ℕ → ℕ → Config → Config
with_line None rows columns config = config
with_line (Some line) rows columns config = with_header_line line rows columns config

-- the picture of the table of rows within its bounds, and a line feed; of no rows nothing
abbrev pub text_with : Bounds → Config → (Position → Option Color) → List (List Text) → Text
text_with bounds config color rows = if length rows == 0 then [] else picture Known (bounded_table bounds config color rows) ++ 10 ∷ []

-- what is wrong with its sizes
abbrev pub fault_with : Bounds → Config → (Position → Option Color) → List (List Text) → Option ViewFault
fault_with bounds config color rows = if length rows == 0 then None else totals_of (bounded_fault bounds config color rows)

-- What printing a table at its natural sizes does.
use Rattle.std.specs.Prelude.{◌≡◌, ◌⊎◌, Bool, true, not, ◌&&◌, ◌||◌, ◌==◌, nat_lt, ℕ, List, map, length, Option, Some, None, Result, Err, String, if◌then◌else◌, codes}
use Rattle.pg_layout.specs.declared.borders.HorizontalLine.{HorizontalLine}
use Rattle.pg_layout.specs.declared.position.Position.{Position}
use Rattle.pg_layout.specs.Colors.{Color}
use Rattle.pg_layout.specs.ColorsMap.{color_at}
use Rattle.pg_layout.specs.Looks.{ascii}
use Rattle.pg_layout.specs.Records.{columns_of, text_at, records_fault_text}
use Rattle.pg_layout.specs.Text.{Text}
use Rattle.pg_config.specs.Config.{Config, default_config}
use Rattle.pg_config.specs.Overrides.{with_row_line}
use Rattle.pg_picture.specs.Fits.{spans_fit, totals_fit}
use Rattle.pg_picture.specs.Table.{Table as PrintedTable, is_empty}
use Rattle.pg_picture.specs.Appending.{AppendsOrNothing}
use Rattle.pg_table.specs.Natural.{natural_sizes, natural_table, all_fit, cells_fit}
use Rattle.pg_table.specs.Spanning.{widths_from, table_from}
use Rattle.pg_table.specs.declared.fault.TableFault.{TableFault}
use Rattle.pg_table.specs.declared.fault.TableFault.TheVariants.{Spans, Totals, Memory, Ragged}
use Rattle.pg_table.specs.declared.natural.NaturalTable.{NaturalTable}
use Rattle.pg_table.specs.declared.sizes.Axis.{Axis}
use Rattle.pg_table.specs.declared.sizes.Axis.TheVariants.{Columns, Rows}
use Rattle.pg_layout.specs.declared.vec_records.RecordsFault.TheVariants as records

-- ---- the words for a table that can't be made or printed

abbrev pub table_fault_text : TableFault → Text
table_fault_text (Ragged row) = records_fault_text (records.Ragged row)
table_fault_text Totals = codes "the sizes are too large"
table_fault_text Memory = codes "out of memory"
table_fault_text Spans = codes "a span is 0, leaves the table, or shares a place with another"

-- ---- faults

-- why a table with cells isn't printed at its natural sizes: its spans don't fit, or its totals are no numbers
unfoldable pub fault_of : PrintedTable → Option TableFault
fault_of t =
    if is_empty t then None
    else if not (spans_fit t.config.spans t.rows t.columns) then Some Spans
    else if not (totals_fit t) then Some Totals
    else None

-- a span is kept
abbrev pub is_spanned : PrintedTable → Bool
is_spanned t = not (length t.config.spans == 0)

-- What a call that works out the sizes of a table may answer: its fault; and want of memory where it has none, or where it
-- has spans and its totals are no numbers, which is known only where there is memory for its sizes.
abbrev pub CanFail : PrintedTable → TableFault → Type 0
CanFail t fault = (fault_of t ≡ Some fault) ⊎ ((fault ≡ Memory) × ((fault_of t ≡ None) ⊎ ((fault_of t ≡ Some Totals) × (is_spanned t ≡ true))))

-- A table with a fault is refused and the buffer stays as it was. Any other table is appended, and nothing but
-- want of memory is refused, before the first byte or in the midst of them.
abbrev pub Prints : {Z U : Type 0} → Bool → Option TableFault → String Z → String Z → Result U TableFault → Text → Type 0
Prints spanned (Some fault) old new result text = ((result ≡ Err fault) ⊎ ((result ≡ Err Memory) × (fault ≡ Totals) × (spanned ≡ true))) × (new ≡ old)
Prints spanned None old new result text = AppendsOrNothing old new result text × ((fault : TableFault) → result ≡ Err fault → fault ≡ Memory)

-- why natural sizes of these texts of so many columns aren't told: the spans of a table with cells don't fit, or a natural size, or
-- the width or the height of a shown cell, is no number
unfoldable pub sizes_fault : Config → List (List Text) → ℕ → Option TableFault
sizes_fault config texts columns =
    if not ((length texts == 0) || (columns == 0)) && not (spans_fit config.spans (length texts) columns) then Some Spans
    else if not ((all_fit (natural_sizes Columns config texts columns) && all_fit (natural_sizes Rows config texts columns)) && cells_fit config (text_at texts) (length texts) columns)
    then Some Totals
    else None

-- ---- tables

-- what a lending table is made of: its records, its configuration, its colours, and how wide its columns are at least where spans are kept
abbrev pub natural_parts : {R C B : Type 0} → NaturalTable R C B → R × Config × C × List ℕ
natural_parts t = (t.records, t.config.now, t.colors.now, t.widths.now)

-- the table that it draws, by what its records and its colours tell
abbrev pub printed_table_of : {R C : Type 0} → (R → List (List Text)) → (R → ℕ) → (C → Position → Option Color) → R × Config × C × List ℕ → PrintedTable
printed_table_of texts columns color (records, config, colors, told) = table_from told config (texts records) (columns records) (color colors)

-- its sizes, by what its records tell
abbrev pub sizes_of : {R C : Type 0} → (R → List (List Text)) → (R → ℕ) → Axis → R × Config × C × List ℕ → List ℕ
sizes_of texts columns Columns (records, config, colors, told) = widths_from told config (texts records) (columns records)
sizes_of texts columns Rows (records, config, colors, told) = natural_sizes Rows config (texts records) (columns records)

-- and why they aren't told
abbrev pub sizes_fault_of : {R C : Type 0} → (R → List (List Text)) → (R → ℕ) → R × Config × C × List ℕ → Option TableFault
sizes_fault_of texts columns (records, config, colors, told) = sizes_fault config (texts records) (columns records)

-- what a table with rows of its own is made of
pub record Parts (T : Type 0) : Type 0 where
  pub rows : List (List T)
  pub config : Config
  pub colors : List (Position × Color)

-- the table that it draws, by the texts of its cells
abbrev pub printed_table : {T : Type 0} → (T → Text) → Parts T → PrintedTable
printed_table text t = natural_table t.config (map (λ row. map text row) t.rows) (columns_of t.rows) (λ place. color_at place t.colors)

-- a configuration that was told ASCII borders alone
abbrev pub ascii_config : Config
ascii_config = record default_config { borders = ascii }

-- the configuration with this line between row 0 and row 1, where there are so many rows and columns
abbrev pub with_header_line : HorizontalLine ℕ → ℕ → ℕ → Config → Config
with_header_line line rows columns config =
    if nat_lt 1 rows then record config { overrides = with_row_line 1 columns line config.overrides } else config

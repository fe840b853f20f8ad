-- The table that a compact grid draws, and its condition.
use Rattle.std.specs.Prelude.{◌≡◌, ℕ, ◌<◌, ◌==◌, ◌||◌, Bool, List, length, Option, None, if◌then◌else◌}
use Rattle.std.specs.Borrow.{Bor}
use Rattle.pg_layout.specs.declared.position.Position.{Position}
use Rattle.pg_layout.specs.Colors.{Color}
use Rattle.pg_layout.specs.Records.{text_at}
use Rattle.pg_layout.specs.Text.{Text}
use Rattle.pg_config.specs.declared.compact.CompactConfig.{CompactConfig}
use Rattle.pg_config.specs.CompactConfig.{settings_of}
use Rattle.pg_picture.specs.CompactLines.{CompactTable, compact_sized}
use Rattle.pg_picture.specs.Fits.{compact_misfit_of}
use Rattle.pg_picture.specs.declared.fits.Misfit.{Misfit}
use Rattle.pg_layout.specs.declared.records.Records as records
use Rattle.pg_compact.specs.declared.grid.CompactGrid.{CompactGrid}

-- The table of a compact grid: of what its records, its dimension and its colours stand for.
abbrev pub compact_table : {R D C : Type 0} → (R → List (List Text)) → (R → ℕ) → (D → ℕ → ℕ) → (C → Position → Option Color) → CompactGrid R D (Bor CompactConfig) C → CompactTable
compact_table texts columns width color grid = record {
  config = settings_of grid.config.now;
  rows = length (texts grid.records);
  columns = columns grid.records;
  width = width grid.dimension;
  text = text_at (texts grid.records);
  color = color grid.colors;
}

-- its records may be read
abbrev pub MayBeRead : {R Cell Columns Rows D G C : Type 0} → records.Ghosts R Cell Columns Rows → CompactGrid R D G C → Type 0
MayBeRead records grid = records.is_readable grid.records

-- what a compact grid is made of
abbrev pub compact_parts : {R D G C : Type 0} → CompactGrid R D G C → R × D × G × C
compact_parts grid = (grid.records, grid.dimension, grid.config, grid.colors)

-- it has no rows or no columns
abbrev pub has_no_cells : CompactTable → Bool
has_no_cells t = (t.rows == 0) || (t.columns == 0)

-- A table with rows fits: its columns can be counted, its total width is a number of 64 bits, and each column has room
-- for the side paddings. Its texts don't matter, and nothing is asked of a table with no rows.
abbrev pub CompactFits : CompactTable → Type 0
CompactFits t = 0 < t.rows → compact_misfit_of (compact_sized t.config t.width t.columns) ≡ None

-- the first thing that doesn't fit in it
abbrev pub compact_misfit : CompactTable → Option Misfit
compact_misfit t = if t.rows == 0 then None else compact_misfit_of (compact_sized t.config t.width t.columns)

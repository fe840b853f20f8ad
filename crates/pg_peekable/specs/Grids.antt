-- The table that a looked-up grid draws.
use Rattle.std.specs.Prelude.{ℕ, List, Option}
use Rattle.std.specs.Borrow.{Bor}
use Rattle.pg_layout.specs.declared.position.Position.{Position}
use Rattle.pg_layout.specs.Colors.{Color}
use Rattle.pg_layout.specs.Text.{Text}
use Rattle.pg_config.specs.Config.{Config}
use Rattle.pg_picture.specs.Grids.{table_of_parts}
use Rattle.pg_picture.specs.Table.{Table}
use Rattle.pg_layout.specs.declared.records.Records as records
use Rattle.pg_layout.specs.declared.dimension.Dimension as dimension
use Rattle.pg_layout.specs.declared.colors.Colors as colors
use Rattle.pg_peekable.specs.declared.grid.PeekableGrid.{PeekableGrid}

-- the table of a looked-up grid
abbrev pub peekable_table : {R D C : Type 0} → (R → List (List Text)) → (R → ℕ) → (D → ℕ → ℕ) → (D → ℕ → ℕ) → (C → Position → Option Color) → PeekableGrid R (Bor Config) D C → Table
peekable_table texts columns width height color grid = table_of_parts texts columns width height color grid.records grid.config.now grid.dimension grid.colors

-- the same from what the types of its parts tell of them
abbrev pub printed_table : {R Cell Columns Rows D C Color : Type 0} → records.Ghosts R Cell Columns Rows → dimension.Ghosts D → colors.Ghosts C Color → PeekableGrid R (Bor Config) D C → Table
printed_table records dimension colors grid = peekable_table records.texts records.columns dimension.width dimension.height colors.color grid

-- what a looked-up grid is made of
abbrev pub peekable_parts : {R G D C : Type 0} → PeekableGrid R G D C → R × G × D × C
peekable_parts grid = (grid.records, grid.config, grid.dimension, grid.colors)

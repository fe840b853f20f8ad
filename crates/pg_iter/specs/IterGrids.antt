-- The table that a streaming grid draws.
use Rattle.std.specs.Borrow.{Bor}
use Rattle.pg_config.specs.Config.{Config}
use Rattle.pg_picture.specs.Table.{Table, Hint}
use Rattle.pg_stream.specs.Printing.{hint_of}
use Rattle.pg_layout.specs.declared.records.Records as records
use Rattle.pg_layout.specs.declared.dimension.Dimension as dimension
use Rattle.pg_layout.specs.declared.colors.Colors as colors
use Rattle.pg_picture.specs.Grids.{table_of_parts}
use Rattle.pg_iter.specs.declared.grid.IterGrid.{IterGrid}

-- the table of a streaming grid: of what its records, its dimension and its colours stand for
abbrev pub streamed : {R Cell Columns Rows D C Color : Type 0} → records.Ghosts R Cell Columns Rows → dimension.Ghosts D → colors.Ghosts C Color → IterGrid R D (Bor Config) C → Table
streamed records dimension colors grid = table_of_parts records.texts records.columns dimension.width dimension.height colors.color grid.records grid.config.now grid.dimension grid.colors

-- its records may be read
abbrev pub MayBeRead : {R Cell Columns Rows D G C : Type 0} → records.Ghosts R Cell Columns Rows → IterGrid R D G C → Type 0
MayBeRead records grid = records.is_readable grid.records

-- whether the number of its rows is known from the first row on
abbrev pub told : {R Cell Columns Rows D G C : Type 0} → records.Ghosts R Cell Columns Rows → IterGrid R D G C → Hint
told records grid = hint_of (records.hint grid.records)

-- what a streaming grid is made of
abbrev pub iter_parts : {R D G C : Type 0} → IterGrid R D G C → R × G × D × C
iter_parts grid = (grid.records, grid.config, grid.dimension, grid.colors)

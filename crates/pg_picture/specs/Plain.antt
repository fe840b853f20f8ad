-- What a table that was told little has: cells without spans, and offsets from the start.
use Rattle.std.specs.Prelude.{ℕ, List}
use Rattle.pg_layout.specs.declared.sides.Offset.{Offset}
use Rattle.pg_layout.specs.declared.sides.Offset.TheVariants.{Start, End}
use Rattle.pg_layout.specs.Position.{at}
use Rattle.pg_picture.specs.Pieces.{Piece}
use Rattle.pg_picture.specs.Table.{Table, line_of_cell}

-- line i of a cell that is as wide as its column and as high as its row
abbrev pub cell_line : Table → ℕ → ℕ → ℕ → List Piece
cell_line t r x i = line_of_cell t (at r x) (t.width x) (t.height r) i

-- an offset from the start
abbrev pub IsFromStart : Offset → Type 0
IsFromStart (Start n) = Unit {0}
IsFromStart (End n) = ⊥

-- The pictures of a table and of a compact table: their lines, joined by one line feed.
use Rattle.std.specs.Prelude.{ℕ, ◌||◌, ◌==◌, List, [], ◌++◌, map, length, if◌then◌else◌}
use Rattle.std.specs.List.{enumerate_from}
use Rattle.pg_layout.specs.Text.{Text}
use Rattle.pg_picture.specs.Marks.{Mark}
use Rattle.pg_picture.specs.Table.{Table, Hint, margin_lines, body_line, table_body}
use Rattle.pg_picture.specs.CompactLines.{CompactTable, compact_lines}
use Rattle.pg_picture.specs.Pieces.{joined, continued}

unfoldable pub top_lines : Table → List Text
top_lines t = let c = t.config in margin_lines t c.margin.top c.margin_offset.top c.margin_color.top

unfoldable pub bottom_lines : Table → List Text
bottom_lines t = let c = t.config in margin_lines t c.margin.bottom c.margin_offset.bottom c.margin_color.bottom

-- the lines of these marks, the first of which has index i in the body
unfoldable pub body_lines : Hint → Table → ℕ → List Mark → List Text
body_lines hint t i marks = map (body_line hint t (length (table_body t))) (enumerate_from i marks)

unfoldable pub picture_lines : Hint → Table → List Text
picture_lines hint t = top_lines t ++ (body_lines hint t 0 (table_body t) ++ bottom_lines t)

-- a table with no rows or no columns has no picture
unfoldable pub picture : Hint → Table → Text
picture hint t = if (t.rows == 0) || (t.columns == 0) then [] else joined (picture_lines hint t)

unfoldable pub compact_picture : CompactTable → Text
compact_picture t = if (t.rows == 0) || (t.columns == 0) then [] else joined (compact_lines t)

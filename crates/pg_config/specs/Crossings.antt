-- Crossings on the edges of merged cells: the lines that meet there, and their glyph.
use Rattle.std.specs.Prelude.{ℕ, zero, suc, ◌+◌, Bool, not, ◌&&◌, ◌||◌, ◌==◌, nat_lt, List, Option, None, if◌then◌else◌}
use Rattle.std.specs.List.{list_any}
use Rattle.pg_layout.specs.declared.borders.Borders.{Borders}
use Rattle.pg_layout.specs.declared.position.Position.{Position}
use Rattle.pg_layout.specs.Borders.{horizontal_glyph, vertical_glyph}
use Rattle.pg_config.specs.declared.crossings.Arms.{Arms}
use Rattle.pg_config.specs.declared.crossings.Side.{Side}
use Rattle.pg_config.specs.declared.crossings.Side.TheVariants.{Top, Bottom, Left, Right}
use Rattle.pg_config.specs.Overrides.{Overrides, with_row}
use Rattle.pg_config.specs.Spans.{Span}
use Rattle.pg_config.specs.Config.{Config, has_horizontal, has_vertical}

-- Line i lies between the first and the last line of so many rows or columns from `first` on, and between the outer lines of a table of n.
abbrev pub lies_inside : ℕ → ℕ → ℕ → ℕ → Bool
lies_inside first count n i = nat_lt first i && (nat_lt i (first + count) && nat_lt i n)

-- The crossing p of a table of so many rows and columns stands on that side of a merged cell, between its corners.
abbrev pub is_on_side : ℕ → ℕ → Position → Side → Span → Bool
is_on_side rows columns p Top s = (p.row == s.0.row) && lies_inside s.0.col s.1.columns columns p.col
is_on_side rows columns p Bottom s = (p.row == s.0.row + s.1.rows) && lies_inside s.0.col s.1.columns columns p.col
is_on_side rows columns p Left s = (p.col == s.0.col) && lies_inside s.0.row s.1.rows rows p.row
is_on_side rows columns p Right s = (p.col == s.0.col + s.1.columns) && lies_inside s.0.row s.1.rows rows p.row

-- A merged cell has the crossing on that side, so that the line which would begin there and run through the cell is missing.
abbrev pub is_on : List Span → ℕ → ℕ → Position → Side → Bool
is_on spans rows columns p side = list_any (is_on_side rows columns p side) spans

-- The lines that meet at a crossing: all that lie inside the table or on its edge, but for those that would run through a merged cell.
abbrev pub arms : ℕ → ℕ → Position → (Side → Bool) → Arms
arms rows columns p on = record {
  up = nat_lt 0 p.row && not (on Bottom);
  down = nat_lt p.row rows && not (on Top);
  left = nat_lt 0 p.col && not (on Right);
  right = nat_lt p.col columns && not (on Left);
}

-- The glyph where these lines meet: three, or two of one direction. For others there is none.
abbrev pub meeting : Borders ℕ → ℕ → ℕ → Position → Arms → Option ℕ
meeting b rows columns p a =
    if a.left && a.right then (if a.up then (if a.down then None else b.bottom_intersection) else if a.down then b.top_intersection else horizontal_glyph b p.row rows)
    else if a.up && a.down then (if a.left then b.right_intersection else if a.right then b.left_intersection else vertical_glyph b p.col columns)
    else None

-- The glyph of a crossing that stands on some side of a merged cell: of the lines that meet there, where both lines of the crossing are there.
abbrev pub edge_glyph : Config → Borders ℕ → ℕ → ℕ → Position → (Side → Bool) → Option ℕ
edge_glyph config b rows columns p on =
    if ((on Top || on Bottom) || (on Left || on Right)) && (has_horizontal config p.row rows && has_vertical config p.col columns)
    then meeting b rows columns p (arms rows columns p on) else None

-- The glyph of each crossing on the edge of a merged cell, between its corners. Others have none, so that they stay as they were.
unfoldable pub span_crossing : Config → Borders ℕ → ℕ → ℕ → Position → Option ℕ
span_crossing config b rows columns p = edge_glyph config b rows columns p (is_on config.spans rows columns p)

-- ---- all crossings

module _ {G : Type 0} where
  -- The crossings of the first m row lines and n column lines get these values. A value that is missing leaves its crossing as it was.
  abbrev pub with_rows : ℕ → ℕ → (Position → Option G) → List (Position × G) → List (Position × G)
  with_rows zero n values es = es
  with_rows (suc m) n values es = with_row m n (λ c. values (record { row = m; col = c })) (with_rows m n values es)

  -- Each crossing of a table of so many rows and columns gets its value, if there is one.
  unfoldable pub with_crossings : ℕ → ℕ → (Position → Option G) → Overrides G → Overrides G
  with_crossings rows columns values o = record o { crossings = with_rows (rows + 1) (columns + 1) values o.crossings }

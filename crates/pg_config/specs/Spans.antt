-- The rectangles of cells that span rows or columns, and the one owner of each place.
use Rattle.std.specs.Prelude.{ℕ, ◌+◌, Bool, not, ◌&&◌, ◌||◌, ◌==◌, nat_lt, nat_le, List, find, Option, Some, None, unwrap_or, if◌then◌else◌}
use Rattle.std.specs.List.{list_any}
use Rattle.pg_layout.specs.declared.position.Position.{Position}
use Rattle.pg_layout.specs.declared.position.ColumnPlace.{ColumnPlace}
use Rattle.pg_layout.specs.Keys.{by_columns, column_place}
use Rattle.pg_layout.specs.Places.{value_at, with_place, without_place, last_up_to}
use Rattle.pg_layout.specs.Position.{at, is_at}
use Rattle.pg_config.specs.declared.spans.SpanSize.{SpanSize}

-- A cell with a span: its place, and the size of its rectangle. They are kept column by column.
abbrev pub Span : Type 0
Span = ColumnPlace × SpanSize

abbrev pub span_size : ℕ → ℕ → SpanSize
span_size rows columns = record { rows = rows; columns = columns }

-- the top left of the rectangle
abbrev pub corner : Span → Position
corner s = at s.0.row s.0.col

-- how many rows and columns the rectangle of p has
unfoldable pub size_of : List Span → Position → SpanSize
size_of spans p = unwrap_or (value_at by_columns (column_place p) spans) (span_size 1 1)

unfoldable pub rect_rows : List Span → Position → ℕ
rect_rows spans p = (size_of spans p).rows

unfoldable pub rect_columns : List Span → Position → ℕ
rect_columns spans p = (size_of spans p).columns

-- a rectangle of one row and one column isn't kept
unfoldable pub with_size : Position → SpanSize → List Span → List Span
with_size p size spans = if (size.rows == 1) && (size.columns == 1) then without_place by_columns (column_place p) spans else with_place by_columns (column_place p) size spans

unfoldable pub with_column_span : Position → ℕ → List Span → List Span
with_column_span p n spans = with_size p (span_size (rect_rows spans p) n) spans

unfoldable pub with_row_span : Position → ℕ → List Span → List Span
with_row_span p n spans = with_size p (span_size n (rect_columns spans p)) spans

-- a span of 1 isn't kept
abbrev pub unless_one : ℕ → Option ℕ
unless_one n = if n == 1 then None else Some n

unfoldable pub get_column_span : List Span → Position → Option ℕ
get_column_span spans p = unless_one (rect_columns spans p)

unfoldable pub get_row_span : List Span → Position → Option ℕ
get_row_span spans p = unless_one (rect_rows spans p)

unfoldable pub has_column_spans : List Span → Bool
has_column_spans spans = list_any (λ s. not (s.1.columns == 1)) spans

unfoldable pub has_row_spans : List Span → Bool
has_row_spans spans = list_any (λ s. not (s.1.rows == 1)) spans

-- the place (r, c) lies in the rectangle
abbrev pub has_row : ℕ → Span → Bool
has_row r s = nat_le s.0.row r && nat_lt r (s.0.row + s.1.rows)

abbrev pub has_column : ℕ → Span → Bool
has_column c s = nat_le s.0.col c && nat_lt c (s.0.col + s.1.columns)

abbrev pub in_span : ℕ → ℕ → Span → Bool
in_span r c s = has_row r s && has_column c s

abbrev pub corner_or : Position → Option Span → Position
corner_or p None = p
corner_or p (Some s) = corner s

-- the owner of a place: the top left of the rectangle that holds it, else the place itself
unfoldable pub owner : List Span → ℕ → ℕ → Position
owner spans r c = corner_or (at r c) (find (in_span r c) spans)

-- the owner of (r, c) begins above row r; c is its left column
unfoldable pub begins_above : List Span → ℕ → ℕ → Bool
begins_above spans r c = nat_lt (owner spans r c).row r

unfoldable pub is_left : List Span → ℕ → ℕ → Bool
is_left spans r c = (owner spans r c).col == c

-- (r, c) and (r, d) have one owner
unfoldable pub same_owner : List Span → ℕ → ℕ → ℕ → Bool
same_owner spans r c d = is_at (owner spans r c) (owner spans r d).row (owner spans r d).col

-- the rectangle that holds (r, c) and has c as its left column, by one search
abbrev pub if_left : ℕ → ℕ → Option Span → Option Span
if_left r c None = None
if_left r c (Some s) = if (s.0.col == c) && in_span r c s then Some s else None

abbrev pub left_span : List Span → ℕ → ℕ → Option Span
left_span spans r c = if_left r c (last_up_to by_columns (column_place (at r c)) spans)

-- the same, where the rectangle begins above row r
abbrev pub if_above : ℕ → Option Span → Option Span
if_above r None = None
if_above r (Some s) = if nat_lt s.0.row r then Some s else None

abbrev pub span_above : List Span → ℕ → ℕ → Option Span
span_above spans r c = if_above r (left_span spans r c)

-- a place of another cell's rectangle is covered: in that cell's row, in its column, or elsewhere
unfoldable pub is_covered_by_column : List Span → Position → Bool
is_covered_by_column spans p = list_any (λ s. ((s.0.row == p.row) && nat_lt s.0.col p.col) && in_span p.row p.col s) spans

unfoldable pub is_covered_by_row : List Span → Position → Bool
is_covered_by_row spans p = list_any (λ s. ((s.0.col == p.col) && nat_lt s.0.row p.row) && in_span p.row p.col s) spans

unfoldable pub is_covered_by_both : List Span → Position → Bool
is_covered_by_both spans p = list_any (λ s. (nat_lt s.0.row p.row && nat_lt s.0.col p.col) && in_span p.row p.col s) spans

unfoldable pub is_visible : List Span → Position → Bool
is_visible spans p = not (is_covered_by_column spans p || (is_covered_by_row spans p || is_covered_by_both spans p))

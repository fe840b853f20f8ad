-- What only bodies and their proofs need: no contract of a call from outside stands on it.
use Rattle.std.specs.Prelude.{◌≡◌, ℕ, ◌<◌, ◌^◌, ◌||◌, Bool, false, not, List, [], length, Option, Some, None, ◌∷◌, ◌+◌, ◌≤◌, true, ◌-◌, IfSome, slice_index_or}
use Rattle.pg_layout.specs.Keys.{by_columns, Order}
use Rattle.pg_layout.specs.Places.{IsAscending, Each}
use Rattle.pg_config.specs.Spans.{Span, begins_above, is_left, corner, rect_rows, rect_columns, left_span, span_above}
use Rattle.pg_picture.specs.Fits.{misfit_of, cell_fits, TableFits}
use Rattle.pg_picture.specs.Table.{Table, table_body, is_empty, rect_width, rect_height, separator_items}
use Rattle.std.specs.Coded.{×_prop, Unit-prop, Coded-set, coded_bool}
use Rattle.pg_layout.specs.Position.{at}
use Rattle.pg_config.specs.Config.{has_horizontal}
use Rattle.pg_picture.specs.Marks.{marks_of_row}
use Rattle.pg_picture.specs.Pieces.{style_at, separator_text}
use Rattle.pg_peekable.specs.declared.rectangle.Rectangle.{Rectangle}
use Rattle.pg_layout.specs.LineCursor.{StandsIn, line_number}
use Rattle.pg_layout.specs.Text.{Text}
use Rattle.pg_picture.specs.Inside.{place_in, IsSeparatorOf, rows_height}
use Rattle.pg_picture.specs.Rectangles.{IsOwner}
use Rattle.pg_peekable.specs.declared.kept.Reading.{Reading}
use Rattle.pg_peekable.specs.declared.kept.KeptCell.{KeptCell}

-- ---- what is true of a table that is drawn, and of what it is drawn by

-- no cell spans rows or columns
abbrev pub HasNoSpans : Table → Type 0
HasNoSpans t = t.config.spans ≡ []

-- how many rows and columns a table has, and how many lines its body, which is a number of 64 bits
pub record IsShapeOf (t : Table) (n m : ℕ) (h : Option ℕ) : Type 0 where
  pub rows : n ≡ t.rows
  pub columns : m ≡ t.columns
  pub height : h ≡ Some (length (table_body t))
  pub few : length (table_body t) < 2 ^ 64

-- a table that fits, whose spans stand in their order
pub record CanDraw (t : Table) : Type 0 where
  pub ascending : IsAscending by_columns t.config.spans
  pub fits : TableFits t

-- a table of n rows and m columns, each of them some, in which everything fits
pub record IsFull (t : Table) (n m : ℕ) : Type 0 where
  pub fits : misfit_of t ≡ None
  pub some : is_empty t ≡ false
  pub rows : n ≡ t.rows
  pub columns : m ≡ t.columns

-- a column of the separator above row r that isn't inside a rectangle from above
abbrev pub starts : List Span → ℕ → ℕ → Bool
starts spans r c = not (begins_above spans r c) || is_left spans r c

-- ---- spans stand in their order in one way

Each-prop : {E : Type 0} (P : E → Type 0) → ((e : E) → IsProp (P e)) → (es : List E) → IsProp (Each P es)
Each-prop P one [] = Unit-prop
Each-prop P one (e ∷ es) = ×_prop (one e) (Each-prop P one es)

pub IsAscending-prop : {K V : Type 0} (order : Order K) (es : List (K × V)) → IsProp (IsAscending order es)
IsAscending-prop order [] = Unit-prop
IsAscending-prop order (e ∷ es) = ×_prop (Each-prop _ (λ f. Coded-set coded_bool _ _) es) (IsAscending-prop order es)

-- ---- which lines there are: of a row, of a cell, of the body, and those of separators

-- row r has h lines, among them line i
pub record IsLine (t : Table) (r h i : ℕ) : Type 0 where
  pub row : r < t.rows
  pub height : h ≡ t.height r
  pub line : i < t.height r

-- there is a separator above row r, or below the last row
abbrev pub IsSeparatorLine : Table → ℕ → Type 0
IsSeparatorLine t r = has_horizontal t.config r t.rows ≡ true

-- row r stands below another one
pub record IsInner (t : Table) (r : ℕ) : Type 0 where
  pub some : 0 < r
  pub row : r < t.rows

-- row r is there, and so are n lines of the body from line i on
pub record HasRoom (t : Table) (r i n : ℕ) : Type 0 where
  pub row : r < t.rows
  pub room : i + n ≤ length (table_body t)

-- and there is room for its separator and its lines
abbrev pub HasRow : Table → ℕ → ℕ → Type 0
HasRow t r i = HasRoom t r i (length (marks_of_row t.config t.height r))

-- the rectangle of a cell of one row and one column
abbrev pub rectangle_at : Table → ℕ → ℕ → Rectangle
rectangle_at t r c = record { corner = at r c; width = t.width c; height = t.height r }

-- the cell of a rectangle has room for its text and a line i
pub record IsCellLine (t : Table) (r : Rectangle) (i : ℕ) : Type 0 where
  pub row : r.corner.row < t.rows
  pub column : r.corner.col < t.columns
  pub room : cell_fits (style_at t.config r.corner) (t.text r.corner) r.width r.height ≡ true
  pub line : i < r.height

-- ---- what is kept of cells from one of their lines to the next, and that it is right

-- the text is read up to the line of this number
pub record Reads (reading : Reading) (text : Text) : Type 0 where
  pub stands : StandsIn reading.cursor text
  pub next : line_number reading.cursor text ≡ reading.next

-- a reading of the text of a rectangle's cell
pub record IsReading (t : Table) (r : Rectangle) (reading : Reading) : Type 0 where
  pub reads : Reads reading (t.text r.corner)
  pub place : reading.place ≡ place_in (style_at t.config r.corner) (t.text r.corner) r.width r.height

-- it is a cell's rectangle, of whose lines n stand above row k
pub record IsRectangle (t : Table) (r : Rectangle) (k n : ℕ) : Type 0 where
  pub owner : IsOwner t r.corner
  pub width : r.width ≡ rect_width t r.corner
  pub height : r.height ≡ rect_height t r.corner
  pub begun : r.corner.row ≤ k
  pub above : n ≡ rows_height t r.corner.row (k - r.corner.row)

abbrev pub IsKept : Table → KeptCell → Type 0
IsKept t cell = IsReading t cell.rectangle cell.reading

-- the text is that of each separator between two rows
abbrev pub IsSeparator : Table → Text → Type 0
IsSeparator t = IsSeparatorOf (IsInner t) (λ r. separator_text (separator_items t r))

-- all that slots hold is right
abbrev pub AllSlots : {X : Type 0} → (X → Type 0) → List (Option X) → Type 0
AllSlots Right slots = (x : ℕ) → IfSome (slice_index_or slots x None) Right

-- ---- what a walk from rectangle to rectangle knows where it stands, and of the rectangles that it finds

-- in row r a cell begins at column x, or the rectangle of this span
pub record BeginsHere (t : Table) (r x : ℕ) (s : Option Span) : Type 0 where
  pub column : x < t.columns
  pub left : is_left t.config.spans r x ≡ true
  pub span : s ≡ left_span t.config.spans r x

-- in the separator above row r a horizontal begins at column x, or the rectangle of this span
pub record BeginsAbove (t : Table) (r x : ℕ) (s : Option Span) : Type 0 where
  pub column : x < t.columns
  pub starts : starts t.config.spans r x ≡ true
  pub span : s ≡ span_above t.config.spans r x

-- the top left of a span owns its rectangle, which is as large as the span tells
pub record IsOwnerOf (t : Table) (s : Span) : Type 0 where
  pub owner : IsOwner t (corner s)
  pub rows : s.1.rows ≡ rect_rows t.config.spans (corner s)
  pub columns : s.1.columns ≡ rect_columns t.config.spans (corner s)

-- and row r isn't above that
pub record OwnsRow (t : Table) (s : Span) (r : ℕ) : Type 0 where
  pub of : IsOwnerOf t s
  pub first : s.0.row ≤ r
  pub row : r < t.rows

-- row r is there, and row a isn't below it
pub record IsRowFrom (t : Table) (a r : ℕ) : Type 0 where
  pub first : a ≤ r
  pub row : r < t.rows

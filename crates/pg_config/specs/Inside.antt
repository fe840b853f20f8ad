-- What only bodies and their proofs need: no contract of a call from outside stands on it.
use Rattle.std.specs.Prelude.{Bool, List, [], ◌∷◌, Option, if◌then◌else◌, IsSome, ◌≡◌, ℕ, ◌+◌, ◌-◌, ◌^◌, ◌≤◌, ◌&&◌, nat_le, min, max, ◌==◌, nat_lt, zero, suc, true, false, Some, None}
use Rattle.std.specs.Prelude.{unwrap_or}
use Rattle.pg_layout.specs.Keys.{Order, by_place}
use Rattle.pg_layout.specs.Places.{value_at, exchanged, with_place, with_some}
use Rattle.pg_layout.specs.declared.position.Position.{Position}
use Rattle.pg_config.specs.Config.{Config, has_horizontal, has_vertical, get_horizontal, get_vertical, get_intersection, get_horizontal_color, get_vertical_color, get_intersection_color}
use Rattle.pg_config.specs.declared.extent.Extent.{Extent}
use Rattle.pg_config.specs.Spans.{Span, in_span}
use Rattle.std.specs.List.{list_any}
use Rattle.pg_layout.specs.declared.borders.Borders.{Borders}
use Rattle.pg_layout.specs.declared.sides.Sides.{Sides}
use Rattle.pg_layout.specs.Position.{at}
use Rattle.pg_config.specs.declared.crossings.Side.{Side}
use Rattle.pg_config.specs.declared.crossings.Side.TheVariants.{Top, Bottom, Left, Right}
use Rattle.pg_config.specs.Crossings.{edge_glyph}
use Rattle.pg_config.specs.Settings.{Settings, no_settings}

-- ---- values by key, and what they were before the latest changes

-- what there is now, and what there was before the changes that aren't settled
pub record Noted (T : Type 0) : Type 0 where
  pub now : T
  pub before : T

module _ {T : Type 0} where
  -- all changes are settled
  abbrev pub settled_at : T → Noted T
  settled_at x = record { now = x; before = x }

  -- the changes stay, or are taken back
  abbrev pub settled : Bool → Noted T → Noted T
  settled stays x = settled_at (if stays then x.now else x.before)

module _ {K V : Type 0} (order : Order K) where
  -- the entries after each changed key has got back what it held, the latest change first
  abbrev pub taken_back : List (K × Option V) → List (K × V) → List (K × V)
  taken_back [] es = es
  taken_back (h ∷ held) es = exchanged order h.0 h.1 (taken_back held es)

  -- no key is missing that gets back a value, so that this takes no memory
  abbrev pub CanTakeBack : List (K × Option V) → List (K × V) → Type 0
  CanTakeBack [] es = Unit {0}
  CanTakeBack (h ∷ held) es = (IsSome h.1 → IsSome (value_at order h.0 (taken_back held es))) × CanTakeBack held es

-- ---- what stays of a row line and of a column line where there are more of them

-- tables of m and of n rows have the same at p
pub record SameForRows (config : Config) (p : Position) (columns m n : ℕ) : Type 0 where
  pub line : has_horizontal config p.row m ≡ has_horizontal config p.row n
  pub horizontal : get_horizontal config p m ≡ get_horizontal config p n
  pub crossing : get_intersection config p m columns ≡ get_intersection config p n columns
  pub horizontal_color : get_horizontal_color config p m ≡ get_horizontal_color config p n
  pub crossing_color : get_intersection_color config p m columns ≡ get_intersection_color config p n columns

-- tables of m and of n columns have the same at p
pub record SameForColumns (config : Config) (p : Position) (rows m n : ℕ) : Type 0 where
  pub line : has_vertical config p.col m ≡ has_vertical config p.col n
  pub vertical : get_vertical config p m ≡ get_vertical config p n
  pub crossing : get_intersection config p rows m ≡ get_intersection config p rows n
  pub vertical_color : get_vertical_color config p m ≡ get_vertical_color config p n
  pub crossing_color : get_intersection_color config p rows m ≡ get_intersection_color config p rows n

-- ---- rows and columns outside of which nothing stands

abbrev pub no_extent : Extent
no_extent = record { first_row = 2 ^ 64 - 1; last_row = 0; first_column = 2 ^ 64 - 1; last_column = 0 }

-- the least extent that has the rows from first to last of column c, too
abbrev pub with_rows : ℕ → ℕ → ℕ → Extent → Extent
with_rows first last c e = record { first_row = min e.first_row first; last_row = max e.last_row last; first_column = min e.first_column c; last_column = max e.last_column c }

-- p lies in the extent
abbrev pub in_extent : Extent → Position → Bool
in_extent e p = (nat_le e.first_row p.row && nat_le p.row e.last_row) && (nat_le e.first_column p.col && nat_le p.col e.last_column)

-- so do the rows from first to last of column c
abbrev pub HasRows : Extent → ℕ → ℕ → ℕ → Type 0
HasRows e first last c = ((e.first_row ≤ first) × (last ≤ e.last_row)) × ((e.first_column ≤ c) × (c ≤ e.last_column))

-- the last row that the rectangle covers, or its own where it has no rows
abbrev pub last_row_of : Span → ℕ
last_row_of s = min (s.0.row + (s.1.rows - 1)) (2 ^ 64 - 1)

-- in its left column the extent has the rectangle
abbrev pub HasSpan : Extent → Span → Type 0
HasSpan e s = HasRows e s.0.row (last_row_of s) s.0.col

-- the extent has the cell of a setting
abbrev pub HasCell : {X : Type 0} → Extent → Position × X → Type 0
HasCell e c = HasRows e c.0.row c.0.row c.0.col

-- ---- places that are covered, told apart by where the rectangles begin

-- a rectangle that begins in one of these rows, in column c or in any column left of p, covers p
abbrev pub begins_within : ℕ → ℕ → Span → Bool
begins_within first last s = nat_le first s.0.row && nat_le s.0.row last

abbrev pub is_covered_from : List Span → Position → ℕ → ℕ → ℕ → Bool
is_covered_from spans p c first last = list_any (λ s. (s.0.col == c) && (begins_within first last s && in_span p.row p.col s)) spans

abbrev pub is_covered_from_left : List Span → Position → ℕ → ℕ → Bool
is_covered_from_left spans p first last = list_any (λ s. nat_lt s.0.col p.col && (begins_within first last s && in_span p.row p.col s)) spans

-- ---- marks of the crossings on the edges of merged cells, as they are made, and the glyphs that are put there

abbrev pub Marks : Type 0
Marks = List (Position × Sides Bool)

abbrev pub no_sides : Sides Bool
no_sides = record { left = false; right = false; top = false; bottom = false }

-- that side is among them
abbrev pub has_side : Sides Bool → Side → Bool
has_side s Top = s.top
has_side s Bottom = s.bottom
has_side s Left = s.left
has_side s Right = s.right

abbrev pub with_side : Side → Sides Bool → Sides Bool
with_side Top s = record s { top = true }
with_side Bottom s = record s { bottom = true }
with_side Left s = record s { left = true }
with_side Right s = record s { right = true }

-- the sides that a place is marked with
abbrev pub sides_at : Position → Marks → Sides Bool
sides_at p m = unwrap_or (value_at by_place p m) no_sides

abbrev pub with_mark : Side → Position → Marks → Marks
with_mark side p m = with_place by_place p (with_side side (sides_at p m)) m

-- the crossing of line i with the line on which that side lies
abbrev pub on_line : Side → ℕ → ℕ → Position
on_line Top line i = at line i
on_line Bottom line i = at line i
on_line Left line i = at i line
on_line Right line i = at i line

-- the first n crossings behind the corner, where there is such a line
abbrev pub with_line : Side → Option ℕ → ℕ → ℕ → Marks → Marks
with_line side None first n m = m
with_line side (Some line) first zero m = m
with_line side (Some line) first (suc n) m = with_mark side (on_line side line (first + n + 1)) (with_line side (Some line) first n m)

-- how many lines lie inside so many from `first` on, and inside a table of n
abbrev pub count_inside : ℕ → ℕ → ℕ → ℕ
count_inside first count n = min (first + count) n - first - 1

-- the line behind so many rows or columns from `first` on, where a table of n has it
abbrev pub line_behind : ℕ → ℕ → ℕ → Option ℕ
line_behind first count n = if nat_le (first + count) n then Some (first + count) else None

-- all four sides of a merged cell
abbrev pub with_span : ℕ → ℕ → Span → Marks → Marks
with_span rows columns s m =
    with_line Right (line_behind s.0.col s.1.columns columns) s.0.row (count_inside s.0.row s.1.rows rows)
    (with_line Left (line_behind s.0.col 0 columns) s.0.row (count_inside s.0.row s.1.rows rows)
    (with_line Bottom (line_behind s.0.row s.1.rows rows) s.0.col (count_inside s.0.col s.1.columns columns)
    (with_line Top (line_behind s.0.row 0 rows) s.0.col (count_inside s.0.col s.1.columns columns) m)))

abbrev pub with_spans : ℕ → ℕ → List Span → Marks → Marks
with_spans rows columns [] m = m
with_spans rows columns (s ∷ spans) m = with_spans rows columns spans (with_span rows columns s m)

-- the glyph of each marked crossing, if there is one
abbrev pub with_glyphs : Config → Borders ℕ → ℕ → ℕ → Marks → List (Position × ℕ) → List (Position × ℕ)
with_glyphs config b rows columns [] gs = gs
with_glyphs config b rows columns (e ∷ m) gs = with_glyphs config b rows columns m (with_some by_place e.0 (edge_glyph config b rows columns e.0 (has_side e.1)) gs)

-- the entries, each in place of the one at its key
abbrev pub with_all : {G : Type 0} → List (Position × G) → List (Position × G) → List (Position × G)
with_all [] es = es
with_all (e ∷ gs) es = with_all gs (with_place by_place e.0 e.1 es)

-- ---- the settings of rows, columns and cells beside that of all places

module _ {V : Type 0} where
  abbrev pub with_base : Option V → Settings V → Settings V
  with_base base s = record s { base = base }

  -- the first ones, or none
  abbrev pub first_of : List (Settings V) → Settings V
  first_of [] = no_settings
  first_of (s ∷ others) = s

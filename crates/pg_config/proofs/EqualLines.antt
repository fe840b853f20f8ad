-- Row lines and column lines: which are equal, which have no glyph, and what all cells have in common.
use Rattle.std.proofs.Common.{◌≡◌, ℕ, ◌<◌, Bool, true, false, not, ◌||◌, ◌==◌, nat_lt, List, [], ◌∷◌, None, refl, arith, ap, zero, suc, ◌+◌, ◌-◌, ◌^◌, ◌≤◌, ◌&&◌, ◌++◌, length, get_or, drop, Option, Some, cond, sum_by, count_by, sym, subst, ◌∙◌, append_assoc, append-nil, zero-add, inl, inr, is_some, min, if◌then◌else◌}
use Rattle.std.proofs.lemmas.Bool.{and_parts, false≢true, cases_Bool, or_parts}
use Rattle.std.proofs.lemmas.Bool.Decides.{nat_tests}
use Rattle.pg_layout.specs.declared.position.Position.{Position}
use Rattle.pg_layout.specs.declared.borders.Borders.{Borders}
use Rattle.pg_layout.specs.Borders.{ends, has_side, horizontal_glyph, crossing_glyph, vertical_glyph, any_of, has_left, has_right, has_inner_vertical}
use Rattle.pg_layout.specs.Position.{at}
use Rattle.pg_config.specs.Settings.{has_some, Settings, is_for_all, is_by_column, setting_of}
use Rattle.pg_config.specs.Overrides.{Overrides, sets_rows, horizontal_override, crossing_override, overrides_row, overrides_column, with_row, line_crossing, has_glyph, with_row_line, on_lines, with_round, sets_columns, vertical_override}
use Rattle.pg_config.specs.Offsets.{Offsets, has_offsets, lookup_offset}
use Rattle.pg_config.specs.Config.{Config, has_equal_row_lines, has_horizontal, get_horizontal, get_intersection, get_horizontal_color, get_intersection_color, has_vertical, get_vertical, get_vertical_color, has_column_lines, get_padding, get_padding_color, get_alignment_horizontal, get_alignment_vertical, get_formatting, get_justification, get_justification_color}
use Rattle.pg_config.specs.Inside.{SameForRows, SameForColumns}
use Rattle.std.specs.Int.{from_bool}
use Rattle.std.specs.List.{find, range_with_len}
use Rattle.std.proofs.lemmas.List.{drop_more}
use Rattle.std.proofs.lemmas.List.Folds.{find-append}
use Rattle.pg_layout.specs.Colors.{Color}
use Rattle.pg_config.specs.LineGlyphs.{first_of_column, ends_behind, place_in, line_place, over_line, over_columns}
use Rattle.pg_config.specs.declared.line_glyphs.LinePlace.{LinePlace}
use Rattle.pg_config.specs.declared.line_glyphs.LinePlace.TheVariants.{Glyph, Crossing}
use Rattle.pg_config.proofs.CoveredPlaces.{range-add, sum_by-from_more}
use Rattle.pg_layout.specs.declared.borders.HorizontalLine.{HorizontalLine}
use Rattle.pg_layout.specs.declared.borders.Border.{Border}
use Rattle.std.proofs.lemmas.Option.{none-some}
use Rattle.pg_config.specs.Cells.{style_at}
use Rattle.pg_config.specs.Common.{has_one_style_but_across, inner_vertical}
use Rattle.pg_config.proofs.SettingsLaw.{for_all-base, by_column-same}

-- ---- row lines and column lines: which are equal, which have no glyph, and the places along a row line

-- ---- where nothing was set by its place for row lines, those between two rows are equal

-- a line between the first and the last one
pub record IsInner (i n : ℕ) : Type 0 where
  pub some : 0 < i
  pub less : i < n

not_first : (i n : ℕ) → IsInner i n → (i == 0) ≡ false
not_first i n inner = grind (arith, nat_tests, inner.some)

not_last : (i n : ℕ) → IsInner i n → (i == n) ≡ false
not_last i n inner = grind (arith, nat_tests, inner.less)

ends-inner : {A : Type 0} (first middle last : A) (i m j n : ℕ) → IsInner i m → IsInner j n → ends first middle last i m ≡ ends first middle last j n
ends-inner first middle last i m j n a b = rw (not_first i m a, not_last i m a, not_first j n b, not_last j n b) refl

has_side-inner : (first middle last : Bool) (i m j n : ℕ) → IsInner i m → IsInner j n → has_side first middle last i m ≡ has_side first middle last j n
unfolding has_side
has_side-inner first middle last i m j n a b =
    let some_i : nat_lt 0 i ≡ true = grind (arith, nat_tests, a.some) in
    let less_i : nat_lt i m ≡ true = grind (arith, nat_tests, a.less) in
    let some_j : nat_lt 0 j ≡ true = grind (arith, nat_tests, b.some) in
    let less_j : nat_lt j n ≡ true = grind (arith, nat_tests, b.less) in
    rw (not_first i m a, not_last i m a, not_first j n b, not_last j n b, some_i, less_i, some_j, less_j) refl

module _ {G : Type 0} (b : Borders G) (r m s n : ℕ) (inner_r : IsInner r m) (inner_s : IsInner s n) where
  horizontal_glyph-inner : horizontal_glyph b r m ≡ horizontal_glyph b s n
  unfolding horizontal_glyph
  horizontal_glyph-inner = ends-inner _ _ _ r m s n inner_r inner_s

  crossing_glyph-inner : (c columns : ℕ) → crossing_glyph b r c m columns ≡ crossing_glyph b s c n columns
  unfolding crossing_glyph
  crossing_glyph-inner c columns = ends-inner _ _ _ r m s n inner_r inner_s

-- two lists without an entry
pub nothing : {V W : Type 0} (xs : List V) (ys : List W) → not (has_some xs || has_some ys) ≡ true → (xs ≡ []) × (ys ≡ [])
nothing [] [] h = (refl, refl)
nothing [] (y ∷ ys) h = absurd (false≢true h)
nothing (x ∷ xs) ys h = absurd (false≢true h)

module _ {G : Type 0} (o : Overrides G) (none : not (sets_rows o) ≡ true) where
  horizontal_override-none : (p : Position) → horizontal_override o p ≡ None
  unfolding horizontal_override
  horizontal_override-none p = rw (nothing o.horizontals o.crossings none).0 refl

  crossing_override-none : (p : Position) → crossing_override o p ≡ None
  unfolding crossing_override
  crossing_override-none p = rw (nothing o.horizontals o.crossings none).1 refl

  overrides_row-none : (r s : ℕ) → overrides_row o r ≡ overrides_row o s
  unfolding overrides_row
  overrides_row-none r s = rw ((nothing o.horizontals o.crossings none).0, (nothing o.horizontals o.crossings none).1) refl

lookup_offset-none : {V : Type 0} (o : Offsets V) → not (has_offsets o) ≡ true → (p q : Position) (i w : ℕ) → lookup_offset o p i w ≡ lookup_offset o q i w
unfolding has_offsets lookup_offset
lookup_offset-none o none p q i w = rw ((nothing o.from_start o.from_end none).0, (nothing o.from_start o.from_end none).1) refl

-- the row lines at p in a table of m rows and at q in one of n rows have the same
pub record SameLines (config : Config) (p : Position) (m : ℕ) (q : Position) (n columns : ℕ) : Type 0 where
  pub horizontal : get_horizontal config p m ≡ get_horizontal config q n
  pub crossing : get_intersection config p m columns ≡ get_intersection config q n columns
  pub horizontal_color : get_horizontal_color config p m ≡ get_horizontal_color config q n
  pub crossing_color : get_intersection_color config p m columns ≡ get_intersection_color config q n columns
  pub char : (i w : ℕ) → lookup_offset config.horizontal_chars p i w ≡ lookup_offset config.horizontal_chars q i w
  pub char_color : (i w : ℕ) → lookup_offset config.horizontal_colors p i w ≡ lookup_offset config.horizontal_colors q i w

module _ (config : Config) (equal : has_equal_row_lines config ≡ true) (r m s n : ℕ) (inner_r : IsInner r m) (inner_s : IsInner s n) where
  overrides-none : not (sets_rows config.overrides) ≡ true
  unfolding has_equal_row_lines
  overrides-none = (and_parts _ _ (and_parts _ _ equal).0).0

  colors-none : not (sets_rows config.color_overrides) ≡ true
  unfolding has_equal_row_lines
  colors-none = (and_parts _ _ (and_parts _ _ equal).0).1

  chars-none : not (has_offsets config.horizontal_chars) ≡ true
  unfolding has_equal_row_lines
  chars-none = (and_parts _ _ (and_parts _ _ equal).1).0

  char_colors-none : not (has_offsets config.horizontal_colors) ≡ true
  unfolding has_equal_row_lines
  char_colors-none = (and_parts _ _ (and_parts _ _ equal).1).1

  has_horizontal-inner : has_horizontal config r m ≡ has_horizontal config s n
  unfolding has_horizontal
  has_horizontal-inner = rw (has_side-inner _ _ _ r m s n inner_r inner_s, overrides_row-none config.overrides overrides-none r s) refl

  pub inner_lines : (c columns : ℕ) → SameLines config (at r c) m (at s c) n columns
  unfolding get_horizontal get_intersection get_horizontal_color get_intersection_color
  inner_lines c columns = record {
    horizontal = rw (horizontal_override-none config.overrides overrides-none (at r c), horizontal_override-none config.overrides overrides-none (at s c), horizontal_glyph-inner config.borders r m s n inner_r inner_s, has_horizontal-inner) refl;
    crossing = rw (crossing_override-none config.overrides overrides-none (at r c), crossing_override-none config.overrides overrides-none (at s c), crossing_glyph-inner config.borders r m s n inner_r inner_s c columns, has_horizontal-inner) refl;
    horizontal_color = rw (horizontal_override-none config.color_overrides colors-none (at r c), horizontal_override-none config.color_overrides colors-none (at s c), horizontal_glyph-inner config.border_colors r m s n inner_r inner_s) refl;
    crossing_color = rw (crossing_override-none config.color_overrides colors-none (at r c), crossing_override-none config.color_overrides colors-none (at s c), crossing_glyph-inner config.border_colors r m s n inner_r inner_s c columns) refl;
    char = λ i w. lookup_offset-none config.horizontal_chars chars-none (at r c) (at s c) i w;
    char_color = λ i w. lookup_offset-none config.horizontal_colors char_colors-none (at r c) (at s c) i w;
  }

-- ---- a line before the last one doesn't depend on the number of lines

-- a number below the last isn't the last
below : (i n : ℕ) → i < n → (i == n) ≡ false
below i n h = grind (arith, nat_tests, h)

ends-stays : {A : Type 0} (first middle last : A) (i m n : ℕ) → i < m → i < n → ends first middle last i m ≡ ends first middle last i n
ends-stays first middle last i m n h k = rw (below i m h, below i n k) refl

has_side-stays : (first middle last : Bool) (i m n : ℕ) → i < m → i < n → has_side first middle last i m ≡ has_side first middle last i n
unfolding has_side
has_side-stays first middle last i m n h k =
    let before_m : nat_lt i m ≡ true = grind (arith, nat_tests, h) in
    let before_n : nat_lt i n ≡ true = grind (arith, nat_tests, k) in
    rw (below i m h, below i n k, before_m, before_n) refl

module _ {G : Type 0} (b : Borders G) where
  horizontal_glyph-stays : (r m n : ℕ) → r < m → r < n → horizontal_glyph b r m ≡ horizontal_glyph b r n
  unfolding horizontal_glyph
  horizontal_glyph-stays r m n h k = ends-stays _ _ _ r m n h k

  vertical_glyph-stays : (c m n : ℕ) → c < m → c < n → vertical_glyph b c m ≡ vertical_glyph b c n
  unfolding vertical_glyph
  vertical_glyph-stays c m n h k = ends-stays _ _ _ c m n h k

  crossing_glyph-stays_rows : (r c columns m n : ℕ) → r < m → r < n → crossing_glyph b r c m columns ≡ crossing_glyph b r c n columns
  unfolding crossing_glyph
  crossing_glyph-stays_rows r c columns m n h k = ends-stays _ _ _ r m n h k

  crossing_glyph-stays_columns : (r c rows m n : ℕ) → c < m → c < n → crossing_glyph b r c rows m ≡ crossing_glyph b r c rows n
  unfolding crossing_glyph
  crossing_glyph-stays_columns r c rows m n h k = rw (below c m h, below c n k) refl

has_horizontal-stays : (config : Config) (r m n : ℕ) → r < m → r < n → has_horizontal config r m ≡ has_horizontal config r n
unfolding has_horizontal
has_horizontal-stays config r m n h k = ap (λ b. b || overrides_row config.overrides r) (has_side-stays _ _ _ r m n h k)

has_vertical-stays : (config : Config) (c m n : ℕ) → c < m → c < n → has_vertical config c m ≡ has_vertical config c n
unfolding has_vertical
has_vertical-stays config c m n h k = ap (λ b. b || overrides_column config.overrides c) (has_side-stays _ _ _ c m n h k)

pub rows_stay : (config : Config) (p : Position) (columns m n : ℕ) → p.row < m → p.row < n → SameForRows config p columns m n
unfolding get_horizontal get_intersection get_horizontal_color get_intersection_color
rows_stay config p columns m n h k = record {
  line = has_horizontal-stays config p.row m n h k;
  horizontal = rw (horizontal_glyph-stays config.borders p.row m n h k, has_horizontal-stays config p.row m n h k) refl;
  crossing = rw (crossing_glyph-stays_rows config.borders p.row p.col columns m n h k, has_horizontal-stays config p.row m n h k) refl;
  horizontal_color = rw (horizontal_glyph-stays config.border_colors p.row m n h k) refl;
  crossing_color = rw (crossing_glyph-stays_rows config.border_colors p.row p.col columns m n h k) refl;
}

pub columns_stay : (config : Config) (p : Position) (rows m n : ℕ) → p.col < m → p.col < n → SameForColumns config p rows m n
unfolding get_vertical get_intersection get_vertical_color get_intersection_color
columns_stay config p rows m n h k = record {
  line = has_vertical-stays config p.col m n h k;
  vertical = rw (vertical_glyph-stays config.borders p.col m n h k, has_vertical-stays config p.col m n h k) refl;
  crossing = rw (crossing_glyph-stays_columns config.borders p.row p.col rows m n h k, has_vertical-stays config p.col m n h k) refl;
  vertical_color = rw (vertical_glyph-stays config.border_colors p.col m n h k) refl;
  crossing_color = rw (crossing_glyph-stays_columns config.border_colors p.row p.col rows m n h k) refl;
}

-- ---- the columns of a row line, walked from column to column, and the characters over them

-- ---- the first number that passes a test

find-none_more : (p : ℕ → Bool) (c : ℕ) → find p (range_with_len 0 c) ≡ None → p c ≡ false → find p (range_with_len 0 (c + 1)) ≡ None
find-none_more p c none fails =
    ap (find p) (range-add 0 c 1) ∙ find-append p (range_with_len 0 c) (range_with_len (0 + c) 1) ∙ rw (none, zero-add c, fails) refl

find-first : (p : ℕ → Bool) (c n : ℕ) → find p (range_with_len 0 c) ≡ None → p c ≡ true → c < n → find p (range_with_len 0 n) ≡ Some c
find-first p c n none passes less =
    let all : n ≡ c + suc (n - c - 1) = omega (arith, less) in
    ap (λ x. find p (range_with_len 0 x)) all ∙ ap (find p) (range-add 0 c (suc (n - c - 1))) ∙ find-append p (range_with_len 0 c) (range_with_len (0 + c) (suc (n - c - 1))) ∙ rw (none, zero-add c, passes) refl

-- ---- columns that are passed

one_if : (b : Bool) → cond b 1 0 ≡ from_bool b
one_if true = refl
one_if false = refl

-- the column lines between columns up to the one before column c, and then that one
lines_up_to : (v : ℕ → Bool) (c line : ℕ) → line ≡ from_bool (nat_lt 0 c && v c) → count_by v (range_with_len 1 c) ≡ count_by v (range_with_len 1 (c - 1)) + line
lines_up_to v zero line is =
    let none : nat_lt 0 0 ≡ false = grind (arith, nat_tests) in
    let nothing : line ≡ 0 = subst (λ b. line ≡ from_bool (b && v 0)) none is in
    omega (arith, nothing)
lines_up_to v (suc c) line is =
    let there : nat_lt 0 (suc c) ≡ true = grind (arith, nat_tests) in
    let counted : line ≡ from_bool (v (suc c)) = subst (λ b. line ≡ from_bool (b && v (suc c))) there is in
    let one : suc c ≡ c + 1 = omega arith in
    let less : suc c - 1 ≡ c = omega arith in
    let at : 1 + c ≡ suc c = omega arith in
    let more : count_by v (range_with_len 1 (c + 1)) ≡ count_by v (range_with_len 1 c) + cond (v (1 + c)) 1 0 = sum_by-from_more (λ x. cond (v x) 1 0) 1 c in
    ap (λ n. count_by v (range_with_len 1 n)) one ∙ more ∙ ap (λ n. count_by v (range_with_len 1 c) + cond (v n) 1 0) at ∙ ap (λ n. count_by v (range_with_len 1 c) + n) (one_if (v (suc c)) ∙ sym counted) ∙ ap (λ n. count_by v (range_with_len 1 n) + line) (sym less)

module _ (config : Config) (columns : ℕ) (width : ℕ → ℕ) (k : ℕ) where
  -- how many columns of the line are passed before column c and the line left of it
  abbrev pub passed : ℕ → ℕ
  passed c = sum_by width (range_with_len 0 c) + count_by (λ x. has_vertical config x columns) (range_with_len 1 (c - 1))

  -- so many columns are left at column c, and no column before it ends behind k
  abbrev pub Stands : ℕ → ℕ → Type 0
  Stands rest c = (k ≡ rest + passed c) × (find (ends_behind config columns width k) (range_with_len 0 c) ≡ None)

  abbrev pub IsLine : ℕ → ℕ → Type 0
  IsLine c line = line ≡ from_bool (nat_lt 0 c && has_vertical config c columns)

  first_is : (c line : ℕ) → IsLine c line → first_of_column config columns width c ≡ passed c + line
  first_is c line is =
      let more = lines_up_to (λ x. has_vertical config x columns) c line is in
      omega (arith, more)

  in_first : (c : ℕ) → k < 2 ^ 64 → c < columns → find (ends_behind config columns width k) (range_with_len 0 c) ≡ None → ends_behind config columns width k c ≡ true → line_place config columns width k ≡ place_in config columns width k (Some c)
  unfolding line_place
  in_first c fits less none passes =
      let small : nat_lt k (2 ^ 64) ≡ true = grind (arith, nat_tests, fits) in
      rw (small, find-first (ends_behind config columns width k) c columns none passes less) refl

  pub at_crossing : (rest c line : ℕ) → k < 2 ^ 64 → Stands rest c → IsLine c line → c < columns → rest < line → Some (Crossing c) ≡ line_place config columns width k
  at_crossing rest c line fits s is less before =
      let first = first_is c line is in
      let below : k < first_of_column config columns width c = omega (arith, first, s.0, before) in
      let passes : ends_behind config columns width k c ≡ true = grind (arith, nat_tests, below) in
      let left : nat_lt k (first_of_column config columns width c) ≡ true = grind (arith, nat_tests, below) in
      sym (in_first c fits less s.1 passes ∙ rw left refl)

  pub at_glyph : (rest c line w : ℕ) → k < 2 ^ 64 → Stands rest c → IsLine c line → c < columns → line ≤ rest → w ≡ width c → rest - line < w → Some (Glyph c (rest - line)) ≡ line_place config columns width k
  at_glyph rest c line w fits s is less past wide within =
      let first = first_is c line is in
      let number : k - first_of_column config columns width c ≡ rest - line = omega (arith, first, s.0, past) in
      let below : k < first_of_column config columns width c + width c = omega (arith, first, s.0, past, wide, within) in
      let not_left : first_of_column config columns width c ≤ k = omega (arith, first, s.0, past) in
      let passes : ends_behind config columns width k c ≡ true = grind (arith, nat_tests, below) in
      let left : nat_lt k (first_of_column config columns width c) ≡ false = grind (arith, nat_tests, not_left) in
      sym (in_first c fits less s.1 passes ∙ rw left (ap (λ n. Some (Glyph c n)) number))

  pub step : (rest c line w : ℕ) → Stands rest c → IsLine c line → line ≤ rest → w ≡ width c → w ≤ rest - line → Stands (rest - line - w) (c + 1)
  step rest c line w s is past wide over =
      let first = first_is c line is in
      let less : c + 1 - 1 ≡ c = omega arith in
      let sum : sum_by width (range_with_len 0 (c + 1)) ≡ sum_by width (range_with_len 0 c) + width (0 + c) = sum_by-from_more width 0 c in
      let here : width (0 + c) ≡ width c = ap width (zero-add c) in
      let lines : count_by (λ x. has_vertical config x columns) (range_with_len 1 (c + 1 - 1)) ≡ count_by (λ x. has_vertical config x columns) (range_with_len 1 c) = ap (λ n. count_by (λ x. has_vertical config x columns) (range_with_len 1 n)) less in
      let behind : first_of_column config columns width c + width c ≤ k = omega (arith, first, s.0, past, wide, over) in
      let fails : ends_behind config columns width k c ≡ false = grind (arith, nat_tests, behind) in
      (omega (arith, first, s.0, past, wide, over, sum, here, lines), find-none_more (ends_behind config columns width k) c s.1 fails)

  pub behind_all : (rest c : ℕ) → k < 2 ^ 64 → Stands rest c → c ≡ columns → None ≡ line_place config columns width k
  unfolding line_place
  behind_all rest c fits s is =
      let none : find (ends_behind config columns width k) (range_with_len 0 columns) ≡ None = ap (λ n. find (ends_behind config columns width k) (range_with_len 0 n)) (sym is) ∙ s.1 in
      let small : nat_lt k (2 ^ 64) ≡ true = grind (arith, nat_tests, fits) in
      sym (rw (small, none) refl)

-- ---- characters over the line

-- one more of them
pub over-more : (f : ℕ → Option LinePlace) (items : List (Option LinePlace × ℕ)) (first i : ℕ) (gs : List ℕ) (place : Option LinePlace) (x : ℕ) → i < length gs → x ≡ get_or gs i x → place ≡ f (first + i)
    → (items ++ (place, x) ∷ []) ++ over_line f (first + (i + 1)) (drop (i + 1) gs) ≡ items ++ over_line f (first + i) (drop i gs)
over-more f items first i gs place x within here is =
    let count : first + (i + 1) ≡ first + i + 1 = omega arith in
    let rest : drop i gs ≡ x ∷ drop (i + 1) gs = drop_more gs i x within ∙ ap (λ y. y ∷ drop (i + 1) gs) (sym here) in
    append_assoc items ((place, x) ∷ []) _
    ∙ ap (λ n. items ++ (place, x) ∷ over_line f n (drop (i + 1) gs)) count
    ∙ ap (λ p. items ++ (p, x) ∷ over_line f (first + i + 1) (drop (i + 1) gs)) is
    ∙ ap (λ z. items ++ over_line f (first + i) z) (sym rest)

-- so of columns that get one colour
module _ (f : ℕ → Option LinePlace) (v : Color) where
  columns-suc : (k n : ℕ) → is_some (f k) ≡ true → over_columns f k (suc n) v ≡ (f k, v) ∷ over_columns f (k + 1) n v
  columns-suc k n some = rw some refl

  columns-end : (k n : ℕ) → is_some (f k) ≡ false → over_columns f k n v ≡ []
  columns-end k zero none = refl
  columns-end k (suc n) none = rw none refl

  pub columns-more : (items : List (Option LinePlace × Color)) (first i count : ℕ) (place : Option LinePlace) (x : Color) → i < count → place ≡ f (first + i) → is_some place ≡ true → x ≡ v
      → (items ++ (place, x) ∷ []) ++ over_columns f (first + (i + 1)) (count - (i + 1)) v ≡ items ++ over_columns f (first + i) (count - i) v
  columns-more items first i count place x within is some told =
      let left : count - i ≡ suc (count - (i + 1)) = omega arith in
      let next : first + (i + 1) ≡ first + i + 1 = omega arith in
      append_assoc items ((place, x) ∷ []) _
      ∙ ap (λ y. items ++ (place, y) ∷ over_columns f (first + (i + 1)) (count - (i + 1)) v) told
      ∙ ap (λ p. items ++ (p, v) ∷ over_columns f (first + (i + 1)) (count - (i + 1)) v) is
      ∙ ap (λ k. items ++ (f (first + i), v) ∷ over_columns f k (count - (i + 1)) v) next
      ∙ ap (λ z. items ++ z) (sym (columns-suc (first + i) (count - (i + 1)) (ap is_some (sym is) ∙ some)))
      ∙ ap (λ n. items ++ over_columns f (first + i) n v) (sym left)

  pub columns-past : (items : List (Option LinePlace × Color)) (first i count : ℕ) (place : Option LinePlace) → place ≡ f (first + i) → is_some place ≡ false
      → items ≡ items ++ over_columns f (first + i) (count - i) v
  columns-past items first i count place is none = sym (append-nil items) ∙ ap (λ z. items ++ z) (sym (columns-end (first + i) (count - i) (ap is_some (sym is) ∙ none)))

  pub columns-all : (items : List (Option LinePlace × Color)) (first i count : ℕ) → count ≤ i → items ≡ items ++ over_columns f (first + i) (count - i) v
  columns-all items first i count all =
      let none : count - i ≡ 0 = omega arith in
      sym (append-nil items) ∙ ap (λ n. items ++ over_columns f (first + i) n v) (sym none)

-- ---- a row line of which no glyph has a place overrides nothing

module _ {G : Type 0} where
  with_row-none : (r n : ℕ) (values : ℕ → Option G) (es : List (Position × G)) → ((c : ℕ) → c < n → values c ≡ None) → with_row r n values es ≡ es
  with_row-none r zero values es none = refl
  with_row-none r (suc n) values es none = rw (none n (omega arith)) (with_row-none r n values es (λ c h. none c (omega arith)))

  none-of : (v : Option G) → is_some v ≡ false → v ≡ None
  none-of None h = refl
  none-of (Some v) h = absurd (grind (arith, h))

  -- what a line without a glyph has there
  record Parts (columns : ℕ) (line : HorizontalLine G) : Type 0 where
    main : is_some line.main ≡ false
    left : is_some line.left ≡ false
    right : is_some line.right ≡ false
    between : (nat_lt 1 columns && is_some line.intersection) ≡ false

  parts : (columns : ℕ) (line : HorizontalLine G) → nat_lt 0 columns ≡ true → has_glyph columns line ≡ false → Parts columns line
  parts columns line some h = record {
    main = grind (arith, some, h);
    left = grind (arith, some, h);
    right = grind (arith, some, h);
    between = grind (arith, some, h);
  }

  crossing-none : (columns : ℕ) (line : HorizontalLine G) → Parts columns line → (c : ℕ) → c < columns + 1 → line_crossing line columns c ≡ None
  crossing-none columns line p c h =
      elim (cases_Bool (c == 0)) [
        | inl y ↦ rw y (none-of line.left p.left)
        | inr n ↦ elim (cases_Bool (c == columns)) [
          | inl y ↦ rw (n, y) (none-of line.right p.right)
          | inr o ↦
              let many : nat_lt 1 columns ≡ true = grind (arith, nat_tests, n, o, h) in
              rw (n, o) (none-of line.intersection (rw many at p.between))
        ]
      ]

  pub without_glyphs : (r columns : ℕ) (line : HorizontalLine G) (o : Overrides G) → has_glyph columns line ≡ false → with_row_line r columns line o ≡ o
  unfolding with_row_line
  without_glyphs r columns line o h =
      elim (cases_Bool (columns == 0)) [
        | inl y ↦ rw y refl
        | inr n ↦
            let some : nat_lt 0 columns ≡ true = grind (arith, nat_tests, n) in
            let p = parts columns line some h in
            let horizontals : with_row r columns (λ c. line.main) o.horizontals ≡ o.horizontals = with_row-none r columns (λ c. line.main) o.horizontals (λ c k. none-of line.main p.main) in
            let crossings : with_row r (columns + 1) (λ c. line_crossing line columns c) o.crossings ≡ o.crossings = with_row-none r (columns + 1) (λ c. line_crossing line columns c) o.crossings (crossing-none columns line p) in
            rw n (rw (horizontals, crossings) refl)
      ]

-- ---- what a border lacks has no place, so any line may stand for the one behind the last

next : (i : ℕ) → nat_lt i (2 ^ 64 - 1) ≡ true → min (i + 1) (2 ^ 64 - 1) ≡ i + 1
next i h = grind (arith, nat_tests, h)

module _ {G : Type 0} where
  pub lines_behind : (p : Position) (b : Border G) (o : Overrides G) → with_round p (min (p.row + 1) (2 ^ 64 - 1)) (min (p.col + 1) (2 ^ 64 - 1)) (on_lines p b) o ≡ with_round p (p.row + 1) (p.col + 1) (on_lines p b) o
  lines_behind p b o =
      elim (cases_Bool (nat_lt p.row (2 ^ 64 - 1))) [
        | inl y ↦ elim (cases_Bool (nat_lt p.col (2 ^ 64 - 1))) [
          | inl z ↦ rw (next p.row y, next p.col z) refl
          | inr n ↦ rw (next p.row y, y, n) refl
        ]
        | inr m ↦ elim (cases_Bool (nat_lt p.col (2 ^ 64 - 1))) [
          | inl z ↦ rw (m, next p.col z) refl
          | inr n ↦ rw (m, n) refl
        ]
      ]

-- ---- without column lines no vertical has a glyph

is_none : {A : Type 0} (o : Option A) → is_some o ≡ false → o ≡ None
is_none None h = refl
is_none (Some x) h = absurd (false≢true (sym h))

-- of four values none of which is set, the first
pub first_none : {G : Type 0} (a b c d : Option G) → any_of a b c d ≡ false → a ≡ None
first_none a b c d h = is_none a (or_parts (is_some a) (is_some b) (or_parts (is_some a || is_some b) (is_some c || is_some d) h).0).0

ends-same : {A : Type 0} (a : A) (i n : ℕ) → ends a a a i n ≡ a
ends-same a i n =
    elim (cases_Bool (i == 0)) [
      | inl first ↦ rw first refl
      | inr inner ↦ rw inner (elim (cases_Bool (i == n)) [ inl last ↦ rw last refl | inr middle ↦ rw middle refl ])
    ]

module _ (config : Config) (none : has_column_lines config ≡ false) where
  no-lines : (((has_left config.borders || has_right config.borders) || has_inner_vertical config.borders) ≡ false) × (sets_columns config.overrides ≡ false)
  unfolding has_column_lines
  no-lines = or_parts ((has_left config.borders || has_right config.borders) || has_inner_vertical config.borders) (sets_columns config.overrides) none

  no-sides : (has_left config.borders ≡ false) × (has_right config.borders ≡ false) × (has_inner_vertical config.borders ≡ false)
  no-sides =
      let inner = or_parts (has_left config.borders || has_right config.borders) (has_inner_vertical config.borders) no-lines.0 in
      let outer = or_parts (has_left config.borders) (has_right config.borders) inner.0 in
      (outer.0, outer.1, inner.1)

  -- no place of a column line was overridden
  no-overrides : (config.overrides.verticals ≡ []) × (config.overrides.crossings ≡ [])
  no-overrides = nothing config.overrides.verticals config.overrides.crossings (rw no-lines.1 refl)

  no-glyphs : (config.borders.left ≡ None) × (config.borders.right ≡ None) × (config.borders.vertical ≡ None)
  unfolding has_left has_right has_inner_vertical
  no-glyphs =
      let b = config.borders in (
        first_none b.left b.top_left b.bottom_left b.left_intersection no-sides.0,
        first_none b.right b.top_right b.bottom_right b.right_intersection no-sides.1,
        first_none b.vertical b.top_intersection b.bottom_intersection b.intersection no-sides.2,
      )

  no-line : (c columns : ℕ) → has_vertical config c columns ≡ false
  unfolding has_vertical has_side overrides_column
  no-line c columns = rw (no-sides.0, no-sides.1, no-sides.2, no-overrides.0, no-overrides.1) (grind (arith, nat_tests))

  pub no_verticals : (p : Position) (columns : ℕ) → get_vertical config p columns ≡ None
  unfolding get_vertical vertical_override vertical_glyph
  no_verticals p columns = rw (no-line p.col columns, no-overrides.0, no-glyphs.0, no-glyphs.1, no-glyphs.2, ends-same {A = Option ℕ} None p.col columns) refl

-- ---- what all cells have in common, and the glyph of all verticals between two columns

same : {V : Type 0} (s : Settings V) → is_for_all s ≡ true → (p q : Position) → setting_of s p ≡ setting_of s q
same s h p q = sym (for_all-base s p h) ∙ for_all-base s q h

-- Where no setting but a horizontal alignment is for a row, a column or a cell, all cells have one style but for that.
pub one_style_but_across : (config : Config) → has_one_style_but_across config ≡ true → (p q : Position) → record (style_at config p) { across = get_alignment_horizontal config q } ≡ style_at config q
unfolding style_at has_one_style_but_across get_padding get_padding_color get_alignment_vertical get_formatting get_justification get_justification_color
one_style_but_across config h p q =
    let half = and_parts _ _ h in
    let first = and_parts _ _ half.0 in
    let second = and_parts _ _ half.1 in
    let paddings = and_parts _ _ first.0 in
    let lines = and_parts _ _ second.0 in
    let trims = and_parts _ _ lines.1 in
    let fills = and_parts _ _ second.1 in
    rw (same config.padding paddings.0 p q, same config.padding_color paddings.1 p q, same config.alignment_vertical first.1 p q, same config.trim_horizontal lines.0 p q, same config.trim_vertical trims.0 p q, same config.line_alignment trims.1 p q, same config.justification fills.0 p q, same config.justification_color fills.1 p q) refl

-- Each cell has the horizontal alignment of the first cell of its column where none is for a row or a cell alone
pub sided-by_column : (config : Config) → is_by_column config.alignment_horizontal ≡ true → (p : Position) → get_alignment_horizontal config (at 0 p.col) ≡ get_alignment_horizontal config p
unfolding get_alignment_horizontal
sided-by_column config h p = rw (by_column-same config.alignment_horizontal p h) refl

is_not_first : (i n : ℕ) → IsInner i n → (i == 0) ≡ false
is_not_first i n inner = grind (arith, nat_tests, inner.some)

is_not_last : (i n : ℕ) → IsInner i n → (i == n) ≡ false
is_not_last i n inner = grind (arith, nat_tests, inner.less)

unless : (b : Bool) (o : Option ℕ) (g : ℕ) → (if b then None else o) ≡ Some g → (b ≡ false) × (o ≡ Some g)
unless true o g is = absurd (none-some g is)
unless false o g is = (refl, is)

module _ (config : Config) (g : ℕ) (is : inner_vertical config ≡ Some g) where
  -- the test that finds no place of a vertical and no colour, and the borders' glyph
  inner-parts : (((has_some config.overrides.verticals || has_some config.color_overrides.verticals) || is_some config.border_colors.vertical) ≡ false) × (config.borders.vertical ≡ Some g)
  unfolding inner_vertical
  inner-parts = unless ((has_some config.overrides.verticals || has_some config.color_overrides.verticals) || is_some config.border_colors.vertical) config.borders.vertical g is

  inner-lists : (config.overrides.verticals ≡ []) × (config.color_overrides.verticals ≡ [])
  inner-lists = nothing config.overrides.verticals config.color_overrides.verticals (ap not (or_parts (has_some config.overrides.verticals || has_some config.color_overrides.verticals) (is_some config.border_colors.vertical) inner-parts.0).0)

  pub inner_vertical-glyph : (p : Position) (columns : ℕ) → IsInner p.col columns → get_vertical config p columns ≡ Some g
  unfolding get_vertical vertical_override vertical_glyph
  inner_vertical-glyph p columns inner = rw (inner-lists.0, is_not_first p.col columns inner, is_not_last p.col columns inner, inner-parts.1) refl

  pub inner_vertical-color : (p : Position) (columns : ℕ) → IsInner p.col columns → get_vertical_color config p columns ≡ None
  unfolding get_vertical_color vertical_override vertical_glyph
  inner_vertical-color p columns inner = rw (inner-lists.1, is_not_first p.col columns inner, is_not_last p.col columns inner, is_none config.border_colors.vertical (or_parts (has_some config.overrides.verticals || has_some config.color_overrides.verticals) (is_some config.border_colors.vertical) inner-parts.0).1) refl

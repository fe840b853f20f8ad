-- Straight tables: at natural sizes, in narrow looks, and with titles that change nothing.
use Rattle.std.proofs.Common.{◌≡◌, ℕ, ◌<◌, ◌==◌, true, false, List, length, Bool, refl, arith, Option, Some, None, IfSome, inl, inr, [], ◌∷◌, map, sym, ◌∙◌, zero, suc, ◌+◌, ◌≤◌, ◌&&◌, nat_lt, if◌then◌else◌, encode_utf8, chars, subst, ap}
use Rattle.std.specs.Option.{option_or}
use Rattle.std.specs.Prelude.{nat_le, not, String, string_bytes, Result, Ok, Err, IfOk, IsOk, OnErr, OnOk}
use Rattle.std.proofs.lemmas.Bool.{cases_Bool, false≢true, and_parts, and_right}
use Rattle.std.proofs.lemmas.Bool.Decides.{nat_tests}
use Rattle.pg_layout.specs.declared.position.Position.{Position}
use Rattle.pg_layout.specs.Borders.{ends, horizontal_glyph, vertical_glyph, crossing_glyph}
use Rattle.pg_layout.specs.Colors.{Color}
use Rattle.pg_layout.specs.Position.{at}
use Rattle.pg_layout.specs.Text.{Text, width_of}
use Rattle.pg_config.specs.Config.{Config, missing_if, get_horizontal, get_vertical, get_intersection, has_horizontal, has_vertical, default_config, get_padding, get_justification}
use Rattle.pg_config.specs.Offsets.{Offsets, no_offsets, lookup_offset}
use Rattle.pg_picture.specs.Straight.{IsNarrow, HasNarrowFills, HasNarrowMargins, HasNarrowGlyphs, CellsFit, IsStraight}
use Rattle.pg_picture.specs.Picture.{picture}
use Rattle.pg_picture.specs.Pieces.{style_at}
use Rattle.pg_picture.specs.Table.{Table, Known}
use Rattle.pg_picture.specs.Fits.{spans_fit, totals_fit}
use Rattle.pg_picture.proofs.StraightColumns.{columns_are_straight, margins_are_straight}
use Rattle.pg_picture.proofs.Separators.{missing_glyph_fills_gaps}
use Rattle.pg_table.specs.Even.{HasNarrowLines, HasEvenLines, IsEven, IsEvenText, HasNarrowSides, IsNarrowLook, is_line_glyph, is_line_glyph_if, are_line_glyphs, is_of_line_glyphs, are_line_fills}
use Rattle.pg_table.specs.declared.sizes.Axis.TheVariants.{Columns}
use Rattle.pg_table.specs.Natural.{natural_table}
use Rattle.pg_table.specs.Printing.{fault_of, Parts, ascii_config, with_header_line}
use Rattle.pg_table.proofs.NaturalRoom.{table-fits}
use Rattle.pg_table.proofs.Faults.{fault-none}
use Rattle.std.proofs.lemmas.List.{length-map}
use Rattle.std.proofs.lemmas.Str.{chars-nil}
use Rattle.pg_layout.specs.declared.alignment.AlignmentHorizontal.{AlignmentHorizontal}
use Rattle.pg_config.specs.LineGlyphs.{with_line_color, with_line_glyphs}
use Rattle.pg_table.specs.Numbers.{lacking}
use Rattle.pg_table.specs.OwnRows.{is_in_column, longest_rest, own_sizes, spaced_config, titled, titled_at, titled_in, widened_right, HasPointsAligned}
use Rattle.pg_table.specs.Panels.{with_title, with_title_at, with_title_color, with_inner_line, along_column, along_row, borders_round, column_borders, frame_borders}
use Rattle.pg_table.specs.Inside.{borders_left_of}
use Rattle.pg_table.specs.Panels.{frame_corner, frame_crossing, frame_horizontal, frame_vertical, is_on_column, is_on_row, IsFramed}
use Rattle.pg_table.specs.declared.table.lines.Frame.{Frame}
use Rattle.std.specs.List.{list_all, range_with_len}
use Rattle.unicode_width.proofs.Computing.{unicode_width}
use Rattle.pg_layout.specs.declared.borders.Border.{Border}
use Rattle.pg_layout.specs.declared.borders.Borders.{Borders}
use Rattle.pg_layout.specs.declared.borders.HorizontalLine.{HorizontalLine}
use Rattle.pg_layout.specs.Records.{columns_of, text_at}
use Rattle.pg_layout.specs.declared.alignment.AlignmentHorizontal.TheVariants.{Right}
use Rattle.pg_layout.specs.declared.position.Entity.TheVariants.{Column, Global}
use Rattle.pg_layout.specs.declared.sides.Indent.{Indent}
use Rattle.pg_layout.specs.declared.sides.Sides.{Sides}
use Rattle.pg_layout.specs.Keys.{by_place}
use Rattle.pg_layout.specs.Looks.{ascii}
use Rattle.pg_layout.specs.Places.{same, value_at}
use Rattle.pg_layout.proofs.KeyedPlaces.{place-laws}
use Rattle.pg_config.specs.Overrides.{Overrides, with_row, with_row_line, line_crossing, horizontal_override, vertical_override, crossing_override}
use Rattle.pg_config.specs.Settings.{Settings, setting_of, with_setting}
use Rattle.pg_config.specs.Spans.{Span}
use Rattle.pg_config.proofs.Lookups.{value_at-with_some}
use Rattle.pg_table.specs.Laws.{LooksAreNarrow}

-- ---- tables at their natural sizes are straight

-- what is found first is narrow where both are
pub first_narrow : (a b : Option ℕ) → IfSome a IsNarrow → IfSome b IsNarrow → IfSome (option_or a b) IsNarrow
first_narrow None b h k = k
first_narrow (Some g) b h k = h

no_glyph : (p : Position) (i n : ℕ) (o : Offsets ℕ) → o ≡ no_offsets → IfSome (lookup_offset o p i n) IsNarrow
unfolding lookup_offset
no_glyph p i n o none = rw none tt

module _ (config : Config) (narrow : HasNarrowLines config) where
  missing_narrow : (there : Bool) → IfSome (missing_if config there) IsNarrow
  missing_narrow true = narrow.missing
  missing_narrow false = tt

  verticals : (p : Position) (columns : ℕ) → IfSome (get_vertical config p columns) IsNarrow
  unfolding get_vertical
  verticals p columns = first_narrow _ _ (narrow.set_verticals p) (first_narrow _ _ (narrow.verticals p.col columns) (missing_narrow _))

  horizontals : (p : Position) (rows : ℕ) → IfSome (get_horizontal config p rows) IsNarrow
  unfolding get_horizontal
  horizontals p rows = first_narrow _ _ (narrow.set_horizontals p) (first_narrow _ _ (narrow.horizontals p.row rows) (missing_narrow _))

  crossings : (p : Position) (rows columns : ℕ) → IfSome (get_intersection config p rows columns) IsNarrow
  unfolding get_intersection
  crossings p rows columns = first_narrow _ _ (narrow.set_crossings p) (first_narrow _ _ (narrow.crossings p.row p.col rows columns) (missing_narrow _))

-- a table whose lines and fills are narrow
glyphs : (t : Table) → HasNarrowLines t.config → ((p : Position) → HasNarrowFills (style_at t.config p)) → HasNarrowGlyphs t
glyphs t narrow fills = record {
  fills = λ r c h k own. fills (at r c);
  verticals = λ r c h k. verticals t.config narrow (at r c) t.columns;
  vertical_offsets = λ r c i h k l. no_glyph (at r c) i _ t.config.vertical_chars narrow.vertical_parts;
  horizontals = λ r c h k. horizontals t.config narrow (at r c) t.rows;
  horizontal_offsets = λ r c i h k l. no_glyph (at r c) i _ t.config.horizontal_chars narrow.horizontal_parts;
  crossings = λ r c h k. crossings t.config narrow (at r c) t.rows t.columns;
}

-- ---- tables that are printed

-- a table of which each cell has room
module _ (t : Table) (cells : 0 < t.rows → 0 < t.columns → CellsFit t) where
  pub straight-of : IsStraight t
  straight-of h k narrow whole = columns_are_straight t (cells h k) narrow whole

  pub even-of : IsEven t
  even-of look h k =
      let whole = missing_glyph_fills_gaps t look.lines.has_missing in
      let narrow = glyphs t look.lines look.fills in
      let margins : HasNarrowMargins t = record { left = look.margins.left; right = look.margins.right; top = look.margins.top; bottom = look.margins.bottom } in
      (columns_are_straight t (cells h k) narrow whole, margins_are_straight Known t (cells h k) narrow whole margins)

module _ (config : Config) (texts : List (List Text)) (columns : ℕ) (color : Position → Option Color) (none : fault_of (natural_table config texts columns color) ≡ None) where
  abbrev table : Table
  table = natural_table config texts columns color

  facts : 0 < table.rows → 0 < table.columns → (spans_fit config.spans (length texts) columns ≡ true) × (totals_fit table ≡ true)
  facts h k = fault-none table (grind (arith, nat_tests, h, k)) none

  cells : 0 < table.rows → 0 < table.columns → CellsFit table
  cells h k =
      let fitting = table-fits config texts columns color (facts h k).0 (facts h k).1 in
      record { spans = fitting.spans; rooms = fitting.rooms }

  pub straight : IsStraight table
  straight = straight-of table cells

  pub even : IsEven table
  even = even-of table cells

-- the text of a table whose lines are equally wide
pub even-text : {A E : Type 0} (r : Result (String A) E) (t : Table) → IfOk r (λ text. string_bytes text ≡ picture Known t) → (IsOk r → HasEvenLines t) → IfOk r (λ text. IsEvenText (string_bytes text))
even-text (Ok text) t is lines = (t, is, lines refl)
even-text (Err error) t is lines = tt

-- ---- glyphs

-- one of three at a place of a line is narrow where each is
pub ends_narrow : (a b c : Option ℕ) (i n : ℕ) → IfSome a IsNarrow → IfSome b IsNarrow → IfSome c IsNarrow → IfSome (ends a b c i n) IsNarrow
ends_narrow a b c i n first middle last =
    elim (cases_Bool (i == 0)) [
      | inl y ↦ rw y first
      | inr x ↦ elim (cases_Bool (i == n)) [ inl y ↦ rw (x, y) last | inr y ↦ rw (x, y) middle ]
    ]

-- ---- titles that change nothing: an empty one, and one over a line that isn't there

pub no_text : (text : Text) → (length text == 0) ≡ true → text ≡ []
no_text [] none = refl
no_text (c ∷ cs) none = let some : (length (c ∷ cs) == 0) ≡ false = grind (arith, nat_tests) in absurd (false≢true (sym some ∙ none))

module _ {T : Type 0} (r : ℕ) (side : AlignmentHorizontal) (t : Parts T) where
  pub untitled-absent : (title : Text) (widths : List ℕ) → has_horizontal t.config r (length t.rows) ≡ false → titled_at r side title widths t ≡ t
  unfolding with_title_at with_line_glyphs
  untitled-absent title widths absent = rw absent refl

  pub untitled-empty : (title : Text) (widths : List ℕ) → title ≡ [] → titled_at r side title widths t ≡ t
  unfolding with_title_at with_line_glyphs
  untitled-empty title widths empty =
      elim (cases_Bool (has_horizontal t.config r (length t.rows))) [
        | inl there ↦ rw (empty, chars-nil, there) refl
        | inr absent ↦ untitled-absent title widths absent
      ]

  -- nor does one in a colour
  uncolored : (title : Text) (color : Color) (widths : List ℕ) → (nat_lt 0 (length (chars title)) && has_horizontal t.config r (length t.rows)) ≡ false
      → with_title_color r side (length (chars title)) color widths (length t.rows) (columns_of t.rows) t.config ≡ t.config
  unfolding with_title_color with_line_color
  uncolored title color widths none = rw none refl

  pub uncolored-absent : (title : Text) (color : Color) (widths : List ℕ) → has_horizontal t.config r (length t.rows) ≡ false → titled_in color r side title widths t ≡ t
  uncolored-absent title color widths absent = rw (uncolored title color widths (and_right _ _ absent)) (untitled-absent title widths absent)

  pub uncolored-empty : (title : Text) (color : Color) (widths : List ℕ) → title ≡ [] → titled_in color r side title widths t ≡ t
  uncolored-empty title color widths empty = rw (uncolored title color widths (rw (empty, chars-nil) refl)) (untitled-empty title widths empty)

  -- a title by the natural widths
  pub titled-natural : (text : T → Text) (title : Text) → titled r side title text t ≡ titled_at r side title (own_sizes Columns text t) t
  unfolding with_title
  titled-natural text title = rw (length-map t.rows (λ row. map text row)) refl

-- ---- looks, lines below a header and paddings that take one column a glyph

-- ---- glyphs

-- a character takes one column
is_one : ℕ → Bool
is_one c = width_of (encode_utf8 c) == 1

equal : (n k : ℕ) → (n == k) ≡ true → n ≡ k
equal n k h = grind (arith, nat_tests, h)

one : (c : ℕ) → is_one c ≡ true → IsNarrow c
unfolding is_one
one c h = equal (width_of (encode_utf8 c)) 1 h

ascii-ones : list_all is_one (range_with_len 32 95) ≡ true
unfolding unicode_width width_of is_one
ascii-ones = refl

box-ones : list_all is_one (range_with_len 9472 128) ≡ true
unfolding unicode_width width_of is_one
box-ones = refl

in_range : (p : ℕ → Bool) (a n c : ℕ) → list_all p (range_with_len a n) ≡ true → a ≤ c → c < a + n → p c ≡ true
in_range p a zero c all low high = absurd (omega arith)
in_range p a (suc n) c all low high =
    let parts = and_parts (p a) (list_all p (range_with_len (a + 1) n)) all in
    elim (cases_Bool (a == c)) [
      | inl y ↦ let is : a ≡ c = grind (arith, nat_tests, y) in subst (λ (k : ℕ). p k ≡ true) is parts.0
      | inr x ↦ let other : ¬ (a ≡ c) = grind (arith, nat_tests, x) in in_range p (a + 1) n c parts.1 (omega (arith, other)) (omega arith)
    ]

-- printable ASCII and box drawings do
narrow : (c : ℕ) → is_line_glyph c ≡ true → IsNarrow c
narrow c h =
    elim (cases_Bool (nat_lt 9471 c)) [
      | inl y ↦
          let low : 9472 ≤ c = grind (arith, nat_tests, y) in
          let high : c < 9472 + 128 = grind (arith, nat_tests, h, y) in
          one c (in_range is_one 9472 128 c box-ones low high)
      | inr x ↦
          let low : 32 ≤ c = grind (arith, nat_tests, h, x) in
          let high : c < 32 + 95 = grind (arith, nat_tests, h, x) in
          one c (in_range is_one 32 95 c ascii-ones low high)
    ]

narrow_if : (o : Option ℕ) → is_line_glyph_if o ≡ true → IfSome o IsNarrow
narrow_if None h = tt
narrow_if (Some c) h = narrow c h

-- one of three at a place of a line
three : (a b c : Option ℕ) (i n : ℕ) → list_all is_line_glyph_if (a ∷ b ∷ c ∷ []) ≡ true → IfSome (ends a b c i n) IsNarrow
three a b c i n h =
    let first = and_parts (is_line_glyph_if a) (is_line_glyph_if b && (is_line_glyph_if c && true)) h in
    let next = and_parts (is_line_glyph_if b) (is_line_glyph_if c && true) first.1 in
    let last = and_parts (is_line_glyph_if c) true next.1 in
    ends_narrow a b c i n (narrow_if a first.0) (narrow_if b next.0) (narrow_if c last.0)

-- ---- borders

module _ (config : Config) (look : IsNarrowLook config) where
  -- fills stay where borders change
  fills-borders : (b : Borders ℕ) (p : Position) → HasNarrowFills (style_at (record config { borders = b }) p)
  unfolding style_at get_padding get_justification
  fills-borders b p = record { left = (look.fills p).left; right = (look.fills p).right; top = (look.fills p).top; bottom = (look.fills p).bottom; justification = (look.fills p).justification }

  pub told-borders : (b : Borders ℕ) → are_line_glyphs b ≡ true → IsNarrowLook (record config { borders = b })
  unfolding horizontal_glyph vertical_glyph crossing_glyph
  told-borders b h =
      let parts = and_parts (list_all is_line_glyph_if (b.top ∷ b.horizontal ∷ b.bottom ∷ []) && list_all is_line_glyph_if (b.left ∷ b.vertical ∷ b.right ∷ [])) (list_all is_line_glyph_if (b.top_left ∷ b.top_intersection ∷ b.top_right ∷ []) && (list_all is_line_glyph_if (b.left_intersection ∷ b.intersection ∷ b.right_intersection ∷ []) && list_all is_line_glyph_if (b.bottom_left ∷ b.bottom_intersection ∷ b.bottom_right ∷ []))) h in
      let lines = and_parts (list_all is_line_glyph_if (b.top ∷ b.horizontal ∷ b.bottom ∷ [])) (list_all is_line_glyph_if (b.left ∷ b.vertical ∷ b.right ∷ [])) parts.0 in
      let tops = and_parts (list_all is_line_glyph_if (b.top_left ∷ b.top_intersection ∷ b.top_right ∷ [])) (list_all is_line_glyph_if (b.left_intersection ∷ b.intersection ∷ b.right_intersection ∷ []) && list_all is_line_glyph_if (b.bottom_left ∷ b.bottom_intersection ∷ b.bottom_right ∷ [])) parts.1 in
      let others = and_parts (list_all is_line_glyph_if (b.left_intersection ∷ b.intersection ∷ b.right_intersection ∷ [])) (list_all is_line_glyph_if (b.bottom_left ∷ b.bottom_intersection ∷ b.bottom_right ∷ [])) tops.1 in
      record {
        lines = record {
          horizontals = λ r rows. three b.top b.horizontal b.bottom r rows lines.0;
          verticals = λ c columns. three b.left b.vertical b.right c columns lines.1;
          crossings = λ r c rows columns. ends_narrow _ _ _ r rows (three b.top_left b.top_intersection b.top_right c columns tops.0) (three b.left_intersection b.intersection b.right_intersection c columns others.0) (three b.bottom_left b.bottom_intersection b.bottom_right c columns others.1);
          set_horizontals = look.lines.set_horizontals;
          set_verticals = look.lines.set_verticals;
          set_crossings = look.lines.set_crossings;
          missing = look.lines.missing;
          has_missing = look.lines.has_missing;
          horizontal_parts = look.lines.horizontal_parts;
          vertical_parts = look.lines.vertical_parts;
        };
        fills = fills-borders b;
        margins = look.margins;
      }

-- ---- lines below a header

if_narrow : (b : Bool) (x y : Option ℕ) → IfSome x IsNarrow → IfSome y IsNarrow → IfSome (if b then x else y) IsNarrow
if_narrow true x y h k = h
if_narrow false x y h k = k

-- a row of places that get narrow glyphs
row_narrow : (r n : ℕ) (values : ℕ → Option ℕ) (es : List (Position × ℕ)) (p : Position) → ((c : ℕ) → IfSome (values c) IsNarrow) → IfSome (value_at by_place p es) IsNarrow → IfSome (value_at by_place p (with_row r n values es)) IsNarrow
row_narrow r zero values es p all was = was
row_narrow r (suc c) values es p all was =
    let before = row_narrow r c values es p all was in
    rw (value_at-with_some place-laws p (at r c) (values c) (with_row r c values es)) (if_narrow (same by_place (at r c) p) _ _ (first_narrow (values c) _ (all c) before) before)

module _ (config : Config) (look : IsNarrowLook config) where
  fills-overrides : (o : Overrides ℕ) (p : Position) → HasNarrowFills (style_at (record config { overrides = o }) p)
  unfolding style_at get_padding get_justification
  fills-overrides o p = record { left = (look.fills p).left; right = (look.fills p).right; top = (look.fills p).top; bottom = (look.fills p).bottom; justification = (look.fills p).justification }

  row-line : (r columns : ℕ) (line : HorizontalLine ℕ) → is_of_line_glyphs line ≡ true → IsNarrowLook (record config { overrides = record config.overrides { horizontals = with_row r columns (λ c. line.main) config.overrides.horizontals; crossings = with_row r (columns + 1) (λ c. line_crossing line columns c) config.overrides.crossings } })
  unfolding horizontal_override vertical_override crossing_override
  row-line r columns line h =
      let parts = and_parts (is_line_glyph_if line.main) (list_all is_line_glyph_if (line.left ∷ line.intersection ∷ line.right ∷ [])) h in
      record {
        lines = record {
          horizontals = look.lines.horizontals;
          verticals = look.lines.verticals;
          crossings = look.lines.crossings;
          set_horizontals = λ p. row_narrow r columns (λ c. line.main) config.overrides.horizontals p (λ c. narrow_if line.main parts.0) (look.lines.set_horizontals p);
          set_verticals = look.lines.set_verticals;
          set_crossings = λ p. row_narrow r (columns + 1) (λ c. line_crossing line columns c) config.overrides.crossings p (λ c. three line.left line.intersection line.right c columns parts.1) (look.lines.set_crossings p);
          missing = look.lines.missing;
          has_missing = look.lines.has_missing;
          horizontal_parts = look.lines.horizontal_parts;
          vertical_parts = look.lines.vertical_parts;
        };
        fills = fills-overrides _;
        margins = look.margins;
      }

  pub told-line : (r : ℕ) (line : HorizontalLine ℕ) (columns : ℕ) → is_of_line_glyphs line ≡ true → IsNarrowLook (record config { overrides = with_row_line r columns line config.overrides })
  unfolding with_row_line
  told-line r line columns h =
      elim (cases_Bool (columns == 0)) [
        | inl none ↦ rw none look
        | inr wide ↦ rw wide (row-line r columns line h)
      ]

  pub told-inner : (r : ℕ) (line : HorizontalLine ℕ) (rows columns : ℕ) → is_of_line_glyphs line ≡ true → IsNarrowLook (with_inner_line r line rows columns config)
  told-inner r line rows columns h =
      elim (cases_Bool (nat_lt 0 r && nat_lt r rows)) [
        | inr outside ↦ rw outside look
        | inl inside ↦ rw inside (told-line r line columns h)
      ]

  pub told-header : (line : HorizontalLine ℕ) (rows columns : ℕ) → is_of_line_glyphs line ≡ true → IsNarrowLook (with_header_line line rows columns config)
  told-header line rows columns h =
      elim (cases_Bool (nat_lt 1 rows)) [
        | inr few ↦ rw few look
        | inl some ↦ rw some (told-line 1 line columns h)
      ]

-- ---- paddings and sides of texts

sides : (s : Sides Indent) → are_line_fills s ≡ true → HasNarrowSides s
sides s h =
    let left = and_parts (is_line_glyph s.left.fill) (list_all is_line_glyph (s.right.fill ∷ s.top.fill ∷ s.bottom.fill ∷ [])) h in
    let right = and_parts (is_line_glyph s.right.fill) (list_all is_line_glyph (s.top.fill ∷ s.bottom.fill ∷ [])) left.1 in
    let top = and_parts (is_line_glyph s.top.fill) (list_all is_line_glyph (s.bottom.fill ∷ [])) right.1 in
    let bottom = and_parts (is_line_glyph s.bottom.fill) true top.1 in
    record { left = narrow _ left.0; right = narrow _ right.0; top = narrow _ top.0; bottom = narrow _ bottom.0 }

-- the lines aren't changed by them
lines-beside : (config : Config) → HasNarrowLines config → (padding : Settings (Sides Indent)) (across : Settings AlignmentHorizontal) → HasNarrowLines (record config { padding = padding; alignment_horizontal = across })
lines-beside config lines padding across = record {
  horizontals = lines.horizontals;
  verticals = lines.verticals;
  crossings = lines.crossings;
  set_horizontals = lines.set_horizontals;
  set_verticals = lines.set_verticals;
  set_crossings = lines.set_crossings;
  missing = lines.missing;
  has_missing = lines.has_missing;
  horizontal_parts = lines.horizontal_parts;
  vertical_parts = lines.vertical_parts;
}

module _ (config : Config) (look : IsNarrowLook config) where
  fills-padding : (s : Sides Indent) → HasNarrowSides s → (p : Position) → HasNarrowFills (style_at (record config { padding = with_setting Global s config.padding }) p)
  unfolding style_at get_padding get_justification with_setting setting_of
  fills-padding s fills p = record { left = fills.left; right = fills.right; top = fills.top; bottom = fills.bottom; justification = (look.fills p).justification }

  pub told-padding : (s : Sides Indent) → are_line_fills s ≡ true → IsNarrowLook (record config { padding = with_setting Global s config.padding })
  told-padding s h = record { lines = lines-beside config look.lines (with_setting Global s config.padding) config.alignment_horizontal; fills = fills-padding s (sides s h); margins = look.margins }

  fills-alignment : (across : Settings AlignmentHorizontal) (p : Position) → HasNarrowFills (style_at (record config { alignment_horizontal = across }) p)
  unfolding style_at get_padding get_justification
  fills-alignment across p = record { left = (look.fills p).left; right = (look.fills p).right; top = (look.fills p).top; bottom = (look.fills p).bottom; justification = (look.fills p).justification }

  pub told-alignment : (across : Settings AlignmentHorizontal) → IsNarrowLook (record config { alignment_horizontal = across })
  told-alignment across = record { lines = lines-beside config look.lines config.padding across; fills = fills-alignment across; margins = look.margins }

-- ---- paddings that are wider at the right, of a column at the right

sides-widened : (b : Bool) (n : ℕ) (s t : Sides Indent) → t ≡ (if b then widened_right n s else s) → HasNarrowSides s → HasNarrowSides t
sides-widened true n s t is h = rw is (record { left = h.left; right = h.right; top = h.top; bottom = h.bottom })
sides-widened false n s t is h = rw is h

module _ (config : Config) (look : IsNarrowLook config) (texts : List (List Text)) (from column : ℕ) (new : Config) (points : HasPointsAligned texts from column config new) where
  fills-points : (p : Position) → HasNarrowFills (style_at (record config { padding = new.padding; alignment_horizontal = with_setting (Column column) Right config.alignment_horizontal }) p)
  unfolding style_at get_padding get_justification
  fills-points p =
      let before = look.fills p in
      let own : HasNarrowSides (get_padding config p) = record { left = before.left; right = before.right; top = before.top; bottom = before.bottom } in
      let after : HasNarrowSides (get_padding new p) = sides-widened (is_in_column column from (length texts) p) (lacking (longest_rest texts from column) (text_at texts p)) (get_padding config p) (get_padding new p) (points.paddings p) own in
      record { left = after.left; right = after.right; top = after.top; bottom = after.bottom; justification = before.justification }

  pub told-points : IsNarrowLook new
  told-points = subst (λ (k : Config). IsNarrowLook k) (sym points.others) (record { lines = lines-beside config look.lines new.padding (with_setting (Column column) Right config.alignment_horizontal); fills = fills-points; margins = look.margins })

-- ---- colours of paddings, and of the room beside texts

module _ (config : Config) (look : IsNarrowLook config) where
  fills-ground : (paddings : Settings (Sides (Option Color))) (beside : Settings (Option Color)) (p : Position) → HasNarrowFills (style_at (record config { padding_color = paddings; justification_color = beside }) p)
  unfolding style_at get_padding get_justification
  fills-ground paddings beside p = record { left = (look.fills p).left; right = (look.fills p).right; top = (look.fills p).top; bottom = (look.fills p).bottom; justification = (look.fills p).justification }

  pub told-ground : (paddings : Settings (Sides (Option Color))) (beside : Settings (Option Color)) → IsNarrowLook (record config { padding_color = paddings; justification_color = beside })
  told-ground paddings beside = record {
    lines = record {
      horizontals = look.lines.horizontals;
      verticals = look.lines.verticals;
      crossings = look.lines.crossings;
      set_horizontals = look.lines.set_horizontals;
      set_verticals = look.lines.set_verticals;
      set_crossings = look.lines.set_crossings;
      missing = look.lines.missing;
      has_missing = look.lines.has_missing;
      horizontal_parts = look.lines.horizontal_parts;
      vertical_parts = look.lines.vertical_parts;
    };
    fills = fills-ground paddings beside;
    margins = look.margins;
  }

-- ---- spans

module _ (config : Config) (look : IsNarrowLook config) where
  fills-spans : (spans : List Span) (p : Position) → HasNarrowFills (style_at (record config { spans = spans }) p)
  unfolding style_at get_padding get_justification
  fills-spans spans p = record { left = (look.fills p).left; right = (look.fills p).right; top = (look.fills p).top; bottom = (look.fills p).bottom; justification = (look.fills p).justification }

  pub told-spans : (spans : List Span) → IsNarrowLook (record config { spans = spans })
  told-spans spans = record {
    lines = record {
      horizontals = look.lines.horizontals;
      verticals = look.lines.verticals;
      crossings = look.lines.crossings;
      set_horizontals = look.lines.set_horizontals;
      set_verticals = look.lines.set_verticals;
      set_crossings = look.lines.set_crossings;
      missing = look.lines.missing;
      has_missing = look.lines.has_missing;
      horizontal_parts = look.lines.horizontal_parts;
      vertical_parts = look.lines.vertical_parts;
    };
    fills = fills-spans spans;
    margins = look.margins;
  }

-- ---- frames

-- the glyphs of one side of borders
side_narrow : (a b c : Option ℕ) → list_all is_line_glyph_if (a ∷ b ∷ c ∷ []) ≡ true → IfSome a IsNarrow × IfSome b IsNarrow × IfSome c IsNarrow
side_narrow a b c h = (three a b c 0 2 h, three a b c 1 2 h, three a b c 2 2 h)

module _ (config : Config) (look : IsNarrowLook config) (f : Frame) (h : are_line_glyphs f.glyphs ≡ true) where
  abbrev b : Borders ℕ
  b = f.glyphs

  halves : (list_all is_line_glyph_if (b.top ∷ b.horizontal ∷ b.bottom ∷ []) && list_all is_line_glyph_if (b.left ∷ b.vertical ∷ b.right ∷ []) ≡ true) × (list_all is_line_glyph_if (b.top_left ∷ b.top_intersection ∷ b.top_right ∷ []) && (list_all is_line_glyph_if (b.left_intersection ∷ b.intersection ∷ b.right_intersection ∷ []) && list_all is_line_glyph_if (b.bottom_left ∷ b.bottom_intersection ∷ b.bottom_right ∷ [])) ≡ true)
  halves = and_parts _ _ h

  horizontal-narrow : (p : Position) → IfSome (frame_horizontal f p) IsNarrow
  horizontal-narrow p =
      let lines = and_parts (list_all is_line_glyph_if (b.top ∷ b.horizontal ∷ b.bottom ∷ [])) (list_all is_line_glyph_if (b.left ∷ b.vertical ∷ b.right ∷ [])) halves.0 in
      let side = side_narrow b.top b.horizontal b.bottom lines.0 in
      if_narrow (nat_le f.first.col p.col && nat_lt p.col f.last.col) (if p.row == f.first.row then b.top else if p.row == f.last.row then b.bottom else None) None
      (if_narrow (p.row == f.first.row) b.top (if p.row == f.last.row then b.bottom else None) side.0 (if_narrow (p.row == f.last.row) b.bottom None side.2 tt)) tt

  vertical-narrow : (p : Position) → IfSome (frame_vertical f p) IsNarrow
  vertical-narrow p =
      let lines = and_parts (list_all is_line_glyph_if (b.top ∷ b.horizontal ∷ b.bottom ∷ [])) (list_all is_line_glyph_if (b.left ∷ b.vertical ∷ b.right ∷ [])) halves.0 in
      let side = side_narrow b.left b.vertical b.right lines.1 in
      if_narrow (nat_le f.first.row p.row && nat_lt p.row f.last.row) (if p.col == f.first.col then b.left else if p.col == f.last.col then b.right else None) None
      (if_narrow (p.col == f.first.col) b.left (if p.col == f.last.col then b.right else None) side.0 (if_narrow (p.col == f.last.col) b.right None side.2 tt)) tt

  crossing-narrow : (p : Position) → IfSome (frame_crossing f config p) IsNarrow
  crossing-narrow p =
      let tops = and_parts (list_all is_line_glyph_if (b.top_left ∷ b.top_intersection ∷ b.top_right ∷ [])) (list_all is_line_glyph_if (b.left_intersection ∷ b.intersection ∷ b.right_intersection ∷ []) && list_all is_line_glyph_if (b.bottom_left ∷ b.bottom_intersection ∷ b.bottom_right ∷ [])) halves.1 in
      let others = and_parts (list_all is_line_glyph_if (b.left_intersection ∷ b.intersection ∷ b.right_intersection ∷ [])) (list_all is_line_glyph_if (b.bottom_left ∷ b.bottom_intersection ∷ b.bottom_right ∷ [])) tops.1 in
      let top = side_narrow b.top_left b.top_intersection b.top_right tops.0 in
      let middle = side_narrow b.left_intersection b.intersection b.right_intersection others.0 in
      let bottom = side_narrow b.bottom_left b.bottom_intersection b.bottom_right others.1 in
      let corner : IfSome (frame_corner f p) IsNarrow =
      if_narrow (p.row == f.first.row) (if p.col == f.first.col then b.top_left else b.top_right) (if p.col == f.first.col then b.bottom_left else b.bottom_right)
      (if_narrow (p.col == f.first.col) b.top_left b.top_right top.0 top.2) (if_narrow (p.col == f.first.col) b.bottom_left b.bottom_right bottom.0 bottom.2) in
      let adds_row : Bool = if p.row == f.first.row then f.adds.top else f.adds.bottom in
      let row : IfSome (along_row f config p) IsNarrow =
      if_narrow (nat_lt f.first.col p.col && nat_lt p.col f.last.col) (if p.row == f.first.row then b.top_intersection else b.bottom_intersection) (if adds_row then get_vertical config p f.columns else None)
      (if_narrow (p.row == f.first.row) b.top_intersection b.bottom_intersection top.1 bottom.1) (if_narrow adds_row (get_vertical config p f.columns) None (verticals config look.lines p f.columns) tt) in
      let adds_column : Bool = if p.col == f.first.col then f.adds.left else f.adds.right in
      let column : IfSome (along_column f config p) IsNarrow =
      if_narrow (nat_lt f.first.row p.row && nat_lt p.row f.last.row) (if p.col == f.first.col then b.left_intersection else b.right_intersection) (if adds_column then get_horizontal config p f.rows else None)
      (if_narrow (p.col == f.first.col) b.left_intersection b.right_intersection middle.0 middle.2) (if_narrow adds_column (get_horizontal config p f.rows) None (horizontals config look.lines p f.rows) tt) in
      let on_column : Option ℕ = if has_horizontal config p.row f.rows then along_column f config p else None in
      let on_row : Option ℕ = if has_vertical config p.col f.columns then along_row f config p else None in
      if_narrow (not (nat_le p.row f.rows && nat_le p.col f.columns)) None
      (if is_on_row f p && is_on_column f p then frame_corner f p else if is_on_row f p then on_row else if is_on_column f p then on_column else None) tt
      (if_narrow (is_on_row f p && is_on_column f p) (frame_corner f p) (if is_on_row f p then on_row else if is_on_column f p then on_column else None) corner
      (if_narrow (is_on_row f p) on_row (if is_on_column f p then on_column else None) (if_narrow (has_vertical config p.col f.columns) (along_row f config p) None row tt)
      (if_narrow (is_on_column f p) on_column None (if_narrow (has_horizontal config p.row f.rows) (along_column f config p) None column tt) tt)))

  pub told-frame : (new : Config) → IsFramed f config new → IsNarrowLook new
  told-frame new framed =
      subst (λ (k : Config). IsNarrowLook k) (sym framed.others) (record {
        lines = record {
          horizontals = look.lines.horizontals;
          verticals = look.lines.verticals;
          crossings = look.lines.crossings;
          set_horizontals = λ p. rw (framed.horizontals p) (first_narrow _ _ (horizontal-narrow p) (look.lines.set_horizontals p));
          set_verticals = λ p. rw (framed.verticals p) (first_narrow _ _ (vertical-narrow p) (look.lines.set_verticals p));
          set_crossings = λ p. rw (framed.crossings p) (first_narrow _ _ (crossing-narrow p) (look.lines.set_crossings p));
          missing = look.lines.missing;
          has_missing = look.lines.has_missing;
          horizontal_parts = look.lines.horizontal_parts;
          vertical_parts = look.lines.vertical_parts;
        };
        fills = fills-overrides config look new.overrides;
        margins = look.margins;
      })

-- the glyphs of a frame round cells, and of a line left of a column
pub glyphs-round : (b : Border ℕ) (first last : Position) → are_line_glyphs (frame_borders b) ≡ true → are_line_glyphs (borders_round b first last) ≡ true
glyphs-round b first last h = elim (cases_Bool (nat_lt first.row last.row && nat_lt first.col last.col)) [ inl y ↦ rw y h | inr n ↦ rw n refl ]

-- an end that is left out stays no wider
ends-narrow : (v t m d x y : Bool) → ((v && true) && ((t && true) && ((m && true) && (d && true)))) ≡ true → ((v && true) && (((if x then t else true) && true) && ((m && true) && ((if y then d else true) && true)))) ≡ true
ends-narrow true true true true true true h = refl
ends-narrow true true true true true false h = refl
ends-narrow true true true true false true h = refl
ends-narrow true true true true false false h = refl
ends-narrow false t m d x y h = absurd (false≢true h)
ends-narrow true false m d x y h = absurd (false≢true h)
ends-narrow true true false d x y h = absurd (false≢true h)
ends-narrow true true true false x y h = absurd (false≢true h)

end-narrow : (x : Bool) (o : Option ℕ) → is_line_glyph_if (if x then o else None) ≡ (if x then is_line_glyph_if o else true)
end-narrow true o = refl
end-narrow false o = refl

pub glyphs-left_of : (b : Borders ℕ) (c rows columns : ℕ) (config : Config) → are_line_glyphs (column_borders b) ≡ true → are_line_glyphs (borders_left_of b c rows columns config) ≡ true
glyphs-left_of b c rows columns config h =
    elim (cases_Bool (nat_lt 0 c && nat_lt c columns)) [
      | inr n ↦ rw n refl
      | inl y ↦ rw (y, end-narrow (has_horizontal config 0 rows) b.top_intersection, end-narrow (has_horizontal config rows rows) b.bottom_intersection) (ends-narrow (is_line_glyph_if b.vertical) (is_line_glyph_if b.top_intersection) (is_line_glyph_if b.intersection) (is_line_glyph_if b.bottom_intersection) (has_horizontal config 0 rows) (has_horizontal config rows rows) h)
    ]

-- what a setting does where memory isn't refused
pub where-ok : {V E P : Type 0} (r : Result V E) → IsOk r → OnOk r P → P
where-ok (Ok value) ok is = is
where-ok (Err error) ok is = absurd (false≢true ok)

-- a configuration that is told, or stays where memory is refused
pub told-or-same : {V E : Type 0} (r : Result V E) (new told old : Config) → OnOk r (new ≡ told) → OnErr r (new ≡ old) → IsNarrowLook told → IsNarrowLook old → IsNarrowLook new
told-or-same (Ok value) new told old is same told-narrow was = rw is told-narrow
told-or-same (Err error) new told old is same told-narrow was = rw same was

-- ---- a configuration that was told ASCII borders alone

space : IsNarrow 32
space = narrow 32 refl

nothing : IsNarrowLook default_config
unfolding default_config horizontal_glyph vertical_glyph crossing_glyph horizontal_override vertical_override crossing_override style_at get_padding get_justification setting_of
nothing = record {
  lines = record {
    horizontals = λ r rows. three None None None r rows refl;
    verticals = λ c columns. three None None None c columns refl;
    crossings = λ r c rows columns. ends_narrow _ _ _ r rows (three None None None c columns refl) (three None None None c columns refl) (three None None None c columns refl);
    set_horizontals = λ p. tt;
    set_verticals = λ p. tt;
    set_crossings = λ p. tt;
    missing = space;
    has_missing = search;
    horizontal_parts = refl;
    vertical_parts = refl;
  };
  fills = λ p. record { left = space; right = space; top = space; bottom = space; justification = space };
  margins = record { left = space; right = space; top = space; bottom = space };
}

pub told-nothing : IsNarrowLook ascii_config
told-nothing = told-borders default_config nothing ascii refl

-- ---- texts beside each other

fills-spaced : (gap : ℕ) (p : Position) → HasNarrowFills (style_at (spaced_config gap) p)
unfolding default_config style_at get_padding get_justification with_setting setting_of
fills-spaced gap p =
    elim (cases_Bool (0 == p.col)) [
      | inl first ↦ rw first (record { left = space; right = space; top = space; bottom = space; justification = space })
      | inr other ↦ rw other (record { left = space; right = space; top = space; bottom = space; justification = space })
    ]

pub told-spaced : (gap : ℕ) → IsNarrowLook (spaced_config gap)
told-spaced gap = record { lines = lines-beside default_config nothing.lines (spaced_config gap).padding default_config.alignment_horizontal; fills = fills-spaced gap; margins = nothing.margins }

pub looks-are-narrow : LooksAreNarrow
looks-are-narrow = record {
  first = told-nothing;
  borders = λ config b h look. told-borders config look b h;
  header = λ config line rows columns h look. told-header config look line rows columns h;
  padding = λ config s h look. told-padding config look s h;
  looks = refl;
  lines = refl;
}

-- the law of narrow looks
pub ruleset narrow_looks = (looks-are-narrow)

-- settings after which a look stays narrow
pub ruleset narrow_settings = (told-borders, told-nothing)

-- titles that change nothing
pub ruleset untitled_lines = (no_text, untitled-absent, untitled-empty, uncolored-absent, uncolored-empty)

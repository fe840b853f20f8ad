-- Separators and the glyphs of lines: verticals, crossings, horizontals, and the cuts between the items.
use Rattle.std.proofs.Common.{◌≡◌, ℕ, ◌≤◌, Bool, true, false, ◌&&◌, ◌==◌, nat_lt, refl, arith, Option, Some, None, IsSome, is_some, inl, inr, List, [], ◌∷◌, sym, if◌then◌else◌, zero, suc, ◌<◌, ◌++◌, replicate, ap, ◌∙◌, append_assoc, append-nil, encode_utf8, lit<, ◌+◌, ◌-◌, map, ap₂, zero-add, flat_map, Result, Ok, Err, IfOk, length}
use Rattle.std.specs.Option.{option_or}
use Rattle.std.proofs.lemmas.Bool.{cases_Bool, or_parts, false≢true, and_parts}
use Rattle.std.proofs.lemmas.Bool.Decides.{nat_tests}
use Rattle.pg_layout.specs.declared.position.Position.{Position}
use Rattle.pg_layout.specs.declared.borders.Borders.{Borders}
use Rattle.pg_layout.specs.Borders.{any_of, has_left, has_right, has_inner_vertical, has_side, vertical_glyph, crossing_glyph}
use Rattle.pg_layout.specs.Keys.{column_place, in_column}
use Rattle.pg_layout.specs.Places.{has_key}
use Rattle.pg_layout.proofs.KeyedPlaces.{columns-laws, value_at-no_key}
use Rattle.pg_layout.specs.Position.{at, is_at}
use Rattle.pg_config.specs.Overrides.{vertical_override, crossing_override, overrides_column, has_crossing}
use Rattle.pg_config.specs.Config.{Config, missing_if, has_horizontal, has_vertical, get_vertical, get_intersection, has_column_lines, has_offset_chars, get_vertical_color, is_overridden_horizontal, get_horizontal, has_equal_row_lines, get_horizontal_color}
use Rattle.pg_config.proofs.EqualLines.{first_none, IsInner, SameLines, inner_lines}
use Rattle.pg_picture.specs.Table.{Table, crossing_at, vertical_at, border_glyph, border_items, separator_part, separator_items, column_items}
use Rattle.pg_picture.specs.Straight.{HasNoGaps}
use Rattle.pg_layout.specs.Colors.{Color, lent_color, same_color, color_eq-equiv}
use Rattle.pg_picture.specs.Pieces.{Item, fill, glyph_piece, written, glyph, spaces, cut, repeated, in_color, prefix_of, suffix_of, color_after, item_text, with_cuts, separator_text}
use Rattle.pg_picture.specs.Inside.{items_after, last_color, item_after, verticals_of}
use Rattle.std.specs.Prelude.{unwrap_or}
use Rattle.std.specs.Borrow.{Bor}
use Rattle.pg_config.specs.Settings.{has_some}
use Rattle.pg_config.specs.Offsets.{Offsets, has_offsets, lookup_offset, glyph_at, of_place, is_offset_at}
use Rattle.pg_picture.specs.declared.sheet.VerticalKind.TheVariants.{Absent, Whole, ByLine}
use Rattle.pg_picture.proofs.PiecesOfLines.{written-nil, repeated-zero, repeated-one, repeated-suc, written-fill}
use Rattle.pg_picture.specs.Marks.{only_if}
use Rattle.std.specs.List.{range_with_len}
use Rattle.std.proofs.lemmas.List.{map-append}
use Rattle.std.proofs.lemmas.List.FromFn.{map-range_with_len_more}
use Rattle.pg_config.proofs.Lookups.{glyph-laws}
use Rattle.pg_picture.proofs.Ranges.{range-add, range-more}
use Rattle.std.proofs.lemmas.List.Concat.{flat_map-append}
use Rattle.pg_picture.proofs.FittingTables.{crossing_plain, column_items_plain, column_items_plain_end, covered_plain}
use Rattle.pg_config.specs.Spans.{Span}
use Rattle.pg_picture.proofs.Pictures.{flat_map-same}

-- ---- the glyphs of column lines, verticals and crossings

-- ---- the glyphs of column lines: none where the line isn't there, and one where it is and nothing is missing

-- ---- glyphs that stand in for missing ones

-- of three values the last one is there
last-there : (a b c : Option ℕ) → is_some c ≡ true → is_some (option_or a (option_or b c)) ≡ true
last-there (Some g) b c h = refl
last-there None (Some g) c h = refl
last-there None None c h = h

missing-some : (config : Config) (there : Bool) → is_some config.missing ≡ true → there ≡ true → is_some (missing_if config there) ≡ true
missing-some config there missing h = rw h missing

both : (a b : Bool) → a ≡ true → b ≡ true → (a && b) ≡ true
both a b h k = rw (h, k) refl

pub missing_glyph_fills_gaps : (t : Table) → IsSome t.config.missing → HasNoGaps t
unfolding get_vertical get_intersection
missing_glyph_fills_gaps t missing = record {
  verticals = λ r c h k there.
      last-there (vertical_override t.config.overrides (at r c)) (vertical_glyph t.config.borders c t.columns) (missing_if t.config (has_vertical t.config c t.columns))
      (missing-some t.config (has_vertical t.config c t.columns) missing there);
  crossings = λ r c h k row column.
      last-there (crossing_override t.config.overrides (at r c)) (crossing_glyph t.config.borders r c t.rows t.columns) (missing_if t.config (has_horizontal t.config r t.rows && has_vertical t.config c t.columns))
      (missing-some t.config (has_horizontal t.config r t.rows && has_vertical t.config c t.columns) missing (both (has_horizontal t.config r t.rows) (has_vertical t.config c t.columns) row column));
}

-- ---- column lines that aren't there

vertical_glyph-none : {G : Type 0} (b : Borders G) (c columns : ℕ) → c ≤ columns → has_side (has_left b) (has_inner_vertical b) (has_right b) c columns ≡ false → vertical_glyph b c columns ≡ None
unfolding vertical_glyph has_side has_left has_right has_inner_vertical
vertical_glyph-none b c columns h none =
    let parts = or_parts ((c == 0) && any_of b.left b.top_left b.bottom_left b.left_intersection) _ none in
    let rest = or_parts ((c == columns) && any_of b.right b.top_right b.bottom_right b.right_intersection) _ parts.1 in
    elim (cases_Bool (c == 0)) [
      | inl first ↦ rw first (first_none b.left b.top_left b.bottom_left b.left_intersection (rw first at parts.0))
      | inr n ↦ elim (cases_Bool (c == columns)) [
        | inl last ↦ rw (n, last) (first_none b.right b.top_right b.bottom_right b.right_intersection (rw last at rest.0))
        | inr m ↦
            let between : (nat_lt 0 c && nat_lt c columns) ≡ true = grind (arith, nat_tests, n, m, h) in
            rw (n, m) (first_none b.vertical b.top_intersection b.bottom_intersection b.intersection (rw between at rest.1))
      ]
    ]

-- a column line that isn't there has no glyph
pub get_vertical-none : (config : Config) (p : Position) (columns : ℕ) → p.col ≤ columns → has_vertical config p.col columns ≡ false → get_vertical config p columns ≡ None
unfolding get_vertical has_vertical vertical_override overrides_column
get_vertical-none config p columns h none =
    let parts = or_parts (has_side (has_left config.borders) (has_inner_vertical config.borders) (has_right config.borders) p.col columns) (overrides_column config.overrides p.col) none in
    let column = or_parts (has_key (in_column p.col) config.overrides.verticals) (has_crossing p.col config.overrides.crossings) parts.1 in
    let its : in_column p.col (column_place p) ≡ true = grind (arith, nat_tests) in
    rw (value_at-no_key columns-laws (in_column p.col) (column_place p) config.overrides.verticals its column.0, vertical_glyph-none config.borders p.col columns h parts.0, none) refl

-- ---- the crossing of two lines, where nothing stands

-- no items write nothing, and leave the colour as it is
pub items_after-nil : (c : Option Color) {items : List Item} → items ≡ [] → items_after c items ≡ []
unfolding items_after
items_after-nil c none = rw none refl

pub last_color-nil : (c : Option Color) {items : List Item} → items ≡ [] → c ≡ last_color c items
unfolding last_color
last_color-nil c none = rw none refl

module _ (config : Config) (rows columns : ℕ) (p : Position) where
  pub crossing_at-no_line : has_vertical config p.col columns ≡ false → crossing_at config rows columns p ≡ []
  unfolding crossing_at
  crossing_at-no_line none = rw none refl

  pub crossing_at-no_glyph : get_intersection config p rows columns ≡ None → crossing_at config rows columns p ≡ []
  unfolding crossing_at
  crossing_at-no_glyph none = elim (cases_Bool (has_vertical config p.col columns)) [ inl there ↦ rw (there, none) refl | inr missing ↦ rw missing refl ]

-- ---- the glyph of a vertical, where there is one and where there is none

-- of two lent colours the first one that is there
pub lent_color-or : {C : Type 0} (f : C → Color) (a b : Option (Bor C)) → lent_color f (option_or a b) ≡ option_or (lent_color f a) (lent_color f b)
lent_color-or f (Some a) b = refl
lent_color-or f None b = refl

-- the glyph that an offset puts in the place of the border's
offset_glyph : (o : Option ℕ) (g : ℕ) (color : Option Color) → fill (unwrap_or (option_or o (Some g)) 0) 1 color ≡ fill (unwrap_or o g) 1 color
offset_glyph (Some o) g color = refl
offset_glyph None g color = refl

-- nothing is found where nothing was set
no_entries : {V : Type 0} (xs : List V) → has_some xs ≡ false → xs ≡ []
no_entries [] none = refl
no_entries (x ∷ xs) none = absurd (false≢true (sym none))

lookup-none : {V : Type 0} (o : Offsets V) → has_offsets o ≡ false → (p : Position) (i w : ℕ) → lookup_offset o p i w ≡ None
unfolding has_offsets lookup_offset
lookup-none o none p i w =
    let parts = or_parts (has_some o.from_start) (has_some o.from_end) none in
    rw (no_entries o.from_start parts.0, no_entries o.from_end parts.1) refl

border-alone : (border : Option ℕ) (own : Option Color) → (if is_some border then fill (unwrap_or (option_or None border) 0) 1 (option_or own None) else []) ≡ glyph_piece border own
border-alone None own = refl
border-alone (Some g) None = refl
border-alone (Some g) (Some color) = refl

module _ (config : Config) (columns h : ℕ) (p : Position) (i : ℕ) where
  pub vertical_at-none : get_vertical config p columns ≡ None → written (vertical_at config columns h p i) ≡ []
  unfolding vertical_at
  vertical_at-none none = rw none written-nil

  pub vertical_at-some : (g : ℕ) → get_vertical config p columns ≡ Some g
      → vertical_at config columns h p i
      ≡ fill (unwrap_or (lookup_offset config.vertical_chars p i h) g) 1 (option_or (get_vertical_color config p columns) (lookup_offset config.vertical_colors p i h))
  unfolding vertical_at
  vertical_at-some g some = rw some (offset_glyph (lookup_offset config.vertical_chars p i h) g (option_or (get_vertical_color config p columns) (lookup_offset config.vertical_colors p i h)))

  -- where no glyph and no colour was set for a part of a line
  pub vertical_at-border : has_offset_chars config ≡ false → vertical_at config columns h p i ≡ glyph_piece (get_vertical config p columns) (get_vertical_color config p columns)
  unfolding vertical_at has_offset_chars
  vertical_at-border none =
      let parts = or_parts _ _ none in
      let chars : has_offsets config.vertical_chars ≡ false = (or_parts _ _ parts.0).1 in
      let colors : has_offsets config.vertical_colors ≡ false = (or_parts _ _ parts.1).1 in
      rw (lookup-none config.vertical_chars chars p i h, lookup-none config.vertical_colors colors p i h)
      (border-alone (get_vertical config p columns) (get_vertical_color config p columns))

-- ---- what the kind of a table's verticals tells

absent-if : (lined offset : Bool) → (if lined then (if offset then ByLine else Whole) else Absent) ≡ Absent → lined ≡ false
absent-if false offset is = refl
absent-if true true is = cc
absent-if true false is = cc

whole-if : (lined offset : Bool) → (if lined then (if offset then ByLine else Whole) else Absent) ≡ Whole → offset ≡ false
whole-if lined false is = refl
whole-if true true is = cc
whole-if false true is = cc

pub no_column_lines : (config : Config) → verticals_of config ≡ Absent → has_column_lines config ≡ false
unfolding verticals_of
no_column_lines config is = absent-if (has_column_lines config) (has_offset_chars config) is

pub no_offset_chars : (config : Config) → verticals_of config ≡ Whole → has_offset_chars config ≡ false
unfolding verticals_of
no_offset_chars config is = whole-if (has_column_lines config) (has_offset_chars config) is

-- ---- separators: their items with the cuts between them, their horizontals, and which of them are equal

-- ---- items with the cuts between them: none, some more, equal glyphs, and the end of their line

pub same_color-same : (c : Option Color) → same_color c c ≡ true
same_color-same None = refl
same_color-same (Some c) = color_eq-equiv.refl c

-- nothing stands between two items of one colour
pub cut-same : (c : Option Color) → cut c c ≡ []
unfolding cut
cut-same c = rw (same_color-same c) refl

pub items_after-append : (c : Option Color) (items more : List Item) → items_after c (items ++ more) ≡ items_after c items ++ items_after (last_color c items) more
unfolding items_after last_color
items_after-append c [] more = refl
items_after-append c (item ∷ items) more =
    ap (λ t. item_after c item ++ t) (items_after-append (color_after c item) items more)
    ∙ sym (append_assoc (item_after c item) (items_after (color_after c item) items) (items_after (last_color (color_after c item) items) more))

pub last_color-append : (c : Option Color) (items more : List Item) → last_color c (items ++ more) ≡ last_color (last_color c items) more
unfolding last_color
last_color-append c [] more = refl
last_color-append c (item ∷ items) more = last_color-append (color_after c item) items more

pub items_after-one : (c : Option Color) (item : Item) → items_after c (item ∷ []) ≡ item_after c item
unfolding items_after
items_after-one c item = append-nil (item_after c item)

pub last_color-one : (c : Option Color) (item : Item) → last_color c (item ∷ []) ≡ color_after c item
unfolding last_color
last_color-one c item = refl

-- the last cut closes what the items left open
pub with_cuts-close : (c : Option Color) (items : List Item) → with_cuts c items ≡ items_after c items ++ cut (last_color c items) None
unfolding with_cuts items_after last_color
with_cuts-close c [] = refl
with_cuts-close c (item ∷ items) =
    ap (λ t. cut c (color_after c item) ++ (item_text (color_after c item) item ++ t)) (with_cuts-close (color_after c item) items)
    ∙ sym (append_assoc (cut c (color_after c item)) (item_text (color_after c item) item) (items_after (color_after c item) items ++ cut (last_color (color_after c item) items) None))
    ∙ sym (append_assoc (item_after c item) (items_after (color_after c item) items) (cut (last_color (color_after c item) items) None))

-- the items after those that stand already
pub with_cuts-append : (c : Option Color) (items more : List Item) → with_cuts c (items ++ more) ≡ items_after c items ++ with_cuts (last_color c items) more
with_cuts-append c items more =
    with_cuts-close c (items ++ more)
    ∙ ap (λ d. items_after c (items ++ more) ++ cut d None) (last_color-append c items more)
    ∙ ap (λ t. t ++ cut (last_color (last_color c items) more) None) (items_after-append c items more)
    ∙ append_assoc (items_after c items) (items_after (last_color c items) more) (cut (last_color (last_color c items) more) None)
    ∙ ap (λ t. items_after c items ++ t) (sym (with_cuts-close (last_color c items) more))

-- spaces are written in the colour that is open
pub item_after-spaces : (c : Option Color) (n : ℕ) → item_after c (spaces n) ≡ repeated 32 n
item_after-spaces c n = ap (λ t. t ++ repeated 32 n) (cut-same c)

-- the spaces of a column, of which one of no width has none
pub items_after-spaces : (c : Option Color) (n : ℕ) → items_after c (only_if (nat_lt 0 n) (spaces n)) ≡ item_after c (spaces n)
unfolding items_after
items_after-spaces c zero = sym (item_after-spaces c 0 ∙ repeated-zero 32)
items_after-spaces c (suc n) = let some : nat_lt 0 (suc n) ≡ true = grind (arith, nat_tests) in rw some (append-nil (item_after c (spaces (suc n))))

pub last_color-spaces : (c : Option Color) (n : ℕ) → last_color c (only_if (nat_lt 0 n) (spaces n)) ≡ c
unfolding last_color
last_color-spaces c zero = refl
last_color-spaces c (suc n) = let some : nat_lt 0 (suc n) ≡ true = grind (arith, nat_tests) in rw some refl

-- a glyph with an offset's colour put round it, within its own colour e
pub item_text-offset : (e : Option Color) (g : ℕ) (f : Color) → suffix_of e ++ (written (fill g 1 (Some f)) ++ prefix_of e) ≡ item_text e (glyph g e (Some f))
item_text-offset e g f =
    ap (λ t. suffix_of e ++ (t ++ prefix_of e)) (written-fill g 1 (Some f) (lit< tt) ∙ ap (λ t. in_color (Some f) t) (repeated-one g))
    ∙ simp append_assoc

-- equal glyphs after one of the same colour
pub items_after-same : (d : Option Color) (g n : ℕ) → items_after d (replicate n (glyph g d None)) ≡ repeated g n
unfolding items_after
items_after-same d g zero = sym (repeated-zero g)
items_after-same d g (suc n) =
    ap (λ t. (t ++ encode_utf8 g) ++ items_after d (replicate n (glyph g d None))) (cut-same d)
    ∙ ap (λ t. encode_utf8 g ++ t) (items_after-same d g n)
    ∙ sym (repeated-suc g n)

-- equal glyphs: one cut from the colour before, and then the glyphs
pub items_after-replicate : (c before d : Option Color) (g n : ℕ) → before ≡ c → 0 < n → cut before d ++ repeated g n ≡ items_after c (replicate n (glyph g d None))
unfolding items_after
items_after-replicate c before d g zero is some = absurd (omega arith)
items_after-replicate c before d g (suc n) is some =
    ap (λ b. cut b d ++ repeated g (suc n)) is
    ∙ ap (λ t. cut c d ++ t) (repeated-suc g n)
    ∙ sym (append_assoc (cut c d) (encode_utf8 g) (repeated g n))
    ∙ ap (λ t. (cut c d ++ encode_utf8 g) ++ t) (sym (items_after-same d g n))

pub items_after-none : (c d : Option Color) (g n : ℕ) → n ≡ 0 → items_after c (replicate n (glyph g d None)) ≡ []
unfolding items_after
items_after-none c d g zero none = refl
items_after-none c d g (suc n) none = absurd (omega arith)

last_color-same : (d : Option Color) (g n : ℕ) → last_color d (replicate n (glyph g d None)) ≡ d
unfolding last_color
last_color-same d g zero = refl
last_color-same d g (suc n) = last_color-same d g n

pub last_color-replicate : (c d : Option Color) (g n : ℕ) → 0 < n → last_color c (replicate n (glyph g d None)) ≡ d
unfolding last_color
last_color-replicate c d g zero some = absurd (omega arith)
last_color-replicate c d g (suc n) some = last_color-same d g n

pub last_color-none : (c d : Option Color) (g n : ℕ) → n ≡ 0 → last_color c (replicate n (glyph g d None)) ≡ c
unfolding last_color
last_color-none c d g zero none = refl
last_color-none c d g (suc n) none = absurd (omega arith)

pub ruleset one_item = (items_after-one, last_color-one)

-- ---- the glyphs of a horizontal: one by one, and in one go where no single one was set

-- numbered items: one more after those that end with colour d
pub items_after-more : (c : Option Color) (f : ℕ → Item) (k : ℕ) {d : Option Color} {item : Item} → d ≡ last_color c (map f (range_with_len 0 k)) → item ≡ f k
    → items_after c (map f (range_with_len 0 (k + 1))) ≡ items_after c (map f (range_with_len 0 k)) ++ item_after d item
items_after-more c f k {d} {item} last is =
    ap (λ l. items_after c l) (map-range_with_len_more f 0 k k (zero-add k))
    ∙ items_after-append c (map f (range_with_len 0 k)) (f k ∷ [])
    ∙ ap (λ t. items_after c (map f (range_with_len 0 k)) ++ t) (items_after-one (last_color c (map f (range_with_len 0 k))) (f k))
    ∙ ap₂ (λ e x. items_after c (map f (range_with_len 0 k)) ++ item_after e x) (sym last) (sym is)

pub last_color-more : (c : Option Color) (f : ℕ → Item) (k : ℕ) {d : Option Color} {item : Item} → d ≡ last_color c (map f (range_with_len 0 k)) → item ≡ f k
    → last_color c (map f (range_with_len 0 (k + 1))) ≡ color_after d item
last_color-more c f k {d} {item} last is =
    ap (λ l. last_color c l) (map-range_with_len_more f 0 k k (zero-add k))
    ∙ last_color-append c (map f (range_with_len 0 k)) (f k ∷ [])
    ∙ last_color-one (last_color c (map f (range_with_len 0 k))) (f k)
    ∙ ap₂ (λ e x. color_after e x) (sym last) (sym is)

-- numbered items, cut at one of them
pub items_after-cut : (c : Option Color) (f : ℕ → Item) (k n : ℕ) {d : Option Color} {item : Item} → d ≡ last_color c (map f (range_with_len 0 k)) → item ≡ f k → k < n
    → items_after c (map f (range_with_len 0 n)) ≡ items_after c (map f (range_with_len 0 k)) ++ (item_after d item ++ items_after (last_color c (map f (range_with_len 0 (k + 1)))) (map f (range_with_len (0 + (k + 1)) (n - (k + 1)))))
items_after-cut c f k n {d} {item} last is here =
    let all : n ≡ (k + 1) + (n - (k + 1)) = omega arith in
    let rest : List Item = map f (range_with_len (0 + (k + 1)) (n - (k + 1))) in
    ap (λ m. items_after c (map f (range_with_len 0 m))) all
    ∙ ap (λ l. items_after c (map f l)) (range-add 0 (k + 1) (n - (k + 1)))
    ∙ ap (λ l. items_after c l) (map-append f (range_with_len 0 (k + 1)) (range_with_len (0 + (k + 1)) (n - (k + 1))))
    ∙ items_after-append c (map f (range_with_len 0 (k + 1))) rest
    ∙ ap (λ t. t ++ items_after (last_color c (map f (range_with_len 0 (k + 1)))) rest) (items_after-more c f k last is)
    ∙ append_assoc (items_after c (map f (range_with_len 0 k))) (item_after d item) (items_after (last_color c (map f (range_with_len 0 (k + 1)))) rest)

-- ---- where no single glyph was set

pub lookup_offset-none : {V : Type 0} (o : Offsets V) (p : Position) (i w : ℕ) → is_offset_at o p ≡ false → lookup_offset o p i w ≡ None
unfolding is_offset_at lookup_offset
lookup_offset-none o p i w none =
    let both = or_parts (has_key (of_place p) o.from_start) (has_key (of_place p) o.from_end) none in
    let its : is_at p p.row p.col ≡ true = grind (arith, nat_tests) in
    rw (value_at-no_key glyph-laws (of_place p) (glyph_at p i) o.from_start its both.0, value_at-no_key glyph-laws (of_place p) (glyph_at p (w - i - 1)) o.from_end its both.1) refl

border_glyph-plain : (config : Config) (p : Position) (w g : ℕ) (color : Option Color) (i : ℕ) → is_overridden_horizontal config p ≡ false → border_glyph config p w g color i ≡ glyph g color None
unfolding is_overridden_horizontal
border_glyph-plain config p w g color i none =
    let both = or_parts (is_offset_at config.horizontal_chars p) (is_offset_at config.horizontal_colors p) none in
    rw (lookup_offset-none config.horizontal_chars p i w both.0, lookup_offset-none config.horizontal_colors p i w both.1) refl

map-same : {X : Type 0} (f : ℕ → X) (x : X) (a n : ℕ) → ((i : ℕ) → f i ≡ x) → map f (range_with_len a n) ≡ replicate n x
map-same f x a zero same = refl
map-same f x a (suc n) same = ap₂ (λ y l. y ∷ l) (same a) (map-same f x (a + 1) n same)

-- then all glyphs are equal
pub border_glyphs-plain : (config : Config) (p : Position) (w g : ℕ) (color : Option Color) → is_overridden_horizontal config p ≡ false
    → replicate w (glyph g color None) ≡ map (border_glyph config p w g color) (range_with_len 0 w)
border_glyphs-plain config p w g color none = sym (map-same (border_glyph config p w g color) (glyph g color None) 0 w (λ i. border_glyph-plain config p w g color i none))

-- ---- where there is no glyph

pub items_after-no_border : (c : Option Color) (config : Config) (p : Position) (rows w : ℕ) {g : Option ℕ} → g ≡ None → item_after c (spaces w) ≡ items_after c (border_items config p rows w g)
items_after-no_border c config p rows w none = sym (ap (λ g. items_after c (border_items config p rows w g)) none ∙ items_after-spaces c w)

pub last_color-no_border : (c : Option Color) (config : Config) (p : Position) (rows w : ℕ) {g : Option ℕ} → g ≡ None → c ≡ last_color c (border_items config p rows w g)
last_color-no_border c config p rows w none = sym (ap (λ g. last_color c (border_items config p rows w g)) none ∙ last_color-spaces c w)

-- ---- the items of a separator, one column after the other

-- what a column adds to a separator of a table without spans: its crossing and its horizontal
module _ (t : Table) (none : t.config.spans ≡ []) where
  pub column-items : (rows columns w : ℕ) (p : Position) → rows ≡ t.rows → columns ≡ t.columns → w ≡ t.width p.col → p.col < t.columns
      → separator_part t p.row p.col ≡ crossing_at t.config rows columns p ++ border_items t.config p rows w (get_horizontal t.config p rows)
  unfolding separator_part
  column-items rows columns w p m n v h =
      ap₂ (λ (a b : List Item). a ++ b) (crossing_plain t none p.row p.col) (column_items_plain t none p.row p.col h)
      ∙ ap₂ (λ k l. crossing_at t.config k l p ++ border_items t.config p k (t.width p.col) (get_horizontal t.config p k)) (sym m) (sym n)
      ∙ ap (λ k. crossing_at t.config rows columns p ++ border_items t.config p rows k (get_horizontal t.config p rows)) (sym v)

  -- behind the last column its crossing alone
  pub end-items : (rows columns r : ℕ) → rows ≡ t.rows → columns ≡ t.columns → separator_part t r t.columns ≡ crossing_at t.config rows columns (at r columns)
  unfolding separator_part
  end-items rows columns r m n =
      ap₂ (λ (a b : List Item). a ++ b) (crossing_plain t none r t.columns) (column_items_plain_end t none r)
      ∙ append-nil (crossing_at t.config t.rows t.columns (at r t.columns))
      ∙ ap₂ (λ k l. crossing_at t.config k l (at r l)) (sym m) (sym n)

-- the same colour under a result
pub IfOk-same : {V E : Type 0} {x y : V} → x ≡ y → (r : Result V E) → IfOk r (λ a. a ≡ x) → IfOk r (λ a. a ≡ y)
IfOk-same is (Ok v) h = h ∙ is
IfOk-same is (Err e) h = h

-- items in two parts
pub items_after-two : (c : Option Color) {all : List Item} (a b : List Item) {d : Option Color} → all ≡ a ++ b → d ≡ last_color c a → items_after c a ++ items_after d b ≡ items_after c all
items_after-two c a b is last = ap (λ e. items_after c a ++ items_after e b) last ∙ sym (items_after-append c a b) ∙ ap (λ l. items_after c l) (sym is)

pub last_color-two : (c : Option Color) {all : List Item} (a b : List Item) {d : Option Color} → all ≡ a ++ b → d ≡ last_color c a → last_color d b ≡ last_color c all
last_color-two c a b is last = ap (λ e. last_color e b) last ∙ sym (last_color-append c a b) ∙ ap (λ l. last_color c l) (sym is)

module _ (c : Option Color) (f : ℕ → List Item) where
  -- the items of k columns and of one more
  pub items_after-columns : (k : ℕ) {d : Option Color} → d ≡ last_color c (flat_map f (range_with_len 0 k))
      → items_after c (flat_map f (range_with_len 0 (k + 1))) ≡ items_after c (flat_map f (range_with_len 0 k)) ++ items_after d (f k)
  items_after-columns k {d} last =
      ap (λ l. items_after c l) (range-more f 0 k)
      ∙ items_after-append c (flat_map f (range_with_len 0 k)) (f (0 + k))
      ∙ ap (λ e. items_after c (flat_map f (range_with_len 0 k)) ++ items_after e (f (0 + k))) (sym last)
      ∙ ap (λ n. items_after c (flat_map f (range_with_len 0 k)) ++ items_after d (f n)) (zero-add k)

  pub last_color-columns : (k : ℕ) {d : Option Color} → d ≡ last_color c (flat_map f (range_with_len 0 k))
      → last_color d (f k) ≡ last_color c (flat_map f (range_with_len 0 (k + 1)))
  last_color-columns k {d} last =
      ap (λ e. last_color e (f k)) last
      ∙ sym (last_color-append c (flat_map f (range_with_len 0 k)) (f k))
      ∙ ap (λ n. last_color c (flat_map f (range_with_len 0 k) ++ f n)) (sym (zero-add k))
      ∙ sym (ap (λ l. last_color c l) (range-more f 0 k))

  -- the items of n columns, cut at one of them
  pub items_after-columns_cut : (k n : ℕ) {d : Option Color} → d ≡ last_color c (flat_map f (range_with_len 0 k)) → k < n
      → items_after c (flat_map f (range_with_len 0 n))
      ≡ items_after c (flat_map f (range_with_len 0 k)) ++ (items_after d (f k) ++ items_after (last_color c (flat_map f (range_with_len 0 (k + 1)))) (flat_map f (range_with_len (0 + (k + 1)) (n - (k + 1)))))
  items_after-columns_cut k n {d} last here =
      let all : n ≡ (k + 1) + (n - (k + 1)) = omega arith in
      let rest : List Item = flat_map f (range_with_len (0 + (k + 1)) (n - (k + 1))) in
      ap (λ m. items_after c (flat_map f (range_with_len 0 m))) all
      ∙ ap (λ l. items_after c (flat_map f l)) (range-add 0 (k + 1) (n - (k + 1)))
      ∙ ap (λ l. items_after c l) (flat_map-append f (range_with_len 0 (k + 1)) (range_with_len (0 + (k + 1)) (n - (k + 1))))
      ∙ items_after-append c (flat_map f (range_with_len 0 (k + 1))) rest
      ∙ ap (λ t. t ++ items_after (last_color c (flat_map f (range_with_len 0 (k + 1)))) rest) (items_after-columns k last)
      ∙ append_assoc (items_after c (flat_map f (range_with_len 0 k))) (items_after d (f k)) (items_after (last_color c (flat_map f (range_with_len 0 (k + 1)))) rest)

-- the items of all columns, the crossing behind them, and the end of the line
pub separator-text : (t : Table) (r : ℕ) {d e : Option Color} → d ≡ last_color None (flat_map (separator_part t r) (range_with_len 0 t.columns)) → e ≡ last_color d (separator_part t r t.columns)
    → items_after None (flat_map (separator_part t r) (range_with_len 0 t.columns)) ++ (items_after d (separator_part t r t.columns) ++ cut e None) ≡ separator_text (separator_items t r)
unfolding separator_text separator_items
separator-text t r {d} {e} last ended =
    let f = separator_part t r in
    sym (append_assoc (items_after None (flat_map f (range_with_len 0 t.columns))) (items_after d (f t.columns)) (cut e None))
    ∙ ap₂ (λ x y. x ++ cut y None) (sym (items_after-columns None f t.columns last)) (ended ∙ last_color-columns None f t.columns last)
    ∙ sym (with_cuts-close None (flat_map f (range_with_len 0 (t.columns + 1))))

-- the same after a run that begins with no colour open
pub separator-text_from : (t : Table) (r : ℕ) {o d e : Option Color} → o ≡ None → d ≡ last_color o (flat_map (separator_part t r) (range_with_len 0 t.columns)) → e ≡ last_color d (separator_part t r t.columns)
    → items_after o (flat_map (separator_part t r) (range_with_len 0 t.columns)) ++ (items_after d (separator_part t r t.columns) ++ cut e None) ≡ separator_text (separator_items t r)
separator-text_from t r {o} {d} {e} is last ended =
    ap (λ x. items_after x (flat_map (separator_part t r) (range_with_len 0 t.columns)) ++ (items_after d (separator_part t r t.columns) ++ cut e None)) is
    ∙ separator-text t r (last ∙ ap (λ x. last_color x (flat_map (separator_part t r) (range_with_len 0 t.columns))) is) ended

-- ---- where nothing was set by its place for row lines, and no cell spans rows or columns, the separators between two rows are equal

pub no-span : (spans : List Span) → (length spans == 0) ≡ true → spans ≡ []
no-span [] none = refl
no-span (s ∷ ss) none = let some : (length (s ∷ ss) == 0) ≡ false = grind (arith, nat_tests) in absurd (false≢true (sym some ∙ none))

map-each : {X Y : Type 0} (f g : X → Y) → ((x : X) → f x ≡ g x) → (xs : List X) → map f xs ≡ map g xs
map-each f g same [] = refl
map-each f g same (x ∷ xs) = ap₂ (λ y ys. y ∷ ys) (same x) (map-each f g same xs)

module _ (config : Config) (r m s n c columns : ℕ) (same : SameLines config (at r c) m (at s c) n columns) where
  pub crossing_at-same : crossing_at config m columns (at r c) ≡ crossing_at config n columns (at s c)
  unfolding crossing_at
  crossing_at-same = rw (same.crossing, same.crossing_color) refl

  border_glyph-same : (w g i : ℕ) → border_glyph config (at r c) w g (get_horizontal_color config (at r c) m) i ≡ border_glyph config (at s c) w g (get_horizontal_color config (at s c) n) i
  border_glyph-same w g i = rw (same.char i w, same.char_color i w, same.horizontal_color) refl

  border_items-same : (w : ℕ) (g : Option ℕ) → border_items config (at r c) m w g ≡ border_items config (at s c) n w g
  border_items-same w None = refl
  border_items-same w (Some g) =
      map-each (border_glyph config (at r c) w g (get_horizontal_color config (at r c) m)) (border_glyph config (at s c) w g (get_horizontal_color config (at s c) n)) (border_glyph-same w g) (range_with_len 0 w)

  pub horizontal-same : (w : ℕ) → border_items config (at r c) m w (get_horizontal config (at r c) m) ≡ border_items config (at s c) n w (get_horizontal config (at s c) n)
  horizontal-same w = border_items-same w (get_horizontal config (at r c) m) ∙ ap (border_items config (at s c) n w) same.horizontal

module _ (t : Table) (none : t.config.spans ≡ []) (equal : has_equal_row_lines t.config ≡ true) (r s : ℕ) (inner_r : IsInner r t.rows) (inner_s : IsInner s t.rows) where
  lines : (x : ℕ) → SameLines t.config (at r x) t.rows (at s x) t.rows t.columns
  lines x = inner_lines t.config equal r t.rows s t.rows inner_r inner_s x t.columns

  column_items-same : (x : ℕ) → column_items t r x ≡ column_items t s x
  unfolding column_items
  column_items-same x =
      rw (covered_plain t none r x, covered_plain t none s x)
      (ap (λ (items : List Item). if nat_lt x t.columns then items else []) (horizontal-same t.config r t.rows s t.rows x t.columns (lines x) (t.width x)))

  separator_part-same : (x : ℕ) → separator_part t r x ≡ separator_part t s x
  unfolding separator_part
  separator_part-same x =
      ap₂ (λ (a b : List Item). a ++ b) (rw (crossing_plain t none r x, crossing_plain t none s x) (crossing_at-same t.config r t.rows s t.rows x t.columns (lines x))) (column_items-same x)

  pub equal_separators : separator_items t r ≡ separator_items t s
  unfolding separator_items
  equal_separators = flat_map-same (separator_part t r) (separator_part t s) 0 (t.columns + 1) (λ x from to. separator_part-same x)

-- where a configuration says that they are
pub equal_when : (config : Config) {is : Bool} → is ≡ ((length config.spans == 0) && has_equal_row_lines config) → is ≡ true → (config.spans ≡ []) × (has_equal_row_lines config ≡ true)
equal_when config said is =
    let parts = and_parts (length config.spans == 0) (has_equal_row_lines config) (sym said ∙ is) in
    (no-span config.spans parts.0, parts.1)

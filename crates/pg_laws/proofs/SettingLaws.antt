-- What getters return after a border, a row line, the glyphs of a line or a span is set.
use Rattle.std.proofs.Common.{◌≡◌, ℕ, Bool, true, false, ◌&&◌, ◌||◌, ◌==◌, nat_lt, List, [], ◌∷◌, refl, sym, ap, ◌∙◌, arith, None, if◌then◌else◌, inl, inr, zero, suc, ◌+◌, ◌<◌, ◌≤◌, max, length, All, slice_index_or, ◌-◌, ◌^◌, Option, Some}
use Rattle.std.specs.Prelude.{not, find, is_some}
use Rattle.std.specs.List.{list_any, list_all, AllPairs, fold}
use Rattle.std.proofs.lemmas.Bool.{cases_Bool, and_parts, or_parts, and_from}
use Rattle.std.proofs.lemmas.Bool.Decides.{nat_tests}
use Rattle.pg_layout.proofs.KeyedPlaces.{columns-laws, value_at-with_place, value_at-without_place, place-laws, IsOrder, same-is_at}
use Rattle.pg_config.specs.declared.spans.SpanSize.{SpanSize}
use Rattle.pg_layout.specs.declared.position.ColumnPlace.{ColumnPlace}
use Rattle.pg_layout.specs.Keys.{by_columns, column_place, Order, by_place, in_row, in_column, by_number}
use Rattle.pg_layout.specs.declared.position.Position.{Position}
use Rattle.pg_layout.specs.Places.{same, before, with_place, without_place, Each, IsAscending, value_at, with_some, has_key}
use Rattle.pg_layout.specs.Position.{at, is_at}
use Rattle.pg_config.specs.Spans.{Span, corner, size_of, rect_rows, rect_columns, with_size, with_column_span, with_row_span, unless_one, get_column_span, get_row_span, in_span, corner_or, owner, is_covered_by_column, is_covered_by_row, is_covered_by_both, is_visible, span_size}
use Rattle.pg_config.proofs.Lookups.{or_swap, value_at-with_some, any-with_some, glyph-laws, only_if_is, any-with_place}
use Rattle.pg_laws.specs.SettingLaws.{others, is_held, is_held_before, AnswersSpan, AColumnSpanIsAnswered, ARowSpanIsAnswered, border_horizontal, border_vertical, border_crossing, border_row, border_column, ABorderHasItsParts, ABorderOverridesItsPlaces, ABorderIsAnswered, ABorderOfColorsIsAnswered, RowLineHorizontals, RowLineCrossings, RowLineVerticals, AStartIsAnswered, AnEndIsAnswered, AnOffsetMarksItsPlace, sets_padding_color, sets_justification, sets_offset, sets_border_color, WhatWasSetIsTold, NothingWasSetAtFirst}
use Rattle.std.proofs.lemmas.List.Sums.{AllPass-from_list_all, list_all-from_AllPass}
use Rattle.pg_picture.specs.Fits.{are_apart, all_apart, span_fits, spans_fit}
use Rattle.pg_laws.specs.Laws.{ShareNoPlace, SpansFitByPlaces}
use Rattle.std.specs.Option.{option_or}
use Rattle.pg_layout.specs.declared.borders.Border.{Border}
use Rattle.pg_layout.specs.Borders.{horizontal_glyph, vertical_glyph, crossing_glyph}
use Rattle.pg_config.specs.Overrides.{Overrides, on_lines, with_round, with_border, has_crossing, horizontal_override, vertical_override, crossing_override, overrides_row, overrides_column, with_row, line_crossing, with_row_line}
use Rattle.pg_config.specs.Config.{Config, missing_if, has_horizontal, has_vertical, get_horizontal, get_vertical, get_intersection, get_horizontal_color, get_vertical_color, get_intersection_color, default_config, has_padding_color, has_justification, has_offset_chars}
use Rattle.std.proofs.Math.Bool.{or_assoc, or-true}
use Rattle.pg_config.specs.declared.offsets.GlyphPlace.{GlyphPlace}
use Rattle.pg_layout.specs.declared.sides.Offset.TheVariants.{Start, End}
use Rattle.pg_config.specs.Offsets.{by_glyph, glyph_at, of_place, with_offset, lookup_offset, is_offset_at, Offsets, has_offsets}
use Rattle.pg_layout.specs.declared.position.Entity.{Entity}
use Rattle.pg_layout.specs.declared.position.Entity.TheVariants.{Global, Row, Column, Cell}
use Rattle.pg_layout.specs.declared.sides.Offset.{Offset}
use Rattle.pg_config.specs.Settings.{Settings, has_some, next_number, with_setting, is_set}
use Rattle.pg_laws.specs.SettingLaws.{Setter, set_padding_color, set_justification, set_justification_color, set_borders_color, set_border_color, set_horizontal_char, set_horizontal_color, set_vertical_char, set_vertical_color, after}
use Rattle.pg_config.proofs.SettingsLaw.{setting_of-with_setting}

-- ---- what sizes and owners there are after the span of a cell is set, place by place

-- ---- what sizes and owners there are after the span of a cell is set

-- ---- sizes

one-size : (size : SpanSize) → ((size.rows == 1) && (size.columns == 1)) ≡ true → size ≡ span_size 1 1
one-size size h = grind (arith, nat_tests, h)

size-after : (p : Position) (size : SpanSize) (old : List Span) (q : Position) → size_of (with_size p size old) q ≡ (if is_at q p.row p.col then size else size_of old q)
unfolding size_of with_size
size-after p size old q =
    elim (cases_Bool ((size.rows == 1) && (size.columns == 1))) [
      | inl one ↦ rw (one, value_at-without_place columns-laws (column_place q) (column_place p) old)
          (elim (cases_Bool (is_at q p.row p.col)) [
            | inl y ↦ let here : same by_columns (column_place q) (column_place p) ≡ true = grind (arith, nat_tests, y) in rw (here, y, one-size size one) refl
            | inr n ↦ let away : same by_columns (column_place q) (column_place p) ≡ false = grind (arith, nat_tests, n) in rw (away, n) refl
          ])
      | inr more ↦ rw (more, value_at-with_place columns-laws (column_place q) (column_place p) size old)
          (elim (cases_Bool (is_at q p.row p.col)) [
            | inl y ↦ let here : same by_columns (column_place p) (column_place q) ≡ true = grind (arith, nat_tests, y) in rw (here, y) refl
            | inr n ↦ let away : same by_columns (column_place p) (column_place q) ≡ false = grind (arith, nat_tests, n) in rw (away, n) refl
          ])
    ]

-- a choice goes through
through : {A B : Type 0} (f : A → B) (b : Bool) (x y : A) → f (if b then x else y) ≡ (if b then f x else f y)
through f true x y = refl
through f false x y = refl

-- ---- owners

module _ (k : ColumnPlace) (holds : Span → Bool) (itself : Position) where
  abbrev earlier : List Span → Bool
  earlier es = list_any (λ s. before by_columns s.0 k && holds s) es

  -- entries that all come after the key
  all-later : (es : List Span) (e : Span) → Each (λ f. before by_columns e.0 f.0 ≡ true) es → before by_columns e.0 k ≡ false → (earlier es ≡ false) × (without_place by_columns k es ≡ es)
  all-later [] e up w = (refl, refl)
  all-later (f ∷ es) e up w =
      let later : before by_columns f.0 k ≡ false = grind (arith, nat_tests, up.0, w) in
      let other : same by_columns f.0 k ≡ false = grind (arith, nat_tests, up.0, w) in
      let more = all-later es e up.1 w in
      (rw later more.0, rw other (ap (λ z. f ∷ z) more.1))

  owner-with : (size : SpanSize) (es : List Span) → IsAscending by_columns es → corner_or itself (find holds (with_place by_columns k size es)) ≡ (if holds (k, size) && not (earlier es) then corner (k, size) else corner_or itself (find holds (without_place by_columns k es)))
  owner-with size [] up = elim (cases_Bool (holds (k, size))) [ inl y ↦ rw y refl | inr n ↦ rw n refl ]
  owner-with size (e ∷ es) up =
      elim (cases_Bool (before by_columns e.0 k)) [
        | inl y ↦
            let other : same by_columns e.0 k ≡ false = grind (arith, nat_tests, y) in
            elim (cases_Bool (holds e)) [
              | inl here ↦ rw (y, other, here) (elim (cases_Bool (holds (k, size))) [ inl a ↦ rw a refl | inr b ↦ rw b refl ])
              | inr away ↦ rw (y, other, away) (owner-with size es up.1)
            ]
        | inr n ↦
            let later = all-later es e up.0 n in
            elim (cases_Bool (same by_columns e.0 k)) [
              | inl s ↦ rw (n, s, later.0, later.1) (elim (cases_Bool (holds (k, size))) [ inl a ↦ rw a refl | inr b ↦ rw b refl ])
              | inr o ↦ rw (n, o, later.0, later.1) (elim (cases_Bool (holds (k, size))) [ inl a ↦ rw a refl | inr b ↦ rw b refl ])
            ]
      ]

  -- where no other entry holds a place
  none-earlier : (es : List Span) → list_any holds (without_place by_columns k es) ≡ false → earlier es ≡ false
  none-earlier [] h = refl
  none-earlier (e ∷ es) h =
      elim (cases_Bool (same by_columns e.0 k)) [
        | inl s ↦
            let later : before by_columns e.0 k ≡ false = grind (arith, nat_tests, s) in
            rw later (none-earlier es (rw s at h))
        | inr o ↦
            let parts = or_parts (holds e) (list_any holds (without_place by_columns k es)) (rw o at h) in
            elim (cases_Bool (before by_columns e.0 k)) [ inl y ↦ rw (y, parts.0) (none-earlier es parts.1) | inr n ↦ rw n (none-earlier es parts.1) ]
      ]

  none-found : (es : List Span) → list_any holds es ≡ false → find holds es ≡ None
  none-found [] h = refl
  none-found (e ∷ es) h = let parts = or_parts (holds e) (list_any holds es) h in rw parts.0 (none-found es parts.1)

-- a test of entries holds somewhere after an entry is put in its place if it holds at the new one or at another
any-with : (k : ColumnPlace) (test : Span → Bool) (size : SpanSize) (es : List Span) → IsAscending by_columns es → list_any test (with_place by_columns k size es) ≡ (test (k, size) || list_any test (without_place by_columns k es))
any-with k test size [] up = refl
any-with k test size (e ∷ es) up =
    elim (cases_Bool (before by_columns e.0 k)) [
      | inl y ↦
          let other : same by_columns e.0 k ≡ false = grind (arith, nat_tests, y) in
          rw (y, other) (ap (λ b. test e || b) (any-with k test size es up.1) ∙ or_swap (test e) (test (k, size)) (list_any test (without_place by_columns k es)))
      | inr n ↦
          let later = all-later k test (at 0 0) es e up.0 n in
          elim (cases_Bool (same by_columns e.0 k)) [ inl s ↦ rw (n, s, later.1) refl | inr o ↦ rw (n, o, later.1) refl ]
    ]

-- a place that no earlier rectangle holds, and that is p, has no other owner: a later rectangle begins after it
owner-itself : (p : Position) (r c : ℕ) → r ≡ p.row → c ≡ p.col → (es : List Span) → is_held_before p es (at r c) ≡ false → corner_or (at r c) (find (in_span r c) (others p es)) ≡ p
owner-itself p r c is_row is_col [] h = ap (λ n. at n c) is_row ∙ ap (λ n. at p.row n) is_col
owner-itself p r c is_row is_col (e ∷ es) h =
    let parts = or_parts (before by_columns e.0 (column_place p) && in_span r c e) (is_held_before p es (at r c)) h in
    elim (cases_Bool (same by_columns e.0 (column_place p))) [
      | inl s ↦ rw s (owner-itself p r c is_row is_col es parts.1)
      | inr o ↦ elim (cases_Bool (in_span r c e)) [
        | inl here ↦
            let later = parts.0 in
            let row : e.0.row ≡ p.row = grind (arith, nat_tests, here, later, is_row, is_col) in
            let col : e.0.col ≡ p.col = grind (arith, nat_tests, here, later, is_row, is_col) in
            rw (o, here) (ap (λ n. at n e.0.col) row ∙ ap (λ n. at p.row n) col)
        | inr away ↦ rw (o, away) (owner-itself p r c is_row is_col es parts.1)
      ]
    ]

module _ (p : Position) (size : SpanSize) (old : List Span) (r c : ℕ) (up : IsAscending by_columns old) where
  owner-after : owner (with_size p size old) r c ≡ (if in_span r c (column_place p, size) && not (is_held_before p old (at r c)) then p else owner (others p old) r c)
  unfolding owner with_size
  owner-after =
      elim (cases_Bool ((size.rows == 1) && (size.columns == 1))) [
        | inl one ↦ rw one (elim (cases_Bool (in_span r c (column_place p, size) && not (is_held_before p old (at r c)))) [
          | inl y ↦ rw y (alone-there one (and_parts (in_span r c (column_place p, size)) (not (is_held_before p old (at r c))) y))
          | inr n ↦ rw n refl
        ])
        | inr more ↦ rw more (owner-with (column_place p) (in_span r c) (at r c) size old up)
      ]
    where
      alone-there : ((size.rows == 1) && (size.columns == 1)) ≡ true → (in_span r c (column_place p, size) ≡ true) × (not (is_held_before p old (at r c)) ≡ true) → corner_or (at r c) (find (in_span r c) (others p old)) ≡ p
      alone-there one (inside, free) =
          let row : r ≡ p.row = grind (arith, nat_tests, one, inside) in
          let col : c ≡ p.col = grind (arith, nat_tests, one, inside) in
          let none : is_held_before p old (at r c) ≡ false = grind (arith, free) in
          owner-itself p r c row col old none

  owner-alone : is_held (others p old) (at r c) ≡ false → owner (with_size p size old) r c ≡ (if in_span r c (column_place p, size) then p else at r c)
  unfolding owner
  owner-alone none =
      let no_earlier = none-earlier (column_place p) (in_span r c) (at r c) old none in
      let not_found = none-found (column_place p) (in_span r c) (at r c) (others p old) none in
      owner-after ∙ rw (no_earlier, not_found) (elim (cases_Bool (in_span r c (column_place p, size))) [ inl y ↦ rw y refl | inr n ↦ rw n refl ])

-- ---- what is visible

-- a rectangle that begins elsewhere holds the place
abbrev covers : Position → Span → Bool
covers q s = not (is_at (corner s) q.row q.col) && in_span q.row q.col s

-- as its first, its second and its third kind do
abbrev by_column : Position → Span → Bool
by_column q s = ((s.0.row == q.row) && nat_lt s.0.col q.col) && in_span q.row q.col s

abbrev by_row : Position → Span → Bool
by_row q s = ((s.0.col == q.col) && nat_lt s.0.row q.row) && in_span q.row q.col s

abbrev by_both : Position → Span → Bool
by_both q s = (nat_lt s.0.row q.row && nat_lt s.0.col q.col) && in_span q.row q.col s

covers-kinds : (q : Position) (s : Span) → (by_column q s || (by_row q s || by_both q s)) ≡ covers q s
covers-kinds q s = elim (cases_Bool (covers q s)) [ inl y ↦ grind (arith, nat_tests, y) | inr n ↦ grind (arith, nat_tests, n) ]

three : (a b c x y z : Bool) → ((a || x) || ((b || y) || (c || z))) ≡ ((a || (b || c)) || (x || (y || z)))
three true b c x y z = refl
three false b c x y z = grind arith

covers-any : (q : Position) (es : List Span) → (list_any (by_column q) es || (list_any (by_row q) es || list_any (by_both q) es)) ≡ list_any (covers q) es
covers-any q [] = refl
covers-any q (e ∷ es) =
    three (by_column q e) (by_row q e) (by_both q e) (list_any (by_column q) es) (list_any (by_row q) es) (list_any (by_both q) es)
    ∙ ap (λ b. b || (list_any (by_column q) es || (list_any (by_row q) es || list_any (by_both q) es))) (covers-kinds q e)
    ∙ ap (λ b. covers q e || b) (covers-any q es)

visible-is : (spans : List Span) (q : Position) → is_visible spans q ≡ not (list_any (covers q) spans)
unfolding is_visible is_covered_by_column is_covered_by_row is_covered_by_both
visible-is spans q = ap not (covers-any q spans)

module _ (p : Position) (size : SpanSize) (q : Position) where
  uncovered : not (covers q (column_place p, size)) ≡ (is_at q p.row p.col || not (in_span q.row q.col (column_place p, size)))
  uncovered = elim (cases_Bool (in_span q.row q.col (column_place p, size))) [
    | inl y ↦ rw y (elim (cases_Bool (is_at q p.row p.col)) [ inl here ↦ rw here (grind (arith, nat_tests, here)) | inr away ↦ rw away (grind (arith, nat_tests, away)) ])
    | inr n ↦ rw n (grind arith)
  ]

  one-uncovered : ((size.rows == 1) && (size.columns == 1)) ≡ true → (is_at q p.row p.col || not (in_span q.row q.col (column_place p, size))) ≡ true
  one-uncovered one = elim (cases_Bool (is_at q p.row p.col)) [
    | inl here ↦ rw here refl
    | inr away ↦ let outside : in_span q.row q.col (column_place p, size) ≡ false = grind (arith, nat_tests, one, away) in rw (away, outside) refl
  ]

  not-or : (a b : Bool) → not (a || b) ≡ (not a && not b)
  not-or true b = refl
  not-or false b = refl

  covers-after : (old : List Span) → IsAscending by_columns old → is_visible (with_size p size old) q ≡ ((is_at q p.row p.col || not (in_span q.row q.col (column_place p, size))) && is_visible (others p old) q)
  unfolding with_size
  covers-after old up =
      visible-is (with_size p size old) q ∙ elim (cases_Bool ((size.rows == 1) && (size.columns == 1))) [
        | inl one ↦ rw (one, one-uncovered one) (sym (visible-is (others p old) q))
        | inr more ↦ rw (more, visible-is (others p old) q, any-with (column_place p) (covers q) size old up)
            (not-or (covers q (column_place p, size)) (list_any (covers q) (others p old)) ∙ ap (λ b. b && not (list_any (covers q) (others p old))) uncovered)
      ]

-- ---- all answers

answers : (p : Position) (rows columns : ℕ) (old : List Span) (q : Position) → IsAscending by_columns old → AnswersSpan p rows columns old (with_size p (span_size rows columns) old) q
unfolding rect_rows rect_columns get_row_span get_column_span
answers p rows columns old q up =
    let here = is_at q p.row p.col in
    let is = size-after p (span_size rows columns) old q in
    let rows_are = ap (λ (s : SpanSize). s.rows) is ∙ through (λ (s : SpanSize). s.rows) here (span_size rows columns) (size_of old q) in
    let columns_are = ap (λ (s : SpanSize). s.columns) is ∙ through (λ (s : SpanSize). s.columns) here (span_size rows columns) (size_of old q) in
    record {
      rows_of = rows_are;
      columns_of = columns_are;
      row_span = ap (λ n. unless_one n) rows_are ∙ through (λ n. unless_one n) here rows (size_of old q).rows;
      column_span = ap (λ n. unless_one n) columns_are ∙ through (λ n. unless_one n) here columns (size_of old q).columns;
      owner_of = owner-after p (span_size rows columns) old q.row q.col up;
      alone = owner-alone p (span_size rows columns) old q.row q.col up;
      visible = covers-after p (span_size rows columns) q old up;
    }

pub column_span : AColumnSpanIsAnswered
unfolding with_column_span
column_span p n old q up = answers p (rect_rows old p) n old q up

pub row_span : ARowSpanIsAnswered
unfolding with_row_span
row_span p n old q up = answers p n (rect_columns old p) old q up

-- ---- the test of spans, place by place

abbrev HasSize : Span → Type 0
HasSize s = (0 < s.1.rows) × (0 < s.1.columns)

abbrev EndsInside : ℕ → ℕ → Span → Type 0
EndsInside rows columns s = (s.0.row + s.1.rows ≤ rows) × (s.0.col + s.1.columns ≤ columns)

apart_shares_none : (s t : Span) → are_apart s t ≡ true → ShareNoPlace s t
apart_shares_none s t h r c hs ht = grind (arith, nat_tests, h, hs, ht)

-- rectangles that aren't apart share the place of the greater row and the greater column
shared : (s t : Span) → HasSize s → HasSize t → are_apart s t ≡ false → (in_span (max s.0.row t.0.row) (max s.0.col t.0.col) s ≡ true) × (in_span (max s.0.row t.0.row) (max s.0.col t.0.col) t ≡ true)
shared s t hs ht h = (grind (arith, nat_tests, hs.0, hs.1, ht.0, ht.1, h), grind (arith, nat_tests, hs.0, hs.1, ht.0, ht.1, h))

apart_from_places : (s t : Span) → HasSize s → HasSize t → ShareNoPlace s t → are_apart s t ≡ true
apart_from_places s t hs ht none =
    elim (cases_Bool (are_apart s t)) [
      | inl y ↦ y
      | inr n ↦ let both = shared s t hs ht n in absurd (none (max s.0.row t.0.row) (max s.0.col t.0.col) both.0 both.1)
    ]

apart_at : (s : Span) (ss : List Span) (j : ℕ) (d : Span) → list_all (are_apart s) ss ≡ true → j < length ss → ShareNoPlace s (slice_index_or ss j d)
apart_at s [] j d h l = absurd (omega (arith, l))
apart_at s (t ∷ ts) zero d h l = apart_shares_none s t (and_parts (are_apart s t) (list_all (are_apart s) ts) h).0
apart_at s (t ∷ ts) (suc j) d h l = apart_at s ts j d (and_parts (are_apart s t) (list_all (are_apart s) ts) h).1 (omega (arith, l))

places_from_test : (ss : List Span) → all_apart ss ≡ true → AllPairs ShareNoPlace ss
places_from_test [] h i j d l m = absurd (omega (arith, m))
places_from_test (s ∷ ss) h zero zero d l m = absurd (omega (arith, l))
places_from_test (s ∷ ss) h (suc i) zero d l m = absurd (omega (arith, l))
places_from_test (s ∷ ss) h zero (suc j) d l m = apart_at s ss j d (and_parts (list_all (are_apart s) ss) (all_apart ss) h).0 (omega (arith, m))
places_from_test (s ∷ ss) h (suc i) (suc j) d l m = places_from_test ss (and_parts (list_all (are_apart s) ss) (all_apart ss) h).1 i j d (omega (arith, l)) (omega (arith, m))

all_apart_from : (s : Span) (ss : List Span) → HasSize s → All HasSize ss → ((j : ℕ) (d : Span) → j < length ss → ShareNoPlace s (slice_index_or ss j d)) → list_all (are_apart s) ss ≡ true
all_apart_from s [] one all none = refl
all_apart_from s (t ∷ ts) one all none =
    and_from (are_apart s t) (list_all (are_apart s) ts) (apart_from_places s t one (all 0 t (omega arith)) (none 0 t (omega arith))) (all_apart_from s ts one (λ k d l. all (suc k) d (omega (arith, l))) (λ j d l. none (suc j) d (omega (arith, l))))

test_from_places : (ss : List Span) → All HasSize ss → AllPairs ShareNoPlace ss → all_apart ss ≡ true
test_from_places [] all apart = refl
test_from_places (s ∷ ss) all apart =
    and_from (list_all (are_apart s) ss) (all_apart ss)
    (all_apart_from s ss (all 0 s (omega arith)) (λ k d l. all (suc k) d (omega (arith, l))) (λ j d l. apart 0 (suc j) d (omega arith) (omega (arith, l))))
    (test_from_places ss (λ k d l. all (suc k) d (omega (arith, l))) (λ i j d l m. apart (suc i) (suc j) d (omega (arith, l)) (omega (arith, m))))

module _ (rows columns : ℕ) where
  facts : (s : Span) → span_fits rows columns s ≡ true → HasSize s × EndsInside rows columns s
  facts s h = ((grind (arith, nat_tests, h), grind (arith, nat_tests, h)), (grind (arith, nat_tests, h), grind (arith, nat_tests, h)))

  test : (s : Span) → HasSize s → EndsInside rows columns s → span_fits rows columns s ≡ true
  test s a b = grind (arith, nat_tests, a.0, a.1, b.0, b.1)

  sizes_of : (ss : List Span) → list_all (span_fits rows columns) ss ≡ true → All HasSize ss
  sizes_of ss h k d l = (facts (slice_index_or ss k d) (AllPass-from_list_all (span_fits rows columns) ss h k d l)).0

  ends_of : (ss : List Span) → list_all (span_fits rows columns) ss ≡ true → All (EndsInside rows columns) ss
  ends_of ss h k d l = (facts (slice_index_or ss k d) (AllPass-from_list_all (span_fits rows columns) ss h k d l)).1

  tests_of : (ss : List Span) → All HasSize ss → All (EndsInside rows columns) ss → list_all (span_fits rows columns) ss ≡ true
  tests_of ss a b = list_all-from_AllPass (span_fits rows columns) ss (λ k d l. test (slice_index_or ss k d) (a k d l) (b k d l))

pub spans_fit_by_places : SpansFitByPlaces
unfolding spans_fit
spans_fit_by_places spans rows columns = (
  λ h. let p = and_parts (list_all (span_fits rows columns) spans) (all_apart spans) h in record { sizes = sizes_of rows columns spans p.0; inside = ends_of rows columns spans p.0; apart = places_from_test spans p.1 },
  λ f. and_from (list_all (span_fits rows columns) spans) (all_apart spans) (tests_of rows columns spans f.sizes f.inside) (test_from_places spans f.sizes f.apart),
)

-- ---- what getters return after a border, a row line or the glyphs of a line are set

-- ---- what places are overridden with, and what they answer, after the border of a cell is set

-- ---- overrides

-- the test of a key is that of a place
with_some-is : {K V : Type 0} {order : Order K} (is : IsOrder order) (q k : K) (here : Bool) (v : Option V) (es : List (K × V)) → same order k q ≡ here → value_at order q (with_some order k v es) ≡ option_or (if here then v else None) (value_at order q es)
with_some-is is q k true v es at_it = value_at-with_some is q k v es ∙ rw at_it refl
with_some-is is q k false v es at_it = value_at-with_some is q k v es ∙ rw at_it refl

-- the tests of a place and of its key
at-key : (q : Position) (r c : ℕ) → same by_place (at r c) q ≡ is_at q r c
at-key q r c = elim (cases_Bool (is_at q r c)) [ inl y ↦ grind (arith, nat_tests, y) | inr n ↦ grind (arith, nat_tests, n) ]

-- that of a vertical stands by column and row
at-turned : (q : Position) (r c : ℕ) → same by_columns (column_place (at r c)) (column_place q) ≡ is_at q r c
at-turned q r c = elim (cases_Bool (is_at q r c)) [ inl y ↦ grind (arith, nat_tests, y) | inr n ↦ grind (arith, nat_tests, n) ]

-- the latest of some values counts, and at most one of them has the place
module _ {V : Type 0} (old : Option V) where
  two : (a b : Bool) (x y : Option V) → (a && b) ≡ false → option_or (if b then y else None) (option_or (if a then x else None) old) ≡ option_or (if a then x else if b then y else None) old
  two true true x y apart = absurd (grind (arith, apart))
  two true false x y apart = refl
  two false b x y apart = refl

  four : (a b c d : Bool) (x y z w : Option V) → (a && b) ≡ false → (a && c) ≡ false → (a && d) ≡ false → (b && c) ≡ false → (b && d) ≡ false → (c && d) ≡ false → option_or (if d then w else None) (option_or (if c then z else None) (option_or (if b then y else None) (option_or (if a then x else None) old))) ≡ option_or (if a then x else if b then y else if c then z else if d then w else None) old
  four true b c d x y z w ab ac ad bc bd cd = rw (ab, ac, ad) refl
  four false true c d x y z w ab ac ad bc bd cd = rw (bc, bd) refl
  four false false true d x y z w ab ac ad bc bd cd = rw cd refl
  four false false false d x y z w ab ac ad bc bd cd = refl

-- the places round the cell at p have these values
abbrev round : {G : Type 0} → Position → Border G → Overrides G → Overrides G
round p b o = with_round p (p.row + 1) (p.col + 1) b o

module _ {G : Type 0} (p : Position) (b : Border G) (o : Overrides G) (q : Position) where
  border_overrides-horizontal : horizontal_override (round p b o) q ≡ option_or (border_horizontal p b q) (horizontal_override o q)
  unfolding horizontal_override
  border_overrides-horizontal =
      with_some-is place-laws _ _ _ b.bottom _ (at-key q (p.row + 1) p.col)
      ∙ ap (λ old. option_or (if is_at q (p.row + 1) p.col then b.bottom else None) old) (with_some-is place-laws _ _ _ b.top o.horizontals (at-key q p.row p.col))
      ∙ two _ (is_at q p.row p.col) (is_at q (p.row + 1) p.col) b.top b.bottom (grind (arith, nat_tests))

  border_overrides-vertical : vertical_override (round p b o) q ≡ option_or (border_vertical p b q) (vertical_override o q)
  unfolding vertical_override
  border_overrides-vertical =
      with_some-is columns-laws _ _ _ b.right _ (at-turned q p.row (p.col + 1))
      ∙ ap (λ old. option_or (if is_at q p.row (p.col + 1) then b.right else None) old) (with_some-is columns-laws _ _ _ b.left o.verticals (at-turned q p.row p.col))
      ∙ two _ (is_at q p.row p.col) (is_at q p.row (p.col + 1)) b.left b.right (grind (arith, nat_tests))

  border_overrides-crossing : crossing_override (round p b o) q ≡ option_or (border_crossing p b q) (crossing_override o q)
  unfolding crossing_override
  border_overrides-crossing =
      with_some-is place-laws _ _ _ b.bottom_right _ (at-key q (p.row + 1) (p.col + 1))
      ∙ ap (λ old. option_or (if is_at q (p.row + 1) (p.col + 1) then b.bottom_right else None) old)
      (with_some-is place-laws _ _ _ b.bottom_left _ (at-key q (p.row + 1) p.col)
      ∙ ap (λ old. option_or (if is_at q (p.row + 1) p.col then b.bottom_left else None) old)
      (with_some-is place-laws _ _ _ b.top_right _ (at-key q p.row (p.col + 1))
      ∙ ap (λ old. option_or (if is_at q p.row (p.col + 1) then b.top_right else None) old)
      (with_some-is place-laws _ _ _ b.top_left o.crossings (at-key q p.row p.col))))
      ∙ four _ (is_at q p.row p.col) (is_at q p.row (p.col + 1)) (is_at q (p.row + 1) p.col) (is_at q (p.row + 1) (p.col + 1)) b.top_left b.top_right b.bottom_left b.bottom_right (grind (arith, nat_tests)) (grind (arith, nat_tests)) (grind (arith, nat_tests)) (grind (arith, nat_tests)) (grind (arith, nat_tests)) (grind (arith, nat_tests))

pub border_overrides : {G : Type 0} → ABorderOverridesItsPlaces G
unfolding with_border
border_overrides p b old q = record {
  horizontal = border_overrides-horizontal p (on_lines p b) old q;
  vertical = border_overrides-vertical p (on_lines p b) old q;
  crossing = border_overrides-crossing p (on_lines p b) old q;
}

-- ---- lines

-- the values for a line: of its horizontals or verticals, and of its crossings
row-shuffle : (top bottom : Bool) (t u tl tr bl br lines crossings : Bool) → (top && bottom) ≡ false → (((bottom && u) || ((top && t) || lines)) || ((bottom && br) || ((bottom && bl) || ((top && tr) || ((top && tl) || crossings))))) ≡ (((top && (t || (tl || tr))) || (bottom && (u || (bl || br)))) || (lines || crossings))
row-shuffle true true t u tl tr bl br lines crossings apart = absurd (grind (arith, apart))
row-shuffle true false t u tl tr bl br lines crossings apart = grind arith
row-shuffle false true t u tl tr bl br lines crossings apart = grind arith
row-shuffle false false t u tl tr bl br lines crossings apart = refl

column-shuffle : (left right : Bool) (l r tl tr bl br lines crossings : Bool) → (left && right) ≡ false → (((right && r) || ((left && l) || lines)) || ((right && br) || ((left && bl) || ((right && tr) || ((left && tl) || crossings))))) ≡ (((left && (l || (tl || bl))) || (right && (r || (tr || br)))) || (lines || crossings))
column-shuffle true true l r tl tr bl br lines crossings apart = absurd (grind (arith, apart))
column-shuffle true false l r tl tr bl br lines crossings apart = grind arith
column-shuffle false true l r tl tr bl br lines crossings apart = grind arith
column-shuffle false false l r tl tr bl br lines crossings apart = refl

module _ {G : Type 0} (p : Position) (b : Border G) (o : Overrides G) where
  row-said : (r : ℕ) → overrides_row (round p b o) r ≡ (border_row p b r || overrides_row o r)
  unfolding overrides_row
  row-said r =
      rw (row-some (p.row + 1) p.col b.bottom (with_some by_place p b.top o.horizontals), row-some p.row p.col b.top o.horizontals, row-some (p.row + 1) (p.col + 1) b.bottom_right (with_some by_place (at (p.row + 1) p.col) b.bottom_left (with_some by_place (at p.row (p.col + 1)) b.top_right (with_some by_place p b.top_left o.crossings))), row-some (p.row + 1) p.col b.bottom_left (with_some by_place (at p.row (p.col + 1)) b.top_right (with_some by_place p b.top_left o.crossings)), row-some p.row (p.col + 1) b.top_right (with_some by_place p b.top_left o.crossings), row-some p.row p.col b.top_left o.crossings)
      (row-shuffle (p.row == r) (p.row + 1 == r) (is_some b.top) (is_some b.bottom) (is_some b.top_left) (is_some b.top_right) (is_some b.bottom_left) (is_some b.bottom_right) (has_key (in_row r) o.horizontals) (has_key (in_row r) o.crossings) (grind (arith, nat_tests)))
    where
      row-some : (a c : ℕ) (v : Option G) (es : List (Position × G)) → has_key (in_row r) (with_some by_place (at a c) v es) ≡ (((a == r) && is_some v) || has_key (in_row r) es)
      row-some a c v es = any-with_some place-laws (in_row r) (at a c) v es

  column-said : (c : ℕ) → overrides_column (round p b o) c ≡ (border_column p b c || overrides_column o c)
  unfolding overrides_column
  column-said c =
      rw (first-some (p.col + 1) p.row b.right (with_some by_columns (column_place p) b.left o.verticals), first-some p.col p.row b.left o.verticals, second-some (p.row + 1) (p.col + 1) b.bottom_right (with_some by_place (at (p.row + 1) p.col) b.bottom_left (with_some by_place (at p.row (p.col + 1)) b.top_right (with_some by_place p b.top_left o.crossings))), second-some (p.row + 1) p.col b.bottom_left (with_some by_place (at p.row (p.col + 1)) b.top_right (with_some by_place p b.top_left o.crossings)), second-some p.row (p.col + 1) b.top_right (with_some by_place p b.top_left o.crossings), second-some p.row p.col b.top_left o.crossings)
      (column-shuffle (p.col == c) (p.col + 1 == c) (is_some b.left) (is_some b.right) (is_some b.top_left) (is_some b.top_right) (is_some b.bottom_left) (is_some b.bottom_right) (has_key (in_column c) o.verticals) (has_crossing c o.crossings) (grind (arith, nat_tests)))
    where
      first-some : (a d : ℕ) (v : Option G) (es : List (ColumnPlace × G)) → has_key (in_column c) (with_some by_columns (column_place (at d a)) v es) ≡ (((a == c) && is_some v) || has_key (in_column c) es)
      first-some a d v es = any-with_some columns-laws (in_column c) (column_place (at d a)) v es

      second-some : (a d : ℕ) (v : Option G) (es : List (Position × G)) → has_crossing c (with_some by_place (at a d) v es) ≡ (((d == c) && is_some v) || has_crossing c es)
      second-some a d v es = any-with_some place-laws (λ p. p.col == c) (at a d) v es

-- ---- glyphs

or-same : {V : Type 0} (m : Option V) → option_or m m ≡ m
or-same None = refl
or-same (Some v) = refl

or-right : (a b : Bool) → b ≡ true → (a || b) ≡ true
or-right true b h = refl
or-right false b h = h

-- the missing glyph stays where it stands on fewer conditions
missing-more : (config : Config) (was is : Bool) → (was ≡ true → is ≡ true) → option_or (missing_if config was) (missing_if config is) ≡ missing_if config is
missing-more config true is more = rw (more refl) (or-same config.missing)
missing-more config false is more = refl

-- a value from the border, an override, a glyph of the borders, and the missing glyph before and now
in_order : {V : Type 0} (v override glyph was is : Option V) → option_or was is ≡ is → option_or (option_or v override) (option_or glyph is) ≡ option_or v (option_or (option_or override (option_or glyph was)) is)
in_order (Some v) override glyph was is more = refl
in_order None (Some v) glyph was is more = refl
in_order None None (Some v) was is more = refl
in_order None None None was is more = sym more

module _ (p : Position) (b : Border ℕ) (config : Config) (q : Position) (rows columns : ℕ) where
  abbrev new : Config
  new = record config { overrides = round p b config.overrides }

  border_lines-row : (r : ℕ) → has_horizontal new r rows ≡ (border_row p b r || has_horizontal config r rows)
  unfolding has_horizontal
  border_lines-row r = rw (row-said p b config.overrides r) (or_swap _ (border_row p b r) (overrides_row config.overrides r))

  border_lines-column : (c : ℕ) → has_vertical new c columns ≡ (border_column p b c || has_vertical config c columns)
  unfolding has_vertical
  border_lines-column c = rw (column-said p b config.overrides c) (or_swap _ (border_column p b c) (overrides_column config.overrides c))

  row-stays : has_horizontal config q.row rows ≡ true → has_horizontal new q.row rows ≡ true
  row-stays h = border_lines-row q.row ∙ or-right _ _ h

  column-stays : has_vertical config q.col columns ≡ true → has_vertical new q.col columns ≡ true
  column-stays h = border_lines-column q.col ∙ or-right _ _ h

  both-stay : (has_horizontal config q.row rows && has_vertical config q.col columns) ≡ true → (has_horizontal new q.row rows && has_vertical new q.col columns) ≡ true
  both-stay h = let parts = and_parts _ _ h in rw (row-stays parts.0, column-stays parts.1) refl

  glyph-horizontal : get_horizontal new q rows ≡ option_or (border_horizontal p b q) (option_or (get_horizontal config q rows) (missing_if config (has_horizontal new q.row rows)))
  unfolding get_horizontal
  glyph-horizontal =
      ap (λ v. option_or v (option_or (horizontal_glyph config.borders q.row rows) (missing_if config (has_horizontal new q.row rows)))) (border_overrides-horizontal p b config.overrides q)
      ∙ in_order (border_horizontal p b q) _ _ _ _ (missing-more config _ _ row-stays)

  glyph-vertical : get_vertical new q columns ≡ option_or (border_vertical p b q) (option_or (get_vertical config q columns) (missing_if config (has_vertical new q.col columns)))
  unfolding get_vertical
  glyph-vertical =
      ap (λ v. option_or v (option_or (vertical_glyph config.borders q.col columns) (missing_if config (has_vertical new q.col columns)))) (border_overrides-vertical p b config.overrides q)
      ∙ in_order (border_vertical p b q) _ _ _ _ (missing-more config _ _ column-stays)

  glyph-crossing : get_intersection new q rows columns ≡ option_or (border_crossing p b q) (option_or (get_intersection config q rows columns) (missing_if config (has_horizontal new q.row rows && has_vertical new q.col columns)))
  unfolding get_intersection
  glyph-crossing =
      ap (λ v. option_or v (option_or (crossing_glyph config.borders q.row q.col rows columns) (missing_if config (has_horizontal new q.row rows && has_vertical new q.col columns)))) (border_overrides-crossing p b config.overrides q)
      ∙ in_order (border_crossing p b q) _ _ _ _ (missing-more config _ _ both-stay)

pub border_glyphs : ABorderIsAnswered
unfolding with_border
border_glyphs p b config q rows columns = record {
  row_line = border_lines-row p (on_lines p b) config q rows columns q.row;
  column_line = border_lines-column p (on_lines p b) config q rows columns q.col;
  horizontal = glyph-horizontal p (on_lines p b) config q rows columns;
  vertical = glyph-vertical p (on_lines p b) config q rows columns;
  crossing = glyph-crossing p (on_lines p b) config q rows columns;
}

-- ---- colours

or-assoc : {V : Type 0} (a b c : Option V) → option_or (option_or a b) c ≡ option_or a (option_or b c)
or-assoc (Some v) b c = refl
or-assoc None b c = refl

pub border_colors : ABorderOfColorsIsAnswered
unfolding get_horizontal_color get_vertical_color get_intersection_color with_border
border_colors p b config q rows columns =
    let parts = on_lines p b in
    record {
      horizontal = rw (border_overrides-horizontal p parts config.color_overrides q) (or-assoc (border_horizontal p parts q) _ _);
      vertical = rw (border_overrides-vertical p parts config.color_overrides q) (or-assoc (border_vertical p parts q) _ _);
      crossing = rw (border_overrides-crossing p parts config.color_overrides q) (or-assoc (border_crossing p parts q) _ _);
    }

-- ---- parts

-- round a cell that has a line below it and one right of it, a border has all its parts
pub border_parts : {G : Type 0} → ABorderHasItsParts G
border_parts p b row col =
    let below : nat_lt p.row (2 ^ 64 - 1) ≡ true = grind (arith, nat_tests, row) in
    let right : nat_lt p.col (2 ^ 64 - 1) ≡ true = grind (arith, nat_tests, col) in
    rw (below, right) refl

-- ---- what places are overridden with after a row line is set

module _ {V : Type 0} where
  -- a place of the row that is among its first ones holds its new value if there is one
  value_at-with_row : (r n a b : ℕ) (values : ℕ → Option V) (es : List (Position × V)) → value_at by_place (at a b) (with_row r n values es) ≡ (if (a == r) && nat_lt b n then option_or (values b) (value_at by_place (at a b) es) else value_at by_place (at a b) es)
  value_at-with_row r zero a b values es =
      let outside : ((a == r) && nat_lt b 0) ≡ false = grind (arith, nat_tests) in
      rw outside refl
  value_at-with_row r (suc c) a b values es =
      let more = value_at-with_row r c a b values es in
      value_at-with_some place-laws (at a b) (at r c) (values c) (with_row r c values es)
      ∙ elim (cases_Bool (same by_place (at r c) (at a b))) [
        | inl y ↦
            let here : c ≡ b = grind (arith, nat_tests, y) in
            let old : ((a == r) && nat_lt b c) ≡ false = grind (arith, nat_tests, y) in
            let new : ((a == r) && nat_lt b (suc c)) ≡ true = grind (arith, nat_tests, y) in
            rw (y, new) (ap (λ x. option_or (values c) x) (more ∙ rw old refl) ∙ ap (λ x. option_or (values x) (value_at by_place (at a b) es)) here)
        | inr n ↦
            let still : ((a == r) && nat_lt b (suc c)) ≡ ((a == r) && nat_lt b c) = grind (arith, nat_tests, n) in
            rw (n, still) more
      ]

pub row_line_horizontals : {G : Type 0} → RowLineHorizontals G
unfolding horizontal_override with_row_line
row_line_horizontals row columns line o p =
    elim (cases_Bool (columns == 0)) [
      | inl y ↦
          let outside : ((p.row == row) && nat_lt p.col columns) ≡ false = grind (arith, nat_tests, y) in
          rw (y, outside) refl
      | inr n ↦ rw n (value_at-with_row row columns p.row p.col (λ c. line.main) o.horizontals)
    ]

pub row_line_crossings : {G : Type 0} → RowLineCrossings G
unfolding crossing_override with_row_line
row_line_crossings row columns line o p =
    elim (cases_Bool (columns == 0)) [
      | inl y ↦
          let outside : ((p.row == row) && (nat_lt 0 columns && nat_lt p.col (columns + 1))) ≡ false = grind (arith, nat_tests, y) in
          rw (y, outside) refl
      | inr n ↦
          let some : nat_lt 0 columns ≡ true = grind (arith, nat_tests, n) in
          rw (n, some) (value_at-with_row row (columns + 1) p.row p.col (λ c. line_crossing line columns c) o.crossings)
    ]

pub row_line_verticals : {G : Type 0} → RowLineVerticals G
unfolding vertical_override with_row_line
row_line_verticals row columns line o p = elim (cases_Bool (columns == 0)) [ inl y ↦ rw y refl | inr n ↦ rw n refl ]

-- ---- what is answered for the glyphs of a line after one of them is set

module _ {V : Type 0} where
  -- what a glyph answers after one is set, as far as it is there
  from_start : (p : Position) (k : ℕ) (v : V) (q : Position) (i : ℕ) (es : List (GlyphPlace × V)) (rest : Option V) → option_or (value_at by_glyph (glyph_at q i) (with_place by_glyph (glyph_at p k) v es)) rest ≡ (if is_at q p.row p.col && (i == k) then Some v else option_or (value_at by_glyph (glyph_at q i) es) rest)
  from_start p k v q i es rest =
      rw (value_at-with_place glyph-laws (glyph_at q i) (glyph_at p k) v es)
      (elim (cases_Bool (is_at q p.row p.col && (i == k))) [
        | inl y ↦ let here : same by_glyph (glyph_at p k) (glyph_at q i) ≡ true = grind (arith, nat_tests, y) in rw (here, y) refl
        | inr n ↦ let away : same by_glyph (glyph_at p k) (glyph_at q i) ≡ false = grind (arith, nat_tests, n) in rw (away, n) refl
      ])

  from_end : (p : Position) (k : ℕ) (v : V) (q : Position) (i w : ℕ) (es : List (GlyphPlace × V)) (first : Option V) → i < w → option_or first (value_at by_glyph (glyph_at q (w - i - 1)) (with_place by_glyph (glyph_at p k) v es)) ≡ (if is_at q p.row p.col && (i + 1 + k == w) then option_or first (Some v) else option_or first (value_at by_glyph (glyph_at q (w - i - 1)) es))
  from_end p k v q i w es first less =
      rw (value_at-with_place glyph-laws (glyph_at q (w - i - 1)) (glyph_at p k) v es)
      (elim (cases_Bool (is_at q p.row p.col && (i + 1 + k == w))) [
        | inl y ↦ let here : same by_glyph (glyph_at p k) (glyph_at q (w - i - 1)) ≡ true = grind (arith, nat_tests, y, less) in rw (here, y) refl
        | inr n ↦ let away : same by_glyph (glyph_at p k) (glyph_at q (w - i - 1)) ≡ false = grind (arith, nat_tests, n, less) in rw (away, n) refl
      ])

pub start_answers : {V : Type 0} → AStartIsAnswered V
unfolding lookup_offset with_offset
start_answers p k v old q i w =
    let rest = value_at by_glyph (glyph_at q (w - i - 1)) old.from_end in
    elim (cases_Bool (nat_lt i w)) [
      | inl y ↦ rw y (only_if_is true _ ∙ from_start p k v q i old.from_start rest ∙ ap (λ o. if is_at q p.row p.col && (i == k) then Some v else o) (sym (only_if_is true _)))
      | inr n ↦ rw n (only_if_is false _ ∙ sym (only_if_is false _))
    ]

pub end_answers : {V : Type 0} → AnEndIsAnswered V
unfolding lookup_offset with_offset
end_answers p k v old q i w =
    let first = value_at by_glyph (glyph_at q i) old.from_start in
    elim (cases_Bool (nat_lt i w)) [
      | inl y ↦
          let less : i < w = grind (arith, nat_tests, y) in
          rw y (only_if_is true _ ∙ from_end p k v q i w old.from_end first less ∙ ap (λ o. if is_at q p.row p.col && (i + 1 + k == w) then option_or first (Some v) else o) (sym (only_if_is true _)))
      | inr n ↦
          let none : (is_at q p.row p.col && (i + 1 + k == w)) ≡ false = grind (arith, nat_tests, n) in
          rw (n, none) (only_if_is false _ ∙ sym (only_if_is false _))
    ]

pub place_answers : {V : Type 0} → AnOffsetMarksItsPlace V
unfolding is_offset_at with_offset
place_answers p (Start i) v old q =
    rw (any-with_place glyph-laws (of_place q) (glyph_at p i) v old.from_start, same-is_at p q)
    (or_assoc (is_at q p.row p.col) (has_key (of_place q) old.from_start) (has_key (of_place q) old.from_end))
place_answers p (End i) v old q =
    rw (any-with_place glyph-laws (of_place q) (glyph_at p i) v old.from_end, same-is_at p q)
    (or_swap (has_key (of_place q) old.from_start) (is_at q p.row p.col) (has_key (of_place q) old.from_end))

-- ---- what was ever set is told from then on

some-with_place : {K V : Type 0} (order : Order K) (k : K) (v : V) (es : List (K × V)) → has_some (with_place order k v es) ≡ true
some-with_place order k v [] = refl
some-with_place order k v (e ∷ es) =
    elim (cases_Bool (before order e.0 k)) [
      | inl y ↦ rw y refl
      | inr n ↦ elim (cases_Bool (same order e.0 k)) [ inl s ↦ rw (n, s) refl | inr o ↦ rw (n, o) refl ]
    ]

module _ {V : Type 0} where
  set-is : (entity : Entity) (v : V) (s : Settings V) → is_set (with_setting entity v s) ≡ true
  unfolding is_set with_setting
  set-is Global v s = refl
  set-is (Row r) v s = let some = some-with_place by_number r (next_number s, v) s.rows in rw some (or-true (is_some s.base || has_some s.cells))
  set-is (Column c) v s = let some = some-with_place by_number c (next_number s, v) s.columns in rw (some, or-true (has_some s.rows)) (or-true (is_some s.base || has_some s.cells))
  set-is (Cell r c) v s = let some = some-with_place by_place (at r c) (next_number s, v) s.cells in rw (some, or-true (is_some s.base)) refl

  offset-is : (p : Position) (offset : Offset) (v : V) (o : Offsets V) → has_offsets (with_offset p offset v o) ≡ true
  unfolding has_offsets with_offset
  offset-is p (Start i) v o = rw (some-with_place by_glyph (glyph_at p i) v o.from_start) refl
  offset-is p (End i) v o = rw (some-with_place by_glyph (glyph_at p i) v o.from_end) (or-true (has_some o.from_start))

-- ---- one setter

padding_color-step : (c : Config) (s : Setter) → has_padding_color (after c s) ≡ (sets_padding_color s || has_padding_color c)
unfolding has_padding_color
padding_color-step c (set_padding_color entity v) = set-is entity v c.padding_color
padding_color-step c s = refl

justification-step : (c : Config) (s : Setter) → has_justification (after c s) ≡ (sets_justification s || has_justification c)
unfolding has_justification
justification-step c (set_justification entity v) = rw (set-is entity v c.justification) refl
justification-step c (set_justification_color entity v) = rw (set-is entity v c.justification_color) (or-true _)
justification-step c s = refl

offset_chars-step : (c : Config) (s : Setter) → has_offset_chars (after c s) ≡ (sets_offset s || has_offset_chars c)
unfolding has_offset_chars
offset_chars-step c (set_horizontal_char p offset v) = rw (offset-is p offset v c.horizontal_chars) refl
offset_chars-step c (set_vertical_char p offset v) = rw (offset-is p offset v c.vertical_chars, or-true (has_offsets c.horizontal_chars)) refl
offset_chars-step c (set_horizontal_color p offset v) = rw (offset-is p offset v c.horizontal_colors) (or-true _)
offset_chars-step c (set_vertical_color p offset v) = rw (offset-is p offset v c.vertical_colors, or-true (has_offsets c.horizontal_colors)) (or-true _)
offset_chars-step c s = refl

border_colors-step : (c : Config) (s : Setter) → (after c s).border_colored ≡ (sets_border_color s || c.border_colored)
border_colors-step c (set_borders_color v) = refl
border_colors-step c (set_border_color p v) = refl
border_colors-step c s = refl

-- ---- all setters

all-steps : (test : Config → Bool) (sets : Setter → Bool) → ((c : Config) (s : Setter) → test (after c s) ≡ (sets s || test c)) → (c : Config) (ss : List Setter) → test (fold after c ss) ≡ (list_any sets ss || test c)
all-steps test sets step c [] = refl
all-steps test sets step c (s ∷ ss) =
    all-steps test sets step (after c s) ss
    ∙ ap (λ b. list_any sets ss || b) (step c s)
    ∙ or_swap (list_any sets ss) (sets s) (test c)
    ∙ sym (or_assoc (sets s) (list_any sets ss) (test c))

pub ever_set : WhatWasSetIsTold
ever_set config setters = record {
  padding_color = all-steps has_padding_color sets_padding_color padding_color-step config setters;
  justification = all-steps has_justification sets_justification justification-step config setters;
  offset_chars = all-steps has_offset_chars sets_offset offset_chars-step config setters;
  border_colors = all-steps (λ c. c.border_colored) sets_border_color border_colors-step config setters;
}

pub nothing_at_first : NothingWasSetAtFirst
unfolding default_config has_padding_color has_justification has_offset_chars is_set has_offsets
nothing_at_first = record { padding_color = refl; justification = refl; offset_chars = refl; border_colors = refl }

-- what a setter leaves
pub ruleset latest = (setting_of-with_setting)

-- The glyphs that are put on the edges of merged cells are those of the crossings there.
use Rattle.std.proofs.Common.{◌≡◌, ℕ, zero, suc, ◌+◌, Bool, true, false, ◌&&◌, ◌||◌, ◌==◌, nat_lt, nat_le, List, [], ◌∷◌, refl, sym, ap, subst, ◌∙◌, arith, Option, Some, None, if◌then◌else◌, inl, inr}
use Rattle.std.specs.Prelude.{is_some, unwrap_or}
use Rattle.std.specs.Option.{option_or}
use Rattle.std.proofs.lemmas.Bool.{cases_Bool, false≢true}
use Rattle.std.proofs.lemmas.Bool.Decides.{nat_tests}
use Rattle.pg_layout.specs.declared.borders.Borders.{Borders}
use Rattle.pg_layout.specs.declared.position.Position.{Position}
use Rattle.pg_layout.specs.declared.sides.Sides.{Sides}
use Rattle.pg_layout.specs.Keys.{Order, by_place}
use Rattle.pg_layout.specs.Places.{value_at, with_place, with_some, same, before, IsAscending}
use Rattle.pg_layout.specs.Position.{at}
use Rattle.pg_layout.proofs.KeyedPlaces.{IsOrder, place-laws, value_at-with_place, none_after, same-turned, before-not_back, IsAscending-with_place}
use Rattle.pg_config.specs.declared.crossings.Side.{Side}
use Rattle.pg_config.specs.declared.crossings.Side.TheVariants.{Top, Bottom, Left, Right}
use Rattle.pg_config.specs.Config.{Config}
use Rattle.pg_config.specs.Crossings.{lies_inside, is_on_side, is_on, edge_glyph, span_crossing, with_rows, with_crossings}
use Rattle.pg_config.specs.Inside.{Marks, no_sides, has_side, with_side, sides_at, with_mark, on_line, with_line, count_inside, line_behind, with_span, with_spans, with_glyphs, with_all}
use Rattle.pg_config.specs.Overrides.{Overrides, with_row}
use Rattle.pg_config.specs.Spans.{Span}
use Rattle.pg_config.proofs.Lookups.{value_at-with_some}

-- ---- marks

abbrev is_same : Side → Side → Bool
is_same Top Top = true
is_same Bottom Bottom = true
is_same Left Left = true
is_same Right Right = true
is_same side other = false

has_side-with : (side t : Side) (s : Sides Bool) → has_side (with_side side s) t ≡ (is_same side t || has_side s t)
has_side-with Top Top s = refl
has_side-with Top Bottom s = refl
has_side-with Top Left s = refl
has_side-with Top Right s = refl
has_side-with Bottom Top s = refl
has_side-with Bottom Bottom s = refl
has_side-with Bottom Left s = refl
has_side-with Bottom Right s = refl
has_side-with Left Top s = refl
has_side-with Left Bottom s = refl
has_side-with Left Left s = refl
has_side-with Left Right s = refl
has_side-with Right Top s = refl
has_side-with Right Bottom s = refl
has_side-with Right Left s = refl
has_side-with Right Right s = refl

-- what holds where another holds, and else doesn't, is the same
both : (a b : Bool) → (a ≡ true → b ≡ true) → (a ≡ false → b ≡ false) → a ≡ b
both a b with without = elim (cases_Bool a) [ inl y ↦ y ∙ sym (with y) | inr n ↦ n ∙ sym (without n) ]

-- a crossing has that mark
abbrev is_marked : Marks → Position → Side → Bool
is_marked m q t = has_side (sides_at q m) t

is_marked-with : (side : Side) (p : Position) (m : Marks) (q : Position) (t : Side) → is_marked (with_mark side p m) q t ≡ ((same by_place p q && is_same side t) || is_marked m q t)
is_marked-with side p m q t =
    elim (cases_Bool (same by_place p q)) [
      | inl y ↦
          let one = place-laws.same_is p q y in
          let there : value_at by_place q (with_mark side p m) ≡ Some (with_side side (sides_at p m)) = value_at-with_place place-laws q p (with_side side (sides_at p m)) m ∙ rw y refl in
          let here : sides_at q (with_mark side p m) ≡ with_side side (sides_at p m) = ap (λ o. unwrap_or o no_sides) there in
          rw y (ap (λ s. has_side s t) here ∙ has_side-with side t (sides_at p m) ∙ ap (λ x. is_same side t || has_side (sides_at x m) t) one)
      | inr n ↦
          let there : value_at by_place q (with_mark side p m) ≡ value_at by_place q m = value_at-with_place place-laws q p (with_side side (sides_at p m)) m ∙ rw n refl in
          let away : sides_at q (with_mark side p m) ≡ sides_at q m = ap (λ o. unwrap_or o no_sides) there in
          rw n (ap (λ s. has_side s t) away)
    ]

-- the crossing q is one of the first n behind the corner
abbrev is_along : Side → ℕ → ℕ → ℕ → Position → Bool
is_along Top line first n q = (q.row == line) && (nat_lt first q.col && nat_le q.col (first + n))
is_along Bottom line first n q = (q.row == line) && (nat_lt first q.col && nat_le q.col (first + n))
is_along Left line first n q = (q.col == line) && (nat_lt first q.row && nat_le q.row (first + n))
is_along Right line first n q = (q.col == line) && (nat_lt first q.row && nat_le q.row (first + n))

none_along : (side : Side) (line first : ℕ) (q : Position) → is_along side line first 0 q ≡ false
none_along Top line first q = grind (arith, nat_tests)
none_along Bottom line first q = grind (arith, nat_tests)
none_along Left line first q = grind (arith, nat_tests)
none_along Right line first q = grind (arith, nat_tests)

one_more : (line first n x y : ℕ) → (((line == x) && (first + n + 1 == y)) || ((x == line) && (nat_lt first y && nat_le y (first + n)))) ≡ ((x == line) && (nat_lt first y && nat_le y (first + suc n)))
one_more line first n x y = both _ _ (λ h. grind (arith, nat_tests, h)) (λ h. grind (arith, nat_tests, h))

swapped : (a b : Bool) → (a && b) ≡ (b && a)
swapped true true = refl
swapped true false = refl
swapped false true = refl
swapped false false = refl

more_along : (side : Side) (line first n : ℕ) (q : Position) → (same by_place (on_line side line (first + n + 1)) q || is_along side line first n q) ≡ is_along side line first (suc n) q
more_along Top line first n q = one_more line first n q.row q.col
more_along Bottom line first n q = one_more line first n q.row q.col
more_along Left line first n q = ap (λ b. b || is_along Left line first n q) (swapped (first + n + 1 == q.row) (line == q.col)) ∙ one_more line first n q.col q.row
more_along Right line first n q = ap (λ b. b || is_along Right line first n q) (swapped (first + n + 1 == q.row) (line == q.col)) ∙ one_more line first n q.col q.row

or_gathered : (a b c d : Bool) → ((a && c) || ((b && c) || d)) ≡ (((a || b) && c) || d)
or_gathered true true true d = refl
or_gathered true true false d = refl
or_gathered true false true d = refl
or_gathered true false false d = refl
or_gathered false b c d = refl

is_marked-line : (side : Side) (line first n : ℕ) (m : Marks) (q : Position) (t : Side) → is_marked (with_line side (Some line) first n m) q t ≡ ((is_along side line first n q && is_same side t) || is_marked m q t)
is_marked-line side line first zero m q t = rw (none_along side line first q) refl
is_marked-line side line first (suc n) m q t =
    is_marked-with side (on_line side line (first + n + 1)) (with_line side (Some line) first n m) q t
    ∙ ap (λ b. (same by_place (on_line side line (first + n + 1)) q && is_same side t) || b) (is_marked-line side line first n m q t)
    ∙ or_gathered (same by_place (on_line side line (first + n + 1)) q) (is_along side line first n q) (is_same side t) (is_marked m q t)
    ∙ ap (λ b. (b && is_same side t) || is_marked m q t) (more_along side line first n q)

-- the same where a line may be missing
abbrev is_among : Side → Option ℕ → ℕ → ℕ → Position → Bool
is_among side None first n q = false
is_among side (Some line) first n q = is_along side line first n q

is_marked-lines : (side : Side) (line : Option ℕ) (first n : ℕ) (m : Marks) (q : Position) (t : Side) → is_marked (with_line side line first n m) q t ≡ ((is_among side line first n q && is_same side t) || is_marked m q t)
is_marked-lines side None first n m q t = refl
is_marked-lines side (Some line) first n m q t = is_marked-line side line first n m q t

-- the crossing stands in the table, and on that side
abbrev is_shown_on : ℕ → ℕ → Position → Side → Span → Bool
is_shown_on rows columns q t s = (nat_le q.row rows && nat_le q.col columns) && is_on_side rows columns q t s

module _ (rows columns : ℕ) where
  -- a line of crossings with the row line or the column line at which it lies
  along_rows : (f c r i q_row q_col : ℕ) → (if nat_le (r + i) rows then (q_row == r + i) && (nat_lt f q_col && nat_le q_col (f + count_inside f c columns)) else false) ≡ ((nat_le q_row rows && nat_le q_col columns) && ((q_row == r + i) && lies_inside f c columns q_col))
  along_rows f c r i q_row q_col =
      elim (cases_Bool (nat_le (r + i) rows)) [
        | inl y ↦
            let there : ((q_row == r + i) && (nat_lt f q_col && nat_le q_col (f + count_inside f c columns))) ≡ ((nat_le q_row rows && nat_le q_col columns) && ((q_row == r + i) && lies_inside f c columns q_col)) = both _ _ (λ h. grind (arith, nat_tests, y, h)) (λ h. grind (arith, nat_tests, y, h)) in
            rw y there
        | inr n ↦
            let none : ((nat_le q_row rows && nat_le q_col columns) && ((q_row == r + i) && lies_inside f c columns q_col)) ≡ false = grind (arith, nat_tests, n) in
            rw n (sym none)
      ]

  along_columns : (f c r i q_row q_col : ℕ) → (if nat_le (r + i) columns then (q_col == r + i) && (nat_lt f q_row && nat_le q_row (f + count_inside f c rows)) else false) ≡ ((nat_le q_row rows && nat_le q_col columns) && ((q_col == r + i) && lies_inside f c rows q_row))
  along_columns f c r i q_row q_col =
      elim (cases_Bool (nat_le (r + i) columns)) [
        | inl y ↦
            let there : ((q_col == r + i) && (nat_lt f q_row && nat_le q_row (f + count_inside f c rows))) ≡ ((nat_le q_row rows && nat_le q_col columns) && ((q_col == r + i) && lies_inside f c rows q_row)) = both _ _ (λ h. grind (arith, nat_tests, y, h)) (λ h. grind (arith, nat_tests, y, h)) in
            rw y there
        | inr n ↦
            let none : ((nat_le q_row rows && nat_le q_col columns) && ((q_col == r + i) && lies_inside f c rows q_row)) ≡ false = grind (arith, nat_tests, n) in
            rw n (sym none)
      ]

  among : (side : Side) (b : Bool) (line first n : ℕ) (q : Position) → is_among side (if b then Some line else None) first n q ≡ (if b then is_along side line first n q else false)
  among side true line first n q = refl
  among side false line first n q = refl

  -- the mark of a span's side
  abbrev side_line : Side → Span → Option ℕ
  side_line Top s = line_behind s.0.row 0 rows
  side_line Bottom s = line_behind s.0.row s.1.rows rows
  side_line Left s = line_behind s.0.col 0 columns
  side_line Right s = line_behind s.0.col s.1.columns columns

  abbrev side_first : Side → Span → ℕ
  side_first Top s = s.0.col
  side_first Bottom s = s.0.col
  side_first Left s = s.0.row
  side_first Right s = s.0.row

  abbrev side_count : Side → Span → ℕ
  side_count Top s = count_inside s.0.col s.1.columns columns
  side_count Bottom s = count_inside s.0.col s.1.columns columns
  side_count Left s = count_inside s.0.row s.1.rows rows
  side_count Right s = count_inside s.0.row s.1.rows rows

  zero_more : (n : ℕ) → n + 0 ≡ n
  zero_more n = omega arith

  shown-side : (side : Side) (s : Span) (q : Position) → is_among side (side_line side s) (side_first side s) (side_count side s) q ≡ is_shown_on rows columns q side s
  shown-side Top s q = among Top (nat_le (s.0.row + 0) rows) (s.0.row + 0) s.0.col (count_inside s.0.col s.1.columns columns) q ∙ along_rows s.0.col s.1.columns s.0.row 0 q.row q.col ∙ ap (λ r. (nat_le q.row rows && nat_le q.col columns) && ((q.row == r) && lies_inside s.0.col s.1.columns columns q.col)) (zero_more s.0.row)
  shown-side Bottom s q = among Bottom (nat_le (s.0.row + s.1.rows) rows) (s.0.row + s.1.rows) s.0.col (count_inside s.0.col s.1.columns columns) q ∙ along_rows s.0.col s.1.columns s.0.row s.1.rows q.row q.col
  shown-side Left s q = among Left (nat_le (s.0.col + 0) columns) (s.0.col + 0) s.0.row (count_inside s.0.row s.1.rows rows) q ∙ along_columns s.0.row s.1.rows s.0.col 0 q.row q.col ∙ ap (λ c. (nat_le q.row rows && nat_le q.col columns) && ((q.col == c) && lies_inside s.0.row s.1.rows rows q.row)) (zero_more s.0.col)
  shown-side Right s q = among Right (nat_le (s.0.col + s.1.columns) columns) (s.0.col + s.1.columns) s.0.row (count_inside s.0.row s.1.rows rows) q ∙ along_columns s.0.row s.1.rows s.0.col s.1.columns q.row q.col

  is_marked-side : (side : Side) (s : Span) (m : Marks) (q : Position) (t : Side) → is_marked (with_line side (side_line side s) (side_first side s) (side_count side s) m) q t ≡ ((is_shown_on rows columns q side s && is_same side t) || is_marked m q t)
  is_marked-side side s m q t = is_marked-lines side (side_line side s) (side_first side s) (side_count side s) m q t ∙ ap (λ b. (b && is_same side t) || is_marked m q t) (shown-side side s q)

  skip : (a b : Bool) → ((a && false) || b) ≡ b
  skip true b = refl
  skip false b = refl

  and_true : (a : Bool) → (a && true) ≡ a
  and_true true = refl
  and_true false = refl

  -- of four sides the one that is asked for counts
  of_four : (t : Side) (shown : Side → Bool) (d : Bool) → ((shown Right && is_same Right t) || ((shown Left && is_same Left t) || ((shown Bottom && is_same Bottom t) || ((shown Top && is_same Top t) || d)))) ≡ (shown t || d)
  of_four Top shown d = skip (shown Right) _ ∙ skip (shown Left) _ ∙ skip (shown Bottom) _ ∙ ap (λ x. x || d) (and_true (shown Top))
  of_four Bottom shown d = skip (shown Right) _ ∙ skip (shown Left) _ ∙ ap (λ x. x || ((shown Top && false) || d)) (and_true (shown Bottom)) ∙ ap (λ x. shown Bottom || x) (skip (shown Top) d)
  of_four Left shown d = skip (shown Right) _ ∙ ap (λ x. x || ((shown Bottom && false) || ((shown Top && false) || d))) (and_true (shown Left)) ∙ ap (λ x. shown Left || x) (skip (shown Bottom) _ ∙ skip (shown Top) d)
  of_four Right shown d = ap (λ x. x || ((shown Left && false) || ((shown Bottom && false) || ((shown Top && false) || d)))) (and_true (shown Right)) ∙ ap (λ x. shown Right || x) (skip (shown Left) _ ∙ skip (shown Bottom) _ ∙ skip (shown Top) d)

  is_marked-span : (s : Span) (m : Marks) (q : Position) (t : Side) → is_marked (with_span rows columns s m) q t ≡ (is_shown_on rows columns q t s || is_marked m q t)
  is_marked-span s m q t =
      let top = with_line Top (side_line Top s) (side_first Top s) (side_count Top s) m in
      let bottom = with_line Bottom (side_line Bottom s) (side_first Bottom s) (side_count Bottom s) top in
      let left = with_line Left (side_line Left s) (side_first Left s) (side_count Left s) bottom in
      is_marked-side Right s left q t
      ∙ ap (λ b. (is_shown_on rows columns q Right s && is_same Right t) || b) (is_marked-side Left s bottom q t)
      ∙ ap (λ b. (is_shown_on rows columns q Right s && is_same Right t) || ((is_shown_on rows columns q Left s && is_same Left t) || b)) (is_marked-side Bottom s top q t)
      ∙ ap (λ b. (is_shown_on rows columns q Right s && is_same Right t) || ((is_shown_on rows columns q Left s && is_same Left t) || ((is_shown_on rows columns q Bottom s && is_same Bottom t) || b))) (is_marked-side Top s m q t)
      ∙ of_four t (λ u. is_shown_on rows columns q u s) (is_marked m q t)

  or_moved : (a b c : Bool) → (b || (a || c)) ≡ ((a || b) || c)
  or_moved true true c = refl
  or_moved true false c = refl
  or_moved false b c = refl

  and_shared : (a b c : Bool) → ((a && b) || (a && c)) ≡ (a && (b || c))
  and_shared true b c = refl
  and_shared false b c = refl

  and_none : (a : Bool) → (a && false) ≡ false
  and_none true = refl
  and_none false = refl

  abbrev in_table : Position → Bool
  in_table q = nat_le q.row rows && nat_le q.col columns

  is_marked-spans : (spans : List Span) (m : Marks) (q : Position) (t : Side) → is_marked (with_spans rows columns spans m) q t ≡ ((in_table q && is_on spans rows columns q t) || is_marked m q t)
  is_marked-spans [] m q t = rw (and_none (in_table q)) refl
  is_marked-spans (s ∷ spans) m q t =
      is_marked-spans spans (with_span rows columns s m) q t
      ∙ ap (λ b. (in_table q && is_on spans rows columns q t) || b) (is_marked-span s m q t)
      ∙ or_moved (is_shown_on rows columns q t s) (in_table q && is_on spans rows columns q t) (is_marked m q t)
      ∙ ap (λ b. b || is_marked m q t) (and_shared (in_table q) (is_on_side rows columns q t s) (is_on spans rows columns q t))

  or_none : (a : Bool) → (a || false) ≡ a
  or_none true = refl
  or_none false = refl

  no_marks : (q : Position) (t : Side) → is_marked [] q t ≡ false
  no_marks q Top = refl
  no_marks q Bottom = refl
  no_marks q Left = refl
  no_marks q Right = refl

  all_marks : (spans : List Span) (q : Position) (t : Side) → is_marked (with_spans rows columns spans []) q t ≡ (in_table q && is_on spans rows columns q t)
  all_marks spans q t = is_marked-spans spans [] q t ∙ ap (λ b. (in_table q && is_on spans rows columns q t) || b) (no_marks q t) ∙ or_none (in_table q && is_on spans rows columns q t)

  -- ---- glyphs

  module _ (config : Config) (b : Borders ℕ) where
    edge_glyph-same : (q : Position) (on others : Side → Bool) → ((t : Side) → on t ≡ others t) → edge_glyph config b rows columns q on ≡ edge_glyph config b rows columns q others
    edge_glyph-same q on others h = rw (h Top, h Bottom, h Left, h Right) refl

    -- the glyph of a crossing as its marks tell it
    abbrev marked_glyph : Marks → Position → Option ℕ
    marked_glyph m q = edge_glyph config b rows columns q (is_marked m q)

    -- a glyph is there where the table has the crossing
    abbrev shown_crossing : Position → Option ℕ
    shown_crossing q = if in_table q then span_crossing config b rows columns q else None

    marked-is : (q : Position) → marked_glyph (with_spans rows columns config.spans []) q ≡ shown_crossing q
    unfolding span_crossing
    marked-is q =
        edge_glyph-same q (is_marked (with_spans rows columns config.spans []) q) (λ t. in_table q && is_on config.spans rows columns q t) (all_marks config.spans q)
        ∙ elim (cases_Bool (in_table q)) [ inl y ↦ rw y refl | inr n ↦ rw n refl ]

    -- the glyph of a place by its entry among the marks
    abbrev entry_glyph : Position → Option (Sides Bool) → Option ℕ
    entry_glyph q None = None
    entry_glyph q (Some s) = edge_glyph config b rows columns q (has_side s)

    entry_glyph-is : (q : Position) (o : Option (Sides Bool)) → entry_glyph q o ≡ edge_glyph config b rows columns q (has_side (unwrap_or o no_sides))
    entry_glyph-is q None = refl
    entry_glyph-is q (Some s) = refl

    value_at-glyphs : (m : Marks) (gs : List (Position × ℕ)) → IsAscending by_place m → (q : Position) → value_at by_place q (with_glyphs config b rows columns m gs) ≡ option_or (entry_glyph q (value_at by_place q m)) (value_at by_place q gs)
    value_at-glyphs [] gs up q = refl
    value_at-glyphs (e ∷ m) gs up q =
        value_at-glyphs m (with_some by_place e.0 (edge_glyph config b rows columns e.0 (has_side e.1)) gs) up.1 q
        ∙ ap (λ o. option_or (entry_glyph q (value_at by_place q m)) o) (value_at-with_some place-laws q e.0 (edge_glyph config b rows columns e.0 (has_side e.1)) gs)
        ∙ elim (cases_Bool (same by_place e.0 q)) [
          | inl y ↦
              let one = place-laws.same_is e.0 q y in
              let rest : value_at by_place q m ≡ None = subst (λ x. value_at by_place x m ≡ None) one (none_after place-laws e.0 m e up.0 (place-laws.none_before_itself e.0)) in
              rw (y, rest) (ap (λ x. option_or (edge_glyph config b rows columns x (has_side e.1)) (value_at by_place q gs)) one)
          | inr n ↦ rw n refl
        ]

    or_nothing : (o : Option ℕ) → option_or o None ≡ o
    or_nothing None = refl
    or_nothing (Some x) = refl

    glyph_at : (q : Position) → IsAscending by_place (with_spans rows columns config.spans []) → value_at by_place q (with_glyphs config b rows columns (with_spans rows columns config.spans []) []) ≡ shown_crossing q
    glyph_at q up =
        value_at-glyphs (with_spans rows columns config.spans []) [] up q
        ∙ or_nothing (entry_glyph q (value_at by_place q (with_spans rows columns config.spans [])))
        ∙ entry_glyph-is q (value_at by_place q (with_spans rows columns config.spans []))
        ∙ marked-is q

-- ---- all crossings

more_columns : (r n : ℕ) (q : Position) → ((same by_place (at r n) q || ((q.row == r) && nat_lt q.col n))) ≡ ((q.row == r) && nat_lt q.col (suc n))
more_columns r n q = both _ _ (λ h. grind (arith, nat_tests, h)) (λ h. grind (arith, nat_tests, h))

none_of : (b : Bool) (q : Position) → (b && nat_lt q.col 0) ≡ false
none_of b q = grind (arith, nat_tests)

module _ {G : Type 0} where
  value_at-all : (gs es : List (Position × G)) → IsAscending by_place gs → (q : Position) → value_at by_place q (with_all gs es) ≡ option_or (value_at by_place q gs) (value_at by_place q es)
  value_at-all [] es up q = refl
  value_at-all (e ∷ gs) es up q =
      value_at-all gs (with_place by_place e.0 e.1 es) up.1 q
      ∙ ap (λ o. option_or (value_at by_place q gs) o) (value_at-with_place place-laws q e.0 e.1 es)
      ∙ elim (cases_Bool (same by_place e.0 q)) [
        | inl y ↦
            let one = place-laws.same_is e.0 q y in
            let rest : value_at by_place q gs ≡ None = subst (λ x. value_at by_place x gs ≡ None) one (none_after place-laws e.0 gs e up.0 (place-laws.none_before_itself e.0)) in
            rw (y, rest) refl
        | inr n ↦ rw n refl
      ]

  IsAscending-all : (gs es : List (Position × G)) → IsAscending by_place es → IsAscending by_place (with_all gs es)
  IsAscending-all [] es up = up
  IsAscending-all (e ∷ gs) es up = IsAscending-all gs (with_place by_place e.0 e.1 es) (IsAscending-with_place place-laws e.0 e.1 es up)

  IsAscending-some : (p : Position) (v : Option G) (es : List (Position × G)) → IsAscending by_place es → IsAscending by_place (with_some by_place p v es)
  IsAscending-some p None es up = up
  IsAscending-some p (Some v) es up = IsAscending-with_place place-laws p v es up

  IsAscending-row : (r n : ℕ) (values : ℕ → Option G) (es : List (Position × G)) → IsAscending by_place es → IsAscending by_place (with_row r n values es)
  IsAscending-row r zero values es up = up
  IsAscending-row r (suc c) values es up = IsAscending-some (at r c) (values c) (with_row r c values es) (IsAscending-row r c values es up)

  IsAscending-rows : (m n : ℕ) (values : Position → Option G) (es : List (Position × G)) → IsAscending by_place es → IsAscending by_place (with_rows m n values es)
  IsAscending-rows zero n values es up = up
  IsAscending-rows (suc m) n values es up = IsAscending-row m n (λ c. values (at m c)) (with_rows m n values es) (IsAscending-rows m n values es up)

  -- a place that is reached has its value, if there is one
  abbrev reached : Bool → Option G → Option G → Option G
  reached b v o = if b then option_or v o else o

  value_at-row : (r n : ℕ) (values : ℕ → Option G) (es : List (Position × G)) (q : Position) → value_at by_place q (with_row r n values es) ≡ reached ((q.row == r) && nat_lt q.col n) (values q.col) (value_at by_place q es)
  value_at-row r zero values es q = rw (none_of (q.row == r) q) refl
  value_at-row r (suc n) values es q =
      value_at-with_some place-laws q (at r n) (values n) (with_row r n values es)
      ∙ elim (cases_Bool (same by_place (at r n) q)) [
        | inl y ↦
            let one = place-laws.same_is (at r n) q y in
            let now : ((q.row == r) && nat_lt q.col (suc n)) ≡ true = sym (more_columns r n q) ∙ rw y refl in
            let not_yet : ((q.row == r) && nat_lt q.col n) ≡ false = subst (λ x. ((x.row == r) && nat_lt x.col n) ≡ false) one (grind (arith, nat_tests)) in
            rw (y, now, value_at-row r n values es q, not_yet) (ap (λ x. option_or (values x.col) (value_at by_place q es)) one)
        | inr k ↦
            let other : (same by_place (at r n) q || ((q.row == r) && nat_lt q.col n)) ≡ ((q.row == r) && nat_lt q.col n) = rw k refl in
            let stays : ((q.row == r) && nat_lt q.col n) ≡ ((q.row == r) && nat_lt q.col (suc n)) = sym other ∙ more_columns r n q in
            rw k (value_at-row r n values es q ∙ ap (λ x. reached x (values q.col) (value_at by_place q es)) stays)
      ]

  value_at-rows : (m n : ℕ) (values : Position → Option G) (es : List (Position × G)) (q : Position) → value_at by_place q (with_rows m n values es) ≡ reached (nat_lt q.row m && nat_lt q.col n) (values q) (value_at by_place q es)
  value_at-rows zero n values es q =
      let none : nat_lt q.row 0 ≡ false = grind (arith, nat_tests) in
      rw none refl
  value_at-rows (suc m) n values es q =
      value_at-row m n (λ c. values (at m c)) (with_rows m n values es) q
      ∙ ap (λ o. reached ((q.row == m) && nat_lt q.col n) (values (at m q.col)) o) (value_at-rows m n values es q)
      ∙ elim (cases_Bool (q.row == m)) [
        | inl y ↦
            let one : q.row ≡ m = grind (arith, nat_tests, y) in
            let before : nat_lt q.row m ≡ false = grind (arith, nat_tests, y) in
            let now : nat_lt q.row (suc m) ≡ true = grind (arith, nat_tests, y) in
            rw (y, before, now) (ap (λ r. reached (nat_lt q.col n) (values (at r q.col)) (value_at by_place q es)) (sym one))
        | inr k ↦
            let stays : nat_lt q.row m ≡ nat_lt q.row (suc m) = grind (arith, nat_tests, k) in
            rw k (ap (λ x. reached (x && nat_lt q.col n) (values q) (value_at by_place q es)) stays)
      ]

-- ---- entries in order

module _ {K V : Type 0} {order : Order K} (is : IsOrder order) where
  some_none : (v : V) → Some v ≡ None → false ≡ true
  some_none v h = sym (ap is_some h)

  some_is : (v w : V) → Some v ≡ Some w → v ≡ w
  some_is v w h = ap (λ o. unwrap_or o v) h

  first_value : (e : K × V) (es : List (K × V)) → value_at order e.0 (e ∷ es) ≡ Some e.1
  first_value e es = rw (is.same_itself e.0) refl

  -- they are told by their lookups
  same_entries : (es fs : List (K × V)) → IsAscending order es → IsAscending order fs → ((q : K) → value_at order q es ≡ value_at order q fs) → es ≡ fs
  same_entries [] [] up on h = refl
  same_entries [] (f ∷ fs) up on h = absurd (false≢true (some_none f.1 (sym (h f.0 ∙ first_value f fs))))
  same_entries (e ∷ es) [] up on h = absurd (false≢true (some_none e.1 (sym (first_value e es) ∙ h e.0)))
  same_entries (e ∷ es) (f ∷ fs) up on h =
      let first : Some e.1 ≡ value_at order e.0 (f ∷ fs) = sym (first_value e es) ∙ h e.0 in
      let other : value_at order f.0 (e ∷ es) ≡ Some f.1 = h f.0 ∙ first_value f fs in
      elim (cases_Bool (same order e.0 f.0)) [
        | inl y ↦
            let key = is.same_is e.0 f.0 y in
            let turned : same order f.0 e.0 ≡ true = same-turned is f.0 e.0 ∙ y in
            let second : value_at order e.0 (f ∷ fs) ≡ Some f.1 = rw turned refl in
            let value : e.1 ≡ f.1 = some_is e.1 f.1 (first ∙ second) in
            let rest : es ≡ fs = same_entries es fs up.1 on.1 (λ q. elim (cases_Bool (same order e.0 q)) [
              | inl here ↦
                  let one = is.same_is e.0 q here in
                  none_after is q es e up.0 (subst (λ x. before order x q ≡ false) (sym one) (is.none_before_itself q))
                  ∙ sym (none_after is q fs f on.0 (subst (λ x. before order x q ≡ false) (sym (sym key ∙ one)) (is.none_before_itself q)))
              | inr away ↦
                  let away_too : same order f.0 q ≡ false = subst (λ x. same order x q ≡ false) key away in
                  let a : value_at order q (e ∷ es) ≡ value_at order q es = rw away refl in
                  let b : value_at order q (f ∷ fs) ≡ value_at order q fs = rw away_too refl in
                  sym a ∙ h q ∙ b
            ]) in
            ap (λ k. (k, e.1) ∷ es) key ∙ ap (λ v. (f.0, v) ∷ es) value ∙ ap (λ x. f ∷ x) rest
        | inr n ↦
            let turned : same order f.0 e.0 ≡ false = same-turned is f.0 e.0 ∙ n in
            let a : value_at order e.0 (f ∷ fs) ≡ value_at order e.0 fs = rw turned refl in
            let b : value_at order f.0 (e ∷ es) ≡ value_at order f.0 es = rw n refl in
            elim (cases_Bool (before order e.0 f.0)) [
              | inl y ↦ absurd (false≢true (some_none e.1 (first ∙ a ∙ none_after is e.0 fs f on.0 (before-not_back is e.0 f.0 y))))
              | inr k ↦ absurd (false≢true (some_none f.1 (sym other ∙ b ∙ none_after is f.0 es e up.0 k)))
            ]
      ]

bounded : (rows columns : ℕ) (q : Position) → (nat_le q.row rows && nat_le q.col columns) ≡ (nat_lt q.row (rows + 1) && nat_lt q.col (columns + 1))
bounded rows columns q = both _ _ (λ h. grind (arith, nat_tests, h)) (λ h. grind (arith, nat_tests, h))

kept_or : (b : Bool) (v o : Option ℕ) → option_or (if b then v else None) o ≡ reached b v o
kept_or true v o = refl
kept_or false v o = refl

-- To put the glyphs of all marks is to give each crossing its glyph.
glyphs_are_crossings : (config : Config) (b : Borders ℕ) (rows columns : ℕ) (m : Marks) (gs : List (Position × ℕ)) → m ≡ with_spans rows columns config.spans [] → gs ≡ with_glyphs config b rows columns m [] → IsAscending by_place m → IsAscending by_place gs → IsAscending by_place config.overrides.crossings → record config.overrides { crossings = with_all gs config.overrides.crossings } ≡ with_crossings rows columns (span_crossing config b rows columns) config.overrides
unfolding with_crossings
glyphs_are_crossings config b rows columns m gs marks glyphs up_marks up_glyphs up =
    let es = config.overrides.crossings in
    let values = span_crossing config b rows columns in
    let told : gs ≡ with_glyphs config b rows columns (with_spans rows columns config.spans []) [] = glyphs ∙ ap (λ x. with_glyphs config b rows columns x []) marks in
    ap (λ x. record config.overrides { crossings = x }) (same_entries place-laws (with_all gs es) (with_rows (rows + 1) (columns + 1) values es) (IsAscending-all gs es up) (IsAscending-rows (rows + 1) (columns + 1) values es up) (λ q.
    value_at-all gs es up_glyphs q
    ∙ ap (λ x. option_or (value_at by_place q x) (value_at by_place q es)) told
    ∙ ap (λ o. option_or o (value_at by_place q es)) (glyph_at rows columns config b q (subst (λ x. IsAscending by_place x) marks up_marks))
    ∙ kept_or (nat_le q.row rows && nat_le q.col columns) (values q) (value_at by_place q es)
    ∙ ap (λ x. reached x (values q) (value_at by_place q es)) (bounded rows columns q)
    ∙ sym (value_at-rows (rows + 1) (columns + 1) values es q)))

-- the same of the configuration as it is held, whose overrides are then these
pub crossings_set : (held config : Config) → held ≡ config → (b : Borders ℕ) (rows columns : ℕ) (spans : List Span) (m : Marks) (gs : List (Position × ℕ)) (new : Overrides ℕ) → spans ≡ config.spans → m ≡ with_spans rows columns spans [] → gs ≡ with_glyphs config b rows columns m [] → IsAscending by_place m → IsAscending by_place gs → IsAscending by_place held.overrides.crossings → new ≡ record held.overrides { crossings = with_all gs held.overrides.crossings } → record held { overrides = new } ≡ record config { overrides = with_crossings rows columns (span_crossing config b rows columns) config.overrides }
crossings_set held config is b rows columns spans m gs new kept marks glyphs up_marks up_glyphs up put =
    let marked : m ≡ with_spans rows columns config.spans [] = marks ∙ ap (λ s. with_spans rows columns s []) kept in
    let up_held : IsAscending by_place config.overrides.crossings = subst (λ v. IsAscending by_place v.overrides.crossings) is up in
    let told : new ≡ record config.overrides { crossings = with_all gs config.overrides.crossings } = put ∙ ap (λ v. record v.overrides { crossings = with_all gs v.overrides.crossings }) is in
    let made : Overrides ℕ = with_crossings rows columns (span_crossing config b rows columns) config.overrides in
    let all : new ≡ made = told ∙ glyphs_are_crossings config b rows columns m gs marked glyphs up_marks up_glyphs up_held in
    let put_over : Overrides ℕ → Config → Config = λ x v. record v { overrides = x } in
    let first : put_over new held ≡ put_over made held = ap (λ x. put_over x held) all in
    let second : put_over made held ≡ put_over made config = ap (λ v. put_over made v) is in
    first ∙ second

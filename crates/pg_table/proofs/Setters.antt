-- What a setter by value has from the one by reference, cells that get a colour, and frames that are drawn place by place.
use Rattle.std.proofs.Common.{◌≡◌, refl, sym, subst, Result, Ok, Err, IfOk, IsOk, OnOk, ◌==◌, ◌+◌, ◌&&◌, ◌||◌, ℕ, Bool, List, nat_lt, inl, inr, arith, ◌<◌, ◌≤◌, ◌^◌, ◌-◌, true, false, not, ◌∙◌, ap, Option, Some, None, if◌then◌else◌}
use Rattle.std.proofs.lemmas.Bool.{false≢true, cases_Bool, or_parts}
use Rattle.std.specs.Prelude.{[], ◌∷◌, ◌++◌, is_some, length, map, max, min, nat_le, unwrap_or}
use Rattle.std.specs.List.{fold, range_with_len}
use Rattle.std.proofs.lemmas.List.FromFn.{map-range_with_len_more}
use Rattle.std.proofs.lemmas.Bool.Decides.{nat_tests}
use Rattle.pg_layout.specs.declared.position.Position.{Position}
use Rattle.pg_layout.specs.Colors.{Color}
use Rattle.pg_layout.specs.declared.alignment.AlignmentHorizontal.{AlignmentHorizontal}
use Rattle.pg_layout.specs.declared.alignment.AlignmentHorizontal.TheVariants.{Right}
use Rattle.pg_layout.specs.declared.borders.Borders.{Borders}
use Rattle.pg_layout.specs.declared.position.Entity.TheVariants.{Cell, Column}
use Rattle.pg_layout.specs.declared.sides.Indent.{Indent}
use Rattle.pg_layout.specs.declared.sides.Sides.{Sides}
use Rattle.pg_layout.specs.Records.{text_at}
use Rattle.pg_layout.specs.Text.{Text, greatest}
use Rattle.pg_config.specs.Config.{Config, has_horizontal, has_vertical, get_horizontal, get_padding, get_vertical, missing_if, no_indents}
use Rattle.pg_config.specs.Settings.{Settings, with_setting}
use Rattle.pg_config.proofs.SettingsLaw.{setting_of-with_setting}
use Rattle.pg_table.specs.Numbers.{lacking, own_extent}
use Rattle.pg_table.specs.OwnRows.{is_in_column, longest_rest, widened_right, AreWidened, HasPointsAligned}
use Rattle.pg_table.specs.Coloring.{AreColored, is_striped, with_stripe}
use Rattle.pg_table.specs.Even.{IsNarrowLook}
use Rattle.pg_table.proofs.StraightTables.{told-ground}
use Rattle.std.specs.Option.{option_or}
use Rattle.pg_layout.specs.declared.position.ColumnPlace.{ColumnPlace}
use Rattle.pg_layout.specs.Borders.{ends, no_border, has_bottom, has_left, has_right, has_top, vertical_glyph, horizontal_glyph}
use Rattle.pg_layout.specs.Keys.{by_place, by_columns, column_place, in_row, in_column}
use Rattle.pg_layout.specs.Places.{same, with_some, has_key}
use Rattle.pg_layout.specs.Position.{at, holds}
use Rattle.pg_layout.proofs.KeyedPlaces.{place-laws, columns-laws}
use Rattle.pg_config.specs.Overrides.{Overrides, with_border, has_crossing, horizontal_override, vertical_override, crossing_override, overrides_row, overrides_column}
use Rattle.pg_config.proofs.Lookups.{value_at-with_some, any-with_some}
use Rattle.pg_table.specs.Inside.{column_frame, frame_border, is_of_frame, is_on_line, along, place_on, IsDrawn}
use Rattle.pg_table.specs.Panels.{frame_crossing, frame_corner, frame_horizontal, frame_vertical, along_row, along_column, column_crossing, column_vertical, is_on_column, is_on_row, lacks_row, HasColumnLine, IsFramed}
use Rattle.pg_table.specs.declared.sizes.Axis.{Axis}
use Rattle.pg_table.specs.declared.sizes.Axis.TheVariants.{Columns, Rows}
use Rattle.pg_table.specs.declared.table.lines.Frame.{Frame}

-- where there is a result, it is what the setter left
pub left : {X F : Type 0} (r : Result X F) (new : X) (P : X → Type 0) → P new → IfOk r (λ x. x ≡ new) → IfOk r P
left (Ok x) new P p same = subst P (sym same) p
left (Err fault) new P p same = tt

-- and the setter succeeded
pub set : {X F U E : Type 0} (done : Result U E) (r : Result X F) (new : X) (P : X → Type 0) → (IsOk r → IsOk done) → OnOk done (P new) → IfOk r (λ x. x ≡ new) → IfOk r P
set (Ok u) r new P was p same = left r new P p same
set (Err error) (Ok x) new P was p same = absurd (false≢true (was refl))
set (Err error) (Err fault) new P was p same = tt

-- what follows from what it left
pub weaker : {V E P Q : Type 0} (done : Result V E) → (P → Q) → OnOk done P → OnOk done Q
weaker (Ok value) next p = next p
weaker (Err error) next p = tt

-- ---- cells that get a colour, some after others, and looks over stripes

module _ (color : Color) where
  -- those of one test, and then those of another
  pub colored-more : (some more all : Position → Bool) (old between new : List (Position × Color)) → ((p : Position) → all p ≡ (some p || more p)) → AreColored some color old between → AreColored more color between new → AreColored all color old new
  colored-more some more all old between new is before after p =
      let one = before p in let two = after p in let both = is p in
      elim (cases_Bool (more p)) [
        | inl y ↦ grind (arith, nat_tests, one, two, both, y)
        | inr x ↦ grind (arith, nat_tests, one, two, both, x)
      ]

-- one row more
pub rows-more : (row : ℕ) (here : Bool) (p : Position) → (nat_lt p.row (row + 1) && here) ≡ ((nat_lt p.row row && here) || ((p.row == row) && here))
rows-more row here p = grind (arith, nat_tests)

-- ---- a look stays narrow over stripes

module _ (first step : ℕ) (color : Color) where
  stripe-narrow : (config : Config) (r : ℕ) → IsNarrowLook config → IsNarrowLook (with_stripe first step color config r)
  stripe-narrow config r look =
      elim (cases_Bool (is_striped first step r)) [
        | inl here ↦ rw here (told-ground config look _ _)
        | inr other ↦ rw other look
      ]

  pub stripes-narrow : (rows : List ℕ) (config : Config) → IsNarrowLook config → IsNarrowLook (fold (with_stripe first step color) config rows)
  stripes-narrow [] config look = look
  stripes-narrow (r ∷ rows) config look = stripes-narrow rows (with_stripe first step color config r) (stripe-narrow config r look)

-- ---- cells whose padding grows

module _ (config : Config) (q : Position) (n : ℕ) where
  abbrev grown : Sides Indent
  grown = widened_right n (get_padding config q)

  -- by a setting of the cell
  padding-set : (p : Position) → get_padding (record config { padding = with_setting (Cell q.row q.col) grown config.padding }) p ≡ (if holds (Cell q.row q.col) p then grown else get_padding config p)
  unfolding get_padding
  padding-set p =
      ap (λ o. unwrap_or o no_indents) (setting_of-with_setting (Cell q.row q.col) grown config.padding p)
      ∙ elim (cases_Bool ((p.row == q.row) && (p.col == q.col))) [ inl y ↦ rw y refl | inr o ↦ rw o refl ]

  pub widened-set : (new : Config) → new ≡ record config { padding = with_setting (Cell q.row q.col) grown config.padding } → (p : Position) → get_padding new p ≡ (if holds (Cell q.row q.col) p then grown else get_padding config p)
  widened-set new is p = ap (λ (k : Config). get_padding k p) is ∙ padding-set p

  -- by none
  pub widened-none : min ((get_padding config q).right.size + n) (2 ^ 64 - 1) ≡ (get_padding config q).right.size → (p : Position) → get_padding config p ≡ (if holds (Cell q.row q.col) p then grown else get_padding config p)
  widened-none stays p =
      elim (cases_Bool ((p.row == q.row) && (p.col == q.col))) [
        | inr o ↦ rw o refl
        | inl y ↦
            let there : same by_place q p ≡ true = grind (arith, nat_tests, y) in
            let s : Sides Indent = get_padding config q in
            rw y (ap (λ (k : Position). get_padding config k) (sym (place-laws.same_is q p there)) ∙ ap (λ (k : ℕ). let t : Sides Indent = record s { right = record s.right { size = k } } in t) (sym stays))
      ]

padding-beside : (config : Config) (across : Settings AlignmentHorizontal) (p : Position) → get_padding (record config { alignment_horizontal = across }) p ≡ get_padding config p
unfolding get_padding
padding-beside config across p = refl

greatest-one : (ns : List ℕ) (n : ℕ) → greatest (ns ++ n ∷ []) ≡ max (greatest ns) n
greatest-one [] n = omega arith
greatest-one (m ∷ ms) n = let ih = greatest-one ms n in omega (arith, ih)

module _ (texts : List (List Text)) (from column : ℕ) where
  -- none yet
  pub widened-first : (config : Config) → AreWidened texts from column from config config
  widened-first config p = let none : is_in_column column from from p ≡ false = grind (arith, nat_tests) in rw none refl

  -- one row more
  pub widened-more : (row : ℕ) (old between new : Config) → from ≤ row → AreWidened texts from column row old between → (q : Position) → q ≡ at row column → (n : ℕ) → n ≡ lacking (longest_rest texts from column) (text_at texts q)
      → ((p : Position) → get_padding new p ≡ (if holds (Cell q.row q.col) p then widened_right n (get_padding between q) else get_padding between p)) → AreWidened texts from column (row + 1) old new
  widened-more row old between new low before q here n is after p =
      let k : Position = at row column in
      let lacks : n ≡ lacking (longest_rest texts from column) (text_at texts k) = is ∙ ap (λ (p : Position). lacking (longest_rest texts from column) (text_at texts p)) here in
      let own = rw (here, lacks) at after in
      elim (cases_Bool ((p.row == row) && (p.col == column))) [
        | inr o ↦
            let same_test : is_in_column column from (row + 1) p ≡ is_in_column column from row p = grind (arith, nat_tests, o) in
            own p ∙ rw (o, same_test) (before p)
        | inl y ↦
            let there : same by_place k p ≡ true = grind (arith, nat_tests, y) in
            let on : ((k.row == row) && (k.col == column)) ≡ true = grind (arith, nat_tests) in
            let none : is_in_column column from row k ≡ false = grind (arith, nat_tests) in
            let inside : is_in_column column from (row + 1) k ≡ true = grind (arith, nat_tests, low) in
            subst (λ (p : Position). get_padding new p ≡ (if is_in_column column from (row + 1) p then widened_right (lacking (longest_rest texts from column) (text_at texts p)) (get_padding old p) else get_padding old p))
            (place-laws.same_is k p there) (own k ∙ rw (on, inside) (ap (λ (s : Sides Indent). widened_right (lacking (longest_rest texts from column) (text_at texts k)) s) (before k ∙ rw none refl)))
      ]

  -- all rows
  pub points-aligned : (to : ℕ) (old between new : Config) → length texts ≤ to → to ≤ max from (length texts) → AreWidened texts from column to old between → between ≡ record old { padding = between.padding }
      → new ≡ record between { alignment_horizontal = with_setting (Column column) Right between.alignment_horizontal } → HasPointsAligned texts from column old new
  points-aligned to old between new past bound widened others is = record {
    paddings = λ p.
        let same_test : is_in_column column from (length texts) p ≡ is_in_column column from to p = grind (arith, nat_tests, past, bound) in
        ap (λ (k : Config). get_padding k p) is ∙ padding-beside between _ p ∙ rw same_test (widened p);
    others =
        is ∙ ap (λ (k : Config). let told : Config = record k { alignment_horizontal = with_setting (Column column) Right k.alignment_horizontal } in told) others
        ∙ ap (λ s. let told : Config = record old { padding = s; alignment_horizontal = with_setting (Column column) Right old.alignment_horizontal } in told) (sym (ap (λ (k : Config). k.padding) is));
  }

  -- the longest rest, one row more
  pub rest-more : (row longest : ℕ) → from ≤ row → longest ≡ greatest (map (λ r. (own_extent (text_at texts (at r column))).rest) (range_with_len from (row - from)))
      → max longest (own_extent (text_at texts (at row column))).rest ≡ greatest (map (λ r. (own_extent (text_at texts (at r column))).rest) (range_with_len from ((row + 1) - from)))
  rest-more row longest low is =
      let f : ℕ → ℕ = λ r. (own_extent (text_at texts (at r column))).rest in
      let long : (row + 1) - from ≡ (row - from) + 1 = omega (arith, low) in
      ap (λ n. max n (f row)) is ∙ sym (rw long (ap greatest (map-range_with_len_more f from (row - from) row (omega (arith, low))) ∙ greatest-one (map f (range_with_len from (row - from))) (f row)))

-- ---- a border of three places

set-places : (p : Position) (t l c : Option ℕ) (o : Overrides ℕ) → with_border p (record no_border { top = t; left = l; top_left = c }) o ≡ record { horizontals = with_some by_place p t o.horizontals; verticals = with_some by_columns (column_place p) l o.verticals; crossings = with_some by_place p c o.crossings }
unfolding with_border
set-places p t l c o =
    elim (cases_Bool (nat_lt p.row (2 ^ 64 - 1))) [
      | inl y ↦ elim (cases_Bool (nat_lt p.col (2 ^ 64 - 1))) [ inl z ↦ rw (y, z) refl | inr z ↦ rw (y, z) refl ]
      | inr y ↦ elim (cases_Bool (nat_lt p.col (2 ^ 64 - 1))) [ inl z ↦ rw (y, z) refl | inr z ↦ rw (y, z) refl ]
    ]

-- a line that is there where a place of it gets a value is there or not as before
stays : (side one two set : Bool) → (set ≡ true → (side || (one || two)) ≡ true) → (side || (one || (set || two))) ≡ (side || (one || two))
stays true one two set there = refl
stays false true two set there = refl
stays false false two false there = refl
stays false false two true there = sym (there refl)

and-swap : (a b : Bool) → (a && b) ≡ (b && a)
and-swap true true = refl
and-swap true false = refl
and-swap false true = refl
and-swap false false = refl

none-set : {X : Type 0} (o : Option X) → o ≡ None → is_some o ≡ true → false ≡ true
none-set o none some = sym (ap is_some none) ∙ some

-- ---- places off the lines of a frame

module _ (f : Frame) (p : Position) where
  no-horizontal : is_on_row f p ≡ false → frame_horizontal f p ≡ None
  no-horizontal off =
      let parts = or_parts (p.row == f.first.row) (p.row == f.last.row) off in
      elim (cases_Bool (nat_le f.first.col p.col && nat_lt p.col f.last.col)) [
        | inl y ↦ rw (y, parts.0, parts.1) refl
        | inr n ↦ rw n refl
      ]

  no-vertical : is_on_column f p ≡ false → frame_vertical f p ≡ None
  no-vertical off =
      let parts = or_parts (p.col == f.first.col) (p.col == f.last.col) off in
      elim (cases_Bool (nat_le f.first.row p.row && nat_lt p.row f.last.row)) [
        | inl y ↦ rw (y, parts.0, parts.1) refl
        | inr n ↦ rw n refl
      ]

  no-crossing-row : (config : Config) → is_on_row f p ≡ false → has_horizontal config p.row f.rows ≡ false → frame_crossing f config p ≡ None
  no-crossing-row config off none =
      elim (cases_Bool (nat_le p.row f.rows && nat_le p.col f.columns)) [
        | inr n ↦ rw n refl
        | inl y ↦ elim (cases_Bool (is_on_column f p)) [
          | inl on ↦ rw (y, off, on, none) refl
          | inr out ↦ rw (y, off, out) refl
        ]
      ]

  no-crossing-column : (config : Config) → is_on_column f p ≡ false → has_vertical config p.col f.columns ≡ false → frame_crossing f config p ≡ None
  no-crossing-column config off none =
      elim (cases_Bool (nat_le p.row f.rows && nat_le p.col f.columns)) [
        | inr n ↦ rw n refl
        | inl y ↦ elim (cases_Bool (is_on_row f p)) [
          | inl on ↦ rw (y, off, on, none) refl
          | inr out ↦ rw (y, off, out) refl
        ]
      ]

-- ---- one place

module _ (f : Frame) (p : Position) (old : Config) where
  abbrev drawn : Overrides ℕ
  drawn = record {
    horizontals = with_some by_place p (frame_horizontal f p) old.overrides.horizontals;
    verticals = with_some by_columns (column_place p) (frame_vertical f p) old.overrides.verticals;
    crossings = with_some by_place p (frame_crossing f old p) old.overrides.crossings;
  }

  one-horizontal : (q : Position) → horizontal_override drawn q ≡ (if same by_place p q then option_or (frame_horizontal f q) (horizontal_override old.overrides q) else horizontal_override old.overrides q)
  unfolding horizontal_override
  one-horizontal q =
      value_at-with_some place-laws q p (frame_horizontal f p) old.overrides.horizontals
      ∙ elim (cases_Bool (same by_place p q)) [
        | inl y ↦ rw y (ap (λ (k : Position). option_or (frame_horizontal f k) (horizontal_override old.overrides q)) (place-laws.same_is p q y))
        | inr n ↦ rw n refl
      ]

  one-vertical : (q : Position) → vertical_override drawn q ≡ (if same by_place p q then option_or (frame_vertical f q) (vertical_override old.overrides q) else vertical_override old.overrides q)
  unfolding vertical_override
  one-vertical q =
      value_at-with_some columns-laws (column_place q) (column_place p) (frame_vertical f p) old.overrides.verticals
      ∙ rw (and-swap (p.col == q.col) (p.row == q.row)) (elim (cases_Bool (same by_place p q)) [
        | inl y ↦ rw y (ap (λ (k : Position). option_or (frame_vertical f k) (vertical_override old.overrides q)) (place-laws.same_is p q y))
        | inr n ↦ rw n refl
      ])

  one-crossing : (q : Position) → crossing_override drawn q ≡ (if same by_place p q then option_or (frame_crossing f old q) (crossing_override old.overrides q) else crossing_override old.overrides q)
  unfolding crossing_override
  one-crossing q =
      value_at-with_some place-laws q p (frame_crossing f old p) old.overrides.crossings
      ∙ elim (cases_Bool (same by_place p q)) [
        | inl y ↦ rw y (ap (λ (k : Position). option_or (frame_crossing f old k) (crossing_override old.overrides q)) (place-laws.same_is p q y))
        | inr n ↦ rw n refl
      ]

  row-there : is_on_row f p ≡ false → is_some (frame_crossing f old p) ≡ true → has_horizontal old p.row f.rows ≡ true
  row-there off some =
      elim (cases_Bool (has_horizontal old p.row f.rows)) [
        | inl y ↦ y
        | inr n ↦ absurd (false≢true (none-set (frame_crossing f old p) (no-crossing-row f p old off n) some))
      ]

  column-there : is_on_column f p ≡ false → is_some (frame_crossing f old p) ≡ true → has_vertical old p.col f.columns ≡ true
  column-there off some =
      elim (cases_Bool (has_vertical old p.col f.columns)) [
        | inl y ↦ y
        | inr n ↦ absurd (false≢true (none-set (frame_crossing f old p) (no-crossing-column f p old off n) some))
      ]

  one-row : (q : Position) → is_on_row f q ≡ false → has_horizontal (record old { overrides = drawn }) q.row f.rows ≡ has_horizontal old q.row f.rows
  unfolding has_horizontal overrides_row
  one-row q off =
      rw (any-with_some place-laws (in_row q.row) p (frame_horizontal f p) old.overrides.horizontals, any-with_some place-laws (in_row q.row) p (frame_crossing f old p) old.overrides.crossings)
      (elim (cases_Bool (p.row == q.row)) [
        | inr other ↦ rw other refl
        | inl here ↦
            let row : p.row ≡ q.row = grind (arith, nat_tests, here) in
            let its : is_on_row f p ≡ false = subst (λ (r : ℕ). ((r == f.first.row) || (r == f.last.row)) ≡ false) (sym row) off in
            rw (here, no-horizontal f p its) (stays _ _ _ (is_some (frame_crossing f old p)) (λ some. subst (λ (r : ℕ). has_horizontal old r f.rows ≡ true) row (row-there its some)))
      ])

  one-column : (q : Position) → is_on_column f q ≡ false → has_vertical (record old { overrides = drawn }) q.col f.columns ≡ has_vertical old q.col f.columns
  unfolding has_vertical overrides_column
  one-column q off =
      rw (any-with_some columns-laws (in_column q.col) (column_place p) (frame_vertical f p) old.overrides.verticals, any-with_some place-laws (λ k. k.col == q.col) p (frame_crossing f old p) old.overrides.crossings)
      (elim (cases_Bool (p.col == q.col)) [
        | inr other ↦ rw other refl
        | inl here ↦
            let column : p.col ≡ q.col = grind (arith, nat_tests, here) in
            let its : is_on_column f p ≡ false = subst (λ (k : ℕ). ((k == f.first.col) || (k == f.last.col)) ≡ false) (sym column) off in
            rw (here, no-vertical f p its) (stays _ _ _ (is_some (frame_crossing f old p)) (λ some. subst (λ (k : ℕ). has_vertical old k f.columns ≡ true) column (column-there its some)))
      ])

  pub drawn-place : (new : Config) → new ≡ record old { overrides = with_border p (frame_border f old p) old.overrides } → IsDrawn f (λ q. same by_place p q) old new
  drawn-place new is =
      let set : new ≡ record old { overrides = drawn } = is ∙ ap (λ (o : Overrides ℕ). let config : Config = record old { overrides = o } in config) (set-places p (frame_horizontal f p) (frame_vertical f p) (frame_crossing f old p) old.overrides) in
      rw set (record {
        horizontals = one-horizontal;
        verticals = one-vertical;
        crossings = one-crossing;
        others = refl;
        rows = one-row;
        columns = one-column;
      })

-- ---- some places, and then others

or-again : {X : Type 0} (a b : Option X) → option_or a (option_or a b) ≡ option_or a b
or-again None b = refl
or-again (Some x) b = refl

-- a place that is drawn again keeps its glyph
again : {X : Type 0} (one two all : Bool) (glyph same old between new : Option X) → same ≡ glyph → all ≡ (one || two) → between ≡ (if one then option_or glyph old else old) → new ≡ (if two then option_or same between else between) → new ≡ (if all then option_or glyph old else old)
again true true all glyph same old between new one is before after = rw (after, before, is, one) (or-again glyph old)
again true false all glyph same old between new one is before after = rw (after, before, is) refl
again false true all glyph same old between new one is before after = rw (after, before, is, one) refl
again false false all glyph same old between new one is before after = rw (after, before, is) refl

module _ (f : Frame) (one : Position → Bool) (a b : Config) (before : IsDrawn f one a b) where
  vertical-before : (p : Position) → is_on_column f p ≡ false → vertical_override b.overrides p ≡ vertical_override a.overrides p
  vertical-before p off =
      before.verticals p ∙ rw (no-vertical f p off) (elim (cases_Bool (one p)) [ inl y ↦ rw y refl | inr n ↦ rw n refl ])

  horizontal-before : (p : Position) → is_on_row f p ≡ false → horizontal_override b.overrides p ≡ horizontal_override a.overrides p
  horizontal-before p off =
      before.horizontals p ∙ rw (no-horizontal f p off) (elim (cases_Bool (one p)) [ inl y ↦ rw y refl | inr n ↦ rw n refl ])

  get-vertical-before : (p : Position) → is_on_column f p ≡ false → get_vertical b p f.columns ≡ get_vertical a p f.columns
  unfolding get_vertical
  get-vertical-before p off =
      rw (vertical-before p off, before.columns p off, ap (λ (config : Config). config.borders) before.others, ap (λ (config : Config). config.missing) before.others) refl

  get-horizontal-before : (p : Position) → is_on_row f p ≡ false → get_horizontal b p f.rows ≡ get_horizontal a p f.rows
  unfolding get_horizontal
  get-horizontal-before p off =
      rw (horizontal-before p off, before.rows p off, ap (λ (config : Config). config.borders) before.others, ap (λ (config : Config). config.missing) before.others) refl

  crossing-before : (p : Position) → frame_crossing f b p ≡ frame_crossing f a p
  crossing-before p =
      elim (cases_Bool (is_on_row f p)) [
        | inl row ↦ elim (cases_Bool (is_on_column f p)) [
          | inl column ↦ rw (row, column) refl
          | inr off ↦ rw (row, off, before.columns p off, get-vertical-before p off) refl
        ]
        | inr out ↦ elim (cases_Bool (is_on_column f p)) [
          | inl column ↦ rw (out, column, before.rows p out, get-horizontal-before p out) refl
          | inr off ↦ rw (out, off) refl
        ]
      ]

  pub drawn-more : (two all : Position → Bool) (c : Config) → ((p : Position) → all p ≡ (one p || two p)) → IsDrawn f two b c → IsDrawn f all a c
  drawn-more two all c is after = record {
    horizontals = λ p. again (one p) (two p) (all p) (frame_horizontal f p) (frame_horizontal f p) (horizontal_override a.overrides p) (horizontal_override b.overrides p) (horizontal_override c.overrides p) refl (is p) (before.horizontals p) (after.horizontals p);
    verticals = λ p. again (one p) (two p) (all p) (frame_vertical f p) (frame_vertical f p) (vertical_override a.overrides p) (vertical_override b.overrides p) (vertical_override c.overrides p) refl (is p) (before.verticals p) (after.verticals p);
    crossings = λ p. again (one p) (two p) (all p) (frame_crossing f a p) (frame_crossing f b p) (crossing_override a.overrides p) (crossing_override b.overrides p) (crossing_override c.overrides p) (crossing-before p) (is p) (before.crossings p) (after.crossings p);
    others = after.others ∙ ap (λ (config : Config). let told : Config = record config { overrides = c.overrides } in told) before.others;
    rows = λ p off. after.rows p off ∙ before.rows p off;
    columns = λ p off. after.columns p off ∙ before.columns p off;
  }

-- ---- a line

-- nothing is drawn
pub drawn-none : (f : Frame) (done : Position → Bool) (config : Config) → ((p : Position) → done p ≡ false) → IsDrawn f done config config
drawn-none f done config none = record {
  horizontals = λ p. rw (none p) refl;
  verticals = λ p. rw (none p) refl;
  crossings = λ p. rw (none p) refl;
  others = refl;
  rows = λ p off. refl;
  columns = λ p off. refl;
}

-- the first places of a line
abbrev pub is_before : Axis → ℕ → ℕ → Position → Bool
is_before axis line place p = is_on_line axis line p && nat_lt (along axis p) place

pub none-before : (axis : Axis) (line : ℕ) (p : Position) → is_before axis line 0 p ≡ false
none-before Rows line p = grind (arith, nat_tests)
none-before Columns line p = grind (arith, nat_tests)

place-more : (axis : Axis) (line place : ℕ) (p : Position) → is_before axis line (place + 1) p ≡ (is_before axis line place p || same by_place (place_on axis line place) p)
place-more Rows line place p = grind (arith, nat_tests)
place-more Columns line place p = grind (arith, nat_tests)

place-last : (axis : Axis) (line place : ℕ) (p : Position) → (is_on_line axis line p && nat_le (along axis p) place) ≡ (is_before axis line place p || same by_place (place_on axis line place) p)
place-last Rows line place p = grind (arith, nat_tests)
place-last Columns line place p = grind (arith, nat_tests)

module _ (f : Frame) (axis : Axis) (line place : ℕ) (old between : Config) (before : IsDrawn f (is_before axis line place) old between) (p : Position) (here : p ≡ place_on axis line place) (new : Config) (is : new ≡ record between { overrides = with_border p (frame_border f between p) between.overrides }) where
  one-place : IsDrawn f (λ q. same by_place (place_on axis line place) q) between new
  one-place = subst (λ (k : Position). IsDrawn f (λ q. same by_place k q) between new) here (drawn-place f p between new is)

  pub line-more : IsDrawn f (is_before axis line (place + 1)) old new
  line-more = drawn-more f (is_before axis line place) old between before (λ q. same by_place (place_on axis line place) q) (is_before axis line (place + 1)) new (place-more axis line place) one-place

  pub line-last : IsDrawn f (λ q. is_on_line axis line q && nat_le (along axis q) place) old new
  line-last = drawn-more f (is_before axis line place) old between before (λ q. same by_place (place_on axis line place) q) (λ q. is_on_line axis line q && nat_le (along axis q) place) new (place-last axis line place) one-place

-- ---- four lines

none-else : {X : Type 0} (done : Bool) (glyph old new : Option X) → (done ≡ false → glyph ≡ None) → new ≡ (if done then option_or glyph old else old) → new ≡ option_or glyph old
none-else true glyph old new none is = is
none-else false glyph old new none is = is ∙ rw (none refl) refl

module _ (f : Frame) (row : f.last.row ≤ f.rows) (column : f.last.col ≤ f.columns) (p : Position) (off : is_of_frame f p ≡ false) where
  horizontal-off : frame_horizontal f p ≡ None
  horizontal-off =
      elim (cases_Bool (is_on_row f p)) [
        | inr out ↦ no-horizontal f p out
        | inl on ↦
            let parts = or_parts (is_on_row f p && nat_le p.col f.columns) (is_on_column f p && nat_le p.row f.rows) off in
            let far : nat_le p.col f.columns ≡ false = rw on at parts.0 in
            let behind : (nat_le f.first.col p.col && nat_lt p.col f.last.col) ≡ false = grind (arith, nat_tests, far, column) in
            rw behind refl
      ]

  vertical-off : frame_vertical f p ≡ None
  vertical-off =
      elim (cases_Bool (is_on_column f p)) [
        | inr out ↦ no-vertical f p out
        | inl on ↦
            let parts = or_parts (is_on_row f p && nat_le p.col f.columns) (is_on_column f p && nat_le p.row f.rows) off in
            let far : nat_le p.row f.rows ≡ false = rw on at parts.1 in
            let behind : (nat_le f.first.row p.row && nat_lt p.row f.last.row) ≡ false = grind (arith, nat_tests, far, row) in
            rw behind refl
      ]

  crossing-off : (config : Config) → frame_crossing f config p ≡ None
  crossing-off config =
      elim (cases_Bool (nat_le p.row f.rows && nat_le p.col f.columns)) [
        | inr n ↦ rw n refl
        | inl y ↦
            let parts = or_parts (is_on_row f p && nat_le p.col f.columns) (is_on_column f p && nat_le p.row f.rows) off in
            let near : nat_le p.row f.rows ≡ true = grind (arith, nat_tests, y) in
            let left : nat_le p.col f.columns ≡ true = grind (arith, nat_tests, y) in
            let out : is_on_row f p ≡ false = grind (arith, nat_tests, left, parts.0) in
            let away : is_on_column f p ≡ false = grind (arith, nat_tests, near, parts.1) in
            rw (y, out, away) refl
      ]

pub drawn-frame : (f : Frame) (old new : Config) → f.last.row ≤ f.rows → f.last.col ≤ f.columns → IsDrawn f (is_of_frame f) old new → IsFramed f old new
drawn-frame f old new row column drawn = record {
  horizontals = λ p. none-else (is_of_frame f p) _ _ _ (horizontal-off f row column p) (drawn.horizontals p);
  verticals = λ p. none-else (is_of_frame f p) _ _ _ (vertical-off f row column p) (drawn.verticals p);
  crossings = λ p. none-else (is_of_frame f p) (frame_crossing f old p) _ _ (λ off. crossing-off f row column p off old) (drawn.crossings p);
  others = drawn.others;
}

module _ (f : Frame) (a b c d e : Config) where
  abbrev line : Axis → ℕ → ℕ → Position → Bool
  line axis i count p = is_on_line axis i p && nat_le (along axis p) count

  pub drawn-lines : IsDrawn f (line Rows f.first.row f.columns) a b → IsDrawn f (line Rows f.last.row f.columns) b c → IsDrawn f (line Columns f.first.col f.rows) c d → IsDrawn f (line Columns f.last.col f.rows) d e → IsDrawn f (is_of_frame f) a e
  drawn-lines top bottom left right =
      let rows = drawn-more f (line Rows f.first.row f.columns) a b top (line Rows f.last.row f.columns) (λ p. is_on_row f p && nat_le p.col f.columns) c (λ p. both (p.row == f.first.row) (p.row == f.last.row) (nat_le p.col f.columns)) bottom in
      let more = drawn-more f (λ p. is_on_row f p && nat_le p.col f.columns) a c rows (line Columns f.first.col f.rows) (λ p. (is_on_row f p && nat_le p.col f.columns) || line Columns f.first.col f.rows p) d (λ p. refl) left in
      drawn-more f (λ p. (is_on_row f p && nat_le p.col f.columns) || line Columns f.first.col f.rows p) a d more (line Columns f.last.col f.rows) (is_of_frame f) e (λ p. three (is_on_row f p && nat_le p.col f.columns) (p.col == f.first.col) (p.col == f.last.col) (nat_le p.row f.rows)) right
    where
      both : (x y z : Bool) → ((x || y) && z) ≡ ((x && z) || (y && z))
      both true true true = refl
      both true true false = refl
      both true false true = refl
      both true false false = refl
      both false y z = refl

      three : (o x y z : Bool) → (o || ((x || y) && z)) ≡ ((o || (x && z)) || (y && z))
      three true x y z = refl
      three false x y z = both x y z

-- ---- a frame with a left side alone is a line between columns

and-never : (a b : Bool) → b ≡ false → (a && b) ≡ false
and-never true b none = none
and-never false b none = refl

if-same : (b : Bool) (o : Option ℕ) → (if b then o else o) ≡ o
if-same true o = refl
if-same false o = refl

module _ (c : ℕ) (b : Borders ℕ) (rows columns : ℕ) (config : Config) (p : Position) where
  abbrev f : Frame
  f = column_frame c b rows columns config

  column-horizontal : frame_horizontal f p ≡ None
  column-horizontal = let away : (nat_le f.first.col p.col && nat_lt p.col f.last.col) ≡ false = grind (arith, nat_tests) in rw away refl

  column-vertical : frame_vertical f p ≡ column_vertical c b rows columns p
  column-vertical =
      let past : (nat_le f.first.row p.row && nat_lt p.row f.last.row) ≡ nat_lt p.row rows = grind (arith, nat_tests) in
      elim (cases_Bool (nat_lt 0 c && nat_lt c columns)) [
        | inl inner ↦
            let line : min columns c ≡ c = grind (arith, nat_tests, inner) in
            rw (past, inner, line) (elim (cases_Bool (p.col == c)) [
              | inl on ↦ rw on refl
              | inr off ↦ rw off (if-same (nat_lt p.row rows) None)
            ])
        | inr outer ↦ rw (past, outer) (elim (cases_Bool (p.col == min columns c)) [
          | inl on ↦ rw on (if-same (nat_lt p.row rows) None)
          | inr off ↦ rw off (if-same (nat_lt p.row rows) None)
        ])
      ]

  -- no row line goes on beyond it
  column-row : along_row f config p ≡ None
  column-row =
      let away : (nat_lt f.first.col p.col && nat_lt p.col f.last.col) ≡ false = grind (arith, nat_tests) in
      let top : f.adds.top ≡ false = and-never (has_top f.glyphs) (lacks_row config 0 rows) refl in
      let low : nat_lt rows rows ≡ false = grind (arith, nat_tests) in
      let bottom : f.adds.bottom ≡ false = and-never (has_bottom f.glyphs) (lacks_row config rows rows) (rw low (rw (and-never (nat_lt 0 rows) false refl) refl)) in
      rw (away, top, bottom) (elim (cases_Bool (p.row == 0)) [ inl y ↦ rw y refl | inr n ↦ rw n refl ])

  -- where there is no such line, it has no crossing
  outer-corner : (nat_lt 0 c && nat_lt c columns) ≡ false → frame_corner f p ≡ None
  outer-corner outer =
      rw outer (elim (cases_Bool (p.row == 0)) [
        | inl y ↦ rw y (if-same (p.col == min columns c) None)
        | inr n ↦ rw n (if-same (p.col == min columns c) None)
      ])

  outer-column : (nat_lt 0 c && nat_lt c columns) ≡ false → along_column f config p ≡ None
  unfolding has_left has_right
  outer-column outer =
      rw outer (elim (cases_Bool (nat_lt 0 p.row && nat_lt p.row rows)) [
        | inl y ↦ rw y (if-same (p.col == min columns c) None)
        | inr n ↦ rw n (elim (cases_Bool (p.col == min columns c)) [ inl on ↦ rw on refl | inr off ↦ rw off refl ])
      ])

  -- and where there is one, it has one with each row line
  inner-crossing : (nat_lt 0 c && nat_lt c columns) ≡ true → (p.col == c) ≡ true → nat_le p.row rows ≡ true
      → (if is_on_row f p then frame_corner f p else if has_horizontal config p.row rows then along_column f config p else None) ≡ (if has_horizontal config p.row rows then ends b.top_intersection b.intersection b.bottom_intersection p.row rows else None)
  inner-crossing inner on within =
      let line : min columns c ≡ c = grind (arith, nat_tests, inner) in
      elim (cases_Bool (p.row == 0)) [
        | inl first ↦
            let zero : p.row ≡ 0 = grind (arith, nat_tests, first) in
            let there : has_horizontal config p.row rows ≡ has_horizontal config 0 rows = ap (λ (r : ℕ). has_horizontal config r rows) zero in
            rw (inner, line, first, on, there) refl
        | inr later ↦ elim (cases_Bool (p.row == rows)) [
          | inl last ↦
              let end : p.row ≡ rows = grind (arith, nat_tests, last) in
              let there : has_horizontal config p.row rows ≡ has_horizontal config rows rows = ap (λ (r : ℕ). has_horizontal config r rows) end in
              rw (inner, line, later, last, on, there) refl
          | inr between ↦
              let low : nat_lt 0 p.row ≡ true = grind (arith, nat_tests, later) in
              let high : nat_lt p.row rows ≡ true = grind (arith, nat_tests, within, between) in
              rw (inner, line, later, between, on, low, high) refl
        ]
      ]

  column-crossing : frame_crossing f config p ≡ column_crossing c b rows columns config p
  column-crossing =
      crossing-parts (nat_le p.row rows && nat_le p.col columns) (is_on_row f p) (is_on_column f p) (has_vertical config p.col columns) (has_horizontal config p.row rows) (frame_corner f p) (along_row f config p) (along_column f config p) column-row
      ∙ elim (cases_Bool (nat_lt 0 c && nat_lt c columns)) [
        | inr outer ↦ only-none (nat_le p.row rows && nat_le p.col columns) (is_on_column f p) (is_on_row f p) (has_horizontal config p.row rows) _ _ (outer-corner outer) (outer-column outer) ∙ rw outer refl
        | inl inner ↦
            let line : min columns c ≡ c = grind (arith, nat_tests, inner) in
            elim (cases_Bool (p.col == c)) [
              | inr off ↦
                  let out : is_on_column f p ≡ false = rw (line, off) refl in
                  let none : ((nat_le p.row rows && nat_le p.col columns) && is_on_column f p) ≡ false = and-never _ _ out in
                  rw none (rw (inner, off) refl)
              | inl on ↦
                  let column : is_on_column f p ≡ true = rw (line, on) refl in
                  let near : nat_le p.col columns ≡ true = grind (arith, nat_tests, inner, on) in
                  elim (cases_Bool (nat_le p.row rows)) [
                    | inr far ↦ rw (far, inner, on) refl
                    | inl within ↦ rw (column, near, within) (inner-crossing inner on within ∙ rw (inner, on) refl)
                  ]
            ]
      ]
    where
      crossing-parts : (inside row column v h : Bool) (corner along beside : Option ℕ) → along ≡ None
          → (if not inside then None else if row && column then corner else if row then (if v then along else None) else if column then (if h then beside else None) else None)
          ≡ (if inside && column then (if row then corner else if h then beside else None) else None)
      crossing-parts false row column v h corner along beside none = refl
      crossing-parts true true true v h corner along beside none = refl
      crossing-parts true true false true h corner along beside none = none
      crossing-parts true true false false h corner along beside none = refl
      crossing-parts true false true v h corner along beside none = refl
      crossing-parts true false false v h corner along beside none = refl

      only-none : (inside column row h : Bool) (corner beside : Option ℕ) → corner ≡ None → beside ≡ None → (if inside && column then (if row then corner else if h then beside else None) else None) ≡ None
      only-none inside column row h corner beside one two = rw (one, two, if-same h None, if-same row None) (if-same (inside && column) None)

pub column-drawn : (c : ℕ) (b : Borders ℕ) (rows columns : ℕ) (old new : Config) → IsFramed (column_frame c b rows columns old) old new → HasColumnLine c b rows columns old new
column-drawn c b rows columns old new framed = record {
  horizontals = λ p. framed.horizontals p ∙ ap (λ o. option_or o (horizontal_override old.overrides p)) (column-horizontal c b rows columns old p);
  verticals = λ p. framed.verticals p ∙ ap (λ o. option_or o (vertical_override old.overrides p)) (column-vertical c b rows columns old p);
  crossings = λ p. framed.crossings p ∙ ap (λ o. option_or o (crossing_override old.overrides p)) (column-crossing c b rows columns old p);
  others = framed.others;
}

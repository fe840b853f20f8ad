-- The widths of columns, and those of the table at the fitted texts.
use Rattle.std.proofs.Common.{Option, Bool, true, false, cond, nat_le, ◌≡◌, ℕ, zero, suc, ◌+◌, ◌-◌, ◌<◌, ◌≤◌, max, List, [], ◌∷◌, map, length, get_or, slice_index, sum, sum_by, zero-add, refl, sym, ap, ◌∙◌, arith}
use Rattle.std.specs.Bool.{OnTrue}
use Rattle.std.specs.List.{range_with_len}
use Rattle.std.proofs.lemmas.List.Sums.{sum_by-cons}
use Rattle.std.proofs.lemmas.List.FromFn.{length-map-range_with_len, get_or-map-range_with_len}
use Rattle.std.proofs.lemmas.Bool.Decides.{nat_tests}
use Rattle.pg_layout.specs.declared.alignment.Formatting.{Formatting}
use Rattle.pg_layout.specs.declared.position.Position.{Position}
use Rattle.pg_layout.specs.Colors.{Color}
use Rattle.pg_layout.specs.Position.{at}
use Rattle.pg_layout.specs.Records.{text_at}
use Rattle.pg_layout.specs.Text.{Text, greatest}
use Rattle.pg_config.specs.Config.{Config, get_formatting}
use Rattle.pg_fit.specs.declared.narrowing.ColumnRange.{ColumnRange}
use Rattle.pg_fit.specs.Narrowing.{least_total, natural_total, none}
use Rattle.pg_fit.proofs.NarrowedWidths.{fills, within_ranges, limits_hold, stay_natural}
use Rattle.pg_picture.specs.Pieces.{widest}
use Rattle.pg_picture.specs.Table.{full_width}
use Rattle.pg_table.specs.declared.overflow.Overflow.{Overflow}
use Rattle.pg_table.specs.declared.sizes.Axis.TheVariants.{Columns}
use Rattle.pg_table.specs.Natural.{paddings, cell_size, natural_size, natural_sizes, natural_table}
use Rattle.pg_table.specs.Inside.{HasPlainWidths, plain_full_width, plain_size}
use Rattle.pg_table.specs.Fitted.{overflowed, fitted_text, least_text_width, least_column_width, beside_columns, limit_of, column_range, column_ranges, column_widths, fitted_at, column_texts}
use Rattle.pg_table.proofs.ListedSizes.{size-at}
use Rattle.pg_table.proofs.NaturalRoom.{full_width-is, plain-covers, plain-naturals}

-- ---- numbers over a range

-- the greatest is no greater than a bound, and than the greatest of others
pub greatest-below : (f : ℕ → ℕ) (a n b : ℕ) → ((k : ℕ) → a ≤ k → k < a + n → f k ≤ b) → greatest (map f (range_with_len a n)) ≤ b
greatest-below f a zero b each = omega arith
greatest-below f a (suc n) b each =
    omega (arith, each a (omega arith) (omega arith), greatest-below f (a + 1) n b (λ k l h. each k (omega (arith, l)) (omega (arith, h))))

greatest-mono : (f g : ℕ → ℕ) (a n : ℕ) → ((k : ℕ) → f k ≤ g k) → greatest (map f (range_with_len a n)) ≤ greatest (map g (range_with_len a n))
greatest-mono f g a zero each = omega arith
greatest-mono f g a (suc n) each = omega (arith, each a, greatest-mono f g (a + 1) n each)

sum-mono : (f g : ℕ → ℕ) (a n : ℕ) → ((k : ℕ) → a ≤ k → k < a + n → f k ≤ g k) → sum_by f (range_with_len a n) ≤ sum_by g (range_with_len a n)
sum-mono f g a zero each = omega arith
sum-mono f g a (suc n) each =
    omega (arith, sum_by-cons f a (range_with_len (a + 1) n), sum_by-cons g a (range_with_len (a + 1) n), each a (omega arith) (omega arith), sum-mono f g (a + 1) n (λ k l h. each k (omega (arith, l)) (omega (arith, h))))

-- equal functions make equal lists
pub same-listed : {X : Type 0} (f g : ℕ → X) (a n : ℕ) → ((k : ℕ) → a ≤ k → k < a + n → f k ≡ g k) → map f (range_with_len a n) ≡ map g (range_with_len a n)
same-listed f g a zero each = refl
same-listed f g a (suc n) each =
    ap (λ x. x ∷ map f (range_with_len (a + 1) n)) (each a (omega arith) (omega arith))
    ∙ ap (λ xs. g a ∷ xs) (same-listed f g (a + 1) n (λ k l h. each k (omega (arith, l)) (omega (arith, h))))

-- the sum of a list, by its places
pub sum-places : (f : ℕ → ℕ) (xs : List ℕ) (a : ℕ) → ((i : ℕ) → i < length xs → f (a + i) ≡ get_or xs i 0) → sum_by f (range_with_len a (length xs)) ≡ sum xs
sum-places f [] a each = refl
sum-places f (x ∷ xs) a each =
    let first : f a ≡ x = (let none : a ≡ a + 0 = omega arith in ap f none ∙ each 0 (omega arith)) in
    omega (
      arith,
      sum_by-cons f a (range_with_len (a + 1) (length xs)),
      sum_by-cons (λ (n : ℕ). n) x xs,
      first,
      sum-places f xs (a + 1) (λ i l. let next : a + 1 + i ≡ a + suc i = omega arith in ap f next ∙ each (suc i) (omega arith)),
    )

-- ---- texts that stay

-- what follows from a test that holds
pub on-true : (b : Bool) (P : Type 0) → (b ≡ true → P) → OnTrue b P
on-true true P h = h refl
on-true false P h = tt

pub fitted_text-stays : (how : Overflow) (f : Formatting) (width : ℕ) (text : Text) → widest f text ≤ width → fitted_text how f width text ≡ text
unfolding fitted_text
fitted_text-stays how f width text low = let yes : nat_le (widest f text) width ≡ true = grind (arith, nat_tests) in ap (λ v. cond v text (overflowed how width text)) yes

pub fitted_text-overflows : (how : Overflow) (f : Formatting) (width : ℕ) (text : Text) → width < widest f text → fitted_text how f width text ≡ overflowed how width text
unfolding fitted_text
fitted_text-overflows how f width text wide = let no : nat_le (widest f text) width ≡ false = grind (arith, nat_tests) in ap (λ v. cond v text (overflowed how width text)) no

module _ (how : Overflow) (total : ℕ) (limits : List ℕ) (config : Config) (texts : List (List Text)) (columns : ℕ) where
  abbrev pub least : ℕ → ℕ
  least k = least_column_width how config (text_at texts) (length texts) k

  -- the natural width without spans
  abbrev pub natural : ℕ → ℕ
  natural k = plain_size Columns config (text_at texts) (length texts) k

  abbrev pub Plain : Type 0
  Plain = HasPlainWidths config (length texts) columns

  abbrev naturals : List ℕ
  naturals = natural_sizes Columns config texts columns

  abbrev widths : List ℕ
  widths = column_widths how total limits config texts columns

  abbrev range : ℕ → ColumnRange
  range = column_range how total limits config texts columns

  abbrev ranges : List ColumnRange
  ranges = column_ranges how total limits config texts columns

  abbrev room : ℕ
  room = total - beside_columns config columns

  pub natural-at : Plain → (k : ℕ) → k < columns → slice_index naturals k ≡ natural k
  natural-at plain k h = ap (λ ws. slice_index ws k) (sym (plain-naturals config texts columns plain)) ∙ size-at natural columns k h

  pub length-naturals : length naturals ≡ columns
  unfolding natural_sizes
  length-naturals = length-map-range_with_len (natural_size Columns config (text_at texts) (length texts) columns) 0 columns

  pub least-below : (k : ℕ) → least k ≤ natural k
  unfolding least_column_width plain_size
  least-below k =
      omega (arith, greatest-mono (λ r. paddings Columns config (at r k) + least_text_width how config (text_at texts) (at r k)) (λ r. cell_size Columns config (text_at texts) (at r k)) 0 (length texts) (λ r. omega arith))

  paddings-least : (k : ℕ) → paddings Columns config (at 0 k) ≤ least k
  unfolding least_column_width
  paddings-least k = omega arith

  range-at : (k : ℕ) → k < columns → get_or ranges k none ≡ range k
  range-at k h = get_or-map-range_with_len range 0 columns k k none h (omega arith)

  length-ranges : length ranges ≡ columns
  length-ranges = length-map-range_with_len range 0 columns

  pub length-widths : length widths ≡ columns
  unfolding column_widths
  length-widths = (within_ranges room ranges).0 ∙ length-ranges

  pub least-narrowed : (k : ℕ) → k < columns → least k ≤ slice_index widths k
  unfolding column_widths
  least-narrowed k h = omega (arith, ((within_ranges room ranges).1 k (omega (arith, h, length-ranges))).0, ap (λ (c : ColumnRange). c.least) (range-at k h))

  least-total : (a n : ℕ) → least_total (map range (range_with_len a n)) ≡ sum_by least (range_with_len a n)
  least-total a zero = refl
  least-total a (suc n) =
      omega (arith, sum_by-cons (λ (c : ColumnRange). c.least) (range a) (map range (range_with_len (a + 1) n)), sum_by-cons least a (range_with_len (a + 1) n), least-total (a + 1) n)

  sum-widths : sum_by (λ k. slice_index widths k) (range_with_len 0 columns) ≡ sum widths
  sum-widths =
      ap (λ n. sum_by (λ k. slice_index widths k) (range_with_len 0 n)) (sym length-widths)
      ∙ sum-places (λ k. slice_index widths k) widths 0 (λ i l. ap (λ k. slice_index widths k) (zero-add i))

  widths-narrow : sum_by (λ k. slice_index widths k) (range_with_len 0 columns) + beside_columns config columns ≤ max total (plain_full_width how config texts columns)
  unfolding column_widths plain_full_width
  widths-narrow = omega (arith, sum-widths, fills room ranges, least-total 0 columns)

  -- ---- the table at the fitted texts

  abbrev pub HasRooms : Type 0
  HasRooms = (p : Position) → p.row < length texts → p.col < columns → paddings Columns config p + widest (get_formatting config p) (fitted_at how total limits config texts columns p) ≤ slice_index widths p.col

  abbrev fitted : List (List Text)
  fitted = column_texts how total limits config texts columns

  pub length-fitted : length fitted ≡ length texts
  unfolding column_texts
  length-fitted = length-map-range_with_len (λ r. map (λ c. fitted_at how total limits config texts columns (at r c)) (range_with_len 0 columns)) 0 (length texts)

  fitted-at : (r c : ℕ) → r < length texts → c < columns → text_at fitted (at r c) ≡ fitted_at how total limits config texts columns (at r c)
  unfolding column_texts
  fitted-at r c h k =
      ap (λ row. get_or row c []) (get_or-map-range_with_len (λ i. map (λ j. fitted_at how total limits config texts columns (at i j)) (range_with_len 0 columns)) 0 (length texts) r r [] h (omega arith))
      ∙ get_or-map-range_with_len (λ j. fitted_at how total limits config texts columns (at r j)) 0 columns c c [] k (omega arith)

  plain-below : HasRooms → (k : ℕ) → k < columns → plain_size Columns config (text_at fitted) (length texts) k ≤ slice_index widths k
  unfolding plain_size
  plain-below rooms k h =
      omega (
        arith,
        paddings-least k,
        least-narrowed k h,
        greatest-below (λ r. cell_size Columns config (text_at fitted) (at r k)) 0 (length texts) (slice_index widths k) (λ r _ l.
            let inside : r < length texts = omega (arith, l) in
            omega (arith, rooms (at r k) inside h, ap (widest (get_formatting config (at r k))) (fitted-at r k inside h))),
      )

  size-below : Plain → HasRooms → (k : ℕ) → k < columns → natural_size Columns config (text_at fitted) (length fitted) columns k ≤ slice_index widths k
  size-below plain rooms k h =
      omega (arith, ap (λ n. natural_size Columns config (text_at fitted) n columns k) length-fitted, plain (text_at fitted) k h, plain-below rooms k h)

  pub lines-narrow : Plain → HasRooms → (color : Position → Option Color) → full_width (natural_table config (column_texts how total limits config texts columns) columns color) ≤ max total (plain_full_width how config texts columns)
  lines-narrow plain rooms color =
      omega (
        arith,
        full_width-is config fitted columns color,
        widths-narrow,
        sum-mono (λ k. natural_size Columns config (text_at fitted) (length fitted) columns k) (λ k. slice_index widths k) 0 columns (λ k _ h. size-below plain rooms k (omega (arith, h))),
      )

  pub columns-narrow : Plain → HasRooms → (k : ℕ) → k < columns → natural_size Columns config (text_at fitted) (length fitted) columns k ≤ max (least k) (limit_of limits k)
  unfolding column_widths
  columns-narrow plain rooms k h =
      omega (arith, size-below plain rooms k h, limits_hold room ranges k (limit_of limits k) (record { least = least k; natural = slice_index naturals k }) (omega (arith, h, length-ranges)) (range-at k h))

  -- ---- a table that is narrow enough

  abbrev AreNarrow : Type 0
  AreNarrow = (k : ℕ) → k < columns → slice_index naturals k ≤ limit_of limits k

  natural-total : Plain → AreNarrow → (a n : ℕ) → a + n ≤ columns → natural_total (map range (range_with_len a n)) ≡ sum_by (λ k. slice_index naturals k) (range_with_len a n)
  natural-total plain narrow a zero h = refl
  natural-total plain narrow a (suc n) h =
      omega (
        arith,
        sum_by-cons (λ (c : ColumnRange). max c.least c.natural) (range a) (map range (range_with_len (a + 1) n)),
        sum_by-cons (λ k. slice_index naturals k) a (range_with_len (a + 1) n),
        narrow a (omega arith),
        least-below a,
        natural-at plain a (omega arith),
        natural-total plain narrow (a + 1) n (omega arith),
      )

  naturals-listed : Plain → AreNarrow → (a n : ℕ) → a + n ≤ columns → map (λ (c : ColumnRange). max c.least c.natural) (map range (range_with_len a n)) ≡ map natural (range_with_len a n)
  naturals-listed plain narrow a zero h = refl
  naturals-listed plain narrow a (suc n) h =
      let here : max (range a).least (range a).natural ≡ natural a = omega (arith, narrow a (omega arith), least-below a, natural-at plain a (omega arith)) in
      ap (λ w. w ∷ map (λ (c : ColumnRange). max c.least c.natural) (map range (range_with_len (a + 1) n))) here
      ∙ ap (λ ws. natural a ∷ ws) (naturals-listed plain narrow (a + 1) n (omega arith))

  pub widths-natural : Plain → AreNarrow → sum_by (λ k. slice_index naturals k) (range_with_len 0 columns) ≤ room → widths ≡ naturals
  unfolding column_widths
  widths-natural plain narrow together =
      stay_natural room ranges (omega (arith, natural-total plain narrow 0 columns (omega arith), together)) ∙ naturals-listed plain narrow 0 columns (omega arith) ∙ plain-naturals config texts columns plain

  -- a cell in a column that isn't narrowed has room
  pub cell-wide : Plain → (p : Position) → p.row < length texts → p.col < columns → slice_index naturals p.col ≤ slice_index widths p.col → paddings Columns config p + widest (get_formatting config p) (text_at texts p) ≤ slice_index widths p.col
  cell-wide plain p h k wide = omega (arith, wide, natural-at plain p.col k, plain-covers Columns config (text_at texts) (length texts) p.col p.row h)

-- Rows made of columns, and runs of equal texts in them.
use Rattle.std.proofs.Common.{◌≡◌, ◌==◌, ℕ, zero, suc, ◌<◌, ◌≤◌, ◌+◌, ◌-◌, max, take, drop, set, replicate, not, nat_lt, true, false, List, [], ◌∷◌, ◌++◌, map, length, get_or, refl, sym, ap}
use Rattle.std.proofs.Common.{◌∙◌, arith, None, Bool}
use Rattle.std.specs.List.{fold, position_or_len, range_with_len, prefix_len}
use Rattle.std.proofs.lemmas.List.{get_or-map, length-map, length-append, length-take, length-drop, length-replicate, map-append, map-set, map-id}
use Rattle.std.proofs.lemmas.List.Edits.{map_over_more}
use Rattle.std.proofs.lemmas.List.FromFn.{get_or-map-range_with_len, length-map-range_with_len, map-range_with_len_more}
use Rattle.std.proofs.lemmas.List.Sums.{position_or_len_is, fold_push}
use Rattle.std.proofs.lemmas.Bool.Decides.{nat_tests}
use Rattle.pg_layout.specs.Position.{at}
use Rattle.pg_layout.specs.Records.{ragged_row, text_at}
use Rattle.pg_layout.specs.Text.{Text, greatest}
use Rattle.pg_table.specs.OwnRows.{padded, padded_to, transposed}

-- ---- rows made of columns are of one length

-- rows of one length aren't ragged
even-none : {X : Type 0} (rows : List (List X)) (n : ℕ) → ((k : ℕ) → k < length rows → length (get_or rows k []) ≡ n) → ragged_row rows ≡ None
even-none [] n each = refl
even-none (row ∷ rows) n each =
    let first : length row ≡ n = each 0 (omega arith) in
    let all : position_or_len (λ r. not (length r == length row)) (row ∷ rows) ≡ length (row ∷ rows) =
    position_or_len_is (λ r. not (length r == length row)) (row ∷ rows) (length (row ∷ rows)) [] (omega arith)
    (λ k h. let here : length (get_or (row ∷ rows) k []) ≡ n = each k h in let same : (length (get_or (row ∷ rows) k []) == length row) ≡ true = grind (arith, nat_tests) in ap not same)
    (λ h. absurd (omega (arith, h))) in
    let past : nat_lt (position_or_len (λ r. not (length r == length row)) (row ∷ rows)) (length (row ∷ rows)) ≡ false = grind (arith, nat_tests) in
    rw past refl

even-mapped : {X Y : Type 0} (f : X → Y) (rows : List (List X)) (n : ℕ) → ((k : ℕ) → k < length rows → length (get_or (map (λ row. map f row) rows) k []) ≡ n) → ragged_row rows ≡ None
even-mapped f rows n each =
    even-none rows n (λ k h. sym (length-map (get_or rows k []) f) ∙ ap (λ row. length row) (sym (get_or-map (λ row. map f row) rows k [] [] h)) ∙ each k h)

pub columns-even : {X : Type 0} (text : X → Text) (rows : List (List X)) (texts : List (List Text)) (columns : ℕ) → map (λ row. map text row) rows ≡ transposed texts columns → ragged_row rows ≡ None
columns-even text rows texts columns is =
    let count : length rows ≡ columns =
    sym (length-map rows (λ row. map text row)) ∙ ap (λ ts. length ts) is ∙ length-map-range_with_len (λ c. map (λ r. text_at texts (at r c)) (range_with_len 0 (length texts))) 0 columns in
    even-mapped text rows (length texts) (λ k h.
    ap (λ ts. length (get_or ts k [])) is
    ∙ ap (λ row. length row) (get_or-map-range_with_len (λ c. map (λ r. text_at texts (at r c)) (range_with_len 0 (length texts))) 0 columns k k [] (omega (arith, h, count)) (omega arith))
    ∙ length-map-range_with_len (λ r. text_at texts (at r k)) 0 (length texts))

pub map-map : {X Y Z : Type 0} (g : Y → Z) (f : X → Y) (xs : List X) → map g (map f xs) ≡ map (λ x. g (f x)) xs
map-map g f [] = refl
map-map g f (x ∷ xs) = ap (λ ys. g (f x) ∷ ys) (map-map g f xs)

-- one more
pub pushed : {X Y : Type 0} (f : X → Y) (xs : List X) (x : X) (g : ℕ → Y) (n : ℕ) → map f xs ≡ map g (range_with_len 0 n) → f x ≡ g n → map f (xs ++ x ∷ []) ≡ map g (range_with_len 0 (n + 1))
pushed f xs x g n before is =
    map-append f xs (x ∷ []) ∙ ap (λ ys. ys ++ f x ∷ []) before ∙ ap (λ y. map g (range_with_len 0 n) ++ y ∷ []) is ∙ sym (map-range_with_len_more g 0 n n (omega arith))

-- ---- rows with fillers

longest-fold : {X : Type 0} (count : X → ℕ) (rows : List X) (n : ℕ) → fold (λ n row. max n (count row)) n rows ≡ max n (greatest (map count rows))
longest-fold count [] n = omega arith
longest-fold count (row ∷ rows) n = longest-fold count rows (max n (count row)) ∙ omega arith

pub longest_is : {X : Type 0} (count : X → ℕ) (rows : List X) → fold (λ n row. max n (count row)) 0 rows ≡ greatest (map count rows)
longest_is count rows = longest-fold count rows 0 ∙ omega arith

-- none is longer
greatest-most : {X : Type 0} (count : X → ℕ) (rows : List X) (k : ℕ) (d : X) → k < length rows → count (get_or rows k d) ≤ greatest (map count rows)
greatest-most count [] k d h = absurd (omega (arith, h))
greatest-most count (row ∷ rows) zero d h = omega arith
greatest-most count (row ∷ rows) (suc k) d h = let later = greatest-most count rows k d (omega (arith, h)) in omega (arith, later)

padded-even : {X : Type 0} (filler : X) (rows : List (List X)) → ragged_row (padded filler rows) ≡ None
padded-even filler rows =
    let n = greatest (map (λ row. length row) rows) in
    even-none (padded filler rows) n (λ k h.
    let here : k < length rows = omega (arith, h, length-map rows (padded_to n filler)) in
    let row = get_or rows k [] in
    let most : length row ≤ n = greatest-most (λ row. length row) rows k [] here in
    ap (λ row. length row) (get_or-map (padded_to n filler) rows k [] [] here)
    ∙ omega (arith, most, length-append row (replicate (n - length row) filler), length-replicate (n - length row) filler))

-- one row more
pub padded-more : {V X : Type 0} (items : V → X) (P : X → X) (olds : List X) (rows : List V) (k : ℕ) (old new : V) → k < length olds
    → map items rows ≡ map P (take k olds) ++ drop k olds → old ≡ get_or rows k old → items new ≡ P (items old)
    → map items (set rows k new) ≡ map P (take (k + 1) olds) ++ drop (k + 1) olds
padded-more {V} {X} items P olds rows k old new within before is grown =
    let long : length rows ≡ length olds = sym (length-map rows items) ∙ ap (λ (ys : List X). length ys) before ∙ omega (arith, length-append (map P (take k olds)) (drop k olds), length-map (take k olds) P, length-take k olds, length-drop k olds) in
    map-set items rows k new
    ∙ ap (λ (x : X). set (map items rows) k x) grown
    ∙ map_over_more P olds (map items rows) k (items old) within before (ap items is ∙ sym (get_or-map items rows k old (items old) (omega (arith, within, long))))

-- rows whose lengths were measured and that were then padded
pub padded-measured : {V X : Type 0} (items : V → List X) (filler : X) (columns : ℕ) (rows measured : List V) (new : List (List X)) → columns ≡ greatest (map (λ row. length (items row)) measured) → measured ≡ rows
    → new ≡ map (padded_to columns filler) (map items rows) → new ≡ padded filler (map items rows)
padded-measured items filler columns rows measured new is same all =
    let longest : columns ≡ greatest (map (λ row. length row) (map items rows)) =
    is ∙ ap (λ rows. greatest (map (λ row. length (items row)) rows)) same ∙ ap (λ ns. greatest ns) (sym (map-map (λ row. length row) items rows)) in
    all ∙ ap (λ n. map (padded_to n filler) (map items rows)) longest

pub padded-none : {X : Type 0} (filler : X) (rows new : List (List X)) → new ≡ padded filler rows → ragged_row new ≡ None
padded-none filler rows new is = ap (λ rows. ragged_row rows) is ∙ padded-even filler rows

-- ---- runs of equal texts, one row further

module _ (same : ℕ → Bool) where
  -- row r has the text, or not
  pub one_row_more : (r rows : ℕ) → r < rows → same r ≡ true → prefix_len same (range_with_len r (rows - r)) ≡ 1 + prefix_len same (range_with_len (r + 1) (rows - (r + 1)))
  one_row_more r rows below is =
      let more : rows - r ≡ suc (rows - (r + 1)) = omega (arith, below) in
      ap (λ n. prefix_len same (range_with_len r n)) more ∙ rw is refl

  pub no_row_more : (r rows : ℕ) → r < rows → same r ≡ false → prefix_len same (range_with_len r (rows - r)) ≡ 0
  no_row_more r rows below other =
      let more : rows - r ≡ suc (rows - (r + 1)) = omega (arith, below) in
      ap (λ n. prefix_len same (range_with_len r n)) more ∙ rw other refl

  pub no_row_left : (r rows : ℕ) → rows ≤ r → prefix_len same (range_with_len r (rows - r)) ≡ 0
  no_row_left r rows past =
      let none : rows - r ≡ 0 = omega (arith, past) in
      ap (λ n. prefix_len same (range_with_len r n)) none

-- the numbers below n, one more
pub range-more : (n : ℕ) → range_with_len 0 (n + 1) ≡ range_with_len 0 n ++ n ∷ []
range-more n = sym (map-id (range_with_len 0 (n + 1))) ∙ map-range_with_len_more (λ (x : ℕ). x) 0 n n (omega arith) ∙ ap (λ xs. xs ++ n ∷ []) (map-id (range_with_len 0 n))

pub one_run_more : {X : Type 0} (f : X → ℕ → X) (x : X) (n : ℕ) → fold f x (range_with_len 0 (n + 1)) ≡ f (fold f x (range_with_len 0 n)) n
one_run_more f x n = rw (range-more n) (fold_push f x (range_with_len 0 n) n)

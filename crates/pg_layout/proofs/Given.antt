-- What an iterator gives, and the rows and cells of vectors.
use Rattle.std.proofs.Common.{◌≡◌, List, [], ◌∷◌, map, set, zero, suc, Option, Some, None, MatchOption, refl, ap, sym, ◌∙◌, subst, Vec, vec_len, arith, ℕ, ◌+◌, ◌<◌, ◌≤◌, nat_lt, Bool, true, false, not, ◌==◌, ◌||◌, cond, length, get_or, slice_get, All, ◌++◌}
use Rattle.std.specs.Iterator.{AlwaysYields, Count, at_most, YieldsFirstBy}
use Rattle.std.proofs.lemmas.Iterator.{YieldsList}
use Rattle.pg_layout.specs.Records.{AlwaysGives, Gives, Becomes, columns_of, ragged_row, text_at}
use Rattle.std.specs.Vec.Iter.{into_iter_items, into_iter_len, into_iter_steps}
use Rattle.std.specs.declared.vec.IntoIter.{IntoIter}
use Rattle.std.proofs.lemmas.Iterator.Adapters.{YieldsList-from_vec}
use Rattle.std.proofs.lemmas.Simd.{map-map}
use Rattle.pg_layout.specs.Text.{Text}
use Rattle.std.specs.List.{position, position_or_len}
use Rattle.std.proofs.lemmas.List.{length-map, length-set, length_push, map-append, get_or-map}
use Rattle.std.proofs.lemmas.List.Folds.{position_or_len-set, position_or_len_push}
use Rattle.std.proofs.lemmas.List.Elements.{All-map}
use Rattle.std.proofs.lemmas.List.Sums.{position_or_len_is, prefix_len_passes}
use Rattle.std.proofs.lemmas.Bool.{ltb-false, lt-ltb, le-ltb, eqb-true, eq-eqb, ne_eqb}
use Rattle.pg_layout.specs.declared.position.Position.{Position}

-- ---- what an iterator gives, and the rows and cells of vectors

-- ---- what an iterator gives: as its state shows, as std's chains say, and of the rows that its items become

module _ {S A B : Type 0} (steps : S → Option A → S → Type 0) (view : A → B) where
  -- a chain that gives a list, as std says it
  yielded : (s : S) (ys : List B) → AlwaysYields steps view s ys → AlwaysGives (λ x y. view x ≡ y) steps s ys
  yielded s [] none = none
  yielded s (y ∷ ys) (some, more) = (some, λ x t step. let (is, others) = more x t step in (is, yielded t ys others))

  pub given-yielded : {s : S} {ys : List B} → YieldsList steps view s ys → AlwaysGives (λ x y. view x ≡ y) steps s ys
  given-yielded {s} {ys} chain = yielded s ys chain.runs

  -- items that stand for what they show
  pub given-by-view : (P : A → B → Type 0) → ((x : A) → P x (view x)) → (s : S) (ys : List B) → AlwaysGives (λ x y. view x ≡ y) steps s ys → AlwaysGives P steps s ys
  given-by-view P stands s [] none = none
  given-by-view P stands s (y ∷ ys) (some, more) =
      (some, λ x t step. let (is, others) = more x t step in (subst (λ (z : B). P x z) is (stands x), given-by-view P stands t ys others))

  -- items that std's chains give as they are, and what they stand for
  viewed : (P : A → B → Type 0) → ((x : A) → P x (view x)) → (s : S) (xs : List A) → AlwaysYields steps (λ x. x) s xs → AlwaysGives P steps s (map view xs)
  viewed P stands s [] none = none
  viewed P stands s (y ∷ ys) (some, more) =
      (some, λ x t step. let (is, others) = more x t step in (subst (λ (z : A). P x (view z)) is (stands x), viewed P stands t ys others))

  pub given-items : (P : A → B → Type 0) → ((x : A) → P x (view x)) → {s : S} {xs : List A} → YieldsList steps (λ x. x) s xs → AlwaysGives P steps s (map view xs)
  given-items P stands {s} {xs} chain = viewed P stands s xs chain.runs

  -- an iterator whose state shows what is left
  given-left : (rest : S → List A) → ((s t : S) → steps s None t → rest s ≡ []) → ((s : S) (x : A) (t : S) → steps s (Some x) t → rest s ≡ x ∷ rest t)
      → (s : S) (xs : List A) → rest s ≡ xs → AlwaysGives (λ x y. view x ≡ y) steps s (map view xs)
  given-left rest none some s [] left = λ x t step. let clash : x ∷ rest t ≡ [] = sym (some s x t step) ∙ left in cc
  given-left rest none some s (y ∷ ys) left = (
    λ t step. let clash : [] ≡ y ∷ ys = sym (none s t step) ∙ left in cc,
    λ x t step.
        let same : x ∷ rest t ≡ y ∷ ys = sym (some s x t step) ∙ left in
        let first : x ≡ y = cc in
        let others : rest t ≡ ys = cc in
        (ap view first, given-left rest none some t ys others),
  )

  pub given-rest : (rest : S → List A) → ((s t : S) → steps s None t → rest s ≡ []) → ((s : S) (x : A) (t : S) → steps s (Some x) t → rest s ≡ x ∷ rest t)
      → (s : S) → AlwaysGives (λ x y. view x ≡ y) steps s (map view (rest s))
  given-rest rest none some s = given-left rest none some s (rest s) refl

module _ {S W A B : Type 0} (inner : W → S) (P : A → B → Type 0) (steps : S → Option A → S → Type 0) where
  -- a call is one of the inner iterator
  pub given-inside : (w : W) (ys : List B) → AlwaysGives P steps (inner w) ys → AlwaysGives P (λ s r t. steps (inner s) r (inner t)) w ys
  given-inside w [] none = λ x t step. none x (inner t) step
  given-inside w (y ∷ ys) (some, more) =
      (λ t step. some (inner t) step, λ x t step. let (is, others) = more x (inner t) step in (is, given-inside t ys others))

module _ {S W U C B : Type 0} (inner : W → S) (steps : S → Option U → S → Type 0) (becomes : U → C → Type 0) (Q : C → B → Type 0) where
  -- a call makes its answer of the inner iterator's answer
  abbrev pub Makes : W → Option C → W → Type 0
  Makes s r t = MatchOption r (steps (inner s) None (inner t)) (λ cells. (row : U) × steps (inner s) (Some row) (inner t) × becomes row cells)

  from-items : (w : W) (ys : List B) → AlwaysGives (Becomes becomes Q) steps (inner w) ys → AlwaysGives Q Makes w ys
  from-items w [] none = λ cells t made. let (row, step, become) = made in none row (inner t) step
  from-items w (y ∷ ys) (some, more) = (
    λ t ended. some (inner t) ended,
    λ cells t made.
        let (row, step, become) = made in
        let (stands, others) = more row (inner t) step in
        (stands cells become, from-items t ys others),
  )

  pub made-of-items : (can : S → Type 0) (left : S → Count) (w : W) (s : S) (ys : List B) → inner w ≡ s → Gives (Becomes becomes Q) can steps left s ys
      → Gives Q (λ v. can (inner v)) Makes (λ v. left (inner v)) w ys
  made-of-items can left w s ys same given =
      let here : Gives (Becomes becomes Q) can steps left (inner w) ys = subst (λ (z : S). Gives (Becomes becomes Q) can steps left z ys) (sym same) given in
      record { can_next = here.can_next; ends = here.ends; gives = from-items w ys here.gives }

-- ---- a vector of vectors gives its rows, and each of them its cells

module _ {T Z C : Type 0} (text : T → Text) (inner : C → IntoIter T Z) (becomes : Vec T Z → C → Type 0)
    (shows : (row : Vec T Z) (s : C) → becomes row s → (into_iter_items (inner s) ≡ row.items) × (into_iter_len (inner s) ≡ vec_len row)) where
  abbrev Cells : C → List Text → Type 0
  Cells = Gives (λ x y. text x ≡ y) (λ _. Unit {0}) (λ s r t. into_iter_steps (inner s) r (inner t)) (λ s. at_most (into_iter_len (inner s)))

  row-stands : (row : Vec T Z) → Becomes becomes Cells row (map text row.items)
  row-stands row s is =
      let (items, len) = shows row s is in
      record {
        can_next = tt;
        ends = tt;
        gives = given-inside inner (λ x y. text x ≡ y) into_iter_steps s (map text row.items)
            (given-items into_iter_steps text (λ x y. text x ≡ y) (λ x. refl) (YieldsList-from_vec row.items items (omega (arith, len, row.ok))));
      }

  pub vectors-given : (s : IntoIter (Vec T Z) Z) (rows : Vec (Vec T Z) Z) (seen : List (List T)) → into_iter_items s ≡ rows.items → into_iter_len s ≡ vec_len rows → map (λ row. row.items) rows.items ≡ seen
      → Gives (Becomes becomes Cells) (λ _. Unit {0}) into_iter_steps (λ s. at_most (into_iter_len s)) s (map (λ row. map text row) seen)
  vectors-given s rows seen items len shown =
      let same : map (λ row. map text row.items) rows.items ≡ map (λ row. map text row) seen =
      sym (map-map (λ row. map text row) (λ row. row.items) rows.items) ∙ ap (λ xs. map (λ row. map text row) xs) shown in
      let gives : AlwaysGives (Becomes becomes Cells) into_iter_steps s (map (λ row. map text row.items) rows.items) =
      given-items into_iter_steps (λ row. map text row.items) (Becomes becomes Cells) row-stands (YieldsList-from_vec rows.items items (omega (arith, len, rows.ok))) in
      record {
        can_next = tt;
        ends = tt;
        gives = subst (λ ys. AlwaysGives (Becomes becomes Cells) into_iter_steps s ys) same gives;
      }

-- ---- rows in memory: what reads them gives their texts, and rows of one length

module _ {S A B : Type 0} (P : A → B → Type 0) (view : A → B) (rest : S → List B) (stands : (x : A) → P x (view x)) where
  -- an iterator whose state shows its list gives that list
  pub yields-all : (s : S) (ys : List B) → rest s ≡ ys → AlwaysGives P (YieldsFirstBy view rest) s ys
  yields-all s [] e = λ x j step. let clash : view x ∷ rest j ≡ [] = sym step ∙ e in cc
  yields-all s (y ∷ ys) e = (
    λ j step. let clash : [] ≡ y ∷ ys = sym step.0 ∙ e in cc,
    λ x j step.
        let same : view x ∷ rest j ≡ y ∷ ys = sym step ∙ e in
        let first : view x ≡ y = cc in
        let others : rest j ≡ ys = cc in
        (subst (λ (z : B). P x z) first (stands x), yields-all j ys others),
  )

-- the length of the first row, seen through a map
pub columns-first : {X Y : Type 0} (f : X → List Y) (rows : List X) (row : X) → slice_get rows 0 ≡ Some row → columns_of (map f rows) ≡ length (f row)
columns-first f [] row first = cc
columns-first f (x ∷ xs) row first = let same : x ≡ row = cc in ap (λ z. length (f z)) same

pub columns-none : {X Y : Type 0} (f : X → List Y) (rows : List X) → slice_get rows 0 ≡ None → columns_of (map f rows) ≡ 0
columns-none f [] first = refl
columns-none f (x ∷ xs) first = cc

-- how many items stand before the first that passes, seen through a map
pub position_or_len-map : {X Y : Type 0} (f : X → Y) (p : Y → Bool) (xs : List X) → position_or_len p (map f xs) ≡ position_or_len (λ x. p (f x)) xs
position_or_len-map f p [] = refl
position_or_len-map f p (x ∷ xs) = ap (λ n. cond (not (p (f x))) (1 + n) 0) (position_or_len-map f p xs)

pub position-map : {X Y : Type 0} (f : X → Y) (p : Y → Bool) (xs : List X) → position p (map f xs) ≡ position (λ x. p (f x)) xs
position-map f p xs = λ i. cond (nat_lt (position_or_len-map f p xs i) (length-map xs f i)) (Some (position_or_len-map f p xs i)) None

chosen : {X : Type 0} (b : Bool) (x : X) → cond b (Some x) None ≡ None → b ≡ false
chosen true x e = cc
chosen false x e = refl

equal-from : (b : Bool) → not (not b) ≡ true → b ≡ true
equal-from true e = refl
equal-from false e = e

-- rows with no ragged one are all as long as the first
pub even-rows : {X : Type 0} (rows : List (List X)) → ragged_row rows ≡ None → All (λ row. length row ≡ columns_of rows) rows
even-rows rows none k d h =
    let p : List _ → Bool = λ row. not (length row == columns_of rows) in
    let far : length rows ≤ position_or_len p rows = ltb-false (position_or_len p rows) (length rows) (chosen (nat_lt (position_or_len p rows) (length rows)) (position_or_len p rows) none) in
    eqb-true (length (get_or rows k d)) (columns_of rows) (equal-from (length (get_or rows k d) == columns_of rows) (prefix_len_passes (λ row. not (p row)) rows k d (omega (arith, h, far))))

-- the same, of what each cell shows
pub even-texts : {X Y : Type 0} (f : X → Y) (rows : List (List X)) → ragged_row rows ≡ None → All (λ row. length row ≡ columns_of rows) (map (λ row. map f row) rows)
even-texts f rows none = All-map (λ row. length row ≡ columns_of rows) (λ row. map f row) rows (λ k d h. length-map (get_or rows k d) f ∙ even-rows rows none k d h)

-- a row below rows of one length is the first ragged one, or there is none
pub ragged-push : {X : Type 0} (rows : List (List X)) (row : List X) → ragged_row rows ≡ None
    → ragged_row (rows ++ row ∷ []) ≡ cond ((length rows == 0) || (length row == columns_of rows)) None (Some (length rows))
ragged-push [] row none = ap (λ b. cond (nat_lt (cond (not (not b)) 1 0) 1) (Some (cond (not (not b)) 1 0)) None) (eq-eqb (length row) (length row) refl)
ragged-push {X} (first ∷ rows) row none =
    let p : List X → Bool = λ r. not (length r == length first) in
    let all : List (List X) = first ∷ rows in
    let same : position_or_len p all ≡ length all = position_or_len_is p all (length all) first (omega arith)
    (λ k h. ap not (eq-eqb (length (get_or all k first)) (length first) (even-rows all none k first h))) (λ h. absurd (omega (arith, h))) in
    let pushed : position_or_len p (all ++ row ∷ []) ≡ length all + cond (p row) 0 1 =
    position_or_len_push p all row ∙ ap (λ b. cond b (length all + cond (p row) 0 1) (position_or_len p all)) (eq-eqb (position_or_len p all) (length all) same) in
    ap (λ n. cond (nat_lt n (length (all ++ row ∷ []))) (Some n) None) pushed
    ∙ ap (λ n. cond (nat_lt (length all + cond (p row) 0 1) n) (Some (length all + cond (p row) 0 1)) None) (length_push all row)
    ∙ last (length row == length first) (length all)
    ∙ sym (ap (λ b. cond (b || (length row == length first)) None (Some (length all))) (ne_eqb (length all) 0 (λ e. absurd (omega (arith, e)))))
  where
    last : (b : Bool) (n : ℕ) → cond (nat_lt (n + cond (not b) 0 1) (n + 1)) (Some (n + cond (not b) 0 1)) None ≡ cond b None (Some n)
    last true n = ap (λ z. cond z (Some (n + 1)) None) (le-ltb (n + 1) (n + 1) (omega arith))
    last false n = ap (λ z. cond z (Some (n + 0)) None) (lt-ltb (n + 0) (n + 1) (omega arith)) ∙ ap Some (omega arith)

-- which row a row below rows in memory is, where it is ragged: what a test of its length alone tells
pub ragged-below : {X R : Type 0} (f : R → List X) (slice inside : List R) (seen : List (List X)) (row : List X) (n : ℕ) (r : Option ℕ)
    → r ≡ cond ((length slice == 0) || (n == columns_of (map f slice))) None (Some (length slice))
    → slice ≡ inside → n ≡ length row → map f inside ≡ seen → ragged_row (map f inside) ≡ None → r ≡ ragged_row (seen ++ row ∷ [])
ragged-below f slice inside seen row n r is same size view even =
    is
    ∙ ap (λ z. cond ((length z == 0) || (n == columns_of (map f z))) None (Some (length z))) same
    ∙ ap (λ z. cond ((length inside == 0) || (z == columns_of (map f inside))) None (Some (length inside))) size
    ∙ ap (λ z. cond ((z == 0) || (length row == columns_of (map f inside))) None (Some z)) (sym (length-map inside f))
    ∙ sym (ragged-push (map f inside) row even)
    ∙ ap (λ z. ragged_row (z ++ row ∷ [])) view

-- rows stay of one length where a row that isn't ragged is pushed
pub even-push : {X R : Type 0} (f : R → List X) (inside pushed : List R) (seen : List (List X)) (row : R)
    → pushed ≡ inside ++ row ∷ [] → map f inside ≡ seen → ragged_row (seen ++ f row ∷ []) ≡ None → ragged_row (map f pushed) ≡ None
even-push f inside pushed seen row is view even =
    ap (λ z. ragged_row (map f z)) is ∙ ap ragged_row (map-append f inside (row ∷ []) ∙ ap (λ z. z ++ f row ∷ []) view) ∙ even

-- a row that was read, where each row is seen through a map
pub row-at : {X Y : Type 0} (f : X → List Y) (rows : List X) (seen : List (List Y)) (i : ℕ) (row : X) → map f rows ≡ seen → i < length seen → row ≡ get_or rows i row → f row ≡ get_or seen i []
row-at f rows seen i row e h is =
    ap f is ∙ sym (get_or-map f rows i row [] (omega (arith, h, ap length e, length-map rows f))) ∙ ap (λ z. get_or z i []) e

-- a row that was read at a place in rows of one length has the place's column
pub row-with : {X Y Z : Type 0} (f : X → List Y) (rows : List X) (seen : List (List Y)) (shown : List Y → Z) (p : Position) (row : X)
    → map f rows ≡ seen → ragged_row (map f rows) ≡ None → p.row < length (map shown seen) → p.col < columns_of seen → row ≡ get_or rows p.row row
    → (f row ≡ get_or seen p.row []) × (p.row < length seen) × (p.col < length (f row))
row-with f rows seen shown p row e none inside column is =
    let even : ragged_row seen ≡ None = sym (ap ragged_row e) ∙ none in
    let within : p.row < length seen = omega (arith, inside, length-map seen shown) in
    let same : f row ≡ get_or seen p.row [] = row-at f rows seen p.row row e within is in
    (same, within, omega (arith, column, even-rows seen even p.row [] within, ap length same))

-- the text of a cell that was read
pub cell-at : {X : Type 0} (f : X → Text) (rows : List (List X)) (p : Position) (row : List X) (cell : X) → row ≡ get_or rows p.row [] → p.row < length rows → p.col < length row → cell ≡ get_or row p.col cell → f cell ≡ text_at (map (λ row. map f row) rows) p
cell-at f rows p row cell e h k is =
    ap f is ∙ sym (get_or-map f row p.col cell [] k) ∙ ap (λ z. get_or (map f z) p.col []) e
    ∙ sym (ap (λ z. get_or z p.col []) (get_or-map (λ row. map f row) rows p.row [] [] h))

-- ---- rows stay of one length where a row gives way to one of its length

columns-set : {X : Type 0} (rows : List (List X)) (i : ℕ) (row : List X) → length row ≡ length (get_or rows i []) → columns_of (set rows i row) ≡ columns_of rows
columns-set [] i row same = refl
columns-set (first ∷ rows) zero row same = same
columns-set (first ∷ rows) (suc i) row same = refl

pub even-set : {X : Type 0} (rows : List (List X)) (i : ℕ) (row : List X) → length row ≡ length (get_or rows i []) → ragged_row rows ≡ None → ragged_row (set rows i row) ≡ None
even-set rows i row same none =
    ap (λ n. position (λ r. not (length r == n)) (set rows i row)) (columns-set rows i row same)
    ∙ ap (λ n. cond (nat_lt n (length (set rows i row))) (Some n) None) (position_or_len-set (λ r. not (length r == columns_of rows)) rows i row [] (ap (λ n. not (n == columns_of rows)) same))
    ∙ ap (λ n. cond (nat_lt (position_or_len (λ r. not (length r == columns_of rows)) rows) n) (Some (position_or_len (λ r. not (length r == columns_of rows)) rows)) None) (length-set rows i row)
    ∙ none

-- The slots of open cells in which the cells of a row begin, and in which those that end with it leave.
use Rattle.std.proofs.Common.{◌≡◌, ℕ, zero, suc, ◌+◌, ◌<◌, ◌≤◌, true, false, not, ◌&&◌, ◌==◌, nat_lt, List, [], ◌∷◌, set, get_or, slice_index_or, drop, length, Option, Some, None, is_some, refl, sym, ap, ap₂, ◌∙◌, arith, subst, zero-add, add-one, inl, inr, eqb-true, map}
use Rattle.std.proofs.lemmas.Bool.{cases_Bool, ltb-true, and_parts}
use Rattle.std.proofs.lemmas.Bool.Decides.{nat_tests}
use Rattle.pg_layout.specs.declared.position.Position.{Position}
use Rattle.pg_layout.specs.Position.{at, is_at}
use Rattle.pg_layout.specs.Records.{AlwaysGives}
use Rattle.pg_layout.specs.Text.{Text, greatest}
use Rattle.pg_config.specs.Spans.{Span, owner, rect_rows, rect_columns}
use Rattle.pg_picture.specs.Fits.{spans_fit_columns}
use Rattle.pg_picture.specs.Table.{Table}
use Rattle.pg_picture.proofs.Owners.{Apart, HasOwners, owner-columns}
use Rattle.pg_stream.specs.Inside.{column_end, reach, IsOwnerAbove, new_cell, begin_cell, mapped, cells_begun, close_cell, cells_closed, draw_cell}
use Rattle.pg_stream.specs.Placed.{Placed, AllOpen, slot_of, slots_of}
use Rattle.pg_stream.proofs.draw.OpenLists.{partly, partly-below, partly-above, partly-at, partly-set, set-same, set-other, drop-first, drop-some, closed-is, slots-drawn}
use Rattle.pg_stream.proofs.draw.OwnersOfCells.{IsOwner, option_cases, own-test}
use Rattle.pg_stream.proofs.printer.WholePictures.{map_range-same}
use Rattle.std.specs.List.{range_with_len}
use Rattle.pg_config.specs.Config.{Config}
use Rattle.pg_stream.specs.Open.{Slot, open_at_row, open_before}
use Rattle.pg_stream.specs.Inside.{draw_more, begin_at, close_at, separator_height, next_slot, slot_in_row}
use Rattle.pg_stream.proofs.printer.RowsOfTables.{other}
use Rattle.pg_stream.proofs.draw.Steps.{open_step}

-- ---- the cells that begin in a row

module _ (t : Table) (k x : ℕ) (text : Text) (cells : List (Option Placed)) where
  -- its own owner begins
  pub begins : is_at (owner t.config.spans k x) k x ≡ true → set cells x (Some (new_cell t (at k x) text)) ≡ set cells x (begin_cell t k text x (get_or cells x None))
  unfolding begin_cell
  begins own = rw own refl

  -- a place that another cell holds stays as it is
  pub keeps : is_at (owner t.config.spans k x) k x ≡ false → x < length cells → cells ≡ set cells x (begin_cell t k text x (get_or cells x None))
  unfolding begin_cell
  keeps other inside = rw other (set-same cells x (get_or cells x None) None inside refl)

-- ---- the owners of a row, of which the first columns have begun

pub own_at : (spans : List Span) (k x : ℕ) → is_at (owner spans k x) k x ≡ true → owner spans k x ≡ at k x
own_at spans k x e =
    let parts = and_parts ((owner spans k x).row == k) ((owner spans k x).col == x) e in
    ap₂ (λ r c. at r c) (eqb-true (owner spans k x).row k parts.0) (eqb-true (owner spans k x).col x parts.1)

begun-owner : (t : Table) (owners : HasOwners t.config.spans) (k x : ℕ) (text : Text) (cell : Option Placed) → IsOwnerAbove t.config.spans k x cell → IsOwner t.config.spans k x (begin_cell t k text x cell)
unfolding begin_cell
begun-owner t owners k x text cell above =
    let spans : List Span = t.config.spans in
    elim (cases_Bool (is_at (owner spans k x) k x)) [
      | inl e ↦
          let own : owner spans k x ≡ at k x = own_at spans k x e in
          rw e (record { none = λ no. absurd (some_none (new_cell t (at k x) text) no); some = λ c is. own ∙ ap (λ (c : Placed). at c.begun x) (some_some (new_cell t (at k x) text) c is) })
      | inr e ↦
          rw e (record {
            none = λ no left.
                let below = (owners.near k x).below in
                elim (cases_Bool (nat_lt (owner spans k x).row k)) [
                  | inl f ↦ above.none no (ltb-true (owner spans k x).row k f) left
                  | inr f ↦ absurd (grind (arith, nat_tests, e, f, below, left))
                ];
            some = above.some;
          })
    ]
  where
    some_none : (c : Placed) → Some c ≡ None → ⊥
    some_none c e = cc

    some_some : (c d : Placed) → Some c ≡ Some d → c ≡ d
    some_some c d e = cc

module _ (t : Table) (owners : HasOwners t.config.spans) (k columns : ℕ) (texts : List Text) (start : List (Option Placed)) (whole : columns ≡ length start) (all : (x : ℕ) → x < columns → IsOwnerAbove t.config.spans k x (get_or start x None)) where
  -- the cells of the first columns have begun
  abbrev pub begun : ℕ → List (Option Placed)
  begun i = partly (λ x. begin_cell t k (slice_index_or texts x []) x) 0 i start

  pub owner-begun : (i x : ℕ) → x < i → x < columns → IsOwner t.config.spans k x (get_or (begun i) x None)
  owner-begun i x l h =
      let e : get_or (begun i) x None ≡ begin_cell t k (slice_index_or texts x []) x (get_or start x None) =
      partly-below (λ x. begin_cell t k (slice_index_or texts x []) x) 0 i start x None l (omega (arith, h, whole)) ∙ ap (λ n. begin_cell t k (slice_index_or texts n []) n (get_or start x None)) (zero-add x) in
      subst (IsOwner t.config.spans k x) (sym e) (begun-owner t owners k x (slice_index_or texts x []) (get_or start x None) (all x h))

  pub owner-above : (i x : ℕ) → i ≤ x → x < columns → IsOwnerAbove t.config.spans k x (get_or (begun i) x None)
  owner-above i x l h =
      subst (IsOwnerAbove t.config.spans k x) (sym (partly-above (λ x. begin_cell t k (slice_index_or texts x []) x) 0 i start x None l)) (all x h)

  -- so the code's test tells whether a place is its own owner
  pub own-now : (i : ℕ) (now : List (Option Placed)) (end : ℕ) → i < columns → now ≡ begun i → end ≡ reach t.config.spans now i
      → (not (nat_lt i end) && not (is_some (get_or now i None))) ≡ is_at (owner t.config.spans k i) k i
  own-now i now end h is ends =
      ap (λ n. not (nat_lt i n) && not (is_some (get_or now i None))) ends
      ∙ own-test t.config.spans owners k now i
      (λ y l. subst (λ cells. IsOwner t.config.spans k y (get_or cells y None)) (sym is) (owner-begun i y l (omega (arith, l, h))))
      (subst (λ cells. IsOwnerAbove t.config.spans k i (get_or cells i None)) (sym is) (owner-above i i (omega arith) h))

  -- an open cell is its owner
  pub owner-now : (i x : ℕ) (now : List (Option Placed)) (c : Placed) → x < columns → now ≡ begun i → get_or now x None ≡ Some c → owner t.config.spans k x ≡ at c.begun x
  owner-now i x now c h is here =
      let there : get_or (begun i) x None ≡ Some c = sym (ap (λ cells. get_or cells x None) is) ∙ here in
      elim (cases_Bool (nat_lt x i)) [
        | inl e ↦ (owner-begun i x (ltb-true x i e) h).some c there
        | inr e ↦ (owner-above i x (grind (arith, nat_tests, e)) h).some c there
      ]

-- open cells that are owners end inside the columns
pub inside-columns : (spans : List Span) (k columns : ℕ) (cells : List (Option Placed)) → Apart spans → spans_fit_columns spans columns ≡ true → columns ≡ length cells
    → ((x : ℕ) (c : Placed) → x < columns → get_or cells x None ≡ Some c → owner spans k x ≡ at c.begun x) → AllOpen (λ x cell. x + rect_columns spans (at cell.begun x) ≤ columns) cells
inside-columns spans k columns cells apart fit whole own x =
    elim (option_cases (get_or cells x None)) [
      | inl none ↦ rw none tt
      | inr some ↦
          let h : x < columns = (let l = within cells x some.0 some.1 in omega (arith, l, whole)) in
          let e : owner spans k x ≡ at some.0.begun x = own x some.0 h some.1 in
          let end = owner-columns spans columns apart fit k x h in
          let col = ap (λ (p : Position). p.col) e in
          let wide = ap (λ p. rect_columns spans p) e in
          rw some.1 (omega (arith, end, col, wide))
    ]
  where
    within : (xs : List (Option Placed)) (x : ℕ) (c : Placed) → get_or xs x None ≡ Some c → x < length xs
    within [] x c e = cc
    within (o ∷ xs) zero c e = omega arith
    within (o ∷ xs) (suc x) c e = let ih = within xs x c e in omega (arith, ih)

-- a place that is its own owner has a rectangle
pub own-rows : (spans : List Span) → HasOwners spans → (k x : ℕ) → is_at (owner spans k x) k x ≡ true → 0 < rect_rows spans (at k x)
own-rows spans owners k x e =
    let n = owners.near k x in
    let rows = ap (λ p. rect_rows spans p) (own_at spans k x e) in
    let row = ap (λ (p : Position). p.row) (own_at spans k x e) in
    omega (arith, n.above, rows, row)

pub own-columns : (spans : List Span) → HasOwners spans → (k x : ℕ) → is_at (owner spans k x) k x ≡ true → 0 < rect_columns spans (at k x)
own-columns spans owners k x e =
    let n = owners.near k x in
    let columns = ap (λ p. rect_columns spans p) (own_at spans k x e) in
    let col = ap (λ (p : Position). p.col) (own_at spans k x e) in
    omega (arith, n.left, columns, col)

-- the columns before it reach as far when a column is written
pub reach-set : (spans : List Span) (cells : List (Option Placed)) (k : ℕ) (cell : Option Placed) → reach spans (set cells k cell) k ≡ reach spans cells k
unfolding reach
reach-set spans cells k cell =
    ap greatest (map_range-same (λ y. column_end spans (slice_index_or (set cells k cell) y None) y) (λ y. column_end spans (slice_index_or cells y None) y) 0 k (λ c a b. ap (λ o. column_end spans o c) (set-other cells k c cell None (omega (arith, b)))))

-- one cell more begins
pub begun-more : (t : Table) (k i : ℕ) (text : Text) (texts : List Text) (start now new : List (Option Placed)) → now ≡ partly (λ x. begin_cell t k (slice_index_or texts x []) x) 0 i start → i < length start → slice_index_or texts i [] ≡ text
    → new ≡ set now i (begin_cell t k text i (get_or now i None)) → new ≡ partly (λ x. begin_cell t k (slice_index_or texts x []) x) 0 (i + 1) start
begun-more t k i text texts start now new before inside is written =
    let f = λ (x : ℕ). begin_cell t k (slice_index_or texts x []) x in
    let same : begin_cell t k text i (get_or (partly f 0 i start) i None) ≡ f (0 + i) (get_or start i None) =
    ap (λ s. begin_cell t k text i s) (partly-at f 0 i start None) ∙ ap (λ y. begin_cell t k y i (get_or start i None)) (sym is) ∙ ap (λ n. f n (get_or start i None)) (sym (zero-add i)) in
    written
    ∙ ap (λ l. set l i (begin_cell t k text i (get_or l i None))) before
    ∙ partly-set f 0 i start (begin_cell t k text i (get_or (partly f 0 i start) i None)) None inside same
    ∙ ap (λ n. partly f 0 n start) (sym (add-one i))

pub begun-is : (t : Table) (k : ℕ) (texts : List Text) (cells : List (Option Placed)) → mapped (λ x. begin_cell t k (slice_index_or texts x []) x) 0 cells ≡ cells_begun t k texts cells
unfolding cells_begun
begun-is t k texts cells = refl

-- ---- what the cells' iterator gives

module _ {I S : Type 0} (text : S → Text) (steps : I → Option S → I → Type 0) where
  -- of a list of which k items were read, an item more
  pub read-more : (s u : I) (x : S) (texts : List Text) (k : ℕ) → AlwaysGives (λ x y. text x ≡ y) steps s (drop k texts) → steps s (Some x) u
      → (slice_index_or texts k [] ≡ text x) × AlwaysGives (λ x y. text x ≡ y) steps u (drop (k + 1) texts)
  read-more s u x texts k gives step = go (drop k texts) refl gives
    where
      go : (rest : List Text) → drop k texts ≡ rest → AlwaysGives (λ x y. text x ≡ y) steps s rest → (slice_index_or texts k [] ≡ text x) × AlwaysGives (λ x y. text x ≡ y) steps u (drop (k + 1) texts)
      go [] is none = absurd (none x u step)
      go (y ∷ ys) is (some, more) =
          let first = drop-first texts ys k y [] is in
          let now = more x u step in
          (first.0 ∙ sym now.0, subst (λ l. AlwaysGives (λ x y. text x ≡ y) steps u l) (sym first.1) now.1)

  -- while fewer are read than it has, it doesn't end
  pub read-none : (s u : I) (texts : List Text) (k : ℕ) → k < length texts → AlwaysGives (λ x y. text x ≡ y) steps s (drop k texts) → steps s None u → ⊥
  read-none s u texts k l gives step =
      let cut = drop-some texts k l in
      let now = subst (λ l. AlwaysGives (λ x y. text x ≡ y) steps s l) cut.2 gives in
      now.0 u step

  -- the iterator stands for the texts from one on, and the cells of those before it have begun
  pub record IsReading (t : Table) (k column : ℕ) (start : List (Option Placed)) (texts : List Text) (now : List (Option Placed)) (cells : I) : Type 0 where
    pub left : AlwaysGives (λ x y. text x ≡ y) steps cells (drop column texts)
    pub begun : now ≡ partly (λ x. begin_cell t k (slice_index_or texts x []) x) 0 column start

-- ---- the slots of open cells in which the cells of a row begin, and in which those that end with it leave

map-map : {A B C : Type 0} (g : B → C) (f : A → B) (xs : List A) → map g (map f xs) ≡ map (λ x. g (f x)) xs
map-map g f [] = refl
map-map g f (x ∷ xs) = ap (λ l. g (f x) ∷ l) (map-map g f xs)

module _ (t : Table) (k : ℕ) (texts : List Text) where
  slot-begun : (x : ℕ) (text : Text) (cell : Option Placed) → slot_of (begin_cell t k text x cell) ≡ begin_at t.config k x text (slot_of cell)
  unfolding begin_cell begin_at
  slot-begun x text cell = elim (cases_Bool (is_at (owner t.config.spans k x) k x)) [ inl e ↦ rw e refl | inr e ↦ rw e refl ]

  slots-begun : (a n : ℕ) (cells : List (Option Placed)) (f : ℕ → Option Slot) → slots_of cells ≡ map f (range_with_len a n)
      → slots_of (mapped (λ x. begin_cell t k (slice_index_or texts x []) x) a cells) ≡ map (λ x. begin_at t.config k x (slice_index_or texts x []) (f x)) (range_with_len a n)
  slots-begun a zero [] f e = refl
  slots-begun a zero (c ∷ cs) f e = cc
  slots-begun a (suc n) [] f e = cc
  slots-begun a (suc n) (c ∷ cs) f e =
      let first : slot_of c ≡ f a = cc in
      let rest : slots_of cs ≡ map f (range_with_len (a + 1) n) = cc in
      ap₂ (λ (x : Option Slot) (xs : List (Option Slot)). x ∷ xs) (slot-begun a (slice_index_or texts a []) c ∙ ap (λ s. begin_at t.config k a (slice_index_or texts a []) s) first) (slots-begun (a + 1) n cs f rest)

slot-closed : (config : Config) (k x : ℕ) (cell : Option Placed) → slot_of (close_cell config.spans k x cell) ≡ close_at config k x (slot_of cell)
slot-closed config k x None = refl
slot-closed config k x (Some cell) = elim (cases_Bool (nat_lt (k + 1) (cell.begun + rect_rows config.spans (at cell.begun x)))) [ inl e ↦ rw e refl | inr e ↦ rw e refl ]

slots-closed : (config : Config) (k a : ℕ) (cells : List (Option Placed)) → slots_of (mapped (close_cell config.spans k) a cells) ≡ mapped (close_at config k) a (slots_of cells)
slots-closed config k a [] = refl
slots-closed config k a (c ∷ cs) = ap₂ (λ (x : Option Slot) (xs : List (Option Slot)). x ∷ xs) (slot-closed config k a c) (slots-closed config k (a + 1) cs)

module _ (t : Table) (m : ℕ) (f : Position → Text) (k : ℕ) (texts : List Text) (told : (x : ℕ) → x < t.columns → f (at k x) ≡ slice_index_or texts x []) (cells : List (Option Placed)) (slots : slots_of cells ≡ open_before (other t m f) k) where
  -- the cells when the separator above row k is drawn and its cells have begun
  abbrev pub cells_of_row : List (Option Placed)
  cells_of_row = cells_begun t k texts (map (draw_cell (separator_height t.config k)) cells)

  above-slots : slots_of (map (draw_cell (separator_height t.config k)) cells) ≡ map (λ x. draw_more (separator_height t.config k) (open_at_row (other t m f) k x)) (range_with_len 0 t.columns)
  unfolding open_before
  above-slots =
      slots-drawn (separator_height t.config k) cells ∙ ap (λ l. map (draw_more (separator_height t.config k)) l) slots
      ∙ map-map (draw_more (separator_height t.config k)) (open_at_row (other t m f) k) (range_with_len 0 t.columns)

  -- their slots are those of the row
  pub slots-of-row : (i : ℕ) → slots_of (map (draw_cell i) cells_of_row) ≡ map (slot_in_row (other t m f) k i) (range_with_len 0 t.columns)
  unfolding slot_in_row
  slots-of-row i =
      let g : ℕ → Option Slot = λ x. draw_more (separator_height t.config k) (open_at_row (other t m f) k x) in
      slots-drawn i cells_of_row
      ∙ ap (λ l. map (draw_more i) (slots_of l)) (sym (begun-is t k texts (map (draw_cell (separator_height t.config k)) cells)))
      ∙ ap (λ l. map (draw_more i) l) (slots-begun t k texts 0 t.columns (map (draw_cell (separator_height t.config k)) cells) g above-slots)
      ∙ map-map (draw_more i) (λ x. begin_at t.config k x (slice_index_or texts x []) (g x)) (range_with_len 0 t.columns)
      ∙ map_range-same (λ x. draw_more i (begin_at t.config k x (slice_index_or texts x []) (g x))) (λ x. draw_more i (begin_at t.config k x (f (at k x)) (g x))) 0 t.columns
      (λ x l h. ap (λ text. draw_more i (begin_at t.config k x text (g x))) (sym (told x (omega (arith, h)))))

  slots-next : (owners : HasOwners t.config.spans) (a n : ℕ) → mapped (close_at t.config k) a (map (slot_in_row (other t m f) k (t.height k)) (range_with_len a n)) ≡ map (open_at_row (other t m f) (k + 1)) (range_with_len a n)
  unfolding slot_in_row next_slot
  slots-next owners a zero = refl
  slots-next owners a (suc n) = ap₂ (λ (x : Option Slot) (xs : List (Option Slot)). x ∷ xs) (sym (open_step (other t m f) owners k a)) (slots-next owners (a + 1) n)

  -- and those that are left are open before the next row
  pub slots-after : HasOwners t.config.spans → slots_of (cells_closed t.config.spans k (map (draw_cell (t.height k)) cells_of_row)) ≡ open_before (other t m f) (k + 1)
  unfolding open_before
  slots-after owners =
      ap (λ l. slots_of l) (sym (closed-is t.config.spans k (map (draw_cell (t.height k)) cells_of_row)))
      ∙ slots-closed t.config k 0 (map (draw_cell (t.height k)) cells_of_row)
      ∙ ap (λ l. mapped (close_at t.config k) 0 l) (slots-of-row (t.height k))
      ∙ slots-next owners 0 t.columns

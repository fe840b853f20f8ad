-- Lists of open cells: how a cell begins, goes on and ends, and a loop over all of them.
use Rattle.std.proofs.Common.{◌≡◌, ℕ, ◌≤◌, zero, suc, ◌+◌, ◌<◌, List, [], ◌∷◌, ◌++◌, map, length, take, drop, set, count_by, cond, get_or, slice_index_or, Option, Some, None, IfSome, is_some, refl, sym, ap, ap₂, ◌∙◌, arith, add-one, subst, ◌^◌, add-zero, Bool, true, false, not, nat_lt, if◌then◌else◌}
use Rattle.std.specs.List.{fold}
use Rattle.pg_stream.specs.Open.{Slot}
use Rattle.std.proofs.lemmas.List.{take_more, take_more_set, drop-set-lt, map-append, length-map}
use Rattle.std.proofs.Math.Seq.{drop-cons}
use Rattle.pg_stream.specs.Placed.{Placed, slot_of, slots_of, AllOpen, IsPlaced}
use Rattle.pg_stream.specs.Inside.{draw_cell, IsTall, AreDrawn, draw_more, slot_block, mapped, is_done, close_cell, cells_closed, new_cell}
use Rattle.pg_config.specs.Spans.{rect_columns, Span, rect_rows}
use Rattle.pg_layout.specs.Position.{at}
use Rattle.pg_picture.specs.Table.{Table, rect_width}
use Rattle.pg_layout.specs.declared.position.Position.{Position}
use Rattle.pg_layout.specs.Text.{Text}
use Rattle.pg_picture.specs.Inside.{HasRoomFor, text_line_at, line_if, placed_line}
use Rattle.pg_picture.specs.Pieces.{Style, style_at, block_line}
use Rattle.pg_picture.specs.Sizes.{height_of_rect, if_fits, sized}
use Rattle.pg_picture.specs.declared.place.CellPlace.{CellPlace}
use Rattle.pg_picture.proofs.PlacesOfTexts.{room-of-line, block_line-at, place_in-tall}
use Rattle.std.proofs.lemmas.Bool.Decides.{nat_tests}
use Rattle.pg_picture.specs.Fits.{cell_fits}
use Rattle.pg_picture.proofs.FittingTables.{cell_fits-room}
use Rattle.pg_picture.proofs.Ranges.{if_fits-below}

-- ---- lists of open cells: how many there are, and what is drawn of all of them

-- as many slots are open as cells
counted : (n : ℕ) (cells : List (Option Placed)) → fold (λ (a : ℕ) (x : Option Slot). a + cond (is_some x) 1 0) n (slots_of cells) ≡ fold (λ (a : ℕ) (x : Option Placed). a + cond (is_some x) 1 0) n cells
counted n [] = refl
counted n (None ∷ cells) = counted (n + 0) cells
counted n (Some cell ∷ cells) = counted (n + 1) cells

pub count-slots : (cells : List (Option Placed)) → count_by is_some (slots_of cells) ≡ count_by is_some cells
count-slots cells = counted 0 cells

pub slots-at : (cells : List (Option Placed)) (x : ℕ) → slice_index_or (slots_of cells) x None ≡ slot_of (slice_index_or cells x None)
slots-at [] x = refl
slots-at (cell ∷ cells) zero = refl
slots-at (cell ∷ cells) (suc x) = slots-at cells x

-- drawing more lines of a cell draws them in its slot
pub slot-drawn : (d : ℕ) (cell : Option Placed) → slot_of (draw_cell d cell) ≡ draw_more d (slot_of cell)
slot-drawn d None = refl
slot-drawn d (Some cell) = refl

pub slots-drawn : (d : ℕ) (cells : List (Option Placed)) → slots_of (map (draw_cell d) cells) ≡ map (draw_more d) (slots_of cells)
slots-drawn d [] = refl
slots-drawn d (cell ∷ cells) = ap₂ (λ x xs. x ∷ xs) (slot-drawn d cell) (slots-drawn d cells)

-- the loop that draws a line of each: those below i are drawn
pub drawn-step : (start items : List (Option Placed)) (i : ℕ) (y d : Option Placed) → i < length items → i < length start
    → drop i items ≡ drop i start → take i items ≡ map (draw_cell 1) (take i start) → y ≡ draw_cell 1 (get_or items i d)
    → (drop (i + 1) (set items i y) ≡ drop (i + 1) start) × (take (i + 1) (set items i y) ≡ map (draw_cell 1) (take (i + 1) start))
drawn-step start items i y d l m rest done now =
    let here : get_or items i d ≡ get_or start i d = ap (λ xs. get_or xs 0 d) (sym (drop-cons items i d l) ∙ rest ∙ drop-cons start i d m) in
    let after : drop (suc i) items ≡ drop (suc i) start = ap (λ xs. drop 1 xs) (sym (drop-cons items i d l) ∙ rest ∙ drop-cons start i d m) in (
      drop-set-lt (i + 1) items i y (omega arith) ∙ subst (λ n. drop n items ≡ drop n start) (sym (add-one i)) after,
      take_more_set items i y l
          ∙ ap₂ (λ (xs : List (Option Placed)) (z : Option Placed). xs ++ z ∷ []) done (now ∙ ap (λ z. draw_cell 1 z) here)
          ∙ sym (ap (λ xs. map (draw_cell 1) xs) (take_more start i d m) ∙ map-append (draw_cell 1) (take i start) (get_or start i d ∷ [])),
    )

-- room for one more line
pub room-at : (items now : List (Option Placed)) (i : ℕ) (o : Option Placed) → AllOpen (λ x cell. cell.drawn + 1 < 2 ^ 64) items → i < length items → i < length now → drop i now ≡ drop i items → o ≡ get_or now i o
    → IfSome o (λ cell. cell.drawn + 1 < 2 ^ 64)
room-at items now i o all l m rest is =
    let here : o ≡ get_or items i o = is ∙ ap (λ xs. get_or xs 0 o) (sym (drop-cons now i o m) ∙ rest ∙ drop-cons items i o l) in
    subst (λ (s : Option Placed). IfSome s (λ cell. cell.drawn + 1 < 2 ^ 64)) (sym (here ∙ get_or-same items i o None l)) (all i)
  where
    get_or-same : (xs : List (Option Placed)) (i : ℕ) (a b : Option Placed) → i < length xs → get_or xs i a ≡ get_or xs i b
    get_or-same [] i a b h = absurd (omega arith)
    get_or-same (x ∷ xs) zero a b h = refl
    get_or-same (x ∷ xs) (suc i) a b h = get_or-same xs i a b (omega arith)

-- what holds of each open cell, whatever is drawn of it, holds of all when more is drawn
pub drawn-at : (d : ℕ) (cells : List (Option Placed)) (x : ℕ) → slice_index_or (map (draw_cell d) cells) x None ≡ draw_cell d (slice_index_or cells x None)
drawn-at d [] x = refl
drawn-at d (cell ∷ cells) zero = refl
drawn-at d (cell ∷ cells) (suc x) = drawn-at d cells x

drawn-one : (P Q : ℕ → Placed → Type 0) (d x : ℕ) (o : Option Placed) → ((cell : Placed) → P x cell → Q x (record cell { drawn = cell.drawn + d })) → IfSome o (P x) → IfSome (draw_cell d o) (Q x)
drawn-one P Q d x None step h = tt
drawn-one P Q d x (Some cell) step h = step cell h

pub drawn-all : (P Q : ℕ → Placed → Type 0) (d : ℕ) (cells : List (Option Placed)) → ((x : ℕ) (cell : Placed) → P x cell → Q x (record cell { drawn = cell.drawn + d })) → AllOpen P cells → AllOpen Q (map (draw_cell d) cells)
drawn-all P Q d cells step all x =
    subst (λ (o : Option Placed). IfSome o (Q x)) (sym (drawn-at d cells x)) (drawn-one P Q d x (slice_index_or cells x None) (step x) (all x))

within : (cells : List (Option Placed)) (x : ℕ) (c : Placed) → slice_index_or cells x None ≡ Some c → x < length cells
within [] x c e = cc
within (cell ∷ cells) zero c e = omega arith
within (cell ∷ cells) (suc x) c e = let ih = within cells x c e in omega (arith, ih)

-- what holds of each that is there holds of all
pub all-open : (P : ℕ → Placed → Type 0) (cells : List (Option Placed)) → ((x : ℕ) (c : Placed) → x < length cells → slice_index_or cells x None ≡ Some c → P x c) → AllOpen P cells
all-open P cells each x = by_cell (slice_index_or cells x None) refl
  where
    by_cell : (o : Option Placed) → slice_index_or cells x None ≡ o → IfSome (slice_index_or cells x None) (P x)
    by_cell None e = rw e tt
    by_cell (Some c) e = rw e (each x c (within cells x c e) e)

-- and the other way round
pub one-open : (P : ℕ → Placed → Type 0) (cells : List (Option Placed)) → AllOpen P cells → (x : ℕ) (c : Placed) → slice_index_or cells x None ≡ Some c → P x c
one-open P cells all x c e = subst (λ (o : Option Placed). IfSome o (P x)) e (all x)

-- cells that are drawn are so whatever is drawn of them
pub drawn-still : (t : Table) (d : ℕ) (cells : List (Option Placed)) → AreDrawn t cells → AreDrawn t (map (draw_cell d) cells)
drawn-still t d cells drawn = record {
  opened = record {
    columns = drawn.opened.columns ∙ sym (length-map cells (draw_cell d));
    inside = drawn-all (λ x cell. x + rect_columns t.config.spans (at cell.begun x) ≤ t.columns) (λ x cell. x + rect_columns t.config.spans (at cell.begun x) ≤ t.columns) d cells (λ x cell h. h) drawn.opened.inside;
    placed = drawn-all (IsPlaced t) (IsPlaced t) d cells (λ x cell h. record { width = h.width; place = h.place; room = h.room }) drawn.opened.placed;
  };
  tall = drawn-all (IsTall t) (IsTall t) d cells (λ x cell h. h) drawn.tall;
}

-- ---- a loop that changes the elements of a list one by one

module _ {A : Type 0} (f : ℕ → A → A) where
  -- the first i elements are changed
  abbrev pub partly : ℕ → ℕ → List A → List A
  partly c i [] = []
  partly c zero (x ∷ xs) = x ∷ xs
  partly c (suc i) (x ∷ xs) = f c x ∷ partly (c + 1) i xs

  pub partly-none : (c : ℕ) (xs : List A) → xs ≡ partly c 0 xs
  partly-none c [] = refl
  partly-none c (x ∷ xs) = refl

  pub partly-all : (c i : ℕ) (xs : List A) → length xs ≤ i → partly c i xs ≡ mapped f c xs
  partly-all c i [] h = refl
  partly-all c zero (x ∷ xs) h = absurd (omega arith)
  partly-all c (suc i) (x ∷ xs) h = ap (λ l. f c x ∷ l) (partly-all (c + 1) i xs (omega arith))

  pub partly-length : (c i : ℕ) (xs : List A) → length (partly c i xs) ≡ length xs
  partly-length c i [] = refl
  partly-length c zero (x ∷ xs) = refl
  partly-length c (suc i) (x ∷ xs) = ap suc (partly-length (c + 1) i xs)

  pub partly-at : (c i : ℕ) (xs : List A) (d : A) → get_or (partly c i xs) i d ≡ get_or xs i d
  partly-at c i [] d = refl
  partly-at c zero (x ∷ xs) d = refl
  partly-at c (suc i) (x ∷ xs) d = partly-at (c + 1) i xs d

  -- the next one is changed
  pub partly-set : (c i : ℕ) (xs : List A) (y d : A) → i < length xs → y ≡ f (c + i) (get_or xs i d) → set (partly c i xs) i y ≡ partly c (suc i) xs
  partly-set c i [] y d h e = absurd (omega arith)
  partly-set c zero (x ∷ xs) y d h e = ap₂ (λ (z : A) (l : List A). z ∷ l) (e ∙ ap (λ n. f n x) (add-zero c)) (partly-none (c + 1) xs)
  partly-set c (suc i) (x ∷ xs) y d h e = ap (λ l. f c x ∷ l) (partly-set (c + 1) i xs y d (omega arith) (e ∙ ap (λ n. f n (get_or xs i d)) (let q : c + suc i ≡ (c + 1) + i = omega arith in q)))

  -- or stays as it is
  pub partly-keep : (c i : ℕ) (xs : List A) (d : A) → i < length xs → f (c + i) (get_or xs i d) ≡ get_or xs i d → partly c i xs ≡ partly c (suc i) xs
  partly-keep c i [] d h e = refl
  partly-keep c zero (x ∷ xs) d h e = ap₂ (λ (z : A) (l : List A). z ∷ l) (sym e ∙ ap (λ n. f n x) (add-zero c)) (partly-none (c + 1) xs)
  partly-keep c (suc i) (x ∷ xs) d h e = ap (λ l. f c x ∷ l) (partly-keep (c + 1) i xs d (omega arith) (subst (λ n. f n (get_or xs i d) ≡ get_or xs i d) (let q : c + suc i ≡ (c + 1) + i = omega arith in q) e))

  -- the elements that are changed, and those that are not
  pub partly-below : (c i : ℕ) (xs : List A) (y : ℕ) (d : A) → y < i → y < length xs → get_or (partly c i xs) y d ≡ f (c + y) (get_or xs y d)
  partly-below c i [] y d h l = absurd (omega arith)
  partly-below c zero (x ∷ xs) y d h l = absurd (omega arith)
  partly-below c (suc i) (x ∷ xs) zero d h l = ap (λ n. f n x) (sym (add-zero c))
  partly-below c (suc i) (x ∷ xs) (suc y) d h l = partly-below (c + 1) i xs y d (omega arith) (omega arith) ∙ ap (λ n. f n (get_or xs y d)) (let q : (c + 1) + y ≡ c + suc y = omega arith in q)

  pub partly-above : (c i : ℕ) (xs : List A) (y : ℕ) (d : A) → i ≤ y → get_or (partly c i xs) y d ≡ get_or xs y d
  partly-above c i [] y d h = refl
  partly-above c zero (x ∷ xs) y d h = refl
  partly-above c (suc i) (x ∷ xs) zero d h = absurd (omega arith)
  partly-above c (suc i) (x ∷ xs) (suc y) d h = partly-above (c + 1) i xs y d (omega arith)

-- an element that was not written stays
pub set-other : {A : Type 0} (xs : List A) (i y : ℕ) (z d : A) → y < i → get_or (set xs i z) y d ≡ get_or xs y d
set-other [] i y z d h = refl
set-other (x ∷ xs) zero y z d h = absurd (omega arith)
set-other (x ∷ xs) (suc i) zero z d h = refl
set-other (x ∷ xs) (suc i) (suc y) z d h = set-other xs i y z d (omega arith)

no_element : {A : Type 0} (y : A) (ys : List A) → [] ≡ y ∷ ys → ⊥
no_element y ys e = cc

-- a list, cut at one of its elements
pub drop-first : {A : Type 0} (xs ys : List A) (k : ℕ) (y d : A) → drop k xs ≡ y ∷ ys → (get_or xs k d ≡ y) × (drop (k + 1) xs ≡ ys)
drop-first [] ys zero y d e = absurd (no_element y ys e)
drop-first [] ys (suc k) y d e = absurd (no_element y ys e)
drop-first (x ∷ xs) ys zero y d e = (cc, cc)
drop-first (x ∷ xs) ys (suc k) y d e =
    let more = drop-first xs ys k y d e in
    let P : ℕ → Type 0 = λ n. drop n (x ∷ xs) ≡ ys in
    let q : suc (k + 1) ≡ suc k + 1 = omega arith in
    (more.0, subst P q more.1)

pub drop-some : {A : Type 0} (xs : List A) (k : ℕ) → k < length xs → (y : A) × (ys : List A) × (drop k xs ≡ y ∷ ys)
drop-some [] k h = absurd (omega arith)
drop-some (x ∷ xs) zero h = (x, xs, refl)
drop-some (x ∷ xs) (suc k) h = drop-some xs k (omega arith)

pub set-same : {A : Type 0} (xs : List A) (i : ℕ) (y d : A) → i < length xs → y ≡ get_or xs i d → xs ≡ set xs i y
set-same [] i y d h e = refl
set-same (x ∷ xs) zero y d h e = ap (λ z. z ∷ xs) (sym e)
set-same (x ∷ xs) (suc i) y d h e = ap (λ l. x ∷ l) (set-same xs i y d (omega arith) e)

-- ---- the cells that end with a row

not-true : (b : Bool) → not b ≡ true → b ≡ false
not-true true e = sym e
not-true false e = refl

not-false : (b : Bool) → not b ≡ false → b ≡ true
not-false true e = refl
not-false false e = sym e

pub leaves : (spans : List Span) (k x : ℕ) (cell : Option Placed) → is_done spans k x cell ≡ true → None ≡ close_cell spans k x cell
leaves spans k x None e = refl
leaves spans k x (Some cell) e = let g : nat_lt (k + 1) (cell.begun + rect_rows spans (at cell.begun x)) ≡ false = not-true (nat_lt (k + 1) (cell.begun + rect_rows spans (at cell.begun x))) e in rw g refl

pub stays : (spans : List Span) (k x : ℕ) (cell : Option Placed) → is_done spans k x cell ≡ false → cell ≡ close_cell spans k x cell
stays spans k x None e = refl
stays spans k x (Some cell) e = let g : nat_lt (k + 1) (cell.begun + rect_rows spans (at cell.begun x)) ≡ true = not-false (nat_lt (k + 1) (cell.begun + rect_rows spans (at cell.begun x))) e in rw g refl

pub closed-is : (spans : List Span) (k : ℕ) (cells : List (Option Placed)) → mapped (close_cell spans k) 0 cells ≡ cells_closed spans k cells
unfolding cells_closed
closed-is spans k cells = refl

-- ---- the next line of an open cell

module _ (t : Table) (x : ℕ) (cell : Placed) (placed : IsPlaced t x cell) (tall : 0 < height_of_rect t.config t.height (at cell.begun x)) (line : Text) (is : line ≡ line_if cell.text (text_line_at cell.place cell.drawn)) where
  abbrev own : Style
  own = style_at t.config (at cell.begun x)

  abbrev high : ℕ
  high = height_of_rect t.config t.height (at cell.begun x)

  -- a text line has room
  pub next-room : (p : Position) (place : CellPlace) (width drawn : ℕ) → p ≡ at cell.begun x → place ≡ cell.place → width ≡ cell.width → drawn ≡ cell.drawn → HasRoomFor (style_at t.config p) place width drawn line
  next-room p place width drawn here stands wide next =
      let has : HasRoomFor own cell.place cell.width cell.drawn line = λ below above. room-of-line own cell.text cell.width high cell.drawn cell.place line (placed.place tall) is (placed.room tall) below above in
      rw (here, stands, wide, next) has

  -- and the line is that of the cell's block
  pub next-line : (p : Position) (place : CellPlace) (width drawn : ℕ) → p ≡ at cell.begun x → place ≡ cell.place → width ≡ cell.width → drawn ≡ cell.drawn
      → placed_line (style_at t.config p) (t.color p) place width drawn line ≡ slot_block t (slot_of (Some cell)) x
  next-line p place width drawn here stands wide next =
      let q : Position = at cell.begun x in
      ap (λ (y : Position). placed_line (style_at t.config y) (t.color y) place width drawn line) here
      ∙ ap (λ (y : CellPlace). placed_line own (t.color q) y width drawn line) stands
      ∙ ap₂ (λ (w d : ℕ). placed_line own (t.color q) cell.place w d line) wide next
      ∙ block_line-at own (t.color q) cell.text cell.width high cell.drawn cell.place line (placed.place tall) is
      ∙ ap (λ w. block_line own (t.color q) cell.text w high cell.drawn) placed.width

-- ---- a cell that begins at a place: its width, its height and the place of its text

module _ (t : Table) (p : Position) where
  -- the sizes that are asked are numbers of 64 bits
  pub width-some : (o : Option ℕ) → rect_width t p < 2 ^ 64 → o ≡ if_fits (rect_width (sized t.config t.width t.height 0 t.columns) p) → o ≡ Some (rect_width t p)
  unfolding rect_width
  width-some o few is = is ∙ if_fits-below (rect_width t p) few

  pub height-some : (o : Option ℕ) → p.row + rect_rows t.config.spans p < 2 ^ 64 → height_of_rect t.config t.height p < 2 ^ 64
      → o ≡ (if nat_lt (p.row + rect_rows t.config.spans p) (2 ^ 64) then if_fits (height_of_rect t.config t.height p) else None) → o ≡ Some (height_of_rect t.config t.height p)
  height-some o end few is =
      let inside : nat_lt (p.row + rect_rows t.config.spans p) (2 ^ 64) ≡ true = grind (arith, nat_tests, end) in
      is ∙ (rw inside (if_fits-below (height_of_rect t.config t.height p) few))

  -- such a cell is placed, where its text has room
  pub placed-new : (text : Text) → cell_fits (style_at t.config p) text (rect_width t p) (height_of_rect t.config t.height p) ≡ true → IsPlaced t p.col (new_cell t p text)
  placed-new text fits = record {
    width = refl;
    place = λ some. place_in-tall (style_at t.config p) text (rect_width t p) (height_of_rect t.config t.height p) some;
    room = λ some. (cell_fits-room (style_at t.config p) text (rect_width t p) (height_of_rect t.config t.height p) fits some).0;
  }

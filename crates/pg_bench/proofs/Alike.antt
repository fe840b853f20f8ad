-- Rows and cells that are all alike, as `Repeated` gives them, and those of records that are counted as they are read.
use Rattle.std.proofs.Common.{◌≡◌, ℕ, zero, suc, ◌+◌, List, [], ◌∷◌, map, length, replicate, Option, None, Some, MatchOption, IfSome, refl, sym, ap, ◌∙◌, subst, add-one}
use Rattle.std.proofs.lemmas.List.{length-map, length-replicate}
use Rattle.pg_layout.specs.Records.{AlwaysGives, columns_of, Gives}
use Rattle.pg_layout.specs.Text.{Text}
use Rattle.pg_layout.proofs.Given.{given-rest}
use Rattle.pg_layout.proofs.GivenArrays.{Even}
use Rattle.pg_config.specs.Config.{Config}
use Rattle.pg_picture.specs.Fits.{misfit_of}
use Rattle.pg_picture.specs.Sizes.{table_of}
use Rattle.pg_picture.specs.Table.{Table}
use Rattle.pg_testing.specs.declared.unhinted.Repeated.{Repeated}
use Rattle.std.specs.Iterator.{Count}

-- how an iterator gives what it repeats
abbrev pub repeats : {C : Type 0} → Repeated C → Option C → Repeated C → Type 0
repeats s r t = MatchOption r (s.left ≡ 0) (λ item. (item ≡ s.item) × (t.item ≡ s.item) × (s.left ≡ t.left + 1))

-- what it has left
abbrev pub left_of : {C : Type 0} → Repeated C → List C
left_of s = replicate s.left s.item

pub none-left : {C : Type 0} (s : Repeated C) → s.left ≡ 0 → left_of s ≡ []
none-left s none = ap (λ n. replicate n s.item) none

pub one-left : {C : Type 0} (s : Repeated C) (x : C) (t : Repeated C) → (x ≡ s.item) × (t.item ≡ s.item) × (s.left ≡ t.left + 1) → left_of s ≡ x ∷ left_of t
one-left s x t (first, same, more) = ap (λ n. replicate n s.item) (more ∙ add-one t.left) ∙ rw first (rw same refl)

-- a lent iterator gives each item that it has left
pub lent-gives : {S C : Type 0} (now : S → Repeated C) (text : C → Text) (s : S) (items : List C) → left_of (now s) ≡ items
    → AlwaysGives (λ x y. text x ≡ y) (λ s r t. repeats (now s) r (now t)) s (map text items)
lent-gives now text s items left =
    rw (sym left) (given-rest (λ s r t. repeats (now s) r (now t)) text (λ s. left_of (now s)) (λ s t step. none-left (now s) step) (λ s x t step. one-left (now s) x (now t) step) s)

-- Rows that are all alike fit with as many columns as one has where they fit with those of the first: with none there is nothing that wouldn't.
pub alike-fit : (config : Config) (width height : ℕ → ℕ) (row : List Text) (count : ℕ)
    → misfit_of (table_of config width height (replicate count row) (columns_of (replicate count row))) ≡ None
    → misfit_of (table_of config width height (replicate count row) (length row)) ≡ None
unfolding misfit_of
alike-fit config width height row zero fit = refl
alike-fit config width height row (suc n) fit = fit

pub texts-alike : {C : Type 0} (text : C → Text) (row : List C) (count : ℕ) → map (λ row. map text row) (replicate count row) ≡ replicate count (map text row)
texts-alike text row zero = refl
texts-alike text row (suc n) = ap (λ rows. map text row ∷ rows) (texts-alike text row n)

-- rows have as many columns as their texts
pub columns-texts : {C : Type 0} (text : C → Text) (rows : List (List C)) → columns_of rows ≡ columns_of (map (λ row. map text row) rows)
columns-texts text [] = refl
columns-texts text (row ∷ rows) = sym (length-map row text)

-- a table of no rows fits
pub none-fit : (t : Table) → t.rows ≡ 0 → misfit_of t ≡ None
unfolding misfit_of
none-fit t none = rw none refl

pub even-alike : {C : Type 0} (row : List C) (count : ℕ) → Even (length row) (replicate count row)
even-alike row zero = tt
even-alike row (suc n) = (refl, even-alike row n)

-- how many rows a repeated row makes
pub count-left : {C : Type 0} (text : C → Text) (s : Repeated (List C)) → length (map (λ row. map text row) (left_of s)) ≡ s.left
count-left text s = length-map (left_of s) (λ row. map text row) ∙ length-replicate s.left s.item

pub exact-alike : {C : Type 0} (text : C → Text) (s : Repeated (List C)) (count : ℕ) (hint : Option ℕ) → s.left ≡ count → IfSome hint (λ n. n ≡ count) → IfSome hint (λ n. n ≡ length (map (λ row. map text row) (left_of s)))
exact-alike text s count hint left exact = subst (λ (m : ℕ). IfSome hint (λ n. n ≡ m)) (sym (count-left text s ∙ left)) exact

-- ---- records that are counted as they are read

module _ {C A B W : Type 0} (P : A → B → Type 0) (steps : C → Option A → C → Type 0) (inner : W → C) where
  abbrev pub counted_steps : W → Option A → W → Type 0
  counted_steps s r t = steps (inner s) r (inner t)

  pub cells-given : (w : W) (ys : List B) → AlwaysGives P steps (inner w) ys → AlwaysGives P counted_steps w ys
  cells-given w [] none = λ x t step. none x (inner t) step
  cells-given w (y ∷ ys) (some, more) = (λ t step. some (inner t) step, λ x t step. let (is, rest) = more x (inner t) step in (is, cells-given t ys rest))

  module _ (can : C → Type 0) (left : C → Count) where
    abbrev pub is_counted : W → List B → Type 0
    is_counted = Gives P (λ s. can (inner s)) counted_steps (λ s. left (inner s))

    cells-counted : (w : W) (ys : List B) → Gives P can steps left (inner w) ys → is_counted w ys
    cells-counted w ys gives = record { can_next = gives.can_next; ends = gives.ends; gives = cells-given w ys gives.gives }

    module _ {R V : Type 0} (next : R → Option C → R → Type 0) (rows : V → R) where
      abbrev pub counted_next : V → Option W → V → Type 0
      counted_next s r t = MatchOption r (next (rows s) None (rows t)) (λ row. next (rows s) (Some (inner row)) (rows t))

      pub rows-given : (v : V) (ys : List (List B)) → AlwaysGives (Gives P can steps left) next (rows v) ys → AlwaysGives is_counted counted_next v ys
      rows-given v [] none = λ row t step. none (inner row) (rows t) step
      rows-given v (y ∷ ys) (some, more) = (λ t step. some (rows t) step, λ row t step. let (is, rest) = more (inner row) (rows t) step in (cells-counted row y is, rows-given t ys rest))

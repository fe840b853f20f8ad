-- The texts of records of which some are other ones, by their places.
use Rattle.std.proofs.Common.{◌≡◌, ℕ, zero, suc, Bool, true, false, cond, Bor, ◌-◌, ◌%◌, ◌<◌, ◌==◌, ◌&&◌, List, [], ◌∷◌, Some, None, length, get_or, set, String, refl, sym, ap, ◌∙◌, inl, inr, arith}
use Rattle.std.specs.List.{All}
use Rattle.std.proofs.lemmas.Bool.{cases_Bool, false≢true}
use Rattle.std.proofs.lemmas.Bool.Decides.{nat_tests}
use Rattle.std.proofs.lemmas.List.FromFn.{length-map-range_with_len, get_or-map-range_with_len}
use Rattle.pg_layout.specs.declared.position.Position.{Position}
use Rattle.pg_layout.specs.Keys.{by_place}
use Rattle.pg_layout.specs.Places.{same, value_at, with_place}
use Rattle.pg_layout.specs.Position.{at}
use Rattle.std.specs.Iterator.{YieldsFirstBy, item_count}
use Rattle.pg_layout.specs.Records.{Table, Gives, text_at}
use Rattle.pg_layout.specs.Text.{Text}
use Rattle.pg_layout.proofs.Given.{yields-all}
use Rattle.pg_layout.proofs.KeyedPlaces.{place-laws, value_at-with_place}
use Rattle.pg_fit.specs.declared.overlaid.OverlaidColumns.{OverlaidColumns}
use Rattle.pg_fit.specs.declared.overlaid.OverlaidRows.{OverlaidRows}
use Rattle.pg_fit.specs.Overlaid.{Overlay, other_text, text_or, row_from, rows_from, overlaid, row_left}

module _ {R Z : Type 0} (texts : R → Table) (columns : R → ℕ) (o : Overlay R Z) where
  pub length-overlaid : length (overlaid texts columns o) ≡ length (texts o.records)
  length-overlaid = length-map-range_with_len (λ r. row_from texts columns o r 0) 0 (length (texts o.records) - 0) ∙ omega arith

  row-overlaid : (r : ℕ) → r < length (texts o.records) → get_or (overlaid texts columns o) r [] ≡ row_from texts columns o r 0
  row-overlaid r within = get_or-map-range_with_len (λ k. row_from texts columns o k 0) 0 (length (texts o.records) - 0) r r [] (omega arith) (omega arith)

  pub length-row : (r : ℕ) → length (row_from texts columns o r 0) ≡ columns o.records
  length-row r = length-map-range_with_len (λ c. other_text o.others (texts o.records) (at r c)) 0 (columns o.records - 0) ∙ omega arith

  -- the text at a place
  pub text_at-overlaid : (p : Position) → p.row < length (texts o.records) → p.col < columns o.records → text_at (overlaid texts columns o) p ≡ other_text o.others (texts o.records) p
  text_at-overlaid p row column =
      ap (λ z. get_or z p.col []) (row-overlaid p.row row)
      ∙ get_or-map-range_with_len (λ c. other_text o.others (texts o.records) (at p.row c)) 0 (columns o.records - 0) p.col p.col [] (omega arith) (omega arith)

  -- the rows are equally long
  pub even-overlaid : All (λ row. length row ≡ columns o.records) (overlaid texts columns o)
  even-overlaid k d within =
      ap length (get_or-map-range_with_len (λ r. row_from texts columns o r 0) 0 (length (texts o.records) - 0) k k d (omega (arith, length-overlaid)) (omega arith)) ∙ length-row k

-- ---- columns without other texts

-- a mark that stands after another one was taken away is no other one than before
marked : (marks : List Bool) (k j : ℕ) → get_or (set marks k false) j false ≡ true → (j ≡ k → ⊥) × (get_or marks j false ≡ true)
marked [] zero zero h = absurd (false≢true h)
marked [] zero (suc j) h = absurd (false≢true h)
marked [] (suc k) zero h = absurd (false≢true h)
marked [] (suc k) (suc j) h = absurd (false≢true h)
marked (m ∷ marks) zero zero h = absurd (false≢true h)
marked (m ∷ marks) zero (suc j) h = ((λ e. omega (arith, e)), h)
marked (m ∷ marks) (suc k) zero h = ((λ e. omega (arith, e)), h)
marked (m ∷ marks) (suc k) (suc j) h = let rest = marked marks k j h in ((λ e. rest.0 (omega (arith, e))), rest.1)

away : (p q : Position) → (q.col % 8 ≡ p.col % 8 → ⊥) → same by_place p q ≡ false
away p q other =
    elim (cases_Bool (p.col == q.col)) [
      | inl here ↦ let e : q.col ≡ p.col = grind (arith, nat_tests, here) in absurd (other (ap (λ (n : ℕ). n % 8) e))
      | inr apart ↦ elim (p.row == q.row) as (λ v. (v && (p.col == q.col)) ≡ false) [ true ↦ apart | false ↦ refl ]
    ]

-- a text that is set takes the mark of its column away
pub own_columns : {Z : Type 0} (own : List Bool) (others : List (Position × String Z)) (p : Position) (text : String Z)
    → ((q : Position) → get_or own (q.col % 8) false ≡ true → value_at by_place q others ≡ None)
    → (q : Position) → get_or (set own (p.col % 8) false) (q.col % 8) false ≡ true → value_at by_place q (with_place by_place p text others) ≡ None
own_columns own others p text none q h =
    let parts = marked own (p.col % 8) (q.col % 8) h in
    value_at-with_place place-laws q p text others ∙ ap (λ (b : Bool). cond b (Some text) (value_at by_place q others)) (away p q parts.0) ∙ none q parts.1

-- in a column with its mark each place has the text of the records
pub own_text : {Z : Type 0} (own : List Bool) (others : List (Position × String Z)) (texts : Table) (p : Position) (text : Text) → text ≡ text_at texts p
    → get_or own (p.col % 8) false ≡ true → ((q : Position) → get_or own (q.col % 8) false ≡ true → value_at by_place q others ≡ None) → text ≡ other_text others texts p
own_text own others texts p text is h none = is ∙ ap (λ v. text_or v (text_at texts p)) (sym (none p h))

-- ---- rows that are given one by one

module _ {R Z : Type 0} (texts : R → Table) (columns : R → ℕ) where
  abbrev pub cells_left : OverlaidColumns R Z → List Text
  cells_left s = row_left texts columns s.records.now s.row s.column

  abbrev pub rows_left : OverlaidRows R Z → Table
  rows_left s = rows_from texts columns s.records.now s.row

  abbrev pub GivesCells : OverlaidColumns R Z → List Text → Type 0
  GivesCells = Gives (λ (x : Bor Text) (y : Text). x.now ≡ y) (λ _. Unit {0}) (YieldsFirstBy (λ (x : Bor Text). x.now) cells_left) (item_count cells_left)

  cells-given : (s : OverlaidColumns R Z) → GivesCells s (cells_left s)
  cells-given s = record { can_next = tt; ends = tt; gives = yields-all (λ (x : Bor Text) (y : Text). x.now ≡ y) (λ (x : Bor Text). x.now) cells_left (λ x. refl) s (cells_left s) refl }

  pub rows-given : (s : OverlaidRows R Z) → Gives GivesCells (λ _. Unit {0}) (YieldsFirstBy cells_left rows_left) (item_count rows_left) s (rows_left s)
  rows-given s = record { can_next = tt; ends = tt; gives = yields-all GivesCells cells_left rows_left cells-given s (rows_left s) refl }

-- how many rows and columns there are
pub ruleset overlaid_sizes = (length-overlaid, even-overlaid)

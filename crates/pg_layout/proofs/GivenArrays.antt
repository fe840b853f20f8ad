-- An iterator of arrays gives its rows, and each array its cells.
use Rattle.std.proofs.Common.{◌≡◌, ℕ, List, [], ◌∷◌, map, length, All, IfSome, Option, Some, None, sym, ◌∙◌, subst}
use Rattle.std.specs.Iterator.{Count, IsFinite, at_most}
use Rattle.std.specs.Array.Iter.{array_into_iter_items, array_steps}
use Rattle.std.specs.declared.array.IntoIter.{IntoIter}
use Rattle.std.proofs.lemmas.List.{nil_from_length, length-map}
use Rattle.std.proofs.lemmas.List.Elements.{All-cons, All-nil}
use Rattle.pg_layout.specs.Text.{Text}
use Rattle.pg_layout.specs.Records.{AlwaysGives, Gives, Becomes, Given, IsGiven}
use Rattle.pg_layout.proofs.Given.{given-rest, given-by-view}

-- each row has this many cells
abbrev pub Even : {C : Type 0} → ℕ → List (List C) → Type 0
Even columns [] = Unit {0}
Even columns (row ∷ rows) = (length row ≡ columns) × Even columns rows

module _ {C : Type 0} {n : ℕ} (text : C → Text) (becomes : List C → IntoIter C n → Type 0) (shows : (row : List C) (s : IntoIter C n) → becomes row s → array_into_iter_items s ≡ row) (can_cell : IntoIter C n → Type 0) (cell-may : (s : IntoIter C n) → can_cell s) where
  abbrev pub Cells : IntoIter C n → List Text → Type 0
  Cells = Gives (λ x y. text x ≡ y) can_cell array_steps (λ s. at_most (length (array_into_iter_items s)))

  cells-given : (s : IntoIter C n) → AlwaysGives (λ x y. text x ≡ y) array_steps s (map text (array_into_iter_items s))
  cells-given = given-rest array_steps text array_into_iter_items (λ s t step. nil_from_length (array_into_iter_items s) step.0) (λ s x t step. step)

  row-stands : (row : List C) → Becomes becomes Cells row (map text row)
  row-stands row s is = record {
    can_next = cell-may s;
    ends = tt;
    gives = subst (λ (xs : List C). AlwaysGives (λ x y. text x ≡ y) array_steps s (map text xs)) (shows row s is) (cells-given s);
  }

  even-texts : (columns : ℕ) (rows : List (List C)) → Even columns rows → All (λ row. length row ≡ columns) (map (λ row. map text row) rows)
  even-texts columns [] even = All-nil _
  even-texts columns (row ∷ rows) (same, even) = All-cons (λ row. length row ≡ columns) (map text row) _ (length-map row text ∙ same) (even-texts columns rows even)

  -- an iterator whose state shows the rows that are left
  module _ {S : Type 0} (can : S → Type 0) (may : (s : S) → can s) (steps : S → Option (List C) → S → Type 0) (left : S → Count) (ends : (s : S) → IsFinite (left s)) (rest : S → List (List C))
      (none : (s t : S) → steps s None t → rest s ≡ []) (some : (s : S) (row : List C) (t : S) → steps s (Some row) t → rest s ≡ row ∷ rest t) where
    rows-given : (s : S) → Gives (Becomes becomes Cells) can steps left s (map (λ row. map text row) (rest s))
    rows-given s = record {
      can_next = may s;
      ends = ends s;
      gives = given-by-view steps (λ row. map text row) (Becomes becomes Cells) row-stands s _ (given-rest steps (λ row. map text row) rest none some s);
    }

    -- records of such rows may be read
    pub arrays-readable : (records : Given S) (s : S) (rows : List (List C)) (columns : ℕ) (hint : Option ℕ)
        → records ≡ record { iter = s; texts = map (λ row. map text row) (rest s); columns = columns; hint = hint }
        → rest s ≡ rows → Even columns rows → IfSome hint (λ count. count ≡ length (map (λ row. map text row) (rest s)))
        → IsGiven (Gives (Becomes becomes Cells) can steps left) records
    arrays-readable records s rows columns hint made shown even exact =
        let P : Given S → Type 0 = λ r. IsGiven (Gives (Becomes becomes Cells) can steps left) r in
        let Q : List (List C) → Type 0 = λ xs. Even columns xs in
        subst P (sym made) (record {
          rows = rows-given s;
          even = even-texts columns (rest s) (subst Q (sym shown) even);
          exact = exact;
        })

-- The table of records that are read row by row: its texts are those of the rows, it may be printed, and its rows make its picture.
use Rattle.std.proofs.Common.{◌≡◌, ℕ, suc, ◌+◌, ◌<◌, false, List, [], ◌∷◌, map, length, slice_index_or, get_or, Option, None, Some, IfSome, All, refl, sym, ap, ap₂, ◌∙◌, subst, arith, add-zero, zero-add}
use Rattle.std.specs.List.{range_with_len}
use Rattle.std.proofs.lemmas.Bool.Decides.{nat_tests}
use Rattle.pg_layout.specs.declared.position.Position.{Position}
use Rattle.pg_layout.specs.Colors.{Color}
use Rattle.pg_layout.specs.Position.{at}
use Rattle.pg_layout.specs.Records.{AlwaysGives, text_at}
use Rattle.pg_layout.specs.Text.{Text}
use Rattle.pg_config.specs.Config.{Config}
use Rattle.pg_picture.specs.Fits.{TableFits, misfit_of}
use Rattle.pg_picture.specs.Picture.{picture}
use Rattle.pg_picture.specs.Table.{Table, is_empty}
use Rattle.pg_picture.proofs.FirstPlaces.{fits}
use Rattle.pg_stream.specs.Conditions.{AreRowsFrom, PrinterFits, RowsFit}
use Rattle.pg_stream.specs.Laws.{texts_of}
use Rattle.pg_stream.specs.Printing.{Printing, hint_of, printer, rows_text}
use Rattle.pg_stream.proofs.PicturesOfRows.{may-be-printed, rows-make, next-row}

-- a list is what it has at its places
at-places : {A : Type 0} (f : ℕ → A) (a : ℕ) (xs : List A) (d : A) → ((i : ℕ) → i < length xs → f (a + i) ≡ get_or xs i d) → map f (range_with_len a (length xs)) ≡ xs
at-places f a [] d h = refl
at-places f a (x ∷ xs) d h =
    let now : f a ≡ x = ap f (sym (add-zero a)) ∙ h 0 (omega arith) in
    ap₂ (λ y ys. y ∷ ys) now (at-places f (a + 1) xs d (λ i l. ap f (let e : (a + 1) + i ≡ a + suc i = omega arith in e) ∙ h (suc i) (omega (arith, l))))

-- rows of one length are the texts at their places
pub texts-are : (texts : List (List Text)) (columns : ℕ) → All (λ row. length row ≡ columns) texts
    → map (λ r. map (λ c. text_at texts (at r c)) (range_with_len 0 columns)) (range_with_len 0 (length texts)) ≡ texts
texts-are texts columns even =
    at-places (λ r. map (λ c. text_at texts (at r c)) (range_with_len 0 columns)) 0 texts [] (λ r here.
    let row : List Text = get_or texts r [] in
    ap (λ k. map (λ c. text_at texts (at k c)) (range_with_len 0 columns)) (zero-add r)
    ∙ ap (λ n. map (λ c. slice_index_or row c []) (range_with_len 0 n)) (sym (even r [] here))
    ∙ at-places (λ c. slice_index_or row c []) 0 row [] (λ c l. ap (λ k. slice_index_or row k []) (zero-add c)))

-- the printer of a table that fits, and its rows, a first one and those behind it
module _ (t : Table) (hint : Option ℕ) (exact : IfSome hint (λ n. n ≡ t.rows)) (none : misfit_of t ≡ None) (texts : List (List Text)) (are : texts_of t ≡ texts) (some : 0 < t.rows) (wide : 0 < t.columns) where
  pub printer-fits : PrinterFits (printer t.config t.columns t.width t.height t.color hint)
  printer-fits = (may-be-printed t hint exact none some wide).0

  pub rows-fit : (s : Printing) → s ≡ printer t.config t.columns t.width t.height t.color hint → RowsFit s texts
  rows-fit s is = subst (λ (q : Printing). RowsFit q texts) (sym is) (subst (λ (rows : List (List Text)). RowsFit (printer t.config t.columns t.width t.height t.color hint) rows) are (may-be-printed t hint exact none some wide).1)

  pub rows-picture : (s : Printing) → s ≡ printer t.config t.columns t.width t.height t.color hint → rows_text s texts ≡ picture (hint_of hint) t
  rows-picture s is =
      let fit : TableFits t = fits t none some wide in
      ap (λ (q : Printing). rows_text q texts) is ∙ ap (λ (rows : List (List Text)). rows_text (printer t.config t.columns t.width t.height t.color hint) rows) (sym are) ∙ rows-make t hint exact fit.spans some wide

-- Records of a table that fits gave a first row: the table may be printed by a printer of as many columns as were counted, and that row and
-- those behind it may be printed and make the picture.
module _ {S A : Type 0} (is_row : A → List Text → Type 0) (steps : S → Option A → S → Type 0) where
  pub record Begun (t : Table) (hint : Option ℕ) (columns : ℕ) (row : A) (rows : S) : Type 0 where
    pub printer_fits : PrinterFits (printer t.config columns t.width t.height t.color hint)
    pub cells : List Text
    pub others : List (List Text)
    pub from : AreRowsFrom is_row steps row rows cells others
    pub rows_fit : (s : Printing) → s ≡ printer t.config columns t.width t.height t.color hint → RowsFit s (cells ∷ others)
    pub rows_picture : (s : Printing) → s ≡ printer t.config columns t.width t.height t.color hint → rows_text s (cells ∷ others) ≡ picture (hint_of hint) t

  module _ (config : Config) (width height : ℕ → ℕ) (color : Position → Option Color) (texts : List (List Text)) (columns : ℕ) where
    abbrev read : Table
    read = record { config = config; rows = length texts; columns = columns; width = width; height = height; text = text_at texts; color = color }

    -- it has cells, where it has columns
    pub some-cells : 0 < columns → (s : S) (row : A) (rows : S) → AlwaysGives is_row steps s texts → steps s (Some row) rows → is_empty read ≡ false
    some-cells wide s row rows gives step =
        let some : 0 < length texts = omega (arith, ap (λ (rows : List (List Text)). length rows) (next-row is_row steps s row rows texts gives step).all) in
        grind (arith, nat_tests, some, wide)

    pub begun : (hint : Option ℕ) → IfSome hint (λ n. n ≡ length texts) → misfit_of read ≡ None
        → (count : ℕ) → count ≡ columns → 0 < count → All (λ (row : List Text). length row ≡ count) texts
        → (s : S) (row : A) (rows : S) → AlwaysGives is_row steps s texts → steps s (Some row) rows → Begun read hint count row rows
    begun hint exact none count value wide even s row rows gives step =
        let next = next-row is_row steps s row rows texts gives step in
        let some : 0 < length texts = omega (arith, ap (λ (rows : List (List Text)). length rows) next.all) in
        let has : 0 < columns = omega (arith, value, wide) in
        let are = texts-are texts columns (subst (λ (n : ℕ). All (λ (row : List Text). length row ≡ n) texts) value even) in
        let same = ap (λ n. printer config n width height color hint) value in
        record {
          printer_fits = rw value (printer-fits read hint exact none texts are some has);
          cells = next.cells;
          others = next.others;
          from = next.from;
          rows_fit = λ p is. subst (λ (rows : List (List Text)). RowsFit p rows) next.all (rows-fit read hint exact none texts are some has p (is ∙ same));
          rows_picture = λ p is. ap (λ (rows : List (List Text)). rows_text p rows) (sym next.all) ∙ rows-picture read hint exact none texts are some has p (is ∙ same);
        }

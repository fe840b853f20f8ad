-- The fault of a table at its natural sizes.
use Rattle.std.proofs.Common.{◌≡◌, ℕ, ◌==◌, ◌&&◌, ◌||◌, Bool, true, false, not, List, [], ◌∷◌, length, unwrap_or, refl, sym, ap, ◌∙◌, arith, Option, is_some, Some, None, Result, Ok, Err, inl, inr, String, ◌<◌}
use Rattle.std.specs.Result.{result_err}
use Rattle.std.proofs.lemmas.Bool.{cases_Bool, false≢true, and_from}
use Rattle.std.proofs.lemmas.Bool.Decides.{nat_tests}
use Rattle.pg_layout.specs.Records.{text_at}
use Rattle.pg_layout.specs.Text.{Text}
use Rattle.pg_config.specs.Config.{Config}
use Rattle.pg_config.specs.Spans.{Span}
use Rattle.pg_picture.specs.Fits.{spans_fit, totals_fit}
use Rattle.pg_picture.specs.Picture.{picture}
use Rattle.pg_picture.specs.Table.{Table, Known, is_empty}
use Rattle.pg_picture.proofs.Appending.{Appends-text, Gained-all, Gained-none}
use Rattle.pg_picture.proofs.Pictures.{picture-none}
use Rattle.pg_table.specs.Natural.{natural_sizes, all_fit, cells_fit, natural_size}
use Rattle.pg_table.specs.Printing.{fault_of, sizes_fault, is_spanned, CanFail, Prints}
use Rattle.pg_table.specs.declared.fault.TableFault.{TableFault}
use Rattle.pg_table.specs.declared.fault.TableFault.TheVariants.{Spans, Totals}
use Rattle.pg_table.specs.declared.sizes.Axis.TheVariants.{Columns, Rows}
use Rattle.pg_picture.proofs.OwnersOfPlaces.{InOrder}
use Rattle.pg_table.proofs.ListedSizes.{all_fit-each}
use Rattle.pg_table.proofs.ShownCells.{natural-at-most}

-- ---- what the fault of a table at its natural sizes tells

-- a table without cells has none
pub fault-empty : (t : Table) → is_empty t ≡ true → fault_of t ≡ None
unfolding fault_of
fault-empty t empty = rw empty refl

-- one with cells and without a fault has spans and totals that fit
some≢none : (fault : TableFault) → Some fault ≡ None → ⊥
some≢none fault e = false≢true (sym (ap (λ (o : Option TableFault). is_some o) e))

pub fault-none : (t : Table) → is_empty t ≡ false → fault_of t ≡ None → (spans_fit t.config.spans t.rows t.columns ≡ true) × (totals_fit t ≡ true)
unfolding fault_of
fault-none t some none =
    elim (cases_Bool (spans_fit t.config.spans t.rows t.columns)) [
      | inl fit ↦ elim (cases_Bool (totals_fit t)) [
        | inl totals ↦ (fit, totals)
        | inr m ↦ absurd (some≢none _ (rw (some, fit, m) at none))
      ]
      | inr n ↦ absurd (some≢none _ (rw (some, n) at none))
    ]

-- a table that keeps no span
pub no_spans : (spans : List Span) → (length spans == 0) ≡ true → spans ≡ []
no_spans [] none = refl
no_spans (s ∷ ss) none = let some : (length (s ∷ ss) == 0) ≡ false = grind (arith, nat_tests) in absurd (false≢true (sym some ∙ none))

-- the fault of one with cells, by its spans and its totals
pub fault-spans : (t : Table) → is_empty t ≡ false → spans_fit t.config.spans t.rows t.columns ≡ false → fault_of t ≡ Some Spans
unfolding fault_of
fault-spans t some misfit = rw (some, misfit) refl

pub fault-totals : (t : Table) → is_empty t ≡ false → spans_fit t.config.spans t.rows t.columns ≡ true → totals_fit t ≡ false → fault_of t ≡ Some Totals
unfolding fault_of
fault-totals t some fit past = rw (some, fit, past) refl

pub fault-fits : (t : Table) → is_empty t ≡ false → spans_fit t.config.spans t.rows t.columns ≡ true → totals_fit t ≡ true → fault_of t ≡ None
unfolding fault_of
fault-fits t some fit totals = rw (some, fit, totals) refl

-- the fault of natural sizes
module _ (config : Config) (texts : List (List Text)) (columns : ℕ) where
  abbrev all_numbers : Bool
  all_numbers = (all_fit (natural_sizes Columns config texts columns) && all_fit (natural_sizes Rows config texts columns)) && cells_fit config (text_at texts) (length texts) columns

  pub sizes-spans : ((length texts == 0) || (columns == 0)) ≡ false → spans_fit config.spans (length texts) columns ≡ false → sizes_fault config texts columns ≡ Some Spans
  unfolding sizes_fault
  sizes-spans some misfit = rw (some, misfit) refl

  pub sizes-numbers : (not ((length texts == 0) || (columns == 0)) && not (spans_fit config.spans (length texts) columns)) ≡ false → all_numbers ≡ true → sizes_fault config texts columns ≡ None
  unfolding sizes_fault
  sizes-numbers fit all = rw (fit, all) refl

  pub sizes-past : (not ((length texts == 0) || (columns == 0)) && not (spans_fit config.spans (length texts) columns)) ≡ false → all_numbers ≡ false → sizes_fault config texts columns ≡ Some Totals
  unfolding sizes_fault
  sizes-past fit past = rw (fit, past) refl

-- spans that fit, and tables without cells, pass the first test
pub fit-passes : (a b : Bool) → b ≡ true → (not a && not b) ≡ false
fit-passes a b h = grind (arith, h)

pub empty-passes : (a b : Bool) → a ≡ true → (not a && not b) ≡ false
empty-passes a b h = grind (arith, h)

-- what a fault that is known makes of another
pub one_fault : {X : Type 0} (r : Result X TableFault) (o : Option TableFault) (told fault : TableFault) → r ≡ Err told → o ≡ Some told → o ≡ Some fault → r ≡ Err fault
one_fault r o told fault is known e = is ∙ ap (λ (f : TableFault). Err f) (ap (λ (q : Option TableFault). unwrap_or q told) (sym known ∙ e))

pub no_fault : (o : Option TableFault) (fault : TableFault) → o ≡ None → o ≡ Some fault → ⊥
no_fault o fault known e = some≢none fault (sym e ∙ known)

pub fault-is : {X : Type 0} (r : Result X TableFault) (told fault : TableFault) → r ≡ Err told → r ≡ Err fault → told ≡ fault
fault-is r told fault is e = ap (λ (q : Option TableFault). unwrap_or q told) (ap result_err (sym is ∙ e))

pub can-fail : {X : Type 0} (t : Table) (r : Result X TableFault) (told fault : TableFault) → r ≡ Err told → r ≡ Err fault → fault_of t ≡ Some told → CanFail t fault
can-fail t r told fault is e known = inl (known ∙ ap (λ (f : TableFault). Some f) (fault-is r told fault is e))

-- where nothing is appended to it, a buffer has gained the picture of a table without cells
pub prints-nothing : {Z : Type 0} (t : Table) (buf : String Z) → is_empty t ≡ true → Prints (is_spanned t) (fault_of t) buf buf (Ok (tt {0})) (picture Known t)
prints-nothing t buf empty = rw (fault-empty t empty) (inl (Appends-text (sym (picture-none Known t empty)) (Gained-all (Gained-none buf))), λ fault e. cc)

-- ---- natural sizes of a table with cells whose spans fit are told where all shown cells fit

module _ (config : Config) (texts : List (List Text)) (columns : ℕ) where
  pub cells-no_fault : ((length texts == 0) || (columns == 0)) ≡ false → InOrder config.spans (length texts) columns → cells_fit config (text_at texts) (length texts) columns ≡ true → sizes_fault config texts columns ≡ None
  unfolding natural_sizes
  cells-no_fault some order all =
      let rows : 0 < length texts = grind (arith, nat_tests, some) in
      let cols : 0 < columns = grind (arith, nat_tests, some) in
      let wide : all_fit (natural_sizes Columns config texts columns) ≡ true = all_fit-each (natural_size Columns config (text_at texts) (length texts) columns) columns (λ k h. natural-at-most config (text_at texts) (length texts) columns Columns k order all rows h) in
      let high : all_fit (natural_sizes Rows config texts columns) ≡ true = all_fit-each (natural_size Rows config (text_at texts) (length texts) columns) (length texts) (λ k h. natural-at-most config (text_at texts) (length texts) columns Rows k order all cols h) in
      sizes-numbers config texts columns (fit-passes _ _ order.fit)
      (and_from (all_fit (natural_sizes Columns config texts columns) && all_fit (natural_sizes Rows config texts columns)) (cells_fit config (text_at texts) (length texts) columns)
      (and_from (all_fit (natural_sizes Columns config texts columns)) (all_fit (natural_sizes Rows config texts columns)) wide high) all)

-- without cells nothing is wrong
pub ruleset empty_faults = (fault-empty)

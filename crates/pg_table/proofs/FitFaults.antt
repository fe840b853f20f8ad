-- When a table isn't fitted.
use Rattle.std.proofs.Common.{Bool, arith, ◌≡◌, ℕ, ◌-◌, ◌^◌, ◌==◌, ◌&&◌, ◌||◌, true, false, not, nat_lt, List, length, refl, ap, Option, Some, None, Result, Ok, Err, inl, inr}
use Rattle.std.specs.Result.{IsErrAnd}
use Rattle.pg_layout.specs.Text.{Text}
use Rattle.pg_config.specs.Config.{Config}
use Rattle.std.proofs.lemmas.Bool.{cases_Bool, and_right}
use Rattle.pg_layout.specs.Records.{text_at}
use Rattle.pg_picture.specs.Fits.{spans_fit}
use Rattle.pg_table.specs.Natural.{natural_sizes, all_fit, cells_fit}
use Rattle.pg_table.specs.Fitted.{fit_fault}
use Rattle.pg_table.specs.Printing.{sizes_fault}
use Rattle.pg_table.specs.declared.fault.TableFault.{TableFault}
use Rattle.pg_table.specs.declared.fault.TableFault.TheVariants.{Spans, Totals}
use Rattle.pg_table.specs.declared.sizes.Axis.TheVariants.{Columns, Rows}
use Rattle.pg_table.proofs.Faults.{fit-passes, sizes-spans, sizes-past}

-- a fault is one, and not none
pub same-fault : (a b : TableFault) → Some a ≡ Some b → a ≡ b
same-fault a b e = cc

-- an error that is handed on
pub handed-on : {X : Type 0} (r : Result X TableFault) (told : TableFault) → IsErrAnd r (λ fault. fault ≡ told) → r ≡ Err told
handed-on (Ok x) told h = absurd h
handed-on (Err fault) told h = ap (λ (f : TableFault). Err f) h

-- a table that keeps a span has cells, and one with cells that keeps none has none
pub kept-parts : (e n : Bool) → (not e && n) ≡ true → (e ≡ false) × (n ≡ true)
kept-parts e n h = (grind (arith, h), grind (arith, h))

pub kept-from : (e n : Bool) → e ≡ false → n ≡ false → (not e && not n) ≡ true
kept-from e n some kept = grind (arith, some, kept)

pub no-cells : (e n : Bool) → e ≡ true → (not e && n) ≡ false
no-cells e n empty = grind (arith, empty)

pub unkept : (e n : Bool) → (not e && n) ≡ false → e ≡ false → n ≡ false
unkept e n h some = grind (arith, h, some)

pub not-both : (o : Option TableFault) (a : TableFault) → o ≡ None → o ≡ Some a → ⊥
not-both o a none some = cc

module _ (config : Config) (texts : List (List Text)) (columns : ℕ) where
  pub fault-empty : ((length texts == 0) || (columns == 0)) ≡ true → fit_fault config texts columns ≡ None
  unfolding fit_fault
  fault-empty empty = rw empty refl

  pub fault-spans : ((length texts == 0) || (columns == 0)) ≡ false → not (length config.spans == 0) ≡ true → fit_fault config texts columns ≡ sizes_fault config texts columns
  unfolding fit_fault
  fault-spans some kept = rw (some, kept) refl

  pub fault-totals : ((length texts == 0) || (columns == 0)) ≡ false → not (length config.spans == 0) ≡ false → (nat_lt columns (2 ^ 64 - 1) && all_fit (natural_sizes Columns config texts columns)) ≡ false → fit_fault config texts columns ≡ Some Totals
  unfolding fit_fault
  fault-totals some none past = rw (some, none, past) refl

  pub fault-none : ((length texts == 0) || (columns == 0)) ≡ false → not (length config.spans == 0) ≡ false → (nat_lt columns (2 ^ 64 - 1) && all_fit (natural_sizes Columns config texts columns)) ≡ true → fit_fault config texts columns ≡ None
  unfolding fit_fault
  fault-none some none fit = rw (some, none, fit) refl

  -- where natural sizes are told, spans and cells fit
  pub told-fits : ((length texts == 0) || (columns == 0)) ≡ false → sizes_fault config texts columns ≡ None → (spans_fit config.spans (length texts) columns ≡ true) × (cells_fit config (text_at texts) (length texts) columns ≡ true)
  told-fits some none =
      elim (cases_Bool (spans_fit config.spans (length texts) columns)) [
        | inr misfit ↦ absurd (not-both _ Spans none (sizes-spans config texts columns some misfit))
        | inl fit ↦ elim (cases_Bool (cells_fit config (text_at texts) (length texts) columns)) [
          | inl cells ↦ (fit, cells)
          | inr past ↦ absurd (not-both _ Totals none (sizes-past config texts columns (fit-passes _ _ fit) (and_right (all_fit (natural_sizes Columns config texts columns) && all_fit (natural_sizes Rows config texts columns)) _ past)))
        ]
      ]

  pub told-none : ((fault : TableFault) → sizes_fault config texts columns ≡ Some fault → ⊥) → sizes_fault config texts columns ≡ None
  told-none never = fault_cases (sizes_fault config texts columns) never
    where
      fault_cases : (o : Option TableFault) → ((fault : TableFault) → o ≡ Some fault → ⊥) → o ≡ None
      fault_cases None never = refl
      fault_cases (Some fault) never = absurd (never fault refl)

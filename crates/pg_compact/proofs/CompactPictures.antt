-- The picture of a compact table in which everything fits, or which shows each line.
use Rattle.std.proofs.Common.{◌≡◌, ℕ, ◌-◌, ◌^◌, ◌<◌, ◌==◌, ◌&&◌, nat_lt, true, false, List, [], length, Option, Some, None, is_some, refl, sym, ap, ◌∙◌, arith, inl, inr, ◌||◌}
use Rattle.std.proofs.lemmas.Bool.{cases_Bool, false≢true}
use Rattle.std.proofs.lemmas.Bool.Decides.{nat_tests}
use Rattle.pg_layout.specs.declared.position.Position.{Position}
use Rattle.pg_layout.specs.Colors.{Color}
use Rattle.pg_layout.specs.Text.{Text}
use Rattle.pg_config.specs.CompactConfig.{settings_of}
use Rattle.pg_picture.specs.CompactLines.{CompactTable, compact_width, compact_full_width, compact_sized}
use Rattle.pg_picture.specs.Fits.{compact_misfit_of}
use Rattle.pg_picture.specs.Picture.{compact_picture}
use Rattle.pg_picture.specs.Sizes.{if_fits}
use Rattle.pg_picture.specs.declared.fits.Misfit.{Misfit}
use Rattle.pg_compact.specs.declared.printer.CompactPrinter.{CompactPrinter}
use Rattle.pg_compact.specs.CompactGrids.{CompactFits, compact_misfit, has_no_cells}
use Rattle.pg_compact.specs.Inside.{printed_table}
use Rattle.pg_picture.proofs.Ranges.{some_answer}
use Rattle.pg_picture.specs.Shown.{compact_unshown_of}
use Rattle.pg_picture.proofs.FirstPlaces.{compact_misfit-sized}
use Rattle.pg_picture.proofs.FittingTables.{compact_shown-fits}

-- ---- the picture of a compact table in which everything fits

-- a table without cells has no picture
pub picture-empty : (t : CompactTable) → has_no_cells t ≡ true → compact_picture t ≡ []
unfolding compact_picture
picture-empty t empty = rw empty refl

pub no_columns-text : (t : CompactTable) → t.columns ≡ 0 → [] ≡ compact_picture t
no_columns-text t none = sym (picture-empty t (grind (arith, nat_tests, none)))

pub no_rows-text : (t : CompactTable) → t.rows ≡ 0 → [] ≡ compact_picture t
no_rows-text t none = sym (picture-empty t (grind (arith, nat_tests, none)))

-- with a row and a column there are cells
pub some-cells : (t : CompactTable) → 0 < t.rows → 0 < t.columns → has_no_cells t ≡ true → ⊥
some-cells t rows columns empty =
    let some : has_no_cells t ≡ false = grind (arith, nat_tests, rows, columns) in
    false≢true (sym some ∙ empty)

-- and no misfit
pub misfit-empty : (t : CompactTable) → has_no_cells t ≡ true → compact_misfit t ≡ None
unfolding compact_misfit_of
misfit-empty t empty =
    elim (cases_Bool (t.rows == 0)) [
      | inl none ↦ rw none refl
      | inr some ↦ (let columns : (t.columns == 0) ≡ true = grind (arith, nat_tests, empty, some) in rw (some, columns) refl)
    ]

-- a table fits where it has no misfit
pub fits-if-no_misfit : (t : CompactTable) → compact_misfit t ≡ None → CompactFits t
fits-if-no_misfit t none = λ rows. let some : (t.rows == 0) ≡ false = grind (arith, nat_tests, rows) in rw some at none

pub no_misfit-if-fits : (t : CompactTable) → CompactFits t → compact_misfit t ≡ None
no_misfit-if-fits t fits =
    elim (cases_Bool (t.rows == 0)) [
      | inl none ↦ rw none refl
      | inr some ↦ (let rows : 0 < t.rows = grind (arith, nat_tests, some) in rw some (fits rows))
    ]

-- what the totals of a table are that has no misfit
pub record CompactTotals (t : CompactTable) : Type 0 where
  pub columns : t.columns < 2 ^ 64 - 1
  pub width : compact_full_width t < 2 ^ 64

pub compact-totals : (t : CompactTable) → compact_misfit_of t ≡ None → 0 < t.columns → CompactTotals t
unfolding compact_misfit_of
compact-totals t fits some =
    let columns : (t.columns == 0) ≡ false = grind (arith, nat_tests, some) in
    elim (cases_Bool (nat_lt t.columns (2 ^ 64 - 1) && nat_lt (compact_full_width t) (2 ^ 64))) [
      | inl both ↦ record { columns = grind (arith, nat_tests, both); width = grind (arith, nat_tests, both) }
      | inr over ↦ absurd (false≢true (sym (ap (λ (o : Option Misfit). is_some o) (rw (columns, over) at fits))))
    ]

module _ {D C : Type 0} (width : D → ℕ → ℕ) (color : C → Position → Option Color) (p : CompactPrinter D C) (texts : List (List Text)) where
  -- the texts don't matter to what fits
  sized-misfit : compact_misfit_of (compact_sized (settings_of p.config.now) (width p.dimension) p.columns) ≡ compact_misfit_of (printed_table width color p texts)
  unfolding compact_misfit_of compact_full_width compact_width
  sized-misfit = refl

  pub totals-fit : CompactFits (printed_table width color p texts) → 0 < length texts → 0 < p.columns → CompactTotals (printed_table width color p texts)
  totals-fit fits rows columns = compact-totals (printed_table width color p texts) (sym sized-misfit ∙ fits rows) columns

  same-width : compact_full_width (compact_sized (settings_of p.config.now) (width p.dimension) p.columns) ≡ compact_full_width (printed_table width color p [])
  unfolding compact_full_width compact_width
  same-width = refl

  any-texts : compact_full_width (printed_table width color p []) ≡ compact_full_width (printed_table width color p texts)
  unfolding compact_full_width compact_width
  any-texts = refl

  -- what the call answers that adds up the widths
  pub width-answer : {answer : Option ℕ} → CompactTotals (printed_table width color p texts) → answer ≡ if_fits (compact_full_width (compact_sized (settings_of p.config.now) (width p.dimension) p.columns)) → answer ≡ Some (compact_full_width (printed_table width color p []))
  width-answer totals is = some_answer (compact_full_width (printed_table width color p [])) (omega (arith, any-texts, totals.width)) (is ∙ ap if_fits same-width)

-- ---- a compact table that shows each line fits

pub no_columns-fit : (t : CompactTable) → (t.columns == 0) ≡ true → compact_misfit_of (compact_sized t.config t.width t.columns) ≡ None
unfolding compact_misfit_of
no_columns-fit t none = rw none refl

pub shown-fits : (t : CompactTable) → compact_unshown_of t ≡ None → CompactFits t
shown-fits t e = λ rows.
    elim (cases_Bool (t.columns == 0)) [
      | inl none ↦ no_columns-fit t none
      | inr columns ↦
          let some : ((t.rows == 0) || (t.columns == 0)) ≡ false = grind (arith, nat_tests, rows, columns) in
          sym (compact_misfit-sized t) ∙ compact_shown-fits t some e
    ]

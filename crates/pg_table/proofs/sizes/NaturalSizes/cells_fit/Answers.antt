use Rattle.std.proofs.Common.{◌≡◌, ℕ, true, length, sym, ◌∙◌, subst, inl, inr, arith}
use Rattle.std.specs.List.{range_with_len, list_all}
use Rattle.std.proofs.lemmas.Bool.{cases_order}
use Rattle.pg_layout.specs.Records.{text_at}
use Rattle.pg_table.specs.Natural.{cells_fit}
use Rattle.pg_table.proofs.ShownCells.{fits_at, all_pass, one_fails}
use Rattle.pg_table.proofs.sizes.NaturalSizes.cells_fit.Goals as goal

pub loop-row-preserved : goal.loop-row-preserved
loop-row-preserved g c = λ r h.
    let self = c.args.self.now in
    let columns : ℕ = g.R.Records.columns self.records in
    let row : c.row_fits.result ≡ list_all (fits_at self.config.now (text_at (g.R.Records.texts self.records)) c.loop-row.row) (range_with_len 0 columns) = c.row_fits.ensures in
    elim (cases_order r c.loop-row.row) [
      | inl same ↦ subst (λ i. list_all (fits_at self.config.now (text_at (g.R.Records.texts self.records)) i) (range_with_len 0 columns) ≡ true) (sym same) (sym row ∙ c.if-not-row_fits.false)
      | inr o ↦ elim o [ inl below ↦ c.loop-row.invariant r below | inr above ↦ absurd (omega (arith, above, h)) ]
    ]

pub returns-then-not-row_fits : goal.returns-then-not-row_fits
unfolding cells_fit
returns-then-not-row_fits g c =
    let self = c.args.self.now in
    let columns : ℕ = g.R.Records.columns self.records in
    let row : c.row_fits.result ≡ list_all (fits_at self.config.now (text_at (g.R.Records.texts self.records)) c.loop-row.row) (range_with_len 0 columns) = c.row_fits.ensures in
    sym (one_fails (λ r. list_all (fits_at self.config.now (text_at (g.R.Records.texts self.records)) r) (range_with_len 0 (g.R.Records.columns self.records))) 0 (length (g.R.Records.texts self.records)) c.loop-row.row (omega arith) (omega (arith, c.loop-row-test.true, c.count_rows-row-end.ensures)) (sym row ∙ c.if-not-row_fits.true))

pub returns : goal.returns
unfolding cells_fit
returns g c =
    let self = c.args.self.now in
    sym (all_pass (λ r. list_all (fits_at self.config.now (text_at (g.R.Records.texts self.records)) r) (range_with_len 0 (g.R.Records.columns self.records))) 0 (length (g.R.Records.texts self.records)) (λ k h l. c.loop-row.invariant k (omega (arith, l, c.loop-row-test.false, c.count_rows-row-end.ensures))))

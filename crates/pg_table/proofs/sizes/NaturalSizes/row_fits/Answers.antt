use Rattle.std.proofs.Common.{◌||◌, not, sym, ap, ◌∙◌, arith}
use Rattle.pg_layout.specs.declared.position.Position.{Position}
use Rattle.pg_layout.specs.Records.{text_at}
use Rattle.pg_config.specs.Spans.{is_visible}
use Rattle.pg_table.specs.Natural.{is_sized}
use Rattle.pg_table.proofs.ShownCells.{fits_at, all_pass, one_fails}
use Rattle.pg_table.proofs.sizes.NaturalSizes.row_fits.Goals as goal

pub returns-then-not-place_fits : goal.returns-then-not-place_fits
returns-then-not-place_fits g c =
    let self = c.args.self.now in
    sym (one_fails (fits_at self.config.now (text_at (g.R.Records.texts self.records)) c.args.row) 0 (g.R.Records.columns self.records) c.loop-col.col (omega arith) (omega (arith, c.loop-col-test.true, c.count_columns-col-end.ensures.value))
    (ap (λ (p : Position). not (is_visible self.config.now.spans p) || is_sized self.config.now (text_at (g.R.Records.texts self.records)) p) (sym c.new.ensures) ∙ sym c.place_fits.ensures ∙ c.if-not-place_fits.true))

pub returns : goal.returns
returns g c =
    let self = c.args.self.now in
    sym (all_pass (fits_at self.config.now (text_at (g.R.Records.texts self.records)) c.args.row) 0 (g.R.Records.columns self.records) (λ k h l. c.loop-col.invariant k (omega (arith, l, c.loop-col-test.false, c.count_columns-col-end.ensures.value))))

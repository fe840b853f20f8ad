use Rattle.std.proofs.Common.{◌≡◌, ℕ, ◌∙◌, arith}
use Rattle.pg_fit.specs.Overlaid.{other_text}
use Rattle.pg_table.proofs.SpannedWidths.{place-more, row-done}
use Rattle.pg_table.proofs.sizes.NaturalSizes.fit_row.Goals as goal

pub fit_shown-requires-clause-own : goal.fit_shown-requires-clause-own
fit_shown-requires-clause-own g c =
    rw c.new.ensures (c.loop-col.invariant.1.others _ (λ before. absurd (omega (arith, before))))

pub loop-col-preserved : goal.loop-col-preserved
loop-col-preserved g c =
    let self = c.args.self.now in
    let texts = g.R.Records.texts self.records in
    let columns : ℕ = g.R.Records.columns self.records in (
      c.in_ok-fit_shown.ensures.records ∙ c.loop-col.invariant.0,
      place-more c.args.how c.args.widths.now.0.items self.config.now texts columns c.args.row c.loop-col.col (other_text c.loop-col.fitted.others texts) _ c.loop-col.invariant.1
          (rw c.new.ensures at c.in_ok-fit_shown.ensures.here)
          (rw c.new.ensures at c.in_ok-fit_shown.ensures.others)
          (rw c.new.ensures at c.in_ok-fit_shown.ensures.room),
    )

pub returns-clause-fits : goal.returns-clause-fits
returns-clause-fits g c =
    let self = c.args.self.now in
    let texts = g.R.Records.texts self.records in
    let columns : ℕ = g.R.Records.columns self.records in
    let all : c.loop-col.col ≡ columns = omega (arith, c.loop-col-test.false, c.loop-col.auto.col-end, c.count-col-end.ensures) in
    row-done c.args.how c.args.widths.now.0.items self.config.now texts columns c.args.row c.loop-col.col (other_text c.loop-col.fitted.others texts) all c.loop-col.invariant.1

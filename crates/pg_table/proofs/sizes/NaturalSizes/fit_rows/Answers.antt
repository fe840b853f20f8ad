use Rattle.std.proofs.Common.{◌≡◌, ℕ, length, ap, subst, refl, arith}
use Rattle.pg_fit.specs.Overlaid.{other_text}
use Rattle.pg_table.specs.Inside.{AreFittedTo}
use Rattle.pg_table.proofs.SpannedWidths.{none-before}
use Rattle.pg_table.proofs.sizes.NaturalSizes.fit_rows.Goals as goal

pub loop-row-init : goal.loop-row-init
loop-row-init g c =
    let self = c.args.self.now in
    let texts = g.R.Records.texts self.records in
    (refl, none-before c.args.how c.args.widths.now.0.items self.config.now texts (g.R.Records.columns self.records) (other_text c.args.fitted.now.others texts) (λ p. ap (λ o. other_text o texts p) c.requires.own))

pub returns-clause-fits : goal.returns-clause-fits
returns-clause-fits g c =
    let self = c.args.self.now in
    let texts = g.R.Records.texts self.records in
    let all : c.loop-row.row ≡ length texts = omega (arith, c.loop-row-test.false, c.loop-row.auto.row-end, c.count-row-end.ensures) in
    subst (λ (n : ℕ). AreFittedTo c.args.how c.args.widths.now.0.items self.config.now texts (g.R.Records.columns self.records) n 0 (other_text c.loop-row.fitted.others texts)) all c.loop-row.invariant.1

use Rattle.std.proofs.Common.{◌≡◌, ℕ, true, length, slice_index, ap, arith}
use Rattle.std.proofs.lemmas.Bool.Decides.{nat_tests}
use Rattle.pg_fit.specs.Overlaid.{other_text}
use Rattle.pg_table.proofs.FittedColumns.{widths-natural}
use Rattle.pg_table.proofs.FittedPlaces.{all-wide}
use Rattle.pg_table.proofs.NaturalRoom.{plain-widths}
use Rattle.pg_table.proofs.sizes.NaturalSizes.fit_texts.Goals as goal

pub returns-else-not-are_within-clause-fits : goal.returns-else-not-are_within-clause-fits
returns-else-not-are_within-clause-fits g c =
    let self = c.args.self.now in
    let texts = g.R.Records.texts self.records in
    let columns : ℕ = g.R.Records.columns self.records in
    let plain = plain-widths self.config.now (length texts) columns c.requires.plain in
    let yes : c.in-Some.are_within ≡ true = grind (arith, nat_tests) in
    let narrow = rw yes at c.in-Some.ensures.within in
    let same = widths-natural c.args.within.now.how c.args.within.now.total c.args.within.now.limits.now self.config.now texts columns plain narrow.each narrow.together in
    all-wide c.args.within.now.how c.args.within.now.total c.args.within.now.limits.now self.config.now texts columns plain (other_text c.args.fitted.now.others texts) (λ p. ap (λ o. other_text o texts p) c.requires.own) (λ k h. omega (arith, ap (λ ws. slice_index ws k) same))

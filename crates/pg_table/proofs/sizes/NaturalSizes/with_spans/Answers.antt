use Rattle.std.proofs.Common.{None}
use Rattle.pg_table.proofs.NaturalRoom.{all_fits}
use Rattle.pg_table.proofs.sizes.NaturalSizes.with_spans.Goals as goal

pub needs-requires : goal.needs-requires
needs-requires g c =
    let self = c.args.self.now in
    all_fits self.config.now (g.R.Records.texts self.records) (g.R.Records.columns self.records) (λ p. None) c.requires.fit

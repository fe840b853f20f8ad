use Rattle.std.proofs.Common.{◌∙◌, ap, length}
use Rattle.pg_layout.specs.declared.alignment.Formatting.{Formatting}
use Rattle.pg_layout.specs.Records.{text_at}
use Rattle.pg_picture.specs.Inside.{facts_of}
use Rattle.pg_picture.specs.Pieces.{shown, widest}
use Rattle.pg_picture.specs.declared.facts.TextFacts.{TextFacts}
use Rattle.pg_table.proofs.sizes.NaturalSizes.measure.Goals as goal

pub with_text-wide-requires : goal.with_text-wide-requires
unfolding facts_of
with_text-wide-requires g c =
    ap (λ (facts : TextFacts). facts.widest) c.of_records-facts.ensures
    ∙ ap (λ (f : Formatting). widest f (text_at (g.R.Records.texts c.args.self.now.records) c.args.pos)) c.formatting.ensures

pub with_text-high-requires : goal.with_text-high-requires
unfolding facts_of
with_text-high-requires g c =
    ap (λ (facts : TextFacts). facts.shown) c.of_records-facts.ensures
    ∙ ap (λ (f : Formatting). length (shown f (text_at (g.R.Records.texts c.args.self.now.records) c.args.pos))) c.formatting.ensures

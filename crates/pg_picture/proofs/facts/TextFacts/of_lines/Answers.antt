use Rattle.std.proofs.Common.{ap, sym, ◌∙◌, fold, length, arith}
use Rattle.std.proofs.lemmas.List.Sums.{count_by-le-length}
use Rattle.pg_layout.proofs.TextLines.{is_feed, length-lines_of}
use Rattle.pg_picture.proofs.PlacesOfTexts.{ends_after, is_left_out, wider, facts_of-counted}
use Rattle.pg_picture.proofs.facts.TextFacts.of_lines.Goals as goal

pub with_line-ends-requires : goal.with_line-ends-requires
with_line-ends-requires c = omega (arith, ap length c.in-Some.ensures.steps, length-lines_of c.args.text.now, count_by-le-length is_feed c.args.text.now)

pub returns : goal.returns
returns c =
    facts_of-counted c.args.formatting c.args.text.now c.loop-line.ends c.loop-line.widest
    (sym c.loop-line.invariant.counted ∙ ap (ends_after (is_left_out c.args.formatting) c.loop-line.ends) c.in-None.ensures.steps.0)
    (sym c.loop-line.invariant.widened ∙ ap (fold (wider c.args.formatting.horizontal_trim) c.loop-line.widest) c.in-None.ensures.steps.0)

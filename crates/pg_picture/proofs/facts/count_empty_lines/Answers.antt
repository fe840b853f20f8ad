use Rattle.std.proofs.Common.{ap, sym, ◌∙◌, length, arith}
use Rattle.std.proofs.lemmas.List.Sums.{count_by-le-length}
use Rattle.pg_layout.specs.Text.{lines_of, is_blank}
use Rattle.pg_layout.proofs.TextLines.{is_feed, length-lines_of}
use Rattle.pg_picture.proofs.PlacesOfTexts.{ends_after, counted-empty_lines}
use Rattle.pg_picture.proofs.facts.count_empty_lines.Goals as goal

pub with_line-ends-requires : goal.with_line-ends-requires
with_line-ends-requires c = omega (arith, ap length c.in-Some.ensures.steps, length-lines_of c.args.text.now, count_by-le-length is_feed c.args.text.now)

pub returns : goal.returns
returns c = counted-empty_lines (lines_of c.args.text.now) c.loop-line.ends (sym c.loop-line.invariant.counted ∙ ap (ends_after is_blank c.loop-line.ends) c.in-None.ensures.steps.0)

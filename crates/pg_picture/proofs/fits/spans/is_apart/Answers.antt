use Rattle.std.proofs.Common.{◌∙◌, ◌+◌, ◌<◌, rules, arith, refl, sym}
use Rattle.pg_picture.proofs.OwnersOfPlaces.{before_first, column_more, column_apart, column_not}
use Rattle.pg_picture.proofs.fits.spans.is_apart.Goals as goal

pub loop-column-init : goal.loop-column-init
loop-column-init g c = record { end = search rules; right = omega arith; apart = before_first c.args.span c.args.spans.now }

pub returns-then-not-is_apart_at : goal.returns-then-not-is_apart_at
returns-then-not-is_apart_at g c =
    let next = c.in-Some.ensures in
    let left : c.args.span.0.col < c.in-Some.column = omega (arith, next.0) in
    sym (column_not c.args.span c.in-Some.column c.args.spans.now c.requires.end c.requires.ends left next.1 (sym c.is_apart_at.ensures ∙ c.if-not-is_apart_at.true))

pub loop-column-preserved : goal.loop-column-preserved
loop-column-preserved g c =
    let next = c.in-Some.ensures in
    record {
      end = search rules;
      right = omega (arith, next.0);
      apart = column_more c.args.span c.loop-column.from c.in-Some.column c.args.spans.now c.requires.ascending c.requires.columns next.2 (sym c.is_apart_at.ensures ∙ c.if-not-is_apart_at.false) c.loop-column.invariant.apart;
    }

pub returns : goal.returns
returns g c = sym (column_apart c.args.span c.loop-column.from (c.args.span.0.col + c.args.span.1.columns) c.args.spans.now refl c.in_default.ensures c.loop-column.invariant.apart)

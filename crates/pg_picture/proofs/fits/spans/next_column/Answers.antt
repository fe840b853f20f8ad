use Rattle.std.proofs.Common.{◌≡◌, ◌∙◌, Some, sym, arith}
use Rattle.pg_layout.specs.Position.{at}
use Rattle.pg_layout.specs.Keys.{by_columns, column_place}
use Rattle.pg_layout.specs.Places.{next_from}
use Rattle.pg_picture.proofs.OwnersOfPlaces.{skips_all, skips_none, skips_to, next_is_right}
use Rattle.pg_picture.proofs.fits.spans.next_column.Goals as goal

pub returns-then-end-from : goal.returns-then-end-from
returns-then-end-from g c = skips_all c.args.from c.args.end c.args.spans.now c.if-end-from.true

pub returns-in-Some : goal.returns-in-Some
returns-in-Some g c =
    let found : next_from by_columns (column_place (at 0 c.args.from)) c.args.spans.now ≡ Some c.in-Some.next = sym c.next_from.ensures ∙ c.in-Some.is in
    (next_is_right c.args.from c.in-Some.next c.args.spans.now found, c.if-next-end.true, skips_to c.args.from c.in-Some.next.0.col c.in-Some.next c.args.spans.now c.requires found (omega arith))

pub returns-in_default : goal.returns-in_default
returns-in_default g c = skips_to c.args.from c.args.end c.in-Some.next c.args.spans.now c.requires (sym c.next_from.ensures ∙ c.in-Some.is) c.if-next-end.false

pub returns-in_default-2 : goal.returns-in_default-2
returns-in_default-2 g c = skips_none c.args.from c.args.end c.args.spans.now (sym c.next_from.ensures ∙ c.in_default.is)

use Rattle.std.proofs.Common.{◌≡◌, ◌∙◌, Some, None, sym, arith}
use Rattle.std.proofs.lemmas.Bool.Decides.{nat_tests}
use Rattle.pg_picture.specs.Inside.{ends_above, apart_at}
use Rattle.pg_picture.proofs.OwnersOfPlaces.{told_by_search}
use Rattle.pg_picture.proofs.fits.spans.is_apart_at.Goals as goal

pub returns-in-None : goal.returns-in-None
returns-in-None g c =
    sym (told_by_search c.args.span c.args.column c.place_below.result c.args.spans.now None (sym c.last_before.ensures ∙ c.in-None.is) c.requires.ascending c.place_below.ensures.above c.place_below.ensures.column tt)

pub returns-then-last-column : goal.returns-then-last-column
returns-then-last-column g c =
    let told : apart_at c.args.spans.now c.args.span c.args.column ≡ ends_above c.args.span c.args.column (Some c.in-Some.last) = told_by_search c.args.span c.args.column c.place_below.result c.args.spans.now (Some c.in-Some.last) (sym c.last_before.ensures ∙ c.in-Some.is) c.requires.ascending c.place_below.ensures.above c.place_below.ensures.column (omega arith) in
    rw told (grind (arith, nat_tests, c.if-last-column.true))

pub returns-else-last-column : goal.returns-else-last-column
returns-else-last-column g c =
    let told : apart_at c.args.spans.now c.args.span c.args.column ≡ ends_above c.args.span c.args.column (Some c.in-Some.last) = told_by_search c.args.span c.args.column c.place_below.result c.args.spans.now (Some c.in-Some.last) (sym c.last_before.ensures ∙ c.in-Some.is) c.requires.ascending c.place_below.ensures.above c.place_below.ensures.column (omega arith) in
    rw told (grind (arith, nat_tests, c.if-last-column.false, c.ends_within.ensures))

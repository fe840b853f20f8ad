use Rattle.std.proofs.Common.{◌≡◌, ◌+◌, ◌-◌, ◌^◌, true, nat_lt, sum_by, count_by, refl, sym, ap, ◌∙◌, arith}
use Rattle.std.specs.List.{range_with_len}
use Rattle.std.proofs.lemmas.Bool.Decides.{nat_tests}
use Rattle.pg_config.specs.Config.{has_horizontal}
use Rattle.pg_config.specs.Spans.{rect_rows}
use Rattle.pg_picture.specs.Sizes.{if_fits}
use Rattle.pg_picture.specs.Sizes.{height_of_rect}
use Rattle.pg_picture.proofs.MarksOfRectangles.{height_of_rect-sum}
use Rattle.pg_picture.proofs.Ranges.{if_fits-below}
use Rattle.pg_picture.proofs.fits.rectangle.height_of_rows.Goals as goal

pub returns : goal.returns
returns g c =
    let count = c.requires.count in
    let fits : nat_lt (c.args.pos.row + rect_rows c.args.config.now.spans c.args.pos) (2 ^ 64) ≡ true = grind (arith, nat_tests, count, c.in_ok-end.ensures.0) in
    let e : sum_by (g.D.Dimension.height c.args.dimension.now) (range_with_len c.args.pos.row c.args.count) + c.count_horizontals.result
    ≡ sum_by (g.D.Dimension.height c.args.dimension.now) (range_with_len c.args.pos.row (rect_rows c.args.config.now.spans c.args.pos)) + count_by (λ r. has_horizontal c.args.config.now r (c.args.pos.row + rect_rows c.args.config.now.spans c.args.pos)) (range_with_len (c.args.pos.row + 1) (rect_rows c.args.config.now.spans c.args.pos - 1))
    = rw (c.count_horizontals.ensures, c.in_ok-end.ensures.1, c.requires.count) refl in
    let whole = sym (height_of_rect-sum c.args.config.now (g.D.Dimension.height c.args.dimension.now) c.args.pos c.requires.some) in
    rw fits (c.plus.ensures _ c.sum_heights.ensures ∙ ap (λ n. if_fits n) (e ∙ whole))

pub returns-then-count-eq1 : goal.returns-then-count-eq1
returns-then-count-eq1 g c =
    let count = c.requires.count in
    let one : rect_rows c.args.config.now.spans c.args.pos ≡ 1 = sym count ∙ c.if-count-eq1.true in
    let fits : nat_lt (c.args.pos.row + rect_rows c.args.config.now.spans c.args.pos) (2 ^ 64) ≡ true = grind (arith, nat_tests, count, c.in_ok-end.ensures.0) in
    let whole = height_of_rect-sum c.args.config.now (g.D.Dimension.height c.args.dimension.now) c.args.pos c.requires.some in
    let height : c.get_height.result ≡ height_of_rect c.args.config.now (g.D.Dimension.height c.args.dimension.now) c.args.pos = sym (whole ∙ rw one (omega (arith, c.get_height.ensures))) in
    rw fits (sym (if_fits-below c.get_height.result (omega (arith, c.get_height.type_inv))) ∙ ap (λ n. if_fits n) height)

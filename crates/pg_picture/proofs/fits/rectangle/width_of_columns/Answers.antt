use Rattle.std.proofs.Common.{◌≡◌, ◌+◌, ◌^◌, ◌<◌, sum_by, refl, sym, ap, ◌∙◌, arith}
use Rattle.std.specs.List.{range_with_len}
use Rattle.pg_picture.specs.Table.{rect_width}
use Rattle.pg_config.specs.Spans.{rect_columns}
use Rattle.pg_picture.specs.Sizes.{if_fits, sized}
use Rattle.pg_picture.proofs.Ranges.{if_fits-below}
use Rattle.pg_picture.proofs.fits.rectangle.width_of_columns.Goals as goal

pub returns : goal.returns
unfolding rect_width
returns g c rows =
    let e : sum_by (g.D.Dimension.width c.args.dimension.now) (range_with_len c.args.pos.col c.args.count) + c.count_verticals.result ≡ rect_width (sized c.args.config.now (g.D.Dimension.width c.args.dimension.now) (g.D.Dimension.height c.args.dimension.now) rows c.args.columns) c.args.pos = rw (c.count_verticals.ensures, c.requires.count) refl in
    c.plus.ensures _ c.sum_widths.ensures ∙ ap (λ n. if_fits n) e

pub returns-then-count-eq1 : goal.returns-then-count-eq1
unfolding rect_width
returns-then-count-eq1 g c rows =
    let one : rect_columns c.args.config.now.spans c.args.pos ≡ 1 = sym c.requires.count ∙ c.if-count-eq1.true in
    let width : c.get_width.result ≡ rect_width (sized c.args.config.now (g.D.Dimension.width c.args.dimension.now) (g.D.Dimension.height c.args.dimension.now) rows c.args.columns) c.args.pos = rw one (omega (arith, c.get_width.ensures)) in
    let fits : c.get_width.result < 2 ^ 64 = omega (arith, c.get_width.type_inv) in
    sym (if_fits-below c.get_width.result fits) ∙ ap (λ n. if_fits n) width

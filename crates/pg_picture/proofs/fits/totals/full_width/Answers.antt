use Rattle.std.proofs.Common.{◌≡◌, ap, ◌∙◌, arith}
use Rattle.pg_layout.specs.declared.sides.Indent.{Indent}
use Rattle.pg_layout.specs.declared.sides.Sides.{Sides}
use Rattle.pg_picture.specs.Table.{full_width, total_width}
use Rattle.pg_picture.specs.Sizes.{if_fits}
use Rattle.pg_picture.proofs.fits.totals.full_width.Goals as goal

pub returns : goal.returns
unfolding full_width total_width
returns g c =
    let margin : c.get_margin-margin.result ≡ c.args.config.now.margin = c.get_margin-margin.ensures in
    let left = ap (λ (s : Sides Indent). s.left.size) margin in
    let right = ap (λ (s : Sides Indent). s.right.size) margin in
    c.plus-2.ensures _ (c.plus.ensures _ (c.plus-columns.ensures _ c.sum_widths.ensures)) ∙ ap (λ n. if_fits n) (omega (arith, c.count_vertical.ensures, left, right))

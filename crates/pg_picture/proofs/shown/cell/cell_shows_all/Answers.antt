use Rattle.std.proofs.Common.{◌≡◌, ◌-◌, length, ap, ◌∙◌, arith}
use Rattle.pg_layout.specs.declared.alignment.Formatting.{Formatting}
use Rattle.pg_layout.specs.declared.sides.Indent.{Indent}
use Rattle.pg_layout.specs.declared.sides.Sides.{Sides}
use Rattle.pg_picture.specs.Pieces.{style_at, shown}
use Rattle.pg_picture.proofs.FittingTables.{cell_shows_all-by_count}
use Rattle.pg_picture.proofs.shown.cell.cell_shows_all.Goals as goal

pub returns : goal.returns
unfolding style_at
returns g c =
    let style = style_at c.args.config.now c.args.pos in
    let count : c.count_shown_lines-lines.result ≡ length (shown style.formatting c.args.text.now) =
    c.count_shown_lines-lines.ensures ∙ ap (λ (f : Formatting). length (shown f c.args.text.now)) c.get_formatting.ensures in
    let room : c.saturating_sub.result ≡ c.args.height - style.padding.top.size =
    omega (arith, c.saturating_sub.ensures, ap (λ (p : Sides Indent). p.top.size) c.get_padding-padding.ensures) in
    rw (count, room) (cell_shows_all-by_count style c.args.text.now c.args.height)

use Rattle.std.proofs.Common.{◌≡◌, ◌∙◌, ap, option_map, unwrap_or, ◌<◌, arith}
use Rattle.pg_layout.specs.Colors.{str_color}
use Rattle.pg_picture.specs.Inside.{part_after}
use Rattle.pg_picture.proofs.Appending.{Appends-text, Gained-none, Gained-all}
use Rattle.pg_picture.proofs.Separators.{IfOk-same}
use Rattle.pg_picture.proofs.PiecesOfLines.{no_parts-text, no_parts-color, one_part-text, one_part-color, main_part-none, main_part-some}
use Rattle.pg_picture.proofs.compact_run.CompactRun.main.Goals as goal

pub returns-then-width-eq0-clause-appends : goal.returns-then-width-eq0-clause-appends
returns-then-width-eq0-clause-appends g c = Appends-text (no_parts-text c.args.self (main_part-none c.args.glyph _ c.args.width c.if-width-eq0.true)) (Gained-all (Gained-none c.args.buf.now))

pub returns-then-width-eq0-clause-color : goal.returns-then-width-eq0-clause-color
returns-then-width-eq0-clause-color g c = no_parts-color c.args.self (main_part-none c.args.glyph _ c.args.width c.if-width-eq0.true)

pub returns-clause-appends : goal.returns-clause-appends
returns-clause-appends g c =
    let color = option_map str_color c.args.color in
    let some : 0 < c.args.width = omega (arith, c.if-width-eq0.false) in
    let glyph : c.unwrap_or.result ≡ unwrap_or c.args.glyph 32 = c.unwrap_or.ensures in
    Appends-text (ap (λ x. part_after c.args.self (x, c.args.width, color)) glyph ∙ one_part-text c.args.self (unwrap_or c.args.glyph 32, c.args.width, color) (main_part-some c.args.glyph color c.args.width some)) c.part.ensures.appends

pub returns-clause-color : goal.returns-clause-color
returns-clause-color g c =
    let color = option_map str_color c.args.color in
    let some : 0 < c.args.width = omega (arith, c.if-width-eq0.false) in
    IfOk-same (one_part-color c.args.self (unwrap_or c.args.glyph 32, c.args.width, color) (main_part-some c.args.glyph color c.args.width some)) c.part.result c.part.ensures.color

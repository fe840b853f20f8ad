use Rattle.std.proofs.Common.{◌≡◌, ◌∙◌, sym, ap}
use Rattle.pg_config.specs.Config.{get_alignment_horizontal}
use Rattle.pg_config.specs.Cells.{Style, style_of}
use Rattle.pg_config.proofs.EqualLines.{one_style_but_across}
use Rattle.pg_config.proofs.spanned.cells.CellStyle.of_all_but_across.Goals as goal

pub returns-clause-of : goal.returns-clause-of
returns-clause-of g c = λ style is p.
    let same : c.of.result ≡ style = cc in
    let config = c.args.config.now in
    ap (λ (s : Style). record s { across = get_alignment_horizontal config p }) (sym (ap style_of same) ∙ c.of.ensures)
    ∙ one_style_but_across config (sym c.has_one_style_but_across.ensures ∙ c.if-not-has_one_style_but_across.false) c.new.result p

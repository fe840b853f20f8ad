use Rattle.std.proofs.Common.{◌≡◌, ◌∙◌, sym, ap}
use Rattle.pg_config.specs.Cells.{style_of}
use Rattle.pg_config.proofs.OneStyle.{one_style}
use Rattle.pg_config.proofs.spanned.cells.CellStyle.of_all.Goals as goal

pub returns-clause-of : goal.returns-clause-of
returns-clause-of g c = λ style is p.
    let same : c.of.result ≡ style = cc in
    sym (ap style_of same) ∙ c.of.ensures ∙ one_style c.args.config.now (sym c.has_one_style.ensures ∙ c.if-not-has_one_style.false) c.new.result p

use Rattle.std.proofs.Common.{◌≡◌, Bool, ◌&&◌, not, true, false, [], ◌==◌, ap, sym, ◌∙◌, arith}
use Rattle.std.proofs.lemmas.Bool.Decides.{nat_tests}
use Rattle.pg_layout.specs.Borders.{has_top}
use Rattle.pg_compact.proofs.CompactRows.{no_head}
use Rattle.pg_compact.proofs.printer.CompactPrinter.has_no_head.Goals as goal

pub returns-then-get_margin-eq0 : goal.returns-then-get_margin-eq0
returns-then-get_margin-eq0 g c =
    let none : (c.get_margin.result.top.size == 0) ≡ true = grind (arith, nat_tests, c.if-get_margin-eq0.true) in
    let top = c.has_top.ensures ∙ ap (λ b. has_top b) c.get_borders.ensures in
    ap not top ∙ sym (ap (λ (b : Bool). b && not (has_top c.args.self.now.config.now.borders)) none)
    ∙ no_head g.D.Dimension.width g.C.Colors.color c.args.self.now [] c.get_margin.result c.get_margin.ensures

pub returns-else-get_margin-eq0 : goal.returns-else-get_margin-eq0
returns-else-get_margin-eq0 g c =
    let some : (c.get_margin.result.top.size == 0) ≡ false = grind (arith, nat_tests, c.if-get_margin-eq0.false) in
    some ∙ sym (ap (λ (b : Bool). b && not (has_top c.args.self.now.config.now.borders)) some)
    ∙ no_head g.D.Dimension.width g.C.Colors.color c.args.self.now [] c.get_margin.result c.get_margin.ensures

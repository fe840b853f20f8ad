use Rattle.std.proofs.Common.{◌≡◌, Option, IfOk, sym, ap, subst, ◌∙◌}
use Rattle.pg_layout.specs.Colors.{Color}
use Rattle.pg_picture.specs.Inside.{items_after, last_color}
use Rattle.pg_picture.proofs.Appending.{Appends-text}
use Rattle.pg_picture.proofs.Separators.{border_glyphs-plain}
use Rattle.pg_picture.proofs.border.push_glyphs.Goals as goal

pub returns-clause-appends : goal.returns-clause-appends
returns-clause-appends g c =
    Appends-text (ap (λ l. items_after c.args.run l) (border_glyphs-plain c.args.config.now c.args.pos c.args.width c.args.glyph _ (sym c.is_overridden_horizontal.ensures ∙ c.if-is_overridden_horizontal.false))) c.repeated_glyph.ensures.appends

pub returns-clause-color : goal.returns-clause-color
returns-clause-color g c =
    let P : Option Color → Type 0 = λ d. IfOk c.repeated_glyph.result (λ after. after ≡ d) in
    subst P (ap (λ l. last_color c.args.run l) (border_glyphs-plain c.args.config.now c.args.pos c.args.width c.args.glyph _ (sym c.is_overridden_horizontal.ensures ∙ c.if-is_overridden_horizontal.false))) c.repeated_glyph.ensures.color

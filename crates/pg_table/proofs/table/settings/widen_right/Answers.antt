use Rattle.std.proofs.Common.{◌≡◌, ◌∙◌, ◌+◌, ◌-◌, ◌^◌, ℕ, ap, min, subst, sym}
use Rattle.pg_layout.specs.declared.position.Entity.TheVariants.{Cell}
use Rattle.pg_layout.specs.declared.sides.Indent.{Indent}
use Rattle.pg_layout.specs.declared.sides.Sides.{Sides}
use Rattle.pg_config.specs.Config.{Config, get_padding}
use Rattle.pg_config.specs.Settings.{with_setting}
use Rattle.pg_table.specs.OwnRows.{widened_right}
use Rattle.pg_table.proofs.Setters.{weaker, widened-none, widened-set}
use Rattle.pg_table.proofs.table.settings.widen_right.Goals as goal

pub returns-then-size-before-clause-padding : goal.returns-then-size-before-clause-padding
returns-then-size-before-clause-padding g c =
    widened-none c.args.config.now c.args.pos c.args.columns
    (subst (λ (s : Sides Indent). min (s.right.size + c.args.columns) (2 ^ 64 - 1) ≡ s.right.size) c.get_padding-padding.ensures (sym c.saturating_add-size.ensures ∙ c.if-size-before.true))

pub returns-clause-padding : goal.returns-clause-padding
returns-clause-padding g c =
    let old : Config = c.args.config.now in
    let s : Sides Indent = c.get_padding-padding.result in
    let sized : ℕ → Sides Indent = λ k. record s { right = record s.right { size = k } } in
    let grown = ap sized c.saturating_add-size.ensures ∙ ap (λ (s : Sides Indent). widened_right c.args.columns s) c.get_padding-padding.ensures in
    weaker c.set_padding.result (λ is. widened-set old c.args.pos c.args.columns c.set_padding.new.self
    (is ∙ ap (λ (s : Sides Indent). let told : Config = record old { padding = with_setting (Cell c.args.pos.row c.args.pos.col) s old.padding } in told) grown)) c.set_padding.ensures.ok

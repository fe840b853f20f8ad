use Rattle.std.proofs.Common.{sym, subst, ◌∙◌}
use Rattle.pg_layout.specs.Places.{Each}
use Rattle.pg_config.specs.Inside.{HasCell}
use Rattle.pg_config.specs.Settings.{Settings}
use Rattle.pg_config.proofs.CoveredPlaces.{no-cell-outside}
use Rattle.pg_config.proofs.settings.NamedSettings.of_cell.Goals as goal

pub returns : goal.returns
returns g c =
    sym (no-cell-outside c.self.inside.extent c.args.pos c.args.self.now.cells (subst (λ (s : Settings _). Each (HasCell c.self.inside.extent) s.cells) c.self.view_is c.self.invariant.1) (sym c.holds.ensures ∙ c.if-holds.false))

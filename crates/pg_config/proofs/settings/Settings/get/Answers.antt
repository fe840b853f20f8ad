use Rattle.std.proofs.Common.{◌<◌, ap, subst, ◌∙◌}
use Rattle.std.specs.Prelude.{List, length}
use Rattle.pg_config.specs.Settings.{Settings, setting_of}
use Rattle.pg_config.proofs.SettingsLaw.{none-first}
use Rattle.pg_config.proofs.settings.Settings.get.Goals as goal

pub returns-in-empty : goal.returns-in-empty
returns-in-empty g c =
    let none = subst (λ (items : List (Settings _)). length items < 1) c.as_slice.ensures.value c.in-empty.len_below in
    c.as_ref.ensures.value ∙ (none-first c.self.inside.base c.self.inside.named.items c.args.pos none ∙ ap (λ (s : Settings _). setting_of s c.args.pos) c.self.view_is)

use Rattle.std.proofs.Common.{sym, ap, ◌∙◌}
use Rattle.pg_layout.specs.Keys.{by_place}
use Rattle.pg_layout.specs.Places.{value_at}
use Rattle.pg_config.specs.Inside.{with_base}
use Rattle.pg_config.specs.Settings.{Settings, setting_of}
use Rattle.pg_config.proofs.settings.NamedSettings.find.Goals as goal

pub returns : goal.returns
unfolding setting_of
returns g c =
    let cell = c.of_cell.ensures ∙ ap (λ (s : Settings _). value_at by_place c.args.pos s.cells) (sym c.self.view_is) in
    rw (c.value_or.ensures, c.latest.ensures, c.latest-line.ensures, c.get.ensures, c.get-2.ensures, cell) (ap (λ (s : Settings _). setting_of (with_base c.args.base.now s) c.args.pos) c.self.view_is)

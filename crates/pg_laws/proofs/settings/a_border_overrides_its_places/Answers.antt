use Rattle.pg_laws.proofs.SettingLaws.{border_overrides, border_parts}
use Rattle.pg_laws.proofs.settings.a_border_overrides_its_places.Goals as goal

pub returns : goal.returns
returns g c = record { places = border_overrides; parts = border_parts }

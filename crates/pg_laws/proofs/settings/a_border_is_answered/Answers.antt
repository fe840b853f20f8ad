use Rattle.pg_laws.proofs.SettingLaws.{border_glyphs, border_colors}
use Rattle.pg_laws.proofs.settings.a_border_is_answered.Goals as goal

pub returns : goal.returns
returns c = record { glyphs = border_glyphs; colors = border_colors }

use Rattle.pg_laws.proofs.SettingLaws.{ever_set, nothing_at_first}
use Rattle.pg_laws.proofs.settings.what_was_set_is_told.Goals as goal

pub returns : goal.returns
returns c = record { told = ever_set; first = nothing_at_first }

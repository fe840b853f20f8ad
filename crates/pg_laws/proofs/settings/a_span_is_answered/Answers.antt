use Rattle.pg_laws.proofs.SettingLaws.{column_span, row_span}
use Rattle.pg_laws.proofs.settings.a_span_is_answered.Goals as goal

pub returns : goal.returns
returns c = record { column = column_span; row = row_span }

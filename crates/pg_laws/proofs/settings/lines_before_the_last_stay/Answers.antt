use Rattle.pg_config.proofs.EqualLines.{rows_stay, columns_stay}
use Rattle.pg_laws.proofs.settings.lines_before_the_last_stay.Goals as goal

pub returns : goal.returns
returns c = record { rows = rows_stay; columns = columns_stay }

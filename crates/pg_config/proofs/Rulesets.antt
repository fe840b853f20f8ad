-- Sets of lemmas that attributes of functions hand to the prover.
use Rattle.pg_config.proofs.SettingsLaw.{unset-none}
use Rattle.pg_config.proofs.Lookups.{first-of_row, first-of_column, first-of_place}
use Rattle.pg_config.proofs.CoveredPlaces.{covered-between, covered-by_row, covered-by_column, covered-by_both, none-above_by_row, none-above_by_both}
use Rattle.pg_config.proofs.EqualLines.{sided-by_column}

-- where nothing was set
pub ruleset unset = (unset-none)

-- what is first in a row, a column and a place
pub ruleset first_keys = (first-of_row, first-of_column, first-of_place)

-- which rectangles cover a place
pub ruleset covered = (covered-between, covered-by_row, covered-by_column, covered-by_both, none-above_by_row, none-above_by_both)

-- columns with one alignment
pub ruleset sided = (sided-by_column)

-- Tables for worked examples.
use Rattle.std.specs.Prelude.{ℕ}
use Rattle.pg_layout.specs.declared.sides.Indent.{Indent}
use Rattle.pg_config.specs.Config.{Config}
use Rattle.pg_script.specs.Told.{Told, told_nothing}

-- two rows and three columns, of which nothing else is told
abbrev pub two_by_three : Told
two_by_three = told_nothing (record { rows = 2; columns = 3 })

-- the same with settings
abbrev pub with_settings : Config → Told
with_settings config = record two_by_three { config = config }

-- so many of this character
abbrev pub indent : ℕ → ℕ → Indent
indent size fill = record { size = size; fill = fill }

-- `unfolding script_words` lets `refl` compute what a script tells of a table.
use Rattle.std.specs.Fmt.{digits}
use Rattle.std.specs.Str.{is_utf8}
use Rattle.pg_config.proofs.Computing.{config_words}

unfoldable pub script_words : Unit {0}
unfolding config_words digits is_utf8
script_words = tt

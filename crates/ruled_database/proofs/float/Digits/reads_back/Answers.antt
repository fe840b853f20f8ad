use Rattle.std.proofs.lemmas.Grind.{common_steps}
use Rattle.std.proofs.Common.{rules, arith}
use Rattle.sqlite_sql.specs.Spelling.{reads_back}
use Rattle.ruled_database.proofs.float.Digits.reads_back.Goals as goal

pub float_from_bits-result : goal.float_from_bits-result
unfolding lib.Ieee.nan_bits
float_from_bits-result c = first_of (search rules, grind (arith, common_steps))

pub returns : goal.returns
unfolding reads_back
returns c = first_of (search rules, grind (arith, common_steps))

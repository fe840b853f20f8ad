use Rattle.std.proofs.Common.{refl, rules}
use Rattle.ruled_table.proofs.blocks.Blocks.new.Goals as goal

pub returns-clause-names : goal.returns-clause-names
returns-clause-names c = record {
  asked = refl;
  looks = c.in_ok-config.ensures;
  named = c.in_ok-names.ensures;
  at = search rules;
}

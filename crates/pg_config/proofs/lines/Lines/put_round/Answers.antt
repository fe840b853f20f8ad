use Rattle.std.proofs.Common.{sym, subst}
use Rattle.pg_config.specs.Overrides.{HasColumns}
use Rattle.pg_config.proofs.lines.Lines.put_round.Goals as goal

pub put_two_crossings-requires : goal.put_two_crossings-requires
put_two_crossings-requires g c = record { has_columns = subst (λ l. HasColumns l.now.columns l.now.overrides.crossings) (sym c.self.view_is) c.requires.has_columns }

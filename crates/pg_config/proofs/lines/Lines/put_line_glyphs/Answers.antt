use Rattle.std.proofs.Common.{sym, subst}
use Rattle.pg_config.specs.Overrides.{HasColumns}
use Rattle.pg_config.proofs.lines.Lines.put_line_glyphs.Goals as goal

pub put_over-requires : goal.put_over-requires
put_over-requires g c = record { has_columns = subst (λ l. HasColumns l.now.columns l.now.overrides.crossings) (sym c.self.view_is) c.requires.has_columns }

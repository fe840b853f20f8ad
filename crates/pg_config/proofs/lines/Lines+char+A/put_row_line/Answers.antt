use Rattle.std.proofs.Common.{sym, ap, subst, ◌∙◌}
use Rattle.pg_config.specs.Overrides.{HasColumns, has_crossing}
use Rattle.pg_config.proofs.lines.Lines+char+A.put_row_line.Goals as goal

pub put_crossings-requires : goal.put_crossings-requires
put_crossings-requires g c = record {
  has_columns = λ q.
      subst (λ l. HasColumns l.now.columns l.now.overrides.crossings) (sym c.self.view_is) c.requires.has_columns q
      ∙ ap (λ p. has_crossing q p.now) (sym c.reserve-2.ensures);
}

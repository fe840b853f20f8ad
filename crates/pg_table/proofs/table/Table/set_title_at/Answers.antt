use Rattle.std.proofs.Common.{sym}
use Rattle.pg_table.specs.Panels.{with_title_at}
use Rattle.pg_table.proofs.table.Table.set_title_at.Goals as goal

pub returns-then-shows_title-clause-ok : goal.returns-then-shows_title-clause-ok
unfolding with_title_at
returns-then-shows_title-clause-ok g c = rw (c.deref.ensures.value, c.in_ok-glyphs.ensures) at c.set_title_glyphs.ensures.ok

pub returns-clause-ok : goal.returns-clause-ok
returns-clause-ok g c = sym (c.shows_title.ensures.same c.if-shows_title.false c.args.side c.args.dimension.now.0.items)

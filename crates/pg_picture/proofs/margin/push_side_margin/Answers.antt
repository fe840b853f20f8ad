use Rattle.pg_picture.proofs.Appending.{Appends-text, Gained-none, Gained-all}
use Rattle.pg_picture.proofs.PiecesOfLines.{written-side_none}
use Rattle.pg_picture.proofs.margin.push_side_margin.Goals as goal

pub returns-then-indent-eq0 : goal.returns-then-indent-eq0
returns-then-indent-eq0 g c = Appends-text (written-side_none c.args.height c.args.indent c.args.offset _ c.args.line c.if-indent-eq0.true) (Gained-all (Gained-none c.args.buf.now))

use Rattle.std.proofs.Common.{sym}
use Rattle.pg_picture.proofs.Appending.{Gained-none, Gained-all, Appends-text}
use Rattle.pg_picture.proofs.PiecesOfLines.{written-fill_none}
use Rattle.pg_picture.proofs.piece.push_fill.Goals as goal

pub returns-then-size-eq0 : goal.returns-then-size-eq0
returns-then-size-eq0 g c = Appends-text (sym (written-fill_none c.args.c c.args.size _ c.if-size-eq0.true)) (Gained-all (Gained-none c.args.buf.now))

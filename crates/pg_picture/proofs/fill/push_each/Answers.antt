use Rattle.std.proofs.Common.{arith, sym}
use Rattle.pg_picture.proofs.Appending.{refused, Gained-none, Gained-more, Gained-text}
use Rattle.pg_picture.proofs.PiecesOfLines.{repeated-cut, repeated-more, repeated-zero}
use Rattle.pg_picture.proofs.fill.push_each.Goals as goal

pub loop-init : goal.loop-init
loop-init g c = Gained-text (sym (repeated-zero c.args.c)) (Gained-none c.args.buf.now)

pub returns-in_err-push_char : goal.returns-in_err-push_char
returns-in_err-push_char g c = refused _ (repeated-cut c.args.c c.loop.counter c.args.count (omega arith)) c.from_residual.ensures.0 c.loop.invariant c.in_err-push_char.ensures

pub loop-preserved : goal.loop-preserved
loop-preserved g c = Gained-text (sym (repeated-more c.args.c c.loop.counter)) (Gained-more c.loop.invariant c.in_ok-push_char.ensures)

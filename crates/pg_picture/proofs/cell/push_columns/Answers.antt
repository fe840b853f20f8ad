use Rattle.std.proofs.Common.{sym, ap, ◌∙◌}
use Rattle.pg_picture.specs.Pieces.{repeated}
use Rattle.pg_picture.proofs.Appending.{Appends-text, Gained-none, Gained-all}
use Rattle.pg_picture.proofs.PiecesOfLines.{repeated-zero}
use Rattle.pg_picture.proofs.cell.push_columns.Goals as goal

pub returns-then-size-eq0 : goal.returns-then-size-eq0
returns-then-size-eq0 g c = Appends-text (sym (ap (λ k. repeated c.args.c k) c.if-size-eq0.true ∙ repeated-zero c.args.c)) (Gained-all (Gained-none c.args.buf.now))

use Rattle.std.proofs.Common.{arith}
use Rattle.pg_picture.proofs.Appending.{Gained-none, Gained-all, Appends-text}
use Rattle.pg_stream.proofs.draw.PartsOfLines.{top-none, top-some}
use Rattle.pg_stream.proofs.draw.streamed_table.StreamedTable.push_top.Goals as goal

pub returns-then-rows-gt0 : goal.returns-then-rows-gt0
returns-then-rows-gt0 g c = Appends-text (top-none g.T.TableMarker.table.config c.args.self.pen.sheet.now.width c.args.rows (omega arith)) (Gained-all (Gained-none c.args.buf.now))

pub returns : goal.returns
returns g c = Appends-text (top-some g.T.TableMarker.table.config c.args.self.pen.sheet.now.width c.args.rows (omega arith)) c.push_top.ensures

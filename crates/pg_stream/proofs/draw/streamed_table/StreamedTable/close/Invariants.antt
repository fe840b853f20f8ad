use Rattle.std.proofs.Common.{◌≡◌}
use Rattle.pg_stream.specs.Inside.{close_cell}
use Rattle.pg_stream.proofs.draw.OpenLists.{partly}
use Rattle.pg_stream.proofs.draw.streamed_table.StreamedTable.close.Given as goal

abbrev pub invariant-loop-column : goal.invariant-loop-column
invariant-loop-column g l = l.opened ≡ partly (close_cell g.T.TableMarker.table.config.spans l.row) 0 l.column l.fn.opened

use Rattle.std.proofs.Common.{arith, rules}
use Rattle.ruled_table.proofs.WordsOfColumns.{one_more_left_out}
use Rattle.ruled_table.proofs.columns.leave_out.Goals as goal

pub loop-column-preserved : goal.loop-column-preserved
loop-column-preserved c = λ column.
    one_more_left_out c.args.columns.now c.loop-column.column-index _ 0 column _ _ _ (omega arith) (search rules) (c.loop-column.invariant column) (c.in_ok-insert.ensures.updates.0 column)

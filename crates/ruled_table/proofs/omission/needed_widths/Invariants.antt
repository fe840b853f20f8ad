use Rattle.std.proofs.Common.{◌≡◌}
use Rattle.ruled_table.specs.Columns.{texts_of}
use Rattle.ruled_table.specs.Layouts.{needed_widths}
use Rattle.ruled_table.proofs.omission.needed_widths.Given as goal

abbrev pub invariant-loop-column : goal.invariant-loop-column
invariant-loop-column l = l.widths.items ≡ needed_widths l.most (texts_of l.rows) l.column

use Rattle.std.proofs.Common.{◌≡◌}
use Rattle.ruled_table.specs.Columns.{texts_of}
use Rattle.ruled_table.specs.Sides.{side_of, with_sides}
use Rattle.ruled_table.proofs.sides.set_sides.Given as goal

abbrev pub invariant-loop-column : goal.invariant-loop-column
invariant-loop-column l =
    l.config ≡ record l.fn.config { alignment_horizontal = with_sides (side_of l.fn.options (texts_of l.fn.rows)) l.column l.fn.config.alignment_horizontal }

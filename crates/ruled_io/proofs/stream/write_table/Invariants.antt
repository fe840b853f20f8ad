use Rattle.std.proofs.Common.{◌≡◌, List, None, ◌++◌, map}
use Rattle.csv.specs.Records.{fields_of}
use Rattle.pg_layout.specs.Text.{Text}
use Rattle.ruled_table.specs.RowLines.{HasAppended}
use Rattle.ruled_table.specs.Layouts.{Plan}
use Rattle.ruled_io.specs.Faults.{failure_of}
use Rattle.ruled_io.specs.Reading.{Origin, StandsIn}
use Rattle.ruled_table.specs.declared.options.Options.{Options}
use Rattle.ruled_io.proofs.Tables.{Runs}
use Rattle.ruled_io.proofs.stream.write_table.Given as goal

abbrev pub invariant-loop : goal.invariant-loop
invariant-loop g l =
    ((options : Options) (plan : Plan) (origin : Origin) (above : List (List Text))
    → StandsIn origin (g.R.Read.remaining l.fn.pieces.input) (above ++ map fields_of l.fn.rows.items) l.fn.reading → HasAppended options plan above l.fn.table
    → Runs options plan origin (above ++ map fields_of l.fn.rows.items) l.fn.reading above (g.R.Read.remaining l.pieces.input) l.reading (map fields_of l.rows.items) l.table (g.W.Write.contents l.fn.out.writer) (g.W.Write.contents l.out.writer))
    × (failure_of l.fn.out ≡ None → failure_of l.out ≡ None)

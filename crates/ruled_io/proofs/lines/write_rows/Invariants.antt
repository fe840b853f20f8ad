use Rattle.std.proofs.Common.{◌≡◌, List, None, drop, map, string_bytes}
use Rattle.csv.specs.Records.{fields_of}
use Rattle.pg_layout.specs.Text.{Text}
use Rattle.ruled_table.specs.RowLines.{HasAppended}
use Rattle.ruled_table.specs.Layouts.{Plan}
use Rattle.ruled_table.specs.declared.options.Options.{Options}
use Rattle.ruled_io.specs.Faults.{failure_of}
use Rattle.ruled_io.proofs.Tables.{Goes}
use Rattle.ruled_io.proofs.lines.write_rows.Given as goal

abbrev pub invariant-loop-fields : goal.invariant-loop-fields
invariant-loop-fields g l =
    ((options : Options) (plan : Plan) (above : List (List Text)) → HasAppended options plan above l.fn.table
    → Goes options plan above (map fields_of l.fn.rows) (map fields_of (drop l.fields-index l.fn.rows)) l.table (g.W.Write.contents l.fn.out.writer) (g.W.Write.contents l.out.writer) (string_bytes l.buf))
    × (failure_of l.fn.out ≡ None → failure_of l.out ≡ None)

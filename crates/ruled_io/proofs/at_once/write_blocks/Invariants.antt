use Rattle.std.proofs.Common.{◌≡◌, List, None, drop, map}
use Rattle.csv.specs.Records.{fields_of}
use Rattle.pg_layout.specs.Text.{Text}
use Rattle.ruled_table.specs.View.{HasNames}
use Rattle.ruled_table.specs.declared.options.Options.{Options}
use Rattle.ruled_io.specs.Faults.{failure_of}
use Rattle.ruled_io.proofs.Shows.{Blocked}
use Rattle.ruled_io.proofs.at_once.write_blocks.Given as goal

abbrev pub invariant-loop-fields : goal.invariant-loop-fields
invariant-loop-fields g l =
    ((options : Options) (names : List (List Text)) → HasNames options names l.blocks
    → Blocked options names (map fields_of l.fn.records) (map fields_of (drop l.fields-index l.fn.records)) (g.W.Write.contents l.fn.out.writer) (g.W.Write.contents l.out.writer))
    × (failure_of l.fn.out ≡ None → failure_of l.out ≡ None)

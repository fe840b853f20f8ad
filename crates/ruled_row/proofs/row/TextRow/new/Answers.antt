use Rattle.std.specs.Prelude.{string_bytes}
use Rattle.ruled_row.specs.Ends.{places_of}
use Rattle.ruled_row.proofs.RowFacts.{text_none, whole_none}
use Rattle.ruled_row.proofs.row.TextRow.new.Goals as goal

pub invariant_of-result : goal.invariant_of-result
invariant_of-result c =
    let text = string_bytes c.new.result in
    let ends = places_of c.new-2.result in
    (whole_none text ends c.new.ensures.bytes c.new-2.ensures, text_none text ends c.new-2.ensures)

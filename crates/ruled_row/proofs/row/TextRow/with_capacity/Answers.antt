use Rattle.std.specs.Prelude.{string_bytes}
use Rattle.ruled_row.specs.Ends.{places_of}
use Rattle.ruled_row.proofs.RowFacts.{text_none, whole_none}
use Rattle.ruled_row.proofs.row.TextRow.with_capacity.Goals as goal

pub invariant_of-result : goal.invariant_of-result
invariant_of-result c =
    let text = string_bytes c.in_ok-text.text in
    let ends = places_of c.new-ends.result in
    (whole_none text ends c.in_ok-text.ensures.bytes c.new-ends.ensures, text_none text ends c.new-ends.ensures)

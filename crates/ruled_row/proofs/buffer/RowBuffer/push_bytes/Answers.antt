use Rattle.std.proofs.Common.{inl, inr}
use Rattle.std.proofs.lemmas.Bool.{cases_Bool}
use Rattle.std.specs.Result.{is_ok}
use Rattle.ruled_row.specs.Rows.{buffer_of}
use Rattle.ruled_row.proofs.RowFacts.{record_more}
use Rattle.ruled_row.proofs.buffer.RowBuffer.push_bytes.Goals as goal

pub invariant_of-self : goal.invariant_of-self
invariant_of-self c =
    elim (cases_Bool (is_ok c.extend_from_slice.result)) [
      | inl good ↦ rw (rw good at c.extend_from_slice.ensures.items) (record_more (buffer_of c.self.inside) c.args.bytes.now c.self.invariant)
      | inr bad ↦ rw (rw bad at c.extend_from_slice.ensures.items) c.self.invariant
    ]

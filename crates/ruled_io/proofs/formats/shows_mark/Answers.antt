use Rattle.std.proofs.Common.{◌∙◌, inl, inr, sym}
use Rattle.ruled_io.proofs.Fronts.{mark-shown, refuted}
use Rattle.ruled_io.proofs.formats.shows_mark.Goals as goal

pub returns-then-bytes-mark-clause-shown : goal.returns-then-bytes-mark-clause-shown
returns-then-bytes-mark-clause-shown c = λ shows behind. mark-shown c.args.bytes.now c.args.mark.now behind (inl c.if-bytes-mark.true)

pub returns-else-bytes-mark-clause-shown : goal.returns-else-bytes-mark-clause-shown
returns-else-bytes-mark-clause-shown c = λ shows behind. mark-shown c.args.bytes.now c.args.mark.now behind (inr (sym c.starts_with.ensures.value ∙ refuted c.starts_with.result shows))

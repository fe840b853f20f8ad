use Rattle.std.proofs.Common.{rules}
use Rattle.ruled_io.proofs.Fronts.{input-shown}
use Rattle.ruled_io.proofs.formats.shows_input.Goals as goal

pub returns : goal.returns
returns c = λ shows behind.
    input-shown c.args.known c.args.bytes.now c.without_mark.result.now behind c.without_mark.ensures (c.shows_mark.ensures.shown (search rules) behind) (c.shows_mark-2.ensures.shown (search rules) behind) (c.shows_text.ensures shows behind)

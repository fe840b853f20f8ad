use Rattle.ruled_io.proofs.Fronts.{reads-end, reads-on}
use Rattle.ruled_io.proofs.pieces.Pieces.read_bytes.Goals as goal

pub returns-clause-given : goal.returns-clause-given
returns-clause-given g c = λ format records all given stands.
    reads-on format records all _ _ _ given _ _ c.args.reader c.in_ok-read.field-0 c.in_ok-count.ensures.piece (λ before behind taken. c.in_ok-read.ensures.given format records before behind taken) stands

pub returns-then-count-eq0-clause-given : goal.returns-then-count-eq0-clause-given
returns-then-count-eq0-clause-given g c = λ format records all given stands.
    reads-end format records all _ _ given _ _ c.args.reader c.in_ok-finish.field-0 (c.in_ok-count.ensures.end c.if-count-eq0.true) (λ before taken. c.in_ok-finish.ensures.given format records before taken) stands

use Rattle.std.proofs.Common.{List, ℕ, sym, subst}
use Rattle.std.specs.Prelude.{IfSome}
use Rattle.std.specs.Io.KnownBytes.{Consumes}
use Rattle.ruled_io.specs.Reading.{BeginsSo}
use Rattle.ruled_io.proofs.Inputs.{shown-all, shown-front}
use Rattle.ruled_io.proofs.pieces.Pieces.read_shown.Goals as goal

pub returns-then-shows_input-clause-shown : goal.returns-then-shows_input-clause-shown
returns-then-shows_input-clause-shown g c =
    let given = g.R.Read.remaining c.args.self.now.input in
    let left = g.R.Read.remaining c.loop.self.input in
    subst (λ (front : List ℕ). IfSome given (BeginsSo c.args.known front)) c.deref.ensures.value
    (shown-front c.args.known given left c.deref.result.now (subst (λ (front : List ℕ). Consumes given left front) (sym c.deref.ensures.value) c.loop.invariant)
    (c.shows_input.ensures c.if-shows_input.true))

pub returns-then-count-eq0-clause-shown : goal.returns-then-count-eq0-clause-shown
returns-then-count-eq0-clause-shown g c =
    shown-all c.args.known (g.R.Read.remaining c.args.self.now.input) (g.R.Read.remaining c.loop.self.input) c.loop.front.items c.loop.invariant (c.in_ok-count.ensures.end c.if-count-eq0.true)

use Rattle.std.proofs.Common.{Global, Vec, ℕ}
use Rattle.ruled_io.proofs.Inputs.{front-seen}
use Rattle.ruled_io.proofs.pieces.Pieces.read_front.Goals as goal

pub returns-clause-read : goal.returns-clause-read
returns-clause-read g c =
    front-seen (λ (front : Vec ℕ Global). front.items) c.args.source.now (g.R.Read.remaining c.args.self.now.input) (g.R.Read.remaining c.read_shown.new.self.input) c.known.result c.read_shown.result
    c.known.ensures c.read_shown.ensures.read c.read_shown.ensures.shown

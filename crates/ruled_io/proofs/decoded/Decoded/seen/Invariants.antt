use Rattle.std.proofs.Common.{◌≡◌, false}
use Rattle.ruled_io.specs.Formats.{KeepsDecoding, decoding_left}
use Rattle.ruled_io.proofs.decoded.Decoded.seen.Given as goal

abbrev pub invariant-loop : goal.invariant-loop
invariant-loop g l =
    KeepsDecoding (decoding_left g.R.Read.remaining l.fn.self) (decoding_left g.R.Read.remaining l.self)
    × (l.self.is_seen ≡ false)
    × (l.self.text ≡ l.fn.self.text)

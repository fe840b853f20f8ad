use Rattle.std.proofs.Common.{◌≡◌, [], Some}
use Rattle.ruled_io.specs.Formats.{IsSeen, KeepsDecoding, decoding_left, items, room}
use Rattle.ruled_io.proofs.decoded.Decoded.fill.Given as goal

abbrev pub invariant-loop : goal.invariant-loop
invariant-loop g l =
    KeepsDecoding (decoding_left g.R.Read.remaining l.fn.self) (decoding_left g.R.Read.remaining l.self)
    × IsSeen (Some l.scheme) l.self
    × (items l.self.text ≡ [])
    × (room l.self.text ≡ 8192)

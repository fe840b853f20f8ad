use Rattle.std.proofs.Common.{◌≡◌, ◌+◌, Some, length}
use Rattle.ruled_io.specs.Formats.{IsSeen, decoding_left, items, room}
use Rattle.ruled_io.proofs.decoded.Decoded.decode.Given as goal

-- the text that is left stays the same
abbrev pub invariant-loop-scheme : goal.invariant-loop-scheme
invariant-loop-scheme g l =
    (decoding_left g.R.Read.remaining l.self ≡ decoding_left g.R.Read.remaining l.fn.self)
    × (l.self.input ≡ l.fn.self.input)
    × IsSeen (Some l.scheme) l.self
    × (room l.self.text + length (items l.self.text) ≡ 8192)

abbrev pub decreases-loop-scheme : goal.decreases-loop-scheme
decreases-loop-scheme g l = length (items l.self.bytes)

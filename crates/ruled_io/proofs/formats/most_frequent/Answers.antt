use Rattle.std.proofs.Common.{◌∙◌, ℕ, ap}
use Rattle.ruled_io.specs.Formats.{oftener}
use Rattle.ruled_io.proofs.formats.most_frequent.Goals as goal

pub returns : goal.returns
returns c =
    let last = oftener c.args.rules c.args.line.now in
    c.oftener.ensures ∙ ap (λ (sign : ℕ). last sign 124) (c.oftener-found-2.ensures ∙ ap (λ (sign : ℕ). last sign 59) c.oftener-found.ensures)

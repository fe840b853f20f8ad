use Rattle.std.proofs.Common.{◌≡◌, ◌≤◌, List, ℕ, ◌++◌, encode_utf8, length, take, ap, ◌∙◌, sym, arith}
use Rattle.std.proofs.lemmas.List.{take_all}
use Rattle.ruled_io.specs.Formats.{items}
use Rattle.ruled_io.proofs.Fronts.{grown}
use Rattle.ruled_io.proofs.window.Window.push.Goals as goal

pub returns-clause-items : goal.returns-clause-items
returns-clause-items c =
    let w = c.args.self.now in
    let within : w.end ≤ length w.bytes = omega arith in
    let copied = c.copy_from_slice.new.self in
    let n = length c.as_bytes-bytes.result.now in
    let is : copied ≡ encode_utf8 c.args.c = c.copy_from_slice.ensures.after ∙ c.as_bytes-bytes.ensures.value ∙ c.encode_utf8.ensures.value in
    let same : n ≡ length copied = ap length (sym c.copy_from_slice.ensures.after) in
    let whole : take n copied ≡ copied = take_all n copied (omega arith) in
    grown w.bytes copied w.start w.end _ n w.ordered within (omega arith) ∙ ap (λ (more : List ℕ). items w ++ more) (whole ∙ is)

use Rattle.std.proofs.Common.{◌≤◌, List, ℕ, ◌++◌, length, take, ap, ◌∙◌, sym, arith}
use Rattle.std.proofs.lemmas.Result.{err_from_is_err_and}
use Rattle.ruled_io.proofs.Fronts.{grown, kept}
use Rattle.ruled_io.proofs.window.Window.refill.Goals as goal

pub returns-in_err-count-clause-err : goal.returns-in_err-count-clause-err
returns-in_err-count-clause-err g c =
    let w = c.move_to_front.new.self in
    let within : w.end ≤ length w.bytes = omega arith in
    let p = err_from_is_err_and c.from_residual.result c.from_residual.ensures.1 in
    rw p.1 (kept w.bytes c.read.new.buf w.start w.end _ w.ordered within ∙ c.move_to_front.ensures.items, c.in_err-count.ensures.bytes)

pub returns-clause-ok : goal.returns-clause-ok
returns-clause-ok g c =
    let w = c.move_to_front.new.self in
    let within : w.end ≤ length w.bytes = omega arith in
    let n = c.in_ok-count.count in
    let bound = c.in_ok-count.ensures.bound in
    (take n c.read.new.buf, sym bound.1, grown w.bytes c.read.new.buf w.start w.end _ n w.ordered within bound.0 ∙ ap (λ (held : List ℕ). held ++ take n c.read.new.buf) c.move_to_front.ensures.items, c.in_ok-count.ensures.bytes.0)

use Rattle.std.proofs.Common.{◌≡◌, length, take, refl, sym, ◌∙◌, rules, arith}
use Rattle.std.proofs.lemmas.List.{take-append-drop, take_at, length-take}
use borrow.Rule.Slice.PartMut.{put_mid}
use Rattle.ruled_io.specs.Formats.{items}
use Rattle.ruled_io.proofs.window.Window.give.Goals as goal

pub returns-clause-bytes : goal.returns-clause-bytes
returns-clause-bytes c =
    let n = c.min-count.result in
    let held = items c.args.self.now in
    let copied = c.copy_from_slice.new.self in
    let len : length copied ≡ n = omega (arith, c.copy_from_slice.ensures.len, length-take n c.args.buf.now, c.min-count.ensures) in
    let front : take n (put_mid 0 n c.args.buf.now c.copy_from_slice.new.self) ≡ take n held =
    take_at copied _ n len ∙ (rw (← c.as_slice-held.ensures.value) (search rules)) in
    sym (take-append-drop n held) ∙ (rw (front, c.consume.ensures) refl)

use Rattle.std.proofs.Common.{◌≡◌, ◌≤◌, ◌+◌, ◌-◌, ◌++◌, length, take, drop, ap, ◌∙◌, arith, length-append, length-take-le}
use Rattle.std.specs.Str.{is_utf8}
use Rattle.std.proofs.lemmas.Str.{IsUtf8-append, IsUtf8-from_is_utf8, is_utf8-from_IsUtf8}
use Rattle.std.proofs.lemmas.Slice.{take-put_mid}
use Rattle.pg_compact.proofs.short_text.ShortText.push_text.Goals as goal

pub invariant_of-self : goal.invariant_of-self
invariant_of-self c =
    let len = c.self.inside.len in
    let bytes = c.self.inside.bytes in
    let text = c.args.text.now in
    let written = c.copy_from_slice.new.self in
    let behind = drop (len + length text - len) (drop len bytes) in
    let copied : written ≡ text = c.copy_from_slice.ensures.after ∙ c.as_bytes.ensures.value in
    let within : len ≤ length bytes = c.self.invariant.0 in
    let front = take-put_mid len (len + length text - len) bytes written (len + length text) (omega (arith, ap length copied)) within in (
      omega (arith, ap length copied, length-append (take len bytes) (written ++ behind), length-append written behind, length-take-le len bytes within),
      ap is_utf8 (front ∙ ap (λ end. take len bytes ++ end) copied) ∙ is_utf8-from_IsUtf8 (take len bytes ++ text) (IsUtf8-append (take len bytes) text (IsUtf8-from_is_utf8 (take len bytes) c.self.invariant.1) c.utf8.text),
    )

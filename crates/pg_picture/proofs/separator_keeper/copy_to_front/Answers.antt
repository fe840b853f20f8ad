use Rattle.std.proofs.Common.{◌≡◌, ℕ, true, List, ◌++◌, take, length, ap, sym, subst, ◌∙◌}
use Rattle.std.specs.Str.{IsUtf8, is_utf8}
use Rattle.std.proofs.Math.Seq.{take-append_seam}
use Rattle.std.proofs.lemmas.Str.{is_utf8-from_IsUtf8}
use Rattle.pg_picture.proofs.separator_keeper.copy_to_front.Goals as goal

-- bytes that begin with a text
begins-utf8 : (bytes rest text : List ℕ) → bytes ≡ text → IsUtf8 bytes → (take (length text) (bytes ++ rest) ≡ text) × (is_utf8 (take (length text) (bytes ++ rest)) ≡ true)
begins-utf8 bytes rest text same utf8 =
    let begins : take (length bytes) (bytes ++ rest) ≡ bytes = take-append_seam bytes rest in
    subst (λ (b : List ℕ). (take (length b) (bytes ++ rest) ≡ b) × (is_utf8 (take (length b) (bytes ++ rest)) ≡ true)) same
    (begins, ap is_utf8 begins ∙ is_utf8-from_IsUtf8 bytes utf8)

pub returns-clause-text : goal.returns-clause-text
returns-clause-text c =
    let copied = c.copy_from_slice.ensures.after in
    begins-utf8 c.copy_from_slice.new.self _ c.args.text.now (copied ∙ c.as_bytes.ensures.value) (subst IsUtf8 (sym copied) c.as_bytes.ensures.utf8)

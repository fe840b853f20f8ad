use Rattle.std.proofs.Common.{◌≤◌, ◌<◌, ◌++◌, ◌∷◌, [], inl, inr, lit<, append_assoc, sym, ap, ◌∙◌, arith}
use Rattle.std.specs.List.{slice_range}
use Rattle.std.proofs.lemmas.Str.{encode_ascii}
use Rattle.std.specs.String.{string_bytes}
use Rattle.pg_layout.specs.Text.{width_of}
use Rattle.std.specs.List.{join_with_byte}
use Rattle.pg_fit.specs.Wrapping.{filled}
use Rattle.pg_fit.proofs.FilledLines.{joined-taken, joined-ended}
use Rattle.pg_fit.proofs.filling.take.Goals as goal

pub returns-then-line-piece-clause-filled : goal.returns-then-line-piece-clause-filled
returns-then-line-piece-clause-filled g c =
    let a = c.args in
    λ ps.
    ap (λ n. string_bytes a.out.now ++ join_with_byte 10 (filled a.width (slice_range a.text.now n c.line_of.result.end) ps)) (c.line_of.ensures.begin ∙ sym c.if-line-piece.true)
    ∙ ap (λ n. string_bytes a.out.now ++ join_with_byte 10 (filled a.width (slice_range a.text.now a.line.begin n) ps)) c.line_of.ensures.end
    ∙ ap (λ z. string_bytes a.out.now ++ z)
    (joined-taken a.width a.text.now a.line.begin a.line.end a.piece.begin a.piece.end c.requires.line c.requires.gap c.requires.piece c.requires.piece_begin.0 (inl c.if-line-piece.true) ps)

pub returns-in-Some-clause-filled : goal.returns-in-Some-clause-filled
returns-in-Some-clause-filled g c =
    let a = c.args in
    let made = c.in-Some.ensures {u = tt} in
    let low : width_of (slice_range a.text.now a.line.begin a.piece.end) ≤ a.width = omega (arith, made.0, made.1) in
    λ ps. ap (λ z. string_bytes a.out.now ++ z)
    (joined-taken a.width a.text.now a.line.begin a.line.end a.piece.begin a.piece.end c.requires.line c.requires.gap c.requires.piece c.requires.piece_begin.0 (inr low) ps)

pub returns-clause-filled : goal.returns-clause-filled
returns-clause-filled g c =
    let a = c.args in
    let some : a.line.begin < a.piece.begin = omega (arith, c.requires.line, c.requires.gap) in
    let wide : a.width < width_of (slice_range a.text.now a.line.begin a.piece.end) = c.in_default.ensures {u = tt} in
    let line = slice_range a.text.now a.line.begin a.line.end in
    λ ps.
    let after = join_with_byte 10 (filled a.width (slice_range a.text.now a.piece.begin a.piece.end) ps) in
    ap (λ n. string_bytes c.push.new.self ++ join_with_byte 10 (filled a.width (slice_range a.text.now n c.line_of-2.result.end) ps)) c.line_of-2.ensures.begin
    ∙ ap (λ n. string_bytes c.push.new.self ++ join_with_byte 10 (filled a.width (slice_range a.text.now a.piece.begin n) ps)) c.line_of-2.ensures.end
    ∙ ap (λ z. z ++ after) (c.in_ok-push.ensures.bytes ∙ ap (λ z. string_bytes c.push_str.new.self ++ z) (encode_ascii 10 (lit< tt)) ∙ ap (λ z. z ++ 10 ∷ []) (c.in_ok-push_str.ensures.bytes ∙ ap (λ z. string_bytes a.out.now ++ z) c.range.ensures.value) ∙ append_assoc (string_bytes a.out.now) line (10 ∷ []))
    ∙ append_assoc (string_bytes a.out.now) (line ++ 10 ∷ []) after
    ∙ ap (λ z. string_bytes a.out.now ++ z) (sym (joined-ended a.width a.text.now a.line.begin a.line.end a.piece.begin a.piece.end c.requires.line some c.requires.gap c.requires.piece c.requires.piece_begin.0 wide ps))

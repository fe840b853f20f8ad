use Rattle.std.proofs.Common.{◌≡◌, ◌∙◌, ◌++◌, [], ◌∷◌, Some, string_bytes, option_map, rules, ap, lit<}
use Rattle.std.specs.Char.{encode_utf8}
use Rattle.pg_script.specs.Words.{text_of}
use Rattle.pg_script.proofs.LineWords.{option_map-nothing, text_of-bad, text_of-step, text_of-plain}
use Rattle.pg_script.proofs.words.text_of.Goals as goal

pub loop-before-init : goal.loop-before-init
loop-before-init g c = (c.utf8.written, rw c.new-text.ensures.bytes (option_map-nothing (text_of c.args.written.now)))

pub returns-in_default-escaped : goal.returns-in_default-escaped
returns-in_default-escaped g c =
    let cut = c.in-Some.ensures.byte (lit< tt) (λ _ _ found. found) in
    text_of-bad _ _ _ _ _ cut.0 cut.1 cut.2 c.in_default-escaped.ensures.read c.loop-before.invariant.1

pub loop-before-preserved : goal.loop-before-preserved
loop-before-preserved g c =
    let cut = c.in-Some.ensures.byte (lit< tt) (λ _ _ found. found) in
    let step = text_of-step (string_bytes c.loop-before.text) _ _ _ _ c.in-Some-escaped.meant _ cut.0 cut.1 cut.2 c.in-Some-escaped.ensures.read c.loop-before.invariant.1 in
    let one_byte = c.push.ensures.ascii c.in-Some-escaped.ensures.ascii in
    let gained : string_bytes c.push.new.self ≡ (string_bytes c.loop-before.text ++ c.in-Some.before.now) ++ c.in-Some-escaped.meant ∷ [] =
    c.in_ok-push.ensures.bytes ∙ ap (λ front. front ++ encode_utf8 c.in-Some-escaped.meant) c.in_ok-push_str.ensures.bytes ∙ ap (λ bytes. (string_bytes c.loop-before.text ++ c.in-Some.before.now) ++ bytes) one_byte in
    (search rules, ap (λ bytes. option_map (λ behind. bytes ++ behind) (text_of c.in-Some-escaped.behind.now)) gained ∙ step)

pub returns : goal.returns
returns g c =
    let uncut = c.in_default.ensures.byte (lit< tt) (λ _ _ found. found) in
    let whole = c.loop-before.invariant.1 in
    ap Some c.in_ok-push_str-2.ensures.bytes ∙ (rw (text_of-plain c.loop-before.rest.now uncut) at whole)

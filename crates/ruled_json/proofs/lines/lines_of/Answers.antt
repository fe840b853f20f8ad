use Rattle.std.proofs.Common.{◌≡◌, ◌∙◌, ◌==◌, ◌∷◌, ◌++◌, ℕ, List, [], ap, map, refl, sym}
use Rattle.std.proofs.lemmas.List.{append_assoc, map-append}
use Rattle.std.proofs.lemmas.List.Splits.{slice_split_at, slice_split_none}
use Rattle.ruled_json.specs.Rows.{lines_of}
use Rattle.ruled_json.proofs.lines.lines_of.Goals as goal

pub loop-line-preserved : goal.loop-line-preserved
loop-line-preserved c =
    let lines = c.loop-line.lines.items in
    let line = c.in-Some.line.now in
    let behind = c.in-Some.behind.now in
    let first : lines_of c.loop-line.rest.now ≡ line ∷ lines_of behind = ap lines_of c.in-Some.ensures.parts ∙ slice_split_at (λ byte. byte == 10) line 10 behind c.in-Some.ensures.first refl in
    c.loop-line.invariant ∙ ap (λ (rest : List (List ℕ)). map (λ l. l.now) lines ++ rest) first
    ∙ sym (append_assoc (map (λ l. l.now) lines) (line ∷ []) (lines_of behind))
    ∙ ap (λ (front : List (List ℕ)). front ++ lines_of behind) (sym (ap (map (λ l. l.now)) c.in_ok-push.ensures.items ∙ map-append (λ l. l.now) lines (c.in-Some.line ∷ [])))

pub returns : goal.returns
returns c =
    let lines = c.loop-line.lines.items in
    let rest = c.loop-line.rest in
    ap (map (λ l. l.now)) c.in_ok-push-2.ensures.items ∙ map-append (λ l. l.now) lines (rest ∷ [])
    ∙ ap (λ (last : List (List ℕ)). map (λ l. l.now) lines ++ last) (sym (slice_split_none (λ byte. byte == 10) rest.now c.in_default.ensures.none))
    ∙ sym c.loop-line.invariant

use Rattle.std.proofs.Common.{rules, Ok, ◌∙◌, sym}
use Rattle.std.proofs.lemmas.Iterator.{YieldsList-from_chars, YieldsList-from_map, text_from_collect}
use Rattle.std.proofs.lemmas.Iterator.Consumers.{YieldsList-at}
use Rattle.pg_fit.specs.Controls.{sign_of, visible_text}
use Rattle.pg_fit.proofs.LawsOfControls.{visible_texts_stay}
use Rattle.pg_fit.proofs.controls.visible.Goals as goal

pub returns-then-is_visible : goal.returns-then-is_visible
returns-then-is_visible g c = c.in_ok-same.ensures.ok ∙ sym (visible_texts_stay c.args.text.now c.utf8.text (sym c.is_visible.ensures ∙ c.if-is_visible.true))

pub returns : goal.returns
unfolding visible_text
returns g c =
    text_from_collect {E = Unit {0}} (Ok c.in_ok-shown.shown) c.in_ok-shown.ensures.ran
    (YieldsList-from_map _ sign_of (YieldsList-at c.map.ensures.source (YieldsList-from_chars c.args.text.now c.utf8.text c.chars.ensures.rest)) c.map.ensures.closure (λ x r q k. search rules))

use Rattle.std.proofs.Common.{◌≡◌, ◌≤◌, ap, arith, rules}
use Rattle.pg_layout.specs.Text.{Text, text_width_of}
use Rattle.pg_fit.specs.Wrapping.{wrapped}
use Rattle.pg_fit.proofs.LawsOfTexts.{fitting_texts_stay, wrapped_texts_fit}
use Rattle.ruled_table.proofs.LentTexts.{columns_by_bytes}
use Rattle.ruled_table.proofs.widths.raised_to_wrapped.Goals as goal

-- a text with no more bytes is no wider
pub returns-then-text-width-clause-width : goal.returns-then-text-width-clause-width
returns-then-text-width-clause-width c =
    let text : Text = c.args.text.now in
    let few = columns_by_bytes text c.utf8.text in
    let stays : wrapped c.args.breaking c.args.room text ≡ text = fitting_texts_stay c.args.breaking c.args.room text (omega (arith, few, c.if-text-width.true, c.requires)) in
    omega (arith, few, c.if-text-width.true, ap (λ (t : Text). text_width_of t) stays)

pub returns-then-text-width-clause-fits : goal.returns-then-text-width-clause-fits
returns-then-text-width-clause-fits c =
    let few = columns_by_bytes c.args.text.now c.utf8.text in
    record { characters = omega (arith, few, c.if-text-width.true, c.requires); encoded = c.utf8.text; counted = omega (arith, c.if-text-width.true) }

pub returns-then-own-room-clause-width : goal.returns-then-own-room-clause-width
returns-then-own-room-clause-width c =
    let stays : wrapped c.args.breaking c.args.room c.args.text.now ≡ c.args.text.now = fitting_texts_stay c.args.breaking c.args.room c.args.text.now (omega (arith, c.text_width-own.ensures, c.if-own-room.true)) in
    omega (arith, c.max.ensures, c.text_width-own.ensures, ap (λ (t : Text). text_width_of t) stays)

-- each character has room, and so no line is wider
pub returns-then-width-room-clause-width : goal.returns-then-width-room-clause-width
returns-then-width-room-clause-width c =
    let low : text_width_of (wrapped c.args.breaking c.args.room c.args.text.now) ≤ c.args.room = wrapped_texts_fit c.args.breaking c.args.room c.args.text.now c.utf8.text (omega (arith, c.least_width.ensures, c.if-least_width-room.false)) in
    omega (arith, low, c.if-width-room.true)

pub returns-clause-room : goal.returns-clause-room
returns-clause-room c =
    let low : text_width_of (wrapped c.args.breaking c.args.room c.args.text.now) ≤ c.args.room = wrapped_texts_fit c.args.breaking c.args.room c.args.text.now c.utf8.text (omega (arith, c.least_width.ensures, c.if-least_width-room.false)) in
    let is : c.get_text_width.result ≡ text_width_of (wrapped c.args.breaking c.args.room c.args.text.now) = search rules in
    omega (arith, c.max-2.ensures, is, low, c.requires)

use Rattle.std.proofs.Common.{◌≡◌, ◌≤◌, ◌∙◌, IsUtf8, List, [], ap, arith, length, slice_index_or, rules, sym, Some}
use Rattle.csv.specs.Records.{fields_of}
use Rattle.pg_layout.specs.Text.{Text, lines_of, text_width_of}
use Rattle.pg_fit.specs.Controls.{letters_width}
use Rattle.pg_fit.proofs.LawsOfTexts.{letters_are_a_line}
use Rattle.ruled_table.specs.Shown.{shown_text}
use Rattle.ruled_table.specs.Widths.{text_within}
use Rattle.ruled_table.proofs.LentTexts.{letters-some, letters-stand, plain-line, plain-within, lent-within}
use Rattle.ruled_table.proofs.table_rows.lent_cell.Goals as goal

pub returns-then-text-room-clause-cell : goal.returns-then-text-room-clause-cell
returns-then-text-room-clause-cell c =
    let fields : List Text = fields_of c.args.fields.now in
    let is : c.field_at-text.result.now ≡ slice_index_or fields c.in_ok-place.field-0 [] = c.field_at-text.ensures in
    let here : c.args.place ≡ Some c.in_ok-place.field-0 = search rules in
    let fits : length (slice_index_or fields c.in_ok-place.field-0 []) ≤ c.args.room = omega (arith, sym (ap (λ (t : Text). length t) is), c.if-text-room.true) in
    rw here (is ∙ plain-within c.args.options.now c.args.options.now.bounds.overflow c.args.room fields c.in_ok-place.field-0 (c.requires.unchanged c.if-is_plain.true) (c.requires.plain c.if-is_plain.true) fits)

pub returns-then-text-room-clause-single : goal.returns-then-text-room-clause-single
returns-then-text-room-clause-single c =
    let fields : List Text = fields_of c.args.fields.now in
    ap (λ (t : Text). length (lines_of t)) c.field_at-text.ensures ∙ plain-line fields c.in_ok-place.field-0 (c.requires.plain c.if-is_plain.true)

pub returns-then-width-room-clause-cell : goal.returns-then-width-room-clause-cell
returns-then-width-room-clause-cell c =
    let fields : List Text = fields_of c.args.fields.now in
    let options = c.args.options.now in
    let text : Text = c.field_at-text.result.now in
    let is : text ≡ slice_index_or fields c.in_ok-place.field-0 [] = c.field_at-text.ensures in
    let here : c.args.place ≡ Some c.in_ok-place.field-0 = search rules in
    let found : Some c.in_ok-width.width ≡ letters_width text = search rules in
    let letters = letters-some text c.in_ok-width.width found in
    let utf8 : IsUtf8 text = search rules in
    let same = letters-stand options c.requires.others text utf8 letters.0 in
    let within = lent-within options options.bounds.overflow c.args.room text same (omega (arith, letters.1, c.if-width-room.true)) in
    rw here (within ∙ ap (λ (t : Text). text_within options.bounds.overflow c.args.room (shown_text options t)) is)

pub returns-then-width-room-clause-single : goal.returns-then-width-room-clause-single
returns-then-width-room-clause-single c =
    let text : Text = c.field_at-text.result.now in
    let found : Some c.in_ok-width.width ≡ letters_width text = search rules in
    let letters = letters-some text c.in_ok-width.width found in
    let utf8 : IsUtf8 text = search rules in
    ap (λ (ls : List Text). length ls) (letters_are_a_line text utf8 letters.0)

use Rattle.std.proofs.Common.{◌≡◌, true, ap, ap₂, sym, ◌∙◌, lit<, arith}
use Rattle.pg_picture.specs.Fits.{cell_fits}
use Rattle.pg_picture.specs.Pieces.{Style, written, block_line}
use Rattle.pg_picture.specs.Inside.{style_of}
use Rattle.pg_picture.proofs.Appending.{Appends-text}
use Rattle.pg_picture.proofs.PlacesOfTexts.{single-whole, room-of-whole, cell_fits-width}
use Rattle.pg_picture.proofs.pen.Pen.push_in_style.Goals as goal

pub push_line_of_width-requires-clause-room : goal.push_line_of_width-requires-clause-room
push_line_of_width-requires-clause-room g c =
    let style = style_of c.args.style.now in
    let cell = c.args.cell in
    let fits : cell_fits style cell.text.now cell.width 1 ≡ true = ap (λ s. cell_fits s cell.text.now cell.width 1) c.requires.style ∙ cell.has_room in
    room-of-whole style cell.text.now cell.width c.in-Some.line_width (sym c.shows_texts_whole.ensures ∙ c.if-shows_texts_whole.true) c.in-Some.ensures.one c.in-Some.ensures.width (cell_fits-width style cell.text.now cell.width 1 (lit< tt) fits)

pub returns-in-Some : goal.returns-in-Some
returns-in-Some g c =
    let style = style_of c.args.style.now in
    let cell = c.args.cell in
    Appends-text
    (ap written (single-whole style _ cell.text.now cell.width (sym c.shows_texts_whole.ensures ∙ c.if-shows_texts_whole.true) c.in-Some.ensures.one)
    ∙ ap₂ (λ s k. written (block_line s k cell.text.now cell.width 1 0)) c.requires.style c.color_of-color.ensures) c.push_line_of_width.ensures

pub push_single_line-requires : goal.push_single_line-requires
push_single_line-requires g c =
    let cell = c.args.cell in
    record { room = ap (λ s. cell_fits s cell.text.now cell.width 1) c.requires.style ∙ cell.has_room }

pub returns : goal.returns
returns g c =
    let cell = c.args.cell in
    Appends-text (ap₂ (λ s k. written (block_line s k cell.text.now cell.width 1 0)) c.requires.style c.color_of-color.ensures) c.push_single_line.ensures

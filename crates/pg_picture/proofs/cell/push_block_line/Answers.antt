use Rattle.std.proofs.Common.{ap, ◌∙◌, arith}
use Rattle.std.proofs.lemmas.List.Sums.{count_by-le-length}
use Rattle.pg_layout.proofs.TextLines.{is_feed, length-lines_of}
use Rattle.pg_picture.specs.Pieces.{written}
use Rattle.pg_picture.specs.Inside.{style_of, line_if}
use Rattle.pg_picture.proofs.Appending.{Appends-text}
use Rattle.pg_picture.proofs.PlacesOfTexts.{place-lines, text_line_at-within, room-of-line, block_line-at}
use Rattle.pg_picture.proofs.cell.push_block_line.Goals as goal

pub text_line_at-requires : goal.text_line_at-requires
text_line_at-requires g c = omega (arith, place-lines (style_of c.args.style.now) c.args.text.now c.args.width c.args.height c.args.place c.requires.place, length-lines_of c.args.text.now, count_by-le-length is_feed c.args.text.now)

pub line_if-line-requires : goal.line_if-line-requires
line_if-line-requires g c = rw c.text_line_at.ensures (text_line_at-within c.args.place c.args.i _ (place-lines (style_of c.args.style.now) c.args.text.now c.args.width c.args.height c.args.place c.requires.place))

pub push_block_line_of-requires : goal.push_block_line_of-requires
push_block_line_of-requires g c = λ below above. room-of-line (style_of c.args.style.now) c.args.text.now c.args.width c.args.height c.args.i c.args.place c.line_if-line.result.now c.requires.place (c.line_if-line.ensures ∙ ap (line_if c.args.text.now) c.text_line_at.ensures) c.requires.width below above

pub returns : goal.returns
returns g c = Appends-text (ap written (block_line-at (style_of c.args.style.now) _ c.args.text.now c.args.width c.args.height c.args.i c.args.place c.line_if-line.result.now c.requires.place (c.line_if-line.ensures ∙ ap (line_if c.args.text.now) c.text_line_at.ensures))) c.push_block_line_of.ensures

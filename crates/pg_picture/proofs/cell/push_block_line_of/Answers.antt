use Rattle.std.proofs.Common.{ap, arith}
use Rattle.pg_picture.specs.Pieces.{written}
use Rattle.pg_picture.specs.Inside.{style_of}
use Rattle.pg_picture.proofs.Appending.{Appends-text}
use Rattle.pg_picture.proofs.PlacesOfTexts.{placed_line-top, placed_line-text, placed_line-bottom}
use Rattle.pg_picture.proofs.cell.push_block_line_of.Goals as goal

pub returns-then-i-place : goal.returns-then-i-place
returns-then-i-place g c = Appends-text (ap written (placed_line-top (style_of c.args.style.now) _ c.args.place c.args.width c.args.i c.args.line.now (omega arith))) c.push_padding.ensures

pub returns-then-i-place-2 : goal.returns-then-i-place-2
returns-then-i-place-2 g c = Appends-text (ap written (placed_line-text (style_of c.args.style.now) _ c.args.place c.args.width c.args.i c.args.line.now c.trim_if-shown.result.now (omega arith) (omega arith) c.trim_if-shown.ensures)) c.push_text_line.ensures

pub returns : goal.returns
returns g c = Appends-text (ap written (placed_line-bottom (style_of c.args.style.now) _ c.args.place c.args.width c.args.i c.args.line.now (omega arith) (omega arith))) c.push_padding-2.ensures

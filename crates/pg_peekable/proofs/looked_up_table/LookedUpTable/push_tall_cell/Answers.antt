use Rattle.std.proofs.Common.{◌+◌, ◌≤◌, length, ap, sym, subst, arith}
use Rattle.std.proofs.lemmas.List.Sums.{count_by-le-length}
use Rattle.pg_layout.proofs.TextLines.{is_feed, length-lines_of}
use Rattle.pg_layout.specs.Text.{lines_of}
use Rattle.pg_picture.specs.Pieces.{written}
use Rattle.pg_picture.proofs.Appending.{Appends-text}
use Rattle.pg_picture.proofs.PlacesOfTexts.{text_line_at-within}
use Rattle.pg_peekable.specs.Inside.{Reads}
use Rattle.pg_peekable.proofs.RowParts.{tall-lines, tall-room, tall-line}
use Rattle.pg_peekable.proofs.looked_up_table.LookedUpTable.push_tall_cell.Goals as goal

pub text_line_at-requires : goal.text_line_at-requires
text_line_at-requires g c =
    let line = c.args.line in
    let reading = c.reading_of-reading.result in
    let text = c.text_of-text.result.now in
    let within : reading.place.skip + reading.place.shown ≤ length (lines_of text) = rw c.text_of-text.ensures (tall-lines g.T.TableMarker.table line.rectangle line.number line.is reading c.reading_of-reading.ensures) in
    omega (arith, within, length-lines_of text, count_by-le-length is_feed text)

pub line_if-shown-requires-clause-reads : goal.line_if-shown-requires-clause-reads
line_if-shown-requires-clause-reads g c = subst (Reads c.reading_of-reading.result) (sym c.text_of-text.ensures) c.reading_of-reading.ensures.reads

pub line_if-shown-requires-clause-there : goal.line_if-shown-requires-clause-there
line_if-shown-requires-clause-there g c =
    let line = c.args.line in
    rw (c.text_line_at.ensures, c.text_of-text.ensures)
    (text_line_at-within c.reading_of-reading.result.place line.number _ (tall-lines g.T.TableMarker.table line.rectangle line.number line.is c.reading_of-reading.result c.reading_of-reading.ensures))

pub invariant_of-placed : goal.invariant_of-placed
invariant_of-placed g c =
    let line = c.args.line in
    record { has_room = tall-room g.T.TableMarker.table line.rectangle line.number line.is c.reading_of-reading.result c.reading_of-reading.ensures c.text_of-text.ensures c.text_line_at.ensures c.line_if-shown.ensures.line }

pub returns : goal.returns
returns g c =
    let line = c.args.line in
    Appends-text (ap written (tall-line g.T.TableMarker.table line.rectangle line.number line.is c.reading_of-reading.result c.reading_of-reading.ensures c.text_of-text.ensures c.text_line_at.ensures c.line_if-shown.ensures.line)) c.push_placed_line.ensures

use Rattle.std.proofs.Common.{◌≡◌, refl, ap}
use Rattle.pg_layout.specs.Position.{at}
use Rattle.pg_picture.specs.Pieces.{written}
use Rattle.pg_picture.proofs.Appending.{Appends-text}
use Rattle.pg_stream.specs.Inside.{IsTall}
use Rattle.pg_stream.specs.Placed.{IsPlaced}
use Rattle.pg_stream.proofs.draw.OpenLists.{next-room, next-line}
use Rattle.pg_stream.proofs.draw.open_line.OpenLine.push_cell_line.Goals as goal

pub invariant_of-line : goal.invariant_of-line
invariant_of-line g c =
    let t = g.T.TableMarker.table in
    let x = c.args.column in
    let drawn = c.args.self.now.are_drawn in
    let placed : IsPlaced t x c.args.cell.now = rw c.requires.cell at (drawn.opened.placed x) in
    let tall : IsTall t x c.args.cell.now = rw c.requires.cell at (drawn.tall x) in
    let here : c.new.result ≡ at c.args.cell.now.begun x = rw (c.new.ensures, c.begun.ensures) refl in
    record { has_room = next-room t x c.args.cell.now placed tall c.line.result.now c.line.ensures c.new.result c.place.result c.width.result c.drawn.result here c.place.ensures c.width.ensures c.drawn.ensures }

pub returns : goal.returns
returns g c =
    let t = g.T.TableMarker.table in
    let x = c.args.column in
    let drawn = c.args.self.now.are_drawn in
    let placed : IsPlaced t x c.args.cell.now = rw c.requires.cell at (drawn.opened.placed x) in
    let tall : IsTall t x c.args.cell.now = rw c.requires.cell at (drawn.tall x) in
    let here : c.new.result ≡ at c.args.cell.now.begun x = rw (c.new.ensures, c.begun.ensures) refl in
    Appends-text (ap written (next-line t x c.args.cell.now placed tall c.line.result.now c.line.ensures c.new.result c.place.result c.width.result c.drawn.result here c.place.ensures c.width.ensures c.drawn.ensures)) c.push_placed_line.ensures

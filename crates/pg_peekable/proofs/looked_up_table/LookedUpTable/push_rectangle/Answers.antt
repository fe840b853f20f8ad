use Rattle.std.proofs.Common.{ap₂}
use Rattle.pg_picture.specs.Pieces.{written}
use Rattle.pg_picture.specs.Table.{line_of_cell}
use Rattle.pg_picture.proofs.Appending.{Appends-text}
use Rattle.pg_picture.proofs.DrawnRectangles.{owner_room}
use Rattle.pg_peekable.proofs.looked_up_table.LookedUpTable.push_rectangle.Goals as goal

pub push_cell-requires : goal.push_cell-requires
push_cell-requires g c =
    let room = owner_room g.T.TableMarker.table c.args.self.now.can.fits c.args.its.rectangle.corner c.args.its.is.owner in
    record { cell = rw (c.args.its.is.width, c.args.its.is.height) record { row = c.args.its.is.owner.row; column = c.args.its.is.owner.column; room = room; line = c.requires.number } }

pub returns : goal.returns
returns g c =
    let t = g.T.TableMarker.table in
    let corner = c.args.its.rectangle.corner in
    Appends-text (ap₂ (λ w h. written (line_of_cell t corner w h c.args.number)) c.args.its.is.width c.args.its.is.height) c.push_cell.ensures

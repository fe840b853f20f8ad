use Rattle.std.proofs.Common.{sym, ◌∙◌}
use Rattle.pg_layout.specs.Position.{at}
use Rattle.pg_picture.proofs.Appending.{Appends-text}
use Rattle.pg_peekable.proofs.CanDraw.{in_order}
use Rattle.pg_peekable.proofs.RowParts.{single-text, single-room, rectangle-text}
use Rattle.pg_peekable.proofs.looked_up_table.LookedUpTable.push_spanned_part.Goals as goal

pub push_part-requires : goal.push_part-requires
push_part-requires g c =
    let t = g.T.TableMarker.table in
    let room = single-room t (in_order t c.args.self.now.can) (at c.args.line.now.row c.args.column) c.args.line.now.number c.args.line.now.is.row c.requires.begins.column c.args.line.now.is.line c.requires.begins.left c.args.self.now.can.fits (sym c.requires.begins.span ∙ c.in-None.is) in
    record { cell = record { row = c.args.line.now.is.row; column = c.requires.begins.column; room = room; line = c.args.line.now.is.line } }

pub returns-in-None : goal.returns-in-None
returns-in-None g c =
    let t = g.T.TableMarker.table in
    Appends-text (single-text t (in_order t c.args.self.now.can) (at c.args.line.now.row c.args.column) c.args.line.now.number c.args.line.now.is.row c.requires.begins.column c.args.line.now.is.line c.requires.begins.left (sym c.requires.begins.span ∙ c.in-None.is)) c.push_part.ensures

pub returns-in-Some : goal.returns-in-Some
returns-in-Some g c =
    let t = g.T.TableMarker.table in
    Appends-text (rectangle-text t (in_order t c.args.self.now.can) (at c.args.line.now.row c.args.column) c.args.line.now.number c.args.line.now.is.row c.requires.begins.column c.args.line.now.is.line c.requires.begins.left c.in-Some.span (sym c.requires.begins.span ∙ c.in-Some.is)) c.push_rectangle_part.ensures

use Rattle.std.proofs.Common.{◌++◌, ap, ◌∙◌, arith}
use Rattle.pg_picture.specs.Pieces.{written}
use Rattle.pg_picture.specs.Table.{vertical}
use Rattle.pg_picture.proofs.Appending.{Appends-text, ◌then◌}
use Rattle.pg_peekable.proofs.CanDraw.{found_owns, found_fits, found_inside, found_line, above-row}
use Rattle.pg_peekable.proofs.looked_up_table.LookedUpTable.push_rectangle_part.Goals as goal

pub rectangle_at-rectangle-requires : goal.rectangle_at-rectangle-requires
rectangle_at-rectangle-requires g c = record { owner = found_owns g.T.TableMarker.table c.args.self.now.can c.args.line.now.row c.args.column c.args.span c.requires.span }

pub overflow_add-rectangle : goal.overflow_add-rectangle
overflow_add-rectangle g c =
    let t = g.T.TableMarker.table in
    let rectangle = c.rectangle_at-rectangle.result in
    let above = above-row t c.args.line.now.row rectangle.is c.rectangle_at-rectangle.ensures.row in
    omega (arith, found_fits t c.args.self.now.can c.args.line.now.row c.args.column c.args.span c.requires.span rectangle.rectangle.corner c.rectangle_at-rectangle.ensures.corner rectangle.above above c.args.line.now.number c.args.line.now.is.line)

pub push_rectangle-requires : goal.push_rectangle-requires
push_rectangle-requires g c =
    let t = g.T.TableMarker.table in
    let rectangle = c.rectangle_at-rectangle.result in
    let above = above-row t c.args.line.now.row rectangle.is c.rectangle_at-rectangle.ensures.row in
    record { number = found_inside t c.args.self.now.can c.args.line.now.row c.args.column c.args.span c.requires.span rectangle.rectangle.corner c.rectangle_at-rectangle.ensures.corner rectangle.above above c.args.line.now.number c.args.line.now.is.line }

pub returns : goal.returns
returns g c =
    let t = g.T.TableMarker.table in
    let rectangle = c.rectangle_at-rectangle.result in
    let above = above-row t c.args.line.now.row rectangle.is c.rectangle_at-rectangle.ensures.row in
    Appends-text
    (ap (λ l. written (vertical t c.args.line.now.row c.args.line.now.number c.args.column) ++ l)
    (found_line t c.args.self.now.can c.args.line.now.row c.args.column c.args.span c.requires.span rectangle.rectangle.corner c.rectangle_at-rectangle.ensures.corner rectangle.above above c.args.line.now.number c.args.line.now.is.line))
    (c.in_ok-push_vertical.ensures then c.push_rectangle.ensures)

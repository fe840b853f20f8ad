use Rattle.std.proofs.Common.{◌++◌, ℕ, List, ap, ap₂, ◌∙◌}
use Rattle.pg_layout.specs.declared.position.Position.{Position}
use Rattle.pg_layout.specs.Position.{at}
use Rattle.pg_picture.specs.Pieces.{Piece, written}
use Rattle.pg_picture.specs.Table.{vertical, line_of_cell}
use Rattle.pg_picture.proofs.Appending.{Appends-text, ◌then◌, stopped}
use Rattle.pg_peekable.proofs.looked_up_table.LookedUpTable.push_part.Goals as goal

pub push_cell-requires : goal.push_cell-requires
push_cell-requires g c = record { cell = rw (c.width_of.ensures, c.args.line.now.is.height, c.new.ensures) c.requires.cell }

pub returns-in_err-push_vertical : goal.returns-in_err-push_vertical
returns-in_err-push_vertical g c =
    let t = g.T.TableMarker.table in
    let line = c.args.line.now in
    let cell : Position → ℕ → ℕ → List Piece = λ p w h. line_of_cell t p w h line.number in
    let place = ap (λ p. cell p c.width_of.result line.height) c.new.ensures ∙ ap₂ (λ w h. cell (at line.row c.args.column) w h) c.width_of.ensures c.args.line.now.is.height in
    Appends-text
    (ap (λ (l : List Piece). written (vertical t line.row line.number c.args.column) ++ written l) place)
    (stopped (written (cell c.new.result c.width_of.result line.height)) c.from_residual.ensures.0 c.in_err-push_vertical.ensures)

pub returns : goal.returns
returns g c =
    let t = g.T.TableMarker.table in
    let line = c.args.line.now in
    let cell : Position → ℕ → ℕ → List Piece = λ p w h. line_of_cell t p w h line.number in
    let place = ap (λ p. cell p c.width_of.result line.height) c.new.ensures ∙ ap₂ (λ w h. cell (at line.row c.args.column) w h) c.width_of.ensures c.args.line.now.is.height in
    Appends-text
    (ap (λ (l : List Piece). written (vertical t line.row line.number c.args.column) ++ written l) place)
    (c.in_ok-push_vertical.ensures then c.push_cell.ensures)

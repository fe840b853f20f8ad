use Rattle.std.proofs.Common.{◌≡◌, ap, ap₂, sym, ◌∙◌, arith}
use Rattle.pg_picture.specs.Fits.{cell_fits}
use Rattle.pg_picture.specs.Pieces.{style_at, written, block_line}
use Rattle.pg_picture.proofs.Appending.{Appends-text}
use Rattle.pg_peekable.proofs.looked_up_table.LookedUpTable.push_cell.Goals as goal

-- its text has room in one line
pub invariant_of-cell-clause-has_room : goal.invariant_of-cell-clause-has_room
invariant_of-cell-clause-has_room g c =
    let t = g.T.TableMarker.table in
    let p = c.args.rectangle.corner in
    ap₂ (λ x h. cell_fits (style_at t.config p) x c.args.rectangle.width h) c.text_of.ensures (sym c.if-rectangle-eq1.true) ∙ c.requires.cell.room

pub returns-then-rectangle-eq1 : goal.returns-then-rectangle-eq1
returns-then-rectangle-eq1 g c =
    let t = g.T.TableMarker.table in
    let p = c.args.rectangle.corner in
    let first : 0 ≡ c.args.number = omega (arith, c.requires.cell.line, c.if-rectangle-eq1.true) in
    Appends-text
    (ap₂ (λ x h. written (block_line (style_at t.config p) (t.color p) x c.args.rectangle.width h 0)) c.text_of.ensures (sym c.if-rectangle-eq1.true)
    ∙ ap (λ i. written (block_line (style_at t.config p) (t.color p) (t.text p) c.args.rectangle.width c.args.rectangle.height i)) first) c.push_single.ensures

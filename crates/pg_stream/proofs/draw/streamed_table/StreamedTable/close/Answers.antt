use Rattle.std.proofs.Common.{◌≡◌, ◌∙◌, ap, sym, subst, set, get_or, arith, length, None, Option, IfSome, ◌≤◌, ◌<◌, zero-add, add-one}
use Rattle.pg_stream.specs.Placed.{Placed}
use Rattle.pg_stream.specs.Inside.{close_cell}
use Rattle.pg_stream.proofs.draw.OpenLists.{partly, partly-none, partly-all, partly-length, partly-at, partly-set, closed-is}
use Rattle.pg_stream.proofs.draw.streamed_table.StreamedTable.close.Goals as goal

pub loop-column-init : goal.loop-column-init
loop-column-init g c = partly-none (close_cell g.T.TableMarker.table.config.spans c.args.row) 0 c.args.opened.now

pub close_one-requires-clause-column : goal.close_one-requires-clause-column
close_one-requires-clause-column g c =
    let e = ap length c.loop-column.invariant ∙ partly-length (close_cell g.T.TableMarker.table.config.spans c.args.row) 0 c.loop-column.column c.args.opened.now in
    omega (arith, e, c.loop-column-test.true, c.requires.columns)

pub close_one-requires-clause-begun : goal.close_one-requires-clause-begun
close_one-requires-clause-begun g c =
    let f = close_cell g.T.TableMarker.table.config.spans c.args.row in
    let here : get_or c.loop-column.opened c.loop-column.column None ≡ get_or c.args.opened.now c.loop-column.column None =
    ap (λ l. get_or l c.loop-column.column None) c.loop-column.invariant ∙ partly-at f 0 c.loop-column.column c.args.opened.now None in
    subst (λ (o : Option Placed). IfSome o (λ cell. cell.begun ≤ c.args.row)) (sym here) (c.requires.begun c.loop-column.column)

pub loop-column-preserved : goal.loop-column-preserved
loop-column-preserved g c =
    let f = close_cell g.T.TableMarker.table.config.spans c.args.row in
    let i = c.loop-column.column in
    let xs = c.args.opened.now in
    let l : i < length xs = omega (arith, c.loop-column-test.true, c.requires.columns) in
    c.close_one.ensures
    ∙ ap (λ l. set l i (f i (get_or l i None))) c.loop-column.invariant
    ∙ partly-set f 0 i xs _ None l (ap (λ s. f i s) (partly-at f 0 i xs None) ∙ ap (λ n. f n (get_or xs i None)) (sym (zero-add i)))
    ∙ ap (λ n. partly f 0 n xs) (sym (add-one i))

pub returns : goal.returns
returns g c =
    let f = close_cell g.T.TableMarker.table.config.spans c.args.row in
    c.loop-column.invariant ∙ partly-all f 0 c.loop-column.column c.args.opened.now (omega (arith, c.loop-column-test.false, c.requires.columns)) ∙ closed-is g.T.TableMarker.table.config.spans c.args.row c.args.opened.now

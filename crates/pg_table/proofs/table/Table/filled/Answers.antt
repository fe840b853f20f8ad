use Rattle.std.proofs.Common.{◌≡◌, ◌==◌, ◌||◌, ◌<◌, ◌≤◌, ℕ, [], false, max, map, length, ap, arith, ◌∙◌}
use Rattle.std.proofs.lemmas.Bool.Decides.{nat_tests}
use Rattle.std.proofs.lemmas.List.{length-map}
use Rattle.pg_layout.specs.ColorsMap.{color_at}
use Rattle.pg_layout.specs.Records.{columns_of}
use Rattle.pg_picture.specs.Table.{Table, full_width, is_empty}
use Rattle.pg_table.specs.Fitted.{filled, drawn_rows}
use Rattle.pg_table.proofs.Filled.{fitted-empty}
use Rattle.pg_table.proofs.table.Table.filled.Goals as goal

pub returns-clause-table : goal.returns-clause-table
returns-clause-table g c = c.filled.ensures.table ∙ ap (λ (t : Table). filled c.args.width c.args.column t) c.in_ok-within.ensures.table

pub returns-clause-exact : goal.returns-clause-exact
returns-clause-exact g c = λ plain least rows inside.
    let self = c.args.self.now in
    let is = c.in_ok-within.ensures.table in
    let bound = c.in_ok-within.ensures.bound plain in
    let cells : ((length (map (λ row. map g.T.AsStr.text row) self.rows) == 0) || (columns_of self.rows == 0)) ≡ false = let long = length-map self.rows (λ row. map g.T.AsStr.text row) in grind (arith, nat_tests, long, rows, inside) in
    let some =
    ap (λ (t : Table). is_empty t) is
    ∙ fitted-empty c.args.how c.args.width [] self.config (map (λ row. map g.T.AsStr.text row) self.rows) (columns_of self.rows) (λ place. color_at place self.colors) ∙ cells in
    let columns = ap (λ (t : Table). t.columns) is in
    omega (arith, c.filled.ensures.exact some (omega (arith, inside, columns)), bound, least)

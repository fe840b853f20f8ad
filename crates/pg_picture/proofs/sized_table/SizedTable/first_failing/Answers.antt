use Rattle.std.proofs.Common.{◌<◌, ◌≤◌, sym, ap, ◌∙◌, arith}
use Rattle.pg_picture.specs.Sizes.{table_of}
use Rattle.pg_picture.specs.Inside.{first_failed, owner_passes}
use Rattle.pg_picture.proofs.FirstPlaces.{next_row, failed_row, places_from-end}
use Rattle.pg_picture.proofs.sized_table.SizedTable.first_failing.Goals as goal

pub returns-in-Some : goal.returns-in-Some
returns-in-Some g c =
    let t = table_of c.args.self.now.config.now (g.D.Dimension.width c.args.self.now.dimension.now) (g.D.Dimension.height c.args.self.now.dimension.now) (g.R.Records.texts c.args.self.now.records.now) (g.R.Records.columns c.args.self.now.records.now) in
    let inside : c.loop-row.row < t.rows = omega (arith, c.loop-row-test.true, c.count_rows-row-end.ensures) in
    sym (c.loop-row.invariant ∙ failed_row (owner_passes g.T.CellTest.test t) t.rows t.columns c.loop-row.row c.in-Some.failing inside (sym c.failing_in_row.ensures ∙ c.in-Some.is))

pub loop-row-preserved : goal.loop-row-preserved
loop-row-preserved g c =
    let t = table_of c.args.self.now.config.now (g.D.Dimension.width c.args.self.now.dimension.now) (g.D.Dimension.height c.args.self.now.dimension.now) (g.R.Records.texts c.args.self.now.records.now) (g.R.Records.columns c.args.self.now.records.now) in
    let inside : c.loop-row.row < t.rows = omega (arith, c.loop-row-test.true, c.count_rows-row-end.ensures) in
    c.loop-row.invariant ∙ next_row (owner_passes g.T.CellTest.test t) t.rows t.columns c.loop-row.row inside (sym c.failing_in_row.ensures ∙ c.in_default.is)

pub returns : goal.returns
returns g c =
    let t = table_of c.args.self.now.config.now (g.D.Dimension.width c.args.self.now.dimension.now) (g.D.Dimension.height c.args.self.now.dimension.now) (g.R.Records.texts c.args.self.now.records.now) (g.R.Records.columns c.args.self.now.records.now) in
    let past : t.rows ≤ c.loop-row.row = omega (arith, c.loop-row-test.false, c.count_rows-row-end.ensures) in
    sym (c.loop-row.invariant ∙ ap (λ ps. first_failed (owner_passes g.T.CellTest.test t) ps) (places_from-end t.rows t.columns c.loop-row.row past))

use Rattle.std.proofs.Common.{Some, ◌≡◌, ◌<◌, ◌≤◌, true, false, refl, sym, ap, ◌∙◌, subst, arith}
use Rattle.pg_layout.specs.declared.position.Position.{Position}
use Rattle.pg_layout.specs.Position.{at}
use Rattle.pg_config.specs.Spans.{is_left, left_span}
use Rattle.pg_picture.specs.Sizes.{table_of}
use Rattle.pg_picture.specs.Inside.{first_failed, owner_passes, columns_or_one}
use Rattle.pg_picture.proofs.FittingTables.{totals_facts}
use Rattle.pg_picture.proofs.FirstPlaces.{step-some, step-inside, step-left, failed_place, next_left_column, row_places-end}
use Rattle.pg_picture.proofs.OwnersOfPlaces.{InOrder, first_left}
use Rattle.pg_picture.proofs.sized_table.SizedTable.failing_in_row.Goals as goal

pub loop-column-init : goal.loop-column-init
loop-column-init g c =
    let t = table_of c.args.self.now.config.now (g.D.Dimension.width c.args.self.now.dimension.now) (g.D.Dimension.height c.args.self.now.dimension.now) (g.R.Records.texts c.args.self.now.records.now) (g.R.Records.columns c.args.self.now.records.now) in
    let order : InOrder t.config.spans t.rows t.columns = record { ascending = c.spans-spans.ensures.ascending; fit = c.args.self.now.spans } in
    record {
      passed = refl;
      left = first_left t.config.spans t.rows t.columns order c.args.row;
      inside = omega arith;
    }

pub owner_passes-requires-clause-left : goal.owner_passes-requires-clause-left
owner_passes-requires-clause-left g c = ap (λ (p : Position). is_left c.args.self.now.config.now.spans p.row p.col) c.new-pos.ensures ∙ c.loop-column.invariant.left

pub returns-then-not-owner_passes : goal.returns-then-not-owner_passes
returns-then-not-owner_passes g c =
    let t = table_of c.args.self.now.config.now (g.D.Dimension.width c.args.self.now.dimension.now) (g.D.Dimension.height c.args.self.now.dimension.now) (g.R.Records.texts c.args.self.now.records.now) (g.R.Records.columns c.args.self.now.records.now) in
    let here : c.loop-column.column < t.columns = omega (arith, c.loop-column-test.true, c.count_columns-columns.ensures.value) in
    let bad : owner_passes g.T.CellTest.test t (at c.args.row c.loop-column.column) ≡ false = subst (λ (p : Position). owner_passes g.T.CellTest.test t p ≡ false) c.new-pos.ensures (sym c.owner_passes.ensures ∙ c.if-not-owner_passes.true) in
    ap (λ (p : Position). Some p) c.new-pos.ensures ∙ sym (c.loop-column.invariant.passed ∙ failed_place (owner_passes g.T.CellTest.test t) t.columns c.args.row c.loop-column.column here bad)

pub overflow_add-column : goal.overflow_add-column
overflow_add-column g c =
    let t = table_of c.args.self.now.config.now (g.D.Dimension.width c.args.self.now.dimension.now) (g.D.Dimension.height c.args.self.now.dimension.now) (g.R.Records.texts c.args.self.now.records.now) (g.R.Records.columns c.args.self.now.records.now) in
    let order : InOrder t.config.spans t.rows t.columns = record { ascending = c.spans-spans.ensures.ascending; fit = c.args.self.now.spans } in
    let here : c.loop-column.column < t.columns = omega (arith, c.loop-column-test.true, c.count_columns-columns.ensures.value) in
    let width : c.columns_of-column.result ≡ columns_or_one (left_span t.config.spans c.args.row c.loop-column.column) = c.columns_of-column.ensures ∙ ap columns_or_one (c.left_span-span.ensures ∙ ap (λ (p : Position). left_span t.config.spans p.row p.col) c.new-pos.ensures) in
    omega (arith, step-inside t.config.spans t.rows t.columns order c.args.row c.loop-column.column c.columns_of-column.result width c.loop-column.invariant.left here, (totals_facts t c.args.self.now.totals).columns)

pub loop-column-preserved : goal.loop-column-preserved
loop-column-preserved g c =
    let t = table_of c.args.self.now.config.now (g.D.Dimension.width c.args.self.now.dimension.now) (g.D.Dimension.height c.args.self.now.dimension.now) (g.R.Records.texts c.args.self.now.records.now) (g.R.Records.columns c.args.self.now.records.now) in
    let order : InOrder t.config.spans t.rows t.columns = record { ascending = c.spans-spans.ensures.ascending; fit = c.args.self.now.spans } in
    let here : c.loop-column.column < t.columns = omega (arith, c.loop-column-test.true, c.count_columns-columns.ensures.value) in
    let width : c.columns_of-column.result ≡ columns_or_one (left_span t.config.spans c.args.row c.loop-column.column) = c.columns_of-column.ensures ∙ ap columns_or_one (c.left_span-span.ensures ∙ ap (λ (p : Position). left_span t.config.spans p.row p.col) c.new-pos.ensures) in
    let good : owner_passes g.T.CellTest.test t (at c.args.row c.loop-column.column) ≡ true = subst (λ (p : Position). owner_passes g.T.CellTest.test t p ≡ true) c.new-pos.ensures (sym c.owner_passes.ensures ∙ c.if-not-owner_passes.false) in
    record {
      passed = c.loop-column.invariant.passed ∙ next_left_column g.T.CellTest.test t order c.args.row c.loop-column.column c.columns_of-column.result width c.loop-column.invariant.left here good;
      left = step-left t.config.spans t.rows t.columns order c.args.row c.loop-column.column c.columns_of-column.result width c.loop-column.invariant.left here;
      inside = step-inside t.config.spans t.rows t.columns order c.args.row c.loop-column.column c.columns_of-column.result width c.loop-column.invariant.left here;
    }

pub loop-column-smaller : goal.loop-column-smaller
loop-column-smaller g c =
    let t = table_of c.args.self.now.config.now (g.D.Dimension.width c.args.self.now.dimension.now) (g.D.Dimension.height c.args.self.now.dimension.now) (g.R.Records.texts c.args.self.now.records.now) (g.R.Records.columns c.args.self.now.records.now) in
    let order : InOrder t.config.spans t.rows t.columns = record { ascending = c.spans-spans.ensures.ascending; fit = c.args.self.now.spans } in
    let here : c.loop-column.column < t.columns = omega (arith, c.loop-column-test.true, c.count_columns-columns.ensures.value) in
    let width : c.columns_of-column.result ≡ columns_or_one (left_span t.config.spans c.args.row c.loop-column.column) = c.columns_of-column.ensures ∙ ap columns_or_one (c.left_span-span.ensures ∙ ap (λ (p : Position). left_span t.config.spans p.row p.col) c.new-pos.ensures) in
    omega (arith, here, step-some t.config.spans t.rows t.columns order c.args.row c.loop-column.column c.columns_of-column.result width c.loop-column.invariant.left here)

pub returns : goal.returns
returns g c =
    let t = table_of c.args.self.now.config.now (g.D.Dimension.width c.args.self.now.dimension.now) (g.D.Dimension.height c.args.self.now.dimension.now) (g.R.Records.texts c.args.self.now.records.now) (g.R.Records.columns c.args.self.now.records.now) in
    let past : t.columns ≤ c.loop-column.column = omega (arith, c.loop-column-test.false, c.count_columns-columns.ensures.value) in
    sym (c.loop-column.invariant.passed ∙ ap (λ ps. first_failed (owner_passes g.T.CellTest.test t) ps) (row_places-end t.columns c.args.row c.loop-column.column past))

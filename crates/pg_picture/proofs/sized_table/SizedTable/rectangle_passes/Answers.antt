use Rattle.std.proofs.Common.{◌≡◌, ◌+◌, ◌^◌, nat_lt, None, if◌then◌else◌, refl, sym, ap, ◌∙◌, arith}
use Rattle.pg_config.specs.declared.spans.SpanSize.{SpanSize}
use Rattle.pg_config.specs.Spans.{rect_rows, rect_columns}
use Rattle.pg_picture.specs.Pieces.{style_at}
use Rattle.pg_picture.specs.Sizes.{table_of, sized, if_fits, height_of_rect}
use Rattle.pg_picture.specs.Table.{rect_width, rect_height}
use Rattle.pg_picture.proofs.FittingTables.{rect_inside, width_answer, height_answer, some_is, none_is}
use Rattle.pg_picture.proofs.sized_table.SizedTable.rectangle_passes.Goals as goal

pub width_of_columns-width-requires-clause-some : goal.width_of_columns-width-requires-clause-some
width_of_columns-width-requires-clause-some g c =
    let t = table_of c.args.self.now.config.now (g.D.Dimension.width c.args.self.now.dimension.now) (g.D.Dimension.height c.args.self.now.dimension.now) (g.R.Records.texts c.args.self.now.records.now) (g.R.Records.columns c.args.self.now.records.now) in
    (rect_inside t.config.spans t.rows t.columns c.args.pos c.args.self.now.spans c.requires.row c.requires.column).some_columns

pub width_of_columns-width-requires-clause-inside : goal.width_of_columns-width-requires-clause-inside
width_of_columns-width-requires-clause-inside g c =
    let t = table_of c.args.self.now.config.now (g.D.Dimension.width c.args.self.now.dimension.now) (g.D.Dimension.height c.args.self.now.dimension.now) (g.R.Records.texts c.args.self.now.records.now) (g.R.Records.columns c.args.self.now.records.now) in
    omega (arith, (rect_inside t.config.spans t.rows t.columns c.args.pos c.args.self.now.spans c.requires.row c.requires.column).columns_end, c.count_columns-columns.ensures.value)

pub height_of_rows-height-requires-clause-some : goal.height_of_rows-height-requires-clause-some
height_of_rows-height-requires-clause-some g c =
    let t = table_of c.args.self.now.config.now (g.D.Dimension.width c.args.self.now.dimension.now) (g.D.Dimension.height c.args.self.now.dimension.now) (g.R.Records.texts c.args.self.now.records.now) (g.R.Records.columns c.args.self.now.records.now) in
    (rect_inside t.config.spans t.rows t.columns c.args.pos c.args.self.now.spans c.requires.row c.requires.column).some_rows

pub width_of_columns-width-requires-clause-count : goal.width_of_columns-width-requires-clause-count
unfolding rect_columns
width_of_columns-width-requires-clause-count g c = sym (ap (λ (n : SpanSize). n.columns) c.requires.size)

pub height_of_rows-height-requires-clause-count : goal.height_of_rows-height-requires-clause-count
unfolding rect_rows
height_of_rows-height-requires-clause-count g c = sym (ap (λ (n : SpanSize). n.rows) c.requires.size)

pub returns-in-Some-Some : goal.returns-in-Some-Some
unfolding rect_width
returns-in-Some-Some g c =
    let t = table_of c.args.self.now.config.now (g.D.Dimension.width c.args.self.now.dimension.now) (g.D.Dimension.height c.args.self.now.dimension.now) (g.R.Records.texts c.args.self.now.records.now) (g.R.Records.columns c.args.self.now.records.now) in
    let inside = rect_inside t.config.spans t.rows t.columns c.args.pos c.args.self.now.spans c.requires.row c.requires.column in
    let w0 : c.width_of_columns-width.result ≡ if_fits (rect_width (sized t.config t.width t.height t.rows c.count_columns-columns.result) c.args.pos) = c.width_of_columns-width.ensures t.rows in
    let w1 : c.width_of_columns-width.result ≡ if_fits (rect_width t c.args.pos) = (rw c.count_columns-columns.ensures.value at w0) in
    let h1 : c.height_of_rows-height.result ≡ (if nat_lt (c.args.pos.row + rect_rows t.config.spans c.args.pos) (2 ^ 64) then if_fits (height_of_rect t.config t.height c.args.pos) else None) = c.height_of_rows-height.ensures in
    let wide = some_is c.in-Some-Some.width (rect_width t c.args.pos) (sym c.in-Some-Some.is-0 ∙ w1 ∙ width_answer t c.args.pos c.args.self.now.totals inside) in
    let high = some_is c.in-Some-Some.height (rect_height t c.args.pos) (sym c.in-Some-Some.is-1 ∙ h1 ∙ height_answer t c.args.pos c.args.self.now.totals inside) in
    let same : g.T.CellTest.test (style_at t.config c.args.pos) c.get_text.result.now c.in-Some-Some.width c.in-Some-Some.height ≡ g.T.CellTest.test (style_at t.config c.args.pos) (t.text c.args.pos) (rect_width t c.args.pos) (rect_height t c.args.pos) = rw (c.get_text.ensures, wide, high) refl in
    c.passes.ensures ∙ same

pub returns-in_default : goal.returns-in_default
returns-in_default g c =
    let t = table_of c.args.self.now.config.now (g.D.Dimension.width c.args.self.now.dimension.now) (g.D.Dimension.height c.args.self.now.dimension.now) (g.R.Records.texts c.args.self.now.records.now) (g.R.Records.columns c.args.self.now.records.now) in
    let inside = rect_inside t.config.spans t.rows t.columns c.args.pos c.args.self.now.spans c.requires.row c.requires.column in
    let h1 : c.height_of_rows-height.result ≡ (if nat_lt (c.args.pos.row + rect_rows t.config.spans c.args.pos) (2 ^ 64) then if_fits (height_of_rect t.config t.height c.args.pos) else None) = c.height_of_rows-height.ensures in
    absurd (none_is (rect_height t c.args.pos) (sym c.in_default.is-1 ∙ h1 ∙ height_answer t c.args.pos c.args.self.now.totals inside))

pub returns-in_default-2 : goal.returns-in_default-2
unfolding rect_width
returns-in_default-2 g c =
    let t = table_of c.args.self.now.config.now (g.D.Dimension.width c.args.self.now.dimension.now) (g.D.Dimension.height c.args.self.now.dimension.now) (g.R.Records.texts c.args.self.now.records.now) (g.R.Records.columns c.args.self.now.records.now) in
    let inside = rect_inside t.config.spans t.rows t.columns c.args.pos c.args.self.now.spans c.requires.row c.requires.column in
    let w0 : c.width_of_columns-width.result ≡ if_fits (rect_width (sized t.config t.width t.height t.rows c.count_columns-columns.result) c.args.pos) = c.width_of_columns-width.ensures t.rows in
    let w1 : c.width_of_columns-width.result ≡ if_fits (rect_width t c.args.pos) = (rw c.count_columns-columns.ensures.value at w0) in
    absurd (none_is (rect_width t c.args.pos) (sym c.in_default.is-0 ∙ w1 ∙ width_answer t c.args.pos c.args.self.now.totals inside))

use Rattle.std.proofs.Common.{◌≡◌, true, false, Some, None, refl, sym, ◌∙◌}
use Rattle.pg_config.specs.Spans.{left_span}
use Rattle.pg_picture.specs.Sizes.{table_of}
use Rattle.pg_picture.specs.Pieces.{style_at}
use Rattle.pg_picture.specs.Table.{rect_width, rect_height}
use Rattle.pg_picture.proofs.DrawnRectangles.{single_width, single_height}
use Rattle.pg_picture.proofs.FirstPlaces.{owner_passes-own, owner_passes-other, own_unless, own_size}
use Rattle.pg_picture.proofs.OwnersOfPlaces.{InOrder, size_alone}
use Rattle.pg_picture.proofs.sized_table.SizedTable.owner_passes.Goals as goal

pub returns-then-begins_above : goal.returns-then-begins_above
returns-then-begins_above g c =
    let t = table_of c.args.self.now.config.now (g.D.Dimension.width c.args.self.now.dimension.now) (g.D.Dimension.height c.args.self.now.dimension.now) (g.R.Records.texts c.args.self.now.records.now) (g.R.Records.columns c.args.self.now.records.now) in
    let order : InOrder t.config.spans t.rows t.columns = record { ascending = c.spans-spans.ensures.ascending; fit = c.args.self.now.spans } in
    let other = own_unless t.config.spans t.rows t.columns order c.args.pos.row c.args.pos.col (Some c.in-Some.found) c.begins_above.result true c.requires.left (sym c.in-Some.is ∙ c.requires.span) c.begins_above.ensures c.if-begins_above.true in
    c.if-begins_above.true ∙ sym (owner_passes-other g.T.CellTest.test t c.args.pos.row c.args.pos.col other)

pub rectangle_passes-requires-clause-size : goal.rectangle_passes-requires-clause-size
rectangle_passes-requires-clause-size g c =
    let t = table_of c.args.self.now.config.now (g.D.Dimension.width c.args.self.now.dimension.now) (g.D.Dimension.height c.args.self.now.dimension.now) (g.R.Records.texts c.args.self.now.records.now) (g.R.Records.columns c.args.self.now.records.now) in
    let order : InOrder t.config.spans t.rows t.columns = record { ascending = c.spans-spans.ensures.ascending; fit = c.args.self.now.spans } in
    let own = own_unless t.config.spans t.rows t.columns order c.args.pos.row c.args.pos.col (Some c.in-Some.found) c.begins_above.result false c.requires.left (sym c.in-Some.is ∙ c.requires.span) c.begins_above.ensures c.if-begins_above.false in
    own_size t.config.spans t.rows t.columns order c.args.pos c.in-Some.found (sym c.requires.span ∙ c.in-Some.is) own

pub returns-else-begins_above : goal.returns-else-begins_above
returns-else-begins_above g c =
    let t = table_of c.args.self.now.config.now (g.D.Dimension.width c.args.self.now.dimension.now) (g.D.Dimension.height c.args.self.now.dimension.now) (g.R.Records.texts c.args.self.now.records.now) (g.R.Records.columns c.args.self.now.records.now) in
    let order : InOrder t.config.spans t.rows t.columns = record { ascending = c.spans-spans.ensures.ascending; fit = c.args.self.now.spans } in
    let own = own_unless t.config.spans t.rows t.columns order c.args.pos.row c.args.pos.col (Some c.in-Some.found) c.begins_above.result false c.requires.left (sym c.in-Some.is ∙ c.requires.span) c.begins_above.ensures c.if-begins_above.false in
    c.rectangle_passes.ensures ∙ sym (owner_passes-own g.T.CellTest.test t c.args.pos own)

pub returns-in-None : goal.returns-in-None
returns-in-None g c =
    let t = table_of c.args.self.now.config.now (g.D.Dimension.width c.args.self.now.dimension.now) (g.D.Dimension.height c.args.self.now.dimension.now) (g.R.Records.texts c.args.self.now.records.now) (g.R.Records.columns c.args.self.now.records.now) in
    let order : InOrder t.config.spans t.rows t.columns = record { ascending = c.spans-spans.ensures.ascending; fit = c.args.self.now.spans } in
    let p = c.args.pos in
    let none : left_span t.config.spans p.row p.col ≡ None = sym c.requires.span ∙ c.in-None.is in
    let own = own_unless t.config.spans t.rows t.columns order p.row p.col None false false c.requires.left (sym none) refl refl in
    let one = size_alone t.config.spans t.rows t.columns order p.row p.col none in
    let width = c.get_width.ensures ∙ sym (single_width t p.row p.col one) in
    let height = c.get_height.ensures ∙ sym (single_height t p.row p.col one c.requires.row) in
    let same : g.T.CellTest.test (style_at c.args.self.now.config.now p) c.get_text.result.now c.get_width.result c.get_height.result ≡ g.T.CellTest.test (style_at c.args.self.now.config.now p) (t.text p) (rect_width t p) (rect_height t p) = rw (c.get_text.ensures, width, height) refl in
    c.passes.ensures ∙ same ∙ sym (owner_passes-own g.T.CellTest.test t p own)

use Rattle.std.proofs.Common.{◌≡◌, ◌≤◌, true, Some, [], map, refl, sym, ap, ◌∙◌, subst, arith}
use Rattle.std.proofs.lemmas.List.{get_or-map}
use Rattle.pg_layout.specs.declared.position.Position.{Position}
use Rattle.pg_layout.specs.Position.{at, is_at}
use Rattle.pg_config.specs.Spans.{is_left, left_span, owner}
use Rattle.pg_picture.specs.Inside.{columns_or_one, first_failed}
use Rattle.pg_picture.specs.Grids.{bare_table}
use Rattle.pg_picture.proofs.FirstPlaces.{failed_place, row_places-end, step-some, step-inside, step-left}
use Rattle.pg_picture.proofs.OwnersOfPlaces.{first_left}
use Rattle.pg_stream.specs.Conditions.{HasRoom}
use Rattle.pg_stream.specs.ShownRows.{row_cell_shows_all}
use Rattle.pg_stream.proofs.printer.MakingPrinters.{last_end, in_order, next_left_column, first_in_row}
use Rattle.pg_stream.proofs.printer.frame.Frame.first_unshown.Goals as goal

pub loop-column-init : goal.loop-column-init
loop-column-init g c =
    record {
      shown = refl;
      left = first_left c.args.self.now.sheet.config.now.spans (last_end c.args.self.now.sheet.config.now.spans) c.args.self.now.sheet.columns (in_order c.args.self.now.sheet.config.now.spans c.args.self.now.sheet.columns c.spans-spans.ensures.ascending c.requires.spans) c.args.row;
      inside = omega arith;
    }

pub shows_all_if_own-requires-clause-left : goal.shows_all_if_own-requires-clause-left
shows_all_if_own-requires-clause-left g c = ap (λ (p : Position). is_left c.args.self.now.sheet.config.now.spans p.row p.col) c.new-pos.ensures ∙ c.loop-column.invariant.left

pub shows_all_if_own-requires-clause-room : goal.shows_all_if_own-requires-clause-room
shows_all_if_own-requires-clause-room g c = λ own.
    let spans = c.args.self.now.sheet.config.now.spans in
    let t = bare_table g.D.Dimension.width g.D.Dimension.height g.C.Colors.color c.args.self.now.sheet in
    let x = c.loop-column.column in
    let text = c.as_str.ensures ∙ ap g.S.AsStr.text c.index-cells-column.is ∙ sym (get_or-map g.S.AsStr.text c.args.cells.now x c.index-cells-column.result [] (omega (arith, c.loop-column-test.true, c.requires.whole))) in
    let here : is_at (owner spans c.args.row x) c.args.row x ≡ true = subst (λ (p : Position). is_at (owner spans p.row p.col) p.row p.col ≡ true) c.new-pos.ensures own in
    subst (λ (p : Position). HasRoom t p c.as_str.result.now) (sym c.new-pos.ensures) (subst (HasRoom t (at c.args.row x)) (sym text) (c.requires.rooms x c.loop-column-test.true here))

pub returns-then-not-shows_all_if_own : goal.returns-then-not-shows_all_if_own
returns-then-not-shows_all_if_own g c =
    let t = bare_table g.D.Dimension.width g.D.Dimension.height g.C.Colors.color c.args.self.now.sheet in
    let x = c.loop-column.column in
    let texts = map g.S.AsStr.text c.args.cells.now in
    let text = c.as_str.ensures ∙ ap g.S.AsStr.text c.index-cells-column.is ∙ sym (get_or-map g.S.AsStr.text c.args.cells.now x c.index-cells-column.result [] (omega (arith, c.loop-column-test.true, c.requires.whole))) in
    let asked : row_cell_shows_all t texts (at c.args.row x) ≡ c.shows_all_if_own.result = sym (rw (c.new-pos.ensures, text) at c.shows_all_if_own.ensures) in
    ap (λ (p : Position). Some p) c.new-pos.ensures
    ∙ sym (c.loop-column.invariant.shown ∙ failed_place (row_cell_shows_all t texts) t.columns c.args.row x c.loop-column-test.true (asked ∙ c.if-not-shows_all_if_own.true))
    ∙ first_in_row t texts c.args.row

pub overflow_add-column : goal.overflow_add-column
overflow_add-column g c =
    let spans = c.args.self.now.sheet.config.now.spans in
    let order = in_order spans c.args.self.now.sheet.columns c.spans-spans.ensures.ascending c.requires.spans in
    let width = c.columns_of-column.ensures ∙ ap columns_or_one (c.left_span-span.ensures ∙ ap (λ (p : Position). left_span spans p.row p.col) c.new-pos.ensures) in
    omega (arith, c.requires.whole, step-inside spans (last_end spans) c.args.self.now.sheet.columns order c.args.row c.loop-column.column c.columns_of-column.result width c.loop-column.invariant.left c.loop-column-test.true)

pub loop-column-preserved : goal.loop-column-preserved
loop-column-preserved g c =
    let spans = c.args.self.now.sheet.config.now.spans in
    let order = in_order spans c.args.self.now.sheet.columns c.spans-spans.ensures.ascending c.requires.spans in
    let t = bare_table g.D.Dimension.width g.D.Dimension.height g.C.Colors.color c.args.self.now.sheet in
    let x = c.loop-column.column in
    let texts = map g.S.AsStr.text c.args.cells.now in
    let width = c.columns_of-column.ensures ∙ ap columns_or_one (c.left_span-span.ensures ∙ ap (λ (p : Position). left_span spans p.row p.col) c.new-pos.ensures) in
    let text = c.as_str.ensures ∙ ap g.S.AsStr.text c.index-cells-column.is ∙ sym (get_or-map g.S.AsStr.text c.args.cells.now x c.index-cells-column.result [] (omega (arith, c.loop-column-test.true, c.requires.whole))) in
    let asked : row_cell_shows_all t texts (at c.args.row x) ≡ c.shows_all_if_own.result = sym (rw (c.new-pos.ensures, text) at c.shows_all_if_own.ensures) in
    record {
      shown = c.loop-column.invariant.shown ∙ next_left_column t texts (last_end spans) order c.args.row x c.columns_of-column.result width c.loop-column.invariant.left c.loop-column-test.true (asked ∙ c.if-not-shows_all_if_own.false);
      left = step-left spans (last_end spans) c.args.self.now.sheet.columns order c.args.row x c.columns_of-column.result width c.loop-column.invariant.left c.loop-column-test.true;
      inside = step-inside spans (last_end spans) c.args.self.now.sheet.columns order c.args.row x c.columns_of-column.result width c.loop-column.invariant.left c.loop-column-test.true;
    }

pub loop-column-smaller : goal.loop-column-smaller
loop-column-smaller g c =
    let spans = c.args.self.now.sheet.config.now.spans in
    let order = in_order spans c.args.self.now.sheet.columns c.spans-spans.ensures.ascending c.requires.spans in
    let width = c.columns_of-column.ensures ∙ ap columns_or_one (c.left_span-span.ensures ∙ ap (λ (p : Position). left_span spans p.row p.col) c.new-pos.ensures) in
    omega (arith, c.loop-column-test.true, step-some spans (last_end spans) c.args.self.now.sheet.columns order c.args.row c.loop-column.column c.columns_of-column.result width c.loop-column.invariant.left c.loop-column-test.true)

pub returns : goal.returns
returns g c =
    let t = bare_table g.D.Dimension.width g.D.Dimension.height g.C.Colors.color c.args.self.now.sheet in
    let texts = map g.S.AsStr.text c.args.cells.now in
    let past : t.columns ≤ c.loop-column.column = omega (arith, c.loop-column-test.false) in
    sym (c.loop-column.invariant.shown ∙ ap (λ ps. first_failed (row_cell_shows_all t texts) ps) (row_places-end t.columns c.args.row c.loop-column.column past))
    ∙ first_in_row t texts c.args.row

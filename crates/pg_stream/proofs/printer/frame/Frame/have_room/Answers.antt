use Rattle.std.proofs.Common.{◌≡◌, true, [], map, refl, sym, ap, ◌∙◌, subst, arith, slice_index_or}
use Rattle.std.proofs.lemmas.List.{get_or-map}
use Rattle.pg_layout.specs.declared.position.Position.{Position}
use Rattle.pg_layout.specs.Position.{at, is_at}
use Rattle.pg_config.specs.Spans.{is_left, left_span, owner}
use Rattle.pg_picture.specs.Inside.{columns_or_one}
use Rattle.pg_picture.specs.Grids.{bare_table}
use Rattle.pg_stream.specs.Conditions.{HasRoom}
use Rattle.pg_picture.proofs.FirstPlaces.{step-some, step-inside, step-left, step-all}
use Rattle.pg_picture.proofs.OwnersOfPlaces.{first_left}
use Rattle.pg_stream.proofs.printer.MakingPrinters.{last_end, in_order}
use Rattle.pg_stream.proofs.printer.frame.Frame.have_room.Goals as goal

pub loop-column-init : goal.loop-column-init
loop-column-init g c =
    record {
      rooms = λ x h own. absurd (omega (arith, h));
      left = first_left c.args.self.now.sheet.config.now.spans (last_end c.args.self.now.sheet.config.now.spans) c.args.self.now.sheet.columns (in_order c.args.self.now.sheet.config.now.spans c.args.self.now.sheet.columns c.spans-spans.ensures.ascending c.requires.spans) c.args.row;
      inside = omega arith;
    }

pub has_room_if_own-requires-clause-left : goal.has_room_if_own-requires-clause-left
has_room_if_own-requires-clause-left g c = ap (λ (p : Position). is_left c.args.self.now.sheet.config.now.spans p.row p.col) c.new-pos.ensures ∙ c.loop-column.invariant.left

pub overflow_add-column : goal.overflow_add-column
overflow_add-column g c =
    let spans = c.args.self.now.sheet.config.now.spans in
    let order = in_order spans c.args.self.now.sheet.columns c.spans-spans.ensures.ascending c.requires.spans in
    let width = c.columns_of-column.ensures ∙ ap columns_or_one (c.left_span-span.ensures ∙ ap (λ (p : Position). left_span spans p.row p.col) c.new-pos.ensures) in
    omega (arith, c.requires.whole, step-inside spans (last_end spans) c.args.self.now.sheet.columns order c.args.row c.loop-column.column c.columns_of-column.result width c.loop-column.invariant.left c.loop-column-test.true)

pub loop-column-preserved : goal.loop-column-preserved
loop-column-preserved g c =
    let spans = c.args.self.now.sheet.config.now.spans in
    let order = in_order spans c.args.self.now.sheet.columns c.spans-spans.ensures.ascending c.requires.spans in
    let t = bare_table g.D.Dimension.width g.D.Dimension.height g.C.Colors.color c.args.self.now.sheet in
    let x = c.loop-column.column in
    let texts = map g.S.AsStr.text c.args.cells.now in
    let width = c.columns_of-column.ensures ∙ ap columns_or_one (c.left_span-span.ensures ∙ ap (λ (p : Position). left_span spans p.row p.col) c.new-pos.ensures) in
    let text = c.as_str.ensures ∙ ap g.S.AsStr.text c.index-cells-column.is ∙ sym (get_or-map g.S.AsStr.text c.args.cells.now x c.index-cells-column.result [] (omega (arith, c.loop-column-test.true, c.requires.whole))) in
    let room : is_at (owner spans c.args.row x) c.args.row x ≡ true → HasRoom t (at c.args.row x) (slice_index_or texts x []) = λ own. subst (HasRoom t (at c.args.row x)) text (subst (λ (p : Position). HasRoom t p c.as_str.result.now) c.new-pos.ensures (c.has_room_if_own.ensures.0 c.if-not-has_room_if_own.false (subst (λ (p : Position). is_at (owner spans p.row p.col) p.row p.col ≡ true) (sym c.new-pos.ensures) own))) in
    record {
      rooms = step-all spans (last_end spans) c.args.self.now.sheet.columns order c.args.row x c.columns_of-column.result width c.loop-column.invariant.left c.loop-column-test.true (λ y. HasRoom t (at c.args.row y) (slice_index_or texts y [])) c.loop-column.invariant.rooms room;
      left = step-left spans (last_end spans) c.args.self.now.sheet.columns order c.args.row x c.columns_of-column.result width c.loop-column.invariant.left c.loop-column-test.true;
      inside = step-inside spans (last_end spans) c.args.self.now.sheet.columns order c.args.row x c.columns_of-column.result width c.loop-column.invariant.left c.loop-column-test.true;
    }

pub loop-column-smaller : goal.loop-column-smaller
loop-column-smaller g c =
    let spans = c.args.self.now.sheet.config.now.spans in
    let order = in_order spans c.args.self.now.sheet.columns c.spans-spans.ensures.ascending c.requires.spans in
    let width = c.columns_of-column.ensures ∙ ap columns_or_one (c.left_span-span.ensures ∙ ap (λ (p : Position). left_span spans p.row p.col) c.new-pos.ensures) in
    omega (arith, c.loop-column-test.true, step-some spans (last_end spans) c.args.self.now.sheet.columns order c.args.row c.loop-column.column c.columns_of-column.result width c.loop-column.invariant.left c.loop-column-test.true)

pub returns : goal.returns
returns g c =
    (λ all x h. c.loop-column.invariant.rooms x (omega (arith, h, c.loop-column-test.false)), λ rooms. refl)

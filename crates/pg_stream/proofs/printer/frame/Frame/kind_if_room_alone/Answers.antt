use Rattle.std.proofs.Common.{◌≡◌, true, [], map, refl, sym, ap, ◌∙◌, subst, arith, slice_index_or, is_some}
use Rattle.std.proofs.lemmas.Bool.{false≢true}
use Rattle.std.proofs.lemmas.List.{get_or-map}
use Rattle.pg_layout.specs.Position.{at}
use Rattle.pg_layout.specs.Text.{Text}
use Rattle.pg_picture.specs.Inside.{IsOfKind}
use Rattle.pg_picture.specs.Grids.{bare_table}
use Rattle.pg_stream.specs.Conditions.{HasRoom}
use Rattle.pg_stream.proofs.draw.SingleLines.{fits-in, own-plain, plain-room-from, plain-room-fits, up-to}
use Rattle.pg_stream.proofs.printer.frame.Frame.kind_if_room_alone.Goals as goal

pub loop-column-preserved : goal.loop-column-preserved
loop-column-preserved g c =
    let t = bare_table g.D.Dimension.width g.D.Dimension.height g.C.Colors.color c.args.self.now.sheet in
    let x = c.loop-column.column in
    let texts = map g.S.AsStr.text c.args.cells.now in
    let text = c.as_str-text.ensures ∙ ap g.S.AsStr.text c.index-cells-column.is ∙ sym (get_or-map g.S.AsStr.text c.args.cells.now x c.index-cells-column.result [] (omega (arith, c.loop-column-test.true, c.requires.whole))) in
    let fits = fits-in t c.args.row x c.as_str-text.result.now c.new-pos.result c.new-pos.ensures c.get_width-width.result c.get_width-width.ensures c.get_height-height.result c.get_height-height.ensures in
    let has : is_some c.kind_if_cell_fits.result ≡ true = ap is_some c.in-Some.is in
    let room = plain-room-from t c.requires.alone c.args.row x c.as_str-text.result.now c.requires.row (omega (arith, c.get_width-width.ensures)) (omega (arith, c.get_height-height.ensures)) (sym fits ∙ sym c.kind_if_cell_fits.ensures.room ∙ has) in
    let common = c.and-common.result in
    up-to (λ y. HasRoom t (at c.args.row y) (slice_index_or texts y []) × IsOfKind common (slice_index_or texts y [])) x
    (λ y h. let before = c.loop-column.invariant y h in (before.0, λ plain. before.1 (c.and-common.ensures.0 plain).0))
    (subst (λ (text : Text). HasRoom t (at c.args.row x) text × IsOfKind common text) text
    (room, λ plain. c.in-Some.ensures.kind (c.and-common.ensures.0 plain).1))

pub returns-in_default-clause-room : goal.returns-in_default-clause-room
returns-in_default-clause-room g c =
    let t = bare_table g.D.Dimension.width g.D.Dimension.height g.C.Colors.color c.args.self.now.sheet in
    let x = c.loop-column.column in
    let texts = map g.S.AsStr.text c.args.cells.now in
    let text = c.as_str-text.ensures ∙ ap g.S.AsStr.text c.index-cells-column.is ∙ sym (get_or-map g.S.AsStr.text c.args.cells.now x c.index-cells-column.result [] (omega (arith, c.loop-column-test.true, c.requires.whole))) in
    let fits = fits-in t c.args.row x c.as_str-text.result.now c.new-pos.result c.new-pos.ensures c.get_width-width.result c.get_width-width.ensures c.get_height-height.result c.get_height-height.ensures in
    (λ no. cc, λ rooms. absurd (false≢true (sym (ap is_some c.in_default.is) ∙ c.kind_if_cell_fits.ensures.room ∙ fits ∙ plain-room-fits t c.requires.alone c.args.row x c.as_str-text.result.now (subst (HasRoom t (at c.args.row x)) (sym text) (rooms x c.loop-column-test.true (own-plain t c.requires.alone c.args.row x))))))

pub returns-clause-room : goal.returns-clause-room
returns-clause-room g c = (λ is x h own. (c.loop-column.invariant x (omega (arith, h, c.loop-column-test.false))).0, λ rooms. refl)

pub returns-clause-kind : goal.returns-clause-kind
returns-clause-kind g c = λ x h. (c.loop-column.invariant x (omega (arith, h, c.loop-column-test.false))).1

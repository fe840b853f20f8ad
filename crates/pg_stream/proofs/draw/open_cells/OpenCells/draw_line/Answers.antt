use Rattle.std.proofs.Common.{◌≡◌, ◌∙◌, ap, sym, length, map, take, arith, subst, Option, IfSome, ◌+◌, ◌<◌, ◌^◌}
use Rattle.std.proofs.lemmas.List.{with_items_is}
use Rattle.std.proofs.Math.Seq.{take-length}
use Rattle.pg_stream.specs.Placed.{Placed, AllOpen}
use Rattle.pg_stream.specs.Inside.{draw_cell}
use Rattle.pg_stream.proofs.draw.OpenLists.{drawn-step, room-at}
use Rattle.pg_stream.proofs.draw.open_cells.OpenCells.draw_line.Goals as goal

pub draw_slot-requires : goal.draw_slot-requires
draw_slot-requires g c =
    subst (λ (o : Option Placed). IfSome o (λ cell. cell.drawn + 1 < 2 ^ 64)) c.slot-item.is (room-at c.deref_mut-slot-items.result.now c.loop-slot.slot-items c.loop-slot.slot-index c.slot-item.result
    (subst (AllOpen (λ x cell. cell.drawn + 1 < 2 ^ 64)) (sym (c.deref_mut-slot-items.ensures.value ∙ c.self.view_is)) c.requires)
    c.loop-slot-test.true (omega (arith, c.loop-slot.auto.slot-items, c.loop-slot-test.true)) c.loop-slot.invariant.0 c.slot-item.is)

pub loop-slot-preserved : goal.loop-slot-preserved
loop-slot-preserved g c =
    drawn-step c.deref_mut-slot-items.result.now c.loop-slot.slot-items c.loop-slot.slot-index c.draw_slot.new.slot c.slot-item.result
    (omega (arith, c.loop-slot.auto.slot-items, c.loop-slot-test.true)) c.loop-slot-test.true c.loop-slot.invariant.0 c.loop-slot.invariant.1 c.draw_slot.ensures

pub returns : goal.returns
returns g c =
    let i : c.loop-slot.slot-index ≡ length c.loop-slot.slot-items = omega (arith, c.loop-slot.auto.slot-items, c.loop-slot.auto.slot-index-end, c.loop-slot-test.false) in
    let j : c.loop-slot.slot-index ≡ length c.deref_mut-slot-items.result.now = omega (arith, c.loop-slot.auto.slot-index-end, c.loop-slot-test.false) in
    with_items_is c.self.inside.slots c.loop-slot.slot-items (omega (arith, c.loop-slot.auto.slot-items, c.deref_mut-slot-items.ensures.len))
    ∙ sym (ap (λ n. take n c.loop-slot.slot-items) i ∙ take-length c.loop-slot.slot-items)
    ∙ c.loop-slot.invariant.1
    ∙ ap (λ l. map (draw_cell 1) l) (ap (λ n. take n c.deref_mut-slot-items.result.now) j ∙ take-length c.deref_mut-slot-items.result.now ∙ c.deref_mut-slot-items.ensures.value ∙ c.self.view_is)

use Rattle.std.proofs.Common.{◌∙◌, ◌++◌, map, append-nil, refl, sym, ap}
use Rattle.std.specs.Cow.{cow_str_bytes}
use Rattle.std.specs.Vec.Iter.{into_iter_items}
use Rattle.std.proofs.lemmas.List.{nil_from_length}
use Rattle.ruled_table.specs.RowLines.{held_text}
use Rattle.ruled_table.proofs.LentTexts.{made_on}
use Rattle.ruled_table.proofs.row_lines.owned.Goals as goal

pub loop-cell-init : goal.loop-cell-init
loop-cell-init c = rw (c.in_ok-texts.ensures.items, c.into_iter-cell-iterator.ensures.into_iter_gives.0) refl

pub loop-cell-preserved : goal.loop-cell-preserved
loop-cell-preserved c =
    rw c.in_ok-push.ensures.items (
    made_on held_text cow_str_bytes c.loop-cell.texts.items c.in_ok-text.text c.in-Some.cell
    (into_iter_items c.loop-cell.cell-iterator) (into_iter_items c.next.new.self) (map cow_str_bytes c.args.cells.items)
    c.in_ok-text.ensures c.in-Some.ensures.steps.0 c.loop-cell.invariant
    )

pub returns : goal.returns
returns c =
    let items = into_iter_items c.loop-cell.cell-iterator in
    let none = nil_from_length items (sym c.loop-cell.cell-iterator.rest.ok.0 ∙ c.in-None.ensures.steps.0) in
    let texts = map held_text c.loop-cell.texts.items in
    sym (append-nil texts) ∙ ap (λ xs. texts ++ map cow_str_bytes xs) (sym none) ∙ c.loop-cell.invariant

use Rattle.std.proofs.Common.{map, slice_index_or, sym, ap, ◌∙◌, arith}
use Rattle.std.specs.Vec.Iter.{into_iter_items}
use Rattle.std.proofs.lemmas.List.{nil_from_length}
use Rattle.pg_fit.specs.Rows.{fitted_text, is_kept, is_narrow}
use Rattle.pg_fit.specs.Wrapping.{wrapped}
use Rattle.pg_fit.proofs.NarrowedWidths.{IsMade-first, IsMade-next, IsMade-all, IsMade-none}
use Rattle.pg_fit.proofs.wrapped_row.wrap_row.Goals as goal

pub loop-cell-init : goal.loop-cell-init
loop-cell-init g c =
    let text = g.S.AsStr.text in
    let widths = c.args.widths.now in
    let row = c.in_ok-row.row.items in
    let left = map text (into_iter_items c.into_iter-cell-iterator.result) in
    let all = ap (map text) c.into_iter-cell-iterator.ensures.into_iter_gives.0 in
    (IsMade-first (fitted_text text) (wrapped c.args.breaking) widths _ row left c.in_ok-row.ensures.items all, IsMade-first is_kept is_narrow widths _ row left c.in_ok-row.ensures.items all)

pub loop-cell-preserved : goal.loop-cell-preserved
loop-cell-preserved g c =
    let text = g.S.AsStr.text in
    let widths = c.args.widths.now in
    let taken = ap (map text) c.in-Some.ensures.steps.0 in
    let room = c.width_of_column-width.ensures ∙ ap (λ n. slice_index_or widths n 0) (omega (arith, c.len.ensures, c.loop-cell.row.ok)) in
    let made = c.in_ok-fitted.ensures.text ∙ ap (λ n. wrapped c.args.breaking n (text c.in-Some.cell)) room in
    let kept = c.in_ok-fitted.ensures.kept ∙ ap (λ n. is_narrow n (text c.in-Some.cell)) room in
    (IsMade-next (fitted_text text) (wrapped c.args.breaking) widths _ c.loop-cell.row.items _ c.in_ok-fitted.fitted _ _ _ c.in_ok-push.ensures.items taken made c.loop-cell.invariant.0, IsMade-next is_kept is_narrow widths _ c.loop-cell.row.items _ c.in_ok-fitted.fitted _ _ _ c.in_ok-push.ensures.items taken kept c.loop-cell.invariant.1)

pub returns-clause-texts : goal.returns-clause-texts
returns-clause-texts g c =
    let text = g.S.AsStr.text in
    let none = nil_from_length (into_iter_items c.loop-cell.cell-iterator) (sym c.loop-cell.cell-iterator.rest.ok.0 ∙ c.in-None.ensures.steps.0) in
    IsMade-all (fitted_text text) (wrapped c.args.breaking) c.args.widths.now _ c.loop-cell.row.items _ (ap (map text) none) c.loop-cell.invariant.0

pub returns-clause-kept : goal.returns-clause-kept
returns-clause-kept g c =
    let text = g.S.AsStr.text in
    let none = nil_from_length (into_iter_items c.loop-cell.cell-iterator) (sym c.loop-cell.cell-iterator.rest.ok.0 ∙ c.in-None.ensures.steps.0) in
    IsMade-all is_kept is_narrow c.args.widths.now _ c.loop-cell.row.items _ (ap (map text) none) c.loop-cell.invariant.1

pub returns-in_err-fitted-clause-nothing : goal.returns-in_err-fitted-clause-nothing
returns-in_err-fitted-clause-nothing g c = λ empty.
    let text = g.S.AsStr.text in
    absurd (omega (arith, IsMade-none is_kept is_narrow c.args.widths.now _ c.loop-cell.row.items _ _ _ (ap (map text) empty) (ap (map text) c.in-Some.ensures.steps.0) c.loop-cell.invariant.1))

pub returns-in_err-push-clause-nothing : goal.returns-in_err-push-clause-nothing
returns-in_err-push-clause-nothing g c = λ empty.
    let text = g.S.AsStr.text in
    absurd (omega (arith, IsMade-none is_kept is_narrow c.args.widths.now _ c.loop-cell.row.items _ _ _ (ap (map text) empty) (ap (map text) c.in-Some.ensures.steps.0) c.loop-cell.invariant.1))

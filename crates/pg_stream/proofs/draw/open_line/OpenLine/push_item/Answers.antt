use Rattle.std.proofs.Common.{◌≡◌, ◌∙◌, sym, ap, slice_index_or, option_map, Some, None}
use Rattle.pg_picture.specs.Inside.{last_color}
use Rattle.pg_picture.proofs.Appending.{◌then◌, stopped, appended-as, refused-as, Appends-text}
use Rattle.pg_stream.specs.Placed.{slot_of}
use Rattle.pg_stream.specs.Inside.{slot_block}
use Rattle.pg_stream.proofs.draw.PartsOfLines.{items_after-block}
use Rattle.pg_stream.proofs.draw.open_line.OpenLine.push_item.Goals as goal

pub returns-in_err-run-clause-appends : goal.returns-in_err-run-clause-appends
returns-in_err-run-clause-appends g c =
    let t = g.T.TableMarker.table in
    let here : slice_index_or c.args.self.now.opened.now c.args.pos.col None ≡ Some c.in-Some.cell.now = sym c.open_at.ensures ∙ ap (λ o. option_map (λ x. x.now) o) c.in-Some.is in
    rw here (Appends-text (items_after-block c.args.run (slot_block t (slot_of (Some c.in-Some.cell.now)) c.args.pos.col)) (stopped _ c.from_residual.ensures.0 c.in_err-run.ensures.appends))

pub returns-in_err-push_cell_line-clause-appends : goal.returns-in_err-push_cell_line-clause-appends
returns-in_err-push_cell_line-clause-appends g c =
    let t = g.T.TableMarker.table in
    let here : slice_index_or c.args.self.now.opened.now c.args.pos.col None ≡ Some c.in-Some.cell.now = sym c.open_at.ensures ∙ ap (λ o. option_map (λ x. x.now) o) c.in-Some.is in
    rw here (Appends-text (items_after-block c.args.run (slot_block t (slot_of (Some c.in-Some.cell.now)) c.args.pos.col)) (c.in_ok-run.ensures.appends then refused-as c.from_residual-in_err-push_cell_line.ensures.0 c.in_err-push_cell_line.ensures))

pub returns-clause-appends : goal.returns-clause-appends
returns-clause-appends g c =
    let t = g.T.TableMarker.table in
    let here : slice_index_or c.args.self.now.opened.now c.args.pos.col None ≡ Some c.in-Some.cell.now = sym c.open_at.ensures ∙ ap (λ o. option_map (λ x. x.now) o) c.in-Some.is in
    rw here (Appends-text (items_after-block c.args.run (slot_block t (slot_of (Some c.in-Some.cell.now)) c.args.pos.col)) (c.in_ok-run.ensures.appends then appended-as c.in_ok-push_cell_line.ensures))

pub returns-clause-color : goal.returns-clause-color
unfolding last_color
returns-clause-color g c =
    let here : slice_index_or c.args.self.now.opened.now c.args.pos.col None ≡ Some c.in-Some.cell.now = sym c.open_at.ensures ∙ ap (λ o. option_map (λ x. x.now) o) c.in-Some.is in
    rw here c.in_ok-run.ensures.color

pub push_cell_line-requires : goal.push_cell_line-requires
push_cell_line-requires g c = record { cell = sym c.open_at.ensures ∙ ap (λ o. option_map (λ x. x.now) o) c.in-Some.is }

use Rattle.std.proofs.Common.{◌≡◌, ◌∙◌, sym, ap, slice_index_or, option_map, Some, None}
use Rattle.pg_picture.proofs.Appending.{◌then◌, stopped, Gained-none, Gained-all, Appends-text}
use Rattle.pg_stream.proofs.draw.PartsOfLines.{part-none, part-some}
use Rattle.pg_stream.proofs.draw.open_line.OpenLine.push_part.Goals as goal

pub returns-in_default : goal.returns-in_default
returns-in_default g c = Appends-text (part-none g.T.TableMarker.table c.args.self.now.opened.now c.args.pos.row c.args.line c.args.pos.col (sym c.open_at.ensures ∙ ap (λ o. option_map (λ x. x.now) o) c.in_default.is)) (Gained-all (Gained-none c.args.buf.now))

pub returns-in_err-push_vertical : goal.returns-in_err-push_vertical
returns-in_err-push_vertical g c =
    let here : slice_index_or c.args.self.now.opened.now c.args.pos.col None ≡ Some c.in-Some.cell.now = sym c.open_at.ensures ∙ ap (λ o. option_map (λ x. x.now) o) c.in-Some.is in
    Appends-text (part-some g.T.TableMarker.table c.args.self.now.opened.now c.args.pos.row c.args.line c.args.pos.col c.in-Some.cell.now here) (stopped _ c.from_residual.ensures.0 c.in_err-push_vertical.ensures)

pub returns : goal.returns
returns g c =
    let here : slice_index_or c.args.self.now.opened.now c.args.pos.col None ≡ Some c.in-Some.cell.now = sym c.open_at.ensures ∙ ap (λ o. option_map (λ x. x.now) o) c.in-Some.is in
    Appends-text (part-some g.T.TableMarker.table c.args.self.now.opened.now c.args.pos.row c.args.line c.args.pos.col c.in-Some.cell.now here) (c.in_ok-push_vertical.ensures then c.push_cell_line.ensures)

pub push_cell_line-requires : goal.push_cell_line-requires
push_cell_line-requires g c = record { cell = sym c.open_at.ensures ∙ ap (λ o. option_map (λ x. x.now) o) c.in-Some.is }

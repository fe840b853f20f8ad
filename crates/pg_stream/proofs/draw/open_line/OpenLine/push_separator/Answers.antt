use Rattle.std.proofs.Common.{refl, ap, ◌∙◌, ◌++◌, None, flat_map}
use Rattle.std.specs.List.{range_with_len}
use Rattle.pg_picture.specs.Pieces.{cut}
use Rattle.pg_picture.specs.Inside.{items_after, last_color}
use Rattle.pg_picture.specs.Table.{crossing_at}
use Rattle.pg_picture.proofs.Appending.{Appends-text, ◌then◌, stopped}
use Rattle.pg_stream.specs.Inside.{open_separator_part}
use Rattle.pg_layout.specs.Position.{at}
use Rattle.pg_stream.proofs.draw.PartsOfLines.{separator-text}
use Rattle.pg_stream.proofs.draw.open_line.OpenLine.push_separator.Goals as goal

pub returns-in_err-run : goal.returns-in_err-run
returns-in_err-run g c =
    let t = g.T.TableMarker.table in
    let so_far = last_color c.new.result (flat_map (open_separator_part t c.args.rows c.args.self.now.opened.now c.args.row) (range_with_len 0 t.columns)) in
    let end = crossing_at t.config c.args.rows t.columns (at c.args.row t.columns) in
    Appends-text (separator-text t c.args.rows c.args.self.now.opened.now c.args.row (at c.args.row t.columns) refl c.new.ensures refl refl)
    (stopped (items_after so_far end ++ cut (last_color so_far end) None) c.from_residual.ensures.0 c.in_err-run.ensures.appends)

pub returns-in_err-run-2 : goal.returns-in_err-run-2
returns-in_err-run-2 g c =
    let t = g.T.TableMarker.table in
    let end = crossing_at t.config c.args.rows t.columns c.new-last.result in
    Appends-text (separator-text t c.args.rows c.args.self.now.opened.now c.args.row c.new-last.result (c.new-last.ensures ∙ ap (λ n. at c.args.row n) c.columns.ensures) c.new.ensures c.in_ok-run.ensures.color refl)
    (c.in_ok-run.ensures.appends then stopped (cut (last_color c.in_ok-run.run' end) None) c.from_residual-in_err-run-2.ensures.0 c.in_err-run-2.ensures.appends)

pub returns : goal.returns
returns g c =
    let t = g.T.TableMarker.table in
    Appends-text (separator-text t c.args.rows c.args.self.now.opened.now c.args.row c.new-last.result (c.new-last.ensures ∙ ap (λ n. at c.args.row n) c.columns.ensures) c.new.ensures c.in_ok-run.ensures.color c.in_ok-run-2.ensures.color)
    (c.in_ok-run.ensures.appends then (c.in_ok-run-2.ensures.appends then c.close.ensures))

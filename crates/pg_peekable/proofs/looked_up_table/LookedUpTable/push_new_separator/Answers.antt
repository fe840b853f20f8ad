use Rattle.std.proofs.Common.{refl, ◌++◌, None, flat_map}
use Rattle.std.specs.List.{range_with_len}
use Rattle.pg_picture.specs.Pieces.{cut}
use Rattle.pg_picture.specs.Inside.{items_after, last_color}
use Rattle.pg_picture.specs.Table.{separator_part}
use Rattle.pg_picture.proofs.Appending.{Appends-text, ◌then◌, stopped}
use Rattle.pg_picture.proofs.Separators.{separator-text_from}
use Rattle.pg_peekable.proofs.looked_up_table.LookedUpTable.push_new_separator.Goals as goal

pub returns-in_err-run : goal.returns-in_err-run
returns-in_err-run g c =
    let t = g.T.TableMarker.table in
    let so_far = last_color c.new.result (flat_map (separator_part t c.args.separator.now.row) (range_with_len 0 t.columns)) in
    Appends-text (separator-text_from t c.args.separator.now.row c.new.ensures refl refl)
    (stopped (items_after so_far (separator_part t c.args.separator.now.row t.columns) ++ cut (last_color so_far (separator_part t c.args.separator.now.row t.columns)) None) c.from_residual.ensures.0 c.in_err-run.ensures.appends)

pub returns-in_err-run-2 : goal.returns-in_err-run-2
returns-in_err-run-2 g c =
    let t = g.T.TableMarker.table in
    Appends-text (separator-text_from t c.args.separator.now.row c.new.ensures c.in_ok-run.ensures.color refl)
    (c.in_ok-run.ensures.appends then stopped (cut (last_color c.in_ok-run.run' (separator_part t c.args.separator.now.row t.columns)) None) c.from_residual-in_err-run-2.ensures.0 c.in_err-run-2.ensures.appends)

pub returns : goal.returns
returns g c =
    let t = g.T.TableMarker.table in
    Appends-text (separator-text_from t c.args.separator.now.row c.new.ensures c.in_ok-run.ensures.color c.in_ok-run-2.ensures.color)
    (c.in_ok-run.ensures.appends then (c.in_ok-run-2.ensures.appends then c.close.ensures))

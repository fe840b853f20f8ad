use Rattle.std.proofs.Common.{◌++◌, flat_map}
use Rattle.std.specs.List.{range_with_len}
use Rattle.pg_config.specs.CompactConfig.{settings_of}
use Rattle.pg_picture.proofs.Appending.{Appends-text, ◌then◌, stopped}
use Rattle.pg_compact.specs.Inside.{printed_table, text_column}
use Rattle.pg_compact.specs.RowEdges.{row_end}
use Rattle.pg_compact.proofs.CompactRows.{text_row-text}
use Rattle.pg_compact.proofs.printer.CompactPrinter.push_text_row.Goals as goal

pub returns-in_err-push_row_start : goal.returns-in_err-push_row_start
returns-in_err-push_row_start g c = λ texts is.
    let p = c.args.self.now in
    Appends-text (text_row-text g.D.Dimension.width g.C.Colors.color p texts c.args.row)
    (stopped (flat_map (text_column (printed_table g.D.Dimension.width g.C.Colors.color p texts) c.args.row) (range_with_len 0 p.columns) ++ row_end (settings_of p.config.now)) c.from_residual.ensures.0 c.in_err-push_row_start.ensures)

pub returns-in_err-push_cells : goal.returns-in_err-push_cells
returns-in_err-push_cells g c = λ texts is.
    let p = c.args.self.now in
    Appends-text (text_row-text g.D.Dimension.width g.C.Colors.color p texts c.args.row)
    (c.in_ok-push_row_start.ensures then stopped (row_end (settings_of p.config.now)) c.from_residual-in_err-push_cells.ensures.0 (c.in_err-push_cells.ensures texts is))

pub returns : goal.returns
returns g c = λ texts is.
    let p = c.args.self.now in
    Appends-text (text_row-text g.D.Dimension.width g.C.Colors.color p texts c.args.row) (c.in_ok-push_row_start.ensures then (c.in_ok-push_cells.ensures texts is then c.push_row_end.ensures))

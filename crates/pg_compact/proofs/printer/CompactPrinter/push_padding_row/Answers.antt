use Rattle.std.proofs.Common.{◌++◌, [], flat_map}
use Rattle.std.specs.List.{range_with_len}
use Rattle.pg_layout.specs.Colors.{str_color}
use Rattle.pg_picture.proofs.Appending.{Appends-text, ◌then◌, stopped}
use Rattle.pg_compact.specs.Inside.{printed_table, padding_column}
use Rattle.pg_compact.specs.RowEdges.{row_end}
use Rattle.pg_compact.proofs.CompactRows.{padding_row-text}
use Rattle.pg_compact.proofs.printer.CompactPrinter.push_padding_row.Goals as goal

pub returns-in_err-push_row_start : goal.returns-in_err-push_row_start
returns-in_err-push_row_start g c =
    let t = printed_table g.D.Dimension.width g.C.Colors.color c.args.self.now [] in
    Appends-text (padding_row-text t (str_color c.args.color)) (stopped (flat_map (padding_column t (str_color c.args.color)) (range_with_len 0 t.columns) ++ row_end t.config) c.from_residual.ensures.0 c.in_err-push_row_start.ensures)

pub returns-in_err-push_blanks : goal.returns-in_err-push_blanks
returns-in_err-push_blanks g c =
    let t = printed_table g.D.Dimension.width g.C.Colors.color c.args.self.now [] in
    Appends-text (padding_row-text t (str_color c.args.color)) (c.in_ok-push_row_start.ensures then stopped (row_end t.config) c.from_residual-in_err-push_blanks.ensures.0 c.in_err-push_blanks.ensures)

pub returns : goal.returns
returns g c =
    let t = printed_table g.D.Dimension.width g.C.Colors.color c.args.self.now [] in
    Appends-text (padding_row-text t (str_color c.args.color)) (c.in_ok-push_row_start.ensures then (c.in_ok-push_blanks.ensures then c.push_row_end.ensures))

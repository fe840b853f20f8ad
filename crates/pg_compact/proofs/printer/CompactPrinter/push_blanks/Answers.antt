use Rattle.std.proofs.Common.{ℕ, [], sym, arith}
use Rattle.pg_layout.specs.Colors.{str_color}
use Rattle.pg_layout.specs.Text.{Text}
use Rattle.pg_picture.proofs.Appending.{Gained-text, Gained-more, refused}
use Rattle.pg_compact.specs.Inside.{printed_table, padding_column}
use Rattle.pg_compact.proofs.CompactRows.{columns-more, columns-cut}
use Rattle.pg_compact.proofs.printer.CompactPrinter.push_blanks.Goals as goal

pub returns-in_err-push_blank : goal.returns-in_err-push_blank
returns-in_err-push_blank g c =
    let column : ℕ → Text = padding_column (printed_table g.D.Dimension.width g.C.Colors.color c.args.self.now []) (str_color c.args.color) in
    refused _ (columns-cut column c.loop-column.column c.args.self.now.columns (omega arith)) c.from_residual.ensures.0 c.loop-column.invariant c.in_err-push_blank.ensures

pub loop-column-preserved : goal.loop-column-preserved
loop-column-preserved g c =
    let column : ℕ → Text = padding_column (printed_table g.D.Dimension.width g.C.Colors.color c.args.self.now []) (str_color c.args.color) in
    Gained-text (sym (columns-more column c.loop-column.column)) (Gained-more c.loop-column.invariant c.in_ok-push_blank.ensures)

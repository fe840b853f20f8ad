use Rattle.pg_picture.specs.CompactLines.{text_row}
use Rattle.pg_picture.proofs.Appending.{◌then◌, stopped}
use Rattle.pg_compact.specs.Inside.{printed_table}
use Rattle.pg_compact.proofs.printer.CompactPrinter.push_text_line.Goals as goal

pub returns-in_err-push_feed : goal.returns-in_err-push_feed
returns-in_err-push_feed g c = λ texts is. stopped (text_row (printed_table g.D.Dimension.width g.C.Colors.color c.args.self.now texts) c.args.row) c.from_residual.ensures.0 c.in_err-push_feed.ensures

pub returns : goal.returns
returns g c = λ texts is. c.in_ok-push_feed.ensures then c.push_text_row.ensures texts is

use Rattle.std.proofs.Common.{◌≡◌, false, true, [], arith}
use Rattle.std.proofs.lemmas.Bool.Decides.{nat_tests}
use Rattle.pg_picture.specs.CompactLines.{separator_row}
use Rattle.pg_picture.specs.Inside.{lines_before}
use Rattle.pg_picture.proofs.Appending.{Appends-text, Gained-none, Gained-all, ◌then◌, stopped}
use Rattle.pg_compact.specs.Inside.{printed_table, line_colors}
use Rattle.pg_compact.proofs.CompactRows.{separator-absent, separator-there}
use Rattle.pg_compact.proofs.printer.CompactPrinter.push_separator_if.Goals as goal

pub returns-then-not-is_there : goal.returns-then-not-is_there
returns-then-not-is_there g c =
    let absent : c.args.is_there ≡ false = grind (arith, nat_tests, c.if-not-is_there.true) in
    Appends-text (separator-absent (lines_before c.args.is_first) _ absent) (Gained-all (Gained-none c.args.buf.now))

pub returns-in_err-push_feed : goal.returns-in_err-push_feed
returns-in_err-push_feed g c =
    let there : c.args.is_there ≡ true = grind (arith, nat_tests, c.if-not-is_there.false) in
    let row = separator_row (printed_table g.D.Dimension.width g.C.Colors.color c.args.self.now []) c.args.glyphs (line_colors c.args.colors) in
    Appends-text (separator-there c.args.is_first row there) (stopped row c.from_residual.ensures.0 c.in_err-push_feed.ensures)

pub returns : goal.returns
returns g c =
    let there : c.args.is_there ≡ true = grind (arith, nat_tests, c.if-not-is_there.false) in
    let row = separator_row (printed_table g.D.Dimension.width g.C.Colors.color c.args.self.now []) c.args.glyphs (line_colors c.args.colors) in
    Appends-text (separator-there c.args.is_first row there) (c.in_ok-push_feed.ensures then c.push_separator.ensures)

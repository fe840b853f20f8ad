use Rattle.std.proofs.Common.{◌≡◌, false, true, [], arith}
use Rattle.std.proofs.lemmas.Bool.Decides.{nat_tests}
use Rattle.pg_layout.specs.Borders.{has_inner_horizontal}
use Rattle.pg_picture.specs.Inside.{lines_before}
use Rattle.pg_picture.proofs.Appending.{Appends-text, Gained-none, Gained-all, ◌then◌, stopped}
use Rattle.pg_compact.specs.Inside.{printed_table, inner_separator}
use Rattle.pg_compact.proofs.CompactRows.{separator-absent, separator-there}
use Rattle.pg_compact.proofs.printer.CompactPrinter.push_inner_separator.Goals as goal

pub returns-then-not-has_horizontal-clause-appends : goal.returns-then-not-has_horizontal-clause-appends
returns-then-not-has_horizontal-clause-appends g c =
    let absent : has_inner_horizontal c.args.self.now.config.now.borders ≡ false = grind (arith, nat_tests, c.if-not-has_horizontal.true, c.has_horizontal.ensures, c.get_borders.ensures) in
    Appends-text (separator-absent (lines_before false) _ absent) (Gained-all (Gained-none c.args.buf.now))

pub returns-in_err-push_feed-clause-appends : goal.returns-in_err-push_feed-clause-appends
returns-in_err-push_feed-clause-appends g c =
    let there : has_inner_horizontal c.args.self.now.config.now.borders ≡ true = grind (arith, nat_tests, c.if-not-has_horizontal.false, c.has_horizontal.ensures, c.get_borders.ensures) in
    let text = inner_separator (printed_table g.D.Dimension.width g.C.Colors.color c.args.self.now []) in
    Appends-text (separator-there false text there) (stopped text c.from_residual.ensures.0 c.in_err-push_feed.ensures)

pub returns-clause-appends : goal.returns-clause-appends
returns-clause-appends g c =
    let there : has_inner_horizontal c.args.self.now.config.now.borders ≡ true = grind (arith, nat_tests, c.if-not-has_horizontal.false, c.has_horizontal.ensures, c.get_borders.ensures) in
    let text = inner_separator (printed_table g.D.Dimension.width g.C.Colors.color c.args.self.now []) in
    Appends-text (separator-there false text there) (c.in_ok-push_feed.ensures then c.push_kept_separator.ensures.appends)

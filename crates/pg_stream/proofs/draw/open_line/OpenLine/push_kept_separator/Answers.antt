use Rattle.std.proofs.Common.{◌∙◌, arith}
use Rattle.pg_picture.proofs.Appending.{Appends-text, text-from, lent-text, kept-text}
use Rattle.pg_stream.specs.Inside.{IsSeparator}
use Rattle.pg_stream.proofs.printer.Ending.{kept-is, keeps}
use Rattle.pg_stream.proofs.draw.open_line.OpenLine.push_kept_separator.Goals as goal

pub returns-in-Some-clause-appends : goal.returns-in-Some-clause-appends
returns-in-Some-clause-appends g c =
    let t = g.T.TableMarker.table in
    let kept = lent-text (IsSeparator t) c.text.result c.args.kept.now.text c.in-Some.text c.text.ensures c.in-Some.is c.requires.separator in
    Appends-text (kept-is t c.args.self.now.opened.now c.args.row (omega arith) c.requires.alone c.in-Some.text.now kept) c.push_text.ensures

pub returns-then-has_equal_separators-clause-kept : goal.returns-then-has_equal_separators-clause-kept
returns-then-has_equal_separators-clause-kept g c =
    let t = g.T.TableMarker.table in
    let here = text-from c.len-from.result (c.len-from.ensures ∙ c.args.buf.now.bytes.ok.0) c.in_ok-push_separator.ensures in
    kept-text (IsSeparator t) c.keep.new.self.text _ c.keep.ensures.is (keeps t c.args.self.now.opened.now c.args.row (omega arith) c.requires.alone _ c.has_equal_separators.result c.has_equal_separators.ensures c.if-has_equal_separators.true here)

use Rattle.std.proofs.Common.{◌≡◌, ◌+◌, ◌==◌, sym, ◌∙◌, inl, inr, arith}
use Rattle.pg_picture.specs.Inside.{lines_before}
use Rattle.pg_picture.proofs.Appending.{Gained-none, Gained-more, Gained-text, refused}
use Rattle.pg_picture.proofs.Pictures.{continued-nil, continued-more, continued-cut, first-of}
use Rattle.pg_picture.proofs.compact_margin.push_compact_margin.Goals as goal
use Rattle.pg_picture.proofs.compact_margin.push_compact_margin.Goals.{then-is_first, else-is_first}

pub loop-number-init : goal.loop-number-init
loop-number-init g c = Gained-text (sym (continued-nil (lines_before c.args.is_first))) (Gained-none c.args.buf.now)

pub returns-in_err-push_margin_line : goal.returns-in_err-push_margin_line
returns-in_err-push_margin_line g c =
    let is : c.if-is_first.push_margin_line ≡ ((lines_before c.args.is_first + c.loop-number.number) == 0) = first-of _ _ _ (elim c.if-is_first.branch [ then-is_first w ↦ inl (w.if-is_first.true, w.push_margin_line-is) | else-is_first w ↦ inr (w.if-is_first.false, w.push_margin_line-is ∙ w.if-is_first.false) ]) in
    refused _ (continued-cut (lines_before c.args.is_first) c.loop-number.number c.args.margin.size _ is (omega arith)) c.from_residual.ensures.0 c.loop-number.invariant c.in_err-push_margin_line.ensures

pub loop-number-preserved : goal.loop-number-preserved
loop-number-preserved g c =
    let is : c.if-is_first.push_margin_line ≡ ((lines_before c.args.is_first + c.loop-number.number) == 0) = first-of _ _ _ (elim c.if-is_first.branch [ then-is_first w ↦ inl (w.if-is_first.true, w.push_margin_line-is) | else-is_first w ↦ inr (w.if-is_first.false, w.push_margin_line-is ∙ w.if-is_first.false) ]) in
    Gained-text (sym (continued-more (lines_before c.args.is_first) c.loop-number.number _ is)) (Gained-more c.loop-number.invariant c.in_ok-push_margin_line.ensures)

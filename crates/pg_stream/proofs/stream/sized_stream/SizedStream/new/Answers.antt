use Rattle.std.proofs.Common.{◌≡◌, false, ◌∙◌, refl, sym, ap, None, Ok, Err}
use Rattle.std.specs.Result.{result_err}
use Rattle.pg_picture.specs.Sizes.{unless_misfit}
use Rattle.pg_stream.specs.Conditions.{PrinterFits}
use Rattle.pg_picture.specs.Grids.{bare_table}
use Rattle.pg_stream.specs.LiveStreams.{Living}
use Rattle.pg_stream.specs.Printers.{printing}
use Rattle.pg_stream.specs.Printing.{Printing, printer}
use Rattle.pg_stream.specs.declared.fault.StreamFault.{StreamFault}
use Rattle.pg_stream.proofs.printer.MakingPrinters.{fits-told, told-alike}
use Rattle.pg_stream.proofs.SizedRows.{misfit-spans, misfit-rest, spans-told, spans-memory, made-by, sized-first}
use Rattle.pg_stream.proofs.stream.sized_stream.SizedStream.new.Goals as goal

pub returns-then-has_row_spans-clause-whole : goal.returns-then-has_row_spans-clause-whole
returns-then-has_row_spans-clause-whole g c = λ whole fault is. absurd (spans-memory whole (misfit-spans c.args.config.now c.args.columns _ _ _ c.has_row_spans.result c.has_row_spans.ensures c.if-has_row_spans.true))

pub returns-then-has_row_spans-clause-misfit : goal.returns-then-has_row_spans-clause-misfit
returns-then-has_row_spans-clause-misfit g c = spans-told (misfit-spans c.args.config.now c.args.columns _ _ _ c.has_row_spans.result c.has_row_spans.ensures c.if-has_row_spans.true)

pub invariant_of-result : goal.invariant_of-result
invariant_of-result g c = λ lives.
    sized-first (bare_table g.D.Dimension.width g.D.Dimension.height g.C.Colors.color c.into_parts-progress.result.0.sheet) c.into_parts-progress.result.0 c.into_parts-progress.result.1 c.args.config.now c.args.columns (g.D.Dimension.width c.args.widths.now) (g.D.Dimension.height c.args.widths.now) (g.C.Colors.color c.args.colors.now)
    (ap (printing g.D.Dimension.width g.D.Dimension.height g.C.Colors.color) c.into_parts-progress.ensures.is ∙ c.in-Ok.ensures.made) refl
    (sym c.has_row_spans.ensures ∙ c.if-has_row_spans.false) c.into_parts-progress.ensures.sound

pub returns-in-Ok-clause-made : goal.returns-in-Ok-clause-made
returns-in-Ok-clause-made g c = λ heights.
    let lives : Printing → Living = λ p. record { printed = p; is_lost = false } in
    ap lives (made-by c.args.config.now c.args.columns (g.D.Dimension.width c.args.widths.now) (g.D.Dimension.height c.args.widths.now) (g.C.Colors.color c.args.colors.now)
    (ap (printing g.D.Dimension.width g.D.Dimension.height g.C.Colors.color) c.into_parts-progress.ensures.is ∙ c.in-Ok.ensures.made) heights)

pub returns-in-Ok-clause-misfit : goal.returns-in-Ok-clause-misfit
returns-in-Ok-clause-misfit g c =
    rw (misfit-rest c.args.config.now c.args.columns (g.D.Dimension.width c.args.widths.now) (g.D.Dimension.height c.args.widths.now) (g.C.Colors.color c.args.colors.now) c.has_row_spans.result c.has_row_spans.ensures c.if-has_row_spans.false)
    (told-alike _ c.try_new.result _ (ap result_err c.in-Ok.is) c.try_new.ensures.misfit)

pub returns-in-Err-clause-misfit : goal.returns-in-Err-clause-misfit
returns-in-Err-clause-misfit g c =
    rw (misfit-rest c.args.config.now c.args.columns (g.D.Dimension.width c.args.widths.now) (g.D.Dimension.height c.args.widths.now) (g.C.Colors.color c.args.colors.now) c.has_row_spans.result c.has_row_spans.ensures c.if-has_row_spans.false)
    (told-alike _ c.try_new.result _ (ap result_err c.in-Err.is) c.try_new.ensures.misfit)

pub returns-in-Err-clause-whole : goal.returns-in-Err-clause-whole
returns-in-Err-clause-whole g c =
    rw (misfit-rest c.args.config.now c.args.columns (g.D.Dimension.width c.args.widths.now) (g.D.Dimension.height c.args.widths.now) (g.C.Colors.color c.args.colors.now) c.has_row_spans.result c.has_row_spans.ensures c.if-has_row_spans.false)
    (λ whole fault is.
    let start : Printing = printer c.args.config.now c.args.columns (g.D.Dimension.width c.args.widths.now) (g.D.Dimension.height c.args.widths.now) (g.C.Colors.color c.args.colors.now) None in
    let fits : PrinterFits start = (fits-told start (Ok tt) (ap unless_misfit (sym whole))).0 refl in
    c.try_new.ensures.whole fits fault (c.in-Err.is ∙ (let same : c.in-Err.fault ≡ fault = cc in ap (λ (f : StreamFault). Err f) same)))

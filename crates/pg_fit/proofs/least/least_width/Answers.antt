use Rattle.std.proofs.Common.{max, sym, ap, ◌∙◌, rules, tests}
use Rattle.std.proofs.lemmas.Iterator.Consumers.{YieldsList-from_first, fold_from_yields_List}
use Rattle.pg_layout.specs.Text.{lines_of}
use Rattle.pg_fit.specs.Wrapping.{least_line_width}
use Rattle.std.specs.List.{list_all}
use Rattle.pg_fit.specs.Controls.{is_printable}
use Rattle.pg_fit.proofs.LawsOfControls.{least-one_line}
use Rattle.pg_fit.proofs.NarrowedWidths.{least_width-fold}
use Rattle.pg_fit.proofs.least.least_width.Goals as goal

pub returns-then-is_printable : goal.returns-then-is_printable
returns-then-is_printable c =
    let t = c.args.text.now in
    let printable = ap (list_all is_printable) (sym c.as_bytes.ensures.value) ∙ sym c.is_printable.ensures ∙ c.if-is_printable.true in
    c.least_printable_width.ensures ∙ ap (least_line_width c.args.breaking) c.as_bytes-then-is_printable.ensures.value ∙ sym (least-one_line c.args.breaking t printable)

pub returns : goal.returns
returns c =
    fold_from_yields_List _ (λ width line. max (least_line_width c.args.breaking line) width) 0 c.fold.result c.fold.ensures.ran (YieldsList-from_first (λ x. x.now) (λ lines. lines) (lines_of c.args.text.now) c.get_lines.ensures) (λ a x b q k. search (rules, tests))
    ∙ least_width-fold c.args.breaking c.args.text.now

use Rattle.std.proofs.Common.{max, sym, ap, ◌∙◌, rules, tests}
use Rattle.std.specs.List.{list_all}
use Rattle.std.proofs.lemmas.Iterator.Consumers.{YieldsList-from_first, fold_from_yields_List}
use Rattle.pg_layout.specs.Text.{is_plain_byte, width_of, lines_of}
use Rattle.pg_layout.proofs.TextLines.{text_width_of-plain, text_width_of-fold}
use Rattle.pg_layout.proofs.text.get_text_width.Goals as goal

pub returns-then-is_plain : goal.returns-then-is_plain
returns-then-is_plain c = sym (text_width_of-plain c.args.text.now (ap (list_all is_plain_byte) (sym c.as_bytes.ensures.value) ∙ sym c.is_plain.ensures ∙ c.if-is_plain.true))

pub returns : goal.returns
returns c =
    fold_from_yields_List _ (λ width line. max width (width_of line)) 0 c.fold.result c.fold.ensures.ran (YieldsList-from_first (λ x. x.now) (λ lines. lines) (lines_of c.args.text.now) c.get_lines.ensures) (λ a x b q k. search (rules, tests))
    ∙ text_width_of-fold c.args.text.now

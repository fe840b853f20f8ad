use Rattle.std.proofs.Common.{◌∙◌, max, rules, tests}
use Rattle.std.proofs.lemmas.Iterator.Consumers.{YieldsList-from_first, fold_from_yields_List}
use Rattle.std.specs.Str.{trim}
use Rattle.pg_layout.specs.Text.{lines_of, width_of}
use Rattle.pg_picture.proofs.PlacesOfTexts.{widest-trimmed, widest-untrimmed}
use Rattle.pg_picture.proofs.facts.text_width.Goals as goal

pub returns-then-not-trim : goal.returns-then-not-trim
returns-then-not-trim c = c.get_text_width.ensures ∙ widest-untrimmed c.args.trim c.args.text.now c.if-not-trim.true

pub returns : goal.returns
returns c =
    fold_from_yields_List _ (λ width line. max width (width_of (trim line))) 0 c.fold.result c.fold.ensures.ran (YieldsList-from_first (λ x. x.now) (λ lines. lines) (lines_of c.args.text.now) c.get_lines.ensures) (λ a x b q k. search (rules, tests))
    ∙ widest-trimmed c.args.trim c.args.text.now c.if-not-trim.false

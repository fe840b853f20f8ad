use Rattle.std.proofs.Common.{◌≡◌, min, length, sym, ap, ◌∙◌, arith}
use Rattle.pg_fit.specs.Wrapping.{least_line_width}
use Rattle.pg_fit.proofs.LawsOfControls.{least-anywhere, least-spaces, least-word}
use Rattle.pg_fit.proofs.least.least_printable_width.Goals as goal

pub returns-in-Anywhere : goal.returns-in-Anywhere
returns-in-Anywhere c =
    let line = c.args.line.now in
    let same : min (length line) 1 ≡ min 1 (length line) = omega arith in
    c.min.ensures ∙ same ∙ sym (least-anywhere line c.requires) ∙ ap (λ b. least_line_width b line) (sym c.in-Anywhere.is)

pub returns-then-is_of_spaces : goal.returns-then-is_of_spaces
returns-then-is_of_spaces c =
    let line = c.args.line.now in
    least-spaces line c.requires (sym c.is_of_spaces.ensures ∙ c.if-is_of_spaces.true) ∙ ap (λ b. least_line_width b line) (sym c.in-BetweenWords.is)

pub returns-else-is_of_spaces : goal.returns-else-is_of_spaces
returns-else-is_of_spaces c =
    let line = c.args.line.now in
    least-word line c.requires (sym c.is_of_spaces.ensures ∙ c.if-is_of_spaces.false) ∙ ap (λ b. least_line_width b line) (sym c.in-BetweenWords.is)

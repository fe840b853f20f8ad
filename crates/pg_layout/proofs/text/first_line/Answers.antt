use Rattle.std.proofs.Common.{◌∷◌, ap, sym, ◌∙◌, option_map, lit<}
use Rattle.std.proofs.lemmas.Str.Pattern.{strip_suffix_char}
use Rattle.pg_layout.specs.Text.{lines_left}
use Rattle.pg_layout.proofs.TextLines.{first_line_of-first, first_line_of-one, without_return-stripped}
use Rattle.pg_layout.proofs.text.first_line.Goals as goal

pub returns-in_default-Some : goal.returns-in_default-Some
returns-in_default-Some c =
    let line = c.split_first_line.result.0 in
    let cut = c.split_first_line.ensures ∙ ap (λ rest. line.now ∷ lines_left (option_map (λ x. x.now) rest)) c.in_default-Some.is-1 in
    ap (λ x. x.now) c.unwrap_or.ensures ∙ without_return-stripped line c.strip_suffix.result (strip_suffix_char 13 line.now c.strip_suffix.result c.strip_suffix.ensures.cases (lit< tt))
    ∙ sym (first_line_of-first c.args.text.now line.now c.in_default-Some.field-0-1.now cut)

pub returns-in_default-None : goal.returns-in_default-None
returns-in_default-None c =
    let line = c.split_first_line.result.0 in
    let cut = c.split_first_line.ensures ∙ ap (λ rest. line.now ∷ lines_left (option_map (λ x. x.now) rest)) c.in_default-None.is-1 in
    sym (first_line_of-one c.args.text.now line.now cut)

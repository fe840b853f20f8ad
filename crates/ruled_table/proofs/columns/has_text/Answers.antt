use Rattle.std.proofs.Common.{◌≡◌, ◌∙◌, List, ℕ, Option, Some, None, ap, arith, nat_eq}
use Rattle.std.specs.List.{ends_with}
use Rattle.std.specs.Option.{option_map_or}
use Rattle.std.proofs.lemmas.Str.Pattern.{contains_text, ends_text, strip_suffix_char}
use Rattle.ruled_table.specs.Columns.{before, has_part}
use Rattle.ruled_table.proofs.WordsOfColumns.{before_is, part_is}
use Rattle.ruled_table.proofs.columns.has_text.Goals as goal

pub returns-in-Some : goal.returns-in-Some
returns-in-Some c =
    let text = c.args.text.now in
    let name = c.args.name.now in
    let cut : Some c.in-Some.end.now ≡ before 36 text = before_is 36 text (Some c.in-Some.end) (strip_suffix_char 36 text (Some c.in-Some.end) c.in-Some.ensures.cases (omega arith)) in
    ends_text c.ends_with.result c.in-Some.end.now name c.ends_with.ensures.cases ∙ ap (λ (o : Option (List ℕ)). option_map_or (ends_with nat_eq name) o (has_part text name)) cut

pub returns-in-None : goal.returns-in-None
returns-in-None c =
    let text = c.args.text.now in
    let name = c.args.name.now in
    let cut : None ≡ before 36 text = before_is 36 text None (strip_suffix_char 36 text None c.in-None.ensures.cases (omega arith)) in
    part_is c.contains.result text name (contains_text c.contains.result text name c.contains.ensures.cases) ∙ ap (λ (o : Option (List ℕ)). option_map_or (ends_with nat_eq name) o (has_part text name)) cut

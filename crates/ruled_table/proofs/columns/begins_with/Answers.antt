use Rattle.std.proofs.Common.{◌≡◌, ◌∙◌, List, ℕ, Option, Some, None, ap, arith, nat_eq}
use Rattle.std.specs.List.{starts_with}
use Rattle.std.specs.Option.{option_map_or}
use Rattle.std.specs.Str.{bytes_eq}
use Rattle.std.proofs.lemmas.Str.Pattern.{starts_text, strip_suffix_char}
use Rattle.ruled_table.specs.Columns.{before}
use Rattle.ruled_table.proofs.WordsOfColumns.{before_is}
use Rattle.ruled_table.proofs.columns.begins_with.Goals as goal

pub returns-in-Some : goal.returns-in-Some
returns-in-Some c =
    let text = c.args.text.now in
    let name = c.args.name.now in
    let cut : Some c.in-Some.whole.now ≡ before 36 text = before_is 36 text (Some c.in-Some.whole) (strip_suffix_char 36 text (Some c.in-Some.whole) c.in-Some.ensures.cases (omega arith)) in
    c.eq.ensures ∙ ap (λ (o : Option (List ℕ)). option_map_or (bytes_eq name) o (starts_with nat_eq name text)) cut

pub returns-in-None : goal.returns-in-None
returns-in-None c =
    let text = c.args.text.now in
    let name = c.args.name.now in
    let cut : None ≡ before 36 text = before_is 36 text None (strip_suffix_char 36 text None c.in-None.ensures.cases (omega arith)) in
    starts_text c.starts_with.result text name c.starts_with.ensures.cases ∙ ap (λ (o : Option (List ℕ)). option_map_or (bytes_eq name) o (starts_with nat_eq name text)) cut

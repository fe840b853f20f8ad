use Rattle.std.proofs.Common.{◌≡◌, ◌∙◌, List, ℕ, Option, Some, None, ap, arith, nat_eq}
use Rattle.std.specs.List.{ends_with, starts_with}
use Rattle.std.specs.Option.{option_map_or}
use Rattle.std.specs.Str.{bytes_eq}
use Rattle.std.proofs.lemmas.Str.Pattern.{strip_prefix_char}
use Rattle.ruled_table.specs.Columns.{before, behind, has_part}
use Rattle.ruled_table.proofs.WordsOfColumns.{behind_is}
use Rattle.ruled_table.proofs.columns.fits.Goals as goal

pub returns-in-Some : goal.returns-in-Some
returns-in-Some c =
    let pattern = c.args.pattern.now in
    let name = c.args.name.now in
    let cut : Some c.in-Some.text.now ≡ behind 94 pattern = behind_is 94 pattern (Some c.in-Some.text) (strip_prefix_char 94 pattern (Some c.in-Some.text) c.in-Some.ensures.cases (omega arith)) in
    c.begins_with.ensures
    ∙ ap (λ (o : Option (List ℕ)). option_map_or (λ text. option_map_or (bytes_eq name) (before 36 text) (starts_with nat_eq name text)) o (option_map_or (ends_with nat_eq name) (before 36 pattern) (has_part pattern name))) cut

pub returns-in-None : goal.returns-in-None
returns-in-None c =
    let pattern = c.args.pattern.now in
    let name = c.args.name.now in
    let cut : None ≡ behind 94 pattern = behind_is 94 pattern None (strip_prefix_char 94 pattern None c.in-None.ensures.cases (omega arith)) in
    c.has_text.ensures
    ∙ ap (λ (o : Option (List ℕ)). option_map_or (λ text. option_map_or (bytes_eq name) (before 36 text) (starts_with nat_eq name text)) o (option_map_or (ends_with nat_eq name) (before 36 pattern) (has_part pattern name))) cut

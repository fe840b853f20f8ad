use Rattle.std.proofs.Common.{◌∙◌, Some, None, ap, arith}
use Rattle.std.specs.Option.{option_and_then}
use Rattle.std.proofs.lemmas.Str.Pattern.{strip_prefix_char, strip_suffix_char}
use Rattle.ruled_table.specs.Columns.{before}
use Rattle.ruled_table.proofs.WordsOfColumns.{before_is, behind_is}
use Rattle.ruled_table.proofs.columns.pattern_of.Goals as goal

pub returns-in-Some : goal.returns-in-Some
returns-in-Some c =
    let word = c.args.word.now in
    let rest = c.in-Some.rest.now in
    before_is 47 rest c.strip_suffix.result (strip_suffix_char 47 rest c.strip_suffix.result c.strip_suffix.ensures.cases (omega arith))
    ∙ ap (option_and_then (before 47)) (behind_is 47 word (Some c.in-Some.rest) (strip_prefix_char 47 word (Some c.in-Some.rest) c.in-Some.ensures.cases (omega arith)))

pub returns-in-None : goal.returns-in-None
returns-in-None c =
    let word = c.args.word.now in
    ap (option_and_then (before 47)) (behind_is 47 word None (strip_prefix_char 47 word None c.in-None.ensures.cases (omega arith)))

use Rattle.std.proofs.Common.{◌≡◌, ◌∙◌, true, None, sym, arith, rules}
use Rattle.std.specs.Prelude.{is_none}
use Rattle.std.proofs.lemmas.Bool.{cond-true}
use Rattle.std.proofs.lemmas.Str.Pattern.{strip_prefix_char}
use Rattle.csv.specs.Records.{fields_of}
use Rattle.ruled_table.specs.Columns.{behind, column_of}
use Rattle.ruled_table.proofs.WordsOfColumns.{behind_is}
use Rattle.ruled_table.proofs.columns.excluded.Goals as goal

pub returns : goal.returns
returns c =
    let word = c.args.word.now in
    let none : is_none (column_of (fields_of c.args.header.now) word) ≡ true = search rules in
    behind_is 33 word c.strip_prefix.result (strip_prefix_char 33 word c.strip_prefix.result c.strip_prefix.ensures.cases (omega arith))
    ∙ sym (cond-true (is_none (column_of (fields_of c.args.header.now) word)) (behind 33 word) None none)

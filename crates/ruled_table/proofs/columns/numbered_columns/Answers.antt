use Rattle.std.proofs.Common.{◌≡◌, false, length, arith, rules}
use Rattle.std.specs.List.{list_any, position_or_len}
use Rattle.std.proofs.lemmas.Str.Pattern.{split_once_first}
use Rattle.ruled_table.specs.Columns.{is_dash}
use Rattle.ruled_table.proofs.WordsOfColumns.{none-any}
use Rattle.ruled_table.proofs.columns.numbered_columns.Goals as goal

pub returns-in-None : goal.returns-in-None
returns-in-None c =
    let lacks : position_or_len is_dash c.args.word.now ≡ length c.args.word.now = search (rules, split_once_first 45 c.args.word.now c.split_once.result c.split_once.ensures.cases (omega arith)) in
    let none : list_any is_dash c.args.word.now ≡ false = none-any is_dash c.args.word.now lacks in
    search (rules, none)

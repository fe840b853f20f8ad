use Rattle.std.proofs.Common.{◌<◌, ◌≤◌, ◌^◌, length, rules}
use Rattle.std.specs.Option.{SomeIff}
use Rattle.std.specs.Str.Parse.{IsNumeral, digits_value}
use Rattle.pg_script.proofs.LineWords.{number_of-read}
use Rattle.pg_script.proofs.words.number_of.Goals as goal

pub returns : goal.returns
returns c =
    let read : SomeIff c.ok.result (IsNumeral 10 c.args.word.now × (length c.args.word.now ≤ 20) × (digits_value 10 c.args.word.now < 2 ^ 64)) (digits_value 10 c.args.word.now) = search rules in
    number_of-read c.args.word.now c.ok.result read

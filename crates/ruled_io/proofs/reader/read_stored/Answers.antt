use Rattle.std.proofs.Common.{◌≡◌, Ok, Err, true, false, rules}
use Rattle.ruled_io.proofs.Tables.{stored-all, stored-more, stored-wrong}
use Rattle.ruled_io.proofs.reader.read_stored.Goals as goal

pub returns-in-Ok-true : goal.returns-in-Ok-true
returns-in-Ok-true c = λ file name null_text given read.
    let is : c.push_rows.result ≡ Ok true = search rules in
    stored-more file name null_text _ given _ _ c.push_rows.new.self c.push_rows.result is (c.push_rows.ensures file name null_text given read)

pub returns-in-Ok-false : goal.returns-in-Ok-false
returns-in-Ok-false c = λ file name null_text given read.
    let is : c.push_rows.result ≡ Ok false = search rules in
    stored-all file name null_text _ given _ _ c.push_rows.new.self c.push_rows.result is (c.push_rows.ensures file name null_text given read)

pub returns : goal.returns
returns c = λ file name null_text given read.
    let is : c.push_rows.result ≡ Err c.in-Err.fault = search rules in
    stored-wrong file name null_text _ given _ _ c.push_rows.new.self c.push_rows.result c.in-Err.fault c.into.result is c.into.ensures (c.push_rows.ensures file name null_text given read)

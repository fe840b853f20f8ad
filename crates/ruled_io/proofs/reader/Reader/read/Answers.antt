use Rattle.std.proofs.Common.{◌≢◌, ◌++◌, map, rules, subst}
use Rattle.csv.specs.Records.{fields_of}
use Rattle.ruled_csv.specs.declared.fault.RowsFault.TheVariants as rows_fault
use Rattle.ruled_json.specs.declared.fault.JsonFault.TheVariants as json_fault
use Rattle.ruled_io.specs.Reading.{HasTaken}
use Rattle.ruled_io.specs.declared.reader.Reader.{Reader}
use Rattle.ruled_io.proofs.Fronts.{lines-bad, rows-bad}
use Rattle.ruled_io.proofs.reader.Reader.read.Goals as goal

pub returns-in-Err-clause-given : goal.returns-in-Err-clause-given
returns-in-Err-clause-given c = λ format records before behind taken.
    let some : c.in-Err.fault ≢ rows_fault.Memory = search rules in
    let (dialect, is, has) = subst (λ (r : Reader). HasTaken format records before r) c.in-Rows.is taken in
    rows-bad format records before c.args.bytes.now ((before ++ c.args.bytes.now) ++ behind) (map fields_of c.args.rows.now.items) (map fields_of c.read.new.rows.items) dialect c.in-Err.fault some is
    (c.in-Err.ensures.fault dialect before behind has) (c.in-Err.ensures.sound dialect before behind has)

pub returns-in-Err-read-clause-given : goal.returns-in-Err-read-clause-given
returns-in-Err-read-clause-given c = λ format records before behind taken.
    let some : c.in-Err-read.fault ≢ json_fault.Memory = search rules in
    let (is, has) = subst (λ (r : Reader). HasTaken format records before r) c.in-Lines.is taken in
    lines-bad format records before c.args.bytes.now ((before ++ c.args.bytes.now) ++ behind) (map fields_of c.args.rows.now.items) (map fields_of c.read-in-Lines.new.rows.items) c.in-Err-read.fault some is
    (c.in-Err-read.ensures.fault records before behind has) (c.in-Err-read.ensures.sound records before behind has)

use Rattle.std.proofs.Common.{List, map, subst, sym}
use Rattle.csv.specs.Records.{fields_of}
use Rattle.pg_layout.specs.Text.{Text}
use Rattle.ruled_csv.specs.Rows.{ended_rows}
use Rattle.ruled_csv.proofs.TextFaults.{all-sound}
use Rattle.ruled_io.specs.Reading.{AppendsRest, HasTaken}
use Rattle.ruled_io.specs.declared.reader.Reader.{Reader}
use Rattle.ruled_io.proofs.Fronts.{rows-end}
use Rattle.ruled_io.proofs.reader.Reader.finish.Goals as goal

pub returns-in-Ok-clause-given : goal.returns-in-Ok-clause-given
returns-in-Ok-clause-given c = λ format records bytes taken.
    let (dialect, is, has) = subst (λ (r : Reader). HasTaken format records bytes r) c.in-Rows.is taken in
    let none = c.in-Ok.ensures.fault dialect bytes has in
    rows-end format records bytes (map fields_of c.args.rows.now.items) (map fields_of c.finish.new.rows.items) dialect is none
    (subst (λ (rows : List (List Text)). AppendsRest (ended_rows dialect bytes) rows (map fields_of c.args.rows.now.items) (map fields_of c.finish.new.rows.items)) (sym (all-sound dialect bytes none)) (c.in-Ok.ensures.rows dialect bytes has))

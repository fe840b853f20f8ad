use Rattle.std.proofs.Common.{[], ◌∙◌, map, ap}
use Rattle.csv.specs.Records.{fields_of}
use Rattle.ruled_json.specs.Rows.{rules_of}
use Rattle.ruled_json.specs.Streamed.{LineRules}
use Rattle.ruled_io.specs.Reading.{ended_rows}
use Rattle.ruled_io.specs.declared.formats.Format.{Format}
use Rattle.ruled_io.proofs.Fronts.{front-rows, lines-begin, rows-begin}
use Rattle.ruled_io.proofs.reader.Reading.of_front.Goals as goal

pub returns-in-Separated-clause-given : goal.returns-in-Separated-clause-given
returns-in-Separated-clause-given c = λ rest.
    let rules : LineRules = record { records = c.args.records; members = rules_of c.args.members.now } in
    front-rows c.args.format rules c.args.front.now rest (map fields_of c.args.rows.now.items) (map fields_of c.read.new.rows.items) c.read.result
    (ap (λ (f : Format). ended_rows f rules []) c.in-Separated.is ∙ rows-begin c.in-Separated.dialect c.new-reader.result c.new-reader.ensures)
    (c.read.ensures.given c.args.format rules [] rest (c.in-Separated.dialect, c.in-Separated.is, c.new-reader.ensures))

pub returns-in_ok-reader-in-JsonLines-clause-given : goal.returns-in_ok-reader-in-JsonLines-clause-given
returns-in_ok-reader-in-JsonLines-clause-given c = λ rest.
    let rules : LineRules = record { records = c.args.records; members = rules_of c.args.members.now } in
    front-rows c.args.format rules c.args.front.now rest (map fields_of c.args.rows.now.items) (map fields_of c.read-in-JsonLines.new.rows.items) c.read-in-JsonLines.result
    (ap (λ (f : Format). ended_rows f rules []) c.in-JsonLines.is ∙ lines-begin rules c.in_ok-reader-in-JsonLines.reader c.in_ok-reader-in-JsonLines.ensures)
    (c.read-in-JsonLines.ensures.given c.args.format rules [] rest (c.in-JsonLines.is, c.in_ok-reader-in-JsonLines.ensures))

use Rattle.std.proofs.Common.{◌≡◌, ◌<◌, ◌++◌, arith, map, string_bytes}
use Rattle.csv.specs.Records.{fields_of}
use Rattle.ruled_json.specs.Streamed.{AppendsRest, columns_in, ended_table, streamed_table}
use Rattle.ruled_json.specs.Rows.{table_in}
use Rattle.ruled_json.proofs.StreamedLines.{on-ok}
use Rattle.ruled_json.proofs.Tables.{rest-held, rest-known}
use Rattle.ruled_json.proofs.line_table.LineTable.finish.Goals as goal

pub returns-then-self-eq0 : goal.returns-then-self-eq0
returns-then-self-eq0 c = record { rest = λ k above has. rest-known k above c.args.self.now (map fields_of c.args.rows.now.items) has (omega arith) }

pub returns : goal.returns
returns c = record {
  rest = λ k above has.
      let t = c.args.self.now in
      let old = map fields_of c.args.rows.now.items in
      let new = map fields_of c.push_held.new.rows.items in
      let some : 0 < t.left = omega arith in
      on-ok c.push_held.result (new ≡ old ++ table_in (string_bytes t.null) (columns_in t) above) (AppendsRest (ended_table k above) (streamed_table k above) old new) (rest-held k above t old new has some)
      (c.push_held.ensures.rows (string_bytes t.null) above (has.held some));
}

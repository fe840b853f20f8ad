use Rattle.std.proofs.Common.{◌≡◌, map, take}
use Rattle.csv.specs.Records.{fields_of}
use Rattle.ruled_json.specs.Streamed.{HasLines, LineRules, ended_table}
use Rattle.ruled_json.specs.Rows.{records_on, rules_of}
use Rattle.ruled_json.proofs.line_table.read_line_rows.Given as goal

abbrev pub invariant-loop-line : goal.invariant-loop-line
invariant-loop-line l =
    let read = map (λ line. line.now) (take l.line-index l.line-items) in
    let rules : LineRules = record { records = l.count; members = rules_of l.rules } in
    HasLines rules read l.table × (map fields_of l.rows.items ≡ ended_table rules (records_on rules.members read))

use Rattle.std.proofs.Common.{refl}
use Rattle.ruled_json.specs.Rows.{rules_of}
use Rattle.ruled_json.proofs.StreamedLines.{fresh}
use Rattle.ruled_json.proofs.line_reader.LineReader.new.Goals as goal

pub returns : goal.returns
returns c = fresh (record { records = c.args.records; members = rules_of c.args.rules.now }) _ c.in_ok-table.ensures c.new-2.ensures.items refl

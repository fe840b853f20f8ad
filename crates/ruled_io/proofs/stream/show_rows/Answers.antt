use Rattle.std.proofs.Common.{◌++◌, ℕ, List, Option, Some, map, sym, ap, subst, subst₂}
use Rattle.csv.specs.Records.{fields_of}
use Rattle.ruled_json.specs.Rows.{Rules, rules_of}
use Rattle.ruled_json.specs.Streamed.{LineRules}
use Rattle.pg_layout.specs.Text.{Text}
use Rattle.ruled_io.specs.Faults.{is_memory}
use Rattle.ruled_io.specs.declared.fault.InputFault.{InputFault}
use Rattle.ruled_io.specs.declared.fault.RunFault.TheVariants.{Input}
use Rattle.ruled_io.specs.Reading.{Stands, in_format, sound_rows, wrong_in}
use Rattle.ruled_io.specs.Stream.{Ends, first_count, line_rules}
use Rattle.ruled_io.proofs.Inputs.{stands-so}
use Rattle.ruled_io.proofs.Shows.{failed-ends}
use Rattle.ruled_io.proofs.Tables.{read-fails}
use Rattle.ruled_io.proofs.stream.show_rows.Goals as goal

pub returns-in_err-reading-clause-ends : goal.returns-in_err-reading-clause-ends
returns-in_err-reading-clause-ends g c = λ rest known.
    let options = c.args.options.now in
    let all : List ℕ = c.args.front.now ++ rest in
    let rules : LineRules = line_rules c.args.count (rules_of c.args.members.now) in
    failed-ends options (first_count options c.args.format c.args.count) (sound_rows c.args.format rules all) (wrong_in c.args.format rules all) (g.W.Write.contents c.args.out.now.writer)
    (Input c.in_err-reading.field-0.0) c.from_residual.result c.from_residual.ensures.1 (ap is_memory c.in_err-reading.ensures.memory)

pub returns-in_err-reading-2-clause-ends : goal.returns-in_err-reading-2-clause-ends
returns-in_err-reading-2-clause-ends g c = λ rest known.
    let options = c.args.options.now in
    let all : List ℕ = c.args.front.now ++ rest in
    let rules : LineRules = line_rules c.args.count (rules_of c.args.members.now) in
    failed-ends options (first_count options c.args.format c.args.count) (sound_rows c.args.format rules all) (wrong_in c.args.format rules all) (g.W.Write.contents c.args.out.now.writer)
    c.in_err-reading-2.field-0.0 c.from_residual-in_err-reading-2.result c.from_residual-in_err-reading-2.ensures.1 (read-fails c.in_err-reading-2.field-0.0 c.in_err-reading-2.ensures.failed)

pub returns-clause-ends : goal.returns-clause-ends
returns-clause-ends g c = λ rest known.
    let options = c.args.options.now in
    let format = c.args.format in
    let all : List ℕ = c.args.front.now ++ rest in
    let members : Rules = rules_of c.args.members.now in
    let rules : LineRules = record { records = c.record_count.result; members = members } in
    let old = g.W.Write.contents c.args.out.now.writer in
    let new = g.W.Write.contents c.show_table.new.out.writer in
    let begun = stands-so format rules all (Some rest) (map fields_of c.new-rows.result.items) (map fields_of c.of_front.new.rows.items) c.in_ok-reading.reading (ap (map fields_of) c.new-rows.ensures.items) (c.in_ok-reading.ensures.given rest) in
    let here = subst (λ (left : Option (List ℕ)). Stands format rules all left (map fields_of c.of_front.new.rows.items) c.in_ok-reading.reading) (sym known) begun in
    let (rows, wrong, (are, told), found) = c.show_table.ensures.ends (in_format format rules all) c.first_count-first.ensures.some c.in_ok-reading-2.ensures.enough (c.in_ok-reading-2.ensures.given (in_format format rules all) here) in
    let ends = subst₂ (λ (rs : List (List Text)) (w : Option InputFault). Ends options c.first_count-first.result rs w old new c.show_table.result) are told found in
    subst (λ (n : ℕ).
    Ends options (first_count options format c.args.count) (sound_rows format (record { records = n; members = members }) all) (wrong_in format (record { records = n; members = members }) all) old new c.show_table.result) c.record_count.ensures
    (subst (λ (first : ℕ). Ends options first (sound_rows format rules all) (wrong_in format rules all) old new c.show_table.result) c.first_count-first.ensures.same ends)

use Rattle.std.proofs.lemmas.Grind.{common_steps}
use Rattle.std.proofs.Common.{◌≡◌, ◌∙◌, ◌+◌, ℕ, None, Option, Some, map, refl, ap, arith, rules}
use Rattle.csv.specs.Records.{fields_of}
use Rattle.ruled_database.specs.Listings.{rows_to_come, stored_of, with_row}
use Rattle.ruled_database.specs.declared.fault.TableFault.TheVariants.{Memory}
use Rattle.ruled_database.specs.declared.table.RowReader.{RowReader}
use Rattle.ruled_database.specs.declared.table.TableReader.{TableReader}
use Rattle.ruled_database.specs.declared.tree.Cursor.{Cursor}
use Rattle.ruled_database.specs.declared.tree.StoredRow.{StoredRow}
use Rattle.ruled_database.proofs.Reading.{pushed-more, pushed-none, pushes-all, pushes-bad-row, pushes-memory, pushes-more, pushes-no-row}
use Rattle.ruled_database.proofs.table.TableReader.push_rows.Goals as goal

abbrev later_on : TableReader → Cursor → RowReader → ℕ → TableReader
later_on reader stored rows given = record { definition = reader.definition; stored = stored; reader = rows; given = given }

pub loop-init : goal.loop-init
loop-init c = λ file name null_text given read. pushed-none file name null_text given (map fields_of c.args.rows.now.items) c.args.self.now read

pub returns-in_err-row : goal.returns-in_err-row
returns-in_err-row c = λ file name null_text given read.
    let reader = c.loop.self in
    pushes-no-row file name null_text given (map fields_of c.args.rows.now.items) c.loop.counter c.args.count (map fields_of c.loop.rows.items) reader (omega arith) (c.loop.invariant file name null_text given read)
    (later_on reader c.next.new.self reader.reader reader.given) c.from_residual.result c.in_err-row.field-0.0 c.from_residual.ensures.1 c.in_err-row.ensures.fault

pub returns-in_default : goal.returns-in_default
returns-in_default c = λ file name null_text given read.
    let reader = c.loop.self in
    let none : c.in_ok-row.field-0 ≡ None = search rules in
    pushes-all file name null_text given (map fields_of c.args.rows.now.items) c.loop.counter c.args.count (map fields_of c.loop.rows.items) reader (omega arith) (c.loop.invariant file name null_text given read)
    (later_on reader c.next.new.self reader.reader reader.given) (c.in_ok-row.ensures.end none)

pub returns-in_err-given : goal.returns-in_err-given
returns-in_err-given c = λ file name null_text given read.
    let reader = c.loop.self in
    let memory : c.in_err-given.field-0.0 ≡ Memory = search rules in
    pushes-memory file name null_text given (map fields_of c.args.rows.now.items) c.loop.counter c.args.count (map fields_of c.loop.rows.items) reader (omega arith) (c.loop.invariant file name null_text given read)
    (later_on reader c.next.new.self reader.reader reader.given) c.from_residual-in_err-given.result c.in_err-given.field-0.0 c.from_residual-in_err-given.ensures.1 memory

pub returns-in_err-push_row : goal.returns-in_err-push_row
returns-in_err-push_row c = λ file name null_text given read.
    let reader = c.loop.self in
    let later = rows_to_come c.next.new.self in
    let is : c.in_ok-row.field-0 ≡ Some c.in-Some.row = search rules in
    let come = c.in_ok-row.ensures.rows ∙ ap (λ (it : Option StoredRow). with_row it later) is in
    pushes-bad-row file name null_text given (map fields_of c.args.rows.now.items) c.loop.counter c.args.count (map fields_of c.loop.rows.items) reader (omega arith) (c.loop.invariant file name null_text given read)
    (stored_of c.in-Some.row) later come (later_on reader c.next.new.self c.push_row.new.self reader.given) c.from_residual-in_err-push_row.result c.in_err-push_row.field-0.0 c.push_row.new.self.overflow.left
    (map fields_of c.push_row.new.rows.items) c.from_residual-in_err-push_row.ensures.1 (ap (map fields_of) c.in_err-push_row.ensures.kept) c.in_err-push_row.ensures.rows

pub loop-preserved : goal.loop-preserved
loop-preserved c = λ file name null_text given read.
    let reader = c.loop.self in
    let later = rows_to_come c.next.new.self in
    let is : c.in_ok-row.field-0 ≡ Some c.in-Some.row = search rules in
    let come = c.in_ok-row.ensures.rows ∙ ap (λ (it : Option StoredRow). with_row it later) is in
    let more : c.in_ok-given.given ≡ reader.given + 1 = first_of (search rules, grind (arith, common_steps)) in
    pushed-more file name null_text given (map fields_of c.args.rows.now.items) c.loop.counter c.args.count (map fields_of c.loop.rows.items) reader (omega arith) (c.loop.invariant file name null_text given read)
    (stored_of c.in-Some.row) later come (later_on reader c.next.new.self c.push_row.new.self c.in_ok-given.given) (map fields_of c.push_row.new.rows.items) refl c.push_row.ensures.file refl more c.in_ok-push_row.ensures.rows c.in_ok-push_row.ensures.text

pub returns : goal.returns
returns c = λ file name null_text given read.
    pushes-more file name null_text given (map fields_of c.args.rows.now.items) c.loop.counter c.args.count (map fields_of c.loop.rows.items) c.loop.self (omega arith) (c.loop.invariant file name null_text given read) (omega arith)

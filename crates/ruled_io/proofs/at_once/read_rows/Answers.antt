use Rattle.std.proofs.Common.{◌≡◌, ℕ, false, List, Option, None, Some, map, subst}
use Rattle.csv.specs.Records.{fields_of}
use Rattle.pg_layout.specs.Text.{Text}
use Rattle.ruled_io.specs.Faults.{but_line_in, is_memory}
use Rattle.ruled_io.specs.Input.{further_fault, joined}
use Rattle.ruled_io.specs.Runs.{AreRows, LacksInput, LacksInputs}
use Rattle.ruled_io.specs.declared.fault.RunFault.TheVariants.{Input}
use Rattle.ruled_io.proofs.Causes.{first-lacks, further-lacks, handed-known, if-so}
use Rattle.ruled_io.proofs.at_once.read_rows.Goals as goal

pub returns-in_err-rows-clause-cause : goal.returns-in_err-rows-clause-cause
returns-in_err-rows-clause-cause g c =
    let request = c.args.request.now in
    let given = g.R.Read.remaining c.args.pieces.now.input in
    let found = c.in_err-rows.field-0.0 in
    handed-known given found c.from_residual.result (λ bytes fault. LacksInputs request bytes fault) c.from_residual.ensures.1
    (if-so {P = λ bytes. LacksInput c.rows_needed.result request.source bytes found} given c.in_err-rows.ensures.cause
    (λ bytes lacks. first-lacks request bytes found (subst (λ (needed : Option ℕ). LacksInput needed request.source bytes found) c.rows_needed.ensures lacks)))

pub returns-in_err-joined-clause-cause : goal.returns-in_err-joined-clause-cause
returns-in_err-joined-clause-cause g c =
    let request = c.args.request.now in
    let given = g.R.Read.remaining c.args.pieces.now.input in
    let rows : List (List Text) = map fields_of c.in_ok-rows.rows.items in
    let found = c.in_err-joined.field-0.0 in
    let tells : is_memory found ≡ false → further_fault request.view request.further.items rows ≡ Some (but_line_in found) = rw c.deref.ensures.value at c.in_err-joined.ensures.fault in
    handed-known given (Input found) c.from_residual-in_err-joined.result (λ bytes fault. LacksInputs request bytes fault) c.from_residual-in_err-joined.ensures.1
    (if-so {P = λ bytes. AreRows c.rows_needed.result request.source bytes rows} given c.in_ok-rows.ensures.rows
    (λ bytes are. further-lacks request bytes rows found tells (subst (λ (needed : Option ℕ). AreRows needed request.source bytes rows) c.rows_needed.ensures are)))

pub returns-clause-rows : goal.returns-clause-rows
returns-clause-rows g c =
    let request = c.args.request.now in
    let given = g.R.Read.remaining c.args.pieces.now.input in
    let rows : List (List Text) = map fields_of c.in_ok-rows.rows.items in
    let all : List (List Text) = map fields_of c.in_ok-joined.field-0.items in
    let none : further_fault request.view request.further.items rows ≡ None = rw c.deref.ensures.value at c.in_ok-joined.ensures.fault in
    let are : all ≡ joined request.view request.further.items rows = rw c.deref.ensures.value at c.in_ok-joined.ensures.rows in
    if-so {P = λ bytes. AreRows c.rows_needed.result request.source bytes rows} given c.in_ok-rows.ensures.rows
    (λ bytes these. (rows, subst (λ (needed : Option ℕ). AreRows needed request.source bytes rows) c.rows_needed.ensures these, none, are))

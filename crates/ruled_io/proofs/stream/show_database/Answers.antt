use Rattle.std.proofs.Common.{◌≡◌, ◌++◌, [], ℕ, List, Some, Result, Err, true, refl, rules}
use Rattle.ruled_io.specs.Requests.{hides_rows, log_of, selection_of}
use Rattle.ruled_io.specs.Stream.{AreOfDatabase}
use Rattle.ruled_io.specs.declared.fault.InputFault.TheVariants.{Log, Stream}
use Rattle.ruled_io.specs.declared.fault.RunFault.{RunFault}
use Rattle.ruled_io.specs.declared.fault.RunFault.TheVariants.{Input}
use Rattle.ruled_io.specs.declared.fault.StreamedFault.TheVariants.{Database}
use Rattle.ruled_io.specs.declared.program.Remarks.{Remarks}
use Rattle.ruled_io.specs.declared.request.Selection.TheVariants.{Table}
use Rattle.ruled_io.proofs.Inputs.{log-ends, stored-fails, unasked-ends}
use Rattle.ruled_io.proofs.Tables.{read-fails}
use Rattle.ruled_io.proofs.stream.show_database.Goals as goal
use Rattle.ruled_io.proofs.stream.show_database.Goals.{in-Some+in-Query-1, in-Some+in-Tables-1, in-None-1}

pub returns-in_err-read_rest-in-Some-Table-clause-ends : goal.returns-in_err-read_rest-in-Some-Table-clause-ends
returns-in_err-read_rest-in-Some-Table-clause-ends g c = λ rest known holds.
    let request = c.args.request.now in
    let found = c.in_err-read_rest-in-Some-Table.field-0.0 in
    let asked : selection_of request.source ≡ Some (Table c.in-Some-Table.name c.in-Some-Table.null) = search rules in
    stored-fails request c.args.count (c.args.front.items ++ rest) holds c.in-Some-Table.name c.in-Some-Table.null asked (g.W.Write.contents c.args.out.now.writer) found c.from_residual.result c.from_residual.ensures.1 (read-fails found c.in_err-read_rest-in-Some-Table.ensures.failed)

pub returns-then-hides_rows-clause-ends : goal.returns-then-hides_rows-clause-ends
returns-then-hides_rows-clause-ends g c = λ rest known holds.
    let request = c.args.request.now in
    let all : List ℕ = c.args.front.items ++ rest in
    let asked : selection_of request.source ≡ Some (Table c.in-Some-Table.name c.in-Some-Table.null) = search rules in
    let r : Result Remarks RunFault = Err (Input Log) in
    let bytes : c.read_rest.new.bytes.items ≡ all = search rules in
    let hides : hides_rows (log_of request.source) all ≡ true = search rules in
    log-ends request c.args.count all holds c.in-Some-Table.name c.in-Some-Table.null asked (g.W.Write.contents c.args.out.now.writer) r hides refl

pub returns-in-Some-Query-clause-ends : goal.returns-in-Some-Query-clause-ends
returns-in-Some-Query-clause-ends g c = λ rest known holds.
    let request = c.args.request.now in
    let all : List ℕ = c.args.front.items ++ rest in
    let r : Result Remarks RunFault = Err (Input (Stream Database)) in
    let are : AreOfDatabase request c.args.count all (selection_of request.source) [] (Some (Stream Database)) = elim c.in-Some-Query-1.branch [
      | in-Some+in-Query-1 w ↦ search rules
      | in-Some+in-Tables-1 w ↦ search rules
      | in-None-1 w ↦ search rules
    ] in
    unasked-ends request c.args.count all holds (selection_of request.source) refl are (g.W.Write.contents c.args.out.now.writer) r refl

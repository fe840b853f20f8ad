use Rattle.std.proofs.Common.{[], ◌++◌, List, map, Err, Result, refl, sym, ap, subst}
use Rattle.std.proofs.KnownBytes.{Keeps-refl}
use Rattle.csv.specs.Records.{Row, fields_of}
use Rattle.ruled_io.specs.declared.fault.InputFault.TheVariants.{Memory}
use Rattle.ruled_io.specs.declared.fault.RunFault.{RunFault}
use Rattle.ruled_io.specs.declared.fault.RunFault.TheVariants.{Input}
use Rattle.ruled_io.specs.Reading.{read_failure}
use Rattle.ruled_io.proofs.Shows.{write-handed}
use Rattle.ruled_io.proofs.Tables.{Runs, read-fails, runs-begin, runs-end, runs-fail, runs-on, runs-stop, runs-wrote, write-fails}
use Rattle.ruled_io.proofs.stream.write_table.Goals as goal

pub loop-init : goal.loop-init
loop-init g c = (
  λ options plan origin above stands has.
      runs-begin options plan origin above (map fields_of c.args.rows.items) (g.R.Read.remaining c.args.pieces.now.input) c.args.reading c.args.table (g.W.Write.contents c.args.out.now.writer) stands has,
  λ none. none,
)

pub returns-in_err-write_rows-clause-ends : goal.returns-in_err-write_rows-clause-ends
returns-in_err-write_rows-clause-ends g c = λ options plan origin above stands has.
    let left = g.R.Read.remaining c.loop.pieces.input in
    let old = g.W.Write.contents c.args.out.now.writer in
    let mid = g.W.Write.contents c.loop.out.writer in
    let new = g.W.Write.contents c.write_rows.new.out.writer in
    let runs = subst (λ (rows : List Row). Runs options plan origin (above ++ map fields_of c.args.rows.items) c.args.reading above left c.loop.reading (map fields_of rows) c.loop.table old mid) (sym c.deref.ensures.value) (c.loop.invariant.0 options plan origin above stands has) in
    runs-stop options plan origin (above ++ map fields_of c.args.rows.items) c.args.reading above (map fields_of c.deref.result.now) left c.loop.reading c.loop.table old mid new c.in_err-write_rows.field-0.0 c.from_residual.result c.from_residual.ensures.1
    (λ done some. c.in_err-write_rows.ensures.failed options plan done some) runs

pub returns-in-Done-clause-ends : goal.returns-in-Done-clause-ends
returns-in-Done-clause-ends g c = λ options plan origin above stands has.
    let left = g.R.Read.remaining c.loop.pieces.input in
    let old = g.W.Write.contents c.args.out.now.writer in
    let mid = g.W.Write.contents c.loop.out.writer in
    let wrote = g.W.Write.contents c.write_rows.new.out.writer in
    let new = g.W.Write.contents c.write_end.new.out.writer in
    let runs = subst (λ (rows : List Row). Runs options plan origin (above ++ map fields_of c.args.rows.items) c.args.reading above left c.loop.reading (map fields_of rows) c.loop.table old mid) (sym c.deref.ensures.value) (c.loop.invariant.0 options plan origin above stands has) in
    runs-end options plan origin (above ++ map fields_of c.args.rows.items) c.args.reading above left c.loop.reading c.in-Done.wrong c.write_rows.new.table old wrote new c.write_end.result c.in-Done.is (λ rows some. c.write_end.ensures.ends options plan rows some)
    (runs-wrote options plan origin (above ++ map fields_of c.args.rows.items) c.args.reading above (map fields_of c.deref.result.now) left c.loop.reading c.loop.table c.write_rows.new.table old mid wrote
    (λ done some. c.in_ok-write_rows.ensures.after options plan done some) (λ done some. c.in_ok-write_rows.ensures.written options plan done some) runs)

pub returns-in_err-flush-in_default-clause-ends : goal.returns-in_err-flush-in_default-clause-ends
returns-in_err-flush-in_default-clause-ends g c = λ options plan origin above stands has.
    let left = g.R.Read.remaining c.loop.pieces.input in
    let old = g.W.Write.contents c.args.out.now.writer in
    let mid = g.W.Write.contents c.loop.out.writer in
    let wrote = g.W.Write.contents c.write_rows.new.out.writer in
    let found = c.in_err-flush-in_default.field-0.0 in
    let runs = subst (λ (rows : List Row). Runs options plan origin (above ++ map fields_of c.args.rows.items) c.args.reading above left c.loop.reading (map fields_of rows) c.loop.table old mid) (sym c.deref.ensures.value) (c.loop.invariant.0 options plan origin above stands has) in
    runs-fail options plan origin (above ++ map fields_of c.args.rows.items) c.args.reading above [] left c.loop.reading c.write_rows.new.table old wrote (g.W.Write.contents c.flush.new.self.writer) found c.from_residual-in_err-flush-in_default.result c.from_residual-in_err-flush-in_default.ensures.1
    (write-fails found (c.in_err-flush-in_default.ensures.failed found refl)) c.in_err-flush-in_default.ensures.kept
    (runs-wrote options plan origin (above ++ map fields_of c.args.rows.items) c.args.reading above (map fields_of c.deref.result.now) left c.loop.reading c.loop.table c.write_rows.new.table old mid wrote
    (λ done some. c.in_ok-write_rows.ensures.after options plan done some) (λ done some. c.in_ok-write_rows.ensures.written options plan done some) runs)

pub returns-in_err-reading-in_default-clause-ends : goal.returns-in_err-reading-in_default-clause-ends
returns-in_err-reading-in_default-clause-ends g c = λ options plan origin above stands has.
    let left = g.R.Read.remaining c.loop.pieces.input in
    let old = g.W.Write.contents c.args.out.now.writer in
    let mid = g.W.Write.contents c.loop.out.writer in
    let wrote = g.W.Write.contents c.write_rows.new.out.writer in
    let found = c.in_err-reading-in_default.field-0.0 in
    let runs = subst (λ (rows : List Row). Runs options plan origin (above ++ map fields_of c.args.rows.items) c.args.reading above left c.loop.reading (map fields_of rows) c.loop.table old mid) (sym c.deref.ensures.value) (c.loop.invariant.0 options plan origin above stands has) in
    runs-fail options plan origin (above ++ map fields_of c.args.rows.items) c.args.reading above [] left c.loop.reading c.write_rows.new.table old wrote (g.W.Write.contents c.flush.new.self.writer) found c.from_residual-in_err-reading-in_default.result c.from_residual-in_err-reading-in_default.ensures.1
    (read-fails found c.in_err-reading-in_default.ensures.failed) c.in_ok-flush-in_default.ensures.kept
    (runs-wrote options plan origin (above ++ map fields_of c.args.rows.items) c.args.reading above (map fields_of c.deref.result.now) left c.loop.reading c.loop.table c.write_rows.new.table old mid wrote
    (λ done some. c.in_ok-write_rows.ensures.after options plan done some) (λ done some. c.in_ok-write_rows.ensures.written options plan done some) runs)

pub loop-preserved : goal.loop-preserved
loop-preserved g c = (
  λ options plan origin above stands has.
      let left = g.R.Read.remaining c.loop.pieces.input in
      let old = g.W.Write.contents c.args.out.now.writer in
      let mid = g.W.Write.contents c.loop.out.writer in
      let wrote = g.W.Write.contents c.write_rows.new.out.writer in
      let new = g.W.Write.contents c.flush.new.self.writer in
      let runs = subst (λ (rows : List Row). Runs options plan origin (above ++ map fields_of c.args.rows.items) c.args.reading above left c.loop.reading (map fields_of rows) c.loop.table old mid) (sym c.deref.ensures.value) (c.loop.invariant.0 options plan origin above stands has) in
      runs-on options plan origin (above ++ map fields_of c.args.rows.items) c.args.reading above (map fields_of c.clear.new.self.items) (map fields_of c.read_on.new.rows.items) left (g.R.Read.remaining c.read_on.new.self.input) c.loop.reading c.in_ok-reading-in_default.reading c.write_rows.new.table old wrote new
      (ap (map fields_of) c.clear.ensures.items) c.in_ok-flush-in_default.ensures.kept
      (λ given here. c.in_ok-reading-in_default.ensures.given origin given here)
      (runs-wrote options plan origin (above ++ map fields_of c.args.rows.items) c.args.reading above (map fields_of c.deref.result.now) left c.loop.reading c.loop.table c.write_rows.new.table old mid wrote
      (λ done some. c.in_ok-write_rows.ensures.after options plan done some) (λ done some. c.in_ok-write_rows.ensures.written options plan done some) runs),
  λ none. c.in_ok-flush-in_default.ensures.told,
)

pub returns-clause-ends : goal.returns-clause-ends
returns-clause-ends g c = λ options plan origin above stands has.
    let r : Result (Unit {0}) RunFault = Err (Input Memory) in
    runs-fail options plan origin (above ++ map fields_of c.args.rows.items) c.args.reading above (map fields_of c.loop.rows.items) (g.R.Read.remaining c.loop.pieces.input) c.loop.reading c.loop.table (g.W.Write.contents c.args.out.now.writer) (g.W.Write.contents c.loop.out.writer) (g.W.Write.contents c.loop.out.writer) (Input Memory) r
    refl refl (Keeps-refl (g.W.Write.contents c.loop.out.writer)) (c.loop.invariant.0 options plan origin above stands has)

pub returns-in_err-flush-in_default-clause-noted : goal.returns-in_err-flush-in_default-clause-noted
returns-in_err-flush-in_default-clause-noted g c =
    let found = c.in_err-flush-in_default.field-0.0 in
    write-handed (read_failure c.loop.pieces) found c.from_residual-in_err-flush-in_default.result (c.in_err-flush-in_default.ensures.failed found refl) c.from_residual-in_err-flush-in_default.ensures.1

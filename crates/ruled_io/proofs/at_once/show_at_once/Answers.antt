use Rattle.std.proofs.Common.{◌∙◌, List, ℕ, map, Option}
use Rattle.csv.specs.Records.{fields_of}
use Rattle.ruled_table.specs.View.{table_fault, table_text}
use Rattle.ruled_io.specs.Reading.{read_failure}
use Rattle.ruled_io.specs.Runs.{AreJoined, CausedAtOnce, LacksInputs}
use Rattle.ruled_io.proofs.Shows.{draws-unread, no-read, read-handed, writes-only}
use Rattle.ruled_io.proofs.Causes.{after-drawn, draws-caused, early-handed, handed-known, if-so, lacks-caused, late, remarked-by, shown-drawn, unwritten-told}
use Rattle.ruled_io.proofs.at_once.show_at_once.Goals as goal

pub returns-in_err-rows-clause-cause : goal.returns-in_err-rows-clause-cause
returns-in_err-rows-clause-cause g c =
    let request = c.args.request.now in
    let given = g.R.Read.remaining c.args.pieces.now.input in
    let old = g.W.Write.contents c.args.out.now.writer in
    let found = c.in_err-rows.field-0.0 in
    handed-known given found c.from_residual.result (λ bytes fault. CausedAtOnce request bytes fault old old) c.from_residual.ensures.1
    (if-so {P = λ bytes. LacksInputs request bytes found} given c.in_err-rows.ensures.cause (λ bytes lacks. lacks-caused request bytes old found lacks))

pub returns-in_err-wide-clause-cause : goal.returns-in_err-wide-clause-cause
returns-in_err-wide-clause-cause g c =
    let request = c.args.request.now in
    let given = g.R.Read.remaining c.args.pieces.now.input in
    let old = g.W.Write.contents c.args.out.now.writer in
    let new = g.W.Write.contents c.show_rows.new.out.writer in
    let rows : List (List (List ℕ)) = map fields_of c.in_ok-rows.rows.items in
    let found = c.in_err-wide.field-0.0 in
    handed-known given found c.from_residual-in_err-wide.result (λ bytes fault. CausedAtOnce request bytes fault old new) c.from_residual-in_err-wide.ensures.1
    (if-so {P = λ bytes. AreJoined request bytes rows} given c.in_ok-rows.ensures.rows (λ bytes are. draws-caused request bytes rows are (Option ℕ) old new found c.in_err-wide.ensures.draws))

pub returns-in_err-wide-clause-unwritten : goal.returns-in_err-wide-clause-unwritten
returns-in_err-wide-clause-unwritten g c =
    let request = c.args.request.now in
    let rows : List (List (List ℕ)) = map fields_of c.in_ok-rows.rows.items in
    early-handed (Option ℕ) (table_text request.view rows) (table_fault request.view rows) (g.W.Write.contents c.args.out.now.writer) (g.W.Write.contents c.show_rows.new.out.writer) c.in_err-wide.field-0.0 c.from_residual-in_err-wide.result
    c.in_err-wide.ensures.draws c.from_residual-in_err-wide.ensures.1

pub returns-clause-shown : goal.returns-clause-shown
returns-clause-shown g c =
    let request = c.args.request.now in
    let given = g.R.Read.remaining c.args.pieces.now.input in
    let rows : List (List (List ℕ)) = map fields_of c.in_ok-rows.rows.items in
    shown-drawn given request rows (g.W.Write.contents c.args.out.now.writer) (g.W.Write.contents c.show_rows.new.out.writer) (g.W.Write.contents c.flush_remarked.new.out.writer) c.flush_remarked.result
    c.in_ok-rows.ensures.rows c.in_ok-wide.ensures.draws c.flush_remarked.ensures.kept

pub returns-clause-cause : goal.returns-clause-cause
returns-clause-cause g c =
    let request = c.args.request.now in
    let given = g.R.Read.remaining c.args.pieces.now.input in
    let rows : List (List (List ℕ)) = map fields_of c.in_ok-rows.rows.items in
    after-drawn given request rows (g.W.Write.contents c.args.out.now.writer) (g.W.Write.contents c.show_rows.new.out.writer) (g.W.Write.contents c.flush_remarked.new.out.writer) c.flush_remarked.result
    c.in_ok-rows.ensures.rows c.in_ok-wide.ensures.draws c.flush_remarked.ensures.kept c.flush_remarked.ensures.failed

pub returns-in_err-rows-clause-told : goal.returns-in_err-rows-clause-told
returns-in_err-rows-clause-told g c = λ none. none ∙ unwritten-told c.in_err-rows.field-0.0 c.from_residual.result c.in_err-rows.ensures.unwritten c.from_residual.ensures.1

pub returns-clause-unwritten : goal.returns-clause-unwritten
returns-clause-unwritten g c = late _ c.flush_remarked.result c.flush_remarked.ensures.failed

pub returns-in_err-wide-clause-noted : goal.returns-in_err-wide-clause-noted
returns-in_err-wide-clause-noted g c =
    let failed = read_failure c.read_rows.new.pieces in
    let found = c.in_err-wide.field-0.0 in
    read-handed failed found c.from_residual-in_err-wide.result c.from_residual-in_err-wide.ensures.1 (draws-unread (Option ℕ) failed _ _ _ _ found c.in_err-wide.ensures.draws)

pub returns-clause-noted : goal.returns-clause-noted
returns-clause-noted g c = no-read (read_failure c.read_rows.new.pieces) c.flush_remarked.result (writes-only c.flush_remarked.result c.flush_remarked.ensures.failed)

pub returns-clause-remarks : goal.returns-clause-remarks
returns-clause-remarks g c =
    let request = c.args.request.now in
    let rows : List (List (List ℕ)) = map fields_of c.in_ok-rows.rows.items in
    remarked-by (g.R.Read.remaining c.args.pieces.now.input) request rows c.padded_rows-padded.result c.in_ok-wide.wide c.inner_place-inner.result c.flush_remarked.result c.in_ok-rows.ensures.rows (rw c.deref.ensures.value at c.padded_rows-padded.ensures) c.in_ok-wide.ensures.wide
    (rw c.deref-2.ensures.value at c.inner_place-inner.ensures) c.flush_remarked.ensures.remarks

use Rattle.std.proofs.Common.{map, ◌∙◌}
use Rattle.std.proofs.lemmas.Result.{err_from_is_err_and}
use Rattle.pg_stream.specs.Inside.{streamed}
use Rattle.pg_stream.specs.Streams.{Streaming}
use Rattle.pg_stream.proofs.stream.StreamedRows.{none-pushed, pushed-next, pushed-stops, pushed-ends, untouched, touched, some-row}
use Rattle.pg_stream.proofs.stream.StreamedResults.{none-behind, run-goes, run-stops, run-ends}
use Rattle.pg_stream.proofs.stream.held_rows.HeldRows.push_all.Goals as goal

pub loop-row-init : goal.loop-row-init
loop-row-init g c =
    rw (c.into_iter-row-iterator.ensures.into_iter_gives, c.with_room-pushed.ensures) (
      c.requires.can,
      c.requires.ends,
      λ texts left. none-pushed (Unit {0}) (λ x. map g.S.AsStr.text x.items) g.I.Iterator.next_gives c.args.buf.now c.args.rows (streamed g.S.AsStr.text g.T.TableMarker.table c.args.frame.now.hint c.args.self) texts left,
      (record { printer = c.requires.sound.0.printer; kept = tt }, c.requires.sound.1),
      none-behind c.args.buf.now (streamed g.S.AsStr.text g.T.TableMarker.table c.args.frame.now.hint c.args.self),
      untouched g.I.Iterator.next_gives c.args.self.held c.args.rows c.args.buf.now,
    )

pub loop-row-preserved : goal.loop-row-preserved
loop-row-preserved g c =
    let goes = c.in-Some.ensures.goes.on c.loop-row.invariant.1 in
    let now : Streaming = streamed g.S.AsStr.text g.T.TableMarker.table c.args.frame.now.hint c.loop-row.pushed in
    let next : Streaming = streamed g.S.AsStr.text g.T.TableMarker.table c.args.frame.now.hint c.push.new.self in
    let began : Streaming = streamed g.S.AsStr.text g.T.TableMarker.table c.args.frame.now.hint c.args.self in (
      goes.0,
      goes.1,
      λ texts left. pushed-next (Unit {0}) (λ x. map g.S.AsStr.text x.items) g.I.Iterator.next_gives now next began texts c.in-Some.row (c.loop-row.invariant.2 texts left) c.in-Some.ensures.steps c.in_ok-push.ensures.prints c.in_ok-push.ensures.after,
      c.in_ok-push.ensures.sound,
      run-goes (λ x. map g.S.AsStr.text x.items) g.I.Iterator.next_gives c.loop-row.yielded now next began c.in-Some.row c.loop-row.invariant.4 c.in_ok-push.ensures.prints c.in_ok-push.ensures.after,
      touched g.I.Iterator.next_gives c.in-Some.row c.loop-row.invariant.5 c.in-Some.ensures.steps,
    )

pub returns-in_err-push-clause-prints : goal.returns-in_err-push-clause-prints
returns-in_err-push-clause-prints g c =
    let p = err_from_is_err_and c.from_residual.result c.from_residual.ensures.1 in
    let now : Streaming = streamed g.S.AsStr.text g.T.TableMarker.table c.args.frame.now.hint c.loop-row.pushed in
    let began : Streaming = streamed g.S.AsStr.text g.T.TableMarker.table c.args.frame.now.hint c.args.self in
    rw (p.1, p.2) (λ texts left. pushed-stops (Unit {0}) (λ x. map g.S.AsStr.text x.items) g.I.Iterator.next_gives now began texts c.in_err-push.field-0.0 c.in-Some.row (c.loop-row.invariant.2 texts left) c.in-Some.ensures.steps c.in_err-push.ensures.prints)

pub returns-in_err-push-clause-runs : goal.returns-in_err-push-clause-runs
returns-in_err-push-clause-runs g c =
    let p = err_from_is_err_and c.from_residual.result c.from_residual.ensures.1 in
    let now : Streaming = streamed g.S.AsStr.text g.T.TableMarker.table c.args.frame.now.hint c.loop-row.pushed in
    let began : Streaming = streamed g.S.AsStr.text g.T.TableMarker.table c.args.frame.now.hint c.args.self in
    rw (p.1, p.2, ← c.into_iter-row-iterator.ensures.into_iter_gives) (run-stops (λ x. map g.S.AsStr.text x.items) g.I.Iterator.next_gives c.loop-row.yielded now began c.in_err-push.field-0.0 c.in-Some.row c.loop-row.yielded_by c.loop-row.invariant.4 c.in-Some.ensures.steps c.in_err-push.ensures.prints)

pub returns-clause-prints : goal.returns-clause-prints
returns-clause-prints g c =
    let now : Streaming = streamed g.S.AsStr.text g.T.TableMarker.table c.args.frame.now.hint c.loop-row.pushed in
    let began : Streaming = streamed g.S.AsStr.text g.T.TableMarker.table c.args.frame.now.hint c.args.self in
    λ texts left. pushed-ends (Unit {0}) (λ x. map g.S.AsStr.text x.items) g.I.Iterator.next_gives now began texts c.finish.result (c.loop-row.invariant.2 texts left) c.in-None.ensures.steps c.finish.ensures.prints

pub returns-clause-runs : goal.returns-clause-runs
returns-clause-runs g c =
    let now : Streaming = streamed g.S.AsStr.text g.T.TableMarker.table c.args.frame.now.hint c.loop-row.pushed in
    let began : Streaming = streamed g.S.AsStr.text g.T.TableMarker.table c.args.frame.now.hint c.args.self in
    rw (← c.into_iter-row-iterator.ensures.into_iter_gives) (run-ends (λ x. map g.S.AsStr.text x.items) g.I.Iterator.next_gives c.loop-row.yielded now began c.finish.result c.loop-row.yielded_by c.loop-row.invariant.4 c.in-None.ensures.steps c.finish.ensures.prints)

-- a row that was pushed came from the iterator
pub returns-in_err-push-clause-empty : goal.returns-in_err-push-clause-empty
returns-in_err-push-clause-empty g c = λ none never. absurd (some-row g.I.Iterator.next_gives c.in-Some.row c.loop-row.invariant.5 c.in-Some.ensures.steps none never)

pub returns-clause-empty : goal.returns-clause-empty
returns-clause-empty g c = λ none never.
    let so = c.loop-row.invariant.5.so none never in
    let ends = c.finish.ensures.empty so.0 in
    (ends.0, ends.1 ∙ so.2)

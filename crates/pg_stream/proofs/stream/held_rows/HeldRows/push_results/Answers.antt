use Rattle.std.proofs.Common.{List, map, Result, Ok, Err, refl, sym, ap, ◌∙◌, is_ok}
use Rattle.std.proofs.lemmas.Bool.{false≢true}
use Rattle.std.specs.Result.{result_map_both}
use Rattle.std.proofs.lemmas.Result.{err_from_is_err_and}
use Rattle.pg_layout.specs.Text.{Text}
use Rattle.pg_stream.specs.Inside.{streamed}
use Rattle.pg_stream.specs.Streams.{Streaming}
use Rattle.pg_stream.specs.declared.fault.RowsFault.{RowsFault}
use Rattle.pg_stream.proofs.stream.StreamedResults.{none-streamed, item-taken, streamed-next, streamed-stops, streamed-fails, streamed-ends, none-ran, results-go-on, results-stop, results-fail, results-end-ok, results-end-err}
use Rattle.pg_stream.proofs.stream.StreamedRows.{untouched, touched, some-row}
use Rattle.pg_stream.proofs.stream.held_rows.HeldRows.push_results.Goals as goal

pub loop-row-init : goal.loop-row-init
loop-row-init g c =
    rw c.with_room-pushed.ensures (
      c.requires.can,
      c.requires.ends,
      λ items left. none-streamed (Unit {0}) (λ x. result_map_both (λ row. map g.S.AsStr.text row.items) (λ error. error) x) g.I.Iterator.next_gives c.args.buf.now c.args.rows.now (streamed g.S.AsStr.text g.T.TableMarker.table c.args.frame.now.hint c.args.self) items left,
      (record { printer = c.requires.sound.0.printer; kept = tt }, c.requires.sound.1),
      none-ran (λ x. result_map_both (λ row. map g.S.AsStr.text row.items) (λ error. error) x) g.I.Iterator.next_gives c.args.buf.now (streamed g.S.AsStr.text g.T.TableMarker.table c.args.frame.now.hint c.args.self) c.args.rows.now,
      untouched g.I.Iterator.next_gives c.args.self.held c.args.rows.now c.args.buf.now,
    )

pub returns-in-Err-clause-prints : goal.returns-in-Err-clause-prints
returns-in-Err-clause-prints g c =
    let now : Streaming = streamed g.S.AsStr.text g.T.TableMarker.table c.args.frame.now.hint c.loop-row.pushed in
    let began : Streaming = streamed g.S.AsStr.text g.T.TableMarker.table c.args.frame.now.hint c.args.self in
    let view : Result _ g.row.E.Denot → Result (List Text) g.row.E.Denot = λ x. result_map_both (λ row. map g.S.AsStr.text row.items) (λ error. error) x in
    λ items left.
    streamed-fails (Unit {0}) view g.I.Iterator.next_gives now began items c.in-Err.error
    (item-taken (Unit {0}) view g.I.Iterator.next_gives now began items c.in-Some.row (Err c.in-Err.error) (c.loop-row.invariant.2 items left) c.in-Some.ensures.steps (ap view c.in-Err.is))

pub returns-in-Err-clause-runs : goal.returns-in-Err-clause-runs
returns-in-Err-clause-runs g c =
    let now : Streaming = streamed g.S.AsStr.text g.T.TableMarker.table c.args.frame.now.hint c.loop-row.pushed in
    let began : Streaming = streamed g.S.AsStr.text g.T.TableMarker.table c.args.frame.now.hint c.args.self in
    let view : Result _ g.row.E.Denot → Result (List Text) g.row.E.Denot = λ x. result_map_both (λ row. map g.S.AsStr.text row.items) (λ error. error) x in
    (results-fail view g.I.Iterator.next_gives now began c.in-Err.error c.in-Some.row c.loop-row.invariant.4 c.in-Some.ensures.steps (ap view c.in-Err.is))

pub returns-in_err-push-clause-prints : goal.returns-in_err-push-clause-prints
returns-in_err-push-clause-prints g c =
    let p = err_from_is_err_and c.from_residual.result c.from_residual.ensures.1 in
    let now : Streaming = streamed g.S.AsStr.text g.T.TableMarker.table c.args.frame.now.hint c.loop-row.pushed in
    let began : Streaming = streamed g.S.AsStr.text g.T.TableMarker.table c.args.frame.now.hint c.args.self in
    let view : Result _ g.row.E.Denot → Result (List Text) g.row.E.Denot = λ x. result_map_both (λ row. map g.S.AsStr.text row.items) (λ error. error) x in
    let cells : List Text = map g.S.AsStr.text c.in-Ok.cells.items in
    rw (p.1, p.2) (λ items left.
    streamed-stops (Unit {0}) view g.I.Iterator.next_gives now began items c.in_err-push.field-0.0 cells
    (item-taken (Unit {0}) view g.I.Iterator.next_gives now began items c.in-Some.row (Ok cells) (c.loop-row.invariant.2 items left) c.in-Some.ensures.steps (ap view c.in-Ok.is)) c.in_err-push.ensures.prints)

pub returns-in_err-push-clause-runs : goal.returns-in_err-push-clause-runs
returns-in_err-push-clause-runs g c =
    let p = err_from_is_err_and c.from_residual.result c.from_residual.ensures.1 in
    let now : Streaming = streamed g.S.AsStr.text g.T.TableMarker.table c.args.frame.now.hint c.loop-row.pushed in
    let began : Streaming = streamed g.S.AsStr.text g.T.TableMarker.table c.args.frame.now.hint c.args.self in
    let view : Result _ g.row.E.Denot → Result (List Text) g.row.E.Denot = λ x. result_map_both (λ row. map g.S.AsStr.text row.items) (λ error. error) x in
    let cells : List Text = map g.S.AsStr.text c.in-Ok.cells.items in
    rw (p.1, p.2) (results-stop view g.I.Iterator.next_gives now began c.in_err-push.field-0.0 c.in-Some.row cells c.loop-row.invariant.4 c.in-Some.ensures.steps (ap view c.in-Ok.is) c.in_err-push.ensures.prints)

pub loop-row-preserved : goal.loop-row-preserved
loop-row-preserved g c =
    let goes = c.in-Some.ensures.goes.on c.loop-row.invariant.1 in
    let now : Streaming = streamed g.S.AsStr.text g.T.TableMarker.table c.args.frame.now.hint c.loop-row.pushed in
    let next : Streaming = streamed g.S.AsStr.text g.T.TableMarker.table c.args.frame.now.hint c.push.new.self in
    let began : Streaming = streamed g.S.AsStr.text g.T.TableMarker.table c.args.frame.now.hint c.args.self in
    let view : Result _ g.row.E.Denot → Result (List Text) g.row.E.Denot = λ x. result_map_both (λ row. map g.S.AsStr.text row.items) (λ error. error) x in
    let cells : List Text = map g.S.AsStr.text c.in-Ok.cells.items in (
      goes.0,
      goes.1,
      λ items left.
          streamed-next (Unit {0}) view g.I.Iterator.next_gives now next began items cells
          (item-taken (Unit {0}) view g.I.Iterator.next_gives now began items c.in-Some.row (Ok cells) (c.loop-row.invariant.2 items left) c.in-Some.ensures.steps (ap view c.in-Ok.is)) c.in_ok-push.ensures.prints c.in_ok-push.ensures.after,
      c.in_ok-push.ensures.sound,
      results-go-on view g.I.Iterator.next_gives now next began c.in-Some.row cells c.loop-row.invariant.4 c.in-Some.ensures.steps (ap view c.in-Ok.is) c.in_ok-push.ensures.prints c.in_ok-push.ensures.after,
      touched g.I.Iterator.next_gives c.in-Some.row c.loop-row.invariant.5 c.in-Some.ensures.steps,
    )

pub returns-in_err-finish-clause-prints : goal.returns-in_err-finish-clause-prints
returns-in_err-finish-clause-prints g c =
    let p = err_from_is_err_and c.from_residual-in_err-finish.result c.from_residual-in_err-finish.ensures.1 in
    let now : Streaming = streamed g.S.AsStr.text g.T.TableMarker.table c.args.frame.now.hint c.loop-row.pushed in
    let began : Streaming = streamed g.S.AsStr.text g.T.TableMarker.table c.args.frame.now.hint c.args.self in
    let view : Result _ g.row.E.Denot → Result (List Text) g.row.E.Denot = λ x. result_map_both (λ row. map g.S.AsStr.text row.items) (λ error. error) x in
    rw (p.1, p.2) (λ items left.
    streamed-ends (Unit {0}) view g.I.Iterator.next_gives c.finish.new.buf now began items (Err (RowsFault.Stream c.in_err-finish.field-0.0)) (c.loop-row.invariant.2 items left) c.in_default.ensures.steps c.in_err-finish.ensures.prints)

pub returns-in_err-finish-clause-runs : goal.returns-in_err-finish-clause-runs
returns-in_err-finish-clause-runs g c =
    let p = err_from_is_err_and c.from_residual-in_err-finish.result c.from_residual-in_err-finish.ensures.1 in
    let now : Streaming = streamed g.S.AsStr.text g.T.TableMarker.table c.args.frame.now.hint c.loop-row.pushed in
    let began : Streaming = streamed g.S.AsStr.text g.T.TableMarker.table c.args.frame.now.hint c.args.self in
    let view : Result _ g.row.E.Denot → Result (List Text) g.row.E.Denot = λ x. result_map_both (λ row. map g.S.AsStr.text row.items) (λ error. error) x in
    rw (p.1, p.2) (results-end-err view g.I.Iterator.next_gives now began c.in_err-finish.field-0.0 c.loop-row.invariant.4 c.in_default.ensures.steps c.in_err-finish.ensures.prints)

pub returns-clause-prints : goal.returns-clause-prints
returns-clause-prints g c =
    let now : Streaming = streamed g.S.AsStr.text g.T.TableMarker.table c.args.frame.now.hint c.loop-row.pushed in
    let began : Streaming = streamed g.S.AsStr.text g.T.TableMarker.table c.args.frame.now.hint c.args.self in
    let view : Result _ g.row.E.Denot → Result (List Text) g.row.E.Denot = λ x. result_map_both (λ row. map g.S.AsStr.text row.items) (λ error. error) x in
    λ items left. streamed-ends (Unit {0}) view g.I.Iterator.next_gives c.finish.new.buf now began items (Ok tt) (c.loop-row.invariant.2 items left) c.in_default.ensures.steps (refl, c.in_ok-finish.ensures.prints)

pub returns-clause-runs : goal.returns-clause-runs
returns-clause-runs g c =
    let now : Streaming = streamed g.S.AsStr.text g.T.TableMarker.table c.args.frame.now.hint c.loop-row.pushed in
    let began : Streaming = streamed g.S.AsStr.text g.T.TableMarker.table c.args.frame.now.hint c.args.self in
    let view : Result _ g.row.E.Denot → Result (List Text) g.row.E.Denot = λ x. result_map_both (λ row. map g.S.AsStr.text row.items) (λ error. error) x in
    (results-end-ok view g.I.Iterator.next_gives now began c.loop-row.invariant.4 c.in_default.ensures.steps c.in_ok-finish.ensures.prints)

-- an item that was taken came from the iterator
pub returns-in-Err-clause-empty : goal.returns-in-Err-clause-empty
returns-in-Err-clause-empty g c = λ none never. absurd (some-row g.I.Iterator.next_gives c.in-Some.row c.loop-row.invariant.5 c.in-Some.ensures.steps none never)

pub returns-in_err-push-clause-empty : goal.returns-in_err-push-clause-empty
returns-in_err-push-clause-empty g c = λ none never. absurd (some-row g.I.Iterator.next_gives c.in-Some.row c.loop-row.invariant.5 c.in-Some.ensures.steps none never)

pub returns-in_err-finish-clause-empty : goal.returns-in_err-finish-clause-empty
returns-in_err-finish-clause-empty g c = λ none never.
    let so = c.loop-row.invariant.5.so none never in
    let ends = c.finish.ensures.empty so.0 in
    absurd (false≢true (ap is_ok (sym c.in_err-finish.was) ∙ ends.0))

pub returns-clause-empty : goal.returns-clause-empty
returns-clause-empty g c = λ none never.
    let so = c.loop-row.invariant.5.so none never in
    let ends = c.finish.ensures.empty so.0 in
    (refl, ends.1 ∙ so.2)

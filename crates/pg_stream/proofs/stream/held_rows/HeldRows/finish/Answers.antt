use Rattle.std.proofs.Common.{map, option_map, refl, ap, inr, Ok, Err}
use Rattle.std.proofs.lemmas.Result.{err_from_is_err_and}
use Rattle.pg_picture.proofs.Appending.{refused-as, appended-as, Appends-text, Gained-none, Gained-all}
use Rattle.pg_stream.specs.Inside.{streamed}
use Rattle.pg_stream.specs.Printers.{now_of}
use Rattle.pg_stream.specs.Printing.{Printing, after_row}
use Rattle.pg_stream.specs.Streams.{Streaming}
use Rattle.pg_stream.specs.declared.fault.StreamFault.{StreamFault}
use Rattle.pg_stream.proofs.printer.Ending.{finish-none}
use Rattle.pg_stream.proofs.stream.StreamedRows.{end-stops, end-some, end-none}
use Rattle.pg_stream.proofs.stream.held_rows.HeldRows.finish.Goals as goal

pub returns-in_default-clause-prints : goal.returns-in_default-clause-prints
returns-in_default-clause-prints g c =
    let s : Streaming = streamed g.S.AsStr.text g.T.TableMarker.table c.args.frame.now.hint c.args.self in
    end-none (Ok tt) s (ap (λ held. option_map (λ row. map g.S.AsStr.text row.items) held) c.in_default.is)
    (Appends-text (finish-none s.before (c.requires.sound.1 c.in_default.is)) (Gained-all (Gained-none c.args.buf.now))) tt

pub returns-in_err-try_row-clause-prints : goal.returns-in_err-try_row-clause-prints
returns-in_err-try_row-clause-prints g c =
    let p = err_from_is_err_and c.from_residual.result c.from_residual.ensures.1 in
    let s : Streaming = streamed g.S.AsStr.text g.T.TableMarker.table c.args.frame.now.hint c.args.self in
    rw (p.1, p.2) (end-stops c.in_err-try_row.field-0.0 s (map g.S.AsStr.text c.in-Some.row.items) (ap (λ held. option_map (λ row. map g.S.AsStr.text row.items) held) c.in-Some.is) c.in_err-try_row.ensures.prints)

pub push_end-requires-clause-ended : goal.push_end-requires-clause-ended
unfolding after_row
push_end-requires-clause-ended g c = inr (ap (λ (q : Printing). q.is_ended) c.in_ok-try_row.ensures.after)

pub returns-in_err-push_end-clause-prints : goal.returns-in_err-push_end-clause-prints
returns-in_err-push_end-clause-prints g c =
    let p = err_from_is_err_and c.from_residual-in_err-push_end.result c.from_residual-in_err-push_end.ensures.1 in
    let s : Streaming = streamed g.S.AsStr.text g.T.TableMarker.table c.args.frame.now.hint c.args.self in
    rw (p.1, p.2) (end-some (Err StreamFault.Memory) s (map g.S.AsStr.text c.in-Some.row.items) (now_of g.T.TableMarker.table c.args.frame.now.hint c.try_row.new.self) (ap (λ held. option_map (λ row. map g.S.AsStr.text row.items) held) c.in-Some.is)
    c.in_ok-try_row.ensures.prints c.in_ok-try_row.ensures.after (refused-as refl c.in_err-push_end.ensures.appends) tt)

pub returns-clause-prints : goal.returns-clause-prints
returns-clause-prints g c =
    let s : Streaming = streamed g.S.AsStr.text g.T.TableMarker.table c.args.frame.now.hint c.args.self in
    end-some (Ok tt) s (map g.S.AsStr.text c.in-Some.row.items) (now_of g.T.TableMarker.table c.args.frame.now.hint c.try_row.new.self) (ap (λ held. option_map (λ row. map g.S.AsStr.text row.items) held) c.in-Some.is)
    c.in_ok-try_row.ensures.prints c.in_ok-try_row.ensures.after (appended-as c.in_ok-push_end.ensures.appends) tt

use Rattle.std.proofs.lemmas.Result.{err_from_is_err_and}
use Rattle.pg_stream.proofs.stream.StreamedRows.{appends-as, stops-as}
use Rattle.pg_stream.proofs.stream.row_stream.RowStream.push.Goals as goal

pub returns-in_err-push-clause-prints : goal.returns-in_err-push-clause-prints
returns-in_err-push-clause-prints g c =
    let p = err_from_is_err_and c.from_residual.result c.from_residual.ensures.1 in
    rw (p.1, p.2, ← c.self.view_is) (stops-as c.in_err-push.field-0.0 c.in_err-push.ensures.prints)

pub returns-clause-prints : goal.returns-clause-prints
returns-clause-prints g c = rw (← c.self.view_is) (appends-as _ c.in_ok-push.ensures.prints)

pub returns-clause-appends : goal.returns-clause-appends
returns-clause-appends g c = let p = returns-clause-prints g c in (p.whole p.tells).0.ok

pub returns-clause-after : goal.returns-clause-after
returns-clause-after g c = rw (← c.self.view_is) c.in_ok-push.ensures.after

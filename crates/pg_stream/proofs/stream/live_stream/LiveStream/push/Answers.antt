use Rattle.std.proofs.Common.{false, map, refl, ap}
use Rattle.std.proofs.lemmas.Result.{err_from_is_err_and}
use Rattle.pg_stream.specs.Conditions.{RowFits}
use Rattle.pg_picture.specs.Grids.{bare_table}
use Rattle.pg_stream.specs.LiveStreams.{Living}
use Rattle.pg_stream.specs.Printers.{now_of}
use Rattle.pg_stream.specs.Printing.{Printing}
use Rattle.pg_stream.proofs.stream.StreamedRows.{row-refused, row-printed}
use Rattle.pg_stream.proofs.stream.live_stream.LiveStream.push.Goals as goal

pub push_cells-requires-clause-fits : goal.push_cells-requires-clause-fits
push_cells-requires-clause-fits g c = (rw c.deref.ensures.value at (c.in-Some.ensures.fits.0 refl))

pub push_cells-requires-clause-kind : goal.push_cells-requires-clause-kind
push_cells-requires-clause-kind g c = rw c.deref.ensures.value at c.in-Some.ensures.kind

pub returns-in_err-push_cells-clause-prints : goal.returns-in_err-push_cells-clause-prints
returns-in_err-push_cells-clause-prints g c =
    let fits : RowFits (now_of (bare_table g.D.Dimension.width g.D.Dimension.height g.C.Colors.color c.self.inside.frame.sheet) c.self.inside.frame.hint c.self.inside.progress) (map g.S.AsStr.text c.args.cells.items) false = (rw c.deref.ensures.value at (c.in-Some.ensures.fits.0 refl)) in
    let p = err_from_is_err_and c.from_residual.result c.from_residual.ensures.1 in
    rw (p.1, p.2, ← c.self.view_is) (λ lives. row-refused fits c.in_err-push_cells.ensures.appends)

pub returns-clause-prints : goal.returns-clause-prints
returns-clause-prints g c =
    let fits : RowFits (now_of (bare_table g.D.Dimension.width g.D.Dimension.height g.C.Colors.color c.self.inside.frame.sheet) c.self.inside.frame.hint c.self.inside.progress) (map g.S.AsStr.text c.args.cells.items) false = (rw c.deref.ensures.value at (c.in-Some.ensures.fits.0 refl)) in
    rw (← c.self.view_is) (λ lives. row-printed tt fits c.in_ok-push_cells.ensures.appends)

pub returns-clause-appends : goal.returns-clause-appends
returns-clause-appends g c = rw (← c.self.view_is) c.in_ok-push_cells.ensures.appends.ok

pub returns-clause-after : goal.returns-clause-after
returns-clause-after g c =
    let lives : Printing → Living = λ p. record { printed = p; is_lost = false } in
    rw (← c.self.view_is) (ap lives c.in_ok-push_cells.ensures.after)

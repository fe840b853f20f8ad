use Rattle.std.proofs.Common.{false, map, refl, ap}
use Rattle.std.proofs.lemmas.Iterator.{YieldsList-from_slice}
use Rattle.std.proofs.lemmas.Result.{err_from_is_err_and}
use Rattle.pg_picture.specs.Grids.{bare_table}
use Rattle.pg_stream.specs.LiveStreams.{Living, LentFits}
use Rattle.pg_stream.specs.Printers.{now_of}
use Rattle.pg_stream.specs.Printing.{Printing}
use Rattle.pg_stream.proofs.stream.StreamedRows.{given-lent, row-refused, row-printed}
use Rattle.pg_stream.proofs.stream.live_stream.LiveStream.push_lent.Goals as goal

pub push_single-requires-clause-single : goal.push_single-requires-clause-single
push_single-requires-clause-single g c =
    let fits = c.in-Some.ensures.fits.0 refl in
    record { alone = fits.1; height = fits.2 }

pub push_single-requires-clause-fits : goal.push_single-requires-clause-fits
push_single-requires-clause-fits g c =
    let fits = c.in-Some.ensures.fits.0 refl in (
      map g.X.AsStr.text c.args.cells.now,
      given-lent _ (λ y. y.now) g.X.AsStr.text (YieldsList-from_slice c.args.cells.now c.iter.ensures.rest),
      fits.0,
      c.in-Some.ensures.kind,
    )

pub returns-in_err-push_single-clause-prints : goal.returns-in_err-push_single-clause-prints
returns-in_err-push_single-clause-prints g c =
    let given = given-lent _ (λ y. y.now) g.X.AsStr.text (YieldsList-from_slice c.args.cells.now c.iter.ensures.rest) in
    let fits : LentFits (now_of (bare_table g.D.Dimension.width g.D.Dimension.height g.C.Colors.color c.self.inside.frame.sheet) c.self.inside.frame.hint c.self.inside.progress) (map g.X.AsStr.text c.args.cells.now) = c.in-Some.ensures.fits.0 refl in
    let p = err_from_is_err_and c.from_residual.result c.from_residual.ensures.1 in
    rw (p.1, p.2, ← c.self.view_is) (λ lives. row-refused fits (c.in_err-push_single.ensures.appends (map g.X.AsStr.text c.args.cells.now) given))

pub returns-clause-prints : goal.returns-clause-prints
returns-clause-prints g c =
    let given = given-lent _ (λ y. y.now) g.X.AsStr.text (YieldsList-from_slice c.args.cells.now c.iter.ensures.rest) in
    let fits : LentFits (now_of (bare_table g.D.Dimension.width g.D.Dimension.height g.C.Colors.color c.self.inside.frame.sheet) c.self.inside.frame.hint c.self.inside.progress) (map g.X.AsStr.text c.args.cells.now) = c.in-Some.ensures.fits.0 refl in
    rw (← c.self.view_is) (λ lives. row-printed tt fits (c.in_ok-push_single.ensures.appends (map g.X.AsStr.text c.args.cells.now) given))

pub returns-clause-appends : goal.returns-clause-appends
returns-clause-appends g c =
    let given = given-lent _ (λ y. y.now) g.X.AsStr.text (YieldsList-from_slice c.args.cells.now c.iter.ensures.rest) in
    rw (← c.self.view_is) (c.in_ok-push_single.ensures.appends (map g.X.AsStr.text c.args.cells.now) given).ok

pub returns-clause-after : goal.returns-clause-after
returns-clause-after g c =
    let given = given-lent _ (λ y. y.now) g.X.AsStr.text (YieldsList-from_slice c.args.cells.now c.iter.ensures.rest) in
    let lives : Printing → Living = λ p. record { printed = p; is_lost = false } in
    rw (← c.self.view_is) (ap lives (c.in_ok-push_single.ensures.after (map g.X.AsStr.text c.args.cells.now) given))

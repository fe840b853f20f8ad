use Rattle.std.proofs.Common.{◌≡◌, true, false, map, refl, sym, subst}
use Rattle.std.proofs.lemmas.Bool.{false≢true}
use Rattle.std.proofs.lemmas.Result.{err_from_is_err_and}
use Rattle.pg_stream.specs.Conditions.{RowFits}
use Rattle.pg_stream.specs.Inside.{IsSoundAt, AreOfKind}
use Rattle.pg_stream.specs.Printers.{now_of}
use Rattle.pg_picture.specs.Table.{Table}
use Rattle.pg_stream.proofs.stream.StreamedRows.{row-misfits, row-refused, row-printed}
use Rattle.pg_stream.proofs.printer.progress.Progress.try_row.Goals as goal

pub kind_if_fits-requires : goal.kind_if_fits-requires
kind_if_fits-requires g c = record { sound = subst (λ (t : Table). IsSoundAt t c.args.frame.now c.args.self.now) (sym c.requires.is) c.requires.sound }

pub returns-in_default-clause-prints : goal.returns-in_default-clause-prints
returns-in_default-clause-prints g c =
    let test = subst (λ (t : Table). RowFits (now_of t c.args.frame.now.hint c.args.self.now) (map g.S.AsStr.text c.args.cells.items) c.args.is_last → false ≡ true) c.requires.is (rw c.deref.ensures.value at c.in_default.ensures.fits.1) in
    row-misfits _ _ c.args.buf.now (λ fits. false≢true (test fits))

pub push_cells-requires-clause-fits : goal.push_cells-requires-clause-fits
push_cells-requires-clause-fits g c = subst (λ (t : Table). RowFits (now_of t c.args.frame.now.hint c.args.self.now) (map g.S.AsStr.text c.args.cells.items) c.args.is_last) c.requires.is (rw c.deref.ensures.value at (c.in-Some.ensures.fits.0 refl))

pub push_cells-requires-clause-kind : goal.push_cells-requires-clause-kind
push_cells-requires-clause-kind g c = subst (λ (t : Table). AreOfKind c.in-Some.kind t.columns (map g.S.AsStr.text c.args.cells.items)) c.requires.is (rw c.deref.ensures.value at c.in-Some.ensures.kind)

pub returns-in_err-push_cells-clause-prints : goal.returns-in_err-push_cells-clause-prints
returns-in_err-push_cells-clause-prints g c =
    let fits = subst (λ (t : Table). RowFits (now_of t c.args.frame.now.hint c.args.self.now) (map g.S.AsStr.text c.args.cells.items) c.args.is_last) c.requires.is (rw c.deref.ensures.value at (c.in-Some.ensures.fits.0 refl)) in
    let p = err_from_is_err_and c.from_residual.result c.from_residual.ensures.1 in
    rw (p.1, p.2) (row-refused fits c.in_err-push_cells.ensures.appends)

pub returns-clause-prints : goal.returns-clause-prints
returns-clause-prints g c =
    let fits = subst (λ (t : Table). RowFits (now_of t c.args.frame.now.hint c.args.self.now) (map g.S.AsStr.text c.args.cells.items) c.args.is_last) c.requires.is (rw c.deref.ensures.value at (c.in-Some.ensures.fits.0 refl)) in
    row-printed tt fits c.in_ok-push_cells.ensures.appends

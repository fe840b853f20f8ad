use Rattle.std.proofs.Common.{false, map, refl, ap, arith}
use Rattle.std.proofs.lemmas.Bool.{false≢true}
use Rattle.std.proofs.lemmas.Iterator.{YieldsList-from_slice}
use Rattle.std.proofs.lemmas.Result.{err_from_is_err_and}
use Rattle.pg_picture.proofs.Appending.{Appends-text}
use Rattle.pg_stream.specs.LiveStreams.{Living}
use Rattle.pg_stream.specs.Printing.{Printing}
use Rattle.pg_stream.proofs.stream.StreamedRows.{given-lent, row-misfits, row-refused, row-printed, sound-told, lent-told, told-lent, text-told, after-told, above-fits, sized-told}
use Rattle.pg_stream.proofs.stream.sized_stream.SizedStream.push_lent.Goals as goal

pub kind_if_lent-requires : goal.kind_if_lent-requires
kind_if_lent-requires g c = record { sound = sound-told g.D.Dimension.width g.D.Dimension.height g.C.Colors.color c.self.inside.frame c.self.inside.progress c.self.inside.above (c.self.invariant c.if-self.false) 1 _ c.with_sizes-frame.ensures.table _ c.with_sizes-frame.ensures.hint c.with_sizes-frame.result c.with_sizes-frame.ensures.width c.with_sizes-frame.ensures.height c.with_sizes-frame.ensures.hint }

pub push_single-requires-clause-single : goal.push_single-requires-clause-single
push_single-requires-clause-single g c =
    let fits = (c.in-Some.ensures.fits.0 refl) in
    record { alone = fits.1; height = fits.2 }

pub push_single-requires-clause-sound : goal.push_single-requires-clause-sound
push_single-requires-clause-sound g c = sound-told g.D.Dimension.width g.D.Dimension.height g.C.Colors.color c.self.inside.frame c.self.inside.progress c.self.inside.above (c.self.invariant c.if-self.false) 1 _ c.with_sizes-frame.ensures.table _ c.with_sizes-frame.ensures.hint c.with_sizes-frame.result c.with_sizes-frame.ensures.width c.with_sizes-frame.ensures.height c.with_sizes-frame.ensures.hint

pub push_single-requires-clause-fits : goal.push_single-requires-clause-fits
push_single-requires-clause-fits g c =
    let fits = (c.in-Some.ensures.fits.0 refl) in (
      map g.X.AsStr.text c.args.cells.now,
      given-lent _ (λ y. y.now) g.X.AsStr.text (YieldsList-from_slice c.args.cells.now c.iter.ensures.rest),
      fits.0,
      c.in-Some.ensures.kind,
    )

pub returns-in_default-clause-prints : goal.returns-in_default-clause-prints
returns-in_default-clause-prints g c =
    rw (← c.self.view_is) (λ heights next lives.
    row-misfits _ _ _ (λ fits.
    false≢true (c.in_default.ensures.fits.1 ((lent-told g.D.Dimension.width g.D.Dimension.height g.C.Colors.color c.self.inside.frame c.self.inside.progress c.self.inside.above (c.self.invariant c.if-self.false) 1 _ c.with_sizes-frame.ensures.table _ c.with_sizes-frame.ensures.hint heights next (map g.X.AsStr.text c.args.cells.now) fits)))))

pub returns-in_err-push_single-clause-prints : goal.returns-in_err-push_single-clause-prints
returns-in_err-push_single-clause-prints g c =
    let p = err_from_is_err_and c.from_residual.result c.from_residual.ensures.1 in
    rw (p.1, p.2, ← c.self.view_is) (λ heights next lives.
    row-refused
    (told-lent g.D.Dimension.width g.D.Dimension.height g.C.Colors.color c.self.inside.frame c.self.inside.progress c.self.inside.above (c.self.invariant c.if-self.false) 1 _ c.with_sizes-frame.ensures.table _ c.with_sizes-frame.ensures.hint heights next (map g.X.AsStr.text c.args.cells.now) (c.in-Some.ensures.fits.0 refl))
    (Appends-text (text-told g.D.Dimension.width g.D.Dimension.height g.C.Colors.color c.self.inside.frame c.self.inside.progress c.self.inside.above (c.self.invariant c.if-self.false) 1 _ c.with_sizes-frame.ensures.table _ c.with_sizes-frame.ensures.hint heights next (map g.X.AsStr.text c.args.cells.now)) (c.in_err-push_single.ensures.appends (map g.X.AsStr.text c.args.cells.now) (given-lent _ (λ y. y.now) g.X.AsStr.text (YieldsList-from_slice c.args.cells.now c.iter.ensures.rest)))))

pub overflow_add-self : goal.overflow_add-self
overflow_add-self g c =
    let fits = (c.in-Some.ensures.fits.0 refl) in
    let e = above-fits g.D.Dimension.width g.D.Dimension.height g.C.Colors.color c.self.inside.frame c.self.inside.progress c.self.inside.above (c.self.invariant c.if-self.false) 1 _ c.with_sizes-frame.ensures.table _ c.with_sizes-frame.ensures.hint (map g.X.AsStr.text c.args.cells.now) fits.0 in
    omega (arith, e)

pub invariant_of-self-2 : goal.invariant_of-self-2
invariant_of-self-2 g c = λ lives.
    sized-told g.D.Dimension.width g.D.Dimension.height g.C.Colors.color c.self.inside.frame c.self.inside.progress c.self.inside.above (c.self.invariant c.if-self.false) 1 _ c.with_sizes-frame.ensures.table _ c.with_sizes-frame.ensures.hint (map g.X.AsStr.text c.args.cells.now) c.push_single.new.self c.with_sizes-frame.result c.with_sizes-frame.ensures.width c.with_sizes-frame.ensures.height c.with_sizes-frame.ensures.hint
    (c.in_ok-push_single.ensures.after (map g.X.AsStr.text c.args.cells.now) (given-lent _ (λ y. y.now) g.X.AsStr.text (YieldsList-from_slice c.args.cells.now c.iter.ensures.rest))) c.in_ok-push_single.ensures.sound

pub returns-clause-prints : goal.returns-clause-prints
returns-clause-prints g c =
    rw (← c.self.view_is) (λ heights next lives.
    row-printed tt
    (told-lent g.D.Dimension.width g.D.Dimension.height g.C.Colors.color c.self.inside.frame c.self.inside.progress c.self.inside.above (c.self.invariant c.if-self.false) 1 _ c.with_sizes-frame.ensures.table _ c.with_sizes-frame.ensures.hint heights next (map g.X.AsStr.text c.args.cells.now) (c.in-Some.ensures.fits.0 refl))
    (Appends-text (text-told g.D.Dimension.width g.D.Dimension.height g.C.Colors.color c.self.inside.frame c.self.inside.progress c.self.inside.above (c.self.invariant c.if-self.false) 1 _ c.with_sizes-frame.ensures.table _ c.with_sizes-frame.ensures.hint heights next (map g.X.AsStr.text c.args.cells.now)) (c.in_ok-push_single.ensures.appends (map g.X.AsStr.text c.args.cells.now) (given-lent _ (λ y. y.now) g.X.AsStr.text (YieldsList-from_slice c.args.cells.now c.iter.ensures.rest)))))

pub returns-clause-appends : goal.returns-clause-appends
returns-clause-appends g c =
    rw (← c.self.view_is) (λ heights next.
    (Appends-text (text-told g.D.Dimension.width g.D.Dimension.height g.C.Colors.color c.self.inside.frame c.self.inside.progress c.self.inside.above (c.self.invariant c.if-self.false) 1 _ c.with_sizes-frame.ensures.table _ c.with_sizes-frame.ensures.hint heights next (map g.X.AsStr.text c.args.cells.now)) (c.in_ok-push_single.ensures.appends (map g.X.AsStr.text c.args.cells.now) (given-lent _ (λ y. y.now) g.X.AsStr.text (YieldsList-from_slice c.args.cells.now c.iter.ensures.rest)))).ok)

pub returns-clause-after : goal.returns-clause-after
returns-clause-after g c =
    let lives : Printing → Living = λ p. record { printed = p; is_lost = false } in
    rw (← c.self.view_is) (λ heights next.
    ap lives (after-told g.D.Dimension.width g.D.Dimension.height g.C.Colors.color c.self.inside.frame c.self.inside.progress c.self.inside.above (c.self.invariant c.if-self.false) 1 _ c.with_sizes-frame.ensures.table _ c.with_sizes-frame.ensures.hint heights next (map g.X.AsStr.text c.args.cells.now) c.push_single.new.self (c.in_ok-push_single.ensures.after (map g.X.AsStr.text c.args.cells.now) (given-lent _ (λ y. y.now) g.X.AsStr.text (YieldsList-from_slice c.args.cells.now c.iter.ensures.rest)))))

use Rattle.std.proofs.Common.{false, List, map, refl, ap, arith}
use Rattle.std.proofs.lemmas.Bool.{false≢true}
use Rattle.std.proofs.lemmas.Result.{err_from_is_err_and}
use Rattle.pg_layout.specs.Text.{Text}
use Rattle.pg_picture.proofs.Appending.{Appends-text}
use Rattle.pg_stream.specs.LiveStreams.{Living}
use Rattle.pg_stream.specs.Printing.{Printing}
use Rattle.pg_stream.proofs.stream.StreamedRows.{sound-told, fits-told, told-fits, text-told, after-told, above-fits, sized-told, row-misfits, row-refused, row-printed}
use Rattle.pg_stream.proofs.stream.sized_stream.SizedStream.push.Goals as goal

pub kind_if_fits-requires : goal.kind_if_fits-requires
kind_if_fits-requires g c =
    record { sound = sound-told g.D.Dimension.width g.D.Dimension.height g.C.Colors.color c.self.inside.frame c.self.inside.progress c.self.inside.above (c.self.invariant c.if-self.false) c.args.height _ c.with_sizes-frame.ensures.table _ c.with_sizes-frame.ensures.hint c.with_sizes-frame.result c.with_sizes-frame.ensures.width c.with_sizes-frame.ensures.height c.with_sizes-frame.ensures.hint }

pub push_cells-requires-clause-sound : goal.push_cells-requires-clause-sound
push_cells-requires-clause-sound g c =
    sound-told g.D.Dimension.width g.D.Dimension.height g.C.Colors.color c.self.inside.frame c.self.inside.progress c.self.inside.above (c.self.invariant c.if-self.false) c.args.height _ c.with_sizes-frame.ensures.table _ c.with_sizes-frame.ensures.hint c.with_sizes-frame.result c.with_sizes-frame.ensures.width c.with_sizes-frame.ensures.height c.with_sizes-frame.ensures.hint

pub returns-in_default-clause-prints : goal.returns-in_default-clause-prints
returns-in_default-clause-prints g c =
    let texts : List Text = map g.S.AsStr.text c.args.cells.items in
    let sized = c.self.invariant c.if-self.false in
    rw (← c.self.view_is) (λ heights next lives.
    row-misfits _ _ _ (λ fits.
    false≢true (c.in_default.ensures.fits.1 (rw c.deref.ensures.value (fits-told g.D.Dimension.width g.D.Dimension.height g.C.Colors.color c.self.inside.frame c.self.inside.progress c.self.inside.above sized c.args.height _ c.with_sizes-frame.ensures.table _ c.with_sizes-frame.ensures.hint heights next texts fits)))))

pub push_cells-requires-clause-fits : goal.push_cells-requires-clause-fits
push_cells-requires-clause-fits g c = (rw c.deref.ensures.value at (c.in-Some.ensures.fits.0 refl))

pub push_cells-requires-clause-kind : goal.push_cells-requires-clause-kind
push_cells-requires-clause-kind g c = rw c.deref.ensures.value at c.in-Some.ensures.kind

pub returns-in_err-push_cells-clause-prints : goal.returns-in_err-push_cells-clause-prints
returns-in_err-push_cells-clause-prints g c =
    let texts : List Text = map g.S.AsStr.text c.args.cells.items in
    let fits = (rw c.deref.ensures.value at (c.in-Some.ensures.fits.0 refl)) in
    let p = err_from_is_err_and c.from_residual.result c.from_residual.ensures.1 in
    let sized = c.self.invariant c.if-self.false in
    rw (p.1, p.2, ← c.self.view_is) (λ heights next lives.
    row-refused
    (told-fits g.D.Dimension.width g.D.Dimension.height g.C.Colors.color c.self.inside.frame c.self.inside.progress c.self.inside.above sized c.args.height _ c.with_sizes-frame.ensures.table _ c.with_sizes-frame.ensures.hint heights next texts fits)
    (Appends-text (text-told g.D.Dimension.width g.D.Dimension.height g.C.Colors.color c.self.inside.frame c.self.inside.progress c.self.inside.above sized c.args.height _ c.with_sizes-frame.ensures.table _ c.with_sizes-frame.ensures.hint heights next texts) (c.in_err-push_cells.ensures.appends)))

pub overflow_add-self : goal.overflow_add-self
overflow_add-self g c =
    let fits = (rw c.deref.ensures.value at (c.in-Some.ensures.fits.0 refl)) in
    let e = above-fits g.D.Dimension.width g.D.Dimension.height g.C.Colors.color c.self.inside.frame c.self.inside.progress c.self.inside.above (c.self.invariant c.if-self.false) c.args.height _ c.with_sizes-frame.ensures.table _ c.with_sizes-frame.ensures.hint (map g.S.AsStr.text c.args.cells.items) fits in
    omega (arith, e)

pub invariant_of-self-2 : goal.invariant_of-self-2
invariant_of-self-2 g c =
    let texts : List Text = map g.S.AsStr.text c.args.cells.items in
    λ lives.
    sized-told g.D.Dimension.width g.D.Dimension.height g.C.Colors.color c.self.inside.frame c.self.inside.progress c.self.inside.above (c.self.invariant c.if-self.false) c.args.height _ c.with_sizes-frame.ensures.table _ c.with_sizes-frame.ensures.hint texts c.push_cells.new.self c.with_sizes-frame.result c.with_sizes-frame.ensures.width c.with_sizes-frame.ensures.height c.with_sizes-frame.ensures.hint
    c.in_ok-push_cells.ensures.after c.in_ok-push_cells.ensures.sound

pub returns-clause-prints : goal.returns-clause-prints
returns-clause-prints g c =
    let texts : List Text = map g.S.AsStr.text c.args.cells.items in
    let fits = (rw c.deref.ensures.value at (c.in-Some.ensures.fits.0 refl)) in
    let sized = c.self.invariant c.if-self.false in
    rw (← c.self.view_is) (λ heights next lives.
    row-printed tt
    (told-fits g.D.Dimension.width g.D.Dimension.height g.C.Colors.color c.self.inside.frame c.self.inside.progress c.self.inside.above sized c.args.height _ c.with_sizes-frame.ensures.table _ c.with_sizes-frame.ensures.hint heights next texts fits)
    (Appends-text (text-told g.D.Dimension.width g.D.Dimension.height g.C.Colors.color c.self.inside.frame c.self.inside.progress c.self.inside.above sized c.args.height _ c.with_sizes-frame.ensures.table _ c.with_sizes-frame.ensures.hint heights next texts) (c.in_ok-push_cells.ensures.appends)))

pub returns-clause-appends : goal.returns-clause-appends
returns-clause-appends g c =
    let texts : List Text = map g.S.AsStr.text c.args.cells.items in
    let sized = c.self.invariant c.if-self.false in
    rw (← c.self.view_is) (λ heights next.
    (Appends-text (text-told g.D.Dimension.width g.D.Dimension.height g.C.Colors.color c.self.inside.frame c.self.inside.progress c.self.inside.above sized c.args.height _ c.with_sizes-frame.ensures.table _ c.with_sizes-frame.ensures.hint heights next texts) (c.in_ok-push_cells.ensures.appends)).ok)

pub returns-clause-after : goal.returns-clause-after
returns-clause-after g c =
    let texts : List Text = map g.S.AsStr.text c.args.cells.items in
    let lives : Printing → Living = λ p. record { printed = p; is_lost = false } in
    let sized = c.self.invariant c.if-self.false in
    rw (← c.self.view_is) (λ heights next.
    ap lives (after-told g.D.Dimension.width g.D.Dimension.height g.C.Colors.color c.self.inside.frame c.self.inside.progress c.self.inside.above sized c.args.height _ c.with_sizes-frame.ensures.table _ c.with_sizes-frame.ensures.hint heights next texts c.push_cells.new.self (c.in_ok-push_cells.ensures.after)))

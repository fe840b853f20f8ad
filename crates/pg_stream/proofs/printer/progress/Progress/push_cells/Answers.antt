use Rattle.std.proofs.Common.{◌≡◌, map, refl, ◌∙◌, subst, arith, length}
use Rattle.std.specs.Vec.Iter.{into_iter_len}
use Rattle.std.proofs.lemmas.Iterator.{YieldsList-from_slice}
use Rattle.std.proofs.lemmas.Iterator.Adapters.{YieldsList-from_vec}
use Rattle.pg_layout.proofs.Given.{given-items}
use Rattle.pg_stream.proofs.stream.StreamedRows.{given-lent}
use Rattle.pg_picture.specs.Table.{Table}
use Rattle.pg_stream.specs.Inside.{IsSingle}
use Rattle.pg_stream.proofs.printer.progress.Progress.push_cells.Goals as goal

pub push_single-requires-clause-single : goal.push_single-requires-clause-single
push_single-requires-clause-single g c = subst (λ (t : Table). IsSingle t c.args.self.now.rows) c.requires.is (c.is_single.ensures.0 c.if-is_single.true)

pub push_single-requires-clause-fits : goal.push_single-requires-clause-fits
push_single-requires-clause-fits g c = (
  map g.S.AsStr.text c.args.cells.items,
  given-lent _ (λ y. y.now) g.S.AsStr.text (YieldsList-from_slice c.args.cells.items (c.iter.ensures.rest ∙ c.deref.ensures.value)),
  c.requires.fits,
  c.requires.kind,
)

pub returns-then-is_single-clause-appends : goal.returns-then-is_single-clause-appends
returns-then-is_single-clause-appends g c =
    let given = given-lent _ (λ y. y.now) g.S.AsStr.text (YieldsList-from_slice c.args.cells.items (c.iter.ensures.rest ∙ c.deref.ensures.value)) in
    c.push_single.ensures.appends (map g.S.AsStr.text c.args.cells.items) given

pub returns-then-is_single-clause-after : goal.returns-then-is_single-clause-after
returns-then-is_single-clause-after g c =
    let given = given-lent _ (λ y. y.now) g.S.AsStr.text (YieldsList-from_slice c.args.cells.items (c.iter.ensures.rest ∙ c.deref.ensures.value)) in
    c.push_single.ensures.after (map g.S.AsStr.text c.args.cells.items) given

pub push_row-requires-clause-fits : goal.push_row-requires-clause-fits
push_row-requires-clause-fits g c =
    let len : into_iter_len c.into_iter-cells.result ≡ length c.args.cells.items = omega (arith, c.into_iter-cells.ensures.len, c.args.cells.ok) in (
      map g.S.AsStr.text c.args.cells.items,
      given-items _ g.S.AsStr.text (λ x y. g.S.AsStr.text x ≡ y) (λ x. refl) (YieldsList-from_vec c.args.cells.items c.into_iter-cells.ensures.rest len),
      c.requires.fits,
      c.requires.kind,
    )

pub returns-clause-appends : goal.returns-clause-appends
returns-clause-appends g c =
    let len : into_iter_len c.into_iter-cells.result ≡ length c.args.cells.items = omega (arith, c.into_iter-cells.ensures.len, c.args.cells.ok) in
    c.push_row.ensures.appends (map g.S.AsStr.text c.args.cells.items) (given-items _ g.S.AsStr.text (λ x y. g.S.AsStr.text x ≡ y) (λ x. refl) (YieldsList-from_vec c.args.cells.items c.into_iter-cells.ensures.rest len))

pub returns-clause-after : goal.returns-clause-after
returns-clause-after g c =
    let len : into_iter_len c.into_iter-cells.result ≡ length c.args.cells.items = omega (arith, c.into_iter-cells.ensures.len, c.args.cells.ok) in
    c.push_row.ensures.after (map g.S.AsStr.text c.args.cells.items) (given-items _ g.S.AsStr.text (λ x y. g.S.AsStr.text x ≡ y) (λ x. refl) (YieldsList-from_vec c.args.cells.items c.into_iter-cells.ensures.rest len))

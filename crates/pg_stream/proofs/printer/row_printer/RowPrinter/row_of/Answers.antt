use Rattle.std.proofs.Common.{◌≡◌, map, refl, arith, length}
use Rattle.std.specs.Vec.Iter.{into_iter_len}
use Rattle.std.proofs.lemmas.Iterator.Adapters.{YieldsList-from_vec}
use Rattle.pg_layout.proofs.Given.{given-items}
use Rattle.pg_stream.specs.Printers.{printing}
use Rattle.pg_stream.proofs.stream.StreamedRows.{ended-of}
use Rattle.pg_stream.proofs.printer.row_printer.RowPrinter.row_of.Goals as goal

pub row-requires-clause-fits : goal.row-requires-clause-fits
row-requires-clause-fits g c =
    let len : into_iter_len c.into_iter.result ≡ length c.args.cells.items = omega (arith, c.into_iter.ensures.len, c.args.cells.ok) in (
      map g.S.AsStr.text c.args.cells.items,
      given-items _ g.S.AsStr.text (λ x y. g.S.AsStr.text x ≡ y) (λ x. refl) (YieldsList-from_vec c.args.cells.items c.into_iter.ensures.rest len),
      c.requires.fits,
    )

pub returns-clause-appends : goal.returns-clause-appends
returns-clause-appends g c =
    let len : into_iter_len c.into_iter.result ≡ length c.args.cells.items = omega (arith, c.into_iter.ensures.len, c.args.cells.ok) in
    c.row.ensures.appends (map g.S.AsStr.text c.args.cells.items) (given-items _ g.S.AsStr.text (λ x y. g.S.AsStr.text x ≡ y) (λ x. refl) (YieldsList-from_vec c.args.cells.items c.into_iter.ensures.rest len))

pub returns-clause-after : goal.returns-clause-after
returns-clause-after g c =
    let len : into_iter_len c.into_iter.result ≡ length c.args.cells.items = omega (arith, c.into_iter.ensures.len, c.args.cells.ok) in
    c.row.ensures.after (map g.S.AsStr.text c.args.cells.items) (given-items _ g.S.AsStr.text (λ x y. g.S.AsStr.text x ≡ y) (λ x. refl) (YieldsList-from_vec c.args.cells.items c.into_iter.ensures.rest len))

pub returns-clause-ended : goal.returns-clause-ended
returns-clause-ended g c = ended-of (printing g.D.Dimension.width g.D.Dimension.height g.C.Colors.color) _ _ c.args.is_last c.row.result (returns-clause-after g c)

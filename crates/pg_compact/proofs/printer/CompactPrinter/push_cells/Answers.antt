use Rattle.std.proofs.Common.{◌≡◌, ◌<◌, ℕ, [], slice_index_or, length, flat_map, sym, ap, ◌∙◌, arith}
use Rattle.std.specs.List.{range_with_len}
use Rattle.pg_layout.specs.Text.{Text}
use Rattle.pg_picture.proofs.Appending.{Appends-text, Gained-none, Gained-all, Gained-text, Gained-more, refused}
use Rattle.pg_compact.specs.Inside.{printed_table, text_column}
use Rattle.pg_compact.proofs.CompactRows.{columns-more, columns-cut, cell-column, next-taken, none-ended}
use Rattle.pg_compact.proofs.printer.CompactPrinter.push_cells.Goals as goal

pub loop-column-init : goal.loop-column-init
loop-column-init g c = (c.requires.cells.0, c.requires.cells.1, λ texts is. (is.gives, Gained-none c.args.buf.now))

pub returns-in_default : goal.returns-in_default
returns-in_default g c = λ texts is.
    let here : c.loop-column.column < length (slice_index_or texts c.args.row []) = omega (arith, is.even) in
    absurd (none-ended (λ x y. g.T.AsStr.text x ≡ y) g.I.Iterator.next_gives _ _ c.loop-column.column (slice_index_or texts c.args.row []) [] (c.loop-column.invariant.2 texts is).0 here c.in_default.ensures.steps)

pub returns-in_err-push_cell : goal.returns-in_err-push_cell
returns-in_err-push_cell g c = λ texts is.
    let cells = slice_index_or texts c.args.row [] in
    let here : c.loop-column.column < length cells = omega (arith, is.even) in
    let (left, gained) = c.loop-column.invariant.2 texts is in
    let column : ℕ → Text = text_column (printed_table g.D.Dimension.width g.C.Colors.color c.args.self.now texts) c.args.row in
    let taken = next-taken (λ x y. g.T.AsStr.text x ≡ y) g.I.Iterator.next_gives _ _ _ c.loop-column.column cells [] left here c.in-Some.ensures.steps in
    let cell = cell-column g.D.Dimension.width g.C.Colors.color c.args.self.now texts c.args.row c.loop-column.column c.new.result c.as_str.result.now c.new.ensures (c.as_str.ensures ∙ taken.stands) in
    refused _ (columns-cut column c.loop-column.column c.args.self.now.columns (omega arith)) c.from_residual.ensures.0 gained (Appends-text cell c.in_err-push_cell.ensures)

pub loop-column-preserved : goal.loop-column-preserved
loop-column-preserved g c =
    let goes = c.in-Some.ensures.goes.on c.loop-column.invariant.1 in (
      goes.0,
      goes.1,
      λ texts is.
          let cells = slice_index_or texts c.args.row [] in
          let here : c.loop-column.column < length cells = omega (arith, is.even) in
          let (left, gained) = c.loop-column.invariant.2 texts is in
          let column : ℕ → Text = text_column (printed_table g.D.Dimension.width g.C.Colors.color c.args.self.now texts) c.args.row in
          let taken = next-taken (λ x y. g.T.AsStr.text x ≡ y) g.I.Iterator.next_gives _ _ _ c.loop-column.column cells [] left here c.in-Some.ensures.steps in
          let cell = cell-column g.D.Dimension.width g.C.Colors.color c.args.self.now texts c.args.row c.loop-column.column c.new.result c.as_str.result.now c.new.ensures (c.as_str.ensures ∙ taken.stands) in
          (taken.rest, Gained-text (sym (columns-more column c.loop-column.column)) (Gained-more gained (Appends-text cell c.in_ok-push_cell.ensures))),
    )

pub returns : goal.returns
returns g c = λ texts is.
    let column : ℕ → Text = text_column (printed_table g.D.Dimension.width g.C.Colors.color c.args.self.now texts) c.args.row in
    let all : c.loop-column.column ≡ c.args.self.now.columns = omega arith in
    Appends-text (ap (λ n. flat_map column (range_with_len 0 n)) all) (Gained-all (c.loop-column.invariant.2 texts is).1)

use Rattle.std.proofs.Common.{◌≡◌, true, false, [], ◌∷◌, ◌++◌, refl, sym, ap, ◌∙◌, subst, append_assoc, inr}
use Rattle.pg_layout.specs.Records.{Gives}
use Rattle.pg_layout.specs.Text.{Text}
use Rattle.pg_picture.proofs.Appending.{◌then◌, Appends-text, Gained-none, Gained-more, gained-then, refused}
use Rattle.pg_stream.specs.Conditions.{RowsFit}
use Rattle.pg_stream.specs.Printers.{now_of}
use Rattle.pg_stream.specs.Printing.{Printing, row_text, finish_text, after_row, rows_text}
use Rattle.pg_stream.proofs.PicturesOfRows.{next-row, no-row, rows_text-more, rows_text-last, row-fits}
use Rattle.pg_stream.proofs.printer.progress.Progress.push_rows.Goals as goal

pub loop-next-init : goal.loop-next-init
loop-next-init g c =
    rw (c.into_iter-next-iterator.ensures.into_iter_gives, c.with_room-progress.ensures) (
      c.requires.rows.0,
      c.requires.rows.1,
      c.requires.given,
      λ cells texts from. record { cells = cells; texts = texts; from = from; so_far = []; gained = Gained-none c.args.buf.now; is = refl },
      record { printer = c.requires.sound.printer; kept = tt },
    )

pub push_row-requires-clause-fits : goal.push_row-requires-clause-fits
push_row-requires-clause-fits g c =
    let is_row = Gives (λ x y. g.S.AsStr.text x ≡ y) g.Cells.Iterator.can_next g.Cells.Iterator.next_gives g.Cells.Iterator.remaining in
    let s : Printing = now_of g.T.TableMarker.table c.args.frame.now.hint c.loop-next.progress in
    let (cells, texts, from, fit) = c.loop-next.invariant.2 in
    let next = next-row is_row g.Rows.Iterator.next_gives _ _ _ texts from.others c.in-Some.ensures.steps in
    (cells, from.first.gives, (row-fits s cells texts next.cells next.others next.all fit).0, λ x here plain. cc)

pub returns-in_err-push_row : goal.returns-in_err-push_row
returns-in_err-push_row g c = λ cells texts from.
    let is_row = Gives (λ x y. g.S.AsStr.text x ≡ y) g.Cells.Iterator.can_next g.Cells.Iterator.next_gives g.Cells.Iterator.remaining in
    let s : Printing = now_of g.T.TableMarker.table c.args.frame.now.hint c.loop-next.progress in
    let now = c.loop-next.invariant.3 cells texts from in
    let next = next-row is_row g.Rows.Iterator.next_gives _ _ _ now.texts now.from.others c.in-Some.ensures.steps in
    refused (rows_text (after_row s now.cells false) (next.cells ∷ next.others)) (now.is ∙ ap (λ t. now.so_far ++ t) (rows_text-more s now.cells now.texts next.cells next.others next.all))
    c.from_residual.ensures.0 now.gained (c.in_err-push_row.ensures.appends now.cells now.from.first.gives)

pub loop-next-preserved : goal.loop-next-preserved
loop-next-preserved g c =
    let is_row = Gives (λ x y. g.S.AsStr.text x ≡ y) g.Cells.Iterator.can_next g.Cells.Iterator.next_gives g.Cells.Iterator.remaining in
    let s : Printing = now_of g.T.TableMarker.table c.args.frame.now.hint c.loop-next.progress in
    let goes = c.in-Some.ensures.goes.on c.loop-next.invariant.1 in
    let (cells, texts, from, fit) = c.loop-next.invariant.2 in
    let next = next-row is_row g.Rows.Iterator.next_gives _ _ _ texts from.others c.in-Some.ensures.steps in
    let after = c.in_ok-push_row.ensures.after cells from.first.gives in (
      goes.0,
      goes.1,
      (next.cells, next.others, next.from, subst (λ (q : Printing). RowsFit q (next.cells ∷ next.others)) (sym after) (row-fits s cells texts next.cells next.others next.all fit).1),
      λ cells texts from.
          let now = c.loop-next.invariant.3 cells texts from in
          let next = next-row is_row g.Rows.Iterator.next_gives _ _ _ now.texts now.from.others c.in-Some.ensures.steps in
          let after = c.in_ok-push_row.ensures.after now.cells now.from.first.gives in
          let row : Text = row_text s now.cells false in
          record {
            cells = next.cells;
            texts = next.others;
            from = next.from;
            so_far = now.so_far ++ row;
            gained = Gained-more now.gained (c.in_ok-push_row.ensures.appends now.cells now.from.first.gives);
            is = now.is ∙ ap (λ t. now.so_far ++ t) (rows_text-more s now.cells now.texts next.cells next.others next.all ∙ ap (λ (q : Printing). row ++ rows_text q (next.cells ∷ next.others)) (sym after)) ∙ sym (append_assoc now.so_far row _);
          },
      c.in_ok-push_row.ensures.sound,
    )

pub returns-in_err-push_row-2 : goal.returns-in_err-push_row-2
returns-in_err-push_row-2 g c = λ cells texts from.
    let is_row = Gives (λ x y. g.S.AsStr.text x ≡ y) g.Cells.Iterator.can_next g.Cells.Iterator.next_gives g.Cells.Iterator.remaining in
    let s : Printing = now_of g.T.TableMarker.table c.args.frame.now.hint c.loop-next.progress in
    let now = c.loop-next.invariant.3 cells texts from in
    let ended = no-row is_row g.Rows.Iterator.next_gives _ _ now.texts now.from.others c.in-None.ensures.steps in
    refused (finish_text (after_row s now.cells true)) (now.is ∙ ap (λ t. now.so_far ++ t) (rows_text-last s now.cells now.texts ended))
    c.from_residual-in_err-push_row-2.ensures.0 now.gained (c.in_err-push_row-2.ensures.appends now.cells now.from.first.gives)

pub push_end-requires-clause-ended : goal.push_end-requires-clause-ended
unfolding after_row
push_end-requires-clause-ended g c =
    let (cells, texts, from, fit) = c.loop-next.invariant.2 in
    inr (ap (λ (q : Printing). q.is_ended) (c.in_ok-push_row-2.ensures.after cells from.first.gives))

pub returns : goal.returns
returns g c = λ cells texts from.
    let is_row = Gives (λ x y. g.S.AsStr.text x ≡ y) g.Cells.Iterator.can_next g.Cells.Iterator.next_gives g.Cells.Iterator.remaining in
    let s : Printing = now_of g.T.TableMarker.table c.args.frame.now.hint c.loop-next.progress in
    let now = c.loop-next.invariant.3 cells texts from in
    let ended = no-row is_row g.Rows.Iterator.next_gives _ _ now.texts now.from.others c.in-None.ensures.steps in
    let after = c.in_ok-push_row-2.ensures.after now.cells now.from.first.gives in
    Appends-text (sym (now.is ∙ ap (λ t. now.so_far ++ t) (rows_text-last s now.cells now.texts ended)))
    (gained-then now.gained (c.in_ok-push_row-2.ensures.appends now.cells now.from.first.gives then Appends-text (ap finish_text after) c.push_end.ensures.appends))

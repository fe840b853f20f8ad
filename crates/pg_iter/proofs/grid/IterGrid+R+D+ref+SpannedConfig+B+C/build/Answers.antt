use Rattle.std.proofs.Common.{◌≡◌, ◌||◌, ◌==◌, ◌<◌, true, List, length, sym, ap, ◌∙◌, arith, inl}
use Rattle.std.proofs.lemmas.Bool.{false≢true}
use Rattle.std.proofs.lemmas.Bool.Decides.{nat_tests}
use Rattle.pg_layout.specs.Records.{Gives}
use Rattle.pg_layout.specs.Text.{Text}
use Rattle.pg_picture.specs.Picture.{picture}
use Rattle.pg_picture.proofs.Appending.{Appends-text, Gained-none, Gained-all}
use Rattle.pg_picture.proofs.Pictures.{picture-none}
use Rattle.pg_stream.specs.Printing.{hint_of}
use Rattle.pg_iter.specs.IterGrids.{streamed}
use Rattle.pg_stream.proofs.PicturesOfRows.{no-row}
use Rattle.pg_iter.proofs.IterTables.{begun, some-cells}
use Rattle.pg_iter.proofs.grid.IterGrid+R+D+ref+SpannedConfig+B+C.build.Goals as goal

pub returns-in_default-clause-appends : goal.returns-in_default-clause-appends
returns-in_default-clause-appends g c =
    let t = streamed g.R.Records g.D.Dimension g.C.Colors c.args.self in
    let is_row = Gives (λ x y. g.R.Cell.AsStr.text x ≡ y) g.R.Columns.Iterator.can_next g.R.Columns.Iterator.next_gives g.R.Columns.Iterator.remaining in
    let rows : t.rows ≡ 0 = ap (λ (texts : List (List Text)). length texts) (no-row is_row g.R.Rows.Iterator.next_gives _ _ (g.R.Records.texts c.args.self.records) c.iter_rows-rows.ensures.gives c.in_default.ensures.steps) in
    let none : ((t.rows == 0) || (t.columns == 0)) ≡ true = grind (arith, nat_tests, rows) in
    inl (Appends-text (sym (picture-none (hint_of (g.R.Records.hint c.args.self.records)) t none)) (Gained-all (Gained-none c.args.buf.now)))

pub returns-then-columns-eq0-clause-appends : goal.returns-then-columns-eq0-clause-appends
returns-then-columns-eq0-clause-appends g c =
    let t = streamed g.R.Records g.D.Dimension g.C.Colors c.args.self in
    let columns : t.columns ≡ 0 = sym c.count_columns-columns.ensures.value ∙ c.if-columns-eq0.true in
    let none : ((t.rows == 0) || (t.columns == 0)) ≡ true = grind (arith, nat_tests, columns) in
    inl (Appends-text (sym (picture-none (hint_of (g.R.Records.hint c.args.self.records)) t none)) (Gained-all (Gained-none c.args.buf.now)))

pub new-requires : goal.new-requires
new-requires g c =
    let t = streamed g.R.Records g.D.Dimension g.C.Colors c.args.self in
    let is_row = Gives (λ x y. g.R.Cell.AsStr.text x ≡ y) g.R.Columns.Iterator.can_next g.R.Columns.Iterator.next_gives g.R.Columns.Iterator.remaining in
    (begun is_row g.R.Rows.Iterator.next_gives t.config t.width t.height t.color (g.R.Records.texts c.args.self.records) t.columns
    c.hint_count_rows-hint.result (c.hint_count_rows-hint.ensures.exact c.requires.readable) c.requires.fits
    c.count_columns-columns.result c.count_columns-columns.ensures.value (omega (arith, c.if-columns-eq0.false)) (c.count_columns-columns.ensures.even c.requires.readable)
    _ _ _ c.iter_rows-rows.ensures.gives c.in-Some.ensures.steps).printer_fits

pub print_rows-requires-clause-given : goal.print_rows-requires-clause-given
print_rows-requires-clause-given g c =
    let t = streamed g.R.Records g.D.Dimension g.C.Colors c.args.self in
    let is_row = Gives (λ x y. g.R.Cell.AsStr.text x ≡ y) g.R.Columns.Iterator.can_next g.R.Columns.Iterator.next_gives g.R.Columns.Iterator.remaining in
    let b = begun is_row g.R.Rows.Iterator.next_gives t.config t.width t.height t.color (g.R.Records.texts c.args.self.records) t.columns
    c.hint_count_rows-hint.result (c.hint_count_rows-hint.ensures.exact c.requires.readable) c.requires.fits
    c.count_columns-columns.result c.count_columns-columns.ensures.value (omega (arith, c.if-columns-eq0.false)) (c.count_columns-columns.ensures.even c.requires.readable)
    _ _ _ c.iter_rows-rows.ensures.gives c.in-Some.ensures.steps in
    (b.cells, b.others, b.from, b.rows_fit _ c.in_ok-printer.ensures.made)

pub returns-clause-appends : goal.returns-clause-appends
returns-clause-appends g c =
    let t = streamed g.R.Records g.D.Dimension g.C.Colors c.args.self in
    let is_row = Gives (λ x y. g.R.Cell.AsStr.text x ≡ y) g.R.Columns.Iterator.can_next g.R.Columns.Iterator.next_gives g.R.Columns.Iterator.remaining in
    let b = begun is_row g.R.Rows.Iterator.next_gives t.config t.width t.height t.color (g.R.Records.texts c.args.self.records) t.columns
    c.hint_count_rows-hint.result (c.hint_count_rows-hint.ensures.exact c.requires.readable) c.requires.fits
    c.count_columns-columns.result c.count_columns-columns.ensures.value (omega (arith, c.if-columns-eq0.false)) (c.count_columns-columns.ensures.even c.requires.readable)
    _ _ _ c.iter_rows-rows.ensures.gives c.in-Some.ensures.steps in
    inl (Appends-text (b.rows_picture _ c.in_ok-printer.ensures.made ∙ ap (λ h. picture (hint_of h) t) c.hint_count_rows-hint.ensures.value) (c.print_rows.ensures b.cells b.others b.from))

pub returns-in_err-printer-clause-empty : goal.returns-in_err-printer-clause-empty
returns-in_err-printer-clause-empty g c =
    let t = streamed g.R.Records g.D.Dimension g.C.Colors c.args.self in
    let is_row = Gives (λ x y. g.R.Cell.AsStr.text x ≡ y) g.R.Columns.Iterator.can_next g.R.Columns.Iterator.next_gives g.R.Columns.Iterator.remaining in
    let wide : 0 < t.columns = omega (arith, c.count_columns-columns.ensures.value, c.if-columns-eq0.false) in
    let some = some-cells is_row g.R.Rows.Iterator.next_gives t.config t.width t.height t.color (g.R.Records.texts c.args.self.records) t.columns wide _ _ _ c.iter_rows-rows.ensures.gives c.in-Some.ensures.steps in
    λ empty. absurd (false≢true (sym some ∙ empty))

pub returns-clause-empty : goal.returns-clause-empty
returns-clause-empty g c =
    let t = streamed g.R.Records g.D.Dimension g.C.Colors c.args.self in
    let is_row = Gives (λ x y. g.R.Cell.AsStr.text x ≡ y) g.R.Columns.Iterator.can_next g.R.Columns.Iterator.next_gives g.R.Columns.Iterator.remaining in
    let wide : 0 < t.columns = omega (arith, c.count_columns-columns.ensures.value, c.if-columns-eq0.false) in
    let some = some-cells is_row g.R.Rows.Iterator.next_gives t.config t.width t.height t.color (g.R.Records.texts c.args.self.records) t.columns wide _ _ _ c.iter_rows-rows.ensures.gives c.in-Some.ensures.steps in
    λ empty. absurd (false≢true (sym some ∙ empty))

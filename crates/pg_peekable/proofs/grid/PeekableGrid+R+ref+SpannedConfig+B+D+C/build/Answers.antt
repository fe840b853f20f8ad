use Rattle.std.proofs.Common.{◌≡◌, ◌||◌, ◌==◌, true, false, sym, ◌∙◌, arith}
use Rattle.std.proofs.lemmas.Bool.{false≢true}
use Rattle.std.proofs.lemmas.Bool.Decides.{nat_tests}
use Rattle.pg_picture.specs.Table.{Known}
use Rattle.pg_picture.proofs.Appending.{Appends-text, Gained-none, Gained-all}
use Rattle.pg_peekable.specs.Grids.{printed_table}
use Rattle.pg_picture.proofs.Pictures.{picture-none, picture-some}
use Rattle.pg_peekable.proofs.grid.PeekableGrid+R+ref+SpannedConfig+B+D+C.build.Goals as goal
use Rattle.pg_peekable.proofs.grid.PeekableGrid+R+ref+SpannedConfig+B+D+C.build.Goals.{then-rows-eq0-via-then-rows-eq0, then-rows-eq0-via-else-rows-eq0+then-columns-eq0}

pub returns-then-rows-eq0-clause-appends : goal.returns-then-rows-eq0-clause-appends
returns-then-rows-eq0-clause-appends g c =
    let t = printed_table g.R.Records g.D.Dimension g.C.Colors c.args.self.now in
    let none : ((t.rows == 0) || (t.columns == 0)) ≡ true =
    elim c.then-rows-eq0.branch [
      | then-rows-eq0-via-then-rows-eq0 w ↦ (let e : t.rows ≡ 0 = sym c.count_rows-rows.ensures ∙ w.if-rows-eq0.true in grind (arith, nat_tests, e))
      | then-rows-eq0-via-else-rows-eq0+then-columns-eq0 w ↦ (let e : t.columns ≡ 0 = sym c.count_columns-columns.ensures.value ∙ w.if-columns-eq0.true in grind (arith, nat_tests, e))
    ] in
    Appends-text (sym (picture-none Known t none)) (Gained-all (Gained-none c.args.buf.now))

pub push_picture-requires : goal.push_picture-requires
push_picture-requires g c =
    let t = printed_table g.R.Records g.D.Dimension g.C.Colors c.args.self.now in
    let rows = c.count_rows-rows.ensures in
    let columns = c.count_columns-columns.ensures.value in
    let some : ((t.rows == 0) || (t.columns == 0)) ≡ false = grind (arith, nat_tests, rows, columns) in
    record { full = record { fits = c.requires.fits; some = some; rows = rows; columns = columns } }

pub returns-clause-appends : goal.returns-clause-appends
returns-clause-appends g c =
    let t = printed_table g.R.Records g.D.Dimension g.C.Colors c.args.self.now in
    let rows = c.count_rows-rows.ensures in
    let columns = c.count_columns-columns.ensures.value in
    let some : ((t.rows == 0) || (t.columns == 0)) ≡ false = grind (arith, nat_tests, rows, columns) in
    Appends-text (sym (picture-some Known t some)) c.push_picture.ensures

-- a picture is pushed where there are cells
pub returns-clause-empty : goal.returns-clause-empty
returns-clause-empty g c = λ empty.
    let t = printed_table g.R.Records g.D.Dimension g.C.Colors c.args.self.now in
    let rows = c.count_rows-rows.ensures in
    let columns = c.count_columns-columns.ensures.value in
    let some : ((t.rows == 0) || (t.columns == 0)) ≡ false = grind (arith, nat_tests, rows, columns) in
    absurd (false≢true (sym some ∙ empty))

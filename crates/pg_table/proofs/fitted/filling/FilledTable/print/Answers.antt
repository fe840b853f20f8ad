use Rattle.std.proofs.Common.{◌≡◌, ◌++◌, refl, sym, ap, ◌∙◌, append-nil, string_bytes}
use Rattle.pg_picture.specs.Table.{Table, Known}
use Rattle.pg_picture.proofs.FittingTables.{misfit-empty}
use Rattle.pg_picture.proofs.Pictures.{picture-none}
use Rattle.pg_table.specs.Fitted.{printed_filled_table, printed_fitted_table}
use Rattle.pg_table.proofs.Filled.{prints-none, straight, even}
use Rattle.pg_table.proofs.fitted.filling.FilledTable.print.Goals as goal

pub push_sized-requires-clause-fits : goal.push_sized-requires-clause-fits
push_sized-requires-clause-fits g c = c.in_ok-dimension.ensures.fits refl

pub returns-then-is_empty-clause-prints : goal.returns-then-is_empty-clause-prints
returns-then-is_empty-clause-prints g c =
    prints-none (printed_fitted_table g.R.Records.texts g.R.Records.columns g.C.Colors.color c.args.self.now.fitted) c.args.self.now.width c.args.self.now.column c.args.buf.now (sym c.is_empty.ensures ∙ c.if-is_empty.true)

pub returns-then-is_empty-clause-printed : goal.returns-then-is_empty-clause-printed
returns-then-is_empty-clause-printed g c =
    let none = picture-none Known (printed_filled_table g.R.Records.texts g.R.Records.columns g.C.Colors.color c.args.self.now) (sym c.is_empty.ensures ∙ c.if-is_empty.true) in
    sym (ap (λ t. string_bytes c.args.buf.now ++ t) none ∙ append-nil (string_bytes c.args.buf.now))

pub returns-then-is_empty-clause-straight : goal.returns-then-is_empty-clause-straight
returns-then-is_empty-clause-straight g c = λ ok.
    let t : Table = printed_filled_table g.R.Records.texts g.R.Records.columns g.C.Colors.color c.args.self.now in
    straight t (misfit-empty t (sym c.is_empty.ensures ∙ c.if-is_empty.true))

pub returns-then-is_empty-clause-even : goal.returns-then-is_empty-clause-even
returns-then-is_empty-clause-even g c = λ ok.
    let t : Table = printed_filled_table g.R.Records.texts g.R.Records.columns g.C.Colors.color c.args.self.now in
    even t (misfit-empty t (sym c.is_empty.ensures ∙ c.if-is_empty.true))

pub returns-clause-straight : goal.returns-clause-straight
returns-clause-straight g c = λ ok. straight (printed_filled_table g.R.Records.texts g.R.Records.columns g.C.Colors.color c.args.self.now) (c.in_ok-dimension.ensures.fits refl)

pub returns-clause-even : goal.returns-clause-even
returns-clause-even g c = λ ok. even (printed_filled_table g.R.Records.texts g.R.Records.columns g.C.Colors.color c.args.self.now) (c.in_ok-dimension.ensures.fits refl)

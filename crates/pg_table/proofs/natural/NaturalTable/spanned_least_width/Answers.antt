use Rattle.std.proofs.Common.{◌≡◌, ℕ, ◌-◌, ◌^◌, ◌≤◌, true, false, cond, nat_lt, [], length, sym, ap, ◌∙◌, arith, None, inl, inr}
use Rattle.std.specs.Result.{result_err}
use Rattle.std.proofs.lemmas.Bool.Decides.{nat_tests}
use Rattle.pg_picture.specs.Sizes.{if_fits}
use Rattle.pg_picture.proofs.OwnersOfPlaces.{InOrder}
use Rattle.pg_table.specs.Fitted.{least_full_width}
use Rattle.pg_table.specs.Inside.{HasHugeLeast}
use Rattle.pg_table.specs.declared.fault.TableFault.TheVariants.{Memory}
use Rattle.pg_table.proofs.Faults.{fault-is}
use Rattle.pg_table.proofs.FitFaults.{handed-on}
use Rattle.pg_table.proofs.SpannedWidths.{kept-misfit, fit-passes, least-no_spans, least-spans, least-uncounted, least-huge, told-width, told-ok, told-fault, full-listed, huge-past, full-kept}
use Rattle.pg_table.proofs.natural.NaturalTable.spanned_least_width.Goals as goal

pub returns-then-not-spans_fit-clause-fault : goal.returns-then-not-spans_fit-clause-fault
returns-then-not-spans_fit-clause-fault g c = λ fault e.
    let self = c.args.self.now in
    let misfit = kept-misfit _ _ c.requires (sym c.spans_fit.ensures.fit ∙ c.if-not-spans_fit.true) in
    inl (least-spans c.args.how self.config.now (g.R.Records.texts self.records) (g.R.Records.columns self.records) misfit ∙ ap result_err e)

pub returns-then-count_columns-clause-fault : goal.returns-then-count_columns-clause-fault
returns-then-count_columns-clause-fault g c = λ fault e.
    let self = c.args.self.now in
    let columns : ℕ = g.R.Records.columns self.records in
    let many : nat_lt columns (2 ^ 64 - 1) ≡ false = grind (arith, nat_tests, c.count_columns.ensures.value, c.if-count_columns.true) in
    inl (least-uncounted c.args.how self.config.now (g.R.Records.texts self.records) columns (fit-passes _ _ (sym c.spans_fit.ensures.fit ∙ c.if-not-spans_fit.false)) many ∙ ap result_err e)

pub least_widths-requires : goal.least_widths-requires
least_widths-requires g c = rw (c.sizes.ensures.records, c.sizes.ensures.config) (sym c.spans_fit.ensures.fit ∙ c.if-not-spans_fit.false)

pub returns-in_err-widths-clause-fault : goal.returns-in_err-widths-clause-fault
returns-in_err-widths-clause-fault g c = λ fault e. inr (sym (fault-is _ Memory fault (handed-on c.from_residual.result Memory c.from_residual.ensures.1) e))

pub returns-in-Some-clause-width : goal.returns-in-Some-clause-width
returns-in-Some-clause-width g c =
    let self = c.args.self.now in
    let texts = g.R.Records.texts self.records in
    let columns : ℕ = g.R.Records.columns self.records in
    let wide = rw (c.in-Some.is, c.sizes.ensures.records, c.sizes.ensures.config) at c.in_ok-widths.ensures.widths in
    let yes : nat_lt columns (2 ^ 64 - 1) ≡ true = grind (arith, nat_tests, c.count_columns.ensures.value) in
    let line = (rw c.count_columns-in-Some.ensures.value at c.full_width.ensures)
    ∙ ap (λ n. if_fits n) (full-listed c.args.how self.config.now texts columns c.requires c.in-Some.widths.items wide _)
    ∙ sym (ap (λ b. cond b (if_fits (least_full_width c.args.how self.config.now texts columns)) None) yes) in
    rw c.ok_or.ensures.value (told-width c.args.how self.config.now texts columns c.full_width.result line)

pub returns-in-Some-clause-ok : goal.returns-in-Some-clause-ok
returns-in-Some-clause-ok g c = λ ok.
    let self = c.args.self.now in
    let texts = g.R.Records.texts self.records in
    let columns : ℕ = g.R.Records.columns self.records in
    let wide = rw (c.in-Some.is, c.sizes.ensures.records, c.sizes.ensures.config) at c.in_ok-widths.ensures.widths in
    let yes : nat_lt columns (2 ^ 64 - 1) ≡ true = grind (arith, nat_tests, c.count_columns.ensures.value) in
    let line = (rw c.count_columns-in-Some.ensures.value at c.full_width.ensures)
    ∙ ap (λ n. if_fits n) (full-listed c.args.how self.config.now texts columns c.requires c.in-Some.widths.items wide _)
    ∙ sym (ap (λ b. cond b (if_fits (least_full_width c.args.how self.config.now texts columns)) None) yes) in
    told-ok c.args.how self.config.now texts columns (fit-passes _ _ (sym c.spans_fit.ensures.fit ∙ c.if-not-spans_fit.false)) c.full_width.result line (rw c.ok_or.ensures.value at ok)

pub returns-in-Some-clause-fault : goal.returns-in-Some-clause-fault
returns-in-Some-clause-fault g c = λ fault e.
    let self = c.args.self.now in
    let texts = g.R.Records.texts self.records in
    let columns : ℕ = g.R.Records.columns self.records in
    let wide = rw (c.in-Some.is, c.sizes.ensures.records, c.sizes.ensures.config) at c.in_ok-widths.ensures.widths in
    let yes : nat_lt columns (2 ^ 64 - 1) ≡ true = grind (arith, nat_tests, c.count_columns.ensures.value) in
    let line = (rw c.count_columns-in-Some.ensures.value at c.full_width.ensures)
    ∙ ap (λ n. if_fits n) (full-listed c.args.how self.config.now texts columns c.requires c.in-Some.widths.items wide _)
    ∙ sym (ap (λ b. cond b (if_fits (least_full_width c.args.how self.config.now texts columns)) None) yes) in
    inl (told-fault c.args.how self.config.now texts columns (fit-passes _ _ (sym c.spans_fit.ensures.fit ∙ c.if-not-spans_fit.false)) c.full_width.result line fault (sym c.ok_or.ensures.value ∙ e))

pub returns-in-None-clause-fault : goal.returns-in-None-clause-fault
returns-in-None-clause-fault g c = λ fault e.
    let self = c.args.self.now in
    let texts = g.R.Records.texts self.records in
    let columns : ℕ = g.R.Records.columns self.records in
    let fit = sym c.spans_fit.ensures.fit ∙ c.if-not-spans_fit.false in
    let order : InOrder self.config.now.spans (length texts) columns = record { ascending = c.spans_fit.ensures.ascending; fit = fit } in
    let huge : HasHugeLeast c.args.how self.config.now texts columns = (rw (c.sizes.ensures.records, c.sizes.ensures.config) at c.in_ok-widths.ensures.huge) c.in-None.is in
    let past : 2 ^ 64 ≤ least_full_width c.args.how self.config.now texts columns = omega (arith, huge-past c.args.how self.config.now texts columns order huge, full-kept c.args.how 0 [] self.config.now texts columns c.requires) in
    inl (least-huge c.args.how self.config.now texts columns (fit-passes _ _ fit) past ∙ ap result_err e)

pub returns-then-count_columns-clause-spans : goal.returns-then-count_columns-clause-spans
returns-then-count_columns-clause-spans g c = λ told.
    let self = c.args.self.now in
    absurd (least-no_spans c.args.how self.config.now (g.R.Records.texts self.records) (g.R.Records.columns self.records) (fit-passes _ _ (sym c.spans_fit.ensures.fit ∙ c.if-not-spans_fit.false)) told)

pub returns-in_err-widths-clause-spans : goal.returns-in_err-widths-clause-spans
returns-in_err-widths-clause-spans g c = λ told.
    let self = c.args.self.now in
    absurd (least-no_spans c.args.how self.config.now (g.R.Records.texts self.records) (g.R.Records.columns self.records) (fit-passes _ _ (sym c.spans_fit.ensures.fit ∙ c.if-not-spans_fit.false)) told)

pub returns-in-Some-clause-spans : goal.returns-in-Some-clause-spans
returns-in-Some-clause-spans g c = λ told.
    let self = c.args.self.now in
    absurd (least-no_spans c.args.how self.config.now (g.R.Records.texts self.records) (g.R.Records.columns self.records) (fit-passes _ _ (sym c.spans_fit.ensures.fit ∙ c.if-not-spans_fit.false)) told)

pub returns-in-None-clause-spans : goal.returns-in-None-clause-spans
returns-in-None-clause-spans g c = λ told.
    let self = c.args.self.now in
    absurd (least-no_spans c.args.how self.config.now (g.R.Records.texts self.records) (g.R.Records.columns self.records) (fit-passes _ _ (sym c.spans_fit.ensures.fit ∙ c.if-not-spans_fit.false)) told)

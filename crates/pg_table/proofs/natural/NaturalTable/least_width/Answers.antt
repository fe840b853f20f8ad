use Rattle.std.proofs.Common.{ℕ, ◌-◌, ◌^◌, cond, nat_lt, None, [], sym, ap, ◌∙◌, inl, inr}
use Rattle.pg_picture.specs.Sizes.{if_fits}
use Rattle.pg_table.proofs.FittedTables.{full-plain}
use Rattle.pg_table.proofs.SpannedWidths.{least-no_spans, unkept-passes, told-width, told-ok, told-fault}
use Rattle.pg_table.proofs.natural.NaturalTable.least_width.Goals as goal

pub returns-then-keeps_spans-clause-fault : goal.returns-then-keeps_spans-clause-fault
returns-then-keeps_spans-clause-fault g c = λ fault e.
    elim (c.spanned_least_width.ensures.fault fault e) [
      | inl told ↦ inl told
      | inr memory ↦ inr (memory, sym c.keeps_spans.ensures ∙ c.if-keeps_spans.true)
    ]

pub returns-clause-width : goal.returns-clause-width
returns-clause-width g c =
    let self = c.args.self.now in
    let texts = g.R.Records.texts self.records in
    let columns : ℕ = g.R.Records.columns self.records in
    let unkept = sym c.keeps_spans.ensures ∙ c.if-keeps_spans.false in
    let line = c.plain_least_width.ensures ∙ ap (λ n. cond (nat_lt columns (2 ^ 64 - 1)) (if_fits n) None) (sym (full-plain c.args.how 0 [] self.config.now texts columns unkept)) in
    rw c.ok_or.ensures.value (told-width c.args.how self.config.now texts columns c.plain_least_width.result line)

pub returns-clause-ok : goal.returns-clause-ok
returns-clause-ok g c = λ ok.
    let self = c.args.self.now in
    let texts = g.R.Records.texts self.records in
    let columns : ℕ = g.R.Records.columns self.records in
    let unkept = sym c.keeps_spans.ensures ∙ c.if-keeps_spans.false in
    let line = c.plain_least_width.ensures ∙ ap (λ n. cond (nat_lt columns (2 ^ 64 - 1)) (if_fits n) None) (sym (full-plain c.args.how 0 [] self.config.now texts columns unkept)) in
    told-ok c.args.how self.config.now texts columns (unkept-passes _ _ unkept) c.plain_least_width.result line (rw c.ok_or.ensures.value at ok)

pub returns-clause-fault : goal.returns-clause-fault
returns-clause-fault g c = λ fault e.
    let self = c.args.self.now in
    let texts = g.R.Records.texts self.records in
    let columns : ℕ = g.R.Records.columns self.records in
    let unkept = sym c.keeps_spans.ensures ∙ c.if-keeps_spans.false in
    let line = c.plain_least_width.ensures ∙ ap (λ n. cond (nat_lt columns (2 ^ 64 - 1)) (if_fits n) None) (sym (full-plain c.args.how 0 [] self.config.now texts columns unkept)) in
    inl (told-fault c.args.how self.config.now texts columns (unkept-passes _ _ unkept) c.plain_least_width.result line fault (sym c.ok_or.ensures.value ∙ e))

pub returns-clause-spans : goal.returns-clause-spans
returns-clause-spans g c = λ told.
    let self = c.args.self.now in
    absurd (least-no_spans c.args.how self.config.now (g.R.Records.texts self.records) (g.R.Records.columns self.records) (unkept-passes _ _ (sym c.keeps_spans.ensures ∙ c.if-keeps_spans.false)) told)

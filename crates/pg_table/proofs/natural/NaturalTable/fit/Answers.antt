use Rattle.std.proofs.Common.{◌≡◌, ◌<◌, ◌-◌, ◌^◌, ◌==◌, ◌&&◌, ◌||◌, ℕ, true, false, List, length, not, nat_lt, Ok, Err, IfOk, refl, sym, ap, ◌∙◌, arith, inl, inr}
use Rattle.std.proofs.lemmas.Bool.{false≢true, cases_Bool}
use Rattle.std.proofs.lemmas.Bool.Decides.{nat_tests}
use Rattle.pg_config.specs.Spans.{Span}
use Rattle.pg_fit.specs.Overlaid.{other_text}
use Rattle.pg_table.specs.Natural.{natural_sizes, all_fit}
use Rattle.pg_table.specs.Inside.{AreFittedTogether, IsFitted}
use Rattle.pg_table.specs.declared.fault.TableFault.TheVariants.{Totals}
use Rattle.pg_table.specs.declared.sizes.Axis.TheVariants.{Columns}
use Rattle.pg_table.proofs.FitFaults.{kept-parts, same-fault, not-both, fault-empty, fault-totals, fault-none, unkept}
use Rattle.pg_table.proofs.FittedPlaces.{none-there}
use Rattle.pg_table.proofs.NaturalRoom.{no-spans, plain-widths, empty-widths}
use Rattle.pg_table.proofs.natural.NaturalTable.fit.Goals as goal

pub returns-then-is_empty-clause-fault : goal.returns-then-is_empty-clause-fault
returns-then-is_empty-clause-fault g c = λ fault h.
    let self = c.args.self.now in
    let none = fault-empty self.config.now (g.R.Records.texts self.records) (g.R.Records.columns self.records) (sym c.is_empty.ensures ∙ c.if-is_empty.true) in
    cc

pub returns-then-is_empty-clause-fits : goal.returns-then-is_empty-clause-fits
returns-then-is_empty-clause-fits g c =
    let self = c.args.self.now in
    let texts = g.R.Records.texts self.records in
    let columns : ℕ = g.R.Records.columns self.records in
    let unkept = sym c.keeps_spans.ensures ∙ c.if-keeps_spans.false in
    let empty : ((length texts == 0) || (columns == 0)) ≡ true = sym c.is_empty.ensures ∙ c.if-is_empty.true in
    record {
      alone = λ _. record {
        plain = empty-widths self.config.now (length texts) columns empty;
        fits = none-there c.args.within.now.how c.args.within.now.total c.args.within.now.limits.now self.config.now texts columns (other_text c.args.records.now.others texts) (λ p. ap (λ o. other_text o texts p) c.requires)
            (λ p h k. let low : 0 < length texts = omega (arith, h) in let wide : 0 < columns = omega (arith, k) in grind (arith, nat_tests, empty, low, wide));
      };
      together = λ kept. absurd (false≢true (sym unkept ∙ kept));
    }

pub returns-in-Ok-clause-fits : goal.returns-in-Ok-clause-fits
returns-in-Ok-clause-fits g c =
    let self = c.args.self.now in
    let texts = g.R.Records.texts self.records in
    let columns : ℕ = g.R.Records.columns self.records in
    let some = sym c.is_empty.ensures ∙ c.if-is_empty.false in
    let plain : not (length self.config.now.spans == 0) ≡ false = unkept _ (not (length self.config.now.spans == 0)) (sym c.keeps_spans.ensures ∙ c.if-keeps_spans.false) some in
    let none : (length self.config.now.spans == 0) ≡ true = grind (arith, plain) in
    record {
      alone = λ _. record {
        plain = plain-widths self.config.now (length texts) columns (no-spans self.config.now.spans none);
        fits = rw (c.sizes.ensures.records, c.sizes.ensures.config) at c.in-Ok.ensures.fits;
      };
      together = λ kept. absurd (false≢true (sym (sym c.keeps_spans.ensures ∙ c.if-keeps_spans.false) ∙ kept));
    }

pub returns-in-Ok-clause-fault : goal.returns-in-Ok-clause-fault
returns-in-Ok-clause-fault g c = λ fault h.
    let self = c.args.self.now in
    let texts = g.R.Records.texts self.records in
    let columns : ℕ = g.R.Records.columns self.records in
    let some = sym c.is_empty.ensures ∙ c.if-is_empty.false in
    let plain : not (length self.config.now.spans == 0) ≡ false = unkept _ (not (length self.config.now.spans == 0)) (sym c.keeps_spans.ensures ∙ c.if-keeps_spans.false) some in
    let told = rw (c.sizes.ensures.records, c.sizes.ensures.config) at c.in-Ok.ensures.totals in
    elim (cases_Bool (nat_lt columns (2 ^ 64 - 1) && all_fit (natural_sizes Columns self.config.now texts columns))) [
      | inl held ↦ absurd (not-both _ fault (fault-none self.config.now texts columns some plain held) h)
      | inr past ↦ let is = told past in cc
    ]

pub returns-in-Err-clause-fault : goal.returns-in-Err-clause-fault
returns-in-Err-clause-fault g c = λ fault h.
    let self = c.args.self.now in
    let texts = g.R.Records.texts self.records in
    let columns : ℕ = g.R.Records.columns self.records in
    let some = sym c.is_empty.ensures ∙ c.if-is_empty.false in
    let plain : not (length self.config.now.spans == 0) ≡ false = unkept _ (not (length self.config.now.spans == 0)) (sym c.keeps_spans.ensures ∙ c.if-keeps_spans.false) some in
    let told = rw (c.sizes.ensures.records, c.sizes.ensures.config) at c.in-Err.ensures.totals in
    elim (cases_Bool (nat_lt columns (2 ^ 64 - 1) && all_fit (natural_sizes Columns self.config.now texts columns))) [
      | inl held ↦ absurd (not-both _ fault (fault-none self.config.now texts columns some plain held) h)
      | inr past ↦ let is = told past in let same = same-fault Totals fault (sym (fault-totals self.config.now texts columns some plain past) ∙ h) in cc
    ]

pub returns-in-Err-clause-memory : goal.returns-in-Err-clause-memory
returns-in-Err-clause-memory g c = λ fault h e.
    let self = c.args.self.now in
    let texts = g.R.Records.texts self.records in
    let columns : ℕ = g.R.Records.columns self.records in
    let some = sym c.is_empty.ensures ∙ c.if-is_empty.false in
    let plain : not (length self.config.now.spans == 0) ≡ false = unkept _ (not (length self.config.now.spans == 0)) (sym c.keeps_spans.ensures ∙ c.if-keeps_spans.false) some in
    let told = rw (c.sizes.ensures.records, c.sizes.ensures.config) at c.in-Err.ensures.memory in
    elim (cases_Bool (nat_lt columns (2 ^ 64 - 1) && all_fit (natural_sizes Columns self.config.now texts columns))) [
      | inl held ↦ let is = told held c.in-Err.fault refl in cc
      | inr past ↦ absurd (not-both _ Totals h (fault-totals self.config.now texts columns some plain past))
    ]

pub returns-in-Err-clause-narrow : goal.returns-in-Err-clause-narrow
returns-in-Err-clause-narrow g c = λ none spanless w.
    let self = c.args.self.now in
    let texts = g.R.Records.texts self.records in
    let columns : ℕ = g.R.Records.columns self.records in
    let some = sym c.is_empty.ensures ∙ c.if-is_empty.false in
    let plain : not (length self.config.now.spans == 0) ≡ false = unkept _ (not (length self.config.now.spans == 0)) (sym c.keeps_spans.ensures ∙ c.if-keeps_spans.false) some in
    let told = rw (c.sizes.ensures.records, c.sizes.ensures.config) at c.in-Err.ensures.narrow in
    elim (cases_Bool (nat_lt columns (2 ^ 64 - 1) && all_fit (natural_sizes Columns self.config.now texts columns))) [
      | inl held ↦ told held w
      | inr past ↦ absurd (not-both _ Totals none (fault-totals self.config.now texts columns some plain past))
    ]

pub returns-then-keeps_spans-clause-fits : goal.returns-then-keeps_spans-clause-fits
returns-then-keeps_spans-clause-fits g c =
    let self = c.args.self.now in
    let texts = g.R.Records.texts self.records in
    let columns = g.R.Records.columns self.records in
    let kept = sym c.keeps_spans.ensures ∙ c.if-keeps_spans.true in
    let now = other_text c.fit_spanned.new.records.others texts in
    elim c.fit_spanned.result as (λ r. IfOk r (λ ws. AreFittedTogether c.args.within.now.how c.args.within.now.total c.args.within.now.limits.now self.config.now texts columns ws.items now) → IfOk r (λ ws. IsFitted c.args.within.now.how c.args.within.now.total c.args.within.now.limits.now self.config.now texts columns ws.items now)) [
      | Ok ws ↦ λ fits. record { alone = λ unkept. absurd (false≢true (sym unkept ∙ kept)); together = λ _. fits }
      | Err e ↦ λ _. tt
    ] c.fit_spanned.ensures.fits

pub returns-then-keeps_spans-clause-empty : goal.returns-then-keeps_spans-clause-empty
returns-then-keeps_spans-clause-empty g c = λ empty.
    let self = c.args.self.now in
    let texts = g.R.Records.texts self.records in
    let columns : ℕ = g.R.Records.columns self.records in
    let kept = sym c.keeps_spans.ensures ∙ c.if-keeps_spans.true in
    absurd (false≢true (sym (kept-parts ((length texts == 0) || (columns == 0)) (not (length self.config.now.spans == 0)) kept).0 ∙ empty))

pub returns-then-keeps_spans-clause-narrow : goal.returns-then-keeps_spans-clause-narrow
returns-then-keeps_spans-clause-narrow g c = λ none spanless w.
    let self = c.args.self.now in
    let texts = g.R.Records.texts self.records in
    let columns : ℕ = g.R.Records.columns self.records in
    let kept = sym c.keeps_spans.ensures ∙ c.if-keeps_spans.true in
    let plain = ap (λ (spans : List Span). not (length spans == 0)) spanless in
    absurd (false≢true (sym plain ∙ (kept-parts ((length texts == 0) || (columns == 0)) (not (length self.config.now.spans == 0)) kept).1))

use Rattle.std.proofs.Common.{◌≡◌, ◌-◌, length, sym, ap, ◌∙◌, arith, inl, inr, subst, true, false}
use Rattle.std.proofs.lemmas.Bool.{cases_order}
use Rattle.pg_layout.specs.declared.position.Position.{Position}
use Rattle.pg_layout.specs.Position.{at}
use Rattle.pg_layout.specs.Records.{text_at}
use Rattle.pg_table.specs.Numbers.{is_number_or_blank}
use Rattle.pg_table.proofs.ShownCells.{all_pass, one_fails}
use Rattle.pg_table.proofs.table.settings.is_numeric.Goals as goal

pub loop-row-preserved : goal.loop-row-preserved
loop-row-preserved g c =
    let texts = g.R.Records.texts c.args.records.now in
    let here : is_number_or_blank (text_at texts (at c.loop-row.row c.args.column)) ≡ true =
    ap (λ (p : Position). is_number_or_blank (text_at texts p)) (sym c.new.ensures) ∙ ap is_number_or_blank (sym c.get_text.ensures) ∙ sym c.is_number_or_blank.ensures ∙ c.if-not-is_number_or_blank.false in
    record {
      numbers = λ k past below. elim (cases_order k c.loop-row.row) [
        | inl same ↦ subst (λ r. is_number_or_blank (text_at texts (at r c.args.column)) ≡ true) (sym same) here
        | inr other ↦ elim other [ inl before ↦ c.loop-row.invariant.numbers k past before | inr above ↦ absurd (omega (arith, above, below)) ]
      ];
      first = omega (arith, c.loop-row.invariant.first);
    }

pub returns-then-not-is_number_or_blank : goal.returns-then-not-is_number_or_blank
returns-then-not-is_number_or_blank g c =
    let texts = g.R.Records.texts c.args.records.now in
    let here : is_number_or_blank (text_at texts (at c.loop-row.row c.args.column)) ≡ false =
    ap (λ (p : Position). is_number_or_blank (text_at texts p)) (sym c.new.ensures) ∙ ap is_number_or_blank (sym c.get_text.ensures) ∙ sym c.is_number_or_blank.ensures ∙ c.if-not-is_number_or_blank.true in
    sym (one_fails (λ r. is_number_or_blank (text_at texts (at r c.args.column))) 1 (length texts - 1) c.loop-row.row c.loop-row.invariant.first (omega (arith, c.loop-row-test.true, c.count_rows-row-end.ensures)) here)

pub returns : goal.returns
returns g c =
    let texts = g.R.Records.texts c.args.records.now in
    sym (all_pass (λ r. is_number_or_blank (text_at texts (at r c.args.column))) 1 (length texts - 1) (λ k past below. c.loop-row.invariant.numbers k past (omega (arith, below, c.loop-row-test.false, c.count_rows-row-end.ensures, past))))

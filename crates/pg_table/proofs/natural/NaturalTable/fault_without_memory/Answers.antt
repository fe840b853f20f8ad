use Rattle.std.proofs.Common.{◌≡◌, ◌==◌, true, not, List, length, refl, sym, ap, ◌∙◌, inl, inr}
use Rattle.std.proofs.lemmas.Bool.{cases_Bool}
use Rattle.pg_config.specs.Spans.{Span}
use Rattle.pg_picture.specs.Fits.{totals_fit}
use Rattle.pg_picture.specs.Table.{Table}
use Rattle.pg_table.specs.Printing.{printed_table_of, natural_parts}
use Rattle.pg_table.proofs.Faults.{fault-totals, fault-fits}
use Rattle.pg_table.proofs.natural.NaturalTable.fault_without_memory.Goals as goal
use Rattle.pg_table.proofs.natural.NaturalTable.fault_without_memory.Goals.{else-is_empty-via-then-is_empty+else-not-totals_fit, else-is_empty-via-else-is_empty}

pub returns-then-not-totals_fit : goal.returns-then-not-totals_fit
returns-then-not-totals_fit g c =
    let t : Table = (printed_table_of g.R.Records.texts g.R.Records.columns g.C.Colors.color (natural_parts c.args.self.now)) in
    inl (fault-totals t c.requires.some c.requires.fit (sym c.totals_fit.ensures ∙ c.if-not-totals_fit.true))

pub returns-else-is_empty : goal.returns-else-is_empty
returns-else-is_empty g c =
    let t : Table = (printed_table_of g.R.Records.texts g.R.Records.columns g.C.Colors.color (natural_parts c.args.self.now)) in
    elim c.else-is_empty.branch [
      | else-is_empty-via-then-is_empty+else-not-totals_fit w ↦ inr (refl, inl (fault-fits t c.requires.some c.requires.fit (sym w.totals_fit.ensures ∙ w.if-not-totals_fit.false)))
      | else-is_empty-via-else-is_empty w ↦
          let spanned : not (length t.config.spans == 0) ≡ true = ap not (ap (λ (xs : List Span). length xs == 0) (sym c.spans.ensures.all) ∙ sym c.is_empty.ensures ∙ w.if-is_empty.false) in
          elim (cases_Bool (totals_fit t)) [
            | inl totals ↦ inr (refl, inl (fault-fits t c.requires.some c.requires.fit totals))
            | inr past ↦ inr (refl, inr (fault-totals t c.requires.some c.requires.fit past, spanned))
          ]
    ]

use Rattle.std.proofs.Common.{◌&&◌, ℕ, refl, sym, ◌∙◌}
use Rattle.std.proofs.lemmas.Bool.{and_right}
use Rattle.pg_config.specs.Config.{Config}
use Rattle.pg_table.specs.Natural.{all_fit, natural_sizes}
use Rattle.pg_table.specs.Printing.{sizes_fault}
use Rattle.pg_table.specs.declared.fault.TableFault.TheVariants.{Spans, Totals}
use Rattle.pg_table.specs.declared.sizes.Axis.TheVariants.{Columns, Rows}
use Rattle.pg_table.proofs.Faults.{cells-no_fault, fit-passes, sizes-spans, sizes-past, one_fault, no_fault}
use Rattle.pg_table.proofs.natural.NaturalTable.natural_dimension.Goals as goal

pub returns-then-not-spans_fit-clause-fault : goal.returns-then-not-spans_fit-clause-fault
returns-then-not-spans_fit-clause-fault g c = λ fault e.
    let self = c.args.self.now in
    let config : Config = self.config.now in
    let texts = g.R.Records.texts self.records in
    let columns : ℕ = g.R.Records.columns self.records in
    one_fault _ (sizes_fault config texts columns) Spans fault refl (sizes-spans config texts columns (sym c.is_empty.ensures ∙ c.if-is_empty.false) (sym c.spans_fit.ensures.fit ∙ c.if-not-spans_fit.true)) e

pub returns-then-not-spans_fit-clause-memory : goal.returns-then-not-spans_fit-clause-memory
returns-then-not-spans_fit-clause-memory g c = λ fault none e.
    let self = c.args.self.now in
    let config : Config = self.config.now in
    let texts = g.R.Records.texts self.records in
    let columns : ℕ = g.R.Records.columns self.records in
    absurd (no_fault (sizes_fault config texts columns) Spans none (sizes-spans config texts columns (sym c.is_empty.ensures ∙ c.if-is_empty.false) (sym c.spans_fit.ensures.fit ∙ c.if-not-spans_fit.true)))

pub returns-in-Ok-Some-clause-fault : goal.returns-in-Ok-Some-clause-fault
returns-in-Ok-Some-clause-fault g c = λ fault e.
    let self = c.args.self.now in
    let config : Config = self.config.now in
    let texts = g.R.Records.texts self.records in
    let columns : ℕ = g.R.Records.columns self.records in
    let some = sym c.is_empty.ensures ∙ c.if-is_empty.false in
    let fit = sym c.spans_fit.ensures.fit ∙ c.if-not-spans_fit.false in
    let all = rw (c.in-Ok-Some.is, c.in-Ok-Some.field-0-is, c.sizes.ensures.records, c.sizes.ensures.config) at c.measured.ensures.sized in
    absurd (no_fault (sizes_fault config texts columns) fault (cells-no_fault config texts columns some (record { ascending = c.spans_fit.ensures.ascending; fit = fit }) (sym all)) e)

pub returns-in-Ok-None-clause-fault : goal.returns-in-Ok-None-clause-fault
returns-in-Ok-None-clause-fault g c = λ fault e.
    let self = c.args.self.now in
    let config : Config = self.config.now in
    let texts = g.R.Records.texts self.records in
    let columns : ℕ = g.R.Records.columns self.records in
    let some = sym c.is_empty.ensures ∙ c.if-is_empty.false in
    let fit = sym c.spans_fit.ensures.fit ∙ c.if-not-spans_fit.false in
    let past = rw (c.in-Ok-None.is, c.in-Ok-None.field-0-is, c.sizes.ensures.records, c.sizes.ensures.config) at c.measured.ensures.sized in
    one_fault _ (sizes_fault config texts columns) Totals fault refl (sizes-past config texts columns (fit-passes _ _ fit) (and_right (all_fit (natural_sizes Columns config texts columns) && all_fit (natural_sizes Rows config texts columns)) _ (sym past))) e

pub returns-in-Ok-None-clause-memory : goal.returns-in-Ok-None-clause-memory
returns-in-Ok-None-clause-memory g c = λ fault none e.
    let self = c.args.self.now in
    let config : Config = self.config.now in
    let texts = g.R.Records.texts self.records in
    let columns : ℕ = g.R.Records.columns self.records in
    let some = sym c.is_empty.ensures ∙ c.if-is_empty.false in
    let fit = sym c.spans_fit.ensures.fit ∙ c.if-not-spans_fit.false in
    let past = rw (c.in-Ok-None.is, c.in-Ok-None.field-0-is, c.sizes.ensures.records, c.sizes.ensures.config) at c.measured.ensures.sized in
    absurd (no_fault (sizes_fault config texts columns) Totals none (sizes-past config texts columns (fit-passes _ _ fit) (and_right (all_fit (natural_sizes Columns config texts columns) && all_fit (natural_sizes Rows config texts columns)) _ (sym past))))

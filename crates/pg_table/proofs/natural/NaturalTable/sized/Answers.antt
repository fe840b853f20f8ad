use Rattle.std.proofs.Common.{refl, sym, ◌∙◌}
use Rattle.pg_picture.specs.Table.{Table}
use Rattle.pg_table.specs.Printing.{printed_table_of, natural_parts}
use Rattle.pg_table.specs.declared.fault.TableFault.TheVariants.{Spans, Totals}
use Rattle.pg_table.proofs.Faults.{fault-spans, fault-totals, fault-fits, can-fail}
use Rattle.pg_table.proofs.ToldTables.{cells-past, listed-totals}
use Rattle.pg_table.proofs.natural.NaturalTable.sized.Goals as goal

pub returns-then-not-spans_fit-clause-fault : goal.returns-then-not-spans_fit-clause-fault
returns-then-not-spans_fit-clause-fault g c = λ fault e.
    let t : Table = (printed_table_of g.R.Records.texts g.R.Records.columns g.C.Colors.color (natural_parts c.args.self.now)) in
    can-fail t _ Spans fault refl e (fault-spans t c.requires (sym c.spans_fit.ensures.fit ∙ c.if-not-spans_fit.true))

pub returns-then-totals_fit-clause-ok : goal.returns-then-totals_fit-clause-ok
returns-then-totals_fit-clause-ok g c = λ ok.
    let self = c.args.self.now in
    let texts = g.R.Records.texts self.records in
    let columns = g.R.Records.columns self.records in
    let wide = rw (c.in-Ok-Some.is, c.in-Ok-Some.field-0-is, c.sizes.ensures.records, c.sizes.ensures.config) at c.measured.ensures.widths in
    let high = rw (c.in-Ok-Some.is, c.in-Ok-Some.field-0-is, c.sizes.ensures.records, c.sizes.ensures.config) at c.measured.ensures.heights in
    let told = (rw (c.count_rows-rows.ensures, c.count_columns-columns.ensures.value) at c.totals_fit.ensures)
    ∙ listed-totals self.widths.now self.config.now texts columns (g.C.Colors.color self.colors.now) c.in-Ok-Some.dimension.0.items c.in-Ok-Some.dimension.1.items wide high in
    let t : Table = (printed_table_of g.R.Records.texts g.R.Records.columns g.C.Colors.color (natural_parts c.args.self.now)) in
    fault-fits t c.requires (sym c.spans_fit.ensures.fit ∙ c.if-not-spans_fit.false) (sym told ∙ c.if-totals_fit.true)

pub returns-else-totals_fit-clause-fault : goal.returns-else-totals_fit-clause-fault
returns-else-totals_fit-clause-fault g c = λ fault e.
    let self = c.args.self.now in
    let texts = g.R.Records.texts self.records in
    let columns = g.R.Records.columns self.records in
    let wide = rw (c.in-Ok-Some.is, c.in-Ok-Some.field-0-is, c.sizes.ensures.records, c.sizes.ensures.config) at c.measured.ensures.widths in
    let high = rw (c.in-Ok-Some.is, c.in-Ok-Some.field-0-is, c.sizes.ensures.records, c.sizes.ensures.config) at c.measured.ensures.heights in
    let told = (rw (c.count_rows-rows.ensures, c.count_columns-columns.ensures.value) at c.totals_fit.ensures)
    ∙ listed-totals self.widths.now self.config.now texts columns (g.C.Colors.color self.colors.now) c.in-Ok-Some.dimension.0.items c.in-Ok-Some.dimension.1.items wide high in
    let t : Table = (printed_table_of g.R.Records.texts g.R.Records.columns g.C.Colors.color (natural_parts c.args.self.now)) in
    can-fail t _ Totals fault refl e (fault-totals t c.requires (sym c.spans_fit.ensures.fit ∙ c.if-not-spans_fit.false) (sym told ∙ c.if-totals_fit.false))

pub returns-in-Ok-None-clause-fault : goal.returns-in-Ok-None-clause-fault
returns-in-Ok-None-clause-fault g c = λ fault e.
    let self = c.args.self.now in
    let t : Table = (printed_table_of g.R.Records.texts g.R.Records.columns g.C.Colors.color (natural_parts c.args.self.now)) in
    let fit = sym c.spans_fit.ensures.fit ∙ c.if-not-spans_fit.false in
    let past = rw (c.in-Ok-None.is, c.in-Ok-None.field-0-is, c.sizes.ensures.records, c.sizes.ensures.config) at c.measured.ensures.sized in
    can-fail t _ Totals fault refl e (fault-totals t c.requires fit
    (cells-past self.widths.now self.config.now (g.R.Records.texts self.records) (g.R.Records.columns self.records) (g.C.Colors.color self.colors.now) fit (sym past)))

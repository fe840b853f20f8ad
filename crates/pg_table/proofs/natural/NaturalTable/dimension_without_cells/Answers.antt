use Rattle.std.proofs.Common.{◌&&◌, ℕ, length, refl, sym, ap₂, ◌∙◌}
use Rattle.std.proofs.lemmas.Bool.{and_left, and_from}
use Rattle.pg_layout.specs.Records.{text_at}
use Rattle.pg_config.specs.Config.{Config}
use Rattle.pg_table.specs.Natural.{all_fit, natural_sizes, cells_fit}
use Rattle.pg_table.specs.Printing.{sizes_fault}
use Rattle.pg_table.specs.declared.fault.TableFault.TheVariants.{Totals}
use Rattle.pg_table.specs.declared.sizes.Axis.TheVariants.{Columns, Rows}
use Rattle.pg_table.proofs.Faults.{empty-passes, sizes-past, sizes-numbers, one_fault, no_fault}
use Rattle.pg_table.proofs.FitFaults.{no-cells}
use Rattle.pg_table.proofs.NaturalRoom.{empty-sizes, empty-fits}
use Rattle.pg_table.proofs.ToldTables.{plain-widths}
use Rattle.pg_table.proofs.natural.NaturalTable.dimension_without_cells.Goals as goal

pub returns-then-not-fit-clause-fault : goal.returns-then-not-fit-clause-fault
returns-then-not-fit-clause-fault g c = λ fault e.
    let self = c.args.self.now in
    let config : Config = self.config.now in
    let texts = g.R.Records.texts self.records in
    let columns : ℕ = g.R.Records.columns self.records in
    let told = rw (c.sizes-sizes.ensures.records, c.sizes-sizes.ensures.config) at c.fit.ensures in
    let lists = ap₂ (λ xs ys. all_fit xs && all_fit ys) (empty-sizes config texts columns c.requires Columns) (empty-sizes config texts columns c.requires Rows) in
    let past = and_left (all_fit (natural_sizes Columns config texts columns) && all_fit (natural_sizes Rows config texts columns)) (cells_fit config (text_at texts) (length texts) columns) (sym lists ∙ sym told ∙ c.if-not-fit.true) in
    one_fault _ (sizes_fault config texts columns) Totals fault refl (sizes-past config texts columns (empty-passes _ _ c.requires) past) e

pub returns-then-not-fit-clause-memory : goal.returns-then-not-fit-clause-memory
returns-then-not-fit-clause-memory g c = λ fault none e.
    let self = c.args.self.now in
    let config : Config = self.config.now in
    let texts = g.R.Records.texts self.records in
    let columns : ℕ = g.R.Records.columns self.records in
    let told = rw (c.sizes-sizes.ensures.records, c.sizes-sizes.ensures.config) at c.fit.ensures in
    let lists = ap₂ (λ xs ys. all_fit xs && all_fit ys) (empty-sizes config texts columns c.requires Columns) (empty-sizes config texts columns c.requires Rows) in
    let past = and_left (all_fit (natural_sizes Columns config texts columns) && all_fit (natural_sizes Rows config texts columns)) (cells_fit config (text_at texts) (length texts) columns) (sym lists ∙ sym told ∙ c.if-not-fit.true) in
    absurd (no_fault (sizes_fault config texts columns) Totals none (sizes-past config texts columns (empty-passes _ _ c.requires) past))

pub returns-in_err-widths-clause-fault : goal.returns-in_err-widths-clause-fault
returns-in_err-widths-clause-fault g c = λ fault e.
    let self = c.args.self.now in
    let config : Config = self.config.now in
    let texts = g.R.Records.texts self.records in
    let columns : ℕ = g.R.Records.columns self.records in
    let told = rw (c.sizes-sizes.ensures.records, c.sizes-sizes.ensures.config) at c.fit.ensures in
    let lists = ap₂ (λ xs ys. all_fit xs && all_fit ys) (empty-sizes config texts columns c.requires Columns) (empty-sizes config texts columns c.requires Rows) in
    let all = and_from (all_fit (natural_sizes Columns config texts columns) && all_fit (natural_sizes Rows config texts columns)) (cells_fit config (text_at texts) (length texts) columns) (sym lists ∙ sym told ∙ c.if-not-fit.false) (empty-fits config texts columns c.requires) in
    absurd (no_fault (sizes_fault config texts columns) fault (sizes-numbers config texts columns (empty-passes _ _ c.requires) all) e)

pub returns-in_err-heights-clause-fault : goal.returns-in_err-heights-clause-fault
returns-in_err-heights-clause-fault g c = λ fault e.
    let self = c.args.self.now in
    let config : Config = self.config.now in
    let texts = g.R.Records.texts self.records in
    let columns : ℕ = g.R.Records.columns self.records in
    let told = rw (c.sizes-sizes.ensures.records, c.sizes-sizes.ensures.config) at c.fit.ensures in
    let lists = ap₂ (λ xs ys. all_fit xs && all_fit ys) (empty-sizes config texts columns c.requires Columns) (empty-sizes config texts columns c.requires Rows) in
    let all = and_from (all_fit (natural_sizes Columns config texts columns) && all_fit (natural_sizes Rows config texts columns)) (cells_fit config (text_at texts) (length texts) columns) (sym lists ∙ sym told ∙ c.if-not-fit.false) (empty-fits config texts columns c.requires) in
    absurd (no_fault (sizes_fault config texts columns) fault (sizes-numbers config texts columns (empty-passes _ _ c.requires) all) e)

pub returns-clause-fault : goal.returns-clause-fault
returns-clause-fault g c = λ fault e.
    let self = c.args.self.now in
    let config : Config = self.config.now in
    let texts = g.R.Records.texts self.records in
    let columns : ℕ = g.R.Records.columns self.records in
    let told = rw (c.sizes-sizes.ensures.records, c.sizes-sizes.ensures.config) at c.fit.ensures in
    let lists = ap₂ (λ xs ys. all_fit xs && all_fit ys) (empty-sizes config texts columns c.requires Columns) (empty-sizes config texts columns c.requires Rows) in
    let all = and_from (all_fit (natural_sizes Columns config texts columns) && all_fit (natural_sizes Rows config texts columns)) (cells_fit config (text_at texts) (length texts) columns) (sym lists ∙ sym told ∙ c.if-not-fit.false) (empty-fits config texts columns c.requires) in
    absurd (no_fault (sizes_fault config texts columns) fault (sizes-numbers config texts columns (empty-passes _ _ c.requires) all) e)

pub returns-clause-widths : goal.returns-clause-widths
returns-clause-widths g c =
    let self = c.args.self.now in
    let config : Config = self.config.now in
    let texts = g.R.Records.texts self.records in
    let columns : ℕ = g.R.Records.columns self.records in
    (rw (c.sizes-sizes.ensures.records, c.sizes-sizes.ensures.config) at c.in_ok-widths.ensures)
    ∙ empty-sizes config texts columns c.requires Columns
    ∙ sym (plain-widths self.widths.now config texts columns (no-cells _ _ c.requires))

pub returns-clause-heights : goal.returns-clause-heights
returns-clause-heights g c =
    let self = c.args.self.now in
    let config : Config = self.config.now in
    let texts = g.R.Records.texts self.records in
    let columns : ℕ = g.R.Records.columns self.records in
    (rw (c.sizes-sizes.ensures.records, c.sizes-sizes.ensures.config) at c.in_ok-heights.ensures) ∙ empty-sizes config texts columns c.requires Rows

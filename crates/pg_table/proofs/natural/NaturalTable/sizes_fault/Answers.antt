use Rattle.std.proofs.Common.{◌&&◌, ℕ, length, sym, ap₂, ◌∙◌}
use Rattle.std.proofs.lemmas.Bool.{and_left, and_right, and_from}
use Rattle.pg_layout.specs.Records.{text_at}
use Rattle.pg_config.specs.Config.{Config}
use Rattle.pg_table.specs.Natural.{all_fit, natural_sizes, cells_fit}
use Rattle.pg_table.specs.declared.sizes.Axis.TheVariants.{Columns, Rows}
use Rattle.pg_table.proofs.Faults.{cells-no_fault, empty-passes, fit-passes, sizes-spans, sizes-past, sizes-numbers}
use Rattle.pg_table.proofs.NaturalRoom.{empty-sizes, empty-fits}
use Rattle.pg_table.proofs.natural.NaturalTable.sizes_fault.Goals as goal

pub returns-then-fit : goal.returns-then-fit
returns-then-fit g c =
    let self = c.args.self.now in
    let config : Config = self.config.now in
    let texts = g.R.Records.texts self.records in
    let columns : ℕ = g.R.Records.columns self.records in
    let empty = sym c.is_empty.ensures ∙ c.if-is_empty.true in
    let told = rw (c.sizes-sizes.ensures.records, c.sizes-sizes.ensures.config) at c.fit.ensures in
    let lists = ap₂ (λ xs ys. all_fit xs && all_fit ys) (empty-sizes config texts columns empty Columns) (empty-sizes config texts columns empty Rows) in
    let all = and_from (all_fit (natural_sizes Columns config texts columns) && all_fit (natural_sizes Rows config texts columns)) (cells_fit config (text_at texts) (length texts) columns) (sym lists ∙ sym told ∙ c.if-fit.true) (empty-fits config texts columns empty) in
    sym (sizes-numbers config texts columns (empty-passes _ _ empty) all)

pub returns-else-fit : goal.returns-else-fit
returns-else-fit g c =
    let self = c.args.self.now in
    let config : Config = self.config.now in
    let texts = g.R.Records.texts self.records in
    let columns : ℕ = g.R.Records.columns self.records in
    let empty = sym c.is_empty.ensures ∙ c.if-is_empty.true in
    let told = rw (c.sizes-sizes.ensures.records, c.sizes-sizes.ensures.config) at c.fit.ensures in
    let lists = ap₂ (λ xs ys. all_fit xs && all_fit ys) (empty-sizes config texts columns empty Columns) (empty-sizes config texts columns empty Rows) in
    let past = and_left (all_fit (natural_sizes Columns config texts columns) && all_fit (natural_sizes Rows config texts columns)) (cells_fit config (text_at texts) (length texts) columns) (sym lists ∙ sym told ∙ c.if-fit.false) in
    sym (sizes-past config texts columns (empty-passes _ _ empty) past)

pub returns-then-not-spans_fit : goal.returns-then-not-spans_fit
returns-then-not-spans_fit g c =
    let self = c.args.self.now in
    let config : Config = self.config.now in
    let texts = g.R.Records.texts self.records in
    let columns : ℕ = g.R.Records.columns self.records in
    sym (sizes-spans config texts columns (sym c.is_empty.ensures ∙ c.if-is_empty.false) (sym c.spans_fit.ensures.fit ∙ c.if-not-spans_fit.true))

pub returns-then-cells_fit : goal.returns-then-cells_fit
returns-then-cells_fit g c =
    let self = c.args.self.now in
    let config : Config = self.config.now in
    let texts = g.R.Records.texts self.records in
    let columns : ℕ = g.R.Records.columns self.records in
    let some = sym c.is_empty.ensures ∙ c.if-is_empty.false in
    let fit = sym c.spans_fit.ensures.fit ∙ c.if-not-spans_fit.false in
    let told = rw (c.sizes-sizes.ensures.records, c.sizes-sizes.ensures.config) at c.cells_fit.ensures in
    sym (cells-no_fault config texts columns some (record { ascending = c.spans_fit.ensures.ascending; fit = fit }) (sym told ∙ c.if-cells_fit.true))

pub returns-else-cells_fit : goal.returns-else-cells_fit
returns-else-cells_fit g c =
    let self = c.args.self.now in
    let config : Config = self.config.now in
    let texts = g.R.Records.texts self.records in
    let columns : ℕ = g.R.Records.columns self.records in
    let fit = sym c.spans_fit.ensures.fit ∙ c.if-not-spans_fit.false in
    let told = rw (c.sizes-sizes.ensures.records, c.sizes-sizes.ensures.config) at c.cells_fit.ensures in
    sym (sizes-past config texts columns (fit-passes _ _ fit) (and_right (all_fit (natural_sizes Columns config texts columns) && all_fit (natural_sizes Rows config texts columns)) _ (sym told ∙ c.if-cells_fit.false)))

use Rattle.std.proofs.Common.{◌≡◌, ℕ, max, map, length, ap, ◌∙◌, arith}
use Rattle.std.specs.List.{range_with_len}
use Rattle.pg_layout.specs.Position.{at}
use Rattle.pg_layout.specs.Records.{text_at}
use Rattle.pg_layout.specs.Text.{greatest}
use Rattle.pg_layout.proofs.TextLines.{greatest-more}
use Rattle.pg_picture.specs.Sizes.{if_fits}
use Rattle.pg_table.specs.Natural.{paddings}
use Rattle.pg_table.specs.Fitted.{least_column_width}
use Rattle.pg_table.specs.declared.sizes.Axis.TheVariants.{Columns}
use Rattle.pg_table.proofs.ListedSizes.{cell}
use Rattle.pg_table.proofs.sizes.NaturalSizes.least_width.Goals as goal

pub returns : goal.returns
unfolding least_column_width
returns g c =
    let self = c.args.self.now in
    let texts = g.R.Records.texts self.records in
    let all : c.loop-row.row ≡ length texts = omega (arith, c.loop-row-test.false, c.loop-row.auto.row-end, c.count_cells-row-end.ensures) in
    c.loop-row.invariant ∙ ap (λ n. if_fits (max (paddings Columns self.config.now (at 0 c.args.column)) (greatest (map (cell c.args.how self.config.now (text_at texts) (length texts) c.args.column) (range_with_len 0 n))))) all

-- one cell more
pub loop-row-preserved : goal.loop-row-preserved
loop-row-preserved g c =
    let self = c.args.self.now in
    let texts = g.R.Records.texts self.records in
    let f : ℕ → ℕ = cell c.args.how self.config.now (text_at texts) (length texts) c.args.column in
    let more = greatest-more f c.loop-row.row in
    c.greater-width.ensures _ (f c.loop-row.row) c.loop-row.invariant (rw c.new-in-loop-row.ensures at c.least_cell-cell.ensures) ∙ ap (λ n. if_fits n) (omega (arith, more))

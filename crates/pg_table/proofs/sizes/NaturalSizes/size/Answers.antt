use Rattle.std.proofs.Common.{◌≡◌, ℕ, max, map, length, ap, ◌∙◌, arith}
use Rattle.std.specs.List.{range_with_len}
use Rattle.pg_layout.specs.Records.{text_at}
use Rattle.pg_layout.specs.Text.{greatest}
use Rattle.pg_layout.proofs.TextLines.{greatest-more}
use Rattle.pg_picture.specs.Sizes.{if_fits}
use Rattle.pg_table.specs.Natural.{paddings, cell_size, cell_at, count_cells}
use Rattle.pg_table.specs.Inside.{plain_size}
use Rattle.pg_table.proofs.sizes.NaturalSizes.size.Goals as goal

pub returns : goal.returns
unfolding plain_size
returns g c =
    let self = c.args.self.now in
    let all : c.loop-j.j ≡ count_cells c.args.axis (length (g.R.Records.texts self.records)) (g.R.Records.columns self.records) = omega (arith, c.loop-j-test.false, c.loop-j.auto.j-end, c.count_cells-j-end.ensures) in
    c.loop-j.invariant
    ∙ ap (λ n. if_fits (max (paddings c.args.axis self.config.now (cell_at c.args.axis c.args.k 0)) (greatest (map (λ j. cell_size c.args.axis self.config.now (text_at (g.R.Records.texts self.records)) (cell_at c.args.axis c.args.k j)) (range_with_len 0 n))))) all

-- one cell more
pub loop-j-preserved : goal.loop-j-preserved
loop-j-preserved g c =
    let self = c.args.self.now in
    let cell : ℕ → ℕ = λ j. cell_size c.args.axis self.config.now (text_at (g.R.Records.texts self.records)) (cell_at c.args.axis c.args.k j) in
    let more = greatest-more cell c.loop-j.j in
    c.greater-size.ensures _ (cell c.loop-j.j) c.loop-j.invariant (rw c.cell-pos.ensures at c.with_text-cell.ensures) ∙ ap (λ n. if_fits n) (omega (arith, more))

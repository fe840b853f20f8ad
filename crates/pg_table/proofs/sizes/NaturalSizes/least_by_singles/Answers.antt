use Rattle.std.proofs.Common.{◌≡◌, ℕ, map, length, refl, ap, ◌∙◌, arith}
use Rattle.std.specs.List.{range_with_len}
use Rattle.pg_layout.specs.Position.{at}
use Rattle.pg_layout.specs.Text.{greatest}
use Rattle.pg_layout.proofs.TextLines.{greatest-more}
use Rattle.pg_table.specs.Spanning.{singles_width}
use Rattle.pg_table.proofs.ListedSizes.{least_single}
use Rattle.pg_table.proofs.sizes.NaturalSizes.least_by_singles.Goals as goal

pub loop-row-preserved : goal.loop-row-preserved
loop-row-preserved g c =
    let self = c.args.self.now in
    let f : ℕ → ℕ = least_single c.args.how self.config.now (g.R.Records.texts self.records) c.args.column in
    let more = greatest-more f c.loop-row.row in
    let is : c.in_ok-least_single.field-0 ≡ f c.loop-row.row = (rw c.new.ensures at c.in_ok-least_single.ensures.width) in
    omega (arith, c.max-width.ensures, is, more, c.loop-row.invariant)

pub returns-clause-width : goal.returns-clause-width
unfolding singles_width
returns-clause-width g c =
    let self = c.args.self.now in
    let texts = g.R.Records.texts self.records in
    let all : c.loop-row.row ≡ length texts = omega (arith, c.loop-row-test.false, c.loop-row.auto.row-end, c.count-row-end.ensures) in
    c.loop-row.invariant ∙ ap (λ n. greatest (map (least_single c.args.how self.config.now texts c.args.column) (range_with_len 0 n))) all

pub returns-in_err-least_single-clause-huge : goal.returns-in_err-least_single-clause-huge
returns-in_err-least_single-clause-huge g c = λ none. (at c.loop-row.row c.args.column, rw c.new.ensures at (c.in_err-least_single.ensures.huge refl))

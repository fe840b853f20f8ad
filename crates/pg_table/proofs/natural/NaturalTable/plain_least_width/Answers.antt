use Rattle.std.proofs.Common.{◌≡◌, ◌-◌, ◌^◌, ℕ, true, cond, nat_lt, None, sum_by, length, sym, ap, ◌∙◌, arith}
use Rattle.std.specs.List.{range_with_len}
use Rattle.std.proofs.lemmas.Bool.Decides.{nat_tests}
use Rattle.pg_layout.specs.declared.sides.Indent.{Indent}
use Rattle.pg_layout.specs.declared.sides.Sides.{Sides}
use Rattle.pg_layout.specs.Records.{text_at}
use Rattle.pg_config.specs.Config.{count_vertical}
use Rattle.pg_picture.specs.Sizes.{if_fits}
use Rattle.pg_table.specs.Fitted.{least_column_width}
use Rattle.pg_table.specs.Inside.{plain_full_width}
use Rattle.pg_table.proofs.natural.NaturalTable.plain_least_width.Goals as goal

pub returns : goal.returns
unfolding plain_full_width
returns g c =
    let self = c.args.self.now in
    let texts = g.R.Records.texts self.records in
    let columns : ℕ = g.R.Records.columns self.records in
    let sum : ℕ = sum_by (λ k. least_column_width c.args.how self.config.now (text_at texts) (length texts) k) (range_with_len 0 columns) in
    let left = ap (λ (s : Sides Indent). s.left.size) c.get_margin-margin.ensures in
    let right = ap (λ (s : Sides Indent). s.right.size) c.get_margin-margin.ensures in
    let total : c.least_total.result ≡ if_fits sum = rw (c.sizes.ensures.records, c.sizes.ensures.config) at c.least_total.ensures in
    let verticals : c.count_vertical-verticals.result ≡ count_vertical self.config.now columns = rw c.count_columns-columns.ensures.value at c.count_vertical-verticals.ensures in
    let yes : nat_lt columns (2 ^ 64 - 1) ≡ true = grind (arith, nat_tests, c.count_columns-columns.ensures.value) in
    let all : ℕ = plain_full_width c.args.how self.config.now texts columns in
    c.plus-2.ensures _ (c.plus.ensures _ (c.plus-inner.ensures sum total)) ∙ ap (λ n. if_fits n) (omega (arith, verticals, left, right)) ∙ sym (ap (λ b. cond b (if_fits all) None) yes)

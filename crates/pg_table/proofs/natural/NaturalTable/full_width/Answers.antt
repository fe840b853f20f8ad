use Rattle.std.proofs.Common.{◌≡◌, ◌==◌, List, sym, ◌<◌, ℕ, length, sum_by, ap, ◌∙◌, arith}
use Rattle.std.specs.List.{range_with_len}
use Rattle.std.proofs.lemmas.Bool.Decides.{nat_tests}
use Rattle.pg_layout.specs.Records.{text_at}
use Rattle.pg_layout.specs.declared.sides.Indent.{Indent}
use Rattle.pg_layout.specs.declared.sides.Sides.{Sides}
use Rattle.pg_config.specs.Config.{count_vertical}
use Rattle.pg_config.specs.Spans.{Span}
use Rattle.pg_picture.specs.Table.{Table, full_width}
use Rattle.pg_picture.specs.Sizes.{if_fits}
use Rattle.pg_table.specs.declared.sizes.Axis.TheVariants.{Columns}
use Rattle.pg_table.specs.Inside.{plain_size}
use Rattle.pg_table.proofs.Faults.{fit-passes}
use Rattle.pg_table.proofs.NaturalRoom.{plain-natural, size, full_width-is}
use Rattle.pg_table.proofs.ToldTables.{plain-table}
use Rattle.pg_table.proofs.Widenings.{sum-same}
use Rattle.pg_table.proofs.natural.NaturalTable.full_width.Goals as goal

pub returns : goal.returns
returns g c =
    let self = c.args.self.now in
    let texts = g.R.Records.texts self.records in
    let columns : ℕ = g.R.Records.columns self.records in
    let sum : ℕ = sum_by (size self.config.now texts columns (g.C.Colors.color self.colors.now) Columns) (range_with_len 0 columns) in
    let left = ap (λ (s : Sides Indent). s.left.size) c.get_margin-margin.ensures in
    let right = ap (λ (s : Sides Indent). s.right.size) c.get_margin-margin.ensures in
    let cells : 0 < length texts = grind (arith, nat_tests, c.requires.some) in
    let plain : c.total.result ≡ if_fits (sum_by (plain_size Columns self.config.now (text_at texts) (length texts)) (range_with_len 0 (columns))) = rw (c.sizes.ensures.records, c.sizes.ensures.config) at c.total.ensures in
    let total : c.total.result ≡ if_fits sum = plain ∙ ap (λ n. if_fits n) (sum-same (plain_size Columns self.config.now (text_at texts) (length texts)) (size self.config.now texts columns (g.C.Colors.color self.colors.now) Columns) 0 (columns) (λ k l h. plain-natural Columns self.config.now (text_at texts) (length texts) columns k c.requires.plain cells)) in
    let verticals : c.count_vertical-verticals.result ≡ count_vertical self.config.now columns = rw c.count_columns.ensures.value at c.count_vertical-verticals.ensures in
    let same = plain-table self.widths.now self.config.now texts columns (g.C.Colors.color self.colors.now) (fit-passes _ _ (ap (λ (xs : List Span). length xs == 0) c.requires.plain)) in
    let is = full_width-is self.config.now texts columns (g.C.Colors.color self.colors.now) in
    c.plus-2.ensures _ (c.plus.ensures _ (c.plus-columns.ensures sum total)) ∙ ap (λ n. if_fits n) (omega (arith, is, verticals, left, right))
    ∙ ap (λ (t : Table). if_fits (full_width t)) (sym same)

use Rattle.std.proofs.Common.{◌≡◌, ◌==◌, List, sym, ◌+◌, ◌<◌, ℕ, length, sum_by, ap, ◌∙◌, arith}
use Rattle.std.specs.List.{range_with_len}
use Rattle.std.proofs.lemmas.Bool.Decides.{nat_tests}
use Rattle.pg_layout.specs.Records.{text_at}
use Rattle.pg_config.specs.Config.{count_horizontal}
use Rattle.pg_config.specs.Spans.{Span}
use Rattle.pg_picture.specs.Fits.{body_height}
use Rattle.pg_picture.specs.Sizes.{if_fits}
use Rattle.pg_picture.specs.Table.{Table}
use Rattle.pg_table.specs.declared.sizes.Axis.TheVariants.{Rows}
use Rattle.pg_table.specs.Inside.{plain_size}
use Rattle.pg_table.proofs.Faults.{fit-passes}
use Rattle.pg_table.proofs.NaturalRoom.{plain-natural, size, body_height-is}
use Rattle.pg_table.proofs.ToldTables.{plain-table}
use Rattle.pg_table.proofs.Widenings.{sum-same}
use Rattle.pg_table.proofs.natural.NaturalTable.body_height.Goals as goal

pub returns : goal.returns
returns g c =
    let self = c.args.self.now in
    let texts = g.R.Records.texts self.records in
    let columns : ℕ = g.R.Records.columns self.records in
    let sum : ℕ = sum_by (size self.config.now texts columns (g.C.Colors.color self.colors.now) Rows) (range_with_len 0 (length texts)) in
    let cells : 0 < columns = grind (arith, nat_tests, c.requires.some) in
    let plain : c.total.result ≡ if_fits (sum_by (plain_size Rows self.config.now (text_at texts) (columns)) (range_with_len 0 (length texts))) = rw (c.sizes.ensures.records, c.sizes.ensures.config) at c.total.ensures in
    let total : c.total.result ≡ if_fits sum = plain ∙ ap (λ n. if_fits n) (sum-same (plain_size Rows self.config.now (text_at texts) (columns)) (size self.config.now texts columns (g.C.Colors.color self.colors.now) Rows) 0 (length texts) (λ k l h. plain-natural Rows self.config.now (text_at texts) (length texts) columns k c.requires.plain cells)) in
    let horizontals : c.count_horizontal-horizontals.result ≡ count_horizontal self.config.now (length texts) = rw c.count_rows.ensures at c.count_horizontal-horizontals.ensures in
    let same = plain-table self.widths.now self.config.now texts columns (g.C.Colors.color self.colors.now) (fit-passes _ _ (ap (λ (xs : List Span). length xs == 0) c.requires.plain)) in
    let is = body_height-is self.config.now texts columns (g.C.Colors.color self.colors.now) in
    c.plus.ensures sum total ∙ ap (λ n. if_fits n) (ap (λ n. sum + n) horizontals ∙ is)
    ∙ ap (λ (t : Table). if_fits (body_height t)) (sym same)

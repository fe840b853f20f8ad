use Rattle.std.proofs.Common.{◌≡◌, ℕ, ◌<◌, ◌^◌, ◌++◌, ◌∷◌, [], Option, map, length, slice_index, unwrap_or, sym, ap, ◌∙◌, arith}
use Rattle.std.specs.List.{range_with_len}
use Rattle.std.proofs.lemmas.List.FromFn.{map-range_with_len_more}
use Rattle.pg_fit.specs.Narrowing.{limited}
use Rattle.pg_picture.proofs.Ranges.{if_fits-below}
use Rattle.pg_layout.specs.Records.{text_at}
use Rattle.pg_table.specs.Natural.{natural_size, natural_sizes}
use Rattle.pg_table.specs.Fitted.{column_range}
use Rattle.pg_table.specs.declared.sizes.Axis.TheVariants.{Columns}
use Rattle.pg_table.proofs.ListedSizes.{each-fits}
use Rattle.pg_table.proofs.FittedColumns.{least, least-below, length-naturals}
use Rattle.pg_table.proofs.NaturalRoom.{plain-widths}
use Rattle.pg_table.proofs.sizes.NaturalSizes.ranges.Goals as goal

pub least_width-requires : goal.least_width-requires
least_width-requires g c =
    let self = c.args.self.now in
    omega (arith, ap length c.requires.naturals, length-naturals c.args.within.now.how c.args.within.now.total c.args.within.now.limits.now self.config.now (g.R.Records.texts self.records) (g.R.Records.columns self.records))

pub loop-column-preserved : goal.loop-column-preserved
unfolding natural_sizes
loop-column-preserved g c =
    let self = c.args.self.now in
    let texts = g.R.Records.texts self.records in
    let columns : ℕ = g.R.Records.columns self.records in
    let k = c.loop-column.column in
    let f = column_range c.args.within.now.how c.args.within.now.total c.args.within.now.limits.now self.config.now texts columns in
    let inside : k < columns = omega (arith, ap length c.requires.naturals, length-naturals c.args.within.now.how c.args.within.now.total c.args.within.now.limits.now self.config.now texts columns) in
    let below : natural_size Columns self.config.now (text_at texts) (length texts) columns k < 2 ^ 64 = each-fits (natural_size Columns self.config.now (text_at texts) (length texts) columns) columns c.requires.fit k inside in
    let plain = plain-widths self.config.now (length texts) columns c.requires.plain (text_at texts) k inside in
    let small : least c.args.within.now.how c.args.within.now.total c.args.within.now.limits.now self.config.now texts columns k < 2 ^ 64 = omega (arith, below, plain, least-below c.args.within.now.how c.args.within.now.total c.args.within.now.limits.now self.config.now texts columns k) in
    let least-is : c.unwrap_or.result ≡ least c.args.within.now.how c.args.within.now.total c.args.within.now.limits.now self.config.now texts columns k = c.unwrap_or.ensures ∙ ap (λ (o : Option ℕ). unwrap_or o 0) (c.least_width.ensures ∙ if_fits-below _ small) in
    let natural-is : slice_index c.args.naturals.now k ≡ slice_index (natural_sizes Columns self.config.now texts columns) k = ap (λ ws. slice_index ws k) c.requires.naturals in
    let here : c.limited.result ≡ f k = c.limited.ensures ∙ (λ i. limited (c.limit_of.ensures i) (record { least = least-is i; natural = natural-is i })) in
    c.in_ok-push.ensures.items
    ∙ ap (λ xs. xs ++ c.limited.result ∷ []) c.loop-column.invariant
    ∙ ap (λ r. map f (range_with_len 0 k) ++ r ∷ []) here
    ∙ sym (map-range_with_len_more f 0 k k (omega arith))

pub returns : goal.returns
returns g c =
    let self = c.args.self.now in
    let texts = g.R.Records.texts self.records in
    let columns : ℕ = g.R.Records.columns self.records in
    let all : c.loop-column.column ≡ columns = omega (arith, c.loop-column-test.false, c.loop-column.auto.column-end, ap length c.requires.naturals, length-naturals c.args.within.now.how c.args.within.now.total c.args.within.now.limits.now self.config.now texts columns) in
    c.loop-column.invariant ∙ ap (λ n. map (column_range c.args.within.now.how c.args.within.now.total c.args.within.now.limits.now self.config.now texts columns) (range_with_len 0 n)) all

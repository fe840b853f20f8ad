use Rattle.std.proofs.Common.{◌≡◌, ℕ, ◌-◌, ◌<◌, ◌++◌, ◌∷◌, List, [], map, length, slice_index, IfOk, subst, sym, ap, ◌∙◌, arith}
use Rattle.std.specs.List.{range_with_len}
use Rattle.std.proofs.lemmas.List.{get_or_read}
use Rattle.std.proofs.lemmas.List.FromFn.{map-range_with_len_more, length-map-range_with_len}
use Rattle.pg_layout.specs.Text.{Text}
use Rattle.pg_config.specs.Config.{Config}
use Rattle.pg_fit.specs.declared.narrowing.ColumnRange.{ColumnRange}
use Rattle.pg_table.specs.Natural.{natural_sizes}
use Rattle.pg_table.specs.Overflowing.{beside_columns}
use Rattle.pg_table.specs.Ranges.{ranged, range_of}
use Rattle.pg_table.specs.Spanning.{spanned_least_width}
use Rattle.pg_table.specs.declared.overflow.Overflow.{Overflow}
use Rattle.pg_table.specs.declared.sizes.Axis.TheVariants.{Columns}
use Rattle.pg_table.proofs.FittedTables.{ranges-listed, widths-ranged}
use Rattle.pg_table.proofs.SpannedWidths.{none-huge, length-naturals}
use Rattle.pg_table.proofs.sizes.NaturalSizes.ranged_widths.Goals as goal

abbrev range_at : List ColumnRange → List ℕ → List ℕ → ℕ → ColumnRange
range_at ranges least naturals k = ranged (range_of ranges k) (slice_index least k) (slice_index naturals k)

module _ (how : Overflow) (config : Config) (texts : List (List Text)) (columns : ℕ) where
  naturals-listed : (ns : List ℕ) → ns ≡ natural_sizes Columns config texts columns → length ns ≡ columns
  naturals-listed ns same = ap length same ∙ length-naturals how 0 [] config texts columns

  least-listed : (ls : List ℕ) → ls ≡ map (spanned_least_width how config texts columns) (range_with_len 0 columns) → length ls ≡ columns
  least-listed ls listed = ap length listed ∙ length-map-range_with_len (spanned_least_width how config texts columns) 0 columns

pub index-requires : goal.index-requires
index-requires g c =
    let self = c.args.self.now in
    let texts = g.R.Records.texts self.records in
    let columns : ℕ = g.R.Records.columns self.records in
    omega (arith, c.loop-column-test.true, naturals-listed c.args.how self.config.now texts columns c.args.naturals.now c.requires.naturals, least-listed c.args.how self.config.now texts columns _ (rw c.in-Some.is at c.in_ok-least.ensures.widths), c.in-Some.least.ok)

pub loop-column-preserved : goal.loop-column-preserved
loop-column-preserved g c =
    let self = c.args.self.now in
    let texts = g.R.Records.texts self.records in
    let columns : ℕ = g.R.Records.columns self.records in
    let k : ℕ = c.loop-column.column in
    let ls : List ℕ = c.in-Some.least.items in
    let f : ℕ → ColumnRange = range_at c.args.ranges.now ls c.args.naturals.now in
    let inside : k < length ls = omega (arith, c.loop-column-test.true, naturals-listed c.args.how self.config.now texts columns c.args.naturals.now c.requires.naturals, least-listed c.args.how self.config.now texts columns ls (rw c.in-Some.is at c.in_ok-least.ensures.widths)) in
    let low : c.index.result.now ≡ slice_index ls k = get_or_read ls _ _ inside c.index.ensures 0 in
    let here : c.ranged_column.result ≡ f k = c.ranged_column.ensures ∙ ap (λ n. ranged (range_of c.args.ranges.now k) n (slice_index c.args.naturals.now k)) low in
    c.in_ok-push.ensures.items
    ∙ ap (λ xs. xs ++ c.ranged_column.result ∷ []) c.loop-column.invariant
    ∙ ap (λ r. map f (range_with_len 0 k) ++ r ∷ []) here
    ∙ sym (map-range_with_len_more f 0 k k (omega arith))

pub returns-clause-widths : goal.returns-clause-widths
returns-clause-widths g c =
    let self = c.args.self.now in
    let texts = g.R.Records.texts self.records in
    let columns : ℕ = g.R.Records.columns self.records in
    let ls : List ℕ = c.in-Some.least.items in
    let all : c.loop-column.column ≡ length c.args.naturals.now = omega (arith, c.loop-column-test.false, c.loop-column.auto.column-end) in
    let room : c.room_of-room.result ≡ c.args.total - beside_columns self.config.now columns = c.room_of-room.ensures ∙ ap (λ n. c.args.total - beside_columns self.config.now n) (naturals-listed c.args.how self.config.now texts columns c.args.naturals.now c.requires.naturals) in
    let made = c.deref.ensures.value ∙ c.loop-column.invariant
    ∙ ap (λ n. map (range_at c.args.ranges.now ls c.args.naturals.now) (range_with_len 0 n)) all
    ∙ ranges-listed c.args.how self.config.now texts columns c.args.ranges.now c.requires.cells ls c.args.naturals.now (rw c.in-Some.is at c.in_ok-least.ensures.widths) c.requires.naturals in
    subst (λ (ws : List ℕ). IfOk c.narrow.result (λ v. v.items ≡ ws)) (widths-ranged c.args.how self.config.now texts columns c.args.ranges.now c.args.total _ _ room made) c.narrow.ensures

pub returns-in_default-clause-widths : goal.returns-in_default-clause-widths
returns-in_default-clause-widths g c =
    let self = c.args.self.now in
    let texts = g.R.Records.texts self.records in
    absurd (none-huge c.args.how self.config.now texts (g.R.Records.columns self.records) c.requires.sized (c.in_ok-least.ensures.huge c.in_default.is))

pub returns-clause-counted : goal.returns-clause-counted
returns-clause-counted g c = λ ok.
    let self = c.args.self.now in
    omega (arith, naturals-listed c.args.how self.config.now (g.R.Records.texts self.records) (g.R.Records.columns self.records) c.args.naturals.now c.requires.naturals)

pub returns-in_default-clause-counted : goal.returns-in_default-clause-counted
returns-in_default-clause-counted g c = λ ok.
    let self = c.args.self.now in
    omega (arith, naturals-listed c.args.how self.config.now (g.R.Records.texts self.records) (g.R.Records.columns self.records) c.args.naturals.now c.requires.naturals)

use Rattle.std.proofs.Common.{◌≡◌, ℕ, ◌-◌, List, length, IfOk, subst, sym, ap, ◌∙◌}
use Rattle.std.proofs.lemmas.List.FromFn.{length-map-range_with_len}
use Rattle.pg_fit.specs.Narrowing.{narrowed}
use Rattle.pg_layout.specs.Text.{Text}
use Rattle.pg_config.specs.Config.{Config}
use Rattle.pg_table.specs.Natural.{natural_sizes}
use Rattle.pg_table.specs.Overflowing.{beside_columns}
use Rattle.pg_table.specs.Spanning.{are_within, spanned_least_width}
use Rattle.pg_table.specs.declared.overflow.Overflow.{Overflow}
use Rattle.pg_table.specs.declared.sizes.Axis.TheVariants.{Columns}
use Rattle.pg_table.proofs.SpannedWidths.{none-huge, widths-natural, widths-narrowed, length-naturals, listed-ranges}
use Rattle.pg_table.proofs.sizes.NaturalSizes.spanned_widths.Goals as goal

-- the test of the listed widths is that of the natural ones
pub within-is : (total : ℕ) (limits : List ℕ) (config : Config) (texts : List (List Text)) (columns : ℕ) (how : Overflow) (ns : List ℕ) → ns ≡ natural_sizes Columns config texts columns → are_within total limits config (length ns) ns ≡ are_within total limits config columns (natural_sizes Columns config texts columns)
within-is total limits config texts columns how ns same =
    ap (λ (xs : List ℕ). are_within total limits config (length xs) xs) same
    ∙ ap (λ (n : ℕ). are_within total limits config n (natural_sizes Columns config texts columns)) (length-naturals how total limits config texts columns)

pub returns-then-are_within : goal.returns-then-are_within
returns-then-are_within g c =
    let self = c.args.self.now in
    let texts = g.R.Records.texts self.records in
    let columns : ℕ = g.R.Records.columns self.records in
    let yes = sym (within-is c.args.within.now.total c.args.within.now.limits.now self.config.now texts columns c.args.within.now.how c.args.naturals.now c.requires.naturals) ∙ sym c.are_within.ensures ∙ c.if-are_within.true in
    subst (λ (xs : List ℕ). IfOk c.from_slice.result (λ v. v.items ≡ xs)) (c.requires.naturals ∙ sym (widths-natural c.args.within.now.how c.args.within.now.total c.args.within.now.limits.now self.config.now texts columns yes)) c.from_slice.ensures.items

pub ranges_of-requires : goal.ranges_of-requires
ranges_of-requires g c =
    let self = c.args.self.now in
    let texts = g.R.Records.texts self.records in
    let columns : ℕ = g.R.Records.columns self.records in
    ap length (c.deref.ensures.value ∙ (rw c.in-Some.is at c.in_ok-least.ensures.widths))
    ∙ length-map-range_with_len (spanned_least_width c.args.within.now.how self.config.now texts columns) 0 columns
    ∙ sym (ap length c.requires.naturals ∙ length-naturals c.args.within.now.how c.args.within.now.total c.args.within.now.limits.now self.config.now texts columns)

pub returns-in_ok-ranges-in-Some : goal.returns-in_ok-ranges-in-Some
returns-in_ok-ranges-in-Some g c =
    let self = c.args.self.now in
    let texts = g.R.Records.texts self.records in
    let columns : ℕ = g.R.Records.columns self.records in
    let past = sym (within-is c.args.within.now.total c.args.within.now.limits.now self.config.now texts columns c.args.within.now.how c.args.naturals.now c.requires.naturals) ∙ sym c.are_within.ensures ∙ c.if-are_within.false in
    let long : length c.args.naturals.now ≡ columns = ap length c.requires.naturals ∙ length-naturals c.args.within.now.how c.args.within.now.total c.args.within.now.limits.now self.config.now texts columns in
    let room : c.room_of-room.result ≡ c.args.within.now.total - beside_columns self.config.now columns = c.room_of-room.ensures ∙ ap (λ n. c.args.within.now.total - beside_columns self.config.now n) long in
    let ranges = c.deref-in-Some.ensures.value ∙ c.in_ok-ranges-in-Some.ensures
    ∙ listed-ranges c.args.within.now.how c.args.within.now.total c.args.within.now.limits.now self.config.now texts columns _ c.args.naturals.now (c.deref.ensures.value ∙ (rw c.in-Some.is at c.in_ok-least.ensures.widths)) c.requires.naturals in
    subst (λ (ws : List ℕ). IfOk c.narrow.result (λ v. v.items ≡ ws)) ((λ i. narrowed (room i) (ranges i)) ∙ sym (widths-narrowed c.args.within.now.how c.args.within.now.total c.args.within.now.limits.now self.config.now texts columns past)) c.narrow.ensures

pub returns-in-None : goal.returns-in-None
returns-in-None g c =
    let self = c.args.self.now in
    let texts = g.R.Records.texts self.records in
    absurd (none-huge c.args.within.now.how self.config.now texts (g.R.Records.columns self.records) c.requires.sized (c.in_ok-least.ensures.huge c.in-None.is))

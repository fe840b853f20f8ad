use Rattle.std.proofs.Common.{◌≡◌, ℕ, ◌-◌, List, IfOk, subst, ◌∙◌}
use Rattle.pg_fit.specs.Narrowing.{narrowed}
use Rattle.pg_table.specs.Fitted.{beside_columns, column_widths}
use Rattle.pg_table.proofs.sizes.NaturalSizes.widths.Goals as goal

pub returns : goal.returns
unfolding column_widths
returns g c =
    let self = c.args.self.now in
    let room : c.room_of-room.result ≡ c.args.within.now.total - beside_columns self.config.now (g.R.Records.columns self.records) = rw c.count.ensures at c.room_of-room.ensures in
    let ranges = c.deref.ensures.value ∙ c.in_ok-ranges.ensures in
    subst (λ (ws : List ℕ). IfOk c.narrow.result (λ v. v.items ≡ ws)) (λ i. narrowed (room i) (ranges i)) c.narrow.ensures

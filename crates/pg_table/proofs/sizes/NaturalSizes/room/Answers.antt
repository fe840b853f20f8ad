use Rattle.std.proofs.Common.{◌≡◌, ℕ, ◌+◌, ◌<◌, ◌≤◌, List, length, map, slice_index, All, IfOk, subst, sym, None}
use Rattle.std.specs.List.{range_with_len}
use Rattle.pg_table.specs.Inside.{with_room}
use Rattle.pg_table.specs.Natural.{count, widened}
use Rattle.pg_table.specs.declared.needs.Need.{Need}
use Rattle.pg_table.proofs.NaturalRoom.{needs_some, needs_inside}
use Rattle.pg_table.proofs.sizes.NaturalSizes.room.Goals as goal

pub widened-requires-clause-some : goal.widened-requires-clause-some
widened-requires-clause-some g c =
    let self = c.args.self.now in
    subst (λ xs. All (λ (need : Need). 0 < need.count) xs) (sym c.requires.needs) (needs_some self.config.now (g.R.Records.texts self.records) (g.R.Records.columns self.records) (λ p. None) c.requires.fit c.args.axis)

pub widened-requires-clause-inside : goal.widened-requires-clause-inside
widened-requires-clause-inside g c =
    let self = c.args.self.now in
    let texts = g.R.Records.texts self.records in
    let columns : ℕ = g.R.Records.columns self.records in
    subst (λ m. All (λ (need : Need). need.first + need.count ≤ m) c.args.needs.now) (sym c.requires.long)
    (subst (λ xs. All (λ (need : Need). need.first + need.count ≤ count c.args.axis (length texts) columns) xs) (sym c.requires.needs) (needs_inside self.config.now texts columns (λ p. None) c.requires.fit c.args.axis))

pub returns : goal.returns
unfolding with_room
returns g c =
    let self = c.args.self.now in
    let texts = g.R.Records.texts self.records in
    let columns : ℕ = g.R.Records.columns self.records in
    let n : ℕ = count c.args.axis (length texts) columns in
    subst (λ (ns : List Need). IfOk c.widened.result (λ room. room.items ≡ map (widened (slice_index c.args.sizes.now) ns n) (range_with_len 0 n))) c.requires.needs
    (subst (λ (m : ℕ). IfOk c.widened.result (λ room. room.items ≡ map (widened (slice_index c.args.sizes.now) c.args.needs.now m) (range_with_len 0 m))) c.requires.long c.widened.ensures)

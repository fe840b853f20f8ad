use Rattle.std.proofs.Common.{◌≡◌, ℕ, List, length, drop, ap, ◌∙◌, arith}
use Rattle.pg_table.specs.Natural.{size_of_singles}
use Rattle.pg_table.specs.Inside.{most}
use Rattle.pg_table.proofs.ListedSizes.{seam}
use Rattle.pg_table.proofs.sizes.NaturalSizes.singles.Goals as goal

pub returns-in-Some-clause-widths : goal.returns-in-Some-clause-widths
unfolding size_of_singles most
returns-in-Some-clause-widths g c =
    let new : List ℕ = c.measure_rows.new.widths in
    let long : length new ≡ c.in_ok-widths.widths.len = omega (arith, c.in_ok-heights.ensures.same, ap length c.deref_mut.ensures.value, c.deref_mut.ensures.len, c.in_ok-widths.ensures.len) in
    seam new (drop (length new) c.in_ok-widths.widths.items) c.in_ok-widths.widths.len long ∙ (rw c.in-Some.is at c.in_ok-heights.ensures.widths)

pub returns-in-Some-clause-heights : goal.returns-in-Some-clause-heights
unfolding size_of_singles most
returns-in-Some-clause-heights g c = rw c.in-Some.is at c.in_ok-heights.ensures.heights

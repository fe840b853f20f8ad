use Rattle.std.proofs.Common.{◌≡◌, ◌∙◌, ℕ, List, drop, length, ap, arith}
use Rattle.pg_table.proofs.ListedSizes.{seam}
use Rattle.ruled_table.proofs.ranges.widest_texts.Goals as goal

pub returns-clause-widths : goal.returns-clause-widths
returns-clause-widths c =
    let new : List ℕ = c.raise_to_rows.new.widths in
    let long : length new ≡ c.in_ok-widths.widths.len = omega (arith, c.raise_to_rows.ensures.same, ap length c.deref_mut.ensures.value, c.deref_mut.ensures.len, c.in_ok-widths.ensures.len) in
    seam new (drop (length new) c.in_ok-widths.widths.items) c.in_ok-widths.widths.len long ∙ c.raise_to_rows.ensures.widths

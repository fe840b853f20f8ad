use Rattle.std.proofs.Common.{◌≡◌, arith}
use Rattle.pg_layout.specs.Keys.{by_columns, column_place}
use Rattle.pg_config.specs.Inside.{HasSpan, last_row_of}
use Rattle.pg_config.proofs.CoveredPlaces.{each-without_place, spans-with_place}
use Rattle.pg_config.proofs.spans.Spans.set_size.Goals as goal

pub invariant_of-self-else-is_empty : goal.invariant_of-self-else-is_empty
invariant_of-self-else-is_empty g c =
    rw c.remove.ensures (each-without_place by_columns (HasSpan c.self.inside.extent) c.of-place.result c.self.inside.sizes c.self.invariant)

pub invariant_of-self-2 : goal.invariant_of-self-2
invariant_of-self-2 g c =
    let last : c.saturating_add-last.result ≡ last_row_of (column_place c.args.pos, c.args.size) = omega (arith, c.saturating_add-last.ensures, c.saturating_sub.ensures) in
    rw (c.in_ok-set.ensures.ok, c.with_rows-self-inside.ensures, last, c.of-place.ensures) (spans-with_place c.self.inside.extent c.args.pos c.args.size c.self.inside.sizes c.self.invariant)

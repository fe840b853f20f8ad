-- The order of glyphs is that of their comparison.
use Rattle.std.specs.Prelude.{◌==◌, nat_lt}
use Rattle.std.specs.Ordering.{nat_cmp, ordering_then}
use Rattle.std.proofs.Common.{ap, ◌∙◌}
use Rattle.std.proofs.lemmas.Bool.{eqb-true, and_parts}
use Rattle.pg_layout.specs.Keys.{IsOrderOf, by_place}
use Rattle.pg_layout.specs.KeyOrders.{place-order, two-compared}
use Rattle.pg_layout.specs.Places.{before, same}
use Rattle.pg_config.specs.declared.offsets.GlyphPlace.{GlyphPlace}
use Rattle.pg_config.specs.Offsets.{by_glyph}

pub glyph-order : IsOrderOf (λ (a b : GlyphPlace). ordering_then (ordering_then (nat_cmp a.pos.row b.pos.row) (nat_cmp a.pos.col b.pos.col)) (nat_cmp a.number b.number)) by_glyph
glyph-order = record {
  is = λ a b. ap (λ o. ordering_then o (nat_cmp a.number b.number)) (place-order.is a.pos b.pos) ∙ two-compared (before by_place a.pos b.pos)
      (same by_place a.pos b.pos) (nat_lt a.number b.number) (a.number == b.number);
  same_is = λ a b h i. let parts = and_parts (same by_place a.pos b.pos) (a.number == b.number) h
      in record { pos = place-order.same_is a.pos b.pos parts.0 i; number = eqb-true a.number b.number parts.1 i };
}

-- The orders of the keys are those of their comparisons.
use Rattle.std.specs.Prelude.{◌≡◌, Bool, true, false, ◌&&◌, ◌||◌, ◌==◌, nat_lt, if◌then◌else◌}
use Rattle.std.specs.Ordering.{nat_cmp, ordering_then}
use Rattle.std.specs.declared.cmp.Ordering.TheVariants.{Less, Equal, Greater}
use Rattle.std.proofs.Common.{refl}
use Rattle.std.proofs.lemmas.Bool.{eqb-true, and_parts}
use Rattle.pg_layout.specs.declared.position.Position.{Position}
use Rattle.pg_layout.specs.declared.position.ColumnPlace.{ColumnPlace}
use Rattle.pg_layout.specs.Keys.{IsOrderOf, by_number, by_place, by_columns}

-- two comparisons, the first one first
pub two-compared : (less is then_less then_is : Bool)
    → ordering_then (if less then Less else if is then Equal else Greater) (if then_less then Less else if then_is then Equal else Greater)
    ≡ (if less || (is && then_less) then Less else if is && then_is then Equal else Greater)
two-compared true is then_less then_is = refl
two-compared false true then_less then_is = refl
two-compared false false then_less then_is = refl

pub number-order : IsOrderOf nat_cmp by_number
number-order = record { is = λ a b. refl; same_is = eqb-true }

pub place-order : IsOrderOf (λ (a b : Position). ordering_then (nat_cmp a.row b.row) (nat_cmp a.col b.col)) by_place
place-order = record {
  is = λ a b. two-compared (nat_lt a.row b.row) (a.row == b.row) (nat_lt a.col b.col) (a.col == b.col);
  same_is = λ a b h i. let parts = and_parts (a.row == b.row) (a.col == b.col) h in record { row = eqb-true a.row b.row parts.0 i; col = eqb-true a.col b.col parts.1 i };
}

pub columns-order : IsOrderOf (λ (a b : ColumnPlace). ordering_then (nat_cmp a.col b.col) (nat_cmp a.row b.row)) by_columns
columns-order = record {
  is = λ a b. two-compared (nat_lt a.col b.col) (a.col == b.col) (nat_lt a.row b.row) (a.row == b.row);
  same_is = λ a b h i. let parts = and_parts (a.col == b.col) (a.row == b.row) h in record { col = eqb-true a.col b.col parts.0 i; row = eqb-true a.row b.row parts.1 i };
}

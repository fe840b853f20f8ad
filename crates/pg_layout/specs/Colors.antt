-- Colours: what is written before and after a coloured text.
use Rattle.std.specs.Prelude.{Bool, true, false, ◌&&◌, Option, Some, None, option_map, bytes_eq}
use Rattle.std.specs.Borrow.{Bor}
use Rattle.std.specs.Cmp.{IsEquivalence, and_equiv, on_equiv}
use Rattle.std.specs.Cmp.Lexicographic.{nat_list_eq_equiv}
use Rattle.pg_layout.specs.Text.{Text}
use Rattle.pg_layout.specs.declared.colors.ANSIStr.{ANSIStr}

-- what is written before a coloured text, and after it
pub record Color : Type 0 where
  pub prefix : Text
  pub suffix : Text

-- the colour that two borrowed texts are
abbrev pub str_color : ANSIStr → Color
str_color c = record { prefix = c.prefix.now; suffix = c.suffix.now }

-- the colour that a lent value stands for, if one is lent
abbrev pub lent_color : {C : Type 0} → (C → Color) → Option (Bor C) → Option Color
lent_color color_of lent = option_map (λ c. color_of c.now) lent

-- both texts agree
abbrev pub color_eq : Color → Color → Bool
color_eq c d = bytes_eq c.prefix d.prefix && bytes_eq c.suffix d.suffix

-- both texts agree, or there is no colour on either side
abbrev pub same_color : Option Color → Option Color → Bool
same_color None None = true
same_color (Some c) (Some d) = color_eq c d
same_color None (Some d) = false
same_color (Some c) None = false

-- agreement of both texts is an equivalence
pub color_eq-equiv : IsEquivalence color_eq
color_eq-equiv = and_equiv (on_equiv (λ (c : Color). c.prefix) nat_list_eq_equiv) (on_equiv (λ (c : Color). c.suffix) nat_list_eq_equiv)

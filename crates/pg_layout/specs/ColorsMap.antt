-- Colours that were set for places one by one.
use Rattle.std.specs.Prelude.{◌≡◌, List, Option, Some, if◌then◌else◌}
use Rattle.pg_layout.specs.declared.position.Position.{Position}
use Rattle.pg_layout.specs.Position.{is_at}
use Rattle.pg_layout.specs.Keys.{by_place}
use Rattle.pg_layout.specs.Places.{value_at}
use Rattle.pg_layout.specs.Colors.{Color}

-- the colour of a place
abbrev pub color_at : Position → List (Position × Color) → Option Color
color_at p colors = value_at by_place p colors

-- the place p has this colour, and any other what it had before
abbrev pub IsColored : Position → Color → List (Position × Color) → List (Position × Color) → Type 0
IsColored p color old now = (q : Position) → color_at q now ≡ (if is_at q p.row p.col then Some color else color_at q old)

-- Cells of a table that get a colour, and grounds, which fill cells.
use Rattle.std.specs.Prelude.{◌≡◌, ℕ, ◌-◌, ◌%◌, ◌==◌, ◌&&◌, Bool, max, nat_le, nat_lt, List, length, Some, if◌then◌else◌}
use Rattle.std.specs.List.{fold, range_with_len}
use Rattle.pg_layout.specs.declared.position.Entity.{Entity}
use Rattle.pg_layout.specs.declared.position.Entity.TheVariants.{Row}
use Rattle.pg_layout.specs.declared.position.Position.{Position}
use Rattle.pg_layout.specs.Colors.{Color}
use Rattle.pg_layout.specs.ColorsMap.{color_at}
use Rattle.pg_layout.specs.Position.{holds}
use Rattle.pg_layout.specs.Records.{columns_of}
use Rattle.pg_config.specs.Config.{Config}
use Rattle.pg_config.specs.Settings.{with_setting}

-- ---- colours

-- the place is that of a cell, of so many rows and columns
abbrev pub is_inside : ℕ → ℕ → Position → Bool
is_inside rows columns p = nat_lt p.row rows && nat_lt p.col columns

-- of a cell of these rows that the entity holds
abbrev pub is_cell_of : {X : Type 0} → Entity → List (List X) → Position → Bool
is_cell_of entity rows p = holds entity p && is_inside (length rows) (columns_of rows) p

-- the places that pass the test have this colour, and any other what it had before
abbrev pub AreColored : (Position → Bool) → Color → List (Position × Color) → List (Position × Color) → Type 0
AreColored test color old new = (p : Position) → color_at p new ≡ (if test p then Some color else color_at p old)

-- ---- grounds: the colour of paddings, and of the room beside a text

abbrev pub with_ground : Entity → Color → Config → Config
with_ground entity color config = record config {
  padding_color = with_setting entity (record { left = Some color; right = Some color; top = Some color; bottom = Some color }) config.padding_color;
  justification_color = with_setting entity (Some color) config.justification_color;
}

-- ---- stripes: every n-th row, from the first one on

abbrev pub is_striped : ℕ → ℕ → ℕ → Bool
is_striped first step r = nat_le first r && ((r - first) % max step 1 == 0)

-- of a cell in such a row
abbrev pub is_cell_striped : {X : Type 0} → ℕ → ℕ → List (List X) → Position → Bool
is_cell_striped first step rows p = is_striped first step p.row && is_inside (length rows) (columns_of rows) p

-- each such row, of so many, with a ground
abbrev pub with_stripe : ℕ → ℕ → Color → Config → ℕ → Config
with_stripe first step color config r = if is_striped first step r then with_ground (Row r) color config else config

abbrev pub with_stripes : ℕ → ℕ → Color → ℕ → Config → Config
with_stripes first step color rows config = fold (with_stripe first step color) config (range_with_len 0 rows)

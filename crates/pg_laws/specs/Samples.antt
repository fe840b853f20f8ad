-- Tables for worked examples, beside those of pg_picture.
use Rattle.std.specs.Prelude.{ℕ, List, [], ◌∷◌, map, flat_map, Option, Some, codes, encode_utf8, ◌+◌, slice_index_or, None}
use Rattle.std.specs.List.{range_with_len}
use Rattle.pg_layout.specs.declared.borders.Borders.{Borders}
use Rattle.pg_layout.specs.declared.borders.HorizontalLine.{HorizontalLine}
use Rattle.pg_layout.specs.declared.position.Position.{Position}
use Rattle.pg_layout.specs.declared.sides.Indent.{Indent}
use Rattle.pg_layout.specs.declared.sides.Sides.{Sides}
use Rattle.pg_layout.specs.Text.{Text}
use Rattle.pg_layout.specs.Colors.{Color}
use Rattle.pg_config.specs.Overrides.{no_overrides, with_row_line}
use Rattle.pg_config.specs.Settings.{Settings}
use Rattle.pg_picture.specs.Pieces.{joined}
use Rattle.pg_picture.specs.Table.{Table}
use Rattle.pg_picture.specs.Samples.{table, plain, indent, text_in}
use Rattle.pg_config.specs.CompactConfig.{CompactSettings, empty_color, default_compact}
use Rattle.pg_picture.specs.CompactLines.{CompactTable}

-- a table of so many rows and columns, whose texts tell their place as `0-1`
abbrev pub numbered : ℕ → ℕ → List (List Text)
numbered rows columns = map (λ r. map (λ c. (48 + r) ∷ 45 ∷ (48 + c) ∷ []) (range_with_len 0 columns)) (range_with_len 0 rows)

abbrev pub grid22 : List (List Text)
grid22 = (codes "0-0" ∷ codes "0-1" ∷ []) ∷ (codes "1-0" ∷ codes "1-1" ∷ []) ∷ []

-- the four cells within these borders, each one line of three columns
abbrev pub grid_in : Borders ℕ → Table
grid_in borders = table (record plain { borders = borders }) 2 2 (3 ∷ 3 ∷ []) (1 ∷ 1 ∷ []) grid22

-- six such cells in three rows, with this line below the first row
abbrev pub headed_in : Borders ℕ → HorizontalLine ℕ → Table
headed_in borders line = table (record plain { borders = borders; overrides = with_row_line 1 2 line no_overrides }) 3 2 (3 ∷ 3 ∷ []) (1 ∷ 1 ∷ 1 ∷ []) (numbered 3 2)

-- the text of these lines, told by their characters
abbrev pub drawing : List (List ℕ) → Text
drawing lines = joined (map (flat_map encode_utf8) lines)

abbrev pub one : Text → List (List Text)
one text = (text ∷ []) ∷ []

abbrev pub in_colors : (Position → Option Color) → Table → Table
in_colors f t = record t { color = f }

abbrev pub color_r : Color
color_r = record { prefix = codes "<r>"; suffix = codes "</r>" }

abbrev pub color_b : Color
color_b = record { prefix = codes "<b>"; suffix = codes "</b>" }

abbrev pub color_g : Color
color_g = record { prefix = codes "<g>"; suffix = codes "</g>" }

-- sizes at the sides left, right, top, bottom, filled by spaces
abbrev pub spaced : ℕ → ℕ → ℕ → ℕ → Sides Indent
spaced left right top bottom = record { left = indent left 32; right = indent right 32; top = indent top 32; bottom = indent bottom 32 }

-- a setting for all places
abbrev pub for_all : {V : Type 0} → V → Settings V
for_all v = record { base = Some v; rows = []; columns = []; cells = [] }

-- ---- compact tables

abbrev pub no_color : Color
no_color = empty_color

-- told nothing
unfoldable pub plain_compact : CompactSettings
plain_compact = default_compact

abbrev pub compact_table : CompactSettings → ℕ → ℕ → List ℕ → List (List Text) → CompactTable
compact_table config rows columns widths texts = record {
  config = config;
  rows = rows;
  columns = columns;
  width = λ c. slice_index_or widths c 0;
  text = text_in texts;
  color = λ p. None;
}

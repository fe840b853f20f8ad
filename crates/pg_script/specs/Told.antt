-- What a script tells of a table.
use Rattle.std.specs.Prelude.{ℕ, List, [], ◌∷◌, ◌++◌, replicate, slice_set, slice_index_or, codes}
use Rattle.std.specs.Fmt.{decimal}
use Rattle.pg_layout.specs.Text.{Text}
use Rattle.pg_layout.specs.Colors.{Color}
use Rattle.pg_layout.specs.Keys.{by_place}
use Rattle.pg_layout.specs.Places.{with_place}
use Rattle.pg_layout.specs.declared.position.Position.{Position}
use Rattle.pg_layout.specs.declared.sides.Indent.{Indent}
use Rattle.pg_layout.specs.declared.sides.Sides.{Sides}
use Rattle.pg_config.specs.Config.{Config, default_config}
use Rattle.pg_script.specs.declared.statement.Size.{Size}

-- the widths of all columns, the heights of all rows, the texts of all cells, row by row, the colours and the settings
pub record Told : Type 0 where
  pub widths : List ℕ
  pub heights : List ℕ
  pub texts : List (List Text)
  pub colors : List (Position × Color)
  pub config : Config

-- a table of which the size alone is told: empty cells, of width 0 and height 1 each
abbrev pub told_nothing : Size → Told
told_nothing size = record {
  widths = replicate size.columns 0;
  heights = replicate size.rows 1;
  texts = replicate size.rows (replicate size.columns []);
  colors = [];
  config = default_config;
}

-- the rows of texts with this text at a place
abbrev pub with_text : Position → Text → List (List Text) → List (List Text)
with_text place text texts = slice_set texts place.row (slice_set (slice_index_or texts place.row []) place.col text)

-- the cell at a place has this text, or this colour
abbrev pub tell_text : Position → Text → Told → Told
tell_text place text told = record told { texts = with_text place text told.texts }

abbrev pub tell_color : Position → Color → Told → Told
tell_color place color told = record told { colors = with_place by_place place color told.colors }

-- a setting is changed
abbrev pub tell_setting : (Config → Config) → Told → Told
tell_setting change told = record told { config = change told.config }

-- the colour that a terminal knows by this number: the escape byte, `[`, the number and `m`
abbrev pub terminal_color : ℕ → Color
terminal_color code = record { prefix = 27 ∷ 91 ∷ (decimal code ++ 109 ∷ []); suffix = 27 ∷ codes "[0m" }

-- sides of these sizes with one fill
abbrev pub indents : Sides ℕ → ℕ → Sides Indent
indents sizes fill = record {
  left = record { size = sizes.left; fill = fill };
  right = record { size = sizes.right; fill = fill };
  top = record { size = sizes.top; fill = fill };
  bottom = record { size = sizes.bottom; fill = fill };
}

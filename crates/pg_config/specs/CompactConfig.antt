-- What a compact table is told.
use Rattle.std.specs.Prelude.{ℕ, [], option_map, unwrap_or}
use Rattle.pg_layout.specs.declared.borders.Borders.{Borders}
use Rattle.pg_layout.specs.declared.sides.Indent.{Indent}
use Rattle.pg_layout.specs.declared.sides.Sides.{Sides}
use Rattle.pg_layout.specs.declared.alignment.AlignmentHorizontal.{AlignmentHorizontal}
use Rattle.pg_layout.specs.declared.alignment.AlignmentHorizontal.TheVariants as across
use Rattle.pg_layout.specs.declared.colors.ANSIStr.{ANSIStr}
use Rattle.pg_layout.specs.Borders.{no_borders}
use Rattle.pg_layout.specs.Colors.{Color, str_color}
use Rattle.pg_config.specs.Config.{Config, filled, no_indents}
use Rattle.pg_config.specs.declared.compact.CompactConfig.{CompactConfig}

pub record CompactSettings : Type 0 where
  pub borders : Borders ℕ
  pub borders_color : Borders Color
  pub margin : Sides Indent
  pub margin_color : Sides Color
  pub padding : Sides Indent
  pub padding_color : Sides Color
  pub alignment : AlignmentHorizontal

-- the colours that borrowed texts are, at each place of a border
abbrev pub border_colors : Borders ANSIStr → Borders Color
border_colors b = record {
  top = option_map str_color b.top;
  top_left = option_map str_color b.top_left;
  top_right = option_map str_color b.top_right;
  top_intersection = option_map str_color b.top_intersection;
  bottom = option_map str_color b.bottom;
  bottom_left = option_map str_color b.bottom_left;
  bottom_right = option_map str_color b.bottom_right;
  bottom_intersection = option_map str_color b.bottom_intersection;
  horizontal = option_map str_color b.horizontal;
  left_intersection = option_map str_color b.left_intersection;
  right_intersection = option_map str_color b.right_intersection;
  intersection = option_map str_color b.intersection;
  left = option_map str_color b.left;
  right = option_map str_color b.right;
  vertical = option_map str_color b.vertical;
}

-- likewise at each side
abbrev pub side_colors : Sides ANSIStr → Sides Color
side_colors s = record { left = str_color s.left; right = str_color s.right; top = str_color s.top; bottom = str_color s.bottom }

-- what a configuration was told
abbrev pub settings_of : CompactConfig → CompactSettings
settings_of c = record {
  borders = c.borders;
  borders_color = border_colors c.borders_color;
  margin = c.margin;
  margin_color = side_colors c.margin_color;
  padding = c.padding;
  padding_color = side_colors c.padding_color;
  alignment = c.alignment;
}

-- an empty colour
abbrev pub empty_color : Color
empty_color = record { prefix = []; suffix = [] }

-- told nothing
unfoldable pub default_compact : CompactSettings
default_compact = record {
  borders = no_borders;
  borders_color = no_borders;
  margin = no_indents;
  margin_color = filled empty_color;
  padding = no_indents;
  padding_color = filled empty_color;
  alignment = across.Left;
}

-- what a configuration tells of a compact table, which has no cells of its own and borrows its colours
abbrev pub compact_of : Config → CompactSettings
compact_of config = record default_compact {
  borders = config.borders;
  margin = config.margin;
  padding = unwrap_or config.padding.base no_indents;
  alignment = unwrap_or config.alignment_horizontal.base across.Left;
}

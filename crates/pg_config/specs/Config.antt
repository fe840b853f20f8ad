-- What a table was told, one part for each kind of setting, and what the getters answer.
use Rattle.std.specs.Prelude.{ℕ, ◌+◌, Bool, false, not, ◌&&◌, ◌||◌, List, [], count_by, Option, Some, None, unwrap_or, if◌then◌else◌}
use Rattle.std.specs.List.{range_with_len}
use Rattle.std.specs.Option.{option_or}
use Rattle.pg_layout.specs.declared.position.Position.{Position}
use Rattle.pg_layout.specs.declared.sides.Indent.{Indent}
use Rattle.pg_layout.specs.declared.sides.Sides.{Sides}
use Rattle.pg_layout.specs.declared.sides.Offset.{Offset}
use Rattle.pg_layout.specs.declared.sides.Offset.TheVariants.{Start}
use Rattle.pg_layout.specs.declared.alignment.Formatting.{Formatting}
use Rattle.pg_layout.specs.declared.alignment.AlignmentHorizontal.{AlignmentHorizontal}
use Rattle.pg_layout.specs.declared.alignment.AlignmentHorizontal.TheVariants as across
use Rattle.pg_layout.specs.declared.alignment.AlignmentVertical.{AlignmentVertical}
use Rattle.pg_layout.specs.declared.alignment.AlignmentVertical.TheVariants as down
use Rattle.pg_layout.specs.declared.borders.Borders.{Borders}
use Rattle.pg_layout.specs.Colors.{Color}
use Rattle.pg_layout.specs.Borders.{no_borders, has_top, has_bottom, has_left, has_right, has_inner_horizontal, has_inner_vertical, has_side, horizontal_glyph, vertical_glyph, crossing_glyph}
use Rattle.pg_config.specs.Settings.{Settings, no_settings, setting_of, is_set, is_for_all}
use Rattle.pg_config.specs.Overrides.{Overrides, no_overrides, horizontal_override, vertical_override, crossing_override, overrides_row, overrides_column, sets_rows, sets_columns}
use Rattle.pg_config.specs.Offsets.{Offsets, no_offsets, is_offset_at, has_offsets}
use Rattle.pg_config.specs.Spans.{Span}

-- The parts of a configuration. `border_colored` tells that a border colour was set, also where it set nothing.
pub record Config : Type 0 where
  pub borders : Borders ℕ
  pub overrides : Overrides ℕ
  pub missing : Option ℕ
  pub border_colors : Borders Color
  pub color_overrides : Overrides Color
  pub border_colored : Bool
  pub horizontal_chars : Offsets ℕ
  pub vertical_chars : Offsets ℕ
  pub horizontal_colors : Offsets Color
  pub vertical_colors : Offsets Color
  pub margin : Sides Indent
  pub margin_offset : Sides Offset
  pub margin_color : Sides (Option Color)
  pub padding : Settings (Sides Indent)
  pub padding_color : Settings (Sides (Option Color))
  pub alignment_horizontal : Settings AlignmentHorizontal
  pub alignment_vertical : Settings AlignmentVertical
  pub trim_horizontal : Settings Bool
  pub trim_vertical : Settings Bool
  pub line_alignment : Settings Bool
  pub justification : Settings ℕ
  pub justification_color : Settings (Option Color)
  pub spans : List Span

-- ---- a configuration that was told nothing

abbrev pub filled : {A : Type 0} → A → Sides A
filled a = record { left = a; right = a; top = a; bottom = a }

abbrev pub no_indents : Sides Indent
no_indents = filled (record { size = 0; fill = 32 })

unfoldable pub default_config : Config
default_config = record {
  borders = no_borders;
  overrides = no_overrides;
  missing = Some 32;
  border_colors = no_borders;
  color_overrides = no_overrides;
  border_colored = false;
  horizontal_chars = no_offsets;
  vertical_chars = no_offsets;
  horizontal_colors = no_offsets;
  vertical_colors = no_offsets;
  margin = no_indents;
  margin_offset = filled (Start 0);
  margin_color = filled None;
  padding = no_settings;
  padding_color = no_settings;
  alignment_horizontal = no_settings;
  alignment_vertical = no_settings;
  trim_horizontal = no_settings;
  trim_vertical = no_settings;
  line_alignment = no_settings;
  justification = no_settings;
  justification_color = no_settings;
  spans = [];
}

-- The same configuration, as if no colour had been told. That a glyph was set stays known.
abbrev pub without_colors : Config → Config
without_colors c = record c {
  border_colors = no_borders;
  color_overrides = no_overrides;
  border_colored = false;
  horizontal_colors = no_offsets;
  vertical_colors = no_offsets;
  margin_color = filled None;
  padding_color = no_settings;
  justification_color = no_settings;
}

-- ---- settings by entity

unfoldable pub get_padding : Config → Position → Sides Indent
get_padding config p = unwrap_or (setting_of config.padding p) no_indents

unfoldable pub get_padding_color : Config → Position → Sides (Option Color)
get_padding_color config p = unwrap_or (setting_of config.padding_color p) (filled None)

unfoldable pub get_alignment_horizontal : Config → Position → AlignmentHorizontal
get_alignment_horizontal config p = unwrap_or (setting_of config.alignment_horizontal p) across.Left

unfoldable pub get_alignment_vertical : Config → Position → AlignmentVertical
get_alignment_vertical config p = unwrap_or (setting_of config.alignment_vertical p) down.Top

unfoldable pub get_formatting : Config → Position → Formatting
get_formatting config p = record {
  horizontal_trim = unwrap_or (setting_of config.trim_horizontal p) false;
  vertical_trim = unwrap_or (setting_of config.trim_vertical p) false;
  allow_lines_alignment = unwrap_or (setting_of config.line_alignment p) false;
}

unfoldable pub get_justification : Config → Position → ℕ
get_justification config p = unwrap_or (setting_of config.justification p) 32

unfoldable pub get_justification_color : Config → Position → Option Color
get_justification_color config p = unwrap_or (setting_of config.justification_color p) None

-- ---- border lines

-- line r of a table of so many rows is there: as the first, as the last, as one between, or by an override
unfoldable pub has_horizontal : Config → ℕ → ℕ → Bool
has_horizontal config r rows =
    has_side (has_top config.borders) (has_inner_horizontal config.borders) (has_bottom config.borders) r rows
    || overrides_row config.overrides r

unfoldable pub has_vertical : Config → ℕ → ℕ → Bool
has_vertical config c columns =
    has_side (has_left config.borders) (has_inner_vertical config.borders) (has_right config.borders) c columns
    || overrides_column config.overrides c

-- some column line is there, in a table of some number of columns
unfoldable pub has_column_lines : Config → Bool
has_column_lines config =
    ((has_left config.borders || has_right config.borders) || has_inner_vertical config.borders) || sets_columns config.overrides

-- how many lines are there, of the lines 0 to `rows` and 0 to `columns`
unfoldable pub count_horizontal : Config → ℕ → ℕ
count_horizontal config rows = count_by (λ r. has_horizontal config r rows) (range_with_len 0 (rows + 1))

unfoldable pub count_vertical : Config → ℕ → ℕ
count_vertical config columns = count_by (λ c. has_vertical config c columns) (range_with_len 0 (columns + 1))

-- the missing glyph where there is a line
abbrev pub missing_if : Config → Bool → Option ℕ
missing_if config there = if there then config.missing else None

-- the override, else the border glyph, else the missing glyph where the line is there
unfoldable pub get_horizontal : Config → Position → ℕ → Option ℕ
get_horizontal config p rows =
    option_or (horizontal_override config.overrides p)
    (option_or (horizontal_glyph config.borders p.row rows) (missing_if config (has_horizontal config p.row rows)))

unfoldable pub get_vertical : Config → Position → ℕ → Option ℕ
get_vertical config p columns =
    option_or (vertical_override config.overrides p)
    (option_or (vertical_glyph config.borders p.col columns) (missing_if config (has_vertical config p.col columns)))

unfoldable pub get_intersection : Config → Position → ℕ → ℕ → Option ℕ
get_intersection config p rows columns =
    option_or (crossing_override config.overrides p)
    (option_or (crossing_glyph config.borders p.row p.col rows columns)
    (missing_if config (has_horizontal config p.row rows && has_vertical config p.col columns)))

-- colours likewise, with none where none is set
unfoldable pub get_horizontal_color : Config → Position → ℕ → Option Color
get_horizontal_color config p rows = option_or (horizontal_override config.color_overrides p) (horizontal_glyph config.border_colors p.row rows)

unfoldable pub get_vertical_color : Config → Position → ℕ → Option Color
get_vertical_color config p columns = option_or (vertical_override config.color_overrides p) (vertical_glyph config.border_colors p.col columns)

unfoldable pub get_intersection_color : Config → Position → ℕ → ℕ → Option Color
get_intersection_color config p rows columns = option_or (crossing_override config.color_overrides p) (crossing_glyph config.border_colors p.row p.col rows columns)

-- ---- what is the same everywhere

-- Nothing was set for a horizontal or a crossing by its place, so that all row lines between two rows are equal.
unfoldable pub has_equal_row_lines : Config → Bool
has_equal_row_lines config =
    (not (sets_rows config.overrides) && not (sets_rows config.color_overrides))
    && (not (has_offsets config.horizontal_chars) && not (has_offsets config.horizontal_colors))

-- No setting is for a row, a column or a cell, so that all cells have one style.
unfoldable pub has_one_style : Config → Bool
has_one_style config =
    ((is_for_all config.padding && is_for_all config.padding_color)
    && (is_for_all config.alignment_horizontal && is_for_all config.alignment_vertical))
    && ((is_for_all config.trim_horizontal && (is_for_all config.trim_vertical && is_for_all config.line_alignment))
    && (is_for_all config.justification && is_for_all config.justification_color))

-- ---- what was set at all

unfoldable pub is_overridden_horizontal : Config → Position → Bool
is_overridden_horizontal config p = is_offset_at config.horizontal_chars p || is_offset_at config.horizontal_colors p

unfoldable pub has_offset_chars : Config → Bool
has_offset_chars config =
    (has_offsets config.horizontal_chars || has_offsets config.vertical_chars)
    || (has_offsets config.horizontal_colors || has_offsets config.vertical_colors)

unfoldable pub has_padding_color : Config → Bool
has_padding_color config = is_set config.padding_color

unfoldable pub has_justification : Config → Bool
has_justification config = is_set config.justification || is_set config.justification_color

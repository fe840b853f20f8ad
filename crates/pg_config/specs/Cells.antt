-- The style of a cell: what the getters answer at its place.
use Rattle.std.specs.Prelude.{◌≡◌, ℕ, Option, option_map}
use Rattle.pg_layout.specs.declared.position.Position.{Position}
use Rattle.pg_layout.specs.declared.sides.Indent.{Indent}
use Rattle.pg_layout.specs.declared.sides.Sides.{Sides}
use Rattle.pg_layout.specs.declared.alignment.Formatting.{Formatting}
use Rattle.pg_layout.specs.declared.alignment.AlignmentHorizontal.{AlignmentHorizontal}
use Rattle.pg_layout.specs.declared.alignment.AlignmentVertical.{AlignmentVertical}
use Rattle.pg_layout.specs.Colors.{Color}
use Rattle.pg_config.specs.Config.{Config, get_padding, get_padding_color, get_alignment_horizontal, get_alignment_vertical, get_formatting, get_justification, get_justification_color}
use Rattle.pg_config.specs.declared.spanned.cells.CellStyle.{CellStyle}

pub record Style : Type 0 where
  pub formatting : Formatting
  pub padding : Sides Indent
  pub padding_color : Sides (Option Color)
  pub across : AlignmentHorizontal
  pub down : AlignmentVertical
  pub justification : ℕ
  pub justification_color : Option Color

unfoldable pub style_at : Config → Position → Style
style_at config p = record {
  formatting = get_formatting config p;
  padding = get_padding config p;
  padding_color = get_padding_color config p;
  across = get_alignment_horizontal config p;
  down = get_alignment_vertical config p;
  justification = get_justification config p;
  justification_color = get_justification_color config p;
}

-- each cell has this style
abbrev pub IsStyleOfAll : Config → Style → Type 0
IsStyleOfAll config style = (p : Position) → style ≡ style_at config p

-- the style that a value stands for
abbrev pub style_of : {A : Type 0} → CellStyle A → Style
style_of s = record {
  formatting = s.formatting;
  padding = s.padding;
  padding_color = s.padding_color.now;
  across = s.alignment_horizontal;
  down = s.alignment_vertical;
  justification = s.justification;
  justification_color = option_map (λ c. c.now) s.justification_color;
}

-- What all cells have in common, and all verticals between two columns.
use Rattle.std.specs.Prelude.{◌≡◌, ℕ, Bool, ◌&&◌, ◌||◌, Option, None, is_some, if◌then◌else◌}
use Rattle.pg_layout.specs.declared.position.Position.{Position}
use Rattle.pg_layout.specs.Position.{at}
use Rattle.pg_config.specs.Settings.{is_for_all, has_some}
use Rattle.pg_config.specs.Config.{Config, get_alignment_horizontal}
use Rattle.pg_config.specs.Cells.{Style, style_at}

-- No setting but a horizontal alignment is for a row, a column or a cell.
unfoldable pub has_one_style_but_across : Config → Bool
has_one_style_but_across config =
    ((is_for_all config.padding && is_for_all config.padding_color) && is_for_all config.alignment_vertical)
    && ((is_for_all config.trim_horizontal && (is_for_all config.trim_vertical && is_for_all config.line_alignment))
    && (is_for_all config.justification && is_for_all config.justification_color))

-- The glyph of all verticals between two columns, where they have no colour and none of their places was set.
unfoldable pub inner_vertical : Config → Option ℕ
inner_vertical config =
    if (has_some config.overrides.verticals || has_some config.color_overrides.verticals) || is_some config.border_colors.vertical then None
    else config.borders.vertical

-- each cell has this style, but for its horizontal alignment
abbrev pub IsStyleButAcross : Config → Style → Type 0
IsStyleButAcross config style = (p : Position) → record style { across = get_alignment_horizontal config p } ≡ style_at config p

-- each cell has the horizontal alignment of the first cell of its column
abbrev pub IsSidedByColumn : Config → Type 0
IsSidedByColumn config = (p : Position) → get_alignment_horizontal config (at 0 p.col) ≡ get_alignment_horizontal config p

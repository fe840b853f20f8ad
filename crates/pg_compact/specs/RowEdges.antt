-- What stands round the cells of each row of a compact table.
use Rattle.std.specs.Prelude.{◌≡◌, ◌++◌}
use Rattle.std.specs.Option.{ForSome}
use Rattle.pg_layout.specs.Text.{Text}
use Rattle.pg_config.specs.CompactConfig.{CompactSettings}
use Rattle.pg_picture.specs.CompactLines.{compact_indent, colored_glyph}
use Rattle.pg_compact.specs.declared.row_edges.RowEdges.{RowEdges}

-- left of a row's cells: the left margin and the left glyph
unfoldable pub row_start : CompactSettings → Text
row_start config =
    let m = config.margin.left in
    compact_indent m.fill m.size config.margin_color.left ++ colored_glyph config.borders.left config.borders_color.left

-- right of a row's cells: the right glyph and the right margin
unfoldable pub row_end : CompactSettings → Text
row_end config =
    let m = config.margin.right in
    colored_glyph config.borders.right config.borders_color.right ++ compact_indent m.fill m.size config.margin_color.right

-- between two of a row's cells
abbrev pub between_cells : CompactSettings → Text
between_cells config = colored_glyph config.borders.vertical config.borders_color.vertical

-- the texts that are kept are those round the cells
pub record AreEdges (config : CompactSettings) (edges : RowEdges) : Type 0 where
  pub start : ForSome edges.start (λ (text : Text). text ≡ row_start config)
  pub between : ForSome edges.between (λ (text : Text). text ≡ between_cells config)
  pub end : ForSome edges.end (λ (text : Text). text ≡ row_end config)

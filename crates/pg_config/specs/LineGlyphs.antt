-- Characters over the glyphs of a row line, and colours of its glyphs, one for each column of the terminal.
use Rattle.std.specs.Prelude.{ℕ, zero, suc, ◌+◌, ◌-◌, ◌^◌, Bool, true, ◌&&◌, nat_lt, List, [], ◌∷◌, Option, Some, None, is_some, sum_by, count_by, if◌then◌else◌}
use Rattle.std.specs.List.{find, range_with_len}
use Rattle.pg_layout.specs.Colors.{Color}
use Rattle.pg_layout.specs.Keys.{by_place}
use Rattle.pg_layout.specs.Places.{with_place}
use Rattle.pg_layout.specs.Position.{at}
use Rattle.pg_layout.specs.declared.position.Position.{Position}
use Rattle.pg_config.specs.Config.{Config, has_horizontal, has_vertical}
use Rattle.pg_config.specs.Offsets.{by_glyph, glyph_at}
use Rattle.pg_config.specs.declared.line_glyphs.LinePlace.{LinePlace}
use Rattle.pg_config.specs.declared.line_glyphs.LinePlace.TheVariants.{Glyph, Crossing}
use Rattle.pg_config.specs.declared.offsets.GlyphPlace.{GlyphPlace}

-- how many columns of a row line stand before those of column c: the widths of the columns left of it, and the column lines
-- between them and left of it that are there, but for column line 0
abbrev pub first_of_column : Config → ℕ → (ℕ → ℕ) → ℕ → ℕ
first_of_column config columns width c = sum_by width (range_with_len 0 c) + count_by (λ x. has_vertical config x columns) (range_with_len 1 c)

-- column c ends behind column k of the line
abbrev pub ends_behind : Config → ℕ → (ℕ → ℕ) → ℕ → ℕ → Bool
ends_behind config columns width k c = nat_lt k (first_of_column config columns width c + width c)

-- where column k of the line lies, if column c is the first one that ends behind it
abbrev pub place_in : Config → ℕ → (ℕ → ℕ) → ℕ → Option ℕ → Option LinePlace
place_in config columns width k None = None
place_in config columns width k (Some c) =
    Some (if nat_lt k (first_of_column config columns width c) then Crossing c else Glyph c (k - first_of_column config columns width c))

-- Where column k of a row line lies, counted from the first glyph of column 0: at a glyph of a horizontal, or at the crossing with a
-- column line that is there. Behind the last column there is no such place, nor where k has more than 64 bits.
unfoldable pub line_place : Config → ℕ → (ℕ → ℕ) → ℕ → Option LinePlace
line_place config columns width k =
    if nat_lt k (2 ^ 64) then place_in config columns width k (find (ends_behind config columns width k) (range_with_len 0 columns)) else None

module _ {V : Type 0} where
  -- the values, each with its place, the first one at column k
  abbrev pub over_line : (ℕ → Option LinePlace) → ℕ → List V → List (Option LinePlace × V)
  over_line place k [] = []
  over_line place k (v ∷ vs) = (place k, v) ∷ over_line place (k + 1) vs

  -- one value for each of so many columns from column k on, up to the end of the line
  abbrev pub over_columns : (ℕ → Option LinePlace) → ℕ → ℕ → V → List (Option LinePlace × V)
  over_columns place k zero v = []
  over_columns place k (suc n) v = if is_some (place k) then (place k, v) ∷ over_columns place (k + 1) n v else []

  -- a value at a glyph of a horizontal of row line r
  abbrev pub with_glyph : ℕ → Option LinePlace → V → List (GlyphPlace × V) → List (GlyphPlace × V)
  with_glyph r None v es = es
  with_glyph r (Some (Glyph c i)) v es = with_place by_glyph (glyph_at (at r c) i) v es
  with_glyph r (Some (Crossing c)) v es = es

  -- a value at a crossing of row line r
  abbrev pub with_crossing : ℕ → Option LinePlace → V → List (Position × V) → List (Position × V)
  with_crossing r None v es = es
  with_crossing r (Some (Glyph c i)) v es = es
  with_crossing r (Some (Crossing c)) v es = with_place by_place (at r c) v es

  -- all of them, one after another
  abbrev pub with_glyphs : ℕ → List (Option LinePlace × V) → List (GlyphPlace × V) → List (GlyphPlace × V)
  with_glyphs r [] es = es
  with_glyphs r (o ∷ over) es = with_glyphs r over (with_glyph r o.0 o.1 es)

  abbrev pub with_line_crossings : ℕ → List (Option LinePlace × V) → List (Position × V) → List (Position × V)
  with_line_crossings r [] es = es
  with_line_crossings r (o ∷ over) es = with_line_crossings r over (with_crossing r o.0 o.1 es)

abbrev pub with_over : ℕ → List (Option LinePlace × ℕ) → Config → Config
with_over r over config = record config {
  horizontal_chars = record config.horizontal_chars { from_start = with_glyphs r over config.horizontal_chars.from_start };
  overrides = record config.overrides { crossings = with_line_crossings r over config.overrides.crossings };
}

-- Row line r of a table of so many rows and columns of these widths, with these characters over its glyphs from column k on. A line
-- that isn't there has no glyph.
unfoldable pub with_line_glyphs : ℕ → ℕ → ℕ → (ℕ → ℕ) → ℕ → List ℕ → Config → Config
with_line_glyphs r rows columns width k glyphs config =
    if has_horizontal config r rows then with_over r (over_line (line_place config columns width) k glyphs) config else config

-- The same of colours, which are colours of border lines.
abbrev pub with_colors_over : ℕ → List (Option LinePlace × Color) → Config → Config
with_colors_over r over config = record config {
  horizontal_colors = record config.horizontal_colors { from_start = with_glyphs r over config.horizontal_colors.from_start };
  color_overrides = record config.color_overrides { crossings = with_line_crossings r over config.color_overrides.crossings };
  border_colored = true;
}

-- Row line r of such a table, with this colour for so many of its columns from column k on, where it has them. Without columns nothing
-- changes.
unfoldable pub with_line_color : ℕ → ℕ → ℕ → (ℕ → ℕ) → ℕ → ℕ → Color → Config → Config
with_line_color r rows columns width k count color config =
    if nat_lt 0 count && has_horizontal config r rows then with_colors_over r (over_columns (line_place config columns width) k count color) config else config

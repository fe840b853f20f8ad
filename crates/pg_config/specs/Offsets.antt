-- What was set for single glyphs of a horizontal or a vertical, counted from its start or from its end.
use Rattle.std.specs.Prelude.{ℕ, ◌-◌, Bool, ◌&&◌, ◌||◌, ◌==◌, nat_lt, List, [], Option, Some, None, if◌then◌else◌}
use Rattle.std.specs.Option.{option_or}
use Rattle.pg_layout.specs.declared.position.Position.{Position}
use Rattle.pg_layout.specs.declared.sides.Offset.{Offset}
use Rattle.pg_layout.specs.declared.sides.Offset.TheVariants.{Start, End}
use Rattle.pg_layout.specs.Keys.{Order, by_place}
use Rattle.pg_layout.specs.Places.{before, same, value_at, with_place, has_key}
use Rattle.pg_layout.specs.Position.{is_at}
use Rattle.pg_config.specs.declared.offsets.GlyphPlace.{GlyphPlace}
use Rattle.pg_config.specs.Settings.{has_some}

-- glyph i of the horizontal or the vertical at p
abbrev pub glyph_at : Position → ℕ → GlyphPlace
glyph_at p i = record { pos = p; number = i }

-- glyphs, place by place
abbrev pub by_glyph : Order GlyphPlace
by_glyph = record { before = λ a b. before by_place a.pos b.pos || (same by_place a.pos b.pos && nat_lt a.number b.number); same = λ a b. same by_place a.pos b.pos && (a.number == b.number) }

-- the glyph is one of this place
abbrev pub of_place : Position → GlyphPlace → Bool
of_place p g = is_at g.pos p.row p.col

pub record Offsets (V : Type 0) : Type 0 where
  pub from_start : List (GlyphPlace × V)
  pub from_end : List (GlyphPlace × V)

module _ {V : Type 0} where
  abbrev pub no_offsets : Offsets V
  no_offsets = record { from_start = []; from_end = [] }

  unfoldable pub with_offset : Position → Offset → V → Offsets V → Offsets V
  with_offset p (Start i) v o = record o { from_start = with_place by_glyph (glyph_at p i) v o.from_start }
  with_offset p (End i) v o = record o { from_end = with_place by_glyph (glyph_at p i) v o.from_end }

  -- what is set there, counted from that end
  abbrev pub offset_at : Position → Offset → Offsets V → Option V
  offset_at p (Start i) o = value_at by_glyph (glyph_at p i) o.from_start
  offset_at p (End i) o = value_at by_glyph (glyph_at p i) o.from_end

  -- the value, if there is one and the test is true
  abbrev pub only_if : Bool → Option V → Option V
  only_if test None = None
  only_if test (Some v) = if test then Some v else None

  -- What is set for glyph i of w, counted from the start, else from the end. For a glyph that isn't there it is nothing.
  unfoldable pub lookup_offset : Offsets V → Position → ℕ → ℕ → Option V
  lookup_offset o p i w = only_if (nat_lt i w) (option_or (value_at by_glyph (glyph_at p i) o.from_start) (value_at by_glyph (glyph_at p (w - i - 1)) o.from_end))

  -- a glyph of the place is set
  unfoldable pub is_offset_at : Offsets V → Position → Bool
  is_offset_at o p = has_key (of_place p) o.from_start || has_key (of_place p) o.from_end

  -- something was set
  unfoldable pub has_offsets : Offsets V → Bool
  has_offsets o = has_some o.from_start || has_some o.from_end

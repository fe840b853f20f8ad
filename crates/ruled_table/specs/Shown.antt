-- What is shown of rows, and what their table looks like.
use Rattle.std.specs.Prelude.{ℕ, List, [], ◌∷◌, codes, Option, Some, None, ◌+◌, Bool, length, map, slice_get, slice_index_or, take, option_map, unwrap_or, if◌then◌else◌, ◌==◌}
use Rattle.std.specs.Prelude.{◌&&◌, ◌||◌, not, chars}
use Rattle.pg_layout.specs.Looks.{borders_of, header_line_of}
use Rattle.pg_layout.specs.declared.borders.HorizontalLine.{HorizontalLine}
use Rattle.pg_layout.specs.declared.looks.Look.{Look}
use Rattle.pg_layout.specs.Colors.{Color}
use Rattle.pg_layout.specs.Text.{Text}
use Rattle.pg_layout.specs.declared.position.Entity.TheVariants.{Global}
use Rattle.pg_layout.specs.declared.position.Position.{Position}
use Rattle.pg_layout.specs.declared.sides.Indent.{Indent}
use Rattle.pg_config.specs.Config.{Config, default_config}
use Rattle.pg_config.specs.Settings.{with_setting}
use Rattle.pg_fit.specs.Controls.{visible_text}
use Rattle.ruled_table.specs.Columns.{drawn_at}
use Rattle.pg_table.specs.Numbers.{is_number}
use Rattle.ruled_table.specs.Order.{has_value, is_negative}
use Rattle.ruled_table.specs.Sides.{is_missing, sided}
use Rattle.ruled_table.specs.declared.colors.TextColors.{TextColors}
use Rattle.ruled_table.specs.declared.colors.Tint.{Tint}
use Rattle.ruled_table.specs.declared.colors.Tint.TheVariants.{Bold, Dim, Red, Green}
use Rattle.ruled_table.specs.declared.options.Options.{Options}
use Rattle.csv.specs.Records.{fields_of}
use Rattle.std.specs.List.{flat_map}
use Rattle.std.specs.Option.{option_and_then}
use Rattle.std.specs.Char.{encode_utf8}

-- ---- what is shown of rows

-- what stands for a character in a cell of Markdown: `\|` for a bar, `\\` for a backslash, and `<br>` for a line feed
abbrev pub escape_of : ℕ → List ℕ
escape_of c =
    if c == 124 then codes "\\|"
    else if c == 92 then codes "\\\\"
    else if c == 10 then codes "<br>"
    else encode_utf8 c

-- a character for which no other one stands there
abbrev pub is_plain : ℕ → Bool
is_plain c = not ((c == 124) || ((c == 92) || (c == 10)))

-- a text as one cell of a table of Markdown
unfoldable pub escaped_text : List ℕ → List ℕ
escaped_text text = flat_map escape_of (chars text)

-- ---- rows as they are shown

-- ---- rows

-- a text as it is, or with its control characters made visible
abbrev pub seen_text : Bool → Text → Text
seen_text is_raw text = if is_raw then text else visible_text text

-- a text as it is shown: for Markdown escaped, too
abbrev pub shown_text : Options → Text → Text
shown_text options text = if options.is_markdown then escaped_text (seen_text options.is_raw text) else seen_text options.is_raw text

-- a row as it is shown: its texts in columns with these places
abbrev pub shown_row : Options → List (Option ℕ) → List Text → List Text
shown_row options places row = map (λ place. shown_text options (drawn_at row place)) places

-- how many rows are shown at most, a header among them
abbrev pub limit_of : Options → Option ℕ
limit_of options = option_map (λ rows. if options.has_header then rows + 1 else rows) options.head

abbrev pub up_to : {X : Type 0} → Option ℕ → List X → List X
up_to None rows = rows
up_to (Some limit) rows = take limit rows

abbrev pub heads : {X : Type 0} → Options → List X → List X
heads options rows = up_to (limit_of options) rows

-- ---- their table

-- a space at each side of a text
abbrev pub look_config : Look → Config
look_config look =
    let beside : Indent = record { size = 1; fill = 32 } in
    let none : Indent = record { size = 0; fill = 32 } in
    record default_config {
      borders = borders_of look;
      padding = with_setting Global (record { left = beside; right = beside; top = none; bottom = none }) default_config.padding;
    }

abbrev pub line_in : Options → Option (HorizontalLine ℕ)
line_in options = if options.has_header then header_line_of options.look else None

-- each column at its side
abbrev pub sided_config : Options → List (List Text) → Config
sided_config options rows = sided options rows (look_config options.look)

-- ---- the colours of texts

-- as terminals have them: ESC [ 1 m in front of a bold text, and ESC [ 22 m behind it
abbrev pub color_of : Tint → Color
color_of Bold = record { prefix = 27 ∷ codes "[1m"; suffix = 27 ∷ codes "[22m" }
color_of Dim = record { prefix = 27 ∷ codes "[2m"; suffix = 27 ∷ codes "[22m" }
color_of Red = record { prefix = 27 ∷ codes "[31m"; suffix = 27 ∷ codes "[39m" }
color_of Green = record { prefix = 27 ∷ codes "[32m"; suffix = 27 ∷ codes "[39m" }

-- a number below or above zero
abbrev pub has_sign : Text → Bool
has_sign text = is_number text && has_value text

-- red below zero, green above it
abbrev pub sign_tint : Text → Option Tint
sign_tint text = if has_sign text then Some (if is_negative text then Red else Green) else None

-- the column in front that has the numbers of rows
abbrev pub is_label : Options → Option ℕ → Bool
is_label options place = options.is_numbered && (unwrap_or place 1 == 0)

-- the colour of a field that has this place in its row, where fields have any: dim, if it counts as blank
abbrev pub field_tint : Options → Option ℕ → Text → Option Tint
field_tint options place text =
    if not options.is_tinted then None
    else if is_missing options text then Some Dim
    else if is_label options place then None
    else sign_tint text

-- Where texts have colours, names are bold. Those of a row that isn't known have none.
abbrev pub tint_of : Options → Bool → Option ℕ → Option (List Text) → Option Tint
tint_of options is_name place row =
    if not options.is_colored then None
    else if is_name then Some Bold
    else option_and_then (λ fields. field_tint options place (drawn_at fields place)) row

-- whether fields can have colours
abbrev pub colors_fields : Options → Bool
colors_fields options = options.is_colored && options.is_tinted

module _ (options : Options) (places : List (Option ℕ)) where
  -- in a table of columns with these places, of which these rows are known
  abbrev pub color_at : List (List Text) → Position → Option Color
  color_at rows p = option_map color_of (tint_of options (options.has_header && (p.row == 0)) (slice_index_or places p.col None) (slice_get rows p.row))

  -- in the block of a record: names, and the texts beside them
  abbrev pub color_beside : List Text → Position → Option Color
  color_beside row p = option_map color_of (tint_of options (p.col == 0) (slice_index_or places p.row None) (Some row))

-- as a value has them: of rows, or of a block's record
module _ (colors : TextColors) where
  abbrev pub tint_in : Bool → ℕ → ℕ → Option Tint
  tint_in is_name row column =
      tint_of colors.options.now is_name (slice_index_or colors.places.now column None) (slice_get (map fields_of colors.rows.now) row)

  abbrev pub color_in : Position → Option Color
  color_in p =
      option_map color_of (if colors.is_block then tint_in (p.col == 0) 0 p.row else tint_in (colors.options.now.has_header && (p.row == 0)) p.row p.col)

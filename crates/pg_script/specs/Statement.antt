-- What the lines of a script say.
use Rattle.std.specs.Prelude.{◌≡◌, ◌<◌, ℕ, Bool, true, false, ◌&&◌, nat_lt, nat_le, List, length, Option, Some, None, option_map, if◌then◌else◌, codes, string_bytes, ⊤}
use Rattle.std.specs.Str.{bytes_eq}
use Rattle.pg_layout.specs.Borders.{no_borders}
use Rattle.pg_layout.specs.Looks.{ascii}
use Rattle.pg_layout.specs.declared.alignment.AlignmentHorizontal.{AlignmentHorizontal}
use Rattle.pg_layout.specs.declared.alignment.AlignmentHorizontal.TheVariants as across
use Rattle.pg_layout.specs.declared.alignment.AlignmentVertical.{AlignmentVertical}
use Rattle.pg_layout.specs.declared.alignment.AlignmentVertical.TheVariants as down
use Rattle.pg_layout.specs.declared.borders.Borders.{Borders as BorderGlyphs}
use Rattle.pg_layout.specs.declared.position.Entity.{Entity}
use Rattle.pg_layout.specs.declared.position.Position.{Position}
use Rattle.pg_layout.specs.declared.sides.Sides.{Sides}
use Rattle.pg_layout.specs.declared.sides.Indent.{Indent}
use Rattle.pg_config.specs.Settings.{with_setting}
use Rattle.pg_config.specs.Spans.{with_column_span, with_row_span}
use Rattle.pg_script.specs.Told.{Told, tell_text, tell_color, tell_setting, terminal_color, indents}
use Rattle.pg_script.specs.Words.{Word, words_of, behind_word, read_on, end_of, first_as, first_number, first_numbers, first_sizes, first_place, first_entity, char_of, text_of}
use Rattle.pg_script.specs.declared.statement.Size.{Size}
use Rattle.pg_script.specs.declared.statement.Statement.{Statement}
use Rattle.pg_script.specs.declared.statement.Statement.TheVariants.{Widths, Heights, Cell, Borders, HorizontalAlignment, VerticalAlignment, Padding, Trim, Lines, Margin, Color, Span}

-- the statement is one for a table of this size
abbrev pub FitsSize : {A : Type 0} → Size → Statement A → Type 0
FitsSize size (Widths widths) = length widths.items ≡ size.columns
FitsSize size (Heights heights) = length heights.items ≡ size.rows
FitsSize size (Cell place text) = (place.row < size.rows) × (place.col < size.columns)
FitsSize size (Borders borders) = ⊤
FitsSize size (HorizontalAlignment entity alignment) = ⊤
FitsSize size (VerticalAlignment entity alignment) = ⊤
FitsSize size (Padding entity padding) = ⊤
FitsSize size (Trim entity horizontal vertical) = ⊤
FitsSize size (Lines entity aligns) = ⊤
FitsSize size (Margin margin) = ⊤
FitsSize size (Color place color) = (place.row < size.rows) × (place.col < size.columns)
FitsSize size (Span place rows columns) = ⊤

-- ---- what changes by a statement

abbrev pub set_widths : List ℕ → Told → Told
set_widths widths told = record told { widths = widths }

abbrev pub set_heights : List ℕ → Told → Told
set_heights heights told = record told { heights = heights }

abbrev pub set_borders : BorderGlyphs ℕ → Told → Told
set_borders borders = tell_setting (λ config. record config { borders = borders })

abbrev pub set_horizontal : Entity → AlignmentHorizontal → Told → Told
set_horizontal entity alignment = tell_setting (λ config. record config { alignment_horizontal = with_setting entity alignment config.alignment_horizontal })

abbrev pub set_vertical : Entity → AlignmentVertical → Told → Told
set_vertical entity alignment = tell_setting (λ config. record config { alignment_vertical = with_setting entity alignment config.alignment_vertical })

abbrev pub set_padding : Entity → Sides Indent → Told → Told
set_padding entity padding = tell_setting (λ config. record config { padding = with_setting entity padding config.padding })

abbrev pub set_trims : Entity → Bool → Bool → Told → Told
set_trims entity horizontal vertical = tell_setting
    (λ config. record config { trim_horizontal = with_setting entity horizontal config.trim_horizontal; trim_vertical = with_setting entity vertical config.trim_vertical })

abbrev pub set_line_alignment : Entity → Bool → Told → Told
set_line_alignment entity aligns = tell_setting (λ config. record config { line_alignment = with_setting entity aligns config.line_alignment })

abbrev pub set_margin : Sides Indent → Told → Told
set_margin margin = tell_setting (λ config. record config { margin = margin })

abbrev pub set_span : Position → ℕ → ℕ → Told → Told
set_span place rows columns = tell_setting (λ config. record config { spans = with_column_span place columns (with_row_span place rows config.spans) })

abbrev pub change_of : {A : Type 0} → Statement A → Told → Told
change_of (Widths widths) = set_widths widths.items
change_of (Heights heights) = set_heights heights.items
change_of (Cell place text) = tell_text place (string_bytes text)
change_of (Borders borders) = set_borders borders
change_of (HorizontalAlignment entity alignment) = set_horizontal entity alignment
change_of (VerticalAlignment entity alignment) = set_vertical entity alignment
change_of (Padding entity padding) = set_padding entity padding
change_of (Trim entity horizontal vertical) = set_trims entity horizontal vertical
change_of (Lines entity aligns) = set_line_alignment entity aligns
change_of (Margin margin) = set_margin margin
change_of (Color place color) = tell_color place color
change_of (Span place rows columns) = set_span place rows columns

-- ---- what words are names of

abbrev pub borders_named : Word → Option (BorderGlyphs ℕ)
borders_named word =
    if bytes_eq word (codes "ascii") then Some ascii else if bytes_eq word (codes "none") then Some no_borders else None

abbrev pub horizontal_named : Word → Option AlignmentHorizontal
horizontal_named word =
    if bytes_eq word (codes "left") then Some across.Left
    else if bytes_eq word (codes "center") then Some across.Center
    else if bytes_eq word (codes "right") then Some across.Right
    else None

abbrev pub vertical_named : Word → Option AlignmentVertical
vertical_named word =
    if bytes_eq word (codes "top") then Some down.Top
    else if bytes_eq word (codes "center") then Some down.Center
    else if bytes_eq word (codes "bottom") then Some down.Bottom
    else None

-- whether the sides of lines are trimmed, and whether blank lines are
abbrev pub trims_named : Word → Option (Bool × Bool)
trims_named word =
    if bytes_eq word (codes "none") then Some (false, false)
    else if bytes_eq word (codes "h") then Some (true, false)
    else if bytes_eq word (codes "v") then Some (false, true)
    else if bytes_eq word (codes "hv") then Some (true, true)
    else None

abbrev pub switch_named : Word → Option Bool
switch_named word =
    if bytes_eq word (codes "on") then Some true else if bytes_eq word (codes "off") then Some false else None

-- ---- what a line says behind its first word

-- the last of its words was read
abbrev pub said : {X : Type 0} → X → List Word → Option X
said x words = option_map (λ _. x) (end_of words)

abbrev pub is_inside : Size → Position → Bool
is_inside size place = nat_lt place.row size.rows && nat_lt place.col size.columns

-- `R C`, each at most 1000
abbrev pub size_said : List Word → Option Size
size_said words =
    read_on (first_number words) (λ rows a.
    read_on (first_number a) (λ columns rest.
    if nat_le rows 1000 && nat_le columns 1000 then said (record { rows = rows; columns = columns }) rest else None))

-- numbers for all columns, or for all rows
abbrev pub widths_said : Size → List Word → Option (Told → Told)
widths_said size words = read_on (first_numbers size.columns words) (λ widths rest. said (set_widths widths) rest)

abbrev pub heights_said : Size → List Word → Option (Told → Told)
heights_said size words = read_on (first_numbers size.rows words) (λ heights rest. said (set_heights heights) rest)

-- `r c TEXT`: the text is all that follows the one space behind c
abbrev pub cell_said : Size → List ℕ → Option (Told → Told)
cell_said size line =
    read_on (first_place (words_of line)) (λ place _.
    if is_inside size place then option_map (λ text. tell_text place text) (text_of (behind_word (behind_word line))) else None)

abbrev pub borders_said : List Word → Option (Told → Told)
borders_said words = read_on (first_as borders_named words) (λ borders rest. said (set_borders borders) rest)

abbrev pub halign_said : List Word → Option (Told → Told)
halign_said words =
    read_on (first_entity words) (λ entity a. read_on (first_as horizontal_named a) (λ alignment rest. said (set_horizontal entity alignment) rest))

abbrev pub valign_said : List Word → Option (Told → Told)
valign_said words =
    read_on (first_entity words) (λ entity a. read_on (first_as vertical_named a) (λ alignment rest. said (set_vertical entity alignment) rest))

abbrev pub pad_said : List Word → Option (Told → Told)
pad_said words =
    read_on (first_entity words) (λ entity a. read_on (first_sizes a) (λ sizes rest. said (set_padding entity (indents sizes 32)) rest))

abbrev pub trim_said : List Word → Option (Told → Told)
trim_said words =
    read_on (first_entity words) (λ entity a. read_on (first_as trims_named a) (λ trims rest. said (set_trims entity trims.0 trims.1) rest))

abbrev pub lines_said : List Word → Option (Told → Told)
lines_said words =
    read_on (first_entity words) (λ entity a. read_on (first_as switch_named a) (λ aligns rest. said (set_line_alignment entity aligns) rest))

abbrev pub margin_said : List Word → Option (Told → Told)
margin_said words =
    read_on (first_sizes words) (λ sizes a. read_on (first_as char_of a) (λ fill rest. said (set_margin (indents sizes fill)) rest))

-- `r c CODE`, the code at most 107
abbrev pub color_code_said : Size → List Word → Option (Position × ℕ)
color_code_said size words =
    read_on (first_place words) (λ place a.
    read_on (first_number a) (λ code rest.
    if is_inside size place && nat_le code 107 then said (place, code) rest else None))

abbrev pub color_said : Size → List Word → Option (Told → Told)
color_said size words = option_map (λ read. tell_color read.0 (terminal_color read.1)) (color_code_said size words)

-- `r c ROWS COLS`
abbrev pub span_said : List Word → Option (Told → Told)
span_said words =
    read_on (first_place words) (λ place a.
    read_on (first_number a) (λ rows b.
    read_on (first_number b) (λ columns rest. said (set_span place rows columns) rest)))

-- what a line says by its first word and what follows it
abbrev pub line_said : Size → Word → List ℕ → Option (Told → Told)
line_said size keyword line =
    if bytes_eq keyword (codes "widths") then widths_said size (words_of line)
    else if bytes_eq keyword (codes "heights") then heights_said size (words_of line)
    else if bytes_eq keyword (codes "cell") then cell_said size line
    else if bytes_eq keyword (codes "borders") then borders_said (words_of line)
    else if bytes_eq keyword (codes "halign") then halign_said (words_of line)
    else if bytes_eq keyword (codes "valign") then valign_said (words_of line)
    else if bytes_eq keyword (codes "pad") then pad_said (words_of line)
    else if bytes_eq keyword (codes "trim") then trim_said (words_of line)
    else if bytes_eq keyword (codes "lines") then lines_said (words_of line)
    else if bytes_eq keyword (codes "margin") then margin_said (words_of line)
    else if bytes_eq keyword (codes "color") then color_said size (words_of line)
    else if bytes_eq keyword (codes "span") then span_said (words_of line)
    else None

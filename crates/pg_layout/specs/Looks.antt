-- Looks of tables: their borders and lines below a header, each read from its drawing, and their names.
use Rattle.std.specs.Prelude.{◌≡◌, ℕ, List, [], ◌∷◌, find, nat_eq, Option, Some, None, slice_get, codes}
use Rattle.std.specs.Cmp.Lexicographic.{pointwise}
use Rattle.std.proofs.Common.{refl}
use Rattle.pg_layout.specs.Borders.{no_borders, of_lines}
use Rattle.pg_layout.specs.declared.borders.Borders.{Borders}
use Rattle.pg_layout.specs.declared.borders.HorizontalLine.{HorizontalLine}
use Rattle.pg_layout.specs.declared.looks.Look.{Look}
use Rattle.pg_layout.specs.declared.looks.Look.TheVariants.{Sharp, Rounded, Modern, Extended, Ascii, Dots, Psql, Markdown, Blank}

-- ---- drawings

-- A line is drawn as what stands at its left end, in a column, between two columns and at its right end.
abbrev pub drawn_line : List ℕ → HorizontalLine ℕ
drawn_line glyphs = record { main = slice_get glyphs 1; intersection = slice_get glyphs 2; left = slice_get glyphs 0; right = slice_get glyphs 3 }

-- Borders are drawn as four lines: the first one, one through the cells of a row, one between two rows, and the last one. A
-- line that isn't there has no glyphs.
abbrev pub drawn : List ℕ → List ℕ → List ℕ → List ℕ → Borders ℕ
drawn top cells inner bottom = of_lines (drawn_line top) (drawn_line cells) (drawn_line inner) (drawn_line bottom)

-- ---- looks

abbrev pub ascii : Borders ℕ
ascii = drawn
    (codes "+-++")
    (codes "| ||")
    (codes "+-++")
    (codes "+-++")

abbrev pub modern : Borders ℕ
modern = drawn
    (codes "┌─┬┐")
    (codes "│ ││")
    (codes "├─┼┤")
    (codes "└─┴┘")

abbrev pub sharp : Borders ℕ
sharp = drawn
    (codes "┌─┬┐")
    (codes "│ ││")
    []
    (codes "└─┴┘")

abbrev pub rounded : Borders ℕ
rounded = drawn
    (codes "╭─┬╮")
    (codes "│ ││")
    []
    (codes "╰─┴╯")

abbrev pub extended : Borders ℕ
extended = drawn
    (codes "╔═╦╗")
    (codes "║ ║║")
    (codes "╠═╬╣")
    (codes "╚═╩╝")

abbrev pub dots : Borders ℕ
dots = drawn
    (codes "....")
    (codes ": ::")
    (codes ":.::")
    (codes ":.::")

-- spaces between columns, and nothing else
abbrev pub blank : Borders ℕ
blank = record no_borders { vertical = Some 32 }

-- `|` between columns, and nothing else
abbrev pub psql : Borders ℕ
psql = record no_borders { vertical = Some 124 }

abbrev pub markdown : Borders ℕ
markdown = drawn
    []
    (codes "| ||")
    []
    []

-- ---- lines below a header

abbrev pub sharp_line : HorizontalLine ℕ
sharp_line = drawn_line (codes "├─┼┤")

-- -+- without ends
abbrev pub psql_line : HorizontalLine ℕ
psql_line = record { main = Some 45; intersection = Some 43; left = None; right = None }

abbrev pub markdown_line : HorizontalLine ℕ
markdown_line = drawn_line (codes "|-||")

abbrev pub all_header_lines : List (HorizontalLine ℕ)
all_header_lines = sharp_line ∷ psql_line ∷ markdown_line ∷ []

-- ---- names

-- all looks, in the order in which they are listed
abbrev pub all_looks : List Look
all_looks = Sharp ∷ Rounded ∷ Modern ∷ Extended ∷ Ascii ∷ Dots ∷ Psql ∷ Markdown ∷ Blank ∷ []

abbrev pub name_of : Look → List ℕ
name_of Sharp = codes "sharp"
name_of Rounded = codes "rounded"
name_of Modern = codes "modern"
name_of Extended = codes "extended"
name_of Ascii = codes "ascii"
name_of Dots = codes "dots"
name_of Psql = codes "psql"
name_of Markdown = codes "markdown"
name_of Blank = codes "blank"

abbrev pub borders_of : Look → Borders ℕ
borders_of Sharp = sharp
borders_of Rounded = rounded
borders_of Modern = modern
borders_of Extended = extended
borders_of Ascii = ascii
borders_of Dots = dots
borders_of Psql = psql
borders_of Markdown = markdown
borders_of Blank = blank

-- the line below a header, of those that have no lines between all rows
abbrev pub header_line_of : Look → Option (HorizontalLine ℕ)
header_line_of Sharp = Some sharp_line
header_line_of Rounded = Some sharp_line
header_line_of Modern = None
header_line_of Extended = None
header_line_of Ascii = None
header_line_of Dots = None
header_line_of Psql = Some psql_line
header_line_of Markdown = Some markdown_line
header_line_of Blank = None

-- the first look of a name
abbrev pub first_named : List ℕ → Option Look
first_named name = find (λ look. pointwise nat_eq (name_of look) name) all_looks

-- each look is found by its name
pub first_of_name : (look : Look) → first_named (name_of look) ≡ Some look
first_of_name Sharp = refl
first_of_name Rounded = refl
first_of_name Modern = refl
first_of_name Extended = refl
first_of_name Ascii = refl
first_of_name Dots = refl
first_of_name Psql = refl
first_of_name Markdown = refl
first_of_name Blank = refl

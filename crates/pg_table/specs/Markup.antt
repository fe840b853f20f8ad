-- A table as HTML, and as Markdown.
use Rattle.std.specs.Prelude.{ℕ, ◌≡◌, ◌==◌, ◌||◌, not, true, List, [], ◌++◌, flat_map, length, chars, codes, decimal, if◌then◌else◌}
use Rattle.std.specs.Char.{encode_utf8}
use Rattle.std.specs.List.{list_all, range_with_len}
use Rattle.pg_layout.specs.declared.alignment.AlignmentHorizontal.{AlignmentHorizontal}
use Rattle.pg_layout.specs.declared.alignment.AlignmentHorizontal.TheVariants.{Left, Center, Right}
use Rattle.pg_layout.specs.declared.position.Position.{Position}
use Rattle.pg_layout.specs.Position.{at}
use Rattle.pg_layout.specs.Records.{text_at}
use Rattle.pg_layout.specs.Text.{Text}
use Rattle.pg_config.specs.Config.{Config, get_alignment_horizontal}
use Rattle.pg_config.specs.Spans.{is_visible, rect_rows, rect_columns}

-- ---- as HTML

-- what stands for a character of a text: a reference for `&`, `<`, `>` and `"`, and any other for itself
abbrev pub reference_of : ℕ → Text
reference_of c =
    if c == 38 then codes "&amp;"
    else if c == 60 then codes "&lt;"
    else if c == 62 then codes "&gt;"
    else if c == 34 then codes "&quot;"
    else encode_utf8 c

-- a text in which nothing is markup
unfoldable pub html_text : Text → Text
html_text text = flat_map reference_of (chars text)

-- the class of a cell by its alignment
abbrev pub class_of : AlignmentHorizontal → Text
class_of Left = []
class_of Center = codes " class=\"center\""
class_of Right = codes " class=\"right\""

-- how many rows, or columns, a cell takes, if they are several
abbrev pub span_attribute : Text → ℕ → Text
span_attribute name n = if n == 1 then [] else name ++ (decimal n ++ codes "\"")

module _ (config : Config) (text : Position → Text) where
  -- the cell p, unless another one covers it
  unfoldable pub html_cell : Position → Text
  html_cell p =
      if is_visible config.spans p
      then codes "<td"
      ++ (class_of (get_alignment_horizontal config p)
      ++ (span_attribute (codes " rowspan=\"") (rect_rows config.spans p)
      ++ (span_attribute (codes " colspan=\"") (rect_columns config.spans p)
      ++ (codes ">" ++ (html_text (text p) ++ codes "</td>")))))
      else []

  -- row r of so many columns
  unfoldable pub html_row : ℕ → ℕ → Text
  html_row columns r = codes "<tr>" ++ (flat_map (λ c. html_cell (at r c)) (range_with_len 0 columns) ++ codes "</tr>\n")

-- the table of these texts of so many columns
abbrev pub html_table : Config → List (List Text) → ℕ → Text
html_table config texts columns =
    codes "<table>\n" ++ (flat_map (html_row config (text_at texts) columns) (range_with_len 0 (length texts)) ++ codes "</table>")

-- No byte of a text of a cell is `<`, `>` or `"`: it begins and ends no tag, and no attribute.
abbrev pub TextsOpenNoTag : Type 0
TextsOpenNoTag = (text : Text) → list_all (λ b. not ((b == 60) || ((b == 62) || (b == 34)))) (html_text text) ≡ true

-- ---- as Markdown

-- what stands for a character of a text: `\|` for a bar, `\\` for a backslash, `<br>` for a line feed, and any other for itself
abbrev pub escape_of : ℕ → Text
escape_of c =
    if c == 124 then codes "\\|"
    else if c == 92 then codes "\\\\"
    else if c == 10 then codes "<br>"
    else encode_utf8 c

-- a text that is read as one cell
unfoldable pub escaped_text : Text → Text
escaped_text text = flat_map escape_of (chars text)

-- what a column has below its header, by its alignment
abbrev pub delimiter_of : AlignmentHorizontal → Text
delimiter_of Left = codes " --- |"
delimiter_of Center = codes " :---: |"
delimiter_of Right = codes " ---: |"

-- the row of the alignments of so many columns, which are those of the cells of row 1
unfoldable pub delimiter_row : Config → ℕ → Text
delimiter_row config columns = codes "|" ++ (flat_map (λ c. delimiter_of (get_alignment_horizontal config (at 1 c))) (range_with_len 0 columns) ++ codes "\n")

module _ (config : Config) (text : Position → Text) where
  -- the cell p, which is empty where another one covers it
  unfoldable pub markdown_cell : Position → Text
  markdown_cell p = if is_visible config.spans p then codes " " ++ (escaped_text (text p) ++ codes " |") else codes "  |"

  -- row r of so many columns
  unfoldable pub markdown_row : ℕ → ℕ → Text
  markdown_row columns r = codes "|" ++ (flat_map (λ c. markdown_cell (at r c)) (range_with_len 0 columns) ++ codes "\n")

  -- and with the alignments below the first one
  abbrev pub markdown_lines : ℕ → ℕ → Text
  markdown_lines columns r = if r == 0 then markdown_row columns r ++ delimiter_row config columns else markdown_row columns r

-- the table of these texts of so many columns
abbrev pub markdown_table : Config → List (List Text) → ℕ → Text
markdown_table config texts columns = flat_map (markdown_lines config (text_at texts) columns) (range_with_len 0 (length texts))

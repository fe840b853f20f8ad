-- What calls of `Table` make of a table, each worked out by hand.
use Rattle.std.proofs.Common.{◌≡◌, ℕ, ◌-◌, ◌^◌, List, [], ◌∷◌, ◌++◌, refl, Option, Some, None}
use Rattle.std.specs.Prelude.{codes}
use Rattle.pg_layout.specs.declared.alignment.AlignmentHorizontal.TheVariants as across
use Rattle.pg_layout.specs.declared.borders.Border.{Border}
use Rattle.pg_layout.specs.declared.position.Entity.TheVariants.{Cell, Column}
use Rattle.pg_layout.specs.declared.position.Position.{Position}
use Rattle.pg_layout.specs.Looks.{modern, psql_line}
use Rattle.pg_layout.specs.Position.{at}
use Rattle.pg_layout.specs.Records.{cell_of, text_at, with_cell}
use Rattle.pg_layout.specs.Text.{Text}
use Rattle.pg_config.specs.Config.{Config, get_padding}
use Rattle.pg_config.specs.LineGlyphs.{line_place, with_line_color, with_line_glyphs}
use Rattle.pg_config.specs.Overrides.{with_row_line}
use Rattle.pg_config.specs.Settings.{with_setting}
use Rattle.pg_fit.specs.Escapes.{without_escapes}
use Rattle.pg_fit.specs.Narrowing.{level, narrowed}
use Rattle.pg_fit.specs.Wrapping.{least_width}
use Rattle.pg_fit.specs.declared.wrapping.Breaking.TheVariants.{Anywhere}
use Rattle.pg_picture.proofs.Computing.{grid_words}
use Rattle.pg_picture.specs.Picture.{picture}
use Rattle.pg_picture.specs.Pieces.{joined}
use Rattle.pg_picture.specs.Samples.{plain, bordered}
use Rattle.pg_picture.specs.Table.{Known}
use Rattle.pg_table.specs.Coloring.{with_stripes}
use Rattle.pg_table.specs.Fitted.{least_column_width, least_width_at}
use Rattle.pg_table.specs.Markup.{html_text, html_cell, html_row, html_table, escaped_text, delimiter_row, markdown_cell, markdown_row, markdown_table}
use Rattle.pg_table.specs.Natural.{lacking as lacks, widening, widened, size_of_singles, natural_size, natural_sizes}
use Rattle.pg_table.specs.Numbers.{is_number, lacking}
use Rattle.pg_table.specs.OwnRows.{transposed, padded, with_panel_row, spaced_config, titled, titled_at, titled_in, captioned, numbered, widened_right, longest_rest, aligned, merged}
use Rattle.pg_table.specs.Panels.{with_title_at, with_title, with_title_color, ruled, frame_round, frame_horizontal, frame_vertical, frame_crossing, column_vertical, column_crossing}
use Rattle.pg_table.specs.Printing.{Parts, printed_table}
use Rattle.pg_table.specs.Ranges.{ranged_widths}
use Rattle.pg_table.specs.declared.overflow.Overflow.TheVariants.{Wrap}
use Rattle.pg_laws.specs.Samples.{color_r}
use Rattle.unicode_segmentation.proofs.Computing.{unicode_segmentation}

unfoldable table_words : Unit {0}
unfolding grid_words lacks widening widened size_of_singles natural_size natural_sizes is_number with_row_line line_place with_line_color with_line_glyphs with_title_at with_title with_title_color html_text html_cell html_row escaped_text delimiter_row markdown_cell markdown_row without_escapes
table_words = tt

-- and what lets it compute the widths of columns within a total
unfoldable width_words : Unit {0}
unfolding table_words unicode_segmentation level narrowed least_width least_column_width least_width_at ranged_widths
width_words = tt

-- a table of texts, and what it draws
abbrev with_rows : Config → List (List Text) → Parts Text
with_rows config rows = record { rows = rows; config = config; colors = [] }

abbrev itself : Text → Text
itself text = text

abbrev drawn : Parts Text → Text
drawn t = picture Known (printed_table itself t)

-- ---- rows

-- columns become rows
two_rows_become_three : transposed ((codes "a" ∷ codes "b" ∷ codes "c" ∷ []) ∷ (codes "d" ∷ codes "e" ∷ codes "f" ∷ []) ∷ []) 3
    ≡ (codes "a" ∷ codes "d" ∷ []) ∷ (codes "b" ∷ codes "e" ∷ []) ∷ (codes "c" ∷ codes "f" ∷ []) ∷ []
two_rows_become_three = refl

-- fillers stand behind the texts of a shorter row
a_short_row_is_filled : padded (codes "-") ((codes "a" ∷ []) ∷ (codes "b" ∷ codes "c" ∷ []) ∷ [])
    ≡ (codes "a" ∷ codes "-" ∷ []) ∷ (codes "b" ∷ codes "c" ∷ []) ∷ []
a_short_row_is_filled = refl

-- another text at a place, and the former one
a_text_is_replaced : with_cell (at 1 0) (codes "x") ((codes "a" ∷ codes "b" ∷ []) ∷ (codes "c" ∷ codes "d" ∷ []) ∷ [])
    ≡ (codes "a" ∷ codes "b" ∷ []) ∷ (codes "x" ∷ codes "d" ∷ []) ∷ []
a_text_is_replaced = refl

the_former_text : cell_of (at 1 0) ((codes "a" ∷ []) ∷ (codes "c" ∷ []) ∷ []) ≡ Some (codes "c")
the_former_text = refl

no_text_is_added_below_the_rows : with_cell (at 1 0) (codes "x") ((codes "a" ∷ []) ∷ []) ≡ (codes "a" ∷ []) ∷ []
no_text_is_added_below_the_rows = refl

-- the panel takes both columns
a_panel_below_two_cells : drawn (with_panel_row (codes "all") (with_rows bordered ((codes "a" ∷ codes "b" ∷ []) ∷ [])))
    ≡ joined (codes "+-+-+" ∷ codes "|a|b|" ∷ codes "+-+-+" ∷ codes "|all|" ∷ codes "+-+-+" ∷ [])
unfolding table_words
a_panel_below_two_cells = refl

-- two spaces stand before the second text, in each of its lines
two_texts_beside_each_other : drawn (with_rows (spaced_config 2) (((codes "ab" ++ 10 ∷ codes "c") ∷ codes "d" ∷ []) ∷ []))
    ≡ joined (codes "ab  d" ∷ codes "c    " ∷ [])
unfolding table_words
two_texts_beside_each_other = refl

-- two equal texts below one another become one cell, and the text below them stays
equal_texts_become_one_cell : drawn (merged 0 itself (with_rows plain ((codes "a" ∷ codes "1" ∷ []) ∷ (codes "a" ∷ codes "2" ∷ []) ∷ (codes "b" ∷ codes "3" ∷ []) ∷ [])))
    ≡ joined (codes "a1" ∷ codes " 2" ∷ codes "b3" ∷ [])
unfolding table_words
equal_texts_become_one_cell = refl

-- ---- columns

-- below their header, the texts of the second column are numbers
numbers_are_at_the_right : drawn (numbered itself (with_rows plain ((codes "a" ∷ codes "n" ∷ []) ∷ (codes "bb" ∷ codes "5" ∷ []) ∷ (codes "c" ∷ codes "12" ∷ []) ∷ [])))
    ≡ joined (codes "a  n" ∷ codes "bb 5" ∷ codes "c 12" ∷ [])
unfolding table_words
numbers_are_at_the_right = refl

-- numbers below a header: behind their whole parts are three characters, none, and two
abbrev numbers : List (List Text)
numbers = (codes "x" ∷ []) ∷ (codes "1.25" ∷ []) ∷ (codes "10" ∷ []) ∷ (codes "-0.5" ∷ []) ∷ []

-- with the padding that row r gets where the points of the numbers are aligned
abbrev with_point : ℕ → Config → Config
with_point r config = record config { padding = with_setting (Cell r 0) (widened_right (lacking (longest_rest numbers 1 0) (text_at numbers (at r 0))) (get_padding config (at r 0))) config.padding }

points_below_one_another : drawn (aligned (Column 0) across.Right (with_rows (with_point 3 (with_point 2 (with_point 1 plain))) numbers))
    ≡ joined (codes "    x" ∷ codes " 1.25" ∷ codes "10   " ∷ codes "-0.5 " ∷ [])
unfolding table_words
points_below_one_another = refl

-- two columns that need four and six
abbrev wide_texts : List (List Text)
wide_texts = (codes "aaaa" ∷ codes "bbbbbb" ∷ []) ∷ []

-- within seven the first one, which may be two wide, leaves five to the other
a_column_of_at_most_two : ranged_widths (Wrap Anywhere) (record { least = 0; natural = 2 } ∷ []) plain wide_texts 2 7 ≡ 2 ∷ 5 ∷ []
unfolding width_words
a_column_of_at_most_two = refl

-- within six the first one keeps four
a_column_of_at_least_four : ranged_widths (Wrap Anywhere) (record { least = 4; natural = 2 ^ 64 - 1 } ∷ []) plain wide_texts 2 6 ≡ 4 ∷ 2 ∷ []
unfolding width_words
a_column_of_at_least_four = refl

-- ---- lines

-- a line above the last of three rows, and none below it
a_line_above_the_last_row : drawn (ruled 2 psql_line (with_rows plain ((codes "a" ∷ []) ∷ (codes "b" ∷ []) ∷ (codes "c" ∷ []) ∷ [])))
    ≡ joined (codes "a" ∷ codes "b" ∷ codes "-" ∷ codes "c" ∷ [])
unfolding table_words
a_line_above_the_last_row = refl

no_line_below_the_rows : drawn (ruled 2 psql_line (with_rows plain ((codes "a" ∷ []) ∷ (codes "b" ∷ []) ∷ [])))
    ≡ joined (codes "a" ∷ codes "b" ∷ [])
unfolding table_words
no_line_below_the_rows = refl

-- the line left of column 1 of a table of two rows and columns: `│` beside each row
a_column_line_beside_a_row : column_vertical 1 modern 2 2 (at 1 1) ≡ Some 9474
a_column_line_beside_a_row = refl

no_column_line_beside_others : column_vertical 1 modern 2 2 (at 1 0) ≡ None
no_column_line_beside_others = refl

-- it is none of the frame
no_column_line_at_the_right : column_vertical 2 modern 2 2 (at 1 2) ≡ None
no_column_line_at_the_right = refl

-- `┬`, `┼` and `┴` where it crosses a line
a_column_line_crosses_the_first_line : column_crossing 1 modern 2 2 bordered (at 0 1) ≡ Some 9516
unfolding table_words
a_column_line_crosses_the_first_line = refl

a_column_line_crosses_a_line_between_rows : column_crossing 1 modern 2 2 bordered (at 1 1) ≡ Some 9532
unfolding table_words
a_column_line_crosses_a_line_between_rows = refl

a_column_line_crosses_the_last_line : column_crossing 1 modern 2 2 bordered (at 2 1) ≡ Some 9524
unfolding table_words
a_column_line_crosses_the_last_line = refl

a_column_line_crosses_no_missing_line : column_crossing 1 modern 2 2 plain (at 1 1) ≡ None
unfolding table_words
a_column_line_crosses_no_missing_line = refl

-- a frame round the first row of a table of two rows and columns without borders
abbrev dashes : Border ℕ
dashes = record { top = Some 61; bottom = Some 45; left = Some 124; right = Some 124; top_left = Some 43; top_right = Some 43; bottom_left = Some 43; bottom_right = Some 43 }

abbrev framed_horizontal : Position → Option ℕ
framed_horizontal p = frame_horizontal (frame_round (at 0 0) (at 0 1) dashes 2 2 plain) p

abbrev framed_vertical : Position → Option ℕ
framed_vertical p = frame_vertical (frame_round (at 0 0) (at 0 1) dashes 2 2 plain) p

abbrev framed_crossing : Position → Option ℕ
framed_crossing p = frame_crossing (frame_round (at 0 0) (at 0 1) dashes 2 2 plain) plain p

-- `=` above the row, `-` below it, and nothing below the next one
a_frame_above_its_cells : framed_horizontal (at 0 1) ≡ Some 61
unfolding table_words
a_frame_above_its_cells = refl

a_frame_below_its_cells : framed_horizontal (at 1 1) ≡ Some 45
unfolding table_words
a_frame_below_its_cells = refl

no_frame_below_others : framed_horizontal (at 2 1) ≡ None
unfolding table_words
no_frame_below_others = refl

-- `|` at both sides of the row, and no line between its cells
a_frame_at_the_right : framed_vertical (at 0 2) ≡ Some 124
unfolding table_words
a_frame_at_the_right = refl

no_frame_between_its_cells : framed_vertical (at 0 1) ≡ None
unfolding table_words
no_frame_between_its_cells = refl

no_frame_beside_others : framed_vertical (at 1 2) ≡ None
unfolding table_words
no_frame_beside_others = refl

a_frame_has_corners : framed_crossing (at 1 2) ≡ Some 43
unfolding table_words
a_frame_has_corners = refl

no_crossing_without_a_column_line : framed_crossing (at 1 1) ≡ None
unfolding table_words
no_crossing_without_a_column_line = refl

-- ---- titles

abbrev boxed : Parts Text
boxed = with_rows bordered ((codes "abc" ∷ []) ∷ [])

a_title_at_the_left : drawn (titled 0 across.Left (codes "T") itself boxed) ≡ joined (codes "+T--+" ∷ codes "|abc|" ∷ codes "+---+" ∷ [])
unfolding table_words
a_title_at_the_left = refl

a_title_in_the_middle : drawn (titled_at 0 across.Center (codes "T") (3 ∷ []) boxed) ≡ joined (codes "+-T-+" ∷ codes "|abc|" ∷ codes "+---+" ∷ [])
unfolding table_words
a_title_in_the_middle = refl

a_caption_at_the_right : drawn (captioned across.Right (codes "ok") itself boxed) ≡ joined (codes "+---+" ∷ codes "|abc|" ∷ codes "+-ok+" ∷ [])
unfolding table_words
a_caption_at_the_right = refl

-- the colour lies over each character, also over the crossing, and not over the last one, which is cut
a_cut_title_in_a_colour : drawn (titled_in color_r 0 across.Left (codes "Hey!") (1 ∷ 1 ∷ []) (with_rows bordered ((codes "a" ∷ codes "b" ∷ []) ∷ [])))
    ≡ joined (codes "+<r>H</r><r>e</r><r>y</r>+" ∷ codes "|a|b|" ∷ codes "+-+-+" ∷ [])
unfolding table_words
a_cut_title_in_a_colour = refl

-- beside the title the line has no colour
a_caption_in_a_colour_at_the_right : drawn (titled_in color_r 1 across.Right (codes "ok") (3 ∷ []) boxed) ≡ joined (codes "+---+" ∷ codes "|abc|" ∷ codes "+-<r>o</r><r>k</r>+" ∷ [])
unfolding table_words
a_caption_in_a_colour_at_the_right = refl

-- ---- colours

-- of every second row from row 1 on the room beside its text has the colour
every_second_row_has_a_ground : drawn (with_rows (with_stripes 1 2 color_r 4 plain) ((codes "bb" ∷ []) ∷ (codes "a" ∷ []) ∷ (codes "c" ∷ []) ∷ (codes "d" ∷ []) ∷ []))
    ≡ joined (codes "bb" ∷ codes "a<r> </r>" ∷ codes "c " ∷ codes "d<r> </r>" ∷ [])
unfolding table_words
every_second_row_has_a_ground = refl

-- ---- markup

-- a bar is escaped, and the second column is at the right
abbrev right_of_second : Config
right_of_second = record plain { alignment_horizontal = with_setting (Column 1) across.Right plain.alignment_horizontal }

a_table_as_markdown : markdown_table right_of_second ((codes "a" ∷ codes "n" ∷ []) ∷ (codes "x|y" ∷ codes "5" ∷ []) ∷ []) 2
    ≡ codes "| a | n |\n| --- | ---: |\n| x\\|y | 5 |\n"
unfolding table_words
a_table_as_markdown = refl

-- `<` becomes a reference
a_table_as_html : html_table plain ((codes "a<b" ∷ codes "c" ∷ []) ∷ []) 2 ≡ codes "<table>\n<tr><td>a&lt;b</td><td>c</td></tr>\n</table>"
unfolding table_words
a_table_as_html = refl

-- ---- texts without escape sequences

-- a coloured word
a_coloured_word_is_shown : without_escapes (27 ∷ codes "[31mred" ++ 27 ∷ codes "[0m") ≡ codes "red"
unfolding table_words
a_coloured_word_is_shown = refl

-- `(` begins a short sequence, which `[` ends
a_short_sequence_ends_at_a_bracket : without_escapes (27 ∷ codes "([31m") ≡ codes "31m"
unfolding table_words
a_short_sequence_ends_at_a_bracket = refl

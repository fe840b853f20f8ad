-- Pictures, each worked out by hand: plain ones, and those with spans, margins and crossings.
use Rattle.std.proofs.Common.{◌≡◌, ℕ, List, [], ◌∷◌, ◌++◌, map, refl, Some, None, true}
use Rattle.std.specs.Prelude.{codes}
use Rattle.pg_layout.specs.declared.position.Entity.TheVariants.{Column}
use Rattle.pg_layout.specs.declared.sides.Indent.{Indent}
use Rattle.pg_layout.specs.declared.sides.Sides.{Sides}
use Rattle.pg_layout.specs.declared.alignment.AlignmentHorizontal.TheVariants as across
use Rattle.pg_layout.specs.declared.alignment.AlignmentVertical.TheVariants as down
use Rattle.pg_layout.specs.Borders.{no_borders, no_border}
use Rattle.pg_layout.specs.Position.{at}
use Rattle.pg_layout.specs.Text.{Text}
use Rattle.pg_config.specs.Config.{Config, filled}
use Rattle.pg_config.specs.Overrides.{with_border, no_overrides}
use Rattle.pg_config.specs.Settings.{with_setting}
use Rattle.pg_picture.specs.Table.{Hint, Known, Unknown, Table}
use Rattle.pg_picture.specs.Pieces.{joined, continued}
use Rattle.pg_picture.specs.Picture.{picture}
use Rattle.pg_picture.specs.Samples.{table, plain, bordered, indent, for_cell}
use Rattle.pg_picture.proofs.Computing.{grid_words}
use Rattle.pg_laws.specs.Samples.{grid22, one, spaced, for_all, numbered, color_g, color_b}
use Rattle.pg_config.specs.Spans.{with_column_span, with_row_span, Span}
use Rattle.pg_layout.specs.declared.sides.Offset.{Offset}
use Rattle.pg_layout.specs.declared.sides.Offset.TheVariants.{Start, End}
use Rattle.pg_layout.specs.declared.borders.Borders.{Borders}
use Rattle.pg_config.specs.Crossings.{span_crossing, with_crossings}

-- ---- pictures without spans and colours, each worked out by hand

abbrev one_column : List Text → List (List Text)
one_column texts = map (λ text. text ∷ []) texts

-- a top fill of `t` and a bottom fill of `b`, with so many lines of top padding
abbrev filled_with_t_and_b : ℕ → Sides Indent
filled_with_t_and_b top = record { left = indent 0 32; right = indent 0 32; top = indent top 116; bottom = indent 0 98 }

-- two ideographs, each two columns wide
abbrev wide_text : Text
wide_text = 230 ∷ 151 ∷ 165 ∷ 230 ∷ 156 ∷ 172 ∷ []

-- `─` ten times
abbrev ten_dashes : Text
ten_dashes = 226 ∷ 148 ∷ 128 ∷ 226 ∷ 148 ∷ 128 ∷ 226 ∷ 148 ∷ 128 ∷ 226 ∷ 148 ∷ 128 ∷ 226 ∷ 148 ∷ 128 ∷ 226 ∷ 148 ∷ 128 ∷ 226 ∷ 148 ∷ 128 ∷ 226 ∷ 148 ∷ 128 ∷ 226 ∷ 148 ∷ 128 ∷ 226 ∷ 148 ∷ 128 ∷ []

-- ---- borders

no_rows_make_no_picture : (hint : Hint) (config : Config) (columns : ℕ) (widths : List ℕ) → picture hint (table config 0 columns widths [] []) ≡ []
unfolding grid_words
no_rows_make_no_picture hint config columns widths = refl

no_columns_make_no_picture : (hint : Hint) (config : Config) (heights : List ℕ) → picture hint (table config 2 0 [] heights []) ≡ []
unfolding grid_words
no_columns_make_no_picture hint config heights = refl

no_size_leaves_the_corners : picture Known (table bordered 1 1 (0 ∷ []) (0 ∷ []) (one [])) ≡ joined (codes "++" ∷ codes "++" ∷ [])
unfolding grid_words
no_size_leaves_the_corners = refl

no_sizes_leave_the_crossings : picture Known (table bordered 2 2 [] [] grid22) ≡ joined (codes "+++" ∷ codes "+++" ∷ codes "+++" ∷ [])
unfolding grid_words
no_sizes_leave_the_crossings = refl

a_top_and_a_bottom_stand_round_no_line : picture Known (table (record plain { borders = record no_borders { top = Some 0x2500; bottom = Some 0x2500; top_left = Some 0x250C; top_right = Some 0x2510; bottom_left = Some 0x2514; bottom_right = Some 0x2518 } }) 1 1 (10 ∷ []) (0 ∷ []) (one []))
    ≡ joined ((226 ∷ 148 ∷ 140 ∷ (ten_dashes ++ 226 ∷ 148 ∷ 144 ∷ [])) ∷ (226 ∷ 148 ∷ 148 ∷ (ten_dashes ++ 226 ∷ 148 ∷ 152 ∷ [])) ∷ [])
unfolding grid_words
a_top_and_a_bottom_stand_round_no_line = refl

-- here with each line feed written out
a_bordered_table_of_two_rows_and_columns : picture Known (table bordered 2 2 (3 ∷ 3 ∷ []) (1 ∷ 1 ∷ []) grid22)
    ≡ codes "+---+---+" ++ 10 ∷ codes "|0-0|0-1|" ++ 10 ∷ codes "+---+---+" ++ 10 ∷ codes "|1-0|1-1|" ++ 10 ∷ codes "+---+---+"
unfolding grid_words
a_bordered_table_of_two_rows_and_columns = refl

-- a line that follows others comes after a line feed
continued_lines_follow_a_feed : continued 0 (codes "a" ∷ codes "b" ∷ []) ≡ codes "a" ++ 10 ∷ codes "b"
unfolding grid_words
continued_lines_follow_a_feed = refl

continued_lines_after_one : continued 1 (codes "a" ∷ codes "b" ∷ []) ≡ 10 ∷ codes "a" ++ 10 ∷ codes "b"
unfolding grid_words
continued_lines_after_one = refl

a_carriage_return_takes_a_column : picture Known (table bordered 2 2 (3 ∷ 9 ∷ []) (1 ∷ 1 ∷ []) ((codes "0-0" ∷ (codes "123" ++ 13 ∷ 13 ∷ 13 ∷ codes "567") ∷ []) ∷ (codes "1-0" ∷ codes "12345678" ∷ []) ∷ []))
    ≡ joined (codes "+---+---------+" ∷ (codes "|0-0|123" ++ 13 ∷ 13 ∷ 13 ∷ codes "567|") ∷ codes "+---+---------+" ∷ codes "|1-0|12345678 |" ∷ codes "+---+---------+" ∷ [])
unfolding grid_words
a_carriage_return_takes_a_column = refl

a_border_overrides_the_places_round_its_cell : picture Known (table (record bordered { overrides = with_border (at 0 1) (record { top = Some 42; bottom = Some 94; left = Some 64; right = Some 35; top_left = Some 126; top_right = Some 33; bottom_left = Some 37; bottom_right = Some 38 }) no_overrides }) 2 2 (3 ∷ 3 ∷ []) (1 ∷ 1 ∷ []) grid22)
    ≡ joined (codes "+---~***!" ∷ codes "|0-0@0-1#" ∷ codes "+---%^^^&" ∷ codes "|1-0|1-1|" ∷ codes "+---+---+" ∷ [])
unfolding grid_words
a_border_overrides_the_places_round_its_cell = refl

an_override_makes_its_line : picture Known (table (record plain { borders = record no_borders { vertical = Some 32 }; overrides = with_border (at 1 1) (record no_border { top = Some 42 }) no_overrides }) 2 2 (3 ∷ 3 ∷ []) (1 ∷ 1 ∷ []) grid22)
    ≡ joined (codes "0-0 0-1" ∷ codes "    ***" ∷ codes "1-0 1-1" ∷ [])
unfolding grid_words
an_override_makes_its_line = refl

an_override_past_the_columns_makes_its_line : picture Known (table (record plain { overrides = with_border (at 0 5) (record no_border { top = Some 42 }) no_overrides }) 1 1 (2 ∷ []) (1 ∷ []) (one (codes "ab")))
    ≡ joined (codes "  " ∷ codes "ab" ∷ [])
unfolding grid_words
an_override_past_the_columns_makes_its_line = refl

an_override_below_the_last_row_makes_the_last_line : picture Known (table (record plain { overrides = with_border (at 1 0) (record no_border { top = Some 42 }) no_overrides }) 1 1 (2 ∷ []) (1 ∷ []) (one (codes "ab")))
    ≡ joined (codes "ab" ∷ codes "**" ∷ [])
unfolding grid_words
an_override_below_the_last_row_makes_the_last_line = refl

a_corner_alone_makes_its_lines : picture Known (table (record plain { borders = record no_borders { top_left = Some 42 } }) 1 1 (1 ∷ []) (1 ∷ []) (one (codes "a")))
    ≡ joined (codes "* " ∷ codes " a" ∷ [])
unfolding grid_words
a_corner_alone_makes_its_lines = refl

no_missing_glyph_leaves_a_corner_alone : picture Known (table (record plain { missing = None; borders = record no_borders { top_left = Some 42 } }) 1 1 (1 ∷ []) (1 ∷ []) (one (codes "a")))
    ≡ joined (codes "* " ∷ codes "a" ∷ [])
unfolding grid_words
no_missing_glyph_leaves_a_corner_alone = refl

another_missing_glyph_stands_where_a_line_is : picture Known (table (record plain { missing = Some 46; borders = record no_borders { vertical = Some 124; horizontal = Some 45 } }) 2 2 (1 ∷ 1 ∷ []) (1 ∷ 1 ∷ []) ((codes "a" ∷ codes "b" ∷ []) ∷ (codes "c" ∷ codes "d" ∷ []) ∷ []))
    ≡ joined (codes "a|b" ∷ codes "-.-" ∷ codes "c|d" ∷ [])
unfolding grid_words
another_missing_glyph_stands_where_a_line_is = refl

-- ---- rows of height 0

a_row_of_height_0_is_skipped : picture Known (table plain 3 1 (1 ∷ []) (1 ∷ 0 ∷ 1 ∷ []) (one_column (codes "a" ∷ codes "b" ∷ codes "c" ∷ [])))
    ≡ joined (codes "a" ∷ codes "c" ∷ [])
unfolding grid_words
a_row_of_height_0_is_skipped = refl

a_last_row_of_height_0_leaves_no_feed : picture Unknown (table plain 2 1 (1 ∷ []) (1 ∷ 0 ∷ []) (one_column (codes "a" ∷ codes "b" ∷ [])))
    ≡ codes "a"
unfolding grid_words
a_last_row_of_height_0_leaves_no_feed = refl

a_cell_of_height_0_shows_nothing : picture Known (table (record bordered { padding = for_all (filled (indent 2 32)) }) 1 1 [] [] (one (codes "abc")))
    ≡ joined (codes "++" ∷ codes "++" ∷ [])
unfolding grid_words
a_cell_of_height_0_shows_nothing = refl

no_line_and_no_border_make_no_text : picture Known (table plain 1 1 (2 ∷ []) (0 ∷ []) (one [])) ≡ []
unfolding grid_words
no_line_and_no_border_make_no_text = refl

-- ---- from left to right

a_left_text : picture Known (table plain 1 1 (5 ∷ []) (1 ∷ []) (one (codes "ab"))) ≡ codes "ab   "
unfolding grid_words
a_left_text = refl

a_centred_text_has_the_odd_space_at_its_right : picture Known (table (record plain { alignment_horizontal = for_all across.Center }) 1 1 (5 ∷ []) (1 ∷ []) (one (codes "ab")))
    ≡ codes " ab  "
unfolding grid_words
a_centred_text_has_the_odd_space_at_its_right = refl

a_right_text : picture Known (table (record plain { alignment_horizontal = for_all across.Right }) 1 1 (5 ∷ []) (1 ∷ []) (one (codes "ab")))
    ≡ codes "   ab"
unfolding grid_words
a_right_text = refl

a_wide_text_at_the_left : picture Known (table plain 1 1 (5 ∷ []) (1 ∷ []) (one wide_text)) ≡ wide_text ++ codes " "
unfolding grid_words
a_wide_text_at_the_left = refl

a_wide_text_at_the_centre : picture Known (table (record plain { alignment_horizontal = for_all across.Center }) 1 1 (5 ∷ []) (1 ∷ []) (one wide_text)) ≡ wide_text ++ codes " "
unfolding grid_words
a_wide_text_at_the_centre = refl

a_wide_text_at_the_right : picture Known (table (record plain { alignment_horizontal = for_all across.Right }) 1 1 (5 ∷ []) (1 ∷ []) (one wide_text)) ≡ codes " " ++ wide_text
unfolding grid_words
a_wide_text_at_the_right = refl

lines_are_aligned_together : picture Known (table (record plain { alignment_horizontal = for_all across.Right }) 1 1 (5 ∷ []) (2 ∷ []) (one (codes "a" ++ 10 ∷ codes "bbb")))
    ≡ joined (codes "  a  " ∷ codes "  bbb" ∷ [])
unfolding grid_words
lines_are_aligned_together = refl

lines_are_aligned_one_by_one : picture Known (table (record plain { alignment_horizontal = for_all across.Right; line_alignment = for_all true }) 1 1 (5 ∷ []) (2 ∷ []) (one (codes "a" ++ 10 ∷ codes "bbb")))
    ≡ joined (codes "    a" ∷ codes "  bbb" ∷ [])
unfolding grid_words
lines_are_aligned_one_by_one = refl

a_line_that_is_cut_off_counts_in_the_widest : picture Known (table (record plain { alignment_horizontal = for_all across.Right }) 1 1 (3 ∷ []) (1 ∷ []) (one (codes "a" ++ 10 ∷ codes "bbb")))
    ≡ codes "a  "
unfolding grid_words
a_line_that_is_cut_off_counts_in_the_widest = refl

-- ---- from top to bottom

abbrev short_text : Text
short_text = codes "a" ++ 10 ∷ codes "b"

a_text_at_the_top : picture Known (table plain 1 1 (1 ∷ []) (5 ∷ []) (one short_text))
    ≡ joined (codes "a" ∷ codes "b" ∷ codes " " ∷ codes " " ∷ codes " " ∷ [])
unfolding grid_words
a_text_at_the_top = refl

a_text_at_the_middle_has_the_odd_line_below : picture Known (table (record plain { alignment_vertical = for_all down.Center }) 1 1 (1 ∷ []) (5 ∷ []) (one short_text))
    ≡ joined (codes " " ∷ codes "a" ∷ codes "b" ∷ codes " " ∷ codes " " ∷ [])
unfolding grid_words
a_text_at_the_middle_has_the_odd_line_below = refl

a_text_at_the_bottom : picture Known (table (record plain { alignment_vertical = for_all down.Bottom }) 1 1 (1 ∷ []) (5 ∷ []) (one short_text))
    ≡ joined (codes " " ∷ codes " " ∷ codes " " ∷ codes "a" ∷ codes "b" ∷ [])
unfolding grid_words
a_text_at_the_bottom = refl

abbrev long_text : Text
long_text = codes "1" ++ 10 ∷ codes "2" ++ 10 ∷ codes "3"

lines_past_the_height_are_cut_at_the_bottom : picture Known (table (record plain { alignment_vertical = for_all down.Bottom; padding = for_all (spaced 0 0 1 0) }) 1 1 (1 ∷ []) (2 ∷ []) (one long_text))
    ≡ joined (codes " " ∷ codes "1" ∷ [])
unfolding grid_words
lines_past_the_height_are_cut_at_the_bottom = refl

lines_past_the_height_are_cut_at_the_middle : picture Known (table (record plain { alignment_vertical = for_all down.Center; padding = for_all (spaced 0 0 1 0) }) 1 1 (1 ∷ []) (2 ∷ []) (one long_text))
    ≡ joined (codes " " ∷ codes "1" ∷ [])
unfolding grid_words
lines_past_the_height_are_cut_at_the_middle = refl

lines_past_the_height_are_cut_at_the_top : picture Known (table (record plain { padding = for_all (spaced 0 0 1 0) }) 1 1 (1 ∷ []) (2 ∷ []) (one long_text))
    ≡ joined (codes " " ∷ codes "1" ∷ [])
unfolding grid_words
lines_past_the_height_are_cut_at_the_top = refl

-- ---- paddings

paddings_by_column : picture Known (table (record bordered { padding = with_setting (Column 0) (filled (indent 0 32)) (for_all (filled (indent 1 32))) }) 2 2 (3 ∷ 5 ∷ []) (3 ∷ 3 ∷ []) grid22)
    ≡ joined (codes "+---+-----+" ∷ codes "|0-0|     |" ∷ codes "|   | 0-1 |" ∷ codes "|   |     |" ∷ codes "+---+-----+" ∷ codes "|1-0|     |" ∷ codes "|   | 1-1 |" ∷ codes "|   |     |" ∷ codes "+---+-----+" ∷ [])
unfolding grid_words
paddings_by_column = refl

a_text_between_its_paddings : picture Known (table (record plain { alignment_horizontal = for_all across.Center; alignment_vertical = for_all down.Bottom; padding = for_all (spaced 1 1 1 0) }) 1 1 (6 ∷ []) (3 ∷ []) (one (codes "ab")))
    ≡ joined (codes "      " ∷ codes "      " ∷ codes "  ab  " ∷ [])
unfolding grid_words
a_text_between_its_paddings = refl

top_padding_leaves_no_line_for_the_text : picture Unknown (table (record plain { padding = for_all (filled_with_t_and_b 1) }) 1 1 (2 ∷ []) (1 ∷ []) (one (codes "ab")))
    ≡ codes "tt"
unfolding grid_words
top_padding_leaves_no_line_for_the_text = refl

a_padding_of_wide_characters : picture Unknown (table (record plain { padding = for_all (record { left = indent 1 0x65E5; right = indent 0 32; top = indent 0 32; bottom = indent 0 32 }) }) 1 1 (2 ∷ []) (1 ∷ []) (one (codes "a")))
    ≡ 230 ∷ 151 ∷ 165 ∷ 97 ∷ []
unfolding grid_words
a_padding_of_wide_characters = refl

a_fill_line_has_no_side_paddings : picture Known (table (record plain { justification = for_all 95; padding = for_all (record { left = indent 1 46; right = indent 1 46; top = indent 1 116; bottom = indent 1 98 }) }) 1 1 (5 ∷ []) (3 ∷ []) (one (codes "ab")))
    ≡ joined (codes "ttttt" ∷ codes ".ab_." ∷ codes "bbbbb" ∷ [])
unfolding grid_words
a_fill_line_has_no_side_paddings = refl

-- bottom padding takes no line from the text
bottom_padding_gives_way : picture Known (table (record plain { padding = for_all (spaced 0 0 0 9) }) 1 1 (1 ∷ []) (2 ∷ []) (one short_text))
    ≡ joined (codes "a" ∷ codes "b" ∷ [])
unfolding grid_words
bottom_padding_gives_way = refl

-- ---- trims

a_blank_text_shows_no_line_under_vertical_trim : picture Known (table (record plain { trim_vertical = for_all true; alignment_vertical = for_all down.Center; padding = for_all (filled_with_t_and_b 0) }) 1 1 (2 ∷ []) (3 ∷ []) (one (10 ∷ 10 ∷ [])))
    ≡ joined (codes "tt" ∷ codes "bb" ∷ codes "bb" ∷ [])
unfolding grid_words
a_blank_text_shows_no_line_under_vertical_trim = refl

a_blank_text_at_the_top_of_one_line : picture Unknown (table (record plain { padding = for_all (filled_with_t_and_b 0); trim_vertical = for_all true }) 1 1 (2 ∷ []) (1 ∷ []) (one (10 ∷ [])))
    ≡ codes "bb"
unfolding grid_words
a_blank_text_at_the_top_of_one_line = refl

a_blank_text_at_the_middle_of_one_line : picture Unknown (table (record plain { padding = for_all (filled_with_t_and_b 0); trim_vertical = for_all true; alignment_vertical = for_all down.Center }) 1 1 (2 ∷ []) (1 ∷ []) (one (10 ∷ [])))
    ≡ codes "bb"
unfolding grid_words
a_blank_text_at_the_middle_of_one_line = refl

a_blank_text_at_the_bottom_of_one_line : picture Unknown (table (record plain { padding = for_all (filled_with_t_and_b 0); trim_vertical = for_all true; alignment_vertical = for_all down.Bottom }) 1 1 (2 ∷ []) (1 ∷ []) (one (10 ∷ [])))
    ≡ codes "tt"
unfolding grid_words
a_blank_text_at_the_bottom_of_one_line = refl

both_trims_at_the_bottom_right : picture Known (table (record plain { trim_vertical = for_all true; trim_horizontal = for_all true; alignment_vertical = for_all down.Bottom; alignment_horizontal = for_all across.Right }) 1 1 (4 ∷ []) (3 ∷ []) (one (codes " " ++ 10 ∷ codes "  ab " ++ 10 ∷ 10 ∷ [])))
    ≡ joined (codes "    " ∷ codes "    " ∷ codes "  ab" ∷ [])
unfolding grid_words
both_trims_at_the_bottom_right = refl

horizontal_trim_narrows_the_widest_line : picture Known (table (record plain { trim_horizontal = for_all true; alignment_horizontal = for_all across.Center }) 1 1 (4 ∷ []) (2 ∷ []) (one (codes " a " ++ 10 ∷ codes " bbb ")))
    ≡ joined (codes "a   " ∷ codes "bbb " ∷ [])
unfolding grid_words
horizontal_trim_narrows_the_widest_line = refl

trimmed_lines_are_aligned_one_by_one : picture Known (table (record plain { trim_horizontal = for_all true; line_alignment = for_all true; alignment_horizontal = for_all across.Center }) 1 1 (4 ∷ []) (2 ∷ []) (one (codes " a " ++ 10 ∷ codes " bbb ")))
    ≡ joined (codes " a  " ∷ codes "bbb " ∷ [])
unfolding grid_words
trimmed_lines_are_aligned_one_by_one = refl

a_line_that_is_trimmed_away_counts_in_the_widest : picture Known (table (record plain { trim_vertical = for_all true; alignment_horizontal = for_all across.Right }) 1 1 (3 ∷ []) (1 ∷ []) (one (codes "   " ++ 10 ∷ codes "a")))
    ≡ codes "a  "
unfolding grid_words
a_line_that_is_trimmed_away_counts_in_the_widest = refl

vertical_trim_shows_the_first_line_that_is_not_blank : picture Unknown (table (record plain { trim_vertical = for_all true }) 1 1 (2 ∷ []) (1 ∷ []) (one (10 ∷ codes "ab" ++ 10 ∷ codes "cd")))
    ≡ codes "ab"
unfolding grid_words
vertical_trim_shows_the_first_line_that_is_not_blank = refl

a_blank_first_line_is_shown_without_trim : picture Unknown (table plain 1 1 (2 ∷ []) (1 ∷ []) (one (10 ∷ codes "ab" ++ 10 ∷ codes "cd")))
    ≡ codes "  "
unfolding grid_words
a_blank_first_line_is_shown_without_trim = refl

vertical_trim_keeps_blank_lines_inside : picture Known (table (record plain { trim_vertical = for_all true }) 1 1 (1 ∷ []) (4 ∷ []) (one (10 ∷ codes "a" ++ 10 ∷ 10 ∷ codes "b" ++ 10 ∷ [])))
    ≡ joined (codes "a" ∷ codes " " ∷ codes "b" ∷ codes " " ∷ [])
unfolding grid_words
vertical_trim_keeps_blank_lines_inside = refl

-- ---- natural sizes: the greatest width of a column, the greatest number of lines of a row

natural_sizes : picture Known (table bordered 2 2 (3 ∷ 1 ∷ []) (2 ∷ 1 ∷ []) ((codes "a" ∷ (codes "b" ++ 10 ∷ codes "c") ∷ []) ∷ (codes "ddd" ∷ codes " " ∷ []) ∷ []))
    ≡ joined (codes "+---+-+" ∷ codes "|a  |b|" ∷ codes "|   |c|" ∷ codes "+---+-+" ∷ codes "|ddd| |" ∷ codes "+---+-+" ∷ [])
unfolding grid_words
natural_sizes = refl

natural_sizes_with_paddings : picture Known (table (record bordered { padding = for_all (record { left = indent 1 32; right = indent 1 32; top = indent 1 42; bottom = indent 0 32 }) }) 1 1 (3 ∷ []) (2 ∷ []) (one (codes "a")))
    ≡ joined (codes "+---+" ∷ codes "|***|" ∷ codes "| a |" ∷ codes "+---+" ∷ [])
unfolding grid_words
natural_sizes_with_paddings = refl

natural_sizes_at_the_right : picture Known (table (record bordered { alignment_horizontal = for_all across.Right }) 2 1 (3 ∷ []) (1 ∷ 1 ∷ []) (one_column (codes "a" ∷ codes "ddd" ∷ [])))
    ≡ joined (codes "+---+" ∷ codes "|  a|" ∷ codes "+---+" ∷ codes "|ddd|" ∷ codes "+---+" ∷ [])
unfolding grid_words
natural_sizes_at_the_right = refl

natural_sizes_of_one_cell : picture Known (table bordered 1 1 (2 ∷ []) (1 ∷ []) (one (codes "ab"))) ≡ joined (codes "+--+" ∷ codes "|ab|" ∷ codes "+--+" ∷ [])
unfolding grid_words
natural_sizes_of_one_cell = refl

-- ---- pictures with spans, each worked out by hand

-- a first column whose one cell spans all three rows, beside three texts
abbrev beside_a_b_c : Text → List (List Text)
beside_a_b_c text = (text ∷ codes "a" ∷ []) ∷ ([] ∷ codes "b" ∷ []) ∷ ([] ∷ codes "c" ∷ []) ∷ []

row_and_column_spans_with_paddings : picture Known (table (record bordered { spans = with_column_span (at 1 1) 3 (with_row_span (at 0 0) 2 []); alignment_vertical = for_all down.Center; alignment_horizontal = for_cell 1 0 across.Center; padding = for_cell 0 0 (spaced 4 4 1 1) }) 2 4 (17 ∷ 12 ∷ 16 ∷ 1 ∷ []) (1 ∷ 1 ∷ []) ((codes "Papergrid" ∷ codes "is a library" ∷ codes "for print tables" ∷ codes "!" ∷ []) ∷ ([] ∷ codes "Just like this" ∷ [] ∷ [] ∷ []) ∷ []))
    ≡ joined (codes "+-----------------+------------+----------------+-+" ∷ codes "|                 |is a library|for print tables|!|" ∷ codes "+    Papergrid    +------------+----------------+-+" ∷ codes "|                 |Just like this                 |" ∷ codes "+-----------------+------------+----------------+-+" ∷ [])
unfolding grid_words
row_and_column_spans_with_paddings = refl

row_spans_of_rows_of_height_0 : picture Known (table (record bordered { spans = with_row_span (at 0 2) 2 (with_row_span (at 0 1) 2 (with_row_span (at 0 0) 3 [])) }) 3 3 (3 ∷ 3 ∷ 3 ∷ []) (0 ∷ 0 ∷ 1 ∷ []) (numbered 3 3))
    ≡ joined (codes "+---+---+---+" ∷ codes "+0-0+0-1+0-2+" ∷ codes "+   +---+---+" ∷ codes "|   |2-1|2-2|" ∷ codes "+---+---+---+" ∷ [])
unfolding grid_words
row_spans_of_rows_of_height_0 = refl

a_rectangle_inside_a_table : picture Known (table (record bordered { spans = with_row_span (at 1 1) 2 (with_column_span (at 1 1) 2 []); alignment_vertical = for_cell 1 1 down.Center; alignment_horizontal = for_cell 1 1 across.Center }) 4 4 (3 ∷ 3 ∷ 3 ∷ 3 ∷ []) (1 ∷ 2 ∷ 1 ∷ 1 ∷ [])
    ((codes "0-0" ∷ codes "0-1" ∷ codes "0-2" ∷ codes "0-3" ∷ []) ∷ (codes "1-0" ∷ (codes "123" ++ 10 ∷ codes "345" ++ 10 ∷ codes "555" ++ 10 ∷ codes "333") ∷ codes "1-2" ∷ codes "1-3" ∷ []) ∷ (codes "2-0" ∷ codes "2-1" ∷ codes "2-2" ∷ codes "2-3" ∷ []) ∷ (codes "3-0" ∷ codes "3-1" ∷ codes "3-2" ∷ codes "3-3" ∷ []) ∷ []))
    ≡ joined (codes "+---+---+---+---+" ∷ codes "|0-0|0-1|0-2|0-3|" ∷ codes "+---+---+---+---+" ∷ codes "|1-0|  123  |1-3|" ∷ codes "|   |  345  |   |" ∷ codes "+---+  555  +---+" ∷ codes "|2-0|  333  |2-3|" ∷ codes "+---+---+---+---+" ∷ codes "|3-0|3-1|3-2|3-3|" ∷ codes "+---+---+---+---+" ∷ [])
unfolding grid_words
a_rectangle_inside_a_table = refl

column_spans_leave_separators_whole : picture Known (table (record bordered { spans = with_column_span (at 2 0) 3 (with_column_span (at 1 0) 3 (with_column_span (at 0 0) 3 [])) }) 3 4 (1 ∷ 0 ∷ 0 ∷ 3 ∷ []) (1 ∷ 1 ∷ 1 ∷ []) (numbered 3 4))
    ≡ joined (codes "+-+++---+" ∷ codes "|0-0|0-3|" ∷ codes "+-+++---+" ∷ codes "|1-0|1-3|" ∷ codes "+-+++---+" ∷ codes "|2-0|2-3|" ∷ codes "+-+++---+" ∷ [])
unfolding grid_words
column_spans_leave_separators_whole = refl

row_span_goes_through_separators : picture Known (table (record bordered { spans = with_row_span (at 0 0) 3 [] }) 3 2 (1 ∷ 1 ∷ []) (1 ∷ 0 ∷ 1 ∷ []) (beside_a_b_c (codes "x")))
    ≡ joined (codes "+-+-+" ∷ codes "|x|a|" ∷ codes "+ +-+" ∷ codes "+ +-+" ∷ codes "| |c|" ∷ codes "+-+-+" ∷ [])
unfolding grid_words
row_span_goes_through_separators = refl

a_text_stands_on_a_separator : picture Known (table (record bordered { spans = with_row_span (at 0 0) 2 []; alignment_vertical = for_cell 0 0 down.Center }) 2 2 (3 ∷ 3 ∷ []) (1 ∷ 1 ∷ []) grid22)
    ≡ joined (codes "+---+---+" ∷ codes "|   |0-1|" ∷ codes "+0-0+---+" ∷ codes "|   |1-1|" ∷ codes "+---+---+" ∷ [])
unfolding grid_words
a_text_stands_on_a_separator = refl

a_row_span_at_the_top : picture Known (table (record bordered { spans = with_row_span (at 0 0) 2 [] }) 2 2 (3 ∷ 3 ∷ []) (1 ∷ 1 ∷ []) grid22)
    ≡ joined (codes "+---+---+" ∷ codes "|0-0|0-1|" ∷ codes "+   +---+" ∷ codes "|   |1-1|" ∷ codes "+---+---+" ∷ [])
unfolding grid_words
a_row_span_at_the_top = refl

a_row_span_at_the_bottom : picture Known (table (record bordered { spans = with_row_span (at 0 0) 2 []; alignment_vertical = for_cell 0 0 down.Bottom }) 2 2 (3 ∷ 3 ∷ []) (1 ∷ 1 ∷ []) grid22)
    ≡ joined (codes "+---+---+" ∷ codes "|   |0-1|" ∷ codes "+   +---+" ∷ codes "|0-0|1-1|" ∷ codes "+---+---+" ∷ [])
unfolding grid_words
a_row_span_at_the_bottom = refl

a_row_span_without_borders : picture Known (table (record plain { spans = with_row_span (at 0 0) 2 []; alignment_vertical = for_cell 0 0 down.Center }) 2 2 (1 ∷ 3 ∷ []) (2 ∷ 1 ∷ []) (((codes "1" ++ 10 ∷ codes "2" ++ 10 ∷ codes "3") ∷ codes "0-1" ∷ []) ∷ (codes "1-0" ∷ codes "1-1" ∷ []) ∷ []))
    ≡ joined (codes "10-1" ∷ codes "2   " ∷ codes "31-1" ∷ [])
unfolding grid_words
a_row_span_without_borders = refl

-- only the first and the last line are there, so three rows of height 1 make a rectangle of three lines
a_row_span_between_a_top_and_a_bottom : picture Unknown (table (record plain { borders = record no_borders { top = Some 61; bottom = Some 61 }; spans = with_row_span (at 0 0) 3 []; alignment_vertical = for_cell 0 0 down.Bottom }) 3 2 (1 ∷ 1 ∷ []) (1 ∷ 1 ∷ 1 ∷ []) (beside_a_b_c (codes "x")))
    ≡ joined (codes "==" ∷ codes " a" ∷ codes " b" ∷ codes "xc" ∷ codes "==" ∷ [])
unfolding grid_words
a_row_span_between_a_top_and_a_bottom = refl

a_row_span_goes_on_past_a_row_of_height_0 : picture Unknown (table (record plain { spans = with_row_span (at 0 0) 3 [] }) 3 2 (1 ∷ 1 ∷ []) (1 ∷ 0 ∷ 1 ∷ []) (beside_a_b_c (codes "x" ++ 10 ∷ codes "y")))
    ≡ joined (codes "xa" ∷ codes "yc" ∷ [])
unfolding grid_words
a_row_span_goes_on_past_a_row_of_height_0 = refl

a_row_span_begins_in_a_row_of_height_0 : picture Unknown (table (record plain { spans = with_row_span (at 0 0) 2 [] }) 2 2 (1 ∷ 1 ∷ []) (0 ∷ 1 ∷ []) ((codes "x" ∷ codes "a" ∷ []) ∷ ([] ∷ codes "b" ∷ []) ∷ []))
    ≡ codes "xb"
unfolding grid_words
a_row_span_begins_in_a_row_of_height_0 = refl

-- two rows of height 0 and the separator between them
a_row_span_of_one_separator : picture Known (table (record bordered { spans = with_row_span (at 0 0) 2 [] }) 2 1 (1 ∷ []) [] ((codes "x" ∷ []) ∷ ([] ∷ []) ∷ []))
    ≡ joined (codes "+-+" ∷ codes "+x+" ∷ codes "+-+" ∷ [])
unfolding grid_words
a_row_span_of_one_separator = refl

a_rectangle_that_is_the_whole_table : picture Unknown (table (record bordered { spans = with_column_span (at 0 0) 3 (with_row_span (at 0 0) 3 []); alignment_vertical = for_cell 0 0 down.Center; alignment_horizontal = for_cell 0 0 across.Center }) 3 3 (1 ∷ 1 ∷ 1 ∷ []) (1 ∷ 1 ∷ 1 ∷ []) ((codes "x" ∷ [] ∷ [] ∷ []) ∷ ([] ∷ [] ∷ [] ∷ []) ∷ ([] ∷ [] ∷ [] ∷ []) ∷ []))
    ≡ joined (codes "+-+-+-+" ∷ codes "|     |" ∷ codes "+     +" ∷ codes "|  x  |" ∷ codes "+     +" ∷ codes "|     |" ∷ codes "+-+-+-+" ∷ [])
unfolding grid_words
a_rectangle_that_is_the_whole_table = refl

a_rectangle_of_no_line_shows_nothing : picture Unknown (table (record plain { spans = with_row_span (at 1 0) 2 []; padding = for_cell 1 0 (filled (indent 9 32)) }) 3 1 (1 ∷ []) (1 ∷ []) ((codes "a" ∷ []) ∷ (codes "b" ∷ []) ∷ (codes "c" ∷ []) ∷ []))
    ≡ codes "a"
unfolding grid_words
a_rectangle_of_no_line_shows_nothing = refl

a_span_of_1_takes_a_span_of_0_away : picture Known (table (record plain { spans = with_column_span (at 0 0) 1 (with_row_span (at 0 0) 1 (with_column_span (at 0 0) 1 (with_row_span (at 0 0) 0 []))) }) 2 1 (1 ∷ []) (1 ∷ 1 ∷ []) (([] ∷ []) ∷ ([] ∷ []) ∷ []))
    ≡ joined (codes " " ∷ codes " " ∷ [])
unfolding grid_words
a_span_of_1_takes_a_span_of_0_away = refl

-- ---- pictures with margins, each worked out by hand

-- a top and a bottom margin of `^` and `v`
abbrev above_and_below : ℕ → ℕ → Sides Indent
above_and_below top bottom = record { left = indent 0 32; right = indent 0 32; top = indent top 94; bottom = indent bottom 118 }

-- a bordered cell, with a left margin of `#` that begins or ends as said
abbrev beside_a_margin : Offset → Table
beside_a_margin offset = table (record bordered { margin = record { left = indent 1 35; right = indent 0 32; top = indent 0 32; bottom = indent 0 32 }; margin_offset = record { left = offset; right = Start 0; top = Start 0; bottom = Start 0 } }) 1 1 (2 ∷ []) (1 ∷ []) (one (codes "ab"))

a_side_margin_begins_after_its_first_lines : picture Known (beside_a_margin (Start 1)) ≡ joined (codes " +--+" ∷ codes "#|ab|" ∷ codes "#+--+" ∷ [])
unfolding grid_words
a_side_margin_begins_after_its_first_lines = refl

-- what is counted from the start needs no number of lines
a_side_margin_begins_likewise_where_the_height_is_unknown : picture Unknown (beside_a_margin (Start 1)) ≡ joined (codes " +--+" ∷ codes "#|ab|" ∷ codes "#+--+" ∷ [])
unfolding grid_words
a_side_margin_begins_likewise_where_the_height_is_unknown = refl

a_side_margin_ends_before_the_last_lines : picture Known (beside_a_margin (End 1)) ≡ joined (codes "#+--+" ∷ codes "#|ab|" ∷ codes " +--+" ∷ [])
unfolding grid_words
a_side_margin_ends_before_the_last_lines = refl

a_side_margin_is_whole_where_the_height_is_unknown : picture Unknown (beside_a_margin (End 1)) ≡ joined (codes "#+--+" ∷ codes "#|ab|" ∷ codes "#+--+" ∷ [])
unfolding grid_words
a_side_margin_is_whole_where_the_height_is_unknown = refl

a_side_margin_without_offset : picture Known (beside_a_margin (Start 0)) ≡ joined (codes "#+--+" ∷ codes "#|ab|" ∷ codes "#+--+" ∷ [])
unfolding grid_words
a_side_margin_without_offset = refl

an_offset_past_the_height_leaves_no_side_margin : picture Known (beside_a_margin (End 9)) ≡ joined (codes " +--+" ∷ codes " |ab|" ∷ codes " +--+" ∷ [])
unfolding grid_words
an_offset_past_the_height_leaves_no_side_margin = refl

margins_stand_round_no_line : picture Known (table (record plain { margin = above_and_below 1 1 }) 1 1 (2 ∷ []) (0 ∷ []) (one []))
    ≡ joined (codes "^^" ∷ codes "vv" ∷ [])
unfolding grid_words
margins_stand_round_no_line = refl

margins_make_no_picture_without_rows : (hint : Hint) → picture hint (table (record bordered { margin = filled (indent 1 35) }) 0 2 [] [] []) ≡ []
unfolding grid_words
margins_make_no_picture_without_rows hint = refl

the_offset_of_a_margin_is_blank : picture Known (table (record plain { margin = above_and_below 1 1; margin_offset = record { left = Start 0; right = Start 0; top = Start 1; bottom = End 5 }; margin_color = record { left = None; right = None; top = Some color_g; bottom = None } }) 1 1 (2 ∷ []) (1 ∷ []) (one (codes "ab")))
    ≡ joined (codes " <g>^</g>" ∷ codes "ab" ∷ codes "  " ∷ [])
unfolding grid_words
the_offset_of_a_margin_is_blank = refl

a_margin_after_a_last_row_of_height_0 : picture Unknown (table (record plain { margin = above_and_below 0 1 }) 3 1 (1 ∷ []) (0 ∷ 1 ∷ 0 ∷ []) ((codes "a" ∷ []) ∷ (codes "b" ∷ []) ∷ (codes "c" ∷ []) ∷ []))
    ≡ joined (codes "b" ∷ codes "v" ∷ [])
unfolding grid_words
a_margin_after_a_last_row_of_height_0 = refl

-- the lines of the top margin aren't counted by the offsets of the sides, and separators are
margins_on_all_sides : picture Known (table (record bordered { margin = record { left = indent 2 60; right = indent 1 62; top = indent 1 94; bottom = indent 2 118 }; margin_offset = record { left = Start 1; right = End 1; top = Start 3; bottom = End 2 }; margin_color = record { left = Some color_g; right = None; top = None; bottom = Some color_b } }) 1 1 (2 ∷ []) (1 ∷ []) (one (codes "ab")))
    ≡ joined (codes "   ^^^^" ∷ codes "  +--+>" ∷ codes "<g><<</g>|ab|>" ∷ codes "<g><<</g>+--+ " ∷ codes "<b>vvvvv</b>  " ∷ codes "<b>vvvvv</b>  " ∷ [])
unfolding grid_words
margins_on_all_sides = refl

-- a column line without a glyph stands nowhere, and counts in the width
a_line_without_glyphs_widens_a_margin : picture Known (table (record plain { missing = None; borders = record no_borders { left_intersection = Some 42 }; margin = above_and_below 1 0 }) 1 1 (1 ∷ []) (1 ∷ []) (one (codes "a")))
    ≡ joined (codes "^^" ∷ codes "a" ∷ [])
unfolding grid_words
a_line_without_glyphs_widens_a_margin = refl

-- ---- tables whose crossings follow their merged cells, each worked out by hand: of every kind of crossing, of looks that lack glyphs, and of merged
-- cells that touch one another

-- a glyph of its own for each kind of place
--
-- 1-2-3
-- [ | ]
-- 4=5=6
-- [ | ]
-- 7_8_9
abbrev told_apart : Borders ℕ
told_apart = record {
  top = Some 45;
  top_left = Some 49;
  top_intersection = Some 50;
  top_right = Some 51;
  left_intersection = Some 52;
  horizontal = Some 61;
  intersection = Some 53;
  right_intersection = Some 54;
  bottom_left = Some 55;
  bottom = Some 95;
  bottom_intersection = Some 56;
  bottom_right = Some 57;
  left = Some 91;
  vertical = Some 124;
  right = Some 93;
}

-- a table of these borders and spans
abbrev told : Borders ℕ → List Span → Config
told b spans = record plain { borders = b; spans = spans }

-- the crossings on the edges of its merged cells, by the glyphs of these borders
abbrev crossed : ℕ → ℕ → Borders ℕ → Config → Config
crossed rows columns b config = record config { overrides = with_crossings rows columns (span_crossing config b rows columns) config.overrides }

-- all widths and heights are 1
abbrev drawn : ℕ → ℕ → List ℕ → List (List Text) → Config → Text
drawn rows columns ones texts config = picture Known (table config rows columns ones ones texts)

abbrev three : List ℕ
three = 1 ∷ 1 ∷ 1 ∷ []

-- a heading of three columns, and a total of two
abbrev headed : List (List Text)
headed = (codes "a" ∷ [] ∷ [] ∷ []) ∷ (codes "1" ∷ codes "2" ∷ codes "3" ∷ []) ∷ (codes "b" ∷ [] ∷ codes "c" ∷ []) ∷ []

abbrev heading_and_total : List Span
heading_and_total = with_column_span (at 2 0) 2 (with_column_span (at 0 0) 3 [])

before_any_crossing_is_told : drawn 3 3 three headed (told told_apart heading_and_total)
    ≡ joined (codes "1-2-2-3" ∷ codes "[a    ]" ∷ codes "4=5=5=6" ∷ codes "[1|2|3]" ∷ codes "4=5=5=6" ∷ codes "[b  |c]" ∷ codes "7_8_8_9" ∷ [])
unfolding grid_words
before_any_crossing_is_told = refl

below_a_heading_and_above_a_total : drawn 3 3 three headed (crossed 3 3 told_apart (told told_apart heading_and_total))
    ≡ joined (codes "1-----3" ∷ codes "[a    ]" ∷ codes "4=2=2=6" ∷ codes "[1|2|3]" ∷ codes "4=8=5=6" ∷ codes "[b  |c]" ∷ codes "7___8_9" ∷ [])
unfolding grid_words span_crossing with_crossings
below_a_heading_and_above_a_total = refl

-- a cell of all three rows at the left, and one of two rows at the right
abbrev at_both_sides : List (List Text)
at_both_sides = (codes "a" ∷ codes "x" ∷ codes "y" ∷ []) ∷ ([] ∷ codes "1" ∷ codes "b" ∷ []) ∷ ([] ∷ codes "2" ∷ [] ∷ []) ∷ []

beside_cells_of_several_rows : drawn 3 3 three at_both_sides (crossed 3 3 told_apart (told told_apart (with_row_span (at 1 2) 2 (with_row_span (at 0 0) 3 []))))
    ≡ joined (codes "1-2-2-3" ∷ codes "[a|x|y]" ∷ codes "[ 4=5=6" ∷ codes "[ |1|b]" ∷ codes "[ 4=6 ]" ∷ codes "[ |2| ]" ∷ codes "7_8_8_9" ∷ [])
unfolding grid_words span_crossing with_crossings
beside_cells_of_several_rows = refl

-- a cell of two rows and two columns in the midst: a crossing of each kind at its four sides
round_a_cell_in_the_midst : drawn 4 4 (1 ∷ three)
    ((codes "a" ∷ codes "b" ∷ codes "c" ∷ codes "d" ∷ []) ∷ (codes "e" ∷ codes "x" ∷ [] ∷ codes "f" ∷ []) ∷ (codes "g" ∷ [] ∷ [] ∷ codes "h" ∷ []) ∷ (codes "i" ∷ codes "j" ∷ codes "k" ∷ codes "l" ∷ []) ∷ [])
    (crossed 4 4 told_apart (told told_apart (with_row_span (at 1 1) 2 (with_column_span (at 1 1) 2 []))))
    ≡ joined (codes "1-2-2-2-3" ∷ codes "[a|b|c|d]" ∷ codes "4=5=8=5=6" ∷ codes "[e|x  |f]" ∷ codes "4=6   4=6" ∷ codes "[g|   |h]" ∷ codes "4=5=2=5=6" ∷ codes "[i|j|k|l]" ∷ codes "7_8_8_8_9" ∷ [])
unfolding grid_words span_crossing with_crossings
round_a_cell_in_the_midst = refl

-- two merged cells one above the other: the line between them goes on
one_above_the_other : drawn 2 2 (1 ∷ 1 ∷ []) ((codes "a" ∷ [] ∷ []) ∷ (codes "b" ∷ [] ∷ []) ∷ []) (crossed 2 2 told_apart (told told_apart (with_column_span (at 1 0) 2 (with_column_span (at 0 0) 2 []))))
    ≡ joined (codes "1---3" ∷ codes "[a  ]" ∷ codes "4===6" ∷ codes "[b  ]" ∷ codes "7___9" ∷ [])
unfolding grid_words span_crossing with_crossings
one_above_the_other = refl

-- and two side by side, beside a third column
side_by_side : drawn 2 3 three ((codes "a" ∷ codes "b" ∷ codes "c" ∷ []) ∷ ([] ∷ [] ∷ codes "d" ∷ []) ∷ []) (crossed 2 3 told_apart (told told_apart (with_row_span (at 0 1) 2 (with_row_span (at 0 0) 2 []))))
    ≡ joined (codes "1-2-2-3" ∷ codes "[a|b|c]" ∷ codes "[ | 4=6" ∷ codes "[ | |d]" ∷ codes "7_8_8_9" ∷ [])
unfolding grid_words span_crossing with_crossings
side_by_side = refl

-- a heading of three columns over one of two, and a cell of two rows below both
below_a_heading_of_headings : drawn 4 3 (1 ∷ three)
    ((codes "a" ∷ [] ∷ [] ∷ []) ∷ (codes "b" ∷ [] ∷ codes "c" ∷ []) ∷ (codes "d" ∷ codes "1" ∷ codes "2" ∷ []) ∷ ([] ∷ codes "3" ∷ codes "4" ∷ []) ∷ [])
    (crossed 4 3 told_apart (told told_apart (with_row_span (at 2 0) 2 (with_column_span (at 1 0) 2 (with_column_span (at 0 0) 3 [])))))
    ≡ joined (codes "1-----3" ∷ codes "[a    ]" ∷ codes "4===2=6" ∷ codes "[b  |c]" ∷ codes "4=2=5=6" ∷ codes "[d|1|2]" ∷ codes "[ 4=5=6" ∷ codes "[ |3|4]" ∷ codes "7_8_8_9" ∷ [])
unfolding grid_words span_crossing with_crossings
below_a_heading_of_headings = refl

-- ---- looks that lack glyphs

-- without the glyphs of a crossing below and of a horizontal those stay as they were, and the one above is drawn
a_glyph_that_the_look_lacks : drawn 3 3 three headed (crossed 3 3 (record told_apart { top = None; top_intersection = None }) (told told_apart heading_and_total))
    ≡ joined (codes "1-2-2-3" ∷ codes "[a    ]" ∷ codes "4=5=5=6" ∷ codes "[1|2|3]" ∷ codes "4=8=5=6" ∷ codes "[b  |c]" ∷ codes "7___8_9" ∷ [])
unfolding grid_words span_crossing with_crossings
a_glyph_that_the_look_lacks = refl

-- no lines between rows: none comes to be there
abbrev without_inner_lines : Borders ℕ
without_inner_lines = record told_apart { left_intersection = None; horizontal = None; intersection = None; right_intersection = None }

no_line_comes_to_be_there : drawn 3 3 three headed (crossed 3 3 told_apart (told without_inner_lines heading_and_total))
    ≡ joined (codes "1-----3" ∷ codes "[a    ]" ∷ codes "[1|2|3]" ∷ codes "[b  |c]" ∷ codes "7___8_9" ∷ [])
unfolding grid_words span_crossing with_crossings
no_line_comes_to_be_there = refl

-- no lines between columns: a crossing has no column line
abbrev without_column_lines : Borders ℕ
without_column_lines = record told_apart { top_intersection = None; intersection = None; bottom_intersection = None; vertical = None }

no_column_line_comes_to_be_there : drawn 3 3 three headed (crossed 3 3 told_apart (told without_column_lines heading_and_total))
    ≡ drawn 3 3 three headed (told without_column_lines heading_and_total)
unfolding grid_words span_crossing with_crossings
no_column_line_comes_to_be_there = refl

-- ---- what stays

-- at a corner of a merged cell, inside it, and away from it there is none
none_at_corners_and_inside : map (λ p. span_crossing (told told_apart (with_row_span (at 1 1) 2 (with_column_span (at 1 1) 2 []))) told_apart 4 4 p) (at 1 1 ∷ at 1 3 ∷ at 3 1 ∷ at 3 3 ∷ at 2 2 ∷ at 0 2 ∷ at 4 0 ∷ [])
    ≡ None ∷ None ∷ None ∷ None ∷ None ∷ None ∷ None ∷ []
unfolding grid_words span_crossing
none_at_corners_and_inside = refl

-- a glyph that was set for a corner stays, and one that was set on the edge doesn't
abbrev starred : Config
starred = record (told told_apart heading_and_total) { overrides = with_border (at 2 2) (record no_border { top_left = Some 42 }) (with_border (at 2 1) (record no_border { top_left = Some 42 }) no_overrides) }

what_was_set_at_a_corner_stays : drawn 3 3 three headed (crossed 3 3 told_apart starred)
    ≡ joined (codes "1-----3" ∷ codes "[a    ]" ∷ codes "4=2=2=6" ∷ codes "[1|2|3]" ∷ codes "4=8=*=6" ∷ codes "[b  |c]" ∷ codes "7___8_9" ∷ [])
unfolding grid_words span_crossing with_crossings
what_was_set_at_a_corner_stays = refl

-- What a configuration answers after some settings, each worked out by hand.
use Rattle.std.proofs.Common.{◌≡◌, ℕ, ◌-◌, ◌^◌, List, [], ◌∷◌, refl, Some, None, true, false, Bool}
use Rattle.pg_layout.specs.declared.position.Entity.TheVariants.{Global, Row, Column, Cell}
use Rattle.pg_layout.specs.declared.position.Position.{Position}
use Rattle.pg_layout.specs.declared.sides.Offset.TheVariants.{Start, End}
use Rattle.pg_layout.specs.declared.alignment.AlignmentHorizontal.TheVariants as across
use Rattle.pg_layout.specs.declared.alignment.AlignmentVertical.TheVariants as down
use Rattle.pg_layout.specs.declared.borders.Borders.{Borders}
use Rattle.pg_layout.specs.Borders.{no_borders, no_border, has_top, has_bottom, has_left, has_right, has_inner_horizontal, has_inner_vertical}
use Rattle.pg_layout.specs.Keys.{column_place}
use Rattle.pg_layout.specs.Position.{at}
use Rattle.pg_config.specs.Settings.{Settings, no_settings, setting_of, with_setting, is_set}
use Rattle.pg_config.specs.Overrides.{Overrides, no_overrides, with_border, horizontal_override, vertical_override, crossing_override}
use Rattle.pg_config.specs.Offsets.{Offsets, no_offsets, with_offset, lookup_offset}
use Rattle.pg_config.specs.Spans.{Span, with_column_span, with_row_span, get_column_span, get_row_span, has_column_spans, has_row_spans, owner, is_covered_by_column, is_covered_by_row, is_covered_by_both, is_visible}
use Rattle.pg_config.specs.Config.{Config, default_config, filled, get_padding, get_padding_color, get_alignment_horizontal, get_alignment_vertical, get_formatting, get_justification, get_justification_color, has_horizontal, has_vertical, count_horizontal, count_vertical, get_horizontal, get_vertical, get_intersection, get_horizontal_color, is_overridden_horizontal, has_offset_chars, has_padding_color, has_justification}
use Rattle.pg_config.specs.CompactConfig.{compact_of, default_compact}
use Rattle.pg_config.proofs.Computing.{config_words}

-- ---- told nothing: for every place

nothing_told_means_no_padding : (p : Position) → get_padding default_config p ≡ filled (record { size = 0; fill = 32 })
unfolding config_words
nothing_told_means_no_padding p = refl

nothing_told_means_left : (p : Position) → get_alignment_horizontal default_config p ≡ across.Left
unfolding config_words
nothing_told_means_left p = refl

nothing_told_means_top : (p : Position) → get_alignment_vertical default_config p ≡ down.Top
unfolding config_words
nothing_told_means_top p = refl

nothing_told_means_no_trim : (p : Position) → get_formatting default_config p ≡ record { horizontal_trim = false; vertical_trim = false; allow_lines_alignment = false }
unfolding config_words
nothing_told_means_no_trim p = refl

nothing_told_means_spaces : (p : Position) → get_justification default_config p ≡ 32
unfolding config_words
nothing_told_means_spaces p = refl

nothing_told_means_no_justification_colour : (p : Position) → get_justification_color default_config p ≡ None
unfolding config_words
nothing_told_means_no_justification_colour p = refl

nothing_told_means_no_padding_colour : (p : Position) → get_padding_color default_config p ≡ filled None
unfolding config_words
nothing_told_means_no_padding_colour p = refl

nothing_told_means_no_line : count_horizontal default_config 3 ≡ 0
unfolding config_words
nothing_told_means_no_line = refl

nothing_told_means_spaces_for_missing_glyphs : default_config.missing ≡ Some 32
unfolding config_words
nothing_told_means_spaces_for_missing_glyphs = refl

nothing_told_means_each_place_owns_itself : (r c : ℕ) → owner default_config.spans r c ≡ at r c
unfolding config_words
nothing_told_means_each_place_owns_itself r c = refl

-- ---- the latest setting counts, and not the narrowest

abbrev no_numbers : Settings ℕ
no_numbers = no_settings

-- a setting for one cell, then another for each entity that holds it
abbrev cell_first : Settings ℕ
cell_first = with_setting (Cell 1 2) 1 no_numbers

a_later_setting_for_all_counts : setting_of (with_setting Global 2 cell_first) (at 1 2) ≡ Some 2
unfolding config_words
a_later_setting_for_all_counts = refl

a_later_setting_for_the_row_counts : setting_of (with_setting (Row 1) 2 cell_first) (at 1 2) ≡ Some 2
unfolding config_words
a_later_setting_for_the_row_counts = refl

a_later_setting_for_the_column_counts : setting_of (with_setting (Column 2) 2 cell_first) (at 1 2) ≡ Some 2
unfolding config_words
a_later_setting_for_the_column_counts = refl

a_later_setting_for_the_cell_counts : setting_of (with_setting (Cell 1 2) 3 (with_setting (Row 1) 2 cell_first)) (at 1 2) ≡ Some 3
unfolding config_words
a_later_setting_for_the_cell_counts = refl

a_setting_for_another_row_leaves_the_cell : setting_of (with_setting (Row 2) 2 cell_first) (at 1 2) ≡ Some 1
unfolding config_words
a_setting_for_another_row_leaves_the_cell = refl

a_setting_for_another_column_leaves_the_cell : setting_of (with_setting (Column 1) 2 cell_first) (at 1 2) ≡ Some 1
unfolding config_words
a_setting_for_another_column_leaves_the_cell = refl

a_setting_for_another_cell_leaves_the_cell : setting_of (with_setting (Cell 2 1) 2 cell_first) (at 1 2) ≡ Some 1
unfolding config_words
a_setting_for_another_cell_leaves_the_cell = refl

-- a row and a column that cross, in both orders
the_column_set_after_the_row_counts : setting_of (with_setting (Column 2) 8 (with_setting (Row 1) 7 no_numbers)) (at 1 2) ≡ Some 8
unfolding config_words
the_column_set_after_the_row_counts = refl

the_row_set_after_the_column_counts : setting_of (with_setting (Row 1) 7 (with_setting (Column 2) 8 no_numbers)) (at 1 2) ≡ Some 7
unfolding config_words
the_row_set_after_the_column_counts = refl

the_row_set_again_after_the_column_counts : setting_of (with_setting (Row 1) 9 (with_setting (Column 2) 8 (with_setting (Row 1) 7 no_numbers))) (at 1 2) ≡ Some 9
unfolding config_words
the_row_set_again_after_the_column_counts = refl

the_column_counts_in_the_other_rows : setting_of (with_setting (Row 1) 7 (with_setting (Column 2) 8 no_numbers)) (at 0 2) ≡ Some 8
unfolding config_words
the_column_counts_in_the_other_rows = refl

-- five settings in turn: all, row 0, column 0, cell (0, 1), row 1
abbrev five_settings : Settings ℕ
five_settings = with_setting (Row 1) 5 (with_setting (Cell 0 1) 4 (with_setting (Column 0) 3 (with_setting (Row 0) 2 (with_setting Global 1 no_numbers))))

five_settings_at_the_first_column : setting_of five_settings (at 0 0) ≡ Some 3
unfolding config_words
five_settings_at_the_first_column = refl

five_settings_at_the_cell : setting_of five_settings (at 0 1) ≡ Some 4
unfolding config_words
five_settings_at_the_cell = refl

five_settings_in_the_first_row : setting_of five_settings (at 0 2) ≡ Some 2
unfolding config_words
five_settings_in_the_first_row = refl

five_settings_in_the_second_row : setting_of five_settings (at 1 0) ≡ Some 5
unfolding config_words
five_settings_in_the_second_row = refl

five_settings_elsewhere : setting_of five_settings (at 2 2) ≡ Some 1
unfolding config_words
five_settings_elsewhere = refl

-- a column, two cells of row 1, and then that row over all three
abbrev row_over_cells : Settings ℕ
row_over_cells = with_setting (Row 1) 9 (with_setting (Cell 1 3) 8 (with_setting (Cell 1 2) 7 (with_setting (Column 2) 6 no_numbers)))

the_row_counts_at_the_first_cell : setting_of row_over_cells (at 1 2) ≡ Some 9
unfolding config_words
the_row_counts_at_the_first_cell = refl

the_row_counts_at_the_second_cell : setting_of row_over_cells (at 1 3) ≡ Some 9
unfolding config_words
the_row_counts_at_the_second_cell = refl

the_row_counts_where_nothing_was : setting_of row_over_cells (at 1 0) ≡ Some 9
unfolding config_words
the_row_counts_where_nothing_was = refl

the_column_counts_beside_the_row : setting_of row_over_cells (at 0 2) ≡ Some 6
unfolding config_words
the_column_counts_beside_the_row = refl

nothing_counts_beside_both : setting_of row_over_cells (at 0 3) ≡ None
unfolding config_words
nothing_counts_beside_both = refl

a_cell_set_again_counts_over_the_row : setting_of (with_setting (Cell 1 3) 5 row_over_cells) (at 1 3) ≡ Some 5
unfolding config_words
a_cell_set_again_counts_over_the_row = refl

the_other_cell_stays_under_the_row : setting_of (with_setting (Cell 1 3) 5 row_over_cells) (at 1 2) ≡ Some 9
unfolding config_words
the_other_cell_stays_under_the_row = refl

-- a row told three times has one setting, of the number after the last
a_row_told_again_is_kept_once : (with_setting (Row 1) 9 (with_setting (Row 1) 8 (with_setting (Row 1) 7 no_numbers))).rows ≡ (1, (2, 9)) ∷ []
unfolding config_words
a_row_told_again_is_kept_once = refl

a_setting_for_all_takes_the_others_away : with_setting Global 5 row_over_cells ≡ with_setting Global 5 no_numbers
unfolding config_words
a_setting_for_all_takes_the_others_away = refl

-- for every place, whatever was set before
all_places_take_a_setting_for_all : (s : Settings ℕ) (p : Position) → setting_of (with_setting Global 5 s) p ≡ Some 5
unfolding config_words
all_places_take_a_setting_for_all s p = refl

a_setting_tells_that_there_is_one : is_set (with_setting (Column 2) 0 no_numbers) ≡ true
unfolding config_words
a_setting_tells_that_there_is_one = refl

-- ---- spans

abbrev both_spans : List Span
both_spans = with_row_span (at 1 1) 2 (with_column_span (at 1 1) 3 [])

a_row_span_is_kept : get_row_span both_spans (at 1 1) ≡ Some 2
unfolding config_words
a_row_span_is_kept = refl

a_column_span_is_kept : get_column_span both_spans (at 1 1) ≡ Some 3
unfolding config_words
a_column_span_is_kept = refl

another_place_has_no_span : get_row_span both_spans (at 1 2) ≡ None
unfolding config_words
another_place_has_no_span = refl

a_row_span_of_1_is_taken_away : get_row_span (with_row_span (at 1 1) 1 both_spans) (at 1 1) ≡ None
unfolding config_words
a_row_span_of_1_is_taken_away = refl

a_row_span_of_1_leaves_the_column_span : get_column_span (with_row_span (at 1 1) 1 both_spans) (at 1 1) ≡ Some 3
unfolding config_words
a_row_span_of_1_leaves_the_column_span = refl

a_span_of_0_is_kept : get_column_span (with_column_span (at 0 0) 0 []) (at 0 0) ≡ Some 0
unfolding config_words
a_span_of_0_is_kept = refl

the_later_span_counts : get_column_span (with_column_span (at 0 0) 4 (with_column_span (at 0 0) 2 [])) (at 0 0) ≡ Some 4
unfolding config_words
the_later_span_counts = refl

a_row_span_alone_is_no_column_span : has_column_spans (with_row_span (at 1 1) 2 []) ≡ false
unfolding config_words
a_row_span_alone_is_no_column_span = refl

a_row_span_alone_is_a_row_span : has_row_spans (with_row_span (at 1 1) 2 []) ≡ true
unfolding config_words
a_row_span_alone_is_a_row_span = refl

no_span_is_left_after_1 : has_column_spans (with_column_span (at 1 1) 1 (with_column_span (at 1 1) 3 [])) ≡ false
unfolding config_words
no_span_is_left_after_1 = refl

a_span_of_1_alone_is_none : with_row_span (at 1 1) 1 [] ≡ []
unfolding config_words
a_span_of_1_alone_is_none = refl

-- the rectangle of two rows and three columns whose top left is (1, 1)
the_top_left_owns_the_bottom_right : owner both_spans 2 3 ≡ at 1 1
unfolding config_words
the_top_left_owns_the_bottom_right = refl

a_place_below_the_rectangle_owns_itself : owner both_spans 3 1 ≡ at 3 1
unfolding config_words
a_place_below_the_rectangle_owns_itself = refl

a_place_beside_the_rectangle_owns_itself : owner both_spans 1 4 ≡ at 1 4
unfolding config_words
a_place_beside_the_rectangle_owns_itself = refl

-- covered in the cell's row, in its column, and elsewhere
the_top_left_is_visible : is_visible both_spans (at 1 1) ≡ true
unfolding config_words
the_top_left_is_visible = refl

a_place_outside_is_visible : is_visible both_spans (at 0 1) ≡ true
unfolding config_words
a_place_outside_is_visible = refl

abbrev covered_by : List Span → Position → Bool × Bool × Bool
covered_by spans p = (is_covered_by_column spans p, is_covered_by_row spans p, is_covered_by_both spans p)

the_top_left_is_not_covered : covered_by both_spans (at 1 1) ≡ (false, false, false)
unfolding config_words
the_top_left_is_not_covered = refl

a_place_of_the_row_is_covered_by_the_column_span : covered_by both_spans (at 1 3) ≡ (true, false, false)
unfolding config_words
a_place_of_the_row_is_covered_by_the_column_span = refl

a_place_of_the_column_is_covered_by_the_row_span : covered_by both_spans (at 2 1) ≡ (false, true, false)
unfolding config_words
a_place_of_the_column_is_covered_by_the_row_span = refl

another_place_is_covered_by_both : covered_by both_spans (at 2 2) ≡ (false, false, true)
unfolding config_words
another_place_is_covered_by_both = refl

a_place_past_the_row_is_not_covered : covered_by both_spans (at 1 4) ≡ (false, false, false)
unfolding config_words
a_place_past_the_row_is_not_covered = refl

a_covered_place_is_not_visible : is_visible both_spans (at 2 2) ≡ false
unfolding config_words
a_covered_place_is_not_visible = refl

-- ---- the glyph of a place

-- a different glyph at each of the fifteen kinds of place
abbrev letters : Borders ℕ
letters = record { top = Some 65; top_left = Some 66; top_right = Some 67; top_intersection = Some 68; bottom = Some 69; bottom_left = Some 70; bottom_right = Some 71; bottom_intersection = Some 72; horizontal = Some 73; left_intersection = Some 74; right_intersection = Some 75; intersection = Some 76; left = Some 77; right = Some 78; vertical = Some 79 }

abbrev lettered : Config
lettered = record default_config { borders = letters }

horizontals_of_two_rows : get_horizontal lettered (at 0 0) 2 ∷ get_horizontal lettered (at 1 0) 2 ∷ get_horizontal lettered (at 2 0) 2 ∷ [] ≡ Some 65 ∷ Some 73 ∷ Some 69 ∷ []
unfolding config_words
horizontals_of_two_rows = refl

verticals_of_two_columns : get_vertical lettered (at 0 0) 2 ∷ get_vertical lettered (at 0 1) 2 ∷ get_vertical lettered (at 0 2) 2 ∷ [] ≡ Some 77 ∷ Some 79 ∷ Some 78 ∷ []
unfolding config_words
verticals_of_two_columns = refl

crossings_of_the_first_line : get_intersection lettered (at 0 0) 2 2 ∷ get_intersection lettered (at 0 1) 2 2 ∷ get_intersection lettered (at 0 2) 2 2 ∷ [] ≡ Some 66 ∷ Some 68 ∷ Some 67 ∷ []
unfolding config_words
crossings_of_the_first_line = refl

crossings_of_an_inner_line : get_intersection lettered (at 1 0) 2 2 ∷ get_intersection lettered (at 1 1) 2 2 ∷ get_intersection lettered (at 1 2) 2 2 ∷ [] ≡ Some 74 ∷ Some 76 ∷ Some 75 ∷ []
unfolding config_words
crossings_of_an_inner_line = refl

crossings_of_the_last_line : get_intersection lettered (at 2 0) 2 2 ∷ get_intersection lettered (at 2 1) 2 2 ∷ get_intersection lettered (at 2 2) 2 2 ∷ [] ≡ Some 70 ∷ Some 72 ∷ Some 71 ∷ []
unfolding config_words
crossings_of_the_last_line = refl

-- the override of a horizontal, else the border's glyph, else the missing glyph where the line is there, else none
abbrev starred : Config
starred = record default_config { borders = record no_borders { horizontal = Some 45; left_intersection = Some 43 }; overrides = with_border (at 1 0) (record no_border { top = Some 42 }) no_overrides; missing = Some 46 }

an_override_comes_first : get_horizontal starred (at 1 0) 3 ≡ Some 42
unfolding config_words
an_override_comes_first = refl

then_comes_the_glyph : get_horizontal starred (at 1 1) 3 ≡ Some 45
unfolding config_words
then_comes_the_glyph = refl

then_comes_the_missing_glyph : get_intersection starred (at 1 0) 1 3 ≡ Some 46
unfolding config_words
then_comes_the_missing_glyph = refl

a_crossing_needs_both_lines : get_intersection starred (at 1 1) 3 3 ≡ None
unfolding config_words
a_crossing_needs_both_lines = refl

no_glyph_where_no_line_is : get_horizontal starred (at 0 0) 3 ≡ None
unfolding config_words
no_glyph_where_no_line_is = refl

no_missing_glyph_means_none : get_intersection (record starred { missing = None }) (at 1 0) 1 3 ≡ None
unfolding config_words
no_missing_glyph_means_none = refl

-- colours have no missing value
a_line_without_colour_has_none : get_horizontal_color starred (at 1 0) 3 ≡ None
unfolding config_words
a_line_without_colour_has_none = refl

-- ---- borders of single cells

abbrev eight_glyphs : Overrides ℕ
eight_glyphs = with_border (at 3 4) (record { top = Some 1; bottom = Some 2; left = Some 3; right = Some 4; top_left = Some 5; top_right = Some 6; bottom_left = Some 7; bottom_right = Some 8 }) no_overrides

the_top_and_the_bottom_of_a_cell : horizontal_override eight_glyphs (at 3 4) ∷ horizontal_override eight_glyphs (at 4 4) ∷ horizontal_override eight_glyphs (at 4 3) ∷ [] ≡ Some 1 ∷ Some 2 ∷ None ∷ []
unfolding config_words
the_top_and_the_bottom_of_a_cell = refl

the_left_and_the_right_of_a_cell : vertical_override eight_glyphs (at 3 4) ∷ vertical_override eight_glyphs (at 3 5) ∷ vertical_override eight_glyphs (at 4 3) ∷ [] ≡ Some 3 ∷ Some 4 ∷ None ∷ []
unfolding config_words
the_left_and_the_right_of_a_cell = refl

the_corners_of_a_cell : crossing_override eight_glyphs (at 3 4) ∷ crossing_override eight_glyphs (at 3 5) ∷ crossing_override eight_glyphs (at 4 4) ∷ crossing_override eight_glyphs (at 4 5) ∷ [] ≡ Some 5 ∷ Some 6 ∷ Some 7 ∷ Some 8 ∷ []
unfolding config_words
the_corners_of_a_cell = refl

the_cell_below_shares_a_place : horizontal_override (with_border (at 4 4) (record no_border { top = Some 9 }) eight_glyphs) (at 4 4) ≡ Some 9
unfolding config_words
the_cell_below_shares_a_place = refl

a_border_without_a_glyph_leaves_its_place : horizontal_override (with_border (at 4 4) (record no_border { bottom = Some 9 }) eight_glyphs) (at 4 4) ≡ Some 2
unfolding config_words
a_border_without_a_glyph_leaves_its_place = refl

-- no line stands behind the greatest number, so of the border of a cell there only the parts above it and left of it have places
abbrev last_place : Position
last_place = at (2 ^ 64 - 1) (2 ^ 64 - 1)

abbrev last_border : Overrides ℕ
last_border = with_border last_place (record { top = Some 1; bottom = Some 2; left = Some 3; right = Some 4; top_left = Some 5; top_right = Some 6; bottom_left = Some 7; bottom_right = Some 8 }) no_overrides

a_border_at_the_greatest_numbers : last_border ≡ record { horizontals = (last_place, 1) ∷ []; verticals = (column_place last_place, 3) ∷ []; crossings = (last_place, 5) ∷ [] }
unfolding config_words
a_border_at_the_greatest_numbers = refl

-- in the row before it has its parts below
abbrev border_before_the_last : Overrides ℕ
border_before_the_last = with_border (at (2 ^ 64 - 2) 0) (record no_border { bottom = Some 2; bottom_right = Some 8 }) no_overrides

a_border_before_the_greatest_row : border_before_the_last ≡ record { horizontals = (at (2 ^ 64 - 1) 0, 2) ∷ []; verticals = []; crossings = (at (2 ^ 64 - 1) 1, 8) ∷ [] }
unfolding config_words
a_border_before_the_greatest_row = refl

-- ---- which lines are there

abbrev overridden : Position → Config
overridden p = record default_config { overrides = with_border p (record no_border { top = Some 42 }) no_overrides }

an_override_outside_the_columns_makes_its_line : has_horizontal (overridden (at 1 9)) 1 3 ≡ true
unfolding config_words
an_override_outside_the_columns_makes_its_line = refl

an_override_makes_no_other_line : count_horizontal (overridden (at 1 9)) 3 ≡ 1
unfolding config_words
an_override_makes_no_other_line = refl

an_override_of_a_horizontal_makes_no_vertical : count_vertical (overridden (at 1 0)) 3 ≡ 0
unfolding config_words
an_override_of_a_horizontal_makes_no_vertical = refl

-- a crossing lies on a row line and on a column line, and both are there
abbrev crossed : Config
crossed = record default_config { overrides = with_border (at 1 8) (record no_border { top_left = Some 42 }) no_overrides }

an_override_of_a_crossing_makes_its_row_line : has_horizontal crossed 0 3 ∷ has_horizontal crossed 1 3 ∷ [] ≡ false ∷ true ∷ []
unfolding config_words
an_override_of_a_crossing_makes_its_row_line = refl

an_override_of_a_crossing_makes_its_column_line : has_vertical crossed 8 9 ∷ has_vertical crossed 1 9 ∷ [] ≡ true ∷ false ∷ []
unfolding config_words
an_override_of_a_crossing_makes_its_column_line = refl

all_lines_of_two_rows : count_horizontal lettered 2 ∷ count_vertical lettered 3 ∷ [] ≡ 3 ∷ 4 ∷ []
unfolding config_words
all_lines_of_two_rows = refl

inner_lines_stand_between_two_rows : has_horizontal (record default_config { borders = record no_borders { intersection = Some 43 } }) 0 2 ∷ has_horizontal (record default_config { borders = record no_borders { intersection = Some 43 } }) 1 2 ∷ has_horizontal (record default_config { borders = record no_borders { intersection = Some 43 } }) 2 2 ∷ [] ≡ false ∷ true ∷ false ∷ []
unfolding config_words
inner_lines_stand_between_two_rows = refl

-- the line above a first row that is also below a last one
a_table_of_no_rows_has_one_line : count_horizontal (record default_config { borders = record no_borders { bottom = Some 45 } }) 0 ∷ count_horizontal (record default_config { borders = record no_borders { top = Some 45 } }) 0 ∷ [] ≡ 1 ∷ 1 ∷ []
unfolding config_words
a_table_of_no_rows_has_one_line = refl

-- ---- glyphs by offset

abbrev no_offset_glyphs : Offsets ℕ
no_offset_glyphs = no_offsets

abbrev two_offsets : Offsets ℕ
two_offsets = with_offset (at 0 1) (End 0) 69 (with_offset (at 0 1) (Start 2) 83 no_offset_glyphs)

an_offset_from_the_start : lookup_offset two_offsets (at 0 1) 2 5 ≡ Some 83
unfolding config_words
an_offset_from_the_start = refl

an_offset_from_the_end : lookup_offset two_offsets (at 0 1) 4 5 ≡ Some 69
unfolding config_words
an_offset_from_the_end = refl

the_start_comes_before_the_end : lookup_offset two_offsets (at 0 1) 2 3 ≡ Some 83
unfolding config_words
the_start_comes_before_the_end = refl

the_start_comes_first_also_where_the_end_is_later : lookup_offset (with_offset (at 0 0) (End 1) 69 (with_offset (at 0 0) (Start 1) 83 no_offset_glyphs)) (at 0 0) 1 3 ≡ Some 83
unfolding config_words
the_start_comes_first_also_where_the_end_is_later = refl

no_offset_between : lookup_offset two_offsets (at 0 1) 3 5 ≡ None
unfolding config_words
no_offset_between = refl

no_offset_behind_the_last_glyph : lookup_offset two_offsets (at 0 1) 2 2 ∷ lookup_offset two_offsets (at 0 1) 0 0 ∷ [] ≡ None ∷ None ∷ []
unfolding config_words
no_offset_behind_the_last_glyph = refl

no_offset_at_another_place : lookup_offset two_offsets (at 1 0) 2 5 ≡ None
unfolding config_words
no_offset_at_another_place = refl

the_later_offset_counts : lookup_offset (with_offset (at 0 1) (Start 2) 84 two_offsets) (at 0 1) 2 5 ≡ Some 84
unfolding config_words
the_later_offset_counts = refl

-- ---- what was set at all

abbrev with_offsets : Config
with_offsets = record default_config { horizontal_chars = two_offsets }

a_horizontal_with_an_offset_is_overridden : is_overridden_horizontal with_offsets (at 0 1) ∷ is_overridden_horizontal with_offsets (at 1 0) ∷ [] ≡ true ∷ false ∷ []
unfolding config_words
a_horizontal_with_an_offset_is_overridden = refl

an_offset_colour_counts_too : has_offset_chars (record default_config { vertical_colors = with_offset (at 0 0) (Start 0) (record { prefix = []; suffix = [] }) no_offsets }) ≡ true
unfolding config_words
an_offset_colour_counts_too = refl

nothing_set_at_all : has_offset_chars default_config ∷ has_padding_color default_config ∷ has_justification default_config ∷ default_config.border_colored ∷ [] ≡ false ∷ false ∷ false ∷ false ∷ []
unfolding config_words
nothing_set_at_all = refl

-- a setting counts, whatever its value
no_padding_colour_is_a_setting : has_padding_color (record default_config { padding_color = with_setting Global (filled None) no_settings }) ≡ true
unfolding config_words
no_padding_colour_is_a_setting = refl

justification_by_spaces_is_a_setting : has_justification (record default_config { justification = with_setting (Cell 0 0) 32 no_settings }) ≡ true
unfolding config_words
justification_by_spaces_is_a_setting = refl

no_justification_colour_is_a_setting : has_justification (record default_config { justification_color = with_setting (Row 0) None no_settings }) ≡ true
unfolding config_words
no_justification_colour_is_a_setting = refl

-- ---- what a configuration tells of a compact table

-- of the alignments the last one of all cells, whatever was told of some before it and after it, and of paddings none where none was told of all
abbrev told_of_some_cells : Config
told_of_some_cells = record default_config {
  alignment_horizontal = with_setting (Row 0) across.Left (with_setting Global across.Right (with_setting (Cell 0 0) across.Center no_settings));
  padding = with_setting (Column 0) (filled (record { size = 1; fill = 46 })) no_settings;
}

a_compact_table_takes_what_was_told_of_all_cells : compact_of told_of_some_cells ≡ record default_compact { alignment = across.Right }
unfolding config_words default_compact
a_compact_table_takes_what_was_told_of_all_cells = refl

a_compact_table_takes_borders_and_margins_without_their_colours :
    compact_of (record default_config {
      borders = record no_borders { top = Some 45 };
      border_colors = record no_borders { top = Some (record { prefix = 1 ∷ []; suffix = [] }) };
      margin = filled (record { size = 2; fill = 46 });
    })
    ≡ record default_compact { borders = record no_borders { top = Some 45 }; margin = filled (record { size = 2; fill = 46 }) }
unfolding config_words default_compact
a_compact_table_takes_borders_and_margins_without_their_colours = refl

-- ---- the six tests of a set of borders

-- which of the lines top, bottom, left, right, inner horizontal, inner vertical are there
abbrev lines_of_borders : Borders ℕ → Bool × Bool × Bool × Bool × Bool × Bool
lines_of_borders b = (has_top b, has_bottom b, has_left b, has_right b, has_inner_horizontal b, has_inner_vertical b)

a_corner_belongs_to_two_lines : lines_of_borders (record no_borders { bottom_right = Some 43 }) ≡ (false, true, false, true, false, false)
unfolding config_words
a_corner_belongs_to_two_lines = refl

a_crossing_of_the_top_belongs_to_two_lines : lines_of_borders (record no_borders { top_intersection = Some 43 }) ≡ (true, false, false, false, false, true)
unfolding config_words
a_crossing_of_the_top_belongs_to_two_lines = refl

a_crossing_of_the_left_belongs_to_two_lines : lines_of_borders (record no_borders { left_intersection = Some 43 }) ≡ (false, false, true, false, true, false)
unfolding config_words
a_crossing_of_the_left_belongs_to_two_lines = refl

an_inner_crossing_belongs_to_both_inner_lines : lines_of_borders (record no_borders { intersection = Some 43 }) ≡ (false, false, false, false, true, true)
unfolding config_words
an_inner_crossing_belongs_to_both_inner_lines = refl

a_glyph_of_a_line_belongs_to_it_alone : lines_of_borders (record no_borders { right = Some 124 }) ≡ (false, false, false, true, false, false)
unfolding config_words
a_glyph_of_a_line_belongs_to_it_alone = refl

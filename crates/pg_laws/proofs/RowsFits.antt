-- Conditions of tables, tables printed row by row, and compact ones, each worked out by hand; and which misfit is the first.
use Rattle.std.proofs.Common.{◌≡◌, ℕ, List, [], ◌∷◌, ◌++◌, refl, Some, None, true, false, Option, ◌==◌, if◌then◌else◌, zero, suc, ◌+◌, ◌<◌, ◌≤◌, Bool, not, ◌||◌, map, flat_map, sym, ap, ◌∙◌, arith, subst, is_some, ◌⊎◌, inl, inr}
use Rattle.std.specs.Prelude.{codes, slice_index_or}
use Rattle.pg_layout.specs.declared.position.Entity.TheVariants.{Cell}
use Rattle.pg_layout.specs.declared.sides.Indent.{Indent}
use Rattle.pg_layout.specs.declared.sides.Sides.{Sides}
use Rattle.pg_layout.specs.declared.position.Position.{Position}
use Rattle.pg_layout.specs.declared.alignment.AlignmentHorizontal.TheVariants as across
use Rattle.pg_layout.specs.Borders.{no_borders}
use Rattle.pg_layout.specs.Looks.{ascii}
use Rattle.pg_layout.specs.Position.{at}
use Rattle.pg_layout.specs.Text.{Text}
use Rattle.pg_config.specs.CompactConfig.{CompactSettings, default_compact}
use Rattle.pg_config.specs.Config.{Config, default_config, filled, no_indents}
use Rattle.pg_config.specs.Settings.{Settings, with_setting, no_settings}
use Rattle.pg_config.specs.Spans.{with_column_span, with_row_span}
use Rattle.pg_picture.specs.CompactLines.{CompactTable}
use Rattle.pg_picture.specs.Fits.{spans_fit, spans_fit_columns, totals_fit, cell_fits, misfit_of, compact_misfit_of, body_height, owner_fits, places}
use Rattle.pg_picture.specs.Pieces.{Style, style_at, joined}
use Rattle.pg_picture.specs.Table.{Table, rect_width, rect_height, rect_marks, total_width, full_width}
use Rattle.pg_picture.specs.declared.fits.Misfit.TheVariants.{Spans, Totals, Room}
use Rattle.pg_picture.proofs.Computing.{picture_words}
use Rattle.pg_picture.specs.Shown.{cell_shows_all, owner_shows_all, unshown_of, compact_unshown_of, compact_table_of}
use Rattle.pg_picture.specs.declared.shown.Unshown.TheVariants.{Misfit, Lines}
use Rattle.pg_picture.specs.Samples.{table, indent, plain, bordered, for_cell}
use Rattle.pg_picture.specs.Sizes.{height_of_rect}
use Rattle.pg_stream.specs.ShownRows.{unshown_in_row}
use Rattle.pg_layout.specs.declared.alignment.AlignmentVertical.TheVariants as down
use Rattle.pg_layout.specs.declared.sides.Offset.TheVariants.{Start, End}
use Rattle.pg_stream.specs.Printing.{Printing, lines_printed, row_lines, finish_lines, printer, after_row, lines_of_rows, rows_text}
use Rattle.pg_laws.proofs.Computing.{printing_words, sample_words}
use Rattle.pg_picture.specs.Picture.{compact_picture}
use Rattle.pg_laws.specs.Samples.{grid22, one, color_r, color_b, color_g, spaced, no_color, plain_compact, compact_table}
use Rattle.std.specs.List.{range_with_len}
use Rattle.std.specs.Option.{option_map}
use Rattle.std.proofs.lemmas.Bool.{cases_Bool, false≢true}
use Rattle.std.proofs.lemmas.Bool.Decides.{nat_tests}
use Rattle.pg_picture.specs.declared.fits.Misfit.{Misfit as WhatMisfits}
use Rattle.pg_picture.specs.Inside.{first_failed}
use Rattle.pg_picture.proofs.FirstPlaces.{failed_here, failed_later, failed_after, failed_before, passed_in_row, room_of, fits}
use Rattle.pg_laws.specs.Laws.{Tells, MisfitsAreFirst, ColorsDontMatter}

-- ---- the conditions of tables, each worked out by hand

abbrev texts_at : List (List Text) → Position → Text
texts_at texts p = slice_index_or (slice_index_or texts p.row []) p.col []

abbrev sized : Config → ℕ → ℕ → List ℕ → List ℕ → List (List Text) → Table
sized config rows columns widths heights texts = record { config = config; rows = rows; columns = columns; width = λ c. slice_index_or widths c 0; height = λ r. slice_index_or heights r 0; text = texts_at texts; color = λ p. None }

-- `-`, `|` and `+` at all places
abbrev lined : Config
lined = record default_config { borders = ascii }

abbrev everywhere : {V : Type 0} → V → Settings V
everywhere v = record { base = Some v; rows = []; columns = []; cells = [] }

-- spaces at the sides left, right, top, bottom
abbrev spaces_at : ℕ → ℕ → ℕ → ℕ → Sides Indent
spaces_at left right top bottom = record { left = record { size = left; fill = 32 }; right = record { size = right; fill = 32 }; top = record { size = top; fill = 32 }; bottom = record { size = bottom; fill = 32 } }

-- the greatest number of 64 bits
abbrev greatest_number : ℕ
greatest_number = 18446744073709551615

-- ---- the room of one cell

abbrev padded_left : Style
padded_left = style_at (record default_config { padding = everywhere (spaces_at 1 0 0 0) }) (at 0 0)

a_cell_too_narrow_by_one : cell_fits padded_left (codes "abc") 3 1 ≡ false
unfolding picture_words
a_cell_too_narrow_by_one = refl

a_cell_just_wide_enough : cell_fits padded_left (codes "abc") 4 1 ≡ true
unfolding picture_words
a_cell_just_wide_enough = refl

a_cell_of_height_0_needs_no_room : cell_fits padded_left (codes "abc") 0 0 ≡ true
unfolding picture_words
a_cell_of_height_0_needs_no_room = refl

-- paddings whose sum is no number of 64 bits
paddings_past_all_widths_do_not_fit : cell_fits (style_at (record default_config { padding = everywhere (spaces_at 18446744073709551615 18446744073709551615 0 0) }) (at 0 0)) [] 5 1 ≡ false
unfolding picture_words
paddings_past_all_widths_do_not_fit = refl

top_padding_needs_its_lines : cell_fits (style_at (record default_config { padding = everywhere (spaces_at 0 0 3 0) }) (at 0 0)) [] 0 2 ≡ false
unfolding picture_words
top_padding_needs_its_lines = refl

top_padding_may_take_all_lines : cell_fits (style_at (record default_config { padding = everywhere (spaces_at 0 0 3 0) }) (at 0 0)) (codes "ab") 2 3 ≡ true
unfolding picture_words
top_padding_may_take_all_lines = refl

bottom_padding_needs_no_line : cell_fits (style_at (record default_config { padding = everywhere (spaces_at 0 0 0 9) }) (at 0 0)) (codes "ab") 2 1 ≡ true
unfolding picture_words
bottom_padding_needs_no_line = refl

-- all lines need room, also one that isn't shown
a_line_that_is_cut_off_needs_room : cell_fits (style_at default_config (at 0 0)) (codes "a" ++ 10 ∷ codes "bbb") 2 1 ≡ false
unfolding picture_words
a_line_that_is_cut_off_needs_room = refl

trimmed_lines_need_less_room : cell_fits (style_at (record default_config { trim_horizontal = everywhere true }) (at 0 0)) (codes "  ab ") 2 1 ≡ true
unfolding picture_words
trimmed_lines_need_less_room = refl

-- ---- spans

a_rectangle_that_ends_at_the_last_row_and_column : spans_fit (with_column_span (at 1 1) 2 (with_row_span (at 1 1) 2 [])) 3 3 ≡ true
unfolding picture_words
a_rectangle_that_ends_at_the_last_row_and_column = refl

a_rectangle_that_ends_past_the_last_row : spans_fit (with_row_span (at 1 1) 3 []) 3 3 ≡ false
unfolding picture_words
a_rectangle_that_ends_past_the_last_row = refl

the_rows_may_be_left_out : spans_fit_columns (with_row_span (at 1 1) 3 []) 3 ≡ true
unfolding picture_words
the_rows_may_be_left_out = refl

a_rectangle_that_ends_past_the_last_column : spans_fit_columns (with_column_span (at 1 1) 3 []) 3 ≡ false
unfolding picture_words
a_rectangle_that_ends_past_the_last_column = refl

a_rectangle_without_rows : spans_fit (with_row_span (at 0 0) 0 []) 3 3 ≡ false
unfolding picture_words
a_rectangle_without_rows = refl

a_rectangle_without_columns_outside_the_table : spans_fit (with_column_span (at 8 8) 0 []) 3 3 ≡ false
unfolding picture_words
a_rectangle_without_columns_outside_the_table = refl

rectangles_that_share_one_place : spans_fit (with_row_span (at 0 1) 2 (with_column_span (at 1 0) 2 [])) 3 3 ≡ false
unfolding picture_words
rectangles_that_share_one_place = refl

rectangles_side_by_side : spans_fit (with_row_span (at 0 1) 2 (with_row_span (at 0 0) 2 [])) 2 2 ≡ true
unfolding picture_words
rectangles_side_by_side = refl

a_cell_without_span_in_a_rectangle : spans_fit (with_row_span (at 1 0) 1 (with_row_span (at 0 0) 2 [])) 2 1 ≡ true
unfolding picture_words
a_cell_without_span_in_a_rectangle = refl

-- two columns and the vertical between them
a_rectangle_has_its_inner_verticals : rect_width (sized (record lined { spans = with_column_span (at 0 0) 2 [] }) 1 2 (3 ∷ 4 ∷ []) (1 ∷ []) []) (at 0 0) ≡ 8
unfolding picture_words
a_rectangle_has_its_inner_verticals = refl

-- two rows of height 0 and the separator between them
a_rectangle_has_its_inner_separators : rect_height (sized (record lined { spans = with_row_span (at 0 0) 2 [] }) 2 1 (1 ∷ []) [] []) (at 0 0) ≡ 1
unfolding picture_words
a_rectangle_has_its_inner_separators = refl

-- ---- the first thing that doesn't fit

abbrev x_beside_a_b_c : List (List Text)
x_beside_a_b_c = (codes "x" ∷ codes "a" ∷ []) ∷ ([] ∷ codes "b" ∷ []) ∷ ([] ∷ codes "c" ∷ []) ∷ []

a_table_with_a_row_span_fits : misfit_of (sized (record lined { spans = with_row_span (at 0 0) 3 [] }) 3 2 (1 ∷ 1 ∷ []) (1 ∷ 0 ∷ 1 ∷ []) x_beside_a_b_c) ≡ None
unfolding picture_words
a_table_with_a_row_span_fits = refl

column_spans_that_overlap : misfit_of (sized (record default_config { spans = with_column_span (at 0 1) 2 (with_row_span (at 0 1) 1 (with_column_span (at 0 0) 2 (with_row_span (at 0 0) 1 []))) }) 1 3 [] (1 ∷ []) []) ≡ Some Spans
unfolding picture_words
column_spans_that_overlap = refl

a_row_span_past_the_last_row : misfit_of (sized (record default_config { spans = with_column_span (at 1 1) 1 (with_row_span (at 1 1) 2 []) }) 2 2 [] (1 ∷ 1 ∷ []) []) ≡ Some Spans
unfolding picture_words
a_row_span_past_the_last_row = refl

no_room_in_the_second_row : misfit_of (sized default_config 2 1 (1 ∷ []) (1 ∷ 1 ∷ []) (([] ∷ []) ∷ (codes "ab" ∷ []) ∷ [])) ≡ Some (Room 1 0)
unfolding picture_words
no_room_in_the_second_row = refl

-- the first row has no room at its end, the second one at its front
room_is_asked_row_by_row : misfit_of (sized default_config 2 2 (1 ∷ 1 ∷ []) (1 ∷ 1 ∷ []) ((codes "a" ∷ codes "bb" ∷ []) ∷ (codes "cc" ∷ codes "d" ∷ []) ∷ [])) ≡ Some (Room 0 1)
unfolding picture_words
room_is_asked_row_by_row = refl

a_table_of_height_0_needs_no_room : misfit_of (sized (record lined { padding = everywhere (filled (record { size = 2; fill = 32 })) }) 1 1 [] [] ((codes "abc" ∷ []) ∷ [])) ≡ None
unfolding picture_words
a_table_of_height_0_needs_no_room = refl

a_rectangle_of_height_0_needs_no_room : misfit_of (sized (record default_config { spans = with_row_span (at 1 0) 2 []; padding = with_setting (Cell 1 0) (filled (record { size = 9; fill = 32 })) no_settings }) 3 1 (1 ∷ []) (1 ∷ []) ((codes "a" ∷ []) ∷ (codes "b" ∷ []) ∷ (codes "c" ∷ []) ∷ [])) ≡ None
unfolding picture_words
a_rectangle_of_height_0_needs_no_room = refl

-- rows of height 0, whose separator is the one line of the rectangle
a_separator_inside_a_rectangle_needs_room : misfit_of (sized (record lined { spans = with_row_span (at 0 0) 2 [] }) 2 1 (1 ∷ []) [] ((codes "ab" ∷ []) ∷ ([] ∷ []) ∷ [])) ≡ Some (Room 0 0)
unfolding picture_words
a_separator_inside_a_rectangle_needs_room = refl

a_covered_cell_needs_no_room : misfit_of (sized (record default_config { spans = with_column_span (at 0 0) 2 [] }) 1 2 (1 ∷ 1 ∷ []) (1 ∷ []) ((codes "ab" ∷ codes "long" ∷ []) ∷ [])) ≡ None
unfolding picture_words
a_covered_cell_needs_no_room = refl

widths_past_the_greatest_number : misfit_of (sized default_config 1 2 (greatest_number ∷ 1 ∷ []) (1 ∷ []) []) ≡ Some Totals
unfolding picture_words
widths_past_the_greatest_number = refl

a_width_of_the_greatest_number : misfit_of (sized default_config 1 1 (greatest_number ∷ []) [] []) ≡ None
unfolding picture_words
a_width_of_the_greatest_number = refl

-- the width that a text of one column takes beside a padding of the greatest size
a_width_past_the_greatest_number : misfit_of (sized (record default_config { padding = everywhere (spaces_at 18446744073709551615 0 0 0) }) 1 1 (18446744073709551616 ∷ []) (1 ∷ []) ((codes "a" ∷ []) ∷ [])) ≡ Some Totals
unfolding picture_words
a_width_past_the_greatest_number = refl

margins_past_the_greatest_number : misfit_of (sized (record default_config { margin = spaces_at 0 1 0 0 }) 1 1 (greatest_number ∷ []) [] []) ≡ Some Totals
unfolding picture_words
margins_past_the_greatest_number = refl

heights_past_the_greatest_number : misfit_of (sized default_config 2 1 [] (greatest_number ∷ 1 ∷ []) []) ≡ Some Totals
unfolding picture_words
heights_past_the_greatest_number = refl

separators_count_in_the_height : totals_fit (sized lined 1 1 [] (18446744073709551614 ∷ []) []) ≡ false
unfolding picture_words
separators_count_in_the_height = refl

spans_come_before_totals : misfit_of (sized (record default_config { spans = with_column_span (at 0 0) 3 [] }) 1 2 (greatest_number ∷ 1 ∷ []) (1 ∷ []) []) ≡ Some Spans
unfolding picture_words
spans_come_before_totals = refl

totals_come_before_room : misfit_of (sized default_config 1 3 (0 ∷ greatest_number ∷ 1 ∷ []) (1 ∷ []) ((codes "ab" ∷ []) ∷ [])) ≡ Some Totals
unfolding picture_words
totals_come_before_room = refl

nothing_is_asked_without_rows : misfit_of (sized (record default_config { spans = with_row_span (at 0 0) 0 [] }) 0 3 [] [] []) ≡ None
unfolding picture_words
nothing_is_asked_without_rows = refl

nothing_is_asked_without_columns : misfit_of (sized (record default_config { spans = with_row_span (at 0 0) 0 [] }) 3 0 [] (greatest_number ∷ 1 ∷ []) []) ≡ None
unfolding picture_words
nothing_is_asked_without_columns = refl

-- ---- compact tables

abbrev plain_settings : CompactSettings
plain_settings = record { borders = no_borders; borders_color = no_borders; margin = no_indents; margin_color = filled (record { prefix = []; suffix = [] }); padding = no_indents; padding_color = filled (record { prefix = []; suffix = [] }); alignment = across.Left }

abbrev compact_sized : CompactSettings → ℕ → ℕ → List ℕ → List (List Text) → CompactTable
compact_sized config rows columns widths texts = record { config = config; rows = rows; columns = columns; width = λ c. slice_index_or widths c 0; text = texts_at texts; color = λ p. None }

a_compact_column_narrower_than_its_paddings : compact_misfit_of (compact_sized (record plain_settings { padding = spaces_at 1 1 0 0 }) 1 1 (1 ∷ []) ([] ∷ [])) ≡ Some (Room 0 0)
unfolding picture_words
a_compact_column_narrower_than_its_paddings = refl

the_first_compact_column_without_room : compact_misfit_of (compact_sized (record plain_settings { padding = spaces_at 1 1 0 0 }) 2 3 (2 ∷ 0 ∷ 1 ∷ []) []) ≡ Some (Room 0 1)
unfolding picture_words
the_first_compact_column_without_room = refl

a_compact_text_needs_no_room : compact_misfit_of (compact_sized plain_settings 1 1 (2 ∷ []) ((codes "abcd" ∷ []) ∷ [])) ≡ None
unfolding picture_words
a_compact_text_needs_no_room = refl

compact_widths_past_the_greatest_number : compact_misfit_of (compact_sized plain_settings 1 2 (greatest_number ∷ 1 ∷ []) []) ≡ Some Totals
unfolding picture_words
compact_widths_past_the_greatest_number = refl

compact_totals_come_before_room : compact_misfit_of (compact_sized (record plain_settings { padding = spaces_at 1 1 0 0 }) 1 3 (0 ∷ greatest_number ∷ 1 ∷ []) []) ≡ Some Totals
unfolding picture_words
compact_totals_come_before_room = refl

nothing_is_asked_without_compact_columns : compact_misfit_of (compact_sized (record plain_settings { padding = spaces_at 1 1 0 0; margin = spaces_at 18446744073709551615 1 0 0 }) 1 0 [] []) ≡ None
unfolding picture_words
nothing_is_asked_without_compact_columns = refl

-- ---- which tables show each line of their texts, each worked out by hand

-- ---- one cell

-- spaces above and below
abbrev above_below : ℕ → ℕ → Config
above_below top bottom = record default_config { padding = everywhere (record { left = indent 0 32; right = indent 0 32; top = indent top 32; bottom = indent bottom 32 }) }

abbrev trimmed : Config
trimmed = record default_config { trim_vertical = everywhere true }

-- three lines
abbrev three : Text
three = codes "a" ++ 10 ∷ codes "b" ++ 10 ∷ codes "c"

-- a blank line, a line, two blank ones
abbrev in_blanks : Text
in_blanks = 10 ∷ codes "b" ++ 10 ∷ 10 ∷ []

three_lines_are_shown_in_three : cell_shows_all (style_at default_config (at 0 0)) three 3 ≡ true
unfolding picture_words cell_shows_all
three_lines_are_shown_in_three = refl

three_lines_are_not_shown_in_two : cell_shows_all (style_at default_config (at 0 0)) three 2 ≡ false
unfolding picture_words cell_shows_all
three_lines_are_not_shown_in_two = refl

-- the padding above them takes its lines, and the one below gives way
top_padding_hides_a_line : cell_shows_all (style_at (above_below 1 0) (at 0 0)) three 3 ≡ false
unfolding picture_words cell_shows_all
top_padding_hides_a_line = refl

bottom_padding_hides_none : cell_shows_all (style_at (above_below 0 9) (at 0 0)) three 3 ≡ true
unfolding picture_words cell_shows_all
bottom_padding_hides_none = refl

-- blank lines at the ends are asked for, unless they are trimmed
blank_lines_are_lines : cell_shows_all (style_at default_config (at 0 0)) in_blanks 3 ≡ false
unfolding picture_words cell_shows_all
blank_lines_are_lines = refl

trimmed_lines_are_none : cell_shows_all (style_at trimmed (at 0 0)) in_blanks 1 ≡ true
unfolding picture_words cell_shows_all
trimmed_lines_are_none = refl

-- an empty text has a line, which a cell of height 0 doesn't show; a blank text under vertical trim has none
an_empty_text_has_a_line : cell_shows_all (style_at default_config (at 0 0)) [] 0 ≡ false
unfolding picture_words cell_shows_all
an_empty_text_has_a_line = refl

a_blank_text_has_none_to_show : cell_shows_all (style_at trimmed (at 0 0)) (codes " ") 0 ≡ true
unfolding picture_words cell_shows_all
a_blank_text_has_none_to_show = refl

-- ---- a table

-- two rows of two columns
abbrev letters : List (List Text)
letters = (codes "a" ∷ codes "b" ∷ []) ∷ (codes "c" ∷ three ∷ []) ∷ []

a_table_shows_all : unshown_of (table default_config 2 2 (1 ∷ 1 ∷ []) (1 ∷ 3 ∷ []) letters) ≡ None
unfolding picture_words cell_shows_all owner_shows_all unshown_of
a_table_shows_all = refl

the_first_cell_is_told : unshown_of (table default_config 2 2 (1 ∷ 1 ∷ []) (1 ∷ 2 ∷ []) letters) ≡ Some (Lines 1 1)
unfolding picture_words cell_shows_all owner_shows_all unshown_of
the_first_cell_is_told = refl

-- no height is told for row 1, and no width for column 1
a_height_is_missing : unshown_of (table default_config 2 2 (1 ∷ 1 ∷ []) (1 ∷ []) letters) ≡ Some (Lines 1 0)
unfolding picture_words cell_shows_all owner_shows_all unshown_of
a_height_is_missing = refl

a_width_is_missing : unshown_of (table default_config 2 2 (1 ∷ []) (1 ∷ 3 ∷ []) letters) ≡ Some (Misfit (Room 0 1))
unfolding picture_words cell_shows_all owner_shows_all unshown_of
a_width_is_missing = refl

-- what doesn't fit comes first, also behind a cell whose lines aren't shown
a_misfit_comes_first : unshown_of (table default_config 2 2 (1 ∷ 1 ∷ []) (0 ∷ 3 ∷ []) ((three ∷ codes "b" ∷ []) ∷ (codes "c" ∷ codes "dd" ∷ []) ∷ [])) ≡ Some (Misfit (Room 1 1))
unfolding picture_words cell_shows_all owner_shows_all unshown_of
a_misfit_comes_first = refl

-- a cell of two rows stands at the separator between them, too; the text that it covers isn't asked for
abbrev tall : Config
tall = record default_config { borders = ascii; spans = with_row_span (at 0 0) 2 [] }

a_span_shows_its_lines_at_separators : unshown_of (table tall 2 1 (1 ∷ []) (1 ∷ 1 ∷ []) ((three ∷ []) ∷ (three ∷ []) ∷ [])) ≡ None
unfolding picture_words cell_shows_all owner_shows_all unshown_of
a_span_shows_its_lines_at_separators = refl

a_span_without_a_separator_is_too_low : unshown_of (table (record default_config { spans = with_row_span (at 0 0) 2 [] }) 2 1 (1 ∷ []) (1 ∷ 1 ∷ []) ((three ∷ []) ∷ (codes "x" ∷ []) ∷ [])) ≡ Some (Lines 0 0)
unfolding picture_words cell_shows_all owner_shows_all unshown_of
a_span_without_a_separator_is_too_low = refl

no_rows_show_all : unshown_of (table default_config 0 2 [] [] []) ≡ None
unfolding picture_words cell_shows_all owner_shows_all unshown_of
no_rows_show_all = refl

-- ---- a row of a printer

a_row_tells_its_first_column : unshown_in_row (table default_config 2 2 (1 ∷ 1 ∷ []) (1 ∷ 2 ∷ []) []) 1 (codes "c" ∷ three ∷ []) ≡ Some (at 1 1)
unfolding picture_words cell_shows_all height_of_rect
a_row_tells_its_first_column = refl

a_row_has_no_height : unshown_in_row (table default_config 2 2 (1 ∷ 1 ∷ []) (1 ∷ []) []) 1 (codes "c" ∷ codes "d" ∷ []) ≡ Some (at 1 0)
unfolding picture_words cell_shows_all height_of_rect
a_row_has_no_height = refl

-- a cell that goes on below counts its lines there, and the separator; the text under it isn't asked for
a_row_counts_lines_below : unshown_in_row (table tall 2 1 (1 ∷ []) (1 ∷ 1 ∷ []) []) 0 (three ∷ []) ≡ None
unfolding picture_words cell_shows_all height_of_rect
a_row_counts_lines_below = refl

a_covered_cell_is_not_asked : unshown_in_row (table tall 2 1 (1 ∷ []) (1 ∷ 1 ∷ []) []) 1 (three ∷ []) ≡ None
unfolding picture_words cell_shows_all height_of_rect
a_covered_cell_is_not_asked = refl

-- ---- a compact table

a_compact_table_shows_one_line : compact_unshown_of (compact_table_of default_compact (λ c. 0) ((codes "a" ∷ codes "wide" ∷ []) ∷ []) 2) ≡ None
unfolding picture_words default_compact compact_unshown_of
a_compact_table_shows_one_line = refl

a_second_line_is_told : compact_unshown_of (compact_table_of default_compact (λ c. 0) ((codes "a" ∷ three ∷ []) ∷ []) 2) ≡ Some (Lines 0 1)
unfolding picture_words default_compact compact_unshown_of
a_second_line_is_told = refl

-- ---- tables printed row by row, each worked out by hand

-- a printer of the table before its first row
abbrev pub start : Table → Option ℕ → Printing
start t hint = printer t.config t.columns t.width t.height t.color hint

-- the rows `x` and `a`, `b`, `c`, of which the first column is one cell
abbrev x_beside : Text → List Text
x_beside text = codes "x" ∷ text ∷ []

abbrev nothing_beside : Text → List Text
nothing_beside text = [] ∷ text ∷ []

abbrev beside_a_b_c : List (List Text)
beside_a_b_c = x_beside (codes "a") ∷ nothing_beside (codes "b") ∷ nothing_beside (codes "c") ∷ []

-- ---- three rows, of which the first cell spans all, and the second row has height 0

abbrev three_rows : Table
three_rows = table (record bordered { spans = with_row_span (at 0 0) 3 [] }) 3 2 (1 ∷ 1 ∷ []) (1 ∷ 0 ∷ 1 ∷ []) []

abbrev after_first : Printing
after_first = after_row (start three_rows (Some 3)) (x_beside (codes "a")) false

abbrev after_second : Printing
after_second = after_row after_first (nothing_beside (codes "b")) false

abbrev after_third : Printing
after_third = after_row after_second (nothing_beside (codes "c")) true

the_first_row_has_two_lines : row_lines (start three_rows (Some 3)) (x_beside (codes "a")) false ≡ codes "+-+-+" ∷ codes "|x|a|" ∷ []
unfolding printing_words
the_first_row_has_two_lines = refl

one_cell_is_open_after_the_first_row : (after_first.rows ≡ 1) × (after_first.lines ≡ 2) × (lines_printed after_first ≡ 2)
    × (after_first.is_ended ≡ false) × (after_first.slots ≡ Some (record { begun = 0; text = codes "x"; drawn = 1 }) ∷ None ∷ [])
unfolding printing_words
one_cell_is_open_after_the_first_row = (refl, refl, refl, refl, refl)

the_row_of_height_0_has_its_separator : row_lines after_first (nothing_beside (codes "b")) false ≡ codes "+ +-+" ∷ []
unfolding printing_words
the_row_of_height_0_has_its_separator = refl

the_separator_counts_as_drawn : (after_second.rows ≡ 2) × (after_second.lines ≡ 3) × (after_second.slots ≡ Some (record { begun = 0; text = codes "x"; drawn = 2 }) ∷ None ∷ [])
unfolding printing_words
the_separator_counts_as_drawn = (refl, refl, refl)

the_last_row_has_two_lines : row_lines after_second (nothing_beside (codes "c")) true ≡ codes "+ +-+" ∷ codes "| |c|" ∷ []
unfolding printing_words
the_last_row_has_two_lines = refl

no_cell_is_open_after_the_last_row : (after_third.rows ≡ 3) × (after_third.lines ≡ 5) × (after_third.is_ended ≡ true) × (after_third.slots ≡ None ∷ None ∷ [])
unfolding printing_words
no_cell_is_open_after_the_last_row = (refl, refl, refl, refl)

the_last_separator_ends_the_table : finish_lines after_third ≡ codes "+-+-+" ∷ []
unfolding printing_words
the_last_separator_ends_the_table = refl

-- ---- an open cell of which nothing is drawn yet

abbrev no_line_first : Table
no_line_first = table (record plain { spans = with_row_span (at 0 0) 2 [] }) 2 2 (1 ∷ 1 ∷ []) (0 ∷ 1 ∷ []) []

abbrev after_no_line : Printing
after_no_line = after_row (start no_line_first None) (x_beside (codes "a")) false

a_cell_is_open_before_its_first_line : (row_lines (start no_line_first None) (x_beside (codes "a")) false ≡ []) × (after_no_line.lines ≡ 0) × (lines_printed after_no_line ≡ 0)
    × (after_no_line.slots ≡ Some (record { begun = 0; text = codes "x"; drawn = 0 }) ∷ None ∷ [])
    × (row_lines after_no_line (nothing_beside (codes "b")) true ≡ codes "xb" ∷ [])
unfolding printing_words
a_cell_is_open_before_its_first_line = (refl, refl, refl, refl, refl)

-- ---- whole tables

-- only the first and the last line are there, so three rows of height 1 make a rectangle of three lines
a_text_at_the_bottom_of_a_row_span : lines_of_rows (start (table (record plain { borders = record no_borders { top = Some 61; bottom = Some 61 }; spans = with_row_span (at 0 0) 3 []; alignment_vertical = for_cell 0 0 down.Bottom }) 3 2 (1 ∷ 1 ∷ []) (1 ∷ 1 ∷ 1 ∷ []) []) None) beside_a_b_c
    ≡ codes "==" ∷ codes " a" ∷ codes " b" ∷ codes "xc" ∷ codes "==" ∷ []
unfolding printing_words
a_text_at_the_bottom_of_a_row_span = refl

a_row_span_goes_through_separators : lines_of_rows (start three_rows None) beside_a_b_c
    ≡ codes "+-+-+" ∷ codes "|x|a|" ∷ codes "+ +-+" ∷ codes "+ +-+" ∷ codes "| |c|" ∷ codes "+-+-+" ∷ []
unfolding printing_words
a_row_span_goes_through_separators = refl

-- a line feed stands before each line but the first
line_feeds_stand_between_lines : rows_text (start three_rows (Some 3)) beside_a_b_c
    ≡ codes "+-+-+" ++ 10 ∷ codes "|x|a|" ++ 10 ∷ codes "+ +-+" ++ 10 ∷ codes "+ +-+" ++ 10 ∷ codes "| |c|" ++ 10 ∷ codes "+-+-+"
unfolding printing_words
line_feeds_stand_between_lines = refl

no_row_prints_nothing : (finish_lines (start three_rows None) ≡ []) × (rows_text (start three_rows (Some 0)) [] ≡ [])
unfolding printing_words
no_row_prints_nothing = (refl, refl)

-- ---- margins

-- one row between margins, where the left one is blank at the last line if that is known
abbrev between_margins : Table
between_margins = table (record bordered { margin = record { left = indent 1 35; right = indent 0 32; top = indent 2 94; bottom = indent 1 118 }; margin_offset = record { left = End 1; right = Start 0; top = Start 0; bottom = Start 0 } }) 1 1 (2 ∷ []) (1 ∷ []) []

the_top_margin_stands_above_the_first_row : row_lines (start between_margins (Some 1)) (codes "ab" ∷ []) true ≡ codes "^^^^^" ∷ codes "^^^^^" ∷ codes "#+--+" ∷ codes "#|ab|" ∷ []
unfolding printing_words
the_top_margin_stands_above_the_first_row = refl

the_end_of_a_margin_needs_the_number_of_rows : (finish_lines (after_row (start between_margins (Some 1)) (codes "ab" ∷ []) true) ≡ codes " +--+" ∷ codes "vvvvv" ∷ [])
    × (finish_lines (after_row (start between_margins None) (codes "ab" ∷ []) true) ≡ codes "#+--+" ∷ codes "vvvvv" ∷ [])
unfolding printing_words
the_end_of_a_margin_needs_the_number_of_rows = (refl, refl)

-- ---- compact pictures, each worked out by hand

abbrev a_over_b : List (List Text)
a_over_b = (codes "a" ∷ []) ∷ (codes "b" ∷ []) ∷ []

abbrev a_beside_b : List (List Text)
a_beside_b = (codes "a" ∷ codes "b" ∷ []) ∷ []

-- ---- the whole

no_rows_make_no_compact_picture : (columns : ℕ) → compact_picture (compact_table (record plain_compact { borders = ascii; margin = filled (indent 1 35) }) 0 columns [] []) ≡ []
unfolding sample_words
no_rows_make_no_compact_picture columns = refl

no_columns_make_no_compact_picture : compact_picture (compact_table (record plain_compact { borders = ascii; margin = filled (indent 1 35) }) 2 0 [] []) ≡ []
unfolding sample_words
no_columns_make_no_compact_picture = refl

a_compact_table_of_two_rows_and_columns : compact_picture (compact_table (record plain_compact { borders = ascii }) 2 2 (3 ∷ 3 ∷ []) grid22)
    ≡ joined (codes "+---+---+" ∷ codes "|0-0|0-1|" ∷ codes "|---+---|" ∷ codes "|1-0|1-1|" ∷ codes "+---+---+" ∷ [])
unfolding sample_words
a_compact_table_of_two_rows_and_columns = refl

-- the separator between two rows ends with the glyphs of the rows' sides
an_inner_separator_ends_with_the_sides : compact_picture (compact_table (record plain_compact { borders = ascii }) 2 1 (1 ∷ []) a_over_b)
    ≡ joined (codes "+-+" ∷ codes "|a|" ∷ codes "|-|" ∷ codes "|b|" ∷ codes "+-+" ∷ [])
unfolding sample_words
an_inner_separator_ends_with_the_sides = refl

margins_and_borders : compact_picture (compact_table (record plain_compact { borders = ascii; margin = record { left = indent 1 60; right = indent 1 62; top = indent 2 94; bottom = indent 1 118 } }) 1 1 (1 ∷ []) (one (codes "a")))
    ≡ joined (codes "^^^^^" ∷ codes "^^^^^" ∷ codes "<+-+>" ∷ codes "<|a|>" ∷ codes "<+-+>" ∷ codes "vvvvv" ∷ [])
unfolding sample_words
margins_and_borders = refl

-- side margins stand round every line, coloured ones of size 0 too; a text's colour ends before its share
side_margins_stand_round_every_line : compact_picture (record (compact_table (record plain_compact {
  borders = ascii;
  margin = record { left = indent 1 35; right = indent 0 32; top = indent 0 32; bottom = indent 0 32 };
  margin_color = record { left = color_r; right = color_b; top = no_color; bottom = no_color };
  padding = record { left = indent 1 46; right = indent 0 32; top = indent 1 42; bottom = indent 1 42 };
  alignment = across.Right;
}) 2 1 (3 ∷ []) a_over_b) { color = λ p. if p.row == 0 then Some color_g else None })
    ≡ joined (codes "<r>#</r>+---+<b></b>" ∷ codes "<r>#</r>|   |<b></b>" ∷ codes "<r>#</r>|. <g>a</g>|<b></b>" ∷ codes "<r>#</r>|   |<b></b>"
    ∷ codes "<r>#</r>|---|<b></b>" ∷ codes "<r>#</r>|   |<b></b>" ∷ codes "<r>#</r>|. b|<b></b>" ∷ codes "<r>#</r>|   |<b></b>" ∷ codes "<r>#</r>+---+<b></b>" ∷ [])
unfolding sample_words
side_margins_stand_round_every_line = refl

a_coloured_margin_line : compact_picture (compact_table (record plain_compact {
  margin = record { left = indent 0 32; right = indent 1 62; top = indent 1 94; bottom = indent 0 32 };
  margin_color = record { left = no_color; right = no_color; top = color_r; bottom = color_b };
}) 1 1 (1 ∷ []) (one (codes "a"))) ≡ joined (codes "<r>^^</r>" ∷ codes "a>" ∷ [])
unfolding sample_words
a_coloured_margin_line = refl

-- ---- cells

a_text_wider_than_its_column_is_whole : compact_picture (compact_table plain_compact 1 1 (2 ∷ []) (one (codes "abcd" ++ 10 ∷ codes "x"))) ≡ codes "abcd"
unfolding sample_words
a_text_wider_than_its_column_is_whole = refl

a_first_line_loses_its_carriage_return : compact_picture (compact_table plain_compact 1 1 (2 ∷ []) (one (codes "a" ++ 13 ∷ 10 ∷ codes "x"))) ≡ codes "a "
unfolding sample_words
a_first_line_loses_its_carriage_return = refl

a_compact_text_at_the_centre : compact_picture (compact_table (record plain_compact { alignment = across.Center }) 1 1 (4 ∷ []) (one (codes "a"))) ≡ codes " a  "
unfolding sample_words
a_compact_text_at_the_centre = refl

a_compact_text_at_the_right : compact_picture (compact_table (record plain_compact { alignment = across.Right; padding = spaced 0 1 0 0 }) 1 1 (4 ∷ []) (one (codes "a"))) ≡ codes "  a "
unfolding sample_words
a_compact_text_at_the_right = refl

-- a colour stands also round an empty text
a_coloured_compact_text_that_is_empty : compact_picture (record (compact_table plain_compact 1 1 (1 ∷ []) (one [])) { color = λ p. Some color_r }) ≡ codes "<r></r> "
unfolding sample_words
a_coloured_compact_text_that_is_empty = refl

-- a padding line is spaces, whatever its fill
padding_lines_are_spaces : compact_picture (compact_table (record plain_compact { padding = record { left = indent 1 46; right = indent 1 46; top = indent 1 42; bottom = indent 0 32 } }) 1 1 (3 ∷ []) (one (codes "a")))
    ≡ joined (codes "   " ∷ codes ".a." ∷ [])
unfolding sample_words
padding_lines_are_spaces = refl

a_coloured_padding_of_size_0 : compact_picture (compact_table (record plain_compact { padding_color = record { left = color_r; right = no_color; top = no_color; bottom = no_color } }) 1 1 (1 ∷ []) (one (codes "a")))
    ≡ codes "<r></r>a"
unfolding sample_words
a_coloured_padding_of_size_0 = refl

coloured_padding_lines_by_column : compact_picture (compact_table (record plain_compact { borders = record no_borders { vertical = Some 124 }; padding = spaced 0 0 1 0; padding_color = record { left = no_color; right = no_color; top = color_b; bottom = no_color } }) 1 2 (1 ∷ 0 ∷ []) ((codes "a" ∷ [] ∷ []) ∷ []))
    ≡ joined (codes "<b> </b>|<b></b>" ∷ codes "a|" ∷ [])
unfolding sample_words
coloured_padding_lines_by_column = refl

-- ---- separators

a_coloured_corner_colours_its_line : compact_picture (compact_table (record plain_compact { borders = record no_borders { top = Some 45; top_left = Some 43; top_right = Some 43; top_intersection = Some 43 }; borders_color = record no_borders { top_left = Some color_r } }) 1 2 (1 ∷ 1 ∷ []) a_beside_b)
    ≡ joined (codes "<r>+-+-+</r>" ∷ codes "ab" ∷ [])
unfolding sample_words
a_coloured_corner_colours_its_line = refl

an_empty_colour_closes_the_open_one : compact_picture (compact_table (record plain_compact { borders = record no_borders { top = Some 45; top_left = Some 43; top_right = Some 43; top_intersection = Some 43 }; borders_color = record no_borders { top_left = Some color_r; top_intersection = Some no_color } }) 1 2 (1 ∷ 1 ∷ []) a_beside_b)
    ≡ joined (codes "<r>+-</r>+-+" ∷ codes "ab" ∷ [])
unfolding sample_words
an_empty_colour_closes_the_open_one = refl

coloured_sides : compact_picture (compact_table (record plain_compact { borders = ascii; borders_color = record no_borders { left = Some color_b; right = Some color_r } }) 2 1 (1 ∷ []) a_over_b)
    ≡ joined (codes "+-+" ∷ codes "<b>|</b>a<r>|</r>" ∷ codes "<b>|-</b><r>|</r>" ∷ codes "<b>|</b>b<r>|</r>" ∷ codes "+-+" ∷ [])
unfolding sample_words
coloured_sides = refl

-- the left end takes its own colour, and the right end too
each_end_takes_its_own_colour : compact_picture (compact_table (record plain_compact { borders = ascii; borders_color = record no_borders { top_left = Some color_r; top = Some color_g; top_right = Some color_b } }) 1 1 (2 ∷ []) (one (codes "ab")))
    ≡ joined (codes "<r>+</r><g>--</g><b>+</b>" ∷ codes "|ab|" ∷ codes "+--+" ∷ [])
unfolding sample_words
each_end_takes_its_own_colour = refl

a_column_of_width_0_has_no_main : compact_picture (compact_table (record plain_compact { borders = record no_borders { top = Some 45; top_intersection = Some 43 }; borders_color = record no_borders { top = Some color_r } }) 1 2 (0 ∷ 2 ∷ []) (([] ∷ codes "ab" ∷ []) ∷ []))
    ≡ joined (codes "+<r>--</r>" ∷ codes "ab" ∷ [])
unfolding sample_words
a_column_of_width_0_has_no_main = refl

-- the widths count a column line that has no glyph in the rows
a_compact_corner_widens_a_margin : compact_picture (compact_table (record plain_compact { borders = record no_borders { top_left = Some 43 }; margin = record { left = indent 0 32; right = indent 0 32; top = indent 1 94; bottom = indent 0 32 } }) 1 1 (1 ∷ []) (one (codes "a")))
    ≡ joined (codes "^^" ∷ codes "+ " ∷ codes "a" ∷ [])
unfolding sample_words
a_compact_corner_widens_a_margin = refl

a_side_crossing_alone_makes_separators_of_spaces : compact_picture (compact_table (record plain_compact { borders = record no_borders { left_intersection = Some 42 } }) 2 1 (1 ∷ []) a_over_b)
    ≡ joined (codes "a" ∷ codes " " ∷ codes "b" ∷ [])
unfolding sample_words
a_side_crossing_alone_makes_separators_of_spaces = refl

-- ---- a misfit is the first one that applies, and colours don't matter to it

None≢Some : (p : Position) → None ≡ Some p → ⊥
None≢Some p e = false≢true (ap (λ (o : Option Position). is_some o) e)

option_cases : (o : Option Position) → (o ≡ None) ⊎ ((p : Position) × (o ≡ Some p))
option_cases None = inl refl
option_cases (Some p) = inr (p, refl)

module _ (t : Table) where
  abbrev HasRoom : ℕ → ℕ → Type 0
  HasRoom r c = owner_fits t (at r c) ≡ true

  abbrev row_of : ℕ → List Position
  row_of r = map (at r) (range_with_len 0 t.columns)

  abbrev rows_of : ℕ → ℕ → List Position
  rows_of a k = flat_map (λ r. map (at r) (range_with_len 0 t.columns)) (range_with_len a k)

  -- the first place without room among those of row r from column a on
  record InRow (r a k : ℕ) (m : Position) : Type 0 where
    column : ℕ
    from : a ≤ column
    below : column < a + k
    is : Some (at r column) ≡ Some m
    room : owner_fits t (at r column) ≡ false
    before : (d : ℕ) → a ≤ d → d < column → HasRoom r d

  in_row : (r a k : ℕ) (m : Position) → first_failed (owner_fits t) (map (at r) (range_with_len a k)) ≡ Some m → InRow r a k m
  in_row r a zero m e = absurd (None≢Some m e)
  in_row r a (suc k) m e =
      let rest : List Position = map (at r) (range_with_len (a + 1) k) in
      elim (cases_Bool (owner_fits t (at r a))) [
        | inr n ↦ record { column = a; from = omega arith; below = omega arith; is = sym (failed_here (owner_fits t) (at r a) rest n) ∙ e; room = n; before = λ d l h. absurd (omega (arith, l, h)) }
        | inl y ↦
            let later = in_row r (a + 1) k m (sym (failed_later (owner_fits t) (at r a) rest y) ∙ e) in
            record {
              column = later.column;
              from = omega (arith, later.from);
              below = omega (arith, later.below);
              is = later.is;
              room = later.room;
              before = λ d l h. elim (cases_Bool (a == d)) [
                | inl same ↦ let is : a ≡ d = grind (arith, nat_tests, same) in subst (λ x. HasRoom r x) is y
                | inr other ↦ later.before d (grind (arith, nat_tests, other, l)) h
              ];
            }
      ]

  -- and among those of the rows from a on
  record InRows (a k : ℕ) (m : Position) : Type 0 where
    row : ℕ
    from : a ≤ row
    below : row < a + k
    place : InRow row 0 t.columns m
    before : (s d : ℕ) → a ≤ s → s < row → d < t.columns → HasRoom s d

  in_rows : (a k : ℕ) (m : Position) → first_failed (owner_fits t) (flat_map (λ r. map (at r) (range_with_len 0 t.columns)) (range_with_len a k)) ≡ Some m → InRows a k m
  in_rows a zero m e = absurd (None≢Some m e)
  in_rows a (suc k) m e =
      let row : List Position = row_of a in
      let rest : List Position = rows_of (a + 1) k in
      elim (option_cases (first_failed (owner_fits t) (row_of a))) [
        | inr found ↦
            let here : first_failed (owner_fits t) row ≡ Some m = found.1 ∙ sym (failed_before (owner_fits t) row rest found.0 found.1) ∙ e in
            record { row = a; from = omega arith; below = omega arith; place = in_row a 0 t.columns m here; before = λ s d l h k. absurd (omega (arith, l, h)) }
        | inl none ↦
            let later = in_rows (a + 1) k m (sym (failed_after (owner_fits t) row rest none) ∙ e) in
            record {
              row = later.row;
              from = omega (arith, later.from);
              below = omega (arith, later.below);
              place = later.place;
              before = λ s d l h k. elim (cases_Bool (a == s)) [
                | inl same ↦ let is : a ≡ s = grind (arith, nat_tests, same) in subst (λ x. HasRoom x d) is (passed_in_row (owner_fits t) a 0 t.columns d none (omega arith) (omega (arith, k)))
                | inr other ↦ later.before s d (grind (arith, nat_tests, other, l)) h k
              ];
            }
      ]

  judged : Bool → Bool → Option WhatMisfits
  judged s u = if not s then Some Spans else if not u then Some Totals else option_map room_of (first_failed (owner_fits t) (places t.rows t.columns))

  some_size : 0 < t.rows → 0 < t.columns → ((t.rows == 0) || (t.columns == 0)) ≡ false
  some_size h k = grind (arith, nat_tests, h, k)

  misfit_of-judged : 0 < t.rows → 0 < t.columns → misfit_of t ≡ judged (spans_fit t.config.spans t.rows t.columns) (totals_fit t)
  unfolding misfit_of judged
  misfit_of-judged h k = rw (some_size h k) refl

  told : (o : Option WhatMisfits) → misfit_of t ≡ o → Tells t o → Tells t (misfit_of t)
  told o e h = let P : Option WhatMisfits → Type 0 = λ q. Tells t q in subst P (sym e) h

  -- where spans and totals fit, the rooms tell
  rooms : 0 < t.rows → 0 < t.columns → spans_fit t.config.spans t.rows t.columns ≡ true → totals_fit t ≡ true → Tells t (misfit_of t)
  unfolding judged places
  rooms h k spans totals =
      let is : misfit_of t ≡ option_map room_of (first_failed (owner_fits t) (rows_of 0 t.rows)) = misfit_of-judged h k ∙ rw (spans, totals) refl in
      elim (option_cases (first_failed (owner_fits t) (rows_of 0 t.rows))) [
        | inl none ↦ told None (is ∙ ap (λ (o : Option Position). option_map room_of o) none) (fits t (is ∙ ap (option_map room_of) none) h k)
        | inr found ↦
            let first = in_rows 0 t.rows found.0 found.1 in
            let place = first.place in
            told (Some (Room first.row place.column)) (is ∙ ap (λ (o : Option Position). option_map room_of o) (found.1 ∙ sym place.is)) (record {
              spans = spans;
              totals = totals;
              row = omega (arith, first.below);
              column = omega (arith, place.below);
              room = place.room;
              rows_before = λ s d l m. first.before s d (omega arith) l m;
              columns_before = λ d l. place.before d (omega arith) l;
            })
      ]

pub misfits_are_first : MisfitsAreFirst
unfolding judged
misfits_are_first t h k =
    elim (cases_Bool (spans_fit t.config.spans t.rows t.columns)) [
      | inr n ↦ told t (Some Spans) (misfit_of-judged t h k ∙ rw n refl) n
      | inl y ↦ elim (cases_Bool (totals_fit t)) [
        | inr n ↦ told t (Some Totals) (misfit_of-judged t h k ∙ rw (y, n) refl) (y, n)
        | inl z ↦ rooms t h k y z
      ]
    ]

-- colours don't matter
pub misfit_of-colors : ColorsDontMatter
unfolding misfit_of owner_fits rect_width rect_height rect_marks totals_fit full_width total_width body_height
misfit_of-colors t color = refl

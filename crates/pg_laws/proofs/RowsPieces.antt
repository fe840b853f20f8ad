-- Pieces of pictures, each worked out by hand: shares, marks, colours, texts, and characters over a row line.
use Rattle.std.proofs.Common.{◌≡◌, ℕ, List, [], ◌∷◌, ◌++◌, length, refl, Some, None, true, false, map, zero, suc}
use Rattle.std.specs.Prelude.{codes, slice_index_or}
use Rattle.pg_layout.specs.declared.alignment.AlignmentHorizontal.TheVariants as across
use Rattle.pg_layout.specs.declared.alignment.AlignmentVertical.TheVariants as down
use Rattle.pg_layout.specs.Borders.{no_borders, no_border}
use Rattle.pg_layout.specs.Colors.{Color}
use Rattle.pg_layout.specs.Text.{lines_of, blank_top, blank_bottom, without_blank_ends, Text, width_of, text_width_of, is_blank, first_line_of}
use Rattle.pg_config.specs.Config.{Config, default_config}
use Rattle.pg_picture.specs.Marks.{sep, line, body, marks_within, place_of}
use Rattle.pg_picture.specs.Pieces.{run, words, fill, written, pieces_width, shares, lines_above, cut, widest, shown, glyph, spaces, block, separator_text, joined}
use Rattle.pg_picture.proofs.Computing.{picture_words, grid_words}
use Rattle.std.specs.Fmt.{digits}
use Rattle.pg_layout.specs.declared.sides.Offset.TheVariants.{Start, End}
use Rattle.pg_layout.specs.declared.borders.Borders.{Borders}
use Rattle.pg_layout.specs.Terminal.{plain as untold, color_texts}
use Rattle.pg_layout.specs.declared.terminal.Hue.TheVariants.{Normal, Bright, Palette, Rgb}
use Rattle.pg_layout.specs.declared.terminal.Tint.TheVariants.{Red, White}
use Rattle.pg_layout.specs.Position.{at}
use Rattle.pg_config.specs.Offsets.{with_offset, no_offsets}
use Rattle.pg_config.specs.Overrides.{with_border, no_overrides}
use Rattle.pg_config.specs.Spans.{with_row_span}
use Rattle.pg_picture.specs.Table.{Known}
use Rattle.pg_picture.specs.Picture.{picture}
use Rattle.pg_picture.specs.Samples.{table, plain, bordered, indent}
use Rattle.pg_laws.specs.Samples.{one, in_colors, color_r, color_b, color_g, for_all}
use Rattle.pg_layout.specs.LineCursor.{stands_in, line_number}
use Rattle.pg_layout.proofs.Computing.{text_words}
use Rattle.std.specs.List.{range_with_len}
use Rattle.pg_config.specs.LineGlyphs.{line_place, with_line_glyphs}
use Rattle.pg_config.specs.declared.line_glyphs.LinePlace.TheVariants.{Glyph, Crossing}

-- ---- shares, colours between two items, and the marks of a body, each worked out by hand

-- ---- shares from left to right

the_left_share_of_left : shares across.Left 2 5 ≡ (0, 3)
unfolding picture_words
the_left_share_of_left = refl

the_shares_of_right : shares across.Right 2 5 ≡ (3, 0)
unfolding picture_words
the_shares_of_right = refl

the_odd_column_is_at_the_right : shares across.Center 2 5 ≡ (1, 2)
unfolding picture_words
the_odd_column_is_at_the_right = refl

an_even_rest_is_halved : shares across.Center 1 5 ≡ (2, 2)
unfolding picture_words
an_even_rest_is_halved = refl

-- ---- lines above a text

no_line_above_a_bottom_text_that_fills : lines_above down.Bottom 1 1 ≡ 0
unfolding picture_words
no_line_above_a_bottom_text_that_fills = refl

no_line_above_a_top_text_that_fills : lines_above down.Top 1 1 ≡ 0
unfolding picture_words
no_line_above_a_top_text_that_fills = refl

no_line_above_a_middle_text_that_fills : lines_above down.Center 1 1 ≡ 0
unfolding picture_words
no_line_above_a_middle_text_that_fills = refl

all_free_lines_above_a_bottom_text : lines_above down.Bottom 3 1 ≡ 2
unfolding picture_words
all_free_lines_above_a_bottom_text = refl

no_line_above_a_top_text : lines_above down.Top 3 1 ≡ 0
unfolding picture_words
no_line_above_a_top_text = refl

half_of_two_lines_above_a_middle_text : lines_above down.Center 3 1 ≡ 1
unfolding picture_words
half_of_two_lines_above_a_middle_text = refl

the_odd_line_is_below_a_middle_text : lines_above down.Center 4 1 ≡ 1
unfolding picture_words
the_odd_line_is_below_a_middle_text = refl

-- ---- lines of a text

abbrev blank_round_ab : List ℕ
blank_round_ab = codes " " ++ 10 ∷ codes "  ab " ++ 10 ∷ 10 ∷ []

all_lines_are_shown_without_trim : shown (record { horizontal_trim = false; vertical_trim = false; allow_lines_alignment = false }) blank_round_ab ≡ codes " " ∷ codes "  ab " ∷ [] ∷ [] ∷ []
unfolding picture_words
all_lines_are_shown_without_trim = refl

horizontal_trim_shortens_each_line : shown (record { horizontal_trim = true; vertical_trim = false; allow_lines_alignment = false }) blank_round_ab ≡ [] ∷ codes "ab" ∷ [] ∷ [] ∷ []
unfolding picture_words
horizontal_trim_shortens_each_line = refl

vertical_trim_leaves_blank_ends_out : shown (record { horizontal_trim = false; vertical_trim = true; allow_lines_alignment = false }) blank_round_ab ≡ codes "  ab " ∷ []
unfolding picture_words
vertical_trim_leaves_blank_ends_out = refl

both_trims_leave_the_word : shown (record { horizontal_trim = true; vertical_trim = true; allow_lines_alignment = false }) blank_round_ab ≡ codes "ab" ∷ []
unfolding picture_words
both_trims_leave_the_word = refl

the_widest_line_has_its_spaces : widest (record { horizontal_trim = false; vertical_trim = true; allow_lines_alignment = false }) blank_round_ab ≡ 5
unfolding picture_words
the_widest_line_has_its_spaces = refl

the_widest_line_is_trimmed : widest (record { horizontal_trim = true; vertical_trim = false; allow_lines_alignment = false }) blank_round_ab ≡ 2
unfolding picture_words
the_widest_line_is_trimmed = refl

-- how many lines stand between the blank ones, and how many blank ones at the front and at the end
abbrev kept_and_blank : List ℕ → List ℕ
kept_and_blank text = let lines = lines_of text in length (without_blank_ends lines) ∷ blank_top lines ∷ blank_bottom lines ∷ []

blank_ends_round_one_line : kept_and_blank (10 ∷ 10 ∷ codes "some text" ++ 10 ∷ 10 ∷ 10 ∷ []) ≡ 1 ∷ 2 ∷ 3 ∷ []
unfolding picture_words
blank_ends_round_one_line = refl

blank_ends_round_two_lines : kept_and_blank (10 ∷ 10 ∷ codes "some" ++ 10 ∷ codes "text" ++ 10 ∷ 10 ∷ 10 ∷ []) ≡ 2 ∷ 2 ∷ 3 ∷ []
unfolding picture_words
blank_ends_round_two_lines = refl

blank_ends_round_three_lines : kept_and_blank (10 ∷ 10 ∷ codes "some" ++ 10 ∷ codes "some" ++ 10 ∷ codes "text" ++ 10 ∷ 10 ∷ 10 ∷ []) ≡ 3 ∷ 2 ∷ 3 ∷ []
unfolding picture_words
blank_ends_round_three_lines = refl

-- a text that is blank is blank at the front alone
a_blank_text_is_all_front : kept_and_blank (10 ∷ 10 ∷ 10 ∷ 10 ∷ []) ≡ 0 ∷ 5 ∷ 0 ∷ []
unfolding picture_words
a_blank_text_is_all_front = refl

-- ---- pieces

abbrev red : Color
red = record { prefix = codes "<r>"; suffix = codes "</r>" }

abbrev blue : Color
blue = record { prefix = codes "<b>"; suffix = codes "</b>" }

a_fill_of_size_0_has_no_colour : written (fill 46 0 (Some red)) ≡ []
unfolding picture_words
a_fill_of_size_0_has_no_colour = refl

a_text_of_no_character_has_its_colour : written (words [] (Some red) ∷ []) ≡ codes "<r></r>"
unfolding picture_words
a_text_of_no_character_has_its_colour = refl

the_width_of_pieces_is_without_colours : pieces_width (run 46 3 (Some red) ∷ words (codes "ab") (Some blue) ∷ []) ≡ 5
unfolding picture_words
the_width_of_pieces_is_without_colours = refl

-- ---- colours along a separator

no_cut_between_equal_colours : cut (Some red) (Some (record { prefix = codes "<r>"; suffix = codes "</r>" })) ≡ []
unfolding picture_words
no_cut_between_equal_colours = refl

a_cut_closes_and_opens : cut (Some red) (Some blue) ≡ codes "</r><b>"
unfolding picture_words
a_cut_closes_and_opens = refl

a_cut_to_no_colour_closes : cut (Some red) None ≡ codes "</r>"
unfolding picture_words
a_cut_to_no_colour_closes = refl

-- spaces stay in the colour before them, a block line in none, and an offset colour stands within its glyph's own
items_in_colours : separator_text (spaces 1 ∷ glyph 43 (Some red) None ∷ spaces 2 ∷ block [] ∷ spaces 1 ∷ glyph 45 (Some red) (Some blue) ∷ glyph 45 (Some red) None ∷ [])
    ≡ codes " <r>+  </r> <r></r><b>-</b><r>-</r>"
unfolding picture_words
items_in_colours = refl

-- ---- marks

-- only the line between two rows is there
abbrev lined_inside : Config
lined_inside = record default_config { borders = record no_borders { horizontal = Some 45 } }

abbrev heights : ℕ → ℕ
heights r = slice_index_or (1 ∷ 0 ∷ 2 ∷ []) r 0

a_body_of_three_rows : body lined_inside heights 3 ≡ line 0 0 ∷ sep 1 ∷ sep 2 ∷ line 2 0 ∷ line 2 1 ∷ []
unfolding picture_words
a_body_of_three_rows = refl

a_rectangle_of_the_first_two_rows : marks_within lined_inside heights 3 0 2 ≡ line 0 0 ∷ sep 1 ∷ []
unfolding picture_words
a_rectangle_of_the_first_two_rows = refl

a_rectangle_of_the_last_two_rows : marks_within lined_inside heights 3 1 3 ≡ sep 2 ∷ line 2 0 ∷ line 2 1 ∷ []
unfolding picture_words
a_rectangle_of_the_last_two_rows = refl

a_line_stands_at_its_index : place_of (line 2 1) (marks_within lined_inside heights 3 1 3) ≡ 2
unfolding picture_words
a_line_stands_at_its_index = refl

-- all lines are there, and the rows have the heights 1 and 2
abbrev lined : Config
lined = record default_config { borders = record no_borders { top = Some 45; horizontal = Some 45; bottom = Some 45 } }

abbrev one_and_two : ℕ → ℕ
one_and_two r = slice_index_or (1 ∷ 2 ∷ []) r 0

a_body_with_all_separators : body lined one_and_two 2 ≡ sep 0 ∷ line 0 0 ∷ sep 1 ∷ line 1 0 ∷ line 1 1 ∷ sep 2 ∷ []
unfolding picture_words
a_body_with_all_separators = refl

a_rectangle_has_the_separators_between_its_rows : marks_within lined one_and_two 2 0 2 ≡ line 0 0 ∷ sep 1 ∷ line 1 0 ∷ line 1 1 ∷ []
unfolding picture_words
a_rectangle_has_the_separators_between_its_rows = refl

a_separator_stands_at_its_index : place_of (sep 1) (marks_within lined one_and_two 2 0 2) ≡ 1
unfolding picture_words
a_separator_stands_at_its_index = refl

-- ---- colours of terminals, and pictures with colours and with glyphs by offset, each worked out by hand

-- ---- colours of terminals

-- commands, each behind an escape
abbrev commands : List (List ℕ) → Text
commands [] = []
commands (c ∷ cs) = 27 ∷ (c ++ commands cs)

a_red_text_in_bold : color_texts (record untold { text = Some (Normal Red); is_bold = true })
    ≡ record { prefix = commands (codes "[1m" ∷ codes "[31m" ∷ []); suffix = commands (codes "[39m" ∷ codes "[22m" ∷ []) }
unfolding digits
a_red_text_in_bold = refl

a_bright_ground_and_lines_below : color_texts (record untold { behind = Some (Bright White); is_italic = true; is_underlined = true })
    ≡ record { prefix = commands (codes "[3m" ∷ codes "[4m" ∷ codes "[107m" ∷ []); suffix = commands (codes "[49m" ∷ codes "[24m" ∷ codes "[23m" ∷ []) }
unfolding digits
a_bright_ground_and_lines_below = refl

hues_by_number : color_texts (record untold { text = Some (Palette 208); behind = Some (Rgb 0 16 255) })
    ≡ record { prefix = commands (codes "[38;5;208m" ∷ codes "[48;2;0;16;255m" ∷ []); suffix = commands (codes "[49m" ∷ codes "[39m" ∷ []) }
unfolding digits
hues_by_number = refl

nothing_told_writes_nothing : color_texts untold ≡ record { prefix = []; suffix = [] }
nothing_told_writes_nothing = refl

-- ---- cells

a_colour_stands_round_an_empty_text : picture Known (in_colors (λ p. Some color_r) (table plain 1 1 (1 ∷ []) (1 ∷ []) (one [])))
    ≡ codes "<r></r> "
unfolding grid_words
a_colour_stands_round_an_empty_text = refl

a_text_without_lines_has_no_colour : picture Known (in_colors (λ p. Some color_r) (table (record plain { trim_vertical = for_all true }) 1 1 (1 ∷ []) (1 ∷ []) (one [])))
    ≡ codes " "
unfolding grid_words
a_text_without_lines_has_no_colour = refl

-- a terminal's red: escape, `[31m`, the text, escape, `[0m`
a_colour_of_a_terminal : picture Known (in_colors (λ p. Some (record { prefix = 27 ∷ codes "[31m"; suffix = 27 ∷ codes "[0m" })) (table plain 1 1 (3 ∷ []) (1 ∷ []) (one (codes "ab"))))
    ≡ 0x1B ∷ 0x5B ∷ 0x33 ∷ 0x31 ∷ 0x6D ∷ 0x61 ∷ 0x62 ∷ 0x1B ∷ 0x5B ∷ 0x30 ∷ 0x6D ∷ 0x20 ∷ []
unfolding grid_words
a_colour_of_a_terminal = refl

abbrev two_lines : Text
two_lines = codes "a" ++ 10 ∷ codes "bbb"

-- dots in a colour fill what the text leaves free
abbrev dotted : Config
dotted = record plain { justification = for_all 46; justification_color = for_all (Some color_g) }

justification_at_the_left : picture Known (table dotted 1 1 (5 ∷ []) (2 ∷ []) (one two_lines))
    ≡ joined (codes "a<g>....</g>" ∷ codes "bbb<g>..</g>" ∷ [])
unfolding grid_words
justification_at_the_left = refl

justification_at_both_sides : picture Known (table (record dotted { alignment_horizontal = for_all across.Center }) 1 1 (5 ∷ []) (2 ∷ []) (one two_lines))
    ≡ joined (codes "<g>.</g>a<g>...</g>" ∷ codes "<g>.</g>bbb<g>.</g>" ∷ [])
unfolding grid_words
justification_at_both_sides = refl

justification_at_the_right : picture Known (table (record dotted { alignment_horizontal = for_all across.Right }) 1 1 (5 ∷ []) (2 ∷ []) (one two_lines))
    ≡ joined (codes "<g>..</g>a<g>..</g>" ∷ codes "<g>..</g>bbb" ∷ [])
unfolding grid_words
justification_at_the_right = refl

-- ---- verticals

abbrev with_colons : Config
with_colons = record plain { borders = record no_borders { left = Some 58 } }

an_offset_glyph_from_the_end_of_a_vertical : picture Known (table (record with_colons { vertical_chars = with_offset (at 0 0) (End 0) 35 no_offsets }) 1 1 (1 ∷ []) (2 ∷ []) (one (codes "a" ++ 10 ∷ codes "b")))
    ≡ joined (codes ":a" ∷ codes "#b" ∷ [])
unfolding grid_words
an_offset_glyph_from_the_end_of_a_vertical = refl

an_offset_from_the_start_wins : picture Known (table (record with_colons { vertical_chars = with_offset (at 0 0) (End 0) 35 (with_offset (at 0 0) (Start 0) 42 no_offsets) }) 1 1 (1 ∷ []) (1 ∷ []) (one (codes "a")))
    ≡ codes "*a"
unfolding grid_words
an_offset_from_the_start_wins = refl

an_offset_colour_of_a_vertical : picture Known (table (record with_colons { vertical_colors = with_offset (at 0 0) (Start 0) color_b no_offsets; padding = for_all (record { left = indent 1 46; right = indent 0 32; top = indent 0 32; bottom = indent 0 32 }); padding_color = for_all (record { left = Some color_g; right = None; top = None; bottom = None }) }) 1 1 (2 ∷ []) (1 ∷ []) (one (codes "a")))
    ≡ codes "<b>:</b><g>.</g>a"
unfolding grid_words
an_offset_colour_of_a_vertical = refl

a_border_colour_of_a_vertical_wins : picture Known (table (record with_colons { border_colors = record no_borders { left = Some color_r }; border_colored = true; vertical_colors = with_offset (at 0 0) (Start 0) color_b no_offsets }) 1 1 (1 ∷ []) (1 ∷ []) (one (codes "a")))
    ≡ codes "<r>:</r>a"
unfolding grid_words
a_border_colour_of_a_vertical_wins = refl

-- ---- separators

abbrev red_top : Borders Color
red_top = record no_borders { top = Some color_r; top_left = Some color_r; top_right = Some color_r; top_intersection = Some color_r }

an_offset_glyph_and_its_colour_in_a_coloured_line : picture Known (table (record bordered { border_colors = red_top; border_colored = true; horizontal_chars = with_offset (at 0 0) (Start 1) 42 no_offsets; horizontal_colors = with_offset (at 0 0) (Start 1) color_b no_offsets }) 1 1 (3 ∷ []) (1 ∷ []) (one (codes "abc")))
    ≡ joined (codes "<r>+-</r><b>*</b><r>-+</r>" ∷ codes "|abc|" ∷ codes "+---+" ∷ [])
unfolding grid_words
an_offset_glyph_and_its_colour_in_a_coloured_line = refl

an_offset_glyph_and_its_colour_from_the_end : picture Known (table (record bordered { horizontal_chars = with_offset (at 0 0) (End 0) 42 no_offsets; horizontal_colors = with_offset (at 0 0) (End 0) color_b no_offsets }) 1 1 (3 ∷ []) (1 ∷ []) (one (codes "abc")))
    ≡ joined (codes "+--<b>*</b>+" ∷ codes "|abc|" ∷ codes "+---+" ∷ [])
unfolding grid_words
an_offset_glyph_and_its_colour_from_the_end = refl

an_offset_colour_like_the_lines_own : picture Known (table (record bordered { border_colors = red_top; border_colored = true; horizontal_colors = with_offset (at 0 0) (Start 0) color_r no_offsets }) 1 1 (3 ∷ []) (1 ∷ []) (one (codes "abc")))
    ≡ joined (codes "<r>+</r><r>-</r><r>--+</r>" ∷ codes "|abc|" ∷ codes "+---+" ∷ [])
unfolding grid_words
an_offset_colour_like_the_lines_own = refl

-- the line's colour is opened, and closed at once
an_offset_colour_at_the_front_of_a_line : picture Known (table (record plain { borders = record no_borders { top = Some 45 }; border_colors = record no_borders { top = Some color_r }; border_colored = true; horizontal_colors = with_offset (at 0 0) (Start 0) color_b no_offsets }) 1 1 (2 ∷ []) (1 ∷ []) (one (codes "ab")))
    ≡ joined (codes "<r></r><b>-</b><r>-</r>" ∷ codes "ab" ∷ [])
unfolding grid_words
an_offset_colour_at_the_front_of_a_line = refl

abbrev one_coloured_override : Config
one_coloured_override = record plain { overrides = with_border (at 0 0) (record no_border { top = Some 61 }) no_overrides; color_overrides = with_border (at 0 0) (record no_border { top = Some color_r }) no_overrides; border_colored = true }

spaces_keep_a_colour_open : picture Known (table (record one_coloured_override { missing = None }) 1 2 (2 ∷ 2 ∷ []) (1 ∷ []) ((codes "ab" ∷ codes "cd" ∷ []) ∷ []))
    ≡ joined (codes "<r>==  </r>" ∷ codes "abcd" ∷ [])
unfolding grid_words
spaces_keep_a_colour_open = refl

a_missing_glyph_closes_a_colour : picture Known (table one_coloured_override 1 2 (2 ∷ 2 ∷ []) (1 ∷ []) ((codes "ab" ∷ codes "cd" ∷ []) ∷ []))
    ≡ joined (codes "<r>==</r>  " ∷ codes "abcd" ∷ [])
unfolding grid_words
a_missing_glyph_closes_a_colour = refl

another_colour_closes_the_open_one : picture Known (table (record bordered { border_colors = record no_borders { top = Some color_b; top_left = Some color_r; top_right = Some color_r }; border_colored = true }) 1 1 (2 ∷ []) (1 ∷ []) (one (codes "ab")))
    ≡ joined (codes "<r>+</r><b>--</b><r>+</r>" ∷ codes "|ab|" ∷ codes "+--+" ∷ [])
unfolding grid_words
another_colour_closes_the_open_one = refl

a_rectangle_closes_the_colour_of_a_separator : picture Known (table (record bordered { border_colors = record no_borders { horizontal = Some color_r; intersection = Some color_r; left_intersection = Some color_r; right_intersection = Some color_r }; border_colored = true; spans = with_row_span (at 0 0) 2 [] }) 2 2 (1 ∷ 1 ∷ []) (1 ∷ 1 ∷ []) ((codes "x" ∷ codes "a" ∷ []) ∷ ([] ∷ codes "b" ∷ []) ∷ []))
    ≡ joined (codes "+-+-+" ∷ codes "|x|a|" ∷ codes "<r>+</r> <r>+-+</r>" ∷ codes "| |b|" ∷ codes "+-+-+" ∷ [])
unfolding grid_words
a_rectangle_closes_the_colour_of_a_separator = refl

abbrev red_lines : Config
red_lines = record plain { borders = record no_borders { horizontal = Some 45 }; border_colors = record no_borders { horizontal = Some color_r }; border_colored = true }

abbrev around_nothing : List (List Text)
around_nothing = (codes "a" ∷ [] ∷ codes "b" ∷ []) ∷ (codes "c" ∷ [] ∷ codes "d" ∷ []) ∷ []

a_column_of_width_0_keeps_a_colour_open : picture Known (table red_lines 2 3 (1 ∷ 0 ∷ 1 ∷ []) (1 ∷ 1 ∷ []) around_nothing)
    ≡ joined (codes "ab" ∷ codes "<r>--</r>" ∷ codes "cd" ∷ [])
unfolding grid_words
a_column_of_width_0_keeps_a_colour_open = refl

a_rectangle_of_width_0_closes_a_colour : picture Known (table (record red_lines { spans = with_row_span (at 0 1) 2 [] }) 2 3 (1 ∷ 0 ∷ 1 ∷ []) (1 ∷ 1 ∷ []) around_nothing)
    ≡ joined (codes "ab" ∷ codes "<r>-</r><r>-</r>" ∷ codes "cd" ∷ [])
unfolding grid_words
a_rectangle_of_width_0_closes_a_colour = refl

-- ---- what the words on texts are at some texts

-- the empty text has one empty line
lines_of-empty : lines_of [] ≡ [] ∷ []
unfolding text_words
lines_of-empty = refl

lines_of-three : lines_of (codes "a" ++ 10 ∷ 10 ∷ codes "b") ≡ codes "a" ∷ [] ∷ codes "b" ∷ []
unfolding text_words
lines_of-three = refl

length-lines_of-three : length (lines_of (codes "a" ++ 10 ∷ 10 ∷ codes "b")) ≡ 3
unfolding text_words
length-lines_of-three = refl

-- a line feed at the end is followed by an empty line, and a carriage return stays
lines_of-return : lines_of (codes "a" ++ 13 ∷ 10 ∷ []) ≡ (97 ∷ 13 ∷ []) ∷ [] ∷ []
unfolding text_words
lines_of-return = refl

first_line_of-return : first_line_of (codes "a" ++ 13 ∷ 10 ∷ codes "b") ≡ codes "a"
unfolding text_words
first_line_of-return = refl

-- a carriage return that no line feed follows stays
first_line_of-lone_return : first_line_of (codes "a" ++ 13 ∷ []) ≡ codes "a" ++ 13 ∷ []
unfolding text_words
first_line_of-lone_return = refl

first_line_of-empty : first_line_of (10 ∷ codes "b") ≡ []
unfolding text_words
first_line_of-empty = refl

first_line_of-two_returns : first_line_of (codes "a" ++ 13 ∷ 13 ∷ 10 ∷ codes "b") ≡ codes "a" ++ 13 ∷ []
unfolding text_words
first_line_of-two_returns = refl

-- two characters of two columns, of three bytes each
width_of-wide : width_of (0xE6 ∷ 0x97 ∷ 0xA5 ∷ 0xE6 ∷ 0x9C ∷ 0xAC ∷ []) ≡ 4
unfolding text_words
width_of-wide = refl

width_of-ascii : width_of (codes "hello") ≡ 5
unfolding text_words
width_of-ascii = refl

-- a carriage return takes a column where no line feed follows
width_of-returns : width_of (codes "123" ++ 13 ∷ 13 ∷ 13 ∷ codes "567") ≡ 9
unfolding text_words
width_of-returns = refl

text_width_of-widest : text_width_of (codes "a" ++ 10 ∷ codes "bbb" ++ 10 ∷ codes "cc") ≡ 3
unfolding text_words
text_width_of-widest = refl

is_blank-spaces : is_blank (32 ∷ 9 ∷ 0xC2 ∷ 0xA0 ∷ []) ≡ true
unfolding text_words
is_blank-spaces = refl

is_blank-letter : is_blank (codes " a ") ≡ false
unfolding text_words
is_blank-letter = refl

blank_top-two : blank_top (lines_of (10 ∷ 10 ∷ codes "some" ++ 10 ∷ codes "text" ++ 10 ∷ 10 ∷ 10 ∷ [])) ≡ 2
unfolding text_words
blank_top-two = refl

blank_bottom-three : blank_bottom (lines_of (10 ∷ 10 ∷ codes "some" ++ 10 ∷ codes "text" ++ 10 ∷ 10 ∷ 10 ∷ [])) ≡ 3
unfolding text_words
blank_bottom-three = refl

without_blank_ends-two : without_blank_ends (lines_of (10 ∷ 10 ∷ codes "some" ++ 10 ∷ codes "text" ++ 10 ∷ 10 ∷ 10 ∷ [])) ≡ codes "some" ∷ codes "text" ∷ []
unfolding text_words
without_blank_ends-two = refl

-- blank lines inside stay
without_blank_ends-inside : without_blank_ends (lines_of (codes " " ++ 10 ∷ codes "a" ++ 10 ∷ 10 ∷ codes "b")) ≡ codes "a" ∷ [] ∷ codes "b" ∷ []
unfolding text_words
without_blank_ends-inside = refl

-- the places at which a cursor stands in a text of two lines, and one at which it does not
stands_in-places : map (λ place. stands_in place (codes "ab" ++ 10 ∷ codes "c")) (0 ∷ 1 ∷ 2 ∷ 3 ∷ 4 ∷ 5 ∷ 6 ∷ []) ≡ true ∷ false ∷ false ∷ true ∷ false ∷ true ∷ false ∷ []
unfolding text_words
stands_in-places = refl

line_number-places : map (λ place. line_number place (codes "ab" ++ 10 ∷ codes "c")) (0 ∷ 3 ∷ 5 ∷ []) ≡ 0 ∷ 1 ∷ 2 ∷ []
unfolding text_words
line_number-places = refl

-- ---- characters over the glyphs of a row line, each worked out by hand

-- two columns of the widths 3 and 2
abbrev three_two : ℕ → ℕ
three_two zero = 3
three_two (suc c) = 2

-- of the seven columns of a line the fourth is the crossing, and behind the sixth there is none
the_columns_of_a_line : map (line_place bordered 2 three_two) (range_with_len 0 7)
    ≡ Some (Glyph 0 0) ∷ Some (Glyph 0 1) ∷ Some (Glyph 0 2) ∷ Some (Crossing 1) ∷ Some (Glyph 1 0) ∷ Some (Glyph 1 1) ∷ None ∷ []
unfolding grid_words line_place
the_columns_of_a_line = refl

without_column_lines_there_is_no_crossing : map (line_place plain 2 three_two) (range_with_len 0 6)
    ≡ Some (Glyph 0 0) ∷ Some (Glyph 0 1) ∷ Some (Glyph 0 2) ∷ Some (Glyph 1 0) ∷ Some (Glyph 1 1) ∷ None ∷ []
unfolding grid_words line_place
without_column_lines_there_is_no_crossing = refl

-- a column of width 0 has no glyph
abbrev none_then_one : ℕ → ℕ
none_then_one zero = 0
none_then_one (suc zero) = 1
none_then_one (suc (suc c)) = 0

columns_of_width_0_are_passed : map (line_place bordered 3 none_then_one) (range_with_len 0 4)
    ≡ Some (Crossing 1) ∷ Some (Glyph 1 0) ∷ Some (Crossing 2) ∷ None ∷ []
unfolding grid_words line_place
columns_of_width_0_are_passed = refl

-- the table of one row of these two columns
abbrev drawn : Config → Text
drawn config = picture Known (table config 1 2 (3 ∷ 2 ∷ []) (1 ∷ []) ((codes "abc" ∷ codes "de" ∷ []) ∷ []))

over_a_crossing : drawn (with_line_glyphs 0 1 2 three_two 2 (codes "Hi!") bordered)
    ≡ joined (codes "+--Hi!-+" ∷ codes "|abc|de|" ∷ codes "+---+--+" ∷ [])
unfolding grid_words line_place with_line_glyphs
over_a_crossing = refl

cut_behind_the_last_column : drawn (with_line_glyphs 1 1 2 three_two 4 (codes "long") bordered)
    ≡ joined (codes "+---+--+" ∷ codes "|abc|de|" ∷ codes "+---+lo+" ∷ [])
unfolding grid_words line_place with_line_glyphs
cut_behind_the_last_column = refl

a_line_that_is_not_there_gets_none : drawn (with_line_glyphs 0 1 2 three_two 0 (codes "Hi!") (record plain { borders = record no_borders { vertical = Some 124 } }))
    ≡ codes "abc|de"
unfolding grid_words line_place with_line_glyphs
a_line_that_is_not_there_gets_none = refl

-- what a merged cell hides of a line stays hidden
beside_a_merged_cell : picture Known (table (with_line_glyphs 1 2 2 three_two 1 (codes "Hi!") (record bordered { spans = with_row_span (record { row = 0; col = 0 }) 2 [] })) 2 2 (3 ∷ 2 ∷ []) (1 ∷ 1 ∷ []) ((codes "a" ∷ codes "b" ∷ []) ∷ ([] ∷ codes "c" ∷ []) ∷ []))
    ≡ joined (codes "+---+--+" ∷ codes "|a  |b |" ∷ codes "+   !--+" ∷ codes "|   |c |" ∷ codes "+---+--+" ∷ [])
unfolding grid_words line_place with_line_glyphs
beside_a_merged_cell = refl

-- `unfolding text_words` lets `refl` compute the definitions of this crate.
use Rattle.std.specs.Str.{trim_start, trim_end, chars}
use Rattle.std.specs.Char.{encode_utf8}
use Rattle.unicode_width.proofs.Computing.{unicode_width}
use Rattle.pg_layout.specs.Text.{lines_of, width_of, text_width_of, is_blank, blank_top, blank_bottom, without_blank_ends, first_line_of}
use Rattle.pg_layout.specs.LineCursor.{stands_in, line_number}
use Rattle.pg_layout.specs.Borders.{has_top, has_bottom, has_left, has_right, has_inner_horizontal, has_inner_vertical, horizontal_glyph, vertical_glyph, crossing_glyph, has_side}

unfoldable pub text_words : Unit {0}
unfolding trim_start trim_end chars encode_utf8 unicode_width lines_of width_of text_width_of is_blank blank_top blank_bottom without_blank_ends first_line_of stands_in line_number has_top has_bottom has_left has_right has_inner_horizontal has_inner_vertical horizontal_glyph vertical_glyph crossing_glyph has_side
text_words = tt

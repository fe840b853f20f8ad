-- Sets of lemmas that attributes of functions hand to the prover.
use Rattle.pg_picture.proofs.PiecesOfLines.{repeated-zero, repeated-one, repeated-add, encode-vertical, written-side_blank, written-side_filled, indent-plain, indent-colored, lent-color, written-glyph_piece}
use Rattle.pg_picture.proofs.PlacesOfTexts.{cell_fits-width, facts_of-single, widest-untrimmed, lines_above-le, length-shown}
use Rattle.pg_layout.proofs.TextLines.{lines_of-one, first_line_of-one, width_of-plain, text_width_of-plain, feed_place-plain}
use Rattle.pg_picture.proofs.FittingTables.{length-shown-trimmed}
use Rattle.pg_picture.proofs.Separators.{item_after-spaces}
use Rattle.std.proofs.lemmas.Str.{IsUtf8-from_is_utf8}

-- no character, one, and so many more
pub ruleset repeated_texts = (repeated-zero, repeated-one, repeated-add)

-- the bytes of glyphs
pub ruleset bytes_of_glyphs = (encode-vertical)

-- the side margin of a line
pub ruleset side_texts = (written-side_blank, written-side_filled)

-- an indent with and without a colour
pub ruleset indent_texts = (indent-plain, indent-colored)

-- a glyph in a lent colour
pub ruleset glyph_texts = (lent-color, written-glyph_piece)

-- the room that a cell has
pub ruleset room_of_texts = (cell_fits-width)

-- texts of one line
pub ruleset single_texts = (facts_of-single)

-- plain texts are lines, as wide as long
pub ruleset plain_texts = (lines_of-one, first_line_of-one, width_of-plain, text_width_of-plain, feed_place-plain, widest-untrimmed)

-- no more lines above a text than are free
pub ruleset lines_above = (lines_above-le)

-- how many lines of a text are shown
pub ruleset numbers_of_shown_lines = (length-shown, length-shown-trimmed)

-- the text of spaces
pub ruleset texts_of_spaces = (item_after-spaces)

-- bytes that are a text
pub ruleset kept_texts = (IsUtf8-from_is_utf8)

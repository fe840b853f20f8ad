-- `unfolding picture_words` lets `refl` compute the lines of a table and its conditions.
use Rattle.pg_config.proofs.Computing.{config_words}
use Rattle.pg_config.specs.CompactConfig.{default_compact}
use Rattle.pg_picture.specs.Marks.{marks_of_row, marks_above, body, marks_within, place_of}
use Rattle.pg_picture.specs.Pieces.{repeated, written, pieces_width, fill, style_at, trimmed_if, kept_lines, shown, widest, shares, lines_above, inner_width, left_share, text_line, text_height, text_top, block_line, cut, with_cuts, separator_text}
use Rattle.pg_picture.specs.Table.{rect_marks, rect_height, rect_width, block_at, is_inside, vertical_at, row_part, line_of_row, is_covered, crossing_at, crossing, column_items, separator_part, separator_items, total_width, full_width, margin_line, margin_lines, is_blank_at, side_margin, mark_text, body_line, table_body}
use Rattle.pg_picture.specs.CompactLines.{compact_indent, compact_width, compact_full_width, with_margins, between_sides, compact_cell_of, text_row, padding_row, main_part, parts, parts_after, separator_row, compact_margin, row_lines, compact_lines}
use Rattle.pg_picture.specs.Pieces.{joined, continued}
use Rattle.pg_picture.specs.Fits.{spans_fit, spans_fit_columns, body_height, totals_fit, cell_fits, owner_fits, places, misfit_of, compact_misfit_of}
use Rattle.pg_picture.specs.Picture.{top_lines, bottom_lines, body_lines, picture_lines, picture, compact_picture}
use Rattle.pg_picture.specs.Samples.{plain, bordered}

unfoldable pub picture_words : Unit {0}
unfolding config_words joined continued marks_of_row marks_above body marks_within place_of repeated written pieces_width fill style_at trimmed_if kept_lines shown widest shares lines_above inner_width left_share text_line text_height text_top block_line cut with_cuts separator_text rect_marks rect_height rect_width block_at is_inside vertical_at row_part line_of_row is_covered crossing_at crossing column_items separator_part separator_items total_width full_width margin_line margin_lines is_blank_at side_margin mark_text body_line table_body compact_indent compact_width compact_full_width with_margins between_sides compact_cell_of text_row padding_row main_part parts parts_after separator_row compact_margin row_lines compact_lines spans_fit spans_fit_columns body_height totals_fit cell_fits owner_fits places misfit_of compact_misfit_of
picture_words = tt

-- `unfolding grid_words` lets it compute a whole picture of a sample.
unfoldable pub grid_words : Unit {0}
unfolding picture_words top_lines bottom_lines body_lines picture_lines picture compact_picture plain bordered default_compact
grid_words = tt

-- `unfolding sample_words` lets `refl` compute a whole picture of a sample, a compact one too, and `unfolding
-- printing_words` what a printer of rows appends.
use Rattle.pg_picture.proofs.Computing.{grid_words}
use Rattle.pg_stream.specs.Open.{drawn_before, open_at_row, open_before}
use Rattle.pg_stream.specs.Printing.{row_end, rows_reached, rows_known, text_known, table_known, lines_at, lines_below, lines_printed, row_lines, finish_lines, row_text, finish_text, printer, after_row, lines_of_rows, rows_text}
use Rattle.pg_laws.specs.Samples.{plain_compact}

unfoldable pub sample_words : Unit {0}
unfolding grid_words plain_compact
sample_words = tt

unfoldable pub printing_words : Unit {0}
unfolding grid_words drawn_before open_at_row open_before row_end rows_reached rows_known text_known table_known lines_at lines_below lines_printed row_lines finish_lines row_text finish_text printer after_row lines_of_rows rows_text
printing_words = tt

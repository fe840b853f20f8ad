-- `unfolding config_words` lets `refl` compute what a configuration answers.
use Rattle.pg_layout.proofs.Computing.{text_words}
use Rattle.pg_config.specs.Settings.{setting_of, with_setting, is_set}
use Rattle.pg_config.specs.Overrides.{with_border, horizontal_override, vertical_override, crossing_override, overrides_row, overrides_column}
use Rattle.pg_config.specs.Offsets.{with_offset, lookup_offset, is_offset_at, has_offsets}
use Rattle.pg_config.specs.Spans.{size_of, rect_rows, rect_columns, with_size, with_column_span, with_row_span, get_column_span, get_row_span, has_column_spans, has_row_spans, owner, begins_above, is_left, same_owner, is_covered_by_column, is_covered_by_row, is_covered_by_both, is_visible}
use Rattle.pg_config.specs.Config.{default_config, get_padding, get_padding_color, get_alignment_horizontal, get_alignment_vertical, get_formatting, get_justification, get_justification_color, has_horizontal, has_vertical, count_horizontal, count_vertical, get_horizontal, get_vertical, get_intersection, get_horizontal_color, get_vertical_color, get_intersection_color, is_overridden_horizontal, has_offset_chars, has_padding_color, has_justification}

unfoldable pub config_words : Unit {0}
unfolding text_words setting_of with_setting is_set with_border horizontal_override vertical_override crossing_override overrides_row overrides_column with_offset lookup_offset is_offset_at has_offsets size_of rect_rows rect_columns with_size with_column_span with_row_span get_column_span get_row_span has_column_spans has_row_spans owner begins_above is_left same_owner is_covered_by_column is_covered_by_row is_covered_by_both is_visible default_config get_padding get_padding_color get_alignment_horizontal get_alignment_vertical get_formatting get_justification get_justification_color has_horizontal has_vertical count_horizontal count_vertical get_horizontal get_vertical get_intersection get_horizontal_color get_vertical_color get_intersection_color is_overridden_horizontal has_offset_chars has_padding_color has_justification
config_words = tt

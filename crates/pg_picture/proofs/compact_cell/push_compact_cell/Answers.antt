use Rattle.std.proofs.Common.{◌++◌}
use Rattle.pg_layout.specs.Colors.{lent_color}
use Rattle.pg_config.specs.CompactConfig.{settings_of, side_colors}
use Rattle.pg_picture.specs.Pieces.{in_color, repeated}
use Rattle.pg_picture.specs.CompactLines.{compact_indent}
use Rattle.pg_picture.proofs.Appending.{Appends-text, ◌then◌, stopped}
use Rattle.pg_picture.proofs.PiecesOfLines.{cell-text}
use Rattle.pg_picture.proofs.compact_cell.push_compact_cell.Goals as goal

pub returns-in_err-push_left_side : goal.returns-in_err-push_left_side
returns-in_err-push_left_side g c =
    let color = lent_color g.C.ANSIFmt.color_of c.args.color in
    let padding = c.get_padding-padding.result in
    let colors = side_colors c.get_padding_color-colors.result in
    let line = c.shown_line-line_width.result.0.now in
    let width = c.shown_line-line_width.result.1 in
    let share = c.free_shares-left.result in
    Appends-text (cell-text (settings_of c.args.config.now) c.args.width color c.args.text.now line padding colors c.get_alignment_horizontal-alignment.result width c.inner_room.result share c.free_shares-left.ensures c.inner_room.ensures c.shown_line-line_width.ensures.width c.shown_line-line_width.ensures.line c.get_padding-padding.ensures c.get_padding_color-colors.ensures c.get_alignment_horizontal-alignment.ensures)
    (stopped (in_color color line ++ (repeated 32 share.1 ++ compact_indent padding.right.fill padding.right.size colors.right)) c.from_residual.ensures.0 c.in_err-push_left_side.ensures)

pub returns-in_err-push_words : goal.returns-in_err-push_words
returns-in_err-push_words g c =
    let color = lent_color g.C.ANSIFmt.color_of c.args.color in
    let padding = c.get_padding-padding.result in
    let colors = side_colors c.get_padding_color-colors.result in
    let line = c.shown_line-line_width.result.0.now in
    let width = c.shown_line-line_width.result.1 in
    let share = c.free_shares-left.result in
    Appends-text (cell-text (settings_of c.args.config.now) c.args.width color c.args.text.now line padding colors c.get_alignment_horizontal-alignment.result width c.inner_room.result share c.free_shares-left.ensures c.inner_room.ensures c.shown_line-line_width.ensures.width c.shown_line-line_width.ensures.line c.get_padding-padding.ensures c.get_padding_color-colors.ensures c.get_alignment_horizontal-alignment.ensures)
    (c.in_ok-push_left_side.ensures then stopped (repeated 32 share.1 ++ compact_indent padding.right.fill padding.right.size colors.right) c.from_residual-in_err-push_words.ensures.0 c.in_err-push_words.ensures)

pub returns : goal.returns
returns g c =
    let color = lent_color g.C.ANSIFmt.color_of c.args.color in
    let padding = c.get_padding-padding.result in
    let colors = side_colors c.get_padding_color-colors.result in
    let line = c.shown_line-line_width.result.0.now in
    let width = c.shown_line-line_width.result.1 in
    let share = c.free_shares-left.result in
    Appends-text (cell-text (settings_of c.args.config.now) c.args.width color c.args.text.now line padding colors c.get_alignment_horizontal-alignment.result width c.inner_room.result share c.free_shares-left.ensures c.inner_room.ensures c.shown_line-line_width.ensures.width c.shown_line-line_width.ensures.line c.get_padding-padding.ensures c.get_padding_color-colors.ensures c.get_alignment_horizontal-alignment.ensures)
    (c.in_ok-push_left_side.ensures then (c.in_ok-push_words.ensures then c.push_right_side.ensures))

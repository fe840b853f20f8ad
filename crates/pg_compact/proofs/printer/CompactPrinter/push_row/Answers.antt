use Rattle.std.proofs.Common.{◌≡◌, ◌+◌, ◌==◌, ◌++◌, Bool, false, [], replicate, refl, ◌∙◌, inl, inr}
use Rattle.pg_config.specs.CompactConfig.{side_colors}
use Rattle.pg_picture.specs.CompactLines.{padding_row, text_row}
use Rattle.pg_picture.specs.Pieces.{continued}
use Rattle.pg_picture.specs.Inside.{feed_before, lines_before}
use Rattle.pg_picture.proofs.Appending.{Appends-text, ◌then◌, stopped}
use Rattle.pg_picture.proofs.Pictures.{first-of}
use Rattle.pg_compact.specs.Inside.{printed_table}
use Rattle.pg_compact.proofs.CompactRows.{row-text}
use Rattle.pg_compact.proofs.printer.CompactPrinter.push_row.Goals as goal
use Rattle.pg_compact.proofs.printer.CompactPrinter.push_row.Goals.{then-is_first, else-is_first}

pub returns-in_err-push_padding_rows : goal.returns-in_err-push_padding_rows
returns-in_err-push_padding_rows g c = λ texts is_row.
    let p = c.args.self.now in
    let padding = c.get_padding-padding.result in
    let colors = side_colors c.get_padding_color-colors.result in
    let first : Bool = (lines_before c.args.is_first + padding.top.size) == 0 in
    let below = continued (lines_before false) (replicate padding.bottom.size (padding_row (printed_table g.D.Dimension.width g.C.Colors.color p []) colors.bottom)) in
    Appends-text (row-text g.D.Dimension.width g.C.Colors.color p texts c.args.row c.args.is_first {text_first = first} padding colors c.get_padding-padding.ensures c.get_padding_color-colors.ensures refl)
    (stopped ((feed_before first ++ text_row (printed_table g.D.Dimension.width g.C.Colors.color p texts) c.args.row) ++ below) c.from_residual.ensures.0 c.in_err-push_padding_rows.ensures)

pub returns-in_err-push_text_line : goal.returns-in_err-push_text_line
returns-in_err-push_text_line g c = λ texts is_row.
    let p = c.args.self.now in
    let padding = c.get_padding-padding.result in
    let colors = side_colors c.get_padding_color-colors.result in
    let is : c.if-is_first.push_text_line ≡ ((lines_before c.args.is_first + padding.top.size) == 0) = first-of _ _ _ (elim c.if-is_first.branch [ then-is_first w ↦ inl (w.if-is_first.true, w.push_text_line-is) | else-is_first w ↦ inr (w.if-is_first.false, w.push_text_line-is ∙ w.if-is_first.false) ]) in
    let below = continued (lines_before false) (replicate padding.bottom.size (padding_row (printed_table g.D.Dimension.width g.C.Colors.color p []) colors.bottom)) in
    Appends-text (row-text g.D.Dimension.width g.C.Colors.color p texts c.args.row c.args.is_first {text_first = c.if-is_first.push_text_line} padding colors c.get_padding-padding.ensures c.get_padding_color-colors.ensures is)
    (c.in_ok-push_padding_rows.ensures then stopped below c.from_residual-in_err-push_text_line.ensures.0 (c.in_err-push_text_line.ensures texts is_row))

pub returns : goal.returns
returns g c = λ texts is_row.
    let p = c.args.self.now in
    let padding = c.get_padding-padding.result in
    let colors = side_colors c.get_padding_color-colors.result in
    let is : c.if-is_first.push_text_line ≡ ((lines_before c.args.is_first + padding.top.size) == 0) = first-of _ _ _ (elim c.if-is_first.branch [ then-is_first w ↦ inl (w.if-is_first.true, w.push_text_line-is) | else-is_first w ↦ inr (w.if-is_first.false, w.push_text_line-is ∙ w.if-is_first.false) ]) in
    Appends-text (row-text g.D.Dimension.width g.C.Colors.color p texts c.args.row c.args.is_first {text_first = c.if-is_first.push_text_line} padding colors c.get_padding-padding.ensures c.get_padding_color-colors.ensures is)
    (c.in_ok-push_padding_rows.ensures then (c.in_ok-push_text_line.ensures texts is_row then c.push_padding_rows-2.ensures))

use Rattle.std.proofs.Common.{◌≡◌, Bool, true, false, arith, ◌&&◌, ◌==◌, ◌++◌, Some, sym, ap, ap₂, ◌∙◌, refl, replicate, length}
use Rattle.std.proofs.lemmas.Bool.Decides.{nat_tests}
use Rattle.pg_layout.specs.declared.sides.Sides.{Sides}
use Rattle.pg_layout.specs.declared.sides.Indent.{Indent}
use Rattle.pg_picture.specs.Grids.{table_of_parts}
use Rattle.pg_picture.specs.Pieces.{continued, written}
use Rattle.pg_picture.specs.Inside.{lines_before, body_text}
use Rattle.pg_picture.specs.Table.{Known, margin_line, table_body, full_width}
use Rattle.pg_picture.specs.Fits.{body_height}
use Rattle.pg_picture.proofs.Appending.{Appends-text, ◌then◌, stopped}
use Rattle.pg_picture.proofs.FittingTables.{some_is, totals_facts}
use Rattle.pg_picture.proofs.MarksOfRectangles.{length-table_body}
use Rattle.pg_peekable.specs.Grids.{printed_table}
use Rattle.pg_picture.proofs.Ranges.{is_some_answer}
use Rattle.pg_peekable.proofs.CanDraw.{can_draw, width-answer, height-answer}
use Rattle.pg_picture.proofs.Pictures.{picture-parts}
use Rattle.pg_peekable.proofs.grid.PeekableGrid+R+ref+SpannedConfig+B+D+C.push_picture.Goals as goal
use Rattle.pg_peekable.proofs.grid.PeekableGrid+R+ref+SpannedConfig+B+D+C.push_picture.Goals.{then-is_first, else-is_first}

pub full_width-requires : goal.full_width-requires
full_width-requires g c =
    let t = printed_table g.R.Records g.D.Dimension g.C.Colors c.args.self.now in
    let can = can_draw t c.spans-spans.ensures.ascending c.requires.full.fits c.requires.full.some in
    omega (arith, c.requires.full.columns, (totals_facts t can.fits.totals).columns)

pub body_height-requires : goal.body_height-requires
body_height-requires g c =
    let t = printed_table g.R.Records g.D.Dimension g.C.Colors c.args.self.now in
    let can = can_draw t c.spans-spans.ensures.ascending c.requires.full.fits c.requires.full.some in
    omega (arith, c.requires.full.rows, (totals_facts t can.fits.totals).rows)

pub unwrap-width-requires : goal.unwrap-width-requires
unwrap-width-requires g c =
    let t = printed_table g.R.Records g.D.Dimension g.C.Colors c.args.self.now in
    let can = can_draw t c.spans-spans.ensures.ascending c.requires.full.fits c.requires.full.some in
    is_some_answer (width-answer t c.args.columns can c.requires.full.columns c.full_width.ensures)

pub unwrap-height-requires : goal.unwrap-height-requires
unwrap-height-requires g c =
    let t = printed_table g.R.Records g.D.Dimension g.C.Colors c.args.self.now in
    let can = can_draw t c.spans-spans.ensures.ascending c.requires.full.fits c.requires.full.some in
    is_some_answer (height-answer t c.args.rows can c.requires.full.rows c.body_height.ensures)

pub push_drawn-requires-clause-can : goal.push_drawn-requires-clause-can
push_drawn-requires-clause-can g c = can_draw (printed_table g.R.Records g.D.Dimension g.C.Colors c.args.self.now) c.spans-spans.ensures.ascending c.requires.full.fits c.requires.full.some

pub push_drawn-requires-clause-shape : goal.push_drawn-requires-clause-shape
push_drawn-requires-clause-shape g c =
    let t = printed_table g.R.Records g.D.Dimension g.C.Colors c.args.self.now in
    let can = can_draw t c.spans-spans.ensures.ascending c.requires.full.fits c.requires.full.some in
    let height : c.unwrap-height.result ≡ length (table_body t) =
    some_is c.unwrap-height.result (body_height t) (sym c.unwrap-height.ensures ∙ height-answer t c.args.rows can c.requires.full.rows c.body_height.ensures) ∙ sym (length-table_body t) in
    record { rows = c.requires.full.rows; columns = c.new-sheet.ensures.columns ∙ c.requires.full.columns; height = c.new-sheet.ensures.height ∙ ap Some height; few = omega (arith, length-table_body t, (totals_facts t can.fits.totals).height) }

pub push_drawn-requires-clause-is : goal.push_drawn-requires-clause-is
push_drawn-requires-clause-is g c =
    let self = c.args.self.now in
    let table = table_of_parts g.R.Records.texts g.R.Records.columns g.D.Dimension.width g.D.Dimension.height g.C.Colors.color self.records in
    ap (λ k. table k c.new-sheet.result.dimension.now c.new-sheet.result.colors.now) c.new-sheet.ensures.config
    ∙ ap₂ (λ d k. table self.config.now d k) c.new-sheet.ensures.dimension c.new-sheet.ensures.colors

pub returns-in_err-push_top_margin : goal.returns-in_err-push_top_margin
returns-in_err-push_top_margin g c =
    let t = printed_table g.R.Records g.D.Dimension g.C.Colors c.args.self.now in
    let can = can_draw t c.spans-spans.ensures.ascending c.requires.full.fits c.requires.full.some in
    let wide = some_is c.unwrap-width.result (full_width t) (sym c.unwrap-width.ensures ∙ width-answer t c.args.columns can c.requires.full.columns c.full_width.ensures) in
    let high = some_is c.unwrap-height.result (body_height t) (sym c.unwrap-height.ensures ∙ height-answer t c.args.rows can c.requires.full.rows c.body_height.ensures) ∙ sym (length-table_body t) in
    let first : Bool = t.config.margin.top.size == 0 in
    let last : Bool = first && (c.unwrap-height.result == 0) in
    Appends-text (picture-parts Known t c.unwrap-width.result c.unwrap-height.result {is_first = first} {is_last = last} wide high refl refl)
    (stopped
    (body_text Known t t.config.margin.top.size 0 (table_body t)
    ++ continued (lines_before last) (replicate t.config.margin.bottom.size (written (margin_line t.config.margin.bottom t.config.margin_offset.bottom t.config.margin_color.bottom c.unwrap-width.result))))
    c.from_residual.ensures.0 c.in_err-push_top_margin.ensures)

pub returns-in_err-push_drawn : goal.returns-in_err-push_drawn
returns-in_err-push_drawn g c =
    let t = printed_table g.R.Records g.D.Dimension g.C.Colors c.args.self.now in
    let can = can_draw t c.spans-spans.ensures.ascending c.requires.full.fits c.requires.full.some in
    let wide = some_is c.unwrap-width.result (full_width t) (sym c.unwrap-width.ensures ∙ width-answer t c.args.columns can c.requires.full.columns c.full_width.ensures) in
    let high = some_is c.unwrap-height.result (body_height t) (sym c.unwrap-height.ensures ∙ height-answer t c.args.rows can c.requires.full.rows c.body_height.ensures) ∙ sym (length-table_body t) in
    let first : Bool = c.get_margin.result.top.size == 0 in
    let last : Bool = first && (c.unwrap-height.result == 0) in
    Appends-text (picture-parts Known t c.unwrap-width.result c.unwrap-height.result {is_first = first} {is_last = last} wide high (ap (λ (m : Sides Indent). m.top.size == 0) c.get_margin.ensures) refl)
    (c.in_ok-push_top_margin.ensures then stopped
    (continued (lines_before last) (replicate t.config.margin.bottom.size (written (margin_line t.config.margin.bottom t.config.margin_offset.bottom t.config.margin_color.bottom c.unwrap-width.result))))
    c.from_residual-in_err-push_drawn.ensures.0 c.in_err-push_drawn.ensures)

pub returns : goal.returns
returns g c =
    let t = printed_table g.R.Records g.D.Dimension g.C.Colors c.args.self.now in
    let can = can_draw t c.spans-spans.ensures.ascending c.requires.full.fits c.requires.full.some in
    let wide = some_is c.unwrap-width.result (full_width t) (sym c.unwrap-width.ensures ∙ width-answer t c.args.columns can c.requires.full.columns c.full_width.ensures) in
    let high = some_is c.unwrap-height.result (body_height t) (sym c.unwrap-height.ensures ∙ height-answer t c.args.rows can c.requires.full.rows c.body_height.ensures) ∙ sym (length-table_body t) in
    let first : Bool = c.get_margin.result.top.size == 0 in
    let last : c.if-is_first.push_bottom_margin ≡ (first && (c.unwrap-height.result == 0)) =
    elim c.if-is_first.branch [
      | then-is_first w ↦ (let e : first ≡ true = grind (arith, nat_tests, w.if-is_first.true) in w.push_bottom_margin-is ∙ ap (λ b. b && (c.unwrap-height.result == 0)) (sym e))
      | else-is_first w ↦ (let e : first ≡ false = grind (arith, nat_tests, w.if-is_first.false) in w.push_bottom_margin-is ∙ e ∙ ap (λ b. b && (c.unwrap-height.result == 0)) (sym e))
    ] in
    Appends-text (picture-parts Known t c.unwrap-width.result c.unwrap-height.result {is_first = first} {is_last = c.if-is_first.push_bottom_margin} wide high (ap (λ (m : Sides Indent). m.top.size == 0) c.get_margin.ensures) last)
    (c.in_ok-push_top_margin.ensures then (c.in_ok-push_drawn.ensures then c.push_bottom_margin.ensures))

use Rattle.std.proofs.Common.{ℕ, ◌+◌, ◌<◌, ◌^◌, sym, ap, ◌∙◌, subst, map, arith}
use Rattle.pg_picture.proofs.Appending.{Gained-none, Gained-all, ◌then◌, stopped, refused-as, appended-as, Appends-text}
use Rattle.pg_stream.specs.Placed.{AllOpen}
use Rattle.pg_stream.specs.Inside.{draw_cell}
use Rattle.pg_stream.proofs.draw.PartsOfLines.{drawn-none, above-absent, above-parts, height-absent, height-there}
use Rattle.pg_stream.proofs.draw.streamed_table.StreamedTable.push_above.Goals as goal

pub returns-then-not-has_horizontal-clause-appends : goal.returns-then-not-has_horizontal-clause-appends
returns-then-not-has_horizontal-clause-appends g c = Appends-text (above-absent g.T.TableMarker.table c.args.self.pen.sheet.now.height c.args.opened.now c.args.row c.args.index c.has_horizontal.ensures c.if-not-has_horizontal.true) (Gained-all (Gained-none c.args.buf.now))

pub returns-then-not-has_horizontal-clause-index : goal.returns-then-not-has_horizontal-clause-index
returns-then-not-has_horizontal-clause-index g c = let none = height-absent g.T.TableMarker.table.config c.args.row c.has_horizontal.ensures c.if-not-has_horizontal.true in omega (arith, none)

pub returns-then-not-has_horizontal-clause-drawn : goal.returns-then-not-has_horizontal-clause-drawn
returns-then-not-has_horizontal-clause-drawn g c =
    drawn-none c.args.opened.now ∙ ap (λ n. map (draw_cell n) c.args.opened.now) (sym (height-absent g.T.TableMarker.table.config c.args.row c.has_horizontal.ensures c.if-not-has_horizontal.true))

pub invariant_of-line : goal.invariant_of-line
invariant_of-line g c = let one = height-there g.T.TableMarker.table.config c.args.row c.has_horizontal.ensures c.if-not-has_horizontal.false in record { are_drawn = c.requires.may.line.opened (omega (arith, one)) }

pub returns-in_err-push_line_start-clause-appends : goal.returns-in_err-push_line_start-clause-appends
returns-in_err-push_line_start-clause-appends g c =
    Appends-text (above-parts g.T.TableMarker.table c.args.self.pen.sheet.now.height c.args.opened.now c.args.row c.args.index c.has_horizontal.ensures c.if-not-has_horizontal.false)
    (stopped _ c.from_residual.ensures.0 c.in_err-push_line_start.ensures)

pub returns-in_err-push_kept_separator-clause-appends : goal.returns-in_err-push_kept_separator-clause-appends
returns-in_err-push_kept_separator-clause-appends g c =
    Appends-text (above-parts g.T.TableMarker.table c.args.self.pen.sheet.now.height c.args.opened.now c.args.row c.args.index c.has_horizontal.ensures c.if-not-has_horizontal.false)
    (c.in_ok-push_line_start.ensures then stopped _ c.from_residual-in_err-push_kept_separator.ensures.0 c.in_err-push_kept_separator.ensures.appends)

pub returns-in_err-push_line_end-clause-appends : goal.returns-in_err-push_line_end-clause-appends
returns-in_err-push_line_end-clause-appends g c =
    Appends-text (above-parts g.T.TableMarker.table c.args.self.pen.sheet.now.height c.args.opened.now c.args.row c.args.index c.has_horizontal.ensures c.if-not-has_horizontal.false)
    (c.in_ok-push_line_start.ensures then (c.in_ok-push_kept_separator.ensures.appends then refused-as c.from_residual-in_err-push_line_end.ensures.0 c.in_err-push_line_end.ensures))

pub draw_line-requires : goal.draw_line-requires
draw_line-requires g c =
    let P : ℕ → Type 0 = λ n. AllOpen (λ x cell. cell.drawn + n < 2 ^ 64) c.args.opened.now in
    subst P (height-there g.T.TableMarker.table.config c.args.row c.has_horizontal.ensures c.if-not-has_horizontal.false) c.requires.may.line.room

pub overflow_add-result : goal.overflow_add-result
overflow_add-result g c = let one = height-there g.T.TableMarker.table.config c.args.row c.has_horizontal.ensures c.if-not-has_horizontal.false in omega (arith, one, c.requires.may.line.lines)

pub returns-clause-appends : goal.returns-clause-appends
returns-clause-appends g c =
    Appends-text (above-parts g.T.TableMarker.table c.args.self.pen.sheet.now.height c.args.opened.now c.args.row c.args.index c.has_horizontal.ensures c.if-not-has_horizontal.false)
    (c.in_ok-push_line_start.ensures then (c.in_ok-push_kept_separator.ensures.appends then appended-as c.in_ok-push_line_end.ensures))

pub returns-clause-index : goal.returns-clause-index
returns-clause-index g c = let one = height-there g.T.TableMarker.table.config c.args.row c.has_horizontal.ensures c.if-not-has_horizontal.false in omega (arith, one)

pub returns-clause-drawn : goal.returns-clause-drawn
returns-clause-drawn g c = c.draw_line.ensures ∙ ap (λ n. map (draw_cell n) c.args.opened.now) (sym (height-there g.T.TableMarker.table.config c.args.row c.has_horizontal.ensures c.if-not-has_horizontal.false))

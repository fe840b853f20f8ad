use Rattle.std.proofs.Common.{◌+◌, ◌<◌, ◌^◌, map, sym, ap, ◌∙◌, subst, arith}
use Rattle.pg_picture.proofs.Appending.{Gained-none, Gained-text, Gained-more, refused, Appends-text}
use Rattle.pg_stream.specs.Placed.{AllOpen}
use Rattle.pg_stream.specs.Inside.{draw_cell, AreDrawn}
use Rattle.pg_stream.proofs.draw.OpenLists.{drawn-all, drawn-still}
use Rattle.pg_stream.proofs.draw.PartsOfLines.{drawn-none, drawn-more, lines-none, lines-more, lines-cut, line-now}
use Rattle.pg_stream.proofs.draw.streamed_table.StreamedTable.push_lines.Goals as goal

pub loop-line-init : goal.loop-line-init
loop-line-init g c = (drawn-none c.args.opened.now, Gained-text (lines-none g.T.TableMarker.table c.args.self.pen.sheet.now.height c.args.opened.now c.args.row c.args.index) (Gained-none c.args.buf.now))

pub invariant_of-shown : goal.invariant_of-shown
invariant_of-shown g c =
    let t = g.T.TableMarker.table in
    record { are_drawn = subst (AreDrawn t) (sym c.loop-line.invariant.0) (drawn-still t c.loop-line.line c.args.opened.now (c.requires.may.opened (omega (arith, c.height_of-line-end.ensures)))) }

pub returns-in_err-push_body_line-clause-appends : goal.returns-in_err-push_body_line-clause-appends
returns-in_err-push_body_line-clause-appends g c =
    let t = g.T.TableMarker.table in
    refused _ (lines-cut t c.args.self.pen.sheet.now.height c.args.opened.now c.args.row c.args.index c.loop-line.line (t.height c.args.row) (omega (arith, c.height_of-line-end.ensures))) c.from_residual.ensures.0 c.loop-line.invariant.1
    (Appends-text (line-now t c.args.self.pen.sheet.now.height c.args.opened.now c.args.row c.args.index c.loop-line.line c.loop-line.opened c.loop-line.invariant.0) c.in_err-push_body_line.ensures)

pub draw_line-requires : goal.draw_line-requires
draw_line-requires g c =
    subst (AllOpen (λ x cell. cell.drawn + 1 < 2 ^ 64)) (sym c.loop-line.invariant.0)
    (drawn-all (λ x cell. cell.drawn + g.T.TableMarker.table.height c.args.row < 2 ^ 64) (λ x cell. cell.drawn + 1 < 2 ^ 64) c.loop-line.line c.args.opened.now (λ x cell h. omega (arith, h, c.loop-line-test.true, c.height_of-line-end.ensures)) c.requires.may.room)

pub loop-line-preserved : goal.loop-line-preserved
loop-line-preserved g c =
    let t = g.T.TableMarker.table in (
      c.draw_line.ensures ∙ ap (λ l. map (draw_cell 1) l) c.loop-line.invariant.0 ∙ drawn-more c.loop-line.line 1 c.args.opened.now,
      Gained-text (sym (lines-more t c.args.self.pen.sheet.now.height c.args.opened.now c.args.row c.args.index c.loop-line.line))
          (Gained-more c.loop-line.invariant.1 (Appends-text (line-now t c.args.self.pen.sheet.now.height c.args.opened.now c.args.row c.args.index c.loop-line.line c.loop-line.opened c.loop-line.invariant.0) c.in_ok-push_body_line.ensures)),
    )

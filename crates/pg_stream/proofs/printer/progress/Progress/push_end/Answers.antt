use Rattle.std.proofs.Common.{◌≡◌, ◌∙◌, ◌==◌, ◌<◌, true, refl, ap, arith, replicate}
use Rattle.pg_config.specs.Config.{has_horizontal}
use Rattle.pg_picture.proofs.Appending.{◌then◌, stopped, Gained-none, Gained-all, Appends-text}
use Rattle.pg_picture.specs.Pieces.{continued, written}
use Rattle.pg_picture.specs.Inside.{lines_before}
use Rattle.pg_picture.specs.Table.{Table, margin_line}
use Rattle.pg_stream.specs.Inside.{IsTall}
use Rattle.pg_stream.specs.Printers.{now_of}
use Rattle.pg_stream.specs.Printing.{Printing}
use Rattle.pg_stream.proofs.printer.Ending.{finish-none, no_cells, finish_text-is, ended_of}
use Rattle.pg_stream.proofs.printer.progress.Progress.push_end.Goals as goal

pub returns-then-self-eq0-clause-appends : goal.returns-then-self-eq0-clause-appends
returns-then-self-eq0-clause-appends g c = Appends-text (finish-none (now_of g.T.TableMarker.table c.args.frame.now.hint c.args.self.now) (omega arith)) (Gained-all (Gained-none c.args.buf.now))

pub invariant_of-line : goal.invariant_of-line
invariant_of-line g c =
    let s : Printing = now_of g.T.TableMarker.table c.args.frame.now.hint c.args.self.now in
    let w = c.args.frame.now.sheet.width in
    let h = c.args.frame.now.sheet.height in
    let cells = c.args.self.now.cells in
    let some : 0 < c.args.self.now.rows = omega arith in
    let ended : c.args.self.now.is_ended ≡ true = ended_of c.args.self.now.rows c.args.self.now.is_ended c.requires.ended some in
    record { are_drawn = record { opened = record { columns = c.requires.sound.printer.whole; inside = no_cells s w h cells refl c.requires.sound.printer ended _; placed = c.requires.sound.printer.placed }; tall = no_cells s w h cells refl c.requires.sound.printer ended (IsTall g.T.TableMarker.table) } }

pub returns-in_err-push_below-clause-appends : goal.returns-in_err-push_below-clause-appends
returns-in_err-push_below-clause-appends g c =
    let s : Printing = now_of g.T.TableMarker.table c.args.frame.now.hint c.args.self.now in
    let w = c.args.frame.now.sheet.width in
    let h = c.args.frame.now.sheet.height in
    let cells = c.args.self.now.cells in
    let some : 0 < c.args.self.now.rows = omega arith in
    let ended : c.args.self.now.is_ended ≡ true = ended_of c.args.self.now.rows c.args.self.now.is_ended c.requires.ended some in
    let first = c.args.frame.now.sheet.is_begun ∙ ap (λ (t : Table). t.config.margin.top.size == 0) c.requires.is in
    Appends-text (finish_text-is s w h cells refl c.requires.sound.printer ended c.args.frame.now.sheet.begins_with_body (has_horizontal s.table.config s.rows s.rows) some first refl) (stopped _ c.from_residual.ensures.0 c.in_err-push_below.ensures)

pub returns-clause-appends : goal.returns-clause-appends
returns-clause-appends g c =
    let s : Printing = now_of g.T.TableMarker.table c.args.frame.now.hint c.args.self.now in
    let w = c.args.frame.now.sheet.width in
    let h = c.args.frame.now.sheet.height in
    let cells = c.args.self.now.cells in
    let some : 0 < c.args.self.now.rows = omega arith in
    let ended : c.args.self.now.is_ended ≡ true = ended_of c.args.self.now.rows c.args.self.now.is_ended c.requires.ended some in
    let margin = s.table.config.margin.bottom in
    let line = written (margin_line margin s.table.config.margin_offset.bottom s.table.config.margin_color.bottom w) in
    let first = c.args.frame.now.sheet.is_begun ∙ ap (λ (t : Table). t.config.margin.top.size == 0) c.requires.is in
    Appends-text (finish_text-is s w h cells refl c.requires.sound.printer ended c.args.frame.now.sheet.begins_with_body c.has_horizontal-has_last.result some first c.has_horizontal-has_last.ensures)
    (c.in_ok-push_below.ensures then Appends-text (ap (λ b. continued (lines_before b) (replicate margin.size line)) c.is_bare.ensures) c.push_bottom.ensures)

pub returns-in_err-push_below-clause-empty : goal.returns-in_err-push_below-clause-empty
returns-in_err-push_below-clause-empty g c = λ none.
    let some : 0 < c.args.self.now.rows = omega arith in
    absurd (omega (arith, none, some))

pub returns-clause-empty : goal.returns-clause-empty
returns-clause-empty g c = λ none.
    let some : 0 < c.args.self.now.rows = omega arith in
    absurd (omega (arith, none, some))

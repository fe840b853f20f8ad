use Rattle.std.proofs.Common.{ℕ, ◌+◌, ◌<◌, ◌≤◌, ◌^◌, List, Option, refl, sym, ap, ap₂, ◌∙◌, subst, arith, map, length, get_or, None}
use Rattle.std.proofs.lemmas.List.{length-map}
use Rattle.pg_picture.proofs.Appending.{◌then◌, stopped, refused-as, appended-as, Appends-text}
use Rattle.pg_stream.specs.Placed.{Placed, slots_of, AllOpen}
use Rattle.pg_stream.specs.Inside.{draw_cell, AreDrawn, IsSoundAt, separator_height, IsOwnerAbove, cells_begun, cells_closed, IsSingle}
use Rattle.pg_stream.specs.Printers.{now_of, IsSound}
use Rattle.pg_stream.specs.Printing.{Printing}
use Rattle.pg_stream.proofs.DrawnLines.{length_of_row}
use Rattle.pg_stream.proofs.printer.RowsPrinted.{room-above, drawn-above, owner-begins, whole-now, cells_now, begun-now, drawn-now, room-now}
use Rattle.pg_stream.proofs.printer.RowsAppended.{row_text-is, after-is, sound-next, open_lines-same}
use Rattle.pg_picture.specs.Table.{Table}
use Rattle.pg_stream.proofs.printer.SingleRowsPrinted.{none-open}
use Rattle.pg_stream.proofs.printer.progress.Progress.push_row.Goals as goal

pub returns-in_err-push_top-clause-appends : goal.returns-in_err-push_top-clause-appends
returns-in_err-push_top-clause-appends g c = λ texts gives.
    let s : Printing = now_of g.T.TableMarker.table c.args.frame.now.hint c.args.self.now in
    let w = c.args.frame.now.sheet.width in
    let h = c.args.frame.now.sheet.height in
    let cells = c.args.self.now.cells in
    let sound = c.requires.sound.printer in
    let fits = c.requires.fits.2 in
    Appends-text (row_text-is s w h cells refl sound c.args.is_last fits.hint fits.spans texts) (stopped _ c.from_residual.ensures.0 c.in_err-push_top.ensures)

pub push_above-requires : goal.push_above-requires
push_above-requires g c =
    let s : Printing = now_of g.T.TableMarker.table c.args.frame.now.hint c.args.self.now in
    let w = c.args.frame.now.sheet.width in
    let h = c.args.frame.now.sheet.height in
    let cells = c.args.self.now.cells in
    let sound = c.requires.sound.printer in
    let fits = c.requires.fits.2 in
    let both = length_of_row s.table.config s.table.height s.rows in
    record {
      may = record {
        between = record { row = omega (arith, fits.rows); alone = none-open s w h cells refl sound; separator = c.requires.sound.kept };
        line = record {
          lines = omega (arith, fits.lines, both);
          room = room-above s w h cells refl sound (separator_height s.table.config s.rows) (omega (arith, fits.lines, both));
          opened = drawn-above s w h cells refl sound;
        };
      };
    }

pub returns-in_err-next-clause-appends : goal.returns-in_err-next-clause-appends
returns-in_err-next-clause-appends g c = λ texts gives.
    let s : Printing = now_of g.T.TableMarker.table c.args.frame.now.hint c.args.self.now in
    let w = c.args.frame.now.sheet.width in
    let h = c.args.frame.now.sheet.height in
    let cells = c.args.self.now.cells in
    let sound = c.requires.sound.printer in
    let fits = c.requires.fits.2 in
    Appends-text (row_text-is s w h cells refl sound c.args.is_last fits.hint fits.spans texts) (c.in_ok-push_top.ensures then stopped _ c.from_residual-in_err-next.ensures.0 c.in_err-next.ensures.appends)

pub begin-requires-clause-above : goal.begin-requires-clause-above
begin-requires-clause-above g c =
    let s : Printing = now_of g.T.TableMarker.table c.args.frame.now.hint c.args.self.now in
    let w = c.args.frame.now.sheet.width in
    let h = c.args.frame.now.sheet.height in
    let cells = c.args.self.now.cells in
    let sound = c.requires.sound.printer in
    subst (λ l. (x : ℕ) → x < s.table.columns → IsOwnerAbove s.table.config.spans s.rows x (get_or l x None)) (sym c.in_ok-next.ensures.drawn) (owner-begins s w h cells refl sound)

pub begin-requires-clause-given : goal.begin-requires-clause-given
begin-requires-clause-given g c =
    let fits = c.requires.fits.2 in
    (c.requires.fits.0, c.requires.fits.1, fits.whole, fits.rooms)

pub push_lines-requires : goal.push_lines-requires
push_lines-requires g c =
    let s : Printing = now_of g.T.TableMarker.table c.args.frame.now.hint c.args.self.now in
    let t = g.T.TableMarker.table in
    let w = c.args.frame.now.sheet.width in
    let h = c.args.frame.now.sheet.height in
    let cells = c.args.self.now.cells in
    let sound = c.requires.sound.printer in
    let fits = c.requires.fits.2 in
    let now = c.begin.ensures c.requires.fits.0 c.requires.fits.1 ∙ ap (λ l. cells_begun t s.rows c.requires.fits.0 l) c.in_ok-next.ensures.drawn in
    let both = length_of_row s.table.config s.table.height s.rows in
    record {
      may = record {
        lines = omega (arith, fits.lines, both, c.in_ok-next.ensures.index);
        room = subst (AllOpen (λ x cell. cell.drawn + s.table.height s.rows < 2 ^ 64)) (sym now) (room-now s w h cells refl sound c.requires.fits.0 (omega (arith, fits.lines, both)));
        opened = λ some. subst (AreDrawn t) (sym now) (drawn-now s w h cells refl sound c.requires.fits.0 fits.rooms some);
      };
    }

pub returns-in_err-push_lines-clause-appends : goal.returns-in_err-push_lines-clause-appends
returns-in_err-push_lines-clause-appends g c = λ texts gives.
    let s : Printing = now_of g.T.TableMarker.table c.args.frame.now.hint c.args.self.now in
    let t = g.T.TableMarker.table in
    let w = c.args.frame.now.sheet.width in
    let h = c.args.frame.now.sheet.height in
    let cells = c.args.self.now.cells in
    let sound = c.requires.sound.printer in
    let fits = c.requires.fits.2 in
    let now = c.begin.ensures texts gives ∙ ap (λ l. cells_begun t s.rows texts l) c.in_ok-next.ensures.drawn in
    let lines = open_lines-same t h s.rows (s.table.height s.rows) now c.in_ok-next.ensures.index in
    Appends-text (row_text-is s w h cells refl sound c.args.is_last fits.hint fits.spans texts)
    (c.in_ok-push_top.ensures then (c.in_ok-next.ensures.appends then Appends-text lines (refused-as c.from_residual-in_err-push_lines.ensures.0 c.in_err-push_lines.ensures.appends)))

pub close-requires-clause-columns : goal.close-requires-clause-columns
close-requires-clause-columns g c =
    let s : Printing = now_of g.T.TableMarker.table c.args.frame.now.hint c.args.self.now in
    let t = g.T.TableMarker.table in
    let w = c.args.frame.now.sheet.width in
    let h = c.args.frame.now.sheet.height in
    let cells = c.args.self.now.cells in
    let sound = c.requires.sound.printer in
    let now = c.begin.ensures c.requires.fits.0 c.requires.fits.1 ∙ ap (λ l. cells_begun t s.rows c.requires.fits.0 l) c.in_ok-next.ensures.drawn in
    let drawn = c.in_ok-push_lines.ensures.drawn ∙ ap (map (draw_cell (s.table.height s.rows))) now in
    whole-now s w h cells refl sound c.requires.fits.0 ∙ sym (length-map (cells_now s w h cells refl sound c.requires.fits.0) (draw_cell (s.table.height s.rows))) ∙ sym (ap length drawn)

pub close-requires-clause-begun : goal.close-requires-clause-begun
close-requires-clause-begun g c =
    let s : Printing = now_of g.T.TableMarker.table c.args.frame.now.hint c.args.self.now in
    let t = g.T.TableMarker.table in
    let w = c.args.frame.now.sheet.width in
    let h = c.args.frame.now.sheet.height in
    let cells = c.args.self.now.cells in
    let sound = c.requires.sound.printer in
    let now = c.begin.ensures c.requires.fits.0 c.requires.fits.1 ∙ ap (λ l. cells_begun t s.rows c.requires.fits.0 l) c.in_ok-next.ensures.drawn in
    let drawn = c.in_ok-push_lines.ensures.drawn ∙ ap (map (draw_cell (s.table.height s.rows))) now in
    subst (AllOpen (λ x cell. cell.begun ≤ s.rows)) (sym drawn) (begun-now s w h cells refl sound c.requires.fits.0)

pub overflow_add-below : goal.overflow_add-below
overflow_add-below g c =
    let s : Printing = now_of g.T.TableMarker.table c.args.frame.now.hint c.args.self.now in
    let fits = c.requires.fits.2 in
    let both = length_of_row s.table.config s.table.height s.rows in
    omega (arith, fits.lines, both, c.in_ok-next.ensures.index, c.height_of-height.ensures)

pub returns-clause-sound : goal.returns-clause-sound
returns-clause-sound g c =
    let s : Printing = now_of g.T.TableMarker.table c.args.frame.now.hint c.args.self.now in
    let t = g.T.TableMarker.table in
    let w = c.args.frame.now.sheet.width in
    let h = c.args.frame.now.sheet.height in
    let cells = c.args.self.now.cells in
    let sound = c.requires.sound.printer in
    let fits = c.requires.fits.2 in
    let now = c.begin.ensures c.requires.fits.0 c.requires.fits.1 ∙ ap (λ l. cells_begun t s.rows c.requires.fits.0 l) c.in_ok-next.ensures.drawn in
    let drawn = c.in_ok-push_lines.ensures.drawn ∙ ap (map (draw_cell (s.table.height s.rows))) now in
    let left = c.close.ensures ∙ ap (λ l. cells_closed s.table.config.spans s.rows l) drawn in
    let lines = ap₂ (λ (a b : ℕ). a + b) c.in_ok-next.ensures.index c.height_of-height.ensures in
    subst (IsSoundAt g.T.TableMarker.table c.args.frame.now) (sym c.end_row.ensures) (record {
      printer =
          subst (λ n. IsSound (record s { rows = s.rows + 1; lines = n; is_ended = c.args.is_last; slots = slots_of c.close.new.opened }) t w h c.close.new.opened) (sym lines)
          (subst (λ l. IsSound (record s { rows = s.rows + 1; lines = (s.lines + separator_height s.table.config s.rows) + s.table.height s.rows; is_ended = c.args.is_last; slots = slots_of l }) t w h l) (sym left)
          (sound-next s w h cells refl sound c.args.is_last fits.hint fits.spans c.requires.fits.0 fits.rooms fits.rows));
      kept = c.in_ok-next.ensures.kept;
    })

pub returns-clause-appends : goal.returns-clause-appends
returns-clause-appends g c = λ texts gives.
    let s : Printing = now_of g.T.TableMarker.table c.args.frame.now.hint c.args.self.now in
    let t = g.T.TableMarker.table in
    let w = c.args.frame.now.sheet.width in
    let h = c.args.frame.now.sheet.height in
    let cells = c.args.self.now.cells in
    let sound = c.requires.sound.printer in
    let fits = c.requires.fits.2 in
    let now = c.begin.ensures texts gives ∙ ap (λ l. cells_begun t s.rows texts l) c.in_ok-next.ensures.drawn in
    let lines = open_lines-same t h s.rows (s.table.height s.rows) now c.in_ok-next.ensures.index in
    Appends-text (row_text-is s w h cells refl sound c.args.is_last fits.hint fits.spans texts)
    (c.in_ok-push_top.ensures then (c.in_ok-next.ensures.appends then Appends-text lines (appended-as c.in_ok-push_lines.ensures.appends)))

pub returns-clause-after : goal.returns-clause-after
returns-clause-after g c = λ texts gives.
    let s : Printing = now_of g.T.TableMarker.table c.args.frame.now.hint c.args.self.now in
    let t = g.T.TableMarker.table in
    let w = c.args.frame.now.sheet.width in
    let h = c.args.frame.now.sheet.height in
    let cells = c.args.self.now.cells in
    let sound = c.requires.sound.printer in
    let fits = c.requires.fits.2 in
    let now = c.begin.ensures texts gives ∙ ap (λ l. cells_begun t s.rows texts l) c.in_ok-next.ensures.drawn in
    let drawn = c.in_ok-push_lines.ensures.drawn ∙ ap (map (draw_cell (s.table.height s.rows))) now in
    let left = c.close.ensures ∙ ap (λ l. cells_closed s.table.config.spans s.rows l) drawn in
    let lines = ap₂ (λ (a b : ℕ). a + b) c.in_ok-next.ensures.index c.height_of-height.ensures in
    ap (now_of g.T.TableMarker.table c.args.frame.now.hint) c.end_row.ensures
    ∙ ap₂ (λ (l : List (Option Placed)) (n : ℕ). record s { rows = s.rows + 1; lines = n; is_ended = c.args.is_last; slots = slots_of l }) left lines
    ∙ after-is s w h cells refl sound c.args.is_last fits.hint fits.spans texts

pub push_single-requires-clause-single : goal.push_single-requires-clause-single
push_single-requires-clause-single g c = subst (λ (t : Table). IsSingle t c.args.self.now.rows) c.requires.is (c.is_single.ensures.0 c.if-is_single.true)

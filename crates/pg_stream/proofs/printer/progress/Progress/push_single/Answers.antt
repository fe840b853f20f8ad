use Rattle.std.proofs.Common.{◌≡◌, ℕ, ◌+◌, List, Option, refl, sym, ap, ap₂, ◌∙◌, subst, arith}
use Rattle.pg_picture.proofs.Appending.{◌then◌, stopped, refused-as, appended-as, Appends-text}
use Rattle.pg_stream.specs.Placed.{Placed, slots_of}
use Rattle.pg_stream.specs.Inside.{IsSoundAt, separator_height}
use Rattle.pg_stream.specs.Printers.{now_of, IsSound}
use Rattle.pg_stream.specs.Printing.{Printing}
use Rattle.pg_stream.proofs.DrawnLines.{length_of_row}
use Rattle.pg_stream.proofs.printer.RowsPrinted.{room-above, drawn-above}
use Rattle.pg_stream.proofs.printer.RowsAppended.{row_text-is, after-is, sound-next}
use Rattle.pg_stream.proofs.printer.SingleRowsPrinted.{none-open, single_text-is, single-left}
use Rattle.pg_stream.proofs.printer.progress.Progress.push_single.Goals as goal

pub returns-in_err-push_top-clause-appends : goal.returns-in_err-push_top-clause-appends
returns-in_err-push_top-clause-appends g c = λ texts gives.
    let s : Printing = now_of g.T.TableMarker.table c.args.frame.now.hint c.args.self.now in
    let w = c.args.frame.now.sheet.width in
    let h = c.args.frame.now.sheet.height in
    let cells = c.args.self.now.cells in
    let sound = c.requires.sound.printer in
    let fits = c.requires.fits.2 in
    Appends-text (row_text-is s w h cells refl sound c.args.is_last fits.hint fits.spans texts) (stopped _ c.from_residual.ensures.0 c.in_err-push_top.ensures)

pub push_above-requires : goal.push_above-requires
push_above-requires g c =
    let s : Printing = now_of g.T.TableMarker.table c.args.frame.now.hint c.args.self.now in
    let w = c.args.frame.now.sheet.width in
    let h = c.args.frame.now.sheet.height in
    let cells = c.args.self.now.cells in
    let sound = c.requires.sound.printer in
    let fits = c.requires.fits.2 in
    let both = length_of_row s.table.config s.table.height s.rows in
    record {
      may = record {
        between = record { row = omega (arith, fits.rows); alone = none-open s w h cells refl sound; separator = c.requires.sound.kept };
        line = record {
          lines = omega (arith, fits.lines, both);
          room = room-above s w h cells refl sound (separator_height s.table.config s.rows) (omega (arith, fits.lines, both));
          opened = drawn-above s w h cells refl sound;
        };
      };
    }

pub returns-in_err-next-clause-appends : goal.returns-in_err-next-clause-appends
returns-in_err-next-clause-appends g c = λ texts gives.
    let s : Printing = now_of g.T.TableMarker.table c.args.frame.now.hint c.args.self.now in
    let w = c.args.frame.now.sheet.width in
    let h = c.args.frame.now.sheet.height in
    let cells = c.args.self.now.cells in
    let sound = c.requires.sound.printer in
    let fits = c.requires.fits.2 in
    Appends-text (row_text-is s w h cells refl sound c.args.is_last fits.hint fits.spans texts) (c.in_ok-push_top.ensures then stopped _ c.from_residual-in_err-next.ensures.0 c.in_err-next.ensures.appends)

pub push_single_row-requires : goal.push_single_row-requires
push_single_row-requires g c =
    let s : Printing = now_of g.T.TableMarker.table c.args.frame.now.hint c.args.self.now in
    let fits = c.requires.fits.2 in
    record {
      single = (
        c.requires.fits.0,
        record { can_next = c.requires.can.0; ends = c.requires.can.1; gives = c.requires.fits.1 },
        record { single = c.requires.single; whole = fits.whole; rooms = fits.rooms; kinds = c.requires.fits.3 },
      );
    }

pub returns-in_err-push_single_row-clause-appends : goal.returns-in_err-push_single_row-clause-appends
returns-in_err-push_single_row-clause-appends g c = λ texts gives.
    let s : Printing = now_of g.T.TableMarker.table c.args.frame.now.hint c.args.self.now in
    let w = c.args.frame.now.sheet.width in
    let h = c.args.frame.now.sheet.height in
    let cells = c.args.self.now.cells in
    let sound = c.requires.sound.printer in
    let fits = c.requires.fits.2 in
    let one : s.table.height s.rows ≡ 1 = c.requires.single.height in
    Appends-text (single_text-is s w h cells refl sound c.args.is_last fits.hint fits.spans c.requires.single.alone one texts _ c.in_ok-next.ensures.index)
    (c.in_ok-push_top.ensures then (c.in_ok-next.ensures.appends then refused-as c.from_residual-in_err-push_single_row.ensures.0 (c.in_err-push_single_row.ensures texts gives)))

pub returns-clause-sound : goal.returns-clause-sound
returns-clause-sound g c =
    let s : Printing = now_of g.T.TableMarker.table c.args.frame.now.hint c.args.self.now in
    let t = g.T.TableMarker.table in
    let w = c.args.frame.now.sheet.width in
    let h = c.args.frame.now.sheet.height in
    let cells = c.args.self.now.cells in
    let sound = c.requires.sound.printer in
    let fits = c.requires.fits.2 in
    let one : s.table.height s.rows ≡ 1 = c.requires.single.height in
    let left = c.in_ok-next.ensures.drawn ∙ single-left s w h cells refl sound c.args.is_last fits.hint fits.spans c.requires.single.alone one c.requires.fits.0 in
    let lines = ap₂ (λ (a b : ℕ). a + b) c.in_ok-next.ensures.index c.height_of-height.ensures in
    subst (IsSoundAt g.T.TableMarker.table c.args.frame.now) (sym c.end_row.ensures) (record {
      printer =
          subst (λ n. IsSound (record s { rows = s.rows + 1; lines = n; is_ended = c.args.is_last; slots = slots_of c.push_above.new.opened }) t w h c.push_above.new.opened) (sym lines)
          (subst (λ l. IsSound (record s { rows = s.rows + 1; lines = (s.lines + separator_height s.table.config s.rows) + s.table.height s.rows; is_ended = c.args.is_last; slots = slots_of l }) t w h l) (sym left)
          (sound-next s w h cells refl sound c.args.is_last fits.hint fits.spans c.requires.fits.0 fits.rooms fits.rows));
      kept = c.in_ok-next.ensures.kept;
    })

pub returns-clause-appends : goal.returns-clause-appends
returns-clause-appends g c = λ texts gives.
    let s : Printing = now_of g.T.TableMarker.table c.args.frame.now.hint c.args.self.now in
    let w = c.args.frame.now.sheet.width in
    let h = c.args.frame.now.sheet.height in
    let cells = c.args.self.now.cells in
    let sound = c.requires.sound.printer in
    let fits = c.requires.fits.2 in
    let one : s.table.height s.rows ≡ 1 = c.requires.single.height in
    Appends-text (single_text-is s w h cells refl sound c.args.is_last fits.hint fits.spans c.requires.single.alone one texts _ c.in_ok-next.ensures.index)
    (c.in_ok-push_top.ensures then (c.in_ok-next.ensures.appends then appended-as (c.in_ok-push_single_row.ensures texts gives)))

pub returns-clause-after : goal.returns-clause-after
returns-clause-after g c = λ texts gives.
    let s : Printing = now_of g.T.TableMarker.table c.args.frame.now.hint c.args.self.now in
    let w = c.args.frame.now.sheet.width in
    let h = c.args.frame.now.sheet.height in
    let cells = c.args.self.now.cells in
    let sound = c.requires.sound.printer in
    let fits = c.requires.fits.2 in
    let one : s.table.height s.rows ≡ 1 = c.requires.single.height in
    let left = c.in_ok-next.ensures.drawn ∙ single-left s w h cells refl sound c.args.is_last fits.hint fits.spans c.requires.single.alone one texts in
    let lines = ap₂ (λ (a b : ℕ). a + b) c.in_ok-next.ensures.index c.height_of-height.ensures in
    ap (now_of g.T.TableMarker.table c.args.frame.now.hint) c.end_row.ensures
    ∙ ap₂ (λ (l : List (Option Placed)) (n : ℕ). record s { rows = s.rows + 1; lines = n; is_ended = c.args.is_last; slots = slots_of l }) left lines
    ∙ after-is s w h cells refl sound c.args.is_last fits.hint fits.spans texts

pub overflow_add-below : goal.overflow_add-below
overflow_add-below g c =
    let s : Printing = now_of g.T.TableMarker.table c.args.frame.now.hint c.args.self.now in
    let fits = c.requires.fits.2 in
    let both = length_of_row s.table.config s.table.height s.rows in
    omega (arith, fits.lines, both, c.in_ok-next.ensures.index, c.height_of-height.ensures)

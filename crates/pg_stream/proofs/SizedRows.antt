-- Printers whose rows bring their heights: what they append and what is true of them by any heights of the rows above that
-- make up the lines so far.
use Rattle.std.proofs.Common.{◌≡◌, ◌↔◌, ℕ, zero, suc, ◌+◌, ◌<◌, ◌≤◌, Bool, true, false, ◌==◌, List, [], ◌∷◌, ◌++◌, map, flat_map, length, length-append, replicate, refl, sym, ap, ap₂, ◌∙◌, arith, subst, add-one, Option, Some, None, IfSome, is_some, if◌then◌else◌}
use mathlib.Core.Path.{fun_ext}
use Rattle.std.specs.List.{range_with_len, enumerate_from}
use Rattle.std.specs.Prelude.{Result, Err}
use Rattle.std.proofs.lemmas.Bool.{false≢true}
use Rattle.std.proofs.lemmas.Bool.Decides.{nat_tests}
use Rattle.pg_layout.specs.Colors.{Color}
use Rattle.pg_layout.specs.declared.position.Position.{Position}
use Rattle.pg_layout.specs.Position.{at}
use Rattle.pg_layout.specs.Text.{Text}
use Rattle.pg_config.specs.Config.{Config, has_horizontal}
use Rattle.pg_config.specs.Spans.{has_row_spans}
use Rattle.pg_picture.specs.Pieces.{continued, Item, separator_text}
use Rattle.pg_picture.specs.Marks.{Mark, sep, line, only_if, marks_of_row, marks_above, body}
use Rattle.pg_picture.specs.Picture.{top_lines, bottom_lines, body_lines}
use Rattle.pg_picture.specs.Sizes.{height_of_rect}
use Rattle.pg_picture.specs.Table.{Table, Unknown, rect_width, crossing_at, body_line, table_body, margin_lines, full_width, total_width}
use Rattle.pg_picture.specs.declared.fits.Misfit.{Misfit}
use Rattle.pg_picture.specs.declared.fits.Misfit.TheVariants.{Spans}
use Rattle.pg_stream.specs.Conditions.{HaveRoom, RowFits, printer_misfit}
use Rattle.pg_stream.specs.Inside.{open_separator_part, open_separator, IsSeparator, IsSoundAt, first_height, height_in, IsSizedAt}
use Rattle.pg_stream.specs.Laws.{RowsCountTheirLines, AreNextHeights, SizedRowsMakeThePicture}
use Rattle.pg_stream.specs.Open.{Slot}
use Rattle.pg_stream.specs.Placed.{Placed, slots_of, AllOpen, IsPlaced}
use Rattle.pg_stream.specs.Printers.{IsSound, now_of}
use Rattle.pg_stream.specs.Printing.{Printing, rows_reached, rows_known, table_known, lines_at, lines_below, lines_printed, row_lines, row_text, finish_lines, finish_text, printer, after_row}
use Rattle.pg_stream.specs.SizedStreams.{sized_misfit, CountsLines}
use Rattle.pg_stream.specs.declared.fault.StreamFault.{StreamFault}
use Rattle.pg_stream.specs.declared.printer.frame.Frame.{Frame}
use Rattle.pg_stream.specs.declared.printer.progress.Progress.{Progress}
use Rattle.pg_stream.proofs.DrawnLines.{length_of_row}
use Rattle.pg_stream.proofs.PicturesOfRows.{live-make}
use Rattle.pg_stream.proofs.draw.OpenLists.{all-open}
use Rattle.pg_stream.proofs.stream.OwnRows.{owner-row, none-between, height-one_row, sep-resized, row-resized, lines-same}
use Rattle.pg_stream.proofs.printer.RowsOfTables.{row_inside_body, AllSame}
use Rattle.pg_stream.proofs.printer.RowsPrinted.{apart, owner-above}
use Rattle.pg_stream.proofs.printer.Ending.{none-at}
use Rattle.pg_picture.proofs.Owners.{Apart}

-- ---- one row by one or the other heights

module _ (s : Printing) (one other : ℕ → ℕ) where
  abbrev by : (ℕ → ℕ) → Printing
  by heights = record s { table = record s.table { height = heights } }

  module _ (same : one s.rows ≡ other s.rows) where
    marks-by : marks_of_row s.table.config one s.rows ≡ marks_of_row s.table.config other s.rows
    unfolding marks_of_row
    marks-by = ap (λ n. only_if (has_horizontal s.table.config s.rows (s.rows + 1)) (sep s.rows) ++ map (line s.rows) (range_with_len 0 n)) same

    module _ (apart : Apart s.table.config.spans) (alone : has_row_spans s.table.config.spans ≡ false) where
      height-by : (x : ℕ) → height_of_rect s.table.config one (at s.rows x) ≡ height_of_rect s.table.config other (at s.rows x)
      height-by x = height-one_row (by one).table apart alone (at s.rows x) ∙ same ∙ sym (height-one_row (by other).table apart alone (at s.rows x))

      rooms-by : (texts : List Text) → HaveRoom (by one).table s.rows texts → HaveRoom (by other).table s.rows texts
      unfolding rect_width
      rooms-by texts rooms = λ c inside own.
          let room = rooms c inside own in
          record { end = room.end; width = room.width; height = (rw (height-by c) at room.height); room = (rw (height-by c) at room.room) }

      pub row_fits-by : (texts : List Text) → RowFits (by one) texts false → RowFits (by other) texts false
      row_fits-by texts fits = record {
        whole = fits.whole;
        goes_on = fits.goes_on;
        rows = fits.rows;
        hint = fits.hint;
        spans = fits.spans;
        rooms = rooms-by texts fits.rooms;
        lines = (rw marks-by at fits.lines);
      }

      pub after_row-by : (texts : List Text) → record (after_row (by one) texts false) { table = record s.table { height = other } } ≡ after_row (by other) texts false
      unfolding after_row table_known
      after_row-by texts =
          ap₂ (λ (lines : ℕ) (slots : List (Option Slot)). record s { table = record s.table { height = other }; rows = s.rows + 1; lines = lines; is_ended = false; slots = slots })
          (ap (λ (l : List Mark). s.lines + length l) marks-by)
          (none-between (table_known (by one) (s.rows + 1) texts) apart alone (s.rows + 1) ∙ sym (none-between (table_known (by other) (s.rows + 1) texts) apart alone (s.rows + 1)))

      module _ (unknown : s.hint ≡ None) (counts : CountsLines (by one)) (counts_other : CountsLines (by other)) where
        row_lines-by : (texts : List Text) → row_lines (by one) texts false ≡ row_lines (by other) texts false
        unfolding row_lines rows_known rows_reached table_known lines_at body_lines table_body top_lines margin_lines full_width total_width
        row_lines-by texts =
            let k : ℕ = s.rows in
            let m : ℕ = rows_reached s.table.config.spans k in
            let t : Table = table_known (by one) m texts in
            let under : k < m = omega arith in
            let inside = row_inside_body s.table.config one k m under in
            let inside_other = row_inside_body s.table.config other k m under in
            let count = ap (λ (l : List Mark). length l) marks-by in
            let h : ℕ = length (table_body t) in
            let g : ℕ = length (table_body (record t { height = other })) in
            subst (λ (o : Option ℕ). row_lines (record (by one) { hint = o }) texts false ≡ row_lines (record (by other) { hint = o }) texts false) (sym unknown)
            (ap (λ (l : List Text). (if k == 0 then top_lines t else []) ++ l)
            (lines-same t other h g s.lines (marks_of_row s.table.config one k) (omega (arith, inside, counts)) (omega (arith, inside_other, counts_other, count)) (row-resized t apart alone other k under same)
            ∙ ap (λ (l : List Mark). map (body_line Unknown (record t { height = other }) g) (enumerate_from s.lines l)) marks-by))

        pub row_text-by : (texts : List Text) → row_text (by one) texts false ≡ row_text (by other) texts false
        unfolding row_text lines_printed
        row_text-by texts = ap (λ (l : List Text). continued (lines_printed s) l) (row_lines-by texts)

-- ---- the end

module _ (s : Printing) (one other : ℕ → ℕ) (apart : Apart s.table.config.spans) (alone : has_row_spans s.table.config.spans ≡ false) (unknown : s.hint ≡ None) (counts : CountsLines (by s one other one)) (counts_other : CountsLines (by s one other other)) where
  seps-by : (t : Table) → Apart t.config.spans → has_row_spans t.config.spans ≡ false → (b : Bool) (r : ℕ) → AllSame t (record t { height = other }) (only_if b (sep r))
  seps-by t apart alone true r = (sep-resized t apart alone other r, tt)
  seps-by t apart alone false r = tt

  below-by : lines_below Unknown (table_known (by s one other one) s.rows []) s.lines ≡ lines_below Unknown (table_known (by s one other other) s.rows []) s.lines
  unfolding lines_below table_known body_lines table_body body bottom_lines margin_lines full_width total_width
  below-by =
      let t : Table = table_known (by s one other one) s.rows [] in
      let end : List Mark = only_if (has_horizontal s.table.config s.rows s.rows) (sep s.rows) in
      let mine = length-append (marks_above s.table.config one s.rows) end in
      let others = length-append (marks_above s.table.config other s.rows) end in
      ap (λ (l : List Text). l ++ bottom_lines t)
      (lines-same t other (length (table_body t)) (length (table_body (record t { height = other }))) s.lines end (omega (arith, mine, counts)) (omega (arith, others, counts_other)) (seps-by t apart alone (has_horizontal s.table.config s.rows s.rows) s.rows))

  pub finish_text-by : finish_text (by s one other one) ≡ finish_text (by s one other other)
  unfolding finish_text finish_lines lines_printed table_known
  finish_text-by = rw unknown (ap (λ (l : List Text). continued (lines_printed s) (if s.rows == 0 then [] else l)) below-by)

-- ---- what is true of the printer

module _ (s : Printing) (heights : ℕ → ℕ) (w : ℕ) (height : Option ℕ) (cells : List (Option Placed)) (slots : s.slots ≡ slots_of cells) (unknown : s.hint ≡ None) (alone : has_row_spans s.table.config.spans ≡ false) (sound : IsSound s s.table w height cells) where
  abbrev told : Printing
  told = record s { table = record s.table { height = heights } }

  nothing : (P : ℕ → Placed → Type 0) → AllOpen P cells
  nothing P =
      all-open P cells (λ x c h here.
      let above = owner-above s w height cells slots sound x (omega (arith, h, sound.whole)) in
      let row = ap (λ (p : Position). p.row) (above.some c here) in
      let mine = owner-row s.table.config.spans (apart s w height cells slots sound) alone s.rows x in
      let before = above.above c here in
      absurd (omega (arith, row, mine, before)))

  pub sound-by : CountsLines told → IsSound told told.table w height cells
  unfolding table_known full_width total_width
  sound-by counts =
      let one = none-between (table_known s s.rows []) (apart s w height cells slots sound) alone s.rows in
      let other = none-between (table_known told s.rows []) (apart s w height cells slots sound) alone s.rows in
      record {
        fits = record { some = sound.fits.some; few = sound.fits.few; spans = sound.fits.spans; width = sound.fits.width; hint = rw unknown tt };
        full = sound.full;
        high = rw unknown (let e : height ≡ None = (rw unknown at sound.high) in e);
        whole = sound.whole;
        slots = sound.slots ∙ one ∙ sym other;
        lines = counts;
        placed = nothing (IsPlaced told.table);
        few = sound.few;
        hinted = sound.hinted;
        ended = sound.ended;
      }

-- the separators that may be kept ask no height
separator-by : (t : Table) (heights : ℕ → ℕ) (r : ℕ) → open_separator t (r + 1) (replicate t.columns None) r ≡ open_separator (record t { height = heights }) (r + 1) (replicate t.columns None) r
unfolding open_separator open_separator_part
separator-by t heights r =
    ap (λ (part : ℕ → List Item). flat_map part (range_with_len 0 t.columns) ++ crossing_at t.config (r + 1) t.columns (at r t.columns)) (fun_ext (λ x. rw (none-at t.columns x) refl))

kept-by : (t : Table) (heights : ℕ → ℕ) (o : Option Text) → IfSome o (IsSeparator t) → IfSome o (IsSeparator (record t { height = heights }))
kept-by t heights None kept = tt
kept-by t heights (Some text) kept = (kept.0, λ r some. kept.1 r some ∙ ap separator_text (separator-by t heights r))

-- ---- a stream of such rows

module _ {D C B S A : Type 0} (t : Table) (frame : Frame D C B) (progress : Progress S A) where
  -- the same printer where it was told other heights
  pub sound_at-by : (heights : ℕ → ℕ) → frame.hint ≡ None → has_row_spans t.config.spans ≡ false → CountsLines (now_of (record t { height = heights }) frame.hint progress)
      → IsSoundAt t frame progress → IsSoundAt (record t { height = heights }) frame progress
  sound_at-by heights unknown alone counts sound = record {
    printer = sound-by (now_of t frame.hint progress) heights frame.sheet.width frame.sheet.height progress.cells refl unknown alone sound.printer counts;
    kept = kept-by t heights progress.kept.text sound.kept;
  }

  -- or in another frame that was told the same
  pub sound_at-in : {E G H : Type 0} (like : Frame E G H) → like.sheet.width ≡ frame.sheet.width → like.sheet.height ≡ frame.sheet.height → like.hint ≡ frame.hint → IsSoundAt t frame progress → IsSoundAt t like progress
  sound_at-in {E} {G} {H} like width height hint sound = record {
    printer = rw (width, height, hint) sound.printer;
    kept = sound.kept;
  }

-- ---- the heights that such a stream remembers

module _ (config : Config) where
  marks_above-same : (one other : ℕ → ℕ) (n : ℕ) → ((r : ℕ) → r < n → one r ≡ other r) → marks_above config one n ≡ marks_above config other n
  unfolding marks_above marks_of_row
  marks_above-same one other zero same = refl
  marks_above-same one other (suc n) same =
      ap₂ (λ (l : List Mark) (h : ℕ). l ++ (only_if (has_horizontal config n (n + 1)) (sep n) ++ map (line n) (range_with_len 0 h)))
      (marks_above-same one other n (λ r below. same r (omega arith))) (same n (omega arith))

  length-more : (heights : ℕ → ℕ) (n : ℕ) → length (marks_above config heights (suc n)) ≡ length (marks_above config heights n) + length (marks_of_row config heights n)
  unfolding marks_above
  length-more heights n = length-append (marks_above config heights n) (marks_of_row config heights n)

  length-none : (heights : ℕ → ℕ) → length (marks_above config heights zero) ≡ 0
  unfolding marks_above
  length-none heights = refl

  -- the first row has at least its own lines
  first-lines : (above n : ℕ) → above ≤ length (marks_above config (first_height above) (suc n))
  first-lines above zero = let e = length-more (first_height above) zero in let f = length_of_row config (first_height above) zero in omega (arith, e, f)
  first-lines above (suc n) = let e = length-more (first_height above) (suc n) in let ih = first-lines above n in omega (arith, e, ih)

  pub above-lines : (above rows : ℕ) → (rows ≡ 0 → above ≡ 0) → above ≤ length (marks_above config (first_height above) rows)
  above-lines above zero none = let e = none refl in omega (arith, e)
  above-lines above (suc n) none = first-lines above n

  later-row : (above n : ℕ) → length (marks_of_row config (first_height above) (suc n)) ≡ length (marks_of_row config (first_height 0) (suc n))
  unfolding marks_of_row
  later-row above n = let other : (suc n == 0) ≡ false = grind (arith, nat_tests) in rw other refl

  -- where it has more lines, there are so many more
  first-more : (above more n : ℕ) → length (marks_above config (first_height (above + more)) (suc n)) ≡ length (marks_above config (first_height above) (suc n)) + more
  first-more above more zero =
      let a = length-more (first_height (above + more)) zero in
      let b = length-more (first_height above) zero in
      let x = length-none (first_height (above + more)) in
      let y = length-none (first_height above) in
      let e = length_of_row config (first_height (above + more)) zero in
      let f = length_of_row config (first_height above) zero in
      omega (arith, a, b, e, f, x, y)
  first-more above more (suc n) =
      let a = length-more (first_height (above + more)) (suc n) in
      let b = length-more (first_height above) (suc n) in
      let e = later-row (above + more) n in
      let f = later-row above n in
      let ih = first-more above more n in
      omega (arith, a, b, e, f, ih)

  pub above-same : (k height above : ℕ) → marks_above config (first_height above) k ≡ marks_above config (height_in k height above) k
  above-same k height above = marks_above-same (first_height above) (height_in k height above) k (λ r below. let other : (r == k) ≡ false = grind (arith, nat_tests, below) in rw other refl)

  pub next-height : (k height above : ℕ) → height_in k height above k ≡ height
  next-height k height above = let own : (k == k) ≡ true = grind (arith, nat_tests) in rw own refl

  -- a row's height goes to the first row, when it is printed
  pub moved : (k height above : ℕ) → (k ≡ 0 → above ≡ 0) → length (marks_above config (height_in k height above) (k + 1)) ≡ length (marks_above config (first_height (above + height)) (k + 1))
  moved zero height above none =
      let e = none refl in
      let a = length-more (height_in zero height above) zero in
      let b = length-more (first_height (above + height)) zero in
      let x = length-none (height_in zero height above) in
      let y = length-none (first_height (above + height)) in
      let f = length_of_row config (height_in zero height above) zero in
      let g = length_of_row config (first_height (above + height)) zero in
      omega (arith, a, b, e, f, g, x, y)
  moved (suc n) height above none =
      let own = next-height (suc n) height above in
      let a = length-more (height_in (suc n) height above) (suc n) in
      let b = length-more (first_height (above + height)) (suc n) in
      let e = length_of_row config (height_in (suc n) height above) (suc n) in
      let f = length_of_row config (first_height (above + height)) (suc n) in
      let g = first-more above height n in
      let same = ap (λ (l : List Mark). length l) (above-same (suc n) height above) in
      let other : first_height (above + height) (suc n) ≡ 0 = (let no : (suc n == 0) ≡ false = grind (arith, nat_tests) in rw no refl) in
      rw add-one (omega (arith, a, b, e, f, g, same, own, other))

-- ---- what keeps a stream of such rows from being made

module _ (config : Config) (columns : ℕ) (width height : ℕ → ℕ) (color : Position → Option Color) (b : Bool) (is : b ≡ has_row_spans config.spans) where
  abbrev start : Printing
  start = printer config columns width height color None

  pub misfit-spans : b ≡ true → sized_misfit start ≡ Some Spans
  unfolding sized_misfit printer
  misfit-spans spans = let there : has_row_spans config.spans ≡ true = sym is ∙ spans in rw there refl

  pub misfit-rest : b ≡ false → sized_misfit start ≡ printer_misfit start
  unfolding sized_misfit printer
  misfit-rest alone = let none : has_row_spans config.spans ≡ false = sym is ∙ alone in rw none refl

-- a row span is told as such, and no other fault is
pub spans-told : {T : Type 0} {m : Option Misfit} → m ≡ Some Spans → (misfit : Misfit) → (◌≡◌ {A = Result T StreamFault} (Err (StreamFault.Misfit Spans)) (Err (StreamFault.Misfit misfit))) ↔ (m ≡ Some misfit)
spans-told {T} is misfit = (λ told. is ∙ ap (λ (x : Misfit). Some x) (let same : Spans ≡ misfit = cc in same), λ found. let same : Spans ≡ misfit = (let e = sym is ∙ found in cc) in ap (λ (x : Misfit). Err (StreamFault.Misfit x)) same)

pub spans-memory : {m : Option Misfit} → m ≡ None → m ≡ Some Spans → ⊥
spans-memory none some = false≢true (ap is_some (sym none ∙ some))

-- a stream before its first row

pub made-by : {p : Printing} (config : Config) (columns : ℕ) (width height : ℕ → ℕ) (color : Position → Option Color) → p ≡ printer config columns width height color None
    → (heights : ℕ → ℕ) → record p { table = record p.table { height = heights } } ≡ printer config columns width heights color None
unfolding printer
made-by config columns width height color made heights = ap (λ (p : Printing). record p { table = record p.table { height = heights } }) made

pub sized-first : {D C B S A : Type 0} (t : Table) (frame : Frame D C B) (progress : Progress S A) (config : Config) (columns : ℕ) (width height : ℕ → ℕ) (color : Position → Option Color)
    → now_of t frame.hint progress ≡ printer config columns width height color None → t.config ≡ frame.sheet.config.now → has_row_spans config.spans ≡ false → IsSoundAt t frame progress → IsSizedAt t 0 frame progress
unfolding printer marks_above
sized-first t frame progress config columns width height color made same alone sound =
    let unknown : frame.hint ≡ None = ap (λ (p : Printing). p.hint) made in
    let spans : has_row_spans t.config.spans ≡ false = ap (λ (p : Printing). has_row_spans p.table.config.spans) made ∙ alone in
    let rows : progress.rows ≡ 0 = ap (λ (p : Printing). p.rows) made in
    let lines : progress.lines ≡ 0 = ap (λ (p : Printing). p.lines) made in
    record {
      sound = sound_at-by t frame progress (first_height 0) unknown spans (lines ∙ sym (ap (λ n. length (marks_above t.config (first_height 0) n)) rows)) sound;
      none = λ _. refl;
      hint = unknown;
      alone = ap (λ (c : Config). has_row_spans c.spans) (sym same) ∙ spans;
    }

-- ---- the law

kept-lines : (s : Printing) (texts : List Text) (is_last : Bool) → CountsLines s → CountsLines (after_row s texts is_last)
unfolding after_row marks_above
kept-lines s texts is_last counts = rw add-one (ap (λ n. n + length (marks_of_row s.table.config s.table.height s.rows)) counts ∙ sym (length-append (marks_above s.table.config s.table.height s.rows) (marks_of_row s.table.config s.table.height s.rows)))

no-lines : (config : Config) (columns : ℕ) (width height : ℕ → ℕ) (color : Position → Option Color) (hint : Option ℕ) → CountsLines (printer config columns width height color hint)
unfolding printer marks_above
no-lines config columns width height color hint = refl

pub count-lines : RowsCountTheirLines
count-lines = record { none = no-lines; more = kept-lines }

next-heights : (s : Printing) (rows : List (List Text)) → CountsLines s → AreNextHeights s rows
next-heights s [] counts = counts
next-heights s (cells ∷ rows) counts = (record { above = counts; next = refl }, next-heights (after_row s cells false) rows (kept-lines s cells false counts))

pub sized-make : SizedRowsMakeThePicture
sized-make t fit some wide = (next-heights _ _ (no-lines t.config t.columns t.width t.height t.color None), live-make t fit some wide)

-- rows count their lines
pub ruleset lines_of_sized_rows = (count-lines)

-- Rows that are drawn one after another, in parts, why one isn't, and the picture that their lines are.
use Rattle.std.proofs.Common.{◌≡◌, ◌+◌, ℕ, true, false, List, [], ◌∷◌, ◌++◌, length, map, slice_index_or, None, refl, sym, ap, ap₂, ◌∙◌, subst, append-nil, append_assoc, length-append}
use Rattle.std.proofs.Common.{add-zero, zero-add, arith, ◌<◌, get_or, take, ◌≤◌, drop, length-drop, Result, Ok, Err, Option, ◌-◌, zero, suc, ◌==◌, All, inr}
use Rattle.std.specs.Prelude.{nat_lt, ⊤, IfSome}
use Rattle.std.proofs.lemmas.Bool.Decides.{nat_tests}
use Rattle.std.proofs.Math.Seq.{get_or-append_seam}
use Rattle.std.proofs.lemmas.List.{map-append, take_more, at_drop_more, length-map, length_push, nil_from_length}
use Rattle.pg_layout.specs.Text.{Text}
use Rattle.pg_config.specs.Spans.{has_row_spans, Span}
use Rattle.pg_fit.specs.Rows.{row_height}
use Rattle.pg_picture.specs.Fits.{spans_fit_columns, spans_fit}
use Rattle.pg_picture.proofs.Owners.{Apart, apart_from}
use Rattle.pg_stream.specs.Conditions.{RowFits}
use Rattle.pg_stream.specs.LiveStreams.{Living, MayEnd, live_text}
use Rattle.pg_stream.specs.Printing.{Printing, after_row, printer, row_text, finish_lines, finish_text, lines_printed, row_lines}
use Rattle.pg_stream.specs.SizedStreams.{CountsLines, IsNextHeight}
use Rattle.pg_stream.proofs.SizedRows.{after_row-by, count-lines, row_text-by}
use Rattle.ruled_table.specs.Layouts.{cells_of, heights_of, start_of, cells_within, extents_in, fields_in, layout_by, layout_of, measured_in, places_in, plan_by, plan_fault, sizes_fault_by}
use Rattle.ruled_table.specs.Layouts.{abridged, note_of, shown_columns, Plan, plan_of, table_of, whole_of, whole_text}
use Rattle.ruled_table.specs.Columns.{ellipsis, fields_at, texts_at}
use Rattle.ruled_table.specs.Sides.{extents_of, pointed_fields, pointed_row, ruler_of}
use Rattle.pg_table.specs.declared.numbers.Extent.{Extent}
use Rattle.ruled_table.specs.RowLines.{AreHeights, HasPrinted, after_rows, begun_of, begun_text, ended_by, lines_of, next_lines, GrowsTo, TellsRoom, ended, note_below}
use Rattle.ruled_table.specs.Shown.{shown_row, shown_text}
use Rattle.ruled_table.specs.Widths.{row_within, room_of, text_within, texts_within, first_config, widths_of}
use Rattle.ruled_table.specs.declared.options.Options.{Options}
use Rattle.csv.specs.Records.{Row, fields_of}
use Rattle.pg_table.specs.declared.overflow.Overflow.{Overflow}
use Rattle.std.specs.Result.{IsErrAnd}
use Rattle.std.proofs.lemmas.Bool.{true≢false}
use Rattle.pg_stream.specs.Streams.{OnlyMemory, TellsRow}
use Rattle.pg_stream.specs.declared.fault.StreamFault.{StreamFault}
use Rattle.pg_stream.specs.declared.fault.StreamFault.TheVariants as stream
use Rattle.ruled_table.specs.Tables.{fault_of_stream, is_memory}
use Rattle.ruled_table.specs.declared.view.ViewFault.{ViewFault}
use Rattle.ruled_table.specs.declared.view.ViewFault.TheVariants.{Memory, Totals}
use Rattle.std.proofs.lemmas.Simd.{map-map}
use Rattle.pg_config.specs.Config.{Config}
use Rattle.ruled_table.proofs.LentTexts.{rows-shown}
use Rattle.std.specs.List.{range_with_len}
use Rattle.pg_layout.specs.Position.{at}
use Rattle.pg_layout.specs.Records.{text_at}
use Rattle.pg_fit.proofs.LawsOfTexts.{lines_of-some}
use Rattle.pg_picture.specs.Pieces.{continued, joined}
use Rattle.pg_picture.specs.Picture.{picture}
use Rattle.pg_picture.specs.Table.{Table, Unknown}
use Rattle.pg_stream.specs.Laws.{texts_of}
use Rattle.pg_stream.proofs.DrawnLines.{length_of_row}
use Rattle.pg_stream.proofs.PicturesOfRows.{live-make}

-- ---- rows that are drawn one after another, in parts, and whatever heights are said of the rows behind them

-- ---- rows in two parts

pub lines-parts : (s : Printing) (xs ys : List (List Text)) → lines_of s (xs ++ ys) ≡ lines_of s xs ++ lines_of (after_rows s xs) ys
unfolding lines_of after_rows
lines-parts s [] ys = refl
lines-parts s (cells ∷ xs) ys =
    ap (λ (t : Text). next_lines s cells ++ t) (lines-parts (after_row s cells false) xs ys)
    ∙ sym (append_assoc (next_lines s cells) (lines_of (after_row s cells false) xs) (lines_of (after_rows (after_row s cells false) xs) ys))

pub after-parts : (s : Printing) (xs ys : List (List Text)) → after_rows s (xs ++ ys) ≡ after_rows (after_rows s xs) ys
unfolding after_rows
after-parts s [] ys = refl
after-parts s (cells ∷ xs) ys = after-parts (after_row s cells false) xs ys

pub heights-parts : (s : Printing) (xs ys : List (List Text)) → AreHeights s (xs ++ ys) → AreHeights s xs × AreHeights (after_rows s xs) ys
unfolding AreHeights after_rows
heights-parts s [] ys are = (tt, are)
heights-parts s (cells ∷ xs) ys are =
    let parts = heights-parts (after_row s cells false) xs ys are.1 in
    ((are.0, parts.0), parts.1)

pub counts-after : (s : Printing) (xs : List (List Text)) → CountsLines s → CountsLines (after_rows s xs)
unfolding after_rows
counts-after s [] counts = counts
counts-after s (cells ∷ xs) counts = counts-after (after_row s cells false) xs (count-lines.more s cells false counts)

rows-after : (s : Printing) (xs : List (List Text)) → (after_rows s xs).rows ≡ s.rows + length xs
unfolding after_rows after_row
rows-after s [] = sym (add-zero s.rows)
rows-after s (cells ∷ xs) = let e = rows-after (after_row s cells false) xs in omega (arith, e)

-- the table of the printer stays
table-after : (s : Printing) (xs : List (List Text)) → (after_rows s xs).table ≡ s.table
unfolding after_rows after_row
table-after s [] = refl
table-after s (cells ∷ xs) = table-after (after_row s cells false) xs

lines-one : (s : Printing) (cells : List Text) → lines_of s (cells ∷ []) ≡ next_lines s cells
unfolding lines_of
lines-one s cells = append-nil (next_lines s cells)

after-one : (s : Printing) (cells : List Text) → after_rows s (cells ∷ []) ≡ after_row s cells false
unfolding after_rows
after-one s cells = refl

-- ---- the heights of all rows

heights-from : (s : Printing) (above rest : List (List Text)) → s.table.height ≡ heights_of (above ++ rest) → s.rows ≡ length above → AreHeights s rest
unfolding AreHeights after_row
heights-from s above [] are many = tt
heights-from s above (cells ∷ rest) are many = (
  ap (λ (h : ℕ → ℕ). h s.rows) are ∙ ap (λ (n : ℕ). row_height (slice_index_or (above ++ cells ∷ rest) n [])) many ∙ ap row_height (get_or-append_seam above cells rest []),
  heights-from (after_row s cells false) (above ++ cells ∷ []) rest (are ∙ ap heights_of (sym (append_assoc above (cells ∷ []) rest))) (omega (arith, many, length-append above (cells ∷ []))),
)

pub heights-all : (s : Printing) (rows : List (List Text)) → s.table.height ≡ heights_of rows → s.rows ≡ 0 → AreHeights s rows
heights-all s rows are none = heights-from s [] rows are none

module _ (plan : Plan) (heights : ℕ → ℕ) where
  pub start-counts : CountsLines (start_of plan heights)
  start-counts = count-lines.none plan.config (length plan.places) plan.width heights plan.color None

  pub start-rows : (start_of plan heights).rows ≡ 0
  unfolding printer
  start-rows = refl

  pub start-heights : (start_of plan heights).table.height ≡ heights
  unfolding printer
  start-heights = refl

  pub start-spans : (start_of plan heights).table.config.spans ≡ plan.config.spans
  unfolding printer
  start-spans = refl

  pub start-hint : (start_of plan heights).hint ≡ None
  unfolding printer
  start-hint = refl

pub are-heights : (plan : Plan) (cells : List (List Text)) → AreHeights (start_of plan (heights_of cells)) cells
are-heights plan cells = heights-all (start_of plan (heights_of cells)) cells (start-heights plan (heights_of cells)) (start-rows plan (heights_of cells))

-- ---- rows by one or other heights that are theirs

abbrev by : Printing → (ℕ → ℕ) → Printing
by s heights = record s { table = record s.table { height = heights } }

apart-none : Apart []
unfolding spans_fit_columns
apart-none = apart_from [] 0 refl

none-alone : has_row_spans [] ≡ false
unfolding has_row_spans
none-alone = refl

lines-by : (s : Printing) (one other : ℕ → ℕ) (rows : List (List Text)) → s.table.config.spans ≡ [] → s.hint ≡ None → CountsLines (by s one) → CountsLines (by s other)
    → AreHeights (by s one) rows → AreHeights (by s other) rows → lines_of (by s one) rows ≡ lines_of (by s other) rows
unfolding lines_of AreHeights after_row
lines-by s one other [] plain unknown counts others are are_other = refl
lines-by s one other (cells ∷ rows) plain unknown counts others are are_other =
    let same : one s.rows ≡ other s.rows = are.0 ∙ sym are_other.0 in
    let apart : Apart s.table.config.spans = subst Apart (sym plain) apart-none in
    let alone : has_row_spans s.table.config.spans ≡ false = ap has_row_spans plain ∙ none-alone in
    let next : Printing = after_row (by s one) cells false in
    let text : row_text (by s one) cells false ≡ row_text (by s other) cells false = row_text-by s one other same apart alone unknown counts others cells in
    let after : by next other ≡ after_row (by s other) cells false = after_row-by s one other same apart alone cells in
    let later : lines_of next rows ≡ lines_of (by next other) rows =
    lines-by next one other rows plain unknown (count-lines.more (by s one) cells false counts) (subst CountsLines (sym after) (count-lines.more (by s other) cells false others))
    are.1 (subst (λ (t : Printing). AreHeights t rows) (sym after) are_other.1)
    in
    ap₂ (λ (x y : Text). ended_by (nat_lt 0 s.rows) x ++ y) text (later ∙ ap (λ (t : Printing). lines_of t rows) after)

start-by : (plan : Plan) (one other : ℕ → ℕ) → by (start_of plan one) other ≡ start_of plan other
unfolding printer
start-by plan one other = refl

-- the lines of a table's first rows are those of the rows alone
pub begun-by : (plan : Plan) (cells : List (List Text)) (heights : ℕ → ℕ) → plan.config.spans ≡ [] → AreHeights (start_of plan heights) cells → lines_of (start_of plan heights) cells ≡ begun_of plan cells
begun-by plan cells heights plain are =
    let own : ℕ → ℕ = heights_of cells in
    let s : Printing = start_of plan heights in
    let mine : by s heights ≡ s = start-by plan heights heights in
    let others : by s own ≡ start_of plan own = start-by plan heights own in
    ap (λ (t : Printing). lines_of t cells) (sym mine)
    ∙ lines-by s heights own cells (start-spans plan heights ∙ plain) (start-hint plan heights) (subst CountsLines (sym mine) (start-counts plan heights)) (subst CountsLines (sym others) (start-counts plan own))
    (subst (λ (t : Printing). AreHeights t cells) (sym mine) are) (subst (λ (t : Printing). AreHeights t cells) (sym others) (are-heights plan cells))
    ∙ ap (λ (t : Printing). lines_of t cells) others

-- ---- one row more

module _ (plan : Plan) (above : List (List Text)) (cells : List Text) where
  abbrev all : List (List Text)
  all = above ++ cells ∷ []

  parted : (heights : ℕ → ℕ) → AreHeights (start_of plan heights) all → AreHeights (start_of plan heights) above × ((after_rows (start_of plan heights) above).table.height (after_rows (start_of plan heights) above).rows ≡ row_height cells)
  unfolding AreHeights
  parted heights are = let parts = heights-parts (start_of plan heights) above (cells ∷ []) are in (parts.0, parts.1.0)

  -- the next row has its height
  pub next-height : (state : (ℕ → ℕ) → Living) → HasPrinted plan above state → (heights : ℕ → ℕ) → AreHeights (start_of plan heights) all → IsNextHeight (state heights).printed (row_height cells)
  next-height state prints heights are =
      let parts = parted heights are in
      subst (λ (t : Living). IsNextHeight t.printed (row_height cells)) (sym (prints heights parts.0)) (record { above = counts-after (start_of plan heights) above (start-counts plan heights); next = parts.1 })

  -- the printer behind it
  pub printed-next : (old new : (ℕ → ℕ) → Living) → HasPrinted plan above old
      → ((heights : ℕ → ℕ) → IsNextHeight (old heights).printed (row_height cells) → new heights ≡ record { printed = after_row (old heights).printed cells false; is_lost = false }) → HasPrinted plan all new
  printed-next old new prints after = λ heights are.
      let parts = parted heights are in
      let is : Printing → Living = λ s. record { printed = s; is_lost = false } in
      after heights (next-height old prints heights are)
      ∙ ap (λ (t : Living). is (after_row t.printed cells false)) (prints heights parts.0)
      ∙ ap is (sym (after-parts (start_of plan heights) above (cells ∷ []) ∙ after-one (after_rows (start_of plan heights) above) cells))

  -- its lines
  pub begun-next : (state : (ℕ → ℕ) → Living) (is_begun : _) (lines : Text) → plan.config.spans ≡ [] → HasPrinted plan above state → is_begun ≡ nat_lt 0 (length above)
      → ((heights : ℕ → ℕ) → IsNextHeight (state heights).printed (row_height cells) → lines ≡ row_text (state heights).printed cells false)
      → begun_of plan above ++ ended_by is_begun lines ≡ begun_of plan all
  begun-next state is_begun lines plain prints begun text =
      let heights : ℕ → ℕ = heights_of all in
      let are = are-heights plan all in
      let parts = parted heights are in
      let start : Printing = start_of plan heights in
      let s : Printing = after_rows start above in
      let is : lines ≡ row_text s cells false = text heights (next-height state prints heights are) ∙ ap (λ (t : Living). row_text t.printed cells false) (prints heights parts.0) in
      let flag : is_begun ≡ nat_lt 0 s.rows = begun ∙ ap (nat_lt 0) (sym (rows-after start above ∙ ap (λ (n : ℕ). n + length above) (start-rows plan heights) ∙ zero-add (length above))) in
      ap₂ (λ x (t : Text). begun_of plan above ++ ended_by x t) flag is
      ∙ ap (λ (t : Text). t ++ next_lines s cells) (sym (begun-by plan above heights plain parts.0))
      ∙ ap (λ (t : Text). lines_of start above ++ t) (sym (lines-one s cells))
      ∙ sym (lines-parts start above (cells ∷ []))

  abbrev pub own-heights : ℕ → ℕ
  own-heights = heights_of all

  -- the printer above it isn't lost, and these are the heights of all
  pub alive-next : (state : (ℕ → ℕ) → Living) → HasPrinted plan above state → AreHeights (start_of plan own-heights) all × ((state own-heights).is_lost ≡ false)
  alive-next state prints =
      let are = are-heights plan all in
      (are, ap (λ (t : Living). t.is_lost) (prints own-heights (parted own-heights are).0))

  -- it has no spans
  pub plain-next : (state : (ℕ → ℕ) → Living) → plan.config.spans ≡ [] → HasPrinted plan above state → (state own-heights).printed.table.config.spans ≡ []
  plain-next state plain prints =
      ap (λ (t : Living). t.printed.table.config.spans) (prints own-heights (parted own-heights (are-heights plan all)).0)
      ∙ ap (λ t. t.config.spans) (table-after (start_of plan own-heights) above)
      ∙ start-spans plan own-heights
      ∙ plain

  -- it has no room
  pub refused-next : (state : (ℕ → ℕ) → Living) → HasPrinted plan above state → ¬ (RowFits (state (heights_of all)).printed cells false) → ¬ (RowFits (after_rows (start_of plan (heights_of all)) above) cells false)
  refused-next state prints none =
      subst (λ (t : Living). ¬ (RowFits t.printed cells false)) (prints (heights_of all) (parted (heights_of all) (are-heights plan all)).0) none

-- ---- rows below rows

begun-above : (plan : Plan) (above below : List (List Text)) → plan.config.spans ≡ [] → begun_of plan above ++ lines_of (after_rows (start_of plan (heights_of (above ++ below))) above) below ≡ begun_of plan (above ++ below)
begun-above plan above below plain =
    let start : Printing = start_of plan (heights_of (above ++ below)) in
    let parts = heights-parts start above below (are-heights plan (above ++ below)) in
    ap (λ (t : Text). t ++ lines_of (after_rows start above) below) (sym (begun-by plan above (heights_of (above ++ below)) plain parts.0))
    ∙ sym (lines-parts start above below)

cells-append : (options : Options) (plan : Plan) (xs ys : List (List Text)) → cells_of options plan (xs ++ ys) ≡ cells_of options plan xs ++ cells_of options plan ys
cells-append options plan xs ys =
    let above : List (List Text) = map (pointed_row plan.extents) xs in
    let below : List (List Text) = map (pointed_row plan.extents) ys in
    ap (λ (rows : List (List Text)). map (row_within options.bounds.overflow plan.width) (map (shown_row options plan.places) rows)) (map-append (pointed_row plan.extents) xs ys)
    ∙ ap (λ (rows : List (List Text)). map (row_within options.bounds.overflow plan.width) rows) (map-append (shown_row options plan.places) above below)
    ∙ map-append (row_within options.bounds.overflow plan.width) (map (shown_row options plan.places) above) (map (shown_row options plan.places) below)

-- the lines of rows are a beginning of those of these rows and others below them
pub begun-on : (options : Options) (plan : Plan) (rows more : List (List Text)) → plan.config.spans ≡ [] → (text : Text) × (begun_text options plan rows ++ text ≡ begun_text options plan (rows ++ more))
begun-on options plan rows more plain = (
  lines_of (after_rows (start_of plan (heights_of (cells_of options plan rows ++ cells_of options plan more))) (cells_of options plan rows)) (cells_of options plan more),
  begun-above plan (cells_of options plan rows) (cells_of options plan more) plain ∙ ap (begun_of plan) (sym (cells-append options plan rows more)),
)

-- the cells of one row more, by what is known of the options and the plan
pub cells-next : (options asked : Options) (plan laid : Plan) (rows : List (List Text)) (row fields cells : List Text) → asked ≡ options → laid ≡ plan → fields ≡ pointed_row plan.extents row
    → cells ≡ row_within asked.bounds.overflow laid.width (shown_row asked laid.places fields) → cells_of options plan rows ++ cells ∷ [] ≡ cells_of options plan (rows ++ row ∷ [])
cells-next options asked plan laid rows row fields cells same is pointed made =
    ap (λ (xs : List Text). cells_of options plan rows ++ xs ∷ [])
    (made
    ∙ ap (λ (o : Options). row_within o.bounds.overflow laid.width (shown_row o laid.places fields)) same
    ∙ ap (λ (p : Plan). row_within options.bounds.overflow p.width (shown_row options p.places fields)) is
    ∙ ap (λ (texts : List Text). row_within options.bounds.overflow plan.width (shown_row options plan.places texts)) pointed)
    ∙ sym (cells-append options plan rows (row ∷ []))

-- a row as it is where no points are below one another, and with spaces behind its numbers where some are
pub as-it-is : (extents : List Extent) (row : List Text) → length extents ≡ 0 → row ≡ pointed_row extents row
as-it-is [] row none = refl
as-it-is (extent ∷ extents) row none = absurd (omega (arith, none))

pub as-pointed : (extents : List Extent) (row : List Text) → 0 < length extents → pointed_fields extents row ≡ pointed_row extents row
as-pointed [] row some = absurd (omega (arith, some))
as-pointed (extent ∷ extents) row some = refl

-- a row behind others is one of some
pub some-rows : (above : List (List Text)) (cells : List Text) → true ≡ nat_lt 0 (length (above ++ cells ∷ []))
some-rows above cells =
    let many : length (above ++ cells ∷ []) ≡ length above + 1 = length-append above (cells ∷ []) in
    let some : nat_lt 0 (length (above ++ cells ∷ [])) ≡ true = grind (arith, nat_tests, many) in
    sym some

-- ---- rows whose lines are appended, one after another

-- the cells of one row more
pub pushed-cells : (overflow : Overflow) (plan : Plan) (records : List Row) (i : ℕ) (fields : Row) (cells : List Text) → i < length records → fields ≡ get_or records i fields → cells ≡ row_within overflow plan.width (fields_at plan.places (fields_of fields))
    → cells_within overflow plan (texts_at plan.places (take i records)) ++ cells ∷ [] ≡ cells_within overflow plan (texts_at plan.places (take (i + 1) records))
pushed-cells overflow plan records i fields cells within is made =
    let texts : Row → List Text = λ row. fields_at plan.places (fields_of row) in
    let above : List (List Text) = texts_at plan.places (take i records) in
    ap (λ (row : List Text). map (row_within overflow plan.width) above ++ row ∷ []) (made ∙ ap (λ (row : Row). row_within overflow plan.width (texts row)) is)
    ∙ sym (map-append (row_within overflow plan.width) above (texts (get_or records i fields) ∷ []))
    ∙ ap (map (row_within overflow plan.width)) (sym (map-append texts (take i records) (get_or records i fields ∷ [])))
    ∙ ap (λ (rows : List Row). cells_within overflow plan (texts_at plan.places rows)) (sym (take_more records i fields within))

-- of no rows
pub begun-none : (plan : Plan) → [] ≡ begun_of plan []
unfolding lines_of
begun-none plan = refl

-- a text that is what is begun, is the whole behind what makes it that
pub grown : (begun whole old new : Text) → GrowsTo begun whole old new → old ≡ begun → new ≡ whole
grown begun whole old new grows is = grows.bytes ∙ ap (λ (t : Text). t ++ grows.more) is ∙ grows.makes

-- ---- the texts of a row within their columns, one after another

-- one text more is made of the fields at these places
module _ {X : Type 0} (view : X → Text) (overflow : Overflow) (width : ℕ → ℕ) (f : Option ℕ → Text) (places : List (Option ℕ)) where
  pub within-next : (made next : List X) (i : ℕ) → i < length places
      → map view next ≡ map view made ++ text_within overflow (room_of width (length made)) (f (slice_index_or places i None)) ∷ []
      → map view made ++ texts_within (length made) overflow width (map f (drop i places)) ≡ row_within overflow width (map f places)
      → map view next ++ texts_within (length next) overflow width (map f (drop (i + 1) places)) ≡ row_within overflow width (map f places)
  within-next made next i within is before =
      let cells : List Text = map view made in
      let cell : Text = text_within overflow (room_of width (length made)) (f (slice_index_or places i None)) in
      let many : length next ≡ length made + 1 =
      sym (length-map next view) ∙ ap (λ (ts : List Text). length ts) is ∙ length_push cells cell ∙ ap (λ (n : ℕ). n + 1) (length-map made view)
      in
      let steps = at_drop_more (λ (ps : List (Option ℕ)). texts_within (length made) overflow width (map f ps)) places i None within in
      ap (λ (n : ℕ). map view next ++ texts_within n overflow width (map f (drop (i + 1) places))) many
      ∙ ap (λ (ts : List Text). ts ++ texts_within (length made + 1) overflow width (map f (drop (i + 1) places))) is
      ∙ append_assoc cells (cell ∷ []) (texts_within (length made + 1) overflow width (map f (drop (i + 1) places)))
      ∙ ap (λ (ts : List Text). cells ++ ts) (sym steps)
      ∙ before

  pub within-all : (made : List X) (i : ℕ) → length places ≤ i
      → map view made ++ texts_within (length made) overflow width (map f (drop i places)) ≡ row_within overflow width (map f places) → map view made ≡ row_within overflow width (map f places)
  within-all made i past before =
      let none : drop i places ≡ [] = nil_from_length (drop i places) (omega (arith, length-drop i places)) in
      sym (append-nil (map view made)) ∙ (rw none at before)

-- ---- what a printer of rows tells of a row or an end that it doesn't print, as a fault of rows

row-told : (U : Type 0) (found : StreamFault) (Fits : Type 0) (row : ℕ) → TellsRow {U = U} Fits row (Err found) → is_memory (fault_of_stream found) ≡ false → (fault_of_stream found ≡ Totals) × (¬ Fits)
row-told U (stream.Misfit misfit) Fits row told soft = absurd told
row-told U (stream.Row n) Fits row told soft = (refl, told.1)
row-told U stream.Open Fits row told soft = absurd told
row-told U stream.Memory Fits row told soft = absurd (true≢false soft)

-- a row that isn't printed has no room, or memory was refused
pub row-stops : {X : Type 0} (U : Type 0) (Fits : Type 0) (row : ℕ) (found : StreamFault) (r : Result X ViewFault) → TellsRow {U = U} Fits row (Err found) → IsErrAnd r (λ fault. fault ≡ fault_of_stream found) → TellsRoom (¬ Fits) r
row-stops U Fits row found (Ok x) told is = absurd is
row-stops U Fits row found (Err fault) told is = λ soft. let (total, none) = row-told U found Fits row told (sym (ap is_memory is) ∙ soft) in (is ∙ total, none)

-- the same of a row that is lent, for which it must have room and more
pub lent-stops : {X : Type 0} (U : Type 0) (Fits Lent : Type 0) (row : ℕ) (found : StreamFault) (r : Result X ViewFault) → (Fits → Lent) → TellsRow {U = U} Lent row (Err found) → IsErrAnd r (λ fault. fault ≡ fault_of_stream found) → TellsRoom (¬ Fits) r
lent-stops U Fits Lent row found (Ok x) lent told is = absurd is
lent-stops U Fits Lent row found (Err fault) lent told is = λ soft. let (total, none) = row-told U found Lent row told (sym (ap is_memory is) ∙ soft) in (is ∙ total, λ fits. none (lent fits))

memory-alone : (U : Type 0) (found : StreamFault) → OnlyMemory {U = U} (Err found) → fault_of_stream found ≡ Memory
memory-alone U (stream.Misfit misfit) only = absurd only
memory-alone U (stream.Row n) only = absurd only
memory-alone U stream.Open only = absurd only
memory-alone U stream.Memory only = refl

-- an end that isn't printed wants memory
pub end-stops : {X : Type 0} (U : Type 0) (found : StreamFault) (r : Result X ViewFault) → OnlyMemory {U = U} (Err found) → IsErrAnd r (λ fault. fault ≡ fault_of_stream found) → (fault : ViewFault) → r ≡ Err fault → fault ≡ Memory
end-stops U found (Ok x) only is fault same = absurd is
end-stops U found (Err told) only is fault same = let e : told ≡ fault = cc in sym e ∙ is ∙ memory-alone U found only

-- a row that one more call doesn't draw, by what is told of it
pub room-on : {X : Type 0} (Out Room : Type 0) (found : ViewFault) (r : Result X ViewFault) → (Out → Room) → (is_memory found ≡ false → (found ≡ Totals) × Out) → IsErrAnd r (λ fault. fault ≡ found) → TellsRoom Room r
room-on Out Room found (Ok x) out told is = absurd is
room-on Out Room found (Err fault) out told is = λ soft. let (total, none) = told (sym (ap is_memory is) ∙ soft) in (is ∙ total, out none)

-- a fault that is handed on
pub handed-on : {X : Type 0} (found : ViewFault) (r : Result X ViewFault) → IsErrAnd r (λ fault. fault ≡ found) → found ≡ Memory → (fault : ViewFault) → r ≡ Err fault → fault ≡ Memory
handed-on found (Ok x) is memory fault same = absurd is
handed-on found (Err told) is memory fault same = let e : told ≡ fault = cc in sym e ∙ is ∙ memory

-- ---- rows with a ruler below them

-- the texts of rows that are shown, and of the ruler below them
pub measured-texts : (options : Options) (places : List (Option ℕ)) (rows : List (List Text)) (ruler : List Text) (measured : List Row)
    → map fields_of measured ≡ map (map (shown_text options)) rows ++ ruler ∷ [] → texts_at places measured ≡ map (shown_row options places) rows ++ fields_at places ruler ∷ []
measured-texts options places rows ruler measured are =
    let shown : List (List Text) = map (map (shown_text options)) rows in
    sym (map-map (fields_at places) fields_of measured)
    ∙ ap (map (fields_at places)) are
    ∙ map-append (fields_at places) shown (ruler ∷ [])
    ∙ ap (λ (xs : List (List Text)). xs ++ fields_at places ruler ∷ []) (rows-shown options places rows)

-- ---- rows and the ruler below them, as they are lent

-- of rows whose texts are shown as they stand
pub ruled : (options : Options) (rows : List Row) (ruler : Row) (measured : List Row) → map (map (shown_text options)) (map fields_of rows) ≡ map fields_of rows
    → measured ≡ rows ++ ruler ∷ [] → map fields_of measured ≡ map (map (shown_text options)) (map fields_of rows) ++ fields_of ruler ∷ []
ruled options rows ruler measured stand are =
    ap (map fields_of) are
    ∙ map-append fields_of rows (ruler ∷ [])
    ∙ sym (ap (λ (xs : List (List Text)). xs ++ fields_of ruler ∷ []) stand)

-- the extents of their fields
pub extents-lent : (options : Options) (rows : List Row) (places lent : List (Option ℕ)) (extents : List Extent) → lent ≡ places → places ≡ places_in options (map fields_of rows)
    → extents ≡ extents_of options lent (texts_at lent rows) (length (slice_index_or (map fields_of rows) 0 [])) → extents ≡ extents_in options (map fields_of rows)
extents-lent options rows places lent extents also at are =
    let fields : ℕ = length (slice_index_or (map fields_of rows) 0 []) in
    let own : List (Option ℕ) = places_in options (map fields_of rows) in
    are
    ∙ ap (λ (ps : List (Option ℕ)). extents_of options ps (texts_at ps rows) fields) (also ∙ at)
    ∙ ap (λ (texts : List (List Text)). extents_of options own texts fields) (sym (map-map (fields_at own) fields_of rows))

-- the plan that is made of its parts
pub plan-made : (options : Options) (extents : List Extent) (places : List (Option ℕ)) (note : Text) (fields measured : List (List Text)) (config : Config) (width : ℕ → ℕ) → config ≡ first_config options fields
    → width ≡ widths_of options config fields measured → plan_of places config width note extents ≡ plan_by options extents places note fields measured
plan-made options extents places note fields measured config width looks wide =
    ap₂ (λ (c : Config) (w : ℕ → ℕ). plan_of places c w note extents) looks (wide ∙ ap (λ (c : Config). widths_of options c fields measured) looks)

module _ (options : Options) (rows : List (List Text)) (places : List (Option ℕ)) (extents : List Extent) (ruler : List Text) (fields measured : List Row) (at : places ≡ places_in options rows) (own : map fields_of fields ≡ rows)
    (long : extents ≡ extents_in options rows) (is : ruler ≡ ruler_of extents (length (slice_index_or rows 0 []))) (are : map fields_of measured ≡ map (map (shown_text options)) rows ++ ruler ∷ []) where
  -- the texts of both
  lent-measured : texts_at places measured ≡ measured_in options rows
  lent-measured =
      let fields : ℕ = length (slice_index_or rows 0 []) in
      measured-texts options places rows ruler measured are
      ∙ ap (λ (r : List Text). map (shown_row options places) rows ++ fields_at places r ∷ []) (is ∙ ap (λ (es : List Extent). ruler_of es fields) long)
      ∙ ap (λ (ps : List (Option ℕ)). map (shown_row options ps) rows ++ fields_at ps (ruler_of (extents_in options rows) fields) ∷ []) at

  lent-fields : texts_at places fields ≡ fields_in options rows
  lent-fields = sym (map-map (fields_at places) fields_of fields) ∙ ap₂ (λ (ps : List (Option ℕ)) (texts : List (List Text)). map (fields_at ps) texts) at own

  -- their layout, and what is wrong with their sizes
  pub layout-lent : layout_by options places (texts_at places fields) (texts_at places measured) extents ≡ layout_of options rows
  layout-lent =
      ap₂ (λ (ps : List (Option ℕ)) (texts : List (List Text)). layout_by options ps (texts_at places fields) texts extents) at lent-measured
      ∙ ap₂ (λ (own : List (List Text)) (es : List Extent). layout_by options (places_in options rows) own (measured_in options rows) es) lent-fields long

  pub sizes-lent : sizes_fault_by options places (texts_at places fields) (texts_at places measured) ≡ sizes_fault_by options (places_in options rows) (fields_in options rows) (measured_in options rows)
  sizes-lent =
      ap₂ (λ (ps : List (Option ℕ)) (texts : List (List Text)). sizes_fault_by options ps (texts_at places fields) texts) at lent-measured
      ∙ ap (λ (own : List (List Text)). sizes_fault_by options (places_in options rows) own (measured_in options rows)) lent-fields

-- ---- columns that are left out, or none

module _ (options : Options) (places : List (Option ℕ)) (fields measured : List (List Text)) (shown columns : ℕ) (is : shown ≡ shown_columns options measured columns) (many : columns ≡ length places) where
  stays : shown_columns options measured (length places) ≡ shown
  stays = sym (is ∙ ap (shown_columns options measured) many)

  module _ (all : columns ≤ shown) where
    none : nat_lt (shown_columns options measured (length places)) (length places) ≡ false
    none = rw stays (grind (arith, nat_tests, all, many))

    pub all-laid : (extents : List Extent) → plan_by options extents places [] fields measured ≡ layout_by options places fields measured extents
    all-laid extents = rw none refl

    pub all-fault : plan_fault options fields measured ≡ sizes_fault_by options places fields measured
    all-fault = rw none refl

  module _ (few : shown < columns) where
    some : nat_lt (shown_columns options measured (length places)) (length places) ≡ true
    some = rw stays (grind (arith, nat_tests, few, many))

    pub some-laid : (extents : List Extent) → plan_by options extents (abridged shown None places) (note_of columns shown) (map (abridged shown ellipsis) fields) (map (abridged shown ellipsis) measured) ≡ layout_by options places fields measured extents
    some-laid extents =
        ap₂ (λ (s c : ℕ). plan_by options extents (abridged s None places) (note_of c s) (map (abridged s ellipsis) fields) (map (abridged s ellipsis) measured)) (sym stays) many
        ∙ rw some refl

    pub some-fault : plan_fault options (map (abridged shown ellipsis) fields) (map (abridged shown ellipsis) measured) ≡ sizes_fault_by options places fields measured
    some-fault = ap (λ (s : ℕ). plan_fault options (map (abridged s ellipsis) fields) (map (abridged s ellipsis) measured)) (sym stays) ∙ rw some refl

-- ---- their lines, and the end of the table, are its picture

-- ---- line feeds

-- a text that begins with a line feed, or is empty
abbrev IsFed : Text → Type 0
IsFed [] = ⊤
IsFed (b ∷ bs) = b ≡ 10

continued-fed : (n : ℕ) (lines : List Text) → 0 < n → IsFed (continued n lines)
unfolding continued
continued-fed zero lines some = absurd (omega (arith, some))
continued-fed (suc n) [] some = tt
continued-fed (suc n) (line ∷ lines) some = refl

behind : (text more : Text) → IsFed more → (text ++ 10 ∷ []) ++ ended more ≡ (text ++ more) ++ 10 ∷ []
behind text [] is = append-nil (text ++ 10 ∷ []) ∙ ap (λ (t : Text). t ++ 10 ∷ []) (sym (append-nil text))
behind text (b ∷ bs) is = rw is (append_assoc text (10 ∷ []) (bs ++ 10 ∷ []) ∙ sym (append_assoc text (10 ∷ bs) (10 ∷ [])))

-- ---- rows

-- rows and lines stand above
record Begun (s : Printing) : Type 0 where
  pub rows : 0 < s.rows
  pub lines : 0 < s.lines

begun-first : (s : Printing) (cells : List Text) → 0 < s.table.height s.rows → Begun (after_row s cells false)
unfolding after_row
begun-first s cells high = record { rows = omega arith; lines = omega (arith, high, length_of_row s.table.config s.table.height s.rows) }

begun-row : (s : Printing) (cells : List Text) → Begun s → Begun (after_row s cells false)
unfolding after_row
begun-row s cells p = record { rows = omega arith; lines = omega (arith, p.lines) }

begun-fed : (s : Printing) (lines : List Text) → Begun s → IsFed (continued (lines_printed s) lines)
unfolding lines_printed
begun-fed s lines p =
    let rows : 0 < s.rows = p.rows in
    let some : (s.rows == 0) ≡ false = grind (arith, nat_tests, rows) in
    rw some (continued-fed (s.table.config.margin.top.size + s.lines) lines (omega (arith, p.lines)))

row-fed : (s : Printing) (cells : List Text) → Begun s → IsFed (row_text s cells false)
unfolding row_text
row-fed s cells p = begun-fed s (row_lines s cells false) p

end-fed : (s : Printing) → Begun s → IsFed (finish_text s)
unfolding finish_text
end-fed s p = begun-fed s (finish_lines s) p

-- a row below others, and the first one
next-ended : (s : Printing) (cells : List Text) → Begun s → next_lines s cells ≡ ended (row_text s cells false)
next-ended s cells p =
    let rows : 0 < s.rows = p.rows in
    let some : nat_lt 0 s.rows ≡ true = grind (arith, nat_tests, rows) in
    rw some refl

first-ended : (s : Printing) (cells : List Text) → s.rows ≡ 0 → next_lines s cells ≡ row_text s cells false ++ 10 ∷ []
first-ended s cells none =
    let no : nat_lt 0 s.rows ≡ false = grind (arith, nat_tests, none) in
    rw no refl

-- rows behind a text
fed-rows : (text : Text) (s : Printing) (rows : List (List Text)) → Begun s → (text ++ 10 ∷ []) ++ (lines_of s rows ++ ended (finish_text (after_rows s rows))) ≡ (text ++ live_text s rows) ++ 10 ∷ []
unfolding lines_of after_rows live_text
fed-rows text s [] p = behind text (finish_text s) (end-fed s p)
fed-rows text s (cells ∷ rows) p =
    let row : Text = row_text s cells false in
    let next : Printing = after_row s cells false in
    let more : Text = lines_of next rows in
    let end : Text = ended (finish_text (after_rows next rows)) in
    ap (λ (t : Text). (text ++ 10 ∷ []) ++ ((t ++ more) ++ end)) (next-ended s cells p)
    ∙ ap (λ (t : Text). (text ++ 10 ∷ []) ++ t) (append_assoc (ended row) more end)
    ∙ sym (append_assoc (text ++ 10 ∷ []) (ended row) (more ++ end))
    ∙ ap (λ (t : Text). t ++ (more ++ end)) (behind text row (row-fed s cells p))
    ∙ fed-rows (text ++ row) next rows (begun-row s cells p)
    ∙ ap (λ (t : Text). t ++ 10 ∷ []) (append_assoc text row (live_text next rows))

-- all of them
from-first : (s : Printing) (cells : List Text) (rows : List (List Text)) → s.rows ≡ 0 → 0 < s.table.height s.rows
    → lines_of s (cells ∷ rows) ++ ended (finish_text (after_rows s (cells ∷ rows))) ≡ live_text s (cells ∷ rows) ++ 10 ∷ []
unfolding lines_of after_rows live_text
from-first s cells rows none high =
    let next : Printing = after_row s cells false in
    ap (λ (t : Text). (t ++ lines_of next rows) ++ ended (finish_text (after_rows next rows))) (first-ended s cells none)
    ∙ append_assoc (row_text s cells false ++ 10 ∷ []) (lines_of next rows) (ended (finish_text (after_rows next rows)))
    ∙ fed-rows (row_text s cells false) next rows (begun-first s cells high)

-- ---- tables

row_height-some : (cells : List Text) → 0 < length cells → 0 < row_height cells
row_height-some [] some = absurd (omega (arith, some))
row_height-some (text ∷ texts) some = omega (arith, lines_of-some text)

-- a list is what it has at its places
by-places : {A : Type 0} (f : ℕ → A) (a : ℕ) (xs : List A) (d : A) → ((i : ℕ) → i < length xs → f (a + i) ≡ get_or xs i d) → map f (range_with_len a (length xs)) ≡ xs
by-places f a [] d h = refl
by-places f a (x ∷ xs) d h =
    let now : f a ≡ x = ap f (sym (add-zero a)) ∙ h 0 (omega arith) in
    ap₂ (λ y ys. y ∷ ys) now (by-places f (a + 1) xs d (λ i l. ap f (let e : (a + 1) + i ≡ a + suc i = omega arith in e) ∙ h (suc i) (omega (arith, l))))

texts-are : (texts : List (List Text)) (columns : ℕ) → All (λ row. length row ≡ columns) texts
    → map (λ r. map (λ c. text_at texts (at r c)) (range_with_len 0 columns)) (range_with_len 0 (length texts)) ≡ texts
texts-are texts columns even =
    by-places (λ r. map (λ c. text_at texts (at r c)) (range_with_len 0 columns)) 0 texts [] (λ r here.
    let row : List Text = get_or texts r [] in
    ap (λ k. map (λ c. text_at texts (at k c)) (range_with_len 0 columns)) (zero-add r)
    ∙ ap (λ n. map (λ c. slice_index_or row c []) (range_with_len 0 n)) (sym (even r [] here))
    ∙ by-places (λ c. slice_index_or row c []) 0 row [] (λ c l. ap (λ k. slice_index_or row k []) (zero-add c)))

no-spans : (rows columns : ℕ) (spans : List Span) → spans ≡ [] → spans_fit spans rows columns ≡ true
unfolding spans_fit
no-spans rows columns spans none = rw none refl

-- the lines of these cells, and the end below them, are the picture of their table
first-rows : (plan : Plan) (cells : List Text) (rows : List (List Text)) → plan.config.spans ≡ [] → 0 < length plan.places → All (λ row. length row ≡ length plan.places) (cells ∷ rows)
    → begun_of plan (cells ∷ rows) ++ ended (finish_text (after_rows (start_of plan (heights_of (cells ∷ rows))) (cells ∷ rows))) ≡ picture Unknown (table_of plan (cells ∷ rows)) ++ 10 ∷ []
unfolding printer
first-rows plan cells rows none wide even =
    let all : List (List Text) = cells ∷ rows in
    let t : Table = table_of plan all in
    let s : Printing = start_of plan (heights_of all) in
    let first : length cells ≡ length plan.places = even 0 [] (omega arith) in
    let high : 0 < row_height cells = row_height-some cells (omega (arith, first, wide)) in
    let texts : texts_of t ≡ all = texts-are all (length plan.places) even in
    from-first s cells rows refl high
    ∙ ap (λ (xs : List (List Text)). live_text s xs ++ 10 ∷ []) (sym texts)
    ∙ ap (λ (t : Text). t ++ 10 ∷ []) (live-make t (no-spans (length all) (length plan.places) plan.config.spans none) (omega arith) wide)

nothing-ended : (plan : Plan) (heights : ℕ → ℕ) → finish_text (start_of plan heights) ≡ []
unfolding finish_text finish_lines lines_printed printer continued joined
nothing-ended plan heights = refl

whole-some : (plan : Plan) (cells : List Text) (rows : List (List Text)) → picture Unknown (table_of plan (cells ∷ rows)) ++ 10 ∷ plan.note ≡ whole_of plan (cells ∷ rows)
whole-some plan cells rows =
    let some : (length (cells ∷ rows) == 0) ≡ false = grind (arith, nat_tests) in
    rw some refl

-- the line below a table, where there are rows
abbrev pub below : Plan → List (List Text) → Text
below plan cells = note_below (nat_lt 0 (length cells)) plan.note

below-some : (plan : Plan) (cells : List Text) (rows : List (List Text)) → below plan (cells ∷ rows) ≡ plan.note
below-some plan cells rows =
    let some : nat_lt 0 (length (cells ∷ rows)) ≡ true = grind (arith, nat_tests) in
    rw some refl

whole-rows : (plan : Plan) (cells : List (List Text)) → plan.config.spans ≡ [] → 0 < length plan.places → All (λ row. length row ≡ length plan.places) cells
    → begun_of plan cells ++ (ended (finish_text (after_rows (start_of plan (heights_of cells)) cells)) ++ below plan cells) ≡ whole_of plan cells
unfolding lines_of after_rows
whole-rows plan [] none wide even = ap (λ (t : Text). ended t ++ []) (nothing-ended plan (heights_of []))
whole-rows plan (cells ∷ rows) none wide even =
    let all : List (List Text) = cells ∷ rows in
    let end : Text = ended (finish_text (after_rows (start_of plan (heights_of all)) all)) in
    let drawn : Text = picture Unknown (table_of plan all) in
    ap (λ (t : Text). begun_of plan all ++ (end ++ t)) (below-some plan cells rows)
    ∙ sym (append_assoc (begun_of plan all) end plan.note)
    ∙ ap (λ (t : Text). t ++ plan.note) (first-rows plan cells rows none wide even)
    ∙ append_assoc drawn (10 ∷ []) plan.note
    ∙ whole-some plan cells rows

-- ---- a table without spans may end behind each row

after-config : (s : Printing) (rows : List (List Text)) → (after_rows s rows).table.config ≡ s.table.config
unfolding after_rows after_row
after-config s [] = refl
after-config s (cells ∷ rows) = after-config (after_row s cells false) rows

after-hint : (s : Printing) (rows : List (List Text)) → (after_rows s rows).hint ≡ s.hint
unfolding after_rows after_row
after-hint s [] = refl
after-hint s (cells ∷ rows) = after-hint (after_row s cells false) rows

may-end : (s : Printing) (rows : List (List Text)) → s.table.config.spans ≡ [] → s.hint ≡ None → MayEnd (after_rows s rows)
may-end s rows plain untold =
    let at : Printing = after_rows s rows in
    let none : at.hint ≡ None = after-hint s rows ∙ untold in
    let spans : at.table.config.spans ≡ [] = ap (λ (c : Config). c.spans) (after-config s rows) ∙ plain in
    inr (subst (λ (h : Option ℕ). IfSome h (λ n. at.rows ≡ n)) (sym none) tt, no-spans at.rows at.table.columns at.table.config.spans spans)

module _ (plan : Plan) (cells : List (List Text)) (state : (ℕ → ℕ) → Living) (plain : plan.config.spans ≡ []) (prints : HasPrinted plan cells state) where
  abbrev own : ℕ → ℕ
  own = heights_of cells

  here : state own ≡ record { printed = after_rows (start_of plan own) cells; is_lost = false }
  here = prints own (are-heights plan cells)

  pub ends-counted : CountsLines (state (heights_of cells)).printed
  ends-counted = subst (λ (t : Living). CountsLines t.printed) (sym here) (counts-after (start_of plan own) cells (start-counts plan own))

  pub ends-alive : (state (heights_of cells)).is_lost ≡ false
  ends-alive = ap (λ (t : Living). t.is_lost) here

  pub ends-here : MayEnd (state (heights_of cells)).printed
  ends-here = subst (λ (t : Living). MayEnd t.printed) (sym here) (may-end (start_of plan own) cells (start-spans plan own ∙ plain) (start-hint plan own))

  -- the end makes the whole of the rows
  pub ends-whole : (end : Text) → 0 < length plan.places → All (λ row. length row ≡ length plan.places) cells → end ≡ finish_text (state (heights_of cells)).printed → begun_of plan cells ++ (ended end ++ below plan cells) ≡ whole_of plan cells
  ends-whole end wide even is =
      ap (λ (t : Text). begun_of plan cells ++ (ended t ++ below plan cells)) (is ∙ ap (λ (t : Living). finish_text t.printed) here)
      ∙ whole-rows plan cells plain wide even

-- ---- rows as they are shown

within-length : (k : ℕ) (overflow : Overflow) (width : ℕ → ℕ) (texts : List Text) → length (texts_within k overflow width texts) ≡ length texts
within-length k overflow width [] = refl
within-length k overflow width (text ∷ texts) = ap suc (within-length (k + 1) overflow width texts)

pub even-cells : (options : Options) (plan : Plan) (rows : List (List Text)) (i : ℕ) (d : List Text) → i < length (cells_of options plan rows) → length (get_or (cells_of options plan rows) i d) ≡ length plan.places
even-cells options plan [] i d less = absurd (omega (arith, less))
even-cells options plan (row ∷ rows) zero d less = within-length 0 options.bounds.overflow plan.width (shown_row options plan.places (pointed_row plan.extents row)) ∙ length-map plan.places _
even-cells options plan (row ∷ rows) (suc i) d less = even-cells options plan rows i d (omega (arith, less))

-- of records whose fields are lent
pub even-lent : (overflow : Overflow) (plan : Plan) (records : List Row) (i : ℕ) (d : List Text) → i < length (cells_within overflow plan (texts_at plan.places records))
    → length (get_or (cells_within overflow plan (texts_at plan.places records)) i d) ≡ length plan.places
even-lent overflow plan [] i d less = absurd (omega (arith, less))
even-lent overflow plan (fields ∷ records) zero d less = within-length 0 overflow plan.width (fields_at plan.places (fields_of fields)) ∙ length-map plan.places _
even-lent overflow plan (fields ∷ records) (suc i) d less = even-lent overflow plan records i d (omega (arith, less))

-- their lines are a beginning of the whole
pub begun-whole : (options : Options) (plan : Plan) (rows : List (List Text)) → plan.config.spans ≡ [] → 0 < length plan.places → (more : Text) × (begun_text options plan rows ++ more ≡ whole_text options plan rows)
begun-whole options plan rows plain wide = (
  ended (finish_text (after_rows (start_of plan (heights_of (cells_of options plan rows))) (cells_of options plan rows))) ++ below plan (cells_of options plan rows),
  whole-rows plan (cells_of options plan rows) plain wide (even-cells options plan rows),
)

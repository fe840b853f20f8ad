-- Tables of rows: their looks and sizes, before the first row and after the last, and natural widths of texts with a space at each side.
use Rattle.std.proofs.Common.{◌≡◌, ◌∷◌, ◌++◌, ℕ, List, [], length, true, false, refl, None, Some, Option, Result, Ok, Err, sym, ap, ◌∙◌, ◌-◌, zero, suc, max, String, ◌≢◌, ◌⊎◌, slice_index_or, IfOk, inl, inr, subst, ◌<◌, arith, add-one, take, rules, ◌+◌, ◌*◌, Bool, string_bytes, append-nil, append_assoc, ◌≤◌, ◌^◌, ◌==◌, ◌||◌, count_by, drop, map, slice_index, nat_lt, ap₂, min, not, sum_by}
use Rattle.std.specs.Prelude.{nat_le, IsUtf8, IsOk, OnErr, is_none, unwrap_or, if◌then◌else◌, ⊤, ◌↔◌}
use Rattle.pg_layout.specs.Text.{Text, greatest, text_width_of}
use Rattle.pg_layout.specs.Records.{columns_of, text_at}
use Rattle.pg_layout.specs.declared.borders.HorizontalLine.{HorizontalLine}
use Rattle.pg_config.specs.Config.{Config, default_config, get_alignment_horizontal, get_formatting, get_padding}
use Rattle.pg_picture.specs.Appending.{GainedBeginning}
use Rattle.pg_picture.specs.Picture.{picture}
use Rattle.pg_picture.specs.Table.{Known, Table, full_width, total_width}
use Rattle.ruled_table.specs.Bounds.{bounded_fault, bounded_table, are_counted, widest_text}
use Rattle.ruled_table.specs.Tables.{fault_with, text_with, with_line, Tells, is_memory, fault_of_stream}
use Rattle.ruled_table.specs.declared.bounds.Bounds.{Bounds}
use Rattle.ruled_table.specs.declared.view.ViewFault.TheVariants.{Totals, Memory}
use Rattle.std.specs.Option.{option_or}
use Rattle.std.specs.Result.{IsErrAnd, MatchResult}
use Rattle.ruled_table.specs.declared.view.ViewFault.{ViewFault}
use Rattle.std.proofs.Math.Seq.{drop-nil}
use Rattle.ruled_table.specs.Arranged.{arranged, chosen_rows, ends_of, last_of, tails}
use Rattle.ruled_table.specs.Columns.{column_fault, drawn_at, fields_at, texts_at, texts_of}
use Rattle.ruled_table.specs.Shown.{heads, limit_of, look_config, up_to, line_in, sided_config}
use Rattle.ruled_table.specs.declared.options.Options.{Options}
use Rattle.std.proofs.lemmas.Bool.{true≢false, cases_Bool, and_parts, and_from, cases_lt}
use Rattle.pg_layout.specs.Colors.{Color}
use Rattle.pg_layout.specs.declared.dimension.ConstantDimension.{ConstantDimension}
use Rattle.pg_layout.specs.declared.position.Position.{Position}
use Rattle.pg_table.specs.Natural.{natural_sizes, cell_size, is_sized, paddings, all_fit, natural_size}
use Rattle.pg_table.specs.Printing.{Prints, sizes_fault}
use Rattle.pg_picture.proofs.Appending.{Appends-beginning}
use Rattle.pg_table.specs.Spanning.{table_from, keeps_spans, spanned_widths, widths_from}
use Rattle.pg_table.specs.declared.fault.TableFault.{TableFault}
use Rattle.ruled_table.specs.Widths.{TellsTable, first_config, HasSpaces, natural_fault, natural_widths, AreSpaced, HasRoom, IsLowered, lowered, narrowed, widest_wrapped}
use Rattle.std.proofs.lemmas.Option.{none-some}
use Rattle.pg_config.specs.Spans.{has_row_spans, Span}
use Rattle.pg_picture.specs.declared.fits.Misfit.{Misfit}
use Rattle.pg_picture.specs.declared.fits.Misfit.TheVariants.{Spans, Totals as Many}
use Rattle.pg_stream.specs.Conditions.{printer_misfit}
use Rattle.pg_stream.specs.LiveStreams.{Living}
use Rattle.pg_stream.specs.Printing.{printer}
use Rattle.pg_stream.specs.SizedStreams.{sized_misfit}
use Rattle.pg_stream.specs.declared.fault.StreamFault.{StreamFault}
use Rattle.ruled_table.specs.Layouts.{start_fault, start_of, Plan, with_colors}
use Rattle.ruled_table.specs.RowLines.{HasPrinted, after_rows}
use Rattle.std.specs.List.{list_all, range_with_len, All}
use Rattle.std.proofs.lemmas.Bool.Decides.{nat_tests}
use Rattle.std.proofs.lemmas.List.{get_or-map, length-map, length-take, length-drop}
use Rattle.std.proofs.lemmas.List.FromFn.{fill_by_all, get_or-map-range_with_len, length-map-range_with_len}
use Rattle.std.proofs.lemmas.List.Sums.{count_by-le-length, sum_by-cons}
use Rattle.csv.specs.Records.{Row, cut_from, fields_of}
use Rattle.pg_layout.specs.Position.{at}
use Rattle.pg_layout.proofs.TextLines.{is_feed, length-lines_of}
use Rattle.pg_config.specs.Overrides.{Overrides}
use Rattle.pg_config.specs.Settings.{Settings, setting_of, with_setting}
use Rattle.pg_config.proofs.SettingsLaw.{setting_of-with_setting}
use Rattle.pg_layout.specs.declared.alignment.AlignmentHorizontal.{AlignmentHorizontal}
use Rattle.pg_layout.specs.declared.alignment.AlignmentHorizontal.TheVariants.{Left, Center, Right}
use Rattle.pg_layout.specs.declared.position.Entity.TheVariants.{Column}
use Rattle.ruled_table.specs.Sides.{AreSided, side_of, with_side, with_sides}
use Rattle.pg_picture.specs.Fits.{spans_fit}
use Rattle.pg_picture.specs.Pieces.{shown, widest}
use Rattle.pg_picture.proofs.OwnersOfPlaces.{InOrder}
use Rattle.pg_picture.proofs.PlacesOfTexts.{length-shown, widest-untrimmed}
use Rattle.pg_table.specs.Inside.{plain_size, HasPlainWidths}
use Rattle.pg_table.specs.declared.sizes.Axis.TheVariants.{Columns, Rows}
use Rattle.pg_table.proofs.Faults.{cells-no_fault}
use Rattle.pg_table.proofs.NaturalRoom.{map-below, plain-covers, plain-naturals, plain-widths}
use Rattle.pg_table.proofs.ShownCells.{cells-from, sized-from}
use Rattle.pg_layout.specs.declared.alignment.Formatting.{Formatting}
use Rattle.pg_fit.specs.declared.narrowing.ColumnRange.{ColumnRange}
use Rattle.pg_fit.specs.declared.wrapping.Breaking.{Breaking}
use Rattle.pg_fit.specs.Narrowing.{natural_total}
use Rattle.pg_fit.specs.Wrapping.{least_width, wrapped}
use Rattle.pg_fit.specs.Controls.{is_printable}
use Rattle.pg_fit.specs.declared.wrapping.Breaking.TheVariants.{Anywhere, BetweenWords}
use Rattle.pg_fit.proofs.LawsOfControls.{least-anywhere, least-one_line, least-spaces, least-word}
use Rattle.pg_fit.proofs.LawsOfTexts.{fitting_texts_stay, wrapped_texts_fit}
use Rattle.pg_fit.proofs.NarrowedWidths.{stay_natural}
use Rattle.pg_table.specs.Fitted.{column_range, column_ranges, column_texts, column_widths, fit_fault, fitted_at, fitted_table, fitted_text, fitted_texts, least_column_width}
use Rattle.pg_table.specs.Overflowing.{beside_columns, least_text_width, limit_of as limit_at}
use Rattle.pg_table.specs.declared.overflow.Overflow.{Overflow}
use Rattle.pg_table.specs.declared.overflow.Overflow.TheVariants.{Wrap}
use Rattle.pg_table.proofs.FitFaults.{fault-none}
use Rattle.pg_table.proofs.FittedColumns.{fitted_text-overflows, fitted_text-stays, greatest-below, least-below, length-fitted, natural-at}
use Rattle.pg_table.proofs.ListedSizes.{all_fit-each, size-at}
use Rattle.pg_table.proofs.ToldTables.{plain-widths as told-widths}
use Rattle.ruled_table.specs.declared.lent_rows.LentRows.{LentRows}
use Rattle.pg_table.proofs.Widenings.{sum-same}
use Rattle.ruled_table.proofs.LentTexts.{length-wrapped, sides_more}
use Rattle.pg_table.specs.declared.fault.TableFault.TheVariants as table
use Rattle.pg_stream.specs.declared.fault.StreamFault.TheVariants as stream

-- ---- the text of a table of rows, by whether there are any

module _ (bounds : Bounds) (config : Config) (color : Position → Option Color) (rows : List (List Text)) where
  pub text_none : (length rows == 0) ≡ true → [] ≡ text_with bounds config color rows
  text_none e = rw e refl

  pub fault_none : (length rows == 0) ≡ true → fault_with bounds config color rows ≡ None
  fault_none e = rw e refl

  pub text_drawn : (length rows == 0) ≡ false → picture Known (bounded_table bounds config color rows) ++ 10 ∷ [] ≡ text_with bounds config color rows
  text_drawn e = rw e refl

  pub fault_drawn : (length rows == 0) ≡ false → (if is_none (bounded_fault bounds config color rows) then None else Some Totals) ≡ fault_with bounds config color rows
  fault_drawn e = rw e refl

-- ---- what is wrong with a table that is printed, and what a call that fails has appended

pub on-err : {X F : Type 0} {P : Type 0} (r : Result X F) → P → OnErr r P
on-err (Ok x) holds = tt
on-err (Err fault) holds = holds

module _ {Z : Type 0} {old new : String Z} where
  -- all of what comes first, and nothing else
  pub gained-first : (text more : Text) → string_bytes new ≡ string_bytes old ++ text → GainedBeginning old new (text ++ more)
  gained-first text more is = record { beginning = text; begins = record { rest = more; is = refl }; bytes = is }

  -- a beginning of what comes first
  pub gained-in : (text more : Text) → GainedBeginning old new text → GainedBeginning old new (text ++ more)
  gained-in text more gained = record {
    beginning = gained.beginning;
    begins = record { rest = gained.begins.rest ++ more; is = ap (λ (t : Text). t ++ more) gained.begins.is ∙ append_assoc gained.beginning gained.begins.rest more };
    bytes = gained.bytes;
  }

  pub gained-none : (text : Text) → string_bytes new ≡ string_bytes old → GainedBeginning old new text
  gained-none text same = record { beginning = []; begins = record { rest = text; is = refl }; bytes = same ∙ sym (append-nil (string_bytes old)) }

module _ {Z U : Type 0} (spanned : Bool) (old new : String Z) (text : Text) where
  pub printed-fine : (wrong : Option TableFault) (result : Result U TableFault) → Prints spanned wrong old new result text → IsOk result → wrong ≡ None
  printed-fine None result prints ok = refl
  printed-fine (Some fault) (Ok x) prints ok = elim prints.0 [ inl same ↦ absurd (cc) | inr lost ↦ let same = lost.0 in absurd (cc) ]
  printed-fine (Some fault) (Err found) prints ok = absurd (true≢false (sym ok))

  pub printed-wrong : (wrong : Option TableFault) (result : Result U TableFault) → Prints spanned wrong old new result text
      → (fault : TableFault) → result ≡ Err fault → fault ≢ table.Memory → is_none wrong ≡ false
  printed-wrong None result prints fault is other = absurd (other (prints.1 fault is))
  printed-wrong (Some wrong) result prints fault is other = refl

  pub printed-begun : (wrong : Option TableFault) (result : Result U TableFault) → Prints spanned wrong old new result text → OnErr result (GainedBeginning old new text)
  printed-begun wrong (Ok x) prints = tt
  printed-begun (Some fault) (Err found) prints = gained-none text (ap (λ (s : String Z). string_bytes s) prints.1)
  printed-begun None (Err found) prints = elim prints.0 [ inl appends ↦ Appends-beginning appends | inr none ↦ gained-none text (ap (λ (s : String Z). string_bytes s) none.1) ]

-- ---- what is told where rows have no table: of the columns, or of the sizes

-- a fault that is handed on tells what it told
pub told_on : {X : Type 0} (found : ViewFault) (right : Option ViewFault) (result : Result X ViewFault) → (is_memory found ≡ false → right ≡ Some found)
    → IsErrAnd result (λ fault. fault ≡ found) → Tells right result
told_on found right (Ok x) is told = absurd told
told_on found right (Err fault) is told = λ counts. rw (is (sym (ap is_memory told) ∙ counts), told) refl

-- what is told first, is told
pub first_told : {X : Type 0} (found : ViewFault) (right later : Option ViewFault) (result : Result X ViewFault) → (is_memory found ≡ false → right ≡ Some found)
    → IsErrAnd result (λ fault. fault ≡ found) → Tells (option_or right later) result
first_told found right later (Ok x) is told = absurd told
first_told found right later (Err fault) is told = λ counts. rw (is (sym (ap is_memory told) ∙ counts), told) refl

-- and where the first is nothing, what comes then
pub then_told : {X : Type 0} (first later : Option ViewFault) (result : Result X ViewFault) → first ≡ None → Tells later result → Tells (option_or first later) result
then_told first later result none told = rw none told

-- ---- rows that are shown have the names of all

pub heads-named : {A : Type 0} (limit : Option ℕ) (names : List (String A)) (rows : List (List Text)) → column_fault names rows ≡ None → column_fault names (up_to limit rows) ≡ None
heads-named None names rows none = none
heads-named (Some zero) names [] none = refl
heads-named (Some (suc limit)) names [] none = refl
heads-named (Some zero) names (row ∷ rows) none = refl
heads-named (Some (suc limit)) names (row ∷ rows) none = none

pub tails-named : {A : Type 0} (count : Option ℕ) (names : List (String A)) (rows : List (List Text)) → column_fault names rows ≡ None → column_fault names (last_of count rows) ≡ None
tails-named None names rows none = none
tails-named (Some count) names [] none = ap (column_fault names) (drop-nil (max 1 (0 - count)))
tails-named (Some count) names (row ∷ rows) none = none

-- row 0 stays where rows behind it are left out
front-named : {A : Type 0} (more : Bool) (count : ℕ) (names : List (String A)) (row : List Text) (rows others : List (List Text)) → column_fault names (row ∷ rows) ≡ None
    → column_fault names (if more then take (count + 1) (row ∷ rows) ++ others else (row ∷ rows)) ≡ None
front-named true count names row rows others none = rw (add-one count) none
front-named false count names row rows others none = none

ends-named : {A : Type 0} (ends : Option ℕ) (names : List (String A)) (rows : List (List Text)) → column_fault names rows ≡ None → column_fault names (ends_of ends rows) ≡ None
ends-named None names rows none = none
ends-named (Some count) names [] none = let few : nat_lt (2 * count + 1) 0 ≡ false = search (rules) in rw few none
ends-named (Some count) names (row ∷ rows) none = front-named (nat_lt (2 * count + 1) (length (row ∷ rows))) count names row rows _ none

pub chosen-named : (options : Options) (all : List (List Text)) → column_fault options.columns.items (arranged options all) ≡ None → column_fault options.columns.items (chosen_rows options all) ≡ None
chosen-named options all none =
    let names = options.columns.items in
    ends-named options.ends names (tails options (heads options (arranged options all)))
    (tails-named options.tail names (heads options (arranged options all)) (heads-named (limit_of options) names (arranged options all) none))

-- ---- the widths of a table's columns, as they are answered

-- widths that are those of a list
pub widths-are : {A E : Type 0} (r : Result (ConstantDimension A) E) (ns : List ℕ) (width : ℕ → ℕ) → IfOk r (λ d. d.0.items ≡ ns) → (λ (column : ℕ). slice_index_or ns column 0) ≡ width → IfOk r (λ d. (λ column. slice_index_or d.0.items column 0) ≡ width)
widths-are (Ok d) ns width is same = ap (λ (xs : List ℕ). λ (column : ℕ). slice_index_or xs column 0) is ∙ same
widths-are (Err fault) ns width is same = tt

-- what holds of an answer holds where only its fault is told otherwise
pub ok-kept : {X E F : Type 0} (found : Result X E) (r : Result X F) (P : X → Type 0) (Tells : E → F → Type 0) → MatchResult found (λ x. r ≡ Ok x) (λ e. IsErrAnd r (Tells e)) → IfOk found P → IfOk r P
ok-kept {X = X} {F = F} (Ok x) r P Tells is holds = subst (λ (s : Result X F). IfOk s P) (sym is) holds
ok-kept (Err e) (Ok x) P Tells is holds = absurd is
ok-kept (Err e) (Err f) P Tells is holds = tt

-- ---- why they aren't told

-- a call that answers the fault of a table, and else nothing but want of memory
pub table-told : {X : Type 0} (right given : Option TableFault) (r : Result X TableFault) → given ≡ right → ((fault : TableFault) → given ≡ Some fault → r ≡ Err fault) → ((fault : TableFault) → given ≡ None → r ≡ Err fault → fault ≡ table.Memory) → TellsTable right r
table-told right None (Ok x) same tells memory = sym same
table-told right (Some fault) (Ok x) same tells memory = let e = tells fault refl in cc
table-told right None (Err fault) same tells memory = λ other. absurd (other (memory fault refl refl))
table-told right (Some found) (Err fault) same tells memory = λ other. let e = tells found refl in cc

-- one that is told, and isn't want of memory
pub wrong-told : {X : Type 0} (right : Option TableFault) (r : Result X TableFault) (fault : TableFault) → TellsTable right r → r ≡ Err fault → fault ≢ table.Memory → is_none right ≡ false
wrong-told {X = X} right r fault told is other = ap is_none ((subst (λ (s : Result X TableFault). TellsTable right s) is told) other)

-- the fault of the first call, or of the second one
pub first-table-told : {X : Type 0} (Y : Type 0) (first later : Option TableFault) (found : TableFault) (r : Result X TableFault) → TellsTable {X = Y} first (Err found) → IsErrAnd r (λ fault. fault ≡ found) → TellsTable (option_or first later) r
first-table-told Y first later found (Ok x) told is = absurd is
first-table-told Y first later found (Err fault) told is = λ other. rw (told (λ memory. other (is ∙ memory)), is) refl

pub later-table-told : {X : Type 0} (first later : Option TableFault) (r : Result X TableFault) → first ≡ None → TellsTable later r → TellsTable (option_or first later) r
later-table-told first later r none told = rw none told

-- texts that stand at the same places have one fault
pub same-sizes-fault : (config : Config) (xs ys : List (List Text)) (columns : ℕ) → length xs ≡ length ys → text_at xs ≡ text_at ys → sizes_fault config xs columns ≡ sizes_fault config ys columns
unfolding sizes_fault natural_sizes
same-sizes-fault config xs ys columns long same = rw (long, same) refl

-- as the fault of rows, of which want of memory is one, and all others are one
pub sizes-told : (right : Option TableFault) (found : TableFault) (fault : ViewFault) → (found ≢ table.Memory → right ≡ Some found) → (fault ≡ Memory) ⊎ (fault ≡ Totals) → (found ≡ table.Memory → fault ≡ Memory)
    → is_memory fault ≡ false → (if is_none right then None else Some Totals) ≡ Some fault
sizes-told right found fault told two memory soft =
    elim two [
      | inl is ↦ absurd (true≢false (sym (ap is_memory is) ∙ soft))
      | inr total ↦ rw (told (λ is. absurd (true≢false (sym (ap is_memory (memory is)) ∙ soft))), total) refl
    ]

-- as a call that hands a table's fault on answers it
pub tells-kept : {X : Type 0} (right : Option TableFault) (found : Result X TableFault) (r : Result X ViewFault) (Post : TableFault → ViewFault → Type 0) → TellsTable right found → MatchResult found (λ x. r ≡ Ok x) (λ e. IsErrAnd r (Post e))
    → ((e : TableFault) (f : ViewFault) → Post e f → ((f ≡ Memory) ⊎ (f ≡ Totals)) × (e ≡ table.Memory → f ≡ Memory)) → Tells (if is_none right then None else Some Totals) r
tells-kept {X = X} right (Ok x) r Post told is post = subst (λ (s : Result X ViewFault). Tells (if is_none right then None else Some Totals) s) (sym is) (rw told refl)
tells-kept right (Err e) (Ok x) Post told is post = absurd is
tells-kept right (Err e) (Err f) Post told is post = λ soft. let (two, memory) = post e f is in sizes-told right e f told two memory soft

-- one table has one fault
pub drawn-sizes-fault : (told others : List ℕ) (config same : Config) (xs ys : List (List Text)) (columns many : ℕ) (color hue : Position → Option Color) → table_from told config xs columns color ≡ table_from others same ys many hue → sizes_fault config xs columns ≡ sizes_fault same ys many
drawn-sizes-fault told others config same xs ys columns many color hue is =
    ap (λ (c : Config). sizes_fault c xs columns) (ap (λ (t : Table). t.config) is)
    ∙ ap (sizes_fault same xs) (ap (λ (t : Table). t.columns) is)
    ∙ same-sizes-fault same xs ys many (ap (λ (t : Table). t.rows) is) (ap (λ (t : Table). t.text) is)

-- ---- a table before its first row

-- ---- it has columns

positive : (n : ℕ) → (n ≡ 0 → ⊥) → 0 < n
positive zero some = absurd (some refl)
positive (suc n) some = omega arith

no-columns : (plan : Plan) (heights : ℕ → ℕ) → length plan.places ≡ 0 → (misfit : Misfit) × (sized_misfit (start_of plan heights) ≡ Some misfit)
unfolding sized_misfit printer_misfit printer
no-columns plan heights none = elim (cases_Bool (has_row_spans plan.config.spans)) [
  | inl spans ↦ (Spans, rw spans refl)
  | inr plain ↦ (Many, rw (plain, none) refl)
]

-- no colours matter
pub start-colored : (plan : Plan) (color : Position → Option Color) → start_fault (with_colors color plan) ≡ start_fault plan
unfolding sized_misfit printer_misfit printer full_width total_width
start-colored plan color = refl

-- no heights matter
misfit-by : (plan : Plan) (heights others : ℕ → ℕ) → sized_misfit (start_of plan heights) ≡ sized_misfit (start_of plan others)
unfolding sized_misfit printer_misfit printer full_width total_width
misfit-by plan heights others = refl

module _ (plan : Plan) (heights : ℕ → ℕ) where
  pub some-columns : sized_misfit (start_of plan heights) ≡ None → 0 < length plan.places
  some-columns fits = positive (length plan.places) (λ none. let (misfit, is) = no-columns plan heights none in none-some _ (sym fits ∙ is))

  -- where it has none, or is too wide
  fits-told : (o : Option Misfit) → (if is_none o then None else Some Totals) ≡ None → o ≡ None
  fits-told None is = refl
  fits-told (Some misfit) is = absurd (none-some _ (sym is))

  pub fits-all : sized_misfit (start_of plan heights) ≡ None → start_fault plan ≡ None
  fits-all fits = ap (λ (o : Option Misfit). if is_none o then None else Some Totals) (misfit-by plan (λ row. 0) heights ∙ fits)

  misfits-told : {X : Type 0} (o : Option Misfit) (found : StreamFault) (r : Result X ViewFault) → (o ≡ None → found ≡ stream.Memory) → IsErrAnd r (λ fault. fault ≡ fault_of_stream found) → Tells (if is_none o then None else Some Totals) r
  misfits-told o found (Ok x) none is = absurd is
  misfits-told None found (Err fault) none is = λ soft. absurd (true≢false (sym (ap is_memory (is ∙ ap fault_of_stream (none refl))) ∙ soft))
  misfits-told (Some misfit) (stream.Misfit m) (Err fault) none is = λ soft. ap Some (sym is)
  misfits-told (Some misfit) (stream.Row row) (Err fault) none is = λ soft. ap Some (sym is)
  misfits-told (Some misfit) stream.Open (Err fault) none is = λ soft. ap Some (sym is)
  misfits-told (Some misfit) stream.Memory (Err fault) none is = λ soft. absurd (true≢false (sym (ap is_memory is) ∙ soft))

  pub none-started : {X : Type 0} (found : StreamFault) (r : Result X ViewFault) → (sized_misfit (start_of plan heights) ≡ None → found ≡ stream.Memory) → IsErrAnd r (λ fault. fault ≡ fault_of_stream found) → Tells (start_fault plan) r
  none-started found r none is = misfits-told (sized_misfit (start_of plan (λ row. 0))) found r (λ fits. none (misfit-by plan heights (λ row. 0) ∙ fits)) is

-- one that is made fits
abbrev IsFine : {X F : Type 0} → Result X F → Type 0
IsFine (Ok x) = ⊤
IsFine (Err fault) = ⊥

pub fits-made : {X : Type 0} (misfit : Option Misfit) (r : Result X StreamFault) → IsFine r → ((found : Misfit) → (r ≡ Err (stream.Misfit found)) ↔ (misfit ≡ Some found)) → misfit ≡ None
fits-made None r fine tells = refl
fits-made (Some found) r fine tells = absurd (subst IsFine ((tells found).1 refl) fine)

-- its printer
pub started : (plan : Plan) (state : (ℕ → ℕ) → Living) → ((heights : ℕ → ℕ) → state heights ≡ record { printed = start_of plan heights; is_lost = false }) → HasPrinted plan [] state
unfolding after_rows
started plan state made = λ heights are. made heights

-- ---- it has no spans

line-spans : (line : Option (HorizontalLine ℕ)) (rows columns : ℕ) (config : Config) → (with_line line rows columns config).spans ≡ config.spans
line-spans None rows columns config = refl
line-spans (Some line) rows columns config = elim (cases_Bool (nat_lt 1 rows)) [
  | inl many ↦ rw many refl
  | inr few ↦ rw few refl
]

pub plain-config : (options : Options) (rows : List (List Text)) → (first_config options rows).spans ≡ []
unfolding default_config
plain-config options rows = line-spans (line_in options) (length rows) (columns_of rows) (sided_config options rows)

-- ---- the table of first rows has a space at each side of its texts

-- the line below a header changes nothing of cells
line-keeps : {X : Type 0} (f : Config → X) → ((config : Config) (overrides : Overrides ℕ) → f (record config { overrides = overrides }) ≡ f config)
    → (line : Option (HorizontalLine ℕ)) (rows columns : ℕ) (config : Config) → f (with_line line rows columns config) ≡ f config
line-keeps f keeps None rows columns config = refl
line-keeps f keeps (Some line) rows columns config = elim (cases_Bool (nat_lt 1 rows)) [
  | inl many ↦ rw many (keeps config _)
  | inr few ↦ rw few refl
]

pub first-spaces : (options : Options) (rows : List (List Text)) → HasSpaces (first_config options rows)
unfolding get_padding get_formatting setting_of with_setting default_config
first-spaces options rows =
    let config : Config = sided_config options rows in
    record {
      beside = λ p. line-keeps (λ (c : Config). paddings Columns c p) (λ c o. refl) (line_in options) (length rows) (columns_of rows) config;
      above = λ p. line-keeps (λ (c : Config). paddings Rows c p) (λ c o. refl) (line_in options) (length rows) (columns_of rows) config;
      across = λ p. line-keeps (λ (c : Config). (get_formatting c p).horizontal_trim) (λ c o. refl) (line_in options) (length rows) (columns_of rows) config;
      down = λ p. line-keeps (λ (c : Config). (get_formatting c p).vertical_trim) (λ c o. refl) (line_in options) (length rows) (columns_of rows) config;
      spans = plain-config options rows;
    }

-- ---- its columns are at their sides

module _ (n k : ℕ) (settings : Settings AlignmentHorizontal) where
  -- the side of another column
  side-beside : (side : AlignmentHorizontal) → (k == n) ≡ false → setting_of (with_side n side settings) (at 0 k) ≡ setting_of settings (at 0 k)
  side-beside Left other = refl
  side-beside Center other = setting_of-with_setting (Column n) Center settings (at 0 k) ∙ rw other refl
  side-beside Right other = setting_of-with_setting (Column n) Right settings (at 0 k) ∙ rw other refl

  side-there : (side : AlignmentHorizontal) → (k == n) ≡ true → setting_of settings (at 0 k) ≡ None → unwrap_or (setting_of (with_side n side settings) (at 0 k)) Left ≡ side
  side-there Left same none = rw none refl
  side-there Center same none = rw (setting_of-with_setting (Column n) Center settings (at 0 k), same) refl
  side-there Right same none = rw (setting_of-with_setting (Column n) Right settings (at 0 k), same) refl

module _ (side : ℕ → AlignmentHorizontal) (k : ℕ) (settings : Settings AlignmentHorizontal) (none : setting_of settings (at 0 k) ≡ None) where
  one-more : (n : ℕ) → with_sides side (suc n) settings ≡ with_side n (side n) (with_sides side n settings)
  one-more n = ap (λ (m : ℕ). with_sides side m settings) (sym (add-one n)) ∙ sides_more side n settings

  sides-below : (n : ℕ) → n ≤ k → setting_of (with_sides side n settings) (at 0 k) ≡ None
  sides-below zero few = none
  sides-below (suc n) few =
      let other : (k == n) ≡ false = grind (arith, nat_tests, few) in
      ap (λ (s : Settings AlignmentHorizontal). setting_of s (at 0 k)) (one-more n) ∙ side-beside n k (with_sides side n settings) (side n) other ∙ sides-below n (omega (arith, few))

  sides-there : (n : ℕ) → k < n → unwrap_or (setting_of (with_sides side n settings) (at 0 k)) Left ≡ side k
  sides-there zero less = absurd (omega (arith, less))
  sides-there (suc n) less =
      let value : Settings AlignmentHorizontal → AlignmentHorizontal = λ s. unwrap_or (setting_of s (at 0 k)) Left in
      ap value (one-more n)
      ∙ elim (cases_Bool (k == n)) [
        | inl same ↦
            let is : k ≡ n = grind (arith, nat_tests, same) in
            side-there n k (with_sides side n settings) (side n) same (sides-below n (omega (arith, is))) ∙ ap side (sym is)
        | inr other ↦
            let below : k < n = grind (arith, nat_tests, other, less) in
            ap (λ (o : Option AlignmentHorizontal). unwrap_or o Left) (side-beside n k (with_sides side n settings) (side n) other) ∙ sides-there n below
      ]

pub first-sides : (options : Options) (rows : List (List Text)) → AreSided options (first_config options rows) rows
unfolding get_alignment_horizontal setting_of default_config
first-sides options rows = λ column within.
    line-keeps (λ (c : Config). get_alignment_horizontal c (at 0 column)) (λ c o. refl) (line_in options) (length rows) (columns_of rows) (sided_config options rows)
    ∙ sides-there (side_of options rows) column (look_config options.look).alignment_horizontal refl (columns_of rows) within

-- ---- the width of a column

-- what is listed place by place
listed : {X Y : Type 0} (f : X → Y) (xs : List X) (d : X) (e : Y) → map (λ j. f (slice_index_or xs j d)) (range_with_len 0 (length xs)) ≡ map f xs
listed f xs d e = sym (fill_by_all (λ j. f (slice_index_or xs j d)) (map f xs) (length xs) e (length-map xs f) (λ k h. get_or-map f xs k d e h))

spaced-greatest : (width : List Text → ℕ) (rows : List (List Text)) → max 2 (greatest (map (λ row. 2 + width row) rows)) ≡ greatest (map width rows) + 2
spaced-greatest width [] = refl
spaced-greatest width (row ∷ rows) = omega (arith, spaced-greatest width rows)

-- no spans are in order
none-in-order : (spans : List Span) (rows columns : ℕ) → spans ≡ [] → InOrder spans rows columns
unfolding spans_fit
none-in-order spans rows columns none = subst (λ (ss : List Span). InOrder ss rows columns) (sym none) (record { ascending = tt; fit = refl })

some-rows : (texts : List (List Text)) → 0 < columns_of texts → 0 < length texts
some-rows [] some = absurd (omega (arith, some))
some-rows (row ∷ texts) some = omega arith

module _ (config : Config) (spaces : HasSpaces config) (texts : List (List Text)) where
  text-width : (p : Position) → widest (get_formatting config p) (text_at texts p) ≡ text_width_of (text_at texts p)
  unfolding widest
  text-width p = sym (widest-untrimmed (get_formatting config p).horizontal_trim (text_at texts p) (spaces.across p))

  text-height : (p : Position) → length (shown (get_formatting config p) (text_at texts p)) ≡ count_by is_feed (text_at texts p) + 1
  text-height p = length-shown (get_formatting config p) (text_at texts p) (spaces.down p) ∙ length-lines_of (text_at texts p)

  column-width : (k : ℕ) → plain_size Columns config (text_at texts) (length texts) k ≡ widest_text texts k + 2
  unfolding plain_size
  column-width k =
      let cell : ℕ → ℕ = λ j. cell_size Columns config (text_at texts) (at j k) in
      let spaced : List Text → ℕ = λ row. 2 + text_width_of (slice_index_or row k []) in
      let each : (j : ℕ) → j < length texts → cell j ≡ spaced (slice_index_or texts j []) = λ j h. ap₂ (λ (a b : ℕ). a + b) (spaces.beside (at j k)) (text-width (at j k)) in
      let all : greatest (map cell (range_with_len 0 (length texts))) ≡ greatest (map spaced texts) =
      ap greatest (map-below cell (λ j. spaced (slice_index_or texts j [])) (length texts) each ∙ listed spaced texts [] 0)
      in
      ap₂ (λ (a b : ℕ). max a b) (spaces.beside (at 0 k)) all ∙ spaced-greatest (λ row. text_width_of (slice_index_or row k [])) texts

  -- widths that are so much wider than texts are the natural ones
  pub spaced-widths : (widths : List ℕ) → length widths ≡ columns_of texts → ((k : ℕ) → k < columns_of texts → slice_index widths k ≡ widest_text texts k + 2) → widths ≡ natural_widths config texts
  spaced-widths widths long each =
      fill_by_all (plain_size Columns config (text_at texts) (length texts)) widths (columns_of texts) 0 long (λ k h. each k h ∙ sym (column-width k))
      ∙ plain-naturals config texts (columns_of texts) (plain-widths config (length texts) (columns_of texts) spaces.spans)

  -- where they can be counted, and the lines of texts too, nothing is wrong with them
  pub spaced-fault : 0 < columns_of texts → ((k : ℕ) → k < columns_of texts → widest_text texts k + 2 < 2 ^ 64)
      → ((r c : ℕ) → r < length texts → c < columns_of texts → count_by is_feed (text_at texts (at r c)) + 1 < 2 ^ 64) → natural_fault config texts ≡ None
  spaced-fault some wide high =
      let rows : 0 < length texts = some-rows texts some in
      let cells : ((length texts == 0) || (columns_of texts == 0)) ≡ false = grind (arith, nat_tests, some, rows) in
      let sized : (r c : ℕ) → r < length texts → c < columns_of texts → is_sized config (text_at texts) (at r c) ≡ true = λ r c h l.
      sized-from config (text_at texts) (at r c)
      (omega (arith, plain-covers Columns config (text_at texts) (length texts) c r h, column-width c, wide c l))
      (omega (arith, spaces.above (at r c), text-height (at r c), high r c h l))
      in
      cells-no_fault config texts (columns_of texts) cells (none-in-order config.spans (length texts) (columns_of texts) spaces.spans)
      (cells-from config (text_at texts) (length texts) (columns_of texts) (λ r c h l there. sized r c h l))

  -- no text is wider than the widest
  pub widest-covers : (r k : ℕ) → r < length texts → text_width_of (text_at texts (at r k)) ≤ widest_text texts k
  widest-covers r k h = omega (arith, plain-covers Columns config (text_at texts) (length texts) k r h, column-width k, spaces.beside (at r k), text-width (at r k))

-- ---- texts of records in memory

-- no field has more bytes than its record
field-length : (start : ℕ) (ends : List ℕ) (bytes : Text) (place : ℕ) → length (slice_index_or (cut_from start ends bytes) place []) ≤ length bytes
unfolding cut_from
field-length start [] bytes zero = omega arith
field-length start [] bytes (suc place) = omega arith
field-length start (end ∷ ends) bytes zero = omega (arith, length-take (end - start) (drop start bytes), length-drop start bytes)
field-length start (end ∷ ends) bytes (suc place) = field-length end ends bytes place

drawn-length : (row : Row) (place : Option ℕ) → length row.bytes < 2 ^ 63 → length (drawn_at (fields_of row) place) < 2 ^ 63
drawn-length row None short = omega arith
drawn-length row (Some place) short = omega (arith, field-length 0 row.ends row.bytes place, short)

row-length : (row : Row) (places : List (Option ℕ)) (column : ℕ) → length row.bytes < 2 ^ 63 → length (slice_index_or (fields_at places (fields_of row)) column []) < 2 ^ 63
row-length row [] zero short = omega arith
row-length row [] (suc column) short = omega arith
row-length row (place ∷ places) zero short = drawn-length row place short
row-length row (place ∷ places) (suc column) short = row-length row places column short

abbrev nothing : List Text
nothing = []

nothing-at : (column : ℕ) → length (slice_index_or nothing column []) < 2 ^ 63
nothing-at zero = omega arith
nothing-at (suc column) = omega arith

pub counted-texts : (places : List (Option ℕ)) (records : List Row) → are_counted records ≡ true → (r c : ℕ) → length (text_at (texts_at places records) (at r c)) < 2 ^ 63
counted-texts places [] counted zero c = nothing-at c
counted-texts places [] counted (suc r) c = nothing-at c
counted-texts places (row ∷ records) counted zero c =
    let short : length row.bytes < 2 ^ 63 = let here = (and_parts (nat_lt (length row.bytes) (2 ^ 63)) (are_counted records) counted).0 in grind (arith, nat_tests, here) in
    row-length row places c short
counted-texts places (row ∷ records) counted (suc r) c = counted-texts places records (and_parts (nat_lt (length row.bytes) (2 ^ 63)) (are_counted records) counted).1 r c

pub feeds-counted : (places : List (Option ℕ)) (records : List Row) → are_counted records ≡ true → (r c : ℕ) → count_by is_feed (text_at (texts_at places records) (at r c)) + 1 < 2 ^ 64
feeds-counted places records counted r c =
    omega (arith, count_by-le-length is_feed (text_at (texts_at places records) (at r c)), counted-texts places records counted r c)

-- ---- tables whose texts are wrapped

-- a text that fits stays where texts are wrapped
fitted-wrapped : (breaking : Breaking) (formatting : Formatting) (room : ℕ) (text : Text) → widest formatting text ≡ text_width_of text → fitted_text (Wrap breaking) formatting room text ≡ wrapped breaking room text
fitted-wrapped breaking formatting room text same =
    elim (cases_lt room (widest formatting text)) [
      | inl wide ↦ fitted_text-overflows (Wrap breaking) formatting room text wide
      | inr low ↦ fitted_text-stays (Wrap breaking) formatting room text low ∙ sym (fitting_texts_stay breaking room text (omega (arith, low, same)))
    ]

widest-stays : (breaking : Breaking) (room column : ℕ) (rows : List (List Text)) → widest_text rows column ≤ room → widest_wrapped breaking room rows column ≡ widest_text rows column
widest-stays breaking room column [] low = refl
widest-stays breaking room column (row ∷ rows) low =
    let text : Text = slice_index_or row column [] in
    omega (arith, ap text_width_of (fitting_texts_stay breaking room text (omega (arith, low))), widest-stays breaking room column rows (omega (arith, low)))

no-spans : (config : Config) (texts : List (List Text)) (columns : ℕ) → config.spans ≡ [] → keeps_spans config texts columns ≡ false
no-spans config texts columns none =
    let plain : not (length config.spans == 0) ≡ false = ap (λ (spans : List Span). not (length spans == 0)) none in
    grind (arith, plain)

module _ (breaking : Breaking) (total : ℕ) (limits : List ℕ) (config : Config) (spaces : HasSpaces config) (texts : List (List Text)) where
  abbrev how : Overflow
  how = Wrap breaking

  abbrev columns : ℕ
  columns = columns_of texts

  abbrev limit : ℕ → ℕ
  limit k = limit_at limits k

  abbrev natural : ℕ → ℕ
  natural k = widest_text texts k + 2

  abbrev low : ℕ → ℕ
  low k = min (natural k) (limit k)

  abbrev range : ℕ → ColumnRange
  range = column_range how total limits config texts columns

  abbrev fitted : List (List Text)
  fitted = column_texts how total limits config texts columns

  plain : HasPlainWidths config (length texts) columns
  plain = plain-widths config (length texts) columns spaces.spans

  cell-text : (r k : ℕ) → widest (get_formatting config (at r k)) (text_at texts (at r k)) ≡ text_width_of (text_at texts (at r k))
  cell-text r k = text-width config spaces texts (at r k)

  natural-is : (k : ℕ) → k < columns → slice_index (natural_sizes Columns config texts columns) k ≡ natural k
  natural-is k h = natural-at how total limits config texts columns plain k h ∙ column-width config spaces texts k

  -- where each character of a column has room within its limit
  module _ (rooms : (k : ℕ) → k < columns → limit k < natural k → (2 ≤ limit k) × All (λ row. HasRoom breaking (limit k - 2) (slice_index_or row k [])) texts) where
    least-limited : (k : ℕ) → k < columns → limit k < natural k → least_column_width how config (text_at texts) (length texts) k ≤ limit k
    unfolding least_column_width
    least-limited k h narrow =
        let room = rooms k h narrow in
        let cell : ℕ → ℕ = λ r. paddings Columns config (at r k) + least_text_width how config (text_at texts) (at r k) in
        let each : (r : ℕ) → 0 ≤ r → r < 0 + length texts → cell r ≤ limit k = λ r _ l.
        let own : HasRoom breaking (limit k - 2) (text_at texts (at r k)) = room.1 r [] (omega (arith, l)) in
        omega (arith, spaces.beside (at r k), cell-text r k, own.characters, room.0)
        in
        omega (arith, spaces.beside (at 0 k), room.0, greatest-below cell 0 (length texts) (limit k) each)

    least-low : (k : ℕ) → k < columns → least_column_width how config (text_at texts) (length texts) k ≤ low k
    least-low k h =
        let below : least_column_width how config (text_at texts) (length texts) k ≤ natural k = omega (arith, least-below how total limits config texts columns k, column-width config spaces texts k) in
        elim (cases_lt (limit k) (natural k)) [ inl narrow ↦ omega (arith, below, least-limited k h narrow) | inr wide ↦ omega (arith, below, wide) ]

    share-low : (k : ℕ) → k < columns → max (range k).least (range k).natural ≡ low k
    share-low k h = omega (arith, natural-is k h, least-low k h)

    total-low : (a n : ℕ) → a + n ≤ columns → natural_total (map range (range_with_len a n)) ≡ sum_by low (range_with_len a n)
    total-low a zero h = refl
    total-low a (suc n) h =
        omega (
          arith,
          sum_by-cons (λ (c : ColumnRange). max c.least c.natural) (range a) (map range (range_with_len (a + 1) n)),
          sum_by-cons low a (range_with_len (a + 1) n),
          share-low a (omega (arith, h)),
          total-low (a + 1) n (omega (arith, h)),
        )

    listed-low : (a n : ℕ) → a + n ≤ columns → map (λ (c : ColumnRange). max c.least c.natural) (map range (range_with_len a n)) ≡ map low (range_with_len a n)
    listed-low a zero h = refl
    listed-low a (suc n) h =
        ap (λ (w : ℕ). w ∷ map (λ (c : ColumnRange). max c.least c.natural) (map range (range_with_len (a + 1) n))) (share-low a (omega (arith, h)))
        ∙ ap (λ (ws : List ℕ). low a ∷ ws) (listed-low (a + 1) n (omega (arith, h)))

    -- and the columns, lowered to their limits, within the line
    module _ (fits : sum_by low (range_with_len 0 columns) ≤ total - beside_columns config columns) where
      widths-low : column_widths how total limits config texts columns ≡ map low (range_with_len 0 columns)
      unfolding column_widths
      widths-low = stay_natural (total - beside_columns config columns) (column_ranges how total limits config texts columns) (omega (arith, total-low 0 columns (omega arith), fits)) ∙ listed-low 0 columns (omega arith)

      room-low : (r k : ℕ) → k < columns → slice_index (column_widths how total limits config texts columns) k - paddings Columns config (at r k) ≡ low k - 2
      room-low r k h = omega (arith, ap (λ (ws : List ℕ). slice_index ws k) widths-low, size-at low columns k h, spaces.beside (at r k))

      length-fitted-low : length fitted ≡ length texts
      length-fitted-low = length-fitted how total limits config texts columns

      fitted-low : (r k : ℕ) → r < length texts → k < columns → text_at fitted (at r k) ≡ wrapped breaking (low k - 2) (text_at texts (at r k))
      unfolding column_texts
      fitted-low r k h l =
          ap (λ (row : List Text). slice_index_or row k []) (get_or-map-range_with_len (λ i. map (λ j. fitted_at how total limits config texts columns (at i j)) (range_with_len 0 columns)) 0 (length texts) r r [] h (omega arith))
          ∙ get_or-map-range_with_len (λ j. fitted_at how total limits config texts columns (at r j)) 0 columns k k [] l (omega arith)
          ∙ ap (λ (n : ℕ). fitted_text how (get_formatting config (at r k)) n (text_at texts (at r k))) (room-low r k l)
          ∙ fitted-wrapped breaking (get_formatting config (at r k)) (low k - 2) (text_at texts (at r k)) (cell-text r k)

      widest-low : (k : ℕ) → k < columns → widest_text fitted k ≡ widest_wrapped breaking (low k - 2) texts k
      widest-low k h =
          let before : List Text → ℕ = λ row. text_width_of (wrapped breaking (low k - 2) (slice_index_or row k [])) in
          let after : List Text → ℕ = λ row. text_width_of (slice_index_or row k []) in
          ap greatest
          (sym (listed after fitted [] 0)
          ∙ ap (λ (n : ℕ). map (λ j. after (slice_index_or fitted j [])) (range_with_len 0 n)) length-fitted-low
          ∙ map-below (λ j. after (slice_index_or fitted j [])) (λ j. before (slice_index_or texts j [])) (length texts) (λ j l. ap text_width_of (fitted-low j k l h))
          ∙ listed before texts [] 0)

      columns-fitted : 0 < columns → columns_of fitted ≡ columns
      unfolding column_texts
      columns-fitted some = columns-of-fitted (length texts) (some-rows texts some)
        where
          columns-of-fitted : (n : ℕ) → 0 < n → columns_of (map (λ i. map (λ j. fitted_at how total limits config texts columns (at i j)) (range_with_len 0 columns)) (range_with_len 0 n)) ≡ columns
          columns-of-fitted zero none = absurd (omega (arith, none))
          columns-of-fitted (suc n) more = length-map-range_with_len (λ j. fitted_at how total limits config texts columns (at 0 j)) 0 columns

      -- columns that are lowered
      module _ (some : 0 < columns) (few : columns < 2 ^ 64 - 1) (counted : (k : ℕ) → k < columns → natural k < 2 ^ 64) (widths : List ℕ) (long : length widths ≡ columns)
          (lower : (k : ℕ) → k < columns → IsLowered breaking (limit k) texts k (natural k) (slice_index widths k))
          (high : (r c : ℕ) → count_by is_feed (text_at texts (at r c)) + 1 < 2 ^ 64)
        where
          width-low : (k : ℕ) → k < columns → slice_index widths k ≡ widest_text fitted k + 2
          width-low k h =
              elim (cases_lt (limit k) (natural k)) [
                | inl narrow ↦
                    let there : low k - 2 ≡ limit k - 2 = omega (arith, narrow) in
                    omega (arith, widest-low k h, ap (λ (n : ℕ). widest_wrapped breaking n texts k) there, ((lower k h).wrapped narrow).is)
                | inr wide ↦
                    let there : low k - 2 ≡ widest_text texts k = omega (arith, wide) in
                    omega (arith, widest-low k h, ap (λ (n : ℕ). widest_wrapped breaking n texts k) there, widest-stays breaking (widest_text texts k) k texts (omega arith), (lower k h).kept wide)
              ]

          width-counted : (k : ℕ) → k < columns → slice_index widths k < 2 ^ 64
          width-counted k h =
              elim (cases_lt (limit k) (natural k)) [
                | inl narrow ↦ omega (arith, ((lower k h).wrapped narrow).within, narrow, counted k h)
                | inr wide ↦ omega (arith, (lower k h).kept wide, counted k h)
              ]

          high-low : (r k : ℕ) → r < length texts → k < columns → count_by is_feed (text_at fitted (at r k)) + 1 < 2 ^ 64
          high-low r k h l =
              let text : Text = text_at texts (at r k) in
              elim (cases_lt (limit k) (natural k)) [
                | inl narrow ↦
                    let there : low k - 2 ≡ limit k - 2 = omega (arith, narrow) in
                    let own : HasRoom breaking (limit k - 2) text = ((lower k l).wrapped narrow).room r [] h in
                    omega (
                      arith,
                      ap (λ (t : Text). count_by is_feed t) (fitted-low r k h l ∙ ap (λ (n : ℕ). wrapped breaking n text) there),
                      length-lines_of (wrapped breaking (limit k - 2) text),
                      length-wrapped breaking (limit k - 2) text own.encoded,
                      own.counted,
                    )
                | inr wide ↦
                    let fit : text_width_of text ≤ low k - 2 = omega (arith, wide, widest-covers config spaces texts r k h) in
                    omega (arith, ap (λ (t : Text). count_by is_feed t) (fitted-low r k h l ∙ fitting_texts_stay breaking (low k - 2) text fit), high r k)
              ]

          widths-fitted : widths ≡ natural_sizes Columns config fitted columns
          widths-fitted =
              spaced-widths config spaces fitted widths (long ∙ sym (columns-fitted some)) (λ k h. width-low k (omega (arith, h, columns-fitted some)))
              ∙ ap (λ (n : ℕ). natural_sizes Columns config fitted n) (columns-fitted some)

          texts-plain : fitted_texts how total limits config texts columns ≡ fitted
          unfolding fitted_texts
          texts-plain = rw (no-spans config texts columns spaces.spans) refl

          pub widths-wrapped : (λ (column : ℕ). slice_index_or widths column 0) ≡ (fitted_table how total limits config texts columns (λ place. None)).width
          widths-wrapped =
              let told : List ℕ = spanned_widths how total limits config texts columns in
              ap (λ (ws : List ℕ). λ (column : ℕ). slice_index_or ws column 0)
              (widths-fitted
              ∙ sym (told-widths told config fitted columns (no-spans config fitted columns spaces.spans))
              ∙ ap (λ (ts : List (List Text)). widths_from told config ts columns) (sym texts-plain))

          pub fault-wrapped : option_or (fit_fault config texts columns) (sizes_fault config (fitted_texts how total limits config texts columns) columns) ≡ None
          unfolding natural_sizes
          fault-wrapped =
              let rows : 0 < length texts = some-rows texts some in
              let cells : ((length texts == 0) || (columns == 0)) ≡ false = grind (arith, nat_tests, some, rows) in
              let none : not (length config.spans == 0) ≡ false = ap (λ (spans : List Span). not (length spans == 0)) spaces.spans in
              let few-columns : nat_lt columns (2 ^ 64 - 1) ≡ true = grind (arith, nat_tests, few) in
              let wide : all_fit (natural_sizes Columns config texts columns) ≡ true = all_fit-each (natural_size Columns config (text_at texts) (length texts) columns) columns (λ k h. omega (arith, natural-is k h, counted k h, size-at (natural_size Columns config (text_at texts) (length texts) columns) columns k h)) in
              let own : fit_fault config texts columns ≡ None = fault-none config texts columns cells none (and_from _ _ few-columns wide) in
              let later : natural_fault config fitted ≡ None =
              spaced-fault config spaces fitted (omega (arith, some, columns-fitted some))
              (λ k h. let inside : k < columns = omega (arith, h, columns-fitted some) in omega (arith, width-low k inside, width-counted k inside))
              (λ r c h l. high-low r c (omega (arith, h, length-fitted-low)) (omega (arith, l, columns-fitted some)))
              in
              rw own (ap (λ (ts : List (List Text)). sizes_fault config ts columns) texts-plain ∙ sym (ap (λ (n : ℕ). sizes_fault config fitted n) (columns-fitted some)) ∙ later)

-- widths of columns that are found by wrapping texts are those of the fitted table, which has no fault
pub found-widths : (breaking : Breaking) (total : ℕ) (limits : List ℕ) (config : Config) (spaces : HasSpaces config) (records : LentRows) (old new : List ℕ) → AreSpaced records old → length old < 2 ^ 64 - 1
    → sum_by (lowered old limits) (range_with_len 0 (length old)) ≤ total - beside_columns config (length old) → length new ≡ length old
    → ((k : ℕ) → k < length old → IsLowered breaking (limit_at limits k) (texts_of records) k (slice_index old k) (slice_index new k))
    → ((λ (column : ℕ). slice_index_or new column 0) ≡ (fitted_table (Wrap breaking) total limits config (texts_of records) (columns_of (texts_of records)) (λ place. None)).width)
    × (option_or (fit_fault config (texts_of records) (columns_of (texts_of records))) (sizes_fault config (fitted_texts (Wrap breaking) total limits config (texts_of records) (columns_of (texts_of records))) (columns_of (texts_of records))) ≡ None)
found-widths breaking total limits config spaces records old new spaced few fits long lower =
    let texts : List (List Text) = texts_of records in
    let columns : ℕ = columns_of texts in
    let natural : ℕ → ℕ = λ k. widest_text texts k + 2 in
    let inside : (k : ℕ) → k < columns → k < length old = λ k h. omega (arith, h, spaced.columns) in
    let lower' : (k : ℕ) → k < columns → IsLowered breaking (limit_at limits k) texts k (natural k) (slice_index new k) = λ k h.
    subst (λ (n : ℕ). IsLowered breaking (limit_at limits k) texts k n (slice_index new k)) (spaced.each k (inside k h)) (lower k (inside k h))
    in
    let rooms : (k : ℕ) → k < columns → limit_at limits k < natural k → (2 ≤ limit_at limits k) × All (λ row. HasRoom breaking (limit_at limits k - 2) (slice_index_or row k [])) texts = λ k h narrow.
    let own = (lower' k h).wrapped narrow in (own.spaces, own.room)
    in
    let same : sum_by (lowered old limits) (range_with_len 0 (length old)) ≡ sum_by (λ k. min (natural k) (limit_at limits k)) (range_with_len 0 (length old)) =
    sum-same (lowered old limits) (λ k. min (natural k) (limit_at limits k)) 0 (length old) (λ k _ h. ap (λ (n : ℕ). min n (limit_at limits k)) (spaced.each k (omega (arith, h))))
    in
    let fit' : sum_by (λ k. min (natural k) (limit_at limits k)) (range_with_len 0 (length old)) ≤ total - beside_columns config (length old) = omega (arith, same, fits) in
    let fit : sum_by (λ k. min (natural k) (limit_at limits k)) (range_with_len 0 columns) ≤ total - beside_columns config columns = rw spaced.columns at fit' in
    let some : 0 < columns = omega (arith, spaced.some, spaced.columns) in
    let less : columns < 2 ^ 64 - 1 = omega (arith, few, spaced.columns) in
    let counted : (k : ℕ) → k < columns → natural k < 2 ^ 64 = λ k h. spaced.counted k (inside k h) in
    let high : (r c : ℕ) → count_by is_feed (text_at texts (at r c)) + 1 < 2 ^ 64 = feeds-counted records.places.now records.records.now spaced.short in
    let same_length : length new ≡ columns = long ∙ spaced.columns in (
      widths-wrapped breaking total limits config spaces texts rooms fit some less counted new same_length lower' high,
      fault-wrapped breaking total limits config spaces texts rooms fit some less counted new same_length lower' high,
    )

-- ---- wrapped lines of printable ASCII

-- each of its characters takes one column
least-printable : (breaking : Breaking) (text : Text) → list_all is_printable text ≡ true → least_width breaking text ≤ 1
least-printable Anywhere text h = omega (arith, least-one_line Anywhere text h, least-anywhere text h)
least-printable BetweenWords text h = elim (cases_Bool (list_all (λ b. b == 32) text)) [
  | inl none ↦ omega (arith, least-one_line BetweenWords text h, least-spaces text h none)
  | inr some ↦ omega (arith, least-one_line BetweenWords text h, least-word text h some)
]

pub broken_printable : (breaking : Breaking) (width : ℕ) (text : Text) → IsUtf8 text → 0 < width → list_all is_printable text ≡ true → wrapped breaking width text ≡ narrowed width (wrapped breaking width text)
broken_printable breaking width text utf8 some printable =
    let fits : text_width_of (wrapped breaking width text) ≤ width = wrapped_texts_fit breaking width text utf8 (omega (arith, some, least-printable breaking text printable)) in
    let narrow : nat_le (text_width_of (wrapped breaking width text)) width ≡ true = grind (arith, nat_tests, fits) in
    rw narrow refl

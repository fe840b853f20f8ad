-- The tables of a script: as records, as a grid prints or refuses them, and at their natural sizes; and what the program answers.
use Rattle.std.proofs.Common.{◌≡◌, ◌==◌, ℕ, if◌then◌else◌, None, List, [], ◌∷◌, length, map, slice_index_or, string_bytes, refl, sym, ap, ◌∙◌, Option, Some, Result, Err, String, is_some, ◌≤◌, IfSome, length-append, arith, ◌⊎◌, false, Ok, inl, inr, subst, ◌++◌}
use Rattle.std.proofs.lemmas.List.{length-map}
use Rattle.pg_layout.specs.Colors.{Color}
use Rattle.pg_layout.specs.declared.position.Position.{Position}
use Rattle.pg_layout.specs.Records.{columns_of}
use Rattle.pg_layout.specs.Text.{Text}
use Rattle.pg_config.specs.CompactConfig.{CompactSettings, compact_of}
use Rattle.pg_picture.specs.CompactLines.{compact_full_width, compact_width, compact_sized}
use Rattle.pg_picture.specs.Fits.{compact_misfit_of, misfit_of, spans_fit, totals_fit}
use Rattle.pg_compact.specs.CompactGrids.{compact_misfit}
use Rattle.pg_table.specs.Natural.{natural_table, size_of_singles, natural_size, natural_sizes, lacking, widening, widened}
use Rattle.pg_script.specs.Script.{told_of_script}
use Rattle.pg_show.specs.Show.{table_with, compact_table_with, table_of_told, compact_table_of_told, natural_config, natural_table_of_told, misfit_in, text_in, Prints, Shows, fault_of_table}
use Rattle.pg_script.specs.Told.{Told}
use Rattle.pg_show.specs.declared.mode.Mode.TheVariants.{Compact, Iter, Peek, Table}
use Rattle.pg_script.specs.declared.script.Script.{Script}
use Rattle.std.proofs.lemmas.Bool.{false≢true, cases_Bool}
use Rattle.pg_picture.specs.Printed.{Checked}
use Rattle.pg_picture.specs.declared.fits.Misfit.{Misfit}
use Rattle.pg_picture.specs.declared.fault.PrintFault.{PrintFault}
use Rattle.pg_picture.specs.declared.fault.PrintFault.TheVariants as print
use Rattle.pg_show.specs.declared.mode.Mode.{Mode}
use Rattle.std.specs.Io.KnownBytes.{Consumes}
use Rattle.std.specs.Result.{is_err, IsErrAnd}
use Rattle.pg_config.specs.Config.{default_config}
use Rattle.pg_picture.specs.Picture.{picture}
use Rattle.pg_picture.proofs.Appending.{appended-as, refused-as}
use Rattle.pg_picture.specs.Table.{Table as PrintedTable, Known, is_empty}
use Rattle.pg_picture.specs.declared.fits.Misfit.TheVariants as misfits
use Rattle.pg_table.specs.Printing.{fault_of, is_spanned, Prints as PrintsTable}
use Rattle.pg_table.specs.declared.fault.TableFault.{TableFault}
use Rattle.pg_table.specs.declared.fault.TableFault.TheVariants.{Totals}
use Rattle.pg_table.proofs.NaturalRoom.{natural_tables_have_room}
use Rattle.pg_show.specs.declared.mode.Mode.TheVariants as mode
use Rattle.pg_show.specs.Program.{Answers, answer_of_told, unless_misfit_shown, fault_of_print, is_failure, tells_failure, status_of, status_after, status_of_answer}
use Rattle.pg_show.specs.declared.fault.Fault.{Fault}
use Rattle.pg_show.specs.declared.fault.Fault.TheVariants as fault
use Rattle.pg_picture.proofs.Computing.{grid_words}
use Rattle.pg_script.proofs.Computing.{script_words}

-- ---- the tables of a script: by its records and by what it tells, with and without colours

-- texts and colours are no reason for a misfit of a compact table
misfit_of-compact_table_with : (config : CompactSettings) (widths : List ℕ) (texts : List (List Text)) (columns : ℕ) (colors : List (Position × Color)) → compact_misfit_of (compact_sized config (λ i. slice_index_or widths i 0) columns) ≡ compact_misfit_of (compact_table_with config widths texts columns colors)
unfolding compact_misfit_of compact_full_width compact_width
misfit_of-compact_table_with config widths texts columns colors = refl

-- rows have as many texts as cells
columns_of-map : {X Y : Type 0} (f : X → Y) (rows : List (List X)) → columns_of rows ≡ columns_of (map (λ row. map f row) rows)
columns_of-map f [] = refl
columns_of-map f (row ∷ rows) = sym (length-map row f)

-- the table of a script's records is that of what it tells
pub table-script : {A : Type 0} (script : Script A) → table_with script.config script.dimension.0.items script.dimension.1.items (map (λ row. map string_bytes row) script.records) (columns_of script.records) script.colors ≡ table_of_told (told_of_script script)
table-script script =
    ap (λ columns. table_with script.config script.dimension.0.items script.dimension.1.items (map (λ row. map string_bytes row) script.records) columns script.colors) (columns_of-map string_bytes script.records)

pub compact_table-script : {A : Type 0} (script : Script A) (config : CompactSettings) → config ≡ compact_of script.config → compact_table_with config script.dimension.0.items (map (λ row. map string_bytes row) script.records) (columns_of script.records) script.colors ≡ compact_table_of_told (told_of_script script)
compact_table-script script config told =
    rw told (ap (λ columns. compact_table_with (compact_of script.config) script.dimension.0.items (map (λ row. map string_bytes row) script.records) columns script.colors) (columns_of-map string_bytes script.records))

pub natural_table-script : {A : Type 0} (script : Script A) → natural_table (natural_config script.config) (map (λ row. map string_bytes row) script.records) (columns_of script.records) (λ place. None) ≡ natural_table_of_told (told_of_script script)
natural_table-script script =
    ap (λ columns. natural_table (natural_config script.config) (map (λ row. map string_bytes row) script.records) columns (λ place. None)) (columns_of-map string_bytes script.records)

-- what doesn't fit in a compact table with rows: its texts and colours don't matter
pub compact_misfit-told : (told : Told) → compact_misfit (compact_table_of_told told) ≡ misfit_in Compact told
compact_misfit-told told =
    ap (λ found. if length told.texts == 0 then None else found) (misfit_of-compact_table_with (compact_of told.config) told.widths told.texts (columns_of told.texts) told.colors)

-- ---- a script's table that a grid's checked call printed or refused: it is shown

pub some≢none : {X : Type 0} (x : X) → Some x ≡ None → ⊥
some≢none {X} x e = false≢true (sym (ap (λ (o : Option X). is_some o) e))

-- what misfits is the misfit of the table, and what was appended is its text
pub Shows-checked : (m : Mode) (told : Told) {Z U : Type 0} (old new : String Z) (result : Result U PrintFault) (found : Option Misfit) → found ≡ misfit_in m told → Checked found (Prints m old new result (text_in m told)) old new result → Shows m told old new result
Shows-checked m told old new result None is checked = record {
  misfit = λ x. (λ e. absurd (checked.1 x e), λ e. absurd (some≢none x (sym (is ∙ e))));
  kept = λ x e. absurd (checked.1 x e);
  printed = λ _. checked.0;
}
Shows-checked m told old new result (Some x) is checked =
    let refused : result ≡ Err (print.Misfit x) = checked.0 in
    record {
      misfit = λ y. (λ same. cc, λ found. cc);
      kept = λ y same. checked.1;
      printed = λ none. absurd (some≢none x (is ∙ none));
    }

-- ---- the bytes that were read from an input

-- what a reader had is no shorter than what it has lost
pub Consumes-length : (old new : Option (List ℕ)) (lost : List ℕ) (n : ℕ) → Consumes old new lost → n ≤ length lost → IfSome old (λ had. n ≤ length had)
Consumes-length None new lost n consumed least = tt
Consumes-length (Some had) None lost n consumed least = absurd consumed
Consumes-length (Some had) (Some left) lost n consumed least = omega (arith, ap length consumed, length-append lost left, least)

-- ---- a script's table at its natural sizes: what its printing answers shows it

-- what is printed of a table is printed of each that is the same
pub Prints-same : {Z U : Type 0} {s t : PrintedTable} (same : s ≡ t) (old new : String Z) (result : Result U TableFault) → PrintsTable (is_spanned s) (fault_of s) old new result (picture Known s) → PrintsTable (is_spanned t) (fault_of t) old new result (picture Known t)
Prints-same same old new result prints = subst (λ x. PrintsTable (is_spanned x) (fault_of x) old new result (picture Known x)) same prints

module _ (told : Told) where
  abbrev t : PrintedTable
  t = natural_table_of_told told

  -- nothing misfits, or the totals do, and the table's fault is the same
  one_fault : ((fault_of t ≡ None) × (misfit_of t ≡ None)) ⊎ ((fault_of t ≡ Some Totals) × (misfit_of t ≡ Some misfits.Totals))
  unfolding fault_of default_config spans_fit
  one_fault =
      let room = natural_tables_have_room (natural_config told.config) told.texts (columns_of told.texts) (λ place. None) in
      elim (cases_Bool (is_empty t)) [
        | inl y ↦ inl (rw y refl, room ∙ rw y refl)
        | inr n ↦ elim (cases_Bool (totals_fit t)) [
          | inl z ↦ inl (rw (n, z) refl, room ∙ rw (n, z) refl)
          | inr m ↦ inr (rw (n, m) refl, room ∙ rw (n, m) refl)
        ]
      ]

  -- it keeps no span
  no_span : is_spanned t ≡ false
  unfolding default_config
  no_span = refl

  -- a text that was appended is that of the table
  pub Shows-printed : {Z U V : Type 0} (old new : String Z) (u : U) (v : V) → PrintsTable (is_spanned t) (fault_of t) old new (Ok u) (picture Known t) → Shows mode.Table told old new (Ok v)
  Shows-printed old new u v prints =
      elim one_fault [
        | inl none ↦ record {
          misfit = λ m. (λ e. absurd (false≢true (ap is_err e)), λ e. absurd (some≢none m (sym e ∙ none.1)));
          kept = λ m e. absurd (false≢true (ap is_err e));
          printed = λ _. elim (rw none.0 at prints).0 [ inl all ↦ inl (appended-as all) | inr refused ↦ absurd (false≢true refused.0) ];
        }
        | inr past ↦ elim (rw past.0 at prints).0 [ inl refused ↦ absurd (false≢true (ap is_err refused)) | inr refused ↦ absurd (false≢true (ap is_err refused.0)) ]
      ]

  -- a fault is the misfit of the table, or want of memory
  pub Shows-refused : (U : Type 0) {Z V : Type 0} (old new : String Z) (fault : TableFault) (e : PrintFault) → e ≡ fault_of_table fault → PrintsTable {U = U} (is_spanned t) (fault_of t) old new (Err fault) (picture Known t) → Shows {U = V} mode.Table told old new (Err e)
  Shows-refused U old new fault e is prints =
      elim one_fault [
        | inl none ↦
            let refused = rw none.0 at prints in
            let memory : e ≡ print.Memory = is ∙ ap fault_of_table (refused.1 fault refl) in
            record {
              misfit = λ m. (λ same. cc, λ found. absurd (some≢none m (sym found ∙ none.1)));
              kept = λ m same. cc;
              printed = λ _. elim refused.0 [ inl begun ↦ inl (refused-as refl begun) | inr nothing ↦ inr (refl, nothing.1) ];
            }
        | inr past ↦
            let refused = rw past.0 at prints in
            let totals : fault ≡ Totals = elim refused.0 [ inl same ↦ cc | inr memory ↦ absurd (false≢true (sym no_span ∙ memory.2)) ] in
            let told_totals : e ≡ print.Misfit misfits.Totals = is ∙ ap fault_of_table totals in
            record {
              misfit = λ m. (λ same. cc, λ found. cc);
              kept = λ m same. refused.1;
              printed = λ none. absurd (some≢none misfits.Totals (sym past.1 ∙ none));
            }
      ]

-- ---- the program's answers, where a table was printed and where it wasn't

-- what is no misfit is none
pub misfit-none : (found : Option Misfit) → ((m : Misfit) → ¬ (found ≡ Some m)) → found ≡ None
misfit-none None none = refl
misfit-none (Some m) none = absurd (none m refl)

-- the table's text and a line feed are right
pub answer_of_told-printed : (mode : Mode) (told : Told) (text all : Text) → misfit_in mode told ≡ None → text ≡ text_in mode told → all ≡ text ++ 10 ∷ [] → answer_of_told mode told ≡ Ok all
answer_of_told-printed mode told text all fits is fed =
    ap (λ found. unless_misfit_shown found (text_in mode told)) fits ∙ ap (λ t. Ok (t ++ 10 ∷ [])) (sym is) ∙ ap Ok (sym fed)

-- it is right to tell a misfit that was found, and want of memory is no matter of the script
pub Answers-unprinted : {A : Type 0} (mode : Mode) (told : Told) (e : PrintFault) (r : Result (String A) Fault) → ((m : Misfit) → e ≡ print.Misfit m → misfit_in mode told ≡ Some m) → IsErrAnd r (λ fault. fault ≡ fault_of_print e) → Answers (answer_of_told mode told) r
Answers-unprinted mode told e (Ok text) misfit is = absurd is
Answers-unprinted mode told (print.Misfit m) (Err fault) misfit is = λ _.
    ap (λ found. unless_misfit_shown found (text_in mode told)) (misfit m refl) ∙ ap Err (sym is)
Answers-unprinted mode told print.Memory (Err fault) misfit is = λ other. absurd (other is)

-- where nothing was refused, the buffer has gained the whole text, whatever the mode
pub Prints-ok : {Z U : Type 0} (E : Type 0) (mode : Mode) (old new : String Z) (u : U) (text : Text) → Prints {E = E} mode old new (Ok u) text → string_bytes new ≡ string_bytes old ++ text
Prints-ok E Compact old new u text printed = printed.ok
Prints-ok E Iter old new u text (inl printed) = printed.ok
Prints-ok E Iter old new u text (inr refused) = absurd (false≢true refused.0)
Prints-ok E Peek old new u text printed = printed.ok
Prints-ok E Table old new u text (inl printed) = printed.ok
Prints-ok E Table old new u text (inr refused) = absurd (false≢true refused.0)

-- a status says that memory, a read or a write failed just where its fault does
is_failure-status : (found : Fault) → is_failure found ≡ tells_failure (status_of found)
is_failure-status fault.Usage = refl
is_failure-status (fault.Bad line) = refl
is_failure-status (fault.Misfit misfit) = refl
is_failure-status fault.Memory = refl
is_failure-status fault.Read = refl
is_failure-status fault.Write = refl

-- the status of a run that showed a right text, or ended with a right fault, is that of the right answer
pub status_of_answer-right : (found : Option Fault) (input : Option (List ℕ)) (right : List ℕ → Result Text Fault) (Shown : Text → Type 0)
    → (found ≡ None → IfSome input (λ script. (text : Text) × (right script ≡ Ok text) × Shown text))
    → ((fault : Fault) → found ≡ Some fault → is_failure fault ≡ false → IfSome input (λ script. right script ≡ Err fault))
    → tells_failure (status_after found) ≡ false → IfSome input (λ script. status_after found ≡ status_of_answer (right script))
status_of_answer-right found None right Shown shown refused no_failure = tt
status_of_answer-right None (Some script) right Shown shown refused no_failure = ap status_of_answer (sym (shown refl).1)
status_of_answer-right (Some f) (Some script) right Shown shown refused no_failure =
    ap status_of_answer (sym (refused f refl (is_failure-status f ∙ no_failure)))

-- `unfolding answer_words` lets `refl` compute what the program answers to a script
unfoldable pub answer_words : Unit {0}
unfolding grid_words script_words size_of_singles natural_size natural_sizes lacking widening widened
answer_words = tt

-- A run at once, and a stream whose first rows are all rows.
use Rattle.std.proofs.Common.{◌≡◌, ◌∙◌, ◌∷◌, ◌++◌, ◌+◌, ◌<◌, ◌≤◌, ℕ, zero, suc, List, [], Bool, true, false, Option, None, Some, map, fold, length, arith, inl, inr, refl, sym, ap, subst, take}
use Rattle.std.specs.Prelude.{◌==◌, ◌&&◌, not, option_and_then, if◌then◌else◌, ◌≢◌, is_some, slice_get, slice_index_or, option_map, string_bytes}
use Rattle.std.specs.List.{cons_option, flat_map, list_all, list_any}
use Rattle.std.specs.Option.{option_or}
use Rattle.std.specs.Str.{bytes_eq}
use Rattle.std.proofs.lemmas.Bool.{and_parts, cases_Bool, eqb-true, true≢false}
use Rattle.std.proofs.lemmas.Grind.{flat_map-append}
use Rattle.std.proofs.lemmas.List.{append_assoc, append-nil, length-append, length-map, take_all, take-append-le}
use Rattle.std.proofs.lemmas.List.Elements.{filter_map-append}
use Rattle.std.proofs.lemmas.List.Sums.{fold-append}
use Rattle.csv.specs.Reading.{strip_bom}
use Rattle.json.specs.Json.{Json}
use Rattle.ruled_json.specs.Faults.{first_line_fault, line_after, line_fault, line_rows_fault}
use Rattle.ruled_json.specs.Rows.{Rules, columns_of, has_all, line_rows_of, lines_of, names_in, record_on, records_on, row_of, table_in, table_of, with_name}
use Rattle.ruled_json.specs.Streamed.{LineRules, fault_behind, first_columns, first_fault_behind, late_fault, left_of, lines_above_fault, number_behind, sound_line_rows}
use Rattle.ruled_json.specs.Streamed.{streamed_line_fault, streamed_table}
use Rattle.ruled_json.specs.declared.fault.JsonFault.{JsonFault}
use Rattle.ruled_json.specs.declared.fault.JsonFault.TheVariants.{NoColumn}
use Rattle.ruled_json.specs.declared.fault.Place.TheVariants.{Line}
use Rattle.ruled_json.proofs.StreamedLines.{fault-as-at-once}
use Rattle.std.proofs.Math.Path.{fun_ext}
use Rattle.std.proofs.lemmas.Bool.Decides.{nat_tests}
use Rattle.pg_layout.specs.Colors.{Color}
use Rattle.pg_layout.specs.Text.{Text}
use Rattle.pg_layout.specs.declared.position.Position.{Position}
use Rattle.ruled_csv.specs.Faults.{rows_fault}
use Rattle.ruled_csv.proofs.TextFaults.{all-sound}
use Rattle.ruled_table.specs.Arranged.{arranged, chosen_rows, ends_of, even, leveled, named, numbered, sort_fault_by, sorted_by_word, tails}
use Rattle.ruled_table.specs.Columns.{column_fault, drawn_at}
use Rattle.ruled_table.specs.Layouts.{colored, first_fault, layout_of, start_fault, whole_text, Plan, with_colors}
use Rattle.ruled_table.specs.Shown.{color_at, color_of, field_tint, heads, tint_of}
use Rattle.ruled_table.specs.View.{all_fault, all_text, table_fault, table_text, whole_fault, whole_table}
use Rattle.ruled_table.specs.declared.colors.Tint.{Tint}
use Rattle.ruled_table.specs.declared.colors.Tint.TheVariants.{Bold}
use Rattle.ruled_table.specs.declared.options.Options.{Options}
use Rattle.ruled_table.specs.declared.options.Sort.{Sort}
use Rattle.ruled_io.specs.Faults.{fault_of_json, fault_of_rows, of_view}
use Rattle.ruled_io.specs.Formats.{content_of}
use Rattle.ruled_io.specs.Input.{AreSelected, format_fault, input_fault, rows_in, rows_of, fault_from, further_fault, joined, joined_rows, rows_held, rows_of_all}
use Rattle.ruled_io.specs.Runs.{AllAreFirst, AreFirstAs, AsksTable, AtOnceShowsAsStreams, BothWaysFindOneFault, ShowsEachRow, StreamsShowAsAtOnce, AreAsked, AreJoined, AreRows, AreRowsAs}
use Rattle.ruled_io.specs.Runs.{ShowsAll}
use Rattle.ruled_io.specs.Reading.{sound_rows, wrong_in}
use Rattle.ruled_io.specs.Requests.{format_told, hides_rows, holds_database, log_of, members_of, rows_needed, selection_of}
use Rattle.ruled_io.specs.Stream.{AreOfDatabase, AreOfTable, AreStreamed, AreStreamedAs, StreamsText, first_count, named_count, first_plan, first_wrong, line_rules, shown_text}
use Rattle.ruled_io.specs.Stream.{streamed_count, streamed_format}
use Rattle.ruled_database.specs.Listings.{AreTable}
use Rattle.ruled_io.specs.declared.fault.InputFault.{InputFault}
use Rattle.ruled_io.specs.declared.fault.RunFault.{RunFault}
use Rattle.ruled_io.specs.declared.formats.Format.{Format}
use Rattle.ruled_io.specs.declared.formats.Format.TheVariants.{Separated, Json as OneText, JsonLines}
use Rattle.ruled_io.specs.declared.formats.Known.{Known}
use Rattle.ruled_io.specs.declared.request.FurtherInput.{FurtherInput}
use Rattle.ruled_io.specs.declared.request.Request.{Request}
use Rattle.ruled_io.specs.declared.request.Selection.{Selection}
use Rattle.ruled_io.specs.declared.request.Selection.TheVariants.{Query, Table, Tables}
use Rattle.ruled_io.specs.declared.request.Source.{Source}
use Rattle.ruled_io.specs.declared.request.Source.TheVariants as origin
use Rattle.ruled_io.proofs.Inputs.{unmapped, joined-alone}
use Rattle.ruled_io.proofs.Tables.{all-read}

-- ---- lines of JSON that are streamed, against all of them at once

-- ---- lines

-- the records on one line more
more-records : (rules : Rules) (above : List (List ℕ)) (line : List ℕ) → records_on rules (above ++ line ∷ []) ≡ records_on rules above ++ cons_option (record_on rules line) []
more-records rules above line = filter_map-append (record_on rules) above (line ∷ [])

pub both-none : {X : Type 0} (first second : Option X) → option_or first second ≡ None → (first ≡ None) × (second ≡ None)
both-none None second e = (refl, e)
both-none (Some x) second e = absurd (cc)

-- where nothing is wrong, no line is left out
all-lines : (k : LineRules) (above lines : List (List ℕ)) → first_fault_behind k above lines ≡ None → lines_above_fault k above lines ≡ above ++ lines
all-lines k above [] none = sym (append-nil above)
all-lines k above (line ∷ lines) none =
    let parts = both-none (fault_behind k above line) (first_fault_behind k (above ++ line ∷ []) lines) none in
    rw parts.0 (all-lines k (above ++ line ∷ []) lines parts.1 ∙ append_assoc above (line ∷ []) lines)

-- and no line is bad for itself
lines-fine : (k : LineRules) (above lines : List (List ℕ)) → first_fault_behind k above lines ≡ None → first_line_fault (number_behind above) lines ≡ None
lines-fine k above [] none = refl
lines-fine k above (line ∷ lines) none =
    let (here, later) = both-none (fault_behind k above line) (first_fault_behind k (above ++ line ∷ []) lines) none in
    let (fine, named) = both-none (line_fault (number_behind above) line) (option_and_then (late_fault k (records_on k.members above) (number_behind above)) (record_on k.members line)) here in
    let next : first_line_fault (line_after (number_behind above) line) lines ≡ None =
    ap (λ (n : ℕ). first_line_fault n lines) (sym (fold-append line_after 1 above (line ∷ []))) ∙ lines-fine k (above ++ line ∷ []) lines later in
    rw (fine, next) refl

-- ---- columns

-- names that are columns add none
known-names : (columns names : List (List ℕ)) → list_all (λ name. list_any (bytes_eq name) columns) names ≡ true → fold with_name columns names ≡ columns
known-names columns [] all = refl
known-names columns (name ∷ names) all =
    let (here, later) = and_parts (list_any (bytes_eq name) columns) (list_all (λ n. list_any (bytes_eq n) columns) names) all in
    let same : with_name columns name ≡ columns = rw here refl in
    ap (λ (c : List (List ℕ)). fold with_name c names) same ∙ known-names columns names later

more-columns : (above : List Json) (v : Json) → columns_of (above ++ v ∷ []) ≡ fold with_name (columns_of above) (names_in v)
more-columns above v =
    ap (fold with_name []) (flat_map-append names_in above (v ∷ [])) ∙ fold-append with_name [] (flat_map names_in above) (flat_map names_in (v ∷ []))
    ∙ ap (fold with_name (columns_of above)) (append-nil (names_in v))

-- the first records say all columns
abbrev SayAll : LineRules → List Json → Type 0
SayAll k records = first_columns k records ≡ columns_of records

above-none : (n : ℕ) → (n == 0) ≡ false → 0 < n
above-none zero e = absurd (true≢false e)
above-none (suc n) e = omega arith

flipped : (named : Bool) (fault : JsonFault) → (if (true && not named) then Some fault else None) ≡ None → named ≡ true
flipped true fault none = refl
flipped false fault none = absurd (cc)

-- so they do with one more, where nothing is wrong with it
one-more : (k : LineRules) (n : ℕ) (above : List Json) (v : Json) → late_fault k above n v ≡ None → SayAll k above → SayAll k (above ++ v ∷ [])
one-more k n above v none all = elim (cases_Bool (left_of k above == 0)) [
  | inl known ↦
      let left : left_of k above ≡ 0 = eqb-true (left_of k above) 0 known in
      let first : first_columns k (above ++ v ∷ []) ≡ first_columns k above = ap columns_of (take-append-le k.records above (v ∷ []) (omega arith)) in
      let wrong = λ (b : Bool). if b && not (has_all (first_columns k above) v) then Some (NoColumn (Line n)) else None in
      let named : has_all (first_columns k above) v ≡ true = flipped (has_all (first_columns k above) v) (NoColumn (Line n)) (ap wrong (sym known) ∙ none) in
      first ∙ sym (more-columns above v ∙ ap (λ (c : List (List ℕ)). fold with_name c (names_in v)) (sym all) ∙ known-names (first_columns k above) (names_in v) named)
  | inr some ↦ ap columns_of (take_all k.records (above ++ v ∷ []) (omega (arith, above-none (left_of k above) some, length-append above (v ∷ []))))
]

line-more : (k : LineRules) (above : List (List ℕ)) (line : List ℕ) (found : Option Json) → found ≡ record_on k.members line → fault_behind k above line ≡ None → SayAll k (records_on k.members above)
    → SayAll k (records_on k.members above ++ cons_option found [])
line-more k above line None is fine all = subst (SayAll k) (sym (append-nil (records_on k.members above))) all
line-more k above line (Some v) is fine all =
    let n : ℕ = number_behind above in
    let (own, named) = both-none (line_fault n line) (option_and_then (late_fault k (records_on k.members above) n) (record_on k.members line)) fine in
    one-more k n (records_on k.members above) v (ap (option_and_then (late_fault k (records_on k.members above) n)) is ∙ named) all

say-all : (k : LineRules) (above lines : List (List ℕ)) → first_fault_behind k above lines ≡ None → SayAll k (records_on k.members above) → SayAll k (records_on k.members (above ++ lines))
say-all k above [] none all = subst (λ (ls : List (List ℕ)). SayAll k (records_on k.members ls)) (sym (append-nil above)) all
say-all k above (line ∷ lines) none all =
    let (here, later) = both-none (fault_behind k above line) (first_fault_behind k (above ++ line ∷ []) lines) none in
    let next : SayAll k (records_on k.members (above ++ line ∷ [])) = subst (SayAll k) (sym (more-records k.members above line)) (line-more k above line (record_on k.members line) refl here all) in
    subst (λ (ls : List (List ℕ)). SayAll k (records_on k.members ls)) (append_assoc above (line ∷ []) lines) (say-all k (above ++ line ∷ []) lines later next)

-- ---- where nothing is wrong with a stream

pub fine-at-once : (k : LineRules) (bytes : List ℕ) → streamed_line_fault k bytes ≡ None → line_rows_fault (strip_bom bytes) ≡ None
unfolding streamed_line_fault line_rows_fault
fine-at-once k bytes none = lines-fine k [] (lines_of (strip_bom bytes)) none

pub rows-at-once : (k : LineRules) (bytes : List ℕ) → streamed_line_fault k bytes ≡ None → sound_line_rows k bytes ≡ line_rows_of k.members (strip_bom bytes)
unfolding streamed_line_fault sound_line_rows line_rows_of
rows-at-once k bytes none =
    let lines : List (List ℕ) = lines_of (strip_bom bytes) in
    ap (λ (ls : List (List ℕ)). streamed_table k (records_on k.members ls)) (all-lines k [] lines none)
    ∙ ap (λ (columns : List (List ℕ)). table_in k.members.null_text columns (records_on k.members lines)) (say-all k [] lines none (ap columns_of (take_all k.records [] (omega arith))))

-- ---- records without names

or-none : {X : Type 0} (found : Option X) → option_or found None ≡ found
or-none None = refl
or-none (Some x) = refl

neither : (b : Bool) (fault : JsonFault) → (if b && false then Some fault else None) ≡ None
neither true fault = refl
neither false fault = refl

nameless : (k : LineRules) (n : ℕ) (above : List Json) (v : Json) → names_in v ≡ [] → late_fault k above n v ≡ None
nameless k n above v none =
    let named : has_all (first_columns k above) v ≡ true = ap (list_all (λ name. list_any (bytes_eq name) (first_columns k above))) none in
    ap (λ (b : Bool). if (left_of k above == 0) && not b then Some (NoColumn (Line n)) else None) named ∙ neither (left_of k above == 0) (NoColumn (Line n))

nameless-line : (k : LineRules) (above : List (List ℕ)) (line : List ℕ) (found : Option Json) → found ≡ record_on k.members line → flat_map names_in (cons_option found []) ≡ []
    → fault_behind k above line ≡ line_fault (number_behind above) line
nameless-line k above line None is none =
    ap (λ (v : Option Json). option_or (line_fault (number_behind above) line) (option_and_then (late_fault k (records_on k.members above) (number_behind above)) v)) (sym is)
    ∙ or-none (line_fault (number_behind above) line)
nameless-line k above line (Some v) is none =
    ap (λ (w : Option Json). option_or (line_fault (number_behind above) line) (option_and_then (late_fault k (records_on k.members above) (number_behind above)) w)) (sym is)
    ∙ ap (option_or (line_fault (number_behind above) line)) (nameless k (number_behind above) (records_on k.members above) v (sym (append-nil (names_in v)) ∙ none))
    ∙ or-none (line_fault (number_behind above) line)

both-nil : {X : Type 0} (xs ys : List X) → xs ++ ys ≡ [] → (xs ≡ []) × (ys ≡ [])
both-nil [] ys e = (refl, e)
both-nil (x ∷ xs) ys e = absurd (cc)

split-names : (found : Option Json) (records : List Json) → flat_map names_in (cons_option found records) ≡ []
    → (flat_map names_in (cons_option found []) ≡ []) × (flat_map names_in records ≡ [])
split-names None records none = (refl, none)
split-names (Some v) records none = let (here, later) = both-nil (names_in v) (flat_map names_in records) none in (append-nil (names_in v) ∙ here, later)

nameless-lines : (k : LineRules) (above lines : List (List ℕ)) → flat_map names_in (records_on k.members lines) ≡ [] → first_fault_behind k above lines ≡ first_line_fault (number_behind above) lines
nameless-lines k above [] none = refl
nameless-lines k above (line ∷ lines) none =
    let (here, later) = split-names (record_on k.members line) (records_on k.members lines) none in
    ap (λ (f : Option JsonFault). option_or f (first_fault_behind k (above ++ line ∷ []) lines)) (nameless-line k above line (record_on k.members line) refl here)
    ∙ ap (option_or (line_fault (number_behind above) line))
    (nameless-lines k (above ++ line ∷ []) lines later ∙ ap (λ (n : ℕ). first_line_fault n lines) (fold-append line_after 1 above (line ∷ [])))

-- columns only grow
with-more : (columns : List (List ℕ)) (name : List ℕ) → length columns ≤ length (with_name columns name)
with-more columns name = elim (cases_Bool (list_any (bytes_eq name) columns)) [
  | inl there ↦ rw there (omega arith)
  | inr absent ↦ rw absent (omega (arith, length-append columns (name ∷ [])))
]

only-more : (columns names : List (List ℕ)) → length columns ≤ length (fold with_name columns names)
only-more columns [] = omega arith
only-more columns (name ∷ names) = omega (arith, with-more columns name, only-more (with_name columns name) names)

no-names : (names : List (List ℕ)) → length (fold with_name [] names) ≡ 0 → names ≡ []
no-names [] none = refl
no-names (name ∷ names) none = absurd (omega (arith, only-more (name ∷ []) names))

-- ---- where no more records are there than say columns, or no column

-- the same is wrong as at once
pub same-fault : (k : LineRules) (bytes : List ℕ) → length (line_rows_of k.members (strip_bom bytes)) ≤ k.records + 1 → streamed_line_fault k bytes ≡ line_rows_fault (strip_bom bytes)
unfolding line_rows_fault line_rows_of streamed_line_fault
same-fault k bytes few =
    let records : List Json = records_on k.members (lines_of (strip_bom bytes)) in
    elim (cases_Bool (length (columns_of records) == 0)) [
      | inl no-column ↦ nameless-lines k [] (lines_of (strip_bom bytes)) (no-names (flat_map names_in records) (eqb-true (length (columns_of records)) 0 no-column))
      | inr some ↦
          let all : length (table_of k.members.null_text records) ≡ length (columns_of records ∷ map (row_of k.members.null_text (columns_of records)) records) =
          ap (λ (b : Bool). length (if b then [] else columns_of records ∷ map (row_of k.members.null_text (columns_of records)) records)) some in
          fault-as-at-once k bytes (omega (arith, all, length-map records (row_of k.members.null_text (columns_of records))))
    ]

-- ---- a run at once, and a stream

-- ---- the rows of a format

-- where nothing is wrong with a stream, its rows are those at once
same-rows : (records : LineRules) (bytes : List ℕ) (format : Format) → wrong_in format records bytes ≡ None
    → (format_fault records.members format bytes ≡ None) × (sound_rows format records bytes ≡ rows_of records.members format bytes)
same-rows records bytes (Separated dialect) none = (none, all-sound dialect bytes (unmapped fault_of_rows (rows_fault dialect bytes) none))
same-rows records bytes OneText none = absurd (cc)
same-rows records bytes JsonLines none =
    let fine : streamed_line_fault records bytes ≡ None = unmapped fault_of_json (streamed_line_fault records bytes) none in
    (ap (option_map fault_of_json) (fine-at-once records bytes fine), rows-at-once records bytes fine)

-- where the first rows are all, the same is wrong
same-wrong : (options : Options) (count : ℕ) (members : Rules) (bytes : List ℕ) (format : Format) → format ≢ OneText → length (rows_of members format bytes) ≤ first_count options format count
    → wrong_in format (line_rules count members) bytes ≡ format_fault members format bytes
same-wrong options count members bytes (Separated dialect) lines few = refl
same-wrong options count members bytes OneText lines few = absurd (lines refl)
same-wrong options count members bytes JsonLines lines few = ap (option_map fault_of_json) (same-fault (line_rules count members) bytes (omega arith))

-- ---- their table

-- what is wrong with the table of first rows, if there are any
abbrev some_fault : Options → List (List Text) → Option RunFault
some_fault options rows = if length rows == 0 then None else option_map of_view (first_fault options rows)

not-none : (n : ℕ) → (suc n == 0) ≡ false
not-none n = grind (arith, nat_tests)

once : {X : Type 0} (first second third : Option X) → option_or (option_or first second) third ≡ option_or first (option_or (option_or first second) third)
once None second third = refl
once (Some x) second third = refl

whole-wrong : (options : Options) (rows : List (List Text)) → some_fault options rows ≡ option_map of_view (option_or (column_fault options.columns.items rows) (whole_fault options rows))
whole-wrong options [] = refl
whole-wrong options (row ∷ rows) =
    ap (λ (none : Bool). if none then None else option_map of_view (first_fault options (row ∷ rows))) (not-none (length rows))
    ∙ ap (option_map of_view) (once (column_fault options.columns.items (row ∷ rows)) _ (start_fault (layout_of options (row ∷ rows))))

none-named : (names : List Text) (rows : List (List Text)) → names ≡ [] → named names rows ≡ rows
none-named [] rows none = refl
none-named (name ∷ names) rows none = absurd (cc)

module _ (options : Options) (each : ShowsEachRow options) where
  same-arranged : (rows : List (List Text)) → arranged options rows ≡ rows
  same-arranged rows =
      ap (λ (rs : List (List Text)). numbered options (sorted_by_word options options.sort (even options rs))) (none-named (map string_bytes options.names.items) rows (ap (map string_bytes) each.names))
      ∙ rw (each.padded, each.unsorted, each.numbered) refl

  -- no field has a colour, whether its row is known or not
  no-tint : options.is_colored ≡ true → (place : Option ℕ) (row : Option (List Text)) → option_and_then (λ fields. field_tint options place (drawn_at fields place)) row ≡ None
  no-tint colored place None = refl
  no-tint colored place (Some fields) =
      let plain : options.is_tinted ≡ false = rw colored at each.untinted in
      rw plain refl

  same-tint : (is_name : Bool) (place : Option ℕ) (row other : Option (List Text)) → tint_of options is_name place row ≡ tint_of options is_name place other
  same-tint is_name place row other = elim (cases_Bool options.is_colored) [
    | inl colored ↦ ap (λ (tint : Option Tint). if not options.is_colored then None else if is_name then Some Bold else tint) (no-tint colored place row ∙ sym (no-tint colored place other))
    | inr plain ↦ rw plain refl
  ]

  same-colors : (rows : List (List Text)) (plan : Plan) → colored options [] plan ≡ colored options rows plan
  same-colors rows plan =
      let same : color_at options plan.places [] ≡ color_at options plan.places rows =
      fun_ext (λ p. ap (option_map color_of) (same-tint (options.has_header && (p.row == 0)) (slice_index_or plan.places p.col None) (slice_get [] p.row) (slice_get rows p.row)))
      in
      ap (λ (color : Position → Option Color). with_colors color plan) same

  module _ (count : ℕ) (rows : List (List Text)) (few : length rows ≤ count) where
    all-first : take count rows ≡ rows
    all-first = take_all count rows few

    one-wrong : first_wrong options count rows None ≡ option_map of_view (table_fault options rows)
    one-wrong =
        let whole : table_fault options rows ≡ option_or (column_fault options.columns.items rows) (whole_fault options rows) =
        ap (λ (sort : Option Sort). option_or (option_or (sort_fault_by sort (leveled options rows)) (column_fault options.columns.items (arranged options rows))) (all_fault options (chosen_rows options rows))) each.unsorted
        ∙ ap (λ (rs : List (List Text)). option_or (column_fault options.columns.items rs) (all_fault options (ends_of options.ends (tails options (heads options rs))))) (same-arranged rows)
        ∙ rw (each.head, each.tail, each.ends, each.vertical) refl
        in
        ap (λ (first : List (List Text)). if length rows == 0 then None else option_map of_view (first_fault options first)) all-first
        ∙ whole-wrong options rows ∙ sym (ap (option_map of_view) whole)

    table-fine : first_wrong options count rows None ≡ None → table_fault options rows ≡ None
    table-fine none = unmapped of_view (table_fault options rows) (sym one-wrong ∙ none)

    one-text : first_wrong options count rows None ≡ None → shown_text options count rows None ≡ table_text options rows
    one-text none =
        let whole : table_text options rows ≡ whole_table options rows =
        ap (λ (t : Text). all_text options (chosen_rows options rows) ++ t) (rw each.uncounted refl)
        ∙ append-nil (all_text options (chosen_rows options rows))
        ∙ ap (λ (rs : List (List Text)). all_text options (ends_of options.ends (tails options (heads options rs)))) (same-arranged rows)
        ∙ rw (each.head, each.tail, each.ends, each.vertical) refl
        in
        ap (λ (wrong : Option RunFault). if is_some wrong then [] else whole_text options (first_plan options count rows None) rows) none
        ∙ ap (λ (first : List (List Text)). whole_text options (colored options [] (layout_of options first)) rows) all-first
        ∙ ap (λ (plan : Plan). whole_text options plan rows) (same-colors rows (layout_of options rows)) ∙ sym whole

-- ---- an input

module _ (request : Request) (count : ℕ) (bytes : List ℕ) (all : AllAreFirst request count bytes) where
  abbrev known : Known
  known = format_told request.source

  abbrev members : Rules
  members = members_of request.source

  abbrev rules : LineRules
  rules = line_rules count members

  abbrev format : Format
  format = streamed_format request count bytes

  abbrev content : List ℕ
  content = content_of format bytes

  abbrev first : ℕ
  first = streamed_count request count bytes

  -- all of its rows are needed, and are those of the table
  all-needed : rows_needed request ≡ None
  all-needed = rw (all.alone, all.options.padded, all.options.unsorted, all.options.head) refl

  alone : (rows : List (List Text)) → joined request.view request.further.items rows ≡ rows
  alone rows = ap (λ (inputs : List FurtherInput). joined_rows request.view (rows ∷ map rows_held inputs)) all.alone ∙ joined-alone request.view rows

  fine-alone : (rows : List (List Text)) → further_fault request.view request.further.items rows ≡ None
  fine-alone rows = ap (fault_from request.view (rows_of_all request.further.items rows) 0) all.alone

  -- the stream of rows that are shown at once
  module _ (rows : List (List Text)) (few : length rows ≤ first) where
    pub at-once-shown : (text : Text) → AreRows None request.source bytes rows → first_wrong request.view first rows None ≡ None → text ≡ shown_text request.view first rows None → ShowsAll request bytes text
    at-once-shown text are right is = (
      rows,
      (rows, subst (λ (limit : Option ℕ). AreRows limit request.source bytes rows) (sym all-needed) are, fine-alone rows, sym (alone rows)),
      table-fine request.view all.options first rows few right,
      is ∙ one-text request.view all.options first rows few right,
    )

    pub stream-shown : (text : Text) → AreStreamed request count bytes rows None → table_fault request.view rows ≡ None → text ≡ table_text request.view rows → StreamsText request count bytes text
    stream-shown text are fine is =
        let right : first_wrong request.view first rows None ≡ None = one-wrong request.view all.options first rows few ∙ ap (option_map of_view) fine in
        (rows, are, right, is ∙ sym (one-text request.view all.options first rows few right))

  -- the rows that are shown at once
  own-rows : (rows : List (List Text)) → AreJoined request bytes rows → AreRows None request.source bytes rows
  own-rows rows (own, needed, others, joins) =
      let owned : own ≡ rows = sym (joins ∙ alone own) in
      subst (λ (rs : List (List Text)). AreRows None request.source bytes rs) owned (subst (λ (limit : Option ℕ). AreRows limit request.source bytes own) all-needed needed)

  -- ---- an input in a format

  module _ (none : holds_database request.source bytes ≡ false) where
    in-format : AreFirstAs request count bytes false
    in-format = subst (AreFirstAs request count bytes) none all.rows

    -- both ways read it in one format
    format-fault : input_fault None members known bytes ≡ format_fault members format content
    format-fault = ap (λ (f : Format). format_fault members f (content_of f bytes)) in-format.1

    format-rows : rows_in None members known bytes ≡ rows_of members format content
    format-rows = ap (λ (f : Format). rows_of members f (content_of f bytes)) in-format.1

    -- the rows of a stream
    streamed : (rows : List (List Text)) (wrong : Option InputFault) → AreStreamed request count bytes rows wrong → (rows ≡ sound_rows format rules content) × (wrong ≡ wrong_in format rules content)
    streamed rows wrong are = subst (λ (b : Bool). AreStreamedAs request count bytes b rows wrong) none are

    -- where nothing is wrong they are all
    rows-same : (rows : List (List Text)) → AreStreamed request count bytes rows None → AreRows None request.source bytes rows × (rows ≡ rows_in None members known bytes)
    rows-same rows are =
        let (is, fine) = streamed rows None are in
        let (right, same) = same-rows rules content format (sym fine) in
        let these : rows ≡ rows_in None members known bytes = is ∙ same ∙ sym format-rows in
        (subst (λ (b : Bool). AreRowsAs None b request.source bytes rows) (sym none) (format-fault ∙ right, these), these)

    few : (rows : List (List Text)) → rows ≡ rows_in None members known bytes → length rows ≤ first
    few rows are = subst (λ (n : ℕ). n ≤ first) (ap length (sym are)) in-format.0

    wrong-is : format ≢ OneText → wrong_in format rules content ≡ input_fault None members known bytes
    wrong-is lines =
        let many : first ≡ first_count request.view format count = ap (λ (b : Bool). if b then named_count count else first_count request.view format count) none in
        let short : length (rows_of members format content) ≤ first_count request.view format count = subst (λ (n : ℕ). length (rows_of members format content) ≤ n) many (few (rows_of members format content) (sym format-rows)) in
        same-wrong request.view count members content format lines short ∙ sym format-fault

    pub format-at-once : (text : Text) → StreamsText request count bytes text → ShowsAll request bytes text
    format-at-once text (rows, are, right, is) =
        let (these, same) = rows-same rows are in
        at-once-shown rows (few rows same) text these right is

    pub format-streams : format ≢ OneText → (text : Text) → ShowsAll request bytes text → StreamsText request count bytes text
    format-streams lines text (rows, joins, fine, is) =
        let are : AreRowsAs None false request.source bytes rows = subst (λ (holds : Bool). AreRowsAs None holds request.source bytes rows) none (own-rows rows joins) in
        let sound : rows ≡ sound_rows format rules content =
        let (right, same) = same-rows rules content format (wrong-is lines ∙ are.0) in are.1 ∙ format-rows ∙ sym same in
        stream-shown rows (few rows are.1) text (subst (λ (b : Bool). AreStreamedAs request count bytes b rows None) (sym none) (sound, sym (wrong-is lines ∙ are.0))) fine is

    pub format-fails : format ≢ OneText → (rows : List (List Text)) (wrong : Option InputFault) → AreStreamed request count bytes rows wrong
        → (wrong ≡ input_fault None members known bytes) × (wrong ≡ None → first_wrong request.view first rows wrong ≡ option_map of_view (table_fault request.view rows))
    format-fails lines rows wrong are = (
      (streamed rows wrong are).1 ∙ wrong-is lines,
      λ fine.
          let (these, same) = rows-same rows (subst (AreStreamed request count bytes rows) fine are) in
          ap (first_wrong request.view first rows) fine ∙ one-wrong request.view all.options first rows (few rows same),
    )

  -- ---- a table of a database

  module _ (holds : holds_database request.source bytes ≡ true) where
    asked-few : (rows : List (List Text)) → AreAsked None request.source bytes rows → length rows ≤ first
    asked-few = subst (AreFirstAs request count bytes) holds all.rows

    stored-as : (asked : Option Selection) → selection_of request.source ≡ asked → (rows : List (List Text)) → AreOfDatabase request count bytes asked rows None → AreAsked None request.source bytes rows
    stored-as None is rows (none, fine) = absurd (cc)
    stored-as (Some (Query query)) is rows (none, fine) = absurd (cc)
    stored-as (Some Tables) is rows (none, fine) = absurd (cc)
    stored-as (Some (Table name null_text)) is rows are = shows (hides_rows (log_of request.source) bytes) refl are where
      shows : (hides : Bool) → hides_rows (log_of request.source) bytes ≡ hides → AreOfTable request count bytes hides (string_bytes name) (string_bytes null_text) rows None → AreAsked None request.source bytes rows
      shows true told (none, fine) = absurd (cc)
      shows false told here = (told, subst (λ (it : Option Selection). AreSelected None it bytes rows) (sym is) (all-read bytes (string_bytes name) (string_bytes null_text) rows here))

    pub stored-at-once : (text : Text) → StreamsText request count bytes text → ShowsAll request bytes text
    stored-at-once text (rows, are, right, is) =
        let asked : AreAsked None request.source bytes rows = stored-as (selection_of request.source) refl rows (subst (λ (b : Bool). AreStreamedAs request count bytes b rows None) holds are) in
        at-once-shown rows (asked-few rows asked) text (subst (λ (b : Bool). AreRowsAs None b request.source bytes rows) (sym holds) asked) right is

    of-database : (rows : List (List Text)) → AreAsked None request.source bytes rows → (asked : Option Selection) → selection_of request.source ≡ asked → AsksTable asked → AreOfDatabase request count bytes asked rows None
    of-database rows are None is asks = absurd asks
    of-database rows are (Some (Query query)) is asks = absurd asks
    of-database rows are (Some Tables) is asks = absurd asks
    of-database rows are (Some (Table name null_text)) is asks =
        let table : AreTable None bytes (string_bytes name) (string_bytes null_text) rows = subst (λ (it : Option Selection). AreSelected None it bytes rows) is are.1 in
        subst (λ (b : Bool). AreOfTable request count bytes b (string_bytes name) (string_bytes null_text) rows None) (sym are.0) (None, refl, table)

    pub stored-streams : AsksTable (selection_of request.source) → (text : Text) → ShowsAll request bytes text → StreamsText request count bytes text
    stored-streams asks text (rows, joins, fine, shown) =
        let asked : AreAsked None request.source bytes rows = subst (λ (b : Bool). AreRowsAs None b request.source bytes rows) holds (own-rows rows joins) in
        let are = of-database rows asked (selection_of request.source) refl asks in
        stream-shown rows (asked-few rows asked) text (subst (λ (b : Bool). AreStreamedAs request count bytes b rows None) (sym holds) are) fine shown

pub streams_as_at_once : StreamsShowAsAtOnce
streams_as_at_once request count bytes text all shown = elim (cases_Bool (holds_database request.source bytes)) [
  | inl holds ↦ stored-at-once request count bytes all holds text shown
  | inr none ↦ format-at-once request count bytes all none text shown
]

-- a table is asked of a database
asks-database : (source : Source) (bytes : List ℕ) → AsksTable (selection_of source) → holds_database source bytes ≡ true
asks-database (origin.Rows format) bytes asks = absurd asks
asks-database (origin.Members format members) bytes asks = absurd asks
asks-database (origin.Values rules) bytes asks = absurd asks
asks-database (origin.Seen log rules members) bytes asks = absurd asks
asks-database (origin.Database selection log) bytes asks = refl

pub at_once_as_streams : AtOnceShowsAsStreams
at_once_as_streams request count bytes text all (inl (none, lines)) shown = format-streams request count bytes all none lines text shown
at_once_as_streams request count bytes text all (inr asks) shown = stored-streams request count bytes all (asks-database request.source bytes asks) asks text shown

pub one_fault : BothWaysFindOneFault
one_fault request count bytes rows wrong all (none, lines) are = format-fails request count bytes all none lines rows wrong are

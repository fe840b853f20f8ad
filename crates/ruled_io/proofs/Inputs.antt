-- What is read of an input before its rows, and its first rows.
use Rattle.std.proofs.Common.{◌≡◌, ◌∙◌, ◌<◌, ◌+◌, ◌-◌, ◌^◌, ℕ, Bool, true, false, List, [], ◌++◌, Option, Some, None, Result, Ok, Err, min, inl, inr, refl, sym, ap, subst, append-nil}
use Rattle.std.proofs.Common.{arith, ◌&&◌, ◌⊎◌, length, length-take, map, take, nat_lt, append_assoc, ◌≤◌, ◌==◌, ◌||◌, suc, ◌∷◌, drop, get_or, length-drop}
use Rattle.std.proofs.Common.{Global, String, string_bytes, option_map}
use Rattle.std.specs.Prelude.{◌==◌, IfOk, IfSome, IfErr, is_some, option_map, unwrap_or, if◌then◌else◌, string_bytes, String}
use Rattle.std.specs.Io.KnownBytes.{Consumes, IsAtEnd}
use Rattle.std.specs.Result.{IsErrAnd}
use Rattle.std.proofs.KnownBytes.{Consumes-trans, Consumes-all, Consumes-nil}
use Rattle.std.proofs.lemmas.List.{append_cancel_left, take_all, map-append, map_more, nil_from_length, take-append-drop}
use Rattle.ruled_json.specs.Rows.{Rules}
use Rattle.ruled_json.specs.Streamed.{LineRules}
use Rattle.ruled_csv.specs.Faults as csv
use Rattle.ruled_database.specs.Listings.{LacksTable}
use Rattle.ruled_database.specs.declared.fault.DatabaseFault.{DatabaseFault}
use Rattle.ruled_csv.proofs.TextFaults.{all-sound}
use Rattle.std.proofs.lemmas.Bool.{cases_Bool, lt-ltb, true≢false, false≢true}
use Rattle.pg_layout.specs.Text.{Text}
use Rattle.ruled_table.specs.declared.options.Options.{Options}
use Rattle.csv.specs.Reading.{strip_bom}
use Rattle.ruled_io.specs.Formats.{content_of, format_shown, format_streamed, is_database, format_in, format_of_all, is_one_value, is_separated}
use Rattle.ruled_io.specs.Reading.{BeginsSo, GoesOn, GoesTo, HoldsOn, IsTable, ReadsFront, ShowsFormat, ShowsInput, ShowsSource, Stands, sound_rows, wrong_in}
use Rattle.ruled_io.specs.Requests.{format_told, hides_rows, holds_database, log_of, members_of, is_ragged, selection_of}
use Rattle.ruled_io.specs.Stream.{AreOfDatabase, AreOfTable, AreStreamed, AreStreamedAs, Ends, EndsOf, StreamsAll, first_count, has_names, line_rules, named_count, record_count}
use Rattle.ruled_io.specs.Stream.{streamed_count, AreFirst, IsEnough, LacksFirst, fault_of_first, limit_of_whole, plain_lines, wrong_within, beneath}
use Rattle.ruled_io.specs.declared.fault.InputFault.TheVariants.{Log, Stream, Memory}
use Rattle.ruled_io.specs.declared.fault.RunFault.{RunFault}
use Rattle.ruled_io.specs.declared.fault.RunFault.TheVariants.{Input, Read, Closed, Write}
use Rattle.ruled_io.specs.declared.fault.StreamedFault.TheVariants.{Database}
use Rattle.ruled_io.specs.declared.formats.Format.{Format}
use Rattle.ruled_io.specs.declared.formats.Format.TheVariants.{Separated, Json, JsonLines}
use Rattle.ruled_io.specs.declared.formats.Known.{Known}
use Rattle.ruled_io.specs.declared.program.Remarks.{Remarks}
use Rattle.ruled_io.specs.declared.reader.Reading.{Reading}
use Rattle.ruled_io.specs.declared.request.Request.{Request}
use Rattle.ruled_io.specs.declared.request.Selection.{Selection}
use Rattle.ruled_io.specs.declared.request.Selection.TheVariants.{Query as Select, Table as Asked, Tables}
use Rattle.ruled_io.specs.declared.request.Source.{Source}
use Rattle.ruled_io.specs.declared.request.Source.TheVariants as source
use Rattle.ruled_io.proofs.Causes.{of-read}
use Rattle.ruled_io.proofs.Shows.{above-none, failed-ends, wrong-ends, first-rows, open-rows, short-rows}
use Rattle.ruled_io.proofs.Fronts.{stands-to}
use Rattle.ruled_io.proofs.Tables.{database-line, none-read, drop-next}
use Rattle.ruled_csv.specs.declared.dialect.Dialect.{Dialect}
use Rattle.ruled_io.specs.Faults.{IsOfRead, but_line_in, fault_of_database, fault_of_rows, is_failure, is_memory, but_line_further, of_further}
use Rattle.ruled_io.specs.Input.{fault_within, input_fault, rows_within, fault_from, fault_held, fault_read, further_fault, further_table, joined, joined_rows, members_in, misfit}
use Rattle.ruled_io.specs.Input.{names_columns, queried_fault, rows_held, rows_of_all, tables_fault}
use Rattle.ruled_io.specs.Runs.{AreRows, AreRowsAs, LacksInput, LacksRowsAs}
use Rattle.ruled_io.specs.declared.fault.InputFault.{InputFault}
use Rattle.ruled_io.specs.declared.formats.Known.TheVariants as known
use Rattle.std.specs.Cmp.Lexicographic.{pointwise, pointwise_decides}
use Rattle.std.specs.List.{flat_map}
use Rattle.std.specs.Option.{option_or}
use Rattle.std.specs.Str.{bytes_eq}
use Rattle.std.proofs.Math.Seq.{take-suc}
use Rattle.std.proofs.lemmas.Grind.{flat_map-append}
use Rattle.std.proofs.lemmas.Bool.Decides.{Decides-eqb}
use Rattle.std.proofs.lemmas.Slice.Eq.{bytes_eq-Decides}
use Rattle.csv.specs.Records.{field_at}
use Rattle.ruled_io.specs.declared.request.Query.{Query}
use Rattle.ruled_io.specs.declared.request.QueryTable.{QueryTable}
use Rattle.ruled_sql.specs.Filled.{Table, table_of}
use Rattle.ruled_sql.specs.declared.filled.NamedRows.{NamedRows}
use Rattle.ruled_io.specs.declared.fault.FurtherFault.{FurtherFault}
use Rattle.ruled_io.specs.declared.fault.FurtherFault.TheVariants.{Header, Length}
use Rattle.ruled_io.specs.declared.request.FurtherInput.{FurtherInput}
use Rattle.ruled_io.specs.declared.fault.InputFault.TheVariants as found

-- ---- what is read of an input before its rows

-- ---- the first bytes

pub took-none : (given mid left : Option (List ℕ)) (front piece : List ℕ) → Consumes given mid front → Consumes mid left piece → piece ≡ [] → Consumes given left front
took-none given mid left front piece took more none = subst (Consumes given left) (ap (λ (xs : List ℕ). front ++ xs) none ∙ append-nil front) (Consumes-trans given mid left front piece took more)

pub took-more : (given mid left : Option (List ℕ)) (front piece grown : List ℕ) → Consumes given mid front → Consumes mid left piece → grown ≡ front ++ piece → Consumes given left grown
took-more given mid left front piece grown took more is = subst (Consumes given left) (sym is) (Consumes-trans given mid left front piece took more)

pub shown-front : (given_format : Known) (given left : Option (List ℕ)) (front : List ℕ) → Consumes given left front → ((behind : List ℕ) → ShowsInput given_format front behind) → IfSome given (BeginsSo given_format front)
shown-front given_format None left front took shows = tt
shown-front given_format (Some all) None front took shows = absurd took
shown-front given_format (Some all) (Some rest) front took shows = (rest, took, shows rest)

-- all of it shows itself
content-whole : (format : Format) (bytes : List ℕ) → HoldsOn format bytes []
content-whole format bytes = ap (content_of format) (append-nil bytes) ∙ sym (append-nil (content_of format bytes))

shows-whole : (given_format : Known) (bytes : List ℕ) → ShowsInput given_format bytes []
shows-whole given_format bytes = record {
  database = ap is_database (append-nil bytes);
  rows = record { format = ap (λ (xs : List ℕ). format_shown given_format (strip_bom xs)) (append-nil bytes); content = content-whole (format_shown given_format (strip_bom bytes)) bytes };
}

pub shown-all : (given_format : Known) (given mid : Option (List ℕ)) (front : List ℕ) → Consumes given mid front → IsAtEnd mid → IfSome given (BeginsSo given_format front)
shown-all given_format None mid front took end = tt
shown-all given_format (Some all) None front took end = absurd took
shown-all given_format (Some all) (Some rest) front took end = ([], took ∙ ap (λ (xs : List ℕ). front ++ xs) end, shows-whole given_format front)

source-shows : (s : Source) (front behind : List ℕ) → ShowsInput (format_told s) front behind → ShowsSource s front behind
source-shows (source.Rows format) front behind shows = (refl, λ none. shows.rows)
source-shows (source.Members format members) front behind shows = (refl, λ none. shows.rows)
source-shows (source.Values rules) front behind shows = (refl, λ none. shows.rows)
source-shows (source.Seen log rules members) front behind shows = (shows.database, λ none. shows.rows)
source-shows (source.Database selection log) front behind shows = (refl, λ none. absurd (true≢false none))

-- its first bytes are read
pub front-seen : {V : Type 0} (items : V → List ℕ) (s : Source) (given left : Option (List ℕ)) (given_format : Known) (result : Result V RunFault) → given_format ≡ format_told s
    → IfOk result (λ front. Consumes given left (items front)) → IfOk result (λ front. IfSome given (BeginsSo given_format (items front))) → IfOk result (λ front. IfSome given (λ all. ReadsFront s all left (items front)))
front-seen items s given left given_format (Err fault) told took shows = tt
front-seen items s None left given_format (Ok front) told took shows = tt
front-seen items s (Some all) None given_format (Ok front) told took shows = absurd took
front-seen items s (Some all) (Some rest) given_format (Ok front) told took (behind, is, begins) =
    let same : rest ≡ behind = append_cancel_left (items front) rest behind (sym took ∙ is) in
    (behind, is, ap (λ (xs : List ℕ). Some xs) same, source-shows s (items front) behind (subst (λ (k : Known). ShowsInput k (items front) behind) told begins))

-- ---- rows

some-records : (count : ℕ) → 0 < record_count count
some-records count = elim (cases_Bool (count == 0)) [
  | inl none ↦ rw none (omega arith)
  | inr some ↦ rw some (above-none count some)
]

pub some-more : (n : ℕ) → 0 < min (n + 1) (2 ^ 64 - 1)
some-more n = omega arith

pub first-some : (options : Options) (format : Format) (count : ℕ) → 0 < first_count options format count
first-some options format count = elim (cases_Bool (has_names options format)) [
  | inl names ↦ rw names (some-more (record_count count))
  | inr others ↦ rw others (some-records count)
]

-- what is asked of a database, where it isn't streamed
module _ (request : Request) (count : ℕ) (bytes : List ℕ) (holds : holds_database request.source bytes ≡ true) where
  streamed-stored : (rows : List (List Text)) (wrong : Option InputFault) → AreOfDatabase request count bytes (selection_of request.source) rows wrong → AreStreamed request count bytes rows wrong
  streamed-stored rows wrong are = subst (λ (b : Bool). AreStreamedAs request count bytes b rows wrong) (sym holds) are

  -- so many of its rows are first
  stored-ends : (old new : Option (List ℕ)) (result : Result Remarks RunFault) (rows : List (List Text)) (wrong : Option InputFault) → AreOfDatabase request count bytes (selection_of request.source) rows wrong
      → Ends request.view (named_count count) rows wrong old new result → StreamsAll request count bytes old new result
  stored-ends old new result rows wrong are ends =
      let many : named_count count ≡ streamed_count request count bytes = sym (ap (λ (b : Bool). if b then named_count count else first_count request.view (format_streamed (format_told request.source) bytes) count) holds) in
      (rows, wrong, streamed-stored rows wrong are, subst (λ (n : ℕ). Ends request.view n rows wrong old new result) many ends)

  -- before any row is known something is wrong
  none-stored : (old : Option (List ℕ)) (fault : InputFault) (result : Result Remarks RunFault) → IsErrAnd result (λ found. found ≡ Input fault) → Some fault ≡ Some (but_line_in fault) → AreOfDatabase request count bytes (selection_of request.source) [] (Some fault)
      → StreamsAll request count bytes old old result
  none-stored old fault result is line are =
      stored-ends old old result [] (Some fault) are (wrong-ends request.view (named_count count) [] (Some fault) old fault result is (line, lt-ltb 0 (named_count count) (some-more (record_count count))))

  -- no table is asked
  database-ends : (old : Option (List ℕ)) (result : Result Remarks RunFault) → AreOfDatabase request count bytes (selection_of request.source) [] (Some (Stream Database)) → IsErrAnd result (λ found. found ≡ Input (Stream Database)) → StreamsAll request count bytes old old result
  database-ends old result are is = none-stored old (Stream Database) result is refl are

  -- the same by what is asked
  pub unasked-ends : (asked : Option Selection) → selection_of request.source ≡ asked → AreOfDatabase request count bytes asked [] (Some (Stream Database)) → (old : Option (List ℕ)) (result : Result Remarks RunFault)
      → IsErrAnd result (λ found. found ≡ Input (Stream Database)) → StreamsAll request count bytes old old result
  unasked-ends asked is are old result told = database-ends old result (subst (λ (it : Option Selection). AreOfDatabase request count bytes it [] (Some (Stream Database))) (sym is) are) told

  pub unasked-fails : (old : Option (List ℕ)) (found : RunFault) (result : Result Remarks RunFault) → IsErrAnd result (λ fault. fault ≡ found) → is_failure found ≡ true → AreOfDatabase request count bytes (selection_of request.source) [] (Some (Stream Database))
      → StreamsAll request count bytes old old result
  unasked-fails old found result is failed are = stored-ends old old result [] (Some (Stream Database)) are (failed-ends request.view (named_count count) [] (Some (Stream Database)) old found result is failed)

  module _ (name null_text : String Global) (asked : selection_of request.source ≡ Some (Asked name null_text)) where
    of-table : (hides : Bool) → hides_rows (log_of request.source) bytes ≡ hides → (rows : List (List Text)) (wrong : Option InputFault) → AreOfTable request count bytes hides (string_bytes name) (string_bytes null_text) rows wrong → AreOfDatabase request count bytes (selection_of request.source) rows wrong
    of-table hides is rows wrong are = subst (λ (it : Option Selection). AreOfDatabase request count bytes it rows wrong) (sym asked) (subst (λ (b : Bool). AreOfTable request count bytes b (string_bytes name) (string_bytes null_text) rows wrong) (sym is) are)

    -- its rows may be in a log
    pub log-ends : (old : Option (List ℕ)) (result : Result Remarks RunFault) → hides_rows (log_of request.source) bytes ≡ true → IsErrAnd result (λ found. found ≡ Input Log) → StreamsAll request count bytes old old result
    log-ends old result hides is = none-stored old Log result is refl (of-table true hides [] (Some Log) (refl, refl))

    -- its rows end so
    pub table-ends-so : (old new : Option (List ℕ)) (result : Result Remarks RunFault) → hides_rows (log_of request.source) bytes ≡ false
        → EndsOf request.view (named_count count) (IsTable bytes (string_bytes name) (string_bytes null_text)) old new result → StreamsAll request count bytes old new result
    table-ends-so old new result hides (rows, wrong, are, ends) = stored-ends old new result rows wrong (of-table false hides rows wrong are) ends

    -- a read failed, or memory was refused
    pub stored-fails : (old : Option (List ℕ)) (found : RunFault) (result : Result Remarks RunFault) → IsErrAnd result (λ fault. fault ≡ found) → is_failure found ≡ true → StreamsAll request count bytes old old result
    stored-fails old found result is failed = elim (cases_Bool (hides_rows (log_of request.source) bytes)) [
      | inl hides ↦ stored-ends old old result [] (Some Log) (of-table true hides [] (Some Log) (refl, refl)) (failed-ends request.view (named_count count) [] (Some Log) old found result is failed)
      | inr shows ↦
          stored-ends old old result [] (Some Memory) (of-table false shows [] (Some Memory) (none-read bytes (string_bytes name) (string_bytes null_text)))
          (failed-ends request.view (named_count count) [] (Some Memory) old found result is failed)
    ]

-- it isn't read
pub opened-none : (options : Options) (count : ℕ) (file name null_text : List ℕ) (old : Option (List ℕ)) (found : DatabaseFault) (told : InputFault) → told ≡ fault_of_database found → LacksTable (Some 1) file name null_text found
    → EndsOf options (named_count count) (IsTable file name null_text) old old (Err (Input told))
opened-none options count file name null_text old found told is lacks =
    let wrong : Option InputFault = Some (fault_of_database found) in
    let line : wrong ≡ Some (but_line_in told) = ap (λ (f : InputFault). Some f) (sym (ap but_line_in is ∙ database-line found)) in
    ([], wrong, (Some found, refl, inl (refl, lacks)), wrong-ends options (named_count count) [] wrong old told (Err (Input told)) refl (line, lt-ltb 0 (named_count count) (some-more (record_count count))))

-- memory or a read failed before its rows
pub unread-ends : (options : Options) (count : ℕ) (file name null_text : List ℕ) (old : Option (List ℕ)) (found : RunFault) (result : Result Remarks RunFault) → IsErrAnd result (λ fault. fault ≡ found) → is_failure found ≡ true
    → EndsOf options (named_count count) (IsTable file name null_text) old old result
unread-ends options count file name null_text old found result is failed =
    ([], Some Memory, none-read file name null_text, failed-ends options (named_count count) [] (Some Memory) old found result is failed)

-- a read of an input failed
stored-by : (request : Request) (count : ℕ) (bytes : List ℕ) (asked : Option Selection) → selection_of request.source ≡ asked → holds_database request.source bytes ≡ true → (old : Option (List ℕ)) (found : RunFault) (result : Result Remarks RunFault)
    → IsErrAnd result (λ fault. fault ≡ found) → is_failure found ≡ true → StreamsAll request count bytes old old result
stored-by request count bytes (Some (Asked name null_text)) is holds old found result told failed = stored-fails request count bytes holds name null_text is old found result told failed
stored-by request count bytes None is holds old found result told failed = unasked-fails request count bytes holds old found result told failed (subst (λ (it : Option Selection). AreOfDatabase request count bytes it [] (Some (Stream Database))) (sym is) (refl, refl))
stored-by request count bytes (Some (Select query)) is holds old found result told failed = unasked-fails request count bytes holds old found result told failed (subst (λ (it : Option Selection). AreOfDatabase request count bytes it [] (Some (Stream Database))) (sym is) (refl, refl))
stored-by request count bytes (Some Tables) is holds old found result told failed = unasked-fails request count bytes holds old found result told failed (subst (λ (it : Option Selection). AreOfDatabase request count bytes it [] (Some (Stream Database))) (sym is) (refl, refl))

pub input-fails : (request : Request) (count : ℕ) (bytes : List ℕ) (old : Option (List ℕ)) (found : RunFault) (result : Result Remarks RunFault) → IsErrAnd result (λ fault. fault ≡ found) → is_failure found ≡ true → StreamsAll request count bytes old old result
input-fails request count bytes old found result told failed = elim (cases_Bool (holds_database request.source bytes)) [
  | inl holds ↦ stored-by request count bytes (selection_of request.source) refl holds old found result told failed
  | inr none ↦
      let shown_format : Format = format_streamed (format_told request.source) bytes in
      let rows : List (List Text) = sound_rows shown_format (line_rules count (members_of request.source)) (content_of shown_format bytes) in
      let wrong : Option InputFault = wrong_in shown_format (line_rules count (members_of request.source)) (content_of shown_format bytes) in
      (rows, wrong, subst (λ (b : Bool). AreStreamedAs request count bytes b rows wrong) (sym none) (refl, refl), failed-ends request.view (streamed_count request count bytes) rows wrong old found result told failed)
]

-- the rows of an input in the format that its first bytes show
pub rows-end-so : (request : Request) (count : ℕ) (front rest all : List ℕ) (format : Format) (old new : Option (List ℕ)) (result : Result Remarks RunFault) → all ≡ front ++ rest
    → ShowsSource request.source front rest → holds_database request.source front ≡ false → format ≡ format_streamed (format_told request.source) front
    → Ends request.view (first_count request.view format count) (sound_rows format (line_rules count (members_of request.source)) (content_of format front ++ rest)) (wrong_in format (line_rules count (members_of request.source)) (content_of format front ++ rest)) old new result → StreamsAll request count all old new result
rows-end-so request count front rest all format old new result is (same, shows) none shown ends =
    let given_format : Known = format_told request.source in
    let both : ShowsFormat given_format front rest = shows none in
    let formats : format ≡ format_streamed given_format all = shown ∙ sym (ap (λ (xs : List ℕ). format_shown given_format (strip_bom xs)) is ∙ both.format) in
    let content : content_of format front ++ rest ≡ content_of format all =
    sym (
    ap (content_of format) is ∙ ap (λ (f : Format). content_of f (front ++ rest)) shown ∙ both.content
    ∙ ap (λ (f : Format). content_of f front ++ rest) (sym shown)
    )
    in
    let holds : holds_database request.source all ≡ false = ap (holds_database request.source) is ∙ same ∙ none in
    let here = subst (λ (f : Format). Ends request.view (first_count request.view f count) (sound_rows f (line_rules count (members_of request.source)) (content_of f all)) (wrong_in f (line_rules count (members_of request.source)) (content_of f all)) old new result) formats
    (subst (λ (xs : List ℕ). Ends request.view (first_count request.view format count) (sound_rows format (line_rules count (members_of request.source)) xs) (wrong_in format (line_rules count (members_of request.source)) xs) old new result) content ends) in
    let shown_format : Format = format_streamed given_format all in (
      sound_rows shown_format (line_rules count (members_of request.source)) (content_of shown_format all),
      wrong_in shown_format (line_rules count (members_of request.source)) (content_of shown_format all),
      subst (λ (b : Bool). AreStreamedAs request count all b (sound_rows shown_format (line_rules count (members_of request.source)) (content_of shown_format all)) (wrong_in shown_format (line_rules count (members_of request.source)) (content_of shown_format all)))
          (sym holds) (refl, refl),
      subst (λ (n : ℕ). Ends request.view n (sound_rows shown_format (line_rules count (members_of request.source)) (content_of shown_format all)) (wrong_in shown_format (line_rules count (members_of request.source)) (content_of shown_format all)) old new result)
          (sym (ap (λ (b : Bool). if b then named_count count else first_count request.view shown_format count) holds)) here,
    )

-- what holds of all bytes
pub if-known : {P : List ℕ → Type 0} (given : Option (List ℕ)) → ((bytes : List ℕ) → given ≡ Some bytes → P bytes) → IfSome given P
if-known None p = tt
if-known (Some bytes) p = p bytes refl

pub if-more : {P Q : List ℕ → Type 0} (given : Option (List ℕ)) → IfSome given P → ((bytes : List ℕ) → given ≡ Some bytes → P bytes → Q bytes) → IfSome given Q
if-more None p q = tt
if-more (Some bytes) p q = q bytes refl p

-- rows that the first bytes give
pub stands-so : (format : Format) (records : LineRules) (all : List ℕ) (left : Option (List ℕ)) (old new : List (List Text)) (reading : Reading) → old ≡ [] → GoesOn format records all left [] old new reading → Stands format records all left new reading
stands-so format records all left old new reading none (more, is, stands) = subst (λ (rows : List (List Text)). Stands format records all left rows reading) (sym (is ∙ ap (λ (xs : List (List Text)). xs ++ more) none)) stands

-- ---- the first rows of an input

-- ---- what is left of an input

-- so much was read behind these bytes
abbrev pub Rested : List ℕ → List ℕ → Option (List ℕ) → Option (List ℕ) → Type 0
Rested front held given left = (done : List ℕ) × (held ≡ front ++ done) × Consumes given left done

pub rest-begin : (front : List ℕ) (given : Option (List ℕ)) → Rested front front given given
rest-begin front given = ([], sym (append-nil front), Consumes-nil given)

pub rest-more : (front held grown piece : List ℕ) (given mid left : Option (List ℕ)) → Rested front held given mid → Consumes mid left piece → grown ≡ held ++ piece → Rested front grown given left
rest-more front held grown piece given mid left (done, is, took) next more =
    (done ++ piece, more ∙ ap (λ (xs : List ℕ). xs ++ piece) is ∙ append_assoc front done piece, Consumes-trans given mid left done piece took next)

pub rest-all : (front held : List ℕ) (given mid : Option (List ℕ)) → Rested front held given mid → IsAtEnd mid → IfSome given (λ rest. held ≡ front ++ rest)
rest-all front held given mid (done, is, took) end = Consumes-all given mid done front held took end is

-- ---- the first rows

module _ (format : Format) (limit : ℕ) (all : List ℕ) (left : Option (List ℕ)) (given : List (List Text)) (reading : Reading) (enough : IsEnough limit given reading) (stands : Stands format plain_lines all left given reading) where
  goes : GoesTo given reading (sound_rows format plain_lines all) (wrong_in format plain_lines all)
  goes = stands-to format plain_lines all left given reading stands

  -- nothing is wrong with them
  pub first-are : wrong_within limit (length given) reading ≡ None → AreFirst format limit all (take limit given)
  first-are none = (fine (wrong_in format plain_lines all) (nat_lt (length (sound_rows format plain_lines all)) limit) (open-rows limit (sound_rows format plain_lines all) (wrong_in format plain_lines all) given reading enough goes none), first-rows limit (sound_rows format plain_lines all) (wrong_in format plain_lines all) given reading enough goes) where
    fine : (wrong : Option InputFault) (short : Bool) → (is_some wrong && short) ≡ false → (if short then wrong else None) ≡ None
    fine wrong false whole = refl
    fine None true whole = refl
    fine (Some fault) true whole = absurd (true≢false whole)

  -- they end at a bad one
  pub first-lack : (fault : InputFault) → wrong_within limit (length given) reading ≡ Some fault → fault_of_first format limit all ≡ Some (but_line_in fault)
  first-lack fault some = let (wrong, short) = short-rows limit (sound_rows format plain_lines all) (wrong_in format plain_lines all) given reading fault goes some in rw (short, wrong) refl

pub read-first : (format : Format) (limit : ℕ) (all : List ℕ) (found : RunFault) → IsOfRead found → LacksFirst format limit all found
read-first format limit all found (inl memory) = subst (LacksFirst format limit all) (sym memory) (λ soft. absurd (true≢false soft))
read-first format limit all found (inr read) = let (cause, is) = of-read found read in subst (LacksFirst format limit all) (sym is) tt

-- ---- the format of an input by its first bytes

shown-in : (k : Known) (text : List ℕ) (dialect : Dialect) → format_shown k text ≡ Separated dialect → format_of_all k text ≡ Separated dialect
shown-in (known.Format format) text dialect is = is
shown-in (known.Values rules) text dialect is = is
shown-in (known.Nothing rules) text dialect is = rw is refl

other-in : (k : Known) (text : List ℕ) → is_separated (format_shown k text) ≡ false → is_separated (format_of_all k text) ≡ false
other-in k text other = elim (cases_Bool (is_one_value k (format_shown k text) text)) [
  | inl one ↦ rw one refl
  | inr more ↦ rw more other
]

-- of another format, no row is left out
within-other : (limit : ℕ) (members : Rules) (format : Format) (bytes : List ℕ) → is_separated format ≡ false
    → (rows_within (Some limit) members format bytes ≡ rows_within None members format bytes) × (fault_within (Some limit) members format bytes ≡ fault_within None members format bytes)
within-other limit members (Separated dialect) bytes other = absurd (true≢false other)
within-other limit members Json bytes other = (refl, refl)
within-other limit members JsonLines bytes other = (refl, refl)

module _ (origin : Source) (bytes : List ℕ) where
  other-rows : (needed : Option ℕ) (holds : Bool) (rows : List (List Text)) → (holds ≡ false → is_separated (format_in (format_told origin) bytes) ≡ false) → AreRowsAs (limit_of_whole holds needed) holds origin bytes rows
      → AreRowsAs needed holds origin bytes rows
  other-rows needed true rows other are = are
  other-rows None false rows other are = are
  other-rows (Some limit) false rows other (fine, are) =
      let format : Format = format_in (format_told origin) bytes in
      let (same, told) = within-other limit (members_of origin) format (content_of format bytes) (other refl) in
      (told ∙ fine, are ∙ sym same)

  other-lacks : (needed : Option ℕ) (holds : Bool) (fault : InputFault) → (holds ≡ false → is_separated (format_in (format_told origin) bytes) ≡ false) → LacksRowsAs (limit_of_whole holds needed) holds origin bytes fault
      → LacksRowsAs needed holds origin bytes fault
  other-lacks needed true fault other lacks = lacks
  other-lacks None false fault other lacks = lacks
  other-lacks (Some limit) false fault other lacks = λ soft. (within-other limit (members_of origin) (format_in (format_told origin) bytes) (content_of (format_in (format_told origin) bytes) bytes) (other refl)).1 ∙ lacks soft

-- ---- all rows, where fewer are there than are needed

-- nothing is made of nothing alone
pub unmapped : {X Y : Type 0} (f : X → Y) (found : Option X) → option_map f found ≡ None → found ≡ None
unmapped f None none = refl
unmapped f (Some x) none = absurd (cc)

none-if : {X : Type 0} (b : Bool) (o : Option X) → b ≡ true → (if b then o else None) ≡ None → o ≡ None
none-if true o is none = none
none-if false o is none = absurd (false≢true is)

told-if : {X : Type 0} (b : Bool) (o : Option X) (x : X) → (if b then o else None) ≡ Some x → o ≡ Some x
told-if true o x is = is
told-if false o x is = absurd (cc)

few-are : (limit : ℕ) (members : Rules) (format : Format) (bytes : List ℕ) (rows : List (List Text)) → fault_within (Some limit) members format bytes ≡ None
    → rows ≡ rows_within (Some limit) members format bytes → length rows < limit → (fault_within None members format bytes ≡ None) × (rows ≡ rows_within None members format bytes)
few-are limit members (Separated dialect) bytes rows none are few =
    let sound : List (List Text) = csv.sound_rows dialect bytes in
    let long : length rows ≡ length (take limit sound) = ap (λ (xs : List (List Text)). length xs) are in
    let less : length sound < limit = omega (arith, few, long, length-take limit sound) in
    let all : nat_lt (length sound) limit ≡ true = lt-ltb _ _ less in
    let fault : option_map fault_of_rows (csv.rows_fault dialect bytes) ≡ None = none-if (nat_lt (length sound) limit) (option_map fault_of_rows (csv.rows_fault dialect bytes)) all none in
    let clean : csv.rows_fault dialect bytes ≡ None = unmapped fault_of_rows (csv.rows_fault dialect bytes) fault in
    (fault, are ∙ take_all limit sound (omega (arith, less)) ∙ all-sound dialect bytes clean)
few-are limit members Json bytes rows none are few = (none, are)
few-are limit members JsonLines bytes rows none are few = (none, are)

few-lack : (limit : ℕ) (members : Rules) (format : Format) (bytes : List ℕ) (fault : InputFault) → fault_within (Some limit) members format bytes ≡ Some fault
    → fault_within None members format bytes ≡ Some fault
few-lack limit members (Separated dialect) bytes fault is = told-if (nat_lt (length (csv.sound_rows dialect bytes)) limit) _ fault is
few-lack limit members Json bytes fault is = is
few-lack limit members JsonLines bytes fault is = is

module _ (origin : Source) (limit : ℕ) (bytes : List ℕ) where
  needed-are : (needed : Option ℕ) (rows : List (List Text)) → AreRowsAs (Some (unwrap_or needed limit)) false origin bytes rows → length rows < limit → AreRowsAs needed false origin bytes rows
  needed-are (Some n) rows are few = are
  needed-are None rows (none, are) few =
      let format : Format = format_in (format_told origin) bytes in
      few-are limit (members_of origin) format (content_of format bytes) rows none are few

  needed-lack : (needed : Option ℕ) (fault : InputFault) → LacksRowsAs (Some (unwrap_or needed limit)) false origin bytes fault → LacksRowsAs needed false origin bytes fault
  needed-lack (Some n) fault lacks = lacks
  needed-lack None fault lacks = λ soft.
      let format : Format = format_in (format_told origin) bytes in
      few-lack limit (members_of origin) format (content_of format bytes) (but_line_in fault) (lacks soft)

-- ---- an input of which the first bytes were read

module _ (origin : Source) (needed : Option ℕ) (front : List ℕ) where
  -- it is a database, or has another format
  abbrev pub IsOther : Type 0
  IsOther = (holds_database origin front ≡ true) ⊎ (is_separated (format_streamed (format_told origin) front) ≡ false)

  other-format : (all rest : List ℕ) → all ≡ front ++ rest → ShowsSource origin front rest → IsOther → holds_database origin all ≡ false → is_separated (format_in (format_told origin) all) ≡ false
  other-format all rest is (same, shows) (inl holds) none = absurd (true≢false (sym (ap (holds_database origin) is ∙ same ∙ holds) ∙ none))
  other-format all rest is (same, shows) (inr other) none =
      let here : holds_database origin front ≡ false = sym (ap (holds_database origin) is ∙ same) ∙ none in
      other-in (format_told origin) (strip_bom all) (ap (λ (bytes : List ℕ). is_separated (format_shown (format_told origin) (strip_bom bytes))) is ∙ ap is_separated (shows here).format ∙ other)

  known-rest : (P : List ℕ → Type 0) (left : Option (List ℕ)) (rest : List ℕ) → left ≡ Some rest → IfSome left P → P rest
  known-rest P left rest is holds = subst (λ (l : Option (List ℕ)). IfSome l P) is holds

  abbrev AreWhole : List ℕ → List (List Text) → Type 0
  AreWhole bytes rows = AreRows (limit_of_whole (holds_database origin bytes) needed) origin bytes rows

  abbrev LacksWhole : List ℕ → RunFault → Type 0
  LacksWhole bytes fault = LacksInput (limit_of_whole (holds_database origin bytes) needed) origin bytes fault

  -- then all of it is read
  pub whole-rows : {V : Type 0} (view : V → List (List Text)) (given left : Option (List ℕ)) (result : Result V RunFault) → IsOther → IfSome given (λ all. ReadsFront origin all left front)
      → IfOk result (λ v. IfSome left (λ rest. AreWhole (front ++ rest) (view v))) → IfOk result (λ v. IfSome given (λ all. AreRows needed origin all (view v)))
  whole-rows view given left (Err fault) other reads rows = tt
  whole-rows view None left (Ok v) other reads rows = tt
  whole-rows view (Some all) left (Ok v) other (rest, is, left-is, shows) rows =
      let these : AreWhole (front ++ rest) (view v) = known-rest (λ bytes. AreWhole (front ++ bytes) (view v)) left rest left-is rows in
      other-rows origin all needed (holds_database origin all) (view v) (other-format all rest is shows other) (subst (λ (bytes : List ℕ). AreWhole bytes (view v)) (sym is) these)

  lacks-whole : (all : List ℕ) (fault : RunFault) → (holds_database origin all ≡ false → is_separated (format_in (format_told origin) all) ≡ false) → LacksWhole all fault → LacksInput needed origin all fault
  lacks-whole all (Input fault) other lacks = other-lacks origin all needed (holds_database origin all) fault other lacks
  lacks-whole all (Read fault) other lacks = lacks
  lacks-whole all Closed other lacks = lacks
  lacks-whole all Write other lacks = lacks

  pub whole-lacks : {V : Type 0} (given left : Option (List ℕ)) (result : Result V RunFault) → IsOther → IfSome given (λ all. ReadsFront origin all left front)
      → IfErr result (λ fault. IfSome left (λ rest. LacksWhole (front ++ rest) fault)) → IfErr result (λ fault. IfSome given (λ all. LacksInput needed origin all fault))
  whole-lacks given left (Ok v) other reads lacks = tt
  whole-lacks None left (Err fault) other reads lacks = tt
  whole-lacks (Some all) left (Err fault) other (rest, is, left-is, shows) lacks =
      let these : LacksWhole (front ++ rest) fault = known-rest (λ bytes. LacksWhole (front ++ bytes) fault) left rest left-is lacks in
      lacks-whole all fault (other-format all rest is shows other) (subst (λ (bytes : List ℕ). LacksWhole bytes fault) (sym is) these)

  -- else its first rows
  module _ (most : ℕ) (none : holds_database origin front ≡ false) (dialect : Dialect) (seen : format_streamed (format_told origin) front ≡ Separated dialect) where
    in-is : (all rest : List ℕ) → all ≡ front ++ rest → ShowsSource origin front rest → format_in (format_told origin) all ≡ Separated dialect
    in-is all rest is (same, shows) =
        shown-in (format_told origin) (strip_bom all) dialect (ap (λ (bytes : List ℕ). format_shown (format_told origin) (strip_bom bytes)) is ∙ (shows none).format ∙ seen)

    content-is : (all rest : List ℕ) → all ≡ front ++ rest → ShowsSource origin front rest → content_of (Separated dialect) all ≡ content_of (Separated dialect) front ++ rest
    content-is all rest is (same, shows) =
        ap (content_of (Separated dialect)) is ∙ subst (λ (format : Format). content_of format (front ++ rest) ≡ content_of format front ++ rest) seen (shows none).content

    holds-is : (all rest : List ℕ) → all ≡ front ++ rest → ShowsSource origin front rest → holds_database origin all ≡ false
    holds-is all rest is (same, shows) = ap (holds_database origin) is ∙ same ∙ none

    heads-are : (all content : List ℕ) (rows : List (List Text)) → format_in (format_told origin) all ≡ Separated dialect → content_of (Separated dialect) all ≡ content → AreFirst (Separated dialect) (unwrap_or needed most) content rows
        → AreRowsAs (Some (unwrap_or needed most)) false origin all rows
    heads-are all content rows format content-same first = rw (format, content-same) first

    heads-lack : (all content : List ℕ) (fault : RunFault) → format_in (format_told origin) all ≡ Separated dialect → content_of (Separated dialect) all ≡ content → holds_database origin all ≡ false → LacksFirst (Separated dialect) (unwrap_or needed most) content fault
        → LacksInput needed origin all fault
    heads-lack all content (Input fault) format content-same holds lacks =
        let first : LacksRowsAs (Some (unwrap_or needed most)) false origin all fault = λ soft. rw (format, content-same) (lacks soft) in
        subst (λ (h : Bool). LacksRowsAs needed h origin all fault) (sym holds) (needed-lack origin most all needed fault first)
    heads-lack all content (Read fault) format content-same holds lacks = lacks
    heads-lack all content Closed format content-same holds lacks = lacks
    heads-lack all content Write format content-same holds lacks = lacks

    pub first-rows-are : {V : Type 0} (view : V → List (List Text)) (given left : Option (List ℕ)) (result : Result V RunFault) → IfSome given (λ all. ReadsFront origin all left front)
        → ((rest : List ℕ) → left ≡ Some rest → IfOk result (λ v. AreFirst (Separated dialect) (unwrap_or needed most) (content_of (Separated dialect) front ++ rest) (view v))) → IfOk result (λ v. length (view v) < most → IfSome given (λ all. AreRows needed origin all (view v)))
    first-rows-are view given left (Err fault) reads rows = tt
    first-rows-are view None left (Ok v) reads rows = λ few. tt
    first-rows-are view (Some all) left (Ok v) (rest, is, left-is, shows) rows = λ few.
        let first : AreRowsAs (Some (unwrap_or needed most)) false origin all (view v) =
        heads-are all (content_of (Separated dialect) front ++ rest) (view v) (in-is all rest is shows) (content-is all rest is shows) (rows rest left-is) in
        subst (λ (h : Bool). AreRowsAs needed h origin all (view v)) (sym (holds-is all rest is shows)) (needed-are origin most all needed (view v) first few)

    pub first-rows-lack : {V : Type 0} (given left : Option (List ℕ)) (result : Result V RunFault) → IfSome given (λ all. ReadsFront origin all left front)
        → ((rest : List ℕ) → left ≡ Some rest → IfErr result (LacksFirst (Separated dialect) (unwrap_or needed most) (content_of (Separated dialect) front ++ rest))) → IfErr result (λ fault. IfSome given (λ all. LacksInput needed origin all fault))
    first-rows-lack given left (Ok v) reads lacks = tt
    first-rows-lack None left (Err fault) reads lacks = tt
    first-rows-lack (Some all) left (Err fault) (rest, is, left-is, shows) lacks =
        heads-lack all (content_of (Separated dialect) front ++ rest) fault (in-is all rest is shows) (content-is all rest is shows) (holds-is all rest is shows) (lacks rest left-is)

-- separated values have a dialect
pub dialect-of : (format : Format) → is_separated format ≡ true → (dialect : Dialect) × (format ≡ Separated dialect)
dialect-of (Separated dialect) is = (dialect, refl)
dialect-of Json is = absurd (false≢true is)
dialect-of JsonLines is = absurd (false≢true is)

-- ---- joined rows

abbrev all_of : List (List (List Text)) → List (List Text)
all_of inputs = flat_map (λ rows. rows) inputs

abbrev below : List (List (List Text)) → List (List Text)
below inputs = flat_map (drop 1) inputs

-- the rows by whether row 0 names the columns
abbrev joined_by : Bool → List (List (List Text)) → List (List Text)
joined_by named inputs = if named then take 1 (all_of inputs) ++ below inputs else all_of inputs

abbrev beneath_by : Bool → List (List Text) → List (List Text) → List (List Text)
beneath_by named [] rows = rows
beneath_by named (first ∷ above) rows = (first ∷ above) ++ (if named then drop 1 rows else rows)

beneath-by : (options : Options) (above rows : List (List Text)) → beneath options above rows ≡ beneath_by (names_columns options) above rows
beneath-by options [] rows = refl
beneath-by options (first ∷ above) rows = refl

-- those of one input are its own
whole : (rows : List (List Text)) → take 1 (rows ++ []) ++ (drop 1 rows ++ []) ≡ rows
whole [] = refl
whole (row ∷ rows) = ap (λ (rs : List (List Text)). row ∷ rs) (append-nil rows)

alone-by : (named : Bool) (rows : List (List Text)) → joined_by named (rows ∷ []) ≡ rows
alone-by true rows = whole rows
alone-by false rows = append-nil rows

pub joined-alone : (options : Options) (rows : List (List Text)) → joined_rows options (rows ∷ []) ≡ rows
joined-alone options rows = alone-by (names_columns options) rows

-- where no input has a row, none has one below row 0
none-front : {X : Type 0} (xs ys : List X) → xs ++ ys ≡ [] → (xs ≡ []) × (ys ≡ [])
none-front [] ys none = (refl, none)
none-front (x ∷ xs) ys none = absurd (cc)

none-below : (inputs : List (List (List Text))) → all_of inputs ≡ [] → below inputs ≡ []
none-below [] none = refl
none-below (rows ∷ inputs) none =
    let (here, behind) = none-front rows (all_of inputs) none in
    ap (λ (rs : List (List Text)). drop 1 rs ++ below inputs) here ∙ none-below inputs behind

-- the rows of one input more are beneath
more-named : (x y : List (List Text)) (rows : List (List Text)) → (x ≡ [] → y ≡ []) → take 1 (x ++ (rows ++ [])) ++ (y ++ (drop 1 rows ++ [])) ≡ beneath_by true (take 1 x ++ y) rows
more-named [] y rows none = rw (none refl) (whole rows)
more-named (row ∷ x) y rows none = ap (λ (rs : List (List Text)). row ∷ (y ++ rs)) (append-nil (drop 1 rows))

more-plain : (x rows : List (List Text)) → x ++ (rows ++ []) ≡ beneath_by false x rows
more-plain [] rows = append-nil rows
more-plain (row ∷ x) rows = ap (λ (rs : List (List Text)). row ∷ (x ++ rs)) (append-nil rows)

more-by : (named : Bool) (inputs : List (List (List Text))) (rows : List (List Text)) → joined_by named (inputs ++ (rows ∷ [])) ≡ beneath_by named (joined_by named inputs) rows
more-by true inputs rows =
    ap (λ (rs : List (List Text)). take 1 rs ++ below (inputs ++ (rows ∷ []))) (flat_map-append (λ rs. rs) inputs (rows ∷ []))
    ∙ ap (λ (rs : List (List Text)). take 1 (all_of inputs ++ (rows ++ [])) ++ rs) (flat_map-append (drop 1) inputs (rows ∷ []))
    ∙ more-named (all_of inputs) (below inputs) rows (none-below inputs)
more-by false inputs rows = flat_map-append (λ rs. rs) inputs (rows ∷ []) ∙ more-plain (all_of inputs) rows

pub joined-more : (options : Options) (inputs : List (List (List Text))) (rows : List (List Text)) → joined_rows options (inputs ++ (rows ∷ [])) ≡ beneath options (joined_rows options inputs) rows
joined-more options inputs rows = more-by (names_columns options) inputs rows ∙ sym (beneath-by options (joined_rows options inputs) rows)

-- ---- rows that belong to a table

abbrev misfit_of : Bool → Bool → List Text → List Text → Option FurtherFault
misfit_of named ragged first row =
    if named then if pointwise bytes_eq first row then None else Some Header
    else if ragged || (length first == length row) then None else Some Length

or-true : (b : Bool) → (b || true) ≡ true
or-true true = refl
or-true false = refl

own-fits : (named ragged : Bool) (row : List Text) → misfit_of named ragged row row ≡ None
own-fits true ragged row = ap (λ (b : Bool). if b then None else Some Header) ((pointwise_decides bytes_eq-Decides row row).1 refl)
own-fits false ragged row = ap (λ (b : Bool). if ragged || b then None else Some Length) ((Decides-eqb (length row) (length row)).1 refl) ∙ ap (λ (b : Bool). if b then None else Some Length) (or-true ragged)

-- only row 0 counts
by-head : (options : Options) (ragged : Bool) (first : List Text) (table other rows : List (List Text)) → misfit options ragged (first ∷ table) rows ≡ misfit options ragged (first ∷ other) rows
by-head options ragged first table other [] = refl
by-head options ragged first table other (row ∷ rows) = refl

none-fits : (options : Options) (ragged : Bool) (table : List (List Text)) → misfit options ragged table [] ≡ None
none-fits options ragged [] = refl
none-fits options ragged (first ∷ table) = refl

-- the first rows of a table belong to it
first-fits : (options : Options) (ragged : Bool) (rows behind : List (List Text)) → misfit options ragged (rows ++ behind) rows ≡ None
first-fits options ragged [] behind = none-fits options ragged behind
first-fits options ragged (row ∷ rows) behind = own-fits (names_columns options) ragged row

joined-none : (named : Bool) (inputs : List (List (List Text))) → all_of inputs ≡ [] → joined_by named inputs ≡ []
joined-none true inputs none = ap (λ (rs : List (List Text)). take 1 rs ++ below inputs) none ∙ none-below inputs none
joined-none false inputs none = none

joined-head : (named : Bool) (inputs : List (List (List Text))) (row : List Text) (rows : List (List Text)) → all_of inputs ≡ row ∷ rows → (others : List (List Text)) × (joined_by named inputs ≡ row ∷ others)
joined-head true inputs row rows some = (below inputs, ap (λ (rs : List (List Text)). take 1 rs ++ below inputs) some)
joined-head false inputs row rows some = (rows, some)

same-by : (options : Options) (ragged : Bool) (inputs : List (List (List Text))) (x rows behind : List (List Text)) → all_of inputs ≡ x → misfit options ragged (x ++ (rows ++ behind)) rows ≡ misfit options ragged (joined_rows options inputs) rows
same-by options ragged inputs [] rows behind is =
    first-fits options ragged rows behind ∙ sym (ap (λ (table : List (List Text)). misfit options ragged table rows) (joined-none (names_columns options) inputs is))
same-by options ragged inputs (row ∷ x) rows behind is =
    let (others, head) = joined-head (names_columns options) inputs row x is in
    by-head options ragged row (x ++ (rows ++ behind)) others rows ∙ sym (ap (λ (table : List (List Text)). misfit options ragged table rows) head)

-- what doesn't belong to the table doesn't belong to the rows above
pub same-misfit : (options : Options) (ragged : Bool) (inputs : List (List (List Text))) (rows : List (List Text)) (more : List (List (List Text)))
    → misfit options ragged (all_of (inputs ++ (rows ∷ more))) rows ≡ misfit options ragged (joined_rows options inputs) rows
same-misfit options ragged inputs rows more =
    ap (λ (table : List (List Text)). misfit options ragged table rows) (flat_map-append (λ rs. rs) inputs (rows ∷ more)) ∙ same-by options ragged inputs (all_of inputs) rows (all_of more) refl

-- a row that doesn't belong there is on no line
bare-of : (named ragged : Bool) (first row : List Text) (fault : FurtherFault) → misfit_of named ragged first row ≡ Some fault → but_line_further fault ≡ fault
bare-of true ragged first row fault is = elim (cases_Bool (pointwise bytes_eq first row)) [
  | inl same ↦ let none : None ≡ Some fault = (rw same at is) in cc
  | inr other ↦ let some : Some Header ≡ Some fault = (rw other at is) in let it : Header ≡ fault = cc in subst (λ (f : FurtherFault). but_line_further f ≡ f) it refl
]
bare-of false ragged first row fault is = elim (cases_Bool (ragged || (length first == length row))) [
  | inl same ↦ let none : None ≡ Some fault = (rw same at is) in cc
  | inr other ↦ let some : Some Length ≡ Some fault = (rw other at is) in let it : Length ≡ fault = cc in subst (λ (f : FurtherFault). but_line_further f ≡ f) it refl
]

pub misfit-bare : (options : Options) (ragged : Bool) (table rows : List (List Text)) (fault : FurtherFault) → misfit options ragged table rows ≡ Some fault → but_line_further fault ≡ fault
misfit-bare options ragged [] rows fault is = absurd (cc)
misfit-bare options ragged (first ∷ table) [] fault is = absurd (cc)
misfit-bare options ragged (first ∷ table) (row ∷ rows) fault is = bare-of (names_columns options) ragged first row fault is

-- ---- faults of a further input

pub further-memory : (number : ℕ) (fault : InputFault) → is_memory (of_further number fault) ≡ is_memory fault
further-memory number (found.Rows fault) = refl
further-memory number (found.Json fault) = refl
further-memory number (found.Sql fault) = refl
further-memory number (found.Database fault) = refl
further-memory number found.Log = refl
further-memory number (found.Stream fault) = refl
further-memory number (found.Further other fault) = refl
further-memory number (found.Column name) = refl
further-memory number found.Sort = refl
further-memory number found.Totals = refl
further-memory number found.Memory = refl

pub further-line : (number : ℕ) (fault : InputFault) → of_further number (but_line_in fault) ≡ but_line_in (of_further number fault)
further-line number (found.Rows fault) = refl
further-line number (found.Json fault) = refl
further-line number (found.Sql fault) = refl
further-line number (found.Database fault) = refl
further-line number found.Log = refl
further-line number (found.Stream fault) = refl
further-line number (found.Further other fault) = refl
further-line number (found.Column name) = refl
further-line number found.Sort = refl
further-line number found.Totals = refl
further-line number found.Memory = refl

-- ---- rows with the same fields

pub same-fields : (xs ys : List Text) → length xs ≡ length ys → ((i : ℕ) → i < length xs → field_at xs i ≡ field_at ys i) → xs ≡ ys
unfolding field_at
same-fields [] [] long same = refl
same-fields [] (y ∷ ys) long same = absurd (omega (arith, long))
same-fields (x ∷ xs) [] long same = absurd (omega (arith, long))
same-fields (x ∷ xs) (y ∷ ys) long same =
    let here : Some x ≡ Some y = same 0 (omega arith) in
    let first : x ≡ y = cc in
    let rest : xs ≡ ys = same-fields xs ys (omega (arith, long)) (λ i less. same (suc i) (omega (arith, less))) in
    ap (λ (t : Text). t ∷ xs) first ∙ ap (λ (ts : List Text). y ∷ ts) rest

pub alike : (xs ys : List Text) → xs ≡ ys → true ≡ pointwise bytes_eq xs ys
alike xs ys same = sym ((pointwise_decides bytes_eq-Decides xs ys).1 same)

pub unlike : (xs ys : List Text) → (xs ≡ ys → ⊥) → false ≡ pointwise bytes_eq xs ys
unlike xs ys other = elim (cases_Bool (pointwise bytes_eq xs ys)) [
  | inl same ↦ absurd (other ((pointwise_decides bytes_eq-Decides xs ys).0 same))
  | inr not ↦ sym not
]

-- ---- one input after another

module _ (options : Options) (inputs : List FurtherInput) (first : List (List Text)) (number : ℕ) (input : FurtherInput) (within : number < length inputs) (is : input ≡ get_or inputs number input) where
  abbrev Joins : List (List Text) → Type 0
  Joins all = all ≡ joined_rows options (first ∷ map rows_held (take number inputs))

  abbrev Leads : Type 0
  Leads = further_fault options inputs first ≡ fault_from options (rows_of_all inputs first) number (drop number inputs)

  taken : take (number + 1) inputs ≡ take number inputs ++ (input ∷ [])
  taken =
      let next : suc number ≡ number + 1 = omega arith in
      subst (λ (n : ℕ). take n inputs ≡ take number inputs ++ (input ∷ [])) next
      (take-suc inputs number input within ∙ ap (λ (it : FurtherInput). take number inputs ++ (it ∷ [])) (sym is))

  left : drop number inputs ≡ input ∷ drop (number + 1) inputs
  left = drop-next inputs number input within is

  all-held : map rows_held inputs ≡ map rows_held (take number inputs) ++ (rows_held input ∷ map rows_held (drop (number + 1) inputs))
  all-held = ap (map rows_held) (sym (take-append-drop number inputs) ∙ ap (λ (rest : List FurtherInput). take number inputs ++ rest) left)
      ∙ map-append rows_held (take number inputs) (input ∷ drop (number + 1) inputs)

  -- what is wrong with this one is wrong with the rows above
  here : (all : List (List Text)) → Joins all → misfit options (is_ragged input.source) (rows_of_all inputs first) (rows_held input) ≡ misfit options (is_ragged input.source) all (rows_held input)
  here all joins =
      ap (λ (held : List (List (List Text))). misfit options (is_ragged input.source) (flat_map (λ rows. rows) (first ∷ held)) (rows_held input)) all-held
      ∙ same-misfit options (is_ragged input.source) (first ∷ map rows_held (take number inputs)) (rows_held input) (map rows_held (drop (number + 1) inputs))
      ∙ ap (λ (rows : List (List Text)). misfit options (is_ragged input.source) rows (rows_held input)) (sym joins)

  from-here : Leads → further_fault options inputs first
      ≡ option_or (option_or (fault_held number input) (option_map (found.Further number) (misfit options (is_ragged input.source) (rows_of_all inputs first) (rows_held input)))) (fault_from options (rows_of_all inputs first) (suc number) (drop (number + 1) inputs))
  from-here leads = leads ∙ ap (fault_from options (rows_of_all inputs first) number) left

  -- it holds no rows
  pub held-wrong : (fault : InputFault) → Leads → fault_held number input ≡ Some fault → further_fault options inputs first ≡ Some fault
  held-wrong fault leads wrong = from-here leads ∙ rw wrong refl

  -- its rows don't belong there
  pub misfit-wrong : (all : List (List Text)) (fault : FurtherFault) → Joins all → Leads → fault_held number input ≡ None → misfit options (is_ragged input.source) all (rows_held input) ≡ Some fault
      → further_fault options inputs first ≡ Some (but_line_in (found.Further number fault))
  misfit-wrong all fault joins leads held wrong =
      let misfits : misfit options (is_ragged input.source) (rows_of_all inputs first) (rows_held input) ≡ Some fault = here all joins ∙ wrong in
      from-here leads ∙ rw (held, misfits) refl ∙ ap (λ (f : FurtherFault). Some (found.Further number f)) (sym (misfit-bare options (is_ragged input.source) all (rows_held input) fault wrong))

  -- they do
  pub leads-on : (all : List (List Text)) → Joins all → Leads → fault_held number input ≡ None → misfit options (is_ragged input.source) all (rows_held input) ≡ None
      → further_fault options inputs first ≡ fault_from options (rows_of_all inputs first) (number + 1) (drop (number + 1) inputs)
  leads-on all joins leads held none =
      let next : suc number ≡ number + 1 = omega arith in
      let fits : misfit options (is_ragged input.source) (rows_of_all inputs first) (rows_held input) ≡ None = here all joins ∙ none in
      from-here leads ∙ rw (held, fits) (ap (λ (n : ℕ). fault_from options (rows_of_all inputs first) n (drop (number + 1) inputs)) next)

  pub joins-on : (all : List (List Text)) → Joins all → beneath options all (rows_held input) ≡ joined_rows options (first ∷ map rows_held (take (number + 1) inputs))
  joins-on all joins =
      ap (λ (rows : List (List Text)). beneath options rows (rows_held input)) joins
      ∙ sym (joined-more options (first ∷ map rows_held (take number inputs)) (rows_held input))
      ∙ ap (λ (held : List (List (List Text))). joined_rows options (first ∷ held)) (sym (ap (map rows_held) taken ∙ map-append rows_held (take number inputs) (input ∷ [])))

-- all were joined
pub joined-all : (options : Options) (inputs : List FurtherInput) (first : List (List Text)) (number : ℕ) → length inputs ≤ number → joined_rows options (first ∷ map rows_held (take number inputs)) ≡ joined options inputs first
joined-all options inputs first number past = ap (λ (its : List FurtherInput). joined_rows options (first ∷ map rows_held its)) (take_all number inputs past)

pub none-left : (options : Options) (inputs : List FurtherInput) (first : List (List Text)) (number : ℕ) → length inputs ≤ number → further_fault options inputs first ≡ fault_from options (rows_of_all inputs first) number (drop number inputs)
    → further_fault options inputs first ≡ None
none-left options inputs first number past leads = leads ∙ ap (fault_from options (rows_of_all inputs first) number) (nil_from_length (drop number inputs) (omega (arith, past, length-drop number inputs)))

-- ---- tables of a query

module _ (query : Query) (number : ℕ) (table : QueryTable) (within : number < length query.tables.items) (is : table ≡ get_or query.tables.items number table) where
  abbrev LeadsTo : Type 0
  LeadsTo = tables_fault query 0 query.tables.items ≡ tables_fault query number (drop number query.tables.items)

  to-here : LeadsTo → tables_fault query 0 query.tables.items ≡ option_or (fault_read query number table) (tables_fault query (suc number) (drop (number + 1) query.tables.items))
  to-here leads = leads ∙ ap (tables_fault query number) (drop-next query.tables.items number table within is)

  pub read-wrong : (fault : InputFault) → LeadsTo → fault_read query number table ≡ Some fault → tables_fault query 0 query.tables.items ≡ Some fault
  read-wrong fault leads wrong = to-here leads ∙ rw wrong refl

  pub reads-on : LeadsTo → fault_read query number table ≡ None → tables_fault query 0 query.tables.items ≡ tables_fault query (number + 1) (drop (number + 1) query.tables.items)
  reads-on leads none =
      let next : suc number ≡ number + 1 = omega arith in
      to-here leads ∙ rw none (ap (λ (n : ℕ). tables_fault query n (drop (number + 1) query.tables.items)) next)

  -- one table more
  pub tables-on : (tables : List NamedRows) (new : NamedRows) (first : Table) → map table_of tables ≡ first ∷ map (further_table query) (take number query.tables.items) → table_of new ≡ further_table query table
      → map table_of (tables ++ (new ∷ [])) ≡ first ∷ map (further_table query) (take (number + 1) query.tables.items)
  tables-on tables new first above same =
      map-append table_of tables (new ∷ []) ∙ ap (λ (some : List Table). some ++ (table_of new ∷ [])) above
      ∙ ap (λ (one : Table). first ∷ (map (further_table query) (take number query.tables.items) ++ (one ∷ []))) (same ∙ ap (further_table query) is)
      ∙ ap (λ (some : List Table). first ∷ some) (sym (map_more (further_table query) query.tables.items number table within))

pub all-read : (query : Query) (number : ℕ) → length query.tables.items ≤ number → tables_fault query 0 query.tables.items ≡ tables_fault query number (drop number query.tables.items) → tables_fault query 0 query.tables.items ≡ None
all-read query number past leads = leads ∙ ap (tables_fault query number) (nil_from_length (drop number query.tables.items) (omega (arith, past, length-drop number query.tables.items)))

-- what is wrong with the first input, or with a further table
module _ (query : Query) (known : Known) (bytes : List ℕ) where
  pub by-first : (fault : InputFault) → input_fault None (members_in query) known bytes ≡ Some fault → queried_fault known query bytes ≡ Some fault
  by-first fault wrong = rw wrong refl

  pub by-further : (found : Option InputFault) → input_fault None (members_in query) known bytes ≡ None → tables_fault query 0 query.tables.items ≡ found → queried_fault known query bytes ≡ found
  by-further found none wrong = rw (none, wrong) refl

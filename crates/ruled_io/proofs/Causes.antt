-- What causes a fault that is handed on.
use Rattle.std.proofs.Common.{◌≡◌, ◌∙◌, ◌∷◌, ℕ, suc, Bool, true, false, if◌then◌else◌, List, [], string_bytes, Option, Some, None, Result, Ok, Err, inl, inr, refl, sym, ap, subst}
use Rattle.std.specs.Prelude.{not, option_map, IfErr, IfOk, IfSome, OnOk}
use Rattle.std.specs.Io.KnownBytes.{Appends, Keeps}
use Rattle.std.specs.Result.{IsErrAnd, result_err}
use Rattle.std.proofs.KnownBytes.{Appends-kept, Keeps-refl}
use Rattle.std.proofs.lemmas.Bool.{false≢true, true≢false}
use Rattle.pg_layout.specs.Text.{Text}
use Rattle.ruled_json.specs.Rows.{Rules}
use Rattle.ruled_csv.specs.declared.fault.RowsFault.{RowsFault}
use Rattle.ruled_csv.specs.declared.fault.RowsFault.TheVariants as rows
use Rattle.ruled_json.specs.declared.fault.JsonFault.{JsonFault}
use Rattle.ruled_json.specs.declared.fault.JsonFault.TheVariants as json
use Rattle.ruled_database.specs.declared.fault.DatabaseFault.{DatabaseFault}
use Rattle.ruled_database.specs.declared.fault.DatabaseFault.TheVariants as database
use Rattle.ruled_sql.specs.declared.fault.QueryFault.TheVariants as query
use Rattle.ruled_sql.specs.declared.fault.SqlFault.{SqlFault}
use Rattle.ruled_sql.specs.declared.fault.SqlFault.TheVariants as sql
use Rattle.ruled_database.specs.declared.fault.TableFault.TheVariants as table
use Rattle.ruled_table.specs.Arranged.{padded_rows}
use Rattle.ruled_table.specs.View.{table_excess, table_fault, table_text}
use Rattle.ruled_table.specs.declared.view.ViewFault.{ViewFault}
use Rattle.ruled_io.specs.Input.{LacksAnswer, LacksAnswerOf, LacksQueried, LacksSelected, LacksStored, LacksTableOf, fault_read, members_in, queried_fault, tables_fault, tables_of}
use Rattle.ruled_io.specs.Input.{further_fault, format_fault, input_fault, rows_in}
use Rattle.ruled_sql.specs.Filled as queries
use Rattle.ruled_io.specs.declared.fault.FurtherFault.TheVariants as further
use Rattle.ruled_io.specs.declared.request.QueryTable.{QueryTable}
use Rattle.std.specs.Option.{option_or}
use Rattle.ruled_io.specs.Faults.{IsOfRead, Tells, but_line_in, fault_of_database, fault_of_json, fault_of_rows, fault_of_sql, is_early, is_memory, is_of_write, is_read, of_further}
use Rattle.ruled_io.specs.Faults.{failure_in, fault_written, write_part}
use Rattle.ruled_io.specs.Formats.{content_of, format_in}
use Rattle.ruled_io.specs.Requests.{format_told, hides_rows, holds_database, inner_place, known_in, log_of, members_of, rows_needed, sees_database, selection_of}
use Rattle.ruled_io.specs.Runs.{AreAsked, AreJoined, AreRows, AreRowsAs, CausedAtOnce, LacksInput, LacksInputs, LacksJoined, LacksRows, LacksRowsAs, RemarksAll, ShowsAll, remarks_on}
use Rattle.ruled_io.specs.Stream.{Draws, limit_of_whole}
use Rattle.ruled_io.specs.declared.fault.InputFault.{InputFault}
use Rattle.ruled_io.specs.declared.fault.InputFault.TheVariants as input
use Rattle.ruled_io.specs.declared.fault.InputFault.TheVariants.{Memory}
use Rattle.ruled_io.specs.declared.fault.ReadFault.{ReadFault}
use Rattle.ruled_io.specs.declared.fault.RunFault.{RunFault}
use Rattle.ruled_io.specs.declared.fault.RunFault.TheVariants.{Input, Read, Closed, Write}
use Rattle.ruled_io.specs.declared.formats.Known.{Known}
use Rattle.ruled_io.specs.declared.formats.Format.{Format}
use Rattle.ruled_io.specs.declared.formats.Format.TheVariants.{Separated, Json, JsonLines}
use Rattle.ruled_io.specs.declared.program.Remarks.{Remarks}
use Rattle.ruled_io.specs.declared.request.Query.{Query}
use Rattle.ruled_io.specs.declared.request.Request.{Request}
use Rattle.ruled_io.specs.declared.request.Selection.{Selection}
use Rattle.ruled_io.specs.declared.request.Selection.TheVariants.{Query as Select}
use Rattle.ruled_io.specs.declared.request.Source.{Source}
use Rattle.ruled_io.proofs.Fronts.{begins-all, begins-kept}

-- ---- the rows of all bytes

module _ {V : Type 0} (rows : V → List (List Text)) (needed : Option ℕ) (source : Source) (bytes : List ℕ) where
  -- they are in the bytes
  module _ (members : Rules) (known : Known) (at : members ≡ members_of source) (is : known ≡ format_told source) (other : holds_database source bytes ≡ false) where
    same_fault : input_fault None (members_of source) (format_told source) bytes ≡ input_fault None members known bytes
    same_fault = ap (λ (p : Rules). input_fault None p (format_told source) bytes) (sym at) ∙ ap (λ (k : Known). input_fault None members k bytes) (sym is)

    same_rows : rows_in None members known bytes ≡ rows_in None (members_of source) (format_told source) bytes
    same_rows = ap (λ (k : Known). rows_in None members k bytes) is ∙ ap (λ (p : Rules). rows_in None p (format_told source) bytes) at

    pub held_rows : (result : Result V InputFault) → IfOk result (λ v. rows v ≡ rows_in None members known bytes) → Tells (input_fault None members known bytes) result
        → IfOk result (λ v. AreRows (limit_of_whole (holds_database source bytes) needed) source bytes (rows v))
    held_rows (Ok v) held tells = subst (λ (holds : Bool). AreRowsAs (limit_of_whole holds needed) holds source bytes (rows v)) (sym other) (same_fault ∙ tells, held ∙ same_rows)
    held_rows (Err fault) held tells = tt

    pub lacking_rows : (result : Result V InputFault) → Tells (input_fault None members known bytes) result → IfErr result (LacksRows (limit_of_whole (holds_database source bytes) needed) source bytes)
    lacking_rows (Ok v) tells = tt
    lacking_rows (Err fault) tells = subst (λ (holds : Bool). LacksRowsAs (limit_of_whole holds needed) holds source bytes fault) (sym other) (λ counts. same_fault ∙ tells counts)

  -- they are asked of a database
  pub asked_held : (result : Result V InputFault) → holds_database source bytes ≡ true → IfOk result (λ v. AreAsked needed source bytes (rows v)) → IfOk result (λ v. AreRows (limit_of_whole (holds_database source bytes) needed) source bytes (rows v))
  asked_held (Ok v) holds asked = subst (λ (h : Bool). AreRowsAs (limit_of_whole h needed) h source bytes (rows v)) (sym holds) asked
  asked_held (Err fault) holds asked = tt

  pub asked_lacking : (result : Result V InputFault) → holds_database source bytes ≡ true → IfErr result (LacksRowsAs needed true source bytes) → IfErr result (LacksRows (limit_of_whole (holds_database source bytes) needed) source bytes)
  asked_lacking (Ok v) holds lacks = tt
  asked_lacking (Err fault) holds lacks = subst (λ (h : Bool). LacksRowsAs (limit_of_whole h needed) h source bytes fault) (sym holds) lacks

-- ---- what is asked of a database

module _ {X : Type 0} (limit : Option ℕ) (selection : Option Selection) (bytes : List ℕ) where
  -- a fault of a query
  pub of_query : (found : SqlFault) (result : Result X InputFault) → LacksAnswer selection bytes found → IsErrAnd result (λ fault. fault ≡ fault_of_sql found) → IfErr result (LacksSelected limit selection bytes)
  of_query found (Ok x) none told = absurd told
  of_query sql.Database (Err fault) none told = subst (LacksSelected limit selection bytes) (sym told) none
  of_query sql.Damage (Err fault) none told = subst (LacksSelected limit selection bytes) (sym told) none
  of_query (sql.NoRows table) (Err fault) none told = subst (LacksSelected limit selection bytes) (sym told) none
  of_query (sql.Columns table error) (Err fault) none told = subst (LacksSelected limit selection bytes) (sym told) none
  of_query (sql.NoTable left) (Err fault) none told = subst (LacksSelected limit selection bytes) (sym told) none
  of_query (sql.Query (query.Refused error)) (Err fault) none told = subst (LacksSelected limit selection bytes) (sym told) none
  of_query (sql.Query (query.Missing what left)) (Err fault) none told = subst (LacksSelected limit selection bytes) (sym told) none
  of_query (sql.Query (query.Limit steps)) (Err fault) none told = subst (LacksSelected limit selection bytes) (sym told) none
  of_query (sql.Query query.Change) (Err fault) none told = subst (LacksSelected limit selection bytes) (sym told) none
  of_query (sql.Query (query.Encoding row)) (Err fault) none told = subst (LacksSelected limit selection bytes) (sym told) none
  of_query (sql.Query query.Memory) (Err fault) none told = subst (LacksSelected limit selection bytes) (sym told) tt
  of_query sql.Memory (Err fault) none told = subst (LacksSelected limit selection bytes) (sym told) tt

  -- a fault of a table, or of the list of all
  pub of_stored : (found : DatabaseFault) (result : Result X InputFault) → LacksStored limit selection bytes found → IsErrAnd result (λ fault. fault ≡ fault_of_database found)
      → IfErr result (LacksSelected limit selection bytes)
  of_stored found (Ok x) lacks told = absurd told
  of_stored database.Database (Err fault) lacks told = subst (LacksSelected limit selection bytes) (sym told) lacks
  of_stored database.Encoding (Err fault) lacks told = subst (LacksSelected limit selection bytes) (sym told) lacks
  of_stored database.Absent (Err fault) lacks told = subst (LacksSelected limit selection bytes) (sym told) lacks
  of_stored database.Elsewhere (Err fault) lacks told = subst (LacksSelected limit selection bytes) (sym told) lacks
  of_stored database.Keyed (Err fault) lacks told = subst (LacksSelected limit selection bytes) (sym told) lacks
  of_stored database.Computed (Err fault) lacks told = subst (LacksSelected limit selection bytes) (sym told) lacks
  of_stored (database.Schema table.Damage) (Err fault) lacks told = subst (LacksSelected limit selection bytes) (sym told) lacks
  of_stored (database.Schema table.Default) (Err fault) lacks told = subst (LacksSelected limit selection bytes) (sym told) lacks
  of_stored (database.Schema (table.Encoding row)) (Err fault) lacks told = subst (LacksSelected limit selection bytes) (sym told) lacks
  of_stored (database.Schema table.Memory) (Err fault) lacks told = subst (LacksSelected limit selection bytes) (sym told) tt
  of_stored (database.Table table.Damage) (Err fault) lacks told = subst (LacksSelected limit selection bytes) (sym told) lacks
  of_stored (database.Table table.Default) (Err fault) lacks told = subst (LacksSelected limit selection bytes) (sym told) lacks
  of_stored (database.Table (table.Encoding row)) (Err fault) lacks told = subst (LacksSelected limit selection bytes) (sym told) lacks
  of_stored (database.Table table.Memory) (Err fault) lacks told = subst (LacksSelected limit selection bytes) (sym told) tt

-- ---- what is wrong with the rows that a query reads

abbrev is_of_rows : InputFault → Bool
is_of_rows (input.Rows fault) = true
is_of_rows (input.Json fault) = true
is_of_rows (input.Sql fault) = false
is_of_rows (input.Database fault) = false
is_of_rows input.Log = false
is_of_rows (input.Stream fault) = false
is_of_rows (input.Further number fault) = true
is_of_rows (input.Column name) = false
is_of_rows input.Sort = false
is_of_rows input.Totals = false
is_of_rows input.Memory = true

of-rows : (fault : RowsFault) → is_of_rows (fault_of_rows fault) ≡ true
of-rows (rows.OpenQuote line) = refl
of-rows (rows.BehindQuote line) = refl
of-rows (rows.Length row line fields columns) = refl
of-rows (rows.Encoding row line) = refl
of-rows rows.Memory = refl

of-json : (fault : JsonFault) → is_of_rows (fault_of_json fault) ≡ true
of-json (json.Encoding place) = refl
of-json (json.Syntax place) = refl
of-json json.NoMember = refl
of-json json.NoRecords = refl
of-json (json.NoObject place) = refl
of-json (json.NoColumn place) = refl
of-json json.Memory = refl

mapped : {A : Type 0} (f : A → InputFault) → ((a : A) → is_of_rows (f a) ≡ true) → (found : Option A) (fault : InputFault) → option_map f found ≡ Some fault → is_of_rows fault ≡ true
mapped f each None fault is = absurd cc
mapped f each (Some a) fault is = let same : f a ≡ fault = cc in subst (λ (it : InputFault). is_of_rows it ≡ true) same (each a)

of-format : (members : Rules) (format : Format) (bytes : List ℕ) (fault : InputFault) → format_fault members format bytes ≡ Some fault → is_of_rows fault ≡ true
of-format members (Separated dialect) bytes fault is = mapped fault_of_rows of-rows _ fault is
of-format members Json bytes fault is = mapped fault_of_json of-json _ fault is
of-format members JsonLines bytes fault is = mapped fault_of_json of-json _ fault is

of-input : (members : Rules) (known : Known) (bytes : List ℕ) (fault : InputFault) → input_fault None members known bytes ≡ Some fault → is_of_rows fault ≡ true
of-input members known bytes fault is = of-format members (format_in known bytes) (content_of (format_in known bytes) bytes) fault is

of-further : (number : ℕ) (fault : InputFault) → is_of_rows fault ≡ true → is_of_rows (of_further number fault) ≡ true
of-further number (input.Rows fault) is = refl
of-further number (input.Json fault) is = refl
of-further number (input.Sql fault) is = is
of-further number (input.Database fault) is = is
of-further number input.Log is = is
of-further number (input.Stream fault) is = is
of-further number (input.Further other fault) is = refl
of-further number (input.Column name) is = is
of-further number input.Sort is = is
of-further number input.Totals is = is
of-further number input.Memory is = refl

of-mapped : (number : ℕ) (found : Option InputFault) → ((fault : InputFault) → found ≡ Some fault → is_of_rows fault ≡ true) → (fault : InputFault) → option_map (of_further number) found ≡ Some fault → is_of_rows fault ≡ true
of-mapped number None each fault is = absurd cc
of-mapped number (Some found) each fault is = let same : of_further number found ≡ fault = cc in subst (λ (it : InputFault). is_of_rows it ≡ true) same (of-further number found (each found refl))

of-read-by : (b : Bool) (number : ℕ) (found : Option InputFault) → ((fault : InputFault) → found ≡ Some fault → is_of_rows fault ≡ true) → (fault : InputFault)
    → (if b then Some (input.Further number further.Database) else option_map (of_further number) found) ≡ Some fault → is_of_rows fault ≡ true
of-read-by true number found each fault is = let same : input.Further number further.Database ≡ fault = cc in subst (λ (it : InputFault). is_of_rows it ≡ true) same refl
of-read-by false number found each fault is = of-mapped number found each fault is

of-either : (first others : Option InputFault) → ((fault : InputFault) → first ≡ Some fault → is_of_rows fault ≡ true) → ((fault : InputFault) → others ≡ Some fault → is_of_rows fault ≡ true)
    → (fault : InputFault) → option_or first others ≡ Some fault → is_of_rows fault ≡ true
of-either None others one two fault is = two fault is
of-either (Some found) others one two fault is = one fault is

of-tables : (query : Query) (number : ℕ) (tables : List QueryTable) (fault : InputFault) → tables_fault query number tables ≡ Some fault → is_of_rows fault ≡ true
of-tables query number [] fault is = absurd cc
of-tables query number (table ∷ tables) fault is =
    of-either (fault_read query number table) (tables_fault query (suc number) tables)
    (of-read-by (sees_database table.known table.bytes.items) number (input_fault None (members_in query) table.known table.bytes.items) (of-input (members_in query) table.known table.bytes.items))
    (of-tables query (suc number) tables) fault is

of-queried : (known : Known) (query : Query) (bytes : List ℕ) (fault : InputFault) → queried_fault known query bytes ≡ Some fault → is_of_rows fault ≡ true
of-queried known query bytes fault is =
    of-either (input_fault None (members_in query) known bytes) (tables_fault query 0 query.tables.items) (of-input (members_in query) known bytes) (of-tables query 0 query.tables.items) fault is

module _ (query : Query) (known : Known) (bytes : List ℕ) (is : known_in query.known bytes ≡ Some known) where
  abbrev Lacks : InputFault → Type 0
  Lacks fault = LacksSelected None (Some (Select query)) bytes fault

  table-lacks : (fault : InputFault) → LacksTableOf (Some known) query bytes fault → LacksQueried (Some (Select query)) bytes fault
  table-lacks fault lacks = subst (λ (it : Option Known). LacksTableOf it query bytes fault) (sym is) lacks

  -- an input has none
  of_table : (fault : InputFault) → (is_memory fault ≡ false → queried_fault known query bytes ≡ Some (but_line_in fault)) → Lacks fault
  of_table (input.Rows fault) tells = table-lacks (input.Rows fault) (tells refl)
  of_table (input.Json fault) tells = table-lacks (input.Json fault) (tells refl)
  of_table (input.Sql fault) tells = absurd (false≢true (of-queried known query bytes (input.Sql fault) (tells refl)))
  of_table (input.Database fault) tells = absurd (false≢true (of-queried known query bytes (input.Database fault) (tells refl)))
  of_table input.Log tells = absurd (false≢true (of-queried known query bytes input.Log (tells refl)))
  of_table (input.Stream fault) tells = absurd (false≢true (of-queried known query bytes (input.Stream fault) (tells refl)))
  of_table (input.Further number fault) tells = table-lacks (input.Further number fault) (tells refl)
  of_table (input.Column name) tells = absurd (false≢true (of-queried known query bytes (input.Column name) (tells refl)))
  of_table input.Sort tells = absurd (false≢true (of-queried known query bytes input.Sort (tells refl)))
  of_table input.Totals tells = absurd (false≢true (of-queried known query bytes input.Totals (tells refl)))
  of_table input.Memory tells = tt

  -- all have them, and the query has none
  pub of_table_query : {X : Type 0} (found : SqlFault) (result : Result X InputFault) → queried_fault known query bytes ≡ None
      → queries.LacksQueried (tables_of known query bytes) (string_bytes query.text) query.steps found
      → IsErrAnd result (λ fault. fault ≡ fault_of_sql found) → IfErr result (LacksSelected None (Some (Select query)) bytes)
  of_table_query found result sound none told =
      of_query None (Some (Select query)) bytes found result (subst (λ (it : Option Known). LacksAnswerOf it query bytes found) (sym is) (sound, none)) told

  -- a fault of rows is handed on
  pub of_rows : {X : Type 0} (found : InputFault) (result : Result X InputFault) → (is_memory found ≡ false → queried_fault known query bytes ≡ Some (but_line_in found)) → IsErrAnd result (λ fault. fault ≡ found)
      → IfErr result (LacksSelected None (Some (Select query)) bytes)
  of_rows found (Ok x) tells told = tt
  of_rows found (Err fault) tells told = subst Lacks (sym told) (of_table found tells)

-- a fault of a selection, where no log hides rows
pub of_selection : {X : Type 0} (limit : Option ℕ) (source : Source) (bytes : List ℕ) (result : Result X InputFault) → hides_rows (log_of source) bytes ≡ false
    → IfErr result (LacksSelected limit (selection_of source) bytes) → IfErr result (LacksRowsAs limit true source bytes)
of_selection limit source bytes (Ok x) shown lacks = tt
of_selection limit source bytes (Err (input.Rows fault)) shown lacks = (shown, lacks)
of_selection limit source bytes (Err (input.Json fault)) shown lacks = (shown, lacks)
of_selection limit source bytes (Err (input.Sql fault)) shown lacks = (shown, lacks)
of_selection limit source bytes (Err (input.Database fault)) shown lacks = (shown, lacks)
of_selection limit source bytes (Err input.Log) shown lacks = absurd lacks
of_selection limit source bytes (Err (input.Stream fault)) shown lacks = absurd lacks
of_selection limit source bytes (Err (input.Further number fault)) shown lacks = (shown, lacks)
of_selection limit source bytes (Err (input.Column name)) shown lacks = absurd lacks
of_selection limit source bytes (Err input.Sort) shown lacks = absurd lacks
of_selection limit source bytes (Err input.Totals) shown lacks = absurd lacks
of_selection limit source bytes (Err input.Memory) shown lacks = tt

-- ---- where the bytes are known

pub some-known : (given : Option (List ℕ)) (P : List ℕ → Type 0) → ((bytes : List ℕ) → P bytes) → IfSome given P
some-known None P p = tt
some-known (Some bytes) P p = p bytes

pub if-so : {P Q : List ℕ → Type 0} (given : Option (List ℕ)) → IfSome given P → ((bytes : List ℕ) → P bytes → Q bytes) → IfSome given Q
if-so None p q = tt
if-so (Some bytes) p q = q bytes p

-- what holds of the bytes that were read holds of those that were given
pub if_given : (given : Option (List ℕ)) (bytes : List ℕ) (P : List ℕ → Type 0) → IfSome given (λ known. bytes ≡ known) → P bytes → IfSome given P
if_given None bytes P is p = tt
if_given (Some known) bytes P is p = subst P is p

-- what holds of a fault that is handed on
pub handed-known : {X F : Type 0} (given : Option (List ℕ)) (found : F) (result : Result X F) (P : List ℕ → F → Type 0) → IsErrAnd result (λ fault. fault ≡ found) → IfSome given (λ bytes. P bytes found)
    → IfErr result (λ fault. IfSome given (λ bytes. P bytes fault))
handed-known given found (Ok x) P is holds = absurd is
handed-known {X} {F} given found (Err fault) P is holds = subst (λ (it : F). IfSome given (λ bytes. P bytes it)) (sym is) holds

-- what holds anyway holds of an answer
pub on-ok : {X F P : Type 0} (r : Result X F) → P → OnOk r P
on-ok (Ok x) p = p
on-ok (Err fault) p = tt

pub each-err : {X F : Type 0} {P : F → Type 0} (r : Result X F) → ((fault : F) → r ≡ Err fault → P fault) → IfErr r P
each-err (Ok x) p = tt
each-err (Err fault) p = p fault refl

-- ---- an input

-- a fault of a read
pub of-read : (fault : RunFault) → is_read fault ≡ true → (cause : ReadFault) × (fault ≡ Read cause)
of-read (Input fault) read = absurd (false≢true read)
of-read (Read cause) read = (cause, refl)
of-read Closed read = absurd (false≢true read)
of-read Write read = absurd (false≢true read)

memory-lacks : (limit : Option ℕ) (holds : Bool) (source : Source) (bytes : List ℕ) → LacksRowsAs limit holds source bytes Memory
memory-lacks limit true source bytes = tt
memory-lacks limit false source bytes = λ counts. absurd (true≢false counts)

pub read-lacks : (limit : Option ℕ) (source : Source) (bytes : List ℕ) (found : RunFault) → IsOfRead found → LacksInput limit source bytes found
read-lacks limit source bytes found (inl memory) = subst (LacksInput limit source bytes) (sym memory) (memory-lacks limit (holds_database source bytes) source bytes)
read-lacks limit source bytes found (inr read) = let (cause, is) = of-read found read in subst (LacksInput limit source bytes) (sym is) tt

-- ---- several inputs

-- the first one lacks its rows
pub first-lacks : (request : Request) (bytes : List ℕ) (fault : RunFault) → LacksInput (rows_needed request) request.source bytes fault → LacksInputs request bytes fault
first-lacks request bytes (Input fault) lacks = inl lacks
first-lacks request bytes (Read fault) lacks = tt
first-lacks request bytes Closed lacks = absurd lacks
first-lacks request bytes Write lacks = absurd lacks

-- a further one adds none, or memory is refused
pub further-lacks : (request : Request) (bytes : List ℕ) (first : List (List Text)) (fault : InputFault) → (is_memory fault ≡ false → further_fault request.view request.further.items first ≡ Some (but_line_in fault)) → AreRows (rows_needed request) request.source bytes first
    → LacksJoined request bytes fault
further-lacks request bytes first input.Memory tells are = inl (memory-lacks (rows_needed request) (holds_database request.source bytes) request.source bytes)
further-lacks request bytes first (input.Rows fault) tells are = inr (first, are, tells refl)
further-lacks request bytes first (input.Json fault) tells are = inr (first, are, tells refl)
further-lacks request bytes first (input.Sql fault) tells are = inr (first, are, tells refl)
further-lacks request bytes first (input.Database fault) tells are = inr (first, are, tells refl)
further-lacks request bytes first input.Log tells are = inr (first, are, tells refl)
further-lacks request bytes first (input.Stream fault) tells are = inr (first, are, tells refl)
further-lacks request bytes first (input.Further number fault) tells are = inr (first, are, tells refl)
further-lacks request bytes first (input.Column name) tells are = inr (first, are, tells refl)
further-lacks request bytes first input.Sort tells are = inr (first, are, tells refl)
further-lacks request bytes first input.Totals tells are = inr (first, are, tells refl)

-- ---- a run at once

pub lacks-caused : (request : Request) (bytes : List ℕ) (old : Option (List ℕ)) (fault : RunFault) → LacksInputs request bytes fault → CausedAtOnce request bytes fault old old
lacks-caused request bytes old (Input fault) lacks = (λ soft. (inl lacks, Keeps-refl old), λ memory. inl (Keeps-refl old))
lacks-caused request bytes old (Read fault) lacks = Keeps-refl old
lacks-caused request bytes old Closed lacks = absurd lacks
lacks-caused request bytes old Write lacks = absurd lacks

module _ (request : Request) (bytes : List ℕ) (rows : List (List Text)) (are : AreJoined request bytes rows) where
  -- their table isn't written
  pub draws-caused : (X : Type 0) (old new : Option (List ℕ)) (fault : RunFault) → Draws (table_text request.view rows) (table_fault request.view rows) old new {X = X} (Err fault) → CausedAtOnce request bytes fault old new
  draws-caused X old new (Input fault) (soft, memory) = (λ found. (inr (rows, are, (soft found).0), (soft found).1), λ lost. inr (rows, are, memory lost))
  draws-caused X old new (Read fault) draws = absurd draws
  draws-caused X old new Closed draws = (rows, are, draws)
  draws-caused X old new Write draws = (rows, are, draws)

  -- it is written, but not shown
  pub unshown-caused : (old mid new : Option (List ℕ)) (fault : RunFault) → is_of_write fault ≡ true → Appends old mid (table_text request.view rows) → Keeps mid new → CausedAtOnce request bytes fault old new
  unshown-caused old mid new (Input fault) failed wrote kept = absurd (false≢true failed)
  unshown-caused old mid new (Read fault) failed wrote kept = absurd (false≢true failed)
  unshown-caused old mid new Closed failed wrote kept = (rows, are, begins-kept old mid new _ (begins-all old mid _ wrote) kept)
  unshown-caused old mid new Write failed wrote kept = (rows, are, begins-kept old mid new _ (begins-all old mid _ wrote) kept)

  -- and shown
  pub drawn-shown : (old mid new : Option (List ℕ)) → table_fault request.view rows ≡ None → Appends old mid (table_text request.view rows) → Keeps mid new → (text : Text) × ShowsAll request bytes text × Appends old new text
  drawn-shown old mid new fine wrote kept = (table_text request.view rows, (rows, are, fine, refl), Appends-kept old mid new _ wrote kept)

not-true : (b : Bool) → not b ≡ true → b ≡ false
not-true true is = absurd (false≢true is)
not-true false is = refl

of-write-late : (fault : RunFault) → is_of_write fault ≡ true → is_early fault ≡ false
of-write-late (Input fault) failed = absurd (false≢true failed)
of-write-late (Read fault) failed = absurd (false≢true failed)
of-write-late Closed failed = refl
of-write-late Write failed = refl

-- a fault that is found first is told before anything is written
pub draws-early : (X : Type 0) (text : Text) (wrong : Option ViewFault) (old new : Option (List ℕ)) (fault : RunFault) → Draws text wrong old new {X = X} (Err fault) → is_early fault ≡ true → Keeps old new
draws-early X text wrong old new (Input fault) (soft, memory) early = (soft (not-true (is_memory fault) early)).1
draws-early X text wrong old new (Read fault) draws early = absurd draws
draws-early X text wrong old new Closed draws early = absurd (false≢true early)
draws-early X text wrong old new Write draws early = absurd (false≢true early)

pub early-handed : (X : Type 0) {Y : Type 0} (text : Text) (wrong : Option ViewFault) (old new : Option (List ℕ)) (found : RunFault) (result : Result Y RunFault) → Draws text wrong old new {X = X} (Err found) → IsErrAnd result (λ fault. fault ≡ found)
    → IfErr result (λ fault. is_early fault ≡ true → Keeps old new)
early-handed X text wrong old new found (Ok x) draws is = absurd is
early-handed X text wrong old new found (Err fault) draws is = λ early. draws-early X text wrong old new found draws (ap is_early (sym is) ∙ early)

-- the table is written, and then shown
module _ {X : Type 0} (given : Option (List ℕ)) (request : Request) (rows : List (List Text)) (old mid new : Option (List ℕ)) (result : Result X RunFault) (are : IfSome given (λ bytes. AreJoined request bytes rows))
    (drawn : (table_fault request.view rows ≡ None) × Appends old mid (table_text request.view rows)) (kept : Keeps mid new) where
  pub shown-drawn : OnOk result (IfSome given (λ bytes. (text : Text) × ShowsAll request bytes text × Appends old new text))
  shown-drawn = on-ok result (if-so {P = λ bytes. AreJoined request bytes rows} given are (λ bytes these. drawn-shown request bytes rows these old mid new drawn.0 drawn.1 kept))

  pub after-drawn : ((fault : RunFault) → result ≡ Err fault → is_of_write fault ≡ true) → IfErr result (λ fault. IfSome given (λ bytes. CausedAtOnce request bytes fault old new))
  after-drawn failed = each-err result (λ fault is. if-so {P = λ bytes. AreJoined request bytes rows} given are (λ bytes these. unshown-caused request bytes rows these old mid new fault (failed fault is) drawn.1 kept))

-- this is remarked
abbrev remarks-of : ℕ → Option ℕ → Option ℕ → Remarks
remarks-of padded wide inner = record { padded = padded; wide = wide; inner = inner }

pub remarked-by : (given : Option (List ℕ)) (request : Request) (rows : List (List Text)) (padded : ℕ) (wide inner : Option ℕ) (result : Result Remarks RunFault) → IfSome given (λ bytes. AreJoined request bytes rows)
    → padded ≡ padded_rows request.view rows → wide ≡ table_excess request.view rows → inner ≡ inner_place request.source rows → IfOk result (λ told. told ≡ remarks-of padded wide inner) → IfOk result (λ remarks. IfSome given (λ bytes. RemarksAll request bytes remarks))
remarked-by given request rows padded wide inner (Ok told) are pads exceeds has same =
    let is : told ≡ remarks_on request rows = same ∙ ap (λ (n : ℕ). remarks-of n wide inner) pads ∙ ap (λ (w : Option ℕ). remarks-of (padded_rows request.view rows) w inner) exceeds
    ∙ ap (remarks-of (padded_rows request.view rows) (table_excess request.view rows)) has in
    if-so {P = λ bytes. AreJoined request bytes rows} given are (λ bytes these. (rows, these, is))
remarked-by given request rows padded wide inner (Err fault) are pads exceeds has same = tt

-- what a result says of a write, its fault does
pub written-err : {X : Type 0} (r : Result X RunFault) → failure_in r ≡ fault_written (result_err r)
written-err (Ok x) = refl
written-err (Err fault) = refl

-- what has nothing of a write
pub read-part : (fault : RunFault) → IsOfRead fault → write_part fault ≡ None
read-part fault (inl memory) = ap write_part memory
read-part fault (inr read) = ap write_part (of-read fault read).1

pub handed-part : {X : Type 0} (found : RunFault) (result : Result X RunFault) → write_part found ≡ None → IsErrAnd result (λ fault. fault ≡ found) → IfErr result (λ fault. write_part fault ≡ None)
handed-part found (Ok x) none is = absurd is
handed-part found (Err fault) none is = ap write_part is ∙ none

pub unwritten-told : {X : Type 0} (found : RunFault) (result : Result X RunFault) → write_part found ≡ None → IsErrAnd result (λ fault. fault ≡ found) → None ≡ failure_in result
unwritten-told found (Ok x) none is = absurd is
unwritten-told found (Err fault) none is = sym (ap write_part is ∙ none)

-- a write that fails isn't found first
pub late : {X : Type 0} (K : Type 0) (result : Result X RunFault) → ((fault : RunFault) → result ≡ Err fault → is_of_write fault ≡ true) → IfErr result (λ fault. is_early fault ≡ true → K)
late K (Ok x) failed = tt
late K (Err fault) failed = λ early. absurd (true≢false (sym early ∙ of-write-late fault (failed fault refl)))

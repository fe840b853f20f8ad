-- What is known of opened databases, of the rows and texts of answers, and of files and queries that have none.
use Rattle.std.proofs.Common.{◌≡◌, ◌<◌, ◌+◌, ◌∙◌, ◌∷◌, ◌++◌, ℕ, suc, [], List, length, map, take, get_or, IsTrue, true, Option, None, Some, Result, Ok, Err, refl, sym, ap, subst, subst₂}
use Rattle.std.proofs.Common.{arith, ◌⊎◌, ◌==◌, Bool, false, if◌then◌else◌, inl, inr, ap₂}
use Rattle.std.specs.Prelude.{IfErr, slice_index_or, unwrap_or}
use Rattle.std.specs.Str.{IsUtf8}
use Rattle.std.proofs.lemmas.Bool.{and_from, true≢false}
use Rattle.std.proofs.lemmas.List.{get_or-map, length-map, length-take-le, map-append, map_more, take_more}
use Rattle.csv.specs.Records.{AllText, Row as Fields, fields_of}
use Rattle.sqlite_value.specs.Order.{Row, column}
use Rattle.sqlite_value.specs.declared.value.Value.{Value}
use Rattle.sqlite_value.specs.declared.value.Value.TheVariants.{Null, Int, Real, Text, Blob}
use Rattle.sqlite_disk.specs.declared.Disk.{Ghosts}
use Rattle.sqlite_trees.specs.declared.store.Store.{Ghosts as StoreGhosts}
use Rattle.sqlite_pool.specs.Pool.{files}
use Rattle.sqlite_pool.proofs.StateLemmas.{clean_is}
use Rattle.sqlite_store.specs.declared.store.FileStore.{FileStore}
use Rattle.sqlite_trees.proofs.Doubt.{no_doubt}
use Rattle.sqlite_schema.specs.declared.command.Returning.{Returning}
use Rattle.sqlite_resolve.specs.declared.compiled.Compiled.{Compiled}
use Rattle.sqlite_resolve.specs.declared.error.CompileError.{CompileError}
use Rattle.sqlite.specs.Does.{Does, IsWithin, Tally as Made}
use Rattle.sqlite.specs.Effect.{Database, RefusesToRead}
use Rattle.sqlite.specs.Files.{AreFoundIn, file_state, FailsToOpenFiles, HoldsDatabase, IsCleanLeft, tally_left}
use Rattle.sqlite.specs.Held.{Held, state}
use Rattle.sqlite.specs.Listing.{IsSourceOf, reads_listing, understood, misses_table}
use Rattle.sqlite.specs.Outline.{Outline}
use Rattle.sqlite.specs.Start.{FindsIn}
use Rattle.sqlite.specs.State.{HasCleanDisk, IsLive, IsStatement, IsUnchanged, Opens, Shown, ShowsRows, State, Writes, mode_of, text_of, FailsToQuery, FailsToShow, HasCause, IsMisplaced}
use Rattle.sqlite.specs.State.{IsNoStatement, IsNotRun, MayChange, RunsCommand, store_error}
use Rattle.sqlite.specs.Steps.{Outlines, column_names}
use Rattle.ruled_database.specs.Tables.{shown_text}
use Rattle.ruled_sql.specs.Answers.{Changes, IsAnswer, IsChange, IsFaultOfRow, IsHeld, Makes, Means, Shows, image_of, shown_rows, Fails, IsFaultOf, IsFaultOfFile, IsFaultOfText, IsNoQuery}
use Rattle.ruled_sql.specs.Answers.{IsOfTransaction, IsRefused, IsUnopened, LacksAnswer, LacksRows, LacksText, is_memory}
use Rattle.ruled_sql.specs.declared.fault.QueryFault.{QueryFault}
use Rattle.ruled_sql.specs.declared.fault.QueryFault.TheVariants.{Change, Encoding, Limit, Memory, Missing, Refused}
use Rattle.std.specs.Result.{IsErrAnd}
use Rattle.sqlite_disk.specs.declared.Files.{Files}
use Rattle.sqlite_disk.specs.declared.tally.Tally.{Tally}
use Rattle.sqlite_store.specs.Report.{named}
use Rattle.sqlite_wal.specs.Reads.{tally_of_files}
use Rattle.sqlite_trees.specs.declared.error.StoreError.{StoreError}
use Rattle.sqlite_trees.specs.declared.error.StoreError.TheVariants.{OutOfMemory, Io, Corrupt, Full, Broken, Unstorable}
use Rattle.sqlite_schema.specs.declared.command.Command.{Command}
use Rattle.sqlite.specs.Clock.{timed}
use Rattle.sqlite.specs.Closing.{files_left}
use Rattle.sqlite_schema.specs.declared.schema.Schema.{Schema}
use Rattle.ruled_sql.specs.Filled.{is_no_table}
use Rattle.ruled_sql.specs.Lacks.{missing_by, stray_in}
use Rattle.sqlite.specs.Opening.{FailsAs}
use Rattle.sqlite.specs.declared.error.Error.{Error}
use Rattle.sqlite.specs.declared.error.Error.TheVariants.{InvalidParameterCount, MultipleStatement, SqlInputError, SqliteFailure}
use Rattle.sqlite.specs.declared.file.Leftover.{Leftover}
use Rattle.ruled_sql.specs.declared.fault.SqlFault.{SqlFault}
use Rattle.sqlite_resolve.specs.declared.error.CompileError.TheVariants as compile
use Rattle.sqlite.specs.declared.error.ErrorCode.TheVariants as code
use Rattle.sqlite.specs.declared.file.Leftover.TheVariants as left
use Rattle.ruled_sql.specs.declared.fault.SqlFault.TheVariants as sql

-- ---- databases

-- over files that are always clean so is a connection
pub stays_clean : {D : Type 0} {g : Ghosts D} → ((file : D) → g.is_clean file ≡ true) → (c : Held (FileStore D g)) → HasCleanDisk (file_state c)
stays_clean clean c =
    let both = files c.store.pool in
    no_doubt _ (subst IsTrue (sym (clean_is c.store.pool)) (and_from _ _ (clean both.0) (clean both.1)))

-- the image of two files, of which the log is empty
pub found_in : (log db bytes : List ℕ) → log ≡ [] → db ≡ bytes → (s : State) → FindsIn (record { log = log; db = db }) s → FindsIn (image_of bytes) s
found_in log db bytes empty is s found =
    subst₂ (λ (l d : List ℕ). FindsIn (record { log = l; db = d }) s) empty is found

pub held : (bytes : List ℕ) (s : State) → Opens s → IsLive s → FindsIn (image_of bytes) s → IsHeld bytes s.now
held bytes s opens live found = record {
  found = subst (λ (db : Database). AreFoundIn (image_of bytes) db.trees) (sym opens.clean) found.reads;
  alone = λ trees holds. ap (λ (db : Database). db.trees) opens.clean ∙ found.holds trees holds;
  sound = (live opens.is_open).0;
}

-- ---- answers

-- what a limit of steps leaves and sets
module _ {S : Type 0} (over : StoreGhosts S) (old new : Held S) (limit : Option ℕ) (is : new ≡ record old { step_limit = limit }) where
  pub limited_now : (state over new).now ≡ (state over old).now
  limited_now = ap (λ (it : Held S). (state over it).now) is

  pub limited_changes : (state over new).changes ≡ (state over old).changes
  limited_changes = ap (λ (it : Held S). (state over it).changes) is

  pub limited_steps : (state over new).step_limit ≡ limit
  limited_steps = ap (λ (it : Held S). (state over it).step_limit) is

named_as : (known : Result Compiled CompileError) (c : Compiled) (it : Outline) → known ≡ Ok c → Outlines known it → it.columns ≡ column_names c
named_as known c it is outlines = let known : Outlines (Ok c) it = subst (λ k. Outlines k it) is outlines in known.2

module _ (query : List ℕ) (steps : ℕ) (old mid new : State) (rows : List Row) where
  -- a statement that returns what it writes
  module _ (c : Compiled) (params : Row) (what : Returning) (count : ℕ) (w : Writes mid new (Some what) c.command (text_of query c) params count) where
    made : old.step_limit ≡ Some steps → IsUnchanged old mid → mid.step_limit ≡ old.step_limit → c.returning ≡ Some what → Makes query steps old.now c params (Ok (w.tally, new.now))
    made limited same limit is =
        subst (λ (returning : Option Returning). Does (Some steps) (mode_of mid) params old.now (text_of query c) returning c.command (Ok (w.tally, new.now))) (sym is)
        (subst₂ (λ (most : Option ℕ) (db : Database). Does most (mode_of mid) params db (text_of query c) (Some what) c.command (Ok (w.tally, new.now))) (limit ∙ limited) same.0.now_is w.changed)

    counted : old.changes ≡ 0 → IsUnchanged old mid → unwrap_or w.tally.rows 0 ≡ new.changes
    counted uncounted same = ap (unwrap_or w.tally.rows) (sym (same.1.changes ∙ uncounted)) ∙ sym w.changes

  shows : old.changes ≡ 0 → old.step_limit ≡ Some steps → IsUnchanged old mid → mid.step_limit ≡ old.step_limit → new.changes ≡ 0 → (c : Compiled) (params : Row) (returning : Option Returning) → c.returning ≡ returning
      → ShowsRows mid new query c params rows returning → Shows query steps old.now c params returning rows
  shows uncounted limited same limit none c params None is h =
      (h.0, subst (λ (db : Database). IsSourceOf (reads_listing db.schema query) db h.0) same.0.now_is h.1, h.2)
  shows uncounted limited same limit none c params (Some what) is h =
      let w = h.1 in (w.tally, new.now, made c params what h.0 w limited same limit is, counted c params what h.0 w uncounted same ∙ none, h.2)

  changes : old.changes ≡ 0 → old.step_limit ≡ Some steps → IsUnchanged old mid → mid.step_limit ≡ old.step_limit → 0 < new.changes → (c : Compiled) (params : Row) (returning : Option Returning) → c.returning ≡ returning
      → ShowsRows mid new query c params rows returning → Changes query steps old.now c params
  changes uncounted limited same limit some c params None is h = let none : new.changes ≡ 0 = h.3.1.changes ∙ same.1.changes ∙ uncounted in absurd (omega (arith, some, none))
  changes uncounted limited same limit some c params (Some what) is h =
      let w = h.1 in (w.tally, new.now, made c params what h.0 w limited same limit is, subst (λ (n : ℕ). 0 < n) (sym (counted c params what h.0 w uncounted same)) some)

  means : IsUnchanged old mid → (c : Compiled) → IsStatement mid query [] c → Means query old.now c
  means same c it = record { is = subst (λ (db : Database). understood db.schema query ≡ Ok c) same.0.now_is it.is; whole = it.whole; bare = sym it.given }

  pub answers : (it : Outline) → old.changes ≡ 0 → old.step_limit ≡ Some steps → IsUnchanged old mid → mid.step_limit ≡ old.step_limit → it.text ≡ query → Outlines (understood old.now.schema query) it
      → Shown it.text [] mid new rows → new.changes ≡ 0 → IsWithin mid.step_limit (length rows) → IsAnswer query steps old.now it.columns rows
  unfolding Shown
  answers it uncounted limited same limit text outlines shown none few =
      let h = subst (λ (sql : List ℕ). Shown sql [] mid new rows) text shown in
      let meant = means same h.0 h.1 in
      record {
        statement = h.0;
        means = meant;
        time = h.1.now;
        shows = shows uncounted limited same limit none h.0 _ h.0.returning refl h.2;
        named = named_as (understood old.now.schema query) h.0 it meant.is outlines;
        within = subst (λ (most : Option ℕ). IsWithin most (length rows)) (limit ∙ limited) few;
      }

  pub changed : (it : Outline) → old.changes ≡ 0 → old.step_limit ≡ Some steps → IsUnchanged old mid → mid.step_limit ≡ old.step_limit → it.text ≡ query → Shown it.text [] mid new rows → 0 < new.changes
      → IsChange query steps old.now
  unfolding Shown
  changed it uncounted limited same limit text shown some =
      let h = subst (λ (sql : List ℕ). Shown sql [] mid new rows) text shown in (h.0, means same h.0 h.1, h.1.now, changes uncounted limited same limit some h.0 _ h.0.returning refl h.2)

-- ---- rows that are made one after another

-- one element more of a list
pub taken : {X : Type 0} (xs : List X) (i : ℕ) (x y : X) (old new : List X) → i < length xs → x ≡ get_or xs i x → new ≡ old ++ y ∷ [] → y ≡ x → old ≡ take i xs → new ≡ take (i + 1) xs
taken {X} xs i x y old new within is pushed same before =
    pushed
    ∙ ap (λ (ys : List X). ys ++ y ∷ []) before
    ∙ ap (λ (z : X). take i xs ++ z ∷ []) (same ∙ is)
    ∙ sym (take_more xs i x within)

-- one value more of a row
pub value_more : (null_text : List ℕ) (values : Row) (i : ℕ) (value : Value) (old new : List (List ℕ)) → i < length values → value ≡ column values i → new ≡ old ++ shown_text null_text value ∷ []
    → old ≡ map (shown_text null_text) (take i values) → new ≡ map (shown_text null_text) (take (i + 1) values)
value_more null_text values i value old new within is pushed before =
    pushed
    ∙ ap (λ (texts : List (List ℕ)). texts ++ shown_text null_text value ∷ []) before
    ∙ ap (λ (v : Value). map (shown_text null_text) (take i values) ++ shown_text null_text v ∷ []) is
    ∙ sym (map_more (shown_text null_text) values i Null within)

-- one row more of an answer
pub row_more : (null_text : List ℕ) (names : List (List ℕ)) (answer : List Row) (i : ℕ) (x : Row) (rows : List Fields) (fields : Fields) → i < length answer → x ≡ get_or answer i x
    → fields_of fields ≡ map (shown_text null_text) x → map fields_of rows ≡ shown_rows null_text names (take i answer)
    → map fields_of (rows ++ fields ∷ []) ≡ shown_rows null_text names (take (i + 1) answer)
row_more null_text names answer i x rows fields within is made before =
    map-append fields_of rows (fields ∷ [])
    ∙ ap (λ (texts : List (List (List ℕ))). texts ++ fields_of fields ∷ []) before
    ∙ ap (λ (text : List (List ℕ)). shown_rows null_text names (take i answer) ++ text ∷ []) made
    ∙ ap (λ (y : Row). shown_rows null_text names (take i answer) ++ map (shown_text null_text) y ∷ []) is
    ∙ ap (λ (texts : List (List (List ℕ))). names ∷ texts) (sym (map_more (map (shown_text null_text)) answer i x within))

-- a row of texts behind so many others, and behind the names
pub row-at : (word null_text : List ℕ) (names : List (List ℕ)) (answer : List Row) (i : ℕ) (x : Row) (rows : List Fields) (n : ℕ) → i < length answer → x ≡ get_or answer i x → map fields_of rows ≡ shown_rows word names (take i answer) → n ≡ length rows
    → map (shown_text null_text) x ≡ slice_index_or (shown_rows null_text names answer) n []
row-at word null_text names answer i x rows n within is before long =
    let some : length (map fields_of rows) ≡ suc (length (map (map (shown_text word)) (take i answer))) = ap length before in
    let count : n ≡ suc i = omega (arith, long, some, length-map rows fields_of, length-map (take i answer) (map (shown_text word)), length-take-le i answer (omega (arith, within))) in
    ap (map (shown_text null_text)) is ∙ sym (get_or-map (map (shown_text null_text)) answer i x [] within) ∙ ap (λ (k : ℕ). slice_index_or (shown_rows null_text names answer) k []) (sym count)

-- where all texts are UTF-8, they are with any text of NULL
pub all-texts : (null_text : List ℕ) → IsUtf8 null_text → (values : Row) → AllText (map (shown_text []) values) → AllText (map (shown_text null_text) values)
unfolding AllText
all-texts null_text is [] all = all
all-texts null_text is (Null ∷ values) all = (is, all-texts null_text is values all.1)
all-texts null_text is (Int n ∷ values) all = (all.0, all-texts null_text is values all.1)
all-texts null_text is (Real x ∷ values) all = (all.0, all-texts null_text is values all.1)
all-texts null_text is (Text bytes ∷ values) all = (all.0, all-texts null_text is values all.1)
all-texts null_text is (Blob bytes ∷ values) all = (all.0, all-texts null_text is values all.1)

-- so texts that aren't are none without it
pub texts-lack : {X : Type 0} (row : ℕ) (null_text : List ℕ) → IsUtf8 null_text → (values : Row) (result : Result X QueryFault) → IfErr result (IsFaultOfRow row (map (shown_text null_text) values))
    → IfErr result (IsFaultOfRow row (map (shown_text []) values))
texts-lack row null_text is values (Ok x) lacks = tt
texts-lack row null_text is values (Err (Refused error)) lacks = lacks
texts-lack row null_text is values (Err (Missing what left)) lacks = lacks
texts-lack row null_text is values (Err (Limit most)) lacks = lacks
texts-lack row null_text is values (Err Change) lacks = lacks
texts-lack row null_text is values (Err (Encoding at)) lacks = (lacks.0, λ all. lacks.1 (all-texts null_text is values all))
texts-lack row null_text is values (Err Memory) lacks = lacks

-- ---- files

-- whether an error says that files are no database, or damaged
abbrev says_none : Error → Bool
says_none (SqliteFailure code.NotADatabase) = true
says_none _ = false

abbrev says_damage : Error → Bool
says_damage (SqliteFailure code.DatabaseCorrupt) = true
says_damage _ = false

-- a failure of the disk says the one never, and the other only if a read failed its test
disk-says : (kind : StoreError) → says_none (store_error kind) ≡ false
disk-says OutOfMemory = refl
disk-says Io = refl
disk-says Corrupt = refl
disk-says Full = refl
disk-says Broken = refl
disk-says Unstorable = refl

disk-damages : (passed refused : Bool) → passed ≡ true → says_damage (store_error (if passed then (if refused then Io else Full) else Corrupt)) ≡ false
disk-damages true true is = refl
disk-damages true false is = refl
disk-damages false refused is = absurd (true≢false (sym is))

-- so such an error comes only of files that aren't what is wanted
not_wanted : (kind : StoreError) (old new : ℕ) (AtLimit Wanted : Type 0) → FailsAs kind old new AtLimit Wanted (SqliteFailure code.NotADatabase) → ¬ Wanted
not_wanted kind old new AtLimit Wanted (inl memory) = absurd (true≢false (ap says_none memory))
not_wanted kind old new AtLimit Wanted (inr (inl none)) = none.1
not_wanted kind old new AtLimit Wanted (inr (inr (inl disk))) = absurd (true≢false (ap says_none disk.0 ∙ disk-says kind))
not_wanted kind old new AtLimit Wanted (inr (inr (inr full))) = absurd (true≢false (ap says_none full.0))

not_sound : (kind : StoreError) (old new : ℕ) (AtLimit Wanted : Type 0) → says_damage (store_error kind) ≡ false → FailsAs kind old new AtLimit Wanted (SqliteFailure code.DatabaseCorrupt) → ¬ Wanted
not_sound kind old new AtLimit Wanted passed (inl memory) = absurd (true≢false (ap says_damage memory))
not_sound kind old new AtLimit Wanted passed (inr (inl none)) = none.1
not_sound kind old new AtLimit Wanted passed (inr (inr (inl disk))) = absurd (true≢false (ap says_damage disk.0 ∙ passed))
not_sound kind old new AtLimit Wanted passed (inr (inr (inr full))) = absurd (true≢false (ap says_damage full.0))

-- files that are always clean are so when they couldn't be opened
clean_left : {D : Type 0} {g : Ghosts D} → ((file : D) → g.is_clean file ≡ true) → (rest : Leftover D g) → IsCleanLeft rest
clean_left clean (left.Files both) = and_from _ _ (clean both.log) (clean both.db)
clean_left clean (left.Unopened it) =
    let both = files it.pool in
    subst IsTrue (sym (clean_is it.pool)) (and_from _ _ (clean both.0) (clean both.1))
clean_left clean (left.Store it) =
    let both = files it.pool in
    subst IsTrue (sym (clean_is it.pool)) (and_from _ _ (clean both.0) (clean both.1))

left-tally : {D : Type 0} {g : Ghosts D} (rest : Leftover D g) → tally_left rest ≡ tally_of_files g (files_left rest)
left-tally (left.Files both) = refl
left-tally (left.Unopened it) = refl
left-tally (left.Store it) = refl

-- why the bytes of two files, of which the log is empty, aren't opened
module _ {D : Type 0} {g : Ghosts D} (clean : (file : D) → g.is_clean file ≡ true) (both : Files D) (bytes : List ℕ) (rest : Leftover D g) (error : Error) (empty : g.seen both.log ≡ []) (is : g.seen both.db ≡ bytes)
    (fails : IsCleanLeft rest → FailsToOpenFiles both rest error) where
  refused-with : (e : Error) → error ≡ e → FailsToOpenFiles both rest e
  refused-with e says = subst (λ e. FailsToOpenFiles both rest e) says (fails (clean_left clean rest))

  unheld : (trees : _) → HoldsDatabase (record { log = []; db = bytes }) trees → HoldsDatabase (record { log = g.seen both.log; db = g.seen both.db }) trees
  unheld trees held = subst₂ (λ (l d : List ℕ). HoldsDatabase (record { log = l; db = d }) trees) (sym empty) (sym is) held

  pub unopened : (before after : Tally) (now : Files D) (fault : SqlFault) → before ≡ tally_of_files g (both.log, both.db) → (now.log, now.db) ≡ files_left rest → after ≡ tally_of_files g (now.log, now.db)
      → IsFaultOfFile error (after.caught == before.caught) fault → IsUnopened bytes fault
  unopened before after now sql.Database was left is says = λ trees held. not_wanted _ _ _ _ _ (refused-with _ says) (inl (trees, unheld trees held))
  unopened before after now sql.Damage was left is says =
      let same : after ≡ tally_left rest = is ∙ ap (tally_of_files g) left ∙ sym (left-tally rest) in
      let old = tally_of_files g (both.log, both.db) in
      let new = tally_left rest in
      let passed : (new.caught == old.caught) ≡ true = sym (ap₂ (λ (one two : Tally). one.caught == two.caught) same was) ∙ says.1 in
      λ trees held. not_sound (named old new) _ _ _ _ (disk-damages (new.caught == old.caught) (new.refused == old.refused) passed) (refused-with _ says.0) (inl (trees, unheld trees held))
  unopened before after now (sql.NoRows number) was left is says = absurd says
  unopened before after now (sql.Columns number found) was left is says = absurd says
  unopened before after now (sql.NoTable word) was left is says = absurd says
  unopened before after now (sql.Query found) was left is says = absurd says
  unopened before after now sql.Memory was left is says = tt

-- so no query has an answer of them
pub unopened-lacks : (bytes query : List ℕ) (steps : ℕ) (fault : SqlFault) → IsUnopened bytes fault → LacksRows bytes query steps fault
unopened-lacks bytes query steps sql.Database h = h
unopened-lacks bytes query steps sql.Damage h = h
unopened-lacks bytes query steps (sql.NoRows number) h = h
unopened-lacks bytes query steps (sql.Columns number found) h = h
unopened-lacks bytes query steps (sql.NoTable word) h = h
unopened-lacks bytes query steps (sql.Query found) h = absurd h
unopened-lacks bytes query steps sql.Memory h = h

-- ---- queries

-- an error that isn't of memory
told : (table query : List ℕ) (steps : ℕ) (db : Database) (error : Error) (fault : QueryFault) → IsFaultOf steps error fault → IsRefused table query steps db error → LacksAnswer table query steps db fault
told table query steps db error (Refused found) is h = subst (λ (it : Error). IsRefused table query steps db it) (sym is.0) h
told table query steps db error (Limit most) is h = (is.0, subst (λ (it : Error). IsRefused table query steps db it) is.1 h)
told table query steps db error (Missing what word) is h = absurd is
told table query steps db error Change is h = absurd is
told table query steps db error (Encoding row) is h = absurd is
told table query steps db error Memory is h = tt

-- one that is
of-memory : (table query : List ℕ) (steps : ℕ) (db : Database) (error : Error) (fault : QueryFault) → IsFaultOf steps error fault → is_memory error ≡ true → LacksAnswer table query steps db fault
of-memory table query steps db error (Refused found) is memory = absurd (true≢false (sym memory ∙ is.1))
of-memory table query steps db error (Limit most) is memory = absurd (true≢false (sym memory ∙ ap is_memory is.1))
of-memory table query steps db error (Missing what word) is memory = absurd is
of-memory table query steps db error Change is memory = absurd is
of-memory table query steps db error (Encoding row) is memory = absurd is
of-memory table query steps db error Memory is memory = tt

of-transaction : (s : State) (command : Command) (error : Error) → IsMisplaced s command error → IsOfTransaction command error
of-transaction s command error (inl (says, inl begin)) = inl (says, inl begin.0)
of-transaction s command error (inl (says, inr end)) = inl (says, inr end.0)
of-transaction s command error (inr h) = inr (h.0, h.1, h.2)

module _ (table query : List ℕ) (steps : ℕ) (old new : State) (error : Error) (fault : QueryFault) (is : IsFaultOf steps error fault) where
  abbrev Lacks : Type 0
  Lacks = LacksAnswer table query steps old.now fault

  -- the store fails
  by-cause : (TooBig : Type 0) → (TooBig → error ≡ SqliteFailure code.TooBig → Lacks) → (cause : StoreError) → error ≡ store_error cause → HasCause old new TooBig cause → Lacks
  by-cause TooBig big OutOfMemory same h = of-memory table query steps old.now error fault is (ap is_memory same)
  by-cause TooBig big Io same h = of-memory table query steps old.now error fault is (ap is_memory same)
  by-cause TooBig big Corrupt same h = of-memory table query steps old.now error fault is (ap is_memory same)
  by-cause TooBig big Full same h = of-memory table query steps old.now error fault is (ap is_memory same)
  by-cause TooBig big Broken same h = of-memory table query steps old.now error fault is (ap is_memory same)
  by-cause TooBig big Unstorable same h = big h same

  -- no name that is missing is found
  abbrev NamesNone : Type 0
  NamesNone = (found : CompileError) → understood old.now.schema query ≡ Err found → error ≡ SqlInputError found → new.now ≡ old.now → stray_in old.now.schema table query (missing_by found) ≡ None

  no-query : NamesNone → new.now ≡ old.now → IsNoStatement old query [] error → IsNoQuery table query old.now error
  no-query none same (inl h) = inl (h.0, h.1, none h.0 h.1 h.2 same, h.2)
  no-query none same (inr h) = inr h

  -- the text is no statement
  pub unread : NamesNone → IsNotRun old new query [] error → Lacks
  unfolding IsNotRun
  unread none (inl h) = told table query steps old.now error fault is (inl (no-query none h.1.0.now_is h.0))
  unread none (inr h) = by-cause ⊥ (λ none same. absurd none) h.0 h.1 h.2

  module _ (limited : old.step_limit ≡ Some steps) (c : Compiled) (it : IsStatement old query [] c) where
    abbrev params : Row
    params = timed [] c.formats it.now

    fails : Fails query steps old.now c params error c.returning → Lacks
    fails h = told table query steps old.now error fault is (inr (c, record { is = it.is; whole = it.whole; bare = sym it.given }, it.now, h))

    fails-as : (returning : Option Returning) → c.returning ≡ returning → Fails query steps old.now c params error returning → Lacks
    fails-as returning same h = fails (subst (λ (r : Option Returning). Fails query steps old.now c params error r) (sym same) h)

    abbrev Limited : Option ℕ → Result (Made × Database) (Option Error) → Type 0
    Limited most = Does most (mode_of old) params old.now (text_of query c) c.returning c.command

    refuses : (what : Returning) → c.returning ≡ Some what → IsMisplaced old c.command error ⊎ (MayChange c × Limited old.step_limit (Err (Some error))) → Lacks
    refuses what same (inl misplaced) = fails-as (Some what) same (inr (inr (of-transaction old c.command error misplaced)))
    refuses what same (inr refused) = fails-as (Some what) same (inl (subst (λ (most : Option ℕ). Limited most (Err (Some error))) limited refused.1))

    runs-not : (what : Returning) → c.returning ≡ Some what → RunsCommand old new query c params (Err error) → Lacks
    runs-not what same (inl h) = refuses what same h.0
    runs-not what same (inr h) =
        by-cause (Limited old.step_limit (Err None)) (λ none big. fails-as (Some what) same (inr (inl (subst (λ (most : Option ℕ). Limited most (Err None)) limited none, big)))) h.0 h.1 h.2

    unshown : (returning : Option Returning) → c.returning ≡ returning → FailsToShow old new query c params error returning → Lacks
    unshown None same h = fails-as None same (h.0, h.1, subst (λ (most : Option ℕ). RefusesToRead most c.command h.0 params error) limited h.2)
    unshown (Some what) same h = runs-not what same h

  pub unanswered : old.step_limit ≡ Some steps → ((found : CompileError) → understood old.now.schema query ≡ Err found → ⊥) → FailsToQuery query [] old new error → Lacks
  unfolding FailsToQuery
  unanswered limited known (inl h) = unread (λ found is same now. absurd (known found is)) h
  unanswered limited known (inr h) = unshown limited h.0 h.1 h.0.returning refl h.2

-- an answer that isn't UTF-8
pub unshown-lacks : (bytes query : List ℕ) (steps : ℕ) (db : Database) → IsHeld bytes db → (names : List (List ℕ)) (answer : List Row) → IsAnswer query steps db names answer → (fault : QueryFault) → LacksText (shown_rows [] names answer) fault
    → LacksRows bytes query steps (sql.Query fault)
unshown-lacks bytes query steps db held names answer is (Refused error) lacks = absurd lacks
unshown-lacks bytes query steps db held names answer is (Limit most) lacks = absurd lacks
unshown-lacks bytes query steps db held names answer is (Missing what word) lacks = absurd lacks
unshown-lacks bytes query steps db held names answer is Change lacks = absurd lacks
unshown-lacks bytes query steps db held names answer is (Encoding row) lacks = (db, held, (names, answer, is, lacks))
unshown-lacks bytes query steps db held names answer is Memory lacks = (db, held, tt)

-- texts of one row of several
pub row-lacks : (rows : List (List (List ℕ))) (row : ℕ) (texts : List (List ℕ)) → texts ≡ slice_index_or rows row [] → (fault : QueryFault) → IsFaultOfRow row texts fault → LacksText rows fault
row-lacks rows row texts is (Refused error) lacks = absurd lacks
row-lacks rows row texts is (Limit most) lacks = absurd lacks
row-lacks rows row texts is (Missing what word) lacks = absurd lacks
row-lacks rows row texts is Change lacks = absurd lacks
row-lacks rows row texts is (Encoding at) lacks = λ all. lacks.1 (subst AllText (ap (λ (n : ℕ). slice_index_or rows n []) lacks.0 ∙ sym is) all)
row-lacks rows row texts is Memory lacks = tt

-- ---- faults that are handed on

pub handed_on : {X : Type 0} (kind : SqlFault) (result : Result X SqlFault) (found : SqlFault) → IsErrAnd result (λ fault. fault ≡ found) → result ≡ Err kind → found ≡ kind
handed_on kind (Ok x) found told is = absurd told
handed_on kind (Err fault) found told is = let same : fault ≡ kind = cc in sym told ∙ same

pub handed : {X F : Type 0} (P : F → Type 0) (result : Result X F) (found : F) → IsErrAnd result (λ fault. fault ≡ found) → P found → IfErr result P
handed P (Ok x) found told h = absurd told
handed P (Err fault) found told h = subst P (sym told) h

-- memory that is refused is no other error
pub lost : {X : Type 0} (P : Error → Type 0) (result : Result X Error) → IsErrAnd result (λ error. error ≡ SqliteFailure code.OutOfMemory) → IfErr result (λ error. is_memory error ≡ false → P error)
lost P (Ok x) told = absurd told
lost P (Err error) told = λ sound. absurd (true≢false (sym (ap is_memory told) ∙ sound))

-- ---- statements that aren't prepared

-- the store fails by memory, unless something is too big
sound-cause : (old new : State) (error : Error) (cause : StoreError) → error ≡ store_error cause → HasCause old new ⊥ cause → is_memory error ≡ false → ⊥
sound-cause old new error OutOfMemory same h sound = true≢false (sym (ap is_memory same) ∙ sound)
sound-cause old new error Io same h sound = true≢false (sym (ap is_memory same) ∙ sound)
sound-cause old new error Corrupt same h sound = true≢false (sym (ap is_memory same) ∙ sound)
sound-cause old new error Full same h sound = true≢false (sym (ap is_memory same) ∙ sound)
sound-cause old new error Broken same h sound = true≢false (sym (ap is_memory same) ∙ sound)
sound-cause old new error Unstorable same h sound = h

-- the text isn't understood
without : (old new : State) (query : List ℕ) (error : Error) → IsNotRun old new query [] error → is_memory error ≡ false → IsNoStatement old query [] error × (new.now ≡ old.now)
unfolding IsNotRun
without old new query error (inl h) sound = (h.0, h.1.0.now_is)
without old new query error (inr h) sound = absurd (sound-cause old new error h.0 h.1 h.2 sound)

-- a table is missing if that is the error
no-table : (fault : CompileError) → misses_table (Err fault) ≡ is_no_table (SqlInputError fault)
no-table compile.NoSuchTable = refl
no-table compile.OutOfMemory = refl
no-table (compile.Parse e) = refl
no-table compile.NoSuchIndex = refl
no-table compile.NoSuchColumn = refl
no-table compile.NoSuchFunction = refl
no-table compile.Ambiguous = refl
no-table compile.Exists = refl
no-table compile.Misuse = refl
no-table compile.Mismatch = refl
no-table compile.Unsupported = refl
no-table compile.TooBig = refl
no-table (compile.NeedsView at) = refl

other : (A B C : Type 0) (n m : ℕ) (error : Error) → (A × (error ≡ MultipleStatement)) ⊎ ((B × (error ≡ InvalidParameterCount n m)) ⊎ (C × (error ≡ SqliteFailure code.NoClock))) → is_no_table error ≡ false
other A B C n m error (inl h) = ap is_no_table h.1
other A B C n m error (inr (inl h)) = ap is_no_table h.1
other A B C n m error (inr (inr h)) = ap is_no_table h.1

lacking : (s : State) (query : List ℕ) (error : Error) → IsNoStatement s query [] error → is_no_table error ≡ misses_table (understood s.now.schema query)
lacking s query error (inl h) = ap is_no_table h.2 ∙ sym (ap misses_table h.1 ∙ no-table h.0)
lacking s query error (inr h) = other _ _ _ _ _ error h.2 ∙ sym (ap misses_table h.1)

pub lacks-table : (old new : State) (query : List ℕ) (error : Error) → IsNotRun old new query [] error → is_memory error ≡ false → is_no_table error ≡ misses_table (understood old.now.schema query)
lacks-table old new query error h sound = lacking old query error (without old new query error h sound).0

pub has-tables : (known : Result Compiled CompileError) (it : Outline) → Outlines known it → false ≡ misses_table known
has-tables (Ok c) it outlines = refl
has-tables (Err error) it outlines = absurd outlines

-- ---- names that are missing

-- a text that is understood, and an error of another
abbrev is_err : Result Compiled CompileError → Bool
is_err (Ok c) = false
is_err (Err error) = true

pub understands : (known : Result Compiled CompileError) (it : Outline) → Outlines known it → (found : CompileError) → known ≡ Err found → ⊥
understands (Ok c) it outlines found is = true≢false (sym (ap is_err is))
understands (Err error) it outlines found is = absurd outlines

abbrev is_input : Error → Bool
is_input (SqlInputError fault) = true
is_input _ = false

not-input : (A B C : Type 0) (n m : ℕ) (error : Error) → (A × (error ≡ MultipleStatement)) ⊎ ((B × (error ≡ InvalidParameterCount n m)) ⊎ (C × (error ≡ SqliteFailure code.NoClock))) → is_input error ≡ false
not-input A B C n m error (inl h) = ap is_input h.1
not-input A B C n m error (inr (inl h)) = ap is_input h.1
not-input A B C n m error (inr (inr h)) = ap is_input h.1

input : (s : State) (query : List ℕ) (error : Error) (found : CompileError) → IsNoStatement s query [] error → error ≡ SqlInputError found → understood s.now.schema query ≡ Err found
input s query error found (inl h) is = let same : h.0 ≡ found = let says = h.2 in cc in h.1 ∙ ap (λ (it : CompileError). Err it) same
input s query error found (inr h) is = absurd (true≢false (sym (ap is_input is) ∙ not-input _ _ _ _ _ error h.2))

module _ (table query : List ℕ) (steps : ℕ) (old new : State) (error : Error) (fault : QueryFault) (schema : Schema) (same : schema ≡ new.now.schema) where
  stays : new.now ≡ old.now → schema ≡ old.now.schema
  stays now = same ∙ ap (λ (db : Database). db.schema) now

  pub unread-text : IsFaultOfText schema table query steps error fault → IsNotRun old new query [] error → LacksAnswer table query steps old.now fault
  unread-text (inl (found, is, left, says, stray)) h =
      let none = without old new query error h (ap is_memory is) in
      subst (λ (it : QueryFault). LacksAnswer table query steps old.now it) (sym says)
      (found, input old query error found none.0 is, refl, subst (λ (it : Schema). stray_in it table query (missing_by found) ≡ Some left) (stays none.1) stray)
  unread-text (inr (is, none)) h =
      unread table query steps old new error fault is (λ found err says now. subst (λ (it : Schema). stray_in it table query (missing_by found) ≡ None) (stays now) (none found says)) h

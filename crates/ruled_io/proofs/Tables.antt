-- What is read row by row, and tables whose lines are written one row after another.
use Rattle.std.proofs.Common.{◌≡◌, ◌∙◌, inl, inr, ◌+◌, ◌<◌, ℕ, List, [], ◌∷◌, ◌++◌, Option, Some, None, Result, Ok, Err, OnErr, OnOk, false, true, length, drop, get_or, refl, sym, ap}
use Rattle.std.proofs.Common.{subst, append-nil, append_assoc, Bool}
use Rattle.std.specs.Prelude.{IfErr, is_ok, option_map, IfOk}
use Rattle.std.specs.Io.KnownBytes.{Appends, Keeps}
use Rattle.std.specs.Result.{IsErrAnd}
use Rattle.std.proofs.KnownBytes.{Appends-trans, Keeps-refl}
use Rattle.std.proofs.lemmas.Bool.{true≢false}
use Rattle.std.proofs.lemmas.List.{drop_more}
use Rattle.pg_layout.specs.Text.{Text}
use Rattle.ruled_table.specs.RowLines.{HasAppended, GrowsTo, HasNoRoom, TellsRoom, begun_text}
use Rattle.ruled_table.specs.Layouts.{whole_text, Plan}
use Rattle.ruled_table.specs.declared.view.ViewFault.{ViewFault}
use Rattle.ruled_table.specs.declared.view.ViewFault.TheVariants as view
use Rattle.ruled_table.specs.declared.options.Options.{Options}
use Rattle.ruled_table.specs.declared.table_rows.TableRows.{TableRows}
use Rattle.ruled_io.specs.Faults.{IsOfRead, but_line, but_line_in, is_failure, is_of_write, of_view, Begins, fault_of_database}
use Rattle.ruled_io.specs.Reading.{GivesMore, GoesTo, Origin, StandsIn, GivesStored, GoesOn, IsHeld, IsTable, Stands, in_format, of_table, sound_rows, wrong_in}
use Rattle.ruled_io.specs.Stream.{EndsBelow, EndsSo, FailsIn, Grows, Nears, StopsIn, WritesBut, WritesRows, lines_in}
use Rattle.ruled_io.specs.declared.fault.InputFault.{InputFault}
use Rattle.ruled_io.specs.declared.fault.InputFault.TheVariants.{Totals}
use Rattle.ruled_io.specs.declared.fault.RunFault.{RunFault}
use Rattle.ruled_io.specs.declared.fault.RunFault.TheVariants.{Input, Read, Closed, Write}
use Rattle.ruled_io.specs.declared.reader.Reading.{Reading}
use Rattle.ruled_io.specs.declared.reader.Reading.TheVariants.{Done, More, Stored}
use Rattle.ruled_io.proofs.Fronts.{begins-behind, begun-on, begun-whole, grows-kept, grows-more, grows-nears, grows-none, nears-more, nears-none, nears-on, stands-to}
use Rattle.ruled_io.proofs.Causes.{of-read}
use Rattle.ruled_json.specs.Streamed.{LineRules}
use Rattle.ruled_database.specs.Listings.{AreTable, AreRead, HasRead, PushesRows}
use Rattle.ruled_database.specs.declared.fault.DatabaseFault.{DatabaseFault}
use Rattle.ruled_database.specs.declared.table.TableReader.{TableReader}
use Rattle.ruled_database.specs.declared.fault.DatabaseFault.TheVariants.{Table}
use Rattle.ruled_database.specs.declared.fault.DatabaseFault.TheVariants as database
use Rattle.ruled_database.specs.declared.fault.TableFault.{TableFault}
use Rattle.ruled_database.specs.declared.fault.TableFault.TheVariants as table_fault
use Rattle.ruled_database.proofs.Reading.{read-first}
use Rattle.ruled_io.specs.declared.fault.InputFault.TheVariants as input
use Rattle.ruled_io.specs.declared.formats.Format.{Format}
use Rattle.ruled_io.specs.declared.reader.Reader.{Reader}

-- ---- what is read row by row

-- some rows are those that a reading goes to; of a table that is read in part, those that were given, as where memory is refused
pub goes-to : (origin : Origin) (left : Option (List ℕ)) (given : List (List Text)) (reading : Reading) → StandsIn origin left given reading
    → (rows : List (List Text)) × (wrong : Option InputFault) × IsHeld origin rows wrong × GoesTo given reading rows wrong
goes-to (in_format format rules all) left given reading stands = (sound_rows format rules all, wrong_in format rules all, (refl, refl), stands-to format rules all left given reading stands)
goes-to (of_table file name null_text) left given (More reader) stands = absurd stands
goes-to (of_table file name null_text) left given (Stored table) stands =
    (given, Some input.Memory, (Some (Table table_fault.Memory), refl, inr (read-first file name null_text given table stands, tt)), ([], append-nil given))
goes-to (of_table file name null_text) left given (Done fault) stands = (given, option_map but_line_in fault, stands, (refl, refl))

-- no row was read, as where memory is refused before
pub none-read : (file name null_text : List ℕ) → IsTable file name null_text [] (Some input.Memory)
none-read file name null_text = (Some (Table table_fault.Memory), refl, inl (refl, tt))

-- nothing is wrong with all
all-of : (file name null_text : List ℕ) (rows : List (List Text)) (fault : Option DatabaseFault) → None ≡ option_map fault_of_database fault → AreRead file name null_text rows fault → AreTable None file name null_text rows
all-of file name null_text rows None is read = read
all-of file name null_text rows (Some fault) is read = absurd (cc)

pub all-read : (file name null_text : List ℕ) (rows : List (List Text)) → IsTable file name null_text rows None → AreTable None file name null_text rows
all-read file name null_text rows (fault, is, read) = all-of file name null_text rows fault is read

-- where no more are left, they are all
pub done-held : (origin : Origin) (left : Option (List ℕ)) (given : List (List Text)) (fault : Option InputFault) → StandsIn origin left given (Done fault) → IsHeld origin given (option_map but_line_in fault)
done-held (in_format format rules all) left given fault (is, told) = (is, sym told)
done-held (of_table file name null_text) left given fault stands = stands

-- they begin with those that were given
pub goes-behind : (given : List (List Text)) (reading : Reading) (rows : List (List Text)) (wrong : Option InputFault) → GoesTo given reading rows wrong → (more : List (List Text)) × (given ++ more ≡ rows)
goes-behind given (More reader) rows wrong goes = goes
goes-behind given (Stored table) rows wrong goes = goes
goes-behind given (Done fault) rows wrong (is, told) = ([], append-nil given ∙ is)

-- also where more were given
pub goes-longer : (given more : List (List Text)) (reading : Reading) (rows : List (List Text)) (wrong : Option InputFault) → GoesTo (given ++ more) reading rows wrong → (behind : List (List Text)) × (given ++ behind ≡ rows)
goes-longer given more reading rows wrong goes =
    let (behind, is) = goes-behind (given ++ more) reading rows wrong goes in
    (more ++ behind, sym (append_assoc given more behind) ∙ is)

-- of an input in a format a reader of bytes gives more, of a table one of rows
pub reader-gives : (origin : Origin) (before left : Option (List ℕ)) (given old new : List (List Text)) (reader : Reader) (result : Result Reading RunFault) → StandsIn origin before given (More reader)
    → ((format : Format) (rules : LineRules) (all : List ℕ) → Stands format rules all before given (More reader) → IfOk result (GoesOn format rules all left given old new)) → IfOk result (GivesMore origin left given (More reader) old new)
reader-gives (in_format format rules all) before left given old new reader (Ok now) stands goes =
    let (more, is, next) = goes format rules all stands in
    (more, is, next, goes-longer given more now)
reader-gives (of_table file name null_text) before left given old new reader (Ok now) stands goes = absurd stands
reader-gives origin before left given old new reader (Err fault) stands goes = tt

pub table-gives : (origin : Origin) (left : Option (List ℕ)) (given old new : List (List Text)) (table : TableReader) (now : Reading) → StandsIn origin left given (Stored table)
    → ((file name null_text : List ℕ) → HasRead file name null_text given table → GivesStored file name null_text given old new now) → GivesMore origin left given (Stored table) old new now
table-gives (in_format format rules all) left given old new table now stands gives = absurd stands
table-gives (of_table file name null_text) left given old new table now stands gives =
    let (more, is, next) = gives file name null_text stands in
    (more, is, next, goes-longer given more now)

-- none are left
pub done-gives : (origin : Origin) (left : Option (List ℕ)) (given old : List (List Text)) (fault : Option InputFault) → StandsIn origin left given (Done fault) → GivesMore origin left given (Done fault) old old (Done fault)
done-gives origin left given old fault stands = (
  [],
  sym (append-nil old),
  subst (λ (xs : List (List Text)). StandsIn origin left xs (Done fault)) (sym (append-nil given)) stands,
  λ rows wrong to. subst (λ (xs : List (List Text)). GoesTo xs (Done fault) rows wrong) (append-nil given) to,
)

-- what was given in place of no rows
pub more-given : (origin : Origin) (left : Option (List ℕ)) (given : List (List Text)) (reading : Reading) (old new : List (List Text)) (now : Reading) → old ≡ [] → GivesMore origin left given reading old new now
    → StandsIn origin left (given ++ new) now × ((rows : List (List Text)) (wrong : Option InputFault) → GoesTo (given ++ new) now rows wrong → GoesTo given reading rows wrong)
more-given origin left given reading old new now none (more, is, stands, goes) =
    subst (λ (xs : List (List Text)). StandsIn origin left (given ++ xs) now × ((rows : List (List Text)) (wrong : Option InputFault) → GoesTo (given ++ xs) now rows wrong → GoesTo given reading rows wrong))
    (sym (is ∙ ap (λ (xs : List (List Text)). xs ++ more) none)) (stands, goes)

-- ---- a reader of a table, by what it tells

-- a fault of a database has no line
pub database-line : (fault : DatabaseFault) → but_line_in (fault_of_database fault) ≡ fault_of_database fault
database-line database.Database = refl
database-line database.Encoding = refl
database-line database.Absent = refl
database-line database.Elsewhere = refl
database-line database.Keyed = refl
database-line database.Computed = refl
database-line (database.Schema table_fault.Damage) = refl
database-line (database.Schema table_fault.Default) = refl
database-line (database.Schema (table_fault.Encoding row)) = refl
database-line (database.Schema table_fault.Memory) = refl
database-line (Table table_fault.Damage) = refl
database-line (Table table_fault.Default) = refl
database-line (Table (table_fault.Encoding row)) = refl
database-line (Table table_fault.Memory) = refl

module _ (file name null_text : List ℕ) (count : ℕ) (given old new : List (List Text)) (reader : TableReader) where
  -- more rows may be left
  pub stored-more : (result : Result Bool TableFault) → result ≡ Ok true → PushesRows file name null_text count given old new reader result → GivesStored file name null_text given old new (Stored reader)
  stored-more (Ok true) is (rows, (added, few, first), long, read) = (rows, added, read)
  stored-more (Ok false) is pushes = absurd (cc)
  stored-more (Err fault) is pushes = absurd (cc)

  -- none are
  pub stored-all : (result : Result Bool TableFault) → result ≡ Ok false → PushesRows file name null_text count given old new reader result → GivesStored file name null_text given old new (Done None)
  stored-all (Ok true) is pushes = absurd (cc)
  stored-all (Ok false) is (rows, (added, few, first), table) = (rows, added, (None, refl, table))
  stored-all (Err fault) is pushes = absurd (cc)

  -- the next one isn't shown
  pub stored-wrong : (result : Result Bool TableFault) (found : TableFault) (told : InputFault) → result ≡ Err found → told ≡ fault_of_database (Table found) → PushesRows file name null_text count given old new reader result
      → GivesStored file name null_text given old new (Done (Some told))
  stored-wrong (Ok true) found told is same pushes = absurd (cc)
  stored-wrong (Ok false) found told is same pushes = absurd (cc)
  stored-wrong (Err fault) found told is same (rows, (added, few, first), lacks) =
      let one : fault ≡ found = cc in
      let line : but_line_in told ≡ fault_of_database (Table fault) = ap but_line_in same ∙ database-line (Table found) ∙ ap (λ (f : TableFault). fault_of_database (Table f)) (sym one) in
      (rows, added, (Some (Table fault), ap (λ (f : InputFault). Some f) line, inr (first, lacks)))

-- ---- faults

-- a fault that is handed on
pub handed : {X F : Type 0} (P : F → Type 0) (found : F) (result : Result X F) → IsErrAnd result (λ fault. fault ≡ found) → P found → IfErr result P
handed P found (Ok x) is p = absurd is
handed P found (Err fault) is p = subst P (sym is) p

pub write-fails : (fault : RunFault) → is_of_write fault ≡ true → is_failure fault ≡ true
write-fails (Input fault) e = cc
write-fails (Read fault) e = refl
write-fails Closed e = refl
write-fails Write e = refl

pub read-fails : (fault : RunFault) → IsOfRead fault → is_failure fault ≡ true
read-fails fault (inl memory) = ap is_failure memory
read-fails fault (inr read) = ap is_failure (of-read fault read).1

-- what holds of a call that succeeds, or fails
pub of-ok : {X E : Type 0} (r : Result X E) (P : Type 0) → OnOk r P → is_ok r ≡ true → P
of-ok (Ok x) P holds is = holds
of-ok (Err e) P holds is = absurd (cc)

pub of-err : {X E : Type 0} (r : Result X E) (P : Type 0) (e : E) → OnErr r P → r ≡ Err e → P
of-err (Ok x) P e holds is = absurd (cc)
of-err (Err f) P e holds is = holds

-- ---- items of a list

pub drop-next : {X : Type 0} (xs : List X) (i : ℕ) (x : X) → i < length xs → x ≡ get_or xs i x → drop i xs ≡ x ∷ drop (i + 1) xs
drop-next {X} xs i x within is = drop_more xs i x within ∙ ap (λ (y : X). y ∷ drop (i + 1) xs) (sym is)

module _ (options : Options) (plan : Plan) where
  -- ---- a row

  -- lines wait to be written, and one more row's
  pub row-waits : (above rows : List (List Text)) (row : List Text) (old mid : Option (List ℕ)) (buf longer : List ℕ) → GrowsTo (begun_text options plan (above ++ rows)) (begun_text options plan ((above ++ rows) ++ row ∷ [])) buf longer
      → WritesBut options plan above rows old mid buf → WritesBut options plan above (rows ++ row ∷ []) old mid longer
  row-waits above rows row old mid buf longer grows (front, is, wrote) = (
    front,
    ap (λ (xs : List ℕ). begun_text options plan above ++ (front ++ xs)) grows.bytes
        ∙ ap (λ (xs : List ℕ). begun_text options plan above ++ xs) (sym (append_assoc front buf grows.more)) ∙ sym (append_assoc (begun_text options plan above) (front ++ buf) grows.more)
        ∙ ap (λ (xs : List ℕ). xs ++ grows.more) is ∙ grows.makes ∙ ap (begun_text options plan) (append_assoc above rows (row ∷ [])),
    wrote,
  )

  -- they are written
  pub waits-written : (above rows : List (List Text)) (old mid new : Option (List ℕ)) (buf bytes : List ℕ) → bytes ≡ buf → WritesBut options plan above rows old mid buf → Appends mid new bytes → WritesRows options plan above rows old new
  waits-written above rows old mid new buf bytes same (front, is, wrote) more = (front ++ buf, is, Appends-trans old mid new front buf wrote (subst (Appends mid new) same more))

  pub waits-none : (above rows : List (List Text)) (old new : Option (List ℕ)) (empty : List ℕ) → empty ≡ [] → WritesRows options plan above rows old new → WritesBut options plan above rows old new empty
  waits-none above rows old new empty none (front, is, wrote) = (front, ap (λ (xs : List ℕ). begun_text options plan above ++ (front ++ xs)) none ∙ ap (λ (xs : List ℕ). begun_text options plan above ++ xs) (append-nil front) ∙ is, wrote)

  -- a write of them failed
  waits-near : (above rows : List (List Text)) (old mid new : Option (List ℕ)) (buf bytes : List ℕ) → bytes ≡ buf → WritesBut options plan above rows old mid buf → Begins mid new bytes → Nears (begun_text options plan above) (begun_text options plan (above ++ rows)) old new
  waits-near above rows old mid new buf bytes same (front, is, wrote) begun = (front ++ buf, is, begins-behind old mid new front buf wrote (subst (Begins mid new) same begun))

  pub waits-cut : {X : Type 0} (above rows : List (List Text)) (old mid new : Option (List ℕ)) (buf bytes : List ℕ) (result : Result X RunFault) → bytes ≡ buf → WritesBut options plan above rows old mid buf → OnErr result (Begins mid new bytes)
      → ((fault : RunFault) → result ≡ Err fault → is_of_write fault ≡ true) → IfErr result (FailsIn options plan above rows old new)
  waits-cut above rows old mid new buf bytes (Ok x) same waits begun failed = tt
  waits-cut above rows old mid new buf bytes (Err fault) same waits begun failed = (waits-near above rows old mid new buf bytes same waits begun, λ soft. absurd (true≢false (sym (write-fails fault (failed fault refl)) ∙ soft)))

  -- a row more, where one couldn't be written
  near-on : (above rows : List (List Text)) (row : List Text) (table : TableRows) (old new : Option (List ℕ)) → HasAppended options plan (above ++ rows) table
      → Nears (begun_text options plan above) (begun_text options plan (above ++ rows)) old new → Nears (begun_text options plan above) (begun_text options plan (above ++ (rows ++ row ∷ []))) old new
  near-on above rows row table old new has near =
      let more = begun-on options plan (above ++ rows) table (above ++ rows) (row ∷ []) has in
      nears-on _ (begun_text options plan (above ++ rows)) _ old new near (more.0, more.1 ∙ ap (begun_text options plan) (append_assoc above rows (row ∷ [])))

  -- where it was drawn its lines wait, too
  near-row : {X E : Type 0} (above rows : List (List Text)) (row : List Text) (table : TableRows) (old mid new : Option (List ℕ)) (buf longer bytes : List ℕ) (pushed : Result X E) → bytes ≡ longer → HasAppended options plan (above ++ rows) table
      → OnOk pushed (GrowsTo (begun_text options plan (above ++ rows)) (begun_text options plan ((above ++ rows) ++ row ∷ [])) buf longer) → OnErr pushed (longer ≡ buf) → WritesBut options plan above rows old mid buf → Begins mid new bytes
      → Nears (begun_text options plan above) (begun_text options plan (above ++ (rows ++ row ∷ []))) old new
  near-row above rows row table old mid new buf longer bytes (Ok x) same has grows kept waits begun = waits-near above (rows ++ row ∷ []) old mid new longer bytes same (row-waits above rows row old mid buf longer grows waits) begun
  near-row above rows row table old mid new buf longer bytes (Err e) same has grows kept waits begun = near-on above rows row table old new has (waits-near above rows old mid new buf bytes (same ∙ kept) waits begun)

  pub row-cut : {X Y E : Type 0} (above rows : List (List Text)) (row : List Text) (table : TableRows) (old mid new : Option (List ℕ)) (buf longer bytes : List ℕ) (pushed : Result Y E) (fault : RunFault) (result : Result X RunFault)
      → IsErrAnd result (λ found. found ≡ fault) → is_of_write fault ≡ true → bytes ≡ longer → HasAppended options plan (above ++ rows) table
      → OnOk pushed (GrowsTo (begun_text options plan (above ++ rows)) (begun_text options plan ((above ++ rows) ++ row ∷ [])) buf longer) → OnErr pushed (longer ≡ buf) → WritesBut options plan above rows old mid buf → Begins mid new bytes
      → IfErr result (FailsIn options plan above (rows ++ row ∷ []) old new)
  row-cut above rows row table old mid new buf longer bytes pushed fault result is failed same has grows kept waits begun =
      handed (FailsIn options plan above (rows ++ row ∷ []) old new) fault result is
      (near-row above rows row table old mid new buf longer bytes pushed same has grows kept waits begun, λ soft. absurd (true≢false (sym (write-fails fault failed) ∙ soft)))

  -- no room is left for it, or memory was refused
  refused : (above rows : List (List Text)) (row : List Text) (table : TableRows) (old new : Option (List ℕ)) (found : ViewFault) → HasAppended options plan (above ++ rows) table → WritesRows options plan above rows old new
      → TellsRoom {X = Unit {0}} (HasNoRoom options plan (above ++ rows) row) (Err found) → (is_failure (of_view found) ≡ false → (of_view found ≡ Input Totals) × StopsIn options plan above (rows ++ row ∷ []) old new)
  refused above rows row table old new (view.Column name) has wrote tells = λ soft. let totals = (tells refl).0 in cc
  refused above rows row table old new view.Sort has wrote tells = λ soft. let totals = (tells refl).0 in cc
  refused above rows row table old new view.Totals has wrote tells = λ soft. (refl, (rows, [], row, refl, (tells refl).1, wrote))
  refused above rows row table old new view.Memory has wrote tells = λ soft. absurd (true≢false soft)

  pub row-refused : {X : Type 0} (above rows : List (List Text)) (row : List Text) (table : TableRows) (old new : Option (List ℕ)) (found : ViewFault) (result : Result X RunFault) → IsErrAnd result (λ fault. fault ≡ of_view found)
      → HasAppended options plan (above ++ rows) table → WritesRows options plan above rows old new → TellsRoom {X = Unit {0}} (HasNoRoom options plan (above ++ rows) row) (Err found)
      → IfErr result (FailsIn options plan above (rows ++ row ∷ []) old new)
  row-refused above rows row table old new found result is has wrote tells =
      handed (FailsIn options plan above (rows ++ row ∷ []) old new) (of_view found) result is
      (near-on above rows row table old new has (grows-nears _ _ old new wrote), refused above rows row table old new found has wrote tells)

  -- ---- rows

  -- of these rows some are done, and others left; lines wait to be written
  abbrev pub Goes : List (List Text) → List (List Text) → List (List Text) → TableRows → Option (List ℕ) → Option (List ℕ) → List ℕ → Type 0
  Goes above all rest table old new buf = (done : List (List Text)) × (all ≡ done ++ rest) × HasAppended options plan (above ++ done) table × WritesBut options plan above done old new buf

  pub goes-begin : (above all : List (List Text)) (table : TableRows) (old : Option (List ℕ)) (buf : List ℕ) → buf ≡ [] → HasAppended options plan above table → Goes above all all table old old buf
  goes-begin above all table old buf none has = (
    [],
    refl,
    subst (λ (rows : List (List Text)). HasAppended options plan rows table) (sym (append-nil above)) has,
    waits-none above [] old old buf none
        (subst (λ (rows : List (List Text)). Grows (begun_text options plan above) (begun_text options plan rows) old old) (sym (append-nil above)) (grows-none (begun_text options plan above) old old (Keeps-refl old))),
  )

  pub goes-next : (above all rest : List (List Text)) (row : List Text) (table next : TableRows) (old mid new : Option (List ℕ)) (buf more : List ℕ)
      → ((rows : List (List Text)) → HasAppended options plan rows table → HasAppended options plan (rows ++ row ∷ []) next)
      → ((rows : List (List Text)) → HasAppended options plan (above ++ rows) table → WritesBut options plan above rows old mid buf → WritesBut options plan above (rows ++ row ∷ []) old new more)
      → Goes above all (row ∷ rest) table old mid buf → Goes above all rest next old new more
  goes-next above all rest row table next old mid new buf more after written (done, is, has, waits) = (
    done ++ row ∷ [],
    is ∙ sym (append_assoc done (row ∷ []) rest),
    subst (λ (rows : List (List Text)). HasAppended options plan rows next) (append_assoc above done (row ∷ [])) (after (above ++ done) has),
    written done has waits,
  )

  pub goes-end : (above all rest : List (List Text)) (table : TableRows) (old new : Option (List ℕ)) (buf : List ℕ) → rest ≡ [] → Goes above all rest table old new buf
      → HasAppended options plan (above ++ all) table × WritesBut options plan above all old new buf
  goes-end above all rest table old new buf none (done, is, has, waits) =
      let same : done ≡ all = sym (append-nil done) ∙ ap (λ (xs : List (List Text)). done ++ xs) (sym none) ∙ sym is in (
        subst (λ (rows : List (List Text)). HasAppended options plan (above ++ rows) table) same has,
        subst (λ (rows : List (List Text)). WritesBut options plan above rows old new buf) same waits,
      )

  pub goes-fails : (above all rest : List (List Text)) (row : List Text) (table : TableRows) (old mid new : Option (List ℕ)) (buf : List ℕ) (fault : RunFault)
      → ((rows : List (List Text)) → HasAppended options plan (above ++ rows) table → WritesBut options plan above rows old mid buf → FailsIn options plan above (rows ++ row ∷ []) old new fault)
      → Goes above all (row ∷ rest) table old mid buf → FailsIn options plan above all old new fault
  goes-fails above all rest row table old mid new buf fault fails (done, is, has, waits) =
      let (near, stops) = fails done has waits in
      let whole : (above ++ (done ++ row ∷ [])) ++ rest ≡ above ++ all =
      append_assoc above (done ++ row ∷ []) rest ∙ ap (λ (xs : List (List Text)). above ++ xs) (append_assoc done (row ∷ []) rest ∙ sym is)
      in
      let more = begun-on options plan (above ++ done) table (above ++ (done ++ row ∷ [])) rest has in (
        nears-on _ (begun_text options plan (above ++ (done ++ row ∷ []))) _ old new near (more.0, more.1 ∙ ap (begun_text options plan) whole),
        λ soft.
            let (totals, (front, behind, other, parts, room, wrote)) = stops soft in (
              totals,
              (
                front,
                behind ++ rest,
                other,
                is ∙ sym (append_assoc done (row ∷ []) rest) ∙ ap (λ (xs : List (List Text)). xs ++ rest) parts ∙ append_assoc front (other ∷ behind) rest,
                room,
                wrote,
              ),
            ),
      )

  -- ---- the end

  pub end-refused : {X : Type 0} (rows : List (List Text)) (table : TableRows) (wrong : Option InputFault) (old : Option (List ℕ)) (found : ViewFault) (result : Result X RunFault) → wrong ≡ None → HasAppended options plan rows table
      → IsErrAnd result (λ fault. fault ≡ of_view found) → found ≡ view.Memory → EndsBelow options plan rows (option_map but_line_in wrong) rows old old result
  end-refused rows table wrong old found (Ok x) fine has is memory = absurd is
  end-refused rows table wrong old found (Err fault) fine has is memory =
      rw fine (nears-none _ _ old old (begun-whole options plan rows table rows has) (Keeps-refl old), λ soft. absurd (true≢false (sym (ap is_failure (is ∙ ap of_view memory)) ∙ soft)))

  pub end-written : {X : Type 0} (rows : List (List Text)) (wrong : Option InputFault) (old new : Option (List ℕ)) (bytes front buf : List ℕ) (result : Result X RunFault) → wrong ≡ None → bytes ≡ buf → front ≡ []
      → GrowsTo (begun_text options plan rows) (whole_text options plan rows) front buf → OnOk result (Appends old new bytes) → OnErr result (Begins old new bytes) → ((fault : RunFault) → result ≡ Err fault → is_of_write fault ≡ true)
      → EndsBelow options plan rows (option_map but_line_in wrong) rows old new result
  end-written rows wrong old new bytes front buf (Ok x) fine same none grows written begun failed =
      rw fine (refl, (grows.more, grows.makes, subst (Appends old new) (same ∙ grows.bytes ∙ ap (λ (xs : List ℕ). xs ++ grows.more) none) written))
  end-written rows wrong old new bytes front buf (Err fault) fine same none grows written begun failed =
      rw fine ((grows.more, grows.makes, subst (Begins old new) (same ∙ grows.bytes ∙ ap (λ (xs : List ℕ). xs ++ grows.more) none) begun), λ soft. absurd (true≢false (sym (write-fails fault (failed fault refl)) ∙ soft)))

  -- rows above a bad one
  pub end-wrong : {X : Type 0} (rows : List (List Text)) (wrong : Option InputFault) (fault : InputFault) (old : Option (List ℕ)) (result : Result X RunFault) → wrong ≡ Some fault → IsErrAnd result (λ found. found ≡ Input fault)
      → EndsBelow options plan rows (option_map but_line_in wrong) rows old old result
  end-wrong rows wrong fault old (Ok x) is told = absurd told
  end-wrong rows wrong fault old (Err found) is told =
      let same = grows-none (begun_text options plan rows) old old (Keeps-refl old) in
      rw is (grows-nears _ _ old old same, λ soft. inl (ap (λ (f : RunFault). Some (but_line f)) (sym told), same))

  -- ---- all rows

  -- the lines of rows that are all, or stand above a bad one, begin as their table does
  lines-begin : (above : List (List Text)) (table : TableRows) (rows : List (List Text)) (wrong : Option InputFault) → HasAppended options plan above table → (x : Text) × (begun_text options plan rows ++ x ≡ lines_in options plan rows wrong)
  lines-begin above table rows None has = begun-whole options plan above table rows has
  lines-begin above table rows (Some fault) has = ([], append-nil (begun_text options plan rows))

  module _ (origin : Origin) where
    begins-all : (above given : List (List Text)) (table : TableRows) (reading : Reading) (all : List (List Text)) (wrong : Option InputFault) → HasAppended options plan above table → GoesTo given reading all wrong → (x : Text) × (begun_text options plan given ++ x ≡ lines_in options plan all wrong)
    begins-all above given table reading all wrong has goes =
        let (more, whole) = goes-behind given reading all wrong goes in
        let (x, is) = begun-on options plan above table given more has in
        let (y, last) = lines-begin above table all wrong has in
        (x ++ y, sym (append_assoc (begun_text options plan given) x y) ∙ ap (λ (t : Text). t ++ y) (is ∙ ap (begun_text options plan) whole) ∙ last)

    module _ (first : List (List Text)) (begun : Reading) where
      -- a table has some rows of those that a reading goes to, and others were given
      abbrev pub Runs : List (List Text) → Option (List ℕ) → Reading → List (List Text) → TableRows → Option (List ℕ) → Option (List ℕ) → Type 0
      Runs above left reading rows table old new =
          (done : List (List Text)) × StandsIn origin left (done ++ rows) reading × HasAppended options plan done table × Grows (begun_text options plan above) (begun_text options plan done) old new
          × ((all : List (List Text)) (wrong : Option InputFault) → GoesTo (done ++ rows) reading all wrong → GoesTo first begun all wrong)

      -- the rows that were given are written
      pub runs-wrote : (above rows : List (List Text)) (left : Option (List ℕ)) (reading : Reading) (table next : TableRows) (old mid new : Option (List ℕ))
          → ((done : List (List Text)) → HasAppended options plan done table → HasAppended options plan (done ++ rows) next)
          → ((done : List (List Text)) → HasAppended options plan done table → WritesRows options plan done rows mid new) → Runs above left reading rows table old mid → Runs above left reading [] next old new
      runs-wrote above rows left reading table next old mid new after written (done, stands, has, grows, goes) = (
        done ++ rows,
        subst (λ (given : List (List Text)). StandsIn origin left given reading) (sym (append-nil (done ++ rows))) stands,
        after done has,
        grows-more _ (begun_text options plan done) _ old mid new grows (written done has),
        λ all wrong to. goes all wrong (subst (λ (given : List (List Text)). GoesTo given reading all wrong) (append-nil (done ++ rows)) to),
      )

      -- one of them isn't
      pub runs-stop : {X : Type 0} (above rows : List (List Text)) (left : Option (List ℕ)) (reading : Reading) (table : TableRows) (old mid new : Option (List ℕ)) (found : RunFault) (result : Result X RunFault)
          → IsErrAnd result (λ fault. fault ≡ found) → ((done : List (List Text)) → HasAppended options plan done table → FailsIn options plan done rows mid new found) → Runs above left reading rows table old mid
          → EndsSo options plan origin first begun above old new result
      runs-stop above rows left reading table old mid new found (Ok x) is fails runs = absurd is
      runs-stop above rows left reading table old mid new found (Err fault) is fails (done, stands, has, grows, goes) =
          let (near, stops) = fails done has in
          let (all, wrong, held, to) = goes-to origin left (done ++ rows) reading stands in
          let (more, whole) = goes-behind (done ++ rows) reading all wrong to in (
            all,
            wrong,
            held,
            goes all wrong to,
            (
              nears-on _ (begun_text options plan (done ++ rows)) _ old new (nears-more _ (begun_text options plan done) _ old mid new grows near) (begins-all done (done ++ rows) table reading all wrong has to),
              λ soft.
                  let (totals, (front, behind, row, parts, room, wrote)) = stops (ap is_failure (sym is) ∙ soft) in
                  inr (
                    is ∙ totals,
                    (
                      done ++ front,
                      behind ++ more,
                      row,
                      sym whole ∙ ap (λ (xs : List (List Text)). (done ++ xs) ++ more) parts ∙ ap (λ (xs : List (List Text)). xs ++ more) (sym (append_assoc done front (row ∷ behind))) ∙ append_assoc (done ++ front) (row ∷ behind) more,
                      room,
                      grows-more _ (begun_text options plan done) _ old mid new grows wrote,
                    ),
                  ),
            ),
          )

      -- memory, a read or a write failed
      pub runs-fail : {X : Type 0} (above rows : List (List Text)) (left : Option (List ℕ)) (reading : Reading) (table : TableRows) (old mid new : Option (List ℕ)) (found : RunFault) (result : Result X RunFault)
          → IsErrAnd result (λ fault. fault ≡ found) → is_failure found ≡ true → Keeps mid new → Runs above left reading rows table old mid → EndsSo options plan origin first begun above old new result
      runs-fail above rows left reading table old mid new found (Ok x) is failed kept runs = absurd is
      runs-fail above rows left reading table old mid new found (Err fault) is failed kept (done, stands, has, grows, goes) =
          let (all, wrong, held, to) = goes-to origin left (done ++ rows) reading stands in
          let (x, more) = begun-on options plan done table done rows has in
          let (y, last) = begins-all done (done ++ rows) table reading all wrong has to in (
            all,
            wrong,
            held,
            goes all wrong to,
            (
              nears-on _ (begun_text options plan done) _ old new (grows-nears _ _ old new (grows-kept _ _ old mid new grows kept))
                  (x ++ y, sym (append_assoc (begun_text options plan done) x y) ∙ ap (λ (t : Text). t ++ y) more ∙ last),
              λ soft. absurd (true≢false (sym failed ∙ sym (ap is_failure is) ∙ soft)),
            ),
          )

      -- more rows are given
      pub runs-on : (above before after : List (List Text)) (left later : Option (List ℕ)) (reading now : Reading) (table : TableRows) (old mid new : Option (List ℕ)) → before ≡ [] → Keeps mid new
          → ((given : List (List Text)) → StandsIn origin left given reading → GivesMore origin later given reading before after now) → Runs above left reading [] table old mid → Runs above later now after table old new
      runs-on above before after left later reading now table old mid new none kept gives (done, stands, has, grows, goes) =
          let given : done ++ [] ≡ done = append-nil done in
          let (next, longer) = more-given origin later done reading before after now none (gives done (subst (λ (xs : List (List Text)). StandsIn origin left xs reading) given stands)) in (
            done,
            next,
            has,
            grows-kept _ _ old mid new grows kept,
            λ all wrong to. goes all wrong (subst (λ (xs : List (List Text)). GoesTo xs reading all wrong) (sym given) (longer all wrong to)),
          )

      -- what is below these rows ends as told
      below : {X : Type 0} (all : List (List Text)) (wrong : Option InputFault) (above done : List (List Text)) (old mid new : Option (List ℕ)) (result : Result X RunFault) → Grows (begun_text options plan above) (begun_text options plan done) old mid
          → EndsBelow options plan all wrong done mid new result → EndsBelow options plan all wrong above old new result
      below all wrong above done old mid new (Ok x) grows (none, wrote) = (none, grows-more _ (begun_text options plan done) _ old mid new grows wrote)
      below all wrong above done old mid new (Err fault) grows (near, cause) = (
        nears-more _ (begun_text options plan done) _ old mid new grows near,
        λ soft. elim (cause soft) [
          | inl told ↦ inl (told.0, grows-more _ (begun_text options plan done) _ old mid new grows told.1)
          | inr short ↦
              let (totals, (front, behind, row, parts, room, wrote)) = short in
              inr (totals, (front, behind, row, parts, room, grows-more _ (begun_text options plan done) _ old mid new grows wrote))
        ],
      )

      -- all are given
      pub runs-end : {X : Type 0} (above : List (List Text)) (left : Option (List ℕ)) (reading : Reading) (last : Option InputFault) (table : TableRows) (old mid new : Option (List ℕ)) (result : Result X RunFault) → reading ≡ Done last
          → ((rows : List (List Text)) → HasAppended options plan rows table → EndsBelow options plan rows (option_map but_line_in last) rows mid new result) → Runs above left reading [] table old mid
          → EndsSo options plan origin first begun above old new result
      runs-end above left reading last table old mid new result is ends (done, stands, has, grows, goes) =
          let same : done ++ [] ≡ done = append-nil done in
          let here = subst (λ (xs : List (List Text)). StandsIn origin left xs (Done last)) same (subst (StandsIn origin left (done ++ [])) is stands) in (
            done,
            option_map but_line_in last,
            done-held origin left done last here,
            goes done (option_map but_line_in last) (subst (λ (r : Reading). GoesTo (done ++ []) r done (option_map but_line_in last)) (sym is) (same, refl)),
            below done (option_map but_line_in last) above done old mid new result grows (ends done has),
          )

    pub runs-begin : (above rows : List (List Text)) (left : Option (List ℕ)) (reading : Reading) (table : TableRows) (old : Option (List ℕ)) → StandsIn origin left (above ++ rows) reading → HasAppended options plan above table
        → Runs (above ++ rows) reading above left reading rows table old old
    runs-begin above rows left reading table old stands has = (above, stands, has, grows-none (begun_text options plan above) old old (Keeps-refl old), λ all wrong to. to)

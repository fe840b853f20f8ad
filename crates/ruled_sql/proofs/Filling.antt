-- What is known of the statements that fill a table, and of what they lead to.
use Rattle.std.proofs.Common.{◌≡◌, ◌<◌, ◌≤◌, ◌+◌, ◌∙◌, ◌∷◌, ◌++◌, ℕ, zero, suc, [], List, append-nil, length, map, take, drop, get_or, slice_index_or, flat_map, codes, Bool, true, false, if◌then◌else◌, None, Some, inl, inr, refl, sym, ap, ap₂, subst, subst₂, arith}
use Rattle.std.specs.List.{join_by}
use Rattle.std.specs.Prelude.{OnOk, Result, Ok, Err}
use Rattle.std.proofs.lemmas.Grind.{flat_map-append}
use Rattle.std.proofs.lemmas.List.{append_assoc, drop-map, drop_more, get_or-map, length-map, map-append, nil_from_length, take-append-drop, take-map, take_all, take_more}
use Rattle.std.proofs.lemmas.Option.{same_Some, none-some}
use Rattle.csv.specs.Records.{Row as Fields, field_at, fields_of}
use Rattle.sqlite_value.specs.Order.{Row}
use Rattle.sqlite_trees.specs.declared.memory.MemStore.{MemStore}
use Rattle.sqlite.specs.Held.{Held, state}
use Rattle.sqlite.specs.Listing.{misses_table, understood}
use Rattle.sqlite.specs.Steps.{over_memory}
use Rattle.ruled_sql.specs.Answers.{IsAnswer, LacksAnswer, LacksText, is_memory, shown_rows}
use Rattle.ruled_sql.specs.declared.fault.QueryFault.{QueryFault}
use Rattle.ruled_sql.specs.declared.fault.QueryFault.TheVariants.{Change, Encoding, Limit, Memory, Missing, Refused}
use Rattle.ruled_sql.specs.declared.fault.SqlFault.{SqlFault}
use Rattle.ruled_sql.specs.declared.fault.SqlFault.TheVariants as sql
use Rattle.ruled_sql.specs.Filled.{AreCut, AreRun, IsCalled, IsFaultOfStep, IsFilled, IsRun, IsStuck, IsUnfilled, LacksNames, LacksQueried, Misses, LacksTable, Step, Table, columns_text, create_text, fillings, first_name, insertions, left_by, names_no_table, renamed, rows_by, steps, steps_of, table_of, values_of, with_rows}
use Rattle.ruled_sql.specs.declared.filled.NamedRows.{NamedRows}
use Rattle.sqlite.specs.declared.error.Error.{Error}

-- ---- fields

pub field_there : (fields : List (List ℕ)) (i : ℕ) (field : List ℕ) → Some field ≡ field_at fields i → field ≡ slice_index_or fields i []
unfolding field_at
field_there [] i field e = absurd (none-some _ (sym e))
field_there (x ∷ xs) zero field e = same_Some _ _ e
field_there (x ∷ xs) (suc i) field e = field_there xs i field e

pub field_missing : (fields : List (List ℕ)) (i : ℕ) → None ≡ field_at fields i → [] ≡ slice_index_or fields i []
unfolding field_at
field_missing [] zero e = refl
field_missing [] (suc i) e = refl
field_missing (x ∷ xs) zero e = absurd (none-some _ e)
field_missing (x ∷ xs) (suc i) e = field_missing xs i e

-- ---- texts with others between them

module _ {X Y : Type 0} (f : X → List ℕ) (g : Y → List ℕ) (sep : List ℕ) where
  behind-same : (xs : List X) (ys : List Y) → map f xs ≡ map g ys → flat_map (λ x. sep ++ f x) xs ≡ flat_map (λ y. sep ++ g y) ys
  behind-same [] [] is = refl
  behind-same [] (y ∷ ys) is = absurd cc
  behind-same (x ∷ xs) [] is = absurd cc
  behind-same (x ∷ xs) (y ∷ ys) is = let first : f x ≡ g y = cc in let others : map f xs ≡ map g ys = cc in ap₂ (λ a b. (sep ++ a) ++ b) first (behind-same xs ys others)

  pub joined-same : (xs : List X) (ys : List Y) → map f xs ≡ map g ys → join_by f sep xs ≡ join_by g sep ys
  joined-same [] [] is = refl
  joined-same [] (y ∷ ys) is = absurd cc
  joined-same (x ∷ xs) [] is = absurd cc
  joined-same (x ∷ xs) (y ∷ ys) is = let first : f x ≡ g y = cc in let others : map f xs ≡ map g ys = cc in ap₂ (λ a b. a ++ b) first (behind-same xs ys others)

-- ---- steps of a table

abbrev filling : List ℕ → List ℕ → ℕ → List (List (List ℕ)) → List Step
filling table columns count records = (create_text table columns, []) ∷ fillings table count records

-- those of its rows, of which row 0 is this one, and so many others are below it
pub table-steps : (table : List ℕ) (rows : List Fields) (first : Fields) (n : ℕ) → n + 1 ≡ length rows → first ≡ get_or rows 0 first → (columns : List ℕ) (count : ℕ)
    → columns ≡ columns_text (fields_of first) (map fields_of (take n (drop 1 rows))) → count ≡ length (fields_of first) → (create_text table columns, []) ∷ fillings table count (map fields_of (take n (drop 1 rows))) ≡ steps table (map fields_of rows)
table-steps table [] first n whole is columns count named counted = absurd (omega (arith, whole))
table-steps table (x ∷ xs) first n whole is columns count named counted =
    let all : take n xs ≡ xs = take_all n xs (omega (arith, whole)) in
    ap₂ (λ (texts : List ℕ) (k : ℕ). filling table texts k (map fields_of (take n xs)))
    (named ∙ ap (λ (fields : Fields). columns_text (fields_of fields) (map fields_of (take n xs))) is)
    (counted ∙ ap (λ (fields : Fields). length (fields_of fields)) is)
    ∙ ap (λ (records : List Fields). filling table (columns_text (fields_of x) (map fields_of records)) (length (fields_of x)) (map fields_of records)) all

-- without rows there are none
pub no-steps : (table : List ℕ) (rows : List Fields) → length rows ≡ 0 → steps table (map fields_of rows) ≡ []
no-steps table [] none = refl
no-steps table (x ∷ xs) none = absurd (omega (arith, none))

-- ---- steps that are run

pub run-all : (front behind : List Step) (old mid new : Held MemStore) → AreRun front old mid → AreRun behind mid new → AreRun (front ++ behind) old new
run-all [] behind old mid new same runs = subst (λ (it : Held MemStore). AreRun behind it new) same runs
run-all (step ∷ front) behind old mid new first runs = (first.0, first.1, run-all front behind first.0 mid new first.2 runs)

pub run-alone : (step : Step) (old new : Held MemStore) → IsRun step old new → AreRun (step ∷ []) old new
run-alone step old new run = (new, run, refl)

-- one row more
pub run-more : (text : List ℕ) (count : ℕ) (records : List Fields) (i : ℕ) (x : Fields) (old mid new : Held MemStore) → i < length records → x ≡ get_or records i x
    → AreRun (insertions text count (map fields_of (take i records))) old mid → IsRun (text, values_of count (fields_of x)) mid new
    → AreRun (insertions text count (map fields_of (take (i + 1) records))) old new
run-more text count records i x old mid new within is before run =
    let step : Fields → Step = λ (fields : Fields). (text, values_of count (fields_of fields)) in
    let more : insertions text count (map fields_of (take (i + 1) records)) ≡ insertions text count (map fields_of (take i records)) ++ step x ∷ [] =
    ap (λ (some : List Fields). insertions text count (map fields_of some)) (take_more records i x within)
    ∙ ap (insertions text count) (map-append fields_of (take i records) (get_or records i x ∷ []))
    ∙ map-append (λ (fields : List (List ℕ)). (text, values_of count fields)) (map fields_of (take i records)) (fields_of (get_or records i x) ∷ [])
    ∙ ap (λ (fields : Fields). insertions text count (map fields_of (take i records)) ++ step fields ∷ []) (sym is) in
    subst (λ (all : List Step). AreRun all old new) (sym more) (run-all _ _ old mid new before (run-alone (step x) mid new run))

-- a table that is made, and filled
pub made-runs : {X : Type 0} (result : Result X Error) (create : Step) (others : List Step) (old mid new : Held MemStore) → IsRun create old mid → OnOk result (AreRun others mid new) → OnOk result (AreRun (create ∷ others) old new)
made-runs (Ok x) create others old mid new run runs = (mid, run, runs)
made-runs (Err error) create others old mid new run runs = tt

-- rows that are put into a table, and a last step
pub settled : {X : Type 0} (result : Result X Error) (rows : List Step) (settle : Step) (old mid new : Held MemStore) → AreRun rows old mid → OnOk result (IsRun settle mid new) → OnOk result (AreRun (rows ++ settle ∷ []) old new)
settled (Ok x) rows settle old mid new runs last = run-all rows (settle ∷ []) old mid new runs (run-alone settle mid new last)
settled (Err error) rows settle old mid new runs last = tt

-- ---- steps of which one fails

pub cut-front : (front behind : List Step) (old : Held MemStore) (error : Error) → AreCut front old error → AreCut (front ++ behind) old error
cut-front [] behind old error cut = absurd cut
cut-front (step ∷ front) behind old error (inl stuck) = inl stuck
cut-front (step ∷ front) behind old error (inr later) = inr (later.0, later.1, cut-front front behind later.0 error later.2)

pub cut-behind : (front behind : List Step) (old mid : Held MemStore) (error : Error) → AreRun front old mid → AreCut behind mid error → AreCut (front ++ behind) old error
cut-behind [] behind old mid error same cut = subst (λ (it : Held MemStore). AreCut behind it error) same cut
cut-behind (step ∷ front) behind old mid error runs cut = inr (runs.0, runs.1, cut-behind front behind runs.0 mid error runs.2 cut)

-- a row that isn't put in
pub cut-more : (text : List ℕ) (count : ℕ) (records : List Fields) (i : ℕ) (x : Fields) (old mid : Held MemStore) (error : Error) → i < length records → x ≡ get_or records i x
    → AreRun (insertions text count (map fields_of (take i records))) old mid → IsStuck (text, values_of count (fields_of x)) mid error → AreCut (insertions text count (map fields_of records)) old error
cut-more text count records i x old mid error within is before stuck =
    let step : Fields → Step = λ (fields : Fields). (text, values_of count (fields_of fields)) in
    let of : List Fields → List Step = λ (some : List Fields). insertions text count (map fields_of some) in
    let rest = drop (i + 1) records in
    let whole : of records ≡ of (take i records) ++ (step x ∷ of rest) =
    ap of (sym (take-append-drop (i + 1) records) ∙ ap (λ (some : List Fields). some ++ rest) (take_more records i x within) ∙ append_assoc (take i records) (get_or records i x ∷ []) rest)
    ∙ ap (insertions text count) (map-append fields_of (take i records) (get_or records i x ∷ rest))
    ∙ map-append (λ (fields : List (List ℕ)). (text, values_of count fields)) (map fields_of (take i records)) (fields_of (get_or records i x) ∷ map fields_of rest)
    ∙ ap (λ (fields : Fields). of (take i records) ++ (step fields ∷ of rest)) (sym is) in
    subst (λ (all : List Step). AreCut all old error) (sym whole) (cut-behind (of (take i records)) (step x ∷ of rest) old mid error before (inl stuck))

-- ---- several tables

pub with-all : (tables : List Table) → with_rows true tables ≡ tables
with-all [] = refl
with-all (table ∷ tables) = ap (λ (others : List Table). table ∷ others) (with-all tables)

-- a first one that is called otherwise has the same rows
renamed-rows : (name : List ℕ) (tables : List Table) (n : ℕ) → (slice_index_or (renamed name tables) n ([], [])).1 ≡ (slice_index_or tables n ([], [])).1
renamed-rows name [] n = refl
renamed-rows name (first ∷ others) zero = refl
renamed-rows name (first ∷ others) (suc n) = refl

renamed-length : (name : List ℕ) (tables : List Table) → length (renamed name tables) ≡ length tables
renamed-length name [] = refl
renamed-length name (first ∷ others) = refl

nameless : (name : List ℕ) (tables : List Table) (misses : Bool) (number : ℕ) → LacksNames (if misses then renamed name tables else tables) (sql.NoRows number) → LacksNames tables (sql.NoRows number)
nameless name tables false number lacks = lacks
nameless name tables true number lacks = (subst (λ (n : ℕ). number < n) (renamed-length name tables) lacks.0, sym (renamed-rows name tables number) ∙ lacks.1)

pub called-names : (tables called : List Table) (query : List ℕ) → IsCalled tables query called → (number : ℕ) → LacksNames called (sql.NoRows number) → LacksNames tables (sql.NoRows number)
called-names tables called query is number lacks = nameless (codes "input") tables is.0 number (subst (λ (some : List Table). LacksNames some (sql.NoRows number)) is.2 lacks)

module _ (all : Bool) (tables : List NamedRows) (number : ℕ) (x : NamedRows) (within : number < length tables) (is : x ≡ get_or tables number x) where
  abbrev of : List NamedRows → List Table
  of some = with_rows all (map table_of some)

  abbrev own : List Step
  own = steps x.name.now (rows_by all (map fields_of x.rows.items))

  abbrev by : Table → Table
  by it = (it.0, rows_by all it.1)

  taken : take (number + 1) tables ≡ take number tables ++ x ∷ []
  taken = take_more tables number x within ∙ ap (λ (it : NamedRows). take number tables ++ it ∷ []) (sym is)

  -- the steps of one table more
  pub steps-more : steps_of (of (take (number + 1) tables)) ≡ steps_of (of (take number tables)) ++ own
  steps-more =
      ap (λ (some : List NamedRows). steps_of (of some)) taken
      ∙ ap (λ (some : List Table). steps_of (with_rows all some)) (map-append table_of (take number tables) (x ∷ []))
      ∙ ap steps_of (map-append by (map table_of (take number tables)) (table_of x ∷ []))
      ∙ flat_map-append (λ (it : Table). steps it.0 it.1) (of (take number tables)) (by (table_of x) ∷ [])
      ∙ ap (λ (some : List Step). steps_of (of (take number tables)) ++ some) (append-nil own)

  front : take number (of tables) ≡ of (take number tables)
  front = take-map by number (map table_of tables) ∙ ap (with_rows all) (take-map table_of number tables)

  next : take 1 (drop number (of tables)) ≡ by (table_of x) ∷ []
  next =
      ap (take 1) (drop-map by number (map table_of tables) ∙ ap (with_rows all) (drop-map table_of number tables))
      ∙ ap (λ (some : List NamedRows). take 1 (of some)) (drop_more tables number x within ∙ ap (λ (it : NamedRows). it ∷ drop (number + 1) tables) (sym is))

  -- one that isn't made
  module _ (connection : Held MemStore) (from : IsFilled (steps_of (of (take number tables))) connection) where
    unfilled : (error : Error) → AreCut own connection error → IsUnfilled number (of tables) error
    unfilled error cut = (
      from.0,
      from.1,
      connection,
      subst (λ (some : List Table). AreRun (steps_of some) from.0 connection) (sym front) from.2,
      subst (λ (some : List Table). AreCut (steps_of some) connection error) (sym next) (cut-front own [] connection error cut),
    )

    pub not-made : (error : Error) (fault : SqlFault) → IsFaultOfStep number error fault → (is_memory error ≡ false → AreCut own connection error) → LacksTable all (map table_of tables) fault
    not-made error sql.Database by cut = absurd by
    not-made error sql.Damage by cut = absurd by
    not-made error (sql.NoRows table) by cut = absurd by
    not-made error (sql.Columns table found) by cut =
        subst₂ (λ (n : ℕ) (it : Error). IsUnfilled n (of tables) it) (sym by.0) (sym by.1) (unfilled error (cut by.2))
    not-made error (sql.NoTable left) by cut = absurd by
    not-made error (sql.Query found) by cut = absurd by
    not-made error sql.Memory by cut = tt

    pub made-more : (new : Held MemStore) → AreRun own connection new → IsFilled (steps_of (of (take (number + 1) tables))) new
    made-more new runs = (from.0, from.1, subst (λ (some : List Step). AreRun some from.0 new) (sym steps-more) (run-all (steps_of (of (take number tables))) own from.0 connection new from.2 runs))

  -- one without rows
  none-below : (b : Bool) (rows : List (List (List ℕ))) → rows_by b rows ≡ [] → rows ≡ []
  none-below true rows none = none
  none-below false [] none = refl
  none-below false (row ∷ rows) none = absurd (cc)

  pub rowless : (rows : List Fields) → map fields_of rows ≡ rows_by all (map fields_of x.rows.items) → length rows ≡ 0 → LacksNames (map table_of tables) (sql.NoRows number)
  rowless rows same none =
      let bare : rows_by all (map fields_of x.rows.items) ≡ [] = sym same ∙ ap (map fields_of) (nil_from_length rows none) in
      let empty : map fields_of x.rows.items ≡ [] = none-below all (map fields_of x.rows.items) bare in (
        subst (λ (n : ℕ). number < n) (sym (length-map tables table_of)) within,
        ap (λ (it : Table). it.1) (get_or-map table_of tables number x ([], []) within) ∙ ap (λ (it : NamedRows). map fields_of it.rows.items) (sym is) ∙ empty,
      )

-- all are made
pub made-all : (all : Bool) (tables : List NamedRows) (number : ℕ) → length tables ≤ number → (connection : Held MemStore) → IsFilled (steps_of (with_rows all (map table_of (take number tables)))) connection → IsFilled (steps_of (with_rows all (map table_of tables))) connection
made-all all tables number past connection from = subst (λ (some : List NamedRows). IsFilled (steps_of (with_rows all (map table_of some))) connection) (take_all number tables past) from

-- a call that doesn't fail
pub ok-runs : {X : Type 0} (result : Result X Error) (P : Type 0) → ((error : Error) → result ≡ Err error → ⊥) → OnOk result P → P
ok-runs (Ok x) P none runs = runs
ok-runs (Err error) P none runs = absurd (none error refl)

-- whether a query names another table
pub misses-by : (tables : List Table) (query : List ℕ) (made : Held MemStore) → IsFilled (steps_of (with_rows false tables)) made → (lacks : Bool) → lacks ≡ misses_table (understood (state over_memory made).now.schema query)
    → Misses tables query lacks
misses-by tables query made from false is = (made, from, sym is)
misses-by tables query made from true is = inl (made, from, sym is)

-- ---- why a query has no answer of tables

pub lacks-names : (tables : List Table) (query : List ℕ) (most : ℕ) (fault : SqlFault) → LacksNames tables fault → LacksQueried tables query most fault
lacks-names tables query most sql.Database lacks = absurd lacks
lacks-names tables query most sql.Damage lacks = absurd lacks
lacks-names tables query most (sql.NoRows number) lacks = lacks
lacks-names tables query most (sql.Columns number error) lacks = absurd lacks
lacks-names tables query most (sql.NoTable left) lacks = absurd lacks
lacks-names tables query most (sql.Query found) lacks = absurd lacks
lacks-names tables query most sql.Memory lacks = tt

-- tables that are made, or lack a row 0
pub no-names : (tables : List Table) (all : Bool) (fault : SqlFault) → ((number : ℕ) (error : Error) → fault ≡ sql.Columns number error → ⊥) → LacksTable all tables fault → LacksNames tables fault
no-names tables all sql.Database none lacks = lacks
no-names tables all sql.Damage none lacks = lacks
no-names tables all (sql.NoRows number) none lacks = lacks
no-names tables all (sql.Columns number error) none lacks = absurd (none number error refl)
no-names tables all (sql.NoTable left) none lacks = lacks
no-names tables all (sql.Query found) none lacks = lacks
no-names tables all sql.Memory none lacks = lacks

module _ (tables called : List Table) (query : List ℕ) (most : ℕ) (either : IsCalled tables query called) where
  pub lacks-table : (fault : SqlFault) → LacksTable true called fault → LacksQueried tables query most fault
  lacks-table sql.Database lacks = absurd lacks
  lacks-table sql.Damage lacks = absurd lacks
  lacks-table (sql.NoRows number) lacks = called-names tables called query either number lacks
  lacks-table (sql.Columns number error) lacks = (called, either, subst (λ (some : List Table). IsUnfilled number some error) (with-all called) lacks)
  lacks-table (sql.NoTable left) lacks = absurd lacks
  lacks-table (sql.Query found) lacks = absurd lacks
  lacks-table sql.Memory lacks = tt

  module _ (connection : Held MemStore) (filled : IsFilled (steps_of called) connection) where
    lacks-by : (fault : QueryFault) → LacksAnswer (first_name tables) query most (state over_memory connection).now fault → (no_table : Bool) → names_no_table fault ≡ no_table
        → LacksQueried tables query most (if no_table then sql.NoTable (left_by fault) else sql.Query fault)
    lacks-by fault lacks false is = (is, (called, either, connection, filled, lacks))
    lacks-by fault lacks true is = (called, either, connection, filled, (fault, is, refl, lacks))

    pub lacks-answer : (fault : QueryFault) → LacksAnswer (first_name tables) query most (state over_memory connection).now fault → LacksQueried tables query most (if names_no_table fault then sql.NoTable (left_by fault) else sql.Query fault)
    lacks-answer fault lacks = lacks-by fault lacks (names_no_table fault) refl

    -- an answer that isn't UTF-8
    pub lacks-text : (names : List (List ℕ)) (answer : List Row) → IsAnswer query most (state over_memory connection).now names answer → (fault : QueryFault) → LacksText (shown_rows [] names answer) fault
        → LacksQueried tables query most (sql.Query fault)
    lacks-text names answer is (Refused error) lacks = absurd lacks
    lacks-text names answer is (Missing what left) lacks = absurd lacks
    lacks-text names answer is (Limit steps) lacks = absurd lacks
    lacks-text names answer is Change lacks = absurd lacks
    lacks-text names answer is (Encoding row) lacks = (refl, (called, either, connection, filled, (names, answer, is, lacks)))
    lacks-text names answer is Memory lacks = (refl, (called, either, connection, filled, tt))

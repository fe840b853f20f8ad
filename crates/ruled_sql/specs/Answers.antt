-- The rows that a query answers of the database that bytes hold, or why it answers none.
use Rattle.std.specs.Prelude.{◌≡◌, ◌≢◌, ◌⊎◌, ⊤, ◌<◌, ◌≤◌, ℕ, Bool, true, false, List, [], ◌∷◌, length, map, Option, Some, None, unwrap_or, Result, Ok, Err, ◌+◌, ◌*◌}
use Rattle.std.specs.Prelude.{◌/◌, ◌==◌, max, min, slice_index_or, if◌then◌else◌}
use Rattle.csv.specs.Records.{AllText}
use Rattle.sqlite_value.specs.Order.{Row}
use Rattle.sqlite_trees.specs.Tree.{Trees}
use Rattle.sqlite_wal.specs.Recovery.{Image}
use Rattle.sqlite_schema.specs.declared.command.Command.{Command}
use Rattle.sqlite_schema.specs.declared.command.Command.TheVariants.{Begin, Commit, Release, Rollback, RollbackTo}
use Rattle.sqlite_schema.specs.declared.command.Returning.{Returning}
use Rattle.sqlite_schema.specs.declared.schema.Schema.{Schema}
use Rattle.sqlite_schema.specs.declared.schema.Keys.TheVariants.{Enforced}
use Rattle.sqlite_resolve.specs.declared.compiled.Compiled.{Compiled}
use Rattle.sqlite_resolve.specs.declared.error.CompileError.{CompileError}
use Rattle.sqlite.specs.Clock.{timed}
use Rattle.sqlite.specs.Does.{Does, Tally}
use Rattle.sqlite.specs.declared.error.Error.{Error}
use Rattle.sqlite.specs.declared.error.Error.TheVariants.{InvalidParameterCount, MultipleStatement, SqlInputError, SqliteFailure}
use Rattle.sqlite.specs.declared.error.ErrorCode.TheVariants as code
use Rattle.sqlite.specs.Effect.{Database, IsDatabase, Reads, RefusesToRead}
use Rattle.sqlite.specs.Files.{AreFoundIn, HoldsDatabase}
use Rattle.sqlite.specs.Listing.{IsSourceOf, reads_listing, understood}
use Rattle.sqlite.specs.State.{text_of}
use Rattle.sqlite.specs.Steps.{column_names}
use Rattle.ruled_database.specs.Tables.{shown_text}
use Rattle.ruled_sql.specs.Lacks.{missing_by, stray_in}
use Rattle.ruled_sql.specs.declared.lack.Meaning.{Meaning}
use Rattle.ruled_sql.specs.declared.fault.QueryFault.{QueryFault}
use Rattle.ruled_sql.specs.declared.fault.QueryFault.TheVariants.{Change, Encoding, Limit, Memory, Missing, Refused}
use Rattle.ruled_sql.specs.declared.fault.SqlFault.{SqlFault}
use Rattle.ruled_sql.specs.declared.fault.SqlFault.TheVariants as sql

-- ---- the database

-- the bytes of a database file, with no log beside it
abbrev pub image_of : List ℕ → Image
image_of bytes = record { log = []; db = bytes }

-- its rows are those that the bytes stand for, and its schema is the one that they list, which they obey
pub record IsHeld (bytes : List ℕ) (db : Database) : Type 0 where
  pub found : AreFoundIn (image_of bytes) db.trees
  pub alone : (trees : Trees) → HoldsDatabase (image_of bytes) trees → db.trees ≡ trees
  pub sound : IsDatabase db

-- they hold no database that is understood
abbrev pub HoldsNone : List ℕ → Type 0
HoldsNone bytes = (trees : Trees) → ¬ HoldsDatabase (image_of bytes) trees

-- ---- the answer

-- the query is one statement, which means this, and has no parameters
pub record Means (query : List ℕ) (db : Database) (c : Compiled) : Type 0 where
  pub is : understood db.schema query ≡ Ok c
  pub whole : length query ≤ c.tail
  pub bare : length c.names ≡ 0

module _ (query : List ℕ) (steps : ℕ) (db : Database) (c : Compiled) (params : Row) where
  -- what a statement that returns rows makes of the database, or why it makes nothing of it
  abbrev pub Makes : Result (Tally × Database) (Option Error) → Type 0
  Makes = Does (Some steps) (record { keys = Enforced; in_doubt = false; may_wait = false }) params db (text_of query c) c.returning c.command

  -- the rows are what a statement reads; or what one that changes no row returns
  abbrev pub Shows : Option Returning → List Row → Type 0
  Shows None rows = (source : Database) × IsSourceOf (reads_listing db.schema query) db source × Reads c.command source params rows
  Shows (Some what) rows = (tally : Tally) × (after : Database) × Makes (Ok (tally, after)) × (unwrap_or tally.rows 0 ≡ 0) × (rows ≡ tally.shown)

-- the names of its columns, and its rows, each of which takes a step
pub record IsAnswer (query : List ℕ) (steps : ℕ) (db : Database) (names : List (List ℕ)) (rows : List Row) : Type 0 where
  pub statement : Compiled
  pub means : Means query db statement
  -- in milliseconds, where the statement reads the time
  pub time : ℕ
  pub shows : Shows query steps db statement (timed [] statement.formats time) statement.returning rows
  pub named : names ≡ column_names statement
  pub within : length rows < steps

-- ---- texts

-- rows of texts, of which the names are row 0, with this text for NULL
abbrev pub shown_rows : List ℕ → List (List ℕ) → List Row → List (List (List ℕ))
shown_rows null_text names rows = names ∷ map (map (shown_text null_text)) rows

-- the rows that a query answers of the database that bytes hold, in so many steps at most
pub record AreAnswered (bytes query : List ℕ) (steps : ℕ) (null_text : List ℕ) (rows : List (List (List ℕ))) : Type 0 where
  pub database : Database
  pub held : IsHeld bytes database
  pub names : List (List ℕ)
  pub answer : List Row
  pub is : IsAnswer query steps database names answer
  pub shown : rows ≡ shown_rows null_text names answer

-- ---- why there is no answer

-- the text isn't understood, as it names what the database lacks, by the word from which so many bytes of it are left
abbrev pub IsMissing : List ℕ → List ℕ → Database → Meaning → ℕ → Type 0
IsMissing table query db what left = (fault : CompileError) × (understood db.schema query ≡ Err fault) × (what ≡ missing_by fault) × (stray_in db.schema table query what ≡ Some left)

-- the text isn't one statement without parameters that doesn't read the time, or a missing name isn't found
abbrev pub IsNoQuery : List ℕ → List ℕ → Database → Error → Type 0
IsNoQuery table query db error =
    ((fault : CompileError) × (understood db.schema query ≡ Err fault) × (stray_in db.schema table query (missing_by fault) ≡ None) × (error ≡ SqlInputError fault))
    ⊎ ((c : Compiled) × (understood db.schema query ≡ Ok c)
    × (((¬ (length query ≤ c.tail)) × (error ≡ MultipleStatement)) ⊎ (((0 ≢ length c.names) × (error ≡ InvalidParameterCount 0 (length c.names)))
    ⊎ ((c.formats ≢ []) × (error ≡ SqliteFailure code.NoClock)))))

-- the statement is one of transactions, which returns no rows
abbrev pub IsOfTransaction : Command → Error → Type 0
IsOfTransaction command error =
    ((error ≡ SqliteFailure code.TransactionState) × ((command ≡ Begin) ⊎ ((command ≡ Commit) ⊎ (command ≡ Rollback))))
    ⊎ ((error ≡ SqliteFailure code.NoSuchSavepoint) × (name : List ℕ) × ((command ≡ Release name) ⊎ (command ≡ RollbackTo name)))

module _ (query : List ℕ) (steps : ℕ) (db : Database) (c : Compiled) (params : Row) where
  -- it isn't read; or one that returns rows makes none, or one that is too big to be stored
  abbrev pub Fails : Error → Option Returning → Type 0
  Fails error None = (source : Database) × IsSourceOf (reads_listing db.schema query) db source × RefusesToRead (Some steps) c.command source params error
  Fails error (Some what) =
      Makes query steps db c params (Err (Some error)) ⊎ ((Makes query steps db c params (Err None) × (error ≡ SqliteFailure code.TooBig)) ⊎ IsOfTransaction c.command error)

  -- it changes rows
  abbrev pub Changes : Type 0
  Changes = (tally : Tally) × (after : Database) × Makes query steps db c params (Ok (tally, after)) × (0 < unwrap_or tally.rows 0)

-- the query isn't understood, or fails, with this error
abbrev pub IsRefused : List ℕ → List ℕ → ℕ → Database → Error → Type 0
IsRefused table query steps db error = IsNoQuery table query db error ⊎ ((c : Compiled) × Means query db c × (time : ℕ) × Fails query steps db c (timed [] c.formats time) error c.returning)

abbrev pub IsChange : List ℕ → ℕ → Database → Type 0
IsChange query steps db = (c : Compiled) × Means query db c × (time : ℕ) × Changes query steps db c (timed [] c.formats time)

-- a row isn't UTF-8, whatever is shown for NULL
abbrev pub LacksText : List (List (List ℕ)) → QueryFault → Type 0
LacksText rows (Encoding row) = ¬ AllText (slice_index_or rows row [])
LacksText rows Memory = ⊤
LacksText rows fault = ⊥

-- texts are no row of this number
abbrev pub IsFaultOfRow : ℕ → List (List ℕ) → QueryFault → Type 0
IsFaultOfRow row texts (Encoding at) = (at ≡ row) × ¬ AllText texts
IsFaultOfRow row texts Memory = ⊤
IsFaultOfRow row texts fault = ⊥

-- why a query has no answer, unless memory was refused; its table may have another name
abbrev pub LacksAnswer : List ℕ → List ℕ → ℕ → Database → QueryFault → Type 0
LacksAnswer table query steps db (Refused error) = IsRefused table query steps db error
LacksAnswer table query steps db (Missing what left) = IsMissing table query db what left
LacksAnswer table query steps db (Limit most) = (most ≡ steps) × IsRefused table query steps db (SqliteFailure code.OperationInterrupted)
LacksAnswer table query steps db Change = IsChange query steps db
LacksAnswer table query steps db (Encoding row) = (names : List (List ℕ)) × (answer : List Row) × IsAnswer query steps db names answer × LacksText (shown_rows [] names answer) (Encoding row)
LacksAnswer table query steps db Memory = ⊤

-- why bytes aren't opened as a database, unless memory was refused
abbrev pub IsUnopened : List ℕ → SqlFault → Type 0
IsUnopened bytes sql.Database = HoldsNone bytes
IsUnopened bytes sql.Damage = HoldsNone bytes
IsUnopened bytes sql.Memory = ⊤
IsUnopened bytes fault = ⊥

-- why a query has no answer of them
abbrev pub LacksRows : List ℕ → List ℕ → ℕ → SqlFault → Type 0
LacksRows bytes query steps (sql.Query fault) = (db : Database) × IsHeld bytes db × LacksAnswer [] query steps db fault
LacksRows bytes query steps fault = IsUnopened bytes fault

-- ---- errors of `sqlite`

-- memory was refused, or got bytes wrong
abbrev pub is_memory : Error → Bool
is_memory (SqliteFailure code.OutOfMemory) = true
is_memory (SqliteFailure code.SystemIoFailure) = true
is_memory (SqliteFailure code.DatabaseCorrupt) = true
is_memory (SqliteFailure code.DiskFull) = true
is_memory (SqliteFailure code.Closed) = true
is_memory error = false

-- a file in memory isn't opened, with this error, and memory got its bytes right or not
abbrev pub IsFaultOfFile : Error → Bool → SqlFault → Type 0
IsFaultOfFile error right sql.Database = error ≡ SqliteFailure code.NotADatabase
IsFaultOfFile error right sql.Damage = (error ≡ SqliteFailure code.DatabaseCorrupt) × (right ≡ true)
IsFaultOfFile error right sql.Memory = ⊤
IsFaultOfFile error right fault = ⊥

-- a query of so many steps fails with this error
abbrev pub IsFaultOf : ℕ → Error → QueryFault → Type 0
IsFaultOf steps error (Refused found) = (found ≡ error) × (is_memory error ≡ false) × (error ≢ SqliteFailure code.OperationInterrupted)
IsFaultOf steps error (Limit most) = (most ≡ steps) × (error ≡ SqliteFailure code.OperationInterrupted)
IsFaultOf steps error Memory = is_memory error ≡ true
IsFaultOf steps error fault = ⊥

-- a text is no query of so many steps of a database with this schema, by this error: it may name what is missing
abbrev pub IsFaultOfText : Schema → List ℕ → List ℕ → ℕ → Error → QueryFault → Type 0
IsFaultOfText schema table query steps error fault =
    ((found : CompileError) × (error ≡ SqlInputError found) × (left : ℕ) × (fault ≡ Missing (missing_by found) left) × (stray_in schema table query (missing_by found) ≡ Some left))
    ⊎ (IsFaultOf steps error fault × ((found : CompileError) → error ≡ SqlInputError found → stray_in schema table query (missing_by found) ≡ None))

-- ---- the pages of a database

-- what the header of a database has as its page size
abbrev pub page_number : List ℕ → ℕ
page_number bytes = 256 * slice_index_or bytes 16 0 + slice_index_or bytes 17 0

-- the page size: 1 stands for 65,536, and each page has 512 bytes at least
abbrev pub page_size : List ℕ → ℕ
page_size bytes = if page_number bytes == 1 then 65536 else max (page_number bytes) 512

-- how many pages are kept: the whole ones that the bytes have and one more, 2,000 at most
abbrev pub kept_pages : List ℕ → ℕ
kept_pages bytes = min (length bytes / page_size bytes) 1999 + 1

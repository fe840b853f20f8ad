-- Why a run shows no table, or not all of it, and names in error lines.
use Rattle.std.specs.Prelude.{◌≡◌, ◌⊎◌, ℕ, Bool, true, false, not, Option, Some, None, Result, Ok, Err, List, codes, ◌++◌, ◌==◌, chars, if◌then◌else◌, option_map}
use Rattle.ruled_csv.specs.declared.fault.RowsFault.{RowsFault}
use Rattle.ruled_csv.specs.declared.fault.RowsFault.TheVariants as rows
use Rattle.ruled_csv.specs.Faults as csv
use Rattle.ruled_json.specs.declared.fault.JsonFault.{JsonFault}
use Rattle.ruled_json.specs.declared.fault.JsonFault.TheVariants as json_faults
use Rattle.ruled_json.specs.Faults as json
use Rattle.ruled_database.specs.declared.fault.DatabaseFault.{DatabaseFault}
use Rattle.ruled_database.specs.declared.fault.DatabaseFault.TheVariants as database
use Rattle.ruled_sql.specs.declared.fault.QueryFault.TheVariants as query
use Rattle.ruled_sql.specs.declared.fault.SqlFault.{SqlFault}
use Rattle.ruled_sql.specs.declared.fault.SqlFault.TheVariants as sql
use Rattle.ruled_database.specs.declared.fault.TableFault.TheVariants as table
use Rattle.ruled_table.specs.declared.view.ViewFault.{ViewFault}
use Rattle.ruled_table.specs.declared.view.ViewFault.TheVariants as view
use Rattle.ruled_io.specs.declared.fault.FurtherFault.{FurtherFault}
use Rattle.ruled_io.specs.declared.fault.FurtherFault.TheVariants as further
use Rattle.ruled_io.specs.declared.fault.InputFault.{InputFault}
use Rattle.ruled_io.specs.declared.fault.InputFault.TheVariants.{Rows, Json, Sql, Database, Log, Stream, Further, Column, Sort, Totals, Memory}
use Rattle.ruled_io.specs.declared.fault.ReadFault.{ReadFault}
use Rattle.ruled_io.specs.declared.fault.ReadFault.TheVariants as read
use Rattle.ruled_io.specs.declared.fault.RunFault.{RunFault}
use Rattle.ruled_io.specs.declared.fault.RunFault.TheVariants.{Input, Read, Closed, Write}
use Rattle.ruled_io.specs.declared.output.WriteFault.{WriteFault}
use Rattle.ruled_io.specs.declared.output.WriteFault.TheVariants as write
use Rattle.ruled_io.specs.declared.fault.StreamedFault.{StreamedFault}
use Rattle.ruled_io.specs.declared.fault.StreamedFault.TheVariants as streamed
use Rattle.std.specs.Char.{encode_utf8}
use Rattle.std.specs.declared.io.ErrorKind.{ErrorKind}
use Rattle.std.specs.declared.io.ErrorKind.TheVariants as kind
use Rattle.std.specs.List.{flat_map}
use Rattle.pg_fit.specs.Controls.{sign_of}
use Rattle.pg_layout.specs.Text.{Text}
use Rattle.ruled_io.specs.declared.output.Output.{Output}
use Rattle.std.specs.Io.KnownBytes.{Appends}

-- ---- exit statuses

abbrev pub status_of_input : InputFault → ℕ
status_of_input (Rows fault) = 2
status_of_input (Json fault) = 2
status_of_input (Sql fault) = 2
status_of_input (Database fault) = 2
status_of_input Log = 2
status_of_input (Stream fault) = 2
status_of_input (Further input fault) = 2
status_of_input (Column name) = 2
status_of_input Sort = 2
status_of_input Totals = 3
status_of_input Memory = 4

-- 0 where nobody reads what is written
abbrev pub status_of : RunFault → ℕ
status_of (Input fault) = status_of_input fault
status_of (Read read.Encoding) = 2
status_of (Read read.Folder) = 5
status_of (Read read.Failed) = 5
status_of Closed = 0
status_of Write = 5

-- the exit status of a run that ended so
abbrev pub status_after : Option RunFault → ℕ
status_after None = 0
status_after (Some fault) = status_of fault

-- ---- kinds of faults

-- whether a fault says that memory was refused, and not that the bytes or what is asked of them are wrong
abbrev pub is_memory : InputFault → Bool
is_memory (Rows fault) = false
is_memory (Json fault) = false
is_memory (Sql fault) = false
is_memory (Database fault) = false
is_memory Log = false
is_memory (Stream fault) = false
is_memory (Further input fault) = false
is_memory (Column name) = false
is_memory Sort = false
is_memory Totals = false
is_memory Memory = true

-- whether memory, a read or a write failed
abbrev pub is_failure : RunFault → Bool
is_failure (Input fault) = is_memory fault
is_failure (Read fault) = true
is_failure Closed = true
is_failure Write = true

-- whether a write failed
abbrev pub is_of_write : RunFault → Bool
is_of_write (Input fault) = false
is_of_write (Read fault) = false
is_of_write Closed = true
is_of_write Write = true

-- whether a read failed
abbrev pub is_read : RunFault → Bool
is_read (Input fault) = false
is_read (Read fault) = true
is_read Closed = false
is_read Write = false

-- why it failed
abbrev pub read_part : RunFault → Option ReadFault
read_part (Input fault) = None
read_part (Read fault) = Some fault
read_part Closed = None
read_part Write = None

-- whether a fault is found before anything is written, where all rows are shown at once: those of the input, and of what is asked of it
abbrev pub is_early : RunFault → Bool
is_early (Input fault) = not (is_memory fault)
is_early (Read fault) = true
is_early Closed = false
is_early Write = false

-- a read failed with an error of this kind
abbrev pub fault_of_read : ErrorKind → RunFault
fault_of_read kind.OutOfMemory = Input Memory
fault_of_read kind.InvalidData = Read read.Encoding
fault_of_read kind.IsADirectory = Read read.Folder
fault_of_read kind = Read read.Failed

-- memory or a read failed
abbrev pub IsOfRead : RunFault → Type 0
IsOfRead fault = (fault ≡ Input Memory) ⊎ (is_read fault ≡ true)

-- ---- what they tell

-- a fault, but for the line on which its row begins, or on which it is seen
abbrev pub but_line_further : FurtherFault → FurtherFault
but_line_further (further.Rows fault) = further.Rows (csv.but_line fault)
but_line_further (further.Json fault) = further.Json (json.but_line fault)
but_line_further further.Database = further.Database
but_line_further further.Header = further.Header
but_line_further further.Length = further.Length

abbrev pub but_line_in : InputFault → InputFault
but_line_in (Rows fault) = Rows (csv.but_line fault)
but_line_in (Json fault) = Json (json.but_line fault)
but_line_in (Sql fault) = Sql fault
but_line_in (Database fault) = Database fault
but_line_in Log = Log
but_line_in (Stream fault) = Stream fault
but_line_in (Further input fault) = Further input (but_line_further fault)
but_line_in (Column name) = Column name
but_line_in Sort = Sort
but_line_in Totals = Totals
but_line_in Memory = Memory

abbrev pub but_line : RunFault → RunFault
but_line (Input fault) = Input (but_line_in fault)
but_line (Read fault) = Read fault
but_line Closed = Closed
but_line Write = Write

-- a result tells the right fault, or that memory was refused; where it is an `Ok` there is none
abbrev pub Tells : {X : Type 0} → Option InputFault → Result X InputFault → Type 0
Tells right (Ok x) = right ≡ None
Tells right (Err fault) = is_memory fault ≡ false → right ≡ Some (but_line_in fault)

-- a run's result tells it, or that memory, a read or a write failed
abbrev pub TellsRun : {X : Type 0} → Option RunFault → Result X RunFault → Type 0
TellsRun right (Ok x) = right ≡ None
TellsRun right (Err fault) = is_failure fault ≡ false → right ≡ Some (but_line fault)

-- ---- faults of what is called

abbrev pub fault_of_rows : RowsFault → InputFault
fault_of_rows (rows.OpenQuote line) = Rows (rows.OpenQuote line)
fault_of_rows (rows.BehindQuote line) = Rows (rows.BehindQuote line)
fault_of_rows (rows.Length row line fields columns) = Rows (rows.Length row line fields columns)
fault_of_rows (rows.Encoding row line) = Rows (rows.Encoding row line)
fault_of_rows rows.Memory = Memory

abbrev pub fault_of_json : JsonFault → InputFault
fault_of_json (json_faults.Encoding place) = Json (json_faults.Encoding place)
fault_of_json (json_faults.Syntax place) = Json (json_faults.Syntax place)
fault_of_json json_faults.NoMember = Json json_faults.NoMember
fault_of_json json_faults.NoRecords = Json json_faults.NoRecords
fault_of_json (json_faults.NoObject place) = Json (json_faults.NoObject place)
fault_of_json (json_faults.NoColumn place) = Json (json_faults.NoColumn place)
fault_of_json json_faults.Memory = Memory

abbrev pub fault_of_sql : SqlFault → InputFault
fault_of_sql sql.Database = Sql sql.Database
fault_of_sql sql.Damage = Sql sql.Damage
fault_of_sql (sql.NoRows table) = Sql (sql.NoRows table)
fault_of_sql (sql.Columns table error) = Sql (sql.Columns table error)
fault_of_sql (sql.NoTable left) = Sql (sql.NoTable left)
fault_of_sql (sql.Query (query.Refused error)) = Sql (sql.Query (query.Refused error))
fault_of_sql (sql.Query (query.Missing what left)) = Sql (sql.Query (query.Missing what left))
fault_of_sql (sql.Query (query.Limit steps)) = Sql (sql.Query (query.Limit steps))
fault_of_sql (sql.Query query.Change) = Sql (sql.Query query.Change)
fault_of_sql (sql.Query (query.Encoding row)) = Sql (sql.Query (query.Encoding row))
fault_of_sql (sql.Query query.Memory) = Memory
fault_of_sql sql.Memory = Memory

abbrev pub fault_of_database : DatabaseFault → InputFault
fault_of_database database.Database = Database database.Database
fault_of_database database.Encoding = Database database.Encoding
fault_of_database database.Absent = Database database.Absent
fault_of_database database.Elsewhere = Database database.Elsewhere
fault_of_database database.Keyed = Database database.Keyed
fault_of_database database.Computed = Database database.Computed
fault_of_database (database.Schema table.Damage) = Database (database.Schema table.Damage)
fault_of_database (database.Schema table.Default) = Database (database.Schema table.Default)
fault_of_database (database.Schema (table.Encoding row)) = Database (database.Schema (table.Encoding row))
fault_of_database (database.Schema table.Memory) = Memory
fault_of_database (database.Table table.Damage) = Database (database.Table table.Damage)
fault_of_database (database.Table table.Default) = Database (database.Table table.Default)
fault_of_database (database.Table (table.Encoding row)) = Database (database.Table (table.Encoding row))
fault_of_database (database.Table table.Memory) = Memory

abbrev pub fault_of_view : ViewFault → InputFault
fault_of_view (view.Column name) = Column name
fault_of_view view.Sort = Sort
fault_of_view view.Totals = Totals
fault_of_view view.Memory = Memory

-- the fault of the further input of this number
abbrev pub of_further : ℕ → InputFault → InputFault
of_further input (Rows fault) = Further input (further.Rows fault)
of_further input (Json fault) = Further input (further.Json fault)
of_further input (Sql fault) = Sql fault
of_further input (Database fault) = Database fault
of_further input Log = Log
of_further input (Stream fault) = Stream fault
of_further input (Further number fault) = Further number fault
of_further input (Column name) = Column name
of_further input Sort = Sort
of_further input Totals = Totals
of_further input Memory = Memory

abbrev pub of_view : ViewFault → RunFault
of_view fault = Input (fault_of_view fault)

abbrev pub fault_of_write : WriteFault → RunFault
fault_of_write write.Closed = Closed
fault_of_write write.Failed = Write

-- ---- the words for why rows can't be streamed

abbrev pub streamed_fault_text : StreamedFault → List ℕ
streamed_fault_text streamed.Value = codes "a single JSON value can't be streamed"
streamed_fault_text streamed.Database = codes "the list of tables can't be streamed; --table can"

-- ---- names in error lines

-- what a line shows for a character: for a line feed its picture, `␊`, and for any other the character that a table shows
abbrev pub sign_in_line : ℕ → ℕ
sign_in_line c = if c == 10 then 0x240A else sign_of c

abbrev pub shown_in_line : ℕ → Text
shown_in_line c = encode_utf8 (sign_in_line c)

-- a text on one line, without a character on which a terminal acts
unfoldable pub line_text : Text → Text
line_text text = flat_map shown_in_line (chars text)

-- what is named, in quotes
abbrev pub quoted_text : Text → Text
quoted_text name = codes "'" ++ (line_text name ++ codes "'")

-- what was written, where a writer has such bytes
abbrev pub written : {W : Type 0} → (W → Option (List ℕ)) → Output W → Option (List ℕ)
written contents out = contents out.writer

-- why a write has failed, where one has
abbrev pub failure_of : {W : Type 0} → Output W → Option RunFault
failure_of out = option_map fault_of_write out.failure

-- the part of a fault that a write has
abbrev pub write_part : RunFault → Option RunFault
write_part (Input fault) = None
write_part (Read fault) = None
write_part Closed = Some Closed
write_part Write = Some Write

abbrev pub fault_written : Option RunFault → Option RunFault
fault_written None = None
fault_written (Some fault) = write_part fault

abbrev pub failure_in : {X : Type 0} → Result X RunFault → Option RunFault
failure_in (Ok x) = None
failure_in (Err fault) = write_part fault

-- a result is the fault of a write exactly where a write has failed so, if none had before
abbrev pub TellsWrite : {X : Type 0} → Option RunFault → Option RunFault → Result X RunFault → Type 0
TellsWrite old new result = old ≡ None → new ≡ failure_in result

-- ---- what a write that fails has written

-- known bytes grow by a beginning of these
abbrev pub Begins : Option (List ℕ) → Option (List ℕ) → List ℕ → Type 0
Begins old new bytes = (done : List ℕ) × (rest : List ℕ) × (bytes ≡ done ++ rest) × Appends old new done

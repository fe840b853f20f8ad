-- The tables that a database lists, the rows of one, at once and one after another, and the words for why there are none.
use Rattle.std.specs.Prelude.{◌≡◌, ◌≢◌, ◌⊎◌, ⊤, ℕ, ◌^◌, ◌==◌, nat_lt, true, false, List, [], ◌∷◌, ◌++◌, codes, bytes_eq, unsigned_abs, Option, Some, None, option_map, if◌then◌else◌}
use Rattle.std.specs.Prelude.{decimal, ◌≤◌, ◌-◌, ◌+◌, length, All, Bool, Result, Ok, Err}
use Rattle.std.specs.Option.{option_and_then, option_or, unwrap_or}
use Rattle.std.specs.Str.{str_eq_ignore_ascii_case}
use Rattle.csv.specs.Records.{AllText, field_at}
use Rattle.sqlite_sql.specs.Numeral.{int_at_front}
use Rattle.ruled_database.specs.Definitions.{definition_of}
use Rattle.ruled_database.specs.Trees.{has_header, has_encoding, Gives, Step, Stored, a_row, first_of, page_count, page_of, rows_below, rows_from, sound_rows}
use Rattle.ruled_database.specs.Tables.{AreRows, HasRow, IsDamaged, IsFirstWrong, IsOld, names_in, tree_rows, HasWrongText, shown_rows_of}
use Rattle.ruled_database.specs.declared.definition.Column.{Column}
use Rattle.ruled_database.specs.declared.definition.Definition.{Definition}
use Rattle.ruled_database.specs.declared.fault.DatabaseFault.{DatabaseFault}
use Rattle.ruled_database.specs.declared.fault.DatabaseFault.TheVariants.{Database, Encoding, Schema, Absent, Elsewhere, Keyed, Computed, Table}
use Rattle.ruled_database.specs.declared.fault.TableFault.{TableFault}
use Rattle.ruled_database.specs.declared.fault.TableFault.TheVariants as row
use Rattle.ruled_database.specs.declared.schema.ItemKind.{ItemKind}
use Rattle.ruled_database.specs.declared.schema.ItemKind.TheVariants as kind
use Rattle.ruled_database.specs.declared.schema.Listed.{Listed}
use Rattle.sqlite_format.specs.declared.kind.Tree.{Tree}
use Rattle.ruled_database.specs.declared.table.TableReader.{TableReader}
use Rattle.ruled_database.specs.declared.tree.Cursor.{Cursor}
use Rattle.ruled_database.specs.declared.tree.Level.{Level}
use Rattle.ruled_database.specs.declared.tree.StoredRow.{StoredRow}

abbrev pub Text : Type 0
Text = List ℕ

-- ---- the entries of a schema

abbrev pub text_at : List Text → ℕ → Text
text_at row place = unwrap_or (field_at row place) []

-- the number of a page, or 0
unfoldable pub root_of : Text → ℕ
root_of text = let root = unsigned_abs (int_at_front text) in if nat_lt root (2 ^ 32) then root else 0

-- a table without a page of its own is a virtual one
abbrev pub kind_of : Text → ℕ → Option ItemKind
kind_of word root =
    if bytes_eq word (codes "table") then Some (if root == 0 then kind.VirtualTable else kind.Table)
    else if bytes_eq word (codes "view") then Some kind.View
    else None

-- a table or a view
pub record Entry : Type 0 where
  pub kind : ItemKind
  pub name : Text
  pub root : ℕ
  pub statement : Text

abbrev pub entry_of : Listed → Entry
entry_of it = record { kind = it.kind; name = it.name.now; root = it.root; statement = it.statement.now }

-- an entry has a type, a name, a table, a page and a statement
abbrev pub entry_by : List Text → ItemKind → Entry
entry_by row kind = record { kind = kind; name = text_at row 1; root = root_of (text_at row 3); statement = text_at row 4 }

unfoldable pub entry_in : List Text → Option Entry
entry_in row = option_map (entry_by row) (kind_of (text_at row 0) (root_of (text_at row 3)))

-- names are equal in any case
abbrev pub if_named : Text → Entry → Option Entry
if_named name entry = if str_eq_ignore_ascii_case entry.name name then Some entry else None

unfoldable pub named_in : Text → List Text → Option Entry
named_in name row = option_and_then (if_named name) (entry_in row)

-- the first one of a name
abbrev pub find : Text → List (List Text) → Option Entry
find name [] = None
find name (row ∷ rows) = option_or (named_in name row) (find name rows)

-- ---- the schema

-- a database that is read
abbrev pub IsRead : List ℕ → Type 0
IsRead file = (has_header file ≡ true) × (has_encoding file ≡ true)

unfoldable pub schema_definition : Definition
schema_definition = definition_of (codes "create table sqlite_schema(type text, name text, tbl_name text, rootpage integer, sql text)")

-- the schema is the table that begins at page 1
abbrev pub AreListed : List ℕ → List (List Text) → Type 0
AreListed file rows = AreRows None file 1 schema_definition rows

-- the entry of a name
pub record IsListed (file name : List ℕ) (entry : Entry) : Type 0 where
  pub rows : List (List Text)
  pub listed : AreListed file rows
  pub found : find name rows ≡ Some entry

-- ---- a table

-- what a statement declares, with this text for NULL
abbrev pub with_null : Text → Definition → Definition
with_null null_text it = record it { null = null_text }

abbrev pub definition_with : Text → Text → Definition
definition_with null_text statement = with_null null_text (definition_of statement)

-- a table whose rows are stored in full, in a known order of their values
pub record IsStored (null_text : Text) (entry : Entry) (definition : Definition) : Type 0 where
  pub kind : entry.kind ≡ kind.Table
  pub declared : definition ≡ definition_with null_text entry.statement
  pub known : definition.known ≡ true
  pub whole : definition.computed ≡ false

-- row 0 is the names of the columns, and below it stand so many rows, if not all
abbrev pub AreNamedRows : Option ℕ → List ℕ → ℕ → Definition → List (List Text) → Type 0
AreNamedRows limit file root definition rows = (shown : List (List Text)) × AreRows limit file root definition shown × (rows ≡ names_in definition.columns ∷ shown)

-- the rows of an entry
pub record AreEntryRows (limit : Option ℕ) (file : List ℕ) (null_text : Text) (entry : Entry) (rows : List (List Text)) : Type 0 where
  pub definition : Definition
  pub stored : IsStored null_text entry definition
  pub shown : AreNamedRows limit file entry.root definition rows

-- the rows of the table of a name
pub record AreTable (limit : Option ℕ) (file name : List ℕ) (null_text : Text) (rows : List (List Text)) : Type 0 where
  pub read : IsRead file
  pub entry : Entry
  pub listed : IsListed file name entry
  pub shown : AreEntryRows limit file null_text entry rows

-- ---- the list of all

abbrev pub behind : List Column → Text
behind [] = []
behind (column ∷ columns) = codes ", "

abbrev pub line_of : List Column → Text
line_of [] = []
line_of (column ∷ columns) = column.name ++ (behind columns ++ line_of columns)

abbrev pub columns_by : ItemKind → Text → Text
columns_by kind.Table statement = line_of (definition_of statement).columns
columns_by kind.VirtualTable statement = []
columns_by kind.View statement = []

abbrev pub columns_of : Entry → Text
columns_of entry = columns_by entry.kind entry.statement

abbrev pub kind_name : ItemKind → Text
kind_name kind.Table = codes "table"
kind_name kind.VirtualTable = codes "virtual table"
kind_name kind.View = codes "view"

abbrev pub fields_of_entry : Entry → List Text
fields_of_entry entry = entry.name ∷ (kind_name entry.kind ∷ (columns_of entry ∷ []))

abbrev pub header : List Text
header = codes "name" ∷ (codes "kind" ∷ (codes "columns" ∷ []))

abbrev pub with_entry : List (List Text) → Option Entry → List (List Text)
with_entry rows None = rows
with_entry rows (Some entry) = rows ++ fields_of_entry entry ∷ []

abbrev pub with_entries : List (List Text) → List (List Text) → List (List Text)
with_entries rows [] = rows
with_entries rows (entry ∷ entries) = with_entries (with_entry rows (entry_in entry)) entries

-- the tables and views of a schema, below the names of the columns
abbrev pub listing : List (List Text) → List (List Text)
listing schema = with_entries (header ∷ []) schema

-- what is shown of an entry isn't UTF-8
abbrev pub IsWrongEntry : Option Entry → Type 0
IsWrongEntry None = ⊥
IsWrongEntry (Some entry) = ¬ AllText (fields_of_entry entry)

abbrev pub HasWrongEntry : List (List Text) → Type 0
HasWrongEntry [] = ⊥
HasWrongEntry (entry ∷ entries) = IsWrongEntry (entry_in entry) ⊎ HasWrongEntry entries

-- why entries aren't listed
abbrev pub LacksEntries : List (List Text) → TableFault → Type 0
LacksEntries schema row.Damage = ⊥
LacksEntries schema row.Default = ⊥
LacksEntries schema (row.Encoding at) = HasWrongEntry schema
LacksEntries schema row.Memory = ⊤

pub record IsListing (file : List ℕ) (rows : List (List Text)) : Type 0 where
  pub read : IsRead file
  pub schema : List (List Text)
  pub listed : AreListed file schema
  pub shown : rows ≡ listing schema

-- ---- faults

abbrev pub LacksFile : List ℕ → DatabaseFault → Type 0
LacksFile file Database = has_header file ≡ false
LacksFile file Encoding = has_encoding file ≡ false
LacksFile file (Schema fault) = ⊥
LacksFile file Absent = ⊥
LacksFile file Elsewhere = ⊥
LacksFile file Keyed = ⊥
LacksFile file Computed = ⊥
LacksFile file (Table fault) = ⊥

-- why a table's rows can't be read; the names of its columns are row 0
abbrev pub LacksRows : Option ℕ → List ℕ → ℕ → Definition → TableFault → Type 0
LacksRows limit file root definition row.Damage = IsDamaged limit file root definition
LacksRows limit file root definition row.Default = HasRow limit file definition.tree root (IsOld file definition)
LacksRows limit file root definition (row.Encoding at) = ((at ≡ 0) × ¬ AllText (names_in definition.columns)) ⊎ IsFirstWrong file definition (tree_rows limit file definition.tree root).0 at
LacksRows limit file root definition row.Memory = ⊤

abbrev pub LacksSchema : List ℕ → DatabaseFault → Type 0
LacksSchema file Database = ⊥
LacksSchema file Encoding = ⊥
LacksSchema file (Schema fault) = LacksRows None file 1 schema_definition fault
LacksSchema file Absent = ⊥
LacksSchema file Elsewhere = ⊥
LacksSchema file Keyed = ⊥
LacksSchema file Computed = ⊥
LacksSchema file (Table fault) = fault ≡ row.Memory

abbrev pub LacksDefinition : Entry → DatabaseFault → Type 0
LacksDefinition entry Database = ⊥
LacksDefinition entry Encoding = ⊥
LacksDefinition entry (Schema fault) = ⊥
LacksDefinition entry Absent = ⊥
LacksDefinition entry Elsewhere = entry.kind ≢ kind.Table
LacksDefinition entry Keyed = (definition_of entry.statement).known ≡ false
LacksDefinition entry Computed = (definition_of entry.statement).computed ≡ true
LacksDefinition entry (Table fault) = fault ≡ row.Memory

-- why an entry has no rows to show
abbrev pub LacksEntry : Option ℕ → List ℕ → Text → Entry → DatabaseFault → Type 0
LacksEntry limit file null_text entry Database = ⊥
LacksEntry limit file null_text entry Encoding = ⊥
LacksEntry limit file null_text entry (Schema fault) = ⊥
LacksEntry limit file null_text entry Absent = ⊥
LacksEntry limit file null_text entry Elsewhere = entry.kind ≢ kind.Table
LacksEntry limit file null_text entry Keyed = (definition_of entry.statement).known ≡ false
LacksEntry limit file null_text entry Computed = (definition_of entry.statement).computed ≡ true
LacksEntry limit file null_text entry (Table fault) = LacksRows limit file entry.root (definition_with null_text entry.statement) fault

abbrev pub LacksListed : Option ℕ → List ℕ → List ℕ → Text → DatabaseFault → Type 0
LacksListed limit file name null_text fault = (entry : Entry) × IsListed file name entry × LacksEntry limit file null_text entry fault

-- why the rows of a table aren't shown
abbrev pub LacksTable : Option ℕ → List ℕ → List ℕ → Text → DatabaseFault → Type 0
LacksTable limit file name null_text Database = has_header file ≡ false
LacksTable limit file name null_text Encoding = has_encoding file ≡ false
LacksTable limit file name null_text (Schema fault) = LacksRows None file 1 schema_definition fault
LacksTable limit file name null_text Absent = (rows : List (List Text)) × AreListed file rows × (find name rows ≡ None)
LacksTable limit file name null_text Elsewhere = LacksListed limit file name null_text Elsewhere
LacksTable limit file name null_text Keyed = LacksListed limit file name null_text Keyed
LacksTable limit file name null_text Computed = LacksListed limit file name null_text Computed
LacksTable limit file name null_text (Table row.Damage) = LacksListed limit file name null_text (Table row.Damage)
LacksTable limit file name null_text (Table row.Default) = LacksListed limit file name null_text (Table row.Default)
LacksTable limit file name null_text (Table (row.Encoding at)) = LacksListed limit file name null_text (Table (row.Encoding at))
LacksTable limit file name null_text (Table row.Memory) = ⊤

abbrev pub LacksListing : List ℕ → DatabaseFault → Type 0
LacksListing file Database = has_header file ≡ false
LacksListing file Encoding = has_encoding file ≡ false
LacksListing file (Schema fault) = LacksRows None file 1 schema_definition fault ⊎ ((schema : List (List Text)) × AreListed file schema × LacksEntries schema fault)
LacksListing file Absent = ⊥
LacksListing file Elsewhere = ⊥
LacksListing file Keyed = ⊥
LacksListing file Computed = ⊥
LacksListing file (Table fault) = fault ≡ row.Memory

-- ---- the words for why a database has no rows to show

abbrev pub table_fault_text : TableFault → List ℕ
table_fault_text row.Damage = codes "a page is damaged"
table_fault_text row.Default = codes "a default isn't supported"
table_fault_text (row.Encoding at) = codes "row " ++ (decimal at ++ codes ": not Unicode")
table_fault_text row.Memory = codes "out of memory"

abbrev pub database_fault_text : DatabaseFault → List ℕ
database_fault_text Database = codes "not an SQLite database, or it is encrypted or of an unsupported kind"
database_fault_text Encoding = codes "its encoding isn't supported"
database_fault_text (Schema fault) = codes "the list of the tables: " ++ table_fault_text fault
database_fault_text Absent = codes "no such table"
database_fault_text Elsewhere = codes "a view or a virtual table, which stores no rows"
database_fault_text Keyed = codes "its primary key isn't supported"
database_fault_text Computed = codes "a column that is computed isn't supported"
database_fault_text (Table fault) = table_fault_text fault

-- ---- the rows that a cursor has still to give

abbrev pub stored_of : StoredRow → Stored
stored_of row = record { key = row.key; local = row.payload.local.now; spilled = row.payload.spilled; overflow = row.payload.overflow }

abbrev pub row_step : Option StoredRow → List Step
row_step None = []
row_step (Some row) = a_row (stored_of row) ∷ []

-- those of a level
abbrev pub steps_of : List ℕ → Tree → Level → List Step
steps_of file tree level = row_step level.row ++ rows_from (rows_below file tree level.below) (page_of level.node) level.place

-- those of the levels, of which the last is the deepest
abbrev pub steps_of_all : List ℕ → Tree → List Level → List Step
steps_of_all file tree [] = []
steps_of_all file tree (level ∷ deeper) = steps_of_all file tree deeper ++ steps_of file tree level

-- a part of a tree, and behind it all that is still to come
abbrev pub rows_behind : List Step → Cursor → List Stored × Bool
rows_behind steps cursor = sound_rows cursor.left (steps ++ steps_of_all cursor.file.bytes.now cursor.tree cursor.levels.items)

abbrev pub rows_to_come : Cursor → List Stored × Bool
rows_to_come cursor = first_of cursor.limit (rows_behind [] cursor)

-- a row before others
abbrev pub with_row : Option StoredRow → List Stored × Bool → List Stored × Bool
with_row None rows = rows
with_row (Some row) rows = (stored_of row ∷ rows.0, rows.1)

-- why there is none
abbrev pub LacksRow : List Stored × Bool → TableFault → Type 0
LacksRow rows row.Damage = rows ≡ ([], false)
LacksRow rows row.Default = ⊥
LacksRow rows (row.Encoding at) = ⊥
LacksRow rows row.Memory = ⊤

-- ---- what a reader has given

-- of the tree that begins at a page, these rows
pub record HasGiven (file : List ℕ) (root : ℕ) (definition : Definition) (rows : List (List Text)) (reader : TableReader) : Type 0 where
  pub declared : reader.definition ≡ definition
  pub bytes : reader.reader.overflow.file.bytes.now ≡ file
  pub taken : List Stored
  pub walked : tree_rows None file definition.tree root ≡ (taken ++ (rows_to_come reader.stored).0, (rows_to_come reader.stored).1)
  pub shown : Gives {U = ℕ} (shown_rows_of file definition taken) (page_count file) reader.reader.overflow.left [] rows (Ok 0)
  pub texts : All (λ row. ¬ HasWrongText file definition row) taken
  pub number : reader.given ≡ length rows + 1

-- of an entry, the names of its columns
abbrev pub HasOpened : List ℕ → Text → Entry → List Text → TableReader → Type 0
HasOpened file null_text entry names reader =
    (definition : Definition) × IsStored null_text entry definition × (names ≡ names_in definition.columns) × HasGiven file entry.root definition [] reader

-- Of the table of a name, these rows, of which the names of the columns are the first. What a reader holds is no matter of a
-- caller, who has this from `open_table` and `push_rows`.
pub record HasRead (file name null_text : List ℕ) (rows : List (List Text)) (reader : TableReader) : Type 0 where
  pub read : IsRead file
  pub entry : Entry
  pub listed : IsListed file name entry
  pub definition : Definition
  pub stored : IsStored null_text entry definition
  pub texts : List (List Text)
  pub given : HasGiven file entry.root definition texts reader
  pub named : rows ≡ names_in definition.columns ∷ texts

-- ---- the rows of a table, one after another

module _ (file name null_text : List ℕ) where
  -- these are its first ones, below the names of the columns
  abbrev pub AreFirst : List (List Text) → Type 0
  AreFirst rows = AreTable (Some (length rows - 1)) file name null_text rows

  -- why the one behind these isn't shown
  abbrev pub LacksNext : List (List Text) → TableFault → Type 0
  LacksNext rows fault = LacksTable (Some (length rows)) file name null_text (Table fault)

  -- these are all, or there is a fault: not even the first one is shown, or the one behind these isn't
  abbrev pub AreRead : List (List Text) → Option DatabaseFault → Type 0
  AreRead rows None = AreTable None file name null_text rows
  AreRead rows (Some fault) = ((rows ≡ []) × LacksTable (Some 1) file name null_text fault) ⊎ (AreFirst rows × LacksTable (Some (length rows)) file name null_text fault)

  -- behind the old rows stand the next ones, at most so many
  abbrev pub AddsNext : ℕ → List (List Text) → List (List Text) → List (List Text) → List (List Text) → Type 0
  AddsNext count given old new rows = (new ≡ old ++ rows) × (length rows ≤ count) × AreFirst (given ++ rows)

  -- so many, or all, or those in front of the first bad one
  abbrev pub PushesRows : ℕ → List (List Text) → List (List Text) → List (List Text) → TableReader → Result Bool TableFault → Type 0
  PushesRows count given old new reader (Ok true) = (rows : List (List Text)) × AddsNext count given old new rows × (length rows ≡ count) × HasRead file name null_text (given ++ rows) reader
  PushesRows count given old new reader (Ok false) = (rows : List (List Text)) × AddsNext count given old new rows × AreTable None file name null_text (given ++ rows)
  PushesRows count given old new reader (Err fault) = (rows : List (List Text)) × AddsNext count given old new rows × LacksNext (given ++ rows) fault

-- The rows that an input holds, those of several inputs, and those that are asked of a database.
use Rattle.std.specs.Prelude.{ℕ, nat_lt, List, length, take, Option, Some, None, option_map, if◌then◌else◌, suc, ◌==◌, ◌&&◌, ◌||◌, Bool, [], ◌∷◌, ◌++◌, drop, map, ◌≡◌, ⊤}
use Rattle.std.specs.Prelude.{string_bytes, ◌-◌}
use Rattle.csv.specs.Reading.{strip_bom}
use Rattle.pg_layout.specs.Text.{Text}
use Rattle.ruled_csv.specs.Rows as csv_rows
use Rattle.ruled_csv.specs.Faults as csv_faults
use Rattle.ruled_json.specs.Rows as json_rows
use Rattle.ruled_json.specs.Rows.{Rules, rules_of}
use Rattle.ruled_json.specs.Faults as json_faults
use Rattle.ruled_io.specs.Faults.{fault_of_json, fault_of_rows, of_further, but_line_in}
use Rattle.ruled_io.specs.Formats.{content_of, format_in}
use Rattle.ruled_io.specs.declared.fault.InputFault.{InputFault}
use Rattle.ruled_io.specs.declared.formats.Format.{Format}
use Rattle.ruled_io.specs.declared.formats.Format.TheVariants.{Separated, Json, JsonLines}
use Rattle.ruled_io.specs.declared.formats.Known.{Known}
use Rattle.std.specs.Cmp.Lexicographic.{pointwise}
use Rattle.std.specs.List.{flat_map}
use Rattle.std.specs.Option.{option_or}
use Rattle.std.specs.Str.{bytes_eq}
use Rattle.ruled_table.specs.declared.options.Options.{Options}
use Rattle.ruled_io.specs.Requests.{format_told, holds_database, is_ragged, members_of, known_in, sees_database}
use Rattle.ruled_io.specs.declared.fault.FurtherFault.{FurtherFault}
use Rattle.ruled_io.specs.declared.fault.FurtherFault.TheVariants.{Header, Length}
use Rattle.ruled_io.specs.declared.fault.FurtherFault.TheVariants as further
use Rattle.ruled_io.specs.declared.fault.InputFault.TheVariants.{Further}
use Rattle.ruled_io.specs.declared.request.FurtherInput.{FurtherInput}
use Rattle.ruled_sql.specs.Answers.{AreAnswered, LacksRows}
use Rattle.ruled_database.specs.Listings.{AreTable, IsListing, LacksListing, LacksTable}
use Rattle.ruled_database.specs.declared.fault.DatabaseFault.{DatabaseFault}
use Rattle.ruled_sql.specs.declared.fault.SqlFault.{SqlFault}
use Rattle.ruled_io.specs.declared.fault.InputFault.TheVariants as input
use Rattle.ruled_io.specs.declared.request.Selection.{Selection}
use Rattle.ruled_io.specs.declared.request.Selection.TheVariants.{Query as Select, Table, Tables}
use Rattle.ruled_io.specs.declared.request.Query.{Query}
use Rattle.ruled_io.specs.declared.request.QueryTable.{QueryTable}
use Rattle.ruled_sql.specs.Filled.{AreQueried}
use Rattle.ruled_sql.specs.Filled as sql_tables
use Rattle.ruled_table.specs.Arranged.{named, padded}

-- ---- the rows of one input

-- the rows of a format, of which the first is row 0; these rules say how JSON has them
abbrev pub rows_of : Rules → Format → List ℕ → List (List Text)
rows_of members (Separated dialect) bytes = csv_rows.rows_of dialect bytes
rows_of members Json bytes = json_rows.rows_of members (strip_bom bytes)
rows_of members JsonLines bytes = json_rows.line_rows_of members (strip_bom bytes)

-- why there are none
abbrev pub format_fault : Rules → Format → List ℕ → Option InputFault
format_fault members (Separated dialect) bytes = option_map fault_of_rows (csv_faults.rows_fault dialect bytes)
format_fault members Json bytes = option_map fault_of_json (json_faults.rows_fault members.path (strip_bom bytes))
format_fault members JsonLines bytes = option_map fault_of_json (json_faults.line_rows_fault (strip_bom bytes))

-- of separated values, the first so many of their rows are enough where so many are sound, whatever comes behind them
abbrev pub rows_within : Option ℕ → Rules → Format → List ℕ → List (List Text)
rows_within None members format bytes = rows_of members format bytes
rows_within (Some limit) members (Separated dialect) bytes = take limit (csv_faults.sound_rows dialect bytes)
rows_within (Some limit) members Json bytes = rows_of members Json bytes
rows_within (Some limit) members JsonLines bytes = rows_of members JsonLines bytes

abbrev pub fault_within : Option ℕ → Rules → Format → List ℕ → Option InputFault
fault_within None members format bytes = format_fault members format bytes
fault_within (Some limit) members (Separated dialect) bytes =
    if nat_lt (length (csv_faults.sound_rows dialect bytes)) limit then format_fault members (Separated dialect) bytes else None
fault_within (Some limit) members Json bytes = format_fault members Json bytes
fault_within (Some limit) members JsonLines bytes = format_fault members JsonLines bytes

-- the rows of the format that is known, or else of the one that the bytes show
abbrev pub rows_in : Option ℕ → Rules → Known → List ℕ → List (List Text)
rows_in limit members known bytes = rows_within limit members (format_in known bytes) (content_of (format_in known bytes) bytes)

abbrev pub input_fault : Option ℕ → Rules → Known → List ℕ → Option InputFault
input_fault limit members known bytes = fault_within limit members (format_in known bytes) (content_of (format_in known bytes) bytes)

-- ---- several inputs, whose rows are one table

-- ---- their rows

-- row 0 of each input names the columns
abbrev pub names_columns : Options → Bool
names_columns options = options.has_header && (length options.names.items == 0)

-- the rows of a further input
abbrev pub rows_held : FurtherInput → List (List Text)
rows_held input = rows_in None (members_of input.source) (format_told input.source) input.bytes.items

-- all rows of all inputs, also each row 0
abbrev pub rows_of_all : List FurtherInput → List (List Text) → List (List Text)
rows_of_all inputs first = flat_map (λ rows. rows) (first ∷ map rows_held inputs)

-- the rows of their table: those of each input in turn, but row 0 once where it names the columns
abbrev pub joined_rows : Options → List (List (List Text)) → List (List Text)
joined_rows options inputs =
    if names_columns options then take 1 (flat_map (λ rows. rows) inputs) ++ flat_map (drop 1) inputs else flat_map (λ rows. rows) inputs

abbrev pub joined : Options → List FurtherInput → List (List Text) → List (List Text)
joined options inputs first = joined_rows options (first ∷ map rows_held inputs)

-- ---- what is wrong with them

-- rows of an input aren't those of a table: their row 0 isn't its row 0, or, where that names no columns, has another number of fields and rows aren't ragged
abbrev pub misfit : Options → Bool → List (List Text) → List (List Text) → Option FurtherFault
misfit options ragged [] rows = None
misfit options ragged (first ∷ table) [] = None
misfit options ragged (first ∷ table) (row ∷ rows) =
    if names_columns options then if pointwise bytes_eq first row then None else Some Header
    else if ragged || (length first == length row) then None else Some Length

-- why a further input, the one of this number, has no rows
abbrev pub fault_held : ℕ → FurtherInput → Option InputFault
fault_held number input =
    if holds_database input.source input.bytes.items then Some (Further number further.Database)
    else option_map (of_further number) (input_fault None (members_of input.source) (format_told input.source) input.bytes.items)

-- why it has none, or why they aren't those of this table
abbrev pub fault_in : Options → List (List Text) → ℕ → FurtherInput → Option InputFault
fault_in options table number input =
    option_or (fault_held number input) (option_map (Further number) (misfit options (is_ragged input.source) table (rows_held input)))

-- what is wrong with the first of these inputs with which anything is, where they are numbered from here on
abbrev pub fault_from : Options → List (List Text) → ℕ → List FurtherInput → Option InputFault
fault_from options table number [] = None
fault_from options table number (input ∷ inputs) = option_or (fault_in options table number input) (fault_from options table (suc number) inputs)

abbrev pub further_fault : Options → List FurtherInput → List (List Text) → Option InputFault
further_fault options inputs first = fault_from options (rows_of_all inputs first) 0 inputs

-- ---- the rows that are asked of a database, or by a query

-- the table of these rows that a query reads
abbrev pub table_of : Query → List (List Text) → List (List Text)
table_of query rows = if query.is_padded then padded (named (map string_bytes query.names.items) rows) else named (map string_bytes query.names.items) rows

-- how the rows are read, where they are JSON
abbrev pub members_in : Query → Rules
members_in query = rules_of query.members

-- the rows of a further table
abbrev pub rows_read : Query → QueryTable → List (List Text)
rows_read query table = table_of query (rows_in None (members_in query) table.known table.bytes.items)

abbrev pub further_table : Query → QueryTable → sql_tables.Table
further_table query table = (string_bytes table.name, rows_read query table)

-- the tables that a query reads, of which the first has the rows of these bytes
abbrev pub tables_of : Known → Query → List ℕ → List sql_tables.Table
tables_of known query bytes = (string_bytes query.table, table_of query (rows_in None (members_in query) known bytes)) ∷ map (further_table query) query.tables.items

-- why the further table of this number has none
abbrev pub fault_read : Query → ℕ → QueryTable → Option InputFault
fault_read query number table =
    if sees_database table.known table.bytes.items then Some (Further number further.Database)
    else option_map (of_further number) (input_fault None (members_in query) table.known table.bytes.items)

-- what is wrong with the first of these tables with which anything is, where they are numbered from here on
abbrev pub tables_fault : Query → ℕ → List QueryTable → Option InputFault
tables_fault query number [] = None
tables_fault query number (table ∷ tables) = option_or (fault_read query number table) (tables_fault query (suc number) tables)

-- why the rows of these bytes, or those of a further table, can't be read
abbrev pub queried_fault : Known → Query → List ℕ → Option InputFault
queried_fault known query bytes = option_or (input_fault None (members_in query) known bytes) (tables_fault query 0 query.tables.items)

-- what a query answers of these rows, or of a database
abbrev pub AreAnswer : Option Known → Query → List ℕ → List (List Text) → Type 0
AreAnswer None query bytes rows = AreAnswered bytes (string_bytes query.text) query.steps (string_bytes query.null) rows
AreAnswer (Some known) query bytes rows =
    (queried_fault known query bytes ≡ None) × AreQueried (tables_of known query bytes) (string_bytes query.text) query.steps (string_bytes query.null) rows

-- of so many rows, those below row 0
abbrev pub below_names : Option ℕ → Option ℕ
below_names limit = option_map (λ rows. rows - 1) limit

-- what a query answers, the rows of a table, of which so many are needed, or the list of the tables
abbrev pub AreSelected : Option ℕ → Option Selection → List ℕ → List (List Text) → Type 0
AreSelected limit None bytes rows = IsListing bytes rows
AreSelected limit (Some (Select query)) bytes rows = AreAnswer (known_in query.known bytes) query bytes rows
AreSelected limit (Some (Table name null_text)) bytes rows = AreTable (below_names limit) bytes (string_bytes name) (string_bytes null_text) rows
AreSelected limit (Some Tables) bytes rows = IsListing bytes rows

-- why a query has no rows, where the inputs have them
abbrev pub LacksAnswerOf : Option Known → Query → List ℕ → SqlFault → Type 0
LacksAnswerOf None query bytes fault = LacksRows bytes (string_bytes query.text) query.steps fault
LacksAnswerOf (Some known) query bytes fault = (queried_fault known query bytes ≡ None) × sql_tables.LacksQueried (tables_of known query bytes) (string_bytes query.text) query.steps fault

abbrev pub LacksAnswer : Option Selection → List ℕ → SqlFault → Type 0
LacksAnswer None bytes fault = ⊥
LacksAnswer (Some (Select query)) bytes fault = LacksAnswerOf (known_in query.known bytes) query bytes fault
LacksAnswer (Some (Table name null_text)) bytes fault = ⊥
LacksAnswer (Some Tables) bytes fault = ⊥

-- or one of them has none
abbrev pub LacksTableOf : Option Known → Query → List ℕ → InputFault → Type 0
LacksTableOf None query bytes fault = ⊥
LacksTableOf (Some known) query bytes fault = queried_fault known query bytes ≡ Some (but_line_in fault)

abbrev pub LacksQueried : Option Selection → List ℕ → InputFault → Type 0
LacksQueried None bytes fault = ⊥
LacksQueried (Some (Select query)) bytes fault = LacksTableOf (known_in query.known bytes) query bytes fault
LacksQueried (Some (Table name null_text)) bytes fault = ⊥
LacksQueried (Some Tables) bytes fault = ⊥

-- why a table has none, or there is no list
abbrev pub LacksStored : Option ℕ → Option Selection → List ℕ → DatabaseFault → Type 0
LacksStored limit None bytes fault = LacksListing bytes fault
LacksStored limit (Some (Select query)) bytes fault = ⊥
LacksStored limit (Some (Table name null_text)) bytes fault = LacksTable (below_names limit) bytes (string_bytes name) (string_bytes null_text) fault
LacksStored limit (Some Tables) bytes fault = LacksListing bytes fault

-- why there are no rows, unless memory was refused
abbrev pub LacksSelected : Option ℕ → Option Selection → List ℕ → InputFault → Type 0
LacksSelected limit selection bytes (input.Rows fault) = LacksQueried selection bytes (input.Rows fault)
LacksSelected limit selection bytes (input.Json fault) = LacksQueried selection bytes (input.Json fault)
LacksSelected limit selection bytes (input.Sql fault) = LacksAnswer selection bytes fault
LacksSelected limit selection bytes (input.Database fault) = LacksStored limit selection bytes fault
LacksSelected limit selection bytes input.Log = ⊥
LacksSelected limit selection bytes (input.Stream fault) = ⊥
LacksSelected limit selection bytes (input.Further number fault) = LacksQueried selection bytes (input.Further number fault)
LacksSelected limit selection bytes (input.Column name) = ⊥
LacksSelected limit selection bytes input.Sort = ⊥
LacksSelected limit selection bytes input.Totals = ⊥
LacksSelected limit selection bytes input.Memory = ⊤

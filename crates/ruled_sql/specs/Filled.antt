-- The database that tables of rows fill, and the rows that a query reads from it, or why it reads none.
use Rattle.std.specs.Prelude.{◌≡◌, ◌⊎◌, ◌<◌, ⊤, ℕ, ◌+◌, ◌-◌, ◌==◌, ◌&&◌, ◌||◌, not, nat_le, nat_lt, Bool, true, false, List, [], ◌∷◌, ◌++◌, length, map, take, drop, position}
use Rattle.std.specs.Prelude.{nat_eq, slice_index_or, codes, decimal, chars, Option, Some, None, Ok, Err, if◌then◌else◌}
use Rattle.std.specs.Char.{encode_utf8}
use Rattle.std.specs.Cmp.Lexicographic.{pointwise}
use Rattle.std.specs.Int.{is_in_range}
use Rattle.std.specs.List.{flat_map, join_by, list_all, range_with_len, repeat}
use Rattle.csv.specs.Records.{field_at, fields_of}
use Rattle.sqlite_value.specs.Order.{Row}
use Rattle.sqlite_value.specs.declared.value.Value.{Value}
use Rattle.sqlite_value.specs.declared.value.Value.TheVariants.{Null, Text}
use Rattle.sqlite_trees.specs.declared.memory.MemStore.{MemStore}
use Rattle.sqlite_resolve.specs.declared.error.CompileError.TheVariants.{NoSuchTable}
use Rattle.sqlite.specs.Effect.{Database}
use Rattle.sqlite.specs.Held.{Held, IsNew, state}
use Rattle.sqlite.specs.Listing.{misses_table, understood}
use Rattle.sqlite.specs.State.{Executes}
use Rattle.sqlite.specs.Steps.{IsEmpty, over_memory}
use Rattle.sqlite.specs.declared.error.Error.{Error}
use Rattle.sqlite.specs.declared.error.Error.TheVariants.{SqlInputError}
use Rattle.ruled_sql.specs.Answers.{IsAnswer, LacksAnswer, is_memory, shown_rows}
use Rattle.ruled_sql.specs.declared.fault.QueryFault.{QueryFault}
use Rattle.ruled_sql.specs.declared.fault.QueryFault.TheVariants.{Missing, Refused}
use Rattle.ruled_sql.specs.declared.fault.SqlFault.{SqlFault}
use Rattle.ruled_sql.specs.declared.lack.Meaning.TheVariants as means
use Rattle.ruled_sql.specs.declared.fault.SqlFault.TheVariants as sql
use Rattle.ruled_sql.specs.declared.filled.NamedRows.{NamedRows}

-- ---- numbers

abbrev pub is_digit : ℕ → Bool
is_digit byte = is_in_range 48 57 byte

-- digits, at least one
abbrev pub are_digits : List ℕ → Bool
are_digits text = not (length text == 0) && list_all is_digit text

-- a zero in front of others
abbrev pub is_padded : List ℕ → Bool
is_padded text = nat_lt 1 (length text) && (slice_index_or text 0 0 == 48)

-- at most 18 digits, and no zero in front of others
abbrev pub is_whole : List ℕ → Bool
is_whole text = nat_le (length text) 18 && (not (is_padded text) && are_digits text)

-- a whole number, perhaps with digits behind a point
abbrev pub is_decimal_by : Option ℕ → List ℕ → Bool
is_decimal_by None text = is_whole text
is_decimal_by (Some point) text = is_whole (take point text) && are_digits (drop (point + 1) text)

abbrev pub is_decimal : List ℕ → Bool
is_decimal text = is_decimal_by (position (λ byte. byte == 46) text) text

-- what stands behind this front, or else these bytes
abbrev pub behind_front : List ℕ → List ℕ → List ℕ → List ℕ
behind_front front text others = if pointwise nat_eq (take (length front) text) front then drop (length front) text else others

-- without a minus at its front, or without either sign
abbrev pub without_minus : List ℕ → List ℕ
without_minus text = behind_front (45 ∷ []) text text

abbrev pub unsigned : List ℕ → List ℕ
unsigned text = behind_front (43 ∷ []) text (without_minus text)

-- a decimal number, perhaps with a power of ten behind an `e`
abbrev pub is_scaled_by : Option ℕ → List ℕ → Bool
is_scaled_by None text = is_decimal text
is_scaled_by (Some mark) text = is_decimal (take mark text) && are_digits (unsigned (drop (mark + 1) text))

abbrev pub is_scaled : List ℕ → Bool
is_scaled text = is_scaled_by (position (λ byte. (byte == 101) || (byte == 69)) text) text

-- a number is written as in JSON, with at most 18 digits in front of the point
unfoldable pub is_number : List ℕ → Bool
is_number text = is_scaled (without_minus text)

-- ---- columns

-- a number, or nothing
abbrev pub may_be_number : Option (List ℕ) → Bool
may_be_number None = true
may_be_number (Some text) = (length text == 0) || is_number text

-- the fields at this place are numbers, where they aren't empty
abbrev pub are_numbers : List (List (List ℕ)) → ℕ → Bool
are_numbers records place = list_all (λ fields. may_be_number (field_at fields place)) records

-- a name in double quotes, where each of these in it is doubled
abbrev pub quote_of : ℕ → List ℕ
quote_of c = if c == 34 then codes "\"\"" else encode_utf8 c

unfoldable pub doubled : List ℕ → List ℕ
doubled name = flat_map quote_of (chars name)

abbrev pub quoted : List ℕ → List ℕ
quoted name = codes "\"" ++ (doubled name ++ codes "\"")

-- the name of a column: where it is empty, its number stands for it
abbrev pub column_name : List (List ℕ) → ℕ → List ℕ
column_name names place = if length (slice_index_or names place []) == 0 then codes "column" ++ decimal (place + 1) else slice_index_or names place []

abbrev pub column_text : List (List ℕ) → List (List (List ℕ)) → ℕ → List ℕ
column_text names records place = quoted (column_name names place) ++ (codes " " ++ (if are_numbers records place then codes "NUMERIC" else codes "TEXT"))

-- ---- statements

abbrev pub columns_text : List (List ℕ) → List (List (List ℕ)) → List ℕ
columns_text names records = join_by (column_text names records) (codes ", ") (range_with_len 0 (length names))

abbrev pub create_text : List ℕ → List ℕ → List ℕ
create_text table columns = codes "CREATE TABLE " ++ (quoted table ++ (codes " (" ++ (columns ++ codes ")")))

abbrev pub insert_text : List ℕ → ℕ → List ℕ
insert_text table count = codes "INSERT INTO " ++ (quoted table ++ (codes " VALUES (" ++ (repeat (count - 1) (codes "?, ") ++ codes "?)")))

-- no row is deleted, and none counts as changed
abbrev pub settle_text : List ℕ → List ℕ
settle_text table = codes "DELETE FROM " ++ (quoted table ++ codes " WHERE 0")

-- an empty field is NULL
abbrev pub value_of : List ℕ → Value
value_of text = if length text == 0 then Null else Text text

-- a statement with its parameters
abbrev pub Step : Type 0
Step = List ℕ × Row

-- so many values of a row: those of its fields, and NULL where it has none
abbrev pub values_of : ℕ → List (List ℕ) → Row
values_of count fields = map (λ place. value_of (slice_index_or fields place [])) (range_with_len 0 count)

abbrev pub insertions : List ℕ → ℕ → List (List (List ℕ)) → List Step
insertions text count records = map (λ fields. (text, values_of count fields)) records

-- those that fill a table
abbrev pub fillings : List ℕ → ℕ → List (List (List ℕ)) → List Step
fillings table count records = insertions (insert_text table count) count records ++ (settle_text table, []) ∷ []

-- the statements that make a table of rows and fill it; row 0 has the names of its columns
abbrev pub steps : List ℕ → List (List (List ℕ)) → List Step
steps table [] = []
steps table (names ∷ records) = (create_text table (columns_text names records), []) ∷ fillings table (length names) records

-- ---- tables

-- the name of a table, and its rows
abbrev pub Table : Type 0
Table = List ℕ × List (List (List ℕ))

abbrev pub table_of : NamedRows → Table
table_of it = (it.name.now, map fields_of it.rows.items)

abbrev pub first_name : List Table → List ℕ
first_name [] = []
first_name (first ∷ others) = first.0

-- the first one has this name
abbrev pub renamed : List ℕ → List Table → List Table
renamed name [] = []
renamed name (first ∷ others) = (name, first.1) ∷ others

-- each has all of its rows, or row 0 alone
abbrev pub rows_by : Bool → List (List (List ℕ)) → List (List (List ℕ))
rows_by true rows = rows
rows_by false rows = take 1 rows

abbrev pub with_rows : Bool → List Table → List Table
with_rows all tables = map (λ it. (it.0, rows_by all it.1)) tables

-- the statements that make and fill them, one table after another
abbrev pub steps_of : List Table → List Step
steps_of tables = flat_map (λ it. steps it.0 it.1) tables

-- ---- the database

abbrev pub IsRun : Step → Held MemStore → Held MemStore → Type 0
IsRun step old new = (count : ℕ) × Executes step.0 step.1 (state over_memory old) (state over_memory new) (Ok count)

-- it fails with this error
abbrev pub IsStuck : Step → Held MemStore → Error → Type 0
IsStuck step old error = (new : Held MemStore) × Executes step.0 step.1 (state over_memory old) (state over_memory new) (Err error)

-- each in turn
abbrev pub AreRun : List Step → Held MemStore → Held MemStore → Type 0
AreRun [] old new = new ≡ old
AreRun (step ∷ others) old new = (mid : Held MemStore) × IsRun step old mid × AreRun others mid new

-- each in turn, up to one that fails
abbrev pub AreCut : List Step → Held MemStore → Error → Type 0
AreCut [] old error = ⊥
AreCut (step ∷ others) old error = IsStuck step old error ⊎ ((mid : Held MemStore) × IsRun step old mid × AreCut others mid error)

-- nothing has been done to it
pub record IsBlank (connection : Held MemStore) : Type 0 where
  pub empty : IsEmpty (state over_memory connection)
  pub new : IsNew connection

-- the steps lead to it from an empty database
abbrev pub IsFilled : List Step → Held MemStore → Type 0
IsFilled all connection = (blank : Held MemStore) × IsBlank blank × AreRun all blank connection

-- those of the table of this number don't, where those of the tables before it do
abbrev pub IsUnfilled : ℕ → List Table → Error → Type 0
IsUnfilled number tables error =
    (blank : Held MemStore) × IsBlank blank × (mid : Held MemStore) × AreRun (steps_of (take number tables)) blank mid × AreCut (steps_of (take 1 (drop number tables))) mid error

-- the steps lead to a database that lacks a table of the query, or none of them
abbrev pub IsLacking : List Step → List ℕ → Bool → Type 0
IsLacking all query lacks = (made : Held MemStore) × IsFilled all made × (misses_table (understood (state over_memory made).now.schema query) ≡ lacks)

-- the query names a table that isn't among these, or they can't be made; or it names these alone
abbrev pub Misses : List Table → List ℕ → Bool → Type 0
Misses tables query false = IsLacking (steps_of (with_rows false tables)) query false
Misses tables query true = IsLacking (steps_of (with_rows false tables)) query true ⊎ ((number : ℕ) × (error : Error) × IsUnfilled number (with_rows false tables) error)

-- so each has its own name, or the first is called `input`
abbrev pub IsCalled : List Table → List ℕ → List Table → Type 0
IsCalled tables query called = (misses : Bool) × Misses tables query misses × (called ≡ (if misses then renamed (codes "input") tables else tables))

-- the rows that a query answers of tables of rows, in so many steps at most
pub record AreQueried (tables : List Table) (query : List ℕ) (most : ℕ) (null_text : List ℕ) (rows : List (List (List ℕ))) : Type 0 where
  pub called : List Table
  pub names_are : IsCalled tables query called
  pub connection : Held MemStore
  pub filled : IsFilled (steps_of called) connection
  pub names : List (List ℕ)
  pub answer : List Row
  pub is : IsAnswer query most (state over_memory connection).now names answer
  pub shown : rows ≡ shown_rows null_text names answer

-- ---- why it answers none

-- a table has no row 0, unless memory was refused
abbrev pub LacksNames : List Table → SqlFault → Type 0
LacksNames tables (sql.NoRows number) = (number < length tables) × ((slice_index_or tables number ([], [])).1 ≡ [])
LacksNames tables sql.Memory = ⊤
LacksNames tables fault = ⊥

-- or the steps lead to no table
abbrev pub LacksTable : Bool → List Table → SqlFault → Type 0
LacksTable all tables (sql.Columns number error) = IsUnfilled number (with_rows all tables) error
LacksTable all tables fault = LacksNames tables fault

abbrev pub IsFaultOfStep : ℕ → Error → SqlFault → Type 0
IsFaultOfStep table error (sql.Columns number found) = (number ≡ table) × (found ≡ error) × (is_memory error ≡ false)
IsFaultOfStep table error sql.Memory = ⊤
IsFaultOfStep table error fault = ⊥

-- an error says that a table is missing
abbrev pub is_no_table : Error → Bool
is_no_table (SqlInputError NoSuchTable) = true
is_no_table error = false

abbrev pub names_no_table : QueryFault → Bool
names_no_table (Refused (SqlInputError NoSuchTable)) = true
names_no_table (Missing means.Table left) = true
names_no_table fault = false

-- how many bytes of the query are left from its word on
abbrev pub left_by : QueryFault → Option ℕ
left_by (Missing what left) = Some left
left_by fault = None

-- the query is asked of a database that the tables fill
abbrev pub IsAsked : List Table → List ℕ → (Database → Type 0) → Type 0
IsAsked tables query Lacks = (called : List Table) × IsCalled tables query called × (connection : Held MemStore) × IsFilled (steps_of called) connection
    × Lacks (state over_memory connection).now

-- why a query has no answer of tables of rows, unless memory was refused
abbrev pub LacksQueried : List Table → List ℕ → ℕ → SqlFault → Type 0
LacksQueried tables query most (sql.NoRows number) = LacksNames tables (sql.NoRows number)
LacksQueried tables query most (sql.Columns number error) = (called : List Table) × IsCalled tables query called × IsUnfilled number called error
LacksQueried tables query most (sql.NoTable left) = IsAsked tables query
    (λ db. (fault : QueryFault) × (names_no_table fault ≡ true) × (left ≡ left_by fault) × LacksAnswer (first_name tables) query most db fault)
LacksQueried tables query most (sql.Query fault) = (names_no_table fault ≡ false) × IsAsked tables query (λ db. LacksAnswer (first_name tables) query most db fault)
LacksQueried tables query most sql.Memory = ⊤
LacksQueried tables query most fault = ⊥

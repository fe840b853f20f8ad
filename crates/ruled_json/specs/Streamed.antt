-- The rows of lines whose columns the first records say, and a reader to which their bytes come one piece after another.
use Rattle.std.specs.Prelude.{ℕ, ◌-◌, ◌==◌, ◌&&◌, not, List, [], ◌∷◌, ◌++◌, fold, length, take, Option, None, Some, is_none, option_and_then, if◌then◌else◌, ◌≡◌, ◌≢◌, ◌<◌, All, false, map}
use Rattle.std.specs.Prelude.{replicate, string_bytes, ⊤, Bool, Result, Ok, Err}
use Rattle.std.specs.Option.{option_or}
use Rattle.csv.specs.Reading.{strip_bom}
use Rattle.json.specs.Json.{Json}
use Rattle.ruled_json.specs.Faults.{line_after, line_fault, but_line}
use Rattle.ruled_json.specs.Rows.{Rules, columns_of, has_all, lines_of, record_on, records_on, table_in, row_of}
use Rattle.ruled_json.specs.declared.fault.JsonFault.{JsonFault}
use Rattle.ruled_json.specs.declared.fault.JsonFault.TheVariants.{NoColumn, Memory}
use Rattle.ruled_json.specs.declared.fault.Place.TheVariants.{Line}
use Rattle.csv.specs.Records.{fields_of}
use Rattle.ruled_json.specs.declared.line_reader.LineReader.{LineReader}
use Rattle.ruled_json.specs.declared.line_table.LineTable.{LineTable}

-- ---- the rows of lines, where a later record has no other members

-- the number of the line behind these
abbrev pub number_behind : List (List ℕ) → ℕ
number_behind lines = fold line_after 1 lines

-- so many first records say the columns, and these rules what is shown of all
pub record LineRules : Type 0 where
  pub records : ℕ
  pub members : Rules

-- ---- records

module _ (rules : LineRules) (above : List Json) where
  -- how many records behind these still say columns
  abbrev pub left_of : ℕ
  left_of = rules.records - length above

  -- the columns that they say
  abbrev pub first_columns : List (List ℕ)
  first_columns = columns_of (take rules.records above)

  -- the header and the rows
  abbrev pub streamed_table : List (List (List ℕ))
  streamed_table = table_in rules.members.null_text first_columns above

  -- those that are known: none before all records are there that say columns
  abbrev pub ended_table : List (List (List ℕ))
  ended_table = if left_of == 0 then streamed_table else []

  -- what is wrong with a record behind them: where the columns are known, a member that is none of them
  abbrev pub late_fault : ℕ → Json → Option JsonFault
  late_fault n value = if (left_of == 0) && not (has_all first_columns value) then Some (NoColumn (Line n)) else None

-- ---- faults

-- what is wrong with a line behind these
abbrev pub fault_behind : LineRules → List (List ℕ) → List ℕ → Option JsonFault
fault_behind rules above line =
    option_or (line_fault (number_behind above) line) (option_and_then (late_fault rules (records_on rules.members above) (number_behind above)) (record_on rules.members line))

-- and with the first bad one of lines behind these
abbrev pub first_fault_behind : LineRules → List (List ℕ) → List (List ℕ) → Option JsonFault
first_fault_behind rules above [] = None
first_fault_behind rules above (line ∷ lines) = option_or (fault_behind rules above line) (first_fault_behind rules (above ++ line ∷ []) lines)

-- the lines above the first bad one of those behind these
abbrev pub lines_above_fault : LineRules → List (List ℕ) → List (List ℕ) → List (List ℕ)
lines_above_fault rules above [] = above
lines_above_fault rules above (line ∷ lines) = if is_none (fault_behind rules above line) then lines_above_fault rules (above ++ line ∷ []) lines else above

-- what is wrong with bytes that are to have a record on each line, without a byte order mark at their front
unfoldable pub streamed_line_fault : LineRules → List ℕ → Option JsonFault
streamed_line_fault rules bytes = first_fault_behind rules [] (lines_of (strip_bom bytes))

-- ---- rows

-- the rows above the first bad line
unfoldable pub sound_line_rows : LineRules → List ℕ → List (List (List ℕ))
sound_line_rows rules bytes = streamed_table rules (records_on rules.members (lines_above_fault rules [] (lines_of (strip_bom bytes))))

-- the lines that a line feed ends: all but the last one
abbrev pub all_but_last : List (List ℕ) → List (List ℕ)
all_but_last lines = take (length lines - 1) lines

unfoldable pub ended_lines : List ℕ → List (List ℕ)
ended_lines bytes = all_but_last (lines_of (strip_bom bytes))

-- their rows
unfoldable pub ended_line_rows : LineRules → List ℕ → List (List (List ℕ))
ended_line_rows rules bytes = ended_table rules (records_on rules.members (ended_lines bytes))

-- ---- a reader of lines

-- a row with empty cells behind it, up to this count
abbrev pub padded : ℕ → List (List ℕ) → List (List ℕ)
padded count row = row ++ replicate (count - length row) []

-- the columns of a table of lines
abbrev pub columns_in : LineTable → List (List ℕ)
columns_in table = map string_bytes table.names.names.keys

-- what a table has of these records
pub record HasRecords (rules : LineRules) (above : List Json) (table : LineTable) : Type 0 where
  pub left : table.left ≡ left_of rules above
  pub columns : columns_in table ≡ first_columns rules above
  pub null_text : string_bytes table.null ≡ rules.members.null_text
  -- until all columns are known it holds the rows, but for empty cells at their ends
  pub held : 0 < table.left → map (padded (length (columns_in table))) (map fields_of table.held.items) ≡ map (row_of (string_bytes table.null) (columns_in table)) above

-- a table has read these lines, and found nothing wrong
pub record HasLines (rules : LineRules) (lines : List (List ℕ)) (table : LineTable) : Type 0 where
  pub has : HasRecords rules (records_on rules.members lines) table
  pub flat : table.is_flat ≡ rules.members.is_flat
  pub number : table.number ≡ number_behind lines
  pub right : (behind : List (List ℕ)) → first_fault_behind rules [] (lines ++ behind) ≡ first_fault_behind rules lines behind
  pub above : (behind : List (List ℕ)) → lines_above_fault rules [] (lines ++ behind) ≡ lines_above_fault rules lines behind

-- no line feed is among these bytes
abbrev pub NoFeed : List ℕ → Type 0
NoFeed bytes = All (λ byte. (byte == 10) ≡ false) bytes

-- a line, which at the front of the input may have a byte order mark
abbrev pub without_front : Bool → List ℕ → List ℕ
without_front is_front line = if is_front then strip_bom line else line

-- A reader has read these bytes, and found nothing wrong. What it holds of them is no matter of a caller, who has this from
-- `new` of no bytes, and from `read` of more and more.
pub record HasRead (rules : LineRules) (bytes : List ℕ) (reader : LineReader) : Type 0 where
  pub table : HasLines rules (ended_lines bytes) reader.table
  pub lines : (behind : List ℕ) → lines_of (strip_bom (bytes ++ behind)) ≡ ended_lines bytes ++ lines_of (without_front reader.is_front (reader.line.items ++ behind))
  pub within : NoFeed reader.line.items

-- behind the old rows stand those which with the rows above are all of these
abbrev pub AppendsRest : {R : Type 0} → List R → List R → List R → List R → Type 0
AppendsRest {R} above all old new = (rows : List R) × (new ≡ old ++ rows) × (above ++ rows ≡ all)

-- behind the old rows stand some which with the rows above are a beginning of all
abbrev pub AppendsSome : {R : Type 0} → List R → List R → List R → List R → Type 0
AppendsSome {R} above all old new = (rows : List R) × (behind : List R) × (new ≡ old ++ rows) × ((above ++ rows) ++ behind ≡ all)

-- a fault, but want of memory, is this one
abbrev pub Foretells : {X : Type 0} → Option JsonFault → Result X JsonFault → Type 0
Foretells right (Ok x) = ⊤
Foretells right (Err fault) = fault ≢ Memory → right ≡ Some (but_line fault)

-- this is so where there is a fault, but want of memory
abbrev pub OnFault : {X : Type 0} → Result X JsonFault → Type 0 → Type 0
OnFault (Ok x) P = ⊤
OnFault (Err fault) P = fault ≢ Memory → P

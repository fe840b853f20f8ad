-- Why JSON holds no rows.
use Rattle.std.specs.Prelude.{◌≡◌, ◌≢◌, ℕ, ◌+◌, ◌-◌, ◌^◌, min, ◌==◌, take, length, count_by, not, ◌&&◌, Bool, List}
use Rattle.std.specs.Prelude.{[], ◌∷◌, Option, Some, None, is_none, is_some, option_and_then, Result, Ok, Err, if◌then◌else◌, ◌++◌, codes, decimal}
use Rattle.std.specs.Option.{option_map_or, option_or}
use Rattle.std.specs.Str.{is_utf8}
use Rattle.json.specs.Json.{Json, null, boolean, number, string, array, object, document}
use Rattle.ruled_json.specs.Rows.{is_blank, lines_of, list_of, member_at}
use Rattle.ruled_json.specs.declared.fault.JsonFault.{JsonFault}
use Rattle.ruled_json.specs.declared.fault.JsonFault.TheVariants.{Encoding, Syntax, NoMember, NoRecords, NoObject, NoColumn, Memory}
use Rattle.ruled_json.specs.declared.fault.Place.{Place}
use Rattle.ruled_json.specs.declared.fault.Place.TheVariants.{Near, Record, Line}

-- a place, but for the line on which the fault of a whole input is seen
abbrev pub but_near : Place → Place
but_near (Near line) = Near 0
but_near (Record n) = Record n
but_near (Line n) = Line n

-- a fault, but for that line
abbrev pub but_line : JsonFault → JsonFault
but_line (Encoding place) = Encoding (but_near place)
but_line (Syntax place) = Syntax (but_near place)
but_line NoMember = NoMember
but_line NoRecords = NoRecords
but_line (NoObject place) = NoObject (but_near place)
but_line (NoColumn place) = NoColumn (but_near place)
but_line Memory = Memory

-- a result tells the right fault, or that memory was refused; where it is an `Ok` there is none
abbrev pub Tells : {X : Type 0} → Option JsonFault → Result X JsonFault → Type 0
Tells right (Ok x) = right ≡ None
Tells right (Err fault) = fault ≢ Memory → right ≡ Some (but_line fault)

-- what is wrong with the text of a value
abbrev pub text_fault : Place → List ℕ → Option JsonFault
text_fault place text =
    if not (is_utf8 text) then Some (Encoding place)
    else if is_none (document text) then Some (Syntax place)
    else None

-- whether bytes are one value
abbrev pub is_value : List ℕ → Bool
is_value bytes = is_utf8 bytes && is_some (document bytes)

-- a record is an object
abbrev pub record_fault : Place → Json → Option JsonFault
record_fault place null = Some (NoObject place)
record_fault place (boolean b) = Some (NoObject place)
record_fault place (number s) = Some (NoObject place)
record_fault place (string s) = Some (NoObject place)
record_fault place (array js) = Some (NoObject place)
record_fault place (object ms) = None

-- what is wrong with the first bad one of these records, which are those from this number on
abbrev pub first_fault : ℕ → List Json → Option JsonFault
first_fault n [] = None
first_fault n (value ∷ values) = option_or (record_fault (Record n) value) (first_fault (n + 1) values)

-- what is wrong with a value whose records are shown
abbrev pub value_fault : Json → Option JsonFault
value_fault null = Some NoRecords
value_fault (boolean b) = Some NoRecords
value_fault (number s) = Some NoRecords
value_fault (string s) = Some NoRecords
value_fault (array js) = first_fault 1 (list_of js)
value_fault (object ms) = None

-- what is wrong with a value whose member at this path has the records
abbrev pub member_fault : List (List ℕ) → Json → Option JsonFault
member_fault path value = option_map_or value_fault (member_at path value) (Some NoMember)

-- what is wrong with bytes that are to be one value
unfoldable pub rows_fault : List (List ℕ) → List ℕ → Option JsonFault
rows_fault path bytes = option_or (text_fault (Near 0) bytes) (option_and_then (member_fault path) (document bytes))

-- what is wrong with a line
abbrev pub line_fault : ℕ → List ℕ → Option JsonFault
line_fault n line =
    if is_blank line then None
    else option_or (text_fault (Line n) line) (option_and_then (record_fault (Line n)) (document line))

-- the number of the line behind this one and its line feed, as an editor counts: LF, CRLF and a lone CR each end a line. It
-- grows up to the largest that a counter holds
abbrev pub line_after : ℕ → List ℕ → ℕ
line_after n line = min (n + (count_by (λ byte. byte == 13) (take (length line - 1) line) + 1)) (2 ^ 64 - 1)

-- what is wrong with the first bad one of these lines, which are those from this number on
abbrev pub first_line_fault : ℕ → List (List ℕ) → Option JsonFault
first_line_fault n [] = None
first_line_fault n (line ∷ lines) = option_or (line_fault n line) (first_line_fault (line_after n line) lines)

-- what is wrong with bytes that are to have a value on each line
unfoldable pub line_rows_fault : List ℕ → Option JsonFault
line_rows_fault bytes = first_line_fault 1 (lines_of bytes)

-- ---- the words for them

abbrev pub place_text : Place → List ℕ
place_text (Near line) = codes "line " ++ (decimal line ++ codes ": ")
place_text (Record n) = codes "record " ++ (decimal n ++ codes ": ")
place_text (Line n) = codes "line " ++ (decimal n ++ codes ": ")

abbrev pub json_fault_text : JsonFault → List ℕ
json_fault_text (Encoding place) = place_text place ++ codes "not UTF-8"
json_fault_text (Syntax place) = place_text place ++ codes "not JSON"
json_fault_text NoMember = codes "no such member"
json_fault_text NoRecords = codes "neither an array nor an object"
json_fault_text (NoObject place) = place_text place ++ codes "not an object"
json_fault_text (NoColumn place) = place_text place ++ codes "a member that none of the first rows has"
json_fault_text Memory = codes "out of memory"

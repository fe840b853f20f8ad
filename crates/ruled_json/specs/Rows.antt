-- The rows that JSON holds: a header, and a row for each record.
use Rattle.std.specs.Prelude.{ℕ, ◌==◌, List, [], ◌∷◌, ◌++◌, map, fold, length, flat_map, string_bytes, codes, Bool, false, Option, Some, None, option_and_then, option_map, if◌then◌else◌}
use Rattle.std.specs.List.{filter_map, list_all, list_any, slice_split}
use Rattle.std.specs.Str.{bytes_eq}
use Rattle.json.specs.Find.{get}
use Rattle.json.specs.Json.{Json, null, boolean, number, string, array, object, Items, no_items, item, Members, no_members, member, document}
use Rattle.json.specs.Print.{print}
use Rattle.json.specs.Strict.{keys}
use Rattle.json.specs.Tree.{json_tokens}
use Rattle.json.specs.Word.{is_space}
use Rattle.ruled_json.specs.declared.member_names.MemberRules.{MemberRules}

-- ---- rules

-- the path of the member that has the records, the text for null, and whether records are flat: members of an object inside
-- are members of the record
pub record Rules : Type 0 where
  pub path : List (List ℕ)
  pub null_text : List ℕ
  pub is_flat : Bool

abbrev pub rules_of : MemberRules → Rules
rules_of rules = record { path = map string_bytes rules.path.items; null_text = string_bytes rules.null; is_flat = rules.is_flat }

-- the value itself has the records, and nothing is shown for null
abbrev pub plain_rules : Rules
plain_rules = record { path = []; null_text = []; is_flat = false }

-- ---- flat records

-- members behind others
abbrev pub joined : Members → Members → Members
joined no_members behind = behind
joined (member name value members) behind = member name value (joined members behind)

-- members, each behind this text; those of an object come in its place, behind its name and a dot, and an array is its text
abbrev mutual
  pub flat_members : List ℕ → Members → Members
  flat_members front no_members = no_members
  flat_members front (member name value members) = joined (flat_member (front ++ name) value) (flat_members front members)

  pub flat_member : List ℕ → Json → Members
  flat_member name (object ms) = flat_members (name ++ codes ".") ms
  flat_member name (array js) = member name (string (print (json_tokens (array js)))) no_members
  flat_member name value = member name value no_members

-- a record with no object inside
abbrev pub flat_record : Json → Json
flat_record (object ms) = object (flat_members [] ms)
flat_record _ = object no_members

-- a record as it is shown
abbrev pub shown_record : Bool → Json → Json
shown_record is_flat value = if is_flat then flat_record value else value

-- ---- columns

-- the names of a record's members, in order
abbrev pub names_in : Json → List (List ℕ)
names_in null = []
names_in (boolean b) = []
names_in (number s) = []
names_in (string s) = []
names_in (array js) = []
names_in (object ms) = keys ms

-- a name behind those that are there, unless it is one of them
abbrev pub with_name : List (List ℕ) → List ℕ → List (List ℕ)
with_name names name = if list_any (bytes_eq name) names then names else names ++ name ∷ []

-- the names of these records, each where it is first seen
abbrev pub columns_of : List Json → List (List ℕ)
columns_of records = fold with_name [] (flat_map names_in records)

-- whether each member of a record has one of these columns
abbrev pub has_all : List (List ℕ) → Json → Bool
has_all columns value = list_all (λ name. list_any (bytes_eq name) columns) (names_in value)

-- ---- rows

-- the text of a member: that of a string, a number as it was written, an array or an object without spaces, this one for
-- null, and none where there is no member
abbrev pub cell_text : List ℕ → Option Json → List ℕ
cell_text null_text None = []
cell_text null_text (Some null) = null_text
cell_text null_text (Some (boolean b)) = print (json_tokens (boolean b))
cell_text null_text (Some (number s)) = s
cell_text null_text (Some (string s)) = s
cell_text null_text (Some (array js)) = print (json_tokens (array js))
cell_text null_text (Some (object ms)) = print (json_tokens (object ms))

-- the row of a record; of members of one name the last one counts
abbrev pub row_of : List ℕ → List (List ℕ) → Json → List (List ℕ)
row_of null_text columns value = map (λ column. cell_text null_text (get column value)) columns

-- the header and the rows of records in these columns; where there is no column, there are none
abbrev pub table_in : List ℕ → List (List ℕ) → List Json → List (List (List ℕ))
table_in null_text columns records = if length columns == 0 then [] else columns ∷ map (row_of null_text columns) records

-- the rows of records, in the columns of all of them
abbrev pub table_of : List ℕ → List Json → List (List (List ℕ))
table_of null_text records = table_in null_text (columns_of records) records

-- ---- the member that has the records

-- the member of a value at this path: each name is that of a member of the one before; of members of one name the last one
-- counts. Without a name it is the value
abbrev pub member_at : List (List ℕ) → Json → Option Json
member_at [] value = Some value
member_at (name ∷ path) value = option_and_then (member_at path) (get name value)

-- ---- the records of a value

abbrev pub list_of : Items → List Json
list_of no_items = []
list_of (item j js) = j ∷ list_of js

-- those of an array are its items, and an object is one
abbrev pub records_in : Json → List Json
records_in null = []
records_in (boolean b) = []
records_in (number s) = []
records_in (string s) = []
records_in (array js) = list_of js
records_in (object ms) = object ms ∷ []

abbrev pub records_of : Option Json → List Json
records_of None = []
records_of (Some value) = records_in value

-- the rows of the member at the path of the value that these bytes are
unfoldable pub rows_of : Rules → List ℕ → List (List (List ℕ))
rows_of rules bytes = table_of rules.null_text (map (shown_record rules.is_flat) (records_of (option_and_then (member_at rules.path) (document bytes))))

-- ---- a record on each line

-- what line feeds part
abbrev pub lines_of : List ℕ → List (List ℕ)
lines_of bytes = slice_split (λ byte. byte == 10) bytes

-- a blank line holds no record
abbrev pub is_blank : List ℕ → Bool
is_blank line = list_all is_space line

abbrev pub value_on : List ℕ → Option Json
value_on line = if is_blank line then None else document line

abbrev pub record_on : Rules → List ℕ → Option Json
record_on rules line = option_map (shown_record rules.is_flat) (value_on line)

abbrev pub records_on : Rules → List (List ℕ) → List Json
records_on rules lines = filter_map (record_on rules) lines

-- the rows of the values that the lines of these bytes are
unfoldable pub line_rows_of : Rules → List ℕ → List (List (List ℕ))
line_rows_of rules bytes = table_of rules.null_text (records_on rules (lines_of bytes))

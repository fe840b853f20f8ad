-- The rows of a table, as they are shown, and the texts of values.
use Rattle.std.specs.Prelude.{◌++◌, ℕ, List, [], codes, ⊤, ◌+◌, ◌*◌, ◌==◌, Bool, true, false, ◌∷◌, map, if◌then◌else◌, ◌≡◌, ◌<◌, ◌⊎◌, ℤ, nat_le, nat_lt, length, All, Any, Option, Some, None}
use Rattle.std.specs.Prelude.{Result, Ok, Err}
use Rattle.std.specs.Fmt.{signed_decimal}
use Rattle.hex.specs.Hex.{encode_lower}
use Rattle.sqlite_value.specs.declared.value.Value.{Value}
use Rattle.sqlite_value.specs.declared.value.Value.TheVariants.{Null, Int, Real, Text, Blob}
use Rattle.sqlite_sql.specs.Spelling.{spelled}
use Rattle.csv.specs.Records.{AllText}
use Rattle.ruled_database.specs.declared.fault.TableFault.{TableFault}
use Rattle.ruled_database.specs.declared.fault.TableFault.TheVariants as fault
use Rattle.std.specs.Char.Utf16.{has_unpaired_surrogate, utf16_lossy_chars}
use Rattle.std.specs.Str.{encode_utf8_all}
use Rattle.sqlite_format.specs.Bytes.{u32_at}
use Rattle.sqlite_value.specs.Order.{Row, column}
use Rattle.ruled_database.specs.declared.encoding.Encoding.{Encoding}
use Rattle.ruled_database.specs.declared.encoding.Encoding.TheVariants.{Utf8, Utf16Low, Utf16High}
use Rattle.std.specs.Int.{cast_signed, w64}
use Rattle.std.specs.Option.{option_and_then}
use Rattle.sqlite_format.specs.Cell.{flip_sign}
use Rattle.sqlite_format.specs.declared.kind.Tree.{Tree}
use Rattle.sqlite_record.specs.Affinity.{as_real}
use Rattle.sqlite_record.specs.Record.{decode}
use Rattle.ruled_database.specs.Trees.{page_count, Gives, Read, all, Stored, first_of, record_of, rows_below, sound_rows}
use Rattle.ruled_database.specs.declared.definition.Column.{Column}
use Rattle.ruled_database.specs.declared.definition.Definition.{Definition}
use Rattle.ruled_database.specs.declared.definition.Shown.{Shown}
use Rattle.ruled_database.specs.declared.definition.Shown.TheVariants.{Values, Reals, Rowids}
use Rattle.ruled_database.specs.declared.fault.TableFault.TheVariants.{Damage, Default, Memory}

-- ---- texts of a database in UTF-8, and values as texts

-- how a file says that texts are written
abbrev pub encoding_of : List ℕ → Encoding
encoding_of file = if u32_at file 56 == 2 then Utf16Low else if u32_at file 56 == 3 then Utf16High else Utf8

-- units of two bytes, of which the high one comes first or last; a last byte alone is none
abbrev pub units_of : Bool → List ℕ → List ℕ
units_of high [] = []
units_of high (byte ∷ []) = []
units_of high (first ∷ (second ∷ rest)) = (if high then first * 256 + second else second * 256 + first) ∷ units_of high rest

-- a text that isn't UTF-16 is none of UTF-8 either
unfoldable pub text_of : Bool → List ℕ → List ℕ
text_of high bytes =
    let units = units_of high bytes in
    if has_unpaired_surrogate units then 255 ∷ [] else encode_utf8_all (utf16_lossy_chars units)

abbrev pub value_of : Bool → Value → Value
value_of high Null = Null
value_of high (Int n) = Int n
value_of high (Real x) = Real x
value_of high (Text bytes) = Text (text_of high bytes)
value_of high (Blob bytes) = Blob bytes

-- values, of which texts are in UTF-8
abbrev pub in_utf8 : Encoding → Row → Row
in_utf8 Utf8 values = values
in_utf8 Utf16Low values = map (value_of false) values
in_utf8 Utf16High values = map (value_of true) values

-- ---- values as texts

-- this one for NULL, numbers as SQLite writes them, and bytes that are no text as a literal of SQL
abbrev pub shown_text : List ℕ → Value → List ℕ
shown_text null_text Null = null_text
shown_text null_text (Int n) = signed_decimal n
shown_text null_text (Real x) = spelled x
shown_text null_text (Text bytes) = bytes
shown_text null_text (Blob bytes) = codes "x'" ++ (encode_lower bytes ++ codes "'")

-- ---- why texts are no row to show

-- one of them isn't UTF-8, in the row of this number, unless memory was refused
abbrev pub LacksTexts : ℕ → List (List ℕ) → TableFault → Type 0
LacksTexts number texts fault.Damage = ⊥
LacksTexts number texts fault.Default = ⊥
LacksTexts number texts (fault.Encoding at) = (at ≡ number) × ¬ AllText texts
LacksTexts number texts fault.Memory = ⊤

-- ---- the rows of a table

-- ---- the texts of a row

-- the rowid that a key stands for
abbrev pub rowid : ℕ → ℤ
rowid key = cast_signed w64 (flip_sign key)

module _ (definition : Definition) where
  -- the value at a place of a record; that of the defaults where the record is older than the column
  abbrev pub value_at : Row → ℕ → Value
  value_at values place = if nat_lt place (length values) then column values place else column definition.defaults place

  -- the value of a column
  abbrev pub value_by : Shown → ℕ → Row → ℕ → Value
  value_by Values key values place = value_at values place
  value_by Reals key values place = as_real (value_at values place)
  value_by Rowids key values place = Int (rowid key)

  abbrev pub value_in : ℕ → Row → Column → Value
  value_in key values it = value_by it.shown key values it.place

  abbrev pub texts_in : ℕ → Row → List (List ℕ)
  texts_in key values = map (λ it. shown_text definition.null (value_in key values it)) definition.columns

  -- the row, where no column lacks its value
  abbrev pub row_in : ℕ → Row → Option (List (List (List ℕ)))
  row_in key values = if nat_le definition.least (length values) then Some (texts_in key values ∷ []) else None

-- the names of columns
abbrev pub names_in : List Column → List (List ℕ)
names_in columns = map (λ it. it.name) columns

-- ---- the rows of a tree

-- the values of a record, with texts in UTF-8
abbrev pub values_of : List ℕ → List ℕ → Row
values_of file bytes = in_utf8 (encoding_of file) (decode bytes)

module _ (file : List ℕ) (definition : Definition) where
  -- the texts of a row, with the overflow pages that it takes
  abbrev pub shown_row : Stored → Read (List (List (List ℕ)))
  shown_row row = ((record_of file row).0, option_and_then (λ bytes. row_in definition row.key (values_of file bytes)) (record_of file row).1)

  abbrev pub shown_rows_of : List Stored → Read (List (List (List ℕ)))
  shown_rows_of rows = all (map shown_row rows)

  -- the record of a row lacks the value of a column
  abbrev pub IsOld : Stored → Type 0
  IsOld row = (bytes : List ℕ) × ((record_of file row).1 ≡ Some bytes) × (length (values_of file bytes) < definition.least)

  -- a text of a row isn't in the encoding of the file
  abbrev pub HasWrongText : Stored → Type 0
  HasWrongText row = (bytes : List ℕ) × ((record_of file row).1 ≡ Some bytes) × ¬ AllText (texts_in definition row.key (values_of file bytes))

-- what reading a row of this number gives
abbrev pub GivesRow : {U : Type 0} → List ℕ → Definition → Stored → ℕ → ℕ → ℕ → List (List (List ℕ)) → List (List (List ℕ)) → Result U TableFault → Type 0
GivesRow file definition row number before after old new (Ok x) = Gives {U = ℕ} (shown_row file definition row) before after old new (Ok 0)
GivesRow file definition row number before after old new (Err Damage) = Gives {U = ℕ} (shown_row file definition row) before after old new (Err Damage)
GivesRow file definition row number before after old new (Err Default) = IsOld file definition row
GivesRow file definition row number before after old new (Err (fault.Encoding at)) = (at ≡ number) × HasWrongText file definition row
GivesRow file definition row number before after old new (Err Memory) = Unit {0}

-- no tree has more levels
abbrev pub most_levels : ℕ
most_levels = 20

-- a part isn't sound, or takes more pages than the file has
abbrev pub IsUnsound : {X : Type 0} → List ℕ → Read (List X) → Type 0
IsUnsound file read = (read.1 ≡ None) ⊎ (page_count file < read.0)

-- the first so many rows of the tree that begins at this page, if not all, and whether there is no fault before their end
abbrev pub tree_rows : Option ℕ → List ℕ → Tree → ℕ → List Stored × Bool
tree_rows limit file tree root = first_of limit (sound_rows (page_count file) (rows_below file tree most_levels root))

-- these, as they are shown
pub record AreRows (limit : Option ℕ) (file : List ℕ) (root : ℕ) (definition : Definition) (rows : List (List (List ℕ))) : Type 0 where
  pub sound : (tree_rows limit file definition.tree root).1 ≡ true
  pub shown : (shown_rows_of file definition (tree_rows limit file definition.tree root).0).1 ≡ Some rows

-- the pages of the tree, or those of its rows
abbrev pub IsDamaged : Option ℕ → List ℕ → ℕ → Definition → Type 0
IsDamaged limit file root definition =
    ((tree_rows limit file definition.tree root).1 ≡ false) ⊎ IsUnsound file (shown_rows_of file definition (tree_rows limit file definition.tree root).0)

-- one of the rows
abbrev pub HasRow : Option ℕ → List ℕ → Tree → ℕ → (Stored → Type 0) → Type 0
HasRow limit file tree root Is = Any Is (tree_rows limit file tree root).0

-- a row is the first one that isn't in the encoding of the file, and has this number; rows are counted from 1
pub record IsFirstWrong (file : List ℕ) (definition : Definition) (rows : List Stored) (number : ℕ) : Type 0 where
  pub before : List Stored
  pub row : Stored
  pub behind : List Stored
  pub among : rows ≡ before ++ row ∷ behind
  pub wrong : HasWrongText file definition row
  pub first : All (λ other. ¬ HasWrongText file definition other) before
  pub counted : number ≡ length before + 1

-- the rows stand behind others
abbrev pub AddsRows : {U : Type 0} → Option ℕ → List ℕ → ℕ → Definition → List (List (List ℕ)) → List (List (List ℕ)) → Result U TableFault → Type 0
AddsRows limit file root definition old new (Ok x) = (rows : List (List (List ℕ))) × AreRows limit file root definition rows × (new ≡ old ++ rows)
AddsRows limit file root definition old new (Err Damage) = IsDamaged limit file root definition
AddsRows limit file root definition old new (Err Default) = HasRow limit file definition.tree root (IsOld file definition)
AddsRows limit file root definition old new (Err (fault.Encoding at)) = IsFirstWrong file definition (tree_rows limit file definition.tree root).0 at
AddsRows limit file root definition old new (Err Memory) = Unit {0}

-- The rows of an input whose bytes come one piece after another.
use Rattle.std.specs.Prelude.{◌≡◌, ◌≤◌, ℕ, false, true, ⊤, List, [], ◌++◌, length, IfErr, Option, Some, Result, is_some, option_map}
use Rattle.csv.specs.Reading.{strip_bom}
use Rattle.pg_layout.specs.Text.{Text}
use Rattle.ruled_csv.specs.Faults as csv_faults
use Rattle.ruled_csv.specs.Reading as csv_reading
use Rattle.ruled_csv.specs.Rows as csv_rows
use Rattle.ruled_csv.specs.declared.dialect.Dialect.{Dialect}
use Rattle.ruled_database.specs.Listings.{AreRead, HasRead}
use Rattle.ruled_database.specs.declared.fault.DatabaseFault.{DatabaseFault}
use Rattle.ruled_json.specs.Streamed as json_reading
use Rattle.ruled_json.specs.Streamed.{LineRules}
use Rattle.ruled_io.specs.Faults.{but_line_in, fault_of_database, fault_of_json, fault_of_rows, is_read, read_part}
use Rattle.ruled_io.specs.Formats.{content_of, format_shown, is_database, setting_of}
use Rattle.ruled_io.specs.Requests.{format_told, holds_database}
use Rattle.ruled_io.specs.declared.fault.InputFault.{InputFault}
use Rattle.ruled_io.specs.declared.fault.InputFault.TheVariants.{Stream}
use Rattle.ruled_io.specs.declared.fault.ReadFault.{ReadFault}
use Rattle.ruled_io.specs.declared.fault.RunFault.{RunFault}
use Rattle.ruled_io.specs.declared.fault.StreamedFault.TheVariants.{Value}
use Rattle.ruled_io.specs.declared.formats.Format.{Format}
use Rattle.ruled_io.specs.declared.formats.Format.TheVariants.{Separated, Json, JsonLines}
use Rattle.ruled_io.specs.declared.formats.Known.{Known}
use Rattle.ruled_io.specs.declared.pieces.Pieces.{Pieces}
use Rattle.ruled_io.specs.declared.request.Source.{Source}
use Rattle.ruled_io.specs.declared.reader.Reader.{Reader}
use Rattle.ruled_io.specs.declared.reader.Reader.TheVariants.{Rows, Lines}
use Rattle.ruled_io.specs.declared.reader.Reading.{Reading}
use Rattle.ruled_io.specs.declared.reader.Reading.TheVariants.{More, Stored, Done}

-- ---- a reader's bytes

-- those that are left, where they are known
abbrev pub left_in : {R : Type 0} → (R → Option (List ℕ)) → Pieces R → Option (List ℕ)
left_in remaining pieces = remaining pieces.input

-- why a read has failed, where one has
abbrev pub read_failure : {R : Type 0} → Pieces R → Option ReadFault
read_failure pieces = pieces.failure

-- a result reports a failed read only where one has failed so
abbrev pub ReportsRead : {X : Type 0} → Option ReadFault → Result X RunFault → Type 0
ReportsRead failure result = IfErr result (λ fault. is_read fault ≡ true → failure ≡ read_part fault)

-- ---- a whole input

-- its rows above the first bad one, all where nothing is wrong; so many first records say the columns of lines of JSON
abbrev pub sound_rows : Format → LineRules → List ℕ → List (List Text)
sound_rows (Separated dialect) rules bytes = csv_faults.sound_rows dialect bytes
sound_rows Json rules bytes = []
sound_rows JsonLines rules bytes = json_reading.sound_line_rows rules bytes

-- what is wrong with it; a value that holds all rows isn't read one row after another
abbrev pub wrong_in : Format → LineRules → List ℕ → Option InputFault
wrong_in (Separated dialect) rules bytes = option_map fault_of_rows (csv_faults.rows_fault dialect bytes)
wrong_in Json rules bytes = Some (Stream Value)
wrong_in JsonLines rules bytes = option_map fault_of_json (json_reading.streamed_line_fault rules bytes)

-- ---- a beginning of it

-- the rows that are complete in it
abbrev pub ended_rows : Format → LineRules → List ℕ → List (List Text)
ended_rows (Separated dialect) rules bytes = csv_rows.ended_rows dialect bytes
ended_rows Json rules bytes = []
ended_rows JsonLines rules bytes = json_reading.ended_line_rows rules bytes

-- a reader has read these bytes of an input in this format, and found nothing wrong
abbrev pub HasTaken : Format → LineRules → List ℕ → Reader → Type 0
HasTaken format rules bytes (Rows reader) = (dialect : Dialect) × (format ≡ Separated dialect) × csv_reading.HasRead dialect bytes reader
HasTaken format rules bytes (Lines reader) = (format ≡ JsonLines) × json_reading.HasRead rules bytes reader

-- behind the old rows stand those which with the rows above are all of these
abbrev pub AppendsRest : List (List Text) → List (List Text) → List (List Text) → List (List Text) → Type 0
AppendsRest above all old new = (rows : List (List Text)) × (new ≡ old ++ rows) × (above ++ rows ≡ all)

-- ---- a reader

module _ (format : Format) (rules : LineRules) (before bytes all : List ℕ) (old new : List (List Text)) where
  -- it has read more bytes, and given the rows that are complete with them; or the input is bad, and it has given all above the first bad row
  abbrev pub Gives : Reading → Type 0
  Gives (More reader) = HasTaken format rules (before ++ bytes) reader × AppendsRest (ended_rows format rules before) (ended_rows format rules (before ++ bytes)) old new
  Gives (Stored table) = ⊥
  Gives (Done wrong) = (wrong_in format rules all ≡ option_map but_line_in wrong) × AppendsRest (ended_rows format rules before) (sound_rows format rules all) old new

-- it has given all rows above the first bad one, and tells what is wrong
module _ (format : Format) (rules : LineRules) (bytes : List ℕ) (old new : List (List Text)) where
  abbrev pub Ends : Reading → Type 0
  Ends (More reader) = ⊥
  Ends (Stored table) = ⊥
  Ends (Done wrong) = (wrong_in format rules bytes ≡ option_map but_line_in wrong) × AppendsRest (ended_rows format rules bytes) (sound_rows format rules bytes) old new

-- ---- a reading

-- of these bytes some are left, which the input gives next, and these rows were given
module _ (format : Format) (rules : LineRules) (all : List ℕ) (left : Option (List ℕ)) (given : List (List Text)) where
  abbrev pub Stands : Reading → Type 0
  Stands (More reader) = (before rest : List ℕ) × (all ≡ before ++ rest) × (left ≡ Some rest) × HasTaken format rules before reader × (given ≡ ended_rows format rules before)
  Stands (Stored table) = ⊥
  Stands (Done wrong) = (given ≡ sound_rows format rules all) × (wrong_in format rules all ≡ option_map but_line_in wrong)

-- a reading goes on with more rows behind the old ones
abbrev pub GoesOn : Format → LineRules → List ℕ → Option (List ℕ) → List (List Text) → List (List Text) → List (List Text) → Reading → Type 0
GoesOn format rules all left given old new reading = (more : List (List Text)) × (new ≡ old ++ more) × Stands format rules all left (given ++ more) reading

-- ---- a table of a database

module _ (file name null_text : List ℕ) where
  -- its rows above the first one that can't be shown, and what is wrong with that; any of its first ones where memory was refused
  abbrev pub IsTable : List (List Text) → Option InputFault → Type 0
  IsTable rows wrong = (fault : Option DatabaseFault) × (wrong ≡ option_map fault_of_database fault) × AreRead file name null_text rows fault

  -- these rows of it were given
  abbrev pub StandsAt : List (List Text) → Reading → Type 0
  StandsAt given (More reader) = ⊥
  StandsAt given (Stored table) = HasRead file name null_text given table
  StandsAt given (Done wrong) = IsTable given (option_map but_line_in wrong)

  -- more are, behind the old rows
  abbrev pub GivesStored : List (List Text) → List (List Text) → List (List Text) → Reading → Type 0
  GivesStored given old new reading = (more : List (List Text)) × (new ≡ old ++ more) × StandsAt (given ++ more) reading

-- ---- what is read row by row

-- bytes in a format, or the table of a name of a database, where NULL is a text
pub data Origin : Type 0 where
  in_format : Format → LineRules → List ℕ → Origin
  of_table : List ℕ → List ℕ → List ℕ → Origin

-- its rows above the first bad one, and what is wrong with that
abbrev pub IsHeld : Origin → List (List Text) → Option InputFault → Type 0
IsHeld (in_format format rules all) rows wrong = (rows ≡ sound_rows format rules all) × (wrong ≡ wrong_in format rules all)
IsHeld (of_table file name null_text) rows wrong = IsTable file name null_text rows wrong

-- these of its rows were given
abbrev pub StandsIn : Origin → Option (List ℕ) → List (List Text) → Reading → Type 0
StandsIn (in_format format rules all) left given reading = Stands format rules all left given reading
StandsIn (of_table file name null_text) left given reading = StandsAt file name null_text given reading

-- rows begin with those that were given, and are these where no more are left
abbrev pub GoesTo : List (List Text) → Reading → List (List Text) → Option InputFault → Type 0
GoesTo given (More reader) rows wrong = (more : List (List Text)) × (given ++ more ≡ rows)
GoesTo given (Stored table) rows wrong = (more : List (List Text)) × (given ++ more ≡ rows)
GoesTo given (Done fault) rows wrong = (given ≡ rows) × (wrong ≡ option_map but_line_in fault)

-- a reading has given more rows, behind the old ones, and goes on to no others
abbrev pub GivesMore : Origin → Option (List ℕ) → List (List Text) → Reading → List (List Text) → List (List Text) → Reading → Type 0
GivesMore origin left given reading old new now =
    (more : List (List Text)) × (new ≡ old ++ more) × StandsIn origin left (given ++ more) now
    × ((rows : List (List Text)) (wrong : Option InputFault) → GoesTo (given ++ more) now rows wrong → GoesTo given reading rows wrong)

-- ---- the first bytes of an input

-- bytes behind the first ones are bytes behind those of them that hold rows
abbrev pub HoldsOn : Format → List ℕ → List ℕ → Type 0
HoldsOn format front behind = content_of format (front ++ behind) ≡ content_of format front ++ behind

-- they show its format, and so which bytes hold its rows
pub record ShowsFormat (known : Known) (front behind : List ℕ) : Type 0 where
  pub format : format_shown known (strip_bom (front ++ behind)) ≡ format_shown known (strip_bom front)
  pub content : HoldsOn (format_shown known (strip_bom front)) front behind

-- and whether it is a database
pub record ShowsInput (known : Known) (front behind : List ℕ) : Type 0 where
  pub database : is_database (front ++ behind) ≡ is_database front
  pub rows : ShowsFormat known front behind

-- they begin it
abbrev pub BeginsSo : Known → List ℕ → List ℕ → Type 0
BeginsSo known front all = (behind : List ℕ) × (all ≡ front ++ behind) × ShowsInput known front behind

-- a text behind a byte order mark shows both by its front
abbrev pub SetsAlike : Format → List ℕ → List ℕ → Type 0
SetsAlike (Separated dialect) text behind = (setting_of dialect.rows (text ++ behind) ≡ setting_of dialect.rows text) × (is_some (setting_of dialect.rows text) ≡ true → 5 ≤ length text)
SetsAlike Json text behind = ⊤
SetsAlike JsonLines text behind = ⊤

pub record ShowsText (known : Known) (text behind : List ℕ) : Type 0 where
  pub format : format_shown known (text ++ behind) ≡ format_shown known text
  pub setting : SetsAlike (format_shown known text) text behind

-- what is read of it, where it may be a database
abbrev pub ShowsSource : Source → List ℕ → List ℕ → Type 0
ShowsSource source front behind =
    (holds_database source (front ++ behind) ≡ holds_database source front)
    × (holds_database source front ≡ false → ShowsFormat (format_told source) front behind)

-- they are read of it
abbrev pub ReadsFront : Source → List ℕ → Option (List ℕ) → List ℕ → Type 0
ReadsFront source all left front = (rest : List ℕ) × (all ≡ front ++ rest) × (left ≡ Some rest) × ShowsSource source front rest

-- Rows that are shown one after another, each when it comes, in the layout of the first ones; and what the parts of a run do.
use Rattle.std.specs.Prelude.{◌≡◌, ◌⊎◌, ℕ, ◌+◌, ◌-◌, ◌^◌, min, nat_lt, ◌==◌, ◌&&◌, is_some, Bool, true, false, List, [], ◌∷◌, ◌++◌, take, length, Option, Some, None, option_map}
use Rattle.std.specs.Prelude.{string_bytes, Result, Ok, Err, if◌then◌else◌, ◌≤◌, ⊤, drop}
use Rattle.std.specs.Io.KnownBytes.{Appends, Keeps}
use Rattle.pg_layout.specs.Text.{Text}
use Rattle.ruled_json.specs.Rows.{Rules, plain_rules}
use Rattle.ruled_json.specs.Streamed.{LineRules}
use Rattle.ruled_table.specs.Layouts.{colored, first_fault, layout_of, whole_text, Plan}
use Rattle.ruled_table.specs.RowLines.{HasNoRoom, begun_text}
use Rattle.ruled_table.specs.View.{excess_of}
use Rattle.ruled_io.specs.Faults.{but_line, is_failure, of_view, Begins, but_line_in, fault_of_view, is_early, is_memory, is_read}
use Rattle.ruled_io.specs.Formats.{content_of, format_streamed}
use Rattle.ruled_io.specs.Reading.{IsTable, sound_rows, wrong_in, GoesTo, IsHeld, Origin}
use Rattle.ruled_io.specs.Requests.{format_told, hides_rows, holds_database, log_of, members_of, selection_of}
use Rattle.ruled_io.specs.declared.fault.InputFault.{InputFault}
use Rattle.ruled_io.specs.declared.fault.InputFault.TheVariants.{Log, Stream, Totals}
use Rattle.ruled_io.specs.declared.fault.RunFault.{RunFault}
use Rattle.ruled_io.specs.declared.fault.RunFault.TheVariants.{Input, Read, Closed, Write}
use Rattle.ruled_io.specs.declared.fault.StreamedFault.TheVariants.{Database}
use Rattle.ruled_io.specs.declared.formats.Format.{Format}
use Rattle.ruled_io.specs.declared.formats.Format.TheVariants.{Separated, Json, JsonLines}
use Rattle.ruled_table.specs.declared.options.Options.{Options}
use Rattle.ruled_io.specs.declared.program.Remarks.{Remarks}
use Rattle.ruled_io.specs.declared.request.Request.{Request}
use Rattle.ruled_io.specs.declared.request.Selection.{Selection}
use Rattle.ruled_io.specs.declared.request.Selection.TheVariants.{Query, Table, Tables}
use Rattle.ruled_io.specs.Input.{names_columns}
use Rattle.ruled_io.specs.declared.reader.Reading.{Reading}
use Rattle.ruled_io.specs.declared.reader.Reading.TheVariants.{More, Stored, Done}
use Rattle.ruled_table.specs.declared.view.ViewFault.{ViewFault}

-- ---- how many rows are first

-- row 0 is no record: it is a header, or has the names of members
abbrev pub has_names : Options → Format → Bool
has_names options (Separated dialect) = options.has_header
has_names options Json = true
has_names options JsonLines = true

-- so many records, at least one
abbrev pub record_count : ℕ → ℕ
record_count count = if count == 0 then 1 else count

-- and row 0, which has names
abbrev pub named_count : ℕ → ℕ
named_count count = min (record_count count + 1) (2 ^ 64 - 1)

abbrev pub first_count : Options → Format → ℕ → ℕ
first_count options format count = if has_names options format then named_count count else record_count count

-- how lines of JSON are read
abbrev pub line_rules : ℕ → Rules → LineRules
line_rules count members = record { records = record_count count; members = members }

-- ---- what is shown

-- the lines of rows, and the table's end where nothing is wrong behind them
abbrev pub lines_in : Options → Plan → List (List Text) → Option InputFault → Text
lines_in options plan rows wrong = if is_some wrong then begun_text options plan rows else whole_text options plan rows

-- ---- what becomes of rows, of which so many are first, where something is wrong behind them or nothing

module _ (options : Options) (count : ℕ) (rows : List (List Text)) (wrong : Option InputFault) where
  -- the layout that the first ones say, and with colours; no row below a header has any
  abbrev pub first_layout : Plan
  first_layout = layout_of options (take count rows)

  abbrev pub first_plan : Plan
  first_plan = colored options [] first_layout

  -- what is told before anything is written: that they end at a bad one, or what is wrong with their table
  abbrev pub first_wrong : Option RunFault
  first_wrong =
      if is_some wrong && nat_lt (length rows) count then option_map Input wrong
      else if length rows == 0 then None
      else option_map of_view (first_fault options (take count rows))

  abbrev pub shown_text : Text
  shown_text = if is_some first_wrong then [] else lines_in options first_plan rows wrong

  -- what is remarked: no row is padded, and how wide the lines are, if that is more than the width that is set
  abbrev pub first_remarks : Remarks
  first_remarks = record { padded = 0; wide = if length rows == 0 then None else excess_of options.bounds.width first_layout; inner = None }

  module _ (old new : Option (List ℕ)) where
    -- the lines above a row that no room is left for
    abbrev pub FallsShort : Type 0
    FallsShort = (above behind : List (List Text)) × (row : List Text) × (rows ≡ above ++ row ∷ behind) × HasNoRoom options first_plan above row × Appends old new (begun_text options first_plan above)

    -- why not all is shown
    abbrev pub Stops : RunFault → Type 0
    Stops fault =
        (first_wrong ≡ Some (but_line fault))
        ⊎ ((first_wrong ≡ None) × (option_map Input wrong ≡ Some (but_line fault)) × Appends old new shown_text)
        ⊎ ((first_wrong ≡ None) × (fault ≡ Input Totals) × FallsShort)

    -- Before a fault a beginning of the text is written; where memory, a read or a write failed, no more is known.
    abbrev pub IsStopped : RunFault → Type 0
    IsStopped fault = Begins old new shown_text × (is_failure fault ≡ false → Stops fault)

    -- else nothing is wrong, and all is written
    abbrev pub Ends : Result Remarks RunFault → Type 0
    Ends (Ok remarks) = (first_wrong ≡ None) × (wrong ≡ None) × Appends old new shown_text × (remarks ≡ first_remarks)
    Ends (Err fault) = IsStopped fault

-- what becomes of some rows, which are so
abbrev pub EndsOf : Options → ℕ → (List (List Text) → Option InputFault → Type 0) → Option (List ℕ) → Option (List ℕ) → Result Remarks RunFault → Type 0
EndsOf options count Are old new result = (rows : List (List Text)) × (wrong : Option InputFault) × Are rows wrong × Ends options count rows wrong old new result

-- ---- an input

module _ (request : Request) (count : ℕ) (bytes : List ℕ) where
  abbrev pub streamed_format : Format
  streamed_format = format_streamed (format_told request.source) bytes

  abbrev pub streamed_rules : LineRules
  streamed_rules = line_rules count (members_of request.source)

  -- so many of its rows are first; row 0 of a table of a database has the names of its columns
  abbrev pub streamed_count : ℕ
  streamed_count = if holds_database request.source bytes then named_count count else first_count request.view streamed_format count

  -- of a database only a table is streamed, unless rows may stand in a log
  abbrev pub AreOfTable : Bool → List ℕ → List ℕ → List (List Text) → Option InputFault → Type 0
  AreOfTable true name null_text rows wrong = (rows ≡ []) × (wrong ≡ Some Log)
  AreOfTable false name null_text rows wrong = IsTable bytes name null_text rows wrong

  abbrev pub AreOfDatabase : Option Selection → List (List Text) → Option InputFault → Type 0
  AreOfDatabase None rows wrong = (rows ≡ []) × (wrong ≡ Some (Stream Database))
  AreOfDatabase (Some (Query query)) rows wrong = (rows ≡ []) × (wrong ≡ Some (Stream Database))
  AreOfDatabase (Some (Table name null_text)) rows wrong = AreOfTable (hides_rows (log_of request.source) bytes) (string_bytes name) (string_bytes null_text) rows wrong
  AreOfDatabase (Some Tables) rows wrong = (rows ≡ []) × (wrong ≡ Some (Stream Database))

  -- its rows above the first bad one, and what is wrong with that
  abbrev pub AreStreamedAs : Bool → List (List Text) → Option InputFault → Type 0
  AreStreamedAs false rows wrong = (rows ≡ sound_rows streamed_format streamed_rules (content_of streamed_format bytes)) × (wrong ≡ wrong_in streamed_format streamed_rules (content_of streamed_format bytes))
  AreStreamedAs true rows wrong = AreOfDatabase (selection_of request.source) rows wrong

  abbrev pub AreStreamed : List (List Text) → Option InputFault → Type 0
  AreStreamed rows wrong = AreStreamedAs (holds_database request.source bytes) rows wrong

  -- what becomes of them
  abbrev pub StreamsAll : Option (List ℕ) → Option (List ℕ) → Result Remarks RunFault → Type 0
  StreamsAll old new result = EndsOf request.view streamed_count AreStreamed old new result

  -- the text that is shown of them, and what is remarked, where nothing is wrong
  abbrev pub StreamsText : Text → Type 0
  StreamsText text = (rows : List (List Text)) × AreStreamed rows None × (first_wrong request.view streamed_count rows None ≡ None) × (text ≡ shown_text request.view streamed_count rows None)

  abbrev pub StreamsRemarks : Remarks → Type 0
  StreamsRemarks remarks = (rows : List (List Text)) × AreStreamed rows None × (remarks ≡ first_remarks request.view streamed_count rows None)

  -- and before a fault
  abbrev pub StopsStream : RunFault → Option (List ℕ) → Option (List ℕ) → Type 0
  StopsStream fault old new = (rows : List (List Text)) × (wrong : Option InputFault) × AreStreamed rows wrong × IsStopped request.view streamed_count rows wrong old new fault

-- a text that is written grows to another one
abbrev pub Grows : Text → Text → Option (List ℕ) → Option (List ℕ) → Type 0
Grows above all old new = (more : Text) × (above ++ more ≡ all) × Appends old new more

-- or to a beginning of it
abbrev pub Nears : Text → Text → Option (List ℕ) → Option (List ℕ) → Type 0
Nears above all old new = (more : Text) × (above ++ more ≡ all) × Begins old new more

-- there are so many rows, unless all are there
abbrev pub IsEnough : ℕ → List (List Text) → Reading → Type 0
IsEnough count rows (More reader) = count ≤ length rows
IsEnough count rows (Stored table) = count ≤ length rows
IsEnough count rows (Done wrong) = ⊤

-- what is wrong where there are fewer
abbrev pub wrong_within : ℕ → ℕ → Reading → Option InputFault
wrong_within count rows (More reader) = None
wrong_within count rows (Stored table) = None
wrong_within count rows (Done wrong) = if nat_lt rows count then wrong else None

module _ (options : Options) (plan : Plan) (above rows : List (List Text)) (old new : Option (List ℕ)) where
  -- the lines of rows are written below those above
  abbrev pub WritesRows : Type 0
  WritesRows = Grows (begun_text options plan above) (begun_text options plan (above ++ rows)) old new

  -- but for those at the end, which wait behind the others
  abbrev pub WritesBut : Text → Type 0
  WritesBut waiting = (front : Text) × (begun_text options plan above ++ (front ++ waiting) ≡ begun_text options plan (above ++ rows)) × Appends old new front

  -- those in front of one that no room is left for
  abbrev pub StopsIn : Type 0
  StopsIn = (done behind : List (List Text)) × (row : List Text) × (rows ≡ done ++ row ∷ behind) × HasNoRoom options plan (above ++ done) row
      × Grows (begun_text options plan above) (begun_text options plan (above ++ done)) old new

  -- why not all are written
  abbrev pub FailsIn : RunFault → Type 0
  FailsIn fault = Nears (begun_text options plan above) (begun_text options plan (above ++ rows)) old new × (is_failure fault ≡ false → (fault ≡ Input Totals) × StopsIn)

module _ (options : Options) (plan : Plan) (rows : List (List Text)) (wrong : Option InputFault) (above : List (List Text)) (old new : Option (List ℕ)) where
  -- the lines of all these rows up to one that no room is left for, where those above are written
  abbrev pub StopsBelow : Type 0
  StopsBelow = (done behind : List (List Text)) × (row : List Text) × (rows ≡ done ++ row ∷ behind) × HasNoRoom options plan done row
      × Grows (begun_text options plan above) (begun_text options plan done) old new

  -- all are written, and the table is ended where nothing is wrong
  abbrev pub EndsBelow : {X : Type 0} → Result X RunFault → Type 0
  EndsBelow (Ok x) = (wrong ≡ None) × Grows (begun_text options plan above) (lines_in options plan rows wrong) old new
  EndsBelow (Err fault) =
      Nears (begun_text options plan above) (lines_in options plan rows wrong) old new
      × (is_failure fault ≡ false → ((option_map Input wrong ≡ Some (but_line fault)) × Grows (begun_text options plan above) (lines_in options plan rows wrong) old new)
      ⊎ ((fault ≡ Input Totals) × StopsBelow))

-- so end the rows that a reading goes on to, where those above are written
module _ (options : Options) (plan : Plan) (origin : Origin) (given : List (List Text)) (reading : Reading) (above : List (List Text)) (old new : Option (List ℕ)) where
  abbrev pub EndsSo : {X : Type 0} → Result X RunFault → Type 0
  EndsSo result = (rows : List (List Text)) × (wrong : Option InputFault) × IsHeld origin rows wrong × GoesTo given reading rows wrong × EndsBelow options plan rows wrong above old new result

-- ---- rows that are all shown at once

-- A text of which this is wrong: it is written, or what is wrong is told; where memory is refused or a write fails, a beginning is written.
module _ (text : Text) (wrong : Option ViewFault) (old new : Option (List ℕ)) where
  abbrev pub Draws : {X : Type 0} → Result X RunFault → Type 0
  Draws (Ok x) = (wrong ≡ None) × Appends old new text
  Draws (Err (Input fault)) = (is_memory fault ≡ false → (option_map fault_of_view wrong ≡ Some fault) × Keeps old new) × (is_memory fault ≡ true → Begins old new text)
  Draws (Err (Read fault)) = ⊥
  Draws (Err Closed) = Begins old new text
  Draws (Err Write) = Begins old new text

  -- where it is drawn of what is in memory, nothing else is wrong
  abbrev pub DrawsInMemory : {X : Type 0} → Result X RunFault → Type 0
  DrawsInMemory (Ok x) = (wrong ≡ None) × Appends old new text
  DrawsInMemory (Err fault) = (is_read fault ≡ false) × (is_early fault ≡ false) × Begins old new text

-- ---- rows of several inputs

-- rows below others: row 0, if it names the columns, only where none are above
abbrev pub beneath : Options → List (List Text) → List (List Text) → List (List Text)
beneath options [] rows = rows
beneath options (first ∷ above) rows = (first ∷ above) ++ (if names_columns options then drop 1 rows else rows)

-- ---- the first rows of an input

-- so many rows are needed of an input that is read to its end, if it holds a database; else all
abbrev pub limit_of_whole : Bool → Option ℕ → Option ℕ
limit_of_whole true limit = limit
limit_of_whole false limit = None

-- no rule of lines of JSON is asked for
abbrev pub plain_lines : LineRules
plain_lines = record { records = 1; members = plain_rules }

module _ (format : Format) (limit : ℕ) (all : List ℕ) where
  -- what is wrong where fewer stand above the first bad one
  abbrev pub fault_of_first : Option InputFault
  fault_of_first = if nat_lt (length (sound_rows format plain_lines all)) limit then wrong_in format plain_lines all else None

  abbrev pub AreFirst : List (List Text) → Type 0
  AreFirst rows = (fault_of_first ≡ None) × (rows ≡ take limit (sound_rows format plain_lines all))

  -- why there are none, unless memory was refused
  abbrev pub LacksFirst : RunFault → Type 0
  LacksFirst (Input fault) = is_memory fault ≡ false → fault_of_first ≡ Some (but_line_in fault)
  LacksFirst (Read fault) = ⊤
  LacksFirst Closed = ⊥
  LacksFirst Write = ⊥

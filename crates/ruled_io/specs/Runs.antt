-- What a run shows of an input, and why it ends before; and a law of runs: where all rows are among the first ones, a stream shows what is shown at once.
use Rattle.std.specs.Prelude.{◌≡◌, ◌⊎◌, ⊤, ℕ, Bool, true, false, List, Option, Some, None, option_map, ◌≢◌, ◌≤◌, [], length}
use Rattle.std.specs.Io.KnownBytes.{Keeps}
use Rattle.pg_layout.specs.Text.{Text}
use Rattle.ruled_table.specs.Arranged.{padded_rows}
use Rattle.ruled_table.specs.View.{table_excess, table_fault, table_text}
use Rattle.ruled_io.specs.Input.{AreSelected, LacksAnswer, LacksQueried, LacksStored, further_fault, joined, input_fault, rows_in}
use Rattle.ruled_io.specs.Faults.{but_line_in, fault_of_view, is_memory, Begins, of_view}
use Rattle.ruled_io.specs.Requests.{format_told, hides_rows, holds_database, inner_place, log_of, members_of, rows_needed, selection_of}
use Rattle.ruled_io.specs.Stream.{StopsStream, StreamsRemarks, StreamsText, AreStreamed, first_wrong, streamed_count, streamed_format}
use Rattle.ruled_io.specs.declared.fault.InputFault.{InputFault}
use Rattle.ruled_io.specs.declared.fault.InputFault.TheVariants as input
use Rattle.ruled_io.specs.declared.fault.RunFault.{RunFault}
use Rattle.ruled_io.specs.declared.fault.RunFault.TheVariants.{Input, Read, Closed, Write}
use Rattle.ruled_io.specs.declared.program.Remarks.{Remarks}
use Rattle.ruled_io.specs.declared.request.Request.{Request}
use Rattle.ruled_io.specs.declared.request.Rows as rows
use Rattle.ruled_io.specs.declared.request.Rows.TheVariants.{AtOnce, FromFirst}
use Rattle.ruled_io.specs.declared.request.Source.{Source}
use Rattle.ruled_table.specs.Shown.{colors_fields}
use Rattle.ruled_table.specs.declared.options.Options.{Options}
use Rattle.ruled_table.specs.declared.options.Vertical.TheVariants.{Never}
use Rattle.ruled_io.specs.Formats.{format_in}
use Rattle.ruled_io.specs.declared.formats.Format.TheVariants.{Json}
use Rattle.ruled_io.specs.declared.request.Selection.{Selection}
use Rattle.ruled_io.specs.declared.request.Selection.TheVariants.{Query, Table, Tables}

-- ---- the rows of all bytes, or of the first of them where so many rows are needed

-- no row stands elsewhere, and these are the answer
abbrev pub AreAsked : Option ℕ → Source → List ℕ → List (List Text) → Type 0
AreAsked limit source bytes rows = (hides_rows (log_of source) bytes ≡ false) × AreSelected limit (selection_of source) bytes rows

-- the rows are the answer, or those that the bytes hold
abbrev pub AreRowsAs : Option ℕ → Bool → Source → List ℕ → List (List Text) → Type 0
AreRowsAs limit false source bytes rows =
    (input_fault limit (members_of source) (format_told source) bytes ≡ None) × (rows ≡ rows_in limit (members_of source) (format_told source) bytes)
AreRowsAs limit true source bytes rows = AreAsked limit source bytes rows

abbrev pub AreRows : Option ℕ → Source → List ℕ → List (List Text) → Type 0
AreRows limit source bytes rows = AreRowsAs limit (holds_database source bytes) source bytes rows

-- why there are none, unless memory was refused; a log that may hide rows comes before all that is asked of a database
abbrev pub LacksRowsAs : Option ℕ → Bool → Source → List ℕ → InputFault → Type 0
LacksRowsAs limit false source bytes fault = is_memory fault ≡ false → input_fault limit (members_of source) (format_told source) bytes ≡ Some (but_line_in fault)
LacksRowsAs limit true source bytes (input.Rows fault) = (hides_rows (log_of source) bytes ≡ false) × LacksQueried (selection_of source) bytes (input.Rows fault)
LacksRowsAs limit true source bytes (input.Json fault) = (hides_rows (log_of source) bytes ≡ false) × LacksQueried (selection_of source) bytes (input.Json fault)
LacksRowsAs limit true source bytes (input.Stream fault) = ⊥
LacksRowsAs limit true source bytes (input.Further number fault) = (hides_rows (log_of source) bytes ≡ false) × LacksQueried (selection_of source) bytes (input.Further number fault)
LacksRowsAs limit true source bytes (input.Sql fault) = (hides_rows (log_of source) bytes ≡ false) × LacksAnswer (selection_of source) bytes fault
LacksRowsAs limit true source bytes (input.Database fault) = (hides_rows (log_of source) bytes ≡ false) × LacksStored limit (selection_of source) bytes fault
LacksRowsAs limit true source bytes input.Log = hides_rows (log_of source) bytes ≡ true
LacksRowsAs limit true source bytes (input.Column name) = ⊥
LacksRowsAs limit true source bytes input.Sort = ⊥
LacksRowsAs limit true source bytes input.Totals = ⊥
LacksRowsAs limit true source bytes input.Memory = ⊤

abbrev pub LacksRows : Option ℕ → Source → List ℕ → InputFault → Type 0
LacksRows limit source bytes fault = LacksRowsAs limit (holds_database source bytes) source bytes fault

-- or the input can't be read
abbrev pub LacksInput : Option ℕ → Source → List ℕ → RunFault → Type 0
LacksInput limit source bytes (Input fault) = LacksRows limit source bytes fault
LacksInput limit source bytes (Read fault) = ⊤
LacksInput limit source bytes Closed = ⊥
LacksInput limit source bytes Write = ⊥

-- ---- the rows of all inputs of a request

-- those of the first one, and those of the further ones below them
abbrev pub AreJoined : Request → List ℕ → List (List Text) → Type 0
AreJoined request bytes rows =
    (first : List (List Text)) × AreRows (rows_needed request) request.source bytes first × (further_fault request.view request.further.items first ≡ None)
    × (rows ≡ joined request.view request.further.items first)

-- why there are none: those of the first one lack, or else a further one adds none
abbrev pub LacksJoined : Request → List ℕ → InputFault → Type 0
LacksJoined request bytes fault =
    LacksRows (rows_needed request) request.source bytes fault
    ⊎ ((first : List (List Text)) × AreRows (rows_needed request) request.source bytes first × (further_fault request.view request.further.items first ≡ Some (but_line_in fault)))

-- or the first one can't be read
abbrev pub LacksInputs : Request → List ℕ → RunFault → Type 0
LacksInputs request bytes (Input fault) = LacksJoined request bytes fault
LacksInputs request bytes (Read fault) = ⊤
LacksInputs request bytes Closed = ⊥
LacksInputs request bytes Write = ⊥

-- ---- what is shown of them at once

-- the text is their picture
abbrev pub ShowsAll : Request → List ℕ → Text → Type 0
ShowsAll request bytes text = (rows : List (List Text)) × AreJoined request bytes rows × (table_fault request.view rows ≡ None) × (text ≡ table_text request.view rows)

-- there are no rows, or they have no table
abbrev pub CausedAll : Request → List ℕ → InputFault → Type 0
CausedAll request bytes fault =
    LacksJoined request bytes fault
    ⊎ ((rows : List (List Text)) × AreJoined request bytes rows × (option_map fault_of_view (table_fault request.view rows) ≡ Some fault))

-- what is remarked on rows: how many are padded, how wide the lines of their table are, if that is more than the width that is set, and where a record has others
abbrev pub remarks_on : Request → List (List Text) → Remarks
remarks_on request rows = record { padded = padded_rows request.view rows; wide = table_excess request.view rows; inner = inner_place request.source rows }

abbrev pub RemarksAll : Request → List ℕ → Remarks → Type 0
RemarksAll request bytes remarks = (rows : List (List Text)) × AreJoined request bytes rows × (remarks ≡ remarks_on request rows)

-- ---- a run

-- the text that a run shows
abbrev pub ShowsBy : rows.Rows → Request → List ℕ → Text → Type 0
ShowsBy AtOnce request bytes text = ShowsAll request bytes text
ShowsBy (FromFirst count) request bytes text = StreamsText request count bytes text

abbrev pub Shows : Request → List ℕ → Text → Type 0
Shows request bytes text = ShowsBy request.rows request bytes text

-- what a run remarks on it
abbrev pub RemarksBy : rows.Rows → Request → List ℕ → Remarks → Type 0
RemarksBy AtOnce request bytes remarks = RemarksAll request bytes remarks
RemarksBy (FromFirst count) request bytes remarks = StreamsRemarks request count bytes remarks

abbrev pub AreRemarks : Request → List ℕ → Remarks → Type 0
AreRemarks request bytes remarks = RemarksBy request.rows request bytes remarks

-- at once: a beginning of the picture of the rows is written
abbrev pub IsBegun : Request → List ℕ → Option (List ℕ) → Option (List ℕ) → Type 0
IsBegun request bytes old new = (rows : List (List Text)) × AreJoined request bytes rows × Begins old new (table_text request.view rows)

-- what is wrong is told before anything is written, except that memory may be refused, and a write may fail, while rows are written
abbrev pub CausedAtOnce : Request → List ℕ → RunFault → Option (List ℕ) → Option (List ℕ) → Type 0
CausedAtOnce request bytes (Input fault) old new = (is_memory fault ≡ false → CausedAll request bytes fault × Keeps old new) × (is_memory fault ≡ true → Keeps old new ⊎ IsBegun request bytes old new)
CausedAtOnce request bytes (Read fault) old new = Keeps old new
CausedAtOnce request bytes Closed old new = IsBegun request bytes old new
CausedAtOnce request bytes Write old new = IsBegun request bytes old new

-- why a run ends before, and what it has written
abbrev pub CausedBy : rows.Rows → Request → List ℕ → RunFault → Option (List ℕ) → Option (List ℕ) → Type 0
CausedBy AtOnce request bytes fault old new = CausedAtOnce request bytes fault old new
CausedBy (FromFirst count) request bytes fault old new = StopsStream request count bytes fault old new

abbrev pub Caused : Request → List ℕ → RunFault → Option (List ℕ) → Option (List ℕ) → Type 0
Caused request bytes fault old new = CausedBy request.rows request bytes fault old new

-- ---- inputs that both ways show alike

-- the options that a stream doesn't have are off
pub record ShowsEachRow (options : Options) : Type 0 where
  pub names : options.names.items ≡ []
  pub numbered : options.is_numbered ≡ false
  pub padded : options.is_padded ≡ false
  pub unsorted : options.sort ≡ None
  pub head : options.head ≡ None
  pub tail : options.tail ≡ None
  pub ends : options.ends ≡ None
  pub uncounted : options.is_counting ≡ false
  pub vertical : options.vertical ≡ Never
  pub untinted : colors_fields options ≡ false

-- a table of a database is asked for
abbrev pub AsksTable : Option Selection → Type 0
AsksTable None = ⊥
AsksTable (Some (Query query)) = ⊥
AsksTable (Some (Table name null_text)) = ⊤
AsksTable (Some Tables) = ⊥

module _ (request : Request) (count : ℕ) (bytes : List ℕ) where
  -- no more rows than the first so many; the first bytes show the format that all show, or it is given: else what begins with `{` may be one JSON value, or lines of JSON
  abbrev pub AreFirstAs : Bool → Type 0
  AreFirstAs false =
      (length (rows_in None (members_of request.source) (format_told request.source) bytes) ≤ streamed_count request count bytes)
      × (format_in (format_told request.source) bytes ≡ streamed_format request count bytes)
  AreFirstAs true = (rows : List (List Text)) → AreAsked None request.source bytes rows → length rows ≤ streamed_count request count bytes

  pub record AllAreFirst : Type 0 where
    -- there are no further inputs
    pub alone : request.further.items ≡ []
    pub options : ShowsEachRow request.view
    pub rows : AreFirstAs (holds_database request.source bytes)

  -- neither a database nor one JSON value
  abbrev pub HasFormat : Type 0
  HasFormat = (holds_database request.source bytes ≡ false) × (streamed_format request count bytes ≢ Json)

  -- or a table of a database
  abbrev pub IsStreamable : Type 0
  IsStreamable = HasFormat ⊎ AsksTable (selection_of request.source)

-- ---- the law

-- the text of a stream is the text at once
abbrev pub StreamsShowAsAtOnce : Type 0
StreamsShowAsAtOnce = (request : Request) (count : ℕ) (bytes : List ℕ) (text : Text) → AllAreFirst request count bytes
    → ShowsBy (FromFirst count) request bytes text → ShowsBy AtOnce request bytes text

-- and the text at once is the text of a stream
abbrev pub AtOnceShowsAsStreams : Type 0
AtOnceShowsAsStreams = (request : Request) (count : ℕ) (bytes : List ℕ) (text : Text) → AllAreFirst request count bytes → IsStreamable request count bytes
    → ShowsBy AtOnce request bytes text → ShowsBy (FromFirst count) request bytes text

-- the same is wrong with the rows of a format, or else with their table
abbrev pub BothWaysFindOneFault : Type 0
BothWaysFindOneFault = (request : Request) (count : ℕ) (bytes : List ℕ) (rows : List (List Text)) (wrong : Option InputFault) → AllAreFirst request count bytes → HasFormat request count bytes
    → AreStreamed request count bytes rows wrong
    → (wrong ≡ input_fault None (members_of request.source) (format_told request.source) bytes)
    × (wrong ≡ None → first_wrong request.view (streamed_count request count bytes) rows wrong ≡ option_map of_view (table_fault request.view rows))

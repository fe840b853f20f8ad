-- What is asked of a run.
use Rattle.std.specs.Prelude.{ℕ, ◌-◌, ◌==◌, ◌&&◌, ◌||◌, ◌∷◌, codes, is_some, length, max, nat_eq, not, position, Bool, true, false, List, [], Option, Some, None, option_map, if◌then◌else◌}
use Rattle.std.specs.List.{starts_with}
use Rattle.pg_layout.specs.Text.{Text}
use Rattle.ruled_csv.specs.declared.dialect.RowRules.{RowRules}
use Rattle.ruled_database.specs.Trees.{keeps_log}
use Rattle.ruled_io.specs.Formats as formats
use Rattle.ruled_json.specs.Rows.{Rules, plain_rules, rules_of}
use Rattle.ruled_table.specs.Shown.{limit_of}
use Rattle.ruled_io.specs.declared.formats.Format.{Format}
use Rattle.ruled_io.specs.declared.formats.Format.TheVariants as format
use Rattle.ruled_io.specs.declared.formats.Known.{Known}
use Rattle.ruled_io.specs.declared.formats.Known.TheVariants as known
use Rattle.ruled_io.specs.declared.request.Log.{Log}
use Rattle.ruled_io.specs.declared.request.Log.TheVariants.{Empty, Filled, Unknown}
use Rattle.ruled_io.specs.declared.request.Request.{Request}
use Rattle.ruled_io.specs.declared.request.Selection.{Selection}
use Rattle.ruled_io.specs.declared.request.Source.{Source}
use Rattle.ruled_io.specs.declared.request.Selection.TheVariants.{Query as Select, Table, Tables}
use Rattle.ruled_io.specs.declared.request.Source.TheVariants.{Rows, Members, Values, Seen, Database}

-- what is told of the format of its rows
abbrev pub format_told : Source → Known
format_told (Rows format) = known.Format format
format_told (Members format members) = known.Format format
format_told (Values rules) = known.Values rules
format_told (Seen log rules members) = known.Nothing rules
format_told (Database selection log) = known.Nothing formats.plain

-- the same of its rows, unless they are a database's
abbrev pub known_rows : Source → Option Known
known_rows (Rows format) = Some (known.Format format)
known_rows (Members format members) = Some (known.Format format)
known_rows (Values rules) = Some (known.Values rules)
known_rows (Seen log rules members) = Some (known.Nothing rules)
known_rows (Database selection log) = None

-- how the rows are read, where they are JSON
abbrev pub members_of : Source → Rules
members_of (Rows format) = plain_rules
members_of (Members format members) = rules_of members
members_of (Values rules) = plain_rules
members_of (Seen log rules members) = rules_of members
members_of (Database (Select query) log) = rules_of query.members
members_of (Database (Table name null_text) log) = plain_rules
members_of (Database Tables log) = plain_rules

-- these bytes are a database, where this is known of the format of rows
abbrev pub sees_database : Known → List ℕ → Bool
sees_database (known.Format format) bytes = false
sees_database (known.Values rules) bytes = false
sees_database (known.Nothing rules) bytes = formats.is_database bytes

-- what is known of the rows that a query reads, unless the bytes are a database
abbrev pub known_in : Option Known → List ℕ → Option Known
known_in None bytes = None
known_in (Some told) bytes = if sees_database told bytes then None else Some told

-- it is a database, or asked as one: that is told, or the first bytes show it
abbrev pub holds_database : Source → List ℕ → Bool
holds_database (Rows format) bytes = false
holds_database (Members format members) bytes = false
holds_database (Values rules) bytes = false
holds_database (Seen log rules members) bytes = formats.is_database bytes
holds_database (Database selection log) bytes = true

-- what is asked of a database
abbrev pub selection_of : Source → Option Selection
selection_of (Rows format) = None
selection_of (Members format members) = None
selection_of (Values rules) = None
selection_of (Seen log rules members) = None
selection_of (Database selection log) = Some selection

-- what is known of its logs
abbrev pub log_of : Source → Log
log_of (Rows format) = Empty
log_of (Members format members) = Empty
log_of (Values rules) = Empty
log_of (Seen log rules members) = log
log_of (Database selection log) = log

abbrev pub with_log : Log → Source → Source
with_log log (Rows format) = Rows format
with_log log (Members format members) = Members format members
with_log log (Values rules) = Values rules
with_log log (Seen old rules members) = Seen log rules members
with_log log (Database selection old) = Database selection log

-- which lines of separated values are rows, and how long these may be
abbrev pub ruled_format : RowRules → Format → Format
ruled_format rules (format.Separated dialect) = format.Separated (record dialect { rows = rules })
ruled_format rules format.Json = format.Json
ruled_format rules format.JsonLines = format.JsonLines

abbrev pub with_rules : RowRules → Source → Source
with_rules rules (Rows format) = Rows (ruled_format rules format)
with_rules rules (Members format members) = Members format members
with_rules rules (Values old) = Values rules
with_rules rules (Seen log old members) = Seen log rules members
with_rules rules (Database selection log) = Database selection log

-- its rows may have more or fewer fields than row 0
abbrev pub ragged_format : Format → Bool
ragged_format (format.Separated dialect) = dialect.rows.is_ragged
ragged_format format.Json = false
ragged_format format.JsonLines = false

abbrev pub is_ragged : Source → Bool
is_ragged (Rows format) = ragged_format format
is_ragged (Members format members) = false
is_ragged (Values rules) = rules.is_ragged
is_ragged (Seen log rules members) = rules.is_ragged
is_ragged (Database selection log) = false

-- rows of a database may stand in a log beside its file
abbrev pub hides_rows : Log → List ℕ → Bool
hides_rows Empty bytes = false
hides_rows Filled bytes = true
hides_rows Unknown bytes = formats.is_database bytes && keeps_log bytes

-- so many rows are needed of the first input, if not all, as when they are sorted or others are below them: those that are shown, and row 0, which names the columns, unless names are given
abbrev pub rows_needed : Request → Option ℕ
rows_needed request =
    if not (length request.further.items == 0) || (request.view.is_padded || is_some request.view.sort) then None
    else option_map (λ limit. if length request.view.names.items == 0 then max 1 limit else limit - 1) (limit_of request.view)

-- ---- records within a record

-- its rows may be those of one JSON value, so a member of it may have others
abbrev pub may_be_value : Source → Bool
may_be_value (Rows format.Json) = true
may_be_value (Rows format) = false
may_be_value (Members format.Json members) = true
may_be_value (Members format members) = false
may_be_value (Values rules) = false
may_be_value (Seen log rules members) = true
may_be_value (Database selection log) = false

-- an array of objects, as JSON without spaces
abbrev pub has_records : Text → Bool
has_records text = starts_with nat_eq text (codes "[{")

-- the first place at which a record that is alone below row 0 has such an array
abbrev pub records_place : List (List Text) → Option ℕ
records_place (names ∷ fields ∷ []) = position has_records fields
records_place rows = None

abbrev pub inner_place : Source → List (List Text) → Option ℕ
inner_place source rows = if may_be_value source then records_place rows else None

-- What a query has and `sqlite`, or the database, lacks, and the words for why a query has no rows.
use Rattle.std.specs.Prelude.{ℕ, ◌+◌, ◌-◌, ◌^◌, ◌==◌, ◌&&◌, ◌||◌, not, nat_le, nat_lt, Bool, true, false, List, [], ◌∷◌, length, take, drop, map, min, position, Option, Some, None, codes}
use Rattle.std.specs.Prelude.{is_some, slice_index_or, if◌then◌else◌, ◌++◌, decimal, option_map}
use Rattle.std.specs.Char.{is_ascii_alphanumeric, is_ascii_digit, is_ascii_whitespace}
use Rattle.std.specs.List.{list_any, prefix_len}
use Rattle.std.specs.Option.{option_or}
use Rattle.std.specs.Str.{str_eq_ignore_ascii_case}
use Rattle.sqlite_resolve.specs.declared.error.CompileError.{CompileError}
use Rattle.sqlite_resolve.specs.declared.error.CompileError.TheVariants.{NoSuchColumn, NoSuchFunction, NoSuchTable, Exists, Parse, Unsupported}
use Rattle.sqlite_schema.specs.Names.{column_named, table_named}
use Rattle.sqlite_schema.specs.declared.schema.Schema.{Schema}
use Rattle.ruled_sql.specs.declared.lack.Meaning.{Meaning}
use Rattle.ruled_sql.specs.declared.lack.Meaning.TheVariants.{Table, Column, Function, Other}
use Rattle.ruled_sql.specs.declared.lack.Mode.{Mode}
use Rattle.ruled_sql.specs.declared.lack.Mode.TheVariants as mode
use Rattle.ruled_sql.specs.declared.lack.TheConstants.{ARROW, CALLS, FUNCTIONS, LEADS, LONG_CALLS, OTHERS, ROW, WORDS}
use Rattle.ruled_sql.specs.declared.fault.QueryFault.{QueryFault}
use Rattle.ruled_sql.specs.declared.fault.QueryFault.TheVariants.{Refused, Missing, Limit, Change, Encoding, Memory}
use Rattle.ruled_sql.specs.declared.fault.SqlFault.{SqlFault}
use Rattle.ruled_sql.specs.declared.fault.SqlFault.TheVariants as sql
use Rattle.sqlite.specs.declared.error.Error.TheVariants.{SqlInputError, SqliteFailure}
use Rattle.sqlite.specs.declared.error.ErrorCode.TheVariants.{NoClock}
use Rattle.sqlite_syntax.specs.declared.error.ParseError.TheVariants as parse

-- ---- what is in quotes or a comment

-- a byte of a word: a letter, a digit, `_`, or one beyond ASCII
abbrev pub is_word : ℕ → Bool
is_word b = is_ascii_alphanumeric b || b == 95 || nat_le 128 b

-- how a byte is read that is in no quotes and no comment
abbrev pub begun : ℕ → Mode
begun b =
    if is_word b then mode.Word
    else if b == 34 || b == 39 || b == 96 then mode.Quotes b
    else if b == 91 then mode.Quotes 93
    else if b == 45 then mode.Dash
    else if b == 47 then mode.Slash
    else mode.Between

-- how the next byte is read: a comment is between `--` and the end of the line, or `/*` and `*/`
abbrev pub after : Mode → ℕ → Mode
after mode.Between b = begun b
after mode.Word b = begun b
after (mode.Quotes close) b = if b == close then mode.Between else mode.Quotes close
after mode.Dash b = if b == 45 then mode.Line else begun b
after mode.Line b = if b == 10 then mode.Between else mode.Line
after mode.Slash b = if b == 42 then mode.Comment else begun b
after mode.Comment b = if b == 42 then mode.Star else mode.Comment
after mode.Star b = if b == 42 then mode.Star else if b == 47 then mode.Between else mode.Comment

abbrev pub may_begin : Mode → Bool
may_begin mode.Between = true
may_begin mode.Dash = true
may_begin mode.Slash = true
may_begin _ = false

abbrev pub is_in_word : Mode → Bool
is_in_word mode.Word = true
is_in_word _ = false

-- the next byte is in no quotes and no comment
abbrev pub is_outside : Mode → Bool
is_outside it = may_begin it || is_in_word it

-- ---- words and calls

-- a word, and what it is, or what does the same
abbrev pub Lack : Type 0
Lack = List ℕ × List ℕ

abbrev pub lack_named : List Lack → List ℕ → Option Lack
lack_named [] word = None
lack_named (lack ∷ others) word = if str_eq_ignore_ascii_case lack.0 word then Some lack else lack_named others word

abbrev pub is_among : List (List ℕ) → List ℕ → Bool
is_among [] word = false
is_among (first ∷ others) word = if str_eq_ignore_ascii_case first word then true else is_among others word

-- the word that a text begins with, and the text behind it and behind blanks
abbrev pub word_to : Option ℕ → List ℕ → List ℕ
word_to None text = text
word_to (Some end) text = take end text

abbrev pub word_of : List ℕ → List ℕ
word_of text = word_to (position (λ b. not (is_word b)) text) text

abbrev pub without_blanks : List ℕ → List ℕ
without_blanks text = drop (prefix_len is_ascii_whitespace text) text

abbrev pub behind_to : Option ℕ → List ℕ → List ℕ
behind_to None text = []
behind_to (Some end) text = without_blanks (drop end text)

abbrev pub behind_word : List ℕ → List ℕ
behind_word text = behind_to (position (λ b. not (is_word b)) text) text

-- the parentheses that a text begins with have a comma, outside of inner ones
abbrev pub depth_after : ℕ → ℕ → ℕ
depth_after depth b = if b == 40 then min (depth + 1) (2 ^ 64 - 1) else if b == 41 then depth - 1 else depth

abbrev pub has_comma_in : Mode → ℕ → List ℕ → Bool
has_comma_in mode depth [] = false
has_comma_in mode depth (b ∷ bs) =
    if not (is_outside mode) then has_comma_in (after mode b) depth bs
    else if b == 44 && depth == 1 then true
    else if b == 41 && nat_le depth 1 then false
    else has_comma_in (after mode b) (depth_after depth b) bs

abbrev pub has_comma : List ℕ → Bool
has_comma text = has_comma_in mode.Between 0 text

abbrev pub is_call : List ℕ → Bool
is_call behind = not (length behind == 0) && (slice_index_or behind 0 0 == 40)

-- what `sqlite` lacks of a call of this word with a second argument: values in parentheses are those of a row, unless they are a query
abbrev pub is_query : List ℕ → Bool
is_query behind = str_eq_ignore_ascii_case (codes "select") (word_of (without_blanks (drop 1 behind)))

abbrev pub lack_long : List ℕ → List ℕ → Option Lack
lack_long word behind =
    option_or (lack_named (map (λ it. (it.0.now, it.1.now)) LONG_CALLS) word)
    (if is_among (map (λ it. it.now) LEADS) word && not (is_query behind) then Some (ROW.0.now, ROW.1.now) else None)

-- of a call of this word, and of the operator or the word that a text begins with: `->` and `->>` have a `>` behind a `-`
unfoldable pub lack_called : List ℕ → List ℕ → Option Lack
lack_called word behind = option_or (lack_named (map (λ it. (it.0.now, it.1.now)) CALLS) word) (if has_comma behind then lack_long word behind else None)

unfoldable pub is_arrow : Mode → ℕ → Bool
is_arrow mode.Dash b = b == 62
is_arrow _ b = false

unfoldable pub lack_at : Mode → ℕ → List ℕ → Option Lack
lack_at mode b text =
    if is_arrow mode b then Some (ARROW.0.now, ARROW.1.now)
    else option_or (lack_named (map (λ it. (it.0.now, it.1.now)) WORDS) (word_of text)) (if is_call (behind_word text) then lack_called (word_of text) (behind_word text) else None)

-- of the first of them in a statement, outside of quotes and comments
abbrev pub lack_from : Mode → List ℕ → Option Lack
lack_from mode [] = None
lack_from mode (b ∷ bs) = option_or (if may_begin mode then lack_at mode b (b ∷ bs) else None) (lack_from (after mode b) bs)

unfoldable pub lack_in : List ℕ → Option Lack
lack_in statement = lack_from mode.Between statement

-- ---- names of tables, columns and functions that there aren't

-- a table or a column has this name; or a view may have it, whose columns aren't known
abbrev pub is_known : Schema → List ℕ → Bool
is_known schema name =
    if nat_lt 0 (length schema.views) then true
    else if is_some (table_named schema name) then true
    else list_any (λ table. is_some (column_named table name)) schema.tables

-- a word means a table behind `from` and `join`, and a column behind a word that is before values, unless that is itself a name
abbrev pub meaning_behind : Schema → List ℕ → Meaning
meaning_behind schema word =
    if is_among (codes "from" ∷ codes "join" ∷ []) word then Table
    else if is_among (map (λ it. it.now) LEADS) word && not (is_known schema word) then Column
    else Other

-- it means a column behind any sign but `)`, the quotation marks and the marks of a parameter, behind which there is no value
abbrev pub meaning_beyond : ℕ → Meaning
meaning_beyond b = if b == 41 || b == 34 || b == 39 || b == 96 || b == 91 || b == 36 || b == 58 || b == 63 || b == 64 then Other else Column

-- what a word means behind the first byte of a text, by what it means in front of it
unfoldable pub meaning_after : Schema → Meaning → Mode → ℕ → List ℕ → Meaning
meaning_after schema meaning mode b text =
    if not (is_outside mode) || is_ascii_whitespace b then meaning
    else if not (is_word b) then meaning_beyond b
    else if may_begin mode then meaning_behind schema (word_of text)
    else meaning

-- a word that means neither a table nor a column may give a name, as `total` in `sum(price) total`; names in a comment, in quotes behind a value, or of a query with `with` aren't searched
abbrev pub is_comment : Mode → Bool
is_comment mode.Line = true
is_comment mode.Comment = true
is_comment mode.Star = true
is_comment _ = false

abbrev pub is_other : Meaning → Bool
is_other Other = true
is_other _ = false

abbrev pub may_give : Meaning → List ℕ → List ℕ → Bool
may_give meaning word name = (is_other meaning && str_eq_ignore_ascii_case word name) || str_eq_ignore_ascii_case word (codes "with")

abbrev pub is_quotation : ℕ → Bool
is_quotation b = b == 34 || b == 39 || b == 96 || b == 91

abbrev pub hides_name : Meaning → Mode → ℕ → Bool
hides_name meaning mode b = if is_comment mode then true else is_other meaning && (is_outside mode && is_quotation b)

unfoldable pub gives_at : Meaning → Mode → ℕ → List ℕ → List ℕ → Bool
gives_at meaning mode b text name =
    if hides_name meaning mode b then true
    else if not (may_begin mode) then false
    else may_give meaning (word_of text) name

-- a word of a query may give this name
abbrev pub gives_from : Schema → Mode → Meaning → List ℕ → List ℕ → Bool
gives_from schema mode meaning [] name = false
gives_from schema mode meaning (b ∷ bs) name =
    if gives_at meaning mode b (b ∷ bs) name then true
    else gives_from schema (after mode b) (meaning_after schema meaning mode b (b ∷ bs)) bs name

unfoldable pub gives : Schema → List ℕ → List ℕ → Bool
gives schema query name = gives_from schema mode.Between Other query name

-- a byte behind a word says that it is no name of a table or a column: it is one of a call, in front of a point, or of bytes
abbrev pub says_otherwise : ℕ → Bool
says_otherwise next = next == 40 || next == 46 || next == 39 || next == 36

-- a name of what is wanted may have this text behind it
unfoldable pub may_follow : Meaning → List ℕ → Bool
may_follow Function behind = is_call behind
may_follow _ behind = not (says_otherwise (slice_index_or behind 0 0))

-- a text begins with a word that may be one of what is wanted
abbrev pub begins_name : Meaning → ℕ → List ℕ → Bool
begins_name wanted b text =
    if not (is_word b) || is_ascii_digit b then false
    else if is_among (map (λ it. it.now) LEADS) (word_of text) then false
    else if is_among (map (λ it. it.now) OTHERS) (word_of text) then false
    else may_follow wanted (behind_word text)

-- a function is called where a column may be
abbrev pub is_meant : Meaning → Meaning → Bool
is_meant Table Table = true
is_meant Column Column = true
is_meant Column Function = true
is_meant _ _ = false

unfoldable pub may_name : Meaning → Meaning → Mode → ℕ → List ℕ → Bool
may_name meaning wanted mode b text = may_begin mode && (is_meant meaning wanted && begins_name wanted b text)

-- what is wanted has this name: a function of `sqlite`, or one of a query with `with`; or the database has it, or its table, or the query gives it
abbrev pub is_taken : Schema → List ℕ → List ℕ → Meaning → List ℕ → Bool
is_taken schema table query Function name = is_among (map (λ it. it.now) FUNCTIONS) name || gives schema query (codes "with")
is_taken schema table query _ name = is_known schema name || (str_eq_ignore_ascii_case name table || gives schema query name)

-- how many bytes are left of a text that begins with a name that isn't taken
unfoldable pub stray_at : Schema → List ℕ → List ℕ → Meaning → List ℕ → Option ℕ
stray_at schema table query wanted text = if is_taken schema table query wanted (word_of text) then None else Some (length text)

-- of the first such name of a query that is one of what is wanted
abbrev pub stray_from : Schema → List ℕ → List ℕ → Meaning → Mode → Meaning → List ℕ → Option ℕ
stray_from schema table query wanted mode meaning [] = None
stray_from schema table query wanted mode meaning (b ∷ bs) =
    option_or (if may_name meaning wanted mode b (b ∷ bs) then stray_at schema table query wanted (b ∷ bs) else None)
    (stray_from schema table query wanted (after mode b) (meaning_after schema meaning mode b (b ∷ bs)) bs)

unfoldable pub stray_in : Schema → List ℕ → List ℕ → Meaning → Option ℕ
stray_in schema table query wanted = stray_from schema table query wanted mode.Between Other query

-- what is missing by an error
abbrev pub missing_by : CompileError → Meaning
missing_by NoSuchTable = Table
missing_by NoSuchColumn = Column
missing_by NoSuchFunction = Function
missing_by _ = Other

-- what an error of `sqlite` writes isn't known
abbrev pub query_fault_text : QueryFault → Option (List ℕ)
query_fault_text (Refused error) = None
query_fault_text (Missing Table left) = Some (codes "no such table")
query_fault_text (Missing Function left) = Some (codes "no such function")
query_fault_text (Missing _ left) = Some (codes "no such column")
query_fault_text (Limit steps) = Some (codes "the query takes more than " ++ (decimal steps ++ codes " steps; see --limit-steps"))
query_fault_text Change = Some (codes "the query changes the database")
query_fault_text (Encoding row) = Some (codes "row " ++ (decimal row ++ codes ": not UTF-8"))
query_fault_text Memory = Some (codes "out of memory")

abbrev pub sql_fault_text : SqlFault → Option (List ℕ)
sql_fault_text sql.Database = Some (codes "not an SQLite database, or it is encrypted or of an unsupported kind")
sql_fault_text sql.Damage = Some (codes "a query can't read this database, but --table may")
sql_fault_text (sql.NoRows table) = Some (codes "there is no row 0, so there is no table")
sql_fault_text (sql.Columns table (SqlInputError Exists)) = Some (codes "two columns have one name, whose case doesn't count")
sql_fault_text (sql.Columns table error) = None
sql_fault_text (sql.NoTable left) = Some (codes "no such table")
sql_fault_text (sql.Query fault) = query_fault_text fault
sql_fault_text sql.Memory = Some (codes "out of memory")

-- ---- queries that are refused

-- how many bytes of a statement are left from the word on that no rule reads, or that names what there isn't
abbrev pub left_in : SqlFault → Option ℕ
left_in (sql.Query (Refused (SqlInputError (Parse (parse.Syntax left))))) = Some left
left_in (sql.Query (Refused (SqlInputError (Parse (parse.Unsupported left))))) = Some left
left_in (sql.Query (Missing what left)) = Some left
left_in (sql.NoTable left) = left
left_in fault = None

abbrev pub may_lack : SqlFault → Bool
may_lack (sql.Query (Refused (SqlInputError (Parse (parse.Syntax left))))) = true
may_lack (sql.Query (Refused (SqlInputError (Parse (parse.Unsupported left))))) = true
may_lack (sql.Query (Refused (SqlInputError NoSuchFunction))) = true
may_lack (sql.Query (Refused (SqliteFailure NoClock))) = true
may_lack (sql.Query (Missing Function left)) = true
may_lack (sql.Query (Refused (SqlInputError Unsupported))) = true
may_lack fault = false

-- what `sqlite` lacks of the query, where a word or a call isn't known
abbrev pub lack_of : SqlFault → List ℕ → Option Lack
lack_of fault query = if may_lack fault then lack_in query else None

abbrev pub left_of : SqlFault → List ℕ → Option ℕ
left_of fault query = if is_some (lack_of fault query) then None else left_in fault

abbrev pub lack_text : Lack → List ℕ
lack_text lack = codes "not supported: " ++ (lack.0 ++ (codes " (" ++ (lack.1 ++ codes ")")))

abbrev pub misread_text : SqlFault → Option (List ℕ)
misread_text (sql.Query (Refused (SqlInputError (Parse (parse.Syntax left))))) = Some (codes "syntax error")
misread_text (sql.Query (Refused (SqlInputError (Parse (parse.Unsupported left))))) = Some (codes "not supported")
misread_text (sql.Query (Refused (SqlInputError Unsupported))) = Some (codes "something in the query isn't supported")
misread_text fault = sql_fault_text fault

abbrev pub refusal_text : SqlFault → List ℕ → Option (List ℕ)
refusal_text fault query = option_or (option_map lack_text (lack_of fault query)) (misread_text fault)

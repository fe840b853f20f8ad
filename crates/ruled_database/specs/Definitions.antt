-- The tokens of a statement of SQL, the parts that commas separate within its parentheses, and the columns that a statement CREATE TABLE declares.
use Rattle.std.specs.Prelude.{ℕ, ◌+◌, ◌-◌, ◌^◌, ◌==◌, ◌&&◌, ◌||◌, not, min, nat_le, Bool, true, false, List, [], ◌∷◌, ◌++◌, bytes_eq, if◌then◌else◌, codes, length, map, take, pos, Option}
use Rattle.std.specs.Prelude.{Some, None}
use Rattle.std.specs.Char.{is_ascii_alphanumeric, is_ascii_whitespace}
use Rattle.std.specs.Str.{str_eq_ignore_ascii_case}
use Rattle.ruled_database.specs.declared.token.Form.{Form}
use Rattle.ruled_database.specs.declared.token.Form.TheVariants as form
use Rattle.ruled_database.specs.declared.token.Mode.{Mode}
use Rattle.ruled_database.specs.declared.token.Mode.TheVariants as mode
use Rattle.ruled_database.specs.declared.token.Statement.{Statement}
use Rattle.ruled_database.specs.declared.token.Token.{Token}
use Rattle.std.specs.Option.{option_map_or}
use Rattle.sqlite_format.specs.declared.kind.Tree.{Tree}
use Rattle.sqlite_format.specs.declared.kind.Tree.TheVariants.{Table, Index}
use Rattle.sqlite_sql.specs.Numeral.{is_numeral, number_at_front, real_at_front}
use Rattle.sqlite_value.specs.declared.value.Value.{Value}
use Rattle.sqlite_value.specs.declared.value.Value.TheVariants.{Null, Int, Real, Text, Blob}
use Rattle.ruled_database.specs.declared.definition.Definition.{Definition}
use Rattle.ruled_database.specs.declared.definition.Kind.{Kind}
use Rattle.ruled_database.specs.declared.definition.Shown.{Shown}
use Rattle.ruled_database.specs.declared.definition.Shown.TheVariants.{Values, Reals, Rowids}
use Rattle.ruled_database.specs.declared.definition.TheConstants.{RULES, TABLE_RULES}
use Rattle.ruled_database.specs.declared.token.Form.TheVariants.{Word, Quoted, Sign}

-- a byte of a word or a number: a letter, a digit, one of `_`, `$` and `.`, or one beyond ASCII
abbrev pub is_word : ℕ → Bool
is_word b = is_ascii_alphanumeric b || b == 95 || b == 36 || b == 46 || nat_le 128 b

abbrev pub has_word : Form → Bool
has_word form.Word = true
has_word form.Quoted = false
has_word form.Sign = false

abbrev pub has_sign : Form → Bool
has_sign form.Word = false
has_sign form.Quoted = false
has_sign form.Sign = true

-- the token is this word, in any case
abbrev pub says : List ℕ → Token → Bool
says word it = has_word it.form && str_eq_ignore_ascii_case it.text word

abbrev pub is_sign : ℕ → Token → Bool
is_sign sign it = has_sign it.form && bytes_eq it.text (sign ∷ [])

-- ---- a byte more of a statement

-- a token ends: outside of all parentheses, or within a part
unfoldable pub with_token : Form → Statement → Statement
with_token form it =
    let token : Token = record { form = form; depth = it.depth; text = it.word } in
    if it.depth == 0 then record it { word = []; outside = it.outside ++ token ∷ [] } else record it { word = []; part = it.part ++ token ∷ [] }

-- a part ends
abbrev pub with_ended_part : Statement → Statement
with_ended_part it = record it { part = []; parts = it.parts ++ it.part ∷ [] }

abbrev pub with_byte : ℕ → Statement → Statement
with_byte b it = record it { word = it.word ++ b ∷ [] }

unfoldable pub with_sign : ℕ → Statement → Statement
with_sign b it = with_token form.Sign (with_byte b it)

abbrev pub in_mode : Mode → Statement → Statement
in_mode mode it = record it { mode = mode }

abbrev pub at_depth : ℕ → Statement → Statement
at_depth depth it = record it { depth = depth }

abbrev pub deeper : Statement → Statement
deeper it = at_depth (min (it.depth + 1) (2 ^ 64 - 1)) it

-- a parenthesis, a comma that ends a part, or another sign
unfoldable pub after_sign : ℕ → Statement → Statement
after_sign b it =
    if b == 40 then deeper (with_sign b it)
    else if b == 41 then (if nat_le it.depth 1 then with_ended_part (at_depth 0 it) else with_sign b (at_depth (it.depth - 1) it))
    else if b == 44 && it.depth == 1 then with_ended_part it
    else with_sign b it

-- what a byte begins
unfoldable pub begun_token : ℕ → Statement → Statement
begun_token b it =
    if is_word b then with_byte b (in_mode mode.Word it)
    else if b == 34 || b == 39 || b == 96 then in_mode (mode.Open b) it
    else if b == 91 then in_mode (mode.Open 93) it
    else if b == 45 then in_mode mode.Dash it
    else if b == 47 then in_mode mode.Slash it
    else if is_ascii_whitespace b then in_mode mode.Between it
    else after_sign b (in_mode mode.Between it)

-- quotes close by their last byte, unless it comes twice; a comment is between `--` and the end of the line, or `/*` and `*/`
abbrev pub step_in : Mode → Statement → ℕ → Statement
step_in mode.Between it b = begun_token b it
step_in mode.Word it b = if is_word b then with_byte b it else begun_token b (with_token form.Word it)
step_in (mode.Open close) it b = if b == close then in_mode (mode.Closed close) it else with_byte b it
step_in (mode.Closed close) it b = if b == close && not (close == 93) then with_byte b (in_mode (mode.Open close) it) else begun_token b (with_token form.Quoted it)
step_in mode.Dash it b = if b == 45 then in_mode mode.Line it else begun_token b (with_sign 45 it)
step_in mode.Line it b = if b == 10 then in_mode mode.Between it else it
step_in mode.Slash it b = if b == 42 then in_mode mode.Comment it else begun_token b (with_sign 47 it)
step_in mode.Comment it b = if b == 42 then in_mode mode.Star it else it
step_in mode.Star it b = if b == 42 then in_mode mode.Star it else if b == 47 then in_mode mode.Between it else in_mode mode.Comment it

unfoldable pub step : Statement → ℕ → Statement
step it b = step_in it.mode it b

-- ---- all of it

abbrev pub read_from : Statement → List ℕ → Statement
read_from it [] = it
read_from it (b ∷ bs) = read_from (step it b) bs

-- the parts of a statement, and its tokens outside of parentheses; a blank ends the last token
unfoldable pub read : List ℕ → Statement
read text = step (read_from (record { mode = mode.Between; depth = 0; word = []; part = []; parts = []; outside = [] }) text) 32

-- ---- the tokens of a part

-- a token of a part is this word, outside of inner parentheses
abbrev pub is : List ℕ → Token → Bool
is word it = it.depth == 1 && says word it

abbrev pub is_any : List (List ℕ) → Token → Bool
is_any [] it = false
is_any (word ∷ words) it = if is word it then true else is_any words it

-- the tokens behind the first one that is this word
abbrev pub after : List ℕ → List Token → Option (List Token)
after word [] = None
after word (it ∷ rest) = if is word it then Some rest else after word rest

-- a rule of the table, or nothing: a part that declares no column
abbrev pub is_rule : List Token → Bool
is_rule [] = true
is_rule (first ∷ rest) = is_any (map (λ word. word.now) TABLE_RULES) first

-- ---- types

-- the texts of the tokens of a type, each with a blank behind it: all tokens up to one that begins a rule
abbrev pub type_of : List Token → List ℕ
type_of [] = []
type_of (it ∷ rest) = if is_any (map (λ word. word.now) RULES) it then [] else it.text ++ 32 ∷ type_of rest

-- a text has this part, in any case
abbrev pub begins_with : List ℕ → List ℕ → Bool
begins_with part text = nat_le (length part) (length text) && str_eq_ignore_ascii_case (take (length part) text) part

abbrev pub has_part : List ℕ → List ℕ → Bool
has_part part [] = false
has_part part (b ∷ bs) = if begins_with part (b ∷ bs) then true else has_part part bs

unfoldable pub names_text : List ℕ → Bool
names_text text = has_part (codes "char") text || has_part (codes "clob") text || has_part (codes "text") text

unfoldable pub names_blob : List ℕ → Bool
names_blob text = length text == 0 || has_part (codes "blob") text

unfoldable pub names_real : List ℕ → Bool
names_real text = has_part (codes "real") text || has_part (codes "floa") text || has_part (codes "doub") text

abbrev pub is_integral : List ℕ → Bool
is_integral text = has_part (codes "int") text

-- ANY is a type of its own in a strict table alone
unfoldable pub names_any : Bool → List ℕ → Bool
names_any strict text = strict && str_eq_ignore_ascii_case text (codes "any ")

-- a type that names INT is one of integers, one that names a text or bytes keeps texts, and another may be one of floats
abbrev pub keeps_texts : Bool → List ℕ → Bool
keeps_texts strict text = not (is_integral text) && (names_text text || names_blob text || names_any strict text)

unfoldable pub kind_of : Bool → List ℕ → Kind
kind_of strict text = record {
  real = not (is_integral text) && not (keeps_texts strict text) && names_real text;
  keeps_texts = keeps_texts strict text;
  integer = str_eq_ignore_ascii_case text (codes "integer ");
}

-- ---- defaults

abbrev pub if_integer : Value → Option Value
if_integer Null = None
if_integer (Int n) = Some (Int n)
if_integer (Real x) = None
if_integer (Text text) = None
if_integer (Blob bytes) = None

-- a number is a float in a column of floats; in another one only an integer is understood
unfoldable pub number_of : Kind → List ℕ → Option Value
number_of kind text = if not (is_numeral text) then None else if kind.real then Some (Real (real_at_front text)) else if_integer (number_at_front text)

unfoldable pub word_value : Kind → Token → Option Value
word_value kind it =
    if says (codes "null") it then Some Null
    else if says (codes "true") it then Some (Int (pos 1))
    else if says (codes "false") it then Some (Int (pos 0))
    else number_of kind it.text

-- a text that is a number is one in a column of numbers
abbrev pub value_in : Form → Kind → Token → Option Value
value_in Word kind it = word_value kind it
value_in Quoted kind it = if kind.keeps_texts || not (is_numeral it.text) then Some (Text it.text) else number_of kind it.text
value_in Sign kind it = None

unfoldable pub literal_value : Kind → Token → Option Value
literal_value kind it = value_in it.form kind it

-- a literal ends before these tokens, so it is no part of a longer term
abbrev pub ends : List Token → Bool
ends [] = true
ends (it ∷ rest) = has_word it.form || is_sign 41 it

unfoldable pub negative_value : Kind → List Token → Option Value
negative_value kind [] = None
negative_value kind (it ∷ rest) = if has_word it.form && ends rest then number_of kind (45 ∷ it.text) else None

-- the value of a literal, which may be in parentheses and behind a sign
abbrev pub value_of : Kind → List Token → Option Value
value_of kind [] = None
value_of kind (it ∷ rest) =
    if is_sign 45 it then negative_value kind rest
    else if is_sign 40 it || is_sign 43 it then value_of kind rest
    else if ends rest then literal_value kind it
    else None

abbrev pub default_by : Kind → Option (List Token) → Option Value
default_by kind None = Some Null
default_by kind (Some tokens) = value_of kind tokens

unfoldable pub default_of : Kind → List Token → Option Value
default_of kind rules = default_by kind (after (codes "default") rules)

-- ---- keys

-- the names in a list: one at the beginning, and one behind each comma, up to the parenthesis that closes
abbrev pub names_from : Bool → List Token → List (List ℕ)
names_from first [] = []
names_from first (it ∷ rest) =
    if it.depth == 1 then []
    else if first && not (has_sign it.form) then it.text ∷ names_from false rest
    else names_from (first || it.depth == 2 && is_sign 44 it) rest

-- those behind KEY and the parenthesis that opens
abbrev pub listed_names : List Token → List (List ℕ)
listed_names [] = []
listed_names (key ∷ []) = []
listed_names (key ∷ (bracket ∷ names)) = names_from true names

-- that of a column
abbrev pub first_name : List Token → List (List ℕ)
first_name [] = []
first_name (name ∷ rules) = name.text ∷ []

-- the columns that a part makes the key: those that a rule of the table lists, or the one that it declares
unfoldable pub key_in : List Token → List (List ℕ)
key_in part = option_map_or (λ rest. if is_rule part then listed_names rest else first_name part) (after (codes "primary") part) []

abbrev pub key_of : List (List Token) → List (List ℕ)
key_of [] = []
key_of (part ∷ parts) = key_in part ++ key_of parts

-- the place of a name among others, in any case, where that of the first one is given
abbrev pub place_from : ℕ → List (List ℕ) → List ℕ → Option ℕ
place_from place [] name = None
place_from place (first ∷ rest) name = if str_eq_ignore_ascii_case first name then Some place else place_from (place + 1) rest name

abbrev pub has_name : List (List ℕ) → List ℕ → Bool
has_name names name = option_map_or (λ place. true) (place_from 0 names name) false

abbrev pub with_name : List (List ℕ) → List ℕ → List (List ℕ)
with_name names name = if has_name names name then names else names ++ name ∷ []

-- names, and behind them others that they lack
abbrev pub distinct : List (List ℕ) → List (List ℕ) → List (List ℕ)
distinct before [] = before
distinct before (name ∷ names) = distinct (with_name before name) names

abbrev pub is_descending : List Token → Bool
is_descending [] = false
is_descending (key ∷ []) = false
is_descending (key ∷ (order ∷ rest)) = is (codes "desc") order

-- PRIMARY KEY DESC
unfoldable pub is_descending_key : List Token → Bool
is_descending_key rules = option_map_or is_descending (after (codes "primary") rules) false

-- ---- columns

abbrev pub shown_of : Kind → Bool → Shown
shown_of kind is_rowid = if is_rowid then Rowids else if kind.real then Reals else Values

abbrev pub has : List ℕ → List Token → Bool
has word tokens = option_map_or (λ rest. true) (after word tokens) false

-- a column AS an expression, which isn't STORED
unfoldable pub is_computed : List Token → Bool
is_computed rules = option_map_or (λ rest. not (has (codes "stored") rest)) (after (codes "as") rules) false

abbrev pub with_column : List ℕ → Shown → ℕ → Definition → Definition
with_column name shown place it = record it { columns = it.columns ++ record { name = name; shown = shown; place = place } ∷ [] }

abbrev pub with_default : Option Value → Definition → Definition
with_default None it = record it { defaults = it.defaults ++ Null ∷ []; least = length it.defaults + 1 }
with_default (Some value) it = record it { defaults = it.defaults ++ value ∷ [] }

-- a record begins with the columns of a key, in its order, and the others follow in that of the statement
abbrev pub placed : Option ℕ → List ℕ → Shown → Option Value → Definition → Definition
placed (Some place) name shown value it = with_column name shown place it
placed None name shown value it = with_default value (with_column name shown (length it.defaults) it)

abbrev pub with_computed : Bool → Definition → Definition
with_computed computed it = record it { computed = it.computed || computed }

-- an INTEGER that is the only column of the key, and not by its own rule in descending order
abbrev pub is_rowid : Kind → List (List ℕ) → List ℕ → List Token → Bool
is_rowid kind key name rules = kind.integer && length key == 1 && has_name key name && not (is_descending_key rules)

-- a column more: `rowid` is the key of a table with rowids, and `first` that of a table without them
unfoldable pub declared : List (List ℕ) → List (List ℕ) → Token → List Token → Definition → Definition
declared rowid first name rules it =
    let kind = kind_of it.strict (type_of rules) in
    placed (place_from 0 first name.text) name.text (shown_of kind (is_rowid kind rowid name.text rules)) (default_of kind rules) (with_computed (is_computed rules) it)

abbrev pub with_part : List (List ℕ) → List (List ℕ) → Definition → List Token → Definition
with_part rowid first it [] = it
with_part rowid first it (name ∷ rules) = if is_rule (name ∷ rules) then it else declared rowid first name rules it

abbrev pub with_parts : List (List ℕ) → List (List ℕ) → Definition → List (List Token) → Definition
with_parts rowid first it [] = it
with_parts rowid first it (part ∷ parts) = with_parts rowid first (with_part rowid first it part) parts

-- ---- tables

abbrev pub says_any : List ℕ → List Token → Bool
says_any word [] = false
says_any word (it ∷ rest) = if says word it then true else says_any word rest

-- a word of an option, as WITHOUT ROWID or STRICT, behind CREATE TABLE and a name
abbrev pub has_option : List ℕ → List Token → Bool
has_option word [] = false
has_option word (create ∷ []) = false
has_option word (create ∷ (table ∷ [])) = false
has_option word (create ∷ (table ∷ (name ∷ rest))) = says_any word rest

-- a table without columns as yet, whose records begin with these
abbrev pub begun : Bool → Tree → List (List ℕ) → Definition
begun strict tree first =
    record { strict = strict; columns = []; defaults = map (λ name. Null) first; least = length first; computed = false; tree = tree; known = true; null = [] }

-- there is a key, and a record has a value for each column and no other one
abbrev pub with_known : List (List ℕ) → Definition → Definition
with_known first it = record it { known = not (length first == 0) && length it.columns == length it.defaults }

-- the columns of a key, each once, unless it may name one in two collations, which a record has twice
abbrev pub first_of : List ℕ → List (List ℕ) → List (List ℕ)
first_of statement key = if has_part (codes "collate") statement then key else distinct [] key

-- a table without rowids
abbrev pub keyed_definition : Bool → List (List ℕ) → List (List Token) → Definition
keyed_definition strict first parts = with_known first (with_parts [] first (begun strict Index first) parts)

-- a table with rowids, which may be this key
abbrev pub rowid_definition : Bool → List (List ℕ) → List (List Token) → Definition
rowid_definition strict key parts = with_parts key [] (begun strict Table []) parts

-- the columns of a statement, in its order
unfoldable pub definition_of : List ℕ → Definition
definition_of statement =
    let parts = (read statement).parts in
    let options = (read statement).outside in
    let strict = has_option (codes "strict") options in
    let key = key_of parts in
    if has_option (codes "without") options then keyed_definition strict (first_of statement key) parts else rowid_definition strict key parts

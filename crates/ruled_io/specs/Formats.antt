-- The format of bytes, by its name or by what they show.
use Rattle.std.specs.Prelude.{ℕ, ◌==◌, ◌&&◌, ◌||◌, ◌++◌, ◌∷◌, [], not, codes, bytes_eq, nat_eq, nat_lt, List, drop, find, get_or, length, take, position, false, true, Bool, Option, Some, None, is_some, unwrap_or, if◌then◌else◌, ◌+◌, ◌-◌, ◌*◌, ◌<◌, ◌≤◌, ◌≡◌, nat_le, encode_utf8, encode_utf8_all, map, ⊤, IsSomeAnd, option_map, slice_range}
use Rattle.std.specs.List.{count_by, starts_with}
use Rattle.std.specs.Option.{option_map_or, some_prefix}
use Rattle.csv.specs.Reading.{strip_bom}
use Rattle.json.specs.Word.{is_space}
use Rattle.ruled_csv.specs.Kept.{from_first_row}
use Rattle.ruled_csv.specs.Quotes.{is_quote}
use Rattle.ruled_csv.specs.declared.dialect.Fields.TheVariants as fields
use Rattle.ruled_csv.specs.declared.dialect.RowRules.{RowRules}
use Rattle.ruled_json.specs.Faults.{is_value}
use Rattle.ruled_io.specs.declared.formats.Format.{Format}
use Rattle.ruled_io.specs.declared.formats.Format.TheVariants.{Separated, Json, JsonLines}
use Rattle.ruled_io.specs.declared.formats.Kind.{Kind}
use Rattle.ruled_io.specs.declared.formats.Known.{Known}
use Rattle.ruled_io.specs.declared.formats.Known.TheVariants as known
use Rattle.ruled_io.specs.declared.formats.Kind.TheVariants.{Rows, Database}
use Rattle.std.specs.Char.Utf16.{has_unpaired_surrogate, utf16_chars}
use Rattle.ruled_io.specs.declared.encoding.Encoding.{Encoding}
use Rattle.ruled_io.specs.declared.encoding.Encoding.TheVariants as asked
use Rattle.ruled_io.specs.declared.encoding.First.{First}
use Rattle.ruled_io.specs.declared.encoding.First.TheVariants.{Char, Part, Nothing}
use Rattle.ruled_io.specs.declared.encoding.Order.{Order}
use Rattle.ruled_io.specs.declared.encoding.Order.TheVariants.{Big, Little}
use Rattle.ruled_io.specs.declared.encoding.Scheme.{Scheme}
use Rattle.ruled_io.specs.declared.encoding.Scheme.TheVariants.{Latin1, Cp1252, Utf16}
use Rattle.std.specs.Io.KnownBytes.{prepend_known}
use Rattle.ruled_io.specs.declared.decoded.Decoded.{Decoded}
use Rattle.ruled_io.specs.declared.window.Window.{Window}

-- ---- names

-- fields with this byte between two of them, in rows as these rules say
abbrev pub separated : ℕ → RowRules → Format
separated delimiter rules = Separated (record { delimiter = delimiter; rows = rules })

-- each line that isn't empty is in a row, rows have one length, and fields may be in quotes
abbrev pub plain : RowRules
plain = record { is_ragged = false; fields = fields.Quoted; skipped = 0; comment = None }

abbrev pub kind_named : List ℕ → Option Kind
kind_named name =
    if bytes_eq name (codes "csv") then Some (Rows (separated 44 plain))
    else if bytes_eq name (codes "tsv") || bytes_eq name (codes "tab") then Some (Rows (separated 9 plain))
    else if bytes_eq name (codes "json") then Some (Rows Json)
    else if bytes_eq name (codes "jsonl") || bytes_eq name (codes "ndjson") then Some (Rows JsonLines)
    else if bytes_eq name (codes "sqlite") || bytes_eq name (codes "sqlite3") || bytes_eq name (codes "db") then Some Database
    else None

-- ---- lines

-- the first byte that is no space, tab, line feed or carriage return
abbrev pub first_sign : List ℕ → Option ℕ
first_sign bytes = find (λ byte. not (is_space byte)) bytes

-- a line ends at a line feed or a carriage return
abbrev pub ends_line : ℕ → Bool
ends_line byte = (byte == 10) || (byte == 13)

-- what comes before the first such byte
abbrev pub first_line : List ℕ → List ℕ
first_line bytes = option_map_or (λ end. take end bytes) (position ends_line bytes) bytes

-- ---- the delimiter

-- the bytes of a line outside quotes, where its front is in quotes or not
abbrev pub outside : RowRules → Bool → List ℕ → List ℕ
outside rules is_quoted [] = []
outside rules is_quoted (byte ∷ line) =
    if is_quote rules.fields byte then outside rules (not is_quoted) line
    else if is_quoted then outside rules is_quoted line
    else byte ∷ outside rules is_quoted line

-- how often a line has a byte outside quotes
abbrev pub count_of : RowRules → List ℕ → ℕ → ℕ
count_of rules line byte = count_by (λ other. other == byte) (outside rules false line)

-- which of two bytes a line has more often; if equally often, the first
abbrev pub oftener : RowRules → List ℕ → ℕ → ℕ → ℕ
oftener rules line first second = if nat_lt (count_of rules line first) (count_of rules line second) then second else first

-- a comma, a tab, a semicolon or a bar: the one that a line has most often
abbrev pub most_frequent : RowRules → List ℕ → ℕ
most_frequent rules line = oftener rules line (oftener rules line (oftener rules line 44 9) 59) 124

-- a first line such as `sep=;` sets the delimiter: an ASCII character other than a quote
abbrev pub setting_in : List ℕ → Option ℕ
setting_in line =
    if starts_with nat_eq line (codes "sep=") && (length line == 5) && nat_lt (get_or line 4 0) 128 && not (get_or line 4 0 == 34) then Some (get_or line 4 0)
    else None

-- that of a text, unless its first line is left out
abbrev pub setting_of : RowRules → List ℕ → Option ℕ
setting_of rules text = if rules.skipped == 0 then setting_in (first_line text) else None

-- the delimiter that a text sets, or else the most frequent one of the line on which its first row begins
abbrev pub delimiter_seen : RowRules → List ℕ → ℕ
delimiter_seen rules text = unwrap_or (setting_of rules text) (most_frequent rules (first_line (from_first_row rules text)))

-- ---- the format

-- separated values that a text shows
abbrev pub values_seen : RowRules → List ℕ → Format
values_seen rules text = separated (delimiter_seen rules text) rules

-- what begins with an opening bracket is JSON, what begins with an opening brace has a value of JSON on each line, and anything
-- else is separated values
abbrev pub format_from : RowRules → Option ℕ → List ℕ → Format
format_from rules None text = values_seen rules text
format_from rules (Some sign) text =
    if sign == 91 then Json
    else if sign == 123 then JsonLines
    else values_seen rules text

-- the format of a text that is known, or that its first bytes show
abbrev pub format_shown : Known → List ℕ → Format
format_shown (known.Format format) text = format
format_shown (known.Values rules) text = values_seen rules text
format_shown (known.Nothing rules) text = format_from rules (first_sign text) text

-- where all bytes are there, what would have a value on each line is one value, where it is one
abbrev pub is_one_value : Known → Format → List ℕ → Bool
is_one_value (known.Format format) shown text = false
is_one_value (known.Values rules) shown text = false
is_one_value (known.Nothing rules) (Separated dialect) text = false
is_one_value (known.Nothing rules) Json text = false
is_one_value (known.Nothing rules) JsonLines text = is_value text

abbrev pub format_of_all : Known → List ℕ → Format
format_of_all known text = if is_one_value known (format_shown known text) text then Json else format_shown known text

-- the format of bytes, of which a byte order mark at the front is no text, by all of them, or by the first ones
abbrev pub format_in : Known → List ℕ → Format
format_in known bytes = format_of_all known (strip_bom bytes)

abbrev pub format_streamed : Known → List ℕ → Format
format_streamed known bytes = format_shown known (strip_bom bytes)

abbrev pub is_separated : Format → Bool
is_separated (Separated dialect) = true
is_separated Json = false
is_separated JsonLines = false

-- ---- the bytes of the rows

-- those of separated values are without a byte order mark; a line that sets the delimiter is no row: it is an empty line
abbrev pub content_of : Format → List ℕ → List ℕ
content_of (Separated dialect) bytes = if is_some (setting_of dialect.rows (strip_bom bytes)) then drop 5 (strip_bom bytes) else strip_bom bytes
content_of Json bytes = bytes
content_of JsonLines bytes = bytes

-- ---- databases

-- what the file of a database of SQLite begins with
abbrev pub mark : List ℕ
mark = codes "SQLite format 3" ++ 0 ∷ []

abbrev pub is_database : List ℕ → Bool
is_database bytes = starts_with nat_eq bytes mark

-- ---- which encoding

abbrev pub encoding_named : List ℕ → Option Encoding
encoding_named name =
    if bytes_eq name (codes "utf-8") then Some asked.Utf8
    else if bytes_eq name (codes "latin1") then Some asked.Latin1
    else if bytes_eq name (codes "cp1252") then Some asked.Cp1252
    else if bytes_eq name (codes "utf-16") then Some asked.Utf16
    else None

-- the byte order marks of UTF-16
abbrev pub little_mark : List ℕ
little_mark = 0xFF ∷ 0xFE ∷ []

abbrev pub big_mark : List ℕ
big_mark = 0xFE ∷ 0xFF ∷ []

-- how bytes spell characters, where they aren't UTF-8: a mark of UTF-16 counts if no encoding is asked for
abbrev pub scheme_asked : Option Encoding → List ℕ → Option Scheme
scheme_asked None bytes =
    if starts_with nat_eq bytes little_mark then Some (Utf16 Little)
    else if starts_with nat_eq bytes big_mark then Some (Utf16 Big)
    else None
scheme_asked (Some asked.Utf8) bytes = None
scheme_asked (Some asked.Latin1) bytes = Some Latin1
scheme_asked (Some asked.Cp1252) bytes = Some Cp1252
scheme_asked (Some asked.Utf16) bytes = if starts_with nat_eq bytes big_mark then Some (Utf16 Big) else Some (Utf16 Little)

-- a database is no text
abbrev pub scheme_of : Option Encoding → List ℕ → Option Scheme
scheme_of encoding bytes = if is_database bytes then None else scheme_asked encoding bytes

-- ---- characters

-- those of 0x80 to 0x9F in code page 1252; five bytes that have none are the control characters of their numbers
abbrev pub cp1252_signs : List ℕ
cp1252_signs =
    0x20AC ∷ 0x81 ∷ 0x201A ∷ 0x192 ∷ 0x201E ∷ 0x2026 ∷ 0x2020 ∷ 0x2021
    ∷ 0x2C6 ∷ 0x2030 ∷ 0x160 ∷ 0x2039 ∷ 0x152 ∷ 0x8D ∷ 0x17D ∷ 0x8F
    ∷ 0x90 ∷ 0x2018 ∷ 0x2019 ∷ 0x201C ∷ 0x201D ∷ 0x2022 ∷ 0x2013 ∷ 0x2014
    ∷ 0x2DC ∷ 0x2122 ∷ 0x161 ∷ 0x203A ∷ 0x153 ∷ 0x9D ∷ 0x17E ∷ 0x178 ∷ []

abbrev pub cp1252_char : ℕ → ℕ
cp1252_char byte = if nat_le 0x80 byte && nat_le byte 0x9F then get_or cp1252_signs (byte - 0x80) 0 else byte

-- a unit of UTF-16 is two bytes
abbrev pub unit_of : Order → ℕ → ℕ → ℕ
unit_of Little first second = first + 256 * second
unit_of Big first second = 256 * first + second

abbrev pub units : Order → List ℕ → List ℕ
units order [] = []
units order (first ∷ []) = []
units order (first ∷ second ∷ bytes) = unit_of order first second ∷ units order bytes

-- the last byte is half a unit
abbrev pub is_half : List ℕ → Bool
is_half [] = false
is_half (first ∷ []) = true
is_half (first ∷ second ∷ bytes) = is_half bytes

-- ---- the text

-- the text in UTF-8, and whether it ends before bytes that spell no character: a surrogate without its partner, or half a unit
pub record Decoding : Type 0 where
  pub text : List ℕ
  pub is_cut : Bool

abbrev pub decoding_by : Scheme → List ℕ → Decoding
decoding_by Latin1 bytes = record { text = encode_utf8_all bytes; is_cut = false }
decoding_by Cp1252 bytes = record { text = encode_utf8_all (map cp1252_char bytes); is_cut = false }
decoding_by (Utf16 order) bytes = record { text = encode_utf8_all (some_prefix (utf16_chars (units order bytes))); is_cut = has_unpaired_surrogate (units order bytes) || is_half bytes }

abbrev pub decoding_as : Option Scheme → List ℕ → Decoding
decoding_as None bytes = record { text = bytes; is_cut = false }
decoding_as (Some scheme) bytes = decoding_by scheme bytes

-- of an input whose encoding is asked for, or is what its first bytes show
abbrev pub decoding_of : Option Encoding → List ℕ → Decoding
decoding_of encoding bytes = decoding_as (scheme_of encoding bytes) bytes

-- ---- its first character

-- a text with these bytes in front of it
abbrev pub behind : List ℕ → Decoding → Decoding
behind front decoding = record { text = front ++ decoding.text; is_cut = decoding.is_cut }

-- bytes spell it, are a part of it, or spell none, whatever follows them
abbrev pub ShowsFirst : Scheme → List ℕ → First → Type 0
ShowsFirst scheme bytes (Char c count) = (0 < count) × (count ≤ length bytes) × ((more : List ℕ) → decoding_by scheme (bytes ++ more)
    ≡ behind (encode_utf8 c) (decoding_by scheme (drop count bytes ++ more)))
ShowsFirst scheme bytes Part = (length bytes < 4) × (decoding_by scheme bytes ≡ record { text = []; is_cut = nat_lt 0 (length bytes) })
ShowsFirst scheme bytes Nothing = (more : List ℕ) → decoding_by scheme (bytes ++ more) ≡ record { text = []; is_cut = true }

-- ---- what a reader of text has left

-- those that it holds
abbrev pub items : Window → List ℕ
items window = slice_range window.bytes window.start window.end

-- how many more find room behind them
abbrev pub room : Window → ℕ
room window = 8192 - window.end

-- ---- readers of text

-- known text stays as it was
abbrev pub KeepsDecoding : Option Decoding → Option Decoding → Type 0
KeepsDecoding None new = ⊤
KeepsDecoding (Some decoding) new = new ≡ Some decoding

-- no known text is left, and no byte
abbrev pub IsOver : Option Decoding → Type 0
IsOver None = ⊤
IsOver (Some decoding) = decoding ≡ record { text = []; is_cut = false }

-- it was seen how the bytes spell characters
abbrev pub IsSeen : {R : Type 0} → Option Scheme → Decoded R → Type 0
IsSeen scheme decoded = (decoded.is_seen ≡ true) × (decoded.scheme ≡ scheme)

module _ {R : Type 0} (remaining : R → Option (List ℕ)) where
  -- the bytes that aren't decoded, where they are known
  abbrev pub bytes_left : Decoded R → Option (List ℕ)
  bytes_left decoded = prepend_known (items decoded.bytes) (remaining decoded.input)

  -- how they spell characters
  abbrev pub scheme_left : Decoded R → List ℕ → Option Scheme
  scheme_left decoded bytes = if decoded.is_seen then decoded.scheme else scheme_of decoded.encoding bytes

  -- the text that is left
  abbrev pub decoding_left : Decoded R → Option Decoding
  decoding_left decoded = option_map (λ bytes. behind (items decoded.text) (decoding_as (scheme_left decoded bytes) bytes)) (bytes_left decoded)

  abbrev pub text_left : Decoded R → Option (List ℕ)
  text_left decoded = option_map (λ decoding. decoding.text) (decoding_left decoded)

  -- bytes that are left spell no character
  abbrev pub IsCut : Decoded R → Type 0
  IsCut decoded = IsSomeAnd (decoding_left decoded) (λ decoding. decoding.is_cut ≡ true)

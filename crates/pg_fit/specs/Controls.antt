-- Control characters as characters that are seen, and the printable ones of ASCII.
use Rattle.std.specs.Prelude.{ℕ, ◌+◌, ◌==◌, ◌&&◌, ◌||◌, nat_lt, not, Bool, map, chars, if◌then◌else◌, Option, Some, None}
use Rattle.std.specs.Int.{is_in_range}
use Rattle.std.specs.List.{list_all}
use Rattle.std.specs.Str.{encode_utf8_all}
use Rattle.pg_layout.specs.Text.{Text, text_width_of}

-- a character that isn't shown, and that hides or turns what is beside it: soft hyphen, Arabic letter mark, Mongolian vowel separator, zero width space,
-- marks of direction, separators of lines and paragraphs with embeddings and overrides of direction, invisible operators with isolates, byte order mark,
-- annotations, tags. U+200C, U+200D and variation selectors give letters and emoji their forms, and are none
abbrev pub is_hidden : ℕ → Bool
is_hidden c =
    (c == 0xAD) || (c == 0x61C) || (c == 0x180E) || (c == 0x200B) || is_in_range 0x200E 0x200F c || is_in_range 0x2028 0x202E c || is_in_range 0x2060 0x206F c
    || (c == 0xFEFF) || is_in_range 0xFFF9 0xFFFB c || is_in_range 0xE0000 0xE007F c

-- a character on which a terminal acts: those below a space (C0), DEL, those from U+0080 to U+009F (C1), and hidden ones. A line feed ends a line and is none
abbrev pub is_control : ℕ → Bool
is_control c = not (c == 10) && (nat_lt c 0x20 || is_in_range 0x7F 0x9F c || is_hidden c)

-- what stands for a character: for one of C0 its picture (U+2400 and on), for DEL `␡`, for another one on which a terminal acts the replacement character, and for any other
-- the character itself
abbrev pub sign_of : ℕ → ℕ
sign_of c =
    if not (is_control c) then c
    else if nat_lt c 0x20 then 0x2400 + c
    else if c == 0x7F then 0x2421
    else 0xFFFD

-- a text in which control characters are seen
unfoldable pub visible_text : Text → Text
visible_text text = encode_utf8_all (map sign_of (chars text))

-- ---- printable characters of ASCII

-- a byte that is such a character
abbrev pub is_printable : ℕ → Bool
is_printable b = is_in_range 0x20 0x7E b

-- ---- letters, digits and signs that take the same columns beside any others

-- one column: of printable ASCII, Latin, Greek, Cyrillic and Armenian, dashes and quotation marks, and signs of currencies
abbrev pub is_narrow_letter : ℕ → Bool
is_narrow_letter c =
    is_in_range 0x20 0x7E c || is_in_range 0xAE 0x2FF c || is_in_range 0x370 0x482 c || is_in_range 0x48A 0x590 c || is_in_range 0x1E00 0x1EFF c
    || is_in_range 0x2010 0x2027 c || is_in_range 0x20A0 0x20BF c

-- two columns: of Chinese, Japanese and Korean
abbrev pub is_wide_letter : ℕ → Bool
is_wide_letter c =
    is_in_range 0x3000 0x3029 c || is_in_range 0x3041 0x3096 c || is_in_range 0x309B 0x30FF c || is_in_range 0x4E00 0x9FFF c || is_in_range 0xAC00 0xD7A3 c
    || is_in_range 0xFF01 0xFF60 c

-- how many columns a letter takes; 0 for another character
abbrev pub letter_columns : ℕ → ℕ
letter_columns c = if is_narrow_letter c then 1 else if is_wide_letter c then 2 else 0

abbrev pub is_letter : ℕ → Bool
is_letter c = nat_lt 0 (letter_columns c)

-- the width of a text of letters alone
abbrev pub letters_width : Text → Option ℕ
letters_width text = if list_all is_letter (chars text) then Some (text_width_of text) else None

-- What a number is, and its parts.
use Rattle.std.specs.Prelude.{ℕ, ◌+◌, ◌-◌, ◌==◌, ◌&&◌, ◌||◌, not, Bool, false, List, [], ◌∷◌, length, take, drop, position, nat_eq, Option, Some, None, if◌then◌else◌}
use Rattle.std.specs.List.{list_all, prefix_len}
use Rattle.std.specs.Cmp.Lexicographic.{pointwise}
use Rattle.std.specs.Io.BufRead.{strip_last}
use Rattle.std.specs.Int.{is_in_range}
use Rattle.std.specs.Str.{chars}
use Rattle.pg_table.specs.declared.numbers.Extent.{Extent}

abbrev pub is_digit : ℕ → Bool
is_digit byte = is_in_range 48 57 byte

abbrev pub is_figure : ℕ → Bool
is_figure byte = is_digit byte || (byte == 44)

-- digits, at least one
abbrev pub are_digits : List ℕ → Bool
are_digits text = not (length text == 0) && list_all is_digit text

-- digits, and commas behind the first one
abbrev pub is_whole : List ℕ → Bool
is_whole [] = false
is_whole (byte ∷ bytes) = is_digit byte && list_all is_figure bytes

-- a whole number, or digits behind a point and perhaps a whole number in front of it
abbrev pub is_decimal_by : Option ℕ → List ℕ → Bool
is_decimal_by None text = is_whole text
is_decimal_by (Some point) text = ((point == 0) || is_whole (take point text)) && are_digits (drop (point + 1) text)

abbrev pub is_decimal : List ℕ → Bool
is_decimal text = is_decimal_by (position (λ byte. byte == 46) text) text

-- what stands behind this front, or else the text
abbrev pub behind_front : List ℕ → List ℕ → List ℕ → List ℕ
behind_front front text others = if pointwise nat_eq (take (length front) text) front then drop (length front) text else others

-- without a sign at its front: `+`, `-`, or the minus U+2212, which has three bytes
abbrev pub unsigned : List ℕ → List ℕ
unsigned text = behind_front (43 ∷ []) text (behind_front (45 ∷ []) text (behind_front (226 ∷ 136 ∷ 146 ∷ []) text text))

-- a decimal number, perhaps with a power of ten behind an `e`
abbrev pub is_scaled_by : Option ℕ → List ℕ → Bool
is_scaled_by None text = is_decimal text
is_scaled_by (Some mark) text = is_decimal (take mark text) && are_digits (unsigned (drop (mark + 1) text))

abbrev pub is_scaled : List ℕ → Bool
is_scaled text = is_scaled_by (position (λ byte. (byte == 101) || (byte == 69)) text) text

-- perhaps a sign in front of it, and a percent sign behind it
unfoldable pub is_number : List ℕ → Bool
is_number text = is_scaled (strip_last 37 (unsigned text))

-- spaces, or nothing
abbrev pub is_blank : List ℕ → Bool
is_blank text = list_all (λ byte. byte == 32) text

abbrev pub is_number_or_blank : List ℕ → Bool
is_number_or_blank text = is_blank text || is_number text

-- ---- the parts of a number

-- its whole part ends before a point, an exponent or a percent sign
abbrev pub ends_whole : ℕ → Bool
ends_whole c = (c == 46) || ((c == 101) || ((c == 69) || (c == 37)))

-- how many characters it has, and how many follow it
abbrev pub whole_len : List ℕ → ℕ
whole_len text = prefix_len (λ c. not (ends_whole c)) (chars text)

abbrev pub rest_len : List ℕ → ℕ
rest_len text = length (chars text) - whole_len text

-- both of a number, and none of another text
abbrev pub no_extent : Extent
no_extent = record { whole = 0; rest = 0 }

abbrev pub own_extent : List ℕ → Extent
own_extent text = if is_number text then record { whole = whole_len text; rest = rest_len text } else no_extent

-- by how many characters a number is shorter behind its whole part than this
abbrev pub lacking : ℕ → List ℕ → ℕ
lacking rest text = if is_number text then rest - rest_len text else 0

-- The order of rows.
use Rattle.std.specs.Prelude.{Option, Some, None, ◌^◌, ℕ, ◌+◌, ◌-◌, ◌*◌, ◌==◌, ◌&&◌, ◌||◌, not, min, Bool, true, false, List}
use Rattle.std.specs.Prelude.{[], ◌∷◌, ◌++◌, drop, take, length, map, fold, nat_eq, slice_index_or, ℤ, pos, negsuc, neg_ℤ, ◌+ℤ◌, ◌-ℤ◌, if◌then◌else◌}
use Rattle.std.specs.List.{ends_with, filter, list_any, position, prefix_len, starts_with, suffix_len}
use Rattle.std.specs.Cmp.Lexicographic.{slice_cmp}
use Rattle.std.specs.Io.BufRead.{strip_last}
use Rattle.std.specs.Ordering.{bool_cmp, int_cmp, is_lt, nat_cmp, ordering_then}
use Rattle.std.specs.declared.cmp.Ordering.{Ordering}
use Rattle.pg_table.specs.Numbers.{is_digit, is_number, unsigned}
use Rattle.pg_layout.specs.Text.{Text}
use Rattle.ruled_table.specs.Sides.{body_of, is_missing, is_numeric}
use Rattle.ruled_table.specs.declared.options.Options.{Options}
use Rattle.csv.specs.Records.{fields_of}
use Rattle.ruled_table.specs.declared.order.Rank.{Rank}
use Rattle.ruled_table.specs.declared.order.RankedRow.{RankedRow}

-- ---- a stable sort

-- a list with one more element, in front of the first one that isn't less
abbrev pub with_element : {X : Type 0} → (X → X → Bool) → X → List X → List X
with_element less x [] = x ∷ []
with_element less x (y ∷ ys) = if less y x then y ∷ with_element less x ys else x ∷ y ∷ ys

-- those of a list in order; of two that tie, the first one stays the first
abbrev pub sorted_by : {X : Type 0} → (X → X → Bool) → List X → List X
sorted_by less [] = []
sorted_by less (x ∷ xs) = with_element less x (sorted_by less xs)

-- ---- the parts of a number

-- begins with a minus: `-`, or U+2212
abbrev pub is_negative : Text → Bool
is_negative text = starts_with nat_eq text (45 ∷ []) || starts_with nat_eq text (226 ∷ 136 ∷ 146 ∷ [])

-- without a sign and a percent sign
abbrev pub bare : Text → Text
bare text = strip_last 37 (unsigned text)

abbrev pub is_mark : ℕ → Bool
is_mark byte = (byte == 101) || (byte == 69)

-- what is before an `e`, and what is behind it
abbrev pub before_mark : Option ℕ → Text → Text
before_mark None number = number
before_mark (Some mark) number = take mark number

abbrev pub behind_mark : Option ℕ → Text → Text
behind_mark None number = []
behind_mark (Some mark) number = drop (mark + 1) number

abbrev pub mantissa : Text → Text
mantissa text = before_mark (position is_mark (bare text)) (bare text)

-- it has a digit there that isn't 0
abbrev pub has_value : Text → Bool
has_value text = list_any (λ byte. is_digit byte && not (byte == 48)) (mantissa text)

-- the number that digits write, or 2 ^ 64 - 1, if that is less
abbrev pub size_of : Text → ℕ
size_of digits = fold (λ size byte. min (min (size * 10) (2 ^ 64 - 1) + (byte - 48)) (2 ^ 64 - 1)) 0 digits

-- a whole number with a sign
abbrev pub signed_size : Text → ℤ
signed_size text = if is_negative text then neg_ℤ (pos (size_of (unsigned text))) else pos (size_of (unsigned text))

-- the power of ten behind an `e`
abbrev pub exponent : Text → ℤ
exponent text = signed_size (behind_mark (position is_mark (bare text)) (bare text))

-- how many bytes are behind a point
abbrev pub behind_point : Option ℕ → Text → ℕ
behind_point None text = 0
behind_point (Some point) text = length text - (point + 1)

-- how many digits of a number are behind its point, where a percent sign is for two more
abbrev pub scale : Text → ℕ
scale text = behind_point (position (λ byte. byte == 46) (mantissa text)) (mantissa text) + (if ends_with nat_eq text (37 ∷ []) then 2 else 0)

abbrev pub is_zero : ℕ → Bool
is_zero byte = byte == 48

-- its digits from the first one on that isn't 0
abbrev pub digits_of : Text → Text
digits_of text = let digits = filter is_digit (mantissa text) in drop (prefix_len is_zero digits) digits

-- digits without zeros at the end
abbrev pub without_zeros : Text → Text
without_zeros digits = take (length digits - suffix_len is_zero digits) digits

-- how many of its digits are before the point, if neither an `e` nor zeros in front are written
abbrev pub power : Text → ℤ
power text = (pos (length (digits_of text)) +ℤ exponent text) -ℤ pos (scale text)

-- ---- ranks

-- Where a text is in the order of a column. Numbers are ordered by their signs, then by their powers of ten, then by
-- their digits from the first one on: of negative numbers the greatest ones come first.
pub record Ranked : Type 0 where
  pub is_last : Bool
  pub sign : ℤ
  pub power : ℤ
  pub digits : Text

abbrev pub ranked : Bool → ℤ → ℤ → Text → Ranked
ranked is_last sign power digits = record { is_last = is_last; sign = sign; power = power; digits = digits }

-- the digits of a negative number: each is what it lacks to a 9, and a greater sign than all of them is at the end
abbrev pub falling : Text → Text
falling digits = map (λ digit. 105 - digit) digits ++ 58 ∷ []

abbrev pub rank_of_number : Text → Ranked
rank_of_number text =
    if length (digits_of text) == 0 then ranked false (pos 0) (pos 0) []
    else if is_negative text then ranked false (negsuc 0) (neg_ℤ (power text)) (falling (without_zeros (digits_of text)))
    else ranked false (pos 1) (power text) (without_zeros (digits_of text))

-- A text in a column of numbers that isn't one comes last.
abbrev pub rank_of : Options → Bool → Text → Ranked
rank_of options numeric text =
    if numeric then (if is_number text && not (is_missing options text) then rank_of_number text else ranked true (pos 0) (pos 0) [])
    else ranked false (pos 0) (pos 0) text

abbrev pub number_order : Ranked → Ranked → Ordering
number_order a b = ordering_then (ordering_then (int_cmp a.sign b.sign) (int_cmp a.power b.power)) (slice_cmp nat_cmp a.digits b.digits)

abbrev pub order_of : Bool → Ranked → Ranked → Ordering
order_of is_descending a b = ordering_then (bool_cmp a.is_last b.is_last) (if is_descending then number_order b a else number_order a b)

-- ---- rows

abbrev pub rank_in : Rank → Ranked
rank_in rank = ranked rank.is_last rank.sign rank.power rank.digits.items

abbrev pub row_in : RankedRow → Ranked × List Text
row_in row = (rank_in row.rank, fields_of row.fields)

abbrev pub with_rank : Options → Bool → ℕ → List Text → Ranked × List Text
with_rank options numeric column row = (rank_of options numeric (slice_index_or row column []), row)

-- whether a row comes before another one, of which each has a text in the column
abbrev pub is_before : Options → Bool → Bool → ℕ → List Text → List Text → Bool
is_before options is_descending numeric column a b =
    is_lt (order_of is_descending (rank_of options numeric (slice_index_or a column [])) (rank_of options numeric (slice_index_or b column [])))

-- rows in the order of a column
abbrev pub in_order : Options → Bool → ℕ → List (List Text) → List (List Text)
in_order options is_descending column rows = sorted_by (is_before options is_descending (is_numeric options rows column) column) rows

-- those below a header are
abbrev pub sorted : Options → Bool → ℕ → List (List Text) → List (List Text)
sorted options is_descending column rows =
    (if options.has_header then take 1 rows else []) ++ in_order options is_descending column (body_of options.has_header rows)

-- by a column, if there is one
abbrev pub sorted_in : Options → Bool → Option ℕ → List (List Text) → List (List Text)
sorted_in options is_descending None rows = rows
sorted_in options is_descending (Some column) rows = sorted options is_descending column rows

-- The words of a script's line, and what they stand for.
use Prim.Native.Nat.{zero, suc}
use Rattle.std.specs.Prelude.{ℕ, ◌&&◌, ◌==◌, not, nat_lt, nat_le, ◌^◌, Bool, List, [], ◌∷◌, length, filter, Option, Some, None, option_map, if◌then◌else◌, codes}
use Rattle.std.specs.List.{slice_split, after_first, list_all}
use Rattle.std.specs.Option.{option_and_then}
use Rattle.std.specs.Char.{digit_value}
use Rattle.std.specs.Str.{bytes_eq, chars}
use Rattle.std.specs.Str.Parse.{digits_value}
use Rattle.pg_layout.specs.Position.{at}
use Rattle.pg_layout.specs.declared.position.Position.{Position}
use Rattle.pg_layout.specs.declared.position.Entity.{Entity}
use Rattle.pg_layout.specs.declared.position.Entity.TheVariants.{Global, Row, Column, Cell}
use Rattle.pg_layout.specs.declared.sides.Sides.{Sides}

abbrev pub Word : Type 0
Word = List ℕ

abbrev pub is_space : ℕ → Bool
is_space b = b == 32

-- words are parted by one or more spaces; spaces before the first and after the last don't count
abbrev pub words_of : List ℕ → List Word
words_of line = filter (λ word. not (length word == 0)) (slice_split is_space line)

-- what follows the one space that ends the first word
abbrev pub behind_word : List ℕ → List ℕ
behind_word [] = []
behind_word (b ∷ bs) = if is_space b then behind_word bs else after_first is_space (b ∷ bs)

-- ---- what the first words of some stand for, and the words behind them

abbrev pub first_as : {X : Type 0} → (Word → Option X) → List Word → Option (X × List Word)
first_as meaning [] = None
first_as meaning (word ∷ words) = option_map (λ x. (x, words)) (meaning word)

-- what is read behind that, if it was there
abbrev pub read_on : {X Y : Type 0} → Option (X × List Word) → (X → List Word → Option Y) → Option Y
read_on None next = None
read_on (Some first) next = next first.0 first.1

-- no word is left
abbrev pub end_of : List Word → Option (Unit {0})
end_of [] = Some tt
end_of (word ∷ words) = None

-- 1 to 20 decimal digits of a value below 2 ^ 64
abbrev pub is_number : Word → Bool
is_number word =
    ((nat_lt 0 (length word) && nat_le (length word) 20) && list_all (λ c. nat_lt (digit_value c) 10) word)
    && nat_lt (digits_value 10 word) (2 ^ 64)

abbrev pub number_of : Word → Option ℕ
number_of word = if is_number word then Some (digits_value 10 word) else None

abbrev pub first_number : List Word → Option (ℕ × List Word)
first_number = first_as number_of

-- so many numbers
abbrev pub first_numbers : ℕ → List Word → Option (List ℕ × List Word)
first_numbers zero words = Some ([], words)
first_numbers (suc n) words =
    read_on (first_number words) (λ number behind. read_on (first_numbers n behind) (λ numbers rest. Some (number ∷ numbers, rest)))

-- numbers for the left, the right, the top and the bottom
abbrev pub first_sizes : List Word → Option (Sides ℕ × List Word)
first_sizes words =
    read_on (first_number words) (λ left a.
    read_on (first_number a) (λ right b.
    read_on (first_number b) (λ top c.
    read_on (first_number c) (λ bottom rest. Some (record { left = left; right = right; top = top; bottom = bottom }, rest)))))

-- a place, whether or not it lies in the table
abbrev pub first_place : List Word → Option (Position × List Word)
first_place words = read_on (first_number words) (λ row a. read_on (first_number a) (λ col rest. Some (at row col, rest)))

-- `all`, `row NUMBER`, `col NUMBER` or `cell NUMBER NUMBER`
abbrev pub first_entity : List Word → Option (Entity × List Word)
first_entity [] = None
first_entity (word ∷ words) =
    if bytes_eq word (codes "all") then Some (Global, words)
    else if bytes_eq word (codes "row") then read_on (first_number words) (λ row rest. Some (Row row, rest))
    else if bytes_eq word (codes "col") then read_on (first_number words) (λ col rest. Some (Column col, rest))
    else if bytes_eq word (codes "cell") then read_on (first_place words) (λ place rest. Some (Cell place.row place.col, rest))
    else None

-- ---- characters and texts

-- a character other than a backslash
abbrev pub but_backslash : List ℕ → Option ℕ
but_backslash [] = None
but_backslash (c ∷ []) = if c == 92 then None else Some c
but_backslash (c ∷ d ∷ cs) = None

-- `\s` for a space, `\\` for a backslash, and any other character for itself
abbrev pub char_of : Word → Option ℕ
char_of word =
    if bytes_eq word (codes "\\s") then Some 32
    else if bytes_eq word (codes "\\\\") then Some 92
    else but_backslash (chars word)

-- what a byte behind a backslash stands for: `n` for a line feed, `r` for a carriage return, a backslash for itself
abbrev pub meant : ℕ → Option ℕ
meant b = if b == 110 then Some 10 else if b == 114 then Some 13 else if b == 92 then Some 92 else None

-- what stands for the first byte, and the bytes behind it
abbrev pub escaped_of : List ℕ → Option (ℕ × List ℕ)
escaped_of [] = None
escaped_of (b ∷ bs) = option_map (λ m. (m, bs)) (meant b)

-- the text that is written so, if each backslash in it has a meaning
abbrev pub text_of : List ℕ → Option (List ℕ)
text_of [] = Some []
text_of (b ∷ []) = if b == 92 then None else Some (b ∷ [])
text_of (b ∷ c ∷ bs) =
    if b == 92 then option_and_then (λ m. option_map (λ text. m ∷ text) (text_of bs)) (meant c)
    else option_map (λ text. b ∷ text) (text_of (c ∷ bs))

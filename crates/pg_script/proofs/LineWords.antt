-- The lines of a script and their words: texts, characters and numbers; and rows of texts.
use Rattle.std.proofs.Common.{◌≡◌, ◌+◌, ◌<◌, ◌==◌, ℕ, suc, not, true, false, List, [], ◌∷◌, length, take, drop, filter, cond, arith, refl, sym, ◌∙◌, ap, subst, length-take, Bool, ◌++◌, Option, Some, None, append_assoc, if◌then◌else◌, codes, Result, Ok, Err, append-nil, lit<, ◌≤◌, ◌^◌, nat_lt, ◌-◌, length-drop, map, slice_set, slice_index_or, All, is_some}
use Rattle.std.specs.List.{position_or_len, slice_split, onto_first, before_first, after_first, list_all, position}
use Rattle.std.proofs.lemmas.Bool.Decides.{nat_tests}
use Rattle.std.proofs.lemmas.List.{drop_all, take_all, map-set, get_or-map}
use Rattle.std.proofs.lemmas.List.Splits.{slice_split_first, length-slice_split}
use Rattle.pg_script.specs.Words.{Word, is_space, words_of, behind_word, meant, escaped_of, text_of, char_of, but_backslash, is_number, number_of, read_on, first_number, first_numbers}
use Rattle.std.specs.Option.{option_map, option_and_then, SomeIff}
use Rattle.std.specs.Char.{encode_utf8, IsScalar, digit_value}
use Rattle.std.specs.Str.{IsUtf8, is_utf8, bytes_eq, chars}
use Rattle.std.proofs.lemmas.Str.{IsUtf8-from_is_utf8, scalars-chars, encodes-chars, chars_past_char, chars-nil, chars-IsAscii, is_utf8-from_IsUtf8}
use Rattle.pg_script.specs.Script.{Drafted, line_of_words, first_line, later_line, after_line}
use Rattle.pg_script.specs.Statement.{size_said}
use Rattle.pg_script.specs.Told.{Told, told_nothing}
use Rattle.pg_script.specs.declared.statement.Size.{Size}
use Rattle.std.specs.Result.{result_ok, IsOk, result_err}
use lib.Utf8.{scalars, encodes}
use Rattle.std.specs.Str.Parse.{ParsesChar, IsNumeral, AllDigits, digits_value}
use Rattle.std.proofs.lemmas.Slice.Eq.{bytes_eq-Decides}
use Rattle.std.proofs.lemmas.Str.Ascii.{IsAscii-cons, IsAscii-nil, encode_ascii}
use Rattle.std.specs.Str.Lines.{lines, lines_of_parts, strip_carriage_return}
use Rattle.std.proofs.lemmas.List.Quantifiers.{position-Some}
use Rattle.std.proofs.lemmas.List.Sums.{position_or_len_is, prefix_len-le-length}
use Rattle.std.proofs.lemmas.Bool.{false≢true}
use Rattle.std.proofs.lemmas.List.Elements.{All-head, All-tail}
use Rattle.pg_layout.specs.Records.{ragged_row}

-- ---- the lines of a script and their words: texts, characters and numbers

-- ---- the words of a line, read one by one

-- bytes with no space are one part
slice_split-no_space : (bs : List ℕ) → position_or_len is_space bs ≡ length bs → slice_split is_space bs ≡ bs ∷ []
slice_split-no_space [] none = refl
slice_split-no_space (b ∷ bs) none =
    elim (is_space b) as (λ v. cond (not v) (1 + position_or_len is_space bs) 0 ≡ suc (length bs) → cond v ([] ∷ slice_split is_space bs) (onto_first b (slice_split is_space bs)) ≡ (b ∷ bs) ∷ []) [
      | true ↦ λ e. absurd (omega (arith, e))
      | false ↦ λ e. ap (λ z. onto_first b z) (slice_split-no_space bs (omega (arith, e)))
    ] none

-- a part is a word, unless it is empty
filter-part : (part : Word) (parts : List Word) → 0 < length part → filter (λ word. not (length word == 0)) (part ∷ parts) ≡ part ∷ filter (λ word. not (length word == 0)) parts
filter-part part parts some = grind (arith, nat_tests)

filter-no_part : (part : Word) (parts : List Word) → length part ≡ 0 → filter (λ word. not (length word == 0)) (part ∷ parts) ≡ filter (λ word. not (length word == 0)) parts
filter-no_part part parts none = grind (arith, nat_tests)

-- behind the first word stands what follows the first space, where no space stands before the word
behind_word-word : (bs : List ℕ) → 0 < length (before_first is_space bs) → behind_word bs ≡ after_first is_space bs
behind_word-word [] some = refl
behind_word-word (b ∷ bs) some =
    elim (is_space b) as (λ v. 0 < length (take (cond (not v) (1 + position_or_len is_space bs) 0) (b ∷ bs)) → cond v (behind_word bs) (drop (cond (not v) (1 + position_or_len is_space bs) 0 + 1) (b ∷ bs)) ≡ drop (cond (not v) (1 + position_or_len is_space bs) 0 + 1) (b ∷ bs)) [
      | true ↦ λ h. absurd (omega (arith, h))
      | false ↦ λ h. refl
    ] some

-- a space before the first word doesn't count
behind_word-space : (bs : List ℕ) → position_or_len is_space bs < length bs → length (before_first is_space bs) ≡ 0 → behind_word bs ≡ behind_word (after_first is_space bs)
behind_word-space [] found none = absurd (omega (arith, found))
behind_word-space (b ∷ bs) found none =
    elim (is_space b) as (λ v. length (take (cond (not v) (1 + position_or_len is_space bs) 0) (b ∷ bs)) ≡ 0 → cond v (behind_word bs) (drop (cond (not v) (1 + position_or_len is_space bs) 0 + 1) (b ∷ bs)) ≡ behind_word (drop (cond (not v) (1 + position_or_len is_space bs) 0 + 1) (b ∷ bs))) [
      | true ↦ λ h. refl
      | false ↦ λ h. absurd (omega (arith, h, length-take (1 + position_or_len is_space bs) (b ∷ bs)))
    ] none

-- the first word is what stands before the first space
pub words_of-word : (bs word rest : List ℕ) → word ≡ before_first is_space bs → rest ≡ after_first is_space bs → position_or_len is_space bs < length bs → 0 < length word → (words_of bs ≡ word ∷ words_of rest) × (behind_word bs ≡ rest)
words_of-word bs word rest front back found some =
    let split : slice_split is_space bs ≡ word ∷ slice_split is_space rest = rw (front, back) (slice_split_first is_space bs 0 found) in
    let front_some : 0 < length (before_first is_space bs) = rw front at some in
    (ap (filter (λ word. not (length word == 0))) split ∙ filter-part word (slice_split is_space rest) some, behind_word-word bs front_some ∙ sym back)

-- nothing stands before the first space
pub words_of-space : (bs word rest : List ℕ) → word ≡ before_first is_space bs → rest ≡ after_first is_space bs → position_or_len is_space bs < length bs → length word ≡ 0 → (words_of bs ≡ words_of rest) × (behind_word bs ≡ behind_word rest)
words_of-space bs word rest front back found none =
    let split : slice_split is_space bs ≡ word ∷ slice_split is_space rest = rw (front, back) (slice_split_first is_space bs 0 found) in
    let front_none : length (before_first is_space bs) ≡ 0 = rw front at none in
    (ap (filter (λ word. not (length word == 0))) split ∙ filter-no_part word (slice_split is_space rest) none, behind_word-space bs found front_none ∙ ap behind_word (sym back))

-- the last word has no space behind it
pub words_of-last : (bs : List ℕ) → position_or_len is_space bs ≡ length bs → 0 < length bs → (words_of bs ≡ bs ∷ []) × (behind_word bs ≡ [])
words_of-last bs none some =
    let all : bs ≡ before_first is_space bs = sym (take_all (position_or_len is_space bs) bs (omega (arith, none))) in
    (ap (filter (λ word. not (length word == 0))) (slice_split-no_space bs none) ∙ filter-part bs [] some, behind_word-word bs (subst (λ (word : Word). 0 < length word) all some) ∙ drop_all (position_or_len is_space bs + 1) bs (omega (arith, none)))

-- nothing is no word
pub words_of-nothing : (bs : List ℕ) → length bs ≡ 0 → words_of bs ≡ []
words_of-nothing [] none = refl
words_of-nothing (b ∷ bs) none = absurd (omega (arith, none))

-- ---- texts and characters that are written with backslashes

abbrev pub is_backslash : ℕ → Bool
is_backslash b = b == 92

-- ---- options of texts

pub option_map-nothing : (o : Option (List ℕ)) → option_map (λ text. [] ++ text) o ≡ o
option_map-nothing None = refl
option_map-nothing (Some text) = refl

option_map-cons : (b : ℕ) (front : List ℕ) (o : Option (List ℕ)) → option_map (λ text. b ∷ text) (option_map (λ text. front ++ text) o) ≡ option_map (λ text. (b ∷ front) ++ text) o
option_map-cons b front None = refl
option_map-cons b front (Some text) = refl

-- ---- the parts of a written text

-- a text without a backslash stands for itself
pub text_of-plain : (bs : List ℕ) → position_or_len is_backslash bs ≡ length bs → text_of bs ≡ Some bs
text_of-plain [] none = refl
text_of-plain (b ∷ []) none =
    elim (is_backslash b) as (λ v. cond (not v) (1 + 0) 0 ≡ 1 → cond v None (Some (b ∷ [])) ≡ Some (b ∷ [])) [
      | true ↦ λ e. absurd (omega (arith, e))
      | false ↦ λ e. refl
    ] none
text_of-plain (b ∷ c ∷ bs) none =
    elim (is_backslash b) as (λ v. cond (not v) (1 + position_or_len is_backslash (c ∷ bs)) 0 ≡ suc (length (c ∷ bs)) → cond v (option_and_then (λ m. option_map (λ text. m ∷ text) (text_of bs)) (meant c)) (option_map (λ text. b ∷ text) (text_of (c ∷ bs))) ≡ Some (b ∷ c ∷ bs)) [
      | true ↦ λ e. absurd (omega (arith, e))
      | false ↦ λ e. ap (option_map (λ text. b ∷ text)) (text_of-plain (c ∷ bs) (omega (arith, e)))
    ] none

-- one byte more before the backslash
front-cons : (b : ℕ) (bs : List ℕ) (p : ℕ) → option_map (λ text. b ∷ text) (option_map (λ text. take p bs ++ text) (text_of (92 ∷ drop (p + 1) bs))) ≡ option_map (λ text. take (1 + p) (b ∷ bs) ++ text) (text_of (92 ∷ drop (1 + p + 1) (b ∷ bs)))
front-cons b bs p =
    let one : suc p ≡ 1 + p = omega arith in
    let two : suc (p + 1) ≡ 1 + p + 1 = omega arith in
    option_map-cons b (take p bs) (text_of (92 ∷ drop (p + 1) bs))
    ∙ ap (λ i. option_map (λ text. take i (b ∷ bs) ++ text) (text_of (92 ∷ drop (suc (p + 1)) (b ∷ bs)))) one
    ∙ ap (λ j. option_map (λ text. take (1 + p) (b ∷ bs) ++ text) (text_of (92 ∷ drop j (b ∷ bs)))) two

-- what stands before the first backslash stands for itself
text_of-front : (bs : List ℕ) → position_or_len is_backslash bs < length bs → text_of bs ≡ option_map (λ text. before_first is_backslash bs ++ text) (text_of (92 ∷ after_first is_backslash bs))
text_of-front [] found = absurd (omega (arith, found))
text_of-front (b ∷ []) found =
    elim (is_backslash b) as (λ v. cond (not v) (1 + 0) 0 < 1 → cond v None (Some (b ∷ [])) ≡ option_map (λ text. take (cond (not v) (1 + 0) 0) (b ∷ []) ++ text) (text_of (92 ∷ drop (cond (not v) (1 + 0) 0 + 1) (b ∷ [])))) [
      | true ↦ λ e. refl
      | false ↦ λ e. absurd (omega (arith, e))
    ] found
text_of-front (b ∷ c ∷ bs) found =
    let read = option_and_then (λ m. option_map (λ text. m ∷ text) (text_of bs)) (meant c) in
    elim (is_backslash b) as (λ v. cond (not v) (1 + position_or_len is_backslash (c ∷ bs)) 0 < suc (length (c ∷ bs)) → cond v read (option_map (λ text. b ∷ text) (text_of (c ∷ bs))) ≡ option_map (λ text. take (cond (not v) (1 + position_or_len is_backslash (c ∷ bs)) 0) (b ∷ c ∷ bs) ++ text) (text_of (92 ∷ drop (cond (not v) (1 + position_or_len is_backslash (c ∷ bs)) 0 + 1) (b ∷ c ∷ bs)))) [
      | true ↦ λ e. sym (option_map-nothing read)
      | false ↦ λ e. ap (option_map (λ text. b ∷ text)) (text_of-front (c ∷ bs) (omega (arith, e))) ∙ front-cons b (c ∷ bs) (position_or_len is_backslash (c ∷ bs))
    ] found

-- a meaning, and the text behind it
abbrev read_behind : ℕ × List ℕ → Option (List ℕ)
read_behind read = option_map (λ text. read.0 ∷ text) (text_of read.1)

-- what stands behind a backslash
text_of-escape : (bs : List ℕ) → text_of (92 ∷ bs) ≡ option_and_then read_behind (escaped_of bs)
text_of-escape [] = refl
text_of-escape (b ∷ bs) = elim (meant b) as (λ v. option_and_then (λ m. option_map (λ text. m ∷ text) (text_of bs)) v ≡ option_and_then read_behind (option_map (λ m. (m, bs)) v)) [ None ↦ refl | Some m ↦ refl ]

-- the text up to a backslash and what stands behind it
text_of-cut : (bs before behind : List ℕ) → before ≡ before_first is_backslash bs → behind ≡ after_first is_backslash bs → position_or_len is_backslash bs < length bs → text_of bs ≡ option_map (λ text. before ++ text) (option_and_then read_behind (escaped_of behind))
text_of-cut bs before behind front back found =
    rw (front, back) (text_of-front bs found ∙ ap (option_map (λ text. before_first is_backslash bs ++ text)) (text_of-escape (after_first is_backslash bs)))

-- a backslash with no meaning
pub text_of-bad : (so_far bs before behind : List ℕ) (all : Option (List ℕ)) → before ≡ before_first is_backslash bs → behind ≡ after_first is_backslash bs → position_or_len is_backslash bs < length bs → None ≡ escaped_of behind → option_map (λ text. so_far ++ text) (text_of bs) ≡ all → None ≡ all
text_of-bad so_far bs before behind all front back found bad read =
    let cut = text_of-cut bs before behind front back found in
    let none : text_of bs ≡ None = rw (← bad) at cut in
    ap (option_map (λ text. so_far ++ text)) (sym none) ∙ read

option_map-joined : (so_far before : List ℕ) (m : ℕ) (o : Option (List ℕ)) → option_map (λ text. ((so_far ++ before) ++ m ∷ []) ++ text) o ≡ option_map (λ text. so_far ++ text) (option_map (λ text. before ++ text) (option_map (λ text. m ∷ text) o))
option_map-joined so_far before m None = refl
option_map-joined so_far before m (Some text) = ap Some (append_assoc (so_far ++ before) (m ∷ []) text ∙ append_assoc so_far before (m ∷ text))

-- a backslash with a meaning: the text so far has gained what stands before it and what it means
pub text_of-step : (so_far bs before behind rest : List ℕ) (m : ℕ) (all : Option (List ℕ)) → before ≡ before_first is_backslash bs → behind ≡ after_first is_backslash bs → position_or_len is_backslash bs < length bs → Some (m, rest) ≡ escaped_of behind → option_map (λ text. so_far ++ text) (text_of bs) ≡ all → option_map (λ text. ((so_far ++ before) ++ m ∷ []) ++ text) (text_of rest) ≡ all
text_of-step so_far bs before behind rest m all front back found good read =
    let cut = text_of-cut bs before behind front back found in
    let some : text_of bs ≡ option_map (λ text. before ++ text) (option_map (λ text. m ∷ text) (text_of rest)) = rw (← good) at cut in
    option_map-joined so_far before m (text_of rest) ∙ ap (option_map (λ text. so_far ++ text)) (sym some) ∙ read

-- ---- characters

-- a character of several bytes begins with a byte that has no meaning
meant-encode : (c : ℕ) (rest : List ℕ) → escaped_of (encode_utf8 c ++ rest) ≡ option_map (λ m. (m, rest)) (meant c)
unfolding encode_utf8
meant-encode c rest = grind (arith, nat_tests)

-- the first character decides
pub escaped_of-char : (bs rest : List ℕ) (c : ℕ) → bs ≡ encode_utf8 c ++ rest → escaped_of bs ≡ option_map (λ m. (m, rest)) (meant c)
escaped_of-char bs rest c text = rw text (meant-encode c rest)

-- what a character means is one byte
pub meant-ascii : (c m : ℕ) → meant c ≡ Some m → m < 128
meant-ascii c m means = grind (arith, nat_tests)

-- a character that has no meaning is the end of the text
pub escaped_of-none : (bs rest : List ℕ) (c : ℕ) → bs ≡ encode_utf8 c ++ rest → None ≡ meant c → None ≡ escaped_of bs
escaped_of-none bs rest c text none = sym (escaped_of-char bs rest c text ∙ ap (option_map (λ m. (m, rest))) (sym none))

-- ---- what a line tells, by its words

-- what is no text fails the test
pub is_utf8-false : (bs : List ℕ) → ¬ (IsUtf8 bs) → is_utf8 bs ≡ false
is_utf8-false bs bad =
    elim (is_utf8 bs) as (λ v. is_utf8 bs ≡ v → v ≡ false) [ true ↦ λ is. absurd (bad (IsUtf8-from_is_utf8 bs is)) | false ↦ λ _. refl ] refl

-- bytes that are no text are bad
pub after_line-no_text : (told : Drafted) (line : List ℕ) → is_utf8 line ≡ false → after_line told line ≡ None
after_line-no_text told line bad = ap (λ v. if v then line_of_words told (words_of line) line else None) bad

after_line-words : (told : Drafted) (line : List ℕ) (words : List Word) → is_utf8 line ≡ true → words_of line ≡ words → after_line told line ≡ line_of_words told words line
after_line-words told line words text are =
    ap (λ v. if v then line_of_words told (words_of line) line else None) text ∙ ap (λ ws. line_of_words told ws line) are

-- a line without words says nothing
pub after_line-blank : (told : Drafted) (line : List ℕ) → is_utf8 line ≡ true → words_of line ≡ [] → after_line told line ≡ Some told
after_line-blank told line text blank = after_line-words told line [] text blank

-- the first line with words
pub after_line-first : (line : List ℕ) (keyword : Word) (words : List Word) → is_utf8 line ≡ true → words_of line ≡ keyword ∷ words → after_line None line ≡ first_line keyword words
after_line-first line keyword words text are = after_line-words None line (keyword ∷ words) text are

-- a later line with words
pub after_line-later : (told : Size × Told) (line : List ℕ) (keyword : Word) (words : List Word) → is_utf8 line ≡ true → words_of line ≡ keyword ∷ words → after_line (Some told) line ≡ later_line told keyword (behind_word line)
after_line-later told line keyword words text are = after_line-words (Some told) line (keyword ∷ words) text are

-- the word `size`, and what follows it
pub first_line-size : (keyword : Word) (words : List Word) → keyword ≡ codes "size" → first_line keyword words ≡ option_map (λ size. Some (size, told_nothing size)) (size_said words)
first_line-size keyword words is = ap (λ k. first_line k words) is

-- ---- words that stand for characters

-- a backslash alone stands for no character
pub char_of-backslash : char_of (92 ∷ []) ≡ None
char_of-backslash = ap but_backslash (chars-IsAscii (92 ∷ []) (IsAscii-cons 92 [] (lit< tt) IsAscii-nil))

bytes_eq-false : (xs ys : List ℕ) → ¬ (xs ≡ ys) → bytes_eq xs ys ≡ false
bytes_eq-false xs ys differ =
    let decides = bytes_eq-Decides xs ys in
    elim (bytes_eq xs ys) as (λ v. bytes_eq xs ys ≡ v → v ≡ false) [ true ↦ λ same. absurd (differ (decides.0 same)) | false ↦ λ _. refl ] refl

-- one character other than a backslash
but_backslash-one : (word : Word) (c : ℕ) → IsUtf8 word → ¬ (word ≡ 92 ∷ []) → word ≡ encode_utf8 c → Some c ≡ but_backslash (chars word)
but_backslash-one word c utf8 no_backslash is =
    let one : chars word ≡ c ∷ [] = chars_past_char word [] c utf8 (is ∙ sym (append-nil (encode_utf8 c))) ∙ ap (λ cs. c ∷ cs) chars-nil in
    let other : c == 92 ≡ false =
    elim (c == 92) as (λ v. c == 92 ≡ v → v ≡ false) [
      | true ↦ λ same. absurd (let at : c ≡ 92 = grind (arith, nat_tests) in no_backslash (is ∙ ap encode_utf8 at ∙ encode_ascii 92 (lit< tt)))
      | false ↦ λ _. refl
    ] refl in
    rw one (rw other refl)

-- no character, or more than one
but_backslash-none : (word : Word) → IsUtf8 word → ((c : ℕ) → IsScalar c → ¬ (word ≡ encode_utf8 c)) → None ≡ but_backslash (chars word)
but_backslash-none word utf8 none =
    none_of (chars word) (scalars-chars word utf8) (encodes-chars word utf8)
  where
    none_of : (cs : List ℕ) → scalars cs ≡ true → encodes cs ≡ word → None ≡ but_backslash cs
    none_of [] are spell = refl
    none_of (c ∷ []) are spell = absurd (none c (grind (arith, nat_tests)) (sym spell ∙ append-nil (encode_utf8 c)))
    none_of (c ∷ d ∷ cs) are spell = refl

-- the one character of the word, unless it is a backslash
pub char_of-read : {E : Type 0} (word : Word) (read : Result ℕ E) → IsUtf8 word → ¬ (word ≡ codes "\\s") → ¬ (word ≡ codes "\\\\") → ¬ (word ≡ 92 ∷ []) → ParsesChar word read → result_ok read ≡ char_of word
char_of-read word (Ok c) utf8 no_space no_pair no_backslash is =
    rw (bytes_eq-false word (codes "\\s") no_space) (rw (bytes_eq-false word (codes "\\\\") no_pair) (but_backslash-one word c utf8 no_backslash is))
char_of-read word (Err e) utf8 no_space no_pair no_backslash none =
    rw (bytes_eq-false word (codes "\\s") no_space) (rw (bytes_eq-false word (codes "\\\\") no_pair) (but_backslash-none word utf8 none))

-- ---- words that write numbers

-- each byte is a digit, as a test
all_digits : (word : Word) → AllDigits 10 word → list_all (λ c. nat_lt (digit_value c) 10) word ≡ true
all_digits [] digits = refl
all_digits (c ∷ cs) digits =
    let rest = all_digits cs digits.1 in
    let first : digit_value c < 10 = digits.0 in grind (arith, nat_tests)

digits_of_all : (word : Word) → list_all (λ c. nat_lt (digit_value c) 10) word ≡ true → AllDigits 10 word
digits_of_all [] all = tt
digits_of_all (c ∷ cs) all =
    let first : digit_value c < 10 = grind (arith, nat_tests) in
    let rest : list_all (λ c. nat_lt (digit_value c) 10) cs ≡ true = grind (arith, nat_tests) in
    (first, digits_of_all cs rest)

-- a number is a short numeral of a small value
numeral_of_number : (word : Word) → is_number word ≡ true → IsNumeral 10 word × (length word ≤ 20) × (digits_value 10 word < 2 ^ 64)
numeral_of_number word is =
    let some : 0 < length word = grind (arith, nat_tests) in
    let short : length word ≤ 20 = grind (arith, nat_tests) in
    let all : list_all (λ c. nat_lt (digit_value c) 10) word ≡ true = grind (arith, nat_tests) in
    let small : digits_value 10 word < 2 ^ 64 = grind (arith, nat_tests) in
    ((some, digits_of_all word all), short, small)

-- a numeral that is short and small enough is a number, and no other word is one
pub number_of-read : (word : Word) (r : Option ℕ) → SomeIff r (IsNumeral 10 word × (length word ≤ 20) × (digits_value 10 word < 2 ^ 64)) (digits_value 10 word) → r ≡ number_of word
number_of-read word (Some n) read =
    let some = read.0.0.0 in
    let digits = all_digits word read.0.0.1 in
    let short = read.0.1 in
    let small = read.0.2 in
    let is : n ≡ digits_value 10 word = read.1 in
    grind (arith, nat_tests)
number_of-read word None unread =
    elim (is_number word) as (λ v. is_number word ≡ v → None ≡ if v then Some (digits_value 10 word) else None) [
      | false ↦ λ _. refl
      | true ↦ λ is. absurd (unread (numeral_of_number word is))
    ] refl

-- ---- numbers that are read one after the other

-- with these numbers before them
abbrev pub onto_numbers : List ℕ → Option (List ℕ × List Word) → Option (List ℕ × List Word)
onto_numbers numbers read = option_map (λ more. (numbers ++ more.0, more.1)) read

-- one number more
abbrev and_number : ℕ → Option (List ℕ × List Word) → Option (List ℕ × List Word)
and_number number read = read_on read (λ numbers rest. Some (number ∷ numbers, rest))

onto_numbers-and : (numbers : List ℕ) (number : ℕ) (read : Option (List ℕ × List Word)) → onto_numbers (numbers ++ number ∷ []) read ≡ onto_numbers numbers (and_number number read)
onto_numbers-and numbers number None = refl
onto_numbers-and numbers number (Some more) = ap (λ ns. Some (ns, more.1)) (append_assoc numbers (number ∷ []) more.0)

-- a word that is no number ends the reading
pub first_numbers-bad : (numbers : List ℕ) (n i : ℕ) (words all : List Word) → i < n → first_number words ≡ None → onto_numbers numbers (first_numbers (n - i) words) ≡ first_numbers n all → None ≡ first_numbers n all
first_numbers-bad numbers n i words all more bad read =
    let left : n - i ≡ suc (n - (i + 1)) = omega arith in
    let none : first_numbers (suc (n - (i + 1))) words ≡ None = ap (λ first. read_on first (λ number behind. and_number number (first_numbers (n - (i + 1)) behind))) bad in
    ap (onto_numbers numbers) (sym none ∙ ap (λ k. first_numbers k words) (sym left)) ∙ read

-- a number is read
pub first_numbers-step : (numbers : List ℕ) (n i number : ℕ) (words rest all : List Word) → i < n → first_number words ≡ Some (number, rest) → onto_numbers numbers (first_numbers (n - i) words) ≡ first_numbers n all → onto_numbers (numbers ++ number ∷ []) (first_numbers (n - (i + 1)) rest) ≡ first_numbers n all
first_numbers-step numbers n i number words rest all more good read =
    let left : n - i ≡ suc (n - (i + 1)) = omega arith in
    let some : first_numbers (suc (n - (i + 1))) words ≡ and_number number (first_numbers (n - (i + 1)) rest) = ap (λ first. read_on first (λ number behind. and_number number (first_numbers (n - (i + 1)) behind))) good in
    onto_numbers-and numbers number (first_numbers (n - (i + 1)) rest) ∙ ap (onto_numbers numbers) (sym some ∙ ap (λ k. first_numbers k words) (sym left)) ∙ read

-- all numbers are read
pub first_numbers-all : (numbers : List ℕ) (n i : ℕ) (words all : List Word) → i ≡ n → onto_numbers numbers (first_numbers (n - i) words) ≡ first_numbers n all → first_numbers n all ≡ Some (numbers, words)
first_numbers-all numbers n i words all whole read =
    let none : n - i ≡ 0 = omega arith in
    sym read ∙ ap (λ k. onto_numbers numbers (first_numbers k words)) none ∙ ap (λ ns. Some (ns, words)) (append-nil numbers)

-- ---- the first line of some bytes, and the lines of the rest

abbrev pub is_feed : ℕ → Bool
is_feed b = b == 10

-- the first line feed stands where a search finds it
position_or_len-found : (bs : List ℕ) (k : ℕ) → position is_feed bs ≡ Some k → position_or_len is_feed bs ≡ k
position_or_len-found bs k found =
    let at = position-Some is_feed bs k 0 found in
    position_or_len_is is_feed bs k 0 (omega (arith, at.0)) at.2 (λ _. at.1)

-- a search that finds none has gone to the end
position_or_len-not_found : (bs : List ℕ) → position is_feed bs ≡ None → position_or_len is_feed bs ≡ length bs
position_or_len-not_found bs none =
    let within = prefix_len-le-length (λ b. not (is_feed b)) bs in grind (arith, nat_tests)

-- bytes with no line feed are one part
slice_split-not_found : (bs : List ℕ) → position_or_len is_feed bs ≡ length bs → slice_split is_feed bs ≡ bs ∷ []
slice_split-not_found [] none = refl
slice_split-not_found (b ∷ bs) none =
    elim (is_feed b) as (λ v. cond (not v) (1 + position_or_len is_feed bs) 0 ≡ suc (length bs) → cond v ([] ∷ slice_split is_feed bs) (onto_first b (slice_split is_feed bs)) ≡ (b ∷ bs) ∷ []) [
      | true ↦ λ e. absurd (omega (arith, e))
      | false ↦ λ e. ap (λ z. onto_first b z) (slice_split-not_found bs (omega (arith, e)))
    ] none

-- a part before another one is a line, less its carriage return
lines_of_parts-cons : (part : List ℕ) (parts : List (List ℕ)) → 0 < length parts → lines_of_parts (part ∷ parts) ≡ strip_carriage_return part ∷ lines_of_parts parts
lines_of_parts-cons part [] some = absurd (omega (arith, some))
lines_of_parts-cons part (next ∷ parts) some = refl

-- what stands before the first line feed is a line, less its carriage return
lines-found : (bs : List ℕ) (k : ℕ) → position is_feed bs ≡ Some k → lines bs ≡ strip_carriage_return (take k bs) ∷ lines (drop (k + 1) bs)
lines-found bs k found =
    let at = position_or_len-found bs k found in
    let inside = (position-Some is_feed bs k 0 found).0 in
    let parts = length-slice_split is_feed (drop (k + 1) bs) in
    let cut : slice_split is_feed bs ≡ take k bs ∷ slice_split is_feed (drop (k + 1) bs) =
    slice_split_first is_feed bs 0 (omega (arith, at, inside)) ∙ ap (λ n. take n bs ∷ slice_split is_feed (drop (n + 1) bs)) at in
    ap lines_of_parts cut ∙ lines_of_parts-cons (take k bs) (slice_split is_feed (drop (k + 1) bs)) (omega (arith, parts))

-- the same, for a line that was read and a rest that was cut off
pub lines-read : (bs : List ℕ) (k : ℕ) (line : List ℕ) → position is_feed bs ≡ Some k → line ≡ strip_carriage_return (take k bs) → lines bs ≡ line ∷ lines (take (length bs - (k + 1)) (drop (k + 1) bs))
lines-read bs k line found is =
    let rest : take (length bs - (k + 1)) (drop (k + 1) bs) ≡ drop (k + 1) bs = take_all (length bs - (k + 1)) (drop (k + 1) bs) (omega (arith, length-drop (k + 1) bs)) in
    lines-found bs k found ∙ ap (λ l. l ∷ lines (drop (k + 1) bs)) (sym is) ∙ ap (λ r. line ∷ lines r) (sym rest)

-- the last part is a line, unless it is empty
lines_of_parts-one : (part : List ℕ) → 0 < length part → lines_of_parts (part ∷ []) ≡ part ∷ []
lines_of_parts-one part some = grind (arith, nat_tests)

-- bytes with no line feed are one line
pub lines-not_found : (bs : List ℕ) → 0 < length bs → position is_feed bs ≡ None → lines bs ≡ bs ∷ []
lines-not_found bs some none =
    ap lines_of_parts (slice_split-not_found bs (position_or_len-not_found bs none)) ∙ lines_of_parts-one bs some

-- a part before other parts is at most one more line
length-lines_of_parts-cons : (part : List ℕ) (parts : List (List ℕ)) → length (lines_of_parts (part ∷ parts)) ≤ 1 + length (lines_of_parts parts)
length-lines_of_parts-cons part [] = elim (length part == 0) as (λ v. length (cond v [] (part ∷ [])) ≤ 1) [ true ↦ omega arith | false ↦ omega arith ]
length-lines_of_parts-cons part (next ∷ parts) = omega arith

-- one byte more is at most one line more
length-lines_of_parts-onto_first : (b : ℕ) (parts : List (List ℕ)) → length (lines_of_parts (onto_first b parts)) ≤ 1 + length (lines_of_parts parts)
length-lines_of_parts-onto_first b [] = omega arith
length-lines_of_parts-onto_first b (part ∷ []) = omega (arith, ap length (lines_of_parts-one (b ∷ part) (omega arith)))
length-lines_of_parts-onto_first b (part ∷ next ∷ parts) = omega arith

-- there are at most as many lines as bytes
pub length-lines : (bs : List ℕ) → length (lines bs) ≤ length bs
length-lines [] = omega arith
length-lines (b ∷ bs) =
    let rest = slice_split is_feed bs in
    let before = length-lines_of_parts-cons [] rest in
    let onto = length-lines_of_parts-onto_first b rest in
    let fewer = length-lines bs in
    elim (is_feed b) as (λ v. length (lines_of_parts (cond v ([] ∷ rest) (onto_first b rest))) ≤ suc (length bs)) [
      | true ↦ omega (arith, before, fewer)
      | false ↦ omega (arith, onto, fewer)
    ]

-- ---- rows of texts, and rows of one length

-- ---- rows of texts, and one text changed

-- each element in two steps, or in one
pub map-steps : {X Y Z : Type 0} (f : Y → Z) (g : X → Y) (xs : List X) → map f (map g xs) ≡ map (λ x. f (g x)) xs
map-steps f g [] = refl
map-steps f g (x ∷ xs) = ap (λ rest. f (g x) ∷ rest) (map-steps f g xs)

-- one element of one row is changed
pub map-set_in_row : {R X Y : Type 0} (items : R → List X) (f : X → Y) (rows : List R) (row changed : R) (r c : ℕ) (x : X) → r < length rows → row ≡ slice_index_or rows r row → items changed ≡ slice_set (items row) c x → map (λ w. map f (items w)) (slice_set rows r changed) ≡ slice_set (map (λ w. map f (items w)) rows) r (slice_set (slice_index_or (map (λ w. map f (items w)) rows) r []) c (f x))
map-set_in_row {R} {X} {Y} items f rows row changed r c x inside at is =
    let texts : R → List Y = λ w. map f (items w) in
    let old : texts row ≡ slice_index_or (map texts rows) r [] = ap texts at ∙ sym (get_or-map texts rows r row [] inside) in
    let new : texts changed ≡ slice_set (slice_index_or (map texts rows) r []) c (f x) = ap (map f) is ∙ map-set f (items row) c x ∙ ap (λ t. slice_set t c (f x)) old in
    map-set texts rows r changed ∙ ap (λ t. slice_set (map texts rows) r t) new

-- ---- rows of one length are records

-- a search for another length goes to the end
other_length-not_found : {X T : Type 0} (f : X → List T) (n : ℕ) (xs : List X) → All (λ x. length (f x) ≡ n) xs → position_or_len (λ row. not (length row == n)) (map f xs) ≡ length (map f xs)
other_length-not_found f n [] even = refl
other_length-not_found f n (x ∷ xs) even =
    let rest = other_length-not_found f n xs (All-tail (λ x. length (f x) ≡ n) x xs even) in
    let first = All-head (λ x. length (f x) ≡ n) x xs even in grind (arith, nat_tests)

-- no row has another length
other_length-none : {X T : Type 0} (f : X → List T) (n : ℕ) (xs : List X) → All (λ x. length (f x) ≡ n) xs → position (λ row. not (length row == n)) (map f xs) ≡ None
other_length-none f n xs even =
    let all = other_length-not_found f n xs even in grind (arith, nat_tests)

-- rows of one length are not ragged
pub even-not_ragged : {X T : Type 0} (f : X → List T) (n : ℕ) (xs : List X) → All (λ x. length (f x) ≡ n) xs → ragged_row (map f xs) ≡ None
even-not_ragged f n [] even = refl
even-not_ragged f n (x ∷ xs) even =
    ap (λ k. position (λ row. not (length row == k)) (map f (x ∷ xs))) (All-head (λ x. length (f x) ≡ n) x xs even) ∙ other_length-none f n (x ∷ xs) even

-- what has no error is a success
pub no_error-is_ok : {X E : Type 0} (r : Result X E) → result_err r ≡ None → IsOk r
no_error-is_ok (Ok x) none = refl
no_error-is_ok {X} {E} (Err e) none = absurd (false≢true (ap (λ (o : Option E). is_some o) (sym none)))

-- bytes that are a text, and others
pub ruleset texts_of_lines = (is_utf8-from_IsUtf8, is_utf8-false)

-- characters that words write
pub ruleset words_read = (char_of-backslash, char_of-read, escaped_of-none)

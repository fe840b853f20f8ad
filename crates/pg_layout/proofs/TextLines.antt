-- The lines of a text: where they are cut, how wide they are, and what is trimmed of them.
use Rattle.std.proofs.Common.{◌≡◌, ◌+◌, ◌-◌, ◌<◌, ◌≤◌, ◌≢◌, ◌==◌, ℕ, suc, not, Bool, true, false, List, [], ◌∷◌, ◌++◌, length, take, drop, get_or, cond, count_by, Option, Some, None, unwrap_or, MatchOption, Bor, nat_lt, arith, refl, sym, ◌∙◌, ap, zero, map, fold, max, min, subst, add-one, length-append, take-append-drop, get_or-drop, ◌&&◌, ◌||◌, chars, length-take, length-drop, get_or-take, take-suc, drop-cons, eq-zero-or-pos, ⊎_elim, true≢false, inl, inr, eqb-true}
use Rattle.std.specs.List.{position_or_len, slice_range, slice_split, onto_first, before_first, after_first, list_all, slice_get, range_with_len}
use Rattle.std.specs.Str.{IsUtf8, IsCharBoundary, IsAscii, IsAsciiWhitespaceBelow, IsAsciiWhitespaceFrom, IsTrimAscii, encode_utf8_all, skip_leading_whitespace, drop_trailing_whitespace, trim, trim_start, trim_end}
use Rattle.std.proofs.lemmas.Bool.Decides.{nat_tests}
use Rattle.std.proofs.lemmas.List.{drop_at, take_all, drop-append-le, drop-take, take-append-le, take-take, drop_more, take_more, get_or_append_left, get_or_at}
use Rattle.std.proofs.lemmas.List.Sums.{prefix_len-le-length, passes_at_first, sum_by-append, length-filter}
use Rattle.std.proofs.lemmas.List.Splits.{slice_split_first, length-slice_split}
use Rattle.std.proofs.lemmas.Str.{IsCharBoundary-after_ascii, chars-IsAscii, chars-nil, chars-append, encodes-chars, encodes-append, encode_ascii, IsUtf8-from_ascii, IsUtf8-take, IsUtf8-drop, IsCharBoundary-before_ascii}
use Rattle.pg_layout.specs.Text.{Text, lines_of, first_line_of, first_of_lines, without_return, is_plain_byte, width_of, text_width_of, greatest}
use Rattle.std.proofs.lemmas.Bool.{and_parts, cases_Bool}
use Rattle.unicode_width.specs.Width.{str_width, read_before, step, past_emoji, plain}
use Rattle.std.proofs.lemmas.Option.{slice_get_past, slice_get_within}
use Rattle.pg_layout.specs.LineCursor.{ended, stands_in, StandsIn, line_number}
use Rattle.std.proofs.lemmas.Str.Ascii.{IsAscii-cons}
use Rattle.std.specs.Char.{is_whitespace, is_ascii_whitespace, is_ascii_graphic}
use Rattle.std.proofs.lemmas.List.FromFn.{map-range_with_len_more}
use Rattle.std.proofs.lemmas.Iterator.{YieldsList-from_slice}
use Rattle.std.proofs.lemmas.Iterator.Consumers.{YieldsList-from_filter}

-- ---- the lines of a text: where they are cut, how wide they are, and what is trimmed of them

-- ---- a text cut at a line feed, and its lines

abbrev pub is_feed : ℕ → Bool
is_feed b = b == 10

pub slice_range-front : (text : Text) (end : ℕ) → slice_range text 0 end ≡ take end text
slice_range-front text end = let same : end - 0 ≡ end = omega arith in ap (λ n. take n text) same

pub take-length : (text : Text) (end : ℕ) → end ≡ length text → take end text ≡ text
take-length text end is = take_all end text (omega arith)

-- how many bytes stand before the first line feed
abbrev pub feed_place : Text → ℕ
feed_place text = position_or_len is_feed text

-- what a search for the first line feed answers, with the text's length where there is none
pub unwrap_or-feed_place : (text : Text) (found : Option ℕ) → found ≡ cond (nat_lt (feed_place text) (length text)) (Some (feed_place text)) None → unwrap_or found (length text) ≡ feed_place text
unwrap_or-feed_place text found is = let within = prefix_len-le-length (λ b. not (is_feed b)) text in rw is (grind (arith, nat_tests))

pub feed_place-le-length : (text : Text) → feed_place text ≤ length text
feed_place-le-length text = prefix_len-le-length (λ b. not (is_feed b)) text

-- the byte there is a line feed
pub byte-feed_place : (text : Text) → feed_place text < length text → get_or text (feed_place text) 0 ≡ 10
byte-feed_place text within = let passes = passes_at_first is_feed text 0 within in grind (arith, nat_tests)

-- a text may be cut before its first line feed
pub IsCharBoundary-feed_place : (text : Text) (end : ℕ) → end ≡ feed_place text → IsCharBoundary text end
IsCharBoundary-feed_place text end is =
    (omega (arith, feed_place-le-length text), λ within high. absurd (let feed = byte-feed_place text (rw (← is) within) in omega (arith, ap (λ n. get_or text n 0) is)))

-- and after it
pub IsCharBoundary-past_feed : (text : Text) (end : ℕ) → IsUtf8 text → end ≡ feed_place text → end < length text → IsCharBoundary text (end + 1)
IsCharBoundary-past_feed text end utf8 is within =
    IsCharBoundary-after_ascii text end utf8 within (let feed = byte-feed_place text (rw (← is) within) in omega (arith, ap (λ n. get_or text n 0) is))

-- a text with no line feed is its one line
split-none : (text : Text) → feed_place text ≡ length text → slice_split is_feed text ≡ text ∷ []
split-none [] none = refl
split-none (b ∷ bs) none =
    elim (is_feed b) as (λ v. cond (not v) (1 + feed_place bs) 0 ≡ suc (length bs) → cond v ([] ∷ slice_split is_feed bs) (onto_first b (slice_split is_feed bs)) ≡ (b ∷ bs) ∷ []) [
      | true ↦ λ e. absurd (omega (arith, e))
      | false ↦ λ e. ap (λ z. onto_first b z) (split-none bs (omega (arith, e)))
    ] none

pub lines_of-one : (text : Text) → feed_place text ≡ length text → lines_of text ≡ text ∷ []
unfolding lines_of
lines_of-one text none = split-none text none

-- the first line of a text that has a line feed, and the lines of the rest
pub lines_of-first : (text : Text) → feed_place text < length text → lines_of text ≡ before_first is_feed text ∷ lines_of (after_first is_feed text)
unfolding lines_of
lines_of-first text within = slice_split_first is_feed text 0 within

-- one line more than line feeds
pub length-lines_of : (text : Text) → length (lines_of text) ≡ count_by is_feed text + 1
unfolding lines_of
length-lines_of text = length-slice_split is_feed text

onto_first-append : {X : Type 0} (x : X) (parts more : List (List X)) → 0 < length parts → onto_first x (parts ++ more) ≡ onto_first x parts ++ more
onto_first-append x [] more h = absurd (omega arith)
onto_first-append x (part ∷ parts) more h = refl

split-at_feed : (front rest : Text) → slice_split is_feed (front ++ 10 ∷ rest) ≡ slice_split is_feed front ++ slice_split is_feed rest
split-at_feed [] rest = refl
split-at_feed (b ∷ bs) rest =
    elim (is_feed b) as (λ v. cond v ([] ∷ slice_split is_feed (bs ++ 10 ∷ rest)) (onto_first b (slice_split is_feed (bs ++ 10 ∷ rest))) ≡ cond v ([] ∷ slice_split is_feed bs) (onto_first b (slice_split is_feed bs)) ++ slice_split is_feed rest) [
      | true ↦ ap (λ z. [] ∷ z) (split-at_feed bs rest)
      | false ↦ ap (onto_first b) (split-at_feed bs rest) ∙ onto_first-append b (slice_split is_feed bs) (slice_split is_feed rest) (omega (arith, length-slice_split is_feed bs))
    ]

-- the lines after a line feed are the last ones of all
pub lines_of-past_feed : (front rest : Text) → lines_of rest ≡ drop (count_by is_feed (front ++ 10 ∷ [])) (lines_of (front ++ 10 ∷ rest))
unfolding lines_of
lines_of-past_feed front rest =
    let many : length (slice_split is_feed front) ≡ count_by is_feed (front ++ 10 ∷ []) = omega (arith, length-slice_split is_feed front, sum_by-append (λ b. cond (is_feed b) 1 0) front (10 ∷ [])) in
    sym (ap (drop (count_by is_feed (front ++ 10 ∷ []))) (split-at_feed front rest) ∙ drop_at (slice_split is_feed front) (slice_split is_feed rest) (count_by is_feed (front ++ 10 ∷ [])) many)

-- the first line feed ends the first line, which loses a carriage return before it
pub first_line_of-first : (text line rest : Text) → lines_of text ≡ line ∷ lines_of rest → first_line_of text ≡ without_return line
unfolding first_line_of
first_line_of-first text line rest cut = ap first_of_lines cut ∙ elim (lines_of rest) as (λ v. 0 < length v → first_of_lines (line ∷ v) ≡ without_return line) [
  | [] ↦ λ some. absurd (omega arith)
  | next ∷ lines ↦ λ some. refl
] (omega (arith, length-lines_of rest))

pub first_line_of-one : (text line : Text) → lines_of text ≡ line ∷ [] → first_line_of text ≡ line
unfolding first_line_of
first_line_of-one text line one = ap first_of_lines one

pub without_return-return : (front : Text) → without_return (front ++ 13 ∷ []) ≡ front
without_return-return [] = refl
without_return-return (b ∷ []) = refl
without_return-return (b ∷ c ∷ bs) = ap (λ z. b ∷ z) (without_return-return (c ∷ bs))

pub without_return-other : (line : Text) → ((front : Text) → line ≢ front ++ 13 ∷ []) → without_return line ≡ line
without_return-other [] other = refl
without_return-other (b ∷ []) other =
    elim (b == 13) as (λ v. (b == 13) ≡ v → cond v [] (b ∷ []) ≡ b ∷ []) [
      | true ↦ λ e. absurd (other [] (ap (λ z. z ∷ []) (grind (arith, nat_tests, e))))
      | false ↦ λ e. refl
    ] refl
without_return-other (b ∷ c ∷ bs) other = ap (λ z. b ∷ z) (without_return-other (c ∷ bs) (λ front e. other (b ∷ front) (ap (λ z. b ∷ z) e)))

-- the same, where the return was taken off if there was one
pub without_return-stripped : (line : Bor Text) (stripped : Option (Bor Text)) → MatchOption stripped ((front : Text) → line.now ≢ front ++ 13 ∷ []) (λ front. line.now ≡ front.now ++ 13 ∷ []) → (unwrap_or stripped line).now ≡ without_return line.now
without_return-stripped line None cases = sym (without_return-other line.now cases)
without_return-stripped line (Some front) cases = sym (ap without_return cases ∙ without_return-return front.now)

-- ---- texts whose width is their length, and the width of the widest line

byte-plain : (b : ℕ) → is_plain_byte b ≡ true → (b < 128) × ((b == 10) ≡ false)
byte-plain b h = (grind (arith, nat_tests), grind (arith, nat_tests))

plain-parts : (b : ℕ) (bs : Text) → list_all is_plain_byte (b ∷ bs) ≡ true → (b < 128) × ((b == 10) ≡ false) × (list_all is_plain_byte bs ≡ true)
plain-parts b bs h =
    let parts = and_parts (is_plain_byte b) (list_all is_plain_byte bs) h in
    let here = byte-plain b parts.0 in
    (here.0, here.1, parts.1)

IsAscii-plain : (bs : Text) → list_all is_plain_byte bs ≡ true → IsAscii bs
IsAscii-plain [] h i = omega arith
IsAscii-plain (b ∷ bs) h zero = (plain-parts b bs h).0
IsAscii-plain (b ∷ bs) h (suc i) = IsAscii-plain bs (plain-parts b bs h).2 i

-- an ASCII character that is no line feed takes one column
step-plain : (c total : ℕ) → c < 128 → (c == 10) ≡ false → step false c (total, plain) ≡ (total + 1, plain)
unfolding step past_emoji
step-plain c total ascii other = grind (arith, nat_tests)

read_before-plain : (bs : Text) → list_all is_plain_byte bs ≡ true → read_before false bs (0, plain) ≡ (length bs, plain)
read_before-plain [] h = refl
read_before-plain (b ∷ bs) h =
    let parts = plain-parts b bs h in
    ap (step false b) (read_before-plain bs parts.2) ∙ step-plain b (length bs) parts.0 parts.1 ∙ ap (λ n. (n, plain)) (omega arith)

pub width_of-plain : (bs : Text) → list_all is_plain_byte bs ≡ true → width_of bs ≡ length bs
unfolding width_of str_width
width_of-plain bs h = ap (str_width false) (chars-IsAscii bs (IsAscii-plain bs h)) ∙ ap (λ r. r.0) (read_before-plain bs h)

pub feed_place-plain : (bs : Text) → list_all is_plain_byte bs ≡ true → feed_place bs ≡ length bs
feed_place-plain [] h = refl
feed_place-plain (b ∷ bs) h =
    let parts = plain-parts b bs h in
    ap (λ v. cond (not v) (1 + feed_place bs) 0) parts.1 ∙ omega (arith, feed_place-plain bs parts.2)

pub text_width_of-plain : (bs : Text) → list_all is_plain_byte bs ≡ true → text_width_of bs ≡ length bs
unfolding text_width_of
text_width_of-plain bs h = ap (λ lines. greatest (map width_of lines)) (lines_of-one bs (feed_place-plain bs h)) ∙ omega (arith, width_of-plain bs h)

-- the widest line, found by going over the lines
fold-greatest : (lines : List Text) (width : ℕ) → fold (λ w line. max w (width_of line)) width lines ≡ max width (greatest (map width_of lines))
fold-greatest [] width = omega arith
fold-greatest (line ∷ lines) width = fold-greatest lines (max width (width_of line)) ∙ omega arith

pub text_width_of-fold : (text : Text) → fold (λ w line. max w (width_of line)) 0 (lines_of text) ≡ text_width_of text
unfolding text_width_of
text_width_of-fold text = fold-greatest (lines_of text) 0 ∙ omega arith

-- ---- a cursor's place in a text, and the line that begins there

pub StandsIn-start : (text : Text) → StandsIn 0 text
unfolding stands_in
StandsIn-start text = refl

pub line_number-start : (text : Text) → line_number 0 text ≡ 0
unfolding line_number
line_number-start text = refl

-- the byte before a line is a line feed
byte-before : (place : ℕ) (text : Text) → 0 < place → StandsIn place text → get_or (ended text) (place - 1) 0 ≡ 10
unfolding stands_in
byte-before place text some stands = grind (arith, nat_tests)

-- and where it is one, a line begins
StandsIn-after : (place before : ℕ) (text : Text) → before + 1 ≡ place → get_or (ended text) before 0 ≡ 10 → StandsIn place text
unfolding stands_in
StandsIn-after place before text next feed =
    let same : place - 1 ≡ before = omega arith in
    let here : get_or (ended text) (place - 1) 0 ≡ 10 = ap (λ n. get_or (ended text) n 0) same ∙ feed in
    grind (arith, nat_tests)

-- past the end of a list its numbers read as 0
get_or-past : (bs : Text) (i : ℕ) → length bs ≤ i → get_or bs i 0 ≡ 0
get_or-past [] i past = refl
get_or-past (b ∷ bs) zero past = absurd (omega arith)
get_or-past (b ∷ bs) (suc i) past = get_or-past bs i (omega arith)

-- so a line feed is read only within it
place-within : (bs : Text) (i : ℕ) → get_or bs i 0 ≡ 10 → i < length bs
place-within [] i feed = absurd (omega (arith, feed))
place-within (b ∷ bs) zero feed = omega arith
place-within (b ∷ bs) (suc i) feed = omega (arith, place-within bs i feed)

length-ended : (text : Text) → length (ended text) ≡ length text + 1
length-ended text = length-append text (10 ∷ [])

-- a cursor past a text's end is one byte past it
pub place-le : (place : ℕ) (text : Text) → StandsIn place text → place ≤ length text + 1
place-le zero text stands = omega arith
place-le (suc n) text stands =
    let within : suc n - 1 < length (ended text) = place-within (ended text) (suc n - 1) (byte-before (suc n) text (omega arith) stands) in
    omega (arith, length-ended text)

-- the byte before a line that is not past the text's end
feed-before : (place : ℕ) (text : Text) → 0 < place → place ≤ length text → StandsIn place text → get_or text (place - 1) 0 ≡ 10
feed-before place text some within stands = sym (get_or_append_left text (10 ∷ []) 0 (place - 1) (omega arith)) ∙ byte-before place text some stands

-- the three answers of the test
pub stands_in-start : (place : ℕ) (text : Text) → place ≡ 0 → true ≡ stands_in place text
unfolding stands_in
stands_in-start place text start = grind (arith, nat_tests)

pub stands_in-within : (place : ℕ) (text : Text) → place ≢ 0 → place - 1 < length text → (get_or text (place - 1) 0 == 10) ≡ stands_in place text
unfolding stands_in
stands_in-within place text some within =
    let same = get_or_append_left text (10 ∷ []) 0 (place - 1) within in
    grind (arith, nat_tests)

pub stands_in-end : (place : ℕ) (text : Text) → place ≢ 0 → length text ≤ place - 1 → (place - 1 == length text) ≡ stands_in place text
unfolding stands_in
stands_in-end place text some past =
    let last : place - 1 ≡ length text → get_or (ended text) (place - 1) 0 ≡ 10 = λ h. get_or_at text 10 [] 0 (place - 1) (sym h) in
    let after : length text + 1 ≤ place - 1 → get_or (ended text) (place - 1) 0 ≡ 0 = λ h. get_or-past (ended text) (place - 1) (omega (arith, length-ended text)) in
    grind (arith, nat_tests)

-- a text may be cut where a line begins
pub IsCharBoundary-place : (place : ℕ) (text : Text) → IsUtf8 text → StandsIn place text → place ≤ length text → 0 < place → IsCharBoundary text place
IsCharBoundary-place place text utf8 stands within some =
    let next : place - 1 + 1 ≡ place = omega arith in
    let P : ℕ → Type 0 = λ n. IsCharBoundary text n in
    subst P next (IsCharBoundary-after_ascii text (place - 1) utf8 (omega arith) (omega (arith, feed-before place text some within stands)))

-- the lines after the line feed at n are the last ones of all
lines_of-past : (n : ℕ) (text : Text) → n < length text → get_or text n 0 ≡ 10 → lines_of (drop (n + 1) text) ≡ drop (count_by is_feed (take (n + 1) (ended text))) (lines_of text)
lines_of-past n text within feed =
    let front = take n text in
    let rest = drop (n + 1) text in
    let whole : text ≡ front ++ 10 ∷ rest = sym (take-append-drop n text) ∙ ap (λ z. front ++ z) (drop_more text n 0 within ∙ ap (λ b. b ∷ rest) feed) in
    let begun : take (n + 1) (ended text) ≡ front ++ 10 ∷ [] = take-append-le (n + 1) text (10 ∷ []) (omega arith) ∙ take_more text n 0 within ∙ ap (λ b. front ++ b ∷ []) feed in
    lines_of-past_feed front rest
    ∙ ap (λ z. drop (count_by is_feed z) (lines_of (front ++ 10 ∷ rest))) (sym begun)
    ∙ ap (λ z. drop (count_by is_feed (take (n + 1) (ended text))) (lines_of z)) (sym whole)

-- the lines from a cursor on
lines_of-place : (place : ℕ) (text : Text) → StandsIn place text → place ≤ length text → lines_of (drop place text) ≡ drop (line_number place text) (lines_of text)
unfolding line_number
lines_of-place zero text stands within = refl
lines_of-place (suc n) text stands within =
    let same : suc n - 1 ≡ n = omega arith in
    let feed : get_or text n 0 ≡ 10 = ap (λ k. get_or text k 0) (sym same) ∙ feed-before (suc n) text (omega arith) within stands in
    let P : ℕ → Type 0 = λ k. lines_of (drop k text) ≡ drop (count_by is_feed (take k (ended text))) (lines_of text) in
    subst P (add-one n) (lines_of-past n text (omega arith) feed)

onto_first-head : (b : ℕ) (parts : List Text) (part : Text) → slice_get parts 0 ≡ Some part → slice_get (onto_first b parts) 0 ≡ Some (b ∷ part)
onto_first-head b [] part is = cc
onto_first-head b (first ∷ parts) part is = cc

split-head : (text : Text) → slice_get (slice_split is_feed text) 0 ≡ Some (take (feed_place text) text)
split-head [] = refl
split-head (b ∷ bs) =
    elim (is_feed b) as (λ v. slice_get (cond v ([] ∷ slice_split is_feed bs) (onto_first b (slice_split is_feed bs))) 0 ≡ Some (take (cond (not v) (1 + feed_place bs) 0) (b ∷ bs))) [
      | true ↦ refl
      | false ↦ let more : suc (feed_place bs) ≡ 1 + feed_place bs = omega arith in onto_first-head b (slice_split is_feed bs) (take (feed_place bs) bs) (split-head bs) ∙ ap (λ n. Some (take n (b ∷ bs))) more
    ]

-- the first line ends at the first line feed
lines_of-head : (text : Text) → slice_get (lines_of text) 0 ≡ Some (take (feed_place text) text)
unfolding lines_of
lines_of-head text = split-head text

slice_get-drop : (lines : List Text) (k : ℕ) → slice_get lines k ≡ slice_get (drop k lines) 0
slice_get-drop [] zero = refl
slice_get-drop [] (suc k) = refl
slice_get-drop (line ∷ lines) zero = refl
slice_get-drop (line ∷ lines) (suc k) = slice_get-drop lines k

-- the line at which a cursor stands ends before the next line feed
pub slice_get-line_number : (place : ℕ) (text : Text) → StandsIn place text → place ≤ length text → slice_get (lines_of text) (line_number place text) ≡ Some (take (feed_place (drop place text)) (drop place text))
slice_get-line_number place text stands within =
    slice_get-drop (lines_of text) (line_number place text) ∙ ap (λ lines. slice_get lines 0) (sym (lines_of-place place text stands within)) ∙ lines_of-head (drop place text)

byte-ended : (text : Text) → get_or (ended text) (feed_place text) 0 ≡ 10
byte-ended [] = refl
byte-ended (b ∷ bs) =
    elim (is_feed b) as (λ v. (b == 10) ≡ v → get_or (b ∷ ended bs) (cond (not v) (1 + feed_place bs) 0) 0 ≡ 10) [
      | true ↦ λ e. grind (arith, nat_tests)
      | false ↦ λ e. let more : 1 + feed_place bs ≡ suc (feed_place bs) = omega arith in ap (λ n. get_or (b ∷ ended bs) n 0) more ∙ byte-ended bs
    ] refl

count-front : (b n : ℕ) (bs : Text) → count_by is_feed (take (suc n) (b ∷ bs)) ≡ 0 + cond (is_feed b) 1 0 + count_by is_feed (take n bs)
count-front b n bs = sum_by-append (λ x. cond (is_feed x) 1 0) (b ∷ []) (take n bs)

count-ended : (text : Text) → count_by is_feed (take (feed_place text + 1) (ended text)) ≡ 1
count-ended [] = refl
count-ended (b ∷ bs) =
    elim (is_feed b) as (λ v. is_feed b ≡ v → count_by is_feed (take (cond (not v) (1 + feed_place bs) 0 + 1) (b ∷ ended bs)) ≡ 1) [
      | true ↦ λ e. ap (λ v. 0 + cond v 1 0) e
      | false ↦ λ e. let more : 1 + feed_place bs + 1 ≡ suc (feed_place bs + 1) = omega arith in ap (λ n. count_by is_feed (take n (b ∷ ended bs))) more ∙ count-front b (feed_place bs + 1) (ended bs) ∙ ap (λ v. 0 + cond v 1 0 + count_by is_feed (take (feed_place bs + 1) (ended bs))) e ∙ omega (arith, count-ended bs)
    ] refl

-- the next line begins one byte past the line feed
pub StandsIn-next : (place : ℕ) (text : Text) → place ≤ length text → StandsIn (place + (feed_place (drop place text) + 1)) text
StandsIn-next place text within =
    let end = feed_place (drop place text) in
    StandsIn-after (place + (end + 1)) (place + end) text (omega arith)
    (sym (get_or-drop place (ended text) end 0) ∙ ap (λ z. get_or z end 0) (drop-append-le place text (10 ∷ []) within) ∙ byte-ended (drop place text))

take-add : (m n : ℕ) (bs : Text) → take (m + n) bs ≡ take m bs ++ take n (drop m bs)
take-add m n bs = sym (take-append-drop m (take (m + n) bs)) ∙ ap (λ z. z ++ drop m (take (m + n) bs)) (take-take m (m + n) bs (omega arith)) ∙ ap (λ z. take m bs ++ z) (drop-take m n bs)

line_number-more : (place : ℕ) (text : Text) → place ≤ length text → line_number (place + (feed_place (drop place text) + 1)) text ≡ line_number place text + 1
unfolding line_number
line_number-more place text within =
    let end = feed_place (drop place text) in
    let gone = take place (ended text) in
    ap (count_by is_feed) (take-add place (end + 1) (ended text)) ∙ sum_by-append (λ b. cond (is_feed b) 1 0) gone (take (end + 1) (drop place (ended text)))
    ∙ ap (λ z. count_by is_feed gone + count_by is_feed (take (end + 1) z)) (drop-append-le place text (10 ∷ []) within)
    ∙ ap (λ n. count_by is_feed gone + n) (count-ended (drop place text))

pub line_number-next : (place : ℕ) (text : Text) → StandsIn place text → place ≤ length text → line_number (place + (feed_place (drop place text) + 1)) text ≡ min (line_number place text + 1) (length (lines_of text))
line_number-next place text stands within =
    let inside = slice_get_within (lines_of text) (line_number place text) (take (feed_place (drop place text)) (drop place text)) (slice_get-line_number place text stands within) in
    line_number-more place text within ∙ omega arith

-- past the text's end all lines have ended
pub line_number-end : (place : ℕ) (text : Text) → length text < place → line_number place text ≡ length (lines_of text)
unfolding line_number
line_number-end place text past =
    ap (count_by is_feed) (take_all place (ended text) (omega (arith, length-ended text))) ∙ sum_by-append (λ b. cond (is_feed b) 1 0) text (10 ∷ []) ∙ sym (length-lines_of text)

pub slice_get-end : (place : ℕ) (text : Text) → length text < place → slice_get (lines_of text) (line_number place text) ≡ None
slice_get-end place text past = slice_get_past (lines_of text) (line_number place text) (omega (arith, line_number-end place text past))

-- ---- a line whose white space is told by its bytes

-- a byte of ASCII white space, and one that is seen
white : (b : ℕ) → is_ascii_whitespace b ≡ true → (is_whitespace b ≡ true) × (b < 128)
white b h = (grind (arith, nat_tests), grind (arith, nat_tests))

seen : (b : ℕ) → is_ascii_graphic b ≡ true → (is_whitespace b ≡ false) × (b < 128)
seen b h = (grind (arith, nat_tests), grind (arith, nat_tests))

-- an ASCII byte is a character
chars-ascii : (b : ℕ) (bs : Text) → b < 128 → chars (b ∷ bs) ≡ b ∷ chars bs
chars-ascii b bs low =
    let one : IsAscii (b ∷ []) = IsAscii-cons b [] low (λ i. omega arith) in
    chars-append (b ∷ []) bs (IsUtf8-from_ascii (b ∷ []) one) ∙ ap (λ l. l ++ chars bs) (chars-IsAscii (b ∷ []) one)

-- white bytes at the start may be cut off first
trim_start-below : (bs : Text) (n : ℕ) → IsAsciiWhitespaceBelow bs n → trim_start (drop n bs) ≡ trim_start bs
unfolding trim_start
trim_start-below bs zero below = refl
trim_start-below [] (suc n) below = refl
trim_start-below (b ∷ bs) (suc n) below =
    let here = white b (below 0 (omega arith)) in
    trim_start-below bs n (λ i l. below (suc i) (omega arith))
    ∙ ap (λ v. encode_utf8_all (cond v (skip_leading_whitespace (chars bs)) (b ∷ chars bs))) (sym here.0)
    ∙ ap (λ cs. encode_utf8_all (skip_leading_whitespace cs)) (sym (chars-ascii b bs here.1))

-- a text that begins with a byte that is seen stays
trim_start-seen : (bs : Text) → (0 < length bs → IsUtf8 bs × (is_ascii_graphic (get_or bs 0 0) ≡ true)) → trim_start bs ≡ bs
unfolding trim_start
trim_start-seen [] first = ap (λ cs. encode_utf8_all (skip_leading_whitespace cs)) chars-nil
trim_start-seen (b ∷ bs) first =
    let is = first (omega arith) in
    let here = seen b is.1 in
    let spelt = chars-ascii b bs here.1 in
    ap (λ cs. encode_utf8_all (skip_leading_whitespace cs)) spelt
    ∙ ap (λ v. encode_utf8_all (cond v (skip_leading_whitespace (chars bs)) (b ∷ chars bs))) here.0
    ∙ ap encode_utf8_all (sym spelt) ∙ encodes-chars (b ∷ bs) is.0

-- of white bytes no character is left
drop_trailing-white : (bs : Text) → IsAsciiWhitespaceFrom bs 0 → drop_trailing_whitespace (chars bs) ≡ []
drop_trailing-white [] all = ap drop_trailing_whitespace chars-nil
drop_trailing-white (b ∷ bs) all =
    let here = white b (all 0 (omega arith) (omega arith)) in
    let rest = drop_trailing-white bs (λ i _ l. all (suc i) (omega arith) (omega arith)) in
    ap drop_trailing_whitespace (chars-ascii b bs here.1)
    ∙ (λ k. cond (here.0 k && (length (rest k) == 0)) [] (b ∷ drop_trailing_whitespace (chars bs)))

-- characters are cut off up to the last one that is not white
drop_trailing-seen : (c : ℕ) (ds cs : List ℕ) → is_whitespace c ≡ false → drop_trailing_whitespace ds ≡ [] → drop_trailing_whitespace (cs ++ (c ∷ ds)) ≡ cs ++ (c ∷ [])
drop_trailing-seen c ds [] dark none = λ k. cond (dark k && (length (drop_trailing_whitespace ds) == 0)) [] (c ∷ none k)
drop_trailing-seen c ds (d ∷ cs) dark none =
    let left : List ℕ = drop_trailing_whitespace (cs ++ (c ∷ ds)) in
    let more : left ≡ cs ++ (c ∷ []) = drop_trailing-seen c ds cs dark none in
    let some : (length left == 0) ≡ false = let long = ap length more ∙ length-append cs (c ∷ []) in grind (arith, nat_tests) in
    elim (is_whitespace d) as (λ v. cond (v && (length left == 0)) [] (d ∷ left) ≡ d ∷ (cs ++ (c ∷ []))) [
      | true ↦ ap (λ v. cond v [] (d ∷ left)) some ∙ ap (λ l. d ∷ l) more
      | false ↦ ap (λ l. d ∷ l) more
    ]

-- a text that is white from n on, and seen before it
trim_end-from : (bs : Text) (n : ℕ) → n ≤ length bs → IsAsciiWhitespaceFrom bs n → (0 < n → IsUtf8 bs × (is_ascii_graphic (get_or bs (n - 1) 0) ≡ true)) → take n bs ≡ trim_end bs
unfolding trim_end
trim_end-from bs zero fits from last = ap encode_utf8_all (sym (drop_trailing-white bs from))
trim_end-from bs (suc n) fits from last =
    let is = last (omega arith) in
    let b = get_or bs n 0 in
    let back : n ≡ suc n - 1 = omega arith in
    let here = seen b (ap (λ k. is_ascii_graphic (get_or bs k 0)) back ∙ is.1) in
    let front = IsUtf8-take bs n is.0 (IsCharBoundary-before_ascii bs n fits here.1) in
    let spelt : chars bs ≡ chars (take n bs) ++ (b ∷ chars (drop (suc n) bs)) =
    ap chars (sym (take-append-drop n bs)) ∙ chars-append (take n bs) (drop n bs) front
    ∙ ap (λ l. chars (take n bs) ++ l) (ap chars (drop-cons bs n 0 fits) ∙ chars-ascii b (drop (suc n) bs) here.1) in
    let none = drop_trailing-white (drop (suc n) bs) (λ i _ l. ap is_ascii_whitespace (get_or-drop (suc n) bs i 0) ∙ from (suc n + i) (omega arith) (omega (arith, length-drop (suc n) bs))) in
    take-suc bs n 0 fits
    ∙ (λ k. sym (encodes-chars (take n bs) front) k ++ (sym (encode_ascii b here.1) k ++ []))
    ∙ sym (encodes-append (chars (take n bs)) (b ∷ []))
    ∙ ap encode_utf8_all (sym (ap drop_trailing_whitespace spelt ∙ drop_trailing-seen b (chars (drop (suc n) bs)) (chars (take n bs)) here.0 none))

-- whether bytes are none, or begin and end with one that is seen
abbrev pub has_seen_ends : Text → Bool
has_seen_ends bs = length bs == 0 || (is_ascii_graphic (get_or bs 0 0) && is_ascii_graphic (get_or bs (length bs - 1) 0))

-- without its ASCII white space a line is trimmed, if nothing is left or both of its ends are seen
pub trim-seen_ends : (line inner : Text) → IsUtf8 line → IsTrimAscii line inner → has_seen_ends inner ≡ true → inner ≡ trim line
trim-seen_ends line inner utf8 cut ends =
    let left : Text = drop cut.0 line in
    let fits : length inner ≤ length left = omega (arith, ap length cut.1, length-take (length inner) left) in
    let both : 0 < length inner → (is_ascii_graphic (get_or inner 0 0) ≡ true) × (is_ascii_graphic (get_or inner (length inner - 1) 0) ≡ true) = λ some.
    and_parts _ _ (let none : (length inner == 0) ≡ false = grind (arith, nat_tests) in ap (λ v. v || (is_ascii_graphic (get_or inner 0 0) && is_ascii_graphic (get_or inner (length inner - 1) 0))) (sym none) ∙ ends) in
    let same : (i : ℕ) → i < length inner → get_or left i 0 ≡ get_or inner i 0 = λ i l. sym (ap (λ z. get_or z i 0) cut.1 ∙ get_or-take (length inner) left i 0 l) in
    let first : 0 < length left → is_ascii_graphic (get_or left 0 0) ≡ true = λ some. ⊎_elim
    (λ none. absurd (true≢false (sym (cut.4 0 (omega arith) some) ∙ ap is_ascii_whitespace (get_or-drop cut.0 line 0 0 ∙ ap (λ k. get_or line k 0) (omega arith)) ∙ cut.3 (omega (arith, length-drop cut.0 line)))))
    (λ l. ap is_ascii_graphic (same 0 l) ∙ (both l).0)
    (eq-zero-or-pos (length inner)) in
    let begun : 0 < length left → IsUtf8 left = λ some.
    let low : get_or left 0 0 < 128 = (seen (get_or left 0 0) (first some)).1 in
    let here : cut.0 + 0 ≡ cut.0 = omega arith in
    let byte : get_or left 0 0 ≡ get_or line cut.0 0 = get_or-drop cut.0 line 0 0 ∙ ap (λ k. get_or line k 0) here in
    IsUtf8-drop line cut.0 utf8 (IsCharBoundary-before_ascii line cut.0 (omega (arith, length-drop cut.0 line)) (omega arith)) in
    cut.1
    ∙ trim_end-from left (length inner) fits cut.4 (λ some. (begun (omega arith), ap is_ascii_graphic (same (length inner - 1) (omega arith)) ∙ (both some).1))
    ∙ ap trim_end (sym (trim_start-seen left (λ some. (begun some, first some))) ∙ trim_start-below line cut.0 cut.2)

-- ---- the greatest of what a function gives over a range of numbers

greatest-append : (xs ys : List ℕ) → greatest (xs ++ ys) ≡ max (greatest xs) (greatest ys)
greatest-append [] ys = omega arith
greatest-append (x ∷ xs) ys = let ih = greatest-append xs ys in omega (arith, ih)

-- it is no less than any of them
pub greatest-reaches : (f : ℕ → ℕ) (a n y : ℕ) → a ≤ y → y < a + n → f y ≤ greatest (map f (range_with_len a n))
greatest-reaches f a zero y h l = absurd (omega (arith, h, l))
greatest-reaches f a (suc n) y h l =
    elim (cases_Bool (y == a)) [
      | inl e ↦ let same : y ≡ a = eqb-true y a e in let is = ap f same in omega (arith, is)
      | inr e ↦ let more : a + 1 ≤ y = grind (arith, nat_tests, h, e) in let ih = greatest-reaches f (a + 1) n y more (omega (arith, l)) in omega (arith, ih)
    ]

-- one number more
pub greatest-more : (f : ℕ → ℕ) (n : ℕ) → greatest (map f (range_with_len 0 (n + 1))) ≡ max (greatest (map f (range_with_len 0 n))) (f n)
greatest-more f n =
    let listed = ap greatest (map-range_with_len_more f 0 n n (omega arith)) in
    let parts = greatest-append (map f (range_with_len 0 n)) (f n ∷ []) in
    omega (arith, listed, parts)

-- where a cursor stands, and at which line
pub ruleset places_of_lines = (StandsIn-start, line_number-start, stands_in-start, stands_in-within, stands_in-end)

-- how many lines a text has: one more than line feeds
pub ruleset numbers_of_lines = (length-lines_of, length-filter, YieldsList-from_slice, YieldsList-from_filter)

-- how wide plain lines are
pub ruleset plain_widths = (width_of-plain, text_width_of-plain)

-- lines without white space at their ends
pub ruleset trimmed_lines = (trim-seen_ends)

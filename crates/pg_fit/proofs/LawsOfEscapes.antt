-- Texts without escape sequences: what a terminal reads character by character, and what is shown.
use Rattle.std.proofs.Common.{ap, append_assoc, ◌++◌, ◌&&◌, ◌≡◌, ◌-◌, ◌≤◌, ℕ, suc, zero, true, false, cond, List, [], ◌∷◌, chars, Bool, refl, sym, ◌∙◌, arith, not, ◌||◌, ◌==◌, count_by, subst}
use Rattle.std.specs.List.{list_all}
use Rattle.std.specs.Int.{is_in_range}
use Rattle.std.proofs.lemmas.Bool.{and_parts}
use Rattle.std.proofs.lemmas.Bool.Decides.{nat_tests}
use Rattle.std.specs.Str.{IsUtf8, encode_utf8_all}
use Rattle.std.proofs.lemmas.Str.{encodes-chars, scalars-chars, chars-encodes}
use Rattle.std.proofs.lemmas.Grind.{common_steps}
use Rattle.std.proofs.Math.Utf8.{encode, scalars, scalar}
use Rattle.pg_fit.specs.Escapes.{begins_string, control_length, ends_string, final_length, run_length, sequence_length, short_length, shown_behind, string_length, terminator_length, unread, without_escapes}
use Rattle.pg_fit.specs.Laws.{NoEscapesAreLeft, TextsWithoutEscapesStay, LineFeedsStay}
use Rattle.pg_fit.specs.declared.escapes.Reading.{Reading}
use Rattle.pg_fit.specs.declared.escapes.Reading.TheVariants.{Shown, Escaped, Short, ControlSequence, ControlString}

-- ---- a terminal reads one character after another

-- a character from a space to `/` isn't the last one of a short sequence
abbrev short : ℕ → Reading
short c = cond (is_in_range 0x20 0x2F c) Short Shown

-- where a character leads that is neither an escape nor a line feed
abbrev within : Reading → ℕ → Reading
within Shown c = Shown
within Escaped c = cond (c == 0x5B) ControlSequence (cond (begins_string c) ControlString (short c))
within Short c = short c
within ControlSequence c = cond (is_in_range 0x20 0x3F c) ControlSequence Shown
within ControlString c = cond (ends_string c) Shown ControlString

-- an escape begins a sequence anywhere, and a line feed ends one
abbrev pub after : Reading → ℕ → Reading
after r c = cond (c == 27) Escaped (cond (c == 10) Shown (within r c))

-- a character that is neither of the two is no part of a sequence there
abbrev is_outside : Reading → ℕ → Bool
is_outside Shown c = true
is_outside Escaped c = not (is_in_range 0x20 0x7E c)
is_outside Short c = not (is_in_range 0x20 0x7E c)
is_outside ControlSequence c = not (is_in_range 0x20 0x7E c)
is_outside ControlString c = false

abbrev pub is_shown : Reading → ℕ → Bool
is_shown r c = not (c == 27) && ((c == 10) || is_outside r c)

-- ---- what is left to read of a sequence

same : (n c : ℕ) → (c == n) ≡ true → n ≡ c
same n c h = grind (arith, nat_tests)

-- nothing at a line feed
at-feed : (r : Reading) (rest : List ℕ) → unread r (10 ∷ rest) ≡ 0
at-feed Shown rest = refl
at-feed Escaped rest = refl
at-feed Short rest = refl
at-feed ControlSequence rest = refl
at-feed ControlString [] = refl
at-feed ControlString (c ∷ cs) = refl

terminator-one : (c : ℕ) (rest : List ℕ) → ends_string c ≡ true → terminator_length (c ∷ rest) ≡ 1
terminator-one c [] ends = ap (λ v. cond v 1 0) ends
terminator-one c (d ∷ cs) ends = ap (λ v. cond v 1 (cond ((c == 27) && (d == 0x5C)) 2 0)) ends

-- a string goes on at any other character
string-more : (c : ℕ) (rest : List ℕ) → ends_string c ≡ false → (c == 27) ≡ false → (c == 10) ≡ false → string_length (c ∷ rest) ≡ suc (string_length rest)
string-more c rest goes no_escape no_feed =
    ap (λ v. cond (not (v || (c == 27) || (c == 10))) (suc (string_length rest)) (terminator_length (c ∷ rest))) goes
    ∙ ap (λ v. cond (not (v || (c == 10))) (suc (string_length rest)) (terminator_length (c ∷ rest))) no_escape
    ∙ ap (λ v. cond (not v) (suc (string_length rest)) (terminator_length (c ∷ rest))) no_feed

final-less : (first last c : ℕ) (rest : List ℕ) → 0 ≡ final_length first last (c ∷ rest) - 1
final-less first last c rest = elim (is_in_range first last c) as (λ v. 0 ≡ cond v 1 0 - 1) [ true ↦ refl | false ↦ refl ]

short-less : (c : ℕ) (rest : List ℕ) → unread (short c) rest ≡ short_length (c ∷ rest) - 1
short-less c rest = elim (is_in_range 0x20 0x2F c) as (λ v. unread (cond v Short Shown) rest ≡ cond v (suc (short_length rest)) (final_length 0x30 0x7E (c ∷ rest)) - 1) [
  | true ↦ omega arith
  | false ↦ final-less 0x30 0x7E c rest
]

within-less : (r : Reading) (c : ℕ) (rest : List ℕ) → (c == 27) ≡ false → (c == 10) ≡ false → unread (within r c) rest ≡ unread r (c ∷ rest) - 1
within-less Shown c rest no_escape no_feed = refl
within-less Escaped c rest no_escape no_feed =
    elim (c == 0x5B) as (λ v. unread (cond v ControlSequence (cond (begins_string c) ControlString (short c))) rest
    ≡ cond v (suc (control_length rest)) (cond (begins_string c) (suc (string_length rest)) (short_length (c ∷ rest))) - 1) [
      | true ↦ omega arith
      | false ↦ elim (begins_string c) as (λ v. unread (cond v ControlString (short c)) rest ≡ cond v (suc (string_length rest)) (short_length (c ∷ rest)) - 1) [
        | true ↦ omega arith
        | false ↦ short-less c rest
      ]
    ]
within-less Short c rest no_escape no_feed = short-less c rest
within-less ControlSequence c rest no_escape no_feed =
    elim (is_in_range 0x20 0x3F c) as (λ v. unread (cond v ControlSequence Shown) rest ≡ cond v (suc (control_length rest)) (final_length 0x40 0x7E (c ∷ rest)) - 1) [
      | true ↦ omega arith
      | false ↦ final-less 0x40 0x7E c rest
    ]
within-less ControlString c rest no_escape no_feed =
    elim (ends_string c) as (λ v. ends_string c ≡ v → unread (cond v Shown ControlString) rest ≡ string_length (c ∷ rest) - 1) [
      | true ↦ λ ends. ap (λ n. n - 1) (sym (terminator-one c rest ends)) ∙ ap (λ v. cond (not (v || (c == 27) || (c == 10))) (suc (string_length rest)) (terminator_length (c ∷ rest)) - 1) (sym ends)
      | false ↦ λ goes. let more = string-more c rest goes no_escape no_feed in omega (arith, more)
    ] refl

after-less : (r : Reading) (c : ℕ) (rest : List ℕ) → unread (after r c) rest ≡ cond (c == 27) (sequence_length rest) (unread r (c ∷ rest) - 1)
after-less r c rest =
    elim (c == 27) as (λ v. (c == 27) ≡ v → unread (cond v Escaped (cond (c == 10) Shown (within r c))) rest ≡ cond v (sequence_length rest) (unread r (c ∷ rest) - 1)) [
      | true ↦ λ is. refl
      | false ↦ λ no_escape. elim (c == 10) as (λ v. (c == 10) ≡ v → unread (cond v Shown (within r c)) rest ≡ unread r (c ∷ rest) - 1) [
        | true ↦ λ is. subst (λ d. 0 ≡ unread r (d ∷ rest) - 1) (same 10 c is) (ap (λ n. n - 1) (sym (at-feed r rest)))
        | false ↦ λ no_feed. within-less r c rest no_escape no_feed
      ] refl
    ] refl

pub left_behind : (r next : Reading) (c : ℕ) (rest : List ℕ) → next ≡ after r c → unread next rest ≡ cond (c == 27) (sequence_length rest) (unread r (c ∷ rest) - 1)
left_behind r next c rest is = ap (λ z. unread z rest) is ∙ after-less r c rest

-- ---- characters that are no part of a sequence

-- a character that neither goes on with a run nor ends it
outside-run : (last c : ℕ) (rest : List ℕ) → 0x20 ≤ last → last ≤ 0x7E
    → not (is_in_range 0x20 0x7E c) ≡ (run_length (is_in_range 0x20 last) (final_length (suc last) 0x7E) (c ∷ rest) == 0)
outside-run last c rest from to =
    let more = run_length (is_in_range 0x20 last) (final_length (suc last) 0x7E) rest in
    elim (is_in_range 0x20 last c) as (λ v. is_in_range 0x20 last c ≡ v → not (is_in_range 0x20 0x7E c) ≡ (cond v (suc more) (cond (is_in_range (suc last) 0x7E c) 1 0) == 0)) [
      | true ↦ λ is. grind (arith, nat_tests)
      | false ↦ λ other. elim (is_in_range (suc last) 0x7E c) as (λ v. is_in_range (suc last) 0x7E c ≡ v → not (is_in_range 0x20 0x7E c) ≡ (cond v 1 0 == 0)) [
        | true ↦ λ is. grind (arith, nat_tests)
        | false ↦ λ another. grind (arith, nat_tests)
      ] refl
    ] refl

begins-inside : (c n : ℕ) → begins_string c ≡ true → not (is_in_range 0x20 0x7E c) ≡ (suc n == 0)
begins-inside c n is = grind (arith, nat_tests)

bracket-inside : (c n : ℕ) → (c == 0x5B) ≡ true → not (is_in_range 0x20 0x7E c) ≡ (suc n == 0)
bracket-inside c n is = grind (arith, nat_tests)

outside-unread : (r : Reading) (c : ℕ) (rest : List ℕ) → (c == 27) ≡ false → (c == 10) ≡ false → is_outside r c ≡ (unread r (c ∷ rest) == 0)
outside-unread Shown c rest no_escape no_feed = refl
outside-unread Escaped c rest no_escape no_feed =
    elim (c == 0x5B) as (λ v. (c == 0x5B) ≡ v → not (is_in_range 0x20 0x7E c)
    ≡ (cond v (suc (control_length rest)) (cond (begins_string c) (suc (string_length rest)) (short_length (c ∷ rest))) == 0)) [
      | true ↦ λ is. bracket-inside c (control_length rest) is
      | false ↦ λ other. elim (begins_string c) as (λ v. begins_string c ≡ v → not (is_in_range 0x20 0x7E c) ≡ (cond v (suc (string_length rest)) (short_length (c ∷ rest)) == 0)) [
        | true ↦ λ is. begins-inside c (string_length rest) is
        | false ↦ λ another. outside-run 0x2F c rest (omega arith) (omega arith)
      ] refl
    ] refl
outside-unread Short c rest no_escape no_feed = outside-run 0x2F c rest (omega arith) (omega arith)
outside-unread ControlSequence c rest no_escape no_feed = outside-run 0x3F c rest (omega arith) (omega arith)
outside-unread ControlString c rest no_escape no_feed =
    elim (ends_string c) as (λ v. ends_string c ≡ v → false ≡ (string_length (c ∷ rest) == 0)) [
      | true ↦ λ ends. ap (λ n. n == 0) (sym (terminator-one c rest ends))
          ∙ ap (λ v. cond (not (v || (c == 27) || (c == 10))) (suc (string_length rest)) (terminator_length (c ∷ rest)) == 0) (sym ends)
      | false ↦ λ goes. let more = string-more c rest goes no_escape no_feed in grind (arith, nat_tests, more)
    ] refl

is_shown-is : (r : Reading) (c : ℕ) (rest : List ℕ) → is_shown r c ≡ not (c == 27) && (unread r (c ∷ rest) == 0)
is_shown-is r c rest =
    elim (c == 27) as (λ v. (c == 27) ≡ v → not v && ((c == 10) || is_outside r c) ≡ not v && (unread r (c ∷ rest) == 0)) [
      | true ↦ λ is. refl
      | false ↦ λ no_escape. elim (c == 10) as (λ v. (c == 10) ≡ v → (v || is_outside r c) ≡ (unread r (c ∷ rest) == 0)) [
        | true ↦ λ is. subst (λ d. true ≡ (unread r (d ∷ rest) == 0)) (same 10 c is) (ap (λ n. n == 0) (sym (at-feed r rest)))
        | false ↦ λ no_feed. outside-unread r c rest no_escape no_feed
      ] refl
    ] refl

pub shown_outside : (r : Reading) (c : ℕ) (rest : List ℕ) (shown : Bool) → shown ≡ is_shown r c → shown ≡ not (c == 27) && (unread r (c ∷ rest) == 0)
shown_outside r c rest shown is = is ∙ is_shown-is r c rest

-- ---- what is shown

-- an escape that ends a string does so with the sequence that it begins
at-escape : (r : Reading) (rest : List ℕ) → shown_behind (unread r (27 ∷ rest)) (27 ∷ rest) ≡ shown_behind (sequence_length rest) rest
at-escape Shown rest = refl
at-escape Escaped rest = refl
at-escape Short rest = refl
at-escape ControlSequence rest = refl
at-escape ControlString [] = refl
at-escape ControlString (d ∷ cs) = elim (d == 0x5C) as (λ v. (d == 0x5C) ≡ v → shown_behind (cond v 2 0) (27 ∷ d ∷ cs) ≡ shown_behind (sequence_length (d ∷ cs)) (d ∷ cs)) [
  | true ↦ λ is. subst (λ e. shown_behind 2 (27 ∷ e ∷ cs) ≡ shown_behind (sequence_length (e ∷ cs)) (e ∷ cs)) (same 0x5C d is) refl
  | false ↦ λ other. refl
] refl

-- the characters behind those that a terminal still reads
abbrev pub shown_in : Reading → List ℕ → List ℕ
shown_in r cs = shown_behind (unread r cs) cs

shown-more : (r next : Reading) (c : ℕ) (rest : List ℕ) → unread next rest ≡ cond (c == 27) (sequence_length rest) (unread r (c ∷ rest) - 1)
    → true ≡ not (c == 27) && (unread r (c ∷ rest) == 0) → shown_in r (c ∷ rest) ≡ c ∷ shown_in next rest
shown-more r next c rest left is =
    let parts = and_parts (not (c == 27)) (unread r (c ∷ rest) == 0) (sym is) in
    let none : unread r (c ∷ rest) ≡ 0 = grind (arith, nat_tests, parts.1) in
    let no_escape : (c == 27) ≡ false = grind (arith, nat_tests, parts.0) in
    let end : unread next rest ≡ 0 = left ∙ ap (λ v. cond v (sequence_length rest) (unread r (c ∷ rest) - 1)) no_escape ∙ ap (λ n. n - 1) none in
    ap (λ n. shown_behind n (c ∷ rest)) none ∙ ap (λ v. cond v (shown_behind (sequence_length rest) rest) (c ∷ shown_behind 0 rest)) no_escape
    ∙ ap (λ n. c ∷ shown_behind n rest) (sym end)

shown-past : (n : ℕ) (c : ℕ) (rest : List ℕ) → (n == 0) ≡ false → shown_behind n (c ∷ rest) ≡ shown_behind (n - 1) rest
shown-past zero c rest some = cc
shown-past (suc n) c rest some = let less : n ≡ suc n - 1 = omega arith in ap (λ m. shown_behind m rest) less

shown-less : (r next : Reading) (c : ℕ) (rest : List ℕ) → unread next rest ≡ cond (c == 27) (sequence_length rest) (unread r (c ∷ rest) - 1)
    → false ≡ not (c == 27) && (unread r (c ∷ rest) == 0) → shown_in r (c ∷ rest) ≡ shown_in next rest
shown-less r next c rest left is =
    elim (c == 27) as (λ v. (c == 27) ≡ v → unread next rest ≡ cond v (sequence_length rest) (unread r (c ∷ rest) - 1) → false ≡ not v && (unread r (c ∷ rest) == 0)
    → shown_in r (c ∷ rest) ≡ shown_in next rest) [
      | true ↦ λ at left is. subst (λ d. shown_in r (d ∷ rest) ≡ shown_behind (sequence_length rest) rest) (same 27 c at) (at-escape r rest) ∙ ap (λ n. shown_behind n rest) (sym left)
      | false ↦ λ at left is. shown-past (unread r (c ∷ rest)) c rest (sym is) ∙ ap (λ n. shown_behind n rest) (sym left)
    ] refl left is

-- one more character, which is shown where this says so
pub goes-on : (read out new : List ℕ) (r next : Reading) (c : ℕ) (rest : List ℕ) (is shown : Bool)
    → unread next rest ≡ cond (c == 27) (sequence_length rest) (unread r (c ∷ rest) - 1) → is ≡ not (c == 27) && (unread r (c ∷ rest) == 0) → is ≡ shown
    → new ≡ cond shown (out ++ encode c) out → out ++ encode_utf8_all (shown_in r (c ∷ rest)) ≡ encode_utf8_all (shown_behind 0 (read ++ c ∷ rest))
    → new ++ encode_utf8_all (shown_in next rest) ≡ encode_utf8_all (shown_behind 0 ((read ++ c ∷ []) ++ rest))
goes-on read out new r next c rest is shown left says so made before = joined shown (sym so ∙ says) made
  where
    all : List ℕ
    all = encode_utf8_all (shown_in next rest)

    after-all : out ++ encode_utf8_all (shown_in r (c ∷ rest)) ≡ encode_utf8_all (shown_behind 0 ((read ++ c ∷ []) ++ rest))
    after-all = before ∙ ap (λ z. encode_utf8_all (shown_behind 0 z)) (sym (append_assoc read (c ∷ []) rest))

    joined : (v : Bool) → v ≡ not (c == 27) && (unread r (c ∷ rest) == 0) → new ≡ cond v (out ++ encode c) out → new ++ all ≡ encode_utf8_all (shown_behind 0 ((read ++ c ∷ []) ++ rest))
    joined true seen made = ap (λ z. z ++ all) made ∙ append_assoc out (encode c) all ∙ ap (λ z. out ++ encode_utf8_all z) (sym (shown-more r next c rest left seen)) ∙ after-all
    joined false unseen made = ap (λ z. z ++ all) made ∙ ap (λ z. out ++ encode_utf8_all z) (sym (shown-less r next c rest left unseen)) ∙ after-all

shown-scalars : (n : ℕ) (cs : List ℕ) → scalars cs ≡ true → scalars (shown_behind n cs) ≡ true
shown-scalars n [] h = refl
shown-scalars (suc n) (c ∷ cs) h = shown-scalars n cs (and_parts (scalar c) (scalars cs) h).1
shown-scalars zero (c ∷ cs) h =
    let parts = and_parts (scalar c) (scalars cs) h in
    elim (c == 27) as (λ v. scalars (cond v (shown_behind (sequence_length cs) cs) (c ∷ shown_behind 0 cs)) ≡ true) [
      | true ↦ shown-scalars (sequence_length cs) cs parts.1
      | false ↦ ap (λ v. v && scalars (shown_behind 0 cs)) parts.0 ∙ shown-scalars 0 cs parts.1
    ]

chars-shown : (text : List ℕ) → IsUtf8 text → chars (without_escapes text) ≡ shown_behind 0 (chars text)
unfolding without_escapes
chars-shown text utf8 = chars-encodes (shown_behind 0 (chars text)) (shown-scalars 0 (chars text) (scalars-chars text utf8))

none-left : (n : ℕ) (cs : List ℕ) → list_all (λ c. not (c == 27)) (shown_behind n cs) ≡ true
none-left n [] = refl
none-left (suc n) (c ∷ cs) = none-left n cs
none-left zero (c ∷ cs) =
    elim (c == 27) as (λ v. (c == 27) ≡ v → list_all (λ d. not (d == 27)) (cond v (shown_behind (sequence_length cs) cs) (c ∷ shown_behind 0 cs)) ≡ true) [
      | true ↦ λ is. none-left (sequence_length cs) cs
      | false ↦ λ no_escape. ap (λ v. not v && list_all (λ d. not (d == 27)) (shown_behind 0 cs)) no_escape ∙ none-left 0 cs
    ] refl

pub no_escapes_are_left : NoEscapesAreLeft
no_escapes_are_left text utf8 = ap (list_all (λ c. not (c == 27))) (chars-shown text utf8) ∙ none-left 0 (chars text)

-- ---- texts without an escape

all-shown : (cs : List ℕ) → list_all (λ c. not (c == 27)) cs ≡ true → shown_behind 0 cs ≡ cs
all-shown [] h = refl
all-shown (c ∷ cs) h =
    let parts = and_parts (not (c == 27)) (list_all (λ d. not (d == 27)) cs) h in
    let no_escape : (c == 27) ≡ false = grind (arith, nat_tests, parts.0) in
    ap (λ v. cond v (shown_behind (sequence_length cs) cs) (c ∷ shown_behind 0 cs)) no_escape ∙ ap (λ z. c ∷ z) (all-shown cs parts.1)

pub texts_without_escapes_stay : TextsWithoutEscapesStay
unfolding without_escapes
texts_without_escapes_stay text utf8 h = ap encode_utf8_all (all-shown (chars text) h) ∙ encodes-chars text utf8

-- ---- line feeds

shown-feed : (r : Reading) (c : ℕ) → is_shown r c ≡ false → (c == 10) ≡ false
shown-feed r c h = grind (arith, nat_tests)

feeds : (r : Reading) (cs : List ℕ) → count_by (λ c. c == 10) (shown_in r cs) ≡ count_by (λ c. c == 10) cs
feeds r [] = refl
feeds r (c ∷ cs) =
    let rest = feeds (after r c) cs in
    elim (is_shown r c) as (λ v. is_shown r c ≡ v → count_by (λ d. d == 10) (shown_in r (c ∷ cs)) ≡ count_by (λ d. d == 10) (c ∷ cs)) [
      | true ↦ λ h. ap (count_by (λ d. d == 10)) (shown-more r (after r c) c cs (after-less r c cs) (sym h ∙ is_shown-is r c cs)) ∙ grind (arith, common_steps, rest)
      | false ↦ λ h. let other = shown-feed r c h in
          ap (count_by (λ d. d == 10)) (shown-less r (after r c) c cs (after-less r c cs) (sym h ∙ is_shown-is r c cs)) ∙ grind (arith, common_steps, rest, other)
    ] refl

pub line_feeds_stay : LineFeedsStay
line_feeds_stay text utf8 = ap (count_by (λ c. c == 10)) (chars-shown text utf8) ∙ feeds Shown (chars text)

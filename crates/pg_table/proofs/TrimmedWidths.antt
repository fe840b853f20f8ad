-- A trimmed line is no wider than the line, and a text that is wrapped or cut is shown within its width.
use Rattle.std.proofs.Common.{◌≡◌, ℕ, zero, suc, ◌+◌, ◌<◌, ◌≤◌, Bool, true, false, cond, ◌==◌, ◌&&◌, nat_le, not, List, [], ◌∷◌, ◌++◌, length, replicate, chars, Option, Some, None, encode_utf8_all, refl, sym, ap, subst, ◌∙◌, arith, lit<, map}
use Rattle.std.specs.Char.{is_whitespace}
use Rattle.std.specs.List.{list_all, range_with_len}
use Rattle.std.specs.Str.{IsUtf8, skip_leading_whitespace, drop_trailing_whitespace, trim, trim_start, trim_end}
use Rattle.std.proofs.lemmas.Bool.{and_parts, false≢true}
use Rattle.std.proofs.lemmas.Bool.Decides.{nat_tests}
use Rattle.std.proofs.lemmas.Str.{chars-encodes, encodes-chars, scalars-chars, encode_ascii}
use Rattle.std.proofs.Math.Utf8.{encode, scalars, scalar}
use Rattle.unicode_width.specs.declared.state.After.{After}
use Rattle.unicode_width.specs.declared.state.After.TheVariants.{Nothing, LineFeed, EmojiModifier, RegionalIndicator, RegionalIndicators, Emoji, ZwjEmoji, KeycapZwjEmoji, IndicatorZwj, EvenIndicatorsZwj, OddIndicatorsZwj, TagEnd, TagDigit1, TagDigit2, TagDigit3, TagLetter1, TagLetter2, TagLetter3, TagLetter4, TagLetter5, TagLetter6, KiratE, KiratAi, Alef, Solidus, SolidusAlef, Lamed, ZwjLamed, Ya, ZwjYa, VowelZwjYa, Tifinagh, ZwjTifinagh, JoinerTifinagh, LisuTone, OrkhonI, ZwjOrkhonI, KhmerLetter}
use Rattle.unicode_width.specs.declared.state.Change.{Change}
use Rattle.unicode_width.specs.declared.state.Change.TheVariants.{Less, Same, One, Three}
use Rattle.unicode_width.specs.declared.state.State.{State}
use Rattle.unicode_width.specs.Width.{before, is_emoji_variation_base, is_joined_emoji, if_kept, plain, alone, joined_or, joins, before_alef, is_lam, is_tifinagh, is_indicator, is_plain, skips_marks, past_selectors, in_context, past_emoji, step, read_before, str_width}
use Rattle.unicode_width.proofs.Computing.{unicode_width}
use Rattle.unicode_width.proofs.Rules.{is_simple, str_width-append_simple}
use Rattle.pg_layout.specs.Text.{Text, width_of, lines_of, text_width_of, greatest}
use Rattle.pg_fit.proofs.LawsOfTexts.{NoFeeds, NoFeeds-rest, IsLine, EachLine, lines_of-lines}
use Rattle.pg_layout.specs.declared.alignment.Formatting.{Formatting}
use Rattle.pg_picture.specs.Pieces.{trimmed_if, widest}

-- ---- a trimmed line is no wider than the line

-- ---- a white character at the front takes nothing away

abbrev NotLess : Option (Change × After) → Type 0
NotLess None = Unit {0}
NotLess (Some (Less, next)) = ⊥
NotLess (Some (Same, next)) = Unit {0}
NotLess (Some (One, next)) = Unit {0}
NotLess (Some (Three, next)) = Unit {0}

-- it is none of those by which a joined text becomes narrower
joins_not : (c : ℕ) → is_whitespace c ≡ true → ((c == 0x17D2) ≡ false) × (is_tifinagh c ≡ false) × (is_indicator c ≡ false)
joins_not c h = (grind (arith, nat_tests), grind (arith, nat_tests), grind (arith, nat_tests))

NotLess-alef : (b c : Bool) → NotLess (cond b (Some (Same, Nothing)) (cond c (Some (Same, Alef)) None))
NotLess-alef true c = tt
NotLess-alef false true = tt
NotLess-alef false false = tt

NotLess-joins : (after : After) (c : ℕ) → is_whitespace c ≡ true → NotLess (joins false after c)
unfolding joins before_alef
NotLess-joins Nothing c h = grind arith
NotLess-joins LineFeed c h = grind arith
NotLess-joins EmojiModifier c h = grind arith
NotLess-joins RegionalIndicator c h = grind arith
NotLess-joins RegionalIndicators c h = grind arith
NotLess-joins Emoji c h = grind arith
NotLess-joins ZwjEmoji c h = grind arith
NotLess-joins KeycapZwjEmoji c h = grind arith
NotLess-joins IndicatorZwj c h = let none = (joins_not c h).2 in grind (arith, none)
NotLess-joins EvenIndicatorsZwj c h = grind arith
NotLess-joins OddIndicatorsZwj c h = let none = (joins_not c h).2 in grind (arith, none)
NotLess-joins TagEnd c h = grind arith
NotLess-joins TagDigit1 c h = grind arith
NotLess-joins TagDigit2 c h = grind arith
NotLess-joins TagDigit3 c h = grind arith
NotLess-joins TagLetter1 c h = grind arith
NotLess-joins TagLetter2 c h = grind arith
NotLess-joins TagLetter3 c h = grind arith
NotLess-joins TagLetter4 c h = grind arith
NotLess-joins TagLetter5 c h = grind arith
NotLess-joins TagLetter6 c h = grind arith
NotLess-joins KiratE c h = grind arith
NotLess-joins KiratAi c h = grind arith
NotLess-joins Alef c h = NotLess-alef (is_lam c) _
NotLess-joins Solidus c h = grind arith
NotLess-joins SolidusAlef c h = grind arith
NotLess-joins Lamed c h = grind arith
NotLess-joins ZwjLamed c h = grind arith
NotLess-joins Ya c h = grind arith
NotLess-joins ZwjYa c h = grind arith
NotLess-joins VowelZwjYa c h = grind arith
NotLess-joins Tifinagh c h = grind arith
NotLess-joins ZwjTifinagh c h = grind arith
NotLess-joins JoinerTifinagh c h = let none = (joins_not c h).1 in grind (arith, none)
NotLess-joins LisuTone c h = grind arith
NotLess-joins OrkhonI c h = grind arith
NotLess-joins ZwjOrkhonI c h = grind arith
NotLess-joins KhmerLetter c h = let none = (joins_not c h).0 in grind (arith, none)

joined-grows : (j : Option (Change × After)) (own : ℕ × State) (t : ℕ) → NotLess j → t ≤ (joined_or t j own).0
joined-grows None own t n = omega arith
joined-grows (Some (Less, next)) own t n = absurd n
joined-grows (Some (Same, next)) own t n = omega arith
joined-grows (Some (One, next)) own t n = omega arith
joined-grows (Some (Three, next)) own t n = omega arith

either : (b : Bool) (t : ℕ) (r s : ℕ × State) → t ≤ r.0 → t ≤ s.0 → t ≤ (cond b r s).0
either true t r s p q = p
either false t r s p q = q

past_selectors-grows : (c t : ℕ) (after : After) → is_whitespace c ≡ true → t ≤ (past_selectors false c t after).0
unfolding past_selectors
past_selectors-grows c t after h =
    either (skips_marks after && (c == 0x200D)) t _ _ (omega arith)
    (either (skips_marks after && _) t _ _ (omega arith) (joined-grows (joins false after c) (alone false c) t (NotLess-joins after c h)))

in_context-grows : (c t : ℕ) (s : State) → is_whitespace c ≡ true → t ≤ (in_context false c t s).0
unfolding in_context
in_context-grows c t s h =
    either (c == 0xFE0F) t _ _ (omega arith)
    (either (c == 0xFE01) t _ _ (omega arith)
    (either (c == 0xFE0E) t _ _ (omega arith)
    (either (s.text && _) t _ _ (omega arith)
    (either (s.quote && _) t _ _ (omega arith) (past_selectors-grows c t s.after h)))))

past_emoji-grows : (c t : ℕ) (s : State) → is_whitespace c ≡ true → t ≤ (past_emoji false c t s).0
unfolding past_emoji
past_emoji-grows c t s h =
    either (c == 0x0A) t _ _ (omega arith)
    (either ((c == 0x0D) && _) t _ _ (omega arith)
    (either (nat_le c 0xA0) t _ _ (omega arith)
    (either (is_plain s) t _ _ (omega arith) (in_context-grows c t s h))))

step-grows : (c t : ℕ) (s : State) → is_whitespace c ≡ true → t ≤ (step false c (t, s)).0
unfolding step
step-grows c t s h =
    either (not s.emoji) t _ _ (past_emoji-grows c t s h)
    (either (is_emoji_variation_base c) t (t + (cond (is_joined_emoji s.after) 0 2), before Emoji) (past_emoji false c t (record (if_kept s) { emoji = false })) (omega arith)
    (past_emoji-grows c t (record (if_kept s) { emoji = false }) h))

skip-narrower : (cs : List ℕ) → str_width false (skip_leading_whitespace cs) ≤ str_width false cs
unfolding str_width
skip-narrower [] = omega arith
skip-narrower (c ∷ cs) =
    let r = read_before false cs (0, plain) in
    elim (is_whitespace c) as (λ v. is_whitespace c ≡ v → (read_before false (cond v (skip_leading_whitespace cs) (c ∷ cs)) (0, plain)).0 ≤ (step false c (read_before false cs (0, plain))).0) [
      | true ↦ λ y. omega (arith, step-grows c r.0 r.1 y, skip-narrower cs)
      | false ↦ λ n. omega arith
    ] refl

-- ---- white characters at the end add their own widths

low-step : (c t : ℕ) → (c == 10) ≡ false → nat_le c 0xA0 ≡ true → step false c (t, plain) ≡ (t + 1, plain)
unfolding step past_emoji
low-step c t other low = grind (arith, nat_tests)

high-step : (c t : ℕ) → nat_le c 0xA0 ≡ false → step false c (t, plain) ≡ (t + (alone false c).0, (alone false c).1)
unfolding step past_emoji
high-step c t high = grind (arith, nat_tests)

-- those above U+00A0 join nothing before them
abbrev ends_plain : ℕ → Bool
ends_plain c = is_plain (alone false c).1

plain-is : (s : State) → is_plain s ≡ true → s ≡ plain
plain-is s h = grind arith

high-whites : list_all ends_plain (5760 ∷ 8232 ∷ 8233 ∷ 8239 ∷ 8287 ∷ 12288 ∷ range_with_len 8192 11) ≡ true
unfolding unicode_width
high-whites = refl

range-value : (p : ℕ → Bool) (a n : ℕ) → list_all p (range_with_len a n) ≡ true → (c : ℕ) → a ≤ c → c < a + n → p c ≡ true
range-value p a zero all c h l = absurd (omega (arith, h, l))
range-value p a (suc n) all c h l =
    let parts = and_parts (p a) (list_all p (range_with_len (a + 1) n)) all in
    elim (c == a) as (λ v. (c == a) ≡ v → p c ≡ true) [
      | true ↦ λ y. let is : c ≡ a = grind (arith, nat_tests) in ap p is ∙ parts.0
      | false ↦ λ n'. let more : a + 1 ≤ c = grind (arith, nat_tests) in range-value p (a + 1) n parts.1 c more (omega (arith, l))
    ] refl

-- a test of the first number, and of the others
first-value : (p : ℕ → Bool) (k : ℕ) (ks : List ℕ) (c : ℕ) → list_all p (k ∷ ks) ≡ true → (list_all p ks ≡ true → (c == k) ≡ false → p c ≡ true) → p c ≡ true
first-value p k ks c all other =
    let parts = and_parts (p k) (list_all p ks) all in
    elim (c == k) as (λ v. (c == k) ≡ v → p c ≡ true) [
      | true ↦ λ y. let is : c ≡ k = grind (arith, nat_tests) in ap p is ∙ parts.0
      | false ↦ λ n. other parts.1 n
    ] refl

between : (c : ℕ) → is_whitespace c ≡ true → nat_le c 0xA0 ≡ false → (c == 5760) ≡ false → (c == 8232) ≡ false → (c == 8233) ≡ false → (c == 8239) ≡ false → (c == 8287) ≡ false → (c == 12288) ≡ false → (8192 ≤ c) × (c < 8203)
between c h high a b d e f g = (grind (arith, nat_tests), grind (arith, nat_tests))

white-ends_plain : (c : ℕ) → is_whitespace c ≡ true → nat_le c 0xA0 ≡ false → ends_plain c ≡ true
white-ends_plain c h high =
    first-value ends_plain 5760 (8232 ∷ 8233 ∷ 8239 ∷ 8287 ∷ 12288 ∷ range_with_len 8192 11) c high-whites (λ t1 n1.
    first-value ends_plain 8232 (8233 ∷ 8239 ∷ 8287 ∷ 12288 ∷ range_with_len 8192 11) c t1 (λ t2 n2.
    first-value ends_plain 8233 (8239 ∷ 8287 ∷ 12288 ∷ range_with_len 8192 11) c t2 (λ t3 n3.
    first-value ends_plain 8239 (8287 ∷ 12288 ∷ range_with_len 8192 11) c t3 (λ t4 n4.
    first-value ends_plain 8287 (12288 ∷ range_with_len 8192 11) c t4 (λ t5 n5.
    first-value ends_plain 12288 (range_with_len 8192 11) c t5 (λ t6 n6.
    let within = between c h high n1 n2 n3 n4 n5 n6 in
    range-value ends_plain 8192 11 t6 c within.0 (omega (arith, within.1))))))))

white-step : (c t : ℕ) → is_whitespace c ≡ true → (c == 10) ≡ false → (n : ℕ) × (step false c (t, plain) ≡ (t + n, plain))
white-step c t h other =
    elim (nat_le c 0xA0) as (λ v. nat_le c 0xA0 ≡ v → (n : ℕ) × (step false c (t, plain) ≡ (t + n, plain))) [
      | true ↦ λ low. (1, low-step c t other low)
      | false ↦ λ high. ((alone false c).0, high-step c t high ∙ ap (λ s. (t + (alone false c).0, s)) (plain-is (alone false c).1 (white-ends_plain c h high)))
    ] refl

read-white : (ws : List ℕ) → list_all is_whitespace ws ≡ true → NoFeeds ws → (n : ℕ) × (read_before false ws (0, plain) ≡ (n, plain))
read-white [] h none = (0, refl)
read-white (c ∷ ws) h none =
    let parts = and_parts (is_whitespace c) (list_all is_whitespace ws) h in
    let rest = read-white ws parts.1 none.1 in
    let here = white-step c rest.0 parts.0 none.0 in
    (rest.0 + here.0, ap (step false c) rest.1 ∙ here.1)

-- so do as many spaces
read-spaces : (n : ℕ) → read_before false (replicate n 32) (0, plain) ≡ (n, plain)
read-spaces zero = refl
read-spaces (suc n) = let more : n + 1 ≡ suc n = omega arith in ap (step false 32) (read-spaces n) ∙ low-step 32 n refl refl ∙ ap (λ m. (m, plain)) more

spaces-simple : (n : ℕ) → list_all is_simple (replicate n 32) ≡ true
spaces-simple zero = refl
spaces-simple (suc n) = spaces-simple n

read-append : (xs ys : List ℕ) → read_before false (xs ++ ys) (0, plain) ≡ read_before false xs (read_before false ys (0, plain))
read-append [] ys = refl
read-append (x ∷ xs) ys = ap (step false x) (read-append xs ys)

white-tail : (xs ws : List ℕ) → list_all is_whitespace ws ≡ true → NoFeeds ws → str_width false xs ≤ str_width false (xs ++ ws)
unfolding str_width
white-tail xs ws h none =
    let read = read-white ws h none in
    let n = read.0 in
    let same : str_width false (xs ++ ws) ≡ str_width false (xs ++ replicate n 32) =
    ap (λ r. r.0) (read-append xs ws ∙ ap (read_before false xs) (read.1 ∙ sym (read-spaces n)) ∙ sym (read-append xs (replicate n 32))) in
    omega (arith, same, str_width-append_simple false xs (replicate n 32) (spaces-simple n))

nothing-from : (xs : List ℕ) → (length xs == 0) ≡ true → xs ≡ []
nothing-from [] h = refl
nothing-from (x ∷ xs) h = let none : length (x ∷ xs) ≡ 0 = grind (arith, nat_tests) in absurd (omega (arith, none))

-- what is dropped at the end is white
dropped : (cs : List ℕ) → (ws : List ℕ) × (cs ≡ drop_trailing_whitespace cs ++ ws) × (list_all is_whitespace ws ≡ true)
dropped [] = ([], refl, refl)
dropped (c ∷ cs) =
    let rest = dropped cs in
    elim (is_whitespace c && (length (drop_trailing_whitespace cs) == 0)) as (λ v. (is_whitespace c && (length (drop_trailing_whitespace cs) == 0)) ≡ v → (ws : List ℕ) × (c ∷ cs ≡ cond v [] (c ∷ drop_trailing_whitespace cs) ++ ws) × (list_all is_whitespace ws ≡ true)) [
      | true ↦ λ y.
          let parts = and_parts (is_whitespace c) (length (drop_trailing_whitespace cs) == 0) y in
          let all : cs ≡ rest.0 = rest.1 ∙ ap (λ xs. xs ++ rest.0) (nothing-from (drop_trailing_whitespace cs) parts.1) in
          (c ∷ cs, refl, ap (λ v. v && list_all is_whitespace cs) parts.0 ∙ ap (λ xs. list_all is_whitespace xs) all ∙ rest.2)
      | false ↦ λ n. (rest.0, ap (λ xs. c ∷ xs) rest.1, rest.2)
    ] refl

-- ---- characters of a line

scalars-skip : (cs : List ℕ) → scalars cs ≡ true → scalars (skip_leading_whitespace cs) ≡ true
scalars-skip [] h = refl
scalars-skip (c ∷ cs) h =
    elim (is_whitespace c) as (λ v. scalars (cond v (skip_leading_whitespace cs) (c ∷ cs)) ≡ true) [ true ↦ scalars-skip cs (and_parts (scalar c) (scalars cs) h).1 | false ↦ h ]

NoFeeds-skip : (cs : List ℕ) → NoFeeds cs → NoFeeds (skip_leading_whitespace cs)
NoFeeds-skip [] none = tt
NoFeeds-skip (c ∷ cs) none =
    elim (is_whitespace c) as (λ v. NoFeeds (cond v (skip_leading_whitespace cs) (c ∷ cs))) [ true ↦ NoFeeds-skip cs none.1 | false ↦ none ]

scalars-drop : (cs : List ℕ) → scalars cs ≡ true → scalars (drop_trailing_whitespace cs) ≡ true
scalars-drop [] h = refl
scalars-drop (c ∷ cs) h =
    let parts = and_parts (scalar c) (scalars cs) h in
    elim (is_whitespace c && (length (drop_trailing_whitespace cs) == 0)) as (λ v. scalars (cond v [] (c ∷ drop_trailing_whitespace cs)) ≡ true) [
      | true ↦ refl
      | false ↦ ap (λ v. v && scalars (drop_trailing_whitespace cs)) parts.0 ∙ scalars-drop cs parts.1
    ]

feed-encoded : encode 10 ≡ 10 ∷ []
feed-encoded = encode_ascii 10 (lit< tt)

NoFeeds-chars : (cs : List ℕ) → NoFeeds (encode_utf8_all cs) → NoFeeds cs
NoFeeds-chars [] none = tt
NoFeeds-chars (c ∷ cs) none = (
  elim (c == 10) as (λ v. (c == 10) ≡ v → v ≡ false) [
    | true ↦ λ y.
        let is : c ≡ 10 = grind (arith, nat_tests) in
        let feed : NoFeeds ((10 ∷ []) ++ encode_utf8_all cs) = subst (λ (z : Text). NoFeeds (z ++ encode_utf8_all cs)) (ap encode is ∙ feed-encoded) none in
        absurd (false≢true (sym feed.0))
    | false ↦ λ n. refl
  ] refl,
  NoFeeds-chars cs (NoFeeds-rest (encode c) (encode_utf8_all cs) none),
)

pub trim-narrower : (line : Text) → IsUtf8 line → NoFeeds line → width_of (trim line) ≤ width_of line
unfolding width_of trim_start trim_end
trim-narrower line utf8 none =
    let cs = chars line in
    let skipped = skip_leading_whitespace cs in
    let front = drop_trailing_whitespace skipped in
    let spelt = scalars-skip cs (scalars-chars line utf8) in
    let is : str_width false (chars (trim line)) ≡ str_width false front =
    ap (str_width false) (ap (λ l. chars (encode_utf8_all (drop_trailing_whitespace l))) (chars-encodes skipped spelt) ∙ chars-encodes front (scalars-drop skipped spelt)) in
    let rest = dropped skipped in
    let lacks : NoFeeds (front ++ rest.0) = subst NoFeeds rest.1 (NoFeeds-skip cs (NoFeeds-chars cs (subst NoFeeds (sym (encodes-chars line utf8)) none))) in
    omega (arith, is, white-tail front rest.0 rest.2 (NoFeeds-rest front rest.0 lacks), ap (str_width false) rest.1, skip-narrower cs)

-- ---- texts that are wrapped or cut to a width are shown within it

trimmed-narrower : (b : Bool) (line : Text) → IsLine line → width_of (trimmed_if b line) ≤ width_of line
unfolding trimmed_if
trimmed-narrower true line is = trim-narrower line is.0 is.1
trimmed-narrower false line is = omega arith

lines-narrower : (b : Bool) (lines : List Text) → EachLine lines → greatest (map (λ line. width_of (trimmed_if b line)) lines) ≤ greatest (map width_of lines)
lines-narrower b [] each = omega arith
lines-narrower b (line ∷ lines) each = omega (arith, trimmed-narrower b line each.0, lines-narrower b lines each.1)

-- what is shown of a text is no wider than the text
pub widest-narrower : (f : Formatting) (text : Text) → IsUtf8 text → widest f text ≤ text_width_of text
unfolding widest text_width_of
widest-narrower f text utf8 = lines-narrower f.horizontal_trim (lines_of text) (lines_of-lines text utf8)

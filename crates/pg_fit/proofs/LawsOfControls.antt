-- Printable bytes, texts with control characters, and lines of printable ASCII.
use Rattle.std.proofs.Common.{ap, eqb, ◌&&◌, ◌≡◌, inl, inr, ◌+◌, ◌-◌, ◌<◌, ◌≤◌, ◌^◌, ◌%◌, ◌*◌, ℕ, suc, true, false, nat_lt, cond, List, [], ◌∷◌, length, map, replicate}
use Rattle.std.proofs.Common.{zero, chars, Bool, refl, sym, ◌∙◌, w8, arith, not, ◌||◌, ◌++◌, ⊎_elim, ◌⊎◌, ◌==◌, eq-zero-or-pos, subst, min, length-append}
use Rattle.std.specs.List.{list_all, slice_range, range_with_len}
use Rattle.std.proofs.lemmas.Bool.{and_from, and_parts, ne_eqb}
use Rattle.std.proofs.lemmas.Bool.Decides.{nat_tests}
use Rattle.std.proofs.lemmas.List.{length-map}
use Rattle.std.proofs.lemmas.List.Folds.{list_all-append}
use Rattle.std.proofs.lemmas.List.Sums.{sum_by-cons}
use Rattle.std.specs.List.{sum_by}
use Rattle.std.proofs.lemmas.Simd.{bitmask_splat, length-chunk, mask_l-mod, tops_compared, zip2_splat_left}
use Rattle.std.specs.Str.{IsAscii, IsUtf8, IsCharBoundary, encode_utf8_all}
use Rattle.std.proofs.lemmas.Str.{chars-IsAscii, chars-append, chars-nil, IsUtf8-between, encodes-chars, scalars-chars, chars-encodes, encode_ascii}
use lib.Lanes.{zip2, mask_l, top, chunk}
use mir.Val.{hbits, bits}
use Rattle.pg_fit.specs.Controls.{is_printable, is_hidden, is_control, sign_of, visible_text, is_letter, letter_columns}
use Rattle.std.specs.Int.{is_in_range}
use Rattle.ucd_table.specs.Rows.{Range, in_ranges}
use Rattle.ucd_table.proofs.Stepped.{Stepped, of_ranges, zip_stepped}
use Rattle.ucd_table.proofs.Facts.{Stepped-always, Stepped-below}
use Rattle.ucd_table.proofs.Computing.{tables}
use Rattle.unicode_width.specs.Kind.{kind}
use Rattle.unicode_width.specs.Width.{str_width, read_before, plain, of_kind, alone as own_width, char_width}
use Rattle.unicode_width.specs.declared.kind.Kind.{Kind}
use Rattle.unicode_width.specs.declared.kind.Kind.TheVariants as kinds
use Rattle.unicode_width.proofs.KindLemmas.{kind_stepped}
use Rattle.unicode_width.proofs.Rules.{is_simple_kind, is_simple, str_width-append_simple, str_width-simple, width_or_zero}
use Rattle.unicode_width.proofs.Computing.{unicode_width}
use Rattle.unicode_segmentation.proofs.TextLemmas.{length-slice_range, slice_range_split}
use Rattle.pg_layout.specs.Text.{Text, width_of, greatest, is_plain_byte}
use Rattle.pg_fit.specs.Inside.{adds_up}
use Rattle.std.proofs.Math.Utf8.{scalars, scalar}
use Rattle.pg_fit.specs.Laws.{NoControlsAreLeft, VisibleTextsStay, SignsTakeOneColumn}
use Rattle.ucd_breaks.specs.GraphemeClusterBreak.{grapheme_cluster_break}
use Rattle.ucd_breaks.specs.declared.GraphemeClusterBreak.{GraphemeClusterBreak}
use Rattle.ucd_breaks.specs.declared.GraphemeClusterBreak.TheVariants.{Other}
use Rattle.ucd_breaks.proofs.GraphemeClusterBreakLemmas.{grapheme_cluster_break_stepped}
use Rattle.ucd_breaks.proofs.Computing.{ucd_breaks}
use Rattle.unicode_segmentation.specs.Grapheme.{graphemes, is_grapheme_break}
use Rattle.unicode_segmentation.specs.Segments.{cut, prepend, segments}
use Rattle.unicode_segmentation.proofs.GraphemeLemmas.{is_grapheme_break-others}
use Rattle.pg_layout.proofs.PlainBytes.{same_both}
use Rattle.pg_layout.proofs.TextLines.{lines_of-one, width_of-plain, feed_place-plain}
use Rattle.pg_fit.specs.declared.wrapping.Breaking.{Breaking}
use Rattle.pg_fit.specs.declared.wrapping.Breaking.TheVariants.{Anywhere, BetweenWords}
use Rattle.pg_fit.specs.Wrapping.{Piece, before_words, words, indented, widest_character, least_line_width, least_width}
use Rattle.pg_fit.proofs.FilledLines.{slice_range-all}

-- ---- printable bytes, and characters that add their own widths to that of the text before them

-- ---- printable bytes, told by blocks of them

-- no bit is set where no lane passes
no_bits : (p : ℕ → Bool) (xs : List ℕ) → eqb (mask_l (map p xs)) 0 ≡ list_all (λ x. not (p x)) xs
no_bits p [] = refl
no_bits p (x ∷ xs) = with_lane (p x) (mask_l (map p xs)) ∙ ap (λ v. not (p x) && v) (no_bits p xs)
  where
    with_lane : (b : Bool) (m : ℕ) → eqb (cond b 1 0 + 2 * m) 0 ≡ (not b && eqb m 0)
    with_lane true m = ne_eqb (1 + 2 * m) 0 (λ same. omega (arith, same))
    with_lane false zero = refl
    with_lane false (suc m) = ne_eqb (0 + 2 * suc m) 0 (λ same. omega (arith, same)) ∙ sym (ne_eqb (suc m) 0 (λ same. omega (arith, same)))

above_and_below : (b : ℕ) (low high : Bool) → ((not (nat_lt b 32) && low) && (not (nat_lt 126 b) && high)) ≡ (is_printable b && (low && high))
above_and_below b low high = grind (arith, nat_tests)

two_tests : (bs : List ℕ) → (list_all (λ b. not (nat_lt b 32)) bs && list_all (λ b. not (nat_lt 126 b)) bs) ≡ list_all is_printable bs
two_tests [] = refl
two_tests (b ∷ bs) = above_and_below b _ _ ∙ ap (λ v. is_printable b && v) (two_tests bs)

-- the two masks of a block, as they are compared
pub block_test : (bs : List ℕ) (i n : ℕ) → n ≤ 64 → i + n ≤ length bs
    → (eqb (mask_l (map (top (hbits w8)) (zip2 (λ a b. cond (nat_lt a b) (2 ^ bits w8 - 1) 0) (chunk i n bs) (replicate n 32))) % 2 ^ 64) 0
    && eqb (mask_l (map (top (hbits w8)) (zip2 (λ a b. cond (nat_lt a b) (2 ^ bits w8 - 1) 0) (replicate n 126) (chunk i n bs))) % 2 ^ 64) 0)
    ≡ list_all is_printable (chunk i n bs)
block_test bs i n le room =
    let xs : List ℕ = chunk i n bs in
    let long : length xs ≡ n = length-chunk i n bs room in
    let below = ap (λ m. eqb m 0) (bitmask_splat w8 nat_lt xs n 32 long le) ∙ no_bits (λ b. nat_lt b 32) xs in
    let above = ap (λ ms. eqb (mask_l ms % 2 ^ 64) 0) (tops_compared w8 nat_lt (replicate n 126) xs ∙ zip2_splat_left nat_lt 126 n xs long)
    ∙ ap (λ m. eqb m 0) (mask_l-mod (map (λ b. nat_lt 126 b) xs) 64 (omega (arith, length-map xs (λ b. nat_lt 126 b)))) ∙ no_bits (λ b. nat_lt 126 b) xs in
    same_both below above ∙ two_tests xs

-- ---- a text of printable bytes: its characters are they

pub printable-low : (b : ℕ) → is_printable b ≡ true → b < 128
printable-low b h = grind (arith, nat_tests)

pub IsAscii-printable : (bs : List ℕ) → list_all is_printable bs ≡ true → IsAscii bs
IsAscii-printable [] h i = omega arith
IsAscii-printable (b ∷ bs) h zero = printable-low b (and_parts (is_printable b) (list_all is_printable bs) h).0
IsAscii-printable (b ∷ bs) h (suc i) = IsAscii-printable bs (and_parts (is_printable b) (list_all is_printable bs) h).1 i

bytes-pass : (p : ℕ → Bool) → ((b : ℕ) → is_printable b ≡ true → p b ≡ true) → (bs : List ℕ) → list_all is_printable bs ≡ true → list_all p bs ≡ true
bytes-pass p passes [] h = refl
bytes-pass p passes (b ∷ bs) h =
    let parts = and_parts (is_printable b) (list_all is_printable bs) h in
    and_from (p b) (list_all p bs) (passes b parts.0) (bytes-pass p passes bs parts.1)

-- what each printable byte passes each character of such a text passes
pub printable-chars : (p : ℕ → Bool) → ((b : ℕ) → is_printable b ≡ true → p b ≡ true) → (bs : List ℕ) → list_all is_printable bs ≡ true → list_all p (chars bs) ≡ true
printable-chars p passes bs h = ap (list_all p) (chars-IsAscii bs (IsAscii-printable bs h)) ∙ bytes-pass p passes bs h

-- ---- characters that add their own widths to that of the text before them

pub nothing_wide : width_of [] ≡ 0
unfolding width_of str_width
nothing_wide = ap (λ cs. (read_before false cs (0, plain)).0) chars-nil

-- ---- which characters these are

ranges : List Range
ranges = (0xA1, 0x337) ∷ (0x339, 0x5DB) ∷ (0x883, 0x177F) ∷ (0x1A11, 0x2319) ∷ (0x2E80, 0xA4CF) ∷ (0xAC00, 0xD7A3) ∷ (0xF900, 0xFAFF) ∷ (0xFF00, 0xFFEF) ∷ []

simple_or_outside : Bool → Kind → Bool
simple_or_outside inside k = not inside || is_simple_kind k

inside_stepped : Stepped (in_ranges ranges)
unfolding tables ranges
inside_stepped = of_ranges ranges refl

all_simple : (c : ℕ) → c ≤ 0x10_FFFF → simple_or_outside (in_ranges ranges c) (kind c) ≡ true
unfolding unicode_width tables inside_stepped ranges simple_or_outside
all_simple = Stepped-always (λ c. simple_or_outside (in_ranges ranges c) (kind c)) (zip_stepped simple_or_outside (in_ranges ranges) kind inside_stepped kind_stepped) refl

-- printable ASCII, or in one of the ranges
where-is : (c : ℕ) → adds_up c ≡ true → (is_in_range 0x20 0x7E c ≡ true) ⊎ ((in_ranges ranges c ≡ true) × (0xA0 < c) × (c ≤ 0x10_FFFF))
unfolding in_ranges ranges
where-is c h = grind (arith, nat_tests)

simple-inside : (c : ℕ) → in_ranges ranges c ≡ true → 0xA0 < c → c ≤ 0x10_FFFF → (nat_lt 0xA0 c && is_simple_kind (kind c)) ≡ true
unfolding simple_or_outside
simple-inside c inside high low = let h = all_simple c low in grind (arith, nat_tests)

simple-character : (c : ℕ) → adds_up c ≡ true → is_simple c ≡ true
simple-character c h =
    ⊎_elim
    (λ (printable : is_in_range 0x20 0x7E c ≡ true). ap (λ v. v || (nat_lt 0xA0 c && is_simple_kind (kind c))) printable)
    (λ (w : (in_ranges ranges c ≡ true) × (0xA0 < c) × (c ≤ 0x10_FFFF)). let simple = simple-inside c w.0 w.1 w.2 in grind (arith, nat_tests))
    (where-is c h)

pub simple-characters : (cs : List ℕ) → list_all adds_up cs ≡ true → list_all is_simple cs ≡ true
simple-characters [] h = refl
simple-characters (c ∷ cs) h =
    let parts = and_parts (adds_up c) (list_all adds_up cs) h in
    ap (λ v. v && list_all is_simple cs) (simple-character c parts.0) ∙ simple-characters cs parts.1

printable-adds : (b : ℕ) → is_printable b ≡ true → adds_up b ≡ true
printable-adds b h = grind (arith, nat_tests)

pub printable_texts_add_up : (bs : List ℕ) → list_all is_printable bs ≡ true → list_all adds_up (chars bs) ≡ true
printable_texts_add_up = printable-chars adds_up printable-adds

-- ---- letters, which take one column or two

narrow_ranges : List Range
narrow_ranges = (0xAE, 0x2FF) ∷ (0x370, 0x482) ∷ (0x48A, 0x590) ∷ (0x1E00, 0x1EFF) ∷ (0x2010, 0x2027) ∷ (0x20A0, 0x20BF) ∷ []

wide_ranges : List Range
wide_ranges = (0x3000, 0x3029) ∷ (0x3041, 0x3096) ∷ (0x309B, 0x30FF) ∷ (0x4E00, 0x9FFF) ∷ (0xAC00, 0xD7A3) ∷ (0xFF01, 0xFF60) ∷ []

abbrev is_narrow_kind : Kind → Bool
is_narrow_kind kinds.Narrow = true
is_narrow_kind kinds.Ambiguous = true
is_narrow_kind _ = false

abbrev is_wide_kind : Kind → Bool
is_wide_kind kinds.Wide = true
is_wide_kind _ = false

narrow_or_outside : Bool → Kind → Bool
narrow_or_outside inside k = not inside || is_narrow_kind k

wide_or_outside : Bool → Kind → Bool
wide_or_outside inside k = not inside || is_wide_kind k

narrow_stepped : Stepped (in_ranges narrow_ranges)
unfolding tables narrow_ranges
narrow_stepped = of_ranges narrow_ranges refl

wide_stepped : Stepped (in_ranges wide_ranges)
unfolding tables wide_ranges
wide_stepped = of_ranges wide_ranges refl

all_narrow : (c : ℕ) → c ≤ 0x10_FFFF → narrow_or_outside (in_ranges narrow_ranges c) (kind c) ≡ true
unfolding unicode_width tables narrow_stepped narrow_ranges narrow_or_outside
all_narrow = Stepped-always (λ c. narrow_or_outside (in_ranges narrow_ranges c) (kind c)) (zip_stepped narrow_or_outside (in_ranges narrow_ranges) kind narrow_stepped kind_stepped) refl

all_wide : (c : ℕ) → c ≤ 0x10_FFFF → wide_or_outside (in_ranges wide_ranges c) (kind c) ≡ true
unfolding unicode_width tables wide_stepped wide_ranges wide_or_outside
all_wide = Stepped-always (λ c. wide_or_outside (in_ranges wide_ranges c) (kind c)) (zip_stepped wide_or_outside (in_ranges wide_ranges) kind wide_stepped kind_stepped) refl

-- what a character of such a kind takes
narrow-columns : (c : ℕ) (k : Kind) → is_narrow_kind k ≡ true → ((of_kind false c k).0 ≡ 1) × (is_simple_kind k ≡ true)
narrow-columns c kinds.Zero h = cc
narrow-columns c kinds.Narrow h = (refl, refl)
narrow-columns c kinds.Wide h = cc
narrow-columns c kinds.Ambiguous h = (refl, refl)
narrow-columns c kinds.Alef h = cc
narrow-columns c kinds.KhmerLetter h = cc
narrow-columns c kinds.TifinaghConsonant h = cc
narrow-columns c kinds.LisuTone h = cc
narrow-columns c kinds.RegionalIndicator h = cc
narrow-columns c kinds.EmojiModifier h = cc
narrow-columns c kinds.Emoji h = cc
narrow-columns c kinds.Single h = cc

wide-columns : (c : ℕ) (k : Kind) → is_wide_kind k ≡ true → ((of_kind false c k).0 ≡ 2) × (is_simple_kind k ≡ true)
wide-columns c kinds.Zero h = cc
wide-columns c kinds.Narrow h = cc
wide-columns c kinds.Wide h = (refl, refl)
wide-columns c kinds.Ambiguous h = cc
wide-columns c kinds.Alef h = cc
wide-columns c kinds.KhmerLetter h = cc
wide-columns c kinds.TifinaghConsonant h = cc
wide-columns c kinds.LisuTone h = cc
wide-columns c kinds.RegionalIndicator h = cc
wide-columns c kinds.EmojiModifier h = cc
wide-columns c kinds.Emoji h = cc
wide-columns c kinds.Single h = cc

-- above U+00A0 its columns are those of its kind
high-columns : (c n : ℕ) → 0xA0 < c → (of_kind false c (kind c)).0 ≡ n → width_or_zero false c ≡ n
unfolding char_width own_width
high-columns c n high is = grind (arith, nat_tests)

ascii-columns : (c : ℕ) → is_in_range 0x20 0x7E c ≡ true → width_or_zero false c ≡ 1
unfolding char_width
ascii-columns c h = grind (arith, nat_tests)

-- printable ASCII, or in one of the ranges
where-letter : (c : ℕ) → is_letter c ≡ true → ((is_in_range 0x20 0x7E c ≡ true) × (letter_columns c ≡ 1))
    ⊎ (((in_ranges narrow_ranges c ≡ true) × (0xA0 < c) × (c ≤ 0x10_FFFF) × (letter_columns c ≡ 1)) ⊎ ((in_ranges wide_ranges c ≡ true) × (0xA0 < c) × (c ≤ 0x10_FFFF) × (letter_columns c ≡ 2)))
unfolding in_ranges narrow_ranges wide_ranges
where-letter c h = grind (arith, nat_tests)

narrow-inside : (c : ℕ) → in_ranges narrow_ranges c ≡ true → 0xA0 < c → c ≤ 0x10_FFFF → (is_simple c ≡ true) × (width_or_zero false c ≡ 1)
unfolding narrow_or_outside
narrow-inside c inside high low =
    let all = all_narrow c low in
    let own : is_narrow_kind (kind c) ≡ true = sym (ap (λ v. not v || is_narrow_kind (kind c)) inside) ∙ all in
    let takes = narrow-columns c (kind c) own in
    let simple : (nat_lt 0xA0 c && is_simple_kind (kind c)) ≡ true = let k = takes.1 in grind (arith, nat_tests) in
    (grind (arith, nat_tests), high-columns c 1 high takes.0)

wide-inside : (c : ℕ) → in_ranges wide_ranges c ≡ true → 0xA0 < c → c ≤ 0x10_FFFF → (is_simple c ≡ true) × (width_or_zero false c ≡ 2)
unfolding wide_or_outside
wide-inside c inside high low =
    let all = all_wide c low in
    let own : is_wide_kind (kind c) ≡ true = sym (ap (λ v. not v || is_wide_kind (kind c)) inside) ∙ all in
    let takes = wide-columns c (kind c) own in
    let simple : (nat_lt 0xA0 c && is_simple_kind (kind c)) ≡ true = let k = takes.1 in grind (arith, nat_tests) in
    (grind (arith, nat_tests), high-columns c 2 high takes.0)

letter-columns : (c : ℕ) → is_letter c ≡ true → (is_simple c ≡ true) × (width_or_zero false c ≡ letter_columns c)
letter-columns c h = elim (where-letter c h) [
  | inl ascii ↦ (ap (λ v. v || (nat_lt 0xA0 c && is_simple_kind (kind c))) ascii.0, ascii-columns c ascii.0 ∙ sym ascii.1)
  | inr others ↦ elim others [
    | inl narrow ↦ let own = narrow-inside c narrow.0 narrow.1 narrow.2 in (own.0, own.1 ∙ sym narrow.3)
    | inr wide ↦ let own = wide-inside c wide.0 wide.1 wide.2 in (own.0, own.1 ∙ sym wide.3)
  ]
]

letters-simple : (cs : List ℕ) → list_all is_letter cs ≡ true → (list_all is_simple cs ≡ true) × (sum_by (width_or_zero false) cs ≡ sum_by letter_columns cs)
letters-simple [] h = (refl, refl)
letters-simple (c ∷ cs) h =
    let parts = and_parts (is_letter c) (list_all is_letter cs) h in
    let here = letter-columns c parts.0 in
    let rest = letters-simple cs parts.1 in
    (and_from (is_simple c) (list_all is_simple cs) here.0 rest.0, omega (arith, sum_by-cons (width_or_zero false) c cs, sum_by-cons letter_columns c cs, here.1, rest.1))

pub letters-width : (text : Text) → list_all is_letter (chars text) ≡ true → width_of text ≡ sum_by letter_columns (chars text)
unfolding width_of
letters-width text h = let own = letters-simple (chars text) h in str_width-simple false (chars text) own.0 ∙ own.1

printable-letter : (b : ℕ) → is_printable b ≡ true → is_letter b ≡ true
printable-letter b h = grind (arith, nat_tests)

pub printable_texts_are_letters : (bs : List ℕ) → list_all is_printable bs ≡ true → list_all is_letter (chars bs) ≡ true
printable_texts_are_letters = printable-chars is_letter printable-letter

few-columns : (c : ℕ) → letter_columns c ≤ 2
few-columns c = grind (arith, nat_tests)

pub letters-fit : (cs : List ℕ) → sum_by letter_columns cs ≤ 2 * length cs
letters-fit [] = omega arith
letters-fit (c ∷ cs) = omega (arith, sum_by-cons letter_columns c cs, few-columns c, letters-fit cs)

-- none of them is a control character
seen-below : (c : ℕ) → 0x20 ≤ c → c ≤ 0x590 → (c ≤ 0x7E) ⊎ (0xAE ≤ c) → not (is_control c) ≡ true
seen-below c low high out = elim out [ inl ascii ↦ grind (arith, nat_tests) | inr above ↦ grind (arith, nat_tests) ]

seen-between : (c : ℕ) → 0x1E00 ≤ c → c ≤ 0x2027 → (c ≤ 0x1EFF) ⊎ (0x2010 ≤ c) → not (is_control c) ≡ true
seen-between c low high out = elim out [ inl below ↦ grind (arith, nat_tests) | inr above ↦ grind (arith, nat_tests) ]

seen-above : (c : ℕ) → 0x20A0 ≤ c → c ≤ 0xFF60 → (c ≤ 0xD7A3) ⊎ (0xFF01 ≤ c) → not (is_control c) ≡ true
seen-above c low high out = elim out [ inl below ↦ grind (arith, nat_tests) | inr above ↦ grind (arith, nat_tests) ]

where-seen : (c : ℕ) → is_letter c ≡ true
    → ((0x20 ≤ c) × (c ≤ 0x590) × ((c ≤ 0x7E) ⊎ (0xAE ≤ c))) ⊎ (((0x1E00 ≤ c) × (c ≤ 0x2027) × ((c ≤ 0x1EFF) ⊎ (0x2010 ≤ c))) ⊎ ((0x20A0 ≤ c) × (c ≤ 0xFF60) × ((c ≤ 0xD7A3) ⊎ (0xFF01 ≤ c))))
where-seen c h = grind (arith, nat_tests)

letter-seen : (c : ℕ) → is_letter c ≡ true → not (is_control c) ≡ true
letter-seen c h = elim (where-seen c h) [
  | inl low ↦ seen-below c low.0 low.1 low.2
  | inr others ↦ elim others [ inl mid ↦ seen-between c mid.0 mid.1 mid.2 | inr high ↦ seen-above c high.0 high.1 high.2 ]
]

letters-seen : (cs : List ℕ) → list_all is_letter cs ≡ true → list_all (λ c. not (is_control c)) cs ≡ true
letters-seen [] h = refl
letters-seen (c ∷ cs) h =
    let parts = and_parts (is_letter c) (list_all is_letter cs) h in
    and_from (not (is_control c)) (list_all (λ d. not (is_control d)) cs) (letter-seen c parts.0) (letters-seen cs parts.1)

pub letters_are_seen : (text : Text) → list_all is_letter (chars text) ≡ true → list_all (λ c. not (is_control c)) (chars text) ≡ true
letters_are_seen text h = letters-seen (chars text) h

-- ---- a text with such characters behind it

pub simple-behind : (front back : Text) → IsUtf8 front → list_all is_simple (chars back) ≡ true → width_of (front ++ back) ≡ width_of front + width_of back
unfolding width_of
simple-behind front back utf8 h = ap (str_width false) (chars-append front back utf8) ∙ str_width-append_simple false (chars front) (chars back) h

pub added-width : (text : Text) (a b c : ℕ) → IsUtf8 text → a ≤ b → b ≤ c → IsCharBoundary text a → IsCharBoundary text b → list_all adds_up (chars (slice_range text b c)) ≡ true
    → width_of (slice_range text a c) ≡ width_of (slice_range text a b) + width_of (slice_range text b c)
added-width text a b c utf8 ab bc start middle h =
    ap width_of (slice_range_split text a b c ab bc)
    ∙ simple-behind (slice_range text a b) (slice_range text b c) (IsUtf8-between text a b utf8 ab start middle) (simple-characters (chars (slice_range text b c)) h)

-- ---- texts in which control characters are seen

-- ---- texts without control characters stay

sign_of-other : (c : ℕ) → not (is_control c) ≡ true → sign_of c ≡ c
sign_of-other c h = ap (λ v. cond v c (cond (nat_lt c 0x20) (0x2400 + c) (cond (c == 0x7F) 0x2421 0xFFFD))) h

signs-others : (cs : List ℕ) → list_all (λ c. not (is_control c)) cs ≡ true → map sign_of cs ≡ cs
signs-others [] h = refl
signs-others (c ∷ cs) h =
    let parts = and_parts (not (is_control c)) (list_all (λ d. not (is_control d)) cs) h in
    ap (λ z. z ∷ map sign_of cs) (sign_of-other c parts.0) ∙ ap (λ z. c ∷ z) (signs-others cs parts.1)

pub visible_texts_stay : VisibleTextsStay
unfolding visible_text
visible_texts_stay text utf8 h = ap encode_utf8_all (signs-others (chars text) h) ∙ encodes-chars text utf8

-- ---- a text of printable bytes has no control character

printable-seen : (b : ℕ) → is_printable b ≡ true → not (is_control b) ≡ true
printable-seen b h = grind (arith, nat_tests)

pub printable_texts_are_seen : (bs : List ℕ) → list_all is_printable bs ≡ true → list_all (λ c. not (is_control c)) (chars bs) ≡ true
printable_texts_are_seen = printable-chars (λ c. not (is_control c)) printable-seen

-- ---- no control character is left

-- what stands for a character is one, and no control character
picture-scalar : (c : ℕ) → nat_lt c 0x20 ≡ true → scalar (0x2400 + c) ≡ true
picture-scalar c low = grind (arith, nat_tests)

sign_of-scalar : (c : ℕ) → scalar c ≡ true → scalar (sign_of c) ≡ true
sign_of-scalar c h =
    elim (not (is_control c)) as (λ v. scalar (cond v c (cond (nat_lt c 0x20) (0x2400 + c) (cond (c == 0x7F) 0x2421 0xFFFD))) ≡ true) [
      | true ↦ h
      | false ↦
          elim (nat_lt c 0x20) as (λ v. nat_lt c 0x20 ≡ v → scalar (cond v (0x2400 + c) (cond (c == 0x7F) 0x2421 0xFFFD)) ≡ true) [
            | true ↦ λ low. picture-scalar c low
            | false ↦ λ high. elim (c == 0x7F) as (λ v. scalar (cond v 0x2421 0xFFFD) ≡ true) [ true ↦ refl | false ↦ refl ]
          ] refl
    ]

picture-seen : (c : ℕ) → nat_lt c 0x20 ≡ true → not (is_control (0x2400 + c)) ≡ true
picture-seen c low = grind (arith, nat_tests)

sign_of-seen : (c : ℕ) → not (is_control (sign_of c)) ≡ true
sign_of-seen c =
    elim (not (is_control c)) as (λ v. not (is_control c) ≡ v → not (is_control (cond v c (cond (nat_lt c 0x20) (0x2400 + c) (cond (c == 0x7F) 0x2421 0xFFFD)))) ≡ true) [
      | true ↦ λ other. other
      | false ↦ λ control.
          elim (nat_lt c 0x20) as (λ v. nat_lt c 0x20 ≡ v → not (is_control (cond v (0x2400 + c) (cond (c == 0x7F) 0x2421 0xFFFD))) ≡ true) [
            | true ↦ λ low. picture-seen c low
            | false ↦ λ high. elim (c == 0x7F) as (λ v. not (is_control (cond v 0x2421 0xFFFD)) ≡ true) [ true ↦ refl | false ↦ refl ]
          ] refl
    ] refl

signs-scalars : (cs : List ℕ) → scalars cs ≡ true → scalars (map sign_of cs) ≡ true
signs-scalars [] h = refl
signs-scalars (c ∷ cs) h =
    let parts = and_parts (scalar c) (scalars cs) h in
    ap (λ v. v && scalars (map sign_of cs)) (sign_of-scalar c parts.0) ∙ signs-scalars cs parts.1

signs-seen : (cs : List ℕ) → list_all (λ c. not (is_control c)) (map sign_of cs) ≡ true
signs-seen [] = refl
signs-seen (c ∷ cs) = ap (λ v. v && list_all (λ d. not (is_control d)) (map sign_of cs)) (sign_of-seen c) ∙ signs-seen cs

pub no_controls_are_left : NoControlsAreLeft
unfolding visible_text
no_controls_are_left text utf8 =
    ap (list_all (λ c. not (is_control c))) (chars-encodes (map sign_of (chars text)) (signs-scalars (chars text) (scalars-chars text utf8))) ∙ signs-seen (chars text)

-- ---- one column

abbrev takes_one : ℕ → Bool
takes_one c = str_width false (sign_of c ∷ []) == 1

low-one : list_all takes_one (range_with_len 0 10) ≡ true
unfolding unicode_width
low-one = refl

low-rest-one : list_all takes_one (range_with_len 11 21) ≡ true
unfolding unicode_width
low-rest-one = refl

high-one : list_all takes_one (range_with_len 127 33) ≡ true
unfolding unicode_width
high-one = refl

in-range : (p : ℕ → Bool) (from n c : ℕ) → list_all p (range_with_len from n) ≡ true → from ≤ c → c < from + n → p c ≡ true
in-range p from zero c h low high = absurd (omega arith)
in-range p from (suc n) c h low high =
    let parts = and_parts (p from) (list_all p (range_with_len (from + 1) n)) h in
    ⊎_elim (λ (none : c - from ≡ 0). let is : from ≡ c = omega arith in subst (λ k. p k ≡ true) is parts.0)
    (λ (some : 0 < c - from). in-range p (from + 1) n c parts.1 (omega arith) (omega arith))
    (eq-zero-or-pos (c - from))

replacement-one : (str_width false (0xFFFD ∷ []) == 1) ≡ true
unfolding unicode_width
replacement-one = refl

-- what stands for a hidden character
sign_of-hidden : (c : ℕ) → is_hidden c ≡ true → sign_of c ≡ 0xFFFD
sign_of-hidden c h = grind (arith, nat_tests)

-- a control character is of C0 before a line feed or behind one, DEL, of C1, or hidden
control-where : (c : ℕ) → is_control c ≡ true → (c < 10) ⊎ (((10 < c) × (c < 32)) ⊎ (((126 < c) × (c < 160)) ⊎ (is_hidden c ≡ true)))
control-where c h = grind (arith, nat_tests)

pub signs_take_one_column : SignsTakeOneColumn
signs_take_one_column c h =
    let one : takes_one c ≡ true = ⊎_elim (λ low. in-range takes_one 0 10 c low-one (omega arith) (omega arith))
    (λ rest. ⊎_elim (λ low. in-range takes_one 11 21 c low-rest-one (omega (arith, low.0)) (omega (arith, low.1)))
    (λ others. ⊎_elim (λ high. in-range takes_one 127 33 c high-one (omega (arith, high.0)) (omega (arith, high.1)))
    (λ hidden. ap (λ s. str_width false (s ∷ []) == 1) (sign_of-hidden c hidden) ∙ replacement-one) others) rest)
    (control-where c h) in
    grind (arith, nat_tests)

-- ---- lines of printable ASCII: each byte is a character by itself, and takes one column

-- ---- characters

is_other : GraphemeClusterBreak → Bool
is_other Other = true
is_other _ = false

is_other-is : (v : GraphemeClusterBreak) → is_other v ≡ true → Other ≡ v
unfolding is_other
is_other-is Other h = refl
is_other-is _ h = cc

other-or-outside : ℕ → GraphemeClusterBreak → Bool
other-or-outside b v = not (is_printable b) || is_other v

printable-other-test : (b : ℕ) → b < 128 → other-or-outside b (grapheme_cluster_break b) ≡ true
unfolding ucd_breaks other-or-outside is_other
printable-other-test = Stepped-below grapheme_cluster_break grapheme_cluster_break_stepped other-or-outside 128 refl

printable-other : (b : ℕ) → is_printable b ≡ true → Other ≡ grapheme_cluster_break b
unfolding other-or-outside
printable-other b h =
    is_other-is (grapheme_cluster_break b) (sym (ap (λ v. not v || is_other (grapheme_cluster_break b)) h) ∙ printable-other-test b (printable-low b h))

abbrev alone : List ℕ → List (List ℕ)
alone cs = map (λ c. c ∷ []) cs

breaks-behind : (c : ℕ) (before cs : List ℕ) → is_printable c ≡ true → list_all is_printable cs ≡ true → is_grapheme_break true (c ∷ before) (cs ++ []) ≡ true
unfolding is_grapheme_break
breaks-behind c before [] here rest = refl
breaks-behind c before (d ∷ cs) here rest =
    let next = (and_parts (is_printable d) (list_all is_printable cs) rest).0 in
    sym (is_grapheme_break-others true (c ∷ before) d (cs ++ []) (omega arith) (omega (arith, printable-low d next)) (printable-other c here) (printable-other d next))

cut-alone : (before cs : List ℕ) → list_all is_printable cs ≡ true → cut (is_grapheme_break true) before cs [] ≡ alone cs
unfolding cut
cut-alone before [] h = refl
cut-alone before (c ∷ cs) h =
    let parts = and_parts (is_printable c) (list_all is_printable cs) h in
    let rest = cut (is_grapheme_break true) (c ∷ before) cs [] in
    ap (λ v. cond v ((c ∷ []) ∷ rest) (prepend (c ∷ []) rest)) (breaks-behind c before cs parts.0 parts.1) ∙ ap (λ z. (c ∷ []) ∷ z) (cut-alone (c ∷ before) cs parts.1)

encoded-alone : (cs : List ℕ) → list_all is_printable cs ≡ true → map encode_utf8_all (alone cs) ≡ alone cs
encoded-alone [] h = refl
encoded-alone (c ∷ cs) h =
    let parts = and_parts (is_printable c) (list_all is_printable cs) h in
    ap (λ (z : List ℕ). (z ++ []) ∷ map encode_utf8_all (alone cs)) (encode_ascii c (printable-low c parts.0)) ∙ ap (λ z. (c ∷ []) ∷ z) (encoded-alone cs parts.1)

pub graphemes-printable : (text : Text) → list_all is_printable text ≡ true → graphemes true text ≡ alone text
unfolding segments
graphemes-printable text h =
    ap (λ cs. map encode_utf8_all (cut (is_grapheme_break true) [] cs [])) (chars-IsAscii text (IsAscii-printable text h))
    ∙ ap (map encode_utf8_all) (cut-alone [] text h) ∙ encoded-alone text h

-- ---- widths

printable-plain : (b : ℕ) → is_printable b ≡ true → is_plain_byte b ≡ true
printable-plain b h = grind (arith, nat_tests)

pub printable_texts_are_plain : (bs : List ℕ) → list_all is_printable bs ≡ true → list_all is_plain_byte bs ≡ true
printable_texts_are_plain [] h = refl
printable_texts_are_plain (b ∷ bs) h =
    let parts = and_parts (is_printable b) (list_all is_printable bs) h in
    and_from (is_plain_byte b) (list_all is_plain_byte bs) (printable-plain b parts.0) (printable_texts_are_plain bs parts.1)

-- a part of a text of such bytes, which are as many as its columns
printable-part : (text : Text) (i j : ℕ) → i ≤ j → j ≤ length text → list_all is_printable text ≡ true → list_all is_printable (slice_range text i j) ≡ true
printable-part text i j order end h =
    let n = length text in
    let rest = slice_range text i n in
    let whole : list_all is_printable (slice_range text 0 i ++ rest) ≡ true = ap (list_all is_printable) (sym (slice_range_split text 0 i n (omega arith) (omega arith)) ∙ slice_range-all text) ∙ h in
    let behind = (and_parts (list_all is_printable (slice_range text 0 i)) (list_all is_printable rest) (sym (list_all-append is_printable (slice_range text 0 i) rest) ∙ whole)).1 in
    let here : list_all is_printable (slice_range text i j ++ slice_range text j n) ≡ true = ap (list_all is_printable) (sym (slice_range_split text i j n order end)) ∙ behind in
    (and_parts (list_all is_printable (slice_range text i j)) (list_all is_printable (slice_range text j n)) (sym (list_all-append is_printable (slice_range text i j) (slice_range text j n)) ∙ here)).0

pub part-width : (text : Text) (i j : ℕ) → i ≤ j → j ≤ length text → list_all is_printable text ≡ true → j - i ≡ width_of (slice_range text i j)
part-width text i j order end h =
    sym (width_of-plain (slice_range text i j) (printable_texts_are_plain (slice_range text i j) (printable-part text i j order end h)) ∙ length-slice_range text i j end)

one-column : (b : ℕ) → is_printable b ≡ true → width_of (b ∷ []) ≡ 1
one-column b h = width_of-plain (b ∷ []) (and_from (is_plain_byte b) true (printable-plain b h) refl)

widest-alone : (cs : List ℕ) → list_all is_printable cs ≡ true → greatest (map width_of (alone cs)) ≡ min 1 (length cs)
widest-alone [] h = refl
widest-alone (c ∷ cs) h =
    let parts = and_parts (is_printable c) (list_all is_printable cs) h in
    omega (arith, one-column c parts.0, widest-alone cs parts.1)

pub widest-printable : (text : Text) → list_all is_printable text ≡ true → widest_character text ≡ min 1 (length text)
widest-printable text h = ap (λ cs. greatest (map width_of cs)) (graphemes-printable text h) ∙ widest-alone text h

-- ---- words

-- pieces of such characters, each with some
abbrev PiecesPrintable : List Piece → Type 0
PiecesPrintable [] = Unit {0}
PiecesPrintable (p ∷ ps) = (list_all is_printable p.gap ≡ true) × (list_all is_printable p.text ≡ true) × (0 < length p.text) × PiecesPrintable ps

-- a byte that is a word, put before the text of one, and before its spaces
abbrev one : ℕ → Piece
one b = record { gap = []; text = b ∷ [] }

abbrev onto_text : ℕ → Piece → Piece
onto_text b p = record { gap = []; text = b ∷ p.text }

abbrev onto_gap : ℕ → Piece → Piece
onto_gap b p = record { gap = b ∷ p.gap; text = p.text }

before-printable : (b : ℕ) (ps : List Piece) → is_printable b ≡ true → PiecesPrintable ps → PiecesPrintable (before_words b ps)
before-printable b [] h each =
    elim (b == 32) as (λ v. PiecesPrintable (cond v [] (one b ∷ []))) [ true ↦ tt | false ↦ (refl, and_from (is_printable b) true h refl, omega arith, tt) ]
before-printable b (p ∷ ps) h each =
    elim (b == 32) as (λ v. PiecesPrintable (cond v (onto_gap b p ∷ ps) (cond (length p.gap == 0) (onto_text b p ∷ ps) (one b ∷ p ∷ ps)))) [
      | true ↦ (and_from (is_printable b) (list_all is_printable p.gap) h each.0, each.1, each.2, each.3)
      | false ↦
          elim (length p.gap == 0) as (λ v. PiecesPrintable (cond v (onto_text b p ∷ ps) (one b ∷ p ∷ ps))) [
            | true ↦ (refl, and_from (is_printable b) (list_all is_printable p.text) h each.1, omega arith, each.3)
            | false ↦ (refl, and_from (is_printable b) true h refl, omega arith, each)
          ]
    ]

words-printable : (line : Text) → list_all is_printable line ≡ true → PiecesPrintable (words line)
words-printable [] h = tt
words-printable (b ∷ bs) h =
    let parts = and_parts (is_printable b) (list_all is_printable bs) h in
    before-printable b (words bs) parts.0 (words-printable bs parts.1)

printable-append : (xs ys : Text) → list_all is_printable xs ≡ true → list_all is_printable ys ≡ true → list_all is_printable (xs ++ ys) ≡ true
printable-append [] ys h k = k
printable-append (x ∷ xs) ys h k =
    let parts = and_parts (is_printable x) (list_all is_printable xs) h in
    and_from (is_printable x) (list_all is_printable (xs ++ ys)) parts.0 (printable-append xs ys parts.1 k)

indented-printable : (ps : List Piece) → PiecesPrintable ps → PiecesPrintable (indented ps)
indented-printable [] each = tt
indented-printable (p ∷ ps) each = (refl, printable-append p.gap p.text each.0 each.1, omega (arith, length-append p.gap p.text, each.2), each.3)

widest-words : (ps : List Piece) → PiecesPrintable ps → greatest (map (λ p. widest_character p.text) ps) ≡ min 1 (length ps)
widest-words [] each = refl
widest-words (p ∷ ps) each = omega (arith, widest-printable p.text each.1, each.2, widest-words ps each.3)

indented-long : (ps : List Piece) → length (indented ps) ≡ length ps
indented-long [] = refl
indented-long (p ∷ ps) = refl

-- there is a word where not each byte is a space
before-some : (b : ℕ) (ps : List Piece) → min 1 (length (before_words b ps)) ≡ cond (b == 32) (min 1 (length ps)) 1
before-some b [] = elim (b == 32) as (λ v. min 1 (length (cond v [] (one b ∷ []))) ≡ cond v 0 1) [ true ↦ refl | false ↦ refl ]
before-some b (p ∷ ps) =
    elim (b == 32) as (λ v. min 1 (length (cond v (onto_gap b p ∷ ps) (cond (length p.gap == 0) (onto_text b p ∷ ps) (one b ∷ p ∷ ps)))) ≡ cond v (min 1 (length (p ∷ ps))) 1) [
      | true ↦ omega arith
      | false ↦ elim (length p.gap == 0) as (λ v. min 1 (length (cond v (onto_text b p ∷ ps) (one b ∷ p ∷ ps))) ≡ 1) [ true ↦ omega arith | false ↦ omega arith ]
    ]

both-blank : (a b : Bool) (m n : ℕ) → cond a (cond b m n) n ≡ cond (a && b) m n
both-blank true b m n = refl
both-blank false b m n = refl

words-some : (line : Text) → min 1 (length (words line)) ≡ cond (list_all (λ b. b == 32) line) 0 1
words-some [] = refl
words-some (b ∷ bs) =
    before-some b (words bs) ∙ ap (λ n. cond (b == 32) n 1) (words-some bs) ∙ both-blank (b == 32) (list_all (λ c. c == 32) bs) 0 1

-- ---- least widths

pub least-anywhere : (line : Text) → list_all is_printable line ≡ true → least_line_width Anywhere line ≡ min 1 (length line)
least-anywhere line h = widest-printable line h

least-words : (line : Text) → list_all is_printable line ≡ true → least_line_width BetweenWords line ≡ cond (list_all (λ b. b == 32) line) 0 1
least-words line h =
    widest-words (indented (words line)) (indented-printable (words line) (words-printable line h)) ∙ ap (min 1) (indented-long (words line)) ∙ words-some line

pub least-spaces : (line : Text) → list_all is_printable line ≡ true → list_all (λ b. b == 32) line ≡ true → 0 ≡ least_line_width BetweenWords line
least-spaces line h blank = sym (least-words line h ∙ ap (λ (v : Bool). cond {A = ℕ} v 0 1) blank)

pub least-word : (line : Text) → list_all is_printable line ≡ true → list_all (λ b. b == 32) line ≡ false → 1 ≡ least_line_width BetweenWords line
least-word line h some = sym (least-words line h ∙ ap (λ (v : Bool). cond {A = ℕ} v 0 1) some)

-- such a text is one line
pub least-one_line : (breaking : Breaking) (text : Text) → list_all is_printable text ≡ true → least_width breaking text ≡ least_line_width breaking text
unfolding least_width
least-one_line breaking text h =
    ap (λ ls. greatest (map (least_line_width breaking) ls)) (lines_of-one text (feed_place-plain text (printable_texts_are_plain text h))) ∙ omega arith

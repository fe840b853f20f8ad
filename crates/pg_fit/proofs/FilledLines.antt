-- Words, and lines that are joined, filled with pieces, or broken.
use Rattle.std.proofs.Common.{◌≡◌, ◌<◌, List, [], ◌∷◌, ◌++◌, length, append_assoc, append-nil, sym, ap, ◌∙◌, arith, ◌⊎◌, inl, inr, ⊎_elim, ℕ, ◌-◌, ◌≤◌, true, false, cond, take, drop, length-append, refl, ◌+◌, get_or, get_or-take, get_or-drop, eq-zero-or-pos, suc, ◌==◌, not, Bool, length-drop, drop-drop, take-add, one-add, nat_lt, subst, Option, Some, None, unwrap_or}
use Rattle.std.specs.List.{join_with_byte, flat_map, slice_range, concat, All, position_or_len}
use Rattle.std.proofs.lemmas.Grind.{flat_map-append}
use Rattle.pg_layout.specs.Text.{Text, width_of}
use Rattle.std.proofs.lemmas.Bool.Decides.{nat_tests}
use Rattle.unicode_segmentation.proofs.TextLemmas.{slice_range_split, length-slice_range}
use Rattle.pg_fit.specs.Wrapping.{Piece, takes, filled, fits, pieces, wrapped_line, before_words, words, indented}
use Rattle.std.proofs.lemmas.List.Concat.{flat_map-cons}
use Rattle.pg_layout.proofs.TextLines.{slice_range-front, take-length}
use Rattle.pg_fit.specs.declared.wrapping.Breaking.{Breaking}
use Rattle.std.specs.Str.{IsUtf8, IsCharBoundary}
use Rattle.std.proofs.lemmas.List.{take_at, drop_at}
use Rattle.std.proofs.lemmas.List.Elements.{All-head, All-tail}
use Rattle.std.proofs.lemmas.Str.{IsUtf8-between, IsCharBoundary-before_ascii, IsCharBoundary-after_ascii, IsCharBoundary-end, IsCharBoundary-start}
use Rattle.unicode_segmentation.specs.Grapheme.{graphemes, is_grapheme_break}
use Rattle.unicode_segmentation.specs.Segments.{with_offsets}
use Rattle.unicode_segmentation.proofs.SegmentsLemmas.{IsPieceOf, All-IsPieceOf, concat-segments}
use Rattle.std.proofs.lemmas.List.Sums.{prefix_len-le-length, fails_before_first, passes_at_first}
use Rattle.pg_fit.specs.Inside.{IsNextWord, words_from}

-- ---- lines that are joined, filled with pieces, or broken

-- ---- lines joined by a line feed: the first one, and each other one after a line feed

-- each line after a line feed
abbrev pub fed : List Text → Text
fed lines = flat_map (λ line. 10 ∷ line) lines

pub join-fed : (line : Text) (lines : List Text) → join_with_byte 10 (line ∷ lines) ≡ line ++ fed lines
join-fed line [] = sym (append-nil line)
join-fed line (next ∷ lines) = ap (λ z. line ++ 10 ∷ z) (join-fed next lines)

pub fed-joined : (lines : List Text) → 0 < length lines → fed lines ≡ 10 ∷ join_with_byte 10 lines
fed-joined [] some = absurd (omega arith)
fed-joined (line ∷ lines) some = ap (λ z. 10 ∷ z) (sym (join-fed line lines))

pub joined-append : (lines more : List Text) → 0 < length lines → join_with_byte 10 (lines ++ more) ≡ join_with_byte 10 lines ++ fed more
joined-append [] more some = absurd (omega arith)
joined-append (line ∷ lines) more some =
    join-fed line (lines ++ more)
    ∙ ap (λ z. line ++ z) (flat_map-append (λ (l : Text). 10 ∷ l) lines more)
    ∙ sym (append_assoc line (fed lines) (fed more))
    ∙ ap (λ z. z ++ fed more) (sym (join-fed line lines))

-- ---- lines that are filled with pieces

-- there is a line
pub filled-some : (width : ℕ) (line : Text) (ps : List Piece) → 0 < length (filled width line ps)
filled-some width line [] = omega arith
filled-some width line (p ∷ ps) =
    elim (takes width line p) as (λ v. 0 < length (cond v (filled width (line ++ (p.gap ++ p.text)) ps) (line ∷ filled width p.text ps))) [
      | true ↦ filled-some width (line ++ (p.gap ++ p.text)) ps
      | false ↦ omega arith
    ]

-- the piece goes onto the line
pub filled-taken : (width : ℕ) (line : Text) (p : Piece) (ps : List Piece) → takes width line p ≡ true → filled width line (p ∷ ps) ≡ filled width (line ++ (p.gap ++ p.text)) ps
filled-taken width line p ps taken = ap (λ v. cond v (filled width (line ++ (p.gap ++ p.text)) ps) (line ∷ filled width p.text ps)) taken

-- the line ends before the piece
pub filled-ended : (width : ℕ) (line : Text) (p : Piece) (ps : List Piece) → takes width line p ≡ false → join_with_byte 10 (filled width line (p ∷ ps)) ≡ (line ++ 10 ∷ []) ++ join_with_byte 10 (filled width p.text ps)
filled-ended width line p ps ended =
    ap (λ v. join_with_byte 10 (cond v (filled width (line ++ (p.gap ++ p.text)) ps) (line ∷ filled width p.text ps))) ended
    ∙ join-fed line (filled width p.text ps)
    ∙ ap (λ z. line ++ z) (fed-joined (filled width p.text ps) (filled-some width p.text ps))
    ∙ sym (append_assoc line (10 ∷ []) (join_with_byte 10 (filled width p.text ps)))

-- ---- parts of a text

pub whole : (text : Text) (a b c d : ℕ) → a ≤ b → b ≤ c → c ≤ d → slice_range text a d ≡ slice_range text a b ++ (slice_range text b c ++ slice_range text c d)
whole text a b c d ab bc cd = slice_range_split text a b d ab (omega arith) ∙ ap (λ z. slice_range text a b ++ z) (slice_range_split text b c d bc cd)

takes-true : (width : ℕ) (line : Text) (p : Piece) → (length (line ++ p.gap) ≡ 0) ⊎ (width_of (line ++ (p.gap ++ p.text)) ≤ width) → takes width line p ≡ true
takes-true width line p why = ⊎_elim (λ no. grind (arith, nat_tests, no)) (λ low. grind (arith, nat_tests, low)) why

takes-false : (width : ℕ) (line : Text) (p : Piece) → 0 < length (line ++ p.gap) → width < width_of (line ++ (p.gap ++ p.text)) → takes width line p ≡ false
takes-false width line p some wide = grind (arith, nat_tests)

-- the piece of a text from c to d, behind a line that ends at b
abbrev pub piece_at : Text → ℕ → ℕ → ℕ → Piece
piece_at text b c d = record { gap = slice_range text b c; text = slice_range text c d }

-- a piece behind a line that is empty, or with which the line fits
pub joined-taken : (width : ℕ) (text : Text) (a b c d : ℕ) → a ≤ b → b ≤ c → c ≤ d → c ≤ length text → (a ≡ c) ⊎ (width_of (slice_range text a d) ≤ width) → (ps : List Piece)
    → join_with_byte 10 (filled width (slice_range text a d) ps) ≡ join_with_byte 10 (filled width (slice_range text a b) (piece_at text b c d ∷ ps))
joined-taken width text a b c d ab bc cd within why ps =
    let is = whole text a b c d ab bc cd in
    let taken = takes-true width (slice_range text a b) (piece_at text b c d)
    (⊎_elim (λ (none : a ≡ c). inl (omega (arith, length-append (slice_range text a b) (slice_range text b c), ap length (slice_range_split text a b c ab bc), length-slice_range text a c within))) (λ (low : width_of (slice_range text a d) ≤ width). inr (rw is at low)) why) in
    ap (λ z. join_with_byte 10 (filled width z ps)) is ∙ sym (ap (join_with_byte 10) (filled-taken width (slice_range text a b) (piece_at text b c d) ps taken))

-- a piece with which the line doesn't fit
pub joined-ended : (width : ℕ) (text : Text) (a b c d : ℕ) → a ≤ b → a < c → b ≤ c → c ≤ d → c ≤ length text → width < width_of (slice_range text a d) → (ps : List Piece)
    → join_with_byte 10 (filled width (slice_range text a b) (piece_at text b c d ∷ ps)) ≡ (slice_range text a b ++ 10 ∷ []) ++ join_with_byte 10 (filled width (slice_range text c d) ps)
joined-ended width text a b c d ab some bc cd within wide ps =
    let is = whole text a b c d ab bc cd in
    filled-ended width (slice_range text a b) (piece_at text b c d) ps
    (takes-false width (slice_range text a b) (piece_at text b c d) (omega (arith, length-append (slice_range text a b) (slice_range text b c), ap length (slice_range_split text a b c ab bc), length-slice_range text a c within)) (rw is at wide))

-- a part that ends where it begins
pub slice_range-none : (text : Text) (n : ℕ) → slice_range text n n ≡ []
slice_range-none text n = let none : n - n ≡ 0 = omega arith in ap (λ k. take k (drop n text)) none

-- ---- lines that stay or are broken, and the lines of a text one after another

pub slice_range-all : (text : Text) → slice_range text 0 (length text) ≡ text
slice_range-all text = slice_range-front text (length text) ∙ take-length text (length text) refl

pub wrapped_line-fits : (breaking : Breaking) (width : ℕ) (line : Text) → width_of line ≤ width → wrapped_line breaking width line ≡ line ∷ []
unfolding wrapped_line
wrapped_line-fits breaking width line low =
    let yes : fits width line ≡ true = grind (arith, nat_tests) in
    ap (λ v. cond v (line ∷ []) (filled width [] (pieces breaking width line))) yes

pub wrapped_line-broken : (breaking : Breaking) (width : ℕ) (line : Text) → width < width_of line → wrapped_line breaking width line ≡ filled width [] (pieces breaking width line)
unfolding wrapped_line
wrapped_line-broken breaking width line wide =
    let no : fits width line ≡ false = grind (arith, nat_tests) in
    ap (λ v. cond v (line ∷ []) (filled width [] (pieces breaking width line))) no

pub wrapped_line-some : (breaking : Breaking) (width : ℕ) (line : Text) → 0 < length (wrapped_line breaking width line)
unfolding wrapped_line
wrapped_line-some breaking width line =
    elim (fits width line) as (λ v. 0 < length (cond v (line ∷ []) (filled width [] (pieces breaking width line)))) [
      | true ↦ omega arith
      | false ↦ filled-some width [] (pieces breaking width line)
    ]

module _ (breaking : Breaking) (width : ℕ) where
  -- the first line of a text
  pub joined-first : (line : Text) (lines : List Text) → join_with_byte 10 (flat_map (wrapped_line breaking width) (line ∷ lines)) ≡ join_with_byte 10 (wrapped_line breaking width line) ++ fed (flat_map (wrapped_line breaking width) lines)
  joined-first line lines =
      ap (join_with_byte 10) (flat_map-cons (wrapped_line breaking width) line lines) ∙ joined-append (wrapped_line breaking width line) (flat_map (wrapped_line breaking width) lines) (wrapped_line-some breaking width line)

  -- and a further one
  pub fed-next : (line : Text) (lines : List Text) → fed (flat_map (wrapped_line breaking width) (line ∷ lines)) ≡ 10 ∷ (join_with_byte 10 (wrapped_line breaking width line) ++ fed (flat_map (wrapped_line breaking width) lines))
  fed-next line lines =
      ap fed (flat_map-cons (wrapped_line breaking width) line lines)
      ∙ flat_map-append (λ (l : Text). 10 ∷ l) (wrapped_line breaking width line) (flat_map (wrapped_line breaking width) lines)
      ∙ ap (λ z. z ++ fed (flat_map (wrapped_line breaking width) lines)) (fed-joined (wrapped_line breaking width line) (wrapped_line-some breaking width line))

-- ---- the characters of a part of a text, and where they stand in the whole text

-- pieces that stand one behind another in a text, from one place up to another, where it may be cut between them
abbrev pub StandFrom : Text → ℕ → ℕ → List Text → Type 0
StandFrom text to at [] = at ≡ to
StandFrom text to at (p ∷ ps) = (at + length p ≤ to) × (slice_range text at (at + length p) ≡ p) × IsCharBoundary text (at + length p) × StandFrom text to (at + length p) ps

-- where a part may be cut, the text may
boundary_in : (text : Text) (from to j : ℕ) → from ≤ to → to ≤ length text → IsCharBoundary text to → IsCharBoundary (slice_range text from to) j → IsCharBoundary text (from + j)
boundary_in text from to j order within end inner =
    let long = length-slice_range text from to within in
    ⊎_elim
    (λ (none : to - from - j ≡ 0). let is : to ≡ from + j = omega (arith, inner.0) in rw is at end)
    (λ (some : 0 < to - from - j).
    let reads : get_or (slice_range text from to) j 0 ≡ get_or text (from + j) 0 = get_or-take (to - from) (drop from text) j 0 (omega arith) ∙ get_or-drop from text j 0 in
    (omega (arith, inner.0), λ _ high. let low = inner.1 (omega arith) (rw reads high) in rw reads at low))
    (eq-zero-or-pos (to - from - j))

-- the first of two parts that are equal to two others, where the first ones are equally long
first_same : (a b c d : Text) → a ++ b ≡ c ++ d → length a ≡ length c → a ≡ c
first_same a b c d e long = sym (take_at a b (length a) refl) ∙ ap (take (length a)) e ∙ take_at c d (length a) (sym long)

rest_same : (a b c d : Text) → a ++ b ≡ c ++ d → length a ≡ length c → b ≡ d
rest_same a b c d e long = sym (drop_at a b (length a) refl) ∙ ap (drop (length a)) e ∙ drop_at c d (length a) (sym long)

stand-from : (text : Text) (from to k at : ℕ) (ps : List Text) → from ≤ to → to ≤ length text → IsCharBoundary text to → at ≡ from + k → at ≤ to
    → All (IsPieceOf (slice_range text from to)) (with_offsets k ps) → concat ps ≡ slice_range text at to → StandFrom text to at ps
unfolding with_offsets
stand-from text from to k at [] order within end is before pieces joined = omega (arith, ap length joined, length-slice_range text at to within)
stand-from text from to k at (p ∷ ps) order within end is before pieces joined =
    let long : length p + length (concat ps) ≡ to - at = omega (arith, length-append p (concat ps), ap length joined, length-slice_range text at to within) in
    let fits : at + length p ≤ to = omega arith in
    let parted = joined ∙ slice_range_split text at (at + length p) to (omega arith) fits in
    let wide : length p ≡ length (slice_range text at (at + length p)) = omega (arith, length-slice_range text at (at + length p) (omega arith)) in
    let here = All-head (IsPieceOf (slice_range text from to)) (k, p) (with_offsets (k + length p) ps) pieces in
    let next : from + (k + length p) ≡ at + length p = omega arith in (
      fits,
      sym (first_same p (concat ps) _ _ parted wide),
      rw next at (boundary_in text from to (k + length p) order within end here.end),
      stand-from text from to (k + length p) (at + length p) ps order within end (omega arith) fits (All-tail (IsPieceOf (slice_range text from to)) (k, p) (with_offsets (k + length p) ps) pieces) (rest_same p (concat ps) _ _ parted wide),
    )

-- the characters of a part stand in it
pub characters-stand : (text : Text) (from to : ℕ) → IsUtf8 text → from ≤ to → IsCharBoundary text from → IsCharBoundary text to → StandFrom text to from (graphemes true (slice_range text from to))
characters-stand text from to utf8 order start end =
    let part = IsUtf8-between text from to utf8 order start end in
    stand-from text from to 0 from (graphemes true (slice_range text from to)) order end.0 end (omega arith) order
    (All-IsPieceOf (is_grapheme_break true) (slice_range text from to) part) (concat-segments (is_grapheme_break true) (slice_range text from to) part)

-- ---- the words of a text, found one after another

abbrev pub is_space : ℕ → Bool
is_space b = b == 32

abbrev pub is_other : ℕ → Bool
is_other b = not (b == 32)

-- how many spaces a text begins with, and how many bytes stand before the first space
abbrev pub spaces : Text → ℕ
spaces bs = position_or_len is_other bs

abbrev pub word : Text → ℕ
word bs = position_or_len is_space bs

-- what a search answers, with the length where nothing is found
pub unwrap_or-position : (p : ℕ → Bool) (bs : Text) (found : Option ℕ) → found ≡ cond (nat_lt (position_or_len p bs) (length bs)) (Some (position_or_len p bs)) None → unwrap_or found (length bs) ≡ position_or_len p bs
unwrap_or-position p bs found is = let within = prefix_len-le-length (λ b. not (p b)) bs in rw is (grind (arith, nat_tests))

spaces-yes : (b : ℕ) (bs : Text) → is_space b ≡ true → spaces (b ∷ bs) ≡ suc (spaces bs)
spaces-yes b bs h = ap (λ v. cond (not (not v)) (1 + spaces bs) 0) h ∙ one-add (spaces bs)

spaces-no : (b : ℕ) (bs : Text) → is_space b ≡ false → spaces (b ∷ bs) ≡ 0
spaces-no b bs h = ap (λ v. cond (not (not v)) (1 + spaces bs) 0) h

word-yes : (b : ℕ) (bs : Text) → is_space b ≡ false → word (b ∷ bs) ≡ suc (word bs)
word-yes b bs h = ap (λ v. cond (not v) (1 + word bs) 0) h ∙ one-add (word bs)

word-no : (b : ℕ) (bs : Text) → is_space b ≡ true → word (b ∷ bs) ≡ 0
word-no b bs h = ap (λ v. cond (not v) (1 + word bs) 0) h

-- ---- a byte before words

space-none : (b : ℕ) → is_space b ≡ true → before_words b [] ≡ []
space-none b h = ap (λ v. cond v [] (record { gap = []; text = b ∷ [] } ∷ [])) h

space-some : (b : ℕ) (p : Piece) (ps : List Piece) → is_space b ≡ true → before_words b (p ∷ ps) ≡ record { gap = b ∷ p.gap; text = p.text } ∷ ps
space-some b p ps h = ap (λ v. cond v (record { gap = b ∷ p.gap; text = p.text } ∷ ps) (cond (length p.gap == 0) (record { gap = []; text = b ∷ p.text } ∷ ps) (record { gap = []; text = b ∷ [] } ∷ p ∷ ps))) h

other-none : (b : ℕ) → is_space b ≡ false → before_words b [] ≡ record { gap = []; text = b ∷ [] } ∷ []
other-none b h = ap (λ v. cond v [] (record { gap = []; text = b ∷ [] } ∷ [])) h

other-some : (b : ℕ) (p : Piece) (ps : List Piece) → is_space b ≡ false → before_words b (p ∷ ps) ≡ cond (length p.gap == 0) (record { gap = []; text = b ∷ p.text } ∷ ps) (record { gap = []; text = b ∷ [] } ∷ p ∷ ps)
other-some b p ps h = ap (λ v. cond v (record { gap = b ∷ p.gap; text = p.text } ∷ ps) (cond (length p.gap == 0) (record { gap = []; text = b ∷ p.text } ∷ ps) (record { gap = []; text = b ∷ [] } ∷ p ∷ ps))) h

-- ---- words

-- of spaces no word is left
pub words-none : (bs : Text) → spaces bs ≡ length bs → words bs ≡ []
words-none [] none = refl
words-none (b ∷ bs) none =
    elim (is_space b) as (λ v. is_space b ≡ v → before_words b (words bs) ≡ []) [
      | true ↦ λ h. ap (before_words b) (words-none bs (omega (arith, spaces-yes b bs h, none))) ∙ space-none b h
      | false ↦ λ h. absurd (omega (arith, spaces-no b bs h, none))
    ] refl

-- a word of one byte
words-apart : (b : ℕ) (bs : Text) → is_space b ≡ false → word bs ≡ 0 → before_words b (words bs) ≡ record { gap = []; text = b ∷ [] } ∷ words bs
words-apart b [] h end = other-none b h
words-apart b (c ∷ cs) h end =
    elim (is_space c) as (λ v. is_space c ≡ v → before_words b (before_words c (words cs)) ≡ record { gap = []; text = b ∷ [] } ∷ before_words c (words cs)) [
      | true ↦ λ k.
          elim (words cs) as (λ z. before_words b (before_words c z) ≡ record { gap = []; text = b ∷ [] } ∷ before_words c z) [
            | [] ↦ ap (before_words b) (space-none c k) ∙ other-none b h ∙ ap (λ z. record { gap = []; text = b ∷ [] } ∷ z) (sym (space-none c k))
            | p ∷ ps ↦ ap (before_words b) (space-some c p ps k) ∙ other-some b (record { gap = c ∷ p.gap; text = p.text }) ps h
                ∙ (let no : (suc (length p.gap) == 0) ≡ false = grind (arith, nat_tests) in ap (λ v. cond v (record { gap = []; text = b ∷ p.text } ∷ ps) (record { gap = []; text = b ∷ [] } ∷ record { gap = c ∷ p.gap; text = p.text } ∷ ps)) no) ∙ ap (λ z. record { gap = []; text = b ∷ [] } ∷ z) (sym (space-some c p ps k))
          ]
      | false ↦ λ k. absurd (omega (arith, word-yes c cs k, end))
    ] refl

-- a text that begins with a word
words-word : (bs : Text) → 0 < word bs → words bs ≡ record { gap = []; text = take (word bs) bs } ∷ words (drop (word bs) bs)
words-word [] some = absurd (omega arith)
words-word (b ∷ bs) some =
    elim (is_space b) as (λ v. is_space b ≡ v → before_words b (words bs) ≡ record { gap = []; text = take (word (b ∷ bs)) (b ∷ bs) } ∷ words (drop (word (b ∷ bs)) (b ∷ bs))) [
      | true ↦ λ h. absurd (omega (arith, word-no b bs h, some))
      | false ↦ λ h.
          let back = sym (word-yes b bs h) in
          ⊎_elim
          (λ (none : word bs ≡ 0). words-apart b bs h none ∙ ap (λ n. record { gap = []; text = b ∷ take n bs } ∷ words (drop n bs)) (sym none))
          (λ (more : 0 < word bs). ap (before_words b) (words-word bs more) ∙ other-some b (record { gap = []; text = take (word bs) bs }) (words (drop (word bs) bs)) h)
          (eq-zero-or-pos (word bs))
          ∙ ap (λ n. record { gap = []; text = take n (b ∷ bs) } ∷ words (drop n (b ∷ bs))) back
    ] refl

-- spaces, and a word behind them
pub words-next : (bs : Text) → spaces bs < length bs → words bs ≡ record { gap = take (spaces bs) bs; text = take (word (drop (spaces bs) bs)) (drop (spaces bs) bs) } ∷ words (drop (word (drop (spaces bs) bs)) (drop (spaces bs) bs))
words-next [] some = absurd (omega arith)
words-next (b ∷ bs) some =
    elim (is_space b) as (λ v. is_space b ≡ v → before_words b (words bs) ≡ record { gap = take (spaces (b ∷ bs)) (b ∷ bs); text = take (word (drop (spaces (b ∷ bs)) (b ∷ bs))) (drop (spaces (b ∷ bs)) (b ∷ bs)) } ∷ words (drop (word (drop (spaces (b ∷ bs)) (b ∷ bs))) (drop (spaces (b ∷ bs)) (b ∷ bs)))) [
      | true ↦ λ h.
          let rest = drop (spaces bs) bs in
          ap (before_words b) (words-next bs (omega (arith, spaces-yes b bs h, some)))
          ∙ space-some b (record { gap = take (spaces bs) bs; text = take (word rest) rest }) (words (drop (word rest) rest)) h
          ∙ ap (λ n. record { gap = take n (b ∷ bs); text = take (word (drop n (b ∷ bs))) (drop n (b ∷ bs)) } ∷ words (drop (word (drop n (b ∷ bs))) (drop n (b ∷ bs)))) (sym (spaces-yes b bs h))
      | false ↦ λ h.
          words-word (b ∷ bs) (omega (arith, word-yes b bs h))
          ∙ ap (λ n. record { gap = take n (b ∷ bs); text = take (word (drop n (b ∷ bs))) (drop n (b ∷ bs)) } ∷ words (drop (word (drop n (b ∷ bs))) (drop n (b ∷ bs)))) (sym (spaces-no b bs h))
    ] refl

-- behind spaces there is a word
word-some : (bs : Text) → spaces bs < length bs → 0 < word (drop (spaces bs) bs)
word-some [] some = absurd (omega arith)
word-some (b ∷ bs) some =
    elim (is_space b) as (λ v. is_space b ≡ v → 0 < word (drop (spaces (b ∷ bs)) (b ∷ bs))) [
      | true ↦ λ h. let rest = word-some bs (omega (arith, spaces-yes b bs h, some)) in let is : word (drop (spaces (b ∷ bs)) (b ∷ bs)) ≡ word (drop (spaces bs) bs) = ap (λ n. word (drop n (b ∷ bs))) (spaces-yes b bs h) in omega arith
      | false ↦ λ h. let is : word (drop (spaces (b ∷ bs)) (b ∷ bs)) ≡ word (b ∷ bs) = ap (λ n. word (drop n (b ∷ bs))) (spaces-no b bs h) in omega (arith, is, word-yes b bs h)
    ] refl

-- there are no more spaces than bytes, and no longer word
pub spaces-short : (bs : Text) → spaces bs ≤ length bs
spaces-short bs = prefix_len-le-length (λ b. not (is_other b)) bs

pub word-short : (bs : Text) → word bs ≤ length bs
word-short bs = prefix_len-le-length (λ b. not (is_space b)) bs

-- ---- in a text

-- a text may be cut behind spaces
pub behind_spaces : (text : Text) (at : ℕ) → IsUtf8 text → IsCharBoundary text at → spaces (drop at text) < length (drop at text) → IsCharBoundary text (at + spaces (drop at text))
behind_spaces text at utf8 start some =
    let g = spaces (drop at text) in
    let long = length-drop at text in
    ⊎_elim (λ (none : g ≡ 0). let is : at ≡ at + g = omega arith in rw is at start)
    (λ (more : 0 < g).
    let other = fails_before_first is_other (drop at text) (g - 1) 0 (omega arith) in
    let byte : get_or text (at + (g - 1)) 0 < 128 = let reads = get_or-drop at text (g - 1) 0 in grind (arith, nat_tests) in
    let is : at + (g - 1) + 1 ≡ at + g = omega arith in
    rw is at (IsCharBoundary-after_ascii text (at + (g - 1)) utf8 (omega arith) byte))
    (eq-zero-or-pos g)

-- and behind a word
behind_word : (text : Text) (at : ℕ) → at ≤ length text → IsCharBoundary text (at + word (drop at text))
behind_word text at within =
    let n = word (drop at text) in
    let long = length-drop at text in
    let short = prefix_len-le-length (λ b. not (is_space b)) (drop at text) in
    ⊎_elim (λ (all : length (drop at text) - n ≡ 0). subst (IsCharBoundary text) (let is : length text ≡ at + n = omega arith in is) (IsCharBoundary-end text))
    (λ (more : 0 < length (drop at text) - n).
    let space = passes_at_first is_space (drop at text) 0 (omega arith) in
    let byte : get_or text (at + n) 0 < 128 = let reads = get_or-drop at text n 0 in grind (arith, nat_tests) in
    IsCharBoundary-before_ascii text (at + n) (omega arith) byte)
    (eq-zero-or-pos (length (drop at text) - n))

from_later : (text : Text) (at : ℕ) → 0 < at → words_from text at ≡ words (drop at text)
from_later text at later = let no : (at == 0) ≡ false = grind (arith, nat_tests) in ap (λ v. cond v (indented (words text)) (words (drop at text))) no

slice_range-is : (text : Text) (a n : ℕ) → slice_range text a (a + n) ≡ take n (drop a text)
slice_range-is text a n = let is : a + n - a ≡ n = omega arith in ap (λ k. take k (drop a text)) is

pub later_word : (text : Text) (at : ℕ) → IsUtf8 text → 0 < at → IsCharBoundary text at → spaces (drop at text) < length (drop at text)
    → IsNextWord text at (at + spaces (drop at text)) (at + spaces (drop at text) + word (drop (spaces (drop at text)) (drop at text)))
later_word text at utf8 later start some =
    let rest = drop at text in
    let g = spaces rest in
    let n = word (drop g rest) in
    let long = length-drop at text in
    let more = word-some rest some in
    let past : drop g rest ≡ drop (at + g) text = drop-drop g at text in
    let past_word : drop n (drop g rest) ≡ drop (at + g + n) text = ap (drop n) past ∙ drop-drop n (at + g) text in
    record {
      behind = omega arith;
      some = omega arith;
      begin_boundary = behind_spaces text at utf8 start some;
      end_boundary = let is : word (drop (at + g) text) ≡ n = ap word (sym past) in rw is at (behind_word text (at + g) (omega arith));
      is = from_later text at later ∙ words-next rest some
          ∙ ap (λ z. record { gap = z; text = take n (drop g rest) } ∷ words (drop n (drop g rest))) (sym (slice_range-is text at g))
          ∙ ap (λ z. record { gap = slice_range text at (at + g); text = z } ∷ words (drop n (drop g rest))) (ap (take n) past ∙ sym (slice_range-is text (at + g) n))
          ∙ ap (λ z. record { gap = slice_range text at (at + g); text = slice_range text (at + g) (at + g + n) } ∷ z) (ap words past_word ∙ sym (from_later text (at + g + n) (omega arith)));
    }

pub first_word : (text : Text) → IsUtf8 text → spaces text < length text → IsNextWord text 0 0 (spaces text + word (drop (spaces text) text))
first_word text utf8 some =
    let g = spaces text in
    let n = word (drop g text) in
    let more = word-some text some in
    let past_word : drop n (drop g text) ≡ drop (g + n) text = drop-drop n g text in
    let whole : take g text ++ take n (drop g text) ≡ slice_range text 0 (g + n) = sym (take-add g n text) ∙ (let is : g + n ≡ g + n - 0 = omega arith in ap (λ k. take k text) is) in
    record {
      behind = omega arith;
      some = omega arith;
      begin_boundary = IsCharBoundary-start text utf8;
      end_boundary = behind_word text g (omega arith);
      is = ap indented (words-next text some)
          ∙ ap (λ z. record { gap = []; text = z } ∷ words (drop n (drop g text))) whole
          ∙ ap (λ z. record { gap = []; text = slice_range text 0 (g + n) } ∷ z) (ap words past_word ∙ sym (from_later text (g + n) (omega arith)))
          ∙ ap (λ z. record { gap = z; text = slice_range text 0 (g + n) } ∷ words_from text (g + n)) (sym (slice_range-none text 0));
    }

pub no_word : (text : Text) (at : ℕ) → spaces (drop at text) ≡ length (drop at text) → words_from text at ≡ []
no_word text at none =
    ⊎_elim
    (λ (first : at ≡ 0). let is : drop at text ≡ text = ap (λ n. drop n text) first in ap (words_from text) first ∙ ap indented (words-none text (rw is at none)))
    (λ (later : 0 < at). from_later text at later ∙ words-none (drop at text) none)
    (eq-zero-or-pos at)

-- the same, of numbers that are those
pub later_word-is : (text : Text) (at g n : ℕ) → IsUtf8 text → 0 < at → IsCharBoundary text at → g ≡ spaces (drop at text) → n ≡ word (drop (at + g) text) → g < length (drop at text) → IsNextWord text at (at + g) (at + g + n)
later_word-is text at g n utf8 later start g-is n-is some =
    let same : word (drop (spaces (drop at text)) (drop at text)) ≡ n = ap word (drop-drop (spaces (drop at text)) at text) ∙ ap (λ k. word (drop (at + k) text)) (sym g-is) ∙ sym n-is in
    let begin : at + spaces (drop at text) ≡ at + g = ap (λ k. at + k) (sym g-is) in
    let end : at + spaces (drop at text) + word (drop (spaces (drop at text)) (drop at text)) ≡ at + g + n = omega arith in
    subst (λ k. IsNextWord text at (at + g) k) end (subst (λ k. IsNextWord text at k (at + spaces (drop at text) + word (drop (spaces (drop at text)) (drop at text)))) begin
    (later_word text at utf8 later start (omega arith)))

pub first_word-is : (text : Text) (at g n : ℕ) → IsUtf8 text → at ≡ 0 → g ≡ spaces (drop at text) → n ≡ word (drop (at + g) text) → g < length (drop at text) → IsNextWord text at 0 (at + g + n)
first_word-is text at g n utf8 first g-is n-is some =
    let here : drop at text ≡ text = ap (λ k. drop k text) first in
    let g-here : g ≡ spaces text = g-is ∙ ap spaces here in
    let place : at + g ≡ spaces text = omega arith in
    let end : spaces text + word (drop (spaces text) text) ≡ at + g + n = omega (arith, ap (λ k. word (drop k text)) place) in
    subst (λ k. IsNextWord text at 0 k) end (subst (λ k. IsNextWord text k 0 (spaces text + word (drop (spaces text) text))) (sym first) (first_word text utf8 (omega (arith, ap length here))))

-- The lines of wrapped texts: they fit, and nothing but spaces between words is left out.
use Rattle.std.proofs.Common.{◌≡◌, ⊎_elim, ℕ, ◌≤◌, ◌==◌, true, false, cond, zero, ◌&&◌, ◌+◌, List, [], ◌∷◌, ◌++◌, length, map, append_assoc, append-nil, subst, refl, sym, ap, ◌∙◌, arith, suc, ◌<◌, get_or, lit<, length-append, not, Bool}
use Rattle.std.specs.List.{concat, flat_map, join_with_byte, list_all, sum_by, All, slice_split, onto_first, filter}
use Rattle.std.proofs.lemmas.Bool.{or_cases, and_parts}
use Rattle.std.proofs.lemmas.Bool.Decides.{nat_tests}
use Rattle.std.proofs.lemmas.List.Concat.{flat_map-cons}
use Rattle.std.proofs.lemmas.List.Splits.{join_with_byte-slice_split, slice_split_at, slice_split_none, length-slice_split}
use Rattle.unicode_segmentation.specs.Grapheme.{graphemes, is_grapheme_break}
use Rattle.unicode_segmentation.proofs.SegmentsLemmas.{concat-segments}
use Rattle.pg_layout.specs.Text.{Text, lines_of, width_of, text_width_of, greatest}
use Rattle.pg_fit.specs.declared.wrapping.Breaking.{Breaking}
use Rattle.pg_fit.specs.declared.wrapping.Breaking.TheVariants.{Anywhere, BetweenWords}
use Rattle.pg_fit.specs.Wrapping.{Piece, fits, takes, filled, characters, words, indented, parted, pieces, wrapped_line, wrapped, widest_character, least_line_width, before_words, least_width}
use Rattle.pg_fit.specs.Laws.{EachFits, LinesFit, NothingIsLost, FittingTextsStay, LinesStand, WrappedTextsFit, OnlySpacesAreLost}
use Rattle.pg_fit.specs.Controls.{is_letter, letter_columns}
use Rattle.pg_fit.proofs.LawsOfControls.{nothing_wide, letters-width}
use Rattle.pg_fit.proofs.FilledLines.{wrapped_line-fits, wrapped_line-some}
use Rattle.std.specs.Str.{IsUtf8, chars, encode_utf8_all}
use Rattle.std.proofs.lemmas.List.Elements.{All-nil, All-cons}
use Rattle.std.proofs.lemmas.Str.{IsUtf8-nil, IsUtf8-append, IsUtf8-encode, encodes-chars, inside_one, encode_ascii, len_utf8_bounds, length-encode}
use Rattle.std.proofs.Math.Utf8.{encode, scalars, scalar}
use Rattle.std.proofs.lemmas.Grind.{flat_map-append}
use Rattle.pg_layout.proofs.TextLines.{lines_of-one, feed_place, feed_place-plain}

-- ---- lines that fit, from which nothing is lost

-- ---- lines fit

no_length : (bs : Text) → length bs ≡ 0 → bs ≡ []
no_length [] h = refl
no_length (b ∷ bs) h = absurd (omega arith)

-- each piece fits
abbrev PiecesFit : ℕ → List Piece → Type 0
PiecesFit width [] = Unit {0}
PiecesFit width (p ∷ ps) = (width_of p.text ≤ width) × PiecesFit width ps

PiecesFit-append : (width : ℕ) (ps qs : List Piece) → PiecesFit width ps → PiecesFit width qs → PiecesFit width (ps ++ qs)
PiecesFit-append width [] qs p q = q
PiecesFit-append width (x ∷ ps) qs p q = (p.0, PiecesFit-append width ps qs p.1 q)

-- a line stays within the width where it takes a piece that fits
taken_fits : (width : ℕ) (line : Text) (p : Piece) → width_of p.text ≤ width → takes width line p ≡ true → width_of (line ++ (p.gap ++ p.text)) ≤ width
taken_fits width line p low taken =
    ⊎_elim
    (λ (none : (length (line ++ p.gap) == 0) ≡ true).
    let empty : line ++ p.gap ≡ [] = no_length (line ++ p.gap) (grind (arith, nat_tests)) in
    let is : line ++ (p.gap ++ p.text) ≡ p.text = sym (append_assoc line p.gap p.text) ∙ ap (λ z. z ++ p.text) empty in
    omega (arith, ap width_of is))
    (λ (yes : fits width (line ++ (p.gap ++ p.text)) ≡ true). grind (arith, nat_tests))
    (or_cases (length (line ++ p.gap) == 0) (fits width (line ++ (p.gap ++ p.text))) taken)

filled_fits : (width : ℕ) (line : Text) (ps : List Piece) → width_of line ≤ width → PiecesFit width ps → EachFits width (filled width line ps)
filled_fits width line [] low each = (low, tt)
filled_fits width line (p ∷ ps) low each =
    elim (takes width line p) as (λ v. takes width line p ≡ v → EachFits width (cond v (filled width (line ++ (p.gap ++ p.text)) ps) (line ∷ filled width p.text ps))) [
      | true ↦ λ h. filled_fits width (line ++ (p.gap ++ p.text)) ps (taken_fits width line p each.0 h) each.1
      | false ↦ λ h. (low, filled_fits width p.text ps each.0 each.1)
    ] refl

characters_fit : (width : ℕ) (gap : Text) (cs : List Text) → greatest (map width_of cs) ≤ width → PiecesFit width (characters gap cs)
characters_fit width gap [] low = tt
characters_fit width gap (c ∷ cs) low = (omega arith, characters_fit width [] cs (omega arith))

parted_fits : (width : ℕ) (p : Piece) → widest_character p.text ≤ width → PiecesFit width (parted width p)
parted_fits width p low =
    elim (fits width p.text) as (λ v. fits width p.text ≡ v → PiecesFit width (cond v (p ∷ []) (characters p.gap (graphemes true p.text)))) [
      | true ↦ λ h. (let is : width_of p.text ≤ width = grind (arith, nat_tests) in is, tt)
      | false ↦ λ h. characters_fit width p.gap (graphemes true p.text) low
    ] refl

parted_fit : (width : ℕ) (ps : List Piece) → greatest (map (λ (p : Piece). widest_character p.text) ps) ≤ width → PiecesFit width (flat_map (parted width) ps)
parted_fit width [] low = tt
parted_fit width (p ∷ ps) low =
    subst (PiecesFit width) (sym (flat_map-cons (parted width) p ps)) (PiecesFit-append width (parted width p) (flat_map (parted width) ps) (parted_fits width p (omega arith)) (parted_fit width ps (omega arith)))

pieces_fit : (breaking : Breaking) (width : ℕ) (line : Text) → least_line_width breaking line ≤ width → PiecesFit width (pieces breaking width line)
pieces_fit Anywhere width line low = characters_fit width [] (graphemes true line) low
pieces_fit BetweenWords width line low = parted_fit width (indented (words line)) low

pub lines_fit : LinesFit
unfolding wrapped_line
lines_fit breaking width line low =
    elim (fits width line) as (λ v. fits width line ≡ v → EachFits width (cond v (line ∷ []) (filled width [] (pieces breaking width line)))) [
      | true ↦ λ h. (let is : width_of line ≤ width = grind (arith, nat_tests) in is, tt)
      | false ↦ λ h. filled_fits width [] (pieces breaking width line) (omega (arith, nothing_wide)) (pieces_fit breaking width line low)
    ] refl

-- ---- nothing is lost

filled_whole : (width : ℕ) (line : Text) (cs : List Text) → concat (filled width line (characters [] cs)) ≡ line ++ concat cs
filled_whole width line [] = refl
filled_whole width line (c ∷ cs) =
    elim (takes width line (record { gap = []; text = c })) as (λ v. concat (cond v (filled width (line ++ c) (characters [] cs)) (line ∷ filled width c (characters [] cs))) ≡ line ++ (c ++ concat cs)) [
      | true ↦ filled_whole width (line ++ c) cs ∙ append_assoc line c (concat cs)
      | false ↦ ap (λ z. line ++ z) (filled_whole width c cs)
    ]

pub nothing_is_lost : NothingIsLost
unfolding wrapped_line
nothing_is_lost width line utf8 =
    elim (fits width line) as (λ v. concat (cond v (line ∷ []) (filled width [] (characters [] (graphemes true line)))) ≡ line) [
      | true ↦ append-nil line
      | false ↦ filled_whole width [] (graphemes true line) ∙ concat-segments (is_grapheme_break true) line utf8
    ]

-- ---- texts that fit stay

wrapped_same : (breaking : Breaking) (width : ℕ) (lines : List Text) → greatest (map width_of lines) ≤ width → flat_map (wrapped_line breaking width) lines ≡ lines
wrapped_same breaking width [] low = refl
wrapped_same breaking width (line ∷ lines) low =
    flat_map-cons (wrapped_line breaking width) line lines
    ∙ ap (λ z. z ++ flat_map (wrapped_line breaking width) lines) (wrapped_line-fits breaking width line (omega arith))
    ∙ ap (λ z. line ∷ z) (wrapped_same breaking width lines (omega arith))

pub fitting_texts_stay : FittingTextsStay
unfolding wrapped text_width_of lines_of
fitting_texts_stay breaking width text low = ap (join_with_byte 10) (wrapped_same breaking width (lines_of text) low) ∙ join_with_byte-slice_split 10 text

-- ---- the lines of wrapped texts

-- ---- texts without line feeds

abbrev pub NoFeeds : Text → Type 0
NoFeeds [] = Unit {0}
NoFeeds (b ∷ bs) = ((b == 10) ≡ false) × NoFeeds bs

pub NoFeeds-append : (xs ys : Text) → NoFeeds xs → NoFeeds ys → NoFeeds (xs ++ ys)
NoFeeds-append [] ys p q = q
NoFeeds-append (x ∷ xs) ys p q = (p.0, NoFeeds-append xs ys p.1 q)

pub NoFeeds-first : (xs ys : Text) → NoFeeds (xs ++ ys) → NoFeeds xs
NoFeeds-first [] ys p = tt
NoFeeds-first (x ∷ xs) ys p = (p.0, NoFeeds-first xs ys p.1)

pub NoFeeds-rest : (xs ys : Text) → NoFeeds (xs ++ ys) → NoFeeds ys
NoFeeds-rest [] ys p = p
NoFeeds-rest (x ∷ xs) ys p = NoFeeds-rest xs ys p.1

NoFeeds-all : (xs : Text) → NoFeeds xs → All (λ b. (b == 10) ≡ false) xs
NoFeeds-all [] p = All-nil (λ b. (b == 10) ≡ false)
NoFeeds-all (x ∷ xs) p = All-cons (λ b. (b == 10) ≡ false) x xs p.0 (NoFeeds-all xs p.1)

-- a line: a UTF-8 text without line feeds
abbrev pub IsLine : Text → Type 0
IsLine line = IsUtf8 line × NoFeeds line

abbrev pub EachNoFeeds : List Text → Type 0
EachNoFeeds [] = Unit {0}
EachNoFeeds (l ∷ ls) = NoFeeds l × EachNoFeeds ls

abbrev pub EachLine : List Text → Type 0
EachLine [] = Unit {0}
EachLine (l ∷ ls) = IsLine l × EachLine ls

abbrev EachPiece : List Piece → Type 0
EachPiece [] = Unit {0}
EachPiece (p ∷ ps) = IsLine p.gap × IsLine p.text × EachPiece ps

abbrev PlainPieces : List Piece → Type 0
PlainPieces [] = Unit {0}
PlainPieces (p ∷ ps) = NoFeeds p.gap × NoFeeds p.text × PlainPieces ps

-- ---- the bytes of a character

abbrev pub Lacks : ℕ → Text → Type 0
Lacks n [] = Unit {0}
Lacks n (b ∷ bs) = ((b == n) ≡ false) × Lacks n bs

lacks_each : (n : ℕ) (bs : Text) → ((k : ℕ) → k < length bs → (get_or bs k 0 == n) ≡ false) → Lacks n bs
lacks_each n [] each = tt
lacks_each n (b ∷ bs) each = (each 0 (omega arith), lacks_each n bs (λ k l. each (suc k) (omega arith)))

-- an ASCII byte stands in no other character
pub encode-lacks : (n c : ℕ) → n < 128 → (c == n) ≡ false → Lacks n (encode c)
encode-lacks n c low other =
    lacks_each n (encode c) (λ k within.
    elim (get_or (encode c) k 0 == n) as (λ v. (get_or (encode c) k 0 == n) ≡ v → v ≡ false) [
      | true ↦ λ h. let byte : get_or (encode c) k 0 ≡ n = grind (arith, nat_tests) in let same = inside_one c [] (encode c) k (sym (append-nil (encode c))) within (omega arith) in absurd (let is : c ≡ n = omega arith in let yes : (c == n) ≡ true = grind (arith, nat_tests) in cc)
      | false ↦ λ h. refl
    ] refl)

pub lacks-feeds : (bs : Text) → Lacks 10 bs → NoFeeds bs
lacks-feeds [] p = tt
lacks-feeds (b ∷ bs) p = (p.0, lacks-feeds bs p.1)

-- ---- lines of UTF-8 texts

abbrev onto_line : Text → List Text → List Text
onto_line xs [] = xs ∷ []
onto_line xs (l ∷ ls) = (xs ++ l) ∷ ls

onto_line-cons : (x : ℕ) (xs : Text) (ls : List Text) → onto_first x (onto_line xs ls) ≡ onto_line (x ∷ xs) ls
onto_line-cons x xs [] = refl
onto_line-cons x xs (l ∷ ls) = refl

onto_line-nil : (ls : List Text) → 0 < length ls → onto_line [] ls ≡ ls
onto_line-nil [] some = absurd (omega arith)
onto_line-nil (l ∷ ls) some = refl

abbrev pub split : Text → List Text
split text = slice_split (λ b. b == 10) text

split_some : (bs : Text) → 0 < length (split bs)
split_some bs = omega (arith, length-slice_split (λ (b : ℕ). b == 10) bs)

split-front : (xs ys : Text) → NoFeeds xs → split (xs ++ ys) ≡ onto_line xs (split ys)
split-front [] ys none = sym (onto_line-nil (split ys) (split_some ys))
split-front (x ∷ xs) ys none =
    ap (λ v. cond v ([] ∷ split (xs ++ ys)) (onto_first x (split (xs ++ ys)))) none.0 ∙ ap (onto_first x) (split-front xs ys none.1) ∙ onto_line-cons x xs (split ys)

EachLine-onto : (xs : Text) (ls : List Text) → IsLine xs → EachLine ls → EachLine (onto_line xs ls)
EachLine-onto xs [] is each = (is, tt)
EachLine-onto xs (l ∷ ls) is each = ((IsUtf8-append xs l is.0 each.0.0, NoFeeds-append xs l is.1 each.0.1), each.1)

split-lines : (cs : List ℕ) → scalars cs ≡ true → EachLine (split (encode_utf8_all cs))
split-lines [] h = ((IsUtf8-nil, tt), tt)
split-lines (c ∷ cs) h =
    let parts = and_parts (scalar c) (scalars cs) h in
    let rest = split-lines cs parts.1 in
    elim (c == 10) as (λ v. (c == 10) ≡ v → EachLine (split (encode c ++ encode_utf8_all cs))) [
      | true ↦ λ k. let is : 10 ≡ c = grind (arith, nat_tests) in subst (λ n. EachLine (split (encode n ++ encode_utf8_all cs))) is (subst (λ (z : Text). EachLine (split (z ++ encode_utf8_all cs))) (sym (encode_ascii 10 (lit< tt))) ((IsUtf8-nil, tt), rest))
      | false ↦ λ k.
          let none = lacks-feeds (encode c) (encode-lacks 10 c (lit< tt) k) in
          subst EachLine (sym (split-front (encode c) (encode_utf8_all cs) none)) (EachLine-onto (encode c) (split (encode_utf8_all cs)) (IsUtf8-encode c parts.0, none) rest)
    ] refl

pub lines_of-some : (text : Text) → 0 < length (lines_of text)
unfolding lines_of
lines_of-some text = split_some text

pub lines_of-lines : (text : Text) → IsUtf8 text → EachLine (lines_of text)
unfolding lines_of
lines_of-lines text utf8 = subst (λ (z : Text). EachLine (split z)) utf8.1.1 (split-lines utf8.0 utf8.1.0)

-- ---- words of UTF-8 texts

-- bytes that are no spaces before words
abbrev joined_word : Text → List Piece → List Piece
joined_word xs [] = record { gap = []; text = xs } ∷ []
joined_word xs (p ∷ ps) = cond (length p.gap == 0) (record { gap = []; text = xs ++ p.text } ∷ ps) (record { gap = []; text = xs } ∷ p ∷ ps)

before-joined : (x : ℕ) (xs : Text) (ps : List Piece) → (x == 32) ≡ false → before_words x (joined_word xs ps) ≡ joined_word (x ∷ xs) ps
before-joined x xs [] other = ap (λ v. cond v (record { gap = x ∷ []; text = xs } ∷ []) (record { gap = []; text = x ∷ xs } ∷ [])) other
before-joined x xs (p ∷ ps) other =
    elim (length p.gap == 0) as (λ w. before_words x (cond w (record { gap = []; text = xs ++ p.text } ∷ ps) (record { gap = []; text = xs } ∷ p ∷ ps)) ≡ cond w (record { gap = []; text = x ∷ (xs ++ p.text) } ∷ ps) (record { gap = []; text = x ∷ xs } ∷ p ∷ ps)) [
      | true ↦ ap (λ v. cond v (record { gap = x ∷ []; text = xs ++ p.text } ∷ ps) (record { gap = []; text = x ∷ (xs ++ p.text) } ∷ ps)) other
      | false ↦ ap (λ v. cond v (record { gap = x ∷ []; text = xs } ∷ p ∷ ps) (record { gap = []; text = x ∷ xs } ∷ p ∷ ps)) other
    ]

before-first : (x : ℕ) (ps : List Piece) → (x == 32) ≡ false → before_words x ps ≡ joined_word (x ∷ []) ps
before-first x [] other = ap (λ v. cond v [] (record { gap = []; text = x ∷ [] } ∷ [])) other
before-first x (p ∷ ps) other = ap (λ v. cond v (record { gap = x ∷ p.gap; text = p.text } ∷ ps) (cond (length p.gap == 0) (record { gap = []; text = x ∷ p.text } ∷ ps) (record { gap = []; text = x ∷ [] } ∷ p ∷ ps))) other

words-front : (xs ys : Text) → Lacks 32 xs → 0 < length xs → words (xs ++ ys) ≡ joined_word xs (words ys)
words-front [] ys none some = absurd (omega arith)
words-front (x ∷ []) ys none some = before-first x (words ys) none.0
words-front (x ∷ z ∷ xs) ys none some = ap (before_words x) (words-front (z ∷ xs) ys none.1 (omega arith)) ∙ before-joined x (z ∷ xs) (words ys) none.0

EachPiece-joined : (xs : Text) (ps : List Piece) → IsLine xs → EachPiece ps → EachPiece (joined_word xs ps)
EachPiece-joined xs [] is each = ((IsUtf8-nil, tt), is, tt)
EachPiece-joined xs (p ∷ ps) is each =
    elim (length p.gap == 0) as (λ v. EachPiece (cond v (record { gap = []; text = xs ++ p.text } ∷ ps) (record { gap = []; text = xs } ∷ p ∷ ps))) [
      | true ↦ ((IsUtf8-nil, tt), (IsUtf8-append xs p.text is.0 each.1.0, NoFeeds-append xs p.text is.1 each.1.1), each.2)
      | false ↦ ((IsUtf8-nil, tt), is, each)
    ]

EachPiece-spaced : (ps : List Piece) → IsUtf8 (32 ∷ []) → EachPiece ps → EachPiece (before_words 32 ps)
EachPiece-spaced [] space each = tt
EachPiece-spaced (p ∷ ps) space each = ((IsUtf8-append (32 ∷ []) p.gap space each.0.0, (refl, each.0.1)), each.1, each.2)

words-pieces : (cs : List ℕ) → scalars cs ≡ true → NoFeeds (encode_utf8_all cs) → EachPiece (words (encode_utf8_all cs))
words-pieces [] h none = tt
words-pieces (c ∷ cs) h none =
    let parts = and_parts (scalar c) (scalars cs) h in
    let rest = words-pieces cs parts.1 (NoFeeds-rest (encode c) (encode_utf8_all cs) none) in
    elim (c == 32) as (λ v. (c == 32) ≡ v → EachPiece (words (encode c ++ encode_utf8_all cs))) [
      | true ↦ λ k.
          let is : c ≡ 32 = grind (arith, nat_tests) in
          let byte : encode c ≡ 32 ∷ [] = ap encode is ∙ encode_ascii 32 (lit< tt) in
          subst (λ (z : Text). EachPiece (words (z ++ encode_utf8_all cs))) (sym byte) (EachPiece-spaced (words (encode_utf8_all cs)) (subst IsUtf8 byte (IsUtf8-encode c parts.0)) rest)
      | false ↦ λ k.
          let bounds = len_utf8_bounds c in
          subst EachPiece (sym (words-front (encode c) (encode_utf8_all cs) (encode-lacks 32 c (lit< tt) k) (omega (arith, length-encode c))))
          (EachPiece-joined (encode c) (words (encode_utf8_all cs)) (IsUtf8-encode c parts.0, NoFeeds-first (encode c) (encode_utf8_all cs) none) rest)
    ] refl

words-of-line : (line : Text) → IsLine line → EachPiece (words line)
words-of-line line is = subst (λ (z : Text). EachPiece (words z)) is.0.1.1 (words-pieces is.0.0 is.0.1.0 (subst NoFeeds (sym is.0.1.1) is.1))

indented-pieces : (ps : List Piece) → EachPiece ps → EachPiece (indented ps)
indented-pieces [] each = tt
indented-pieces (p ∷ ps) each = ((IsUtf8-nil, tt), (IsUtf8-append p.gap p.text each.0.0 each.1.0, NoFeeds-append p.gap p.text each.0.1 each.1.1), each.2)

-- ---- pieces and lines without line feeds

PlainPieces-append : (ps qs : List Piece) → PlainPieces ps → PlainPieces qs → PlainPieces (ps ++ qs)
PlainPieces-append [] qs p q = q
PlainPieces-append (x ∷ ps) qs p q = (p.0, p.1, PlainPieces-append ps qs p.2 q)

characters-plain : (gap : Text) (cs : List Text) → NoFeeds gap → NoFeeds (concat cs) → PlainPieces (characters gap cs)
characters-plain gap [] g none = tt
characters-plain gap (c ∷ cs) g none = (g, NoFeeds-first c (concat cs) none, characters-plain [] cs tt (NoFeeds-rest c (concat cs) none))

graphemes-plain : (gap line : Text) → NoFeeds gap → IsLine line → PlainPieces (characters gap (graphemes true line))
graphemes-plain gap line g is = characters-plain gap (graphemes true line) g (subst NoFeeds (sym (concat-segments (is_grapheme_break true) line is.0)) is.1)

parted-plain : (width : ℕ) (ps : List Piece) → EachPiece ps → PlainPieces (flat_map (parted width) ps)
parted-plain width [] each = tt
parted-plain width (p ∷ ps) each =
    subst PlainPieces (sym (flat_map-cons (parted width) p ps))
    (PlainPieces-append (parted width p) (flat_map (parted width) ps)
    (elim (fits width p.text) as (λ v. PlainPieces (cond v (p ∷ []) (characters p.gap (graphemes true p.text)))) [
      | true ↦ (each.0.1, each.1.1, tt)
      | false ↦ graphemes-plain p.gap p.text each.0.1 each.1
    ]) (parted-plain width ps each.2))

pieces-plain : (breaking : Breaking) (width : ℕ) (line : Text) → IsLine line → PlainPieces (pieces breaking width line)
pieces-plain Anywhere width line is = graphemes-plain [] line tt is
pieces-plain BetweenWords width line is = parted-plain width (indented (words line)) (indented-pieces (words line) (words-of-line line is))

filled-plain : (width : ℕ) (line : Text) (ps : List Piece) → NoFeeds line → PlainPieces ps → EachNoFeeds (filled width line ps)
filled-plain width line [] none each = (none, tt)
filled-plain width line (p ∷ ps) none each =
    elim (takes width line p) as (λ v. EachNoFeeds (cond v (filled width (line ++ (p.gap ++ p.text)) ps) (line ∷ filled width p.text ps))) [
      | true ↦ filled-plain width (line ++ (p.gap ++ p.text)) ps (NoFeeds-append line (p.gap ++ p.text) none (NoFeeds-append p.gap p.text each.0 each.1)) each.2
      | false ↦ (none, filled-plain width p.text ps each.1 each.2)
    ]

wrapped_line-plain : (breaking : Breaking) (width : ℕ) (line : Text) → IsLine line → EachNoFeeds (wrapped_line breaking width line)
unfolding wrapped_line
wrapped_line-plain breaking width line is =
    elim (fits width line) as (λ v. EachNoFeeds (cond v (line ∷ []) (filled width [] (pieces breaking width line)))) [
      | true ↦ (is.1, tt)
      | false ↦ filled-plain width [] (pieces breaking width line) tt (pieces-plain breaking width line is)
    ]

EachNoFeeds-append : (ls ms : List Text) → EachNoFeeds ls → EachNoFeeds ms → EachNoFeeds (ls ++ ms)
EachNoFeeds-append [] ms p q = q
EachNoFeeds-append (l ∷ ls) ms p q = (p.0, EachNoFeeds-append ls ms p.1 q)

module _ (breaking : Breaking) (width : ℕ) where
  all-plain : (ls : List Text) → EachLine ls → EachNoFeeds (flat_map (wrapped_line breaking width) ls)
  all-plain [] each = tt
  all-plain (l ∷ ls) each =
      subst EachNoFeeds (sym (flat_map-cons (wrapped_line breaking width) l ls)) (EachNoFeeds-append (wrapped_line breaking width l) (flat_map (wrapped_line breaking width) ls) (wrapped_line-plain breaking width l each.0) (all-plain ls each.1))

  all-some : (ls : List Text) → 0 < length ls → 0 < length (flat_map (wrapped_line breaking width) ls)
  all-some [] some = absurd (omega arith)
  all-some (l ∷ ls) some =
      omega (arith, ap length (flat_map-cons (wrapped_line breaking width) l ls), length-append (wrapped_line breaking width l) (flat_map (wrapped_line breaking width) ls), wrapped_line-some breaking width l)

-- lines without line feeds, join_with_byte 10 and cut again
pub split-joined : (ls : List Text) → 0 < length ls → EachNoFeeds ls → split (join_with_byte 10 ls) ≡ ls
split-joined [] some each = absurd (omega arith)
split-joined (l ∷ []) some each = slice_split_none (λ b. b == 10) l (NoFeeds-all l each.0)
split-joined (l ∷ m ∷ ls) some each =
    slice_split_at (λ b. b == 10) l 10 (join_with_byte 10 (m ∷ ls)) (NoFeeds-all l each.0) refl ∙ ap (λ z. l ∷ z) (split-joined (m ∷ ls) (omega arith) each.1)

pub lines_stand : LinesStand
unfolding wrapped lines_of
lines_stand breaking width text utf8 =
    split-joined (flat_map (wrapped_line breaking width) (split text)) (all-some breaking width (split text) (split_some text)) (all-plain breaking width (split text) (lines_of-lines text utf8))

EachFits-append : (width : ℕ) (ls ms : List Text) → EachFits width ls → EachFits width ms → EachFits width (ls ++ ms)
EachFits-append width [] ms p q = q
EachFits-append width (l ∷ ls) ms p q = (p.0, EachFits-append width ls ms p.1 q)

all-fit : (breaking : Breaking) (width : ℕ) (ls : List Text) → greatest (map (least_line_width breaking) ls) ≤ width → EachFits width (flat_map (wrapped_line breaking width) ls)
all-fit breaking width [] low = tt
all-fit breaking width (l ∷ ls) low =
    subst (EachFits width) (sym (flat_map-cons (wrapped_line breaking width) l ls)) (EachFits-append width (wrapped_line breaking width l) (flat_map (wrapped_line breaking width) ls) (lines_fit breaking width l (omega arith)) (all-fit breaking width ls (omega arith)))

greatest-fits : (width : ℕ) (ls : List Text) → EachFits width ls → greatest (map width_of ls) ≤ width
greatest-fits width [] each = omega arith
greatest-fits width (l ∷ ls) each = omega (arith, each.0, greatest-fits width ls each.1)

pub wrapped_texts_fit : WrappedTextsFit
unfolding text_width_of least_width
wrapped_texts_fit breaking width text utf8 low =
    let is = lines_stand breaking width text utf8 in
    omega (arith, ap (λ (ls : List Text). greatest (map width_of ls)) is, greatest-fits width (flat_map (wrapped_line breaking width) (lines_of text)) (all-fit breaking width (lines_of text) low))

-- ---- words are UTF-8, also of texts of several lines

abbrev pub EachTexts : List Piece → Type 0
EachTexts [] = Unit {0}
EachTexts (p ∷ ps) = IsUtf8 p.gap × IsUtf8 p.text × EachTexts ps

EachTexts-joined : (xs : Text) (ps : List Piece) → IsUtf8 xs → EachTexts ps → EachTexts (joined_word xs ps)
EachTexts-joined xs [] is each = (IsUtf8-nil, is, tt)
EachTexts-joined xs (p ∷ ps) is each =
    elim (length p.gap == 0) as (λ v. EachTexts (cond v (record { gap = []; text = xs ++ p.text } ∷ ps) (record { gap = []; text = xs } ∷ p ∷ ps))) [
      | true ↦ (IsUtf8-nil, IsUtf8-append xs p.text is each.1, each.2)
      | false ↦ (IsUtf8-nil, is, each)
    ]

EachTexts-spaced : (ps : List Piece) → IsUtf8 (32 ∷ []) → EachTexts ps → EachTexts (before_words 32 ps)
EachTexts-spaced [] space each = tt
EachTexts-spaced (p ∷ ps) space each = (IsUtf8-append (32 ∷ []) p.gap space each.0, each.1, each.2)

encoded-texts : (cs : List ℕ) → scalars cs ≡ true → EachTexts (words (encode_utf8_all cs))
encoded-texts [] h = tt
encoded-texts (c ∷ cs) h =
    let parts = and_parts (scalar c) (scalars cs) h in
    let rest = encoded-texts cs parts.1 in
    elim (c == 32) as (λ v. (c == 32) ≡ v → EachTexts (words (encode c ++ encode_utf8_all cs))) [
      | true ↦ λ k.
          let is : c ≡ 32 = grind (arith, nat_tests) in
          let byte : encode c ≡ 32 ∷ [] = ap encode is ∙ encode_ascii 32 (lit< tt) in
          subst (λ (z : Text). EachTexts (words (z ++ encode_utf8_all cs))) (sym byte) (EachTexts-spaced (words (encode_utf8_all cs)) (subst IsUtf8 byte (IsUtf8-encode c parts.0)) rest)
      | false ↦ λ k.
          let bounds = len_utf8_bounds c in
          subst EachTexts (sym (words-front (encode c) (encode_utf8_all cs) (encode-lacks 32 c (lit< tt) k) (omega (arith, length-encode c))))
          (EachTexts-joined (encode c) (words (encode_utf8_all cs)) (IsUtf8-encode c parts.0) rest)
    ] refl

pub words-texts : (line : Text) → IsUtf8 line → EachTexts (words line)
words-texts line utf8 = subst (λ (z : Text). EachTexts (words z)) utf8.1.1 (encoded-texts utf8.0 utf8.1.0)

pub indented-texts : (ps : List Piece) → EachTexts ps → EachTexts (indented ps)
indented-texts [] each = tt
indented-texts (p ∷ ps) each = (IsUtf8-nil, IsUtf8-append p.gap p.text each.0 each.1, each.2)

-- ---- between words nothing but spaces is left out

-- a text without its spaces
abbrev kept : Text → Text
kept text = filter (λ b. not (b == 32)) text

kept-append : (xs ys : Text) → kept (xs ++ ys) ≡ kept xs ++ kept ys
kept-append [] ys = refl
kept-append (x ∷ xs) ys =
    elim (not (x == 32)) as (λ v. cond v (x ∷ kept (xs ++ ys)) (kept (xs ++ ys)) ≡ cond v (x ∷ kept xs) (kept xs) ++ kept ys) [
      | true ↦ ap (λ z. x ∷ z) (kept-append xs ys)
      | false ↦ kept-append xs ys
    ]

-- the texts of pieces without their spaces
abbrev texts_kept : List Piece → Text
texts_kept ps = flat_map (λ (p : Piece). kept p.text) ps

-- gaps are of spaces
abbrev EachSpaces : List Piece → Type 0
EachSpaces [] = Unit {0}
EachSpaces (p ∷ ps) = (kept p.gap ≡ []) × EachSpaces ps

space : (b : ℕ) (bs : Text) → (b == 32) ≡ true → kept (b ∷ bs) ≡ kept bs
space b bs h = ap (λ v. cond (not v) (b ∷ kept bs) (kept bs)) h

other : (b : ℕ) (bs : Text) → (b == 32) ≡ false → kept (b ∷ bs) ≡ b ∷ kept bs
other b bs h = ap (λ v. cond (not v) (b ∷ kept bs) (kept bs)) h

-- ---- words

before-kept : (b : ℕ) (ps : List Piece) (v : Bool) → (b == 32) ≡ v → texts_kept (before_words b ps) ≡ cond (not v) (b ∷ texts_kept ps) (texts_kept ps)
before-kept b [] true h = ap (λ v. texts_kept (cond v [] (record { gap = []; text = b ∷ [] } ∷ []))) h
before-kept b [] false h = ap (λ v. texts_kept (cond v [] (record { gap = []; text = b ∷ [] } ∷ []))) h ∙ ap (λ z. z ++ []) (other b [] h)
before-kept b (p ∷ ps) true h = ap (λ v. texts_kept (cond v (record { gap = b ∷ p.gap; text = p.text } ∷ ps) (cond (length p.gap == 0) (record { gap = []; text = b ∷ p.text } ∷ ps) (record { gap = []; text = b ∷ [] } ∷ p ∷ ps)))) h
before-kept b (p ∷ ps) false h =
    ap (λ v. texts_kept (cond v (record { gap = b ∷ p.gap; text = p.text } ∷ ps) (cond (length p.gap == 0) (record { gap = []; text = b ∷ p.text } ∷ ps) (record { gap = []; text = b ∷ [] } ∷ p ∷ ps)))) h
    ∙ elim (length p.gap == 0) as (λ w. texts_kept (cond w (record { gap = []; text = b ∷ p.text } ∷ ps) (record { gap = []; text = b ∷ [] } ∷ p ∷ ps)) ≡ b ∷ (kept p.text ++ texts_kept ps)) [
      | true ↦ ap (λ z. z ++ texts_kept ps) (other b p.text h)
      | false ↦ ap (λ z. z ++ (kept p.text ++ texts_kept ps)) (other b [] h)
    ]

words-kept : (bs : Text) → texts_kept (words bs) ≡ kept bs
words-kept [] = refl
words-kept (b ∷ bs) =
    elim (b == 32) as (λ v. (b == 32) ≡ v → texts_kept (before_words b (words bs)) ≡ cond (not v) (b ∷ kept bs) (kept bs)) [
      | true ↦ λ h. before-kept b (words bs) true h ∙ words-kept bs
      | false ↦ λ h. before-kept b (words bs) false h ∙ ap (λ z. b ∷ z) (words-kept bs)
    ] refl

before-spaces : (b : ℕ) (ps : List Piece) (v : Bool) → (b == 32) ≡ v → EachSpaces ps → EachSpaces (before_words b ps)
before-spaces b [] true h each = subst EachSpaces (sym (ap (λ v. cond v [] (record { gap = []; text = b ∷ [] } ∷ [])) h)) tt
before-spaces b [] false h each = subst EachSpaces (sym (ap (λ v. cond v [] (record { gap = []; text = b ∷ [] } ∷ [])) h)) (refl, tt)
before-spaces b (p ∷ ps) true h each =
    subst EachSpaces (sym (ap (λ v. cond v (record { gap = b ∷ p.gap; text = p.text } ∷ ps) (cond (length p.gap == 0) (record { gap = []; text = b ∷ p.text } ∷ ps) (record { gap = []; text = b ∷ [] } ∷ p ∷ ps))) h)) (space b p.gap h ∙ each.0, each.1)
before-spaces b (p ∷ ps) false h each =
    subst EachSpaces (sym (ap (λ v. cond v (record { gap = b ∷ p.gap; text = p.text } ∷ ps) (cond (length p.gap == 0) (record { gap = []; text = b ∷ p.text } ∷ ps) (record { gap = []; text = b ∷ [] } ∷ p ∷ ps))) h))
    (elim (length p.gap == 0) as (λ w. EachSpaces (cond w (record { gap = []; text = b ∷ p.text } ∷ ps) (record { gap = []; text = b ∷ [] } ∷ p ∷ ps))) [
      | true ↦ (refl, each.1)
      | false ↦ (refl, each)
    ])

words-spaces : (bs : Text) → EachSpaces (words bs)
words-spaces [] = tt
words-spaces (b ∷ bs) = before-spaces b (words bs) (b == 32) refl (words-spaces bs)

indented-kept : (ps : List Piece) → EachSpaces ps → texts_kept (indented ps) ≡ texts_kept ps
indented-kept [] each = refl
indented-kept (p ∷ ps) each = ap (λ z. z ++ texts_kept ps) (kept-append p.gap p.text ∙ ap (λ z. z ++ kept p.text) each.0)

indented-spaces : (ps : List Piece) → EachSpaces ps → EachSpaces (indented ps)
indented-spaces [] each = tt
indented-spaces (p ∷ ps) each = (refl, each.1)

-- ---- pieces, of words that are UTF-8

characters-kept : (gap : Text) (cs : List Text) → texts_kept (characters gap cs) ≡ kept (concat cs)
characters-kept gap [] = refl
characters-kept gap (c ∷ cs) = ap (λ z. kept c ++ z) (characters-kept [] cs) ∙ sym (kept-append c (concat cs))

characters-spaces : (gap : Text) (cs : List Text) → kept gap ≡ [] → EachSpaces (characters gap cs)
characters-spaces gap [] h = tt
characters-spaces gap (c ∷ cs) h = (h, characters-spaces [] cs refl)

EachSpaces-append : (ps qs : List Piece) → EachSpaces ps → EachSpaces qs → EachSpaces (ps ++ qs)
EachSpaces-append [] qs p q = q
EachSpaces-append (x ∷ ps) qs p q = (p.0, EachSpaces-append ps qs p.1 q)

abbrev EachUtf8 : List Piece → Type 0
EachUtf8 [] = Unit {0}
EachUtf8 (p ∷ ps) = IsUtf8 p.text × EachUtf8 ps

parted-one : (width : ℕ) (p : Piece) → IsUtf8 p.text → texts_kept (parted width p) ≡ kept p.text
parted-one width p utf8 =
    elim (fits width p.text) as (λ v. texts_kept (cond v (p ∷ []) (characters p.gap (graphemes true p.text))) ≡ kept p.text) [
      | true ↦ append-nil (kept p.text)
      | false ↦ characters-kept p.gap (graphemes true p.text) ∙ ap kept (concat-segments (is_grapheme_break true) p.text utf8)
    ]

parted-kept : (width : ℕ) (ps : List Piece) → EachUtf8 ps → texts_kept (flat_map (parted width) ps) ≡ texts_kept ps
parted-kept width [] each = refl
parted-kept width (p ∷ ps) each =
    ap texts_kept (flat_map-cons (parted width) p ps) ∙ flat_map-append (λ (q : Piece). kept q.text) (parted width p) (flat_map (parted width) ps)
    ∙ ap (λ z. z ++ texts_kept (flat_map (parted width) ps)) (parted-one width p each.0) ∙ ap (λ z. kept p.text ++ z) (parted-kept width ps each.1)

parted-spaces : (width : ℕ) (ps : List Piece) → EachSpaces ps → EachSpaces (flat_map (parted width) ps)
parted-spaces width [] each = tt
parted-spaces width (p ∷ ps) each =
    subst EachSpaces (sym (flat_map-cons (parted width) p ps))
    (EachSpaces-append (parted width p) (flat_map (parted width) ps)
    (elim (fits width p.text) as (λ v. EachSpaces (cond v (p ∷ []) (characters p.gap (graphemes true p.text)))) [
      | true ↦ (each.0, tt)
      | false ↦ characters-spaces p.gap (graphemes true p.text) each.0
    ]) (parted-spaces width ps each.1))

filled-kept : (width : ℕ) (line : Text) (ps : List Piece) → EachSpaces ps → kept (concat (filled width line ps)) ≡ kept line ++ texts_kept ps
filled-kept width line [] each = ap kept (append-nil line) ∙ sym (append-nil (kept line))
filled-kept width line (p ∷ ps) each =
    elim (takes width line p) as (λ v. kept (concat (cond v (filled width (line ++ (p.gap ++ p.text)) ps) (line ∷ filled width p.text ps))) ≡ kept line ++ (kept p.text ++ texts_kept ps)) [
      | true ↦ filled-kept width (line ++ (p.gap ++ p.text)) ps each.1
          ∙ ap (λ z. z ++ texts_kept ps) (kept-append line (p.gap ++ p.text) ∙ ap (λ z. kept line ++ z) (kept-append p.gap p.text ∙ ap (λ z. z ++ kept p.text) each.0))
          ∙ append_assoc (kept line) (kept p.text) (texts_kept ps)
      | false ↦ kept-append line (concat (filled width p.text ps)) ∙ ap (λ z. kept line ++ z) (filled-kept width p.text ps each.1)
    ]

EachUtf8-words : (ps : List Piece) → EachTexts ps → EachUtf8 ps
EachUtf8-words [] each = tt
EachUtf8-words (p ∷ ps) each = (each.1, EachUtf8-words ps each.2)

pub only_spaces_are_lost : OnlySpacesAreLost
unfolding wrapped_line
only_spaces_are_lost width line utf8 =
    let texts = indented-texts (words line) (words-texts line utf8) in
    elim (fits width line) as (λ v. kept (concat (cond v (line ∷ []) (filled width [] (pieces BetweenWords width line)))) ≡ kept line) [
      | true ↦ ap kept (append-nil line)
      | false ↦ filled-kept width [] (pieces BetweenWords width line) (parted-spaces width (indented (words line)) (indented-spaces (words line) (words-spaces line)))
          ∙ parted-kept width (indented (words line)) (EachUtf8-words (indented (words line)) texts)
          ∙ indented-kept (words line) (words-spaces line)
          ∙ words-kept line
    ]

-- plain texts are lines
-- ---- texts of letters

-- a test that fails at a place fails
pub fails-at : (p : ℕ → Bool) (xs : List ℕ) (n x : ℕ) → n < length xs → x ≡ get_or xs n x → p x ≡ false → list_all p xs ≡ false
fails-at p [] n x within is h = absurd (omega (arith, within))
fails-at p (y ∷ ys) zero x within is h = ap (λ v. v && list_all p ys) (ap p (sym is) ∙ h)
fails-at p (y ∷ ys) (suc n) x within is h =
    let rest = fails-at p ys n x (omega (arith, within)) is h in
    elim (p y) as (λ v. (v && list_all p ys) ≡ false) [ true ↦ rest | false ↦ refl ]

letter-no_feed : (c : ℕ) → is_letter c ≡ true → (c == 10) ≡ false
letter-no_feed c h = grind (arith, nat_tests)

letters-no_feeds : (cs : List ℕ) → list_all is_letter cs ≡ true → NoFeeds (encode_utf8_all cs)
letters-no_feeds [] h = tt
letters-no_feeds (c ∷ cs) h =
    let parts = and_parts (is_letter c) (list_all is_letter cs) h in
    NoFeeds-append (encode c) (encode_utf8_all cs) (lacks-feeds (encode c) (encode-lacks 10 c (lit< tt) (letter-no_feed c parts.0))) (letters-no_feeds cs parts.1)

no_feeds-place : (bs : Text) → NoFeeds bs → feed_place bs ≡ length bs
no_feeds-place [] p = refl
no_feeds-place (b ∷ bs) p = ap (λ v. cond (not v) (1 + feed_place bs) 0) p.0 ∙ omega (arith, no_feeds-place bs p.1)

-- such a text is one line
pub letters_are_a_line : (text : Text) → IsUtf8 text → list_all is_letter (chars text) ≡ true → lines_of text ≡ text ∷ []
letters_are_a_line text utf8 h =
    lines_of-one text (no_feeds-place text (subst NoFeeds (encodes-chars text utf8) (letters-no_feeds (chars text) h)))

pub letters-text_width : (text : Text) → IsUtf8 text → list_all is_letter (chars text) ≡ true → text_width_of text ≡ sum_by letter_columns (chars text)
unfolding text_width_of
letters-text_width text utf8 h =
    ap (λ ls. greatest (map width_of ls)) (letters_are_a_line text utf8 h) ∙ omega (arith, letters-width text h)

pub ruleset single_lines = (lines_of-one, feed_place-plain)

-- what the lines of a wrapped text are like
pub ruleset laws_of_lines = (lines_fit, nothing_is_lost, fitting_texts_stay, only_spaces_are_lost)

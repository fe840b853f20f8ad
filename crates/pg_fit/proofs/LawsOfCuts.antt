-- Texts that are cut at their end, in front or in the middle: their lines, and that they fit.
use Rattle.std.proofs.Common.{◌≡◌, ℕ, ◌-◌, ◌<◌, ◌≤◌, true, false, cond, List, ◌∷◌, ◌++◌, ap, ◌∙◌, arith, ⊎_elim, ◌+◌, ◌==◌, ◌&&◌, ◌||◌, nat_lt, [], length, chars, refl, subst, map, sym, drop, ◌/◌, take, reverse, append-nil, nat_le}
use Rattle.std.proofs.lemmas.Bool.Decides.{nat_tests}
use Rattle.pg_layout.specs.Text.{Text, width_of, lines_of, text_width_of, greatest, first_line_of, first_of_lines}
use Rattle.pg_fit.specs.Wrapping.{fits}
use Rattle.pg_fit.specs.Cutting.{held, beginning, cut_line, cut_text, held_before, kept_front, cut_behind, cut_away_line, ending, cut_away_text}
use Rattle.std.specs.Int.{is_in_range}
use Rattle.std.specs.List.{slice_range, list_all, concat, join_with_byte}
use Rattle.std.specs.Str.{IsUtf8, IsCharBoundary, encode_utf8_all}
use Rattle.std.proofs.lemmas.Bool.{and_parts, or_cases}
use Rattle.std.proofs.lemmas.Str.{IsUtf8-nil, IsUtf8-append, IsUtf8-between, IsCharBoundary-start, IsCharBoundary-end, encodes-chars, chars-append, IsUtf8-drop}
use Rattle.unicode_width.specs.Kind.{kind}
use Rattle.unicode_width.proofs.Rules.{is_simple_kind, is_simple}
use Rattle.unicode_width.proofs.Computing.{unicode_width}
use Rattle.unicode_segmentation.specs.Grapheme.{graphemes, is_grapheme_break}
use Rattle.pg_fit.specs.Laws.{is_tail_character, CutLinesFit, CutTextsStay, CutLinesStand, CutTextsFit, FrontCutsFit, CutAwayLinesFit, CutAwayTextsStay, CutAwayLinesStand, CutAwayTextsFit}
use Rattle.pg_fit.proofs.LawsOfControls.{nothing_wide, simple-behind, simple-characters}
use Rattle.pg_fit.proofs.FilledLines.{StandFrom, characters-stand, slice_range-all, slice_range-none}
use Rattle.std.proofs.lemmas.List.{length-map, reverse-append, take-append-drop}
use Rattle.std.proofs.lemmas.List.Splits.{join_with_byte-slice_split}
use Rattle.std.proofs.Math.Utf8.{encode}
use Rattle.unicode_segmentation.proofs.SegmentsLemmas.{concat-segments}
use Rattle.pg_fit.proofs.LawsOfTexts.{NoFeeds, NoFeeds-append, NoFeeds-first, NoFeeds-rest, IsLine, EachLine, EachNoFeeds, lines_of-lines, lines_of-some, encode-lacks, lacks-feeds, split-joined}
use Rattle.std.proofs.lemmas.List.Folds.{drop_split, list_all-append}
use Rattle.unicode_segmentation.proofs.TextLemmas.{slice_range_split, length-slice_range}
use Rattle.pg_fit.specs.Inside.{adds_up}
use Rattle.pg_fit.specs.declared.cutting_away.Kept.{Kept}
use Rattle.pg_fit.specs.declared.cutting_away.Kept.TheVariants.{End, BothEnds}
use Rattle.pg_fit.specs.Rows.{is_fitting, cut_cell}

-- ---- lines that stay or are cut

pub held-more : (width : ℕ) (front c : Text) (cs : List Text) → width_of (front ++ c) ≤ width → held width front (c ∷ cs) ≡ held width (front ++ c) cs
held-more width front c cs low = let yes : fits width (front ++ c) ≡ true = grind (arith, nat_tests) in ap (λ v. cond v (held width (front ++ c) cs) front) yes

pub held-end : (width : ℕ) (front c : Text) (cs : List Text) → width < width_of (front ++ c) → held width front (c ∷ cs) ≡ front
held-end width front c cs wide = let no : fits width (front ++ c) ≡ false = grind (arith, nat_tests) in ap (λ v. cond v (held width (front ++ c) cs) front) no

module _ (width : ℕ) (tail line : Text) where
  pub cut_line-fits : width_of line ≤ width → cut_line width tail line ≡ line
  unfolding cut_line
  cut_line-fits low = let yes : fits width line ≡ true = grind (arith, nat_tests) in ap (λ v. cond v line (cond (fits width tail) (beginning (width - width_of tail) line ++ tail) (beginning width tail))) yes

  pub cut_line-tailed : width < width_of line → width_of tail ≤ width → cut_line width tail line ≡ beginning (width - width_of tail) line ++ tail
  unfolding cut_line
  cut_line-tailed wide low =
      let no : fits width line ≡ false = grind (arith, nat_tests) in
      let yes : fits width tail ≡ true = grind (arith, nat_tests) in
      ap (λ v. cond v line (cond (fits width tail) (beginning (width - width_of tail) line ++ tail) (beginning width tail))) no
      ∙ ap (λ v. cond v (beginning (width - width_of tail) line ++ tail) (beginning width tail)) yes

  pub cut_line-tail : width < width_of line → width < width_of tail → cut_line width tail line ≡ beginning width tail
  unfolding cut_line
  cut_line-tail wide long =
      let no : fits width line ≡ false = grind (arith, nat_tests) in
      let none : fits width tail ≡ false = grind (arith, nat_tests) in
      ap (λ v. cond v line (cond (fits width tail) (beginning (width - width_of tail) line ++ tail) (beginning width tail))) no
      ∙ ap (λ v. cond v (beginning (width - width_of tail) line ++ tail) (beginning width tail)) none

-- ---- lines that are cut fit

-- ---- characters are texts

abbrev EachUtf8 : List Text → Type 0
EachUtf8 [] = Unit {0}
EachUtf8 (p ∷ ps) = IsUtf8 p × EachUtf8 ps

stand-utf8 : (text : Text) (to at : ℕ) (ps : List Text) → IsUtf8 text → IsCharBoundary text at → StandFrom text to at ps → EachUtf8 ps
stand-utf8 text to at [] utf8 start stand = tt
stand-utf8 text to at (p ∷ ps) utf8 start stand =
    (subst IsUtf8 stand.1 (IsUtf8-between text at (at + length p) utf8 (omega arith) start stand.2), stand-utf8 text to (at + length p) ps utf8 stand.2 stand.3)

pub graphemes-utf8 : (line : Text) → IsUtf8 line → EachUtf8 (graphemes true line)
graphemes-utf8 line utf8 =
    subst EachUtf8 (ap (graphemes true) (slice_range-all line))
    (stand-utf8 line (length line) 0 (graphemes true (slice_range line 0 (length line))) utf8 (IsCharBoundary-start line utf8) (characters-stand line 0 (length line) utf8 (omega arith) (IsCharBoundary-start line utf8) (IsCharBoundary-end line)))

pub held-utf8 : (width : ℕ) (front : Text) (cs : List Text) → IsUtf8 front → EachUtf8 cs → IsUtf8 (held width front cs)
held-utf8 width front [] utf8 each = utf8
held-utf8 width front (c ∷ cs) utf8 each =
    elim (fits width (front ++ c)) as (λ v. IsUtf8 (cond v (held width (front ++ c) cs) front)) [
      | true ↦ held-utf8 width (front ++ c) cs (IsUtf8-append front c utf8 each.0) each.1
      | false ↦ utf8
    ]

-- ---- what is held fits

held-fits : (width : ℕ) (front : Text) (cs : List Text) → width_of front ≤ width → width_of (held width front cs) ≤ width
held-fits width front [] low = low
held-fits width front (c ∷ cs) low =
    elim (fits width (front ++ c)) as (λ v. fits width (front ++ c) ≡ v → width_of (cond v (held width (front ++ c) cs) front) ≤ width) [
      | true ↦ λ h. held-fits width (front ++ c) cs (grind (arith, nat_tests))
      | false ↦ λ h. low
    ] refl

pub beginning-fits : (width : ℕ) (line : Text) → width_of (beginning width line) ≤ width
beginning-fits width line = held-fits width [] (graphemes true line) (omega (arith, nothing_wide))

-- ---- tails

ellipsis-simple : is_simple 0x2026 ≡ true
unfolding unicode_width
ellipsis-simple = refl

tail-simple : (c : ℕ) → is_tail_character c ≡ true → is_simple c ≡ true
tail-simple c h =
    ⊎_elim
    (λ (printable : is_in_range 0x20 0x7E c ≡ true). ap (λ v. v || (nat_lt 0xA0 c && is_simple_kind (kind c))) printable)
    (λ (is : (c == 0x2026) ≡ true). let same : 0x2026 ≡ c = grind (arith, nat_tests) in subst (λ n. is_simple n ≡ true) same ellipsis-simple)
    (or_cases (is_in_range 0x20 0x7E c) (c == 0x2026) h)

tails-simple : (cs : List ℕ) → list_all is_tail_character cs ≡ true → list_all is_simple cs ≡ true
tails-simple [] h = refl
tails-simple (c ∷ cs) h =
    let parts = and_parts (is_tail_character c) (list_all is_tail_character cs) h in
    ap (λ v. v && list_all is_simple cs) (tail-simple c parts.0) ∙ tails-simple cs parts.1

pub tailed : (front tail : Text) → IsUtf8 front → list_all is_tail_character (chars tail) ≡ true → width_of (front ++ tail) ≡ width_of front + width_of tail
tailed front tail utf8 h = simple-behind front tail utf8 (tails-simple (chars tail) h)

pub cut_lines_fit : CutLinesFit
unfolding cut_line
cut_lines_fit width tail line utf8 h =
    elim (fits width line) as (λ v. fits width line ≡ v → width_of (cond v line (cond (fits width tail) (beginning (width - width_of tail) line ++ tail) (beginning width tail))) ≤ width) [
      | true ↦ λ low. grind (arith, nat_tests)
      | false ↦ λ wide.
          elim (fits width tail) as (λ v. fits width tail ≡ v → width_of (cond v (beginning (width - width_of tail) line ++ tail) (beginning width tail)) ≤ width) [
            | true ↦ λ low.
                let front = beginning (width - width_of tail) line in
                let short : width_of tail ≤ width = grind (arith, nat_tests) in
                omega (arith, short, tailed front tail (held-utf8 (width - width_of tail) [] (graphemes true line) IsUtf8-nil (graphemes-utf8 line utf8)) h, beginning-fits (width - width_of tail) line)
            | false ↦ λ long. beginning-fits width tail
          ] refl
    ] refl

-- ---- texts that are cut: their lines, and that they fit

-- ---- texts that fit stay

cut_same : (width : ℕ) (tail : Text) (lines : List Text) → greatest (map width_of lines) ≤ width → map (cut_line width tail) lines ≡ lines
cut_same width tail [] low = refl
cut_same width tail (line ∷ lines) low =
    ap (λ z. z ∷ map (cut_line width tail) lines) (cut_line-fits width tail line (omega arith)) ∙ ap (λ z. line ∷ z) (cut_same width tail lines (omega arith))

pub cut_texts_stay : CutTextsStay
unfolding cut_text text_width_of lines_of
cut_texts_stay width tail text low = ap (join_with_byte 10) (cut_same width tail (lines_of text) low) ∙ join_with_byte-slice_split 10 text

-- ---- lines without line feeds

held-plain : (width : ℕ) (front : Text) (cs : List Text) → NoFeeds front → NoFeeds (concat cs) → NoFeeds (held width front cs)
held-plain width front [] none all = none
held-plain width front (c ∷ cs) none all =
    elim (fits width (front ++ c)) as (λ v. NoFeeds (cond v (held width (front ++ c) cs) front)) [
      | true ↦ held-plain width (front ++ c) cs (NoFeeds-append front c none (NoFeeds-first c (concat cs) all)) (NoFeeds-rest c (concat cs) all)
      | false ↦ none
    ]

pub beginning-plain : (width : ℕ) (line : Text) → IsLine line → NoFeeds (beginning width line)
beginning-plain width line is = held-plain width [] (graphemes true line) tt (subst NoFeeds (sym (concat-segments (is_grapheme_break true) line is.0)) is.1)

cut_line-plain : (width : ℕ) (tail line : Text) → IsLine tail → IsLine line → NoFeeds (cut_line width tail line)
unfolding cut_line
cut_line-plain width tail line last is =
    elim (fits width line) as (λ v. NoFeeds (cond v line (cond (fits width tail) (beginning (width - width_of tail) line ++ tail) (beginning width tail)))) [
      | true ↦ is.1
      | false ↦
          elim (fits width tail) as (λ v. NoFeeds (cond v (beginning (width - width_of tail) line ++ tail) (beginning width tail))) [
            | true ↦ NoFeeds-append (beginning (width - width_of tail) line) tail (beginning-plain (width - width_of tail) line is) last.1
            | false ↦ beginning-plain width tail last
          ]
    ]

cut_lines-plain : (width : ℕ) (tail : Text) (lines : List Text) → IsLine tail → EachLine lines → EachNoFeeds (map (cut_line width tail) lines)
cut_lines-plain width tail [] last each = tt
cut_lines-plain width tail (line ∷ lines) last each = (cut_line-plain width tail line last each.0, cut_lines-plain width tail lines last each.1)

-- the lines of a text that is cut, where the tail is a line
lines_of-cut : (width : ℕ) (tail text : Text) → IsUtf8 text → IsLine tail → lines_of (cut_text width tail text) ≡ map (cut_line width tail) (lines_of text)
unfolding cut_text lines_of
lines_of-cut width tail text utf8 last =
    split-joined (map (cut_line width tail) (lines_of text)) (omega (arith, length-map (lines_of text) (cut_line width tail), lines_of-some text)) (cut_lines-plain width tail (lines_of text) last (lines_of-lines text utf8))

pub cut_lines_stand : CutLinesStand
cut_lines_stand width tail text utf8 tail-utf8 one = lines_of-cut width tail text utf8 (subst EachLine one (lines_of-lines tail tail-utf8)).0

-- ---- cut texts fit

pub tail-plain : (cs : List ℕ) → list_all is_tail_character cs ≡ true → NoFeeds (encode_utf8_all cs)
tail-plain [] h = tt
tail-plain (c ∷ cs) h =
    let parts = and_parts (is_tail_character c) (list_all is_tail_character cs) h in
    let other : (c == 10) ≡ false = grind (arith, nat_tests) in
    NoFeeds-append (encode c) (encode_utf8_all cs) (lacks-feeds (encode c) (encode-lacks 10 c (omega arith) other)) (tail-plain cs parts.1)

cut_lines_low : (width : ℕ) (tail : Text) (lines : List Text) → list_all is_tail_character (chars tail) ≡ true → EachLine lines → greatest (map width_of (map (cut_line width tail) lines)) ≤ width
cut_lines_low width tail [] h each = omega arith
cut_lines_low width tail (line ∷ lines) h each = omega (arith, cut_lines_fit width tail line each.0.0 h, cut_lines_low width tail lines h each.1)

pub cut_texts_fit : CutTextsFit
unfolding text_width_of
cut_texts_fit width tail text utf8 tail-utf8 h =
    let last : IsLine tail = (tail-utf8, subst NoFeeds (encodes-chars tail tail-utf8) (tail-plain (chars tail) h)) in
    omega (arith, ap (λ (ls : List Text). greatest (map width_of ls)) (lines_of-cut width tail text utf8 last), cut_lines_low width tail (lines_of text) h (lines_of-lines text utf8))

-- ---- ends of lines that are lengthened to their front, character by character

-- the last of some pieces that stand one behind another
pub stand-last : (text : Text) (to at : ℕ) (ps : List Text) (p : Text) → IsCharBoundary text at → StandFrom text to at (ps ++ p ∷ [])
    → (at + length p ≤ to) × (slice_range text (to - length p) to ≡ p) × IsCharBoundary text (to - length p) × StandFrom text (to - length p) at ps
stand-last text to at [] p here h =
    let is : to - length p ≡ at = omega (arith, h.3) in
    (h.0, subst (λ n. slice_range text (to - length p) n ≡ p) h.3 (subst (λ n. slice_range text n (at + length p) ≡ p) (sym is) h.1), subst (λ n. IsCharBoundary text n) (sym is) here, sym is)
stand-last text to at (q ∷ ps) p here h =
    let last = stand-last text to (at + length q) ps p h.2 h.3 in
    (omega (arith, last.0), last.1, last.2, (omega (arith, last.0), h.1, h.2, last.3))

-- an end that begins further in front, behind a front, where all its characters add their own widths
pub longer-width : (front line : Text) (a b : ℕ) → IsUtf8 front → IsUtf8 line → a ≤ b → IsCharBoundary line a → IsCharBoundary line b
    → list_all adds_up (chars (slice_range line a b)) ≡ true → list_all adds_up (chars (drop b line)) ≡ true
    → (width_of (front ++ drop a line) ≡ width_of (front ++ drop b line) + width_of (slice_range line a b)) × (list_all adds_up (chars (drop a line)) ≡ true)
longer-width front line a b front-utf8 utf8 order begin end added behind =
    let part = IsUtf8-between line a b utf8 order begin end in
    let parts = drop_split line a b order in
    let all : list_all adds_up (chars (drop a line)) ≡ true =
    ap (λ t. list_all adds_up (chars t)) parts ∙ ap (list_all adds_up) (chars-append (slice_range line a b) (drop b line) part) ∙ list_all-append adds_up (chars (slice_range line a b)) (chars (drop b line)) ∙ ap (λ v. v && list_all adds_up (chars (drop b line))) added ∙ behind in (
      omega (
        arith,
        simple-behind front (drop a line) front-utf8 (simple-characters (chars (drop a line)) all),
        simple-behind front (drop b line) front-utf8 (simple-characters (chars (drop b line)) behind),
        simple-behind (slice_range line a b) (drop b line) part (simple-characters (chars (drop b line)) behind),
        ap width_of parts,
      ),
      all,
    )

-- what is held before an end
pub held_before-more : (width : ℕ) (front end c : Text) (cs : List Text) → width_of (front ++ (c ++ end)) ≤ width → held_before width front end (c ∷ cs) ≡ held_before width front (c ++ end) cs
held_before-more width front end c cs low = let yes : fits width (front ++ (c ++ end)) ≡ true = grind (arith, nat_tests) in ap (λ v. cond v (held_before width front (c ++ end) cs) end) yes

pub held_before-end : (width : ℕ) (front end c : Text) (cs : List Text) → width < width_of (front ++ (c ++ end)) → held_before width front end (c ∷ cs) ≡ end
held_before-end width front end c cs wide = let no : fits width (front ++ (c ++ end)) ≡ false = grind (arith, nat_tests) in ap (λ v. cond v (held_before width front (c ++ end) cs) end) no

-- where a beginning ends, the line may be cut
held-boundary : (width : ℕ) (text : Text) (to at : ℕ) (ps : List Text) → IsCharBoundary text at → StandFrom text to at ps → IsCharBoundary text (length (held width (slice_range text 0 at) ps))
held-boundary width text to at [] here h = let long : length (slice_range text 0 at) ≡ at = omega (arith, length-slice_range text 0 at here.0) in subst (λ n. IsCharBoundary text n) (sym long) here
held-boundary width text to at (p ∷ ps) here h =
    let parts : slice_range text 0 (at + length p) ≡ slice_range text 0 at ++ p = slice_range_split text 0 at (at + length p) (omega arith) (omega arith) ∙ ap (λ z. slice_range text 0 at ++ z) h.1 in
    let long : length (slice_range text 0 at) ≡ at = omega (arith, length-slice_range text 0 at here.0) in
    elim (fits width (slice_range text 0 at ++ p)) as (λ v. IsCharBoundary text (length (cond v (held width (slice_range text 0 at ++ p) ps) (slice_range text 0 at)))) [
      | true ↦ subst (λ z. IsCharBoundary text (length (held width z ps))) parts (held-boundary width text to (at + length p) ps h.2 h.3)
      | false ↦ subst (λ n. IsCharBoundary text n) (sym long) here
    ]

pub beginning-boundary : (width : ℕ) (line : Text) → IsUtf8 line → IsCharBoundary line (length (beginning width line))
beginning-boundary width line utf8 =
    let stand = characters-stand line 0 (length line) utf8 (omega arith) (IsCharBoundary-start line utf8) (IsCharBoundary-end line) in
    subst (λ z. IsCharBoundary line (length (held width z (graphemes true line)))) (slice_range-none line 0)
    (held-boundary width line (length line) 0 (graphemes true line) (IsCharBoundary-start line utf8) (subst (λ z. StandFrom line (length line) 0 (graphemes true z)) (slice_range-all line) stand))

-- lines that stay or are cut
module _ (kept : Kept) (width : ℕ) (tail line : Text) where
  pub away-fits : width_of line ≤ width → cut_away_line kept width tail line ≡ line
  unfolding cut_away_line
  away-fits low = let yes : fits width line ≡ true = grind (arith, nat_tests) in ap (λ v. cond v line (cond (fits width tail) (cut_behind width tail (kept_front kept width tail line) line) (beginning width tail))) yes

  pub away-tailed : width < width_of line → width_of tail ≤ width → cut_away_line kept width tail line ≡ cut_behind width tail (kept_front kept width tail line) line
  unfolding cut_away_line
  away-tailed wide low =
      let no : fits width line ≡ false = grind (arith, nat_tests) in
      let yes : fits width tail ≡ true = grind (arith, nat_tests) in
      ap (λ v. cond v line (cond (fits width tail) (cut_behind width tail (kept_front kept width tail line) line) (beginning width tail))) no
      ∙ ap (λ v. cond v (cut_behind width tail (kept_front kept width tail line) line) (beginning width tail)) yes

  pub away-tail : width < width_of line → width < width_of tail → cut_away_line kept width tail line ≡ beginning width tail
  unfolding cut_away_line
  away-tail wide long =
      let no : fits width line ≡ false = grind (arith, nat_tests) in
      let none : fits width tail ≡ false = grind (arith, nat_tests) in
      ap (λ v. cond v line (cond (fits width tail) (cut_behind width tail (kept_front kept width tail line) line) (beginning width tail))) no
      ∙ ap (λ v. cond v (cut_behind width tail (kept_front kept width tail line) line) (beginning width tail)) none

-- ---- texts that are cut in front or in the middle: their lines, and that they fit

-- ---- what is kept fits

held_before-fits : (width : ℕ) (front end : Text) (cs : List Text) → width_of (front ++ end) ≤ width → width_of (front ++ held_before width front end cs) ≤ width
held_before-fits width front end [] low = low
held_before-fits width front end (c ∷ cs) low =
    elim (fits width (front ++ (c ++ end))) as (λ v. fits width (front ++ (c ++ end)) ≡ v → width_of (front ++ cond v (held_before width front (c ++ end) cs) end) ≤ width) [
      | true ↦ λ h. held_before-fits width front (c ++ end) cs (grind (arith, nat_tests))
      | false ↦ λ h. low
    ] refl

cut_behind-fits : (width : ℕ) (tail front line : Text) → width_of (front ++ tail) ≤ width → width_of (cut_behind width tail front line) ≤ width
cut_behind-fits width tail front line low =
    held_before-fits width (front ++ tail) [] (reverse (graphemes true (drop (length front) line))) (subst (λ z. width_of z ≤ width) (sym (append-nil (front ++ tail))) low)

-- a line that is cut fits if its front and the tail do
away-low : (kept : Kept) (width : ℕ) (tail line : Text) → (width_of tail ≤ width → width_of (kept_front kept width tail line ++ tail) ≤ width) → width_of (cut_away_line kept width tail line) ≤ width
unfolding cut_away_line
away-low kept width tail line front =
    elim (fits width line) as (λ v. fits width line ≡ v → width_of (cond v line (cond (fits width tail) (cut_behind width tail (kept_front kept width tail line) line) (beginning width tail))) ≤ width) [
      | true ↦ λ low. grind (arith, nat_tests)
      | false ↦ λ wide.
          elim (fits width tail) as (λ v. fits width tail ≡ v → width_of (cond v (cut_behind width tail (kept_front kept width tail line) line) (beginning width tail)) ≤ width) [
            | true ↦ λ low. let short : width_of tail ≤ width = grind (arith, nat_tests) in cut_behind-fits width tail (kept_front kept width tail line) line (front short)
            | false ↦ λ long. beginning-fits width tail
          ] refl
    ] refl

pub front_cuts_fit : FrontCutsFit
front_cuts_fit width tail line = away-low End width tail line (λ low. low)

front-low : (kept : Kept) (width : ℕ) (tail line : Text) → IsUtf8 line → list_all is_tail_character (chars tail) ≡ true → width_of tail ≤ width → width_of (kept_front kept width tail line ++ tail) ≤ width
front-low End width tail line utf8 h low = low
front-low BothEnds width tail line utf8 h low =
    let half = (width - width_of tail + 1) / 2 in
    let front = beginning half line in
    omega (arith, low, tailed front tail (held-utf8 half [] (graphemes true line) IsUtf8-nil (graphemes-utf8 line utf8)) h, beginning-fits half line)

pub cut_away_lines_fit : CutAwayLinesFit
cut_away_lines_fit kept width tail line utf8 h = away-low kept width tail line (front-low kept width tail line utf8 h)

-- ---- texts that fit stay

away-same : (kept : Kept) (width : ℕ) (tail : Text) (lines : List Text) → greatest (map width_of lines) ≤ width → map (cut_away_line kept width tail) lines ≡ lines
away-same kept width tail [] low = refl
away-same kept width tail (line ∷ lines) low =
    ap (λ z. z ∷ map (cut_away_line kept width tail) lines) (away-fits kept width tail line (omega arith)) ∙ ap (λ z. line ∷ z) (away-same kept width tail lines (omega arith))

pub cut_away_texts_stay : CutAwayTextsStay
unfolding cut_away_text text_width_of lines_of
cut_away_texts_stay kept width tail text low = ap (join_with_byte 10) (away-same kept width tail (lines_of text) low) ∙ join_with_byte-slice_split 10 text

-- ---- lines without line feeds

each-plain : (cs : List Text) → NoFeeds (concat cs) → EachNoFeeds cs
each-plain [] none = tt
each-plain (c ∷ cs) none = (NoFeeds-first c (concat cs) none, each-plain cs (NoFeeds-rest c (concat cs) none))

each-append : (cs ds : List Text) → EachNoFeeds cs → EachNoFeeds ds → EachNoFeeds (cs ++ ds)
each-append [] ds first rest = rest
each-append (c ∷ cs) ds first rest = (first.0, each-append cs ds first.1 rest)

each-reversed : (cs : List Text) → EachNoFeeds cs → EachNoFeeds (reverse cs)
each-reversed [] each = tt
each-reversed (c ∷ cs) each = subst EachNoFeeds (sym (reverse-append (c ∷ []) cs)) (each-append (reverse cs) (c ∷ []) (each-reversed cs each.1) (each.0, tt))

held_before-plain : (width : ℕ) (front end : Text) (cs : List Text) → NoFeeds end → EachNoFeeds cs → NoFeeds (held_before width front end cs)
held_before-plain width front end [] none each = none
held_before-plain width front end (c ∷ cs) none each =
    elim (fits width (front ++ (c ++ end))) as (λ v. NoFeeds (cond v (held_before width front (c ++ end) cs) end)) [
      | true ↦ held_before-plain width front (c ++ end) cs (NoFeeds-append c end each.0 none) each.1
      | false ↦ none
    ]

ending-plain : (width : ℕ) (front line : Text) → IsLine line → NoFeeds (ending width front line)
ending-plain width front line is =
    held_before-plain width front [] (reverse (graphemes true line)) tt
    (each-reversed (graphemes true line) (each-plain (graphemes true line) (subst NoFeeds (sym (concat-segments (is_grapheme_break true) line is.0)) is.1)))

-- a front that may be taken off leaves a line
front-plain : (kept : Kept) (width : ℕ) (tail line : Text) → IsLine line → NoFeeds (kept_front kept width tail line) × IsLine (drop (length (kept_front kept width tail line)) line)
front-plain End width tail line is = (tt, is)
front-plain BothEnds width tail line is =
    let half = (width - width_of tail + 1) / 2 in
    let n = length (beginning half line) in
    (beginning-plain half line is, (IsUtf8-drop line n is.0 (beginning-boundary half line is.0), NoFeeds-rest (take n line) (drop n line) (subst NoFeeds (sym (take-append-drop n line)) is.1)))

away-plain : (kept : Kept) (width : ℕ) (tail line : Text) → IsLine tail → IsLine line → NoFeeds (cut_away_line kept width tail line)
unfolding cut_away_line
away-plain kept width tail line last is =
    elim (fits width line) as (λ v. NoFeeds (cond v line (cond (fits width tail) (cut_behind width tail (kept_front kept width tail line) line) (beginning width tail)))) [
      | true ↦ is.1
      | false ↦
          elim (fits width tail) as (λ v. NoFeeds (cond v (cut_behind width tail (kept_front kept width tail line) line) (beginning width tail))) [
            | true ↦
                let front = kept_front kept width tail line in
                let parts = front-plain kept width tail line is in
                NoFeeds-append (front ++ tail) (ending width (front ++ tail) (drop (length front) line)) (NoFeeds-append front tail parts.0 last.1) (ending-plain width (front ++ tail) (drop (length front) line) parts.1)
            | false ↦ beginning-plain width tail last
          ]
    ]

aways-plain : (kept : Kept) (width : ℕ) (tail : Text) (lines : List Text) → IsLine tail → EachLine lines → EachNoFeeds (map (cut_away_line kept width tail) lines)
aways-plain kept width tail [] last each = tt
aways-plain kept width tail (line ∷ lines) last each = (away-plain kept width tail line last each.0, aways-plain kept width tail lines last each.1)

-- the lines of a text that is cut, where the tail is a line
lines_of-away : (kept : Kept) (width : ℕ) (tail text : Text) → IsUtf8 text → IsLine tail → lines_of (cut_away_text kept width tail text) ≡ map (cut_away_line kept width tail) (lines_of text)
unfolding cut_away_text lines_of
lines_of-away kept width tail text utf8 last =
    split-joined (map (cut_away_line kept width tail) (lines_of text)) (omega (arith, length-map (lines_of text) (cut_away_line kept width tail), lines_of-some text)) (aways-plain kept width tail (lines_of text) last (lines_of-lines text utf8))

pub cut_away_lines_stand : CutAwayLinesStand
cut_away_lines_stand kept width tail text utf8 tail-utf8 one = lines_of-away kept width tail text utf8 (subst EachLine one (lines_of-lines tail tail-utf8)).0

-- ---- cut texts fit

aways-low : (kept : Kept) (width : ℕ) (tail : Text) (lines : List Text) → list_all is_tail_character (chars tail) ≡ true → EachLine lines → greatest (map width_of (map (cut_away_line kept width tail) lines)) ≤ width
aways-low kept width tail [] h each = omega arith
aways-low kept width tail (line ∷ lines) h each = omega (arith, cut_away_lines_fit kept width tail line each.0.0 h, aways-low kept width tail lines h each.1)

pub cut_away_texts_fit : CutAwayTextsFit
unfolding text_width_of
cut_away_texts_fit kept width tail text utf8 tail-utf8 h =
    let last : IsLine tail = (tail-utf8, subst NoFeeds (encodes-chars tail tail-utf8) (tail-plain (chars tail) h)) in
    omega (arith, ap (λ (ls : List Text). greatest (map width_of ls)) (lines_of-away kept width tail text utf8 last), aways-low kept width tail (lines_of text) h (lines_of-lines text utf8))

-- ---- rows that are cut, cell by cell

-- the one line of a list
first-of-one : (lines : List Text) → length lines ≡ 1 → first_of_lines lines ≡ join_with_byte 10 lines
first-of-one [] one = absurd (omega arith)
first-of-one (line ∷ []) one = refl
first-of-one (line ∷ next ∷ lines) one = absurd (omega arith)

-- a text of one line is its first line
pub first_line_of-one : (text : Text) → length (lines_of text) ≡ 1 → first_line_of text ≡ text
unfolding first_line_of lines_of
first_line_of-one text one = first-of-one (lines_of text) one ∙ join_with_byte-slice_split 10 text

-- a text that fits stays
pub cut_cell-fits : (tail : Text) (width : ℕ) (text : Text) → is_fitting width text ≡ true → cut_cell tail width text ≡ text
cut_cell-fits tail width text h =
    let parts = and_parts (length (lines_of text) == 1) (nat_le (width_of text) width) h in
    let is = first_line_of-one text (grind (arith, nat_tests)) in
    let low : width_of (first_line_of text) ≤ width = rw is (grind (arith, nat_tests)) in
    cut_line-fits width tail (first_line_of text) low ∙ is

-- cells that fit stay as they are
pub ruleset fitting_cells = (cut_cell-fits)

-- what cut lines and texts are like
pub ruleset laws_of_cuts = (cut_lines_fit, cut_texts_stay, cut_lines_stand, cut_texts_fit)

-- what lines and texts are like whose beginning or middle is cut away
pub ruleset laws_of_cuts_away = (front_cuts_fit, cut_away_lines_fit, cut_away_texts_stay, cut_away_lines_stand, cut_away_texts_fit)

-- where a line may be cut
pub ruleset boundaries = (IsCharBoundary-start, beginning-boundary)

-- The place of a text in its cell: its blank ends, its facts, its lines, and how wide its block is.
use Rattle.std.proofs.Common.{◌≡◌, ℕ, suc, ◌+◌, ◌-◌, ◌<◌, ◌≤◌, ◌==◌, Bool, true, false, cond, List, [], ◌∷◌, length, one-add, drop, fold, reverse, refl, sym, ap, ◌∙◌, arith, length-drop, length-take, if◌then◌else◌, ◌&&◌, not, map, max, zero, nat_lt, ◌++◌, get_or, slice_index_or, Option, Some, None, IfSome, unwrap_or, ap₂, zero-add, append_assoc, subst, ◌*◌, mul-one}
use Rattle.std.specs.List.{prefix_len, suffix_len, list_all}
use Rattle.std.proofs.lemmas.Bool.Decides.{nat_tests}
use Rattle.std.proofs.lemmas.List.{length-reverse, reverse-append, length-map, get_or-map, get_or-take, get_or-drop}
use Rattle.std.proofs.lemmas.List.Sums.{suffix_len-le-length, prefix_len-le-length, sum_by-append, sum_by-cons}
use Rattle.std.proofs.lemmas.List.Folds.{prefix_len-append}
use Rattle.pg_layout.specs.Text.{Text, is_blank, blank_top, blank_bottom, without_blank_ends, lines_of, width_of, greatest, text_width_of}
use Rattle.pg_picture.specs.declared.facts.BlankEnds.{BlankEnds}
use Rattle.pg_picture.specs.Inside.{with_line, empty_lines_of, facts_of, shared_left, place_of, place_in, text_line_at, share_of, line_if, shown_line, placed_line, line_parts, shows_texts_whole, has_plain_sides, is_simple}
use Rattle.std.specs.Str.{trim}
use Rattle.std.proofs.lemmas.Bool.{and_parts}
use Rattle.pg_layout.specs.declared.alignment.Formatting.{Formatting}
use Rattle.pg_layout.proofs.TextLines.{is_feed, feed_place, lines_of-one}
use Rattle.pg_picture.specs.Pieces.{trimmed_if, kept_lines, shown, widest, Style, Piece, words, fill, written, in_color, shares, lines_above, inner_width, left_share, line_with, text_line, text_height, text_top, block_line, piece_width, pieces_width}
use Rattle.pg_picture.specs.declared.facts.TextFacts.{TextFacts}
use Rattle.pg_layout.specs.declared.alignment.AlignmentHorizontal.{AlignmentHorizontal}
use Rattle.pg_layout.specs.declared.alignment.AlignmentHorizontal.TheVariants as across
use Rattle.pg_layout.specs.declared.alignment.AlignmentVertical.{AlignmentVertical}
use Rattle.pg_layout.specs.declared.alignment.AlignmentVertical.TheVariants as down
use Rattle.pg_layout.specs.Colors.{Color}
use Rattle.pg_picture.specs.Fits.{cell_fits}
use Rattle.pg_picture.specs.declared.place.CellPlace.{CellPlace}
use Rattle.pg_picture.proofs.PiecesOfLines.{written-append, written-cons}
use Rattle.pg_picture.specs.Inside.{DrawsAs}
use Rattle.pg_picture.specs.Straight.{IsNarrow, HasNarrowFills}

-- ---- the blank lines at both ends of a text, counted line by line

-- how many at the end pass, with one element more at the front
suffix_len-cons : {X : Type 0} (p : X → Bool) (x : X) (xs : List X) → suffix_len p (x ∷ xs) ≡ cond (suffix_len p xs == length xs) (length xs + cond (p x) 1 0) (suffix_len p xs)
suffix_len-cons p x xs =
    ap (prefix_len p) (reverse-append (x ∷ []) xs) ∙ prefix_len-append p (reverse xs) (x ∷ [])
    ∙ ap (λ n. cond (suffix_len p xs == n) (n + cond (p x) 1 0) (suffix_len p xs)) (length-reverse xs)

-- the lines counted so far
abbrev pub total : BlankEnds → ℕ
total e = (e.shown + e.top) + e.bottom

one_at_top : (e : BlankEnds) → e.shown ≡ 0 → with_line e true ≡ record { shown = e.shown; top = e.top + 1; bottom = e.bottom }
one_at_top e none = let first : (e.shown == 0) ≡ true = grind (arith, nat_tests) in rw first

one_at_bottom : (e : BlankEnds) → 0 < e.shown → with_line e true ≡ record { shown = e.shown; top = e.top; bottom = e.bottom + 1 }
one_at_bottom e some = let later : (e.shown == 0) ≡ false = grind (arith, nat_tests) in rw later

total-with_line : (e : BlankEnds) (b : Bool) → total (with_line e b) ≡ total e + 1
total-with_line e false = omega arith
total-with_line e true = elim (e.shown == 0) as (λ v. total (if v then record { shown = e.shown; top = e.top + 1; bottom = e.bottom } else record { shown = e.shown; top = e.top; bottom = e.bottom + 1 }) ≡ total e + 1) [ true ↦ omega arith | false ↦ omega arith ]

-- a blank line, or another one, after lines of which b at the end are blank
bottom-blank : (b n t s r : ℕ) → b ≤ n → s ≡ cond (b == n) (n + 1) b → r ≡ cond (b == n) ((t + 1) + n) b → r ≡ cond (s == suc n) (t + suc n) s
bottom-blank b n t s r within is given = grind (arith, nat_tests)

bottom-other : (b n t s r : ℕ) → b ≤ n → s ≡ cond (b == n) (n + 0) b → r ≡ cond (b == n) (0 + n) b → r ≡ cond (s == suc n) (t + suc n) s
bottom-other b n t s r within is given = grind (arith, nat_tests)

bottom-first : (b n s r : ℕ) → b ≤ n → s ≡ cond (b == n) (n + 0) b → r ≡ cond (b == n) (0 + n) b → r ≡ s
bottom-first b n s r within is given = grind (arith, nat_tests)

module _ {X : Type 0} (p : X → Bool) where
  -- what is counted after some lines
  abbrev pub ends_after : BlankEnds → List X → BlankEnds
  ends_after ends xs = fold (λ e x. with_line e (p x)) ends xs

  pub total-ends_after : (e : BlankEnds) (xs : List X) → total (ends_after e xs) ≡ total e + length xs
  total-ends_after e [] = omega arith
  total-ends_after e (x ∷ xs) = omega (arith, total-ends_after (with_line e (p x)) xs, total-with_line e (p x))

  top_after : (e : BlankEnds) (xs : List X) → 0 < e.shown → (ends_after e xs).top ≡ e.top
  top_after e [] some = refl
  top_after e (x ∷ xs) some = elim (p x) as (λ v. (ends_after (with_line e v) xs).top ≡ e.top) [
    | true ↦ rw (one_at_bottom e some) (top_after (record { shown = e.shown; top = e.top; bottom = e.bottom + 1 }) xs some)
    | false ↦ top_after (with_line e false) xs (omega arith)
  ]

  bottom_after : (e : BlankEnds) (xs : List X) → 0 < e.shown → (ends_after e xs).bottom ≡ cond (suffix_len p xs == length xs) (e.bottom + length xs) (suffix_len p xs)
  bottom_after e [] some = omega arith
  bottom_after e (x ∷ xs) some =
      elim (p x) as (λ v. suffix_len p (x ∷ xs) ≡ cond (suffix_len p xs == length xs) (length xs + cond v 1 0) (suffix_len p xs) → (ends_after (with_line e v) xs).bottom ≡ cond (suffix_len p (x ∷ xs) == suc (length xs)) (e.bottom + suc (length xs)) (suffix_len p (x ∷ xs))) [
        | true ↦ λ is. rw (one_at_bottom e some) (bottom-blank (suffix_len p xs) (length xs) e.bottom _ _ (suffix_len-le-length p xs) is (bottom_after (record { shown = e.shown; top = e.top; bottom = e.bottom + 1 }) xs some))
        | false ↦ λ is. bottom-other (suffix_len p xs) (length xs) e.bottom _ _ (suffix_len-le-length p xs) is (bottom_after (with_line e false) xs (omega arith))
      ] (suffix_len-cons p x xs)

  -- from the front: the first ones that pass, and the last ones of the rest
  pub ends_after-front : (n : ℕ) (xs : List X) → let e = ends_after (record { shown = 0; top = n; bottom = 0 }) xs in (e.top ≡ n + prefix_len p xs) × (e.bottom ≡ suffix_len p (drop (prefix_len p xs) xs))
  ends_after-front n [] = (omega arith, refl)
  ends_after-front n (x ∷ xs) =
      elim (p x) as (λ v. suffix_len p (x ∷ xs) ≡ cond (suffix_len p xs == length xs) (length xs + cond v 1 0) (suffix_len p xs) → let e = ends_after (with_line (record { shown = 0; top = n; bottom = 0 }) v) xs in (e.top ≡ n + cond v (1 + prefix_len p xs) 0) × (e.bottom ≡ suffix_len p (drop (cond v (1 + prefix_len p xs) 0) (x ∷ xs)))) [
        | true ↦ λ is. (omega (arith, (ends_after-front (n + 1) xs).0), rw one-add (ends_after-front (n + 1) xs).1)
        | false ↦ λ is. (omega (arith, top_after (record { shown = 1; top = n; bottom = 0 }) xs (omega arith)), bottom-first (suffix_len p xs) (length xs) _ _ (suffix_len-le-length p xs) is (bottom_after (record { shown = 1; top = n; bottom = 0 }) xs (omega arith)))
      ] (suffix_len-cons p x xs)

  -- and the number of those between
  pub ends_after-shown : (xs : List X) → (ends_after (record { shown = 0; top = 0; bottom = 0 }) xs).shown ≡ length xs - (prefix_len p xs + suffix_len p (drop (prefix_len p xs) xs))
  ends_after-shown xs = omega (arith, total-ends_after (record { shown = 0; top = 0; bottom = 0 }) xs, (ends_after-front 0 xs).0, (ends_after-front 0 xs).1)

pub length-without_blank_ends : (lines : List Text) → length (without_blank_ends lines) ≡ length lines - (blank_top lines + blank_bottom lines)
unfolding without_blank_ends
length-without_blank_ends lines = omega (arith, length-take (length lines - (blank_top lines + blank_bottom lines)) (drop (blank_top lines) lines), length-drop (blank_top lines) lines)

-- the count of all lines is what is asked for
pub counted-empty_lines : (lines : List Text) (e : BlankEnds) → ends_after is_blank (record { shown = 0; top = 0; bottom = 0 }) lines ≡ e → (e.shown, e.top, e.bottom) ≡ empty_lines_of lines
unfolding blank_top blank_bottom
counted-empty_lines lines e is =
    let front = ends_after-front is_blank 0 lines in
    let top : e.top ≡ prefix_len is_blank lines = omega (arith, front.0, ap (λ (x : BlankEnds). x.top) is) in
    let bottom : e.bottom ≡ suffix_len is_blank (drop (prefix_len is_blank lines) lines) = sym (ap (λ (x : BlankEnds). x.bottom) is) ∙ front.1 in
    let shown : e.shown ≡ length (without_blank_ends lines) = sym (ap (λ (x : BlankEnds). x.shown) is) ∙ ends_after-shown is_blank lines ∙ sym (length-without_blank_ends lines) in
    λ i. (shown i, top i, bottom i)

-- with no line left out, all are shown
pub prefix_len-none : {X : Type 0} (xs : List X) → prefix_len (λ _. false) xs ≡ 0
prefix_len-none [] = refl
prefix_len-none (x ∷ xs) = refl

-- ---- the facts of a text, from its lines in order

-- a blank line, where blank lines at both ends are left out
abbrev pub is_left_out : Formatting → Text → Bool
is_left_out f line = f.vertical_trim && is_blank line

-- the greatest width so far, and one line more
abbrev pub wider : Bool → ℕ → Text → ℕ
wider trim width line = max width (width_of (trimmed_if trim line))

fold-wider : (trim : Bool) (lines : List Text) (width : ℕ) → fold (wider trim) width lines ≡ max width (greatest (map (λ line. width_of (trimmed_if trim line)) lines))
fold-wider trim [] width = omega arith
fold-wider trim (line ∷ lines) width = fold-wider trim lines (wider trim width line) ∙ omega arith

-- the width of the widest line, line by line
pub fold-widest : (trim : Bool) (text : Text) → fold (wider trim) 0 (lines_of text) ≡ greatest (map (λ line. width_of (trimmed_if trim line)) (lines_of text))
fold-widest trim text = fold-wider trim (lines_of text) 0 ∙ omega arith

-- without trim it is the text's width
pub widest-untrimmed : (trim : Bool) (text : Text) → trim ≡ false → text_width_of text ≡ greatest (map (λ line. width_of (trimmed_if trim line)) (lines_of text))
unfolding trimmed_if text_width_of
widest-untrimmed true text untrimmed = cc
widest-untrimmed false text untrimmed = refl

-- with trim it is found line by line
pub widest-trimmed : (b : Bool) (text : Text) → b ≡ true → fold (λ width line. max width (width_of (trim line))) 0 (lines_of text) ≡ greatest (map (λ line. width_of (trimmed_if b line)) (lines_of text))
unfolding trimmed_if
widest-trimmed true text trimmed = fold-widest true text
widest-trimmed false text trimmed = cc

shown-count : (f : Formatting) (text : Text) (e : BlankEnds) → ends_after (is_left_out f) (record { shown = 0; top = 0; bottom = 0 }) (lines_of text) ≡ e → e.shown ≡ length (shown f text)
unfolding shown kept_lines blank_top blank_bottom
shown-count f text e is =
    sym (ap (λ (x : BlankEnds). x.shown) is) ∙ ends_after-shown (is_left_out f) (lines_of text)
    ∙ elim f.vertical_trim as (λ v. length (lines_of text) - (prefix_len (λ line. v && is_blank line) (lines_of text) + suffix_len (λ line. v && is_blank line) (drop (prefix_len (λ line. v && is_blank line) (lines_of text)) (lines_of text))) ≡ length (map (trimmed_if f.horizontal_trim) (if v then without_blank_ends (lines_of text) else lines_of text))) [
      | true ↦ sym (length-map (without_blank_ends (lines_of text)) (trimmed_if f.horizontal_trim) ∙ length-without_blank_ends (lines_of text))
      | false ↦ omega (arith, prefix_len-none (lines_of text), prefix_len-none {X = Text}, length-map (lines_of text) (trimmed_if f.horizontal_trim))
    ]

skip-count : (f : Formatting) (text : Text) (e : BlankEnds) → ends_after (is_left_out f) (record { shown = 0; top = 0; bottom = 0 }) (lines_of text) ≡ e → e.top ≡ (if f.vertical_trim then blank_top (lines_of text) else 0)
unfolding blank_top
skip-count f text e is =
    sym (ap (λ (x : BlankEnds). x.top) is) ∙ (ends_after-front (is_left_out f) 0 (lines_of text)).0
    ∙ elim f.vertical_trim as (λ v. 0 + prefix_len (λ line. v && is_blank line) (lines_of text) ≡ (if v then prefix_len is_blank (lines_of text) else 0)) [
      | true ↦ omega arith
      | false ↦ omega (arith, prefix_len-none (lines_of text))
    ]

-- what is counted line by line are the facts
pub facts_of-counted : (f : Formatting) (text : Text) (e : BlankEnds) (width : ℕ) → ends_after (is_left_out f) (record { shown = 0; top = 0; bottom = 0 }) (lines_of text) ≡ e → fold (wider f.horizontal_trim) 0 (lines_of text) ≡ width
    → record { shown = e.shown; skip = e.top; widest = width } ≡ facts_of f text
unfolding facts_of widest
facts_of-counted f text e width counted widened =
    let count = shown-count f text e counted in
    let skip = skip-count f text e counted in
    let wide = sym widened ∙ fold-widest f.horizontal_trim text in
    λ i. record { shown = count i; skip = skip i; widest = wide i }

-- a text of one line, as it is
pub facts_of-single : (f : Formatting) (text : Text) (width : ℕ) → f.horizontal_trim ≡ false → f.vertical_trim ≡ false → lines_of text ≡ text ∷ [] → width ≡ width_of text → record { shown = 1; skip = 0; widest = width } ≡ facts_of f text
unfolding facts_of widest shown kept_lines trimmed_if
facts_of-single f text width h v one known =
    let widest_of_one : ℕ → TextFacts = λ n. record { shown = 1; skip = 0; widest = n } in
    let same : width ≡ max (width_of text) 0 = omega (arith, known) in
    rw (h, v, one) (ap widest_of_one same)

-- a text without a line feed is one line
place-unfed : (text : Text) → list_all (λ b. not (is_feed b)) text ≡ true → feed_place text ≡ length text
place-unfed [] unfed = refl
place-unfed (b ∷ bs) unfed =
    let parts = and_parts (not (is_feed b)) (list_all (λ x. not (is_feed x)) bs) unfed in
    ap (λ v. cond v (1 + feed_place bs) 0) parts.0 ∙ omega (arith, place-unfed bs parts.1)

pub lines_of-unfed : (text : Text) → list_all (λ b. not (is_feed b)) text ≡ true → lines_of text ≡ text ∷ []
lines_of-unfed text unfed = lines_of-one text (place-unfed text unfed)

-- without a vertical trim all lines of a text are shown
pub length-shown : (f : Formatting) (text : Text) → f.vertical_trim ≡ false → length (shown f text) ≡ length (lines_of text)
unfolding shown kept_lines
length-shown f text off = rw off (length-map (lines_of text) (trimmed_if f.horizontal_trim))

-- ---- the place of a text in its cell: shares that leave room, the lines that are shown, and the lines of the block

-- ---- shares

-- no more lines stand above than are free
pub lines_above-le : (down : AlignmentVertical) (available real : ℕ) → lines_above down available real ≤ available - real
unfolding lines_above
lines_above-le down.Top available real = omega arith
lines_above-le down.Bottom available real = omega arith
lines_above-le down.Center available real = omega arith

-- the left share leaves room for the text
pub left_share-le : (across : AlignmentHorizontal) (got all : ℕ) → (shares across got all).0 ≤ all - got
unfolding shares
left_share-le across.Left got all = omega arith
left_share-le across.Right got all = omega arith
left_share-le across.Center got all = omega arith

-- a line that is no wider than the widest one has room beside its share
pub share-fits : (style : Style) (left : Option ℕ) (wide v w : ℕ) → left ≡ shared_left style wide w → v ≤ wide → (style.padding.left.size + style.padding.right.size) + wide ≤ w
    → ((style.padding.left.size + style.padding.right.size) + share_of style left w v) + v ≤ w
unfolding inner_width
share-fits style left wide v w is narrow room =
    let inner : ℕ = w - (style.padding.left.size + style.padding.right.size) in
    let fits : (all : Option ℕ) → all ≡ shared_left style wide w → ((style.padding.left.size + style.padding.right.size) + unwrap_or all (shares style.across v inner).0) + v ≤ w = λ all same. rw same
    (elim style.formatting.allow_lines_alignment as (λ b. ((style.padding.left.size + style.padding.right.size) + unwrap_or (if b then None else Some (shares style.across wide inner).0) (shares style.across v inner).0) + v ≤ w) [
      | true ↦ omega (arith, left_share-le style.across v inner)
      | false ↦ omega (arith, left_share-le style.across wide inner)
    ]) in
    fits left is

-- the share of a line is that of the text
pub share_of-text : (style : Style) (text : Text) (w v : ℕ) → share_of style (shared_left style (widest style.formatting text) w) w v ≡ left_share style text w v
unfolding left_share
share_of-text style text w v = elim style.formatting.allow_lines_alignment as (λ b. unwrap_or (if b then None else Some (shares style.across (widest style.formatting text) (inner_width style w)).0) (shares style.across v (inner_width style w)).0 ≡ (shares style.across (if b then v else widest style.formatting text) (inner_width style w)).0) [ true ↦ refl | false ↦ refl ]

-- ---- the lines that are shown

get_or-le-greatest : {X : Type 0} (f : X → ℕ) (xs : List X) (k : ℕ) (d : X) → k < length xs → f (get_or xs k d) ≤ greatest (map f xs)
get_or-le-greatest f [] k d within = absurd (omega arith)
get_or-le-greatest f (x ∷ xs) zero d within = omega arith
get_or-le-greatest f (x ∷ xs) (suc k) d within = let rest : f (get_or xs k d) ≤ greatest (map f xs) = get_or-le-greatest f xs k d (omega arith) in omega arith

-- no line of a text is wider than the widest
pub line-le-widest : (f : Formatting) (text : Text) (k : ℕ) → k < length (lines_of text) → width_of (trimmed_if f.horizontal_trim (slice_index_or (lines_of text) k [])) ≤ widest f text
unfolding widest
line-le-widest f text k within = get_or-le-greatest (λ line. width_of (trimmed_if f.horizontal_trim line)) (lines_of text) k [] within

blank_top-le : (lines : List Text) → blank_top lines ≤ length lines
unfolding blank_top
blank_top-le lines = prefix_len-le-length is_blank lines

kept-at : (lines : List Text) (k : ℕ) → k < length (without_blank_ends lines) → get_or (without_blank_ends lines) k [] ≡ get_or lines (blank_top lines + k) []
unfolding without_blank_ends
kept-at lines k within =
    get_or-take (length lines - (blank_top lines + blank_bottom lines)) (drop (blank_top lines) lines) k [] (omega (arith, length-without_blank_ends lines))
    ∙ get_or-drop (blank_top lines) lines k []

-- a text has the lines that are left out at its front, and those that are shown
pub facts_of-lines : (f : Formatting) (text : Text) → (facts_of f text).skip + (facts_of f text).shown ≤ length (lines_of text)
unfolding facts_of shown kept_lines
facts_of-lines f text =
    elim f.vertical_trim as (λ v. (if v then blank_top (lines_of text) else 0) + length (map (trimmed_if f.horizontal_trim) (if v then without_blank_ends (lines_of text) else lines_of text)) ≤ length (lines_of text)) [
      | true ↦ omega (arith, length-map (without_blank_ends (lines_of text)) (trimmed_if f.horizontal_trim), length-without_blank_ends (lines_of text), blank_top-le (lines_of text))
      | false ↦ omega (arith, length-map (lines_of text) (trimmed_if f.horizontal_trim))
    ]

-- a shown line is one of the text's, trimmed or not
shown-at : (f : Formatting) (text : Text) (k : ℕ) → k < (facts_of f text).shown → slice_index_or (shown f text) k [] ≡ trimmed_if f.horizontal_trim (slice_index_or (lines_of text) ((facts_of f text).skip + k) [])
unfolding facts_of shown kept_lines
shown-at f text k within =
    let trimmed : Text → Text = trimmed_if f.horizontal_trim in
    let lines : List Text = lines_of text in
    elim f.vertical_trim as (λ v. k < length (map trimmed (if v then without_blank_ends lines else lines)) → get_or (map trimmed (if v then without_blank_ends lines else lines)) k [] ≡ trimmed (get_or lines ((if v then blank_top lines else 0) + k) [])) [
      | true ↦ λ h. let here : k < length (without_blank_ends lines) = omega (arith, length-map (without_blank_ends lines) trimmed) in get_or-map trimmed (without_blank_ends lines) k [] [] here ∙ ap trimmed (kept-at lines k here)
      | false ↦ λ h. let here : k < length lines = omega (arith, length-map lines trimmed) in get_or-map trimmed lines k [] [] here ∙ ap (λ n. trimmed (get_or lines n [])) (sym (zero-add k))
    ] within

-- and no wider than the widest
pub shown-le-widest : (f : Formatting) (text : Text) (k : ℕ) → k < length (shown f text) → width_of (slice_index_or (shown f text) k []) ≤ widest f text
shown-le-widest f text k within =
    let skip : ℕ = (facts_of f text).skip in
    let count : (facts_of f text).shown ≡ length (shown f text) = unfold facts_of in refl in
    omega (arith, ap width_of (shown-at f text k (omega (arith, count, within))), line-le-widest f text (skip + k) (omega (arith, facts_of-lines f text, count, within)))

-- ---- the place of a text

-- in a cell with lines
pub place_in-tall : (style : Style) (text : Text) (w h : ℕ) → 0 < h → place_in style text w h ≡ place_of (facts_of style.formatting text) style w h
place_in-tall style text w h some = let tall : (h == 0) ≡ false = grind (arith, nat_tests, some) in rw tall refl

pub place-left : (style : Style) (text : Text) (w h : ℕ) (place : CellPlace) → place ≡ place_of (facts_of style.formatting text) style w h → place.left ≡ shared_left style (widest style.formatting text) w
unfolding place_of facts_of
place-left style text w h place is = ap (λ (p : CellPlace). p.left) is

pub place-lines : (style : Style) (text : Text) (w h : ℕ) (place : CellPlace) → place ≡ place_of (facts_of style.formatting text) style w h → place.skip + place.shown ≤ length (lines_of text)
unfolding place_of
place-lines style text w h place is = omega (arith, facts_of-lines style.formatting text, ap (λ (p : CellPlace). p.skip) is, ap (λ (p : CellPlace). p.shown) is)

-- the text line of a line below the top and above the bottom
text_line_at-shown : (place : CellPlace) (i : ℕ) → place.top ≤ i → i < place.top + place.shown → text_line_at place i ≡ Some (place.skip + (i - place.top))
text_line_at-shown place i below above =
    let first : nat_lt i place.top ≡ false = grind (arith, nat_tests) in
    let second : nat_lt i (place.top + place.shown) ≡ true = grind (arith, nat_tests) in
    rw (first, second) refl

both_tests : {A : Type 0} (b c : Bool) (P : A → Type 0) (x : A) → (b ≡ false → c ≡ true → P x) → IfSome (cond b None (cond c (Some x) None)) P
both_tests true c P x here = tt
both_tests false true P x here = here refl refl
both_tests false false P x here = tt

-- it is one of the text's lines
pub text_line_at-within : (place : CellPlace) (i n : ℕ) → place.skip + place.shown ≤ n → IfSome (text_line_at place i) (λ k. k < n)
text_line_at-within place i n within = both_tests (nat_lt i place.top) (nat_lt i (place.top + place.shown)) (λ k. k < n) (place.skip + (i - place.top)) (λ first second. grind (arith, nat_tests))

-- and has room where the cell has room for the widest one
pub room-of-line : (style : Style) (text : Text) (w h i : ℕ) (place : CellPlace) (line : Text) → place ≡ place_of (facts_of style.formatting text) style w h → line ≡ line_if text (text_line_at place i)
    → (style.padding.left.size + style.padding.right.size) + widest style.formatting text ≤ w → place.top ≤ i → i < place.top + place.shown
    → ((style.padding.left.size + style.padding.right.size) + share_of style place.left w (width_of (trimmed_if style.formatting.horizontal_trim line))) + width_of (trimmed_if style.formatting.horizontal_trim line) ≤ w
room-of-line style text w h i place line stands is room below above =
    let k : ℕ = place.skip + (i - place.top) in
    let here : line ≡ slice_index_or (lines_of text) k [] = is ∙ ap (line_if text) (text_line_at-shown place i below above) in
    let narrow : width_of (trimmed_if style.formatting.horizontal_trim line) ≤ widest style.formatting text = omega (arith, ap (λ l. width_of (trimmed_if style.formatting.horizontal_trim l)) here, line-le-widest style.formatting text k (omega (arith, place-lines style text w h place stands))) in
    share-fits style place.left (widest style.formatting text) (width_of (trimmed_if style.formatting.horizontal_trim line)) w (place-left style text w h place stands) narrow room

same-middle : {A : Type 0} (b c : Bool) (x y z : A) (y' : A) → (b ≡ false → c ≡ true → y ≡ y') → cond b x (cond c y z) ≡ cond b x (cond c y' z)
same-middle true c x y z y' same = refl
same-middle false true x y z y' same = same refl refl
same-middle false false x y z y' same = refl

-- a shown line of the text, by its place
middle-line : (style : Style) (color : Option Color) (text : Text) (w h i : ℕ) → (place_of (facts_of style.formatting text) style w h).top ≤ i
    → i < (place_of (facts_of style.formatting text) style w h).top + (place_of (facts_of style.formatting text) style w h).shown
    → text_line style color text w (slice_index_or (shown style.formatting text) (i - (place_of (facts_of style.formatting text) style w h).top) [])
    ≡ shown_line style color (place_of (facts_of style.formatting text) style w h).left w (line_if text (text_line_at (place_of (facts_of style.formatting text) style w h) i))
unfolding text_line shown_line
middle-line style color text w h i below above =
    let f : Formatting = style.formatting in
    let place : CellPlace = place_of (facts_of f text) style w h in
    let k : ℕ = i - place.top in
    let few : place.shown ≤ (facts_of f text).shown = unfold place_of in omega arith in
    let skips : place.skip ≡ (facts_of f text).skip = unfold place_of in refl in
    let line : Text = trimmed_if f.horizontal_trim (line_if text (text_line_at place i)) in
    let same : slice_index_or (shown f text) k [] ≡ line =
    shown-at f text k (omega (arith, few)) ∙ ap (λ n. trimmed_if f.horizontal_trim (slice_index_or (lines_of text) (n + k) [])) (sym skips) ∙ ap (λ o. trimmed_if f.horizontal_trim (line_if text o)) (sym (text_line_at-shown place i below above)) in
    ap (λ l. line_with style color w (left_share style text w (width_of l)) l) same
    ∙ ap (λ s. line_with style color w s line) (sym (share_of-text style text w (width_of line)) ∙ ap (λ o. share_of style o w (width_of line)) (sym (place-left style text w h place refl)))

-- a line of the block, by the place of its text
pub block_line-placed : (style : Style) (color : Option Color) (text : Text) (w h i : ℕ)
    → block_line style color text w h i ≡ placed_line style color (place_of (facts_of style.formatting text) style w h) w i (line_if text (text_line_at (place_of (facts_of style.formatting text) style w h) i))
unfolding block_line placed_line text_top text_height place_of facts_of
block_line-placed style color text w h i =
    let top : ℕ = text_top style text h in
    let count : ℕ = text_height style text h in
    same-middle (nat_lt i top) (nat_lt i (top + count)) (fill style.padding.top.fill w style.padding_color.top) _ (fill style.padding.bottom.fill w style.padding_color.bottom) _
    (λ first second. middle-line style color text w h i (grind (arith, nat_tests)) (grind (arith, nat_tests)))

-- ---- the text of a line

written-line_with : (style : Style) (color : Option Color) (w share : ℕ) (line : Text) → written (line_with style color w share line) ≡ line_parts style color share (inner_width style w - share - width_of line) line
written-line_with style color w share line =
    let left : List Piece = fill style.padding.left.fill style.padding.left.size style.padding_color.left in
    let before : List Piece = fill style.justification share style.justification_color in
    let after : List Piece = fill style.justification (inner_width style w - share - width_of line) style.justification_color in
    let right : List Piece = fill style.padding.right.fill style.padding.right.size style.padding_color.right in
    written-append left (before ++ (words line color ∷ (after ++ right)))
    ∙ ap (λ t. written left ++ t) (written-append before (words line color ∷ (after ++ right))
    ∙ ap (λ t. written before ++ t) (written-cons (words line color) (after ++ right)
    ∙ ap (λ t. in_color color line ++ t) (written-append after right)))
    ∙ sym (append_assoc (written left) (written before) (in_color color line ++ (written after ++ written right)))

-- the parts that were computed are those of the line
pub line_parts-measured : (style : Style) (color : Option Color) (left : Option ℕ) (w inner share v : ℕ) (line : Text) → inner ≡ inner_width style w → v ≡ width_of line → share ≡ share_of style left w v
    → line_parts style color share (inner - share - v) line ≡ written (line_with style color w (share_of style left w (width_of line)) line)
line_parts-measured style color left w inner share v line room known is =
    let own : share ≡ share_of style left w (width_of line) = is ∙ ap (share_of style left w) known in
    let text : ℕ → ℕ → ℕ → Text = λ n s u. line_parts style color s (n - s - u) line in
    let same : text inner share v ≡ text (inner_width style w) (share_of style left w (width_of line)) (width_of line) = λ i. text (room i) (own i) (known i) in
    same ∙ sym (written-line_with style color w (share_of style left w (width_of line)) line)

-- ---- a cell of height 1 whose text is one line as it is

pub lines_above-none : (down : AlignmentVertical) (n : ℕ) → lines_above down n n ≡ 0
lines_above-none down n = omega (arith, lines_above-le down n n)

widest-single : (f : Formatting) (text : Text) → f.horizontal_trim ≡ false → f.vertical_trim ≡ false → lines_of text ≡ text ∷ [] → widest f text ≡ width_of text
unfolding facts_of
widest-single f text h v one = sym (ap (λ (facts : TextFacts). facts.widest) (facts_of-single f text (width_of text) h v one refl))

whole-parts : (style : Style) → shows_texts_whole style ≡ true → (style.formatting.horizontal_trim ≡ false) × (style.formatting.vertical_trim ≡ false) × (style.padding.top.size ≡ 0)
whole-parts style whole =
    let both = and_parts (not style.formatting.horizontal_trim && not style.formatting.vertical_trim) (style.padding.top.size == 0) whole in
    let trims = and_parts (not style.formatting.horizontal_trim) (not style.formatting.vertical_trim) both.0 in
    (grind arith, grind arith, grind (arith, nat_tests))

-- a simple style shows texts whole, between plain sides
pub simple-parts : (style : Style) → is_simple style ≡ true → (shows_texts_whole style ≡ true) × (has_plain_sides style ≡ true)
simple-parts style simple = and_parts (shows_texts_whole style) (has_plain_sides style) simple

left_share-own : (style : Style) (text : Text) (w : ℕ) → widest style.formatting text ≡ width_of text → left_share style text w (width_of text) ≡ share_of style None w (width_of text)
unfolding left_share
left_share-own style text w one = elim style.formatting.allow_lines_alignment as (λ b. (shares style.across (if b then width_of text else widest style.formatting text) (inner_width style w)).0 ≡ (shares style.across (width_of text) (inner_width style w)).0) [ true ↦ refl | false ↦ ap (λ n. (shares style.across n (inner_width style w)).0) one ]

single-text_line : (style : Style) (color : Option Color) (text : Text) (w : ℕ) → style.formatting.horizontal_trim ≡ false → style.formatting.vertical_trim ≡ false → style.padding.top.size ≡ 0 → lines_of text ≡ text ∷ []
    → text_line style color text w text ≡ block_line style color text w 1 0
unfolding block_line text_top text_height shown kept_lines trimmed_if
single-text_line style color text w h v t one = let above : lines_above style.down 1 1 ≡ 0 = lines_above-none style.down 1 in rw (t, h, v, one, above) refl

pub single-whole : (style : Style) (color : Option Color) (text : Text) (w : ℕ) → shows_texts_whole style ≡ true → lines_of text ≡ text ∷ []
    → line_with style color w (share_of style None w (width_of text)) text ≡ block_line style color text w 1 0
unfolding text_line
single-whole style color text w whole one =
    let parts = whole-parts style whole in
    ap (λ s. line_with style color w s text) (sym (left_share-own style text w (widest-single style.formatting text parts.0 parts.1 one)))
    ∙ single-text_line style color text w parts.0 parts.1 parts.2 one

pub room-of-whole : (style : Style) (text : Text) (w v : ℕ) → shows_texts_whole style ≡ true → lines_of text ≡ text ∷ [] → v ≡ width_of text → (style.padding.left.size + style.padding.right.size) + widest style.formatting text ≤ w
    → ((style.padding.left.size + style.padding.right.size) + share_of style None w v) + v ≤ w
unfolding inner_width
room-of-whole style text w v whole one known room =
    let parts = whole-parts style whole in
    omega (arith, widest-single style.formatting text parts.0 parts.1 one, left_share-le style.across v (w - (style.padding.left.size + style.padding.right.size)))

-- the same of a cell of the table's style, in its colour, where the shares were computed
pub single-measured : (style own : Style) (color told : Option Color) (text : Text) (w inner share v : ℕ) → style ≡ own → color ≡ told → shows_texts_whole style ≡ true → lines_of text ≡ text ∷ []
    → inner ≡ inner_width style w → v ≡ width_of text → share ≡ share_of style None w v
    → line_parts style color share (inner - share - v) text ≡ written (block_line own told text w 1 0)
single-measured style own color told text w inner share v is colored whole one room known shared =
    line_parts-measured style color None w inner share v text room known shared
    ∙ ap written (single-whole style color text w whole one)
    ∙ ap₂ (λ (s : Style) (k : Option Color). written (block_line s k text w 1 0)) is colored

-- ---- the lines of the block

pub placed_line-top : (style : Style) (color : Option Color) (place : CellPlace) (w i : ℕ) (line : Text) → i < place.top → fill style.padding.top.fill w style.padding_color.top ≡ placed_line style color place w i line
unfolding placed_line
placed_line-top style color place w i line above = let test : nat_lt i place.top ≡ true = grind (arith, nat_tests) in rw test refl

pub placed_line-text : (style : Style) (color : Option Color) (place : CellPlace) (w i : ℕ) (line shown : Text) → place.top ≤ i → i - place.top < place.shown → shown ≡ trimmed_if style.formatting.horizontal_trim line
    → line_with style color w (share_of style place.left w (width_of shown)) shown ≡ placed_line style color place w i line
unfolding placed_line shown_line
placed_line-text style color place w i line shown below within is =
    let first : nat_lt i place.top ≡ false = grind (arith, nat_tests) in
    let second : nat_lt i (place.top + place.shown) ≡ true = grind (arith, nat_tests) in
    rw (first, second) (ap (λ l. line_with style color w (share_of style place.left w (width_of l)) l) is)

pub placed_line-bottom : (style : Style) (color : Option Color) (place : CellPlace) (w i : ℕ) (line : Text) → place.top ≤ i → place.shown ≤ i - place.top → fill style.padding.bottom.fill w style.padding_color.bottom ≡ placed_line style color place w i line
unfolding placed_line
placed_line-bottom style color place w i line below past =
    let first : nat_lt i place.top ≡ false = grind (arith, nat_tests) in
    let second : nat_lt i (place.top + place.shown) ≡ false = grind (arith, nat_tests) in
    rw (first, second) refl

-- the line of the block, where the line of the text was found by its place
pub block_line-at : (style : Style) (color : Option Color) (text : Text) (w h i : ℕ) (place : CellPlace) (line : Text) → place ≡ place_of (facts_of style.formatting text) style w h → line ≡ line_if text (text_line_at place i)
    → placed_line style color place w i line ≡ block_line style color text w h i
block_line-at style color text w h i place line stands is =
    ap (placed_line style color place w i) is
    ∙ ap (λ (p : CellPlace). placed_line style color p w i (line_if text (text_line_at p i))) stands
    ∙ sym (block_line-placed style color text w h i)

pub facts_of-widest : (f : Formatting) (text : Text) → (facts_of f text).widest ≡ widest f text
unfolding facts_of
facts_of-widest f text = refl

-- ---- the room that a cell of height above 0 has

pub cell_fits-width : (style : Style) (text : Text) (w h : ℕ) → 0 < h → cell_fits style text w h ≡ true → (style.padding.left.size + style.padding.right.size) + widest style.formatting text ≤ w
unfolding cell_fits
cell_fits-width style text w h some fits = grind (arith, nat_tests)

pub cell_fits-height : (style : Style) (text : Text) (w h : ℕ) → 0 < h → cell_fits style text w h ≡ true → style.padding.top.size ≤ h
unfolding cell_fits
cell_fits-height style text w h some fits = grind (arith, nat_tests)

-- ---- a style draws the lines of a placed text as another one, where the two differ in their alignments alone and the place has a share for all
-- lines

module _ (s t : Style) where
  pub draws-same : (left : Option ℕ) → s ≡ t → DrawsAs left s t
  draws-same None e = e
  draws-same (Some share) e = ap (λ (z : Style). record z { across = t.across; down = t.down }) e

  -- where all lines have one left share, and the styles differ in their horizontal alignments
  pub draws-across : (side : AlignmentHorizontal) (left : Option ℕ) (share : ℕ) → left ≡ Some share → record s { across = side } ≡ t → DrawsAs left s t
  draws-across side left share is e = subst (λ l. DrawsAs l s t) (sym is) (subst (λ (z : Style). record s { across = z.across; down = z.down } ≡ z) e refl)

  abbrev aligned : Style
  aligned = record s { across = t.across; down = t.down }

  drawn-at : (color : Option Color) (top shown skip share w i : ℕ) (line : Text)
      → placed_line s color (record { top = top; shown = shown; skip = skip; left = Some share }) w i line ≡ placed_line aligned color (record { top = top; shown = shown; skip = skip; left = Some share }) w i line
  unfolding placed_line shown_line inner_width
  drawn-at color top shown skip share w i line = refl

  -- they draw the same
  pub draws : (left : Option ℕ) → DrawsAs left s t → (color : Option Color) (place : CellPlace) (w i : ℕ) (line : Text) → place.left ≡ left → placed_line s color place w i line ≡ placed_line t color place w i line
  draws None e color place w i line is = ap (λ z. placed_line z color place w i line) e
  draws (Some share) e color place w i line is =
      let stands : place ≡ record { top = place.top; shown = place.shown; skip = place.skip; left = Some share } = ap (λ l. record { top = place.top; shown = place.shown; skip = place.skip; left = l }) is in
      ap (λ p. placed_line s color p w i line) stands
      ∙ drawn-at color place.top place.shown place.skip share w i line
      ∙ sym (ap (λ p. placed_line aligned color p w i line) stands)
      ∙ ap (λ z. placed_line z color place w i line) e

  abbrev HasRoomIn : Option ℕ → ℕ → Text → Style → Type 0
  HasRoomIn left w line z = ((z.padding.left.size + z.padding.right.size) + share_of z left w (width_of (trimmed_if z.formatting.horizontal_trim line))) + width_of (trimmed_if z.formatting.horizontal_trim line) ≤ w

  -- and a line has room in both
  pub room : (left : Option ℕ) → DrawsAs left s t → (w : ℕ) (line : Text) → HasRoomIn left w line t → HasRoomIn left w line s
  room None e w line fits = subst (HasRoomIn None w line) (sym e) fits
  room (Some share) e w line fits = subst (HasRoomIn (Some share) w line) (sym e) fits

-- ---- where fills are one column wide, each line of a block is as wide as its cell, piece by piece

pub pieces_width-append : (xs ys : List Piece) → pieces_width (xs ++ ys) ≡ pieces_width xs + pieces_width ys
unfolding pieces_width
pieces_width-append xs ys = sum_by-append piece_width xs ys

pub pieces_width-cons : (x : Piece) (xs : List Piece) → pieces_width (x ∷ xs) ≡ piece_width x + pieces_width xs
unfolding pieces_width
pieces_width-cons x xs = sum_by-cons piece_width x xs

pub pieces_width-fill : (c k : ℕ) (color : Option Color) → IsNarrow c → pieces_width (fill c k color) ≡ k
unfolding pieces_width fill
pieces_width-fill c zero color h = refl
pieces_width-fill c (suc k) color h = rw h (zero-add (suc k * 1) ∙ mul-one (suc k))

-- the left share and the line leave the rest to the right
left_share-room : (style : Style) (text : Text) (w v : ℕ) → v ≤ widest style.formatting text → widest style.formatting text ≤ inner_width style w → left_share style text w v + v ≤ inner_width style w
unfolding left_share
left_share-room style text w v narrow room =
    elim style.formatting.allow_lines_alignment as (λ b. (shares style.across (cond b v (widest style.formatting text)) (inner_width style w)).0 + v ≤ inner_width style w) [
      | true ↦ omega (arith, left_share-le style.across v (inner_width style w))
      | false ↦ omega (arith, left_share-le style.across (widest style.formatting text) (inner_width style w))
    ]

by_cases : {A : Type 0} (P : A → Type 0) (b c : Bool) {x y z : A} → P x → (b ≡ false → c ≡ true → P y) → P z → P (cond b x (cond c y z))
by_cases P true c px py pz = px
by_cases P false true px py pz = py refl refl
by_cases P false false px py pz = pz

-- no more lines are shown than there are, and none where there is no room below the top padding
text_height-le : (style : Style) (text : Text) (h : ℕ) → (text_height style text h ≤ length (shown style.formatting text)) × (text_height style text h ≤ h)
unfolding text_height
text_height-le style text h = (omega arith, omega arith)

module _ (style : Style) (color : Option Color) (w : ℕ) (narrow : HasNarrowFills style) where
  line_with-width : (share : ℕ) (line : Text) → (style.padding.left.size + style.padding.right.size) ≤ w → share + width_of line ≤ inner_width style w → pieces_width (line_with style color w share line) ≡ w
  unfolding inner_width
  line_with-width share line pads room =
      let left = fill style.padding.left.fill style.padding.left.size style.padding_color.left in
      let before = fill style.justification share style.justification_color in
      let after = fill style.justification (w - (style.padding.left.size + style.padding.right.size) - share - width_of line) style.justification_color in
      let right = fill style.padding.right.fill style.padding.right.size style.padding_color.right in
      let rest : List Piece = words line color ∷ (after ++ right) in
      omega (
        arith,
        pieces_width-append left (before ++ rest),
        pieces_width-append before rest,
        pieces_width-cons (words line color) (after ++ right),
        pieces_width-append after right,
        pieces_width-fill style.padding.left.fill style.padding.left.size style.padding_color.left narrow.left,
        pieces_width-fill style.justification share style.justification_color narrow.justification,
        pieces_width-fill style.justification (w - (style.padding.left.size + style.padding.right.size) - share - width_of line) style.justification_color narrow.justification,
        pieces_width-fill style.padding.right.fill style.padding.right.size style.padding_color.right narrow.right,
        pads,
        room,
      )

  module _ (text : Text) (room : (style.padding.left.size + style.padding.right.size) + widest style.formatting text ≤ w) where
    text_line-width : (line : Text) → width_of line ≤ widest style.formatting text → pieces_width (text_line style color text w line) ≡ w
    unfolding text_line inner_width
    text_line-width line fits = line_with-width (left_share style text w (width_of line)) line (omega (arith, room)) (left_share-room style text w (width_of line) fits (omega (arith, room)))

  -- a line of the block: where there is a text line, the cell has room
  pub block_line-width : (text : Text) (h i : ℕ) → cell_fits style text w h ≡ true → pieces_width (block_line style color text w h i) ≡ w
  unfolding block_line
  block_line-width text h i fits =
      let top : ℕ = text_top style text h in
      let count : ℕ = text_height style text h in
      let shown_lines : List Text = shown style.formatting text in
      by_cases (λ pieces. pieces_width pieces ≡ w) (nat_lt i top) (nat_lt i (top + count))
      (pieces_width-fill style.padding.top.fill w style.padding_color.top narrow.top)
      (λ below above.
      let inside : i - top < count = grind (arith, nat_tests, below, above) in
      let few = text_height-le style text h in
      text_line-width text (cell_fits-width style text w h (omega (arith, inside, few.1)) fits) (slice_index_or shown_lines (i - top) []) (shown-le-widest style.formatting text (i - top) (omega (arith, inside, few.0))))
      (pieces_width-fill style.padding.bottom.fill w style.padding_color.bottom narrow.bottom)

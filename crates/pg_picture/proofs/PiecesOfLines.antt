-- The text of pieces: one character several times, fills, margins, and the pieces of a compact table.
use Rattle.std.proofs.Common.{◌≡◌, ℕ, zero, suc, ◌+◌, ◌-◌, ◌*◌, ◌<◌, ◌≤◌, List, [], ◌++◌, length, take, flat_map, replicate, sym, ◌∙◌, ap, subst, append-nil, length-append, zero-mul, suc-mul, add_comm, arith, refl, encode_utf8, ◌==◌, ◌&&◌, Bool, true, ◌∷◌, Option, Some, None, is_none, ap₂, lit<, ◌||◌, false, inl, inr, nat_lt, min, append_assoc, nat_le, if◌then◌else◌, option_map, unwrap_or, Bor}
use Rattle.std.specs.List.{slice_range}
use Rattle.std.specs.Str.{IsUtf8, IsCharBoundary}
use Rattle.std.specs.Char.{IsScalar}
use Rattle.std.proofs.lemmas.List.{replicate-append-replicate}
use Rattle.std.proofs.lemmas.List.Concat.{flat_map-append}
use Rattle.std.proofs.lemmas.Str.{IsUtf8-nil, IsUtf8-encode, IsUtf8-append, IsCharBoundary-at_seam}
use Rattle.std.proofs.Math.Seq.{take-append_seam}
use Rattle.pg_picture.specs.Pieces.{repeated, Style, Piece, fill, glyph_piece, written, piece_text, in_color, cut, shares}
use Rattle.pg_picture.proofs.Appending.{run-cut}
use Rattle.std.proofs.lemmas.Bool.{and_parts, false≢true, cases_Bool}
use Rattle.std.proofs.lemmas.Bool.Decides.{nat_tests}
use Rattle.pg_layout.specs.Colors.{Color, str_color, lent_color}
use Rattle.pg_picture.specs.CompactLines.{colored_glyph, Part, own_or, parts_after, compact_indent, compact_cell_of, part_if, main_part}
use Rattle.pg_picture.specs.Inside.{has_plain_sides, line_parts, is_blank_in, part_after, open_parts, open_color}
use Rattle.pg_layout.specs.declared.sides.Indent.{Indent}
use Rattle.pg_layout.specs.declared.sides.Offset.{Offset}
use Rattle.pg_layout.specs.declared.sides.Offset.TheVariants.{Start, End}
use Rattle.pg_picture.specs.Table.{Unknown, margin_line, is_blank_at, side_margin, side_margin_at}
use Rattle.pg_layout.specs.declared.alignment.AlignmentHorizontal.{AlignmentHorizontal}
use Rattle.pg_layout.specs.declared.colors.ANSIStr.{ANSIStr}
use Rattle.pg_layout.specs.declared.sides.Sides.{Sides}
use Rattle.pg_layout.specs.Text.{Text, first_line_of, width_of}
use Rattle.pg_config.specs.CompactConfig.{CompactSettings}

-- ---- the text of pieces: one character several times, fills, and the margins of a line

-- ---- one character several times: its parts, its length, and where its text may be cut

pub repeated-zero : (c : ℕ) → repeated c 0 ≡ []
unfolding repeated
repeated-zero c = refl

pub repeated-one : (c : ℕ) → repeated c 1 ≡ encode_utf8 c
unfolding repeated
repeated-one c = append-nil (encode_utf8 c)

pub repeated-suc : (c n : ℕ) → repeated c (suc n) ≡ encode_utf8 c ++ repeated c n
unfolding repeated
repeated-suc c n = refl

-- in two parts
pub repeated-add : (c : ℕ) {n : ℕ} (a b : ℕ) → n ≡ a + b → repeated c n ≡ repeated c a ++ repeated c b
unfolding repeated
repeated-add c a b all = ap (λ k. flat_map encode_utf8 (replicate k c)) all ∙ ap (λ x. flat_map encode_utf8 x) (sym (replicate-append-replicate a b c)) ∙ flat_map-append encode_utf8 (replicate a c) (replicate b c)

-- one more
pub repeated-more : (c n : ℕ) → repeated c (n + 1) ≡ repeated c n ++ encode_utf8 c
repeated-more c n = repeated-add c n 1 refl ∙ ap (λ x. repeated c n ++ x) (repeated-one c)

-- cut at one of the characters
pub repeated-cut : (c k n : ℕ) → k < n → repeated c n ≡ repeated c k ++ (encode_utf8 c ++ repeated c (n - (k + 1)))
unfolding repeated
repeated-cut c k n here = run-cut encode_utf8 c k n here

pub length-repeated : (c n : ℕ) → length (repeated c n) ≡ n * length (encode_utf8 c)
length-repeated c zero = ap length (repeated-zero c) ∙ sym (zero-mul (length (encode_utf8 c)))
length-repeated c (suc n) = ap length (repeated-suc c n) ∙ length-append (encode_utf8 c) (repeated c n) ∙ ap (λ k. length (encode_utf8 c) + k) (length-repeated c n) ∙ add_comm (length (encode_utf8 c)) (n * length (encode_utf8 c)) ∙ sym (suc-mul n (length (encode_utf8 c)))

pub IsUtf8-repeated : (c n : ℕ) → IsScalar c → IsUtf8 (repeated c n)
unfolding repeated
IsUtf8-repeated c zero scalar = IsUtf8-nil
IsUtf8-repeated c (suc n) scalar = IsUtf8-append (encode_utf8 c) (repeated c n) (IsUtf8-encode c scalar) (IsUtf8-repeated c n scalar)

-- a block of one character may be cut after each of its characters
pub repeated-boundary : (c n k : ℕ) (block : List ℕ) → IsScalar c → n ≤ k → block ≡ repeated c k → IsCharBoundary block (n * length (encode_utf8 c))
repeated-boundary c n k block scalar few is =
    let all : k ≡ n + (k - n) = omega arith in
    let P : ℕ → Type 0 = λ i. IsCharBoundary block i in
    subst P (length-repeated c n)
    (IsCharBoundary-at_seam block (repeated c n) (repeated c (k - n)) (is ∙ repeated-add c n (k - n) all) (IsUtf8-repeated c (k - n) scalar))

-- what stands in it before that place
pub repeated-front : (c n k : ℕ) (block : List ℕ) → n ≤ k → block ≡ repeated c k → slice_range block 0 (n * length (encode_utf8 c)) ≡ repeated c n
repeated-front c n k block few is =
    let all : k ≡ n + (k - n) = omega arith in
    let width : ℕ = n * length (encode_utf8 c) in
    let whole : width - 0 ≡ width = omega arith in
    ap (λ i. take i block) whole
    ∙ ap (λ i. take i block) (sym (length-repeated c n))
    ∙ ap (λ x. take (length (repeated c n)) x) (is ∙ repeated-add c n (k - n) all)
    ∙ take-append_seam (repeated c n) (repeated c (k - n))

-- the bytes of the glyph │
pub encode-vertical : (c : ℕ) → c ≡ 9474 → encode_utf8 c ≡ 226 ∷ 148 ∷ 130 ∷ []
unfolding lib.Utf8.encode
encode-vertical c is = ap encode_utf8 is

-- ---- the text of pieces: of a fill, of no pieces, of some and of one more

pub written-nil : written [] ≡ []
unfolding written
written-nil = refl

pub written-cons : (p : Piece) (ps : List Piece) → written (p ∷ ps) ≡ piece_text p ++ written ps
unfolding written
written-cons p ps = refl

pub written-append : (ps qs : List Piece) → written (ps ++ qs) ≡ written ps ++ written qs
unfolding written
written-append ps qs = flat_map-append piece_text ps qs

-- a fill of no size is no piece
pub written-fill_none : (c k : ℕ) (color : Option Color) → k ≡ 0 → written (fill c k color) ≡ []
unfolding written fill
written-fill_none c zero color h = refl
written-fill_none c (suc k) color h = absurd (omega arith)

pub written-fill : (c k : ℕ) (color : Option Color) → 0 < k → written (fill c k color) ≡ in_color color (repeated c k)
unfolding written fill
written-fill c zero color h = absurd (omega arith)
written-fill c (suc k) color h = append-nil (in_color color (repeated c (suc k)))

-- a fill with no colour is its characters
pub written-fill_plain : (c k : ℕ) → written (fill c k None) ≡ repeated c k
unfolding written fill
written-fill_plain c zero = sym (repeated-zero c)
written-fill_plain c (suc k) = append-nil (repeated c (suc k))

-- plain fills of one character, one behind the other, are one fill: a padding before what stands beside it, and behind it
pub fills-together : (c d a b : ℕ) {n : ℕ} {color other : Option Color} → c ≡ d → color ≡ None → other ≡ None → n ≡ a + b → repeated c n ≡ written (fill c a color) ++ written (fill d b other)
fills-together c d a b same plain beside all =
    repeated-add c a b all
    ∙ ap₂ (λ (x y : List ℕ). x ++ y) (sym (written-fill_plain c a)) (sym (written-fill_plain c b) ∙ ap (λ k. written (fill k b None)) same)
    ∙ ap₂ (λ (x y : Option Color). written (fill c a x) ++ written (fill d b y)) (sym plain) (sym beside)

pub fills-together-behind : (c d a b : ℕ) {n : ℕ} {color other : Option Color} → c ≡ d → color ≡ None → other ≡ None → n ≡ a + b → repeated c n ≡ written (fill d b other) ++ written (fill c a color)
fills-together-behind c d a b same plain beside all =
    repeated-add c b a (omega (arith, all))
    ∙ ap₂ (λ (x y : List ℕ). x ++ y) (sym (written-fill_plain c b) ∙ ap (λ k. written (fill k b None)) same) (sym (written-fill_plain c a))
    ∙ ap₂ (λ (x y : Option Color). written (fill d b x) ++ written (fill c a y)) (sym beside) (sym plain)

none-if : {A : Type 0} (o : Option A) → is_none o ≡ true → o ≡ None
none-if None none = refl
none-if (Some x) none = absurd (false≢true none)

-- a line between plain sides, in three parts
pub plain-line : (style : Style) (color : Option Color) (share rest : ℕ) (line : List ℕ) → has_plain_sides style ≡ true
    → repeated style.justification (style.padding.left.size + share) ++ (in_color color line ++ repeated style.justification (rest + style.padding.right.size)) ≡ line_parts style color share rest line
plain-line style color share rest line plain =
    let first : Bool = style.padding.left.fill == style.justification in
    let last : Bool = style.padding.right.fill == style.justification in
    let colors : Bool = is_none style.padding_color.left && is_none style.padding_color.right in
    let parts = and_parts (first && last) (colors && is_none style.justification_color) plain in
    let same = and_parts first last parts.0 in
    let alone = and_parts colors (is_none style.justification_color) parts.1 in
    let sides = and_parts (is_none style.padding_color.left) (is_none style.padding_color.right) alone.0 in
    let beside : style.justification_color ≡ None = none-if style.justification_color alone.1 in
    let left : style.padding.left.fill ≡ style.justification = grind (arith, nat_tests, same.0) in
    let right : style.padding.right.fill ≡ style.justification = grind (arith, nat_tests, same.1) in
    let before : repeated style.justification (style.padding.left.size + share) ≡ written (fill style.padding.left.fill style.padding.left.size style.padding_color.left) ++ written (fill style.justification share style.justification_color) =
    ap (λ c. repeated c (style.padding.left.size + share)) (sym left) ∙ fills-together style.padding.left.fill style.justification style.padding.left.size share left (none-if style.padding_color.left sides.0) beside refl in
    let after : repeated style.justification (rest + style.padding.right.size) ≡ written (fill style.justification rest style.justification_color) ++ written (fill style.padding.right.fill style.padding.right.size style.padding_color.right) =
    ap (λ c. repeated c (rest + style.padding.right.size)) (sym right) ∙ fills-together-behind style.padding.right.fill style.justification style.padding.right.size rest right (none-if style.padding_color.right sides.1) beside (omega arith) in
    ap₂ (λ (x y : List ℕ). x ++ (in_color color line ++ y)) before after

-- a glyph with its colour is one of its characters
pub written-glyph_piece : (g : Option ℕ) (color : Option Color) → written (glyph_piece g color) ≡ colored_glyph g color
written-glyph_piece None color = written-nil
written-glyph_piece (Some g) color = written-fill g 1 color (lit< tt)

pub ruleset fill_texts = (written-fill_none, written-fill)

-- ---- the texts of margins: a line of a top or bottom one, and a side margin

-- blanks, and then the fill
pub written-margin_start : (indent : Indent) {offset : Offset} {s blank : ℕ} (color : Option Color) (w : ℕ) → offset ≡ Start s → blank ≡ min s w
    → repeated 32 blank ++ written (fill indent.fill (w - blank) color) ≡ written (margin_line indent offset color w)
unfolding margin_line
written-margin_start indent {offset} {s} {blank} color w is few =
    rw (is, few)
    (ap (λ x. x ++ written (fill indent.fill (w - min s w) color)) (sym (written-fill_plain 32 (min s w)))
    ∙ sym (written-append (fill 32 (min s w) None) (fill indent.fill (w - min s w) color)))

-- the fill, and then blanks
pub written-margin_end : (indent : Indent) {offset : Offset} {e blank : ℕ} (color : Option Color) (w : ℕ) → offset ≡ End e → blank ≡ min e w
    → written (fill indent.fill (w - blank) color) ++ repeated 32 blank ≡ written (margin_line indent offset color w)
unfolding margin_line
written-margin_end indent {offset} {e} {blank} color w is few =
    rw (is, few)
    (ap (λ x. written (fill indent.fill (w - min e w) color) ++ x) (sym (written-fill_plain 32 (min e w)))
    ∙ sym (written-append (fill indent.fill (w - min e w) color) (fill 32 (min e w) None)))

-- a side margin where it is blank, and where it isn't
pub written-side_blank : (height : Option ℕ) (indent : Indent) (offset : Offset) (color : Option Color) (i : ℕ) → is_blank_in height offset i ≡ true
    → repeated 32 indent.size ≡ written (side_margin_at height indent offset color i)
unfolding side_margin
written-side_blank (Some h) indent offset color i blank = rw blank (sym (written-fill_plain 32 indent.size))
written-side_blank None indent offset color i blank = rw blank (sym (written-fill_plain 32 indent.size))

pub written-side_filled : (height : Option ℕ) (indent : Indent) (offset : Offset) (color : Option Color) (i : ℕ) → is_blank_in height offset i ≡ false
    → written (fill indent.fill indent.size color) ≡ written (side_margin_at height indent offset color i)
unfolding side_margin
written-side_filled (Some h) indent offset color i blank = rw blank refl
written-side_filled None indent offset color i blank = rw blank refl

-- one without columns
pub written-side_none : (height : Option ℕ) (indent : Indent) (offset : Offset) (color : Option Color) (i : ℕ) → indent.size ≡ 0
    → [] ≡ written (side_margin_at height indent offset color i)
unfolding repeated written fill
written-side_none height indent offset color i none =
    elim (cases_Bool (is_blank_in height offset i)) [
      | inl blank ↦ ap (λ n. repeated 32 n) (sym none) ∙ written-side_blank height indent offset color i blank
      | inr filled ↦ ap (λ n. written (fill indent.fill n color)) (sym none) ∙ written-side_filled height indent offset color i filled
    ]

-- neither side margin has columns
pub no_sides : (left right : ℕ) → (nat_lt 0 left || nat_lt 0 right) ≡ false → (left ≡ 0) × (right ≡ 0)
no_sides left right none =
    let l : left ≡ 0 = grind (arith, nat_tests, none) in
    let r : right ≡ 0 = grind (arith, nat_tests, none) in
    (l, r)

-- where the height isn't known, a side margin is the same for each height that has the line
pub side_margin-unknown : (indent : Indent) (offset : Offset) (color : Option Color) (i h : ℕ) → i < h
    → side_margin_at None indent offset color i ≡ side_margin Unknown indent offset color i h
unfolding side_margin is_blank_at
side_margin-unknown indent (Start s) color i h here =
    let same : nat_lt i (min s (i + 1)) ≡ nat_lt i (min s h) = grind (arith, nat_tests) in
    rw same refl
side_margin-unknown indent (End e) color i h here = refl

-- ---- the texts of a compact table's pieces: indents, glyphs, cells, and the parts of a separator with the cuts between them

-- ---- the parts of a compact separator with the cuts between them: some more, and the end of their line

pub open_parts-append : (c : Option Color) (parts more : List Part) → open_parts c (parts ++ more) ≡ open_parts c parts ++ open_parts (open_color c parts) more
unfolding open_parts open_color
open_parts-append c [] more = refl
open_parts-append c (part ∷ parts) more =
    ap (λ t. part_after c part ++ t) (open_parts-append (own_or part.2 c) parts more)
    ∙ sym (append_assoc (part_after c part) (open_parts (own_or part.2 c) parts) (open_parts (open_color (own_or part.2 c) parts) more))

pub open_color-append : (c : Option Color) (parts more : List Part) → open_color c (parts ++ more) ≡ open_color (open_color c parts) more
unfolding open_color
open_color-append c [] more = refl
open_color-append c (part ∷ parts) more = open_color-append (own_or part.2 c) parts more

pub open_parts-one : (c : Option Color) (part : Part) → open_parts c (part ∷ []) ≡ part_after c part
unfolding open_parts
open_parts-one c part = append-nil (part_after c part)

pub open_color-one : (c : Option Color) (part : Part) → open_color c (part ∷ []) ≡ own_or part.2 c
unfolding open_color
open_color-one c part = refl

-- the last cut closes what the parts left open
pub parts_after-close : (c : Option Color) (parts : List Part) → parts_after c parts ≡ open_parts c parts ++ cut (open_color c parts) None
unfolding parts_after open_parts open_color
parts_after-close c [] = refl
parts_after-close c (part ∷ parts) =
    ap (λ t. part_after c part ++ t) (parts_after-close (own_or part.2 c) parts)
    ∙ sym (append_assoc (part_after c part) (open_parts (own_or part.2 c) parts) (cut (open_color (own_or part.2 c) parts) None))

-- ---- the texts of a compact table's pieces: indents, glyphs, cells, and the parts of a separator

-- an empty colour is none
pub indent-plain : (c k : ℕ) (color : Color) → ((length color.prefix == 0) && (length color.suffix == 0)) ≡ true → repeated c k ≡ compact_indent c k color
unfolding compact_indent
indent-plain c k color none = rw none refl

pub indent-colored : (c k : ℕ) (color : Color) → ((length color.prefix == 0) && (length color.suffix == 0)) ≡ false → in_color (Some color) (repeated c k) ≡ compact_indent c k color
unfolding compact_indent
indent-colored c k color some = rw some refl

-- a colour that is lent is the colour
pub lent-color : (lent : Option (Bor ANSIStr)) {color : Option ANSIStr} → option_map (λ x. x.now) lent ≡ color → lent_color str_color lent ≡ option_map str_color color
lent-color lent is = through lent ∙ ap (λ o. option_map str_color o) is
  where
    through : (lent : Option (Bor ANSIStr)) → lent_color str_color lent ≡ option_map str_color (option_map (λ x. x.now) lent)
    through None = refl
    through (Some c) = refl

-- a cell as its left side, its line and its right side
pub cell-text : (config : CompactSettings) (w : ℕ) (color : Option Color) (text line : Text) (padding : Sides Indent) (colors : Sides Color) (alignment : AlignmentHorizontal) (got room : ℕ) (share : ℕ × ℕ)
    → share ≡ (if nat_le got room then shares alignment got room else (0, 0)) → room ≡ w - (padding.left.size + padding.right.size) → got ≡ width_of line → line ≡ first_line_of text
    → padding ≡ config.padding → colors ≡ config.padding_color → alignment ≡ config.alignment
    → (compact_indent padding.left.fill padding.left.size colors.left ++ repeated 32 share.0) ++ (in_color color line ++ (repeated 32 share.1 ++ compact_indent padding.right.fill padding.right.size colors.right))
    ≡ compact_cell_of config w color text
unfolding compact_cell_of
cell-text config w color text line padding colors alignment got room share shared roomy wide first pads coloured aligned =
    rw (shared, roomy, wide, first, pads, coloured, aligned) refl

-- ---- parts of a separator

module _ (c : Option Color) where
  -- no part appends nothing and keeps the colour
  pub no_parts-text : {ps : List Part} → ps ≡ [] → [] ≡ open_parts c ps
  unfolding open_parts
  no_parts-text none = rw none refl

  pub no_parts-color : {ps : List Part} → ps ≡ [] → c ≡ open_color c ps
  unfolding open_color
  no_parts-color none = rw none refl

  pub one_part-text : {ps : List Part} (p : Part) → ps ≡ p ∷ [] → part_after c p ≡ open_parts c ps
  one_part-text p one = sym (ap (λ ps. open_parts c ps) one ∙ open_parts-one c p)

  pub one_part-color : {ps : List Part} (p : Part) → ps ≡ p ∷ [] → own_or p.2 c ≡ open_color c ps
  one_part-color p one = sym (ap (λ ps. open_color c ps) one ∙ open_color-one c p)

pub part_if-none : {g : Option ℕ} (color : Option Color) → g ≡ None → part_if g color ≡ []
part_if-none color none = rw none refl

pub part_if-some : {g : Option ℕ} (x : ℕ) (color : Option Color) → g ≡ Some x → part_if g color ≡ (x, 1, color) ∷ []
part_if-some x color some = rw some refl

-- a column of no width has no main part
pub main_part-none : (g : Option ℕ) (color : Option Color) (w : ℕ) → w ≡ 0 → main_part g color w ≡ []
unfolding main_part
main_part-none g color zero none = refl
main_part-none g color (suc w) none = absurd (omega (arith, none))

pub main_part-some : (g : Option ℕ) (color : Option Color) (w : ℕ) → 0 < w → main_part g color w ≡ (unwrap_or g 32, w, color) ∷ []
unfolding main_part
main_part-some g color zero some = absurd (omega (arith, some))
main_part-some g color (suc w) some = refl

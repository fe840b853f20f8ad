-- Numbers whose points are below one another: spaces behind them look like padding.
use Rattle.std.proofs.Common.{ap, ap₂, ◌≡◌, ◌+◌, ◌-◌, ◌<◌, ◌^◌, ℕ, suc, zero, true, false, Bool, cond, min, max, List, [], ◌∷◌, ◌++◌, chars, codes, length, map, refl, sym, ◌∙◌, arith}
use Rattle.std.proofs.Common.{append_assoc, count_by, get_or, nat_lt, nat_le, None, zero-add, ◌&&◌, ◌||◌, ◌==◌}
use Rattle.std.specs.List.{after_first, list_all, range_with_len, repeat}
use Rattle.std.specs.Str.{IsUtf8}
use Rattle.std.proofs.Math.Utf8.{encode}
use Rattle.std.proofs.lemmas.Bool.Decides.{nat_tests}
use Rattle.std.proofs.lemmas.Grind.{common_steps}
use Rattle.pg_layout.specs.Text.{Text, greatest, is_plain_byte, lines_of, width_of, without_blank_ends}
use Rattle.pg_layout.proofs.TextLines.{feed_place, feed_place-le-length, is_feed, length-lines_of, lines_of-first, lines_of-one, width_of-plain}
use Rattle.pg_layout.specs.declared.alignment.AlignmentHorizontal.TheVariants.{Right}
use Rattle.pg_config.specs.Cells.{Style}
use Rattle.pg_fit.specs.Controls.{is_printable}
use Rattle.pg_fit.proofs.LawsOfControls.{printable_texts_add_up, simple-behind, simple-characters}
use Rattle.pg_picture.specs.Fits.{cell_fits}
use Rattle.pg_picture.specs.Pieces.{Piece, words, block_line, fill, inner_width, kept_lines, left_share, line_with, lines_above, repeated, shares, shown}
use Rattle.pg_picture.specs.Pieces.{text_height, text_line, text_top, trimmed_if, widest, written}
use Rattle.pg_picture.proofs.PiecesOfLines.{repeated-add, repeated-suc, repeated-zero, written-append, written-cons, written-fill_plain}
use Rattle.pg_table.specs.Numbers.{lacking, own_extent}
use Rattle.ruled_table.specs.Sides.{IsAtRight, RestsAgree, SpacesArePadding, SpacesTakeAsMuchRoom, widened_style}

-- ---- the longest rest of a column

-- a list is what it has at its places
by-places : (f : List Text → ℕ) (a : ℕ) (rows : List (List Text)) (g : ℕ → List Text) → ((i : ℕ) → i < length rows → g (a + i) ≡ get_or rows i [])
    → map f rows ≡ map (λ r. f (g r)) (range_with_len a (length rows))
by-places f a [] g h = refl
by-places f a (row ∷ rows) g h =
    let now : row ≡ g a = sym (h 0 (omega arith)) ∙ ap g (let e : a + 0 ≡ a = omega arith in e) in
    ap₂ (λ n ns. n ∷ ns) (ap f now) (by-places f (a + 1) rows g (λ i l. ap g (let e : (a + 1) + i ≡ a + suc i = omega arith in e) ∙ h (suc i) (omega (arith, l))))

pub rests_agree : RestsAgree
rests_agree rows column =
    ap greatest (by-places (λ row. (own_extent (get_or row column [])).rest) 0 rows (λ r. get_or rows r []) (λ i here. ap (λ r. get_or rows r []) (zero-add i))
    ∙ ap (λ n. map (λ r. (own_extent (get_or (get_or rows r []) column [])).rest) (range_with_len 0 n)) (let e : length rows ≡ length rows - 0 = omega arith in e))

-- ---- spaces

spaces-repeated : (n : ℕ) → repeat n (codes " ") ≡ repeated 32 n
unfolding encode
spaces-repeated zero = sym (repeated-zero 32)
spaces-repeated (suc n) = ap (λ z. 32 ∷ z) (spaces-repeated n) ∙ sym (repeated-suc 32 n)

all-spaces : (p : ℕ → Bool) (n : ℕ) → p 32 ≡ true → list_all p (repeat n (codes " ")) ≡ true
all-spaces p zero h = refl
all-spaces p (suc n) h = ap (λ v. v && list_all p (repeat n (codes " "))) h ∙ all-spaces p n h

length-spaces : (n : ℕ) → length (repeat n (codes " ")) ≡ n
length-spaces zero = refl
length-spaces (suc n) = ap suc (length-spaces n)

width-spaced : (text : Text) (n : ℕ) → IsUtf8 text → width_of (text ++ repeat n (codes " ")) ≡ width_of text + n
width-spaced text n utf8 =
    let spaces : Text = repeat n (codes " ") in
    simple-behind text spaces utf8 (simple-characters (chars spaces) (printable_texts_add_up spaces (all-spaces is_printable n refl)))
    ∙ ap (λ k. width_of text + k) (width_of-plain spaces (all-spaces is_plain_byte n refl) ∙ length-spaces n)

feeds-spaced : (text : Text) (n : ℕ) → count_by is_feed (text ++ repeat n (codes " ")) ≡ count_by is_feed text
feeds-spaced [] zero = refl
feeds-spaced [] (suc n) = feeds-spaced [] n
feeds-spaced (b ∷ bs) n = let more = feeds-spaced bs n in grind (arith, common_steps, more)

one-line : (text : Text) → count_by is_feed text ≡ 0 → lines_of text ≡ text ∷ []
one-line text none =
    elim (nat_lt (feed_place text) (length text)) as (λ v. nat_lt (feed_place text) (length text) ≡ v → lines_of text ≡ text ∷ []) [
      | true ↦ λ is.
          let within : feed_place text < length text = grind (arith, nat_tests) in
          absurd (omega (arith, length-lines_of text, ap length (lines_of-first text within), length-lines_of (after_first is_feed text), none))
      | false ↦ λ is. lines_of-one text (let most = feed_place-le-length text in grind (arith, nat_tests))
    ] refl

one-spaced : (text : Text) (n : ℕ) → lines_of text ≡ text ∷ [] → lines_of (text ++ repeat n (codes " ")) ≡ (text ++ repeat n (codes " ")) ∷ []
one-spaced text n one = one-line (text ++ repeat n (codes " ")) (feeds-spaced text n ∙ (let e : count_by is_feed text ≡ 0 = omega (arith, length-lines_of text, ap length one) in e))

-- ---- a line

module _ (style : Style) where
  -- what is left of a text
  before : ℕ → List Piece
  before share = fill style.padding.left.fill style.padding.left.size style.padding_color.left ++ fill style.justification share style.justification_color

  shown-one : (text : Text) → style.formatting.horizontal_trim ≡ false → style.formatting.vertical_trim ≡ false → lines_of text ≡ text ∷ [] → shown style.formatting text ≡ text ∷ []
  unfolding shown kept_lines trimmed_if
  shown-one text whole all one =
      ap (λ lines. map (trimmed_if style.formatting.horizontal_trim) lines) (ap (λ v. cond v (without_blank_ends (lines_of text)) (lines_of text)) all ∙ one) ∙ ap (λ v. trimmed_if v text ∷ []) whole

  widest-one : (text : Text) → style.formatting.horizontal_trim ≡ false → lines_of text ≡ text ∷ [] → widest style.formatting text ≡ width_of text
  unfolding widest trimmed_if
  widest-one text whole one =
      ap (λ lines. greatest (map (λ line. width_of (trimmed_if style.formatting.horizontal_trim line)) lines)) one
      ∙ ap (λ v. greatest (width_of (trimmed_if v text) ∷ [])) whole
      ∙ (let e : max (width_of text) 0 ≡ width_of text = omega arith in e)

  share-right : (text : Text) (w : ℕ) → style.across ≡ Right → widest style.formatting text ≡ width_of text → left_share style text w (width_of text) ≡ inner_width style w - width_of text
  unfolding left_share shares
  share-right text w right only =
      ap (λ a. (shares a (cond style.formatting.allow_lines_alignment (width_of text) (widest style.formatting text)) (inner_width style w)).0) right
      ∙ ap (λ n. inner_width style w - n) (elim style.formatting.allow_lines_alignment as (λ v. cond v (width_of text) (widest style.formatting text) ≡ width_of text) [ true ↦ refl | false ↦ only ])

  -- a line at the right, with nothing between the text and the spaces behind it
  line-right : (w share n : ℕ) (text : Text) → style.padding.right.fill ≡ 32 → style.padding_color.right ≡ None → left_share style text w (width_of text) ≡ share
      → inner_width style w - share - width_of text ≡ 0 → style.padding.right.size ≡ n
      → written (text_line style None text w text)
      ≡ written (fill style.padding.left.fill style.padding.left.size style.padding_color.left) ++ (written (fill style.justification share style.justification_color) ++ (text ++ repeated 32 n))
  unfolding text_line fill
  line-right w share n text blank plain left full size =
      let margin : List Piece = fill style.padding.left.fill style.padding.left.size style.padding_color.left in
      ap (λ k. written (line_with style None w k text)) left
      ∙ ap (λ k. written (margin ++ (fill style.justification share style.justification_color ++ (words text None ∷ (fill style.justification k style.justification_color
      ++ fill style.padding.right.fill style.padding.right.size style.padding_color.right))))) full
      ∙ ap (λ f. written (margin ++ (fill style.justification share style.justification_color ++ (words text None ∷ fill f style.padding.right.size style.padding_color.right)))) blank
      ∙ ap (λ color. written (margin ++ (fill style.justification share style.justification_color ++ (words text None ∷ fill 32 style.padding.right.size color)))) plain
      ∙ ap (λ k. written (margin ++ (fill style.justification share style.justification_color ++ (words text None ∷ fill 32 k None)))) size
      ∙ written-append margin _
      ∙ ap (λ z. written margin ++ z) (written-append (fill style.justification share style.justification_color) _
      ∙ ap (λ z. written (fill style.justification share style.justification_color) ++ z) (written-cons (words text None) (fill 32 n None) ∙ ap (λ z. text ++ z) (written-fill_plain 32 n)))

-- spaces behind a text go on in those of the padding
spaces-go-on : (text : Text) (k n : ℕ) → (text ++ repeat k (codes " ")) ++ repeated 32 n ≡ text ++ repeated 32 (n + k)
spaces-go-on text k n =
    append_assoc text (repeat k (codes " ")) (repeated 32 n)
    ∙ ap (λ z. text ++ (z ++ repeated 32 n)) (spaces-repeated k)
    ∙ ap (λ z. text ++ z) (sym (repeated-add 32 k n (omega arith)))

-- ---- a cell

module _ (style : Style) (k w : ℕ) (text : Text) (has : IsAtRight style text) (small : style.padding.right.size + k < 2 ^ 64) where
  spaced : Text
  spaced = text ++ repeat k (codes " ")

  wide : Style
  wide = widened_style k style

  size : wide.padding.right.size ≡ style.padding.right.size + k
  unfolding wide
  size = omega (arith, small)

  widest-spaced : widest style.formatting spaced ≡ width_of spaced
  unfolding spaced
  widest-spaced = widest-one style spaced has.trimmed (one-spaced text k has.line)

  same-line : written (text_line style None spaced w spaced) ≡ written (text_line wide None text w text)
  unfolding spaced wide inner_width
  same-line =
      let more : width_of spaced ≡ width_of text + k = width-spaced text k has.utf8 in
      let share : ℕ = inner_width style w - width_of spaced in
      let right = share-right wide text w has.across (widest-one wide text has.trimmed has.line) in
      line-right style w share style.padding.right.size spaced has.fill has.color (share-right style spaced w has.across widest-spaced) (omega arith) refl
      ∙ ap (λ z. written (fill style.padding.left.fill style.padding.left.size style.padding_color.left) ++ (written (fill style.justification share style.justification_color) ++ z))
      (spaces-go-on text k style.padding.right.size)
      ∙ sym (line-right wide w share (style.padding.right.size + k) text has.fill has.color (right ∙ omega (arith, size, more)) (omega (arith, size, more)) size)

  -- a line of a cell whose text has these lines
  line-of : Style → Text → List Text → ℕ → ℕ → List Piece
  line-of s t lines h i =
      let n : ℕ = min (length lines) (h - style.padding.top.size) in
      let top : ℕ = style.padding.top.size + lines_above style.down (h - style.padding.top.size) n in
      cond (nat_lt i top) (fill style.padding.top.fill w style.padding_color.top)
      (cond (nat_lt i (top + n)) (text_line s None t w (get_or lines (i - top) [])) (fill style.padding.bottom.fill w style.padding_color.bottom))

  spaced-lines : (h i : ℕ) → block_line style None spaced w h i ≡ line-of style spaced (spaced ∷ []) h i
  unfolding line-of spaced block_line text_top text_height
  spaced-lines h i = ap (λ lines. line-of style spaced lines h i) (shown-one style spaced has.trimmed has.shortened (one-spaced text k has.line))

  wide-lines : (h i : ℕ) → block_line wide None text w h i ≡ line-of wide text (text ∷ []) h i
  unfolding line-of wide block_line text_top text_height
  wide-lines h i = ap (λ lines. line-of wide text lines h i) (shown-one wide text has.trimmed has.shortened has.line)

  same-lines : (h i : ℕ) → written (line-of style spaced (spaced ∷ []) h i) ≡ written (line-of wide text (text ∷ []) h i)
  unfolding line-of
  same-lines h i =
      let n : ℕ = min 1 (h - style.padding.top.size) in
      let top : ℕ = style.padding.top.size + lines_above style.down (h - style.padding.top.size) n in
      let below : List Piece = fill style.padding.bottom.fill w style.padding_color.bottom in
      let here : List Piece = text_line style None spaced w (get_or (spaced ∷ []) (i - top) []) in
      let there : List Piece = text_line wide None text w (get_or (text ∷ []) (i - top) []) in
      elim (nat_lt i top) as (λ v. nat_lt i top ≡ v → written (cond v (fill style.padding.top.fill w style.padding_color.top) (cond (nat_lt i (top + n)) here below))
      ≡ written (cond v (fill style.padding.top.fill w style.padding_color.top) (cond (nat_lt i (top + n)) there below))) [
        | true ↦ λ is. refl
        | false ↦ λ past. elim (nat_lt i (top + n)) as (λ v. nat_lt i (top + n) ≡ v → written (cond v here below) ≡ written (cond v there below)) [
          | true ↦ λ within.
              let first : i - top ≡ 0 = grind (arith, nat_tests) in
              ap (λ m. written (text_line style None spaced w (get_or (spaced ∷ []) m []))) first ∙ same-line ∙ sym (ap (λ m. written (text_line wide None text w (get_or (text ∷ []) m []))) first)
          | false ↦ λ is. refl
        ] refl
      ] refl

  same-room : (h : ℕ) → cell_fits style spaced w h ≡ cell_fits wide text w h
  unfolding cell_fits spaced wide
  same-room h =
      let only = widest-one wide text has.trimmed has.line in
      let more : width_of spaced ≡ width_of text + k = width-spaced text k has.utf8 in
      ap (λ n. (h == 0) || (nat_le n w && nat_le style.padding.top.size h)) (omega (arith, widest-spaced, only, more, size))

pub spaces_are_padding : SpacesArePadding
unfolding spaced wide
spaces_are_padding style rest w h i text has small =
    let k : ℕ = lacking rest text in
    ap written (spaced-lines style k w text has small h i) ∙ same-lines style k w text has small h i ∙ sym (ap written (wide-lines style k w text has small h i))

pub spaces_take_as_much_room : SpacesTakeAsMuchRoom
unfolding spaced wide
spaces_take_as_much_room style rest w h text has small = same-room style (lacking rest text) w text has small h

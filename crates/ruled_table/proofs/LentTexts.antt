-- Rows whose texts are fields of records, with names, sizes and escapes, those that are shown, how many columns fit in a line, records of plain ASCII, and how many columns a text takes at most.
use Rattle.std.proofs.Common.{◌≡◌, ◌≢◌, ◌<◌, ◌≤◌, ◌∙◌, ◌∷◌, ℕ, zero, suc, Bool, true, false, List, Option, [], map, length, slice_index_or, All, encode_utf8_all, flat_map, refl, sym, ap, arith, ap₂, Some, None, ◌==◌, ◌||◌, ◌++◌, not, chars, encode_utf8, IsUtf8, ◌+◌, ◌-◌, ◌/◌, max, take, drop, get_or, append_assoc, nat_lt, slice_index, sum_by, zero-add, inl, inr, cond, length-append, nat_eq, ◌&&◌}
use Rattle.std.proofs.lemmas.List.{length-map, drop-map, drop_more, map-append, take-map, take-take, take_more}
use Rattle.std.proofs.lemmas.List.Elements.{All-map}
use Rattle.std.proofs.Math.Utf8.{encode}
use Rattle.std.proofs.lemmas.Str.{chars-encodes, chars-nil, encodes-chars, chars-IsAscii, IsUtf8-from_ascii, length-encode, len_utf8_bounds}
use Rattle.std.specs.Prelude.{if◌then◌else◌, is_some, option_map, slice_get, nat_le}
use Rattle.csv.specs.Records.{Row, fields_of, field_at, cut_from}
use Rattle.pg_layout.specs.Records.{columns_of}
use Rattle.pg_layout.specs.Colors.{Color}
use Rattle.pg_layout.specs.Text.{Text, is_plain_byte, lines_of, text_width_of, greatest, width_of}
use Rattle.pg_layout.specs.declared.position.Position.{Position}
use Rattle.pg_config.specs.Config.{Config}
use Rattle.pg_fit.specs.Controls.{sign_of, visible_text, is_control, is_letter, letters_width}
use Rattle.ruled_table.specs.View.{block_fault, block_of, names_in, places_in, record_block, record_fault, HasNames}
use Rattle.ruled_table.specs.Columns.{drawn_at, ellipsis, fields_at, texts_at, pairs_of}
use Rattle.ruled_table.specs.Layouts.{abridged, fitting, line_of, turn, Plan}
use Rattle.ruled_table.specs.Shown.{color_beside, color_of, tint_of, escape_of, escaped_text, is_plain, seen_text, shown_row, shown_text, look_config}
use Rattle.ruled_table.specs.declared.options.Options.{Options}
use Rattle.ruled_table.specs.declared.blocks.Blocks.{Blocks}
use Rattle.std.proofs.lemmas.Option.{same_Some, none-some}
use Rattle.std.specs.List.{list_all, range_with_len, fold, zip, join_with_byte, position, position_or_len}
use Rattle.std.proofs.lemmas.Bool.{and_parts, true≢false, and_from, cases_Bool, cases_lt}
use Rattle.std.proofs.lemmas.List.FromFn.{map-range_with_len_more, get_or-range_with_len, length-range_with_len}
use Rattle.ruled_table.specs.Arranged.{both_ends, gap_of, last_of}
use Rattle.std.proofs.lemmas.List.Sums.{fold-append, position_or_len_is, sum_by-append, sum_by-cons}
use Rattle.pg_layout.specs.declared.alignment.AlignmentHorizontal.{AlignmentHorizontal}
use Rattle.pg_config.specs.Settings.{Settings}
use Rattle.ruled_table.specs.Sides.{body_of, with_side, with_sides, pointed_row}
use Rattle.std.proofs.lemmas.Bool.Decides.{nat_tests}
use Rattle.std.specs.Str.{IsAscii}
use Rattle.pg_layout.proofs.TextLines.{feed_place-plain, lines_of-one, text_width_of-plain}
use Rattle.pg_fit.specs.Rows.{row_height}
use Rattle.pg_fit.proofs.LawsOfControls.{letters_are_seen, visible_texts_stay}
use Rattle.pg_table.specs.declared.overflow.Overflow.{Overflow}
use Rattle.ruled_table.specs.Widths.{row_within, text_within}
use Rattle.std.proofs.lemmas.List.Folds.{list_all-map}
use Rattle.std.proofs.lemmas.List.Concat.{flat_map-cons}
use Rattle.std.proofs.lemmas.List.Splits.{join_with_byte-slice_split}
use Rattle.unicode_segmentation.specs.Grapheme.{graphemes, is_grapheme_break}
use Rattle.unicode_segmentation.proofs.SegmentsLemmas.{length-segments}
use Rattle.pg_fit.specs.declared.wrapping.Breaking.{Breaking}
use Rattle.pg_fit.specs.declared.wrapping.Breaking.TheVariants.{Anywhere, BetweenWords}
use Rattle.pg_fit.specs.Wrapping.{Piece, fits as fits_in, takes, filled, characters, words, indented, parted, pieces, wrapped_line, wrapped, before_words}
use Rattle.pg_fit.proofs.LawsOfTexts.{EachLine, EachTexts, lines_of-lines, lines_stand, words-texts, indented-texts}
use Rattle.std.specs.Char.{len_utf8, is_ascii_alphabetic}
use Rattle.std.specs.Io.BufRead.{ends_with_byte, strip_last}
use Rattle.pg_table.specs.Numbers.{are_digits, is_decimal, is_decimal_by, is_digit, is_figure, is_number, is_scaled, is_scaled_by, is_whole, unsigned}
use Rattle.unicode_width.specs.Kind.{kind}
use Rattle.unicode_width.specs.Width.{Reading, alone, before_alef, if_kept, in_context, joined_or, joins, of_kind, past_emoji, past_selectors, plain, read_before, step, str_width}
use Rattle.unicode_width.specs.declared.kind.Kind.{Kind}
use Rattle.unicode_width.specs.declared.kind.Kind.TheVariants as kinds
use Rattle.unicode_width.specs.declared.state.After.{After}
use Rattle.unicode_width.specs.declared.state.After.TheVariants as after
use Rattle.unicode_width.specs.declared.state.State.{State}

-- ---- rows whose texts are fields of records, with names, sizes and escapes

-- ---- rows whose texts are fields of records

-- ---- rows of one length

-- where there is a row, there are as many columns as places
pub columns-some : (places : List (Option ℕ)) (records : List Row) → 0 < length records → columns_of (map (λ fields. fields_at places (fields_of fields)) records) ≡ length places
columns-some places [] some = absurd (omega (arith, some))
columns-some places (row ∷ rows) some = length-map places _

pub even-lent : (places : List (Option ℕ)) (records : List Row) → All (λ row. length row ≡ columns_of (map (λ fields. fields_at places (fields_of fields)) records)) (map (λ fields. fields_at places (fields_of fields)) records)
even-lent places [] = λ k d h. absurd (omega (arith, h))
even-lent places (row ∷ rows) =
    let n : ℕ = length (fields_at places (fields_of row)) in
    All-map (λ (texts : List Text). length texts ≡ n) (λ fields. fields_at places (fields_of fields)) (row ∷ rows) (λ k d h. length-map places _ ∙ sym (length-map places _))

-- ---- records field by field

module _ (names texts : List Text) where
  abbrev pairs : List (Option ℕ) → List (List Text)
  pairs places = pairs_of (fields_at places names) (fields_at places texts)

  pub pairs-count : (places : List (Option ℕ)) → length (pairs places) ≡ length places
  pairs-count [] = refl
  pairs-count (place ∷ places) = omega (arith, pairs-count places)

  pub pairs-columns : (places : List (Option ℕ)) → 0 < length places → columns_of (pairs places) ≡ 2
  pairs-columns [] some = absurd (omega (arith, some))
  pairs-columns (place ∷ places) some = refl

  pub pairs-even : (places : List (Option ℕ)) → All (λ row. length row ≡ 2) (pairs places)
  pairs-even places = All-map (λ (row : List Text). length row ≡ 2) (λ pair. pair.0 ∷ pair.1 ∷ []) (zip (fields_at places names) (fields_at places texts)) (λ k d h. refl)

  pair-at : (places : List (Option ℕ)) (row : ℕ) → row < length (pairs places)
      → slice_index_or (pairs places) row [] ≡ slice_index_or (fields_at places names) row [] ∷ slice_index_or (fields_at places texts) row [] ∷ []
  pair-at [] row within = absurd (omega (arith, within))
  pair-at (place ∷ places) zero within = refl
  pair-at (place ∷ places) (suc row) within = pair-at places row (omega (arith, within))

  -- its name, and the text beside it
  pub name-at : (places : List (Option ℕ)) (row column : ℕ) → row < length (pairs places) → column ≡ 0
      → slice_index_or (fields_at places names) row [] ≡ slice_index_or (slice_index_or (pairs places) row []) column []
  name-at places row column within is = rw (is, pair-at places row within) refl

  pub beside-at : (places : List (Option ℕ)) (row column : ℕ) → row < length (pairs places) → column < columns_of (pairs places) → column ≢ 0
      → slice_index_or (fields_at places texts) row [] ≡ slice_index_or (slice_index_or (pairs places) row []) column []
  beside-at places row column within inside other =
      let some : 0 < length places = omega (arith, pairs-count places, within) in
      let is : column ≡ 1 = omega (arith, pairs-columns places some, inside, other) in
      rw (is, pair-at places row within) refl

-- ---- texts that are shown

visible-none : visible_text [] ≡ []
unfolding visible_text
visible-none = ap (λ (cs : List ℕ). encode_utf8_all (map sign_of cs)) chars-nil

escaped-none : escaped_text [] ≡ []
unfolding escaped_text
escaped-none = ap (flat_map escape_of) chars-nil

none-shown : (is_markdown is_raw : Bool) → (if is_markdown then escaped_text (seen_text is_raw []) else seen_text is_raw []) ≡ []
none-shown true true = escaped-none
none-shown true false = ap escaped_text visible-none ∙ escaped-none
none-shown false true = refl
none-shown false false = visible-none

-- a `…` is shown as it is
ellipsis-chars : chars ellipsis ≡ 8230 ∷ []
unfolding encode
ellipsis-chars = chars-encodes (8230 ∷ []) refl

visible-ellipsis : visible_text ellipsis ≡ ellipsis
unfolding visible_text encode
visible-ellipsis = ap (λ (cs : List ℕ). encode_utf8_all (map sign_of cs)) ellipsis-chars

escaped-ellipsis : escaped_text ellipsis ≡ ellipsis
unfolding escaped_text encode
escaped-ellipsis = ap (flat_map escape_of) ellipsis-chars

ellipsis-shown : (is_markdown is_raw : Bool) → (if is_markdown then escaped_text (seen_text is_raw ellipsis) else seen_text is_raw ellipsis) ≡ ellipsis
ellipsis-shown true true = escaped-ellipsis
ellipsis-shown true false = ap escaped_text visible-ellipsis ∙ escaped-ellipsis
ellipsis-shown false true = refl
ellipsis-shown false false = visible-ellipsis

-- a field that isn't there is shown as an empty one
field-shown : (options : Options) (row : List Text) (place : ℕ) → slice_index_or (map (shown_text options) row) place [] ≡ shown_text options (slice_index_or row place [])
field-shown options [] zero = sym (none-shown options.is_markdown options.is_raw)
field-shown options [] (suc place) = sym (none-shown options.is_markdown options.is_raw)
field-shown options (x ∷ xs) zero = refl
field-shown options (x ∷ xs) (suc place) = field-shown options xs place

drawn-shown : (options : Options) (row : List Text) (place : Option ℕ) → drawn_at (map (shown_text options) row) place ≡ shown_text options (drawn_at row place)
drawn-shown options row (Some place) = field-shown options row place
drawn-shown options row None = sym (ellipsis-shown options.is_markdown options.is_raw)

pub row-shown : (options : Options) (row : List Text) (places : List (Option ℕ)) → fields_at places (map (shown_text options) row) ≡ shown_row options places row
row-shown options row [] = refl
row-shown options row (place ∷ places) =
    ap (λ (t : Text). t ∷ fields_at places (map (shown_text options) row)) (drawn-shown options row place)
    ∙ ap (λ (ts : List Text). shown_text options (drawn_at row place) ∷ ts) (row-shown options row places)

pub rows-shown : (options : Options) (places : List (Option ℕ)) (rows : List (List Text)) → map (fields_at places) (map (map (shown_text options)) rows) ≡ map (shown_row options places) rows
rows-shown options places [] = refl
rows-shown options places (row ∷ rows) =
    ap (λ (ts : List Text). ts ∷ map (fields_at places) (map (map (shown_text options)) rows)) (row-shown options row places)
    ∙ ap (λ (xs : List (List Text)). shown_row options places row ∷ xs) (rows-shown options places rows)

-- ---- the blocks of records whose fields have names

module _ (options : Options) (rows : List (List Text)) (blocks : Blocks) (has : HasNames options rows blocks) (places : List (Option ℕ)) (at : places ≡ blocks.places.items) (fields row : List Text) (shown : fields ≡ map (shown_text options) row)
    (color : Position → Option Color) (hue : color ≡ color_beside options (places_in options rows) row) where
  names-same : fields_at places (fields_of blocks.names) ≡ names_in options rows
  names-same =
      ap (fields_at places) has.named
      ∙ row-shown options (slice_index_or rows 0 []) places
      ∙ ap (λ (ps : List (Option ℕ)). shown_row options ps (slice_index_or rows 0 [])) (at ∙ has.at)

  texts-same : fields_at places fields ≡ shown_row options (places_in options rows) row
  texts-same = ap (fields_at places) shown ∙ row-shown options row places ∙ ap (λ (ps : List (Option ℕ)). shown_row options ps row) (at ∙ has.at)

  pub block-same : block_of blocks.options.now.bounds blocks.config color (fields_at places (fields_of blocks.names)) (fields_at places fields) ≡ record_block options rows row
  block-same =
      ap (λ (o : Options). block_of o.bounds blocks.config color (fields_at places (fields_of blocks.names)) (fields_at places fields)) has.asked
      ∙ ap₂ (λ (c : Config) (k : Position → Option Color). block_of options.bounds c k (fields_at places (fields_of blocks.names)) (fields_at places fields)) has.looks hue
      ∙ ap₂ (block_of options.bounds (look_config options.look) (color_beside options (places_in options rows) row)) names-same texts-same

  pub fault-same : block_fault blocks.options.now.bounds blocks.config color (fields_at places (fields_of blocks.names)) (fields_at places fields) ≡ record_fault options rows row
  fault-same =
      ap (λ (o : Options). block_fault o.bounds blocks.config color (fields_at places (fields_of blocks.names)) (fields_at places fields)) has.asked
      ∙ ap₂ (λ (c : Config) (k : Position → Option Color). block_fault options.bounds c k (fields_at places (fields_of blocks.names)) (fields_at places fields)) has.looks hue
      ∙ ap₂ (block_fault options.bounds (look_config options.look) (color_beside options (places_in options rows) row)) names-same texts-same

-- the colours of a record's block, as a value has them
pub block-colors : (asked options : Options) (own places : List (Option ℕ)) (records : List Row) (fields : Row) → asked ≡ options → own ≡ places → records ≡ fields ∷ []
    → (λ (p : Position). option_map color_of (tint_of asked (p.col == 0) (slice_index_or own p.row None) (slice_get (map fields_of records) 0))) ≡ color_beside options places (fields_of fields)
block-colors asked options own places records fields same at is = rw (same, at, is) refl

-- ---- texts of which some are left out

-- those of the places that stay
row-abridged : (shown : ℕ) (places : List (Option ℕ)) (row : List Text) → fields_at (abridged shown None places) row ≡ abridged shown ellipsis (fields_at places row)
row-abridged shown places row =
    let front : ℕ = shown - shown / 2 in
    let back : ℕ = shown / 2 in
    map-append (drawn_at row) (take front places) (None ∷ drop (length places - back) places)
    ∙ ap (λ (ts : List Text). ts ++ ellipsis ∷ map (drawn_at row) (drop (length places - back) places)) (sym (take-map (drawn_at row) front places))
    ∙ ap (λ (ts : List Text). take front (fields_at places row) ++ ellipsis ∷ ts) (sym (drop-map (drawn_at row) (length places - back) places))
    ∙ ap (λ (n : ℕ). take front (fields_at places row) ++ ellipsis ∷ drop (n - back) (fields_at places row)) (sym (length-map places (drawn_at row)))

pub rows-abridged : (shown : ℕ) (places : List (Option ℕ)) (records : List Row) → texts_at (abridged shown None places) records ≡ map (abridged shown ellipsis) (texts_at places records)
rows-abridged shown places [] = refl
rows-abridged shown places (row ∷ rows) =
    ap (λ (ts : List Text). ts ∷ texts_at (abridged shown None places) rows) (row-abridged shown places (fields_of row))
    ∙ ap (λ (xs : List (List Text)). abridged shown ellipsis (fields_at places (fields_of row)) ∷ xs) (rows-abridged shown places rows)

-- ---- a field by its place

pub field_there : (fields : List (List ℕ)) (i : ℕ) (field : List ℕ) → Some field ≡ field_at fields i → field ≡ slice_index_or fields i []
unfolding field_at
field_there [] i field e = absurd (none-some _ (sym e))
field_there (x ∷ xs) zero field e = same_Some _ _ e
field_there (x ∷ xs) (suc i) field e = field_there xs i field e

pub field_missing : (fields : List (List ℕ)) (i : ℕ) → None ≡ field_at fields i → [] ≡ slice_index_or fields i []
unfolding field_at
field_missing [] zero e = refl
field_missing [] (suc i) e = refl
field_missing (x ∷ xs) zero e = absurd (none-some _ e)
field_missing (x ∷ xs) (suc i) e = field_missing xs i e

-- ---- a text for whose characters no others stand is its own escape

-- it isn't a bar, a backslash or a line feed
none-of-three : {X : Type 0} (a b d : Bool) (x y z w : X) → not (a || (b || d)) ≡ true → (if a then x else if b then y else if d then z else w) ≡ w
none-of-three true b d x y z w h = absurd (true≢false (sym h))
none-of-three false true d x y z w h = absurd (true≢false (sym h))
none-of-three false false true x y z w h = absurd (true≢false (sym h))
none-of-three false false false x y z w h = refl

escape-plain : (c : ℕ) → is_plain c ≡ true → escape_of c ≡ encode_utf8 c
escape-plain c h = none-of-three (c == 124) (c == 92) (c == 10) _ _ _ (encode_utf8 c) h

escapes-plain : (cs : List ℕ) → list_all is_plain cs ≡ true → flat_map escape_of cs ≡ encode_utf8_all cs
escapes-plain [] h = refl
escapes-plain (c ∷ cs) h =
    let parts = and_parts (is_plain c) (list_all is_plain cs) h in
    ap (λ (bytes : List ℕ). bytes ++ flat_map escape_of cs) (escape-plain c parts.0) ∙ ap (λ (bytes : List ℕ). encode_utf8 c ++ bytes) (escapes-plain cs parts.1)

pub plain_texts_stay : (text : Text) → IsUtf8 text → list_all is_plain (chars text) ≡ true → escaped_text text ≡ text
unfolding escaped_text
plain_texts_stay text utf8 h = escapes-plain (chars text) h ∙ encodes-chars text utf8

-- ---- texts and rows that are shown, one after another

-- ---- texts and rows that are shown, one after another

-- one element more of what is made of a list from its front on
pub made_on : {X Y Z : Type 0} (view : X → Z) (f : Y → Z) (made : List X) (x : X) (y : Y) (old rest : List Y) (all : List Z) → view x ≡ f y → old ≡ y ∷ rest
    → map view made ++ map f old ≡ all → map view (made ++ x ∷ []) ++ map f rest ≡ all
made_on {X} {Y} {Z} view f made x y old rest all is steps before =
    ap (λ (zs : List Z). zs ++ map f rest) (map-append view made (x ∷ []))
    ∙ append_assoc (map view made) (view x ∷ []) (map f rest)
    ∙ ap (λ (z : Z). map view made ++ z ∷ map f rest) is
    ∙ ap (λ (ys : List Y). map view made ++ map f ys) (sym steps)
    ∙ before

-- the numbers of a list, one by one
pub same_numbers : (ns : List ℕ) → map (λ n. n) ns ≡ ns
same_numbers [] = refl
same_numbers (n ∷ ns) = ap (λ (ms : List ℕ). n ∷ ms) (same_numbers ns)

-- one element more of what is pushed for the first ones of a list
pub pushed_more : {X Z : Type 0} (f : X → Z) (made : List Z) (z : Z) (xs : List X) (i : ℕ) (d : X) → i < length xs → z ≡ f (slice_index_or xs i d)
    → made ≡ map f (take i xs) → made ++ z ∷ [] ≡ map f (take (i + 1) xs)
pushed_more {X} {Z} f made z xs i d within is before =
    ap (λ (zs : List Z). zs ++ z ∷ []) before
    ∙ ap (λ (y : Z). map f (take i xs) ++ y ∷ []) is
    ∙ sym (map-append f (take i xs) (slice_index_or xs i d ∷ []))
    ∙ ap (map f) (sym (take_more xs i d within))

-- one element more that a function leaves as it is
pub same_more : {X : Type 0} (f : X → X) (xs : List X) (i : ℕ) (d : X) → i < length xs → f (slice_index_or xs i d) ≡ slice_index_or xs i d
    → map f (take i xs) ≡ take i xs → map f (take (i + 1) xs) ≡ take (i + 1) xs
same_more {X} f xs i d within stays before =
    ap (map f) (take_more xs i d within)
    ∙ map-append f (take i xs) (slice_index_or xs i d ∷ [])
    ∙ ap (λ (ys : List X). ys ++ f (slice_index_or xs i d) ∷ []) before
    ∙ ap (λ (y : X). take i xs ++ y ∷ []) stays
    ∙ sym (take_more xs i d within)

-- what is left of a list begins with its next element
pub drop_next : {X : Type 0} (xs : List X) (i : ℕ) (x : X) → i < length xs → x ≡ get_or xs i x → drop i xs ≡ x ∷ drop (i + 1) xs
drop_next {X} xs i x within is = drop_more xs i x within ∙ ap (λ (y : X). y ∷ drop (i + 1) xs) (sym is)

-- the last ones of a list, of which those between are taken out
pub last-kept : {X Y : Type 0} (f : X → Y) (xs : List X) (count end : ℕ) → end ≡ length xs - count → 1 < end → map f (take 1 xs ++ drop end xs) ≡ last_of (Some count) (map f xs)
last-kept {X} {Y} f xs count end is some =
    let same : end ≡ max 1 (length (map f xs) - count) = omega (arith, is, some, length-map xs f) in
    map-append f (take 1 xs) (drop end xs)
    ∙ ap (λ (ys : List Y). ys ++ map f (drop end xs)) (sym (take-map f 1 xs))
    ∙ ap (λ (ys : List Y). take 1 (map f xs) ++ ys) (sym (drop-map f end xs))
    ∙ ap (λ (n : ℕ). take 1 (map f xs) ++ drop n (map f xs)) same

-- the elements up to a place, another one, and the elements from a later place on
pub joined-ends : {X Y : Type 0} (f : X → Y) (xs : List X) (x : X) (n end : ℕ) → n ≤ end
    → map f ((take n (take end xs) ++ x ∷ []) ++ drop end xs) ≡ take n (map f xs) ++ f x ∷ drop end (map f xs)
joined-ends f xs x n end within =
    map-append f (take n (take end xs) ++ x ∷ []) (drop end xs)
    ∙ ap₂ (λ ys zs. ys ++ zs) (map-append f (take n (take end xs)) (x ∷ [])) (sym (drop-map f end xs))
    ∙ append_assoc (map f (take n (take end xs))) (f x ∷ []) (drop end (map f xs))
    ∙ ap (λ ys. ys ++ f x ∷ drop end (map f xs)) (ap (map f) (take-take n end xs within) ∙ sym (take-map f n xs))

-- they are the rows at both ends, where the row between them is that of row 0
pub are-ends : {X : Type 0} (f : X → List Text) (xs : List X) (x y : X) (count : ℕ) → f x ≡ gap_of (f y) → f y ≡ slice_index_or (map f xs) 0 []
    → take (count + 1) (map f xs) ++ f x ∷ drop (length xs - count) (map f xs) ≡ both_ends count (map f xs)
are-ends f xs x y count is first =
    ap₂ (λ gap end. take (count + 1) (map f xs) ++ gap ∷ drop end (map f xs)) (is ∙ ap gap_of first) (ap (λ n. n - count) (sym (length-map xs f)))

-- a function of each row leaves as many below a header
pub body-length : {X Y : Type 0} (f : X → Y) (has_header : Bool) (xs : List X) → length (body_of has_header xs) ≡ length (body_of has_header (map f xs))
body-length f true xs = sym (length-map (drop 1 xs) f) ∙ ap length (sym (drop-map f 1 xs))
body-length f false xs = sym (length-map xs f)

-- ---- the sides of one column more

pub range_more : (n : ℕ) → range_with_len 0 (n + 1) ≡ range_with_len 0 n ++ n ∷ []
range_more n =
    let same : ℕ → ℕ = λ n. n in
    sym (same_numbers (range_with_len 0 (n + 1)))
    ∙ map-range_with_len_more same 0 n n (omega arith)
    ∙ ap (λ (ns : List ℕ). ns ++ n ∷ []) (same_numbers (range_with_len 0 n))

pub sides_more : (side : ℕ → AlignmentHorizontal) (n : ℕ) (settings : Settings AlignmentHorizontal)
    → with_sides side (n + 1) settings ≡ with_side n (side n) (with_sides side n settings)
sides_more side n settings =
    let step : Settings AlignmentHorizontal → ℕ → Settings AlignmentHorizontal = λ settings column. with_side column (side column) settings in
    ap (λ (ns : List ℕ). fold step settings ns) (range_more n) ∙ fold-append step settings (range_with_len 0 n) (n ∷ [])

-- ---- how many columns fit in a line

module _ (config : Config) (widths : List ℕ) (total signs most : ℕ) where
  -- so many where each of them fits, and the next one doesn't
  pub fitting-is : (shown : ℕ) → shown ≤ most → ((k : ℕ) → k < shown → line_of config widths signs (k + 1) ≤ total) → (shown < most → total < line_of config widths signs (shown + 1))
      → shown ≡ fitting config widths total signs most
  fitting-is shown within fit next =
      let long = length-range_with_len 0 most in
      sym (position_or_len_is (λ k. nat_lt total (line_of config widths signs (k + 1))) (range_with_len 0 most) shown 0 (omega (arith, within, long))
      (λ k below.
      let reads : get_or (range_with_len 0 most) k 0 ≡ k = get_or-range_with_len 0 most k 0 (omega (arith, within, below)) ∙ zero-add k in
      let low = fit k below in
      rw reads (grind (arith, nat_tests)))
      (λ short.
      let reads : get_or (range_with_len 0 most) shown 0 ≡ shown = get_or-range_with_len 0 most shown 0 (omega (arith, short, long)) ∙ zero-add shown in
      let high = next (omega (arith, short, long)) in
      rw reads (grind (arith, nat_tests))))

-- one column more
pub line-more : (widths : List ℕ) (shown : ℕ)
    → sum_by (λ k. slice_index widths (turn (length widths) k) + 2) (range_with_len 0 (shown + 1)) ≡ sum_by (λ k. slice_index widths (turn (length widths) k) + 2) (range_with_len 0 shown) + (slice_index widths (turn (length widths) shown) + 2)
line-more widths shown =
    let f : ℕ → ℕ = λ k. slice_index widths (turn (length widths) k) + 2 in
    let parts = ap (sum_by f) (range_more shown) ∙ sum_by-append f (range_with_len 0 shown) (shown ∷ []) in
    omega (arith, parts, sum_by-cons f shown [])

-- ---- records whose fields are lines of ASCII that are shown unchanged, and the cells of their rows

all-drop : (p : ℕ → Bool) (n : ℕ) (bytes : Text) → list_all p bytes ≡ true → list_all p (drop n bytes) ≡ true
all-drop p zero bytes h = h
all-drop p (suc n) [] h = refl
all-drop p (suc n) (b ∷ bytes) h = all-drop p n bytes (and_parts (p b) (list_all p bytes) h).1

all-take : (p : ℕ → Bool) (n : ℕ) (bytes : Text) → list_all p bytes ≡ true → list_all p (take n bytes) ≡ true
all-take p zero bytes h = refl
all-take p (suc n) [] h = refl
all-take p (suc n) (b ∷ bytes) h =
    let parts = and_parts (p b) (list_all p bytes) h in
    and_from (p b) (list_all p (take n bytes)) parts.0 (all-take p n bytes parts.1)

-- a test that all bytes of a record pass holds of all bytes of each field
pub fields-pass : (p : ℕ → Bool) (start : ℕ) (ends : List ℕ) (bytes : Text) → list_all p bytes ≡ true → list_all (list_all p) (cut_from start ends bytes) ≡ true
unfolding cut_from
fields-pass p start [] bytes h = refl
fields-pass p start (end ∷ ends) bytes h =
    and_from (list_all p (take (end - start) (drop start bytes))) (list_all (list_all p) (cut_from end ends bytes))
    (all-take p (end - start) (drop start bytes) (all-drop p start bytes h))
    (fields-pass p end ends bytes h)

plain-low : (b : ℕ) → is_plain_byte b ≡ true → b < 128
plain-low b h = grind (arith, nat_tests)

pub plain-ascii : (bytes : Text) → list_all is_plain_byte bytes ≡ true → IsAscii bytes
plain-ascii [] h i = omega arith
plain-ascii (b ∷ bytes) h zero = plain-low b (and_parts (is_plain_byte b) (list_all is_plain_byte bytes) h).0
plain-ascii (b ∷ bytes) h (suc i) = plain-ascii bytes (and_parts (is_plain_byte b) (list_all is_plain_byte bytes) h).1 i

-- such a field is shown unchanged where none of its bytes is a control character
plain-stands : (options : Options) → options.is_markdown ≡ false → (text : Text) → list_all is_plain_byte text ≡ true
    → list_all (λ c. not (is_control c)) text ≡ true → shown_text options text ≡ text
plain-stands options none text plain clear =
    let ascii = plain-ascii text plain in
    let seen = visible_texts_stay text (IsUtf8-from_ascii text ascii) (ap (list_all (λ c. not (is_control c))) (chars-IsAscii text ascii) ∙ clear) in
    elim (cases_Bool options.is_raw) [
      | inl raw ↦ rw (none, raw) refl
      | inr not_raw ↦ rw (none, not_raw) seen
    ]

plain-all-stand : (options : Options) → options.is_markdown ≡ false → (texts : List Text) → list_all (list_all is_plain_byte) texts ≡ true
    → list_all (list_all (λ c. not (is_control c))) texts ≡ true → map (shown_text options) texts ≡ texts
plain-all-stand options none [] plain clear = refl
plain-all-stand options none (text ∷ texts) plain clear =
    let parts = and_parts (list_all is_plain_byte text) (list_all (list_all is_plain_byte) texts) plain in
    let seen = and_parts (list_all (λ c. not (is_control c)) text) (list_all (list_all (λ c. not (is_control c))) texts) clear in
    ap₂ (λ (t : Text) (ts : List Text). t ∷ ts) (plain-stands options none text parts.0 seen.0) (plain-all-stand options none texts parts.1 seen.1)

-- so are all fields of a record of such bytes
pub plain-fields-stand : (options : Options) → options.is_markdown ≡ false → (ends : List ℕ) (bytes : Text) → list_all is_plain_byte bytes ≡ true
    → list_all (λ c. not (is_control c)) (chars bytes) ≡ true → map (shown_text options) (cut_from 0 ends bytes) ≡ cut_from 0 ends bytes
plain-fields-stand options none ends bytes plain clear =
    plain-all-stand options none (cut_from 0 ends bytes) (fields-pass is_plain_byte 0 ends bytes plain)
    (fields-pass (λ c. not (is_control c)) 0 ends bytes (sym (ap (list_all (λ c. not (is_control c))) (chars-IsAscii bytes (plain-ascii bytes plain))) ∙ clear))

-- a field at a place, also where there is none
pub field-plain : (texts : List Text) (place : ℕ) → list_all (list_all is_plain_byte) texts ≡ true → list_all is_plain_byte (slice_index_or texts place []) ≡ true
field-plain [] zero h = refl
field-plain [] (suc place) h = refl
field-plain (text ∷ texts) zero h = (and_parts (list_all is_plain_byte text) (list_all (list_all is_plain_byte) texts) h).0
field-plain (text ∷ texts) (suc place) h = field-plain texts place (and_parts (list_all is_plain_byte text) (list_all (list_all is_plain_byte) texts) h).1

-- a text that is shown unchanged, where it has room
pub lent-within : (options : Options) (overflow : Overflow) (room : ℕ) (text : Text) → shown_text options text ≡ text → text_width_of text ≤ room → text ≡ text_within overflow room (shown_text options text)
lent-within options overflow room text same fits =
    let narrow : nat_le (text_width_of text) room ≡ true = grind (arith, nat_tests, fits) in
    sym (ap (text_within overflow room) same ∙ rw narrow refl)

-- a field of a record that is shown unchanged
pub field-stands : (options : Options) (texts : List Text) (place : Option ℕ) → is_some place ≡ true → map (shown_text options) texts ≡ texts → shown_text options (drawn_at texts place) ≡ drawn_at texts place
field-stands options texts (Some place) is stand = sym (drawn-shown options texts (Some place)) ∙ ap (λ (ts : List Text). slice_index_or ts place []) stand
field-stands options texts None is stand = cc

-- so is a plain field
pub plain-within : (options : Options) (overflow : Overflow) (room : ℕ) (texts : List Text) (place : ℕ) → map (shown_text options) texts ≡ texts → list_all (list_all is_plain_byte) texts ≡ true
    → length (slice_index_or texts place []) ≤ room → slice_index_or texts place [] ≡ text_within overflow room (shown_text options (slice_index_or texts place []))
plain-within options overflow room texts place stand plain fits =
    let text : Text = slice_index_or texts place [] in
    let shown : slice_index_or (map (shown_text options) texts) place [] ∷ [] ≡ shown_text options text ∷ [] = row-shown options texts (Some place ∷ []) in
    let there : slice_index_or (map (shown_text options) texts) place [] ≡ text = ap (λ (ts : List Text). slice_index_or ts place []) stand in
    let same : shown_text options text ≡ text = cc in
    lent-within options overflow room text same (omega (arith, text_width_of-plain text (field-plain texts place plain), fits))

-- letters alone are shown as they are, on one line
letters-all : (text : Text) (b : Bool) (n : ℕ) → list_all is_letter (chars text) ≡ b → Some n ≡ (if b then Some (text_width_of text) else None) → (list_all is_letter (chars text) ≡ true) × (n ≡ text_width_of text)
letters-all text true n is found = (is, same_Some n (text_width_of text) found)
letters-all text false n is found = absurd (none-some _ (sym found))

pub letters-some : (text : Text) (n : ℕ) → Some n ≡ letters_width text → (list_all is_letter (chars text) ≡ true) × (n ≡ text_width_of text)
letters-some text n found = letters-all text (list_all is_letter (chars text)) n refl found

pub letters_found : (text : Text) (n : ℕ) → Some n ≡ letters_width text → n ≡ text_width_of text
letters_found text n found = (letters-some text n found).1

pub letters-stand : (options : Options) → options.is_markdown ≡ false → (text : Text) → IsUtf8 text → list_all is_letter (chars text) ≡ true → shown_text options text ≡ text
letters-stand options none text utf8 letters =
    let seen = visible_texts_stay text utf8 (letters_are_seen text letters) in
    elim (cases_Bool options.is_raw) [
      | inl raw ↦ rw (none, raw) refl
      | inr not_raw ↦ rw (none, not_raw) seen
    ]

pub plain-line : (texts : List Text) (place : ℕ) → list_all (list_all is_plain_byte) texts ≡ true → length (lines_of (slice_index_or texts place [])) ≡ 1
plain-line texts place plain = ap (λ (ls : List Text). length ls) (lines_of-one (slice_index_or texts place []) (feed_place-plain (slice_index_or texts place []) (field-plain texts place plain)))

-- a row with one text more
pub height-push : (texts : List Text) (text : Text) → row_height (texts ++ text ∷ []) ≡ max (row_height texts) (length (lines_of text))
height-push [] text = omega arith
height-push (first ∷ texts) text = omega (arith, height-push texts text)

-- the cells of a row, by what is known of the options and the plan
pub cells-own : (options asked : Options) (plan laid : Plan) (row fields cells : List Text) → asked ≡ options → laid ≡ plan → fields ≡ pointed_row plan.extents row
    → cells ≡ row_within asked.bounds.overflow laid.width (shown_row asked laid.places fields) → cells ≡ row_within options.bounds.overflow plan.width (shown_row options plan.places (pointed_row plan.extents row))
cells-own options asked plan laid row fields cells same is pointed made =
    made
    ∙ ap (λ (o : Options). row_within o.bounds.overflow laid.width (shown_row o laid.places fields)) same
    ∙ ap (λ (p : Plan). row_within options.bounds.overflow p.width (shown_row options p.places fields)) is
    ∙ ap (λ (texts : List Text). row_within options.bounds.overflow plan.width (shown_row options plan.places texts)) pointed

-- ---- a wrapped text has at most a line more than bytes

-- the bytes of pieces, each of which has some
abbrev weight : List Piece → ℕ
weight [] = 0
weight (p ∷ ps) = (length p.gap + length p.text) + weight ps

abbrev EachSome : List Piece → Type 0
EachSome [] = Unit {0}
EachSome (p ∷ ps) = (0 < length p.text) × EachSome ps

before-weight : (b : ℕ) (ps : List Piece) → weight (before_words b ps) ≤ weight ps + 1
before-weight b [] = elim (b == 32) as (λ v. weight (cond v [] (record { gap = []; text = b ∷ [] } ∷ [])) ≤ 1) [ true ↦ omega arith | false ↦ omega arith ]
before-weight b (p ∷ ps) =
    elim (b == 32) as (λ v. weight (cond v (record { gap = b ∷ p.gap; text = p.text } ∷ ps) (cond (length p.gap == 0) (record { gap = []; text = b ∷ p.text } ∷ ps) (record { gap = []; text = b ∷ [] } ∷ p ∷ ps))) ≤ weight (p ∷ ps) + 1) [
      | true ↦ omega arith
      | false ↦ elim (length p.gap == 0) as (λ w. weight (cond w (record { gap = []; text = b ∷ p.text } ∷ ps) (record { gap = []; text = b ∷ [] } ∷ p ∷ ps)) ≤ weight (p ∷ ps) + 1) [ true ↦ omega arith | false ↦ omega arith ]
    ]

before-some : (b : ℕ) (ps : List Piece) → EachSome ps → EachSome (before_words b ps)
before-some b [] each = elim (b == 32) as (λ v. EachSome (cond v [] (record { gap = []; text = b ∷ [] } ∷ []))) [ true ↦ tt | false ↦ (omega arith, tt) ]
before-some b (p ∷ ps) each =
    elim (b == 32) as (λ v. EachSome (cond v (record { gap = b ∷ p.gap; text = p.text } ∷ ps) (cond (length p.gap == 0) (record { gap = []; text = b ∷ p.text } ∷ ps) (record { gap = []; text = b ∷ [] } ∷ p ∷ ps)))) [
      | true ↦ each
      | false ↦ elim (length p.gap == 0) as (λ w. EachSome (cond w (record { gap = []; text = b ∷ p.text } ∷ ps) (record { gap = []; text = b ∷ [] } ∷ p ∷ ps))) [ true ↦ (omega arith, each.1) | false ↦ (omega arith, each) ]
    ]

words-weight : (bs : Text) → weight (words bs) ≤ length bs
words-weight [] = omega arith
words-weight (b ∷ bs) = omega (arith, before-weight b (words bs), words-weight bs)

words-some : (bs : Text) → EachSome (words bs)
words-some [] = tt
words-some (b ∷ bs) = before-some b (words bs) (words-some bs)

indented-weight : (ps : List Piece) → weight (indented ps) ≤ weight ps
indented-weight [] = omega arith
indented-weight (p ∷ ps) = omega (arith, length-append p.gap p.text)

indented-some : (ps : List Piece) → EachSome ps → EachSome (indented ps)
indented-some [] each = tt
indented-some (p ∷ ps) each = (omega (arith, length-append p.gap p.text, each.0), each.1)

length-characters : (gap : Text) (cs : List Text) → length (characters gap cs) ≡ length cs
length-characters gap [] = refl
length-characters gap (c ∷ cs) = omega (arith, length-characters [] cs)

length-graphemes : (gap line : Text) → IsUtf8 line → length (characters gap (graphemes true line)) ≤ length line
length-graphemes gap line utf8 = omega (arith, length-characters gap (graphemes true line), length-segments (is_grapheme_break true) line utf8)

length-parted : (width : ℕ) (p : Piece) → IsUtf8 p.text → 0 < length p.text → length (parted width p) ≤ length p.text
length-parted width p utf8 some =
    elim (fits_in width p.text) as (λ v. length (cond v (p ∷ []) (characters p.gap (graphemes true p.text))) ≤ length p.text) [ true ↦ omega (arith, some) | false ↦ length-graphemes p.gap p.text utf8 ]

all-parted : (width : ℕ) (ps : List Piece) → EachTexts ps → EachSome ps → length (flat_map (parted width) ps) ≤ weight ps
all-parted width [] utf8 some = omega arith
all-parted width (p ∷ ps) utf8 some =
    omega (
      arith,
      ap (λ (qs : List Piece). length qs) (flat_map-cons (parted width) p ps),
      length-append (parted width p) (flat_map (parted width) ps),
      length-parted width p utf8.1 some.0,
      all-parted width ps utf8.2 some.1,
    )

length-pieces : (breaking : Breaking) (width : ℕ) (line : Text) → IsUtf8 line → length (pieces breaking width line) ≤ length line
length-pieces Anywhere width line utf8 = length-graphemes [] line utf8
length-pieces BetweenWords width line utf8 =
    omega (
      arith,
      all-parted width (indented (words line)) (indented-texts (words line) (words-texts line utf8)) (indented-some (words line) (words-some line)),
      indented-weight (words line),
      words-weight line,
    )

length-filled : (width : ℕ) (line : Text) (ps : List Piece) → length (filled width line ps) ≤ length ps + 1
length-filled width line [] = omega arith
length-filled width line (p ∷ ps) =
    elim (takes width line p) as (λ v. length (cond v (filled width (line ++ (p.gap ++ p.text)) ps) (line ∷ filled width p.text ps)) ≤ length (p ∷ ps) + 1) [
      | true ↦ omega (arith, length-filled width (line ++ (p.gap ++ p.text)) ps)
      | false ↦ omega (arith, length-filled width p.text ps)
    ]

length-line : (breaking : Breaking) (width : ℕ) (line : Text) → IsUtf8 line → length (wrapped_line breaking width line) ≤ length line + 1
unfolding wrapped_line
length-line breaking width line utf8 =
    elim (fits_in width line) as (λ v. length (cond v (line ∷ []) (filled width [] (pieces breaking width line))) ≤ length line + 1) [
      | true ↦ omega arith
      | false ↦ omega (arith, length-filled width [] (pieces breaking width line), length-pieces breaking width line utf8)
    ]

module _ (breaking : Breaking) (width : ℕ) where
  length-lines : (ls : List Text) → EachLine ls → length (flat_map (wrapped_line breaking width) ls) ≤ length (join_with_byte 10 ls) + 1
  length-lines [] each = omega arith
  length-lines (l ∷ []) each =
      omega (
        arith,
        ap (λ (qs : List Text). length qs) (flat_map-cons (wrapped_line breaking width) l []),
        length-append (wrapped_line breaking width l) (flat_map (wrapped_line breaking width) []),
        length-line breaking width l each.0.0,
      )
  length-lines (l ∷ m ∷ ls) each =
      omega (
        arith,
        ap (λ (qs : List Text). length qs) (flat_map-cons (wrapped_line breaking width) l (m ∷ ls)),
        length-append (wrapped_line breaking width l) (flat_map (wrapped_line breaking width) (m ∷ ls)),
        length-append l (10 ∷ join_with_byte 10 (m ∷ ls)),
        length-line breaking width l each.0.0,
        length-lines (m ∷ ls) each.1,
      )

  pub length-wrapped : (text : Text) → IsUtf8 text → length (lines_of (wrapped breaking width text)) ≤ length text + 1
  unfolding lines_of
  length-wrapped text utf8 =
      omega (
        arith,
        ap (λ (ls : List Text). length ls) (lines_stand breaking width text utf8),
        length-lines (lines_of text) (lines_of-lines text utf8),
        ap (λ (t : Text). length t) (join_with_byte-slice_split 10 text),
      )

-- ---- no text takes more columns than it has bytes

-- U+FE0F gives the character before it up to one column more than that has bytes, and takes none itself
spent : Reading → ℕ
spent r = r.0 + cond r.1.emoji 1 0

kind-spent : (c : ℕ) (k : Kind) → 0xA0 < c → spent (of_kind false c k) ≤ len_utf8 c
unfolding spent
kind-spent c kinds.Zero high = grind (arith, nat_tests)
kind-spent c kinds.Narrow high = grind (arith, nat_tests)
kind-spent c kinds.Wide high = grind (arith, nat_tests)
kind-spent c kinds.Ambiguous high = grind (arith, nat_tests)
kind-spent c kinds.Alef high = grind (arith, nat_tests)
kind-spent c kinds.KhmerLetter high = grind (arith, nat_tests)
kind-spent c kinds.TifinaghConsonant high = grind (arith, nat_tests)
kind-spent c kinds.LisuTone high = grind (arith, nat_tests)
kind-spent c kinds.RegionalIndicator high = grind (arith, nat_tests)
kind-spent c kinds.EmojiModifier high = grind (arith, nat_tests)
kind-spent c kinds.Emoji high = grind (arith, nat_tests)
kind-spent c kinds.Single high = grind (arith, nat_tests)

alone-spent : (c : ℕ) → 0xA0 < c → spent (alone false c) ≤ len_utf8 c
unfolding alone
alone-spent c high = kind-spent c (kind c) high

-- characters that join the next ones
joined-spent : (total c : ℕ) (a : After) (own : ℕ × State) → spent own ≤ len_utf8 c → spent (joined_or total (joins false a c) own) ≤ total + len_utf8 c
unfolding spent joins before_alef
joined-spent total c after.Nothing own few = grind (arith, nat_tests, few)
joined-spent total c after.LineFeed own few = grind (arith, nat_tests, few)
joined-spent total c after.EmojiModifier own few = grind (arith, nat_tests, few)
joined-spent total c after.RegionalIndicator own few = grind (arith, nat_tests, few)
joined-spent total c after.RegionalIndicators own few = grind (arith, nat_tests, few)
joined-spent total c after.Emoji own few = grind (arith, nat_tests, few)
joined-spent total c after.ZwjEmoji own few = grind (arith, nat_tests, few)
joined-spent total c after.KeycapZwjEmoji own few = grind (arith, nat_tests, few)
joined-spent total c after.IndicatorZwj own few = grind (arith, nat_tests, few)
joined-spent total c after.EvenIndicatorsZwj own few = grind (arith, nat_tests, few)
joined-spent total c after.OddIndicatorsZwj own few = grind (arith, nat_tests, few)
joined-spent total c after.TagEnd own few = grind (arith, nat_tests, few)
joined-spent total c after.TagDigit1 own few = grind (arith, nat_tests, few)
joined-spent total c after.TagDigit2 own few = grind (arith, nat_tests, few)
joined-spent total c after.TagDigit3 own few = grind (arith, nat_tests, few)
joined-spent total c after.TagLetter1 own few = grind (arith, nat_tests, few)
joined-spent total c after.TagLetter2 own few = grind (arith, nat_tests, few)
joined-spent total c after.TagLetter3 own few = grind (arith, nat_tests, few)
joined-spent total c after.TagLetter4 own few = grind (arith, nat_tests, few)
joined-spent total c after.TagLetter5 own few = grind (arith, nat_tests, few)
joined-spent total c after.TagLetter6 own few = grind (arith, nat_tests, few)
joined-spent total c after.KiratE own few = grind (arith, nat_tests, few)
joined-spent total c after.KiratAi own few = grind (arith, nat_tests, few)
joined-spent total c after.Alef own few = grind (arith, nat_tests, few)
joined-spent total c after.Solidus own few = grind (arith, nat_tests, few)
joined-spent total c after.SolidusAlef own few = grind (arith, nat_tests, few)
joined-spent total c after.Lamed own few = grind (arith, nat_tests, few)
joined-spent total c after.ZwjLamed own few = grind (arith, nat_tests, few)
joined-spent total c after.Ya own few = grind (arith, nat_tests, few)
joined-spent total c after.ZwjYa own few = grind (arith, nat_tests, few)
joined-spent total c after.VowelZwjYa own few = grind (arith, nat_tests, few)
joined-spent total c after.Tifinagh own few = grind (arith, nat_tests, few)
joined-spent total c after.ZwjTifinagh own few = grind (arith, nat_tests, few)
joined-spent total c after.JoinerTifinagh own few = grind (arith, nat_tests, few)
joined-spent total c after.LisuTone own few = grind (arith, nat_tests, few)
joined-spent total c after.OrkhonI own few = grind (arith, nat_tests, few)
joined-spent total c after.ZwjOrkhonI own few = grind (arith, nat_tests, few)
joined-spent total c after.KhmerLetter own few = grind (arith, nat_tests, few)

past_selectors-spent : (c total : ℕ) (a : After) → 0xA0 < c → spent (past_selectors false c total a) ≤ total + len_utf8 c
unfolding spent past_selectors
past_selectors-spent c total a high =
    let own = alone-spent c high in
    let joined = joined-spent total c a (alone false c) own in
    grind (arith, nat_tests, own, joined)

in_context-spent : (c total : ℕ) (s : State) → 0xA0 < c → s.emoji ≡ false → spent (in_context false c total s) ≤ total + len_utf8 c
unfolding spent in_context
in_context-spent c total s high none =
    let other = past_selectors-spent c total s.after high in
    grind (arith, nat_tests, other, none)

past_emoji-spent : (c total : ℕ) (s : State) → s.emoji ≡ false → spent (past_emoji false c total s) ≤ total + len_utf8 c
unfolding spent past_emoji
past_emoji-spent c total s none = elim (cases_lt 0xA0 c) [
  | inl high ↦
      let own = alone-spent c high in
      let other = in_context-spent c total s high none in
      grind (arith, nat_tests, own, other, none)
  | inr low ↦ grind (arith, nat_tests, low, none)
]

step-spent : (c : ℕ) (r : Reading) → spent (step false c r) ≤ spent r + len_utf8 c
unfolding spent step
step-spent c (total, s) = elim (cases_Bool s.emoji) [
  | inl emoji ↦
      let other = past_emoji-spent c total (record (if_kept s) { emoji = false }) refl in
      grind (arith, nat_tests, other, emoji, (len_utf8_bounds c).0)
  | inr none ↦ let other = past_emoji-spent c total s none in grind (arith, nat_tests, other, none)
]

all-spent : (cs : List ℕ) → spent (read_before false cs (0, plain)) ≤ length (encode_utf8_all cs)
unfolding spent
all-spent [] = omega arith
all-spent (c ∷ cs) =
    omega (arith, step-spent c (read_before false cs (0, plain)), all-spent cs, length-append (encode_utf8 c) (encode_utf8_all cs), length-encode c)

line-columns : (line : Text) → IsUtf8 line → width_of line ≤ length line
unfolding width_of str_width spent
line-columns line utf8 = omega (arith, all-spent (chars line), ap (λ (t : Text). length t) (encodes-chars line utf8))

lines-columns : (ls : List Text) → EachLine ls → greatest (map width_of ls) ≤ length (join_with_byte 10 ls)
lines-columns [] each = omega arith
lines-columns (l ∷ []) each = omega (arith, line-columns l each.0.0)
lines-columns (l ∷ m ∷ ls) each =
    omega (arith, line-columns l each.0.0, lines-columns (m ∷ ls) each.1, length-append l (10 ∷ join_with_byte 10 (m ∷ ls)))

pub columns_by_bytes : (text : Text) → IsUtf8 text → text_width_of text ≤ length text
unfolding text_width_of lines_of
columns_by_bytes text utf8 =
    omega (arith, lines-columns (lines_of text) (lines_of-lines text utf8), ap (λ (t : Text). length t) (join_with_byte-slice_split 10 text))

-- ---- a text that begins with a letter is no number

module _ (b : ℕ) (letter : is_ascii_alphabetic b ≡ true) where
  no-digit : is_digit b ≡ false
  no-digit = grind (arith, nat_tests, letter)

  no-sign : (nat_eq b 43 ≡ false) × (nat_eq b 45 ≡ false) × (nat_eq b 226 ≡ false) × (nat_eq b 37 ≡ false)
  no-sign = (grind (arith, nat_tests, letter), grind (arith, nat_tests, letter), grind (arith, nat_tests, letter), grind (arith, nat_tests, letter))

  no-whole : (bs : Text) → is_whole (b ∷ bs) ≡ false
  no-whole bs = ap (λ v. v && list_all is_figure bs) no-digit

  no-decimal-at : (found : Option ℕ) (bs : Text) → (found ≡ Some 0 → b ≡ 46) → is_decimal_by found (b ∷ bs) ≡ false
  no-decimal-at None bs first = no-whole bs
  no-decimal-at (Some zero) bs first = absurd (let point : b ≡ 46 = first refl in grind (arith, nat_tests, letter))
  no-decimal-at (Some (suc m)) bs first =
      let other : (suc m == 0) ≡ false = grind (arith, nat_tests) in
      ap (λ v. (v || is_whole (take (suc m) (b ∷ bs))) && are_digits (drop (suc m + 1) (b ∷ bs))) other
      ∙ ap (λ v. v && are_digits (drop (suc m + 1) (b ∷ bs))) (no-whole (take m bs))

  first-found : (p : ℕ → Bool) (bs : Text) → position p (b ∷ bs) ≡ Some 0 → p b ≡ true
  first-found p bs found = elim (p b) as (λ v. cond (nat_lt (cond (not v) (1 + position_or_len p bs) 0) (length (b ∷ bs))) (Some (cond (not v) (1 + position_or_len p bs) 0)) None ≡ Some 0 → v ≡ true) [
    | true ↦ λ is. refl
    | false ↦ λ is. grind (arith, nat_tests, is)
  ] found

  no-decimal : (bs : Text) → is_decimal (b ∷ bs) ≡ false
  no-decimal bs = no-decimal-at (position (λ byte. byte == 46) (b ∷ bs)) bs (λ found. let is = first-found (λ byte. byte == 46) bs found in grind (arith, nat_tests, is))

  no-scaled-at : (found : Option ℕ) (bs : Text) → is_scaled_by found (b ∷ bs) ≡ false
  no-scaled-at None bs = no-decimal bs
  no-scaled-at (Some zero) bs = refl
  no-scaled-at (Some (suc m)) bs = ap (λ v. v && are_digits (unsigned (drop (suc m + 1) (b ∷ bs)))) (no-decimal (take m bs))

  stripped : (bs : Text) → (ys : Text) × (strip_last 37 (b ∷ bs) ≡ b ∷ ys)
  stripped [] = ([], rw no-sign.3 refl)
  stripped (c ∷ cs) = elim (ends_with_byte 37 (b ∷ c ∷ cs)) as (λ v. (ys : Text) × (cond v (take (length (b ∷ c ∷ cs) - 1) (b ∷ c ∷ cs)) (b ∷ c ∷ cs) ≡ b ∷ ys)) [
    | true ↦ (take (length cs) (c ∷ cs), let less : length (b ∷ c ∷ cs) - 1 ≡ suc (length cs) = omega arith in ap (λ k. take k (b ∷ c ∷ cs)) less)
    | false ↦ (c ∷ cs, refl)
  ]

  no-front : (bs : Text) → unsigned (b ∷ bs) ≡ b ∷ bs
  no-front bs = rw (no-sign.0, no-sign.1, no-sign.2) refl

  no-number : (bs : Text) → is_number (b ∷ bs) ≡ false
  unfolding is_number
  no-number bs =
      let rest = stripped bs in
      ap (λ (t : Text). is_scaled (strip_last 37 t)) (no-front bs)
      ∙ ap is_scaled rest.1
      ∙ no-scaled-at (position (λ byte. (byte == 101) || (byte == 69)) (b ∷ rest.0)) rest.0

pub no_number_by_letter : (text : Text) → 0 < length text → is_ascii_alphabetic (slice_index text 0) ≡ true → false ≡ is_number text
no_number_by_letter [] some letter = absurd (omega (arith, some))
no_number_by_letter (b ∷ bs) some letter = sym (no-number b letter bs)

-- the field at a place, and none
pub ruleset fields_found = (field_missing, field_there)

-- how many columns lent rows have
pub ruleset lent_columns = (columns-some, even-lent)

-- how many rows are below the header
pub ruleset lengths = (body-length)

-- a test of all rows
pub ruleset numbered_rows = (list_all-map)

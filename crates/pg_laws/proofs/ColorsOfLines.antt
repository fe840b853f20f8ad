-- Each line of a compact table closes its colours, as parts that stand alone or in one colour.
use Rattle.std.proofs.Common.{◌≡◌, true, List, [], ◌∷◌, ◌++◌, flat_map, refl, sym, ap, ap₂, ◌∙◌, append_assoc, append-nil, arith, encode_utf8, Option, Some, None, IfSome, inl, inr, ℕ, zero, suc, ◌+◌, ◌-◌, ◌<◌, ◌≤◌, Bool, false, cond, ◌&&◌, ◌==◌, nat_le, nat_lt, replicate, length, get_or, lit<, subst, unwrap_or, if◌then◌else◌}
use Rattle.std.specs.List.{Contains, All, AllZip, range_with_len}
use Rattle.std.specs.Option.{option_to_list}
use Rattle.std.specs.Str.{bytes_eq}
use Rattle.std.specs.Cmp.Lexicographic.{same_text}
use Rattle.std.proofs.lemmas.Bool.{cases_Bool, and_parts, false≢true}
use Rattle.std.proofs.lemmas.List.Concat.{flat_map-append}
use Rattle.std.proofs.lemmas.List.Elements.{All-nil, All-cons, All-append, All-weaker, Contains-append_left, Contains-append_right, All-head, All-tail, Contains-append_cases}
use Rattle.pg_layout.specs.Text.{Text, first_line_of, width_of}
use Rattle.pg_layout.specs.Colors.{Color, same_color}
use Rattle.pg_picture.specs.Marks.{Mark, sep, line}
use Rattle.pg_picture.specs.Pieces.{Piece, run, words, in_color, piece_text, repeated, written, prefix_of, suffix_of, cut, Item, glyph, spaces, block, color_after, item_text, with_cuts, separator_text, shares}
use Rattle.pg_picture.specs.Table.{Table, line_of_row, separator_items, mark_text, body_line}
use Rattle.pg_picture.specs.CompactLines.{Part, own_or, parts_after, CompactTable, color_if, compact_indent, colored_glyph, compact_cell_of, compact_width, compact_full_width, with_margins, between_sides, compact_cell, text_row, padding_row, part_if, main_part, top_line, bottom_line, inner_line, parts, separator_row, compact_margin, line_if, row_lines, compact_lines}
use Rattle.pg_picture.specs.Straight.{left_margin, right_margin}
use Rattle.pg_laws.specs.Laws.{plain_piece, plain_item, colors_of_piece, colors_of_item, ClosesColors, PiecesCloseColors, SeparatorsCloseColors, LinesCloseColors, PartsCloseColors, plain_mark, colors_of_mark, told_colors, colors_of_row, compact_colors, compact_without_colors, CompactLinesCloseColors}
use Rattle.pg_layout.specs.declared.borders.HorizontalLine.{HorizontalLine}
use Rattle.pg_layout.specs.declared.sides.Indent.{Indent}
use Rattle.pg_layout.specs.Borders.{has_top, has_bottom, has_inner_horizontal}
use Rattle.pg_layout.specs.Position.{at}
use Rattle.pg_config.specs.CompactConfig.{empty_color}
use Rattle.pg_picture.proofs.Separators.{cut-same}

-- ---- each prefix in a line is followed by its suffix: a line as parts that stand alone or in one colour

-- ---- parts

-- all of these colours are among those
abbrev pub Among : List Color → List Color → Type 0
Among xs ys = (x : Color) → Contains xs x → Contains ys x

-- the colour, if there is one
abbrev pub IsAmong : Option Color → List Color → Type 0
IsAmong c colors = IfSome c (Contains colors)

IsAmong-more : (c : Option Color) (few many : List Color) → Among few many → IsAmong c few → IsAmong c many
IsAmong-more None few many inside h = tt
IsAmong-more (Some c) few many inside h = inside c h

-- the part that is open, and its end
in_color-parts : (c : Option Color) (x : Text) → in_color c x ≡ prefix_of c ++ (x ++ suffix_of c)
in_color-parts None x = sym (append-nil x)
in_color-parts (Some c) x = refl

cut-none : (c : Option Color) → cut c None ≡ suffix_of c
unfolding cut
cut-none None = refl
cut-none (Some c) = append-nil c.suffix

-- equal colours begin alike
prefix-same : (c d : Option Color) → same_color c d ≡ true → prefix_of c ≡ prefix_of d
prefix-same None None h = refl
prefix-same None (Some d) h = absurd (false≢true h)
prefix-same (Some c) None h = absurd (false≢true h)
prefix-same (Some c) (Some d) h = same_text c.prefix d.prefix (sym (and_parts (bytes_eq c.prefix d.prefix) (bytes_eq c.suffix d.suffix) h).0)

module _ (colors : List Color) where
  is_among : (c : Option Color) → Among (option_to_list c) colors → IsAmong c colors
  is_among None h = tt
  is_among (Some c) h = h c (0, omega arith, refl)

  Among-left : (xs ys : List Color) → Among (xs ++ ys) colors → Among xs colors
  Among-left xs ys h x m = h x (Contains-append_left xs ys x m)

  Among-right : (xs ys : List Color) → Among (xs ++ ys) colors → Among ys colors
  Among-right xs ys h x m = h x (Contains-append_right xs ys x m)

  pub closes-same : {plain plain' text text' : Text} → plain' ≡ plain → text' ≡ text → ClosesColors colors plain text → ClosesColors colors plain' text'
  closes-same p e h = record { parts = h.parts; written = e ∙ h.written; uncolored = p ∙ h.uncolored; among = h.among }

  pub closes-nil : ClosesColors colors [] []
  closes-nil = record { parts = []; written = refl; uncolored = refl; among = All-nil (λ (part : Option Color × Text). IfSome part.0 (Contains colors)) }

  -- one part more
  pub closes-cons : {plain text : Text} (c : Option Color) (x : Text) → IsAmong c colors → ClosesColors colors plain text → ClosesColors colors (x ++ plain) (in_color c x ++ text)
  closes-cons c x mine h = record {
    parts = (c, x) ∷ h.parts;
    written = ap (λ t. in_color c x ++ t) h.written;
    uncolored = ap (λ t. x ++ t) h.uncolored;
    among = All-cons (λ (part : Option Color × Text). IfSome part.0 (Contains colors)) (c, x) h.parts mine h.among;
  }

  pub closes-append : {plain more text rest : Text} → ClosesColors colors plain text → ClosesColors colors more rest → ClosesColors colors (plain ++ more) (text ++ rest)
  closes-append h k = record {
    parts = h.parts ++ k.parts;
    written = ap₂ (λ (a b : Text). a ++ b) h.written k.written ∙ sym (flat_map-append (λ (part : Option Color × Text). in_color part.0 part.1) h.parts k.parts);
    uncolored = ap₂ (λ (a b : Text). a ++ b) h.uncolored k.uncolored ∙ sym (flat_map-append (λ (part : Option Color × Text). part.1) h.parts k.parts);
    among = All-append (λ (part : Option Color × Text). IfSome part.0 (Contains colors)) h.parts k.parts h.among k.among;
  }

  closes-piece : {plain text : Text} (p : Piece) → Among (colors_of_piece p) colors → ClosesColors colors plain text → ClosesColors colors (plain_piece p ++ plain) (piece_text p ++ text)
  closes-piece (run c k color) among h = closes-cons color (repeated c k) (is_among color among) h
  closes-piece (words text color) among h = closes-cons color text (is_among color among) h

  closes-pieces : (pieces : List Piece) → Among (flat_map colors_of_piece pieces) colors → ClosesColors colors (flat_map plain_piece pieces) (written pieces)
  unfolding written
  closes-pieces [] h = closes-nil
  closes-pieces (p ∷ ps) h = closes-piece p (Among-left (colors_of_piece p) (flat_map colors_of_piece ps) h) (closes-pieces ps (Among-right (colors_of_piece p) (flat_map colors_of_piece ps) h))

  -- the last part
  closes-end : (c : Option Color) (x : Text) → IsAmong c colors → ClosesColors colors (x ++ []) (prefix_of c ++ (x ++ cut c None))
  closes-end c x among =
      closes-same refl (ap (λ t. prefix_of c ++ (x ++ t)) (cut-none c) ∙ sym (in_color-parts c x) ∙ sym (append-nil (in_color c x))) (closes-cons c x among closes-nil)

  -- a cut between the open part and what follows in colour d
  closes-cut : (plain rest : Text) (c d : Option Color) (x : Text) → IsAmong c colors → ((y : Text) → ClosesColors colors (y ++ plain) (prefix_of d ++ (y ++ rest)))
      → ClosesColors colors (x ++ plain) (prefix_of c ++ (x ++ (cut c d ++ rest)))
  unfolding cut
  closes-cut plain rest c d x among next =
      elim (cases_Bool (same_color c d)) [
        | inl y ↦ closes-same refl (rw y (ap (λ t. t ++ (x ++ rest)) (prefix-same c d y))) (next x)
        | inr n ↦ closes-same refl
            (rw n (ap (λ t. prefix_of c ++ (x ++ t)) (append_assoc (suffix_of c) (prefix_of d) rest)
            ∙ ap (λ t. prefix_of c ++ t) (sym (append_assoc x (suffix_of c) (prefix_of d ++ rest)))
            ∙ sym (append_assoc (prefix_of c) (x ++ suffix_of c) (prefix_of d ++ rest))
            ∙ ap (λ t. t ++ (prefix_of d ++ rest)) (sym (in_color-parts c x))))
            (closes-cons c x among (next []))
      ]

  after-among : (c : Option Color) (item : Item) → IsAmong c colors → Among (colors_of_item item) colors → IsAmong (color_after c item) colors
  after-among c (glyph g own offset) among inside = is_among own (Among-left (option_to_list own) (option_to_list offset) inside)
  after-among c (spaces k) among inside = among
  after-among c (block pieces) among inside = tt

  -- an item in the open part, and what follows it
  closes-item : {plain : Text} (rest : Option Color → Text) (c : Option Color) (x : Text) (item : Item) → IsAmong c colors → Among (colors_of_item item) colors
      → ((d : Option Color) (y : Text) → IsAmong d colors → ClosesColors colors (y ++ plain) (prefix_of d ++ (y ++ rest d)))
      → ClosesColors colors (x ++ (plain_item item ++ plain)) (prefix_of (color_after c item) ++ (x ++ (item_text (color_after c item) item ++ rest (color_after c item))))
  closes-item {plain} rest c x (glyph g own None) among inside next =
      closes-same (sym (append_assoc x (encode_utf8 g) plain)) (ap (λ t. prefix_of own ++ t) (sym (append_assoc x (encode_utf8 g) (rest own))))
      (next own (x ++ encode_utf8 g) (after-among c (glyph g own None) among inside))
  closes-item {plain} rest c x (glyph g own (Some f)) among inside next =
      let mine = after-among c (glyph g own (Some f)) among inside in
      closes-same refl (rw (in_color-parts own x) (simp append_assoc))
      (closes-cons own x mine (closes-cons (Some f) (encode_utf8 g) (is_among (Some f) (Among-right (option_to_list own) (f ∷ []) inside)) (next own [] mine)))
  closes-item {plain} rest c x (spaces k) among inside next =
      closes-same (sym (append_assoc x (repeated 32 k) plain)) (ap (λ t. prefix_of c ++ t) (sym (append_assoc x (repeated 32 k) (rest c)))) (next c (x ++ repeated 32 k) among)
  closes-item {plain} rest c x (block pieces) among inside next =
      closes-cons None x tt (closes-append (closes-pieces pieces inside) (next None [] tt))

  closes-items : (c : Option Color) (x : Text) (items : List Item) → IsAmong c colors → Among (flat_map colors_of_item items) colors → ClosesColors colors (x ++ flat_map plain_item items) (prefix_of c ++ (x ++ with_cuts c items))
  unfolding with_cuts
  closes-items c x [] among inside = closes-end c x among
  closes-items c x (item ∷ items) among inside =
      closes-cut (plain_item item ++ flat_map plain_item items) (item_text (color_after c item) item ++ with_cuts (color_after c item) items) c (color_after c item) x among
      (λ y. closes-item (λ d. with_cuts d items) c y item among (Among-left (colors_of_item item) (flat_map colors_of_item items) inside)
      (λ d z mine. closes-items d z items mine (Among-right (colors_of_item item) (flat_map colors_of_item items) inside)))

  -- the same for the parts of a compact separator
  own_or-among : (own c : Option Color) → IsAmong c colors → Among (option_to_list own) colors → IsAmong (own_or own c) colors
  own_or-among None c among inside = among
  own_or-among (Some own) c among inside = is_among (Some own) inside

  closes-parts : (c : Option Color) (x : Text) (parts : List Part) → IsAmong c colors → Among (flat_map (λ part. option_to_list part.2) parts) colors
      → ClosesColors colors (x ++ flat_map (λ part. repeated part.0 part.1) parts) (prefix_of c ++ (x ++ parts_after c parts))
  unfolding parts_after
  closes-parts c x [] among inside = closes-end c x among
  closes-parts c x (part ∷ parts) among inside =
      let d : Option Color = own_or part.2 c in
      let filled : Text = repeated part.0 part.1 in
      let plain : Text = flat_map (λ (part : Part). repeated part.0 part.1) parts in
      let later = Among-right (option_to_list part.2) (flat_map (λ (part : Part). option_to_list part.2) parts) inside in
      let mine = own_or-among part.2 c among (Among-left (option_to_list part.2) (flat_map (λ (part : Part). option_to_list part.2) parts) inside) in
      closes-same refl (ap (λ t. prefix_of c ++ (x ++ t)) (append_assoc (cut c d) filled (parts_after d parts)))
      (closes-cut (filled ++ plain) (filled ++ parts_after d parts) c d x among
      (λ y. closes-same (sym (append_assoc y filled plain)) (ap (λ t. prefix_of d ++ t) (sym (append_assoc y filled (parts_after d parts))))
      (closes-parts d (y ++ filled) parts mine later)))

pub pieces_close_colors : PiecesCloseColors
pieces_close_colors pieces = closes-pieces (flat_map colors_of_piece pieces) pieces (λ x m. m)

pub separators_close_colors : SeparatorsCloseColors
unfolding separator_text
separators_close_colors items = closes-items (flat_map colors_of_item items) None [] items tt (λ x m. m)

-- ---- lines between margins

pub more-colors : {few many : List Color} {plain text : Text} → Among few many → ClosesColors few plain text → ClosesColors many plain text
more-colors {few} {many} inside h = record {
  parts = h.parts;
  written = h.written;
  uncolored = h.uncolored;
  among = All-weaker (λ (part : Option Color × Text). IsAmong part.0 few) (λ part. IsAmong part.0 many) (λ part. IsAmong-more part.0 few many inside) h.parts h.among;
}

mark_closes_colors : (t : Table) (mark : Mark) → ClosesColors (colors_of_mark t mark) (plain_mark t mark) (mark_text t mark)
unfolding mark_text
mark_closes_colors t (sep r) = separators_close_colors (separator_items t r)
mark_closes_colors t (line r i) = pieces_close_colors (line_of_row t r i)

pub lines_close_colors : LinesCloseColors
unfolding body_line
lines_close_colors hint t i h mark =
    let left = flat_map colors_of_piece (left_margin hint t i h) in
    let own = colors_of_mark t mark in
    let right = flat_map colors_of_piece (right_margin hint t i h) in
    closes-append (left ++ (own ++ right)) (more-colors (λ x m. Contains-append_left left (own ++ right) x m) (pieces_close_colors (left_margin hint t i h)))
    (more-colors (λ x m. Contains-append_right left (own ++ right) x m)
    (closes-append (own ++ right) (more-colors (λ x m. Contains-append_left own right x m) (mark_closes_colors t mark))
    (more-colors (λ x m. Contains-append_right own right x m) (pieces_close_colors (right_margin hint t i h)))))

pub parts_close_colors : PartsCloseColors
parts_close_colors parts = closes-parts (flat_map (λ (part : Part). option_to_list part.2) parts) None [] parts tt (λ x m. m)

-- ---- each line of a compact table closes its colours, and is the line of the same table without colours otherwise

-- ---- lists of colours

IsAmong-left : (c : Option Color) (xs ys : List Color) → IsAmong c xs → IsAmong c (xs ++ ys)
IsAmong-left None xs ys h = tt
IsAmong-left (Some c) xs ys h = Contains-append_left xs ys c h

IsAmong-right : (c : Option Color) (xs ys : List Color) → IsAmong c ys → IsAmong c (xs ++ ys)
IsAmong-right None xs ys h = tt
IsAmong-right (Some c) xs ys h = Contains-append_right xs ys c h

own-among : (c : Option Color) → IsAmong c (option_to_list c)
own-among None = tt
own-among (Some c) = (0, omega arith, refl)

-- an element of a list of colours that may be missing
listed-among : (os : List (Option Color)) (k : ℕ) → k < length os → IsAmong (get_or os k None) (flat_map option_to_list os)
listed-among [] k h = absurd (omega arith)
listed-among (o ∷ os) zero h = IsAmong-left o (option_to_list o) (flat_map option_to_list os) (own-among o)
listed-among (o ∷ os) (suc k) h = IsAmong-right (get_or os k None) (option_to_list o) (flat_map option_to_list os) (listed-among os k (omega arith))

-- one of the colours of one of the numbers
numbered-among : (f : ℕ → List Color) (c : Option Color) (a n k : ℕ) → k < n → IsAmong c (f (a + k)) → IsAmong c (flat_map f (range_with_len a n))
numbered-among f c a zero k h among = absurd (omega arith)
numbered-among f c a (suc n) zero h among = let z : a + 0 ≡ a = omega arith in IsAmong-left c (f a) (flat_map f (range_with_len (a + 1) n)) (rw z at among)
numbered-among f c a (suc n) (suc k) h among =
    let z : a + suc k ≡ (a + 1) + k = omega arith in
    IsAmong-right c (f a) (flat_map f (range_with_len (a + 1) n)) (numbered-among f c (a + 1) n k (omega arith) (rw z at among))

-- all colours of parts, where each is among these
parts-among : (colors : List Color) (ps : List Part) → All (λ (p : Part). IsAmong p.2 colors) ps → Among (flat_map (λ (p : Part). option_to_list p.2) ps) colors
parts-among colors [] all x m = absurd (omega (arith, m.1))
parts-among colors (p ∷ ps) all x m =
    elim (Contains-append_cases (option_to_list p.2) (flat_map (λ (q : Part). option_to_list q.2) ps) x m) [
      | inl here ↦ one p.2 (All-head (λ (q : Part). IsAmong q.2 colors) p ps all) here
      | inr later ↦ parts-among colors ps (All-tail (λ (q : Part). IsAmong q.2 colors) p ps all) x later
    ]
  where
    one : (c : Option Color) → IsAmong c colors → Contains (option_to_list c) x → Contains colors x
    one None among here = absurd (omega (arith, here.1))
    one (Some c) among (zero, l, e) = subst (Contains colors) e among
    one (Some c) among (suc k, l, e) = absurd (omega (arith, l))

-- ---- lists of lines

module _ {A B : Type 0} (R : A → B → Type 0) where
  pub zip-append : (xs : List A) (ys : List B) (us : List A) (vs : List B) → AllZip R xs ys → AllZip R us vs → AllZip R (xs ++ us) (ys ++ vs)
  zip-append [] [] us vs h k = k
  zip-append [] (y ∷ ys) us vs h k = absurd h
  zip-append (x ∷ xs) [] us vs h k = absurd h
  zip-append (x ∷ xs) (y ∷ ys) us vs h k = (h.0, zip-append xs ys us vs h.1 k)

  pub zip-replicate : (n : ℕ) (x : A) (y : B) → R x y → AllZip R (replicate n x) (replicate n y)
  zip-replicate zero x y h = tt
  zip-replicate (suc n) x y h = (h, zip-replicate n x y h)

  pub zip-flat_map : (f : ℕ → List A) (g : ℕ → List B) (a n : ℕ) → ((x : ℕ) → a ≤ x → x < a + n → AllZip R (f x) (g x)) → AllZip R (flat_map f (range_with_len a n)) (flat_map g (range_with_len a n))
  zip-flat_map f g a zero h = tt
  zip-flat_map f g a (suc n) h = zip-append (f a) (g a) (flat_map f (range_with_len (a + 1) n)) (flat_map g (range_with_len (a + 1) n)) (h a (omega arith) (omega arith)) (zip-flat_map f g (a + 1) n (λ x l m. h x (omega arith) (omega arith)))

-- ---- texts

module _ (colors : List Color) where
  closes-one : (c : Option Color) (x : Text) → IsAmong c colors → ClosesColors colors x (in_color c x)
  closes-one c x among = closes-same colors (sym (append-nil x)) (sym (append-nil (in_color c x))) (closes-cons colors c x among (closes-nil colors))

  closes-plain : (x : Text) → ClosesColors colors x x
  closes-plain x = closes-one None x tt

  closes-flat_map : (f g : ℕ → Text) (a n : ℕ) → ((x : ℕ) → a ≤ x → x < a + n → ClosesColors colors (f x) (g x)) → ClosesColors colors (flat_map f (range_with_len a n)) (flat_map g (range_with_len a n))
  closes-flat_map f g a zero h = closes-nil colors
  closes-flat_map f g a (suc n) h = closes-append colors (h a (omega arith) (omega arith)) (closes-flat_map f g (a + 1) n (λ x l m. h x (omega arith) (omega arith)))

  closes-indent : (c k : ℕ) (color : Color) → Contains colors color → ClosesColors colors (compact_indent c k empty_color) (compact_indent c k color)
  unfolding compact_indent
  closes-indent c k color among = closes-one (color_if color) (repeated c k) (if-among ((length color.prefix == 0) && (length color.suffix == 0)))
    where
      if-among : (b : Bool) → IsAmong (cond b None (Some color)) colors
      if-among true = tt
      if-among false = among

  closes-glyph : (g : Option ℕ) (color : Option Color) → IsAmong color colors → ClosesColors colors (colored_glyph g None) (colored_glyph g color)
  closes-glyph None color among = closes-nil colors
  closes-glyph (Some g) color among = closes-one color (repeated g 1) among

-- ---- parts

-- parts without colours are written as they are
parts-plain : (ps : List Part) → All (λ (p : Part). p.2 ≡ None) ps → parts_after None ps ≡ flat_map (λ (p : Part). repeated p.0 p.1) ps
unfolding parts_after
parts-plain [] all = cut-same None
parts-plain (p ∷ ps) all =
    let own : p.2 ≡ None = All-head (λ (q : Part). q.2 ≡ None) p ps all in
    ap (λ c. (cut None (own_or c None) ++ repeated p.0 p.1) ++ parts_after (own_or c None) ps) own
    ∙ ap₂ (λ (a b : Text). (a ++ repeated p.0 p.1) ++ b) (cut-same None) (parts-plain ps (All-tail (λ (q : Part). q.2 ≡ None) p ps all))

pub All-flat_map : {A : Type 0} (P : A → Type 0) (f : ℕ → List A) (xs : List ℕ) → ((x : ℕ) → All P (f x)) → All P (flat_map f xs)
All-flat_map P f [] h = All-nil P
All-flat_map P f (x ∷ xs) h = All-append P (f x) (flat_map f xs) (h x) (All-flat_map P f xs h)

flat_map-parts : {A B : Type 0} (g : A → List B) (f h : ℕ → List A) (xs : List ℕ) → ((x : ℕ) → flat_map g (f x) ≡ flat_map g (h x)) → flat_map g (flat_map f xs) ≡ flat_map g (flat_map h xs)
flat_map-parts g f h [] same = refl
flat_map-parts {A} {B} g f h (x ∷ xs) same = flat_map-append g (f x) (flat_map f xs) ∙ ap₂ (λ (a b : List B). a ++ b) (same x) (flat_map-parts g f h xs same) ∙ sym (flat_map-append g (h x) (flat_map h xs))

abbrev glyphs_of : List Part → Text
glyphs_of ps = flat_map (λ (p : Part). repeated p.0 p.1) ps

part_if-same : (g : Option ℕ) (c d : Option Color) → glyphs_of (part_if g c) ≡ glyphs_of (part_if g d)
part_if-same None c d = refl
part_if-same (Some g) c d = refl

main_part-same : (g : Option ℕ) (c d : Option Color) (w : ℕ) → glyphs_of (main_part g c w) ≡ glyphs_of (main_part g d w)
unfolding main_part
main_part-same g c d zero = refl
main_part-same g c d (suc w) = refl

part_if-all : (P : Option Color → Type 0) (g : Option ℕ) (c : Option Color) → P c → All (λ (p : Part). P p.2) (part_if g c)
part_if-all P None c h = All-nil (λ (p : Part). P p.2)
part_if-all P (Some g) c h = All-cons (λ (p : Part). P p.2) (g, 1, c) [] h (All-nil (λ (p : Part). P p.2))

main_part-all : (P : Option Color → Type 0) (g : Option ℕ) (c : Option Color) (w : ℕ) → P c → All (λ (p : Part). P p.2) (main_part g c w)
unfolding main_part
main_part-all P g c zero h = All-nil (λ (p : Part). P p.2)
main_part-all P g c (suc w) h = All-cons (λ (p : Part). P p.2) (unwrap_or g 32, suc w, c) [] h (All-nil (λ (p : Part). P p.2))

-- what a column adds to a separator
abbrev column_parts : CompactTable → HorizontalLine ℕ → HorizontalLine Color → ℕ → List Part
column_parts t g c x = (if x == 0 then [] else part_if g.intersection c.intersection) ++ main_part g.main c.main (t.width x)

column-all : (P : Option Color → Type 0) (t : CompactTable) (g : HorizontalLine ℕ) (c : HorizontalLine Color) (x : ℕ) → P c.main → P c.intersection → All (λ (p : Part). P p.2) (column_parts t g c x)
column-all P t g c x main crossing = All-append (λ (p : Part). P p.2) (if x == 0 then [] else part_if g.intersection c.intersection) (main_part g.main c.main (t.width x)) (if-all (x == 0)) (main_part-all P g.main c.main (t.width x) main)
  where
    if-all : (b : Bool) → All (λ (p : Part). P p.2) (cond b [] (part_if g.intersection c.intersection))
    if-all true = All-nil (λ (p : Part). P p.2)
    if-all false = part_if-all P g.intersection c.intersection crossing

parts-all : (P : Option Color → Type 0) (t : CompactTable) (g : HorizontalLine ℕ) (c : HorizontalLine Color) → P c.main → P c.intersection → P c.left → P c.right → All (λ (p : Part). P p.2) (parts t g c)
unfolding parts
parts-all P t g c main crossing left right =
    let inner : List Part = flat_map (column_parts t g c) (range_with_len 0 t.columns) in
    All-append (λ (p : Part). P p.2) (part_if g.left c.left ++ inner) (part_if g.right c.right)
    (All-append (λ (p : Part). P p.2) (part_if g.left c.left) inner (part_if-all P g.left c.left left) (All-flat_map (λ (p : Part). P p.2) (column_parts t g c) (range_with_len 0 t.columns) (λ x. column-all P t g c x main crossing)))
    (part_if-all P g.right c.right right)

column-same : (t : CompactTable) (g : HorizontalLine ℕ) (c d : HorizontalLine Color) (x : ℕ) → glyphs_of (column_parts t g c x) ≡ glyphs_of (column_parts t g d x)
column-same t g c d x =
    let rep : Part → Text = λ p. repeated p.0 p.1 in
    flat_map-append rep (if x == 0 then [] else part_if g.intersection c.intersection) (main_part g.main c.main (t.width x))
    ∙ ap₂ (λ (a b : Text). a ++ b) (if-same (x == 0)) (main_part-same g.main c.main d.main (t.width x))
    ∙ sym (flat_map-append rep (if x == 0 then [] else part_if g.intersection d.intersection) (main_part g.main d.main (t.width x)))
  where
    if-same : (b : Bool) → glyphs_of (cond b [] (part_if g.intersection c.intersection)) ≡ glyphs_of (cond b [] (part_if g.intersection d.intersection))
    if-same true = refl
    if-same false = part_if-same g.intersection c.intersection d.intersection

parts-same : (t : CompactTable) (g : HorizontalLine ℕ) (c d : HorizontalLine Color) → glyphs_of (parts t g c) ≡ glyphs_of (parts t g d)
unfolding parts
parts-same t g c d =
    let rep : Part → Text = λ p. repeated p.0 p.1 in
    let inner : HorizontalLine Color → List Part = λ e. flat_map (column_parts t g e) (range_with_len 0 t.columns) in
    flat_map-append rep (part_if g.left c.left ++ inner c) (part_if g.right c.right)
    ∙ ap₂ (λ (a b : Text). a ++ b)
    (flat_map-append rep (part_if g.left c.left) (inner c)
    ∙ ap₂ (λ (a b : Text). a ++ b) (part_if-same g.left c.left d.left) (flat_map-parts rep (column_parts t g c) (column_parts t g d) (range_with_len 0 t.columns) (column-same t g c d))
    ∙ sym (flat_map-append rep (part_if g.left d.left) (inner d)))
    (part_if-same g.right c.right d.right)
    ∙ sym (flat_map-append rep (part_if g.left d.left ++ inner d) (part_if g.right d.right))

-- ---- lines

module _ (t : CompactTable) where
  -- a colour that the table was told
  told : (k : ℕ) → k < length (told_colors t.config) → IsAmong (get_or (told_colors t.config) k None) (compact_colors t)
  told k h = IsAmong-left (get_or (told_colors t.config) k None) (flat_map option_to_list (told_colors t.config)) (flat_map (colors_of_row t) (range_with_len 0 t.rows)) (listed-among (told_colors t.config) k h)

  -- a colour of one of its texts
  of_text : (r x : ℕ) → r < t.rows → x < t.columns → IsAmong (t.color (at r x)) (compact_colors t)
  of_text r x h k =
      let row : IsAmong (t.color (at r x)) (colors_of_row t r) = numbered-among (λ y. option_to_list (t.color (at r y))) (t.color (at r x)) 0 t.columns x k (let z : 0 + x ≡ x = omega arith in rw z (own-among (t.color (at r x)))) in
      let all : IsAmong (t.color (at r x)) (flat_map (colors_of_row t) (range_with_len 0 t.rows)) = numbered-among (colors_of_row t) (t.color (at r x)) 0 t.rows r h (let z : 0 + r ≡ r = omega arith in rw z row) in
      IsAmong-right (t.color (at r x)) (flat_map option_to_list (told_colors t.config)) (flat_map (colors_of_row t) (range_with_len 0 t.rows)) all

  abbrev Closes : Text → Text → Type 0
  Closes plain text = ClosesColors (compact_colors t) plain text

  abbrev plain : CompactTable
  plain = compact_without_colors t

  closes-margins : (x y : Text) → Closes x y → Closes (with_margins plain x) (with_margins t y)
  unfolding with_margins
  closes-margins x y h =
      closes-append (compact_colors t)
      (closes-append (compact_colors t) (closes-indent (compact_colors t) t.config.margin.left.fill t.config.margin.left.size t.config.margin_color.left (told 0 (lit< tt))) h)
      (closes-indent (compact_colors t) t.config.margin.right.fill t.config.margin.right.size t.config.margin_color.right (told 1 (lit< tt)))

  closes-sides : (f g : ℕ → Text) → ((x : ℕ) → x < t.columns → Closes (f x) (g x)) → Closes (between_sides plain f) (between_sides t g)
  unfolding between_sides
  closes-sides f g h =
      closes-append (compact_colors t)
      (closes-append (compact_colors t) (closes-glyph (compact_colors t) t.config.borders.left t.config.borders_color.left (told 20 (lit< tt)))
      (closes-flat_map (compact_colors t) _ _ 0 t.columns (λ x l m. closes-append (compact_colors t) (inner (x == 0)) (h x (omega arith)))))
      (closes-glyph (compact_colors t) t.config.borders.right t.config.borders_color.right (told 21 (lit< tt)))
    where
      inner : (b : Bool) → Closes (cond b [] (colored_glyph t.config.borders.vertical None)) (cond b [] (colored_glyph t.config.borders.vertical t.config.borders_color.vertical))
      inner true = closes-nil (compact_colors t)
      inner false = closes-glyph (compact_colors t) t.config.borders.vertical t.config.borders_color.vertical (told 22 (lit< tt))

  closes-cell : (r x : ℕ) → r < t.rows → x < t.columns → Closes (compact_cell plain r x) (compact_cell t r x)
  unfolding compact_cell_of
  closes-cell r x h k =
      let first : Text = first_line_of (t.text (at r x)) in
      let room : ℕ = t.width x - (t.config.padding.left.size + t.config.padding.right.size) in
      let share : ℕ × ℕ = if nat_le (width_of first) room then shares t.config.alignment (width_of first) room else (0, 0) in
      closes-append (compact_colors t)
      (closes-append (compact_colors t) (closes-indent (compact_colors t) t.config.padding.left.fill t.config.padding.left.size t.config.padding_color.left (told 4 (lit< tt))) (closes-plain (compact_colors t) (repeated 32 share.0)))
      (closes-append (compact_colors t) (closes-one (compact_colors t) (t.color (at r x)) first (of_text r x h k))
      (closes-append (compact_colors t) (closes-plain (compact_colors t) (repeated 32 share.1)) (closes-indent (compact_colors t) t.config.padding.right.fill t.config.padding.right.size t.config.padding_color.right (told 5 (lit< tt)))))

  closes-text_row : (r : ℕ) → r < t.rows → Closes (text_row plain r) (text_row t r)
  unfolding text_row
  closes-text_row r h = closes-margins (between_sides plain (compact_cell plain r)) (between_sides t (compact_cell t r)) (closes-sides (compact_cell plain r) (compact_cell t r) (λ x k. closes-cell r x h k))

  closes-padding_row : (color : Color) → Contains (compact_colors t) color → Closes (padding_row plain empty_color) (padding_row t color)
  unfolding padding_row
  closes-padding_row color among =
      closes-margins (between_sides plain (λ x. compact_indent 32 (t.width x) empty_color)) (between_sides t (λ x. compact_indent 32 (t.width x) color))
      (closes-sides (λ x. compact_indent 32 (t.width x) empty_color) (λ x. compact_indent 32 (t.width x) color) (λ x k. closes-indent (compact_colors t) 32 (t.width x) color among))

  -- a line without colours
  abbrev no_line_colors : HorizontalLine Color
  no_line_colors = record { main = None; intersection = None; left = None; right = None }

  closes-separator : (g : HorizontalLine ℕ) (c : HorizontalLine Color) → IsAmong c.main (compact_colors t) → IsAmong c.intersection (compact_colors t) → IsAmong c.left (compact_colors t) → IsAmong c.right (compact_colors t)
      → Closes (separator_row plain g no_line_colors) (separator_row t g c)
  unfolding separator_row parts
  closes-separator g c main crossing left right =
      let ps : List Part = parts t g c in
      let inside = parts-among (compact_colors t) ps (parts-all (λ color. IsAmong color (compact_colors t)) t g c main crossing left right) in
      let bare : parts_after None (parts t g no_line_colors) ≡ glyphs_of ps = parts-plain (parts t g no_line_colors) (parts-all (λ color. color ≡ None) t g no_line_colors refl refl refl refl) ∙ parts-same t g no_line_colors c in
      closes-margins (parts_after None (parts t g no_line_colors)) (parts_after None ps)
      (closes-same (compact_colors t) bare refl (more-colors inside (parts_close_colors ps)))

  abbrev Lines : List Text → List Text → Type 0
  Lines xs ys = AllZip (ClosesColors (compact_colors t)) xs ys

  zip-if : (b : Bool) (x y : Text) → Closes x y → Lines (line_if b x) (line_if b y)
  zip-if true x y h = (h, tt)
  zip-if false x y h = tt

  zip-margin : (m : Indent) (color : Color) → Contains (compact_colors t) color → Lines (compact_margin plain m empty_color) (compact_margin t m color)
  unfolding compact_margin compact_full_width compact_width
  zip-margin m color among = zip-replicate (ClosesColors (compact_colors t)) m.size _ _ (closes-indent (compact_colors t) m.fill (compact_full_width t) color among)

  zip-row : (r : ℕ) → r < t.rows → Lines (row_lines plain r) (row_lines t r)
  unfolding row_lines
  zip-row r h =
      let R = ClosesColors (compact_colors t) in
      let separator = zip-if (nat_lt 0 r && has_inner_horizontal t.config.borders) (separator_row plain (inner_line t.config.borders) no_line_colors) (separator_row t (inner_line t.config.borders) (inner_line t.config.borders_color))
      (closes-separator (inner_line t.config.borders) (inner_line t.config.borders_color) (told 16 (lit< tt)) (told 19 (lit< tt)) (told 20 (lit< tt)) (told 21 (lit< tt))) in
      let above = zip-replicate R t.config.padding.top.size (padding_row plain empty_color) (padding_row t t.config.padding_color.top) (closes-padding_row t.config.padding_color.top (told 6 (lit< tt))) in
      let below = zip-replicate R t.config.padding.bottom.size (padding_row plain empty_color) (padding_row t t.config.padding_color.bottom) (closes-padding_row t.config.padding_color.bottom (told 7 (lit< tt))) in
      zip-append R _ _ _ _ (zip-append R _ _ _ _ separator above) (closes-text_row r h, below)

pub compact_lines_close_colors : CompactLinesCloseColors
unfolding compact_lines
compact_lines_close_colors t =
    let R = ClosesColors (compact_colors t) in
    let b = t.config.borders in
    let c = t.config.borders_color in
    let plain : CompactTable = compact_without_colors t in
    let none : HorizontalLine Color = record { main = None; intersection = None; left = None; right = None } in
    let top = zip-if t (has_top t.config.borders) (separator_row plain (top_line b) none) (separator_row t (top_line b) (top_line c)) (closes-separator t (top_line b) (top_line c) (told t 8 (lit< tt)) (told t 11 (lit< tt)) (told t 9 (lit< tt)) (told t 10 (lit< tt))) in
    let bottom = zip-if t (has_bottom t.config.borders) (separator_row plain (bottom_line b) none) (separator_row t (bottom_line b) (bottom_line c)) (closes-separator t (bottom_line b) (bottom_line c) (told t 12 (lit< tt)) (told t 15 (lit< tt)) (told t 13 (lit< tt)) (told t 14 (lit< tt))) in
    let rows = zip-flat_map R (row_lines plain) (row_lines t) 0 t.rows (λ r l m. zip-row t r (omega arith)) in
    zip-append R _ _ _ _
    (zip-append R _ _ _ _ (zip-append R _ _ _ _ (zip-margin t t.config.margin.top t.config.margin_color.top (told t 2 (lit< tt))) top) rows)
    (zip-append R _ _ _ _ bottom (zip-margin t t.config.margin.bottom t.config.margin_color.bottom (told t 3 (lit< tt))))

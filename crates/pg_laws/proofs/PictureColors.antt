-- Each line of a picture closes its colours, and is the line of the same table without colours otherwise.
use Rattle.std.proofs.Common.{◌≡◌, ℕ, zero, suc, ◌+◌, ◌-◌, min, Bool, true, false, cond, ◌&&◌, ◌==◌, nat_lt, List, [], ◌∷◌, ◌++◌, map, flat_map, length, filter, slice_index_or, refl, sym, ap, ap₂, ◌∙◌, append-nil, arith, is_some, unwrap_or, subst, Option, Some, None, inl, inr}
use Rattle.std.specs.List.{AllZip, range_with_len, enumerate_from}
use Rattle.std.specs.Option.{option_to_list}
use Rattle.std.proofs.lemmas.Bool.{cases_Bool}
use Rattle.std.proofs.lemmas.List.Concat.{flat_map-append}
use Rattle.std.proofs.lemmas.List.Elements.{Contains-append_left, Contains-append_right, Contains-append_cases}
use Rattle.pg_layout.specs.declared.position.Position.{Position}
use Rattle.pg_layout.specs.declared.sides.Indent.{Indent}
use Rattle.pg_layout.specs.declared.sides.Offset.{Offset}
use Rattle.pg_layout.specs.declared.sides.Offset.TheVariants.{Start, End}
use Rattle.pg_layout.specs.Borders.{ends, horizontal_glyph, vertical_glyph, crossing_glyph}
use Rattle.pg_layout.specs.Position.{at}
use Rattle.pg_layout.specs.Text.{Text, width_of}
use Rattle.pg_layout.specs.Colors.{Color}
use Rattle.pg_config.specs.Config.{filled, has_horizontal, has_vertical, count_vertical, get_horizontal, get_vertical, get_intersection, get_horizontal_color, get_vertical_color, get_intersection_color, get_padding, get_padding_color, get_alignment_horizontal, get_alignment_vertical, get_formatting, get_justification, get_justification_color}
use Rattle.pg_config.specs.Overrides.{horizontal_override, vertical_override, crossing_override}
use Rattle.pg_config.specs.Offsets.{lookup_offset}
use Rattle.pg_config.specs.Settings.{setting_of}
use Rattle.pg_config.specs.Spans.{owner, rect_rows, is_left}
use Rattle.pg_picture.specs.Marks.{Mark, sep, line, only_if, body, marks_within, stands_within, place_of}
use Rattle.pg_picture.specs.Pieces.{Piece, words, repeated, written, fill, Style, style_at, shown, inner_width, left_share, line_with, text_line, text_height, text_top, block_line, Item, glyph, spaces, block, color_after, item_text, cut, separator_text}
use Rattle.pg_picture.specs.Inside.{items_after, last_color}
use Rattle.pg_picture.specs.Table.{Table, Hint, rect_marks, rect_height, rect_width, block_at, is_inside, vertical_at, row_part, line_of_row, is_covered, crossing_item, crossing_at, crossing, border_items, column_items, separator_part, separator_items, total_width, full_width, margin_line, margin_lines, is_blank_at, side_margin, mark_text, body_line, table_body}
use Rattle.pg_picture.specs.Picture.{top_lines, bottom_lines, body_lines, picture_lines}
use Rattle.pg_picture.specs.Straight.{left_margin, right_margin}
use Rattle.pg_picture.proofs.PiecesOfLines.{written-nil, written-append, written-cons, written-fill_plain, repeated-zero}
use Rattle.pg_picture.proofs.Separators.{cut-same, items_after-append, last_color-append, items_after-one, last_color-one, with_cuts-close}
use Rattle.pg_picture.proofs.Pictures.{body-same}
use Rattle.pg_laws.specs.Laws.{plain_piece, plain_item, colors_of_piece, ClosesColors, plain_mark, colors_of_mark, without_colors, margin_colors, picture_colors, PictureLinesCloseColors}
use Rattle.pg_laws.proofs.ColorsOfLines.{Among, closes-same, more-colors, zip-append, zip-replicate}
use Rattle.pg_laws.proofs.ColorsOfLines.{pieces_close_colors, separators_close_colors, lines_close_colors, parts_close_colors, compact_lines_close_colors}

-- ---- pieces

abbrev plain_text : List Piece → Text
plain_text ps = flat_map plain_piece ps

plain-append : (ps qs : List Piece) → plain_text (ps ++ qs) ≡ plain_text ps ++ plain_text qs
plain-append ps qs = flat_map-append plain_piece ps qs

plain-run : (c k : ℕ) (color : Option Color) → repeated c k ≡ plain_text (fill c k color)
unfolding fill
plain-run c zero color = repeated-zero c
plain-run c (suc k) color = sym (append-nil (repeated c (suc k)))

-- the first pieces are written as the others stand without colours
record Bare (bare pieces : List Piece) : Type 0 where
  is : written bare ≡ plain_text pieces

-- a fill is written without its colour as it stands in it
bare-fill : (c k : ℕ) (color : Option Color) → Bare (fill c k None) (fill c k color)
bare-fill c k color = record { is = written-fill_plain c k ∙ plain-run c k color }

bare-nil : Bare [] []
bare-nil = record { is = written-nil }

bare-append : {ps qs us vs : List Piece} → Bare ps us → Bare qs vs → Bare (ps ++ qs) (us ++ vs)
bare-append {ps} {qs} {us} {vs} a b = record { is = written-append ps qs ∙ ap₂ (λ (x y : Text). x ++ y) a.is b.is ∙ sym (plain-append us vs) }

bare-words : {ps us : List Piece} (text : Text) (color : Option Color) → Bare ps us → Bare (words text None ∷ ps) (words text color ∷ us)
bare-words {ps} {us} text color a = record { is = written-cons (words text None) ps ∙ ap (λ t. text ++ t) a.is }

bare-cond : (b : Bool) {ps qs us vs : List Piece} → Bare ps us → Bare qs vs → Bare (cond b ps qs) (cond b us vs)
bare-cond true x y = x
bare-cond false x y = y

-- the same style without colours
abbrev plain_style : Style → Style
plain_style style = record style { padding_color = filled None; justification_color = None }

bare-line_with : (style : Style) (color : Option Color) (w share : ℕ) (text : Text) → Bare (line_with (plain_style style) None w share text) (line_with style color w share text)
unfolding inner_width
bare-line_with style color w share text =
    let pad = style.padding in
    let rest : ℕ = w - (style.padding.left.size + style.padding.right.size) - share - width_of text in
    bare-append (bare-fill pad.left.fill pad.left.size style.padding_color.left)
    (bare-append (bare-fill style.justification share style.justification_color)
    (bare-words text color (bare-append (bare-fill style.justification rest style.justification_color) (bare-fill pad.right.fill pad.right.size style.padding_color.right))))

bare-block_line : (style : Style) (color : Option Color) (text : Text) (w h i : ℕ) → Bare (block_line (plain_style style) None text w h i) (block_line style color text w h i)
unfolding block_line text_top text_height text_line left_share inner_width
bare-block_line style color text w h i =
    bare-cond (nat_lt i (text_top style text h)) (bare-fill style.padding.top.fill w style.padding_color.top)
    (bare-cond (nat_lt i (text_top style text h + text_height style text h))
    (let shown_line : Text = slice_index_or (shown style.formatting text) (i - text_top style text h) [] in bare-line_with style color w (left_share style text w (width_of shown_line)) shown_line)
    (bare-fill style.padding.bottom.fill w style.padding_color.bottom))

-- the pieces of each number
bare-flat_map : (f g : ℕ → List Piece) (xs : List ℕ) → ((x : ℕ) → Bare (f x) (g x)) → Bare (flat_map f xs) (flat_map g xs)
bare-flat_map f g [] h = bare-nil
bare-flat_map f g (x ∷ xs) h = bare-append (h x) (bare-flat_map f g xs h)

-- ---- items

-- the first items are written as the others stand without colours, and leave none open
record BareItems (bare items : List Item) : Type 0 where
  is : items_after None bare ≡ flat_map plain_item items
  closed : last_color None bare ≡ None

bare_items-nil : BareItems [] []
bare_items-nil = record { is = unfold items_after in refl; closed = unfold last_color in refl }

bare_items-append : {ps qs us vs : List Item} → BareItems ps us → BareItems qs vs → BareItems (ps ++ qs) (us ++ vs)
bare_items-append {ps} {qs} {us} {vs} a b = record {
  is = items_after-append None ps qs ∙ ap₂ (λ (c : Option Color) (x : Text). x ++ items_after c qs) a.closed a.is ∙ ap (λ t. flat_map plain_item us ++ t) b.is ∙ sym (flat_map-append plain_item us vs);
  closed = last_color-append None ps qs ∙ ap (λ c. last_color c qs) a.closed ∙ b.closed;
}

-- an item after none
one-bare : (bare item : Item) → color_after None bare ≡ None → item_text None bare ≡ plain_item item → BareItems (bare ∷ []) (item ∷ [])
one-bare bare item none same = record {
  is = items_after-one None bare ∙ ap (λ c. cut None c ++ item_text c bare) none ∙ ap₂ (λ (a b : Text). a ++ b) (cut-same None) same ∙ sym (append-nil (plain_item item));
  closed = last_color-one None bare ∙ none;
}

bare-glyph : (g : ℕ) (own offset : Option Color) → BareItems (glyph g None None ∷ []) (glyph g own offset ∷ [])
bare-glyph g own offset = one-bare (glyph g None None) (glyph g own offset) refl refl

bare-spaces : (k : ℕ) → BareItems (spaces k ∷ []) (spaces k ∷ [])
bare-spaces k = one-bare (spaces k) (spaces k) refl refl

bare-block : {bare pieces : List Piece} → Bare bare pieces → BareItems (block bare ∷ []) (block pieces ∷ [])
bare-block {bare} {pieces} h = one-bare (block bare) (block pieces) refl h.is

bare_items-cond : (b : Bool) {ps qs us vs : List Item} → BareItems ps us → BareItems qs vs → BareItems (cond b ps qs) (cond b us vs)
bare_items-cond true x y = x
bare_items-cond false x y = y

bare_items-only_if : (b : Bool) (bare item : Item) → BareItems (bare ∷ []) (item ∷ []) → BareItems (only_if b bare) (only_if b item)
bare_items-only_if true bare item h = h
bare_items-only_if false bare item h = bare_items-nil

bare_items-flat_map : (f g : ℕ → List Item) (xs : List ℕ) → ((x : ℕ) → BareItems (f x) (g x)) → BareItems (flat_map f xs) (flat_map g xs)
bare_items-flat_map f g [] h = bare_items-nil
bare_items-flat_map f g (x ∷ xs) h = bare_items-append (h x) (bare_items-flat_map f g xs h)

bare_items-map : (f g : ℕ → Item) (xs : List ℕ) → ((x : ℕ) → BareItems (f x ∷ []) (g x ∷ [])) → BareItems (map f xs) (map g xs)
bare_items-map f g [] h = bare_items-nil
bare_items-map f g (x ∷ xs) h = bare_items-append (h x) (bare_items-map f g xs h)

bare_items-text : {bare items : List Item} → BareItems bare items → separator_text bare ≡ flat_map plain_item items
unfolding separator_text
bare_items-text {bare} {items} h = with_cuts-close None bare ∙ ap₂ (λ (t : Text) (c : Option Color). t ++ cut c None) h.is h.closed ∙ ap (λ t. flat_map plain_item items ++ t) (cut-same None) ∙ append-nil (flat_map plain_item items)

-- ---- a table without colours

ends-none : (i n : ℕ) → ends {A = Option Color} None None None i n ≡ None
ends-none i n = elim (cases_Bool (i == 0)) [ inl y ↦ rw y refl | inr m ↦ elim (cases_Bool (i == n)) [ inl y ↦ rw (m, y) refl | inr k ↦ rw (m, k) refl ] ]

module _ (t : Table) where
  no-vertical_color : (p : Position) (columns : ℕ) → get_vertical_color (without_colors t).config p columns ≡ None
  unfolding get_vertical_color vertical_override vertical_glyph
  no-vertical_color p columns = ends-none p.col columns

  no-horizontal_color : (p : Position) (rows : ℕ) → get_horizontal_color (without_colors t).config p rows ≡ None
  unfolding get_horizontal_color horizontal_override horizontal_glyph
  no-horizontal_color p rows = ends-none p.row rows

  no-intersection_color : (p : Position) (rows columns : ℕ) → get_intersection_color (without_colors t).config p rows columns ≡ None
  unfolding get_intersection_color crossing_override crossing_glyph
  no-intersection_color p rows columns = rw (ends-none p.col columns) (ends-none p.row rows)

  style-bare : (p : Position) → style_at (without_colors t).config p ≡ plain_style (style_at t.config p)
  unfolding style_at get_padding get_padding_color get_alignment_horizontal get_alignment_vertical get_formatting get_justification get_justification_color setting_of
  style-bare p = refl

  body-bare : body (without_colors t).config t.height t.rows ≡ body t.config t.height t.rows
  unfolding has_horizontal
  body-bare = body-same (without_colors t).config t.config t.height (λ r n. refl) t.rows

  rect_marks-bare : (p : Position) → rect_marks (without_colors t) p ≡ rect_marks t p
  unfolding rect_marks marks_within
  rect_marks-bare p = ap (λ l. filter (stands_within p.row (p.row + rect_rows t.config.spans p)) l) body-bare

  rect_width-bare : (p : Position) → rect_width (without_colors t) p ≡ rect_width t p
  unfolding rect_width has_vertical
  rect_width-bare p = refl

  bare-block_at : (p : Position) (mark : Mark) → Bare (block_at (without_colors t) p mark) (block_at t p mark)
  unfolding block_at rect_height
  bare-block_at p mark =
      let line_of : Style → ℕ → List Mark → List Piece = λ style w marks. block_line style None (t.text p) w (length marks) (place_of mark marks) in
      let same : line_of (style_at (without_colors t).config p) (rect_width (without_colors t) p) (rect_marks (without_colors t) p) ≡ line_of (plain_style (style_at t.config p)) (rect_width t p) (rect_marks t p) =
      λ i. line_of (style-bare p i) (rect_width-bare p i) (rect_marks-bare p i) in
      record { is = ap written same ∙ (bare-block_line (style_at t.config p) (t.color p) (t.text p) (rect_width t p) (length (rect_marks t p)) (place_of mark (rect_marks t p))).is }

  bare-vertical : (r i x : ℕ) → Bare (vertical_at (without_colors t).config t.columns (t.height r) (at r x) i) (vertical_at t.config t.columns (t.height r) (at r x) i)
  unfolding vertical_at get_vertical has_vertical lookup_offset
  bare-vertical r i x =
      rw (no-vertical_color (at r x) t.columns)
      (bare-cond (is_some (get_vertical t.config (at r x) t.columns)) (bare-fill _ 1 _) bare-nil)

  bare-row_part : (r i x : ℕ) → Bare (row_part (without_colors t) r i x) (row_part t r i x)
  unfolding row_part is_inside
  bare-row_part r i x =
      bare-append (bare-cond (is_inside t r x) bare-nil (bare-vertical r i x))
      (bare-cond (nat_lt x t.columns && is_left t.config.spans r x) (bare-block_at (owner t.config.spans r x) (line r i)) bare-nil)

  bare-crossing_item : (g : Option ℕ) (color : Option Color) → BareItems (crossing_item g None) (crossing_item g color)
  bare-crossing_item None color = bare_items-nil
  bare-crossing_item (Some g) color = bare-glyph g color None

  bare-crossing : (r x : ℕ) → BareItems (crossing (without_colors t) r x) (crossing t r x)
  unfolding crossing crossing_at is_inside is_covered get_intersection has_horizontal has_vertical
  bare-crossing r x =
      rw (no-intersection_color (at r x) t.rows t.columns)
      (bare_items-cond (is_inside t r x && is_covered t r x) bare_items-nil
      (bare_items-cond (has_vertical t.config x t.columns) (bare-crossing_item (get_intersection t.config (at r x) t.rows t.columns) (get_intersection_color t.config (at r x) t.rows t.columns)) bare_items-nil))

  bare-border_items : (p : Position) (w : ℕ) (g : Option ℕ) → BareItems (border_items (without_colors t).config p t.rows w g) (border_items t.config p t.rows w g)
  unfolding lookup_offset
  bare-border_items p w None = bare_items-only_if (nat_lt 0 w) (spaces w) (spaces w) (bare-spaces w)
  bare-border_items p w (Some g) = rw (no-horizontal_color p t.rows) (bare_items-map _ _ (range_with_len 0 w) (λ i. bare-glyph (unwrap_or (lookup_offset t.config.horizontal_chars p i w) g) (get_horizontal_color t.config p t.rows) (lookup_offset t.config.horizontal_colors p i w)))

  bare-column_items : (r x : ℕ) → BareItems (column_items (without_colors t) r x) (column_items t r x)
  unfolding column_items is_covered get_horizontal has_horizontal
  bare-column_items r x =
      let own : Position = owner t.config.spans r x in
      bare_items-cond (is_covered t r x)
      (bare_items-only_if (is_left t.config.spans r x) (block (block_at (without_colors t) own (sep r))) (block (block_at t own (sep r))) (bare-block (bare-block_at own (sep r))))
      (bare_items-cond (nat_lt x t.columns) (bare-border_items (at r x) (t.width x) (get_horizontal t.config (at r x) t.rows)) bare_items-nil)

  bare-mark : (mark : Mark) → mark_text (without_colors t) mark ≡ plain_mark t mark
  unfolding mark_text line_of_row separator_items separator_part
  bare-mark (line r i) = (bare-flat_map (row_part (without_colors t) r i) (row_part t r i) (range_with_len 0 (t.columns + 1)) (bare-row_part r i)).is
  bare-mark (sep r) = bare_items-text (bare_items-flat_map (separator_part (without_colors t) r) (separator_part t r) (range_with_len 0 (t.columns + 1)) (λ x. bare_items-append (bare-crossing r x) (bare-column_items r x)))

-- ---- margins

bare-side_margin : (hint : Hint) (indent : Indent) (offset : Offset) (color : Option Color) (i h : ℕ) → Bare (side_margin hint indent offset None i h) (side_margin hint indent offset color i h)
unfolding side_margin
bare-side_margin hint indent offset color i h = bare-cond (is_blank_at hint offset i h) (bare-fill 32 indent.size None) (bare-fill indent.fill indent.size color)

bare-margin_line : (indent : Indent) (offset : Offset) (color : Option Color) (w : ℕ) → Bare (margin_line indent offset None w) (margin_line indent offset color w)
unfolding margin_line
bare-margin_line indent (Start s) color w = bare-append (bare-fill 32 (min s w) None) (bare-fill indent.fill (w - min s w) color)
bare-margin_line indent (End e) color w = bare-append (bare-fill indent.fill (w - min e w) color) (bare-fill 32 (min e w) None)

-- ---- the colours of lines

abbrev colors_of : List Piece → List Color
colors_of ps = flat_map colors_of_piece ps

Among-append : (xs ys zs : List Color) → Among xs zs → Among ys zs → Among (xs ++ ys) zs
Among-append xs ys zs h k x m = elim (Contains-append_cases xs ys x m) [ inl a ↦ h x a | inr b ↦ k x b ]

Among-none : (zs : List Color) → Among [] zs
Among-none zs x m = absurd (omega (arith, m.1))

Among-fill : (c k : ℕ) (color : Option Color) (zs : List Color) → Among (option_to_list color) zs → Among (colors_of (fill c k color)) zs
unfolding fill
Among-fill c zero color zs h = Among-none zs
Among-fill c (suc k) color zs h = Among-append (option_to_list color) [] zs h (Among-none zs)

Among-cond : (b : Bool) (ps qs : List Piece) (zs : List Color) → Among (colors_of ps) zs → Among (colors_of qs) zs → Among (colors_of (cond b ps qs)) zs
Among-cond true ps qs zs h k = h
Among-cond false ps qs zs h k = k

Among-side_margin : (hint : Hint) (indent : Indent) (offset : Offset) (color : Option Color) (i h : ℕ) (zs : List Color) → Among (option_to_list color) zs → Among (colors_of (side_margin hint indent offset color i h)) zs
unfolding side_margin
Among-side_margin hint indent offset color i h zs inside =
    Among-cond (is_blank_at hint offset i h) (fill 32 indent.size None) (fill indent.fill indent.size color) zs (Among-fill 32 indent.size None zs (Among-none zs)) (Among-fill indent.fill indent.size color zs inside)

Among-two : (ps qs : List Piece) (zs : List Color) → Among (colors_of ps) zs → Among (colors_of qs) zs → Among (colors_of (ps ++ qs)) zs
Among-two ps qs zs h k = subst (λ l. Among l zs) (sym (flat_map-append colors_of_piece ps qs)) (Among-append (colors_of ps) (colors_of qs) zs h k)

Among-margin_line : (indent : Indent) (offset : Offset) (color : Option Color) (w : ℕ) (zs : List Color) → Among (option_to_list color) zs → Among (colors_of (margin_line indent offset color w)) zs
unfolding margin_line
Among-margin_line indent (Start s) color w zs inside =
    Among-two (fill 32 (min s w) None) (fill indent.fill (w - min s w) color) zs (Among-fill 32 (min s w) None zs (Among-none zs)) (Among-fill indent.fill (w - min s w) color zs inside)
Among-margin_line indent (End e) color w zs inside =
    Among-two (fill indent.fill (w - min e w) color) (fill 32 (min e w) None) zs (Among-fill indent.fill (w - min e w) color zs inside) (Among-fill 32 (min e w) None zs (Among-none zs))

-- ---- lines

module _ (hint : Hint) (t : Table) where
  from_sides : (xs : List Color) → Among xs (margin_colors t.config.margin_color) → Among xs (picture_colors t)
  from_sides xs h x m = Contains-append_left (margin_colors t.config.margin_color) (flat_map (colors_of_mark t) (table_body t)) x (h x m)

  left_among : Among (option_to_list t.config.margin_color.left) (picture_colors t)
  left_among = let c = t.config.margin_color in from_sides (option_to_list c.left) (λ x m. Contains-append_left (option_to_list c.left) (option_to_list c.right ++ (option_to_list c.top ++ option_to_list c.bottom)) x m)

  right_among : Among (option_to_list t.config.margin_color.right) (picture_colors t)
  right_among =
      let c = t.config.margin_color in
      from_sides (option_to_list c.right)
      (λ x m. Contains-append_right (option_to_list c.left) (option_to_list c.right ++ (option_to_list c.top ++ option_to_list c.bottom)) x (Contains-append_left (option_to_list c.right) (option_to_list c.top ++ option_to_list c.bottom) x m))

  top_among : Among (option_to_list t.config.margin_color.top) (picture_colors t)
  top_among =
      let c = t.config.margin_color in
      from_sides (option_to_list c.top)
      (λ x m. Contains-append_right (option_to_list c.left) (option_to_list c.right ++ (option_to_list c.top ++ option_to_list c.bottom)) x (Contains-append_right (option_to_list c.right) (option_to_list c.top ++ option_to_list c.bottom) x (Contains-append_left (option_to_list c.top) (option_to_list c.bottom) x m)))

  bottom_among : Among (option_to_list t.config.margin_color.bottom) (picture_colors t)
  bottom_among =
      let c = t.config.margin_color in
      from_sides (option_to_list c.bottom)
      (λ x m. Contains-append_right (option_to_list c.left) (option_to_list c.right ++ (option_to_list c.top ++ option_to_list c.bottom)) x (Contains-append_right (option_to_list c.right) (option_to_list c.top ++ option_to_list c.bottom) x (Contains-append_right (option_to_list c.top) (option_to_list c.bottom) x m)))

  abbrev Closes : Text → Text → Type 0
  Closes plain text = ClosesColors (picture_colors t) plain text

  bare-body_line : (i h : ℕ) (mark : Mark) → body_line hint (without_colors t) h (i, mark) ≡ plain_text (left_margin hint t i h) ++ (plain_mark t mark ++ plain_text (right_margin hint t i h))
  unfolding body_line
  bare-body_line i h mark =
      let c = t.config in
      ap₂ (λ (left right : Text). left ++ (mark_text (without_colors t) mark ++ right)) (bare-side_margin hint c.margin.left c.margin_offset.left c.margin_color.left i h).is (bare-side_margin hint c.margin.right c.margin_offset.right c.margin_color.right i h).is
      ∙ ap (λ text. plain_text (left_margin hint t i h) ++ (text ++ plain_text (right_margin hint t i h))) (bare-mark t mark)

  closes-body_line : (i h : ℕ) (mark : Mark) → Among (colors_of_mark t mark) (picture_colors t) → Closes (body_line hint (without_colors t) h (i, mark)) (body_line hint t h (i, mark))
  closes-body_line i h mark inside =
      let c = t.config in
      let left = left_margin hint t i h in
      let right = right_margin hint t i h in
      closes-same (picture_colors t) (bare-body_line i h mark) refl
      (more-colors
      (Among-append (colors_of left) (colors_of_mark t mark ++ colors_of right) (picture_colors t) (Among-side_margin hint c.margin.left c.margin_offset.left c.margin_color.left i h (picture_colors t) left_among)
      (Among-append (colors_of_mark t mark) (colors_of right) (picture_colors t) inside (Among-side_margin hint c.margin.right c.margin_offset.right c.margin_color.right i h (picture_colors t) right_among)))
      (lines_close_colors hint t i h mark))

  closes-body : (h i : ℕ) (ms : List Mark) → Among (flat_map (colors_of_mark t) ms) (picture_colors t)
      → AllZip (ClosesColors (picture_colors t)) (map (body_line hint (without_colors t) h) (enumerate_from i ms)) (map (body_line hint t h) (enumerate_from i ms))
  closes-body h i [] inside = tt
  closes-body h i (m ∷ ms) inside = (
    closes-body_line i h m (λ x k. inside x (Contains-append_left (colors_of_mark t m) (flat_map (colors_of_mark t) ms) x k)),
    closes-body h (i + 1) ms (λ x k. inside x (Contains-append_right (colors_of_mark t m) (flat_map (colors_of_mark t) ms) x k)),
  )

  body-lines : AllZip (ClosesColors (picture_colors t)) (body_lines hint (without_colors t) 0 (table_body (without_colors t))) (body_lines hint t 0 (table_body t))
  unfolding body_lines table_body
  body-lines =
      let marks : List Mark = body t.config t.height t.rows in
      subst (λ ms. AllZip (ClosesColors (picture_colors t)) (map (body_line hint (without_colors t) (length ms)) (enumerate_from 0 ms)) (map (body_line hint t (length (body t.config t.height t.rows))) (enumerate_from 0 (body t.config t.height t.rows)))) (sym (body-bare t))
      (closes-body (length marks) 0 marks (λ x m. Contains-append_right (margin_colors t.config.margin_color) (flat_map (colors_of_mark t) marks) x m))

  margin-lines : (indent : Indent) (offset : Offset) (color : Option Color) → Among (option_to_list color) (picture_colors t) → AllZip (ClosesColors (picture_colors t)) (margin_lines (without_colors t) indent offset None) (margin_lines t indent offset color)
  unfolding margin_lines full_width total_width count_vertical has_vertical
  margin-lines indent offset color inside =
      let w : ℕ = full_width t in
      let pieces : List Piece = margin_line indent offset color w in
      zip-replicate (ClosesColors (picture_colors t)) indent.size (written (margin_line indent offset None w)) (written pieces)
      (closes-same (picture_colors t) (bare-margin_line indent offset color w).is refl (more-colors (Among-margin_line indent offset color w (picture_colors t) inside) (pieces_close_colors pieces)))

  all-lines : AllZip (ClosesColors (picture_colors t)) (picture_lines hint (without_colors t)) (picture_lines hint t)
  unfolding picture_lines top_lines bottom_lines
  all-lines =
      let c = t.config in
      let R = ClosesColors (picture_colors t) in
      zip-append R _ _ _ _ (margin-lines c.margin.top c.margin_offset.top c.margin_color.top top_among)
      (zip-append R _ _ _ _ body-lines (margin-lines c.margin.bottom c.margin_offset.bottom c.margin_color.bottom bottom_among))

pub picture_lines_close_colors : PictureLinesCloseColors
picture_lines_close_colors = all-lines

-- each colour is closed in its line
pub ruleset closed_colors = (pieces_close_colors, separators_close_colors, lines_close_colors, parts_close_colors, compact_lines_close_colors, picture_lines_close_colors)

-- The text of a line of open cells and of a separator, one column after another.
use Rattle.std.proofs.Common.{◌≡◌, ℕ, ◌+◌, ◌-◌, ◌<◌, List, [], ◌∷◌, ◌++◌, map, flat_map, slice_index_or, Option, Some, None, refl, sym, ap, ap₂, ◌∙◌, append_assoc, zero-add, add-zero, add_assoc, max, Bool, true, false, nat_lt, arith, ◌==◌, replicate}
use Rattle.std.specs.List.{range_with_len}
use Rattle.pg_layout.specs.Text.{Text}
use Rattle.pg_config.specs.Config.{Config, has_horizontal}
use Rattle.pg_picture.specs.Inside.{line_start, line_end, items_after, last_color}
use Rattle.pg_picture.specs.Pieces.{Piece, written, block, cut, with_cuts, separator_text, continued}
use Rattle.pg_picture.specs.Table.{Table, vertical, crossing_at, margin_line}
use Rattle.pg_picture.proofs.PiecesOfLines.{written-append, written-nil}
use Rattle.pg_picture.proofs.Ranges.{range-more, range-cut}
use Rattle.pg_stream.specs.Inside.{open_part, open_line, line_at, open_line_at, open_lines, column_end, reach, cell_items, open_separator_part, open_separator, above_text, below_text, top_text}
use Rattle.pg_stream.specs.Placed.{Placed, slot_of}
use Rattle.pg_stream.specs.Inside.{draw_cell}
use Rattle.pg_stream.specs.Inside.{slot_block, separator_height}
use Rattle.pg_layout.specs.Colors.{Color}
use Rattle.pg_layout.specs.declared.position.Position.{Position}
use Rattle.pg_layout.specs.Position.{at}
use Rattle.pg_layout.proofs.TextLines.{greatest-more}
use Rattle.pg_config.specs.Spans.{Span}
use Rattle.pg_picture.proofs.Separators.{items_after-append, items_after-one, last_color-append, with_cuts-close}
use Rattle.std.proofs.lemmas.Bool.Decides.{nat_tests}

-- ---- the text of a line of open cells: of no column, of some and of one more, and the line between its margins

-- the parts of k columns and of one more
pub written-columns : (f : ℕ → List Piece) (k : ℕ) → written (flat_map f (range_with_len 0 (k + 1))) ≡ written (flat_map f (range_with_len 0 k)) ++ written (f k)
written-columns f k =
    ap written (range-more f 0 k)
    ∙ written-append (flat_map f (range_with_len 0 k)) (f (0 + k))
    ∙ ap (λ n. written (flat_map f (range_with_len 0 k)) ++ written (f n)) (zero-add k)

-- the parts of n columns, cut at one of them
pub written-columns_cut : (f : ℕ → List Piece) (k n : ℕ) → k < n
    → written (flat_map f (range_with_len 0 n)) ≡ written (flat_map f (range_with_len 0 k)) ++ (written (f k) ++ written (flat_map f (range_with_len (0 + k + 1) (n - (k + 1)))))
written-columns_cut f k n here =
    ap written (range-cut f 0 k n here)
    ∙ written-append (flat_map f (range_with_len 0 k)) (f (0 + k) ++ flat_map f (range_with_len (0 + k + 1) (n - (k + 1))))
    ∙ ap (λ t. written (flat_map f (range_with_len 0 k)) ++ t) (written-append (f (0 + k)) (flat_map f (range_with_len (0 + k + 1) (n - (k + 1)))))
    ∙ ap (λ m. written (flat_map f (range_with_len 0 k)) ++ (written (f m) ++ written (flat_map f (range_with_len (0 + k + 1) (n - (k + 1)))))) (zero-add k)

module _ (t : Table) (cells : List (Option Placed)) (r i : ℕ) where
  -- a column without an open cell adds nothing
  pub part-none : (x : ℕ) → slice_index_or cells x None ≡ None → [] ≡ written (open_part t cells r i x)
  unfolding open_part
  part-none x none = rw none (sym written-nil)

  -- one with an open cell adds its vertical and the cell's next line
  pub part-some : (x : ℕ) (cell : Placed) → slice_index_or cells x None ≡ Some cell → written (vertical t r i x) ++ written (slot_block t (slot_of (Some cell)) x) ≡ written (open_part t cells r i x)
  unfolding open_part
  part-some x cell some = rw some (sym (written-append (vertical t r i x) (slot_block t (slot_of (Some cell)) x)))

  -- the line, cut at a column
  pub line-cut : (k : ℕ) → k < t.columns
      → written (open_line t cells r i) ≡ written (flat_map (open_part t cells r i) (range_with_len 0 k)) ++ (written (open_part t cells r i k) ++ (written (flat_map (open_part t cells r i) (range_with_len (0 + k + 1) (t.columns - (k + 1)))) ++ written (vertical t r i t.columns)))
  unfolding open_line
  line-cut k here =
      let f = open_part t cells r i in
      written-append (flat_map f (range_with_len 0 t.columns)) (vertical t r i t.columns)
      ∙ ap (λ x. x ++ written (vertical t r i t.columns)) (written-columns_cut f k t.columns here)
      ∙ append_assoc (written (flat_map f (range_with_len 0 k))) (written (f k) ++ written (flat_map f (range_with_len (0 + k + 1) (t.columns - (k + 1))))) (written (vertical t r i t.columns))
      ∙ ap (λ x. written (flat_map f (range_with_len 0 k)) ++ x) (append_assoc (written (f k)) (written (flat_map f (range_with_len (0 + k + 1) (t.columns - (k + 1))))) (written (vertical t r i t.columns)))

  -- and its end
  pub line-end : (n x : ℕ) → n ≡ t.columns → x ≡ t.columns → written (flat_map (open_part t cells r i) (range_with_len 0 n)) ++ written (vertical t r i x) ≡ written (open_line t cells r i)
  unfolding open_line
  line-end n x all last =
      ap₂ (λ m y. written (flat_map (open_part t cells r i) (range_with_len 0 m)) ++ written (vertical t r i y)) all last
      ∙ sym (written-append (flat_map (open_part t cells r i) (range_with_len 0 t.columns)) (vertical t r i t.columns))

-- a line of the body: what stands before its text, the text, and what stands behind it
pub line_at-parts : (config : Config) (height : Option ℕ) (i : ℕ) (text : Text) → line_start config height i ++ (text ++ line_end config height i) ≡ line_at config height i text
unfolding line_at
line_at-parts config height i text = refl

-- ---- the lines of a row, one after another

pub drawn-none : (cells : List (Option Placed)) → cells ≡ map (draw_cell 0) cells
drawn-none [] = refl
drawn-none (None ∷ cells) = ap (λ l. None ∷ l) (drawn-none cells)
drawn-none (Some cell ∷ cells) = ap₂ (λ d l. Some (record cell { drawn = d }) ∷ l) (sym (add-zero cell.drawn)) (drawn-none cells)

pub drawn-more : (i j : ℕ) (cells : List (Option Placed)) → map (draw_cell j) (map (draw_cell i) cells) ≡ map (draw_cell (i + j)) cells
drawn-more i j [] = refl
drawn-more i j (None ∷ cells) = ap (λ l. None ∷ l) (drawn-more i j cells)
drawn-more i j (Some cell ∷ cells) = ap₂ (λ d l. Some (record cell { drawn = d }) ∷ l) (add_assoc cell.drawn i j) (drawn-more i j cells)

module _ (t : Table) (height : Option ℕ) (cells : List (Option Placed)) (r index : ℕ) where
  pub lines-none : [] ≡ open_lines t height cells r index 0
  unfolding open_lines
  lines-none = refl

  pub lines-more : (k : ℕ) → open_lines t height cells r index (k + 1) ≡ open_lines t height cells r index k ++ open_line_at t height cells r index k
  unfolding open_lines
  lines-more k =
      range-more (open_line_at t height cells r index) 0 k
      ∙ ap (λ n. flat_map (open_line_at t height cells r index) (range_with_len 0 k) ++ open_line_at t height cells r index n) (zero-add k)

  pub lines-cut : (k n : ℕ) → k < n
      → open_lines t height cells r index n ≡ open_lines t height cells r index k ++ (open_line_at t height cells r index k ++ flat_map (open_line_at t height cells r index) (range_with_len (0 + k + 1) (n - (k + 1))))
  unfolding open_lines
  lines-cut k n here =
      range-cut (open_line_at t height cells r index) 0 k n here
      ∙ ap (λ m. flat_map (open_line_at t height cells r index) (range_with_len 0 k) ++ (open_line_at t height cells r index m ++ flat_map (open_line_at t height cells r index) (range_with_len (0 + k + 1) (n - (k + 1))))) (zero-add k)

  -- a line of the cells as they are then
  pub line-now : (k : ℕ) (now : List (Option Placed)) → now ≡ map (draw_cell k) cells → line_at t.config height (index + k) (written (open_line t now r k)) ≡ open_line_at t height cells r index k
  unfolding open_line_at
  line-now k now is = ap (λ l. line_at t.config height (index + k) (written (open_line t l r k))) is

-- ---- the items of a separator of open cells, one column after the other

-- where k columns end, and one more
pub reach-more : (spans : List Span) (cells : List (Option Placed)) (k : ℕ) → max (reach spans cells k) (column_end spans (slice_index_or cells k None) k) ≡ reach spans cells (k + 1)
unfolding reach
reach-more spans cells k =
    let more = greatest-more (λ y. column_end spans (slice_index_or cells y None) y) k in
    omega (arith, more)

pub reach-none : (spans : List Span) (cells : List (Option Placed)) → 0 ≡ reach spans cells 0
unfolding reach
reach-none spans cells = refl

module _ (t : Table) (rows : ℕ) (cells : List (Option Placed)) (r x : ℕ) where
  -- nothing inside a cell
  pub part-inside : (b : Bool) → b ≡ nat_lt x (reach t.config.spans cells x) → b ≡ true → [] ≡ open_separator_part t rows cells r x
  unfolding open_separator_part
  part-inside b is inside = let e : nat_lt x (reach t.config.spans cells x) ≡ true = sym is ∙ inside in rw e refl

  -- its crossing and its item elsewhere
  pub part-outside : (b : Bool) → b ≡ nat_lt x (reach t.config.spans cells x) → b ≡ false
      → open_separator_part t rows cells r x ≡ crossing_at t.config rows t.columns (at r x) ++ cell_items t rows (slice_index_or cells x None) r x
  unfolding open_separator_part
  part-outside b is outside = let e : nat_lt x (reach t.config.spans cells x) ≡ false = sym is ∙ outside in rw e refl

-- the line of a cell, where no colour is open
pub items_after-block : (c : Option Color) (pieces : List Piece) → cut c None ++ written pieces ≡ items_after c (block pieces ∷ [])
items_after-block c pieces = sym (items_after-one c (block pieces))

-- the whole separator, of a run that begins with no colour open
pub separator-text : (t : Table) (rows : ℕ) (cells : List (Option Placed)) (r : ℕ) (p : Position) {o d e : Option Color} → p ≡ at r t.columns → o ≡ None
    → d ≡ last_color o (flat_map (open_separator_part t rows cells r) (range_with_len 0 t.columns)) → e ≡ last_color d (crossing_at t.config rows t.columns p)
    → items_after o (flat_map (open_separator_part t rows cells r) (range_with_len 0 t.columns)) ++ (items_after d (crossing_at t.config rows t.columns p) ++ cut e None) ≡ separator_text (open_separator t rows cells r)
unfolding separator_text open_separator
separator-text t rows cells r p {o} {d} {e} here none last ended =
    let xs = flat_map (open_separator_part t rows cells r) (range_with_len 0 t.columns) in
    let y = crossing_at t.config rows t.columns p in
    sym (append_assoc (items_after o xs) (items_after d y) (cut e None))
    ∙ ap₂ (λ (a b : Option Color). (items_after o xs ++ items_after a y) ++ cut b None) last (ended ∙ ap (λ c. last_color c y) last ∙ sym (last_color-append o xs y))
    ∙ ap (λ l. l ++ cut (last_color o (xs ++ y)) None) (sym (items_after-append o xs y))
    ∙ sym (with_cuts-close o (xs ++ y))
    ∙ ap₂ (λ (c : Option Color) (q : Position). with_cuts c (xs ++ crossing_at t.config rows t.columns q)) none here

-- ---- the separator above a row and the one below the last row, where they are there; and the top margin above row 0

module _ (t : Table) (height : Option ℕ) (cells : List (Option Placed)) (r index : ℕ) {there : Bool} where
  pub above-absent : there ≡ has_horizontal t.config r (r + 1) → there ≡ false → [] ≡ above_text t height cells r index
  unfolding above_text
  above-absent is absent = let e : has_horizontal t.config r (r + 1) ≡ false = sym is ∙ absent in rw e refl

  pub above-there : there ≡ has_horizontal t.config r (r + 1) → there ≡ true → line_at t.config height index (separator_text (open_separator t (r + 1) cells r)) ≡ above_text t height cells r index
  unfolding above_text
  above-there is present = let e : has_horizontal t.config r (r + 1) ≡ true = sym is ∙ present in rw e refl

  -- and its parts
  pub above-parts : there ≡ has_horizontal t.config r (r + 1) → there ≡ true
      → line_start t.config height index ++ (separator_text (open_separator t (r + 1) cells r) ++ line_end t.config height index) ≡ above_text t height cells r index
  above-parts is present = line_at-parts t.config height index (separator_text (open_separator t (r + 1) cells r)) ∙ above-there is present

  pub below-absent : there ≡ has_horizontal t.config r r → there ≡ false → [] ≡ below_text t height cells r index
  unfolding below_text
  below-absent is absent = let e : has_horizontal t.config r r ≡ false = sym is ∙ absent in rw e refl

  pub below-there : there ≡ has_horizontal t.config r r → there ≡ true → line_at t.config height index (separator_text (open_separator t r cells r)) ≡ below_text t height cells r index
  unfolding below_text
  below-there is present = let e : has_horizontal t.config r r ≡ true = sym is ∙ present in rw e refl

  pub below-parts : there ≡ has_horizontal t.config r r → there ≡ true
      → line_start t.config height index ++ (separator_text (open_separator t r cells r) ++ line_end t.config height index) ≡ below_text t height cells r index
  below-parts is present = line_at-parts t.config height index (separator_text (open_separator t r cells r)) ∙ below-there is present

module _ (config : Config) (r : ℕ) {there : Bool} where
  pub height-absent : there ≡ has_horizontal config r (r + 1) → there ≡ false → separator_height config r ≡ 0
  unfolding separator_height
  height-absent is absent = let e : has_horizontal config r (r + 1) ≡ false = sym is ∙ absent in rw e refl

  pub height-there : there ≡ has_horizontal config r (r + 1) → there ≡ true → separator_height config r ≡ 1
  unfolding separator_height
  height-there is present = let e : has_horizontal config r (r + 1) ≡ true = sym is ∙ present in rw e refl

pub top-none : (config : Config) (w rows : ℕ) → 0 < rows → [] ≡ top_text config w rows
unfolding top_text
top-none config w rows some = let e : (rows == 0) ≡ false = grind (arith, nat_tests, some) in rw e refl

pub top-some : (config : Config) (w rows : ℕ) → rows ≡ 0 → continued 0 (replicate config.margin.top.size (written (margin_line config.margin.top config.margin_offset.top config.margin_color.top w))) ≡ top_text config w rows
unfolding top_text
top-some config w rows none = rw none refl

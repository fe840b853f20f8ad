-- The lines of a compact table: those of its rows, its separators, and all of them.
use Rattle.std.proofs.Common.{◌≡◌, ℕ, suc, ◌+◌, ◌-◌, ◌<◌, List, [], ◌∷◌, ◌++◌, flat_map, length, drop, slice_index_or, get_or, Option, Some, None, refl, ap, ◌∙◌, subst, append_assoc, zero-add, arith, zero, ◌≤◌, inl, inr, ◌==◌, Bool, true, false, if◌then◌else◌, sym, ap₂, ◌&&◌, ◌||◌, not, nat_lt, length-append, replicate}
use Rattle.std.specs.Iterator.{Count, MakesProgress}
use Rattle.std.specs.List.{range_with_len}
use Rattle.std.proofs.Math.Seq.{drop-cons}
use Rattle.std.proofs.lemmas.Bool.{cases_lt}
use Rattle.pg_layout.specs.declared.position.Position.{Position}
use Rattle.pg_layout.specs.declared.sides.Indent.{Indent}
use Rattle.pg_layout.specs.declared.sides.Sides.{Sides}
use Rattle.pg_layout.specs.Colors.{Color}
use Rattle.pg_layout.specs.Position.{at}
use Rattle.pg_layout.specs.Records.{AlwaysGives}
use Rattle.pg_layout.specs.Text.{Text}
use Rattle.pg_config.specs.CompactConfig.{CompactSettings, settings_of}
use Rattle.pg_picture.specs.CompactLines.{CompactTable, compact_indent, colored_glyph, compact_cell_of, with_margins, between_sides, text_row, padding_row, Part, part_if, main_part, parts_after, parts, separator_row, compact_width, compact_full_width, top_line, bottom_line, inner_line, line_if, compact_margin, row_lines, compact_lines}
use Rattle.pg_picture.proofs.Ranges.{range-more, range-cut, range-add}
use Rattle.pg_compact.specs.declared.printer.CompactPrinter.{CompactPrinter}
use Rattle.pg_compact.specs.Inside.{AreRows, printed_table, inner_glyph, text_column, padding_column, column_parts, lines_between, lines_of_row, head_lines, foot_lines}
use Rattle.pg_compact.specs.RowEdges.{row_start, row_end}
use Rattle.pg_layout.specs.declared.borders.Borders.{Borders}
use Rattle.std.proofs.lemmas.List.Concat.{flat_map-append}
use Rattle.pg_layout.specs.declared.borders.HorizontalLine.{HorizontalLine}
use Rattle.pg_picture.specs.Pieces.{cut, fed, joined, continued}
use Rattle.pg_picture.specs.Inside.{open_parts, open_color, lines_before, feed_before}
use Rattle.pg_picture.proofs.PiecesOfLines.{open_parts-append, open_color-append, parts_after-close}
use Rattle.std.proofs.lemmas.Bool.Decides.{nat_tests}
use Rattle.std.proofs.lemmas.List.{length-replicate}
use Rattle.pg_layout.specs.Borders.{has_top, has_bottom, has_inner_horizontal}
use Rattle.pg_picture.specs.Picture.{compact_picture}
use Rattle.pg_picture.proofs.Pictures.{continued-nil, continued-line, continued-append, continued-any}

-- ---- the lines of a compact table's rows: what stands round the cells, one column after the other, and the cell that an iterator gives for a column

-- the texts of k columns and of one more
pub columns-more : (f : ℕ → Text) (k : ℕ) → flat_map f (range_with_len 0 (k + 1)) ≡ flat_map f (range_with_len 0 k) ++ f k
columns-more f k = range-more f 0 k ∙ ap (λ n. flat_map f (range_with_len 0 k) ++ f n) (zero-add k)

-- the texts of n columns, cut at one of them
pub columns-cut : (f : ℕ → Text) (k n : ℕ) → k < n → flat_map f (range_with_len 0 n) ≡ flat_map f (range_with_len 0 k) ++ (f k ++ flat_map f (range_with_len (0 + k + 1) (n - (k + 1))))
columns-cut f k n here = range-cut f 0 k n here ∙ ap (λ m. flat_map f (range_with_len 0 k) ++ (f m ++ flat_map f (range_with_len (0 + k + 1) (n - (k + 1))))) (zero-add k)

-- ---- what stands round the cells

pub row_start-text : (config : CompactSettings) (m : Sides Indent) (mc : Sides Color) → m ≡ config.margin → mc ≡ config.margin_color
    → compact_indent m.left.fill m.left.size mc.left ++ colored_glyph config.borders.left config.borders_color.left ≡ row_start config
unfolding row_start
row_start-text config m mc margin color = rw (margin, color) refl

-- a row line is its start, its columns and its end
around : (t : CompactTable) (l r : Text) (cells : Text)
    → (compact_indent t.config.margin.left.fill t.config.margin.left.size t.config.margin_color.left ++ l) ++ (cells ++ (r ++ compact_indent t.config.margin.right.fill t.config.margin.right.size t.config.margin_color.right))
    ≡ (compact_indent t.config.margin.left.fill t.config.margin.left.size t.config.margin_color.left ++ ((l ++ cells) ++ r)) ++ compact_indent t.config.margin.right.fill t.config.margin.right.size t.config.margin_color.right
around t l r cells = simp append_assoc

pub padding_row-text : (t : CompactTable) (color : Color) → row_start t.config ++ (flat_map (padding_column t color) (range_with_len 0 t.columns) ++ row_end t.config) ≡ padding_row t color
unfolding row_start row_end padding_row with_margins between_sides padding_column inner_glyph
padding_row-text t color =
    around t (colored_glyph t.config.borders.left t.config.borders_color.left) (colored_glyph t.config.borders.right t.config.borders_color.right) (flat_map (padding_column t color) (range_with_len 0 t.columns))

module _ {D C : Type 0} (width : D → ℕ → ℕ) (color : C → Position → Option Color) (p : CompactPrinter D C) (texts : List (List Text)) where
  pub text_row-text : (r : ℕ)
      → row_start (settings_of p.config.now) ++ (flat_map (text_column (printed_table width color p texts) r) (range_with_len 0 p.columns) ++ row_end (settings_of p.config.now))
      ≡ text_row (printed_table width color p texts) r
  unfolding row_start row_end text_row with_margins between_sides text_column inner_glyph
  text_row-text r =
      let t = printed_table width color p texts in
      around t (colored_glyph t.config.borders.left t.config.borders_color.left) (colored_glyph t.config.borders.right t.config.borders_color.right) (flat_map (text_column t r) (range_with_len 0 t.columns))

  -- the cell of a column, whose text was read
  pub cell-column : (r x : ℕ) (pos : Position) (text : Text) → pos ≡ at r x → text ≡ slice_index_or (slice_index_or texts r []) x []
      → inner_glyph (printed_table width color p []) pos.col ++ compact_cell_of (settings_of p.config.now) (width p.dimension pos.col) (color p.colors pos) text
      ≡ text_column (printed_table width color p texts) r x
  unfolding text_column inner_glyph
  cell-column r x pos text here is = rw (here, is) refl

-- ---- what an iterator gives, of which k items were taken

module _ {S A B : Type 0} (P : A → B → Type 0) (steps : S → Option A → S → Type 0) where
  pub record Taken (x : A) (t : S) (k : ℕ) (ys : List B) (d : B) : Type 0 where
    pub stands : P x (get_or ys k d)
    pub rest : AlwaysGives P steps t (drop (k + 1) ys)

  pub next-taken : (s : S) (x : A) (t : S) (k : ℕ) (ys : List B) (d : B) → AlwaysGives P steps s (drop k ys) → k < length ys → steps s (Some x) t → Taken x t k ys d
  next-taken s x t k ys d gives here step =
      let At : List B → Type 0 = λ l. AlwaysGives P steps s l in
      let now : AlwaysGives P steps s (get_or ys k d ∷ drop (suc k) ys) = subst At (drop-cons ys k d here) gives in
      let (is, more) = now.1 x t step in
      let After : ℕ → Type 0 = λ n. AlwaysGives P steps t (drop n ys) in
      let one : suc k ≡ k + 1 = omega arith in
      record { stands = is; rest = subst After one more }

  -- it hasn't ended before the last one
  pub none-ended : (s t : S) (k : ℕ) (ys : List B) (d : B) → AlwaysGives P steps s (drop k ys) → k < length ys → steps s None t → ⊥
  none-ended s t k ys d gives here step =
      let At : List B → Type 0 = λ l. AlwaysGives P steps s l in
      let now : AlwaysGives P steps s (get_or ys k d ∷ drop (suc k) ys) = subst At (drop-cons ys k d here) gives in
      now.0 t step

  -- an item was left
  pub some-left : (s : S) (x : A) (t : S) (k : ℕ) (ys : List B) → AlwaysGives P steps s (drop k ys) → steps s (Some x) t → k < length ys
  some-left s x t k ys gives step =
      elim (cases_lt k (length ys)) [
        | inl here ↦ here
        | inr past ↦
            let At : List B → Type 0 = λ l. AlwaysGives P steps s l in
            let over : AlwaysGives P steps s [] = subst At (drop-past k ys past) gives in
            absurd (over x t step)
      ]
    where
      drop-past : (k : ℕ) (ys : List B) → length ys ≤ k → drop k ys ≡ []
      drop-past zero [] past = refl
      drop-past zero (y ∷ ys) past = absurd (omega (arith, past))
      drop-past (suc k) [] past = refl
      drop-past (suc k) (y ∷ ys) past = drop-past k ys (omega (arith, past))

  -- at the end none was left
  pub none-left : (s t : S) (k : ℕ) (ys : List B) (d : B) → AlwaysGives P steps s (drop k ys) → steps s None t → length ys ≤ k
  none-left s t k ys d gives step =
      elim (cases_lt k (length ys)) [
        | inl here ↦ absurd (none-ended s t k ys d gives here step)
        | inr past ↦ past
      ]

-- a row that was taken, and the rows behind it
pub record RowTaken {S A : Type 0} (is_row : A → List Text → Type 0) (can : S → Type 0) (steps : S → Option A → S → Type 0) (left : S → Count) (columns r : ℕ) (texts : List (List Text)) (row : A) (rows : S) : Type 0 where
  pub stands : is_row row (slice_index_or texts r [])
  pub even : length (slice_index_or texts r []) ≡ columns
  pub rest : AreRows is_row can steps left columns (r + 1) texts rows

module _ {S A : Type 0} {is_row : A → List Text → Type 0} {can : S → Type 0} {steps : S → Option A → S → Type 0} {left : S → Count} {columns r : ℕ} {texts : List (List Text)} {s t : S} where
  pub row-taken : {row : A} → AreRows is_row can steps left columns r texts s → steps s (Some row) t → MakesProgress can left s (Some row) t → RowTaken is_row can steps left columns r texts row t
  row-taken {row} are step progress =
      let here : r < length texts = some-left is_row steps s row t r texts are.given.gives step in
      let taken = next-taken is_row steps s row t r texts [] are.given.gives here step in
      let goes = progress.on are.given.ends in
      record {
        stands = taken.stands;
        even = are.even r [] here;
        rest = record { given = record { can_next = goes.0; ends = goes.1; gives = taken.rest }; even = are.even; begun = omega (arith, here); count = are.count };
      }

  -- at the end all rows were taken
  pub rows-ended : AreRows is_row can steps left columns r texts s → steps s None t → length texts ≡ r
  rows-ended are step = omega (arith, none-left is_row steps s t r texts [] are.given.gives step, are.begun)

-- ---- what stands round the cells of a row, put together from its parts

module _ (config : CompactSettings) {none one both : Text} (g : Borders ℕ) (gc : Borders Color) (m : Sides Indent) (mc : Sides Color) where
  pub start-text : g ≡ config.borders → gc ≡ config.borders_color → m ≡ config.margin → mc ≡ config.margin_color
      → none ≡ [] → one ≡ none ++ compact_indent m.left.fill m.left.size mc.left → both ≡ one ++ colored_glyph g.left gc.left → both ≡ row_start config
  unfolding row_start
  start-text glyphs colors margin painted begun first last =
      last
      ∙ ap (λ (text : Text). text ++ colored_glyph g.left gc.left) (first ∙ ap (λ (text : Text). text ++ compact_indent m.left.fill m.left.size mc.left) begun)
      ∙ rw (glyphs, colors, margin, painted) refl

  pub end-text : g ≡ config.borders → gc ≡ config.borders_color → m ≡ config.margin → mc ≡ config.margin_color
      → none ≡ [] → one ≡ none ++ colored_glyph g.right gc.right → both ≡ one ++ compact_indent m.right.fill m.right.size mc.right → both ≡ row_end config
  unfolding row_end
  end-text glyphs colors margin painted begun first last =
      last
      ∙ ap (λ (text : Text). text ++ compact_indent m.right.fill m.right.size mc.right) (first ∙ ap (λ (text : Text). text ++ colored_glyph g.right gc.right) begun)
      ∙ rw (glyphs, colors, margin, painted) refl

-- ---- the parts of a compact separator, one column after the other, and its line

-- parts in two groups
pub open_parts-two : (c : Option Color) {all : List Part} (a b : List Part) {d : Option Color} → all ≡ a ++ b → d ≡ open_color c a → open_parts c a ++ open_parts d b ≡ open_parts c all
open_parts-two c a b is last = ap (λ e. open_parts c a ++ open_parts e b) last ∙ sym (open_parts-append c a b) ∙ ap (λ l. open_parts c l) (sym is)

pub open_color-two : (c : Option Color) {all : List Part} (a b : List Part) {d : Option Color} → all ≡ a ++ b → d ≡ open_color c a → open_color d b ≡ open_color c all
open_color-two c a b is last = ap (λ e. open_color e b) last ∙ sym (open_color-append c a b) ∙ ap (λ l. open_color c l) (sym is)

module _ (c : Option Color) (f : ℕ → List Part) where
  more : (k : ℕ) → flat_map f (range_with_len 0 (k + 1)) ≡ flat_map f (range_with_len 0 k) ++ f k
  more k = range-more f 0 k ∙ ap (λ n. flat_map f (range_with_len 0 k) ++ f n) (zero-add k)

  -- the parts of k columns and of one more
  pub open_parts-columns : (k : ℕ) {d : Option Color} → d ≡ open_color c (flat_map f (range_with_len 0 k))
      → open_parts c (flat_map f (range_with_len 0 k)) ++ open_parts d (f k) ≡ open_parts c (flat_map f (range_with_len 0 (k + 1)))
  open_parts-columns k last = open_parts-two c (flat_map f (range_with_len 0 k)) (f k) (more k) last

  pub open_color-columns : (k : ℕ) {d : Option Color} → d ≡ open_color c (flat_map f (range_with_len 0 k))
      → open_color d (f k) ≡ open_color c (flat_map f (range_with_len 0 (k + 1)))
  open_color-columns k last = open_color-two c (flat_map f (range_with_len 0 k)) (f k) (more k) last

  -- the parts of n columns, cut at one of them
  pub open_parts-columns_cut : (k n : ℕ) {d : Option Color} → d ≡ open_color c (flat_map f (range_with_len 0 k)) → k < n
      → open_parts c (flat_map f (range_with_len 0 n))
      ≡ open_parts c (flat_map f (range_with_len 0 k)) ++ (open_parts d (f k) ++ open_parts (open_color c (flat_map f (range_with_len 0 (k + 1)))) (flat_map f (range_with_len (0 + (k + 1)) (n - (k + 1)))))
  open_parts-columns_cut k n {d} last here =
      let all : n ≡ (k + 1) + (n - (k + 1)) = omega arith in
      let rest : List Part = flat_map f (range_with_len (0 + (k + 1)) (n - (k + 1))) in
      ap (λ m. open_parts c (flat_map f (range_with_len 0 m))) all
      ∙ ap (λ l. open_parts c (flat_map f l)) (range-add 0 (k + 1) (n - (k + 1)))
      ∙ ap (λ l. open_parts c l) (flat_map-append f (range_with_len 0 (k + 1)) (range_with_len (0 + (k + 1)) (n - (k + 1))))
      ∙ open_parts-append c (flat_map f (range_with_len 0 (k + 1))) rest
      ∙ ap (λ t. t ++ open_parts (open_color c (flat_map f (range_with_len 0 (k + 1)))) rest) (sym (open_parts-columns k last))
      ∙ append_assoc (open_parts c (flat_map f (range_with_len 0 k))) (open_parts d (f k)) (open_parts (open_color c (flat_map f (range_with_len 0 (k + 1)))) rest)

-- the first column has no crossing before it
pub crossing-part : (b : Bool) (g : Option ℕ) (color : Option Color) → part_if (if b then None else g) color ≡ (if b then [] else part_if g color)
crossing-part true g color = refl
crossing-part false g color = refl

-- a column is its crossing and its main part
pub column-parts : (t : CompactTable) (g : HorizontalLine ℕ) (c : HorizontalLine Color) (x w : ℕ) {crossing : Option ℕ} → crossing ≡ (if x == 0 then None else g.intersection) → w ≡ t.width x
    → column_parts t g c x ≡ part_if crossing c.intersection ++ main_part g.main c.main w
unfolding column_parts
column-parts t g c x w {crossing} is wide =
    sym (ap₂ (λ (o : Option ℕ) (n : ℕ). part_if o c.intersection ++ main_part g.main c.main n) is wide ∙ ap (λ l. l ++ main_part g.main c.main (t.width x)) (crossing-part (x == 0) g.intersection c.intersection))

-- three groups of parts, after none, and the end of the line
closed : (a b e : List Part) {o d f h : Option Color} → o ≡ None → d ≡ open_color o a → f ≡ open_color d b → h ≡ open_color f e
    → open_parts o a ++ (open_parts d b ++ (open_parts f e ++ cut h None)) ≡ parts_after None ((a ++ b) ++ e)
closed a b e {o} {d} {f} {h} begun one two three =
    let first : d ≡ open_color None a = one ∙ ap (λ x. open_color x a) begun in
    let second : f ≡ open_color None (a ++ b) = two ∙ open_color-two None a b refl first in
    let third : h ≡ open_color None ((a ++ b) ++ e) = three ∙ open_color-two None (a ++ b) e refl second in
    ap (λ x. open_parts x a ++ (open_parts d b ++ (open_parts f e ++ cut h None))) begun
    ∙ sym (append_assoc (open_parts None a) (open_parts d b) (open_parts f e ++ cut h None))
    ∙ ap (λ t. t ++ (open_parts f e ++ cut h None)) (open_parts-two None a b refl first)
    ∙ sym (append_assoc (open_parts None (a ++ b)) (open_parts f e) (cut h None))
    ∙ ap₂ (λ t x. t ++ cut x None) (open_parts-two None (a ++ b) e refl second) third
    ∙ sym (parts_after-close None ((a ++ b) ++ e))

pub parts-text : (t : CompactTable) (g : HorizontalLine ℕ) (c : HorizontalLine Color) {o d f h : Option Color} → o ≡ None → d ≡ open_color o (part_if g.left c.left)
    → f ≡ open_color d (flat_map (column_parts t g c) (range_with_len 0 t.columns)) → h ≡ open_color f (part_if g.right c.right)
    → open_parts o (part_if g.left c.left) ++ (open_parts d (flat_map (column_parts t g c) (range_with_len 0 t.columns)) ++ (open_parts f (part_if g.right c.right) ++ cut h None)) ≡ parts_after None (parts t g c)
unfolding parts column_parts
parts-text t g c begun one two three = closed (part_if g.left c.left) (flat_map (column_parts t g c) (range_with_len 0 t.columns)) (part_if g.right c.right) begun one two three

-- the line stands between the side margins
pub separator-line : (t : CompactTable) (g : HorizontalLine ℕ) (c : HorizontalLine Color) (m : Sides Indent) (mc : Sides Color) → m ≡ t.config.margin → mc ≡ t.config.margin_color
    → compact_indent m.left.fill m.left.size mc.left ++ (parts_after None (parts t g c) ++ compact_indent m.right.fill m.right.size mc.right) ≡ separator_row t g c
unfolding separator_row with_margins
separator-line t g c m mc margin color =
    rw (margin, color)
    (sym (append_assoc (compact_indent t.config.margin.left.fill t.config.margin.left.size t.config.margin_color.left) (parts_after None (parts t g c)) (compact_indent t.config.margin.right.fill t.config.margin.right.size t.config.margin_color.right)))

-- ---- the lines of a compact table: those of a row, those above and below the rows, and all of them

-- ---- lines after others

none_before : (b : Bool) → (lines_before b == 0) ≡ b
none_before true = refl
none_before false = refl

pub after-others : (xs : List Text) → continued (lines_before false) xs ≡ fed xs
unfolding continued
after-others xs = refl

fed-append : (xs ys : List Text) → fed (xs ++ ys) ≡ fed xs ++ fed ys
fed-append xs ys = flat_map-append (λ (line : Text). 10 ∷ line) xs ys

-- a line, and those after it
continued-cons : (m : ℕ) (x : Text) (xs : List Text) → continued m (x ∷ xs) ≡ (feed_before (m == 0) ++ x) ++ fed xs
unfolding joined continued
continued-cons zero x xs = refl
continued-cons (suc m) x xs = let some : (suc m == 0) ≡ false = grind (arith, nat_tests) in rw some refl

-- lines with one among them, and those after them
continued-then : (n : ℕ) (xs : List Text) (x : Text) (ys zs : List Text) → continued n ((xs ++ (x ∷ ys)) ++ zs) ≡ continued n (xs ++ (x ∷ ys)) ++ fed zs
unfolding continued
continued-then n xs x ys zs =
    continued-append n (xs ++ (x ∷ ys)) zs
    ∙ ap (λ k. continued n (xs ++ (x ∷ ys)) ++ continued k zs) (let e : n + length (xs ++ (x ∷ ys)) ≡ suc (n + length xs + length ys) = omega (arith, length-append xs (x ∷ ys)) in e)

-- a separator where its line is there
pub separator-absent : (n : ℕ) {there : Bool} (x : Text) → there ≡ false → [] ≡ continued n (line_if there x)
separator-absent n x absent = rw absent (sym (continued-nil n))

pub separator-there : (b : Bool) {there : Bool} (x : Text) → there ≡ true → feed_before b ++ x ≡ continued (lines_before b) (line_if there x)
separator-there b x present = rw present (sym (continued-line (lines_before b) x ∙ ap (λ n. feed_before n ++ x) (none_before b)))

-- ---- what doesn't depend on the texts

module _ {D C : Type 0} (width : D → ℕ → ℕ) (color : C → Position → Option Color) (p : CompactPrinter D C) (texts : List (List Text)) where
  padding-any : (c : Color) → padding_row (printed_table width color p []) c ≡ padding_row (printed_table width color p texts) c
  unfolding padding_row with_margins between_sides
  padding-any c = refl

  separator-any : (g : HorizontalLine ℕ) (c : HorizontalLine Color) → separator_row (printed_table width color p []) g c ≡ separator_row (printed_table width color p texts) g c
  unfolding separator_row with_margins parts
  separator-any g c = refl

  width-any : compact_full_width (printed_table width color p []) ≡ compact_full_width (printed_table width color p texts)
  unfolding compact_full_width compact_width
  width-any = refl

  head-any : head_lines (printed_table width color p []) ≡ head_lines (printed_table width color p texts)
  unfolding head_lines compact_margin compact_full_width compact_width separator_row with_margins parts
  head-any = refl

  foot-any : foot_lines (printed_table width color p []) ≡ foot_lines (printed_table width color p texts)
  unfolding foot_lines compact_margin compact_full_width compact_width separator_row with_margins parts
  foot-any = refl

  -- ---- the lines of a row

  pub row-text : (r : ℕ) (first : Bool) {text_first : Bool} (padding : Sides Indent) (colors : Sides Color)
      → padding ≡ p.config.now.padding → colors ≡ (printed_table width color p texts).config.padding_color → text_first ≡ ((lines_before first + padding.top.size) == 0)
      → continued (lines_before first) (replicate padding.top.size (padding_row (printed_table width color p []) colors.top))
      ++ ((feed_before text_first ++ text_row (printed_table width color p texts) r)
      ++ continued (lines_before false) (replicate padding.bottom.size (padding_row (printed_table width color p []) colors.bottom)))
      ≡ continued (lines_before first) (lines_of_row (printed_table width color p texts) r)
  unfolding lines_of_row
  row-text r first {text_first} padding colors pads coloured is =
      let t = printed_table width color p texts in
      let n : ℕ = lines_before first in
      let above : List Text = replicate padding.top.size (padding_row t colors.top) in
      let below : List Text = replicate padding.bottom.size (padding_row t colors.bottom) in
      ap₂ (λ a b. continued n (replicate padding.top.size a) ++ ((feed_before text_first ++ text_row t r) ++ continued (lines_before false) (replicate padding.bottom.size b))) (padding-any colors.top) (padding-any colors.bottom)
      ∙ ap₂ (λ a b. continued n above ++ ((feed_before a ++ text_row t r) ++ b)) is (after-others below)
      ∙ ap (λ x. continued n above ++ x) (sym (continued-cons (n + padding.top.size) (text_row t r) below))
      ∙ ap (λ k. continued n above ++ continued (n + k) (text_row t r ∷ below)) (sym (length-replicate padding.top.size (padding_row t colors.top)))
      ∙ sym (continued-append n above (text_row t r ∷ below))
      ∙ ap₂ (λ (m : Sides Indent) (c : Sides Color). continued n (replicate m.top.size (padding_row t c.top) ++ (text_row t r ∷ replicate m.bottom.size (padding_row t c.bottom)))) pads coloured

  -- a row after the first one, and the separator above it
  pub next_row-text : (r : ℕ) → 0 < r
      → continued (lines_before false) (lines_between (printed_table width color p [])) ++ continued (lines_before false) (lines_of_row (printed_table width color p texts) r)
      ≡ fed (row_lines (printed_table width color p texts) r)
  unfolding lines_of_row row_lines
  next_row-text r later =
      let t = printed_table width color p texts in
      let next : nat_lt 0 r ≡ true = grind (arith, nat_tests, later) in
      let line : List Text = lines_between t in
      let padding = t.config.padding in
      let above : List Text = replicate padding.top.size (padding_row t t.config.padding_color.top) in
      let below : List Text = text_row t r ∷ replicate padding.bottom.size (padding_row t t.config.padding_color.bottom) in
      ap (λ x. continued (lines_before false) (line_if (has_inner_horizontal t.config.borders) x) ++ continued (lines_before false) (above ++ below)) (separator-any (inner_line t.config.borders) (inner_line t.config.borders_color))
      ∙ rw next
      (ap₂ (λ a b. a ++ b) (after-others line) (after-others (above ++ below)) ∙ sym (fed-append line (above ++ below)) ∙ ap fed (sym (append_assoc line above below)))

  -- ---- above and below the rows

  pub head-text : (w : ℕ) (m : Sides Indent) (mc : Sides Color) {there first : Bool} (g : HorizontalLine ℕ) (c : HorizontalLine Color)
      → w ≡ compact_full_width (printed_table width color p []) → m ≡ p.config.now.margin → mc ≡ (printed_table width color p []).config.margin_color
      → there ≡ has_top p.config.now.borders → g ≡ top_line p.config.now.borders → c ≡ top_line (printed_table width color p []).config.borders_color → first ≡ (m.top.size == 0)
      → continued (lines_before true) (replicate m.top.size (compact_indent m.top.fill w mc.top)) ++ continued (lines_before first) (line_if there (separator_row (printed_table width color p []) g c))
      ≡ continued 0 (head_lines (printed_table width color p []))
  unfolding head_lines compact_margin
  head-text w m mc {there} {first} g c wide margin painted there_is glyphs colors first_is =
      let t = printed_table width color p [] in
      let above : List Text = replicate m.top.size (compact_indent m.top.fill w mc.top) in
      let line : List Text = line_if there (separator_row t g c) in
      ap (λ x. continued 0 above ++ x) (sym (continued-any m.top.size first line first_is))
      ∙ ap (λ k. continued 0 above ++ continued k line) (let e : m.top.size ≡ 0 + length above = omega (arith, length-replicate m.top.size (compact_indent m.top.fill w mc.top)) in e)
      ∙ sym (continued-append 0 above line)
      ∙ rw (there_is, glyphs, colors, wide, margin, painted) refl

  pub no_head : (m : Sides Indent) → m ≡ p.config.now.margin → ((m.top.size == 0) && not (has_top p.config.now.borders)) ≡ (length (head_lines (printed_table width color p [])) == 0)
  unfolding head_lines compact_margin
  no_head m margin =
      let t = printed_table width color p [] in
      let n : ℕ = t.config.margin.top.size in
      let line : Text = separator_row t (top_line t.config.borders) (top_line t.config.borders_color) in
      let fill : Text = compact_indent t.config.margin.top.fill (compact_full_width t) t.config.margin_color.top in
      let all : length (replicate n fill ++ line_if (has_top t.config.borders) line) ≡ n + length (line_if (has_top t.config.borders) line) = length-append (replicate n fill) (line_if (has_top t.config.borders) line) ∙ ap (λ k. k + length (line_if (has_top t.config.borders) line)) (length-replicate n fill) in
      ap (λ (s : Sides Indent). (s.top.size == 0) && not (has_top t.config.borders)) margin
      ∙ neither n (has_top t.config.borders) line
      ∙ ap (λ k. k == 0) (sym all)
    where
      neither : (n : ℕ) (there : Bool) (line : Text) → ((n == 0) && not there) ≡ ((n + length (line_if there line)) == 0)
      neither zero true line = refl
      neither zero false line = refl
      neither (suc n) true line = let a : (suc n == 0) ≡ false = grind (arith, nat_tests) in let b : ((suc n + 1) == 0) ≡ false = grind (arith, nat_tests) in rw (a, b) refl
      neither (suc n) false line = let a : (suc n == 0) ≡ false = grind (arith, nat_tests) in let b : ((suc n + 0) == 0) ≡ false = grind (arith, nat_tests) in rw (a, b) refl

  pub foot-text : (w : ℕ) (m : Sides Indent) (mc : Sides Color) {there : Bool} (g : HorizontalLine ℕ) (c : HorizontalLine Color)
      → w ≡ compact_full_width (printed_table width color p []) → m ≡ p.config.now.margin → mc ≡ (printed_table width color p []).config.margin_color
      → there ≡ has_bottom p.config.now.borders → g ≡ bottom_line p.config.now.borders → c ≡ bottom_line (printed_table width color p []).config.borders_color
      → continued (lines_before false) (line_if there (separator_row (printed_table width color p []) g c)) ++ continued (lines_before false) (replicate m.bottom.size (compact_indent m.bottom.fill w mc.bottom))
      ≡ fed (foot_lines (printed_table width color p []))
  unfolding foot_lines compact_margin
  foot-text w m mc {there} g c wide margin painted there_is glyphs colors =
      let t = printed_table width color p [] in
      let line : List Text = line_if there (separator_row t g c) in
      let below : List Text = replicate m.bottom.size (compact_indent m.bottom.fill w mc.bottom) in
      ap₂ (λ a b. a ++ b) (after-others line) (after-others below)
      ∙ sym (fed-append line below)
      ∙ rw (there_is, glyphs, colors, wide, margin, painted) refl

  -- ---- all lines

  -- the first row has no separator above it
  first-row : (t : CompactTable) → row_lines t 0 ≡ lines_of_row t 0
  unfolding row_lines lines_of_row
  first-row t = refl

  rows-split : (t : CompactTable) → 0 < t.rows → flat_map (row_lines t) (range_with_len 0 t.rows) ≡ lines_of_row t 0 ++ flat_map (row_lines t) (range_with_len 1 (t.rows - 1))
  rows-split t some =
      let n : t.rows ≡ suc (t.rows - 1) = omega (arith, some) in
      ap (λ k. flat_map (row_lines t) (range_with_len 0 k)) n ∙ ap (λ l. l ++ flat_map (row_lines t) (range_with_len 1 (t.rows - 1))) (first-row t)

  picture-some : (t : CompactTable) → 0 < t.rows → 0 < t.columns → compact_picture t ≡ joined (compact_lines t)
  unfolding compact_picture
  picture-some t rows columns = let some : ((t.rows == 0) || (t.columns == 0)) ≡ false = grind (arith, nat_tests, rows, columns) in rw some refl

  lines-split : (t : CompactTable) → 0 < t.rows → compact_lines t ≡ head_lines t ++ ((lines_of_row t 0 ++ flat_map (row_lines t) (range_with_len 1 (t.rows - 1))) ++ foot_lines t)
  unfolding compact_lines head_lines foot_lines
  lines-split t some =
      ap (λ l. (head_lines t ++ l) ++ foot_lines t) (rows-split t some)
      ∙ append_assoc (head_lines t) (lines_of_row t 0 ++ flat_map (row_lines t) (range_with_len 1 (t.rows - 1))) (foot_lines t)

  first-then : (t : CompactTable) (n : ℕ) (more : List Text) → continued n (lines_of_row t 0 ++ more) ≡ continued n (lines_of_row t 0) ++ fed more
  unfolding lines_of_row
  first-then t n more =
      continued-then n (replicate t.config.padding.top.size (padding_row t t.config.padding_color.top)) (text_row t 0) (replicate t.config.padding.bottom.size (padding_row t t.config.padding_color.bottom)) more

  pub table-text : {first : Bool} → 0 < length texts → 0 < p.columns → first ≡ (length (head_lines (printed_table width color p [])) == 0)
      → continued 0 (head_lines (printed_table width color p []))
      ++ (continued (lines_before first) (lines_of_row (printed_table width color p texts) 0)
      ++ (fed (flat_map (row_lines (printed_table width color p texts)) (range_with_len 1 (length texts - 1)))
      ++ fed (foot_lines (printed_table width color p []))))
      ≡ compact_picture (printed_table width color p texts)
  unfolding continued
  table-text {first} rows columns is =
      let t = printed_table width color p texts in
      let head : List Text = head_lines t in
      let own : List Text = lines_of_row t 0 in
      let next : List Text = flat_map (row_lines t) (range_with_len 1 (t.rows - 1)) in
      let foot : List Text = foot_lines t in
      let firstly : first ≡ (length head == 0) = is ∙ ap (λ (l : List Text). length l == 0) head-any in
      ap₂ (λ (a b : List Text). continued 0 a ++ (continued (lines_before first) own ++ (fed next ++ fed b))) head-any foot-any
      ∙ ap (λ x. continued 0 head ++ (continued (lines_before first) own ++ x)) (sym (fed-append next foot))
      ∙ ap (λ x. continued 0 head ++ (x ++ fed (next ++ foot))) (sym (continued-any (length head) first own firstly))
      ∙ ap (λ x. continued 0 head ++ x) (sym (first-then t (length head) (next ++ foot)))
      ∙ ap (λ k. continued 0 head ++ continued k (own ++ (next ++ foot))) (let e : length head ≡ 0 + length head = omega arith in e)
      ∙ sym (continued-append 0 head (own ++ (next ++ foot)))
      ∙ ap (λ l. continued 0 (head ++ l)) (sym (append_assoc own next foot))
      ∙ ap (λ l. continued 0 l) (sym (lines-split t rows))
      ∙ sym (picture-some t rows columns)

-- the lines of k rows after the first one, and of one more
pub next_rows-more : (f : ℕ → List Text) (k : ℕ) → fed (flat_map f (range_with_len 1 (k + 1))) ≡ fed (flat_map f (range_with_len 1 k)) ++ fed (f (k + 1))
next_rows-more f k =
    ap fed (range-more f 1 k ∙ ap (λ n. flat_map f (range_with_len 1 k) ++ f n) (let e : 1 + k ≡ k + 1 = omega arith in e))
    ∙ fed-append (flat_map f (range_with_len 1 k)) (f (k + 1))

-- the lines of n rows after the first one, cut at one of them
pub next_rows-cut : (f : ℕ → List Text) (k n : ℕ) → k < n → fed (flat_map f (range_with_len 1 n)) ≡ fed (flat_map f (range_with_len 1 k)) ++ (fed (f (k + 1)) ++ fed (flat_map f (range_with_len (1 + k + 1) (n - (k + 1)))))
next_rows-cut f k n here =
    ap fed (range-cut f 1 k n here ∙ ap (λ m. flat_map f (range_with_len 1 k) ++ (f m ++ flat_map f (range_with_len (1 + k + 1) (n - (k + 1))))) (let e : 1 + k ≡ k + 1 = omega arith in e))
    ∙ fed-append (flat_map f (range_with_len 1 k)) (f (k + 1) ++ flat_map f (range_with_len (1 + k + 1) (n - (k + 1))))
    ∙ ap (λ t. fed (flat_map f (range_with_len 1 k)) ++ t) (fed-append (f (k + 1)) (flat_map f (range_with_len (1 + k + 1) (n - (k + 1)))))

-- The picture: its margins, the lines of its body and their marks.
use Rattle.std.proofs.Common.{◌≡◌, ℕ, zero, suc, Bool, true, false, ◌⊎◌, inl, inr, ◌+◌, ◌-◌, ◌<◌, ◌==◌, List, [], ◌∷◌, ◌++◌, refl, sym, ap, ◌∙◌, append_assoc, append-nil, length, replicate, zero-add, suc-add, arith, length-append, Result, IfOk, ◌≤◌, map, ap₂, add_assoc, add-zero, subst, ◌&&◌, ◌||◌, Option, Some, get_or, flat_map, if◌then◌else◌}
use Rattle.std.proofs.lemmas.List.{length-replicate, replicate-append-replicate, map-append, length-map}
use Rattle.std.proofs.lemmas.List.Concat.{flat_map-append}
use Rattle.std.proofs.lemmas.Bool.Decides.{nat_tests}
use Rattle.pg_layout.specs.Text.{Text}
use Rattle.pg_picture.specs.Pieces.{fed, joined, continued, written}
use Rattle.pg_picture.specs.Inside.{lines_before, feed_before, body_text, line_start, line_end}
use Rattle.std.specs.List.{enumerate_from, range_with_len, All}
use Rattle.std.proofs.lemmas.List.FromFn.{length-enumerate_from, length-map-range_with_len, length-range_with_len, get_or-range_with_len}
use Rattle.pg_config.specs.Config.{Config, has_horizontal}
use Rattle.pg_config.proofs.EqualLines.{rows_stay}
use Rattle.pg_layout.specs.Position.{at}
use Rattle.pg_picture.specs.Marks.{Mark, sep, line, only_if, marks_of_row, marks_above, body}
use Rattle.pg_picture.specs.Table.{Table, Hint, Known, body_line, table_body, margin_line, margin_lines, full_width, side_margin_at, mark_text, Unknown, is_blank_at, side_margin}
use Rattle.pg_picture.proofs.Ranges.{range-add}
use Rattle.pg_picture.proofs.MarksOfRectangles.{rows_from, marks_above-add}
use Rattle.pg_picture.specs.Picture.{body_lines, top_lines, bottom_lines, picture_lines, picture}
use Rattle.std.proofs.lemmas.List.Elements.{All-nil, All-cons, All-append, All-map, All-head, All-tail}
use mathlib.Core.Path.{fun_ext}
use Rattle.pg_layout.specs.declared.sides.Offset.{Offset}
use Rattle.pg_layout.specs.declared.sides.Offset.TheVariants.{Start, End}
use Rattle.pg_picture.specs.Plain.{IsFromStart}

-- ---- joined lines: some lines more, and a line more

-- no line adds nothing
pub continued-nil : (n : ℕ) → continued n [] ≡ []
unfolding joined continued
continued-nil zero = refl
continued-nil (suc n) = refl

pub continued-append : (n : ℕ) (xs ys : List Text) → continued n (xs ++ ys) ≡ continued n xs ++ continued (n + length xs) ys
unfolding joined continued
continued-append zero [] ys = refl
continued-append zero (x ∷ xs) ys =
    rw (zero-add) (ap (λ t. x ++ t) (flat_map-append (λ (line : Text). 10 ∷ line) xs ys) ∙ sym (append_assoc x (fed xs) (fed ys)))
continued-append (suc n) xs ys = rw suc-add (flat_map-append (λ (line : Text). 10 ∷ line) xs ys)

-- a line stands after a line feed, unless it is the first
pub continued-one : (n : ℕ) (x : Text) → continued (suc n) (x ∷ []) ≡ 10 ∷ x
unfolding continued
continued-one n x = append-nil (10 ∷ x)

pub continued-first : (x : Text) → continued 0 (x ∷ []) ≡ x
unfolding joined continued
continued-first x = append-nil x

-- of the lines that stand already it counts only whether there are any
pub continued-line : (n : ℕ) (x : Text) → continued n (x ∷ []) ≡ feed_before (n == 0) ++ x
continued-line zero x = continued-first x
continued-line (suc n) x = let some : (suc n == 0) ≡ false = grind (arith, nat_tests) in rw some (continued-one n x)

-- equal lines: one more
pub continued-more : (n k : ℕ) {is_next : Bool} (x : Text) → is_next ≡ ((n + k) == 0) → continued n (replicate (k + 1) x) ≡ continued n (replicate k x) ++ (feed_before is_next ++ x)
continued-more n k {is_next} x is =
    ap (λ l. continued n l) (sym (replicate-append-replicate k 1 x))
    ∙ continued-append n (replicate k x) (x ∷ [])
    ∙ ap (λ m. continued n (replicate k x) ++ continued (n + m) (x ∷ [])) (length-replicate k x)
    ∙ ap (λ t. continued n (replicate k x) ++ t) (continued-line (n + k) x)
    ∙ ap (λ b. continued n (replicate k x) ++ (feed_before b ++ x)) (sym is)

-- equal lines, cut at one of them
pub continued-cut : (n k size : ℕ) {is_next : Bool} (x : Text) → is_next ≡ ((n + k) == 0) → k < size
    → continued n (replicate size x) ≡ continued n (replicate k x) ++ ((feed_before is_next ++ x) ++ continued (n + (k + 1)) (replicate (size - (k + 1)) x))
continued-cut n k size {is_next} x is here =
    let all : size ≡ (k + 1) + (size - (k + 1)) = omega arith in
    ap (λ m. continued n (replicate m x)) all
    ∙ ap (λ l. continued n l) (sym (replicate-append-replicate (k + 1) (size - (k + 1)) x))
    ∙ continued-append n (replicate (k + 1) x) (replicate (size - (k + 1)) x)
    ∙ ap (λ m. continued n (replicate (k + 1) x) ++ continued (n + m) (replicate (size - (k + 1)) x)) (length-replicate (k + 1) x)
    ∙ ap (λ t. t ++ continued (n + (k + 1)) (replicate (size - (k + 1)) x)) (continued-more n k x is)
    ∙ append_assoc (continued n (replicate k x)) (feed_before is_next ++ x) (continued (n + (k + 1)) (replicate (size - (k + 1)) x))

-- a line is the first one if none stands already and it is the first of its own
pub first-of : (is_first is_next : Bool) (k : ℕ) → ((is_first ≡ true) × (is_next ≡ (k == 0))) ⊎ ((is_first ≡ false) × (is_next ≡ false)) → is_next ≡ ((lines_before is_first + k) == 0)
first-of is_first is_next k (inl both) = rw (both.0, both.1) (ap (λ n. n == 0) (sym (zero-add k)))
first-of is_first is_next k (inr both) = rw (both.0, both.1) (let some : ((1 + k) == 0) ≡ false = grind (arith, nat_tests) in sym some)

-- ---- the lines of the body: of no marks, of some and of some more, and as they continue a text

enumerate_from-append : {X : Type 0} (n : ℕ) (xs ys : List X) → enumerate_from n (xs ++ ys) ≡ enumerate_from n xs ++ enumerate_from (n + length xs) ys
enumerate_from-append n [] ys = ap (λ k. enumerate_from k ys) (sym (add-zero n))
enumerate_from-append n (x ∷ xs) ys =
    ap (λ l. (n, x) ∷ l) (enumerate_from-append (n + 1) xs ys ∙ ap (λ k. enumerate_from (n + 1) xs ++ enumerate_from k ys) (let e : (n + 1) + length xs ≡ n + suc (length xs) = omega arith in e))

module _ (hint : Hint) (t : Table) where
  pub body_lines-nil : (i : ℕ) → body_lines hint t i [] ≡ []
  unfolding body_lines
  body_lines-nil i = refl

  pub body_lines-append : (i : ℕ) (xs ys : List Mark) → body_lines hint t i (xs ++ ys) ≡ body_lines hint t i xs ++ body_lines hint t (i + length xs) ys
  unfolding body_lines
  body_lines-append i xs ys =
      ap (λ l. map (body_line hint t (length (table_body t))) l) (enumerate_from-append i xs ys)
      ∙ map-append (body_line hint t (length (table_body t))) (enumerate_from i xs) (enumerate_from (i + length xs) ys)

  pub length-body_lines : (i : ℕ) (xs : List Mark) → length (body_lines hint t i xs) ≡ length xs
  unfolding body_lines
  length-body_lines i xs = length-map (enumerate_from i xs) (body_line hint t (length (table_body t))) ∙ length-enumerate_from i xs

  pub body_text-nil : (n i : ℕ) → body_text hint t n i [] ≡ []
  unfolding body_text
  body_text-nil n i = ap (λ l. continued (n + i) l) (body_lines-nil i) ∙ continued-nil (n + i)

  pub body_text-append : (n i : ℕ) (xs ys : List Mark) → body_text hint t n i (xs ++ ys) ≡ body_text hint t n i xs ++ body_text hint t n (i + length xs) ys
  unfolding body_text
  body_text-append n i xs ys =
      ap (λ l. continued (n + i) l) (body_lines-append i xs ys)
      ∙ continued-append (n + i) (body_lines hint t i xs) (body_lines hint t (i + length xs) ys)
      ∙ ap (λ k. continued (n + i) (body_lines hint t i xs) ++ continued k (body_lines hint t (i + length xs) ys))
      (ap (λ k. (n + i) + k) (length-body_lines i xs) ∙ add_assoc n i (length xs))

  -- one line: its line feed, unless it is the picture's first, and the line between its margins
  pub body_text-one : (n i : ℕ) (m : Mark) → body_text hint t n i (m ∷ []) ≡ feed_before ((n + i) == 0) ++ body_line hint t (length (table_body t)) (i, m)
  unfolding body_text body_lines
  body_text-one n i m = continued-line (n + i) (body_line hint t (length (table_body t)) (i, m))

-- the separator of a row that isn't below the last stands as in any table that has the row
pub sep-stays : (config : Config) (r rows : ℕ) → r < rows → has_horizontal config r (r + 1) ≡ has_horizontal config r rows
sep-stays config r rows h = (rows_stay config (at r 0) 0 (r + 1) rows (omega arith) h).line

range-from : (a k : ℕ) → range_with_len a (suc k) ≡ range_with_len a k ++ (a + k) ∷ []
range-from a zero = ap (λ n. n ∷ []) (sym (add-zero a))
range-from a (suc k) = ap (λ l. a ∷ l) (range-from (a + 1) k ∙ ap (λ n. range_with_len (a + 1) k ++ n ∷ []) (let e : (a + 1) + k ≡ a + suc k = omega arith in e))

range-one_more : (k : ℕ) → range_with_len 0 (k + 1) ≡ range_with_len 0 k ++ k ∷ []
range-one_more k = let e : k + 1 ≡ suc k = omega arith in ap (λ n. range_with_len 0 n) e ∙ range-from 0 k ∙ ap (λ n. range_with_len 0 k ++ n ∷ []) (zero-add k)

-- the first k lines of a row and one more
pub lines-more : (r k : ℕ) → map (line r) (range_with_len 0 (k + 1)) ≡ map (line r) (range_with_len 0 k) ++ line r k ∷ []
lines-more r k = ap (λ l. map (line r) l) (range-one_more k) ∙ map-append (line r) (range_with_len 0 k) (k ∷ [])

pub marks_above-more : (config : Config) (height : ℕ → ℕ) (r : ℕ) → marks_above config height (r + 1) ≡ marks_above config height r ++ marks_of_row config height r
unfolding marks_above
marks_above-more config height r = let e : r + 1 ≡ suc r = omega arith in subst (λ n. marks_above config height n ≡ marks_above config height r ++ marks_of_row config height r) (sym e) refl

-- the lines of a row, cut at one of them
lines-cut : (r k h : ℕ) → k < h → map (line r) (range_with_len 0 h) ≡ (map (line r) (range_with_len 0 k) ++ line r k ∷ []) ++ map (line r) (range_with_len (0 + (k + 1)) (h - (k + 1)))
lines-cut r k h here =
    let all : h ≡ (k + 1) + (h - (k + 1)) = omega arith in
    ap (λ m. map (line r) (range_with_len 0 m)) all
    ∙ ap (λ l. map (line r) l) (range-add 0 (k + 1) (h - (k + 1)))
    ∙ map-append (line r) (range_with_len 0 (k + 1)) (range_with_len (0 + (k + 1)) (h - (k + 1)))
    ∙ ap (λ l. l ++ map (line r) (range_with_len (0 + (k + 1)) (h - (k + 1)))) (lines-more r k)

-- a number that a call answers
pub IfOk-at : {E : Type 0} (r : Result ℕ E) {a b : ℕ} → a ≡ b → IfOk r (λ x. x ≡ a) → IfOk r (λ x. x ≡ b)
IfOk-at r {a} {b} e p = let P : ℕ → Type 0 = λ m. IfOk r (λ x. x ≡ m) in subst P e p

module _ (t : Table) (n : ℕ) where
  abbrev text : ℕ → List Mark → Text
  text i marks = body_text Known t n i marks

  abbrev pub lines_of : ℕ → ℕ → List Mark
  lines_of r k = map (line r) (range_with_len 0 k)

  abbrev pub separator_of : ℕ → List Mark
  separator_of r = only_if (has_horizontal t.config r t.rows) (sep r)

  abbrev above : ℕ → List Mark
  above r = marks_above t.config t.height r

  abbrev row_of : ℕ → List Mark
  row_of r = marks_of_row t.config t.height r

  -- some marks, some more and the rest
  text-cut : (i : ℕ) (xs ys zs : List Mark) → text i ((xs ++ ys) ++ zs) ≡ text i xs ++ (text (i + length xs) ys ++ text (i + length (xs ++ ys)) zs)
  text-cut i xs ys zs =
      body_text-append Known t n i (xs ++ ys) zs
      ∙ ap (λ x. x ++ text (i + length (xs ++ ys)) zs) (body_text-append Known t n i xs ys)
      ∙ append_assoc (text i xs) (text (i + length xs) ys) (text (i + length (xs ++ ys)) zs)

  pub row-more : (i r k : ℕ) → text i (lines_of r k) ++ text (i + k) (line r k ∷ []) ≡ text i (lines_of r (k + 1))
  row-more i r k =
      sym (ap (λ l. text i l) (lines-more r k)
      ∙ body_text-append Known t n i (lines_of r k) (line r k ∷ [])
      ∙ ap (λ m. text i (lines_of r k) ++ text (i + m) (line r k ∷ [])) (length-map-range_with_len (line r) 0 k))

  pub row-cut : (i r k h : ℕ) → k < h → text i (lines_of r h) ≡ text i (lines_of r k) ++ (text (i + k) (line r k ∷ []) ++ text (i + length (lines_of r k ++ line r k ∷ [])) (map (line r) (range_with_len (0 + (k + 1)) (h - (k + 1)))))
  row-cut i r k h here =
      let rest : List Mark = map (line r) (range_with_len (0 + (k + 1)) (h - (k + 1))) in
      ap (λ l. text i l) (lines-cut r k h here)
      ∙ text-cut i (lines_of r k) (line r k ∷ []) rest
      ∙ ap (λ m. text i (lines_of r k) ++ (text (i + m) (line r k ∷ []) ++ text (i + length (lines_of r k ++ line r k ∷ [])) rest)) (length-map-range_with_len (line r) 0 k)

  -- a separator that isn't there
  pub absent-text : (i rows r : ℕ) {is : Bool} → is ≡ has_horizontal t.config r rows → rows ≡ t.rows → is ≡ false → [] ≡ text i (separator_of r)
  absent-text i rows r {is} has all absent =
      let none : has_horizontal t.config r t.rows ≡ false = sym (ap (λ m. has_horizontal t.config r m) all) ∙ sym has ∙ absent in
      sym (ap (λ b. text i (only_if b (sep r))) none ∙ body_text-nil Known t n i)

  -- a row: its separator and its lines
  row-marks : (r : ℕ) → r < t.rows → row_of r ≡ separator_of r ++ lines_of r (t.height r)
  unfolding marks_of_row
  row-marks r h = ap (λ b. only_if b (sep r) ++ lines_of r (t.height r)) (sep-stays t.config r t.rows h)

  row-length : (r : ℕ) → r < t.rows → length (row_of r) ≡ length (separator_of r) + t.height r
  row-length r h = ap length (row-marks r h) ∙ length-append (separator_of r) (lines_of r (t.height r)) ∙ ap (λ m. length (separator_of r) + m) (length-map-range_with_len (line r) 0 (t.height r))

  pub separator-room : (i r height : ℕ) → r < t.rows → i + length (row_of r) ≤ height → i + length (separator_of r) ≤ height
  separator-room i r height h room = omega (arith, row-length r h, room)

  pub lines-room : (i next r height : ℕ) → next ≡ i + length (separator_of r) → r < t.rows → i + length (row_of r) ≤ height → next + t.height r ≤ height
  lines-room i next r height is h room = omega (arith, row-length r h, room, is)

  pub row-end : (i next r : ℕ) → next ≡ i + length (separator_of r) → r < t.rows → next + t.height r ≡ i + length (row_of r)
  row-end i next r is h = omega (arith, row-length r h, is)

  pub row-text : (i next r : ℕ) → next ≡ i + length (separator_of r) → r < t.rows → text i (separator_of r) ++ text next (lines_of r (t.height r)) ≡ text i (row_of r)
  row-text i next r is h =
      ap (λ m. text i (separator_of r) ++ text m (lines_of r (t.height r))) is
      ∙ sym (ap (λ l. text i l) (row-marks r h) ∙ body_text-append Known t n i (separator_of r) (lines_of r (t.height r)))

  -- the rows above the first one
  above-nil : above 0 ≡ []
  unfolding marks_above
  above-nil = refl

  pub above-none : 0 ≡ length (above 0)
  above-none = sym (ap length above-nil)

  pub above-none-text : [] ≡ text 0 (above 0)
  above-none-text = sym (ap (λ l. text 0 l) above-nil ∙ body_text-nil Known t n 0)

  -- the rows above, and one more
  pub above-length : (i r : ℕ) → i ≡ length (above r) → i + length (row_of r) ≡ length (above (r + 1))
  above-length i r is = ap (λ m. m + length (row_of r)) is ∙ sym (ap length (marks_above-more t.config t.height r) ∙ length-append (above r) (row_of r))

  pub above-text : (i r : ℕ) → i ≡ length (above r) → text 0 (above r) ++ text i (row_of r) ≡ text 0 (above (r + 1))
  above-text i r is =
      ap (λ m. text 0 (above r) ++ text m (row_of r)) (is ∙ sym (zero-add (length (above r))))
      ∙ sym (ap (λ l. text 0 l) (marks_above-more t.config t.height r) ∙ body_text-append Known t n 0 (above r) (row_of r))

  -- what follows row r
  abbrev rest_of : ℕ → List Mark
  rest_of r = rows_from t.config t.height (r + 1) (t.rows - (r + 1)) ++ separator_of t.rows

  -- the body, cut at a row
  body-cut : (r : ℕ) → r < t.rows → table_body t ≡ (above r ++ row_of r) ++ rest_of r
  unfolding table_body body
  body-cut r h =
      let all : t.rows ≡ (r + 1) + (t.rows - (r + 1)) = omega arith in
      let from : List Mark = rows_from t.config t.height (r + 1) (t.rows - (r + 1)) in
      ap (λ l. l ++ separator_of t.rows)
      (ap (λ m. above m) all ∙ marks_above-add t.config t.height (r + 1) (t.rows - (r + 1)) ∙ ap (λ l. l ++ from) (marks_above-more t.config t.height r))
      ∙ append_assoc (above r ++ row_of r) from (separator_of t.rows)

  pub row-room : (i r height : ℕ) → i ≡ length (above r) → height ≡ length (table_body t) → r < t.rows → i + length (row_of r) ≤ height
  row-room i r height is all h =
      let cut : length (table_body t) ≡ length (above r ++ row_of r) + length (rest_of r) = ap length (body-cut r h) ∙ length-append (above r ++ row_of r) (rest_of r) in
      omega (arith, cut, length-append (above r) (row_of r), is, all)

  pub body-text-cut : (i r : ℕ) → i ≡ length (above r) → r < t.rows → text 0 (table_body t) ≡ text 0 (above r) ++ (text i (row_of r) ++ text (0 + length (above r ++ row_of r)) (rest_of r))
  body-text-cut i r is h =
      ap (λ l. text 0 l) (body-cut r h)
      ∙ text-cut 0 (above r) (row_of r) (rest_of r)
      ∙ ap (λ m. text 0 (above r) ++ (text m (row_of r) ++ text (0 + length (above r ++ row_of r)) (rest_of r))) (zero-add (length (above r)) ∙ sym is)

  -- the body: all rows, and the separator below them
  body-end : table_body t ≡ above t.rows ++ separator_of t.rows
  unfolding table_body body
  body-end = refl

  pub last-room : (i r height : ℕ) → i ≡ length (above r) → r ≡ t.rows → height ≡ length (table_body t) → i + length (separator_of t.rows) ≤ height
  last-room i r height is ended all =
      let whole : length (table_body t) ≡ length (above t.rows) + length (separator_of t.rows) = ap length body-end ∙ length-append (above t.rows) (separator_of t.rows) in
      let here : i ≡ length (above t.rows) = is ∙ ap (λ m. length (above m)) ended in
      omega (arith, whole, here, all)

  pub last-text : (i r : ℕ) → i ≡ length (above r) → r ≡ t.rows → text 0 (above r) ++ text i (separator_of t.rows) ≡ text 0 (table_body t)
  last-text i r is ended =
      ap₂ (λ m k. text 0 (above m) ++ text k (separator_of t.rows)) ended (is ∙ ap (λ m. length (above m)) ended ∙ sym (zero-add (length (above t.rows))))
      ∙ sym (ap (λ l. text 0 l) body-end ∙ body_text-append Known t n 0 (above t.rows) (separator_of t.rows))

-- ---- the picture as its parts: the top margin, the body and the bottom margin

-- of the lines that stand already it counts only whether there are any
pub continued-any : (n : ℕ) (b : Bool) (xs : List Text) → b ≡ (n == 0) → continued n xs ≡ continued (lines_before b) xs
unfolding continued
continued-any zero b xs is = rw is refl
continued-any (suc n) b xs is = let some : (suc n == 0) ≡ false = grind (arith, nat_tests) in rw (is, some) refl

-- no line stands in two parts where none stands in either
pub none-of-two : (a b : ℕ) → ((a == 0) && (b == 0)) ≡ ((a + b) == 0)
none-of-two zero b = ap (λ n. n == 0) (sym (zero-add b))
none-of-two (suc a) b = let e : (suc a == 0) ≡ false = grind (arith, nat_tests) in let f : ((suc a + b) == 0) ≡ false = grind (arith, nat_tests) in rw (e, f) refl

pub length-top : (t : Table) → length (top_lines t) ≡ t.config.margin.top.size
unfolding top_lines margin_lines
length-top t = length-replicate t.config.margin.top.size _

pub picture-text : (hint : Hint) (t : Table) (height : ℕ) → height ≡ length (table_body t)
    → continued 0 (top_lines t)
    ++ (body_text hint t t.config.margin.top.size 0 (table_body t)
    ++ continued (lines_before ((t.config.margin.top.size == 0) && (height == 0))) (bottom_lines t))
    ≡ joined (picture_lines hint t)
unfolding picture_lines body_text continued
picture-text hint t height is =
    let top = top_lines t in
    let lines = body_lines hint t 0 (table_body t) in
    let n : ℕ = t.config.margin.top.size in
    let before : length top ≡ n = length-top t in
    let drawn : length lines ≡ height = length-body_lines hint t 0 (table_body t) ∙ sym is in
    let body_is : continued (n + 0) lines ≡ continued (0 + length top) lines =
    ap (λ k. continued k lines) (add-zero n ∙ sym before ∙ sym (zero-add (length top))) in
    let bottom_is : continued (lines_before ((n == 0) && (height == 0))) (bottom_lines t) ≡ continued ((0 + length top) + length lines) (bottom_lines t) =
    sym (continued-any ((0 + length top) + length lines) ((n == 0) && (height == 0)) (bottom_lines t)
    (none-of-two n height ∙ ap (λ k. k == 0) (ap₂ (λ a b. a + b) (sym before ∙ sym (zero-add (length top))) (sym drawn)))) in
    ap₂ (λ a b. continued 0 top ++ (a ++ b)) body_is bottom_is
    ∙ ap (λ x. continued 0 top ++ x) (sym (continued-append (0 + length top) lines (bottom_lines t)))
    ∙ sym (continued-append 0 top (lines ++ bottom_lines t))

-- the same with the margins' lines as they are written
pub picture-parts : (hint : Hint) (t : Table) (width height : ℕ) {is_first is_last : Bool} → width ≡ full_width t → height ≡ length (table_body t)
    → is_first ≡ (t.config.margin.top.size == 0) → is_last ≡ (is_first && (height == 0))
    → continued 0 (replicate t.config.margin.top.size (written (margin_line t.config.margin.top t.config.margin_offset.top t.config.margin_color.top width)))
    ++ (body_text hint t t.config.margin.top.size 0 (table_body t)
    ++ continued (lines_before is_last) (replicate t.config.margin.bottom.size (written (margin_line t.config.margin.bottom t.config.margin_offset.bottom t.config.margin_color.bottom width))))
    ≡ joined (picture_lines hint t)
unfolding top_lines bottom_lines margin_lines
picture-parts hint t width height {is_first} {is_last} wide high first last =
    let top = λ (w : ℕ). replicate t.config.margin.top.size (written (margin_line t.config.margin.top t.config.margin_offset.top t.config.margin_color.top w)) in
    let bottom = λ (w : ℕ). replicate t.config.margin.bottom.size (written (margin_line t.config.margin.bottom t.config.margin_offset.bottom t.config.margin_color.bottom w)) in
    ap (λ w. continued 0 (top w) ++ (body_text hint t t.config.margin.top.size 0 (table_body t) ++ continued (lines_before is_last) (bottom w))) wide
    ∙ ap (λ b. continued 0 (top_lines t) ++ (body_text hint t t.config.margin.top.size 0 (table_body t) ++ continued (lines_before b) (bottom_lines t))) (last ∙ ap (λ a. a && (height == 0)) first)
    ∙ picture-text hint t height high

pub picture-none : (hint : Hint) (t : Table) → ((t.rows == 0) || (t.columns == 0)) ≡ true → picture hint t ≡ []
unfolding picture
picture-none hint t none = rw none refl

pub picture-some : (hint : Hint) (t : Table) → ((t.rows == 0) || (t.columns == 0)) ≡ false → picture hint t ≡ joined (picture_lines hint t)
unfolding picture
picture-some hint t some = rw some refl

-- ---- a line of the body and its margins, as the texts that are appended for it

-- a line: its start, what stands between the margins, and its end
pub line-text : (t : Table) {height : Option ℕ} (i : ℕ) (m : Mark) → height ≡ Some (length (table_body t))
    → line_start t.config height i ++ (mark_text t m ++ line_end t.config height i) ≡ body_text Known t t.config.margin.top.size i (m ∷ [])
unfolding body_line
line-text t {height} i m is =
    let n : ℕ = t.config.margin.top.size in
    let h : ℕ = length (table_body t) in
    ap (λ (k : Option ℕ). line_start t.config k i ++ (mark_text t m ++ line_end t.config k i)) is
    ∙ append_assoc (feed_before ((n == 0) && (i == 0))) (written (side_margin_at (Some h) t.config.margin.left t.config.margin_offset.left t.config.margin_color.left i)) (mark_text t m ++ line_end t.config (Some h) i)
    ∙ ap (λ b. feed_before b ++ body_line Known t h (i, m)) (none-of-two n i)
    ∙ sym (body_text-one Known t n i m)

-- ---- what holds of each mark of a body: its rows and lines are those of the table, and its separators are there

module _ (P : Mark → Type 0) (config : Config) (height : ℕ → ℕ) where
  All-only_if : (b : Bool) (r : ℕ) → (b ≡ true → P (sep r)) → All P (only_if b (sep r))
  All-only_if true r h = All-cons P (sep r) [] (h refl) (All-nil P)
  All-only_if false r h = All-nil P

  All-lines : (r n : ℕ) → ((i : ℕ) → i < n → P (line r i)) → All P (map (line r) (range_with_len 0 n))
  All-lines r n h =
      All-map P (line r) (range_with_len 0 n)
      (λ k d within. let here : k < n = omega (arith, length-range_with_len 0 n) in h (get_or (range_with_len 0 n) k d) (omega (arith, get_or-range_with_len 0 n k d here)))

  module _ (rows : ℕ) (lines : (r i : ℕ) → r < rows → i < height r → P (line r i)) (separators : (r : ℕ) → r ≤ rows → has_horizontal config r rows ≡ true → P (sep r)) where
    All-marks_above : (r : ℕ) → r ≤ rows → All P (marks_above config height r)
    unfolding marks_above marks_of_row
    All-marks_above zero h = All-nil P
    All-marks_above (suc r) h =
        let separator : List Mark = only_if (has_horizontal config r (r + 1)) (sep r) in
        let own : List Mark = map (line r) (range_with_len 0 (height r)) in
        All-append P (marks_above config height r) (separator ++ own) (All-marks_above r (omega arith))
        (All-append P separator own
        (All-only_if (has_horizontal config r (r + 1)) r (λ there. separators r (omega arith) (sym (sep-stays config r rows (omega arith)) ∙ there)))
        (All-lines r (height r) (λ i. lines r i (omega arith))))

    pub All-body : All P (body config height rows)
    unfolding body
    All-body =
        All-append P (marks_above config height rows) (only_if (has_horizontal config rows rows) (sep rows)) (All-marks_above rows (omega arith))
        (All-only_if (has_horizontal config rows rows) rows (separators rows (omega arith)))

-- configurations with the same row lines have the same bodies
module _ (c d : Config) (height : ℕ → ℕ) (same : (r n : ℕ) → has_horizontal c r n ≡ has_horizontal d r n) where
  above-same : (r : ℕ) → marks_above c height r ≡ marks_above d height r
  unfolding marks_above marks_of_row
  above-same zero = refl
  above-same (suc r) = ap₂ (λ (l : List Mark) (b : Bool). l ++ (only_if b (sep r) ++ map (line r) (range_with_len 0 (height r)))) (above-same r) (same r (r + 1))

  pub body-same : (rows : ℕ) → body c height rows ≡ body d height rows
  unfolding body
  body-same rows = ap₂ (λ (l : List Mark) (b : Bool). l ++ only_if b (sep rows)) (above-same rows) (same rows rows)

-- the same at each number
pub All-enumerate_from : {X : Type 0} (P : X → Type 0) (i : ℕ) (xs : List X) → All P xs → All (λ (e : ℕ × X). P e.1) (enumerate_from i xs)
All-enumerate_from P i [] h = All-nil (λ (e : _ × _). P e.1)
All-enumerate_from P i (x ∷ xs) h = All-cons (λ (e : _ × _). P e.1) (i, x) (enumerate_from (i + 1) xs) (All-head P x xs h) (All-enumerate_from P (i + 1) xs (All-tail P x xs h))

pub map-same : {X Y : Type 0} (f g : X → Y) (xs : List X) → All (λ x. f x ≡ g x) xs → map f xs ≡ map g xs
map-same f g [] h = refl
map-same {X} {Y} f g (x ∷ xs) h = ap₂ (λ (y : Y) (ys : List Y). y ∷ ys) (All-head (λ z. f z ≡ g z) x xs h) (map-same f g xs (All-tail (λ z. f z ≡ g z) x xs h))

-- ---- pictures that are the same: of equal parts, and of side margins with offsets from the start

-- ---- equal parts

pub flat_map-same : {A : Type 0} (f g : ℕ → List A) (a n : ℕ) → ((x : ℕ) → a ≤ x → x < a + n → f x ≡ g x) → flat_map f (range_with_len a n) ≡ flat_map g (range_with_len a n)
flat_map-same f g a zero h = refl
flat_map-same {A} f g a (suc n) h = ap₂ (λ (xs ys : List A). xs ++ ys) (h a (omega arith) (omega arith)) (flat_map-same f g (a + 1) n (λ x l m. h x (omega arith) (omega arith)))

-- ---- offsets from the start

is_blank-start : (offset : Offset) (i h : ℕ) → IsFromStart offset → is_blank_at Unknown offset i h ≡ is_blank_at Known offset i h
unfolding is_blank_at
is_blank-start (Start n) i h start = refl
is_blank-start (End n) i h start = absurd start

body_line-hint : (t : Table) (h : ℕ) (e : ℕ × Mark) → IsFromStart t.config.margin_offset.left → IsFromStart t.config.margin_offset.right → body_line Unknown t h e ≡ body_line Known t h e
unfolding body_line side_margin
body_line-hint t h e left right = rw (is_blank-start t.config.margin_offset.left e.0 h left, is_blank-start t.config.margin_offset.right e.0 h right) refl

pub hints_are_idle : (t : Table) → IsFromStart t.config.margin_offset.left → IsFromStart t.config.margin_offset.right → picture Unknown t ≡ picture Known t
unfolding picture picture_lines body_lines
hints_are_idle t left right =
    ap (λ line. if (t.rows == 0) || (t.columns == 0) then [] else joined (top_lines t ++ (map line (enumerate_from 0 (table_body t)) ++ bottom_lines t)))
    (fun_ext (λ e. body_line-hint t (length (table_body t)) e left right))

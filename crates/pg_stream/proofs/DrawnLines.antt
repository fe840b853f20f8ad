-- How many lines of a rectangle are drawn before row k + 1, from those before row k.
use Rattle.std.proofs.Common.{◌≡◌, ℕ, suc, ◌+◌, ◌<◌, Bool, true, false, List, ◌++◌, map, length, filter, length-append, refl, ap, ap₂, ◌∙◌, arith, subst, if◌then◌else◌, add-one}
use Rattle.std.specs.List.{range_with_len}
use Rattle.std.proofs.lemmas.List.FromFn.{length-map-range_with_len}
use Rattle.std.proofs.lemmas.List.Elements.{filter-append}
use Rattle.pg_layout.specs.declared.position.Position.{Position}
use Rattle.pg_config.specs.Config.{Config, has_horizontal}
use Rattle.pg_config.specs.Spans.{rect_rows}
use Rattle.pg_picture.specs.Marks.{Mark, sep, line, only_if, marks_of_row, marks_above, stands_within}
use Rattle.pg_picture.proofs.MarksOfRectangles.{row_lines, row_first, row_inside, above_first}
use Rattle.pg_stream.specs.Open.{drawn_before}
use Rattle.pg_stream.specs.Inside.{separator_height}

-- a row has its separator's line and its own
pub length_of_row : (config : Config) (height : ℕ → ℕ) (k : ℕ) → length (marks_of_row config height k) ≡ separator_height config k + height k
unfolding marks_of_row separator_height
length_of_row config height k =
    length-append (only_if (has_horizontal config k (k + 1)) (sep k)) (map (line k) (range_with_len 0 (height k)))
    ∙ ap₂ (λ (a b : ℕ). a + b) (by_case (has_horizontal config k (k + 1))) (length-map-range_with_len (line k) 0 (height k))
  where
    by_case : (b : Bool) → length (only_if b (sep k)) ≡ (if b then 1 else 0)
    by_case true = refl
    by_case false = refl

module _ (config : Config) (height : ℕ → ℕ) where
  -- of a rectangle that begins in row k, the lines of that row
  pub drawn-first : (k : ℕ) (p : Position) → p.row ≡ k → 0 < rect_rows config.spans p → drawn_before config height (k + 1) p ≡ height k
  unfolding drawn_before marks_above row_lines
  drawn-first k p same some =
      let b : ℕ = p.row + rect_rows config.spans p in
      let above = above_first config height p.row b k (omega (arith, same)) in
      let own = subst (λ r. filter (stands_within p.row b) (marks_of_row config height r) ≡ map (line r) (range_with_len 0 (height r))) same (row_first config height p.row b (omega arith)) in
      rw add-one (ap (λ (l : List Mark). length l) (filter-append (stands_within p.row b) (marks_above config height k) (marks_of_row config height k))
      ∙ ap₂ (λ (x y : List Mark). length (x ++ y)) above own
      ∙ length-map-range_with_len (line k) 0 (height k))

  -- of one that begins above and has row k, those of the row and of its separator too
  pub drawn-more : (k : ℕ) (p : Position) → p.row < k → k < p.row + rect_rows config.spans p → drawn_before config height (k + 1) p ≡ (drawn_before config height k p + separator_height config k) + height k
  unfolding drawn_before marks_above
  drawn-more k p above some =
      let b : ℕ = p.row + rect_rows config.spans p in
      let e = length-append (filter (stands_within p.row b) (marks_above config height k)) (marks_of_row config height k) in
      let f = length_of_row config height k in
      let g : length (filter (stands_within p.row b) (marks_above config height (suc k))) ≡ length (filter (stands_within p.row b) (marks_above config height k) ++ marks_of_row config height k)
      = ap (λ (l : List Mark). length l) (filter-append (stands_within p.row b) (marks_above config height k) (marks_of_row config height k)
      ∙ ap (λ (y : List Mark). filter (stands_within p.row b) (marks_above config height k) ++ y) (row_inside config height p.row b k above some)) in
      rw add-one (omega (arith, e, f, g))

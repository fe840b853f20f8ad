-- What comes before the first row of a text, byte by byte.
use Rattle.std.proofs.Common.{◌≡◌, ◌∙◌, ◌||◌, ◌+◌, ℕ, Bool, [], ◌∷◌, get_or, drop, sym, ap, subst, take, ◌<◌, true, false, List, length, add-one}
use Rattle.std.specs.Prelude.{nat_le, fold}
use Rattle.ruled_csv.specs.Quotes.{is_comment, line_behind}
use Rattle.ruled_csv.specs.Kept.{first_row_behind, from_first_row, is_line_end}
use Rattle.ruled_csv.specs.declared.lines.Lines.{Lines}
use Rattle.ruled_csv.proofs.TextFaults.{line-counted}
use Rattle.std.proofs.Math.Seq.{drop-cons}
use Rattle.std.proofs.lemmas.List.{take_more}
use Rattle.std.proofs.lemmas.List.Sums.{fold-append}
use Rattle.ruled_csv.specs.Inside.{lines_after, lines_start}
use Rattle.ruled_csv.specs.declared.dialect.RowRules.{RowRules}
use Rattle.ruled_csv.proofs.first_row.first_row.Goals as goal
use Rattle.ruled_csv.proofs.first_row.first_row.Goals.{then-ends_line, else-ends_line+then-is_out}

module _ (text : List ℕ) (i : ℕ) (within : i < length text) where
  lines-more : (lines : Lines) → lines ≡ fold lines_after lines_start (take i text) → lines_after lines (get_or text i 0) ≡ fold lines_after lines_start (take (i + 1) text)
  lines-more lines is =
      ap (λ (l : Lines). lines_after l (get_or text i 0)) is
      ∙ sym (ap (fold lines_after lines_start) (take_more text i 0 within) ∙ fold-append lines_after lines_start (take i text) (get_or text i 0 ∷ []))

  module _ (rules : RowRules) (is_out : Bool) (all : List ℕ) (rest : first_row_behind rules (take i text) is_out (drop i text) ≡ all) where
    here : drop i text ≡ get_or text i 0 ∷ drop (i + 1) text
    here = drop-cons text i 0 within ∙ ap (λ (n : ℕ). get_or text i 0 ∷ drop n text) (sym (add-one i))

    next : first_row_behind rules (take i text) is_out (get_or text i 0 ∷ drop (i + 1) text) ≡ all
    next = rw here at rest

    first-ends : is_line_end (get_or text i 0) ≡ true → first_row_behind rules (take (i + 1) text) false (drop (i + 1) text) ≡ all
    first-ends ends = rw (take_more text i 0 within) (rw ends at next)

    first-leaves : is_line_end (get_or text i 0) ≡ false → (is_out || (nat_le (line_behind (take i text)) rules.skipped || is_comment rules.comment (get_or text i 0 ∷ []))) ≡ true
        → first_row_behind rules (take (i + 1) text) true (drop (i + 1) text) ≡ all
    first-leaves goes out = rw (take_more text i 0 within) (rw (goes, out) at next)

    first-stops : is_line_end (get_or text i 0) ≡ false → (is_out || (nat_le (line_behind (take i text)) rules.skipped || is_comment rules.comment (get_or text i 0 ∷ []))) ≡ false
        → drop i text ≡ all
    first-stops goes kept = here ∙ (rw (goes, kept) at next)

-- ---- the goals

pub returns-else-is_out-clause-rest : goal.returns-else-is_out-clause-rest
returns-else-is_out-clause-rest c =
    let text = c.args.text.now in
    let i = c.loop-at.at in
    let (lines, rest) = c.loop-at.invariant in
    let line = c.line.ensures ∙ ap (λ (l : Lines). l.line) lines ∙ line-counted (take i text) in
    let out = ap (λ (n : ℕ). c.loop-at.is_left_out || (nat_le n c.args.rules.skipped || is_comment c.args.rules.comment (get_or text i 0 ∷ []))) line in
    first-stops text i c.loop-at-test.true c.args.rules c.loop-at.is_left_out (from_first_row c.args.rules text) rest (sym c.ends_line.ensures ∙ c.if-ends_line.false) (sym (c.is_out.ensures ∙ out) ∙ c.if-is_out.false)

pub loop-at-preserved : goal.loop-at-preserved
loop-at-preserved c =
    let text = c.args.text.now in
    let i = c.loop-at.at in
    let (lines, rest) = c.loop-at.invariant in
    let all = from_first_row c.args.rules text in
    let P : Bool → Type 0 = λ out. first_row_behind c.args.rules (take (i + 1) text) out (drop (i + 1) text) ≡ all in (
      c.after-lines.ensures ∙ lines-more text i c.loop-at-test.true c.loop-at.lines lines,
      elim c.if-ends_line.branch [
        | then-ends_line w ↦ subst P (sym w.is_left_out-is) (first-ends text i c.loop-at-test.true c.args.rules c.loop-at.is_left_out all rest (sym c.ends_line.ensures ∙ w.if-ends_line.true))
        | else-ends_line+then-is_out w ↦
            let line = w.line.ensures ∙ ap (λ (l : Lines). l.line) lines ∙ line-counted (take i text) in
            let out = ap (λ (n : ℕ). c.loop-at.is_left_out || (nat_le n c.args.rules.skipped || is_comment c.args.rules.comment (get_or text i 0 ∷ []))) line in
            subst P (sym w.is_left_out-is)
            (first-leaves text i c.loop-at-test.true c.args.rules c.loop-at.is_left_out all rest (sym c.ends_line.ensures ∙ w.if-ends_line.false) (sym (w.is_out.ensures ∙ out) ∙ w.if-is_out.true))
      ],
    )

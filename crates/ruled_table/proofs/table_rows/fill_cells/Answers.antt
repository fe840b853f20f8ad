use Rattle.std.proofs.Common.{◌≡◌, ◌<◌, ◌∙◌, ◌∷◌, ◌++◌, ◌+◌, ◌==◌, [], ℕ, List, None, Option, length, map, set, slice_index_or, take, false, ap, arith, rules}
use Rattle.std.specs.Borrow.{Bor}
use Rattle.std.proofs.lemmas.List.{length-set, length-take-le, map-append, take_more_set}
use Rattle.std.proofs.lemmas.Bool.Decides.{nat_tests}
use Rattle.std.proofs.lemmas.Grind.{common_steps}
use Rattle.csv.specs.Records.{fields_of}
use Rattle.pg_layout.specs.Text.{Text, lines_of}
use Rattle.pg_fit.specs.Rows.{row_height}
use Rattle.ruled_table.specs.Columns.{drawn_at}
use Rattle.ruled_table.specs.Shown.{shown_text}
use Rattle.ruled_table.specs.Widths.{room_of, text_within, widths_in}
use Rattle.ruled_table.proofs.LentTexts.{height-push}
use Rattle.ruled_table.proofs.RowsInParts.{within-all, within-next}
use Rattle.ruled_table.proofs.table_rows.fill_cells.Goals as goal

-- the texts of cells of which one more is written
written : (cells : List (Bor Text)) (i : ℕ) (cell : Bor Text) → i < length cells → map (λ c. c.now) (take (i + 1) (set cells i cell)) ≡ map (λ c. c.now) (take i cells) ++ cell.now ∷ []
written cells i cell within =
    ap (map (λ (c : Bor Text). c.now)) (take_more_set cells i cell within) ∙ map-append (λ (c : Bor Text). c.now) (take i cells) (cell ∷ [])

pub loop-column-preserved : goal.loop-column-preserved
loop-column-preserved g c =
    let options = c.args.options.now in
    let fields : List Text = fields_of c.args.fields.now in
    let places : List (Option ℕ) = c.args.places.now in
    let i = c.loop-column.column in
    let old : List (Bor Text) = c.loop-column.cells in
    let cell : Bor Text = c.in-Some.cell in
    let width : ℕ → ℕ = widths_in c.args.widths.now in
    let inside : i < length old = omega (arith, c.loop-column.invariant.many) in
    let next = written old i cell inside in
    let lent : length (take i old) ≡ i = length-take-le i old (omega (arith, inside)) in
    let line : length (lines_of cell.now) ≡ 1 = c.in-Some.ensures.single in
    let here : cell.now ≡ text_within options.bounds.overflow (room_of width i) (shown_text options (drawn_at fields (slice_index_or places i None))) = search (rules, c.in-Some.ensures.cell) in
    let is : cell.now ≡ text_within options.bounds.overflow (room_of width (length (take i old))) (shown_text options (drawn_at fields (slice_index_or places i None))) = rw lent here in
    record {
      many = omega (arith, c.loop-column.invariant.many, length-set old i cell);
      within = omega arith;
      texts = within-next (λ (c : Bor Text). c.now) options.bounds.overflow width (λ place. shown_text options (drawn_at fields place)) places (take i old) (take (i + 1) (set old i cell)) i (omega arith)
          (next ∙ ap (λ (t : Text). map (λ (c : Bor Text). c.now) (take i old) ++ t ∷ []) is) c.loop-column.invariant.texts;
      single = ap row_height next ∙ height-push (map (λ (c : Bor Text). c.now) (take i old)) cell.now ∙ omega (arith, line, c.loop-column.invariant.single);
    }

pub returns-clause-cells : goal.returns-clause-cells
returns-clause-cells g c = λ done.
    let options = c.args.options.now in
    let i = c.loop-column.column in
    let all : length c.args.places.now ≡ i = omega (arith, c.loop-column.invariant.within) in
    rw all (within-all (λ (c : Bor Text). c.now) options.bounds.overflow (widths_in c.args.widths.now) (λ place. shown_text options (drawn_at (fields_of c.args.fields.now) place)) c.args.places.now (take i c.loop-column.cells) i (omega arith)
    c.loop-column.invariant.texts)

pub returns-clause-single : goal.returns-clause-single
returns-clause-single g c = λ done.
    let all : length c.args.places.now ≡ c.loop-column.column = omega (arith, c.loop-column.invariant.within) in
    let some : (length c.args.places.now == 0) ≡ false = first_of (search rules, grind (arith, common_steps)) in
    let any : 0 < length c.args.places.now = grind (arith, nat_tests, some) in
    rw all (c.loop-column.invariant.single ∙ omega (arith, all, any))

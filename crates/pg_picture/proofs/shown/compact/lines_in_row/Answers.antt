use Rattle.std.proofs.Common.{◌≡◌, ◌<◌, ◌≤◌, true, false, Some, length, sym, ap, ◌∙◌, arith}
use Rattle.std.proofs.lemmas.Bool.Decides.{nat_tests}
use Rattle.pg_layout.specs.declared.position.Position.{Position}
use Rattle.pg_layout.specs.Position.{at}
use Rattle.pg_layout.specs.Records.{text_at}
use Rattle.pg_layout.specs.Text.{lines_of}
use Rattle.pg_picture.specs.Shown.{is_one_line}
use Rattle.pg_picture.specs.Inside.{first_failed}
use Rattle.pg_picture.proofs.FirstPlaces.{failed_place, next_place, row_places-end}
use Rattle.pg_picture.proofs.shown.compact.lines_in_row.Goals as goal

pub returns-then-count_lines-ne1 : goal.returns-then-count_lines-ne1
returns-then-count_lines-ne1 g c =
    let texts = g.R.Records.texts c.args.records.now in
    let here : c.loop-column.column < g.R.Records.columns c.args.records.now = omega (arith, c.loop-column-test.true, c.count_columns-column-end.ensures.value) in
    let count : c.count_lines.result ≡ length (lines_of (text_at texts (at c.args.row c.loop-column.column))) = c.count_lines.ensures ∙ ap (λ (p : Position). length (lines_of (text_at texts p))) c.new-pos.ensures in
    let more : is_one_line (text_at texts (at c.args.row c.loop-column.column)) ≡ false = grind (arith, nat_tests, count, c.if-count_lines-ne1.true) in
    ap (λ (p : Position). Some p) c.new-pos.ensures ∙ sym (c.loop-column.invariant ∙ failed_place (λ (p : Position). is_one_line (text_at texts p)) (g.R.Records.columns c.args.records.now) c.args.row c.loop-column.column here more)

pub loop-column-preserved : goal.loop-column-preserved
loop-column-preserved g c =
    let texts = g.R.Records.texts c.args.records.now in
    let here : c.loop-column.column < g.R.Records.columns c.args.records.now = omega (arith, c.loop-column-test.true, c.count_columns-column-end.ensures.value) in
    let count : c.count_lines.result ≡ length (lines_of (text_at texts (at c.args.row c.loop-column.column))) = c.count_lines.ensures ∙ ap (λ (p : Position). length (lines_of (text_at texts p))) c.new-pos.ensures in
    let one : is_one_line (text_at texts (at c.args.row c.loop-column.column)) ≡ true = grind (arith, nat_tests, count, c.if-count_lines-ne1.false) in
    c.loop-column.invariant ∙ next_place (λ (p : Position). is_one_line (text_at texts p)) (g.R.Records.columns c.args.records.now) c.args.row c.loop-column.column here one

pub returns : goal.returns
returns g c =
    let texts = g.R.Records.texts c.args.records.now in
    let past : g.R.Records.columns c.args.records.now ≤ c.loop-column.column = omega (arith, c.loop-column-test.false, c.count_columns-column-end.ensures.value) in
    sym (c.loop-column.invariant ∙ ap (λ ps. first_failed (λ (p : Position). is_one_line (text_at texts p)) ps) (row_places-end (g.R.Records.columns c.args.records.now) c.args.row c.loop-column.column past))

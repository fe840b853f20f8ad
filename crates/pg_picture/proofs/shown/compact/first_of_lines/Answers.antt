use Rattle.std.proofs.Common.{◌<◌, ◌≤◌, length, sym, ap, ◌∙◌, arith}
use Rattle.pg_layout.specs.declared.position.Position.{Position}
use Rattle.pg_layout.specs.Records.{text_at}
use Rattle.pg_picture.specs.Shown.{is_one_line}
use Rattle.pg_picture.specs.Inside.{first_failed}
use Rattle.pg_picture.proofs.FirstPlaces.{next_row, failed_row, places_from-end}
use Rattle.pg_picture.proofs.shown.compact.first_of_lines.Goals as goal

pub returns-in-Some : goal.returns-in-Some
returns-in-Some g c =
    let texts = g.R.Records.texts c.args.records.now in
    let inside : c.loop-row.row < length texts = omega (arith, c.loop-row-test.true, c.count_rows-row-end.ensures) in
    sym (c.loop-row.invariant ∙ failed_row (λ (p : Position). is_one_line (text_at texts p)) (length texts) (g.R.Records.columns c.args.records.now) c.loop-row.row c.in-Some.pos inside (sym c.lines_in_row.ensures ∙ c.in-Some.is))

pub loop-row-preserved : goal.loop-row-preserved
loop-row-preserved g c =
    let texts = g.R.Records.texts c.args.records.now in
    let inside : c.loop-row.row < length texts = omega (arith, c.loop-row-test.true, c.count_rows-row-end.ensures) in
    c.loop-row.invariant ∙ next_row (λ (p : Position). is_one_line (text_at texts p)) (length texts) (g.R.Records.columns c.args.records.now) c.loop-row.row inside (sym c.lines_in_row.ensures ∙ c.in_default.is)

pub returns : goal.returns
returns g c =
    let texts = g.R.Records.texts c.args.records.now in
    let past : length texts ≤ c.loop-row.row = omega (arith, c.loop-row-test.false, c.count_rows-row-end.ensures) in
    sym (c.loop-row.invariant ∙ ap (λ ps. first_failed (λ (p : Position). is_one_line (text_at texts p)) ps) (places_from-end (length texts) (g.R.Records.columns c.args.records.now) c.loop-row.row past))

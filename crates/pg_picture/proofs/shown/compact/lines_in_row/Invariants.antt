use Rattle.std.proofs.Common.{◌≡◌}
use Rattle.pg_layout.specs.declared.position.Position.{Position}
use Rattle.pg_layout.specs.Records.{text_at}
use Rattle.pg_picture.specs.Shown.{is_one_line}
use Rattle.pg_picture.specs.Inside.{first_failed, row_places}
use Rattle.pg_picture.proofs.shown.compact.lines_in_row.Given as goal

-- the texts so far have one line
abbrev pub invariant-loop-column : goal.invariant-loop-column
invariant-loop-column g l =
    let texts = g.R.Records.texts l.records in
    let columns = g.R.Records.columns l.records in
    first_failed (λ (p : Position). is_one_line (text_at texts p)) (row_places columns l.row 0) ≡ first_failed (λ (p : Position). is_one_line (text_at texts p)) (row_places columns l.row l.column)

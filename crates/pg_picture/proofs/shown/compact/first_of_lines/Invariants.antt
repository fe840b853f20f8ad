use Rattle.std.proofs.Common.{◌≡◌, length}
use Rattle.pg_layout.specs.declared.position.Position.{Position}
use Rattle.pg_layout.specs.Records.{text_at}
use Rattle.pg_picture.specs.Shown.{is_one_line}
use Rattle.pg_picture.specs.Inside.{first_failed, places_from}
use Rattle.pg_picture.proofs.shown.compact.first_of_lines.Given as goal

-- the rows so far have texts of one line
abbrev pub invariant-loop-row : goal.invariant-loop-row
invariant-loop-row g l =
    let texts = g.R.Records.texts l.records in
    let columns = g.R.Records.columns l.records in
    first_failed (λ (p : Position). is_one_line (text_at texts p)) (places_from (length texts) columns 0) ≡ first_failed (λ (p : Position). is_one_line (text_at texts p)) (places_from (length texts) columns l.row)

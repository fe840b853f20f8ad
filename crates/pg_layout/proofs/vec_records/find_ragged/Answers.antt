use Rattle.std.proofs.Common.{not, ◌==◌, ◌∙◌, sym, ap, map, length}
use Rattle.std.specs.List.{position}
use Rattle.pg_layout.specs.Records.{columns_of}
use Rattle.pg_layout.proofs.Given.{position-map}
use Rattle.pg_layout.proofs.vec_records.find_ragged.Goals as goal

pub returns : goal.returns
returns g c =
    let rows = map (λ row. row.items) c.args.rows.now in
    c.find_other_length.ensures
    ∙ ap (λ n. position (λ row. not (length row.items == n)) c.args.rows.now) c.first_length.ensures
    ∙ sym (position-map (λ row. row.items) (λ row. not (length row == columns_of rows)) c.args.rows.now)

use Rattle.std.proofs.Common.{◌≡◌, ◌∙◌, map, string_bytes, ap}
use Rattle.std.specs.Option.{option_map}
use Rattle.pg_layout.specs.declared.vec_records.RecordsFault.TheVariants.{Ragged}
use Rattle.pg_script.proofs.LineWords.{map-steps, even-not_ragged, no_error-is_ok}
use Rattle.pg_script.proofs.cell_texts.CellTexts.into_records.Goals as goal

pub unwrap-requires : goal.unwrap-requires
unwrap-requires g c =
    let even = even-not_ragged (λ row. row.items) c.args.self.size.columns c.args.self.rows.items c.args.self.all_columns in
    no_error-is_ok c.new.result (c.new.ensures.exact ∙ ap (option_map Ragged) even)

pub returns : goal.returns
returns g c =
    let rows : c.unwrap.result ≡ map (λ row. row.items) c.args.self.rows.items = rw c.unwrap.ensures at c.new.ensures.rows in
    ap (map (λ row. map string_bytes row)) rows ∙ map-steps (λ row. map string_bytes row) (λ row. row.items) c.args.self.rows.items

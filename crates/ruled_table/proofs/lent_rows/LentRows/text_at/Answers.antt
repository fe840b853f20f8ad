use Rattle.std.proofs.Common.{◌<◌, ◌∙◌, ℕ, List, [], length, slice_index_or, sym, ap, arith}
use Rattle.std.proofs.lemmas.List.{get_or-map, length-map}
use Rattle.csv.specs.Records.{Row, fields_of}
use Rattle.pg_layout.specs.Text.{Text}
use Rattle.ruled_table.specs.Columns.{fields_at}
use Rattle.ruled_table.proofs.lent_rows.LentRows.text_at.Goals as goal

pub returns : goal.returns
returns c =
    let records : List Row = c.args.self.now.records.now in
    let row : ℕ = c.args.pos.row in
    let view : Row → List Text = λ fields. fields_at c.args.self.now.places.now (fields_of fields) in
    let within : row < length records = omega (arith, c.requires, length-map records view) in
    c.text_in.ensures
    ∙ ap (λ (texts : List Text). slice_index_or texts c.args.pos.col []) (sym (get_or-map view records row c.index-self-pos.result [] within))

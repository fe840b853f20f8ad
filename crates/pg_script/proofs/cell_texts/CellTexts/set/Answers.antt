use Rattle.std.proofs.Common.{◌<◌, length, string_bytes, refl, arith}
use Rattle.pg_script.proofs.LineWords.{map-set_in_row}
use Rattle.pg_script.proofs.cell_texts.CellTexts.set.Goals as goal

pub returns-clause-texts : goal.returns-clause-texts
returns-clause-texts g c =
    let inside : c.args.place.row < length c.args.self.now.rows.items = omega (arith, c.requires.row, c.args.self.now.all_rows) in
    map-set_in_row (λ row. row.items) string_bytes c.args.self.now.rows.items c.index_mut.result.now _ c.args.place.row c.args.place.col c.args.text inside c.index_mut.ensures.value refl

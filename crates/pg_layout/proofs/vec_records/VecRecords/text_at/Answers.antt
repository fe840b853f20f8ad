use Rattle.std.proofs.Common.{◌∙◌, map, arith}
use Rattle.pg_layout.proofs.Given.{row-with, cell-at}
use Rattle.pg_layout.proofs.vec_records.VecRecords.text_at.Goals as goal

pub index-requires-2 : goal.index-requires-2
index-requires-2 g c =
    let (same, inside, within) = row-with (λ row. row.items) c.self.inside.rows.items c.args.self.now (map g.T.AsStr.text) c.args.pos c.index.result.now c.self.view_is c.self.invariant c.requires.row c.requires.column c.index.ensures in
    omega (arith, within, c.index.result.now.ok)

pub returns : goal.returns
returns g c =
    let (same, inside, within) = row-with (λ row. row.items) c.self.inside.rows.items c.args.self.now (map g.T.AsStr.text) c.args.pos c.index.result.now c.self.view_is c.self.invariant c.requires.row c.requires.column c.index.ensures in
    c.as_str.ensures ∙ cell-at g.T.AsStr.text c.args.self.now c.args.pos c.index.result.now.items c.index-2.result.now same inside within c.index-2.ensures

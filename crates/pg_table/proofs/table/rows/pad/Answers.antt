use Rattle.std.proofs.Common.{map, arith}
use Rattle.std.proofs.lemmas.List.{length-map}
use Rattle.pg_table.specs.OwnRows.{padded_to}
use Rattle.pg_table.proofs.Rearranged.{padded-more}
use Rattle.pg_table.proofs.table.rows.pad.Goals as goal

pub loop-row-preserved : goal.loop-row-preserved
loop-row-preserved g c =
    let olds = map (λ row. row.items) c.args.rows.now.items in
    padded-more (λ row. row.items) (padded_to c.args.columns c.args.filler) olds c.loop-row.rows.items c.loop-row.row c.index_mut.result.now c.pad_row.new.row (omega (arith, length-map c.args.rows.now.items (λ row. row.items))) c.loop-row.invariant (let v = c.index_mut.ensures.value in cc) c.in_ok-pad_row.ensures

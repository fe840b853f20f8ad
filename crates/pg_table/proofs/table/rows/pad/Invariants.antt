use Rattle.std.proofs.Common.{◌≡◌, ◌++◌, map, take, drop}
use Rattle.pg_table.specs.OwnRows.{padded_to}
use Rattle.pg_table.proofs.table.rows.pad.Given as goal

-- the rows above are padded, the others as they were
abbrev pub invariant-loop-row : goal.invariant-loop-row
invariant-loop-row g l =
    let olds = map (λ row. row.items) l.initial.rows.items in
    map (λ row. row.items) l.rows.items ≡ map (padded_to l.columns l.filler) (take l.row olds) ++ drop l.row olds

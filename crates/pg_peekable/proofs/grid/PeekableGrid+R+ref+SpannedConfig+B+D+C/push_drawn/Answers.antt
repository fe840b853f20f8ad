use Rattle.std.proofs.Common.{sym, ap, ◌∙◌}
use Rattle.pg_picture.specs.Table.{Table}
use Rattle.pg_picture.proofs.FittingTables.{not-false}
use Rattle.pg_peekable.proofs.grid.PeekableGrid+R+ref+SpannedConfig+B+D+C.push_drawn.Goals as goal

pub invariant_of-table-clause-is_plain : goal.invariant_of-table-clause-is_plain
invariant_of-table-clause-is_plain g c = λ none pos. ap (λ (t : Table). t.color pos) (sym c.requires.is) ∙ c.is_empty.ensures.nowhere (not-false _ none) pos

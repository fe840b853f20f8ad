use Rattle.std.proofs.Common.{replicate, ap₂}
use Rattle.pg_bench.proofs.Alike.{lent-gives}
use Rattle.pg_bench.proofs.streams.cells.print_only_row.Goals as goal

-- what the cells give has nothing to do with where they are lent, so any loan stands for theirs
pub row-requires-clause-fits : goal.row-requires-clause-fits
row-requires-clause-fits c = (
  _,
  lent-gives (λ cells. cells.now) (λ cell. cell.now) (record { ref_ptr = (0, 0); ghost_name = c.args.buf.ghost_name; now = c.new-cells.result }) _
      (ap₂ (λ n x. replicate n x) c.new-cells.ensures.left c.new-cells.ensures.item),
  c.fits.ensures.0 c.if-not-fits.false,
)

use Rattle.std.proofs.Common.{◌≡◌, List, None, map, length, slice_index_or, ap, ◌∙◌}
use Rattle.std.specs.Borrow.{Bor}
use Rattle.pg_layout.specs.Records.{Given}
use Rattle.pg_layout.specs.Text.{Text}
use Rattle.pg_testing.specs.declared.unhinted.Repeated.{Repeated}
use Rattle.pg_picture.proofs.FittingTables.{misfit-parts}
use Rattle.pg_bench.proofs.Alike.{none-fit, count-left}
use Rattle.pg_bench.proofs.streams.given.draw_no_rows.Goals as goal

pub build-requires-clause-fits : goal.build-requires-clause-fits
build-requires-clause-fits g c =
    let none = ap (λ (r : Given (Repeated (List (Bor Text)))). length r.texts) c.new-records.ensures ∙ count-left (λ (cell : Bor Text). cell.now) c.new.result ∙ c.new.ensures.left in
    misfit-parts (λ (r : Given (Repeated (List (Bor Text)))). r.texts) (λ r. r.columns) (λ d i. slice_index_or d.now.0.items i 0) (λ d i. slice_index_or d.now.1.items i 0) (λ colors pos. None)
    c.new-grid.ensures (none-fit _ none)

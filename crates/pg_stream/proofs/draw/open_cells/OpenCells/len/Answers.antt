use Rattle.std.proofs.Common.{◌∙◌, ap, sym, count_by, is_some}
use Rattle.pg_stream.proofs.draw.OpenLists.{count-slots}
use Rattle.pg_stream.proofs.draw.open_cells.OpenCells.len.Goals as goal

pub returns-clause-count : goal.returns-clause-count
returns-clause-count g c = c.count_open.ensures ∙ ap (λ l. count_by is_some l) (c.deref.ensures.value ∙ c.self.view_is) ∙ sym (count-slots c.args.self.now)

use Rattle.std.proofs.Common.{◌∙◌, length, max, rules, tests}
use Rattle.std.proofs.lemmas.Iterator.{YieldsList-from_slice}
use Rattle.std.proofs.lemmas.Iterator.Consumers.{fold_from_yields_List}
use Rattle.pg_table.proofs.Rearranged.{longest_is}
use Rattle.pg_table.proofs.table.rows.longest.Goals as goal

pub returns : goal.returns
returns g c =
    fold_from_yields_List _ (λ n row. max n (length row.items)) 0 c.fold.result c.fold.ensures.ran (YieldsList-from_slice c.args.rows.now c.iter.ensures.rest) (λ a x b q k. search (rules, tests))
    ∙ longest_is (λ row. length row.items) c.args.rows.now

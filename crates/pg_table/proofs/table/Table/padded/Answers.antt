use Rattle.std.proofs.Common.{◌≡◌, Some, None, [], map, sym, ap, ◌∙◌}
use Rattle.std.specs.Option.{option_map}
use Rattle.std.specs.Result.{result_err}
use Rattle.pg_table.specs.OwnRows.{padded}
use Rattle.pg_table.specs.Printing.{ascii_config}
use Rattle.pg_table.specs.declared.fault.TableFault.TheVariants.{Ragged}
use Rattle.pg_table.proofs.Rearranged.{padded-measured, padded-none}
use Rattle.pg_table.proofs.Setters.{left}
use Rattle.pg_table.proofs.table.Table.padded.Given as given
use Rattle.pg_table.proofs.table.Table.padded.Goals as goal

-- the rows that the table is made of
all : (g : given.Over) (c : goal.After-new g) → map (λ row. row.items) c.pad.new.rows.items ≡ padded c.args.filler (map (λ row. row.items) c.args.rows.items)
all g c = padded-measured (λ row. row.items) c.args.filler c.longest-columns.result c.args.rows.items c.deref.result.now _ c.longest-columns.ensures c.deref.ensures.value c.in_ok-pad.ensures

pub returns-clause-table : goal.returns-clause-table
returns-clause-table g c =
    left c.new.result _ (λ table. table ≡ record { rows = padded c.args.filler (map (λ row. row.items) c.args.rows.items); config = ascii_config; colors = [] })
    (ap (λ rows. record { rows = rows; config = ascii_config; colors = [] }) (all g c)) c.new.ensures.parts

pub returns-clause-memory : goal.returns-clause-memory
returns-clause-memory g c = λ fault e.
    let none = c.new.ensures.exact ∙ ap (λ o. option_map (λ row. Ragged row) o) (padded-none c.args.filler (map (λ row. row.items) c.args.rows.items) _ (all g c)) in
    absurd (let f : Some fault ≡ None = sym (ap (λ r. result_err r) e) ∙ none in cc)

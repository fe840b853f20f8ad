use Rattle.std.proofs.Common.{◌∙◌, ap, map, refl, string_bytes}
use Rattle.pg_layout.specs.Records.{columns_of}
use Rattle.pg_picture.specs.Table.{is_empty}
use Rattle.pg_script.specs.Script.{told_of_script}
use Rattle.pg_show.specs.Show.{table_with}
use Rattle.pg_show.specs.declared.mode.Mode.TheVariants as mode
use Rattle.pg_show.proofs.ScriptTables.{Shows-checked, table-script}
use Rattle.pg_show.proofs.show.print_streamed.Goals as goal

pub returns-clause-shows : goal.returns-clause-shows
returns-clause-shows g c =
    let script = c.args.script.now in
    let drawn =
    ap (λ parts. table_with parts.1.now parts.2.now.0.items parts.2.now.1.items (map (λ row. map string_bytes row) parts.0.now) (columns_of parts.0.now) parts.3.now) c.new-grid.ensures
    ∙ table-script script in
    Shows-checked mode.Iter (told_of_script script) c.args.buf.now c.print.new.buf _ _ refl (rw drawn at (rw c.with_memory.ensures at c.print.ensures.or_nothing))

-- a table without cells asks for nothing that could be refused
pub returns-clause-empty : goal.returns-clause-empty
returns-clause-empty g c = λ none.
    let drawn =
    ap (λ parts. is_empty (table_with parts.1.now parts.2.now.0.items parts.2.now.1.items (map (λ row. map string_bytes row) parts.0.now) (columns_of parts.0.now) parts.3.now)) c.new-grid.ensures
    ∙ ap is_empty (table-script c.args.script.now) in
    (rw c.with_memory.ensures at c.print.ensures.empty) (drawn ∙ none)

use Rattle.std.proofs.Common.{◌∙◌, None, map, string_bytes, ap}
use Rattle.std.proofs.lemmas.Bool.{false≢true}
use Rattle.pg_layout.specs.Records.{columns_of}
use Rattle.pg_picture.specs.Table.{is_empty}
use Rattle.pg_table.specs.Natural.{natural_table}
use Rattle.pg_table.specs.Spanning.{table_from}
use Rattle.pg_script.specs.Script.{told_of_script}
use Rattle.pg_show.proofs.ScriptTables.{Prints-same, Shows-printed, Shows-refused, natural_table-script}
use Rattle.pg_show.proofs.show.print_natural.Goals as goal

pub returns-clause-shows : goal.returns-clause-shows
returns-clause-shows g c =
    let script = c.args.script.now in
    let drawn =
    ap (λ parts. table_from parts.3 parts.1 (map (λ row. map string_bytes row) parts.0.now) (columns_of parts.0.now) (λ place. None)) c.new.ensures
    ∙ ap (λ config. natural_table config (map (λ row. map string_bytes row) script.records) (columns_of script.records) (λ place. None)) c.natural_config-config.ensures
    ∙ natural_table-script script in
    Shows-refused (told_of_script script) _ c.args.buf.now c.print.new.buf _ _ c.fault_of_table.ensures (Prints-same drawn c.args.buf.now c.print.new.buf _ c.in-Err.ensures.prints)

pub returns-in-Ok-clause-shows : goal.returns-in-Ok-clause-shows
returns-in-Ok-clause-shows g c =
    let script = c.args.script.now in
    let drawn =
    ap (λ parts. table_from parts.3 parts.1 (map (λ row. map string_bytes row) parts.0.now) (columns_of parts.0.now) (λ place. None)) c.new.ensures
    ∙ ap (λ config. natural_table config (map (λ row. map string_bytes row) script.records) (columns_of script.records) (λ place. None)) c.natural_config-config.ensures
    ∙ natural_table-script script in
    Shows-printed (told_of_script script) c.args.buf.now c.print.new.buf _ _ (Prints-same drawn c.args.buf.now c.print.new.buf _ c.in-Ok.ensures.prints)

-- a table without cells asks for nothing that could be refused
pub returns-clause-empty : goal.returns-clause-empty
returns-clause-empty g c = λ none.
    let script = c.args.script.now in
    let drawn =
    ap (λ parts. is_empty (table_from parts.3 parts.1 (map (λ row. map string_bytes row) parts.0.now) (columns_of parts.0.now) (λ place. None))) c.new.ensures
    ∙ ap (λ config. is_empty (natural_table config (map (λ row. map string_bytes row) script.records) (columns_of script.records) (λ place. None))) c.natural_config-config.ensures
    ∙ ap is_empty (natural_table-script script) in
    let ended = c.in-Err.ensures.empty (drawn ∙ none) in
    absurd (false≢true ended.0)

pub returns-in-Ok-clause-empty : goal.returns-in-Ok-clause-empty
returns-in-Ok-clause-empty g c = λ none.
    let script = c.args.script.now in
    let drawn =
    ap (λ parts. is_empty (table_from parts.3 parts.1 (map (λ row. map string_bytes row) parts.0.now) (columns_of parts.0.now) (λ place. None))) c.new.ensures
    ∙ ap (λ config. is_empty (natural_table config (map (λ row. map string_bytes row) script.records) (columns_of script.records) (λ place. None))) c.natural_config-config.ensures
    ∙ ap is_empty (natural_table-script script) in
    c.in-Ok.ensures.empty (drawn ∙ none)

use Rattle.std.proofs.Common.{◌∙◌, ap, map, refl, string_bytes}
use Rattle.pg_layout.specs.Records.{columns_of}
use Rattle.pg_config.specs.CompactConfig.{settings_of}
use Rattle.pg_compact.specs.CompactGrids.{compact_misfit, has_no_cells}
use Rattle.pg_picture.specs.Picture.{compact_picture}
use Rattle.pg_script.specs.Script.{told_of_script}
use Rattle.pg_show.specs.Show.{compact_table_with}
use Rattle.pg_show.specs.declared.mode.Mode.TheVariants as mode
use Rattle.pg_show.proofs.ScriptTables.{Shows-checked, compact_misfit-told, compact_table-script}
use Rattle.pg_show.proofs.show.print_compact.Goals as goal

pub returns-clause-shows : goal.returns-clause-shows
returns-clause-shows g c =
    let script = c.args.script.now in
    let drawn =
    ap (λ parts. compact_table_with (settings_of parts.2.now) parts.1.now.0.items (map (λ row. map string_bytes row) parts.0.now) (columns_of parts.0.now) parts.3.now) c.new.ensures.parts
    ∙ compact_table-script script _ c.of-config.ensures in
    Shows-checked mode.Compact (told_of_script script) c.args.buf.now c.print.new.buf _ _ (ap compact_misfit drawn ∙ compact_misfit-told (told_of_script script)) (rw (ap compact_picture drawn) at (c.print.ensures.prints refl))

-- a table without cells fits, and takes no room
pub returns-clause-empty : goal.returns-clause-empty
returns-clause-empty g c = λ none.
    let drawn =
    ap (λ parts. has_no_cells (compact_table_with (settings_of parts.2.now) parts.1.now.0.items (map (λ row. map string_bytes row) parts.0.now) (columns_of parts.0.now) parts.3.now)) c.new.ensures.parts
    ∙ ap has_no_cells (compact_table-script c.args.script.now _ c.of-config.ensures) in
    c.print.ensures.empty (drawn ∙ none)

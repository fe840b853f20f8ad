use Rattle.std.proofs.Common.{◌∙◌, ◌∷◌, ◌++◌, [], ap, sym, map, string_bytes}
use Rattle.std.proofs.lemmas.List.{map-append}
use Rattle.csv.specs.Records.{fields_of}
use Rattle.json.specs.Value.{value_view}
use Rattle.ruled_json.specs.Streamed.{columns_in}
use Rattle.ruled_json.specs.Rows.{row_of}
use Rattle.ruled_json.proofs.Tables.{row-behind}
use Rattle.ruled_json.proofs.line_table.LineTable.push_late.Goals as goal

pub returns-clause-rows : goal.returns-clause-rows
returns-clause-rows c = λ above.
    row-behind (string_bytes c.args.self.now.null) (columns_in c.args.self.now) above (value_view c.args.value.now) (map fields_of c.args.rows.now.items) (map fields_of c.push.new.self.items) (sym c.is_empty.ensures ∙ c.if-is_empty.false)
    (ap (map fields_of) c.in_ok-push.ensures.items ∙ map-append fields_of c.args.rows.now.items (c.in_ok-row.field-0 ∷ []) ∙ ap (λ row. map fields_of c.args.rows.now.items ++ row ∷ [])
    (c.in_ok-row.ensures ∙ ap (λ word. row_of word (columns_in c.args.self.now) (value_view c.args.value.now)) c.as_str.ensures.value))

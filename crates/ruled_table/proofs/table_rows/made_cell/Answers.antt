use Rattle.std.proofs.Common.{◌≡◌, ◌∙◌, List, sym, subst, rules}
use Rattle.std.specs.Cow.{cow_str_bytes}
use Rattle.std.specs.Prelude.{IfOk}
use Rattle.csv.specs.Records.{fields_of}
use Rattle.pg_layout.specs.Text.{Text}
use Rattle.ruled_table.specs.Columns.{drawn_at}
use Rattle.ruled_table.specs.Shown.{shown_text}
use Rattle.ruled_table.specs.Widths.{text_within}
use Rattle.ruled_table.proofs.LentTexts.{field-stands}
use Rattle.ruled_table.proofs.table_rows.made_cell.Goals as goal

pub returns-then-is_some : goal.returns-then-is_some
returns-then-is_some c =
    let options = c.args.options.now in
    let fields : List Text = fields_of c.args.fields.now in
    let stands : shown_text options (drawn_at fields c.args.place) ≡ drawn_at fields c.args.place = field-stands options fields c.args.place (search rules) (c.requires (search rules)) in
    subst (λ (t : Text). IfOk c.lent_within.result (λ cell. cow_str_bytes cell ≡ text_within options.bounds.overflow c.args.room t)) (c.drawn_at-field.ensures ∙ sym stands) c.lent_within.ensures

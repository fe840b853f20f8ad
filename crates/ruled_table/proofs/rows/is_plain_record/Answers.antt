use Rattle.std.proofs.Common.{◌≡◌, ◌∙◌, true, false, sym, ap, rules}
use Rattle.std.specs.List.{list_all}
use Rattle.csv.specs.Records.{Row}
use Rattle.pg_layout.specs.Text.{is_plain_byte}
use Rattle.pg_fit.specs.Controls.{is_printable}
use Rattle.pg_fit.proofs.LawsOfControls.{printable_texts_are_plain, printable_texts_are_seen}
use Rattle.ruled_table.proofs.LentTexts.{fields-pass, plain-fields-stand}
use Rattle.ruled_table.proofs.rows.is_plain_record.Goals as goal

pub returns-clause-unchanged : goal.returns-clause-unchanged
returns-clause-unchanged c = λ printable.
    let row : Row = c.args.fields.now in
    let none : c.args.options.now.is_markdown ≡ false = search rules in
    let same : c.as_bytes.result.now ≡ row.bytes = search rules in
    let all : list_all is_printable row.bytes ≡ true = ap (list_all is_printable) (sym same) ∙ sym c.is_printable.ensures ∙ printable in
    plain-fields-stand c.args.options.now none row.ends row.bytes (printable_texts_are_plain row.bytes all) (printable_texts_are_seen row.bytes all)

pub returns-clause-plain : goal.returns-clause-plain
returns-clause-plain c = λ printable.
    let row : Row = c.args.fields.now in
    let same : c.as_bytes.result.now ≡ row.bytes = search rules in
    let all : list_all is_printable row.bytes ≡ true = ap (list_all is_printable) (sym same) ∙ sym c.is_printable.ensures ∙ printable in
    fields-pass is_plain_byte 0 row.ends row.bytes (printable_texts_are_plain row.bytes all)

use Rattle.std.proofs.Common.{◌≡◌, ◌<◌, ◌≤◌, ◌∙◌, ◌∷◌, ◌++◌, ℕ, length, arith, List, [], Ok, map, ap, ap₂, subst}
use Rattle.std.proofs.lemmas.List.{map-append}
use Rattle.csv.specs.Records.{AllText, fields_of}
use Rattle.sqlite_record.specs.Record.{decode}
use Rattle.sqlite_value.specs.Order.{Row}
use Rattle.ruled_database.specs.Tables.{encoding_of, in_utf8, texts_in, values_of}
use Rattle.ruled_database.specs.Listings.{stored_of}
use Rattle.ruled_database.specs.Trees.{Gives, record_of}
use Rattle.ruled_database.specs.declared.file.File.{File}
use Rattle.ruled_database.proofs.Tabling.{gives_old, gives_shown, gives_text, gives_unread, gives_wrong, widened}
use Rattle.ruled_database.proofs.table.RowReader.push_row.Goals as goal

pub returns-in_err-read_record-clause-rows : goal.returns-in_err-read_record-clause-rows
returns-in_err-read_record-clause-rows c =
    gives_unread c.args.self.now.overflow.file.bytes.now c.args.definition.now (stored_of c.args.row.now) c.args.number c.args.self.now.overflow.left c.read_record.new.self.left (Unit {0}) c.clear.new.self.items c.read_record.new.bytes.items
    (map fields_of c.args.rows.now.items) (map fields_of c.args.rows.now.items) c.from_residual.result c.in_err-read_record.field-0.0 c.from_residual.ensures.1 c.in_err-read_record.ensures.bytes

pub returns-in_err-fields-clause-rows : goal.returns-in_err-fields-clause-rows
returns-in_err-fields-clause-rows c =
    let file = c.args.self.now.overflow.file.bytes.now in
    let definition = c.args.definition.now in
    let row = stored_of c.args.row.now in
    let left = c.args.self.now.overflow.left in
    let rows = map fields_of c.args.rows.now.items in
    let bytes = c.read_record.new.bytes.items in
    let read = subst (λ (b : List ℕ). Gives {U = Unit {0}} (record_of file row) left c.read_record.new.self.left b bytes (Ok c.in_ok-read_record.field-0)) c.clear.ensures.items c.in_ok-read_record.ensures.bytes in
    let read_values : c.decode_into.new.row ≡ decode bytes = c.in_ok-decode_into.ensures ∙ rw (c.clear-2.ensures, widened (decode c.deref.result.now), c.deref.ensures.value) in
    let values : c.to_utf8.new.values ≡ values_of file bytes = c.in_ok-to_utf8.ensures ∙ ap₂ in_utf8 (c.encoding-encoding.ensures ∙ ap (λ (it : File). encoding_of it.bytes.now) c.read_record.ensures.file) read_values in
    gives_wrong file definition row c.args.number left c.read_record.new.self.left c.in_ok-read_record.field-0 bytes (fields_of c.read_texts.new.texts) rows rows c.from_residual-in_err-fields.result c.in_err-fields.field-0.0
    c.from_residual-in_err-fields.ensures.1 read (c.in_ok-read_texts.ensures ∙ ap (texts_in definition row.key) values) c.in_err-fields.ensures.fault

pub returns-clause-rows : goal.returns-clause-rows
returns-clause-rows c =
    let file = c.args.self.now.overflow.file.bytes.now in
    let definition = c.args.definition.now in
    let row = stored_of c.args.row.now in
    let left = c.args.self.now.overflow.left in
    let old = c.args.rows.now.items in
    let bytes = c.read_record.new.bytes.items in
    let read = subst (λ (b : List ℕ). Gives {U = Unit {0}} (record_of file row) left c.read_record.new.self.left b bytes (Ok c.in_ok-read_record.field-0)) c.clear.ensures.items c.in_ok-read_record.ensures.bytes in
    let read_values : c.decode_into.new.row ≡ decode bytes = c.in_ok-decode_into.ensures ∙ rw (c.clear-2.ensures, widened (decode c.deref.result.now), c.deref.ensures.value) in
    let values : c.to_utf8.new.values ≡ values_of file bytes = c.in_ok-to_utf8.ensures ∙ ap₂ in_utf8 (c.encoding-encoding.ensures ∙ ap (λ (it : File). encoding_of it.bytes.now) c.read_record.ensures.file) read_values in
    let added : map fields_of c.push.new.self.items ≡ map fields_of old ++ texts_in definition row.key (values_of file bytes) ∷ [] =
    ap (map fields_of) c.in_ok-push.ensures.items ∙ map-append fields_of old (c.in_ok-fields.fields ∷ []) ∙ ap (λ (t : List (List ℕ)). map fields_of old ++ t ∷ []) (c.in_ok-fields.ensures.fields ∙ c.in_ok-read_texts.ensures ∙ ap (texts_in definition row.key) values) in
    let long : definition.least ≤ length (values_of file bytes) = subst (λ (values : Row). definition.least ≤ length values) values (omega arith) in
    gives_shown file definition row c.args.number left c.read_record.new.self.left c.in_ok-read_record.field-0 c.in_ok-read_record.field-0 bytes (map fields_of old) (map fields_of c.push.new.self.items) read long added

pub returns-clause-text : goal.returns-clause-text
returns-clause-text c =
    let file = c.args.self.now.overflow.file.bytes.now in
    let definition = c.args.definition.now in
    let row = stored_of c.args.row.now in
    let left = c.args.self.now.overflow.left in
    let bytes = c.read_record.new.bytes.items in
    let read = subst (λ (b : List ℕ). Gives {U = Unit {0}} (record_of file row) left c.read_record.new.self.left b bytes (Ok c.in_ok-read_record.field-0)) c.clear.ensures.items c.in_ok-read_record.ensures.bytes in
    let read_values : c.decode_into.new.row ≡ decode bytes = c.in_ok-decode_into.ensures ∙ rw (c.clear-2.ensures, widened (decode c.deref.result.now), c.deref.ensures.value) in
    let values : c.to_utf8.new.values ≡ values_of file bytes = c.in_ok-to_utf8.ensures ∙ ap₂ in_utf8 (c.encoding-encoding.ensures ∙ ap (λ (it : File). encoding_of it.bytes.now) c.read_record.ensures.file) read_values in
    let texts : fields_of c.read_texts.new.texts ≡ texts_in definition row.key (values_of file bytes) = c.in_ok-read_texts.ensures ∙ ap (texts_in definition row.key) values in
    gives_text file definition row c.args.number left c.read_record.new.self.left c.in_ok-read_record.field-0 bytes read (subst AllText texts c.in_ok-fields.ensures.text)

pub returns-then-len-definition-clause-rows : goal.returns-then-len-definition-clause-rows
returns-then-len-definition-clause-rows c =
    let file = c.args.self.now.overflow.file.bytes.now in
    let definition = c.args.definition.now in
    let row = stored_of c.args.row.now in
    let left = c.args.self.now.overflow.left in
    let old = map fields_of c.args.rows.now.items in
    let bytes = c.read_record.new.bytes.items in
    let read = subst (λ (b : List ℕ). Gives {U = Unit {0}} (record_of file row) left c.read_record.new.self.left b bytes (Ok c.in_ok-read_record.field-0)) c.clear.ensures.items c.in_ok-read_record.ensures.bytes in
    let read_values : c.decode_into.new.row ≡ decode bytes = c.in_ok-decode_into.ensures ∙ rw (c.clear-2.ensures, widened (decode c.deref.result.now), c.deref.ensures.value) in
    let values : c.to_utf8.new.values ≡ values_of file bytes = c.in_ok-to_utf8.ensures ∙ ap₂ in_utf8 (c.encoding-encoding.ensures ∙ ap (λ (it : File). encoding_of it.bytes.now) c.read_record.ensures.file) read_values in
    let short : length (values_of file bytes) < definition.least = subst (λ (values : Row). length values < definition.least) values (omega arith) in
    gives_old file definition row c.args.number left c.read_record.new.self.left (Unit {0}) c.in_ok-read_record.field-0 bytes old old read short

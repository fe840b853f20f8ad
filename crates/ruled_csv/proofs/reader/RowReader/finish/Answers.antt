use Rattle.std.proofs.Common.{◌∙◌, ◌≡◌, Option, Some, None, map, append-nil, refl, sym, ap, subst, true≢false}
use Rattle.std.specs.Prelude.{is_err, is_some, option_map, OnOk}
use Rattle.std.proofs.lemmas.Result.{on_ok_weaker}
use Rattle.csv.specs.Records.{fields_of}
use Rattle.ruled_csv.specs.Faults.{Tells, rows_fault}
use Rattle.ruled_csv.specs.Kept.{kept_text}
use Rattle.ruled_csv.specs.Inside.{fault_below, hand_of, last_row, open_fault, row_made, scan_of, with_row}
use Rattle.ruled_csv.specs.declared.dialect.Dialect.{Dialect}
use Rattle.ruled_csv.specs.declared.fault.RowsFault.{RowsFault}
use Rattle.ruled_csv.proofs.Readers.{fault-end, fault-open, none-hand, on-error, rows-end, sound-told, told-on}
use Rattle.ruled_csv.proofs.reader.RowReader.finish.Goals as goal

pub returns-in_err-fields-clause-fault : goal.returns-in_err-fields-clause-fault
returns-in_err-fields-clause-fault c = λ dialect bytes read.
    told-on c.in_err-fields.field-0.0 (open_fault (hand_of c.args.self.scanner)) (rows_fault dialect bytes) c.from_residual.result c.in_err-fields.ensures.fault (fault-open dialect bytes c.args.self read) c.from_residual.ensures.1

pub returns-in-Some-clause-rows : goal.returns-in-Some-clause-rows
returns-in-Some-clause-rows c = λ dialect bytes read.
    let row = ap (option_map fields_of) (sym c.in-Some.is) ∙ c.in_ok-fields.ensures.row in
    let above = (scan_of dialect (kept_text dialect bytes)).rows in
    let same : c.end.new.self.dialect ≡ dialect = c.in_ok-fields.ensures.dialect ∙ read.scan.dialect_is in
    let told = subst (λ (d : Dialect). OnOk c.give_row.result (map fields_of c.give_row.new.rows.items ≡ with_row (map fields_of c.args.rows.now.items) (row_made d above (fields_of c.in-Some.fields)))) same (c.give_row.ensures.rows above read.scan.counts) in
    on_ok_weaker c.give_row.result (rows-end dialect bytes c.args.self read (Some (fields_of c.in-Some.fields)) (map fields_of c.args.rows.now.items) (map fields_of c.give_row.new.rows.items) row) told

pub returns-in-Some-clause-fault : goal.returns-in-Some-clause-fault
returns-in-Some-clause-fault c = λ dialect bytes read.
    let row = ap (option_map fields_of) (sym c.in-Some.is) ∙ c.in_ok-fields.ensures.row in
    let right = sym (fault-end dialect bytes c.args.self read (Some (fields_of c.in-Some.fields)) c.in_ok-fields.ensures.fault row) in
    let rows = (scan_of dialect (kept_text dialect bytes)).rows in
    let same : c.end.new.self.dialect ≡ dialect = c.in_ok-fields.ensures.dialect ∙ read.scan.dialect_is in
    let told = subst (λ (d : Dialect). Tells (fault_below d rows (row_made d rows (fields_of c.in-Some.fields))) c.give_row.result) same (c.give_row.ensures.fault rows read.scan.counts) in
    subst (λ (fault : Option RowsFault). Tells fault c.give_row.result) right told

pub returns-clause-rows : goal.returns-clause-rows
returns-clause-rows c = λ dialect bytes read.
    let rows = map fields_of c.args.rows.now.items in
    let row = ap (option_map fields_of) (sym c.in-None.is) ∙ c.in_ok-fields.ensures.row in
    rows-end dialect bytes c.args.self read None rows rows row (sym (append-nil rows))

pub returns-clause-fault : goal.returns-clause-fault
returns-clause-fault c = λ dialect bytes read.
    let row = ap (option_map fields_of) (sym c.in-None.is) ∙ c.in_ok-fields.ensures.row in
    fault-end dialect bytes c.args.self read None c.in_ok-fields.ensures.fault row

pub returns-in_err-fields-clause-sound : goal.returns-in_err-fields-clause-sound
returns-in_err-fields-clause-sound c = λ dialect bytes read.
    let rows = c.args.rows.now.items in
    sound-told dialect bytes c.args.self read c.from_residual.result fields_of rows rows (returns-in_err-fields-clause-fault c dialect bytes read) (on-error c.from_residual.result refl)

pub returns-in-Some-clause-sound : goal.returns-in-Some-clause-sound
returns-in-Some-clause-sound c = λ dialect bytes read.
    sound-told dialect bytes c.args.self read c.give_row.result fields_of c.args.rows.now.items c.give_row.new.rows.items (returns-in-Some-clause-fault c dialect bytes read) c.give_row.ensures.kept

pub returns-in_err-fields-clause-nothing : goal.returns-in_err-fields-clause-nothing
returns-in_err-fields-clause-nothing c = λ dialect read. absurd (true≢false (ap is_err (c.in_err-fields.ensures.nothing (none-hand dialect c.args.self read))))

pub returns-in-Some-clause-nothing : goal.returns-in-Some-clause-nothing
returns-in-Some-clause-nothing c = λ dialect read.
    let row = ap (option_map fields_of) (sym c.in-Some.is) ∙ c.in_ok-fields.ensures.row in
    absurd (true≢false (ap is_some (row ∙ ap last_row (none-hand dialect c.args.self read))))

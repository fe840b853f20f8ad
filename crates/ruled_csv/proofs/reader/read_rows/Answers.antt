use Rattle.std.proofs.Common.{◌∙◌, [], ◌++◌, map, append-nil, sym, ap}
use Rattle.csv.specs.Records.{fields_of}
use Rattle.ruled_csv.specs.Faults.{rows_fault}
use Rattle.ruled_csv.proofs.Readers.{all-given, told-on}
use Rattle.ruled_csv.proofs.reader.read_rows.Goals as goal

pub returns-in_err-reader-clause-fault : goal.returns-in_err-reader-clause-fault
returns-in_err-reader-clause-fault c =
    let bytes = c.args.bytes.now in
    let wrong = rows_fault c.args.dialect (bytes ++ []) in
    told-on c.in_err-reader.field-0.0 wrong (rows_fault c.args.dialect bytes) c.from_residual.result (c.in_err-reader.ensures.fault c.args.dialect [] [] c.new.ensures)
    (λ fault is. ap (rows_fault c.args.dialect) (sym (append-nil bytes)) ∙ is) c.from_residual.ensures.1

pub returns-clause-rows : goal.returns-clause-rows
returns-clause-rows c =
    let bytes = c.args.bytes.now in
    let read = c.in_ok-reader.ensures in
    all-given c.args.dialect bytes _ _ _ (ap (map fields_of) c.new-rows.ensures.items) (read.rows c.args.dialect [] c.new.ensures) (c.in_ok-finish.ensures.rows c.args.dialect bytes (read.read c.args.dialect [] c.new.ensures))

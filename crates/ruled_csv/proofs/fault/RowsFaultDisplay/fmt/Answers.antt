use Rattle.std.proofs.Common.{ℕ, List, ◌++◌, sym, subst}
use Rattle.std.specs.Prelude.{codes, decimal}
use Rattle.std.specs.Fmt.{HasWritten}
use Rattle.ruled_csv.specs.Faults.{of_line, rows_fault_text}
use Rattle.ruled_csv.specs.declared.fault.RowsFault.{RowsFault}
use Rattle.ruled_csv.proofs.fault.RowsFaultDisplay.fmt.Goals as goal

pub returns-in-Encoding-clause-writes : goal.returns-in-Encoding-clause-writes
returns-in-Encoding-clause-writes g c = λ plain ok.
    let P : RowsFault → Type 0 = λ fault. HasWritten {W = g.row.W.Denot} g.W.Write.write_str_gives c.args.f.now (rows_fault_text fault) c.write-in-Encoding.new.self in
    subst P (sym c.in-Encoding.is) (c.write-in-Encoding.ensures.writes plain ok)

pub returns-in-Length-clause-writes : goal.returns-in-Length-clause-writes
returns-in-Length-clause-writes g c = λ plain ok.
    let P : RowsFault → Type 0 = λ fault. HasWritten {W = g.row.W.Denot} g.W.Write.write_str_gives c.args.f.now (rows_fault_text fault) c.write-in-Length.new.self in
    let Q : List ℕ → Type 0 = λ word. HasWritten {W = g.row.W.Denot} g.W.Write.write_str_gives c.args.f.now
    (of_line c.in-Length.line (decimal c.in-Length.fields ++ (codes " " ++ (word ++ (codes ", but row 0 has " ++ (decimal c.in-Length.columns ++ codes "; see --ragged"))))))
    c.write-in-Length.new.self in
    subst P (sym c.in-Length.is) (subst Q c.fields_word-fields_word.ensures (c.write-in-Length.ensures.writes plain ok))

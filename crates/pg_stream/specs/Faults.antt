-- The words for rows that aren't printed.
use Rattle.std.specs.Prelude.{ℕ, ◌++◌, Option, Some, codes, decimal}
use Rattle.pg_layout.specs.Text.{Text}
use Rattle.pg_picture.specs.Printed.{print_fault_text}
use Rattle.pg_picture.specs.declared.fault.PrintFault.{PrintFault}
use Rattle.pg_stream.specs.declared.fault.RowFault.{RowFault}
use Rattle.pg_stream.specs.declared.fault.RowFault.TheVariants.{Misfit as Refused, Memory as NoMemory}
use Rattle.pg_stream.specs.declared.fault.RowsFault.{RowsFault}
use Rattle.pg_stream.specs.declared.fault.RowsFault.TheVariants.{Stream, Source}
use Rattle.pg_stream.specs.declared.fault.StreamFault.{StreamFault}
use Rattle.pg_stream.specs.declared.fault.StreamFault.TheVariants.{Misfit, Row, Open, Memory}

abbrev pub stream_fault_text : StreamFault → Text
stream_fault_text (Misfit misfit) = print_fault_text (PrintFault.Misfit misfit)
stream_fault_text (Row row) = codes "row " ++ (decimal row ++ codes " does not fit")
stream_fault_text Open = codes "the table does not end here"
stream_fault_text Memory = print_fault_text PrintFault.Memory

abbrev pub row_fault_text : {P : Type 0} → RowFault P → Text
row_fault_text (Refused printer) = codes "the row does not fit"
row_fault_text NoMemory = print_fault_text PrintFault.Memory

-- the same fault of the row behind as many as the printer has printed
abbrev pub fault_of_row : {P : Type 0} → (P → ℕ) → RowFault P → StreamFault
fault_of_row rows (Refused printer) = Row (rows printer)
fault_of_row rows NoMemory = Memory

-- where rows may be errors: those words, or what such an error writes, if that is known
abbrev pub rows_fault_text : {E : Type 0} → (E → Option Text) → RowsFault E → Option Text
rows_fault_text output (Stream fault) = Some (stream_fault_text fault)
rows_fault_text output (Source error) = output error

-- What rows and buffers keep.
use Rattle.std.specs.Prelude.{◌≡◌, length, string_bytes, take}
use Rattle.csv.specs.Records.{AllText, Rising, Row, fields_of, last_end}
use Rattle.ruled_row.specs.Ends.{places_of}
use Rattle.ruled_row.specs.declared.buffer.RowBuffer.TheInside.{Inside as BufferInside}
use Rattle.ruled_row.specs.declared.row.TextRow.TheInside.{Inside as RowInside}

-- the text of all fields, and where each of them ends
abbrev pub row_of : RowInside → Row
row_of a = record { bytes = string_bytes a.text; ends = places_of a.ends }

abbrev pub buffer_of : BufferInside → Row
buffer_of a = record { bytes = a.bytes.items; ends = a.ends.items }

-- its fields are all of its text
abbrev pub IsWhole : Row → Type 0
IsWhole r = Rising 0 r.ends (length r.bytes) × (last_end 0 r.ends ≡ length r.bytes)

-- the fields of a buffer alone, without what was read of one that hasn't ended
abbrev pub ended_of : Row → Row
ended_of r = record { bytes = take (last_end 0 r.ends) r.bytes; ends = r.ends }

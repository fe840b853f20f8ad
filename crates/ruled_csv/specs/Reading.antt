-- A reader to which the bytes of rows come one piece after another.
use Rattle.std.specs.Prelude.{◌≡◌, ◌≢◌, ℕ, List, ◌++◌, ⊤, Option, Some, Result, Ok, Err}
use Rattle.ruled_csv.specs.Faults.{but_line}
use Rattle.ruled_csv.specs.Inside.{Holds, left_of, scan_of}
use Rattle.ruled_csv.specs.Kept.{kept_text}
use Rattle.ruled_csv.specs.declared.fault.RowsFault.{RowsFault}
use Rattle.ruled_csv.specs.declared.fault.RowsFault.TheVariants.{Memory}
use Rattle.ruled_csv.specs.declared.reader.RowReader.{RowReader}
use Rattle.ruled_csv.specs.declared.dialect.Dialect.{Dialect}

-- A reader has read these bytes, and found nothing wrong. What it holds of them is no matter of a caller, who has this from
-- `new` of no bytes, and from `read` of more and more.
pub record HasRead (dialect : Dialect) (bytes : List ℕ) (reader : RowReader) : Type 0 where
  pub left : reader.is_left_out ≡ (left_of dialect bytes).is_out
  pub scan : Holds dialect (scan_of dialect (kept_text dialect bytes)) reader

-- behind the old rows stand those which with the rows above are all of these
abbrev pub AppendsRest : {R : Type 0} → List R → List R → List R → List R → Type 0
AppendsRest {R} above all old new = (rows : List R) × (new ≡ old ++ rows) × (above ++ rows ≡ all)

-- a fault, but want of memory, is this one
abbrev pub Foretells : {X : Type 0} → Option RowsFault → Result X RowsFault → Type 0
Foretells right (Ok x) = ⊤
Foretells right (Err fault) = fault ≢ Memory → right ≡ Some (but_line fault)

-- behind the old rows are some which, below the rows above, are the first of all
abbrev pub AppendsSome : {R : Type 0} → List R → List R → List R → List R → Type 0
AppendsSome {R} above all old new = (rows : List R) × (more : List R) × (new ≡ old ++ rows) × ((above ++ rows) ++ more ≡ all)

-- where a fault is reported, but for want of memory, this holds
abbrev pub OnFault : {X : Type 0} → Result X RowsFault → Type 0 → Type 0
OnFault (Ok x) P = ⊤
OnFault (Err fault) P = fault ≢ Memory → P

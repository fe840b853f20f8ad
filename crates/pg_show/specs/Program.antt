-- What the program answers.
use Rattle.std.specs.Prelude.{◌≡◌, ◌≢◌, ℕ, ◌==◌, Bool, true, false, ◌||◌, List, [], ◌∷◌, ◌++◌, Option, Some, None, Result, Ok, Err, String, string_bytes, codes, decimal, if◌then◌else◌}
use Rattle.pg_layout.specs.Text.{Text}
use Rattle.pg_picture.specs.declared.fault.PrintFault.{PrintFault}
use Rattle.pg_picture.specs.declared.fault.PrintFault.TheVariants as print
use Rattle.pg_picture.specs.declared.fits.Misfit.{Misfit as WhatMisfits}
use Rattle.pg_picture.specs.Fits.{misfit_text}
use Rattle.pg_script.specs.Script.{told_by}
use Rattle.pg_show.specs.Show.{misfit_in, text_in}
use Rattle.pg_script.specs.Told.{Told}
use Rattle.pg_show.specs.declared.fault.Fault.{Fault}
use Rattle.pg_show.specs.declared.fault.Fault.TheVariants.{Usage, Bad, Misfit, Memory, Read, Write}
use Rattle.pg_show.specs.declared.mode.Mode.{Mode}
use Rattle.pg_script.specs.declared.script.ScriptFault.{ScriptFault}
use Rattle.pg_script.specs.declared.script.ScriptFault.TheVariants as script
use Rattle.std.specs.Str.{bytes_eq}
use Rattle.pg_show.specs.declared.mode.Mode.TheVariants.{Compact, Iter, Peek, Table}

-- ---- which printer prints a script

-- the mode of this name
abbrev pub mode_named : List ℕ → Option Mode
mode_named name =
    if bytes_eq name (codes "compact") then Some Compact
    else if bytes_eq name (codes "iter") then Some Iter
    else if bytes_eq name (codes "peek") then Some Peek
    else if bytes_eq name (codes "table") then Some Table
    else None

-- the mode that the program's arguments name: there is exactly one of them
abbrev pub mode_of : List (List ℕ) → Option Mode
mode_of [] = None
mode_of (name ∷ []) = mode_named name
mode_of (name ∷ other ∷ others) = None

-- ---- what the program answers

-- the exit status that tells of a fault
abbrev pub status_of : Fault → ℕ
status_of Usage = 2
status_of (Bad line) = 2
status_of (Misfit misfit) = 3
status_of Memory = 4
status_of Read = 5
status_of Write = 5

-- the exit status of a run that ended so: 0 without a fault
abbrev pub status_after : Option Fault → ℕ
status_after None = 0
status_after (Some fault) = status_of fault

-- the words for a fault, and the line that tells of it
abbrev pub fault_text : Fault → Text
fault_text Usage = codes "usage: pgshow compact|iter|peek|table"
fault_text (Bad line) = codes "line " ++ (decimal line ++ codes ": bad")
fault_text (Misfit misfit) = codes "does not fit: " ++ misfit_text misfit
fault_text Memory = codes "out of memory"
fault_text Read = codes "read failed"
fault_text Write = codes "write failed"

abbrev pub line_of : Fault → Text
line_of fault = fault_text fault ++ codes "\n"

-- whether a fault says that memory, a read or a write failed, and not that the arguments or the script are wrong
abbrev pub is_failure : Fault → Bool
is_failure Usage = false
is_failure (Bad line) = false
is_failure (Misfit misfit) = false
is_failure Memory = true
is_failure Read = true
is_failure Write = true

-- whether an exit status says so
abbrev pub tells_failure : ℕ → Bool
tells_failure status = (status == status_of Memory) || (status == status_of Read)

-- the program's fault where the reading of a script ends in one
abbrev pub fault_of_script : ScriptFault → Fault
fault_of_script (script.Bad line) = Bad line
fault_of_script script.Memory = Memory

-- the program's fault where the printing of a table ends in one
abbrev pub fault_of_print : PrintFault → Fault
fault_of_print (print.Misfit misfit) = Misfit misfit
fault_of_print print.Memory = Memory

-- ---- what is right to answer: a text to write, or a fault to tell

-- the text of the table that was told, and a line feed, unless something doesn't fit
abbrev pub unless_misfit_shown : Option WhatMisfits → Text → Result Text Fault
unless_misfit_shown None text = Ok (text ++ 10 ∷ [])
unless_misfit_shown (Some misfit) text = Err (Misfit misfit)

abbrev pub answer_of_told : Mode → Told → Result Text Fault
answer_of_told mode told = unless_misfit_shown (misfit_in mode told) (text_in mode told)

-- the same of a script, which tells of a table or is bad at a line
abbrev pub unless_bad_shown : Mode → Result Told ℕ → Result Text Fault
unless_bad_shown mode (Err line) = Err (Bad line)
unless_bad_shown mode (Ok told) = answer_of_told mode told

abbrev pub answer_of_script : Mode → List ℕ → Result Text Fault
answer_of_script mode script = unless_bad_shown mode (told_by script)

-- the answer to arguments and a script: the arguments come first
abbrev pub answer_in : Option Mode → List ℕ → Result Text Fault
answer_in None script = Err Usage
answer_in (Some mode) script = answer_of_script mode script

abbrev pub answer_to : List (List ℕ) → List ℕ → Result Text Fault
answer_to words script = answer_in (mode_of words) script

-- the exit status that is right for an answer: 0 for a text, else that of the fault
abbrev pub status_of_answer : Result Text Fault → ℕ
status_of_answer (Ok text) = 0
status_of_answer (Err fault) = status_of fault

-- what was answered is right, or says that memory was refused
abbrev pub Answers : {A : Type 0} → Result Text Fault → Result (String A) Fault → Type 0
Answers right (Ok text) = right ≡ Ok (string_bytes text)
Answers right (Err fault) = fault ≢ Memory → right ≡ Err fault

-- What a checked call answers and leaves: one that tests its table before it prints it.
use Rattle.std.specs.Prelude.{◌≡◌, ◌≢◌, ◌++◌, ℕ, List, Option, None, Some, Result, Err, String, codes}
use Rattle.pg_picture.specs.Appending.{Appends, AppendsOrNothing}
use Rattle.pg_picture.specs.Fits.{misfit_text}
use Rattle.pg_picture.specs.declared.fits.Misfit.{Misfit}
use Rattle.pg_layout.specs.Text.{Text}
use Rattle.pg_picture.specs.declared.fault.PrintFault.{PrintFault}
use Rattle.pg_picture.specs.Shown.{unshown_text}
use Rattle.pg_picture.specs.declared.shown.Unshown.{Unshown}
use Rattle.pg_picture.specs.declared.whole_fault.WholeFault.{WholeFault}

-- the words for a table that isn't printed
abbrev pub print_fault_text : PrintFault → Text
print_fault_text (PrintFault.Misfit misfit) = codes "does not fit: " ++ misfit_text misfit
print_fault_text PrintFault.Memory = codes "out of memory"

-- A table with a misfit is refused with it, and the buffer stays as it was. One without is appended, and refused for want
-- of memory alone.
abbrev pub Checked : {Z U : Type 0} → Option Misfit → Type 0 → String Z → String Z → Result U PrintFault → Type 0
Checked None appends old new result = appends × ((m : Misfit) → result ≢ Err (PrintFault.Misfit m))
Checked (Some m) appends old new result = (result ≡ Err (PrintFault.Misfit m)) × (new ≡ old)

-- the checked call of a grid that takes no memory but the buffer's
abbrev pub Prints : {Z U : Type 0} → Option Misfit → String Z → String Z → Result U PrintFault → List ℕ → Type 0
Prints misfit old new result text = Checked misfit (Appends old new result text) old new result

-- the checked call of a grid that takes memory of its own
abbrev pub PrintsOrNothing : {Z U : Type 0} → Option Misfit → String Z → String Z → Result U PrintFault → List ℕ → Type 0
PrintsOrNothing misfit old new result text = Checked misfit (AppendsOrNothing old new result text) old new result

-- ---- whole tables

-- the words for a table that isn't printed whole
abbrev pub whole_fault_text : WholeFault → Text
whole_fault_text (WholeFault.Unshown unshown) = unshown_text unshown
whole_fault_text WholeFault.Memory = codes "out of memory"

-- A table of which something isn't shown is refused with it, and the buffer stays as it was. One that shows all is
-- appended, and refused for want of memory alone.
abbrev pub CheckedWhole : {Z U : Type 0} → Option Unshown → Type 0 → String Z → String Z → Result U WholeFault → Type 0
CheckedWhole None appends old new result = appends × ((u : Unshown) → result ≢ Err (WholeFault.Unshown u))
CheckedWhole (Some u) appends old new result = (result ≡ Err (WholeFault.Unshown u)) × (new ≡ old)

-- such a call of a grid that takes no memory but the buffer's
abbrev pub PrintsWhole : {Z U : Type 0} → Option Unshown → String Z → String Z → Result U WholeFault → List ℕ → Type 0
PrintsWhole unshown old new result text = CheckedWhole unshown (Appends old new result text) old new result

-- such a call of a grid that takes memory of its own
abbrev pub PrintsWholeOrNothing : {Z U : Type 0} → Option Unshown → String Z → String Z → Result U WholeFault → List ℕ → Type 0
PrintsWholeOrNothing unshown old new result text = CheckedWhole unshown (AppendsOrNothing old new result text) old new result

use Rattle.std.proofs.Common.{◌≡◌, drop, take}
use Rattle.std.specs.Prelude.{fold}
use Rattle.ruled_csv.specs.Kept.{first_row_behind, from_first_row}
use Rattle.ruled_csv.specs.Inside.{lines_after, lines_start}
use Rattle.ruled_csv.proofs.first_row.first_row.Given as goal

abbrev pub invariant-loop-at : goal.invariant-loop-at
invariant-loop-at l =
    (l.lines ≡ fold lines_after lines_start (take l.at l.text))
    × (first_row_behind l.rules (take l.at l.text) l.is_left_out (drop l.at l.text) ≡ from_first_row l.rules l.text)

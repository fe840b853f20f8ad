use Rattle.std.proofs.Common.{◌≡◌, ◌+◌, length, Some}
use Rattle.std.specs.Str.Lines.{lines}
use Rattle.pg_script.specs.Draft.{told_of_draft}
use Rattle.pg_script.specs.Script.{read_lines}
use Rattle.pg_script.proofs.reading.follow_lines.Given as goal

-- what was told so far, and what the lines that are left tell, is what all lines tell
abbrev pub invariant-loop-line : goal.invariant-loop-line
invariant-loop-line g l =
    (goal.iterator-loop-line g).can_next l.line-iterator ×
    (goal.iterator-loop-line g).is_finite l.line-iterator ×
    (l.number + length (lines l.line-iterator.rest.now) ≡ l.fn.number + length (lines l.fn.rest.rest.now)) ×
    (read_lines l.number (Some (l.fn.draft.size, told_of_draft l.draft)) (lines l.line-iterator.rest.now) ≡ read_lines l.fn.number (Some (l.fn.draft.size, told_of_draft l.fn.draft)) (lines l.fn.rest.rest.now)) ×
    (l.draft.size ≡ l.fn.draft.size)

use Rattle.pg_table.specs.Inside.{IsDrawn}
use Rattle.pg_table.proofs.Setters.{is_before}
use Rattle.pg_table.proofs.table.lines.Frame.draw_line.Given as goal

-- the places so far
abbrev pub invariant-loop-place : goal.invariant-loop-place
invariant-loop-place g l = IsDrawn l.self (is_before l.axis l.line l.place) l.initial.config l.config

use Rattle.std.proofs.Common.{◌≡◌}
use Rattle.pg_layout.specs.LineCursor.{StandsIn, line_number}
use Rattle.pg_stream.proofs.draw.open_cell.cursor_at.Given as goal

abbrev pub invariant-loop : goal.invariant-loop
invariant-loop l = StandsIn l.cursor l.text × (line_number l.cursor l.text ≡ l.counter)

use Rattle.pg_layout.proofs.borders.BordersClone.clone.Goals as goal

-- line by line; the line through the cells has no glyph of its own
pub returns : goal.returns
returns g c = record { cases = rw c.of_lines.ensures (c.in_ok-top.ensures, (tt, c.in_ok-cells.ensures.1), c.in_ok-inner.ensures, c.in_ok-bottom.ensures) }

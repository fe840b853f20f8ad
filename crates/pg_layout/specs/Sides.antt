-- What stands at the four sides of a cell or a table.
use Rattle.std.specs.Prelude.{ℕ}
use Rattle.pg_layout.specs.declared.sides.Indent.{Indent}
use Rattle.pg_layout.specs.declared.sides.Sides.{Sides}

-- spaces: so many columns at the left and at the right, so many lines above and below
abbrev pub spaces : ℕ → ℕ → Sides Indent
spaces columns lines =
    let aside : Indent = record { size = columns; fill = 32 } in
    let above : Indent = record { size = lines; fill = 32 } in
    record { left = aside; right = aside; top = above; bottom = above }

-- The places of a table that own a rectangle.
use Rattle.std.specs.Prelude.{◌≡◌, ◌<◌, true}
use Rattle.pg_layout.specs.declared.position.Position.{Position}
use Rattle.pg_layout.specs.Position.{is_at}
use Rattle.pg_config.specs.Spans.{owner}
use Rattle.pg_picture.specs.Table.{Table}

-- a place of the table that owns itself
pub record IsOwner (t : Table) (p : Position) : Type 0 where
  pub row : p.row < t.rows
  pub column : p.col < t.columns
  pub own : is_at (owner t.config.spans p.row p.col) p.row p.col ≡ true

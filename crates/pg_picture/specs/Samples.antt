-- Tables for worked examples.
use Rattle.std.specs.Prelude.{ℕ, List, [], ◌∷◌, slice_index_or, None}
use Rattle.pg_layout.specs.Position.{at}
use Rattle.pg_layout.specs.declared.position.Position.{Position}
use Rattle.pg_layout.specs.declared.sides.Indent.{Indent}
use Rattle.pg_layout.specs.Text.{Text}
use Rattle.pg_layout.specs.Looks.{ascii}
use Rattle.pg_config.specs.Config.{Config, default_config}
use Rattle.pg_config.specs.Settings.{Settings}
use Rattle.pg_picture.specs.Table.{Table}

abbrev pub text_in : List (List Text) → Position → Text
text_in texts p = slice_index_or (slice_index_or texts p.row []) p.col []

abbrev pub table : Config → ℕ → ℕ → List ℕ → List ℕ → List (List Text) → Table
table config rows columns widths heights texts = record {
  config = config;
  rows = rows;
  columns = columns;
  width = λ c. slice_index_or widths c 0;
  height = λ r. slice_index_or heights r 0;
  text = text_in texts;
  color = λ p. None;
}

-- `plain` was told nothing, `bordered` the borders alone
unfoldable pub plain : Config
plain = default_config

unfoldable pub bordered : Config
bordered = record default_config { borders = ascii }

abbrev pub indent : ℕ → ℕ → Indent
indent size fill = record { size = size; fill = fill }

-- a setting for one cell
abbrev pub for_cell : {V : Type 0} → ℕ → ℕ → V → Settings V
for_cell r c v = record { base = None; rows = []; columns = []; cells = (at r c, (0, v)) ∷ [] }

-- The table that the parts of a grid stand for.
use Rattle.std.specs.Prelude.{ℕ, List, [], length, Option, None}
use Rattle.pg_layout.specs.declared.position.Position.{Position}
use Rattle.pg_layout.specs.Colors.{Color}
use Rattle.pg_layout.specs.Records.{text_at}
use Rattle.pg_layout.specs.Text.{Text}
use Rattle.pg_config.specs.Config.{Config, default_config}
use Rattle.pg_picture.specs.Table.{Table}
use Rattle.pg_picture.specs.declared.sheet.Sheet.{Sheet}

-- The table of a grid's parts: of what its records, its dimension and its colours stand for.
abbrev pub table_of_parts : {R D C : Type 0} → (R → List (List Text)) → (R → ℕ) → (D → ℕ → ℕ) → (D → ℕ → ℕ) → (C → Position → Option Color) → R → Config → D → C → Table
table_of_parts texts columns width height color records config dimension colors = record {
  config = config;
  rows = length (texts records);
  columns = columns records;
  width = width dimension;
  height = height dimension;
  text = text_at (texts records);
  color = color colors;
}

-- ---- the table that a sheet draws, as far as it is known before its rows and texts are

-- a table of nothing
abbrev pub no_table : Table
no_table = record { config = default_config; rows = 0; columns = 0; width = λ x. 0; height = λ r. 0; text = λ p. []; color = λ p. None }

-- the table of so many rows and of these texts, by what a sheet's dimension and its colours stand for
abbrev pub sheet_table : {D C B : Type 0} → ℕ → (Position → Text) → (D → ℕ → ℕ) → (D → ℕ → ℕ) → (C → Position → Option Color) → Sheet D C B → Table
sheet_table rows text width height color sheet = record {
  config = sheet.config.now;
  rows = rows;
  columns = sheet.columns;
  width = width sheet.dimension.now;
  height = height sheet.dimension.now;
  text = text;
  color = color sheet.colors.now;
}

-- the same where no row and no text is known
abbrev pub bare_table : {D C B : Type 0} → (D → ℕ → ℕ) → (D → ℕ → ℕ) → (C → Position → Option Color) → Sheet D C B → Table
bare_table width height color sheet = sheet_table 0 (λ p. []) width height color sheet

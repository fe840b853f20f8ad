-- What was told so far.
use Rattle.std.specs.Prelude.{List, map, Option, option_map, string_bytes}
use Rattle.pg_layout.specs.Text.{Text}
use Rattle.pg_script.specs.Script.{Drafted}
use Rattle.pg_script.specs.Told.{Told}
use Rattle.pg_script.specs.declared.cell_texts.CellTexts.{CellTexts}
use Rattle.pg_script.specs.declared.draft.Draft.{Draft}

-- the texts, row by row
abbrev pub texts_of : {A : Type 0} → CellTexts A → List (List Text)
texts_of texts = map (λ row. map string_bytes row.items) texts.rows.items

-- what a draft has been told
abbrev pub told_of_draft : {A : Type 0} → Draft A → Told
told_of_draft draft = record {
  widths = draft.dimension.0.items;
  heights = draft.dimension.1.items;
  texts = texts_of draft.texts;
  colors = draft.colors;
  config = draft.config;
}

-- the size of the table and what was told of it, once its size was
abbrev pub drafted_of : {A : Type 0} → Option (Draft A) → Drafted
drafted_of draft = option_map (λ d. (d.size, told_of_draft d)) draft

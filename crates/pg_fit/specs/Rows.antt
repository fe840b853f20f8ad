-- Rows whose texts are cut to the widths of their columns, or wrapped in them.
use Rattle.std.specs.Prelude.{ℕ, ◌+◌, max, ◌==◌, ◌&&◌, nat_le, Bool, true, false, List, [], ◌∷◌, length, slice_index_or, string_bytes}
use Rattle.pg_layout.specs.Text.{Text, lines_of, width_of, text_width_of, first_line_of}
use Rattle.pg_fit.specs.declared.row.Fitted.{Fitted}
use Rattle.pg_fit.specs.declared.row.Fitted.TheVariants.{Kept, Made}
use Rattle.pg_fit.specs.declared.wrapping.Breaking.{Breaking}
use Rattle.pg_fit.specs.Cutting.{cut_line}
use Rattle.pg_fit.specs.Wrapping.{wrapped}

-- the text of a cell, by that of a cell that was kept
abbrev pub fitted_text : {S Z : Type 0} → (S → Text) → Fitted S Z → Text
fitted_text text (Kept cell) = text cell
fitted_text text (Made made) = string_bytes made

-- the cell is as it was
abbrev pub is_kept : {S Z : Type 0} → Fitted S Z → Bool
is_kept (Kept cell) = true
is_kept (Made made) = false

-- one line that takes at most so many columns
abbrev pub is_fitting : ℕ → Text → Bool
is_fitting width text = (length (lines_of text) == 1) && nat_le (width_of text) width

-- lines that take at most so many columns each
abbrev pub is_narrow : ℕ → Text → Bool
is_narrow width text = nat_le (text_width_of text) width

-- a text cut to one line of at most so many columns
abbrev pub cut_cell : Text → ℕ → Text → Text
cut_cell tail width text = cut_line width tail (first_line_of text)

-- what is made of the texts of a row from column k on, of each by the width of its column, or by 0 where it has none
abbrev pub by_width_from : {X : Type 0} → (ℕ → Text → X) → ℕ → List ℕ → List Text → List X
by_width_from make k widths [] = []
by_width_from make k widths (text ∷ texts) = make (slice_index_or widths k 0) text ∷ by_width_from make (k + 1) widths texts

-- of all texts of a row
abbrev pub by_width : {X : Type 0} → (ℕ → Text → X) → List ℕ → List Text → List X
by_width make widths texts = by_width_from make 0 widths texts

-- the texts of a row, each cut to the width of its column
abbrev pub cut_row : Text → List ℕ → List Text → List Text
cut_row tail widths texts = by_width (cut_cell tail) widths texts

-- the texts of a row, each wrapped in the width of its column
abbrev pub wrapped_row : Breaking → List ℕ → List Text → List Text
wrapped_row breaking widths texts = by_width (wrapped breaking) widths texts

-- how many lines the highest of these texts has
abbrev pub row_height : List Text → ℕ
row_height [] = 0
row_height (text ∷ texts) = max (length (lines_of text)) (row_height texts)

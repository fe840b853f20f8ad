-- Texts that are too wide for their columns, and what bounds these.
use Rattle.std.specs.Prelude.{◌≡◌, ℕ, ◌+◌, ◌-◌, ◌^◌, min, nat_le, true, List, slice_index_or, chars, ⊤, if◌then◌else◌}
use Rattle.std.specs.List.{list_all}
use Rattle.pg_layout.specs.declared.alignment.Formatting.{Formatting}
use Rattle.pg_layout.specs.declared.position.Position.{Position}
use Rattle.pg_layout.specs.Text.{Text, width_of}
use Rattle.pg_config.specs.Config.{Config, get_formatting, count_vertical}
use Rattle.pg_fit.specs.Cutting.{cut_text}
use Rattle.pg_fit.specs.Laws.{is_tail_character}
use Rattle.pg_fit.specs.Wrapping.{least_width, wrapped}
use Rattle.pg_picture.specs.Pieces.{widest}
use Rattle.pg_table.specs.declared.overflow.Overflow.{Overflow}
use Rattle.pg_table.specs.declared.overflow.Overflow.TheVariants.{Wrap, Cut}

-- ---- texts

-- a text that is too wide for so many columns, wrapped or cut to them
abbrev pub overflowed : Overflow → ℕ → Text → Text
overflowed (Wrap breaking) width text = wrapped breaking width text
overflowed (Cut tail) width text = cut_text width tail.now text

-- a text that is shown within so many columns stays, and any other is wrapped or cut to them
unfoldable pub fitted_text : Overflow → Formatting → ℕ → Text → Text
fitted_text how formatting width text = if nat_le (widest formatting text) width then text else overflowed how width text

-- how narrow a text becomes where it is wrapped: as its widest character; where it is cut, its tail has room
abbrev pub least_overflowed : Overflow → Text → ℕ
least_overflowed (Wrap breaking) text = least_width breaking text
least_overflowed (Cut tail) text = width_of tail.now

-- what the text of a cell takes at least
abbrev pub least_text_width : Overflow → Config → (Position → Text) → Position → ℕ
least_text_width how config text p = min (widest (get_formatting config p) (text p)) (least_overflowed how (text p))

-- A tail of printable ASCII and ellipses: it joins no character before it.
abbrev pub HasPlainTail : Overflow → Type 0
HasPlainTail (Wrap breaking) = ⊤
HasPlainTail (Cut tail) = list_all is_tail_character (chars tail.now) ≡ true

-- ---- bounds

-- what a line takes besides the columns: its verticals and the side margins
abbrev pub beside_columns : Config → ℕ → ℕ
beside_columns config columns = count_vertical config columns + (config.margin.left.size + config.margin.right.size)

-- the greatest width of column k, where the first columns are told theirs: none is told as the greatest number
abbrev pub limit_of : List ℕ → ℕ → ℕ
limit_of limits k = slice_index_or limits k (2 ^ 64 - 1)

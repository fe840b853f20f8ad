-- A table with rows of its own: its sizes, and the tables that its settings make of it.
use Rattle.std.specs.Prelude.{◌≡◌, ℕ, ◌+◌, ◌-◌, ◌^◌, ◌++◌, ◌∷◌, [], List, map, min, chars, length, replicate, Option, ◌==◌, ◌&&◌, ◌||◌, ◌≤◌, Bool, nat_le, nat_lt, if◌then◌else◌}
use Rattle.pg_layout.specs.declared.alignment.AlignmentHorizontal.{AlignmentHorizontal}
use Rattle.pg_layout.specs.declared.alignment.AlignmentHorizontal.TheVariants.{Right}
use Rattle.pg_layout.specs.declared.borders.Borders.{Borders}
use Rattle.pg_layout.specs.declared.borders.HorizontalLine.{HorizontalLine}
use Rattle.pg_layout.specs.declared.position.Entity.{Entity}
use Rattle.pg_layout.specs.declared.position.Entity.TheVariants.{Column, Global}
use Rattle.pg_layout.specs.declared.position.Position.{Position}
use Rattle.pg_layout.specs.declared.sides.Indent.{Indent}
use Rattle.pg_layout.specs.declared.sides.Sides.{Sides}
use Rattle.pg_layout.specs.Colors.{Color}
use Rattle.pg_layout.specs.Records.{columns_of, text_at}
use Rattle.pg_layout.specs.Sides.{spaces}
use Rattle.pg_layout.specs.Text.{Text, greatest}
use Rattle.pg_config.specs.Config.{Config, default_config, get_padding}
use Rattle.pg_config.specs.Settings.{Settings, with_setting}
use Rattle.pg_table.specs.Numbers.{is_number_or_blank, lacking, own_extent}
use Rattle.pg_table.specs.Panels.{panelled, with_span_crossings, with_title, with_title_at, with_title_color}
use Rattle.pg_table.specs.Natural.{natural_sizes}
use Rattle.pg_table.specs.Printing.{Parts, sizes_fault, with_header_line}
use Rattle.pg_table.specs.declared.fault.TableFault.{TableFault}
use Rattle.pg_table.specs.declared.sizes.Axis.{Axis}
use Rattle.std.specs.List.{range_with_len, fold, list_all, prefix_len}
use Rattle.pg_layout.specs.Position.{at}
use Rattle.std.specs.Str.{bytes_eq}
use Rattle.pg_config.specs.Spans.{Span, with_row_span}

-- ---- rows made of other rows

-- the texts of so many columns, where row c is column c
abbrev pub transposed : List (List Text) → ℕ → List (List Text)
transposed texts columns = map (λ c. map (λ r. text_at texts (at r c)) (range_with_len 0 (length texts))) (range_with_len 0 columns)

-- a row of at least so many cells, with fillers behind its own
abbrev pub padded_to : {T : Type 0} → ℕ → T → List T → List T
padded_to columns filler row = row ++ replicate (columns - length row) filler

-- rows that are all as long as the longest of them
abbrev pub padded : {T : Type 0} → T → List (List T) → List (List T)
padded filler rows = map (padded_to (greatest (map (λ row. length row) rows)) filler) rows

-- one row more, a panel of this text: with as many cells as the others, or with one where there are none
abbrev pub with_panel_row : {T : Type 0} → T → Parts T → Parts T
with_panel_row text t =
    let cells = if length t.rows == 0 then 1 else columns_of t.rows in
    panelled (length t.rows) (record t { rows = t.rows ++ padded_to cells text [] ∷ [] })

-- ---- texts beside each other: no borders, and so many spaces left of each text but the first

abbrev pub spaced_config : ℕ → Config
spaced_config gap =
    let left : Sides Indent = record (spaces 0 0) { left = record { size = gap; fill = 32 } } in
    record default_config { padding = with_setting (Column 0) (spaces 0 0) (with_setting Global left default_config.padding) }

-- ---- a table with rows of its own

-- the texts of its cells, by that of a value
abbrev pub texts_of : {T : Type 0} → (T → Text) → Parts T → List (List Text)
texts_of text t = map (λ row. map text row) t.rows

-- its natural sizes, and why it has none
abbrev pub own_sizes : {T : Type 0} → Axis → (T → Text) → Parts T → List ℕ
own_sizes axis text t = natural_sizes axis t.config (texts_of text t) (columns_of t.rows)

abbrev pub own_sizes_fault : {T : Type 0} → (T → Text) → Parts T → Option TableFault
own_sizes_fault text t = sizes_fault t.config (texts_of text t) (columns_of t.rows)

-- the table with a line below its first row, and with crossings that follow its merged cells
abbrev pub headed : {T : Type 0} → HorizontalLine ℕ → Parts T → Parts T
headed line t = record t { config = with_header_line line (length t.rows) (columns_of t.rows) t.config }

abbrev pub crossed : {T : Type 0} → Borders ℕ → Parts T → Parts T
crossed borders t = record t { config = with_span_crossings borders (length t.rows) (columns_of t.rows) t.config }

-- with a title over row line r
abbrev pub titled : {T : Type 0} → ℕ → AlignmentHorizontal → Text → (T → Text) → Parts T → Parts T
titled r side title text t = record t { config = with_title r side title (texts_of text t) (columns_of t.rows) t.config }

-- the same where columns have these widths; and one over the line below the last row
abbrev pub titled_at : {T : Type 0} → ℕ → AlignmentHorizontal → Text → List ℕ → Parts T → Parts T
titled_at r side title widths t = record t { config = with_title_at r side title widths (length t.rows) (columns_of t.rows) t.config }

-- such a title in a colour: its columns of the line get it
abbrev pub titled_in : {T : Type 0} → Color → ℕ → AlignmentHorizontal → Text → List ℕ → Parts T → Parts T
titled_in color r side title widths t =
    titled_at r side title widths (record t { config = with_title_color r side (length (chars title)) color widths (length t.rows) (columns_of t.rows) t.config })

abbrev pub captioned : {T : Type 0} → AlignmentHorizontal → Text → (T → Text) → Parts T → Parts T
captioned side caption text t = titled (length t.rows) side caption text t

-- with the texts of some cells at this side
abbrev pub aligned : {T : Type 0} → Entity → AlignmentHorizontal → Parts T → Parts T
aligned entity side t = record t { config = record t.config { alignment_horizontal = with_setting entity side t.config.alignment_horizontal } }

-- ---- columns of numbers: below row 0 each text is a number, or blank

abbrev pub is_numeric : List (List Text) → ℕ → Bool
is_numeric texts column = list_all (λ r. is_number_or_blank (text_at texts (at r column))) (range_with_len 1 (length texts - 1))

-- such a column at the right
abbrev pub with_number_right : List (List Text) → Settings AlignmentHorizontal → ℕ → Settings AlignmentHorizontal
with_number_right texts settings column = if is_numeric texts column then with_setting (Column column) Right settings else settings

-- and each of so many
abbrev pub with_numbers_right : List (List Text) → ℕ → Settings AlignmentHorizontal → Settings AlignmentHorizontal
with_numbers_right texts columns settings = fold (with_number_right texts) settings (range_with_len 0 columns)

-- the table with its columns of numbers at the right
abbrev pub numbered : {T : Type 0} → (T → Text) → Parts T → Parts T
numbered text t = record t { config = record t.config { alignment_horizontal = with_numbers_right (texts_of text t) (columns_of t.rows) t.config.alignment_horizontal } }

-- ---- a column of numbers whose points are below one another

-- so many columns more at the right, but for what passes 2^64 - 1
abbrev pub widened_right : ℕ → Sides Indent → Sides Indent
widened_right n s = record s { right = record s.right { size = min (s.right.size + n) (2 ^ 64 - 1) } }

-- a cell of the column, from one row on and above another
abbrev pub is_in_column : ℕ → ℕ → ℕ → Position → Bool
is_in_column column from to p = (p.col == column) && (nat_le from p.row && nat_lt p.row to)

module _ (texts : List (List Text)) (from column : ℕ) where
  -- the longest rest of its numbers, from this row on
  abbrev pub longest_rest : ℕ
  longest_rest = greatest (map (λ r. (own_extent (text_at texts (at r column))).rest) (range_with_len from (length texts - from)))

  -- Each such cell has as many columns more at its right as its number lacks, and any other cell what it had.
  abbrev pub AreWidened : ℕ → Config → Config → Type 0
  AreWidened to old new = (p : Position) → get_padding new p
      ≡ (if is_in_column column from to p then widened_right (lacking longest_rest (text_at texts p)) (get_padding old p) else get_padding old p)

  -- So is each one in the rows of the table, and the column is at the right.
  pub record HasPointsAligned (old new : Config) : Type 0 where
    pub paddings : AreWidened (length texts) old new
    pub others : new ≡ record old { padding = new.padding; alignment_horizontal = with_setting (Column column) Right old.alignment_horizontal }

-- ---- runs of equal texts in a column, each of which becomes one cell

module _ (texts : List (List Text)) (column : ℕ) where
  -- the text of the column in row k is this one
  abbrev pub has_text : Text → ℕ → Bool
  has_text text k = bytes_eq (text_at texts (at k column)) text

  -- how many rows the run has that begins in row r, where the next other text ends it: none if its text is empty or that of the row above
  abbrev pub run_from : ℕ → ℕ
  run_from r =
      if (length (text_at texts (at r column)) == 0) || (nat_lt 0 r && has_text (text_at texts (at r column)) (r - 1)) then 0
      else prefix_len (has_text (text_at texts (at r column))) (range_with_len r (length texts - r))

  -- the spans with a cell over the run that begins in row r, if it has several rows
  abbrev pub with_run : List Span → ℕ → List Span
  with_run spans r = if nat_lt 1 (run_from r) then with_row_span (at r column) (run_from r) spans else spans

  -- and with one over each run, from the first to the last
  abbrev pub with_runs : List Span → List Span
  with_runs spans = fold with_run spans (range_with_len 0 (length texts))

-- no row of a column begins a run of several
abbrev pub HasNoRuns : List (List Text) → ℕ → Type 0
HasNoRuns texts column = (r : ℕ) → run_from texts column r ≤ 1

-- the table whose runs of equal texts in a column are one cell each. A column that isn't there has none
abbrev pub merged : {T : Type 0} → ℕ → (T → Text) → Parts T → Parts T
merged column text t =
    if nat_lt column (columns_of t.rows) then record t { config = record t.config { spans = with_runs (texts_of text t) column t.config.spans } } else t

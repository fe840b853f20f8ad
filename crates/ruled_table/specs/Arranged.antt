-- The rows of a table, of the rows that an input holds.
use Rattle.std.specs.Prelude.{ℕ, ◌+◌, ◌-◌, ◌*◌, ◌==◌, ◌&&◌, nat_lt, max, List, [], ◌∷◌, ◌++◌, codes}
use Rattle.std.specs.Prelude.{drop, length, map, replicate, slice_index_or, string_bytes, take, Option, Some, None, is_none, if◌then◌else◌}
use Rattle.std.specs.Fmt.{decimal}
use Rattle.std.specs.List.{count_by, range_with_len}
use Rattle.std.specs.Option.{option_or}
use Rattle.pg_layout.specs.Text.{Text}
use Rattle.ruled_table.specs.Columns.{column_fault, first_meant, places_of}
use Rattle.ruled_table.specs.Order.{sorted_in}
use Rattle.ruled_table.specs.Shown.{heads}
use Rattle.ruled_table.specs.Sides.{body_of, gap}
use Rattle.ruled_table.specs.declared.view.ViewFault.{ViewFault}
use Rattle.ruled_table.specs.declared.view.ViewFault.TheVariants as fault
use Rattle.ruled_table.specs.declared.options.Options.{Options}
use Rattle.ruled_table.specs.declared.options.Sort.{Sort}

-- ---- names

-- so many fields of a row, of which those behind its last one are empty
abbrev pub padded_to : ℕ → List Text → List Text
padded_to columns row = map (λ place. slice_index_or row place []) (range_with_len 0 columns)

-- how many columns names have in front of rows: no fewer than the first of these
abbrev pub columns_named : List Text → List (List Text) → ℕ
columns_named names rows = max (length names) (length (slice_index_or rows 0 []))

-- rows with these names in front of them, if there are names
abbrev pub named : List Text → List (List Text) → List (List Text)
named [] rows = rows
named (name ∷ names) rows = padded_to (columns_named (name ∷ names) rows) (name ∷ names) ∷ rows

-- ---- ragged rows

-- how many fields the longest row has
abbrev pub longest : List (List Text) → ℕ
longest [] = 0
longest (row ∷ rows) = max (length row) (longest rows)

-- rows of which row 0 has as many fields as the longest row
abbrev pub padded : List (List Text) → List (List Text)
padded [] = []
padded (header ∷ rows) = padded_to (longest (header ∷ rows)) header ∷ rows

abbrev pub even : Options → List (List Text) → List (List Text)
even options rows = if options.is_padded then padded rows else rows

-- how many columns rows have by the longest one, and by names
abbrev pub columns_in : Options → List (List Text) → ℕ
columns_in options rows = max (longest rows) (length options.names.items)

-- the rows of an input below its header, where it has one
abbrev pub below_header : {X : Type 0} → Options → List X → List X
below_header options rows = if options.has_header && (length options.names.items == 0) then drop 1 rows else rows

-- how many of these have fewer fields, where such rows are padded
abbrev pub padded_rows : Options → List (List Text) → ℕ
padded_rows options rows = if options.is_padded then count_by (λ row. nat_lt (length row) (columns_in options rows)) (below_header options rows) else 0

-- ---- order

-- rows above which names are, of one length
abbrev pub leveled : Options → List (List Text) → List (List Text)
leveled options rows = even options (named (map string_bytes options.names.items) rows)

-- the column of a word in row 0
abbrev pub sort_column : Sort → List (List Text) → Option ℕ
sort_column sort [] = None
sort_column sort (header ∷ rows) = first_meant header (string_bytes sort.column)

-- rows sorted by it, if there is one
abbrev pub sorted_by_word : Options → Option Sort → List (List Text) → List (List Text)
sorted_by_word options None rows = rows
sorted_by_word options (Some sort) rows = sorted_in options sort.is_descending (sort_column sort rows) rows

-- row 0 has none
abbrev pub missing_column : Sort → List (List Text) → Option ViewFault
missing_column sort [] = None
missing_column sort (header ∷ rows) = if is_none (first_meant header (string_bytes sort.column)) then Some fault.Sort else None

abbrev pub sort_fault_by : Option Sort → List (List Text) → Option ViewFault
sort_fault_by None rows = None
sort_fault_by (Some sort) rows = missing_column sort rows

-- ---- numbers

-- the number of a row; row 0 is a header, and has a sign instead
abbrev pub label_of : ℕ → Text
label_of number = if number == 0 then 35 ∷ [] else decimal number

-- rows with their numbers in front, of which the first row has this one
abbrev pub numbered_from : ℕ → List (List Text) → List (List Text)
numbered_from first rows = map (λ row. label_of (first + row) ∷ slice_index_or rows row []) (range_with_len 0 (length rows))

abbrev pub numbered : Options → List (List Text) → List (List Text)
numbered options rows = if options.is_numbered then numbered_from (if options.has_header then 0 else 1) rows else rows

-- ---- the rows of a table

abbrev pub arranged : Options → List (List Text) → List (List Text)
arranged options rows = numbered options (sorted_by_word options options.sort (leveled options rows))

abbrev pub sort_fault : Options → List (List Text) → Option ViewFault
sort_fault options rows = sort_fault_by options.sort (leveled options rows)

-- ---- the last rows

-- row 0, and the last so many rows below it
abbrev pub last_of : {X : Type 0} → Option ℕ → List X → List X
last_of None rows = rows
last_of (Some count) rows = take 1 rows ++ drop (max 1 (length rows - count)) rows

abbrev pub tails : {X : Type 0} → Options → List X → List X
tails options rows = last_of options.tail rows

-- ---- the rows at both ends

-- a row of `⋮`, as long as this one
abbrev pub gap_of : List Text → List Text
gap_of row = replicate (length row) gap

-- row 0 and so many rows at both ends of those below it, with a row of `⋮` in place of the others
abbrev pub both_ends : ℕ → List (List Text) → List (List Text)
both_ends count rows = take (count + 1) rows ++ gap_of (slice_index_or rows 0 []) ∷ drop (length rows - count) rows

-- those rows, if there are more
abbrev pub ends_of : Option ℕ → List (List Text) → List (List Text)
ends_of None rows = rows
ends_of (Some count) rows = if nat_lt (2 * count + 1) (length rows) then both_ends count rows else rows

-- ---- the line that counts

-- what a word for several ends with
abbrev pub plural : ℕ → Text
plural count = if count == 1 then [] else codes "s"

-- so many rows and columns, and a line feed
abbrev pub count_of : ℕ → ℕ → Text
count_of rows columns = decimal rows ++ (codes " row" ++ (plural rows ++ (codes ", " ++ (decimal columns ++ (codes " column" ++ (plural columns ++ 10 ∷ []))))))

-- the rows below a header, and so many columns, where they are counted
abbrev pub counted_by : Options → List (List Text) → ℕ → Text
counted_by options rows columns = if options.is_counting then count_of (length (body_of options.has_header rows)) columns else []

-- of the rows of an input those that the head allows, and the columns that are asked for
abbrev pub count_text : Options → List (List Text) → Text
count_text options rows = counted_by options (heads options (arranged options rows)) (length (places_of options.columns.items (arranged options rows)))

-- ---- all of it

-- the word for the column that sorts rows is wrong, or else one for the columns that are shown
abbrev pub chosen_fault : Options → List (List Text) → Option ViewFault
chosen_fault options rows = option_or (sort_fault options rows) (column_fault options.columns.items (arranged options rows))

abbrev pub chosen_rows : Options → List (List Text) → List (List Text)
chosen_rows options rows = ends_of options.ends (tails options (heads options (arranged options rows)))

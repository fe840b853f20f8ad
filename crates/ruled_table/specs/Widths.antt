-- What a table looks like whose first rows are known, and the texts of the others within its columns.
use Rattle.std.specs.Prelude.{◌≡◌, ◌≢◌, true, false, ℕ, ◌+◌, ◌-◌, ◌^◌, ◌<◌, ◌≤◌, min, nat_le, List, [], ◌∷◌, map, length, slice_index, slice_index_or, All, Option, Some, None, Result, Ok, Err, if◌then◌else◌}
use Rattle.std.specs.Option.{option_or}
use Rattle.std.specs.Str.{IsUtf8, trim_end}
use Rattle.pg_layout.specs.Records.{columns_of}
use Rattle.pg_layout.specs.Text.{Text, greatest, text_width_of}
use Rattle.pg_layout.specs.declared.dimension.ConstantDimension.{ConstantDimension}
use Rattle.pg_layout.specs.declared.position.Position.{Position}
use Rattle.pg_config.specs.Config.{Config, get_formatting}
use Rattle.pg_fit.specs.Cutting.{cut_text}
use Rattle.pg_fit.specs.Wrapping.{least_width, wrapped}
use Rattle.pg_fit.specs.declared.wrapping.Breaking.{Breaking}
use Rattle.pg_table.specs.Fitted.{fit_fault, fitted_table, fitted_texts}
use Rattle.pg_table.specs.Natural.{natural_table, paddings}
use Rattle.pg_table.specs.Natural as natural
use Rattle.pg_table.specs.Overflowing.{limit_of}
use Rattle.pg_table.specs.Printing.{sizes_fault}
use Rattle.pg_table.specs.declared.fault.TableFault.{TableFault}
use Rattle.pg_table.specs.declared.fault.TableFault.TheVariants as table
use Rattle.pg_table.specs.declared.overflow.Overflow.{Overflow}
use Rattle.pg_table.specs.declared.overflow.Overflow.TheVariants.{Wrap, Cut}
use Rattle.pg_table.specs.declared.sizes.Axis.TheVariants.{Columns, Rows}
use Rattle.ruled_table.specs.Bounds.{are_counted, are_told, width_of, kept_limits, widest_text}
use Rattle.ruled_table.specs.Columns.{ellipsis, texts_of}
use Rattle.ruled_table.specs.declared.bounds.Bounds.{Bounds}
use Rattle.ruled_table.specs.declared.lent_rows.LentRows.{LentRows}
use Rattle.pg_table.specs.Numbers.{is_number}
use Rattle.ruled_table.specs.Tables.{with_line}
use Rattle.ruled_table.specs.Shown.{line_in, sided_config}
use Rattle.ruled_table.specs.declared.options.Options.{Options}

-- ---- its look

-- what the table of these rows looks like
abbrev pub first_config : Options → List (List Text) → Config
first_config options rows = with_line (line_in options) (length rows) (columns_of rows) (sided_config options rows)

-- a space is at each side of every text and nothing above or below it, no text is trimmed, and no cell has a span
pub record HasSpaces (config : Config) : Type 0 where
  pub beside : (p : Position) → paddings Columns config p ≡ 2
  pub above : (p : Position) → paddings Rows config p ≡ 0
  pub across : (p : Position) → (get_formatting config p).horizontal_trim ≡ false
  pub down : (p : Position) → (get_formatting config p).vertical_trim ≡ false
  pub spans : config.spans ≡ []

-- ---- the widths of its columns

-- the widths that sizes tell
abbrev pub widths_in : {A : Type 0} → ConstantDimension A → ℕ → ℕ
widths_in sizes = λ column. slice_index_or sizes.0.items column 0

-- those of the table of these rows: at its natural sizes, within bounds, and within them where some are told, by the fields of which columns have numbers
abbrev pub natural_widths : Config → List (List Text) → List ℕ
natural_widths config rows = natural.natural_sizes Columns config rows (columns_of rows)

abbrev pub fitted_widths : Options → Config → List (List Text) → List (List Text) → ℕ → ℕ
fitted_widths options config fields rows =
    (fitted_table options.bounds.overflow (width_of options.bounds.width) (kept_limits options fields rows config) config rows (columns_of rows) (λ place. None)).width

abbrev pub widths_of : Options → Config → List (List Text) → List (List Text) → ℕ → ℕ
widths_of options config fields rows = if are_told options.bounds then fitted_widths options config fields rows else (natural_table config rows (columns_of rows) (λ place. None)).width

-- why they aren't told: within bounds that of the texts that are fitted to them
abbrev pub natural_fault : Config → List (List Text) → Option TableFault
natural_fault config rows = sizes_fault config rows (columns_of rows)

abbrev pub fitted_fault : Options → Config → List (List Text) → List (List Text) → Option TableFault
fitted_fault options config fields rows =
    let texts = fitted_texts options.bounds.overflow (width_of options.bounds.width) (kept_limits options fields rows config) config rows (columns_of rows) in
    option_or (fit_fault config rows (columns_of rows)) (sizes_fault config texts (columns_of rows))

abbrev pub widths_fault : Options → Config → List (List Text) → List (List Text) → Option TableFault
widths_fault options config fields rows = if are_told options.bounds then fitted_fault options config fields rows else natural_fault config rows

-- ---- where texts are wrapped

-- the widths of the table of these rows within limits, and why they aren't told
abbrev pub widths_within : Bounds → List ℕ → Config → List (List Text) → ℕ → ℕ
widths_within bounds limits config rows = (fitted_table bounds.overflow (width_of bounds.width) limits config rows (columns_of rows) (λ place. None)).width

abbrev pub fault_within : Bounds → List ℕ → Config → List (List Text) → Option TableFault
fault_within bounds limits config rows =
    option_or (fit_fault config rows (columns_of rows)) (sizes_fault config (fitted_texts bounds.overflow (width_of bounds.width) limits config rows (columns_of rows)) (columns_of rows))

-- the width of a column, lowered to its limit
abbrev pub lowered : List ℕ → List ℕ → ℕ → ℕ
lowered widths limits column = min (slice_index widths column) (limit_of limits column)

-- natural widths of columns of texts in memory, with a space at each side
pub record AreSpaced (records : LentRows) (widths : List ℕ) : Type 0 where
  pub some : 0 < length widths
  pub columns : length widths ≡ columns_of (texts_of records)
  pub each : (k : ℕ) → k < length widths → slice_index widths k ≡ widest_text (texts_of records) k + 2
  pub counted : (k : ℕ) → k < length widths → widest_text (texts_of records) k + 2 < 2 ^ 64
  pub short : are_counted records.records.now ≡ true

-- each character of a text in memory has room
pub record HasRoom (breaking : Breaking) (room : ℕ) (text : Text) : Type 0 where
  pub characters : min (text_width_of text) (least_width breaking text) ≤ room
  pub encoded : IsUtf8 text
  pub counted : length text < 2 ^ 63

-- how many terminal columns the widest text of a column takes if its texts are wrapped
abbrev pub widest_wrapped : Breaking → ℕ → List (List Text) → ℕ → ℕ
widest_wrapped breaking room rows column = greatest (map (λ row. text_width_of (wrapped breaking room (slice_index_or row column []))) rows)

-- the width of a column whose texts are wrapped within a limit, where each of their characters has room
pub record IsWrapped (breaking : Breaking) (limit : ℕ) (rows : List (List Text)) (column width : ℕ) : Type 0 where
  pub spaces : 2 ≤ limit
  pub is : width ≡ widest_wrapped breaking (limit - 2) rows column + 2
  pub within : width ≤ limit
  pub room : All (λ row. HasRoom breaking (limit - 2) (slice_index_or row column [])) rows

-- that of a column of a natural width, which is wrapped where it is wider than its limit
pub record IsLowered (breaking : Breaking) (limit : ℕ) (rows : List (List Text)) (column natural width : ℕ) : Type 0 where
  pub kept : natural ≤ limit → width ≡ natural
  pub wrapped : limit < natural → IsWrapped breaking limit rows column width

-- ---- texts within their columns

-- a text of which a line is wider than its column, cut to it
abbrev pub narrowed : ℕ → Text → Text
narrowed width text = if nat_le (text_width_of text) width then text else cut_text width ellipsis text

abbrev pub broken : Overflow → ℕ → Text → Text
broken (Wrap breaking) width text = narrowed width (wrapped breaking width text)
broken (Cut tail) width text = cut_text width tail.now text

-- a number that has no room, with an ellipsis at its end, or, where only spaces behind it have none, without these
abbrev pub cut_number : ℕ → Text → Text
cut_number width text = cut_text width (if nat_le (text_width_of (trim_end text)) width then [] else ellipsis) text

-- a number goes on in no further line
abbrev pub overflowed : Overflow → ℕ → Text → Text
overflowed overflow width text = if is_number (trim_end text) then cut_number width text else broken overflow width text

-- a text as it is where it has room, and else cut, or wrapped
abbrev pub text_within : Overflow → ℕ → Text → Text
text_within overflow width text = if nat_le (text_width_of text) width then text else overflowed overflow width text

-- a space stands at each side of a text
abbrev pub room_of : (ℕ → ℕ) → ℕ → ℕ
room_of width column = width column - 2

-- the texts of a row from column k on
abbrev pub texts_within : ℕ → Overflow → (ℕ → ℕ) → List Text → List Text
texts_within k overflow width [] = []
texts_within k overflow width (text ∷ texts) = text_within overflow (room_of width k) text ∷ texts_within (k + 1) overflow width texts

abbrev pub row_within : Overflow → (ℕ → ℕ) → List Text → List Text
row_within overflow width row = texts_within 0 overflow width row

-- ---- as contracts see it

-- an answer is the fault of a table, or tells that memory was refused
abbrev pub TellsTable : {X : Type 0} → Option TableFault → Result X TableFault → Type 0
TellsTable right (Ok x) = right ≡ None
TellsTable right (Err fault) = fault ≢ table.Memory → right ≡ Some fault

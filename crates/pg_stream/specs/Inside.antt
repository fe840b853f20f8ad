-- What only bodies and their proofs need: no contract of a call from outside stands on it.
use Rattle.std.specs.Prelude.{ℕ, ◌+◌, nat_lt, List, [], ◌∷◌, ◌++◌, flat_map, slice_index_or, Option, Some, None, if◌then◌else◌, ◌≡◌, ◌-◌, ◌<◌, ◌≤◌, ◌^◌, length, ◌==◌, map, replicate, IfSome}
use Rattle.std.specs.Prelude.{Bool, false, not, option_map}
use Rattle.std.specs.List.{range_with_len}
use Rattle.pg_layout.specs.Position.{at, is_at}
use Rattle.pg_layout.specs.Text.{Text, lines_of, greatest}
use Rattle.pg_config.specs.Config.{Config, has_horizontal, get_horizontal}
use Rattle.pg_config.specs.Spans.{rect_rows, owner, rect_columns, Span, has_row_spans}
use Rattle.pg_picture.specs.Pieces.{Piece, Item, block, style_at, block_line, written, separator_text, continued}
use Rattle.pg_picture.specs.Table.{Table, rect_width, is_inside, vertical, is_covered, crossing, horizontal_items, crossing_at, border_items, margin_line}
use Rattle.pg_picture.specs.Sizes.{height_of_rect}
use Rattle.pg_stream.specs.Open.{Slot, open_at_row}
use Rattle.pg_layout.specs.LineCursor.{StandsIn, line_number}
use Rattle.pg_picture.specs.declared.place.CellPlace.{CellPlace}
use Rattle.pg_stream.specs.Placed.{Placed, AllOpen, IsPlaced, slot_of}
use Rattle.pg_picture.specs.Inside.{line_start, line_end, Keeping, IsSeparatorOf, place_in, IsOfKind}
use Rattle.pg_layout.specs.declared.position.Position.{Position}
use Rattle.pg_stream.specs.Conditions.{HasRoom, HaveRoom}
use Rattle.pg_picture.specs.declared.facts.TextKind.{TextKind}
use Rattle.pg_stream.specs.Printers.{now_of, IsSound}
use Rattle.pg_stream.specs.Streams.{Streaming}
use Rattle.pg_stream.specs.declared.printer.frame.Frame.{Frame}
use Rattle.pg_stream.specs.declared.stream.held_rows.HeldRows.{HeldRows}
use Rattle.pg_stream.specs.declared.printer.progress.Progress.{Progress}

-- ---- the slots of a printer in one row, column by column, and the lines that can be read off them

-- -- a slot in one row

-- so many more lines of its cell are drawn
abbrev pub draw_more : ℕ → Option Slot → Option Slot
draw_more d None = None
draw_more d (Some slot) = Some (record slot { drawn = slot.drawn + d })

-- a cell that begins at (k, c) takes the slot
unfoldable pub begin_at : Config → ℕ → ℕ → Text → Option Slot → Option Slot
begin_at config k c text slot =
    if is_at (owner config.spans k c) k c then Some (record { begun = k; text = text; drawn = 0 }) else slot

-- a cell that does not have row k + 1 leaves it
abbrev pub close_at : Config → ℕ → ℕ → Option Slot → Option Slot
close_at config k c None = None
close_at config k c (Some slot) = if nat_lt (k + 1) (slot.begun + rect_rows config.spans (at slot.begun c)) then Some slot else None

-- how many lines the separator above row k has
unfoldable pub separator_height : Config → ℕ → ℕ
separator_height config k = if has_horizontal config k (k + 1) then 1 else 0

-- the slot after row k: the separator is drawn, a cell begins, the row's lines are drawn, a cell ends
unfoldable pub next_slot : Config → (ℕ → ℕ) → ℕ → ℕ → Text → Option Slot → Option Slot
next_slot config height k c text slot = close_at config k c (draw_more (height k) (begin_at config k c text (draw_more (separator_height config k) slot)))

-- the slot of column c at line i of row k
unfoldable pub slot_in_row : Table → ℕ → ℕ → ℕ → Option Slot
slot_in_row t k i c = draw_more i (begin_at t.config k c (t.text (at k c)) (draw_more (separator_height t.config k) (open_at_row t k c)))

-- -- a line of a row, read off the slots

-- the next line of the cell in slot x
abbrev pub slot_block : Table → Option Slot → ℕ → List Piece
slot_block t None x = []
slot_block t (Some slot) x =
    block_line (style_at t.config (at slot.begun x)) (t.color (at slot.begun x)) slot.text (rect_width t (at slot.begun x)) (height_of_rect t.config t.height (at slot.begun x)) slot.drawn

-- what column x adds to line i of row r: its vertical, and the next line of its slot
unfoldable pub slot_part : Table → List (Option Slot) → ℕ → ℕ → ℕ → List Piece
slot_part t slots r i x =
    (if is_inside t r x then [] else vertical t r i x)
    ++ (if nat_lt x t.columns then slot_block t (slice_index_or slots x None) x else [])

unfoldable pub slot_line : Table → List (Option Slot) → ℕ → ℕ → List Piece
slot_line t slots r i = flat_map (slot_part t slots r i) (range_with_len 0 (t.columns + 1))

-- -- a separator, read off the slots

abbrev pub slot_item : Table → Option Slot → ℕ → List Item
slot_item t None x = []
slot_item t (Some slot) x = block (slot_block t (Some slot) x) ∷ []

-- what stands in column x: the next line of the cell from above, or the horizontal
unfoldable pub slot_column : Table → List (Option Slot) → ℕ → ℕ → List Item
slot_column t slots r x =
    if is_covered t r x then slot_item t (slice_index_or slots x None) x
    else if nat_lt x t.columns then horizontal_items t r x (get_horizontal t.config (at r x) t.rows)
    else []

unfoldable pub slot_separator_part : Table → List (Option Slot) → ℕ → ℕ → List Item
slot_separator_part t slots r x = crossing t r x ++ slot_column t slots r x

unfoldable pub slot_separator : Table → List (Option Slot) → ℕ → List Item
slot_separator t slots r = flat_map (slot_separator_part t slots r) (range_with_len 0 (t.columns + 1))

-- ---- open cells that are drawn on: which of their lines comes next, and which of them may be drawn

-- so many more lines of a cell are drawn
abbrev pub draw_cell : ℕ → Option Placed → Option Placed
draw_cell d None = None
draw_cell d (Some cell) = Some (record cell { drawn = cell.drawn + d })

-- A cursor stands at the line of the text that is shown next, if there is one, where so many lines of the cell are drawn.
pub record StandsAtNext (cursor : ℕ) (text : Text) (place : CellPlace) (drawn : ℕ) : Type 0 where
  pub stands : StandsIn cursor text
  pub number : drawn < place.top + place.shown → line_number cursor text ≡ place.skip + (drawn - place.top)
  pub lines : place.skip + place.shown ≤ length (lines_of text)

-- the rectangle of the cell has a line
abbrev pub IsTall : Table → ℕ → Placed → Type 0
IsTall t x cell = 0 < height_of_rect t.config t.height (at cell.begun x)

-- The open cells of a table: each column has a slot, and each cell ends inside the columns and stands where it is drawn.
pub record AreOpen (t : Table) (cells : List (Option Placed)) : Type 0 where
  pub columns : t.columns ≡ length cells
  pub inside : AllOpen (λ x cell. x + rect_columns t.config.spans (at cell.begun x) ≤ t.columns) cells
  pub placed : AllOpen (IsPlaced t) cells

-- and the rectangle of each has a line
pub record AreDrawn (t : Table) (cells : List (Option Placed)) : Type 0 where
  pub opened : AreOpen t cells
  pub tall : AllOpen (IsTall t) cells

-- So many lines may be drawn from line `index` of the body on: they and those of each cell have numbers of 64 bits, and
-- where there is a line, the cells are drawn.
pub record MayDraw (t : Table) (cells : List (Option Placed)) (index n : ℕ) : Type 0 where
  pub lines : index + n < 2 ^ 64
  pub room : AllOpen (λ x cell. cell.drawn + n < 2 ^ 64) cells
  pub opened : 0 < n → AreDrawn t cells

-- ---- what is drawn of open cells: lines of a row, and separators

-- -- a line of a row

-- an open cell of column x adds the vertical left of it and its next line, and a column without one adds nothing
abbrev pub cell_part : Table → Option Placed → ℕ → ℕ → ℕ → List Piece
cell_part t None r i x = []
cell_part t (Some cell) r i x = vertical t r i x ++ slot_block t (slot_of (Some cell)) x

unfoldable pub open_part : Table → List (Option Placed) → ℕ → ℕ → ℕ → List Piece
open_part t cells r i x = cell_part t (slice_index_or cells x None) r i x

-- line i of row r: of all columns, and the vertical behind the last one
unfoldable pub open_line : Table → List (Option Placed) → ℕ → ℕ → List Piece
open_line t cells r i = flat_map (open_part t cells r i) (range_with_len 0 t.columns) ++ vertical t r i t.columns

-- -- a separator

-- where the cell of column x ends
abbrev pub column_end : List Span → Option Placed → ℕ → ℕ
column_end spans None x = 0
column_end spans (Some cell) x = x + rect_columns spans (at cell.begun x)

-- where the open cells of the first x columns end
unfoldable pub reach : List Span → List (Option Placed) → ℕ → ℕ
reach spans cells x = greatest (map (λ y. column_end spans (slice_index_or cells y None) y) (range_with_len 0 x))

-- the line of an open cell, or the horizontal
abbrev pub cell_items : Table → ℕ → Option Placed → ℕ → ℕ → List Item
cell_items t rows None r x = border_items t.config (at r x) rows (t.width x) (get_horizontal t.config (at r x) rows)
cell_items t rows (Some cell) r x = block (slot_block t (slot_of (Some cell)) x) ∷ []

-- the crossing left of column x, and what the column shows; nothing inside a cell that begins further left
unfoldable pub open_separator_part : Table → ℕ → List (Option Placed) → ℕ → ℕ → List Item
open_separator_part t rows cells r x =
    if nat_lt x (reach t.config.spans cells x) then []
    else crossing_at t.config rows t.columns (at r x) ++ cell_items t rows (slice_index_or cells x None) r x

-- the separator above row r of so many rows, and the crossing behind the last column
unfoldable pub open_separator : Table → ℕ → List (Option Placed) → ℕ → List Item
open_separator t rows cells r = flat_map (open_separator_part t rows cells r) (range_with_len 0 t.columns) ++ crossing_at t.config rows t.columns (at r t.columns)

-- no cell spans others, and this is the text of the separator above each row but the first
abbrev pub IsSeparator : Table → Text → Type 0
IsSeparator t text = (t.config.spans ≡ []) × IsSeparatorOf (λ r. 0 < r) (λ r. separator_text (open_separator t (r + 1) (replicate t.columns None) r)) text

-- These cells are open above row r: none where no cell spans others; and what is kept is a separator of the table.
pub record IsBetween (t : Table) (r : ℕ) (cells : List (Option Placed)) (kept : Keeping) : Type 0 where
  pub row : r + 1 < 2 ^ 64
  pub alone : t.config.spans ≡ [] → cells ≡ replicate t.columns None
  pub separator : IfSome kept.text (IsSeparator t)

-- and the separator above the row, where it is there, may be drawn as line `index` of the body
pub record MaySeparate (t : Table) (r index : ℕ) (cells : List (Option Placed)) (kept : Keeping) : Type 0 where
  pub between : IsBetween t r cells kept
  pub line : MayDraw t cells index (separator_height t.config r)

-- -- lines of the body

-- a line of the body between what stands before and behind it
unfoldable pub line_at : Config → Option ℕ → ℕ → Text → Text
line_at config height i text = line_start config height i ++ (text ++ line_end config height i)

-- line i of a row whose lines begin at line `index` of the body
unfoldable pub open_line_at : Table → Option ℕ → List (Option Placed) → ℕ → ℕ → ℕ → Text
open_line_at t height cells r index i = line_at t.config height (index + i) (written (open_line t (map (draw_cell i) cells) r i))

-- the first n lines
unfoldable pub open_lines : Table → Option ℕ → List (Option Placed) → ℕ → ℕ → ℕ → Text
open_lines t height cells r index n = flat_map (open_line_at t height cells r index) (range_with_len 0 n)

-- the separator above row r, where it is there, as line `index` of the body
unfoldable pub above_text : Table → Option ℕ → List (Option Placed) → ℕ → ℕ → Text
above_text t height cells r index =
    if has_horizontal t.config r (r + 1) then line_at t.config height index (separator_text (open_separator t (r + 1) cells r)) else []

-- the separator below the last of so many rows
unfoldable pub below_text : Table → Option ℕ → List (Option Placed) → ℕ → ℕ → Text
below_text t height cells rows index =
    if has_horizontal t.config rows rows then line_at t.config height index (separator_text (open_separator t rows cells rows)) else []

-- the lines of the top margin, w columns wide, which stand above row 0
unfoldable pub top_text : Config → ℕ → ℕ → Text
top_text config w rows = if rows == 0 then continued 0 (replicate config.margin.top.size (written (margin_line config.margin.top config.margin_offset.top config.margin_color.top w))) else []

-- ---- what becomes of the open cells in one row: cells begin and cells end

-- A column without an open cell isn't the left one of an owner that begins above row k; an open cell is its owner, and
-- begins above.
pub record IsOwnerAbove (spans : List Span) (k x : ℕ) (cell : Option Placed) : Type 0 where
  pub none : cell ≡ None → (owner spans k x).row < k → (owner spans k x).col ≡ x → ⊥
  pub some : (c : Placed) → cell ≡ Some c → owner spans k x ≡ at c.begun x
  pub above : (c : Placed) → cell ≡ Some c → c.begun < k

-- a cell that begins at p, of which nothing is drawn yet
abbrev pub new_cell : Table → Position → Text → Placed
new_cell t p text = record {
  begun = p.row;
  text = text;
  drawn = 0;
  width = rect_width t p;
  place = place_in (style_at t.config p) text (rect_width t p) (height_of_rect t.config t.height p);
}

-- the rectangle of p has a size, ends inside the columns, and has room for the text
pub record MayBegin (t : Table) (p : Position) (text : Text) : Type 0 where
  pub rows : 0 < rect_rows t.config.spans p
  pub columns : 0 < rect_columns t.config.spans p
  pub inside : p.col + rect_columns t.config.spans p ≤ t.columns
  pub room : HasRoom t p text

-- a cell that begins at (k, x) takes the column
unfoldable pub begin_cell : Table → ℕ → Text → ℕ → Option Placed → Option Placed
begin_cell t k text x cell = if is_at (owner t.config.spans k x) k x then Some (new_cell t (at k x) text) else cell

-- a cell that does not have row k + 1 leaves it
abbrev pub close_cell : List Span → ℕ → ℕ → Option Placed → Option Placed
close_cell spans k x None = None
close_cell spans k x (Some cell) = if nat_lt (k + 1) (cell.begun + rect_rows spans (at cell.begun x)) then Some cell else None

-- it is such a cell
abbrev pub is_done : List Span → ℕ → ℕ → Option Placed → Bool
is_done spans k x None = false
is_done spans k x (Some cell) = not (nat_lt (k + 1) (cell.begun + rect_rows spans (at cell.begun x)))

-- each element by its index, the first of which is c
abbrev pub mapped : {A : Type 0} → (ℕ → A → A) → ℕ → List A → List A
mapped f c [] = []
mapped f c (x ∷ xs) = f c x ∷ mapped f (c + 1) xs

-- the cells of row k begin, of these texts
unfoldable pub cells_begun : Table → ℕ → List Text → List (Option Placed) → List (Option Placed)
cells_begun t k texts cells = mapped (λ x. begin_cell t k (slice_index_or texts x []) x) 0 cells

-- the cells that end with row k are gone
unfoldable pub cells_closed : List Span → ℕ → List (Option Placed) → List (Option Placed)
cells_closed spans k cells = mapped (close_cell spans k) 0 cells

-- ---- a row of one line in a table without spans, off the texts of its cells

-- row k has one line, and no cell spans others
pub record IsSingle (t : Table) (k : ℕ) : Type 0 where
  pub alone : t.config.spans ≡ []
  pub height : t.height k ≡ 1

-- the vertical left of column x, and the one line of the cell there
unfoldable pub single_part : Table → ℕ → Text → ℕ → List Piece
single_part t k text x = vertical t k 0 x ++ block_line (style_at t.config (at k x)) (t.color (at k x)) text (t.width x) 1 0

-- those of all columns, and the vertical behind the last one
unfoldable pub single_line : Table → ℕ → List Text → List Piece
single_line t k texts = flat_map (λ x. single_part t k (slice_index_or texts x []) x) (range_with_len 0 t.columns) ++ vertical t k 0 t.columns

-- the texts of the first n columns are of this kind
abbrev pub AreOfKind : TextKind → ℕ → List Text → Type 0
AreOfKind kind n texts = (x : ℕ) → x < n → IsOfKind kind (slice_index_or texts x [])

-- Row k is such a row, and these are the texts of its cells: each has room, and is of this kind.
pub record IsSingleRow (t : Table) (k : ℕ) (kind : TextKind) (texts : List Text) : Type 0 where
  pub single : IsSingle t k
  pub whole : length texts ≡ t.columns
  pub rooms : HaveRoom t k texts
  pub kinds : AreOfKind kind t.columns texts

-- ---- what a stream's rows stand for, and what is true between the calls of a printer and of a stream

-- a printer of this table is sound, and what it keeps is a separator of the table
pub record IsSoundAt {D C B S A : Type 0} (t : Table) (frame : Frame D C B) (progress : Progress S A) : Type 0 where
  pub printer : IsSound (now_of t frame.hint progress) t frame.sheet.width frame.sheet.height progress.cells
  pub kept : IfSome progress.kept.text (IsSeparator t)

-- a stream of this table, where each cell has this text
abbrev pub streamed : {S A V : Type 0} → (S → Text) → Table → Option ℕ → HeldRows S A V → Streaming
streamed text t hint rows = record { before = now_of t hint rows.progress; held = option_map (λ row. map text row.items) rows.held }

-- the rows above the held one are printed, and where none is held, none was pushed
abbrev pub AreSoundAt : {D C B S A V : Type 0} → Table → Frame D C B → HeldRows S A V → Type 0
AreSoundAt t frame rows = IsSoundAt t frame rows.progress × (rows.held ≡ None → rows.progress.rows ≡ 0)

-- ---- a table whose rows bring their heights, as its printer holds it: of the rows above it knows how high they are together

-- the heights of rows of which the first has all lines
abbrev pub first_height : ℕ → ℕ → ℕ
first_height above r = if r == 0 then above else 0

-- the same, but for row k, which has its own
abbrev pub height_in : ℕ → ℕ → ℕ → ℕ → ℕ
height_in k height above r = if r == k then height else first_height above r

-- A printer of this table, whose rows are so high together: no cell spans rows, so it matters to no line which row has
-- which height.
pub record IsSizedAt {D C B S A : Type 0} (t : Table) (above : ℕ) (frame : Frame D C B) (progress : Progress S A) : Type 0 where
  pub sound : IsSoundAt (record t { height = first_height above }) frame progress
  pub none : progress.rows ≡ 0 → above ≡ 0
  pub hint : frame.hint ≡ None
  pub alone : has_row_spans frame.sheet.config.now.spans ≡ false

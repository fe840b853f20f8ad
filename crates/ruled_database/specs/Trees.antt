-- The pages of a database's file, as SQLite's file format has them, the rows of a tree of pages, from left to right, and what reading them does.
use Rattle.std.specs.Prelude.{ℕ, true, false, ◌+◌, ◌-◌, ◌*◌, ◌/◌, ◌==◌, ◌&&◌, nat_eq, nat_lt, nat_le, Bool, List, [], ◌∷◌, ◌++◌, codes, length, take, drop, slice_index, slice_index_or, Option}
use Rattle.std.specs.Prelude.{Some, None, if◌then◌else◌, zero, suc, ◌≡◌, ◌<◌, ◌⊎◌, Result, Ok, Err}
use Rattle.std.specs.List.{starts_with, flat_map, range_with_len}
use Rattle.sqlite_format.specs.Bytes.{u16_at, u32_at}
use Rattle.sqlite_format.specs.Cell.{cell_size, body_key, cell_body, cell_child, first_overflow, local_part, spilled_len}
use Rattle.sqlite_format.specs.Kinds.{flag_of, holds_rows}
use Rattle.sqlite_format.specs.Page.{header_end, cell_count, cell_offset, right_child}
use Rattle.sqlite_format.specs.declared.kind.Kind.{Kind}
use Rattle.sqlite_format.specs.declared.kind.Tree.{Tree}
use Rattle.sqlite_format.specs.declared.node.Node.{Node}
use Rattle.std.specs.Option.{option_map_or, option_and_then}
use Rattle.ruled_database.specs.declared.fault.TableFault.{TableFault}
use Rattle.ruled_database.specs.declared.fault.TableFault.TheVariants.{Damage, Default, Encoding, Memory}

-- ---- the file

-- what a file begins with
abbrev pub mark : List ℕ
mark = codes "SQLite format 3" ++ 0 ∷ []

-- how many bytes a page has
abbrev pub bytes_of_page : List ℕ → ℕ
bytes_of_page file = if u16_at file 16 == 1 then 65536 else u16_at file 16

-- how many of them it uses
abbrev pub usable_size : List ℕ → ℕ
usable_size file = bytes_of_page file - slice_index file 20

-- the bytes begin with the header of a database, whose pages have a size that the format allows
unfoldable pub has_header : List ℕ → Bool
has_header file = starts_with nat_eq file mark && nat_le 100 (length file) && nat_le 480 (usable_size file)

-- it keeps a log beside it
abbrev pub keeps_log : List ℕ → Bool
keeps_log file = slice_index_or file 18 0 == 2

-- its texts are in an encoding that the format has
abbrev pub has_encoding : List ℕ → Bool
has_encoding file = nat_le (u32_at file 56) 3

-- how many whole pages a file has
abbrev pub page_count : List ℕ → ℕ
page_count file = length file / bytes_of_page file

-- the file has all bytes of this page, of which the first one has the number 1
abbrev pub has_page : List ℕ → ℕ → Bool
has_page file number = nat_lt 0 number && nat_le (number * bytes_of_page file) (length file)

-- the used bytes of a page
unfoldable pub page : List ℕ → ℕ → Option (List ℕ)
page file number = if has_page file number then Some (take (usable_size file) (drop ((number - 1) * bytes_of_page file) file)) else None

-- ---- a page of a tree

-- where its header begins: on page 1 behind that of the file
abbrev pub header_at : ℕ → ℕ
header_at number = if number == 1 then 100 else 0

-- a page of a tree: its kind, its used bytes, and where its header begins
pub record TreePage : Type 0 where
  pub kind : Kind
  pub bytes : List ℕ
  pub header : ℕ

-- the page with these bytes, where the pointers to its cells lie within it
abbrev pub of_kind : Kind → List ℕ → ℕ → Option TreePage
of_kind kind bytes header =
    if nat_le (header_end kind.leaf header + 2 * cell_count bytes header) (length bytes) then Some (record { kind = kind; bytes = bytes; header = header }) else None

-- its first byte says whether it is a leaf of such a tree, or has pages below it
unfoldable pub tree_page : Tree → List ℕ → ℕ → Option TreePage
tree_page tree bytes header =
    if slice_index bytes header == flag_of tree true then of_kind (record { tree = tree; leaf = true }) bytes header
    else if slice_index bytes header == flag_of tree false then of_kind (record { tree = tree; leaf = false }) bytes header
    else None

-- the bytes from a cell on, where it ends within the page
unfoldable pub cell_at : TreePage → ℕ → Option (List ℕ)
cell_at page place =
    let cell = drop (cell_offset page.kind.leaf page.bytes page.header place) page.bytes in
    if nat_le (cell_size page.kind (length page.bytes) cell) (length cell) then Some cell else None

-- the page that a node of the kit is
abbrev pub page_of : Node → TreePage
page_of node = record { kind = node.kind; bytes = node.bytes.now; header = node.header }

-- ---- reading parts, one behind the other

-- how many pages it takes, and what it gives where all parts are sound
abbrev pub Read : Type 0 → Type 0
Read X = ℕ × Option X

-- a part that isn't sound
abbrev pub damaged : {X : Type 0} → Read X
damaged = (0, None)

-- items for which no page is read
abbrev pub given : {X : Type 0} → List X → Read (List X)
given items = (0, Some items)

-- one page, which holds no item
abbrev pub one_page : {X : Type 0} → Read (List X)
one_page = (1, Some [])

-- the items of one part behind those of another, where both are sound
abbrev pub joined : {X : Type 0} → Option (List X) → Option (List X) → Option (List X)
joined None last = None
joined (Some first) None = None
joined (Some first) (Some last) = Some (first ++ last)

abbrev pub both : {X : Type 0} → Read (List X) → Read (List X) → Read (List X)
both first last = (first.0 + last.0, joined first.1 last.1)

abbrev pub all : {X : Type 0} → List (Read (List X)) → Read (List X)
all [] = given []
all (first ∷ others) = both first (all others)

-- what is read where there is a value, without which the part isn't sound
abbrev pub where_some : {X Y : Type 0} → (X → Read Y) → Option X → Read Y
where_some read value = option_map_or read value damaged

-- ---- the rows of a tree: those of its leaves, and in an index also those between two children

-- a row as its page has it: its key, which a table's rows have, the first part of its record, how many bytes the rest has, and
-- the overflow page in which that begins
pub record Stored : Type 0 where
  pub key : ℕ
  pub local : List ℕ
  pub spilled : ℕ
  pub overflow : ℕ

-- the row in a cell's body, in a page with so many bytes
abbrev pub stored_in : Tree → ℕ → List ℕ → Stored
stored_in tree size body =
    record { key = body_key tree true body; local = local_part tree size body; spilled = spilled_len tree size body; overflow = first_overflow tree size body }

-- what a walk through a tree meets: a page, a row, or a part that isn't sound
pub data Step : Type 0 where
  a_page : Step
  a_row : Stored → Step
  a_fault : Step

-- what it meets in a value, without which the part isn't sound
abbrev pub steps_in : {X : Type 0} → (X → List Step) → Option X → List Step
steps_in steps value = option_map_or steps value (a_fault ∷ [])

-- the rows below a child, which a leaf doesn't have
abbrev pub rows_of_child : (ℕ → List Step) → Bool → ℕ → List Step
rows_of_child below leaf number = if leaf then [] else below number

-- the row that a cell itself holds
abbrev pub own_row : TreePage → List ℕ → List Step
own_row page cell = if holds_rows page.kind then a_row (stored_in page.kind.tree (length page.bytes) (cell_body page.kind (length page.bytes) cell)) ∷ [] else []

-- the rows of a cell: those below its child, and its own
abbrev pub rows_of_cell : (ℕ → List Step) → TreePage → List ℕ → List Step
rows_of_cell below page cell = rows_of_child below page.kind.leaf (cell_child cell) ++ own_row page cell

abbrev pub rows_at : (ℕ → List Step) → TreePage → ℕ → List Step
rows_at below page place = steps_in (rows_of_cell below page) (cell_at page place)

-- the rows of the cells of a page from one on, and those below its last child
abbrev pub rows_from : (ℕ → List Step) → TreePage → ℕ → List Step
rows_from below page place =
    flat_map (rows_at below page) (range_with_len place (cell_count page.bytes page.header - place)) ++ rows_of_child below page.kind.leaf (right_child page.bytes page.header)

module _ (file : List ℕ) (tree : Tree) where
  -- a page by its number
  abbrev pub page_at : ℕ → Option TreePage
  page_at number = option_and_then (λ bytes. tree_page tree bytes (header_at number)) (page file number)

  -- the rows of the page of this number and of those below it, in so many levels at most
  unfoldable pub rows_below : ℕ → ℕ → List Step
  rows_below zero number = a_fault ∷ []
  rows_below (suc levels) number = a_page ∷ steps_in (λ page. rows_from (rows_below levels) page 0) (page_at number)

-- ---- reading the rows of a tree

-- the rows before the first fault, and whether there is none; a page behind so many is one, too
abbrev pub sound_rows : ℕ → List Step → List Stored × Bool
sound_rows pages [] = ([], true)
sound_rows pages (a_page ∷ steps) = if pages == 0 then ([], false) else sound_rows (pages - 1) steps
sound_rows pages (a_row row ∷ steps) = (row ∷ (sound_rows pages steps).0, (sound_rows pages steps).1)
sound_rows pages (a_fault ∷ steps) = ([], false)

-- the first so many of them, if not all: what is behind them need not be sound
abbrev pub first_of : Option ℕ → List Stored × Bool → List Stored × Bool
first_of None rows = rows
first_of (Some limit) rows = if nat_le limit (length rows.0) then (take limit rows.0, true) else rows

module _ (file : List ℕ) where
  -- so many bytes of a chain of overflow pages, each of which begins with the number of the next one
  unfoldable pub chain : ℕ → ℕ → ℕ → Read (List ℕ)
  chain zero number left = if left == 0 then given [] else damaged
  chain (suc pages) number left =
      if left == 0 then given []
      else both one_page (where_some
      (λ bytes. both (given (take left (drop 4 bytes))) (chain pages (u32_at bytes 0) (left - length (take left (drop 4 bytes)))))
      (page file number))

  -- the record of a row: what its page holds, and the rest in overflow pages
  abbrev pub record_of : Stored → Read (List ℕ)
  record_of row = both (given row.local) (chain row.spilled row.overflow row.spilled)

-- ---- what reading a part has done

-- it gave the items that are there, and took the pages that they need; or the part isn't sound, or takes more pages than were left
abbrev pub Gives : {X U : Type 0} → Read (List X) → ℕ → ℕ → List X → List X → Result U TableFault → Type 0
Gives {X} read before after old new (Ok x) = (items : List X) × (read.1 ≡ Some items) × (new ≡ old ++ items) × (before ≡ after + read.0)
Gives read before after old new (Err Damage) = (read.1 ≡ None) ⊎ (before < read.0)
Gives read before after old new (Err Default) = ⊥
Gives read before after old new (Err (Encoding row)) = ⊥
Gives read before after old new (Err Memory) = Unit {0}

-- of one page
abbrev pub GivesPage : {X P : Type 0} → (P → X) → Option X → ℕ → ℕ → Result P TableFault → Type 0
GivesPage shown found before after (Ok it) = (found ≡ Some (shown it)) × (before ≡ after + 1)
GivesPage shown found before after (Err Damage) = (found ≡ None) ⊎ (before ≡ 0)
GivesPage shown found before after (Err Default) = ⊥
GivesPage shown found before after (Err (Encoding row)) = ⊥
GivesPage shown found before after (Err Memory) = Unit {0}

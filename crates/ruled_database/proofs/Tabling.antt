-- What has been read of one part, and then of the next, has been read of both; the steps of a tree; the rows of a table; why it isn't shown; and the digits of floats.
use Rattle.std.proofs.Common.{◌≡◌, ◌<◌, ◌∙◌, ◌+◌, ◌++◌, ◌∷◌, ℕ, List, [], map, take, drop, get_or, length, Option, Some, None, Result, Ok, Err, inl, inr, refl, sym, ap, ap₂, subst}
use Rattle.std.proofs.Common.{zero-add, add-zero, add_assoc, append_assoc, arith, ◌-◌, suc, zero, ◌≤◌, Bool, true, false, ◌*◌, ◌/◌, ◌^◌, ◌%◌, pow-suc}
use Rattle.std.specs.List.{flat_map, range_with_len}
use Rattle.std.proofs.lemmas.List.{map-append, append-nil, map_more}
use Rattle.ruled_database.specs.Listings.{LacksRow, row_step, steps_of, steps_of_all, with_row, Entry, HasWrongEntry, IsListed, IsWrongEntry, LacksDefinition, LacksEntries, LacksEntry}
use Rattle.ruled_database.specs.Listings.{LacksListing, LacksRows, LacksSchema, LacksTable, definition_with, entry_in, fields_of_entry}
use Rattle.ruled_database.specs.Trees.{Read, all, both, given, joined, damaged, one_page, where_some, Gives, GivesPage, Stored, chain, record_of, Step, a_page, first_of, own_row, page_at}
use Rattle.ruled_database.specs.Trees.{rows_at, rows_below, rows_from, rows_of_cell, rows_of_child, sound_rows, steps_in, TreePage, cell_at, page, page_count, page_of}
use Rattle.ruled_database.specs.declared.tree.StoredRow.{StoredRow}
use Rattle.ruled_database.specs.declared.tree.Level.{Level}
use Rattle.ruled_database.specs.declared.fault.TableFault.{TableFault}
use Rattle.ruled_database.specs.declared.fault.TableFault.TheVariants.{Damage, Default, Encoding, Memory}
use Rattle.std.proofs.Math.Dec.{leb-suc-suc}
use Rattle.std.proofs.Math.Numerals.{add-one}
use Rattle.std.proofs.lemmas.Bool.Decides.{nat_tests}
use Rattle.std.specs.Prelude.{◌==◌, if◌then◌else◌, slice_index_or, nat_le, All, Any, IfErr, List, [], ◌∷◌, ◌++◌, nat_lt, to_bits}
use Rattle.std.specs.Result.{IsErrAnd}
use Rattle.sqlite_format.specs.Bytes.{u32_at}
use Rattle.sqlite_format.specs.Page.{cell_count, right_child}
use Rattle.sqlite_format.specs.declared.kind.Tree.{Tree}
use Rattle.sqlite_format.specs.Cell.{cell_child}
use Rattle.std.specs.Option.{option_and_then}
use Rattle.sqlite_record.specs.Affinity.{widen}
use Rattle.sqlite_value.specs.Order.{Row}
use Rattle.csv.specs.Records.{AllText}
use Rattle.ruled_database.specs.Tables.{LacksTexts, AddsRows, GivesRow, HasWrongText, IsOld, IsUnsound, row_in, shown_row, shown_rows_of, texts_in, tree_rows, values_of, names_in}
use Rattle.ruled_database.specs.declared.definition.Definition.{Definition}
use Rattle.ruled_database.specs.declared.fault.DatabaseFault.{DatabaseFault}
use Rattle.ruled_database.specs.declared.fault.DatabaseFault.TheVariants.{Database, Encoding as UnknownEncoding, Schema, Absent, Elsewhere, Keyed, Computed, Table}
use Rattle.ruled_database.specs.declared.fault.TableFault.TheVariants as row
use Rattle.std.proofs.Math.Nat.{div-div-eq-div-mul}
use Rattle.std.specs.Float.{Float, binary64}
use Rattle.std.specs.Fmt.{decimal}
use Rattle.sqlite_sql.specs.Spelling as spec

-- ---- what has been read of one part, and then of the next, has been read of both

-- ---- parts one behind the other

joined_some : {X : Type 0} (a b : Option (List X)) (xs ys : List X) → a ≡ Some xs → b ≡ Some ys → joined a b ≡ Some (xs ++ ys)
joined_some a b xs ys first last = ap₂ joined first last

joined_none : {X : Type 0} (a b : Option (List X)) → b ≡ None → joined a b ≡ None
joined_none None b none = refl
joined_none (Some xs) b none = ap (joined (Some xs)) none

nothing_joined : {X : Type 0} (b : Option (List X)) → joined (Some []) b ≡ b
nothing_joined None = refl
nothing_joined (Some xs) = refl

joined_nothing : {X : Type 0} (a : Option (List X)) → joined a (Some []) ≡ a
joined_nothing None = refl
joined_nothing (Some xs) = ap Some (append-nil xs)

joined_assoc : {X : Type 0} (a b c : Option (List X)) → joined (joined a b) c ≡ joined a (joined b c)
joined_assoc None b c = refl
joined_assoc (Some xs) None c = refl
joined_assoc (Some xs) (Some ys) None = refl
joined_assoc (Some xs) (Some ys) (Some zs) = ap Some (append_assoc xs ys zs)

read_is : {X : Type 0} (a b : Read (List X)) → a.0 ≡ b.0 → a.1 ≡ b.1 → a ≡ b
read_is a b pages items = ap₂ (λ (n : ℕ) (o : Option (List _)). (n, o)) pages items

nothing_both : {X : Type 0} (b : Read (List X)) → both (given []) b ≡ b
nothing_both b = read_is (both (given []) b) b (zero-add b.0) (nothing_joined b.1)

both_nothing : {X : Type 0} (a : Read (List X)) → both a (given []) ≡ a
both_nothing a = read_is (both a (given [])) a (add-zero a.0) (joined_nothing a.1)

both_assoc : {X : Type 0} (a b c : Read (List X)) → both (both a b) c ≡ both a (both b c)
both_assoc a b c = read_is (both (both a b) c) (both a (both b c)) (add_assoc a.0 b.0 c.0) (joined_assoc a.1 b.1 c.1)

all-append : {X : Type 0} (xs ys : List (Read (List X))) → all (xs ++ ys) ≡ both (all xs) (all ys)
all-append [] ys = sym (nothing_both (all ys))
all-append (x ∷ xs) ys = ap (both x) (all-append xs ys) ∙ sym (both_assoc x (all xs) (all ys))

-- ---- what reading gives

pub gives_both : {X U V : Type 0} (a b : Read (List X)) (n m k : ℕ) (old mid new : List X) (x : U) (r : Result V TableFault) → Gives a n m old mid (Ok x) → Gives b m k mid new r
    → Gives (both a b) n k old new r
gives_both a b n m k old mid new x (Ok y) first last =
    (first.0 ++ last.0, joined_some a.1 b.1 first.0 last.0 first.1 last.1, last.2 ∙ ap (λ (xs : List _). xs ++ last.0) first.2 ∙ append_assoc old first.0 last.0, omega (arith, first.3, last.3))
gives_both a b n m k old mid new x (Err Damage) first (inl none) = inl (joined_none a.1 b.1 none)
gives_both a b n m k old mid new x (Err Damage) first (inr less) = inr (omega (arith, first.3, less))
gives_both a b n m k old mid new x (Err Default) first last = absurd last
gives_both a b n m k old mid new x (Err (Encoding row)) first last = absurd last
gives_both a b n m k old mid new x (Err Memory) first last = tt

-- where the first part isn't sound, or takes too many pages, both aren't or do
pub gives_fault : {X : Type 0} (U V : Type 0) (a b : Read (List X)) (n m : ℕ) (old new : List X) (fault : TableFault) → Gives {U = U} a n m old new (Err fault) → Gives {U = V} (both a b) n m old new (Err fault)
gives_fault U V a b n m old new Damage (inl none) = inl (ap (λ (o : Option (List _)). joined o b.1) none)
gives_fault U V a b n m old new Damage (inr less) = inr (omega (arith, less))
gives_fault U V a b n m old new Default fails = absurd fails
gives_fault U V a b n m old new (Encoding row) fails = absurd fails
gives_fault U V a b n m old new Memory fails = tt

pub gives_nothing : {X : Type 0} (n : ℕ) (old : List X) → Gives {U = ℕ} (given []) n n old old (Ok 0)
gives_nothing n old = ([], refl, sym (append-nil old), sym (add-zero n))

pub gives_given : {X U : Type 0} (items : List X) (n : ℕ) (old new : List X) (x : U) → new ≡ old ++ items → Gives (given items) n n old new (Ok x)
gives_given items n old new x is = (items, refl, is, sym (add-zero n))

-- a fault that is handed on
pub handed_on : {X : Type 0} (U : Type 0) {V : Type 0} (read : Read (List X)) (n m : ℕ) (old new : List X) (result : Result V TableFault) (found : TableFault) → IsErrAnd result (λ fault. fault ≡ found)
    → Gives {U = U} read n m old new (Err found) → Gives {U = V} read n m old new result
handed_on U {V} read n m old new (Ok x) found told gives = absurd told
handed_on U {V} read n m old new (Err Damage) found told gives = let is : found ≡ Damage = sym told in subst (λ (f : TableFault). Gives {U = V} read n m old new (Err f)) is gives
handed_on U {V} read n m old new (Err Default) found told gives = let is : found ≡ Default = sym told in absurd (subst (λ (f : TableFault). Gives {U = V} read n m old new (Err f)) is gives)
handed_on U {V} read n m old new (Err (Encoding row)) found told gives = let is : found ≡ Encoding row = sym told in absurd (subst (λ (f : TableFault). Gives {U = V} read n m old new (Err f)) is gives)
handed_on U {V} read n m old new (Err Memory) found told gives = tt

-- ---- the steps of a tree

same_both : {X : Type 0} (b : Bool) (x : X) → (if b then x else x) ≡ x
same_both true x = refl
same_both false x = refl

-- what is left from a cell on is that cell, and what is left from the next one on
pub one_cell : (below : ℕ → List Step) (page : TreePage) (place count : ℕ) → place < count → count ≡ cell_count page.bytes page.header
    → rows_from below page place ≡ rows_at below page place ++ rows_from below page (place + 1)
one_cell below page place count less is =
    let parts = rows_at below page in
    let last = rows_of_child below page.kind.leaf (right_child page.bytes page.header) in
    let left = cell_count page.bytes page.header - (place + 1) in
    let one : cell_count page.bytes page.header - place ≡ suc left = omega (arith, less, is) in
    ap (λ (n : ℕ). flat_map parts (range_with_len place n) ++ last) one ∙ append_assoc (parts place) (flat_map parts (range_with_len (place + 1) left)) last

-- behind all of them is the last child
pub no_cell : (below : ℕ → List Step) (page : TreePage) (place count : ℕ) → count ≤ place → count ≡ cell_count page.bytes page.header
    → rows_from below page place ≡ rows_of_child below page.kind.leaf (right_child page.bytes page.header)
no_cell below page place count less is =
    let none : cell_count page.bytes page.header - place ≡ 0 = omega (arith, less, is) in
    ap (λ (n : ℕ). flat_map (rows_at below page) (range_with_len place n) ++ rows_of_child below page.kind.leaf (right_child page.bytes page.header)) none

-- the deepest level comes first
levels_more : (file : List ℕ) (tree : Tree) (levels : List Level) (level : Level) → steps_of_all file tree (levels ++ level ∷ []) ≡ steps_of file tree level ++ steps_of_all file tree levels
levels_more file tree [] level = sym (append-nil (steps_of file tree level))
levels_more file tree (first ∷ levels) level =
    ap (λ (steps : List Step). steps ++ steps_of file tree first) (levels_more file tree levels level)
    ∙ append_assoc (steps_of file tree level) (steps_of_all file tree levels) (steps_of file tree first)

pub pushed : (file : List ℕ) (tree : Tree) (levels more : List Level) (level : Level) → more ≡ levels ++ level ∷ [] → steps_of_all file tree more ≡ steps_of file tree level ++ steps_of_all file tree levels
pushed file tree levels more level is = ap (steps_of_all file tree) is ∙ levels_more file tree levels level

-- a row before others is the next one
pub row_first : (left : ℕ) (row : Option StoredRow) (steps behind : List Step) → sound_rows left ((row_step row ++ steps) ++ behind) ≡ with_row row (sound_rows left (steps ++ behind))
row_first left None steps behind = refl
row_first left (Some row) steps behind = refl

-- a cell that is there: the rows below its child, its own, and those behind it
pub cell_steps : (below : ℕ → List Step) (page : TreePage) (place count number : ℕ) (cell : List ℕ) (row : Option StoredRow) → place < count → count ≡ cell_count page.bytes page.header → Some cell ≡ cell_at page place
    → number ≡ u32_at cell 0 → row_step row ≡ own_row page cell
    → rows_from below page place ≡ rows_of_child below page.kind.leaf number ++ (row_step row ++ rows_from below page (place + 1))
unfolding cell_child
cell_steps below page place count number cell row less is found child own =
    let later = rows_from below page (place + 1) in
    one_cell below page place count less is
    ∙ ap (λ (it : Option (List ℕ)). steps_in (rows_of_cell below page) it ++ later) (sym found)
    ∙ ap₂ (λ (n : ℕ) (steps : List Step). (rows_of_child below page.kind.leaf n ++ steps) ++ later) (sym child) (sym own)
    ∙ append_assoc (rows_of_child below page.kind.leaf number) (row_step row) later

module _ (file : List ℕ) (tree : Tree) (level : Level) (left number : ℕ) (cell : List ℕ) (row : Option StoredRow) (behind : List Step) (fresh : level.row ≡ None) (less : level.place < level.node.count)
    (found : Some cell ≡ cell_at (page_of level.node) level.place) (child : number ≡ u32_at cell 0) (own : row_step row ≡ own_row (page_of level.node) cell) where
  later : List Step
  later = rows_from (rows_below file tree level.below) (page_of level.node) (level.place + 1)

  level_steps : steps_of file tree level ≡ rows_of_child (rows_below file tree level.below) level.node.kind.leaf number ++ (row_step row ++ later)
  unfolding later cell_count
  level_steps =
      ap (λ (first : Option StoredRow). row_step first ++ rows_from (rows_below file tree level.below) (page_of level.node) level.place) fresh
      ∙ cell_steps (rows_below file tree level.below) (page_of level.node) level.place level.node.count number cell row less level.node.counted found child own

  -- of a leaf, the row is the next one
  pub leaf_cell : level.node.kind.leaf ≡ true → sound_rows left (steps_of file tree level ++ behind)
      ≡ with_row row (sound_rows left (steps_of file tree (record { node = level.node; below = level.below; place = level.place + 1; row = level.row }) ++ behind))
  unfolding cell_count later
  leaf_cell leaf =
      ap (λ (steps : List Step). sound_rows left (steps ++ behind)) (level_steps ∙ ap (λ (b : Bool). rows_of_child (rows_below file tree level.below) b number ++ (row_step row ++ later)) leaf)
      ∙ row_first left row later behind
      ∙ ap (λ (first : Option StoredRow). with_row row (sound_rows left ((row_step first ++ later) ++ behind))) (sym fresh)

  -- else those below its child come first
  pub inner_cell : level.node.kind.leaf ≡ false → sound_rows left (steps_of file tree level ++ behind)
      ≡ sound_rows left (rows_below file tree level.below number ++ (steps_of file tree (record { node = level.node; below = level.below; place = level.place + 1; row = row }) ++ behind))
  unfolding cell_count later
  inner_cell inner =
      ap (λ (steps : List Step). sound_rows left (steps ++ behind)) (level_steps ∙ ap (λ (b : Bool). rows_of_child (rows_below file tree level.below) b number ++ (row_step row ++ later)) inner)
      ∙ ap (sound_rows left) (append_assoc (rows_below file tree level.below number) (row_step row ++ later) behind)

-- a cell that isn't
pub cell_fault : (below : ℕ → List Step) (page : TreePage) (place count left : ℕ) (behind : List Step) → place < count → count ≡ cell_count page.bytes page.header → cell_at page place ≡ None
    → sound_rows left (rows_from below page place ++ behind) ≡ ([], false)
cell_fault below page place count left behind less is none =
    let later = rows_from below page (place + 1) in
    ap (λ (steps : List Step). sound_rows left (steps ++ behind)) (one_cell below page place count less is)
    ∙ ap (λ (it : Option (List ℕ)). sound_rows left ((steps_in (rows_of_cell below page) it ++ later) ++ behind)) none

-- a page that isn't there, for one of three reasons
pub no_level : (file : List ℕ) (tree : Tree) (levels number left : ℕ) (behind : List Step) → levels ≡ 0 → sound_rows left (rows_below file tree levels number ++ behind) ≡ ([], false)
unfolding rows_below
no_level file tree levels number left behind is = ap (λ (l : ℕ). sound_rows left (rows_below file tree l number ++ behind)) is

pub no_left : (file : List ℕ) (tree : Tree) (levels number left : ℕ) (behind : List Step) → left ≡ 0 → sound_rows left (rows_below file tree levels number ++ behind) ≡ ([], false)
unfolding rows_below
no_left file tree zero number left behind is = refl
no_left file tree (suc levels) number left behind is = ap (λ (l : ℕ). sound_rows l (rows_below file tree (suc levels) number ++ behind)) is

pub no_page : (file : List ℕ) (tree : Tree) (levels number left : ℕ) (behind : List Step) → page_at file tree number ≡ None
    → sound_rows left (rows_below file tree levels number ++ behind) ≡ ([], false)
unfolding rows_below
no_page file tree zero number left behind none = refl
no_page file tree (suc levels) number left behind none =
    ap (λ (page : Option TreePage). sound_rows left (a_page ∷ (steps_in (λ (it : TreePage). rows_from (rows_below file tree levels) it 0) page ++ behind))) none
    ∙ same_both (left == 0) ([], false)

if_more : {X : Type 0} (n : ℕ) (a b : X) → 0 < n → (if n == 0 then a else b) ≡ b
if_more n a b less = grind (arith, nat_tests)

-- a page that is there is one less to read, and its rows are next
pub one_page_less : (file : List ℕ) (tree : Tree) (levels below number left rest : ℕ) (page : TreePage) (behind : List Step) → levels ≡ below + 1 → left ≡ rest + 1
    → page_at file tree number ≡ Some page
    → sound_rows left (rows_below file tree levels number ++ behind) ≡ sound_rows rest (rows_from (rows_below file tree below) page 0 ++ behind)
unfolding rows_below
one_page_less file tree levels below number left rest page behind more fewer found =
    let steps = λ (it : Option TreePage). steps_in (λ (page : TreePage). rows_from (rows_below file tree below) page 0) it ++ behind in
    let less : left - 1 ≡ rest = omega (arith, fewer) in
    ap (λ (l : ℕ). sound_rows left (rows_below file tree l number ++ behind)) (more ∙ add-one below)
    ∙ if_more left ([], false) (sound_rows (left - 1) (steps (page_at file tree number))) (omega (arith, fewer))
    ∙ ap₂ (λ (l : ℕ) (it : Option TreePage). sound_rows l (steps it)) less found

-- why there is no row, of which the fault is handed on
pub lacks_row : {V : Type 0} (rows : List Stored × Bool) (result : Result V TableFault) (found : TableFault) → IsErrAnd result (λ fault. fault ≡ found) → LacksRow rows found → IfErr result (LacksRow rows)
lacks_row rows (Ok x) found told lacks = absurd told
lacks_row rows (Err fault) found told lacks = subst (LacksRow rows) (sym told) lacks

-- ---- the first rows

first_pair : (b : Bool) (row : Stored) (one other : List Stored × Bool)
    → ◌≡◌ {A = List Stored × Bool} (if◌then◌else◌ {A = List Stored × Bool} b (row ∷ one.0, one.1) (row ∷ other.0, other.1))
    (row ∷ (if◌then◌else◌ {A = List Stored × Bool} b one other).0, (if◌then◌else◌ {A = List Stored × Bool} b one other).1)
first_pair true row one other = refl
first_pair false row one other = refl

-- one row more, of which one less is wanted
pub first_more : (limit less : ℕ) (row : Stored) (rows : List Stored × Bool) → limit ≡ less + 1
    → ◌≡◌ {A = List Stored × Bool} (first_of (Some limit) (row ∷ rows.0, rows.1)) (row ∷ (first_of (Some less) rows).0, (first_of (Some less) rows).1)
first_more limit less row rows is =
    let none : List Stored × Bool = (row ∷ rows.0, rows.1) in
    ap (λ (n : ℕ). first_of (Some n) none) (is ∙ add-one less)
    ∙ ap (λ (b : Bool). if◌then◌else◌ {A = List Stored × Bool} b (row ∷ take less rows.0, true) none) (leb-suc-suc less (length rows.0))
    ∙ first_pair (nat_le less (length rows.0)) row (take less rows.0, true) rows

pub first_of_none : (limit : Option ℕ) → ◌≡◌ {A = List Stored × Bool} (first_of limit ([], true)) ([], true)
first_of_none None = refl
first_of_none (Some zero) = refl
first_of_none (Some (suc limit)) = same_both {X = List Stored × Bool} (nat_le (suc limit) 0) ([], true)

-- ---- overflow pages

pub chain_none : (file : List ℕ) (pages number left : ℕ) → left ≡ 0 → chain file pages number left ≡ given []
unfolding chain
chain_none file zero number left none = ap (λ (l : ℕ). if l == 0 then given [] else damaged) none
chain_none file (suc pages) number left none = ap (λ (l : ℕ). chain file (suc pages) number l) none

gives_page : {X : Type 0} (n m : ℕ) (old : List X) → n ≡ m + 1 → Gives {U = ℕ} one_page n m old old (Ok 0)
gives_page n m old one = ([], refl, sym (append-nil old), one)

module _ (file : List ℕ) (pages below number left : ℕ) (more : pages ≡ below + 1) (less : 0 < left) where
  chain_is : chain file pages number left
      ≡ both one_page (where_some (λ bytes. both (given (take left (drop 4 bytes))) (chain file below (u32_at bytes 0) (left - length (take left (drop 4 bytes))))) (page file number))
  unfolding chain
  chain_is = ap (λ (p : ℕ). chain file p number left) (more ∙ add-one below) ∙ if_more left _ _ less

  pub gives_chain : {V : Type 0} (bytes here : List ℕ) (next rest n m k : ℕ) (old mid new : List ℕ) (r : Result V TableFault) → page file number ≡ Some bytes → n ≡ m + 1 → here ≡ take left (drop 4 bytes)
      → mid ≡ old ++ here → next ≡ u32_at bytes 0 → rest ≡ left - length here → Gives (chain file below next rest) m k mid new r → Gives (chain file pages number left) n k old new r
  gives_chain bytes here next rest n m k old mid new r found one is added following fewer last =
      let more_of = λ (bytes : List ℕ). both (given (take left (drop 4 bytes))) (chain file below (u32_at bytes 0) (left - length (take left (drop 4 bytes)))) in
      let shorter : rest ≡ left - length (take left (drop 4 bytes)) = fewer ∙ ap (λ (h : List ℕ). left - length h) is in
      let whole : both one_page (both (given here) (chain file below next rest)) ≡ chain file pages number left =
      ap₂ (λ (h : List ℕ) (c : Read (List ℕ)). both one_page (both (given h) c)) is (ap₂ (chain file below) following shorter) ∙ sym (chain_is ∙ ap (λ (p : Option (List ℕ)). both one_page (where_some more_of p)) found) in
      subst (λ (read : Read (List ℕ)). Gives read n k old new r) whole
      (gives_both {U = ℕ} one_page (both (given here) (chain file below next rest)) n m k old old new 0 r (gives_page n m old one)
      (gives_both {U = ℕ} (given here) (chain file below next rest) m m k old mid new 0 r (gives_given {U = ℕ} here m old mid 0 added) last))

  pub gives_no_chain : {P : Type 0} (V : Type 0) (shown : P → List ℕ) (n m : ℕ) (old new : List ℕ) (fault : TableFault) → GivesPage shown (page file number) n m (Err fault)
      → Gives {U = V} (chain file pages number left) n m old new (Err fault)
  gives_no_chain V shown n m old new Damage (inl none) =
      inl (ap (λ (read : Read (List ℕ)). read.1) chain_is ∙ ap (λ (p : Option (List ℕ)). (both one_page (where_some (λ bytes. both (given (take left (drop 4 bytes))) (chain file below (u32_at bytes 0) (left - length (take left (drop 4 bytes))))) p)).1) none)
  gives_no_chain V shown n m old new Damage (inr none) = inr (omega (arith, ap (λ (read : Read (List ℕ)). read.0) chain_is, none))
  gives_no_chain V shown n m old new Default fails = absurd fails
  gives_no_chain V shown n m old new (Encoding row) fails = absurd fails
  gives_no_chain V shown n m old new Memory fails = tt

-- ---- what reading the record of a row gives, its texts give

-- no column is marked as one of floats
pub widened : (row : Row) → widen 0 row ≡ row
widened [] = refl
widened (value ∷ row) = ap (λ (rest : Row). value ∷ rest) (widened row)

-- one text more of a row
pub text_more : {Y : Type 0} (f : Y → List ℕ) (xs : List Y) (i : ℕ) (none : Y) (text partial : List ℕ) (old new : List (List ℕ)) → i < length xs → text ≡ f (get_or xs i none)
    → new ≡ old ++ ((partial ++ text) ∷ []) → partial ≡ [] → old ≡ map f (take i xs) → new ≡ map f (take (i + 1) xs)
text_more f xs i none text partial old new within is pushed whole before =
    pushed
    ∙ ap₂ (λ (texts : List (List ℕ)) (p : List ℕ). texts ++ ((p ++ text) ∷ [])) before whole
    ∙ ap (λ (t : List ℕ). map f (take i xs) ++ t ∷ []) is
    ∙ sym (map_more f xs i none within)

module _ (file : List ℕ) (definition : Definition) (row : Stored) (number n m : ℕ) where
  texts_of : List ℕ → Option (List (List (List ℕ)))
  texts_of bytes = row_in definition row.key (values_of file bytes)

  pub gives_shown : {U V : Type 0} (x : U) (y : V) (record_bytes : List ℕ) (old new : List (List (List ℕ))) → Gives (record_of file row) n m [] record_bytes (Ok x)
      → definition.least ≤ length (values_of file record_bytes) → new ≡ old ++ texts_in definition row.key (values_of file record_bytes) ∷ [] → GivesRow file definition row number n m old new (Ok y)
  unfolding texts_of
  gives_shown x y record_bytes old new read long added =
      let same : record_bytes ≡ read.0 = read.2 in
      let texts = texts_in definition row.key (values_of file record_bytes) in
      let whole : texts_of record_bytes ≡ Some (texts ∷ []) = grind (arith, nat_tests, long) in
      (texts ∷ [], ap (option_and_then texts_of) (read.1 ∙ ap Some (sym same)) ∙ whole, added, read.3)

  -- a record that lacks the value of a column
  pub gives_old : {U : Type 0} (V : Type 0) (x : U) (record_bytes : List ℕ) (old new : List (List (List ℕ))) → Gives (record_of file row) n m [] record_bytes (Ok x)
      → length (values_of file record_bytes) < definition.least → GivesRow {U = V} file definition row number n m old new (Err Default)
  gives_old V x record_bytes old new read short = let same : record_bytes ≡ read.0 = read.2 in (record_bytes, read.1 ∙ ap Some (sym same), short)

  -- a text that isn't UTF-8
  pub gives_wrong : {U V : Type 0} (x : U) (record_bytes : List ℕ) (texts : List (List ℕ)) (old new : List (List (List ℕ))) (result : Result V TableFault) (found : TableFault)
      → IsErrAnd result (λ fault. fault ≡ found) → Gives (record_of file row) n m [] record_bytes (Ok x) → texts ≡ texts_in definition row.key (values_of file record_bytes)
      → LacksTexts number texts found → GivesRow file definition row number n m old new result
  gives_wrong x record_bytes texts old new (Ok y) found told read is lacks = absurd told
  gives_wrong {U} {V} x record_bytes texts old new (Err fault) Memory told read is lacks =
      subst (λ (f : TableFault). GivesRow {U = V} file definition row number n m old new (Err f)) (sym told) tt
  gives_wrong {U} {V} x record_bytes texts old new (Err fault) Damage told read is lacks = absurd lacks
  gives_wrong {U} {V} x record_bytes texts old new (Err fault) Default told read is lacks = absurd lacks
  gives_wrong {U} {V} x record_bytes texts old new (Err fault) (Encoding at) told read is lacks =
      let same : record_bytes ≡ read.0 = read.2 in
      let wrong = subst (λ (t : List (List ℕ)). LacksTexts number t (Encoding at)) is lacks in
      subst (λ (f : TableFault). GivesRow {U = V} file definition row number n m old new (Err f)) (sym told) (wrong.0, (record_bytes, read.1 ∙ ap Some (sym same), wrong.1))

  -- texts that are
  pub gives_text : {U : Type 0} (x : U) (record_bytes : List ℕ) → Gives (record_of file row) n m [] record_bytes (Ok x) → AllText (texts_in definition row.key (values_of file record_bytes))
      → ¬ HasWrongText file definition row
  gives_text x record_bytes read text (bytes, is, wrong) =
      let whole : Some record_bytes ≡ Some bytes = ap Some read.2 ∙ sym read.1 ∙ is in
      let same : record_bytes ≡ bytes = cc in
      wrong (subst (λ (b : List ℕ). AllText (texts_in definition row.key (values_of file b))) same text)

  -- a record that isn't read
  pub gives_unread : (U : Type 0) {V : Type 0} (before after : List ℕ) (old new : List (List (List ℕ))) (result : Result V TableFault) (found : TableFault) → IsErrAnd result (λ fault. fault ≡ found)
      → Gives {U = U} (record_of file row) n m before after (Err found) → GivesRow file definition row number n m old new result
  unfolding texts_of
  gives_unread U before after old new (Ok y) found told fails = absurd told
  gives_unread U before after old new (Err Damage) found told fails =
      let is : found ≡ Damage = sym told in
      let damage = subst (λ (f : TableFault). Gives {U = U} (record_of file row) n m before after (Err f)) is fails in
      elim damage [ inl none ↦ inl (ap (option_and_then texts_of) none) | inr less ↦ inr less ]
  gives_unread U before after old new (Err Default) found told fails =
      let is : found ≡ Default = sym told in absurd (subst (λ (f : TableFault). Gives {U = U} (record_of file row) n m before after (Err f)) is fails)
  gives_unread U before after old new (Err (Encoding at)) found told fails =
      let is : found ≡ Encoding at = sym told in absurd (subst (λ (f : TableFault). Gives {U = U} (record_of file row) n m before after (Err f)) is fails)
  gives_unread U before after old new (Err Memory) found told fails = tt

-- one row more
module _ (file : List ℕ) (definition : Definition) (taken : List Stored) (row : Stored) (n m k : ℕ) (old mid new : List (List (List ℕ))) where
  rows_more : (later : List Stored) → shown_rows_of file definition (taken ++ row ∷ later)
      ≡ both (both (shown_rows_of file definition taken) (shown_row file definition row)) (shown_rows_of file definition later)
  rows_more later =
      ap all (map-append (shown_row file definition) taken (row ∷ later))
      ∙ all-append (map (shown_row file definition) taken) (shown_row file definition row ∷ map (shown_row file definition) later)
      ∙ sym (both_assoc (shown_rows_of file definition taken) (shown_row file definition row) (shown_rows_of file definition later))

  pub shown_more : {U V : Type 0} (x : U) (y : V) → Gives (shown_rows_of file definition taken) n m old mid (Ok x) → Gives (shown_row file definition row) m k mid new (Ok y)
      → Gives (shown_rows_of file definition (taken ++ row ∷ [])) n k old new (Ok y)
  shown_more {V = V} x y before here =
      subst (λ (read : Read (List (List (List ℕ)))). Gives {U = V} read n k old new (Ok y)) (sym (rows_more [] ∙ both_nothing (both (shown_rows_of file definition taken) (shown_row file definition row))))
      (gives_both (shown_rows_of file definition taken) (shown_row file definition row) n m k old mid new x (Ok y) before here)

  pub shown_less : {U : Type 0} (V : Type 0) (x : U) (later : List Stored) → Gives (shown_rows_of file definition taken) n m old mid (Ok x) → Gives {U = V} (shown_row file definition row) m k mid new (Err Damage)
      → Gives {U = V} (shown_rows_of file definition (taken ++ row ∷ later)) n k old new (Err Damage)
  shown_less V x later before fails =
      let first = shown_rows_of file definition taken in
      let here = shown_row file definition row in
      subst (λ (read : Read (List (List (List ℕ)))). Gives {U = V} read n k old new (Err Damage)) (sym (rows_more later))
      (gives_fault V V (both first here) (shown_rows_of file definition later) n k old new Damage (gives_both {V = V} first here n m k old mid new x (Err Damage) before fails))

-- an item between others
between : {X : Type 0} (before later : List X) (x : X) → (length before < length (before ++ x ∷ later)) × (slice_index_or (before ++ x ∷ later) (length before) x ≡ x)
between [] later x = (omega arith, refl)
between (y ∷ before) later x = let rest = between before later x in (omega (arith, rest.0), rest.1)

module _ (limit : Option ℕ) (file : List ℕ) (root : ℕ) (definition : Definition) (old new : List (List (List ℕ))) where
  -- no row to begin with
  pub adds_none : (V : Type 0) (result : Result V TableFault) (found : TableFault) → IsErrAnd result (λ fault. fault ≡ found) → LacksRow (tree_rows limit file definition.tree root) found
      → AddsRows limit file root definition old new result
  adds_none V (Ok x) found told lacks = absurd told
  adds_none V (Err Damage) found told lacks = inl (ap (λ (rows : List Stored × Bool). rows.1) (subst (LacksRow (tree_rows limit file definition.tree root)) (sym told) lacks))
  adds_none V (Err Default) found told lacks = absurd (subst (LacksRow (tree_rows limit file definition.tree root)) (sym told) lacks)
  adds_none V (Err (Encoding at)) found told lacks = absurd (subst (LacksRow (tree_rows limit file definition.tree root)) (sym told) lacks)
  adds_none V (Err Memory) found told lacks = tt

  module _ (taken : List Stored) (rest : List Stored × Bool) (walked : tree_rows limit file definition.tree root ≡ (taken ++ rest.0, rest.1)) where
    -- no further row
    pub adds_no_more : (V : Type 0) (result : Result V TableFault) (found : TableFault) → IsErrAnd result (λ fault. fault ≡ found) → LacksRow rest found → AddsRows limit file root definition old new result
    adds_no_more V (Ok x) found told lacks = absurd told
    adds_no_more V (Err Damage) found told lacks =
        inl (ap (λ (rows : List Stored × Bool). rows.1) walked ∙ ap (λ (rows : List Stored × Bool). rows.1) (subst (LacksRow rest) (sym told) lacks))
    adds_no_more V (Err Default) found told lacks = absurd (subst (LacksRow rest) (sym told) lacks)
    adds_no_more V (Err (Encoding at)) found told lacks = absurd (subst (LacksRow rest) (sym told) lacks)
    adds_no_more V (Err Memory) found told lacks = tt

    pub adds_all : {U V : Type 0} (x : U) (y : V) (n m : ℕ) → rest ≡ ([], true) → Gives (shown_rows_of file definition taken) n m old new (Ok x) → AddsRows limit file root definition old new (Ok y)
    adds_all x y n m done read =
        let whole : tree_rows limit file definition.tree root ≡ (taken, true) =
        walked ∙ ap (λ (rows : List Stored × Bool). (taken ++ rows.0, rows.1)) done ∙ ap (λ (rows : List Stored). (rows, true)) (append-nil taken) in
        (read.0, record { sound = ap (λ (rows : List Stored × Bool). rows.1) whole; shown = ap (λ (rows : List Stored × Bool). (shown_rows_of file definition rows.0).1) whole ∙ read.1 }, read.2)

  -- one of the rows fails, which makes all of them fail if a page does
  module _ (taken later : List Stored) (row : Stored) (sound : Bool) (walked : tree_rows limit file definition.tree root ≡ (taken ++ row ∷ later, sound)) where
    pub adds_unread : {X : Type 0} (U V : Type 0) (x : X) (number n m k : ℕ) (mid : List (List (List ℕ))) (result : Result V TableFault) (found : TableFault) → IsErrAnd result (λ fault. fault ≡ found) → n ≡ page_count file
        → Gives (shown_rows_of file definition taken) n m old mid (Ok x) → All (λ other. ¬ HasWrongText file definition other) taken → number ≡ length taken + 1
        → GivesRow {U = U} file definition row number m k mid new (Err found) → AddsRows limit file root definition old new result
    adds_unread U V x number n m k mid (Ok y) found told all_pages read texts counted fails = absurd told
    adds_unread U V x number n m k mid (Err Damage) found told all_pages read texts counted fails =
        let is : found ≡ Damage = sym told in
        let damage = shown_less file definition taken row n m k old mid new U x later read (subst (λ (f : TableFault). GivesRow {U = U} file definition row number m k mid new (Err f)) is fails) in
        let unsound : IsUnsound file (shown_rows_of file definition (taken ++ row ∷ later)) = elim damage [ inl none ↦ inl none | inr less ↦ inr (omega (arith, less, all_pages)) ] in
        inr (subst (λ (rows : List Stored × Bool). IsUnsound file (shown_rows_of file definition rows.0)) (sym walked) unsound)
    adds_unread U V x number n m k mid (Err Default) found told all_pages read texts counted fails =
        let is : found ≡ Default = sym told in
        let here = between taken later row in
        subst (λ (rows : List Stored × Bool). Any (IsOld file definition) rows.0) (sym walked)
        (length taken, row, here.0, here.1, subst (λ (f : TableFault). GivesRow {U = U} file definition row number m k mid new (Err f)) is fails)
    adds_unread U V x number n m k mid (Err (Encoding at)) found told all_pages read texts counted fails =
        let is : found ≡ Encoding at = sym told in
        let wrong = subst (λ (f : TableFault). GivesRow {U = U} file definition row number m k mid new (Err f)) is fails in
        record {
          before = taken;
          row = row;
          behind = later;
          among = ap (λ (rows : List Stored × Bool). rows.0) walked;
          wrong = wrong.1;
          first = texts;
          counted = wrong.0 ∙ counted;
        }
    adds_unread U V x number n m k mid (Err Memory) found told all_pages read texts counted fails = tt

-- ---- why a table isn't shown, from why a part of it isn't

-- rows that couldn't be added
pub lacks_rows : (U : Type 0) (limit : Option ℕ) (file : List ℕ) (root : ℕ) (known definition : Definition) (old new : List (List (List ℕ))) (fault : TableFault) → known ≡ definition
    → AddsRows {U = U} limit file root known old new (Err fault) → LacksRows limit file root definition fault
lacks_rows U limit file root known definition old new row.Damage is adds = subst (λ (it : Definition). AddsRows {U = U} limit file root it old new (Err row.Damage)) is adds
lacks_rows U limit file root known definition old new row.Default is adds = subst (λ (it : Definition). AddsRows {U = U} limit file root it old new (Err row.Default)) is adds
lacks_rows U limit file root known definition old new (row.Encoding at) is adds = inr (subst (λ (it : Definition). AddsRows {U = U} limit file root it old new (Err (row.Encoding at))) is adds)
lacks_rows U limit file root known definition old new row.Memory is adds = tt

-- the same, of which the fault is handed on
pub lacks_added : {V : Type 0} (U : Type 0) (limit : Option ℕ) (file : List ℕ) (root : ℕ) (definition : Definition) (old new : List (List (List ℕ))) (result : Result V TableFault) (found : TableFault) → IsErrAnd result (λ fault. fault ≡ found)
    → AddsRows {U = U} limit file root definition old new (Err found) → IfErr result (LacksRows limit file root definition)
lacks_added U limit file root definition old new (Ok x) found told adds = absurd told
lacks_added U limit file root definition old new (Err fault) found told adds =
    lacks_rows U limit file root definition definition old new fault refl (subst (λ (f : TableFault). AddsRows {U = U} limit file root definition old new (Err f)) (sym told) adds)

-- names of columns that aren't shown
pub lacks_named : (limit : Option ℕ) (file : List ℕ) (root : ℕ) (definition : Definition) (fault : TableFault) → LacksTexts 0 (names_in definition.columns) fault → LacksRows limit file root definition fault
lacks_named limit file root definition row.Damage lacks = absurd lacks
lacks_named limit file root definition row.Default lacks = absurd lacks
lacks_named limit file root definition (row.Encoding at) lacks = inl lacks
lacks_named limit file root definition row.Memory lacks = tt

pub lacks_names : {V : Type 0} (limit : Option ℕ) (file : List ℕ) (root : ℕ) (definition : Definition) (result : Result V TableFault) (found : TableFault) → IsErrAnd result (λ fault. fault ≡ found)
    → LacksTexts 0 (names_in definition.columns) found → IfErr result (LacksRows limit file root definition)
lacks_names limit file root definition (Ok x) found told lacks = absurd told
lacks_names limit file root definition (Err fault) found told lacks = lacks_named limit file root definition fault (subst (LacksTexts 0 (names_in definition.columns)) (sym told) lacks)

module _ (limit : Option ℕ) (file null_text : List ℕ) (entry : Entry) where
  lacks_definition : (fault : DatabaseFault) → LacksDefinition entry fault → LacksEntry limit file null_text entry fault
  lacks_definition Database lacks = absurd lacks
  lacks_definition UnknownEncoding lacks = absurd lacks
  lacks_definition (Schema fault) lacks = absurd lacks
  lacks_definition Absent lacks = absurd lacks
  lacks_definition Elsewhere lacks = lacks
  lacks_definition Keyed lacks = lacks
  lacks_definition Computed lacks = lacks
  lacks_definition (Table fault) lacks = subst (λ (f : TableFault). LacksEntry limit file null_text entry (Table f)) (sym lacks) tt

  pub lacks_by_definition : {V : Type 0} (result : Result V DatabaseFault) (found : DatabaseFault) → IsErrAnd result (λ fault. fault ≡ found) → LacksDefinition entry found
      → IfErr result (LacksEntry limit file null_text entry)
  lacks_by_definition (Ok x) found told lacks = absurd told
  lacks_by_definition (Err fault) found told lacks = lacks_definition fault (subst (LacksDefinition entry) (sym told) lacks)

  pub lacks_by_rows : {V : Type 0} (result : Result V DatabaseFault) (found : TableFault) (definition : Definition) → IsErrAnd result (λ fault. fault ≡ Table found)
      → definition ≡ definition_with null_text entry.statement → LacksRows limit file entry.root definition found → IfErr result (LacksEntry limit file null_text entry)
  lacks_by_rows (Ok x) found definition told is lacks = absurd told
  lacks_by_rows (Err fault) found definition told is lacks =
      subst (LacksEntry limit file null_text entry) (sym told) (subst (λ (it : Definition). LacksRows limit file entry.root it found) is lacks)

-- a table that is listed and has no rows to show
pub lacks_listed : {V : Type 0} (limit : Option ℕ) (file name null_text : List ℕ) (entry : Entry) (result : Result V DatabaseFault) → IsListed file name entry → IfErr result (LacksEntry limit file null_text entry) → IfErr result (LacksTable limit file name null_text)
lacks_listed limit file name null_text entry (Ok x) listed lacks = tt
lacks_listed limit file name null_text entry (Err Database) listed lacks = absurd lacks
lacks_listed limit file name null_text entry (Err UnknownEncoding) listed lacks = absurd lacks
lacks_listed limit file name null_text entry (Err (Schema fault)) listed lacks = absurd lacks
lacks_listed limit file name null_text entry (Err Absent) listed lacks = absurd lacks
lacks_listed limit file name null_text entry (Err Elsewhere) listed lacks = (entry, listed, lacks)
lacks_listed limit file name null_text entry (Err Keyed) listed lacks = (entry, listed, lacks)
lacks_listed limit file name null_text entry (Err Computed) listed lacks = (entry, listed, lacks)
lacks_listed limit file name null_text entry (Err (Table row.Damage)) listed lacks = (entry, listed, lacks)
lacks_listed limit file name null_text entry (Err (Table row.Default)) listed lacks = (entry, listed, lacks)
lacks_listed limit file name null_text entry (Err (Table (row.Encoding at))) listed lacks = (entry, listed, lacks)
lacks_listed limit file name null_text entry (Err (Table row.Memory)) listed lacks = tt

-- ---- the list of all

-- an entry that isn't shown, among others
pub lacks_line : {V : Type 0} (number : ℕ) (whole rest : List (List (List ℕ))) (line : List (List ℕ)) (entry : Entry) (result : Result V TableFault) (found : TableFault) → IsErrAnd result (λ fault. fault ≡ found)
    → (HasWrongEntry (line ∷ rest) → HasWrongEntry whole) → entry_in line ≡ Some entry → LacksTexts number (fields_of_entry entry) found → IfErr result (LacksEntries whole)
lacks_line number whole rest line entry (Ok x) found told goes is lacks = absurd told
lacks_line number whole rest line entry (Err row.Damage) found told goes is lacks = absurd (subst (LacksTexts number (fields_of_entry entry)) (sym told) lacks)
lacks_line number whole rest line entry (Err row.Default) found told goes is lacks = absurd (subst (LacksTexts number (fields_of_entry entry)) (sym told) lacks)
lacks_line number whole rest line entry (Err (row.Encoding at)) found told goes is lacks =
    goes (inl (subst IsWrongEntry (sym is) (subst (LacksTexts number (fields_of_entry entry)) (sym told) lacks).1))
lacks_line number whole rest line entry (Err row.Memory) found told goes is lacks = tt

-- entries that aren't listed, of which the fault is handed on
pub lacks_lines : {V : Type 0} (schema : List (List (List ℕ))) (result : Result V TableFault) (found : TableFault) → IsErrAnd result (λ fault. fault ≡ found) → LacksEntries schema found → IfErr result (LacksEntries schema)
lacks_lines schema (Ok x) found told lacks = absurd told
lacks_lines schema (Err fault) found told lacks = subst (LacksEntries schema) (sym told) lacks

-- a schema that isn't read
lacks_read : (file : List ℕ) (fault : DatabaseFault) → LacksSchema file fault → LacksListing file fault
lacks_read file Database lacks = absurd lacks
lacks_read file UnknownEncoding lacks = absurd lacks
lacks_read file (Schema fault) lacks = inl lacks
lacks_read file Absent lacks = absurd lacks
lacks_read file Elsewhere lacks = absurd lacks
lacks_read file Keyed lacks = absurd lacks
lacks_read file Computed lacks = absurd lacks
lacks_read file (Table fault) lacks = lacks

pub lacks_schema : {V : Type 0} (file bytes : List ℕ) (result : Result V DatabaseFault) (found : DatabaseFault) → IsErrAnd result (λ fault. fault ≡ found) → file ≡ bytes → LacksSchema file found → IfErr result (LacksListing bytes)
lacks_schema file bytes (Ok x) found told is lacks = absurd told
lacks_schema file bytes (Err fault) found told is lacks = subst (λ (f : List ℕ). LacksListing f fault) is (lacks_read file fault (subst (LacksSchema file) (sym told) lacks))

ten_times : (count k : ℕ) → 0 < k → k ≤ count → 10 ^ (count - k) * 10 ≡ 10 ^ (count - (k - 1))
ten_times count k some within =
    let more : count - (k - 1) ≡ suc (count - k) = omega arith in
    omega (arith, pow-suc 10 (count - k), ap (λ (m : ℕ). 10 ^ m) more)

-- one digit less
pub front_less : (number k : ℕ) → 0 < k → k ≤ spec.count number → spec.front number k / 10 ≡ spec.front number (k - 1)
front_less number k some within = div-div-eq-div-mul number (10 ^ (spec.count number - k)) 10 ∙ ap (λ (p : ℕ). number / p) (ten_times (spec.count number) k some within)

digit_of : (number at front : ℕ) → front ≡ spec.front number (suc at) → spec.digit number at ≡ front % 10
digit_of number at front is =
    let next : at + 1 ≡ suc at = omega arith in
    ap (λ (k : ℕ). spec.front number k % 10) next ∙ ap (λ (f : ℕ). f % 10) (sym is)

-- a run that goes on to the left, or begins
pub run_more : (number of start front : ℕ) → 0 < start → front ≡ spec.front number start → front % 10 ≡ of → spec.run_from number of (start - 1) ≡ spec.run_from number of start
run_more number of zero front some is same = absurd (omega (arith, some))
run_more number of (suc at) front some is same =
    let digit : spec.digit number at ≡ of = digit_of number at front is ∙ same in grind (arith, nat_tests)

pub run_ends : (number of start front : ℕ) → 0 < start → front ≡ spec.front number start → (front % 10 ≡ of → ⊥) → start ≡ spec.run_from number of start
run_ends number of zero front some is other = absurd (omega (arith, some))
run_ends number of (suc at) front some is other = let digit : spec.digit number at ≡ front % 10 = digit_of number at front is in grind (arith, nat_tests)

-- a positive float that is written without an exponent
pub sized : (bits number point : ℕ) → bits < 2047 * 2 ^ 52 → 17 < spec.count (spec.digits bits)
    → number ≡ spec.front (spec.digits bits) (spec.kept bits) + (if nat_le 5 (spec.digit (spec.digits bits) (spec.kept bits)) then 1 else 0)
    → point ≡ spec.count number + (spec.count (spec.digits bits) - spec.kept bits) + 742 - spec.row bits → 397 ≤ point → point ≤ 417
    → spec.size bits ≡ spec.with_point (decimal (spec.without_zeros 20 number)) point
unfolding spec.size spec.finite spec.rounded
sized bits number point finite enough is at least most = grind (arith, nat_tests, finite, enough, is, at, least, most)

-- a float that is written so, with its sign
pub spelled_plain : (x : Float) (bits : ℕ) (text : List ℕ) → bits ≡ to_bits binary64 x → 0 < bits % 2 ^ 63 → spec.size (bits % 2 ^ 63) ≡ text
    → (if nat_lt bits (2 ^ 63) then [] else 45 ∷ []) ++ text ≡ spec.spelled x
unfolding spec.spelled
spelled_plain x bits text is some sized = grind (arith, nat_tests, is, some, sized)

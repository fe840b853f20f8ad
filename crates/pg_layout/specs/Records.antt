-- What records stand for: a list of rows, each a list of texts; and what the iterators give that read them.
use Rattle.std.specs.Prelude.{◌≡◌, ℕ, ◌==◌, not, List, [], ◌∷◌, ◌++◌, codes, decimal, length, All, IfSome, position, slice_get, slice_index_or, slice_set, Option, Some, None}
use Rattle.std.specs.Iterator.{Count, IsFinite}
use Rattle.pg_layout.specs.Text.{Text}
use Rattle.pg_layout.specs.declared.position.Position.{Position}
use Rattle.pg_layout.specs.declared.vec_records.PushFault.{PushFault}
use Rattle.pg_layout.specs.declared.vec_records.PushFault.TheVariants as pushed
use Rattle.pg_layout.specs.declared.vec_records.RecordsFault.{RecordsFault}
use Rattle.pg_layout.specs.declared.vec_records.RecordsFault.TheVariants.{Ragged}

-- rows of texts
abbrev pub Table : Type 0
Table = List (List Text)

-- calls from s give items that stand for ys, one by one, and then `None`
abbrev pub AlwaysGives : {S A B : Type 0} → (A → B → Type 0) → (S → Option A → S → Type 0) → S → List B → Type 0
AlwaysGives P steps s [] = (x : _) (j : _) → ¬ (steps s (Some x) j)
AlwaysGives P steps s (y ∷ ys) = ((j : _) → ¬ (steps s None j)) × ((x : _) (j : _) → steps s (Some x) j → P x y × AlwaysGives P steps j ys)

-- an iterator that may be run to its end, and gives items that stand for ys
pub record Gives {S A B : Type 0} (P : A → B → Type 0) (can : S → Type 0) (steps : S → Option A → S → Type 0) (left : S → Count) (s : S) (ys : List B) : Type 0 where
  pub can_next : can s
  pub ends : IsFinite (left s)
  pub gives : AlwaysGives P steps s ys

-- whatever x becomes stands for y
abbrev pub Becomes : {U S B : Type 0} → (U → S → Type 0) → (S → B → Type 0) → U → B → Type 0
Becomes {S} becomes P x y = (s : S) → becomes x s → P s y

-- the iterator of rows that records hold, the texts that the rows stand for, how many cells each row has, and how many rows where that is known
pub record Given (I : Type 0) : Type 0 where
  pub iter : I
  pub texts : Table
  pub columns : ℕ
  pub hint : Option ℕ

-- what holds of records that an iterator gives: it gives rows that stand for the texts, each row has as many cells as there are columns, and the hint is the number of rows
pub record IsGiven {I : Type 0} (stands : I → Table → Type 0) (r : Given I) : Type 0 where
  pub rows : stands r.iter r.texts
  pub even : All (λ row. length row ≡ r.columns) r.texts
  pub exact : IfSome r.hint (λ rows. rows ≡ length r.texts)

-- the text at a place, and none outside the table
abbrev pub text_at : Table → Position → Text
text_at texts p = slice_index_or (slice_index_or texts p.row []) p.col []

-- the cell at a place, if there is one; and the rows with another cell there
abbrev pub cell_of : {X : Type 0} → Position → List (List X) → Option X
cell_of p rows = slice_get (slice_index_or rows p.row []) p.col

abbrev pub with_cell : {X : Type 0} → Position → X → List (List X) → List (List X)
with_cell p cell rows = slice_set rows p.row (slice_set (slice_index_or rows p.row []) p.col cell)

-- how many cells the first row has
abbrev pub columns_of : {X : Type 0} → List (List X) → ℕ
columns_of [] = 0
columns_of (row ∷ rows) = length row

-- the first row whose length differs from that of the first
abbrev pub ragged_row : {X : Type 0} → List (List X) → Option ℕ
ragged_row rows = position (λ row. not (length row == columns_of rows)) rows

-- the words for rows that are no records
abbrev pub records_fault_text : RecordsFault → Text
records_fault_text (Ragged row) = codes "row " ++ (decimal row ++ codes " has another length than row 0")

-- the words for a row that isn't added
abbrev pub push_fault_text : PushFault → Text
push_fault_text (pushed.Ragged row) = records_fault_text (Ragged row)
push_fault_text pushed.Memory = codes "out of memory"

-- Settings by entity: the latest one whose entity holds a place counts there.
use Rattle.std.specs.Prelude.{◌≡◌, ℕ, zero, suc, max, ◌<◌, ◌-◌, ◌^◌, Bool, true, nat_lt, List, [], ◌∷◌, Option, Some, None, is_some, ◌||◌, ◌&&◌, ◌==◌, length, if◌then◌else◌}
use Rattle.pg_layout.specs.declared.position.Entity.{Entity}
use Rattle.pg_layout.specs.declared.position.Entity.TheVariants.{Global, Row, Column, Cell}
use Rattle.pg_layout.specs.declared.position.Position.{Position}
use Rattle.pg_layout.specs.Keys.{by_number, by_place}
use Rattle.pg_layout.specs.Places.{value_at, with_place}
use Rattle.pg_layout.specs.Position.{at}

-- At most one setting for each row, column and cell, with its number: of two settings, the one of the greater number
-- is the later. The base is the oldest.
pub record Settings (V : Type 0) : Type 0 where
  pub base : Option V
  pub rows : List (ℕ × (ℕ × V))
  pub columns : List (ℕ × (ℕ × V))
  pub cells : List (Position × (ℕ × V))

abbrev pub has_some : {V : Type 0} → List V → Bool
has_some [] = Bool.false
has_some (x ∷ xs) = Bool.true

-- the least number above those of the entries
abbrev pub number_above : {K V : Type 0} → List (K × (ℕ × V)) → ℕ
number_above [] = zero
number_above (e ∷ es) = max (suc e.1.0) (number_above es)

module _ {V : Type 0} where
  abbrev pub no_settings : Settings V
  no_settings = record { base = None; rows = []; columns = []; cells = [] }

  -- the number of the next setting
  abbrev pub next_number : Settings V → ℕ
  next_number s = max (number_above s.cells) (max (number_above s.rows) (number_above s.columns))

  -- nothing was set but for all places
  abbrev pub is_for_all : Settings V → Bool
  is_for_all s = ((length s.cells == 0) && (length s.rows == 0)) && (length s.columns == 0)

  -- nothing was set for a row or a cell
  abbrev pub is_by_column : Settings V → Bool
  is_by_column s = (length s.cells == 0) && (length s.rows == 0)

  -- the later of two settings
  abbrev pub latest : Option (ℕ × V) → Option (ℕ × V) → Option (ℕ × V)
  latest None b = b
  latest (Some a) None = Some a
  latest (Some a) (Some b) = if nat_lt a.0 b.0 then Some b else Some a

  abbrev pub value_or : Option V → Option (ℕ × V) → Option V
  value_or base None = base
  value_or base (Some e) = Some e.1

  -- the latest setting whose entity holds the place
  unfoldable pub setting_of : Settings V → Position → Option V
  setting_of s p = value_or s.base (latest (value_at by_place p s.cells) (latest (value_at by_number p.row s.rows) (value_at by_number p.col s.columns)))

  -- a new setting; one for all places takes all others away
  unfoldable pub with_setting : Entity → V → Settings V → Settings V
  with_setting Global v s = record { base = Some v; rows = []; columns = []; cells = [] }
  with_setting (Row r) v s = record s { rows = with_place by_number r (next_number s, v) s.rows }
  with_setting (Column c) v s = record s { columns = with_place by_number c (next_number s, v) s.columns }
  with_setting (Cell r c) v s = record s { cells = with_place by_place (at r c) (next_number s, v) s.cells }

  -- the entity has a setting of its own
  abbrev pub has_own : Entity → Settings V → Bool
  has_own Global s = is_some s.base
  has_own (Row r) s = is_some (value_at by_number r s.rows)
  has_own (Column c) s = is_some (value_at by_number c s.columns)
  has_own (Cell r c) s = is_some (value_at by_place (at r c) s.cells)

  -- so its next one takes no memory, and there is a number for it
  abbrev pub HasRoom : Entity → Settings V → Type 0
  HasRoom entity s = (has_own entity s ≡ true) × (next_number s < 2 ^ 64 - 1)

  -- something was set
  unfoldable pub is_set : Settings V → Bool
  is_set s = (is_some s.base || has_some s.cells) || (has_some s.rows || has_some s.columns)

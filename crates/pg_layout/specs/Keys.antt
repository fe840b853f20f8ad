-- What values stand at, and the order of it.
use Rattle.std.specs.Prelude.{◌≡◌, ℕ, Bool, true, ◌&&◌, ◌||◌, ◌==◌, nat_lt, if◌then◌else◌}
use Rattle.std.specs.declared.cmp.Ordering.{Ordering}
use Rattle.std.specs.declared.cmp.Ordering.TheVariants.{Less, Equal, Greater}
use Rattle.pg_layout.specs.declared.position.Position.{Position}
use Rattle.pg_layout.specs.declared.position.ColumnPlace.{ColumnPlace}

-- an order of keys: one stands before another, and two are one
pub record Order (K : Type 0) : Type 0 where
  pub before : K → K → Bool
  pub same : K → K → Bool

-- It is the order of a comparison, which tells keys apart that aren't one.
pub record IsOrderOf {K : Type 0} (cmp : K → K → Ordering) (order : Order K) : Type 0 where
  pub is : (a b : K) → cmp a b ≡ (if order.before a b then Less else if order.same a b then Equal else Greater)
  pub same_is : (a b : K) → order.same a b ≡ true → a ≡ b

-- ---- the keys

-- rows, or columns
abbrev pub by_number : Order ℕ
by_number = record { before = λ a b. nat_lt a b; same = λ a b. a == b }

-- places, row by row
abbrev pub by_place : Order Position
by_place = record { before = λ a b. nat_lt a.row b.row || ((a.row == b.row) && nat_lt a.col b.col); same = λ a b. (a.row == b.row) && (a.col == b.col) }

-- places, column by column
abbrev pub by_columns : Order ColumnPlace
by_columns = record { before = λ a b. nat_lt a.col b.col || ((a.col == b.col) && nat_lt a.row b.row); same = λ a b. (a.col == b.col) && (a.row == b.row) }

abbrev pub column_place : Position → ColumnPlace
column_place p = record { col = p.col; row = p.row }

-- ---- tests of keys

abbrev pub in_row : ℕ → Position → Bool
in_row r p = p.row == r

abbrev pub in_column : ℕ → ColumnPlace → Bool
in_column c p = p.col == c

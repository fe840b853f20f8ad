-- What it means that a call appends a text to a buffer. A text is the list of its bytes.
use Rattle.std.specs.Prelude.{◌≡◌, ◌⊎◌, ℕ, ◌+◌, ◌<◌, ◌≤◌, List, ◌++◌, length, take, OnOk, OnErr, IsErr, Result, string_bytes, string_capacity, String}

-- the buffer has gained the text, or after a refusal a beginning of it; only a text that the buffer has no room for is refused
pub record Appends {Z U E : Type 0} (old new : String Z) (result : Result U E) (text : List ℕ) : Type 0 where
  -- the old bytes, and then the text
  pub ok : OnOk result (string_bytes new ≡ string_bytes old ++ text)
  -- the old bytes, and then as much of the text as the buffer has gained
  pub err : OnErr result (string_bytes new ≡ take (length (string_bytes new)) (string_bytes old ++ text))
  -- no byte is lost
  pub longer : length (string_bytes old) ≤ length (string_bytes new)
  -- a call is refused only where the text is longer than the room
  pub full : OnErr result (string_capacity old < length (string_bytes old) + length text)
  -- no room is lost
  pub capacity : string_capacity old ≤ string_capacity new

-- A call appends the text; or the one request for memory of its own, that of the open cells, is refused before the first
-- byte, and the buffer stays as it was.
abbrev pub AppendsOrNothing : {Z U E : Type 0} → String Z → String Z → Result U E → List ℕ → Type 0
AppendsOrNothing old new result text = Appends old new result text ⊎ (IsErr result × (new ≡ old))

-- a text begins so: the rest follows
pub record IsBeginning (beginning text : List ℕ) : Type 0 where
  pub rest : List ℕ
  pub is : text ≡ beginning ++ rest

-- the buffer has gained a beginning of the text
pub record GainedBeginning {Z : Type 0} (old new : String Z) (text : List ℕ) : Type 0 where
  pub beginning : List ℕ
  pub begins : IsBeginning beginning text
  pub bytes : string_bytes new ≡ string_bytes old ++ beginning

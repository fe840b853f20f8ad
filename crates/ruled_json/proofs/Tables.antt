-- The table of records: members by their names, and rows whose columns grow behind them.
use Rattle.std.proofs.Common.{◌≡◌, ◌∙◌, ◌∷◌, ◌++◌, ◌+◌, ◌-◌, ◌≤◌, ◌&&◌, ◌||◌, ℕ, List, [], All, Bool, true, false, Option, None, Some, map, fold, length, replicate, inl, inr, arith, subst, refl, sym, ap, cond, zero-add, suc, ◌<◌, take, get_or, Global, String, string_bytes, option_map}
use Rattle.std.specs.List.{flat_map, list_all, list_any, AllByRecursion, IsDistinct}
use Rattle.std.specs.Str.{bytes_eq}
use Rattle.std.proofs.lemmas.Bool.{and_parts, cases_Bool}
use Rattle.std.proofs.lemmas.List.{append_assoc, append-nil, length-append, length-map, length-replicate, map-append, replicate-append-replicate, take_all, take_more, take-append-le}
use Rattle.std.proofs.lemmas.List.Elements.{All-cons, All-head, All-nil, All-tail}
use Rattle.std.proofs.lemmas.List.Folds.{list_all-append, list_any-append, list_any_at, list_all-map}
use Rattle.std.proofs.lemmas.Slice.Eq.{bytes_eq-Decides}
use Rattle.json.specs.Find.{get, get_member, later_or}
use Rattle.json.specs.Json.{Json, null, boolean, number, string, array, object, Members, no_members, member}
use Rattle.json.specs.Strict.{keys}
use Rattle.ruled_json.specs.Streamed.{padded, AppendsRest, HasRecords, columns_in, LineRules, ended_table, first_columns, late_fault, left_of, streamed_table}
use Rattle.ruled_json.specs.Rows.{cell_text, columns_of, has_all, names_in, row_of, with_name, table_in}
use Rattle.std.specs.Prelude.{◌==◌, count_by, not, if◌then◌else◌}
use Rattle.std.proofs.lemmas.List.Sums.{fold-append, sum_by-cons}
use Rattle.std.proofs.lemmas.Grind.{flat_map-append}
use Rattle.std.proofs.lemmas.Simd.{map-map}
use Rattle.std.specs.Borrow.{Bor}
use Rattle.json.specs.Value.{members_view, value_view}
use Rattle.json.specs.declared.value.Value.{Value}
use Rattle.std.proofs.lemmas.Bool.Decides.{nat_tests}
use Rattle.csv.specs.Records.{fields_of}
use Rattle.ruled_json.specs.declared.line_table.LineTable.{LineTable}
use Rattle.ruled_json.specs.declared.fault.JsonFault.{JsonFault}
use Rattle.ruled_json.specs.declared.fault.JsonFault.TheVariants.{NoColumn}
use Rattle.ruled_json.specs.declared.fault.Place.TheVariants.{Line}

-- ---- rows whose columns grow behind them

-- a name is one of these columns
abbrev has : List (List ℕ) → List ℕ → Bool
has columns name = list_any (bytes_eq name) columns

-- the columns stand behind the old ones, of which they repeat none
pub record Grown (old new : List (List ℕ)) : Type 0 where
  pub more : List (List ℕ)
  pub is : new ≡ old ++ more
  pub others : All (λ name. has old name ≡ false) more

left-false : (a b : Bool) → (a || b) ≡ false → a ≡ false
left-false true b e = e
left-false false b e = refl

-- not among more is not among fewer
fewer : (old : List (List ℕ)) (name : List ℕ) (names : List (List ℕ)) → All (λ (n : List ℕ). has (old ++ name ∷ []) n ≡ false) names → All (λ (n : List ℕ). has old n ≡ false) names
fewer old name [] h = All-nil (λ (n : List ℕ). has old n ≡ false)
fewer old name (n ∷ names) h =
    let here : has (old ++ name ∷ []) n ≡ false = All-head (λ (m : List ℕ). has (old ++ name ∷ []) m ≡ false) n names h in
    All-cons (λ (m : List ℕ). has old m ≡ false) n names (left-false (has old n) (has (name ∷ []) n) (sym (list_any-append (bytes_eq n) old (name ∷ [])) ∙ here))
    (fewer old name names (All-tail (λ (m : List ℕ). has (old ++ name ∷ []) m ≡ false) n names h))

-- columns grow by names
pub grown : (columns names : List (List ℕ)) → Grown columns (fold with_name columns names)
grown columns [] = record { more = []; is = sym (append-nil columns); others = All-nil (λ (n : List ℕ). has columns n ≡ false) }
grown columns (name ∷ names) = elim (cases_Bool (has columns name)) [
  | inl there ↦
      let same : with_name columns name ≡ columns = rw there refl in
      let later : Grown columns (fold with_name columns names) = grown columns names in
      record { more = later.more; is = ap (λ (c : List (List ℕ)). fold with_name c names) same ∙ later.is; others = later.others }
  | inr absent ↦
      let more : with_name columns name ≡ columns ++ name ∷ [] = rw absent refl in
      let later : Grown (columns ++ name ∷ []) (fold with_name (columns ++ name ∷ []) names) = grown (columns ++ name ∷ []) names in
      record {
        more = name ∷ later.more;
        is = ap (λ (c : List (List ℕ)). fold with_name c names) more ∙ later.is ∙ append_assoc columns (name ∷ []) later.more;
        others = All-cons (λ (n : List ℕ). has columns n ≡ false) name later.more absent (fewer columns name later.more later.others);
      }
]

-- ---- the names of records are columns

same-name : (name : List ℕ) → bytes_eq name name ≡ true
same-name name = (bytes_eq-Decides name name).1 refl

or-true-left : (a b : Bool) → a ≡ true → (a || b) ≡ true
or-true-left true b e = refl
or-true-left false b e = absurd (cc)

or-true-right : (a b : Bool) → b ≡ true → (a || b) ≡ true
or-true-right true b e = refl
or-true-right false b e = e

stays : (columns more : List (List ℕ)) (name : List ℕ) → has columns name ≡ true → has (columns ++ more) name ≡ true
stays columns more name there = list_any-append (bytes_eq name) columns more ∙ or-true-left (has columns name) (has more name) there

added-is : (columns : List (List ℕ)) (name : List ℕ) → has (with_name columns name) name ≡ true
added-is columns name = elim (cases_Bool (has columns name)) [
  | inl there ↦ rw there there
  | inr absent ↦ rw absent (list_any-append (bytes_eq name) columns (name ∷ []) ∙ or-true-right (has columns name) (has (name ∷ []) name) (or-true-left (bytes_eq name name) false (same-name name)))
]

kept-name : (columns names : List (List ℕ)) (name : List ℕ) → has columns name ≡ true → has (fold with_name columns names) name ≡ true
kept-name columns names name there =
    let more : Grown columns (fold with_name columns names) = grown columns names in
    ap (λ (c : List (List ℕ)). has c name) more.is ∙ stays columns more.more name there

and-both : (a b : Bool) → a ≡ true → b ≡ true → (a && b) ≡ true
and-both true b e f = f
and-both false b e f = e

all-added : (columns names : List (List ℕ)) → list_all (has (fold with_name columns names)) names ≡ true
all-added columns [] = refl
all-added columns (name ∷ names) =
    and-both (has (fold with_name (with_name columns name) names) name) (list_all (has (fold with_name (with_name columns name) names)) names)
    (kept-name (with_name columns name) names name (added-is columns name)) (all-added (with_name columns name) names)

each-has : (columns : List (List ℕ)) (records : List Json) → list_all (has columns) (flat_map names_in records) ≡ true → All (λ (v : Json). has_all columns v ≡ true) records
each-has columns [] h = All-nil (λ (v : Json). has_all columns v ≡ true)
each-has columns (v ∷ records) h =
    let parts = and_parts (list_all (has columns) (names_in v)) (list_all (has columns) (flat_map names_in records)) (sym (list_all-append (has columns) (names_in v) (flat_map names_in records)) ∙ h) in
    All-cons (λ (w : Json). has_all columns w ≡ true) v records parts.0 (each-has columns records parts.1)

pub columns-have : (records : List Json) → All (λ (v : Json). has_all (columns_of records) v ≡ true) records
columns-have records = each-has (columns_of records) records (all-added [] (flat_map names_in records))

-- ---- a row in more columns

-- a name that no column has isn't a member's
no-later : (found : Option Json) → found ≡ None → later_or found None ≡ None
no-later None e = refl
no-later (Some j) e = e

absent-member : (columns : List (List ℕ)) (ms : Members) (name : List ℕ) → list_all (has columns) (keys ms) ≡ true → has columns name ≡ false → get_member name ms ≡ None
absent-member columns no_members name h absent = refl
absent-member columns (member key j ms) name h absent =
    let parts = and_parts (has columns key) (list_all (has columns) (keys ms)) h in
    elim (cases_Bool (bytes_eq key name)) [
      | inl same ↦ absurd (let never : has columns key ≡ false = ap (has columns) ((bytes_eq-Decides key name).0 same) ∙ absent in let there : has columns key ≡ true = parts.0 in cc)
      | inr other ↦ rw other (no-later (get_member name ms) (absent-member columns ms name parts.1 absent))
    ]

absent-name : (columns : List (List ℕ)) (value : Json) (name : List ℕ) → has_all columns value ≡ true → has columns name ≡ false → get name value ≡ None
absent-name columns null name h absent = refl
absent-name columns (boolean b) name h absent = refl
absent-name columns (number s) name h absent = refl
absent-name columns (string s) name h absent = refl
absent-name columns (array js) name h absent = refl
absent-name columns (object ms) name h absent = absent-member columns ms name h absent

empty-cells : (word : List ℕ) (columns more : List (List ℕ)) (value : Json) → has_all columns value ≡ true → All (λ (n : List ℕ). has columns n ≡ false) more → row_of word more value ≡ replicate (length more) []
empty-cells word columns [] value h others = refl
empty-cells word columns (name ∷ more) value h others =
    let none : get name value ≡ None = absent-name columns value name h (All-head (λ (n : List ℕ). has columns n ≡ false) name more others) in
    ap (λ (found : Option Json). cell_text word found ∷ row_of word more value) none
    ∙ ap (λ (row : List (List ℕ)). [] ∷ row) (empty-cells word columns more value h (All-tail (λ (n : List ℕ). has columns n ≡ false) name more others))

row-grows : (word : List ℕ) (columns more : List (List ℕ)) (value : Json) → has_all columns value ≡ true → All (λ (n : List ℕ). has columns n ≡ false) more
    → row_of word (columns ++ more) value ≡ row_of word columns value ++ replicate (length more) []
row-grows word columns more value h others =
    map-append (λ (column : List ℕ). cell_text word (get column value)) columns more ∙ ap (λ (row : List (List ℕ)). row_of word columns value ++ row) (empty-cells word columns more value h others)

length-padded : (n : ℕ) (row : List (List ℕ)) → length (padded n row) ≡ length row + (n - length row)
length-padded n row = length-append row (replicate (n - length row) []) ∙ ap (λ (k : ℕ). length row + k) (length-replicate (n - length row) [])

-- empty cells behind a row that is long enough are none
pub full-row : (n : ℕ) (row : List (List ℕ)) → n ≤ length row → padded n row ≡ row
full-row n row long =
    let none : n - length row ≡ 0 = omega arith in
    ap (λ (k : ℕ). row ++ replicate k []) none ∙ append-nil row

-- a row in columns that grow has more empty cells behind it
padded-grows : (word : List ℕ) (columns more row : List (List ℕ)) (value : Json) → has_all columns value ≡ true → All (λ (n : List ℕ). has columns n ≡ false) more
    → padded (length columns) row ≡ row_of word columns value → padded (length (columns ++ more)) row ≡ row_of word (columns ++ more) value
padded-grows word columns more row value h others is =
    let a : ℕ = length row in
    let b : ℕ = length columns in
    let k : ℕ = length more in
    let sizes : a + (b - a) ≡ b = sym (length-padded b row) ∙ ap (λ (r : List (List ℕ)). length r) is ∙ length-map columns (λ (column : List ℕ). cell_text word (get column value)) in
    let count : length (columns ++ more) - a ≡ (b - a) + k = ap (λ (n : ℕ). n - a) (length-append columns more) ∙ omega arith in
    ap (λ (n : ℕ). row ++ replicate n []) count ∙ ap (λ (cells : List (List ℕ)). row ++ cells) (sym (replicate-append-replicate (b - a) k []))
    ∙ sym (append_assoc row (replicate (b - a) []) (replicate k [])) ∙ ap (λ (r : List (List ℕ)). r ++ replicate k []) is ∙ sym (row-grows word columns more value h others)

each-grows : (word : List ℕ) (columns more : List (List ℕ)) (rows : List (List (List ℕ))) (records : List Json) → All (λ (v : Json). has_all columns v ≡ true) records
    → All (λ (n : List ℕ). has columns n ≡ false) more → map (padded (length columns)) rows ≡ map (row_of word columns) records
    → map (padded (length (columns ++ more))) rows ≡ map (row_of word (columns ++ more)) records
each-grows word columns more [] [] h others is = refl
each-grows word columns more [] (v ∷ records) h others is = absurd (cc)
each-grows word columns more (row ∷ rows) [] h others is = absurd (cc)
each-grows word columns more (row ∷ rows) (v ∷ records) h others is =
    let first : padded (length columns) row ≡ row_of word columns v = cc in
    let rest : map (padded (length columns)) rows ≡ map (row_of word columns) records = cc in
    let here = padded-grows word columns more row v (All-head (λ (w : Json). has_all columns w ≡ true) v records h) others first in
    let later = each-grows word columns more rows records (All-tail (λ (w : Json). has_all columns w ≡ true) v records h) others rest in
    ap (λ (r : List (List ℕ)). r ∷ map (padded (length (columns ++ more))) rows) here ∙ ap (λ (rs : List (List (List ℕ))). row_of word (columns ++ more) v ∷ rs) later

-- the rows that are held, where one record more says columns
pub held-more : (word : List ℕ) (columns new : List (List ℕ)) (rows : List (List (List ℕ))) (above : List Json) (value : Json) → columns ≡ columns_of above
    → new ≡ fold with_name columns (names_in value) → map (padded (length columns)) rows ≡ map (row_of word columns) above
    → map (padded (length new)) (rows ++ row_of word new value ∷ []) ≡ map (row_of word new) (above ++ value ∷ [])
held-more word columns new rows above value are grow is =
    let more : Grown columns (fold with_name columns (names_in value)) = grown columns (names_in value) in
    let named : new ≡ columns ++ more.more = grow ∙ more.is in
    let known : All (λ (v : Json). has_all columns v ≡ true) above = subst (λ (c : List (List ℕ)). All (λ (v : Json). has_all c v ≡ true) above) (sym are) (columns-have above) in
    let old : map (padded (length new)) rows ≡ map (row_of word new) above =
    subst (λ (c : List (List ℕ)). map (padded (length c)) rows ≡ map (row_of word c) above) (sym named) (each-grows word columns more.more rows above known more.others is) in
    let last : padded (length new) (row_of word new value) ≡ row_of word new value =
    full-row (length new) (row_of word new value) (omega (arith, length-map new (λ (column : List ℕ). cell_text word (get column value)))) in
    map-append (padded (length new)) rows (row_of word new value ∷ []) ∙ ap (λ (rs : List (List (List ℕ))). rs ++ padded (length new) (row_of word new value) ∷ []) old
    ∙ ap (λ (r : List (List ℕ)). map (row_of word new) above ++ r ∷ []) last ∙ sym (map-append (row_of word new) above (value ∷ []))

-- ---- walks over lists, one element more

pub take_next : {X : Type 0} (xs : List X) (i : ℕ) (x : X) → i < length xs → x ≡ get_or xs i x → take (i + 1) xs ≡ take i xs ++ x ∷ []
take_next {X} xs i x within is = take_more xs i x within ∙ ap (λ (y : X). take i xs ++ y ∷ []) (sym is)

pub map_next : {X Y : Type 0} (f : X → Y) (xs : List X) (i : ℕ) (x : X) → i < length xs → x ≡ get_or xs i x → map f (take (i + 1) xs) ≡ map f (take i xs) ++ f x ∷ []
map_next f xs i x within is = ap (map f) (take_next xs i x within is) ∙ map-append f (take i xs) (x ∷ [])

-- what is made of the elements, where one more is appended
pub made_next : {X Y : Type 0} (f : X → Y) (xs : List X) (i : ℕ) (x : X) (old new : List Y) (y : Y) → i < length xs → x ≡ get_or xs i x
    → new ≡ old ++ y ∷ [] → y ≡ f x → old ≡ map f (take i xs) → new ≡ map f (take (i + 1) xs)
made_next {X} {Y} f xs i x old new y within is appended made before =
    appended ∙ ap (λ (ys : List Y). ys ++ y ∷ []) before ∙ ap (λ (z : Y). map f (take i xs) ++ z ∷ []) made ∙ sym (map_next f xs i x within is)

-- the columns of more records
pub columns_more : (values more : List Json) → columns_of (values ++ more) ≡ fold with_name (columns_of values) (flat_map names_in more)
columns_more values more =
    ap (fold with_name []) (flat_map-append names_in values more) ∙ fold-append with_name [] (flat_map names_in values) (flat_map names_in more)

-- the row of a record, of the names as texts
pub whole_row : {Z : Type 0} (word : List ℕ) (names items : List (String Z)) (value : Json) (n : ℕ) (row : List (List ℕ)) → items ≡ names → length items ≤ n
    → row ≡ map (λ (name : String Z). cell_text word (get (string_bytes name) value)) (take n items) → row ≡ row_of word (map string_bytes names) value
whole_row {Z} word names items value n row same all made =
    made ∙ ap (map (λ (name : String Z). cell_text word (get (string_bytes name) value))) (take_all n items all ∙ same)
    ∙ sym (map-map (λ (column : List ℕ). cell_text word (get column value)) string_bytes names)

-- where there is none, none is counted
pub none_counted : (bytes : List ℕ) → All (λ (byte : ℕ). (byte == 13) ≡ false) bytes → 0 ≡ count_by (λ (byte : ℕ). byte == 13) bytes
none_counted [] none = refl
none_counted (byte ∷ bytes) none =
    none_counted bytes (All-tail (λ (b : ℕ). (b == 13) ≡ false) byte bytes none)
    ∙ sym (sum_by-cons (λ (b : ℕ). cond (b == 13) 1 0) byte bytes
    ∙ ap (λ (b : Bool). cond b 1 0 + count_by (λ (c : ℕ). c == 13) bytes) (All-head (λ (b : ℕ). (b == 13) ≡ false) byte bytes none) ∙ zero-add (count_by (λ (c : ℕ). c == 13) bytes))

-- ---- the members of an object by their names

later_cond : (b : Bool) (j : Json) (earlier last : Option Json) → later_or (cond b (Some j) earlier) last ≡ cond b (Some j) (later_or earlier last)
later_cond true j earlier last = refl
later_cond false j earlier last = refl

-- the last member of a name, where one more is behind them
last_member : {A : Type 0} (ms : List (Bor (List ℕ) × Value A)) (m : Bor (List ℕ) × Value A) (name : List ℕ)
    → get_member name (members_view (ms ++ m ∷ [])) ≡ cond (bytes_eq m.0.now name) (Some (value_view m.1)) (get_member name (members_view ms))
last_member [] m name = refl
last_member (n ∷ ms) m name =
    let last : Option Json = cond (bytes_eq n.0.now name) (Some (value_view n.1)) None in
    ap (λ (found : Option Json). later_or found last) (last_member ms m name)
    ∙ later_cond (bytes_eq m.0.now name) (value_view m.1) (get_member name (members_view ms)) last

map_cond : {X Y : Type 0} (f : X → Y) (b : Bool) (x : X) (other : Option X) → option_map f (cond b (Some x) other) ≡ cond b (Some (f x)) (option_map f other)
map_cond f true x other = refl
map_cond f false x other = refl

-- what a map finds by a name, where one more member is put into it
pub named_next : {A : Type 0} (ms : List (Bor (List ℕ) × Value A)) (i : ℕ) (m : Bor (List ℕ) × Value A) (name : List ℕ) (v : Bor (Value A)) (old new : Option (Bor (Value A)))
    → i < length ms → m ≡ get_or ms i m → v.now ≡ m.1 → new ≡ cond (bytes_eq m.0.now name) (Some v) old
    → option_map (λ (x : Bor (Value A)). value_view x.now) old ≡ get_member name (members_view (take i ms))
    → option_map (λ (x : Bor (Value A)). value_view x.now) new ≡ get_member name (members_view (take (i + 1) ms))
named_next {A} ms i m name v old new within is same put before =
    ap (option_map (λ (x : Bor (Value A)). value_view x.now)) put
    ∙ map_cond (λ (x : Bor (Value A)). value_view x.now) (bytes_eq m.0.now name) v old
    ∙ ap (λ (w : Value A). cond (bytes_eq m.0.now name) (Some (value_view w)) (option_map (λ (x : Bor (Value A)). value_view x.now) old)) same
    ∙ ap (λ (found : Option Json). cond (bytes_eq m.0.now name) (Some (value_view m.1)) found) before
    ∙ sym (ap (λ (list : List (Bor (List ℕ) × Value A)). get_member name (members_view list)) (take_next ms i m within is) ∙ last_member (take i ms) m name)

-- ---- members that are named as the columns are, in their order

abbrev Apart : List ℕ → List (List ℕ) → Type 0
Apart name [] = Unit {0}
Apart name (other ∷ others) = (bytes_eq name other ≡ false) × Apart name others

-- no two names are equal
abbrev pub AreDistinct : List (List ℕ) → Type 0
AreDistinct [] = Unit {0}
AreDistinct (name ∷ names) = Apart name names × AreDistinct names

apart : {Z : Type 0} (text : String Z) (texts : List (String Z)) → AllByRecursion (λ (other : String Z). bytes_eq (string_bytes text) (string_bytes other) ≡ false) texts → Apart (string_bytes text) (map string_bytes texts)
apart text [] h = tt
apart text (other ∷ others) h = (h.0, apart text others h.1)

pub distinct-names : {Z : Type 0} (texts : List (String Z)) → IsDistinct (λ (a : String Z) (b : String Z). bytes_eq (string_bytes a) (string_bytes b)) texts → AreDistinct (map string_bytes texts)
unfolding IsDistinct
distinct-names [] h = tt
distinct-names (text ∷ texts) h = (apart text texts h.0, distinct-names texts h.1)

other-name : (a b : List ℕ) → bytes_eq a b ≡ false → bytes_eq b a ≡ false
other-name a b h = elim (cases_Bool (bytes_eq b a)) [
  | inl same ↦ let is : b ≡ a = (bytes_eq-Decides b a).0 same in let yes : bytes_eq a b ≡ true = (bytes_eq-Decides a b).1 (sym is) in cc
  | inr other ↦ other
]

later-none : (found : Option Json) → later_or found None ≡ found
later-none None = refl
later-none (Some j) = refl

module _ {A : Type 0} where
  abbrev names_of : List (Bor (List ℕ) × Value A) → List (List ℕ)
  names_of ms = map (λ m. m.0.now) ms

  no_member : (name : List ℕ) (ms : List (Bor (List ℕ) × Value A)) → Apart name (names_of ms) → get_member name (members_view ms) ≡ None
  no_member name [] h = refl
  no_member name (m ∷ ms) h =
      ap (λ (found : Option Json). later_or found (cond (bytes_eq m.0.now name) (Some (value_view m.1)) None)) (no_member name ms h.1)
      ∙ ap (λ (b : Bool). cond b (Some (value_view m.1)) None) (other-name name m.0.now h.0)

  -- those behind a member stay the same
  behind : (word : List ℕ) (m : Bor (List ℕ) × Value A) (ms : List (Bor (List ℕ) × Value A)) (columns : List (List ℕ)) → Apart m.0.now columns
      → map (λ column. cell_text word (get_member column (members_view ms))) columns ≡ map (λ column. cell_text word (get_member column (members_view (m ∷ ms)))) columns
  behind word m ms [] h = refl
  behind word m ms (column ∷ columns) h =
      let same : get_member column (members_view (m ∷ ms)) ≡ get_member column (members_view ms) =
      ap (λ (b : Bool). later_or (get_member column (members_view ms)) (cond b (Some (value_view m.1)) None)) h.0 ∙ later-none (get_member column (members_view ms)) in
      ap (λ (found : Option Json). cell_text word found ∷ map (λ c. cell_text word (get_member c (members_view ms))) columns) (sym same)
      ∙ ap (λ (cells : List (List ℕ)). cell_text word (get_member column (members_view (m ∷ ms))) ∷ cells) (behind word m ms columns h.1)

  in-order : (word : List ℕ) (ms : List (Bor (List ℕ) × Value A)) → AreDistinct (names_of ms)
      → map (λ m. cell_text word (Some (value_view m.1))) ms ≡ map (λ column. cell_text word (get_member column (members_view ms))) (names_of ms)
  in-order word [] h = refl
  in-order word (m ∷ ms) h =
      let own : get_member m.0.now (members_view (m ∷ ms)) ≡ Some (value_view m.1) =
      ap (λ (found : Option Json). later_or found (cond (bytes_eq m.0.now m.0.now) (Some (value_view m.1)) None)) (no_member m.0.now ms h.0)
      ∙ ap (λ (b : Bool). cond b (Some (value_view m.1)) None) ((bytes_eq-Decides m.0.now m.0.now).1 refl) in
      ap (λ (cells : List (List ℕ)). cell_text word (Some (value_view m.1)) ∷ cells) (in-order word ms h.1 ∙ behind word m ms (names_of ms) h.0)
      ∙ ap (λ (found : Option Json). cell_text word found ∷ map (λ column. cell_text word (get_member column (members_view (m ∷ ms)))) (names_of ms)) (sym own)

  -- the row of their value
  pub ordered-row : (word : List ℕ) (columns : List (List ℕ)) (value : Json) (ms : List (Bor (List ℕ) × Value A)) → names_of ms ≡ columns → AreDistinct columns
      → ((name : List ℕ) → get_member name (members_view ms) ≡ get name value) → map (λ m. cell_text word (Some (value_view m.1))) ms ≡ row_of word columns value
  ordered-row word columns value ms named distinct found =
      in-order word ms (subst AreDistinct (sym named) distinct)
      ∙ (λ i. map (λ column. cell_text word (found column i)) (names_of ms))
      ∙ ap (map (λ column. cell_text word (get column value))) named

  -- the name of one member more
  pub name-next : {Z : Type 0} (ms : List (Bor (List ℕ) × Value A)) (names : List (String Z)) (i : ℕ) (m : Bor (List ℕ) × Value A) (name : String Z) (text : List ℕ) (b : Bool)
      → i < length ms → m ≡ get_or ms i m → i < length names → name ≡ get_or names i name → text ≡ string_bytes name → b ≡ bytes_eq m.0.now text → b ≡ true
      → names_of (take i ms) ≡ map string_bytes (take i names) → names_of (take (i + 1) ms) ≡ map string_bytes (take (i + 1) names)
  name-next {Z} ms names i m name text b within is among at same found holds before =
      let equal : m.0.now ≡ string_bytes name = (bytes_eq-Decides m.0.now text).0 (sym found ∙ holds) ∙ same in
      map_next (λ (n : Bor (List ℕ) × Value A). n.0.now) ms i m within is
      ∙ ap (λ (ns : List (List ℕ)). ns ++ m.0.now ∷ []) before ∙ ap (λ (n : List ℕ). map string_bytes (take i names) ++ n ∷ []) equal
      ∙ sym (map_next string_bytes names i name among at)

  -- the row of a record whose members have these names
  pub whole-ordered : {Z : Type 0} (word : List ℕ) (names items : List (String Z)) (value : Json) (ms : List (Bor (List ℕ) × Value A)) (n : ℕ) (row : List (List ℕ))
      → items ≡ names → length ms ≤ n → length items ≤ n → IsDistinct (λ (a : String Z) (b : String Z). bytes_eq (string_bytes a) (string_bytes b)) names
      → names_of (take n ms) ≡ map string_bytes (take n items) → row ≡ map (λ m. cell_text word (Some (value_view m.1))) (take n ms)
      → ((name : List ℕ) → get_member name (members_view ms) ≡ get name value) → row ≡ row_of word (map string_bytes names) value
  whole-ordered {Z} word names items value ms n row same all each distinct named made found =
      let whole : names_of ms ≡ map string_bytes names =
      ap names_of (sym (take_all n ms all)) ∙ named ∙ ap (map string_bytes) (take_all n items each ∙ same) in
      made ∙ ap (map (λ (m : Bor (List ℕ) × Value A). cell_text word (Some (value_view m.1)))) (take_all n ms all)
      ∙ ordered-row word (map string_bytes names) value ms whole (distinct-names names distinct) found

-- columns that are there add none
all-there : (all names : List (List ℕ)) → ((k : ℕ) → k < length names → list_any (bytes_eq (get_or names k [])) all ≡ true) → fold with_name all names ≡ all
all-there all [] h = refl
all-there all (name ∷ names) h =
    ap (λ (columns : List (List ℕ)). fold with_name columns names) (let there = h 0 (omega arith) in rw there refl) ∙ all-there all names (λ k within. h (suc k) (omega (arith, within)))

among-own : (names : List (List ℕ)) (k : ℕ) → k < length names → list_any (bytes_eq (get_or names k [])) names ≡ true
among-own names k within = list_any_at (bytes_eq (get_or names k [])) names k [] within ((bytes_eq-Decides (get_or names k []) (get_or names k [])).1 refl)

pub own_columns : (columns names : List (List ℕ)) → names ≡ columns → columns ≡ fold with_name columns names
own_columns columns names same = sym (ap (fold with_name columns) same ∙ all-there columns columns (among-own columns))

-- ---- the table of records, one record more

-- ---- appended rows

pub nothing : {R : Type 0} (all old : List R) → AppendsRest all all old old
nothing all old = ([], sym (append-nil old), append-nil all)

pub joined : {R : Type 0} (first second third old new newer : List R) → AppendsRest first second old new → AppendsRest second third new newer → AppendsRest first third old newer
joined {R} first second third old new newer a b = (
  a.0 ++ b.0,
  b.1 ∙ ap (λ (rows : List R). rows ++ b.0) a.1 ∙ append_assoc old a.0 b.0,
  sym (append_assoc first a.0 b.0) ∙ ap (λ (rows : List R). rows ++ b.0) a.2 ∙ b.2,
)

-- ---- where all columns are known

pub known-columns : (k : LineRules) (above : List Json) (v : Json) → left_of k above ≡ 0 → first_columns k (above ++ v ∷ []) ≡ first_columns k above
known-columns k above v none = ap columns_of (take-append-le k.records above (v ∷ []) (omega arith))

none-left : (k : LineRules) (above : List Json) (v : Json) → left_of k above ≡ 0 → left_of k (above ++ v ∷ []) ≡ 0
none-left k above v none = omega (arith, length-append above (v ∷ []))

pub known-table : (k : LineRules) (above : List Json) → left_of k above ≡ 0 → ended_table k above ≡ streamed_table k above
known-table k above none = ap (λ (n : ℕ). if n == 0 then streamed_table k above else []) none

pub late-records : (k : LineRules) (above : List Json) (v : Json) (t : LineTable) → HasRecords k above t → t.left ≡ 0 → HasRecords k (above ++ v ∷ []) t
late-records k above v t has none = record {
  left = none ∙ sym (none-left k above v (sym has.left ∙ none));
  columns = has.columns ∙ sym (known-columns k above v (sym has.left ∙ none));
  null_text = has.null_text;
  held = λ some. absurd (let never : 0 < 0 = subst (λ (n : ℕ). 0 < n) none some in omega arith);
}

-- the table of records in the columns of a table
same-columns : (k : LineRules) (above : List Json) (t : LineTable) (records : List Json) → HasRecords k above t
    → table_in (string_bytes t.null) (columns_in t) records ≡ table_in k.members.null_text (first_columns k above) records
same-columns k above t records has =
    ap (λ (word : List ℕ). table_in word (columns_in t) records) has.null_text ∙ ap (λ (c : List (List ℕ)). table_in k.members.null_text c records) has.columns

pub late-rows : (k : LineRules) (above : List Json) (v : Json) (t : LineTable) (old new : List (List (List ℕ))) → HasRecords k above t → t.left ≡ 0
    → AppendsRest (table_in (string_bytes t.null) (columns_in t) above) (table_in (string_bytes t.null) (columns_in t) (above ++ v ∷ [])) old new → AppendsRest (ended_table k above) (ended_table k (above ++ v ∷ [])) old new
late-rows k above v t old new has none rest =
    let left : left_of k above ≡ 0 = sym has.left ∙ none in
    let first : table_in (string_bytes t.null) (columns_in t) above ≡ ended_table k above = same-columns k above t above has ∙ sym (known-table k above left) in
    let second : table_in (string_bytes t.null) (columns_in t) (above ++ v ∷ []) ≡ ended_table k (above ++ v ∷ []) =
    same-columns k above t (above ++ v ∷ []) has ∙ ap (λ (c : List (List ℕ)). table_in k.members.null_text c (above ++ v ∷ [])) (sym (known-columns k above v left)) ∙ sym (known-table k (above ++ v ∷ []) (none-left k above v left)) in
    (rest.0, rest.1, ap (λ (rows : List (List (List ℕ))). rows ++ rest.0) (sym first) ∙ rest.2 ∙ second)

flipped : (b : Bool) (fault : JsonFault) → (if (true && not b) then Some fault else None) ≡ (if b then None else Some fault)
flipped true fault = refl
flipped false fault = refl

pub late-faults : (k : LineRules) (n : ℕ) (above : List Json) (v : Json) (t : LineTable) → HasRecords k above t → t.left ≡ 0
    → late_fault k above n v ≡ (if has_all (columns_in t) v then None else Some (NoColumn (Line n)))
late-faults k n above v t has none =
    let left : left_of k above ≡ 0 = sym has.left ∙ none in
    let columns : first_columns k above ≡ columns_in t = sym has.columns in
    ap (λ (m : ℕ). if (m == 0) && not (has_all (first_columns k above) v) then Some (NoColumn (Line n)) else None) left
    ∙ flipped (has_all (first_columns k above) v) (NoColumn (Line n)) ∙ ap (λ (c : List (List ℕ)). if has_all c v then None else Some (NoColumn (Line n))) columns

-- a row for a record whose members all have columns, and none where there is no column
pub row-behind : (word : List ℕ) (columns : List (List ℕ)) (above : List Json) (v : Json) (old new : List (List (List ℕ))) → (length columns == 0) ≡ false
    → new ≡ old ++ row_of word columns v ∷ [] → AppendsRest (table_in word columns above) (table_in word columns (above ++ v ∷ [])) old new
row-behind word columns above v old new some is = (row_of word columns v ∷ [], is, rw some (ap (λ (rows : List (List (List ℕ))). columns ∷ rows) (sym (map-append (row_of word columns) above (v ∷ [])))))

pub no-row-behind : (word : List ℕ) (columns : List (List ℕ)) (above : List Json) (v : Json) (old : List (List (List ℕ))) → (length columns == 0) ≡ true
    → AppendsRest (table_in word columns above) (table_in word columns (above ++ v ∷ [])) old old
no-row-behind word columns above v old none = ([], sym (append-nil old), rw none refl)

-- ---- where records still say columns

not-zero : (n : ℕ) → 0 < n → (n == 0) ≡ false
not-zero n some = grind (arith, nat_tests)

pub unknown-table : (k : LineRules) (above : List Json) → 0 < left_of k above → ended_table k above ≡ []
unknown-table k above some = ap (λ (b : Bool). if b then streamed_table k above else []) (not-zero (left_of k above) some)

pub no-late-fault : (k : LineRules) (n : ℕ) (above : List Json) (v : Json) → 0 < left_of k above → late_fault k above n v ≡ None
no-late-fault k n above v some = ap (λ (b : Bool). if b && not (has_all (first_columns k above) v) then Some (NoColumn (Line n)) else None) (not-zero (left_of k above) some)

-- the columns with one record more
more-columns : (k : LineRules) (above : List Json) (v : Json) → 0 < left_of k above → first_columns k (above ++ v ∷ []) ≡ fold with_name (first_columns k above) (names_in v)
more-columns k above v some =
    let all : take k.records above ≡ above = take_all k.records above (omega arith) in
    let both : take k.records (above ++ v ∷ []) ≡ above ++ v ∷ [] = take_all k.records (above ++ v ∷ []) (omega (arith, length-append above (v ∷ []))) in
    ap columns_of both ∙ columns_more above (v ∷ []) ∙ ap (λ (c : List (List ℕ)). fold with_name c (flat_map names_in (v ∷ []))) (ap columns_of (sym all))
    ∙ ap (fold with_name (first_columns k above)) (append-nil (names_in v))

pub grown-columns : (k : LineRules) (above : List Json) (v : Json) (t new : LineTable) → HasRecords k above t → 0 < t.left → columns_in new ≡ fold with_name (columns_in t) (names_in v)
    → columns_in new ≡ first_columns k (above ++ v ∷ [])
grown-columns k above v t new has some columns =
    columns ∙ ap (λ (c : List (List ℕ)). fold with_name c (names_in v)) has.columns ∙ sym (more-columns k above v (subst (λ (n : ℕ). 0 < n) has.left some))

-- what a table holds, where one more record says columns
pub first-held : (k : LineRules) (above : List Json) (v : Json) (t new : LineTable) → HasRecords k above t → 0 < t.left
    → columns_in new ≡ fold with_name (columns_in t) (names_in v) → map fields_of new.held.items ≡ map fields_of t.held.items ++ row_of (string_bytes t.null) (columns_in new) v ∷ []
    → map (padded (length (columns_in new))) (map fields_of new.held.items) ≡ map (row_of (string_bytes t.null) (columns_in new)) (above ++ v ∷ [])
first-held k above v t new has some columns held =
    let left : 0 < left_of k above = subst (λ (n : ℕ). 0 < n) has.left some in
    let are : columns_in t ≡ columns_of above = has.columns ∙ ap columns_of (take_all k.records above (omega arith)) in
    ap (map (padded (length (columns_in new)))) held ∙ held-more (string_bytes t.null) (columns_in t) (columns_in new) (map fields_of t.held.items) above v are columns (has.held some)

pub first-records : (k : LineRules) (above : List Json) (v : Json) (t new : LineTable) → HasRecords k above t → 0 < t.left → new.left ≡ t.left - 1
    → columns_in new ≡ fold with_name (columns_in t) (names_in v) → new.null ≡ t.null
    → (0 < new.left → map fields_of new.held.items ≡ map fields_of t.held.items ++ row_of (string_bytes t.null) (columns_in new) v ∷ []) → HasRecords k (above ++ v ∷ []) new
first-records k above v t new has some fewer columns same held =
    let left : 0 < left_of k above = subst (λ (n : ℕ). 0 < n) has.left some in
    record {
      left = fewer ∙ ap (λ (n : ℕ). n - 1) has.left ∙ omega (arith, length-append above (v ∷ []));
      columns = grown-columns k above v t new has some columns;
      null_text = ap string_bytes same ∙ has.null_text;
      held = λ still.
          first-held k above v t new has some columns (held still)
          ∙ ap (λ (text : String Global). map (row_of (string_bytes text) (columns_in new)) (above ++ v ∷ [])) (sym same);
    }

-- the rows that are given with the last record that says columns, and those that aren't yet
pub all-rows : (k : LineRules) (above : List Json) (word : List ℕ) (columns : List (List ℕ)) (v : Json) (old new : List (List (List ℕ))) → 0 < left_of k above → left_of k (above ++ v ∷ []) ≡ 0
    → columns ≡ first_columns k (above ++ v ∷ []) → word ≡ k.members.null_text → new ≡ old ++ table_in word columns (above ++ v ∷ []) → AppendsRest (ended_table k above) (ended_table k (above ++ v ∷ [])) old new
all-rows k above word columns v old new some none are same is = (
  table_in word columns (above ++ v ∷ []),
  is,
  ap (λ (rows : List (List (List ℕ))). rows ++ table_in word columns (above ++ v ∷ [])) (unknown-table k above some)
      ∙ ap (λ (w : List ℕ). table_in w columns (above ++ v ∷ [])) same ∙ ap (λ (c : List (List ℕ)). table_in k.members.null_text c (above ++ v ∷ [])) are ∙ sym (known-table k (above ++ v ∷ []) none),
)

pub no-rows-yet : (k : LineRules) (above : List Json) (v : Json) (old : List (List (List ℕ))) → 0 < left_of k above → 0 < left_of k (above ++ v ∷ [])
    → AppendsRest (ended_table k above) (ended_table k (above ++ v ∷ [])) old old
no-rows-yet k above v old some still = ([], sym (append-nil old), ap (λ (rows : List (List (List ℕ))). rows ++ []) (unknown-table k above some) ∙ sym (unknown-table k (above ++ v ∷ []) still))

-- the rows that are left, where no record comes
pub rest-held : (k : LineRules) (above : List Json) (t : LineTable) (old new : List (List (List ℕ))) → HasRecords k above t → 0 < t.left
    → new ≡ old ++ table_in (string_bytes t.null) (columns_in t) above → AppendsRest (ended_table k above) (streamed_table k above) old new
rest-held k above t old new has some is = (
  table_in (string_bytes t.null) (columns_in t) above,
  is,
  ap (λ (rows : List (List (List ℕ))). rows ++ table_in (string_bytes t.null) (columns_in t) above) (unknown-table k above (subst (λ (n : ℕ). 0 < n) has.left some))
      ∙ same-columns k above t above has,
)

pub rest-known : (k : LineRules) (above : List Json) (t : LineTable) (old : List (List (List ℕ))) → HasRecords k above t → t.left ≡ 0
    → AppendsRest (ended_table k above) (streamed_table k above) old old
rest-known k above t old has none = ([], sym (append-nil old), append-nil (ended_table k above) ∙ known-table k above (sym has.left ∙ none))

-- no record, no row
pub no-table : (k : LineRules) → ended_table k [] ≡ []
no-table k =
    let none : streamed_table k [] ≡ [] = ap (λ (first : List Json). table_in k.members.null_text (columns_of first) []) (take_all k.records [] (omega arith)) in
    elim (cases_Bool (left_of k [] == 0)) [
      | inl known ↦ ap (λ (b : Bool). if b then streamed_table k [] else []) known ∙ none
      | inr left ↦ ap (λ (b : Bool). if b then streamed_table k [] else []) left
    ]

-- a test of all names, and how many there are
pub ruleset names_of_members = (list_all-map, length-map)

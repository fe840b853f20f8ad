-- Values as they are read, what is wrong with the text of one, and a byte order mark at the front.
use Rattle.std.proofs.Common.{◌≡◌, ◌∙◌, ◌∷◌, ◌||◌, ℕ, List, [], map, Vec, Bool, String, string_bytes, true, false, inl, inr, Option, None, Some, option_map, IfSome, All, ◌<◌, length, get_or, subst, refl, sym, ap, ◌≢◌, Result, Ok, Err, ◌&&◌, nat_eq, take, drop}
use Rattle.std.specs.List.{list_any}
use Rattle.std.specs.Bool.{OnTrue}
use Rattle.std.specs.Borrow.{Bor}
use Rattle.std.proofs.lemmas.List.Folds.{list_any_at}
use Rattle.std.specs.Str.{bytes_eq, IsUtf8, is_utf8, chars}
use Rattle.std.specs.String.{string_eq}
use Rattle.indexmap.specs.IndexSet.{insert_key}
use Rattle.json.specs.Json.{Json, null, boolean, number, string, array, object, Items, no_items, item, document, value}
use Rattle.json.specs.Strict.{keys}
use Rattle.json.specs.Value.{value_view, items_view, members_view}
use Rattle.json.specs.declared.value.Value.{Value, Object}
use Rattle.json.proofs.Trees.{view-Object}
use Rattle.json.specs.Find.{get}
use Rattle.json.specs.Tree.{HasNumbers, ItemsHaveNumbers}
use Rattle.json.proofs.Numbered.{HasNumbers-get}
use Rattle.std.proofs.lemmas.Bool.{cases_Bool, and_parts}
use Rattle.std.proofs.lemmas.List.{get_or-map, length-map, map-append}
use Rattle.std.proofs.lemmas.List.Elements.{All-cons, All-nil}
use Rattle.ruled_json.specs.Rows.{Rules, list_of, member_at, names_in, records_in, records_of, rows_of, shown_record, table_of, with_name}
use Rattle.std.specs.Prelude.{◌↔◌, option_and_then, is_some, IfOk, IsSome, IsTrue, ◌==◌}
use Rattle.std.specs.Option.{option_map_or, option_or}
use Rattle.std.specs.Result.{IsErrAnd}
use Rattle.std.proofs.lemmas.Str.{IsUtf8-from_is_utf8, is_utf8-from_IsUtf8}
use Rattle.ruled_json.specs.Faults.{Tells, but_line, but_near, is_value, member_fault, rows_fault, text_fault, value_fault}
use Rattle.ruled_json.specs.declared.fault.JsonFault.{JsonFault}
use Rattle.ruled_json.specs.declared.fault.Place.TheVariants.{Near}
use Rattle.ruled_json.specs.declared.fault.Place.{Place}
use Rattle.ruled_json.specs.declared.fault.JsonFault.TheVariants.{Encoding, Syntax, NoMember, Memory}
use Rattle.std.specs.Cmp.Lexicographic.{pointwise}
use Rattle.csv.specs.Reading.{is_bom, strip_bom}
use Rattle.json.specs.Lex.{lex, punctuate}

-- ---- values as they are read, and as the definitions have them

-- the names of an object's members
keys_view : {A : Type 0} → (ms : List (Bor (List ℕ) × Value A)) → map (λ m. m.0.now) ms ≡ keys (members_view ms)
keys_view [] = refl
keys_view (m ∷ ms) = ap (λ (names : List (List ℕ)). m.0.now ∷ names) (keys_view ms)

pub names_view : {A : Type 0} → (v : Vec (Bor (List ℕ) × Value A) A) → map (λ m. m.0.now) v.items ≡ names_in (value_view (Object v))
names_view v = keys_view v.items ∙ sym (ap names_in (view-Object v))

-- the items of an array
pub list_view : {A : Type 0} → (vs : List (Value A)) → map value_view vs ≡ list_of (items_view vs)
list_view [] = refl
list_view (v ∷ vs) = ap (λ (js : List Json). value_view v ∷ js) (list_view vs)

-- a name is among texts
pub among : {Z : Type 0} (name : List ℕ) (texts : List (String Z))
    → list_any (λ (text : String Z). bytes_eq name (string_bytes text)) texts ≡ list_any (bytes_eq name) (map string_bytes texts)
among name [] = refl
among name (text ∷ texts) = ap (λ (b : Bool). bytes_eq name (string_bytes text) || b) (among name texts)

pub has_named : {Z : Type 0} (b : Bool) (name : List ℕ) (texts : List (String Z))
    → b ≡ list_any (λ (text : String Z). bytes_eq name (string_bytes text)) texts → b ≡ list_any (bytes_eq name) (map string_bytes texts)
has_named b name texts is = is ∙ among name texts

-- a text is added as its name is
added : {Z : Type 0} (texts : List (String Z)) (text : String Z) → map string_bytes (insert_key string_eq texts text) ≡ with_name (map string_bytes texts) (string_bytes text)
added {Z} texts text = elim (cases_Bool (list_any (bytes_eq (string_bytes text)) (map string_bytes texts))) [
  | inl there ↦ rw (among (string_bytes text) texts, there) refl
  | inr absent ↦ rw (among (string_bytes text) texts, absent) (map-append string_bytes texts (text ∷ []))
]

pub added_as : {Z : Type 0} (name : List ℕ) (texts new : List (String Z)) (text : String Z) → new ≡ insert_key string_eq texts text → string_bytes text ≡ name
    → map string_bytes new ≡ with_name (map string_bytes texts) name
added_as {Z} name texts new text inserted is =
    ap (map string_bytes) inserted ∙ added texts text ∙ ap (with_name (map string_bytes texts)) is

-- the text at a place is among all
pub column_at : {Z : Type 0} (name known : List ℕ) (texts items : List (String Z)) (i : ℕ) (x : String Z) (b : Bool) → items ≡ texts → i < length items → x ≡ get_or items i x
    → known ≡ string_bytes x → b ≡ bytes_eq name known → OnTrue b (list_any (bytes_eq name) (map string_bytes texts) ≡ true)
column_at name known texts items i x false same within is text found = tt
column_at {Z} name known texts items i x true same within is text found =
    let test : String Z → Bool = λ t. bytes_eq name (string_bytes t) in
    sym (among name texts) ∙ ap (list_any test) (sym same) ∙ list_any_at test items i x within (ap test (sym is) ∙ ap (bytes_eq name) (sym text) ∙ sym found)

pub no_new_name : (columns : List (List ℕ)) (name : List ℕ) → list_any (bytes_eq name) columns ≡ true → columns ≡ with_name columns name
no_new_name columns name there = rw there refl

pub kept : {Z : Type 0} (name : List ℕ) (texts : List (String Z)) → list_any (λ (text : String Z). bytes_eq name (string_bytes text)) texts ≡ true
    → map string_bytes texts ≡ with_name (map string_bytes texts) name
kept name texts there = rw (sym (among name texts) ∙ there) refl

-- the numbers of a value's parts can be written, as its own
pub part_has_numbers : {A : Type 0} (name : List ℕ) (j : Json) (found : Option (Bor (Value A))) → HasNumbers j → option_map (λ (v : Bor (Value A)). value_view v.now) found ≡ get name j
    → IfSome found (λ (v : Bor (Value A)). HasNumbers (value_view v.now))
part_has_numbers name j None h e = tt
part_has_numbers name j (Some v) h e = HasNumbers-get name j (value_view v.now) h e

pub each_has_numbers : {A : Type 0} (vs : List (Value A)) (i : ℕ) (v : Value A) → All HasNumbers (map value_view vs) → i < length vs → v ≡ get_or vs i v → HasNumbers (value_view v)
each_has_numbers vs i v h within is =
    subst HasNumbers (get_or-map value_view vs i v (value_view v) within ∙ ap value_view (sym is))
    (h i (value_view v) (subst (λ (n : ℕ). i < n) (sym (length-map vs value_view)) within))

items_have_numbers : (js : Items) → ItemsHaveNumbers js → All HasNumbers (list_of js)
items_have_numbers no_items h = All-nil HasNumbers
items_have_numbers (item j js) h = All-cons HasNumbers j (list_of js) h.0 (items_have_numbers js h.1)

pub records_have_numbers : (j : Json) → HasNumbers j → All HasNumbers (records_in j)
records_have_numbers null h = All-nil HasNumbers
records_have_numbers (boolean b) h = All-nil HasNumbers
records_have_numbers (number s) h = All-nil HasNumbers
records_have_numbers (string s) h = All-nil HasNumbers
records_have_numbers (array js) h = items_have_numbers js h
records_have_numbers (object ms) h = All-cons HasNumbers (object ms) [] h (All-nil HasNumbers)

pub those_have_numbers : (j : Json) (records : List Json) → records ≡ records_in j → HasNumbers j → All HasNumbers records
those_have_numbers j records are h = subst (All HasNumbers) (sym are) (records_have_numbers j h)

-- and those of a member
got : (name : List ℕ) (j : Json) (found : Option Json) → HasNumbers j → found ≡ get name j → IfSome found HasNumbers
got name j None h e = tt
got name j (Some part) h e = HasNumbers-get name j part h e

behind : (path : List (List ℕ)) (part : Json) (found : Option Json) → IfSome found HasNumbers → ((j : Json) → HasNumbers j → Some part ≡ member_at path j → HasNumbers part)
    → Some part ≡ option_and_then (member_at path) found → HasNumbers part
behind path part None h next e = cc
behind path part (Some j) h next e = next j h e

pub member_has_numbers : (path : List (List ℕ)) (j part : Json) → HasNumbers j → Some part ≡ member_at path j → HasNumbers part
member_has_numbers [] j part h e = let same : j ≡ part = cc in subst HasNumbers same h
member_has_numbers (name ∷ path) j part h e = behind path part (get name j) (got name j (get name j) h refl) (λ m. member_has_numbers path m part) e

-- ---- what is wrong with the text of a value

pub not_utf8 : (place found : Place) (text : List ℕ) → ¬ (IsUtf8 text) → but_near found ≡ but_near place → text_fault (but_near place) text ≡ Some (but_line (Encoding found))
not_utf8 place found text none same = elim (cases_Bool (is_utf8 text)) [
  | inl passed ↦ absurd (none (IsUtf8-from_is_utf8 text passed))
  | inr failed ↦ rw failed (ap (λ (p : Place). Some (Encoding p)) (sym same))
]

pub not_json : (place found : Place) (text : List ℕ) → IsUtf8 text → document text ≡ None → but_near found ≡ but_near place → text_fault (but_near place) text ≡ Some (but_line (Syntax found))
not_json place found text is none same = rw (is_utf8-from_IsUtf8 text is, none) (ap (λ (p : Place). Some (Syntax p)) (sym same))

pub is_json : (place : Place) (text : List ℕ) (value : Json) → IsUtf8 text → document text ≡ Some value → text_fault place text ≡ None
is_json place text value is some = rw (is_utf8-from_IsUtf8 text is, some) refl

-- a fault that is handed on is the right one
pub handed_on : {X : Type 0} (right : Option JsonFault) (found : JsonFault) (result : Result X JsonFault) → (found ≢ Memory → right ≡ Some (but_line found)) → IsErrAnd result (λ fault. fault ≡ found) → Tells right result
handed_on right found (Ok x) is told = absurd told
handed_on right found (Err fault) is told = λ counts. is (λ e. counts (told ∙ e)) ∙ ap (λ (f : JsonFault). Some (but_line f)) (sym told)

-- what is wrong with bytes, where their text is wrong, and where it is a value
module _ (path : List (List ℕ)) (bytes : List ℕ) where
  pub text_told : (fault : JsonFault) → text_fault (Near 0) bytes ≡ Some fault → rows_fault path bytes ≡ Some fault
  unfolding rows_fault
  text_told fault wrong = ap (λ (f : Option JsonFault). option_or f (option_and_then (member_fault path) (document bytes))) wrong

  value_told : (value : Json) → text_fault (Near 0) bytes ≡ None → document bytes ≡ Some value → rows_fault path bytes ≡ member_fault path value
  unfolding rows_fault
  value_told value right is =
      ap (λ (f : Option JsonFault). option_or f (option_and_then (member_fault path) (document bytes))) right
      ∙ ap (option_and_then (member_fault path)) is

  -- which is what is wrong with its member, or that there is none
  module _ (value : Json) (right : text_fault (Near 0) bytes ≡ None) (is : document bytes ≡ Some value) where
    pub member_told : {X : Type 0} (member : Json) (result : Result X JsonFault) → Some member ≡ member_at path value → Tells (value_fault member) result → Tells (rows_fault path bytes) result
    member_told {X} member result at told =
        subst (λ (f : Option JsonFault). Tells f result)
        (sym (value_told value right is ∙ ap (λ (m : Option Json). option_map_or value_fault m (Some NoMember)) (sym at))) told

    pub member_lacks : None ≡ member_at path value → rows_fault path bytes ≡ Some NoMember
    member_lacks at = value_told value right is ∙ ap (λ (m : Option Json). option_map_or value_fault m (Some NoMember)) (sym at)

pub member_rows : (rules : Rules) (bytes : List ℕ) (value member : Json) → document bytes ≡ Some value → Some member ≡ member_at rules.path value
    → rows_of rules bytes ≡ table_of rules.null_text (map (shown_record rules.is_flat) (records_in member))
unfolding rows_of
member_rows rules bytes value member is at =
    ap (λ (v : Option Json). table_of rules.null_text (map (shown_record rules.is_flat) (records_of (option_and_then (member_at rules.path) v)))) is
    ∙ ap (λ (m : Option Json). table_of rules.null_text (map (shown_record rules.is_flat) (records_of m))) (sym at)

-- whether bytes are one value
same_truth : (a b : Bool) → (a ≡ true → b ≡ true) → (b ≡ true → a ≡ true) → a ≡ b
same_truth true b to from = sym (to refl)
same_truth false true to from = from refl
same_truth false false to from = refl

pub no_text : (text : List ℕ) → ¬ (IsUtf8 text) → false ≡ is_value text
no_text text none = elim (cases_Bool (is_utf8 text)) [
  | inl passed ↦ absurd (none (IsUtf8-from_is_utf8 text passed))
  | inr failed ↦ rw failed refl
]

pub text_is_value : {E : Type 0} (text read : List ℕ) (valid : Result Bool E) → IfOk valid (λ b. IsTrue b ↔ IsSome (document read)) → read ≡ text → IsUtf8 text
    → IfOk valid (λ b. b ≡ is_value text)
text_is_value text read (Err e) said same is = tt
text_is_value text read (Ok b) said same is =
    same_truth b (is_some (document read)) said.0 said.1 ∙ ap (λ (t : List ℕ). is_some (document t)) same ∙ (rw (is_utf8-from_IsUtf8 text is) refl)

-- ---- a byte order mark at the front of bytes

-- the bytes of the mark
abbrev mark : List ℕ
mark = 0xEF ∷ 0xBB ∷ 0xBF ∷ []

all_three : (x y z : Bool) → (x && (y && (z && true))) ≡ (x && y && z)
all_three true true true = refl
all_three true true false = refl
all_three true false z = refl
all_three false y z = refl

tests : (a b c : ℕ) → (nat_eq a 0xEF && (nat_eq b 0xBB && (nat_eq c 0xBF && true))) ≡ is_bom a b c
tests a b c = all_three (a == 0xEF) (b == 0xBB) (c == 0xBF)

pub with_mark : (bytes : List ℕ) → pointwise nat_eq (take 3 bytes) mark ≡ true → drop 3 bytes ≡ strip_bom bytes
unfolding strip_bom
with_mark [] e = refl
with_mark (a ∷ []) e = let parts = and_parts (a == 0xEF) false e in cc
with_mark (a ∷ b ∷ []) e =
    let parts = and_parts (a == 0xEF) ((b == 0xBB) && false) e in
    let rest = and_parts (b == 0xBB) false parts.1 in
    cc
with_mark (a ∷ b ∷ c ∷ rest) e = let is : is_bom a b c ≡ true = sym (tests a b c) ∙ e in rw is refl

pub no_mark : (bytes : List ℕ) → pointwise nat_eq (take 3 bytes) mark ≡ false → bytes ≡ strip_bom bytes
unfolding strip_bom
no_mark [] e = refl
no_mark (a ∷ []) e = refl
no_mark (a ∷ b ∷ []) e = refl
no_mark (a ∷ b ∷ c ∷ rest) e = let is : is_bom a b c ≡ false = sym (tests a b c) ∙ e in rw is refl

pub nothing_told : (path : List (List ℕ)) → rows_fault path [] ≡ Some (Syntax (Near 0))
unfolding rows_fault chars is_utf8 value lex punctuate
nothing_told path = refl

-- the members of an object
pub ruleset members = (names_view, view-Object)

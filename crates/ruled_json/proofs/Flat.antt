-- Flat records, one member more.
use Rattle.std.proofs.Common.{◌≡◌, ◌∙◌, ◌∷◌, ◌++◌, ◌+◌, ◌<◌, ℕ, zero, suc, List, [], All, Bool, true, false, Vec, map, take, length, get_or, arith, refl, sym, ap, subst, codes, rules}
use Rattle.std.specs.Borrow.{Bor}
use Rattle.std.proofs.lemmas.List.{map-append, take_more}
use Rattle.json.specs.Json.{Json, null, boolean, number, string, array, object, Members, no_members, member}
use Rattle.std.proofs.lemmas.List.Elements.{All-cons, All-head, All-nil, All-tail}
use Rattle.json.proofs.Trees.{member_smaller, view-Array, view-Object}
use Rattle.json.specs.Print.{print}
use Rattle.json.specs.Tree.{HasNumbers, MembersHaveNumbers, json_tokens, members_tokens}
use Rattle.json.specs.Value.{items_view, members_view, value_view}
use Rattle.json.specs.declared.value.Value.{Value, Array, Object}
use Rattle.json.specs.declared.value.Value as kind
use Rattle.ruled_json.specs.Rows.{flat_member, flat_members, flat_record, joined, shown_record}

-- ---- members behind others

joined-assoc : (a b c : Members) → joined (joined a b) c ≡ joined a (joined b c)
joined-assoc no_members b c = refl
joined-assoc (member key value members) b c = ap (member key value) (joined-assoc members b c)

pub joined-none : (a : Members) → a ≡ joined a no_members
joined-none no_members = refl
joined-none (member key value members) = ap (member key value) (joined-none members)

-- one member more
pub pushed : {A : Type 0} (ms : List (Bor (List ℕ) × Value A)) (m : Bor (List ℕ) × Value A) → members_view (ms ++ m ∷ []) ≡ joined (members_view ms) (member m.0.now (value_view m.1) no_members)
pushed [] m = refl
pushed (n ∷ ms) m = ap (member n.0.now (value_view n.1)) (pushed ms m)

flat-joined : (front : List ℕ) (a b : Members) → flat_members front (joined a b) ≡ joined (flat_members front a) (flat_members front b)
flat-joined front no_members b = refl
flat-joined front (member key value members) b =
    ap (joined (flat_member (front ++ key) value)) (flat-joined front members b)
    ∙ sym (joined-assoc (flat_member (front ++ key) value) (flat_members front members) (flat_members front b))

pub flat-next : {A : Type 0} (front name : List ℕ) (ms : List (Bor (List ℕ) × Value A)) (i : ℕ) (m : Bor (List ℕ) × Value A) (old between new : Members) → i < length ms → m ≡ get_or ms i m
    → name ≡ front ++ m.0.now → new ≡ joined between (flat_member name (value_view m.1)) → between ≡ joined old (flat_members front (members_view (take i ms)))
    → new ≡ joined old (flat_members front (members_view (take (i + 1) ms)))
flat-next {A} front name ms i m old between new within is named made before =
    let f : Members = flat_member (front ++ m.0.now) (value_view m.1) in
    let first : Members = flat_members front (members_view (take i ms)) in
    made ∙ ap (λ (n : List ℕ). joined between (flat_member n (value_view m.1))) named
    ∙ ap (λ (b : Members). joined b f) before ∙ joined-assoc old first f
    ∙ ap (joined old) (ap (joined first) (joined-none f) ∙ sym (flat-joined front (members_view (take i ms)) (member m.0.now (value_view m.1) no_members))
    ∙ ap (flat_members front) (sym (pushed (take i ms) m))
    ∙ ap (λ (list : List (Bor (List ℕ) × Value A)). flat_members front (members_view list)) (ap (λ (n : Bor (List ℕ) × Value A). take i ms ++ n ∷ []) is ∙ sym (take_more ms i m within)))

-- ---- numbers that can be written

member_has_numbers : {A : Type 0} (ms : List (Bor (List ℕ) × Value A)) (i : ℕ) (d : Bor (List ℕ) × Value A) → i < length ms → MembersHaveNumbers (members_view ms) → HasNumbers (value_view (get_or ms i d).1)
member_has_numbers [] i d within h = absurd (omega arith)
member_has_numbers (m ∷ ms) zero d within h = h.0
member_has_numbers (m ∷ ms) (suc i) d within h = member_has_numbers ms i d (omega arith) h.1

numbers-joined : (first behind : Members) → MembersHaveNumbers first → MembersHaveNumbers behind → MembersHaveNumbers (joined first behind)
numbers-joined no_members behind h more = more
numbers-joined (member key value members) behind h more = (h.0, numbers-joined members behind h.1 more)

mutual
  numbers-flat : (front : List ℕ) (members : Members) → MembersHaveNumbers members → MembersHaveNumbers (flat_members front members)
  numbers-flat front no_members h = h
  numbers-flat front (member key value members) h =
      numbers-joined (flat_member (front ++ key) value) (flat_members front members) (number-flat (front ++ key) value h.0) (numbers-flat front members h.1)

  number-flat : (name : List ℕ) (value : Json) → HasNumbers value → MembersHaveNumbers (flat_member name value)
  number-flat name null h = (h, tt)
  number-flat name (boolean b) h = (h, tt)
  number-flat name (number s) h = (h, tt)
  number-flat name (string s) h = (h, tt)
  number-flat name (array js) h = (tt, tt)
  number-flat name (object ms) h = numbers-flat (name ++ codes ".") ms h

flat-has-numbers : (value : Json) → HasNumbers value → HasNumbers (flat_record value)
flat-has-numbers null h = tt
flat-has-numbers (boolean b) h = tt
flat-has-numbers (number s) h = tt
flat-has-numbers (string s) h = tt
flat-has-numbers (array js) h = tt
flat-has-numbers (object ms) h = numbers-flat [] ms h

-- ---- walks over members

pub member-less : {A : Type 0} (ms : List (Bor (List ℕ) × Value A)) (i : ℕ) (m : Bor (List ℕ) × Value A) → i < length ms → m ≡ get_or ms i m
    → length (json_tokens (value_view m.1)) < length (members_tokens (members_view ms))
member-less {A} ms i m within is = subst (λ (n : Bor (List ℕ) × Value A). length (json_tokens (value_view n.1)) < length (members_tokens (members_view ms))) (sym is) (member_smaller ms i m within)

pub member-numbers : {A : Type 0} (ms : List (Bor (List ℕ) × Value A)) (i : ℕ) (m : Bor (List ℕ) × Value A) → i < length ms → m ≡ get_or ms i m → MembersHaveNumbers (members_view ms) → HasNumbers (value_view m.1)
member-numbers {A} ms i m within is h = subst (λ (n : Bor (List ℕ) × Value A). HasNumbers (value_view n.1)) (sym is) (member_has_numbers ms i m within h)

-- ---- whole records

pub flat_numbers : (value flat : Json) → HasNumbers value → flat ≡ flat_record value → HasNumbers flat
flat_numbers value flat h is = subst HasNumbers (sym is) (flat-has-numbers value h)

each-flat : (values : List Json) → All HasNumbers values → All HasNumbers (map flat_record values)
each-flat [] h = All-nil HasNumbers
each-flat (value ∷ values) h = All-cons HasNumbers (flat_record value) (map flat_record values) (flat-has-numbers value (All-head HasNumbers value values h)) (each-flat values (All-tail HasNumbers value values h))

pub all_flat_numbers : (values flat : List Json) → All HasNumbers values → flat ≡ map flat_record values → All HasNumbers flat
all_flat_numbers values flat h is = subst (All HasNumbers) (sym is) (each-flat values h)

pub same_list : (is_flat : Bool) (values : List Json) → is_flat ≡ false → map (shown_record is_flat) values ≡ values
same_list is_flat [] plain = refl
same_list is_flat (value ∷ values) plain =
    ap (λ (b : Bool). shown_record b value ∷ map (shown_record is_flat) values) plain ∙ ap (λ (rest : List Json). value ∷ rest) (same_list is_flat values plain)

pub flat_list : (is_flat : Bool) (values : List Json) → is_flat ≡ true → map (shown_record is_flat) values ≡ map flat_record values
flat_list is_flat values flat = ap (λ (b : Bool). map (shown_record b) values) flat

pub of_object : {A : Type 0} (v : Vec (Bor (List ℕ) × Value A) A) (flat : Members) → flat ≡ flat_members [] (members_view v.items) → object flat ≡ flat_record (value_view (Object v))
of_object v flat is = ap object is ∙ sym (ap flat_record (view-Object v))

-- ---- members that are no objects

view-String : (A : Type 0) (s : Bor (List ℕ)) → value_view {A = A} (kind.String s) ≡ string s.now
view-String A s = search (rules, kind.the_lemmas)

view-Null : (A : Type 0) → value_view {A = A} kind.Null ≡ null
view-Null A = search (rules, kind.the_lemmas)

view-Bool : (A : Type 0) (b : Bool) → value_view {A = A} (kind.Bool b) ≡ boolean b
view-Bool A b = search (rules, kind.the_lemmas)

view-Number : (A : Type 0) (s : Bor (List ℕ)) → value_view {A = A} (kind.Number s) ≡ number s.now
view-Number A s = search (rules, kind.the_lemmas)

-- the member that is appended for one that is no object
module _ {A : Type 0} (name : List ℕ) (value made : Value A) where
  leaf : (old new : Json) → value_view value ≡ old → value_view made ≡ new → member name new no_members ≡ flat_member name old → member name (value_view made) no_members ≡ flat_member name (value_view value)
  leaf old new is made-is same = ap (λ (j : Json). member name j no_members) made-is ∙ same ∙ sym (ap (flat_member name) is)

  pub leaf-null : value ≡ kind.Null → made ≡ kind.Null → member name (value_view made) no_members ≡ flat_member name (value_view value)
  leaf-null is new = leaf null null (ap value_view is ∙ view-Null A) (ap value_view new ∙ view-Null A) refl

  pub leaf-boolean : (b : Bool) → value ≡ kind.Bool b → made ≡ kind.Bool b → member name (value_view made) no_members ≡ flat_member name (value_view value)
  leaf-boolean b is new = leaf (boolean b) (boolean b) (ap value_view is ∙ view-Bool A b) (ap value_view new ∙ view-Bool A b) refl

  pub leaf-number : (s t : Bor (List ℕ)) → value ≡ kind.Number s → made ≡ kind.Number t → t.now ≡ s.now → member name (value_view made) no_members ≡ flat_member name (value_view value)
  leaf-number s t is new same =
      leaf (number s.now) (number t.now) (ap value_view is ∙ view-Number A s) (ap value_view new ∙ view-Number A t) (ap (λ (text : List ℕ). member name (number text) no_members) same)

  pub leaf-string : (s t : Bor (List ℕ)) → value ≡ kind.String s → made ≡ kind.String t → t.now ≡ s.now → member name (value_view made) no_members ≡ flat_member name (value_view value)
  leaf-string s t is new same =
      leaf (string s.now) (string t.now) (ap value_view is ∙ view-String A s) (ap value_view new ∙ view-String A t) (ap (λ (text : List ℕ). member name (string text) no_members) same)

  pub leaf-array : (v : Vec (Value A) A) (t : Bor (List ℕ)) → value ≡ Array v → made ≡ kind.String t → t.now ≡ print (json_tokens (value_view value)) → member name (value_view made) no_members ≡ flat_member name (value_view value)
  leaf-array v t is new same =
      let view : value_view value ≡ array (items_view v.items) = ap value_view is ∙ view-Array v in
      leaf (array (items_view v.items)) (string t.now) view (ap value_view new ∙ view-String A t)
      (ap (λ (text : List ℕ). member name (string text) no_members) (same ∙ ap (λ (j : Json). print (json_tokens j)) view))

-- one record more
pub next_value : {A : Type 0} (values : List (Value A)) (i : ℕ) (value flat : Value A) (before after : List (Value A)) → i < length values → value ≡ get_or values i value → value_view flat ≡ flat_record (value_view value)
    → after ≡ before ++ flat ∷ [] → map value_view before ≡ map flat_record (map value_view (take i values)) → map value_view after ≡ map flat_record (map value_view (take (i + 1) values))
next_value {A} values i value flat before after within is made pushed so_far =
    ap (map value_view) pushed ∙ map-append value_view before (flat ∷ []) ∙ ap (λ (js : List Json). js ++ value_view flat ∷ []) so_far
    ∙ ap (λ (j : Json). map flat_record (map value_view (take i values)) ++ j ∷ []) made
    ∙ sym (ap (λ (vs : List (Value A)). map flat_record (map value_view vs)) (take_more values i value within ∙ ap (λ (v : Value A). take i values ++ v ∷ []) (sym is))
    ∙ ap (map flat_record) (map-append value_view (take i values) (value ∷ []))
    ∙ map-append flat_record (map value_view (take i values)) (value_view value ∷ []))

pub ruleset of_no_object = (view-Object)

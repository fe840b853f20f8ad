-- Words that ask for columns, and those that leave them out; and sorted lists.
use Rattle.std.proofs.Common.{◌≡◌, ◌≢◌, ◌∙◌, ◌∷◌, ◌++◌, ◌+◌, ◌<◌, ◌≤◌, ◌^◌, ◌==◌, ◌&&◌, ◌||◌, not, cond, nat_lt, ℕ, suc, List, [], Bool, true, false, Option, Some, None, Result, Ok, Err, Bor, String, string_bytes, length, map, option_map, drop, get_or, nat_eq, take, zero-add, refl, sym, ap, ap₂, arith, rules, ◌-◌, zero}
use Rattle.std.specs.Prelude.{Any, IsErrAnd, is_none, is_ok, reverse, unwrap_or, ◌↔◌}
use Rattle.std.specs.List.{list_all, list_any, filter, flat_map, position_from, position_or_len, range_with_len, starts_with}
use Rattle.std.specs.Option.{MatchOption, option_or}
use Rattle.std.specs.Str.Parse.{digits_value, ParsesUnsigned}
use Rattle.std.specs.Str.{bytes_eq}
use Rattle.std.specs.Str.Iter.{HasSubslice}
use Rattle.std.proofs.lemmas.Bool.{and_parts, and_right, cond-false, cond-true, eq-eqb, eqb-false, false_from_ne_true, ltb-true, ne_eqb, not-true, true≢false}
use Rattle.std.proofs.lemmas.List.{drop_more, flat_map_more, take_more, length-append, reverse-append, reverse-reverse, take-append-drop}
use Rattle.std.proofs.lemmas.List.FromFn.{get_or-range_with_len, length-range_with_len, map-range_with_len_more}
use Rattle.std.proofs.lemmas.List.Folds.{Any-from_list_any, list_any_at, list_any_more}
use Rattle.std.proofs.lemmas.Slice.Eq.{bytes_eq-Decides}
use Rattle.std.proofs.Math.Seq.{drop-append_seam, take-append_seam}
use Rattle.std.proofs.Math.ListN.{drop_of_length-le}
use Rattle.std.proofs.lemmas.Str.Parse.{IsNumeralModel, numerals_by_value, parse_digits}
use Rattle.std.proofs.lemmas.Option.{none-some}
use Rattle.pg_layout.specs.Text.{Text}
use Rattle.ruled_table.specs.Columns.{asked, asked_by, asked_or_all, before, behind, columns_in, columns_of, excluded, has_part, is_left_out, left_out_by, meant, missing_word, number_in}
use Rattle.ruled_table.specs.Tables.{Tells, is_memory}
use Rattle.pg_table.specs.Numbers.{are_digits, is_digit}
use Rattle.ruled_table.specs.declared.view.ViewFault.{ViewFault}
use Rattle.ruled_table.specs.declared.view.ViewFault.TheVariants.{Column}
use Rattle.std.specs.Cmp.{IsStrictWeakOrder, IsTotalOrder, bool_cmp_total}
use Rattle.std.specs.List.Sorted.{IsSortedBy, IsStableBy, ties}
use Rattle.std.proofs.lemmas.Cmp.{back_total, int_cmp_total, nat_list_cmp_total, on_total, then_total}
use Rattle.std.proofs.lemmas.List.Sorted.{sorted_far}
use Rattle.std.specs.Ordering.{is_lt}
use Rattle.csv.specs.Records.{fields_of}
use Rattle.ruled_table.specs.Order.{Ranked, is_before, number_order, order_of, rank_in, row_in, sorted_by, with_element, with_rank}
use Rattle.ruled_table.specs.declared.options.Options.{Options}
use Rattle.ruled_table.specs.declared.order.RankedRow.{RankedRow}

-- ---- signs at the ends of texts

pub behind_is : (byte : ℕ) (text : Text) (r : Option (Bor (List ℕ))) → MatchOption r ((rest : List ℕ) → text ≢ byte ∷ rest) (λ x. text ≡ byte ∷ x.now) → option_map (λ it. it.now) r ≡ behind byte text
behind_is byte [] None h = refl
behind_is byte [] (Some x) h = absurd (omega (arith, ap length h))
behind_is byte (first ∷ text) None h = sym (cond-false (first == byte) (Some text) None (ne_eqb first byte (λ e. h text (ap (λ (b : ℕ). b ∷ text) e))))
behind_is byte (first ∷ text) (Some x) h =
    let same : first ≡ byte = ap (λ (bytes : List ℕ). get_or bytes 0 0) h in
    let rest : text ≡ x.now = ap (drop 1) h in
    ap (λ (bytes : List ℕ). Some bytes) (sym rest) ∙ sym (cond-true (first == byte) (Some text) None (eq-eqb first byte same))

before_some : (byte : ℕ) (text front : List ℕ) → text ≡ front ++ byte ∷ [] → Some front ≡ before byte text
before_some byte text front e =
    let back : reverse text ≡ byte ∷ reverse front = ap reverse e ∙ reverse-append front (byte ∷ []) in
    sym (ap (λ (bytes : List ℕ). option_map reverse (behind byte bytes)) back
    ∙ ap (option_map reverse) (cond-true (byte == byte) (Some (reverse front)) None (eq-eqb byte byte refl))
    ∙ ap (λ (bytes : List ℕ). Some bytes) (reverse-reverse front))

before_none : (byte : ℕ) (text back : List ℕ) → ((front : List ℕ) → text ≢ front ++ byte ∷ []) → reverse text ≡ back → None ≡ option_map reverse (behind byte back)
before_none byte text [] none e = refl
before_none byte text (last ∷ back) none e =
    sym (ap (option_map reverse) (cond-false (last == byte) (Some back) None (ne_eqb last byte (λ same.
    none (reverse back) (sym (reverse-reverse text) ∙ ap reverse e ∙ reverse-append (last ∷ []) back ∙ ap (λ (b : ℕ). reverse back ++ b ∷ []) same)))))

pub before_is : (byte : ℕ) (text : Text) (r : Option (Bor (List ℕ))) → MatchOption r ((front : List ℕ) → text ≢ front ++ byte ∷ []) (λ x. text ≡ x.now ++ byte ∷ []) → option_map (λ it. it.now) r ≡ before byte text
before_is byte text None h = before_none byte text (reverse text) h refl
before_is byte text (Some x) h = before_some byte text x.now h

-- ---- a text that has another one as a part

same_bytes : (bytes : List ℕ) → bytes_eq bytes bytes ≡ true
same_bytes bytes = (bytes_eq-Decides bytes bytes).1 refl

begins : (part rest : List ℕ) → starts_with nat_eq (part ++ rest) part ≡ true
begins part rest = ap (bytes_eq part) (take-append_seam part rest) ∙ same_bytes part

part_found : (part text : List ℕ) → HasSubslice text part → has_part part text ≡ true
part_found part text h =
    let at : ℕ = length h.0 in
    let within : at < length text + 1 = omega (arith, ap length h.2, length-append h.0 (part ++ h.1)) in
    let test : ℕ → Bool = λ place. starts_with nat_eq (drop place text) part in
    let same : get_or (range_with_len 0 (length text + 1)) at 0 ≡ at = get_or-range_with_len 0 (length text + 1) at 0 within ∙ zero-add at in
    let rest : drop at text ≡ part ++ h.1 = ap (drop at) h.2 ∙ drop-append_seam h.0 (part ++ h.1) in
    list_any_at test (range_with_len 0 (length text + 1)) at 0 (omega (arith, length-range_with_len 0 (length text + 1)))
    (ap test same ∙ ap (λ (bytes : List ℕ). starts_with nat_eq bytes part) rest ∙ begins part h.1)

part_there : (part text : List ℕ) → has_part part text ≡ true → HasSubslice text part
part_there part text h =
    let test : ℕ → Bool = λ place. starts_with nat_eq (drop place text) part in
    let found : Any (λ place. test place ≡ true) (range_with_len 0 (length text + 1)) = Any-from_list_any test (range_with_len 0 (length text + 1)) h in
    let rest : List ℕ = drop found.1 text in
    let same : part ≡ take (length part) rest = (bytes_eq-Decides part (take (length part) rest)).0 found.4 in (
      take found.1 text,
      drop (length part) rest,
      sym (ap (λ (bytes : List ℕ). take found.1 text ++ (bytes ++ drop (length part) rest)) same
          ∙ ap (λ (bytes : List ℕ). take found.1 text ++ bytes) (take-append-drop (length part) rest)
          ∙ take-append-drop found.1 text),
    )

pub part_is : (r : Bool) (part text : List ℕ) → (r ≡ true) ↔ HasSubslice text part → r ≡ has_part part text
part_is true part text h = sym (part_found part text (h.0 refl))
part_is false part text h = sym (false_from_ne_true (has_part part text) (λ e. true≢false (sym (h.1 (part_there part text e)))))

-- ---- numbers

digits-alone : IsNumeralModel (λ (ds : List ℕ). list_all is_digit ds ≡ true) (digits_value 10)
digits-alone = numerals_by_value (λ (ds : List ℕ). list_all is_digit ds ≡ true) (search rules)

-- digits that aren't parsed write a number that is too large
pub number-lost : {E : Type 0} (word : Text) (r : Result ℕ E) → is_ok r ≡ false → ParsesUnsigned 64 10 word r → are_digits word ≡ true → 0 ≡ number_in word
number-lost word (Ok x) lost parses digits = absurd (true≢false lost)
number-lost word (Err e) lost parses digits =
    let parts = and_parts (not (length word == 0)) (list_all is_digit word) digits in
    let some : 0 < length word = omega (arith, eqb-false (length word) 0 (not-true (length word == 0) parts.0)) in
    let refused = parse_digits digits-alone 64 word (Err e) parses parts.1 in
    let large : nat_lt (digits_value 10 word) (2 ^ 64) ≡ false = false_from_ne_true (nat_lt (digits_value 10 word) (2 ^ 64)) (λ small. refused (some, ltb-true (digits_value 10 word) (2 ^ 64) small)) in
    sym (cond-false (are_digits word && nat_lt (digits_value 10 word) (2 ^ 64)) (digits_value 10 word) 0 (and_right (are_digits word) (nat_lt (digits_value 10 word) (2 ^ 64)) large))

-- ---- a byte that no place has

none-step : (passes : Bool) (n m : ℕ) (rest : Bool) → cond (not passes) (1 + n) 0 ≡ suc m → (n ≡ m → rest ≡ false) → (passes || rest) ≡ false
none-step true n m rest e h = absurd (omega (arith, e))
none-step false n m rest e h = h (omega (arith, e))

pub none-any : {X : Type 0} (p : X → Bool) (xs : List X) → position_or_len p xs ≡ length xs → list_any p xs ≡ false
none-any p [] e = refl
none-any p (x ∷ xs) e = none-step (p x) (position_or_len p xs) (length xs) (list_any p xs) e (none-any p xs)

-- ---- the first element that passes a test

pub first_next : {X : Type 0} (p : X → Bool) (xs : List X) (i j : ℕ) (x d : X) (found made : Option ℕ) → i < length xs → j ≡ i + 1 → x ≡ get_or xs i d → found ≡ position_from p j (drop j xs) → made ≡ cond (p x) (Some i) found
    → made ≡ position_from p i (drop i xs)
first_next p xs i j x d found made within next is were now =
    now
    ∙ ap (cond (p x) (Some i)) (were ∙ ap (λ (n : ℕ). position_from p n (drop n xs)) next)
    ∙ ap (λ y. cond (p y) (Some i) (position_from p (i + 1) (drop (i + 1) xs))) is
    ∙ sym (ap (position_from p i) (drop_more xs i d within))

pub passes_here : {X : Type 0} (p : X → Bool) (xs : List X) (i : ℕ) (d : X) → i < length xs → p (get_or xs i d) ≡ true → position_from p i (drop i xs) ≡ Some i
passes_here p xs i d within passes = ap (position_from p i) (drop_more xs i d within) ∙ cond-true (p (get_or xs i d)) (Some i) (position_from p (i + 1) (drop (i + 1) xs)) passes

pub passes_later : {X : Type 0} (p : X → Bool) (xs : List X) (i : ℕ) (d : X) → i < length xs → p (get_or xs i d) ≡ false → position_from p i (drop i xs) ≡ position_from p (i + 1) (drop (i + 1) xs)
passes_later p xs i d within fails = ap (position_from p i) (drop_more xs i d within) ∙ cond-false (p (get_or xs i d)) (Some i) (position_from p (i + 1) (drop (i + 1) xs)) fails

pub passes_nowhere : {X : Type 0} (p : X → Bool) (xs : List X) (i : ℕ) → length xs ≤ i → position_from p i (drop i xs) ≡ None
passes_nowhere p xs i end = ap (position_from p i) (drop_of_length-le xs end)

-- ---- one column more

same_numbers : (ns : List ℕ) → map (λ (n : ℕ). n) ns ≡ ns
same_numbers [] = refl
same_numbers (n ∷ ns) = ap (λ (ms : List ℕ). n ∷ ms) (same_numbers ns)

pub range_more : (a n k : ℕ) → a + n ≡ k → range_with_len a (n + 1) ≡ range_with_len a n ++ k ∷ []
range_more a n k at =
    sym (same_numbers (range_with_len a (n + 1)))
    ∙ map-range_with_len_more (λ (m : ℕ). m) a n k at
    ∙ ap (λ (ms : List ℕ). ms ++ k ∷ []) (same_numbers (range_with_len a n))

-- ---- columns that stay

pub same_filter : (p q : ℕ → Bool) → ((n : ℕ) → p n ≡ q n) → (xs : List ℕ) → filter p xs ≡ filter q xs
same_filter p q same [] = refl
same_filter p q same (x ∷ xs) = ap₂ (λ b (rest : List ℕ). cond b (x ∷ rest) rest) (same x) (same_filter p q same xs)

pub all_stay : (xs : List ℕ) → xs ≡ filter (λ x. true) xs
all_stay [] = refl
all_stay (x ∷ xs) = ap (λ (rest : List ℕ). x ∷ rest) (all_stay xs)

-- ---- columns that are left out

either_way : (old passed here : Bool) → cond here true (old || passed) ≡ (old || (passed || here))
either_way true true true = refl
either_way true true false = refl
either_way true false true = refl
either_way true false false = refl
either_way false true true = refl
either_way false true false = refl
either_way false false true = refl
either_way false false false = refl

-- one more is left out
pub one_more_left_out : (columns : List ℕ) (i x d column : ℕ) (old were now : Bool) → i < length columns → x ≡ get_or columns i d → were ≡ (old || list_any (λ other. other == column) (take i columns)) → now ≡ cond (x == column) true were
    → now ≡ (old || list_any (λ other. other == column) (take (i + 1) columns))
one_more_left_out columns i x d column old were now within is before_it update =
    update
    ∙ ap₂ (λ here b. cond here true b) (ap (λ (other : ℕ). other == column) is) before_it
    ∙ either_way old (list_any (λ other. other == column) (take i columns)) (get_or columns i d == column)
    ∙ ap (λ b. old || b) (sym (list_any_more (λ (other : ℕ). other == column) columns i d within))

-- a word that leaves nothing out asks for its columns
pub asked_plainly : (header : List Text) (word : Text) → None ≡ excluded header word → columns_of header word ≡ asked_by header word
asked_plainly header word none = ap (λ (o : Option Text). cond (is_none o) (columns_of header (unwrap_or o word)) []) none

pub meant_plainly : (header : List Text) (word : Text) → None ≡ excluded header word → columns_of header word ≡ meant header word
meant_plainly header word none = ap (λ (o : Option Text). columns_of header (unwrap_or o word)) none

-- ---- all words

twice : (b : Bool) → not (not b) ≡ b
twice true = refl
twice false = refl

module _ {A : Type 0} (words : List (String A)) (header : List Text) (i : ℕ) (word : String A) (text : Text) (within : i < length words) (is : word ≡ get_or words i word) (read : text ≡ string_bytes word) where
  pub asked_next : (old new : List ℕ) → old ≡ asked (take i words) header → new ≡ old ++ asked_by header text → new ≡ asked (take (i + 1) words) header
  asked_next old new were pushed =
      let by : String A → List ℕ = λ w. asked_by header (string_bytes w) in
      pushed
      ∙ ap₂ (λ (columns : List ℕ) (t : Text). columns ++ asked_by header t) were read
      ∙ flat_map_more by [] (take i words) word
      ∙ ap (λ (w : String A). flat_map by (take i words ++ w ∷ [])) is
      ∙ sym (ap (flat_map by) (take_more words i word within))

  pub left_out_next : (column : ℕ) (old new : Bool) → old ≡ is_left_out (take i words) header column → new ≡ (old || list_any (λ other. other == column) (left_out_by header text)) → new ≡ is_left_out (take (i + 1) words) header column
  left_out_next column old new were now =
      let test : Text → Bool = λ t. list_any (λ other. other == column) (left_out_by header t) in
      now
      ∙ ap₂ (λ b (t : Text). b || test t) were read
      ∙ ap (λ (w : String A). is_left_out (take i words) header column || test (string_bytes w)) is
      ∙ sym (list_any_more (λ (w : String A). test (string_bytes w)) words i word within)

  lacks : (some : Bool) → some ≡ not (length (meant header text) == 0) → (length (meant header (string_bytes (get_or words i word))) == 0) ≡ not some
  lacks some known = sym (ap not (known ∙ ap (λ (t : Text). not (length (meant header t) == 0)) (read ∙ ap string_bytes is)) ∙ twice (length (meant header (string_bytes (get_or words i word))) == 0))

  pub missing_next : (some : Bool) → some ≡ not (length (meant header text) == 0) → some ≡ true → missing_word words header ≡ position_from (λ w. length (meant header (string_bytes w)) == 0) i (drop i words)
      → missing_word words header ≡ position_from (λ w. length (meant header (string_bytes w)) == 0) (i + 1) (drop (i + 1) words)
  missing_next some known has were = were ∙ passes_later (λ w. length (meant header (string_bytes w)) == 0) words i word within (lacks some known ∙ ap not has)

  pub missing_here : (some : Bool) → some ≡ not (length (meant header text) == 0) → some ≡ false → missing_word words header ≡ position_from (λ w. length (meant header (string_bytes w)) == 0) i (drop i words) → missing_word words header ≡ Some i
  missing_here some known has were = were ∙ passes_here (λ w. length (meant header (string_bytes w)) == 0) words i word within (lacks some known ∙ ap not has)

-- where there are no words, all columns are shown
pub all_shown : {A : Type 0} (words : List (String A)) (header : List Text) (n : ℕ) (made : List (Option ℕ)) → made ≡ map Some (range_with_len 0 n) → n ≡ length header → length words ≡ 0 → made ≡ map Some (columns_in words header)
all_shown [] header n made is count none = is ∙ ap (λ (m : ℕ). map Some (range_with_len 0 m)) count ∙ ap (map Some) (all_stay (range_with_len 0 (length header)))
all_shown (word ∷ words) header n made is count none = absurd (omega (arith, none))

pub none_missing : {A : Type 0} (words : List (String A)) (header : List Text) → length words ≡ 0 → missing_word words header ≡ None
none_missing [] header none = refl
none_missing (word ∷ words) header none = absurd (omega (arith, none))

tells_first : (missing last : Option ℕ) (fault : ViewFault) → (is_memory fault ≡ false → option_map Column missing ≡ Some fault) → is_memory fault ≡ false → option_map Column (option_or missing last) ≡ Some fault
tells_first None last fault tells other = absurd (none-some fault (tells other))
tells_first (Some word) last fault tells other = tells other

-- a fault that is handed on tells of the first word that means no column
pub told_first : {X : Type 0} (missing last : Option ℕ) (found : ViewFault) (result : Result X ViewFault) → (is_memory found ≡ false → option_map Column missing ≡ Some found) → IsErrAnd result (λ fault. fault ≡ found)
    → Tells (option_map Column (option_or missing last)) result
told_first missing last found (Ok x) tells told = absurd told
told_first missing last found (Err fault) tells told = λ counts. tells_first missing last found tells (sym (ap is_memory told) ∙ counts) ∙ ap (λ (f : ViewFault). Some f) (sym told)

pub shown_columns : {A : Type 0} (words : List (String A)) (header : List Text) (n : ℕ) (asked_for : List ℕ) (left_out : ℕ → Bool) (made : List (Option ℕ)) → made ≡ map Some (filter (λ column. not (left_out column)) (asked_or_all n asked_for)) → n ≡ length header
    → asked_for ≡ asked words header → ((column : ℕ) → left_out column ≡ is_left_out words header column) → made ≡ map Some (columns_in words header)
shown_columns words header n asked_for left_out made is count are out =
    is
    ∙ ap (map Some)
    (same_filter (λ column. not (left_out column)) (λ column. not (is_left_out words header column)) (λ column. ap not (out column)) (asked_or_all n asked_for)
    ∙ ap₂ (λ (m : ℕ) (columns : List ℕ). filter (λ column. not (is_left_out words header column)) (asked_or_all m columns)) count are)

-- digits that are no number
pub ruleset numbers_lost = (number-lost)

-- ---- sorted lists

-- ---- the order of ranks

number-total : IsTotalOrder number_order
number-total = then_total (then_total (on_total (λ (r : Ranked). r.sign) int_cmp_total) (on_total (λ (r : Ranked). r.power) int_cmp_total)) (on_total (λ (r : Ranked). r.digits) nat_list_cmp_total)

pub order-total : (is_descending : Bool) → IsTotalOrder (order_of is_descending)
order-total true = then_total (on_total (λ (r : Ranked). r.is_last) bool_cmp_total) (back_total number-total)
order-total false = then_total (on_total (λ (r : Ranked). r.is_last) bool_cmp_total) number-total

-- ---- lists in order

module _ {X : Type 0} (lt : X → X → Bool) (order : IsStrictWeakOrder lt) where
  -- no element is less
  abbrev Least : X → List X → Type 0
  Least x [] = Unit {0}
  Least x (y ∷ ys) = (lt y x ≡ false) × Least x ys

  -- none is less than one in front of it
  abbrev Rising : List X → Type 0
  Rising [] = Unit {0}
  Rising (x ∷ xs) = Least x xs × Rising xs

  abbrev Far : List X → Type 0
  Far xs = (i j : ℕ) (d : X) → i ≤ j → j < length xs → lt (get_or xs j d) (get_or xs i d) ≡ false

  least-from : (x : X) (ys : List X) → ((j : ℕ) (d : X) → j < length ys → lt (get_or ys j d) x ≡ false) → Least x ys
  least-from x [] each = tt
  least-from x (y ∷ ys) each = (each zero y (omega arith), least-from x ys (λ j d within. each (suc j) d (omega (arith, within))))

  rising-from : (xs : List X) → Far xs → Rising xs
  rising-from [] far = tt
  rising-from (x ∷ xs) far = (
    least-from x xs (λ j d within. far zero (suc j) d (omega arith) (omega (arith, within))),
    rising-from xs (λ i j d below within. far (suc i) (suc j) d (omega (arith, below)) (omega (arith, within))),
  )

  itself : (x : X) → lt x x ≡ false
  itself x = by (lt x x) refl
    where
      by : (b : Bool) → lt x x ≡ b → lt x x ≡ false
      by true is = order.one_way x x is
      by false is = is

  least-with : (z x : X) (ys : List X) → Least z ys → lt x z ≡ false → Least z (with_element lt x ys)
  least-with z x [] least above = (above, tt)
  least-with z x (y ∷ ys) least above =
      elim (lt y x) as (λ b. Least z (cond b (y ∷ with_element lt x ys) (x ∷ y ∷ ys))) [ true ↦ (least.0, least-with z x ys least.1 above) | false ↦ (above, least) ]

  least-on : (x y : X) (ys : List X) → Least y ys → lt y x ≡ false → Least x ys
  least-on x y [] least above = tt
  least-on x y (z ∷ ys) least above = (order.chain z y x least.0 above, least-on x y ys least.1 above)

  rising-with : (x : X) (ys : List X) → Rising ys → Rising (with_element lt x ys)
  rising-with x [] rising = (tt, tt)
  rising-with x (y ∷ ys) rising =
      (elim (lt y x) as (λ b. lt y x ≡ b → Rising (cond b (y ∷ with_element lt x ys) (x ∷ y ∷ ys))) [
        | true ↦ λ is. (least-with y x ys rising.0 (order.one_way y x is), rising-with x ys rising.1)
        | false ↦ λ is. ((is, least-on x y ys rising.0 is), rising)
      ]) refl

  sorted-rises : (xs : List X) → Rising (sorted_by lt xs)
  sorted-rises [] = tt
  sorted-rises (x ∷ xs) = rising-with x (sorted_by lt xs) (sorted-rises xs)

  -- ---- elements that tie

  abbrev like : X → List X → List X
  like z xs = filter (ties lt z) xs

  -- of two that tie with one, none is less
  apart : (x y z : X) (a b : Bool) → lt y x ≡ true → ties lt z x ≡ a → ties lt z y ≡ b → (us : List X)
      → cond b (y ∷ cond a (x ∷ us) us) (cond a (x ∷ us) us) ≡ cond a (x ∷ cond b (y ∷ us) us) (cond b (y ∷ us) us)
  apart x y z true true less with_x with_y us =
      let z_x = parts (lt z x) (lt x z) with_x in
      let z_y = parts (lt z y) (lt y z) with_y in
      absurd (true≢false (sym less ∙ order.chain y z x z_y.1 z_x.0))
    where
      parts : (p q : Bool) → (not p && not q) ≡ true → (p ≡ false) × (q ≡ false)
      parts true q is = absurd (true≢false (sym is))
      parts false true is = absurd (true≢false (sym is))
      parts false false is = (refl, refl)
  apart x y z true false less with_x with_y us = refl
  apart x y z false true less with_x with_y us = refl
  apart x y z false false less with_x with_y us = refl

  like-with : (z x : X) (ys : List X) → like z (with_element lt x ys) ≡ like z (x ∷ ys)
  like-with z x [] = refl
  like-with z x (y ∷ ys) =
      (elim (lt y x) as (λ b. lt y x ≡ b → like z (cond b (y ∷ with_element lt x ys) (x ∷ y ∷ ys)) ≡ like z (x ∷ y ∷ ys)) [
        | true ↦ λ is.
            ap (λ (us : List X). cond (ties lt z y) (y ∷ us) us) (like-with z x ys)
            ∙ apart x y z (ties lt z x) (ties lt z y) is refl refl (like z ys)
        | false ↦ λ is. refl
      ]) refl

  like-sorted : (z : X) (xs : List X) → like z (sorted_by lt xs) ≡ like z xs
  like-sorted z [] = refl
  like-sorted z (x ∷ xs) = like-with z x (sorted_by lt xs) ∙ ap (λ (us : List X). cond (ties lt z x) (x ∷ us) us) (like-sorted z xs)

  -- ---- one list alone is in order, and has ties as they were

  like-itself : (x : X) → ties lt x x ≡ true
  like-itself x = ap (λ (b : Bool). not b && not b) (itself x)

  -- nothing above an element ties with one below it
  like-none : (z u : X) (us : List X) → Least u us → lt z u ≡ true → like z us ≡ []
  like-none z u [] least less = refl
  like-none z u (w ∷ us) least less = ap (λ (b : Bool). cond b (w ∷ like z us) (like z us)) (other (lt z w) refl) ∙ like-none z u us least.1 less
    where
      other : (b : Bool) → lt z w ≡ b → (not (lt z w) && not (lt w z)) ≡ false
      other true is = ap (λ (b : Bool). not b && not (lt w z)) is
      other false is = absurd (true≢false (sym less ∙ order.chain z w u is least.0))

  like-first : (x : X) (xs : List X) → like x (x ∷ xs) ≡ x ∷ like x xs
  like-first x xs = ap (λ (b : Bool). cond b (x ∷ like x xs) (like x xs)) (like-itself x)

  -- the first of one list isn't below the first of another one
  not-below : (u v : X) (us vs : List X) → Rising (u ∷ us) → ((z : X) → like z (u ∷ us) ≡ like z (v ∷ vs)) → lt v u ≡ false
  not-below u v us vs rising same = by (lt v u) refl
    where
      by : (b : Bool) → lt v u ≡ b → lt v u ≡ false
      by true is =
          let none : like v (u ∷ us) ≡ [] = like-none v u (u ∷ us) (itself u, rising.0) is in
          let one : [] ≡ v ∷ like v vs = sym none ∙ same v ∙ like-first v vs in
          cc
      by false is = is

  -- without the element that both have first
  others-same : (z u : X) (us vs : List X) (b : Bool) → cond b (u ∷ like z us) (like z us) ≡ cond b (u ∷ like z vs) (like z vs) → like z us ≡ like z vs
  others-same z u us vs true same = cc
  others-same z u us vs false same = same

  one-list : (us vs : List X) → Rising us → Rising vs → ((z : X) → like z us ≡ like z vs) → us ≡ vs
  one-list [] [] rises climbs same = refl
  one-list [] (v ∷ vs) rises climbs same = let one : [] ≡ v ∷ like v vs = same v ∙ like-first v vs in cc
  one-list (u ∷ us) [] rises climbs same = let one : u ∷ like u us ≡ [] = sym (like-first u us) ∙ same u in cc
  one-list (u ∷ us) (v ∷ vs) rises climbs same =
      let above : lt v u ≡ false = not-below u v us vs rises same in
      let below : lt u v ≡ false = not-below v u vs us climbs (λ z. sym (same z)) in
      let tied : ties lt u v ≡ true = ap₂ (λ (a b : Bool). not a && not b) below above in
      let firsts : u ∷ like u us ≡ v ∷ like u vs = sym (like-first u us) ∙ same u ∙ ap (λ (b : Bool). cond b (v ∷ like u vs) (like u vs)) tied in
      let first : u ≡ v = cc in
      let rest : us ≡ vs = one-list us vs rises.1 climbs.1 (λ z. others-same z u us vs (ties lt z u)
      (same z ∙ ap (λ (w : X). cond (ties lt z w) (w ∷ like z vs) (like z vs)) (sym first))) in
      ap₂ (λ (x : X) (xs : List X). x ∷ xs) first rest

  -- what a stable sort leaves
  pub sorted-alone : (xs ys : List X) → IsSortedBy lt ys → IsStableBy lt xs ys → ys ≡ sorted_by lt xs
  sorted-alone xs ys sorted stable =
      one-list ys (sorted_by lt xs) (rising-from ys (sorted_far lt order ys sorted)) (sorted-rises xs) (λ z. stable z ∙ sym (like-sorted z xs))

-- ---- what is made of their elements

module _ {X Y : Type 0} (f : X → Y) (lt : Y → Y → Bool) where
  with-made : (x : X) (ys : List X) → map f (with_element (λ a b. lt (f a) (f b)) x ys) ≡ with_element lt (f x) (map f ys)
  with-made x [] = refl
  with-made x (y ∷ ys) =
      elim (lt (f y) (f x)) as (λ b. map f (cond b (y ∷ with_element (λ a b. lt (f a) (f b)) x ys) (x ∷ y ∷ ys)) ≡ cond b (f y ∷ with_element lt (f x) (map f ys)) (f x ∷ f y ∷ map f ys)) [
        | true ↦ ap (λ (us : List Y). f y ∷ us) (with-made x ys)
        | false ↦ refl
      ]

  pub sorted-made : (xs : List X) → map f (sorted_by (λ a b. lt (f a) (f b)) xs) ≡ sorted_by lt (map f xs)
  sorted-made [] = refl
  sorted-made (x ∷ xs) = with-made x (sorted_by (λ a b. lt (f a) (f b)) xs) ∙ ap (with_element lt (f x)) (sorted-made xs)

-- ---- rows

module _ (options : Options) (is_descending numeric : Bool) (column : ℕ) where
  rows-alone : (rows : List (List Text)) → map (λ (pair : Ranked × List Text). pair.1) (map (with_rank options numeric column) rows) ≡ rows
  rows-alone [] = refl
  rows-alone (row ∷ rows) = ap (λ (others : List (List Text)). row ∷ others) (rows-alone rows)

  fields-of : (rows : List RankedRow) → map fields_of (map (λ (row : RankedRow). row.fields) rows) ≡ map (λ (pair : Ranked × List Text). pair.1) (map row_in rows)
  fields-of [] = refl
  fields-of (row ∷ rows) = ap (λ (others : List (List Text)). fields_of row.fields ∷ others) (fields-of rows)

  -- rows sorted by their ranks are sorted by their texts
  pub ranked-sorted : (rows : List (List Text)) (ranked sorted : List RankedRow) → map row_in ranked ≡ map (with_rank options numeric column) rows
      → sorted ≡ sorted_by (λ a b. is_lt (order_of is_descending (rank_in a.rank) (rank_in b.rank))) ranked
      → map fields_of (map (λ (row : RankedRow). row.fields) sorted) ≡ sorted_by (is_before options is_descending numeric column) rows
  ranked-sorted rows ranked sorted are is =
      let before : Ranked × List Text → Ranked × List Text → Bool = λ a b. is_lt (order_of is_descending a.0 b.0) in
      ap (λ (xs : List RankedRow). map fields_of (map (λ (row : RankedRow). row.fields) xs)) is
      ∙ fields-of (sorted_by (λ a b. before (row_in a) (row_in b)) ranked)
      ∙ ap (map (λ (pair : Ranked × List Text). pair.1)) (
      sorted-made row_in before ranked ∙ ap (sorted_by before) are
      ∙ sym (sorted-made (with_rank options numeric column) before rows))
      ∙ rows-alone (sorted_by (λ a b. before (with_rank options numeric column a) (with_rank options numeric column b)) rows)

-- Texts of digits, and of digits around a point, are numbers.
use Rattle.std.proofs.Common.{◌≡◌, ℕ, ◌-◌, ◌==◌, ◌&&◌, ◌||◌, not, Bool, true, false, nat_eq, nat_lt, List, [], ◌∷◌, length, None, Some, Option, cond, take, drop, get_or, refl, sym, ap, subst, arith, zero, suc, ◌+◌, ◌<◌, ◌≤◌, ◌∙◌, inl, inr, rules}
use Rattle.std.specs.List.{list_all, position, prefix_len}
use Rattle.std.specs.Io.BufRead.{strip_last}
use Rattle.std.proofs.lemmas.Bool.{and_parts, and_from, cases_Bool, true≢false}
use Rattle.std.proofs.lemmas.List.{take_all, length-drop}
use Rattle.std.proofs.lemmas.Option.{none-some, same_Some}
use Rattle.std.proofs.lemmas.Bool.Decides.{nat_tests}
use Rattle.pg_table.specs.Numbers.{is_digit, is_figure, are_digits, is_number, unsigned}
use Rattle.pg_table.proofs.numbers.is_simple.Goals as goal

-- no byte passes the test
none_passes : (p : ℕ → Bool) (bytes : List ℕ) → list_all (λ b. not (p b)) bytes ≡ true → position p bytes ≡ None
none_passes p bytes h = let all = whole bytes h in grind (arith, nat_tests, all)
  where
    whole : (bytes : List ℕ) → list_all (λ b. not (p b)) bytes ≡ true → prefix_len (λ b. not (p b)) bytes ≡ length bytes
    whole [] h = refl
    whole (b ∷ bytes) h = let parts = and_parts (not (p b)) (list_all (λ b. not (p b)) bytes) h in let rest = whole bytes parts.1 in rw parts.0 (omega (arith, rest))

-- what holds of each digit
digits_pass : (q : ℕ → Bool) → ((b : ℕ) → is_digit b ≡ true → q b ≡ true) → (bytes : List ℕ) → list_all is_digit bytes ≡ true → list_all q bytes ≡ true
digits_pass q each [] h = refl
digits_pass q each (b ∷ bytes) h = let parts = and_parts _ _ h in and_from _ _ (each b parts.0) (digits_pass q each bytes parts.1)

last_is_digit : (b : ℕ) (bytes : List ℕ) → list_all is_digit (b ∷ bytes) ≡ true → is_digit (get_or (b ∷ bytes) (length bytes) 0) ≡ true
last_is_digit b [] h = (and_parts _ _ h).0
last_is_digit b (d ∷ bytes) h = last_is_digit d bytes (and_parts _ _ h).1

no_sign : (b : ℕ) (bytes : List ℕ) → is_digit b ≡ true → unsigned (b ∷ bytes) ≡ b ∷ bytes
no_sign b bytes digit =
    let plus : nat_eq b 43 ≡ false = grind (arith, nat_tests, digit) in
    let minus : nat_eq b 45 ≡ false = grind (arith, nat_tests, digit) in
    let other : nat_eq b 226 ≡ false = grind (arith, nat_tests, digit) in
    rw (plus, minus, other) refl

never : (a : Bool) → (a && false) ≡ false
never true = refl
never false = refl

no_percent : (b : ℕ) (bytes : List ℕ) → list_all is_digit (b ∷ bytes) ≡ true → strip_last 37 (b ∷ bytes) ≡ b ∷ bytes
no_percent b bytes digits =
    let last = last_is_digit b bytes digits in
    let not_percent : (get_or (b ∷ bytes) (length bytes) 0 == 37) ≡ false = grind (arith, nat_tests, last) in
    let end : length (b ∷ bytes) - 1 ≡ length bytes = omega arith in
    rw (end, not_percent, never (nat_lt 0 (length (b ∷ bytes)))) refl

no_mark : (b : ℕ) → is_digit b ≡ true → not ((b == 101) || (b == 69)) ≡ true
no_mark b digit = grind (arith, nat_tests, digit)

no_point : (b : ℕ) → is_digit b ≡ true → not (b == 46) ≡ true
no_point b digit = grind (arith, nat_tests, digit)

figure : (b : ℕ) → is_digit b ≡ true → is_figure b ≡ true
figure b digit = rw digit refl

digits-number : (text : List ℕ) → are_digits text ≡ true → is_number text ≡ true
unfolding is_number
digits-number [] h = h
digits-number (b ∷ bytes) h =
    let digits : list_all is_digit (b ∷ bytes) ≡ true = (and_parts (not (length (b ∷ bytes) == 0)) (list_all is_digit (b ∷ bytes)) h).1 in
    let parts = and_parts (is_digit b) (list_all is_digit bytes) digits in
    let unmarked = none_passes (λ b. (b == 101) || (b == 69)) (b ∷ bytes) (digits_pass (λ b. not ((b == 101) || (b == 69))) no_mark (b ∷ bytes) digits) in
    let pointless = none_passes (λ b. b == 46) (b ∷ bytes) (digits_pass (λ b. not (b == 46)) no_point (b ∷ bytes) digits) in
    rw (no_sign b bytes parts.0, no_percent b bytes digits, unmarked, pointless) (and_from (is_digit b) (list_all is_figure bytes) parts.0 (digits_pass is_figure figure bytes parts.1))

-- ---- digits around a point

-- the digits in front
front_digits : (text : List ℕ) → list_all is_digit (take (prefix_len (λ b. not (not (is_digit b))) text) text) ≡ true
front_digits [] = refl
front_digits (b ∷ bytes) =
    let n : ℕ = prefix_len (λ (b : ℕ). not (not (is_digit b))) bytes in
    let more : 1 + n ≡ suc n = omega arith in
    elim (cases_Bool (is_digit b)) [
      | inl digit ↦ rw (digit, more) (and_from (is_digit b) (list_all is_digit (take n bytes)) digit (front_digits bytes))
      | inr other ↦ rw other refl
    ]

digits-end : (text : List ℕ) (end : ℕ) → position (λ b. not (is_digit b)) text ≡ Some end → list_all is_digit (take end text) ≡ true
digits-end text end is =
    let n : ℕ = prefix_len (λ (b : ℕ). not (not (is_digit b))) text in
    elim (cases_Bool (nat_lt n (length text))) [
      | inl below ↦ subst (λ (k : ℕ). list_all is_digit (take k text) ≡ true) (same_Some n end (sym (ap (λ (b : Bool). cond b (Some n) None) below) ∙ is)) (front_digits text)
      | inr above ↦ absurd (none-some end (sym (ap (λ (b : Bool). cond b (Some n) None) above) ∙ is))
    ]

digits-all : (text : List ℕ) → position (λ b. not (is_digit b)) text ≡ None → list_all is_digit text ≡ true
digits-all text none =
    let n : ℕ = prefix_len (λ (b : ℕ). not (not (is_digit b))) text in
    elim (cases_Bool (nat_lt n (length text))) [
      | inl below ↦ absurd (none-some n (sym none ∙ ap (λ (b : Bool). cond b (Some n) None) below))
      | inr above ↦
          let all : length text ≤ n = grind (arith, nat_tests, above) in
          ap (list_all is_digit) (sym (take_all n text all)) ∙ front_digits text
    ]

-- a text has digits up to a place, a point there, and digits behind it
record Parted (text : List ℕ) (end : ℕ) : Type 0 where
  within : end < length text
  front : list_all is_digit (take end text) ≡ true
  point : get_or text end 0 ≡ 46
  back : are_digits (drop (end + 1) text) ≡ true

behind_first : (b : ℕ) (bytes : List ℕ) (end : ℕ) → Parted (b ∷ bytes) (suc end) → Parted bytes end
behind_first b bytes end parted =
    let next : suc end + 1 ≡ suc (end + 1) = omega arith in
    record {
      within = omega (arith, parted.within);
      front = (and_parts (is_digit b) (list_all is_digit (take end bytes)) parted.front).1;
      point = parted.point;
      back = rw next at parted.back;
    }

-- what holds of each digit and of a point
parted_pass : (q : ℕ → Bool) → ((b : ℕ) → is_digit b ≡ true → q b ≡ true) → q 46 ≡ true → (text : List ℕ) (end : ℕ) → Parted text end → list_all q text ≡ true
parted_pass q each point [] end parted = refl
parted_pass q each point (b ∷ bytes) zero parted =
    and_from (q b) (list_all q bytes) (ap q parted.point ∙ point) (digits_pass q each bytes (and_parts _ _ parted.back).1)
parted_pass q each point (b ∷ bytes) (suc end) parted =
    and_from (q b) (list_all q bytes) (each b (and_parts _ _ parted.front).0) (parted_pass q each point bytes end (behind_first b bytes end parted))

some_digits : (bytes : List ℕ) → are_digits bytes ≡ true → 0 < length bytes
some_digits [] h = absurd (true≢false (sym h))
some_digits (b ∷ bytes) h = omega arith

ends_digit : (text : List ℕ) (end last : ℕ) → Parted text end → last + 1 ≡ length text → is_digit (get_or text last 0) ≡ true
ends_digit [] end last parted is = absurd (omega (arith, is))
ends_digit (b ∷ []) zero last parted is = absurd (omega (arith, some_digits [] parted.back))
ends_digit (b ∷ d ∷ bytes) zero zero parted is = absurd (omega (arith, is))
ends_digit (b ∷ d ∷ bytes) zero (suc last) parted is =
    let same : last ≡ length bytes = omega (arith, is) in
    rw same (last_is_digit d bytes (and_parts _ _ parted.back).1)
ends_digit (b ∷ bytes) (suc end) zero parted is = absurd (omega (arith, is, parted.within))
ends_digit (b ∷ bytes) (suc end) (suc last) parted is = ends_digit bytes end last (behind_first b bytes end parted) (omega (arith, is))

before_point : (text : List ℕ) (end : ℕ) → Parted text end → prefix_len (λ b. not (b == 46)) text ≡ end
before_point [] end parted = absurd (omega (arith, parted.within))
before_point (b ∷ bytes) zero parted = rw parted.point refl
before_point (b ∷ bytes) (suc end) parted =
    let other : not (b == 46) ≡ true = no_point b (and_parts _ _ parted.front).0 in
    rw other (omega (arith, before_point bytes end (behind_first b bytes end parted)))

or_right : (a b : Bool) → b ≡ true → (a || b) ≡ true
or_right true b h = refl
or_right false b h = h

parted-number : (text : List ℕ) (end : ℕ) → 0 < end → Parted text end → is_number text ≡ true
unfolding is_number
parted-number [] end some parted = absurd (omega (arith, parted.within))
parted-number (b ∷ bytes) zero some parted = absurd (omega (arith, some))
parted-number (b ∷ bytes) (suc end) some parted =
    let digits = and_parts (is_digit b) (list_all is_digit (take end bytes)) parted.front in
    let last = ends_digit (b ∷ bytes) (suc end) (length bytes) parted (omega arith) in
    let not_percent : (get_or (b ∷ bytes) (length bytes) 0 == 37) ≡ false = grind (arith, nat_tests, last) in
    let final : length (b ∷ bytes) - 1 ≡ length bytes = omega arith in
    let whole : strip_last 37 (b ∷ bytes) ≡ b ∷ bytes = rw (final, not_percent, never (nat_lt 0 (length (b ∷ bytes)))) refl in
    let unmarked = none_passes (λ b. (b == 101) || (b == 69)) (b ∷ bytes) (parted_pass (λ b. not ((b == 101) || (b == 69))) no_mark refl (b ∷ bytes) (suc end) parted) in
    let before = before_point (b ∷ bytes) (suc end) parted in
    let point : position (λ b. b == 46) (b ∷ bytes) ≡ Some (suc end) = grind (arith, nat_tests, before, parted.within) in
    rw (no_sign b bytes digits.0, whole, unmarked, point)
    (and_from ((suc end == 0) || (is_digit b && list_all is_figure (take end bytes))) (are_digits (drop (suc end + 1) (b ∷ bytes)))
    (or_right (suc end == 0) (is_digit b && list_all is_figure (take end bytes)) (and_from (is_digit b) (list_all is_figure (take end bytes)) digits.0 (digits_pass is_figure figure (take end bytes) digits.1)))
    parted.back)

decimal-number : (text : List ℕ) (end : ℕ) → 0 < end → end < length text → list_all is_digit (take end text) ≡ true → get_or text end 0 ≡ 46 → are_digits (drop (end + 1) text) ≡ true
    → is_number text ≡ true
decimal-number text end some within front point back = parted-number text end some (record { within = within; front = front; point = point; back = back })

pub returns-in-None : goal.returns-in-None
returns-in-None c = λ some.
    let text = c.args.text.now in
    let any : not (length text == 0) ≡ true = search (rules, some) in
    digits-number text (and_from (not (length text == 0)) (list_all is_digit text) any (digits-all text (sym c.in-None.ensures.place)))

pub returns-then-text-end-eq46 : goal.returns-then-text-end-eq46
returns-then-text-end-eq46 c = λ back.
    let text = c.args.text.now in
    let end = c.in-Some.end in
    let point : get_or text end 0 ≡ 46 = search rules in
    let whole : take (length text - (end + 1)) (drop (end + 1) text) ≡ drop (end + 1) text = take_all (length text - (end + 1)) (drop (end + 1) text) (omega (arith, length-drop (end + 1) text)) in
    let rest : are_digits (drop (end + 1) text) ≡ true = ap are_digits (sym whole) ∙ sym c.are_digits.ensures ∙ back in
    decimal-number text end (omega arith) c.in-Some.ensures.within (digits-end text end (sym c.in-Some.ensures.place)) point rest

-- Plain bytes, told by blocks of them.
use Rattle.std.proofs.Common.{◌≡◌, ◌&&◌, eqb, ◌+◌, ◌-◌, ◌≤◌, ◌==◌, ◌^◌, ◌%◌, ◌*◌, ℕ, Bool, true, false, not, nat_lt, cond, List, [], ◌∷◌, length, take, drop, map, replicate, refl, sym, ◌∙◌, ap, w8, arith}
use Rattle.std.specs.List.{list_all}
use Rattle.std.proofs.lemmas.Bool.{and_from, and_parts, both_ways, eq-eqb, eqb-true, ne_eqb}
use Rattle.std.proofs.Math.Seq.{take-add}
use Rattle.std.proofs.lemmas.List.{drop-drop, length-drop, length-map, take-append-drop, take_all}
use Rattle.std.proofs.lemmas.Bool.Decides.{nat_tests}
use Rattle.std.proofs.lemmas.List.Folds.{list_all-append}
use Rattle.std.proofs.lemmas.Simd.{bitmask_splat, length-chunk, mask_l-mod, tops_compared, zip2_splat_left}
use lib.Lanes.{zip2, mask_l, top, chunk}
use mir.Val.{hbits, bits}
use Rattle.pg_layout.specs.Text.{Text, is_plain_byte}

-- ---- two tests that agree

equal_tests : (a b : Bool) → (a ≡ true → b ≡ true) → (b ≡ true → a ≡ true) → a ≡ b
equal_tests true b there back = sym (there refl)
equal_tests false true there back = back refl
equal_tests false false there back = refl

pub false_where_part_is : (all part : Bool) → (all ≡ true → part ≡ true) → part ≡ false → false ≡ all
false_where_part_is false part there fails = refl
false_where_part_is true part there fails = absurd (both_ways part fails (there refl))

pub same_both : {a b c d : Bool} → a ≡ b → c ≡ d → (a && c) ≡ (b && d)
same_both {b = b} {c = c} first second = ap (λ v. v && c) first ∙ ap (λ v. b && v) second

-- ---- all bytes of a text and of its parts

module _ (p : ℕ → Bool) where
  all_of_both : (i : ℕ) (bs : Text) → list_all p bs ≡ true → (list_all p (take i bs) ≡ true) × (list_all p (drop i bs) ≡ true)
  all_of_both i bs h = and_parts _ _ (sym (list_all-append p (take i bs) (drop i bs)) ∙ ap (list_all p) (take-append-drop i bs) ∙ h)

  pub all_of_chunk : (i n : ℕ) (bs : Text) → list_all p bs ≡ true → list_all p (chunk i n bs) ≡ true
  all_of_chunk i n bs h = (all_of_both n (drop i bs) (all_of_both i bs h).1).0

  -- what the front lacks is behind the other place
  all_from_parts : (i j : ℕ) (bs : Text) → j ≤ i → list_all p (take i bs) ≡ true → list_all p (drop j bs) ≡ true → list_all p bs ≡ true
  all_from_parts i j bs order front back =
      let rest : list_all p (drop i bs) ≡ true = ap (λ k. list_all p (drop k bs)) (omega arith) ∙ ap (list_all p) (sym (drop-drop (i - j) j bs)) ∙ (all_of_both (i - j) (drop j bs) back).1 in
      ap (list_all p) (sym (take-append-drop i bs)) ∙ list_all-append p (take i bs) (drop i bs) ∙ and_from _ _ front rest

  -- the last n bytes are a block
  all_of_last : (n : ℕ) (bs : Text) → n ≤ length bs → list_all p (chunk (length bs - n) n bs) ≡ list_all p (drop (length bs - n) bs)
  all_of_last n bs le = ap (list_all p) (take_all n (drop (length bs - n) bs) (omega (arith, length-drop (length bs - n) bs)))

  -- a block at the front and one at the end hold all
  pub all_by_ends : (n : ℕ) (bs : Text) → n ≤ length bs → length bs ≤ n + n → (list_all p (chunk 0 n bs) && list_all p (chunk (length bs - n) n bs)) ≡ list_all p bs
  all_by_ends n bs le most =
      equal_tests _ _
      (λ h. let both = and_parts _ _ h in all_from_parts n (length bs - n) bs (omega arith) both.0 (sym (all_of_last n bs le) ∙ both.1))
      (λ h. and_from _ _ (all_of_chunk 0 n bs h) (all_of_chunk (length bs - n) n bs h))

  -- a block more
  pub all_of_more : (i n : ℕ) (bs : Text) → list_all p (take i bs) ≡ true → list_all p (chunk i n bs) ≡ true → list_all p (take (i + n) bs) ≡ true
  all_of_more i n bs front more =
      ap (list_all p) (take-add i n bs) ∙ list_all-append p (take i bs) (chunk i n bs) ∙ and_from _ _ front more

  -- behind blocks that pass, the last one decides
  pub all_by_last : (i n : ℕ) (bs : Text) → n ≤ length bs → length bs ≤ i + n → list_all p (take i bs) ≡ true → list_all p (chunk (length bs - n) n bs) ≡ list_all p bs
  all_by_last i n bs le most front =
      equal_tests _ _
      (λ h. all_from_parts i (length bs - n) bs (omega arith) front (sym (all_of_last n bs le) ∙ h))
      (λ h. all_of_chunk (length bs - n) n bs h)

-- ---- the test of a block

-- no bit is set where no lane passes
no_bits : (p : ℕ → Bool) (xs : List ℕ) → eqb (mask_l (map p xs)) 0 ≡ list_all (λ x. not (p x)) xs
no_bits p [] = refl
no_bits p (x ∷ xs) = with_lane (p x) (mask_l (map p xs)) ∙ ap (λ v. not (p x) && v) (no_bits p xs)
  where
    twice : (m : ℕ) → eqb (2 * m) 0 ≡ eqb m 0
    twice m = equal_tests _ _ (λ h. eq-eqb m 0 (omega (arith, eqb-true (2 * m) 0 h))) (λ h. eq-eqb (2 * m) 0 (omega (arith, eqb-true m 0 h)))

    with_lane : (b : Bool) (m : ℕ) → eqb (cond b 1 0 + 2 * m) 0 ≡ (not b && eqb m 0)
    with_lane true m = ne_eqb (1 + 2 * m) 0 (λ same. omega (arith, same))
    with_lane false m = ap (λ k. eqb k 0) (omega arith) ∙ twice m

in_turn : (f r g s : Bool) → ((f && r) && (g && s)) ≡ ((g && f) && (r && s))
in_turn true r true s = refl
in_turn true true false s = refl
in_turn true false false s = refl
in_turn false r true s = refl
in_turn false r false s = refl

low : (b : ℕ) → not (nat_lt 127 b) ≡ nat_lt b 128
low b = equal_tests _ _ (λ h. grind (arith, nat_tests)) (λ h. grind (arith, nat_tests))

two_tests : (bs : List ℕ) → (list_all (λ b. not (b == 10)) bs && list_all (λ b. not (nat_lt 127 b)) bs) ≡ list_all is_plain_byte bs
two_tests [] = refl
two_tests (b ∷ bs) = in_turn (not (b == 10)) _ (not (nat_lt 127 b)) _ ∙ same_both (ap (λ v. v && not (b == 10)) (low b)) (two_tests bs)

-- the two masks of a block, as they are compared
pub block_test : (bs : Text) (i n : ℕ) → n ≤ 64 → i + n ≤ length bs
    → (eqb (mask_l (map (top (hbits w8)) (zip2 (λ a b. cond (eqb a b) (2 ^ bits w8 - 1) 0) (chunk i n bs) (replicate n 10))) % 2 ^ 64) 0
    && eqb (mask_l (map (top (hbits w8)) (zip2 (λ a b. cond (nat_lt a b) (2 ^ bits w8 - 1) 0) (replicate n 127) (chunk i n bs))) % 2 ^ 64) 0)
    ≡ list_all is_plain_byte (chunk i n bs)
block_test bs i n le room =
    let xs : List ℕ = chunk i n bs in
    let long : length xs ≡ n = length-chunk i n bs room in
    let feeds = ap (λ m. eqb m 0) (bitmask_splat w8 eqb xs n 10 long le) ∙ no_bits (λ b. b == 10) xs in
    let above = ap (λ ms. eqb (mask_l ms % 2 ^ 64) 0) (tops_compared w8 nat_lt (replicate n 127) xs ∙ zip2_splat_left nat_lt 127 n xs long)
    ∙ ap (λ m. eqb m 0) (mask_l-mod (map (λ b. nat_lt 127 b) xs) 64 (omega (arith, length-map xs (λ b. nat_lt 127 b)))) ∙ no_bits (λ b. nat_lt 127 b) xs in
    same_both feeds above ∙ two_tests xs

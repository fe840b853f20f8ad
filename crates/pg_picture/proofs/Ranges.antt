-- Lists and sums over the numbers from a on, and sums of sizes that may not fit.
use Rattle.std.proofs.Common.{◌≡◌, ℕ, suc, ◌+◌, ◌-◌, ◌<◌, ◌≤◌, List, [], ◌∷◌, ◌++◌, flat_map, sum_by, ap, ap₂, ◌∙◌, append-nil, arith, zero-add, subst, ◌^◌, true, false, nat_lt, refl, sym, Option, Some, None, IsSome, inl, inr}
use Rattle.std.specs.List.{range_with_len}
use Rattle.std.proofs.lemmas.List.Concat.{flat_map-append}
use Rattle.std.proofs.lemmas.List.Sums.{sum_by-append}
pub use Rattle.pg_config.proofs.CoveredPlaces.{range-add, sum_by-from_more}
use Rattle.std.proofs.lemmas.Bool.{cases_lt}
use Rattle.std.proofs.lemmas.Bool.Decides.{nat_tests}
use Rattle.pg_picture.specs.Sizes.{if_fits}

-- ---- lists and sums over the numbers from a on: one number more, and a cut at one of them

-- the parts of k + 1 numbers from a on: those of k of them, and one more
pub range-more : {A : Type 0} (f : ℕ → List A) (a k : ℕ) → flat_map f (range_with_len a (k + 1)) ≡ flat_map f (range_with_len a k) ++ f (a + k)
range-more f a k =
    ap (λ l. flat_map f l) (range-add a k 1)
    ∙ flat_map-append f (range_with_len a k) ((a + k) ∷ [])
    ∙ ap (λ l. flat_map f (range_with_len a k) ++ l) (append-nil (f (a + k)))

-- the parts of n numbers from a on, cut at one of them
pub range-cut : {A : Type 0} (f : ℕ → List A) (a k n : ℕ) → k < n → flat_map f (range_with_len a n) ≡ flat_map f (range_with_len a k) ++ (f (a + k) ++ flat_map f (range_with_len (a + k + 1) (n - (k + 1))))
range-cut f a k n here =
    let all : n ≡ k + suc (n - (k + 1)) = omega arith in
    ap (λ m. flat_map f (range_with_len a m)) all
    ∙ ap (λ l. flat_map f l) (range-add a k (suc (n - (k + 1))))
    ∙ flat_map-append f (range_with_len a k) (range_with_len (a + k) (suc (n - (k + 1))))

-- the sum over k + 1 numbers
pub sum_by-range_more : (f : ℕ → ℕ) (k : ℕ) → sum_by f (range_with_len 0 (k + 1)) ≡ sum_by f (range_with_len 0 k) + f k
sum_by-range_more f k =
    ap (λ l. sum_by f l) (range-add 0 k 1)
    ∙ sum_by-append f (range_with_len 0 k) ((0 + k) ∷ [])
    ∙ ap (λ n. sum_by f (range_with_len 0 k) + n) (zero-add (f (0 + k)) ∙ ap f (zero-add k))

-- a partial sum is at most the whole one
pub sum_by-range_le : (f : ℕ → ℕ) (k n : ℕ) → k < n → sum_by f (range_with_len 0 k) + f k ≤ sum_by f (range_with_len 0 n)
sum_by-range_le f k n h =
    let e : (k + 1) + (n - (k + 1)) ≡ n = omega arith in
    let s : sum_by f (range_with_len 0 n) ≡ (sum_by f (range_with_len 0 k) + f k) + sum_by f (range_with_len (k + 1) (n - (k + 1))) =
    subst (λ m. sum_by f (range_with_len 0 m) ≡ (sum_by f (range_with_len 0 k) + f k) + sum_by f (range_with_len (k + 1) (n - (k + 1)))) e
    (ap (λ l. sum_by f l) (range-add 0 (k + 1) (n - (k + 1)))
    ∙ sum_by-append f (range_with_len 0 (k + 1)) (range_with_len (0 + (k + 1)) (n - (k + 1)))
    ∙ ap₂ (λ (x : ℕ) (a : ℕ). x + sum_by f (range_with_len a (n - (k + 1)))) (sum_by-range_more f k) (zero-add (k + 1))) in
    omega (arith, s)

-- ---- sums of sizes that may not fit

-- what is at least 2 ^ 64 doesn't fit
pub if_fits-past : (n : ℕ) → 2 ^ 64 ≤ n → if_fits n ≡ None
if_fits-past n h = let e : nat_lt n (2 ^ 64) ≡ false = grind (arith, nat_tests, h) in rw e refl

pub if_fits-below : (n : ℕ) → n < 2 ^ 64 → if_fits n ≡ Some n
if_fits-below n h = let e : nat_lt n (2 ^ 64) ≡ true = grind (arith, nat_tests, h) in rw e refl

-- an answer that is there
pub some_answer : {answer : Option ℕ} (n : ℕ) → n < 2 ^ 64 → answer ≡ if_fits n → answer ≡ Some n
some_answer n small is = is ∙ if_fits-below n small

pub is_some_answer : {answer : Option ℕ} {n : ℕ} → answer ≡ Some n → IsSome answer
is_some_answer {answer} is = let P : Option ℕ → Type 0 = λ o. IsSome o in subst P (sym is) refl

-- what doesn't fit leaves nothing above it that does
pub if_fits-above : (n m : ℕ) → (n < 2 ^ 64 → ⊥) → n ≤ m → if_fits m ≡ None
if_fits-above n m h l = elim (cases_lt n (2 ^ 64)) [ inl y ↦ absurd (h y) | inr g ↦ if_fits-past m (omega (arith, g, l)) ]

-- a sum cut at a number
pub sum_by-from_cut : (f : ℕ → ℕ) (a k n : ℕ) → k ≤ n → sum_by f (range_with_len a n) ≡ sum_by f (range_with_len a k) + sum_by f (range_with_len (a + k) (n - k))
sum_by-from_cut f a k n h =
    let e : k + (n - k) ≡ n = omega arith in
    subst (λ m. sum_by f (range_with_len a m) ≡ sum_by f (range_with_len a k) + sum_by f (range_with_len (a + k) (n - k))) e
    (ap (λ l. sum_by f l) (range-add a k (n - k)) ∙ sum_by-append f (range_with_len a k) (range_with_len (a + k) (n - k)))

-- a partial sum is at most the whole one
pub sum_by-from_le : (f : ℕ → ℕ) (a k n : ℕ) → k < n → sum_by f (range_with_len a k) + f (a + k) ≤ sum_by f (range_with_len a n)
sum_by-from_le f a k n h = omega (arith, sum_by-from_cut f a (k + 1) n (omega arith), sum_by-from_more f a k)

-- a sum over a part of the numbers is at most the whole one
pub sum_by-part_le : (f : ℕ → ℕ) (a k n : ℕ) → a + k ≤ n → sum_by f (range_with_len a k) ≤ sum_by f (range_with_len 0 n)
sum_by-part_le f a k n h =
    let front = sum_by-from_cut f 0 a n (omega arith) in
    let rest = sum_by-from_cut f (0 + a) k (n - a) (omega arith) in
    let z : 0 + a ≡ a = omega arith in
    let r2 = subst (λ b. sum_by f (range_with_len b (n - a)) ≡ sum_by f (range_with_len b k) + sum_by f (range_with_len (b + k) (n - a - k))) z rest in
    let f2 = subst (λ b. sum_by f (range_with_len 0 n) ≡ sum_by f (range_with_len 0 a) + sum_by f (range_with_len b (n - a))) z front in
    omega (arith, r2, f2)

-- How appends add up, how a text is cut inside a loop, and a separator that is kept.
use Rattle.std.proofs.Common.{◌≡◌, ℕ, suc, ◌+◌, ◌-◌, ◌<◌, ◌≤◌, List, [], ◌∷◌, ◌++◌, length, length-take, take, drop, Result, Ok, Err, IsErr, string_bytes, string_capacity, String, append_assoc, append-nil, length-append, arith, sym, ◌∙◌, ap, subst, flat_map, replicate, get_or, Option, Some, None, IfSome}
use Rattle.std.proofs.lemmas.List.{replicate-append-replicate, take-append-le, take-append-drop}
use Rattle.std.proofs.lemmas.List.Concat.{flat_map-append}
use Rattle.std.proofs.Math.Seq.{drop-cons, take-append-add, drop-append_seam}
use Rattle.pg_picture.specs.Appending.{Appends, GainedBeginning}
use Rattle.std.specs.Borrow.{Bor}
use Rattle.std.specs.Option.{option_map}

-- ---- how appends add up, and how a text is cut where a loop stands

-- the buffer has gained the text, with no refusal so far
pub record Gained {Z : Type 0} (old new : String Z) (text : List ℕ) : Type 0 where
  -- the old bytes, and then the text
  pub bytes : string_bytes new ≡ string_bytes old ++ text
  -- no room is lost
  pub capacity : string_capacity old ≤ string_capacity new

-- a beginning of a text is one of each longer text
begins-longer : (x s t : List ℕ) → x ≡ take (length x) s → x ≡ take (length x) (s ++ t)
begins-longer x s t begins =
    let short : length x ≤ length s = omega (arith, ap length begins, length-take (length x) s) in
    begins ∙ sym (take-append-le (length x) s t short)

module _ {Z U V E F : Type 0} where
  infixr 5 ◌then◌
  -- an append that succeeded, and the next
  pub ◌then◌ : {a b c : String Z} {u : U} {r : Result V F} {s t : List ℕ} → Appends {U = U} {E = E} a b (Ok u) s → Appends b c r t → Appends a c r (s ++ t)
  ◌then◌ {a} {b} {c} {r = Ok v} {s} {t} p q = record { ok = q.ok ∙ ap (λ x. x ++ t) p.ok ∙ append_assoc (string_bytes a) s t; err = tt; longer = omega arith; full = tt; capacity = omega arith }
  ◌then◌ {a} {b} {c} {r = Err e} {s} {t} p q = record {
    ok = tt;
    err = q.err ∙ ap (λ x. take (length (string_bytes c)) x) (ap (λ x. x ++ t) p.ok ∙ append_assoc (string_bytes a) s t);
    longer = omega arith;
    full = omega (arith, length-append s t, length-append (string_bytes a) s, ap length p.ok, q.full);
    capacity = omega arith;
  }

  -- an append that was refused, and so was a longer one, with a result of any type
  pub stopped : {a b : String Z} {e : E} {r : Result V F} {s : List ℕ} (t : List ℕ) → IsErr r → Appends {U = U} {E = E} a b (Err e) s → Appends a b r (s ++ t)
  stopped {a} {b} {r = Err f} {s} t failed p = record {
    ok = tt;
    err = begins-longer _ _ t p.err ∙ ap (λ x. take (length (string_bytes b)) x) (append_assoc (string_bytes a) s t);
    longer = p.longer;
    full = omega (arith, length-append s t, p.full);
    capacity = p.capacity;
  }
  stopped {r = Ok v} t failed p = cc

  -- an append that was refused, under a result of another type
  pub refused-as : {a b : String Z} {e : E} {r : Result V F} {s : List ℕ} → IsErr r → Appends {U = U} {E = E} a b (Err e) s → Appends a b r s
  refused-as {r = Err f} failed p = record { ok = tt; err = p.err; longer = p.longer; full = p.full; capacity = p.capacity }
  refused-as {r = Ok v} failed p = cc

  -- an append that succeeded, under a result of another type
  pub appended-as : {a b : String Z} {u : U} {v : V} {s : List ℕ} → Appends {U = U} {E = E} a b (Ok u) s → Appends {U = V} {E = F} a b (Ok v) s
  appended-as p = record { ok = p.ok; err = tt; longer = p.longer; full = tt; capacity = p.capacity }

module _ {Z U E : Type 0} where
  -- the same append, of a text that is equal
  pub Appends-text : {a b : String Z} {r : Result U E} {s t : List ℕ} → s ≡ t → Appends a b r s → Appends a b r t
  Appends-text {a} {b} {r} is p = let P : List ℕ → Type 0 = λ x. Appends a b r x in subst P is p

  -- a refused call has left a beginning of its text
  pub Appends-beginning : {a b : String Z} {e : E} {s : List ℕ} → Appends {U = U} {E = E} a b (Err e) s → GainedBeginning a b s
  Appends-beginning {a} {b} {e} {s} p =
      let gained : ℕ = length (string_bytes b) - length (string_bytes a) in
      let all : length (string_bytes b) ≡ length (string_bytes a) + gained = omega arith in
      record {
        beginning = take gained s;
        begins = record { rest = drop gained s; is = sym (take-append-drop gained s) };
        bytes = p.err ∙ ap (λ n. take n (string_bytes a ++ s)) all ∙ take-append-add (string_bytes a) s gained;
      }

-- ---- loops

module _ {Z : Type 0} where
  -- nothing yet
  pub Gained-none : (a : String Z) → Gained a a []
  Gained-none a = record { bytes = sym (append-nil (string_bytes a)); capacity = omega arith }

  -- the same gain, of a text that is equal
  pub Gained-text : {a b : String Z} {s t : List ℕ} → s ≡ t → Gained a b s → Gained a b t
  Gained-text {a} {b} is p = let P : List ℕ → Type 0 = λ x. Gained a b x in subst P is p

module _ {Z U E : Type 0} where
  -- one append more
  pub Gained-more : {a b c : String Z} {u : U} {s t : List ℕ} → Gained a b s → Appends {U = U} {E = E} b c (Ok u) t → Gained a c (s ++ t)
  Gained-more {a} {b} {c} {u} {s} {t} p q = record { bytes = q.ok ∙ ap (λ x. x ++ t) p.bytes ∙ append_assoc (string_bytes a) s t; capacity = omega arith }

  -- what was gained is what a call appends that succeeds
  pub Gained-all : {a b : String Z} {u : U} {s : List ℕ} → Gained a b s → Appends {U = U} {E = E} a b (Ok u) s
  Gained-all {a} {b} {u} {s} p = record { ok = p.bytes; err = tt; longer = omega (arith, length-append (string_bytes a) s, ap length p.bytes); full = tt; capacity = p.capacity }

  -- an append that succeeded is a gain
  pub Appends-gained : {a b : String Z} {u : U} {s : List ℕ} → Appends {U = U} {E = E} a b (Ok u) s → Gained a b s
  Appends-gained p = record { bytes = p.ok; capacity = p.capacity }

module _ {Z U E : Type 0} where
  -- what a loop gained, and an append after it
  pub gained-then : {a b c : String Z} {r : Result U E} {s t : List ℕ} → Gained a b s → Appends b c r t → Appends a c r (s ++ t)
  gained-then {a} {b} {c} {r} {s} {t} p q = let before : Appends {U = Unit {0}} {E = E} a b (Ok tt) s = Gained-all p in before then q

module _ {Z U V E F : Type 0} where
  -- a loop that was refused in its body: the text is what was gained, the body's text and the rest
  pub refused : {a b c : String Z} {e : E} {r : Result V F} {s t : List ℕ} (rest : List ℕ) {all : List ℕ} → all ≡ s ++ (t ++ rest) → IsErr r → Gained a b s → Appends {U = U} {E = E} b c (Err e) t → Appends a c r all
  refused {r} {s} {t} rest is failed p q =
      let here : Appends _ _ r (t ++ rest) = stopped rest failed q in
      Appends-text (sym is) (gained-then p here)

-- ---- the text of parts, cut at one of them

-- the parts before it, the part, and those after it
pub parts-cut : {X A : Type 0} (f : X → List A) (xs : List X) (k : ℕ) (d : X) → k < length xs → flat_map f xs ≡ flat_map f (take k xs) ++ (f (get_or xs k d) ++ flat_map f (drop (suc k) xs))
parts-cut f xs k d here =
    ap (λ y. flat_map f y) (sym (take-append-drop k xs))
    ∙ flat_map-append f (take k xs) (drop k xs)
    ∙ ap (λ y. flat_map f (take k xs) ++ flat_map f y) (drop-cons xs k d here)

-- the parts of n equal things, cut at one of them
pub run-cut : {X A : Type 0} (f : X → List A) (c : X) (k n : ℕ) → k < n → flat_map f (replicate n c) ≡ flat_map f (replicate k c) ++ (f c ++ flat_map f (replicate (n - (k + 1)) c))
run-cut f c k n here =
    let all : n ≡ k + suc (n - (k + 1)) = omega arith in
    ap (λ m. flat_map f (replicate m c)) all
    ∙ ap (λ l. flat_map f l) (sym (replicate-append-replicate k (suc (n - (k + 1))) c))
    ∙ flat_map-append f (replicate k c) (c ∷ replicate (n - (k + 1)) c)

-- ---- a separator that is kept is what was appended, and what is appended again

-- what a buffer has behind its old end is what was appended
pub text-from : {Z U E : Type 0} {a b : String Z} {u : U} {text : List ℕ} (from : ℕ) → from ≡ length (string_bytes a) → Appends {U = U} {E = E} a b (Ok u) text → drop from (string_bytes b) ≡ text
text-from {a = a} {b = b} {text = text} from is appended =
    ap (λ (n : ℕ). drop n (string_bytes b)) is
    ∙ ap (λ (bytes : List ℕ). drop (length (string_bytes a)) bytes) (Appends-gained appended).bytes
    ∙ drop-append_seam (string_bytes a) text

-- what is known of a kept text is known of the text that its keeper lends
pub lent-text : (P : List ℕ → Type 0) (lent : Option (Bor (List ℕ))) (kept : Option (List ℕ)) (text : Bor (List ℕ)) → option_map (λ (b : Bor (List ℕ)). b.now) lent ≡ kept → lent ≡ Some text → IfSome kept P → P text.now
lent-text P lent kept text same is known =
    let some : kept ≡ Some text.now = sym same ∙ ap (λ (o : Option (Bor (List ℕ))). option_map (λ (b : Bor (List ℕ)). b.now) o) is in
    subst (λ (o : Option (List ℕ)). IfSome o P) some known

-- what is known of a text is known of what is kept of it
pub kept-text : (P : List ℕ → Type 0) (kept : Option (List ℕ)) (text : List ℕ) → IfSome kept (λ (x : List ℕ). x ≡ text) → P text → IfSome kept P
kept-text P None text same known = tt
kept-text P (Some x) text same known = subst P (sym same) known

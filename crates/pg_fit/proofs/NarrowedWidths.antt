-- Narrowed widths: levels, what is left of the room, and rows by the widths of their columns.
use Rattle.std.proofs.Common.{◌≡◌, ◌⊎◌, ℕ, ◌+◌, ◌<◌, ◌≤◌, nat_lt, List, [], ◌∷◌, get_or, ⊎_elim, zero-add, refl, ◌∙◌, arith, suc, ◌-◌, min, ◌++◌, length, drop, sum, append_assoc, sym, ap, drop-cons, inl, inr, not, true, false, eq-zero-or-pos, zero, max, map, fold, slice_index_or, append-nil, length-append}
use Rattle.std.specs.List.{range_with_len, position_or_len}
use Rattle.std.proofs.lemmas.Bool.Decides.{nat_tests}
use Rattle.std.proofs.lemmas.List.Sums.{sum_by-cons, position_or_len_is, sum-map, prefix_len-le-length, fails_before_first, passes_at_first}
use Rattle.std.proofs.lemmas.List.FromFn.{length-range_with_len, get_or-range_with_len}
use Rattle.pg_fit.specs.declared.narrowing.ColumnRange.{ColumnRange}
use Rattle.pg_fit.specs.Narrowing.{share, total, widest, level, gain, handed_out, narrowed, least_total, natural_total, none, FillsTheRoom, WithinRanges, IsEvenHanded, LimitsHold, StayNatural, EndAtLeast}
use Rattle.std.proofs.lemmas.List.{length-map, map-append}
use Rattle.pg_layout.specs.Text.{Text, greatest, lines_of}
use Rattle.pg_fit.specs.declared.wrapping.Breaking.{Breaking}
use Rattle.pg_fit.specs.Wrapping.{Piece, widest_character, least_line_width, least_width}
use Rattle.pg_fit.specs.Rows.{by_width_from, by_width}

-- ---- what columns take at a level, and which level is the greatest at which they fit

-- a higher level leaves each column as wide or makes it wider, by one at a level that is higher by one
pub share-mono : (l m : ℕ) (c : ColumnRange) → l ≤ m → share l c ≤ share m c
share-mono l m c h = omega arith

pub share-next : (l : ℕ) (c : ColumnRange) → (share l c ≤ share (l + 1) c) × (share (l + 1) c ≤ share l c + 1)
share-next l c = (omega arith, omega arith)

pub total-mono : (l m : ℕ) (cs : List ColumnRange) → l ≤ m → total l cs ≤ total m cs
total-mono l m [] h = omega arith
total-mono l m (c ∷ cs) h = omega (arith, sum_by-cons (share l) c cs, sum_by-cons (share m) c cs, share-mono l m c h, total-mono l m cs h)

-- from the widest natural width on nothing grows
pub total-past_widest : (l m : ℕ) (cs : List ColumnRange) → widest cs ≤ l → widest cs ≤ m → total l cs ≡ total m cs
total-past_widest l m [] h k = refl
total-past_widest l m (c ∷ cs) h k =
    let rest = total-past_widest l m cs (omega arith) (omega arith) in
    omega (arith, sum_by-cons (share l) c cs, sum_by-cons (share m) c cs, rest)

-- a level at which the columns fit, or 0, of which the next is too wide, or which is the widest natural width
pub record IsLevel (room : ℕ) (cs : List ColumnRange) (n : ℕ) : Type 0 where
  pub within : n ≤ widest cs
  pub fits : (n ≡ 0) ⊎ (total n cs ≤ room)
  pub next : (n ≡ widest cs) ⊎ (room < total (n + 1) cs)

pub level-is : (room : ℕ) (cs : List ColumnRange) (n : ℕ) → IsLevel room cs n → level room cs ≡ n
unfolding level
level-is room cs n is =
    let long = length-range_with_len 0 (widest cs) in
    position_or_len_is (λ l. nat_lt room (total (l + 1) cs)) (range_with_len 0 (widest cs)) n 0 (omega (arith, is.within))
    (λ k below.
    let reads : get_or (range_with_len 0 (widest cs)) k 0 ≡ k = get_or-range_with_len 0 (widest cs) k 0 (omega (arith, is.within)) ∙ zero-add k in
    let low : total (k + 1) cs ≤ room = ⊎_elim (λ none. omega (arith, none)) (λ fits. omega (arith, total-mono (k + 1) n cs (omega arith), fits)) is.fits in
    rw reads (grind (arith, nat_tests)))
    (λ short.
    let reads : get_or (range_with_len 0 (widest cs)) n 0 ≡ n = get_or-range_with_len 0 (widest cs) n 0 (omega arith) ∙ zero-add n in
    let high : room < total (n + 1) cs = ⊎_elim (λ last. absurd (omega (arith, last))) (λ next. next) is.next in
    rw reads (grind (arith, nat_tests)))

-- ---- columns that are handed what is left of the room

-- one column more
pub handed_out-more : (widths : List ℕ) (left l i : ℕ) (cs : List ColumnRange) (d : ColumnRange) → i < length cs
    → (widths ++ (share l (get_or cs i d) + gain left l (get_or cs i d)) ∷ []) ++ handed_out (left - gain left l (get_or cs i d)) l (drop (i + 1) cs) ≡ widths ++ handed_out left l (drop i cs)
handed_out-more widths left l i cs d within =
    let c = get_or cs i d in
    let next : suc i ≡ i + 1 = omega arith in
    let rest : drop i cs ≡ c ∷ drop (i + 1) cs = drop-cons cs i d within ∙ ap (λ k. c ∷ drop k cs) next in
    append_assoc widths ((share l c + gain left l c) ∷ []) _ ∙ ap (λ z. widths ++ handed_out left l z) (sym rest)

-- what the columns get: the level's total, and what is left, but no more than one for each that could be wider
pub sum-handed_out : (left l : ℕ) (cs : List ColumnRange) → sum (handed_out left l cs) ≡ total l cs + min left (total (l + 1) cs - total l cs)
sum-handed_out left l [] = omega arith
sum-handed_out left l (c ∷ cs) =
    let next = share-next l c in
    let grows = total-mono l (l + 1) cs (omega arith) in
    omega (arith, sum_by-cons (share l) c cs, sum_by-cons (share (l + 1)) c cs, sum_by-cons (λ (x : ℕ). x) (share l c + gain left l c) (handed_out (left - gain left l c) l cs), sum-handed_out (left - gain left l c) l cs)

-- ---- laws of narrowed widths

last_or_before : (n m : ℕ) → n ≤ m → (n ≡ m) ⊎ (n < m)
last_or_before n m h = ⊎_elim (λ e. inl (omega arith)) (λ e. inr (omega arith)) (eq-zero-or-pos (m - n))

below_fits : (room : ℕ) (cs : List ColumnRange) (n : ℕ) → ((k : ℕ) → k < n → total (k + 1) cs ≤ room) → (n ≡ 0) ⊎ (total n cs ≤ room)
below_fits room cs zero each = inl refl
below_fits room cs (suc n) each = inr (let same : n + 1 ≡ suc n = omega arith in rw same at (each n (omega arith)))

-- the level is one
pub IsLevel-level : (room : ℕ) (cs : List ColumnRange) → IsLevel room cs (level room cs)
unfolding level
IsLevel-level room cs =
    let p = λ (l : ℕ). nat_lt room (total (l + 1) cs) in
    let xs = range_with_len 0 (widest cs) in
    let long = length-range_with_len 0 (widest cs) in
    let short = prefix_len-le-length (λ (l : ℕ). not (p l)) xs in
    let reads : (k : ℕ) → k < widest cs → get_or xs k 0 ≡ k = λ k below. get_or-range_with_len 0 (widest cs) k 0 below ∙ zero-add k in
    record {
      within = omega arith;
      fits = below_fits room cs (position_or_len p xs) (λ k below. let passed : p k ≡ false = ap p (sym (reads k (omega arith))) ∙ fails_before_first p xs k 0 below in grind (arith, nat_tests));
      next = ⊎_elim (λ last. inl last) (λ before. inr (let passed : p (position_or_len p xs) ≡ true = ap p (sym (reads (position_or_len p xs) before)) ∙ passes_at_first p xs 0 (omega arith) in grind (arith, nat_tests))) (last_or_before (position_or_len p xs) (widest cs) (omega arith));
    }

-- no level takes more than the natural widths
total-below : (l : ℕ) (cs : List ColumnRange) → total l cs ≤ natural_total cs
total-below l [] = omega arith
total-below l (c ∷ cs) = omega (arith, sum_by-cons (share l) c cs, sum_by-cons (λ (x : ColumnRange). max x.least x.natural) c cs, total-below l cs)

total-least : (cs : List ColumnRange) → total 0 cs ≡ least_total cs
total-least [] = refl
total-least (c ∷ cs) = omega (arith, sum_by-cons (share 0) c cs, sum_by-cons (λ (x : ColumnRange). x.least) c cs, total-least cs)

total-natural : (l : ℕ) (cs : List ColumnRange) → widest cs ≤ l → total l cs ≡ natural_total cs
total-natural l [] h = refl
total-natural l (c ∷ cs) h = omega (arith, sum_by-cons (share l) c cs, sum_by-cons (λ (x : ColumnRange). max x.least x.natural) c cs, total-natural l cs (omega arith))

pub fills : FillsTheRoom
unfolding narrowed
fills room cs =
    let n = level room cs in
    let is = IsLevel-level room cs in
    let total-n = total n cs in
    let below = total-mono 0 n cs (omega arith) in
    let above = total-mono n (widest cs) cs is.within in
    let next = total-mono n (n + 1) cs (omega arith) in
    let all = total-natural (widest cs) cs (omega arith) in
    let least = total-least cs in
    let given = sum-handed_out (room - total n cs) n cs in
    ⊎_elim
    (λ (last : n ≡ widest cs).
    let same = total-past_widest (n + 1) n cs (omega arith) (omega arith) in
    let here : total n cs ≡ total (widest cs) cs = ap (λ k. total k cs) last in
    ⊎_elim (λ (bottom : n ≡ 0). let low : total n cs ≡ total 0 cs = ap (λ k. total k cs) bottom in omega arith) (λ (fits : total n cs ≤ room). omega arith) is.fits)
    (λ (wide : room < total (n + 1) cs).
    let further : total (n + 1) cs ≤ natural_total cs = total-below (n + 1) cs in
    ⊎_elim (λ (bottom : n ≡ 0). let low : total n cs ≡ total 0 cs = ap (λ k. total k cs) bottom in omega arith) (λ (fits : total n cs ≤ room). omega arith) is.fits)
    is.next

-- ---- column by column

pub length-handed_out : (left l : ℕ) (cs : List ColumnRange) → length (handed_out left l cs) ≡ length cs
length-handed_out left l [] = refl
length-handed_out left l (c ∷ cs) = ap suc (length-handed_out (left - gain left l c) l cs)

-- each width is that of the level or of the next one
pub record IsAt (l : ℕ) (c : ColumnRange) (width : ℕ) : Type 0 where
  pub low : share l c ≤ width
  pub high : width ≤ share (l + 1) c

pub IsAt-handed_out : (left l : ℕ) (cs : List ColumnRange) (i : ℕ) → i < length cs → IsAt l (get_or cs i none) (get_or (handed_out left l cs) i 0)
IsAt-handed_out left l [] i within = absurd (omega arith)
IsAt-handed_out left l (c ∷ cs) zero within = let next = share-next l c in record { low = omega arith; high = omega arith }
IsAt-handed_out left l (c ∷ cs) (suc i) within = IsAt-handed_out (left - gain left l c) l cs i (omega arith)

pub within_ranges : WithinRanges
unfolding narrowed
within_ranges room cs =
    let n = level room cs in
    let left = room - total n cs in (
      length-handed_out left n cs,
      λ i within.
          let is = IsAt-handed_out left n cs i within in
          (omega (arith, is.low), omega (arith, is.high)),
    )

pub even_handed : IsEvenHanded
unfolding narrowed
even_handed room cs i j i-within j-within narrower wider =
    let n = level room cs in
    let left = room - total n cs in
    let is-i = IsAt-handed_out left n cs i i-within in
    let is-j = IsAt-handed_out left n cs j j-within in
    omega (arith, is-i.low, is-i.high, is-j.low, is-j.high)

pub limits_hold : LimitsHold
limits_hold room cs i limit c within is = omega (arith, (within_ranges room cs).1 i within, ap (λ (x : ColumnRange). x.least) is, ap (λ (x : ColumnRange). x.natural) is)

-- ---- widths at the ends of their ranges

-- no width of one list is greater than the one of the other
abbrev AreBelow : List ℕ → List ℕ → Type 0
AreBelow [] ys = Unit {0}
AreBelow (x ∷ xs) [] = Unit {0}
AreBelow (x ∷ xs) (y ∷ ys) = (x ≤ y) × AreBelow xs ys

sum-below : (xs ys : List ℕ) → length xs ≡ length ys → AreBelow xs ys → sum xs ≤ sum ys
sum-below [] [] long low = omega arith
sum-below [] (y ∷ ys) long low = absurd (omega arith)
sum-below (x ∷ xs) [] long low = absurd (omega arith)
sum-below (x ∷ xs) (y ∷ ys) long low = omega (arith, sum_by-cons (λ (n : ℕ). n) x xs, sum_by-cons (λ (n : ℕ). n) y ys, low.0, sum-below xs ys (omega arith) low.1)

-- so they are equal where they add up to the same
same-sum : (xs ys : List ℕ) → length xs ≡ length ys → AreBelow xs ys → sum ys ≤ sum xs → xs ≡ ys
same-sum [] [] long low h = refl
same-sum [] (y ∷ ys) long low h = absurd (omega arith)
same-sum (x ∷ xs) [] long low h = absurd (omega arith)
same-sum (x ∷ xs) (y ∷ ys) long low h =
    let below = sum-below xs ys (omega arith) low.1 in
    let first : x ≡ y = omega (arith, sum_by-cons (λ (n : ℕ). n) x xs, sum_by-cons (λ (n : ℕ). n) y ys, low.0) in
    ap (λ n. n ∷ xs) first ∙ ap (λ ns. y ∷ ns) (same-sum xs ys (omega arith) low.1 (omega (arith, sum_by-cons (λ (n : ℕ). n) x xs, sum_by-cons (λ (n : ℕ). n) y ys, low.0)))

handed_out-below : (left l : ℕ) (cs : List ColumnRange) → AreBelow (handed_out left l cs) (map (λ (c : ColumnRange). max c.least c.natural) cs)
handed_out-below left l [] = tt
handed_out-below left l (c ∷ cs) = let next = share-next l c in (omega arith, handed_out-below (left - gain left l c) l cs)

handed_out-above : (left l : ℕ) (cs : List ColumnRange) → AreBelow (map (λ (c : ColumnRange). c.least) cs) (handed_out left l cs)
handed_out-above left l [] = tt
handed_out-above left l (c ∷ cs) = (omega arith, handed_out-above (left - gain left l c) l cs)

least-below-natural : (cs : List ColumnRange) → least_total cs ≤ natural_total cs
least-below-natural cs = omega (arith, total-least cs, total-below 0 cs)

pub stay_natural : StayNatural
unfolding narrowed
stay_natural room cs fits =
    let n = level room cs in
    let left = room - total n cs in
    same-sum (handed_out left n cs) (map (λ (c : ColumnRange). max c.least c.natural) cs) (omega (arith, length-handed_out left n cs, length-map cs (λ (c : ColumnRange). max c.least c.natural))) (handed_out-below left n cs)
    (omega (arith, fills room cs, sum-map (λ (c : ColumnRange). max c.least c.natural) cs, least-below-natural cs))

pub end_at_least : EndAtLeast
unfolding narrowed
end_at_least room cs few =
    let n = level room cs in
    let left = room - total n cs in
    sym (same-sum (map (λ (c : ColumnRange). c.least) cs) (handed_out left n cs) (omega (arith, length-handed_out left n cs, length-map cs (λ (c : ColumnRange). c.least))) (handed_out-above left n cs)
    (omega (arith, fills room cs, sum-map (λ (c : ColumnRange). c.least) cs, least-below-natural cs)))

-- ---- how narrow texts can be made: the widest of what stands one behind another

-- the widest of words
abbrev pub widest_in : List Piece → ℕ
widest_in ps = greatest (map (λ p. widest_character p.text) ps)

-- one more, before others
pub max-onto : (a b c : ℕ) → max (max b a) c ≡ max a (max b c)
max-onto a b c = omega arith

-- the widest line, one after another
least-fold : (f : Text → ℕ) (width : ℕ) (lines : List Text) → fold (λ w line. max (f line) w) width lines ≡ max width (greatest (map f lines))
least-fold f width [] = omega arith
least-fold f width (line ∷ lines) = least-fold f (max (f line) width) lines ∙ max-onto width (f line) (greatest (map f lines))

pub least_width-fold : (breaking : Breaking) (text : Text) → fold (λ w line. max (least_line_width breaking line) w) 0 (lines_of text) ≡ least_width breaking text
unfolding least_width
least_width-fold breaking text = least-fold (least_line_width breaking) 0 (lines_of text) ∙ (let none : max 0 (greatest (map (least_line_width breaking) (lines_of text))) ≡ greatest (map (least_line_width breaking) (lines_of text)) = omega arith in none)

-- ---- rows that are made cell by cell, each by the width of its column

module _ {F X : Type 0} (seen : F → X) (make : ℕ → Text → X) (widths : List ℕ) (texts : List Text) where
  -- what is seen of the cells that were made, with what is left to make of the other texts, is what is made of all texts
  abbrev pub IsMade : List F → List Text → Type 0
  IsMade made left = map seen made ++ by_width_from make (length made) widths left ≡ by_width make widths texts

  -- at first all texts are left
  pub IsMade-first : (made : List F) (left : List Text) → made ≡ [] → left ≡ texts → IsMade made left
  IsMade-first made left none all = rw (none, all) refl

  -- one more cell
  pub IsMade-next : (made after : List F) (cell : F) (text : Text) (left rest : List Text)
      → after ≡ made ++ cell ∷ []
      → left ≡ text ∷ rest
      → seen cell ≡ make (slice_index_or widths (length made) 0) text
      → IsMade made left
      → IsMade after rest
  IsMade-next made after cell text left rest pushed taken is before =
      ap (λ cells. map seen cells ++ by_width_from make (length cells) widths rest) pushed
      ∙ ap (λ n. map seen (made ++ cell ∷ []) ++ by_width_from make n widths rest) (length-append made (cell ∷ []))
      ∙ ap (λ row. row ++ by_width_from make (length made + 1) widths rest) (map-append seen made (cell ∷ []))
      ∙ append_assoc (map seen made) (seen cell ∷ []) (by_width_from make (length made + 1) widths rest)
      ∙ ap (λ it. map seen made ++ it ∷ by_width_from make (length made + 1) widths rest) is
      ∙ ap (λ ts. map seen made ++ by_width_from make (length made) widths ts) (sym taken)
      ∙ before

  -- where none is left, all are made
  pub IsMade-all : (made : List F) (left : List Text) → left ≡ [] → IsMade made left → map seen made ≡ by_width make widths texts
  IsMade-all made left none made_all = sym (append-nil (map seen made)) ∙ ap (λ ts. map seen made ++ by_width_from make (length made) widths ts) (sym none) ∙ made_all

  -- of no texts none is left
  pub IsMade-none : (made : List F) (text : Text) (left rest : List Text) → texts ≡ [] → left ≡ text ∷ rest → IsMade made left → 1 ≤ 0
  IsMade-none made text left rest empty taken made_all =
      let lengths = ap length (ap (λ ts. map seen made ++ by_width_from make (length made) widths ts) (sym taken) ∙ made_all ∙ ap (by_width make widths) empty) in
      omega (arith, lengths, length-append (map seen made) (by_width_from make (length made) widths (text ∷ rest)))

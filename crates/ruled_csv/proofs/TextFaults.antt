-- What is wrong with a text, by a scan over it; the rows above the first bad one, and rows that aren't text.
use Rattle.std.proofs.Common.{◌≡◌, ◌≤◌, ◌<◌, ◌∙◌, ℕ, zero, suc, ◌+◌, ◌-◌, unwrap_or, subst, Bool, true, false, List, [], ◌∷◌, ◌++◌, length, length-append, take, Option, Some, None, inl, inr}
use Rattle.std.proofs.Common.{refl, sym, ap, append-nil, append_assoc, add-one, arith, drop}
use Rattle.std.specs.Prelude.{◌==◌, ◌||◌, ◌^◌, min, not, if◌then◌else◌, fold, option_map, is_none}
use Rattle.std.specs.List.{count_by, find, range_with_len, zip, cons_option, list_all, take_while}
use Rattle.std.specs.Option.{option_or}
use Rattle.std.proofs.lemmas.Bool.{cases_Bool, false≢true, true≢false, and_parts}
use Rattle.std.proofs.lemmas.List.{take-append-le, take-append-drop}
use Rattle.std.proofs.lemmas.List.Folds.{find-append}
use Rattle.std.proofs.lemmas.List.Sums.{sum_by-append, take_while-cons}
use Rattle.std.proofs.Math.Seq.{take-append_seam, take-append-add}
use Rattle.csv.specs.declared.parser.State.{State}
use Rattle.ruled_csv.specs.Faults.{first_fault, quoted_rows, row_fault, text_fault, up_to, has_length, is_sound, rows_fault, sound_rows, sound_rows_in, number_of}
use Rattle.ruled_csv.specs.Inside as scan
use Rattle.ruled_csv.specs.Inside.{Hand, Scan, behind_fault, fault_below, is_bare, is_behind, lines_after, lines_start, row_at, row_left, scan_after, scan_from, scan_of, scan_start}
use Rattle.ruled_csv.specs.Inside.{with_row}
use Rattle.ruled_csv.specs.Quotes.{ends_line, line_behind, first_behind_quote, is_behind_quote, is_closing, is_quoted, open_fault, quote_at, quote_fault, state_behind}
use Rattle.ruled_csv.specs.Rows.{columns_of, ended_in, rows_in, rows_of}
use Rattle.ruled_csv.specs.declared.fault.RowsFault.{RowsFault}
use Rattle.ruled_csv.specs.declared.fault.RowsFault.TheVariants.{OpenQuote, BehindQuote, Encoding}
use Rattle.ruled_csv.specs.declared.lines.Lines.{Lines}
use Rattle.ruled_csv.proofs.Scans.{ended-scanned, all-scanned, scan-append, state-scanned}
use Rattle.ruled_csv.specs.declared.dialect.Dialect.{Dialect}
use Rattle.std.specs.Str.{is_utf8}
use Rattle.ruled_csv.specs.Kept.{kept_text}
use Rattle.std.proofs.lemmas.Str.{IsUtf8-from_is_utf8, is_utf8-from_IsUtf8}
use Rattle.csv.specs.Records.{AllText}

-- ---- what is wrong with a text

-- ---- byte by byte

-- what holds of no text, and of a text with a byte more, holds of each
pub by-bytes : (P : List ℕ → Type 0) → P [] → ((text : List ℕ) (byte : ℕ) → P text → P (text ++ byte ∷ [])) → (text : List ℕ) → P text
by-bytes P none more text = go [] text none where
  go : (front text : List ℕ) → P front → P (front ++ text)
  go front [] holds = subst P (sym (append-nil front)) holds
  go front (byte ∷ text) holds = subst P (append_assoc front (byte ∷ []) text) (go (front ++ byte ∷ []) text (more front byte holds))

scan-more : (dialect : Dialect) (text : List ℕ) (byte : ℕ) → scan_of dialect (text ++ byte ∷ []) ≡ scan_after dialect (scan_of dialect text) byte
scan-more dialect text byte = scan-append dialect scan_start text (byte ∷ [])

pub state-is : (dialect : Dialect) (text : List ℕ) → (scan_of dialect text).hand.state ≡ state_behind dialect text
state-is dialect text = state-scanned dialect scan_start text

-- the front of a text with a byte more
front-of : (text : List ℕ) (byte n : ℕ) → n ≤ length text → take n (text ++ byte ∷ []) ≡ take n text
front-of text byte n within = take-append-le n text (byte ∷ []) within

take-all : (text : List ℕ) → take (length text) text ≡ text
take-all [] = refl
take-all (byte ∷ text) = ap (λ (xs : List ℕ). byte ∷ xs) (take-all text)

-- ---- lines

lines-scanned : (dialect : Dialect) (s : Scan) (text : List ℕ) → (scan_from dialect s text).hand.lines ≡ fold lines_after s.hand.lines text
lines-scanned dialect s [] = refl
lines-scanned dialect s (byte ∷ text) = lines-scanned dialect (scan_after dialect s byte) text

abbrev count-at : (count before : ℕ) → Lines
count-at count before = record { line = min (1 + count) (2 ^ 64 - 1); is_behind_return = before == 13 }

-- a byte that ends a line, or none, in front of others
lines-step : (ends : Bool) (count byte rest : ℕ) (text : List ℕ) → ((n : ℕ) → (fold lines_after (count-at n byte) text).line ≡ min (1 + (n + rest)) (2 ^ 64 - 1))
    → (fold lines_after (record { line = if ends then min (min (1 + count) (2 ^ 64 - 1) + 1) (2 ^ 64 - 1) else min (1 + count) (2 ^ 64 - 1); is_behind_return = byte == 13 }) text).line
    ≡ min (1 + (count + ((0 + (if ends then 1 else 0)) + rest))) (2 ^ 64 - 1)
lines-step true count byte rest text behind =
    let step : min (min (1 + count) (2 ^ 64 - 1) + 1) (2 ^ 64 - 1) ≡ min (1 + (count + 1)) (2 ^ 64 - 1) = omega arith in
    let sum : (count + 1) + rest ≡ count + ((0 + 1) + rest) = omega arith in
    ap (λ (n : ℕ). (fold lines_after (record { line = n; is_behind_return = byte == 13 }) text).line) step
    ∙ behind (count + 1)
    ∙ ap (λ (n : ℕ). min (1 + n) (2 ^ 64 - 1)) sum
lines-step false count byte rest text behind =
    let sum : count + rest ≡ count + ((0 + 0) + rest) = omega arith in
    behind count ∙ ap (λ (n : ℕ). min (1 + n) (2 ^ 64 - 1)) sum

lines-counted : (count before : ℕ) (text : List ℕ) → (fold lines_after (count-at count before) text).line ≡ min (1 + (count + count_by ends_line (zip (before ∷ text) text))) (2 ^ 64 - 1)
lines-counted count before [] = let sum : count ≡ count + 0 = omega arith in ap (λ (n : ℕ). min (1 + n) (2 ^ 64 - 1)) sum
lines-counted count before (byte ∷ text) =
    let tail = zip (byte ∷ text) text in
    lines-step (ends_line (before, byte)) count byte (count_by ends_line tail) text (λ n. lines-counted n byte text)
    ∙ ap (λ (n : ℕ). min (1 + (count + n)) (2 ^ 64 - 1)) (sym (sum_by-append (λ pair. if ends_line pair then 1 else 0) ((before, byte) ∷ []) tail))

pub line-counted : (text : List ℕ) → (fold lines_after lines_start text).line ≡ line_behind text
line-counted text =
    let all = count_by ends_line (zip (0 ∷ text) text) in
    let sum : 0 + all ≡ all = omega arith in
    lines-counted 0 0 text ∙ ap (λ (n : ℕ). min (1 + n) (2 ^ 64 - 1)) sum

-- the line at which a scan has come
pub line-is : (dialect : Dialect) (text : List ℕ) → (scan_of dialect text).hand.lines.line ≡ line_behind text
line-is dialect text = ap (λ (lines : Lines). lines.line) (lines-scanned dialect scan_start text) ∙ line-counted text

-- ---- text behind a quote

range-more : (a n : ℕ) → range_with_len a (suc n) ≡ range_with_len a n ++ (a + n) ∷ []
range-more a zero = ap (λ (k : ℕ). k ∷ []) (omega arith)
range-more a (suc n) = ap (λ (ks : List ℕ). a ∷ ks) (range-more (a + 1) n ∙ ap (λ (k : ℕ). range_with_len (a + 1) n ++ k ∷ []) (omega arith))

find-same : (p q : ℕ → Bool) (a n : ℕ) → ((k : ℕ) → k < a + n → p k ≡ q k) → find p (range_with_len a n) ≡ find q (range_with_len a n)
find-same p q a zero same = refl
find-same p q a (suc n) same =
    rw (same a (omega arith), find-same p q (a + 1) n (λ k within. same k (omega (arith, within)))) refl

find-within : (p : ℕ → Bool) (a n k : ℕ) → find p (range_with_len a n) ≡ Some k → k < a + n
find-within p a zero k found = let e = found in cc
find-within p a (suc n) k found = elim (cases_Bool (p a)) [
  | inl is-true ↦ let is : a ≡ k = some-same (rw is-true at found) in omega (arith, is)
  | inr is-false ↦ let below = find-within p (a + 1) n k (rw is-false at found) in omega (arith, below)
] where
  some-same : {x y : ℕ} → Some x ≡ Some y → x ≡ y
  some-same e = ap (λ (o : Option ℕ). unwrap_or o 0) e

-- the place of the byte behind a text, if this is so
abbrev pub place-of : List ℕ → Bool → Option ℕ
place-of text here = if here then Some (length text) else None

-- whether the byte behind a text is text behind a quote
abbrev next-behind : Dialect → List ℕ → ℕ → Option ℕ
next-behind dialect text byte = place-of text (is_behind (state_behind dialect text) (state_behind dialect (text ++ byte ∷ [])))

pub first-more : (dialect : Dialect) (text : List ℕ) (byte : ℕ) → first_behind_quote dialect (text ++ byte ∷ []) ≡ option_or (first_behind_quote dialect text) (next-behind dialect text byte)
first-more dialect text byte =
    let all = text ++ byte ∷ [] in
    let n = length text in
    let long : length all ≡ suc n = omega (arith, length-append text (byte ∷ [])) in
    let nought : 0 + n ≡ n = omega arith in
    let before = find-same (is_behind_quote dialect all) (is_behind_quote dialect text) 0 n (λ k within. rw (front-of text byte k (omega arith), front-of text byte (k + 1) (omega arith)) refl) in
    let here = ap (λ (xs : List ℕ). is_closing (state_behind dialect xs)) (take-append_seam text (byte ∷ [])) in
    let whole : take (n + 1) all ≡ all = ap (λ (k : ℕ). take k all) (add-one n ∙ sym long) ∙ take-all all in
    ap (λ (k : ℕ). find (is_behind_quote dialect all) (range_with_len 0 k)) long
    ∙ ap (find (is_behind_quote dialect all)) (range-more 0 n ∙ ap (λ (k : ℕ). range_with_len 0 n ++ k ∷ []) nought)
    ∙ find-append (is_behind_quote dialect all) (range_with_len 0 n) (n ∷ [])
    ∙ rw (before, here, whole) refl

-- which a scan knows by the states in front of the byte and behind it
pub first-next : (dialect : Dialect) (text : List ℕ) (byte : ℕ) → first_behind_quote dialect text ≡ None
    → first_behind_quote dialect (text ++ byte ∷ []) ≡ place-of text (is_behind (scan_of dialect text).hand.state (scan_after dialect (scan_of dialect text) byte).hand.state)
first-next dialect text byte none =
    let all = text ++ byte ∷ [] in
    let s = scan_of dialect text in
    first-more dialect text byte
    ∙ ap (λ (o : Option ℕ). option_or o (next-behind dialect text byte)) none
    ∙ ap (λ (state : State). place-of text (is_behind state (state_behind dialect all))) (sym (state-is dialect text))
    ∙ ap (λ (state : State). place-of text (is_behind s.hand.state state)) (sym (state-is dialect all) ∙ ap (λ (t : Scan). t.hand.state) (scan-more dialect text byte))

-- ---- rows

-- what is wrong with the first bad one of these rows
abbrev pub fault-of : Dialect → List (List (List ℕ)) → Option RowsFault
fault-of dialect rows = first_fault dialect (columns_of rows) 0 rows

or-assoc : {X : Type 0} (a b c : Option X) → option_or (option_or a b) c ≡ option_or a (option_or b c)
or-assoc None b c = refl
or-assoc (Some x) b c = refl

or-none : {X : Type 0} (a : Option X) → option_or a None ≡ a
or-none None = refl
or-none (Some x) = refl

rows-more : (dialect : Dialect) (columns k m : ℕ) (rows : List (List (List ℕ))) (row : List (List ℕ)) → m ≡ k + length rows → first_fault dialect columns k (rows ++ row ∷ []) ≡ option_or (first_fault dialect columns k rows) (row_fault dialect columns m row)
rows-more dialect columns k m [] row at = or-none (row_fault dialect columns k row) ∙ ap (λ (n : ℕ). row_fault dialect columns n row) (omega (arith, at))
rows-more dialect columns k m (fields ∷ rows) row at =
    ap (option_or (row_fault dialect columns k fields)) (rows-more dialect columns (k + 1) m rows row (omega (arith, at)))
    ∙ sym (or-assoc (row_fault dialect columns k fields) (first_fault dialect columns (k + 1) rows) (row_fault dialect columns m row))

fault-with : (dialect : Dialect) (rows : List (List (List ℕ))) (found : Option (List (List ℕ))) → fault-of dialect (with_row rows found) ≡ option_or (fault-of dialect rows) (fault_below dialect rows found)
fault-with dialect rows None = ap (fault-of dialect) (append-nil rows) ∙ sym (or-none (fault-of dialect rows))
fault-with dialect [] (Some row) = or-none (row_fault dialect (length row) 0 row)
fault-with dialect (first ∷ rows) (Some row) = rows-more dialect (length first) 0 (length (first ∷ rows)) (first ∷ rows) row (omega arith)

-- ---- a text

-- the fault of the rows up to a place, or else of the text that stands there behind a quote
abbrev found-at : Dialect → List ℕ → Option ℕ → Option RowsFault
found-at dialect text place = option_or (fault-of dialect (scan_of dialect (up_to place text)).rows) (option_map (λ n. BehindQuote (line_behind (take n text))) place)

module _ (dialect : Dialect) (text : List ℕ) (byte : ℕ) (holds : (scan_of dialect text).fault ≡ found-at dialect text (first_behind_quote dialect text)) where
  found-before : (n : ℕ) → first_behind_quote dialect text ≡ Some n → (scan_of dialect (text ++ byte ∷ [])).fault ≡ found-at dialect (text ++ byte ∷ []) (first_behind_quote dialect (text ++ byte ∷ []))
  found-before n is =
      let within = find-within (is_behind_quote dialect text) 0 (length text) n is in
      let front = front-of text byte n (omega (arith, within)) in
      let place : first_behind_quote dialect (text ++ byte ∷ []) ≡ Some n = rw is at (first-more dialect text byte) in
      let before = rw is at holds in
      ap (λ (s : Scan). s.fault) (scan-more dialect text byte)
      ∙ rw (before, place, front) (or-assoc (fault-of dialect (scan_of dialect (take n text)).rows) (Some (BehindQuote (line_behind (take n text)))) _)

  -- the byte is text behind a quote, or not
  decide : (here : Bool)
      → option_or (fault-of dialect (scan_of dialect text).rows) (option_or (if here then Some (BehindQuote (scan_of dialect text).hand.lines.line) else None) (fault_below dialect (scan_of dialect text).rows (row_at dialect (scan_of dialect text) byte)))
      ≡ found-at dialect (text ++ byte ∷ []) (if here then Some (length text) else None)
  decide true =
      ap (λ (line : ℕ). option_or (fault-of dialect (scan_of dialect text).rows) (Some (BehindQuote line))) (line-is dialect text)
      ∙ sym (ap (λ (xs : List ℕ). option_or (fault-of dialect (scan_of dialect xs).rows) (Some (BehindQuote (line_behind xs)))) (take-append_seam text (byte ∷ [])))
  decide false =
      sym (fault-with dialect (scan_of dialect text).rows (row_at dialect (scan_of dialect text) byte))
      ∙ ap (λ (t : Scan). fault-of dialect t.rows) (sym (scan-more dialect text byte))
      ∙ sym (or-none (fault-of dialect (scan_of dialect (text ++ byte ∷ [])).rows))

  found-next : first_behind_quote dialect text ≡ None → (scan_of dialect (text ++ byte ∷ [])).fault ≡ found-at dialect (text ++ byte ∷ []) (first_behind_quote dialect (text ++ byte ∷ []))
  found-next none =
      let all = text ++ byte ∷ [] in
      let s = scan_of dialect text in
      let row = row_at dialect s byte in
      let after = (scan_after dialect s byte).hand.state in
      let before : s.fault ≡ fault-of dialect s.rows = (rw none at holds) ∙ or-none (fault-of dialect s.rows) in
      ap (λ (t : Scan). t.fault) (scan-more dialect text byte)
      ∙ ap (λ (f : Option RowsFault). option_or f (option_or (behind_fault dialect s.hand byte) (fault_below dialect s.rows row))) before
      ∙ decide (is_behind s.hand.state after)
      ∙ ap (found-at dialect all) (sym (first-next dialect text byte none))

fault-scanned : (dialect : Dialect) (text : List ℕ) → (scan_of dialect text).fault ≡ found-at dialect text (first_behind_quote dialect text)
fault-scanned dialect = by-bytes (λ text. (scan_of dialect text).fault ≡ found-at dialect text (first_behind_quote dialect text)) refl more where
  more : (text : List ℕ) (byte : ℕ) → (scan_of dialect text).fault ≡ found-at dialect text (first_behind_quote dialect text)
      → (scan_of dialect (text ++ byte ∷ [])).fault ≡ found-at dialect (text ++ byte ∷ []) (first_behind_quote dialect (text ++ byte ∷ []))
  more text byte holds = go (first_behind_quote dialect text) refl where
    go : (place : Option ℕ) → first_behind_quote dialect text ≡ place → (scan_of dialect (text ++ byte ∷ [])).fault ≡ found-at dialect (text ++ byte ∷ []) (first_behind_quote dialect (text ++ byte ∷ []))
    go (Some n) is = found-before dialect text byte holds n is
    go None none = found-next dialect text byte holds none

-- ---- the quote that is open

quote-same : (dialect : Dialect) (text : List ℕ) (byte n : ℕ) → n ≤ length text → quote_at dialect (text ++ byte ∷ []) n ≡ quote_at dialect text n
quote-same dialect text byte zero within = refl
quote-same dialect text byte (suc n) within = rw (front-of text byte (suc n) within, quote-same dialect text byte n (omega (arith, within))) refl

quote-within : (dialect : Dialect) (text : List ℕ) (n : ℕ) → quote_at dialect text n ≤ n
quote-within dialect text zero = omega arith
quote-within dialect text (suc n) = elim (cases_Bool (is_quoted (state_behind dialect (take (suc n) text)) || is_closing (state_behind dialect (take (suc n) text)))) [
  | inl within ↦ rw within (omega (arith, quote-within dialect text n))
  | inr bare ↦ rw bare (omega arith)
]

quote-bare : (dialect : Dialect) (text : List ℕ) (n : ℕ) → is_bare (state_behind dialect (take n text)) ≡ true → quote_at dialect text n ≡ n
quote-bare dialect text zero bare = refl
quote-bare dialect text (suc n) bare = rw (not-true _ bare) refl where
  not-true : (b : Bool) → not b ≡ true → b ≡ false
  not-true false e = refl
  not-true true e = absurd (false≢true e)

abbrev Opened : Dialect → List ℕ → Type 0
Opened dialect text = is_bare (state_behind dialect text) ≡ false → (scan_of dialect text).hand.opened ≡ line_behind (take (quote_at dialect text (length text)) text)

opened-is : (dialect : Dialect) (text : List ℕ) → Opened dialect text
opened-is dialect = by-bytes (Opened dialect) (λ none. absurd (true≢false none)) more where
  not-false : (b : Bool) → not b ≡ false → b ≡ true
  not-false true e = refl
  not-false false e = absurd (true≢false e)

  more : (text : List ℕ) (byte : ℕ) → Opened dialect text → Opened dialect (text ++ byte ∷ [])
  more text byte before within =
      let all = text ++ byte ∷ [] in
      let n = length text in
      let s = scan_of dialect text in
      let next = scan-more dialect text byte in
      let long : length all ≡ suc n = omega (arith, length-append text (byte ∷ [])) in
      let whole : take (suc n) all ≡ all = ap (λ (k : ℕ). take k all) (sym long) ∙ take-all all in
      let place : quote_at dialect all (length all) ≡ quote_at dialect text n = rw (long, whole, not-false _ within) (quote-same dialect text byte n (omega arith)) in
      let front = ap (λ (k : ℕ). line_behind (take k all)) place ∙ ap line_behind (front-of text byte (quote_at dialect text n) (quote-within dialect text n)) in
      let after : is_bare (scan_after dialect s byte).hand.state ≡ false = rw (← ap (λ (t : Scan). t.hand.state) next, state-is dialect all) within in
      ap (λ (t : Scan). t.hand.opened) next ∙ elim (cases_Bool (is_bare s.hand.state)) [
        | inl bare ↦
            let at = quote-bare dialect text n (rw (take-all text, ← state-is dialect text) bare) in
            rw (bare, after) (line-is dialect text ∙ sym (front ∙ ap (λ (k : ℕ). line_behind (take k text)) at ∙ ap line_behind (take-all text)))
        | inr inside ↦ rw inside (before (rw (← state-is dialect text) inside) ∙ sym front)
      ]

-- ---- the faults of bytes

pub quoted-by : (dialect : Dialect) (text : List ℕ) (place : Option ℕ) (quote : Option RowsFault) → first_behind_quote dialect text ≡ place → quote_fault dialect text ≡ quote
    → quoted_rows dialect text ≡ (if is_none quote then rows_in dialect text else ended_in dialect (up_to place text))
quoted-by dialect text place quote at is = rw (is, at) refl

text-fault-by : (dialect : Dialect) (text : List ℕ) (place : Option ℕ) (quote : Option RowsFault) → first_behind_quote dialect text ≡ place → quote_fault dialect text ≡ quote
    → text_fault dialect text ≡ option_or (fault-of dialect (if is_none quote then rows_in dialect text else ended_in dialect (up_to place text))) quote
text-fault-by dialect text place quote at is = ap (λ (rows : List (List (List ℕ))). option_or (fault-of dialect rows) (quote_fault dialect text)) (quoted-by dialect text place quote at is) ∙ ap (option_or _) is

pub open-is : (dialect : Dialect) (text : List ℕ) → open_fault dialect text ≡ scan.open_fault (scan_of dialect text).hand
open-is dialect text =
    let state = state-is dialect text in
    elim (cases_Bool (is_quoted (state_behind dialect text))) [
      | inl quoted ↦ rw (state, quoted) (ap (λ (line : ℕ). Some (OpenQuote line)) (sym (opened-is dialect text (rw quoted refl))))
      | inr none ↦ rw (state, none) refl
    ]

-- with no fault so far, no text is behind a quote, and no row is bad
pub clean : (dialect : Dialect) (text : List ℕ) → (scan_of dialect text).fault ≡ None → (first_behind_quote dialect text ≡ None) × (fault-of dialect (scan_of dialect text).rows ≡ None)
clean dialect text right = go (first_behind_quote dialect text) refl where
  never : (before : Option RowsFault) (fault : RowsFault) → ¬ (option_or before (Some fault) ≡ None)
  never None fault e = let f = e in cc
  never (Some x) fault e = let f = e in cc

  go : (place : Option ℕ) → first_behind_quote dialect text ≡ place → (first_behind_quote dialect text ≡ None) × (fault-of dialect (scan_of dialect text).rows ≡ None)
  go None none = (none, sym (or-none (fault-of dialect (scan_of dialect text).rows)) ∙ sym (rw none at (fault-scanned dialect text)) ∙ right)
  go (Some n) is = absurd (never (fault-of dialect (scan_of dialect (take n text)).rows) _ (sym (rw is at (fault-scanned dialect text)) ∙ right))

-- and what is wrong in the end is wrong with the row at hand
pub fault-last : (dialect : Dialect) (text : List ℕ) → (scan_of dialect text).fault ≡ None
    → text_fault dialect text ≡ option_or (scan.open_fault (scan_of dialect text).hand) (fault_below dialect (scan_of dialect text).rows (row_left dialect (scan_of dialect text)))
fault-last dialect text right =
    let (none, sound) = clean dialect text right in
    last none sound (scan.open_fault (scan_of dialect text).hand) (rw none (open-is dialect text)) where
      last : first_behind_quote dialect text ≡ None → fault-of dialect (scan_of dialect text).rows ≡ None → (quote : Option RowsFault) → quote_fault dialect text ≡ quote
          → text_fault dialect text ≡ option_or quote (fault_below dialect (scan_of dialect text).rows (row_left dialect (scan_of dialect text)))
      last none sound None is =
          text-fault-by dialect text None None none is
          ∙ or-none _
          ∙ ap (fault-of dialect) (all-scanned dialect text)
          ∙ fault-with dialect (scan_of dialect text).rows (row_left dialect (scan_of dialect text))
          ∙ rw sound refl
      last none sound (Some fault) is =
          text-fault-by dialect text None (Some fault) none is
          ∙ ap (λ (rows : List (List (List ℕ))). option_or (fault-of dialect rows) (Some fault)) (ended-scanned dialect text)
          ∙ rw sound refl

-- and a fault that was found is that of the text
pub fault-found : (dialect : Dialect) (text : List ℕ) (fault : RowsFault) → (scan_of dialect text).fault ≡ Some fault → text_fault dialect text ≡ Some fault
fault-found dialect text fault found = go (first_behind_quote dialect text) refl where
  late : (quote : Option RowsFault) → first_behind_quote dialect text ≡ None → fault-of dialect (scan_of dialect text).rows ≡ Some fault → quote_fault dialect text ≡ quote → text_fault dialect text ≡ Some fault
  late None none bad is =
      text-fault-by dialect text None None none is
      ∙ ap (λ (rows : List (List (List ℕ))). option_or (fault-of dialect rows) None) (all-scanned dialect text)
      ∙ ap (λ (f : Option RowsFault). option_or f None) (fault-with dialect (scan_of dialect text).rows (row_left dialect (scan_of dialect text)))
      ∙ rw bad refl
  late (Some other) none bad is =
      text-fault-by dialect text None (Some other) none is
      ∙ ap (λ (rows : List (List (List ℕ))). option_or (fault-of dialect rows) (Some other)) (ended-scanned dialect text)
      ∙ rw bad refl

  go : (place : Option ℕ) → first_behind_quote dialect text ≡ place → text_fault dialect text ≡ Some fault
  go None none = late (quote_fault dialect text) none (sym (or-none (fault-of dialect (scan_of dialect text).rows)) ∙ sym (rw none at (fault-scanned dialect text)) ∙ found) refl
  go (Some n) is =
      text-fault-by dialect text (Some n) (Some (BehindQuote (line_behind (take n text)))) is (rw is refl)
      ∙ ap (λ (rows : List (List (List ℕ))). option_or (fault-of dialect rows) (Some (BehindQuote (line_behind (take n text))))) (ended-scanned dialect (take n text))
      ∙ sym (rw is at (fault-scanned dialect text))
      ∙ found

-- ---- the rows above the first bad one

-- ---- one row

abbrev Row : Type 0
Row = List (List ℕ)

-- a row is sound where nothing is wrong with it
none-sound : (dialect : Dialect) (columns row : ℕ) (fields : Row) → row_fault dialect columns row fields ≡ None → is_sound dialect columns fields ≡ true
none-sound dialect columns row fields none = go (has_length dialect columns (length fields)) (list_all is_utf8 fields) _ _ _ _ none where
  go : (long text : Bool) (a b c d : RowsFault) → (if not long then Some a else if not text then Some b else None) ≡ None → is_none (if not long then Some c else if not text then Some d else None) ≡ true
  go true true a b c d e = refl
  go true false a b c d e = let f = e in cc
  go false text a b c d e = let f = e in cc

some-unsound : (dialect : Dialect) (columns row : ℕ) (fields : Row) (fault : RowsFault) → row_fault dialect columns row fields ≡ Some fault → is_sound dialect columns fields ≡ false
some-unsound dialect columns row fields fault some = go (has_length dialect columns (length fields)) (list_all is_utf8 fields) _ _ _ _ _ some where
  go : (long text : Bool) (a b c d f : RowsFault) → (if not long then Some a else if not text then Some b else None) ≡ Some f → is_none (if not long then Some c else if not text then Some d else None) ≡ false
  go true true a b c d f e = let g = e in cc
  go true false a b c d f e = refl
  go false text a b c d f e = refl

-- ---- rows

or-parts : {X : Type 0} (a b : Option X) → option_or a b ≡ None → (a ≡ None) × (b ≡ None)
or-parts None b e = (refl, e)
or-parts (Some x) b e = let f = e in cc

-- sound rows, and some below them
all-right : (dialect : Dialect) (columns row : ℕ) (rows more : List Row) → first_fault dialect columns row rows ≡ None → take_while (is_sound dialect columns) (rows ++ more) ≡ rows ++ take_while (is_sound dialect columns) more
all-right dialect columns row [] more none = refl
all-right dialect columns row (fields ∷ rows) more none =
    let parts = or-parts (row_fault dialect columns row fields) (first_fault dialect columns (row + 1) rows) none in
    let right = none-sound dialect columns row fields parts.0 in
    take_while-cons (is_sound dialect columns) fields (rows ++ more) ∙ rw right (ap (λ (rs : List Row). fields ∷ rs) (all-right dialect columns (row + 1) rows more parts.1))

-- the rows above the first bad one of these
abbrev sound-of : Dialect → List Row → List Row
sound-of dialect rows = take_while (is_sound dialect (columns_of rows)) rows

clean-front : (dialect : Dialect) (rows more : List Row) → fault-of dialect rows ≡ None → sound-of dialect (rows ++ more) ≡ rows ++ take_while (is_sound dialect (columns_of (rows ++ more))) more
clean-front dialect [] more none = refl
clean-front dialect (first ∷ rows) more none = all-right dialect (length first) 0 (first ∷ rows) more none

clean-all : (dialect : Dialect) (rows : List Row) → fault-of dialect rows ≡ None → sound-of dialect rows ≡ rows
clean-all dialect rows none = ap (sound-of dialect) (sym (append-nil rows)) ∙ clean-front dialect rows [] none ∙ append-nil rows

-- sound rows, and a bad one below them
bad-next : (dialect : Dialect) (rows more : List Row) (row : Row) (fault : RowsFault) → fault-of dialect rows ≡ None → fault_below dialect rows (Some row) ≡ Some fault → sound-of dialect ((rows ++ row ∷ []) ++ more) ≡ rows
bad-next dialect rows more row fault none bad =
    let wrong = some-unsound dialect (columns_of (rows ++ row ∷ more)) (length rows) row fault (ap (λ (n : ℕ). row_fault dialect n (length rows) row) (same rows) ∙ bad) in
    ap (sound-of dialect) (append_assoc rows (row ∷ []) more)
    ∙ clean-front dialect rows (row ∷ more) none
    ∙ ap (λ (rs : List Row). rows ++ rs) (take_while-cons (is_sound dialect (columns_of (rows ++ row ∷ more))) row more ∙ rw wrong refl)
    ∙ append-nil rows where
      same : (rows : List Row) → columns_of (rows ++ row ∷ more) ≡ columns_of (rows ++ row ∷ [])
      same [] = refl
      same (first ∷ rows) = refl

-- ---- a text

-- the row at hand behind a text
abbrev last-of : Dialect → List ℕ → List Row
last-of dialect text = cons_option (row_left dialect (scan_of dialect text)) []

-- the rows that a scan has found stay
rows-grow : (dialect : Dialect) (s : Scan) (text : List ℕ) → (more : List Row) × ((scan_from dialect s text).rows ≡ s.rows ++ more)
rows-grow dialect s [] = ([], sym (append-nil s.rows))
rows-grow dialect s (byte ∷ text) =
    let (more, is) = rows-grow dialect (scan_after dialect s byte) text in
    let row = cons_option (row_at dialect s byte) [] in
    (row ++ more, is ∙ append_assoc s.rows row more)

rows-behind : (dialect : Dialect) (text behind : List ℕ) → (more : List Row) × ((scan_of dialect (text ++ behind)).rows ≡ (scan_of dialect text).rows ++ more)
rows-behind dialect text behind =
    let (more, is) = rows-grow dialect (scan_of dialect text) behind in
    (more, ap (λ (s : Scan). s.rows) (scan-append dialect scan_start text behind) ∙ is)

-- the first text behind a quote of two texts: that of the first one
first-stays : (dialect : Dialect) (text behind : List ℕ) (n : ℕ) → first_behind_quote dialect text ≡ Some n → first_behind_quote dialect (text ++ behind) ≡ Some n
first-stays dialect text behind n is = by-bytes (λ more. first_behind_quote dialect (text ++ more) ≡ Some n) (ap (first_behind_quote dialect) (append-nil text) ∙ is) next behind where
  next : (more : List ℕ) (byte : ℕ) → first_behind_quote dialect (text ++ more) ≡ Some n → first_behind_quote dialect (text ++ (more ++ byte ∷ [])) ≡ Some n
  next more byte holds =
      ap (first_behind_quote dialect) (sym (append_assoc text more (byte ∷ [])))
      ∙ first-more dialect (text ++ more) byte
      ∙ rw holds refl

-- or else one behind it
abbrev Late : Dialect → List ℕ → List ℕ → Type 0
Late dialect text more = (n : ℕ) → first_behind_quote dialect (text ++ more) ≡ Some n → length text ≤ n

first-late : (dialect : Dialect) (text behind : List ℕ) → first_behind_quote dialect text ≡ None → Late dialect text behind
first-late dialect text behind none = by-bytes (Late dialect text) start next behind where
  start : Late dialect text []
  start n is = let never = sym (ap (first_behind_quote dialect) (append-nil text) ∙ none) ∙ is in cc

  next : (more : List ℕ) (byte : ℕ) → Late dialect text more → Late dialect text (more ++ byte ∷ [])
  next more byte holds n is =
      let front = text ++ more in
      let found = sym (first-more dialect front byte) ∙ ap (first_behind_quote dialect) (append_assoc text more (byte ∷ [])) ∙ is in
      go (first_behind_quote dialect front) _ refl found where
        go : (place : Option ℕ) (here : Bool) → first_behind_quote dialect (text ++ more) ≡ place → option_or place (place-of (text ++ more) here) ≡ Some n → length text ≤ n
        go None true none e = let is = ap (λ (o : Option ℕ). unwrap_or o 0) e in omega (arith, length-append text more, is)
        go None false none e = let f = e in cc
        go (Some m) here at e = holds n (at ∙ e)

-- the rows whose quotes are where they may be: those that ended in front, and some more
quoted-grow : (dialect : Dialect) (text behind : List ℕ) → first_behind_quote dialect text ≡ None → (more : List Row) × (quoted_rows dialect (text ++ behind) ≡ (scan_of dialect text).rows ++ more)
quoted-grow dialect text behind none = go (first_behind_quote dialect (text ++ behind)) (quote_fault dialect (text ++ behind)) refl refl where
  go : (place : Option ℕ) (quote : Option RowsFault) → first_behind_quote dialect (text ++ behind) ≡ place → quote_fault dialect (text ++ behind) ≡ quote
      → (more : List Row) × (quoted_rows dialect (text ++ behind) ≡ (scan_of dialect text).rows ++ more)
  go place None at is =
      let (more, rows) = rows-behind dialect text behind in
      let last = last-of dialect (text ++ behind) in
      (more ++ last, quoted-by dialect (text ++ behind) place None at is ∙ all-scanned dialect (text ++ behind) ∙ ap (λ (rs : List Row). rs ++ last) rows ∙ append_assoc (scan_of dialect text).rows more last)
  go None (Some fault) at is =
      let (more, rows) = rows-behind dialect text behind in
      (more, quoted-by dialect (text ++ behind) None (Some fault) at is ∙ ended-scanned dialect (text ++ behind) ∙ rows)
  go (Some n) (Some fault) at is =
      let late = first-late dialect text behind none n at in
      let place : length text + (n - length text) ≡ n = omega (arith, late) in
      let front : take n (text ++ behind) ≡ text ++ take (n - length text) behind = ap (λ (k : ℕ). take k (text ++ behind)) (sym place) ∙ take-append-add text behind (n - length text) in
      let (more, rows) = rows-behind dialect text (take (n - length text) behind) in
      (more, quoted-by dialect (text ++ behind) (Some n) (Some fault) at is ∙ ended-scanned dialect (take n (text ++ behind)) ∙ ap (λ (xs : List ℕ). (scan_of dialect xs).rows) front ∙ rows)

-- with no fault so far, the rows that ended are the first sound ones of a text that goes on
pub ended-first : (dialect : Dialect) (text behind : List ℕ) → (scan_of dialect text).fault ≡ None → (more : List Row) × (sound_rows_in dialect (text ++ behind) ≡ (scan_of dialect text).rows ++ more)
ended-first dialect text behind right =
    let (none, sound) = clean dialect text right in
    let (more, rows) = quoted-grow dialect text behind none in
    (_, ap (sound-of dialect) rows ∙ clean-front dialect (scan_of dialect text).rows more sound)

-- and all of them, where the next byte shows a fault
module _ (dialect : Dialect) (text : List ℕ) (byte : ℕ) (behind : List ℕ) (right : (scan_of dialect text).fault ≡ None) where
  abbrev now : Scan
  now = scan_of dialect text

  abbrev whole : List ℕ
  whole = (text ++ byte ∷ []) ++ behind

  -- text behind a quote
  stops-behind : is_behind now.hand.state (scan_after dialect now byte).hand.state ≡ true → sound_rows_in dialect whole ≡ now.rows
  stops-behind is =
      let (none, sound) = clean dialect text right in
      let n = length text in
      let next : first_behind_quote dialect (text ++ byte ∷ []) ≡ Some n = first-next dialect text byte none ∙ ap (place-of text) is in
      let place = first-stays dialect (text ++ byte ∷ []) behind n next in
      let front : take n whole ≡ text = ap (take n) (append_assoc text (byte ∷ []) behind) ∙ take-append_seam text (byte ∷ behind) in
      let rows = quoted-by dialect whole (Some n) (Some (BehindQuote (line_behind (take n whole)))) place (rw place refl) ∙ ended-scanned dialect (take n whole) ∙ ap (λ (xs : List ℕ). (scan_of dialect xs).rows) front in
      ap (sound-of dialect) rows ∙ clean-all dialect now.rows sound

  -- a bad row
  stops-row : (row : Option Row) (fault : RowsFault) → is_behind now.hand.state (scan_after dialect now byte).hand.state ≡ false → row_at dialect now byte ≡ row → fault_below dialect now.rows row ≡ Some fault → sound_rows_in dialect whole ≡ now.rows
  stops-row None fault none ends bad = let f = bad in cc
  stops-row (Some row) fault none ends bad =
      let (first, sound) = clean dialect text right in
      let (more, rows) = quoted-grow dialect (text ++ byte ∷ []) behind (first-next dialect text byte first ∙ ap (place-of text) none) in
      let next : (scan_of dialect (text ++ byte ∷ [])).rows ≡ now.rows ++ row ∷ [] = ap (λ (s : Scan). s.rows) (scan-append dialect scan_start text (byte ∷ [])) ∙ ap (with_row now.rows) ends in
      ap (sound-of dialect) (rows ∙ ap (λ (rs : List Row). rs ++ more) next) ∙ bad-next dialect now.rows more row fault sound bad

  pub stops-at : (fault : RowsFault) → (scan_after dialect now byte).fault ≡ Some fault → sound_rows_in dialect whole ≡ now.rows
  stops-at fault found = elim (cases_Bool (is_behind now.hand.state (scan_after dialect now byte).hand.state)) [
    | inl is-true ↦ stops-behind is-true
    | inr is-false ↦ stops-row (row_at dialect now byte) fault is-false refl (rw (right, is-false) at found)
  ]

-- or the end does
module _ (dialect : Dialect) (text : List ℕ) (right : (scan_of dialect text).fault ≡ None) where
  abbrev ended : List Row
  ended = (scan_of dialect text).rows

  stops-end : (quote : Option RowsFault) (row : Option Row) (fault : RowsFault) → quote_fault dialect text ≡ quote → row_left dialect (scan_of dialect text) ≡ row → option_or quote (fault_below dialect ended row) ≡ Some fault
      → sound_rows_in dialect text ≡ ended
  stops-end None None fault is last e = let f = e in cc
  stops-end None (Some row) fault is last e =
      let (none, sound) = clean dialect text right in
      let all = quoted-by dialect text None None none is ∙ all-scanned dialect text ∙ ap (with_row ended) last in
      ap (sound-of dialect) (all ∙ sym (append-nil (ended ++ row ∷ []))) ∙ bad-next dialect ended [] row fault sound e
  stops-end (Some q) row fault is last e =
      let (none, sound) = clean dialect text right in
      ap (sound-of dialect) (quoted-by dialect text None (Some q) none is ∙ ended-scanned dialect text) ∙ clean-all dialect ended sound

  pub stops-last : (fault : RowsFault) → text_fault dialect text ≡ Some fault → sound_rows_in dialect text ≡ ended
  stops-last fault wrong =
      let s = scan_of dialect text in
      stops-end (scan.open_fault s.hand) (row_left dialect s) fault (rw (clean dialect text right).0 (open-is dialect text)) refl (sym (fault-last dialect text right) ∙ wrong)

-- ---- bytes

-- where nothing is wrong, all rows are sound
pub all-sound : (dialect : Dialect) (bytes : List ℕ) → rows_fault dialect bytes ≡ None → sound_rows dialect bytes ≡ rows_of dialect bytes
unfolding rows_fault sound_rows
all-sound dialect bytes right =
    let text = kept_text dialect bytes in
    let (none, quote) = or-parts (fault-of dialect (quoted_rows dialect text)) (quote_fault dialect text) right in
    clean-all dialect (quoted_rows dialect text) none ∙ quoted-by dialect text (first_behind_quote dialect text) None refl quote

take_while-first : {X : Type 0} (p : X → Bool) (xs : List X) → (more : List X) × (xs ≡ take_while p xs ++ more)
take_while-first {X} p [] = ([], refl)
take_while-first {X} p (x ∷ xs) = elim (cases_Bool (p x)) [
  | inl is-true ↦
      let (more, is) = take_while-first p xs in
      let front : take_while p (x ∷ xs) ≡ x ∷ take_while p xs = take_while-cons p x xs ∙ rw is-true refl in
      (more, ap (λ (ys : List X). x ∷ ys) is ∙ ap (λ (ys : List X). ys ++ more) (sym front))
  | inr is-false ↦
      let front : take_while p (x ∷ xs) ≡ [] = take_while-cons p x xs ∙ rw is-false refl in
      (x ∷ xs, ap (λ (ys : List X). ys ++ (x ∷ xs)) (sym front))
]

quoted-among : (dialect : Dialect) (text : List ℕ) → (more : List Row) × (rows_in dialect text ≡ quoted_rows dialect text ++ more)
quoted-among dialect text = go (first_behind_quote dialect text) (quote_fault dialect text) refl refl where
  go : (place : Option ℕ) (quote : Option RowsFault) → first_behind_quote dialect text ≡ place → quote_fault dialect text ≡ quote → (more : List Row) × (rows_in dialect text ≡ quoted_rows dialect text ++ more)
  go place None at is = ([], sym (quoted-by dialect text place None at is) ∙ sym (append-nil (quoted_rows dialect text)))
  go None (Some fault) at is =
      (last-of dialect text, all-scanned dialect text ∙ ap (λ (rs : List Row). rs ++ last-of dialect text) (sym (quoted-by dialect text None (Some fault) at is ∙ ended-scanned dialect text)))
  go (Some n) (Some fault) at is =
      let (more, rows) = rows-behind dialect (take n text) (drop n text) in
      let front = quoted-by dialect text (Some n) (Some fault) at is ∙ ended-scanned dialect (take n text) in
      let all = ap (λ (xs : List ℕ). (scan_of dialect xs).rows) (sym (take-append-drop n text)) ∙ rows ∙ ap (λ (rs : List Row). rs ++ more) (sym front) in
      (more ++ last-of dialect text, all-scanned dialect text ∙ ap (λ (rs : List Row). rs ++ last-of dialect text) all ∙ append_assoc (quoted_rows dialect text) more (last-of dialect text))

-- and the sound ones are always the first rows of all
pub sound-first : (dialect : Dialect) (bytes : List ℕ) → (more : List Row) × (rows_of dialect bytes ≡ sound_rows dialect bytes ++ more)
unfolding sound_rows
sound-first dialect bytes =
    let text = kept_text dialect bytes in
    let (behind, all) = quoted-among dialect text in
    let (more, quoted) = take_while-first (is_sound dialect (columns_of (quoted_rows dialect text))) (quoted_rows dialect text) in
    (more ++ behind, all ∙ ap (λ (rs : List Row). rs ++ behind) quoted ∙ append_assoc (sound_rows_in dialect text) more behind)

-- ---- rows that are text, and rows that aren't

-- the test and the fact
passes : (fields : List (List ℕ)) → AllText fields → list_all is_utf8 fields ≡ true
unfolding AllText
passes [] h = refl
passes (field ∷ fields) h = rw (is_utf8-from_IsUtf8 field h.0) (passes fields h.1)

is_text : (fields : List (List ℕ)) → list_all is_utf8 fields ≡ true → AllText fields
unfolding AllText
is_text [] e = tt
is_text (field ∷ fields) e =
    let parts = and_parts (is_utf8 field) (list_all is_utf8 fields) e in
    (IsUtf8-from_is_utf8 field parts.0, is_text fields parts.1)

-- a row of the right length that is text is right, and one that is no text isn't
pub row_right : (dialect : Dialect) (columns row : ℕ) (fields : List (List ℕ)) → has_length dialect columns (length fields) ≡ true → AllText fields → row_fault dialect columns row fields ≡ None
row_right dialect columns row fields long text = rw (long, passes fields text) refl

pub row_wrong : (dialect : Dialect) (columns row : ℕ) (fields : List (List ℕ)) → has_length dialect columns (length fields) ≡ true → ¬ (AllText fields) → row_fault dialect columns row fields ≡ Some (Encoding (number_of row) 0)
row_wrong dialect columns row fields long none = elim (cases_Bool (list_all is_utf8 fields)) [
  | inl passed ↦ absurd (none (is_text fields passed))
  | inr failed ↦ rw (long, failed) refl
]

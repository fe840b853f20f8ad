-- What is read of a text, byte by byte or in runs, and its lines.
use Rattle.std.proofs.Common.{◌≡◌, ◌≢◌, ◌<◌, ◌≤◌, ◌∙◌, ℕ, zero, suc, ◌+◌, ◌-◌, Bool, true, false, List, [], ◌∷◌, ◌++◌, length, take, drop, Option, None, Some, inl, inr, refl, sym, ap}
use Rattle.std.proofs.Common.{get_or, append-nil, append_assoc, arith, eq-eqb, ◌&&◌, ◌||◌, not, unwrap_or, subst}
use Rattle.std.specs.Prelude.{◌==◌, fold, is_ok, if◌then◌else◌, OnOk, Result, Ok, Err, ⊤, nat_le, slice_get}
use Rattle.std.specs.List.{list_all, slice_range}
use Rattle.std.specs.Option.{option_or}
use Rattle.std.proofs.lemmas.Bool.{and_parts, cases_Bool, cases_lt, false≢true, false_from_ne_true, ne_eqb, true≢false, eqb-true}
use Rattle.std.proofs.Math.Bool.{and-false}
use Rattle.std.proofs.lemmas.List.{get_or-drop, length-drop, take_more}
use Rattle.std.proofs.lemmas.List.Sums.{fold-append}
use Rattle.csv.specs.declared.parser.State.{State}
use Rattle.csv.specs.declared.parser.State.TheVariants as st
use Rattle.memchr.specs.Find.{IsFirstByte, is_byte, is_byte3, places_from}
use Rattle.ruled_csv.specs.Inside.{Hand, Joins, Scan, calm_lines, fields_behind, hand_cut, is_bare, is_calm, scan_after, scan_from, state_of, Left, leaves_out, read_of, left_after}
use Rattle.ruled_csv.specs.Inside.{left_from, left_of, left_start, lines_after, lines_start}
use Rattle.ruled_csv.specs.Quotes.{separator, has_quotes, is_closing, is_quoted, is_comment, line_behind, config_of, state_behind}
use Rattle.ruled_csv.specs.declared.scanner.Standing.{Standing}
use Rattle.ruled_csv.specs.declared.scanner.Standing.TheVariants as at
use Rattle.ruled_csv.specs.declared.dialect.Dialect.{Dialect}
use Rattle.std.proofs.lemmas.Grind.{flat_map-append}
use Rattle.csv.specs.Machine.{ends_at_end, step}
use Rattle.csv.specs.declared.parser.Action.{Action}
use Rattle.csv.specs.declared.parser.Action.TheVariants as act
use Rattle.ruled_csv.specs.Kept.{empty_line, end_of, is_line_end, is_left_out, kept_line, kept_text, lines_behind, LinesCount}
use Rattle.ruled_csv.specs.declared.lines.Lines.{Lines}
use Rattle.ruled_csv.proofs.TextFaults.{line-counted}

-- ---- runs: bytes of which none is a quote and none ends a line

-- ---- what a search finds

abbrev stops : ℕ → Bool
stops byte = is_byte3 34 13 10 byte

calm-byte : (byte : ℕ) → ¬ (stops byte ≡ true) → is_calm byte ≡ true
calm-byte byte none = rw (false_from_ne_true (stops byte) none) refl

-- bytes in front of which none stops a run
calm-front : (bytes : List ℕ) (n : ℕ) → ((k : ℕ) → k < n → k < length bytes → ¬ (stops (get_or bytes k 0) ≡ true)) → list_all is_calm (take n bytes) ≡ true
calm-front [] zero none = refl
calm-front [] (suc n) none = refl
calm-front (byte ∷ bytes) zero none = refl
calm-front (byte ∷ bytes) (suc n) none =
    rw (calm-byte byte (none 0 (omega arith) (omega arith)), calm-front bytes n (λ k low high. none (suc k) (omega (arith, low)) (omega (arith, high)))) refl

pub calm_found : (bytes : List ℕ) (found : Option ℕ) → IsFirstByte stops bytes found → list_all is_calm (take (unwrap_or found (length bytes)) bytes) ≡ true
calm_found bytes None first = calm-front bytes (length bytes) (λ k low high. first k (omega arith) high)
calm_found bytes (Some end) first = calm-front bytes end (λ k low high. first.0.before k (omega arith) low)

-- ---- a byte

-- what a byte of a run is not
record Calm (byte : ℕ) : Type 0 where
  pub quote : (byte == 34) ≡ false
  pub return : (byte == 13) ≡ false
  pub feed : (byte == 10) ≡ false

calm-parts : (byte : ℕ) → is_calm byte ≡ true → Calm byte
calm-parts byte calm = go (byte == 34) (byte == 13) (byte == 10) refl refl refl calm where
  go : (quote return feed : Bool) → (byte == 34) ≡ quote → (byte == 13) ≡ return → (byte == 10) ≡ feed → not (quote || return || feed) ≡ true → Calm byte
  go false false false a b c e = record { quote = a; return = b; feed = c }
  go true return feed a b c e = absurd (false≢true e)
  go false true feed a b c e = absurd (false≢true e)
  go false false true a b c e = absurd (false≢true e)

or-none : {X : Type 0} (a : Option X) → option_or a None ≡ a
or-none None = refl
or-none (Some x) = refl

-- a scan with another row at hand, and nothing new besides
pub same-scan : (s : Scan) (hand : Hand) → record { rows = s.rows ++ []; hand = hand; fault = option_or s.fault None } ≡ record s { hand = hand }
same-scan s hand = rw (append-nil s.rows, or-none s.fault) refl

-- ---- a run in quotes

quoted-byte : (dialect : Dialect) (s : Scan) (byte : ℕ) → is_calm byte ≡ true → s.hand.state ≡ st.InQuoted
    → scan_after dialect s byte ≡ record s { hand = record s.hand { field = s.hand.field ++ byte ∷ []; lines = calm_lines s.hand.lines } }
quoted-byte dialect s byte calm quoted =
    let no = calm-parts byte calm in
    rw (quoted, no.quote, and-false (has_quotes dialect.rows.fields), no.return, no.feed)
    (same-scan s (record { state = st.InQuoted; fields = s.hand.fields; field = s.hand.field ++ byte ∷ []; lines = calm_lines s.hand.lines; opened = s.hand.opened }))

quoted-run : (dialect : Dialect) (s : Scan) (byte : ℕ) (rest : List ℕ) → list_all is_calm (byte ∷ rest) ≡ true → s.hand.state ≡ st.InQuoted
    → scan_from dialect s (byte ∷ rest) ≡ record s { hand = record s.hand { field = s.hand.field ++ byte ∷ rest; lines = calm_lines s.hand.lines } }
quoted-run dialect s byte [] calm quoted = quoted-byte dialect s byte (and_parts (is_calm byte) (list_all is_calm []) calm).0 quoted
quoted-run dialect s byte (next ∷ rest) calm quoted =
    let parts = and_parts (is_calm byte) (list_all is_calm (next ∷ rest)) calm in
    let after : Scan = record s { hand = record s.hand { field = s.hand.field ++ byte ∷ []; lines = calm_lines s.hand.lines } } in
    ap (λ (t : Scan). scan_from dialect t (next ∷ rest)) (quoted-byte dialect s byte parts.0 quoted)
    ∙ quoted-run dialect after next rest parts.1 quoted
    ∙ ap (λ (xs : List ℕ). record s { hand = record s.hand { field = xs; lines = calm_lines s.hand.lines } }) (append_assoc s.hand.field (byte ∷ []) (next ∷ rest))

pub quoted-joins : (dialect : Dialect) (run : List ℕ) (old : Hand) → list_all is_calm run ≡ true → 0 < length run → old.state ≡ st.InQuoted
    → Joins dialect run old (record old { field = old.field ++ run; lines = calm_lines old.lines })
quoted-joins dialect [] old calm some quoted = absurd (omega arith)
quoted-joins dialect (byte ∷ rest) old calm some quoted = λ s is.
    quoted-run dialect s byte rest calm (ap (λ (hand : Hand). hand.state) is ∙ quoted)
    ∙ ap (λ (hand : Hand). record s { hand = record hand { field = hand.field ++ byte ∷ rest; lines = calm_lines hand.lines } }) is

-- ---- a run in no quotes

-- the row at hand behind a byte of it
abbrev cut-byte : Dialect → Hand → ℕ → Hand
cut-byte dialect hand byte = record (hand_cut dialect hand (byte ∷ [])) { lines = calm_lines hand.lines }

abbrev ended-field : Hand → Hand
ended-field hand = record { state = st.StartField; fields = hand.fields ++ hand.field ∷ []; field = []; lines = calm_lines hand.lines; opened = hand.opened }

abbrev joined-field : Hand → ℕ → Hand
joined-field hand byte = record { state = st.InField; fields = hand.fields; field = hand.field ++ byte ∷ []; lines = calm_lines hand.lines; opened = hand.opened }

bare-byte : (dialect : Dialect) (s : Scan) (byte : ℕ) (before : Standing) → is_calm byte ≡ true → s.hand.state ≡ state_of before → is_bare (state_of before) ≡ true
    → scan_after dialect s byte ≡ record s { hand = cut-byte dialect s.hand byte }
bare-byte dialect s byte at.Row calm is bare =
    let no = calm-parts byte calm in
    elim (cases_Bool (byte == separator dialect)) [
      | inl ends ↦ rw (is, no.quote, and-false (has_quotes dialect.rows.fields), no.return, no.feed, ends) (same-scan s (ended-field s.hand))
      | inr joins ↦ rw (is, no.quote, and-false (has_quotes dialect.rows.fields), no.return, no.feed, joins) (same-scan s (joined-field s.hand byte))
    ]
bare-byte dialect s byte at.Return calm is bare =
    let no = calm-parts byte calm in
    elim (cases_Bool (byte == separator dialect)) [
      | inl ends ↦ rw (is, no.quote, and-false (has_quotes dialect.rows.fields), no.return, no.feed, ends) (same-scan s (ended-field s.hand))
      | inr joins ↦ rw (is, no.quote, and-false (has_quotes dialect.rows.fields), no.return, no.feed, joins) (same-scan s (joined-field s.hand byte))
    ]
bare-byte dialect s byte at.Field calm is bare =
    let no = calm-parts byte calm in
    elim (cases_Bool (byte == separator dialect)) [
      | inl ends ↦ rw (is, no.quote, and-false (has_quotes dialect.rows.fields), no.return, no.feed, ends) (same-scan s (ended-field s.hand))
      | inr joins ↦ rw (is, no.quote, and-false (has_quotes dialect.rows.fields), no.return, no.feed, joins) (same-scan s (joined-field s.hand byte))
    ]
bare-byte dialect s byte at.Plain calm is bare =
    let no = calm-parts byte calm in
    elim (cases_Bool (byte == separator dialect)) [
      | inl ends ↦ rw (is, no.return, no.feed, ends) (same-scan s (ended-field s.hand))
      | inr joins ↦ rw (is, no.return, no.feed, joins) (same-scan s (joined-field s.hand byte))
    ]
bare-byte dialect s byte at.Quoted calm is bare = absurd (false≢true bare)
bare-byte dialect s byte at.Closing calm is bare = absurd (false≢true bare)

bare-run : (dialect : Dialect) (s : Scan) (byte : ℕ) (rest : List ℕ) (before : Standing) → list_all is_calm (byte ∷ rest) ≡ true → s.hand.state ≡ state_of before → is_bare (state_of before) ≡ true
    → scan_from dialect s (byte ∷ rest) ≡ record s { hand = record (hand_cut dialect s.hand (byte ∷ rest)) { lines = calm_lines s.hand.lines } }
bare-run dialect s byte [] before calm is bare = bare-byte dialect s byte before (and_parts (is_calm byte) (list_all is_calm []) calm).0 is bare
bare-run dialect s byte (next ∷ rest) before calm is bare =
    let parts = and_parts (is_calm byte) (list_all is_calm (next ∷ rest)) calm in
    let after : Scan = record s { hand = cut-byte dialect s.hand byte } in
    ap (λ (t : Scan). scan_from dialect t (next ∷ rest)) (bare-byte dialect s byte before parts.0 is bare)
    ∙ elim (cases_Bool (byte == separator dialect)) [
      | inl ends ↦ bare-run dialect after next rest at.Field parts.1 (ap field-or-plain ends) refl
      | inr joins ↦ bare-run dialect after next rest at.Plain parts.1 (ap field-or-plain joins) refl
    ] where
      field-or-plain : Bool → State
      field-or-plain ends = if ends then st.StartField else st.InField

pub bare-joins : (dialect : Dialect) (run : List ℕ) (old : Hand) (before : Standing) → list_all is_calm run ≡ true → 0 < length run → old.state ≡ state_of before → is_bare (state_of before) ≡ true
    → Joins dialect run old (record (hand_cut dialect old run) { lines = calm_lines old.lines })
bare-joins dialect [] old before calm some at bare = absurd (omega arith)
bare-joins dialect (byte ∷ rest) old before calm some at bare = λ s is.
    bare-run dialect s byte rest before calm (ap (λ (hand : Hand). hand.state) is ∙ at) bare
    ∙ ap (λ (hand : Hand). record s { hand = record (hand_cut dialect hand (byte ∷ rest)) { lines = calm_lines hand.lines } }) is

-- ---- what is in front of a run

pub quoted-state : (before : Standing) → is_quoted (state_of before) ≡ true → state_of before ≡ st.InQuoted
quoted-state at.Row e = absurd (false≢true e)
quoted-state at.Return e = absurd (false≢true e)
quoted-state at.Field e = absurd (false≢true e)
quoted-state at.Plain e = absurd (false≢true e)
quoted-state at.Quoted e = refl
quoted-state at.Closing e = absurd (false≢true e)

pub bare-state : (state : State) → is_quoted state ≡ false → is_closing state ≡ false → is_bare state ≡ true
bare-state state quoted closing = rw (quoted, closing) refl

-- ---- a run that is cut byte by byte

-- a part of a list, and the part with an element more
part-more : (run : List ℕ) (start i : ℕ) → start ≤ i → i < length run → slice_range run start (i + 1) ≡ slice_range run start i ++ get_or run i 0 ∷ []
part-more run start i low high =
    let long : i - start < length (drop start run) = omega (arith, length-drop start run, low, high) in
    let more : i + 1 - start ≡ (i - start) + 1 = omega (arith, low) in
    let place : start + (i - start) ≡ i = omega (arith, low) in
    ap (λ (n : ℕ). take n (drop start run)) more
    ∙ take_more (drop start run) (i - start) 0 long
    ∙ ap (λ (byte : ℕ). slice_range run start i ++ byte ∷ []) (get_or-drop start run (i - start) 0 ∙ ap (λ (n : ℕ). get_or run n 0) place)

fold-more : {B : Type 0} (f : B → ℕ → B) (b : B) (run : List ℕ) (i : ℕ) → i < length run → fold f b (take (i + 1) run) ≡ f (fold f b (take i run)) (get_or run i 0)
fold-more f b run i within = ap (fold f b) (take_more run i 0 within) ∙ fold-append f b (take i run) (get_or run i 0 ∷ [])

module _ (dialect : Dialect) (run : List ℕ) (i : ℕ) (within : i < length run) where
  module _ (first : List (List ℕ) × List ℕ) (start : ℕ) (fields : List (List ℕ)) (field : List ℕ) (low : start ≤ i)
      (cut : fold (fields_behind dialect) first (take i run) ≡ (fields, field ++ slice_range run start i)) where
    next : fold (fields_behind dialect) first (take (i + 1) run) ≡ fields_behind dialect (fields, field ++ slice_range run start i) (get_or run i 0)
    next = fold-more (fields_behind dialect) first run i within ∙ ap (λ (parts : List (List ℕ) × List ℕ). fields_behind dialect parts (get_or run i 0)) cut

    pub field-ends : get_or run i 0 ≡ (separator dialect) → fold (fields_behind dialect) first (take (i + 1) run) ≡ (fields ++ (field ++ slice_range run start i) ∷ [], [] ++ slice_range run (i + 1) (i + 1))
    field-ends ends =
        let none : i + 1 - (i + 1) ≡ 0 = omega arith in
        next ∙ rw (eq-eqb (get_or run i 0) (separator dialect) ends, none) refl

    pub field-joins : get_or run i 0 ≢ (separator dialect) → fold (fields_behind dialect) first (take (i + 1) run) ≡ (fields, field ++ slice_range run start (i + 1))
    field-joins joins =
        next ∙ rw (ne_eqb (get_or run i 0) (separator dialect) joins)
        (ap (λ (xs : List ℕ). (fields, xs)) (append_assoc field (slice_range run start i) (get_or run i 0 ∷ []) ∙ ap (λ (xs : List ℕ). field ++ xs) (sym (part-more run start i low within))))

-- ---- a run that is cut at its delimiters

-- the first of the places that are left: no byte in front of it passes the test
pub record NextPlace (test : ℕ → Bool) (run : List ℕ) (from end at : ℕ) (left : List ℕ) : Type 0 where
  pub low : from ≤ at
  pub high : at < end
  pub none : (k : ℕ) → from ≤ k → k < at → test (get_or run k 0) ≡ false
  pub hit : test (get_or run at 0) ≡ true
  pub rest : left ≡ places_from test run (at + 1) (end - (at + 1))

module _ (test : ℕ → Bool) (run : List ℕ) where
  pub next-place : (from n at : ℕ) (left : List ℕ) → places_from test run from n ≡ at ∷ left → NextPlace test run from (from + n) at left
  unfolding places_from
  next-place from zero at left e = absurd (omega (arith, ap (λ (xs : List ℕ). length xs) e))
  next-place from (suc n) at left e = elim (cases_Bool (test (get_or run from 0))) [
    | inl passes ↦
        let here : from ∷ places_from test run (from + 1) n ≡ at ∷ left = rw passes at e in
        let same : from ≡ at = ap (λ (xs : List ℕ). get_or xs 0 0) here in
        let count : n ≡ from + suc n - (at + 1) = omega (arith, same) in
        record {
          low = omega (arith, same);
          high = omega (arith, same);
          none = λ k low high. absurd (omega (arith, same, low, high));
          hit = ap (λ (k : ℕ). test (get_or run k 0)) (sym same) ∙ passes;
          rest = sym (ap (drop 1) here) ∙ ap (λ (k : ℕ). places_from test run (k + 1) n) same ∙ ap (places_from test run (at + 1)) count;
        }
    | inr fails ↦
        let next = next-place (from + 1) n at left (rw fails at e) in
        let end : from + 1 + n ≡ from + suc n = omega arith in
        record {
          low = omega (arith, next.low);
          high = omega (arith, next.high);
          none = λ k low high. elim (cases_lt from k) [
            | inl above ↦ next.none k (omega (arith, above)) high
            | inr below ↦ let same : k ≡ from = omega (arith, below, low) in ap (λ (j : ℕ). test (get_or run j 0)) same ∙ fails
          ];
          hit = next.hit;
          rest = next.rest ∙ ap (λ (m : ℕ). places_from test run (at + 1) (m - (at + 1))) end;
        }
  ]

  -- where none is left, no byte passes
  pub none-left : (from n : ℕ) → [] ≡ places_from test run from n → (k : ℕ) → from ≤ k → k < from + n → test (get_or run k 0) ≡ false
  unfolding places_from
  none-left from zero e k low high = absurd (omega (arith, low, high))
  none-left from (suc n) e k low high = elim (cases_Bool (test (get_or run from 0))) [
    | inl passes ↦ let here : [] ≡ from ∷ places_from test run (from + 1) n = rw passes at e in absurd (omega (arith, ap (λ (xs : List ℕ). length xs) here))
    | inr fails ↦ elim (cases_lt from k) [
      | inl above ↦ none-left (from + 1) n (rw fails at e) k (omega (arith, above)) (omega (arith, high))
      | inr below ↦ let same : k ≡ from = omega (arith, below, low) in ap (λ (j : ℕ). test (get_or run j 0)) same ∙ fails
    ]
  ]

-- bytes of which none is a delimiter join the field
pub run-joins : (dialect : Dialect) (run : List ℕ) (first : List (List ℕ) × List ℕ) (start n : ℕ) (fields : List (List ℕ)) (field : List ℕ) → start + n ≤ length run
    → ((k : ℕ) → start ≤ k → k < start + n → is_byte (separator dialect) (get_or run k 0) ≡ false) → fold (fields_behind dialect) first (take start run) ≡ (fields, field)
    → fold (fields_behind dialect) first (take (start + n) run) ≡ (fields, field ++ slice_range run start (start + n))
run-joins dialect run first start zero fields field within none cut =
    let at : start + 0 ≡ start = omega arith in
    let empty : 0 ≡ start + 0 - start = omega arith in
    ap (λ (k : ℕ). fold (fields_behind dialect) first (take k run)) at ∙ cut
    ∙ ap (λ (xs : List ℕ). (fields, xs)) (sym (append-nil field) ∙ ap (λ (k : ℕ). field ++ take k (drop start run)) empty)
run-joins dialect run first start (suc n) fields field within none cut =
    let i : ℕ = start + n in
    let before = run-joins dialect run first start n fields field (omega (arith, within)) (λ k low high. none k low (omega (arith, high))) cut in
    let next : start + suc n ≡ i + 1 = omega arith in
    let other : get_or run i 0 ≢ (separator dialect) = λ is. absurd (false≢true (sym (none i (omega arith) (omega arith)) ∙ eq-eqb (get_or run i 0) (separator dialect) is)) in
    ap (λ (k : ℕ). fold (fields_behind dialect) first (take k run)) next
    ∙ field-joins dialect run i (omega (arith, within)) first start fields field (omega arith) before other
    ∙ ap (λ (k : ℕ). (fields, field ++ slice_range run start k)) (sym next)

-- ---- what is read of a text

-- ---- a byte

-- the state that a byte leaves
abbrev state_left : State × Action → State
state_left done = done.0

-- a byte that ends no line belongs to a row
row-begun : (dialect : Dialect) (state : State) (byte : ℕ) → is_line_end byte ≡ false → ends_at_end (step (config_of dialect) state byte).0 ≡ true
row-begun dialect state byte goes = go (byte == 10) (byte == 13) refl refl goes state where
  joins : (parts : Bool) → ends_at_end (state_left (if parts then (st.StartField, act.EndField) else (st.InField, act.Copy))) ≡ true
  joins true = refl
  joins false = refl

  starts : (quote parts : Bool) → ends_at_end (state_left (if quote then (st.InQuoted, act.Skip) else if parts then (st.StartField, act.EndField) else (st.InField, act.Copy))) ≡ true
  starts true parts = refl
  starts false parts = joins parts

  closes : (quote parts : Bool) → ends_at_end (state_left (if quote then (st.InQuoted, act.Copy) else if parts then (st.StartField, act.EndField) else (st.InField, act.Copy))) ≡ true
  closes true parts = refl
  closes false parts = joins parts

  quoted : (quote escape : Bool) → ends_at_end (state_left (if quote then (st.AfterQuote, act.Skip) else if escape then (st.InEscape, act.Skip) else (st.InQuoted, act.Copy))) ≡ true
  quoted true escape = refl
  quoted false true = refl
  quoted false false = refl

  go : (feed return : Bool) → (byte == 10) ≡ feed → (byte == 13) ≡ return → (feed || return) ≡ false → (state : State) → ends_at_end (step (config_of dialect) state byte).0 ≡ true
  go true return a b e state = absurd (true≢false e)
  go false true a b e state = absurd (true≢false e)
  go false false a b e st.StartRecord = rw (a, b) (starts (has_quotes dialect.rows.fields && (byte == 34)) (byte == separator dialect))
  go false false a b e st.StartField = rw (a, b) (starts (has_quotes dialect.rows.fields && (byte == 34)) (byte == separator dialect))
  go false false a b e st.InField = rw (a, b) (joins (byte == separator dialect))
  go false false a b e st.InQuoted = quoted (has_quotes dialect.rows.fields && (byte == 34)) (has_quotes dialect.rows.fields && false)
  go false false a b e st.AfterQuote = rw (a, b) (closes (has_quotes dialect.rows.fields && true && (byte == 34)) (byte == separator dialect))
  go false false a b e st.InEscape = refl
  go false false a b e st.InComment = rw a refl
  go false false a b e st.AfterCr = rw (a, b) (starts (has_quotes dialect.rows.fields && (byte == 34)) (byte == separator dialect))

state-more : (dialect : Dialect) (text : List ℕ) (byte : ℕ) → state_behind dialect (text ++ byte ∷ []) ≡ (step (config_of dialect) (state_behind dialect text) byte).0
state-more dialect text byte = fold-append (λ (s : State) (b : ℕ). (step (config_of dialect) s b).0) st.StartRecord text (byte ∷ [])

abbrev IsWithin : Dialect → List ℕ → Type 0
IsWithin dialect text = ends_at_end (state_behind dialect text) ≡ true

within-more : (dialect : Dialect) (text : List ℕ) (byte : ℕ) → is_line_end byte ≡ false → IsWithin dialect (text ++ byte ∷ [])
within-more dialect text byte goes = ap ends_at_end (state-more dialect text byte) ∙ row-begun dialect (state_behind dialect text) byte goes

-- within a row no line is left out
within-kept : (dialect : Dialect) (above line : List ℕ) → IsWithin dialect above → is_left_out dialect above line ≡ false
within-kept dialect above line within = rw within refl

-- ---- a line

-- a line that has begun is left out as its first byte is
comment-first : (comment : Option ℕ) (first : ℕ) (line more : List ℕ) → is_comment comment (first ∷ line) ≡ is_comment comment (first ∷ more)
comment-first None first line more = refl
comment-first (Some sign) first line more = refl

first-decides : (dialect : Dialect) (above : List ℕ) (first : ℕ) (line more : List ℕ) → is_left_out dialect above (first ∷ line) ≡ is_left_out dialect above (first ∷ more)
first-decides dialect above first line more =
    ap (λ (b : Bool). not (ends_at_end (state_behind dialect above)) && not (is_line_end first) && (nat_le (line_behind above) dialect.rows.skipped || b)) (comment-first dialect.rows.comment first line more)

either : {X : Type 0} (b : Bool) (x : X) → (if b then x else x) ≡ x
either true x = refl
either false x = refl

middle-false : (b c : Bool) → (b && false && c) ≡ false
middle-false true c = refl
middle-false false c = refl

-- of no bytes nothing is read
none-kept : (dialect : Dialect) (above : List ℕ) → kept_line dialect above [] ≡ []
none-kept dialect above = either (is_left_out dialect above []) []

-- an empty line is read as it is
end-alone : (dialect : Dialect) (above : List ℕ) (byte : ℕ) → is_line_end byte ≡ true → is_left_out dialect above (byte ∷ []) ≡ false
end-alone dialect above byte ends = rw ends (middle-false (not (ends_at_end (state_behind dialect above))) _)

abbrev end_by : Bool → Bool → List ℕ
end_by feed return = if feed then 13 ∷ 10 ∷ [] else if return then 13 ∷ [] else []

no-end : (byte : ℕ) → is_line_end byte ≡ false → empty_line (byte ∷ []) ≡ []
no-end byte goes = append-nil (end_of byte) ∙ go (byte == 10) (byte == 13) goes where
  go : (feed return : Bool) → (feed || return) ≡ false → end_by feed return ≡ []
  go false false e = refl
  go true return e = absurd (true≢false e)
  go false true e = absurd (true≢false e)

-- where neither a line is left out nor begins to be, a byte is read
stays : {ends out begins : Bool} → ends ≡ false → out ≡ false → begins ≡ false → (not ends && (out || begins)) ≡ false
stays ends out begins = rw (ends, out, begins) refl

first-out : {ends out begins right : Bool} → ends ≡ false → out ≡ false → begins ≡ right → (not ends && (out || begins)) ≡ right
first-out ends out begins = rw (ends, out) begins

-- ---- a line, byte by byte

-- a line that has begun is left out
abbrev is_out_of : Dialect → List ℕ → List ℕ → Bool
is_out_of dialect above [] = false
is_out_of dialect above (first ∷ line) = is_left_out dialect above (first ∷ line)

-- or a row is at hand
abbrev IsAt : Dialect → List ℕ → List ℕ → List ℕ → Type 0
IsAt dialect above [] kept = ⊤
IsAt dialect above (first ∷ line) kept = is_left_out dialect above (first ∷ line) ≡ false → IsWithin dialect kept

-- these bytes of a line have come
record Come (dialect : Dialect) (above line : List ℕ) (left : Left) : Type 0 where
  pub kept : left.kept ≡ above ++ kept_line dialect above line
  pub out : left.is_out ≡ is_out_of dialect above line
  pub within : IsAt dialect above line left.kept
  pub goes : empty_line line ≡ []

-- a byte more
grown-line : (first : ℕ) (line : List ℕ) (byte : ℕ) → empty_line (first ∷ line) ≡ [] → empty_line ((first ∷ line) ++ byte ∷ []) ≡ empty_line (byte ∷ [])
grown-line first line byte none = flat_map-append end_of (first ∷ line) (byte ∷ []) ∙ ap (λ (xs : List ℕ). xs ++ empty_line (byte ∷ [])) none

-- the last one
end-kept : (dialect : Dialect) (above line : List ℕ) (byte : ℕ) (left : Left) → is_line_end byte ≡ true → Come dialect above line left
    → left.kept ++ (if left.is_out then end_of byte else byte ∷ []) ≡ above ++ kept_line dialect above (line ++ byte ∷ [])
end-kept dialect above [] byte left ends come =
    rw (come.out, end-alone dialect above byte ends) (ap (λ (xs : List ℕ). xs ++ byte ∷ []) (come.kept ∙ ap (λ (xs : List ℕ). above ++ xs) (none-kept dialect above) ∙ append-nil above))
end-kept dialect above (first ∷ line) byte left ends come = go (is_left_out dialect above (first ∷ line)) refl where
  same : is_left_out dialect above ((first ∷ line) ++ byte ∷ []) ≡ is_left_out dialect above (first ∷ line)
  same = first-decides dialect above first (line ++ byte ∷ []) line

  go : (b : Bool) → is_left_out dialect above (first ∷ line) ≡ b → left.kept ++ (if left.is_out then end_of byte else byte ∷ []) ≡ above ++ kept_line dialect above ((first ∷ line) ++ byte ∷ [])
  go true b =
      let kept : left.kept ≡ above ++ empty_line (first ∷ line) = rw b at come.kept in
      let bare : left.kept ≡ above = kept ∙ ap (λ (xs : List ℕ). above ++ xs) come.goes ∙ append-nil above in
      let out : left.is_out ≡ true = come.out ∙ b in
      let end : empty_line ((first ∷ line) ++ byte ∷ []) ≡ end_of byte = grown-line first line byte come.goes ∙ append-nil (end_of byte) in
      rw (out, same, b, end) (ap (λ (xs : List ℕ). xs ++ end_of byte) bare)
  go false b =
      let kept : left.kept ≡ above ++ (first ∷ line) = rw b at come.kept in
      let out : left.is_out ≡ false = come.out ∙ b in
      rw (out, same, b) (ap (λ (xs : List ℕ). xs ++ byte ∷ []) kept ∙ append_assoc above (first ∷ line) (byte ∷ []))

come-end : (dialect : Dialect) (above line : List ℕ) (byte : ℕ) (left : Left) → is_line_end byte ≡ true → Come dialect above line left → Come dialect (above ++ kept_line dialect above (line ++ byte ∷ [])) [] (left_after dialect left byte)
come-end dialect above line byte left ends come =
    let all = above ++ kept_line dialect above (line ++ byte ∷ []) in
    record {
      kept = rw ends (end-kept dialect above line byte left ends come ∙ sym (append-nil all) ∙ ap (λ (xs : List ℕ). all ++ xs) (sym (none-kept dialect all)));
      out = rw ends refl;
      within = tt;
      goes = refl;
    }

-- the first one, and each other one
come-more : (dialect : Dialect) (above line : List ℕ) (byte : ℕ) (left : Left) → is_line_end byte ≡ false → Come dialect above line left → Come dialect above (line ++ byte ∷ []) (left_after dialect left byte)
come-more dialect above [] byte left goes come =
    let is : left.kept ≡ above = come.kept ∙ ap (λ (xs : List ℕ). above ++ xs) (none-kept dialect above) ∙ append-nil above in
    let out : leaves_out dialect left byte ≡ is_left_out dialect above (byte ∷ []) = first-out goes come.out (ap (λ (xs : List ℕ). is_left_out dialect xs (byte ∷ [])) is) in
    go out is (is_left_out dialect above (byte ∷ [])) refl where
      go : leaves_out dialect left byte ≡ is_left_out dialect above (byte ∷ []) → left.kept ≡ above → (b : Bool) → is_left_out dialect above (byte ∷ []) ≡ b → Come dialect above (byte ∷ []) (left_after dialect left byte)
      go out is true b = record {
        kept = rw (out, b) (append-nil left.kept ∙ is ∙ sym (append-nil above) ∙ ap (λ (xs : List ℕ). above ++ xs) (sym (no-end byte goes)));
        out = out;
        within = λ no. absurd (true≢false (sym b ∙ no));
        goes = no-end byte goes;
      }
      go out is false b = record {
        kept = rw (out, b, come.out) (ap (λ (xs : List ℕ). xs ++ byte ∷ []) is);
        out = out;
        within = λ no. rw (out, b, come.out) (within-more dialect left.kept byte goes);
        goes = no-end byte goes;
      }
come-more dialect above (first ∷ line) byte left goes come = go (is_left_out dialect above (first ∷ line)) refl where
  none : empty_line ((first ∷ line) ++ byte ∷ []) ≡ []
  none = grown-line first line byte come.goes ∙ no-end byte goes

  same : is_left_out dialect above ((first ∷ line) ++ byte ∷ []) ≡ is_left_out dialect above (first ∷ line)
  same = first-decides dialect above first (line ++ byte ∷ []) line

  go : (b : Bool) → is_left_out dialect above (first ∷ line) ≡ b → Come dialect above ((first ∷ line) ++ byte ∷ []) (left_after dialect left byte)
  go true b =
      let out : left.is_out ≡ true = come.out ∙ b in
      let leaves : leaves_out dialect left byte ≡ true = rw (goes, out) refl in
      let kept : left.kept ≡ above ++ empty_line (first ∷ line) = rw b at come.kept in
      record {
        kept = rw (leaves, same, b) (append-nil left.kept ∙ kept ∙ ap (λ (xs : List ℕ). above ++ xs) (come.goes ∙ sym none));
        out = leaves ∙ sym (same ∙ b);
        within = λ no. absurd (true≢false (sym (same ∙ b) ∙ no));
        goes = none;
      }
  go false b =
      let out : left.is_out ≡ false = come.out ∙ b in
      let within : is_left_out dialect left.kept (byte ∷ []) ≡ false = within-kept dialect left.kept (byte ∷ []) (come.within b) in
      let leaves : leaves_out dialect left byte ≡ false = stays goes out within in
      let kept : left.kept ≡ above ++ (first ∷ line) = rw b at come.kept in
      record {
        kept = rw (leaves, same, b, out) (ap (λ (xs : List ℕ). xs ++ byte ∷ []) kept ∙ append_assoc above (first ∷ line) (byte ∷ []));
        out = leaves ∙ sym (same ∙ b);
        within = λ no. rw (leaves, out) (within-more dialect left.kept byte goes);
        goes = none;
      }

lines-kept : (dialect : Dialect) (above line text : List ℕ) (left : Left) → Come dialect above line left
    → fold (λ above line. above ++ kept_line dialect above line) above (lines_behind line text) ≡ (left_from dialect left text).kept
lines-kept dialect above line [] left come = sym come.kept
lines-kept dialect above line (byte ∷ text) left come = elim (cases_Bool (is_line_end byte)) [
  | inl ends ↦ rw ends (lines-kept dialect (above ++ kept_line dialect above (line ++ byte ∷ [])) [] text (left_after dialect left byte) (come-end dialect above line byte left ends come))
  | inr goes ↦ rw goes (lines-kept dialect above (line ++ byte ∷ []) text (left_after dialect left byte) (come-more dialect above line byte left goes come))
]

-- ---- a text

pub kept-is : (dialect : Dialect) (text : List ℕ) → kept_text dialect text ≡ (left_of dialect text).kept
unfolding kept_text
kept-is dialect text = lines-kept dialect [] [] text left_start (record { kept = sym (none-kept dialect []); out = refl; within = tt; goes = refl })

pub left-more : (dialect : Dialect) (text : List ℕ) (byte : ℕ) → left_of dialect (text ++ byte ∷ []) ≡ left_after dialect (left_of dialect text) byte
left-more dialect text byte = fold-append (left_after dialect) left_start text (byte ∷ [])

-- a byte that isn't read
pub kept-still : (dialect : Dialect) (text : List ℕ) (byte : ℕ) → leaves_out dialect (left_of dialect text) byte ≡ true → kept_text dialect (text ++ byte ∷ []) ≡ kept_text dialect text
kept-still dialect text byte out =
    let left = left_of dialect text in
    kept-is dialect (text ++ byte ∷ []) ∙ ap (λ (next : Left). next.kept) (left-more dialect text byte) ∙ rw out (append-nil left.kept) ∙ sym (kept-is dialect text)

-- one that is read, or one that ends a line that is left out
pub kept-more : (dialect : Dialect) (text : List ℕ) (byte : ℕ) (out : Bool) → leaves_out dialect (left_of dialect text) byte ≡ false → (left_of dialect text).is_out ≡ out
    → kept_text dialect (text ++ byte ∷ []) ≡ kept_text dialect text ++ (if out then end_of byte else byte ∷ [])
kept-more dialect text byte out read is =
    let left = left_of dialect text in
    kept-is dialect (text ++ byte ∷ []) ∙ ap (λ (next : Left). next.kept) (left-more dialect text byte) ∙ rw (read, is) (ap (λ (xs : List ℕ). xs ++ (if out then end_of byte else byte ∷ [])) (sym (kept-is dialect text)))

-- no row is at hand in a line that is left out
out-between : (dialect : Dialect) (left : Left) (text : List ℕ) → (left.is_out ≡ true → ends_at_end (state_behind dialect left.kept) ≡ false)
    → (left_from dialect left text).is_out ≡ true → ends_at_end (state_behind dialect (left_from dialect left text).kept) ≡ false
out-between dialect left [] holds = holds
out-between dialect left (byte ∷ text) holds = out-between dialect (left_after dialect left byte) text next where
  not-true : (b : Bool) → not b ≡ true → b ≡ false
  not-true false e = refl
  not-true true e = absurd (false≢true e)

  begun : (ends out a b c : Bool) → (out ≡ true → a ≡ false) → (not ends && (out || (not a && b && c))) ≡ true → a ≡ false
  begun ends true a b c holds e = holds refl
  begun ends false a b c holds e = not-true a (and_parts (not a) b (and_parts (not a && b) c (and_parts (not ends) (not a && b && c) e).1).0).0

  next : leaves_out dialect left byte ≡ true → ends_at_end (state_behind dialect (left_after dialect left byte).kept) ≡ false
  next out =
      let same : (left_after dialect left byte).kept ≡ left.kept = rw out (append-nil left.kept) in
      ap (λ (xs : List ℕ). ends_at_end (state_behind dialect xs)) same
      ∙ begun (is_line_end byte) left.is_out (ends_at_end (state_behind dialect left.kept)) (not (is_line_end byte)) (nat_le (line_behind left.kept) dialect.rows.skipped || is_comment dialect.rows.comment (byte ∷ [])) holds out

pub kept-between : (dialect : Dialect) (text : List ℕ) → (left_of dialect text).is_out ≡ true → ends_at_end (state_behind dialect (kept_text dialect text)) ≡ false
kept-between dialect text out = ap (λ (xs : List ℕ). ends_at_end (state_behind dialect xs)) (kept-is dialect text) ∙ out-between dialect left_start text (λ never. absurd (false≢true never)) out

-- what is read of a text is read of a longer one, too
left-grows : (dialect : Dialect) (left : Left) (text : List ℕ) → (more : List ℕ) × ((left_from dialect left text).kept ≡ left.kept ++ more)
left-grows dialect left [] = ([], sym (append-nil left.kept))
left-grows dialect left (byte ∷ text) =
    let (more, is) = left-grows dialect (left_after dialect left byte) text in
    (read_of dialect left byte ++ more, is ∙ append_assoc left.kept (read_of dialect left byte) more)

pub kept-grows : (dialect : Dialect) (text behind : List ℕ) → (more : List ℕ) × (kept_text dialect (text ++ behind) ≡ kept_text dialect text ++ more)
kept-grows dialect text behind =
    let (more, is) = left-grows dialect (left_of dialect text) behind in
    (more, kept-is dialect (text ++ behind) ∙ ap (λ (left : Left). left.kept) (fold-append (left_after dialect) left_start text behind) ∙ is ∙ ap (λ (xs : List ℕ). xs ++ more) (sym (kept-is dialect text)))

-- ---- a run

calm-goes : (byte : ℕ) → is_calm byte ≡ true → is_line_end byte ≡ false
calm-goes byte calm = go (byte == 34) (byte == 13) (byte == 10) calm where
  go : (quote return feed : Bool) → not (quote || return || feed) ≡ true → (feed || return) ≡ false
  go false false false e = refl
  go true return feed e = absurd (false≢true e)
  go false true feed e = absurd (false≢true e)
  go false false true e = absurd (false≢true e)

-- bytes of a row that end no line
rest-kept : (dialect : Dialect) (left : Left) (run : List ℕ) → left.is_out ≡ false → IsWithin dialect left.kept → list_all is_calm run ≡ true → left_from dialect left run ≡ record { kept = left.kept ++ run; is_out = false }
rest-kept dialect left [] none within calm = rw (append-nil left.kept, none) refl
rest-kept dialect left (byte ∷ run) none within calm =
    let parts = and_parts (is_calm byte) (list_all is_calm run) calm in
    let goes = calm-goes byte parts.0 in
    let read : leaves_out dialect left byte ≡ false = stays goes none (within-kept dialect left.kept (byte ∷ []) within) in
    let after : left_after dialect left byte ≡ record { kept = left.kept ++ byte ∷ []; is_out = false } = rw (read, none) refl in
    ap (λ (next : Left). left_from dialect next run) after
    ∙ rest-kept dialect (record { kept = left.kept ++ byte ∷ []; is_out = false }) run refl (within-more dialect left.kept byte goes) parts.1
    ∙ ap (λ (xs : List ℕ). record { kept = xs; is_out = false }) (append_assoc left.kept (byte ∷ []) run)

first-kept : (dialect : Dialect) (left : Left) (first : ℕ) (run : List ℕ) → left.is_out ≡ false → leaves_out dialect left first ≡ false → list_all is_calm (first ∷ run) ≡ true → left_from dialect left (first ∷ run) ≡ record { kept = left.kept ++ first ∷ run; is_out = false }
first-kept dialect left first run none read calm =
    let parts = and_parts (is_calm first) (list_all is_calm run) calm in
    let after : left_after dialect left first ≡ record { kept = left.kept ++ first ∷ []; is_out = false } = rw (read, none) refl in
    ap (λ (next : Left). left_from dialect next run) after
    ∙ rest-kept dialect (record { kept = left.kept ++ first ∷ []; is_out = false }) run refl (within-more dialect left.kept first (calm-goes first parts.0)) parts.1
    ∙ ap (λ (xs : List ℕ). record { kept = xs; is_out = false }) (append_assoc left.kept (first ∷ []) run)

-- the first of these bytes is read, if there is one
abbrev pub ReadsFirst : Dialect → Left → List ℕ → Type 0
ReadsFirst dialect left [] = ⊤
ReadsFirst dialect left (first ∷ run) = leaves_out dialect left first ≡ false

pub reads-first : (dialect : Dialect) (left : Left) (bytes : List ℕ) (first count : ℕ) → leaves_out dialect left first ≡ false → Some first ≡ slice_get bytes 0 → ReadsFirst dialect left (take count bytes)
reads-first dialect left [] first zero read is = tt
reads-first dialect left [] first (suc count) read is = tt
reads-first dialect left (byte ∷ bytes) first zero read is = tt
reads-first dialect left (byte ∷ bytes) first (suc count) read is =
    let same : first ≡ byte = ap (λ (o : Option ℕ). unwrap_or o 0) is in
    ap (leaves_out dialect left) (sym same) ∙ read

-- and so are all of them
left-run : (dialect : Dialect) (left : Left) (run : List ℕ) → left.is_out ≡ false → ReadsFirst dialect left run → list_all is_calm run ≡ true → left_from dialect left run ≡ record { kept = left.kept ++ run; is_out = false }
left-run dialect left [] none read calm = rw (append-nil left.kept, none) refl
left-run dialect left (first ∷ run) none read calm = first-kept dialect left first run none read calm

module _ (dialect : Dialect) (text run : List ℕ) (none : (left_of dialect text).is_out ≡ false) (read : ReadsFirst dialect (left_of dialect text) run) (calm : list_all is_calm run ≡ true) where
  whole : left_of dialect (text ++ run) ≡ record { kept = (left_of dialect text).kept ++ run; is_out = false }
  whole = fold-append (left_after dialect) left_start text run ∙ left-run dialect (left_of dialect text) run none read calm

  pub kept-run : kept_text dialect (text ++ run) ≡ kept_text dialect text ++ run
  kept-run = kept-is dialect (text ++ run) ∙ ap (λ (left : Left). left.kept) whole ∙ ap (λ (xs : List ℕ). xs ++ run) (sym (kept-is dialect text))

  pub run-none : (left_of dialect (text ++ run)).is_out ≡ false
  run-none = ap (λ (left : Left). left.is_out) whole

-- ---- the lines of what is read of a text

abbrev lines_in : List ℕ → Lines
lines_in text = fold lines_after lines_start text

-- What is read has as many lines as the text. Where the text is in a line that is left out, no carriage return precedes.
record Counted (left : Left) (lines : Lines) : Type 0 where
  pub same : left.is_out ≡ false → lines_in left.kept ≡ lines
  pub line : (lines_in left.kept).line ≡ lines.line
  pub text : left.is_out ≡ true → lines.is_behind_return ≡ false

lines-on : (kept more : List ℕ) → lines_in (kept ++ more) ≡ fold lines_after (lines_in kept) more
lines-on kept more = fold-append lines_after lines_start kept more

fresh : (left : Left) (lines : Lines) → left.is_out ≡ false → lines_in left.kept ≡ lines → Counted left lines
fresh left lines none is = record {
  same = λ _. is;
  line = ap (λ (l : Lines). l.line) is;
  text = λ out. absurd (true≢false (sym out ∙ none));
}

-- a byte that isn't read ends no line
not-end : (end : Bool) → not end ≡ true → end ≡ false
not-end false e = refl
not-end true e = absurd (false≢true e)

ends-out : (end out begins : Bool) → out ≡ true → (not end && (out || begins)) ≡ false → end ≡ true
ends-out true out begins is e = refl
ends-out false true begins is e = absurd (true≢false e)
ends-out false false begins is e = absurd (false≢true is)

-- behind a line that is left out
end-lines : (kept lines : Lines) (byte : ℕ) → is_line_end byte ≡ true → kept.line ≡ lines.line → lines.is_behind_return ≡ false → fold lines_after kept (end_of byte) ≡ lines_after lines byte
end-lines kept lines byte ends same text = elim (cases_Bool (byte == 10)) [
  | inl feed ↦ subst (λ (b : ℕ). fold lines_after kept (end_of b) ≡ lines_after lines b) (sym (eqb-true byte 10 feed)) (rw (same, text) refl)
  | inr other ↦ subst (λ (b : ℕ). fold lines_after kept (end_of b) ≡ lines_after lines b) (sym (eqb-true byte 13 (rw other at ends))) (rw same refl)
]

module _ (dialect : Dialect) (left : Left) (byte : ℕ) (lines : Lines) (counted : Counted left lines) where
  next-out : leaves_out dialect left byte ≡ true → Counted (left_after dialect left byte) (lines_after lines byte)
  next-out is = go (byte == 10) (byte == 13) refl refl (not-end (is_line_end byte) (and_parts (not (is_line_end byte)) _ is).0) where
    kept : (left_after dialect left byte).kept ≡ left.kept
    kept = rw is (append-nil left.kept)

    go : (feed return : Bool) → (byte == 10) ≡ feed → (byte == 13) ≡ return → (feed || return) ≡ false → Counted (left_after dialect left byte) (lines_after lines byte)
    go true return a b e = absurd (true≢false e)
    go false true a b e = absurd (true≢false e)
    go false false a b e = record {
      same = λ none. absurd (true≢false (sym is ∙ none));
      line = ap (λ (xs : List ℕ). (lines_in xs).line) kept ∙ counted.line ∙ rw (a, b) refl;
      text = λ _. b;
    }

  next-end : leaves_out dialect left byte ≡ false → left.is_out ≡ true → Counted (left_after dialect left byte) (lines_after lines byte)
  next-end read out =
      let ends = ends-out (is_line_end byte) left.is_out _ out read in
      let kept : (left_after dialect left byte).kept ≡ left.kept ++ end_of byte = rw (read, out) refl in
      fresh (left_after dialect left byte) (lines_after lines byte) read
      (ap lines_in kept ∙ lines-on left.kept (end_of byte) ∙ end-lines (lines_in left.kept) lines byte ends counted.line (counted.text out))

  next-read : leaves_out dialect left byte ≡ false → left.is_out ≡ false → Counted (left_after dialect left byte) (lines_after lines byte)
  next-read read none =
      let kept : (left_after dialect left byte).kept ≡ left.kept ++ byte ∷ [] = rw (read, none) refl in
      fresh (left_after dialect left byte) (lines_after lines byte) read
      (ap lines_in kept ∙ lines-on left.kept (byte ∷ []) ∙ ap (λ (l : Lines). lines_after l byte) (counted.same none))

  next-counted : Counted (left_after dialect left byte) (lines_after lines byte)
  next-counted = elim (cases_Bool (leaves_out dialect left byte)) [
    | inl is ↦ next-out is
    | inr read ↦ elim (cases_Bool left.is_out) [
      | inl out ↦ next-end read out
      | inr none ↦ next-read read none
    ]
  ]

lines-from : (dialect : Dialect) (left : Left) (lines : Lines) (text : List ℕ) → Counted left lines → (lines_in (left_from dialect left text).kept).line ≡ (fold lines_after lines text).line
lines-from dialect left lines [] counted = counted.line
lines-from dialect left lines (byte ∷ text) counted = lines-from dialect (left_after dialect left byte) (lines_after lines byte) text (next-counted dialect left byte lines counted)

pub lines_count : LinesCount
lines_count dialect text =
    sym (line-counted (kept_text dialect text))
    ∙ ap (λ (xs : List ℕ). (lines_in xs).line) (kept-is dialect text)
    ∙ lines-from dialect left_start lines_start text (fresh left_start lines_start refl refl)
    ∙ line-counted text

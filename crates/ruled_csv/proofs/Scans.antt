-- The words of a line, the rows of a scan over a text, and a byte order mark in front of one.
use Rattle.std.proofs.Common.{◌≡◌, ◌<◌, ◌≤◌, ◌∙◌, ℕ, zero, suc, ◌+◌, ◌-◌, Bool, true, false, List, [], ◌∷◌, ◌++◌, length, take, drop, Option, Some, None, unwrap_or, refl, sym, ap}
use Rattle.std.proofs.Common.{append-nil, append_assoc, add-one, arith, inl, inr, ◌⊎◌, length-append, ◌&&◌, nat_eq, subst, eqb-true}
use Rattle.std.specs.Prelude.{◌==◌, if◌then◌else◌, ◌||◌, ⊤, fold}
use Rattle.std.specs.List.{flat_map, prefix_len, suffix_len, cons_option}
use Rattle.std.specs.Char.{is_ascii_whitespace}
use Rattle.std.specs.Str.{IsTrimAscii, IsTrimAsciiStart}
use Rattle.std.proofs.lemmas.Bool.{cases_Bool, ne_eqb, true≢false, and_parts, false≢true}
use Rattle.std.proofs.lemmas.List.{length-drop, reverse-append, take-append-le, take_all}
use Rattle.std.proofs.lemmas.Grind.{flat_map-append}
use Rattle.std.proofs.lemmas.Str.Ascii.{trim_ascii_is, trim_ascii_start_is}
use Rattle.csv.specs.Records.{field_at}
use Rattle.ruled_csv.specs.Inside.{line_of, Hand, Scan, last_row, made, row_left, row_made, scan_after, scan_from, scan_of, scan_start, with_row}
use Rattle.ruled_csv.specs.Rows.{from_word, trimmed, word_len, words_in, words_of, ended_in, rows_in, columns_known, rows_of_lines}
use Rattle.std.proofs.lemmas.List.Sums.{fold-append}
use Rattle.std.proofs.Math.Bool.{and-false}
use Rattle.std.proofs.Math.Seq.{take-append_seam}
use Rattle.csv.specs.Machine.{ends_at_end, field_after, fields_after, is_end, next_record, step}
use Rattle.csv.specs.Reading.{records, records_from, records_next, is_bom, strip_bom}
use Rattle.csv.specs.declared.parser.State.{State}
use Rattle.csv.specs.declared.parser.State.TheVariants as st
use Rattle.ruled_csv.specs.Kept.{is_line_end, lines_behind, lines_of}
use Rattle.ruled_csv.specs.Quotes.{are_words, separator, state_from, config_of, has_quotes}
use Rattle.ruled_csv.specs.declared.dialect.Fields.{Fields}
use Rattle.ruled_csv.specs.declared.dialect.Fields.TheVariants as variant
use Rattle.ruled_csv.specs.declared.dialect.Dialect.{Dialect}
use Rattle.std.specs.Cmp.Lexicographic.{pointwise}

-- ---- the words of a line, cut one by one

-- ---- fields

-- a field more
fields-more : (fields : List (List ℕ)) (n : ℕ) (field : List ℕ) → field_at fields n ≡ Some field → take (suc n) fields ≡ take n fields ++ field ∷ []
unfolding field_at
fields-more [] n field is = let e = is in cc
fields-more (first ∷ fields) zero field is = ap (λ (o : Option (List ℕ)). unwrap_or o [] ∷ []) is
fields-more (first ∷ fields) (suc n) field is = ap (λ (xs : List (List ℕ)). first ∷ xs) (fields-more fields n field is)

-- and none
fields-all : (fields : List (List ℕ)) (n : ℕ) → field_at fields n ≡ None → take n fields ≡ fields
unfolding field_at
fields-all [] zero none = refl
fields-all [] (suc n) none = refl
fields-all (first ∷ fields) zero none = let e = none in cc
fields-all (first ∷ fields) (suc n) none = ap (λ (xs : List (List ℕ)). first ∷ xs) (fields-all fields n none)

line-next : (first : List ℕ) (fields : List (List ℕ)) (field : List ℕ) → line_of ((first ∷ fields) ++ field ∷ []) ≡ (line_of (first ∷ fields) ++ 9 ∷ []) ++ field
line-next first fields field =
    let part : List ℕ → List ℕ = λ xs. (9 ∷ []) ++ xs in
    let behind : List ℕ = flat_map part fields in
    ap (λ (xs : List ℕ). first ++ xs) (flat_map-append part fields (field ∷ []) ∙ ap (λ (xs : List ℕ). behind ++ (9 ∷ xs)) (append-nil field))
    ∙ sym (append_assoc first behind (9 ∷ field))
    ∙ sym (append_assoc (first ++ behind) (9 ∷ []) field)

-- a byte more of the last part, or a tab behind it
pub line-byte : (fields : List (List ℕ)) (field : List ℕ) (byte : ℕ) → line_of (fields ++ (field ++ byte ∷ []) ∷ []) ≡ line_of (fields ++ field ∷ []) ++ byte ∷ []
line-byte [] field byte = append-nil (field ++ byte ∷ []) ∙ ap (λ (xs : List ℕ). xs ++ byte ∷ []) (sym (append-nil field))
line-byte (first ∷ fields) field byte =
    line-next first fields (field ++ byte ∷ [])
    ∙ sym (append_assoc (line_of (first ∷ fields) ++ 9 ∷ []) field (byte ∷ []))
    ∙ ap (λ (xs : List ℕ). xs ++ byte ∷ []) (sym (line-next first fields field))

pub line-tab : (fields : List (List ℕ)) (field : List ℕ) → line_of ((fields ++ field ∷ []) ++ [] ∷ []) ≡ line_of (fields ++ field ∷ []) ++ 9 ∷ []
line-tab [] field = line-next field [] [] ∙ append-nil (line_of (field ∷ []) ++ 9 ∷ [])
line-tab (first ∷ fields) field = line-next first (fields ++ field ∷ []) [] ∙ append-nil (line_of (first ∷ (fields ++ field ∷ [])) ++ 9 ∷ [])

line-longer : (fields : List (List ℕ)) (n : ℕ) (field : List ℕ) → 0 < n → field_at fields n ≡ Some field
    → line_of (take n fields ++ field ∷ []) ≡ (line_of (take n fields) ++ 9 ∷ []) ++ field
unfolding field_at
line-longer [] n field some is = let e = is in cc
line-longer (first ∷ fields) zero field some is = absurd (omega (arith, some))
line-longer (first ∷ fields) (suc n) field some is = line-next first (take n fields) field

module _ (fields : List (List ℕ)) (n : ℕ) where
  pub line_first : (field old new : List ℕ) → n ≤ 0 → Some field ≡ field_at fields n → old ≡ line_of (take n fields) → new ≡ old ++ field → new ≡ line_of (take (n + 1) fields)
  line_first field old new none is before all =
      let first : n ≡ 0 = omega (arith, none) in
      let empty : old ≡ [] = before ∙ ap (λ (k : ℕ). line_of (take k fields)) first in
      let found : field_at fields 0 ≡ Some field = ap (field_at fields) (sym first) ∙ sym is in
      all ∙ ap (λ (xs : List ℕ). xs ++ field) empty ∙ sym (ap (λ (k : ℕ). line_of (take (k + 1) fields)) first ∙ ap line_of (fields-more fields 0 field found) ∙ append-nil field)

  pub line_more : (field old mid new : List ℕ) → 0 < n → Some field ≡ field_at fields n → old ≡ line_of (take n fields) → mid ≡ old ++ 9 ∷ [] → new ≡ mid ++ field → new ≡ line_of (take (n + 1) fields)
  line_more field old mid new some is before parted all =
      all ∙ ap (λ (xs : List ℕ). xs ++ field) (parted ∙ ap (λ (xs : List ℕ). xs ++ 9 ∷ []) before)
      ∙ sym (ap (λ (k : ℕ). line_of (take k fields)) (add-one n) ∙ ap line_of (fields-more fields n field (sym is)) ∙ line-longer fields n field some (sym is))

  pub line_all : (line : List ℕ) → None ≡ field_at fields n → line ≡ line_of (take n fields) → line ≡ line_of fields
  line_all line none is = is ∙ ap line_of (fields-all fields n (sym none))

-- ---- words

filled : (n : ℕ) → (n == 0) ≡ false → 0 < n
filled zero none = absurd (true≢false none)
filled (suc n) none = omega arith

-- a word more
words-next : (count : ℕ) (text : List ℕ) → 0 < count → 0 < length text
    → words_of count text ≡ take (word_len count text) text ∷ words_of (count - 1) (from_word (drop (word_len count text) text))
unfolding words_of
words-next zero text some begins = absurd (omega (arith, some))
words-next (suc count) [] some begins = absurd (omega (arith, begins))
words-next (suc count) (byte ∷ rest) some begins = let less : suc count - 1 ≡ count = omega arith in rw less refl

pub words_step : (count most n : ℕ) (text rest behind partial : List ℕ) (old new : List (List ℕ)) → partial ≡ [] → old ++ words_of count rest ≡ words_of most text → 0 < count → (length rest == 0) ≡ false
    → n ≡ word_len count rest → new ≡ old ++ (partial ++ take n rest) ∷ [] → IsTrimAsciiStart (take (length rest - n) (drop n rest)) behind → new ++ words_of (count - 1) behind ≡ words_of most text
words_step count most n text rest behind partial old new none before some begins len all trims =
    let next : words_of count rest ≡ take n rest ∷ words_of (count - 1) (from_word (drop n rest)) =
    words-next count rest some (filled (length rest) begins) ∙ ap (λ (k : ℕ). take k rest ∷ words_of (count - 1) (from_word (drop k rest))) (sym len) in
    ap (λ (rows : List (List ℕ)). rows ++ words_of (count - 1) behind) all
    ∙ append_assoc old ((partial ++ take n rest) ∷ []) (words_of (count - 1) behind)
    ∙ ap (λ (xs : List ℕ). old ++ (xs ++ take n rest) ∷ words_of (count - 1) behind) none
    ∙ ap (λ (xs : List ℕ). old ++ take n rest ∷ words_of (count - 1) xs) (trim_ascii_start_is (take (length rest - n) (drop n rest)) behind trims ∙ ap from_word (take_all (length rest - n) (drop n rest) (omega (arith, length-drop n rest))))
    ∙ ap (λ (rows : List (List ℕ)). old ++ rows) (sym next)
    ∙ before

words-zero : (text : List ℕ) → words_of 0 text ≡ []
unfolding words_of
words-zero text = refl

words-none : (count : ℕ) → words_of count [] ≡ []
unfolding words_of
words-none zero = refl
words-none (suc count) = refl

module _ (count most : ℕ) (text rest : List ℕ) (row : List (List ℕ)) (before : row ++ words_of count rest ≡ words_of most text) where
  pub words_enough : count ≤ 0 → row ≡ words_of most text
  words_enough none =
      let zero-is : count ≡ 0 = omega (arith, none) in
      sym (append-nil row) ∙ ap (λ (rows : List (List ℕ)). row ++ rows) (sym (ap (λ (n : ℕ). words_of n rest) zero-is ∙ words-zero rest)) ∙ before

  pub words_all : length rest ≡ 0 → row ≡ words_of most text
  words_all none =
      sym (append-nil row) ∙ ap (λ (rows : List (List ℕ)). row ++ rows) (sym (ap (words_of count) (empty rest none) ∙ words-none count)) ∙ before where
        empty : (xs : List ℕ) → length xs ≡ 0 → xs ≡ []
        empty [] e = refl
        empty (x ∷ xs) e = absurd (omega (arith, e))

-- ---- a line

some-words : (b : Bool) → b ≡ false → (row : List (List ℕ)) → (if b then None else Some row) ≡ Some row
some-words false is row = refl
some-words true is row = absurd (true≢false is)

module _ (columns : Option ℕ) (fields : List (List ℕ)) (line text : List ℕ) (whole : line ≡ line_of fields) (trims : IsTrimAscii line text) where
  text-is : text ≡ trimmed (line_of fields)
  text-is = trim_ascii_is line text (from_word line) refl trims ∙ ap trimmed whole

  pub line_empty : length text ≡ 0 → None ≡ words_in columns (line_of fields)
  line_empty none = let length-is : length (trimmed (line_of fields)) ≡ 0 = sym (ap length text-is) ∙ none in rw length-is refl

  pub line_filled : (row : List (List ℕ)) → (length text == 0) ≡ false → row ≡ words_of (unwrap_or columns (length text)) text → Some row ≡ words_in columns (line_of fields)
  line_filled row some is =
      ap Some is
      ∙ ap (λ (xs : List ℕ). Some (words_of (unwrap_or columns (length xs)) xs)) text-is
      ∙ sym (some-words (length (trimmed (line_of fields)) == 0) (ap (λ (xs : List ℕ). length xs == 0) (sym text-is) ∙ some) _)

-- ---- white space behind a line, and a letter

from-space : (first : ℕ) (line : List ℕ) → is_ascii_whitespace first ≡ true → from_word (first ∷ line) ≡ from_word line
from-space first line space =
    let more : 1 + prefix_len is_ascii_whitespace line ≡ suc (prefix_len is_ascii_whitespace line) = omega arith in
    rw space (ap (λ (n : ℕ). drop n (first ∷ line)) more)

-- behind a text
from-more : (line : List ℕ) (byte : ℕ) → (from_word (line ++ byte ∷ []) ≡ from_word line ++ byte ∷ []) ⊎ ((from_word line ≡ []) × (from_word (line ++ byte ∷ []) ≡ from_word (byte ∷ [])))
from-more [] byte = inr (refl, refl)
from-more (first ∷ line) byte = elim (cases_Bool (is_ascii_whitespace first)) [
  | inl space ↦ elim (from-more line byte) [
    | inl some ↦ inl (from-space first (line ++ byte ∷ []) space ∙ some ∙ ap (λ (xs : List ℕ). xs ++ byte ∷ []) (sym (from-space first line space)))
    | inr none ↦ inr (from-space first line space ∙ none.0, from-space first (line ++ byte ∷ []) space ∙ none.1)
  ]
  | inr ink ↦ inl (rw ink refl)
]

suffix-space : (text : List ℕ) (byte : ℕ) → is_ascii_whitespace byte ≡ true → suffix_len is_ascii_whitespace (text ++ byte ∷ []) ≡ 1 + suffix_len is_ascii_whitespace text
suffix-space text byte space = ap (prefix_len is_ascii_whitespace) (reverse-append text (byte ∷ [])) ∙ rw space refl

trimmed-space : (line : List ℕ) (byte : ℕ) → is_ascii_whitespace byte ≡ true → trimmed (line ++ byte ∷ []) ≡ trimmed line
trimmed-space line byte space = elim (from-more line byte) [
  | inl some ↦
      let text = from_word line in
      let n = suffix_len is_ascii_whitespace text in
      let fewer : length (text ++ byte ∷ []) - (1 + n) ≡ length text - n = omega (arith, length-append text (byte ∷ [])) in
      ap (λ (xs : List ℕ). take (length xs - suffix_len is_ascii_whitespace xs) xs) some
      ∙ ap (λ (k : ℕ). take (length (text ++ byte ∷ []) - k) (text ++ byte ∷ [])) (suffix-space text byte space)
      ∙ ap (λ (k : ℕ). take k (text ++ byte ∷ [])) fewer
      ∙ take-append-le (length text - n) text (byte ∷ []) (omega arith)
  | inr none ↦ ap (λ (xs : List ℕ). take (length xs - suffix_len is_ascii_whitespace xs) xs) (none.1 ∙ rw space refl ∙ sym none.0)
]

-- white space behind a line changes no word
pub words-space : (columns : Option ℕ) (line : List ℕ) (byte : ℕ) → is_ascii_whitespace byte ≡ true → words_in columns (line ++ byte ∷ []) ≡ words_in columns line
words-space columns line byte space = ap (λ (text : List ℕ). if length text == 0 then None else Some (words_of (unwrap_or columns (length text)) text)) (trimmed-space line byte space)

letter-trimmed : (line : List ℕ) → 0 < length (trimmed (line ++ 120 ∷ []))
letter-trimmed line = elim (from-more line 120) [
  | inl some ↦
      let text = from_word line in
      let none : suffix_len is_ascii_whitespace (text ++ 120 ∷ []) ≡ 0 = ap (prefix_len is_ascii_whitespace) (reverse-append text (120 ∷ [])) in
      let all : trimmed (line ++ 120 ∷ []) ≡ text ++ 120 ∷ [] =
      ap (λ (xs : List ℕ). take (length xs - suffix_len is_ascii_whitespace xs) xs) some
      ∙ ap (λ (k : ℕ). take (length (text ++ 120 ∷ []) - k) (text ++ 120 ∷ [])) none
      ∙ take_all (length (text ++ 120 ∷ []) - 0) (text ++ 120 ∷ []) (omega arith)
      in
      omega (arith, ap length all, length-append text (120 ∷ []))
  | inr none ↦ omega (arith, ap (λ (xs : List ℕ). length (take (length xs - suffix_len is_ascii_whitespace xs) xs)) none.1)
]

-- a line that has a letter at its end has a word
pub letter-words : (columns : Option ℕ) (line : List ℕ) → (row : List (List ℕ)) × (words_in columns (line ++ 120 ∷ []) ≡ Some row)
letter-words columns line =
    let text = trimmed (line ++ 120 ∷ []) in
    let row = words_of (unwrap_or columns (length text)) text in
    (row, some-words (length text == 0) (ne_eqb (length text) 0 (λ none. absurd (omega (arith, letter-trimmed line, none)))) row)

-- ---- the rows of a scan over a text

-- ---- the rows of csv

-- the rows of a text from a state on, with the fields and the field at hand
abbrev rest : Dialect → State → List (List ℕ) → List ℕ → List ℕ → List (List (List ℕ))
rest dialect s fields field [] = cons_option (if ends_at_end s then Some (fields ++ field ∷ []) else None) []
rest dialect s fields field (byte ∷ text) =
    if is_end (step (config_of dialect) s byte).1 then fields_after (step (config_of dialect) s byte).1 fields field ∷ rest dialect (step (config_of dialect) s byte).0 [] [] text
    else rest dialect (step (config_of dialect) s byte).0 (fields_after (step (config_of dialect) s byte).1 fields field) (field_after (step (config_of dialect) s byte).1 byte field) text

no-rows : (dialect : Dialect) (n : ℕ) → records_from (config_of dialect) n st.StartRecord [] ≡ []
unfolding records_from next_record
no-rows dialect zero = refl
no-rows dialect (suc n) = refl

rest-is : (dialect : Dialect) (n : ℕ) (s : State) (fields : List (List ℕ)) (field text : List ℕ) → length text ≤ n
    → records_next (records_from (config_of dialect) n) (next_record (config_of dialect) s fields field text) ≡ rest dialect s fields field text
unfolding records_from next_record
rest-is dialect n s fields field [] enough = elim (cases_Bool (ends_at_end s)) [
  | inl ends ↦ rw ends (ap (λ (rows : List (List (List ℕ))). (fields ++ field ∷ []) ∷ rows) (no-rows dialect n))
  | inr none ↦ rw none refl
]
rest-is dialect zero s fields field (byte ∷ text) enough = absurd (omega arith)
rest-is dialect (suc n) s fields field (byte ∷ text) enough =
    let done = step (config_of dialect) s byte in
    elim (cases_Bool (is_end (step (config_of dialect) s byte).1)) [
      | inl ends ↦ rw ends (ap (λ (rows : List (List (List ℕ))). fields_after done.1 fields field ∷ rows) (rest-is dialect n done.0 [] [] text (omega arith)))
      | inr on ↦ rw on (rest-is dialect (suc n) done.0 (fields_after done.1 fields field) (field_after done.1 byte field) text (omega arith))
    ]

records-are-rest : (dialect : Dialect) (text : List ℕ) → records (config_of dialect) text ≡ rest dialect st.StartRecord [] [] text
unfolding records_from
records-are-rest dialect text =
    ap (λ (n : ℕ). records_from (config_of dialect) n st.StartRecord text) (add-one (length text)) ∙ rest-is dialect (length text) st.StartRecord [] [] text (omega arith)

-- ---- those of a scan

module _ (dialect : Dialect) (plain : are_words dialect.rows.fields ≡ false) where
  made-same : (above : List (List (List ℕ))) (row : Option (List (List ℕ))) → made dialect above row ≡ row
  made-same above None = refl
  made-same above (Some fields) = rw plain refl

  -- a byte ends a row, or none
  byte-rows : (text : List ℕ) (s : State) (ends : Bool) (rows : List (List (List ℕ))) (fields : List (List ℕ)) (field : List ℕ)
      → rows ++ (if ends then fields ∷ rest dialect s [] [] text else rest dialect s fields field text)
      ≡ with_row rows (made dialect rows (if ends then Some fields else None)) ++ rest dialect s (if ends then [] else fields) (if ends then [] else field) text
  byte-rows text s true rows fields field =
      sym (ap (λ (row : Option (List (List ℕ))). with_row rows row ++ rest dialect s [] [] text) (made-same rows (Some fields)) ∙ append_assoc rows (fields ∷ []) (rest dialect s [] [] text))
  byte-rows text s false rows fields field = ap (λ (xs : List (List (List ℕ))). xs ++ rest dialect s fields field text) (sym (append-nil rows))

  rest-scanned : (scan : Scan) (text : List ℕ) → scan.rows ++ rest dialect scan.hand.state scan.hand.fields scan.hand.field text
      ≡ with_row (scan_from dialect scan text).rows (row_left dialect (scan_from dialect scan text))
  rest-scanned scan [] = sym (ap (with_row scan.rows) (made-same scan.rows (last_row scan.hand)))
  rest-scanned scan (byte ∷ text) =
      let done = step (config_of dialect) scan.hand.state byte in
      byte-rows text done.0 (is_end done.1) scan.rows (fields_after done.1 scan.hand.fields scan.hand.field) (field_after done.1 byte scan.hand.field)
      ∙ rest-scanned (scan_after dialect scan byte) text

-- ---- those of lines of words

-- the fields and the field at hand, where no quote is open: none between rows
abbrev Fits : State → List (List ℕ) → List ℕ → Type 0
Fits st.StartRecord fields field = (fields ≡ []) × (field ≡ [])
Fits st.StartField fields field = ⊤
Fits st.InField fields field = ⊤
Fits st.InQuoted fields field = ⊥
Fits st.AfterQuote fields field = ⊥
Fits st.InEscape fields field = ⊥
Fits st.InComment fields field = ⊥
Fits st.AfterCr fields field = (fields ≡ []) × (field ≡ [])

-- the line at hand
abbrev line_at : Hand → List ℕ
line_at hand = line_of (hand.fields ++ hand.field ∷ [])

abbrev FitsIn : Hand → Type 0
FitsIn hand = Fits hand.state hand.fields hand.field

no-quotes : (fields : Fields) → are_words fields ≡ true → has_quotes fields ≡ false
no-quotes variant.Quoted is = absurd (false≢true is)
no-quotes variant.Plain is = refl
no-quotes variant.Words is = refl

module _ (dialect : Dialect) (words : are_words dialect.rows.fields ≡ true) where
  quotes : has_quotes dialect.rows.fields ≡ false
  quotes = no-quotes dialect.rows.fields words

  made-words : (above : List (List (List ℕ))) (fields : List (List ℕ)) → row_made dialect above fields ≡ words_in (columns_known above) (line_of fields)
  made-words above fields = rw words refl

  -- a byte that ends the line at hand, whose words are the row
  abbrev Ends : State → List (List ℕ) → List ℕ → ℕ → Type 0
  Ends s fields field byte =
      let done = step (config_of dialect) s byte in
      let fields_then = if is_end done.1 then [] else fields_after done.1 fields field in
      let field_then = if is_end done.1 then [] else field_after done.1 byte field in
      Fits done.0 fields_then field_then
      × (line_of (fields_then ++ field_then ∷ []) ≡ [])
      × ((above : List (List (List ℕ))) → words_in (columns_known above) (line_of (fields ++ field ∷ []) ++ byte ∷ []) ≡ made dialect above (if is_end done.1 then Some (fields_after done.1 fields field) else None))

  ends-feed : (s : State) (fields : List (List ℕ)) (field : List ℕ) → Fits s fields field → Ends s fields field 10
  ends-feed st.StartRecord fields field fits = rw (fits.0, fits.1) ((refl, refl), refl, λ above. refl)
  ends-feed st.StartField fields field fits = rw (words, quotes) ((refl, refl), refl, λ above. words-space (columns_known above) (line_of (fields ++ field ∷ [])) 10 refl ∙ sym (made-words above (fields ++ field ∷ [])))
  ends-feed st.InField fields field fits = rw words ((refl, refl), refl, λ above. words-space (columns_known above) (line_of (fields ++ field ∷ [])) 10 refl ∙ sym (made-words above (fields ++ field ∷ [])))
  ends-feed st.AfterCr fields field fits = rw (fits.0, fits.1) ((refl, refl), refl, λ above. refl)
  ends-feed st.InQuoted fields field fits = absurd fits
  ends-feed st.AfterQuote fields field fits = absurd fits
  ends-feed st.InEscape fields field fits = absurd fits
  ends-feed st.InComment fields field fits = absurd fits

  ends-return : (s : State) (fields : List (List ℕ)) (field : List ℕ) → Fits s fields field → Ends s fields field 13
  ends-return st.StartRecord fields field fits = rw (fits.0, fits.1) ((refl, refl), refl, λ above. refl)
  ends-return st.StartField fields field fits = rw (words, quotes) ((refl, refl), refl, λ above. words-space (columns_known above) (line_of (fields ++ field ∷ [])) 13 refl ∙ sym (made-words above (fields ++ field ∷ [])))
  ends-return st.InField fields field fits = rw words ((refl, refl), refl, λ above. words-space (columns_known above) (line_of (fields ++ field ∷ [])) 13 refl ∙ sym (made-words above (fields ++ field ∷ [])))
  ends-return st.AfterCr fields field fits = rw (fits.0, fits.1) ((refl, refl), refl, λ above. refl)
  ends-return st.InQuoted fields field fits = absurd fits
  ends-return st.AfterQuote fields field fits = absurd fits
  ends-return st.InEscape fields field fits = absurd fits
  ends-return st.InComment fields field fits = absurd fits

  ends : (hand : Hand) (byte : ℕ) → FitsIn hand → is_line_end byte ≡ true → Ends hand.state hand.fields hand.field byte
  ends hand byte fits is = go (byte == 10) (byte == 13) refl refl is where
    go : (feed return : Bool) → (byte == 10) ≡ feed → (byte == 13) ≡ return → (feed || return) ≡ true → Ends hand.state hand.fields hand.field byte
    go true return a b e = subst (Ends hand.state hand.fields hand.field) (sym (eqb-true byte 10 a)) (ends-feed hand.state hand.fields hand.field fits)
    go false true a b e = subst (Ends hand.state hand.fields hand.field) (sym (eqb-true byte 13 b)) (ends-return hand.state hand.fields hand.field fits)
    go false false a b e = absurd (false≢true e)

  -- any other byte joins it
  abbrev Goes : State → List (List ℕ) → List ℕ → ℕ → Type 0
  Goes s fields field byte =
      let done = step (config_of dialect) s byte in
      let fields_then = if is_end done.1 then [] else fields_after done.1 fields field in
      let field_then = if is_end done.1 then [] else field_after done.1 byte field in
      Fits done.0 fields_then field_then
      × (line_of (fields_then ++ field_then ∷ []) ≡ line_of (fields ++ field ∷ []) ++ byte ∷ [])
      × (is_end done.1 ≡ false)

  goes-tab : (s : State) (fields : List (List ℕ)) (field : List ℕ) → Fits s fields field → Goes s fields field 9
  goes-tab st.StartRecord fields field fits = rw (words, quotes) (tt, line-tab fields field, refl)
  goes-tab st.StartField fields field fits = rw (words, quotes) (tt, line-tab fields field, refl)
  goes-tab st.InField fields field fits = rw words (tt, line-tab fields field, refl)
  goes-tab st.AfterCr fields field fits = rw (words, quotes) (tt, line-tab fields field, refl)
  goes-tab st.InQuoted fields field fits = absurd fits
  goes-tab st.AfterQuote fields field fits = absurd fits
  goes-tab st.InEscape fields field fits = absurd fits
  goes-tab st.InComment fields field fits = absurd fits

  goes-byte : (s : State) (fields : List (List ℕ)) (field : List ℕ) (byte : ℕ) → Fits s fields field → (byte == 10) ≡ false → (byte == 13) ≡ false → (byte == 9) ≡ false → Goes s fields field byte
  goes-byte st.StartRecord fields field byte fits a b c = rw (words, quotes, a, b, c) (tt, line-byte fields field byte, refl)
  goes-byte st.StartField fields field byte fits a b c = rw (words, quotes, a, b, c) (tt, line-byte fields field byte, refl)
  goes-byte st.InField fields field byte fits a b c = rw (words, a, b, c) (tt, line-byte fields field byte, refl)
  goes-byte st.AfterCr fields field byte fits a b c = rw (words, quotes, a, b, c) (tt, line-byte fields field byte, refl)
  goes-byte st.InQuoted fields field byte fits a b c = absurd fits
  goes-byte st.AfterQuote fields field byte fits a b c = absurd fits
  goes-byte st.InEscape fields field byte fits a b c = absurd fits
  goes-byte st.InComment fields field byte fits a b c = absurd fits

  goes : (hand : Hand) (byte : ℕ) → FitsIn hand → is_line_end byte ≡ false → Goes hand.state hand.fields hand.field byte
  goes hand byte fits is = go (byte == 10) (byte == 13) (byte == 9) refl refl refl is where
    go : (feed return tab : Bool) → (byte == 10) ≡ feed → (byte == 13) ≡ return → (byte == 9) ≡ tab → (feed || return) ≡ false → Goes hand.state hand.fields hand.field byte
    go true return tab a b c e = absurd (true≢false e)
    go false true tab a b c e = absurd (true≢false e)
    go false false true a b c e = subst (Goes hand.state hand.fields hand.field) (sym (eqb-true byte 9 c)) (goes-tab hand.state hand.fields hand.field fits)
    go false false false a b c e = goes-byte hand.state hand.fields hand.field byte fits a b c

  -- no byte is left
  line-left : (s : State) (fields : List (List ℕ)) (field : List ℕ) (above : List (List (List ℕ))) → Fits s fields field
      → words_in (columns_known above) (line_of (fields ++ field ∷ [])) ≡ made dialect above (if ends_at_end s then Some (fields ++ field ∷ []) else None)
  line-left st.StartRecord fields field above fits = rw (fits.0, fits.1) refl
  line-left st.StartField fields field above fits = sym (made-words above (fields ++ field ∷ []))
  line-left st.InField fields field above fits = sym (made-words above (fields ++ field ∷ []))
  line-left st.AfterCr fields field above fits = rw (fits.0, fits.1) refl
  line-left st.InQuoted fields field above fits = absurd fits
  line-left st.AfterQuote fields field above fits = absurd fits
  line-left st.InEscape fields field above fits = absurd fits
  line-left st.InComment fields field above fits = absurd fits

  -- the rows of lines below others
  abbrev below : List (List (List ℕ)) → List (List ℕ) → List (List (List ℕ))
  below above lines = fold (λ above line. with_row above (words_in (columns_known above) line)) above lines

  -- no row ends with a byte that ends no line
  still : (scan : Scan) (byte : ℕ) → is_end (step (config_of dialect) scan.hand.state byte).1 ≡ false → scan.rows ≡ (scan_after dialect scan byte).rows
  still scan byte on = rw on (sym (append-nil scan.rows))

  lines-scanned : (scan : Scan) (text : List ℕ) → FitsIn scan.hand
      → below scan.rows (lines_behind (line_at scan.hand) text) ≡ with_row (scan_from dialect scan text).rows (row_left dialect (scan_from dialect scan text))
  lines-scanned scan [] fits = ap (with_row scan.rows) (line-left scan.hand.state scan.hand.fields scan.hand.field scan.rows fits)
  lines-scanned scan (byte ∷ text) fits =
      let line = line_at scan.hand in
      let after = scan_after dialect scan byte in
      elim (cases_Bool (is_line_end byte)) [
        | inl is ↦
            let (fits_on, none, row) = ends scan.hand byte fits is in
            rw is
            (ap (λ (row : Option (List (List ℕ))). below (with_row scan.rows row) (lines_behind [] text)) (row scan.rows)
            ∙ ap (λ (line : List ℕ). below after.rows (lines_behind line text)) (sym none)
            ∙ lines-scanned after text fits_on)
        | inr is ↦
            let (fits_on, more, on) = goes scan.hand byte fits is in
            let same : below scan.rows (lines_behind (line_at after.hand) text) ≡ below after.rows (lines_behind (line_at after.hand) text) = ap (λ (rows : List (List (List ℕ))). below rows (lines_behind (line_at after.hand) text)) (still scan byte on) in
            rw is (ap (λ (line : List ℕ). below scan.rows (lines_behind line text)) (sym more) ∙ same ∙ lines-scanned after text fits_on)
      ]

  fits-scanned : (scan : Scan) (text : List ℕ) → FitsIn scan.hand → FitsIn (scan_from dialect scan text).hand
  fits-scanned scan [] fits = fits
  fits-scanned scan (byte ∷ text) fits = elim (cases_Bool (is_line_end byte)) [
    | inl is ↦ fits-scanned (scan_after dialect scan byte) text (ends scan.hand byte fits is).0
    | inr is ↦ fits-scanned (scan_after dialect scan byte) text (goes scan.hand byte fits is).0
  ]

-- all rows of a text: those that ended, and the one at hand
pub all-scanned : (dialect : Dialect) (text : List ℕ) → rows_in dialect text ≡ with_row (scan_of dialect text).rows (row_left dialect (scan_of dialect text))
all-scanned dialect text = go (are_words dialect.rows.fields) refl where
  go : (words : Bool) → are_words dialect.rows.fields ≡ words → (if words then rows_of_lines (lines_of text) else records (config_of dialect) text) ≡ with_row (scan_of dialect text).rows (row_left dialect (scan_of dialect text))
  go true is = lines-scanned dialect is scan_start text (refl, refl)
  go false is = records-are-rest dialect text ∙ rest-scanned dialect is scan_start text

-- a letter ends no row, and belongs to one
letter-joins : (dialect : Dialect) (s : State) → (is_end (step (config_of dialect) s 120).1 ≡ false) × (ends_at_end (step (config_of dialect) s 120).0 ≡ true)
letter-joins dialect s = elim (cases_Bool (120 == separator dialect)) [
  | inl is ↦ go s is
  | inr other ↦ go2 s other
] where
  none : (has_quotes dialect.rows.fields && false) ≡ false
  none = and-false (has_quotes dialect.rows.fields)

  same : (has_quotes dialect.rows.fields && true && false) ≡ false
  same = and-false (has_quotes dialect.rows.fields && true)

  go : (s : State) → (120 == separator dialect) ≡ true → (is_end (step (config_of dialect) s 120).1 ≡ false) × (ends_at_end (step (config_of dialect) s 120).0 ≡ true)
  go st.StartRecord is = rw (none, is) (refl, refl)
  go st.StartField is = rw (none, is) (refl, refl)
  go st.InField is = rw is (refl, refl)
  go st.InQuoted is = rw none (refl, refl)
  go st.AfterQuote is = rw (same, is) (refl, refl)
  go st.InEscape is = (refl, refl)
  go st.InComment is = (refl, refl)
  go st.AfterCr is = rw (none, is) (refl, refl)

  go2 : (s : State) → (120 == separator dialect) ≡ false → (is_end (step (config_of dialect) s 120).1 ≡ false) × (ends_at_end (step (config_of dialect) s 120).0 ≡ true)
  go2 st.StartRecord is = rw (none, is) (refl, refl)
  go2 st.StartField is = rw (none, is) (refl, refl)
  go2 st.InField is = rw is (refl, refl)
  go2 st.InQuoted is = rw none (refl, refl)
  go2 st.AfterQuote is = rw (same, is) (refl, refl)
  go2 st.InEscape is = (refl, refl)
  go2 st.InComment is = (refl, refl)
  go2 st.AfterCr is = rw (none, is) (refl, refl)

all-but-last : {X : Type 0} (xs : List X) (x : X) → take (length (xs ++ x ∷ []) - 1) (xs ++ x ∷ []) ≡ xs
all-but-last xs x =
    let long : length (xs ++ x ∷ []) - 1 ≡ length xs = omega (arith, length-append xs (x ∷ [])) in
    rw long (take-append_seam xs (x ∷ []))

-- with it behind a text there is a row at hand
letter-row : (dialect : Dialect) (text : List ℕ) → (row : List (List ℕ)) × (row_left dialect (scan_after dialect (scan_of dialect text) 120) ≡ Some row)
letter-row dialect text =
    let s = scan_of dialect text in
    let letter = letter-joins dialect s.hand.state in
    let after = scan_after dialect s 120 in
    let left : row_left dialect after ≡ row_made dialect after.rows (after.hand.fields ++ after.hand.field ∷ []) = rw letter.1 refl in
    elim (cases_Bool (are_words dialect.rows.fields)) [
      | inl words ↦
          let more = (goes dialect words s.hand 120 (fits-scanned dialect words scan_start text (refl, refl)) refl).1 in
          let (row, is) = letter-words (columns_known after.rows) (line_at s.hand) in
          (row, left ∙ made-words dialect words after.rows (after.hand.fields ++ after.hand.field ∷ []) ∙ ap (words_in (columns_known after.rows)) more ∙ is)
      | inr plain ↦ (after.hand.fields ++ after.hand.field ∷ [], left ∙ made-same dialect plain after.rows (Some (after.hand.fields ++ after.hand.field ∷ [])))
    ]

-- the rows that end in a text are those that a scan has found
pub ended-scanned : (dialect : Dialect) (text : List ℕ) → ended_in dialect text ≡ (scan_of dialect text).rows
ended-scanned dialect text =
    let s = scan_of dialect text in
    let after = scan_after dialect s 120 in
    let letter = letter-joins dialect s.hand.state in
    let (row, is) = letter-row dialect text in
    let still : after.rows ≡ s.rows = rw letter.0 (append-nil s.rows) in
    let behind = fold-append (scan_after dialect) scan_start text (120 ∷ []) in
    let all = all-scanned dialect (text ++ 120 ∷ []) ∙ ap (λ (t : Scan). with_row t.rows (row_left dialect t)) behind ∙ ap (with_row after.rows) is ∙ ap (λ (rows : List (List (List ℕ))). rows ++ row ∷ []) still in
    ap (λ (rs : List (List (List ℕ))). take (length rs - 1) rs) all ∙ all-but-last s.rows row

-- ---- what else it has

pub state-scanned : (dialect : Dialect) (scan : Scan) (text : List ℕ) → (scan_from dialect scan text).hand.state ≡ state_from dialect scan.hand.state text
state-scanned dialect scan [] = refl
state-scanned dialect scan (byte ∷ text) = state-scanned dialect (scan_after dialect scan byte) text

-- a scan over two texts
pub scan-append : (dialect : Dialect) (scan : Scan) (text more : List ℕ) → scan_from dialect scan (text ++ more) ≡ scan_from dialect (scan_from dialect scan text) more
scan-append dialect scan text more = fold-append (scan_after dialect) scan text more

pub fault-stays : (dialect : Dialect) (scan : Scan) (text : List ℕ) (fault : _) → scan.fault ≡ Some fault → (scan_from dialect scan text).fault ≡ Some fault
fault-stays dialect scan [] fault found = found
fault-stays dialect scan (byte ∷ text) fault found = fault-stays dialect (scan_after dialect scan byte) text fault (rw found refl)

-- ---- a byte order mark at the front of bytes

-- the bytes of the mark
abbrev mark : List ℕ
mark = 0xEF ∷ 0xBB ∷ 0xBF ∷ []

all_three : (x y z : Bool) → (x && (y && (z && true))) ≡ (x && y && z)
all_three true true true = refl
all_three true true false = refl
all_three true false z = refl
all_three false y z = refl

tests : (a b c : ℕ) → (nat_eq a 0xEF && (nat_eq b 0xBB && (nat_eq c 0xBF && true))) ≡ is_bom a b c
tests a b c = all_three (a == 0xEF) (b == 0xBB) (c == 0xBF)

pub with_mark : (bytes : List ℕ) → pointwise nat_eq (take 3 bytes) mark ≡ true → drop 3 bytes ≡ strip_bom bytes
unfolding strip_bom
with_mark [] e = refl
with_mark (a ∷ []) e = let parts = and_parts (a == 0xEF) false e in cc
with_mark (a ∷ b ∷ []) e =
    let parts = and_parts (a == 0xEF) ((b == 0xBB) && false) e in
    let rest = and_parts (b == 0xBB) false parts.1 in
    cc
with_mark (a ∷ b ∷ c ∷ rest) e = let is : is_bom a b c ≡ true = sym (tests a b c) ∙ e in rw is refl

pub no_mark : (bytes : List ℕ) → pointwise nat_eq (take 3 bytes) mark ≡ false → bytes ≡ strip_bom bytes
unfolding strip_bom
no_mark [] e = refl
no_mark (a ∷ []) e = refl
no_mark (a ∷ b ∷ []) e = refl
no_mark (a ∷ b ∷ c ∷ rest) e = let is : is_bom a b c ≡ false = sym (tests a b c) ∙ e in rw is refl

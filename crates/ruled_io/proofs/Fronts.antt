-- What the first bytes of an input show: how they spell text, and which format they have.
use Rattle.std.proofs.Common.{◌≡◌, ℕ, ◌<◌, ◌≤◌, ◌⊎◌, inl, inr, Bool, true, false, not, ◌&&◌, ◌||◌, List, [], ◌∷◌, ◌++◌, Option, Some, None, arith, encode_utf8, encode_utf8_all, get_or}
use Rattle.std.proofs.Common.{is_some, length, refl, sym, ap, ◌∙◌, if◌then◌else◌, zero, suc, min, option_map, subst, ◌+◌, ◌-◌, take, drop, slice_range, ◌≢◌, add-one, nat_eq, nat_lt, eq-eqb}
use Rattle.std.proofs.Common.{rules, append-nil, append_assoc, Result, Ok, Err, OnErr}
use Rattle.std.specs.Char.{InScalarRange}
use Rattle.std.specs.Char.Utf16.{is_high_surrogate, is_low_surrogate, lone_unit_char, surrogate_pair_char, utf16_chars}
use Rattle.std.specs.List.{list_any, count_by, before_first, position_or_len, starts_with, take_while}
use Rattle.std.specs.Option.{some_prefix}
use Rattle.std.proofs.lemmas.Str.{utf16_chars-nil, utf16_chars_lone}
use borrow.Author.Tests.{le-leb, le-ltb, lt-leb, lt-ltb}
use Rattle.ruled_io.specs.Formats.{Decoding, ShowsFirst, behind, decoding_by, is_half, unit_of, units, IsOver, KeepsDecoding, count_of, delimiter_seen, ends_line, first_line, first_sign}
use Rattle.ruled_io.specs.Formats.{format_from, format_shown, is_database, outside, separated, setting_in, setting_of, values_seen}
use Rattle.ruled_io.specs.declared.encoding.First.TheVariants.{Char, Nothing, Part}
use Rattle.ruled_io.specs.declared.encoding.Order.{Order}
use Rattle.ruled_io.specs.declared.encoding.Scheme.TheVariants.{Utf16}
use Rattle.std.specs.Prelude.{IsSomeAnd, ◌==◌, ⊤, nat_le, codes, IfOk, option_map, if◌then◌else◌}
use Rattle.std.specs.Io.KnownBytes.{prepend_known, Consumes, IsAtEnd, Appends, Keeps}
use Rattle.std.proofs.lemmas.List.{append-nil, take_at, drop_at, take-append-le, drop-append-le, drop-take, drop-drop, length-take-le, length-drop, length-take, take_all}
use borrow.Rule.Slice.PartMut.{put_mid, post_of}
use lib.Seq.{take-add}
use Rattle.std.proofs.Math.Seq.{drop-cons}
use Rattle.std.proofs.lemmas.List.Sums.{sum_by-cons}
use Rattle.std.proofs.lemmas.Bool.Decides.{nat_tests}
use Rattle.std.proofs.lemmas.Bool.{and_parts, cases_Bool, eqb-true, false≢true, ne_eqb}
use Rattle.std.proofs.lemmas.List.Folds.{find-append}
use Rattle.csv.specs.Reading.{is_bom, strip_bom, records, records_from}
use Rattle.ruled_csv.specs.Quotes.{is_comment, line_behind, is_quote, are_words, config_of}
use Rattle.ruled_csv.specs.Kept.{first_row_behind, from_first_row, kept_text, lines_of}
use Rattle.ruled_csv.specs.declared.dialect.RowRules.{RowRules}
use Rattle.ruled_io.specs.Reading.{GoesTo, HoldsOn, SetsAlike, ShowsInput, ShowsText, Ends, Gives, GoesOn, HasTaken, Stands, StandsIn, ended_rows, sound_rows, wrong_in, AppendsRest}
use Rattle.ruled_io.specs.declared.formats.Format.{Format}
use Rattle.ruled_io.specs.declared.formats.Format.TheVariants.{Separated, Json, JsonLines}
use Rattle.ruled_io.specs.declared.formats.Known.{Known}
use Rattle.ruled_io.specs.declared.formats.Known.TheVariants as known
use Rattle.pg_layout.specs.Text.{Text}
use Rattle.ruled_json.specs.Streamed.{LineRules}
use Rattle.ruled_io.specs.declared.reader.Reader.{Reader}
use Rattle.ruled_io.specs.declared.reader.Reader.TheVariants.{Rows, Lines}
use Rattle.ruled_io.specs.declared.reader.Reading.{Reading}
use Rattle.ruled_csv.proofs.Readers as csv
use Rattle.ruled_json.proofs.StreamedLines as json
use Rattle.ruled_io.specs.declared.reader.Reading.TheVariants.{More, Stored, Done}
use Rattle.csv.specs.Machine.{next_record}
use Rattle.ruled_csv.specs.Rows.{rows_of_lines, words_of}
use Rattle.ruled_json.specs.Rows as json_rows
use Rattle.ruled_csv.specs.Faults as csv_faults
use Rattle.ruled_csv.specs.Reading as csv_reading
use Rattle.ruled_csv.specs.Rows as csv_rows
use Rattle.ruled_csv.specs.declared.fault.RowsFault.{RowsFault}
use Rattle.ruled_csv.specs.declared.fault.RowsFault.TheVariants as rows_fault
use Rattle.ruled_csv.specs.declared.reader.RowReader.{RowReader}
use Rattle.ruled_json.specs.Faults as json_faults
use Rattle.ruled_json.specs.Streamed as json_reading
use Rattle.ruled_json.specs.declared.fault.JsonFault.{JsonFault}
use Rattle.ruled_json.specs.declared.fault.JsonFault.TheVariants as json_fault
use Rattle.ruled_json.specs.declared.line_reader.LineReader.{LineReader}
use Rattle.ruled_io.specs.Faults.{but_line_in, fault_of_json, fault_of_rows, Begins}
use Rattle.ruled_csv.specs.declared.dialect.Dialect.{Dialect}
use Rattle.ruled_io.specs.declared.fault.InputFault.{InputFault}
use Rattle.ruled_io.specs.declared.fault.InputFault.TheVariants as input
use Rattle.std.proofs.KnownBytes.{Appends-kept, Appends-nil, Appends-trans}
use Rattle.ruled_io.specs.Stream.{Grows, Nears}
use Rattle.ruled_table.specs.RowLines.{HasAppended, begun_text, lines_of as lines_of_table}
use Rattle.ruled_table.specs.Layouts.{whole_text, Plan}
use Rattle.ruled_table.specs.declared.options.Options.{Options}
use Rattle.ruled_table.specs.declared.table_rows.TableRows.{TableRows}
use Rattle.ruled_table.proofs.RowsInParts as pictures

-- ---- characters of units

module _ (unit : ℕ) (rest : List ℕ) where
  scalar-chars : (unit < 0xD800) ⊎ (0xE000 ≤ unit) → utf16_chars (unit ∷ rest) ≡ Some unit ∷ utf16_chars rest
  scalar-chars (inl low) =
      let same : lone_unit_char unit ≡ Some unit = rw (lt-leb 0xD800 unit low) refl in
      utf16_chars_lone unit rest (λ pair. absurd (omega (arith, low, pair.0))) ∙ ap (λ (c : Option ℕ). c ∷ utf16_chars rest) same
  scalar-chars (inr high) =
      let from : 0xD800 ≤ unit = omega (arith, high) in
      let same : lone_unit_char unit ≡ Some unit = rw (le-leb 0xD800 unit from, le-ltb unit 0xE000 high) refl in
      utf16_chars_lone unit rest (λ pair. absurd (omega (arith, high, pair.1))) ∙ ap (λ (c : Option ℕ). c ∷ utf16_chars rest) same

  module _ (from : 0xD800 ≤ unit) (below : unit < 0xE000) where
    lone : lone_unit_char unit ≡ None
    lone = rw (le-leb 0xD800 unit from, lt-ltb unit 0xE000 below) refl

    -- a lower surrogate begins no pair
    lower-chars : 0xDC00 ≤ unit → utf16_chars (unit ∷ rest) ≡ None ∷ utf16_chars rest
    lower-chars low = utf16_chars_lone unit rest (λ pair. absurd (omega (arith, low, pair.1))) ∙ ap (λ (c : Option ℕ). c ∷ utf16_chars rest) lone

    last-chars : utf16_chars (unit ∷ []) ≡ None ∷ utf16_chars []
    last-chars = utf16_chars_lone unit [] (λ pair. absurd (omega (arith, pair.2))) ∙ ap (λ (c : Option ℕ). c ∷ utf16_chars []) lone

    -- nor does one in front of another unit
    apart-chars : (next : ℕ) → (is_high_surrogate unit && is_low_surrogate next) ≡ false → utf16_chars (unit ∷ next ∷ rest) ≡ None ∷ utf16_chars (next ∷ rest)
    unfolding utf16_chars
    apart-chars next apart =
        ap (λ (t : Bool). if t then (Some (surrogate_pair_char unit next) ∷ utf16_chars rest) else (lone_unit_char unit ∷ utf16_chars (next ∷ rest))) apart
        ∙ ap (λ (c : Option ℕ). c ∷ utf16_chars (next ∷ rest)) lone

  pair-chars : (next : ℕ) → (is_high_surrogate unit && is_low_surrogate next) ≡ true → utf16_chars (unit ∷ next ∷ rest) ≡ Some (surrogate_pair_char unit next) ∷ utf16_chars rest
  unfolding utf16_chars
  pair-chars next pair =
      ap (λ (t : Bool). if t then (Some (surrogate_pair_char unit next) ∷ utf16_chars rest) else (lone_unit_char unit ∷ utf16_chars (next ∷ rest))) pair

-- the text of characters
abbrev shaped : List (Option ℕ) → Bool → Decoding
shaped chars half = record { text = encode_utf8_all (some_prefix chars); is_cut = list_any (λ o. not (is_some o)) chars || half }

-- ---- what bytes that begin with a unit spell

module _ (order : Order) (unit first second : ℕ) (is : unit ≡ unit_of order first second) where
  scalar-first : (rest : List ℕ) → (unit < 0xD800) ⊎ (0xE000 ≤ unit) → decoding_by (Utf16 order) (first ∷ second ∷ rest) ≡ behind (encode_utf8 unit) (decoding_by (Utf16 order) rest)
  scalar-first rest scalar =
      ap (λ (u : ℕ). shaped (utf16_chars (u ∷ units order rest)) (is_half rest)) (sym is)
      ∙ ap (λ (chars : List (Option ℕ)). shaped chars (is_half rest)) (scalar-chars unit (units order rest) scalar)

  -- where the first unit spells no character
  none-first : (rest : List ℕ) (chars : List (Option ℕ)) → utf16_chars (unit ∷ units order rest) ≡ None ∷ chars → decoding_by (Utf16 order) (first ∷ second ∷ rest) ≡ record { text = []; is_cut = true }
  none-first rest chars none =
      ap (λ (u : ℕ). shaped (utf16_chars (u ∷ units order rest)) (is_half rest)) (sym is)
      ∙ ap (λ (cs : List (Option ℕ)). shaped cs (is_half rest)) none

  pair-first : (next third fourth : ℕ) (rest : List ℕ) → next ≡ unit_of order third fourth → (is_high_surrogate unit && is_low_surrogate next) ≡ true
      → decoding_by (Utf16 order) (first ∷ second ∷ third ∷ fourth ∷ rest) ≡ behind (encode_utf8 (surrogate_pair_char unit next)) (decoding_by (Utf16 order) rest)
  pair-first next third fourth rest same pair =
      ap (λ (u : ℕ). shaped (utf16_chars (u ∷ unit_of order third fourth ∷ units order rest)) (is_half rest)) (sym is)
      ∙ ap (λ (n : ℕ). shaped (utf16_chars (unit ∷ n ∷ units order rest)) (is_half rest)) (sym same)
      ∙ ap (λ (cs : List (Option ℕ)). shaped cs (is_half rest)) (pair-chars unit (units order rest) next pair)

  apart-first : (next third fourth : ℕ) (rest : List ℕ) → next ≡ unit_of order third fourth → 0xD800 ≤ unit → unit < 0xE000 → (is_high_surrogate unit && is_low_surrogate next) ≡ false
      → decoding_by (Utf16 order) (first ∷ second ∷ third ∷ fourth ∷ rest) ≡ record { text = []; is_cut = true }
  apart-first next third fourth rest same from below apart =
      none-first (third ∷ fourth ∷ rest) (utf16_chars (next ∷ units order rest))
      (ap (λ (n : ℕ). utf16_chars (unit ∷ n ∷ units order rest)) (sym same) ∙ apart-chars unit (units order rest) from below next apart)

-- ---- what is found of them

chosen : (b : Bool) (p c : ℕ) → Some c ≡ (if b then Some p else None) → (b ≡ true) × (c ≡ p)
chosen true p c is = (refl, cc)
chosen false p c is = cc

refused : (b : Bool) (p : ℕ) → None ≡ (if b then Some p else None) → b ≡ false
refused true p is = cc
refused false p is = refl

pub in-range : (unit : ℕ) → InScalarRange unit → (unit < 0xD800) ⊎ (0xE000 ≤ unit)
in-range unit (inl low) = inl low
in-range unit (inr high) = inr (omega (arith, high.0))

pub part-shows : (order : Order) (bytes : List ℕ) → length bytes < 2 → ShowsFirst (Utf16 order) bytes Part
part-shows order [] short = (omega arith, rw utf16_chars-nil refl)
part-shows order (first ∷ []) short = (omega arith, rw utf16_chars-nil refl)
part-shows order (first ∷ second ∷ bytes) short = absurd (omega arith)

pub scalar-shows : (order : Order) (bytes : List ℕ) (unit c : ℕ) → 2 ≤ length bytes → unit ≡ unit_of order (get_or bytes 0 0) (get_or bytes 1 0) → (unit < 0xD800) ⊎ (0xE000 ≤ unit) → c ≡ unit
    → ShowsFirst (Utf16 order) bytes (Char c 2)
scalar-shows order [] unit c long is scalar same = absurd (omega arith)
scalar-shows order (first ∷ []) unit c long is scalar same = absurd (omega arith)
scalar-shows order (first ∷ second ∷ bytes) unit c long is scalar same =
    (omega arith, omega arith, λ more. scalar-first order unit first second is (bytes ++ more) scalar ∙ ap (λ (u : ℕ). behind (encode_utf8 u) (decoding_by (Utf16 order) (bytes ++ more))) (sym same))

module _ (order : Order) (high : ℕ) (from : 0xD800 ≤ high) (below : high < 0xE000) (first second : ℕ) (is : high ≡ unit_of order first second) where
  pub half-shows : (rest : List ℕ) → length rest < 2 → high < 0xDC00 → ShowsFirst (Utf16 order) (first ∷ second ∷ rest) Part
  half-shows [] short low = (omega arith, none-first order high first second is [] (utf16_chars []) (last-chars high [] from below))
  half-shows (third ∷ []) short low = (omega arith, none-first order high first second is (third ∷ []) (utf16_chars []) (last-chars high [] from below))
  half-shows (third ∷ fourth ∷ rest) short low = absurd (omega arith)

  pub lower-shows : (rest : List ℕ) → 0xDC00 ≤ high → ShowsFirst (Utf16 order) (first ∷ second ∷ rest) Nothing
  lower-shows rest low = λ more. none-first order high first second is (rest ++ more) (utf16_chars (units order (rest ++ more))) (lower-chars high (units order (rest ++ more)) from below low)

  module _ (rest : List ℕ) (next : ℕ) (long : 2 ≤ length rest) (same : next ≡ unit_of order (get_or rest 0 0) (get_or rest 1 0)) where
    pub pair-shows : (c : ℕ) → Some c ≡ (if is_high_surrogate high && is_low_surrogate next then Some (surrogate_pair_char high next) else None) → ShowsFirst (Utf16 order) (first ∷ second ∷ rest) (Char c 4)
    pair-shows c found = pair-in rest long same c (chosen (is_high_surrogate high && is_low_surrogate next) (surrogate_pair_char high next) c found)
      where
        pair-in : (bytes : List ℕ) → 2 ≤ length bytes → next ≡ unit_of order (get_or bytes 0 0) (get_or bytes 1 0) → (c : ℕ) → ((is_high_surrogate high && is_low_surrogate next) ≡ true) × (c ≡ surrogate_pair_char high next) → ShowsFirst (Utf16 order) (first ∷ second ∷ bytes) (Char c 4)
        pair-in [] enough at c it = absurd (omega arith)
        pair-in (third ∷ []) enough at c it = absurd (omega arith)
        pair-in (third ∷ fourth ∷ tail) enough at c it =
            (omega arith, omega arith, λ more. pair-first order high first second is next third fourth (tail ++ more) at it.0 ∙ ap (λ (u : ℕ). behind (encode_utf8 u) (decoding_by (Utf16 order) (tail ++ more))) (sym it.1))

    pub apart-shows : None ≡ (if is_high_surrogate high && is_low_surrogate next then Some (surrogate_pair_char high next) else None) → ShowsFirst (Utf16 order) (first ∷ second ∷ rest) Nothing
    apart-shows found = apart-in rest long same (refused (is_high_surrogate high && is_low_surrogate next) (surrogate_pair_char high next) found)
      where
        apart-in : (bytes : List ℕ) → 2 ≤ length bytes → next ≡ unit_of order (get_or bytes 0 0) (get_or bytes 1 0) → (is_high_surrogate high && is_low_surrogate next) ≡ false → ShowsFirst (Utf16 order) (first ∷ second ∷ bytes) Nothing
        apart-in [] enough at it = absurd (omega arith)
        apart-in (third ∷ []) enough at it = absurd (omega arith)
        apart-in (third ∷ fourth ∷ tail) enough at it = λ more. apart-first order high first second is next third fourth (tail ++ more) at from below it

-- ---- what a read of text leaves of bytes that spell no character

pub grown : (xs ys : List ℕ) (start end k n : ℕ) → start ≤ end → end ≤ length xs → n ≤ length ys
    → slice_range (put_mid end k xs ys) start (end + n) ≡ slice_range xs start end ++ take n ys
grown xs ys start end k n ordered within fits =
    let front = length-take-le end xs within in
    let held = drop start (take end xs) in
    let len : length held ≡ end - start = omega (arith, length-drop start (take end xs)) in
    let sum : end + n - start ≡ (end - start) + n = omega arith in
    let parts : end ≡ start + (end - start) = omega arith in
    let same : held ≡ take (end - start) (drop start xs) = ap (λ j. drop start (take j xs)) parts ∙ drop-take start (end - start) xs in
    let after = ys ++ post_of end k xs in
    ap (take (end + n - start)) (drop-append-le start (take end xs) after (omega arith))
    ∙ ap (λ j. take j (held ++ after)) sum ∙ take-add (end - start) n (held ++ after)
    ∙ (rw (take_at held after _ len, drop_at held after _ len, take-append-le n ys (post_of end k xs) fits, same) refl)

pub kept : (xs ys : List ℕ) (start end k : ℕ) → start ≤ end → end ≤ length xs
    → slice_range (put_mid end k xs ys) start end ≡ slice_range xs start end
kept xs ys start end k ordered within =
    let none : end ≡ end + 0 = omega arith in
    ap (slice_range (put_mid end k xs ys) start) none ∙ grown xs ys start end k 0 ordered within (omega arith) ∙ append-nil _

pub consumed : (xs : List ℕ) (start end count : ℕ) → start + count ≤ end
    → slice_range xs (start + count) end ≡ drop count (slice_range xs start end)
consumed xs start end count inside =
    let parts : end - start ≡ count + (end - (start + count)) = omega arith in
    sym (ap (λ j. drop count (take j (drop start xs))) parts ∙ drop-take count _ (drop start xs)
    ∙ ap (take (end - (start + count))) (drop-drop count start xs))

-- ---- readers of text

-- a text, and then that of these bytes and of the input
abbrev pub Left : (List ℕ → Decoding) → List ℕ → List ℕ → Option (List ℕ) → Option Decoding
Left by text bytes input = option_map (λ all. behind text (by all)) (prepend_known bytes input)

-- some of them spell no character
abbrev pub Cut : Option Decoding → Type 0
Cut left = IsSomeAnd left (λ decoding. decoding.is_cut ≡ true)

pub keeps-then : (a b c : Option Decoding) → KeepsDecoding a b → KeepsDecoding b c → KeepsDecoding a c
keeps-then None b c first second = tt
keeps-then (Some decoding) b c first second = rw first at second

pub cut-kept : (old new : Option Decoding) → KeepsDecoding old new → Cut old → Cut new
cut-kept None new same cut = absurd cut
cut-kept (Some decoding) new same cut = rw same cut

over-whole : (left : Option Decoding) → IsOver left → ¬ (Cut left)
over-whole None over = λ cut. cut
over-whole (Some decoding) over = rw over (λ cut. cc)

gives-cut : (by : List ℕ → Decoding) (front rest bytes : List ℕ) (input : Option (List ℕ)) → Cut (Left by (front ++ rest) bytes input) → Cut (Left by rest bytes input)
gives-cut by front rest bytes None cut = absurd cut
gives-cut by front rest bytes (Some xs) cut = cut

nil-length : (xs : List ℕ) → length xs ≡ 0 → xs ≡ []
nil-length [] none = refl
nil-length (x ∷ xs) none = absurd (omega arith)

no-room : (room : ℕ) → ¬ (0 < room) → room ≡ 0
no-room zero none = refl
no-room (suc room) none = absurd (none (omega arith))

-- a read that gives some of the text that is held, of which there is none only at the end
pub read-cuts : (old : Option Decoding) (by : List ℕ → Decoding) (held front rest bytes : List ℕ) (input : Option (List ℕ)) (n room : ℕ)
    → KeepsDecoding old (Left by held bytes input) → held ≡ front ++ rest → n ≡ min room (length held) → (held ≡ [] → IsOver (Left by held bytes input))
    → Cut old → Cut (Left by rest bytes input) × (n ≡ 0 → room ≡ 0)
read-cuts old by held front rest bytes input n room same is count over cut =
    let still : Cut (Left by held bytes input) = cut-kept old (Left by held bytes input) same cut in (
      gives-cut by front rest bytes input (subst (λ (xs : List ℕ). Cut (Left by xs bytes input)) is still),
      λ none. no-room room (λ some. over-whole (Left by held bytes input) (over (nil-length held (omega (arith, count, none, some)))) still),
    )

-- ---- what the first bytes of an input show of all of it

-- ---- marks

-- what isn't so is false
pub refuted : (b : Bool) → not b ≡ true → b ≡ false
refuted true e = absurd (false≢true e)
refuted false e = refl

-- bytes that are longer than a mark, or no beginning of it, show if it stands there
pub mark-shown : (bytes mark behind : List ℕ) → (length mark ≤ length bytes) ⊎ (starts_with nat_eq mark bytes ≡ false) → starts_with nat_eq (bytes ++ behind) mark ≡ starts_with nat_eq bytes mark
mark-shown bytes [] behind either = refl
mark-shown [] (sign ∷ mark) behind (inl long) = absurd (omega (arith, long))
mark-shown [] (sign ∷ mark) behind (inr other) = absurd (false≢true (sym other))
mark-shown (byte ∷ bytes) (sign ∷ mark) behind (inl long) =
    ap (λ (b : Bool). nat_eq sign byte && b) (mark-shown bytes mark behind (inl (omega (arith, long))))
mark-shown (byte ∷ bytes) (sign ∷ mark) behind (inr other) = elim (cases_Bool (nat_eq sign byte)) [
  | inl same ↦
      let turned : nat_eq byte sign ≡ true = eq-eqb byte sign (sym (eqb-true sign byte same)) in
      ap (λ (b : Bool). nat_eq sign byte && b) (mark-shown bytes mark behind (inr (rw turned at other)))
  | inr differs ↦ rw differs refl
]

-- ---- a byte order mark

abbrev bom : List ℕ
bom = 0xEF ∷ 0xBB ∷ 0xBF ∷ []

no-bom : (a b c : ℕ) (rest : List ℕ) → starts_with nat_eq (a ∷ b ∷ c ∷ rest) bom ≡ false → is_bom a b c ≡ false
no-bom a b c rest none = elim (cases_Bool (is_bom a b c)) [
  | inl is ↦
      let front = and_parts ((a == 0xEF) && (b == 0xBB)) (c == 0xBF) is in
      let first = and_parts (a == 0xEF) (b == 0xBB) front.0 in
      absurd (false≢true (sym (rw (eqb-true a 0xEF first.0, eqb-true b 0xBB first.1, eqb-true c 0xBF front.1) at none)))
  | inr other ↦ other
]

pub and-false : (b : Bool) → (b && false) ≡ false
and-false true = refl
and-false false = refl

stays : (bytes : List ℕ) → starts_with nat_eq bytes bom ≡ false → strip_bom bytes ≡ bytes
unfolding strip_bom
stays [] none = refl
stays (a ∷ []) none = refl
stays (a ∷ b ∷ []) none = refl
stays (a ∷ b ∷ c ∷ rest) none = rw (no-bom a b c rest none) refl

-- where bytes show if the mark stands there, what is behind them stays behind the text
pub text-shown : (bytes behind : List ℕ) → starts_with nat_eq (bytes ++ behind) bom ≡ starts_with nat_eq bytes bom → strip_bom (bytes ++ behind) ≡ strip_bom bytes ++ behind
unfolding strip_bom
text-shown [] behind same = stays behind same
text-shown (a ∷ []) behind same = stays (a ∷ behind) (same ∙ and-false (nat_eq 0xEF a))
text-shown (a ∷ b ∷ []) behind same = stays (a ∷ b ∷ behind) (same ∙ ap (λ (x : Bool). nat_eq 0xEF a && x) (and-false (nat_eq 0xBB b)) ∙ and-false (nat_eq 0xEF a))
text-shown (a ∷ b ∷ c ∷ rest) behind same = elim (cases_Bool (is_bom a b c)) [
  | inl is ↦ rw is refl
  | inr other ↦ rw other refl
]

-- ---- the first line

one-more : {X : Type 0} (n : ℕ) (x : X) (xs : List X) → take (1 + n) (x ∷ xs) ≡ x ∷ take n xs
one-more n x xs = let next : 1 + n ≡ suc n = omega arith in rw next refl

before-shown : (p : ℕ → Bool) (text behind : List ℕ) → list_any p text ≡ true → before_first p (text ++ behind) ≡ before_first p text
before-shown p [] behind some = absurd (false≢true some)
before-shown p (byte ∷ text) behind some = elim (cases_Bool (p byte)) [
  | inl ends ↦ rw ends refl
  | inr goes ↦ rw goes (one-more _ byte (text ++ behind) ∙ ap (λ (bytes : List ℕ). byte ∷ bytes) (before-shown p text behind (rw goes at some)) ∙ sym (one-more _ byte text))
]

line-before : (bytes : List ℕ) → first_line bytes ≡ before_first ends_line bytes
line-before bytes = elim (cases_Bool (nat_lt (position_or_len ends_line bytes) (length bytes))) [
  | inl within ↦ rw within refl
  | inr past ↦ rw past (sym (take_all (position_or_len ends_line bytes) bytes (search (rules, nat_tests, past))))
]

line-shown : (text behind : List ℕ) → list_any ends_line text ≡ true → first_line (text ++ behind) ≡ first_line text
line-shown text behind ends = line-before (text ++ behind) ∙ before-shown ends_line text behind ends ∙ sym (line-before text)

-- ---- the line of the first row

module _ (rules : RowRules) where
  row-on : (above : List ℕ) (is_out : Bool) (text behind : List ℕ) → list_any ends_line (first_row_behind rules above is_out text) ≡ true
      → first_row_behind rules above is_out (text ++ behind) ≡ first_row_behind rules above is_out text ++ behind
  row-on above is_out [] behind some = absurd (false≢true some)
  row-on above is_out (byte ∷ text) behind some = elim (cases_Bool (ends_line byte)) [
    | inl ends ↦ rw ends (row-on (above ++ byte ∷ []) false text behind (rw ends at some))
    | inr goes ↦ elim (cases_Bool (is_out || (nat_le (line_behind above) rules.skipped || is_comment rules.comment (byte ∷ [])))) [
      | inl out ↦ rw (goes, out) (row-on (above ++ byte ∷ []) true text behind (rw (goes, out) at some))
      | inr kept ↦ rw (goes, kept) refl
    ]
  ]

  row-within : (above : List ℕ) (is_out : Bool) (text : List ℕ) → list_any ends_line (first_row_behind rules above is_out text) ≡ true → list_any ends_line text ≡ true
  row-within above is_out [] some = some
  row-within above is_out (byte ∷ text) some = elim (cases_Bool (ends_line byte)) [
    | inl ends ↦ rw ends refl
    | inr goes ↦ elim (cases_Bool (is_out || (nat_le (line_behind above) rules.skipped || is_comment rules.comment (byte ∷ [])))) [
      | inl out ↦ rw goes (row-within (above ++ byte ∷ []) true text (rw (goes, out) at some))
      | inr kept ↦ let here : list_any ends_line (byte ∷ text) ≡ true = rw (goes, kept) at some in here
    ]
  ]

-- ---- the delimiter

abbrev HasRow : RowRules → List ℕ → Type 0
HasRow rules text = list_any ends_line (from_first_row rules text) ≡ true

module _ (rules : RowRules) (text behind : List ℕ) (has : HasRow rules text) where
  setting-shown : setting_of rules (text ++ behind) ≡ setting_of rules text
  setting-shown = ap (λ (line : List ℕ). if rules.skipped == 0 then setting_in line else None) (line-shown text behind (row-within rules [] false text has))

  row-shown : first_line (from_first_row rules (text ++ behind)) ≡ first_line (from_first_row rules text)
  row-shown = ap first_line (row-on rules [] false text behind has) ∙ line-shown (from_first_row rules text) behind has

  delimiter-shown : delimiter_seen rules (text ++ behind) ≡ delimiter_seen rules text
  delimiter-shown = rw (setting-shown, row-shown) refl

-- a line that sets the delimiter has five bytes
line-short : (text : List ℕ) → length (first_line text) ≤ length text
line-short text =
    let same : length (first_line text) ≡ min (position_or_len ends_line text) (length text) = ap length (line-before text) ∙ length-take (position_or_len ends_line text) text in
    omega (arith, same)

-- how often a line has a byte from a place on: that of the next byte, and from there on
abbrev counted : RowRules → ℕ → Bool → List ℕ → ℕ
counted rules byte is_quoted line = count_by (λ other. other == byte) (outside rules is_quoted line)

module _ (rules : RowRules) (line : List ℕ) (i byte count : ℕ) (is_quoted : Bool) (within : i < length line) (before : count + counted rules byte is_quoted (drop i line) ≡ count_of rules line byte) where
  next : drop i line ≡ get_or line i 0 ∷ drop (i + 1) line
  next = drop-cons line i 0 within ∙ ap (λ (n : ℕ). get_or line i 0 ∷ drop n line) (sym (add-one i))

  from-here : count + counted rules byte is_quoted (get_or line i 0 ∷ drop (i + 1) line) ≡ count_of rules line byte
  from-here = rw next at before

  -- a quote turns the side
  pub turns : is_quote rules.fields (get_or line i 0) ≡ true → count + counted rules byte (not is_quoted) (drop (i + 1) line) ≡ count_of rules line byte
  turns quote = rw quote at from-here

  -- a byte in quotes, or another one, counts for nothing
  pub passes : is_quote rules.fields (get_or line i 0) ≡ false → (is_quoted ≡ true) ⊎ (get_or line i 0 ≢ byte) → count + counted rules byte is_quoted (drop (i + 1) line) ≡ count_of rules line byte
  passes other either = go is_quoted either (rw other at from-here) where
    go : (q : Bool) → (q ≡ true) ⊎ (get_or line i 0 ≢ byte)
        → count + count_by (λ other. other == byte) (if q then outside rules q (drop (i + 1) line) else get_or line i 0 ∷ outside rules q (drop (i + 1) line)) ≡ count_of rules line byte
        → count + counted rules byte q (drop (i + 1) line) ≡ count_of rules line byte
    go true either is = is
    go false (inl never) is = absurd (false≢true never)
    go false (inr differs) is =
        let rest : List ℕ = outside rules false (drop (i + 1) line) in
        let none : count_by (λ other. other == byte) (get_or line i 0 ∷ rest) ≡ 0 + count_by (λ other. other == byte) rest = sum_by-cons (λ (x : ℕ). if x == byte then 1 else 0) (get_or line i 0) rest ∙ rw (ne_eqb (get_or line i 0) byte differs) refl in
        omega (arith, is, none)

  -- the byte counts outside them
  pub counts : is_quote rules.fields (get_or line i 0) ≡ false → is_quoted ≡ false → get_or line i 0 ≡ byte → (count + 1) + counted rules byte is_quoted (drop (i + 1) line) ≡ count_of rules line byte
  counts other bare same = go is_quoted bare (rw other at from-here) where
    go : (q : Bool) → q ≡ false
        → count + count_by (λ other. other == byte) (if q then outside rules q (drop (i + 1) line) else get_or line i 0 ∷ outside rules q (drop (i + 1) line)) ≡ count_of rules line byte
        → (count + 1) + counted rules byte q (drop (i + 1) line) ≡ count_of rules line byte
    go true never is = absurd (false≢true (sym never))
    go false none is =
        let rest : List ℕ = outside rules false (drop (i + 1) line) in
        let one : count_by (λ other. other == byte) (get_or line i 0 ∷ rest) ≡ 1 + count_by (λ other. other == byte) rest = sum_by-cons (λ (x : ℕ). if x == byte then 1 else 0) (get_or line i 0) rest ∙ rw (eq-eqb (get_or line i 0) byte same) refl in
        omega (arith, is, one)

set-long : (line : List ℕ) (sign : ℕ) → setting_in line ≡ Some sign → length line ≡ 5
set-long line sign is = elim (cases_Bool (starts_with nat_eq line (codes "sep=") && (length line == 5) && nat_lt (get_or line 4 0) 128 && not (get_or line 4 0 == 34))) [
  | inl all ↦
      let first = and_parts (starts_with nat_eq line (codes "sep=") && (length line == 5) && nat_lt (get_or line 4 0) 128) (not (get_or line 4 0 == 34)) all in
      let second = and_parts (starts_with nat_eq line (codes "sep=") && (length line == 5)) (nat_lt (get_or line 4 0) 128) first.0 in
      eqb-true (length line) 5 (and_parts (starts_with nat_eq line (codes "sep=")) (length line == 5) second.0).1
  | inr none ↦ let e = rw none at is in cc
]

long-text : (rules : RowRules) (text : List ℕ) (sign : ℕ) → setting_of rules text ≡ Some sign → 5 ≤ length text
long-text rules text sign is = elim (cases_Bool (rules.skipped == 0)) [
  | inl none ↦ omega (arith, set-long (first_line text) sign (rw none at is), line-short text)
  | inr some ↦ let e = rw some at is in cc
]

-- ---- the format

sign-shown : (text behind : List ℕ) (sign : ℕ) → first_sign text ≡ Some sign → first_sign (text ++ behind) ≡ Some sign
sign-shown text behind sign is = find-append _ text behind ∙ rw is refl

same-delimiter : (rules : RowRules) (sign : Option ℕ) (text other : List ℕ) → delimiter_seen rules other ≡ delimiter_seen rules text → format_from rules sign other ≡ format_from rules sign text
same-delimiter rules None text other same = ap (λ (delimiter : ℕ). separated delimiter rules) same
same-delimiter rules (Some sign) text other same = rw same refl

-- what a complete line shows
abbrev pub HasRowIn : Format → List ℕ → Type 0
HasRowIn (Separated dialect) text = HasRow dialect.rows text
HasRowIn Json text = ⊤
HasRowIn JsonLines text = ⊤

sets : (format : Format) (text behind : List ℕ) → HasRowIn format text → SetsAlike format text behind
sets (Separated dialect) text behind has = (setting-shown dialect.rows text behind has, λ some. is-set (setting_of dialect.rows text) refl some) where
  is-set : (set : Option ℕ) → setting_of dialect.rows text ≡ set → is_some set ≡ true → 5 ≤ length text
  is-set None is some = absurd (false≢true some)
  is-set (Some sign) is some = long-text dialect.rows text sign is
sets Json text behind has = tt
sets JsonLines text behind has = tt

pub values-shown : (rules : RowRules) (text behind : List ℕ) → HasRow rules text → ShowsText (known.Values rules) text behind
values-shown rules text behind has = record {
  format = ap (λ (delimiter : ℕ). separated delimiter rules) (delimiter-shown rules text behind has);
  setting = sets (values_seen rules text) text behind has;
}

-- with a format that is known, too
pub told-shown : (format : Format) (text behind : List ℕ) → HasRowIn format text → ShowsText (known.Format format) text behind
told-shown format text behind has = record { format = refl; setting = sets format text behind has }

-- and by the first sign
has-row : (rules : RowRules) (sign : Option ℕ) (text : List ℕ) → HasRow rules text → HasRowIn (format_from rules sign text) text
has-row rules None text has = has
has-row rules (Some sign) text has = elim (cases_Bool (sign == 91)) [
  | inl bracket ↦ rw bracket tt
  | inr other ↦ elim (cases_Bool (sign == 123)) [
    | inl brace ↦ rw (other, brace) tt
    | inr neither ↦ rw (other, neither) has
  ]
]

pub line-shows : (rules : RowRules) (text behind : List ℕ) (sign : ℕ) → first_sign text ≡ Some sign → HasRow rules text → ShowsText (known.Nothing rules) text behind
line-shows rules text behind sign is has = record {
  format = rw (sign-shown text behind sign is, is) (same-delimiter rules (Some sign) text (text ++ behind) (delimiter-shown rules text behind has));
  setting = sets (format_from rules (first_sign text) text) text behind (has-row rules (first_sign text) text has);
}

-- JSON sets no delimiter
pub json-shown : (format : Format) (text behind : List ℕ) → (format ≡ Json) ⊎ (format ≡ JsonLines) → ShowsText (known.Format format) text behind
json-shown format text behind (inl is) = record { format = refl; setting = rw is tt }
json-shown format text behind (inr is) = record { format = refl; setting = rw is tt }

pub bracket-shows : (rules : RowRules) (text behind : List ℕ) (sign : ℕ) → first_sign text ≡ Some sign → (sign ≡ 91) ⊎ (sign ≡ 123) → ShowsText (known.Nothing rules) text behind
bracket-shows rules text behind sign is (inl bracket) = record { format = rw (sign-shown text behind sign is, is, bracket) refl; setting = rw (is, bracket) tt }
bracket-shows rules text behind sign is (inr brace) = record { format = rw (sign-shown text behind sign is, is, brace) refl; setting = rw (is, brace) tt }

-- ---- an input

drop-on : (n : ℕ) (xs more : List ℕ) → n ≤ length xs → drop n (xs ++ more) ≡ drop n xs ++ more
drop-on n xs more within = drop-append-le n xs more within

content-by : (format : Format) (bytes text behind : List ℕ) → text ≡ strip_bom bytes → strip_bom (bytes ++ behind) ≡ text ++ behind → SetsAlike format text behind → HoldsOn format bytes behind
content-by (Separated dialect) bytes text behind is on (same, long) = elim (cases_Bool (is_some (setting_of dialect.rows text))) [
  | inl set ↦ rw (on, same, ← is, set) (drop-on 5 text behind (long set))
  | inr none ↦ rw (on, same, ← is, none) refl
]
content-by Json bytes text behind is on sets = refl
content-by JsonLines bytes text behind is on sets = refl

pub input-shown : (k : Known) (bytes text behind : List ℕ) → text ≡ strip_bom bytes → starts_with nat_eq (bytes ++ behind) bom ≡ starts_with nat_eq bytes bom → is_database (bytes ++ behind) ≡ is_database bytes
    → ShowsText k text behind → ShowsInput k bytes behind
input-shown k bytes text behind is mark database shown =
    let on : strip_bom (bytes ++ behind) ≡ text ++ behind = text-shown bytes behind mark ∙ ap (λ (t : List ℕ). t ++ behind) (sym is) in
    record {
      database = database;
      rows = record {
        format = ap (format_shown k) on ∙ shown.format ∙ ap (format_shown k) is;
        content = subst (λ (t : List ℕ). HoldsOn (format_shown k t) bytes behind) is (content-by (format_shown k text) bytes text behind is on shown.setting);
      };
    }

-- ---- a reading that goes on

-- rows that are complete are a beginning of all
ended-sound : (format : Format) (records : LineRules) (before behind : List ℕ) (reader : Reader) → HasTaken format records before reader → (more : List (List Text)) × (ended_rows format records before ++ more ≡ sound_rows format records (before ++ behind))
ended-sound format records before behind (Rows reader) (dialect, is, has) =
    let (more, same) = csv.ended-sound dialect before behind reader has in
    subst (λ (f : Format). (more : List (List Text)) × (ended_rows f records before ++ more ≡ sound_rows f records (before ++ behind))) (sym is) (more, sym same)
ended-sound format records before behind (Lines reader) (is, has) =
    let (more, same) = json.ended-sound records before behind reader has in
    subst (λ (f : Format). (more : List (List Text)) × (ended_rows f records before ++ more ≡ sound_rows f records (before ++ behind))) (sym is) (more, sym same)

module _ (format : Format) (records : LineRules) where
  -- rows that a piece gives
  pub given-on : (all before bytes behind : List ℕ) (left : Option (List ℕ)) (given old new : List (List Text)) (reading : Reading) → all ≡ (before ++ bytes) ++ behind → left ≡ Some behind
      → given ≡ ended_rows format records before → Gives format records before bytes ((before ++ bytes) ++ behind) old new reading → GoesOn format records all left given old new reading
  given-on all before bytes behind left given old new (More reader) is left-is given-is (taken, (rows, new-is, ended)) =
      (rows, new-is, (before ++ bytes, behind, is, left-is, taken, ap (λ (above : List (List Text)). above ++ rows) given-is ∙ ended))
  given-on all before bytes behind left given old new (Stored table) is left-is given-is gives = absurd gives
  given-on all before bytes behind left given old new (Done wrong) is left-is given-is (wrong-is, (rows, new-is, sound)) =
      (rows, new-is, (ap (λ (above : List (List Text)). above ++ rows) given-is ∙ sound ∙ ap (sound_rows format records) (sym is), ap (wrong_in format records) is ∙ wrong-is))

  -- a piece is read
  pub reads-on : (all bytes : List ℕ) (before-left left : Option (List ℕ)) (given old new : List (List Text)) (reader : Reader) (reading : Reading) → Consumes before-left left bytes
      → ((before behind : List ℕ) → HasTaken format records before reader → Gives format records before bytes ((before ++ bytes) ++ behind) old new reading)
      → Stands format records all before-left given (More reader) → GoesOn format records all left given old new reading
  reads-on all bytes None left given old new reader reading took gives (before, rest, is, left-is, taken, given-is) = cc
  reads-on all bytes (Some known) None given old new reader reading took gives stands = absurd took
  reads-on all bytes (Some known) (Some behind) given old new reader reading took gives (before, rest, is, left-is, taken, given-is) =
      let same : rest ≡ bytes ++ behind = (let e : known ≡ rest = cc in sym e ∙ took) in
      given-on all before bytes behind (Some behind) given old new reading (is ∙ ap (λ (xs : List ℕ). before ++ xs) same ∙ sym (append_assoc before bytes behind)) refl given-is (gives before behind taken)

  -- no byte is left
  ends-rows : (all before : List ℕ) (left : Option (List ℕ)) (given old new : List (List Text)) (reading : Reading) → all ≡ before → given ≡ ended_rows format records before → Ends format records before old new reading
      → GoesOn format records all left given old new reading
  ends-rows all before left given old new (More reader) is given-is ends = absurd ends
  ends-rows all before left given old new (Stored table) is given-is ends = absurd ends
  ends-rows all before left given old new (Done wrong) is given-is (wrong-is, (rows, new-is, sound)) =
      (rows, new-is, (ap (λ (above : List (List Text)). above ++ rows) given-is ∙ sound ∙ ap (sound_rows format records) (sym is), ap (wrong_in format records) is ∙ wrong-is))

  pub reads-end : (all : List ℕ) (before-left left : Option (List ℕ)) (given old new : List (List Text)) (reader : Reader) (reading : Reading) → IsAtEnd before-left
      → ((before : List ℕ) → HasTaken format records before reader → Ends format records before old new reading)
      → Stands format records all before-left given (More reader) → GoesOn format records all left given old new reading
  reads-end all None left given old new reader reading end ends (before, rest, is, left-is, taken, given-is) = cc
  reads-end all (Some known) left given old new reader reading end ends (before, rest, is, left-is, taken, given-is) =
      let none : rest ≡ [] = (let e : known ≡ rest = cc in sym e ∙ end) in
      ends-rows all before left given old new reading (is ∙ ap (λ (xs : List ℕ). before ++ xs) none ∙ append-nil before) given-is (ends before taken)

  -- rows that were given are a beginning of all
  pub stands-to : (all : List ℕ) (left : Option (List ℕ)) (given : List (List Text)) (reading : Reading) → Stands format records all left given reading → GoesTo given reading (sound_rows format records all) (wrong_in format records all)
  stands-to all left given (More reader) (before, rest, is, left-is, taken, given-is) =
      let (more, sound) = ended-sound format records before rest reader taken in
      (more, ap (λ (rows : List (List Text)). rows ++ more) given-is ∙ sound ∙ ap (sound_rows format records) (sym is))
  stands-to all left given (Stored table) stands = absurd stands
  stands-to all left given (Done wrong) stands = stands

-- ---- a reader of a format, by what the readers of the formats tell

rows-wrong : (found : RowsFault) → found ≢ rows_fault.Memory → fault_of_rows (csv_faults.but_line found) ≡ but_line_in (input.Rows found)
rows-wrong (rows_fault.OpenQuote line) some = refl
rows-wrong (rows_fault.BehindQuote line) some = refl
rows-wrong (rows_fault.Length row line fields columns) some = refl
rows-wrong (rows_fault.Encoding row line) some = refl
rows-wrong rows_fault.Memory some = absurd (some refl)

lines-wrong : (found : JsonFault) → found ≢ json_fault.Memory → fault_of_json (json_faults.but_line found) ≡ but_line_in (input.Json found)
lines-wrong (json_fault.Encoding place) some = refl
lines-wrong (json_fault.Syntax place) some = refl
lines-wrong json_fault.NoMember some = refl
lines-wrong json_fault.NoRecords some = refl
lines-wrong (json_fault.NoObject place) some = refl
lines-wrong (json_fault.NoColumn place) some = refl
lines-wrong json_fault.Memory some = absurd (some refl)

module _ (format : Format) (records : LineRules) (before bytes all : List ℕ) (old new : List (List Text)) where
  pub rows-more : (dialect : Dialect) (reader : RowReader) → format ≡ Separated dialect → csv_reading.HasRead dialect (before ++ bytes) reader
      → AppendsRest (csv_rows.ended_rows dialect before) (csv_rows.ended_rows dialect (before ++ bytes)) old new → Gives format records before bytes all old new (More (Rows reader))
  rows-more dialect reader is has rest = subst (λ (f : Format). Gives f records before bytes all old new (More (Rows reader))) (sym is) ((dialect, refl, has), rest)

  pub rows-bad : (dialect : Dialect) (found : RowsFault) → found ≢ rows_fault.Memory → format ≡ Separated dialect → (found ≢ rows_fault.Memory → csv_faults.rows_fault dialect all ≡ Some (csv_faults.but_line found))
      → (found ≢ rows_fault.Memory → AppendsRest (csv_rows.ended_rows dialect before) (csv_faults.sound_rows dialect all) old new) → Gives format records before bytes all old new (Done (Some (input.Rows found)))
  rows-bad dialect found some is told rest =
      subst (λ (f : Format). Gives f records before bytes all old new (Done (Some (input.Rows found)))) (sym is)
      (ap (option_map fault_of_rows) (told some) ∙ ap (λ (f : InputFault). Some f) (rows-wrong found some), rest some)

  pub lines-more : (reader : LineReader) → format ≡ JsonLines → json_reading.HasRead records (before ++ bytes) reader
      → AppendsRest (json_reading.ended_line_rows records before) (json_reading.ended_line_rows records (before ++ bytes)) old new → Gives format records before bytes all old new (More (Lines reader))
  lines-more reader is has rest = subst (λ (f : Format). Gives f records before bytes all old new (More (Lines reader))) (sym is) ((refl, has), rest)

  pub lines-bad : (found : JsonFault) → found ≢ json_fault.Memory → format ≡ JsonLines → (found ≢ json_fault.Memory → json_reading.streamed_line_fault records all ≡ Some (json_faults.but_line found))
      → (found ≢ json_fault.Memory → AppendsRest (json_reading.ended_line_rows records before) (json_reading.sound_line_rows records all) old new) → Gives format records before bytes all old new (Done (Some (input.Json found)))
  lines-bad found some is told rest =
      subst (λ (f : Format). Gives f records before bytes all old new (Done (Some (input.Json found)))) (sym is)
      (ap (option_map fault_of_json) (told some) ∙ ap (λ (f : InputFault). Some f) (lines-wrong found some), rest some)

module _ (format : Format) (records : LineRules) (bytes : List ℕ) (old new : List (List Text)) where
  pub rows-end : (dialect : Dialect) → format ≡ Separated dialect → csv_faults.rows_fault dialect bytes ≡ None
      → AppendsRest (csv_rows.ended_rows dialect bytes) (csv_faults.sound_rows dialect bytes) old new → Ends format records bytes old new (Done None)
  rows-end dialect is none rest = subst (λ (f : Format). Ends f records bytes old new (Done None)) (sym is) (ap (option_map fault_of_rows) none, rest)

  pub rows-end-bad : (dialect : Dialect) (found : RowsFault) → found ≢ rows_fault.Memory → format ≡ Separated dialect → (found ≢ rows_fault.Memory → csv_faults.rows_fault dialect bytes ≡ Some (csv_faults.but_line found))
      → (found ≢ rows_fault.Memory → AppendsRest (csv_rows.ended_rows dialect bytes) (csv_faults.sound_rows dialect bytes) old new) → Ends format records bytes old new (Done (Some (input.Rows found)))
  rows-end-bad dialect found some is told rest =
      subst (λ (f : Format). Ends f records bytes old new (Done (Some (input.Rows found)))) (sym is)
      (ap (option_map fault_of_rows) (told some) ∙ ap (λ (f : InputFault). Some f) (rows-wrong found some), rest some)

  pub lines-end : format ≡ JsonLines → json_reading.streamed_line_fault records bytes ≡ None
      → AppendsRest (json_reading.ended_line_rows records bytes) (json_reading.sound_line_rows records bytes) old new → Ends format records bytes old new (Done None)
  lines-end is none rest = subst (λ (f : Format). Ends f records bytes old new (Done None)) (sym is) (ap (option_map fault_of_json) none, rest)

  pub lines-end-bad : (found : JsonFault) → found ≢ json_fault.Memory → format ≡ JsonLines → (found ≢ json_fault.Memory → json_reading.streamed_line_fault records bytes ≡ Some (json_faults.but_line found))
      → (found ≢ json_fault.Memory → AppendsRest (json_reading.ended_line_rows records bytes) (json_reading.sound_line_rows records bytes) old new) → Ends format records bytes old new (Done (Some (input.Json found)))
  lines-end-bad found some is told rest =
      subst (λ (f : Format). Ends f records bytes old new (Done (Some (input.Json found)))) (sym is)
      (ap (option_map fault_of_json) (told some) ∙ ap (λ (f : InputFault). Some f) (lines-wrong found some), rest some)

-- ---- nothing is complete yet

nil-front : {X : Type 0} (xs ys : List X) → xs ++ ys ≡ [] → xs ≡ []
nil-front [] ys none = refl
nil-front (x ∷ xs) ys none = cc

either-none : (b : Bool) (one other : List (List Text)) → one ≡ [] → other ≡ [] → (if b then one else other) ≡ []
either-none true one other first second = first
either-none false one other first second = second

no-row : (dialect : Dialect) → csv_rows.rows_in dialect [] ≡ []
unfolding records_from next_record words_of
no-row dialect = either-none (are_words dialect.rows.fields) (rows_of_lines (lines_of [])) (records (config_of dialect) []) refl refl

no-rows : (dialect : Dialect) → csv_faults.sound_rows dialect [] ≡ []
unfolding csv_faults.sound_rows kept_text
no-rows dialect = ap (λ (rows : List (List Text)). take_while (csv_faults.is_sound dialect (csv_rows.columns_of rows)) rows) (no-row dialect)

no-lines : (records : LineRules) → json_reading.sound_line_rows records [] ≡ []
unfolding strip_bom json_rows.line_rows_of json_faults.line_rows_fault
no-lines records =
    let none = json.fault-as-at-once records [] (omega arith) in
    json.as-at-once records [] none (omega arith)

pub rows-begin : (dialect : Dialect) (reader : RowReader) → csv_reading.HasRead dialect [] reader → csv_rows.ended_rows dialect [] ≡ []
rows-begin dialect reader has =
    let (more, same) = csv.ended-sound dialect [] [] reader has in
    nil-front (csv_rows.ended_rows dialect []) more (sym same ∙ no-rows dialect)

pub lines-begin : (records : LineRules) (reader : LineReader) → json_reading.HasRead records [] reader → json_reading.ended_line_rows records [] ≡ []
lines-begin records reader has =
    let (more, same) = json.ended-sound records [] [] reader has in
    nil-front (json_reading.ended_line_rows records []) more (sym same ∙ no-lines records)

-- the rows that the first bytes give
pub front-rows : {E : Type 0} (format : Format) (records : LineRules) (front rest : List ℕ) (old new : List (List Text)) (result : Result Reading E) → ended_rows format records [] ≡ []
    → IfOk result (Gives format records [] front (([] ++ front) ++ rest) old new) → IfOk result (GoesOn format records (front ++ rest) (Some rest) [] old new)
front-rows format records front rest old new (Ok reading) none gives = given-on format records (front ++ rest) [] front rest (Some rest) [] old new reading refl refl (sym none) gives
front-rows format records front rest old new (Err fault) none gives = tt

-- ---- what is written

-- ---- texts that are written one part after another

-- known bytes that grow, and grow by a beginning
pub begins-behind : (old mid new : Option (List ℕ)) (front bytes : List ℕ) → Appends old mid front → Begins mid new bytes → Begins old new (front ++ bytes)
begins-behind old mid new front bytes wrote (done, rest, is, appends) =
    (front ++ done, rest, ap (λ (xs : List ℕ). front ++ xs) is ∙ sym (append_assoc front done rest), Appends-trans old mid new front done wrote appends)

pub begins-none : (old new : Option (List ℕ)) (bytes : List ℕ) → Keeps old new → Begins old new bytes
begins-none old new bytes kept = ([], bytes, refl, Appends-kept old old new [] (Appends-nil old) kept)

pub begins-longer : (old new : Option (List ℕ)) (bytes more : List ℕ) → Begins old new bytes → Begins old new (bytes ++ more)
begins-longer old new bytes more (done, rest, is, wrote) = (done, rest ++ more, ap (λ (xs : List ℕ). xs ++ more) is ∙ append_assoc done rest more, wrote)

pub begins-all : (old new : Option (List ℕ)) (bytes : List ℕ) → Appends old new bytes → Begins old new bytes
begins-all old new bytes wrote = (bytes, [], sym (append-nil bytes), wrote)

pub begins-kept : (old mid new : Option (List ℕ)) (bytes : List ℕ) → Begins old mid bytes → Keeps mid new → Begins old new bytes
begins-kept old mid new bytes (done, rest, is, wrote) kept = (done, rest, is, Appends-kept old mid new done wrote kept)

-- a text that grows
pub grows-none : (text : Text) (old new : Option (List ℕ)) → Keeps old new → Grows text text old new
grows-none text old new kept = ([], append-nil text, Appends-kept old old new [] (Appends-nil old) kept)

pub grows-more : (above between all : Text) (old mid new : Option (List ℕ)) → Grows above between old mid → Grows between all mid new → Grows above all old new
grows-more above between all old mid new (front, is, wrote) (back, last, more) =
    (front ++ back, sym (append_assoc above front back) ∙ ap (λ (t : Text). t ++ back) is ∙ last, Appends-trans old mid new front back wrote more)

pub grows-kept : (above all : Text) (old mid new : Option (List ℕ)) → Grows above all old mid → Keeps mid new → Grows above all old new
grows-kept above all old mid new (front, is, wrote) kept = (front, is, Appends-kept old mid new front wrote kept)

pub nears-more : (above between all : Text) (old mid new : Option (List ℕ)) → Grows above between old mid → Nears between all mid new → Nears above all old new
nears-more above between all old mid new (front, is, wrote) (back, last, begins) =
    (front ++ back, sym (append_assoc above front back) ∙ ap (λ (t : Text). t ++ back) is ∙ last, begins-behind old mid new front back wrote begins)

pub nears-on : (above between all : Text) (old new : Option (List ℕ)) → Nears above between old new → (x : Text) × (between ++ x ≡ all) → Nears above all old new
nears-on above between all old new (front, is, begins) (x, last) =
    (front ++ x, sym (append_assoc above front x) ∙ ap (λ (t : Text). t ++ x) is ∙ last, begins-longer old new front x begins)

pub grows-nears : (above all : Text) (old new : Option (List ℕ)) → Grows above all old new → Nears above all old new
grows-nears above all old new (front, is, wrote) = (front, is, begins-all old new front wrote)

pub nears-none : (above all : Text) (old new : Option (List ℕ)) → (x : Text) × (above ++ x ≡ all) → Keeps old new → Nears above all old new
nears-none above all old new (x, last) kept = (x, last, begins-none old new x kept)

-- ---- bytes that are written one part after another

-- nothing is written
pub appends-none : (old new : Option (List ℕ)) → Keeps old new → Appends old new []
appends-none old new kept = Appends-kept old old new [] (Appends-nil old) kept

-- what was written, and what is left
abbrev pub Goes : Option (List ℕ) → Option (List ℕ) → List ℕ → List ℕ → Type 0
Goes old new bytes rest = (done : List ℕ) × (bytes ≡ done ++ rest) × Appends old new done

pub goes-begin : (old : Option (List ℕ)) (bytes : List ℕ) → Goes old old bytes bytes
goes-begin old bytes = ([], refl, Appends-nil old)

pub goes-on : (old mid new : Option (List ℕ)) (bytes rest part left : List ℕ) → Goes old mid bytes rest → rest ≡ part ++ left → Appends mid new part → Goes old new bytes left
goes-on old mid new bytes rest part left (done, split, wrote) is more =
    (done ++ part, split ∙ subst (λ (xs : List ℕ). done ++ rest ≡ done ++ xs) is refl ∙ sym (append_assoc done part left), Appends-trans old mid new done part wrote more)

-- all is written, or a beginning
pub goes-end : (old new : Option (List ℕ)) (bytes rest : List ℕ) → Goes old new bytes rest → rest ≡ [] → Appends old new bytes
goes-end old new bytes rest (done, split, wrote) none = subst (Appends old new) (sym (split ∙ subst (λ (xs : List ℕ). done ++ rest ≡ done ++ xs) none refl ∙ append-nil done)) wrote

pub goes-stops : (old mid new : Option (List ℕ)) (bytes rest : List ℕ) → Goes old mid bytes rest → Appends mid new [] → Begins old new bytes
goes-stops old mid new bytes rest (done, split, wrote) none = (done, rest, split, subst (Appends old new) (append-nil done) (Appends-trans old mid new done [] wrote none))

pub goes-stays : (old new : Option (List ℕ)) (bytes rest : List ℕ) → Goes old new bytes rest → Begins old new bytes
goes-stays old new bytes rest (done, split, wrote) = (done, rest, split, wrote)

-- all was written before a fault
pub all-begun : (old mid new : Option (List ℕ)) (bytes : List ℕ) → Appends old mid bytes → Keeps mid new → Begins old new bytes
all-begun old mid new bytes wrote kept = (bytes, [], sym (append-nil bytes), Appends-kept old mid new bytes wrote kept)

-- what holds anyway holds of an answer
pub on-err : {X F : Type 0} {P : Type 0} (r : Result X F) → P → OnErr r P
on-err (Ok x) p = tt
on-err (Err fault) p = p

-- ---- the lines of a table that is drawn row by row are a beginning of its picture

pub begun-on : (options : Options) (plan : Plan) (above : List (List Text)) (table : TableRows) (rows more : List (List Text)) → HasAppended options plan above table → (x : Text) × (begun_text options plan rows ++ x ≡ begun_text options plan (rows ++ more))
begun-on options plan above table rows more has = pictures.begun-on options plan rows more has.drawn.plain

pub begun-whole : (options : Options) (plan : Plan) (above : List (List Text)) (table : TableRows) (rows : List (List Text)) → HasAppended options plan above table → (x : Text) × (begun_text options plan rows ++ x ≡ whole_text options plan rows)
begun-whole options plan above table rows has = pictures.begun-whole options plan rows has.drawn.plain has.drawn.some

pub begun-none : (options : Options) (plan : Plan) → begun_text options plan [] ≡ []
unfolding lines_of_table
begun-none options plan = refl

pub whole-none : (options : Options) (plan : Plan) → whole_text options plan [] ≡ []
whole-none options plan = refl

-- Lines of JSON, one more behind those that are read, in pieces of any length, and all at once.
use Rattle.std.proofs.Common.{◌≡◌, ◌∙◌, ◌∷◌, ◌++◌, ◌+◌, ◌<◌, ◌≤◌, ℕ, List, [], Option, None, Some, map, length, is_none, arith, Vec, Global, String, string_bytes, refl, sym, ap, subst, ◌-◌}
use Rattle.std.proofs.Common.{◌&&◌, Bool, true, false, take, inl, inr, drop, get_or, ◌≢◌, Result, Ok, Err, option_map}
use Rattle.std.specs.Prelude.{option_and_then, if◌then◌else◌, ◌==◌, IsErrAnd, OnOk}
use Rattle.std.specs.List.{cons_option}
use Rattle.std.specs.Option.{option_or}
use Rattle.std.proofs.lemmas.List.{append_assoc, append-nil, length-append, take_all, length-map, map-append, map_more, drop_more, take-append-drop, take-append-le}
use Rattle.std.proofs.lemmas.List.Sums.{fold-append}
use Rattle.std.proofs.lemmas.List.Elements.{filter_map-append, All-append, All-nil, All-tail}
use Rattle.csv.specs.Records.{Row, fields_of}
use Rattle.json.specs.Json.{Json}
use Rattle.ruled_json.specs.Faults.{first_line_fault, line_after, line_fault, line_rows_fault, Tells, but_line}
use Rattle.ruled_json.specs.Streamed.{AppendsRest, HasLines, HasRecords, columns_in, padded, HasRead, NoFeed, without_front, LineRules, ended_table, fault_behind, first_fault_behind}
use Rattle.ruled_json.specs.Streamed.{late_fault, lines_above_fault, number_behind, streamed_table, all_but_last, ended_line_rows, ended_lines, sound_line_rows, streamed_line_fault}
use Rattle.ruled_json.specs.Streamed.{Foretells, OnFault, first_columns, left_of}
use Rattle.ruled_json.specs.Rows.{columns_of, record_on, records_on, row_of, table_in, table_of, lines_of, Rules, line_rows_of, shown_record, value_on}
use Rattle.ruled_json.specs.declared.fault.JsonFault.{JsonFault}
use Rattle.ruled_json.specs.declared.line_table.LineTable.{LineTable}
use Rattle.ruled_json.specs.declared.member_names.MemberNames.{MemberNames}
use Rattle.ruled_json.proofs.Tables.{no-late-fault}
use Rattle.std.proofs.Math.Seq.{take-append_seam}
use Rattle.std.proofs.lemmas.Bool.{cases_Bool, eqb-true}
use Rattle.std.proofs.lemmas.List.Splits.{slice_split_at, slice_split_none}
use Rattle.csv.specs.Reading.{is_bom, strip_bom}
use Rattle.ruled_json.specs.declared.line_reader.LineReader.{LineReader}
use Rattle.std.specs.Borrow.{Bor}
use Rattle.std.specs.Bool.{OnTrue}
use Rattle.ruled_json.specs.declared.fault.JsonFault.TheVariants.{Memory}

-- ---- lines, one more behind those that are read

-- the records on one line more
pub records-more : (rules : Rules) (lines : List (List ℕ)) (line : List ℕ) (found : Option Json) → found ≡ record_on rules line → records_on rules (lines ++ line ∷ []) ≡ records_on rules lines ++ cons_option found []
records-more rules lines line found is = filter_map-append (record_on rules) lines (line ∷ []) ∙ ap (λ (v : Option Json). records_on rules lines ++ cons_option v []) (sym is)

pub number-more : (lines : List (List ℕ)) (line : List ℕ) → number_behind (lines ++ line ∷ []) ≡ line_after (number_behind lines) line
number-more lines line = fold-append line_after 1 lines (line ∷ [])

-- a sound line more
pub right-more : (k : LineRules) (lines : List (List ℕ)) (line : List ℕ) → fault_behind k lines line ≡ None
    → ((behind : List (List ℕ)) → first_fault_behind k [] (lines ++ behind) ≡ first_fault_behind k lines behind)
    → (behind : List (List ℕ)) → first_fault_behind k [] ((lines ++ line ∷ []) ++ behind) ≡ first_fault_behind k (lines ++ line ∷ []) behind
right-more k lines line none right behind =
    ap (first_fault_behind k []) (append_assoc lines (line ∷ []) behind) ∙ right (line ∷ behind)
    ∙ ap (λ (fault : Option JsonFault). option_or fault (first_fault_behind k (lines ++ line ∷ []) behind)) none

pub above-more : (k : LineRules) (lines : List (List ℕ)) (line : List ℕ) → fault_behind k lines line ≡ None
    → ((behind : List (List ℕ)) → lines_above_fault k [] (lines ++ behind) ≡ lines_above_fault k lines behind)
    → (behind : List (List ℕ)) → lines_above_fault k [] ((lines ++ line ∷ []) ++ behind) ≡ lines_above_fault k (lines ++ line ∷ []) behind
above-more k lines line none above behind =
    ap (lines_above_fault k []) (append_assoc lines (line ∷ []) behind) ∙ above (line ∷ behind)
    ∙ ap (λ (fault : Option JsonFault). if is_none fault then lines_above_fault k (lines ++ line ∷ []) behind else lines) none

-- what is had of records doesn't rest on the line's number
pub same-records : (k : LineRules) (above : List Json) (t new : LineTable) → HasRecords k above t → new.left ≡ t.left → new.names ≡ t.names → new.held ≡ t.held → new.null ≡ t.null → HasRecords k above new
same-records k above t new has left names held null =
    let columns : columns_in new ≡ columns_in t = ap (λ (n : MemberNames). map string_bytes n.names.keys) names in
    record {
      left = left ∙ has.left;
      columns = columns ∙ has.columns;
      null_text = ap string_bytes null ∙ has.null_text;
      held = λ some.
          ap (λ (c : List (List ℕ)). map (padded (length c)) (map fields_of new.held.items)) columns
          ∙ ap (λ (rows : Vec Row Global). map (padded (length (columns_in t))) (map fields_of rows.items)) held
          ∙ has.held (subst (λ (n : ℕ). 0 < n) left some) ∙ ap (λ (c : List (List ℕ)). map (row_of (string_bytes t.null) c) above) (sym columns)
          ∙ ap (λ (text : String Global). map (row_of (string_bytes text) (columns_in new)) above) (sym null);
    }

-- a table with a sound line more
pub lines-more : (k : LineRules) (lines : List (List ℕ)) (line : List ℕ) (t new : LineTable) → HasLines k lines t → fault_behind k lines line ≡ None
    → HasRecords k (records_on k.members (lines ++ line ∷ [])) new → new.is_flat ≡ t.is_flat → new.number ≡ line_after t.number line → HasLines k (lines ++ line ∷ []) new
lines-more k lines line t new has none records flat number = record {
  has = records;
  flat = flat ∙ has.flat;
  number = number ∙ ap (λ (n : ℕ). line_after n line) has.number ∙ sym (number-more lines line);
  right = right-more k lines line none has.right;
  above = above-more k lines line none has.above;
}

pub with-record : (k : LineRules) (lines : List (List ℕ)) (line : List ℕ) (v : Json) (new : LineTable) → Some v ≡ record_on k.members line → HasRecords k (records_on k.members lines ++ v ∷ []) new
    → HasRecords k (records_on k.members (lines ++ line ∷ [])) new
with-record k lines line v new is has = subst (λ (rs : List Json). HasRecords k rs new) (sym (records-more k.members lines line (Some v) is)) has

pub no-record : (rules : Rules) (lines : List (List ℕ)) (line : List ℕ) → None ≡ record_on rules line → records_on rules (lines ++ line ∷ []) ≡ records_on rules lines
no-record rules lines line is = records-more rules lines line None is ∙ append-nil (records_on rules lines)

pub without-record : (k : LineRules) (lines : List (List ℕ)) (line : List ℕ) (t new : LineTable) → None ≡ record_on k.members line → HasRecords k (records_on k.members lines) t
    → new.left ≡ t.left → new.names ≡ t.names → new.held ≡ t.held → new.null ≡ t.null → HasRecords k (records_on k.members (lines ++ line ∷ [])) new
without-record k lines line t new is has left names held null =
    subst (λ (rs : List Json). HasRecords k rs new) (sym (no-record k.members lines line is)) (same-records k (records_on k.members lines) t new has left names held null)

pub with-rows : (k : LineRules) (lines : List (List ℕ)) (line : List ℕ) (v : Json) (old new : List (List (List ℕ))) → Some v ≡ record_on k.members line
    → AppendsRest (ended_table k (records_on k.members lines)) (ended_table k (records_on k.members lines ++ v ∷ [])) old new
    → AppendsRest (ended_table k (records_on k.members lines)) (ended_table k (records_on k.members (lines ++ line ∷ []))) old new
with-rows k lines line v old new is rest = (rest.0, rest.1, rest.2 ∙ ap (ended_table k) (sym (records-more k.members lines line (Some v) is)))

pub no-rows : (k : LineRules) (lines : List (List ℕ)) (line : List ℕ) (old : List (List (List ℕ))) → None ≡ record_on k.members line
    → AppendsRest (ended_table k (records_on k.members lines)) (ended_table k (records_on k.members (lines ++ line ∷ []))) old old
no-rows k lines line old is = ([], sym (append-nil old), append-nil (ended_table k (records_on k.members lines)) ∙ ap (ended_table k) (sym (no-record k.members lines line is)))

-- where no line is left
pub all-right : (k : LineRules) (lines : List (List ℕ)) (t : LineTable) → HasLines k lines t → first_fault_behind k [] lines ≡ None
all-right k lines t has = ap (first_fault_behind k []) (sym (append-nil lines)) ∙ has.right []

pub all-lines : (k : LineRules) (lines : List (List ℕ)) (t : LineTable) → HasLines k lines t → lines_above_fault k [] lines ≡ lines
all-lines k lines t has = ap (lines_above_fault k []) (sym (append-nil lines)) ∙ has.above []

-- what is wrong, and the lines above it, where a line is bad
pub bad-line : (k : LineRules) (lines behind : List (List ℕ)) (line : List ℕ) (t : LineTable) (fault : JsonFault) → HasLines k lines t → fault_behind k lines line ≡ Some fault
    → first_fault_behind k [] (lines ++ line ∷ behind) ≡ Some fault
bad-line k lines behind line t fault has wrong =
    has.right (line ∷ behind) ∙ ap (λ (found : Option JsonFault). option_or found (first_fault_behind k (lines ++ line ∷ []) behind)) wrong

pub lines-above : (k : LineRules) (lines behind : List (List ℕ)) (line : List ℕ) (t : LineTable) (fault : JsonFault) → HasLines k lines t → fault_behind k lines line ≡ Some fault
    → lines_above_fault k [] (lines ++ line ∷ behind) ≡ lines
lines-above k lines behind line t fault has wrong =
    has.above (line ∷ behind) ∙ ap (λ (found : Option JsonFault). if is_none found then lines_above_fault k (lines ++ line ∷ []) behind else lines) wrong

-- what is wrong with a line, by what is found on it
pub blank-sound : (k : LineRules) (n : ℕ) (lines : List (List ℕ)) (line : List ℕ) → n ≡ number_behind lines → line_fault n line ≡ None → None ≡ record_on k.members line → fault_behind k lines line ≡ None
blank-sound k n lines line at none blank =
    let here : line_fault (number_behind lines) line ≡ None = ap (λ (m : ℕ). line_fault m line) (sym at) ∙ none in
    ap (λ (fault : Option JsonFault). option_or fault (option_and_then (late_fault k (records_on k.members lines) (number_behind lines)) (record_on k.members line))) here
    ∙ ap (option_and_then (late_fault k (records_on k.members lines) (number_behind lines))) (sym blank)

pub record-fault : (k : LineRules) (n : ℕ) (lines : List (List ℕ)) (line : List ℕ) (v : Json) → n ≡ number_behind lines → line_fault n line ≡ None → Some v ≡ record_on k.members line
    → fault_behind k lines line ≡ late_fault k (records_on k.members lines) n v
record-fault k n lines line v at none is =
    let here : line_fault (number_behind lines) line ≡ None = ap (λ (m : ℕ). line_fault m line) (sym at) ∙ none in
    ap (λ (fault : Option JsonFault). option_or fault (option_and_then (late_fault k (records_on k.members lines) (number_behind lines)) (record_on k.members line))) here
    ∙ ap (option_and_then (late_fault k (records_on k.members lines) (number_behind lines))) (sym is) ∙ ap (λ (m : ℕ). late_fault k (records_on k.members lines) m v) (sym at)

pub line-bad : (k : LineRules) (n : ℕ) (lines : List (List ℕ)) (line : List ℕ) (fault : JsonFault) → n ≡ number_behind lines → line_fault n line ≡ Some fault → fault_behind k lines line ≡ Some fault
line-bad k n lines line fault at wrong =
    let here : line_fault (number_behind lines) line ≡ Some fault = ap (λ (m : ℕ). line_fault m line) (sym at) ∙ wrong in
    ap (λ (found : Option JsonFault). option_or found (option_and_then (late_fault k (records_on k.members lines) (number_behind lines)) (record_on k.members line))) here

-- ---- where all records say columns

few : (found : Option Json) (records : List Json) (n : ℕ) → length records ≤ n → length (cons_option found records) ≤ n + 1
few None records n h = omega arith
few (Some v) records n h = omega arith

-- so many lines hold no more records
pub few-records : (rules : Rules) (lines : List (List ℕ)) → length (records_on rules lines) ≤ length lines
few-records rules [] = omega arith
few-records rules (line ∷ lines) = omega (arith, few (record_on rules line) (records_on rules lines) (length lines) (few-records rules lines))

count-more : (found : Option Json) (records : List Json) → length (cons_option found records) ≡ length (cons_option found []) + length records
count-more None records = omega arith
count-more (Some v) records = omega arith

moved : (rules : Rules) (above : List (List ℕ)) (line : List ℕ) (lines : List (List ℕ)) (k : ℕ) → length (records_on rules above) + length (records_on rules (line ∷ lines)) ≤ k
    → length (records_on rules (above ++ line ∷ [])) + length (records_on rules lines) ≤ k
moved rules above line lines k h =
    let one : length (records_on rules (above ++ line ∷ [])) ≡ length (records_on rules above) + length (cons_option (record_on rules line) []) =
    ap (λ (rs : List Json). length rs) (records-more rules above line (record_on rules line) refl) ∙ length-append (records_on rules above) (cons_option (record_on rules line) []) in
    omega (arith, one, count-more (record_on rules line) (records_on rules lines))

record-fits : (rules : Rules) (k : ℕ) (above : List (List ℕ)) (line : List ℕ) (lines : List (List ℕ)) → length (records_on rules above) + length (records_on rules (line ∷ lines)) ≤ k
    → length (records_on rules above) + length (cons_option (record_on rules line) []) ≤ k
record-fits rules k above line lines h = omega (arith, count-more (record_on rules line) (records_on rules lines))

or-none : {X : Type 0} (found : Option X) → option_or found None ≡ found
or-none None = refl
or-none (Some x) = refl

same-here : (k : LineRules) (above : List (List ℕ)) (line : List ℕ) (found : Option Json) → found ≡ record_on k.members line → length (records_on k.members above) + length (cons_option found []) ≤ k.records
    → fault_behind k above line ≡ line_fault (number_behind above) line
same-here k above line None is fits =
    ap (λ (v : Option Json). option_or (line_fault (number_behind above) line) (option_and_then (late_fault k (records_on k.members above) (number_behind above)) v)) (sym is)
    ∙ or-none (line_fault (number_behind above) line)
same-here k above line (Some v) is fits =
    ap (λ (w : Option Json). option_or (line_fault (number_behind above) line) (option_and_then (late_fault k (records_on k.members above) (number_behind above)) w)) (sym is)
    ∙ ap (option_or (line_fault (number_behind above) line)) (no-late-fault k (number_behind above) (records_on k.members above) v (omega arith)) ∙ or-none (line_fault (number_behind above) line)

both-none : (first second : Option JsonFault) → option_or first second ≡ None → (first ≡ None) × (second ≡ None)
both-none None second e = (refl, e)
both-none (Some fault) second e = absurd (cc)

pub same-fault : (k : LineRules) (above lines : List (List ℕ)) → length (records_on k.members above) + length (records_on k.members lines) ≤ k.records → first_fault_behind k above lines ≡ first_line_fault (number_behind above) lines
same-fault k above [] enough = refl
same-fault k above (line ∷ lines) enough =
    let n : ℕ = number_behind above in
    let later : first_fault_behind k (above ++ line ∷ []) lines ≡ first_line_fault (line_after n line) lines =
    same-fault k (above ++ line ∷ []) lines (moved k.members above line lines k.records enough) ∙ ap (λ (m : ℕ). first_line_fault m lines) (number-more above line) in
    ap (λ (fault : Option JsonFault). option_or fault (first_fault_behind k (above ++ line ∷ []) lines)) (same-here k above line (record_on k.members line) refl (record-fits k.members k.records above line lines enough))
    ∙ ap (option_or (line_fault n line)) later

pub all-above : (k : LineRules) (above lines : List (List ℕ)) → first_fault_behind k above lines ≡ None → lines_above_fault k above lines ≡ above ++ lines
all-above k above [] none = sym (append-nil above)
all-above k above (line ∷ lines) none =
    let parts = both-none (fault_behind k above line) (first_fault_behind k (above ++ line ∷ []) lines) none in
    ap (λ (fault : Option JsonFault). if is_none fault then lines_above_fault k (above ++ line ∷ []) lines else above) parts.0 ∙ all-above k (above ++ line ∷ []) lines parts.1 ∙ append_assoc above (line ∷ []) lines

-- records that are no more than say columns are a table as at once
pub same-table : (k : LineRules) (records : List Json) → length records ≤ k.records → streamed_table k records ≡ table_of k.members.null_text records
same-table k records few = ap (λ (first : List Json). table_in k.members.null_text (columns_of first) records) (take_all k.records records few)

-- ---- the bytes of lines, of which some are read

-- ---- a mark and a line feed

abbrev is_feed : ℕ → Bool
is_feed byte = byte == 10

second-feed : (x z : Bool) → ((x && false) && z) ≡ false
second-feed true z = refl
second-feed false z = refl

third-feed : (x y : Bool) → ((x && y) && false) ≡ false
third-feed true true = refl
third-feed true false = refl
third-feed false y = refl

-- a mark ends in front of a line feed
mark-stays : (text behind : List ℕ) → strip_bom (text ++ 10 ∷ behind) ≡ strip_bom text ++ 10 ∷ behind
unfolding strip_bom
mark-stays [] [] = refl
mark-stays [] (b ∷ []) = refl
mark-stays [] (b ∷ c ∷ behind) = refl
mark-stays (a ∷ []) [] = refl
mark-stays (a ∷ []) (c ∷ behind) = ap (λ (is : Bool). if is then behind else a ∷ 10 ∷ c ∷ behind) (second-feed (a == 0xEF) (c == 0xBF))
mark-stays (a ∷ b ∷ []) behind = ap (λ (is : Bool). if is then behind else a ∷ b ∷ 10 ∷ behind) (third-feed (a == 0xEF) (b == 0xBB))
mark-stays (a ∷ b ∷ c ∷ text) behind = elim (cases_Bool (is_bom a b c)) [
  | inl is ↦ rw is refl
  | inr other ↦ rw other refl
]

no-feed-left : (text : List ℕ) → NoFeed text → NoFeed (strip_bom text)
unfolding strip_bom
no-feed-left [] h = h
no-feed-left (a ∷ []) h = h
no-feed-left (a ∷ b ∷ []) h = h
no-feed-left (a ∷ b ∷ c ∷ text) h =
    let tail : NoFeed text =
    All-tail (λ (byte : ℕ). is_feed byte ≡ false) c text (All-tail (λ (byte : ℕ). is_feed byte ≡ false) b (c ∷ text) (All-tail (λ (byte : ℕ). is_feed byte ≡ false) a (b ∷ c ∷ text) h)) in
    elim (cases_Bool (is_bom a b c)) [
      | inl is ↦ rw is tail
      | inr other ↦ rw other h
    ]

-- the lines of a text whose first line feed is known
cut : (is_front : Bool) (text behind : List ℕ) → NoFeed text → lines_of (without_front is_front (text ++ 10 ∷ behind)) ≡ without_front is_front text ∷ lines_of behind
cut false text behind h = slice_split_at is_feed text 10 behind h refl
cut true text behind h = ap lines_of (mark-stays text behind) ∙ slice_split_at is_feed (strip_bom text) 10 behind (no-feed-left text h) refl

one-line : (is_front : Bool) (text : List ℕ) → NoFeed text → lines_of (without_front is_front text) ≡ without_front is_front text ∷ []
one-line false text h = slice_split_none is_feed text h
one-line true text h = slice_split_none is_feed (strip_bom text) (no-feed-left text h)

but-last : (lines : List (List ℕ)) (line : List ℕ) → all_but_last (lines ++ line ∷ []) ≡ lines
but-last lines line =
    let count : length (lines ++ line ∷ []) - 1 ≡ length lines = omega (arith, length-append lines (line ∷ [])) in
    ap (λ (n : ℕ). take n (lines ++ line ∷ [])) count ∙ take-append_seam lines (line ∷ [])

-- what is read of bytes, one line more
pub next-line : (done rest line behind : List ℕ) → rest ≡ line ++ 10 ∷ behind → done ++ rest ≡ (done ++ (line ++ 10 ∷ [])) ++ behind
next-line done rest line behind parts =
    ap (λ (bytes : List ℕ). done ++ bytes) (parts ∙ sym (append_assoc line (10 ∷ []) behind)) ∙ sym (append_assoc done (line ++ 10 ∷ []) behind)

-- all bytes, as parted at a line
pub parted : (before done bytes rest line behind more : List ℕ) → bytes ≡ done ++ rest → rest ≡ line ++ 10 ∷ behind
    → (before ++ bytes) ++ more ≡ (before ++ done) ++ (line ++ 10 ∷ (behind ++ more))
parted before done bytes rest line behind more is parts =
    ap (λ (all : List ℕ). (before ++ all) ++ more) (is ∙ ap (λ (all : List ℕ). done ++ all) parts)
    ∙ append_assoc before (done ++ (line ++ 10 ∷ behind)) more
    ∙ ap (λ (all : List ℕ). before ++ all) (append_assoc done (line ++ 10 ∷ behind) more ∙ ap (λ (all : List ℕ). done ++ all) (append_assoc line (10 ∷ behind) more))
    ∙ sym (append_assoc before done (line ++ 10 ∷ (behind ++ more)))

-- ---- a line that a line feed ends

module _ (k : LineRules) (before bytes text : List ℕ) (reader : LineReader) (has : HasRead k before reader) (is : text ≡ reader.line.items ++ bytes) (within : NoFeed bytes) where
  line-within : NoFeed text
  line-within = subst NoFeed (sym is) (All-append (λ (byte : ℕ). is_feed byte ≡ false) reader.line.items bytes has.within within)

  pub lines-are : (behind : List ℕ) → lines_of (strip_bom (before ++ (bytes ++ 10 ∷ behind))) ≡ ended_lines before ++ without_front reader.is_front text ∷ lines_of behind
  lines-are behind =
      has.lines (bytes ++ 10 ∷ behind)
      ∙ ap (λ (lines : List (List ℕ)). ended_lines before ++ lines)
      (ap (λ (rest : List ℕ). lines_of (without_front reader.is_front rest)) (sym (append_assoc reader.line.items bytes (10 ∷ behind)) ∙ ap (λ (t : List ℕ). t ++ 10 ∷ behind) (sym is))
      ∙ cut reader.is_front text behind line-within)

  pub ended-more : ended_lines (before ++ (bytes ++ 10 ∷ [])) ≡ ended_lines before ++ without_front reader.is_front text ∷ []
  unfolding ended_lines
  ended-more =
      ap all_but_last (lines-are [] ∙ sym (append_assoc (ended_lines before) (without_front reader.is_front text ∷ []) ([] ∷ [])))
      ∙ but-last (ended_lines before ++ without_front reader.is_front text ∷ []) []

  pub read-more : (new : LineReader) → new.line.items ≡ [] → new.is_front ≡ false → HasLines k (ended_lines before ++ without_front reader.is_front text ∷ []) new.table
      → HasRead k (before ++ (bytes ++ 10 ∷ [])) new
  read-more new empty behind-front table = record {
    table = subst (λ (lines : List (List ℕ)). HasLines k lines new.table) (sym ended-more) table;
    lines = λ behind.
        ap (λ (all : List ℕ). lines_of (strip_bom all)) (append_assoc before (bytes ++ 10 ∷ []) behind ∙ ap (λ (rest : List ℕ). before ++ rest) (append_assoc bytes (10 ∷ []) behind))
        ∙ lines-are behind ∙ sym (append_assoc (ended_lines before) (without_front reader.is_front text ∷ []) (lines_of behind))
        ∙ ap (λ (lines : List (List ℕ)). lines ++ lines_of behind) (sym ended-more)
        ∙ ap (λ (rest : List ℕ). ended_lines (before ++ (bytes ++ 10 ∷ [])) ++ lines_of rest)
        (sym (ap (λ (is_front : Bool). without_front is_front (new.line.items ++ behind)) behind-front ∙ ap (λ (line : List ℕ). line ++ behind) empty));
    within = subst NoFeed (sym empty) (All-nil (λ (byte : ℕ). is_feed byte ≡ false));
  }

  pub rows-more : (old new : List (List (List ℕ)))
      → AppendsRest (ended_table k (records_on k.members (ended_lines before))) (ended_table k (records_on k.members (ended_lines before ++ without_front reader.is_front text ∷ []))) old new
      → AppendsRest (ended_line_rows k before) (ended_line_rows k (before ++ (bytes ++ 10 ∷ []))) old new
  unfolding ended_line_rows
  rows-more old new rest = (rest.0, rest.1, rest.2 ∙ ap (λ (lines : List (List ℕ)). ended_table k (records_on k.members lines)) (sym ended-more))

  pub fault-is : (behind : List ℕ) (fault : JsonFault) → fault_behind k (ended_lines before) (without_front reader.is_front text) ≡ Some fault
      → streamed_line_fault k (before ++ (bytes ++ 10 ∷ behind)) ≡ Some fault
  unfolding streamed_line_fault
  fault-is behind fault wrong =
      ap (first_fault_behind k []) (lines-are behind) ∙ bad-line k (ended_lines before) (lines_of behind) (without_front reader.is_front text) reader.table fault has.table wrong

  pub rows-above : (behind : List ℕ) (fault : JsonFault) (old new : List (List (List ℕ))) → fault_behind k (ended_lines before) (without_front reader.is_front text) ≡ Some fault
      → AppendsRest (ended_table k (records_on k.members (ended_lines before))) (streamed_table k (records_on k.members (ended_lines before))) old new
      → AppendsRest (ended_line_rows k before) (sound_line_rows k (before ++ (bytes ++ 10 ∷ behind))) old new
  unfolding ended_line_rows sound_line_rows
  rows-above behind fault old new wrong rest =
      let lines = ap (lines_above_fault k []) (lines-are behind) ∙ lines-above k (ended_lines before) (lines_of behind) (without_front reader.is_front text) reader.table fault has.table wrong in
      (rest.0, rest.1, rest.2 ∙ ap (λ (ls : List (List ℕ)). streamed_table k (records_on k.members ls)) (sym lines))

-- ---- the bytes behind the last line feed

pub fresh : (k : LineRules) (reader : LineReader) → HasLines k [] reader.table → reader.line.items ≡ [] → reader.is_front ≡ true → HasRead k [] reader
unfolding ended_lines strip_bom
fresh k reader table empty front = record {
  table = table;
  lines = λ behind.
      sym (ap (λ (is_front : Bool). lines_of (without_front is_front (reader.line.items ++ behind))) front ∙ ap (λ (line : List ℕ). lines_of (strip_bom (line ++ behind))) empty);
  within = subst NoFeed (sym empty) (All-nil (λ (byte : ℕ). is_feed byte ≡ false));
}

-- more bytes with no line feed end no line
module _ (k : LineRules) (before bytes : List ℕ) (reader : LineReader) (has : HasRead k before reader) (within : NoFeed bytes) where
  all-within : NoFeed (reader.line.items ++ bytes)
  all-within = All-append (λ (byte : ℕ). is_feed byte ≡ false) reader.line.items bytes has.within within

  same-ended : ended_lines (before ++ bytes) ≡ ended_lines before
  unfolding ended_lines
  same-ended =
      ap all_but_last (has.lines bytes ∙ ap (λ (lines : List (List ℕ)). ended_lines before ++ lines) (one-line reader.is_front (reader.line.items ++ bytes) all-within))
      ∙ but-last (ended_lines before) (without_front reader.is_front (reader.line.items ++ bytes))

  read-on : (new : LineReader) → new.table ≡ reader.table → new.line.items ≡ reader.line.items ++ bytes → new.is_front ≡ reader.is_front → HasRead k (before ++ bytes) new
  read-on new table line front = record {
    table = subst (λ (lines : List (List ℕ)). HasLines k lines new.table) (sym same-ended) (subst (HasLines k (ended_lines before)) (sym table) has.table);
    lines = λ behind.
        ap (λ (all : List ℕ). lines_of (strip_bom all)) (append_assoc before bytes behind) ∙ has.lines (bytes ++ behind)
        ∙ ap (λ (lines : List (List ℕ)). lines ++ lines_of (without_front reader.is_front (reader.line.items ++ (bytes ++ behind)))) (sym same-ended)
        ∙ ap (λ (rest : List ℕ). ended_lines (before ++ bytes) ++ lines_of rest)
        (ap (without_front reader.is_front) (sym (append_assoc reader.line.items bytes behind) ∙ ap (λ (l : List ℕ). l ++ behind) (sym line))
        ∙ ap (λ (is_front : Bool). without_front is_front (new.line.items ++ behind)) (sym front));
    within = subst NoFeed (sym line) all-within;
  }

  pub read-all : (all : List ℕ) (new : LineReader) → before ++ bytes ≡ all → new.table ≡ reader.table → new.line.items ≡ reader.line.items ++ bytes → new.is_front ≡ reader.is_front
      → HasRead k all new
  read-all all new same table line front = subst (λ (read : List ℕ). HasRead k read new) same (read-on new table line front)

  pub rows-on : (old : List (List (List ℕ))) → AppendsRest (ended_line_rows k before) (ended_line_rows k (before ++ bytes)) old old
  unfolding ended_line_rows
  rows-on old = ([], sym (append-nil old), append-nil (ended_table k (records_on k.members (ended_lines before))) ∙ ap (λ (lines : List (List ℕ)). ended_table k (records_on k.members lines)) (sym same-ended))

-- ---- the last line

module _ (k : LineRules) (bytes : List ℕ) (reader : LineReader) (has : HasRead k bytes reader) where
  last-line : lines_of (strip_bom bytes) ≡ ended_lines bytes ++ without_front reader.is_front reader.line.items ∷ []
  last-line =
      ap (λ (all : List ℕ). lines_of (strip_bom all)) (sym (append-nil bytes)) ∙ has.lines []
      ∙ ap (λ (lines : List (List ℕ)). ended_lines bytes ++ lines)
      (ap (λ (line : List ℕ). lines_of (without_front reader.is_front line)) (append-nil reader.line.items) ∙ one-line reader.is_front reader.line.items has.within)

  pub last-right : (new : LineTable) → HasLines k (ended_lines bytes ++ without_front reader.is_front reader.line.items ∷ []) new → streamed_line_fault k bytes ≡ None
  unfolding streamed_line_fault
  last-right new table = ap (first_fault_behind k []) last-line ∙ all-right k (ended_lines bytes ++ without_front reader.is_front reader.line.items ∷ []) new table

  pub last-rows : (new : LineTable) (old rows : List (List (List ℕ))) → HasLines k (ended_lines bytes ++ without_front reader.is_front reader.line.items ∷ []) new
      → AppendsRest (ended_table k (records_on k.members (ended_lines bytes))) (streamed_table k (records_on k.members (ended_lines bytes ++ without_front reader.is_front reader.line.items ∷ []))) old rows
      → AppendsRest (ended_line_rows k bytes) (sound_line_rows k bytes) old rows
  unfolding ended_line_rows sound_line_rows
  last-rows new old rows table rest =
      let lines = ap (lines_above_fault k []) last-line ∙ all-lines k (ended_lines bytes ++ without_front reader.is_front reader.line.items ∷ []) new table in
      (rest.0, rest.1, rest.2 ∙ ap (λ (ls : List (List ℕ)). streamed_table k (records_on k.members ls)) (sym lines))

  pub last-fault : (fault : JsonFault) → fault_behind k (ended_lines bytes) (without_front reader.is_front reader.line.items) ≡ Some fault → streamed_line_fault k bytes ≡ Some fault
  unfolding streamed_line_fault
  last-fault fault wrong =
      ap (first_fault_behind k []) last-line ∙ bad-line k (ended_lines bytes) [] (without_front reader.is_front reader.line.items) reader.table fault has.table wrong

  pub last-above : (fault : JsonFault) (old new : List (List (List ℕ))) → fault_behind k (ended_lines bytes) (without_front reader.is_front reader.line.items) ≡ Some fault
      → AppendsRest (ended_table k (records_on k.members (ended_lines bytes))) (streamed_table k (records_on k.members (ended_lines bytes))) old new
      → AppendsRest (ended_line_rows k bytes) (sound_line_rows k bytes) old new
  unfolding ended_line_rows sound_line_rows
  last-above fault old new wrong rest =
      let lines = ap (lines_above_fault k []) last-line ∙ lines-above k (ended_lines bytes) [] (without_front reader.is_front reader.line.items) reader.table fault has.table wrong in
      (rest.0, rest.1, rest.2 ∙ ap (λ (ls : List (List ℕ)). streamed_table k (records_on k.members ls)) (sym lines))

-- ---- all lines at once, and what is read as a beginning of them

-- ---- all lines at once, and as they are streamed

-- the texts of lines
abbrev pub texts : List (Bor (List ℕ)) → List (List ℕ)
texts lines = map (λ (line : Bor (List ℕ)). line.now) lines

pub next-lines : (lines : List (Bor (List ℕ))) (i : ℕ) (d : Bor (List ℕ)) → i < length lines → texts (take (i + 1) lines) ≡ texts (take i lines) ++ (get_or lines i d).now ∷ []
next-lines lines i d within = map_more (λ (line : Bor (List ℕ)). line.now) lines i d within

pub next-rows : (k : LineRules) (lines : List (Bor (List ℕ))) (i : ℕ) (d : Bor (List ℕ)) (old new : List (List (List ℕ))) → i < length lines → old ≡ ended_table k (records_on k.members (texts (take i lines)))
    → AppendsRest (ended_table k (records_on k.members (texts (take i lines)))) (ended_table k (records_on k.members (texts (take i lines) ++ (get_or lines i d).now ∷ []))) old new
    → new ≡ ended_table k (records_on k.members (texts (take (i + 1) lines)))
next-rows k lines i d old new within is rest =
    rest.1 ∙ ap (λ (rows : List (List (List ℕ))). rows ++ rest.0) is ∙ rest.2 ∙ ap (λ (ls : List (List ℕ)). ended_table k (records_on k.members ls)) (sym (next-lines lines i d within))

split-lines : (lines : List (Bor (List ℕ))) (i : ℕ) (d : Bor (List ℕ)) → i < length lines → texts lines ≡ texts (take i lines) ++ (get_or lines i d).now ∷ texts (drop (i + 1) lines)
split-lines lines i d within =
    ap texts (sym (take-append-drop i lines)) ∙ map-append (λ (line : Bor (List ℕ)). line.now) (take i lines) (drop i lines)
    ∙ ap (λ (rest : List (Bor (List ℕ))). texts (take i lines) ++ texts rest) (drop_more lines i d within)

few-of-all : (rules : Rules) (lines : List (Bor (List ℕ))) → length (records_on rules (texts lines)) ≤ length lines
few-of-all rules lines =
    let some : length (records_on rules (texts lines)) ≤ length (texts lines) = few-records rules (texts lines) in
    let same : length (texts lines) ≡ length lines = length-map lines (λ (line : Bor (List ℕ)). line.now) in
    omega arith

-- as many records say columns as there are lines
pub whole-fault : (k : LineRules) (lines : List (Bor (List ℕ))) (bytes : List ℕ) → k.records ≡ length lines → texts lines ≡ lines_of bytes → line_rows_fault bytes ≡ first_fault_behind k [] (texts lines)
unfolding line_rows_fault
whole-fault k lines bytes count are =
    let some : length (records_on k.members (texts lines)) ≤ length lines = few-of-all k.members lines in
    let enough : length (records_on k.members []) + length (records_on k.members (texts lines)) ≤ k.records = omega arith in
    ap (first_line_fault 1) (sym are) ∙ sym (same-fault k [] (texts lines) enough)

pub bad-at : (k : LineRules) (lines : List (Bor (List ℕ))) (i : ℕ) (d : Bor (List ℕ)) (t : LineTable) (fault : JsonFault) → i < length lines → HasLines k (texts (take i lines)) t
    → fault_behind k (texts (take i lines)) (get_or lines i d).now ≡ Some fault → first_fault_behind k [] (texts lines) ≡ Some fault
bad-at k lines i d t fault within has wrong =
    ap (first_fault_behind k []) (split-lines lines i d within)
    ∙ bad-line k (texts (take i lines)) (texts (drop (i + 1) lines)) (get_or lines i d).now t fault has wrong

pub all-texts : (lines : List (Bor (List ℕ))) (i : ℕ) → length lines ≤ i → texts (take i lines) ≡ texts lines
all-texts lines i all = ap texts (take_all i lines all)

pub whole-rows : (k : LineRules) (lines : List (Bor (List ℕ))) (bytes : List ℕ) (old new : List (List (List ℕ))) → k.records ≡ length lines → texts lines ≡ lines_of bytes
    → old ≡ ended_table k (records_on k.members (texts lines))
    → AppendsRest (ended_table k (records_on k.members (texts lines))) (streamed_table k (records_on k.members (texts lines))) old new → new ≡ line_rows_of k.members bytes
unfolding line_rows_of
whole-rows k lines bytes old new count are is rest =
    let some : length (records_on k.members (texts lines)) ≤ length lines = few-of-all k.members lines in
    let enough : length (records_on k.members (texts lines)) ≤ k.records = omega arith in
    rest.1 ∙ ap (λ (rows : List (List (List ℕ))). rows ++ rest.0) is ∙ rest.2 ∙ same-table k (records_on k.members (texts lines)) enough
    ∙ ap (λ (ls : List (List ℕ)). table_of k.members.null_text (records_on k.members ls)) are

-- ---- laws

-- Where no more records are there than say columns, the same is wrong as at once.
pub fault-as-at-once : (rules : LineRules) (bytes : List ℕ) → length (records_on rules.members (lines_of (strip_bom bytes))) ≤ rules.records → streamed_line_fault rules bytes ≡ line_rows_fault (strip_bom bytes)
unfolding streamed_line_fault line_rows_fault
fault-as-at-once rules bytes few = same-fault rules [] (lines_of (strip_bom bytes)) (omega arith)

-- And where nothing is, the rows are those that are read at once.
pub as-at-once : (rules : LineRules) (bytes : List ℕ) → streamed_line_fault rules bytes ≡ None → length (records_on rules.members (lines_of (strip_bom bytes))) ≤ rules.records
    → sound_line_rows rules bytes ≡ line_rows_of rules.members (strip_bom bytes)
unfolding streamed_line_fault sound_line_rows line_rows_of
as-at-once rules bytes none few =
    ap (λ (lines : List (List ℕ)). streamed_table rules (records_on rules.members lines)) (all-above rules [] (lines_of (strip_bom bytes)) none)
    ∙ same-table rules (records_on rules.members (lines_of (strip_bom bytes))) few

-- ---- the rows of what is read are a beginning of those of the whole input

table-begins : (word : List ℕ) (columns : List (List ℕ)) (above more : List Json) → (rows : List (List (List ℕ))) × (table_in word columns (above ++ more) ≡ table_in word columns above ++ rows)
table-begins word columns above more = elim (cases_Bool (length columns == 0)) [
  | inl none ↦ ([], rw none refl)
  | inr some ↦ (map (row_of word columns) more, rw some (ap (λ (rows : List (List (List ℕ))). columns ∷ rows) (map-append (row_of word columns) above more)))
]

ended-begins : (k : LineRules) (above more : List Json) → (rows : List (List (List ℕ))) × (streamed_table k (above ++ more) ≡ ended_table k above ++ rows)
ended-begins k above more = elim (cases_Bool (left_of k above == 0)) [
  | inl known ↦
      let left : left_of k above ≡ 0 = eqb-true (left_of k above) 0 known in
      let columns : first_columns k (above ++ more) ≡ first_columns k above = ap columns_of (take-append-le k.records above more (omega arith)) in
      let rest = table-begins k.members.null_text (first_columns k above) above more in (
        rest.0,
        ap (λ (c : List (List ℕ)). table_in k.members.null_text c (above ++ more)) columns ∙ rest.1
            ∙ ap (λ (b : Bool). (if b then streamed_table k above else []) ++ rest.0) (sym known),
      )
  | inr unknown ↦ (streamed_table k (above ++ more), ap (λ (b : Bool). (if b then streamed_table k above else []) ++ streamed_table k (above ++ more)) (sym unknown))
]

above-begins : (k : LineRules) (above lines : List (List ℕ)) → (more : List (List ℕ)) × (lines_above_fault k above lines ≡ above ++ more)
above-begins k above [] = ([], sym (append-nil above))
above-begins k above (line ∷ lines) = elim (cases_Bool (is_none (fault_behind k above line))) [
  | inl sound ↦
      let rest = above-begins k (above ++ line ∷ []) lines in
      (line ∷ rest.0, ap (λ (b : Bool). if b then lines_above_fault k (above ++ line ∷ []) lines else above) sound ∙ rest.1 ∙ append_assoc above (line ∷ []) rest.0)
  | inr bad ↦ ([], ap (λ (b : Bool). if b then lines_above_fault k (above ++ line ∷ []) lines else above) bad ∙ sym (append-nil above))
]

-- Rows that were given with a beginning are a beginning of the rows above the first bad line, whatever follows.
pub ended-sound : (rules : LineRules) (before behind : List ℕ) (reader : LineReader) → HasRead rules before reader
    → (more : List (List (List ℕ))) × (sound_line_rows rules (before ++ behind) ≡ ended_line_rows rules before ++ more)
unfolding sound_line_rows ended_line_rows
ended-sound rules before behind reader has =
    let above = ended_lines before in
    let rest = lines_of (without_front reader.is_front (reader.line.items ++ behind)) in
    let lines = above-begins rules above rest in
    let rows = ended-begins rules (records_on rules.members above) (records_on rules.members lines.0) in (
      rows.0,
      ap (λ (all : List (List ℕ)). streamed_table rules (records_on rules.members (lines_above_fault rules [] all))) (has.lines behind)
          ∙ ap (λ (all : List (List ℕ)). streamed_table rules (records_on rules.members all)) (has.table.above rest ∙ lines.1)
          ∙ ap (streamed_table rules) (filter_map-append (record_on rules.members) above lines.0) ∙ rows.1,
    )

-- ---- what is said of a result, from what is said of another one

pub on-ok : {X E : Type 0} (r : Result X E) (P Q : Type 0) → (P → Q) → OnOk r P → OnOk r Q
on-ok (Ok x) P Q f p = f p
on-ok (Err e) P Q f p = tt

-- a fault that is handed on is the same
pub is-err : {X E : Type 0} (r : Result X E) (found : E) → IsErrAnd r (λ (e : E). e ≡ found) → r ≡ Err found
is-err (Ok x) found h = absurd h
is-err (Err e) found h = ap Err h

pub told-as : {X : Type 0} (r : Result X JsonFault) (right other : Option JsonFault) → other ≡ right → Tells right r → Tells other r
told-as (Ok x) right other e told = e ∙ told
told-as (Err fault) right other e told = λ counts. e ∙ told counts

pub told-ok : {X : Type 0} (r : Result X JsonFault) (right : Option JsonFault) (P Q : Type 0) → (right ≡ None → P → Q) → Tells right r → OnOk r P → OnOk r Q
told-ok (Ok x) right P Q f told p = f told p
told-ok (Err fault) right P Q f told p = tt

pub foretold : {X : Type 0} (r : Result X JsonFault) (right other : Option JsonFault) → ((fault : JsonFault) → right ≡ Some fault → other ≡ Some fault) → Tells right r → Foretells other r
foretold (Ok x) right other f told = tt
foretold (Err fault) right other f told = λ counts. f (but_line fault) (told counts)

pub on-fault : {X : Type 0} (r : Result X JsonFault) (right : Option JsonFault) (P Q : Type 0) → ((fault : JsonFault) → right ≡ Some fault → P → Q) → Tells right r → OnFault r P → OnFault r Q
on-fault (Ok x) right P Q f told p = tt
on-fault (Err fault) right P Q f told p = λ counts. f (but_line fault) (told counts) (p counts)

pub sound-handed-on : {X : Type 0} (P : Type 0) (found : JsonFault) (r : Result X JsonFault) → (found ≢ Memory → P) → IsErrAnd r (λ (fault : JsonFault). fault ≡ found) → OnFault r P
sound-handed-on P found (Ok x) h told = absurd told
sound-handed-on P found (Err fault) h told = λ counts. h (λ e. counts (told ∙ e))

pub foretold-handed-on : {X : Type 0} (right : Option JsonFault) (found : JsonFault) (r : Result X JsonFault) → (found ≢ Memory → right ≡ Some (but_line found))
    → IsErrAnd r (λ (fault : JsonFault). fault ≡ found) → Foretells right r
foretold-handed-on right found (Ok x) h told = absurd told
foretold-handed-on right found (Err fault) h told = λ counts. h (λ e. counts (told ∙ e)) ∙ ap (λ (f : JsonFault). Some (but_line f)) (sym told)

pub on_true : (b : Bool) (P : Type 0) → b ≡ true → OnTrue b P → P
on_true true P e p = p
on_true false P e p = absurd (cc)

-- ---- a line whose value is shown as this record

module _ (k : LineRules) (above : List (List ℕ)) (line : List ℕ) (t : LineTable) (has : HasLines k above t) (right : line_fault t.number line ≡ None) (value shown : Json)
    (found : Some value ≡ value_on line) (meant : shown ≡ shown_record t.is_flat value) where
  on-line : Some shown ≡ record_on k.members line
  on-line = ap Some meant ∙ ap (λ (b : Bool). Some (shown_record b value)) has.flat ∙ ap (option_map (shown_record k.members.is_flat)) found

  late : fault_behind k above line ≡ late_fault k (records_on k.members above) t.number shown
  late = record-fault k t.number above line shown has.number right on-line

  pub taken-read : {X : Type 0} (r : Result X JsonFault) (new : LineTable) → new.is_flat ≡ t.is_flat → new.number ≡ line_after t.number line
      → Tells (late_fault k (records_on k.members above) t.number shown) r → OnOk r (HasRecords k (records_on k.members above ++ shown ∷ []) new) → OnOk r (HasLines k (above ++ line ∷ []) new)
  taken-read r new flat number told more =
      told-ok r (late_fault k (records_on k.members above) t.number shown) (HasRecords k (records_on k.members above ++ shown ∷ []) new) (HasLines k (above ++ line ∷ []) new)
      (λ none records. lines-more k above line t new has (late ∙ none) (with-record k above line shown new on-line records) flat number) told more

  pub taken-rows : {X : Type 0} (r : Result X JsonFault) (old new : List (List (List ℕ)))
      → OnOk r (AppendsRest (ended_table k (records_on k.members above)) (ended_table k (records_on k.members above ++ shown ∷ [])) old new)
      → OnOk r (AppendsRest (ended_table k (records_on k.members above)) (ended_table k (records_on k.members (above ++ line ∷ []))) old new)
  taken-rows r old new rest =
      on-ok r (AppendsRest (ended_table k (records_on k.members above)) (ended_table k (records_on k.members above ++ shown ∷ [])) old new)
      (AppendsRest (ended_table k (records_on k.members above)) (ended_table k (records_on k.members (above ++ line ∷ []))) old new)
      (with-rows k above line shown old new on-line) rest

  pub taken-fault : {X : Type 0} (r : Result X JsonFault) → Tells (late_fault k (records_on k.members above) t.number shown) r → Tells (fault_behind k above line) r
  taken-fault r told = told-as r (late_fault k (records_on k.members above) t.number shown) (fault_behind k above line) late told

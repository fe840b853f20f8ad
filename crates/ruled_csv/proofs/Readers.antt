-- What a reader has of the bytes that it has read.
use Rattle.std.proofs.Common.{◌≡◌, ◌≢◌, ◌∙◌, ◌<◌, ◌≤◌, ℕ, zero, suc, ◌+◌, false, true, List, [], ◌∷◌, ◌++◌, length, take, drop, get_or, Option, Some, None, Result, Ok, Err, refl, sym, ap, subst, append-nil, append_assoc, arith}
use Rattle.std.specs.Prelude.{◌==◌, ◌&&◌, ◌||◌, not, nat_le, map, Bool, IfOk, OnErr}
use Rattle.std.specs.List.{list_all}
use Rattle.csv.specs.Machine.{ends_at_end}
use Rattle.csv.specs.declared.parser.State.{State}
use Rattle.csv.specs.declared.parser.State.TheVariants as st
use Rattle.std.specs.Result.{IsErrAnd}
use Rattle.std.proofs.lemmas.Bool.{false≢true, true≢false}
use Rattle.std.proofs.lemmas.List.{take-append-drop, take_more}
use Rattle.ruled_csv.specs.Faults.{Tells, but_line, rows_fault, sound_rows, sound_rows_in}
use Rattle.ruled_csv.specs.Inside.{Hand, Holds, Joins, Left, Scan, begins_out, empty_hand, fault_below, hand_below, hand_of, is_calm, last_row, leaves_out, left_of, lines_after, made, open_fault, row_at, scan_after, scan_from, scan_of, scan_start, with_row}
use Rattle.ruled_csv.specs.Quotes.{is_comment, line_behind, state_behind}
use Rattle.ruled_csv.specs.Kept.{end_of, is_left_out, is_line_end, kept_text}
use Rattle.ruled_csv.specs.Reading.{AppendsRest, AppendsSome, Foretells, HasRead, OnFault}
use Rattle.ruled_csv.specs.Rows.{ended_rows, rows_of}
use Rattle.ruled_csv.specs.declared.fault.RowsFault.{RowsFault}
use Rattle.ruled_csv.specs.declared.fault.RowsFault.TheVariants.{Memory}
use Rattle.ruled_csv.specs.declared.reader.RowReader.{RowReader}
use Rattle.ruled_csv.specs.declared.scanner.Scanner.{Scanner}
use Rattle.ruled_csv.proofs.KeptTexts.{ReadsFirst, kept-grows, kept-is, kept-between, kept-more, kept-run, kept-still, left-more, run-none, same-scan}
use Rattle.ruled_csv.proofs.Scans.{ended-scanned, fault-stays, all-scanned, scan-append}
use Rattle.ruled_csv.proofs.TextFaults.{ended-first, stops-at, stops-last, fault-found, fault-last, line-is, state-is}
use Rattle.ruled_csv.specs.declared.dialect.Dialect.{Dialect}

-- ---- bytes

ended-is : (dialect : Dialect) (bytes : List ℕ) → ended_rows dialect bytes ≡ (scan_of dialect (kept_text dialect bytes)).rows
ended-is dialect bytes = ended-scanned dialect (kept_text dialect bytes)

-- a byte that isn't read changes nothing
out-next : (dialect : Dialect) (before : List ℕ) (byte : ℕ) → leaves_out dialect (left_of dialect before) byte ≡ true → scan_of dialect (kept_text dialect (before ++ byte ∷ [])) ≡ scan_of dialect (kept_text dialect before)
out-next dialect before byte out = ap (scan_of dialect) (kept-still dialect before byte out)

-- and one that is read is scanned
pub scan-next : (dialect : Dialect) (before : List ℕ) (byte : ℕ) → leaves_out dialect (left_of dialect before) byte ≡ false → (left_of dialect before).is_out ≡ false
    → scan_of dialect (kept_text dialect (before ++ byte ∷ [])) ≡ scan_after dialect (scan_of dialect (kept_text dialect before)) byte
scan-next dialect before byte read none = ap (scan_of dialect) (kept-more dialect before byte false read none) ∙ scan-append dialect scan_start (kept_text dialect before) (byte ∷ [])

-- the end of a line that is left out is that of an empty one
return-scanned : (dialect : Dialect) (s : Scan) → ends_at_end s.hand.state ≡ false → scan_after dialect s 13 ≡ record s { hand = record s.hand { state = st.StartRecord; lines = lines_after s.hand.lines 13 } }
return-scanned dialect s between = go s.hand.state refl between where
  after : Hand
  after = record s.hand { state = st.StartRecord; lines = lines_after s.hand.lines 13 }

  go : (state : State) → s.hand.state ≡ state → ends_at_end state ≡ false → scan_after dialect s 13 ≡ record s { hand = record s.hand { state = st.StartRecord; lines = lines_after s.hand.lines 13 } }
  go st.StartRecord is e = rw is (same-scan s (record s.hand { state = st.StartRecord; lines = lines_after s.hand.lines 13 }))
  go st.AfterCr is e = rw is (same-scan s (record s.hand { state = st.StartRecord; lines = lines_after s.hand.lines 13 }))
  go st.StartField is e = absurd (true≢false e)
  go st.InField is e = absurd (true≢false e)
  go st.InQuoted is e = absurd (true≢false e)
  go st.AfterQuote is e = absurd (true≢false e)
  go st.InEscape is e = absurd (true≢false e)
  go st.InComment is e = absurd (true≢false e)

feed-scanned : (dialect : Dialect) (s : Scan) → s.hand.state ≡ st.StartRecord → scan_after dialect s 10 ≡ record s { hand = record s.hand { state = st.StartRecord; lines = lines_after s.hand.lines 10 } }
feed-scanned dialect s is = rw is (same-scan s (record s.hand { state = st.StartRecord; lines = lines_after s.hand.lines 10 }))

end-scanned : (dialect : Dialect) (s : Scan) (byte : ℕ) → is_line_end byte ≡ true → ends_at_end s.hand.state ≡ false → scan_from dialect s (end_of byte) ≡ record s { hand = hand_below s.hand byte }
end-scanned dialect s byte ends between = go (byte == 10) (byte == 13) refl refl ends where
  go : (feed return : Bool) → (byte == 10) ≡ feed → (byte == 13) ≡ return → (feed || return) ≡ true → scan_from dialect s (end_of byte) ≡ record s { hand = hand_below s.hand byte }
  go true return feeds returns e =
      rw feeds (ap (λ (t : Scan). scan_after dialect t 10) (return-scanned dialect s between) ∙ feed-scanned dialect (record s { hand = record s.hand { state = st.StartRecord; lines = lines_after s.hand.lines 13 } }) refl)
  go false true feeds returns e = rw (feeds, returns) (return-scanned dialect s between)
  go false false feeds returns e = absurd (false≢true e)

left-next : (dialect : Dialect) (before : List ℕ) (byte : ℕ) (out : Bool) → leaves_out dialect (left_of dialect before) byte ≡ out → out ≡ (left_of dialect (before ++ byte ∷ [])).is_out
left-next dialect before byte out is = sym is ∙ sym (ap (λ (left : Left). left.is_out) (left-more dialect before byte))

-- a reader knows which byte is read
pub leaves-by : (dialect : Dialect) (before : List ℕ) (byte : ℕ) (reader : RowReader) (begins : Bool) → HasRead dialect before reader → begins ≡ begins_out reader.scanner.dialect (hand_of reader.scanner) byte
    → (not (is_line_end byte) && (reader.is_left_out || begins)) ≡ leaves_out dialect (left_of dialect before) byte
leaves-by dialect before byte reader begins read is =
    let kept = kept_text dialect before in
    let here : begins ≡ begins_out dialect (scan_of dialect kept).hand byte = is ∙ ap (λ (d : Dialect). begins_out d (hand_of reader.scanner) byte) read.scan.dialect_is ∙ ap (λ (hand : Hand). begins_out dialect hand byte) read.scan.hand in
    let state = ap (λ (s : State). not (ends_at_end s) && (nat_le (scan_of dialect kept).hand.lines.line dialect.rows.skipped || is_comment dialect.rows.comment (byte ∷ []))) (state-is dialect kept) in
    let line = ap (λ (n : ℕ). not (ends_at_end (state_behind dialect kept)) && (nat_le n dialect.rows.skipped || is_comment dialect.rows.comment (byte ∷ []))) (line-is dialect kept) in
    let all : begins ≡ (not (ends_at_end (state_behind dialect kept)) && (nat_le (line_behind kept) dialect.rows.skipped || is_comment dialect.rows.comment (byte ∷ []))) = here ∙ state ∙ line in
    same-test (is_line_end byte) reader.is_left_out (left_of dialect before).is_out begins _ _ read.left all
    ∙ ap (λ (xs : List ℕ). not (is_line_end byte) && ((left_of dialect before).is_out || is_left_out dialect xs (byte ∷ []))) (kept-is dialect before) where
      same-test : (ends out out2 begins a b : Bool) → out ≡ out2 → begins ≡ (a && b) → (not ends && (out || begins)) ≡ (not ends && (out2 || (a && not ends && b)))
      same-test true out out2 begins a b is begun = refl
      same-test false out out2 begins true b is begun = rw (is, begun) refl
      same-test false out out2 begins false b is begun = rw (is, begun) refl

-- as it tests one after another
pub test-ends : (ends out begins right : Bool) → ends ≡ true → (not ends && (out || begins)) ≡ right → not ends ≡ right
test-ends ends out begins right is all = rw is (rw is at all)

pub test-out : (ends out begins right : Bool) → ends ≡ false → out ≡ true → (not ends && (out || begins)) ≡ right → out ≡ right
test-out ends out begins right goes is all = rw is (rw (goes, is) at all)

pub test-begins : (ends out begins right : Bool) → ends ≡ false → out ≡ false → (not ends && (out || begins)) ≡ right → begins ≡ right
test-begins ends out begins right goes is all = rw (goes, is) at all

-- nothing is read yet
pub none-read : (dialect : Dialect) (reader : RowReader) → reader.is_left_out ≡ false → reader.scanner.dialect ≡ dialect → hand_of reader.scanner ≡ empty_hand → reader.rows ≡ 0 → reader.columns ≡ None → HasRead dialect [] reader
none-read dialect reader left same empty rows columns = record {
  left = left;
  scan = subst (λ (text : List ℕ). Holds dialect (scan_of dialect text) reader) (sym (kept-is dialect [])) (record { dialect_is = same; hand = empty; counts = (rows, columns); right = refl });
}

pub none-hand : (dialect : Dialect) (reader : RowReader) → HasRead dialect [] reader → hand_of reader.scanner ≡ empty_hand
none-hand dialect reader read = read.scan.hand ∙ ap (λ (text : List ℕ). (scan_of dialect text).hand) (kept-is dialect [])

-- rows that are appended, of bytes that stand behind others
pub appends-rows : (dialect : Dialect) (before after : List ℕ) (old new : List (List (List ℕ))) (row : Option (List (List ℕ)))
    → (scan_of dialect (kept_text dialect after)).rows ≡ with_row (scan_of dialect (kept_text dialect before)).rows row → new ≡ with_row old row → AppendsRest (ended_rows dialect before) (ended_rows dialect after) old new
appends-rows dialect before after old new row rows is = (with_row [] row, is, rw (ended-is dialect before, ended-is dialect after) (sym rows))

pub appends-none : (above old : List (List (List ℕ))) → AppendsRest above above old old
appends-none above old = ([], sym (append-nil old), append-nil above)

pub appends-more : (above between all old mid new : List (List (List ℕ))) → AppendsRest above between old mid → AppendsRest between all mid new → AppendsRest above all old new
appends-more above between all old mid new (first, mid-is, between-is) (second, new-is, all-is) = (
  first ++ second,
  new-is ∙ ap (λ (rows : List (List (List ℕ))). rows ++ second) mid-is ∙ append_assoc old first second,
  sym (append_assoc above first second) ∙ ap (λ (rows : List (List (List ℕ))). rows ++ second) between-is ∙ all-is,
)

-- rows that stay, below which all is what was there already
pub appends-to : (above between all old mid new : List (List (List ℕ))) → AppendsRest above between old mid → all ≡ between → new ≡ mid → AppendsRest above all old new
appends-to above between all old mid new (rows, mid-is, between-is) same stay = (rows, stay ∙ mid-is, between-is ∙ sym same)

pub appends-first : (above between all old mid new more : List (List (List ℕ))) → AppendsRest above between old mid → all ≡ between ++ more → new ≡ mid → AppendsSome above all old new
appends-first above between all old mid new more (rows, mid-is, between-is) first stay =
    (rows, more, stay ∙ mid-is, ap (λ (rs : List (List (List ℕ))). rs ++ more) between-is ∙ sym first)

-- ---- a byte more

-- one that isn't read
pub read-out : (dialect : Dialect) (before : List ℕ) (byte : ℕ) (old new : RowReader) → HasRead dialect before old → leaves_out dialect (left_of dialect before) byte ≡ true → new.is_left_out ≡ true
    → new.scanner ≡ old.scanner → new.rows ≡ old.rows → new.columns ≡ old.columns → HasRead dialect (before ++ byte ∷ []) new
read-out dialect before byte old new read out is scanner rows columns = record {
  left = is ∙ left-next dialect before byte true out;
  scan = subst (λ (s : Scan). Holds dialect s new) (sym (out-next dialect before byte out)) (record {
    dialect_is = ap (λ (s : Scanner). s.dialect) scanner ∙ read.scan.dialect_is;
    hand = ap hand_of scanner ∙ read.scan.hand;
    counts = (rows ∙ read.scan.counts.0, columns ∙ read.scan.counts.1);
    right = read.scan.right;
  });
}

pub out-rows : (dialect : Dialect) (before : List ℕ) (byte : ℕ) (rows : List (List (List ℕ))) → leaves_out dialect (left_of dialect before) byte ≡ true → AppendsRest (ended_rows dialect before) (ended_rows dialect (before ++ byte ∷ [])) rows rows
out-rows dialect before byte rows out =
    ([], sym (append-nil rows), append-nil (ended_rows dialect before) ∙ ended-is dialect before ∙ ap (λ (s : Scan). s.rows) (sym (out-next dialect before byte out)) ∙ sym (ended-is dialect (before ++ byte ∷ [])))

-- the end of a line that is left out
module _ (dialect : Dialect) (before : List ℕ) (byte : ℕ) (old : RowReader) (read : HasRead dialect before old) (ends : leaves_out dialect (left_of dialect before) byte ≡ false) (out : old.is_left_out ≡ true) where
  is-out : (left_of dialect before).is_out ≡ true
  is-out = sym read.left ∙ out

  is-end : is_line_end byte ≡ true
  is-end = go (is_line_end byte) (left_of dialect before).is_out _ is-out ends where
    go : (end out begins : Bool) → out ≡ true → (not end && (out || begins)) ≡ false → end ≡ true
    go true out begins is e = refl
    go false true begins is e = absurd (true≢false e)
    go false false begins is e = absurd (false≢true is)

  ended-next : scan_of dialect (kept_text dialect (before ++ byte ∷ [])) ≡ record (scan_of dialect (kept_text dialect before)) { hand = hand_below (scan_of dialect (kept_text dialect before)).hand byte }
  ended-next =
      let kept = kept_text dialect before in
      ap (scan_of dialect) (kept-more dialect before byte true ends is-out)
      ∙ scan-append dialect scan_start kept (end_of byte)
      ∙ end-scanned dialect (scan_of dialect kept) byte is-end (ap ends_at_end (state-is dialect kept) ∙ kept-between dialect before is-out)

  pub read-end : (new : RowReader) → new.is_left_out ≡ false → new.scanner.dialect ≡ old.scanner.dialect → hand_of new.scanner ≡ hand_below (hand_of old.scanner) byte → new.rows ≡ old.rows → new.columns ≡ old.columns
      → HasRead dialect (before ++ byte ∷ []) new
  read-end new is same hand rows columns = record {
    left = is ∙ left-next dialect before byte false ends;
    scan = subst (λ (s : Scan). Holds dialect s new) (sym ended-next) (record {
      dialect_is = same ∙ read.scan.dialect_is;
      hand = hand ∙ ap (λ (h : Hand). hand_below h byte) read.scan.hand;
      counts = (rows ∙ read.scan.counts.0, columns ∙ read.scan.counts.1);
      right = read.scan.right;
    });
  }

  pub end-rows : (rows : List (List (List ℕ))) → AppendsRest (ended_rows dialect before) (ended_rows dialect (before ++ byte ∷ [])) rows rows
  end-rows rows =
      ([], sym (append-nil rows), append-nil (ended_rows dialect before) ∙ ended-is dialect before ∙ ap (λ (s : Scan). s.rows) (sym ended-next) ∙ sym (ended-is dialect (before ++ byte ∷ [])))

-- a fault of bytes is one of all that are in front of others
fault-behind : (dialect : Dialect) (bytes behind : List ℕ) (fault : RowsFault) → (scan_of dialect (kept_text dialect bytes)).fault ≡ Some fault → (scan_of dialect (kept_text dialect (bytes ++ behind))).fault ≡ Some fault
fault-behind dialect bytes behind fault found =
    let (more, is) = kept-grows dialect bytes behind in
    ap (λ (text : List ℕ). (scan_of dialect text).fault) is
    ∙ ap (λ (s : Scan). s.fault) (scan-append dialect scan_start (kept_text dialect bytes) more)
    ∙ fault-stays dialect (scan_of dialect (kept_text dialect bytes)) more fault found

-- each other byte
module _ (dialect : Dialect) (before : List ℕ) (byte : ℕ) (old : RowReader) (read : HasRead dialect before old) (none : leaves_out dialect (left_of dialect before) byte ≡ false) (within : old.is_left_out ≡ false) where
  next-is : scan_of dialect (kept_text dialect (before ++ byte ∷ [])) ≡ scan_after dialect (scan_of dialect (kept_text dialect before)) byte
  next-is = scan-next dialect before byte none (sym read.left ∙ within)

  -- whatever the next one does, its scan is that of the text
  pub holds-still : (now : RowReader) → now.scanner ≡ old.scanner → now.rows ≡ old.rows → now.columns ≡ old.columns → Holds dialect (scan_of dialect (kept_text dialect before)) now
  holds-still now scanner rows columns = record {
    dialect_is = ap (λ (s : Scanner). s.dialect) scanner ∙ read.scan.dialect_is;
    hand = ap hand_of scanner ∙ read.scan.hand;
    counts = (rows ∙ read.scan.counts.0, columns ∙ read.scan.counts.1);
    right = read.scan.right;
  }

  pub read-scanned : (new : RowReader) → new.is_left_out ≡ false → Holds dialect (scan_after dialect (scan_of dialect (kept_text dialect before)) byte) new → HasRead dialect (before ++ byte ∷ []) new
  read-scanned new after holds = record {
    left = after ∙ left-next dialect before byte false none;
    scan = subst (λ (s : Scan). Holds dialect s new) (sym next-is) holds;
  }

  pub rows-scanned : (above new : List (List (List ℕ))) → new ≡ with_row above (row_at dialect (scan_of dialect (kept_text dialect before)) byte)
      → AppendsRest (ended_rows dialect before) (ended_rows dialect (before ++ byte ∷ [])) above new
  rows-scanned above new is = appends-rows dialect before (before ++ byte ∷ []) above new (row_at dialect (scan_of dialect (kept_text dialect before)) byte) (ap (λ (s : Scan). s.rows) next-is) is

  pub fault-scanned : (behind : List ℕ) (fault : RowsFault) → (scan_after dialect (scan_of dialect (kept_text dialect before)) byte).fault ≡ Some fault → rows_fault dialect ((before ++ byte ∷ []) ++ behind) ≡ Some fault
  unfolding rows_fault
  fault-scanned behind fault found =
      fault-found dialect (kept_text dialect ((before ++ byte ∷ []) ++ behind)) fault (fault-behind dialect (before ++ byte ∷ []) behind fault (ap (λ (s : Scan). s.fault) next-is ∙ found))

  -- and the rows above a fault are those that ended in front of the byte
  pub sound-scanned : (behind : List ℕ) (fault : RowsFault) → (scan_after dialect (scan_of dialect (kept_text dialect before)) byte).fault ≡ Some fault → sound_rows dialect ((before ++ byte ∷ []) ++ behind) ≡ ended_rows dialect before
  unfolding sound_rows
  sound-scanned behind fault found =
      let (more, parts) = kept-grows dialect (before ++ byte ∷ []) behind in
      ap (sound_rows_in dialect) (parts ∙ ap (λ (xs : List ℕ). xs ++ more) (kept-more dialect before byte false none (sym read.left ∙ within)))
      ∙ stops-at dialect (kept_text dialect before) byte more read.scan.right fault found
      ∙ sym (ended-is dialect before)

-- ---- a run

module _ (dialect : Dialect) (before run : List ℕ) (old new : RowReader) (read : HasRead dialect before old) (within : old.is_left_out ≡ false) (first : ReadsFirst dialect (left_of dialect before) run) (calm : list_all is_calm run ≡ true)
    (joins : Joins old.scanner.dialect run (hand_of old.scanner) (hand_of new.scanner)) where
  run-is : scan_of dialect (kept_text dialect (before ++ run)) ≡ record (scan_of dialect (kept_text dialect before)) { hand = hand_of new.scanner }
  run-is =
      let joined = subst (λ (d : Dialect). Joins d run (hand_of old.scanner) (hand_of new.scanner)) read.scan.dialect_is joins in
      ap (scan_of dialect) (kept-run dialect before run (sym read.left ∙ within) first calm)
      ∙ scan-append dialect scan_start (kept_text dialect before) run
      ∙ joined (scan_of dialect (kept_text dialect before)) (sym read.scan.hand)

  pub read-run : new.is_left_out ≡ false → new.scanner.dialect ≡ old.scanner.dialect → new.rows ≡ old.rows → new.columns ≡ old.columns → HasRead dialect (before ++ run) new
  read-run same delimiters rows columns = record {
    left = same ∙ sym (run-none dialect before run (sym read.left ∙ within) first calm);
    scan = subst (λ (s : Scan). Holds dialect s new) (sym run-is) (record {
      dialect_is = delimiters ∙ read.scan.dialect_is;
      hand = refl;
      counts = (rows ∙ read.scan.counts.0, columns ∙ read.scan.counts.1);
      right = read.scan.right;
    });
  }

  pub rows-run : ended_rows dialect (before ++ run) ≡ ended_rows dialect before
  rows-run = ended-is dialect (before ++ run) ∙ ap (λ (s : Scan). s.rows) run-is ∙ sym (ended-is dialect before)

-- where a reader has read bytes, the rows that ended in them are the first sound ones of all bytes
pub ended-sound : (dialect : Dialect) (before behind : List ℕ) (reader : RowReader) → HasRead dialect before reader
    → (more : List (List (List ℕ))) × (sound_rows dialect (before ++ behind) ≡ ended_rows dialect before ++ more)
unfolding sound_rows
ended-sound dialect before behind reader read =
    let (behind_kept, parts) = kept-grows dialect before behind in
    let (more, rows) = ended-first dialect (kept_text dialect before) behind_kept read.scan.right in
    (more, ap (sound_rows_in dialect) parts ∙ rows ∙ ap (λ (rs : List (List (List ℕ))). rs ++ more) (sym (ended-is dialect before)))

-- ---- no byte is left

module _ (dialect : Dialect) (bytes : List ℕ) (reader : RowReader) (read : HasRead dialect bytes reader) where
  -- a quote that is open is the fault of all bytes
  pub fault-open : (fault : RowsFault) → open_fault (hand_of reader.scanner) ≡ Some fault → rows_fault dialect bytes ≡ Some fault
  unfolding rows_fault
  fault-open fault is = fault-last dialect (kept_text dialect bytes) read.scan.right ∙ rw (← read.scan.hand, is) refl

  -- and else what is wrong with the last row
  pub fault-end : (row : Option (List (List ℕ))) → open_fault (hand_of reader.scanner) ≡ None → row ≡ last_row (hand_of reader.scanner)
      → rows_fault dialect bytes ≡ fault_below dialect (scan_of dialect (kept_text dialect bytes)).rows (made dialect (scan_of dialect (kept_text dialect bytes)).rows row)
  unfolding rows_fault
  fault-end row none is = fault-last dialect (kept_text dialect bytes) read.scan.right ∙ rw (← read.scan.hand, none, is) refl

  -- which stands below those that ended
  pub rows-end : (row : Option (List (List ℕ))) (above new : List (List (List ℕ))) → row ≡ last_row (hand_of reader.scanner) → new ≡ with_row above (made dialect (scan_of dialect (kept_text dialect bytes)).rows row)
      → AppendsRest (ended_rows dialect bytes) (rows_of dialect bytes) above new
  rows-end row above new is all = (
    with_row [] (made dialect (scan_of dialect (kept_text dialect bytes)).rows row),
    all,
    rw (ended-is dialect bytes, all-scanned dialect (kept_text dialect bytes), ← read.scan.hand, is) refl,
  )

  -- above a fault no row is left
  pub sound-end : (fault : RowsFault) → rows_fault dialect bytes ≡ Some fault → sound_rows dialect bytes ≡ ended_rows dialect bytes
  unfolding rows_fault sound_rows
  sound-end fault wrong = stops-last dialect (kept_text dialect bytes) read.scan.right fault wrong ∙ sym (ended-is dialect bytes)

  pub sound-told : {X R : Type 0} (result : Result X RowsFault) (view : R → List (List ℕ)) (old new : List R) → Tells (rows_fault dialect bytes) result → OnErr result (new ≡ old)
      → OnFault result (AppendsRest (ended_rows dialect bytes) (sound_rows dialect bytes) (map view old) (map view new))
  sound-told (Ok x) view old new told kept = tt
  sound-told (Err fault) view old new told kept = λ other.
      let ended = ended_rows dialect bytes in
      appends-to ended ended (sound_rows dialect bytes) (map view old) (map view old) (map view new) (appends-none ended (map view old)) (sound-end (but_line fault) (told other)) (ap (map view) kept)

-- ---- what is told

pub told-on : {X : Type 0} (found : RowsFault) (wrong right : Option RowsFault) (result : Result X RowsFault) → (found ≢ Memory → wrong ≡ Some (but_line found)) → ((fault : RowsFault) → wrong ≡ Some fault → right ≡ Some fault)
    → IsErrAnd result (λ fault. fault ≡ found) → Tells right result
told-on found wrong right (Ok x) is on told = absurd told
told-on found wrong right (Err fault) is on told = λ other. on (but_line fault) (is (λ e. other (told ∙ e)) ∙ ap (λ (f : RowsFault). Some (but_line f)) (sym told))

pub foretold-on : {X : Type 0} (found : RowsFault) (right : Option RowsFault) (result : Result X RowsFault) → (found ≢ Memory → right ≡ Some (but_line found))
    → IsErrAnd result (λ fault. fault ≡ found) → Foretells right result
foretold-on found right (Ok x) is told = absurd told
foretold-on found right (Err fault) is told = λ other. is (λ e. other (told ∙ e)) ∙ ap (λ (f : RowsFault). Some (but_line f)) (sym told)

pub foretold : {X : Type 0} (wrong right : Option RowsFault) (result : Result X RowsFault) → ((fault : RowsFault) → wrong ≡ Some fault → right ≡ Some fault) → Foretells wrong result → Foretells right result
foretold wrong right (Ok x) on told = tt
foretold wrong right (Err fault) on told = λ other. on (but_line fault) (told other)

pub on-foretold : {X : Type 0} {P : Type 0} (wrong : Option RowsFault) (result : Result X RowsFault) → ((fault : RowsFault) → wrong ≡ Some fault → P) → Foretells wrong result → OnFault result P
on-foretold wrong (Ok x) on told = tt
on-foretold wrong (Err fault) on told = λ other. on (but_line fault) (told other)

pub on-fault : {X : Type 0} {P : Type 0} (found : RowsFault) (result : Result X RowsFault) → (found ≢ Memory → P) → IsErrAnd result (λ fault. fault ≡ found) → OnFault result P
on-fault found (Ok x) on told = tt
on-fault found (Err fault) on told = λ other. on (λ e. other (told ∙ e))

-- two facts of a value
pub if-both : {X E : Type 0} {P Q R : X → Type 0} (result : Result X E) → ((x : X) → P x → Q x → R x) → IfOk result P → IfOk result Q → IfOk result R
if-both (Ok x) both p q = both x p q
if-both (Err e) both p q = tt

-- what holds in any case
pub on-error : {X E P : Type 0} (result : Result X E) → P → OnErr result P
on-error (Ok x) holds = tt
on-error (Err e) holds = holds

-- ---- bytes among others

pub take-whole : (bytes : List ℕ) (i : ℕ) → length bytes ≤ i → take i bytes ≡ bytes
take-whole [] zero past = refl
take-whole [] (suc i) past = refl
take-whole (byte ∷ bytes) zero past = absurd (omega arith)
take-whole (byte ∷ bytes) (suc i) past = ap (λ (xs : List ℕ). byte ∷ xs) (take-whole bytes i (omega (arith, past)))

-- the bytes up to a place, with those in front of all
pub front-more : (before bytes : List ℕ) (i : ℕ) → i < length bytes → before ++ take (i + 1) bytes ≡ (before ++ take i bytes) ++ get_or bytes i 0 ∷ []
front-more before bytes i within = ap (λ (xs : List ℕ). before ++ xs) (take_more bytes i 0 within) ∙ sym (append_assoc before (take i bytes) (get_or bytes i 0 ∷ []))

pub front-whole : (before bytes behind : List ℕ) (i : ℕ) → i < length bytes → ((before ++ take i bytes) ++ get_or bytes i 0 ∷ []) ++ (drop (i + 1) bytes ++ behind) ≡ (before ++ bytes) ++ behind
front-whole before bytes behind i within =
    ap (λ (xs : List ℕ). xs ++ (drop (i + 1) bytes ++ behind)) (sym (front-more before bytes i within))
    ∙ sym (append_assoc (before ++ take (i + 1) bytes) (drop (i + 1) bytes) behind)
    ∙ ap (λ (xs : List ℕ). xs ++ behind) (append_assoc before (take (i + 1) bytes) (drop (i + 1) bytes) ∙ ap (λ (xs : List ℕ). before ++ xs) (take-append-drop (i + 1) bytes))

pub front-parts : (before bytes behind : List ℕ) (i : ℕ) → (before ++ take i bytes) ++ (drop i bytes ++ behind) ≡ (before ++ bytes) ++ behind
front-parts before bytes behind i =
    sym (append_assoc (before ++ take i bytes) (drop i bytes) behind)
    ∙ ap (λ (xs : List ℕ). xs ++ behind) (append_assoc before (take i bytes) (drop i bytes) ∙ ap (λ (xs : List ℕ). before ++ xs) (take-append-drop i bytes))

pub none-ended : (dialect : Dialect) → ended_rows dialect [] ≡ []
none-ended dialect = ended-is dialect [] ∙ ap (λ (text : List ℕ). (scan_of dialect text).rows) (kept-is dialect [])

-- all rows are given: those that end among the bytes, and then the last one
pub all-given : (dialect : Dialect) (bytes : List ℕ) (old mid new : List (List (List ℕ))) → old ≡ [] → AppendsRest (ended_rows dialect []) (ended_rows dialect bytes) old mid → AppendsRest (ended_rows dialect bytes) (rows_of dialect bytes) mid new
    → new ≡ rows_of dialect bytes
all-given dialect bytes old mid new none read last =
    let (rows, is, all) = appends-more (ended_rows dialect []) (ended_rows dialect bytes) (rows_of dialect bytes) old mid new read last in
    is ∙ ap (λ (xs : List (List (List ℕ))). xs ++ rows) (none ∙ sym (none-ended dialect)) ∙ all

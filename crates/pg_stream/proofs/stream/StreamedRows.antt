-- What a stream of rows appends: the row that it holds, all rows behind it, and rows that bring their heights.
use Rattle.std.proofs.Common.{◌≡◌, ◌⊎◌, ℕ, ◌+◌, ◌<◌, ◌≤◌, Bool, true, false, nat_lt, List, [], ◌∷◌, ◌++◌, Option, Some, None, refl, sym, ap, ap₂, ◌∙◌, subst, append_assoc, append-nil, arith, inl, inr, if◌then◌else◌, Result, Ok, Err, map, IfOk, ◌^◌, length}
use Rattle.std.specs.Prelude.{String, string_bytes, OnOk, option_map}
use Rattle.std.proofs.lemmas.Bool.Decides.{nat_tests}
use Rattle.pg_layout.specs.Records.{AlwaysGives}
use Rattle.pg_layout.specs.Text.{Text}
use Rattle.pg_picture.specs.Appending.{Appends, AppendsOrNothing}
use Rattle.pg_picture.proofs.Appending.{◌then◌, Appends-text, stopped, refused-as, appended-as, Gained-none, Gained-all}
use Rattle.pg_stream.specs.Conditions.{RowFits}
use Rattle.pg_stream.specs.Printing.{Printing, row_text, finish_text, after_row, rows_text}
use Rattle.pg_stream.specs.Streams.{Streaming, held_text, HeldFits, after_push, rows_left, IsMisfit, text_above, OnlyMemory, TellsRow, AppendsIf, AppendsRows, PrintsRows, IsMisfitButLatest, text_but_latest, PrintsButLatest}
use Rattle.pg_stream.specs.declared.fault.StreamFault.{StreamFault}
use Rattle.pg_stream.specs.declared.fault.StreamFault.TheVariants.{Misfit, Row, Open, Memory}
use Rattle.std.proofs.lemmas.List.{map-append}
use Rattle.std.specs.Iterator.{AlwaysYields}
use Rattle.std.proofs.lemmas.Iterator.{YieldsList}
use Rattle.pg_layout.specs.Colors.{Color}
use Rattle.pg_layout.specs.declared.position.Position.{Position}
use Rattle.pg_picture.specs.Marks.{marks_above}
use Rattle.pg_picture.specs.Table.{Table}
use Rattle.pg_picture.proofs.Owners.{Apart, apart_from}
use Rattle.pg_stream.specs.Inside.{IsSoundAt, first_height, height_in, IsSizedAt}
use Rattle.pg_picture.specs.Grids.{bare_table}
use Rattle.pg_stream.specs.LiveStreams.{AppendsEnd, LentFits}
use Rattle.pg_stream.specs.Printers.{now_of}
use Rattle.pg_stream.specs.SizedStreams.{CountsLines, IsNextHeight}
use Rattle.pg_stream.specs.declared.printer.frame.Frame.{Frame}
use Rattle.pg_stream.specs.declared.printer.progress.Progress.{Progress}
use Rattle.pg_stream.proofs.DrawnLines.{length_of_row}
use Rattle.pg_stream.proofs.SizedRows.{row_fits-by, row_text-by, after_row-by, finish_text-by, sound_at-by, sound_at-in, above-lines, above-same, next-height, moved}

-- ---- what a stream of rows appends: the row that it holds, and all rows behind it

-- ---- what a stream of rows appends: the row that it holds, and all rows behind it

-- ---- the stream after a push

pub pushed-some : (s t : Streaming) (row next : List Text) → s.held ≡ Some row → t.before ≡ after_row s.before row false → t.held ≡ Some next → t ≡ after_push s next
pushed-some s t row next is before held = rw is (ap₂ (λ (b : Printing) (h : Option (List Text)). record t { before = b; held = h }) before held)

pub pushed-none : (s t : Streaming) (next : List Text) → s.held ≡ None → t.before ≡ s.before → t.held ≡ Some next → t ≡ after_push s next
pushed-none s t next is before held = rw is (ap₂ (λ (b : Printing) (h : Option (List Text)). record t { before = b; held = h }) before held)

-- ---- rows above one

none-above : (s : Printing) (cells : List Text) (rows : List (List Text)) (n : ℕ) → n ≡ s.rows → text_above s (cells ∷ rows) n ≡ []
unfolding text_above
none-above s cells rows n is =
    let e : nat_lt s.rows n ≡ false = grind (arith, nat_tests) in
    rw e refl

more-above : (s : Printing) (cells : List Text) (rows : List (List Text)) (n : ℕ) → s.rows < n → text_above s (cells ∷ rows) n ≡ row_text s cells false ++ text_above (after_row s cells false) rows n
unfolding text_above
more-above s cells rows n above =
    let e : nat_lt s.rows n ≡ true = grind (arith, nat_tests) in
    rw e refl

rows-after : (s : Printing) (cells : List Text) (b : Bool) → (after_row s cells b).rows ≡ s.rows + 1
unfolding after_row
rows-after s cells b = refl

-- a row that doesn't fit is none of those above them
misfit-below : (s : Printing) (rows : List (List Text)) (n : ℕ) → IsMisfit s rows n → s.rows ≤ n
misfit-below s [] n is = absurd is
misfit-below s (cells ∷ []) n is = omega (arith, is.0)
misfit-below s (cells ∷ next ∷ rows) n (inl is) = omega (arith, is.0)
misfit-below s (cells ∷ next ∷ rows) n (inr is) = omega (arith, misfit-below (after_row s cells false) (next ∷ rows) n is.1, rows-after s cells false)

misfit-below-but-latest : (s : Printing) (rows : List (List Text)) (n : ℕ) → IsMisfitButLatest s rows n → s.rows ≤ n
misfit-below-but-latest s [] n is = absurd is
misfit-below-but-latest s (cells ∷ []) n is = absurd is
misfit-below-but-latest s (cells ∷ next ∷ rows) n (inl is) = omega (arith, is.0)
misfit-below-but-latest s (cells ∷ next ∷ rows) n (inr is) = omega (arith, misfit-below-but-latest (after_row s cells false) (next ∷ rows) n is.1, rows-after s cells false)

-- above a later row stands the first one
above-later : (s : Printing) (cells : List Text) (rows : List (List Text)) (n : ℕ) → (after_row s cells false).rows ≤ n → text_above s (cells ∷ rows) n ≡ row_text s cells false ++ text_above (after_row s cells false) rows n
above-later s cells rows n later = more-above s cells rows n (omega (arith, later, rows-after s cells false))

module _ {Z U : Type 0} where
  -- ---- a row that is tested, and printed if it fits

  pub row-misfits : {Fits : Type 0} (row : ℕ) (text : Text) (old : String Z) → ¬ Fits → AppendsIf {U = U} Fits row text old old (Err (Row row))
  row-misfits row text old misfit = record { whole = λ fits. absurd (misfit fits); misfit = λ _. (refl, refl); tells = (refl, misfit) }

  pub row-refused : {V E Fits : Type 0} {row : ℕ} {text : Text} {old new : String Z} {e : E} → Fits → Appends {U = V} old new (Err e) text → AppendsIf {U = U} Fits row text old new (Err Memory)
  row-refused fits a = record { whole = λ _. (refused-as refl a, tt); misfit = λ no. absurd (no fits); tells = fits }

  pub row-printed : {V E Fits : Type 0} {row : ℕ} {text : Text} {old new : String Z} {value : V} (other : U) → Fits → Appends {E = E} old new (Ok value) text → AppendsIf Fits row text old new (Ok other)
  row-printed other fits a = record { whole = λ _. (appended-as a, tt); misfit = λ no. absurd (no fits); tells = fits }

  -- ---- the held row, as the stream shows it

  pub held-some : {old new : String Z} {r : Result U StreamFault} (s : Streaming) (row : List Text) → s.held ≡ Some row
      → AppendsIf (RowFits s.before row false) s.before.rows (row_text s.before row false) old new r → AppendsIf (HeldFits s) s.before.rows (held_text s) old new r
  held-some s row is p = rw is p

  pub held-none : (old : String Z) (s : Streaming) (value : U) → s.held ≡ None → AppendsIf (HeldFits s) s.before.rows (held_text s) old old (Ok value)
  held-none old s value is = rw is (record { whole = λ fits. (Gained-all (Gained-none old), tt); misfit = λ no. absurd (no tt); tells = tt })

  -- the same under a result of another type
  pub appends-as : {V : Type 0} {Fits : Type 0} {row : ℕ} {text : Text} {old new : String Z} {value : V} (other : U) → AppendsIf Fits row text old new (Ok value) → AppendsIf Fits row text old new (Ok other)
  appends-as other p = record { whole = λ fits. (appended-as (p.whole fits).0, tt); misfit = λ no. absurd (no p.tells); tells = p.tells }

  pub stops-as : {V : Type 0} {Fits : Type 0} {row : ℕ} {text : Text} {old new : String Z} (fault : StreamFault) → AppendsIf {U = V} Fits row text old new (Err fault) → AppendsIf {U = U} Fits row text old new (Err fault)
  stops-as (Misfit m) p = absurd p.tells
  stops-as (Row n) p = record {
    whole = λ fits. absurd (p.tells.1 fits);
    misfit = λ no. (ap (λ k. Err (Row k)) p.tells.0, (p.misfit no).1);
    tells = p.tells;
  }
  stops-as Open p = absurd p.tells
  stops-as Memory p = record { whole = λ fits. (refused-as refl (p.whole fits).0, tt); misfit = λ no. absurd (no p.tells); tells = p.tells }

  -- what a fault tells
  pub tells-row : {Fits : Type 0} {row : ℕ} {text : Text} {old new : String Z} {r : Result U StreamFault} (n : ℕ) → AppendsIf Fits row text old new r → r ≡ Err (Row n) → (n ≡ row) × (new ≡ old) × ¬ Fits
  tells-row {Fits} {row} n p is = let t : TellsRow {U = U} Fits row (Err (Row n)) = subst (λ (q : Result U StreamFault). TellsRow Fits row q) is p.tells in (t.0, (p.misfit t.1).1, t.1)

  pub tells-memory : {Fits : Type 0} {row : ℕ} {text : Text} {old new : String Z} {r : Result U StreamFault} → AppendsIf Fits row text old new r → r ≡ Err Memory → AppendsOrNothing old new r text
  tells-memory {Fits} {row} p is = let t : TellsRow {U = U} Fits row (Err Memory) = subst (λ (q : Result U StreamFault). TellsRow Fits row q) is p.tells in inl (p.whole t).0

  pub rows-ok : {Fit : Type 0} {IsFirst : ℕ → Type 0} {text : Text} {above : ℕ → Text} {old new : String Z} (r : Result U StreamFault) → AppendsRows Fit IsFirst text above old new r → OnOk r (string_bytes new ≡ string_bytes old ++ text)
  rows-ok (Ok value) p = (p.whole p.tells).0.ok
  rows-ok (Err fault) p = tt

-- nothing is added to a text by none
bytes-none : {Z : Type 0} (old : String Z) (text : Text) → text ≡ [] → string_bytes old ≡ string_bytes old ++ text
bytes-none old text is = sym (append-nil (string_bytes old)) ∙ ap (λ t. string_bytes old ++ t) (sym is)

-- ---- rows, whatever it is that they meet

module _ {Z U : Type 0} {Fit : Type 0} {IsFirst : ℕ → Type 0} {text : Text} {above : ℕ → Text} where
  -- rows that fit, and whose text was appended or refused
  pub rows-fit : {old new : String Z} (r : Result U StreamFault) → Fit → ((n : ℕ) → ¬ (IsFirst n)) → Appends old new r text → OnlyMemory r → AppendsRows Fit IsFirst text above old new r
  rows-fit (Ok value) fit none a memory = record { whole = λ _. (a, tt); misfit = λ n is. absurd (none n is); tells = fit }
  rows-fit (Err (Misfit m)) fit none a memory = absurd memory
  rows-fit (Err (Row n)) fit none a memory = absurd memory
  rows-fit (Err Open) fit none a memory = absurd memory
  rows-fit (Err Memory) fit none a memory = record { whole = λ _. (a, tt); misfit = λ n is. absurd (none n is); tells = a }

  -- where no row is held, nothing comes before them
  same-stop : {V : Type 0} {row : ℕ} {old new : String Z} (fault : StreamFault) → AppendsIf {U = V} (Unit {0}) row [] old new (Err fault) → AppendsRows {U = U} Fit IsFirst text above old new (Err fault)
  same-stop (Misfit m) p = absurd p.tells
  same-stop (Row n) p = absurd (p.tells.1 tt)
  same-stop Open p = absurd p.tells
  same-stop Memory p = record { whole = λ _. (stopped text refl (p.whole tt).0, tt); misfit = λ n is. stopped (above n) refl (p.whole tt).0; tells = stopped text refl (p.whole tt).0 }

  same-rows : {V : Type 0} {old mid new : String Z} {value : V} (r : Result U StreamFault) → Appends {U = V} {E = StreamFault} old mid (Ok value) [] → AppendsRows Fit IsFirst text above mid new r → AppendsRows Fit IsFirst text above old new r
  same-rows (Ok value) a q = record { whole = λ fit. (a then (q.whole fit).0, tt); misfit = λ n is. q.misfit n is; tells = q.tells }
  same-rows (Err (Misfit m)) a q = absurd q.tells
  same-rows {old} (Err (Row n)) a q =
      let same = a.ok ∙ append-nil (string_bytes old) in
      record {
        whole = λ fit. absurd (q.whole fit).1;
        misfit = λ k is. ((q.misfit k is).0, (q.misfit k is).1 ∙ ap (λ t. t ++ above k) same);
        tells = (q.tells.0, q.tells.1 ∙ ap (λ t. t ++ above n) same);
      }
  same-rows (Err Open) a q = absurd q.tells
  same-rows (Err Memory) a q = record { whole = λ _. (a then q.tells, tt); misfit = λ k is. a then q.misfit k is; tells = a then q.tells }

-- ---- a row before others

-- the first row that doesn't fit is this one, or it is one of those behind it
abbrev pub OneOrBehind : Type 0 → ℕ → (ℕ → Type 0) → ℕ → Type 0
OneOrBehind Fits row IsFirst n = ((n ≡ row) × ¬ Fits) ⊎ (Fits × IsFirst n)

module _ {Z U : Type 0} {Fits Fit : Type 0} {IsFirst : ℕ → Type 0} {row : ℕ} {head : Text} {above : ℕ → Text} where
  -- where it isn't printed, nor are those behind it
  row-stop : {V : Type 0} {old new : String Z} (fault : StreamFault) (text : Text) (behind : ℕ → Text) → ((n : ℕ) → n ≡ row → above n ≡ []) → ((n : ℕ) → IsFirst n → above n ≡ head ++ behind n) → AppendsIf {U = V} Fits row head old new (Err fault)
      → AppendsRows {U = U} (Fits × Fit) (OneOrBehind Fits row IsFirst) (head ++ text) above old new (Err fault)
  row-stop (Misfit m) text behind none more p = absurd p.tells
  row-stop {old} {new} (Row n) text behind none more p =
      let same = ap (λ (b : String Z). string_bytes b) (p.misfit p.tells.1).1 in
      record {
        whole = λ fit. absurd (p.tells.1 fit.0);
        misfit = λ k is. elim is [
          | inl here ↦ (p.tells.0 ∙ sym here.0, same ∙ bytes-none old (above k) (none k here.0))
          | inr later ↦ absurd (p.tells.1 later.0)
        ];
        tells = (inl p.tells, same ∙ bytes-none old (above n) (none n p.tells.0));
      }
  row-stop Open text behind none more p = absurd p.tells
  row-stop Memory text behind none more p = record {
    whole = λ fit. (stopped text refl (p.whole p.tells).0, tt);
    misfit = λ k is. elim is [
      | inl here ↦ absurd (here.1 p.tells)
      | inr later ↦ Appends-text (sym (more k later.1)) (stopped (behind k) refl (p.whole p.tells).0)
    ];
    tells = stopped text refl (p.whole p.tells).0;
  }

  -- where it is printed, its text goes before theirs
  row-goes : {V : Type 0} {text : Text} {behind : ℕ → Text} {old mid new : String Z} {value : V} (r : Result U StreamFault) → ((n : ℕ) → IsFirst n → above n ≡ head ++ behind n) → Fits → Appends {U = V} {E = StreamFault} old mid (Ok value) head → AppendsRows Fit IsFirst text behind mid new r
      → AppendsRows (Fits × Fit) (OneOrBehind Fits row IsFirst) (head ++ text) above old new r
  row-goes (Ok value) more fits a q = record {
    whole = λ fit. (a then (q.whole fit.1).0, tt);
    misfit = λ k is. elim is [
      | inl here ↦ absurd (here.1 fits)
      | inr later ↦ q.misfit k later.1
    ];
    tells = (fits, q.tells);
  }
  row-goes (Err (Misfit m)) more fits a q = absurd q.tells
  row-goes {behind} {old} {mid} (Err (Row n)) more fits a q =
      let joined : (k : ℕ) → IsFirst k → string_bytes mid ++ behind k ≡ string_bytes old ++ above k =
      λ k is. ap (λ t. t ++ behind k) a.ok ∙ append_assoc (string_bytes old) head (behind k) ∙ ap (λ t. string_bytes old ++ t) (sym (more k is)) in
      record {
        whole = λ fit. absurd (q.whole fit.1).1;
        misfit = λ k is. elim is [
          | inl here ↦ absurd (here.1 fits)
          | inr later ↦ ((q.misfit k later.1).0, (q.misfit k later.1).1 ∙ joined k later.1)
        ];
        tells = (inr (fits, q.tells.0), q.tells.1 ∙ joined n q.tells.0);
      }
  row-goes (Err Open) more fits a q = absurd q.tells
  row-goes (Err Memory) more fits a q = record {
    whole = λ fit. (a then q.tells, tt);
    misfit = λ k is. elim is [
      | inl here ↦ absurd (here.1 fits)
      | inr later ↦ Appends-text (sym (more k later.1)) (a then q.misfit k later.1)
    ];
    tells = a then q.tells;
  }

-- ---- the held row and those behind it

module _ {Z U V : Type 0} where
  pub push-stops : {old new : String Z} (fault : StreamFault) (before : Printing) (held : Option (List Text)) (next : List Text) (rows : List (List Text))
      → AppendsIf {U = V} (HeldFits (record { before = before; held = held })) before.rows (held_text (record { before = before; held = held })) old new (Err fault)
      → PrintsRows {U = U} before (rows_left (record { before = before; held = held }) (next ∷ rows)) old new (Err fault)
  unfolding rows_text
  push-stops fault before None next rows p = same-stop fault p
  push-stops fault before (Some row) next rows p = row-stop fault _ (text_above (after_row before row false) (next ∷ rows)) (none-above before row (next ∷ rows)) (λ n is. above-later before row (next ∷ rows) n (misfit-below (after_row before row false) (next ∷ rows) n is)) p

  pub push-goes : {old mid new : String Z} (r : Result U StreamFault) (value : V) (before : Printing) (held : Option (List Text)) (next : List Text) (rows : List (List Text))
      → AppendsIf (HeldFits (record { before = before; held = held })) before.rows (held_text (record { before = before; held = held })) old mid (Ok value)
      → PrintsRows (after_push (record { before = before; held = held }) next).before (next ∷ rows) mid new r
      → PrintsRows before (rows_left (record { before = before; held = held }) (next ∷ rows)) old new r
  unfolding rows_text
  push-goes r value before None next rows p q = same-rows r (p.whole tt).0 q
  push-goes r value before (Some row) next rows p q = row-goes r (λ n is. above-later before row (next ∷ rows) n (misfit-below (after_row before row false) (next ∷ rows) n is)) p.tells (p.whole p.tells).0 q

  -- the same where an error comes behind them
  pub push-stops-but-latest : {old new : String Z} (fault : StreamFault) (before : Printing) (held : Option (List Text)) (next : List Text) (rows : List (List Text))
      → AppendsIf {U = V} (HeldFits (record { before = before; held = held })) before.rows (held_text (record { before = before; held = held })) old new (Err fault)
      → PrintsButLatest {U = U} before (rows_left (record { before = before; held = held }) (next ∷ rows)) old new (Err fault)
  unfolding text_but_latest
  push-stops-but-latest fault before None next rows p = same-stop fault p
  push-stops-but-latest fault before (Some row) next rows p =
      row-stop fault _ (text_above (after_row before row false) (next ∷ rows)) (none-above before row (next ∷ rows)) (λ n is. above-later before row (next ∷ rows) n (misfit-below-but-latest (after_row before row false) (next ∷ rows) n is)) p

  pub push-goes-but-latest : {old mid new : String Z} (r : Result U StreamFault) (value : V) (before : Printing) (held : Option (List Text)) (next : List Text) (rows : List (List Text))
      → AppendsIf (HeldFits (record { before = before; held = held })) before.rows (held_text (record { before = before; held = held })) old mid (Ok value)
      → PrintsButLatest (after_push (record { before = before; held = held }) next).before (next ∷ rows) mid new r
      → PrintsButLatest before (rows_left (record { before = before; held = held }) (next ∷ rows)) old new r
  unfolding text_but_latest
  push-goes-but-latest r value before None next rows p q = same-rows r (p.whole tt).0 q
  push-goes-but-latest r value before (Some row) next rows p q =
      row-goes r (λ n is. above-later before row (next ∷ rows) n (misfit-below-but-latest (after_row before row false) (next ∷ rows) n is)) p.tells (p.whole p.tells).0 q

-- no row is left
pub none-left : {Z U : Type 0} (now : String Z) (before : Printing) (held : Option (List Text)) (value : U) → PrintsButLatest before (rows_left (record { before = before; held = held }) []) now now (Ok value)
unfolding text_but_latest
none-left now before None value = rows-fit (Ok value) tt (λ n is. is) (Gained-all (Gained-none now)) tt
none-left now before (Some row) value = rows-fit (Ok value) tt (λ n is. is) (Gained-all (Gained-none now)) tt

-- ---- the end

module _ {Z U : Type 0} where
  -- the held row is the last
  last-stops : {V : Type 0} {old new : String Z} (fault : StreamFault) (s : Printing) (row : List Text) → AppendsIf {U = V} (RowFits s row true) s.rows (row_text s row true) old new (Err fault) → PrintsRows {U = U} s (row ∷ []) old new (Err fault)
  unfolding rows_text
  last-stops (Misfit m) s row p = absurd p.tells
  last-stops {old} {new} (Row n) s row p =
      let same = ap (λ (b : String Z). string_bytes b) (p.misfit p.tells.1).1 in
      record {
        whole = λ fit. absurd (p.tells.1 fit);
        misfit = λ k is. (p.tells.0 ∙ sym is.0, same ∙ bytes-none old _ (none-above s row [] k is.0));
        tells = (p.tells, same ∙ bytes-none old _ (none-above s row [] n p.tells.0));
      }
  last-stops Open s row p = absurd p.tells
  last-stops Memory s row p = rows-fit (Err Memory) p.tells (λ n is. is.1 p.tells) (stopped (finish_text (after_row s row true)) refl (p.whole p.tells).0) tt

  pub end-stops : {V : Type 0} {old new : String Z} (fault : StreamFault) (s : Streaming) (row : List Text) → s.held ≡ Some row → AppendsIf {U = V} (RowFits s.before row true) s.before.rows (row_text s.before row true) old new (Err fault)
      → PrintsRows {U = U} s.before (rows_left s []) old new (Err fault)
  end-stops fault s row is p = rw is (last-stops fault s.before row p)

  pub end-some : {V : Type 0} {old mid new : String Z} {value : V} (r : Result U StreamFault) (s : Streaming) (row : List Text) (q : Printing) → s.held ≡ Some row
      → AppendsIf (RowFits s.before row true) s.before.rows (row_text s.before row true) old mid (Ok value) → q ≡ after_row s.before row true → Appends mid new r (finish_text q) → OnlyMemory r
      → PrintsRows s.before (rows_left s []) old new r
  unfolding rows_text
  end-some {old} {new} r s row q is p after a memory =
      let b : Appends old new r (rows_text s.before (row ∷ [])) = (p.whole p.tells).0 then rw after at a in
      let printed : PrintsRows s.before (row ∷ []) old new r = rows-fit r p.tells (λ n first. first.1 p.tells) b memory in
      rw is printed

  -- no row was pushed
  pub end-none : {old new : String Z} (r : Result U StreamFault) (s : Streaming) → s.held ≡ None → Appends old new r (finish_text s.before) → OnlyMemory r → PrintsRows s.before (rows_left s []) old new r
  unfolding rows_text
  end-none {old} {new} r s is a memory =
      let printed : PrintsRows s.before [] old new r = rows-fit r tt (λ n first. first) a memory in
      rw is printed

-- ---- rows of an iterator

module _ {I A Z : Type 0} (U : Type 0) (view : A → List Text) (steps : I → Option A → I → Type 0) where
  -- What is left of the rows, and how what they append is what all rows append: `all` behind the stream that began.
  pub record Pushed (old now : String Z) (rows : I) (s began : Streaming) (all : List (List Text)) : Type 0 where
    pub texts : List (List Text)
    pub left : AlwaysGives (λ x y. view x ≡ y) steps rows texts
    pub rest : (new : String Z) (r : Result U StreamFault) → PrintsRows s.before (rows_left s texts) now new r → PrintsRows began.before (rows_left began all) old new r

  pub none-pushed : (old : String Z) (rows : I) (s : Streaming) (all : List (List Text)) → AlwaysGives (λ x y. view x ≡ y) steps rows all → Pushed old old rows s s all
  none-pushed old rows s all gives = record { texts = all; left = gives; rest = λ new r p. p }

  next-pushed : {V : Type 0} {old now after : String Z} {rows later : I} {value : V} (s q began : Streaming) (all : List (List Text)) (x : A) (texts : List (List Text)) → AlwaysGives (λ x y. view x ≡ y) steps rows texts
      → ((new : String Z) (r : Result U StreamFault) → PrintsRows s.before (rows_left s texts) now new r → PrintsRows began.before (rows_left began all) old new r)
      → steps rows (Some x) later → AppendsIf (HeldFits s) s.before.rows (held_text s) now after (Ok value) → q ≡ after_push s (view x) → Pushed old after later q began all
  next-pushed s q began all x [] left rest step p is = absurd (left x _ step)
  next-pushed {after} {value} s q began all x (y ∷ ys) (some, more) rest step p is =
      let (same, others) = more x _ step in
      let is-y : q ≡ after_push s y = is ∙ ap (λ cells. after_push s cells) same in
      record {
        texts = ys;
        left = others;
        rest = λ new r done. rest new r (push-goes r value s.before s.held y ys p (subst (λ (t : Streaming). PrintsRows t.before (rows_left t ys) after new r) is-y done));
      }

  pub pushed-next : {V : Type 0} {old now after : String Z} {rows later : I} {value : V} (s q began : Streaming) (all : List (List Text)) (x : A) → Pushed old now rows s began all
      → steps rows (Some x) later → AppendsIf (HeldFits s) s.before.rows (held_text s) now after (Ok value) → q ≡ after_push s (view x) → Pushed old after later q began all
  pushed-next s q began all x p step appends is = next-pushed s q began all x p.texts p.left p.rest step appends is

  stops-pushed : {V : Type 0} {old now new : String Z} {rows later : I} (s began : Streaming) (all : List (List Text)) (fault : StreamFault) (x : A) (texts : List (List Text)) → AlwaysGives (λ x y. view x ≡ y) steps rows texts
      → ((new : String Z) (r : Result U StreamFault) → PrintsRows s.before (rows_left s texts) now new r → PrintsRows began.before (rows_left began all) old new r)
      → steps rows (Some x) later → AppendsIf {U = V} (HeldFits s) s.before.rows (held_text s) now new (Err fault) → PrintsRows {U = U} began.before (rows_left began all) old new (Err fault)
  stops-pushed s began all fault x [] left rest step p = absurd (left x _ step)
  stops-pushed {new} s began all fault x (y ∷ ys) left rest step p = rest new (Err fault) (push-stops fault s.before s.held y ys p)

  pub pushed-stops : {V : Type 0} {old now new : String Z} {rows later : I} (s began : Streaming) (all : List (List Text)) (fault : StreamFault) (x : A) → Pushed old now rows s began all
      → steps rows (Some x) later → AppendsIf {U = V} (HeldFits s) s.before.rows (held_text s) now new (Err fault) → PrintsRows {U = U} began.before (rows_left began all) old new (Err fault)
  pushed-stops s began all fault x p step appends = stops-pushed s began all fault x p.texts p.left p.rest step appends

  ends-pushed : {old now new : String Z} {rows later : I} (s began : Streaming) (all : List (List Text)) (r : Result U StreamFault) (texts : List (List Text)) → AlwaysGives (λ x y. view x ≡ y) steps rows texts
      → ((new : String Z) (r : Result U StreamFault) → PrintsRows s.before (rows_left s texts) now new r → PrintsRows began.before (rows_left began all) old new r)
      → steps rows None later → PrintsRows s.before (rows_left s []) now new r → PrintsRows began.before (rows_left began all) old new r
  ends-pushed {new} s began all r [] left rest step p = rest new r p
  ends-pushed s began all r (y ∷ ys) left rest step p = absurd (left.0 _ step)

  pub pushed-ends : {old now new : String Z} {rows later : I} (s began : Streaming) (all : List (List Text)) (r : Result U StreamFault) → Pushed old now rows s began all
      → steps rows None later → PrintsRows s.before (rows_left s []) now new r → PrintsRows began.before (rows_left began all) old new r
  pushed-ends s began all r p step done = ends-pushed s began all r p.texts p.left p.rest step done

-- ---- a stream that no row comes to, and that holds none, leaves its buffer as it is

-- what holds no texts holds no row
pub none-held : {A B : Type 0} (f : A → B) (held : Option A) → option_map f held ≡ None → held ≡ None
none-held f None is = refl
none-held f (Some row) is = cc

module _ {I A H Z : Type 0} (steps : I → Option A → I → Type 0) where
  -- where no row was held, and the iterator gives none, nothing is held and nothing was appended
  pub record IsUntouched (began held : Option H) (rows left : I) (old now : String Z) : Type 0 where
    pub so : began ≡ None → ((x : A) (j : I) → ¬ (steps rows (Some x) j)) → (held ≡ None) × (left ≡ rows) × (now ≡ old)

  pub untouched : (held : Option H) (rows : I) (buf : String Z) → IsUntouched held held rows rows buf buf
  untouched held rows buf = record { so = λ none never. (none, refl, refl) }

  -- an iterator that gives a row isn't such a one
  pub some-row : {later : I} {began held : Option H} {rows left : I} {old now : String Z} (x : A) → IsUntouched began held rows left old now → steps left (Some x) later → began ≡ None → ¬ ((x : A) (j : I) → ¬ (steps rows (Some x) j))
  some-row {later} x is step none never =
      let so = is.so none never in
      never x later (subst (λ (i : I). steps i (Some x) later) so.1 step)

  pub touched : {began held next : Option H} {rows left later : I} {old now new : String Z} (x : A) → IsUntouched began held rows left old now → steps left (Some x) later → IsUntouched began next rows later old new
  touched x is step = record { so = λ none never. absurd (some-row x is step none never) }

-- ---- rows of cells in vectors

-- the last row is the last
pub ended-of : {P E : Type 0} (view : P → Printing) (s : Printing) (texts : List Text) (last : Bool) (r : Result P E) → IfOk r (λ p. view p ≡ after_row s texts last) → IfOk r (λ p. (view p).is_ended ≡ last)
unfolding after_row
ended-of view s texts last (Ok p) is = ap (λ (q : Printing). q.is_ended) is
ended-of view s texts last (Err e) is = tt

-- cells that an iterator gives, one by one
module _ {I A : Type 0} (view : A → Text) (steps : I → Option A → I → Type 0) where
  -- these are taken, and the others are left
  pub record Collected (items : List A) (cells : I) (texts : List Text) : Type 0 where
    pub others : List Text
    pub left : AlwaysGives (λ x y. view x ≡ y) steps cells others
    pub is : texts ≡ map view items ++ others

  next-collected : {cells later : I} (items : List A) (texts : List Text) (x : A) (others : List Text) → AlwaysGives (λ x y. view x ≡ y) steps cells others → texts ≡ map view items ++ others → steps cells (Some x) later
      → Collected (items ++ x ∷ []) later texts
  next-collected items texts x [] left is step = absurd (left x _ step)
  next-collected items texts x (y ∷ ys) (some, more) is step =
      let (same, others) = more x _ step in
      record {
        others = ys;
        left = others;
        is = is ∙ ap (λ z. map view items ++ z ∷ ys) (sym same) ∙ sym (append_assoc (map view items) (view x ∷ []) ys) ∙ ap (λ l. l ++ ys) (sym (map-append view items (x ∷ [])));
      }

  pub collected-next : {cells later : I} (items : List A) (texts : List Text) (x : A) → Collected items cells texts → steps cells (Some x) later → Collected (items ++ x ∷ []) later texts
  collected-next items texts x p step = next-collected items texts x p.others p.left p.is step

  all-collected : {cells later : I} (items : List A) (texts others : List Text) → AlwaysGives (λ x y. view x ≡ y) steps cells others → texts ≡ map view items ++ others → steps cells None later → map view items ≡ texts
  all-collected items texts [] left is step = sym (is ∙ append-nil (map view items))
  all-collected items texts (y ∷ ys) left is step = absurd (left.0 _ step)

  pub collected-all : {cells later : I} (items : List A) (texts : List Text) → Collected items cells texts → steps cells None later → map view items ≡ texts
  collected-all items texts p step = all-collected items texts p.others p.left p.is step

-- ---- the cells of a row that are lent: what an iterator over them gives

module _ {S A B C : Type 0} (steps : S → Option A → S → Type 0) (lent : A → B) (text : B → C) where
  -- what stands behind each item that is lent
  shown : (s : S) (ys : List B) → AlwaysYields steps lent s ys → AlwaysGives (λ x z. text (lent x) ≡ z) steps s (map text ys)
  shown s [] none = none
  shown s (y ∷ ys) (some, more) = (some, λ x t step. let (is, others) = more x t step in (ap text is, shown t ys others))

  pub given-lent : {s : S} {ys : List B} → YieldsList steps lent s ys → AlwaysGives (λ x z. text (lent x) ≡ z) steps s (map text ys)
  given-lent {s} {ys} chain = shown s ys chain.runs

-- ---- a push into a stream whose rows bring their heights, and its end, by what its printer was told for the call

module _ {D C B S A : Type 0} (width height : D → ℕ → ℕ) (color : C → Position → Option Color) (frame : Frame D C B) (progress : Progress S A) (above : ℕ) (sized : IsSizedAt (bare_table width height color frame.sheet) above frame progress) where
  abbrev said : (ℕ → ℕ) → Table
  said heights = record (bare_table width height color frame.sheet) { height = heights }

  abbrev now : (ℕ → ℕ) → Printing
  now heights = now_of (said heights) frame.hint progress

  apart : Apart frame.sheet.config.now.spans
  apart = apart_from frame.sheet.config.now.spans frame.sheet.columns sized.sound.printer.fits.spans

  -- the next row has this height, and this was told for the call
  module _ (high : ℕ) (told : Table) (is : told ≡ said (height_in progress.rows high above)) (hint : Option ℕ) (known : hint ≡ frame.hint) where
    told-now : (p : Progress S A) → now_of told hint p ≡ now_of (said (height_in progress.rows high above)) frame.hint p
    told-now p = ap₂ (λ (t : Table) (h : Option ℕ). now_of t h p) is known

    counts-next : CountsLines (now (height_in progress.rows high above))
    counts-next = sized.sound.printer.lines ∙ ap length (above-same frame.sheet.config.now progress.rows high above)

    pub sound-told : {E : Type 0} (like : Frame E C B) → like.sheet.width ≡ frame.sheet.width → like.sheet.height ≡ frame.sheet.height → like.hint ≡ frame.hint → IsSoundAt told like progress
    sound-told {E} like wide tall same =
        subst (λ (t : Table). IsSoundAt t like progress) (sym is)
        (sound_at-in _ frame progress like wide tall same
        (sound_at-by (said (first_height above)) frame progress (height_in progress.rows high above) sized.hint sized.alone counts-next sized.sound))

    module _ (heights : ℕ → ℕ) (next : IsNextHeight (now heights) high) where
      same : heights progress.rows ≡ height_in progress.rows high above progress.rows
      same = next.next ∙ sym (next-height frame.sheet.config.now progress.rows high above)

      pub fits-told : (texts : List Text) → RowFits (now heights) texts false → RowFits (now_of told hint progress) texts false
      fits-told texts fits = subst (λ (q : Printing). RowFits q texts false) (sym (told-now progress)) (row_fits-by (now heights) heights (height_in progress.rows high above) same apart sized.alone texts fits)

      pub told-fits : (texts : List Text) → RowFits (now_of told hint progress) texts false → RowFits (now heights) texts false
      told-fits texts fits =
          row_fits-by (now heights) (height_in progress.rows high above) heights (sym same) apart sized.alone texts
          (subst (λ (q : Printing). RowFits q texts false) (told-now progress) fits)

      -- likewise for a row that is lent
      pub lent-told : (texts : List Text) → LentFits (now heights) texts → LentFits (now_of told hint progress) texts
      lent-told texts fits =
          subst (λ (q : Printing). LentFits q texts) (sym (told-now progress))
          (row_fits-by (now heights) heights (height_in progress.rows high above) same apart sized.alone texts fits.0, fits.1, sym same ∙ fits.2)

      pub told-lent : (texts : List Text) → LentFits (now_of told hint progress) texts → LentFits (now heights) texts
      told-lent texts fits =
          let known : LentFits (now (height_in progress.rows high above)) texts = subst (λ (q : Printing). LentFits q texts) (told-now progress) fits in
          (row_fits-by (now heights) (height_in progress.rows high above) heights (sym same) apart sized.alone texts known.0, known.1, same ∙ known.2)

      pub text-told : (texts : List Text) → row_text (now_of told hint progress) texts false ≡ row_text (now heights) texts false
      text-told texts =
          ap (λ (q : Printing). row_text q texts false) (told-now progress)
          ∙ row_text-by (now heights) (height_in progress.rows high above) heights (sym same) apart sized.alone sized.hint counts-next next.above texts

      pub after-told : (texts : List Text) (left : Progress S A) → now_of told hint left ≡ after_row (now_of told hint progress) texts false → now_of (said heights) frame.hint left ≡ after_row (now heights) texts false
      after-told texts left after =
          let e : now_of (said (height_in progress.rows high above)) frame.hint left ≡ after_row (now (height_in progress.rows high above)) texts false = sym (told-now left) ∙ after ∙ ap (λ (q : Printing). after_row q texts false) (told-now progress) in
          ap (λ (p : Printing). record p { table = said heights }) e ∙ after_row-by (now heights) (height_in progress.rows high above) heights (sym same) apart sized.alone texts

    -- the rows so far can be counted together
    pub above-fits : (texts : List Text) → RowFits (now_of told hint progress) texts false → above + high < 2 ^ 64
    above-fits texts fits =
        let known : RowFits (now (height_in progress.rows high above)) texts false = subst (λ (q : Printing). RowFits q texts false) (told-now progress) fits in
        let lines = known.lines in
        let both = length_of_row frame.sheet.config.now (height_in progress.rows high above) progress.rows in
        let own = next-height frame.sheet.config.now progress.rows high above in
        let least = above-lines frame.sheet.config.now above progress.rows sized.none in
        let counts = sized.sound.printer.lines in
        omega (arith, lines, both, own, least, counts)

    pub sized-told : {E : Type 0} (texts : List Text) (left : Progress S A) (like : Frame E C B) → like.sheet.width ≡ frame.sheet.width → like.sheet.height ≡ frame.sheet.height → like.hint ≡ frame.hint
        → now_of told hint left ≡ after_row (now_of told hint progress) texts false → IsSoundAt told like left → IsSizedAt (bare_table width height color frame.sheet) (above + high) frame left
    sized-told {E} texts left like wide tall same after sound =
        let rows : left.rows ≡ progress.rows + 1 = ap (λ (p : Printing). p.rows) after ∙ rows-after (now_of told hint progress) texts false in
        let known : IsSoundAt (said (height_in progress.rows high above)) frame left = sound_at-in _ like left frame (sym wide) (sym tall) (sym same) (subst (λ (t : Table). IsSoundAt t like left) is sound) in
        let counts : CountsLines (now_of (said (first_height (above + high))) frame.hint left) =
        known.printer.lines
        ∙ subst (λ (n : ℕ). length (marks_above frame.sheet.config.now (height_in progress.rows high above) n) ≡ length (marks_above frame.sheet.config.now (first_height (above + high)) n)) (sym rows) (moved frame.sheet.config.now progress.rows high above sized.none) in
        record {
          sound = sound_at-by (said (height_in progress.rows high above)) frame left (first_height (above + high)) sized.hint sized.alone counts known;
          none = λ none. absurd (omega (arith, none, rows));
          hint = sized.hint;
          alone = sized.alone;
        }

  -- ---- the end

  module _ (told : Table) (is : told ≡ said (height_in progress.rows 0 above)) (hint : Option ℕ) (known : hint ≡ frame.hint) (heights : ℕ → ℕ) (counts : CountsLines (now heights)) where
    pub finish_text-told : finish_text (now_of told hint progress) ≡ finish_text (now heights)
    finish_text-told =
        ap finish_text (told-now 0 told is hint known progress)
        ∙ finish_text-by (now heights) (height_in progress.rows 0 above) heights apart sized.alone sized.hint (counts-next 0 told is hint known) counts

    pub ends-told : {Z U : Type 0} {old new : String Z} {r : Result U StreamFault} → AppendsEnd (now_of told hint progress) old new r → AppendsEnd (now heights) old new r
    ends-told {Z} {U} {old} {new} {r} p =
        let ended : AppendsEnd (now (height_in progress.rows 0 above)) old new r = subst (λ (q : Printing). AppendsEnd q old new r) (told-now 0 told is hint known progress) p in
        let text : finish_text (now (height_in progress.rows 0 above)) ≡ finish_text (now heights) = ap finish_text (sym (told-now 0 told is hint known progress)) ∙ finish_text-told in
        record { whole = λ may. (Appends-text text (ended.whole may).0, (ended.whole may).1); misfit = ended.misfit; tells = ended.tells }

-- Rows of a stream that may be errors, and rows that a run of an iterator gave.
use Rattle.std.proofs.Common.{◌≡◌, List, [], ◌∷◌, Option, Some, None, refl, sym, ◌∙◌, subst, true, false, true≢false, ◌++◌, map, is_none, ap, append_assoc, append-nil}
use Rattle.std.specs.Prelude.{String, Result, Ok, Err}
use Rattle.pg_layout.specs.Records.{AlwaysGives}
use Rattle.pg_layout.specs.Text.{Text}
use Rattle.pg_stream.specs.Printing.{Printing}
use Rattle.pg_stream.specs.Streams.{Streaming, held_text, HeldFits, after_push, rows_left, rows_before, first_error, AppendsIf, PrintsUntil, PrintsResults, EndsInError, PrintsRows, PrintsButLatest, PrintsRun, PrintsResultsRun, IsLeftAt}
use Rattle.pg_stream.specs.declared.fault.RowsFault.{RowsFault}
use Rattle.pg_stream.specs.declared.fault.RowsFault.TheVariants.{Stream, Source}
use Rattle.pg_stream.specs.declared.fault.StreamFault.{StreamFault}
use Rattle.pg_stream.proofs.stream.StreamedRows.{push-goes, push-stops, push-goes-but-latest, push-stops-but-latest, none-left}
use Rattle.std.proofs.lemmas.List.{map-append}
use Rattle.std.proofs.iter.runs.Made.{run, to_item, to_end}
use Rattle.std.specs.Iterator.{Yields}
use Rattle.std.specs.Iterator.Runs.{SomeRun}

-- ---- rows of a stream that may be errors

module _ {Z V E : Type 0} where
  -- the held row and those behind it, until an error comes or none
  until-stops : (U : Type 0) {old new : String Z} (error : Option E) (fault : StreamFault) (before : Printing) (held : Option (List Text)) (next : List Text) (rows : List (List Text))
      → AppendsIf {U = V} (HeldFits (record { before = before; held = held })) before.rows (held_text (record { before = before; held = held })) old new (Err fault)
      → PrintsUntil {U = U} error before (rows_left (record { before = before; held = held }) (next ∷ rows)) old new (Err fault)
  until-stops U None fault before held next rows p = push-stops fault before held next rows p
  until-stops U (Some error) fault before held next rows p = push-stops-but-latest fault before held next rows p

  until-goes : {U : Type 0} {old mid : String Z} (new : String Z) (error : Option E) (r : Result U StreamFault) (value : V) (before : Printing) (held : Option (List Text)) (next : List Text) (rows : List (List Text))
      → AppendsIf (HeldFits (record { before = before; held = held })) before.rows (held_text (record { before = before; held = held })) old mid (Ok value)
      → PrintsUntil error (after_push (record { before = before; held = held }) next).before (next ∷ rows) mid new r
      → PrintsUntil error before (rows_left (record { before = before; held = held }) (next ∷ rows)) old new r
  until-goes new None r value before held next rows p q = push-goes r value before held next rows p q
  until-goes new (Some error) r value before held next rows p q = push-goes-but-latest r value before held next rows p q

  results-go : {U : Type 0} {old mid : String Z} (new : String Z) (r : Result U (RowsFault E)) (value : V) (s : Streaming) (next : List Text) (items : List (Result (List Text) E)) → AppendsIf (HeldFits s) s.before.rows (held_text s) old mid (Ok value)
      → PrintsResults (after_push s next) items mid new r → PrintsResults s (Ok next ∷ items) old new r
  results-go new (Ok done) value s next items p q = (q.0, push-goes (Ok done) value s.before s.held next (rows_before items) p q.1)
  results-go new (Err (Stream fault)) value s next items p q = until-goes new (first_error items) (Err fault) value s.before s.held next (rows_before items) p q
  results-go new (Err (Source error)) value s next items p q = (q.0, push-goes-but-latest (Ok tt) value s.before s.held next (rows_before items) p q.1)

-- ---- of an iterator

module _ {I A Z E : Type 0} (U : Type 0) (view : A → Result (List Text) E) (steps : I → Option A → I → Type 0) where
  -- What is left of the items, and how what they append is what all append: `all` behind the stream that began.
  pub record Streamed (old now : String Z) (rows : I) (s began : Streaming) (all : List (Result (List Text) E)) : Type 0 where
    pub items : List (Result (List Text) E)
    pub left : AlwaysGives (λ x y. view x ≡ y) steps rows items
    pub rest : (new : String Z) (r : Result U (RowsFault E)) → PrintsResults s items now new r → PrintsResults began all old new r

  pub none-streamed : (old : String Z) (rows : I) (s : Streaming) (all : List (Result (List Text) E)) → AlwaysGives (λ x y. view x ≡ y) steps rows all → Streamed old old rows s s all
  none-streamed old rows s all gives = record { items = all; left = gives; rest = λ new r p. p }

  -- the item that was taken is the first of those that were left
  pub record Taken (old now : String Z) (later : I) (s began : Streaming) (item : Result (List Text) E) (all : List (Result (List Text) E)) : Type 0 where
    pub others : List (Result (List Text) E)
    pub left : AlwaysGives (λ x y. view x ≡ y) steps later others
    pub rest : (new : String Z) (r : Result U (RowsFault E)) → PrintsResults s (item ∷ others) now new r → PrintsResults began all old new r

  take-item : {old now : String Z} {rows later : I} (s began : Streaming) (all : List (Result (List Text) E)) (x : A) (item : Result (List Text) E) (items : List (Result (List Text) E)) → AlwaysGives (λ x y. view x ≡ y) steps rows items
      → ((new : String Z) (r : Result U (RowsFault E)) → PrintsResults s items now new r → PrintsResults began all old new r)
      → steps rows (Some x) later → view x ≡ item → Taken old now later s began item all
  take-item s began all x item [] left rest step is = absurd (left x _ step)
  take-item {now} s began all x item (y ∷ ys) (some, more) rest step is =
      let (same, others) = more x _ step in
      record {
        others = ys;
        left = others;
        rest = λ new r p. rest new r (subst (λ (z : Result (List Text) E). PrintsResults s (z ∷ ys) now new r) (sym is ∙ same) p);
      }

  pub item-taken : {old now : String Z} {rows later : I} (s began : Streaming) (all : List (Result (List Text) E)) (x : A) (item : Result (List Text) E) → Streamed old now rows s began all → steps rows (Some x) later → view x ≡ item
      → Taken old now later s began item all
  item-taken s began all x item p step is = take-item s began all x item p.items p.left p.rest step is

  -- a row that was pushed
  pub streamed-next : {V : Type 0} {old now after : String Z} {later : I} {value : V} (s q began : Streaming) (all : List (Result (List Text) E)) (cells : List Text) → Taken old now later s began (Ok cells) all
      → AppendsIf (HeldFits s) s.before.rows (held_text s) now after (Ok value) → q ≡ after_push s cells → Streamed old after later q began all
  streamed-next {after} {value} s q began all cells p appends is = record {
    items = p.others;
    left = p.left;
    rest = λ new r done. p.rest new r (results-go new r value s cells p.others appends (subst (λ (t : Streaming). PrintsResults t p.others after new r) is done));
  }

  pub streamed-stops : {V : Type 0} {old now new : String Z} {later : I} (s began : Streaming) (all : List (Result (List Text) E)) (fault : StreamFault) (cells : List Text) → Taken old now later s began (Ok cells) all
      → AppendsIf {U = V} (HeldFits s) s.before.rows (held_text s) now new (Err fault) → PrintsResults {U = U} began all old new (Err (Stream fault))
  streamed-stops {new} s began all fault cells p appends = p.rest new (Err (Stream fault)) (until-stops U (first_error p.others) fault s.before s.held cells (rows_before p.others) appends)

  -- an error
  pub streamed-fails : {old now : String Z} {later : I} (s began : Streaming) (all : List (Result (List Text) E)) (error : E) → Taken old now later s began (Err error) all → PrintsResults {U = U} began all old now (Err (Source error))
  streamed-fails {now} s began all error p = p.rest now (Err (Source error)) (refl, none-left now s.before s.held tt)

  -- the end
  end-streamed : {old now : String Z} {rows later : I} (new : String Z) (s began : Streaming) (all : List (Result (List Text) E)) (r : Result U (RowsFault E)) (items : List (Result (List Text) E)) → AlwaysGives (λ x y. view x ≡ y) steps rows items
      → ((new : String Z) (r : Result U (RowsFault E)) → PrintsResults s items now new r → PrintsResults began all old new r)
      → steps rows None later → PrintsResults s [] now new r → PrintsResults began all old new r
  end-streamed new s began all r [] left rest step p = rest new r p
  end-streamed new s began all r (y ∷ ys) left rest step p = absurd (left.0 _ step)

  pub streamed-ends : {old now : String Z} {rows later : I} (new : String Z) (s began : Streaming) (all : List (Result (List Text) E)) (r : Result U (RowsFault E)) → Streamed old now rows s began all → steps rows None later → PrintsResults s [] now new r
      → PrintsResults began all old new r
  streamed-ends new s began all r p step done = end-streamed new s began all r p.items p.left p.rest step done

-- ---- rows that a run of an iterator gave, and how what a stream appends follows from them, whatever else the iterator may give. The calls answer no
-- value

-- ---- the rows so far

module _ {Z : Type 0} where
  -- What rows behind these append is what all append: `began` is the stream before them, and `s` the one that holds the latest.
  pub record AllBehind (old now : String Z) (s began : Streaming) (rows : List (List Text)) : Type 0 where
    pub all : (more : List (List Text)) (new : String Z) (r : Result (Unit {0}) StreamFault) → PrintsRows s.before (rows_left s more) now new r → PrintsRows began.before (rows_left began (rows ++ more)) old new r
    pub but-latest : (more : List (List Text)) (new : String Z) (r : Result (Unit {0}) StreamFault) → PrintsButLatest s.before (rows_left s more) now new r → PrintsButLatest began.before (rows_left began (rows ++ more)) old new r

  pub none-behind : (old : String Z) (s : Streaming) → AllBehind old old s s []
  none-behind old s = record { all = λ more new r p. p; but-latest = λ more new r p. p }

  pub one-more : {V : Type 0} {old now after : String Z} {value : V} (s q began : Streaming) (rows : List (List Text)) (x : List Text) → AllBehind old now s began rows
      → AppendsIf (HeldFits s) s.before.rows (held_text s) now after (Ok value) → q ≡ after_push s x → AllBehind old after q began (rows ++ x ∷ [])
  one-more {old} {after} {value} s q began rows x p appends is = record {
    all = λ more new r done.
        subst (λ (l : List (List Text)). PrintsRows {U = Unit {0}} began.before (rows_left began l) old new r) (sym (append_assoc rows (x ∷ []) more))
        (p.all (x ∷ more) new r (push-goes r value s.before s.held x more appends (subst (λ (t : Streaming). PrintsRows {U = Unit {0}} t.before (rows_left t more) after new r) is done)));
    but-latest = λ more new r done.
        subst (λ (l : List (List Text)). PrintsButLatest {U = Unit {0}} began.before (rows_left began l) old new r) (sym (append_assoc rows (x ∷ []) more))
        (p.but-latest (x ∷ more) new r (push-goes-but-latest r value s.before s.held x more appends (subst (λ (t : Streaming). PrintsButLatest {U = Unit {0}} t.before (rows_left t more) after new r) is done)));
  }

  -- the row before the latest wasn't printed
  stopped-behind : {V : Type 0} {old now new : String Z} (s began : Streaming) (rows : List (List Text)) (x : List Text) (fault : StreamFault) → AllBehind old now s began rows
      → AppendsIf {U = V} (HeldFits s) s.before.rows (held_text s) now new (Err fault) → PrintsButLatest {U = Unit {0}} began.before (rows_left began (rows ++ x ∷ [])) old new (Err fault)
  stopped-behind {new} s began rows x fault p appends = p.but-latest (x ∷ []) new (Err fault) (push-stops-but-latest fault s.before s.held x [] appends)

  -- no row came behind the latest
  ended-behind : {old now new : String Z} (s began : Streaming) (rows : List (List Text)) (r : Result (Unit {0}) StreamFault) → AllBehind old now s began rows
      → PrintsRows s.before (rows_left s []) now new r → PrintsRows began.before (rows_left began rows) old new r
  ended-behind {old} {new} s began rows r p done = subst (λ (l : List (List Text)). PrintsRows {U = Unit {0}} began.before (rows_left began l) old new r) (append-nil rows) (p.all [] new r done)

-- ---- a run of rows

module _ {I A Z : Type 0} (view : A → List Text) (steps : I → Option A → I → Type 0) where
  pub run-goes : {V : Type 0} {old now after : String Z} {value : V} (items : List A) (s q began : Streaming) (x : A) → AllBehind old now s began (map view items)
      → AppendsIf (HeldFits s) s.before.rows (held_text s) now after (Ok value) → q ≡ after_push s (view x) → AllBehind old after q began (map view (items ++ x ∷ []))
  run-goes items s q began x p appends is = rw (map-append view items (x ∷ [])) (one-more s q began (map view items) (view x) p appends is)

  pub run-stops : {V : Type 0} {old now new : String Z} {rows at later : I} (items : List A) (s began : Streaming) (fault : StreamFault) (x : A) → Yields steps rows items at → AllBehind old now s began (map view items)
      → steps at (Some x) later → AppendsIf {U = V} (HeldFits s) s.before.rows (held_text s) now new (Err fault)
      → SomeRun steps rows (λ done. PrintsRun {U = Unit {0}} done.whole began.before (rows_left began (map view done.items)) old new (Err fault))
  run-stops {old} {new} {rows} {at} {later} items s began fault x ran p step appends = (
    run steps rows (items ++ x ∷ []) false (to_item steps rows later items x (at, ran, step)),
    refl,
    (refl, subst (λ (l : List (List Text)). PrintsButLatest {U = Unit {0}} began.before (rows_left began l) old new (Err fault)) (sym (map-append view items (x ∷ []))) (stopped-behind s began (map view items) (view x) fault p appends)),
  )

  pub run-ends : {old now new : String Z} {rows at later : I} (items : List A) (s began : Streaming) (r : Result (Unit {0}) StreamFault) → Yields steps rows items at → AllBehind old now s began (map view items)
      → steps at None later → PrintsRows s.before (rows_left s []) now new r → SomeRun steps rows (λ done. PrintsRun done.whole began.before (rows_left began (map view done.items)) old new r)
  run-ends {rows} {at} {later} items s began r ran p step done = (run steps rows items true (to_end steps rows items (later, (at, ran, step))), refl, ended-behind s began (map view items) r p done)

-- ---- items that may be errors, none of which is one yet

some-error : {E B : Type 0} (error : E) → Some error ≡ None → B
some-error {E} error is = absurd (true≢false (sym (ap (λ (o : Option E). is_none o) is)))

module _ {A E : Type 0} where
  none-more : (items : List (Result A E)) (next : A) → first_error items ≡ None → first_error (items ++ Ok next ∷ []) ≡ None
  none-more [] next none = refl
  none-more (Ok row ∷ items) next none = none-more items next none
  none-more (Err error ∷ items) next none = some-error error none

  rows-more : (items : List (Result A E)) (next : A) → first_error items ≡ None → rows_before (items ++ Ok next ∷ []) ≡ rows_before items ++ next ∷ []
  rows-more [] next none = refl
  rows-more (Ok row ∷ items) next none = ap (λ l. row ∷ l) (rows-more items next none)
  rows-more (Err error ∷ items) next none = some-error error none

  error-behind : (items : List (Result A E)) (error : E) → first_error items ≡ None → EndsInError error (items ++ Err error ∷ [])
  error-behind [] error none = (refl, refl)
  error-behind (Ok row ∷ items) error none = error-behind items error none
  error-behind (Err other ∷ items) error none = some-error other none

  rows-behind : (items : List (Result A E)) (error : E) → first_error items ≡ None → rows_before (items ++ Err error ∷ []) ≡ rows_before items
  rows-behind [] error none = refl
  rows-behind (Ok row ∷ items) error none = ap (λ l. row ∷ l) (rows-behind items error none)
  rows-behind (Err other ∷ items) error none = some-error other none

-- the items so far are rows, and what others append is what all do
pub record RowsBehind {Z E : Type 0} (old now : String Z) (s began : Streaming) (items : List (Result (List Text) E)) : Type 0 where
  pub none : first_error items ≡ None
  pub rows : AllBehind old now s began (rows_before items)

pub no-items : {Z E : Type 0} (old : String Z) (s : Streaming) → RowsBehind {E = E} old old s s []
no-items old s = record { none = refl; rows = none-behind old s }

-- ---- a run of such items

-- one more call
yields-more : {I A : Type 0} (steps : I → Option A → I → Type 0) (from : I) (items : List A) (at : I) (x : A) (later : I) → Yields steps from items at → steps at (Some x) later → Yields steps from (items ++ x ∷ []) later
yields-more {I} steps from [] at x later same step = (later, subst (λ (i : I). steps i (Some x) later) (sym same) step, refl)
yields-more steps from (y ∷ ys) at x later (next, first, rest) step = (next, first, yields-more steps next ys at x later rest step)

viewed : {A B : Type 0} (view : A → B) (items : List A) (x : A) (item : B) → view x ≡ item → map view (items ++ x ∷ []) ≡ map view items ++ item ∷ []
viewed {B} view items x item is = map-append view items (x ∷ []) ∙ ap (λ (i : B). map view items ++ i ∷ []) is

module _ {I A Z E : Type 0} (view : A → Result (List Text) E) (steps : I → Option A → I → Type 0) where
  -- the items that came so far
  pub record Ran (old now : String Z) (s began : Streaming) (from at : I) : Type 0 where
    pub items : List A
    pub gave : Yields steps from items at
    pub behind : RowsBehind old now s began (map view items)

  pub none-ran : (old : String Z) (s : Streaming) (from : I) → Ran old old s s from from
  none-ran old s from = record { items = []; gave = refl; behind = no-items old s }

  -- what a call prints of the run that it made
  abbrev PrintsRan : String Z → String Z → Streaming → I → I → Result (Unit {0}) (RowsFault E) → Type 0
  PrintsRan old new began from at result = SomeRun steps from (λ run. PrintsResultsRun run.whole began (map view run.items) old new result × IsLeftAt steps from run.items run.whole at)

  pub results-go-on : {V : Type 0} {old now after : String Z} {value : V} {from at later : I} (s q began : Streaming) (x : A) (cells : List Text) → Ran old now s began from at → steps at (Some x) later → view x ≡ Ok cells
      → AppendsIf (HeldFits s) s.before.rows (held_text s) now after (Ok value) → q ≡ after_push s cells → Ran old after q began from later
  results-go-on {old} {after} {from} {at} {later} s q began x cells p step is appends next =
      let told : RowsBehind old after q began (map view p.items ++ Ok cells ∷ []) = record {
        none = none-more (map view p.items) cells p.behind.none;
        rows = rw (rows-more (map view p.items) cells p.behind.none) (one-more s q began (rows_before (map view p.items)) cells p.behind.rows appends next);
      } in
      record { items = p.items ++ x ∷ []; gave = yields-more steps from p.items at x later p.gave step; behind = rw (viewed view p.items x (Ok cells) is) told }

  -- the row before the latest wasn't printed
  pub results-stop : {V : Type 0} {old now new : String Z} {from at later : I} (s began : Streaming) (fault : StreamFault) (x : A) (cells : List Text) → Ran old now s began from at
      → steps at (Some x) later → view x ≡ Ok cells → AppendsIf {U = V} (HeldFits s) s.before.rows (held_text s) now new (Err fault) → PrintsRan old new began from later (Err (Stream fault))
  results-stop {old} {new} {from} {at} {later} s began fault x cells p step is appends =
      let told : PrintsResultsRun {U = Unit {0}} false began (map view p.items ++ Ok cells ∷ []) old new (Err (Stream fault)) = (
        none-more (map view p.items) cells p.behind.none,
        rw (rows-more (map view p.items) cells p.behind.none) (stopped-behind s began (rows_before (map view p.items)) cells fault p.behind.rows appends),
      ) in (
        run steps from (p.items ++ x ∷ []) false (to_item steps from later p.items x (at, p.gave, step)),
        refl,
        (subst (λ (l : List (Result (List Text) E)). PrintsResultsRun {U = Unit {0}} false began l old new (Err (Stream fault))) (sym (viewed view p.items x (Ok cells) is)) told, yields-more steps from p.items at x later p.gave step),
      )

  -- the latest is an error
  pub results-fail : {old now : String Z} {from at later : I} (s began : Streaming) (error : E) (x : A) → Ran old now s began from at → steps at (Some x) later → view x ≡ Err error → PrintsRan old now began from later (Err (Source error))
  results-fail {old} {now} {from} {at} {later} s began error x p step is =
      let none : PrintsButLatest {U = Unit {0}} s.before (rows_left s []) now now (Ok tt) = none-left now s.before s.held tt in
      let printed : PrintsButLatest {U = Unit {0}} began.before (rows_left began (rows_before (map view p.items))) old now (Ok tt) =
      subst (λ (l : List (List Text)). PrintsButLatest {U = Unit {0}} began.before (rows_left began l) old now (Ok tt)) (append-nil (rows_before (map view p.items))) (p.behind.rows.but-latest [] now (Ok tt) none) in
      let told : PrintsResultsRun {U = Unit {0}} false began (map view p.items ++ Err error ∷ []) old now (Err (Source error)) = (
        error-behind (map view p.items) error p.behind.none,
        rw (rows-behind (map view p.items) error p.behind.none) printed,
      ) in (
        run steps from (p.items ++ x ∷ []) false (to_item steps from later p.items x (at, p.gave, step)),
        refl,
        (subst (λ (l : List (Result (List Text) E)). PrintsResultsRun {U = Unit {0}} false began l old now (Err (Source error))) (sym (viewed view p.items x (Err error) is)) told, yields-more steps from p.items at x later p.gave step),
      )

  -- no item came behind the latest
  pub results-end-ok : {old now new : String Z} {from at later : I} (s began : Streaming) → Ran old now s began from at → steps at None later → PrintsRows {U = Unit {0}} s.before (rows_left s []) now new (Ok tt) → PrintsRan old new began from later (Ok tt)
  results-end-ok {from} {at} {later} s began p step done = (
    run steps from p.items true (to_end steps from p.items (later, (at, p.gave, step))),
    refl,
    ((p.behind.none, ended-behind s began (rows_before (map view p.items)) (Ok tt) p.behind.rows done), (at, p.gave, step)),
  )

  pub results-end-err : {old now new : String Z} {from at later : I} (s began : Streaming) (fault : StreamFault) → Ran old now s began from at → steps at None later → PrintsRows {U = Unit {0}} s.before (rows_left s []) now new (Err fault)
      → PrintsRan old new began from later (Err (Stream fault))
  results-end-err {from} {at} {later} s began fault p step done = (
    run steps from p.items true (to_end steps from p.items (later, (at, p.gave, step))),
    refl,
    ((p.behind.none, ended-behind s began (rows_before (map view p.items)) (Err fault) p.behind.rows done), (at, p.gave, step)),
  )

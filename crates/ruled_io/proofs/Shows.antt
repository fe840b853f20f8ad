-- What is shown of rows: of all of them at once, or of some as they come, of which the first are known.
use Rattle.std.proofs.Common.{◌≡◌, ◌∙◌, ◌<◌, ◌≤◌, ℕ, Bool, true, false, List, [], ◌∷◌, ◌++◌, Option, Some, None, is_some, Result, Ok, Err, OnErr, OnOk, drop, length, map, refl, sym, ap}
use Rattle.std.proofs.Common.{subst, arith, inl, inr, ◌+◌, ◌&&◌, zero, suc, length-append, take, nat_lt, append-nil}
use Rattle.std.specs.Prelude.{◌==◌, IfErr, IfOk, not, IfSome, if◌then◌else◌, option_map}
use Rattle.std.specs.List.{flat_map}
use Rattle.std.specs.Option.{option_or}
use Rattle.std.specs.Io.KnownBytes.{Appends, Keeps}
use Rattle.std.specs.Result.{IsErrAnd, result_and, result_err}
use Rattle.std.proofs.KnownBytes.{Appends-nil, Appends-trans, Keeps-refl, Appends-kept}
use Rattle.std.proofs.lemmas.Bool.{false≢true, true≢false, cases_Bool, eqb-true, le-ltb, ltb-false}
use Rattle.std.proofs.lemmas.Bool.Decides.{nat_tests}
use Rattle.pg_layout.specs.Text.{Text}
use Rattle.ruled_table.specs.RowLines.{HasAppended, begun_text}
use Rattle.ruled_table.specs.View.{blocks_fault, blocks_text, record_block, record_fault, records_fault, all_excess, all_fault, all_text, excess_of, measured_fault, shows_blocks}
use Rattle.ruled_table.specs.View.{table_fault, whole_fault, whole_table}
use Rattle.ruled_table.specs.Tables as tables
use Rattle.ruled_table.specs.Columns.{column_fault}
use Rattle.ruled_table.specs.Layouts.{colored, layout_fault, layout_of, start_fault, whole_text, Plan, is_always, is_in_blocks, leaves_columns_out, first_fault}
use Rattle.ruled_table.specs.Arranged.{arranged, chosen_fault, chosen_rows, sort_fault}
use Rattle.ruled_table.specs.declared.view.ViewFault.{ViewFault}
use Rattle.ruled_table.specs.declared.view.ViewFault.TheVariants as view
use Rattle.ruled_table.specs.declared.options.Options.{Options}
use Rattle.ruled_table.specs.declared.options.Vertical.{Vertical}
use Rattle.ruled_table.specs.declared.options.Vertical.TheVariants.{Always, IfOmitting, Never}
use Rattle.ruled_table.specs.declared.table_rows.TableRows.{TableRows}
use Rattle.ruled_io.specs.Faults.{is_early, is_of_write, is_read, of_view, read_part, but_line, but_line_in, is_failure, Begins, TellsWrite, failure_in}
use Rattle.ruled_io.specs.Reading.{GoesTo, ReportsRead}
use Rattle.ruled_io.specs.Stream.{Draws, DrawsInMemory, EndsBelow, Nears, WritesRows, Grows, IsEnough, wrong_within, AreStreamed, StreamsAll, streamed_count, Ends, first_layout}
use Rattle.ruled_io.specs.Stream.{first_remarks, first_wrong, lines_in, first_plan, shown_text}
use Rattle.ruled_io.specs.declared.fault.ReadFault.{ReadFault}
use Rattle.ruled_io.specs.declared.fault.RunFault.{RunFault}
use Rattle.ruled_io.specs.declared.fault.RunFault.TheVariants.{Input, Read, Closed, Write}
use Rattle.ruled_table.proofs.Tables.{chosen-named as tables-named}
use Rattle.ruled_io.proofs.Fronts.{begun-none, begun-whole, begins-behind, begins-longer, begins-none, grows-more, nears-more, nears-on, Goes, goes-end, goes-on, whole-none, begins-kept}
use Rattle.ruled_io.proofs.Fronts.{and-false}
use Rattle.ruled_io.specs.Runs.{AreRemarks, CausedAtOnce, CausedBy, RemarksAll, RemarksBy, ShowsAll, ShowsBy}
use Rattle.ruled_io.specs.declared.program.Remarks.{Remarks}
use Rattle.ruled_io.specs.declared.request.Request.{Request}
use Rattle.ruled_io.specs.declared.request.Rows.{Rows}
use Rattle.ruled_io.specs.declared.request.Rows.TheVariants.{AtOnce, FromFirst}
use Rattle.std.proofs.lemmas.List.{nil_from_length, take-append-le}
use Rattle.ruled_table.specs.Tables.{is_memory as is_lost}
use Rattle.ruled_io.specs.declared.fault.InputFault.{InputFault}
use Rattle.ruled_io.specs.declared.reader.Reading.{Reading}
use Rattle.ruled_io.specs.declared.reader.Reading.TheVariants.{More, Stored, Done}
use Rattle.ruled_io.proofs.Tables.{goes-behind}

-- ---- rows that are written when all of them are there

-- ---- faults

pub of-write : (fault : RunFault) → is_of_write fault ≡ true → (is_read fault ≡ false) × (is_early fault ≡ false)
of-write (Input fault) failed = absurd (false≢true failed)
of-write (Read fault) failed = absurd (false≢true failed)
of-write Closed failed = (refl, refl)
of-write Write failed = (refl, refl)

-- what is drawn of what is in memory is drawn
pub draws-so : {X : Type 0} (text : Text) (wrong : Option ViewFault) (old new : Option (List ℕ)) (result : Result X RunFault) → DrawsInMemory text wrong old new result → Draws text wrong old new result
draws-so text wrong old new (Ok x) drawn = drawn
draws-so text wrong old new (Err (Input fault)) (read, early, begun) = (λ soft. absurd (true≢false (sym (ap not soft) ∙ early)), λ lost. begun)
draws-so text wrong old new (Err (Read fault)) (read, early, begun) = absurd (true≢false read)
draws-so text wrong old new (Err Closed) (read, early, begun) = begun
draws-so text wrong old new (Err Write) (read, early, begun) = begun

-- what no read has
pub writes-only : {X : Type 0} (result : Result X RunFault) → ((fault : RunFault) → result ≡ Err fault → is_of_write fault ≡ true) → IfErr result (λ fault. is_read fault ≡ false)
writes-only (Ok x) failed = tt
writes-only (Err fault) failed = (of-write fault (failed fault refl)).0

-- where no read failed, none is reported
pub no-read : {X : Type 0} (failed : Option ReadFault) (result : Result X RunFault) → IfErr result (λ fault. is_read fault ≡ false) → ReportsRead failed result
no-read failed (Ok x) unread = tt
no-read failed (Err fault) unread = λ read. absurd (true≢false (sym read ∙ unread))

-- a fault that is handed on reports what it did
pub read-handed : {X : Type 0} (failed : Option ReadFault) (found : RunFault) (result : Result X RunFault) → IsErrAnd result (λ fault. fault ≡ found) → (is_read found ≡ true → failed ≡ read_part found) → ReportsRead failed result
read-handed failed found (Ok x) is noted = absurd is
read-handed failed found (Err fault) is noted = λ read. noted (sym (ap is_read is) ∙ read) ∙ sym (ap read_part is)

pub write-handed : {X : Type 0} (failed : Option ReadFault) (found : RunFault) (result : Result X RunFault) → is_of_write found ≡ true → IsErrAnd result (λ fault. fault ≡ found) → ReportsRead failed result
write-handed failed found result writes is = read-handed failed found result is (λ read. absurd (true≢false (sym read ∙ (of-write found writes).0)))

pub draws-unread : (X : Type 0) (failed : Option ReadFault) (text : Text) (wrong : Option ViewFault) (old new : Option (List ℕ)) (found : RunFault) → Draws text wrong old new {X = X} (Err found) → is_read found ≡ true → failed ≡ read_part found
draws-unread X failed text wrong old new (Input fault) draws read = absurd (false≢true read)
draws-unread X failed text wrong old new (Read fault) draws read = absurd draws
draws-unread X failed text wrong old new Closed draws read = absurd (false≢true read)
draws-unread X failed text wrong old new Write draws read = absurd (false≢true read)

-- what a result says of a read, its fault does
pub read-noted : {X : Type 0} (failed : Option ReadFault) (result : Result X RunFault) → ReportsRead failed result → IfSome (result_err result) (λ fault. is_read fault ≡ true → failed ≡ read_part fault)
read-noted failed (Ok x) noted = tt
read-noted failed (Err fault) noted = noted

-- a text is written
pub written-draws : {X : Type 0} (text bytes : Text) (wrong : Option ViewFault) (old new : Option (List ℕ)) (result : Result X RunFault) → bytes ≡ text → wrong ≡ None → OnOk result (Appends old new bytes) → OnErr result (Begins old new bytes)
    → ((fault : RunFault) → result ≡ Err fault → is_of_write fault ≡ true) → DrawsInMemory text wrong old new result
written-draws text bytes wrong old new (Ok x) same fine wrote begun failed = (fine, subst (Appends old new) same wrote)
written-draws text bytes wrong old new (Err fault) same fine wrote begun failed = let (read, early) = of-write fault (failed fault refl) in (read, early, subst (Begins old new) same begun)

-- before anything is drawn
found-draws : (X : Type 0) (text : Text) (wrong : Option ViewFault) (old : Option (List ℕ)) (found : ViewFault) → (tables.is_memory found ≡ false → wrong ≡ Some found) → Draws text wrong old old {X = X} (Err (of_view found))
found-draws X text wrong old (view.Column name) right = (λ soft. (rw (right refl) refl, Keeps-refl old), λ lost. absurd (false≢true lost))
found-draws X text wrong old view.Sort right = (λ soft. (rw (right refl) refl, Keeps-refl old), λ lost. absurd (false≢true lost))
found-draws X text wrong old view.Totals right = (λ soft. (rw (right refl) refl, Keeps-refl old), λ lost. absurd (false≢true lost))
found-draws X text wrong old view.Memory right = (λ soft. absurd (true≢false soft), λ lost. begins-none old old text (Keeps-refl old))

pub view-draws : {X : Type 0} (text : Text) (wrong : Option ViewFault) (old : Option (List ℕ)) (found : ViewFault) (result : Result X RunFault) → (tables.is_memory found ≡ false → wrong ≡ Some found) → IsErrAnd result (λ fault. fault ≡ of_view found)
    → Draws text wrong old old result
view-draws text wrong old found (Ok x) right is = absurd is
view-draws {X} text wrong old found (Err fault) right is = subst (λ (f : RunFault). Draws text wrong old old {X = X} (Err f)) (sym is) (found-draws X text wrong old found right)

-- ---- a table

module _ (options : Options) (plan : Plan) (rows : List (List Text)) where
  -- its lines are a beginning of its text
  pub lines-begun : (table : TableRows) (old new : Option (List ℕ)) → HasAppended options plan [] table → Nears (begun_text options plan []) (begun_text options plan rows) old new → Begins old new (whole_text options plan rows)
  lines-begun table old new has near =
      let (more, is, begun) = nears-on (begun_text options plan []) (begun_text options plan rows) (whole_text options plan rows) old new near (begun-whole options plan [] table rows has) in
      subst (Begins old new) (ap (λ (t : Text). t ++ more) (sym (begun-none options plan)) ∙ is) begun

  -- behind them is its end
  pub end-lines : {X : Type 0} (old mid new : Option (List ℕ)) (result : Result X RunFault) → WritesRows options plan [] rows old mid → EndsBelow options plan rows None rows mid new result → OnOk result (Appends old new (whole_text options plan rows))
  end-lines old mid new (Ok x) wrote (none, grown) =
      let (more, is, appends) = grows-more (begun_text options plan []) (begun_text options plan rows) (whole_text options plan rows) old mid new wrote grown in
      subst (Appends old new) (ap (λ (t : Text). t ++ more) (sym (begun-none options plan)) ∙ is) appends
  end-lines old mid new (Err fault) wrote ends = tt

  pub end-begun : {X : Type 0} (old mid new : Option (List ℕ)) (result : Result X RunFault) → WritesRows options plan [] rows old mid → EndsBelow options plan rows None rows mid new result → OnErr result (Begins old new (whole_text options plan rows))
  end-begun old mid new (Ok x) wrote ends = tt
  end-begun old mid new (Err fault) wrote (near, cause) =
      let (more, is, begun) = nears-more (begun_text options plan []) (begun_text options plan rows) (whole_text options plan rows) old mid new wrote near in
      subst (Begins old new) (ap (λ (t : Text). t ++ more) (sym (begun-none options plan)) ∙ is) begun

-- of no rows nothing is drawn
none-wrong : (v : Vertical) (options : Options) (turned : Bool) → option_or (measured_fault v options []) (if turned then blocks_fault options [] else whole_fault options []) ≡ None
none-wrong Never options true = refl
none-wrong Never options false = refl
none-wrong IfOmitting options true = refl
none-wrong IfOmitting options false = refl
none-wrong Always options true = refl
none-wrong Always options false = refl

none-shown : (options : Options) (turned : Bool) → (if turned then blocks_text options [] else whole_table options []) ≡ []
none-shown options true = refl
none-shown options false = refl

pub none-draws : (options : Options) (rows : List (List Text)) (old : Option (List ℕ)) → rows ≡ [] → (all_fault options rows ≡ None) × Appends old old (all_text options rows)
none-draws options rows old none =
    rw none (none-wrong options.vertical options (shows_blocks options []), subst (Appends old old) (sym (none-shown options (shows_blocks options []))) (Appends-nil old))

-- blocks that are always shown
always-by : (v : Vertical) (options : Options) (rows : List (List Text)) → is_always v ≡ true
    → (blocks_text options rows ≡ (if is_in_blocks v (layout_of options rows) then blocks_text options rows else whole_table options rows))
    × (blocks_fault options rows ≡ option_or (measured_fault v options rows) (if is_in_blocks v (layout_of options rows) then blocks_fault options rows else whole_fault options rows))
always-by Never options rows always = absurd (false≢true always)
always-by IfOmitting options rows always = absurd (false≢true always)
always-by Always options rows always = (refl, refl)

pub always-blocks : (options : Options) (rows : List (List Text)) → is_always options.vertical ≡ true → (blocks_text options rows ≡ all_text options rows) × (blocks_fault options rows ≡ all_fault options rows)
always-blocks options rows always = always-by options.vertical options rows always

in-blocks : (v : Vertical) (plan : Plan) → is_always v ≡ true → is_in_blocks v plan ≡ true
in-blocks Never plan always = absurd (false≢true always)
in-blocks IfOmitting plan always = absurd (false≢true always)
in-blocks Always plan always = refl

pub blocks-always : (options : Options) (rows : List (List Text)) → is_always options.vertical ≡ true → shows_blocks options rows ≡ true
blocks-always options rows always = in-blocks options.vertical (layout_of options rows) always

-- of other rows what is wrong with their layout comes first
once-wrong : {X : Type 0} (first : Option X) (turned : Bool) (blocks table : Option X) → option_or first (if turned then blocks else option_or first table) ≡ option_or first (if turned then blocks else table)
once-wrong None true blocks table = refl
once-wrong None false blocks table = refl
once-wrong (Some x) turned blocks table = refl

measured-by : (v : Vertical) (options : Options) (rows : List (List Text)) → 0 < length rows → is_always v ≡ false
    → option_or (measured_fault v options rows) (if is_in_blocks v (layout_of options rows) then blocks_fault options rows else whole_fault options rows)
    ≡ option_or (layout_fault options rows) (if is_in_blocks v (layout_of options rows) then blocks_fault options rows else start_fault (layout_of options rows))
measured-by v options [] some never = absurd (omega (arith, some))
measured-by Never options (row ∷ rows) some never = refl
measured-by IfOmitting options (row ∷ rows) some never =
    once-wrong (layout_fault options (row ∷ rows)) (leaves_columns_out (layout_of options (row ∷ rows))) (blocks_fault options (row ∷ rows)) (start_fault (layout_of options (row ∷ rows)))
measured-by Always options (row ∷ rows) some never = absurd (true≢false never)

pub measured-wrong : (options : Options) (rows : List (List Text)) → 0 < length rows → is_always options.vertical ≡ false
    → all_fault options rows ≡ option_or (layout_fault options rows) (if shows_blocks options rows then blocks_fault options rows else start_fault (layout_of options rows))
measured-wrong options rows some never = measured-by options.vertical options rows some never

-- ---- blocks

module _ (options : Options) (names : List (List Text)) where
  -- so much is written of the blocks of records, of which these are left
  abbrev pub Blocked : List (List Text) → List (List Text) → Option (List ℕ) → Option (List ℕ) → Type 0
  Blocked all rest old new = Goes old new (flat_map (record_block options names) all) (flat_map (record_block options names) rest) × (records_fault options names rest ≡ records_fault options names all)

  pub blocked-begin : (all : List (List Text)) (old : Option (List ℕ)) → Blocked all all old old
  blocked-begin all old = (([], refl, Appends-nil old), refl)

  pub blocked-on : (all rest : List (List Text)) (row : List Text) (old mid new : Option (List ℕ)) → Blocked all (row ∷ rest) old mid → (record_fault options names row ≡ None) × Appends mid new (record_block options names row) → Blocked all rest old new
  blocked-on all rest row old mid new (goes, faults) (fine, wrote) = (
    goes-on old mid new (flat_map (record_block options names) all) (flat_map (record_block options names) (row ∷ rest)) (record_block options names row) (flat_map (record_block options names) rest) goes refl wrote,
    ap (λ (f : Option ViewFault). option_or f (records_fault options names rest)) (sym fine) ∙ faults,
  )

  pub blocked-stops : (all rest : List (List Text)) (row : List Text) (old mid new : Option (List ℕ)) (fault : RunFault) → Blocked all (row ∷ rest) old mid
      → DrawsInMemory (record_block options names row) (record_fault options names row) mid new {X = Unit {0}} (Err fault) → DrawsInMemory (flat_map (record_block options names) all) (records_fault options names all) old new {X = Unit {0}} (Err fault)
  blocked-stops all rest row old mid new fault ((done, is, wrote), faults) (read, early, begun) =
      let block : Text = record_block options names row in
      let more : Text = flat_map (record_block options names) rest in
      (read, early, subst (Begins old new) (sym is) (begins-behind old mid new done (block ++ more) wrote (begins-longer mid new block more begun)))

  pub blocked-end : (all rest : List (List Text)) (old new : Option (List ℕ)) → rest ≡ [] → Blocked all rest old new → (records_fault options names all ≡ None) × Appends old new (flat_map (record_block options names) all)
  blocked-end all rest old new none (goes, faults) =
      (sym faults ∙ ap (records_fault options names) none, goes-end old new (flat_map (record_block options names) all) (flat_map (record_block options names) rest) goes (ap (flat_map (record_block options names)) none))

  pub blocked-handed : (all rest : List (List Text)) (row : List Text) (old mid new : Option (List ℕ)) (found : RunFault) (result : Result (Unit {0}) RunFault) → Blocked all (row ∷ rest) old mid
      → DrawsInMemory (record_block options names row) (record_fault options names row) mid new {X = Unit {0}} (Err found) → IsErrAnd result (λ fault. fault ≡ found)
      → DrawsInMemory (flat_map (record_block options names) all) (records_fault options names all) old new result
  blocked-handed all rest row old mid new found (Ok x) blocked draws is = absurd is
  blocked-handed all rest row old mid new found (Err fault) blocked draws is =
      subst (λ (f : RunFault). DrawsInMemory (flat_map (record_block options names) all) (records_fault options names all) old new {X = Unit {0}} (Err f)) (sym is) (blocked-stops all rest row old mid new found blocked draws)

-- ---- the table of all rows

pub whole-draws : {X : Type 0} (options : Options) (plan : Plan) (rows : List (List Text)) (wrong : Option ViewFault) (old new : Option (List ℕ)) (result : Result X RunFault) → plan ≡ layout_of options rows → wrong ≡ None
    → DrawsInMemory (whole_text options (colored options rows plan) rows) None old new result → Draws (whole_table options rows) wrong old new result
whole-draws options plan rows wrong old new result laid none draws =
    let given : Text = whole_text options (colored options rows plan) rows in
    let text : given ≡ whole_table options rows = ap (λ (p : Plan). whole_text options (colored options rows p) rows) laid in
    let so : Draws given None old new result = draws-so given None old new result draws in
    subst (λ (w : Option ViewFault). Draws (whole_table options rows) w old new result) (sym none) (subst (λ (t : Text). Draws t None old new result) text so)

-- where a text ends before its end, so does a longer one
draws-longer : (X : Type 0) (text more : Text) (wrong : Option ViewFault) (old new : Option (List ℕ)) (fault : RunFault) → Draws text wrong old new {X = X} (Err fault) → Draws (text ++ more) wrong old new {X = X} (Err fault)
draws-longer X text more wrong old new (Input fault) (soft, lost) = (soft, λ memory. begins-longer old new text more (lost memory))
draws-longer X text more wrong old new (Read fault) drawn = drawn
draws-longer X text more wrong old new Closed begun = begins-longer old new text more begun
draws-longer X text more wrong old new Write begun = begins-longer old new text more begun

pub draws-handed : {X : Type 0} (text more : Text) (wrong : Option ViewFault) (old new : Option (List ℕ)) (found : RunFault) (result : Result X RunFault) → Draws text wrong old new {X = X} (Err found) → IsErrAnd result (λ fault. fault ≡ found)
    → Draws (text ++ more) wrong old new result
draws-handed text more wrong old new found (Ok x) drawn is = absurd is
draws-handed {X} text more wrong old new found (Err fault) drawn is = subst (λ (f : RunFault). Draws (text ++ more) wrong old new {X = X} (Err f)) (sym is) (draws-longer X text more wrong old new found drawn)

-- and where it is drawn, what is written behind it makes the longer one
pub draws-behind : {X : Type 0} (text more bytes : Text) (wrong : Option ViewFault) (old mid new : Option (List ℕ)) (result : Result X RunFault) → wrong ≡ None → Appends old mid text → bytes ≡ more
    → OnOk result (Appends mid new bytes) → OnErr result (Begins mid new bytes) → ((fault : RunFault) → result ≡ Err fault → is_of_write fault ≡ true) → Draws (text ++ more) wrong old new result
draws-behind text more bytes wrong old mid new (Ok x) fine drawn is wrote begun failed = (fine, Appends-trans old mid new text more drawn (subst (Appends mid new) is wrote))
draws-behind {X} text more bytes wrong old mid new (Err fault) fine drawn is wrote begun failed =
    draws-so {X = X} (text ++ more) wrong old new (Err fault)
    (let (read, early) = of-write fault (failed fault refl) in (read, early, begins-behind old mid new text more drawn (subst (Begins mid new) is begun)))

-- what is drawn stays drawn where something is returned with it
with-more : {X Y : Type 0} (text : Text) (wrong : Option ViewFault) (old new : Option (List ℕ)) (answer : Result X RunFault) (y : Y) → Draws text wrong old new answer → Draws text wrong old new (result_and answer (Ok y))
with-more text wrong old new (Ok x) y drawn = drawn
with-more text wrong old new (Err (Input fault)) y drawn = drawn
with-more text wrong old new (Err (Read fault)) y drawn = drawn
with-more text wrong old new (Err Closed) y drawn = drawn
with-more text wrong old new (Err Write) y drawn = drawn

pub draws-with : {X Y : Type 0} (text : Text) (wrong : Option ViewFault) (old new : Option (List ℕ)) (answer : Result X RunFault) (y : Y) (result : Result Y RunFault) → result ≡ result_and answer (Ok y)
    → Draws text wrong old new answer → Draws text wrong old new result
draws-with {X} {Y} text wrong old new answer y result is drawn = subst (λ (r : Result Y RunFault). Draws text wrong old new r) (sym is) (with-more text wrong old new answer y drawn)

same-failure : {X Y : Type 0} (answer : Result X RunFault) (y : Y) → failure_in answer ≡ failure_in (result_and answer (Ok y))
same-failure (Ok x) y = refl
same-failure (Err fault) y = refl

pub told-with : {X Y : Type 0} (old new : Option RunFault) (answer : Result X RunFault) (y : Y) (result : Result Y RunFault) → result ≡ result_and answer (Ok y) → TellsWrite old new answer → TellsWrite old new result
told-with {X} {Y} old new answer y result is told = λ none. told none ∙ same-failure answer y ∙ sym (ap (λ (r : Result Y RunFault). failure_in r) is)

noted-more : {X Y : Type 0} (failure : Option ReadFault) (answer : Result X RunFault) (y : Y) → ReportsRead failure answer → ReportsRead failure (result_and answer (Ok y))
noted-more failure (Ok x) y noted = tt
noted-more failure (Err fault) y noted = noted

pub noted-with : {X Y : Type 0} (failure : Option ReadFault) (answer : Result X RunFault) (y : Y) (result : Result Y RunFault) → result ≡ result_and answer (Ok y) → ReportsRead failure answer → ReportsRead failure result
noted-with {X} {Y} failure answer y result is noted = subst (λ (r : Result Y RunFault). ReportsRead failure r) (sym is) (noted-more failure answer y noted)

value-with : {X Y : Type 0} (answer : Result X RunFault) (y right : Y) → y ≡ right → IfOk (result_and answer (Ok y)) (λ value. value ≡ right)
value-with (Ok x) y right is = is
value-with (Err fault) y right is = tt

pub returned-with : {X Y : Type 0} (answer : Result X RunFault) (y right : Y) (result : Result Y RunFault) → result ≡ result_and answer (Ok y) → y ≡ right → IfOk result (λ value. value ≡ right)
returned-with {X} {Y} answer y right result so is = subst (λ (r : Result Y RunFault). IfOk r (λ value. value ≡ right)) (sym so) (value-with answer y right is)

-- how wide the lines of a table are, if that is more than the width that is set
pub none-excess : (options : Options) (rows : List (List Text)) → length rows ≡ 0 → None ≡ all_excess options rows
none-excess options rows none = rw none refl

either-same : {X : Type 0} (b : Bool) (x : X) → x ≡ (if b then x else x)
either-same true x = refl
either-same false x = refl

pub blocks-excess : (options : Options) (rows : List (List Text)) → shows_blocks options rows ≡ true → None ≡ all_excess options rows
blocks-excess options rows turned = rw turned (either-same (length rows == 0) None)

-- neither of two tests holds
last-of : (a b : Bool) (x : Option ℕ) → a ≡ false → b ≡ false → x ≡ (if a then None else if b then None else x)
last-of true b x none flat = absurd (false≢true (sym none))
last-of false true x none flat = absurd (false≢true (sym flat))
last-of false false x none flat = refl

pub excess-measured : (options : Options) (rows : List (List Text)) (plan : Plan) (wide : Option ℕ) → 0 < length rows → shows_blocks options rows ≡ false → plan ≡ layout_of options rows → wide ≡ excess_of options.bounds.width plan → wide ≡ all_excess options rows
excess-measured options [] plan wide some flat laid is = absurd (omega (arith, some))
excess-measured options (row ∷ rows) plan wide some flat laid is =
    let none : (length (row ∷ rows) == 0) ≡ false = grind (arith, nat_tests) in
    is ∙ ap (excess_of options.bounds.width) laid ∙ last-of (length (row ∷ rows) == 0) (shows_blocks options (row ∷ rows)) _ none flat

pub same-draws : {X : Type 0} (text same : Text) (wrong right : Option ViewFault) (old new : Option (List ℕ)) (result : Result X RunFault) → text ≡ same → wrong ≡ right → Draws text wrong old new result → Draws same right old new result
same-draws text same wrong right old new result is told drawn = subst (λ (w : Option ViewFault). Draws same w old new result) told (subst (λ (t : Text). Draws t wrong old new result) is drawn)

-- what is wrong with rows of which no word for a column is wrong
pub wrong-shown : (options : Options) (all rows : List (List Text)) → rows ≡ chosen_rows options all → chosen_fault options all ≡ None → all_fault options rows ≡ table_fault options all
wrong-shown options all rows are named = ap (all_fault options) are ∙ ap (λ (f : Option ViewFault). option_or f (all_fault options (chosen_rows options all))) (sym named)

-- those that are shown have the columns of all
pub chosen-named : (options : Options) (all rows : List (List Text)) → rows ≡ chosen_rows options all → chosen_fault options all ≡ None → column_fault options.columns.items rows ≡ None
chosen-named options all rows are none = ap (column_fault options.columns.items) are ∙ tables-named options all (second-none (sort_fault options all) (column_fault options.columns.items (arranged options all)) none)
  where
    second-none : {X : Type 0} (first second : Option X) → option_or first second ≡ None → second ≡ None
    second-none None second none = none
    second-none (Some x) second none = absurd (cc)

-- a row less
pub drop-one : {X Y : Type 0} (f : X → Y) (xs : List X) → map f (drop 1 xs) ≡ drop 1 (map f xs)
drop-one f [] = refl
drop-one f (x ∷ xs) = refl

-- ---- a run at once, and one row by row, as a request asks for them

module _ {X : Type 0} (given old new : Option (List ℕ)) (request : Request) (r : Result X RunFault) where
  abbrev ShowsText : Rows → Type 0
  ShowsText rows = OnOk r (IfSome given (λ bytes. (text : Text) × ShowsBy rows request bytes text × Appends old new text))

  abbrev EndsBefore : Rows → Type 0
  EndsBefore rows = IfErr r (λ fault. IfSome given (λ bytes. CausedBy rows request bytes fault old new))

  pub once-shown : request.rows ≡ AtOnce → OnOk r (IfSome given (λ bytes. (text : Text) × ShowsAll request bytes text × Appends old new text)) → ShowsText request.rows
  once-shown is shows = subst ShowsText (sym is) shows

  pub once-caused : request.rows ≡ AtOnce → IfErr r (λ fault. IfSome given (λ bytes. CausedAtOnce request bytes fault old new)) → EndsBefore request.rows
  once-caused is ends = subst EndsBefore (sym is) ends

-- where nothing is wrong with the rows of a stream, all of them are shown
fine-streams : (old new : Option (List ℕ)) (request : Request) (count : ℕ) (bytes : List ℕ) (remarks : Remarks) → StreamsAll request count bytes old new (Ok remarks)
    → (rows : List (List Text)) × AreStreamed request count bytes rows None × Ends request.view (streamed_count request count bytes) rows None old new (Ok remarks)
fine-streams old new request count bytes remarks (rows, None, are, ends) = (rows, are, ends)
fine-streams old new request count bytes remarks (rows, Some fault, are, ends) = absurd (true≢false (ap (λ (o : Option InputFault). is_some o) ends.1))

streamed-text : (given old new : Option (List ℕ)) (request : Request) (count : ℕ) (r : Result Remarks RunFault) → IfSome given (λ bytes. StreamsAll request count bytes old new r) → ShowsText given old new request r (FromFirst count)
streamed-text None old new request count (Ok x) streams = tt
streamed-text (Some bytes) old new request count (Ok x) streams =
    let (rows, are, (right, none, wrote, is)) = fine-streams old new request count bytes x streams in
    (shown_text request.view (streamed_count request count bytes) rows None, (rows, are, right, refl), wrote)
streamed-text given old new request count (Err fault) streams = tt

streamed-cause : (given old new : Option (List ℕ)) (request : Request) (count : ℕ) (r : Result Remarks RunFault) → IfSome given (λ bytes. StreamsAll request count bytes old new r) → EndsBefore given old new request r (FromFirst count)
streamed-cause given old new request count (Ok x) streams = tt
streamed-cause None old new request count (Err fault) streams = tt
streamed-cause (Some bytes) old new request count (Err fault) streams = streams

pub rows-shown : (given old new : Option (List ℕ)) (request : Request) (count : ℕ) (r : Result Remarks RunFault) → request.rows ≡ FromFirst count → IfSome given (λ bytes. StreamsAll request count bytes old new r) → ShowsText given old new request r request.rows
rows-shown given old new request count r is streams = subst (ShowsText given old new request r) (sym is) (streamed-text given old new request count r streams)

pub rows-caused : (given old new : Option (List ℕ)) (request : Request) (count : ℕ) (r : Result Remarks RunFault) → request.rows ≡ FromFirst count → IfSome given (λ bytes. StreamsAll request count bytes old new r) → EndsBefore given old new request r request.rows
rows-caused given old new request count r is streams = subst (EndsBefore given old new request r) (sym is) (streamed-cause given old new request count r streams)

-- what is remarked on a table
pub once-remarked : (given : Option (List ℕ)) (request : Request) (result : Result Remarks RunFault) → request.rows ≡ AtOnce → IfOk result (λ remarks. IfSome given (λ bytes. RemarksAll request bytes remarks)) → IfOk result (λ remarks. IfSome given (λ bytes. AreRemarks request bytes remarks))
once-remarked given request result is remarked = subst (λ (how : Rows). IfOk result (λ remarks. IfSome given (λ bytes. RemarksBy how request bytes remarks))) (sym is) remarked

streamed-remarked : (given old new : Option (List ℕ)) (request : Request) (count : ℕ) (r : Result Remarks RunFault) → IfSome given (λ bytes. StreamsAll request count bytes old new r) → IfOk r (λ remarks. IfSome given (λ bytes. RemarksBy (FromFirst count) request bytes remarks))
streamed-remarked None old new request count (Ok x) streams = tt
streamed-remarked (Some bytes) old new request count (Ok x) streams =
    let (rows, are, (right, none, wrote, is)) = fine-streams old new request count bytes x streams in
    (rows, are, is)
streamed-remarked given old new request count (Err fault) streams = tt

pub rows-remarked : (given old new : Option (List ℕ)) (request : Request) (count : ℕ) (r : Result Remarks RunFault) → request.rows ≡ FromFirst count → IfSome given (λ bytes. StreamsAll request count bytes old new r) → IfOk r (λ remarks. IfSome given (λ bytes. AreRemarks request bytes remarks))
rows-remarked given old new request count r is streams = subst (λ (how : Rows). IfOk r (λ remarks. IfSome given (λ bytes. RemarksBy how request bytes remarks))) (sym is) (streamed-remarked given old new request count r streams)

-- an ending has the remarks of its result
pub ending-remarked : (given : Option (List ℕ)) (request : Request) (result : Result Remarks RunFault) (remarks : Remarks) → IfOk result (λ told. IfSome given (λ bytes. AreRemarks request bytes told)) → IfOk result (λ told. remarks ≡ told) → result_err result ≡ None
    → IfSome given (λ bytes. AreRemarks request bytes remarks)
ending-remarked given request (Ok told) remarks are is none = subst (λ (r : Remarks). IfSome given (λ bytes. AreRemarks request bytes r)) (sym is) are
ending-remarked given request (Err fault) remarks are is none = absurd (true≢false (ap (λ (o : Option RunFault). is_some o) none))

-- ---- what is shown of rows, of which some are first

-- ---- the first rows of an input

module _ (count : ℕ) (rows : List (List Text)) (wrong : Option InputFault) where
  open-behind : (given more : List (List Text)) → given ++ more ≡ rows → count ≤ length given → (is_some wrong && nat_lt (length rows) count) ≡ false
  open-behind given more whole enough =
      let long : length given + length more ≡ length rows = sym (length-append given more) ∙ ap length whole in
      ap (λ (b : Bool). is_some wrong && b) (le-ltb (length rows) count (omega (arith, long, enough))) ∙ and-false (is_some wrong)

  -- no bad row is among them
  pub open-rows : (given : List (List Text)) (reading : Reading) → IsEnough count given reading → GoesTo given reading rows wrong → wrong_within count (length given) reading ≡ None → (is_some wrong && nat_lt (length rows) count) ≡ false
  open-rows given (More reader) enough (more, whole) none = open-behind given more whole enough
  open-rows given (Stored table) enough (more, whole) none = open-behind given more whole enough
  open-rows given (Done None) enough goes none = rw goes.1 refl
  open-rows given (Done (Some fault)) enough goes none = elim (cases_Bool (nat_lt (length given) count)) [
    | inl short ↦ let some : Some fault ≡ None = (rw short at none) in cc
    | inr long ↦ ap (λ (b : Bool). is_some wrong && b) (ap (λ (rs : List (List Text)). nat_lt (length rs) count) (sym goes.0) ∙ long) ∙ and-false (is_some wrong)
  ]

  -- a bad row is among them
  pub short-rows : (given : List (List Text)) (reading : Reading) (fault : InputFault) → GoesTo given reading rows wrong → wrong_within count (length given) reading ≡ Some fault
      → (wrong ≡ Some (but_line_in fault)) × (nat_lt (length rows) count ≡ true)
  short-rows given (More reader) fault goes some = cc
  short-rows given (Stored table) fault goes some = cc
  short-rows given (Done found) fault goes some = elim (cases_Bool (nat_lt (length given) count)) [
    | inl short ↦ (goes.1 ∙ ap (option_map but_line_in) (rw short at some), ap (λ (rs : List (List Text)). nat_lt (length rs) count) (sym goes.0) ∙ short)
    | inr long ↦ let none : None ≡ Some fault = (rw long at some) in cc
  ]

  -- there are none
  pub no-rows : (given : List (List Text)) (reading : Reading) → 0 < count → length given ≡ 0 → IsEnough count given reading → GoesTo given reading rows wrong → wrong_within count (length given) reading ≡ None
      → (length rows ≡ 0) × (wrong ≡ None)
  no-rows given (More reader) some nothing enough goes none = absurd (omega (arith, some, nothing, enough))
  no-rows given (Stored table) some nothing enough goes none = absurd (omega (arith, some, nothing, enough))
  no-rows given (Done None) some nothing enough goes none = (sym (ap length goes.0) ∙ nothing, goes.1)
  no-rows given (Done (Some fault)) some nothing enough goes none = elim (cases_Bool (nat_lt (length given) count)) [
    | inl short ↦ let bad : Some fault ≡ None = (rw short at none) in cc
    | inr past ↦ absurd (omega (arith, some, nothing, ltb-false (length given) count past))
  ]

  -- some are
  pub some-rows : (given : List (List Text)) (reading : Reading) → 0 < length given → GoesTo given reading rows wrong → (length rows == 0) ≡ false
  some-rows given reading some goes =
      let (more, whole) = goes-behind given reading rows wrong goes in
      let long : length given + length more ≡ length rows = sym (length-append given more) ∙ ap length whole in
      elim (cases_Bool (length rows == 0)) [
        | inl none ↦ absurd (omega (arith, some, long, eqb-true (length rows) 0 none))
        | inr others ↦ others
      ]

  -- those that are given are the first of all
  pub first-rows : (given : List (List Text)) (reading : Reading) → IsEnough count given reading → GoesTo given reading rows wrong → take count given ≡ take count rows
  first-rows given (More reader) enough (more, whole) = sym (take-append-le count given more enough) ∙ ap (take count) whole
  first-rows given (Stored table) enough (more, whole) = sym (take-append-le count given more enough) ∙ ap (take count) whole
  first-rows given (Done found) enough goes = ap (take count) goes.0

-- ---- what is shown

no-items : {X : Type 0} (xs : List X) → length xs ≡ 0 → xs ≡ []
no-items xs none = nil_from_length xs none

pub above-none : (n : ℕ) → (n == 0) ≡ false → 0 < n
above-none zero e = absurd (true≢false e)
above-none (suc n) e = omega arith

soft-view : (found : ViewFault) → is_failure (of_view found) ≡ false → (is_lost found ≡ false) × (Some (of_view found) ≡ Some (but_line (of_view found)))
soft-view (view.Column name) soft = (refl, refl)
soft-view view.Sort soft = (refl, refl)
soft-view view.Totals soft = (refl, refl)
soft-view view.Memory soft = absurd (true≢false soft)

module _ (options : Options) (count : ℕ) (rows : List (List Text)) (wrong : Option InputFault) where
  -- the first rows end at a bad one
  pub wrong-ends : (old : Option (List ℕ)) (fault : InputFault) (result : Result Remarks RunFault) → IsErrAnd result (λ found. found ≡ Input fault) → (wrong ≡ Some (but_line_in fault)) × (nat_lt (length rows) count ≡ true) → Ends options count rows wrong old old result
  wrong-ends old fault (Ok x) is short = absurd is
  wrong-ends old fault (Err found) is short =
      let told : first_wrong options count rows wrong ≡ Some (but_line (Input fault)) = rw (short.0, short.1) refl in
      (begins-none old old (shown_text options count rows wrong) (Keeps-refl old), λ soft. inl (told ∙ ap (λ (f : RunFault). Some (but_line f)) (sym is)))

  -- there are none
  pub none-ends : (old : Option (List ℕ)) → (length rows ≡ 0) × (wrong ≡ None) → Ends options count rows wrong old old (Ok (record { padded = 0; wide = None; inner = None }))
  none-ends old (none, fine) =
      let empty : rows ≡ [] = no-items rows none in
      let text : shown_text options count rows wrong ≡ [] = rw (empty, fine) (whole-none options (colored options [] (layout_of options (take count [])))) in
      (rw (empty, fine) refl, fine, subst (Appends old old) (sym text) (Appends-nil old), rw none refl)

  -- their table is judged
  pub judged : (is_some wrong && nat_lt (length rows) count) ≡ false → (length rows == 0) ≡ false → first_wrong options count rows wrong ≡ option_map of_view (first_fault options (take count rows))
  judged long some = rw (long, some) refl

  -- it is refused
  pub refused-ends : (old : Option (List ℕ)) (found : ViewFault) (right : Option ViewFault) (result : Result Remarks RunFault) → IsErrAnd result (λ fault. fault ≡ of_view found) → first_wrong options count rows wrong ≡ option_map of_view right
      → (is_lost found ≡ false → right ≡ Some found) → Ends options count rows wrong old old result
  refused-ends old found right (Ok x) is judged tells = absurd is
  refused-ends old found right (Err fault) is judged tells = (
    begins-none old old (shown_text options count rows wrong) (Keeps-refl old),
    λ soft.
        let (kept, same) = soft-view found (ap is_failure (sym is) ∙ soft) in
        inl (judged ∙ ap (option_map of_view) (tells kept) ∙ same ∙ ap (λ (f : RunFault). Some (but_line f)) (sym is)),
  )

  -- it is written
  whole-grown : (text : Text) (old new : Option (List ℕ)) → Grows (begun_text options (first_plan options count rows wrong) []) text old new → Appends old new text
  whole-grown text old new (more, is, wrote) = subst (Appends old new) (ap (λ (t : Text). t ++ more) (sym (begun-none options (first_plan options count rows wrong))) ∙ is) wrote

  whole-near : (text : Text) (old new : Option (List ℕ)) → Nears (begun_text options (first_plan options count rows wrong) []) text old new → Begins old new text
  whole-near text old new (more, is, begun) = subst (Begins old new) (ap (λ (t : Text). t ++ more) (sym (begun-none options (first_plan options count rows wrong))) ∙ is) begun

  -- these remarks
  abbrev pub with-wide : Option ℕ → Remarks
  with-wide wide = record { padded = 0; wide = wide; inner = None }

  shown-ends : {X : Type 0} (old new : Option (List ℕ)) (answer : Result X RunFault) (remarks : Remarks) → first_wrong options count rows wrong ≡ None → EndsBelow options (first_plan options count rows wrong) rows wrong [] old new answer
      → remarks ≡ first_remarks options count rows wrong → Ends options count rows wrong old new (result_and answer (Ok remarks))
  shown-ends old new (Ok x) remarks fine (none, grown) is =
      let shown : lines_in options (first_plan options count rows wrong) rows wrong ≡ shown_text options count rows wrong = ap (λ (w : Option RunFault). if is_some w then [] else lines_in options (first_plan options count rows wrong) rows wrong) (sym fine) in
      (fine, none, subst (Appends old new) shown (whole-grown _ old new grown), is)
  shown-ends old new (Err fault) remarks fine (near, cause) is =
      let shown : lines_in options (first_plan options count rows wrong) rows wrong ≡ shown_text options count rows wrong = ap (λ (w : Option RunFault). if is_some w then [] else lines_in options (first_plan options count rows wrong) rows wrong) (sym fine) in (
        subst (Begins old new) shown (whole-near _ old new near),
        λ soft. elim (cause soft) [
          | inl told ↦ inr (inl (fine, told.0, subst (Appends old new) shown (whole-grown _ old new told.1)))
          | inr short ↦
              let (totals, (done, behind, row, parts, room, grown)) = short in
              inr (inr (fine, totals, (done, behind, row, parts, room, whole-grown _ old new grown)))
        ],
      )

  pub table-ends : {X : Type 0} (plan : Plan) (old new : Option (List ℕ)) (answer : Result X RunFault) (wide : Option ℕ) (result : Result Remarks RunFault) → plan ≡ first_layout options count rows wrong → first_wrong options count rows wrong ≡ None
      → (length rows == 0) ≡ false → EndsBelow options (colored options [] plan) rows wrong [] old new answer → wide ≡ excess_of options.bounds.width plan → result ≡ result_and answer (Ok (with-wide wide)) → Ends options count rows wrong old new result
  table-ends plan old new answer wide result is fine some ends told so =
      let remarked : with-wide wide ≡ first_remarks options count rows wrong = rw some (ap with-wide (told ∙ ap (excess_of options.bounds.width) is)) in
      subst (Ends options count rows wrong old new) (sym so) (shown-ends old new answer (with-wide wide) fine (subst (λ (p : Plan). EndsBelow options (colored options [] p) rows wrong [] old new answer) is ends) remarked)

  -- and shown
  pub ends-kept : (old mid new : Option (List ℕ)) (answer result : Result Remarks RunFault) → Ends options count rows wrong old mid answer → Keeps mid new → OnOk result (answer ≡ result)
      → ((fault : RunFault) → result ≡ Err fault → is_failure fault ≡ false → answer ≡ result) → Ends options count rows wrong old new result
  ends-kept old mid new (Ok x) (Ok y) (fine, none, wrote, remarked) kept same told =
      let is : x ≡ y = cc in
      (fine, none, Appends-kept old mid new _ wrote kept, sym is ∙ remarked)
  ends-kept old mid new (Ok x) (Err fault) (fine, none, wrote, remarked) kept same told =
      ((shown_text options count rows wrong, [], sym (append-nil (shown_text options count rows wrong)), Appends-kept old mid new _ wrote kept), λ soft. let e = told fault refl soft in cc)
  ends-kept old mid new (Err found) (Ok y) ends kept same told = cc
  ends-kept old mid new (Err found) (Err fault) (begun, cause) kept same told = (
    begins-kept old mid new _ begun kept,
    λ soft.
        let is : found ≡ fault = (let e = told fault refl soft in cc) in
        elim (cause (ap is_failure is ∙ soft)) [
          | inl early ↦ inl (early ∙ ap (λ (f : RunFault). Some (but_line f)) is)
          | inr later ↦ elim later [
            | inl bad ↦ inr (inl (bad.0, bad.1 ∙ ap (λ (f : RunFault). Some (but_line f)) is, Appends-kept old mid new _ bad.2 kept))
            | inr short ↦
                let (fine, totals, (above, behind, row, parts, room, wrote)) = short in
                inr (inr (fine, sym is ∙ totals, (above, behind, row, parts, room, Appends-kept old mid new _ wrote kept)))
          ]
        ],
  )

  -- memory or a read failed before anything was written
  pub failed-ends : (old : Option (List ℕ)) (found : RunFault) (result : Result Remarks RunFault) → IsErrAnd result (λ fault. fault ≡ found) → is_failure found ≡ true → Ends options count rows wrong old old result
  failed-ends old found (Ok x) is failed = absurd is
  failed-ends old found (Err fault) is failed = (begins-none old old (shown_text options count rows wrong) (Keeps-refl old), λ soft. absurd (true≢false (sym failed ∙ sym (ap is_failure is) ∙ soft)))

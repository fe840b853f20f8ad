-- A reader that gives the rows of a table one after another.
use Rattle.std.proofs.Common.{◌≡◌, ◌≤◌, ◌∙◌, ◌+◌, ◌-◌, ◌++◌, ◌∷◌, ℕ, List, [], take, length, Option, Some, None, Bool, true, false, Result, Ok, Err, refl, sym, ap, subst, subst₂}
use Rattle.std.proofs.Common.{append-nil, append_assoc, length-append, arith}
use Rattle.std.specs.Prelude.{IfErr, IfOk, if◌then◌else◌, nat_le}
use Rattle.csv.specs.Records.{Row, fields_of}
use Rattle.std.specs.Result.{IsErrAnd}
use Rattle.std.specs.Option.{option_and_then}
use Rattle.std.proofs.lemmas.Bool.Decides.{nat_tests}
use Rattle.std.proofs.lemmas.List.Elements.{All-push}
use Rattle.ruled_database.specs.Listings.{AddsNext, AreFirst, HasGiven, HasOpened, HasRead, LacksNext, LacksRow, PushesRows, rows_to_come, AreTable, Entry, IsListed, IsRead, LacksEntry}
use Rattle.ruled_database.specs.Listings.{IsStored, definition_with}
use Rattle.ruled_database.specs.Trees.{page_count, Stored, first_of, joined, record_of}
use Rattle.ruled_database.specs.Tables.{AddsRows, AreRows, GivesRow, HasWrongText, LacksTexts, names_in, row_in, shown_row, shown_rows_of, texts_in, tree_rows, values_of}
use Rattle.ruled_database.specs.declared.definition.Definition.{Definition}
use Rattle.ruled_database.specs.declared.fault.TableFault.{TableFault}
use Rattle.ruled_database.specs.declared.fault.TableFault.TheVariants.{Damage, Default, Encoding, Memory}
use Rattle.ruled_database.specs.declared.fault.DatabaseFault.{DatabaseFault}
use Rattle.ruled_database.specs.declared.fault.DatabaseFault.TheVariants.{Table}
use Rattle.ruled_database.specs.declared.file.File.{File}
use Rattle.ruled_database.specs.declared.table.TableReader.{TableReader}
use Rattle.ruled_database.proofs.Tabling.{adds_all, adds_no_more, adds_none, adds_unread, first_more, lacks_by_rows, lacks_listed, lacks_named, lacks_rows, shown_more}

-- ---- the texts of rows

-- each row that is shown is one
one-if : (b : Bool) (texts : List (List ℕ)) (xs : List (List (List ℕ))) → (if b then Some (texts ∷ []) else None) ≡ Some xs → length xs ≡ 1
one-if true texts xs is = let same : texts ∷ [] ≡ xs = cc in sym (ap length same)
one-if false texts xs is = absurd (cc)

one-in : (file : List ℕ) (definition : Definition) (key : ℕ) (found : Option (List ℕ)) (xs : List (List (List ℕ)))
    → option_and_then (λ bytes. row_in definition key (values_of file bytes)) found ≡ Some xs → length xs ≡ 1
one-in file definition key None xs is = absurd (cc)
one-in file definition key (Some bytes) xs is =
    one-if (nat_le definition.least (length (values_of file bytes))) (texts_in definition key (values_of file bytes)) xs is

parts : {X : Type 0} (a b : Option (List X)) (xs : List X) → joined a b ≡ Some xs → (ys : List X) × (zs : List X) × (a ≡ Some ys) × (b ≡ Some zs) × (xs ≡ ys ++ zs)
parts None b xs is = absurd (cc)
parts (Some ys) None xs is = absurd (cc)
parts (Some ys) (Some zs) xs is = let same : ys ++ zs ≡ xs = cc in (ys, zs, refl, refl, sym same)

all-one : (file : List ℕ) (definition : Definition) (taken : List Stored) (xs : List (List (List ℕ))) → (shown_rows_of file definition taken).1 ≡ Some xs → length xs ≡ length taken
all-one file definition [] xs is = let same : [] ≡ xs = cc in sym (ap length same)
all-one file definition (row ∷ taken) xs is =
    let (ys, zs, here, later, whole) = parts (shown_row file definition row).1 (shown_rows_of file definition taken).1 xs is in
    let one = one-in file definition row.key (record_of file row).1 ys here in
    let more = all-one file definition taken zs later in
    ap length whole ∙ length-append ys zs ∙ omega (arith, one, more)

-- ---- the first rows of a tree

none-first : (rows : List Stored × Bool) → first_of (Some 0) rows ≡ ([], true)
none-first rows =
    let least : nat_le 0 (length rows.0) ≡ true = grind (arith, nat_tests) in
    ap (λ (b : Bool). if◌then◌else◌ {A = List Stored × Bool} b (take 0 rows.0, true) rows) least

-- those that are taken, and the first ones behind them
first-behind : (taken : List Stored) (rest : List Stored × Bool) (more limit : ℕ) → limit ≡ length taken + more
    → ◌≡◌ {A = List Stored × Bool} (first_of (Some limit) (taken ++ rest.0, rest.1)) (taken ++ (first_of (Some more) rest).0, (first_of (Some more) rest).1)
first-behind [] rest more limit is =
    let same : limit ≡ more = omega (arith, is) in
    ap (λ (n : ℕ). first_of (Some n) rest) same
first-behind (row ∷ taken) rest more limit is =
    let less : ℕ = length taken + more in
    let inner : List Stored × Bool = (taken ++ rest.0, rest.1) in
    first_more limit less row inner (omega (arith, is))
    ∙ ap (λ (rows : List Stored × Bool). (row ∷ rows.0, rows.1)) (first-behind taken rest more less refl)

-- ---- a row that isn't read is none wherever it would stand

fails-anywhere : (file : List ℕ) (definition : Definition) (row : Stored) (number n m : ℕ) (old new before after : List (List (List ℕ))) (fault : TableFault)
    → GivesRow {U = Unit {0}} file definition row number n m old new (Err fault) → GivesRow {U = Unit {0}} file definition row number n m before after (Err fault)
fails-anywhere file definition row number n m old new before after Damage fails = fails
fails-anywhere file definition row number n m old new before after Default fails = fails
fails-anywhere file definition row number n m old new before after (Encoding at) fails = fails
fails-anywhere file definition row number n m old new before after Memory fails = fails

lacks-first : (rows : List Stored × Bool) (fault : TableFault) → LacksRow rows fault → LacksRow (first_of (Some 1) rows) fault
lacks-first rows Damage lacks = ap (first_of (Some 1)) lacks
lacks-first rows Default lacks = lacks
lacks-first rows (Encoding at) lacks = lacks
lacks-first rows Memory lacks = lacks

-- ---- what a reader has given of a tree

module _ (file : List ℕ) (root : ℕ) (definition : Definition) (rows : List (List (List ℕ))) (reader : TableReader) (given : HasGiven file root definition rows reader) where
  as-many : length rows ≡ length given.taken
  as-many = ap length given.shown.2 ∙ all-one file definition given.taken given.shown.0 given.shown.1

  -- its first rows
  first-given : (n : ℕ) → n ≡ length rows → AreRows (Some n) file root definition rows
  first-given n is =
      let some : n ≡ length given.taken + 0 = omega (arith, is, as-many) in
      let whole : tree_rows (Some n) file definition.tree root ≡ (given.taken, true) =
      ap (first_of (Some n)) given.walked ∙ first-behind given.taken (rows_to_come reader.stored) 0 n some
      ∙ ap (λ (rest : List Stored × Bool). (given.taken ++ rest.0, rest.1)) (none-first (rows_to_come reader.stored)) ∙ ap (λ (xs : List Stored). (xs, true)) (append-nil given.taken)
      in
      record {
        sound = ap (λ (found : List Stored × Bool). found.1) whole;
        shown = ap (λ (found : List Stored × Bool). (shown_rows_of file definition found.0).1) whole ∙ given.shown.1 ∙ ap Some (sym given.shown.2);
      }

  -- all
  all-given : rows_to_come reader.stored ≡ ([], true) → AreRows None file root definition rows
  all-given end =
      let nought : ℕ = 0 in
      let (items, are, added) = adds_all None file root definition [] rows given.taken (rows_to_come reader.stored) given.walked nought nought (page_count file) reader.reader.overflow.left end given.shown in
      subst (AreRows None file root definition) (sym added) are

  -- and no more: the tree isn't sound
  no-row : (n : ℕ) (fault : TableFault) → n ≡ length rows + 1 → LacksRow (rows_to_come reader.stored) fault → AddsRows {U = Unit {0}} (Some n) file root definition [] rows (Err fault)
  no-row n fault is lacks =
      let rest = rows_to_come reader.stored in
      let some : n ≡ length given.taken + 1 = omega (arith, is, as-many) in
      adds_no_more (Some n) file root definition [] rows given.taken (first_of (Some 1) rest) (ap (first_of (Some n)) given.walked ∙ first-behind given.taken rest 1 n some) (Unit {0}) (Err fault) fault refl
      (lacks-first rest fault lacks)

  module _ (row : Stored) (later : List Stored × Bool) (come : rows_to_come reader.stored ≡ (row ∷ later.0, later.1)) where
    -- or the next row isn't read
    bad-row : (n m : ℕ) (old new : List (List (List ℕ))) (fault : TableFault) → n ≡ length rows + 1 → GivesRow {U = Unit {0}} file definition row reader.given reader.reader.overflow.left m old new (Err fault)
        → AddsRows {U = Unit {0}} (Some n) file root definition [] new (Err fault)
    bad-row n m old new fault is fails =
        let some : n ≡ length given.taken + 1 = omega (arith, is, as-many) in
        let nought : ℕ = 0 in
        let none : ℕ = 0 in
        let rest : List Stored × Bool = first_of (Some none) later in
        let walked : tree_rows (Some n) file definition.tree root ≡ (given.taken ++ row ∷ rest.0, rest.1) =
        ap (first_of (Some n)) given.walked ∙ first-behind given.taken (rows_to_come reader.stored) 1 n some
        ∙ ap (λ (found : List Stored × Bool). (given.taken ++ found.0, found.1)) (ap (first_of (Some 1)) come ∙ first_more 1 none row later refl)
        in
        adds_unread (Some n) file root definition [] new given.taken rest.0 row rest.1 walked (Unit {0}) (Unit {0}) nought reader.given (page_count file) reader.reader.overflow.left m rows (Err fault) fault refl refl given.shown
        given.texts (omega (arith, given.number, as-many)) (fails-anywhere file definition row reader.given reader.reader.overflow.left m old new rows new fault fails)

    -- it is read
    one-given : (next : TableReader) (old new : List (List (List ℕ))) → next.definition ≡ reader.definition → next.reader.overflow.file ≡ reader.reader.overflow.file → rows_to_come next.stored ≡ later → next.given ≡ reader.given + 1
        → GivesRow {U = Unit {0}} file definition row reader.given reader.reader.overflow.left next.reader.overflow.left old new (Ok tt)
        → ¬ HasWrongText file definition row
        → (texts : List (List (List ℕ))) × (new ≡ old ++ texts) × (length texts ≡ 1) × HasGiven file root definition (rows ++ texts) next
    one-given next old new declared same left number (texts, is, added, pages) text =
        let nought : ℕ = 0 in
        let one = one-in file definition row.key (record_of file row).1 texts is in (
          texts,
          added,
          one,
          record {
            declared = declared ∙ given.declared;
            bytes = ap (λ (it : File). it.bytes.now) same ∙ given.bytes;
            taken = given.taken ++ row ∷ [];
            walked = given.walked ∙ ap (λ (found : List Stored × Bool). (given.taken ++ found.0, found.1)) (come ∙ ap (λ (found : List Stored × Bool). (row ∷ found.0, found.1)) (sym left))
                ∙ ap (λ (found : List Stored). (found, (rows_to_come next.stored).1)) (sym (append_assoc given.taken (row ∷ []) (rows_to_come next.stored).0));
            shown = shown_more file definition given.taken row (page_count file) reader.reader.overflow.left next.reader.overflow.left [] rows (rows ++ texts) nought nought given.shown (texts, is, refl, pages);
            texts = All-push (λ (other : Stored). ¬ HasWrongText file definition other) given.taken row given.texts text;
            number = number ∙ omega (arith, given.number, length-append rows texts, one);
          },
        )

-- ---- and of a table

module _ (file name null_text : List ℕ) (rows : List (List (List ℕ))) (reader : TableReader) (read : HasRead file name null_text rows reader) where
  counted : length rows ≡ length read.texts + 1
  counted = ap length read.named ∙ omega arith

  pub read-first : AreFirst file name null_text rows
  read-first = record {
    read = read.read;
    entry = read.entry;
    listed = read.listed;
    shown = record {
      definition = read.definition;
      stored = read.stored;
      shown = (read.texts, first-given file read.entry.root read.definition read.texts reader read.given (length rows - 1) (omega (arith, counted)), read.named);
    };
  }

  read-all : rows_to_come reader.stored ≡ ([], true) → AreTable None file name null_text rows
  read-all end = record {
    read = read.read;
    entry = read.entry;
    listed = read.listed;
    shown = record { definition = read.definition; stored = read.stored; shown = (read.texts, all-given file read.entry.root read.definition read.texts reader read.given end, read.named) };
  }

  lacks-next : (new : List (List (List ℕ))) (fault : TableFault) → AddsRows {U = Unit {0}} (Some (length rows)) file read.entry.root read.definition [] new (Err fault) → LacksNext file name null_text rows fault
  lacks-next new fault adds =
      let lacks = lacks_rows (Unit {0}) (Some (length rows)) file read.entry.root read.definition (definition_with null_text read.entry.statement) [] new fault read.stored.declared adds in
      lacks_listed {V = Unit {0}} (Some (length rows)) file name null_text read.entry (Err (Table fault)) read.listed lacks

  -- the row behind them isn't there
  lacks-row : (fault : TableFault) → LacksRow (rows_to_come reader.stored) fault → LacksNext file name null_text rows fault
  lacks-row fault lacks = lacks-next read.texts fault (no-row file read.entry.root read.definition read.texts reader read.given (length rows) fault counted lacks)

-- ---- what a reader has given since

-- some rows, and it has read those above and these
abbrev pub HasPushed : List ℕ → List ℕ → List ℕ → List (List (List ℕ)) → ℕ → List (List (List ℕ)) → List (List (List ℕ)) → TableReader → Type 0
HasPushed file name null_text given count old new reader =
    (rows : List (List (List ℕ))) × (new ≡ old ++ rows) × (length rows ≡ count) × HasRead file name null_text (given ++ rows) reader

module _ (file name null_text : List ℕ) (given old : List (List (List ℕ))) where
  pub pushed-none : (reader : TableReader) → HasRead file name null_text given reader → HasPushed file name null_text given 0 old old reader
  pushed-none reader read =
      ([], sym (append-nil old), refl, subst (λ (rows : List (List (List ℕ))). HasRead file name null_text rows reader) (sym (append-nil given)) read)

  module _ (count wanted : ℕ) (mid : List (List (List ℕ))) (reader : TableReader) (within : count ≤ wanted) (pushed : HasPushed file name null_text given count old mid reader) where
    rows : List (List (List ℕ))
    rows = pushed.0

    read : HasRead file name null_text (given ++ rows) reader
    unfolding rows
    read = pushed.3

    added : AddsNext file name null_text wanted given old mid rows
    unfolding rows
    added = (pushed.1, omega (arith, within, pushed.2), read-first file name null_text (given ++ rows) reader read)

    -- all are there
    pub pushes-all : (next : TableReader) → rows_to_come reader.stored ≡ ([], true) → PushesRows file name null_text wanted given old mid next (Ok false)
    pushes-all next end = (rows, added, read-all file name null_text (given ++ rows) reader read end)

    -- so many are
    pub pushes-more : count ≡ wanted → PushesRows file name null_text wanted given old mid reader (Ok true)
    unfolding rows
    pushes-more is = (rows, added, pushed.2 ∙ is, read)

    -- a fault that is handed on
    told : (next : TableReader) (result : Result Bool TableFault) (found : TableFault) → IsErrAnd result (λ fault. fault ≡ found) → LacksNext file name null_text (given ++ rows) found
        → PushesRows file name null_text wanted given old mid next result
    told next (Ok x) found is lacks = absurd is
    told next (Err fault) found is lacks = (rows, added, subst (LacksNext file name null_text (given ++ rows)) (sym is) lacks)

    -- memory was refused
    pub pushes-memory : (next : TableReader) (result : Result Bool TableFault) (found : TableFault) → IsErrAnd result (λ fault. fault ≡ found) → found ≡ Memory → PushesRows file name null_text wanted given old mid next result
    pushes-memory next result found is memory = told next result found is (subst (LacksNext file name null_text (given ++ rows)) (sym memory) tt)

    -- the next row isn't there
    pub pushes-no-row : (next : TableReader) (result : Result Bool TableFault) (found : TableFault) → IsErrAnd result (λ fault. fault ≡ found) → LacksRow (rows_to_come reader.stored) found
        → PushesRows file name null_text wanted given old mid next result
    pushes-no-row next result found is lacks = told next result found is (lacks-row file name null_text (given ++ rows) reader read found lacks)

    module _ (row : Stored) (later : List Stored × Bool) (come : rows_to_come reader.stored ≡ (row ∷ later.0, later.1)) where
      -- or can't be read
      pub pushes-bad-row : (next : TableReader) (result : Result Bool TableFault) (found : TableFault) (m : ℕ) (new : List (List (List ℕ))) → IsErrAnd result (λ fault. fault ≡ found) → new ≡ mid
          → GivesRow {U = Unit {0}} reader.reader.overflow.file.bytes.now reader.definition row reader.given reader.reader.overflow.left m mid new (Err found)
          → PushesRows file name null_text wanted given old new next result
      pushes-bad-row next result found m new is same fails =
          let held = read.given in
          let many : length (given ++ rows) ≡ length read.texts + 1 = counted file name null_text (given ++ rows) reader read in
          let here = subst₂ (λ (f : List ℕ) (d : Definition). GivesRow {U = Unit {0}} f d row reader.given reader.reader.overflow.left m mid new (Err found)) held.bytes held.declared fails in
          subst (λ (now : List (List (List ℕ))). PushesRows file name null_text wanted given old now next result) (sym same)
          (told next result found is
          (lacks-next file name null_text (given ++ rows) reader read new found
          (bad-row file read.entry.root read.definition read.texts reader held row later come (length (given ++ rows)) m mid new found many here)))

      -- one more is read
      pub pushed-more : (next : TableReader) (new : List (List (List ℕ))) → next.definition ≡ reader.definition → next.reader.overflow.file ≡ reader.reader.overflow.file → rows_to_come next.stored ≡ later → next.given ≡ reader.given + 1
          → GivesRow {U = Unit {0}} reader.reader.overflow.file.bytes.now reader.definition row reader.given reader.reader.overflow.left next.reader.overflow.left mid new (Ok tt)
          → ¬ HasWrongText reader.reader.overflow.file.bytes.now reader.definition row
          → HasPushed file name null_text given (count + 1) old new next
      unfolding rows
      pushed-more next new declared same left number gives text =
          let held = read.given in
          let here = subst₂ (λ (f : List ℕ) (d : Definition). GivesRow {U = Unit {0}} f d row reader.given reader.reader.overflow.left next.reader.overflow.left mid new (Ok tt)) held.bytes held.declared gives in
          let right = subst₂ (λ (f : List ℕ) (d : Definition). ¬ HasWrongText f d row) held.bytes held.declared text in
          let (texts, more, one, now) = one-given file read.entry.root read.definition read.texts reader held row later come next mid new declared same left number here right in (
            rows ++ texts,
            more ∙ ap (λ (xs : List (List (List ℕ))). xs ++ texts) pushed.1 ∙ append_assoc old rows texts,
            omega (arith, length-append rows texts, pushed.2, one),
            record {
              read = read.read;
              entry = read.entry;
              listed = read.listed;
              definition = read.definition;
              stored = read.stored;
              texts = read.texts ++ texts;
              given = now;
              named = sym (append_assoc given rows texts) ∙ ap (λ (xs : List (List (List ℕ))). xs ++ texts) read.named;
            },
          )

-- ---- the reader of an entry

module _ (file null_text : List ℕ) (entry : Entry) (definition : Definition) (found : TableFault) (is : definition ≡ definition_with null_text entry.statement) where
  -- names of columns that aren't shown
  pub lacks_by_names : {V : Type 0} (result : Result V DatabaseFault) → IsErrAnd result (λ fault. fault ≡ Table found) → LacksTexts 0 (names_in definition.columns) found → IfErr result (LacksEntry (Some 1) file null_text entry)
  lacks_by_names result told lacks = lacks_by_rows (Some 1) file null_text entry result found definition told is (lacks_named (Some 1) file entry.root definition found lacks)

  -- no first page
  pub lacks_by_tree : {V : Type 0} (result : Result V DatabaseFault) → IsErrAnd result (λ fault. fault ≡ Table found) → LacksRow (tree_rows None file definition.tree entry.root) found → IfErr result (LacksEntry (Some 1) file null_text entry)
  lacks_by_tree result told lacks =
      lacks_by_rows (Some 1) file null_text entry result found definition told is
      (lacks_rows (Unit {0}) (Some 1) file entry.root definition definition [] [] found refl
      (adds_none (Some 1) file entry.root definition [] [] (Unit {0}) (Err found) found refl (lacks-first (tree_rows None file definition.tree entry.root) found lacks)))

pub opened : (file null_text : List ℕ) (entry : Entry) (definition : Definition) (names : List (List ℕ)) (reader : TableReader) → IsStored null_text entry definition → names ≡ names_in definition.columns
    → HasGiven file entry.root definition [] reader → HasOpened file null_text entry names reader
opened file null_text entry definition names reader stored is given = (definition, stored, is, given)

pub read-opened : (file name null_text : List ℕ) (entry : Entry) (result : Result (Row × TableReader) DatabaseFault) → IsRead file → IsListed file name entry
    → IfOk result (λ opened. HasOpened file null_text entry (fields_of opened.0) opened.1) → IfOk result (λ opened. HasRead file name null_text (fields_of opened.0 ∷ []) opened.1)
read-opened file name null_text entry (Ok opened) known listed (definition, stored, names, given) = record {
  read = known;
  entry = entry;
  listed = listed;
  definition = definition;
  stored = stored;
  texts = [];
  given = given;
  named = ap (λ (texts : List (List ℕ)). texts ∷ []) names;
}
read-opened file name null_text entry (Err fault) known listed opened = tt

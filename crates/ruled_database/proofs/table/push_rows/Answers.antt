use Rattle.std.proofs.Common.{◌≡◌, ◌∙◌, ◌++◌, ◌∷◌, ℕ, List, [], Bool, Option, None, Some, Ok, Err, map, length, refl, sym, ap, subst, append_assoc, ◌+◌, ◌-◌, arith, rules}
use Rattle.std.proofs.lemmas.List.{length-append}
use Rattle.std.proofs.lemmas.List.Elements.{All-push}
use Rattle.csv.specs.Records.{fields_of}
use Rattle.ruled_database.specs.Listings.{rows_to_come, stored_of, with_row}
use Rattle.ruled_database.specs.Trees.{page_count, Gives, Stored}
use Rattle.ruled_database.specs.Tables.{GivesRow, HasWrongText, shown_row, shown_rows_of}
use Rattle.ruled_database.specs.declared.file.File.{File}
use Rattle.ruled_database.specs.declared.tree.StoredRow.{StoredRow}
use Rattle.ruled_database.proofs.Tabling.{adds_all, adds_no_more, adds_none, adds_unread, gives_nothing, shown_more}
use Rattle.ruled_database.proofs.table.push_rows.Goals as goal

pub returns-in_err-stored : goal.returns-in_err-stored
returns-in_err-stored c =
    adds_none c.args.limit c.args.file.bytes.now c.args.root c.args.definition.now (map fields_of c.args.rows.now.items) (map fields_of c.args.rows.now.items) (Unit {0}) c.from_residual.result c.in_err-stored.field-0.0
    c.from_residual.ensures.1 c.in_err-stored.ensures.fault

pub loop-reader-init : goal.loop-reader-init
loop-reader-init c =
    let file = c.args.file.bytes.now in
    let definition = c.args.definition.now in
    let old = map fields_of c.args.rows.now.items in
    record {
      file = c.of-reader.ensures.file;
      taken = [];
      walked = sym c.in_ok-stored.ensures.rows;
      texts = λ i default less. absurd (omega (arith, less));
      counted = omega arith;
      rows = subst (λ (n : ℕ). Gives {U = ℕ} (shown_rows_of file definition []) (page_count file) n old old (Ok 0)) (sym c.of-reader.ensures.left) (gives_nothing (page_count file) old);
    }

pub loop-reader-preserved : goal.loop-reader-preserved
loop-reader-preserved c =
    let file = c.args.file.bytes.now in
    let definition = c.args.definition.now in
    let l = c.loop-reader in
    let row = stored_of c.in-Some.row in
    let taken = l.invariant.taken in
    let later = rows_to_come c.next.new.self in
    let given : c.in_ok-row.field-0 ≡ Some c.in-Some.row = search rules in
    let come = c.in_ok-row.ensures.rows ∙ ap (λ (it : Option StoredRow). with_row it later) given in
    let old = map fields_of c.args.rows.now.items in
    let mid = map fields_of l.rows.items in
    let new = map fields_of c.push_row.new.rows.items in
    let nought : ℕ = 0 in
    let text = subst (λ (it : File). ¬ HasWrongText it.bytes.now definition row) l.invariant.file c.in_ok-push_row.ensures.text in
    let counted : length c.push_row.new.rows.items ≡ length l.rows.items + 1 = c.in_ok-push_row.ensures.count in
    let here = subst (λ (it : File). Gives {U = ℕ} (shown_row it.bytes.now definition row) l.reader.overflow.left c.push_row.new.self.overflow.left mid new (Ok 0)) l.invariant.file c.in_ok-push_row.ensures.rows in
    record {
      file = c.push_row.ensures.file ∙ l.invariant.file;
      taken = taken ++ row ∷ [];
      walked = l.invariant.walked ∙ ap (λ (rows : List Stored × Bool). (taken ++ rows.0, rows.1)) come ∙ ap (λ (rows : List Stored). (rows, later.1)) (sym (append_assoc taken (row ∷ []) later.0));
      texts = All-push (λ (other : Stored). ¬ HasWrongText file definition other) taken row l.invariant.texts text;
      counted = omega (arith, counted, l.invariant.counted, length-append taken (row ∷ []));
      rows = shown_more file definition taken row (page_count file) l.reader.overflow.left c.push_row.new.self.overflow.left old mid new nought nought l.invariant.rows here;
    }

pub loop-reader-smaller : goal.loop-reader-smaller
loop-reader-smaller c =
    let later = rows_to_come c.next.new.self in
    let given : c.in_ok-row.field-0 ≡ Some c.in-Some.row = search rules in
    let come = ap (λ (rows : List Stored × Bool). length rows.0) (c.in_ok-row.ensures.rows ∙ ap (λ (it : Option StoredRow). with_row it later) given) in
    omega (arith, come)

pub returns-in_err-row : goal.returns-in_err-row
returns-in_err-row c =
    let l = c.loop-reader in
    adds_no_more c.args.limit c.args.file.bytes.now c.args.root c.args.definition.now (map fields_of c.args.rows.now.items) (map fields_of l.rows.items) l.invariant.taken (rows_to_come l.stored) l.invariant.walked (Unit {0})
    c.from_residual-in_err-row.result c.in_err-row.field-0.0 c.from_residual-in_err-row.ensures.1 c.in_err-row.ensures.fault

pub returns-in_err-push_row : goal.returns-in_err-push_row
returns-in_err-push_row c =
    let file = c.args.file.bytes.now in
    let definition = c.args.definition.now in
    let l = c.loop-reader in
    let row = stored_of c.in-Some.row in
    let taken = l.invariant.taken in
    let later = rows_to_come c.next.new.self in
    let given : c.in_ok-row.field-0 ≡ Some c.in-Some.row = search rules in
    let come = c.in_ok-row.ensures.rows ∙ ap (λ (it : Option StoredRow). with_row it later) given in
    let mid = map fields_of l.rows.items in
    let new = map fields_of c.push_row.new.rows.items in
    let fault = c.in_err-push_row.field-0.0 in
    let nought : ℕ = 0 in
    let fails = subst (λ (it : File). GivesRow {U = Unit {0}} it.bytes.now definition row (c.len.result - c.len-above.result + 1) l.reader.overflow.left c.push_row.new.self.overflow.left mid new (Err fault)) l.invariant.file c.in_err-push_row.ensures.rows in
    adds_unread c.args.limit file c.args.root definition (map fields_of c.args.rows.now.items) new taken later.0 row later.1 (l.invariant.walked ∙ ap (λ (rows : List Stored × Bool). (taken ++ rows.0, rows.1)) come)
    (Unit {0}) (Unit {0}) nought (c.len.result - c.len-above.result + 1) (page_count file) l.reader.overflow.left c.push_row.new.self.overflow.left mid c.from_residual-in_err-push_row.result fault c.from_residual-in_err-push_row.ensures.1 refl l.invariant.rows l.invariant.texts (omega (arith, l.invariant.counted, c.len.ensures)) fails

pub returns : goal.returns
returns c =
    let l = c.loop-reader in
    let nought : ℕ = 0 in
    let none : c.in_ok-row.field-0 ≡ None = search rules in
    adds_all c.args.limit c.args.file.bytes.now c.args.root c.args.definition.now (map fields_of c.args.rows.now.items) (map fields_of l.rows.items) l.invariant.taken (rows_to_come l.stored) l.invariant.walked nought nought
    (page_count c.args.file.bytes.now) l.reader.overflow.left (c.in_ok-row.ensures.end none) l.invariant.rows

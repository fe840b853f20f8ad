use Rattle.std.proofs.Common.{◌≡◌, ◌≢◌, ◌∙◌, ◌++◌, List, length, string_bytes, false, true, subst, append-nil, sym, ap, arith, rules, Option}
use Rattle.std.proofs.lemmas.Bool.Decides.{nat_tests}
use Rattle.std.specs.Prelude.{◌==◌, OnErr, OnOk}
use Rattle.pg_layout.specs.Text.{Text}
use Rattle.pg_picture.specs.Appending.{GainedBeginning}
use Rattle.ruled_table.specs.Tables.{Tells}
use Rattle.ruled_table.specs.Columns.{pairs_in}
use Rattle.ruled_table.specs.Shown.{color_in}
use Rattle.ruled_table.specs.declared.view.ViewFault.{ViewFault}
use Rattle.ruled_table.proofs.Tables.{fault_drawn, fault_none, text_drawn, text_none}
use Rattle.ruled_table.proofs.table.push_text.Goals as goal

pub returns-then-count_rows-eq0-clause-text : goal.returns-then-count_rows-eq0-clause-text
returns-then-count_rows-eq0-clause-text c =
    let none : (length (pairs_in c.args.rows) == 0) ≡ true = search rules in
    sym (append-nil (string_bytes c.args.buf.now)) ∙ ap (λ (text : Text). string_bytes c.args.buf.now ++ text) (text_none c.args.bounds.now c.args.config.now (color_in c.args.colors.now) (pairs_in c.args.rows) none)

pub returns-then-count_rows-eq0-clause-fault : goal.returns-then-count_rows-eq0-clause-fault
returns-then-count_rows-eq0-clause-fault c =
    let none : (length (pairs_in c.args.rows) == 0) ≡ true = search rules in
    fault_none c.args.bounds.now c.args.config.now (color_in c.args.colors.now) (pairs_in c.args.rows) none

pub returns-clause-text : goal.returns-clause-text
returns-clause-text c =
    let texts : List (List Text) = pairs_in c.args.rows in
    let other : length texts ≢ 0 = λ is. c.if-count_rows-eq0.false (c.count_rows.ensures ∙ is) in
    let some : (length texts == 0) ≡ false = grind (arith, nat_tests, other) in
    subst (λ (shown : Text). OnOk c.push_picture.result (string_bytes c.push_picture.new.buf ≡ string_bytes c.args.buf.now ++ shown)) (text_drawn c.args.bounds.now c.args.config.now (color_in c.args.colors.now) texts some) c.push_picture.ensures.text

pub returns-clause-begun : goal.returns-clause-begun
returns-clause-begun c =
    let texts : List (List Text) = pairs_in c.args.rows in
    let other : length texts ≢ 0 = λ is. c.if-count_rows-eq0.false (c.count_rows.ensures ∙ is) in
    let some : (length texts == 0) ≡ false = grind (arith, nat_tests, other) in
    subst (λ (shown : Text). OnErr c.push_picture.result (GainedBeginning c.args.buf.now c.push_picture.new.buf shown)) (text_drawn c.args.bounds.now c.args.config.now (color_in c.args.colors.now) texts some) c.push_picture.ensures.begun

pub returns-clause-fault : goal.returns-clause-fault
returns-clause-fault c =
    let texts : List (List Text) = pairs_in c.args.rows in
    let other : length texts ≢ 0 = λ is. c.if-count_rows-eq0.false (c.count_rows.ensures ∙ is) in
    let some : (length texts == 0) ≡ false = grind (arith, nat_tests, other) in
    subst (λ (fault : Option ViewFault). Tells fault c.push_picture.result) (fault_drawn c.args.bounds.now c.args.config.now (color_in c.args.colors.now) texts some) c.push_picture.ensures.fault

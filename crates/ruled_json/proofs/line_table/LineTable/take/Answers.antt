use Rattle.std.proofs.Common.{◌≡◌, ◌<◌, ◌-◌, ◌∷◌, ◌++◌, ℕ, [], ap, arith, map, string_bytes}
use Rattle.std.proofs.lemmas.List.{length-append}
use Rattle.csv.specs.Records.{fields_of}
use Rattle.json.specs.Value.{value_view}
use Rattle.ruled_json.specs.Streamed.{AppendsRest, columns_in, ended_table, left_of}
use Rattle.ruled_json.specs.Rows.{table_in}
use Rattle.ruled_json.proofs.StreamedLines.{on-ok}
use Rattle.ruled_json.proofs.Tables.{all-rows, first-held, first-records, grown-columns, late-rows, no-rows-yet}
use Rattle.ruled_json.proofs.line_table.LineTable.take.Goals as goal

pub returns-then-self-eq0-clause-rows : goal.returns-then-self-eq0-clause-rows
returns-then-self-eq0-clause-rows c = λ k above has.
    let t = c.args.self.now in
    let v = value_view c.args.value.now in
    let old = map fields_of c.args.rows.now.items in
    let new = map fields_of c.push_late.new.rows.items in
    on-ok c.push_late.result (AppendsRest (table_in (string_bytes t.null) (columns_in t) above) (table_in (string_bytes t.null) (columns_in t) (above ++ v ∷ [])) old new)
    (AppendsRest (ended_table k above) (ended_table k (above ++ v ∷ [])) old new) (late-rows k above v t old new has (omega arith)) (c.push_late.ensures.rows above)

pub returns-in_ok-push_held-clause-rows : goal.returns-in_ok-push_held-clause-rows
returns-in_ok-push_held-clause-rows c = λ k above has.
    let t = c.args.self.now in
    let held = c.hold.new.self in
    let v = value_view c.args.value.now in
    let some : 0 < t.left = omega arith in
    let same : t.left ≡ left_of k above = has.left in
    let fewer : held.left ≡ t.left = c.in_ok-hold.ensures.kept.0 in
    let more = length-append above (v ∷ []) in
    let none : left_of k (above ++ v ∷ []) ≡ 0 = omega arith in
    let still : 0 < left_of k above = omega arith in
    all-rows k above (string_bytes t.null) (columns_in held) v (map fields_of c.args.rows.now.items) (map fields_of c.push_held.new.rows.items) still none
    (grown-columns k above v t held has some c.in_ok-hold.ensures.columns) has.null_text
    (c.in_ok-push_held.ensures.rows (string_bytes t.null) (above ++ v ∷ []) (first-held k above v t held has some c.in_ok-hold.ensures.columns c.in_ok-hold.ensures.held))

pub returns-else-self-eq0-2-clause-read : goal.returns-else-self-eq0-2-clause-read
returns-else-self-eq0-2-clause-read c = λ k above has.
    let some : 0 < c.args.self.now.left = omega arith in
    first-records k above (value_view c.args.value.now) c.args.self.now _ has some (ap (λ (n : ℕ). n - 1) c.in_ok-hold.ensures.kept.0) c.in_ok-hold.ensures.columns
    c.in_ok-hold.ensures.kept.2
    (λ _. c.in_ok-hold.ensures.held)

pub returns-else-self-eq0-2-clause-rows : goal.returns-else-self-eq0-2-clause-rows
returns-else-self-eq0-2-clause-rows c = λ k above has.
    let t = c.args.self.now in
    let v = value_view c.args.value.now in
    let same : t.left ≡ left_of k above = has.left in
    let fewer : c.hold.new.self.left ≡ t.left = c.in_ok-hold.ensures.kept.0 in
    let more = length-append above (v ∷ []) in
    let some : 0 < left_of k above = omega arith in
    let still : 0 < left_of k (above ++ v ∷ []) = omega arith in
    no-rows-yet k above v (map fields_of c.args.rows.now.items) some still

use Rattle.std.proofs.Common.{◌≡◌, ◌<◌, ◌≤◌, ◌∙◌, [], List, sym, ap, map, set, get_or, length, slice_get, Some, arith}
use Rattle.std.proofs.lemmas.List.{get_or_past, length-map, length-set, map-set}
use Rattle.std.proofs.lemmas.Option.{slice_get_past, slice_get_read}
use Rattle.pg_layout.specs.Records.{ragged_row}
use Rattle.pg_layout.proofs.Given.{even-set, row-at}
use Rattle.pg_layout.proofs.vec_records.VecRecords.replace.Goals as goal
use Rattle.pg_layout.proofs.vec_records.VecRecords.replace.Goals.{else-pos-len-via-then-pos-len+else-pos-len-2, else-pos-len-via-else-pos-len}

pub invariant_of-self : goal.invariant_of-self
invariant_of-self g c =
    let rows = c.self.inside.rows.items in
    let row = c.index_mut.result.now in
    let here : row.items ≡ get_or (map (λ row. row.items) rows) c.args.pos.row [] = row-at (λ row. row.items) rows (map (λ row. row.items) rows) c.args.pos.row row (λ i. map (λ row. row.items) rows) (omega (arith, c.if-pos-len.true, c.len.ensures, length-map rows (λ row. row.items))) c.index_mut.ensures.value in
    ap (λ rows. ragged_row rows) (map-set (λ row. row.items) rows c.args.pos.row _)
    ∙ even-set (map (λ row. row.items) rows) c.args.pos.row (set row.items c.args.pos.col c.replace.new.dest) (length-set row.items c.args.pos.col c.replace.new.dest ∙ ap (λ row. length row) here) c.self.invariant

pub returns-then-pos-len-2-clause-cells : goal.returns-then-pos-len-2-clause-cells
returns-then-pos-len-2-clause-cells g c =
    let rows = c.self.inside.rows.items in
    let row = c.index_mut.result.now in
    let here : row.items ≡ get_or c.args.self.now c.args.pos.row [] = row-at (λ row. row.items) rows c.args.self.now c.args.pos.row row c.self.view_is (omega (arith, c.if-pos-len.true, c.len.ensures, length-map rows (λ row. row.items), ap (λ rows. length rows) c.self.view_is)) c.index_mut.ensures.value in
    map-set (λ row. row.items) rows c.args.pos.row _
    ∙ ap (λ rows. set rows c.args.pos.row (set row.items c.args.pos.col c.replace.new.dest)) c.self.view_is
    ∙ ap (λ row. set c.args.self.now c.args.pos.row (set row c.args.pos.col c.replace.new.dest)) here
    ∙ ap (λ cell. set c.args.self.now c.args.pos.row (set (get_or c.args.self.now c.args.pos.row []) c.args.pos.col cell)) c.replace.ensures.after

pub returns-then-pos-len-2-clause-former : goal.returns-then-pos-len-2-clause-former
returns-then-pos-len-2-clause-former g c =
    let rows = c.self.inside.rows.items in
    let row = c.index_mut.result.now in
    let here : row.items ≡ get_or c.args.self.now c.args.pos.row [] = row-at (λ row. row.items) rows c.args.self.now c.args.pos.row row c.self.view_is (omega (arith, c.if-pos-len.true, c.len.ensures, length-map rows (λ row. row.items), ap (λ rows. length rows) c.self.view_is, c.self.inside.rows.ok)) c.index_mut.ensures.value in
    let read : c.index.result.now.items ≡ get_or c.args.self.now c.args.pos.row [] = row-at (λ row. row.items) rows c.args.self.now c.args.pos.row c.index.result.now c.self.view_is (omega (arith, c.if-pos-len.true, c.len.ensures, length-map rows (λ row. row.items), ap (λ rows. length rows) c.self.view_is, c.self.inside.rows.ok)) c.index.ensures in
    let within : c.args.pos.col < length row.items = omega (arith, c.if-pos-len-2.true, c.len-then-pos-len.ensures, c.index.result.now.ok, ap (λ row. length row) read, ap (λ row. length row) here) in
    ap Some c.replace.ensures.value
    ∙ sym (slice_get_read row.items (length row.items) c.args.pos.col c.index_mut-then-pos-len-2.result.now (λ i. length row.items) within c.index_mut-then-pos-len-2.ensures.value)
    ∙ ap (λ row. slice_get row c.args.pos.col) here

pub returns-clause-former : goal.returns-clause-former
returns-clause-former g c =
    let past : length (get_or c.args.self.now c.args.pos.row []) ≤ c.args.pos.col = elim c.else-pos-len.branch [
      | else-pos-len-via-then-pos-len+else-pos-len-2 w ↦
          (let read : w.index.result.now.items ≡ get_or c.args.self.now c.args.pos.row [] = row-at (λ row. row.items) c.self.inside.rows.items c.args.self.now c.args.pos.row w.index.result.now c.self.view_is (omega (arith, w.if-pos-len.true, c.len.ensures, length-map c.self.inside.rows.items (λ row. row.items), ap (λ rows. length rows) c.self.view_is, c.self.inside.rows.ok)) w.index.ensures in
          omega (arith, w.if-pos-len-2.false, w.len-then-pos-len.ensures, w.index.result.now.ok, ap (λ row. length row) read))
      | else-pos-len-via-else-pos-len w ↦
          (let none = get_or_past c.args.self.now c.args.pos.row [] (omega (arith, w.if-pos-len.false, c.len.ensures, length-map c.self.inside.rows.items (λ row. row.items), ap (λ rows. length rows) c.self.view_is, c.self.inside.rows.ok)) in
          omega (arith, ap (λ row. length row) none))
    ] in
    sym (slice_get_past (get_or c.args.self.now c.args.pos.row []) c.args.pos.col past)

use Rattle.std.proofs.Common.{◌≡◌, ◌≤◌, ◌+◌, ◌∷◌, [], List, drop, length, length-drop, map, string_bytes, ap, subst, arith}
use Rattle.std.proofs.lemmas.List.{nil_from_length}
use Rattle.std.proofs.lemmas.Result.{on_ok_weaker}
use Rattle.csv.specs.Records.{Row, fields_of}
use Rattle.ruled_io.specs.Stream.{FailsIn}
use Rattle.ruled_io.proofs.Shows.{writes-only}
use Rattle.ruled_io.proofs.Tables.{Goes, drop-next, goes-begin, goes-end, goes-fails, goes-next, handed, waits-cut, waits-written}
use Rattle.ruled_io.proofs.lines.write_rows.Goals as goal

pub loop-fields-init : goal.loop-fields-init
loop-fields-init g c = (
  λ options plan above has. goes-begin options plan above (map fields_of c.args.rows.now) c.args.table.now (g.W.Write.contents c.args.out.now.writer) _ c.clear.ensures.bytes has,
  λ none. none,
)

pub returns-in_err-write_row-clause-failed : goal.returns-in_err-write_row-clause-failed
returns-in_err-write_row-clause-failed g c = λ options plan above has.
    let rows : List Row = c.args.rows.now in
    let i = c.loop-fields.fields-index in
    let old = g.W.Write.contents c.args.out.now.writer in
    let mid = g.W.Write.contents c.loop-fields.out.writer in
    let new = g.W.Write.contents c.write_row.new.out.writer in
    let buf = string_bytes c.loop-fields.buf in
    let steps : drop i rows ≡ c.fields-item.result ∷ drop (i + 1) rows = drop-next rows i c.fields-item.result (omega arith) c.fields-item.is in
    let goes = subst (λ (left : List Row). Goes options plan above (map fields_of rows) (map fields_of left) c.loop-fields.table old mid buf) steps (c.loop-fields.invariant.0 options plan above has) in
    handed (FailsIn options plan above (map fields_of rows) old new) c.in_err-write_row.field-0.0 c.from_residual.result c.from_residual.ensures.1
    (goes-fails options plan above (map fields_of rows) (map fields_of (drop (i + 1) rows)) (fields_of c.fields-item.result) c.loop-fields.table old mid new buf c.in_err-write_row.field-0.0
    (λ done some waits. c.in_err-write_row.ensures.failed options plan above done old some waits) goes)

pub loop-fields-preserved : goal.loop-fields-preserved
loop-fields-preserved g c = (
  λ options plan above has.
      let rows : List Row = c.args.rows.now in
      let i = c.loop-fields.fields-index in
      let old = g.W.Write.contents c.args.out.now.writer in
      let mid = g.W.Write.contents c.loop-fields.out.writer in
      let new = g.W.Write.contents c.write_row.new.out.writer in
      let buf = string_bytes c.loop-fields.buf in
      let steps : drop i rows ≡ c.fields-item.result ∷ drop (i + 1) rows = drop-next rows i c.fields-item.result (omega arith) c.fields-item.is in
      let goes = subst (λ (left : List Row). Goes options plan above (map fields_of rows) (map fields_of left) c.loop-fields.table old mid buf) steps (c.loop-fields.invariant.0 options plan above has) in
      goes-next options plan above (map fields_of rows) (map fields_of (drop (i + 1) rows)) (fields_of c.fields-item.result) c.loop-fields.table c.write_row.new.table old mid new buf (string_bytes c.write_row.new.buf)
      (λ done some. c.in_ok-write_row.ensures.after options plan done some) (λ done some waits. c.in_ok-write_row.ensures.written options plan above done old some waits) goes,
  λ none. c.in_ok-write_row.ensures.told (c.loop-fields.invariant.1 none),
)

pub returns-clause-after : goal.returns-clause-after
returns-clause-after g c = λ options plan above has.
    let rows : List Row = c.args.rows.now in
    let i = c.loop-fields.fields-index in
    let past : length rows ≤ i = omega arith in
    let none : drop i rows ≡ [] = nil_from_length (drop i rows) (omega (arith, length-drop i rows)) in
    let ended = goes-end options plan above (map fields_of rows) (map fields_of (drop i rows)) c.loop-fields.table (g.W.Write.contents c.args.out.now.writer) (g.W.Write.contents c.loop-fields.out.writer) (string_bytes c.loop-fields.buf)
    (ap (map fields_of) none) (c.loop-fields.invariant.0 options plan above has)
    in
    on_ok_weaker c.write.result (λ wrote. ended.0) c.write.ensures.written

pub returns-clause-written : goal.returns-clause-written
returns-clause-written g c = λ options plan above has.
    let rows : List Row = c.args.rows.now in
    let i = c.loop-fields.fields-index in
    let past : length rows ≤ i = omega arith in
    let none : drop i rows ≡ [] = nil_from_length (drop i rows) (omega (arith, length-drop i rows)) in
    let old = g.W.Write.contents c.args.out.now.writer in
    let mid = g.W.Write.contents c.loop-fields.out.writer in
    let buf = string_bytes c.loop-fields.buf in
    let ended = goes-end options plan above (map fields_of rows) (map fields_of (drop i rows)) c.loop-fields.table old mid buf (ap (map fields_of) none) (c.loop-fields.invariant.0 options plan above has) in
    on_ok_weaker c.write.result (λ wrote. waits-written options plan above (map fields_of rows) old mid (g.W.Write.contents c.write.new.self.writer) buf c.as_bytes.result.now c.as_bytes.ensures.value ended.1 wrote) c.write.ensures.written

pub returns-clause-failed : goal.returns-clause-failed
returns-clause-failed g c = λ options plan above has.
    let rows : List Row = c.args.rows.now in
    let i = c.loop-fields.fields-index in
    let past : length rows ≤ i = omega arith in
    let none : drop i rows ≡ [] = nil_from_length (drop i rows) (omega (arith, length-drop i rows)) in
    let old = g.W.Write.contents c.args.out.now.writer in
    let mid = g.W.Write.contents c.loop-fields.out.writer in
    let buf = string_bytes c.loop-fields.buf in
    let ended = goes-end options plan above (map fields_of rows) (map fields_of (drop i rows)) c.loop-fields.table old mid buf (ap (map fields_of) none) (c.loop-fields.invariant.0 options plan above has) in
    waits-cut options plan above (map fields_of rows) old mid (g.W.Write.contents c.write.new.self.writer) buf c.as_bytes.result.now c.write.result c.as_bytes.ensures.value ended.1 c.write.ensures.begun c.write.ensures.failed

pub returns-clause-told : goal.returns-clause-told
returns-clause-told g c = λ none. c.write.ensures.told (c.loop-fields.invariant.1 none)

pub returns-clause-writes : goal.returns-clause-writes
returns-clause-writes g c = writes-only c.write.result c.write.ensures.failed

use Rattle.std.proofs.Common.{◌≡◌, ◌≤◌, ◌+◌, ◌∷◌, [], List, drop, length, length-drop, map, ap, subst, arith}
use Rattle.std.proofs.lemmas.List.{nil_from_length}
use Rattle.csv.specs.Records.{Row, fields_of}
use Rattle.ruled_io.proofs.Shows.{Blocked, blocked-begin, blocked-end, blocked-handed, blocked-on}
use Rattle.ruled_io.proofs.Tables.{drop-next}
use Rattle.ruled_io.proofs.at_once.write_blocks.Goals as goal

pub loop-fields-init : goal.loop-fields-init
loop-fields-init g c = (λ options names has. blocked-begin options names (map fields_of c.args.records.now) (g.W.Write.contents c.args.out.now.writer), λ none. none)

pub returns-in_err-write_block-clause-draws : goal.returns-in_err-write_block-clause-draws
returns-in_err-write_block-clause-draws g c = λ options names has.
    let rows : List Row = c.args.records.now in
    let i = c.loop-fields.fields-index in
    let old = g.W.Write.contents c.args.out.now.writer in
    let mid = g.W.Write.contents c.loop-fields.out.writer in
    let new = g.W.Write.contents c.write_block.new.out.writer in
    let steps : drop i rows ≡ c.fields-item.result ∷ drop (i + 1) rows = drop-next rows i c.fields-item.result (omega arith) c.fields-item.is in
    let blocked = subst (λ (left : List Row). Blocked options names (map fields_of rows) (map fields_of left) old mid) steps (c.loop-fields.invariant.0 options names has) in
    blocked-handed options names (map fields_of rows) (map fields_of (drop (i + 1) rows)) (fields_of c.fields-item.result) old mid new c.in_err-write_block.field-0.0 c.from_residual.result blocked
    (c.in_err-write_block.ensures.draws options names has) c.from_residual.ensures.1

pub loop-fields-preserved : goal.loop-fields-preserved
loop-fields-preserved g c = (
  λ options names has.
      let rows : List Row = c.args.records.now in
      let i = c.loop-fields.fields-index in
      let old = g.W.Write.contents c.args.out.now.writer in
      let mid = g.W.Write.contents c.loop-fields.out.writer in
      let new = g.W.Write.contents c.write_block.new.out.writer in
      let steps : drop i rows ≡ c.fields-item.result ∷ drop (i + 1) rows = drop-next rows i c.fields-item.result (omega arith) c.fields-item.is in
      let blocked = subst (λ (left : List Row). Blocked options names (map fields_of rows) (map fields_of left) old mid) steps (c.loop-fields.invariant.0 options names has) in
      blocked-on options names (map fields_of rows) (map fields_of (drop (i + 1) rows)) (fields_of c.fields-item.result) old mid new blocked (c.in_ok-write_block.ensures.draws options names has),
  λ none. c.in_ok-write_block.ensures.told (c.loop-fields.invariant.1 none),
)

pub returns-clause-draws : goal.returns-clause-draws
returns-clause-draws g c = λ options names has.
    let rows : List Row = c.args.records.now in
    let i = c.loop-fields.fields-index in
    let past : length rows ≤ i = omega arith in
    let none : drop i rows ≡ [] = nil_from_length (drop i rows) (omega (arith, length-drop i rows)) in
    blocked-end options names (map fields_of rows) (map fields_of (drop i rows)) (g.W.Write.contents c.args.out.now.writer) (g.W.Write.contents c.loop-fields.out.writer) (ap (map fields_of) none) (c.loop-fields.invariant.0 options names has)

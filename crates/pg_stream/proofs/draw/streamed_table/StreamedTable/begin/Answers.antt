use Rattle.std.proofs.Common.{◌≡◌, ◌∙◌, sym, ap, subst, get_or, length, max, arith, ◌<◌, slice_index_or, [], Option, None}
use Rattle.pg_layout.specs.Position.{at}
use Rattle.pg_config.specs.Spans.{rect_columns}
use Rattle.pg_picture.proofs.Owners.{apart_from, owners_of, owner-columns}
use Rattle.pg_stream.specs.Conditions.{HasRoom}
use Rattle.pg_stream.specs.Inside.{column_end, reach, begin_cell}
use Rattle.pg_stream.proofs.draw.OpenLists.{partly-none, partly-all, partly-length}
use Rattle.pg_stream.proofs.draw.PartsOfLines.{reach-none, reach-more}
use Rattle.pg_stream.proofs.draw.Beginning.{own_at, own-now, owner-now, own-rows, own-columns, inside-columns, reach-set, read-more, read-none, begun-more, begun-is}
use Rattle.pg_stream.proofs.draw.streamed_table.StreamedTable.begin.Goals as goal

pub loop-column-init : goal.loop-column-init
loop-column-init g c = (
  reach-none g.T.TableMarker.table.config.spans c.args.opened.now,
  λ texts gives. record { left = gives; begun = partly-none (λ x. begin_cell g.T.TableMarker.table c.args.row (slice_index_or texts x []) x) 0 c.args.opened.now },
)

pub returns-in_default : goal.returns-in_default
returns-in_default g c = λ texts gives.
    let texts = c.requires.given.0 in
    let reading = c.loop-column.invariant.1 texts c.requires.given.1 in
    let i = c.loop-column.column in
    absurd (read-none g.S.AsStr.text g.I.Iterator.next_gives c.loop-column.cells c.next.new.self texts i (omega arith) reading.left (subst (λ (r : Option g.row.S.Denot). g.I.Iterator.next_gives c.loop-column.cells r c.next.new.self) c.in_default.is c.next.ensures.steps))

pub begin_one-end-requires-clause-column : goal.begin_one-end-requires-clause-column
begin_one-end-requires-clause-column g c =
    let t = g.T.TableMarker.table in
    let texts = c.requires.given.0 in
    let reading = c.loop-column.invariant.1 texts c.requires.given.1 in
    let i = c.loop-column.column in
    let e = ap length reading.begun ∙ partly-length (λ x. begin_cell t c.args.row (slice_index_or texts x []) x) 0 i c.args.opened.now in
    omega (arith, e, c.loop-column-test.true, c.requires.columns)

pub begin_one-end-requires-clause-own : goal.begin_one-end-requires-clause-own
begin_one-end-requires-clause-own g c =
    let t = g.T.TableMarker.table in
    let spans = t.config.spans in
    let texts = c.requires.given.0 in
    let reading = c.loop-column.invariant.1 texts c.requires.given.1 in
    let apart = apart_from spans t.columns c.requires.spans in
    let owners = owners_of spans apart in
    let i = c.loop-column.column in
    own-now t owners c.args.row t.columns texts c.args.opened.now c.requires.columns c.requires.above i c.loop-column.opened c.loop-column.end (omega arith) reading.begun c.loop-column.invariant.0

pub begin_one-end-requires-clause-may : goal.begin_one-end-requires-clause-may
begin_one-end-requires-clause-may g c = λ own.
    let t = g.T.TableMarker.table in
    let spans = t.config.spans in
    let texts = c.requires.given.0 in
    let reading = c.loop-column.invariant.1 texts c.requires.given.1 in
    let apart = apart_from spans t.columns c.requires.spans in
    let owners = owners_of spans apart in
    let i = c.loop-column.column in
    let end = owner-columns spans t.columns apart c.requires.spans c.args.row i (omega arith) in
    let wide = ap (λ p. rect_columns spans p) (own_at spans c.args.row i own) in
    let col = ap (λ p. p.col) (own_at spans c.args.row i own) in
    let now = read-more g.S.AsStr.text g.I.Iterator.next_gives c.loop-column.cells c.next.new.self c.in-Some.value texts i reading.left (subst (λ (r : Option g.row.S.Denot). g.I.Iterator.next_gives c.loop-column.cells r c.next.new.self) c.in-Some.is c.next.ensures.steps) in
    record {
      rows = own-rows spans owners c.args.row i own;
      columns = own-columns spans owners c.args.row i own;
      inside = omega (arith, end, wide, col);
      room = subst (HasRoom t (at c.args.row i)) now.0 (c.requires.given.3 i (omega arith) own);
    }

pub begin_one-end-requires-clause-inside : goal.begin_one-end-requires-clause-inside
begin_one-end-requires-clause-inside g c =
    let t = g.T.TableMarker.table in
    let spans = t.config.spans in
    let texts = c.requires.given.0 in
    let reading = c.loop-column.invariant.1 texts c.requires.given.1 in
    let apart = apart_from spans t.columns c.requires.spans in
    let owners = owners_of spans apart in
    let i = c.loop-column.column in
    let whole : t.columns ≡ length c.loop-column.opened = c.requires.columns ∙ sym (ap length reading.begun ∙ partly-length (λ x. begin_cell t c.args.row (slice_index_or texts x []) x) 0 i c.args.opened.now) in
    inside-columns spans c.args.row t.columns c.loop-column.opened apart c.requires.spans whole
    (λ x cell h here. owner-now t owners c.args.row t.columns texts c.args.opened.now c.requires.columns c.requires.above i x c.loop-column.opened cell h reading.begun here)

pub loop-column-preserved : goal.loop-column-preserved
loop-column-preserved g c =
    let t = g.T.TableMarker.table in
    let i = c.loop-column.column in
    let inside : i < length c.args.opened.now = omega (arith, c.loop-column-test.true, c.requires.columns) in (
      c.begin_one-end.ensures.end
          ∙ ap (λ n. max n (column_end t.config.spans (get_or c.begin_one-end.new.opened i None) i)) (c.loop-column.invariant.0 ∙ sym (ap (λ l. reach t.config.spans l i) c.begin_one-end.ensures.begun ∙ reach-set t.config.spans c.loop-column.opened i _))
          ∙ reach-more t.config.spans c.begin_one-end.new.opened i,
      λ texts gives.
          let reading = c.loop-column.invariant.1 texts gives in
          let now = read-more g.S.AsStr.text g.I.Iterator.next_gives c.loop-column.cells c.next.new.self c.in-Some.value texts i reading.left (subst (λ (r : Option g.row.S.Denot). g.I.Iterator.next_gives c.loop-column.cells r c.next.new.self) c.in-Some.is c.next.ensures.steps) in
          record { left = now.1; begun = begun-more t c.args.row i (g.S.AsStr.text c.in-Some.value) texts c.args.opened.now c.loop-column.opened c.begin_one-end.new.opened reading.begun inside now.0 c.begin_one-end.ensures.begun },
    )

pub returns : goal.returns
returns g c = λ texts gives.
    (c.loop-column.invariant.1 texts gives).begun
    ∙ partly-all (λ x. begin_cell g.T.TableMarker.table c.args.row (slice_index_or texts x []) x) 0 c.loop-column.column c.args.opened.now (omega (arith, c.loop-column-test.false, c.requires.columns))
    ∙ begun-is g.T.TableMarker.table c.args.row texts c.args.opened.now

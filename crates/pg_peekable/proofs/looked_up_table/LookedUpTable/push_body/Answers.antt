use Rattle.std.proofs.Common.{◌≡◌, ◌<◌, ◌∙◌, length, refl, arith}
use Rattle.pg_picture.specs.Table.{table_body}
use Rattle.pg_picture.proofs.Appending.{Gained-none, Gained-text, Gained-more, gained-then, refused, Appends-text}
use Rattle.pg_picture.proofs.Pictures.{above-none, above-none-text, above-length, above-text, row-room, body-text-cut, last-room, last-text}
use Rattle.pg_peekable.proofs.looked_up_table.LookedUpTable.push_body.Goals as goal

pub loop-row-init : goal.loop-row-init
loop-row-init g c =
    let t = g.T.TableMarker.table in
    let n = t.config.margin.top.size in
    record { gained = Gained-text (above-none-text t n) (Gained-none c.args.buf.now); index = above-none t n }

pub push_row-requires : goal.push_row-requires
push_row-requires g c =
    let t = g.T.TableMarker.table in
    let n = t.config.margin.top.size in
    let here : c.loop-row.row < t.rows = omega (arith, c.args.self.now.shape.rows) in
    record { row = record { row = here; room = row-room t n c.loop-row.index c.loop-row.row (length (table_body t)) c.loop-row.invariant.index refl here } }

pub returns-in_err-index : goal.returns-in_err-index
returns-in_err-index g c =
    let t = g.T.TableMarker.table in
    let n = t.config.margin.top.size in
    let here : c.loop-row.row < t.rows = omega (arith, c.args.self.now.shape.rows) in
    refused _ (body-text-cut t n c.loop-row.index c.loop-row.row c.loop-row.invariant.index here) c.from_residual.ensures.0 c.loop-row.invariant.gained c.in_err-index.ensures.lines

pub loop-row-preserved : goal.loop-row-preserved
loop-row-preserved g c =
    let t = g.T.TableMarker.table in
    let n = t.config.margin.top.size in
    record {
      gained = Gained-text (above-text t n c.loop-row.index c.loop-row.row c.loop-row.invariant.index) (Gained-more c.loop-row.invariant.gained c.in_ok-index.ensures.lines);
      index = c.in_ok-index.ensures.index ∙ above-length t n c.loop-row.index c.loop-row.row c.loop-row.invariant.index;
    }

pub push_last-requires : goal.push_last-requires
push_last-requires g c =
    let t = g.T.TableMarker.table in
    let n = t.config.margin.top.size in
    let ended : c.loop-row.row ≡ t.rows = omega (arith, c.args.self.now.shape.rows) in
    record { room = last-room t n c.loop-row.index c.loop-row.row (length (table_body t)) c.loop-row.invariant.index ended refl }

pub returns : goal.returns
returns g c =
    let t = g.T.TableMarker.table in
    let n = t.config.margin.top.size in
    let ended : c.loop-row.row ≡ t.rows = omega (arith, c.args.self.now.shape.rows) in
    Appends-text (last-text t n c.loop-row.index c.loop-row.row c.loop-row.invariant.index ended) (gained-then c.loop-row.invariant.gained c.push_last.ensures)

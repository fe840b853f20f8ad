use Rattle.std.proofs.Common.{◌++◌, List, [], ◌∷◌, None, refl, sym, ap, ◌∙◌}
use Rattle.pg_layout.specs.declared.position.Position.{Position}
use Rattle.pg_layout.specs.Position.{at}
use Rattle.pg_config.specs.Spans.{corner}
use Rattle.pg_picture.specs.Marks.{sep}
use Rattle.pg_picture.specs.Pieces.{Piece, block, cut, written}
use Rattle.pg_picture.specs.Inside.{items_after, last_color}
use Rattle.pg_picture.specs.Table.{crossing_at, block_at}
use Rattle.pg_picture.proofs.Appending.{Appends-text, ◌then◌, stopped, refused-as, appended-as}
use Rattle.pg_picture.proofs.WalksOfRows.{span_above-below}
use Rattle.pg_peekable.proofs.CanDraw.{in_order, above-row, found_owns, found_some, found_sep_inside, found_sep}
use Rattle.pg_peekable.proofs.RowParts.{block-text, block-color, found-above}
use Rattle.pg_peekable.proofs.looked_up_table.LookedUpTable.push_block.Goals as goal

pub returns-in_err-run-clause-appends : goal.returns-in_err-run-clause-appends
returns-in_err-run-clause-appends g c =
    let t = g.T.TableMarker.table in
    let crossing = crossing_at t.config t.rows t.columns c.new-pos.result in
    let its : List Piece = block_at t (corner c.args.span) (sep c.args.separator.now.row) in
    let place = ap (λ (p : Position). items_after c.args.run (crossing_at t.config t.rows t.columns p ++ block its ∷ [])) c.new-pos.ensures in
    Appends-text (block-text c.args.run crossing its refl refl ∙ place) (stopped (cut (last_color c.args.run crossing) None ++ written its) c.from_residual.ensures.0 c.in_err-run.ensures.appends)

pub returns-in_err-run-2-clause-appends : goal.returns-in_err-run-2-clause-appends
returns-in_err-run-2-clause-appends g c =
    let t = g.T.TableMarker.table in
    let crossing = crossing_at t.config t.rows t.columns c.new-pos.result in
    let its : List Piece = block_at t (corner c.args.span) (sep c.args.separator.now.row) in
    let place = ap (λ (p : Position). items_after c.args.run (crossing_at t.config t.rows t.columns p ++ block its ∷ [])) c.new-pos.ensures in
    Appends-text (block-text c.args.run crossing its c.in_ok-run.ensures.color refl ∙ place) (c.in_ok-run.ensures.appends then stopped (written its) c.from_residual-in_err-run-2.ensures.0 c.in_err-run-2.ensures.appends)

pub rectangle_at-rectangle-requires : goal.rectangle_at-rectangle-requires
rectangle_at-rectangle-requires g c =
    let t = g.T.TableMarker.table in
    record { owner = found_owns t c.args.self.now.can c.args.separator.now.row c.args.column c.args.span (found-above t (in_order t c.args.self.now.can) c.args.separator.now.row c.args.column c.args.span c.requires.span) }

pub overflow_sub-rectangle : goal.overflow_sub-rectangle
overflow_sub-rectangle g c =
    let t = g.T.TableMarker.table in
    found_some t c.args.self.now.can c.args.separator.now.row c.args.column c.args.span (found-above t (in_order t c.args.self.now.can) c.args.separator.now.row c.args.column c.args.span c.requires.span) c.rectangle_at-rectangle.result.rectangle.corner c.rectangle_at-rectangle.ensures.corner c.rectangle_at-rectangle.result.above (above-row t c.args.separator.now.row c.rectangle_at-rectangle.result.is c.rectangle_at-rectangle.ensures.row) (span_above-below t.config.spans c.args.separator.now.row c.args.column c.args.span c.requires.span) c.args.separator.now.is

pub push_rectangle-requires : goal.push_rectangle-requires
push_rectangle-requires g c =
    let t = g.T.TableMarker.table in
    record { number = found_sep_inside t c.args.self.now.can c.args.separator.now.row c.args.column c.args.span (found-above t (in_order t c.args.self.now.can) c.args.separator.now.row c.args.column c.args.span c.requires.span) c.rectangle_at-rectangle.result.rectangle.corner c.rectangle_at-rectangle.ensures.corner c.rectangle_at-rectangle.result.above (above-row t c.args.separator.now.row c.rectangle_at-rectangle.result.is c.rectangle_at-rectangle.ensures.row) (span_above-below t.config.spans c.args.separator.now.row c.args.column c.args.span c.requires.span) c.args.separator.now.is }

pub returns-in_err-push_rectangle-clause-appends : goal.returns-in_err-push_rectangle-clause-appends
returns-in_err-push_rectangle-clause-appends g c =
    let t = g.T.TableMarker.table in
    let crossing = crossing_at t.config t.rows t.columns c.new-pos.result in
    let its : List Piece = block_at t (corner c.args.span) (sep c.args.separator.now.row) in
    let place = ap (λ (p : Position). items_after c.args.run (crossing_at t.config t.rows t.columns p ++ block its ∷ [])) c.new-pos.ensures in
    Appends-text (block-text c.args.run crossing its c.in_ok-run.ensures.color (found_sep t c.args.self.now.can c.args.separator.now.row c.args.column c.args.span (found-above t (in_order t c.args.self.now.can) c.args.separator.now.row c.args.column c.args.span c.requires.span) c.rectangle_at-rectangle.result.rectangle.corner c.rectangle_at-rectangle.ensures.corner c.rectangle_at-rectangle.result.above (above-row t c.args.separator.now.row c.rectangle_at-rectangle.result.is c.rectangle_at-rectangle.ensures.row) (span_above-below t.config.spans c.args.separator.now.row c.args.column c.args.span c.requires.span) c.args.separator.now.is) ∙ place)
    (c.in_ok-run.ensures.appends then (c.in_ok-run-2.ensures.appends then refused-as c.from_residual-in_err-push_rectangle.ensures.0 c.in_err-push_rectangle.ensures))

pub returns-clause-appends : goal.returns-clause-appends
returns-clause-appends g c =
    let t = g.T.TableMarker.table in
    let crossing = crossing_at t.config t.rows t.columns c.new-pos.result in
    let its : List Piece = block_at t (corner c.args.span) (sep c.args.separator.now.row) in
    let place = ap (λ (p : Position). items_after c.args.run (crossing_at t.config t.rows t.columns p ++ block its ∷ [])) c.new-pos.ensures in
    Appends-text (block-text c.args.run crossing its c.in_ok-run.ensures.color (found_sep t c.args.self.now.can c.args.separator.now.row c.args.column c.args.span (found-above t (in_order t c.args.self.now.can) c.args.separator.now.row c.args.column c.args.span c.requires.span) c.rectangle_at-rectangle.result.rectangle.corner c.rectangle_at-rectangle.ensures.corner c.rectangle_at-rectangle.result.above (above-row t c.args.separator.now.row c.rectangle_at-rectangle.result.is c.rectangle_at-rectangle.ensures.row) (span_above-below t.config.spans c.args.separator.now.row c.args.column c.args.span c.requires.span) c.args.separator.now.is) ∙ place)
    (c.in_ok-run.ensures.appends then (c.in_ok-run-2.ensures.appends then appended-as c.in_ok-push_rectangle.ensures))

pub returns-clause-color : goal.returns-clause-color
returns-clause-color g c =
    let t = g.T.TableMarker.table in
    let crossing = crossing_at t.config t.rows t.columns (at c.args.separator.now.row c.args.column) in
    let its : List Piece = block_at t (corner c.args.span) (sep c.args.separator.now.row) in
    c.in_ok-run-2.ensures.color ∙ sym (block-color c.args.run crossing its)

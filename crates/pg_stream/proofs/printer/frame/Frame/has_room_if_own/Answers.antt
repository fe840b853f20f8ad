use Rattle.std.proofs.Common.{true, false, sym, ap, ◌∙◌, arith}
use Rattle.std.proofs.lemmas.Bool.{false≢true}
use Rattle.pg_config.specs.Spans.{rect_columns}
use Rattle.pg_picture.proofs.Owners.{apart_from, owners_of, owner-columns}
use Rattle.pg_stream.proofs.draw.Beginning.{own_at, own-rows, own-columns}
use Rattle.pg_picture.proofs.FirstPlaces.{own_unless}
use Rattle.pg_stream.proofs.printer.MakingPrinters.{last_end, in_order}
use Rattle.pg_stream.proofs.printer.frame.Frame.has_room_if_own.Goals as goal

pub has_room-requires-clause-rows : goal.has_room-requires-clause-rows
has_room-requires-clause-rows g c =
    let spans = c.args.self.now.sheet.config.now.spans in
    let own = own_unless spans (last_end spans) c.args.self.now.sheet.columns (in_order spans c.args.self.now.sheet.columns c.spans-spans.ensures.ascending c.requires.spans) c.args.pos.row c.args.pos.col c.args.span c.begins_above.result false c.requires.left c.requires.span c.begins_above.ensures c.if-begins_above.false in
    own-rows spans (owners_of spans (apart_from spans c.args.self.now.sheet.columns c.requires.spans)) c.args.pos.row c.args.pos.col own

pub has_room-requires-clause-columns : goal.has_room-requires-clause-columns
has_room-requires-clause-columns g c =
    let spans = c.args.self.now.sheet.config.now.spans in
    let own = own_unless spans (last_end spans) c.args.self.now.sheet.columns (in_order spans c.args.self.now.sheet.columns c.spans-spans.ensures.ascending c.requires.spans) c.args.pos.row c.args.pos.col c.args.span c.begins_above.result false c.requires.left c.requires.span c.begins_above.ensures c.if-begins_above.false in
    own-columns spans (owners_of spans (apart_from spans c.args.self.now.sheet.columns c.requires.spans)) c.args.pos.row c.args.pos.col own

pub has_room-requires-clause-inside : goal.has_room-requires-clause-inside
has_room-requires-clause-inside g c =
    let spans = c.args.self.now.sheet.config.now.spans in
    let own = own_unless spans (last_end spans) c.args.self.now.sheet.columns (in_order spans c.args.self.now.sheet.columns c.spans-spans.ensures.ascending c.requires.spans) c.args.pos.row c.args.pos.col c.args.span c.begins_above.result false c.requires.left c.requires.span c.begins_above.ensures c.if-begins_above.false in
    let end = owner-columns spans c.args.self.now.sheet.columns (apart_from spans c.args.self.now.sheet.columns c.requires.spans) c.requires.spans c.args.pos.row c.args.pos.col c.requires.column in
    let wide = ap (λ p. rect_columns spans p) (own_at spans c.args.pos.row c.args.pos.col own) in
    let col = ap (λ p. p.col) (own_at spans c.args.pos.row c.args.pos.col own) in
    omega (arith, end, wide, col)

pub returns-then-begins_above : goal.returns-then-begins_above
returns-then-begins_above g c =
    let spans = c.args.self.now.sheet.config.now.spans in
    let other = own_unless spans (last_end spans) c.args.self.now.sheet.columns (in_order spans c.args.self.now.sheet.columns c.spans-spans.ensures.ascending c.requires.spans) c.args.pos.row c.args.pos.col c.args.span c.begins_above.result true c.requires.left c.requires.span c.begins_above.ensures c.if-begins_above.true in
    (λ above own. absurd (false≢true (sym other ∙ own)), λ rooms. c.if-begins_above.true)

pub returns-else-begins_above : goal.returns-else-begins_above
returns-else-begins_above g c =
    let spans = c.args.self.now.sheet.config.now.spans in
    let own = own_unless spans (last_end spans) c.args.self.now.sheet.columns (in_order spans c.args.self.now.sheet.columns c.spans-spans.ensures.ascending c.requires.spans) c.args.pos.row c.args.pos.col c.args.span c.begins_above.result false c.requires.left c.requires.span c.begins_above.ensures c.if-begins_above.false in
    (λ fits here. c.has_room.ensures.0 fits, λ rooms. c.has_room.ensures.1 (rooms own))

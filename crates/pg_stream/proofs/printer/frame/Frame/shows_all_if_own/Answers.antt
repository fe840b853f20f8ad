use Rattle.std.proofs.Common.{true, false}
use Rattle.pg_picture.proofs.Owners.{apart_from, owners_of}
use Rattle.pg_picture.proofs.FirstPlaces.{own_unless}
use Rattle.pg_stream.proofs.draw.Beginning.{own-rows}
use Rattle.pg_stream.proofs.printer.MakingPrinters.{last_end, in_order}
use Rattle.pg_stream.proofs.printer.frame.Frame.shows_all_if_own.Goals as goal

pub shows_all-requires-clause-some : goal.shows_all-requires-clause-some
shows_all-requires-clause-some g c =
    let spans = c.args.self.now.sheet.config.now.spans in
    let own = own_unless spans (last_end spans) c.args.self.now.sheet.columns (in_order spans c.args.self.now.sheet.columns c.spans-spans.ensures.ascending c.requires.spans) c.args.pos.row c.args.pos.col c.args.span c.begins_above.result false c.requires.left c.requires.span c.begins_above.ensures c.if-begins_above.false in
    own-rows spans (owners_of spans (apart_from spans c.args.self.now.sheet.columns c.requires.spans)) c.args.pos.row c.args.pos.col own

pub shows_all-requires-clause-room : goal.shows_all-requires-clause-room
shows_all-requires-clause-room g c =
    let spans = c.args.self.now.sheet.config.now.spans in
    let own = own_unless spans (last_end spans) c.args.self.now.sheet.columns (in_order spans c.args.self.now.sheet.columns c.spans-spans.ensures.ascending c.requires.spans) c.args.pos.row c.args.pos.col c.args.span c.begins_above.result false c.requires.left c.requires.span c.begins_above.ensures c.if-begins_above.false in
    c.requires.room own

pub returns-then-begins_above : goal.returns-then-begins_above
returns-then-begins_above g c =
    let spans = c.args.self.now.sheet.config.now.spans in
    let other = own_unless spans (last_end spans) c.args.self.now.sheet.columns (in_order spans c.args.self.now.sheet.columns c.spans-spans.ensures.ascending c.requires.spans) c.args.pos.row c.args.pos.col c.args.span c.begins_above.result true c.requires.left c.requires.span c.begins_above.ensures c.if-begins_above.true in
    rw other c.if-begins_above.true

pub returns-else-begins_above : goal.returns-else-begins_above
returns-else-begins_above g c =
    let spans = c.args.self.now.sheet.config.now.spans in
    let own = own_unless spans (last_end spans) c.args.self.now.sheet.columns (in_order spans c.args.self.now.sheet.columns c.spans-spans.ensures.ascending c.requires.spans) c.args.pos.row c.args.pos.col c.args.span c.begins_above.result false c.requires.left c.requires.span c.begins_above.ensures c.if-begins_above.false in
    rw own c.shows_all.ensures

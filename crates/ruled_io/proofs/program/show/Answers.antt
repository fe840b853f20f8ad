use Rattle.std.proofs.Common.{◌≡◌, rules}
use Rattle.ruled_io.specs.declared.request.Rows.TheVariants.{AtOnce, FromFirst}
use Rattle.ruled_io.proofs.Shows.{once-caused, once-remarked, once-shown, rows-caused, rows-remarked, rows-shown}
use Rattle.ruled_io.proofs.program.show.Goals as goal

pub returns-in-AtOnce-clause-shown : goal.returns-in-AtOnce-clause-shown
returns-in-AtOnce-clause-shown g c =
    let is : c.args.request.now.rows ≡ AtOnce = search rules in
    once-shown (g.R.Read.remaining c.args.pieces.now.input) (g.W.Write.contents c.args.out.now.writer) (g.W.Write.contents c.show_at_once.new.out.writer) c.args.request.now c.show_at_once.result is c.show_at_once.ensures.shown

pub returns-in-AtOnce-clause-cause : goal.returns-in-AtOnce-clause-cause
returns-in-AtOnce-clause-cause g c =
    let is : c.args.request.now.rows ≡ AtOnce = search rules in
    once-caused (g.R.Read.remaining c.args.pieces.now.input) (g.W.Write.contents c.args.out.now.writer) (g.W.Write.contents c.show_at_once.new.out.writer) c.args.request.now c.show_at_once.result is c.show_at_once.ensures.cause

pub returns-in-FromFirst-clause-shown : goal.returns-in-FromFirst-clause-shown
returns-in-FromFirst-clause-shown g c =
    let is : c.args.request.now.rows ≡ FromFirst c.in-FromFirst.count = search rules in
    rows-shown (g.R.Read.remaining c.args.pieces.now.input) (g.W.Write.contents c.args.out.now.writer) (g.W.Write.contents c.stream.new.out.writer) c.args.request.now c.in-FromFirst.count c.stream.result is c.stream.ensures.ends

pub returns-in-FromFirst-clause-cause : goal.returns-in-FromFirst-clause-cause
returns-in-FromFirst-clause-cause g c =
    let is : c.args.request.now.rows ≡ FromFirst c.in-FromFirst.count = search rules in
    rows-caused (g.R.Read.remaining c.args.pieces.now.input) (g.W.Write.contents c.args.out.now.writer) (g.W.Write.contents c.stream.new.out.writer) c.args.request.now c.in-FromFirst.count c.stream.result is c.stream.ensures.ends

pub returns-in-AtOnce-clause-told : goal.returns-in-AtOnce-clause-told
returns-in-AtOnce-clause-told g c = c.show_at_once.ensures.told

pub returns-in-FromFirst-clause-told : goal.returns-in-FromFirst-clause-told
returns-in-FromFirst-clause-told g c = c.stream.ensures.told

pub returns-in-AtOnce-clause-noted : goal.returns-in-AtOnce-clause-noted
returns-in-AtOnce-clause-noted g c = c.show_at_once.ensures.noted

pub returns-in-FromFirst-clause-noted : goal.returns-in-FromFirst-clause-noted
returns-in-FromFirst-clause-noted g c = c.stream.ensures.noted

pub returns-in-AtOnce-clause-remarks : goal.returns-in-AtOnce-clause-remarks
returns-in-AtOnce-clause-remarks g c =
    let is : c.args.request.now.rows ≡ AtOnce = search rules in
    once-remarked (g.R.Read.remaining c.args.pieces.now.input) c.args.request.now c.show_at_once.result is c.show_at_once.ensures.remarks

pub returns-in-FromFirst-clause-remarks : goal.returns-in-FromFirst-clause-remarks
returns-in-FromFirst-clause-remarks g c =
    let is : c.args.request.now.rows ≡ FromFirst c.in-FromFirst.count = search rules in
    rows-remarked (g.R.Read.remaining c.args.pieces.now.input) (g.W.Write.contents c.args.out.now.writer) (g.W.Write.contents c.stream.new.out.writer) c.args.request.now c.in-FromFirst.count c.stream.result is c.stream.ensures.ends

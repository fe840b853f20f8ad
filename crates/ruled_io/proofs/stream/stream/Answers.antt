use Rattle.ruled_io.specs.Reading.{read_failure}
use Rattle.ruled_io.specs.Stream.{StreamsAll, streamed_count}
use Rattle.ruled_io.proofs.Inputs.{if-more}
use Rattle.ruled_io.proofs.Shows.{ends-kept}
use Rattle.ruled_io.proofs.stream.stream.Goals as goal

pub returns-clause-ends : goal.returns-clause-ends
returns-clause-ends g c =
    let request = c.args.request.now in
    let count = c.args.count in
    let old = g.W.Write.contents c.args.out.now.writer in
    let mid = g.W.Write.contents c.show_input-answer.new.out.writer in
    let new = g.W.Write.contents c.show_to_end.new.out.writer in
    let answer = c.show_input-answer.result in
    let result = c.show_to_end.result in
    if-more {P = λ bytes. StreamsAll request count bytes old mid answer} {Q = λ bytes. StreamsAll request count bytes old new result} (g.R.Read.remaining c.args.pieces.now.input) c.show_input-answer.ensures.ends
    (λ bytes is streams.
    let (rows, wrong, are, ends) = streams in
    (rows, wrong, are, ends-kept request.view (streamed_count request count bytes) rows wrong old mid new answer result ends c.show_to_end.ensures.kept c.show_to_end.ensures.fine c.show_to_end.ensures.early))

pub returns-clause-told : goal.returns-clause-told
returns-clause-told g c = λ none. c.show_to_end.ensures.told (c.show_input-answer.ensures.told none)

pub returns-clause-noted : goal.returns-clause-noted
returns-clause-noted g c = c.show_to_end.ensures.noted (read_failure c.show_input-answer.new.pieces) c.show_input-answer.ensures.noted

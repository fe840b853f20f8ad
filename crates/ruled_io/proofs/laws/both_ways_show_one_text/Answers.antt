use Rattle.ruled_io.proofs.BothWays.{at_once_as_streams, one_fault, streams_as_at_once}
use Rattle.ruled_io.proofs.laws.both_ways_show_one_text.Goals as goal

pub returns-clause-streamed : goal.returns-clause-streamed
returns-clause-streamed c = streams_as_at_once

pub returns-clause-at_once : goal.returns-clause-at_once
returns-clause-at_once c = at_once_as_streams

pub returns-clause-wrong : goal.returns-clause-wrong
returns-clause-wrong c = one_fault

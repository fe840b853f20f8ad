use Rattle.std.proofs.Common.{List, map, sym, subst}
use Rattle.csv.specs.Records.{fields_of}
use Rattle.pg_layout.specs.Text.{Text}
use Rattle.ruled_io.specs.Reading.{StandsIn}
use Rattle.ruled_io.specs.declared.reader.Reading.{Reading}
use Rattle.ruled_io.proofs.stream.read_first.Goals as goal

pub loop-init : goal.loop-init
loop-init g c = λ origin stands. stands

pub returns-in-Done-clause-given : goal.returns-in-Done-clause-given
returns-in-Done-clause-given g c = λ origin stands.
    subst (λ (r : Reading). StandsIn origin (g.R.Read.remaining c.loop.pieces.input) (map fields_of c.loop.rows.items) r) c.in-Done.is (c.loop.invariant origin stands)

pub returns-then-len-count-clause-given : goal.returns-then-len-count-clause-given
returns-then-len-count-clause-given g c = λ origin stands. c.loop.invariant origin stands

pub loop-preserved : goal.loop-preserved
loop-preserved g c = λ origin stands.
    let left = g.R.Read.remaining c.read_on.new.self.input in
    let now = c.in_ok-reading-in_default.reading in
    let (more, is, next, goes) = c.in_ok-reading-in_default.ensures.given origin (map fields_of c.loop.rows.items) (c.loop.invariant origin stands) in
    subst (λ (rows : List (List Text)). StandsIn origin left rows now) (sym is) next

use Rattle.std.proofs.KnownBytes.{Keeps-trans}
use Rattle.ruled_io.proofs.program.tell.Goals as goal

pub returns : goal.returns
returns g c = λ none met alone.
    Keeps-trans (g.W.Write.contents c.args.err.now) (g.W.Write.contents c.tell_padded.new.err) (g.W.Write.contents c.tell_inner.new.err) (c.tell_padded.ensures none)
    (Keeps-trans (g.W.Write.contents c.tell_padded.new.err) (g.W.Write.contents c.tell_wide.new.err) (g.W.Write.contents c.tell_inner.new.err) (c.tell_wide.ensures met) (c.tell_inner.ensures alone))

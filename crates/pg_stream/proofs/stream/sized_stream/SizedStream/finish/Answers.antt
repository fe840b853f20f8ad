use Rattle.pg_stream.proofs.stream.StreamedRows.{sound-told, ends-told}
use Rattle.pg_stream.proofs.stream.sized_stream.SizedStream.finish.Goals as goal

pub close-requires-clause-sound : goal.close-requires-clause-sound
close-requires-clause-sound g c =
    sound-told g.D.Dimension.width g.D.Dimension.height g.C.Colors.color c.self.inside.frame c.self.inside.progress c.self.inside.above (c.self.invariant c.if-is_lost.false) 0 _ c.with_sizes-frame.ensures.table _ c.with_sizes-frame.ensures.hint c.with_sizes-frame.result c.with_sizes-frame.ensures.width c.with_sizes-frame.ensures.height c.with_sizes-frame.ensures.hint

pub returns-clause-ends : goal.returns-clause-ends
returns-clause-ends g c =
    rw (← c.self.view_is) (λ heights counts lives.
    ends-told g.D.Dimension.width g.D.Dimension.height g.C.Colors.color c.self.inside.frame c.self.inside.progress c.self.inside.above (c.self.invariant c.if-is_lost.false) _ c.with_sizes-frame.ensures.table _ c.with_sizes-frame.ensures.hint heights counts c.close.ensures.ends)

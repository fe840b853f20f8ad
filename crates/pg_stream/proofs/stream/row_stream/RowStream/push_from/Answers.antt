use Rattle.std.proofs.Common.{◌≡◌, List, IfOk, subst}
use Rattle.pg_layout.specs.Text.{Text}
use Rattle.pg_stream.specs.Streams.{Streaming, streaming, after_push}
use Rattle.pg_stream.proofs.stream.StreamedRows.{tells-row, tells-memory}
use Rattle.pg_stream.proofs.stream.row_stream.RowStream.push_from.Goals as goal

pub returns-clause-after : goal.returns-clause-after
returns-clause-after g c = λ texts gives.
    let before : Streaming = streaming g.D.Dimension.width g.D.Dimension.height g.C.Colors.color c.args.self in
    subst (λ (cells : List Text). IfOk c.push.result (λ s. streaming g.D.Dimension.width g.D.Dimension.height g.C.Colors.color s ≡ after_push before cells)) (c.in_ok-cells.ensures texts gives) c.push.ensures.after

pub returns-clause-misfit : goal.returns-clause-misfit
returns-clause-misfit g c = λ row is. tells-row row c.push.ensures.prints is

pub returns-clause-memory : goal.returns-clause-memory
returns-clause-memory g c = λ is. tells-memory c.push.ensures.prints is

pub returns-clause-untouched : goal.returns-clause-untouched
returns-clause-untouched g c = λ no. (c.push.ensures.prints.misfit no).1

use Rattle.std.proofs.Common.{ap, ◌∙◌}
use Rattle.pg_picture.specs.Pieces.{written}
use Rattle.pg_picture.specs.Table.{vertical}
use Rattle.pg_picture.proofs.Appending.{Appends-text}
use Rattle.pg_peekable.proofs.RowParts.{end-text}
use Rattle.pg_peekable.proofs.looked_up_table.LookedUpTable.push_end.Goals as goal

pub returns : goal.returns
returns g c =
    let t = g.T.TableMarker.table in
    let place = ap (λ x. written (vertical t c.args.line.now.row c.args.line.now.number x)) c.args.self.now.shape.columns in
    Appends-text (place ∙ end-text t c.args.line.now.row c.args.line.now.number) c.push_vertical.ensures

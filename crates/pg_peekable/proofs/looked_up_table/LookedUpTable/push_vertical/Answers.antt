use Rattle.std.proofs.Common.{ap}
use Rattle.pg_layout.specs.declared.position.Position.{Position}
use Rattle.pg_picture.specs.Pieces.{written}
use Rattle.pg_picture.specs.Table.{vertical}
use Rattle.pg_picture.proofs.Appending.{Appends-text}
use Rattle.pg_peekable.proofs.looked_up_table.LookedUpTable.push_vertical.Goals as goal

pub returns : goal.returns
returns g c = Appends-text (ap (λ (p : Position). written (vertical g.T.TableMarker.table p.row c.args.line.now.number p.col)) c.new-pos.ensures) c.push_vertical.ensures

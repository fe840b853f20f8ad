use Rattle.pg_fit.proofs.LawsOfControls.{block_test}
use Rattle.pg_fit.proofs.controls.is_block_printable.Goals as goal

pub returns : goal.returns
returns g c = block_test c.args.bytes.now c.args.from g.row.N c.requires.lanes c.requires.room

use Rattle.pg_layout.proofs.PlainBytes.{block_test}
use Rattle.pg_layout.proofs.text.is_block_plain.Goals as goal

pub returns : goal.returns
returns g c = block_test c.args.bytes.now c.args.from g.row.N c.requires.lanes c.requires.room

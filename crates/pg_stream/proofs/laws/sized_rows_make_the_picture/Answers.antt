use Rattle.pg_stream.proofs.SizedRows.{sized-make}
use Rattle.pg_stream.proofs.laws.sized_rows_make_the_picture.Goals as goal

pub returns : goal.returns
returns c = sized-make

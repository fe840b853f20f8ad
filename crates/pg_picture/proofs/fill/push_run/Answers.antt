-- each block is 64 times its character
use Rattle.std.proofs.Common.{refl}
use Rattle.pg_picture.specs.Pieces.{repeated}
use Rattle.pg_picture.proofs.fill.push_run.Goals as goal

pub push_blocks-requires : goal.push_blocks-requires
unfolding repeated lib.Utf8.encode
push_blocks-requires g c = refl

pub push_blocks-requires-in-45 : goal.push_blocks-requires-in-45
unfolding repeated lib.Utf8.encode
push_blocks-requires-in-45 g c = refl

pub push_blocks-requires-in-9472 : goal.push_blocks-requires-in-9472
unfolding repeated lib.Utf8.encode
push_blocks-requires-in-9472 g c = refl

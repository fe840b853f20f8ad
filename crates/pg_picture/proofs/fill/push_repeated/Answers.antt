use Rattle.std.proofs.Common.{refl, sym, ◌∙◌, ap}
use Rattle.pg_picture.specs.Pieces.{repeated}
use Rattle.pg_picture.proofs.Appending.{Appends-text}
use Rattle.pg_picture.proofs.PiecesOfLines.{repeated-one}
use Rattle.pg_picture.proofs.fill.push_repeated.Goals as goal

pub returns-then-count-eq1 : goal.returns-then-count-eq1
returns-then-count-eq1 g c = Appends-text (sym (repeated-one c.args.c) ∙ ap (λ n. repeated c.args.c n) (sym c.if-count-eq1.true)) c.push_char.ensures

pub front_of-requires-clause-block : goal.front_of-requires-clause-block
unfolding repeated lib.Utf8.encode
front_of-requires-clause-block g c = refl

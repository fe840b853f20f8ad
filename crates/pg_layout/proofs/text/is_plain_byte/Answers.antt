use Rattle.std.proofs.Common.{◌≡◌, ℕ, ◌<◌, false, map, get_or, refl, ap, ◌∙◌, arith}
use Rattle.std.proofs.lemmas.List.FromFn.{get_or-map-range_with_len}
use Rattle.std.specs.List.{range_with_len}
use Rattle.pg_layout.specs.Text.{is_plain_byte}
use Rattle.pg_layout.specs.declared.text.TheConstants.{PLAIN}
use Rattle.pg_layout.proofs.text.is_plain_byte.Goals as goal

-- the table has the test of each byte
table_is : PLAIN ≡ map is_plain_byte (range_with_len 0 256)
table_is = refl

read : (b : ℕ) → b < 256 → get_or PLAIN b false ≡ is_plain_byte b
read b h = ap (λ t. get_or t b false) table_is ∙ get_or-map-range_with_len is_plain_byte 0 256 b b false h (omega arith)

pub returns : goal.returns
returns c = rw c.from.ensures (read c.args.b (omega arith))

use Rattle.std.proofs.Common.{◌≡◌, ◌*◌, true, take}
use Rattle.std.specs.List.{list_all}
use Rattle.pg_layout.specs.Text.{is_plain_byte}
use Rattle.pg_layout.proofs.text.has_plain_blocks.Given as goal

abbrev pub invariant-loop-block : goal.invariant-loop-block
invariant-loop-block l = list_all is_plain_byte (take (16 * l.block) l.bytes) ≡ true

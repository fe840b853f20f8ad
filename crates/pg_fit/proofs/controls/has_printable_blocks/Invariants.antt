use Rattle.std.proofs.Common.{◌≡◌, ◌*◌, true, take}
use Rattle.std.specs.List.{list_all}
use Rattle.pg_fit.specs.Controls.{is_printable}
use Rattle.pg_fit.proofs.controls.has_printable_blocks.Given as goal

abbrev pub invariant-loop-block : goal.invariant-loop-block
invariant-loop-block l = list_all is_printable (take (16 * l.block) l.bytes) ≡ true

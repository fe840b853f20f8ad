use Rattle.std.proofs.Common.{◌≡◌, ℕ, ◌<◌, get_or, length}
use Rattle.pg_layout.specs.Position.{at}
use Rattle.pg_layout.specs.declared.alignment.AlignmentHorizontal.TheVariants.{Left}
use Rattle.pg_config.specs.Config.{get_alignment_horizontal}
use Rattle.pg_picture.proofs.column_sides.ColumnSides.of.Given as goal

abbrev pub invariant-loop-column : goal.invariant-loop-column
invariant-loop-column g l = (length l.first ≡ 32) × ((k : ℕ) → k < l.column → get_or l.first k Left ≡ get_alignment_horizontal l.config (at 0 k))

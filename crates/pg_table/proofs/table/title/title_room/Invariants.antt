use Rattle.std.proofs.Common.{◌≡◌, ◌+◌, ◌-◌, ◌^◌, min, sum, take, count_by}
use Rattle.std.specs.List.{range_with_len}
use Rattle.pg_config.specs.Config.{has_vertical}
use Rattle.pg_table.proofs.table.title.title_room.Given as goal

-- the columns so far, and the column lines
abbrev pub invariant-loop-width : goal.invariant-loop-width
invariant-loop-width g l = l.room ≡ min (count_by (λ c. has_vertical l.config c l.columns) (range_with_len 1 (l.columns - 1)) + sum (take l.width-index l.widths)) (2 ^ 64 - 1)

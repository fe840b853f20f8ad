use Rattle.std.proofs.Common.{◌≡◌, ◌-◌, ◌^◌, min, true}
use Rattle.std.specs.List.{list_all, sum_by}
use Rattle.pg_fit.specs.Controls.{is_letter, letter_columns}
use Rattle.pg_fit.proofs.line.letters_width.Given as goal

abbrev pub invariant-loop-c : goal.invariant-loop-c
invariant-loop-c l = record {
  letters : list_all is_letter l.yielded ≡ true;
  width : l.width ≡ min (sum_by letter_columns l.yielded) (2 ^ 64 - 1);
}

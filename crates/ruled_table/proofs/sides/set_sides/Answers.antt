use Rattle.std.proofs.Common.{◌∙◌, ℕ, sym, ap}
use Rattle.pg_layout.specs.declared.alignment.AlignmentHorizontal.{AlignmentHorizontal}
use Rattle.pg_config.specs.Config.{Config}
use Rattle.pg_config.specs.Settings.{Settings}
use Rattle.ruled_table.specs.Columns.{texts_of}
use Rattle.ruled_table.specs.Sides.{side_of, with_side}
use Rattle.ruled_table.proofs.LentTexts.{sides_more}
use Rattle.ruled_table.proofs.sides.set_sides.Goals as goal

pub loop-column-preserved : goal.loop-column-preserved
loop-column-preserved c =
    let column = c.loop-column.column in
    let given = c.args.config.now in
    let side : ℕ → AlignmentHorizontal = side_of c.args.options.now (texts_of c.args.rows) in
    let set : AlignmentHorizontal → Config → Config = λ at config. record config { alignment_horizontal = with_side column at config.alignment_horizontal } in
    c.in_ok-set_side.ensures
    ∙ ap (λ (at : AlignmentHorizontal). set at c.loop-column.config) c.side_of.ensures
    ∙ ap (set (side column)) c.loop-column.invariant
    ∙ ap (λ (settings : Settings AlignmentHorizontal). record given { alignment_horizontal = settings }) (sym (sides_more side column given.alignment_horizontal))

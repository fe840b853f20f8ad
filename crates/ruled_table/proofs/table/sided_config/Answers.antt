use Rattle.std.proofs.Common.{◌∙◌, ap}
use Rattle.pg_layout.specs.Records.{columns_of}
use Rattle.pg_config.specs.Config.{Config}
use Rattle.ruled_table.specs.Columns.{texts_of}
use Rattle.ruled_table.specs.Sides.{side_of, with_sides}
use Rattle.ruled_table.proofs.table.sided_config.Goals as goal

pub returns : goal.returns
returns c =
    let options = c.args.options.now in
    let rows = c.args.rows in
    let set : Config → Config = λ config. record config { alignment_horizontal = with_sides (side_of options (texts_of rows)) (columns_of (texts_of rows)) config.alignment_horizontal } in
    c.in_ok-set_sides.ensures ∙ ap set c.in_ok-config.ensures

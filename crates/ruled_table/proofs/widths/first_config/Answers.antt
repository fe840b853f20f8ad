use Rattle.std.proofs.Common.{◌∙◌, ℕ, List, length, Option, ap}
use Rattle.pg_layout.specs.Records.{columns_of}
use Rattle.pg_layout.specs.Text.{Text}
use Rattle.pg_layout.specs.declared.borders.HorizontalLine.{HorizontalLine}
use Rattle.pg_config.specs.Config.{Config}
use Rattle.ruled_table.specs.Columns.{texts_of}
use Rattle.ruled_table.specs.Tables.{with_line}
use Rattle.ruled_table.specs.Shown.{line_in}
use Rattle.ruled_table.proofs.widths.first_config.Goals as goal

pub returns : goal.returns
returns c =
    let options = c.args.options.now in
    let config : Config = c.in_ok-config.config in
    let texts : List (List Text) = texts_of c.args.rows in
    c.in_ok-set_line_below.ensures
    ∙ ap (λ (line : Option (HorizontalLine ℕ)). with_line line c.count_rows-count.result c.count_columns-columns.result config) c.line_in.ensures
    ∙ ap (λ (n : ℕ). with_line (line_in options) n c.count_columns-columns.result config) c.count_rows-count.ensures
    ∙ ap (λ (n : ℕ). with_line (line_in options) (length texts) n config) c.count_columns-columns.ensures.value
    ∙ ap (with_line (line_in options) (length texts) (columns_of texts)) c.in_ok-config.ensures

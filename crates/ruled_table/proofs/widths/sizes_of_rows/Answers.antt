use Rattle.std.proofs.Common.{◌≡◌, slice_index_or}
use Rattle.ruled_table.specs.Columns.{texts_of}
use Rattle.ruled_table.specs.Widths.{widths_fault, widths_of}
use Rattle.ruled_table.proofs.Tables.{ok-kept, tells-kept}
use Rattle.ruled_table.proofs.widths.sizes_of_rows.Goals as goal

pub returns-clause-widths : goal.returns-clause-widths
returns-clause-widths c =
    ok-kept c.sizes_of.result c.map_err.result (λ sizes. (λ column. slice_index_or sizes.0.items column 0) ≡ widths_of c.args.options.now c.args.config.now (texts_of c.args.fields) (texts_of c.args.rows)) _ c.map_err.ensures.cases c.sizes_of.ensures.widths

pub returns-clause-fault : goal.returns-clause-fault
returns-clause-fault c =
    tells-kept (widths_fault c.args.options.now c.args.config.now (texts_of c.args.fields) (texts_of c.args.rows)) c.sizes_of.result c.map_err.result _ c.sizes_of.ensures.fault c.map_err.ensures.cases (λ e f post. (post.0, post.1))

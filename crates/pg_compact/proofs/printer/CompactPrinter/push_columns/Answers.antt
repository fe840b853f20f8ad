use Rattle.std.proofs.Common.{ℕ, List, [], refl, ◌∙◌, arith}
use Rattle.pg_picture.specs.CompactLines.{Part}
use Rattle.pg_picture.specs.Inside.{open_parts, open_color}
use Rattle.pg_picture.proofs.Appending.{Gained-none, Gained-text, Gained-more, refused}
use Rattle.pg_compact.specs.Inside.{printed_table, line_colors, column_parts}
use Rattle.pg_compact.proofs.CompactRows.{open_parts-columns, open_color-columns, open_parts-columns_cut}
use Rattle.pg_compact.proofs.printer.CompactPrinter.push_columns.Goals as goal

pub loop-column-init : goal.loop-column-init
unfolding open_parts open_color
loop-column-init g c = record { gained = Gained-none c.args.buf.now; color = refl }

pub returns-in_err-run-clause-appends : goal.returns-in_err-run-clause-appends
returns-in_err-run-clause-appends g c =
    let column : ℕ → List Part = column_parts (printed_table g.D.Dimension.width g.C.Colors.color c.args.self.now []) c.args.glyphs (line_colors c.args.colors) in
    refused _ (open_parts-columns_cut c.args.run column c.loop-column.column c.args.self.now.columns c.loop-column.invariant.color (omega arith)) c.from_residual.ensures.0 c.loop-column.invariant.gained c.in_err-run.ensures.appends

pub loop-column-preserved : goal.loop-column-preserved
loop-column-preserved g c =
    let column : ℕ → List Part = column_parts (printed_table g.D.Dimension.width g.C.Colors.color c.args.self.now []) c.args.glyphs (line_colors c.args.colors) in
    record {
      gained = Gained-text (open_parts-columns c.args.run column c.loop-column.column c.loop-column.invariant.color) (Gained-more c.loop-column.invariant.gained c.in_ok-run.ensures.appends);
      color = c.in_ok-run.ensures.color ∙ open_color-columns c.args.run column c.loop-column.column c.loop-column.invariant.color;
    }

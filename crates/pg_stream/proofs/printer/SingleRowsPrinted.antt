-- A row of one line in a table without spans: its text, and the cells that are open after it.
use Rattle.std.proofs.Common.{◌≡◌, ℕ, ◌+◌, ◌<◌, Bool, true, ◌==◌, List, [], ◌++◌, replicate, Option, None, IfSome, ap, ◌∙◌}
use Rattle.pg_layout.specs.Text.{Text}
use Rattle.pg_picture.specs.Fits.{spans_fit}
use Rattle.pg_picture.specs.Pieces.{written}
use Rattle.pg_picture.specs.Table.{Table}
use Rattle.pg_stream.specs.Inside.{line_at, above_text, top_text, single_line, separator_height}
use Rattle.pg_stream.specs.Placed.{Placed, slots_of}
use Rattle.pg_stream.specs.Printers.{IsSound}
use Rattle.pg_stream.specs.Printing.{Printing, table_known, row_text}
use Rattle.pg_stream.proofs.printer.RowsAppended.{row_text-is, cells_left}
use Rattle.pg_stream.proofs.printer.RowsPrinted.{slots-are, cells_above, whole-above}
use Rattle.pg_stream.proofs.draw.SingleLines.{none-above, lines-are, left-as-above}

-- where no cell spans others, none is open between two rows
pub none-open : (s : Printing) (w : ℕ) (height : Option ℕ) (cells : List (Option Placed)) → s.slots ≡ slots_of cells → IsSound s s.table w height cells → s.table.config.spans ≡ [] → cells ≡ replicate s.table.columns None
unfolding table_known
none-open s w height cells slots sound alone = none-above (table_known s 0 []) alone s.rows cells (slots-are s w height cells slots sound 0 [])

module _ (s : Printing) (w : ℕ) (height : Option ℕ) (cells : List (Option Placed)) (slots : s.slots ≡ slots_of cells) (sound : IsSound s s.table w height cells) (is_last : Bool) (hinted : IfSome s.hint (λ rows. (s.rows < rows) × (is_last ≡ ((s.rows + 1) == rows)))) (last : is_last ≡ true → spans_fit s.table.config.spans (s.rows + 1) s.table.columns ≡ true) (alone : s.table.config.spans ≡ []) (one : s.table.height s.rows ≡ 1) (texts : List Text) where
  abbrev t : Table
  t = s.table

  pub single_text-is : (index : ℕ) → index ≡ s.lines + separator_height s.table.config s.rows
      → top_text s.table.config w s.rows ++ (above_text t height cells s.rows s.lines ++ line_at s.table.config height index (written (single_line t s.rows texts))) ≡ row_text s texts is_last
  single_text-is index is =
      ap (λ (line : Text). top_text s.table.config w s.rows ++ (above_text t height cells s.rows s.lines ++ line))
      (ap (λ i. line_at s.table.config height i (written (single_line t s.rows texts))) is ∙ lines-are t alone s.rows one (cells_above s w height cells slots sound) texts (whole-above s w height cells slots sound) height (s.lines + separator_height s.table.config s.rows))
      ∙ row_text-is s w height cells slots sound is_last hinted last texts

  -- the cells that were open above the row are those that are open below it
  pub single-left : cells_above s w height cells slots sound ≡ cells_left s w height cells slots sound is_last hinted last texts
  unfolding table_known
  single-left = left-as-above t alone s.rows one cells (separator_height s.table.config s.rows) texts (none-open s w height cells slots sound alone) (whole-above s w height cells slots sound)

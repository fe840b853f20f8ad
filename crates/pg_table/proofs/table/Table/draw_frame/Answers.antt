use Rattle.std.proofs.Common.{◌≡◌, ◌∙◌, ℕ, ap, length, subst}
use Rattle.pg_layout.specs.Records.{columns_of}
use Rattle.pg_config.specs.Config.{Config}
use Rattle.pg_table.specs.Panels.{IsFramed, frame_between}
use Rattle.pg_table.specs.Printing.{Parts}
use Rattle.pg_table.specs.declared.table.lines.Frame.{Frame}
use Rattle.pg_table.proofs.Setters.{drawn-frame, drawn-lines, weaker}
use Rattle.pg_table.proofs.table.Table.draw_frame.Goals as goal

pub returns-clause-frame : goal.returns-clause-frame
returns-clause-frame g c =
    let old : Config = c.self.inside.config in
    let same : c.self.inside.config ≡ c.args.self.now.config = ap (λ (t : Parts _). t.config) c.self.view_is in
    let f : Frame = frame_between c.args.glyphs c.args.first c.args.last (length c.args.self.now.rows) (columns_of c.args.self.now.rows) old in
    let is : c.new-frame.result ≡ f = c.new-frame.ensures ∙ ap (λ (s : ℕ × ℕ). frame_between c.args.glyphs c.args.first c.args.last s.0 s.1 old) c.size-rows.ensures in
    let rows : c.size-rows.result.0 ≡ length c.args.self.now.rows = ap (λ (s : ℕ × ℕ). s.0) c.size-rows.ensures in
    let columns : c.size-rows.result.1 ≡ columns_of c.args.self.now.rows = ap (λ (s : ℕ × ℕ). s.1) c.size-rows.ensures in
    weaker c.draw_line-4.result (λ right. subst (λ (k : Config). IsFramed (frame_between c.args.glyphs c.args.first c.args.last (length c.args.self.now.rows) (columns_of c.args.self.now.rows) k) k c.draw_line-4.new.config) same
    (drawn-frame f old c.draw_line-4.new.config c.requires.row c.requires.column
    (drawn-lines f old c.draw_line.new.config c.draw_line-2.new.config c.draw_line-3.new.config c.draw_line-4.new.config
    (rw (is, columns) at c.in_ok-draw_line.ensures) (rw (is, columns) at c.in_ok-draw_line-2.ensures)
    (rw (is, rows) at c.in_ok-draw_line-3.ensures) (rw (is, rows) at right)))) c.draw_line-4.ensures

use Rattle.std.proofs.Common.{◌≡◌, ℕ, ap, length, refl, subst, sym, true}
use Rattle.pg_layout.specs.declared.borders.Borders.{Borders}
use Rattle.pg_layout.specs.Records.{columns_of}
use Rattle.pg_table.specs.Even.{IsNarrowLook, are_line_glyphs}
use Rattle.pg_table.specs.Inside.{column_frame}
use Rattle.pg_table.specs.Printing.{Parts}
use Rattle.pg_table.specs.Panels.{HasColumnLine, IsFramed, frame_between}
use Rattle.pg_table.specs.declared.table.lines.Frame.{Frame}
use Rattle.pg_table.proofs.Setters.{left, set, weaker, column-drawn}
use Rattle.pg_table.proofs.StraightTables.{glyphs-left_of, told-frame}
use Rattle.pg_table.proofs.table.Table.with_column_line.Goals as goal

pub returns-clause-line : goal.returns-clause-line
returns-clause-line g c =
    let same : c.self.inside.config ≡ c.args.self.config = ap (λ (t : Parts _). t.config) c.self.view_is in
    let is : frame_between c.borders_left_of-glyphs.result c.new-first.result c.new-last.result (length c.args.self.rows) (columns_of c.args.self.rows) c.args.self.config ≡ column_frame c.args.column c.args.borders (length c.args.self.rows) (columns_of c.args.self.rows) c.args.self.config =
    rw (c.borders_left_of-glyphs.ensures, same, c.new-first.ensures, c.new-last.ensures, c.min-line.ensures, c.size-rows.ensures) refl in
    set c.draw_frame-set.result c.if_set.result c.draw_frame-set.new.self (λ t. HasColumnLine c.args.column c.args.borders (length c.args.self.rows) (columns_of c.args.self.rows) c.args.self.config t.config) c.if_set.ensures.set
    (weaker c.draw_frame-set.result (λ framed. column-drawn c.args.column c.args.borders (length c.args.self.rows) (columns_of c.args.self.rows) c.args.self.config c.draw_frame-set.new.self.config (subst (λ (f : Frame). IsFramed f c.args.self.config c.draw_frame-set.new.self.config) is framed)) c.draw_frame-set.ensures.frame) c.if_set.ensures.same

pub returns-clause-others : goal.returns-clause-others
returns-clause-others g c = left c.if_set.result c.draw_frame-set.new.self (λ t. t ≡ record c.args.self { config = t.config }) c.draw_frame-set.ensures.others c.if_set.ensures.same

pub returns-clause-narrow : goal.returns-clause-narrow
returns-clause-narrow g c = λ look glyphs.
    let f : Frame = frame_between c.borders_left_of-glyphs.result c.new-first.result c.new-last.result (length c.args.self.rows) (columns_of c.args.self.rows) c.args.self.config in
    let narrow : are_line_glyphs f.glyphs ≡ true = subst (λ (b : Borders ℕ). are_line_glyphs b ≡ true) (sym c.borders_left_of-glyphs.ensures) (glyphs-left_of c.args.borders c.args.column c.size-rows.result.0 c.size-rows.result.1 c.self.inside.config glyphs) in
    set c.draw_frame-set.result c.if_set.result c.draw_frame-set.new.self (λ t. IsNarrowLook t.config) c.if_set.ensures.set
    (weaker c.draw_frame-set.result (told-frame c.args.self.config look f narrow c.draw_frame-set.new.self.config) c.draw_frame-set.ensures.frame) c.if_set.ensures.same

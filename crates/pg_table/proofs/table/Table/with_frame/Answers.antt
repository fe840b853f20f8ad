use Rattle.std.proofs.Common.{◌≡◌, ℕ, length, refl, subst, sym, true}
use Rattle.pg_layout.specs.declared.borders.Borders.{Borders}
use Rattle.pg_layout.specs.Records.{columns_of}
use Rattle.pg_table.specs.Even.{IsNarrowLook, are_line_glyphs}
use Rattle.pg_table.specs.Panels.{IsFramed, frame_between, frame_round}
use Rattle.pg_table.specs.declared.table.lines.Frame.{Frame}
use Rattle.pg_table.proofs.Setters.{left, set, weaker}
use Rattle.pg_table.proofs.StraightTables.{glyphs-round, told-frame}
use Rattle.pg_table.proofs.table.Table.with_frame.Goals as goal

pub returns-clause-frame : goal.returns-clause-frame
returns-clause-frame g c =
    let is : frame_between c.borders_round.result c.args.from c.new-last.result (length c.args.self.rows) (columns_of c.args.self.rows) c.args.self.config ≡ frame_round c.args.from c.args.to c.args.border (length c.args.self.rows) (columns_of c.args.self.rows) c.args.self.config =
    rw (c.borders_round.ensures, c.new-last.ensures, c.line_behind.ensures, c.line_behind-2.ensures, c.size-rows.ensures) refl in
    set c.draw_frame-set.result c.if_set.result c.draw_frame-set.new.self (λ t. IsFramed (frame_round c.args.from c.args.to c.args.border (length c.args.self.rows) (columns_of c.args.self.rows) c.args.self.config) c.args.self.config t.config) c.if_set.ensures.set
    (weaker c.draw_frame-set.result (λ framed. subst (λ (f : Frame). IsFramed f c.args.self.config c.draw_frame-set.new.self.config) is framed) c.draw_frame-set.ensures.frame) c.if_set.ensures.same

pub returns-clause-others : goal.returns-clause-others
returns-clause-others g c = left c.if_set.result c.draw_frame-set.new.self (λ t. t ≡ record c.args.self { config = t.config }) c.draw_frame-set.ensures.others c.if_set.ensures.same

pub returns-clause-narrow : goal.returns-clause-narrow
returns-clause-narrow g c = λ look glyphs.
    let f : Frame = frame_between c.borders_round.result c.args.from c.new-last.result (length c.args.self.rows) (columns_of c.args.self.rows) c.args.self.config in
    let narrow : are_line_glyphs f.glyphs ≡ true = subst (λ (b : Borders ℕ). are_line_glyphs b ≡ true) (sym c.borders_round.ensures) (glyphs-round c.args.border c.args.from c.new-last.result glyphs) in
    set c.draw_frame-set.result c.if_set.result c.draw_frame-set.new.self (λ t. IsNarrowLook t.config) c.if_set.ensures.set
    (weaker c.draw_frame-set.result (told-frame c.args.self.config look f narrow c.draw_frame-set.new.self.config) c.draw_frame-set.ensures.frame) c.if_set.ensures.same

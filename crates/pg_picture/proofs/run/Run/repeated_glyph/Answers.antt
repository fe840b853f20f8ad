use Rattle.std.proofs.Common.{◌<◌, sym, arith}
use Rattle.pg_layout.specs.Colors.{lent_color}
use Rattle.pg_picture.proofs.Appending.{Appends-text, Gained-none, Gained-all, appended-as, refused-as}
use Rattle.pg_picture.proofs.Separators.{items_after-none, items_after-replicate, last_color-none, last_color-replicate}
use Rattle.pg_picture.proofs.run.Run.repeated_glyph.Goals as goal

pub returns-then-count-eq0-clause-appends : goal.returns-then-count-eq0-clause-appends
returns-then-count-eq0-clause-appends g c = Appends-text (sym (items_after-none c.args.self _ c.args.c c.args.count c.if-count-eq0.true)) (Gained-all (Gained-none c.args.buf.now))

pub returns-then-count-eq0-clause-color : goal.returns-then-count-eq0-clause-color
returns-then-count-eq0-clause-color g c = sym (last_color-none c.args.self _ c.args.c c.args.count c.if-count-eq0.true)

pub returns-in_err-push_after_cut-clause-appends : goal.returns-in_err-push_after_cut-clause-appends
returns-in_err-push_after_cut-clause-appends g c =
    let some : 0 < c.args.count = omega arith in
    Appends-text (items_after-replicate c.args.self (lent_color g.C.ANSIFmt.color_of c.self.inside.open) (lent_color g.C.ANSIFmt.color_of c.args.color) c.args.c c.args.count (cc) some) (refused-as c.from_residual.ensures.0 c.in_err-push_after_cut.ensures)

pub returns-clause-appends : goal.returns-clause-appends
returns-clause-appends g c =
    let some : 0 < c.args.count = omega arith in
    Appends-text (items_after-replicate c.args.self (lent_color g.C.ANSIFmt.color_of c.self.inside.open) (lent_color g.C.ANSIFmt.color_of c.args.color) c.args.c c.args.count (cc) some) (appended-as c.in_ok-push_after_cut.ensures)

pub returns-clause-color : goal.returns-clause-color
returns-clause-color g c = sym (last_color-replicate c.args.self _ c.args.c c.args.count (omega arith))

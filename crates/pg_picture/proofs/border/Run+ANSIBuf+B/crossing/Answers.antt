use Rattle.std.proofs.Common.{sym, ◌∙◌}
use Rattle.pg_picture.proofs.Appending.{Gained-none, Gained-all, Appends-text}
use Rattle.pg_picture.proofs.Separators.{items_after-nil, last_color-nil, crossing_at-no_line, crossing_at-no_glyph}
use Rattle.pg_picture.proofs.border.Run+ANSIBuf+B.crossing.Goals as goal

pub returns-then-not-has_vertical-clause-appends : goal.returns-then-not-has_vertical-clause-appends
returns-then-not-has_vertical-clause-appends g c =
    Appends-text (sym (items_after-nil c.args.self (crossing_at-no_line c.args.config.now c.args.size.0 c.args.size.1 c.args.pos (sym c.has_vertical.ensures ∙ c.if-not-has_vertical.true)))) (Gained-all (Gained-none c.args.buf.now))

pub returns-then-not-has_vertical-clause-color : goal.returns-then-not-has_vertical-clause-color
returns-then-not-has_vertical-clause-color g c =
    last_color-nil c.args.self (crossing_at-no_line c.args.config.now c.args.size.0 c.args.size.1 c.args.pos (sym c.has_vertical.ensures ∙ c.if-not-has_vertical.true))

pub returns-in-None-clause-appends : goal.returns-in-None-clause-appends
returns-in-None-clause-appends g c =
    Appends-text (sym (items_after-nil c.args.self (crossing_at-no_glyph c.args.config.now c.args.size.0 c.args.size.1 c.args.pos (sym c.get_intersection.ensures ∙ c.in-None.is)))) (Gained-all (Gained-none c.args.buf.now))

pub returns-in-None-clause-color : goal.returns-in-None-clause-color
returns-in-None-clause-color g c =
    last_color-nil c.args.self (crossing_at-no_glyph c.args.config.now c.args.size.0 c.args.size.1 c.args.pos (sym c.get_intersection.ensures ∙ c.in-None.is))

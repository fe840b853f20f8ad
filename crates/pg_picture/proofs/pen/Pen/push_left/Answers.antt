use Rattle.std.proofs.Common.{sym, ◌∙◌}
use Rattle.pg_picture.proofs.Appending.{Appends-text, Gained-none, Gained-all}
use Rattle.pg_picture.proofs.PiecesOfLines.{written-side_none, no_sides}
use Rattle.pg_picture.proofs.pen.Pen.push_left.Goals as goal

-- without side margins there is nothing to append
pub returns-then-not-self : goal.returns-then-not-self
returns-then-not-self g c =
    let sheet = c.args.self.sheet.now in
    let config = sheet.config.now in
    let none = no_sides config.margin.left.size config.margin.right.size (sym sheet.is_sided ∙ c.if-not-self.true) in
    rw (← c.args.self.is) (Appends-text (written-side_none sheet.height config.margin.left config.margin_offset.left config.margin_color.left c.args.index none.0) (Gained-all (Gained-none c.args.buf.now)))

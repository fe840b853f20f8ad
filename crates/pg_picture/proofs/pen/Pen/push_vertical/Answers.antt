use Rattle.std.proofs.Common.{sym, ap, ◌∙◌}
use Rattle.pg_config.proofs.EqualLines.{no_verticals}
use Rattle.pg_picture.specs.Pieces.{written}
use Rattle.pg_picture.proofs.Appending.{Appends-text, Gained-none, Gained-all}
use Rattle.pg_picture.proofs.Separators.{vertical_at-none, vertical_at-border, no_column_lines, no_offset_chars}
use Rattle.pg_picture.proofs.pen.Pen.push_vertical.Goals as goal

-- without column lines there is nothing to append
pub returns-in-Absent : goal.returns-in-Absent
returns-in-Absent g c =
    let sheet = c.args.self.sheet.now in
    let none = no_column_lines sheet.config.now (sym sheet.is_lined ∙ c.in-Absent.is) in
    let height = g.D.Dimension.height sheet.dimension.now c.args.pos.row in
    rw (← c.args.self.is) (Appends-text (sym (vertical_at-none sheet.config.now sheet.columns height c.args.pos c.args.line (no_verticals sheet.config.now none c.args.pos sheet.columns))) (Gained-all (Gained-none c.args.buf.now)))

-- without glyphs of single lines it is its border's glyph
pub returns-in-Whole : goal.returns-in-Whole
returns-in-Whole g c =
    let sheet = c.args.self.sheet.now in
    let none = no_offset_chars sheet.config.now (sym sheet.is_lined ∙ c.in-Whole.is) in
    let height = g.D.Dimension.height sheet.dimension.now c.args.pos.row in
    let border = vertical_at-border sheet.config.now sheet.columns height c.args.pos c.args.line none in
    rw (← c.args.self.is) (Appends-text (sym (ap written border)) c.push_whole_vertical.ensures)

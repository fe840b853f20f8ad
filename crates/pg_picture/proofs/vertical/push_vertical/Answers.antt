use Rattle.std.proofs.Common.{ap, sym, ◌∙◌}
use Rattle.pg_layout.specs.Colors.{lent_color}
use Rattle.pg_picture.specs.Pieces.{glyph_piece, written}
use Rattle.pg_picture.proofs.Appending.{Gained-none, Gained-all, Appends-text}
use Rattle.pg_picture.proofs.PiecesOfLines.{written-nil}
use Rattle.pg_picture.proofs.vertical.push_vertical.Goals as goal

pub returns-in-None : goal.returns-in-None
returns-in-None g c = Appends-text (sym (ap (λ glyph. written (glyph_piece glyph (lent_color g.C.ANSIFmt.color_of c.args.color))) c.in-None.is ∙ written-nil)) (Gained-all (Gained-none c.args.buf.now))

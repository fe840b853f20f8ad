use Rattle.pg_layout.specs.Colors.{lent_color}
use Rattle.pg_picture.proofs.Appending.{Appends-text, ◌then◌, stopped}
use Rattle.pg_picture.proofs.Separators.{item_text-offset}
use Rattle.pg_picture.proofs.run.push_offset_glyph.Goals as goal

pub returns-in_err-push_fill : goal.returns-in_err-push_fill
returns-in_err-push_fill g c = Appends-text (item_text-offset (lent_color g.C.ANSIFmt.color_of c.args.color) c.args.c (g.F.ANSIFmt.color_of c.args.offset.now)) (c.in_ok-push_suffix.ensures then stopped _ c.from_residual-in_err-push_fill.ensures.0 c.in_err-push_fill.ensures)

pub returns : goal.returns
returns g c = Appends-text (item_text-offset (lent_color g.C.ANSIFmt.color_of c.args.color) c.args.c (g.F.ANSIFmt.color_of c.args.offset.now)) (c.in_ok-push_suffix.ensures then (c.in_ok-push_fill.ensures then c.push_prefix.ensures))

use Rattle.std.proofs.Common.{sym, ◌∙◌}
use Rattle.pg_layout.specs.Colors.{str_color}
use Rattle.pg_picture.proofs.Appending.{Appends-text}
use Rattle.pg_picture.proofs.PiecesOfLines.{indent-plain, indent-colored}
use Rattle.pg_picture.proofs.compact_cell.push_compact_indent.Goals as goal

pub returns-then-is_empty : goal.returns-then-is_empty
returns-then-is_empty g c = Appends-text (indent-plain c.args.indent.fill c.args.indent.size (str_color c.args.color) (sym c.is_empty.ensures ∙ c.if-is_empty.true)) c.push_repeated.ensures

pub returns : goal.returns
returns g c = Appends-text (indent-colored c.args.indent.fill c.args.indent.size (str_color c.args.color) (sym c.is_empty.ensures ∙ c.if-is_empty.false)) c.push_colored_run.ensures

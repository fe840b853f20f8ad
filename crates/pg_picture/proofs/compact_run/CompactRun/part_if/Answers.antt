use Rattle.std.proofs.Common.{option_map}
use Rattle.pg_layout.specs.Colors.{str_color}
use Rattle.pg_picture.proofs.Appending.{Appends-text, Gained-none, Gained-all}
use Rattle.pg_picture.proofs.Separators.{IfOk-same}
use Rattle.pg_picture.proofs.PiecesOfLines.{no_parts-text, no_parts-color, one_part-text, one_part-color, part_if-none, part_if-some}
use Rattle.pg_picture.proofs.compact_run.CompactRun.part_if.Goals as goal

pub returns-in-None-clause-appends : goal.returns-in-None-clause-appends
returns-in-None-clause-appends g c = Appends-text (no_parts-text c.args.self (part_if-none _ c.in-None.is)) (Gained-all (Gained-none c.args.buf.now))

pub returns-in-None-clause-color : goal.returns-in-None-clause-color
returns-in-None-clause-color g c = no_parts-color c.args.self (part_if-none _ c.in-None.is)

pub returns-in-Some-clause-appends : goal.returns-in-Some-clause-appends
returns-in-Some-clause-appends g c =
    let color = option_map str_color c.args.color in
    Appends-text (one_part-text c.args.self (c.in-Some.glyph, 1, color) (part_if-some c.in-Some.glyph color c.in-Some.is)) c.part.ensures.appends

pub returns-in-Some-clause-color : goal.returns-in-Some-clause-color
returns-in-Some-clause-color g c =
    let color = option_map str_color c.args.color in
    IfOk-same (one_part-color c.args.self (c.in-Some.glyph, 1, color) (part_if-some c.in-Some.glyph color c.in-Some.is)) c.part.result c.part.ensures.color

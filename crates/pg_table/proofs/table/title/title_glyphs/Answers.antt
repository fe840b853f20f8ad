use Rattle.std.proofs.Common.{rules, Ok}
use Rattle.std.proofs.lemmas.Iterator.{YieldsList-from_chars, YieldsList-from_map, items_from_collect}
use Rattle.std.proofs.lemmas.Iterator.Consumers.{YieldsList-at}
use Rattle.pg_table.specs.Panels.{title_glyph}
use Rattle.pg_table.proofs.table.title.title_glyphs.Goals as goal

pub returns : goal.returns
returns g c =
    items_from_collect {E = Unit {0}} (Ok c.in_ok-glyphs.glyphs) c.in_ok-glyphs.ensures.ran
    (YieldsList-from_map _ title_glyph (YieldsList-at c.map.ensures.source (YieldsList-from_chars c.args.title.now c.utf8.title c.chars.ensures.rest)) c.map.ensures.closure (λ x r q k. search rules))

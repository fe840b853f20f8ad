use Rattle.std.proofs.Common.{rules, ◌+◌, ◌++◌, drop, sym, ap, ◌∙◌, append-nil}
use Rattle.std.proofs.lemmas.List.{at_drop_all}
use Rattle.pg_config.specs.LineGlyphs.{line_place, over_line}
use Rattle.pg_config.proofs.EqualLines.{over-more}
use Rattle.pg_config.proofs.line_glyphs.over_line.Goals as goal

pub loop-glyph-preserved : goal.loop-glyph-preserved
loop-glyph-preserved g c =
    let f = line_place c.args.config.now c.args.columns (g.D.Dimension.width c.args.dimension.now) in
    let gs = c.args.glyphs.now in
    let i = c.loop-glyph.glyph-index in
    record {
      over =
          ap (λ items. items ++ over_line f (c.args.first + (i + 1)) (drop (i + 1) gs)) c.in_ok-push.ensures.items
          ∙ over-more f c.loop-glyph.over.items c.args.first i gs c.place_over-place.result c.glyph-item.result c.loop-glyph-test.true c.glyph-item.is (c.place_over-place.ensures ∙ ap (λ n. f (c.args.first + n)) (c.len.ensures ∙ c.loop-glyph.invariant.len))
          ∙ c.loop-glyph.invariant.over;
      len = search rules;
    }

pub returns : goal.returns
returns g c =
    let f = line_place c.args.config.now c.args.columns (g.D.Dimension.width c.args.dimension.now) in
    let gs = c.args.glyphs.now in
    let items = c.loop-glyph.over.items in
    record { over = sym (append-nil items) ∙ ap (λ z. items ++ z) (sym (at_drop_all (over_line f (c.args.first + c.loop-glyph.glyph-index)) gs c.loop-glyph.glyph-index c.loop-glyph-test.false)) ∙ c.loop-glyph.invariant.over }

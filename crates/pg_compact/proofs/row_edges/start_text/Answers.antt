use Rattle.std.proofs.Common.{◌≡◌, Option, unwrap_or, sym, ap, ◌∙◌}
use Rattle.pg_layout.specs.Text.{Text}
use Rattle.pg_config.specs.CompactConfig.{settings_of, border_colors, side_colors}
use Rattle.pg_compact.proofs.CompactRows.{start-text}
use Rattle.pg_compact.proofs.row_edges.start_text.Goals as goal

pub returns : goal.returns
returns c = λ text is.
    let made : c.push_glyph.new.self ≡ text = ap (λ (o : Option Text). unwrap_or o c.push_glyph.new.self) is in
    sym made
    ∙ start-text (settings_of c.args.config.now) c.get_borders.result.now (border_colors c.get_borders_color.result.now) c.get_margin.result (side_colors c.get_margin_color.result) c.get_borders.ensures c.get_borders_color.ensures c.get_margin.ensures c.get_margin_color.ensures c.new-text.ensures c.in_ok-push_indent.ensures c.in_ok-push_glyph.ensures

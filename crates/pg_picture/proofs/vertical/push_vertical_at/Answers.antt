use Rattle.std.proofs.Common.{ℕ, sym, ap, ap₂, ◌∙◌, Option}
use Rattle.std.specs.Prelude.{unwrap_or}
use Rattle.std.specs.Option.{option_or}
use Rattle.pg_layout.specs.Colors.{Color, lent_color}
use Rattle.pg_picture.specs.Pieces.{written, fill}
use Rattle.pg_picture.proofs.Appending.{Gained-none, Gained-all, Appends-text}
use Rattle.pg_picture.proofs.Separators.{vertical_at-none, vertical_at-some, lent_color-or}
use Rattle.pg_picture.proofs.vertical.push_vertical_at.Goals as goal

pub returns-in_default : goal.returns-in_default
returns-in_default g c =
    Appends-text (sym (vertical_at-none c.args.config.now c.args.columns c.args.height c.args.pos c.args.line (sym c.get_vertical.ensures ∙ c.in_default.is))) (Gained-all (Gained-none c.args.buf.now))

pub returns : goal.returns
returns g c =
    let glyph = c.unwrap_or.ensures ∙ ap (λ o. unwrap_or o c.in-Some.border) c.lookup_vertical_char-glyph.ensures in
    let color =
    ap (lent_color (λ c. c)) c.or.ensures
    ∙ lent_color-or (λ c. c) c.get_vertical_color-own.result c.lookup_vertical_color-offset.result
    ∙ ap₂ (λ (a b : Option Color). option_or a b) c.get_vertical_color-own.ensures c.lookup_vertical_color-offset.ensures in
    Appends-text
    (ap₂ (λ (k : ℕ) (d : Option Color). written (fill k 1 d)) glyph color
    ∙ ap written (sym (vertical_at-some c.args.config.now c.args.columns c.args.height c.args.pos c.args.line c.in-Some.border (sym c.get_vertical.ensures ∙ c.in-Some.is))))
    c.push_fill.ensures

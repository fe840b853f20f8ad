use Rattle.std.proofs.Common.{◌≡◌, ℕ, unwrap_or, refl, sym, ap₂, ◌∙◌, arith}
use Rattle.pg_layout.specs.Colors.{lent_color}
use Rattle.pg_config.specs.Offsets.{lookup_offset}
use Rattle.pg_picture.specs.Pieces.{Item, glyph}
use Rattle.pg_picture.specs.Inside.{items_after, last_color}
use Rattle.pg_picture.specs.Table.{border_glyph}
use Rattle.pg_picture.proofs.Appending.{Gained-none, Gained-more, Gained-text, refused}
use Rattle.pg_picture.proofs.Separators.{items_after-more, last_color-more, items_after-cut}
use Rattle.pg_picture.proofs.border.push_single_glyphs.Goals as goal

pub loop-i-init : goal.loop-i-init
unfolding items_after last_color
loop-i-init g c = record { gained = Gained-none c.args.buf.now; color = refl }

pub returns-in_err-run-clause-appends : goal.returns-in_err-run-clause-appends
returns-in_err-run-clause-appends g c =
    let item : ℕ → Item = border_glyph c.args.config.now c.args.pos c.args.width c.args.glyph (lent_color (λ x. x) c.args.color) in
    let single : c.unwrap_or-single.result ≡ unwrap_or (lookup_offset c.args.config.now.horizontal_chars c.args.pos c.loop-i.i c.args.width) c.args.glyph = cc in
    let is = ap₂ (λ a f. glyph a (lent_color (λ x. x) c.args.color) f) single c.lookup_horizontal_color-offset.ensures in
    refused _ (items_after-cut c.args.run item c.loop-i.i c.args.width c.loop-i.invariant.color is (omega arith)) c.from_residual.ensures.0 c.loop-i.invariant.gained c.in_err-run.ensures.appends

pub loop-i-preserved : goal.loop-i-preserved
loop-i-preserved g c =
    let item : ℕ → Item = border_glyph c.args.config.now c.args.pos c.args.width c.args.glyph (lent_color (λ x. x) c.args.color) in
    let single : c.unwrap_or-single.result ≡ unwrap_or (lookup_offset c.args.config.now.horizontal_chars c.args.pos c.loop-i.i c.args.width) c.args.glyph = cc in
    let is = ap₂ (λ a f. glyph a (lent_color (λ x. x) c.args.color) f) single c.lookup_horizontal_color-offset.ensures in
    record {
      gained = Gained-text (sym (items_after-more c.args.run item c.loop-i.i c.loop-i.invariant.color is)) (Gained-more c.loop-i.invariant.gained c.in_ok-run.ensures.appends);
      color = c.in_ok-run.ensures.color ∙ sym (last_color-more c.args.run item c.loop-i.i c.loop-i.invariant.color is);
    }

use Rattle.std.proofs.Common.{◌≡◌, ◌∙◌, sym, ap₂, Some, arith}
use Rattle.pg_config.specs.Common.{inner_vertical}
use Rattle.pg_config.proofs.EqualLines.{inner_vertical-glyph, inner_vertical-color, IsInner}
use Rattle.pg_picture.specs.Pieces.{written, glyph_piece}
use Rattle.pg_picture.proofs.Appending.{Appends-text}
use Rattle.pg_picture.proofs.pen.Pen.push_whole_vertical.Goals as goal

-- between two columns all verticals have the glyph that is kept, and no colour
pub returns-then-pos-columns : goal.returns-then-pos-columns
returns-then-pos-columns g c =
    let sheet = c.args.self.sheet.now in
    let between : IsInner c.args.pos.col sheet.columns = record { some = grind arith; less = grind arith } in
    let kept = sym sheet.is_inner ∙ c.in-Some.is in
    let glyph = inner_vertical-glyph sheet.config.now c.in-Some.glyph kept c.args.pos sheet.columns between in
    let color = inner_vertical-color sheet.config.now c.in-Some.glyph kept c.args.pos sheet.columns between in
    Appends-text (ap₂ (λ glyph color. written (glyph_piece glyph color)) (sym glyph) (sym color)) c.push_vertical.ensures

use Rattle.std.proofs.Common.{◌++◌, refl, sym, ap}
use Rattle.pg_picture.specs.Inside.{style_of}
use Rattle.pg_picture.specs.Pieces.{written, fill}
use Rattle.pg_picture.proofs.Appending.{Appends-text}
use Rattle.pg_picture.proofs.PiecesOfLines.{written-fill_none, fills-together-behind}
use Rattle.pg_picture.proofs.cell.push_right_side.Goals as goal

pub returns-then-rest-eq0 : goal.returns-then-rest-eq0
returns-then-rest-eq0 g c =
    let style = style_of c.args.style.now in
    let right = written (fill style.padding.right.fill style.padding.right.size style.padding_color.right) in
    Appends-text (sym (ap (λ text. text ++ right) (written-fill_none style.justification c.args.rest style.justification_color c.if-rest-eq0.true))) c.push_padding.ensures

pub returns-in-Some : goal.returns-in-Some
returns-in-Some g c =
    let right = c.args.style.now.padding.right in
    Appends-text (fills-together-behind right.fill c.args.style.now.justification right.size c.args.rest (c.in-Some.ensures.same refl) (c.in-Some.ensures.plain refl) (c.in-Some.ensures.plain_beside refl) c.in-Some.ensures.size) c.push_columns.ensures

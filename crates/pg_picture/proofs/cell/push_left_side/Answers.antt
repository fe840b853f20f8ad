use Rattle.std.proofs.Common.{◌++◌, refl, sym, ap, ◌∙◌, append-nil}
use Rattle.pg_picture.specs.Inside.{style_of}
use Rattle.pg_picture.specs.Pieces.{written, fill}
use Rattle.pg_picture.proofs.Appending.{Appends-text}
use Rattle.pg_picture.proofs.PiecesOfLines.{written-fill_none, fills-together}
use Rattle.pg_picture.proofs.cell.push_left_side.Goals as goal

pub returns-then-share-eq0 : goal.returns-then-share-eq0
returns-then-share-eq0 g c =
    let style = style_of c.args.style.now in
    let left = written (fill style.padding.left.fill style.padding.left.size style.padding_color.left) in
    Appends-text (sym (ap (λ text. left ++ text) (written-fill_none style.justification c.args.share style.justification_color c.if-share-eq0.true) ∙ append-nil left)) c.push_padding.ensures

pub returns-in-Some : goal.returns-in-Some
returns-in-Some g c =
    let left = c.args.style.now.padding.left in
    Appends-text (fills-together left.fill c.args.style.now.justification left.size c.args.share (c.in-Some.ensures.same refl) (c.in-Some.ensures.plain refl) (c.in-Some.ensures.plain_beside refl) c.in-Some.ensures.size) c.push_columns.ensures

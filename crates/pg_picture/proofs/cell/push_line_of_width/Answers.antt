use Rattle.pg_picture.specs.Inside.{style_of}
use Rattle.pg_picture.proofs.Appending.{Appends-text}
use Rattle.pg_picture.proofs.PlacesOfTexts.{line_parts-measured}
use Rattle.pg_picture.proofs.cell.push_line_of_width.Goals as goal

pub returns : goal.returns
returns g c = Appends-text (line_parts-measured (style_of c.args.style.now) _ c.args.left c.args.width _ _ _ _ c.inner_width-inner.ensures c.requires.known c.columns_left-share.ensures) c.push_parts.ensures

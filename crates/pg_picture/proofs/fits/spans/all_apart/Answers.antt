use Rattle.std.proofs.Common.{◌≡◌, ◌∙◌, ◌&&◌, None, true, false, sym, ap}
use Rattle.pg_picture.specs.Inside.{columns_apart, rows_apart}
use Rattle.pg_picture.proofs.OwnersOfPlaces.{apart_by_columns}
use Rattle.pg_picture.proofs.fits.spans.all_apart.Goals as goal

pub returns-then-columns_apart : goal.returns-then-columns_apart
returns-then-columns_apart g c =
    let columns : columns_apart None c.args.spans.now ≡ true = sym c.columns_apart.ensures ∙ c.if-columns_apart.true in
    c.rows_apart.ensures ∙ sym (apart_by_columns c.args.spans.now c.requires.ascending c.requires.ends ∙ ap (λ b. b && rows_apart c.args.spans.now) columns)

pub returns-else-columns_apart : goal.returns-else-columns_apart
returns-else-columns_apart g c =
    let columns : columns_apart None c.args.spans.now ≡ false = sym c.columns_apart.ensures ∙ c.if-columns_apart.false in
    c.if-columns_apart.false ∙ sym (apart_by_columns c.args.spans.now c.requires.ascending c.requires.ends ∙ ap (λ b. b && rows_apart c.args.spans.now) columns)

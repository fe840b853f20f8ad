use Rattle.std.proofs.Common.{◌≡◌, ap, ◌∙◌}
use Rattle.pg_picture.specs.Fits.{misfit_of}
use Rattle.pg_picture.specs.Picture.{picture}
use Rattle.pg_picture.specs.Table.{Table, Known}
use Rattle.pg_table.proofs.fitted.filling.FilledTable.push_sized.Goals as goal

pub push_at-requires : goal.push_at-requires
push_at-requires g c = ap (λ (t : Table). misfit_of t) c.requires.sizes ∙ c.requires.fits

pub returns : goal.returns
returns g c = let same = ap (λ (t : Table). picture Known t) c.requires.sizes in rw same at c.push_at.ensures

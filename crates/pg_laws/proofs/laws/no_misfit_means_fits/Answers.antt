use Rattle.pg_picture.proofs.FirstPlaces.{fits}
use Rattle.pg_laws.proofs.RowsFits.{misfit_of-colors}
use Rattle.pg_laws.proofs.laws.no_misfit_means_fits.Goals as goal

pub returns : goal.returns
returns c = record { parts = fits; colors = misfit_of-colors }

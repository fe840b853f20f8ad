use Rattle.pg_picture.proofs.Separators.{missing_glyph_fills_gaps}
use Rattle.pg_picture.proofs.StraightColumns.{columns_are_straight, margins_are_straight}
use Rattle.pg_laws.proofs.laws.columns_are_straight.Goals as goal

pub returns : goal.returns
returns c = record { body = columns_are_straight; no_gaps = missing_glyph_fills_gaps; margins = margins_are_straight }

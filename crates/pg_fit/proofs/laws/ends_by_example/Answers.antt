use Rattle.std.proofs.Common.{refl}
use Rattle.unicode_segmentation.proofs.Computing.{unicode_segmentation}
use Rattle.unicode_width.proofs.Computing.{unicode_width}
use Rattle.pg_layout.specs.Text.{lines_of, width_of}
use Rattle.std.specs.Str.{chars}
use Rattle.std.proofs.Math.Utf8.{encode}
use Rattle.pg_fit.specs.Cutting.{cut_away_line, cut_away_text}
use Rattle.pg_fit.specs.Escapes.{without_escapes}
use Rattle.pg_fit.proofs.laws.ends_by_example.Goals as goal

pub returns-clause-front : goal.returns-clause-front
unfolding unicode_segmentation unicode_width lines_of width_of cut_away_line cut_away_text
returns-clause-front c = refl

pub returns-clause-middle : goal.returns-clause-middle
unfolding unicode_segmentation unicode_width lines_of width_of cut_away_line cut_away_text
returns-clause-middle c = refl

pub returns-clause-tail : goal.returns-clause-tail
unfolding unicode_segmentation unicode_width lines_of width_of cut_away_line cut_away_text
returns-clause-tail c = refl

pub returns-clause-lines : goal.returns-clause-lines
unfolding unicode_segmentation unicode_width lines_of width_of cut_away_line cut_away_text
returns-clause-lines c = refl

pub returns-clause-color : goal.returns-clause-color
unfolding without_escapes chars encode
returns-clause-color c = refl

pub returns-clause-link : goal.returns-clause-link
unfolding without_escapes chars encode
returns-clause-link c = refl

pub returns-clause-broken : goal.returns-clause-broken
unfolding without_escapes chars encode
returns-clause-broken c = refl

use Rattle.std.proofs.Common.{◌∙◌}
use Rattle.pg_layout.specs.Keys.{by_columns, column_place}
use Rattle.pg_layout.specs.Places.{value_at}
use Rattle.pg_config.specs.Spans.{size_of}
use Rattle.pg_config.proofs.CoveredPlaces.{kept-or-one, one-row}
use Rattle.pg_config.proofs.spans.Spans.set_rows.Goals as goal

pub returns-clause-one : goal.returns-clause-one
unfolding size_of
returns-clause-one g c is =
    kept-or-one (value_at by_columns (column_place c.args.pos) c.args.self.now) _ c.set_size.ensures.again
    (λ old. c.set_size.ensures.one (one-row c.size-columns.result c.args.rows (c.size-columns.ensures ∙ old) is))

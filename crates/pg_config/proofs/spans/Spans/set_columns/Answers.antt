use Rattle.std.proofs.Common.{◌∙◌}
use Rattle.pg_layout.specs.Keys.{by_columns, column_place}
use Rattle.pg_layout.specs.Places.{value_at}
use Rattle.pg_config.specs.Spans.{size_of}
use Rattle.pg_config.proofs.CoveredPlaces.{kept-or-one, one-column}
use Rattle.pg_config.proofs.spans.Spans.set_columns.Goals as goal

pub returns-clause-one : goal.returns-clause-one
unfolding size_of
returns-clause-one g c is =
    kept-or-one (value_at by_columns (column_place c.args.pos) c.args.self.now) _ c.set_size.ensures.again
    (λ old. c.set_size.ensures.one (one-column c.size-rows.result c.args.columns (c.size-rows.ensures ∙ old) is))

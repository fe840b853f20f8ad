use Rattle.std.proofs.Common.{ap, ◌∙◌}
use Rattle.pg_layout.specs.Keys.{by_columns, column_place}
use Rattle.pg_layout.specs.Places.{last_up_to}
use Rattle.pg_config.specs.Spans.{if_left}
use Rattle.pg_config.proofs.spans.Spans.find_left_span.Goals as goal

pub returns : goal.returns
returns g c =
    c.if_left.ensures ∙ ap (λ span. if_left c.args.pos.row c.args.pos.col span) (c.in_ok-place.ensures ∙ ap (λ place. last_up_to by_columns place c.self.inside.sizes) c.of.ensures ∙ ap (λ spans. last_up_to by_columns (column_place c.args.pos) spans) c.self.view_is)

use Rattle.std.proofs.Common.{is_some, sym, ap, ◌∙◌}
use Rattle.std.proofs.lemmas.Result.{on_ok_weaker}
use Rattle.pg_layout.specs.Keys.{by_number}
use Rattle.pg_layout.specs.Places.{value_at}
use Rattle.pg_config.specs.Overrides.{has_crossing}
use Rattle.pg_config.proofs.Lookups.{HasColumns-with_place}
use Rattle.pg_config.proofs.lines.put_crossing.Goals as goal

pub returns-clause-has_columns : goal.returns-clause-has_columns
returns-clause-has_columns g c =
    on_ok_weaker c.put-2.result (λ is q.
    ap (λ es. is_some (value_at by_number q es)) is
    ∙ HasColumns-with_place c.args.pos tt c.in-Some.value c.args.columns.now.now c.args.crossings.now.now c.requires.has_columns q
    ∙ ap (λ es. has_crossing q es) (sym c.in_ok-put.ensures.ok)) c.put-2.ensures.ok

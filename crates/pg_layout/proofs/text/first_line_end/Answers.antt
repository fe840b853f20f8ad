use Rattle.std.proofs.Common.{rules, tests, ◌∙◌}
use Rattle.std.proofs.lemmas.Iterator.{YieldsList-from_slice}
use Rattle.std.proofs.lemmas.Iterator.Search.{position_from_yields_List}
use Rattle.pg_layout.proofs.TextLines.{is_feed, unwrap_or-feed_place}
use Rattle.pg_layout.proofs.text.first_line_end.Goals as goal

pub returns : goal.returns
returns c =
    let found = position_from_yields_List is_feed _ _ c.position-end.result c.position-end.ensures.ran (YieldsList-from_slice c.args.text.now (cc)) (λ x b q k. search (rules, tests)) in
    c.unwrap_or.ensures ∙ unwrap_or-feed_place c.args.text.now c.position-end.result found

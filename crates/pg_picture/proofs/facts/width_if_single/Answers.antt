use Rattle.std.proofs.Common.{◌≡◌, ap, sym, ◌∙◌, not, true}
use Rattle.std.specs.List.{list_all}
use Rattle.pg_layout.specs.Text.{width_of}
use Rattle.pg_layout.proofs.TextLines.{is_feed}
use Rattle.pg_picture.proofs.PlacesOfTexts.{lines_of-unfed}
use Rattle.pg_picture.proofs.facts.width_if_single.Goals as goal

pub returns-then-has_no_feed : goal.returns-then-has_no_feed
unfolding width_of
returns-then-has_no_feed c =
    let unfed : list_all (λ b. not (is_feed b)) c.args.text.now ≡ true = ap (list_all (λ b. not (is_feed b))) (sym c.as_bytes.ensures.value) ∙ sym c.has_no_feed.ensures ∙ c.if-has_no_feed.true in
    record { one = lines_of-unfed c.args.text.now unfed; width = c.width.ensures.value }

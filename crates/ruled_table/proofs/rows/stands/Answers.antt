use Rattle.std.proofs.Common.{◌≡◌, ◌∙◌, true, ap, rules}
use Rattle.ruled_table.specs.Shown.{escaped_text}
use Rattle.ruled_table.proofs.rows.stands.Goals as goal

pub returns : goal.returns
returns c =
    let markdown : c.args.options.now.is_markdown ≡ true = search rules in
    rw markdown (λ plain. ap escaped_text (c.is_seen.ensures (search rules)) ∙ c.is_plain_text.ensures plain)

use Rattle.std.proofs.Common.{◌≡◌, length, chars, ap, ◌∙◌}
use Rattle.std.proofs.lemmas.Iterator.{YieldsList-from_chars}
use Rattle.std.proofs.lemmas.Iterator.Consumers.{count_from_yields_List}
use Rattle.pg_layout.specs.Records.{columns_of}
use Rattle.pg_table.specs.OwnRows.{titled_at}
use Rattle.pg_table.specs.Panels.{with_title_color}
use Rattle.pg_table.proofs.table.Table.with_colored_title_at.Goals as goal

pub returns-clause-ok : goal.returns-clause-ok
returns-clause-ok g c =
    let t = c.args.self in
    let widths = c.args.dimension.now.0.items in
    let count : c.count-count.result ≡ length (chars c.args.title.now) = count_from_yields_List _ c.count-count.result c.count-count.ensures.ran (YieldsList-from_chars c.args.title.now c.utf8.title c.chars.ensures.rest) in
    c.in_ok-set_title_at.ensures.ok
    ∙ ap (λ u. titled_at c.args.row c.args.side c.args.title.now widths u)
    (c.in_ok-color_title.ensures.ok
    ∙ ap (λ n. record t { config = with_title_color c.args.row c.args.side n c.in_ok-color.color widths (length t.rows) (columns_of t.rows) t.config }) count
    ∙ ap (λ k. record t { config = with_title_color c.args.row c.args.side (length (chars c.args.title.now)) k widths (length t.rows) (columns_of t.rows) t.config }) c.in_ok-color.ensures)

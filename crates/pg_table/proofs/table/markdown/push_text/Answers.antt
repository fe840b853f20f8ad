use Rattle.std.proofs.Common.{◌++◌, flat_map, sym, ap, ◌∙◌, map-id, string_bytes}
use Rattle.std.proofs.lemmas.Iterator.{YieldsList-from_chars}
use Rattle.std.proofs.lemmas.Iterator.Consumers.{YieldsList-end}
use Rattle.pg_table.specs.Markup.{escape_of, escaped_text}
use Rattle.pg_table.proofs.table.markdown.push_text.Goals as goal

pub returns : goal.returns
unfolding escaped_text
returns g c =
    let end = YieldsList-end (YieldsList-from_chars c.args.text.now c.utf8.text cc) c.loop-c.yielded _ c.loop-c.yielded_by _ _ c.in-None.is c.next.ensures.steps in
    c.loop-c.invariant ∙ ap (λ cs. string_bytes c.args.markdown.now ++ flat_map escape_of cs) (sym (map-id c.loop-c.yielded) ∙ end.0)

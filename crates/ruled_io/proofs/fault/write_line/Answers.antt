use Rattle.std.proofs.Common.{◌++◌, ◌∷◌, [], flat_map, sym, ap, ◌∙◌, map-id, append-nil, rules}
use Rattle.std.proofs.Output.{writes_in_calls_nil, has_written_append, has_written_of_eq}
use Rattle.std.proofs.lemmas.Iterator.{YieldsList-from_chars}
use Rattle.std.proofs.lemmas.Iterator.Consumers.{YieldsList-end}
use Rattle.std.proofs.lemmas.List.Concat.{flat_map-append}
use Rattle.std.specs.Fmt.{HasWritten}
use Rattle.ruled_io.specs.Faults.{line_text, shown_in_line}
use Rattle.ruled_io.proofs.fault.write_line.Goals as goal

pub loop-c-init : goal.loop-c-init
loop-c-init g c = λ plain. record { wrote = writes_in_calls_nil _ _; plain = plain }

pub loop-c-preserved : goal.loop-c-preserved
loop-c-preserved g c = λ plain.
    let done = flat_map shown_in_line c.loop-c.yielded in
    let written : HasWritten g.W.Write.write_str_gives _ (done ++ shown_in_line c.in-Some.c) _ = has_written_append _ _ _ _ _ _ (c.loop-c.invariant plain) (search rules) in
    has_written_of_eq _ _ _ _ _ (sym (flat_map-append shown_in_line c.loop-c.yielded (c.in-Some.c ∷ []) ∙ ap (λ l. done ++ l) (append-nil (shown_in_line c.in-Some.c)))) written

pub returns : goal.returns
unfolding line_text
returns g c = λ plain _.
    let end = YieldsList-end (YieldsList-from_chars c.args.text.now c.utf8.text (search rules)) c.loop-c.yielded _ c.loop-c.yielded_by _ _ c.in-None.is c.next.ensures.steps in
    has_written_of_eq _ _ _ _ _ (ap (flat_map shown_in_line) (sym (map-id c.loop-c.yielded) ∙ end.0)) (c.loop-c.invariant plain)

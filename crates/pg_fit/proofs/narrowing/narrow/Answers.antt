use Rattle.std.proofs.Common.{◌+◌, ◌-◌, ◌++◌, [], ◌∷◌, get_or, drop, sym, ap, ◌∙◌, append-nil}
use Rattle.std.proofs.lemmas.List.{at_drop_all}
use Rattle.pg_fit.specs.Narrowing.{share, total, handed_out, narrowed}
use Rattle.pg_fit.proofs.NarrowedWidths.{handed_out-more}
use Rattle.pg_fit.proofs.narrowing.narrow.Goals as goal

pub loop-column-preserved : goal.loop-column-preserved
loop-column-preserved g c =
    let l = c.find_level-level.result in
    let cs = c.args.columns.now in
    let i = c.loop-column.column-index in
    let x = get_or cs i (record { least = 0; natural = 0 }) in
    let rest = c.loop-column.widths.items in
    ap (λ items. items ++ handed_out (c.loop-column.left - c.gain-gain.result) l (drop (i + 1) cs)) c.in_ok-push.ensures.items
    ∙ ap (λ n. (rest ++ (n + c.gain-gain.result) ∷ []) ++ handed_out (c.loop-column.left - c.gain-gain.result) l (drop (i + 1) cs)) c.share.ensures
    ∙ ap (λ n. (rest ++ (share l x + n) ∷ []) ++ handed_out (c.loop-column.left - n) l (drop (i + 1) cs)) c.gain-gain.ensures.value
    ∙ handed_out-more rest c.loop-column.left l i cs (record { least = 0; natural = 0 }) c.loop-column-test.true
    ∙ c.loop-column.invariant

pub returns : goal.returns
unfolding narrowed
returns g c =
    let cs = c.args.columns.now in
    sym (append-nil c.loop-column.widths.items) ∙ ap (λ z. c.loop-column.widths.items ++ z) (sym (at_drop_all (handed_out c.loop-column.left c.find_level-level.result) cs c.loop-column.column-index c.loop-column-test.false))
    ∙ c.loop-column.invariant
    ∙ ap (λ n. handed_out n c.find_level-level.result cs) c.left_at-left.ensures
    ∙ ap (λ n. handed_out (c.args.room - total n cs) n cs) c.find_level-level.ensures

use Rattle.std.proofs.Common.{chars, sym, ap, ◌∙◌, arith}
use Rattle.std.specs.List.{list_all}
use Rattle.pg_layout.specs.Text.{width_of}
use Rattle.pg_fit.specs.Inside.{adds_up}
use Rattle.pg_fit.proofs.LawsOfControls.{added-width}
use Rattle.pg_fit.proofs.line.columns_within.Goals as goal

pub returns-in_default : goal.returns-in_default
returns-in_default c =
    let l = c.args.line in
    let adds = ap (λ z. list_all adds_up (chars z)) (sym c.range-more.ensures.value) ∙ sym c.adds_up.ensures ∙ c.if-not-adds_up.false in
    let sum = added-width c.args.text.now l.begin l.end c.args.end c.utf8.text c.requires.line c.requires.order c.requires.line_begin c.requires.line_end adds in
    omega (arith, sum, c.requires.columns, c.in_default.ensures {u = tt})

pub returns-then-own-room : goal.returns-then-own-room
returns-then-own-room c =
    let l = c.args.line in
    let adds = ap (λ z. list_all adds_up (chars z)) (sym c.range-more.ensures.value) ∙ sym c.adds_up.ensures ∙ c.if-not-adds_up.false in
    let sum = added-width c.args.text.now l.begin l.end c.args.end c.utf8.text c.requires.line c.requires.order c.requires.line_begin c.requires.line_end adds in
    let own = c.get_line_width-own.ensures ∙ ap width_of c.range-more.ensures.value in
    let room = c.in-Some.ensures {u = tt} in
    (omega (arith, sum, c.requires.columns, own), omega (arith, room.0, room.1))

pub returns-else-own-room : goal.returns-else-own-room
returns-else-own-room c =
    let l = c.args.line in
    let adds = ap (λ z. list_all adds_up (chars z)) (sym c.range-more.ensures.value) ∙ sym c.adds_up.ensures ∙ c.if-not-adds_up.false in
    let sum = added-width c.args.text.now l.begin l.end c.args.end c.utf8.text c.requires.line c.requires.order c.requires.line_begin c.requires.line_end adds in
    let own = c.get_line_width-own.ensures ∙ ap width_of c.range-more.ensures.value in
    let room = c.in-Some.ensures {u = tt} in
    omega (arith, sum, c.requires.columns, own, room.0, room.1)

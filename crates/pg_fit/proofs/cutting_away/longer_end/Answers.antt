use Rattle.std.proofs.Common.{◌≡◌, true, chars, sym, ap, ◌∙◌, arith}
use Rattle.std.specs.List.{list_all}
use Rattle.std.specs.Bool.{IsTrue}
use Rattle.std.proofs.lemmas.Bool.Decides.{nat_tests}
use Rattle.pg_layout.specs.Text.{width_of}
use Rattle.pg_fit.specs.Inside.{adds_up}
use Rattle.pg_fit.specs.declared.cutting_away.End.{End}
use Rattle.pg_fit.proofs.LawsOfCuts.{longer-width}
use Rattle.pg_fit.proofs.cutting_away.longer_end.Goals as goal

pub returns-in_default-clause-wide : goal.returns-in_default-clause-wide
returns-in_default-clause-wide g c =
    let yes : c.adds_up.result ≡ true = grind (arith, nat_tests) in
    let behind : IsTrue c.args.end.adds_up = grind (arith, nat_tests) in
    let own = ap (λ z. list_all adds_up (chars z)) (sym c.range-added.ensures.value) ∙ sym c.adds_up.ensures ∙ yes in
    let sum = longer-width c.args.front.now c.args.line.now c.args.begin c.args.end.begin c.utf8.front c.utf8.line c.requires.order c.requires.begin c.requires.end own (c.requires.adds_up behind) in
    let wide = c.get_line_width-2.ensures ∙ ap width_of c.range-added.ensures.value in
    λ _. omega (arith, sum.0, c.requires.columns, wide, c.in_default.ensures {u = tt})

pub returns-clause-wide : goal.returns-clause-wide
returns-clause-wide g c =
    let yes : c.adds_up.result ≡ true = grind (arith, nat_tests) in
    let behind : IsTrue c.args.end.adds_up = grind (arith, nat_tests) in
    let own = ap (λ z. list_all adds_up (chars z)) (sym c.range-added.ensures.value) ∙ sym c.adds_up.ensures ∙ yes in
    let sum = longer-width c.args.front.now c.args.line.now c.args.begin c.args.end.begin c.utf8.front c.utf8.line c.requires.order c.requires.begin c.requires.end own (c.requires.adds_up behind) in
    let wide = c.get_line_width-2.ensures ∙ ap width_of c.range-added.ensures.value in
    let made = c.in-Some.ensures {u = tt} in
    λ none. omega (arith, sum.0, c.requires.columns, wide, made.1, c.from-2.ensures.none none)

pub returns-clause-columns : goal.returns-clause-columns
returns-clause-columns g c =
    let yes : c.adds_up.result ≡ true = grind (arith, nat_tests) in
    let behind : IsTrue c.args.end.adds_up = grind (arith, nat_tests) in
    let own = ap (λ z. list_all adds_up (chars z)) (sym c.range-added.ensures.value) ∙ sym c.adds_up.ensures ∙ yes in
    let sum = longer-width c.args.front.now c.args.line.now c.args.begin c.args.end.begin c.utf8.front c.utf8.line c.requires.order c.requires.begin c.requires.end own (c.requires.adds_up behind) in
    let wide = c.get_line_width-2.ensures ∙ ap width_of c.range-added.ensures.value in
    let made = c.in-Some.ensures {u = tt} in
    λ e is. omega (arith, sum.0, c.requires.columns, wide, made.1, ap (λ (z : End). z.columns) (c.from-2.ensures.some e is).1)

pub returns-clause-adds_up : goal.returns-clause-adds_up
returns-clause-adds_up g c =
    let yes : c.adds_up.result ≡ true = grind (arith, nat_tests) in
    let behind : IsTrue c.args.end.adds_up = grind (arith, nat_tests) in
    let own = ap (λ z. list_all adds_up (chars z)) (sym c.range-added.ensures.value) ∙ sym c.adds_up.ensures ∙ yes in
    let sum = longer-width c.args.front.now c.args.line.now c.args.begin c.args.end.begin c.utf8.front c.utf8.line c.requires.order c.requires.begin c.requires.end own (c.requires.adds_up behind) in
    λ e is all. sum.1

use Rattle.std.proofs.Common.{◌-◌, ◌<◌, ◌≤◌, ◌++◌, append_assoc, sym, ap, ◌∙◌, arith}
use Rattle.std.specs.String.{string_bytes}
use Rattle.pg_layout.specs.Text.{width_of}
use Rattle.pg_fit.specs.Cutting.{beginning}
use Rattle.pg_fit.proofs.LawsOfCuts.{cut_line-fits, cut_line-tailed, cut_line-tail}
use Rattle.pg_fit.proofs.cutting.push_cut.Goals as goal

pub returns-then-get_line_width-width : goal.returns-then-get_line_width-width
returns-then-get_line_width-width g c =
    let low : width_of c.args.line.now ≤ c.args.width = omega (arith, c.get_line_width.ensures) in
    c.in_ok-push_str.ensures.bytes ∙ ap (λ z. string_bytes c.args.out.now ++ z) (sym (cut_line-fits c.args.width c.args.tail.now c.args.line.now low))

pub returns-then-tail_width-width : goal.returns-then-tail_width-width
returns-then-tail_width-width g c =
    let wide : c.args.width < width_of c.args.line.now = omega (arith, c.get_line_width.ensures) in
    let long : c.args.width < width_of c.args.tail.now = omega (arith, c.get_line_width-tail_width.ensures) in
    c.in_ok-push_str-2.ensures.bytes ∙ ap (λ z. string_bytes c.args.out.now ++ z) (c.begin_of.ensures ∙ sym (cut_line-tail c.args.width c.args.tail.now c.args.line.now wide long))

pub returns : goal.returns
returns g c =
    let tail = c.args.tail.now in
    let line = c.args.line.now in
    let old = string_bytes c.args.out.now in
    let wide : c.args.width < width_of line = omega (arith, c.get_line_width.ensures) in
    let low : width_of tail ≤ c.args.width = omega (arith, c.get_line_width-tail_width.ensures) in
    c.in_ok-push_str-4.ensures.bytes
    ∙ ap (λ z. z ++ tail) (c.in_ok-push_str-3.ensures.bytes ∙ ap (λ z. old ++ z) (c.begin_of-2.ensures ∙ ap (λ n. beginning (c.args.width - n) line) c.get_line_width-tail_width.ensures))
    ∙ append_assoc old (beginning (c.args.width - width_of tail) line) tail
    ∙ ap (λ z. old ++ z) (sym (cut_line-tailed c.args.width tail line wide low))

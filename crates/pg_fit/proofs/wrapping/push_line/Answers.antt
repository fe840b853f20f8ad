use Rattle.std.proofs.Common.{◌<◌, ◌≤◌, ◌++◌, sym, ap, ◌∙◌, arith}
use Rattle.std.specs.String.{string_bytes}
use Rattle.pg_layout.specs.Text.{width_of}
use Rattle.std.specs.List.{join_with_byte}
use Rattle.pg_fit.proofs.FilledLines.{wrapped_line-fits, wrapped_line-broken}
use Rattle.pg_fit.proofs.wrapping.push_line.Goals as goal

pub returns-then-get_line_width-width : goal.returns-then-get_line_width-width
returns-then-get_line_width-width g c =
    let t = c.args.line.now in
    let old = string_bytes c.args.out.now in
    let low : width_of t ≤ c.args.width = omega (arith, c.get_line_width.ensures) in
    c.in_ok-push_str.ensures.bytes ∙ ap (λ z. old ++ join_with_byte 10 z) (sym (wrapped_line-fits c.args.breaking c.args.width t low))

pub returns : goal.returns
returns g c =
    let t = c.args.line.now in
    let old = string_bytes c.args.out.now in
    let wide : c.args.width < width_of t = omega (arith, c.get_line_width.ensures) in
    c.in_ok-push_str-2.ensures.bytes
    ∙ ap (λ z. string_bytes c.take_line.new.out ++ z) c.range.ensures.value
    ∙ c.in_ok-last.ensures.filled
    ∙ ap (λ z. old ++ join_with_byte 10 z) (sym (wrapped_line-broken c.args.breaking c.args.width t wide))

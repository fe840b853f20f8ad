use Rattle.std.proofs.Common.{◌≡◌, ◌∙◌, ◌≤◌, ◌+◌, ◌-◌, ◌∷◌, ◌++◌, [], ℕ, drop, length, map, take, ap, ap₂, arith, rules}
use Rattle.csv.specs.Records.{fields_of}
use Rattle.ruled_table.proofs.LentTexts.{are-ends, joined-ends}
use Rattle.ruled_table.proofs.rows.both_ends.Goals as goal

pub returns : goal.returns
returns c =
    let rows = c.args.rows.items in
    let n = c.args.count + 1 in
    let end = length rows - c.args.count in
    let within : n ≤ end = omega (arith, c.requires.more) in
    let at : c.len.result - c.args.count ≡ end = omega (arith, c.len.ensures, c.args.rows.ok) in
    let front : c.truncate.new.self.items ≡ take n (take end rows) = c.truncate.ensures.items ∙ ap (take n) (c.in_ok-last.ensures.items ∙ ap (λ (l : ℕ). take l rows) at) in
    let last : c.in_ok-last.last.items ≡ drop end rows = c.in_ok-last.ensures.tail ∙ ap (λ (l : ℕ). drop l rows) at in
    let items : c.append.new.self.items ≡ (take n (take end rows) ++ c.in_ok-gap.gap ∷ []) ++ drop end rows =
    c.in_ok-append.ensures.items ∙ ap₂ (λ xs ys. xs ++ ys) (c.in_ok-push.ensures.items ∙ ap (λ xs. xs ++ c.in_ok-gap.gap ∷ []) front) last
    in
    ap (map fields_of) items ∙ joined-ends fields_of rows c.in_ok-gap.gap n end within
    ∙ are-ends fields_of rows c.in_ok-gap.gap c.index.result.now c.args.count c.in_ok-gap.ensures (search (rules, c.index.ensures))

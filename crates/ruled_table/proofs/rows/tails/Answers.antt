use Rattle.std.proofs.Common.{◌≡◌, ◌∙◌, ◌-◌, ℕ, Option, length, map, sym, ap, arith, rules}
use Rattle.csv.specs.Records.{fields_of}
use Rattle.ruled_table.specs.Arranged.{last_of}
use Rattle.ruled_table.proofs.LentTexts.{last-kept}
use Rattle.ruled_table.proofs.rows.tails.Goals as goal

pub returns-then-end-gt1 : goal.returns-then-end-gt1
returns-then-end-gt1 c =
    let options = c.args.options.now in
    let rows = c.args.rows.items in
    let end = c.saturating_sub-end.result in
    let is : end ≡ length rows - c.in-Some.count = omega (arith, c.saturating_sub-end.ensures, c.len.ensures, c.args.rows.ok) in
    let kept : map fields_of c.drop-drain.new.self.0.items ≡ last_of options.tail (map fields_of rows) =
    ap (map fields_of) (c.drop-drain.ensures.items ∙ c.drain.ensures.kept)
    ∙ last-kept fields_of rows c.in-Some.count end is c.if-end-gt1.true
    ∙ ap (λ (count : Option ℕ). last_of count (map fields_of rows)) (sym c.in-Some.is)
    in
    search (rules, kept)

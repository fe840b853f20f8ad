use Rattle.std.proofs.Common.{◌≡◌, ◌≢◌, ◌==◌, true, false, None, [], ◌∷◌, refl, ap, arith, rules}
use Rattle.std.proofs.lemmas.Bool.Decides.{nat_tests}
use Rattle.std.proofs.lemmas.Grind.{common_steps}
use Rattle.std.proofs.lemmas.Str.Pattern.{strip_prefix_char}
use Rattle.pg_layout.specs.Text.{Text}
use Rattle.ruled_table.specs.RowLines.{unfed}
use Rattle.ruled_table.proofs.row_lines.but_feed.Goals as goal

no-feed : (text : Text) → ((rest : Text) → text ≢ 10 ∷ rest) → text ≡ unfed text
no-feed [] none = refl
no-feed (b ∷ bs) none =
    let other : b ≢ 10 = λ is. none bs (ap (λ x. x ∷ bs) is) in
    let is : (b == 10) ≡ false = grind (arith, nat_tests, other) in
    rw is refl

pub returns-in-None : goal.returns-in-None
returns-in-None c =
    let begun : c.args.is_begun ≡ true = first_of (search rules, grind (arith, common_steps)) in
    rw begun (no-feed c.args.lines.now (strip_prefix_char 10 c.args.lines.now None c.in-None.ensures.cases (omega arith)))

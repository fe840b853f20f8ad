use Rattle.std.proofs.Common.{◌≡◌, ◌+◌, ◌-◌, sym, ap, ◌∙◌, arith, suc}
use Rattle.std.proofs.lemmas.Bool.Decides.{nat_tests}
use Rattle.sqlite_sql.specs.Spelling as spec
use Rattle.ruled_database.proofs.float.without_zeros.Goals as goal

pub loop-turn-preserved : goal.loop-turn-preserved
loop-turn-preserved c =
    let more : 20 - c.loop-turn._turn ≡ suc (20 - (c.loop-turn._turn + 1)) = omega arith in
    let was = sym (ap (λ n. spec.without_zeros n c.loop-turn.left) more) ∙ c.loop-turn.invariant in
    grind (arith, nat_tests)

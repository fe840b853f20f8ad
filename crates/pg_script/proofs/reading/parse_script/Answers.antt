use Rattle.std.proofs.Common.{◌≡◌, ◌∙◌, arith, length, ap, sym, Err, None}
use Rattle.pg_script.specs.Script.{read_lines}
use Rattle.pg_script.specs.declared.script.ScriptFault.TheVariants.{Bad}
use Rattle.pg_script.proofs.LineWords.{length-lines}
use Rattle.pg_script.proofs.reading.parse_script.Goals as goal

pub read_size-requires : goal.read_size-requires
read_size-requires g c = omega (arith, length-lines c.args.script.now, ap length c.new-rest.ensures, c.well_formed.1.0.1)

pub follow_lines-requires : goal.follow_lines-requires
follow_lines-requires g c = omega (arith, length-lines c.args.script.now, ap length c.new-rest.ensures, c.well_formed.1.0.1, c.in-Ok.ensures.counted)

pub returns-in-Err-follow_lines-clause-bad : goal.returns-in-Err-follow_lines-clause-bad
returns-in-Err-follow_lines-clause-bad g c = λ n is.
    let same : c.in-Err-follow_lines.fault ≡ Bad n = cc in
    let bad = c.in-Err-follow_lines.ensures.bad n (ap Err same) in
    let told = c.in_ok-draft.ensures.told in
    let size = c.in_ok-draft.ensures.size in
    ap (λ ls. read_lines 1 None ls) (sym c.new-rest.ensures) ∙ c.in-Ok.ensures.told ∙ (rw (size, told) at bad)

use Rattle.std.proofs.Common.{◌≡◌, ◌∙◌, ◌++◌, ℕ, List, ap, ap₂, arith, rules}
use Rattle.std.proofs.lemmas.Grind.{common_steps}
use Rattle.std.specs.Fmt.{decimal}
use Rattle.sqlite_sql.specs.Spelling as spec
use Rattle.ruled_database.proofs.Tabling.{spelled_plain}
use Rattle.ruled_database.proofs.float.float_text.Goals as goal

pub returns : goal.returns
returns c =
    let bits = c.f64_to_bits_with_nan-bits.result in
    let plain = c.in-Some.plain in
    let digits : c.as_bytes-digits.result.now ≡ decimal plain.digits = first_of (search rules, grind (arith, common_steps)) in
    c.in_ok-push_with_point.ensures
    ∙ ap₂ (λ (sign text : List ℕ). sign ++ text) c.in_ok-text.ensures (ap (λ (ds : List ℕ). spec.with_point ds plain.point) digits)
    ∙ spelled_plain c.args.x bits (spec.with_point (decimal plain.digits) plain.point) c.f64_to_bits_with_nan-bits.ensures c.in-Some.ensures.1 c.in-Some.ensures.0

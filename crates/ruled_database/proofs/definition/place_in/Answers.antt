use Rattle.std.proofs.Common.{◌≡◌, ℕ, ◌+◌, ◌-◌, ◌≤◌, List, [], ◌∷◌, length, map, take, drop, rules, arith, ap, ◌∙◌, get_or, Bor, false}
use Rattle.std.proofs.lemmas.Grind.{common_steps}
use Rattle.std.proofs.lemmas.List.{take_all}
use Rattle.std.specs.Str.{str_eq_ignore_ascii_case}
use Rattle.ruled_database.specs.Definitions.{place_from}
use Rattle.ruled_database.proofs.definition.place_in.Goals as goal

-- behind a first name that is another one
behind : (name : List ℕ) (place : ℕ) (names : List (Bor (List ℕ))) (none : Bor (List ℕ)) → 1 ≤ length names → str_eq_ignore_ascii_case (get_or names 0 none).now name ≡ false
    → place_from (place + 1) (map (λ it. it.now) (take (length names - 1) (drop 1 names))) name ≡ place_from place (map (λ it. it.now) names) name
behind name place [] none less differs = absurd (omega (arith, less))
behind name place (first ∷ rest) none less differs =
    ap (λ (behind : List (Bor (List ℕ))). place_from (place + 1) (map (λ it. it.now) behind) name) (take_all (length (first ∷ rest) - 1) rest (omega arith)) ∙ grind (arith, common_steps, differs)

pub loop-names-preserved : goal.loop-names-preserved
loop-names-preserved c = record {
  place = behind c.args.name.now c.loop-names.place c.loop-names.names.now (record { ref_ptr = (0, 0); now = [] }) c.in-len1-up.len_at_least (search rules) ∙ c.loop-names.invariant.place;
  within = grind (arith, common_steps);
}

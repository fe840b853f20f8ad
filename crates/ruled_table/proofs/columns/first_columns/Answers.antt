use Rattle.std.proofs.Common.{◌≡◌, ◌∙◌, ◌-◌, ℕ, List, [], Bor, ap, sym, drop, arith}
use Rattle.std.specs.List.{position_from}
use Rattle.std.specs.Map.{lookup}
use Rattle.std.specs.Str.{bytes_eq}
use Rattle.std.proofs.lemmas.Iterator.Adapters.{position_from-zero}
use Rattle.csv.specs.Records.{fields_of}
use Rattle.ruled_table.proofs.WordsOfColumns.{first_next, passes_nowhere}
use Rattle.ruled_table.proofs.columns.first_columns.Goals as goal

pub loop-place-init : goal.loop-place-init
loop-place-init c = λ name.
    ap (λ (entries : List (Bor (List ℕ) × ℕ)). lookup (λ known. bytes_eq name known.now) entries) c.in_ok-first.ensures.empty
    ∙ sym (passes_nowhere (λ field. bytes_eq field name) (fields_of c.args.header.now) _ (omega arith))

pub loop-place-preserved : goal.loop-place-preserved
loop-place-preserved c = λ name.
    let place = c.loop-place.place in
    let asked : Bor (List ℕ) = record { ref_ptr = (0, 0); now = name } in
    first_next (λ field. bytes_eq field name) (fields_of c.args.header.now) (place - 1) place c.field_at.result.now [] _ _ (omega arith) (omega arith) c.field_at.ensures (c.loop-place.invariant name)
    (c.in_ok-insert.ensures.updates.0 asked)

pub returns : goal.returns
returns c = λ name.
    let start : c.loop-place.place ≡ 0 = omega arith in
    c.loop-place.invariant name
    ∙ ap (λ (n : ℕ). position_from (λ field. bytes_eq field name) n (drop n (fields_of c.args.header.now))) start
    ∙ sym (position_from-zero (λ field. bytes_eq field name) (fields_of c.args.header.now))

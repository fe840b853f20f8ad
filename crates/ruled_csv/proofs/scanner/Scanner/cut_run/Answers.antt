use Rattle.std.proofs.Common.{◌≡◌, ◌<◌, ◌+◌, ◌-◌, ◌∙◌, ◌++◌, ◌∷◌, [], ℕ, List, drop, eqb-true, length, get_or, sym, ap, ap₂, subst, take, arith}
use Rattle.std.specs.Prelude.{fold}
use Rattle.std.specs.List.{slice_range}
use Rattle.std.proofs.lemmas.List.{take_all}
use Rattle.std.proofs.lemmas.Result.{on_ok_weaker}
use Rattle.memchr.specs.Find.{is_byte, places_from}
use Rattle.csv.specs.Records.{fields_of, partial_of}
use Rattle.ruled_csv.specs.Quotes.{separator}
use Rattle.ruled_csv.specs.Inside.{Hand, fields_behind, hand_of, state_behind}
use Rattle.ruled_csv.proofs.KeptTexts.{field-ends, next-place, none-left, run-joins}
use Rattle.ruled_csv.proofs.scanner.Scanner.cut_run.Goals as goal

pub slice_bounds-push_field-count : goal.slice_bounds-push_field-count
slice_bounds-push_field-count c =
    let run = c.args.run.now in
    let start = c.loop-at.start in
    let next = next-place (is_byte (separator c.args.self.now.dialect)) run start (length run - start) c.in-Some.at c.next.new.self (sym (c.loop-at.invariant.4) ∙ c.in-Some.ensures.steps) in
    next.low

pub slice_bounds-push_field-start : goal.slice_bounds-push_field-start
slice_bounds-push_field-start c =
    let run = c.args.run.now in
    let start = c.loop-at.start in
    let next = next-place (is_byte (separator c.args.self.now.dialect)) run start (length run - start) c.in-Some.at c.next.new.self (sym (c.loop-at.invariant.4) ∙ c.in-Some.ensures.steps) in
    next.low

pub slice_bounds-push_field-end : goal.slice_bounds-push_field-end
slice_bounds-push_field-end c =
    let run = c.args.run.now in
    let start = c.loop-at.start in
    let next = next-place (is_byte (separator c.args.self.now.dialect)) run start (length run - start) c.in-Some.at c.next.new.self (sym (c.loop-at.invariant.4) ∙ c.in-Some.ensures.steps) in
    omega (arith, next.low, next.high, c.loop-at.invariant.0)

pub loop-at-preserved : goal.loop-at-preserved
loop-at-preserved c =
    let run = c.args.run.now in
    let start = c.loop-at.start in
    let i = c.in-Some.at in
    let dialect = c.args.self.now.dialect in
    let old = hand_of c.args.self.now in
    let now = hand_of c.loop-at.self in
    let (within, same, parts, cut, left) = c.loop-at.invariant in
    let next = next-place (is_byte (separator dialect)) run start (length run - start) i c.next.new.self (sym left ∙ c.in-Some.ensures.steps) in
    let high : i < length run = omega (arith, next.high, within) in
    let here : start + (i - start) ≡ i = omega (arith, next.low) in
    let joined = run-joins dialect run (old.fields, old.field) start (i - start) now.fields now.field (omega (arith, next.low, high)) (λ k low below. next.none k low (omega (arith, below, next.low))) cut in
    let before = subst (λ (k : ℕ). fold (fields_behind dialect) (old.fields, old.field) (take k run) ≡ (now.fields, now.field ++ slice_range run start k)) here joined in
    let ends : get_or run i 0 ≡ (separator dialect) = eqb-true (get_or run i 0) (separator dialect) next.hit in
    let ended = c.in_ok-push_field.ensures in
    let row = c.push_field.new.self in
    let fields = now.fields ++ (now.field ++ slice_range run start i) ∷ [] in
    let empty : i + 1 - (i + 1) ≡ 0 = omega arith in
    let end : start + (length run - start) ≡ length run = omega (arith, within) in (
      omega (arith, high),
      same,
      ap (λ (hand : Hand). record hand { fields = fields_of row; field = partial_of row }) parts,
      field-ends dialect run i high (old.fields, old.field) start now.fields now.field next.low before ends
          ∙ ap (λ (n : ℕ). (fields, [] ++ take n (drop (i + 1) run))) empty
          ∙ ap₂ (λ (front : List (List ℕ)) (field : List ℕ). (front, field)) (sym ended.fields) (sym ended.partial),
      next.rest ∙ ap (λ (n : ℕ). places_from (is_byte (separator dialect)) run (i + 1) (n - (i + 1))) end,
    )

pub returns-clause-hand : goal.returns-clause-hand
returns-clause-hand c =
    let run = c.args.run.now in
    let start = c.loop-at.start in
    let dialect = c.args.self.now.dialect in
    let old = hand_of c.args.self.now in
    let now = hand_of c.loop-at.self in
    let (within, same, parts, cut, left) = c.loop-at.invariant in
    let end : start + (length run - start) ≡ length run = omega (arith, within) in
    let none = none-left (is_byte (separator dialect)) run start (length run - start) (sym c.in-None.ensures.steps.0 ∙ left) in
    let joined = run-joins dialect run (old.fields, old.field) start (length run - start) now.fields now.field (omega (arith, within)) none cut in
    let all : fold (fields_behind dialect) (old.fields, old.field) run ≡ (now.fields, now.field ++ slice_range run start (length run)) =
    ap (fold (fields_behind dialect) (old.fields, old.field)) (sym (take_all (length run) run (omega arith)))
    ∙ subst (λ (k : ℕ). fold (fields_behind dialect) (old.fields, old.field) (take k run) ≡ (now.fields, now.field ++ slice_range run start k)) end joined
    in
    let row = c.push_bytes.new.self in
    on_ok_weaker c.push_bytes.result
    (λ field.
    ap (λ (hand : Hand). record hand { fields = fields_of row; field = partial_of row }) parts
    ∙ ap₂ (λ (front : List (List ℕ)) (xs : List ℕ). record old { state = fold (state_behind dialect) old.state run; fields = front; field = xs }) c.push_bytes.ensures.fields field
    ∙ ap (λ (cut : List (List ℕ) × List ℕ). record old { state = fold (state_behind dialect) old.state run; fields = cut.0; field = cut.1 }) (sym all))
    c.push_bytes.ensures.partial

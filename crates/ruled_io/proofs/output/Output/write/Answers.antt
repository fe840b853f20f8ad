use Rattle.std.proofs.Common.{◌≡◌, ◌-◌, ℕ, List, [], Option, length, take, drop, ◌++◌, ◌∙◌, sym, ap, subst, rules, take-append-drop, drop_of_length-le}
use Rattle.std.proofs.lemmas.List.{take_rest}
use Rattle.ruled_io.specs.Faults.{Begins}
use Rattle.ruled_io.proofs.Fronts.{goes-begin, goes-on, goes-end, goes-stops, goes-stays, on-err}
use Rattle.ruled_io.proofs.output.Output.write.Goals as goal

pub loop-init : goal.loop-init
loop-init g c = (goes-begin (g.W.Write.contents c.args.self.now.writer) c.args.bytes.now, λ none. none)

parts : (rest : List ℕ) (n : ℕ) → rest ≡ take n rest ++ take (length rest - n) (drop n rest)
parts rest n = sym (take-append-drop n rest) ∙ ap (λ (xs : List ℕ). take n rest ++ xs) (sym (take_rest rest n))

pub loop-preserved : goal.loop-preserved
loop-preserved g c =
    let rest : List ℕ = c.loop.rest.now in
    let n : ℕ = c.in_ok-count.count in (
      goes-on (g.W.Write.contents c.args.self.now.writer) (g.W.Write.contents c.loop.self.writer) (g.W.Write.contents c.write_some.new.self.writer) c.args.bytes.now rest (take n rest) (take (length rest - n) (drop n rest)) c.loop.invariant.0 (parts rest n) c.in_ok-count.ensures.written,
      λ none. c.in_ok-count.ensures.told,
    )

pub returns-then-is_empty-clause-written : goal.returns-then-is_empty-clause-written
returns-then-is_empty-clause-written g c =
    let rest : List ℕ = c.loop.rest.now in
    let empty : rest ≡ [] = drop_of_length-le rest {i = 0} (search rules) in
    goes-end (g.W.Write.contents c.args.self.now.writer) (g.W.Write.contents c.loop.self.writer) c.args.bytes.now rest c.loop.invariant.0 empty

pub returns-in_err-count-clause-begun : goal.returns-in_err-count-clause-begun
returns-in_err-count-clause-begun g c =
    on-err c.from_residual.result (goes-stops (g.W.Write.contents c.args.self.now.writer) (g.W.Write.contents c.loop.self.writer) (g.W.Write.contents c.write_some.new.self.writer) c.args.bytes.now c.loop.rest.now c.loop.invariant.0 c.in_err-count.ensures.none)

pub returns-clause-begun : goal.returns-clause-begun
returns-clause-begun g c =
    let P : Option (List ℕ) → Type 0 = λ contents. Begins (g.W.Write.contents c.args.self.now.writer) contents c.args.bytes.now in
    subst P (sym c.failed.ensures.kept) (goes-stays (g.W.Write.contents c.args.self.now.writer) (g.W.Write.contents c.loop.self.writer) c.args.bytes.now c.loop.rest.now c.loop.invariant.0)

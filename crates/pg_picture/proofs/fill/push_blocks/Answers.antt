use Rattle.std.proofs.Common.{ℕ, ◌*◌, ◌+◌, ◌-◌, ◌%◌, ◌≡◌, ◌∙◌, ◌++◌, sym, ap, arith, refl}
use Rattle.std.proofs.lemmas.Nat.{div-add-mod'}
use Rattle.pg_picture.specs.Pieces.{repeated}
use Rattle.pg_picture.proofs.Appending.{refused, Appends-text, Gained-none, Gained-more, Gained-text, gained-then}
use Rattle.pg_picture.proofs.PiecesOfLines.{repeated-add, repeated-zero}
use Rattle.pg_picture.proofs.fill.push_blocks.Goals as goal

pub loop-init : goal.loop-init
loop-init g c = Gained-text (sym (repeated-zero c.args.c)) (Gained-none c.args.buf.now)

pub returns-in_err-push_text : goal.returns-in_err-push_text
returns-in_err-push_text g c =
    let k : ℕ = c.loop.counter * 64 in
    let rest : ℕ = c.args.count - k - 64 in
    let all : c.args.count ≡ k + (64 + rest) = omega (arith, div-add-mod' c.args.count 64) in
    refused (repeated c.args.c rest)
    (repeated-add c.args.c k (64 + rest) all ∙ ap (λ x. repeated c.args.c k ++ x) (repeated-add c.args.c 64 rest refl ∙ ap (λ x. x ++ repeated c.args.c rest) (sym c.requires)))
    c.from_residual.ensures.0 c.loop.invariant c.in_err-push_text.ensures

pub loop-preserved : goal.loop-preserved
loop-preserved g c =
    let k : ℕ = c.loop.counter * 64 in
    let all : (c.loop.counter + 1) * 64 ≡ k + 64 = omega arith in
    Gained-text (sym (repeated-add c.args.c k 64 all ∙ ap (λ x. repeated c.args.c k ++ x) (sym c.requires))) (Gained-more c.loop.invariant c.in_ok-push_text.ensures)

pub returns : goal.returns
returns g c =
    let k : ℕ = c.loop.counter * 64 in
    let all : c.args.count ≡ k + c.args.count % 64 = omega (arith, div-add-mod' c.args.count 64) in
    Appends-text (sym (repeated-add c.args.c k (c.args.count % 64) all ∙ ap (λ x. repeated c.args.c k ++ x) (sym c.front_of.ensures))) (gained-then c.loop.invariant c.push_text-2.ensures)

use Rattle.std.proofs.Common.{◌≡◌, ◌<◌, ◌^◌, ◌++◌, ◌∷◌, [], ℕ, Option, map, unwrap_or, sym, ap, ◌∙◌, arith}
use Rattle.std.specs.List.{range_with_len}
use Rattle.std.proofs.lemmas.List.FromFn.{map-range_with_len_more}
use Rattle.pg_picture.proofs.Ranges.{if_fits-below}
use Rattle.pg_table.specs.Inside.{size_of, count_of}
use Rattle.pg_table.proofs.ListedSizes.{each-fits}
use Rattle.pg_table.proofs.sizes.NaturalSizes.list.Goals as goal

pub loop-k-preserved : goal.loop-k-preserved
loop-k-preserved g c =
    let f : ℕ → ℕ = size_of g.R.Records.texts g.R.Records.columns c.args.self.now c.args.axis in
    let n : ℕ = count_of g.R.Records.texts g.R.Records.columns c.args.self.now c.args.axis in
    let inside : c.loop-k.k < n = omega (arith, c.loop-k-test.true, c.count-k-end.ensures) in
    let below : f c.loop-k.k < 2 ^ 64 = each-fits f n c.requires c.loop-k.k inside in
    let size : c.unwrap_or.result ≡ f c.loop-k.k = c.unwrap_or.ensures ∙ ap (λ (o : Option ℕ). unwrap_or o 0) (c.size.ensures ∙ if_fits-below _ below) in
    c.in_ok-push.ensures.items
    ∙ ap (λ xs. xs ++ c.unwrap_or.result ∷ []) c.loop-k.invariant
    ∙ ap (λ m. map f (range_with_len 0 c.loop-k.k) ++ m ∷ []) size
    ∙ sym (map-range_with_len_more f 0 c.loop-k.k c.loop-k.k (omega arith))

pub returns : goal.returns
returns g c =
    let f : ℕ → ℕ = size_of g.R.Records.texts g.R.Records.columns c.args.self.now c.args.axis in
    let all : c.loop-k.k ≡ count_of g.R.Records.texts g.R.Records.columns c.args.self.now c.args.axis = omega (arith, c.loop-k-test.false, c.loop-k.auto.k-end, c.count-k-end.ensures) in
    c.loop-k.invariant ∙ ap (λ n. map f (range_with_len 0 n)) all

use Rattle.std.proofs.Common.{◌≡◌, ℕ, ◌++◌, ◌∷◌, [], List, map, length, sym, ap, ◌∙◌, arith}
use Rattle.std.specs.List.{range_with_len}
use Rattle.std.proofs.lemmas.List.FromFn.{map-range_with_len_more}
use Rattle.pg_layout.specs.Records.{text_at}
use Rattle.pg_table.specs.Spanning.{singles_width, least_cell_width}
use Rattle.pg_table.proofs.sizes.NaturalSizes.least_singles.Goals as goal

pub loop-column-preserved : goal.loop-column-preserved
loop-column-preserved g c =
    let self = c.args.self.now in
    let texts = g.R.Records.texts self.records in
    let f : ℕ → ℕ = singles_width self.config.now (length texts) (g.R.Records.columns self.records) (least_cell_width c.args.how self.config.now (text_at texts)) in
    let k : ℕ = c.loop-column.column in
    c.in_ok-push-in-Some.ensures.items
    ∙ ap (λ (xs : List ℕ). xs ++ c.in-Some.width ∷ []) c.loop-column.invariant
    ∙ ap (λ (m : ℕ). map f (range_with_len 0 k) ++ m ∷ []) c.in-Some.ensures.width
    ∙ sym (map-range_with_len_more f 0 k k (omega arith))

pub returns-clause-widths : goal.returns-clause-widths
returns-clause-widths g c =
    let self = c.args.self.now in
    let texts = g.R.Records.texts self.records in
    let all : c.loop-column.column ≡ g.R.Records.columns self.records = omega (arith, c.loop-column-test.false, c.loop-column.auto.column-end, c.count-column-end.ensures) in
    c.loop-column.invariant ∙ ap (λ n. map (singles_width self.config.now (length texts) (g.R.Records.columns self.records) (least_cell_width c.args.how self.config.now (text_at texts))) (range_with_len 0 n)) all
